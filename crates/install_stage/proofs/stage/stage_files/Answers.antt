-- The backup is staged, then the map is made.
use Rattle.std.proofs.Common.{◌≡◌, Err, rules}
use Rattle.minix_zones.specs.Volume.{faults_of}
use Rattle.install_settle.proofs.SettleLemmas.{cause-by, if_err_map}
use Rattle.install_stage.proofs.StageLemmas.{may-backup, path-of, later-mid, suits-mid, free-mid, stages-ok, stages-err, stages-refused}
use Rattle.install_stage.proofs.stage.stage_files.Goals as goal

pub stage_backup-requires-clause-may : goal.stage_backup-requires-clause-may
stage_backup-requires-clause-may g c told =
    let is = c.requires.may told in
    record { path = path-of is.backup; may = may-backup c.args.volume is.backup is.map c.args.forced c.args.room.backup c.args.room.map is.may.backup_may }

pub returns-in_err-volume-clause-halted : goal.returns-in_err-volume-clause-halted
returns-in_err-volume-clause-halted g c =
    let halt = c.in_err-volume.field-0.0 in
    let given : c.from_residual.result ≡ Err halt = search rules in
    rw given (λ machine backup path may.
    stages-refused c.args.volume halt.volume c.args.forced c.args.present.now c.args.plan.now c.args.room c.requires.suits.map c.requires.mode c.requires.quiet c.requires.may
    halt.fault c.in_err-volume.ensures.halted machine backup path may)

pub make_map-requires-clause-suits : goal.make_map-requires-clause-suits
make_map-requires-clause-suits g c =
    suits-mid c.args.volume c.in_ok-volume.volume c.args.forced c.args.present.now c.args.plan.now c.args.room c.requires.suits.map c.requires.mode c.requires.quiet c.requires.may
    c.in_ok-volume.ensures.staged

pub make_map-requires-clause-free : goal.make_map-requires-clause-free
make_map-requires-clause-free g c =
    free-mid c.args.volume c.in_ok-volume.volume c.args.forced c.args.present.now c.args.plan.now c.args.room c.requires.suits.map c.requires.mode c.requires.quiet c.requires.may
    c.in_ok-volume.ensures.staged

pub returns-clause-staged : goal.returns-clause-staged
returns-clause-staged g c =
    stages-ok c.args.volume c.in_ok-volume.volume c.args.forced c.args.present.now c.args.plan.now c.args.room c.requires.suits.map c.requires.mode c.requires.quiet c.requires.may
    c.in_ok-volume.ensures.staged c.make_map.result c.deref.result.now c.deref.ensures.value c.make_map.ensures.made

pub returns-clause-halted : goal.returns-clause-halted
returns-clause-halted g c =
    stages-err c.args.volume c.in_ok-volume.volume c.args.forced c.args.present.now c.args.plan.now c.args.room c.requires.suits.map c.requires.mode c.requires.quiet c.requires.may
    c.in_ok-volume.ensures.staged c.make_map.result c.deref.result.now c.deref.ensures.value c.make_map.ensures.halted

pub returns-clause-cause : goal.returns-clause-cause
returns-clause-cause g c =
    if_err_map c.make_map.result _ _ (λ halt cause.
    cause-by (faults_of c.args.volume) (faults_of c.in_ok-volume.volume) (faults_of halt.volume) halt.fault
    (later-mid c.args.volume c.in_ok-volume.volume c.args.forced c.args.present.now c.args.plan.now c.args.room c.requires.suits.map c.requires.mode c.requires.quiet c.requires.may
    c.in_ok-volume.ensures.staged) cause) c.make_map.ensures.cause
