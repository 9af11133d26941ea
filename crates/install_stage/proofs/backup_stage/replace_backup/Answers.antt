-- The file is made, then renamed.
use Rattle.std.proofs.Common.{◌≡◌, ℕ, List, true, Ok, Err, rules, subst}
use Rattle.minix_remove.specs.Renamed.{Renames}
use Rattle.minix_zones.specs.Volume.{faults_of}
use Rattle.install_settle.proofs.SettleLemmas.{cause-by, if_ok_map, if_err_map}
use Rattle.install_stage.proofs.CopyLemmas.{IsForFile, stages-halted}
use Rattle.install_stage.proofs.FileLemmas.{of-file, one-block}
use Rattle.install_stage.proofs.BackupStageLemmas.{for-file, inside-mid, later-mid, directory-mid, stages-renamed}
use Rattle.install_stage.proofs.backup_stage.replace_backup.Goals as goal

pub make_backup-requires-clause-file : goal.make_backup-requires-clause-file
make_backup-requires-clause-file g c = of-file c.args.chosen c.requires.wished.1.mode

pub make_backup-requires-clause-one : goal.make_backup-requires-clause-one
make_backup-requires-clause-one g c = one-block c.args.chosen c.requires.wished.1.mode c.requires.wished.1.size c.args.volume.layout c.args.volume.span c.requires.suits

pub make_backup-requires-clause-free : goal.make_backup-requires-clause-free
make_backup-requires-clause-free g c told = (c.requires.may told).may.make.free

pub returns-in_err-volume-clause-halted : goal.returns-in_err-volume-clause-halted
returns-in_err-volume-clause-halted g c =
    let halt = c.in_err-volume.field-0.0 in
    let given : c.from_residual.result ≡ Err halt = search rules in
    let is : IsForFile c.args.volume c.args.chosen c.args.present.now = for-file c.args.volume c.args.chosen c.args.present.now c.requires.suits c.requires.holes (c.requires.wished.1.mode, c.requires.wished.1.size) c.told-present in
    rw given (λ path may. stages-halted c.args.volume halt.volume c.args.chosen true path c.args.present.now is c.requires.quiet may halt.fault c.in_err-volume.ensures.halted.creates)

pub replace_name-requires-clause-there : goal.replace_name-requires-clause-there
replace_name-requires-clause-there g c =
    let is : IsForFile c.args.volume c.args.chosen c.args.present.now = for-file c.args.volume c.args.chosen c.args.present.now c.requires.suits c.requires.holes (c.requires.wished.1.mode, c.requires.wished.1.size) c.told-present in
    inside-mid c.args.volume c.in_ok-volume.volume c.args.chosen c.args.present.now is c.requires.quiet c.requires.may c.in_ok-volume.ensures.made.creates c.args.pair.now.tilde.directory c.requires.inside.1.1

pub replace_name-requires-clause-may : goal.replace_name-requires-clause-may
replace_name-requires-clause-may g c =
    let is : IsForFile c.args.volume c.args.chosen c.args.present.now = for-file c.args.volume c.args.chosen c.args.present.now c.requires.suits c.requires.holes (c.requires.wished.1.mode, c.requires.wished.1.size) c.told-present in
    directory-mid c.args.volume c.in_ok-volume.volume c.args.chosen c.args.present.now is c.requires.quiet c.requires.may c.in_ok-volume.ensures.made.creates
    c.args.pair.now c.requires.twins c.requires.wished.0 c.requires.wished.1 c.in_ok-volume.ensures.made.quiet

pub returns-clause-staged : goal.returns-clause-staged
returns-clause-staged g c =
    let is : IsForFile c.args.volume c.args.chosen c.args.present.now = for-file c.args.volume c.args.chosen c.args.present.now c.requires.suits c.requires.holes (c.requires.wished.1.mode, c.requires.wished.1.size) c.told-present in
    if_ok_map c.replace_name.result _ _ (λ new renames.
    let R : List ℕ → List ℕ → Type 0 = λ from to. Renames c.in_ok-volume.volume new c.args.pair.now.tilde.directory from to (Ok tt) in
    stages-renamed c.args.volume c.in_ok-volume.volume c.args.chosen c.args.present.now is c.requires.quiet c.requires.may c.in_ok-volume.ensures.made.creates
    c.args.pair.now c.requires.twins c.requires.wished.0 c.requires.wished.1 c.in_ok-volume.ensures.made.quiet new (Ok tt)
    (subst (λ (from : List ℕ). R from c.args.pair.now.plain.name) c.bytes-from.ensures (subst (R c.bytes-from.result.now) c.bytes.ensures renames))) c.replace_name.ensures.renamed

pub returns-clause-halted : goal.returns-clause-halted
returns-clause-halted g c =
    let is : IsForFile c.args.volume c.args.chosen c.args.present.now = for-file c.args.volume c.args.chosen c.args.present.now c.requires.suits c.requires.holes (c.requires.wished.1.mode, c.requires.wished.1.size) c.told-present in
    if_err_map c.replace_name.result _ _ (λ halt renames.
    let R : List ℕ → List ℕ → Type 0 = λ from to. Renames c.in_ok-volume.volume halt.volume c.args.pair.now.tilde.directory from to (Err halt.fault) in
    stages-renamed c.args.volume c.in_ok-volume.volume c.args.chosen c.args.present.now is c.requires.quiet c.requires.may c.in_ok-volume.ensures.made.creates
    c.args.pair.now c.requires.twins c.requires.wished.0 c.requires.wished.1 c.in_ok-volume.ensures.made.quiet halt.volume (Err halt.fault)
    (subst (λ (from : List ℕ). R from c.args.pair.now.plain.name) c.bytes-from.ensures (subst (R c.bytes-from.result.now) c.bytes.ensures renames))) c.replace_name.ensures.halted

pub returns-clause-cause : goal.returns-clause-cause
returns-clause-cause g c =
    let is : IsForFile c.args.volume c.args.chosen c.args.present.now = for-file c.args.volume c.args.chosen c.args.present.now c.requires.suits c.requires.holes (c.requires.wished.1.mode, c.requires.wished.1.size) c.told-present in
    if_err_map c.replace_name.result _ _ (λ halt cause.
    cause-by (faults_of c.args.volume) (faults_of c.in_ok-volume.volume) (faults_of halt.volume) halt.fault
    (later-mid c.args.volume c.in_ok-volume.volume c.args.chosen c.args.present.now is c.requires.quiet c.requires.may c.in_ok-volume.ensures.made.creates) cause) c.replace_name.ensures.cause
