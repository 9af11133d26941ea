-- The map's step, then the copy's.
use Rattle.std.proofs.Common.{◌≡◌, ◌≤◌, Bool, true, false, Option, Some, Ok, Err, rules, sym, subst}
use Rattle.minix_layout.specs.declared.superblock.Super.{Super}
use Rattle.minix_zones.specs.Volume.{faults_of}
use Rattle.install_apart.specs.Own.{IsBackupInside}
use Rattle.install_apart.specs.declared.name.NamePair.{NamePair}
use Rattle.install_settle.specs.Found.{IsCopyLeft}
use Rattle.install_settle.proofs.SettleLemmas.{if_ok_map, if_err_map, settles_refused, settles_map, settles_all, copy_somewhere, cause_then, layout_then}
use Rattle.install_settle.proofs.settlement.settle_quiet.Goals as goal
use Rattle.install_settle.proofs.settlement.settle_quiet.Goals.{in_default-via-in-Some+else-settling, in_default-via-in_default}

pub returns-in_err-volume-clause-halted : goal.returns-in_err-volume-clause-halted
returns-in_err-volume-clause-halted g c =
    let given : c.from_residual.result ≡ Err (c.in_err-volume.field-0.0) = search rules in
    rw given (λ names forced may.
    settles_refused c.args.volume c.in_err-volume.field-0.0.volume names forced c.args.settling c.args.own.now c.requires.files c.requires.left c.requires.quiet may c.in_err-volume.field-0.0.fault
    (c.in_err-volume.ensures.halted names.map (λ told. (may told).found.map)))

pub remove_name-requires-clause-inside : goal.remove_name-requires-clause-inside
remove_name-requires-clause-inside g c =
    let some : c.args.own.now.backup ≡ Some c.in-Some.pair = search rules in
    let inside = subst (IsBackupInside c.args.volume.layout) some c.requires.inside.1 in
    let layout = layout_then c.args.volume c.in_ok-volume.volume c.args.own.now c.args.settling.map c.requires.found c.in_ok-volume.ensures.settled in
    subst (λ (layout : Super). (1 ≤ c.in-Some.pair.tilde.directory) × (c.in-Some.pair.tilde.directory ≤ layout.inodes)) (sym layout) inside.1

copy-there : (pair : NamePair) (copy : Bool) → copy ≡ true → IsCopyLeft (Some pair) copy → IsCopyLeft (Some pair) true
copy-there pair copy is left = subst (IsCopyLeft (Some pair)) is left

pub remove_name-requires-clause-somewhere : goal.remove_name-requires-clause-somewhere
remove_name-requires-clause-somewhere g c =
    let some : c.args.own.now.backup ≡ Some c.in-Some.pair = search rules in
    let copy : c.args.settling.copy ≡ true = search rules in
    let there = copy-there c.in-Some.pair c.args.settling.copy copy (subst (λ (backup : Option NamePair). IsCopyLeft backup c.args.settling.copy) some c.requires.copy) in
    copy_somewhere c.args.volume c.in_ok-volume.volume c.args.settling c.args.own.now c.requires.files c.requires.left c.requires.quiet c.requires.found copy c.in-Some.pair some there c.in_ok-volume.ensures.settled

pub returns-in-Some-clause-settled : goal.returns-in-Some-clause-settled
returns-in-Some-clause-settled g c =
    let some : c.args.own.now.backup ≡ Some c.in-Some.pair = search rules in
    let copy : c.args.settling.copy ≡ true = search rules in
    let there = copy-there c.in-Some.pair c.args.settling.copy copy (subst (λ (backup : Option NamePair). IsCopyLeft backup c.args.settling.copy) some c.requires.copy) in
    if_ok_map c.remove_name.result _ _ (λ new removes names forced may.
    settles_all c.args.volume c.in_ok-volume.volume names forced c.args.settling c.args.own.now c.requires.files c.requires.left c.requires.quiet may
    (c.in_ok-volume.ensures.settled names.map (λ told. (may told).found.map)) copy c.in-Some.pair some there new (Ok tt) removes) c.remove_name.ensures.removed

pub returns-in-Some-clause-halted : goal.returns-in-Some-clause-halted
returns-in-Some-clause-halted g c =
    let some : c.args.own.now.backup ≡ Some c.in-Some.pair = search rules in
    let copy : c.args.settling.copy ≡ true = search rules in
    let there = copy-there c.in-Some.pair c.args.settling.copy copy (subst (λ (backup : Option NamePair). IsCopyLeft backup c.args.settling.copy) some c.requires.copy) in
    if_err_map c.remove_name.result _ _ (λ halt removes names forced may.
    settles_all c.args.volume c.in_ok-volume.volume names forced c.args.settling c.args.own.now c.requires.files c.requires.left c.requires.quiet may
    (c.in_ok-volume.ensures.settled names.map (λ told. (may told).found.map)) copy c.in-Some.pair some there halt.volume (Err halt.fault) removes) c.remove_name.ensures.halted

pub returns-in-Some-clause-cause : goal.returns-in-Some-clause-cause
returns-in-Some-clause-cause g c = if_err_map c.remove_name.result _ _ (λ halt cause.
    cause_then c.args.volume c.in_ok-volume.volume c.args.own.now c.args.settling.map c.requires.found c.in_ok-volume.ensures.settled (faults_of halt.volume) halt.fault cause) c.remove_name.ensures.cause

pub returns-in_default-clause-settled : goal.returns-in_default-clause-settled
returns-in_default-clause-settled g c =
    let copy : c.args.settling.copy ≡ false = elim c.in_default.branch [
      | in_default-via-in-Some+else-settling w ↦ w.if-settling.false
      | in_default-via-in_default w ↦ subst (λ (backup : Option NamePair). IsCopyLeft backup c.args.settling.copy) w.in_default.is c.requires.copy
    ] in
    λ names forced may.
    settles_map c.args.volume c.in_ok-volume.volume names forced c.args.settling c.args.own.now c.requires.files c.requires.left c.requires.quiet may
    (c.in_ok-volume.ensures.settled names.map (λ told. (may told).found.map)) copy
