-- What is staged, by what was chosen.
use Rattle.std.proofs.Common.{◌≡◌, false, Option, Some, Ok, Err, rules, subst}
use Rattle.std.specs.Prelude.{IfSome}
use Rattle.minix_create.specs.Chosen.{Suits}
use Rattle.minix_create.specs.declared.chosen.Chosen.{Chosen}
use Rattle.install_room.specs.Names.{backup_of}
use Rattle.install_room.specs.Room.{HasNoHole, IsForBackup}
use Rattle.install_settle.proofs.SettleLemmas.{if_ok_map, if_err_map}
use Rattle.install_stage.proofs.CopyLemmas.{IsForFile}
use Rattle.install_stage.proofs.FileLemmas.{one-block}
use Rattle.install_stage.proofs.BackupStageLemmas.{for-file, not-forced, sized-by, stages-asked, stages-refused, stages-unasked}
use Rattle.install_stage.proofs.backup_stage.stage_backup.Goals as goal
use Rattle.install_stage.proofs.backup_stage.stage_backup.Goals.{in_default-via-in-Some-pair+else-forced, in_default-via-in_default}

pub make_backup-requires-clause-one : goal.make_backup-requires-clause-one
make_backup-requires-clause-one g c =
    let some : c.args.backup ≡ Some c.in-Some.chosen = search rules in
    let named = subst (IsForBackup (backup_of c.args.forced c.args.pair.now) c.requires.wished.time) some c.requires.wished.is in
    let sized = sized-by (backup_of c.args.forced c.args.pair.now) c.requires.wished.time c.in-Some.chosen named in
    one-block c.in-Some.chosen sized.0 sized.1 c.args.volume.layout c.args.volume.span
    (subst (λ (b : Option Chosen). IfSome b (Suits c.args.volume.layout c.args.volume.span)) some c.requires.suits)

pub returns-in-Some-pair-clause-staged : goal.returns-in-Some-pair-clause-staged
returns-in-Some-pair-clause-staged g c =
    let some : c.args.backup ≡ Some c.in-Some.chosen = search rules in
    if_ok_map c.replace_backup.result _ _ (λ new staged.
    stages-asked c.args.volume new c.in-Some.chosen c.args.backup c.args.forced c.args.present.now (Ok tt) some c.if-forced.true staged) c.replace_backup.ensures.staged

pub returns-in-Some-pair-clause-halted : goal.returns-in-Some-pair-clause-halted
returns-in-Some-pair-clause-halted g c =
    let some : c.args.backup ≡ Some c.in-Some.chosen = search rules in
    if_err_map c.replace_backup.result _ _ (λ halt staged.
    stages-asked c.args.volume halt.volume c.in-Some.chosen c.args.backup c.args.forced c.args.present.now (Err halt.fault) some c.if-forced.true staged) c.replace_backup.ensures.halted

pub returns-in_default-clause-staged : goal.returns-in_default-clause-staged
returns-in_default-clause-staged g c =
    let some : c.args.backup ≡ Some c.in-Some.chosen = search rules in
    let named = subst (IsForBackup (backup_of c.args.forced c.args.pair.now) c.requires.wished.time) some c.requires.wished.is in
    let sized = sized-by (backup_of c.args.forced c.args.pair.now) c.requires.wished.time c.in-Some.chosen named in
    let is : IsForFile c.args.volume c.in-Some.chosen c.args.present.now = for-file c.args.volume c.in-Some.chosen c.args.present.now
    (subst (λ (b : Option Chosen). IfSome b (Suits c.args.volume.layout c.args.volume.span)) some c.requires.suits)
    (λ told. subst (λ (b : Option Chosen). IfSome b HasNoHole) some (c.requires.holes told)) sized c.told-present in
    let not : c.args.forced ≡ false = elim c.in_default.branch [
      | in_default-via-in-Some-pair+else-forced w ↦ w.if-forced.false
      | in_default-via-in_default w ↦ not-forced c.args.forced c.args.pair.now c.requires.wished.time c.in-Some.chosen named w.in_default.is
    ] in
    if_ok_map c.make_backup.result _ _ (λ new made path may.
    stages-unasked c.args.volume new c.in-Some.chosen c.args.backup c.args.forced c.args.present.now is c.requires.quiet some path may not made.creates) c.make_backup.ensures.made

pub returns-in_default-clause-halted : goal.returns-in_default-clause-halted
returns-in_default-clause-halted g c =
    let some : c.args.backup ≡ Some c.in-Some.chosen = search rules in
    let named = subst (IsForBackup (backup_of c.args.forced c.args.pair.now) c.requires.wished.time) some c.requires.wished.is in
    let sized = sized-by (backup_of c.args.forced c.args.pair.now) c.requires.wished.time c.in-Some.chosen named in
    let is : IsForFile c.args.volume c.in-Some.chosen c.args.present.now = for-file c.args.volume c.in-Some.chosen c.args.present.now
    (subst (λ (b : Option Chosen). IfSome b (Suits c.args.volume.layout c.args.volume.span)) some c.requires.suits)
    (λ told. subst (λ (b : Option Chosen). IfSome b HasNoHole) some (c.requires.holes told)) sized c.told-present in
    if_err_map c.make_backup.result _ _ (λ halt made path may.
    stages-refused c.args.volume halt.volume c.in-Some.chosen c.args.backup c.args.forced c.args.present.now is c.requires.quiet some path may halt.fault made.creates) c.make_backup.ensures.halted
