-- No byte of a backup's path is 0.
use Rattle.std.proofs.Common.{List, Result, Ok, Err, IfOk, ℕ, sym, subst, ◌≡◌}
use Rattle.lilo_model.specs.NamePlaces.{default_backup}
use Rattle.mbr_table.specs.View.{device_view}
use Rattle.minix_names.specs.Component.{HasNoZero}
use Rattle.install_apart.proofs.NoZeroLemmas.{default-some}
use Rattle.install_apart.proofs.backup.backup_path.Goals as goal

by-path : {F : Type 0} (result : Result (List ℕ) F) (path : List ℕ) → HasNoZero path → IfOk result (λ text. text ≡ path) → IfOk result HasNoZero
by-path (Ok text) path none is = subst HasNoZero (sym is) none
by-path (Err fault) path none is = tt

pub returns-in-None-None-clause-called : goal.returns-in-None-None-clause-called
returns-in-None-None-clause-called c = λ one other.
    by-path c.default_backup.result (default_backup (device_view c.args.device)) (default-some (device_view c.args.device)) c.default_backup.ensures
