-- What is at a name in Names that are settled, staged or tidied.
use Rattle.std.proofs.Common.{◌≡◌, ◌≢◌, ◌⊎◌, ℕ, Bool, true, false, if◌then◌else◌, inl, inr, List, Option, None, Some, refl, sym, ◌∙◌}
use Rattle.std.specs.Prelude.{IfSome}
use Rattle.lilo_model.specs.Disks.{Image}
use Rattle.lilo_model.specs.MinixFindNames.{Names}
use Rattle.lilo_model.specs.MinixNames.{File, Thing, names_in}
use Rattle.lilo_model.specs.MinixParts.{Volume}
use Rattle.lilo_model.specs.NamePlaces.{same_path, with_name, with_tilde, without_name}
use Rattle.lilo_model.specs.Settled.{settled, without_stale}
use Rattle.minix_names.proofs.PathLemmas.{name-here, name-other, path-same, same-not}
use Rattle.install_stage.specs.BackupStaged.{AreStaging, made_at, with_backup}
use Rattle.install_stage.specs.Stages.{AreStagingBackup, with_backup_made, with_room}

-- a name other than one that is away is as before
pub without-other : (gone name : List (List ℕ)) (at : Names) → name ≢ gone → without_name gone at name ≡ at name
without-other gone name at apart = rw (same-not gone name (λ same. apart (sym same))) refl

pub without-here : (gone : List (List ℕ)) (at : Names) → without_name gone at gone ≡ None
without-here gone at = rw (path-same gone) refl

pub with-other : (path name : List (List ℕ)) (thing : Option Thing) (at : Names) → name ≢ path → with_name path thing at name ≡ at name
with-other path name thing at apart = name-other path name thing at (λ same. apart (sym same))

-- ---- settled

-- a name isn't that of a stale copy
abbrev pub IsNoStale : Option (List (List ℕ)) → List (List ℕ) → Type 0
IsNoStale stale name = IfSome stale (λ backup. name ≢ with_tilde backup)

pub stale-other : (stale : Option (List (List ℕ))) (at : Names) (name : List (List ℕ)) → IsNoStale stale name → without_stale stale at name ≡ at name
stale-other None at name apart = refl
stale-other (Some backup) at name apart = without-other (with_tilde backup) name at apart

-- Names without the stale copy
abbrev pub plainly : Bool → List (List ℕ) → Names → Names
plainly finishes map old = without_name (with_tilde map) (if finishes then with_name map (old (with_tilde map)) old else old)

plainly-beside : (finishes : Bool) (map : List (List ℕ)) (old : Names) (name : List (List ℕ)) → name ≢ map → name ≢ with_tilde map → plainly finishes map old name ≡ old name
plainly-beside true map old name other tilde =
    without-other (with_tilde map) name (with_name map (old (with_tilde map)) old) tilde ∙ with-other map name (old (with_tilde map)) old other
plainly-beside false map old name other tilde = without-other (with_tilde map) name old tilde

-- what settling doesn't change is as before
pub settled-beside : (finishes : Bool) (map : List (List ℕ)) (stale : Option (List (List ℕ))) (old : Names) (name : List (List ℕ)) → name ≢ map → name ≢ with_tilde map → IsNoStale stale name
    → settled finishes map stale old name ≡ old name
settled-beside finishes map stale old name other tilde apart = stale-other stale (plainly finishes map old) name apart ∙ plainly-beside finishes map old name other tilde

-- where a rename is finished, what was at `map~` is at `map`
pub finished-map : (map : List (List ℕ)) (stale : Option (List (List ℕ))) (old : Names) → map ≢ with_tilde map → IsNoStale stale map → settled true map stale old map ≡ old (with_tilde map)
finished-map map stale old own apart =
    stale-other stale (plainly true map old) map apart
    ∙ (without-other (with_tilde map) map (with_name map (old (with_tilde map)) old) own ∙ name-here map (old (with_tilde map)) old)

-- nothing is at `map~`, nor at a stale copy's name
pub settled-tilde : (finishes : Bool) (map : List (List ℕ)) (stale : Option (List (List ℕ))) (old : Names) → settled finishes map stale old (with_tilde map) ≡ None
settled-tilde finishes map stale old = by stale
  where
    here : plainly finishes map old (with_tilde map) ≡ None
    here = without-here (with_tilde map) (if finishes then with_name map (old (with_tilde map)) old else old)

    by : (stale : Option (List (List ℕ))) → without_stale stale (plainly finishes map old) (with_tilde map) ≡ None
    by None = here
    by (Some backup) = at (same_path (with_tilde backup) (with_tilde map))
      where
        at : (same : Bool) → (if same then None else plainly finishes map old (with_tilde map)) ≡ None
        at true = refl
        at false = here

-- ---- staged

-- a name is none that a backup takes, where one is made
abbrev pub IsNoBackup : Bool → Option (List (List ℕ)) → List (List ℕ) → Type 0
IsNoBackup forced backup name = IfSome backup (λ path. (name ≢ path) × (forced ≡ true → name ≢ with_tilde path))

backup-other : (forced : Bool) (path : List (List ℕ)) (present : List ℕ) (old : Names) (name : List (List ℕ)) → name ≢ path → (forced ≡ true → name ≢ with_tilde path)
    → with_backup forced path present old name ≡ old name
backup-other true path present old name other tilde =
    without-other (with_tilde path) name (with_name path (Some (File present)) old) (tilde refl) ∙ with-other path name (Some (File present)) old other
backup-other false path present old name other tilde = with-other path name (Some (File present)) old other

made-other : (forced : Bool) (path name : List (List ℕ)) → name ≢ path → (forced ≡ true → name ≢ with_tilde path) → name ≢ made_at forced path
made-other true path name other tilde = tilde refl
made-other false path name other tilde = other

-- the backup is there
pub backup-here : (forced : Bool) (path : List (List ℕ)) (present : List ℕ) (old : Names) → path ≢ with_tilde path → with_backup forced path present old path ≡ Some (File present)
backup-here true path present old own =
    without-other (with_tilde path) path (with_name path (Some (File present)) old) own ∙ name-here path (Some (File present)) old
backup-here false path present old own = name-here path (Some (File present)) old

made-backup-other : (forced : Bool) (backup : Option (List (List ℕ))) (present : List ℕ) (old : Names) (name : List (List ℕ)) → IsNoBackup forced backup name
    → with_backup_made forced backup present old name ≡ old name
made-backup-other forced None present old name apart = refl
made-backup-other forced (Some path) present old name apart = backup-other forced path present old name apart.0 apart.1

pub room-other : (forced : Bool) (backup : Option (List (List ℕ))) (present : List ℕ) (map : List (List ℕ)) (bytes : List ℕ) (old : Names) (name : List (List ℕ)) → name ≢ with_tilde map
    → IsNoBackup forced backup name → with_room forced backup present map bytes old name ≡ old name
room-other forced backup present map bytes old name tilde apart =
    with-other (with_tilde map) name (Some (File bytes)) (with_backup_made forced backup present old) tilde ∙ made-backup-other forced backup present old name apart

pub room-backup : (forced : Bool) (path : List (List ℕ)) (present : List ℕ) (map : List (List ℕ)) (bytes : List ℕ) (old : Names) → path ≢ with_tilde map → path ≢ with_tilde path
    → with_room forced (Some path) present map bytes old path ≡ Some (File present)
room-backup forced path present map bytes old tilde own =
    with-other (with_tilde map) path (Some (File bytes)) (with_backup forced path present old) tilde ∙ backup-here forced path present old own

-- nothing is at a forced backup's name with `~`
pub room-copy : (path : List (List ℕ)) (present : List ℕ) (map : List (List ℕ)) (bytes : List ℕ) (old : Names) → with_tilde path ≢ with_tilde map
    → with_room true (Some path) present map bytes old (with_tilde path) ≡ None
room-copy path present map bytes old tilde =
    with-other (with_tilde map) (with_tilde path) (Some (File bytes)) (with_backup true path present old) tilde
    ∙ without-here (with_tilde path) (with_name path (Some (File present)) old)

pub room-map : (forced : Bool) (backup : Option (List (List ℕ))) (present : List ℕ) (map : List (List ℕ)) (bytes : List ℕ) (old : Names)
    → with_room forced backup present map bytes old (with_tilde map) ≡ Some (File bytes)
room-map forced backup present map bytes old = name-here (with_tilde map) (Some (File bytes)) (with_backup_made forced backup present old)

-- on the way to a backup, a name that it doesn't take is as before, and its own is so or has it
module _ (volume : Volume) (image : Image) (forced : Bool) (present : List ℕ) (c : Image) where
  abbrev Old : Names
  Old = names_in volume image

  staging-at : (path name : List (List ℕ)) → AreStaging volume image forced path present c → name ≢ path → (forced ≡ true → name ≢ with_tilde path) → names_in volume c name ≡ Old name
  staging-at path name (inl has) other tilde = has name
  staging-at path name (inr (inl has)) other tilde = has name ∙ with-other (made_at forced path) name (Some (File present)) Old (made-other forced path name other tilde)
  staging-at path name (inr (inr (inl both))) other tilde =
      both.1 name ∙ (with-other path name (Some (File present)) (with_name (with_tilde path) (Some (File present)) Old) other ∙ with-other (with_tilde path) name (Some (File present)) Old (tilde both.0))
  staging-at path name (inr (inr (inr alone))) other tilde = alone.1 name ∙ backup-other forced path present Old name other tilde

  pub staging-other : (backup : Option (List (List ℕ))) (name : List (List ℕ)) → AreStagingBackup volume image forced backup present c → IsNoBackup forced backup name → names_in volume c name ≡ Old name
  staging-other None name has apart = has name
  staging-other (Some path) name has apart = staging-at path name has apart.0 apart.1

  abbrev IsOldOrMade : List (List ℕ) → Type 0
  IsOldOrMade path = (names_in volume c path ≡ Old path) ⊎ (names_in volume c path ≡ Some (File present))

  made-here : (made : Bool) (path : List (List ℕ)) → path ≢ with_tilde path
      → (with_name (made_at made path) (Some (File present)) Old path ≡ Old path) ⊎ (with_name (made_at made path) (Some (File present)) Old path ≡ Some (File present))
  made-here true path own = inl (with-other (with_tilde path) path (Some (File present)) Old own)
  made-here false path own = inr (name-here path (Some (File present)) Old)

  pub staging-backup : (path : List (List ℕ)) → AreStaging volume image forced path present c → path ≢ with_tilde path → IsOldOrMade path
  staging-backup path (inl has) own = inl (has path)
  staging-backup path (inr (inl has)) own = by (made-here forced path own)
    where
      by : (with_name (made_at forced path) (Some (File present)) Old path ≡ Old path) ⊎ (with_name (made_at forced path) (Some (File present)) Old path ≡ Some (File present)) → IsOldOrMade path
      by (inl same) = inl (has path ∙ same)
      by (inr made) = inr (has path ∙ made)
  staging-backup path (inr (inr (inl both))) own = inr (both.1 path ∙ name-here path (Some (File present)) (with_name (with_tilde path) (Some (File present)) Old))
  staging-backup path (inr (inr (inr alone))) own = inr (alone.1 path ∙ backup-here forced path present Old own)
