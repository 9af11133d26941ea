-- An image of the staging of both files, by what the two stagings leave.
use Rattle.std.proofs.Common.{◌≡◌, ◌≢◌, ℕ, Bool, true, false, List, Option, None, Some, refl, sym, ◌∙◌, subst, inl, inr, ◌⊎◌, ⊎_elim}
use Rattle.lilo_model.specs.Disks.{Image}
use Rattle.lilo_model.specs.MinixNames.{Thing, File, names_in, reached, IsSound}
use Rattle.lilo_model.specs.MinixParts.{Volume, parts_of}
use Rattle.lilo_model.specs.NamePlaces.{with_tilde}
use Rattle.minix_change_laws.specs.Beside.{NamedIn}
use Rattle.minix_change_laws.specs.Sees.{SeenAsIn}
use Rattle.minix_change_laws.specs.Tree.{TreeAs}
use Rattle.minix_change_laws.proofs.Seen.{opened}
use Rattle.minix_change_laws.proofs.Tree.{sees_tree_law, tree_named_law}
use Rattle.minix_turns.specs.Joined.{SeenOrWith}
use Rattle.install_stage.specs.BackupStaged.{with_backup, AreStaging, IsStaging}
use Rattle.install_stage.specs.Named.{HasNamesBut}
use Rattle.install_settle.specs.Settles.{HasNames}
use Rattle.install_settle.proofs.NamesLemmas.{with-as}
use Rattle.install_stage_laws.proofs.Clear.{keeps_but_joined_law}
use Rattle.install_stage.specs.MapFile.{HasMapOrNot}
use Rattle.install_stage.specs.Stages.{with_room, AreStagingBackup, IsStagingRoom}

-- a staged backup is one on its way
with-backup : (volume : Volume) (old c : Image) (forced : Bool) (path : List (List ℕ)) (present : List ℕ)
    → HasNames volume c (with_backup forced path present (names_in volume old)) → AreStaging volume old forced path present c
with-backup volume old c true path present has = inr (inr (inr (refl, has)))
with-backup volume old c false path present has = inr (inl has)

-- ---- where paths lead once one changed

module _ (volume : Volume) (Then c : Image) (at : List (List ℕ)) (found : Option ℕ) (what : Option Thing) (sound : IsSound volume Then) where
  as-then : SeenAsIn volume Then c → TreeAs volume.layout (parts_of volume Then) (parts_of volume c)
  as-then seen = sees_tree_law volume.layout (parts_of volume Then) (parts_of volume c) (opened volume Then sound).parts seen.sees

  -- another leads where it led
  pub others-lead : SeenOrWith volume Then at found what c → (name : List (List ℕ)) → name ≢ at
      → reached volume.layout (parts_of volume c) name ≡ reached volume.layout (parts_of volume Then) name
  others-lead (inl seen) name other = (as-then seen).leads name
  others-lead (inr made) name other = made.tree.others name other

  -- what has a name had one, or is what is found
  pub named-then : SeenOrWith volume Then at found what c → (number : ℕ) → NamedIn volume c number → NamedIn volume Then number ⊎ (found ≡ Some number)
  named-then (inl seen) number now = inl (record { path = now.path; leads = sym ((as-then seen).leads now.path) ∙ now.leads })
  named-then (inr made) number now = tree_named_law volume.layout (parts_of volume Then) (parts_of volume c) at found what number made.tree now

-- an inode that wasn't marked had no name
unmarked : (volume : Volume) (old : Image) (inode number : ℕ) → IsSound volume old → (parts_of volume old).has_inode inode ≡ false → NamedIn volume old number → Some inode ≢ Some number
unmarked volume old inode number sound free was same =
    let is : inode ≡ number = cc in
    let marked : (parts_of volume old).has_inode number ≡ true = (opened volume old sound).parts.marked number was in
    let none : (parts_of volume old).has_inode number ≡ false = subst (λ (n : ℕ). (parts_of volume old).has_inode n ≡ false) is free in
    cc

-- ---- images

module _ (volume : Volume) (old : Image) (forced : Bool) (present : List ℕ) (map : List (List ℕ)) (bytes : List ℕ) (sound : IsSound volume old)
    (at : List (List ℕ)) (ends : at ≡ with_tilde map) (inode : ℕ) (what : Option Thing) where
  abbrev Stages : Option (List (List ℕ)) → Image → Type 0
  Stages backup c = IsStagingRoom volume old forced backup present map bytes c

  -- the map alone is made
  pub map-alone : (c : Image) → HasMapOrNot volume old map bytes c → SeenOrWith volume old at (Some inode) what c → Stages None c
  map-alone c is tree = record {
    sound = is.names.sound;
    names = names is.names.names;
    paths = λ name other none. others-lead volume old c at (Some inode) what sound tree name (λ same. other (same ∙ ends));
    files = is.files;
    apart = is.apart;
    held = is.held;
  }
    where
      names : HasNames volume c (names_in volume old) ⊎ HasNamesBut volume old c (with_tilde map) (Some (File bytes))
          → AreStagingBackup volume old forced None present c ⊎ HasNames volume c (with_room forced None present map bytes (names_in volume old))
      names (inl same) = inl same
      names (inr has) = inr has

  module _ (path : List (List ℕ)) (plain : path ≢ map) (tilde : path ≢ with_tilde map) where
    -- the backup is made
    pub backup-staging : (c : Image) → IsStaging volume old forced path present c → Stages (Some path) c
    backup-staging c is = record {
      sound = is.sound;
      names = inl is.names;
      paths = λ name other none. is.paths name none.0 none.1;
      files = is.files;
      apart = is.apart;
      held = λ machine boot outside held. is.held machine boot map outside plain tilde held;
    }

    -- then the map
    module _ (Then : Image) (staged : IsStaging volume old forced path present Then)
        (has : HasNames volume Then (with_backup forced path present (names_in volume old)))
        (free : (parts_of volume old).has_inode inode ≡ false) where
      pub map-staging : (c : Image) → HasMapOrNot volume Then map bytes c → SeenOrWith volume Then at (Some inode) what c → Stages (Some path) c
      map-staging c is tree = record {
        sound = is.names.sound;
        names = names is.names.names;
        paths = λ name other none. others-lead volume Then c at (Some inode) what staged.sound tree name (λ same. other (same ∙ ends)) ∙ staged.paths name none.0 none.1;
        files = keeps_but_joined_law volume path old Then c staged.files is.files between;
        apart = λ d s outside. is.apart d s outside ∙ staged.apart d s outside;
        held = λ machine boot outside held. is.held machine boot outside (staged.held machine boot map outside plain tilde held);
      }
        where
          -- what had a name, and has one again, had it between
          between : (number : ℕ) → NamedIn volume old number → NamedIn volume c number → NamedIn volume Then number
          between number was now = ⊎_elim (λ named. named) (λ same. absurd (unmarked volume old inode number sound free was same)) (named-then volume Then c at (Some inode) what staged.sound tree number now)

          names : HasNames volume c (names_in volume Then) ⊎ HasNamesBut volume Then c (with_tilde map) (Some (File bytes))
              → AreStagingBackup volume old forced (Some path) present c ⊎ HasNames volume c (with_room forced (Some path) present map bytes (names_in volume old))
          names (inl same) = inl (with-backup volume old c forced path present (λ name. same name ∙ has name))
          names (inr but) = inr (λ name. but name
              ∙ with-as (with_tilde map) name (Some (File bytes)) (names_in volume Then) (with_backup forced path present (names_in volume old)) has)
