-- A name that takes the place of that without `~` beside it, by its path.
use Rattle.std.proofs.Common.{◌≡◌, ◌≤◌, ◌<◌, ◌==◌, ◌&&◌, ◌⊎◌, ℕ, Bool, true, false, not, if◌then◌else◌, List, ◌∷◌, ◌++◌, length, codes, Option, Some, None, Result, Ok, Err, OnOk, refl, sym, ◌∙◌, ap, subst, inl, inr, arith, length-append}
use Rattle.std.specs.Prelude.{IfSome, nat_lt}
use Rattle.std.proofs.lemmas.Bool.Decides.{nat_tests}
use Rattle.disk_trait.specs.declared.disks.Disks.{Ghosts}
use Rattle.disk_trait.specs.Past.{Image, Past}
use Rattle.disk_trait.specs.Moments.{IsTold, MayLeave, now, LeavesOnly}
use Rattle.disk_trait.proofs.MomentLemmas.{leaves_none, told_or_not}
use Rattle.lilo_model.specs.MinixLayout.{Super, most_links, name_size}
use Rattle.lilo_model.specs.MinixNames.{reached, Named, IsSound}
use Rattle.lilo_model.specs.MinixParts as volumes
use Rattle.lilo_model.specs.MinixParts.{Parts, parts_of, is_directory, is_file}
use Rattle.lilo_model.specs.NamePlaces.{with_tilde}
use Rattle.minix_layout.specs.View.{kind_view, super_view}
use Rattle.minix_remove.specs.Moves.{IsMoving}
use Rattle.minix_remove.specs.Removed.{GainsNoZone, RemovesFile}
use Rattle.minix_remove.specs.Renamed.{Renames, RenamesFiles, RenameAnswersRight, rename_refusal, moved_refusal, former_refusal, links_refusal}
use Rattle.minix_remove_laws.specs.Held.{held_name}
use Rattle.minix_remove_laws.specs.Files.{KeepsFiles}
use Rattle.minix_change_laws.specs.Tree.{HasTreeMoved}
use Rattle.minix_steps.specs.Written.{parts_now}
use Rattle.minix_choice.specs.declared.write_fault.WriteFault.{WriteFault}
use Rattle.minix_choice.specs.declared.write_fault.WriteFault.TheVariants.{Device, Links}
use Rattle.minix_zones.specs.Volume.{volume_view, past_of, KeepsVolume, HasDeviceCause}
use Rattle.minix_zones.specs.declared.volume.Volume.{Volume}
use Rattle.install_stage_laws.specs.BeginLaws.{GainsNothing}
use Rattle.install_settle.specs.Steps.{Does}
use Rattle.install_settle.proofs.GainLemmas.{gains_removed, gains_kept, named_moved}
use Rattle.install_settle.proofs.LeadLemmas.{held-short}
use Rattle.install_settle.proofs.WriteLemmas.{off-renamed}

-- ---- where nothing is told

pub leaves-untold : (old new : Option Past) (P : Image → Type 0) → (IsTold old → ⊥) → (IsTold new → ⊥) → LeavesOnly old new P
unfolding IsTold MayLeave
leaves-untold None None P one other = leaves_none None P (λ c left. absurd left)
leaves-untold None (Some new) P one other = absurd (other tt)
leaves-untold (Some old) new P one other = absurd (one tt)

-- a volume's parts, by the volume before
pub view-kept : {D : Type 0} {disks : Ghosts D} (old new : Volume D disks) → KeepsVolume old new → parts_now new ≡ parts_of (volume_view old) (now (past_of new))
view-kept old new kept = ap (λ (v : volumes.Volume). parts_of v (now (past_of new))) (view-same kept)
  where
    view-same : KeepsVolume old new → volume_view new ≡ volume_view old
    view-same kept = rw (kept.same_span, kept.same_layout) refl

-- ---- what a renaming needs

-- A path and that with `~` end with two names of a directory. At the second one there is a regular file, which may have a link
-- more where something is at the first, and there a regular file or nothing.
pub record IsMovable (super : Super) (parts : Parts) (path : List (List ℕ)) (directory : ℕ) (from to : List ℕ) : Type 0 where
  pub above : List (List ℕ)
  pub is : path ≡ to ∷ above
  pub twin : from ≡ to ++ codes "~"
  pub leads : reached super parts above ≡ Some directory
  pub directory_is : is_directory (parts.node directory) ≡ true
  pub moved : ℕ
  pub there : reached super parts (with_tilde path) ≡ Some moved
  pub held_from : held_name super parts directory from ≡ Some moved
  pub held_to : held_name super parts directory to ≡ reached super parts path
  pub regular : is_file (parts.node moved) ≡ true
  pub former : IfSome (reached super parts path) (λ number. is_file (parts.node number) ≡ true)
  pub link : IfSome (reached super parts path) (λ number. (parts.node moved).links < most_links super.kind)

module _ {D : Type 0} {disks : Ghosts D} (old new : Volume D disks) (directory : ℕ) (from to : List ℕ) (result : Result (Unit {0}) WriteFault)
    (sound : IsTold (past_of old) → IsSound (volume_view old) (now (past_of old))) (renames : Renames old new directory from to result) where
  abbrev DoesRename : List (List ℕ) → Type 0
  DoesRename path =
      Does old new (IsMoving (volume_view old) (now (past_of old)) (with_tilde path) path) (λ c. HasTreeMoved (volume_view old) (now (past_of old)) c (with_tilde path) path) result

  module _ (told : IsTold (past_of old)) (path : List (List ℕ)) (is : IsMovable (super_view old.layout) (parts_now old) path directory from to) where
    tilde-is : with_tilde path ≡ from ∷ is.above
    tilde-is = ap with_tilde is.is ∙ ap (λ (n : List ℕ). n ∷ is.above) (sym is.twin)

    named-from : (number : ℕ) → held_name (super_view old.layout) (parts_now old) directory from ≡ Some number → Named (super_view old.layout) (parts_now old) number
    named-from number held = record { path = with_tilde path; leads = is.there ∙ (sym is.held_from ∙ held) }

    named-to : (number : ℕ) → held_name (super_view old.layout) (parts_now old) directory to ≡ Some number → Named (super_view old.layout) (parts_now old) number
    named-to number held = record { path = path; leads = sym is.held_to ∙ held }

    -- it isn't refused
    short : nat_lt (name_size (kind_view old.layout.kind)) (length to) ≡ false
    short =
        let most = held-short (super_view old.layout) (parts_now old) directory is.moved from is.held_from in
        let long : length from ≡ length (to ++ codes "~") = ap length is.twin in
        let sum = length-append to (codes "~") in
        let fits : length to ≤ name_size (kind_view old.layout.kind) = omega (arith, most, long, sum) in
        grind (arith, nat_tests, fits)

    moved-none : moved_refusal (kind_view old.layout.kind) (parts_now old) to (Some is.moved) ≡ None
    moved-none = rw (short, is.regular) refl

    former-by : (former : Option ℕ) → IfSome former (λ number. is_file ((parts_now old).node number) ≡ true) → former_refusal (parts_now old) former ≡ None
    former-by None file = refl
    former-by (Some number) file = rw file refl

    links-by : (former : Option ℕ) → IfSome former (λ number. ((parts_now old).node is.moved).links < most_links (kind_view old.layout.kind))
        → links_refusal (kind_view old.layout.kind) (parts_now old) (Some is.moved) former ≡ None
    links-by None left = refl
    links-by (Some former) left =
        let below : (((parts_now old).node is.moved).links == most_links (kind_view old.layout.kind)) ≡ false = grind (arith, nat_tests, left) in
        by (not (former == is.moved)) below
      where
        by : (apart : Bool) → (((parts_now old).node is.moved).links == most_links (kind_view old.layout.kind)) ≡ false
            → (if apart && (((parts_now old).node is.moved).links == most_links (kind_view old.layout.kind)) then Some Links else None) ≡ None
        by true below = rw below refl
        by false below = refl

    not-refused : rename_refusal (super_view old.layout) (parts_now old) directory from to ≡ None
    not-refused =
        rw (is.held_from, is.held_to, moved-none, former-by (reached (super_view old.layout) (parts_now old) path) is.former, links-by (reached (super_view old.layout) (parts_now old) path) is.link) refl

    device-by : (r : Result (Unit {0}) WriteFault) → RenameAnswersRight old new directory from to r → HasDeviceCause old new Device r
    device-by (Ok done) right = tt
    device-by (Err fault) (inl device) = device
    device-by (Err fault) (inr refused) = let is = refused.is in let none = not-refused in cc

    -- no inode refers to another zone
    parts-same : parts_now new ≡ parts_of (volume_view old) (now (past_of new))
    parts-same = view-kept old new renames.moves.kept

    gains-by : (former : Option ℕ) → RenamesFiles (super_view old.layout) (parts_now old) (parts_now new) directory former
        → IfSome former (λ number. is_file ((parts_now old).node number) ≡ true)
        → IsSound (volume_view old) (now (past_of old)) → HasTreeMoved (volume_view old) (now (past_of old)) (now (past_of new)) (from ∷ is.above) (to ∷ is.above)
        → GainsNoZone (super_view old.layout) (parts_now old) (parts_now new) directory → GainsNothing (volume_view old) (now (past_of old)) (now (past_of new))
    gains-by None files file is-sound tree zones =
        gains_kept (volume_view old) (now (past_of old)) (now (past_of new)) is-sound directory (record { path = is.above; leads = is.leads })
        (named_moved (volume_view old) (now (past_of old)) (now (past_of new)) (from ∷ is.above) (to ∷ is.above) tree) tree.tree.keeps
        (subst (λ (n : Parts). GainsNoZone (super_view old.layout) (parts_now old) n directory) parts-same zones)
        (subst (λ (n : Parts). KeepsFiles (super_view old.layout) (parts_now old) n directory) parts-same files)
    gains-by (Some former) files file is-sound tree zones =
        gains_removed (volume_view old) (now (past_of old)) (now (past_of new)) is-sound directory (record { path = is.above; leads = is.leads })
        (named_moved (volume_view old) (now (past_of old)) (now (past_of new)) (from ∷ is.above) (to ∷ is.above) tree) tree.tree.keeps
        (subst (λ (n : Parts). GainsNoZone (super_view old.layout) (parts_now old) n directory) parts-same zones)
        former file
        (subst (λ (n : Parts). RemovesFile (super_view old.layout) (parts_now old) n directory former) parts-same files)

    files-by : (r : Result (Unit {0}) WriteFault) → OnOk r (RenamesFiles (super_view old.layout) (parts_now old) (parts_now new) directory (held_name (super_view old.layout) (parts_now old) directory to))
        → OnOk r (RenamesFiles (super_view old.layout) (parts_now old) (parts_now new) directory (reached (super_view old.layout) (parts_now old) path))
    files-by r files = subst (λ (former : Option ℕ). OnOk r (RenamesFiles (super_view old.layout) (parts_now old) (parts_now new) directory former)) is.held_to files

    gains-on : (t : IsTold (past_of old)) (r : Result (Unit {0}) WriteFault)
        → OnOk r (HasTreeMoved (volume_view old) (now (past_of old)) (now (past_of new)) (from ∷ is.above) (to ∷ is.above))
        → OnOk r (RenamesFiles (super_view old.layout) (parts_now old) (parts_now new) directory (reached (super_view old.layout) (parts_now old) path))
        → OnOk r (GainsNoZone (super_view old.layout) (parts_now old) (parts_now new) directory)
        → OnOk r (GainsNothing (volume_view old) (now (past_of old)) (now (past_of new)))
    gains-on t (Ok done) tree files zones = gains-by (reached (super_view old.layout) (parts_now old) path) files is.former (sound t) tree zones
    gains-on t (Err fault) tree files zones = tt

    does-told : DoesRename path
    does-told =
        let moves = renames.moves.moves is.above (λ t. is.leads) in
        let M : List (List ℕ) → List (List ℕ) → Type 0 = λ former p. Does old new (IsMoving (volume_view old) (now (past_of old)) former p) (λ c. HasTreeMoved (volume_view old) (now (past_of old)) c former p) result in
        subst (M (with_tilde path)) (sym is.is)
        (subst (λ (former : List (List ℕ)). M former (to ∷ is.above)) (sym tilde-is)
        (record {
          any_moment = moves.any_moment;
          left = moves.held;
          done = moves.done;
          others = λ t place not. renames.moves.others t place.disk place.sector
              (off-renamed old (sound t) directory (record { path = is.above; leads = is.leads }) is.directory_is place.disk place.sector not from to named-from named-to);
          gains = λ t. gains-on t result (moves.done t) (files-by result (renames.moves.files t)) (renames.moves.gains t);
          device = λ t. device-by result (renames.answers t);
          goes_on = renames.moves.goes_on;
          kept = renames.moves.kept;
        }))

  -- it is done, or as much of it as the disk let through
  pub does-rename : (path : List (List ℕ)) → (IsTold (past_of old) → IsMovable (super_view old.layout) (parts_now old) path directory from to) → DoesRename path
  does-rename path movable = by (told_or_not (past_of old))
    where
      by : IsTold (past_of old) ⊎ (IsTold (past_of old) → ⊥) → DoesRename path
      by (inl told) = does-told told path (movable told)
      by (inr none) = record {
        any_moment = leaves-untold (past_of old) (past_of new) _ none (λ told. none (renames.moves.goes_on.told_before told));
        left = λ told. absurd (none told);
        done = λ told. absurd (none told);
        others = λ told place not. absurd (none told);
        gains = λ told. absurd (none told);
        device = λ told. absurd (none told);
        goes_on = renames.moves.goes_on;
        kept = renames.moves.kept;
      }

  -- the inode that was at the path lost a name, if any was
  pub files-renamed : (path : List (List ℕ)) → IsTold (past_of old) → IsMovable (super_view old.layout) (parts_now old) path directory from to
      → OnOk result (RenamesFiles (super_view old.layout) (parts_now old) (parts_now new) directory (reached (super_view old.layout) (parts_now old) path))
  files-renamed path told is = files-by told path is result (renames.moves.files told)
