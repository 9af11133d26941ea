-- Tidying, from the renaming that it is.
use Rattle.std.proofs.Common.{◌≡◌, ◌⊎◌, ℕ, true, false, List, ◌∷◌, Some, Result, sym, ◌∙◌, ap, subst, inl, inr}
use Rattle.disk_trait.specs.declared.disks.Disks.{Ghosts}
use Rattle.disk_trait.specs.Past.{Image}
use Rattle.disk_trait.specs.Moments.{IsTold, now, IsQuiet, LeavesOnly}
use Rattle.disk_trait.specs.NotWritten.{NotWritten}
use Rattle.disk_trait.proofs.MomentLemmas.{leaves_weaker, on_ok, told_or_not}
use Rattle.lilo_model.specs.Disks.{Machine, Span}
use Rattle.lilo_model.specs.MinixFindNames.{Names}
use Rattle.lilo_model.specs.MinixLayout.{Super}
use Rattle.lilo_model.specs.MinixNames.{names_in, reached, IsSound}
use Rattle.lilo_model.specs.MinixParts as volumes
use Rattle.lilo_model.specs.MinixParts.{Parts, parts_of, is_directory}
use Rattle.lilo_model.specs.NamePlaces.{with_tilde}
use Rattle.lilo_model.specs.Settled.{Holds, Held}
use Rattle.minix_layout.specs.View.{super_view}
use Rattle.minix_remove.specs.Moves.{IsMoving}
use Rattle.minix_remove.specs.Renamed.{Renames}
use Rattle.minix_change_laws.specs.Tree.{KeepsNamed, HasTreeMoved}
use Rattle.minix_change_laws.proofs.Seen.{opened, seen_sound_law}
use Rattle.minix_change_laws.proofs.Tree.{sees_tree_law, has_names_law, has_moved_law}
use Rattle.minix_steps.specs.Written.{parts_now}
use Rattle.minix_choice.specs.declared.write_fault.WriteFault.{WriteFault}
use Rattle.minix_zones.specs.Volume.{volume_view, past_of}
use Rattle.minix_zones.specs.declared.volume.Volume.{Volume}
use Rattle.install_apart.specs.Names.{AreTwins}
use Rattle.install_apart.specs.declared.name.NamePair.{NamePair}
use Rattle.install_stage_laws.proofs.Spared.{leaves_both, outside_stays_law}
use Rattle.install_laws.specs.Boots.{HasBootOf}
use Rattle.install_laws.specs.Writes.{IsApartSector}
use Rattle.install_laws.proofs.Writes.{writes_only_law}
use Rattle.install_settle.proofs.LeadLemmas.{plain-tilde, held-is}
use Rattle.install_settle.proofs.NamesLemmas.{names-with, names-moved}
use Rattle.install_settle.proofs.RenameLemmas.{leaves-untold, IsMovable, does-rename, files-renamed}
use Rattle.install_settle.proofs.WriteLemmas.{apart-not}
use Rattle.install_settle.specs.Steps.{Does}
use Rattle.install_stage_laws.proofs.Held.{holder_stays_law}
use Rattle.install_settle.specs.Tidies.{AreMaps, MayTidy, AreTidying, IsTidying, IsTidied, Tidies}

-- ---- what is left

-- named files stay in an image, and the map's name or that with `~` leads to the new map
pub record StillLeads (volume : volumes.Volume) (old : Image) (path : List (List ℕ)) (c : Image) : Type 0 where
  pub sound : IsSound volume c
  pub keeps : KeepsNamed volume.layout (parts_of volume old) (parts_of volume c)
  pub leads : (reached volume.layout (parts_of volume c) path ≡ reached volume.layout (parts_of volume old) (with_tilde path))
      ⊎ (reached volume.layout (parts_of volume c) (with_tilde path) ≡ reached volume.layout (parts_of volume old) (with_tilde path))

module _ (volume : volumes.Volume) (old : Image) (path : List (List ℕ)) (sound : IsSound volume old) (c : Image) where
  abbrev Old : Names
  Old = names_in volume old

  pub still-leads : IsMoving volume old (with_tilde path) path c → StillLeads volume old path c
  still-leads (inl seen) =
      let tree = sees_tree_law volume.layout (parts_of volume old) (parts_of volume c) (opened volume old sound).parts seen.sees in
      record { sound = seen.sound; keeps = tree.keeps; leads = inr (tree.leads (with_tilde path)) }
  still-leads (inr (inl both)) = record { sound = both.tree.sound; keeps = both.tree.tree.keeps; leads = inl both.tree.tree.here }
  still-leads (inr (inr moved)) = record { sound = moved.sound; keeps = moved.tree.keeps; leads = inl moved.tree.here }

  has-by : IsMoving volume old (with_tilde path) path c → AreTidying volume old path c
  has-by (inl seen) = inl (seen_sound_law volume old c sound seen).same
  has-by (inr (inl both)) = inr (inl (names-with volume old c path (Old (with_tilde path)) (has_names_law volume old c path _ (Old (with_tilde path)) both.tree)))
  has-by (inr (inr moved)) = inr (inr (names-moved volume old c (with_tilde path) path (has_moved_law volume old c (with_tilde path) path moved)))

  pub tidying-is : IsMoving volume old (with_tilde path) path c → IsTidying volume old path c
  tidying-is moving = record { sound = (still-leads moving).sound; has = has-by moving; leads = moving }

  pub tidied-is : HasTreeMoved volume old c (with_tilde path) path → IsTidied volume old path c
  tidied-is moved = record {
    sound = moved.sound;
    has = names-moved volume old c (with_tilde path) path (has_moved_law volume old c (with_tilde path) path moved);
    leads = moved;
  }

  -- the new map holds the table still, by the one name or the other
  pub held-in : (machine : Machine) (boot : Span) → HasBootOf boot old c → Holds old machine volume boot (with_tilde path) → IsMoving volume old (with_tilde path) path c → Held c machine volume boot path
  held-in machine boot same holds moving = let still = still-leads moving in by still.keeps still.leads
    where
      by : KeepsNamed volume.layout (parts_of volume old) (parts_of volume c)
          → (reached volume.layout (parts_of volume c) path ≡ reached volume.layout (parts_of volume old) (with_tilde path))
          ⊎ (reached volume.layout (parts_of volume c) (with_tilde path) ≡ reached volume.layout (parts_of volume old) (with_tilde path))
          → Held c machine volume boot path
      by keeps (inl here) = inr (inl (holder_stays_law old c machine volume boot (with_tilde path) path same keeps here holds))
      by keeps (inr there) = inr (inr (holder_stays_law old c machine volume boot (with_tilde path) (with_tilde path) same keeps there holds))

-- ---- what is there

module _ (super : Super) (parts : Parts) (pair : NamePair) (twins : AreTwins pair) (path : List (List ℕ)) (maps : AreMaps super parts path pair) where
  abbrev Above : List (List ℕ)
  Above = maps.place.above

  tilde-is : with_tilde path ≡ pair.tilde.name ∷ Above
  tilde-is = ap with_tilde maps.place.is ∙ ap (λ (n : List ℕ). n ∷ Above) (sym twins.name)

  leads : reached super parts Above ≡ Some pair.tilde.directory
  leads = maps.place.there.leads ∙ ap Some (sym twins.directory)

  directory-is : is_directory (parts.node pair.tilde.directory) ≡ true
  directory-is = subst (λ (d : ℕ). is_directory (parts.node d) ≡ true) (sym twins.directory) maps.place.there.is

  pub movable : IsMovable super parts path pair.tilde.directory pair.tilde.name pair.plain.name
  movable = record {
    above = Above;
    is = maps.place.is;
    twin = twins.name;
    leads = leads;
    directory_is = directory-is;
    moved = maps.map;
    there = maps.leads;
    held_from = sym (held-is super parts pair.tilde.directory pair.tilde.name Above leads directory-is (plain-tilde path pair.tilde.name Above tilde-is).1) ∙ (ap (reached super parts) (sym tilde-is) ∙ maps.leads);
    held_to = sym (held-is super parts pair.tilde.directory pair.plain.name Above leads directory-is maps.named) ∙ ap (reached super parts) (sym maps.place.is);
    regular = maps.regular;
    former = maps.former;
    link = maps.link;
  }

-- ---- the call

module _ {D : Type 0} {disks : Ghosts D} (old new : Volume D disks) (pair : NamePair) (result : Result (Unit {0}) WriteFault) (twins : AreTwins pair) (quiet : IsQuiet (past_of old))
    (renames : Renames old new pair.tilde.directory pair.tilde.name pair.plain.name result) (path : List (List ℕ)) (may : IsTold (past_of old) → MayTidy old path pair) where
  abbrev View : volumes.Volume
  View = volume_view old

  abbrev Was : Image
  Was = now (past_of old)

  is-sound : IsTold (past_of old) → IsSound View Was
  is-sound told = (may told).sound

  movable-now : IsTold (past_of old) → IsMovable (super_view old.layout) (parts_now old) path pair.tilde.directory pair.tilde.name pair.plain.name
  movable-now told = movable (super_view old.layout) (parts_now old) pair twins path (may told).maps

  does : Does old new (IsMoving View Was (with_tilde path) path) (λ c. HasTreeMoved View Was c (with_tilde path) path) result
  does = does-rename old new pair.tilde.directory pair.tilde.name pair.plain.name result is-sound renames path movable-now

  apart-by : IsTold (past_of old) → (d s : ℕ) → IsApartSector View d s → NotWritten (past_of old) (past_of new) d s
  apart-by told d s apart = does.others told (record { disk = d; sector = s }) (apart-not View Was (is-sound told) d s apart)

  held-by : IsTold (past_of old) → (machine : Machine) (boot : Span) → IsApartSector View boot.disk boot.start → Holds Was machine View boot (with_tilde path)
      → LeavesOnly (past_of old) (past_of new) (λ c. Held c machine View boot path)
  held-by told machine boot apart holds =
      leaves_weaker (past_of old) (past_of new) _ _
      (leaves_both (past_of old) (past_of new) _ _ does.any_moment (outside_stays_law View (past_of old) (past_of new) quiet (apart-by told)))
      (λ c both. held-in View Was path (is-sound told) c machine boot (both.1 boot.disk boot.start apart) holds both.0)

  pub tidies : Tidies old new path pair.tilde.directory result
  tidies = by (told_or_not (past_of old))
    where
      by : IsTold (past_of old) ⊎ (IsTold (past_of old) → ⊥) → Tidies old new path pair.tilde.directory result
      by (inl told) = record {
        any_moment = leaves_weaker (past_of old) (past_of new) _ _ does.any_moment (tidying-is View Was path (is-sound told));
        left = λ t. tidying-is View Was path (is-sound told) (now (past_of new)) (does.left t);
        done = λ t. on_ok result _ _ (does.done t) (tidied-is View Was path (is-sound told) (now (past_of new)));
        held = held-by told;
        files = λ t. files-renamed old new pair.tilde.directory pair.tilde.name pair.plain.name result is-sound renames path t (movable-now t);
        gains = does.gains;
        only = writes_only_law View (λ zone. false) (past_of old) (past_of new) quiet (does.others told);
        apart = apart-by;
        device = does.device;
        goes_on = does.goes_on;
        kept = does.kept;
      }
      by (inr none) =
          let none-now : IsTold (past_of new) → ⊥ = λ told. none (does.goes_on.told_before told) in
          record {
            any_moment = leaves-untold (past_of old) (past_of new) _ none none-now;
            left = λ t. absurd (none t);
            done = λ t. absurd (none t);
            held = λ machine boot apart holds. leaves-untold (past_of old) (past_of new) _ none none-now;
            files = λ t. absurd (none t);
            gains = λ t. absurd (none t);
            only = leaves-untold (past_of old) (past_of new) _ none none-now;
            apart = λ t. absurd (none t);
            device = λ t. absurd (none t);
            goes_on = does.goes_on;
            kept = does.kept;
          }
