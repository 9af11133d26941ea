-- A directory of which entries change points nowhere that it didn't point: no entry lies in an indirect zone.
use Rattle.std.proofs.Common.{◌≡◌, ◌≢◌, ◌-◌, ◌/◌, ℕ, List, ◌∷◌, true, length, ap, arith}
use Rattle.lilo_model.specs.MinixEntries.{entries_per_block}
use Rattle.lilo_model.specs.MinixLayout.{Super}
use Rattle.lilo_model.specs.MinixNames.{Named, PointsTo, Refers, Sound}
use Rattle.lilo_model.specs.MinixParts.{Parts, Pointer, IsPointer, is_directory}
use Rattle.minix_change_laws.specs.Beside.{IsDataZone}
use Rattle.minix_change_laws.specs.Only.{zone_of_entry}
use Rattle.minix_change_laws.proofs.Only.{Here, directory-refers}
use Rattle.minix_laws.proofs.Pointers.{pointer_law}
use Rattle.minix_change_laws.proofs.Inode.{KeepsAbove, points-old, same-node}
use Rattle.minix_remove.specs.Removed.{GainsNoZone}

module _ (super : Super) (old new : Parts) (directory : ℕ) (sound : Sound super old) (named : Named super old directory) (is : is_directory (old.node directory) ≡ true)
    (node : new.node directory ≡ old.node directory) where
  -- a zone above others isn't that of an entry
  above-off : (place top index : ℕ) (trail : List ℕ) (zone : ℕ) → IsPointer super.kind (record { top = top; trail = index ∷ trail })
      → PointsTo super old directory (record { top = top; trail = trail }) zone → zone ≢ zone_of_entry super old directory place
  above-off place top index trail zone pointer to same =
      let there : Pointer = Here super old directory place named is in
      let refers : Refers super old directory (record { top = top; trail = trail }) zone = record { named = named; to = to } in
      let one = sound.once directory directory (record { top = top; trail = trail }) there zone refers (directory-refers super old directory place named is zone to.some same) in
      let whole : length there.trail ≡ there.top - 6 = (pointer_law super.kind).whole (place / entries_per_block super.kind) in
      let long : length trail ≡ length there.trail = ap (λ (p : Pointer). length p.trail) one.1 in
      let high : top ≡ there.top = ap (λ (p : Pointer). p.top) one.1 in
      omega (arith, pointer.deep, whole, long, high)

  gains-by : KeepsAbove super old new directory → GainsNoZone super old new directory
  gains-by above = points-old super old new directory (same-node (old.node directory) (new.node directory) node).numbers above

  -- the zone of one entry has other bytes
  pub gains_one : (place : ℕ) → ((zone : ℕ) → IsDataZone super zone → zone ≢ zone_of_entry super old directory place → new.zone zone ≡ old.zone zone)
      → GainsNoZone super old new directory
  gains_one place zones = gains-by (λ top index trail zone pointer to.
      zones zone (sound.zone_range directory (record { top = top; trail = trail }) zone (record { named = named; to = to })) (above-off place top index trail zone pointer to))

  -- those of two have
  pub gains_two : (place there : ℕ)
      → ((zone : ℕ) → IsDataZone super zone → zone ≢ zone_of_entry super old directory place → zone ≢ zone_of_entry super old directory there → new.zone zone ≡ old.zone zone)
      → GainsNoZone super old new directory
  gains_two place there zones = gains-by (λ top index trail zone pointer to.
      zones zone (sound.zone_range directory (record { top = top; trail = trail }) zone (record { named = named; to = to }))
      (above-off place top index trail zone pointer to) (above-off there top index trail zone pointer to))
