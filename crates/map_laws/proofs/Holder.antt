-- An image that has Lays is Held.
use Rattle.std.proofs.Common.{◌≡◌, ◌<◌, ℕ, zero, suc, ◌+◌, ◌*◌, ◌/◌, ◌%◌, ◌==◌, Bool, true, false, not, if◌then◌else◌, List, [], ◌∷◌, map, length, Option, None, Some, Result, Ok, Err, refl, sym, ap, subst, ◌∙◌, arith, ◌⊎◌, inl, inr}
use Rattle.std.specs.Prelude.{slice_index_or}
use Rattle.std.specs.List.{range_with_len}
use Rattle.std.proofs.lemmas.Bool.Decides.{nat_tests}
use Rattle.lilo_model.specs.Bytes.{number16}
use Rattle.lilo_model.specs.Disks.{Image, Machine, DiskSector}
use Rattle.lilo_model.specs.Slots.{AddressFault, place_at}
use Rattle.lilo_model.specs.BootSector.{BootSector, NotOurs, BadVersion, BadTable, has_signature, is_whole, table_slots, boot_of, boot_at}
use Rattle.lilo_model.specs.MinixParts.{Volume, parts_of, block_pointer, is_file, is_link, is_directory}
use Rattle.lilo_model.specs.MinixNames.{zone_number, reached}
use Rattle.lilo_model.specs.NamePlaces.{with_tilde}
use Rattle.lilo_model.specs.Section.{sectors_for}
use Rattle.lilo_model.specs.Clear.{IsOfZone}
use Rattle.lilo_model.specs.Settled.{IsInFile, NamesInFile, Holds, Held}
use Rattle.lilo_model.specs.Planned.{sector_in_zone, inode_places}
use Rattle.lilo_model.specs.Lays.{IsPlaceAt}
use Rattle.minix_laws.proofs.Inside.{is_pointer-block}
use Rattle.map_laws.specs.MapLays.{LaysHeldLaw}
use Rattle.map_laws.proofs.MeantFiles.{zones-of}

-- ---- lists

-- what a map of numbers has at an index
mapped-at : {X : Type 0} → (f : ℕ → Option X) (from count index : ℕ) (found : X) → slice_index_or (map f (range_with_len from count)) index None ≡ Some found → f (from + index) ≡ Some found
mapped-at f from zero index found is = cc
mapped-at f from (suc count) zero found is = let same : from + 0 ≡ from = omega arith in ap f same ∙ is
mapped-at f from (suc count) (suc index) found is =
    let same : from + suc index ≡ from + 1 + index = omega arith in
    ap f same ∙ mapped-at f (from + 1) count index found is

-- an element doesn't depend on what stands for those past the end
same-at : {X : Type 0} → (xs : List X) (index : ℕ) (d e : X) → index < length xs → slice_index_or xs index d ≡ slice_index_or xs index e
same-at [] index d e below = absurd (omega (arith, below))
same-at (x ∷ xs) zero d e below = refl
same-at (x ∷ xs) (suc index) d e below = same-at xs index d e (omega (arith, below))

-- ---- the table of a boot sector

three-slots : (bytes : List ℕ) (boot : BootSector) → boot_at bytes ≡ Ok boot → length boot.table ≡ 3
unfolding boot_at boot_of table_slots
three-slots bytes boot is = by (has_signature bytes) (number16 bytes 6 == 1) (is_whole bytes) is
  where
    of-fields : boot_of bytes ≡ boot → length boot.table ≡ 3
    of-fields same = ap (λ (boot : BootSector). length boot.table) (sym same)

    by : (a b c : Bool) → (if not a then Err NotOurs else if not b then Err (BadVersion (number16 bytes 6)) else if not c then Err (BadTable 255) else Ok (boot_of bytes)) ≡ Ok boot → length boot.table ≡ 3
    by true true true is = of-fields cc
    by true true false is = cc
    by true false c is = cc
    by false b c is = cc

-- ---- the zones of a file

module _ (volume : Volume) (image : Image) (number : ℕ) (regular : is_file ((parts_of volume image).node number) ≡ true) where
  -- a sector of a file lies in one of its zones
  in-file : (index : ℕ) (found : DiskSector) → sector_in_zone volume.span (zone_number volume.layout (parts_of volume image) number (index / 2)) index ≡ Some found → IsInFile volume image number found
  unfolding zone_number
  in-file index found is = by (zone_number volume.layout (parts_of volume image) number (index / 2)) (zone_number volume.layout (parts_of volume image) number (index / 2) == 0) refl refl is
    where
      half : (zone rest : ℕ) → rest < 2 → IsOfZone zone (2 * zone + rest)
      half zone zero below = inl (omega arith)
      half zone (suc zero) below = inr (omega arith)
      half zone (suc (suc rest)) below = absurd (omega (arith, below))

      the-place : (place found : DiskSector) → Some place ≡ Some found → found ≡ place
      the-place place found is = cc

      by : (zone : ℕ) (hole : Bool) → zone_number volume.layout (parts_of volume image) number (index / 2) ≡ zone → (zone == 0) ≡ hole
          → (if zone == 0 then None else Some (record { disk = volume.span.disk; sector = volume.span.start + (2 * zone + index % 2) })) ≡ Some found → IsInFile volume image number found
      by zone true at none is = absurd (no-place found (subst (λ hole. (if hole then None else Some (record { disk = volume.span.disk; sector = volume.span.start + (2 * zone + index % 2) })) ≡ Some found) none is))
        where
          no-place : (found : DiskSector) → None ≡ Some found → ⊥
          no-place found is = cc
      by zone false at none is = record {
        at = block_pointer volume.layout.kind (index / 2);
        zone = zone;
        sector = 2 * zone + index % 2;
        points = record {
          kind = zones-of (is_directory ((parts_of volume image).node number)) (is_file ((parts_of volume image).node number)) (is_link ((parts_of volume image).node number)) regular;
          place = is_pointer-block volume.layout.kind (index / 2);
          is = at;
          some = grind (arith, nat_tests);
        };
        is = the-place (record { disk = volume.span.disk; sector = volume.span.start + (2 * zone + index % 2) }) found (subst (λ hole. (if hole then None else Some (record { disk = volume.span.disk; sector = volume.span.start + (2 * zone + index % 2) })) ≡ Some found) none is);
        of = half zone (index % 2) (omega arith);
      }

  -- so does each of those that it is known to have
  place-in-file : (machine : Machine) (places : List DiskSector) → inode_places volume (parts_of volume image) number ≡ map Some places → (index : ℕ) (place : Result DiskSector AddressFault) → IsPlaceAt places index place → NamesInFile machine volume image number place
  unfolding inode_places
  place-in-file machine places solid index place at =
      let one : ℕ → Option DiskSector = λ index. sector_in_zone volume.span (zone_number volume.layout (parts_of volume image) number (index / 2)) index in
      let first : 0 + index ≡ index = omega arith in
      let there : slice_index_or (map one (range_with_len 0 (sectors_for ((parts_of volume image).node number).size))) index None ≡ Some at.0 = subst (λ all. slice_index_or all index None ≡ Some at.0) (sym solid) at.1 in
      subst (NamesInFile machine volume image number) (sym at.2)
      (in-file index at.0 (ap one (sym first) ∙ mapped-at one 0 (sectors_for ((parts_of volume image).node number).size) index at.0 there))

pub lays_held_law : LaysHeldLaw
lays_held_law image machine volume span plan path present l = by l.leads
  where
    holds : (path : List (List ℕ)) → reached volume.layout (parts_of volume image) path ≡ Some l.holder → Holds image machine volume span path
    holds path leads = record {
      boot = l.boot;
      says = l.says;
      number = l.holder;
      leads = leads;
      regular = l.regular;
      table = λ index other below.
          let three = three-slots (image span.disk span.start) l.boot l.says in
          subst (λ slot. NamesInFile machine volume image l.holder (place_at machine slot 0)) (same-at l.boot.table index l.boot.line other below)
          (place-in-file volume image l.holder l.regular machine l.places l.solid (1 + index) (place_at machine (slice_index_or l.boot.table index l.boot.line) 0) (l.table index (omega (arith, below, three))));
    }

    by : (reached volume.layout (parts_of volume image) path ≡ Some l.holder) ⊎ (reached volume.layout (parts_of volume image) (with_tilde path) ≡ Some l.holder) → Held image machine volume span path
    by (inl leads) = inr (inl (holds path leads))
    by (inr leads) = inr (inr (holds (with_tilde path) leads))
