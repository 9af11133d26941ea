-- A part of a zone in its sector.
use Rattle.std.proofs.Common.{◌≡◌, ◌≢◌, ◌≤◌, ◌<◌, ◌+◌, ◌*◌, ◌/◌, ◌%◌, ℕ, Bool, if◌then◌else◌, List, length, Result, sym, subst, arith, inl, inr, OnOk}
use Rattle.disk_trait.specs.declared.disks.Disks.{Ghosts}
use Rattle.disk_trait.specs.Past.{Image}
use Rattle.disk_trait.specs.Moments.{IsTold, now, LeavesOnly}
use Rattle.disk_trait.proofs.MomentLemmas.{leaves_weaker, on_ok}
use Rattle.lilo_model.specs.Bytes.{bytes16, bytes32}
use Rattle.lilo_model.specs.MinixEntries.{entries_per_block}
use Rattle.lilo_model.specs.MinixLayout.{Kind, V1Short, V1Long, V2Short, V2Long, is_v1, entry_size, numbers_in_zone, super_sector, zone_sector}
use Rattle.minix_change_laws.proofs.Blocks.{entry-fits, entry-in_sector, some-entry}
use Rattle.minix_layout.specs.View.{kind_view, super_view}
use Rattle.minix_layout.specs.declared.kind.FsKind.{FsKind}
use Rattle.minix_zones.specs.Volume.{volume_view, past_of}
use Rattle.minix_zones.specs.declared.volume.Volume.{Volume}
use Rattle.minix_steps.specs.Written.{with_sector_of}
use Rattle.minix_steps.proofs.RegionLemmas.{sector_there, zone_behind}
use Rattle.minix_change_laws.specs.Part.{number_bytes, offset_of_number}
use Rattle.minix_change_laws.proofs.Part.{write_part_law}
use Rattle.minix_turns.specs.Turns.{WithOrWithout, Turns}
use Rattle.minix_turns.specs.Part.{part_rewritten, TurnsPart, TurnsNumber, TurnsEntry, HasPart, WithOrWithoutPart, HasNumberPart, WithOrWithoutNumber, HasEntryPart, WithOrWithoutEntry}

-- a number lies in one sector
number_fits : (kind : Kind) (index number : ℕ) → index < numbers_in_zone kind → (offset_of_number kind index < 1024) × (offset_of_number kind index % 512 + length (number_bytes kind number) ≤ 512)
number_fits V1Short index number there = (omega (arith, there), omega (arith, there))
number_fits V1Long index number there = (omega (arith, there), omega (arith, there))
number_fits V2Short index number there = (omega (arith, there), omega (arith, there))
number_fits V2Long index number there = (omega (arith, there), omega (arith, there))

module _ {D : Type 0} {disks : Ghosts D} (volume : Volume D disks) (zone offset : ℕ) (below : zone < volume.layout.zones) (start : offset < 1024) where
  pub part_there : zone_sector zone + offset / 512 < volume.span.count
  part_there = sector_there (super_view volume.layout) volume.span.count volume.whole (zone_sector zone + offset / 512) (omega (arith, below, start))

  pub part_no_super : volume.layout.first ≤ zone → zone_sector zone + offset / 512 ≢ super_sector
  part_no_super from same = let some = zone_behind (super_view volume.layout) volume.span.count volume.whole in omega (arith, some, from, same)

  module _ (bytes : List ℕ) (inside : offset % 512 + length bytes ≤ 512) where
    pub has_part : HasPart volume (with_sector_of (volume_view volume) (now (past_of volume)) (zone_sector zone + offset / 512) (part_rewritten volume zone offset bytes)) zone offset bytes
    has_part = write_part_law (volume_view volume) (now (past_of volume)) zone offset bytes start inside

    pub part_choice : (c : Image) → WithOrWithout (volume_view volume) (now (past_of volume)) (zone_sector zone + offset / 512) (part_rewritten volume zone offset bytes) c → WithOrWithoutPart volume zone offset bytes c
    part_choice c (inl same) = inl same
    part_choice c (inr is) = inr (subst (λ (i : Image). HasPart volume i zone offset bytes) (sym is) has_part)

    module _ {E : Type 0} (new : Volume D disks) (error : E) (result : Result (Unit {0}) E) (turns : Turns volume new (zone_sector zone + offset / 512) (part_rewritten volume zone offset bytes) error result) where
      pub part_moments : LeavesOnly (past_of volume) (past_of new) (WithOrWithoutPart volume zone offset bytes)
      part_moments = leaves_weaker (past_of volume) (past_of new) _ _ turns.any_moment part_choice

      pub part_now : IsTold (past_of volume) → OnOk result (HasPart volume (now (past_of new)) zone offset bytes)
      part_now told = on_ok result _ _ (turns.written told) (λ is. subst (λ (i : Image). HasPart volume i zone offset bytes) (sym is) has_part)

-- ---- an entry

-- it lies in one sector
pub entry_fits : (kind : Kind) (index : ℕ) (bytes : List ℕ) → index < entries_per_block kind → length bytes ≡ entry_size kind → (entry_size kind * index < 1024) × (entry_size kind * index % 512 + length bytes ≤ 512)
entry_fits kind index bytes there size =
    let fits = entry-fits kind index there in
    let some = some-entry kind in
    let low = entry-in_sector kind index there in
    (omega (arith, fits, some), omega (arith, low, size))

module _ {D E : Type 0} {disks : Ghosts D} (volume new : Volume D disks) (zone index : ℕ) (bytes : List ℕ) (error : E) (result : Result (Unit {0}) E)
    (below : zone < volume.layout.zones) (there : index < entries_per_block (kind_view volume.layout.kind)) (size : length bytes ≡ entry_size (kind_view volume.layout.kind))
    (turns : TurnsEntry volume new zone index bytes error result) where
  abbrev Offset : ℕ
  Offset = entry_size (kind_view volume.layout.kind) * index

  fit : (Offset < 1024) × (Offset % 512 + length bytes ≤ 512)
  fit = entry_fits (kind_view volume.layout.kind) index bytes there size

  pub entry_moments : LeavesOnly (past_of volume) (past_of new) (WithOrWithoutEntry volume zone index bytes)
  entry_moments = part_moments volume zone Offset below fit.0 bytes fit.1 new error result turns

  pub entry_now : IsTold (past_of volume) → OnOk result (HasEntryPart volume (now (past_of new)) zone index bytes)
  entry_now = part_now volume zone Offset below fit.0 bytes fit.1 new error result turns

  -- what is held with the entry
  pub entry_has : HasEntryPart volume (with_sector_of (volume_view volume) (now (past_of volume)) (zone_sector zone + Offset / 512) (part_rewritten volume zone Offset bytes)) zone index bytes
  entry_has = has_part volume zone Offset below fit.0 bytes fit.1

-- by the kind that the volume is of
pub entry_turns : {D E : Type 0} {disks : Ghosts D} (volume new : Volume D disks) (zone index : ℕ) (bytes : Kind → List ℕ) (kind : FsKind) (error : E) (result : Result (Unit {0}) E) → volume.layout.kind ≡ kind
    → TurnsPart volume new zone (entry_size (kind_view kind) * index) (bytes (kind_view kind)) error result
    → TurnsEntry volume new zone index (bytes (kind_view volume.layout.kind)) error result
entry_turns volume new zone index bytes kind error result is turns =
    let P : FsKind → Type 0 = λ k. TurnsPart volume new zone (entry_size (kind_view k) * index) (bytes (kind_view k)) error result in
    subst P (sym is) turns

-- ---- a number

module _ {D E : Type 0} {disks : Ghosts D} (volume new : Volume D disks) (zone index number : ℕ) (error : E) (result : Result (Unit {0}) E)
    (below : zone < volume.layout.zones) (there : index < numbers_in_zone (kind_view volume.layout.kind))
    (turns : TurnsNumber volume new zone index number error result) where
  abbrev At : ℕ
  At = offset_of_number (kind_view volume.layout.kind) index

  abbrev Number : List ℕ
  Number = number_bytes (kind_view volume.layout.kind) number

  pub number_moments : LeavesOnly (past_of volume) (past_of new) (WithOrWithoutNumber volume zone index number)
  number_moments =
      let fits = number_fits (kind_view volume.layout.kind) index number there in
      part_moments volume zone At below fits.0 Number fits.1 new error result turns

  pub number_now : IsTold (past_of volume) → OnOk result (HasNumberPart volume (now (past_of new)) zone index number)
  number_now =
      let fits = number_fits (kind_view volume.layout.kind) index number there in
      part_now volume zone At below fits.0 Number fits.1 new error result turns

  -- what is held with the number
  pub number_has : HasNumberPart volume (with_sector_of (volume_view volume) (now (past_of volume)) (zone_sector zone + At / 512) (part_rewritten volume zone At Number)) zone index number
  number_has =
      let fits = number_fits (kind_view volume.layout.kind) index number there in
      has_part volume zone At below fits.0 Number fits.1

-- by the version that the volume is of
pub number_turns : {D E : Type 0} {disks : Ghosts D} (volume new : Volume D disks) (zone index number : ℕ) (first : Bool) (error : E) (result : Result (Unit {0}) E) → is_v1 (kind_view volume.layout.kind) ≡ first
    → TurnsPart volume new zone ((if first then 2 else 4) * index) (if first then bytes16 number else bytes32 number) error result
    → TurnsNumber volume new zone index number error result
number_turns volume new zone index number first error result is turns =
    let P : Bool → Type 0 = λ v1. TurnsPart volume new zone ((if v1 then 2 else 4) * index) (if v1 then bytes16 number else bytes32 number) error result in
    subst P (sym is) turns
