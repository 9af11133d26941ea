-- A turn of a number or of an entry, by what it does to names.
use Rattle.std.proofs.Common.{◌≡◌, ◌≢◌, ◌≤◌, ◌<◌, ◌*◌, ◌/◌, ◌%◌, ◌+◌, ◌^◌, ℕ, List, ◌∷◌, length, None, Result, sym, ◌∙◌, ap, subst, subst₂, arith}
use Rattle.disk_trait.specs.declared.disks.Disks.{Ghosts}
use Rattle.disk_trait.specs.Past.{Image}
use Rattle.disk_trait.specs.Moments.{now}
use Rattle.disk_trait.proofs.MomentLemmas.{on_ok}
use Rattle.lilo_model.specs.MinixEntries.{Entry, entry_of, entries_per_block}
use Rattle.lilo_model.specs.MinixLayout.{entry_size, name_size, number_size, numbers_in_zone, zone_sector}
use Rattle.lilo_model.specs.MinixNames.{pointer, entry}
use Rattle.lilo_model.specs.MinixParts as model
use Rattle.lilo_model.specs.MinixParts.{Pointer}
use Rattle.minix_change_laws.specs.Written.{entry_bytes, place_of_entry, HasEntryBytes}
use Rattle.minix_change_laws.proofs.EntryBytes.{entry_bytes_law}
use Rattle.minix_change_laws.proofs.Images.{enter_bytes_law, enter_directory_bytes_law, redirect_bytes_law, remove_bytes_law}
use Rattle.minix_change_laws.specs.Only.{zone_of_entry}
use Rattle.minix_layout.specs.View.{kind_view, super_view}
use Rattle.minix_steps.specs.Written.{with_sector_of, parts_now}
use Rattle.minix_steps.proofs.RegionLemmas.{zone_behind}
use Rattle.minix_turns.specs.Names.{HooksUnseen, IsPlaceAt, PastUnseen, PastFree, MakesName, MakesDirectory, RedirectsName, RemovesName}
use Rattle.minix_turns.specs.Part.{part_rewritten, TurnsNumber, TurnsEntry}
use Rattle.minix_turns.proofs.EntryLemmas.{entry-long}
use Rattle.minix_turns.proofs.PastLemmas.{past_entry}
use Rattle.minix_turns.proofs.JoinedLemmas.{turn_unseen, turn_leads}
use Rattle.minix_turns.proofs.PastLemmas.{past_entry}
use Rattle.minix_turns.proofs.PartLemmas.{entry_has, number_has}
use Rattle.minix_change_laws.specs.Part.{HasZonePart, number_bytes, offset_of_number, offset_in_block}
use Rattle.minix_change_laws.proofs.Unseen.{seen_number_law, seen_past_law}
use Rattle.minix_zones.specs.Volume.{volume_view, past_of}
use Rattle.minix_zones.specs.declared.volume.Volume.{Volume}

-- ---- a number

module _ {D E : Type 0} {disks : Ghosts D} (old new : Volume D disks) (zone index number : ℕ) (error : E) (result : Result (Unit {0}) E)
    (from : old.layout.first ≤ zone) (below : zone < old.layout.zones) (there : index < numbers_in_zone (kind_view old.layout.kind)) (small : number < 256 ^ number_size (kind_view old.layout.kind))
    (turns : TurnsNumber old new zone index number error result) where
  some-zone : zone ≢ 0
  some-zone same = let some = zone_behind (super_view old.layout) old.span.count old.whole in omega (arith, some, from, same)

  pub hooks_unseen : HooksUnseen old new zone index number
  hooks_unseen directory outer more may =
      turn_unseen old new _ _ error result turns (λ told. (may told).sound)
      (λ told.
      let lies : pointer (super_view old.layout) (parts_now old) directory outer ≡ zone = (may told).lies in
      let P : ℕ → Type 0 = λ z. HasZonePart (volume_view old) (now (past_of old))
      (with_sector_of (volume_view old) (now (past_of old)) (zone_sector zone + offset_of_number (kind_view old.layout.kind) index / 512) (part_rewritten old zone (offset_of_number (kind_view old.layout.kind) index) (number_bytes (kind_view old.layout.kind) number)))
      z (offset_of_number (kind_view old.layout.kind) index) (number_bytes (kind_view old.layout.kind) number) in
      seen_number_law (volume_view old) (now (past_of old)) _ directory outer index number more (may told).sound (may told).hooks
      (λ none. some-zone (sym lies ∙ none)) small
      (subst P (sym lies) (number_has old new zone index number error result below there turns)))

-- ---- an entry

-- bytes at an index of a zone are those of the place that lies there
module _ (volume : model.Volume) (old image : Image) (directory place zone index : ℕ) (bytes : List ℕ) where
  pub part_at : zone_of_entry volume.layout (model.parts_of volume old) directory place ≡ zone → place % entries_per_block volume.layout.kind ≡ index
      → HasZonePart volume old image zone (entry_size volume.layout.kind * index) bytes
      → HasZonePart volume old image (zone_of_entry volume.layout (model.parts_of volume old) directory place) (offset_in_block volume.layout place) bytes
  part_at lies slot has =
      let P : ℕ → ℕ → Type 0 = λ z i. HasZonePart volume old image z (entry_size volume.layout.kind * i) bytes in
      subst₂ P (sym lies) (sym slot) has

  pub entry_at : length bytes ≡ entry_size volume.layout.kind
      → zone_of_entry volume.layout (model.parts_of volume old) directory place ≡ zone → place % entries_per_block volume.layout.kind ≡ index
      → HasZonePart volume old image zone (entry_size volume.layout.kind * index) bytes
      → HasEntryBytes volume old image directory place bytes
  unfolding place_of_entry
  entry_at size lies slot has = let part = part_at lies slot has in record { long = size; here = part.here; others = part.others }

module _ {D E : Type 0} {disks : Ghosts D} (old new : Volume D disks) (zone index : ℕ) (bytes : List ℕ) (error : E) (result : Result (Unit {0}) E)
    (below : zone < old.layout.zones) (there : index < entries_per_block (kind_view old.layout.kind)) (size : length bytes ≡ entry_size (kind_view old.layout.kind))
    (turns : TurnsEntry old new zone index bytes error result) where
  abbrev With : Image
  With = with_sector_of (volume_view old) (now (past_of old)) (zone_sector zone + entry_size (kind_view old.layout.kind) * index / 512) (part_rewritten old zone (entry_size (kind_view old.layout.kind) * index) bytes)

  module _ (directory place : ℕ) (at : IsPlaceAt old directory place zone index) where
    has-part : HasZonePart (volume_view old) (now (past_of old)) With (zone_of_entry (super_view old.layout) (parts_now old) directory place) (offset_in_block (super_view old.layout) place) bytes
    has-part = part_at (volume_view old) (now (past_of old)) With directory place zone index bytes at.lies at.slot (entry_has old new zone index bytes error result below there size turns)

    has-entry : HasEntryBytes (volume_view old) (now (past_of old)) With directory place bytes
    has-entry = entry_at (volume_view old) (now (past_of old)) With directory place zone index bytes size at.lies at.slot (entry_has old new zone index bytes error result below there size turns)

  pub past_unseen : PastUnseen old new zone index
  past_unseen directory place may =
      turn_unseen old new _ _ error result turns (λ told. (may told).at.sound)
      (λ told. seen_past_law (volume_view old) (now (past_of old)) With directory place bytes (may told).at.sound (may told).past size (has-part directory place (may told).at))

  pub past_free : (entry_of (kind_view old.layout.kind) bytes).inode ≡ 0 → PastFree old new zone index result
  past_free free directory place may told =
      let P : Image → Type 0 = λ image. (entry (super_view old.layout) (model.parts_of (volume_view old) image) directory place).inode ≡ 0 in
      on_ok result _ _ (turns.written told)
      (λ is. subst P (sym is)
      (ap (λ (e : Entry). e.inode) (past_entry (volume_view old) (now (past_of old)) With directory place bytes (may told).at.sound (may told).past size (has-part directory place (may told).at)) ∙ free))

  pub removes : (entry_of (kind_view old.layout.kind) bytes).inode ≡ 0 → RemovesName old new zone index result
  removes free outer directory place number name may =
      turn_leads old new _ _ error result turns (name ∷ outer) None None (λ told. (may told).lies.at.sound)
      (λ told. remove_bytes_law (volume_view old) (now (past_of old)) With outer directory place number name bytes
      (may told).lies.at.sound (may told).lies.placed (has-entry directory place (may told).lies.at) free (may told).removes)

module _ {D E : Type 0} {disks : Ghosts D} (old new : Volume D disks) (zone index number : ℕ) (name : List ℕ) (error : E) (result : Result (Unit {0}) E)
    (below : zone < old.layout.zones) (there : index < entries_per_block (kind_view old.layout.kind)) (low : number < 2 ^ 16) (short : length name ≤ name_size (kind_view old.layout.kind))
    (turns : TurnsEntry old new zone index (entry_bytes (kind_view old.layout.kind) number name) error result) where
  abbrev Bytes : List ℕ
  Bytes = entry_bytes (kind_view old.layout.kind) number name

  entry-at : (directory place : ℕ) → IsPlaceAt old directory place zone index
      → HasEntryBytes (volume_view old) (now (past_of old)) (With old new zone index Bytes error result below there (entry-long (kind_view old.layout.kind) number name short) turns) directory place Bytes
  entry-at = has-entry old new zone index Bytes error result below there (entry-long (kind_view old.layout.kind) number name short) turns

  pub makes : MakesName old new zone index number name result
  makes outer directory place may =
      turn_leads old new _ _ error result turns (name ∷ outer) _ _ (λ told. (may told).lies.at.sound)
      (λ told. enter_bytes_law (volume_view old) (now (past_of old)) _ outer directory place number name Bytes
      (may told).lies.at.sound (may told).lies.placed (entry-at directory place (may told).lies.at) (entry_bytes_law (kind_view old.layout.kind) number name low (may told).fits).1 (may told).enters (may told).stands)

  pub makes_directory : MakesDirectory old new zone index number name result
  makes_directory outer directory place may =
      turn_leads old new _ _ error result turns (name ∷ outer) _ _ (λ told. (may told).lies.at.sound)
      (λ told. enter_directory_bytes_law (volume_view old) (now (past_of old)) _ outer directory place number name Bytes
      (may told).lies.at.sound (may told).lies.placed (entry-at directory place (may told).lies.at) (entry_bytes_law (kind_view old.layout.kind) number name low (may told).fits).1 (may told).enters (may told).stands)

  pub redirects : RedirectsName old new zone index number name result
  redirects outer directory place former may =
      turn_leads old new _ _ error result turns (name ∷ outer) _ _ (λ told. (may told).lies.at.sound)
      (λ told. redirect_bytes_law (volume_view old) (now (past_of old)) _ outer directory place former number name Bytes
      (may told).lies.at.sound (may told).lies.placed (entry-at directory place (may told).lies.at) (entry_bytes_law (kind_view old.layout.kind) number name low (may told).fits).1 (may told).removes (may told).stands)
