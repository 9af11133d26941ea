-- A file whose inode and indirect zones have the numbers that were chosen for it.
use Rattle.std.proofs.Common.{◌≡◌, ◌≢◌, ◌≤◌, ◌<◌, ℕ, zero, suc, Bool, true, false, List, [], ◌∷◌, take, refl, sym, ap, ◌∙◌, subst, arith, eq-eqb}
use Rattle.std.specs.Prelude.{◌==◌, slice_index}
use Rattle.std.proofs.lemmas.Bool.{eqb-true}
use Rattle.lilo_model.specs.MinixLayout.{Super, numbers_in_zone, reach}
use Rattle.lilo_model.specs.MinixParts.{Parts, Pointer, IsPointer, number_below, follow, block_pointer, zone_bytes, blocks_for}
use Rattle.lilo_model.specs.MinixNames.{pointer, zone_number, block, blocks, content, PointsTo, Refers}
use Rattle.minix_laws.proofs.Inside.{is_pointer-block, some_numbers}
use Rattle.minix_choice_laws.specs.Sources.{FileZones, zone_from, below_source, source_below, source_by, source_of}
use Rattle.minix_choice_laws.specs.FillLaws.{MayBeFile, HasZones, PointersLaw, ContentLaw, AreNewZones, FitFilledLaw, FilledLaw}
use Rattle.minix_choice_laws.proofs.Pointers.{outer_place, pointers_once, block_leads}

module _ (super : Super) (parts : Parts) (number : ℕ) (zones : FileZones) (may : MayBeFile super.kind zones) (has : HasZones super parts number zones) where
  abbrev per : ℕ
  per = numbers_in_zone super.kind

  -- what a number in an indirect zone leads to, made or not
  below_by : (place index : ℕ) → index < per → (hole : Bool) → (slice_index zones.indirect place == 0) ≡ hole
      → number_below super.kind parts.zone (slice_index zones.indirect place) index ≡ zone_from zones (below_source per place index)
  below_by place index small true hole = rw hole (sym (may.holes place index small (eqb-true (slice_index zones.indirect place) 0 hole)))
  below_by place index small false hole =
      let some : slice_index zones.indirect place ≢ 0 = λ e. let t = eq-eqb (slice_index zones.indirect place) 0 e in cc in
      rw hole (has.rows place index some small)

  follows : (top : ℕ) (trail : List ℕ) → IsPointer super.kind (record { top = top; trail = trail })
      → follow super.kind parts.zone (slice_index (parts.node number).zones top) trail ≡ zone_from zones (source_by per top trail)
  unfolding follow
  follows top [] is = has.tops top is.ten
  follows top (index ∷ before) is =
      let outer : IsPointer super.kind (record { top = top; trail = before }) = record {
        ten = is.ten;
        deep = omega (arith, is.deep);
        within = λ k d below. is.within (suc k) d (omega (arith, below));
      } in
      let small : index < per = is.within 0 0 (omega arith) in
      let found = outer_place per top before (some_numbers super.kind) is.ten (omega (arith, is.deep)) outer.within in
      let place : ℕ = found.0 in
      ap (λ zone. number_below super.kind parts.zone zone index) (follows top before outer ∙ ap (zone_from zones) found.1)
      ∙ below_by place index small _ refl
      ∙ sym (ap (λ source. zone_from zones (source_below per source index)) found.1)

  pointers : (at : Pointer) → IsPointer super.kind at → pointer super parts number at ≡ zone_from zones (source_of per at)
  pointers at is = follows at.top at.trail is

  -- the content

  block_zone : (index : ℕ) → index < reach super.kind → zone_number super parts number index ≡ slice_index zones.blocks index
  unfolding zone_number
  block_zone index below =
      pointers (block_pointer super.kind index) (is_pointer-block super.kind index) ∙ ap (zone_from zones) (block_leads super.kind index below)

  block_bytes : (index : ℕ) → index < reach super.kind → block super parts number index ≡ zone_bytes parts (slice_index zones.blocks index)
  unfolding block
  block_bytes index below = ap (zone_bytes parts) (block_zone index below)

  all_blocks : (count : ℕ) → count ≤ reach super.kind
      → blocks (block super parts number) count ≡ blocks (λ index. zone_bytes parts (slice_index zones.blocks index)) count
  all_blocks zero few = refl
  all_blocks (suc count) few = rw (all_blocks count (omega (arith, few)), block_bytes count (omega (arith, few))) refl

  contents : blocks_for (parts.node number).size ≤ reach super.kind → content super parts number
      ≡ take (parts.node number).size (blocks (λ index. zone_bytes parts (slice_index zones.blocks index)) (blocks_for (parts.node number).size))
  unfolding content
  contents few = ap (take (parts.node number).size) (all_blocks (blocks_for (parts.node number).size) few)

  -- the zones

  module _ (new : AreNewZones super parts zones) where
    leads : (at : Pointer) (zone : ℕ) → PointsTo super parts number at zone → zone_from zones (source_of per at) ≡ zone
    leads at zone to = sym (pointers at to.place) ∙ to.is

    some_zone : (at : Pointer) (zone : ℕ) → PointsTo super parts number at zone → zone_from zones (source_of per at) ≢ 0
    some_zone at zone to none = to.some (sym (leads at zone to) ∙ none)

    at_zone : (P : ℕ → Type 0) (at : Pointer) (zone : ℕ) → PointsTo super parts number at zone → P (zone_from zones (source_of per at)) → P zone
    at_zone P at zone to holds = subst P (leads at zone to) holds

    -- no named inode refers to one
    unused : (at : Pointer) (zone : ℕ) → PointsTo super parts number at zone → (other : ℕ) (there : Pointer) → Refers super parts other there zone → ⊥
    unused at zone to other there refers =
        new.unused (source_of per at) (some_zone at zone to) other there
        (record {
          named = refers.named;
          to = record { kind = refers.to.kind; place = refers.to.place; is = refers.to.is ∙ sym (leads at zone to); some = some_zone at zone to };
        })

pub pointers_law : PointersLaw
pointers_law super parts number zones at may has is = pointers super parts number zones may has at is

pub content_law : ContentLaw
content_law super parts number zones may has few = contents super parts number zones may has few

pub fit_filled_law : FitFilledLaw
fit_filled_law super parts number zones may has inode new = record {
  range = inode.range;
  marked = inode.marked;
  mode = inode.mode;
  size = inode.size;
  zone_range = λ at zone to.
      at_zone super parts number zones may has new (λ z. (super.first ≤ z) × (z < super.zones)) at zone to
      (new.range (source_of (numbers_in_zone super.kind) at) (some_zone super parts number zones may has new at zone to));
  zone_marked = λ at zone to.
      at_zone super parts number zones may has new (λ z. parts.has_zone z ≡ true) at zone to
      (new.marked (source_of (numbers_in_zone super.kind) at) (some_zone super parts number zones may has new at zone to));
  once = λ at there zone one other.
      pointers_once (numbers_in_zone super.kind) (some_numbers super.kind) super.kind refl at there one.place other.place
      (may.once (source_of (numbers_in_zone super.kind) at) (source_of (numbers_in_zone super.kind) there)
      (leads super parts number zones may has new at zone one ∙ sym (leads super parts number zones may has new there zone other))
      (some_zone super parts number zones may has new at zone one));
  apart = λ other at there zone to refers. absurd (unused super parts number zones may has new at zone to other there refers);
}

pub filled_law : FilledLaw
filled_law super parts number zones may has inode new file =
    let fit = fit_filled_law super parts number zones may has inode new in
    record {
      unnamed = inode.unnamed;
      file = file;
      range = fit.range;
      marked = fit.marked;
      mode = fit.mode;
      size = fit.size;
      some_link = inode.some_link;
      zone_range = fit.zone_range;
      zone_marked = fit.zone_marked;
      once = fit.once;
      unused = unused super parts number zones may has new;
    }
