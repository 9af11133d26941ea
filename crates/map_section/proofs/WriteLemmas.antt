-- A section sector that is written slot by slot.
use Rattle.std.proofs.Common.{◌≡◌, ◌≤◌, ◌<◌, ℕ, ◌+◌, ◌*◌, List, [], ◌∷◌, ◌++◌, length, map, take, add-one, Option, None, Some, Ok, sym, ap, ◌∙◌, arith, append-nil}
use Rattle.std.specs.Prelude.{All, IfSome, slice_index_or}
use Rattle.std.specs.List.{concat}
use Rattle.std.specs.Borrow.{Bor}
use Rattle.std.proofs.Math.Seq.{take-suc, take-length}
use Rattle.std.proofs.lemmas.List.Elements.{All-map}
use Rattle.std.proofs.lemmas.List.{map-append, length-map, length-take-le}
use Rattle.std.proofs.lemmas.List.Folds.{concat-append}
use Rattle.lilo_model.specs.Bytes.{with_part, filled_bytes}
use Rattle.lilo_model.specs.Slots.{slot_bytes}
use Rattle.lilo_model.specs.Section.{slot_parts, link_at, section_bytes}
use Rattle.lilo_model.specs.Lays.{slots_of}
use Rattle.sector_address.specs.declared.slot.Slot.{Slot}
use Rattle.sector_address.specs.View.{slot_view}
use Rattle.map_again_laws.proofs.Parts.{filled-next}
use Rattle.map_again_laws.proofs.SlotAgain.{length-slot}
use Rattle.map_again_laws.specs.Fits.{IsOneSlot}
use Rattle.map_again_laws.proofs.SectionAgain.{length-slots, section-last, section-linked, slots_again_law, link_again_law}
use Rattle.sector_address.specs.Whole.{IsSlot}
use Rattle.map_section.specs.View.{lent_view, IsWritable}

-- the bytes of some slots
abbrev pub bytes_of : List Slot → List ℕ
bytes_of slots = concat (map slot_bytes (map slot_view slots))

-- one slot more is written
pub slots-next :
    (slots : List Slot) (index : ℕ) (other : Slot) (now next : List ℕ) → length slots ≤ 63 → index < length slots
    → now ≡ filled_bytes 512 (bytes_of (take index slots))
    → next ≡ with_part now (8 * index) (slot_bytes (slot_view (slice_index_or slots index other)))
    → next ≡ filled_bytes 512 (bytes_of (take (index + 1) slots))
slots-next slots index other now next few below before put =
    put ∙ ap (λ now. with_part now (8 * index) (slot_bytes (slot_view slot))) before
    ∙ filled-next 512 (bytes_of (take index slots)) (slot_bytes (slot_view slot)) (8 * index) long (omega (arith, below, few, length-slot (slot_view slot)))
    ∙ ap (filled_bytes 512) (sym more)
  where
    slot : Slot
    slot = slice_index_or slots index other

    count : length (map slot_view (take index slots)) ≡ index
    count = length-map (take index slots) slot_view ∙ length-take-le index slots (omega (arith, below))

    long : length (bytes_of (take index slots)) ≡ 8 * index
    long = length-slots (map slot_view (take index slots)) ∙ ap (λ n. 8 * n) count

    more : bytes_of (take (index + 1) slots) ≡ bytes_of (take index slots) ++ slot_bytes (slot_view slot)
    more =
        ap (λ n. bytes_of (take n slots)) (add-one index)
        ∙ ap bytes_of (take-suc slots index other below)
        ∙ ap (λ slots. concat (map slot_bytes slots)) (map-append slot_view (take index slots) (slot ∷ []))
        ∙ ap concat (map-append slot_bytes (map slot_view (take index slots)) (slot_view slot ∷ []))
        ∙ concat-append (map slot_bytes (map slot_view (take index slots))) (slot_bytes (slot_view slot) ∷ [])
        ∙ ap (λ last. bytes_of (take index slots) ++ last) (append-nil (slot_bytes (slot_view slot)))

-- all are written
pub slots-all :
    (slots : List Slot) (index : ℕ) (now : List ℕ) → length slots ≤ index → index ≤ length slots
    → now ≡ filled_bytes 512 (bytes_of (take index slots)) → now ≡ filled_bytes 512 (bytes_of slots)
slots-all slots index now low high is =
    let same : index ≡ length slots = omega (arith, low, high) in
    is ∙ ap (λ slots. filled_bytes 512 (bytes_of slots)) (ap (λ n. take n slots) same ∙ take-length slots)

module _ (slots : List Slot) (few : length slots ≤ 63) where
  few-viewed : length (map slot_view slots) ≤ 63
  few-viewed = omega (arith, few, length-map slots slot_view)

  -- with a link after them, or none
  pub linked-bytes :
      (link : Option (Bor Slot)) (lent : Bor Slot) (now next : List ℕ) → link ≡ Some lent → now ≡ filled_bytes 512 (bytes_of slots)
      → next ≡ with_part now 504 (slot_bytes (slot_view lent.now)) → next ≡ section_bytes (map slot_view slots) (lent_view link)
  linked-bytes link lent now next is all put =
      put ∙ ap (λ now. with_part now 504 (slot_bytes (slot_view lent.now))) all
      ∙ section-linked (map slot_view slots) (slot_view lent.now) few-viewed
      ∙ ap (λ link. section_bytes (map slot_view slots) (lent_view link)) (sym is)

  pub last-bytes :
      (link : Option (Bor Slot)) (now : List ℕ) → link ≡ None → now ≡ filled_bytes 512 (bytes_of slots)
      → now ≡ section_bytes (map slot_view slots) (lent_view link)
  last-bytes link now is all =
      all ∙ section-last (map slot_view slots) few-viewed ∙ ap (λ link. section_bytes (map slot_view slots) (lent_view link)) (sym is)

  -- the slots and the link are read again
  module _ (link : Option (Bor Slot)) (now : List ℕ) (is : now ≡ section_bytes (map slot_view slots) (lent_view link)) where
    pub slots-read : All IsWritable slots → slots_of (slot_parts now) ≡ map slot_view slots
    slots-read whole =
        ap (λ now. slots_of (slot_parts now)) is
        ∙ slots_again_law (map slot_view slots) (lent_view link) (All-map IsSlot slot_view slots whole) few-viewed

    pub link-read : IfSome link (λ lent. IsWritable lent.now) → IfSome link (λ lent. lent.now.count ≡ 1) → (number : ℕ) → link_at number now ≡ Ok (lent_view link)
    link-read whole one number =
        ap (link_at number) is ∙ link_again_law number (map slot_view slots) (lent_view link) few-viewed (by-link link whole one)
      where
        by-link : (link : Option (Bor Slot)) → IfSome link (λ lent. IsWritable lent.now) → IfSome link (λ lent. lent.now.count ≡ 1) → IfSome (lent_view link) IsOneSlot
        by-link None whole one = tt
        by-link (Some lent) whole one = record { whole = whole; one = one }
