-- The slots and the link of a section sector that is written are read again.
use Rattle.std.proofs.Common.{◌≡◌, ◌≤◌, ℕ, zero, suc, ◌+◌, ◌-◌, ◌*◌, List, [], ◌∷◌, ◌++◌, map, length, take, drop, replicate, Option, None, Some, Ok, refl, sym, ap, subst, ◌∙◌, arith, append_assoc, append-nil, length-append}
use Rattle.std.specs.Prelude.{IfSome}
use Rattle.std.specs.List.{concat, range_with_len, AllByRecursion}
use Rattle.std.proofs.Math.Seq.{drop-append_seam}
use Rattle.std.proofs.lemmas.List.{drop-drop, replicate-append-replicate}
use Rattle.std.proofs.lemmas.List.Elements.{recursion_from_All}
use Rattle.lilo_model.specs.Bytes.{is_zero, part_of, with_part, filled_bytes}
use Rattle.lilo_model.specs.Slots.{Slot, slot_at, slot_bytes, optional_bytes}
use Rattle.lilo_model.specs.Section.{link_of, link_at, section_bytes}
use Rattle.lilo_model.specs.Lays.{slots_of}
use Rattle.sector_address.specs.Whole.{IsSlot}
use Rattle.sector_address.proofs.BytesLemmas.{encode_law}
use Rattle.map_again_laws.specs.Fits.{IsOneSlot}
use Rattle.map_again_laws.specs.Laws.{SlotsAgainLaw, LinkAgainLaw}
use Rattle.map_again_laws.proofs.Parts.{part-prefix, part-between, part-in, part-all, length-filled}
use Rattle.map_again_laws.proofs.SlotAgain.{length-slot, length-optional}

-- ---- parts of eight bytes

abbrev pub eights : ℕ → List ℕ → List (List ℕ)
eights zero bytes = []
eights (suc more) bytes = take 8 bytes ∷ eights more (drop 8 bytes)

drop-eight : (bytes : List ℕ) (at : ℕ) → drop 8 (drop (8 * at) bytes) ≡ drop (8 * (at + 1)) bytes
drop-eight bytes at = drop-drop 8 (8 * at) bytes ∙ ap (λ n. drop n bytes) (omega arith)

pub parts-eights : (bytes : List ℕ) (at count : ℕ) → map (λ index. part_of bytes (8 * index) 8) (range_with_len at count) ≡ eights count (drop (8 * at) bytes)
parts-eights bytes at zero = refl
parts-eights bytes at (suc count) =
    ap (λ parts. part_of bytes (8 * at) 8 ∷ parts) (parts-eights bytes (at + 1) count ∙ ap (eights count) (sym (drop-eight bytes at)))

-- the bytes of a slot before others
pub slot-prefix : (slot : Slot) (others : List ℕ) → take 8 (slot_bytes slot ++ others) ≡ slot_bytes slot
slot-prefix slot others = part-prefix (slot_bytes slot) others 8 (length-slot slot)

pub slot-after : (slot : Slot) (others : List ℕ) → drop 8 (slot_bytes slot ++ others) ≡ others
slot-after slot others = subst (λ n. drop n (slot_bytes slot ++ others) ≡ others) (length-slot slot) (drop-append_seam (slot_bytes slot) others)

pub length-slots : (slots : List Slot) → length (concat (map slot_bytes slots)) ≡ 8 * length slots
length-slots [] = refl
length-slots (slot ∷ slots) =
    length-append (slot_bytes slot) (concat (map slot_bytes slots)) ∙ ap (λ n. n + length (concat (map slot_bytes slots))) (length-slot slot)
    ∙ ap (λ n. 8 + n) (length-slots slots) ∙ omega arith

-- ---- the slots

pub zeros-again : (count zeros : ℕ) (tail : List ℕ) → 8 * count ≤ zeros → slots_of (eights count (replicate zeros 0 ++ tail)) ≡ []
unfolding slot_at is_zero
zeros-again zero zeros tail fits = refl
zeros-again (suc count) (suc (suc (suc (suc (suc (suc (suc (suc zeros)))))))) tail fits = refl
zeros-again (suc count) _ tail fits = absurd (omega (arith, fits))

slots-again : (slots : List Slot) (count zeros : ℕ) (tail : List ℕ) → AllByRecursion IsSlot slots → length slots ≤ count → 8 * count ≤ 8 * length slots + zeros
    → slots_of (eights count (concat (map slot_bytes slots) ++ (replicate zeros 0 ++ tail))) ≡ slots
slots-again [] count zeros tail are few fits = zeros-again count zeros tail (omega (arith, fits))
slots-again (slot ∷ slots) zero zeros tail are few fits = absurd (omega (arith, few))
slots-again (slot ∷ slots) (suc count) zeros tail are few fits =
    let others = concat (map slot_bytes slots) ++ (replicate zeros 0 ++ tail) in
    let assoc = append_assoc (slot_bytes slot) (concat (map slot_bytes slots)) (replicate zeros 0 ++ tail) in
    ap (λ bytes. slots_of (take 8 bytes ∷ eights count (drop 8 bytes))) assoc
    ∙ ap (λ bytes. slots_of (bytes ∷ eights count (drop 8 (slot_bytes slot ++ others)))) (slot-prefix slot others)
    ∙ ap (λ bytes. slots_of (slot_bytes slot ∷ eights count bytes)) (slot-after slot others)
    ∙ first
    ∙ ap (λ slots. slot ∷ slots) (slots-again slots count zeros tail are.1 (omega (arith, few)) (omega (arith, fits)))
  where
    first : slots_of (slot_bytes slot ∷ eights count (concat (map slot_bytes slots) ++ (replicate zeros 0 ++ tail))) ≡ slot ∷ slots_of (eights count (concat (map slot_bytes slots) ++ (replicate zeros 0 ++ tail)))
    first = rw (encode_law slot are.0) refl

pub slots_again_law : SlotsAgainLaw
unfolding section_bytes
slots_again_law slots link are few =
    let bytes = concat (map slot_bytes slots) in
    let long : length bytes ≡ 8 * length slots = length-slots slots in
    ap slots_of (parts-eights (section_bytes slots link) 0 63)
    ∙ ap (λ bytes. slots_of (eights 63 bytes)) (append_assoc bytes (replicate (504 - length bytes) 0) (optional_bytes link))
    ∙ slots-again slots 63 (504 - length bytes) (optional_bytes link) (recursion_from_All IsSlot slots are) few (omega (arith, long, few))

-- ---- the link

link-part : (bytes : List ℕ) → length bytes ≡ 504 → (link : Option Slot) → part_of (bytes ++ optional_bytes link) 504 8 ≡ optional_bytes link
link-part bytes size link =
    ap (λ all. part_of (bytes ++ all) 504 8) (sym (append-nil (optional_bytes link)))
    ∙ part-between bytes (optional_bytes link) [] 504 8 size (length-optional link)

optional-link : (number : ℕ) (link : Option Slot) → IfSome link IsOneSlot → link_of number (slot_at (optional_bytes link)) ≡ Ok link
unfolding slot_at is_zero
optional-link number None is = refl
optional-link number (Some slot) is = ap (link_of number) (encode_law slot is.whole) ∙ one
  where
    one : link_of number (Ok (Some slot)) ≡ Ok (Some slot)
    one = rw is.one refl

pub link_again_law : LinkAgainLaw
unfolding link_at section_bytes
link_again_law number slots link few is =
    let bytes = concat (map slot_bytes slots) in
    let long : length bytes ≡ 8 * length slots = length-slots slots in
    let size : length (filled_bytes 504 bytes) ≡ 504 = length-filled 504 bytes (omega (arith, long, few)) in
    ap (λ part. link_of number (slot_at part)) (link-part (filled_bytes 504 bytes) size link) ∙ optional-link number link is

-- ---- a section sector that is written

-- zeros fill the place of the link too
zeros-split : (bytes : List ℕ) → length bytes ≤ 504 → filled_bytes 512 bytes ≡ filled_bytes 504 bytes ++ replicate 8 0
zeros-split bytes few =
    let more : 512 - length bytes ≡ (504 - length bytes) + 8 = omega (arith, few) in
    ap (λ n. bytes ++ replicate n 0) more ∙ ap (λ zeros. bytes ++ zeros) (sym (replicate-append-replicate (504 - length bytes) 8 0))
    ∙ sym (append_assoc bytes (replicate (504 - length bytes) 0) (replicate 8 0))

-- without a link
pub section-last : (slots : List Slot) → length slots ≤ 63 → filled_bytes 512 (concat (map slot_bytes slots)) ≡ section_bytes slots None
unfolding section_bytes
section-last slots few = zeros-split (concat (map slot_bytes slots)) (omega (arith, length-slots slots, few))

-- with one
pub section-linked : (slots : List Slot) (link : Slot) → length slots ≤ 63 → with_part (filled_bytes 512 (concat (map slot_bytes slots))) 504 (slot_bytes link) ≡ section_bytes slots (Some link)
unfolding section_bytes
section-linked slots link few =
    let bytes = concat (map slot_bytes slots) in
    let filled = filled_bytes 504 bytes in
    let size : length filled ≡ 504 = length-filled 504 bytes (omega (arith, length-slots slots, few)) in
    ap (λ all. with_part all 504 (slot_bytes link)) (zeros-split bytes (omega (arith, length-slots slots, few)) ∙ ap (λ zeros. filled ++ zeros) (sym (append-nil (replicate 8 0))))
    ∙ part-in filled (replicate 8 0) [] 0 504 (slot_bytes link) (omega (arith, size)) (omega (arith, length-slot link))
    ∙ ap (λ last. filled ++ last) (append-nil (with_part (replicate 8 0) 0 (slot_bytes link)) ∙ part-all (replicate 8 0) (slot_bytes link) (length-slot link))
