-- Entries in the bytes of a block, of which one is replaced.
use Rattle.std.proofs.Common.{◌≡◌, ◌≢◌, ℕ, ◌+◌, ◌*◌, ◌/◌, ◌%◌, ◌<◌, ◌≤◌, ◌⊎◌, Bool, true, false, nat_lt, List, ◌++◌, length, take, drop, refl, sym, ◌∙◌, ap, arith, append_assoc, length-drop, inl, inr}
use Rattle.std.proofs.lemmas.Bool.{ltb-true, ltb-false}
use Rattle.std.proofs.lemmas.List.{length-take-le, take-append-le, drop-append-le}
use Rattle.std.proofs.Math.Seq.{take-append_seam, drop-append_seam, take-append-add, drop-append-add}
use Rattle.lilo_model.specs.Bytes.{part_of, with_part}
use Rattle.lilo_model.specs.MinixLayout.{Kind, V1Short, V1Long, V2Short, V2Long, entry_size}
use Rattle.lilo_model.specs.MinixParts.{blocks_for}
use Rattle.lilo_model.specs.MinixEntries.{entries_per_block, places}

-- ---- places

pub entry-fits : (kind : Kind) (index : ℕ) → index < entries_per_block kind → entry_size kind * index + entry_size kind ≤ 1024
entry-fits V1Short index low = omega (arith, low)
entry-fits V1Long index low = omega (arith, low)
entry-fits V2Short index low = omega (arith, low)
entry-fits V2Long index low = omega (arith, low)

pub entry-in_sector : (kind : Kind) (index : ℕ) → index < entries_per_block kind → entry_size kind * index % 512 + entry_size kind ≤ 512
entry-in_sector V1Short index low = omega (arith, low)
entry-in_sector V1Long index low = omega (arith, low)
entry-in_sector V2Short index low = omega (arith, low)
entry-in_sector V2Long index low = omega (arith, low)

pub some-entry : (kind : Kind) → 0 < entry_size kind
some-entry V1Short = omega arith
some-entry V1Long = omega arith
some-entry V2Short = omega arith
some-entry V2Long = omega arith

pub index-below : (kind : Kind) (place : ℕ) → place % entries_per_block kind < entries_per_block kind
index-below V1Short place = omega arith
index-below V1Long place = omega arith
index-below V2Short place = omega arith
index-below V2Long place = omega arith

-- a place is known from its block and its place there
pub place-known : (kind : Kind) (one other : ℕ) → one / entries_per_block kind ≡ other / entries_per_block kind → one % entries_per_block kind ≡ other % entries_per_block kind → one ≡ other
place-known V1Short one other block index = omega (arith, block, index)
place-known V1Long one other block index = omega (arith, block, index)
place-known V2Short one other block index = omega (arith, block, index)
place-known V2Long one other block index = omega (arith, block, index)

-- a place lies in one of the blocks of a size
pub block-below : (kind : Kind) (size place : ℕ) → place < places kind size → place / entries_per_block kind < blocks_for size
block-below V1Short size place low = omega (arith, low)
block-below V1Long size place low = omega (arith, low)
block-below V2Short size place low = omega (arith, low)
block-below V2Long size place low = omega (arith, low)

behind : (kind : Kind) (one other : ℕ) → one < other → entry_size kind * one + entry_size kind ≤ entry_size kind * other
behind V1Short one other low = omega (arith, low)
behind V1Long one other low = omega (arith, low)
behind V2Short one other low = omega (arith, low)
behind V2Long one other low = omega (arith, low)

-- two entries of a block lie apart
pub entries-apart : (kind : Kind) (one other : ℕ) → one ≢ other → (entry_size kind * one + entry_size kind ≤ entry_size kind * other) ⊎ (entry_size kind * other + entry_size kind ≤ entry_size kind * one)
entries-apart kind one other apart = by_test _ refl
  where
    by_test : (test : Bool) → nat_lt one other ≡ test → (entry_size kind * one + entry_size kind ≤ entry_size kind * other) ⊎ (entry_size kind * other + entry_size kind ≤ entry_size kind * one)
    by_test true is = inl (behind kind one other (ltb-true one other is))
    by_test false is = let low : other ≤ one = ltb-false one other is in inr (behind kind other one (omega (arith, low, apart)))

-- ---- replaced parts

-- the part that is replaced
pub part-same : (bytes : List ℕ) (at : ℕ) (new : List ℕ) → at + length new ≤ length bytes → part_of (with_part bytes at new) at (length new) ≡ new
part-same bytes at new inside =
    let start : length (take at bytes) ≡ at = length-take-le at bytes (omega (arith, inside)) in
    ap (λ n. take (length new) (drop n (take at bytes ++ (new ++ drop (length new) (drop at bytes))))) (sym start)
    ∙ (ap (take (length new)) (drop-append_seam (take at bytes) (new ++ drop (length new) (drop at bytes)))
    ∙ take-append_seam new (drop (length new) (drop at bytes)))

with_part-low : (low high : List ℕ) (at : ℕ) (new : List ℕ) → at + length new ≤ length low → with_part (low ++ high) at new ≡ with_part low at new ++ high
with_part-low low high at new inside =
    let first : at ≤ length low = omega (arith, inside) in
    let rest : length new ≤ length (drop at low) = omega (arith, inside, length-drop at low) in
    ap (λ start. start ++ (new ++ drop (length new) (drop at (low ++ high)))) (take-append-le at low high first)
    ∙ (ap (λ end. take at low ++ (new ++ drop (length new) end)) (drop-append-le at low high first)
    ∙ (ap (λ end. take at low ++ (new ++ end)) (drop-append-le (length new) (drop at low) high rest)
    ∙ simp append_assoc))

with_part-high : (low high : List ℕ) (at : ℕ) (new : List ℕ) → with_part (low ++ high) (length low + at) new ≡ low ++ with_part high at new
with_part-high low high at new =
    ap (λ start. start ++ (new ++ drop (length new) (drop (length low + at) (low ++ high)))) (take-append-add low high at)
    ∙ (ap (λ end. (low ++ take at high) ++ (new ++ drop (length new) end)) (drop-append-add low high at)
    ∙ simp append_assoc)

-- two sectors, of which one has another part
module _ (old image : ℕ → List ℕ) (base offset : ℕ) (new : List ℕ) where
  pub halves : length (old base) ≡ 512 → offset < 1024 → offset % 512 + length new ≤ 512 → image (base + offset / 512) ≡ with_part (old (base + offset / 512)) (offset % 512) new
      → ((sector : ℕ) → (sector ≡ base) ⊎ (sector ≡ base + 1) → sector ≢ base + offset / 512 → image sector ≡ old sector)
      → image base ++ image (base + 1) ≡ with_part (old base ++ old (base + 1)) offset new
  halves long below inside here others = by_half _ refl
    where
      at_sector : (sector at : ℕ) → base + offset / 512 ≡ sector → offset % 512 ≡ at → image sector ≡ with_part (old sector) at new
      at_sector sector at one two =
          ap image (sym one) ∙ (here ∙ (ap (λ n. with_part (old n) (offset % 512) new) one ∙ ap (λ n. with_part (old sector) n new) two))

      by_half : (test : Bool) → nat_lt offset 512 ≡ test → image base ++ image (base + 1) ≡ with_part (old base ++ old (base + 1)) offset new
      by_half true is =
          let small : offset < 512 = ltb-true offset 512 is in
          ap (λ first. first ++ image (base + 1)) (at_sector base offset (omega (arith, small)) (omega (arith, small)))
          ∙ (ap (λ last. with_part (old base) offset new ++ last) (others (base + 1) (inr refl) (λ e. absurd (omega (arith, e, small))))
          ∙ sym (with_part-low (old base) (old (base + 1)) offset new (omega (arith, long, small, inside))))
      by_half false is =
          let large : 512 ≤ offset = ltb-false offset 512 is in
          let place : length (old base) + offset % 512 ≡ offset = omega (arith, long, large, below) in
          ap (λ first. first ++ image (base + 1)) (others base (inl refl) (λ e. absurd (omega (arith, e, large, below))))
          ∙ (ap (λ last. old base ++ last) (at_sector (base + 1) (offset % 512) (omega (arith, large, below)) refl)
          ∙ (sym (with_part-high (old base) (old (base + 1)) (offset % 512) new)
          ∙ ap (λ n. with_part (old base ++ old (base + 1)) n new) place))
