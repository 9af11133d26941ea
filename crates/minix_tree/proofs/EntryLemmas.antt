-- The entries of a block.
use Rattle.std.proofs.Common.{◌≡◌, ◌≢◌, ◌≤◌, ◌<◌, ◌+◌, ◌*◌, ◌-◌, ◌==◌, ℕ, zero, suc, List, [], ◌∷◌, Bool, true, false, All, refl, sym, ◌∙◌, ap, arith}
use Rattle.std.proofs.lemmas.Bool.{eq-eqb, ne_eqb}
use Rattle.std.proofs.lemmas.List.{drop-take, drop-drop, take-take}
use Rattle.std.proofs.lemmas.List.Elements.{All-cons}
use Rattle.lilo_model.specs.Bytes.{part_of, name_in}
use Rattle.lilo_model.specs.MinixLayout.{Kind, V1Short, V1Long, V2Short, V2Long, entry_size, name_size}
use Rattle.lilo_model.specs.MinixEntries.{PlacedEntry, entry_of, placed_entry, entries_per_block}
use Rattle.minix_tree.specs.Placed.{placed_from}

pub placed-free : (kind : Kind) (block : List ℕ) (place count : ℕ) → ((placed_entry kind block place).inode == 0) ≡ true
    → placed_from kind block place (suc count) ≡ placed_from kind block (place + 1) count
unfolding placed_from
placed-free kind block place count free = rw free refl

pub placed-used : (kind : Kind) (block : List ℕ) (place count : ℕ) → ((placed_entry kind block place).inode == 0) ≡ false
    → placed_from kind block place (suc count) ≡ placed_entry kind block place ∷ placed_from kind block (place + 1) count
unfolding placed_from
placed-used kind block place count used = rw used refl

-- a free entry is passed
pub passes_free : (kind : Kind) (block : List ℕ) (place end : ℕ) (entry : PlacedEntry) → place < end
    → entry ≡ placed_entry kind block place → entry.inode ≡ 0
    → placed_from kind block place (end - place) ≡ placed_from kind block (place + 1) (end - (place + 1))
passes_free kind block place end entry more is free =
    let e : end - place ≡ suc (end - (place + 1)) = omega arith in
    let I : PlacedEntry → ℕ = λ p. p.inode in
    ap (placed_from kind block place) e
    ∙ placed-free kind block place (end - (place + 1)) (eq-eqb ((placed_entry kind block place).inode) 0 (sym (ap I is) ∙ free))

-- another one is the first that is left
pub gives_used : (kind : Kind) (block : List ℕ) (place end : ℕ) (entry : PlacedEntry) → place < end
    → entry ≡ placed_entry kind block place → entry.inode ≢ 0
    → placed_from kind block place (end - place) ≡ entry ∷ placed_from kind block (place + 1) (end - (place + 1))
gives_used kind block place end entry more is used =
    let e : end - place ≡ suc (end - (place + 1)) = omega arith in
    let I : PlacedEntry → ℕ = λ p. p.inode in
    let L : PlacedEntry → List PlacedEntry = λ p. p ∷ placed_from kind block (place + 1) (end - (place + 1)) in
    ap (placed_from kind block place) e
    ∙ placed-used kind block place (end - (place + 1)) (ne_eqb ((placed_entry kind block place).inode) 0 (λ zero. used (ap I is ∙ zero)))
    ∙ ap L (sym is)

-- nothing is left at the end
pub none_left : (kind : Kind) (block : List ℕ) (place end : ℕ) → end ≤ place → placed_from kind block place (end - place) ≡ []
unfolding placed_from
none_left kind block place end all =
    let e : end - place ≡ 0 = omega arith in
    rw e refl

-- ---- where their names lie

-- a part of a part
part_within : (block : List ℕ) (at size inner count : ℕ) → inner + count ≤ size
    → part_of (part_of block at size) inner count ≡ part_of block (at + inner) count
part_within block at size inner count fits =
    let e : size ≡ inner + (size - inner) = omega arith in
    let f : count ≤ size - inner = omega arith in
    rw (e, drop-take, take-take, drop-drop) refl

name_within : (kind : Kind) (block : List ℕ) (at : ℕ)
    → name_in (part_of block at (entry_size kind)) 2 (name_size kind) ≡ name_in block (at + 2) (name_size kind)
name_within kind block at =
    let fits : 2 + name_size kind ≤ entry_size kind = omega arith in
    rw (part_within block at (entry_size kind) 2 (name_size kind) fits) refl

abbrev IsSlice : Kind → List ℕ → PlacedEntry → Type 0
IsSlice kind block entry = entry.name ≡ name_in block (entry.at + 2) (name_size kind)

abbrev LiesInside : Kind → PlacedEntry → Type 0
LiesInside kind entry = entry.at + entry_size kind ≤ 1024

-- each name is a slice of its block
slice_here : (kind : Kind) (block : List ℕ) (place : ℕ) → IsSlice kind block (placed_entry kind block place)
unfolding entry_of
slice_here kind block place = name_within kind block (entry_size kind * place)

inside_here : (kind : Kind) (block : List ℕ) (place : ℕ) → place < entries_per_block kind → LiesInside kind (placed_entry kind block place)
inside_here V1Short block place below = omega arith
inside_here V1Long block place below = omega arith
inside_here V2Short block place below = omega arith
inside_here V2Long block place below = omega arith

slices_by : (test : Bool) (kind : Kind) (block : List ℕ) (place count : ℕ) → ((placed_entry kind block place).inode == 0) ≡ test
    → All (IsSlice kind block) (placed_from kind block (place + 1) count)
    → All (IsSlice kind block) (placed_from kind block place (suc count))
slices_by true kind block place count is rest = rw (placed-free kind block place count is) rest
slices_by false kind block place count is rest = rw (placed-used kind block place count is) (All-cons (IsSlice kind block) (placed_entry kind block place) (placed_from kind block (place + 1) count) (slice_here kind block place) rest)

pub slices : (kind : Kind) (block : List ℕ) (place count : ℕ) → All (IsSlice kind block) (placed_from kind block place count)
unfolding placed_from
slices kind block place zero = λ k d below. absurd (omega arith)
slices kind block place (suc count) =
    slices_by ((placed_entry kind block place).inode == 0) kind block place count refl (slices kind block (place + 1) count)

insides_by : (test : Bool) (kind : Kind) (block : List ℕ) (place count : ℕ) → ((placed_entry kind block place).inode == 0) ≡ test
    → place < entries_per_block kind
    → All (LiesInside kind) (placed_from kind block (place + 1) count)
    → All (LiesInside kind) (placed_from kind block place (suc count))
insides_by true kind block place count is below rest = rw (placed-free kind block place count is) rest
insides_by false kind block place count is below rest = rw (placed-used kind block place count is) (All-cons (LiesInside kind) (placed_entry kind block place) (placed_from kind block (place + 1) count) (inside_here kind block place below) rest)

pub insides : (kind : Kind) (block : List ℕ) (place count : ℕ) → place + count ≤ entries_per_block kind → All (LiesInside kind) (placed_from kind block place count)
unfolding placed_from
insides kind block place zero fits = λ k d below. absurd (omega arith)
insides kind block place (suc count) fits =
    insides_by ((placed_entry kind block place).inode == 0) kind block place count refl (omega arith) (insides kind block (place + 1) count (omega arith))
