-- What is in memory where bytes were placed, and others apart from them after that.
use Rattle.std.proofs.Common.{◌≡◌, ◌≤◌, ◌<◌, ◌+◌, ◌-◌, ◌∙◌, ◌⊎◌, inl, inr, ℕ, refl, ap, List, [], ◌∷◌, ◌++◌, length, arith}
use Rattle.std.specs.Prelude.{slice_index}
use Rattle.std.proofs.lemmas.List.{ext_get_or, length-take, length-drop, get_or-take, get_or-drop}
use Rattle.std.proofs.lemmas.Grind.{common_steps}
use Rattle.lilo_model.specs.Bytes.{part_of}
use Rattle.lilo_model.specs.Place.{Memory, Written, with_bytes, memory_after}
use Rattle.bios_model.specs.Memory.{memory_of}

-- bytes have no address in common with others
abbrev pub IsApart : Written → Written → Type 0
IsApart one other = (one.address + length one.bytes ≤ other.address) ⊎ (other.address + length other.bytes ≤ one.address)

abbrev pub AreApartFrom : Written → List Written → Type 0
AreApartFrom one [] = Unit {0}
AreApartFrom one (other ∷ others) = IsApart one other × AreApartFrom one others

apart_at :
    (m : Memory) (one other : Written) (at : ℕ) → IsApart one other → at < length one.bytes
    → with_bytes m other (one.address + at) ≡ m (one.address + at)
apart_at m one other at (inl before) inside = grind (arith, common_steps)
apart_at m one other at (inr behind) inside = grind (arith, common_steps)

after_at :
    (m : Memory) (one : Written) (others : List Written) (at : ℕ) → AreApartFrom one others → at < length one.bytes
    → memory_after m others (one.address + at) ≡ m (one.address + at)
after_at m one [] at apart inside = refl
after_at m one (other ∷ others) at apart inside =
    after_at (with_bytes m other) one others at apart.1 inside ∙ apart_at m one other at apart.0 inside

here_at :
    (m : Memory) (one : Written) (at : ℕ) → at < length one.bytes → with_bytes m one (one.address + at) ≡ slice_index one.bytes at
here_at m one at inside =
    let same : one.address + at - one.address ≡ at = omega arith in
    grind (arith, common_steps, same)

-- bytes are where they were placed
pub held :
    (ram : List ℕ) (m : Memory) (one : Written) (others : List Written)
    → memory_of ram ≡ memory_after (with_bytes m one) others → AreApartFrom one others
    → one.address + length one.bytes ≤ length ram
    → part_of ram one.address (length one.bytes) ≡ one.bytes
held ram m one others is apart inside =
    let long : length (part_of ram one.address (length one.bytes)) ≡ length one.bytes =
    rw (length-take, length-drop) (omega arith) in
    ext_get_or 0 (part_of ram one.address (length one.bytes)) one.bytes long
    (λ at below.
    let less : at < length one.bytes = omega (arith, long) in
    let read : slice_index (part_of ram one.address (length one.bytes)) at ≡ slice_index ram (one.address + at) =
    grind (arith, common_steps, get_or-take, get_or-drop) in
    read
    ∙ ap (λ (m : Memory). m (one.address + at)) is
    ∙ after_at (with_bytes m one) one others at apart less
    ∙ here_at m one at less)

-- bytes, and others after those
pub memory_after-append :
    (m : Memory) (one other : List Written) → memory_after m (one ++ other) ≡ memory_after (memory_after m one) other
memory_after-append m [] other = refl
memory_after-append m (first ∷ one) other = memory_after-append (with_bytes m first) one other
