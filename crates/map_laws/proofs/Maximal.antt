-- No two neighbouring slots that compacting leaves could be one.
use Rattle.std.proofs.Common.{◌≡◌, ◌≤◌, ℕ, ◌+◌, ◌==◌, Bool, true, false, ◌&&◌, List, [], ◌∷◌, refl, sym, ap, subst, arith}
use Rattle.std.specs.Prelude.{nat_le}
use Rattle.std.proofs.lemmas.Bool.Decides.{nat_tests}
use Rattle.lilo_model.specs.Disks.{Geometry, Machine}
use Rattle.lilo_model.specs.Slots.{Address, Chs, Linear, Lba32, Slot, follows, could_be_one}
use Rattle.lilo_model.specs.Lays.{AreApart}
use Rattle.lilo_model.specs.Plan.{joined_slots}
use Rattle.map_laws.specs.Compact.{CompactLaw}

-- a test that passes with more passes with less
less-fits : (less more limit : ℕ) → less ≤ more → nat_le more limit ≡ true → nat_le less limit ≡ true
less-fits less more limit below fits = grind (arith, nat_tests)

less-follows : (geometry : Geometry) (address : Address) (count : ℕ) (other : Address) (less more : ℕ) → less ≤ more → follows geometry address count other more ≡ true → follows geometry address count other less ≡ true
less-follows geometry (Chs c h s) count (Chs c' h' s') less more below is =
    by (c == c') (h == h') (s + count == s') (nat_le (s' + more) (geometry.sectors + 1)) refl is
  where
    by : (a b d e : Bool) → nat_le (s' + more) (geometry.sectors + 1) ≡ e → (a && b && d && e) ≡ true → (a && b && d && nat_le (s' + less) (geometry.sectors + 1)) ≡ true
    by true true true true fits is = less-fits (s' + less) (s' + more) (geometry.sectors + 1) (omega (arith, below)) fits
    by true true true false fits is = absurd (grind arith)
    by true true false e fits is = absurd (grind arith)
    by true false d e fits is = absurd (grind arith)
    by false b d e fits is = absurd (grind arith)
less-follows geometry (Chs c h s) count (Linear n) less more below is = is
less-follows geometry (Chs c h s) count (Lba32 n) less more below is = is
less-follows geometry (Linear n) count (Chs c' h' s') less more below is = is
less-follows geometry (Linear n) count (Linear n') less more below is = is
less-follows geometry (Linear n) count (Lba32 n') less more below is = is
less-follows geometry (Lba32 n) count (Chs c' h' s') less more below is = is
less-follows geometry (Lba32 n) count (Linear n') less more below is = is
less-follows geometry (Lba32 n) count (Lba32 n') less more below is = is

abbrev longer : Slot → ℕ → Slot
longer slot count = record slot { count = count }

-- two slots that couldn't be one couldn't either where the second is longer
still-apart : (geometry : Geometry) (slot next : Slot) (count : ℕ) → next.count ≤ count → could_be_one geometry slot next ≡ false → could_be_one geometry slot (longer next count) ≡ false
unfolding could_be_one
still-apart geometry slot next count more apart =
    by (slot.disk == next.disk) (nat_le (slot.count + count) 127) (follows geometry slot.address slot.count next.address count) refl refl apart
  where
    by : (disk fits follow : Bool) → nat_le (slot.count + count) 127 ≡ fits → follows geometry slot.address slot.count next.address count ≡ follow
        → (disk && nat_le (slot.count + next.count) 127 && follows geometry slot.address slot.count next.address next.count) ≡ false → (disk && fits && follow) ≡ false
    by false fits follow f g apart = refl
    by true false follow f g apart = refl
    by true true false f g apart = refl
    by true true true f g apart =
        let less = less-fits (slot.count + next.count) (slot.count + count) 127 (omega (arith, more)) f in
        let goes = less-follows geometry slot.address slot.count next.address next.count count more g in
        absurd (none (nat_le (slot.count + next.count) 127) (follows geometry slot.address slot.count next.address next.count) less goes apart)
      where
        none : (a b : Bool) → a ≡ true → b ≡ true → (true && a && b) ≡ false → ⊥
        none a b p q r = grind (arith, p, q, r)

-- slots with one that is held before them: it is the first, perhaps longer, and no two neighbours could be one
record Joined (machine : Machine) (slot : Slot) (others : List Slot) : Type 0 where
  count : ℕ
  rest : List Slot
  is : joined_slots machine slot others ≡ longer slot count ∷ rest
  more : slot.count ≤ count
  apart : AreApart machine (longer slot count ∷ rest)

module _ (machine : Machine) where
  joined : (others : List Slot) (slot : Slot) → Joined machine slot others
  joined [] slot = record { count = slot.count; rest = []; is = refl; more = omega arith; apart = tt }
  joined (next ∷ others) slot = by (could_be_one (machine.geometry_of slot.disk) slot next) refl (λ slot. joined others slot)
    where
      by : (one : Bool) → could_be_one (machine.geometry_of slot.disk) slot next ≡ one → ((slot : Slot) → Joined machine slot others) → Joined machine slot (next ∷ others)
      by true one after =
          let j = after (longer slot (slot.count + next.count)) in
          let more = j.more in
          record { count = j.count; rest = j.rest; is = rw one j.is; more = omega (arith, more); apart = j.apart }
      by false one after =
          let j = after next in
          record {
            count = slot.count;
            rest = longer next j.count ∷ j.rest;
            is = rw one (ap (λ slots. slot ∷ slots) j.is);
            more = omega arith;
            apart = (still-apart (machine.geometry_of slot.disk) slot next j.count j.more one, j.apart);
          }

pub compact_law : CompactLaw
compact_law machine [] = tt
compact_law machine (slot ∷ others) = let j = joined machine others slot in subst (AreApart machine) (sym j.is) j.apart
