-- Joined slots are no more than were reckoned with holes that adjoin nothing.
use Rattle.std.proofs.Common.{◌≡◌, ◌≤◌, ℕ, ◌+◌, ◌==◌, Bool, true, false, ◌&&◌, if◌then◌else◌, List, [], ◌∷◌, map, length, Option, None, Some, refl, sym, ap, ◌∙◌, arith, eqb-true}
use Rattle.std.specs.Prelude.{nat_le, unwrap_or}
use Rattle.std.proofs.lemmas.Bool.Decides.{nat_tests}
use Rattle.lilo_model.specs.Disks.{Machine, Geometry}
use Rattle.lilo_model.specs.Slots.{Slot, Address, Chs, Linear, Lba32, follows, could_be_one}
use Rattle.lilo_model.specs.Plan.{joined_slots, slots_after}

-- two runs of sectors end alike
abbrev EndAlike : Address → ℕ → Address → ℕ → Type 0
EndAlike (Chs c h s) n (Chs c' h' s') n' = (c ≡ c') × (h ≡ h') × (s + n ≡ s' + n')
EndAlike (Linear s) n (Linear s') n' = s + n ≡ s' + n'
EndAlike (Lba32 s) n (Lba32 s') n' = s + n ≡ s' + n'
EndAlike _ n _ n' = ⊥

-- a slot ends where another one does, and isn't longer
record Shorter (slot other : Slot) : Type 0 where
  disk : slot.disk ≡ other.disk
  count : slot.count ≤ other.count
  ends : EndAlike slot.address slot.count other.address other.count

abbrev longer : Slot → Slot → Slot
longer slot next = record slot { count = slot.count + next.count }

alike-refl : (address : Address) (n : ℕ) → EndAlike address n address n
alike-refl (Chs c h s) n = (refl, refl, refl)
alike-refl (Linear s) n = refl
alike-refl (Lba32 s) n = refl

alike-more : (a b : Address) (n m k : ℕ) → EndAlike a n b m → EndAlike a (n + k) b (m + k)
alike-more (Chs c h s) (Chs c' h' s') n m k e = (e.0, e.1, let is = e.2 in omega (arith, is))
alike-more (Linear s) (Linear s') n m k e = omega (arith, e)
alike-more (Lba32 s) (Lba32 s') n m k e = omega (arith, e)
alike-more (Chs c h s) (Linear s') n m k e = absurd e
alike-more (Chs c h s) (Lba32 s') n m k e = absurd e
alike-more (Linear s) (Chs c h s') n m k e = absurd e
alike-more (Linear s) (Lba32 s') n m k e = absurd e
alike-more (Lba32 s) (Chs c h s') n m k e = absurd e
alike-more (Lba32 s) (Linear s') n m k e = absurd e

and3 : (a b c : Bool) → (a && b && c) ≡ true → (a ≡ true) × (b ≡ true) × (c ≡ true)
and3 true true true e = (refl, refl, refl)
and3 false b c e = cc
and3 true false c e = cc
and3 true true false e = cc

and4 : (a b c d : Bool) → (a && b && c && d) ≡ true → (a ≡ true) × (b ≡ true) × (c ≡ true) × (d ≡ true)
and4 true true true true e = (refl, refl, refl, refl)
and4 false b c d e = cc
and4 true false c d e = cc
and4 true true false d e = cc
and4 true true true false e = cc

-- what follows the longer one follows the shorter one
follows-too : (g : Geometry) (a b next : Address) (n m k : ℕ) → EndAlike a n b m → follows g b m next k ≡ true → follows g a n next k ≡ true
follows-too g (Chs c h s) (Chs c' h' s') (Chs c2 h2 s2) n m k e f =
    let all = and4 (c' == c2) (h' == h2) (s' + m == s2) (nat_le (s2 + k) (g.sectors + 1)) f in
    let x : (c == c2) ≡ true = ap (λ c. c == c2) e.0 ∙ all.0 in
    let y : (h == h2) ≡ true = ap (λ h. h == h2) e.1 ∙ all.1 in
    let z : (s + n == s2) ≡ true = ap (λ s. s == s2) e.2 ∙ all.2 in
    rw (x, y, z, all.3) refl
follows-too g (Linear s) (Linear s') (Linear s2) n m k e f = ap (λ s. s == s2) e ∙ f
follows-too g (Lba32 s) (Lba32 s') (Lba32 s2) n m k e f = ap (λ s. s == s2) e ∙ f
follows-too g (Chs c h s) (Chs c' h' s') (Linear s2) n m k e f = cc
follows-too g (Chs c h s) (Chs c' h' s') (Lba32 s2) n m k e f = cc
follows-too g (Linear s) (Linear s') (Chs c h s2) n m k e f = cc
follows-too g (Linear s) (Linear s') (Lba32 s2) n m k e f = cc
follows-too g (Lba32 s) (Lba32 s') (Chs c h s2) n m k e f = cc
follows-too g (Lba32 s) (Lba32 s') (Linear s2) n m k e f = cc
follows-too g (Chs c h s) (Linear s') next n m k e f = absurd e
follows-too g (Chs c h s) (Lba32 s') next n m k e f = absurd e
follows-too g (Linear s) (Chs c h s') next n m k e f = absurd e
follows-too g (Linear s) (Lba32 s') next n m k e f = absurd e
follows-too g (Lba32 s) (Chs c h s') next n m k e f = absurd e
follows-too g (Lba32 s) (Linear s') next n m k e f = absurd e

module _ (machine : Machine) where
  abbrev joins : Slot → Slot → Bool
  joins slot next = could_be_one (machine.geometry_of slot.disk) slot next

  shorter-can : (slot other next : Slot) → Shorter slot other → joins other next ≡ true → joins slot next ≡ true
  unfolding could_be_one
  shorter-can slot other next short e =
      let all = and3 (other.disk == next.disk) (nat_le (other.count + next.count) 127) (follows (machine.geometry_of other.disk) other.address other.count next.address next.count) e in
      let less = short.count in
      let fits : nat_le (slot.count + next.count) 127 ≡ true = fit slot.count other.count next.count less all.1 in
      let disk : (slot.disk == next.disk) ≡ true = ap (λ disk. disk == next.disk) short.disk ∙ all.0 in
      let after : follows (machine.geometry_of slot.disk) slot.address slot.count next.address next.count ≡ true =
      ap (λ disk. follows (machine.geometry_of disk) slot.address slot.count next.address next.count) short.disk ∙ follows-too (machine.geometry_of other.disk) slot.address other.address next.address slot.count other.count next.count short.ends all.2 in
      rw (disk, fits, after) refl
    where
      fit : (n m k : ℕ) → n ≤ m → nat_le (m + k) 127 ≡ true → nat_le (n + k) 127 ≡ true
      fit n m k less e = let h : m + k ≤ 127 = grind (arith, nat_tests) in grind (arith, nat_tests)

  shorter-both : (slot other next : Slot) → Shorter slot other → Shorter (longer slot next) (longer other next)
  shorter-both slot other next short = record { disk = short.disk; count = let less = short.count in omega (arith, less); ends = alike-more slot.address other.address slot.count other.count next.count short.ends }

  next-shorter : (slot next : Slot) → joins slot next ≡ true → Shorter next (longer slot next)
  unfolding could_be_one
  next-shorter slot next e =
      let all = and3 (slot.disk == next.disk) (nat_le (slot.count + next.count) 127) (follows (machine.geometry_of slot.disk) slot.address slot.count next.address next.count) e in
      record { disk = sym (eqb-true slot.disk next.disk all.0); count = omega arith; ends = ends (machine.geometry_of slot.disk) slot.address next.address slot.count next.count all.2 }
    where
      ends : (g : Geometry) (a b : Address) (n k : ℕ) → follows g a n b k ≡ true → EndAlike b k a (n + k)
      ends g (Chs c h s) (Chs c' h' s') n k f =
          let all = and4 (c == c') (h == h') (s + n == s') (nat_le (s' + k) (g.sectors + 1)) f in
          (sym (eqb-true c c' all.0), sym (eqb-true h h' all.1), let is = eqb-true (s + n) s' all.2 in omega (arith, is))
      ends g (Linear s) (Linear s') n k f = let is = eqb-true (s + n) s' f in omega (arith, is)
      ends g (Lba32 s) (Lba32 s') n k f = let is = eqb-true (s + n) s' f in omega (arith, is)
      ends g (Chs c h s) (Linear s') n k f = cc
      ends g (Chs c h s) (Lba32 s') n k f = cc
      ends g (Linear s) (Chs c h s') n k f = cc
      ends g (Linear s) (Lba32 s') n k f = cc
      ends g (Lba32 s) (Chs c h s') n k f = cc
      ends g (Lba32 s) (Linear s') n k f = cc

  shorter-self : (slot : Slot) → Shorter slot slot
  shorter-self slot = record { disk = refl; count = omega arith; ends = alike-refl slot.address slot.count }

  module _ (hole : Slot) where
    -- how many slots there are from one that is held on
    abbrev taken : Slot → List (Option Slot) → ℕ
    taken slot others = length (joined_slots machine slot (map (λ other. unwrap_or other hole) others))

    record Claims (others : List (Option Slot)) : Type 0 where
      longer_held : (slot short : Slot) → Shorter short slot → taken slot others ≤ 2 + slots_after machine (Some short) others
      shorter_held : (slot long : Slot) → Shorter slot long → taken slot others ≤ 1 + slots_after machine (Some long) others
      none_held : (slot : Slot) → taken slot others ≤ 1 + slots_after machine None others

    -- the number of slots with one more, where it is joined and where it isn't
    abbrev taken_by : Bool → Slot → Slot → List (Option Slot) → ℕ
    taken_by test slot next others = length (if test then joined_slots machine (longer slot next) (map (λ other. unwrap_or other hole) others) else slot ∷ joined_slots machine next (map (λ other. unwrap_or other hole) others))

    abbrev after_by : Bool → Slot → Slot → List (Option Slot) → ℕ
    after_by test slot next others = if test then slots_after machine (Some (longer slot next)) others else 1 + slots_after machine (Some next) others

    hole-taken : (others : List (Option Slot)) → Claims others → (slot next : Slot) (test : Bool) → taken_by test slot next others ≤ 2 + slots_after machine None others
    hole-taken others claims slot next true = let h = claims.none_held (longer slot next) in omega (arith, h)
    hole-taken others claims slot next false = let h = claims.none_held next in omega (arith, h)

    none-taken : (others : List (Option Slot)) → Claims others → (slot next : Slot) (test : Bool) → joins slot next ≡ test → taken_by test slot next others ≤ 2 + slots_after machine (Some next) others
    none-taken others claims slot next true e = let h = claims.longer_held (longer slot next) next (next-shorter slot next e) in omega (arith, h)
    none-taken others claims slot next false e = let h = claims.shorter_held next next (shorter-self next) in omega (arith, h)

    longer-taken : (others : List (Option Slot)) → Claims others → (slot short next : Slot) → Shorter short slot → (a b : Bool) → joins slot next ≡ a → joins short next ≡ b → taken_by a slot next others ≤ 2 + after_by b short next others
    longer-taken others claims slot short next is true true e f = claims.longer_held (longer slot next) (longer short next) (shorter-both short slot next is)
    longer-taken others claims slot short next is true false e f = let g = shorter-can short slot next is e in cc
    longer-taken others claims slot short next is false true e f = let h = claims.shorter_held next (longer short next) (next-shorter short next f) in omega (arith, h)
    longer-taken others claims slot short next is false false e f = let h = claims.shorter_held next next (shorter-self next) in omega (arith, h)

    shorter-taken : (others : List (Option Slot)) → Claims others → (slot long next : Slot) → Shorter slot long → (a b : Bool) → joins slot next ≡ a → joins long next ≡ b → taken_by a slot next others ≤ 1 + after_by b long next others
    shorter-taken others claims slot long next is true true e f = claims.shorter_held (longer slot next) (longer long next) (shorter-both slot long next is)
    shorter-taken others claims slot long next is true false e f = let h = claims.longer_held (longer slot next) next (next-shorter slot next e) in omega (arith, h)
    shorter-taken others claims slot long next is false true e f = let g = shorter-can slot long next is f in cc
    shorter-taken others claims slot long next is false false e f = let h = claims.shorter_held next next (shorter-self next) in omega (arith, h)

    claims-of : (others : List (Option Slot)) → Claims others
    claims-of [] = record { longer_held = λ slot short is. omega arith; shorter_held = λ slot long is. omega arith; none_held = λ slot. omega arith }
    claims-of (None ∷ others) =
        let claims = claims-of others in
        record {
          longer_held = λ slot short is. let h = hole-taken others claims slot hole (joins slot hole) in omega (arith, h);
          shorter_held = λ slot long is. let h = hole-taken others claims slot hole (joins slot hole) in omega (arith, h);
          none_held = λ slot. let h = hole-taken others claims slot hole (joins slot hole) in omega (arith, h);
        }
    claims-of (Some next ∷ others) =
        let claims = claims-of others in
        record {
          longer_held = λ slot short is. longer-taken others claims slot short next is (joins slot next) (joins short next) refl refl;
          shorter_held = λ slot long is. shorter-taken others claims slot long next is (joins slot next) (joins long next) refl refl;
          none_held = λ slot. let h = none-taken others claims slot next (joins slot next) refl in omega (arith, h);
        }

    -- from the start on
    pub reckoned : (slots : List (Option Slot)) → length (Rattle.lilo_model.specs.Plan.compact_slots machine (map (λ other. unwrap_or other hole) slots)) ≤ slots_after machine None slots
    reckoned [] = omega arith
    reckoned (None ∷ others) = (claims-of others).none_held hole
    reckoned (Some first ∷ others) = (claims-of others).shorter_held first first (shorter-self first)
