-- Neighbouring slots that are joined one after the other.
use Rattle.std.proofs.Common.{◌≡◌, ◌≤◌, ◌<◌, ℕ, ◌+◌, ◌-◌, ◌==◌, Bool, true, false, ◌&&◌, List, [], ◌∷◌, ◌++◌, length, map, take, drop, get_or, suc, add-one, drop-cons, append_assoc, refl, sym, ap, subst, ◌∙◌, arith}
use Rattle.std.specs.Prelude.{nat_le}
use Rattle.std.proofs.Math.Seq.{take-length}
use Rattle.std.proofs.lemmas.List.{map-append}
use Rattle.std.proofs.lemmas.Bool.Decides.{nat_tests}
use Rattle.lilo_model.specs.Disks.{Geometry, Machine}
use Rattle.lilo_model.specs.Slots as model
use Rattle.lilo_model.specs.Slots.{could_be_one, follows}
use Rattle.lilo_model.specs.Plan.{joined_slots}
use Rattle.sector_address.specs.declared.slot.Slot.{Slot}
use Rattle.sector_address.specs.View.{slot_view}
use Rattle.slot_lists.specs.Made.{IsWritable}

-- what is left from a place after the first on
pub rest-at :
    (slots rest : List Slot) (index : ℕ) (other : Slot) → rest ≡ take (length slots - 1) (drop 1 slots) → index < length rest
    → drop (index + 1) slots ≡ get_or rest index other ∷ drop (index + 1 + 1) slots
rest-at [] rest index other is below = let none : length rest ≡ 0 = ap length is in absurd (omega (arith, below, none))
rest-at (first ∷ slots) rest index other is below =
    ap (λ n. drop n (first ∷ slots)) (add-one index)
    ∙ drop-cons slots index other within
    ∙ ap (λ rest. get_or rest index other ∷ drop (suc index) slots) (sym same)
    ∙ ap (λ n. get_or rest index other ∷ drop n (first ∷ slots)) (sym two)
  where
    count : length (first ∷ slots) - 1 ≡ length slots
    count = omega arith

    same : rest ≡ slots
    same = is ∙ ap (λ n. take n slots) count ∙ take-length slots

    within : index < length slots
    within = omega (arith, below, ap length same)

    two : index + 1 + 1 ≡ suc (suc index)
    two = omega arith

module _ (machine : Machine) (all slots : List Slot) (held next : Slot) (index : ℕ) (whole : List model.Slot)
    (at : drop (index + 1) slots ≡ next ∷ drop (index + 1 + 1) slots)
    (before : map slot_view all ++ joined_slots machine (slot_view held) (map slot_view (drop (index + 1) slots)) ≡ whole) where
  abbrev left : List model.Slot
  left = map slot_view (drop (index + 1 + 1) slots)

  one-by-one : map slot_view all ++ joined_slots machine (slot_view held) (slot_view next ∷ left) ≡ whole
  one-by-one = ap (λ rest. map slot_view all ++ joined_slots machine (slot_view held) (map slot_view rest)) (sym at) ∙ before

  -- the next slot is taken into the one that is held
  pub joined-takes :
      (now : Slot) → could_be_one (machine.geometry_of held.disk) (slot_view held) (slot_view next) ≡ true
      → now ≡ record { disk = held.disk; count = held.count + next.count; address = held.address }
      → map slot_view all ++ joined_slots machine (slot_view now) left ≡ whole
  joined-takes now one is =
      ap (λ slot. map slot_view all ++ joined_slots machine (slot_view slot) left) is
      ∙ sym (ap (λ rest. map slot_view all ++ rest) taken) ∙ one-by-one
    where
      taken :
          joined_slots machine (slot_view held) (slot_view next ∷ left)
          ≡ joined_slots machine (record (slot_view held) { count = held.count + next.count }) left
      taken = rw one refl

  -- or is held after it
  pub joined-pushes :
      (more : List Slot) → could_be_one (machine.geometry_of held.disk) (slot_view held) (slot_view next) ≡ false
      → more ≡ all ++ (held ∷ []) → map slot_view more ++ joined_slots machine (slot_view next) left ≡ whole
  joined-pushes more one is =
      ap (λ more. map slot_view more ++ joined_slots machine (slot_view next) left) is
      ∙ ap (λ begun. begun ++ joined_slots machine (slot_view next) left) (map-append slot_view all (held ∷ []))
      ∙ append_assoc (map slot_view all) (slot_view held ∷ []) (joined_slots machine (slot_view next) left)
      ∙ sym (ap (λ rest. map slot_view all ++ rest) taken) ∙ one-by-one
    where
      taken : joined_slots machine (slot_view held) (slot_view next ∷ left) ≡ slot_view held ∷ joined_slots machine (slot_view next) left
      taken = rw one refl

-- eight bytes can name both as one
pub longer-writable :
    (geometry : Geometry) (held next now : Slot) → could_be_one geometry (slot_view held) (slot_view next) ≡ true → IsWritable held
    → now ≡ record { disk = held.disk; count = held.count + next.count; address = held.address } → IsWritable now
unfolding could_be_one
longer-writable geometry held next now one whole is =
    subst IsWritable (sym is) (record { disk = whole.disk; some = omega (arith, whole.some); few = fits; address = whole.address })
  where
    second : (a b c : Bool) → (a && b && c) ≡ true → b ≡ true
    second true true c e = refl
    second false b c e = cc
    second true false c e = cc

    less : (n : ℕ) → nat_le n 127 ≡ true → n ≤ 127
    less n e = grind (arith, nat_tests)

    fits : held.count + next.count ≤ 127
    fits =
        less (held.count + next.count)
        (second (held.disk == next.disk) (nat_le (held.count + next.count) 127) (follows geometry (slot_view held).address held.count (slot_view next).address next.count) one)
