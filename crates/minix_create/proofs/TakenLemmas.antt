-- What is taken with one choice more, as the numbers of a set and as a test.
use Rattle.std.proofs.Common.{◌≡◌, ◌==◌, ◌||◌, ℕ, Bool, true, false, nat_lt, List, [], ◌∷◌, filter, refl, sym, ap, ◌∙◌, subst, arith}
use Rattle.std.specs.List.{Contains, list_any}
use Rattle.std.proofs.lemmas.Bool.Decides.{nat_tests}
use Rattle.std.proofs.lemmas.List.Folds.{list_any-append}
use Rattle.lilo_model.specs.MinixLayout.{Super}
use Rattle.lilo_model.specs.MinixParts.{Parts}
use Rattle.minix_steps.specs.Numbers.{has_number, with_number}
use Rattle.minix_choice_laws.specs.Apart.{IsHeld}
use Rattle.minix_choice_laws.specs.Growth.{ArePromised}
use Rattle.minix_choice.specs.Taken.{with_numbers, with_choice}
use Rattle.minix_choice.specs.View.{Promised, taken_view}
use Rattle.write_model.specs.Choice.{Choice, is_one_of, taken_with}
use Rattle.write_model.specs.Wish.{Taken, Promise}

-- ---- a number among others

or-true : (a : Bool) → (a || true) ≡ true
or-true true = refl
or-true false = refl

or-false : (a : Bool) → a ≡ (a || false)
or-false true = refl
or-false false = refl

-- one that isn't the new number is among the smaller or the greater ones
either-side : (n z : ℕ) (numbers : List ℕ) → (z == n) ≡ false
    → (list_any (λ other. z == other) (filter (λ other. nat_lt other n) numbers) || list_any (λ other. z == other) (filter (λ other. nat_lt n other) numbers)) ≡ list_any (λ other. z == other) numbers
either-side n z [] apart = refl
either-side n z (first ∷ numbers) apart = by (either-side n z numbers apart) (nat_lt first n) refl (nat_lt n first) refl (z == first) refl
  where
    by : (list_any (λ other. z == other) (filter (λ other. nat_lt other n) numbers) || list_any (λ other. z == other) (filter (λ other. nat_lt n other) numbers)) ≡ list_any (λ other. z == other) numbers
        → (low : Bool) → nat_lt first n ≡ low → (high : Bool) → nat_lt n first ≡ high → (same : Bool) → (z == first) ≡ same
        → (list_any (λ other. z == other) (filter (λ other. nat_lt other n) (first ∷ numbers)) || list_any (λ other. z == other) (filter (λ other. nat_lt n other) (first ∷ numbers))) ≡ list_any (λ other. z == other) (first ∷ numbers)
    by rest true l true h same s = absurd (grind (arith, nat_tests))
    by rest true l false h true s = rw (l, h, s) refl
    by rest true l false h false s = rw (l, h, s) rest
    by rest false l true h true s = rw (l, h, s) (or-true (list_any (λ other. z == other) (filter (λ other. nat_lt other n) numbers)))
    by rest false l true h false s = rw (l, h, s) rest
    by rest false l false h true s = absurd (grind (arith, nat_tests))
    by rest false l false h false s = rw (l, h, s) rest

added : (numbers : List ℕ) (n z : ℕ) → has_number (with_number numbers n) z ≡ (has_number numbers z || (z == n))
unfolding has_number with_number
added numbers n z = list_any-append (λ other. z == other) (filter (λ other. nat_lt other n) numbers) (n ∷ filter (λ other. nat_lt n other) numbers) ∙ by (z == n) refl
  where
    by : (same : Bool) → (z == n) ≡ same
        → (list_any (λ other. z == other) (filter (λ other. nat_lt other n) numbers) || ((z == n) || list_any (λ other. z == other) (filter (λ other. nat_lt n other) numbers))) ≡ (list_any (λ other. z == other) numbers || (z == n))
    by true e = rw e (or-true (list_any (λ other. z == other) (filter (λ other. nat_lt other n) numbers)) ∙ sym (or-true (list_any (λ other. z == other) numbers)))
    by false e = rw e (either-side n z numbers e ∙ or-false (list_any (λ other. z == other) numbers))

all-added : (numbers others : List ℕ) (z : ℕ) → has_number (with_numbers numbers others) z ≡ (has_number numbers z || is_one_of others z)
all-added numbers [] z = or-false (has_number numbers z)
all-added numbers (other ∷ others) z =
    all-added (with_number numbers other) others z
    ∙ (ap (λ (has : Bool). has || is_one_of others z) (added numbers other z) ∙ joined (has_number numbers z) (z == other) (is_one_of others z))
  where
    joined : (a b c : Bool) → ((a || b) || c) ≡ (a || (b || c))
    joined true b c = refl
    joined false b c = refl

-- ---- what is taken

pub record IsTakenAs (one other : Taken) : Type 0 where
  pub zones : (zone : ℕ) → one.has_zone zone ≡ other.has_zone zone
  pub inodes : (inode : ℕ) → one.has_inode inode ≡ other.has_inode inode
  pub promises : other.promises ≡ one.promises

pub taken_as : (taken : Promised) (directory : ℕ) (choice : Choice) → IsTakenAs (taken_view (with_choice taken directory choice)) (taken_with (taken_view taken) directory choice)
unfolding taken_with
taken_as taken directory choice = record {
  zones = λ zone. all-added taken.zones.numbers choice.zones zone;
  inodes = λ inode. added taken.inodes.numbers choice.inode inode;
  promises = refl;
}

module _ (one other : Taken) (same : IsTakenAs one other) where
  there : (promise : Promise) → Contains one.promises promise → Contains other.promises promise
  there promise has = let C : List Promise → Type 0 = λ ps. Contains ps promise in subst C (sym same.promises) has

  back : (promise : Promise) → Contains other.promises promise → Contains one.promises promise
  back promise has = let C : List Promise → Type 0 = λ ps. Contains ps promise in subst C same.promises has

  pub promised_as : (super : Super) (parts : Parts) → ArePromised super parts other → ArePromised super parts one
  promised_as super parts promised = record {
    zones = λ promise level has low.
        let z = promised.zones promise level (there promise has) low in
        record { from = z.from; below = z.below; unmarked = z.unmarked; taken_is = same.zones _ ∙ z.taken_is };
    steps = λ first second level at has has' low low' is. promised.steps first second level at (there first has) (there second has') low low' is;
  }

  pub held_as : (directory : ℕ) (choice : Choice) → IsHeld other directory choice → IsHeld one directory choice
  held_as directory choice held = record {
    inode = same.inodes choice.inode ∙ held.inode;
    zones = λ i low. same.zones _ ∙ held.zones i low;
    promise = back _ held.promise;
    file = λ source some. same.zones _ ∙ held.file source some;
    clear = λ promise source level has some low. held.clear promise source level (there promise has) some low;
  }
