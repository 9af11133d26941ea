-- A device is read from its name part by part, and each part has one reading.
use Rattle.std.proofs.Common.{◌≡◌, ◌<◌, ◌≤◌, ℕ, zero, suc, ◌+◌, ◌-◌, ◌/◌, ◌%◌, List, [], ◌∷◌, ◌++◌, length, take, drop, get_or, Bool, true, false, cond, refl, sym, subst, ap, arith, length-append}
use Rattle.std.specs.Prelude.{Some, None, ltb, ◌==◌}
use Rattle.std.proofs.Math.Seq.{take-append_seam, drop-append_seam}
use Rattle.std.proofs.lemmas.Bool.{ne_eqb, ltb-false, ltb-true}
use Rattle.std.proofs.lemmas.List.{take-append-drop}
use Rattle.std.proofs.lemmas.Fmt.{decimal_digit, decimal_step}
use Rattle.std.proofs.lemmas.Grind.{common_steps}
use Rattle.lilo_model.specs.Devices.{Device, IsDevice, disk_name, last_partition, partition_name, device_name}
use Rattle.mbr_table.specs.Names.{one_digit, two_digits, partition_at}

number_one : (n : ℕ) → 0 < n → n < 10 → partition_name n ≡ (48 + n) ∷ []
unfolding partition_name
number_one n some small = let there = ne_eqb n 0 (λ e. omega arith) in rw there (decimal_digit n small)

number_two : (n : ℕ) → 10 ≤ n → n < 100 → partition_name n ≡ (48 + n / 10) ∷ ((48 + n % 10) ∷ [])
unfolding partition_name
number_two n large small =
    let there = ne_eqb n 0 (λ e. omega arith) in
    rw (there, decimal_step n large (omega arith), decimal_digit (n / 10) (omega arith)) refl

one_digit-number : (n : ℕ) → 0 < n → n < 10 → one_digit (48 + n) ≡ Some n
unfolding one_digit
one_digit-number n some small = grind arith

two_digits-number : (n : ℕ) → 10 ≤ n → n < 100 → two_digits (48 + n / 10) (48 + n % 10) ≡ Some n
unfolding two_digits
two_digits-number n large small = grind arith

one_digit-is : (unit n : ℕ) → one_digit unit ≡ Some n → (0 < n) × (n < 10) × (unit ≡ 48 + n)
unfolding one_digit
one_digit-is unit n e = (grind arith, grind arith, grind arith)

two_digits-is :
    (ten unit n : ℕ) → two_digits ten unit ≡ Some n
    → (10 ≤ n) × (n < 100) × (ten ≡ 48 + n / 10) × (unit ≡ 48 + n % 10)
unfolding two_digits
two_digits-is ten unit n e = (grind arith, grind arith, grind arith, grind arith)

by_size : (n : ℕ) (small : Bool) → ltb n 10 ≡ small → 0 < n → n < 100 → partition_at (partition_name n) ≡ Some n
unfolding partition_at
by_size n true small some below =
    let less = ltb-true n 10 small in rw (number_one n some less) (one_digit-number n some less)
by_size n false large some below =
    let more = ltb-false n 10 large in rw (number_two n more below) (two_digits-number n more below)

-- a number is read from its digits
pub partition_at-partition_name : (n : ℕ) → n < 100 → partition_at (partition_name n) ≡ Some n
unfolding partition_at partition_name
partition_at-partition_name zero below = refl
partition_at-partition_name (suc n) below = by_size (suc n) (ltb (suc n) 10) refl (omega arith) below

-- what is read is a number's digits
pub partition_at-is : (digits : List ℕ) (n : ℕ) → partition_at digits ≡ Some n → (n < 100) × (digits ≡ partition_name n)
unfolding partition_at partition_name
partition_at-is [] n e = let zero_is : 0 ≡ n = cc in subst (λ m. (m < 100) × ([] ≡ partition_name m)) zero_is (omega arith, refl)
partition_at-is (unit ∷ []) n e =
    let h = one_digit-is unit n e in
    (omega arith, rw (number_one n h.0 h.1, h.2) refl)
partition_at-is (ten ∷ (unit ∷ [])) n e =
    let h = two_digits-is ten unit n e in
    (h.1, rw (number_two n h.0 h.1, h.2, h.3) refl)
partition_at-is (a ∷ (b ∷ (d ∷ rest))) n e = cc

-- more than two bytes are no number here
pub partition_at-long : (digits : List ℕ) → 3 ≤ length digits → partition_at digits ≡ None
unfolding partition_at
partition_at-long [] long = absurd (omega arith)
partition_at-long (unit ∷ []) long = absurd (omega arith)
partition_at-long (ten ∷ (unit ∷ [])) long = absurd (omega arith)
partition_at-long (a ∷ (b ∷ (d ∷ rest))) long = refl

pub partition_at-none : (digits : List ℕ) → length digits ≡ 0 → partition_at digits ≡ Some 0
unfolding partition_at
partition_at-none [] none = refl
partition_at-none (unit ∷ rest) none = absurd (omega arith)

pub partition_at-one : (digits : List ℕ) → length digits ≡ 1 → partition_at digits ≡ one_digit (get_or digits 0 0)
unfolding partition_at
partition_at-one [] one = absurd (omega arith)
partition_at-one (unit ∷ []) one = refl
partition_at-one (ten ∷ (unit ∷ rest)) one = absurd (omega arith)

pub partition_at-two :
    (digits : List ℕ) → length digits ≡ 2 → partition_at digits ≡ two_digits (get_or digits 0 0) (get_or digits 1 0)
unfolding partition_at
partition_at-two [] two = absurd (omega arith)
partition_at-two (unit ∷ []) two = absurd (omega arith)
partition_at-two (ten ∷ (unit ∷ [])) two = refl
partition_at-two (a ∷ (b ∷ (d ∷ rest))) two = absurd (omega arith)

eight : (b : Bool) (xs ys : List ℕ) → length xs ≡ 8 → length ys ≡ 8 → length (cond b xs ys) ≡ 8
eight true xs ys first second = first
eight false xs ys first second = second

length-disk_name : (disk : ℕ) → length (disk_name disk) ≡ 8
unfolding disk_name
length-disk_name disk =
    eight (disk == 0) _ _ refl (eight (disk == 1) _ _ refl (eight (disk == 2) _ _ refl refl))

-- a name is eight bytes of the disk, and then the partition's number
pub device_name-parts :
    (name : List ℕ) (device : Device) → name ≡ device_name device
    → (8 ≤ length name) × (take 8 name ≡ disk_name device.disk) × (drop 8 name ≡ partition_name device.partition)
unfolding device_name
device_name-parts name device e =
    let len = length-disk_name device.disk in (
      rw e (rw length-append (omega arith)),
      rw e (subst (λ k. take k (disk_name device.disk ++ partition_name device.partition) ≡ disk_name device.disk) len
          (take-append_seam (disk_name device.disk) (partition_name device.partition))),
      rw e (subst (λ k. drop k (disk_name device.disk ++ partition_name device.partition) ≡ partition_name device.partition) len
          (drop-append_seam (disk_name device.disk) (partition_name device.partition))),
    )

last_partition-small : (disk : ℕ) → last_partition disk < 100
unfolding last_partition
last_partition-small disk = grind arith

-- what is read of a device's name
pub record Parts (name : List ℕ) (device : Device) : Type 0 where
  pub len : 8 ≤ length name
  pub disk : take 8 name ≡ disk_name device.disk
  pub partition : partition_at (drop 8 name) ≡ Some device.partition

pub parts_of : (name : List ℕ) (device : Device) → IsDevice device → name ≡ device_name device → Parts name device
parts_of name device is e =
    let parts = device_name-parts name device e in
    let last = last_partition-small device.disk in
    let small : device.partition < 100 = omega (arith, is.partition) in
    record {
      len = parts.0;
      disk = parts.1;
      partition = rw parts.2 (partition_at-partition_name device.partition small);
    }

-- a name of these parts is the device's
pub device_name-from_parts :
    (name : List ℕ) (device : Device) → take 8 name ≡ disk_name device.disk
    → partition_at (drop 8 name) ≡ Some device.partition → name ≡ device_name device
unfolding device_name
device_name-from_parts name device disk partition =
    let number = partition_at-is (drop 8 name) device.partition partition in
    rw (← disk, ← number.1) (sym (take-append-drop 8 name))

-- the bytes from the ninth on, as a slice of the name
pub partition_at-rest :
    (name : List ℕ) → partition_at (take (length name - 8) (drop 8 name)) ≡ partition_at (drop 8 name)
partition_at-rest name = ap partition_at (grind (arith, common_steps))

-- a device of the same fields is the same
pub device_from-fields :
    (device : Device) (disk partition : ℕ) → disk ≡ device.disk → partition ≡ device.partition
    → ◌≡◌ {A = Device} (record { disk = disk; partition = partition }) device
device_from-fields device disk partition same_disk same_partition = rw (same_disk, same_partition) refl
