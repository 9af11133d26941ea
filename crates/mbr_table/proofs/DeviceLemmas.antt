-- A name is looked up among those of all devices, and no two devices have one name.
use Rattle.std.proofs.Common.{◌≡◌, ◌<◌, ◌≤◌, ◌⊎◌, inl, inr, ℕ, zero, suc, ◌+◌, ◌-◌, ◌*◌, ◌/◌, List, [], ◌++◌, get_or, Bool, true, false, refl, sym, ap, subst, ◌∙◌, arith}
use Rattle.std.specs.Prelude.{Option, Some, None, map, find, bytes_eq}
use Rattle.std.specs.List.{range_with_len}
use Rattle.std.proofs.Math.Nat.{eq-or-lt_of_le}
use Rattle.std.proofs.lemmas.List.Folds.{find-append}
use Rattle.std.proofs.lemmas.Slice.Eq.{bytes_eq-Decides}
use Rattle.lilo_model.specs.Devices.{Device, IsDevice, disk_name, last_partition, device_name, devices_of, named_devices, device_at}
use Rattle.mbr_table.proofs.NameLemmas.{parts_of, device_from-fields}

-- a number that is there is one, and the same
pub some_not_none : (n : ℕ) → ◌≡◌ {A = Option ℕ} None (Some n) → ⊥
some_not_none n e = cc

pub some_number : (n m : ℕ) → ◌≡◌ {A = Option ℕ} (Some n) (Some m) → n ≡ m
some_number n m e = cc

-- what holds of four disks holds of each
by_disk : (P : ℕ → Type 0) (disk : ℕ) → disk ≤ 3 → P 0 → P 1 → P 2 → P 3 → P disk
by_disk P zero there first second third fourth = first
by_disk P (suc zero) there first second third fourth = second
by_disk P (suc (suc zero)) there first second third fourth = third
by_disk P (suc (suc (suc zero))) there first second third fourth = fourth
by_disk P (suc (suc (suc (suc disk)))) there first second third fourth = absurd (omega arith)

-- ---- what is found

-- the device of these numbers
abbrev pub device_with : ℕ → ℕ → Device
device_with disk partition = record { disk = disk; partition = partition }

-- some partitions of a disk, from one on
abbrev pub some_of : ℕ → ℕ → ℕ → List Device
some_of disk low len = map (device_with disk) (range_with_len low len)

-- what was found among the devices of one disk
pub record Found (test : Device → Bool) (disk low high : ℕ) (device : Device) : Type 0 where
  pub partition : ℕ
  pub least : low ≤ partition
  pub below : partition < high
  pub is : device_with disk partition ≡ device
  pub passes : test device ≡ true

some_inj : (a b : Device) → ◌≡◌ {A = Option Device} (Some a) (Some b) → a ≡ b
some_inj a b e = cc

found_step :
    (test : Device → Bool) (disk low len : ℕ) (device : Device) (passes : Bool) → test (device_with disk low) ≡ passes
    → (find test (some_of disk (low + 1) len) ≡ Some device → Found test disk (low + 1) (low + 1 + len) device)
    → find test (some_of disk low (suc len)) ≡ Some device
    → Found test disk low (low + suc len) device
found_step test disk low len device true here deeper e =
    let first : find test (some_of disk low (suc len)) ≡ Some (device_with disk low) = rw here refl in
    let same : device_with disk low ≡ device = some_inj _ _ (sym first ∙ e) in
    record { partition = low; least = omega arith; below = omega arith; is = same; passes = subst (λ d. test d ≡ true) same here }
found_step test disk low len device false here deeper e =
    let rest : find test (some_of disk low (suc len)) ≡ find test (some_of disk (low + 1) len) = rw here refl in
    let later = deeper (sym rest ∙ e) in
    record {
      partition = later.partition;
      least = omega (arith, later.least);
      below = omega (arith, later.below);
      is = later.is;
      passes = later.passes;
    }

found_in :
    (test : Device → Bool) (disk low len : ℕ) (device : Device) → find test (some_of disk low len) ≡ Some device
    → Found test disk low (low + len) device
found_in test disk low zero device e = cc
found_in test disk low (suc len) device e =
    found_step test disk low len device (test (device_with disk low)) refl (found_in test disk (low + 1) len device) e

-- what is found in two lists is found in one of them
either_found :
    (test : Device → Bool) (xs ys : List Device) (device : Device) (first : Option Device) → find test xs ≡ first
    → find test (xs ++ ys) ≡ Some device → (find test xs ≡ Some device) ⊎ (find test ys ≡ Some device)
either_found test xs ys device None none e =
    let joined = find-append test xs ys in inr (cc)
either_found test xs ys device (Some found) is e =
    let joined = find-append test xs ys in inl (cc)

from_disk :
    (test : Device → Bool) (disk : ℕ) (device : Device) → disk ≤ 3 → find test (devices_of disk) ≡ Some device
    → IsDevice device × (test device ≡ true)
unfolding devices_of
from_disk test disk device there e =
    let found = found_in test disk 0 (last_partition disk + 1) device e in
    let is : IsDevice (device_with disk found.partition) = record { disk = there; partition = omega (arith, found.below) } in
    (subst IsDevice found.is is, found.passes)

-- what is found has a name
found_named :
    (test : Device → Bool) (device : Device) → find test named_devices ≡ Some device
    → IsDevice device × (test device ≡ true)
unfolding named_devices
found_named test device e =
    elim (either_found test (devices_of 0) (devices_of 1 ++ (devices_of 2 ++ (devices_of 3 ++ []))) device _ refl e) [
      | inl here ↦ from_disk test 0 device (omega arith) here
      | inr e1 ↦ elim (either_found test (devices_of 1) (devices_of 2 ++ (devices_of 3 ++ [])) device _ refl e1) [
        | inl here ↦ from_disk test 1 device (omega arith) here
        | inr e2 ↦ elim (either_found test (devices_of 2) (devices_of 3 ++ []) device _ refl e2) [
          | inl here ↦ from_disk test 2 device (omega arith) here
          | inr e3 ↦ elim (either_found test (devices_of 3) [] device _ refl e3) [
            | inl here ↦ from_disk test 3 device (omega arith) here
            | inr e4 ↦ absurd (cc)
          ]
        ]
      ]
    ]

-- ---- what isn't found

none_step :
    (test : Device → Bool) (disk low len : ℕ) (passes : Bool) → test (device_with disk low) ≡ passes
    → find test (some_of disk low (suc len)) ≡ None
    → (test (device_with disk low) ≡ false) × (find test (some_of disk (low + 1) len) ≡ None)
none_step test disk low len true here e =
    let first : find test (some_of disk low (suc len)) ≡ Some (device_with disk low) = rw here refl in absurd (cc)
none_step test disk low len false here e =
    let rest : find test (some_of disk low (suc len)) ≡ find test (some_of disk (low + 1) len) = rw here refl in
    (here, sym rest ∙ e)

none_in :
    (test : Device → Bool) (disk low len : ℕ) → find test (some_of disk low len) ≡ None
    → (partition : ℕ) → low ≤ partition → partition < low + len → test (device_with disk partition) ≡ false
none_in test disk low zero e partition least below = absurd (omega arith)
none_in test disk low (suc len) e partition least below =
    let step = none_step test disk low len (test (device_with disk low)) refl e in
    elim (eq-or-lt_of_le least) [
      | inl same ↦ subst (λ p. test (device_with disk p) ≡ false) same step.0
      | inr more ↦ none_in test disk (low + 1) len step.1 partition (omega arith) (omega arith)
    ]

none_in_both :
    (test : Device → Bool) (xs ys : List Device) (first : Option Device) → find test xs ≡ first
    → find test (xs ++ ys) ≡ None → (find test xs ≡ None) × (find test ys ≡ None)
none_in_both test xs ys None is e =
    let joined = find-append test xs ys in
    let second : find test (xs ++ ys) ≡ find test ys = joined ∙ rw is refl in (is, sym second ∙ e)
none_in_both test xs ys (Some found) is e =
    let joined = find-append test xs ys in
    let second : find test (xs ++ ys) ≡ Some found = joined ∙ rw is refl in absurd (cc)

none_of_disk :
    (test : Device → Bool) (device : Device) → find test (devices_of device.disk) ≡ None
    → device.partition ≤ last_partition device.disk → test device ≡ false
unfolding devices_of
none_of_disk test device e small =
    none_in test device.disk 0 (last_partition device.disk + 1) e device.partition (omega arith) (omega arith)

none_of_disks : (test : Device → Bool) → find test named_devices ≡ None → (disk : ℕ) → disk ≤ 3 → find test (devices_of disk) ≡ None
unfolding named_devices
none_of_disks test e disk there =
    let first = none_in_both test (devices_of 0) (devices_of 1 ++ (devices_of 2 ++ (devices_of 3 ++ []))) _ refl e in
    let second = none_in_both test (devices_of 1) (devices_of 2 ++ (devices_of 3 ++ [])) _ refl first.1 in
    let third = none_in_both test (devices_of 2) (devices_of 3 ++ []) _ refl second.1 in
    let fourth = none_in_both test (devices_of 3) [] _ refl third.1 in
    by_disk (λ d. find test (devices_of d) ≡ None) disk there first.0 second.0 third.0 fourth.0

none_named :
    (test : Device → Bool) → find test named_devices ≡ None → (device : Device) → IsDevice device → test device ≡ false
none_named test e device is = none_of_disk test device (none_of_disks test e device.disk is.disk) is.partition

-- ---- the device of a name

named_by : (name : List ℕ) (device : Device) → bytes_eq name (device_name device) ≡ true → name ≡ device_name device
named_by name device e = (bytes_eq-Decides _ _).0 e

-- what is looked up has that name
pub device_at-is :
    (name : List ℕ) (device : Device) → device_at name ≡ Some device → IsDevice device × (name ≡ device_name device)
unfolding device_at
device_at-is name device e =
    let found = found_named (λ d. bytes_eq name (device_name d)) device e in (found.0, named_by name device found.1)

-- the letters that distinguish the disks
disk_from : List ℕ → ℕ
disk_from name = (get_or name 5 0 - 104) / 11 * 2 + (get_or name 7 0 - 97)

disk_from-disk_name : (disk : ℕ) → disk ≤ 3 → disk_from (disk_name disk) ≡ disk
unfolding disk_from disk_name
disk_from-disk_name disk there = by_disk (λ d. disk_from (disk_name d) ≡ d) disk there refl refl refl refl

one_device :
    (name : List ℕ) (device other : Device) → IsDevice device → name ≡ device_name device → IsDevice other
    → name ≡ device_name other → device ≡ other
one_device name device other is named other_is other_named =
    let parts = parts_of name device is named in
    let others = parts_of name other other_is other_named in
    let names : disk_name device.disk ≡ disk_name other.disk = sym parts.disk ∙ others.disk in
    let disks : device.disk ≡ other.disk =
    sym (disk_from-disk_name device.disk is.disk) ∙ ap disk_from names ∙ disk_from-disk_name other.disk other_is.disk in
    let partitions : device.partition ≡ other.partition = cc in
    device_from-fields other device.disk device.partition disks partitions

device_at-cases :
    (name : List ℕ) (device : Device) (found : Option Device) → device_at name ≡ found → IsDevice device
    → name ≡ device_name device → device_at name ≡ Some device
unfolding device_at
device_at-cases name device None e is named =
    let fails = none_named (λ d. bytes_eq name (device_name d)) e device is in
    let passes = (bytes_eq-Decides name (device_name device)).1 named in absurd (cc)
device_at-cases name device (Some found) e is named =
    let found_is = device_at-is name found e in
    let same = one_device name found device found_is.0 found_is.1 is named in e ∙ ap Some same

-- the device of a name is looked up
pub device_at-device_name :
    (name : List ℕ) (device : Device) → IsDevice device → name ≡ device_name device → device_at name ≡ Some device
device_at-device_name name device is named = device_at-cases name device (device_at name) refl is named

none_cases :
    (name : List ℕ) (found : Option Device) → device_at name ≡ found
    → ((device : Device) → IsDevice device → name ≡ device_name device → ⊥) → device_at name ≡ None
none_cases name None e nobody = e
none_cases name (Some found) e nobody =
    let is = device_at-is name found e in absurd (nobody found is.0 is.1)

-- a name of no device is looked up in vain
pub device_at-none :
    (name : List ℕ) → ((device : Device) → IsDevice device → name ≡ device_name device → ⊥) → device_at name ≡ None
device_at-none name nobody = none_cases name (device_at name) refl nobody
