-- What values mean is in its range.
use Rattle.std.proofs.Common.{◌≡◌, ℕ, ◌≤◌, Bool, true, false, ◌&&◌, List, [], ◌∷◌, cond, Some, None, Option, refl, arith}
use Rattle.std.specs.Prelude.{if◌then◌else◌, find, is_some, nat_le, nat_eq, bytes_eq, codes, ◌==◌}
use Rattle.std.specs.List.{list_all, starts_with}
use Rattle.std.specs.Option.{option_and_then}
use Rattle.std.proofs.lemmas.Bool.{leb-true, and_parts, eqb-true}
use Rattle.std.proofs.lemmas.Slice.Eq.{bytes_eq-Decides}
use Rattle.lilo_model.specs.Bytes.{is_between}
use Rattle.lilo_model.specs.Devices.{Device, IsDevice, last_partition, device_name, devices_of, named_devices, device_at, disk_number, device_number}
use Rattle.lilo_model.specs.VideoMode.{written_number, mode_number, video_mode}
use Rattle.lilo_model.specs.ConfValues.{number_between, whole_disk_at, root_at}

-- ---- devices

is_named : Device → Bool
is_named device = nat_le device.disk 3 && nat_le device.partition (last_partition device.disk)

all_named : list_all is_named named_devices ≡ true
unfolding is_named named_devices devices_of last_partition
all_named = refl

-- what is found passes, and is among those that all pass
find-passes : {A : Type 0} (test each : A → Bool) (items : List A) (item : A) → list_all each items ≡ true → find test items ≡ Some item
    → (test item ≡ true) × (each item ≡ true)
find-passes test each [] item all is = absurd (cc)
find-passes test each (first ∷ items) item all is = by _ refl is (λ rest. find-passes test each items item (and_parts _ _ all).1 rest)
  where
    by : (here : Bool) → test first ≡ here → cond here (Some first) (find test items) ≡ Some item
        → (find test items ≡ Some item → (test item ≡ true) × (each item ≡ true)) → (test item ≡ true) × (each item ≡ true)
    by true here e rest = let same : first ≡ item = cc in rw (← same) (here, (and_parts (each first) (list_all each items) all).0)
    by false here e rest = rest e

is_named-device : (device : Device) → is_named device ≡ true → IsDevice device
unfolding is_named
is_named-device device named =
    let both = and_parts (nat_le device.disk 3) (nat_le device.partition (last_partition device.disk)) named in
    record { disk = leb-true _ _ both.0; partition = leb-true _ _ both.1 }

-- the device of a name is one that has this name
pub device_at-device : (name : List ℕ) (device : Device) → device_at name ≡ Some device → IsDevice device × (name ≡ device_name device)
unfolding device_at
device_at-device name device is =
    let found = find-passes (λ d. bytes_eq name (device_name d)) is_named named_devices device all_named is in
    (is_named-device device found.1, (bytes_eq-Decides name (device_name device)).0 found.0)

-- a text that names a whole disk
pub whole_disk_at-whole : (text : List ℕ) (device : Device) → device_at text ≡ Some device → is_some (whole_disk_at text) ≡ true
    → (device.partition ≡ 0) × (whole_disk_at text ≡ Some device.disk)
unfolding whole_disk_at
whole_disk_at-whole text device is whole = by _ refl (rw is at whole)
  where
    by : (none : Bool) → (device.partition == 0) ≡ none → is_some (if none then Some device.disk else None) ≡ true
        → (device.partition ≡ 0) × (option_and_then (λ d. if d.partition == 0 then Some d.disk else None) (device_at text) ≡ Some device.disk)
    by true e some = (eqb-true _ _ e, rw (is, e) refl)
    by false e some = absurd (cc)

-- ---- numbers

pub number_between-range : (low high : ℕ) (text : List ℕ) (number : ℕ) → number_between low high text ≡ Some number
    → (written_number text ≡ Some number) × (low ≤ number) × (number ≤ high)
unfolding number_between
number_between-range low high text number is = found _ refl is
  where
    by : (here : ℕ) (inside : Bool) → is_between low high here ≡ inside → (if inside then Some here else None) ≡ Some number → written_number text ≡ Some here
        → (written_number text ≡ Some number) × (low ≤ number) × (number ≤ high)
    by here true e f w =
        let same : here ≡ number = cc in
        let both = and_parts (nat_le low here) (nat_le here high) e in
        rw (← same) (w, leb-true low here both.0, leb-true here high both.1)
    by here false e f w = absurd (cc)

    found : (number' : Option ℕ) → written_number text ≡ number' → option_and_then (λ n. if is_between low high n then Some n else None) number' ≡ Some number
        → (written_number text ≡ Some number) × (low ≤ number) × (number ≤ high)
    found None w f = absurd (cc)
    found (Some here) w f = by here _ refl f w

-- a number in one range is in another, where a text writes it
pub number_between-narrow : (low high low' high' : ℕ) (text : List ℕ) (number : ℕ) → number_between low high text ≡ Some number
    → is_some (number_between low' high' text) ≡ true → (low' ≤ number) × (number ≤ high')
number_between-narrow low high low' high' text number is some = by _ refl
  where
    wide : (written_number text ≡ Some number) × (low ≤ number) × (number ≤ high)
    wide = number_between-range low high text number is

    by : (found : Option ℕ) → number_between low' high' text ≡ found → (low' ≤ number) × (number ≤ high')
    by None e = let f = rw e at some in absurd (cc)
    by (Some other) e =
        let narrow = number_between-range low' high' text other e in
        let one = wide.0 in
        let two = narrow.0 in
        let same : other ≡ number = cc in
        rw (← same) (narrow.1, narrow.2)

disk_number-small : (disk : ℕ) → disk_number disk ≤ 2064
unfolding disk_number
disk_number-small disk = by (disk == 0) (disk == 1) (disk == 2)
  where
    by : (one two three : Bool) → (if one then 768 else if two then 832 else if three then 2048 else 2064) ≤ 2064
    by true two three = omega arith
    by false true three = omega arith
    by false false true = omega arith
    by false false false = omega arith

last_partition-small : (disk : ℕ) → last_partition disk ≤ 63
unfolding last_partition
last_partition-small disk = by (nat_le disk 1)
  where
    by : (first : Bool) → (if first then 63 else 15) ≤ 63
    by true = omega arith
    by false = omega arith

device_number-small : (device : Device) → IsDevice device → device_number device ≤ 65535
unfolding device_number
device_number-small device is = omega (arith, disk_number-small device.disk, last_partition-small device.disk, is.partition)

-- the number of a device that a text names fits two bytes
pub root_at-range : (text : List ℕ) (number : ℕ) → root_at text ≡ Some number → number ≤ 65535
unfolding root_at
root_at-range text number is = by _ refl
  where
    hexadecimal : (behind : Bool) → (if behind then number_between 0 65535 text else None) ≡ Some number → number ≤ 65535
    hexadecimal true e = (number_between-range 0 65535 text number e).2
    hexadecimal false e = absurd (cc)

    by : (found : Option Device) → device_at text ≡ found → number ≤ 65535
    by (Some device) e =
        let f = rw e at is in
        let same : device_number device ≡ number = cc in
        rw same at (device_number-small device (device_at-device text device e).0)
    by None e = hexadecimal (starts_with nat_eq text (codes "0x")) (rw e at is)

mode_number-range : (written : Option ℕ) (number : ℕ) → mode_number written ≡ Some number → number ≤ 65535
mode_number-range None number is = absurd (cc)
mode_number-range (Some written) number is = by _ refl is
  where
    by : (fits : Bool) → nat_le written 65535 ≡ fits → (if fits then Some written else None) ≡ Some number → number ≤ 65535
    by true e f = let same : written ≡ number = cc in rw same at (leb-true written 65535 e)
    by false e f = absurd (cc)

some-range : (known number : ℕ) → known ≤ 65535 → Some known ≡ Some number → number ≤ 65535
some-range known number small is = let same : known ≡ number = cc in rw same at small

-- a video mode fits two bytes
pub video_mode-range : (text : List ℕ) (number : ℕ) → video_mode text ≡ Some number → number ≤ 65535
video_mode-range text number is = by (bytes_eq text (codes "normal")) (bytes_eq text (codes "ext")) (bytes_eq text (codes "extended")) (bytes_eq text (codes "ask")) is
  where
    by : (one two three four : Bool)
        → (if one then Some 65535 else (if two then Some 65534 else (if three then Some 65534 else (if four then Some 65533 else mode_number (written_number text))))) ≡ Some number
        → number ≤ 65535
    by true two three four e = some-range 65535 number (omega arith) e
    by false true three four e = some-range 65534 number (omega arith) e
    by false false true four e = some-range 65534 number (omega arith) e
    by false false false true e = some-range 65533 number (omega arith) e
    by false false false false e = mode_number-range (written_number text) number e
