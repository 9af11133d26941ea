-- What is said of disks that isn't refused: each is spoken of once, and in its range.
use Rattle.std.proofs.Common.{◌≡◌, ◌≢◌, ℕ, ◌+◌, ◌≤◌, Bool, true, false, List, [], ◌∷◌, ◌++◌, Some, None, Option, refl, sym, ◌∙◌, cond, arith}
use Rattle.std.specs.Prelude.{IfSome, AllPairs, is_some, if◌then◌else◌, find, take_while, ◌==◌}
use Rattle.std.specs.List.{AllByRecursion, list_any}
use Rattle.std.specs.Option.{option_and_then}
use Rattle.std.proofs.lemmas.Bool.{or_parts, eq-eqb}
use Rattle.std.proofs.lemmas.List.Elements.{All-from_recursion}
use Rattle.std.proofs.lemmas.List.Folds.{list_any-append}
use Rattle.std.proofs.lemmas.List.Kept.{AllPairs-cons}
use Rattle.std.proofs.lemmas.List.Sums.{take_while-cons}
use Rattle.lilo_model.specs.ConfOptions as options
use Rattle.lilo_model.specs.ConfOptions.{Opt, takes_of, stands_in, opens, is_of_disk, same_option, opt_number}
use Rattle.lilo_model.specs.Devices.{Device, IsDevice, device_at}
use Rattle.lilo_model.specs.ConfValues.{is_value, number_between, whole_disk_at}
use Rattle.lilo_model.specs.ConfRefusal as reasons
use Rattle.lilo_model.specs.ConfSettings.{Setting}
use Rattle.lilo_model.specs.ConfJudge.{given_text, setting_of, has_option, part_kind, setting_disk, details_of, group_disk, is_same_disk, value_reason, disk_reason, detail_reason, setting_reason}
use Rattle.lilo_model.specs.Conf.{DiskSection, value_of, number_of, disk_of, disks_of}
use Rattle.lilo_model.specs.ConfLawful.{IsLawfulDisk}
use Rattle.conf_laws.proofs.Options.{same_option-same}
use Rattle.conf_laws.proofs.Settings.{Stands, AllStand, FitsValue, value_reason-none}
use Rattle.conf_laws.proofs.Values.{device_at-device, whole_disk_at-whole, number_between-narrow}
use Rattle.conf_laws.proofs.Effects.{if_meant}
use Rattle.conf_laws.proofs.Groups.{group_disk-begun, group_disk-told}

of_disk-apart : (one : Opt) → is_of_disk one ≡ true → same_option one options.Disk ≡ false
unfolding is_of_disk opt_number
of_disk-apart options.Bios is = refl
of_disk-apart options.Sectors is = refl
of_disk-apart options.Heads is = refl
of_disk-apart options.Cylinders is = refl
of_disk-apart _ is = absurd (cc)

detail-fine : (disk : ℕ) (own : List Setting) (setting : Setting) → is_of_disk setting.option ≡ true → opens setting.option ≡ false → group_disk own ≡ Some disk
    → setting_reason own setting ≡ None → value_reason disk setting ≡ None
unfolding setting_reason detail_reason
detail-fine disk own setting told inside group none = by _ refl (rw (inside, of_disk-apart setting.option told, told, group) at none)
  where
    by : (has : Bool) → has_option setting.option (details_of own) ≡ has → (if has_option setting.option (details_of own) then Some reasons.Repeated else value_reason disk setting) ≡ None → value_reason disk setting ≡ None
    by true has e = let f = rw has at e in absurd (cc)
    by false has e = rw has at e

-- a value that is said of the disk of a group fits it
details-given : (size : ℕ) (one : Opt) (disk : ℕ) (own settings : List Setting) (text : List ℕ) → group_disk own ≡ Some disk → AllStand size own settings
    → value_of one (take_while (λ d. is_of_disk d.option) settings) ≡ Some text → FitsValue one disk text
unfolding value_of setting_of
details-given size one disk own [] text group stand is = absurd (cc)
details-given size one disk own (setting ∷ settings) text group stand is =
    by _ refl (rw (take_while-cons (λ d. is_of_disk d.option) setting settings) at is)
    (λ told. details-given size one disk (own ++ setting ∷ []) settings text (group_disk-told own setting told ∙ group) stand.1)
  where
    here : (same : Bool) → same_option setting.option one ≡ same → is_of_disk setting.option ≡ true
        → option_and_then (λ s. given_text s.given) (cond same (Some setting) (find (λ s. same_option s.option one) (take_while (λ d. is_of_disk d.option) settings))) ≡ Some text
        → (value_of one (take_while (λ d. is_of_disk d.option) settings) ≡ Some text → FitsValue one disk text)
        → FitsValue one disk text
    here true same told e rest =
        rw (same_option-same setting.option one same) at (value_reason-none disk setting text (detail-fine disk own setting told stand.0.inside group stand.0.fine) e)
    here false same told e rest = rest e

    by : (told : Bool) → is_of_disk setting.option ≡ told
        → value_of one (cond told (setting ∷ take_while (λ d. is_of_disk d.option) settings) []) ≡ Some text
        → (is_of_disk setting.option ≡ true → value_of one (take_while (λ d. is_of_disk d.option) settings) ≡ Some text → FitsValue one disk text)
        → FitsValue one disk text
    by true told e rest = here _ refl told e (rest told)
    by false told e rest = absurd (cc)

-- ---- a disk

-- what isn't refused of a `disk`
record FitsDisk (own : List Setting) (setting : Setting) : Type 0 where
  once : list_any (λ other. is_same_disk (setting_disk setting) (setting_disk other)) own ≡ false
  valued : value_reason 0 setting ≡ None

disk_reason-none : (own : List Setting) (setting : Setting) → disk_reason own setting ≡ None → FitsDisk own setting
unfolding disk_reason
disk_reason-none own setting none = by _ _ refl refl
  where
    by : (placed again : Bool) → stands_in (part_kind own) options.Disk ≡ placed → list_any (λ other. is_same_disk (setting_disk setting) (setting_disk other)) own ≡ again → FitsDisk own setting
    by false again is e = let f = rw is at none in absurd (cc)
    by true true is e = let f = rw (is, e) at none in absurd (cc)
    by true false is e = record { once = e; valued = rw (is, e) at none }

disk-fits : (own : List Setting) (setting : Setting) → same_option setting.option options.Disk ≡ true → opens setting.option ≡ false → setting_reason own setting ≡ None → FitsDisk own setting
unfolding setting_reason
disk-fits own setting is inside none = disk_reason-none own setting (rw (inside, is) at none)

disk_apart : (one : Opt) → same_option one options.Disk ≡ true → is_of_disk one ≡ false
disk_apart one is = by _ refl
  where
    by : (told : Bool) → is_of_disk one ≡ told → is_of_disk one ≡ false
    by false e = e
    by true e = let f = of_disk-apart one e in absurd (cc)

-- what is said of it is in its range, and is said of its disk
record IsTold (own : List Setting) (setting : Setting) (disk : DiskSection) : Type 0 where
  lawful : IsLawfulDisk disk
  named : setting_disk setting ≡ Some disk.device.disk
  once : list_any (λ other. is_same_disk (Some disk.device.disk) (setting_disk other)) own ≡ false

is_whole : (one : Opt) (text : List ℕ) → takes_of one ≡ options.AWholeDisk → FitsValue one 0 text → is_some (whole_disk_at text) ≡ true
unfolding is_value
is_whole one text takes fits = let e = fits.value in rw takes at e

-- the settings that say something of the disk of a group
abbrev details : List Setting → List Setting
details settings = take_while (λ d. is_of_disk d.option) settings

bios-told : (disk : ℕ) (text : List ℕ) (number : ℕ) → FitsValue options.Bios disk text → number_between 0 255 text ≡ Some number → number ≡ 128 + disk
unfolding is_value takes_of
bios-told disk text number fits is =
    let range = number_between-narrow 0 255 (128 + disk) (128 + disk) text number is fits.value in
    omega (arith, range.0, range.1)

number-told : (one : Opt) (low high disk : ℕ) (text : List ℕ) (number : ℕ) → takes_of one ≡ options.ANumber low high → FitsValue one disk text → number_between 0 255 text ≡ Some number
    → (low ≤ number) × (number ≤ high)
unfolding is_value
number-told one low high disk text number takes fits is =
    let e = fits.value in
    number_between-narrow 0 255 low high text number is (rw takes at e)

-- a disk whose group goes on after others
told-lawful : (size : ℕ) (own settings : List Setting) (device : Device) (line : ℕ) → IsDevice device → device.partition ≡ 0 → group_disk own ≡ Some device.disk → AllStand size own settings
    → IsLawfulDisk (record {
      device = device;
      bios = number_of 255 options.Bios (details settings);
      sectors = number_of 255 options.Sectors (details settings);
      heads = number_of 255 options.Heads (details settings);
      line = line;
    })
unfolding number_of takes_of
told-lawful size own settings device line is whole group stand = record {
  device = is;
  whole = whole;
  bios = if_meant (λ number. number ≡ 128 + device.disk) (number_between 0 255) (value_of options.Bios (details settings))
      (λ text number given means. bios-told device.disk text number (details-given size options.Bios device.disk own settings text group stand given) means);
  sectors = if_meant (λ number. (1 ≤ number) × (number ≤ 63)) (number_between 0 255) (value_of options.Sectors (details settings))
      (λ text number given means. number-told options.Sectors 1 63 device.disk text number refl (details-given size options.Sectors device.disk own settings text group stand given) means);
  heads = if_meant (λ number. (1 ≤ number) × (number ≤ 255)) (number_between 0 255) (value_of options.Heads (details settings))
      (λ text number given means. number-told options.Heads 1 255 device.disk text number refl (details-given size options.Heads device.disk own settings text group stand given) means);
}

named-disk : (setting : Setting) (text : List ℕ) → same_option setting.option options.Disk ≡ true → given_text setting.given ≡ Some text → setting_disk setting ≡ whole_disk_at text
unfolding setting_disk
named-disk setting text is given = rw (is, given) refl

disk_of-told : (size : ℕ) (own : List Setting) (setting : Setting) (settings : List Setting) → same_option setting.option options.Disk ≡ true
    → Stands size own setting → AllStand size (own ++ setting ∷ []) settings → IfSome (disk_of setting settings) (IsTold own setting)
unfolding disk_of takes_of
disk_of-told size own setting settings is here behind = by _ refl
  where
    fits : FitsDisk own setting
    fits = disk-fits own setting is here.inside here.fine

    takes : takes_of setting.option ≡ options.AWholeDisk
    takes = rw (same_option-same setting.option options.Disk is) refl

    found : (text : List ℕ) (device : Option Device) → given_text setting.given ≡ Some text → device_at text ≡ device → IfSome (disk_of setting settings) (IsTold own setting)
    found text None given e = rw (given, e) tt
    found text (Some device) given e =
        let value = is_whole setting.option text takes (value_reason-none 0 setting text fits.valued given) in
        let whole = whole_disk_at-whole text device e value in
        let named = named-disk setting text is given ∙ whole.1 in
        let group = group_disk-begun own setting (disk_apart setting.option is) ∙ named in
        let told = told-lawful size (own ++ setting ∷ []) settings device setting.line (device_at-device text device e).0 whole.0 group behind in
        rw (given, e) (record { lawful = told; named = named; once = rw named at fits.once })

    by : (given : Option (List ℕ)) → given_text setting.given ≡ given → IfSome (disk_of setting settings) (IsTold own setting)
    by None given = rw given tt
    by (Some text) given = found text _ given refl

-- ---- disks

-- a disk of which something in its range is said, and nothing before
pub record IsFresh (own : List Setting) (disk : DiskSection) : Type 0 where
  lawful : IsLawfulDisk disk
  once : list_any (λ other. is_same_disk (Some disk.device.disk) (setting_disk other)) own ≡ false

pub record AreDisks (own : List Setting) (disks : List DiskSection) : Type 0 where
  pub fresh : AllByRecursion (IsFresh own) disks
  pub apart : AllPairs (λ one other. one.device.disk ≢ other.device.disk) disks

-- disks of which nothing is said up to a setting aren't spoken of before it, nor by it
fresh-before : (own : List Setting) (setting : Setting) (disks : List DiskSection) → AllByRecursion (IsFresh (own ++ setting ∷ [])) disks → AllByRecursion (IsFresh own) disks
fresh-before own setting [] fresh = tt
fresh-before own setting (disk ∷ disks) fresh =
    let test : Setting → Bool = λ other. is_same_disk (Some disk.device.disk) (setting_disk other) in
    let parts = or_parts (list_any test own) (list_any test (setting ∷ [])) (rw (list_any-append test own (setting ∷ [])) at fresh.0.once) in
    (record { lawful = fresh.0.lawful; once = parts.0 }, fresh-before own setting disks fresh.1)

fresh-apart : (own : List Setting) (setting : Setting) (number : ℕ) (disks : List DiskSection) → setting_disk setting ≡ Some number
    → AllByRecursion (IsFresh (own ++ setting ∷ [])) disks → AllByRecursion (λ other. number ≢ other.device.disk) disks
unfolding is_same_disk
fresh-apart own setting number [] named fresh = tt
fresh-apart own setting number (disk ∷ disks) named fresh =
    let test : Setting → Bool = λ other. is_same_disk (Some disk.device.disk) (setting_disk other) in
    let parts = or_parts (list_any test own) (list_any test (setting ∷ [])) (rw (list_any-append test own (setting ∷ [])) at fresh.0.once) in
    let last = (or_parts (test setting) false parts.1).0 in
    let apart : (disk.device.disk == number) ≡ false = rw named at last in
    ((λ same. let e = eq-eqb disk.device.disk number (sym same) in absurd (cc)), fresh-apart own setting number disks named fresh.1)

with-disk : (own : List Setting) (setting : Setting) (disk : DiskSection) (disks : List DiskSection) → IsTold own setting disk → AreDisks (own ++ setting ∷ []) disks → AreDisks own (disk ∷ disks)
with-disk own setting disk disks told behind = record {
  fresh = (record { lawful = told.lawful; once = told.once }, fresh-before own setting disks behind.fresh);
  apart = AllPairs-cons (λ one other. one.device.disk ≢ other.device.disk) disk disks
      (All-from_recursion (λ other. disk.device.disk ≢ other.device.disk) disks (fresh-apart own setting disk.device.disk disks told.named behind.fresh)) behind.apart;
}

pub disks_of-disks : (size : ℕ) (own settings : List Setting) → AllStand size own settings → AreDisks own (disks_of settings)
unfolding disks_of
disks_of-disks size own [] stand = record { fresh = tt; apart = λ i j d less within. absurd (omega (arith, within)) }
disks_of-disks size own (setting ∷ settings) stand = by _ refl (disks_of-disks size (own ++ setting ∷ []) settings stand.1)
  where
    found : (disk : Option DiskSection) → disk_of setting settings ≡ disk → IfSome disk (IsTold own setting) → same_option setting.option options.Disk ≡ true
        → AreDisks (own ++ setting ∷ []) (disks_of settings) → AreDisks own (disks_of (setting ∷ settings))
    found None e told is behind = rw (is, e) (record { fresh = fresh-before own setting _ behind.fresh; apart = behind.apart })
    found (Some disk) e told is behind = rw (is, e) (with-disk own setting disk (disks_of settings) told behind)

    by : (is_disk : Bool) → same_option setting.option options.Disk ≡ is_disk → AreDisks (own ++ setting ∷ []) (disks_of settings) → AreDisks own (disks_of (setting ∷ settings))
    by true is behind = found _ refl (disk_of-told size own setting settings is stand.0 stand.1) is behind
    by false is behind = rw is (record { fresh = fresh-before own setting _ behind.fresh; apart = behind.apart })

pub disks-lawful : (own : List Setting) (disks : List DiskSection) → AllByRecursion (IsFresh own) disks → AllByRecursion IsLawfulDisk disks
disks-lawful own [] fresh = tt
disks-lawful own (disk ∷ disks) fresh = (fresh.0.lawful, disks-lawful own disks fresh.1)
