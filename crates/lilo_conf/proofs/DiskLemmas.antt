-- What is said of disks, setting by setting.
use Rattle.std.proofs.Common.{◌≡◌, ℕ, ◌≤◌, Bool, true, false, List, ◌∷◌, refl}
use Rattle.std.specs.Prelude.{Option, None, Some, if◌then◌else◌, ◌&&◌, nat_le}
use Rattle.std.proofs.lemmas.Bool.{leb-true}
use Rattle.lilo_model.specs.Bytes.{is_between}
use Rattle.lilo_model.specs.VideoMode.{written_number}
use Rattle.lilo_model.specs.ConfValues.{number_between}
use Rattle.lilo_model.specs.ConfOptions as options
use Rattle.lilo_model.specs.ConfOptions.{Opt, same_option}
use Rattle.lilo_model.specs.ConfSettings.{Setting}
use Rattle.lilo_model.specs.Conf as model

-- a number in a range is at most its end
pub number_between-most : (low high number : ℕ) (text : List ℕ) → Some number ≡ number_between low high text → number ≤ high
unfolding number_between
number_between-most low high number text = by (written_number text) refl
  where
    tested : (found : ℕ) (test : Bool) → is_between low high found ≡ test → Some number ≡ (if test then Some found else None) → number ≤ high
    tested found false is same = let e = same in absurd (cc)
    tested found true is same = let e : number ≡ found = cc in rw e (within (nat_le low found) (nat_le found high) refl is)
      where
        within : (one other : Bool) → nat_le found high ≡ other → (one && other) ≡ true → found ≤ high
        within true true most is = leb-true found high most
        within true false most is = let e = is in absurd (cc)
        within false other most is = let e = is in absurd (cc)

    by : (written : Option ℕ) → written_number text ≡ written → Some number ≡ number_between low high text → number ≤ high
    by None is same = let e = rw (is, number_between) at same in absurd (cc)
    by (Some found) is same = tested found (is_between low high found) refl (rw (is, number_between) at same)

pub number_of-most : (high number : ℕ) (option : Opt) (settings : List Setting) → Some number ≡ model.number_of high option settings → number ≤ high
unfolding model.number_of
number_of-most high number option settings = by (model.value_of option settings) refl
  where
    by : (value : Option (List ℕ)) → model.value_of option settings ≡ value → Some number ≡ model.number_of high option settings → number ≤ high
    by None is same = let e = rw (is, model.number_of) at same in absurd (cc)
    by (Some text) is same = number_between-most 0 high number text (rw (is, model.number_of) at same)

-- a setting that speaks of a disk comes before those after it
pub disks_of-some : (setting : Setting) (behind : List Setting) (disk : model.DiskSection)
    → Some disk ≡ (if same_option setting.option options.Disk then model.disk_of setting behind else None)
    → model.disks_of (setting ∷ behind) ≡ disk ∷ model.disks_of behind
unfolding model.disks_of
disks_of-some setting behind disk = by (same_option setting.option options.Disk) refl
  where
    by : (test : Bool) → same_option setting.option options.Disk ≡ test → Some disk ≡ (if test then model.disk_of setting behind else None)
        → model.disks_of (setting ∷ behind) ≡ disk ∷ model.disks_of behind
    by true is told = rw (is, model.disks_of, ← told) refl
    by false is told = let e = told in absurd (cc)

-- one that doesn't is passed over
pub disks_of-none : (setting : Setting) (behind : List Setting)
    → None ≡ (if same_option setting.option options.Disk then model.disk_of setting behind else None)
    → model.disks_of (setting ∷ behind) ≡ model.disks_of behind
unfolding model.disks_of
disks_of-none setting behind = by (same_option setting.option options.Disk) refl
  where
    by : (test : Bool) → same_option setting.option options.Disk ≡ test → None ≡ (if test then model.disk_of setting behind else None)
        → model.disks_of (setting ∷ behind) ≡ model.disks_of behind
    by true is told = rw (is, model.disks_of, ← told) refl
    by false is told = rw (is, model.disks_of) refl
