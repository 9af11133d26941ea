-- Options by their places and names.
use Rattle.std.proofs.Common.{◌≡◌, ℕ, Bool, true, false, List, [], ◌∷◌, map, refl}
use Rattle.std.specs.Prelude.{Option, Some, find, unwrap_or, bytes_eq, if◌then◌else◌}
use denote.Enum.Declared.{tag_of}
use Rattle.lilo_model.specs.ConfOptions.{opt_number, opt_name, all_options, option_at}
use Rattle.conf_settings.specs.View.{opt_view}
use Rattle.conf_settings.specs.declared.option.Opt.{Opt}
use Rattle.conf_settings.specs.declared.option.Opt.TheVariants as options
use Rattle.conf_settings.specs.contracts.option.Opt.{the_type}

-- the variants are in the model's order
pub tag_of-number : (option : Opt) → tag_of the_type option ≡ opt_number (opt_view option)
unfolding opt_number
tag_of-number options.Boot = refl
tag_of-number options.Map = refl
tag_of-number options.Install = refl
tag_of-number options.Backup = refl
tag_of-number options.ForceBackup = refl
tag_of-number options.Message = refl
tag_of-number options.Compact = refl
tag_of-number options.Linear = refl
tag_of-number options.Lba32 = refl
tag_of-number options.Prompt = refl
tag_of-number options.Nowarn = refl
tag_of-number options.IgnoreTable = refl
tag_of-number options.FixTable = refl
tag_of-number options.Default = refl
tag_of-number options.Delay = refl
tag_of-number options.Timeout = refl
tag_of-number options.Verbose = refl
tag_of-number options.Disk = refl
tag_of-number options.Bios = refl
tag_of-number options.Sectors = refl
tag_of-number options.Heads = refl
tag_of-number options.Cylinders = refl
tag_of-number options.Image = refl
tag_of-number options.OtherDevice = refl
tag_of-number options.Label = refl
tag_of-number options.Alias = refl
tag_of-number options.Initrd = refl
tag_of-number options.Root = refl
tag_of-number options.ReadOnly = refl
tag_of-number options.ReadWrite = refl
tag_of-number options.Append = refl
tag_of-number options.Literal = refl
tag_of-number options.Vga = refl
tag_of-number options.Password = refl
tag_of-number options.Restricted = refl
tag_of-number options.Optional = refl
tag_of-number options.Lock = refl
tag_of-number options.Fallback = refl
tag_of-number options.Table = refl
tag_of-number options.Loader = refl
tag_of-number options.Serial = refl
tag_of-number options.Keytable = refl
tag_of-number options.Change = refl
tag_of-number options.ChangeRules = refl
tag_of-number options.Ramdisk = refl
tag_of-number options.Disktab = refl
tag_of-number options.SingleKey = refl
tag_of-number options.Bitmap = refl
tag_of-number options.BmpColors = refl
tag_of-number options.BmpTable = refl
tag_of-number options.BmpTimer = refl
tag_of-number options.Unsafe = refl
tag_of-number options.Range = refl
tag_of-number options.Partition = refl
tag_of-number options.MapDrive = refl
tag_of-number options.Other = refl

-- the first that passes a test, or another, seen otherwise
pub find-map-or : {A B : Type 0} (view : A → B) (p : B → Bool) (xs : List A) (other : A)
    → view (unwrap_or (find (λ x. p (view x)) xs) other) ≡ unwrap_or (find p (map view xs)) (view other)
find-map-or view p [] other = refl
find-map-or {A = A} {B = B} view p (x ∷ xs) other = by (p (view x)) (find-map-or view p xs other)
  where
    by : (test : Bool) → view (unwrap_or (find (λ y. p (view y)) xs) other) ≡ unwrap_or (find p (map view xs)) (view other)
        → ◌≡◌ {A = B} (view (unwrap_or (if test then Some x else find (λ y. p (view y)) xs) other)) (unwrap_or (if test then Some (view x) else find p (map view xs)) (view other))
    by true behind = refl
    by false behind = behind

-- what is found among all options is the option of the name
pub option_at-found : (word : List ℕ) (list : List Opt) (found : Option Opt) → map opt_view list ≡ all_options
    → found ≡ find (λ option. bytes_eq word (opt_name (opt_view option))) list
    → opt_view (unwrap_or found options.Other) ≡ option_at word
unfolding option_at
option_at-found word list found all is =
    rw (is, ← all) (find-map-or opt_view (λ option. bytes_eq word (opt_name option)) list options.Other)
