-- Options, distinguished by their numbers.
use Rattle.std.proofs.Common.{◌≡◌, true, false, refl, sym, ◌∙◌, ap, get_or}
use Rattle.std.proofs.lemmas.Bool.{eqb-true}
use Rattle.lilo_model.specs.ConfOptions as options
use Rattle.lilo_model.specs.ConfOptions.{Opt, Part, GlobalPart, opt_number, all_options, same_option, opens}
use Rattle.lilo_model.specs.ConfJudge.{opened_part}

-- the option at a number is that option
option_at-number : (one : Opt) → get_or all_options (opt_number one) options.Other ≡ one
unfolding opt_number all_options
option_at-number options.Boot = refl
option_at-number options.Map = refl
option_at-number options.Install = refl
option_at-number options.Backup = refl
option_at-number options.ForceBackup = refl
option_at-number options.Message = refl
option_at-number options.Compact = refl
option_at-number options.Linear = refl
option_at-number options.Lba32 = refl
option_at-number options.Prompt = refl
option_at-number options.Nowarn = refl
option_at-number options.IgnoreTable = refl
option_at-number options.FixTable = refl
option_at-number options.Default = refl
option_at-number options.Delay = refl
option_at-number options.Timeout = refl
option_at-number options.Verbose = refl
option_at-number options.Disk = refl
option_at-number options.Bios = refl
option_at-number options.Sectors = refl
option_at-number options.Heads = refl
option_at-number options.Cylinders = refl
option_at-number options.Image = refl
option_at-number options.OtherDevice = refl
option_at-number options.Label = refl
option_at-number options.Alias = refl
option_at-number options.Initrd = refl
option_at-number options.Root = refl
option_at-number options.ReadOnly = refl
option_at-number options.ReadWrite = refl
option_at-number options.Append = refl
option_at-number options.Literal = refl
option_at-number options.Vga = refl
option_at-number options.Password = refl
option_at-number options.Restricted = refl
option_at-number options.Optional = refl
option_at-number options.Lock = refl
option_at-number options.Fallback = refl
option_at-number options.Table = refl
option_at-number options.Loader = refl
option_at-number options.Serial = refl
option_at-number options.Keytable = refl
option_at-number options.Change = refl
option_at-number options.ChangeRules = refl
option_at-number options.Ramdisk = refl
option_at-number options.Disktab = refl
option_at-number options.SingleKey = refl
option_at-number options.Bitmap = refl
option_at-number options.BmpColors = refl
option_at-number options.BmpTable = refl
option_at-number options.BmpTimer = refl
option_at-number options.Unsafe = refl
option_at-number options.Range = refl
option_at-number options.Partition = refl
option_at-number options.MapDrive = refl
option_at-number options.Other = refl

-- options with one number are one
pub same_option-same : (one other : Opt) → same_option one other ≡ true → one ≡ other
same_option-same one other is =
    sym (option_at-number one) ∙ ap (λ n. get_or all_options n options.Other) (eqb-true (opt_number one) (opt_number other) is) ∙ option_at-number other

-- an option that opens no section opens no part
pub opened_part-global : (one : Opt) → opens one ≡ false → opened_part one ≡ GlobalPart
unfolding opens opened_part
opened_part-global options.Image is = absurd (cc)
opened_part-global options.OtherDevice is = absurd (cc)
opened_part-global _ is = refl
