-- Which plain value of the model each value of this crate stands for.
use Rattle.std.specs.Prelude.{◌≡◌, List, Option, None, Some, map}
use Rattle.std.specs.Option.{option_map}
use Rattle.lilo_model.specs.ConfOptions as model
use Rattle.lilo_model.specs.ConfRefusal as refusals
use Rattle.lilo_model.specs.ConfSettings as settings
use Rattle.conf_text.specs.View.{text_fault_view}
use Rattle.conf_settings.specs.declared.option.Opt.{Opt}
use Rattle.conf_settings.specs.declared.option.Places.{Places}
use Rattle.conf_settings.specs.declared.option.Opt.TheVariants as options
use Rattle.conf_settings.specs.declared.option.Takes.{Takes}
use Rattle.conf_settings.specs.declared.option.Takes.TheVariants as takes
use Rattle.conf_settings.specs.declared.option.Part.{Part}
use Rattle.conf_settings.specs.declared.option.Part.TheVariants as parts
use Rattle.conf_settings.specs.declared.reason.ConfReason.{ConfReason}
use Rattle.conf_settings.specs.declared.reason.ConfReason.TheVariants as reasons
use Rattle.conf_settings.specs.declared.reason.ConfFault.{ConfFault}
use Rattle.conf_settings.specs.declared.setting.Given.{Given}
use Rattle.conf_settings.specs.declared.setting.Given.TheVariants as givens
use Rattle.conf_settings.specs.declared.setting.Setting.{Setting}
use Rattle.conf_settings.specs.declared.setting.Cut.{Cut}

-- an option
abbrev pub opt_view : Opt → model.Opt
opt_view options.Boot = model.Boot
opt_view options.Map = model.Map
opt_view options.Install = model.Install
opt_view options.Backup = model.Backup
opt_view options.ForceBackup = model.ForceBackup
opt_view options.Message = model.Message
opt_view options.Compact = model.Compact
opt_view options.Linear = model.Linear
opt_view options.Lba32 = model.Lba32
opt_view options.Prompt = model.Prompt
opt_view options.Nowarn = model.Nowarn
opt_view options.IgnoreTable = model.IgnoreTable
opt_view options.FixTable = model.FixTable
opt_view options.Default = model.Default
opt_view options.Delay = model.Delay
opt_view options.Timeout = model.Timeout
opt_view options.Verbose = model.Verbose
opt_view options.Disk = model.Disk
opt_view options.Bios = model.Bios
opt_view options.Sectors = model.Sectors
opt_view options.Heads = model.Heads
opt_view options.Cylinders = model.Cylinders
opt_view options.Image = model.Image
opt_view options.OtherDevice = model.OtherDevice
opt_view options.Label = model.Label
opt_view options.Alias = model.Alias
opt_view options.Initrd = model.Initrd
opt_view options.Root = model.Root
opt_view options.ReadOnly = model.ReadOnly
opt_view options.ReadWrite = model.ReadWrite
opt_view options.Append = model.Append
opt_view options.Literal = model.Literal
opt_view options.Vga = model.Vga
opt_view options.Password = model.Password
opt_view options.Restricted = model.Restricted
opt_view options.Optional = model.Optional
opt_view options.Lock = model.Lock
opt_view options.Fallback = model.Fallback
opt_view options.Table = model.Table
opt_view options.Loader = model.Loader
opt_view options.Serial = model.Serial
opt_view options.Keytable = model.Keytable
opt_view options.Change = model.Change
opt_view options.ChangeRules = model.ChangeRules
opt_view options.Ramdisk = model.Ramdisk
opt_view options.Disktab = model.Disktab
opt_view options.SingleKey = model.SingleKey
opt_view options.Bitmap = model.Bitmap
opt_view options.BmpColors = model.BmpColors
opt_view options.BmpTable = model.BmpTable
opt_view options.BmpTimer = model.BmpTimer
opt_view options.Unsafe = model.Unsafe
opt_view options.Range = model.Range
opt_view options.Partition = model.Partition
opt_view options.MapDrive = model.MapDrive
opt_view options.Other = model.Other

-- what an option takes
abbrev pub takes_view : Takes → model.Takes
takes_view takes.Nothing = model.Nothing
takes_view takes.Device = model.ADevice
takes_view takes.WholeDisk = model.AWholeDisk
takes_view takes.Path = model.APath
takes_view takes.Name = model.AName
takes_view (takes.Number low high) = model.ANumber low high
takes_view takes.Bios = model.ABios
takes_view takes.Root = model.ARoot
takes_view takes.Text = model.AText
takes_view takes.Video = model.AVideo
takes_view (takes.Shown most) = model.AShown most
takes_view takes.LeftOut = model.LeftOut
takes_view takes.Unknown = model.Unknown

-- where an option may come
abbrev pub places_view : Places → model.Places
places_view places = record { in_global = places.global; in_image = places.image; in_other = places.other }

-- where options are
abbrev pub part_view : Part → model.Part
part_view parts.Global = model.GlobalPart
part_view parts.Image = model.ImagePart
part_view parts.Other = model.OtherPart

-- what is wrong; out of memory is nothing of a configuration
abbrev pub reason_view : ConfReason → Option refusals.ConfReason
reason_view reasons.Unknown = Some refusals.Unknown
reason_view reasons.LeftOut = Some refusals.LeftOut
reason_view reasons.Repeated = Some refusals.Repeated
reason_view reasons.NoValue = Some refusals.NoValue
reason_view reasons.BadValue = Some refusals.BadValue
reason_view reasons.Misplaced = Some refusals.Misplaced
reason_view reasons.NameTooLong = Some refusals.NameTooLong
reason_view reasons.RepeatedName = Some refusals.RepeatedName
reason_view reasons.TooManyNames = Some refusals.TooManyNames
reason_view (reasons.Excludes other) = Some (refusals.Excludes (opt_view other))
reason_view reasons.NoDefault = Some refusals.NoDefault
reason_view reasons.NoImages = Some refusals.NoImages
reason_view (reasons.Needs other) = Some (refusals.Needs (opt_view other))
reason_view (reasons.Text fault) = Some (refusals.Text (text_fault_view fault))
reason_view (reasons.TooLong size) = Some (refusals.TooLong size)
reason_view reasons.Memory = None

-- a refusal
abbrev pub fault_view : ConfFault → Option refusals.ConfRefusal
fault_view fault =
    option_map (λ reason. record { reason = reason; option = opt_view fault.option; line = fault.line }) (reason_view fault.reason)

-- what comes after an option
abbrev pub given_view : Given → settings.Given
given_view givens.Bare = settings.Bare
given_view givens.Sign = settings.Sign
given_view (givens.Value text) = settings.Value text

-- a setting
abbrev pub setting_view : Setting → settings.Setting
setting_view setting =
    record { option = opt_view setting.option; given = given_view setting.given; line = setting.line }

-- some settings
abbrev pub settings_view : List Setting → List settings.Setting
settings_view list = map setting_view list

-- settings, and the refusal after them, are these of the model
pub record IsCut (cut : Cut) (model : settings.Settings) : Type 0 where
  pub settings : settings_view cut.settings ≡ model.settings
  pub refusal : option_map fault_view cut.refusal ≡ option_map Some model.refusal
