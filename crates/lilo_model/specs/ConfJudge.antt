-- Which settings of a lilo.conf are refused where they are, by those before them in their part. The order of
-- what is tested is this project's own.
use Rattle.std.specs.Prelude.{ℕ, ◌+◌, ◌-◌, ◌==◌, nat_lt, Bool, true, false, not, ◌&&◌, ◌||◌, if◌then◌else◌, List, [], ◌∷◌, ◌++◌, length, drop, find, slice_get}
use Rattle.std.specs.Prelude.{is_some, Option, None, Some}
use Rattle.std.specs.List.{list_any, suffix_len}
use Rattle.std.specs.Option.{option_and_then}
use Rattle.lilo_model.specs.ConfOptions as options
use Rattle.lilo_model.specs.ConfOptions.{Opt, Disk, Image, OtherDevice, Takes, takes_of, Part, GlobalPart, ImagePart, OtherPart, stands_in, opens, is_of_disk}
use Rattle.lilo_model.specs.ConfOptions.{is_of_name, excluded_by, same_option}
use Rattle.lilo_model.specs.ConfValues.{is_value, whole_disk_at, name_limit}
use Rattle.lilo_model.specs.ConfRefusal as reasons
use Rattle.lilo_model.specs.ConfRefusal.{ConfReason, ConfRefusal}
use Rattle.lilo_model.specs.ConfSettings.{Given, Bare, Sign, Value, Setting}

-- the value that comes after an option
unfoldable pub given_text : Given → Option (List ℕ)
given_text Bare = None
given_text Sign = None
given_text (Value text) = Some text

-- the first setting of an option
unfoldable pub setting_of : Opt → List Setting → Option Setting
setting_of option settings = find (λ setting. same_option setting.option option) settings

-- whether an option is among settings
unfoldable pub has_option : Opt → List Setting → Bool
has_option option settings = list_any (λ setting. same_option setting.option option) settings

-- the part of a setting that opens one, or the global part
unfoldable pub opened_part : Opt → Part
opened_part Image = ImagePart
opened_part OtherDevice = OtherPart
opened_part _ = GlobalPart

-- the part that settings are in, the one that opens it at their start
unfoldable pub part_kind : List Setting → Part
part_kind [] = GlobalPart
part_kind (setting ∷ _) = opened_part setting.option

-- the disk that a setting names
unfoldable pub setting_disk : Setting → Option ℕ
setting_disk setting =
    if same_option setting.option Disk then option_and_then whole_disk_at (given_text setting.given) else None

-- how many settings at the end say something of a disk
unfoldable pub details_count : List Setting → ℕ
details_count own = suffix_len (λ setting. is_of_disk setting.option) own

-- the settings at the end that say something of a disk
unfoldable pub details_of : List Setting → List Setting
details_of own = drop (length own - details_count own) own

-- the disk whose group lasts to the end of the settings
unfoldable pub group_disk : List Setting → Option ℕ
group_disk own =
    if nat_lt (details_count own) (length own)
    then option_and_then setting_disk (slice_get own (length own - details_count own - 1))
    else None

-- whether two disks are there and are one
unfoldable pub is_same_disk : Option ℕ → Option ℕ → Bool
is_same_disk None other = false
is_same_disk (Some one) None = false
is_same_disk (Some one) (Some other) = one == other

-- whether an option takes no value
unfoldable pub takes_nothing : Takes → Bool
takes_nothing options.Nothing = true
takes_nothing _ = false

-- what is wrong with the value of an option, the disk of its group being this one
unfoldable pub text_reason : Opt → ℕ → List ℕ → Option ConfReason
text_reason option disk text =
    if not (is_value (takes_of option) disk text) then Some reasons.BadValue else
    if is_of_name option && nat_lt name_limit (length text) then Some reasons.NameTooLong else
    None

-- what is wrong with what comes after an option
unfoldable pub given_reason : Opt → ℕ → Given → Option ConfReason
given_reason option disk Bare = if takes_nothing (takes_of option) then None else Some reasons.NoValue
given_reason option disk Sign = if takes_nothing (takes_of option) then Some reasons.BadValue else Some reasons.NoValue
given_reason option disk (Value text) = text_reason option disk text

-- what is wrong with the value of a setting
unfoldable pub value_reason : ℕ → Setting → Option ConfReason
value_reason disk setting = given_reason setting.option disk setting.given

-- what is wrong with a `disk`, after others of its part
unfoldable pub disk_reason : List Setting → Setting → Option ConfReason
disk_reason own setting =
    if not (stands_in (part_kind own) Disk) then Some reasons.Misplaced else
    if list_any (λ other. is_same_disk (setting_disk setting) (setting_disk other)) own then Some reasons.Repeated else
    value_reason 0 setting

-- what is wrong with what is said of a disk, after others of its part
unfoldable pub detail_reason : List Setting → Setting → Option ConfReason
detail_reason own setting = of_group (group_disk own)
  where
    of_group : Option ℕ → Option ConfReason
    of_group None = Some reasons.Misplaced
    of_group (Some disk) =
        if has_option setting.option (details_of own) then Some reasons.Repeated else value_reason disk setting

-- the option among settings that one excludes
unfoldable pub excluded_in : List Setting → Opt → Option Opt
excluded_in own option =
    option_and_then (λ other. if has_option other own then Some other else None) (excluded_by option)

-- what is wrong with an option of a part, after others of it
unfoldable pub part_reason : List Setting → Setting → Option ConfReason
part_reason own setting =
    if not (stands_in (part_kind own) setting.option) then Some reasons.Misplaced else
    if has_option setting.option own then Some reasons.Repeated else
    beside (excluded_in own setting.option)
  where
    beside : Option Opt → Option ConfReason
    beside (Some other) = Some (reasons.Excludes other)
    beside None = value_reason 0 setting

-- what is wrong with a setting, after others of its part
unfoldable pub setting_reason : List Setting → Setting → Option ConfReason
setting_reason own setting =
    if opens setting.option then value_reason 0 setting else
    if same_option setting.option Disk then disk_reason own setting else
    if is_of_disk setting.option then detail_reason own setting else
    part_reason own setting

-- the settings of a part, after one more
unfoldable pub part_after : List Setting → Setting → List Setting
part_after own setting = if opens setting.option then setting ∷ [] else own ++ setting ∷ []

-- the first refusal of settings where they are, after those of their part
unfoldable pub settings_refusal : List Setting → List Setting → Option ConfRefusal
settings_refusal own [] = None
settings_refusal own (setting ∷ settings) =
    elim (setting_reason own setting) [
      | Some reason ↦ Some (record { reason = reason; option = setting.option; line = setting.line })
      | None ↦ settings_refusal (part_after own setting) settings
    ]
