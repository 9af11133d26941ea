-- What is read of a map before a choice, and what it says (this project's own).
use Rattle.std.specs.Prelude.{◌≡◌, ℕ, Bool, true, false, List, [], ◌∷◌, ◌++◌, length, map, zip, All, Option, None, Some, Result, Ok, Err, IsErr}
use Rattle.std.specs.Option.{option_map}
use Rattle.lilo_model.specs.Checks.{seen, each}
use Rattle.lilo_model.specs.Choice.{filled_text}
use Rattle.lilo_model.specs.Disks.{Image, Machine}
use Rattle.lilo_model.specs.Slots as slots
use Rattle.lilo_model.specs.BootSector as maps
use Rattle.lilo_model.specs.Options as texts
use Rattle.lilo_model.specs.Options.{extra_at}
use Rattle.lilo_model.specs.Prompt.{ListedEntry}
use Rattle.lilo_model.specs.Table as tables
use Rattle.lilo_model.specs.Table.{password_flag, restricted_flag}
use Rattle.lilo_model.specs.Reason as reasons
use Rattle.lilo_model.specs.Reason.{map_reason}
use Rattle.lilo_model.specs.Boot.{MapSectors, GoodMap, entry_has, entries_of, optional_at, extra_slot, password_at}
use Rattle.boot_map.specs.View.{line_view, table_view, extra_view, map_fault_view}
use Rattle.boot_map.specs.Ranges.{IsNamed, HasSectors, FitsFlags}
use Rattle.boot_map.specs.declared.extra.Extra.{Extra}
use Rattle.boot_map.specs.declared.map_fault.MapFault.{MapFault}
use Rattle.boot_map.specs.declared.table.Table.{Table}
use Rattle.prompt_core.specs.declared.entry.Choice.{Choice}
use Rattle.prompt_core.specs.View.{choice_view, entries_view}
use Rattle.section_loader.specs.declared.reason.Reason.{Reason}
use Rattle.section_loader.specs.declared.reason.Reason.TheVariants as variants
use Rattle.section_loader.specs.declared.reason.Halt.{Halt}
use Rattle.section_loader.specs.declared.reason.Halt.TheVariants.{Device, Refused}
use Rattle.loader_core.specs.declared.map.Choices.{Choices}
use Rattle.loader_core.specs.declared.map.GoodParts.{GoodParts}
use Rattle.loader_core.specs.declared.map.MapParts.{MapParts}
use Rattle.loader_core.specs.declared.map.Texts.{Texts}
use Rattle.section_loader.specs.View.{reason_view}

-- ---- what is read

-- what was read is what there is, or the slot of a part names no sector, unless a disk failed
abbrev pub ReadsThere : {A : Type 0} → Result (Unit {0}) Halt → A → Result A slots.AddressFault → Type 0
ReadsThere (Ok done) bytes found = found ≡ Ok bytes
ReadsThere (Err Device) bytes found = Unit {0}
ReadsThere (Err (Refused reason)) bytes found = IsErr found × (reason ≡ variants.NotFound)

-- the sector of an entry's password, where it has one
abbrev pub password_sector : Image → Machine → tables.Descriptor → Result (Option (List ℕ)) slots.AddressFault
password_sector image machine entry = optional_at image machine (extra_slot password_flag entry)

-- what was read of an extra sector, where there is one
pub record IsExtra (extra : Option (Result Extra MapFault)) (found : Result (Option (List ℕ)) slots.AddressFault) : Type 0 where
  pub bytes : Option (List ℕ)
  pub is : found ≡ Ok bytes
  pub said : option_map (seen extra_view map_fault_view) extra ≡ option_map extra_at bytes

-- the same, unless a disk failed
abbrev pub ReadsExtra : Result (Option (Result Extra MapFault)) Halt → Result (Option (List ℕ)) slots.AddressFault → Type 0
ReadsExtra (Ok extra) found = IsExtra extra found
ReadsExtra (Err Device) found = Unit {0}
ReadsExtra (Err (Refused reason)) found = IsErr found × (reason ≡ variants.NotFound)

-- ---- what is chosen from

-- an entry and its password, as far as the prompt is given it
abbrev pub prompt_entry : tables.Descriptor × Option (List ℕ) → ListedEntry
prompt_entry (entry, password) = record {
  name = entry.name;
  password = password;
  restricted = entry_has entry restricted_flag;
  lock = false;
  fallback = None;
}

-- what stands for an entry in the list, or a text beside its password passes its limit
abbrev pub JudgesChoice : Option Choice → tables.Descriptor → Result (Option (List ℕ)) maps.MapFault → Type 0
JudgesChoice None entry text = text ≡ Err (maps.BadTable 255)
JudgesChoice (Some choice) entry text =
    (text ≡ Ok (choice_view choice).password) × (choice_view choice ≡ prompt_entry (entry, (choice_view choice).password))

-- the same, by the sector that was read
pub record IsChoice (choice : Option Choice) (entry : tables.Descriptor) (found : Result (Option (List ℕ)) slots.AddressFault) : Type 0 where
  pub extra : Option (List ℕ)
  pub is : found ≡ Ok extra
  pub judged : JudgesChoice choice entry (password_at extra)

-- the same, unless a disk failed
abbrev pub ReadsChoice : Result (Option Choice) Halt → tables.Descriptor → Result (Option (List ℕ)) slots.AddressFault → Type 0
ReadsChoice (Ok choice) entry found = IsChoice choice entry found
ReadsChoice (Err Device) entry found = Unit {0}
ReadsChoice (Err (Refused reason)) entry found = IsErr found × (reason ≡ variants.NotFound)

-- what stands for one more entry was added to a list
abbrev pub Adds : Choices → Option Choice → Choices → Type 0
Adds old (Some choice) new = (new.are_good ≡ old.are_good) × (new.list.items ≡ old.list.items ++ choice ∷ [])
Adds old None new = (new.are_good ≡ false) × (new.list.items ≡ old.list.items)

-- a list stands for entries with these passwords
pub record ListsAs (choices : List Choice) (entries : List tables.Descriptor) (passwords : List (Option (List ℕ))) : Type 0 where
  pub long : length passwords ≡ length entries
  pub list : entries_view choices ≡ map prompt_entry (zip entries passwords)

-- a list stands for entries, whose passwords are in these texts
pub record Lists (choices : List Choice) (entries : List tables.Descriptor) (texts : Result (List (Option (List ℕ))) maps.MapFault) : Type 0 where
  pub passwords : List (Option (List ℕ))
  pub is : texts ≡ Ok passwords
  pub lists : ListsAs choices entries passwords

-- the same, unless a text passes its limit
abbrev pub JudgesList : Bool → List Choice → List tables.Descriptor → Result (List (Option (List ℕ))) maps.MapFault → Type 0
JudgesList true choices entries texts = Lists choices entries texts
JudgesList false choices entries texts = texts ≡ Err (maps.BadTable 255)

-- the same, by the sectors that were read
pub record AreChoices (choices : Choices) (entries : List tables.Descriptor) (found : Result (List (Option (List ℕ))) slots.AddressFault) : Type 0 where
  pub extras : List (Option (List ℕ))
  pub is : found ≡ Ok extras
  pub judged : JudgesList choices.are_good choices.list.items entries (each (map password_at extras))

-- the same, unless a disk failed
abbrev pub ReadsChoices : Result Choices Halt → List tables.Descriptor → Result (List (Option (List ℕ))) slots.AddressFault → Type 0
ReadsChoices (Ok choices) entries found = AreChoices choices entries found
ReadsChoices (Err Device) entries found = Unit {0}
ReadsChoices (Err (Refused reason)) entries found = IsErr found × (reason ≡ variants.NotFound)

-- ---- the map

-- parts stand for the sectors of a map
pub record StandsFor (parts : MapParts) (sectors : MapSectors) : Type 0 where
  pub line : sectors.line ≡ parts.line
  pub table : sectors.table ≡ seen table_view map_fault_view parts.table
  pub extras : JudgesList parts.choices.are_good parts.choices.list.items (entries_of sectors.table) (each (map password_at sectors.extras))

-- parts stand for the sectors of a map that is there
pub record IsReadMap (parts : MapParts) (found : Result MapSectors slots.AddressFault) : Type 0 where
  pub sectors : MapSectors
  pub is : found ≡ Ok sectors
  pub stands : StandsFor parts sectors

-- what was read of a map, unless a disk failed
abbrev pub ReadsMap : Result MapParts Halt → Result MapSectors slots.AddressFault → Type 0
ReadsMap (Ok parts) found = IsReadMap parts found
ReadsMap (Err Device) found = Unit {0}
ReadsMap (Err (Refused reason)) found = IsErr found × (reason ≡ variants.NotFound)

-- what a table says of so many entries
pub record IsTable (names : ℕ) (table : Table) : Type 0 where
  pub count : length table.entries.items ≡ names
  pub named : All IsNamed table.entries.items
  pub sectors : All HasSectors table.entries.items
  pub flags : All FitsFlags table.entries.items

-- ---- what is good

-- good parts are those of a good map
pub record IsGood (good : GoodParts) (model : GoodMap) : Type 0 where
  pub line : model.line ≡ line_view good.line
  pub entries : model.entries ≡ table_view good.table
  pub lists : ListsAs good.choices.items model.entries model.passwords

-- a map is good, with these parts
pub record IsGoodMap (good : GoodParts) (judged : Result GoodMap maps.MapFault) : Type 0 where
  pub model : GoodMap
  pub is : judged ≡ Ok model
  pub parts : IsGood good model

-- a map is refused, and so is the boot
pub record IsBadMap (reason : Reason) (judged : Result GoodMap maps.MapFault) : Type 0 where
  pub fault : maps.MapFault
  pub is : judged ≡ Err fault
  pub because : reason_view reason ≡ (map_reason fault)

-- what was found of a map that was judged
abbrev pub Judges : Result GoodParts Reason → Result GoodMap maps.MapFault → Type 0
Judges (Ok good) judged = IsGoodMap good judged
Judges (Err reason) judged = IsBadMap reason judged

-- ---- an entry's texts

-- a boot is refused for this reason
pub record IsBecause (reason : Reason) (middle : Result (List ℕ) reasons.Reason) : Type 0 where
  pub why : reasons.Reason
  pub is : middle ≡ Err why
  pub because : reason_view reason ≡ why

-- the texts of an entry that were read: its middle text, and its fallback, which has no byte where there is none
pub record AreTexts (texts : Texts) (middle : Result (List ℕ) reasons.Reason) (fallback : Option (List ℕ)) : Type 0 where
  pub middle_is : middle ≡ Ok texts.middle.items
  pub fallback_is : filled_text (Some texts.fallback.items) ≡ filled_text fallback

-- the same, unless a disk failed
abbrev pub ReadsTexts : Result Texts Halt → Result (List ℕ) reasons.Reason → Option (List ℕ) → Type 0
ReadsTexts (Ok texts) middle fallback = AreTexts texts middle fallback
ReadsTexts (Err Device) middle fallback = Unit {0}
ReadsTexts (Err (Refused reason)) middle fallback = IsBecause reason middle

-- the fallback of an entry, by what its extra sector says: no byte where there is none
abbrev pub IsFallback : List ℕ → Option (Result texts.Extra maps.MapFault) → Type 0
IsFallback fallback None = fallback ≡ []
IsFallback fallback (Some (Ok extra)) = fallback ≡ extra.fallback
IsFallback fallback (Some (Err fault)) = ⊥

-- the first of two sectors in which a length passes its limit
abbrev pub IsFirstFault : Result (List ℕ) maps.MapFault → Option (Result texts.Extra maps.MapFault) → maps.MapFault → Type 0
IsFirstFault (Err fault) extra first = first ≡ fault
IsFirstFault (Ok middle) None first = ⊥
IsFirstFault (Ok middle) (Some (Ok extra)) first = ⊥
IsFirstFault (Ok middle) (Some (Err fault)) first = first ≡ fault

-- what two sectors say as the texts of an entry
abbrev pub JudgesTexts : Result Texts Halt → Result (List ℕ) maps.MapFault → Option (Result texts.Extra maps.MapFault) → Type 0
JudgesTexts (Ok found) options extra = (options ≡ Ok found.middle.items) × IsFallback found.fallback.items extra
JudgesTexts (Err Device) options extra = ⊥
JudgesTexts (Err (Refused reason)) options extra =
    (fault : maps.MapFault) × IsFirstFault options extra fault × (reason_view reason ≡ (map_reason fault))
