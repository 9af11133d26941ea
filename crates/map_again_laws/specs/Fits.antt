-- Which boot sectors, entries and lines the sectors of a map can hold.
use Rattle.std.specs.Prelude.{◌≡◌, ◌≤◌, ◌<◌, ℕ, ◌^◌, ◌==◌, true, false, not, ◌&&◌, ◌||◌, if◌then◌else◌, List, [], ◌∷◌, length, bytes_eq, IfSome, Option, None}
use Rattle.std.specs.Prelude.{Some, is_some}
use Rattle.lilo_model.specs.Slots.{Slot}
use Rattle.lilo_model.specs.BootSector.{BootSector}
use Rattle.lilo_model.specs.Table.{Descriptor, is_printable, has_flag, other_flag, password_flag, restricted_flag, lock_flag, fallback_flag, video_flag}
use Rattle.lilo_model.specs.Table.{initrd_flag, table_flag}
use Rattle.lilo_model.specs.DefaultLine.{DefaultLine, Empty, Once, Kept}
use Rattle.sector_address.specs.Whole.{IsSlot}

-- ---- slots

-- a slot of one sector that eight bytes can name
pub record IsOneSlot (slot : Slot) : Type 0 where
  pub whole : IsSlot slot
  pub one : slot.count ≡ 1

-- one that may be absent
abbrev pub FitsOptional : Option Slot → Type 0
FitsOptional None = Unit {0}
FitsOptional (Some slot) = IsOneSlot slot

-- ---- the boot sector

-- the message is there as a whole, or not at all
abbrev pub FitsMessage : Option Slot → ℕ → ℕ → Type 0
FitsMessage None size chain = (size ≡ 0) × (chain ≡ 0)
FitsMessage (Some slot) size chain = IsOneSlot slot × (1 ≤ size) × (size < 2 ^ 16) × (1 ≤ chain) × (chain ≤ 3)

-- a boot sector that 512 bytes can say
pub record FitsBoot (boot : BootSector) : Type 0 where
  pub version : boot.version ≡ 1
  pub time : boot.time < 2 ^ 32
  pub delay : boot.delay < 0xFFFF
  pub timeout : IfSome boot.timeout (λ tenths. tenths < 0xFFFF)
  pub some_name : 1 ≤ boot.names
  pub few_names : boot.names ≤ 19
  pub default : boot.default_entry < boot.names
  pub line : IsOneSlot boot.line
  pub zero_one : IsOneSlot boot.zero_sector
  pub message : FitsMessage boot.message boot.message_length boot.message_chain
  pub one : Slot
  pub two : Slot
  pub three : Slot
  pub table : boot.table ≡ one ∷ (two ∷ (three ∷ []))
  pub first : IsOneSlot one
  pub second : IsOneSlot two
  pub third : IsOneSlot three

-- ---- an entry of the table

-- a name that fills at most 15 bytes
abbrev pub IsName : List ℕ → Type 0
IsName name = (1 ≤ length name) × (length name ≤ 15) × (is_printable name ≡ true)

-- the flags agree with the fields
pub record FitsFlags (entry : Descriptor) : Type 0 where
  pub known : entry.flags < 0x100
  pub lock : (has_flag entry.flags lock_flag && has_flag entry.flags fallback_flag) ≡ false
  pub restricted : (not (has_flag entry.flags restricted_flag) || has_flag entry.flags password_flag) ≡ true
  pub table : (not (has_flag entry.flags table_flag) || has_flag entry.flags other_flag) ≡ true
  pub system : (has_flag entry.flags other_flag && (has_flag entry.flags video_flag || has_flag entry.flags initrd_flag)) ≡ false
  pub video : (has_flag entry.flags video_flag || (entry.vga == 0)) ≡ true
  pub size : (if not (has_flag entry.flags other_flag) then not (entry.main_length == 0)
      else if has_flag entry.flags table_flag then entry.main_length == 1024 else entry.main_length == 512)
      ≡ true
  pub initrd : has_flag entry.flags initrd_flag ≡ is_some entry.initrd
  pub extra : (has_flag entry.flags password_flag || has_flag entry.flags fallback_flag) ≡ is_some entry.extra
  -- an initrd has section sectors, and without one there is no length
  pub initrd_chain : (if is_some entry.initrd then not (entry.initrd_chain == 0) else ((entry.initrd_chain == 0) && (entry.initrd_length == 0))) ≡ true

pub record FitsEntry (entry : Descriptor) : Type 0 where
  pub name : IsName entry.name
  pub flags : FitsFlags entry
  pub vga : entry.vga < 2 ^ 16
  pub main : entry.main_length < 2 ^ 32
  pub initrd_size : entry.initrd_length < 2 ^ 32
  pub some_chain : 1 ≤ entry.chain
  pub chain : entry.chain < 2 ^ 16
  pub initrd_chain : entry.initrd_chain < 2 ^ 16
  pub options : IsOneSlot entry.options
  pub first : IsOneSlot entry.first
  pub initrd : FitsOptional entry.initrd
  pub extra : FitsOptional entry.extra

-- ---- the table

-- entries that each fit
abbrev pub FitEntries : List Descriptor → Type 0
FitEntries [] = Unit {0}
FitEntries (entry ∷ entries) = FitsEntry entry × FitEntries entries

-- a name isn't among those of entries
abbrev pub IsOtherName : List ℕ → List Descriptor → Type 0
IsOtherName name [] = Unit {0}
IsOtherName name (entry ∷ entries) = (bytes_eq name entry.name ≡ false) × IsOtherName name entries

abbrev pub HaveNames : List Descriptor → Type 0
HaveNames [] = Unit {0}
HaveNames (entry ∷ entries) = IsOtherName entry.name entries × HaveNames entries

-- ---- the default line

-- a line that a sector can hold
abbrev pub IsLine : DefaultLine → Type 0
IsLine Empty = Unit {0}
IsLine (Once text) = (1 ≤ length text) × (length text ≤ 255)
IsLine (Kept text) = (1 ≤ length text) × (length text ≤ 255)
