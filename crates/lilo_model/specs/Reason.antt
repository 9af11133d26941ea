-- Why a boot is refused, and the text that says so (this project's own).
use Rattle.std.specs.Prelude.{ℕ, List, ◌++◌, codes, decimal}
use Rattle.lilo_model.specs.BootSector as map
use Rattle.lilo_model.specs.Section as section
use Rattle.lilo_model.specs.Header.{SetupFault, NoRoom, LineTooLong}

-- why a boot is refused
pub data Reason : Type 0 where
  -- a sector that a BIOS takes for no boot sector
  NotBootable : Reason
  -- the entry that breaks the format, or 255 for another field
  BadTable : (entry : ℕ) → Reason
  -- the default line's sector
  BadLine : Reason
  -- a place of a section, 64 a section sector
  BadSlot : (place : ℕ) → Reason
  -- a link lies after so many section sectors, which is as many as a section has
  ChainTooLong : (chain : ℕ) → Reason
  -- an end after so many sectors
  ShortChain : (sectors : ℕ) → Reason
  -- a slot that names no sector
  NotFound : Reason
  -- a kernel
  Header : SetupFault → Reason
  -- keys that end at the prompt
  Idle : Reason

-- the reason of a section's refusal
abbrev pub section_reason : section.SectionFault → Reason
section_reason (section.BadSlot place) = BadSlot place
section_reason (section.ChainTooLong chain) = ChainTooLong chain
section_reason (section.ShortChain sectors) = ShortChain sectors
section_reason section.NotFound = NotFound

-- the reason of a refusal of a map's sector, once the sector is one of this format
abbrev pub map_reason : map.MapFault → Reason
map_reason map.NotOurs = NotBootable
map_reason (map.BadVersion version) = NotBootable
map_reason (map.BadTable entry) = BadTable entry
map_reason map.BadLine = BadLine

-- the text of a kernel's refusal
abbrev pub setup_text : SetupFault → List ℕ
setup_text (NoRoom need have) = codes "no room: need " ++ decimal need ++ codes ", have " ++ decimal have
setup_text (LineTooLong size) = codes "line too long " ++ decimal size
setup_text _ = codes "header"

-- the text of a refusal
unfoldable pub reason_text : Reason → List ℕ
reason_text NotBootable = codes "not bootable"
reason_text (BadTable entry) = codes "bad table " ++ decimal entry
reason_text BadLine = codes "bad line"
reason_text (BadSlot place) = codes "bad slot " ++ decimal place
reason_text (ChainTooLong chain) = codes "chain too long " ++ decimal chain
reason_text (ShortChain sectors) = codes "short chain " ++ decimal sectors
reason_text NotFound = codes "not found"
reason_text (Header fault) = setup_text fault
reason_text Idle = codes "idle"
