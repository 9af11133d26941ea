-- The fields of a boot sector.
use Rattle.std.proofs.Common.{◌≡◌, ℕ, Bool, List, Option}
use Rattle.lilo_model.specs.Slots.{Slot}
use Rattle.lilo_model.specs.BootSector.{BootSector}

-- a boot sector of version 1
abbrev pub boot-of : (time : ℕ) → Bool → (delay : ℕ) → Option ℕ → (names default_entry size chain : ℕ) (line zero_sector : Slot) → Option Slot → List Slot → BootSector
boot-of time prompt delay timeout names default_entry size chain line zero_sector message table = record {
  version = 1;
  time = time;
  prompt = prompt;
  delay = delay;
  timeout = timeout;
  names = names;
  default_entry = default_entry;
  message_length = size;
  message_chain = chain;
  line = line;
  zero_sector = zero_sector;
  message = message;
  table = table;
}

-- boot sectors of the same fields
pub same-boot : (time : ℕ) (prompt : Bool) (delay : ℕ) (timeout : Option ℕ) (names names' first first' size size' chain chain' : ℕ) (line line' zeros zeros' : Slot)
    (message message' : Option Slot) (table table' : List Slot)
    → names ≡ names' → first ≡ first' → size ≡ size' → chain ≡ chain' → line ≡ line' → zeros ≡ zeros' → message ≡ message' → table ≡ table'
    → boot-of time prompt delay timeout names first size chain line zeros message table
    ≡ boot-of time prompt delay timeout names' first' size' chain' line' zeros' message' table'
same-boot time prompt delay timeout names names' first first' size size' chain chain' line line' zeros zeros' message message' table table' a b c d e f g h = cc
