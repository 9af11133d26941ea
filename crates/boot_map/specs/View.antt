-- Which plain value of the model each value of this crate stands for.
use Rattle.std.specs.Prelude.{ℕ, List, map}
use Rattle.std.specs.Option.{option_map}
use Rattle.lilo_model.specs.BootSector as boots
use Rattle.lilo_model.specs.Table as tables
use Rattle.lilo_model.specs.Options as texts
use Rattle.lilo_model.specs.DefaultLine as lines
use Rattle.sector_address.specs.View.{slot_view}
use Rattle.boot_map.specs.declared.map_fault.MapFault.{MapFault}
use Rattle.boot_map.specs.declared.map_fault.MapFault.TheVariants as faults
use Rattle.boot_map.specs.declared.boot_sector.BootSector.{BootSector}
use Rattle.boot_map.specs.declared.descriptor.Descriptor.{Descriptor}
use Rattle.boot_map.specs.declared.table.Table.{Table}
use Rattle.boot_map.specs.declared.options.Options.{Options}
use Rattle.boot_map.specs.declared.extra.Extra.{Extra}
use Rattle.boot_map.specs.declared.default_line.DefaultLine.{DefaultLine}
use Rattle.boot_map.specs.declared.default_line.DefaultLine.TheVariants as states

-- a refusal
abbrev pub map_fault_view : MapFault → boots.MapFault
map_fault_view faults.NotOurs = boots.NotOurs
map_fault_view (faults.BadVersion version) = boots.BadVersion version
map_fault_view (faults.BadTable entry) = boots.BadTable entry
map_fault_view faults.BadLine = boots.BadLine

-- a boot sector
abbrev pub boot_view : BootSector → boots.BootSector
boot_view boot = record {
  version = boot.version;
  time = boot.time;
  prompt = boot.prompt;
  delay = boot.delay;
  timeout = boot.timeout;
  names = boot.names;
  default_entry = boot.default_entry;
  message_length = boot.message_length;
  message_chain = boot.message_chain;
  line = slot_view boot.line;
  zero_sector = slot_view boot.zero;
  message = option_map slot_view boot.message;
  table = map slot_view boot.table.items;
}

-- an entry
abbrev pub descriptor_view : Descriptor → tables.Descriptor
descriptor_view entry = record {
  name = entry.name.items;
  flags = entry.flags;
  vga = entry.vga;
  main_length = entry.length;
  initrd_length = entry.initrd_length;
  options = slot_view entry.options;
  first = slot_view entry.first;
  initrd = option_map slot_view entry.initrd;
  chain = entry.chain;
  initrd_chain = entry.initrd_chain;
  extra = option_map slot_view entry.extra;
}

-- a table
abbrev pub table_view : Table → List tables.Descriptor
table_view table = map descriptor_view table.entries.items

-- the middle of a command line
abbrev pub options_view : Options → List ℕ
options_view options = options.middle.items

-- a fallback and a password
abbrev pub extra_view : Extra → texts.Extra
extra_view extra = record { fallback = extra.fallback.items; password = extra.password.items }

-- a default line
abbrev pub line_view : DefaultLine → lines.DefaultLine
line_view states.Empty = lines.Empty
line_view (states.Once text) = lines.Once text.items
line_view (states.Kept text) = lines.Kept text.items
