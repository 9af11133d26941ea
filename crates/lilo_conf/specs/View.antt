-- Which plain value of the model each value of this crate stands for.
use Rattle.std.specs.Prelude.{List, map}
use Rattle.std.specs.Option.{option_map}
use Rattle.lilo_model.specs.Conf as model
use Rattle.mbr_table.specs.View.{device_view}
use Rattle.sector_address.specs.View.{mode_view}
use Rattle.lilo_conf.specs.declared.config.Config.{Config}
use Rattle.lilo_conf.specs.declared.disk.DiskSection.{DiskSection}
use Rattle.lilo_conf.specs.declared.section.Mount.{Mount}
use Rattle.lilo_conf.specs.declared.section.Mount.TheVariants as mounts
use Rattle.lilo_conf.specs.declared.section.Section.{Section}

-- how a kernel is to mount its root
abbrev pub mount_view : Mount → model.Mount
mount_view mounts.Unsaid = model.Unsaid
mount_view mounts.ReadOnly = model.ReadOnlyMount
mount_view mounts.ReadWrite = model.ReadWriteMount

-- what is said of a disk
abbrev pub disk_view : DiskSection → model.DiskSection
disk_view disk = record {
  device = device_view disk.device;
  bios = disk.bios;
  sectors = disk.sectors;
  heads = disk.heads;
  line = disk.line;
}

-- what is said of disks
abbrev pub disks_view : List DiskSection → List model.DiskSection
disks_view disks = map disk_view disks

-- a section
abbrev pub section_view : Section → model.ConfSection
section_view section = record {
  other = option_map device_view section.other;
  path = section.path;
  label = section.label;
  alias = section.alias;
  initrd = section.initrd;
  root = section.root;
  mount = mount_view section.mount;
  append = section.append;
  literal = section.literal;
  vga = section.vga;
  password = section.password;
  restricted = section.restricted;
  optional = section.optional;
  lock = section.lock;
  fallback = section.fallback;
  table = option_map device_view section.table;
  line = section.line;
}

-- some sections
abbrev pub sections_view : List Section → List model.ConfSection
sections_view sections = map section_view sections

-- what a configuration says
abbrev pub config_view : Config → model.Config
config_view config = record {
  boot = option_map device_view config.boot;
  map = config.map;
  install = config.install;
  backup = config.backup;
  force_backup = config.force_backup;
  compact = config.compact;
  mode = mode_view config.mode;
  default_name = config.default_name;
  delay = config.delay;
  timeout = config.timeout;
  prompt = config.prompt;
  message = config.message;
  disks = disks_view config.disks;
  sections = sections_view config.sections;
}
