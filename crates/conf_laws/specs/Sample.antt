-- A text with sections of both kinds, and the configuration that it says: there are such that may be carried out.
use Rattle.std.specs.Prelude.{◌≡◌, ℕ, false, true, List, [], ◌∷◌, ◌++◌, codes, None, Some, Ok}
use Rattle.lilo_model.specs.Slots.{Lba32Mode}
use Rattle.lilo_model.specs.Devices.{Device}
use Rattle.lilo_model.specs.Conf.{Unsaid, ReadOnlyMount, DiskSection, ConfSection, Config, conf_at}
use Rattle.lilo_model.specs.ConfLawful.{IsLawful}

-- its part before all sections
abbrev pub global_text : List ℕ
global_text =
    codes "boot=/dev/hda\n"
    ++ codes "disk=/dev/hda\n"
    ++ codes "    bios=0x80\n"
    ++ codes "    sectors=63\n"
    ++ codes "    heads=255\n"
    ++ codes "disk=/dev/sda\n"
    ++ codes "backup=/boot/boot.0300\n"
    ++ codes "lba32\n"
    ++ codes "prompt\n"
    ++ codes "timeout=65534\n"
    ++ codes "default=old\n"
    ++ codes "password=\"no entry\"\n"

-- its sections
abbrev pub sections_text : List ℕ
sections_text =
    codes "image=/boot/vmlinuz\n"
    ++ codes "    label=linux\n"
    ++ codes "    alias=old\n"
    ++ codes "    initrd=/boot/initrd\n"
    ++ codes "    root=/dev/hdb2\n"
    ++ codes "    read-only\n"
    ++ codes "    append=quiet\n"
    ++ codes "    vga=ask\n"
    ++ codes "    restricted\n"
    ++ codes "other=/dev/sda1\n"
    ++ codes "    table=/dev/sda\n"
    ++ codes "    lock\n"
    ++ codes "image=/vmlinuz\n"
    ++ codes "    fallback=linux\n"
    ++ codes "    literal=\"init=/bin/sh\"\n"

abbrev pub sample_text : List ℕ
sample_text = global_text ++ sections_text

-- a device by the numbers of its disk and its partition
abbrev pub device : ℕ → ℕ → Device
device disk partition = record { disk = disk; partition = partition }

-- a section that says nothing but what opens it, with its name, and the password of all
abbrev pub bare_section : ℕ → List ℕ → List ℕ → ConfSection
bare_section line path label = record {
  other = None;
  path = path;
  label = label;
  alias = None;
  initrd = None;
  root = None;
  mount = Unsaid;
  append = None;
  literal = None;
  vga = None;
  password = Some (codes "no entry");
  restricted = false;
  optional = false;
  lock = false;
  fallback = None;
  table = None;
  line = line;
}

abbrev pub first_section : ConfSection
first_section = record (bare_section 13 (codes "/boot/vmlinuz") (codes "linux")) {
  alias = Some (codes "old");
  initrd = Some (codes "/boot/initrd");
  root = Some 0x342;
  mount = ReadOnlyMount;
  append = Some (codes "quiet");
  vga = Some 0xFFFD;
  restricted = true;
}

abbrev pub second_section : ConfSection
second_section = record (bare_section 22 (codes "/dev/sda1") (codes "sda1")) {
  other = Some (device 2 1);
  lock = true;
  table = Some (device 2 0);
}

abbrev pub third_section : ConfSection
third_section = record (bare_section 25 (codes "/vmlinuz") (codes "vmlinuz")) {
  fallback = Some (codes "linux");
  literal = Some (codes "init=/bin/sh");
}

abbrev pub first_disk : DiskSection
first_disk = record {
  device = device 0 0;
  bios = Some 0x80;
  sectors = Some 63;
  heads = Some 255;
  line = 2;
}

abbrev pub second_disk : DiskSection
second_disk = record {
  device = device 2 0;
  bios = None;
  sectors = None;
  heads = None;
  line = 6;
}

-- what it says
abbrev pub sample : Config
sample = record {
  boot = Some (device 0 0);
  map = codes "/boot/map";
  install = None;
  backup = Some (codes "/boot/boot.0300");
  force_backup = None;
  compact = false;
  mode = Lba32Mode;
  default_name = Some (codes "old");
  delay = 0;
  timeout = Some 65534;
  prompt = true;
  message = None;
  disks = first_disk ∷ (second_disk ∷ []);
  sections = first_section ∷ (second_section ∷ (third_section ∷ []));
}

-- the text says it, and it may be carried out
pub record SampleLaw : Type 0 where
  pub says : conf_at sample_text ≡ Ok sample
  pub lawful : IsLawful sample
