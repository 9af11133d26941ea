-- What cases of plans begin with: configurations that are alone on their disks. Written by tools/plan_cases.py.
use Rattle.std.specs.Prelude.{true, [], ◌∷◌, Some, codes}
use Rattle.lilo_model.specs.Conf.{Config, ReadOnlyMount}
use Rattle.lilo_model.specs.Slots.{LinearMode, Lba32Mode}
use Rattle.model_cases.specs.Configs.{plain_config, section_at}

-- the sample configuration
abbrev pub conf_sample : Config
conf_sample = record (plain_config) {
  install = Some (codes "/boot/boot.b");
  mode = Lba32Mode;
  default_name = Some (codes "linux");
  timeout = Some 50;
  prompt = true;
  sections =
      record (section_at 8 (codes "/boot/vmlinuz") (codes "linux")) { initrd = Some (codes "/boot/initrd"); root = Some 769; mount = ReadOnlyMount } ∷ [];
}

-- no prompt, no timeout
abbrev pub conf_no_prompt : Config
conf_no_prompt = record (plain_config) {
  install = Some (codes "/boot/boot.b");
  mode = Lba32Mode;
  default_name = Some (codes "linux");
  sections =
      record (section_at 6 (codes "/boot/vmlinuz") (codes "linux")) { initrd = Some (codes "/boot/initrd"); root = Some 769; mount = ReadOnlyMount } ∷ [];
}

-- a delay
abbrev pub conf_delayed : Config
conf_delayed = record (plain_config) {
  install = Some (codes "/boot/boot.b");
  mode = Lba32Mode;
  default_name = Some (codes "linux");
  delay = 3;
  timeout = Some 50;
  sections =
      record (section_at 8 (codes "/boot/vmlinuz") (codes "linux")) { initrd = Some (codes "/boot/initrd"); root = Some 769; mount = ReadOnlyMount } ∷ [];
}

-- compact
abbrev pub conf_compact : Config
conf_compact = record (plain_config) {
  install = Some (codes "/boot/boot.b");
  compact = true;
  mode = Lba32Mode;
  default_name = Some (codes "linux");
  timeout = Some 50;
  prompt = true;
  sections =
      record (section_at 9 (codes "/boot/vmlinuz") (codes "linux")) { initrd = Some (codes "/boot/initrd"); root = Some 769; mount = ReadOnlyMount } ∷ [];
}

-- addresses by cylinder, head and sector
abbrev pub conf_chs : Config
conf_chs = record (plain_config) {
  install = Some (codes "/boot/boot.b");
  default_name = Some (codes "linux");
  timeout = Some 50;
  prompt = true;
  sections =
      record (section_at 7 (codes "/boot/vmlinuz") (codes "linux")) { initrd = Some (codes "/boot/initrd"); root = Some 769; mount = ReadOnlyMount } ∷ [];
}

-- linear addresses
abbrev pub conf_linear : Config
conf_linear = record (plain_config) {
  install = Some (codes "/boot/boot.b");
  mode = LinearMode;
  default_name = Some (codes "linux");
  timeout = Some 50;
  prompt = true;
  sections =
      record (section_at 8 (codes "/boot/vmlinuz") (codes "linux")) { initrd = Some (codes "/boot/initrd"); root = Some 769; mount = ReadOnlyMount } ∷ [];
}

-- compact, by cylinder, head and sector
abbrev pub conf_compact_chs : Config
conf_compact_chs = record (plain_config) {
  install = Some (codes "/boot/boot.b");
  compact = true;
  default_name = Some (codes "linux");
  timeout = Some 50;
  prompt = true;
  sections =
      record (section_at 8 (codes "/boot/vmlinuz") (codes "linux")) { initrd = Some (codes "/boot/initrd"); root = Some 769; mount = ReadOnlyMount } ∷ [];
}

-- a hole in a kernel
abbrev pub conf_hole : Config
conf_hole = record (plain_config) {
  install = Some (codes "/boot/boot.b");
  mode = Lba32Mode;
  default_name = Some (codes "linux");
  timeout = Some 50;
  prompt = true;
  sections =
      record (section_at 8 (codes "/boot/vmlinuz") (codes "linux")) { initrd = Some (codes "/boot/initrd"); root = Some 769; mount = ReadOnlyMount } ∷ [];
}

-- a hole, and compact
abbrev pub conf_hole_compact : Config
conf_hole_compact = record (plain_config) {
  install = Some (codes "/boot/boot.b");
  compact = true;
  mode = Lba32Mode;
  default_name = Some (codes "linux");
  timeout = Some 50;
  prompt = true;
  sections =
      record (section_at 9 (codes "/boot/vmlinuz") (codes "linux")) { initrd = Some (codes "/boot/initrd"); root = Some 769; mount = ReadOnlyMount } ∷ [];
}

-- a restricted password
abbrev pub conf_password : Config
conf_password = record (plain_config) {
  install = Some (codes "/boot/boot.b");
  mode = Lba32Mode;
  default_name = Some (codes "linux");
  timeout = Some 50;
  prompt = true;
  sections =
      record (section_at 8 (codes "/boot/vmlinuz") (codes "linux")) {
        initrd = Some (codes "/boot/initrd");
        root = Some 769;
        mount = ReadOnlyMount;
        password = Some (codes "tux");
        restricted = true;
      } ∷ [];
}

-- a password for all
abbrev pub conf_all_password : Config
conf_all_password = record (plain_config) {
  install = Some (codes "/boot/boot.b");
  mode = Lba32Mode;
  default_name = Some (codes "linux");
  timeout = Some 50;
  prompt = true;
  sections =
      record (section_at 8 (codes "/boot/vmlinuz") (codes "linux")) {
        initrd = Some (codes "/boot/initrd");
        root = Some 769;
        mount = ReadOnlyMount;
        password = Some (codes "tux");
      } ∷ [];
}

-- an alias, a fallback, texts and a video mode
abbrev pub conf_alias_fallback : Config
conf_alias_fallback = record (plain_config) {
  install = Some (codes "/boot/boot.b");
  mode = Lba32Mode;
  default_name = Some (codes "linux");
  timeout = Some 50;
  prompt = true;
  sections =
      record (section_at 8 (codes "/boot/vmlinuz") (codes "linux")) {
        alias = Some (codes "l");
        initrd = Some (codes "/boot/initrd");
        root = Some 769;
        mount = ReadOnlyMount;
        append = Some (codes "quiet x");
        vga = Some 65533;
        fallback = Some (codes "linux");
      } ∷ [];
}

-- a lock
abbrev pub conf_lock : Config
conf_lock = record (plain_config) {
  install = Some (codes "/boot/boot.b");
  mode = Lba32Mode;
  default_name = Some (codes "linux");
  timeout = Some 50;
  prompt = true;
  sections =
      record (section_at 8 (codes "/boot/vmlinuz") (codes "linux")) {
        initrd = Some (codes "/boot/initrd");
        root = Some 769;
        mount = ReadOnlyMount;
        lock = true;
      } ∷ [];
}

-- a literal text and a message
abbrev pub conf_literal : Config
conf_literal = record (plain_config) {
  install = Some (codes "/boot/boot.b");
  mode = Lba32Mode;
  default_name = Some (codes "linux");
  timeout = Some 50;
  prompt = true;
  message = Some (codes "/boot/msg");
  sections =
      record (section_at 9 (codes "/boot/vmlinuz") (codes "linux")) {
        initrd = Some (codes "/boot/initrd");
        root = Some 769;
        mount = ReadOnlyMount;
        literal = Some (codes "single");
      } ∷ [];
}

-- an empty message
abbrev pub conf_empty_message : Config
conf_empty_message = record (plain_config) {
  install = Some (codes "/boot/boot.b");
  mode = Lba32Mode;
  default_name = Some (codes "linux");
  timeout = Some 50;
  prompt = true;
  message = Some (codes "/boot/msg");
  sections =
      record (section_at 9 (codes "/boot/vmlinuz") (codes "linux")) { initrd = Some (codes "/boot/initrd"); root = Some 769; mount = ReadOnlyMount } ∷ [];
}

-- a kernel before the protocol
abbrev pub conf_low : Config
conf_low = record (plain_config) {
  install = Some (codes "/boot/boot.b");
  mode = Lba32Mode;
  default_name = Some (codes "linux");
  sections =
      record (section_at 6 (codes "/boot/vmlinuz") (codes "linux")) { root = Some 769; mount = ReadOnlyMount } ∷ [];
}

-- one with an initrd
abbrev pub conf_low_initrd : Config
conf_low_initrd = record (plain_config) {
  install = Some (codes "/boot/boot.b");
  mode = Lba32Mode;
  default_name = Some (codes "linux");
  timeout = Some 50;
  prompt = true;
  sections =
      record (section_at 8 (codes "/boot/vmlinuz") (codes "linux")) { initrd = Some (codes "/boot/initrd"); root = Some 769; mount = ReadOnlyMount } ∷ [];
}

-- no number of setup sectors
abbrev pub conf_row8 : Config
conf_row8 = record (plain_config) {
  install = Some (codes "/boot/boot.b");
  mode = Lba32Mode;
  default_name = Some (codes "linux");
  sections =
      record (section_at 6 (codes "/boot/vmlinuz") (codes "linux")) { root = Some 769; mount = ReadOnlyMount } ∷ [];
}

-- optional sections
abbrev pub conf_optional : Config
conf_optional = record (plain_config) {
  install = Some (codes "/boot/boot.b");
  mode = Lba32Mode;
  timeout = Some 50;
  prompt = true;
  sections =
      record (section_at 7 (codes "/boot/vmlinuz") (codes "linux")) {
        initrd = Some (codes "/boot/initrd");
        root = Some 769;
        mount = ReadOnlyMount;
        optional = true;
      } ∷
      record (section_at 13 (codes "/boot/gone") (codes "gone")) { optional = true } ∷
      section_at 16 (codes "/boot/old") (codes "old") ∷ [];
}

-- two other systems
abbrev pub conf_other : Config
conf_other = record (plain_config) {
  install = Some (codes "/boot/boot.b");
  mode = Lba32Mode;
  default_name = Some (codes "linux");
  prompt = true;
  sections =
      record (section_at 7 (codes "/boot/vmlinuz") (codes "linux")) { initrd = Some (codes "/boot/initrd"); root = Some 769; mount = ReadOnlyMount } ∷
      record (section_at 12 (codes "/dev/hdb") (codes "dos")) {
        other = Some (record { disk = 1; partition = 0 });
        table = Some (record { disk = 1; partition = 0 });
      } ∷
      record (section_at 15 (codes "/dev/hdb1") (codes "hdb1")) {
        other = Some (record { disk = 1; partition = 1 });
        alias = Some (codes "w");
        password = Some (codes "x");
      } ∷ [];
}

-- the table of the boot device
abbrev pub conf_own_table : Config
conf_own_table = record (plain_config) {
  install = Some (codes "/boot/boot.b");
  mode = Lba32Mode;
  default_name = Some (codes "linux");
  timeout = Some 50;
  prompt = true;
  sections =
      record (section_at 8 (codes "/boot/vmlinuz") (codes "linux")) { initrd = Some (codes "/boot/initrd"); root = Some 769; mount = ReadOnlyMount } ∷
      record (section_at 13 (codes "/dev/hdb1") (codes "win")) {
        other = Some (record { disk = 1; partition = 1 });
        table = Some (record { disk = 0; partition = 0 });
      } ∷ [];
}

-- links, an empty initrd, a short code
abbrev pub conf_link : Config
conf_link = record (plain_config) {
  install = Some (codes "/boot/boot.b");
  mode = Lba32Mode;
  default_name = Some (codes "linux");
  sections =
      record (section_at 6 (codes "/boot/vmlinuz") (codes "linux")) { initrd = Some (codes "/boot/initrd"); root = Some 769; mount = ReadOnlyMount } ∷ [];
}

-- two section sectors
abbrev pub conf_two_chain : Config
conf_two_chain = record (plain_config) {
  install = Some (codes "/boot/boot.b");
  mode = Lba32Mode;
  default_name = Some (codes "linux");
  sections =
      record (section_at 6 (codes "/boot/vmlinuz") (codes "linux")) { root = Some 769; mount = ReadOnlyMount } ∷ [];
}

-- version 2 with short names
abbrev pub conf_v2_short : Config
conf_v2_short = record (plain_config) {
  install = Some (codes "/boot/boot.b");
  mode = Lba32Mode;
  default_name = Some (codes "linux");
  timeout = Some 50;
  prompt = true;
  sections =
      record (section_at 8 (codes "/boot/vmlinuz") (codes "linux")) { initrd = Some (codes "/boot/initrd"); root = Some 769; mount = ReadOnlyMount } ∷ [];
}

-- version 1 with short names, odd geometry
abbrev pub conf_v1_short : Config
conf_v1_short = record (plain_config) {
  install = Some (codes "/boot/boot.b");
  compact = true;
  mode = LinearMode;
  default_name = Some (codes "linux");
  timeout = Some 50;
  prompt = true;
  sections =
      record (section_at 9 (codes "/boot/vmlinuz") (codes "linux")) { initrd = Some (codes "/boot/initrd"); root = Some 769; mount = ReadOnlyMount } ∷ [];
}

-- a volume on its own partition boots
abbrev pub conf_whole : Config
conf_whole = record (plain_config) {
  boot = Some (record { disk = 0; partition = 1 });
  install = Some (codes "/boot/boot.b");
  mode = Lba32Mode;
  default_name = Some (codes "linux");
  timeout = Some 50;
  prompt = true;
  sections =
      record (section_at 8 (codes "/boot/vmlinuz") (codes "linux")) { initrd = Some (codes "/boot/initrd"); root = Some 769; mount = ReadOnlyMount } ∷ [];
}

-- compact, a message, an initrd, and two other systems, one with the table of the boot device
abbrev pub conf_full : Config
conf_full = record (plain_config) {
  install = Some (codes "/boot/boot.b");
  compact = true;
  mode = Lba32Mode;
  default_name = Some (codes "linux");
  timeout = Some 50;
  prompt = true;
  message = Some (codes "/boot/msg");
  sections =
      record (section_at 10 (codes "/boot/vmlinuz") (codes "linux")) {
        alias = Some (codes "l");
        initrd = Some (codes "/boot/initrd");
        root = Some 769;
        mount = ReadOnlyMount;
        password = Some (codes "tux");
      } ∷
      record (section_at 17 (codes "/dev/hdb") (codes "dos")) {
        other = Some (record { disk = 1; partition = 0 });
        table = Some (record { disk = 0; partition = 0 });
      } ∷
      record (section_at 20 (codes "/dev/hdb1") (codes "win")) { other = Some (record { disk = 1; partition = 1 }) } ∷ [];
}
