-- What cases of plans begin with: more configurations by chance. Written by tools/plan_cases.py.
use Rattle.std.specs.Prelude.{true, [], ◌∷◌, Some, codes}
use Rattle.lilo_model.specs.Conf.{Config, ReadOnlyMount, ReadWriteMount}
use Rattle.lilo_model.specs.Slots.{LinearMode, Lba32Mode}
use Rattle.model_cases.specs.Configs.{plain_config, section_at}

-- by chance 31
abbrev pub conf_r31 : Config
conf_r31 = record (plain_config) {
  install = Some (codes "/boot/boot.b");
  mode = Lba32Mode;
  timeout = Some 600;
  sections = section_at 6 (codes "/boot/row8") (codes "old") ∷ section_at 8 (codes "/boot/low") (codes "linux") ∷ [];
}

-- by chance 32
abbrev pub conf_r32 : Config
conf_r32 = record (plain_config) {
  install = Some (codes "/boot/boot.b");
  compact = true;
  delay = 1;
  sections =
      record (section_at 6 (codes "/boot/hole") (codes "a")) { alias = Some (codes "a2"); initrd = Some (codes "/boot/none"); root = Some 2049; lock = true } ∷
      record (section_at 12 (codes "/boot/hole") (codes "x2")) { initrd = Some (codes "/boot/rd2"); root = Some 769 } ∷
      record (section_at 16 (codes "/boot/gone") (codes "old")) { initrd = Some (codes "/boot/none"); password = Some (codes "tux"); optional = true } ∷ [];
}

-- by chance 33
abbrev pub conf_r33 : Config
conf_r33 = record (plain_config) {
  install = Some (codes "/boot/boot.b");
  compact = true;
  mode = LinearMode;
  timeout = Some 5;
  sections =
      record (section_at 7 (codes "/boot/vmlinuz") (codes "x2")) {
        mount = ReadWriteMount;
        append = Some (codes "a");
        literal = Some (codes "x y");
        vga = Some 5;
      } ∷
      record (section_at 13 (codes "/dev/hdb1") (codes "a")) { other = Some (record { disk = 1; partition = 1 }) } ∷ [];
}

-- by chance 34
abbrev pub conf_r34 : Config
conf_r34 = record (plain_config) {
  install = Some (codes "/boot/boot.b");
  compact = true;
  sections =
      record (section_at 5 (codes "/boot/gone") (codes "old")) {
        alias = Some (codes "old2");
        mount = ReadWriteMount;
        append = Some (codes "mem=64M  y");
        literal = Some (codes "x y");
        vga = Some 769;
        optional = true;
      } ∷
      record (section_at 13 (codes "/k") (codes "linux")) {
        initrd = Some (codes "/boot/initrd");
        append = Some (codes "a");
        vga = Some 65533;
        fallback = Some (codes "old2");
      } ∷
      record (section_at 19 (codes "/boot/k2") (codes "a")) {
        initrd = Some (codes "/boot/none");
        root = Some 2051;
        append = Some (codes "quiet");
        lock = true;
      } ∷ [];
}

-- by chance 35
abbrev pub conf_r35 : Config
conf_r35 = record (plain_config) {
  mode = LinearMode;
  default_name = Some (codes "old");
  sections =
      record (section_at 5 (codes "/boot/vmlinuz") (codes "old")) { initrd = Some (codes "/boot/initrd"); root = Some 2051 } ∷
      record (section_at 9 (codes "/dev/hdb1") (codes "a")) {
        other = Some (record { disk = 1; partition = 1 });
        table = Some (record { disk = 0; partition = 0 });
      } ∷ [];
}

-- by chance 36
abbrev pub conf_r36 : Config
conf_r36 = record (plain_config) {
  install = Some (codes "/boot/boot.b");
  mode = LinearMode;
  delay = 1;
  prompt = true;
  sections =
      record (section_at 7 (codes "/boot/low") (codes "old")) { mount = ReadWriteMount; vga = Some 65533 } ∷
      record (section_at 11 (codes "/boot/k2") (codes "win")) { initrd = Some (codes "/boot/none"); vga = Some 65533 } ∷ [];
}

-- by chance 37
abbrev pub conf_r37 : Config
conf_r37 = record (plain_config) {
  install = Some (codes "/boot/boot.b");
  compact = true;
  mode = Lba32Mode;
  prompt = true;
  message = Some (codes "/boot/msg");
  sections =
      record (section_at 8 (codes "/boot/row8") (codes "win")) { initrd = Some (codes "/boot/initrd"); append = Some (codes "a"); vga = Some 65535 } ∷
      record (section_at 13 (codes "/dev/hdb") (codes "linux")) {
        other = Some (record { disk = 1; partition = 0 });
        password = Some (codes "abc");
        fallback = Some (codes "win");
      } ∷ [];
}

-- by chance 38
abbrev pub conf_r38 : Config
conf_r38 = record (plain_config) {
  install = Some (codes "/boot/boot.b");
  compact = true;
  mode = Lba32Mode;
  timeout = Some 5;
  message = Some (codes "/boot/none");
  sections =
      record (section_at 8 (codes "/boot/vmlinuz") (codes "win")) { alias = Some (codes "win2"); root = Some 2051 } ∷
      record (section_at 12 (codes "/boot/vmlinuz") (codes "linux")) {
        initrd = Some (codes "/boot/none");
        mount = ReadWriteMount;
        append = Some (codes "a");
        fallback = Some (codes "win");
      } ∷ [];
}

-- by chance 39
abbrev pub conf_r39 : Config
conf_r39 = record (plain_config) {
  install = Some (codes "/boot/boot.b");
  mode = Lba32Mode;
  default_name = Some (codes "a2");
  delay = 3;
  timeout = Some 1;
  sections =
      record (section_at 8 (codes "/boot/k2") (codes "a")) {
        alias = Some (codes "a2");
        initrd = Some (codes "/boot/initrd");
        mount = ReadOnlyMount;
        vga = Some 65535;
        password = Some (codes "abc");
        restricted = true;
      } ∷
      record (section_at 16 (codes "/dev/hdb1") (codes "win")) { other = Some (record { disk = 1; partition = 1 }) } ∷
      record (section_at 18 (codes "/boot/row8") (codes "x2")) { vga = Some 769; password = Some (codes "abc"); restricted = true } ∷ [];
}

-- by chance 40
abbrev pub conf_r40 : Config
conf_r40 = record (plain_config) {
  timeout = Some 600;
  prompt = true;
  message = Some (codes "/boot/msg");
  sections =
      record (section_at 6 (codes "/boot/hole") (codes "a")) {
        alias = Some (codes "a2");
        root = Some 2051;
        literal = Some (codes "x y");
        vga = Some 65533;
        fallback = Some (codes "a");
      } ∷
      record (section_at 13 (codes "/boot/k2") (codes "win")) { initrd = Some (codes "/boot/rd2") } ∷ [];
}

-- by chance 41
abbrev pub conf_r41 : Config
conf_r41 = record (plain_config) {
  install = Some (codes "/boot/boot.b");
  mode = LinearMode;
  default_name = Some (codes "a");
  delay = 3;
  timeout = Some 5;
  sections =
      record (section_at 8 (codes "/boot/vmlinuz") (codes "win")) { initrd = Some (codes "/boot/none"); root = Some 2051 } ∷
      record (section_at 12 (codes "/boot/k2") (codes "a")) {
        initrd = Some (codes "/boot/initrd");
        root = Some 769;
        vga = Some 769;
        password = Some (codes "abc");
        restricted = true;
        fallback = Some (codes "win");
      } ∷ [];
}

-- by chance 42
abbrev pub conf_r42 : Config
conf_r42 = record (plain_config) {
  install = Some (codes "/boot/boot.b");
  mode = LinearMode;
  default_name = Some (codes "a");
  prompt = true;
  message = Some (codes "/boot/msg");
  sections =
      record (section_at 8 (codes "/boot/vmlinuz") (codes "a")) { root = Some 2049; append = Some (codes "mem=64M  y") } ∷
      record (section_at 12 (codes "/boot/vmlinuz") (codes "old")) {
        initrd = Some (codes "/boot/rd2");
        password = Some (codes "tux");
        restricted = true;
        lock = true;
      } ∷ [];
}

-- by chance 43
abbrev pub conf_r43 : Config
conf_r43 = record (plain_config) {
  install = Some (codes "/boot/boot.b");
  prompt = true;
  sections =
      record (section_at 5 (codes "/boot/hole") (codes "linux")) { alias = Some (codes "linux2"); lock = true } ∷
      record (section_at 9 (codes "/boot/hole") (codes "win")) { alias = Some (codes "win2"); initrd = Some (codes "/boot/none"); mount = ReadOnlyMount } ∷
      record (section_at 14 (codes "/boot/long") (codes "a")) { mount = ReadOnlyMount; password = Some (codes "abc"); restricted = true } ∷ [];
}

-- by chance 44
abbrev pub conf_r44 : Config
conf_r44 = record (plain_config) {
  install = Some (codes "/boot/boot.b");
  mode = LinearMode;
  prompt = true;
  sections =
      record (section_at 6 (codes "/boot/row8") (codes "a")) { initrd = Some (codes "/boot/none"); append = Some (codes "quiet") } ∷
      record (section_at 10 (codes "/boot/low") (codes "old")) { mount = ReadWriteMount; vga = Some 65533; lock = true } ∷ [];
}

-- by chance 45
abbrev pub conf_r45 : Config
conf_r45 = record (plain_config) {
  install = Some (codes "/boot/boot.b");
  mode = LinearMode;
  prompt = true;
  sections = record (section_at 6 (codes "/boot/low") (codes "win")) { append = Some (codes "a") } ∷ [];
}

-- by chance 46
abbrev pub conf_r46 : Config
conf_r46 = record (plain_config) {
  install = Some (codes "/boot/boot.b");
  mode = LinearMode;
  default_name = Some (codes "x2");
  delay = 1;
  sections =
      record (section_at 7 (codes "/boot/vmlinuz") (codes "x2")) {
        alias = Some (codes "x22");
        initrd = Some (codes "/boot/none");
        mount = ReadWriteMount;
        password = Some (codes "tux");
        lock = true;
      } ∷
      record (section_at 14 (codes "/boot/hole") (codes "old")) { initrd = Some (codes "/boot/rd2"); password = Some (codes "tux") } ∷ [];
}

-- by chance 47
abbrev pub conf_r47 : Config
conf_r47 = record (plain_config) {
  install = Some (codes "/boot/boot.b");
  compact = true;
  mode = Lba32Mode;
  timeout = Some 50;
  message = Some (codes "/boot/msg");
  sections =
      record (section_at 8 (codes "/boot/gone") (codes "x2")) {
        initrd = Some (codes "/boot/rd2");
        root = Some 2051;
        literal = Some (codes "x y");
        vga = Some 65533;
        optional = true;
      } ∷
      record (section_at 15 (codes "/boot/vmlinuz") (codes "old")) {
        root = Some 769;
        mount = ReadWriteMount;
        vga = Some 65535;
        password = Some (codes "tux");
        restricted = true;
      } ∷
      record (section_at 22 (codes "/boot/vmlinuz") (codes "a")) {
        alias = Some (codes "a2");
        initrd = Some (codes "/boot/initrd");
        root = Some 769;
        mount = ReadOnlyMount;
      } ∷ [];
}

-- by chance 48
abbrev pub conf_r48 : Config
conf_r48 = record (plain_config) {
  install = Some (codes "/boot/boot.b");
  compact = true;
  prompt = true;
  message = Some (codes "/boot/msg");
  sections = record (section_at 7 (codes "/boot/low") (codes "old")) { literal = Some (codes "single") } ∷ [];
}

-- by chance 49
abbrev pub conf_r49 : Config
conf_r49 = record (plain_config) {
  install = Some (codes "/boot/boot.b");
  default_name = Some (codes "x2");
  sections =
      record (section_at 5 (codes "/boot/k2") (codes "x2")) { alias = Some (codes "x22"); root = Some 2051; mount = ReadWriteMount } ∷
      record (section_at 10 (codes "/k") (codes "old")) { root = Some 2049; mount = ReadWriteMount; append = Some (codes "quiet"); lock = true } ∷
      record (section_at 16 (codes "/boot/gone") (codes "win")) { initrd = Some (codes "/boot/initrd"); literal = Some (codes "x y"); optional = true } ∷ [];
}

-- by chance 50
abbrev pub conf_r50 : Config
conf_r50 = record (plain_config) {
  install = Some (codes "/boot/boot.b");
  default_name = Some (codes "win2");
  delay = 20;
  message = Some (codes "/boot/msg");
  sections =
      record (section_at 7 (codes "/boot/hole") (codes "win")) { alias = Some (codes "win2"); initrd = Some (codes "/boot/rd2"); lock = true } ∷ [];
}

-- by chance 51
abbrev pub conf_r51 : Config
conf_r51 = record (plain_config) {
  install = Some (codes "/boot/boot.b");
  mode = Lba32Mode;
  default_name = Some (codes "a");
  delay = 3;
  sections =
      record (section_at 7 (codes "/boot/k2") (codes "a")) { initrd = Some (codes "/boot/initrd"); literal = Some (codes "single") } ∷ [];
}

-- by chance 52
abbrev pub conf_r52 : Config
conf_r52 = record (plain_config) {
  mode = Lba32Mode;
  delay = 1;
  prompt = true;
  message = Some (codes "/boot/none");
  sections =
      record (section_at 7 (codes "/boot/long") (codes "old")) { mount = ReadWriteMount; append = Some (codes "quiet") } ∷
      record (section_at 11 (codes "/k") (codes "win")) { mount = ReadOnlyMount; append = Some (codes "quiet"); fallback = Some (codes "old") } ∷ [];
}

-- by chance 53
abbrev pub conf_r53 : Config
conf_r53 = record (plain_config) {
  install = Some (codes "/boot/boot.b");
  compact = true;
  mode = Lba32Mode;
  default_name = Some (codes "x2");
  delay = 1;
  prompt = true;
  message = Some (codes "/boot/none");
  sections =
      record (section_at 10 (codes "/boot/k2") (codes "x2")) { root = Some 769; vga = Some 65533 } ∷
      record (section_at 14 (codes "/boot/long") (codes "a")) {
        alias = Some (codes "a2");
        initrd = Some (codes "/boot/none");
        literal = Some (codes "single");
        vga = Some 769;
        password = Some (codes "tux");
        restricted = true;
      } ∷
      record (section_at 22 (codes "/boot/row8") (codes "linux")) {
        initrd = Some (codes "/boot/rd2");
        root = Some 2051;
        literal = Some (codes "x y");
        vga = Some 65533;
        password = Some (codes "tux");
      } ∷ [];
}

-- by chance 54
abbrev pub conf_r54 : Config
conf_r54 = record (plain_config) {
  install = Some (codes "/boot/boot.b");
  mode = Lba32Mode;
  timeout = Some 1;
  prompt = true;
  sections =
      record (section_at 7 (codes "/boot/hole") (codes "win")) { initrd = Some (codes "/boot/rd2"); append = Some (codes "mem=64M  y") } ∷
      record (section_at 11 (codes "/dev/hdb1") (codes "x2")) {
        other = Some (record { disk = 1; partition = 1 });
        table = Some (record { disk = 0; partition = 0 });
      } ∷ [];
}

-- by chance 55
abbrev pub conf_r55 : Config
conf_r55 = record (plain_config) {
  install = Some (codes "/boot/boot.b");
  mode = Lba32Mode;
  delay = 1;
  timeout = Some 50;
  sections =
      record (section_at 7 (codes "/boot/low") (codes "win")) { fallback = Some (codes "win") } ∷
      record (section_at 10 (codes "/boot/gone") (codes "a")) {
        root = Some 2051;
        append = Some (codes "quiet");
        vga = Some 65535;
        password = Some (codes "tux");
        restricted = true;
        optional = true;
      } ∷ [];
}

-- by chance 56
abbrev pub conf_r56 : Config
conf_r56 = record (plain_config) {
  install = Some (codes "/boot/boot.b");
  compact = true;
  mode = Lba32Mode;
  delay = 20;
  prompt = true;
  sections =
      record (section_at 8 (codes "/k") (codes "a")) { initrd = Some (codes "/boot/none"); mount = ReadOnlyMount; vga = Some 65533; lock = true } ∷
      record (section_at 14 (codes "/boot/k2") (codes "x2")) {
        initrd = Some (codes "/boot/rd2");
        vga = Some 769;
        password = Some (codes "abc");
        restricted = true;
        lock = true;
      } ∷
      record (section_at 21 (codes "/k") (codes "win")) { alias = Some (codes "win2"); append = Some (codes "quiet"); lock = true } ∷ [];
}

-- by chance 57
abbrev pub conf_r57 : Config
conf_r57 = record (plain_config) {
  install = Some (codes "/boot/boot.b");
  compact = true;
  mode = Lba32Mode;
  timeout = Some 5;
  prompt = true;
  sections =
      record (section_at 8 (codes "/boot/row8") (codes "linux")) { initrd = Some (codes "/boot/none"); mount = ReadWriteMount; lock = true } ∷
      record (section_at 13 (codes "/boot/gone") (codes "win")) {
        alias = Some (codes "win2");
        initrd = Some (codes "/boot/rd2");
        password = Some (codes "abc");
        optional = true;
      } ∷
      record (section_at 19 (codes "/boot/low") (codes "old")) { root = Some 2049; password = Some (codes "tux"); restricted = true } ∷ [];
}

-- by chance 58
abbrev pub conf_r58 : Config
conf_r58 = record (plain_config) {
  install = Some (codes "/boot/boot.b");
  mode = Lba32Mode;
  delay = 20;
  timeout = Some 1;
  sections =
      record (section_at 7 (codes "/boot/k2") (codes "win")) { initrd = Some (codes "/boot/none"); fallback = Some (codes "win") } ∷
      record (section_at 11 (codes "/boot/gone") (codes "linux")) { root = Some 769; mount = ReadOnlyMount; vga = Some 65533; optional = true } ∷
      record (section_at 17 (codes "/boot/k2") (codes "old")) { initrd = Some (codes "/boot/rd2"); mount = ReadOnlyMount } ∷ [];
}

-- by chance 59
abbrev pub conf_r59 : Config
conf_r59 = record (plain_config) {
  install = Some (codes "/boot/boot.b");
  compact = true;
  delay = 1;
  timeout = Some 1;
  sections =
      record (section_at 7 (codes "/boot/low") (codes "win")) {
        mount = ReadWriteMount;
        append = Some (codes "mem=64M  y");
        vga = Some 65535;
        password = Some (codes "abc");
        restricted = true;
      } ∷ [];
}

-- by chance 60
abbrev pub conf_r60 : Config
conf_r60 = record (plain_config) {
  install = Some (codes "/boot/boot.b");
  mode = Lba32Mode;
  prompt = true;
  message = Some (codes "/boot/none");
  sections =
      record (section_at 7 (codes "/boot/row8") (codes "linux")) { root = Some 2051; mount = ReadOnlyMount; vga = Some 769; lock = true } ∷
      record (section_at 13 (codes "/boot/row8") (codes "old")) { alias = Some (codes "old2"); root = Some 2049; vga = Some 65535; lock = true } ∷ [];
}
