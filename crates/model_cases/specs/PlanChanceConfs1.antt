-- What cases of plans begin with: configurations by chance. Written by tools/plan_cases.py.
use Rattle.std.specs.Prelude.{true, [], ◌∷◌, Some, codes}
use Rattle.lilo_model.specs.Conf.{Config, ReadOnlyMount, ReadWriteMount}
use Rattle.lilo_model.specs.Slots.{LinearMode, Lba32Mode}
use Rattle.model_cases.specs.Configs.{plain_config, section_at}

-- by chance 1
abbrev pub conf_r1 : Config
conf_r1 = record (plain_config) {
  compact = true;
  mode = Lba32Mode;
  default_name = Some (codes "a");
  delay = 1;
  prompt = true;
  sections =
      record (section_at 8 (codes "/boot/k2") (codes "a")) { initrd = Some (codes "/boot/initrd"); mount = ReadWriteMount; lock = true } ∷ [];
}

-- by chance 2
abbrev pub conf_r2 : Config
conf_r2 = record (plain_config) {
  install = Some (codes "/boot/boot.b");
  mode = Lba32Mode;
  default_name = Some (codes "win");
  message = Some (codes "/boot/msg");
  sections =
      record (section_at 7 (codes "/k") (codes "win")) {
        alias = Some (codes "win2");
        initrd = Some (codes "/boot/none");
        root = Some 2049;
        mount = ReadOnlyMount;
      } ∷ [];
}

-- by chance 3
abbrev pub conf_r3 : Config
conf_r3 = record (plain_config) {
  install = Some (codes "/boot/boot.b");
  compact = true;
  timeout = Some 5;
  prompt = true;
  message = Some (codes "/boot/msg");
  sections =
      record (section_at 8 (codes "/boot/vmlinuz") (codes "old")) { mount = ReadOnlyMount; password = Some (codes "abc"); fallback = Some (codes "old") } ∷
      record (section_at 13 (codes "/boot/long") (codes "linux")) { initrd = Some (codes "/boot/none") } ∷ [];
}

-- by chance 4
abbrev pub conf_r4 : Config
conf_r4 = record (plain_config) {
  install = Some (codes "/boot/boot.b");
  compact = true;
  mode = LinearMode;
  delay = 1;
  message = Some (codes "/boot/none");
  sections =
      record (section_at 8 (codes "/boot/gone") (codes "linux")) {
        alias = Some (codes "linux2");
        root = Some 2051;
        append = Some (codes "mem=64M  y");
        optional = true;
      } ∷
      record (section_at 14 (codes "/dev/hdb1") (codes "old")) { other = Some (record { disk = 1; partition = 1 }); fallback = Some (codes "linux2") } ∷ [];
}

-- by chance 5
abbrev pub conf_r5 : Config
conf_r5 = record (plain_config) {
  install = Some (codes "/boot/boot.b");
  delay = 20;
  timeout = Some 1;
  prompt = true;
  message = Some (codes "/boot/none");
  sections =
      record (section_at 8 (codes "/boot/gone") (codes "a")) {
        initrd = Some (codes "/boot/initrd");
        append = Some (codes "mem=64M  y");
        password = Some (codes "tux");
        optional = true;
        fallback = Some (codes "a");
      } ∷
      record (section_at 15 (codes "/boot/low") (codes "linux")) {
        alias = Some (codes "linux2");
        mount = ReadWriteMount;
        password = Some (codes "abc");
        fallback = Some (codes "linux2");
      } ∷ [];
}

-- by chance 6
abbrev pub conf_r6 : Config
conf_r6 = record (plain_config) {
  install = Some (codes "/boot/boot.b");
  compact = true;
  mode = LinearMode;
  default_name = Some (codes "linux2");
  timeout = Some 600;
  message = Some (codes "/boot/msg");
  sections =
      record (section_at 9 (codes "/k") (codes "linux")) { alias = Some (codes "linux2"); mount = ReadOnlyMount; vga = Some 65533 } ∷
      record (section_at 14 (codes "/boot/k2") (codes "win")) { append = Some (codes "mem=64M  y"); vga = Some 5 } ∷ [];
}

-- by chance 7
abbrev pub conf_r7 : Config
conf_r7 = record (plain_config) {
  install = Some (codes "/boot/boot.b");
  compact = true;
  default_name = Some (codes "a");
  timeout = Some 1;
  prompt = true;
  message = Some (codes "/boot/msg");
  sections =
      record (section_at 9 (codes "/boot/low") (codes "a")) {
        mount = ReadOnlyMount;
        append = Some (codes "quiet");
        literal = Some (codes "x y");
        lock = true;
      } ∷ [];
}

-- by chance 8
abbrev pub conf_r8 : Config
conf_r8 = record (plain_config) {
  install = Some (codes "/boot/boot.b");
  compact = true;
  mode = LinearMode;
  prompt = true;
  sections =
      record (section_at 7 (codes "/k") (codes "old")) { alias = Some (codes "old2"); fallback = Some (codes "old") } ∷
      record (section_at 11 (codes "/boot/row8") (codes "a")) {
        initrd = Some (codes "/boot/rd2");
        root = Some 769;
        append = Some (codes "mem=64M  y");
        fallback = Some (codes "old");
      } ∷ [];
}

-- by chance 9
abbrev pub conf_r9 : Config
conf_r9 = record (plain_config) {
  install = Some (codes "/boot/boot.b");
  compact = true;
  default_name = Some (codes "win");
  delay = 1;
  timeout = Some 1;
  sections =
      record (section_at 8 (codes "/boot/row8") (codes "win")) { initrd = Some (codes "/boot/rd2"); vga = Some 769 } ∷ [];
}

-- by chance 10
abbrev pub conf_r10 : Config
conf_r10 = record (plain_config) {
  install = Some (codes "/boot/boot.b");
  compact = true;
  mode = Lba32Mode;
  prompt = true;
  message = Some (codes "/boot/none");
  sections =
      record (section_at 8 (codes "/boot/hole") (codes "x2")) { root = Some 2051; append = Some (codes "a") } ∷
      record (section_at 12 (codes "/boot/hole") (codes "old")) { initrd = Some (codes "/boot/rd2"); mount = ReadOnlyMount; lock = true } ∷
      record (section_at 17 (codes "/k") (codes "win")) {
        alias = Some (codes "win2");
        initrd = Some (codes "/boot/initrd");
        password = Some (codes "abc");
        restricted = true;
      } ∷ [];
}

-- by chance 11
abbrev pub conf_r11 : Config
conf_r11 = record (plain_config) {
  install = Some (codes "/boot/boot.b");
  mode = LinearMode;
  default_name = Some (codes "x2");
  delay = 20;
  prompt = true;
  sections =
      record (section_at 8 (codes "/boot/vmlinuz") (codes "x2")) { alias = Some (codes "x22"); literal = Some (codes "x y") } ∷
      record (section_at 12 (codes "/boot/gone") (codes "a")) { password = Some (codes "abc"); restricted = true; optional = true } ∷ [];
}

-- by chance 12
abbrev pub conf_r12 : Config
conf_r12 = record (plain_config) {
  compact = true;
  delay = 1;
  timeout = Some 50;
  message = Some (codes "/boot/msg");
  sections =
      record (section_at 7 (codes "/boot/vmlinuz") (codes "win")) { initrd = Some (codes "/boot/initrd"); root = Some 2049; lock = true } ∷
      record (section_at 12 (codes "/boot/gone") (codes "linux")) { root = Some 2049; optional = true; fallback = Some (codes "linux") } ∷
      record (section_at 17 (codes "/boot/gone") (codes "old")) {
        initrd = Some (codes "/boot/initrd");
        root = Some 769;
        append = Some (codes "a");
        password = Some (codes "tux");
        optional = true;
      } ∷ [];
}

-- by chance 13
abbrev pub conf_r13 : Config
conf_r13 = record (plain_config) {
  sections =
      record (section_at 3 (codes "/boot/gone") (codes "a")) { initrd = Some (codes "/boot/initrd"); literal = Some (codes "x y"); optional = true } ∷
      record (section_at 8 (codes "/boot/hole") (codes "old")) {
        initrd = Some (codes "/boot/none");
        root = Some 2051;
        append = Some (codes "mem=64M  y");
        fallback = Some (codes "old");
      } ∷ [];
}

-- by chance 14
abbrev pub conf_r14 : Config
conf_r14 = record (plain_config) {
  install = Some (codes "/boot/boot.b");
  compact = true;
  mode = Lba32Mode;
  default_name = Some (codes "linux");
  delay = 20;
  prompt = true;
  sections =
      record (section_at 9 (codes "/boot/long") (codes "win")) { password = Some (codes "tux"); restricted = true; fallback = Some (codes "win") } ∷
      record (section_at 14 (codes "/boot/row8") (codes "linux")) {
        initrd = Some (codes "/boot/initrd");
        mount = ReadWriteMount;
        literal = Some (codes "single");
        password = Some (codes "abc");
        restricted = true;
      } ∷ [];
}

-- by chance 15
abbrev pub conf_r15 : Config
conf_r15 = record (plain_config) {
  compact = true;
  mode = Lba32Mode;
  default_name = Some (codes "linux");
  delay = 20;
  timeout = Some 600;
  sections = record (section_at 8 (codes "/boot/long") (codes "linux")) { alias = Some (codes "linux2") } ∷ [];
}

-- by chance 16
abbrev pub conf_r16 : Config
conf_r16 = record (plain_config) {
  install = Some (codes "/boot/boot.b");
  mode = LinearMode;
  default_name = Some (codes "win");
  delay = 3;
  timeout = Some 5;
  prompt = true;
  sections =
      record (section_at 9 (codes "/boot/low") (codes "win")) { root = Some 2049; literal = Some (codes "x y"); vga = Some 769 } ∷
      record (section_at 14 (codes "/boot/row8") (codes "a")) { root = Some 2049 } ∷ [];
}

-- by chance 17
abbrev pub conf_r17 : Config
conf_r17 = record (plain_config) {
  compact = true;
  mode = LinearMode;
  default_name = Some (codes "a");
  sections =
      record (section_at 6 (codes "/boot/low") (codes "a")) { root = Some 769; append = Some (codes "mem=64M  y"); literal = Some (codes "single") } ∷
      record (section_at 11 (codes "/boot/hole") (codes "win")) {
        alias = Some (codes "win2");
        initrd = Some (codes "/boot/none");
        fallback = Some (codes "win");
      } ∷ [];
}

-- by chance 18
abbrev pub conf_r18 : Config
conf_r18 = record (plain_config) {
  install = Some (codes "/boot/boot.b");
  compact = true;
  timeout = Some 1;
  message = Some (codes "/boot/msg");
  sections =
      record (section_at 7 (codes "/boot/low") (codes "old")) { mount = ReadOnlyMount } ∷
      record (section_at 10 (codes "/boot/gone") (codes "linux")) {
        alias = Some (codes "linux2");
        initrd = Some (codes "/boot/initrd");
        mount = ReadWriteMount;
        vga = Some 65533;
        optional = true;
        lock = true;
      } ∷
      section_at 18 (codes "/boot/row8") (codes "x2") ∷ [];
}

-- by chance 19
abbrev pub conf_r19 : Config
conf_r19 = record (plain_config) {
  install = Some (codes "/boot/boot.b");
  default_name = Some (codes "x2");
  prompt = true;
  sections =
      record (section_at 6 (codes "/boot/gone") (codes "linux")) { alias = Some (codes "linux2"); initrd = Some (codes "/boot/rd2"); optional = true } ∷
      record (section_at 11 (codes "/dev/hdb1") (codes "x2")) {
        other = Some (record { disk = 1; partition = 1 });
        fallback = Some (codes "x2");
        table = Some (record { disk = 1; partition = 0 });
      } ∷ [];
}

-- by chance 20
abbrev pub conf_r20 : Config
conf_r20 = record (plain_config) {
  install = Some (codes "/boot/boot.b");
  compact = true;
  delay = 20;
  prompt = true;
  sections =
      record (section_at 7 (codes "/boot/row8") (codes "x2")) { initrd = Some (codes "/boot/initrd"); vga = Some 5; password = Some (codes "abc") } ∷
      record (section_at 12 (codes "/dev/hdb1") (codes "win")) {
        other = Some (record { disk = 1; partition = 1 });
        alias = Some (codes "win2");
        lock = true;
      } ∷ [];
}

-- by chance 21
abbrev pub conf_r21 : Config
conf_r21 = record (plain_config) {
  install = Some (codes "/boot/boot.b");
  mode = LinearMode;
  prompt = true;
  message = Some (codes "/boot/none");
  sections =
      record (section_at 7 (codes "/k") (codes "x2")) { root = Some 769; append = Some (codes "quiet"); vga = Some 5; password = Some (codes "abc") } ∷
      record (section_at 13 (codes "/boot/low") (codes "old")) { root = Some 769; password = Some (codes "tux"); restricted = true } ∷ [];
}

-- by chance 22
abbrev pub conf_r22 : Config
conf_r22 = record (plain_config) {
  install = Some (codes "/boot/boot.b");
  compact = true;
  mode = LinearMode;
  delay = 20;
  timeout = Some 600;
  prompt = true;
  sections =
      record (section_at 9 (codes "/boot/vmlinuz") (codes "x2")) { initrd = Some (codes "/boot/initrd") } ∷
      record (section_at 12 (codes "/dev/hdb") (codes "win")) {
        other = Some (record { disk = 1; partition = 0 });
        table = Some (record { disk = 1; partition = 0 });
      } ∷
      record (section_at 15 (codes "/boot/vmlinuz") (codes "linux")) {
        root = Some 2049;
        mount = ReadWriteMount;
        literal = Some (codes "x y");
        vga = Some 65533;
      } ∷ [];
}

-- by chance 23
abbrev pub conf_r23 : Config
conf_r23 = record (plain_config) {
  mode = Lba32Mode;
  default_name = Some (codes "linux");
  delay = 1;
  sections =
      record (section_at 6 (codes "/boot/long") (codes "linux")) { initrd = Some (codes "/boot/rd2"); password = Some (codes "tux"); lock = true } ∷
      record (section_at 11 (codes "/boot/hole") (codes "win")) {
        initrd = Some (codes "/boot/initrd");
        root = Some 2051;
        mount = ReadOnlyMount;
        append = Some (codes "a");
      } ∷ [];
}

-- by chance 24
abbrev pub conf_r24 : Config
conf_r24 = record (plain_config) {
  mode = Lba32Mode;
  timeout = Some 1;
  prompt = true;
  sections =
      record (section_at 6 (codes "/boot/low") (codes "linux")) {
        root = Some 2051;
        mount = ReadWriteMount;
        password = Some (codes "abc");
        restricted = true;
        fallback = Some (codes "linux");
      } ∷ [];
}

-- by chance 25
abbrev pub conf_r25 : Config
conf_r25 = record (plain_config) {
  install = Some (codes "/boot/boot.b");
  default_name = Some (codes "linux");
  prompt = true;
  sections =
      record (section_at 6 (codes "/boot/low") (codes "win")) { append = Some (codes "a"); literal = Some (codes "x y"); password = Some (codes "abc") } ∷
      record (section_at 11 (codes "/boot/k2") (codes "linux")) {
        initrd = Some (codes "/boot/rd2");
        append = Some (codes "quiet");
        password = Some (codes "abc");
        restricted = true;
        lock = true;
      } ∷
      record (section_at 18 (codes "/boot/k2") (codes "old")) { root = Some 2049; vga = Some 769; lock = true } ∷ [];
}

-- by chance 26
abbrev pub conf_r26 : Config
conf_r26 = record (plain_config) {
  install = Some (codes "/boot/boot.b");
  compact = true;
  mode = LinearMode;
  sections =
      record (section_at 6 (codes "/boot/hole") (codes "x2")) {
        initrd = Some (codes "/boot/rd2");
        literal = Some (codes "x y");
        vga = Some 5;
        fallback = Some (codes "x2");
      } ∷
      record (section_at 12 (codes "/boot/row8") (codes "win")) { root = Some 769; password = Some (codes "abc"); fallback = Some (codes "win") } ∷ [];
}

-- by chance 27
abbrev pub conf_r27 : Config
conf_r27 = record (plain_config) {
  install = Some (codes "/boot/boot.b");
  compact = true;
  mode = Lba32Mode;
  prompt = true;
  message = Some (codes "/boot/none");
  sections = record (section_at 8 (codes "/boot/low") (codes "win")) { fallback = Some (codes "win") } ∷ [];
}

-- by chance 28
abbrev pub conf_r28 : Config
conf_r28 = record (plain_config) {
  compact = true;
  default_name = Some (codes "old2");
  delay = 3;
  message = Some (codes "/boot/msg");
  sections =
      record (section_at 7 (codes "/boot/long") (codes "a")) {
        alias = Some (codes "a2");
        initrd = Some (codes "/boot/rd2");
        append = Some (codes "quiet");
        vga = Some 5;
        password = Some (codes "tux");
        restricted = true;
      } ∷
      record (section_at 15 (codes "/dev/hdb1") (codes "x2")) {
        other = Some (record { disk = 1; partition = 1 });
        alias = Some (codes "x22");
        table = Some (record { disk = 0; partition = 0 });
      } ∷
      record (section_at 19 (codes "/dev/hdb") (codes "old")) {
        other = Some (record { disk = 1; partition = 0 });
        alias = Some (codes "old2");
        password = Some (codes "tux");
        fallback = Some (codes "old2");
      } ∷ [];
}

-- by chance 29
abbrev pub conf_r29 : Config
conf_r29 = record (plain_config) {
  install = Some (codes "/boot/boot.b");
  compact = true;
  delay = 3;
  sections =
      record (section_at 6 (codes "/boot/gone") (codes "old")) { mount = ReadOnlyMount; password = Some (codes "tux"); restricted = true; optional = true } ∷
      record (section_at 12 (codes "/boot/row8") (codes "x2")) {
        root = Some 2049;
        mount = ReadOnlyMount;
        append = Some (codes "quiet");
        vga = Some 769;
        fallback = Some (codes "old");
      } ∷
      record (section_at 19 (codes "/dev/hdb") (codes "win")) {
        other = Some (record { disk = 1; partition = 0 });
        password = Some (codes "abc");
        restricted = true;
        lock = true;
        table = Some (record { disk = 0; partition = 0 });
      } ∷ [];
}

-- by chance 30
abbrev pub conf_r30 : Config
conf_r30 = record (plain_config) {
  install = Some (codes "/boot/boot.b");
  default_name = Some (codes "linux2");
  delay = 1;
  timeout = Some 50;
  sections =
      record (section_at 7 (codes "/boot/vmlinuz") (codes "linux")) { alias = Some (codes "linux2"); initrd = Some (codes "/boot/none"); vga = Some 65535 } ∷
      record (section_at 12 (codes "/k") (codes "x2")) { initrd = Some (codes "/boot/none"); append = Some (codes "a") } ∷
      record (section_at 16 (codes "/boot/hole") (codes "old")) { root = Some 2051; mount = ReadOnlyMount } ∷ [];
}
