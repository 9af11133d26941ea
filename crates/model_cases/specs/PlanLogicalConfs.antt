-- What cases of plans begin with: configurations where the volume is a logical partition. Written by tools/plan_cases.py.
use Rattle.std.specs.Prelude.{true, [], ◌∷◌, Some, codes}
use Rattle.lilo_model.specs.Conf.{Config, ReadOnlyMount, ReadWriteMount}
use Rattle.lilo_model.specs.Slots.{LinearMode, Lba32Mode}
use Rattle.model_cases.specs.Configs.{plain_config, section_at}

-- an initrd that is all hole
abbrev pub conf_logical_1 : Config
conf_logical_1 = record (plain_config) {
  install = Some (codes "/boot/code");
  mode = Lba32Mode;
  sections = record (section_at 5 (codes "/boot/k") (codes "a")) { initrd = Some (codes "/boot/rdzero") } ∷ [];
}

-- holes in a kernel, an initrd and a message, compact by cylinder
abbrev pub conf_logical_2 : Config
conf_logical_2 = record (plain_config) {
  install = Some (codes "/boot/code");
  compact = true;
  prompt = true;
  message = Some (codes "/boot/mhole");
  sections = record (section_at 7 (codes "/boot/hole") (codes "a")) { initrd = Some (codes "/boot/rdhole") } ∷ [];
}

-- the same, one by one, with linear addresses
abbrev pub conf_logical_3 : Config
conf_logical_3 = record (plain_config) {
  install = Some (codes "/boot/code");
  mode = LinearMode;
  prompt = true;
  message = Some (codes "/boot/mhole");
  sections = record (section_at 7 (codes "/boot/hole") (codes "a")) { initrd = Some (codes "/boot/rdhole") } ∷ [];
}

-- the boot sector of the logical partition itself
abbrev pub conf_logical_4 : Config
conf_logical_4 = record (plain_config) {
  boot = Some (record { disk = 0; partition = 5 });
  mode = Lba32Mode;
  sections =
      section_at 4 (codes "/boot/apart") (codes "a") ∷
      record (section_at 6 (codes "/dev/hda1") (codes "root")) {
        other = Some (record { disk = 0; partition = 1 });
        table = Some (record { disk = 0; partition = 0 });
      } ∷ [];
}

-- lba32, compact, timeout 1, an image, another system, an initrd, a fallback
abbrev pub conf_logical_5 : Config
conf_logical_5 = record (plain_config) {
  boot = Some (record { disk = 0; partition = 5 });
  compact = true;
  mode = Lba32Mode;
  default_name = Some (codes "safe");
  timeout = Some 1;
  sections =
      record (section_at 8 (codes "/boot/hole") (codes "b")) { initrd = Some (codes "/boot/rdhole"); mount = ReadOnlyMount; fallback = Some (codes "b") } ∷
      record (section_at 12 (codes "/dev/hdb1") (codes "safe")) { other = Some (record { disk = 1; partition = 1 }) } ∷ [];
}

-- linear, delay 1, timeout 1, an image, one omitted, another system, a table, a password, append, root
abbrev pub conf_logical_6 : Config
conf_logical_6 = record (plain_config) {
  boot = Some (record { disk = 0; partition = 5 });
  install = Some (codes "/boot/code");
  mode = LinearMode;
  default_name = Some (codes "dos");
  delay = 1;
  timeout = Some 1;
  sections =
      record (section_at 9 (codes "/boot/gone") (codes "x")) { root = Some 773; append = Some (codes "a=18"); password = Some (codes "top"); optional = true } ∷
      record (section_at 14 (codes "/dev/hda1") (codes "dos")) {
        other = Some (record { disk = 0; partition = 1 });
        password = Some (codes "top");
        table = Some (record { disk = 1; partition = 0 });
      } ∷ [];
}

-- by cylinder, a prompt, delay 2, timeout 0, an image, a password, restricted
abbrev pub conf_logical_7 : Config
conf_logical_7 = record (plain_config) {
  boot = Some (record { disk = 0; partition = 5 });
  install = Some (codes "/boot/code");
  delay = 2;
  timeout = Some 0;
  prompt = true;
  sections =
      record (section_at 8 (codes "/boot/hole") (codes "dos")) {
        mount = ReadWriteMount;
        password = Some (codes "ppppppppppppppppppppppppppppppp");
        restricted = true;
      } ∷ [];
}

-- lba32, a prompt, timeout 0, 2 images, another system, an initrd, a table, a password, restricted, a fallback,
-- literal, append, root
abbrev pub conf_logical_8 : Config
conf_logical_8 = record (plain_config) {
  install = Some (codes "/boot/code");
  mode = Lba32Mode;
  timeout = Some 0;
  prompt = true;
  sections =
      record (section_at 7 (codes "/boot/sub/k") (codes "b")) { initrd = Some (codes "/boot/rd"); mount = ReadWriteMount; literal = Some (codes "only this") } ∷
      record (section_at 12 (codes "/dev/hda1") (codes "fifteen-letters")) {
        other = Some (record { disk = 0; partition = 1 });
        fallback = Some (codes "two s");
        table = Some (record { disk = 0; partition = 0 });
      } ∷
      record (section_at 16 (codes "/boot/sub/k") (codes "two")) {
        initrd = Some (codes "/boot/none");
        root = Some 773;
        append = Some (codes "a=19");
        password = Some (codes "ppppppppppppppppppppppppppppppp");
        restricted = true;
        fallback = Some (codes "b");
      } ∷ [];
}

-- linear, a message, 2 images, one omitted, an initrd, an alias, a password, restricted, a fallback, append, vga
abbrev pub conf_logical_9 : Config
conf_logical_9 = record (plain_config) {
  boot = Some (record { disk = 0; partition = 5 });
  install = Some (codes "/boot/code");
  mode = LinearMode;
  message = Some (codes "/boot/none");
  sections =
      record (section_at 9 (codes "/boot/gone") (codes "fifteen-letters")) {
        initrd = Some (codes "/boot/none");
        append = Some (codes "a=33");
        vga = Some 65533;
        password = Some (codes "top");
        optional = true;
        fallback = Some (codes "fifteen-letters");
      } ∷
      record (section_at 15 (codes "/boot/late") (codes "linux")) {
        alias = Some (codes "alinux");
        initrd = Some (codes "/boot/none");
        mount = ReadWriteMount;
        append = Some (codes "a=27");
        vga = Some 65533;
        password = Some (codes "a b");
        restricted = true;
        optional = true;
      } ∷ [];
}

-- by cylinder, compact, a message, a prompt, an image, an initrd, an alias, a lock, vga, root
abbrev pub conf_logical_10 : Config
conf_logical_10 = record (plain_config) {
  compact = true;
  prompt = true;
  message = Some (codes "/boot/none");
  sections =
      record (section_at 7 (codes "/boot/k") (codes "linux")) {
        alias = Some (codes "1");
        initrd = Some (codes "/boot/rdzero");
        root = Some 773;
        vga = Some 773;
        lock = true;
      } ∷ [];
}

-- linear, compact, a message, timeout 1, 2 images, a fallback, append, vga
abbrev pub conf_logical_11 : Config
conf_logical_11 = record (plain_config) {
  boot = Some (record { disk = 0; partition = 5 });
  install = Some (codes "/boot/code");
  compact = true;
  mode = LinearMode;
  default_name = Some (codes "old");
  timeout = Some 1;
  message = Some (codes "/boot/none");
  sections =
      record (section_at 9 (codes "/boot/late") (codes "fifteen-letters")) { append = Some (codes "a=44"); vga = Some 771 } ∷
      record (section_at 13 (codes "/boot/k") (codes "old")) {
        mount = ReadWriteMount;
        append = Some (codes "a=29");
        vga = Some 771;
        fallback = Some (codes "fifteen-letters");
      } ∷ [];
}

-- lba32, compact, a prompt, 2 other systems, an alias, a lock
abbrev pub conf_logical_12 : Config
conf_logical_12 = record (plain_config) {
  compact = true;
  mode = Lba32Mode;
  default_name = Some (codes "dos");
  prompt = true;
  sections =
      record (section_at 8 (codes "/dev/hda1") (codes "b")) { other = Some (record { disk = 0; partition = 1 }); lock = true } ∷
      record (section_at 11 (codes "/dev/hdb") (codes "dos")) { other = Some (record { disk = 1; partition = 0 }); alias = Some (codes "5") } ∷ [];
}

-- linear, compact, a message, delay 1, timeout 7, an image, an initrd, a lock
abbrev pub conf_logical_13 : Config
conf_logical_13 = record (plain_config) {
  install = Some (codes "/boot/code");
  compact = true;
  mode = LinearMode;
  delay = 1;
  timeout = Some 7;
  message = Some (codes "/boot/mhole");
  sections =
      record (section_at 9 (codes "/boot/sub/k") (codes "dos")) { initrd = Some (codes "/boot/rdzero"); lock = true } ∷ [];
}

-- by cylinder, 3 images, another system, an initrd, an alias, a lock, a fallback, vga, root
abbrev pub conf_logical_14 : Config
conf_logical_14 = record (plain_config) {
  install = Some (codes "/boot/code");
  default_name = Some (codes "old");
  sections =
      record (section_at 7 (codes "/boot/k") (codes "fifteen-letters")) {
        initrd = Some (codes "/boot/rdhole");
        root = Some 773;
        mount = ReadOnlyMount;
        vga = Some 65533;
        lock = true;
      } ∷
      record (section_at 12 (codes "/boot/hole") (codes "old")) {
        alias = Some (codes "2");
        initrd = Some (codes "/boot/rdzero");
        mount = ReadOnlyMount;
        vga = Some 65533;
        fallback = Some (codes "fifteen-letters");
      } ∷
      record (section_at 17 (codes "/boot/k") (codes "safe")) { mount = ReadOnlyMount; vga = Some 65533; lock = true } ∷
      record (section_at 20 (codes "/dev/hdb5") (codes "b")) { other = Some (record { disk = 1; partition = 5 }); alias = Some (codes "1") } ∷ [];
}

-- linear, a prompt, delay 30, 4 images, an initrd, an alias, a lock, a fallback, literal, append, vga, root
abbrev pub conf_logical_15 : Config
conf_logical_15 = record (plain_config) {
  install = Some (codes "/boot/code");
  mode = LinearMode;
  default_name = Some (codes "b");
  delay = 30;
  prompt = true;
  sections =
      record (section_at 9 (codes "/boot/apart") (codes "fifteen-letters")) { root = Some 51845; vga = Some 0; fallback = Some (codes "fifteen-letters") } ∷
      record (section_at 13 (codes "/boot/late") (codes "b")) { alias = Some (codes "7"); root = Some 51845; append = Some (codes "a=77"); lock = true } ∷
      record (section_at 18 (codes "/boot/sub/k") (codes "old")) { root = Some 51845; mount = ReadWriteMount } ∷
      record (section_at 21 (codes "/boot/k") (codes "two")) {
        alias = Some (codes "4");
        initrd = Some (codes "/boot/rd");
        root = Some 773;
        mount = ReadWriteMount;
        append = Some (codes "a=58");
        literal = Some (codes "only this");
        lock = true;
      } ∷ [];
}

-- linear, compact, a message, a prompt, delay 30, timeout 0, 3 images, a fallback, literal, append, vga
abbrev pub conf_logical_16 : Config
conf_logical_16 = record (plain_config) {
  boot = Some (record { disk = 0; partition = 5 });
  install = Some (codes "/boot/code");
  compact = true;
  mode = LinearMode;
  default_name = Some (codes "dos");
  delay = 30;
  timeout = Some 0;
  prompt = true;
  message = Some (codes "/boot/mhole");
  sections =
      record (section_at 11 (codes "/boot/k") (codes "fifteen-letters")) { append = Some (codes "a=49"); literal = Some (codes "only this") } ∷
      section_at 15 (codes "/boot/apart") (codes "dos") ∷
      record (section_at 17 (codes "/boot/k") (codes "two")) { vga = Some 773; fallback = Some (codes "two s") } ∷ [];
}

-- lba32, compact, a message, a prompt, timeout 7, 2 images, another system, an initrd, an alias, a fallback, root
abbrev pub conf_logical_17 : Config
conf_logical_17 = record (plain_config) {
  boot = Some (record { disk = 0; partition = 5 });
  install = Some (codes "/boot/code");
  compact = true;
  mode = Lba32Mode;
  default_name = Some (codes "fifteen-letters");
  timeout = Some 7;
  prompt = true;
  message = Some (codes "/boot/none");
  sections =
      record (section_at 11 (codes "/boot/apart") (codes "two")) { alias = Some (codes "5"); root = Some 769; mount = ReadOnlyMount } ∷
      record (section_at 15 (codes "/boot/hole") (codes "dos")) {
        alias = Some (codes "7");
        initrd = Some (codes "/boot/rdhole");
        root = Some 773;
        mount = ReadOnlyMount;
        fallback = Some (codes "two");
      } ∷
      record (section_at 21 (codes "/dev/hdb") (codes "fifteen-letters")) {
        other = Some (record { disk = 1; partition = 0 });
        alias = Some (codes "4");
        fallback = Some (codes "two");
      } ∷ [];
}

-- by cylinder, a message, delay 65534, timeout 1, an image, another system, a password, restricted, a lock, literal,
-- append, vga
abbrev pub conf_logical_18 : Config
conf_logical_18 = record (plain_config) {
  install = Some (codes "/boot/code");
  delay = 65534;
  timeout = Some 1;
  message = Some (codes "/boot/mhole");
  sections =
      record (section_at 8 (codes "/boot/late") (codes "two")) {
        append = Some (codes "a=38");
        literal = Some (codes "only this");
        vga = Some 771;
        password = Some (codes "a b");
        restricted = true;
        optional = true;
      } ∷
      record (section_at 15 (codes "/dev/hda1") (codes "x")) {
        other = Some (record { disk = 0; partition = 1 });
        password = Some (codes "a b");
        optional = true;
        lock = true;
      } ∷ [];
}

-- linear, compact, a message, timeout 65534, 2 images, an initrd, a password, restricted, literal, append, vga
abbrev pub conf_logical_19 : Config
conf_logical_19 = record (plain_config) {
  install = Some (codes "/boot/code");
  compact = true;
  mode = LinearMode;
  timeout = Some 65534;
  message = Some (codes "/boot/none");
  sections =
      record (section_at 10 (codes "/boot/late") (codes "dos")) {
        initrd = Some (codes "/boot/none");
        append = Some (codes "quiet  x");
        literal = Some (codes "only this");
        vga = Some 771;
        optional = true;
      } ∷
      record (section_at 15 (codes "/boot/late") (codes "safe")) {
        initrd = Some (codes "/boot/rdhole");
        append = Some (codes "quiet  x");
        password = Some (codes "ppppppppppppppppppppppppppppppp");
        restricted = true;
        optional = true;
      } ∷ [];
}

-- linear, compact, a prompt, an image, an alias, append, vga
abbrev pub conf_logical_20 : Config
conf_logical_20 = record (plain_config) {
  boot = Some (record { disk = 0; partition = 5 });
  install = Some (codes "/boot/code");
  compact = true;
  mode = LinearMode;
  prompt = true;
  sections =
      record (section_at 8 (codes "/boot/late") (codes "old")) { alias = Some (codes "5"); append = Some (codes "a=43"); vga = Some 65533 } ∷ [];
}

-- linear, a message, a prompt, 2 images, an alias, a lock, root
abbrev pub conf_logical_21 : Config
conf_logical_21 = record (plain_config) {
  boot = Some (record { disk = 0; partition = 5 });
  install = Some (codes "/boot/code");
  mode = LinearMode;
  prompt = true;
  message = Some (codes "/boot/none");
  sections =
      record (section_at 8 (codes "/boot/k") (codes "b")) { root = Some 6844; lock = true } ∷
      record (section_at 11 (codes "/boot/sub/k") (codes "fifteen-letters")) { alias = Some (codes "7"); root = Some 6844; mount = ReadWriteMount } ∷ [];
}

-- lba32, delay 2, timeout 0, 2 images, another system, an alias, a table, a password, restricted, vga, root
abbrev pub conf_logical_22 : Config
conf_logical_22 = record (plain_config) {
  boot = Some (record { disk = 0; partition = 5 });
  install = Some (codes "/boot/code");
  mode = Lba32Mode;
  delay = 2;
  timeout = Some 0;
  sections =
      record (section_at 8 (codes "/boot/hole") (codes "dos")) { root = Some 773; mount = ReadWriteMount; vga = Some 773 } ∷
      record (section_at 13 (codes "/dev/hdb1") (codes "old")) {
        other = Some (record { disk = 1; partition = 1 });
        alias = Some (codes "aold");
        password = Some (codes "tux");
        restricted = true;
        table = Some (record { disk = 1; partition = 0 });
      } ∷
      record (section_at 19 (codes "/boot/late") (codes "two")) { alias = Some (codes "7"); mount = ReadOnlyMount; password = Some (codes "tux") } ∷ [];
}

-- lba32, a prompt, delay 1, an image, another system, an initrd, a fallback, root
abbrev pub conf_logical_23 : Config
conf_logical_23 = record (plain_config) {
  mode = Lba32Mode;
  default_name = Some (codes "x");
  delay = 1;
  prompt = true;
  sections =
      record (section_at 7 (codes "/dev/hdb5") (codes "dos")) { other = Some (record { disk = 1; partition = 5 }) } ∷
      record (section_at 9 (codes "/boot/late") (codes "x")) {
        initrd = Some (codes "/boot/none");
        root = Some 773;
        mount = ReadWriteMount;
        fallback = Some (codes "dos");
      } ∷ [];
}

-- lba32, a prompt, delay 1, an image, another system, an alias, a lock, a fallback, root
abbrev pub conf_logical_24 : Config
conf_logical_24 = record (plain_config) {
  install = Some (codes "/boot/code");
  mode = Lba32Mode;
  delay = 1;
  prompt = true;
  sections =
      record (section_at 7 (codes "/boot/apart") (codes "linux")) { alias = Some (codes "7"); root = Some 773; fallback = Some (codes "linux") } ∷
      record (section_at 12 (codes "/dev/hdb5") (codes "fifteen-letters")) { other = Some (record { disk = 1; partition = 5 }); lock = true } ∷ [];
}

-- linear, delay 65534, an image, an alias, a fallback
abbrev pub conf_logical_25 : Config
conf_logical_25 = record (plain_config) {
  mode = LinearMode;
  delay = 65534;
  sections =
      record (section_at 5 (codes "/boot/apart") (codes "safe")) { alias = Some (codes "asafe"); fallback = Some (codes "safe s") } ∷ [];
}

-- by cylinder, a message, a prompt, delay 65534, an image, one omitted, another system, an alias, a table, a password,
-- restricted, append, vga, root
abbrev pub conf_logical_26 : Config
conf_logical_26 = record (plain_config) {
  boot = Some (record { disk = 0; partition = 5 });
  install = Some (codes "/boot/code");
  default_name = Some (codes "old");
  delay = 65534;
  prompt = true;
  message = Some (codes "/boot/mhole");
  sections =
      record (section_at 10 (codes "/dev/hda1") (codes "old")) {
        other = Some (record { disk = 0; partition = 1 });
        alias = Some (codes "2");
        password = Some (codes "tux");
        restricted = true;
        table = Some (record { disk = 0; partition = 0 });
      } ∷
      record (section_at 16 (codes "/boot/gone") (codes "b")) {
        alias = Some (codes "4");
        root = Some 769;
        mount = ReadOnlyMount;
        append = Some (codes "a=66");
        vga = Some 773;
        password = Some (codes "top");
        optional = true;
      } ∷ [];
}

-- by cylinder, timeout 65534, another system, an alias, a table, a password, restricted, a fallback
abbrev pub conf_logical_27 : Config
conf_logical_27 = record (plain_config) {
  install = Some (codes "/boot/code");
  timeout = Some 65534;
  sections =
      record (section_at 5 (codes "/dev/hdb1") (codes "old")) {
        other = Some (record { disk = 1; partition = 1 });
        alias = Some (codes "aold");
        password = Some (codes "a b");
        restricted = true;
        fallback = Some (codes "old s");
        table = Some (record { disk = 1; partition = 0 });
      } ∷ [];
}

-- lba32, delay 2, 3 images, an initrd, a password, a fallback, literal, append, root
abbrev pub conf_logical_28 : Config
conf_logical_28 = record (plain_config) {
  boot = Some (record { disk = 0; partition = 5 });
  install = Some (codes "/boot/code");
  mode = Lba32Mode;
  default_name = Some (codes "old");
  delay = 2;
  sections =
      record (section_at 9 (codes "/boot/apart") (codes "safe")) {
        root = Some 3366;
        append = Some (codes "quiet  x");
        literal = Some (codes "only this");
        password = Some (codes "a b");
      } ∷
      record (section_at 13 (codes "/boot/k") (codes "old")) { initrd = Some (codes "/boot/rdhole"); root = Some 3366; append = Some (codes "quiet  x") } ∷
      record (section_at 16 (codes "/boot/sub/k") (codes "two")) {
        initrd = Some (codes "/boot/rd");
        root = Some 773;
        append = Some (codes "quiet  x");
        password = Some (codes "tux");
        fallback = Some (codes "two s");
      } ∷ [];
}

-- lba32, compact, a message, delay 30, timeout 65534, an image, a fallback, vga
abbrev pub conf_logical_29 : Config
conf_logical_29 = record (plain_config) {
  boot = Some (record { disk = 0; partition = 5 });
  install = Some (codes "/boot/code");
  compact = true;
  mode = Lba32Mode;
  delay = 30;
  timeout = Some 65534;
  message = Some (codes "/boot/mhole");
  sections =
      record (section_at 9 (codes "/boot/k") (codes "fifteen-letters")) {
        mount = ReadWriteMount;
        vga = Some 771;
        fallback = Some (codes "fifteen-letters s");
      } ∷ [];
}

-- lba32, compact, a prompt, 3 images, one omitted, an initrd, an alias, a password, restricted, a lock, literal, vga
abbrev pub conf_logical_30 : Config
conf_logical_30 = record (plain_config) {
  boot = Some (record { disk = 0; partition = 5 });
  compact = true;
  mode = Lba32Mode;
  prompt = true;
  sections =
      record (section_at 6 (codes "/boot/apart") (codes "fifteen-letters")) {
        mount = ReadWriteMount;
        vga = Some 771;
        password = Some (codes "a b");
        restricted = true;
        lock = true;
      } ∷
      record (section_at 13 (codes "/boot/gone") (codes "old")) {
        alias = Some (codes "6");
        initrd = Some (codes "/boot/none");
        literal = Some (codes "only this");
        optional = true;
      } ∷
      section_at 19 (codes "/boot/apart") (codes "x") ∷ [];
}

-- lba32, compact, 2 images, an alias, a password, a fallback, append, root
abbrev pub conf_logical_31 : Config
conf_logical_31 = record (plain_config) {
  install = Some (codes "/boot/code");
  compact = true;
  mode = Lba32Mode;
  sections =
      record (section_at 7 (codes "/boot/k") (codes "b")) {
        alias = Some (codes "1");
        root = Some 773;
        mount = ReadWriteMount;
        append = Some (codes "a=86");
        password = Some (codes "tux");
        fallback = Some (codes "safe s");
      } ∷
      record (section_at 15 (codes "/boot/k") (codes "safe")) { alias = Some (codes "2"); root = Some 19925 } ∷ [];
}

-- linear, compact, a prompt, delay 1, timeout 0, another system, an alias, a table, a fallback
abbrev pub conf_logical_32 : Config
conf_logical_32 = record (plain_config) {
  boot = Some (record { disk = 0; partition = 5 });
  compact = true;
  mode = LinearMode;
  delay = 1;
  timeout = Some 0;
  prompt = true;
  sections =
      record (section_at 8 (codes "/dev/hdb1") (codes "x")) {
        other = Some (record { disk = 1; partition = 1 });
        alias = Some (codes "ax");
        fallback = Some (codes "x s");
        table = Some (record { disk = 0; partition = 0 });
      } ∷ [];
}
