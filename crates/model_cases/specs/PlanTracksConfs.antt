-- What cases of plans begin with: configurations where tracks have 32 sectors. Written by tools/plan_cases.py.
use Rattle.std.specs.Prelude.{true, [], ◌∷◌, Some, codes}
use Rattle.lilo_model.specs.Conf.{Config, ReadOnlyMount, ReadWriteMount}
use Rattle.lilo_model.specs.Slots.{LinearMode, Lba32Mode}
use Rattle.model_cases.specs.Configs.{plain_config, section_at}

-- nineteen names, the last of which is the default
abbrev pub conf_tracks_1 : Config
conf_tracks_1 = record (plain_config) {
  install = Some (codes "/boot/code");
  mode = Lba32Mode;
  default_name = Some (codes "last");
  prompt = true;
  sections =
      record (section_at 7 (codes "/boot/k") (codes "n0")) { alias = Some (codes "a0"); vga = Some 0 } ∷
      record (section_at 11 (codes "/boot/k") (codes "n1")) { alias = Some (codes "a1"); vga = Some 1 } ∷
      record (section_at 15 (codes "/boot/k") (codes "n2")) { alias = Some (codes "a2"); vga = Some 2 } ∷
      record (section_at 19 (codes "/boot/k") (codes "n3")) { alias = Some (codes "a3"); vga = Some 3 } ∷
      record (section_at 23 (codes "/boot/k") (codes "n4")) { alias = Some (codes "a4"); vga = Some 4 } ∷
      record (section_at 27 (codes "/boot/k") (codes "n5")) { alias = Some (codes "a5"); vga = Some 5 } ∷
      record (section_at 31 (codes "/boot/k") (codes "n6")) { alias = Some (codes "a6"); vga = Some 6 } ∷
      record (section_at 35 (codes "/boot/k") (codes "n7")) { alias = Some (codes "a7"); vga = Some 7 } ∷
      record (section_at 39 (codes "/boot/k") (codes "n8")) { alias = Some (codes "a8"); vga = Some 8 } ∷
      record (section_at 43 (codes "/boot/k63") (codes "last")) { fallback = Some (codes "a8") } ∷ [];
}

-- 63 slots fill a section sector, 64 begin another
abbrev pub conf_tracks_2 : Config
conf_tracks_2 = record (plain_config) {
  install = Some (codes "/boot/code");
  mode = Lba32Mode;
  sections =
      section_at 5 (codes "/boot/k63") (codes "a") ∷
      record (section_at 7 (codes "/boot/k64") (codes "b")) { initrd = Some (codes "/boot/rd") } ∷ [];
}

-- the same by cylinder
abbrev pub conf_tracks_3 : Config
conf_tracks_3 = record (plain_config) {
  install = Some (codes "/boot/code");
  delay = 1;
  sections =
      record (section_at 5 (codes "/boot/k63") (codes "a")) { initrd = Some (codes "/boot/k64") } ∷
      section_at 8 (codes "/boot/link") (codes "b") ∷ [];
}

-- compact joins 127 sectors and no more
abbrev pub conf_tracks_4 : Config
conf_tracks_4 = record (plain_config) {
  install = Some (codes "/boot/code");
  compact = true;
  mode = Lba32Mode;
  sections = section_at 6 (codes "/boot/k142") (codes "a") ∷ [];
}

-- the same with linear addresses, and a message of 513 bytes
abbrev pub conf_tracks_5 : Config
conf_tracks_5 = record (plain_config) {
  install = Some (codes "/boot/code");
  compact = true;
  mode = LinearMode;
  prompt = true;
  message = Some (codes "/boot/m513");
  sections = record (section_at 8 (codes "/boot/k142") (codes "a")) { alias = Some (codes "1") } ∷ [];
}

-- compact by cylinder joins what lies on a track
abbrev pub conf_tracks_6 : Config
conf_tracks_6 = record (plain_config) {
  install = Some (codes "/boot/code");
  compact = true;
  sections = record (section_at 5 (codes "/boot/k142") (codes "a")) { initrd = Some (codes "/boot/k63") } ∷ [];
}

-- 142 sectors one by one, with two links
abbrev pub conf_tracks_7 : Config
conf_tracks_7 = record (plain_config) { install = Some (codes "/boot/code"); sections = section_at 4 (codes "/boot/k142") (codes "a") ∷ [] }

-- the default is counted over what is left, two of whose sections are omitted
abbrev pub conf_tracks_8 : Config
conf_tracks_8 = record (plain_config) {
  install = Some (codes "/boot/code");
  mode = Lba32Mode;
  default_name = Some (codes "cc");
  sections =
      record (section_at 6 (codes "/boot/gone") (codes "a")) { alias = Some (codes "aa"); optional = true } ∷
      section_at 10 (codes "/boot/k") (codes "b") ∷
      record (section_at 12 (codes "/boot/gone") (codes "x")) { optional = true } ∷
      record (section_at 15 (codes "/boot/k63") (codes "c")) { alias = Some (codes "cc") } ∷ [];
}

-- video modes 0 and normal, and one that is typed
abbrev pub conf_tracks_9 : Config
conf_tracks_9 = record (plain_config) {
  install = Some (codes "/boot/code");
  mode = Lba32Mode;
  timeout = Some 0;
  prompt = true;
  sections =
      record (section_at 7 (codes "/boot/k") (codes "a")) { vga = Some 0 } ∷
      record (section_at 10 (codes "/boot/k") (codes "b")) { vga = Some 65535 } ∷
      section_at 13 (codes "/boot/k") (codes "c") ∷ [];
}

-- every byte of a section: a fallback, a password, a lock by keys, an alias and a table
abbrev pub conf_tracks_10 : Config
conf_tracks_10 = record (plain_config) {
  install = Some (codes "/boot/code");
  prompt = true;
  message = Some (codes "/boot/msg");
  sections =
      record (section_at 6 (codes "/dev/hdb5") (codes "dos")) {
        other = Some (record { disk = 1; partition = 5 });
        alias = Some (codes "d");
        password = Some (codes "ppppppppppppppppppppppppppppppp");
        restricted = true;
        fallback = Some (codes "x y");
        table = Some (record { disk = 1; partition = 1 });
      } ∷
      record (section_at 13 (codes "/boot/v3") (codes "x")) { initrd = Some (codes "/boot/rd") } ∷ [];
}

-- by cylinder, a message, an image, a lock, vga
abbrev pub conf_tracks_11 : Config
conf_tracks_11 = record (plain_config) {
  boot = Some (record { disk = 0; partition = 2 });
  install = Some (codes "/boot/code");
  message = Some (codes "/boot/m513");
  sections =
      record (section_at 6 (codes "/boot/link") (codes "fifteen-letters")) { mount = ReadOnlyMount; vga = Some 773; lock = true } ∷ [];
}

-- lba32, compact, a message, delay 65534, timeout 65534, 2 images, one omitted, 2 other systems, an initrd, an alias, a
-- table, a password, a fallback, literal, append, root
abbrev pub conf_tracks_12 : Config
conf_tracks_12 = record (plain_config) {
  boot = Some (record { disk = 0; partition = 1 });
  install = Some (codes "/boot/code");
  compact = true;
  mode = Lba32Mode;
  delay = 65534;
  timeout = Some 65534;
  message = Some (codes "/boot/m513");
  sections =
      record (section_at 10 (codes "/dev/hdb5") (codes "x")) {
        other = Some (record { disk = 1; partition = 5 });
        table = Some (record { disk = 1; partition = 0 });
      } ∷
      record (section_at 13 (codes "/boot/v3") (codes "two")) {
        alias = Some (codes "7");
        append = Some (codes "quiet  x");
        literal = Some (codes "only this");
        password = Some (codes "tux");
        fallback = Some (codes "x");
      } ∷
      record (section_at 19 (codes "/boot/gone") (codes "fifteen-letters")) {
        initrd = Some (codes "/boot/msg");
        root = Some 769;
        append = Some (codes "quiet  x");
        optional = true;
      } ∷
      record (section_at 24 (codes "/dev/hdb5") (codes "old")) { other = Some (record { disk = 1; partition = 5 }); fallback = Some (codes "old s") } ∷ [];
}

-- linear, compact, a prompt, delay 65534, an image, a lock, vga
abbrev pub conf_tracks_13 : Config
conf_tracks_13 = record (plain_config) {
  install = Some (codes "/boot/code");
  compact = true;
  mode = LinearMode;
  delay = 65534;
  prompt = true;
  sections =
      record (section_at 10 (codes "/boot/apart") (codes "fifteen-letters")) { mount = ReadOnlyMount; vga = Some 773; lock = true } ∷ [];
}

-- linear, compact, timeout 1, an image, a password, restricted, append
abbrev pub conf_tracks_14 : Config
conf_tracks_14 = record (plain_config) {
  boot = Some (record { disk = 0; partition = 2 });
  compact = true;
  mode = LinearMode;
  timeout = Some 1;
  sections =
      record (section_at 7 (codes "/boot/apart") (codes "x")) { append = Some (codes "quiet  x"); password = Some (codes "tux"); restricted = true } ∷ [];
}

-- by cylinder, a prompt, delay 65534, an image, another system, an alias, a table, a password, restricted, literal
abbrev pub conf_tracks_15 : Config
conf_tracks_15 = record (plain_config) {
  boot = Some (record { disk = 0; partition = 2 });
  install = Some (codes "/boot/code");
  default_name = Some (codes "old");
  delay = 65534;
  prompt = true;
  sections =
      record (section_at 9 (codes "/boot/apart") (codes "old")) { literal = Some (codes "only this"); password = Some (codes "top"); optional = true } ∷
      record (section_at 12 (codes "/dev/hdb") (codes "dos")) {
        other = Some (record { disk = 1; partition = 0 });
        alias = Some (codes "3");
        password = Some (codes "ppppppppppppppppppppppppppppppp");
        restricted = true;
        optional = true;
        table = Some (record { disk = 1; partition = 0 });
      } ∷ [];
}

-- linear, a prompt, an image, 2 other systems, an initrd, a table, a lock, a fallback, append, vga
abbrev pub conf_tracks_16 : Config
conf_tracks_16 = record (plain_config) {
  boot = Some (record { disk = 0; partition = 2 });
  install = Some (codes "/boot/code");
  mode = LinearMode;
  prompt = true;
  sections =
      record (section_at 7 (codes "/dev/hdb1") (codes "old")) {
        other = Some (record { disk = 1; partition = 1 });
        lock = true;
        table = Some (record { disk = 1; partition = 1 });
      } ∷
      record (section_at 11 (codes "/dev/hdb5") (codes "b")) {
        other = Some (record { disk = 1; partition = 5 });
        table = Some (record { disk = 1; partition = 0 });
      } ∷
      record (section_at 14 (codes "/boot/setup8") (codes "dos")) {
        initrd = Some (codes "/boot/msg");
        mount = ReadWriteMount;
        append = Some (codes "a=12");
        vga = Some 65533;
        fallback = Some (codes "old");
      } ∷ [];
}

-- linear, a prompt, timeout 7, 3 images, another system, an initrd, an alias, a table, a fallback, literal, vga, root
abbrev pub conf_tracks_17 : Config
conf_tracks_17 = record (plain_config) {
  boot = Some (record { disk = 0; partition = 1 });
  install = Some (codes "/boot/code");
  mode = LinearMode;
  default_name = Some (codes "b");
  timeout = Some 7;
  prompt = true;
  sections =
      record (section_at 9 (codes "/boot/setup8") (codes "linux")) {
        initrd = Some (codes "/boot/rd");
        mount = ReadOnlyMount;
        literal = Some (codes "only this");
        fallback = Some (codes "linux");
      } ∷
      record (section_at 14 (codes "/dev/hdb") (codes "b")) {
        other = Some (record { disk = 1; partition = 0 });
        alias = Some (codes "3");
        table = Some (record { disk = 1; partition = 0 });
      } ∷
      record (section_at 18 (codes "/boot/apart") (codes "dos")) {
        alias = Some (codes "ados");
        root = Some 769;
        mount = ReadOnlyMount;
        fallback = Some (codes "two s");
      } ∷
      record (section_at 23 (codes "/boot/k64") (codes "two")) { initrd = Some (codes "/boot/msg"); mount = ReadOnlyMount; vga = Some 65535 } ∷ [];
}

-- lba32, a message, a prompt, delay 30, timeout 65534, an image, another system, an alias, a fallback, append, vga
abbrev pub conf_tracks_18 : Config
conf_tracks_18 = record (plain_config) {
  boot = Some (record { disk = 0; partition = 2 });
  install = Some (codes "/boot/code");
  mode = Lba32Mode;
  default_name = Some (codes "safe");
  delay = 30;
  timeout = Some 65534;
  prompt = true;
  message = Some (codes "/boot/m513");
  sections =
      record (section_at 12 (codes "/boot/setup8") (codes "safe")) {
        alias = Some (codes "6");
        append = Some (codes "a=52");
        vga = Some 65533;
        fallback = Some (codes "safe");
      } ∷
      record (section_at 17 (codes "/dev/hdb") (codes "x")) {
        other = Some (record { disk = 1; partition = 0 });
        alias = Some (codes "5");
        fallback = Some (codes "safe");
      } ∷ [];
}

-- linear, a prompt, timeout 65534, another system, an alias, a password
abbrev pub conf_tracks_19 : Config
conf_tracks_19 = record (plain_config) {
  install = Some (codes "/boot/code");
  mode = LinearMode;
  default_name = Some (codes "x");
  timeout = Some 65534;
  prompt = true;
  sections =
      record (section_at 10 (codes "/dev/hdb") (codes "x")) {
        other = Some (record { disk = 1; partition = 0 });
        alias = Some (codes "5");
        password = Some (codes "tux");
      } ∷ [];
}

-- lba32, delay 2, timeout 65534, an image, an alias, a password, literal, append, vga
abbrev pub conf_tracks_20 : Config
conf_tracks_20 = record (plain_config) {
  boot = Some (record { disk = 0; partition = 1 });
  install = Some (codes "/boot/code");
  mode = Lba32Mode;
  default_name = Some (codes "linux");
  delay = 2;
  timeout = Some 65534;
  sections =
      record (section_at 9 (codes "/boot/apart") (codes "linux")) {
        alias = Some (codes "7");
        mount = ReadWriteMount;
        append = Some (codes "a=90");
        literal = Some (codes "only this");
        vga = Some 65533;
        password = Some (codes "tux");
      } ∷ [];
}

-- by cylinder, timeout 7, 2 images, another system, an initrd, an alias, a password, a lock, a fallback, vga, root
abbrev pub conf_tracks_21 : Config
conf_tracks_21 = record (plain_config) {
  install = Some (codes "/boot/code");
  timeout = Some 7;
  sections =
      record (section_at 6 (codes "/boot/setup8") (codes "safe")) {
        alias = Some (codes "3");
        initrd = Some (codes "/boot/rd");
        root = Some 769;
        vga = Some 0;
        password = Some (codes "a b");
        fallback = Some (codes "fifteen-letters s");
      } ∷
      record (section_at 14 (codes "/boot/setup8") (codes "x")) { initrd = Some (codes "/boot/rd"); vga = Some 65533; fallback = Some (codes "safe") } ∷
      record (section_at 18 (codes "/dev/hdb5") (codes "fifteen-letters")) {
        other = Some (record { disk = 1; partition = 5 });
        alias = Some (codes "2");
        lock = true;
      } ∷ [];
}

-- by cylinder, a prompt, 4 images, an initrd, an alias, a password, restricted, a fallback, append, vga
abbrev pub conf_tracks_22 : Config
conf_tracks_22 = record (plain_config) {
  boot = Some (record { disk = 0; partition = 1 });
  install = Some (codes "/boot/code");
  default_name = Some (codes "old");
  prompt = true;
  sections =
      record (section_at 8 (codes "/boot/setup8") (codes "fifteen-letters")) {
        initrd = Some (codes "/boot/msg");
        mount = ReadOnlyMount;
        append = Some (codes "a=51");
        password = Some (codes "tux");
      } ∷
      record (section_at 13 (codes "/boot/k64") (codes "linux")) { initrd = Some (codes "/boot/rd"); mount = ReadWriteMount; password = Some (codes "top") } ∷
      record (section_at 17 (codes "/boot/short") (codes "safe")) {
        mount = ReadOnlyMount;
        vga = Some 65535;
        password = Some (codes "top");
        fallback = Some (codes "old s");
      } ∷
      record (section_at 21 (codes "/boot/short") (codes "old")) {
        alias = Some (codes "1");
        initrd = Some (codes "/boot/rd");
        mount = ReadOnlyMount;
        password = Some (codes "a b");
        restricted = true;
        fallback = Some (codes "fifteen-letters");
      } ∷ [];
}

-- by cylinder, delay 2, timeout 1, an image, a fallback, vga, root
abbrev pub conf_tracks_23 : Config
conf_tracks_23 = record (plain_config) {
  boot = Some (record { disk = 0; partition = 2 });
  delay = 2;
  timeout = Some 1;
  sections =
      record (section_at 6 (codes "/boot/short") (codes "old")) {
        root = Some 773;
        mount = ReadOnlyMount;
        vga = Some 771;
        fallback = Some (codes "old s");
      } ∷ [];
}

-- by cylinder, compact, a prompt, delay 1, an image, another system, an initrd, a password, restricted, a fallback,
-- append, root
abbrev pub conf_tracks_24 : Config
conf_tracks_24 = record (plain_config) {
  compact = true;
  default_name = Some (codes "fifteen-letters");
  delay = 1;
  prompt = true;
  sections =
      record (section_at 9 (codes "/boot/link") (codes "two")) {
        initrd = Some (codes "/boot/rd");
        root = Some 773;
        mount = ReadWriteMount;
        append = Some (codes "a=12");
        password = Some (codes "a b");
      } ∷
      record (section_at 16 (codes "/dev/hdb1") (codes "fifteen-letters")) {
        other = Some (record { disk = 1; partition = 1 });
        password = Some (codes "tux");
        restricted = true;
        fallback = Some (codes "two");
      } ∷ [];
}

-- lba32, compact, a message, a prompt, an image, an initrd, a fallback, root
abbrev pub conf_tracks_25 : Config
conf_tracks_25 = record (plain_config) {
  boot = Some (record { disk = 0; partition = 1 });
  install = Some (codes "/boot/code");
  compact = true;
  mode = Lba32Mode;
  prompt = true;
  message = Some (codes "/boot/m513");
  sections =
      record (section_at 8 (codes "/boot/link") (codes "safe")) {
        initrd = Some (codes "/boot/msg");
        root = Some 773;
        mount = ReadWriteMount;
        fallback = Some (codes "safe");
      } ∷ [];
}

-- lba32, a message, a prompt, 2 other systems, a lock
abbrev pub conf_tracks_26 : Config
conf_tracks_26 = record (plain_config) {
  boot = Some (record { disk = 0; partition = 1 });
  mode = Lba32Mode;
  prompt = true;
  message = Some (codes "/boot/msg");
  sections =
      record (section_at 8 (codes "/dev/hdb") (codes "linux")) { other = Some (record { disk = 1; partition = 0 }); lock = true } ∷
      record (section_at 11 (codes "/dev/hdb5") (codes "fifteen-letters")) { other = Some (record { disk = 1; partition = 5 }) } ∷ [];
}

-- lba32, compact, a prompt, delay 2, timeout 1, 3 images, another system, an initrd, an alias, a lock, literal, append,
-- root
abbrev pub conf_tracks_27 : Config
conf_tracks_27 = record (plain_config) {
  install = Some (codes "/boot/code");
  compact = true;
  mode = Lba32Mode;
  default_name = Some (codes "x");
  delay = 2;
  timeout = Some 1;
  prompt = true;
  sections =
      record (section_at 11 (codes "/boot/short") (codes "two")) {
        root = Some 31320;
        mount = ReadWriteMount;
        literal = Some (codes "only this");
        lock = true;
      } ∷
      record (section_at 16 (codes "/dev/hda1") (codes "fifteen-letters")) {
        other = Some (record { disk = 0; partition = 1 });
        alias = Some (codes "afifteen-l");
      } ∷
      record (section_at 19 (codes "/boot/v3") (codes "x")) {
        alias = Some (codes "1");
        initrd = Some (codes "/boot/msg");
        root = Some 31320;
        append = Some (codes "a=35");
      } ∷
      record (section_at 24 (codes "/boot/k63") (codes "old")) { alias = Some (codes "aold"); initrd = Some (codes "/boot/msg"); root = Some 31320 } ∷ [];
}

-- by cylinder, 4 images, a password, a fallback, literal, root
abbrev pub conf_tracks_28 : Config
conf_tracks_28 = record (plain_config) {
  install = Some (codes "/boot/code");
  sections =
      record (section_at 5 (codes "/boot/setup8") (codes "linux")) { root = Some 773; literal = Some (codes "only this"); optional = true } ∷
      record (section_at 9 (codes "/boot/k63") (codes "x")) { optional = true } ∷
      record (section_at 11 (codes "/boot/k63") (codes "dos")) { password = Some (codes "tux"); optional = true; fallback = Some (codes "linux") } ∷
      record (section_at 15 (codes "/boot/apart") (codes "two")) {
        root = Some 769;
        mount = ReadWriteMount;
        optional = true;
        fallback = Some (codes "linux");
      } ∷ [];
}

-- lba32, compact, a message, a prompt, timeout 65534, 2 images, an initrd, an alias, a password, restricted, a lock, a
-- fallback, append
abbrev pub conf_tracks_29 : Config
conf_tracks_29 = record (plain_config) {
  boot = Some (record { disk = 0; partition = 2 });
  compact = true;
  mode = Lba32Mode;
  default_name = Some (codes "two");
  timeout = Some 65534;
  prompt = true;
  message = Some (codes "/boot/msg");
  sections =
      record (section_at 11 (codes "/boot/low") (codes "two")) {
        alias = Some (codes "5");
        mount = ReadOnlyMount;
        append = Some (codes "a=98");
        password = Some (codes "top");
        fallback = Some (codes "two");
      } ∷
      record (section_at 16 (codes "/boot/apart") (codes "safe")) {
        initrd = Some (codes "/boot/rd");
        mount = ReadOnlyMount;
        append = Some (codes "a=88");
        password = Some (codes "a b");
        restricted = true;
        lock = true;
      } ∷ [];
}

-- lba32, compact, a message, a prompt, delay 2, timeout 7, 3 images, another system, an initrd, an alias, a table, a
-- password, a fallback, append, vga, root
abbrev pub conf_tracks_30 : Config
conf_tracks_30 = record (plain_config) {
  install = Some (codes "/boot/code");
  compact = true;
  mode = Lba32Mode;
  delay = 2;
  timeout = Some 7;
  prompt = true;
  message = Some (codes "/boot/msg");
  sections =
      record (section_at 11 (codes "/boot/k64") (codes "safe")) { root = Some 769; mount = ReadOnlyMount; append = Some (codes "a=46"); vga = Some 773 } ∷
      record (section_at 16 (codes "/dev/hda1") (codes "b")) {
        other = Some (record { disk = 0; partition = 1 });
        table = Some (record { disk = 1; partition = 1 });
      } ∷
      record (section_at 19 (codes "/boot/k") (codes "two")) {
        alias = Some (codes "3");
        initrd = Some (codes "/boot/msg");
        mount = ReadWriteMount;
        password = Some (codes "tux");
        fallback = Some (codes "safe");
      } ∷
      record (section_at 26 (codes "/boot/link") (codes "old")) { mount = ReadOnlyMount; password = Some (codes "ppppppppppppppppppppppppppppppp") } ∷ [];
}

-- by cylinder, compact, a message, timeout 1, an image, an initrd, a password, a fallback
abbrev pub conf_tracks_31 : Config
conf_tracks_31 = record (plain_config) {
  boot = Some (record { disk = 0; partition = 2 });
  compact = true;
  default_name = Some (codes "b");
  timeout = Some 1;
  message = Some (codes "/boot/msg");
  sections =
      record (section_at 8 (codes "/boot/link") (codes "b")) {
        initrd = Some (codes "/boot/rd");
        mount = ReadOnlyMount;
        password = Some (codes "ppppppppppppppppppppppppppppppp");
        fallback = Some (codes "b s");
      } ∷ [];
}

-- by cylinder, compact, timeout 7, 2 images, an initrd, an alias, a lock, root
abbrev pub conf_tracks_32 : Config
conf_tracks_32 = record (plain_config) {
  boot = Some (record { disk = 0; partition = 1 });
  install = Some (codes "/boot/code");
  compact = true;
  timeout = Some 7;
  sections =
      record (section_at 6 (codes "/boot/setup8") (codes "linux")) {
        alias = Some (codes "4");
        initrd = Some (codes "/boot/msg");
        mount = ReadWriteMount;
        lock = true;
      } ∷
      record (section_at 12 (codes "/boot/apart") (codes "x")) { initrd = Some (codes "/boot/msg"); root = Some 769; mount = ReadWriteMount } ∷ [];
}

-- by cylinder, compact, delay 65534, 2 images, another system, an initrd, a password, a fallback, append, vga, root
abbrev pub conf_tracks_33 : Config
conf_tracks_33 = record (plain_config) {
  boot = Some (record { disk = 0; partition = 2 });
  install = Some (codes "/boot/code");
  compact = true;
  default_name = Some (codes "b");
  delay = 65534;
  sections =
      record (section_at 9 (codes "/dev/hdb") (codes "old")) { other = Some (record { disk = 1; partition = 0 }) } ∷
      record (section_at 11 (codes "/boot/setup8") (codes "fifteen-letters")) {
        initrd = Some (codes "/boot/rd");
        root = Some 58694;
        append = Some (codes "a=82");
        vga = Some 65533;
        fallback = Some (codes "b s");
      } ∷
      record (section_at 16 (codes "/boot/setup8") (codes "b")) {
        root = Some 773;
        append = Some (codes "a=16");
        vga = Some 65533;
        password = Some (codes "tux");
        fallback = Some (codes "old");
      } ∷ [];
}

-- lba32, compact, a message, a prompt, an image, another system, an initrd, an alias, a password, a fallback, append,
-- root
abbrev pub conf_tracks_34 : Config
conf_tracks_34 = record (plain_config) {
  boot = Some (record { disk = 0; partition = 2 });
  install = Some (codes "/boot/code");
  compact = true;
  mode = Lba32Mode;
  prompt = true;
  message = Some (codes "/boot/msg");
  sections =
      record (section_at 11 (codes "/dev/hdb1") (codes "dos")) {
        other = Some (record { disk = 1; partition = 1 });
        alias = Some (codes "2");
        fallback = Some (codes "dos");
      } ∷
      record (section_at 15 (codes "/boot/k") (codes "old")) {
        initrd = Some (codes "/boot/msg");
        root = Some 55658;
        mount = ReadOnlyMount;
        append = Some (codes "quiet  x");
        password = Some (codes "tux");
      } ∷ [];
}

-- by cylinder, compact, a prompt, timeout 65534, an image, an initrd, a fallback, literal, vga, root
abbrev pub conf_tracks_35 : Config
conf_tracks_35 = record (plain_config) {
  boot = Some (record { disk = 0; partition = 1 });
  install = Some (codes "/boot/code");
  compact = true;
  timeout = Some 65534;
  prompt = true;
  sections =
      record (section_at 8 (codes "/boot/short") (codes "b")) {
        initrd = Some (codes "/boot/msg");
        root = Some 773;
        literal = Some (codes "only this");
        vga = Some 65533;
        fallback = Some (codes "b s");
      } ∷ [];
}

-- linear, compact, a message, another system, an alias, a lock
abbrev pub conf_tracks_36 : Config
conf_tracks_36 = record (plain_config) {
  install = Some (codes "/boot/code");
  compact = true;
  mode = LinearMode;
  message = Some (codes "/boot/m513");
  sections =
      record (section_at 8 (codes "/dev/hda1") (codes "safe")) {
        other = Some (record { disk = 0; partition = 1 });
        alias = Some (codes "2");
        lock = true;
      } ∷ [];
}

-- lba32, compact, a prompt, delay 65534, 3 images, one omitted, an initrd, an alias, a password, a lock, a fallback,
-- append, root
abbrev pub conf_tracks_37 : Config
conf_tracks_37 = record (plain_config) {
  boot = Some (record { disk = 0; partition = 1 });
  install = Some (codes "/boot/code");
  compact = true;
  mode = Lba32Mode;
  default_name = Some (codes "dos");
  delay = 65534;
  prompt = true;
  sections =
      record (section_at 10 (codes "/boot/short") (codes "fifteen-letters")) {
        initrd = Some (codes "/boot/rd");
        append = Some (codes "quiet  x");
        lock = true;
      } ∷
      record (section_at 14 (codes "/boot/gone") (codes "two")) {
        alias = Some (codes "5");
        root = Some 769;
        append = Some (codes "quiet  x");
        password = Some (codes "tux");
        optional = true;
        fallback = Some (codes "fifteen-letters");
      } ∷
      record (section_at 21 (codes "/boot/low") (codes "dos")) { append = Some (codes "quiet  x") } ∷ [];
}

-- lba32, a message, 2 other systems, a table, a lock
abbrev pub conf_tracks_38 : Config
conf_tracks_38 = record (plain_config) {
  boot = Some (record { disk = 0; partition = 2 });
  install = Some (codes "/boot/code");
  mode = Lba32Mode;
  default_name = Some (codes "fifteen-letters");
  message = Some (codes "/boot/m513");
  sections =
      record (section_at 7 (codes "/dev/hdb") (codes "fifteen-letters")) { other = Some (record { disk = 1; partition = 0 }) } ∷
      record (section_at 9 (codes "/dev/hda1") (codes "linux")) {
        other = Some (record { disk = 0; partition = 1 });
        lock = true;
        table = Some (record { disk = 1; partition = 1 });
      } ∷ [];
}

-- linear, compact, a message, an image, 3 other systems, an alias, a table, a password, a lock, vga
abbrev pub conf_tracks_39 : Config
conf_tracks_39 = record (plain_config) {
  boot = Some (record { disk = 0; partition = 2 });
  install = Some (codes "/boot/code");
  compact = true;
  mode = LinearMode;
  default_name = Some (codes "linux");
  message = Some (codes "/boot/m513");
  sections =
      record (section_at 9 (codes "/dev/hda1") (codes "two")) {
        other = Some (record { disk = 0; partition = 1 });
        password = Some (codes "top");
        lock = true;
      } ∷
      record (section_at 12 (codes "/dev/hda1") (codes "x")) {
        other = Some (record { disk = 0; partition = 1 });
        alias = Some (codes "3");
        password = Some (codes "top");
        table = Some (record { disk = 1; partition = 0 });
      } ∷
      record (section_at 16 (codes "/dev/hdb5") (codes "linux")) {
        other = Some (record { disk = 1; partition = 5 });
        password = Some (codes "top");
        lock = true;
      } ∷
      record (section_at 19 (codes "/boot/low") (codes "old")) { alias = Some (codes "2"); vga = Some 0; password = Some (codes "top") } ∷ [];
}

-- lba32, compact, a prompt, timeout 65534, 2 images, one omitted, another system, an initrd, a lock, root
abbrev pub conf_tracks_40 : Config
conf_tracks_40 = record (plain_config) {
  install = Some (codes "/boot/code");
  compact = true;
  mode = Lba32Mode;
  timeout = Some 65534;
  prompt = true;
  sections =
      record (section_at 8 (codes "/boot/gone") (codes "linux")) { initrd = Some (codes "/boot/rd"); optional = true } ∷
      record (section_at 12 (codes "/dev/hda1") (codes "fifteen-letters")) { other = Some (record { disk = 0; partition = 1 }) } ∷
      record (section_at 14 (codes "/boot/v3") (codes "two")) { root = Some 769; lock = true } ∷ [];
}
