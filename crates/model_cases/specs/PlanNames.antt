-- What cases of plans begin with: what has a name on volumes. Written by tools/plan_cases.py.
use Rattle.std.specs.Prelude.{[], ◌∷◌, ◌++◌, codes, replicate}
use Rattle.lilo_model.specs.MinixNames.{File, Link, Directory}
use Rattle.lilo_model.specs.MinixFindNames.{Names}
use Rattle.model_cases.specs.Sparse.{hex, piece, file}
use Rattle.model_cases.specs.Volumes.{named, things_at}

-- the sample configuration: what has a name on its volume
abbrev pub names_sample : Names
names_sample =
    things_at (named ((codes "boot") ∷ []) Directory ∷
    named ((codes "boot.b") ∷ (codes "boot") ∷ []) (File (file 512 (piece 0 (replicate 512 144) ∷ []))) ∷
    named ((codes "initrd") ∷ (codes "boot") ∷ []) (File (file 700 (piece 0 (replicate 700 165) ∷ []))) ∷
    named ((codes "vmlinuz") ∷ (codes "boot") ∷ [])
    (File (file 1029 (piece 497 (hex 1 0x01) ∷ piece 510 (hex 10 0x55aa0000486472530602) ∷ piece 529 (hex 1 0x01) ∷
    piece 556 (hex 4 0xffffff37) ∷ piece 568 (hex 1 0xff) ∷ piece 1024 (codes "HELLO") ∷ []))) ∷
    named ((codes "etc") ∷ []) Directory ∷
    named ((codes "lilo.conf") ∷ (codes "etc") ∷ []) (File (file 1 (piece 0 (codes "#") ∷ []))) ∷ [])

-- no prompt, no timeout: what has a name on its volume
abbrev pub names_no_prompt : Names
names_no_prompt =
    things_at (named ((codes "boot") ∷ []) Directory ∷
    named ((codes "boot.b") ∷ (codes "boot") ∷ []) (File (file 512 (piece 0 (replicate 512 144) ∷ []))) ∷
    named ((codes "initrd") ∷ (codes "boot") ∷ []) (File (file 700 (piece 0 (replicate 700 165) ∷ []))) ∷
    named ((codes "vmlinuz") ∷ (codes "boot") ∷ [])
    (File (file 1029 (piece 497 (hex 1 0x01) ∷ piece 510 (hex 10 0x55aa0000486472530602) ∷ piece 529 (hex 1 0x01) ∷
    piece 556 (hex 4 0xffffff37) ∷ piece 568 (hex 1 0xff) ∷ piece 1024 (codes "HELLO") ∷ []))) ∷
    named ((codes "etc") ∷ []) Directory ∷
    named ((codes "lilo.conf") ∷ (codes "etc") ∷ []) (File (file 1 (piece 0 (codes "#") ∷ []))) ∷ [])

-- a delay: what has a name on its volume
abbrev pub names_delayed : Names
names_delayed =
    things_at (named ((codes "boot") ∷ []) Directory ∷
    named ((codes "boot.b") ∷ (codes "boot") ∷ []) (File (file 512 (piece 0 (replicate 512 144) ∷ []))) ∷
    named ((codes "initrd") ∷ (codes "boot") ∷ []) (File (file 700 (piece 0 (replicate 700 165) ∷ []))) ∷
    named ((codes "vmlinuz") ∷ (codes "boot") ∷ [])
    (File (file 1029 (piece 497 (hex 1 0x01) ∷ piece 510 (hex 10 0x55aa0000486472530602) ∷ piece 529 (hex 1 0x01) ∷
    piece 556 (hex 4 0xffffff37) ∷ piece 568 (hex 1 0xff) ∷ piece 1024 (codes "HELLO") ∷ []))) ∷
    named ((codes "etc") ∷ []) Directory ∷
    named ((codes "lilo.conf") ∷ (codes "etc") ∷ []) (File (file 1 (piece 0 (codes "#") ∷ []))) ∷ [])

-- compact: what has a name on its volume
abbrev pub names_compact : Names
names_compact =
    things_at (named ((codes "boot") ∷ []) Directory ∷
    named ((codes "boot.b") ∷ (codes "boot") ∷ []) (File (file 512 (piece 0 (replicate 512 144) ∷ []))) ∷
    named ((codes "initrd") ∷ (codes "boot") ∷ []) (File (file 700 (piece 0 (replicate 700 165) ∷ []))) ∷
    named ((codes "vmlinuz") ∷ (codes "boot") ∷ [])
    (File (file 1029 (piece 497 (hex 1 0x01) ∷ piece 510 (hex 10 0x55aa0000486472530602) ∷ piece 529 (hex 1 0x01) ∷
    piece 556 (hex 4 0xffffff37) ∷ piece 568 (hex 1 0xff) ∷ piece 1024 (codes "HELLO") ∷ []))) ∷
    named ((codes "etc") ∷ []) Directory ∷
    named ((codes "lilo.conf") ∷ (codes "etc") ∷ []) (File (file 1 (piece 0 (codes "#") ∷ []))) ∷ [])

-- addresses by cylinder, head and sector: what has a name on its volume
abbrev pub names_chs : Names
names_chs =
    things_at (named ((codes "boot") ∷ []) Directory ∷
    named ((codes "boot.b") ∷ (codes "boot") ∷ []) (File (file 512 (piece 0 (replicate 512 144) ∷ []))) ∷
    named ((codes "initrd") ∷ (codes "boot") ∷ []) (File (file 700 (piece 0 (replicate 700 165) ∷ []))) ∷
    named ((codes "vmlinuz") ∷ (codes "boot") ∷ [])
    (File (file 1029 (piece 497 (hex 1 0x01) ∷ piece 510 (hex 10 0x55aa0000486472530602) ∷ piece 529 (hex 1 0x01) ∷
    piece 556 (hex 4 0xffffff37) ∷ piece 568 (hex 1 0xff) ∷ piece 1024 (codes "HELLO") ∷ []))) ∷
    named ((codes "etc") ∷ []) Directory ∷
    named ((codes "lilo.conf") ∷ (codes "etc") ∷ []) (File (file 1 (piece 0 (codes "#") ∷ []))) ∷ [])

-- linear addresses: what has a name on its volume
abbrev pub names_linear : Names
names_linear =
    things_at (named ((codes "boot") ∷ []) Directory ∷
    named ((codes "boot.b") ∷ (codes "boot") ∷ []) (File (file 512 (piece 0 (replicate 512 144) ∷ []))) ∷
    named ((codes "initrd") ∷ (codes "boot") ∷ []) (File (file 700 (piece 0 (replicate 700 165) ∷ []))) ∷
    named ((codes "vmlinuz") ∷ (codes "boot") ∷ [])
    (File (file 1029 (piece 497 (hex 1 0x01) ∷ piece 510 (hex 10 0x55aa0000486472530602) ∷ piece 529 (hex 1 0x01) ∷
    piece 556 (hex 4 0xffffff37) ∷ piece 568 (hex 1 0xff) ∷ piece 1024 (codes "HELLO") ∷ []))) ∷
    named ((codes "etc") ∷ []) Directory ∷
    named ((codes "lilo.conf") ∷ (codes "etc") ∷ []) (File (file 1 (piece 0 (codes "#") ∷ []))) ∷ [])

-- compact, by cylinder, head and sector: what has a name on its volume
abbrev pub names_compact_chs : Names
names_compact_chs =
    things_at (named ((codes "boot") ∷ []) Directory ∷
    named ((codes "boot.b") ∷ (codes "boot") ∷ []) (File (file 512 (piece 0 (replicate 512 144) ∷ []))) ∷
    named ((codes "initrd") ∷ (codes "boot") ∷ []) (File (file 700 (piece 0 (replicate 700 165) ∷ []))) ∷
    named ((codes "vmlinuz") ∷ (codes "boot") ∷ [])
    (File (file 1029 (piece 497 (hex 1 0x01) ∷ piece 510 (hex 10 0x55aa0000486472530602) ∷ piece 529 (hex 1 0x01) ∷
    piece 556 (hex 4 0xffffff37) ∷ piece 568 (hex 1 0xff) ∷ piece 1024 (codes "HELLO") ∷ []))) ∷
    named ((codes "etc") ∷ []) Directory ∷
    named ((codes "lilo.conf") ∷ (codes "etc") ∷ []) (File (file 1 (piece 0 (codes "#") ∷ []))) ∷ [])

-- a hole in a kernel: what has a name on its volume
abbrev pub names_hole : Names
names_hole =
    things_at (named ((codes "boot") ∷ []) Directory ∷
    named ((codes "boot.b") ∷ (codes "boot") ∷ []) (File (file 512 (piece 0 (replicate 512 144) ∷ []))) ∷
    named ((codes "initrd") ∷ (codes "boot") ∷ []) (File (file 700 (piece 0 (replicate 700 165) ∷ []))) ∷
    named ((codes "vmlinuz") ∷ (codes "boot") ∷ [])
    (File (file 4101 (piece 497 (hex 1 0x01) ∷ piece 510 (hex 10 0x55aa0000486472530602) ∷ piece 529 (hex 1 0x01) ∷
    piece 556 (hex 4 0xffffff37) ∷ piece 568 (hex 1 0xff) ∷ piece 1024 (replicate 1024 7) ∷
    piece 3072 (replicate 1029 7) ∷ []))) ∷
    named ((codes "etc") ∷ []) Directory ∷
    named ((codes "lilo.conf") ∷ (codes "etc") ∷ []) (File (file 1 (piece 0 (codes "#") ∷ []))) ∷ [])

-- a hole, and compact: what has a name on its volume
abbrev pub names_hole_compact : Names
names_hole_compact =
    things_at (named ((codes "boot") ∷ []) Directory ∷
    named ((codes "boot.b") ∷ (codes "boot") ∷ []) (File (file 512 (piece 0 (replicate 512 144) ∷ []))) ∷
    named ((codes "initrd") ∷ (codes "boot") ∷ []) (File (file 700 (piece 0 (replicate 700 165) ∷ []))) ∷
    named ((codes "vmlinuz") ∷ (codes "boot") ∷ [])
    (File (file 4101 (piece 497 (hex 1 0x01) ∷ piece 510 (hex 10 0x55aa0000486472530602) ∷ piece 529 (hex 1 0x01) ∷
    piece 556 (hex 4 0xffffff37) ∷ piece 568 (hex 1 0xff) ∷ piece 1024 (replicate 1024 7) ∷
    piece 3072 (replicate 1029 7) ∷ []))) ∷
    named ((codes "etc") ∷ []) Directory ∷
    named ((codes "lilo.conf") ∷ (codes "etc") ∷ []) (File (file 1 (piece 0 (codes "#") ∷ []))) ∷ [])

-- a restricted password: what has a name on its volume
abbrev pub names_password : Names
names_password =
    things_at (named ((codes "boot") ∷ []) Directory ∷
    named ((codes "boot.b") ∷ (codes "boot") ∷ []) (File (file 512 (piece 0 (replicate 512 144) ∷ []))) ∷
    named ((codes "initrd") ∷ (codes "boot") ∷ []) (File (file 700 (piece 0 (replicate 700 165) ∷ []))) ∷
    named ((codes "vmlinuz") ∷ (codes "boot") ∷ [])
    (File (file 1029 (piece 497 (hex 1 0x01) ∷ piece 510 (hex 10 0x55aa0000486472530602) ∷ piece 529 (hex 1 0x01) ∷
    piece 556 (hex 4 0xffffff37) ∷ piece 568 (hex 1 0xff) ∷ piece 1024 (codes "HELLO") ∷ []))) ∷
    named ((codes "etc") ∷ []) Directory ∷
    named ((codes "lilo.conf") ∷ (codes "etc") ∷ []) (File (file 1 (piece 0 (codes "#") ∷ []))) ∷ [])

-- a password for all: what has a name on its volume
abbrev pub names_all_password : Names
names_all_password =
    things_at (named ((codes "boot") ∷ []) Directory ∷
    named ((codes "boot.b") ∷ (codes "boot") ∷ []) (File (file 512 (piece 0 (replicate 512 144) ∷ []))) ∷
    named ((codes "initrd") ∷ (codes "boot") ∷ []) (File (file 700 (piece 0 (replicate 700 165) ∷ []))) ∷
    named ((codes "vmlinuz") ∷ (codes "boot") ∷ [])
    (File (file 1029 (piece 497 (hex 1 0x01) ∷ piece 510 (hex 10 0x55aa0000486472530602) ∷ piece 529 (hex 1 0x01) ∷
    piece 556 (hex 4 0xffffff37) ∷ piece 568 (hex 1 0xff) ∷ piece 1024 (codes "HELLO") ∷ []))) ∷
    named ((codes "etc") ∷ []) Directory ∷
    named ((codes "lilo.conf") ∷ (codes "etc") ∷ []) (File (file 1 (piece 0 (codes "#") ∷ []))) ∷ [])

-- an alias, a fallback, texts and a video mode: what has a name on its volume
abbrev pub names_alias_fallback : Names
names_alias_fallback =
    things_at (named ((codes "boot") ∷ []) Directory ∷
    named ((codes "boot.b") ∷ (codes "boot") ∷ []) (File (file 512 (piece 0 (replicate 512 144) ∷ []))) ∷
    named ((codes "initrd") ∷ (codes "boot") ∷ []) (File (file 700 (piece 0 (replicate 700 165) ∷ []))) ∷
    named ((codes "vmlinuz") ∷ (codes "boot") ∷ [])
    (File (file 1029 (piece 497 (hex 1 0x01) ∷ piece 510 (hex 10 0x55aa0000486472530602) ∷ piece 529 (hex 1 0x01) ∷
    piece 556 (hex 4 0xffffff37) ∷ piece 568 (hex 1 0xff) ∷ piece 1024 (codes "HELLO") ∷ []))) ∷
    named ((codes "etc") ∷ []) Directory ∷
    named ((codes "lilo.conf") ∷ (codes "etc") ∷ []) (File (file 1 (piece 0 (codes "#") ∷ []))) ∷ [])

-- a lock: what has a name on its volume
abbrev pub names_lock : Names
names_lock =
    things_at (named ((codes "boot") ∷ []) Directory ∷
    named ((codes "boot.b") ∷ (codes "boot") ∷ []) (File (file 512 (piece 0 (replicate 512 144) ∷ []))) ∷
    named ((codes "initrd") ∷ (codes "boot") ∷ []) (File (file 700 (piece 0 (replicate 700 165) ∷ []))) ∷
    named ((codes "vmlinuz") ∷ (codes "boot") ∷ [])
    (File (file 1029 (piece 497 (hex 1 0x01) ∷ piece 510 (hex 10 0x55aa0000486472530602) ∷ piece 529 (hex 1 0x01) ∷
    piece 556 (hex 4 0xffffff37) ∷ piece 568 (hex 1 0xff) ∷ piece 1024 (codes "HELLO") ∷ []))) ∷
    named ((codes "etc") ∷ []) Directory ∷
    named ((codes "lilo.conf") ∷ (codes "etc") ∷ []) (File (file 1 (piece 0 (codes "#") ∷ []))) ∷ [])

-- a literal text and a message: what has a name on its volume
abbrev pub names_literal : Names
names_literal =
    things_at (named ((codes "boot") ∷ []) Directory ∷
    named ((codes "boot.b") ∷ (codes "boot") ∷ []) (File (file 512 (piece 0 (replicate 512 144) ∷ []))) ∷
    named ((codes "initrd") ∷ (codes "boot") ∷ []) (File (file 700 (piece 0 (replicate 700 165) ∷ []))) ∷
    named ((codes "msg") ∷ (codes "boot") ∷ []) (File (file 12 (piece 0 (codes "Hello\nthere\n") ∷ []))) ∷
    named ((codes "vmlinuz") ∷ (codes "boot") ∷ [])
    (File (file 1029 (piece 497 (hex 1 0x01) ∷ piece 510 (hex 10 0x55aa0000486472530602) ∷ piece 529 (hex 1 0x01) ∷
    piece 556 (hex 4 0xffffff37) ∷ piece 568 (hex 1 0xff) ∷ piece 1024 (codes "HELLO") ∷ []))) ∷
    named ((codes "etc") ∷ []) Directory ∷
    named ((codes "lilo.conf") ∷ (codes "etc") ∷ []) (File (file 1 (piece 0 (codes "#") ∷ []))) ∷ [])

-- an empty message: what has a name on its volume
abbrev pub names_empty_message : Names
names_empty_message =
    things_at (named ((codes "boot") ∷ []) Directory ∷
    named ((codes "boot.b") ∷ (codes "boot") ∷ []) (File (file 512 (piece 0 (replicate 512 144) ∷ []))) ∷
    named ((codes "initrd") ∷ (codes "boot") ∷ []) (File (file 700 (piece 0 (replicate 700 165) ∷ []))) ∷
    named ((codes "msg") ∷ (codes "boot") ∷ []) (File []) ∷
    named ((codes "vmlinuz") ∷ (codes "boot") ∷ [])
    (File (file 1029 (piece 497 (hex 1 0x01) ∷ piece 510 (hex 10 0x55aa0000486472530602) ∷ piece 529 (hex 1 0x01) ∷
    piece 556 (hex 4 0xffffff37) ∷ piece 568 (hex 1 0xff) ∷ piece 1024 (codes "HELLO") ∷ []))) ∷
    named ((codes "etc") ∷ []) Directory ∷
    named ((codes "lilo.conf") ∷ (codes "etc") ∷ []) (File (file 1 (piece 0 (codes "#") ∷ []))) ∷ [])

-- a kernel before the protocol: what has a name on its volume
abbrev pub names_low : Names
names_low =
    things_at (named ((codes "boot") ∷ []) Directory ∷
    named ((codes "boot.b") ∷ (codes "boot") ∷ []) (File (file 512 (piece 0 (replicate 512 144) ∷ []))) ∷
    named ((codes "vmlinuz") ∷ (codes "boot") ∷ [])
    (File (file 1029 (piece 497 (hex 1 0x01) ∷ piece 510 (hex 2 0x55aa) ∷ piece 556 (hex 4 0xffffff37) ∷
    piece 568 (hex 1 0xff) ∷ piece 1024 (codes "HELLO") ∷ []))) ∷
    named ((codes "etc") ∷ []) Directory ∷
    named ((codes "lilo.conf") ∷ (codes "etc") ∷ []) (File (file 1 (piece 0 (codes "#") ∷ []))) ∷ [])

-- one with an initrd: what has a name on its volume
abbrev pub names_low_initrd : Names
names_low_initrd =
    things_at (named ((codes "boot") ∷ []) Directory ∷
    named ((codes "boot.b") ∷ (codes "boot") ∷ []) (File (file 512 (piece 0 (replicate 512 144) ∷ []))) ∷
    named ((codes "initrd") ∷ (codes "boot") ∷ []) (File (file 700 (piece 0 (replicate 700 165) ∷ []))) ∷
    named ((codes "vmlinuz") ∷ (codes "boot") ∷ [])
    (File (file 1029 (piece 497 (hex 1 0x01) ∷ piece 510 (hex 2 0x55aa) ∷ piece 556 (hex 4 0xffffff37) ∷
    piece 568 (hex 1 0xff) ∷ piece 1024 (codes "HELLO") ∷ []))) ∷
    named ((codes "etc") ∷ []) Directory ∷
    named ((codes "lilo.conf") ∷ (codes "etc") ∷ []) (File (file 1 (piece 0 (codes "#") ∷ []))) ∷ [])

-- no number of setup sectors: what has a name on its volume
abbrev pub names_row8 : Names
names_row8 =
    things_at (named ((codes "boot") ∷ []) Directory ∷
    named ((codes "boot.b") ∷ (codes "boot") ∷ []) (File (file 512 (piece 0 (replicate 512 144) ∷ []))) ∷
    named ((codes "vmlinuz") ∷ (codes "boot") ∷ [])
    (File (file 2565 (piece 510 (hex 10 0x55aa0000486472530602) ∷ piece 529 (hex 1 0x01) ∷
    piece 556 (hex 4 0xffffff37) ∷ piece 568 (hex 1 0xff) ∷ piece 2560 (codes "PMODE") ∷ []))) ∷
    named ((codes "etc") ∷ []) Directory ∷
    named ((codes "lilo.conf") ∷ (codes "etc") ∷ []) (File (file 1 (piece 0 (codes "#") ∷ []))) ∷ [])

-- optional sections: what has a name on its volume
abbrev pub names_optional : Names
names_optional =
    things_at (named ((codes "boot") ∷ []) Directory ∷
    named ((codes "boot.b") ∷ (codes "boot") ∷ []) (File (file 512 (piece 0 (replicate 512 144) ∷ []))) ∷
    named ((codes "initrd") ∷ (codes "boot") ∷ []) (File (file 700 (piece 0 (replicate 700 165) ∷ []))) ∷
    named ((codes "old") ∷ (codes "boot") ∷ [])
    (File (file 1600 (piece 497 (hex 1 0x01) ∷ piece 510 (hex 10 0x55aa0000486472530602) ∷ piece 529 (hex 1 0x01) ∷
    piece 556 (hex 4 0xffffff37) ∷ piece 568 (hex 1 0xff) ∷ piece 1024 (replicate 576 5) ∷ []))) ∷
    named ((codes "vmlinuz") ∷ (codes "boot") ∷ [])
    (File (file 1029 (piece 497 (hex 1 0x01) ∷ piece 510 (hex 10 0x55aa0000486472530602) ∷ piece 529 (hex 1 0x01) ∷
    piece 556 (hex 4 0xffffff37) ∷ piece 568 (hex 1 0xff) ∷ piece 1024 (codes "HELLO") ∷ []))) ∷
    named ((codes "etc") ∷ []) Directory ∷
    named ((codes "lilo.conf") ∷ (codes "etc") ∷ []) (File (file 1 (piece 0 (codes "#") ∷ []))) ∷ [])

-- two other systems: what has a name on its volume
abbrev pub names_other : Names
names_other =
    things_at (named ((codes "boot") ∷ []) Directory ∷
    named ((codes "boot.b") ∷ (codes "boot") ∷ []) (File (file 512 (piece 0 (replicate 512 144) ∷ []))) ∷
    named ((codes "initrd") ∷ (codes "boot") ∷ []) (File (file 700 (piece 0 (replicate 700 165) ∷ []))) ∷
    named ((codes "vmlinuz") ∷ (codes "boot") ∷ [])
    (File (file 1029 (piece 497 (hex 1 0x01) ∷ piece 510 (hex 10 0x55aa0000486472530602) ∷ piece 529 (hex 1 0x01) ∷
    piece 556 (hex 4 0xffffff37) ∷ piece 568 (hex 1 0xff) ∷ piece 1024 (codes "HELLO") ∷ []))) ∷
    named ((codes "etc") ∷ []) Directory ∷
    named ((codes "lilo.conf") ∷ (codes "etc") ∷ []) (File (file 1 (piece 0 (codes "#") ∷ []))) ∷ [])

-- the table of the boot device: what has a name on its volume
abbrev pub names_own_table : Names
names_own_table =
    things_at (named ((codes "boot") ∷ []) Directory ∷
    named ((codes "boot.b") ∷ (codes "boot") ∷ []) (File (file 512 (piece 0 (replicate 512 144) ∷ []))) ∷
    named ((codes "initrd") ∷ (codes "boot") ∷ []) (File (file 700 (piece 0 (replicate 700 165) ∷ []))) ∷
    named ((codes "vmlinuz") ∷ (codes "boot") ∷ [])
    (File (file 1029 (piece 497 (hex 1 0x01) ∷ piece 510 (hex 10 0x55aa0000486472530602) ∷ piece 529 (hex 1 0x01) ∷
    piece 556 (hex 4 0xffffff37) ∷ piece 568 (hex 1 0xff) ∷ piece 1024 (codes "HELLO") ∷ []))) ∷
    named ((codes "etc") ∷ []) Directory ∷
    named ((codes "lilo.conf") ∷ (codes "etc") ∷ []) (File (file 1 (piece 0 (codes "#") ∷ []))) ∷ [])

-- links, an empty initrd, a short code: what has a name on its volume
abbrev pub names_link : Names
names_link =
    things_at (named ((codes "boot") ∷ []) Directory ∷
    named ((codes "boot.b") ∷ (codes "boot") ∷ []) (File (file 200 (piece 0 (replicate 200 144) ∷ []))) ∷
    named ((codes "initrd") ∷ (codes "boot") ∷ []) (File []) ∷
    named ((codes "k1") ∷ (codes "boot") ∷ [])
    (File (file 1029 (piece 497 (hex 1 0x01) ∷ piece 510 (hex 10 0x55aa0000486472530602) ∷ piece 529 (hex 1 0x01) ∷
    piece 556 (hex 4 0xffffff37) ∷ piece 568 (hex 1 0xff) ∷ piece 1024 (codes "HELLO") ∷ []))) ∷
    named ((codes "vmlinuz") ∷ (codes "boot") ∷ []) (Link (codes "../l2")) ∷ named ((codes "etc") ∷ []) Directory ∷
    named ((codes "lilo.conf") ∷ (codes "etc") ∷ []) (File (file 1 (piece 0 (codes "#") ∷ []))) ∷
    named ((codes "l2") ∷ []) (Link (codes "/boot/k1")) ∷ [])

-- two section sectors: what has a name on its volume
abbrev pub names_two_chain : Names
names_two_chain =
    things_at (named ((codes "boot") ∷ []) Directory ∷
    named ((codes "boot.b") ∷ (codes "boot") ∷ []) (File (file 512 (piece 0 (replicate 512 144) ∷ []))) ∷
    named ((codes "vmlinuz") ∷ (codes "boot") ∷ [])
    (File (file 32768 (piece 497 (hex 1 0x01) ∷ piece 510 (hex 10 0x55aa0000486472530602) ∷ piece 529 (hex 1 0x01) ∷
    piece 556 (hex 4 0xffffff37) ∷ piece 568 (hex 1 0xff) ∷ piece 1024 (replicate 31744 5) ∷ []))) ∷
    named ((codes "etc") ∷ []) Directory ∷
    named ((codes "lilo.conf") ∷ (codes "etc") ∷ []) (File (file 1 (piece 0 (codes "#") ∷ []))) ∷ [])

-- version 2 with short names: what has a name on its volume
abbrev pub names_v2_short : Names
names_v2_short =
    things_at (named ((codes "boot") ∷ []) Directory ∷
    named ((codes "boot.b") ∷ (codes "boot") ∷ []) (File (file 512 (piece 0 (replicate 512 144) ∷ []))) ∷
    named ((codes "initrd") ∷ (codes "boot") ∷ []) (File (file 700 (piece 0 (replicate 700 165) ∷ []))) ∷
    named ((codes "vmlinuz") ∷ (codes "boot") ∷ [])
    (File (file 1029 (piece 497 (hex 1 0x01) ∷ piece 510 (hex 10 0x55aa0000486472530602) ∷ piece 529 (hex 1 0x01) ∷
    piece 556 (hex 4 0xffffff37) ∷ piece 568 (hex 1 0xff) ∷ piece 1024 (codes "HELLO") ∷ []))) ∷
    named ((codes "etc") ∷ []) Directory ∷
    named ((codes "lilo.conf") ∷ (codes "etc") ∷ []) (File (file 1 (piece 0 (codes "#") ∷ []))) ∷ [])

-- version 1 with short names, odd geometry: what has a name on its volume
abbrev pub names_v1_short : Names
names_v1_short =
    things_at (named ((codes "boot") ∷ []) Directory ∷
    named ((codes "boot.b") ∷ (codes "boot") ∷ []) (File (file 512 (piece 0 (replicate 512 144) ∷ []))) ∷
    named ((codes "initrd") ∷ (codes "boot") ∷ []) (File (file 700 (piece 0 (replicate 700 165) ∷ []))) ∷
    named ((codes "vmlinuz") ∷ (codes "boot") ∷ [])
    (File (file 1029 (piece 497 (hex 1 0x01) ∷ piece 510 (hex 10 0x55aa0000486472530602) ∷ piece 529 (hex 1 0x01) ∷
    piece 556 (hex 4 0xffffff37) ∷ piece 568 (hex 1 0xff) ∷ piece 1024 (codes "HELLO") ∷ []))) ∷
    named ((codes "etc") ∷ []) Directory ∷
    named ((codes "lilo.conf") ∷ (codes "etc") ∷ []) (File (file 1 (piece 0 (codes "#") ∷ []))) ∷ [])

-- a volume on its own partition boots: what has a name on its volume
abbrev pub names_whole : Names
names_whole =
    things_at (named ((codes "boot") ∷ []) Directory ∷
    named ((codes "boot.b") ∷ (codes "boot") ∷ []) (File (file 512 (piece 0 (replicate 512 144) ∷ []))) ∷
    named ((codes "initrd") ∷ (codes "boot") ∷ []) (File (file 700 (piece 0 (replicate 700 165) ∷ []))) ∷
    named ((codes "vmlinuz") ∷ (codes "boot") ∷ [])
    (File (file 1029 (piece 497 (hex 1 0x01) ∷ piece 510 (hex 10 0x55aa0000486472530602) ∷ piece 529 (hex 1 0x01) ∷
    piece 556 (hex 4 0xffffff37) ∷ piece 568 (hex 1 0xff) ∷ piece 1024 (codes "HELLO") ∷ []))) ∷
    named ((codes "etc") ∷ []) Directory ∷
    named ((codes "lilo.conf") ∷ (codes "etc") ∷ []) (File (file 1 (piece 0 (codes "#") ∷ []))) ∷ [])

-- compact, a message, an initrd, and two other systems, one with the table of the boot device: what has a name on its
-- volume
abbrev pub names_full : Names
names_full =
    things_at (named ((codes "boot") ∷ []) Directory ∷
    named ((codes "boot.b") ∷ (codes "boot") ∷ []) (File (file 512 (piece 0 (replicate 512 144) ∷ []))) ∷
    named ((codes "initrd") ∷ (codes "boot") ∷ []) (File (file 700 (piece 0 (replicate 700 165) ∷ []))) ∷
    named ((codes "msg") ∷ (codes "boot") ∷ []) (File (file 6 (piece 0 (codes "Hello\n") ∷ []))) ∷
    named ((codes "vmlinuz") ∷ (codes "boot") ∷ [])
    (File (file 1029 (piece 497 (hex 1 0x01) ∷ piece 510 (hex 10 0x55aa0000486472530602) ∷ piece 529 (hex 1 0x01) ∷
    piece 556 (hex 4 0xffffff37) ∷ piece 568 (hex 1 0xff) ∷ piece 1024 (codes "HELLO") ∷ []))) ∷
    named ((codes "etc") ∷ []) Directory ∷
    named ((codes "lilo.conf") ∷ (codes "etc") ∷ []) (File (file 1 (piece 0 (codes "#") ∷ []))) ∷ [])

-- more files, and another system: what has a name on its volume
abbrev pub names_many : Names
names_many =
    things_at (named ((codes "boot") ∷ []) Directory ∷
    named ((codes "boot.b") ∷ (codes "boot") ∷ []) (File (file 512 (piece 0 (replicate 512 144) ∷ []))) ∷
    named ((codes "hole") ∷ (codes "boot") ∷ [])
    (File (file 4101 (piece 497 (hex 1 0x01) ∷ piece 510 (hex 10 0x55aa0000486472530602) ∷ piece 529 (hex 1 0x01) ∷
    piece 556 (hex 4 0xffffff37) ∷ piece 568 (hex 1 0xff) ∷ piece 1024 (replicate 1024 7) ∷
    piece 3072 (replicate 1029 7) ∷ []))) ∷
    named ((codes "initrd") ∷ (codes "boot") ∷ []) (File (file 700 (piece 0 (replicate 700 165) ∷ []))) ∷
    named ((codes "k2") ∷ (codes "boot") ∷ [])
    (File (file 1600 (piece 497 (hex 1 0x01) ∷ piece 510 (hex 10 0x55aa0000486472530602) ∷ piece 529 (hex 1 0x01) ∷
    piece 556 (hex 4 0xffffff37) ∷ piece 568 (hex 1 0xff) ∷ piece 1024 (replicate 576 5) ∷ []))) ∷
    named ((codes "long") ∷ (codes "boot") ∷ [])
    (File (file 33000 (piece 497 (hex 1 0x01) ∷ piece 510 (hex 10 0x55aa0000486472530602) ∷ piece 529 (hex 1 0x01) ∷
    piece 556 (hex 4 0xffffff37) ∷ piece 568 (hex 1 0xff) ∷ piece 1024 (replicate 31976 5) ∷ []))) ∷
    named ((codes "low") ∷ (codes "boot") ∷ [])
    (File (file 1029 (piece 497 (hex 1 0x01) ∷ piece 510 (hex 2 0x55aa) ∷ piece 556 (hex 4 0xffffff37) ∷
    piece 568 (hex 1 0xff) ∷ piece 1024 (codes "HELLO") ∷ []))) ∷
    named ((codes "msg") ∷ (codes "boot") ∷ []) (File (file 12 (piece 0 (codes "Hello\nthere\n") ∷ []))) ∷
    named ((codes "none") ∷ (codes "boot") ∷ []) (File []) ∷
    named ((codes "rd2") ∷ (codes "boot") ∷ []) (File (file 1500 (piece 0 (replicate 1500 17) ∷ []))) ∷
    named ((codes "row8") ∷ (codes "boot") ∷ [])
    (File (file 2565 (piece 510 (hex 10 0x55aa0000486472530602) ∷ piece 529 (hex 1 0x01) ∷
    piece 556 (hex 4 0xffffff37) ∷ piece 568 (hex 1 0xff) ∷ piece 2560 (codes "PMODE") ∷ []))) ∷
    named ((codes "vmlinuz") ∷ (codes "boot") ∷ [])
    (File (file 1029 (piece 497 (hex 1 0x01) ∷ piece 510 (hex 10 0x55aa0000486472530602) ∷ piece 529 (hex 1 0x01) ∷
    piece 556 (hex 4 0xffffff37) ∷ piece 568 (hex 1 0xff) ∷ piece 1024 (codes "HELLO") ∷ []))) ∷
    named ((codes "etc") ∷ []) Directory ∷
    named ((codes "lilo.conf") ∷ (codes "etc") ∷ []) (File (file 1 (piece 0 (codes "#") ∷ []))) ∷
    named ((codes "k") ∷ []) (Link (codes "boot/k2")) ∷ [])

-- tracks of 32 sectors, short names, and a disk with logical partitions: what has a name on its volume
abbrev pub names_tracks : Names
names_tracks =
    things_at (named ((codes "boot") ∷ []) Directory ∷
    named ((codes "apart") ∷ (codes "boot") ∷ [])
    (File (file 5500 (piece 497 (hex 1 0x01) ∷ piece 510 (hex 10 0x55aa0000486472530602) ∷ piece 529 (hex 1 0x01) ∷
    piece 556 (hex 4 0xffffff37) ∷ piece 568 (hex 1 0xff) ∷ piece 1024 (replicate 4476 5) ∷ []))) ∷
    named ((codes "code") ∷ (codes "boot") ∷ [])
    (File (file 650 (piece 0 (hex 40 0x0102030405060708090a0b0c0d0e0f101112131415161718191a1b1c1d1e1f202122232425262728
    ++ hex 40 0x292a2b2c2d2e2f303132333435363738393a3b3c3d3e3f404142434445464748494a4b4c4d4e4f50
    ++ hex 40 0x5152535455565758595a5b5c5d5e5f606162636465666768696a6b6c6d6e6f707172737475767778
    ++ hex 40 0x797a7b7c7d7e7f808182838485868788898a8b8c8d8e8f909192939495969798999a9b9c9d9e9fa0
    ++ hex 40 0xa1a2a3a4a5a6a7a8a9aaabacadaeafb0b1b2b3b4b5b6b7b8b9babbbcbdbebfc0c1c2c3c4c5c6c7c8
    ++ hex 40 0xc9cacbcccdcecfd0d1d2d3d4d5d6d7d8d9dadbdcdddedfe0e1e2e3e4e5e6e7e8e9eaebecedeeeff0
    ++ hex 10 0xf1f2f3f4f5f6f7f8f9fa ++ replicate 400 67) ∷
    []))) ∷
    named ((codes "k") ∷ (codes "boot") ∷ [])
    (File (file 1029 (piece 497 (hex 1 0x01) ∷ piece 510 (hex 10 0x55aa0000486472530602) ∷ piece 529 (hex 1 0x01) ∷
    piece 556 (hex 4 0xffffff37) ∷ piece 568 (hex 1 0xff) ∷ piece 1024 (codes "HELLO") ∷ []))) ∷
    named ((codes "k142") ∷ (codes "boot") ∷ [])
    (File (file 72701 (piece 497 (hex 1 0x01) ∷ piece 510 (hex 10 0x55aa0000486472530602) ∷ piece 529 (hex 1 0x01) ∷
    piece 556 (hex 4 0xffffff37) ∷ piece 568 (hex 1 0xff) ∷ piece 1024 (replicate 71677 11) ∷ []))) ∷
    named ((codes "k63") ∷ (codes "boot") ∷ [])
    (File (file 32256 (piece 497 (hex 1 0x01) ∷ piece 510 (hex 10 0x55aa0000486472530602) ∷ piece 529 (hex 1 0x01) ∷
    piece 556 (hex 4 0xffffff37) ∷ piece 568 (hex 1 0xff) ∷ piece 1024 (replicate 31232 3) ∷ []))) ∷
    named ((codes "k64") ∷ (codes "boot") ∷ [])
    (File (file 32668 (piece 497 (hex 1 0x01) ∷ piece 510 (hex 10 0x55aa0000486472530602) ∷ piece 529 (hex 1 0x01) ∷
    piece 556 (hex 4 0xffffff37) ∷ piece 568 (hex 1 0xff) ∷ piece 1024 (replicate 31644 4) ∷ []))) ∷
    named ((codes "link") ∷ (codes "boot") ∷ []) (Link (codes "/boot/k64")) ∷
    named ((codes "low") ∷ (codes "boot") ∷ [])
    (File (file 2000 (piece 497 (hex 1 0x01) ∷ piece 510 (hex 2 0x55aa) ∷ piece 556 (hex 4 0xffffff37) ∷
    piece 568 (hex 1 0xff) ∷ piece 1024 (replicate 976 2) ∷ []))) ∷
    named ((codes "m513") ∷ (codes "boot") ∷ []) (File (file 513 (piece 0 (replicate 513 109) ∷ []))) ∷
    named ((codes "msg") ∷ (codes "boot") ∷ []) (File (file 10 (piece 0 (codes "Pick one:\n") ∷ []))) ∷
    named ((codes "rd") ∷ (codes "boot") ∷ []) (File (file 700 (piece 0 (replicate 700 165) ∷ []))) ∷
    named ((codes "setup8") ∷ (codes "boot") ∷ [])
    (File (file 4685 (piece 497 (hex 1 0x08) ∷ piece 510 (hex 10 0x55aa0000486472530602) ∷ piece 529 (hex 1 0x01) ∷
    piece 556 (hex 4 0xffffff37) ∷ piece 568 (hex 1 0xff) ∷ piece 1024 (replicate 3661 8) ∷ []))) ∷
    named ((codes "short") ∷ (codes "boot") ∷ [])
    (File (file 1600 (piece 497 (hex 1 0x01) ∷ piece 510 (hex 10 0x55aa0000486472530602) ∷ piece 529 (hex 1 0x01) ∷
    piece 556 (hex 4 0xffffff37) ∷ piece 568 (codes "(") ∷ piece 1024 (replicate 576 9) ∷ []))) ∷
    named ((codes "v3") ∷ (codes "boot") ∷ [])
    (File (file 1300 (piece 497 (hex 1 0x01) ∷ piece 510 (hex 10 0x55aa0000486472530302) ∷ piece 529 (hex 1 0x01) ∷
    piece 556 (hex 3 0xffff2f) ∷ piece 568 (hex 1 0xff) ∷ piece 1024 (replicate 276 6) ∷ []))) ∷
    named ((codes "etc") ∷ []) Directory ∷
    named ((codes "lilo.conf") ∷ (codes "etc") ∷ []) (File (file 1 (piece 0 (codes "#") ∷ []))) ∷ [])

-- a volume in a logical partition, and files with holes: what has a name on its volume
abbrev pub names_logical : Names
names_logical =
    things_at (named ((codes "boot") ∷ []) Directory ∷
    named ((codes "apart") ∷ (codes "boot") ∷ [])
    (File (file 4000 (piece 497 (hex 1 0x01) ∷ piece 510 (hex 10 0x55aa0000486472530602) ∷ piece 529 (hex 1 0x01) ∷
    piece 556 (hex 4 0xffffff37) ∷ piece 568 (hex 1 0xff) ∷ piece 1024 (replicate 2976 5) ∷ []))) ∷
    named ((codes "code") ∷ (codes "boot") ∷ []) (File (file 440 (piece 0 (replicate 440 195) ∷ []))) ∷
    named ((codes "hole") ∷ (codes "boot") ∷ [])
    (File (file 7000 (piece 497 (hex 1 0x01) ∷ piece 510 (hex 10 0x55aa0000486472530602) ∷ piece 529 (hex 1 0x01) ∷
    piece 556 (hex 4 0xffffff37) ∷ piece 568 (hex 1 0xff) ∷ piece 1024 (replicate 1024 7) ∷
    piece 4096 (replicate 2048 7) ∷ []))) ∷
    named ((codes "k") ∷ (codes "boot") ∷ []) (Link (codes "../boot/sub/../sub/k")) ∷
    named ((codes "late") ∷ (codes "boot") ∷ [])
    (File (file 1025 (piece 497 (hex 1 0x01) ∷ piece 510 (hex 10 0x55aa0000486472530002) ∷ piece 529 (hex 1 0x01) ∷
    piece 556 (hex 4 0xffffff37) ∷ piece 568 (hex 1 0xff) ∷ piece 1024 (hex 1 0x01) ∷ []))) ∷
    named ((codes "mhole") ∷ (codes "boot") ∷ [])
    (File (file 1204 (piece 0 (codes "Hi") ∷ piece 1202 (codes "!\n") ∷ []))) ∷
    named ((codes "none") ∷ (codes "boot") ∷ []) (File []) ∷
    named ((codes "rd") ∷ (codes "boot") ∷ []) (File (file 513 (piece 0 (replicate 513 165) ∷ []))) ∷
    named ((codes "rdhole") ∷ (codes "boot") ∷ [])
    (File (file 3796 (piece 1024 (replicate 1000 82) ∷ piece 3096 (replicate 700 114) ∷ []))) ∷
    named ((codes "rdzero") ∷ (codes "boot") ∷ []) (File (file 3072 [])) ∷
    named ((codes "sub") ∷ (codes "boot") ∷ []) Directory ∷
    named ((codes "k") ∷ (codes "sub") ∷ (codes "boot") ∷ [])
    (File (file 1029 (piece 497 (hex 1 0x01) ∷ piece 510 (hex 10 0x55aa0000486472530602) ∷ piece 529 (hex 1 0x01) ∷
    piece 556 (hex 4 0xffffff37) ∷ piece 568 (hex 1 0xff) ∷ piece 1024 (codes "HELLO") ∷ []))) ∷
    named ((codes "lilo.conf") ∷ []) (File (file 1 (piece 0 (codes "#") ∷ []))) ∷ [])
