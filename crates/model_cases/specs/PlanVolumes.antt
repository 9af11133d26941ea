-- What cases of plans begin with: machines, volumes, and the first sectors of devices. Written by tools/plan_cases.py.
use Rattle.std.specs.Prelude.{ℕ, List, [], ◌∷◌, codes}
use Rattle.lilo_model.specs.Devices.{Device}
use Rattle.lilo_model.specs.Disks.{Machine}
use Rattle.lilo_model.specs.MinixLayout.{V1Short, V1Long, V2Short, V2Long}
use Rattle.lilo_model.specs.MinixParts.{Volume}
use Rattle.model_cases.specs.Sparse.{hex, piece, file, disk_with, machine_of}
use Rattle.model_cases.specs.Volumes.{sector_of_device, sectors_of_devices}

-- the sample configuration: its machine
abbrev pub machine_sample : Machine
machine_sample = machine_of (disk_with 4096 16 63 ∷ [])

-- the sample configuration: its volume
abbrev pub volume_sample : Volume
volume_sample = record {
  span = record { disk = 0; start = 64; count = 4032 };
  layout = record { kind = V1Long; inodes = 64; zones = 2016; imap = 1; zmap = 1; first = 6; max_size = 268966912; state = 1 };
}

-- the sample configuration: the first sectors of its devices
abbrev pub devices_sample : Device → List ℕ
devices_sample = sectors_of_devices []

-- no prompt, no timeout: its machine
abbrev pub machine_no_prompt : Machine
machine_no_prompt = machine_of (disk_with 4096 16 63 ∷ [])

-- no prompt, no timeout: its volume
abbrev pub volume_no_prompt : Volume
volume_no_prompt = record {
  span = record { disk = 0; start = 64; count = 4032 };
  layout = record { kind = V1Long; inodes = 64; zones = 2016; imap = 1; zmap = 1; first = 6; max_size = 268966912; state = 1 };
}

-- no prompt, no timeout: the first sectors of its devices
abbrev pub devices_no_prompt : Device → List ℕ
devices_no_prompt = sectors_of_devices []

-- a delay: its machine
abbrev pub machine_delayed : Machine
machine_delayed = machine_of (disk_with 4096 16 63 ∷ [])

-- a delay: its volume
abbrev pub volume_delayed : Volume
volume_delayed = record {
  span = record { disk = 0; start = 64; count = 4032 };
  layout = record { kind = V1Long; inodes = 64; zones = 2016; imap = 1; zmap = 1; first = 6; max_size = 268966912; state = 1 };
}

-- a delay: the first sectors of its devices
abbrev pub devices_delayed : Device → List ℕ
devices_delayed = sectors_of_devices []

-- compact: its machine
abbrev pub machine_compact : Machine
machine_compact = machine_of (disk_with 4096 16 63 ∷ [])

-- compact: its volume
abbrev pub volume_compact : Volume
volume_compact = record {
  span = record { disk = 0; start = 64; count = 4032 };
  layout = record { kind = V1Long; inodes = 64; zones = 2016; imap = 1; zmap = 1; first = 6; max_size = 268966912; state = 1 };
}

-- compact: the first sectors of its devices
abbrev pub devices_compact : Device → List ℕ
devices_compact = sectors_of_devices []

-- addresses by cylinder, head and sector: its machine
abbrev pub machine_chs : Machine
machine_chs = machine_of (disk_with 4096 16 63 ∷ [])

-- addresses by cylinder, head and sector: its volume
abbrev pub volume_chs : Volume
volume_chs = record {
  span = record { disk = 0; start = 64; count = 4032 };
  layout = record { kind = V1Long; inodes = 64; zones = 2016; imap = 1; zmap = 1; first = 6; max_size = 268966912; state = 1 };
}

-- addresses by cylinder, head and sector: the first sectors of its devices
abbrev pub devices_chs : Device → List ℕ
devices_chs = sectors_of_devices []

-- linear addresses: its machine
abbrev pub machine_linear : Machine
machine_linear = machine_of (disk_with 4096 16 63 ∷ [])

-- linear addresses: its volume
abbrev pub volume_linear : Volume
volume_linear = record {
  span = record { disk = 0; start = 64; count = 4032 };
  layout = record { kind = V1Long; inodes = 64; zones = 2016; imap = 1; zmap = 1; first = 6; max_size = 268966912; state = 1 };
}

-- linear addresses: the first sectors of its devices
abbrev pub devices_linear : Device → List ℕ
devices_linear = sectors_of_devices []

-- compact, by cylinder, head and sector: its machine
abbrev pub machine_compact_chs : Machine
machine_compact_chs = machine_of (disk_with 4096 16 63 ∷ [])

-- compact, by cylinder, head and sector: its volume
abbrev pub volume_compact_chs : Volume
volume_compact_chs = record {
  span = record { disk = 0; start = 64; count = 4032 };
  layout = record { kind = V1Long; inodes = 64; zones = 2016; imap = 1; zmap = 1; first = 6; max_size = 268966912; state = 1 };
}

-- compact, by cylinder, head and sector: the first sectors of its devices
abbrev pub devices_compact_chs : Device → List ℕ
devices_compact_chs = sectors_of_devices []

-- a hole in a kernel: its machine
abbrev pub machine_hole : Machine
machine_hole = machine_of (disk_with 4096 16 63 ∷ [])

-- a hole in a kernel: its volume
abbrev pub volume_hole : Volume
volume_hole = record {
  span = record { disk = 0; start = 64; count = 4032 };
  layout = record { kind = V1Long; inodes = 64; zones = 2016; imap = 1; zmap = 1; first = 6; max_size = 268966912; state = 1 };
}

-- a hole in a kernel: the first sectors of its devices
abbrev pub devices_hole : Device → List ℕ
devices_hole = sectors_of_devices []

-- a hole, and compact: its machine
abbrev pub machine_hole_compact : Machine
machine_hole_compact = machine_of (disk_with 4096 16 63 ∷ [])

-- a hole, and compact: its volume
abbrev pub volume_hole_compact : Volume
volume_hole_compact = record {
  span = record { disk = 0; start = 64; count = 4032 };
  layout = record { kind = V1Long; inodes = 64; zones = 2016; imap = 1; zmap = 1; first = 6; max_size = 268966912; state = 1 };
}

-- a hole, and compact: the first sectors of its devices
abbrev pub devices_hole_compact : Device → List ℕ
devices_hole_compact = sectors_of_devices []

-- a restricted password: its machine
abbrev pub machine_password : Machine
machine_password = machine_of (disk_with 4096 16 63 ∷ [])

-- a restricted password: its volume
abbrev pub volume_password : Volume
volume_password = record {
  span = record { disk = 0; start = 64; count = 4032 };
  layout = record { kind = V1Long; inodes = 64; zones = 2016; imap = 1; zmap = 1; first = 6; max_size = 268966912; state = 1 };
}

-- a restricted password: the first sectors of its devices
abbrev pub devices_password : Device → List ℕ
devices_password = sectors_of_devices []

-- a password for all: its machine
abbrev pub machine_all_password : Machine
machine_all_password = machine_of (disk_with 4096 16 63 ∷ [])

-- a password for all: its volume
abbrev pub volume_all_password : Volume
volume_all_password = record {
  span = record { disk = 0; start = 64; count = 4032 };
  layout = record { kind = V1Long; inodes = 64; zones = 2016; imap = 1; zmap = 1; first = 6; max_size = 268966912; state = 1 };
}

-- a password for all: the first sectors of its devices
abbrev pub devices_all_password : Device → List ℕ
devices_all_password = sectors_of_devices []

-- an alias, a fallback, texts and a video mode: its machine
abbrev pub machine_alias_fallback : Machine
machine_alias_fallback = machine_of (disk_with 4096 16 63 ∷ [])

-- an alias, a fallback, texts and a video mode: its volume
abbrev pub volume_alias_fallback : Volume
volume_alias_fallback = record {
  span = record { disk = 0; start = 64; count = 4032 };
  layout = record { kind = V1Long; inodes = 64; zones = 2016; imap = 1; zmap = 1; first = 6; max_size = 268966912; state = 1 };
}

-- an alias, a fallback, texts and a video mode: the first sectors of its devices
abbrev pub devices_alias_fallback : Device → List ℕ
devices_alias_fallback = sectors_of_devices []

-- a lock: its machine
abbrev pub machine_lock : Machine
machine_lock = machine_of (disk_with 4096 16 63 ∷ [])

-- a lock: its volume
abbrev pub volume_lock : Volume
volume_lock = record {
  span = record { disk = 0; start = 64; count = 4032 };
  layout = record { kind = V1Long; inodes = 64; zones = 2016; imap = 1; zmap = 1; first = 6; max_size = 268966912; state = 1 };
}

-- a lock: the first sectors of its devices
abbrev pub devices_lock : Device → List ℕ
devices_lock = sectors_of_devices []

-- a literal text and a message: its machine
abbrev pub machine_literal : Machine
machine_literal = machine_of (disk_with 4096 16 63 ∷ [])

-- a literal text and a message: its volume
abbrev pub volume_literal : Volume
volume_literal = record {
  span = record { disk = 0; start = 64; count = 4032 };
  layout = record { kind = V1Long; inodes = 64; zones = 2016; imap = 1; zmap = 1; first = 6; max_size = 268966912; state = 1 };
}

-- a literal text and a message: the first sectors of its devices
abbrev pub devices_literal : Device → List ℕ
devices_literal = sectors_of_devices []

-- an empty message: its machine
abbrev pub machine_empty_message : Machine
machine_empty_message = machine_of (disk_with 4096 16 63 ∷ [])

-- an empty message: its volume
abbrev pub volume_empty_message : Volume
volume_empty_message = record {
  span = record { disk = 0; start = 64; count = 4032 };
  layout = record { kind = V1Long; inodes = 64; zones = 2016; imap = 1; zmap = 1; first = 6; max_size = 268966912; state = 1 };
}

-- an empty message: the first sectors of its devices
abbrev pub devices_empty_message : Device → List ℕ
devices_empty_message = sectors_of_devices []

-- a kernel before the protocol: its machine
abbrev pub machine_low : Machine
machine_low = machine_of (disk_with 4096 16 63 ∷ [])

-- a kernel before the protocol: its volume
abbrev pub volume_low : Volume
volume_low = record {
  span = record { disk = 0; start = 64; count = 4032 };
  layout = record { kind = V1Long; inodes = 64; zones = 2016; imap = 1; zmap = 1; first = 6; max_size = 268966912; state = 1 };
}

-- a kernel before the protocol: the first sectors of its devices
abbrev pub devices_low : Device → List ℕ
devices_low = sectors_of_devices []

-- one with an initrd: its machine
abbrev pub machine_low_initrd : Machine
machine_low_initrd = machine_of (disk_with 4096 16 63 ∷ [])

-- one with an initrd: its volume
abbrev pub volume_low_initrd : Volume
volume_low_initrd = record {
  span = record { disk = 0; start = 64; count = 4032 };
  layout = record { kind = V1Long; inodes = 64; zones = 2016; imap = 1; zmap = 1; first = 6; max_size = 268966912; state = 1 };
}

-- one with an initrd: the first sectors of its devices
abbrev pub devices_low_initrd : Device → List ℕ
devices_low_initrd = sectors_of_devices []

-- no number of setup sectors: its machine
abbrev pub machine_row8 : Machine
machine_row8 = machine_of (disk_with 4096 16 63 ∷ [])

-- no number of setup sectors: its volume
abbrev pub volume_row8 : Volume
volume_row8 = record {
  span = record { disk = 0; start = 64; count = 4032 };
  layout = record { kind = V1Long; inodes = 64; zones = 2016; imap = 1; zmap = 1; first = 6; max_size = 268966912; state = 1 };
}

-- no number of setup sectors: the first sectors of its devices
abbrev pub devices_row8 : Device → List ℕ
devices_row8 = sectors_of_devices []

-- optional sections: its machine
abbrev pub machine_optional : Machine
machine_optional = machine_of (disk_with 4096 16 63 ∷ [])

-- optional sections: its volume
abbrev pub volume_optional : Volume
volume_optional = record {
  span = record { disk = 0; start = 64; count = 4032 };
  layout = record { kind = V1Long; inodes = 64; zones = 2016; imap = 1; zmap = 1; first = 6; max_size = 268966912; state = 1 };
}

-- optional sections: the first sectors of its devices
abbrev pub devices_optional : Device → List ℕ
devices_optional = sectors_of_devices []

-- two other systems: its machine
abbrev pub machine_other : Machine
machine_other = machine_of (disk_with 4096 16 63 ∷ disk_with 2000 4 17 ∷ [])

-- two other systems: its volume
abbrev pub volume_other : Volume
volume_other = record {
  span = record { disk = 0; start = 64; count = 4032 };
  layout = record { kind = V1Long; inodes = 64; zones = 2016; imap = 1; zmap = 1; first = 6; max_size = 268966912; state = 1 };
}

-- two other systems: the first sectors of its devices
abbrev pub devices_other : Device → List ℕ
devices_other =
    sectors_of_devices (sector_of_device (record { disk = 1; partition = 0 }) (file 512 (piece 3 (codes "DOS") ∷
    piece 446 (hex 14 0x80010203060506073f000000e803) ∷ piece 510 (hex 2 0x55aa) ∷ [])) ∷
    sector_of_device (record { disk = 1; partition = 1 })
    (file 512 (piece 3 (codes "WIN") ∷ piece 510 (hex 2 0x55aa) ∷ [])) ∷
    [])

-- the table of the boot device: its machine
abbrev pub machine_own_table : Machine
machine_own_table = machine_of (disk_with 4096 16 63 ∷ disk_with 2000 4 17 ∷ [])

-- the table of the boot device: its volume
abbrev pub volume_own_table : Volume
volume_own_table = record {
  span = record { disk = 0; start = 64; count = 4032 };
  layout = record { kind = V1Long; inodes = 64; zones = 2016; imap = 1; zmap = 1; first = 6; max_size = 268966912; state = 1 };
}

-- the table of the boot device: the first sectors of its devices
abbrev pub devices_own_table : Device → List ℕ
devices_own_table =
    sectors_of_devices (sector_of_device (record { disk = 0; partition = 0 }) (file 512 (piece 450 (hex 10 0x8100000040000000c00f) ∷
    piece 510 (hex 2 0x55aa) ∷ [])) ∷
    sector_of_device (record { disk = 1; partition = 1 })
    (file 512 (piece 3 (codes "WIN") ∷ piece 510 (hex 2 0x55aa) ∷ [])) ∷
    [])

-- links, an empty initrd, a short code: its machine
abbrev pub machine_link : Machine
machine_link = machine_of (disk_with 4096 16 63 ∷ [])

-- links, an empty initrd, a short code: its volume
abbrev pub volume_link : Volume
volume_link = record {
  span = record { disk = 0; start = 64; count = 4032 };
  layout = record { kind = V1Long; inodes = 64; zones = 2016; imap = 1; zmap = 1; first = 6; max_size = 268966912; state = 1 };
}

-- links, an empty initrd, a short code: the first sectors of its devices
abbrev pub devices_link : Device → List ℕ
devices_link = sectors_of_devices []

-- two section sectors: its machine
abbrev pub machine_two_chain : Machine
machine_two_chain = machine_of (disk_with 4096 16 63 ∷ [])

-- two section sectors: its volume
abbrev pub volume_two_chain : Volume
volume_two_chain = record {
  span = record { disk = 0; start = 64; count = 4032 };
  layout = record { kind = V1Long; inodes = 64; zones = 2016; imap = 1; zmap = 1; first = 6; max_size = 268966912; state = 1 };
}

-- two section sectors: the first sectors of its devices
abbrev pub devices_two_chain : Device → List ℕ
devices_two_chain = sectors_of_devices []

-- version 2 with short names: its machine
abbrev pub machine_v2_short : Machine
machine_v2_short = machine_of (disk_with 4096 16 63 ∷ [])

-- version 2 with short names: its volume
abbrev pub volume_v2_short : Volume
volume_v2_short = record {
  span = record { disk = 0; start = 64; count = 4032 };
  layout = record { kind = V2Short; inodes = 64; zones = 2016; imap = 1; zmap = 1; first = 8; max_size = 2147483647; state = 1 };
}

-- version 2 with short names: the first sectors of its devices
abbrev pub devices_v2_short : Device → List ℕ
devices_v2_short = sectors_of_devices []

-- version 1 with short names, odd geometry: its machine
abbrev pub machine_v1_short : Machine
machine_v1_short = machine_of (disk_with 2100 3 7 ∷ [])

-- version 1 with short names, odd geometry: its volume
abbrev pub volume_v1_short : Volume
volume_v1_short = record {
  span = record { disk = 0; start = 17; count = 2000 };
  layout = record { kind = V1Short; inodes = 32; zones = 1000; imap = 1; zmap = 1; first = 5; max_size = 268966912; state = 1 };
}

-- version 1 with short names, odd geometry: the first sectors of its devices
abbrev pub devices_v1_short : Device → List ℕ
devices_v1_short = sectors_of_devices []

-- a volume on its own partition boots: its machine
abbrev pub machine_whole : Machine
machine_whole = machine_of (disk_with 4096 16 63 ∷ [])

-- a volume on its own partition boots: its volume
abbrev pub volume_whole : Volume
volume_whole = record {
  span = record { disk = 0; start = 64; count = 4032 };
  layout = record { kind = V2Long; inodes = 64; zones = 2016; imap = 1; zmap = 1; first = 8; max_size = 2147483647; state = 1 };
}

-- a volume on its own partition boots: the first sectors of its devices
abbrev pub devices_whole : Device → List ℕ
devices_whole = sectors_of_devices []

-- compact, a message, an initrd, and two other systems, one with the table of the boot device: its machine
abbrev pub machine_full : Machine
machine_full = machine_of (disk_with 4096 16 63 ∷ disk_with 2000 4 17 ∷ [])

-- compact, a message, an initrd, and two other systems, one with the table of the boot device: its volume
abbrev pub volume_full : Volume
volume_full = record {
  span = record { disk = 0; start = 64; count = 4032 };
  layout = record { kind = V1Long; inodes = 64; zones = 2016; imap = 1; zmap = 1; first = 6; max_size = 268966912; state = 1 };
}

-- compact, a message, an initrd, and two other systems, one with the table of the boot device: the first sectors of its
-- devices
abbrev pub devices_full : Device → List ℕ
devices_full =
    sectors_of_devices (sector_of_device (record { disk = 0; partition = 0 }) (file 512 (piece 450 (hex 10 0x8100000040000000c00f) ∷
    piece 510 (hex 2 0x55aa) ∷ [])) ∷
    sector_of_device (record { disk = 1; partition = 0 })
    (file 512 (piece 3 (codes "DOS") ∷ piece 446 (hex 14 0x80010203060506073f000000e803) ∷ piece 510 (hex 2 0x55aa) ∷
    [])) ∷
    sector_of_device (record { disk = 1; partition = 1 })
    (file 512 (piece 3 (codes "WIN") ∷ piece 510 (hex 2 0x55aa) ∷ [])) ∷
    [])

-- more files, and another system: its machine
abbrev pub machine_many : Machine
machine_many = machine_of (disk_with 4096 16 63 ∷ disk_with 2000 4 17 ∷ [])

-- more files, and another system: its volume
abbrev pub volume_many : Volume
volume_many = record {
  span = record { disk = 0; start = 64; count = 4032 };
  layout = record { kind = V1Long; inodes = 64; zones = 2016; imap = 1; zmap = 1; first = 6; max_size = 268966912; state = 1 };
}

-- more files, and another system: the first sectors of its devices
abbrev pub devices_many : Device → List ℕ
devices_many =
    sectors_of_devices (sector_of_device (record { disk = 0; partition = 0 }) (file 512 (piece 450 (hex 10 0x8100000040000000c00f) ∷
    piece 510 (hex 2 0x55aa) ∷ [])) ∷
    sector_of_device (record { disk = 1; partition = 0 })
    (file 512 (piece 3 (codes "DOS") ∷ piece 446 (hex 14 0x80010203060506073f000000e803) ∷ piece 510 (hex 2 0x55aa) ∷
    [])) ∷
    sector_of_device (record { disk = 1; partition = 1 })
    (file 512 (piece 3 (codes "WIN") ∷ piece 510 (hex 2 0x55aa) ∷ [])) ∷
    [])

-- tracks of 32 sectors, short names, and a disk with logical partitions: its machine
abbrev pub machine_tracks : Machine
machine_tracks = machine_of (disk_with 3000 8 32 ∷ disk_with 500 4 17 ∷ [])

-- tracks of 32 sectors, short names, and a disk with logical partitions: its volume
abbrev pub volume_tracks : Volume
volume_tracks = record {
  span = record { disk = 0; start = 96; count = 2800 };
  layout = record { kind = V2Short; inodes = 40; zones = 1400; imap = 1; zmap = 1; first = 7; max_size = 2147483647; state = 1 };
}

-- tracks of 32 sectors, short names, and a disk with logical partitions: the first sectors of its devices
abbrev pub devices_tracks : Device → List ℕ
devices_tracks =
    sectors_of_devices (sector_of_device (record { disk = 0; partition = 0 }) (file 512 (piece 450 (hex 9 0x830000002000000028) ∷
    piece 466 (hex 10 0x8100000060000000f00a) ∷ piece 510 (hex 2 0x55aa) ∷ [])) ∷
    sector_of_device (record { disk = 0; partition = 1 })
    (file 512 (piece 3 (codes "FREE") ∷ piece 510 (hex 2 0x55aa) ∷ [])) ∷
    sector_of_device (record { disk = 1; partition = 0 })
    (file 512 (piece 3 (codes "MBR2") ∷ piece 450 (hex 9 0x060000001100000064) ∷
    piece 466 (hex 9 0x0500000096000000c8) ∷ piece 510 (hex 2 0x55aa) ∷ [])) ∷
    sector_of_device (record { disk = 1; partition = 1 })
    (file 512 (piece 3 (codes "FAT") ∷ piece 510 (hex 2 0x55aa) ∷ [])) ∷
    sector_of_device (record { disk = 1; partition = 5 })
    (file 512 (piece 3 (codes "LOGICAL") ∷ piece 510 (hex 2 0x55aa) ∷ [])) ∷
    [])

-- a volume in a logical partition, and files with holes: its machine
abbrev pub machine_logical : Machine
machine_logical = machine_of (disk_with 2600 4 17 ∷ disk_with 400 16 63 ∷ [])

-- a volume in a logical partition, and files with holes: its volume
abbrev pub volume_logical : Volume
volume_logical = record {
  span = record { disk = 0; start = 102; count = 2300 };
  layout = record { kind = V1Short; inodes = 32; zones = 1150; imap = 1; zmap = 1; first = 5; max_size = 268966912; state = 1 };
}

-- a volume in a logical partition, and files with holes: the first sectors of its devices
abbrev pub devices_logical : Device → List ℕ
devices_logical =
    sectors_of_devices (sector_of_device (record { disk = 0; partition = 0 }) (file 512 (piece 450 (hex 9 0x83000000110000001e) ∷
    piece 466 (hex 10 0x05000000440000006009) ∷ piece 510 (hex 2 0x55aa) ∷ [])) ∷
    sector_of_device (record { disk = 0; partition = 1 })
    (file 512 (piece 3 (codes "ROOT") ∷ piece 510 (hex 2 0x55aa) ∷ [])) ∷
    sector_of_device (record { disk = 1; partition = 0 })
    (file 512 (piece 3 (codes "MBR2") ∷ piece 450 (hex 9 0x060000001100000064) ∷
    piece 466 (hex 9 0x0500000096000000c8) ∷ piece 510 (hex 2 0x55aa) ∷ [])) ∷
    sector_of_device (record { disk = 1; partition = 1 })
    (file 512 (piece 3 (codes "FAT") ∷ piece 510 (hex 2 0x55aa) ∷ [])) ∷
    sector_of_device (record { disk = 1; partition = 5 })
    (file 512 (piece 3 (codes "LOGICAL") ∷ piece 510 (hex 2 0x55aa) ∷ [])) ∷
    [])
