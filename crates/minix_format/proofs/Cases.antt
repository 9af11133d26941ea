-- Layouts of empty volumes.
use Rattle.std.proofs.Common.{◌≡◌, ℕ, Some, None, refl}
use Rattle.lilo_model.specs.MinixLayout.{Kind, V1Short, V1Long, V2Short, V2Long, Super}
use Rattle.ldisk_model.specs.MinixFormat.{new_layout, has_room, format_layout}

abbrev laid : Kind → ℕ → ℕ → ℕ → ℕ → ℕ → ℕ → Super
laid kind inodes zones imap zmap first max_size = record {
  kind = kind;
  inodes = inodes;
  zones = zones;
  imap = imap;
  zmap = zmap;
  first = first;
  max_size = max_size;
  state = 1;
}

-- 64 inodes are 2 blocks of the table in version 1
floppy : format_layout V1Short 2048 64 ≡ Some (laid V1Short 64 1024 1 1 6 268966912)
unfolding format_layout has_room new_layout
floppy = refl

partition : format_layout V1Long 4032 64 ≡ Some (laid V1Long 64 2016 1 1 6 268966912)
unfolding format_layout has_room new_layout
partition = refl

version_2 : format_layout V2Short 4032 64 ≡ Some (laid V2Short 64 2016 1 1 8 2147483647)
unfolding format_layout has_room new_layout
version_2 = refl

-- an odd sector is no zone
odd : format_layout V2Long 4097 1 ≡ Some (laid V2Long 1 2048 1 1 5 2147483647)
unfolding format_layout has_room new_layout
odd = refl

-- 6 zones are the fewest: five blocks come before the first data zone
smallest : format_layout V1Short 12 1 ≡ Some (laid V1Short 1 6 1 1 5 268966912)
unfolding format_layout has_room new_layout
smallest = refl

too_small : format_layout V1Short 11 1 ≡ None
unfolding format_layout has_room new_layout
too_small = refl

nothing : format_layout V1Short 0 1 ≡ None
unfolding format_layout has_room new_layout
nothing = refl

no_inode : format_layout V1Short 2048 0 ≡ None
unfolding format_layout has_room new_layout
no_inode = refl

many_inodes : format_layout V1Short 2048 65536 ≡ None
unfolding format_layout has_room new_layout
many_inodes = refl

-- 8191 inodes and the reserved bit are one block of the bitmap, 8192 two
full_map : format_layout V1Long 20000 8191 ≡ Some (laid V1Long 8191 10000 1 2 261 268966912)
unfolding format_layout has_room new_layout
full_map = refl

two_maps : format_layout V1Long 20000 8192 ≡ Some (laid V1Long 8192 10000 2 2 262 268966912)
unfolding format_layout has_room new_layout
two_maps = refl

-- a disk with more zones than version 1 counts
most_zones : format_layout V1Long 200000 65535 ≡ Some (laid V1Long 65535 65535 8 8 2066 268966912)
unfolding format_layout has_room new_layout
most_zones = refl

all_zones : format_layout V1Long 131070 65535 ≡ Some (laid V1Long 65535 65535 8 8 2066 268966912)
unfolding format_layout has_room new_layout
all_zones = refl

one_less : format_layout V1Long 131069 65535 ≡ Some (laid V1Long 65535 65534 8 8 2066 268966912)
unfolding format_layout has_room new_layout
one_less = refl

most_inodes : format_layout V2Long 200000 65535 ≡ Some (laid V2Long 65535 100000 8 13 4119 2147483647)
unfolding format_layout has_room new_layout
most_inodes = refl

-- the first data zone is at most 65,535
greatest : format_layout V2Long 1073659905 1 ≡ Some (laid V2Long 1 536829952 1 65531 65535 2147483647)
unfolding format_layout has_room new_layout
greatest = refl

too_great : format_layout V2Long 1073659906 1 ≡ None
unfolding format_layout has_room new_layout
too_great = refl
