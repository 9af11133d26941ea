-- Which bytes of memory a dump shows, and how. (This project's own.)
use Rattle.std.specs.Prelude.{ℕ, ◌+◌, ◌/◌, List, [], ◌∷◌, ◌++◌, length, map}
use Rattle.std.specs.Option.{option_to_list}
use Rattle.lilo_model.specs.Boot.{boot_address}
use Rattle.lilo_model.specs.Bytes.{part_of}
use Rattle.lilo_model.specs.Place.{Written}
use Rattle.lilo_model.specs.Verdict.{hex_lines}
use Rattle.setup_header.specs.declared.layout.Region.{Region}
use Rattle.setup_header.specs.declared.layout.Layout.{Layout}

-- bytes in hexadecimal, in lines of up to 32
unfoldable pub hex_text : List ℕ → List ℕ
hex_text bytes = hex_lines ((length bytes + 31) / 32) bytes

-- what is in a region of memory
abbrev pub written_in : List ℕ → Region → Written
written_in memory region = record { address = region.address; bytes = part_of memory region.address region.length }

-- the regions of a kernel and what goes with it
abbrev pub regions_in : Layout → List Region
regions_in layout =
    layout.real ∷ (layout.protected ∷ (option_to_list layout.initrd ++ (layout.line ∷ [])))

-- what is there after its loading
abbrev pub regions_of : Layout → List ℕ → List Written
regions_of layout memory = map (written_in memory) (regions_in layout)

-- what is where a boot sector is started
abbrev pub boot_sector_in : List ℕ → Written
boot_sector_in memory = record { address = boot_address; bytes = part_of memory boot_address 512 }
