-- A map that shows a menu: what its boot sector, its table and its sections say is what the menu says.
use Rattle.std.specs.Prelude.{◌≡◌, ℕ, true, false, if◌then◌else◌, List, [], ◌∷◌, map, length, Option, None, Some, is_some, option_map, Ok, IfSome}
use Rattle.lilo_model.specs.Bytes.{part_of}
use Rattle.lilo_model.specs.Disks.{Image, Machine, Span, DiskSector, with_sector}
use Rattle.lilo_model.specs.Slots.{place_at}
use Rattle.lilo_model.specs.BootSector.{BootSector, boot_at}
use Rattle.lilo_model.specs.Table.{Descriptor, other_flag, table_flag, video_flag}
use Rattle.lilo_model.specs.LineSector.{line_bytes}
use Rattle.lilo_model.specs.DefaultLine.{DefaultLine}
use Rattle.lilo_model.specs.Prompt.{Key}
use Rattle.lilo_model.specs.Section.{Content}
use Rattle.lilo_model.specs.Boot.{GoodMap, MapSectors, map_sectors, good_map, settings_of, listed_entries, message_of, middle_of, main_of, initrd_of}
use Rattle.lilo_model.specs.Boot.{initrd_size, entry_has, whole_boot}
use Rattle.lilo_model.specs.Meant.{Target, Kernel, System, MenuEntry, Menu, menu_boot}

-- a file that is there as a whole
abbrev pub whole : List ℕ → Content
whole bytes = record { bytes = bytes; refusal = None }

-- a kernel's files, as an entry names them
pub record ShowsKernel (image : Image) (machine : Machine) (entry : Descriptor) (bytes : List ℕ) (initrd : Option (List ℕ)) (video : Option ℕ) : Type 0 where
  pub kernel : entry_has entry other_flag ≡ false
  pub size : entry.main_length ≡ length bytes
  pub main : main_of image machine entry ≡ whole bytes
  pub initrd_size_is : initrd_size entry ≡ option_map length initrd
  pub initrd_is : initrd_of image machine entry ≡ option_map whole initrd
  pub video_is : (if entry_has entry video_flag then Some entry.vga else None) ≡ video

-- another system's sectors
pub record ShowsSystem (image : Image) (machine : Machine) (entry : Descriptor) (sector : List ℕ) (table : Option (List ℕ)) : Type 0 where
  pub other : entry_has entry other_flag ≡ true
  pub has_table : entry_has entry table_flag ≡ is_some table
  pub bytes : List ℕ
  pub main : main_of image machine entry ≡ whole bytes
  pub prefix : part_of bytes 0 512 ≡ sector
  -- of the table's sector only the table itself counts: the sector may be the boot sector
  pub suffix : IfSome table (λ table. part_of bytes 958 64 ≡ part_of table 446 64)

abbrev pub ShowsTarget : Image → Machine → Descriptor → Target → Type 0
ShowsTarget image machine entry (Kernel bytes initrd middle video) = ShowsKernel image machine entry bytes initrd video
ShowsTarget image machine entry (System sector table) = ShowsSystem image machine entry sector table

-- the middle of the command line of what an entry starts
abbrev pub target_middle : Target → List ℕ
target_middle (Kernel bytes initrd middle video) = middle
target_middle (System sector table) = []

-- an entry shows one of the menu, also once the default line's sector is written
pub record ShowsEntry (image : Image) (machine : Machine) (line_place : DiskSector) (entry : Descriptor) (meant : MenuEntry) : Type 0 where
  pub name : entry.name ≡ meant.listed.name
  pub middle : middle_of image machine entry ≡ Ok (target_middle meant.target)
  pub now : ShowsTarget image machine entry meant.target
  pub after : (line : DefaultLine) → ShowsTarget (with_sector image line_place (line_bytes line)) machine entry meant.target

abbrev pub ShowsEntries : Image → Machine → DiskSector → List Descriptor → List MenuEntry → Type 0
ShowsEntries image machine line_place [] [] = Unit {0}
ShowsEntries image machine line_place [] (meant ∷ menu) = ⊥
ShowsEntries image machine line_place (entry ∷ entries) [] = ⊥
ShowsEntries image machine line_place (entry ∷ entries) (meant ∷ menu) =
    ShowsEntry image machine line_place entry meant × ShowsEntries image machine line_place entries menu

-- the disks show a menu, with a default line
pub record Shows (image : Image) (machine : Machine) (span : Span) (menu : Menu) (line : DefaultLine) : Type 0 where
  pub boot : BootSector
  pub says : boot_at (image span.disk span.start) ≡ Ok boot
  pub settings : settings_of boot ≡ menu.settings
  pub line_place : DiskSector
  pub line_at : place_at machine boot.line 0 ≡ Ok line_place
  pub sectors : MapSectors
  pub reads : map_sectors image machine boot ≡ Ok sectors
  pub good : GoodMap
  pub is_good : good_map sectors ≡ Ok good
  pub line_is : good.line ≡ line
  pub listed : listed_entries image machine good ≡ map (λ entry. entry.listed) menu.entries
  pub message : message_of image machine boot ≡ option_map whole menu.message
  pub entries : ShowsEntries image machine line_place good.entries menu.entries

-- disks that show a menu boot as it says, for all keys and any memory
abbrev pub ShowsLaw : Type 0
ShowsLaw =
    (image : Image) (machine : Machine) (span : Span) (menu : Menu) (line : DefaultLine) (keys : List Key) (memory : ℕ)
    → Shows image machine span menu line
    → whole_boot image machine span keys memory ≡ menu_boot menu line keys memory
