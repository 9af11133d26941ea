-- The sectors that a boot may look at, for any keys and any memory (this project's own).
use Rattle.std.specs.Prelude.{List, [], ◌∷◌, ◌++◌, map, flat_map, Option, Some, None, Result, Ok, Err}
use Rattle.lilo_model.specs.Checks.{each}
use Rattle.lilo_model.specs.Disks.{Image, Machine, Span, DiskSector, bytes_at}
use Rattle.lilo_model.specs.Slots as slots
use Rattle.lilo_model.specs.Slots.{Slot, place_at}
use Rattle.lilo_model.specs.BootSector.{MapFault, BootSector, boot_at}
use Rattle.lilo_model.specs.Table.{Descriptor, table_at}
use Rattle.lilo_model.specs.Section.{Listing, file_listing}

-- the places up to the first that is refused
abbrev pub found_places : List (Result DiskSector slots.AddressFault) → List DiskSector
found_places [] = []
found_places (Ok place ∷ places) = place ∷ found_places places
found_places (Err fault ∷ places) = []

-- the sector of a slot
abbrev pub slot_places : Machine → Slot → List DiskSector
slot_places machine slot = found_places (place_at machine slot 0 ∷ [])

-- the same of a slot that may be absent
abbrev pub optional_places : Machine → Option Slot → List DiskSector
optional_places machine None = []
optional_places machine (Some slot) = slot_places machine slot

-- the section sectors that are looked at for a file, and its sectors
abbrev pub listing_places : Listing → List DiskSector
listing_places listing = listing.looked ++ listing.places

-- the same of a file that may be absent
abbrev pub file_places : (Slot → Listing) → Option Slot → List DiskSector
file_places listed None = []
file_places listed (Some slot) = listing_places (listed slot)

-- the sectors of an entry: of its options and its extra texts, of its main file and of its initrd
unfoldable pub entry_places : Image → Machine → Descriptor → List DiskSector
entry_places image machine entry =
    slot_places machine entry.options
    ++ optional_places machine entry.extra
    ++ listing_places (file_listing image machine entry.first entry.main_length entry.chain)
    ++ file_places (λ slot. file_listing image machine slot entry.initrd_length entry.initrd_chain) entry.initrd

-- the sectors of the message, and of the entries
abbrev pub table_places : Image → Machine → BootSector → Result (List Descriptor) MapFault → List DiskSector
table_places image machine boot (Err fault) = []
table_places image machine boot (Ok entries) =
    file_places (λ slot. file_listing image machine slot boot.message_length boot.message_chain) boot.message
    ++ flat_map (entry_places image machine) entries

-- what the table leads to, where all of its sectors are there
abbrev pub behind_table : Image → Machine → BootSector → Result (List DiskSector) slots.AddressFault → List DiskSector
behind_table image machine boot (Err fault) = []
behind_table image machine boot (Ok places) =
    table_places image machine boot (table_at boot.names (map (bytes_at image) places))

-- the sectors of a map: the default line's, the table's, and those that it leads to
unfoldable pub map_places : Image → Machine → BootSector → List DiskSector
map_places image machine boot =
    slot_places machine boot.line
    ++ found_places (map (λ slot. place_at machine slot 0) boot.table)
    ++ behind_table image machine boot (each (map (λ slot. place_at machine slot 0) boot.table))

-- those that a boot sector leads to, where it is of this format
abbrev pub behind_sector : Image → Machine → Result BootSector MapFault → List DiskSector
behind_sector image machine (Err fault) = []
behind_sector image machine (Ok boot) = map_places image machine boot

-- Mapped: the sectors that a boot from the first sector of a span may look at, each list up to its first
-- refusal
unfoldable pub mapped_sectors : Image → Machine → Span → List DiskSector
mapped_sectors image machine span =
    record { disk = span.disk; sector = span.start }
    ∷ behind_sector image machine (boot_at (image span.disk span.start))
