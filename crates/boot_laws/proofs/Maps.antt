-- What a boot reads of a map before the prompt is the same on images that are the same on the map's sectors.
use Rattle.std.proofs.Common.{◌≡◌, ℕ, List, [], ◌∷◌, ◌++◌, map, Result, Ok, Err, refl, sym, ap, subst, ◌∙◌}
use Rattle.std.specs.List.{flat_map}
use Rattle.std.specs.Option.{option_and_then}
use Rattle.std.specs.Result.{result_ok}
use Rattle.lilo_model.specs.Checks.{◌>>=◌, each}
use Rattle.lilo_model.specs.Disks.{Image, Machine, DiskSector, bytes_at}
use Rattle.lilo_model.specs.Slots as slots
use Rattle.lilo_model.specs.Slots.{Slot, place_at}
use Rattle.lilo_model.specs.BootSector.{MapFault, BootSector}
use Rattle.lilo_model.specs.Table.{Descriptor, password_flag, table_at}
use Rattle.lilo_model.specs.LineSector.{line_at}
use Rattle.lilo_model.specs.Section.{file_listing}
use Rattle.lilo_model.specs.Mapped.{found_places, slot_places, file_places, entry_places, table_places, behind_table, map_places}
use Rattle.lilo_model.specs.Boot.{slot_bytes_at, optional_at, extra_slot, entries_of, MapSectors, map_sectors, present_line, password_at, GoodMap, good_map, message_of}
use Rattle.boot_laws.proofs.Same.{Same, same-front, same-back, same-bytes}
use Rattle.boot_laws.proofs.Checks.{bind-same, bind-given}
use Rattle.boot_laws.proofs.Entries.{EntriesSame, slot_bytes_at-same, file-same, extras-same}

-- ---- the places of a table

-- the place of each of a table's sectors, or why there is none
abbrev pub table_checks : Machine → List Slot → List (Result DiskSector slots.AddressFault)
table_checks machine table = map (λ slot. place_at machine slot 0) table

-- where none is refused, all are found
pub found-all : (checks : List (Result DiskSector slots.AddressFault)) (places : List DiskSector) → each checks ≡ Ok places → found_places checks ≡ places
found-all [] places all = cc
found-all (Err fault ∷ checks) places all = absurd (cc)
found-all (Ok place ∷ checks) places all =
    let rest = bind-given (each checks) (λ places. Ok (place ∷ places)) places all in
    let tail : found_places checks ≡ rest.0 = found-all checks rest.0 rest.1 in
    let whole : place ∷ rest.0 ≡ places = cc in
    ap (λ places. place ∷ places) tail ∙ whole

module _ (image : Image) (machine : Machine) where
  -- the bytes of the table's sectors are those at its places
  each-bytes : (table : List Slot) → each (map (slot_bytes_at image machine) table) ≡ (each (table_checks machine table) >>= λ places. Ok (map (bytes_at image) places))
  unfolding slot_bytes_at
  each-bytes [] = refl
  each-bytes (slot ∷ table) =
      rw (each-bytes table) (by_place (place_at machine slot 0) (each (table_checks machine table)))
    where
      by_place : (place : Result DiskSector slots.AddressFault) (rest : Result (List DiskSector) slots.AddressFault)
          → ((place >>= λ at. Ok (bytes_at image at)) >>= λ bytes. (rest >>= λ places. Ok (map (bytes_at image) places)) >>= λ sectors. Ok (bytes ∷ sectors))
          ≡ ((place >>= λ at. rest >>= λ places. Ok (at ∷ places)) >>= λ places. Ok (map (bytes_at image) places))
      by_place (Err fault) rest = refl
      by_place (Ok place) (Err fault) = refl
      by_place (Ok place) (Ok places) = refl

-- what is read before the prompt, where the line is read and the table
abbrev sectors_behind : Image → Machine → BootSector → List ℕ → List (List ℕ) → Result MapSectors slots.AddressFault
sectors_behind image machine boot line sectors =
    each (map (λ entry. optional_at image machine (extra_slot password_flag entry)) (entries_of (table_at boot.names sectors))) >>= λ extras.
    Ok (record { line = line; table = table_at boot.names sectors; extras = extras })

module _ (image other : Image) (machine : Machine) where
  -- ---- the table

  found-bytes : (checks : List (Result DiskSector slots.AddressFault)) → Same image other (found_places checks)
      → (each checks >>= λ places. Ok (map (bytes_at other) places)) ≡ (each checks >>= λ places. Ok (map (bytes_at image) places))
  found-bytes checks same =
      bind-same (each checks) (λ places. Ok (map (bytes_at image) places)) (λ places. Ok (map (bytes_at other) places))
      (λ places all. ap Ok (same-bytes image other places (subst (Same image other) (found-all checks places all) same)))

  -- the bytes of the table's sectors are the same
  table-same : (table : List Slot) → Same image other (found_places (table_checks machine table)) → each (map (slot_bytes_at other machine) table) ≡ each (map (slot_bytes_at image machine) table)
  table-same table same = each-bytes other machine table ∙ found-bytes (table_checks machine table) same ∙ sym (each-bytes image machine table)

  -- what a table that was read leads to
  table-behind : (boot : BootSector) (sectors : List (List ℕ)) → Same image other (behind_table image machine boot (each (table_checks machine boot.table)))
      → each (map (slot_bytes_at image machine) boot.table) ≡ Ok sectors → Same image other (table_places image machine boot (table_at boot.names sectors))
  table-behind boot sectors same is =
      let found = bind-given (each (table_checks machine boot.table)) (λ places. Ok (map (bytes_at image) places)) sectors (sym (each-bytes image machine boot.table) ∙ is) in
      let sectors-are : map (bytes_at image) found.0 ≡ sectors = cc in
      subst (λ sectors. Same image other (table_places image machine boot (table_at boot.names sectors))) sectors-are
      (subst (λ tried. Same image other (behind_table image machine boot tried)) found.1 same)

  -- the entries of a table, none where it is bad
  pub table-entries : (boot : BootSector) (table : Result (List Descriptor) MapFault) → Same image other (table_places image machine boot table) → EntriesSame image other machine (entries_of table)
  table-entries boot (Err fault) same = tt
  table-entries boot (Ok entries) same = same-back image other (file_places (λ slot. file_listing image machine slot boot.message_length boot.message_chain) boot.message) (flat_map (entry_places image machine) entries) same

  table-message : (boot : BootSector) (entries : List Descriptor) → Same image other (table_places image machine boot (Ok entries))
      → Same image other (file_places (λ slot. file_listing image machine slot boot.message_length boot.message_chain) boot.message)
  table-message boot entries same = same-front image other (file_places (λ slot. file_listing image machine slot boot.message_length boot.message_chain) boot.message) (flat_map (entry_places image machine) entries) same

  -- ---- the map

  -- the same on each part of a map's sectors
  pub record MapSame (boot : BootSector) : Type 0 where
    pub line : Same image other (slot_places machine boot.line)
    pub table : Same image other (found_places (table_checks machine boot.table))
    pub behind : Same image other (behind_table image machine boot (each (table_checks machine boot.table)))

  pub map-parts : (boot : BootSector) → Same image other (map_places image machine boot) → MapSame boot
  unfolding map_places
  map-parts boot same =
      let line = slot_places machine boot.line in
      let table = found_places (table_checks machine boot.table) in
      let behind = behind_table image machine boot (each (table_checks machine boot.table)) in
      let before : Same image other (line ++ table) = same-front image other (line ++ table) behind same in
      record {
        line = same-front image other line table before;
        table = same-back image other line table before;
        behind = same-back image other (line ++ table) behind same;
      }

  pub present_line-same : (boot : BootSector) → MapSame boot → present_line other machine boot ≡ present_line image machine boot
  unfolding present_line
  present_line-same boot same = ap (λ found. option_and_then (λ bytes. result_ok (line_at bytes)) (result_ok found)) (slot_bytes_at-same image other machine boot.line same.line)

  pub message_of-same : (boot : BootSector) (entries : List Descriptor) → Same image other (table_places image machine boot (Ok entries)) → message_of other machine boot ≡ message_of image machine boot
  unfolding message_of
  message_of-same boot entries same = file-same image other machine boot.message_length boot.message_chain boot.message (table-message boot entries same)

  pub map_sectors-same : (boot : BootSector) → MapSame boot → map_sectors other machine boot ≡ map_sectors image machine boot
  unfolding map_sectors
  map_sectors-same boot same =
      rw (slot_bytes_at-same image other machine boot.line same.line, table-same boot.table same.table)
      (bind-same (slot_bytes_at image machine boot.line) _ _ (λ line line-is.
      bind-same (each (map (slot_bytes_at image machine) boot.table)) (sectors_behind image machine boot line) (sectors_behind other machine boot line) (λ sectors is.
      let entries : EntriesSame image other machine (entries_of (table_at boot.names sectors)) = table-entries boot (table_at boot.names sectors) (table-behind boot sectors same.behind is) in
      ap (λ extras. each extras >>= λ extras. Ok (record { line = line; table = table_at boot.names sectors; extras = extras })) (extras-same image other machine password_flag (entries_of (table_at boot.names sectors)) entries))))

  -- the sectors to which the table of a map that was read leads
  pub map_sectors-behind : (boot : BootSector) (found : MapSectors) → MapSame boot → map_sectors image machine boot ≡ Ok found → Same image other (table_places image machine boot found.table)
  unfolding map_sectors
  map_sectors-behind boot found same is =
      let line = bind-given (slot_bytes_at image machine boot.line) (λ line. each (map (slot_bytes_at image machine) boot.table) >>= sectors_behind image machine boot line) found is in
      let sectors = bind-given (each (map (slot_bytes_at image machine) boot.table)) (sectors_behind image machine boot line.0) found line.2 in
      let extras = bind-given (each (map (λ entry. optional_at image machine (extra_slot password_flag entry)) (entries_of (table_at boot.names sectors.0)))) (λ extras. Ok (record { line = line.0; table = table_at boot.names sectors.0; extras = extras })) found sectors.2 in
      let whole : ◌≡◌ {A = MapSectors} (record { line = line.0; table = table_at boot.names sectors.0; extras = extras.0 }) found = cc in
      subst (λ table. Same image other (table_places image machine boot table)) (ap (λ (found : MapSectors). found.table) {x = record { line = line.0; table = table_at boot.names sectors.0; extras = extras.0 }} whole) (table-behind boot sectors.0 same.behind sectors.1)

-- the entries of a good map are those of its table
pub good_map-table : (sectors : MapSectors) (good : GoodMap) → good_map sectors ≡ Ok good → sectors.table ≡ Ok good.entries
unfolding good_map
good_map-table sectors good is =
    let line = bind-given (line_at sectors.line) (λ line. sectors.table >>= λ entries. each (map password_at sectors.extras) >>= λ passwords. Ok (record { line = line; entries = entries; passwords = passwords })) good is in
    let entries = bind-given sectors.table (λ entries. each (map password_at sectors.extras) >>= λ passwords. Ok (record { line = line.0; entries = entries; passwords = passwords })) good line.2 in
    let passwords = bind-given (each (map password_at sectors.extras)) (λ passwords. Ok (record { line = line.0; entries = entries.0; passwords = passwords })) good entries.2 in
    let whole : ◌≡◌ {A = GoodMap} (record { line = line.0; entries = entries.0; passwords = passwords.0 }) good = cc in
    entries.1 ∙ ap (λ (good : GoodMap). Ok good.entries) {x = record { line = line.0; entries = entries.0; passwords = passwords.0 }} whole
