-- What was chosen for a map has the map's sectors, each at its place.
use Rattle.std.proofs.Common.{◌≡◌, ◌≢◌, ◌≤◌, ◌<◌, ◌+◌, ◌*◌, ◌/◌, ◌%◌, ◌==◌, ◌^◌, ℕ, zero, suc, true, List, length, take, map, refl, sym, ap, ◌∙◌, subst, arith}
use Rattle.std.specs.Prelude.{slice_index}
use Rattle.std.specs.List.{AllByRecursion}
use Rattle.std.proofs.lemmas.Bool.{ne_eqb, or_left}
use Rattle.disk_trait.specs.declared.disks.Disks.{Ghosts}
use Rattle.disk_trait.specs.declared.disks.Span.{Span}
use Rattle.install_laws.specs.InstallVerdict.{file_mode}
use Rattle.install_stage.specs.Sectors.{IsWholeFile, AreGiven}
use Rattle.install_stage.specs.Within.{is_chosen, IsFreeFile}
use Rattle.install_stage.proofs.Within.{zones_data, free_promised}
use Rattle.install_stage_laws.specs.Staged.{IsChosenPlace}
use Rattle.install_stage_laws.proofs.Sectors.{half}
use Rattle.lilo_model.specs.Disks.{Machine}
use Rattle.lilo_model.specs.Disks as model
use Rattle.lilo_model.specs.MinixNames.{File, blocks}
use Rattle.lilo_model.specs.MinixParts.{blocks_for, is_file}
use Rattle.lilo_model.specs.Plan.{map_size}
use Rattle.map_sectors.specs.Map.{plan_view}
use Rattle.map_sectors.specs.declared.map.MapPlan.{MapPlan}
use Rattle.map_sectors.proofs.SectionLemmas.{length-plan}
use Rattle.minix_steps.specs.Numbers.{has_number}
use Rattle.minix_create.specs.Chosen.{Suits, sector_of, block_with, content_with, new_inode, thing_with}
use Rattle.minix_create.specs.declared.chosen.Chosen.{Chosen}
use Rattle.minix_create.proofs.FromLemmas.{file_zone, has_one}
use Rattle.minix_fill.specs.Fill.{IsOfFile}
use Rattle.minix_choice_laws.specs.Sources.{Block}
use Rattle.minix_choice_laws.proofs.Given.{given_length}
use Rattle.minix_layout.specs.View.{kind_view}
use Rattle.minix_layout.specs.declared.superblock.Super.{Super}
use Rattle.minix_zones.specs.Volume.{volume_view}
use Rattle.minix_zones.specs.declared.volume.Volume.{Volume}
use Rattle.slot_lists.specs.Made.{place_view}
use Rattle.slot_lists.specs.declared.slots.DiskSector.{DiskSector}
use Rattle.install_stage.specs.Blocks.{block_of_sectors, sectors_of_map}
use Rattle.install_stage.specs.MapFile.{map_bytes, IsMapRoom, IsFirstApart, LieInChosen}
use Rattle.install_stage.proofs.ContentLemmas.{blocks_same, long_block, sectors_joined}
use Rattle.install_stage.proofs.LongLemmas.{AreLong, long_map}
use Rattle.install_stage.proofs.PlaceLemmas.{PlacesFrom, each_has, none_is, same_places}

-- what suits a volume has few blocks
pub blocks_few : (layout : Super) (span : Span) (chosen : Chosen) → Suits layout span chosen → 2 * length chosen.choice.blocks < 2 ^ 32
blocks_few layout span chosen suits =
    let all = ap length suits.file.blocks_are ∙ given_length suits.made chosen.choice.zones ∙ suits.many in
    let small = suits.small in
    omega (arith, all, small)

-- a file of that mode is a regular one
pub mode_file : (chosen : Chosen) → chosen.mode ≡ file_mode → is_file (new_inode chosen) ≡ true
mode_file chosen mode = ap (λ (m : ℕ). m / 4096 == 8) mode

pub of_file : (chosen : Chosen) → chosen.mode ≡ file_mode → IsOfFile (new_inode chosen)
of_file chosen mode = record { file = ap (λ (m : ℕ). m / 4096 == 4) mode; mode = omega (arith, mode); some_link = rw mode (omega arith) }

module _ {D : Type 0} {disks : Ghosts D} (start : Volume D disks) (machine : Machine) (path : List (List ℕ)) (chosen : Chosen) (plan : MapPlan) (places : List DiskSector)
    (suits : Suits start.layout start.span chosen) (mode : chosen.mode ≡ file_mode) (room : IsMapRoom start machine path chosen plan places) where
  abbrev pub Count : ℕ
  Count = map_size (plan_view plan) machine

  abbrev pub Sectors : List (List ℕ)
  Sectors = sectors_of_map machine plan places

  abbrev pub Given : ℕ → List ℕ
  Given = block_of_sectors Sectors

  -- ---- its bytes

  pub long : AreLong Sectors
  long = long_map machine plan places room.lies.plan_is

  pub count_is : length Sectors ≡ Count
  count_is = length-plan (plan_view plan) machine (map place_view places)

  pub free_file : IsFreeFile start chosen
  free_file = record { suits = suits; free = room.may.free; file = (of_file chosen mode).file }

  pub whole_file : IsWholeFile chosen Count
  whole_file = record { file = mode_file chosen mode; size = room.size; each = room.solid }

  pub given_long : AreGiven chosen Given
  given_long index low = long_block Sectors long index

  no-hole : (index : ℕ) → index < blocks_for chosen.length → block_with chosen.choice.blocks Given index ≡ Given index
  no-hole index low = rw (ne_eqb (slice_index chosen.choice.blocks index) 0 (room.solid index low)) refl

  content-is : content_with chosen Given ≡ map_bytes machine plan places
  content-is =
      let size = room.size in
      let all : chosen.length ≡ 512 * length Sectors = room.size ∙ ap (λ n. 512 * n) (sym count_is) in
      ap (take chosen.length) (blocks_same (block_with chosen.choice.blocks Given) Given (blocks_for chosen.length) no-hole)
      ∙ ap (λ n. take n (blocks Given (blocks_for chosen.length))) all
      ∙ sectors_joined Sectors (blocks_for chosen.length) long (omega (arith, all))

  pub thing_is : thing_with chosen Given ≡ File (map_bytes machine plan places)
  thing_is = rw (mode_file chosen mode) (ap File content-is)

  -- ---- its places

  abbrev pub Place : ℕ → model.DiskSector
  Place index = record { disk = start.span.disk; sector = sector_of chosen index }

  pub place_of : (index : ℕ) → sector_of chosen index ≡ start.span.start + (2 * slice_index chosen.choice.blocks (index / 2) + index % 2)
  place_of index = let begins = suits.begins in omega (arith, begins)

  pub places_are : map place_view places ≡ PlacesFrom Place 0 Count
  places_are = room.are ∙ same_places (λ index. record { disk = start.span.disk; sector = start.span.start + (2 * slice_index chosen.choice.blocks (index / 2) + index % 2) }) Place 0 Count
      (λ index. ap (λ (s : ℕ). record { disk = start.span.disk; sector = s }) (sym (place_of index)))

  pub in_blocks : (index : ℕ) → index < Count → index / 2 < blocks_for chosen.length
  in_blocks index low = let size = room.size in omega (arith, size, low)

  chosen-place : (index : ℕ) → index < Count → IsChosenPlace (volume_view start) (is_chosen chosen) (Place index)
  chosen-place index low =
      let zone = slice_index chosen.choice.blocks (index / 2) in
      record {
        zone = zone;
        sector = 2 * zone + index % 2;
        picked = or_left (has_number chosen.choice.zones zone) (has_number chosen.choice.growth zone)
            (has_one chosen.choice.zones zone (file_zone (kind_view start.layout.kind) suits.made chosen.choice suits.file (Block (index / 2)) (room.solid (index / 2) (in_blocks index low))));
        of = half zone index;
        is = ap (λ (s : ℕ). record { disk = start.span.disk; sector = s }) (place_of index);
      }

  -- each is another one
  places-apart : (one other : ℕ) → one < Count → one ≢ other → Place one ≢ Place other
  places-apart one other low differ same =
      let sectors : sector_of chosen one ≡ sector_of chosen other = ap (λ (p : model.DiskSector). p.sector) same in
      let zones : slice_index chosen.choice.blocks (one / 2) ≡ slice_index chosen.choice.blocks (other / 2) = omega (arith, sectors) in
      let halves : one % 2 ≡ other % 2 = omega (arith, sectors) in
      let blocks : Block (one / 2) ≡ Block (other / 2) = room.may.free.file.once (Block (one / 2)) (Block (other / 2)) zones (room.solid (one / 2) (in_blocks one low)) in
      let number : one / 2 ≡ other / 2 = cc in
      differ (omega (arith, halves, number))

  first-apart : (count : ℕ) → count ≤ Count → IsFirstApart (PlacesFrom Place 0 count)
  first-apart zero few = tt
  first-apart (suc count) few = none_is Place (Place 0) 1 count (λ index from below. places-apart 0 index (omega (arith, few)) (λ same. omega (arith, from, same)))

  pub lie_in_chosen : LieInChosen start chosen (map place_view places)
  lie_in_chosen = record {
    own = subst (λ (l : List model.DiskSector). AllByRecursion (IsChosenPlace (volume_view start) (is_chosen chosen)) l) (sym places_are)
        (each_has Place (IsChosenPlace (volume_view start) (is_chosen chosen)) 0 Count (λ index from below. chosen-place index (omega (arith, below))));
    first = subst IsFirstApart (sym places_are) (first-apart Count (omega arith));
    zones = zones_data start chosen free_file;
    free = free_promised start chosen free_file;
  }
