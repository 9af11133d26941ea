-- A map's file that was made, or refused, leaves what an installation's states need.
use Rattle.std.proofs.Common.{◌≡◌, ◌<◌, ◌+◌, ◌*◌, ◌/◌, ◌%◌, ◌||◌, ℕ, true, List, ◌∷◌, map, replicate, Some, None, Result, Ok, Err, refl, sym, ap, ◌∙◌, subst, inl, inr, ⊎_elim, arith}
use Rattle.std.specs.Prelude.{OnOk, IfOk, IfErr, slice_index}
use Rattle.std.proofs.lemmas.Bool.{or_left, or_right}
use Rattle.std.proofs.lemmas.List.{get_or_past}
use Rattle.disk_trait.specs.declared.disks.Disks.{Ghosts}
use Rattle.disk_trait.specs.Moments.{IsTold, IsQuiet, now, LeavesOnly}
use Rattle.disk_trait.proofs.LawLemmas.{end_of_run_law}
use Rattle.disk_trait.proofs.MomentLemmas.{at_now, told_or_not, leaves_weaker}
use Rattle.install_stage_laws.proofs.Spared.{leaves_both, outside_stays_law}
use Rattle.install_laws.specs.InstallVerdict.{file_mode}
use Rattle.install_laws.specs.Writes.{IsApartSector}
use Rattle.install_stage.specs.Sectors.{HasSectors, IsFileThere}
use Rattle.install_stage.specs.Within.{WritesWithin}
use Rattle.install_stage.proofs.Named.{names_law}
use Rattle.install_stage.proofs.Sectors.{lie_where_chosen, lie_in_order}
use Rattle.install_stage.proofs.Within.{writes_within}
use Rattle.install_settle.proofs.RenameLemmas.{leaves-untold}
use Rattle.install_stage_laws.proofs.Clear.{added_keeps_law, seen_keeps_law}
use Rattle.install_stage_laws.proofs.Held.{staged_held_law, seen_held_law}
use Rattle.lilo_model.specs.Disks.{Image, Machine, bytes_at}
use Rattle.lilo_model.specs.Disks as model
use Rattle.lilo_model.specs.Lays.{AreAt, tail_place}
use Rattle.lilo_model.specs.MinixFindNames.{path_above}
use Rattle.lilo_model.specs.MinixLayout.{Super, zone_sector}
use Rattle.lilo_model.specs.MinixNames.{Thing, File, PointsTo, then_lookup, reached, zone_number, IsSound}
use Rattle.lilo_model.specs.MinixParts as volumes
use Rattle.lilo_model.specs.MinixParts.{Parts, block_pointer, blocks_for, has_zones, is_directory, is_file, is_link, parts_of}
use Rattle.lilo_model.specs.NamePlaces.{with_tilde}
use Rattle.map_laws.specs.MapLays.{HoldsMap}
use Rattle.map_sectors.specs.Map.{plan_view}
use Rattle.map_sectors.specs.declared.map.MapPlan.{MapPlan}
use Rattle.minix_create.specs.Chosen.{Suits, sector_of, new_inode, thing_with}
use Rattle.minix_create.specs.Linked.{Creates}
use Rattle.minix_create.specs.States.{CreatesOn}
use Rattle.minix_create.specs.declared.chosen.Chosen.{Chosen}
use Rattle.minix_create.proofs.ChosenLemmas.{few_blocks}
use Rattle.minix_change_laws.specs.Tree.{HasTreeWith}
use Rattle.minix_change_laws.proofs.Seen.{seen_sound_law}
use Rattle.minix_turns.specs.Joined.{SeenOrWith}
use Rattle.minix_choice.specs.declared.halt.WriteHalt.{WriteHalt}
use Rattle.minix_choice.specs.declared.write_fault.WriteFault.{WriteFault}
use Rattle.minix_zones.specs.Volume.{volume_view, past_of}
use Rattle.minix_zones.specs.declared.volume.Volume.{Volume}
use Rattle.slot_lists.specs.Made.{place_view}
use Rattle.slot_lists.specs.declared.slots.DiskSector.{DiskSector}
use Rattle.install_stage.specs.Blocks.{sector_or_zeros, block_of_sectors, sectors_of_map}
use Rattle.install_stage.specs.MapFile.{map_bytes, IsMapRoom, HasMapOrNot, HasMap, MakesMap}
use Rattle.install_stage.proofs.ContentLemmas.{sector_of_block}
use Rattle.install_stage.proofs.PlaceLemmas.{PlacesFrom, at_each}
use Rattle.install_stage.proofs.RoomLemmas as rooms

zone-pointed : (super : Super) (parts : Parts) (number index zone : ℕ) → PointsTo super parts number (block_pointer super.kind index) zone → zone_number super parts number index ≡ zone
unfolding zone_number
zone-pointed super parts number index zone to = to.is

module _ {D : Type 0} {disks : Ghosts D} (start : Volume D disks) (machine : Machine) (path : List (List ℕ)) (chosen : Chosen) (plan : MapPlan) (places : List DiskSector)
    (suits : Suits start.layout start.span chosen) (mode : chosen.mode ≡ file_mode) (quiet : IsQuiet (past_of start)) (told : IsTold (past_of start)) (room : IsMapRoom start machine path chosen plan places) where
  abbrev pub View : volumes.Volume
  View = volume_view start

  abbrev Old : Image
  Old = now (past_of start)

  abbrev Bytes : List ℕ
  Bytes = map_bytes machine plan places

  abbrev Sectors : List (List ℕ)
  Sectors = sectors_of_map machine plan places

  abbrev Given : ℕ → List ℕ
  Given = block_of_sectors Sectors

  abbrev Count : ℕ
  Count = rooms.Count start machine path chosen plan places suits mode room

  abbrev Place : ℕ → model.DiskSector
  Place = rooms.Place start machine path chosen plan places suits mode room

  sound : IsSound View Old
  sound = room.may.free.sound

  -- ---- at any moment

  -- nothing is at its path
  nowhere : reached View.layout (parts_of View Old) (with_tilde path) ≡ None
  unfolding reached
  nowhere =
      ap (reached View.layout (parts_of View Old)) (sym room.may.ends)
      ∙ ap (then_lookup View.layout (parts_of View Old) chosen.name) room.may.name.leads ∙ room.may.name.absent

  at-path : (c : Image) → HasTreeWith View Old c (chosen.name ∷ path_above (with_tilde path)) (Some chosen.choice.inode) (Some (thing_with chosen Given))
      → HasTreeWith View Old c (with_tilde path) (Some chosen.choice.inode) (Some (File Bytes))
  at-path c tree =
      subst (λ (thing : Thing). HasTreeWith View Old c (with_tilde path) (Some chosen.choice.inode) (Some thing)) (rooms.thing_is start machine path chosen plan places suits mode room)
      (subst (λ (p : List (List ℕ)). HasTreeWith View Old c p (Some chosen.choice.inode) (Some (thing_with chosen Given))) room.may.ends tree)

  map-or-not : (c : Image) → SeenOrWith View Old (chosen.name ∷ path_above (with_tilde path)) (Some chosen.choice.inode) (Some (thing_with chosen Given)) c
      → ((d s : ℕ) → IsApartSector View d s → c d s ≡ Old d s) → HasMapOrNot View Old path Bytes c
  map-or-not c (inl seen) apart = record {
    names = let same = seen_sound_law View Old c sound seen in record { sound = same.sound; names = inl same.same };
    files = seen_keeps_law View Old c sound seen;
    apart = apart;
    held = λ machine span off held. seen_held_law Old c machine View span path sound (apart span.disk span.start off) seen held;
  }
  map-or-not c (inr made) apart =
      let tree = at-path c made in
      record {
        names = record { sound = tree.sound; names = inr (names_law View Old c (with_tilde path) (Some chosen.choice.inode) (Some (File Bytes)) tree) };
        files = added_keeps_law View Old c (with_tilde path) (Some chosen.choice.inode) (Some (File Bytes)) tree nowhere;
        apart = apart;
        held = λ machine span off held.
            staged_held_law Old c machine View span path (with_tilde path) (Some chosen.choice.inode) (Some (File Bytes)) (apart span.disk span.start off) tree (λ same. nowhere) held;
      }

  module _ (new : Volume D disks) where
    abbrev New : Image
    New = now (past_of new)

    -- ---- once it is there

    module _ (creates : Creates start new (path_above (with_tilde path)) chosen Given (Ok tt)) where
      there : IsFileThere View New chosen Count
      there = lie_in_order start new chosen told suits room.may.free (path_above (with_tilde path)) Given Count creates
          (rooms.whole_file start machine path chosen plan places suits mode room) (rooms.given_long start machine path chosen plan places suits mode room)

      sectors : HasSectors New start.span.disk chosen Given (2 * blocks_for chosen.length)
      sectors = lie_where_chosen start new chosen told suits room.may.free (path_above (with_tilde path)) Given Count creates
          (rooms.whole_file start machine path chosen plan places suits mode room) (rooms.given_long start machine path chosen plan places suits mode room)

      -- each sector, and the zeros after an odd number of them, lies at its place
      at-place : (index : ℕ) → index < 2 * blocks_for chosen.length → bytes_at New (Place index) ≡ sector_or_zeros Sectors index
      at-place index low = sectors index low ∙ sector_of_block Sectors (rooms.long start machine path chosen plan places suits mode room) index

      lies : AreAt New (map place_view places) Sectors
      lies =
          let size = room.size in
          let many = rooms.count_is start machine path chosen plan places suits mode room in
          subst (λ (l : List model.DiskSector). AreAt New l Sectors)
          (ap (PlacesFrom Place 0) many ∙ sym (rooms.places_are start machine path chosen plan places suits mode room))
          (at_each Place New 0 Sectors (λ index low.
          let here : 0 + index ≡ index = omega arith in
          ap (λ (n : ℕ). bytes_at New (Place n)) here ∙ at-place index (omega (arith, low, many, size))))

      tree : HasTreeWith View Old New (with_tilde path) (Some chosen.choice.inode) (Some (File Bytes))
      tree = at-path New (creates.leads.done told)

      new-zones : has_zones (new_inode chosen) ≡ true
      new-zones =
          or_left (is_directory (new_inode chosen) || is_file (new_inode chosen)) (is_link (new_inode chosen))
          (or_right (is_directory (new_inode chosen)) (is_file (new_inode chosen)) (rooms.mode_file chosen mode))

      zone-is : (index : ℕ) → index < blocks_for chosen.length → zone_number View.layout (parts_of View New) chosen.choice.inode index ≡ slice_index chosen.choice.blocks index
      zone-is index low =
          let few = few_blocks start.layout start.span chosen suits in
          zone-pointed View.layout (parts_of View New) chosen.choice.inode index (slice_index chosen.choice.blocks index)
          (creates.lies told new-zones index (omega (arith, low, few)) (room.solid index low))

      odd : Count % 2 ≡ 1 → bytes_at New (tail_place View New chosen.choice.inode Count) ≡ replicate 512 0
      odd is =
          let size = room.size in
          let begins = suits.begins in
          let many = rooms.count_is start machine path chosen plan places suits mode room in
          let place : start.span.start + (2 * slice_index chosen.choice.blocks (Count / 2) + 1) ≡ sector_of chosen Count = omega (arith, begins, is) in
          ap (λ (zone : ℕ). New start.span.disk (start.span.start + (zone_sector zone + 1))) (zone-is (Count / 2) (omega (arith, size, is)))
          ∙ ap (λ (s : ℕ). New start.span.disk s) place ∙ at-place Count (omega (arith, size, is)) ∙ get_or_past Sectors Count (replicate 512 0) (omega (arith, many))

      holds : HoldsMap New machine View (plan_view plan) path (map place_view places)
      holds = record {
        holder = chosen.choice.inode;
        leads = inr tree.tree.here;
        regular = there.file;
        solid = there.places ∙ ap (map Some) (sym (rooms.places_are start machine path chosen plan places suits mode room));
        size_is = there.size ∙ room.size;
        odd = odd;
      }

      has_map : HasMap start new machine path chosen plan places
      unfolding holds
      has_map = record {
        tree = tree;
        names = names_law View Old New (with_tilde path) (Some chosen.choice.inode) (Some (File Bytes)) tree;
        holds = holds;
        holder = refl;
        lies = lies;
      }

    -- ---- the whole

    by-result : (result : Result (Unit {0}) WriteFault) → Creates start new (path_above (with_tilde path)) chosen Given result → OnOk result (HasMap start new machine path chosen plan places)
    by-result (Ok done) creates = has_map creates
    by-result (Err fault) creates = tt

    module _ (result : Result (Unit {0}) WriteFault) (creates : Creates start new (path_above (with_tilde path)) chosen Given result) where
      pub within : WritesWithin start new chosen
      within = writes_within start new chosen (rooms.free_file start machine path chosen plan places suits mode room)
          (record { told = told; outer = path_above (with_tilde path); given = Given; result = result; creates = creates })

      abbrev Outside : Image → Type 0
      Outside c = (d s : ℕ) → IsApartSector View d s → c d s ≡ Old d s

      outside : LeavesOnly (past_of start) (past_of new) Outside
      outside = outside_stays_law View (past_of start) (past_of new) quiet within.apart

      pub any_moment : LeavesOnly (past_of start) (past_of new) (HasMapOrNot View Old path Bytes)
      any_moment = leaves_weaker (past_of start) (past_of new) _ _ (leaves_both (past_of start) (past_of new) _ Outside creates.leads.any_moment outside) (λ c both. map-or-not c both.0 both.1)

      pub held : HasMapOrNot View Old path Bytes New
      held = map-or-not New (creates.leads.held told)
          (end_of_run_law Outside (past_of start) (past_of new) outside New (at_now (past_of new) (creates.leads.goes_on.told told)))

      pub done : OnOk result (HasMap start new machine path chosen plan places)
      done = by-result result creates

-- ---- the whole

module _ {D : Type 0} {disks : Ghosts D} (start new : Volume D disks) (machine : Machine) (path : List (List ℕ)) (chosen : Chosen) (plan : MapPlan) (places : List DiskSector)
    (suits : Suits start.layout start.span chosen) (mode : chosen.mode ≡ file_mode) (quiet : IsQuiet (past_of start)) (room : IsTold (past_of start) → IsMapRoom start machine path chosen plan places)
    (result : Result (Unit {0}) WriteFault) (makes : CreatesOn start new chosen (block_of_sectors (sectors_of_map machine plan places)) result) where
  creates : Creates start new (path_above (with_tilde path)) chosen (block_of_sectors (sectors_of_map machine plan places)) result
  creates = makes (path_above (with_tilde path)) (λ is. let plain = (rooms.of_file chosen mode).file in absurd (cc)) (λ told. (room told).may.name)

  -- what is left where it is told is left
  where-told : (P : Image → Type 0) → (IsTold (past_of start) → LeavesOnly (past_of start) (past_of new) P) → LeavesOnly (past_of start) (past_of new) P
  where-told P so = ⊎_elim so (λ not. leaves-untold (past_of start) (past_of new) P not (λ told. not (creates.leads.goes_on.told_before told))) (told_or_not (past_of start))

  pub makes_map : MakesMap start new machine path chosen plan places result
  makes_map = record {
    creates = creates;
    only = where-told _ (λ told. (within start machine path chosen plan places suits mode quiet told (room told) new result creates).only quiet);
    apart = λ told. (within start machine path chosen plan places suits mode quiet told (room told) new result creates).apart;
    any_moment = where-told _ (λ told. any_moment start machine path chosen plan places suits mode quiet told (room told) new result creates);
    held = λ told. held start machine path chosen plan places suits mode quiet told (room told) new result creates;
    room = λ told. rooms.lie_in_chosen start machine path chosen plan places suits mode (room told);
    done = λ told. done start machine path chosen plan places suits mode quiet told (room told) new result creates;
  }

module _ {D : Type 0} {disks : Ghosts D} (start : Volume D disks) (machine : Machine) (path : List (List ℕ)) (chosen : Chosen) (plan : MapPlan) (places : List DiskSector)
    (suits : Suits start.layout start.span chosen) (mode : chosen.mode ≡ file_mode) (quiet : IsQuiet (past_of start)) (room : IsTold (past_of start) → IsMapRoom start machine path chosen plan places) where
  pub makes_ok : (result : Result (Volume D disks) (WriteHalt D disks)) → IfOk result (λ new. CreatesOn start new chosen (block_of_sectors (sectors_of_map machine plan places)) (Ok tt))
      → IfOk result (λ new. MakesMap start new machine path chosen plan places (Ok tt))
  makes_ok (Ok new) makes = makes_map start new machine path chosen plan places suits mode quiet room (Ok tt) makes
  makes_ok (Err halt) makes = tt

  pub makes_err : (result : Result (Volume D disks) (WriteHalt D disks)) → IfErr result (λ halt. CreatesOn start halt.volume chosen (block_of_sectors (sectors_of_map machine plan places)) (Err halt.fault))
      → IfErr result (λ halt. MakesMap start halt.volume machine path chosen plan places (Err halt.fault))
  makes_err (Ok new) makes = tt
  makes_err (Err halt) makes = makes_map start halt.volume machine path chosen plan places suits mode quiet room (Err halt.fault) makes
