-- The backup is staged, then the map is made.
use Rattle.std.proofs.Common.{◌≡◌, ◌≢◌, ◌≤◌, ◌⊎◌, ◌||◌, ℕ, Bool, true, false, List, [], ◌∷◌, Option, None, Some, Result, Ok, Err, OnOk, refl, sym, ◌∙◌, ap, subst, inl, inr, arith}
use Rattle.std.proofs.lemmas.Bool.{eqb-true, false_from_ne_true, or_left, or_right}
use mathlib.Core.Path.{fun_ext}
use Rattle.std.specs.Prelude.{IfOk, IfErr, IfSome}
use Rattle.disk_trait.specs.declared.disks.Disks.{Ghosts}
use Rattle.disk_trait.specs.Calls.{GoesOn}
use Rattle.disk_trait.specs.Moments.{IsTold, IsQuiet, now, LeavesOnly}
use Rattle.disk_trait.specs.NotWritten.{NotWritten}
use Rattle.disk_trait.specs.Past.{Past}
use Rattle.disk_trait.proofs.CallLemmas.{goes_on_join}
use Rattle.disk_trait.proofs.MomentLemmas.{leaves_none, leaves_weaker, leaves_join, told_or_not}
use Rattle.disk_trait.proofs.NotWrittenLemmas.{not_written_join}
use Rattle.install_stage.specs.BackupStaged.{IsStaging}
use Rattle.install_stage.specs.BackupStages.{IsStillFree, MayStage, StagesBackup, StagesFile}
use Rattle.install_stage_laws.proofs.Spared.{leaves_both}
use Rattle.install_laws.specs.InstallVerdict.{file_mode}
use Rattle.install_laws.specs.Writes.{IsApartSector, WritesOnly}
use Rattle.install_stage.specs.Within.{and_zones, is_chosen, is_inode_of}
use Rattle.install_stage_laws.specs.Marked.{IsFreed, KeepsMarkedBut}
use Rattle.install_stage_laws.specs.Staged.{AreFree}
use Rattle.install_stage_laws.proofs.Marked.{but_join, but_more, but_none, freed_still, marked_none}
use Rattle.install_stage.proofs.After.{gains_join_law}
use Rattle.install_room.specs.Room.{places_view}
use Rattle.install_room.specs.declared.room.Room.{Room}
use Rattle.install_settle.specs.Settles.{HasNames}
use Rattle.install_settle.proofs.GainLemmas.{gains_none}
use Rattle.install_settle.proofs.NamesLemmas.{with-as}
use Rattle.install_settle.proofs.RenameLemmas.{leaves-untold}
use Rattle.lilo_model.specs.Disks.{Image, Machine}
use Rattle.lilo_model.specs.MinixFindNames.{path_above}
use Rattle.lilo_model.specs.MinixNames.{Thing, File, Named, PointsTo, Sound, names_in, reached}
use Rattle.lilo_model.specs.MinixParts as volumes
use Rattle.lilo_model.specs.MinixParts.{Pointer, parts_of}
use Rattle.lilo_model.specs.NamePlaces.{with_name, with_tilde}
use Rattle.map_laws.specs.MapLays.{HoldsMap}
use Rattle.map_sectors.specs.Map.{plan_view}
use Rattle.map_sectors.specs.declared.map.MapPlan.{MapPlan}
use Rattle.minix_change_laws.specs.Beside.{IsDataZone}
use Rattle.minix_change_laws.proofs.Seen.{opened}
use Rattle.minix_create.specs.Chosen.{Suits, IsFreeNow, IsNewInode, thing_with}
use Rattle.minix_create.specs.declared.chosen.Chosen.{Chosen}
use Rattle.minix_steps.proofs.StepLemmas.{same_view}
use Rattle.minix_turns.specs.Joined.{SeenOrWith}
use Rattle.minix_choice.specs.declared.halt.WriteHalt.{WriteHalt}
use Rattle.minix_choice.specs.declared.write_fault.WriteFault.{WriteFault}
use Rattle.minix_choice.specs.declared.write_fault.WriteFault.TheVariants.{Device}
use Rattle.minix_zones.specs.Volume.{volume_view, past_of, faults_of, KeepsVolume, SameVolume}
use Rattle.minix_zones.specs.declared.volume.Volume.{Volume}
use Rattle.minix_zones.proofs.WriteLemmas.{keeps_same, keeps_join, cause_after, goes_on_unchanged}
use Rattle.slot_lists.specs.declared.slots.DiskSector.{DiskSector}
use Rattle.install_stage.specs.Blocks.{block_of_sectors, sectors_of_map}
use Rattle.install_stage.specs.MapFile.{map_bytes, IsMapRoom, HasMapOrNot, LieInChosen, MakesMap}
use Rattle.install_stage.specs.Stages.{backup_inodes, backup_zones, room_inodes, room_zones, with_backup_made, IsStagingRoom, HasStagedRoom, FreesBackup, LeadsBackup, MayStageBackup, MayStageBeside, MayStageRoom, MayStageSomeRoom, StagesRoom}
use Rattle.install_stage.proofs.ImageLemmas.{map-alone, backup-staging, map-staging}
use Rattle.install_stage.proofs.Marked.{made_marks}
use Rattle.install_stage.proofs.RoomLemmas as rooms

-- ---- what the backup needs

abbrev pub path-of : Option (List (List ℕ)) → List (List ℕ)
path-of None = []
path-of (Some path) = path

pub may-backup : {D : Type 0} {disks : Ghosts D} (volume : Volume D disks) (backup : Option (List (List ℕ))) (path : List (List ℕ)) (forced : Bool) (made : Option Chosen) (other : Chosen)
    → MayStageBackup volume backup path forced made other → MayStage volume (path-of backup) forced made
may-backup volume None path forced None other may = tt
may-backup volume None path forced (Some chosen) other may = absurd may
may-backup volume (Some at) path forced None other may = absurd may
may-backup volume (Some at) path forced (Some chosen) other may = may.may

-- ---- what it keeps

module _ {D : Type 0} {disks : Ghosts D} (start : Volume D disks) where
  same-volume : SameVolume start start
  same-volume = record {
    same_disks = record { same_past = refl; same_size = refl; same_count = refl; same_geometry = refl };
    same_span = refl;
    same_layout = refl;
    same_reference = refl;
  }

  abbrev pub Keeps : Volume D disks → Type 0
  Keeps mid = KeepsVolume start mid × GoesOn disks start.disks.now mid.disks.now

  keeps-all : Keeps start
  keeps-all = (keeps_same start start same-volume, goes_on_unchanged start start same-volume (omega arith))

  keeps-by : (mid : Volume D disks) (path : List (List ℕ)) (forced : Bool) (present : List ℕ) (made : Option Chosen) (result : Result (Unit {0}) WriteFault)
      → StagesBackup start mid path forced present made result → Keeps mid
  keeps-by mid path forced present None result staged = subst Keeps (sym staged.same) keeps-all
  keeps-by mid path forced present (Some chosen) result staged = (staged.kept, staged.goes_on)

-- some path will do
pub mid-keeps : {D : Type 0} {disks : Ghosts D} (start mid : Volume D disks) (forced : Bool) (present : List ℕ) (plan : MapPlan) (room : Room) (result : Result (Unit {0}) WriteFault)
    → (IsTold (past_of start) → MayStageSomeRoom start forced plan room)
    → ((path : List (List ℕ)) → (IsTold (past_of start) → MayStage start path forced room.backup) → StagesBackup start mid path forced present room.backup result)
    → Keeps start mid
mid-keeps start mid forced present plan room result some staged = by (told_or_not (past_of start))
  where
    by : IsTold (past_of start) ⊎ (IsTold (past_of start) → ⊥) → Keeps start mid
    by (inl told) =
        let is = some told in
        keeps-by start mid (path-of is.backup) forced present room.backup result
        (staged (path-of is.backup) (λ t. may-backup start is.backup is.map forced room.backup room.map is.may.backup_may))
    by (inr none) = keeps-by start mid [] forced present room.backup result (staged [] (λ told. absurd (none told)))

-- ---- zones

-- in a run from a quiet moment on more zones may be written
with-more : (view : volumes.Volume) (one zones : ℕ → Bool) (old new : Option Past) → IsTold old → IsQuiet old → WritesOnly view zones old new → WritesOnly view (and_zones one zones) old new
with-more view one zones old new told quiet wrote =
    gains_join_law view one zones old old new told (gains_none view (now old)) (leaves_none old _ (λ c left place not. ap (λ (image : Image). image place.disk place.sector) (quiet c left))) wrote

or-swapped : (x y : Bool) → (x || y) ≡ (y || x)
or-swapped true true = refl
or-swapped true false = refl
or-swapped false true = refl
or-swapped false false = refl

swapped : (one other : ℕ → Bool) → and_zones one other ≡ and_zones other one
swapped one other = fun_ext (λ zone. or-swapped (other zone) (one zone))

-- ---- what the backup's staging leaves for the map

module _ {D : Type 0} {disks : Ghosts D} (start : Volume D disks) (machine : Machine) (forced : Bool) (backup : Option (List (List ℕ))) (present : List ℕ) (path : List (List ℕ)) (plan : MapPlan) (room : Room) where
  abbrev View : volumes.Volume
  View = volume_view start

  abbrev Old : Image
  Old = now (past_of start)

  abbrev Bytes : List ℕ
  Bytes = map_bytes machine plan room.places.items

  abbrev Staging : Image → Type 0
  Staging = IsStagingRoom View Old forced backup present path Bytes

  abbrev At : List (List ℕ)
  At = room.map.name ∷ path_above (with_tilde path)

  abbrev What : Option Thing
  What = Some (thing_with room.map (block_of_sectors (sectors_of_map machine plan room.places.items)))

  -- what is known once it is staged, of what is chosen for the backup
  pub record IsMiddle (mid : Volume D disks) (made : Option Chosen) : Type 0 where
    pub kept : KeepsVolume start mid
    pub goes_on : GoesOn disks start.disks.now mid.disks.now
    pub room_is : IsMapRoom mid machine path room.map plan room.places.items
    pub names : HasNames View (now (past_of mid)) (with_backup_made forced backup present (names_in View Old))
    pub leads : (c : Image) → ((name : List (List ℕ)) → name ≢ with_tilde path → reached View.layout (parts_of View c) name ≡ reached View.layout (parts_of View (now (past_of mid))) name)
        → LeadsBackup View c backup made
    pub free : IsFreeNow start room.map
    pub frees : FreesBackup View Old backup (now (past_of mid))
    pub marks : KeepsMarkedBut View.layout (backup_inodes made) (backup_zones made) (parts_of View Old) (parts_of View (now (past_of mid)))
    pub image : (c : Image) → HasMapOrNot View (now (past_of mid)) path Bytes c → SeenOrWith View (now (past_of mid)) At (Some room.map.choice.inode) What c → Staging c
    pub run : (new : Option Past) → LeavesOnly (past_of mid) new Staging → LeavesOnly (past_of start) new Staging
    pub only : (new : Option Past) → WritesOnly View (is_chosen room.map) (past_of mid) new → WritesOnly View (and_zones (backup_zones made) (is_chosen room.map)) (past_of start) new
    pub apart : (new : Option Past) (d s : ℕ) → IsApartSector View d s → NotWritten (past_of mid) new d s → NotWritten (past_of start) new d s

module _ {D : Type 0} {disks : Ghosts D} (start : Volume D disks) (machine : Machine) (forced : Bool) (present : List ℕ) (path : List (List ℕ)) (plan : MapPlan) (room : Room)
    (suits : Suits start.layout start.span room.map) (quiet : IsQuiet (past_of start)) (told : IsTold (past_of start)) (is : IsMapRoom start machine path room.map plan room.places.items) where
  abbrev Middle : Option (List (List ℕ)) → Volume D disks → Option Chosen → Type 0
  Middle backup mid made = IsMiddle start machine forced backup present path plan room mid made

  -- nothing is done
  middle-none : Middle None start None
  middle-none = record {
    kept = (keeps-all start).0;
    goes_on = (keeps-all start).1;
    room_is = is;
    names = λ name. refl;
    leads = λ c others. tt;
    free = is.may.free;
    frees = tt;
    marks = but_none (volume_view start).layout (backup_inodes None) (backup_zones None) (parts_of (volume_view start) (now (past_of start))) (parts_of (volume_view start) (now (past_of start)))
        (marked_none (volume_view start).layout (parts_of (volume_view start) (now (past_of start))));
    image = map-alone (volume_view start) (now (past_of start)) forced present path (map_bytes machine plan room.places.items) is.may.free.sound
        (room.map.name ∷ path_above (with_tilde path)) is.may.ends room.map.choice.inode (Some (thing_with room.map (block_of_sectors (sectors_of_map machine plan room.places.items))));
    run = λ new leaves. leaves;
    only = λ new wrote. with-more (volume_view start) (backup_zones None) (is_chosen room.map) (past_of start) new told quiet wrote;
    apart = λ new d s outside not. not;
  }

  module _ (mid : Volume D disks) (at : List (List ℕ)) (chosen : Chosen) (may : MayStageBeside start at path forced chosen room.map) where
    backup-image : (c : Image) → IsStaging (volume_view start) (now (past_of start)) forced at present c
        → IsStagingRoom (volume_view start) (now (past_of start)) forced (Some at) present path (map_bytes machine plan room.places.items) c
    backup-image = backup-staging (volume_view start) (now (past_of start)) forced present path (map_bytes machine plan room.places.items) is.may.free.sound
        (room.map.name ∷ path_above (with_tilde path)) is.may.ends room.map.choice.inode (Some (thing_with room.map (block_of_sectors (sectors_of_map machine plan room.places.items)))) at may.plain may.tilde

    module _ (staged : StagesFile start mid at forced present chosen (Ok tt)) where
      still : IsStillFree start mid at chosen room.map
      still = staged.room told room.map suits may.apart

      room-still : IsMapRoom mid machine path room.map plan room.places.items
      room-still = record {
        may = record { free = still.free is.may.free; name = still.name (path_above (with_tilde path)) is.may.name may.names; ends = is.may.ends };
        solid = is.solid;
        size = is.size;
        lies = is.lies;
        are = rw staged.kept.same_span is.are;
      }

      middle-some : Middle (Some at) mid (Some chosen)
      middle-some = record {
        kept = staged.kept;
        goes_on = staged.goes_on;
        room_is = room-still;
        names = staged.done told;
        leads = λ c others. others at may.tilde ∙ (staged.marks told).leads;
        free = is.may.free;
        frees = (staged.marks told).frees;
        marks = (staged.marks told).only;
        image = map-staging (volume_view start) (now (past_of start)) forced present path (map_bytes machine plan room.places.items) is.may.free.sound
            (room.map.name ∷ path_above (with_tilde path)) is.may.ends room.map.choice.inode (Some (thing_with room.map (block_of_sectors (sectors_of_map machine plan room.places.items))))
            at may.plain may.tilde (now (past_of mid)) (staged.left told) (staged.done told) is.may.free.inode;
        run = λ new. leaves_join (past_of start) (past_of mid) new _ (leaves_weaker (past_of start) (past_of mid) _ _ staged.any_moment backup-image);
        only = λ new wrote. staged.joins told (is_chosen room.map) new quiet
            (subst (λ (v : volumes.Volume). WritesOnly v (is_chosen room.map) (past_of mid) new) (sym (same_view start mid staged.kept)) wrote);
        apart = λ new d s outside not. not_written_join (past_of start) (past_of mid) new d s (staged.apart told d s outside) not;
      }

    -- it was refused
    stages-halted : (fault : WriteFault) → room.backup ≡ Some chosen → LieInChosen start room.map (places_view room) → StagesFile start mid at forced present chosen (Err fault)
        → StagesRoom start mid machine forced (Some at) present path plan room (Err fault)
    stages-halted fault some lies staged = record {
      any_moment = leaves_weaker (past_of start) (past_of mid) _ _ staged.any_moment backup-image;
      left = λ told. backup-image (now (past_of mid)) (staged.left told);
      done = λ told. tt;
      lies = λ told. lies;
      only = subst (λ (made : Option Chosen). WritesOnly (volume_view start) (and_zones (backup_zones made) (is_chosen room.map)) (past_of start) (past_of mid)) (sym some)
          (subst (λ (zones : ℕ → Bool). WritesOnly (volume_view start) zones (past_of start) (past_of mid)) (swapped (is_chosen room.map) (is_chosen chosen))
          (with-more (volume_view start) (is_chosen room.map) (is_chosen chosen) (past_of start) (past_of mid) told quiet staged.only));
      apart = staged.apart;
      device = staged.device;
      goes_on = staged.goes_on;
      kept = staged.kept;
    }

  -- by what is chosen
  pub middle-by : (mid : Volume D disks) (backup : Option (List (List ℕ))) (made : Option Chosen) → MayStageBackup start backup path forced made room.map
      → StagesBackup start mid (path-of backup) forced present made (Ok tt) → Middle backup mid made
  middle-by mid None None may staged = subst (λ (v : Volume D disks). Middle None v None) (sym staged.same) middle-none
  middle-by mid None (Some chosen) may staged = absurd may
  middle-by mid (Some at) None may staged = absurd may
  middle-by mid (Some at) (Some chosen) may staged = middle-some mid at chosen may staged

  pub halted-by : (mid : Volume D disks) (fault : WriteFault) → LieInChosen start room.map (places_view room) → (backup : Option (List (List ℕ))) (made : Option Chosen) → room.backup ≡ made
      → MayStageBackup start backup path forced made room.map → StagesBackup start mid (path-of backup) forced present made (Err fault)
      → StagesRoom start mid machine forced backup present path plan room (Err fault)
  halted-by mid fault lies None None same may staged = let no = staged.ok in absurd (cc)
  halted-by mid fault lies None (Some chosen) same may staged = absurd may
  halted-by mid fault lies (Some at) None same may staged = absurd may
  halted-by mid fault lies (Some at) (Some chosen) same may staged = stages-halted mid at chosen may fault same lies staged

-- ---- then the map is made

module _ {D : Type 0} {disks : Ghosts D} (start mid new : Volume D disks) (machine : Machine) (forced : Bool) (backup : Option (List (List ℕ))) (present : List ℕ) (path : List (List ℕ)) (plan : MapPlan) (room : Room)
    (told : IsTold (past_of start)) (middle : IsMiddle start machine forced backup present path plan room mid room.backup) where
  abbrev Seen : volumes.Volume
  Seen = volume_view start

  abbrev New : Image
  New = now (past_of new)

  abbrev Then : Image
  Then = now (past_of mid)

  abbrev Map : List ℕ
  Map = map_bytes machine plan room.places.items

  abbrev Path : List (List ℕ)
  Path = room.map.name ∷ path_above (with_tilde path)

  abbrev Made : Option Thing
  Made = Some (thing_with room.map (block_of_sectors (sectors_of_map machine plan room.places.items)))

  view : volume_view mid ≡ Seen
  view = same_view start mid middle.kept

  told-mid : IsTold (past_of mid)
  told-mid = middle.goes_on.told told

  as-seen : (P : volumes.Volume → Type 0) → P (volume_view mid) → P Seen
  as-seen P = subst P view

  abbrev Was : Image
  Was = now (past_of start)

  map-marks : MakesMap mid new machine path room.map plan room.places.items (Ok tt) → KeepsMarkedBut Seen.layout (is_inode_of room.map) (is_chosen room.map) (parts_of Seen Then) (parts_of Seen New)
  map-marks makes =
      as-seen (λ v. KeepsMarkedBut v.layout (is_inode_of room.map) (is_chosen room.map) (parts_of v Then) (parts_of v New))
      (made_marks (volume_view mid).layout (parts_of (volume_view mid) Then) (parts_of (volume_view mid) New) room.map (makes.creates.marks told-mid) (makes.creates.nodes told-mid) middle.room_is.may.name.is)

  -- what the backup replaced is free still
  module _ (free : AreFree Seen Was (room_zones room)) (keeps : KeepsMarkedBut Seen.layout (is_inode_of room.map) (is_chosen room.map) (parts_of Seen Then) (parts_of Seen New)) where
    sound-was : Sound Seen.layout (parts_of Seen Was)
    sound-was = (opened Seen Was middle.free.sound).parts

    module _ (at : List (List ℕ)) (former : ℕ) (leads : reached Seen.layout (parts_of Seen Was) at ≡ Some former) (freed : IsFreed Seen.layout (parts_of Seen Was) former (parts_of Seen Then)) where
      named-was : Named Seen.layout (parts_of Seen Was) former
      named-was = record { path = at; leads = leads }

      not-map : is_inode_of room.map former ≡ false
      not-map = false_from_ne_true (is_inode_of room.map former) (λ its.
          let unmarked = subst (λ (n : ℕ). (parts_of Seen Was).has_inode n ≡ false) (sym (eqb-true former room.map.choice.inode its)) middle.free.inode in
          let no : true ≡ false = sym (sound-was.marked former named-was) ∙ unmarked in
          cc)

      not-chosen : (pointer : Pointer) (zone : ℕ) → PointsTo Seen.layout (parts_of Seen Was) former pointer zone → IsDataZone Seen.layout zone × (is_chosen room.map zone ≡ false)
      not-chosen pointer zone to = (
        sound-was.zone_range former pointer zone (record { named = named-was; to = to }),
        false_from_ne_true (is_chosen room.map zone) (λ its.
            let unmarked = (free zone (or_left (is_chosen room.map zone) (backup_zones room.backup zone) its)).1 in
            let no : true ≡ false = sym (sound-was.zone_marked former pointer zone (record { named = named-was; to = to })) ∙ unmarked in
            cc),
      )

      freed-new : IsFreed Seen.layout (parts_of Seen Was) former (parts_of Seen New)
      freed-new =
          freed_still Seen.layout (is_inode_of room.map) (is_chosen room.map) (parts_of Seen Was) (parts_of Seen Then) (parts_of Seen New) former
          (sound-was.in_range former named-was) not-map not-chosen freed keeps

    frees-new : (backup : Option (List (List ℕ))) → FreesBackup Seen Was backup Then → FreesBackup Seen Was backup New
    frees-new None frees = tt
    frees-new (Some at) frees = by (reached Seen.layout (parts_of Seen Was) at) refl frees
      where
        by : (found : Option ℕ) → reached Seen.layout (parts_of Seen Was) at ≡ found
            → IfSome found (λ former. ((parts_of Seen Was).node former).links ≤ 1 → IsFreed Seen.layout (parts_of Seen Was) former (parts_of Seen Then))
            → IfSome found (λ former. ((parts_of Seen Was).node former).links ≤ 1 → IsFreed Seen.layout (parts_of Seen Was) former (parts_of Seen New))
        by None leads frees = tt
        by (Some former) leads frees = λ few. freed-new at former leads (frees few)

  there : (result : Result (Unit {0}) WriteFault) → MakesMap mid new machine path room.map plan room.places.items result → OnOk result (HasStagedRoom start new machine forced backup present path plan room)
  there (Err fault) makes = tt
  there (Ok done) makes =
      let has = makes.done told-mid in
      let holds = as-seen (λ v. (h : HoldsMap New machine v (plan_view plan) path (places_view room)) × (h.holder ≡ room.map.choice.inode)) (has.holds, has.holder) in
      record {
        names = λ name. as-seen (λ v. names_in v New name ≡ with_name (with_tilde path) (Some (File Map)) (names_in v Then) name) (has.names name)
            ∙ with-as (with_tilde path) name (Some (File Map)) (names_in Seen Then) (with_backup_made forced backup present (names_in Seen (now (past_of start)))) middle.names;
        leads = as-seen (λ v. reached v.layout (parts_of v New) (with_tilde path) ≡ Some room.map.choice.inode) has.tree.tree.here;
        node = as-seen (λ v. IsNewInode room.map ((parts_of v New).node room.map.choice.inode)) (makes.creates.node told-mid);
        holds = holds.0;
        holder = holds.1;
        lies = has.lies;
        backup_leads = middle.leads New (as-seen (λ v. (name : List (List ℕ)) → name ≢ with_tilde path → reached v.layout (parts_of v New) name ≡ reached v.layout (parts_of v Then) name) has.tree.tree.others);
        marks = but_join Seen.layout (room_inodes room) (room_zones room) (parts_of Seen (now (past_of start))) (parts_of Seen Then) (parts_of Seen New)
            (but_more Seen.layout (backup_inodes room.backup) (backup_zones room.backup) (room_inodes room) (room_zones room) (parts_of Seen (now (past_of start))) (parts_of Seen Then)
            (λ number its. or_right (is_inode_of room.map number) (backup_inodes room.backup number) its) (λ zone its. or_right (is_chosen room.map zone) (backup_zones room.backup zone) its) middle.marks)
            (but_more Seen.layout (is_inode_of room.map) (is_chosen room.map) (room_inodes room) (room_zones room) (parts_of Seen Then) (parts_of Seen New)
            (λ number its. or_left (is_inode_of room.map number) (backup_inodes room.backup number) its) (λ zone its. or_left (is_chosen room.map zone) (backup_zones room.backup zone) its)
            (map-marks makes));
        frees = λ free. frees-new free (map-marks makes) backup middle.frees;
      }

  module _ (lies : LieInChosen start room.map (places_view room)) (result : Result (Unit {0}) WriteFault) (makes : MakesMap mid new machine path room.map plan room.places.items result) where
    image : (c : Image) → HasMapOrNot (volume_view mid) Then path Map c → SeenOrWith (volume_view mid) Then Path (Some room.map.choice.inode) Made c
        → IsStagingRoom Seen (now (past_of start)) forced backup present path Map c
    image c made tree = middle.image c (as-seen (λ v. HasMapOrNot v Then path Map c) made) (as-seen (λ v. SeenOrWith v Then Path (Some room.map.choice.inode) Made c) tree)

    pub stages-told : StagesRoom start new machine forced backup present path plan room result
    stages-told = record {
      any_moment = middle.run (past_of new) (leaves_weaker (past_of mid) (past_of new) _ _ (leaves_both (past_of mid) (past_of new) _ _ makes.any_moment makes.creates.leads.any_moment)
          (λ c both. image c both.0 both.1));
      left = λ t. image New (makes.held told-mid) (makes.creates.leads.held told-mid);
      done = λ t. there result makes;
      lies = λ t. lies;
      only = middle.only (past_of new) (as-seen (λ v. WritesOnly v (is_chosen room.map) (past_of mid) (past_of new)) makes.only);
      apart = λ t d s outside. middle.apart (past_of new) d s outside (makes.apart told-mid d s (subst (λ (v : volumes.Volume). IsApartSector v d s) (sym view) outside));
      device = λ t. cause_after start mid new Device result middle.goes_on.later (makes.creates.device told-mid);
      goes_on = goes_on_join disks start.disks.now mid.disks.now new.disks.now middle.goes_on makes.creates.leads.goes_on;
      kept = keeps_join start mid new middle.kept makes.creates.leads.kept;
    }

-- ---- where the disks report no past

stages-untold : {D : Type 0} {disks : Ghosts D} (start new : Volume D disks) (machine : Machine) (forced : Bool) (backup : Option (List (List ℕ))) (present : List ℕ) (path : List (List ℕ)) (plan : MapPlan) (room : Room)
    (result : Result (Unit {0}) WriteFault) → (IsTold (past_of start) → ⊥) → Keeps start new → StagesRoom start new machine forced backup present path plan room result
stages-untold start new machine forced backup present path plan room result none keeps =
    let none-new : IsTold (past_of new) → ⊥ = λ told. none (keeps.1.told_before told) in
    record {
      any_moment = leaves-untold (past_of start) (past_of new) _ none none-new;
      left = λ told. absurd (none told);
      done = λ told. absurd (none told);
      lies = λ told. absurd (none told);
      only = leaves-untold (past_of start) (past_of new) _ none none-new;
      apart = λ told. absurd (none told);
      device = λ told. absurd (none told);
      goes_on = keeps.1;
      kept = keeps.0;
    }

-- ---- the whole

module _ {D : Type 0} {disks : Ghosts D} (start mid : Volume D disks) (forced : Bool) (present : List ℕ) (plan : MapPlan) (room : Room) (suits : Suits start.layout start.span room.map) (mode : room.map.mode ≡ file_mode)
    (quiet : IsQuiet (past_of start)) (some : IsTold (past_of start) → MayStageSomeRoom start forced plan room) where
  abbrev Staged : Result (Unit {0}) WriteFault → Type 0
  Staged result = (path : List (List ℕ)) → (IsTold (past_of start) → MayStage start path forced room.backup) → StagesBackup start mid path forced present room.backup result

  module _ (result : Result (Unit {0}) WriteFault) (staged : Staged result) (backup : Option (List (List ℕ))) (path : List (List ℕ)) where
    at-path : MayStageBackup start backup path forced room.backup room.map → StagesBackup start mid (path-of backup) forced present room.backup result
    at-path may = staged (path-of backup) (λ told. may-backup start backup path forced room.backup room.map may)

  module _ (staged : Staged (Ok tt)) where
    keeps : Keeps start mid
    keeps = mid-keeps start mid forced present plan room (Ok tt) some staged

    pub later-mid : faults_of start ≤ faults_of mid
    later-mid = keeps.1.later

    pub suits-mid : Suits mid.layout mid.span room.map
    suits-mid = rw (keeps.0.same_layout, keeps.0.same_span) suits

    module _ (machine : Machine) (backup : Option (List (List ℕ))) (path : List (List ℕ)) (told : IsTold (past_of start)) (may : MayStageRoom start machine backup path forced plan room) where
      middle : IsMiddle start machine forced backup present path plan room mid room.backup
      middle = middle-by start machine forced present path plan room suits quiet told may.map_may mid backup room.backup may.backup_may (at-path (Ok tt) staged backup path may.backup_may)

    pub free-mid : IsTold (past_of mid) → IsFreeNow mid room.map
    free-mid told-mid =
        let told = keeps.1.told_before told-mid in
        let is = some told in
        (middle is.machine is.backup is.map told is.may).room_is.may.free

    module _ (machine : Machine) (backup : Option (List (List ℕ))) (path : List (List ℕ)) (may : IsTold (past_of start) → MayStageRoom start machine backup path forced plan room)
        (new : Volume D disks) (result : Result (Unit {0}) WriteFault)
        (makes : (m : Machine) (p : List (List ℕ)) → (IsTold (past_of mid) → IsMapRoom mid m p room.map plan room.places.items) → MakesMap mid new m p room.map plan room.places.items result) where
      pub stages-made : StagesRoom start new machine forced backup present path plan room result
      stages-made = by (told_or_not (past_of start))
        where
          by : IsTold (past_of start) ⊎ (IsTold (past_of start) → ⊥) → StagesRoom start new machine forced backup present path plan room result
          by (inl told) =
              let m = middle machine backup path told (may told) in
              stages-told start mid new machine forced backup present path plan room told m (rooms.lie_in_chosen start machine path room.map plan room.places.items suits mode (may told).map_may)
              result (makes machine path (λ t. m.room_is))
          by (inr none) =
              let map = makes machine path (λ told. absurd (none (keeps.1.told_before told))) in
              stages-untold start new machine forced backup present path plan room result none
              (keeps_join start mid new keeps.0 map.creates.leads.kept, goes_on_join disks start.disks.now mid.disks.now new.disks.now keeps.1 map.creates.leads.goes_on)

    -- by what the call answers
    module _ (answer : Result (Volume D disks) (WriteHalt D disks)) (places : List DiskSector) (are : places ≡ room.places.items) where
      abbrev Asked : (Result (Volume D disks) (WriteHalt D disks) → Machine → List (List ℕ) → List DiskSector → Type 0) → List DiskSector → Type 0
      Asked made l = (m : Machine) (p : List (List ℕ)) → (IsTold (past_of mid) → IsMapRoom mid m p room.map plan l) → made answer m p l

      pub stages-ok : Asked (λ a m p l. IfOk a (λ new. MakesMap mid new m p room.map plan l (Ok tt))) places
          → IfOk answer (λ new. (machine : Machine) (backup : Option (List (List ℕ))) (path : List (List ℕ)) → (IsTold (past_of start) → MayStageRoom start machine backup path forced plan room)
          → StagesRoom start new machine forced backup present path plan room (Ok tt))
      stages-ok makes = by answer (subst (Asked (λ a m p l. IfOk a (λ new. MakesMap mid new m p room.map plan l (Ok tt)))) are makes)
        where
          by : (a : Result (Volume D disks) (WriteHalt D disks))
              → ((m : Machine) (p : List (List ℕ)) → (IsTold (past_of mid) → IsMapRoom mid m p room.map plan room.places.items) → IfOk a (λ new. MakesMap mid new m p room.map plan room.places.items (Ok tt)))
              → IfOk a (λ new. (machine : Machine) (backup : Option (List (List ℕ))) (path : List (List ℕ)) → (IsTold (past_of start) → MayStageRoom start machine backup path forced plan room)
              → StagesRoom start new machine forced backup present path plan room (Ok tt))
          by (Ok new) makes = λ machine backup path may. stages-made machine backup path may new (Ok tt) makes
          by (Err halt) makes = tt

      pub stages-err : Asked (λ a m p l. IfErr a (λ halt. MakesMap mid halt.volume m p room.map plan l (Err halt.fault))) places
          → IfErr answer (λ halt. (machine : Machine) (backup : Option (List (List ℕ))) (path : List (List ℕ)) → (IsTold (past_of start) → MayStageRoom start machine backup path forced plan room)
          → StagesRoom start halt.volume machine forced backup present path plan room (Err halt.fault))
      stages-err makes = by answer (subst (Asked (λ a m p l. IfErr a (λ halt. MakesMap mid halt.volume m p room.map plan l (Err halt.fault)))) are makes)
        where
          by : (a : Result (Volume D disks) (WriteHalt D disks))
              → ((m : Machine) (p : List (List ℕ)) → (IsTold (past_of mid) → IsMapRoom mid m p room.map plan room.places.items) → IfErr a (λ halt. MakesMap mid halt.volume m p room.map plan room.places.items (Err halt.fault)))
              → IfErr a (λ halt. (machine : Machine) (backup : Option (List (List ℕ))) (path : List (List ℕ)) → (IsTold (past_of start) → MayStageRoom start machine backup path forced plan room)
              → StagesRoom start halt.volume machine forced backup present path plan room (Err halt.fault))
          by (Ok new) makes = tt
          by (Err halt) makes = λ machine backup path may. stages-made machine backup path may halt.volume (Err halt.fault) makes

  module _ (fault : WriteFault) (staged : Staged (Err fault)) (machine : Machine) (backup : Option (List (List ℕ))) (path : List (List ℕ))
      (may : IsTold (past_of start) → MayStageRoom start machine backup path forced plan room) where
    pub stages-refused : StagesRoom start mid machine forced backup present path plan room (Err fault)
    stages-refused = by (told_or_not (past_of start))
      where
        by : IsTold (past_of start) ⊎ (IsTold (past_of start) → ⊥) → StagesRoom start mid machine forced backup present path plan room (Err fault)
        by (inl told) =
            halted-by start machine forced present path plan room suits quiet told (may told).map_may mid fault
            (rooms.lie_in_chosen start machine path room.map plan room.places.items suits mode (may told).map_may) backup room.backup refl (may told).backup_may
            (at-path (Err fault) staged backup path (may told).backup_may)
        by (inr none) = stages-untold start mid machine forced backup present path plan room (Err fault) none (mid-keeps start mid forced present plan room (Err fault) some staged)
