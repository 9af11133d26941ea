-- What may be staged may be so still once all that was written before is durable.
use Rattle.std.proofs.Common.{◌≡◌, ℕ, Bool, true, false, IfSome, List, [], map, slice_index, Option, Some, None, Result, Ok, inl, inr, ◌⊎◌, refl, subst, sym}
use Rattle.disk_trait.specs.declared.disks.Disks.{Ghosts}
use Rattle.disk_trait.specs.Calls.{GoesOn}
use Rattle.disk_trait.specs.Moments.{IsTold, now}
use Rattle.disk_trait.proofs.CallLemmas.{goes_on_join}
use Rattle.disk_trait.proofs.MomentLemmas.{told_or_not}
use Rattle.disk_trait.specs.Past.{Image}
use Rattle.lilo_model.specs.Disks.{Machine}
use Rattle.lilo_model.specs.MinixFindNames.{path_above}
use Rattle.lilo_model.specs.MinixNames.{reached, IsSound}
use Rattle.lilo_model.specs.MinixParts as model
use Rattle.lilo_model.specs.MinixParts.{parts_of, is_file}
use Rattle.lilo_model.specs.Plan.{map_size}
use Rattle.map_sectors.specs.Map.{plan_view}
use Rattle.map_sectors.specs.declared.map.MapPlan.{MapPlan}
use Rattle.minix_choice_laws.specs.Apart.{AreApart}
use Rattle.minix_choice_laws.specs.Choice.{MayHavePlace, file_of}
use Rattle.minix_create.specs.Chosen.{IsFreeNow}
use Rattle.minix_create.specs.Grown.{MayGrowIn}
use Rattle.minix_create.specs.declared.chosen.Chosen.{Chosen}
use Rattle.minix_choice_laws.specs.FillLaws.{MayBeFile}
use Rattle.minix_choice.specs.declared.write_fault.WriteFault.{WriteFault}
use Rattle.minix_zones.specs.Volume.{volume_view, past_of, KeepsVolume, Syncs}
use Rattle.minix_zones.specs.declared.volume.Volume.{Volume}
use Rattle.minix_zones.specs.declared.zone_fault.ZoneFault.TheVariants as zones
use Rattle.minix_zones.proofs.WriteLemmas.{keeps_join}
use Rattle.slot_lists.specs.Made.{place_view}
use Rattle.slot_lists.specs.declared.slots.DiskSector.{DiskSector}
use Rattle.install_stage.specs.BackupStages.{MayReplace}
use Rattle.install_laws.specs.InstallVerdict.{sectors_of_blocks}
use Rattle.install_room.specs.Making.{MayMake}
use Rattle.install_room.specs.declared.room.Room.{Room}
use Rattle.install_stage.specs.MapFile.{IsMapRoom}
use Rattle.install_stage.specs.Stages.{MayStageBackup, MayStageBeside, MayStageRoom, MayStageSomeRoom, StagesRoom}
use Rattle.install_order.specs.States.{StagesFrom}
use Rattle.sector_address.specs.Machine.{machine_of}

module _ {D : Type 0} {disks : Ghosts D} (old mid : Volume D disks) (kept : KeepsVolume old mid) (held : now (past_of mid) ≡ now (past_of old)) where
  pub forth : (P : model.Volume → Image → Type 0) → P (volume_view old) (now (past_of old)) → P (volume_view mid) (now (past_of mid))
  forth P p =
      let view : volume_view mid ≡ volume_view old = rw (kept.same_span, kept.same_layout) refl in
      subst (λ (v : model.Volume). P v (now (past_of mid))) (sym view) (subst (P (volume_view old)) (sym held) p)

  free-forth : (chosen : Chosen) → IsFreeNow old chosen → IsFreeNow mid chosen
  free-forth chosen free = record {
    sound = forth IsSound free.sound;
    file = forth (λ v i. MayBeFile v.layout.kind (file_of chosen.choice)) free.file;
    inode = forth (λ v i. (parts_of v i).has_inode chosen.choice.inode ≡ false) free.inode;
    zones = λ k low. forth (λ v i. (parts_of v i).has_zone (slice_index chosen.choice.zones k) ≡ false) (free.zones k low);
    grows = forth (λ v i. MayGrowIn v i chosen.directory chosen.choice.place chosen.choice.growth) free.grows;
    clear = free.clear;
  }

  make-forth : (path : List (List ℕ)) (chosen : Chosen) → MayMake old path chosen → MayMake mid path chosen
  make-forth path chosen may = record {
    free = free-forth chosen may.free;
    name = forth (λ v i. MayHavePlace v i (path_above path) chosen.directory chosen.choice.place chosen.name) may.name;
    ends = may.ends;
  }

  replace-forth : (path : List (List ℕ)) → MayReplace old path → MayReplace mid path
  replace-forth path may = record {
    plain = may.plain;
    file = forth (λ v i. IfSome (reached v.layout (parts_of v i) path) (λ number. is_file ((parts_of v i).node number) ≡ true)) may.file;
  }

  beside-forth : (path map : List (List ℕ)) (forced : Bool) (chosen other : Chosen) → MayStageBeside old path map forced chosen other → MayStageBeside mid path map forced chosen other
  beside-forth path map forced chosen other beside = record {
    may = record { make = make-forth _ chosen beside.may.make; over = λ is. replace-forth path (beside.may.over is) };
    apart = forth (λ v i. AreApart v.layout.kind chosen.directory chosen.choice other.directory other.choice) beside.apart;
    names = beside.names;
    plain = beside.plain;
    tilde = beside.tilde;
  }

  backup-forth : (backup : Option (List (List ℕ))) (map : List (List ℕ)) (forced : Bool) (chosen : Option Chosen) (other : Chosen)
      → MayStageBackup old backup map forced chosen other → MayStageBackup mid backup map forced chosen other
  backup-forth None map forced None other may = tt
  backup-forth None map forced (Some chosen) other may = may
  backup-forth (Some path) map forced None other may = may
  backup-forth (Some path) map forced (Some chosen) other may = beside-forth path map forced chosen other may

  map-forth : (machine : Machine) (path : List (List ℕ)) (chosen : Chosen) (plan : MapPlan) (places : List DiskSector)
      → IsMapRoom old machine path chosen plan places → IsMapRoom mid machine path chosen plan places
  map-forth machine path chosen plan places may = record {
    may = make-forth _ chosen may.may;
    solid = may.solid;
    size = may.size;
    lies = may.lies;
    are = forth (λ v i. map place_view places ≡ sectors_of_blocks v.span chosen.choice.blocks (map_size (plan_view plan) machine)) may.are;
  }

  pub room_forth : (machine : Machine) (backup : Option (List (List ℕ))) (path : List (List ℕ)) (forced : Bool) (plan : MapPlan) (room : Room)
      → MayStageRoom old machine backup path forced plan room → MayStageRoom mid machine backup path forced plan room
  room_forth machine backup path forced plan room may = record {
    backup_may = backup-forth backup path forced room.backup room.map may.backup_may;
    map_may = map-forth machine path room.map plan room.places.items may.map_may;
  }

  pub some_room_forth : (forced : Bool) (plan : MapPlan) (room : Room) → MayStageSomeRoom old forced plan room → MayStageSomeRoom mid forced plan room
  some_room_forth forced plan room some =
      record { machine = some.machine; backup = some.backup; map = some.map; may = room_forth some.machine some.backup some.map forced plan room some.may }

-- what is staged after the flush is staged from the moment before it
module _ {D : Type 0} {disks : Ghosts D} (start mid new : Volume D disks) (syncs : Syncs start mid zones.Device (Ok tt)) (forced : Bool) (present : List ℕ) (plan : MapPlan) (room : Room)
    (result : Result (Unit {0}) WriteFault) (may : IsTold (past_of start) → MayStageSomeRoom start forced plan room)
    (stages : (machine : Machine) (backup : Option (List (List ℕ))) (path : List (List ℕ)) → (IsTold (past_of mid) → MayStageRoom mid machine backup path forced plan room)
    → StagesRoom mid new machine forced backup present path plan room result) where
  from-start : (machine : Machine) (backup : Option (List (List ℕ))) (path : List (List ℕ)) → (IsTold (past_of start) → MayStageRoom start machine backup path forced plan room)
      → StagesRoom mid new machine forced backup present path plan room result
  from-start machine backup path suits = stages machine backup path (λ told.
      room_forth start mid syncs.kept syncs.flushes.same_now machine backup path forced plan room (suits (syncs.flushes.goes_on.told_before told)))

  kept-from : GoesOn disks mid.disks.now new.disks.now × KeepsVolume mid new
  kept-from = by (told_or_not (past_of start))
    where
      by : IsTold (past_of start) ⊎ (IsTold (past_of start) → ⊥) → GoesOn disks mid.disks.now new.disks.now × KeepsVolume mid new
      by (inl told) = let some = may told in let st = from-start some.machine some.backup some.map (λ t. some.may) in (st.goes_on, st.kept)
      by (inr none) = let st = from-start (machine_of disks start.disks.now) None [] (λ t. absurd (none t)) in (st.goes_on, st.kept)

  pub stages_from : StagesFrom start new forced present plan room result
  stages_from = record {
    flushed = mid;
    syncs = syncs;
    stages = from-start;
    goes_on = goes_on_join disks start.disks.now mid.disks.now new.disks.now syncs.flushes.goes_on kept-from.0;
    kept = keeps_join start mid new syncs.kept kept-from.1;
  }
