-- What the steps of an installation leave that write: staging, its commit and tidying (rules of this project's own). A path is a
-- list of components, the last one first; a backup has one, where it is made.
use Rattle.std.specs.Prelude.{◌≡◌, ◌⊎◌, ℕ, Bool, is_some, List, Option, Result, Ok, Err}
use Rattle.disk_trait.specs.declared.disks.Disks.{Ghosts}
use Rattle.disk_trait.specs.declared.disks.DiskFault.TheVariants.{Failed}
use Rattle.disk_trait.specs.declared.disks.Phase.TheVariants.{Commit}
use Rattle.disk_trait.specs.Calls.{GoesOn}
use Rattle.disk_trait.specs.Moments.{IsTold, IsQuiet}
use Rattle.lilo_model.specs.Disks.{Machine}
use Rattle.lilo_model.specs.Plan.{plan_boot_sector}
use Rattle.map_sectors.specs.Accepted.{IsFor}
use Rattle.map_sectors.specs.Map.{plan_view}
use Rattle.map_sectors.specs.declared.map.MapPlan.{MapPlan}
use Rattle.minix_names.specs.Component.{IsFileName}
use Rattle.minix_choice.specs.declared.write_fault.WriteFault.{WriteFault}
use Rattle.minix_choice.specs.declared.write_fault.WriteFault.TheVariants as writes
use Rattle.minix_choice.specs.declared.halt.WriteHalt.{WriteHalt}
use Rattle.minix_zones.specs.Volume.{volume_view, past_of, KeepsVolume, Syncs}
use Rattle.minix_zones.specs.declared.volume.Volume.{Volume}
use Rattle.minix_zones.specs.declared.zone_fault.ZoneFault.TheVariants as zones
use Rattle.install_apart.specs.Names.{IsInside, AreTwins}
use Rattle.install_order.specs.Commits.{Commits}
use Rattle.install_laws.specs.Writes.{IsApartSector}
use Rattle.install_room.specs.Room.{places_view}
use Rattle.install_room.specs.declared.room.Room.{Room}
use Rattle.install_stage.specs.Stages.{MayStageRoom, StagesRoom}
use Rattle.install_settle.specs.Tidies.{MayTidy, MayTidySome, Tidies}
use Rattle.install_order.specs.Faults.{write_refusal}
use Rattle.install_order.specs.declared.committed.Committed.{Committed}
use Rattle.install_order.specs.declared.fault.InstallFault.TheVariants.{Device}
use Rattle.install_order.specs.declared.halt.Halt.{Halt}
use Rattle.install_order.specs.declared.planned.Planned.{Planned}
use Rattle.install_order.specs.declared.staged.Staged.{Staged}
use Rattle.install_order.specs.declared.tidied.Tidied.{Tidied}

-- ---- staging

-- Since a volume was as it is here, all that was written before was made durable; then the files of a room were staged, or that was
-- refused.
pub record StagesFrom {D : Type 0} {disks : Ghosts D} (start new : Volume D disks) (forced : Bool) (present : List ℕ) (plan : MapPlan) (room : Room)
    (result : Result (Unit {0}) WriteFault) : Type 0 where
  pub flushed : Volume D disks
  pub syncs : Syncs start flushed zones.Device (Ok tt)
  pub stages : (machine : Machine) (backup : Option (List (List ℕ))) (path : List (List ℕ))
      → (IsTold (past_of start) → MayStageRoom start machine backup path forced plan room)
      → StagesRoom flushed new machine forced backup present path plan room result
  pub goes_on : GoesOn disks start.disks.now new.disks.now
  pub kept : KeepsVolume start new

-- it ended as the disk failed: at the flush, or later
abbrev pub StopsStaging : {D : Type 0} {disks : Ghosts D} → Volume D disks → Bool → List ℕ → MapPlan → Room → WriteHalt D disks → Type 0
StopsStaging start forced present plan room halt =
    (Syncs start halt.volume zones.Device (Err zones.Device) × (halt.fault ≡ writes.Device))
    ⊎ StagesFrom start halt.volume forced present plan room (Err halt.fault)

-- a backup is forced
abbrev pub is_forced : {D : Type 0} {disks : Ghosts D} → Planned D disks → Bool
is_forced planned = is_some planned.plan.config.force_backup

-- The files of a plan are staged, for its boot device and its map's names; its boot sector is that of the plan, over the one that is
-- there.
pub record IsStagedFor {D : Type 0} {disks : Ghosts D} (planned : Planned D disks) (staged : Staged D disks) : Type 0 where
  pub stages : StagesFrom planned.volume staged.volume (is_forced planned) planned.present planned.plan planned.room (Ok tt)
  pub boot_is : staged.boot ≡ planned.boot
  pub map_is : staged.map ≡ planned.own.map
  pub sector_is : (machine : Machine) → IsFor machine planned.plan
      → staged.sector ≡ plan_boot_sector (plan_view planned.plan) machine (places_view planned.room) planned.present

-- or that was refused
pub record HaltsStaging {D : Type 0} {disks : Ghosts D} (planned : Planned D disks) (halt : Halt D disks) : Type 0 where
  pub fault : WriteFault
  pub fault_is : halt.fault ≡ write_refusal fault
  pub stops : StopsStaging planned.volume (is_forced planned) planned.present planned.plan planned.room (record { volume = halt.volume; fault = fault })

-- ---- the commit

-- the boot sector of what was staged was written and is durable
pub record IsCommitted {D : Type 0} {disks : Ghosts D} (staged : Staged D disks) (committed : Committed D disks) : Type 0 where
  pub commits : Commits staged.volume committed.volume staged.boot staged.sector (Ok tt)
  pub map_is : committed.map ≡ staged.map

-- or the disk failed: it is written or it isn't
pub record HaltsCommit {D : Type 0} {disks : Ghosts D} (staged : Staged D disks) (halt : Halt D disks) : Type 0 where
  pub commits : Commits staged.volume halt.volume staged.boot staged.sector (Err Failed)
  pub phase_is : halt.phase ≡ Commit
  pub fault_is : halt.fault ≡ Device

-- Once a boot sector is written that isn't one of the volume's past its block 0, what is at the map's names may be tidied at a path:
-- it may be so now.
pub record MayBeTidiedAfter {D : Type 0} {disks : Ghosts D} (staged : Staged D disks) : Type 0 where
  pub path : List (List ℕ)
  pub may : MayTidy staged.volume path staged.map
  pub apart : IsApartSector (volume_view staged.volume) staged.boot.disk staged.boot.start

-- what was staged may be committed, and be tidied then
pub record MayBeCommitted {D : Type 0} {disks : Ghosts D} (staged : Staged D disks) : Type 0 where
  pub inside : IsInside staged.volume.layout staged.map.tilde
  pub twins : AreTwins staged.map
  pub called : IsFileName staged.map.plain.name
  pub may : IsTold (past_of staged.volume) → MayBeTidiedAfter staged

-- ---- tidying

-- from a quiet moment on, what is at the map's names may be tidied
pub record MayBeTidied {D : Type 0} {disks : Ghosts D} (committed : Committed D disks) : Type 0 where
  pub inside : IsInside committed.volume.layout committed.map.tilde
  pub twins : AreTwins committed.map
  pub called : IsFileName committed.map.plain.name
  pub quiet : IsQuiet (past_of committed.volume)
  pub may : IsTold (past_of committed.volume) → MayTidySome committed.volume committed.map

-- the new map took the place of the old one, or that was refused
abbrev pub TidiesFrom : {D : Type 0} {disks : Ghosts D} → Committed D disks → Volume D disks → Result (Unit {0}) WriteFault → Type 0
TidiesFrom committed new result =
    (path : List (List ℕ)) → (IsTold (past_of committed.volume) → MayTidy committed.volume path committed.map)
    → Tidies committed.volume new path committed.map.tilde.directory result

abbrev pub IsTidiedFrom : {D : Type 0} {disks : Ghosts D} → Committed D disks → Tidied D disks → Type 0
IsTidiedFrom committed tidied = TidiesFrom committed tidied.volume (Ok tt)

pub record HaltsTidying {D : Type 0} {disks : Ghosts D} (committed : Committed D disks) (halt : Halt D disks) : Type 0 where
  pub fault : WriteFault
  pub fault_is : halt.fault ≡ write_refusal fault
  pub tidies : TidiesFrom committed halt.volume (Err fault)
