-- All is staged once both files are there.
use Rattle.std.proofs.Common.{◌≡◌, ℕ, Bool, List, Option, None, Some, Ok, sym, ap, ◌∙◌, subst}
use Rattle.std.specs.List.{AllByRecursion}
use Rattle.std.proofs.lemmas.Bool.{or_left}
use Rattle.disk_trait.specs.declared.disks.Disks.{Ghosts}
use Rattle.disk_trait.specs.Moments.{IsTold, now}
use Rattle.install_stage.specs.Within.{is_chosen}
use Rattle.install_room.specs.Room.{places_view}
use Rattle.install_room.specs.declared.room.Room.{Room}
use Rattle.install_stage_laws.specs.Committed.{IsStaged}
use Rattle.install_stage_laws.specs.Mapped.{KeepsMapped}
use Rattle.install_stage_laws.specs.Staged.{KeepsRest, IsChosenPlace, IsStagedMap, IsNewBoot}
use Rattle.install_stage_laws.proofs.Mapped.{files_keep_mapped_law, but_keep_mapped_law}
use Rattle.install_stage_laws.proofs.Sectors.{keeps_rest_law}
use Rattle.lilo_model.specs.Conf.{Config}
use Rattle.lilo_model.specs.Devices.{Device}
use Rattle.lilo_model.specs.Disks.{Image, Machine, Span}
use Rattle.lilo_model.specs.Disks as model
use Rattle.lilo_model.specs.Lays.{AreAt}
use Rattle.lilo_model.specs.MinixNames.{IsSound}
use Rattle.lilo_model.specs.MinixParts as volumes
use Rattle.lilo_model.specs.Plan.{Plan, plan_sectors}
use Rattle.lilo_model.specs.Planned.{planned}
use Rattle.map_laws.specs.MapLays.{HoldsMap}
use Rattle.map_laws.specs.Lies.{MapPlaces, all_places}
use Rattle.map_sectors.specs.Map.{plan_view}
use Rattle.map_sectors.specs.declared.map.MapPlan.{MapPlan}
use Rattle.minix_zones.specs.Volume.{volume_view, past_of}
use Rattle.minix_zones.specs.declared.volume.Volume.{Volume}
use Rattle.install_stage.specs.MapFile.{IsFirstApart}
use Rattle.install_stage.specs.Staged.{IsAcceptedPlan, AreNotReplaced, IsStagedRoom, RoomStagedLaw}
use Rattle.install_stage.specs.Stages.{backup_zones, room_zones, KeepsButBackup, StagesRoom}
use Rattle.install_stage.proofs.StagedLemmas.{still-whole, more-chosen}

-- the files that are mapped stay
kept-mapped : (volume : volumes.Volume) (config : Config) (old c : Image) (backup : Option (List (List ℕ))) → IsSound volume old → AreNotReplaced old volume config backup
    → KeepsButBackup volume backup old c → KeepsMapped volume config old c
kept-mapped volume config old c None sound apart files = files_keep_mapped_law volume config old c sound files
kept-mapped volume config old c (Some path) sound apart files = but_keep_mapped_law volume config path old c sound files apart

module _ {D : Type 0} {disks : Ghosts D} (start new : Volume D disks) (plan : MapPlan) (room : Room)
    (machine : Machine) (span : Span) (config : Config) (device : Device) (time : ℕ)
    (map_places : MapPlaces) (bytes present : List ℕ)
    (forced : Bool) (backup : Option (List (List ℕ))) (path : List (List ℕ))
    (told : IsTold (past_of start))
    (are : places_view room ≡ all_places map_places)
    (was : IsAcceptedPlan (now (past_of start)) machine (volume_view start) span config device time (room_zones room) plan (all_places map_places))
    (apart : AreNotReplaced (now (past_of start)) (volume_view start) config backup)
    (boot : IsNewBoot (now (past_of start)) machine (volume_view start) span config time (all_places map_places) bytes)
    (stages : StagesRoom start new machine forced backup present path plan room (Ok tt)) where
  abbrev View : volumes.Volume
  View = volume_view start

  abbrev Before : Image
  Before = now (past_of start)

  abbrev Staged : Image
  Staged = now (past_of new)

  abbrev Lie : List model.DiskSector
  Lie = all_places map_places

  keeps : KeepsRest View Before (room_zones room) Staged
  keeps = (keeps_rest_law View (room_zones room) (past_of start) (past_of new) stages.only).1 (stages.goes_on.told told)

  staged-map : IsStagedMap Before Staged machine View config time (room_zones room) map_places
  staged-map = record {
    keeps = keeps;
    free = was.free;
    whole = λ place inside. still-whole View Before Staged (room_zones room) keeps (stages.left told).sound place (was.whole place inside);
    own = more-chosen View (is_chosen room.map) (room_zones room) (λ zone picked. or_left (is_chosen room.map zone) (backup_zones room.backup zone) picked) Lie
        (subst (λ (l : List model.DiskSector). AllByRecursion (IsChosenPlace View (is_chosen room.map)) l) are (stages.lies told).own);
    apart = subst IsFirstApart are (stages.lies told).first;
    lies =
        subst (λ (p : Plan). AreAt Staged Lie (plan_sectors p machine Lie)) was.plan_is
        (subst (λ (l : List model.DiskSector). AreAt Staged l (plan_sectors (plan_view plan) machine l)) are (stages.done told).lies);
  }

  -- the map lies in the file that was made for it
  abbrev Holds : Plan → List model.DiskSector → Type 0
  Holds p l = (h : HoldsMap Staged machine View p path l) × (h.holder ≡ room.map.choice.inode)

  holds : Holds (planned Before machine View config time) Lie
  holds = subst (λ (p : Plan). Holds p Lie) was.plan_is (subst (λ (l : List model.DiskSector). Holds (plan_view plan) l) are ((stages.done told).holds, (stages.done told).holder))

  staged : IsStaged Before Staged machine View span config device time (room_zones room) map_places bytes path
  staged = record {
    sound = was.sound;
    apart = was.apart;
    outside = was.outside;
    accepted = was.accepted;
    map = staged-map;
    boot = boot;
    files = kept-mapped View config Before Staged backup was.sound apart (stages.left told).files;
    holds = holds.0;
  }

  pub staged-room : IsStagedRoom Before Staged machine View span config device time (room_zones room) map_places bytes path
  unfolding staged
  staged-room = record { is = staged; leads = (stages.done told).leads ∙ ap Some (sym holds.1) }

pub room_staged_law : {D : Type 0} {disks : Ghosts D} (start new : Volume D disks) (plan : MapPlan) (room : Room) → RoomStagedLaw start new plan room
room_staged_law start new plan room machine span config device time map_places bytes present forced backup path told are was apart boot stages =
    staged-room start new plan room machine span config device time map_places bytes present forced backup path told are was apart boot stages
