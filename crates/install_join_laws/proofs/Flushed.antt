-- What is staged since the flush is so since the moment before it.
use Rattle.std.proofs.Common.{◌≡◌, ℕ, Bool, List, Result, refl, sym, subst, subst₂}
use Rattle.disk_trait.specs.declared.disks.Disks.{Ghosts}
use Rattle.disk_trait.specs.Moments.{IsTold, now, IsQuiet, LeavesOnly}
use Rattle.disk_trait.specs.NotWritten.{NotWritten}
use Rattle.disk_trait.proofs.MomentLemmas.{leaves_join, leaves_weaker}
use Rattle.lilo_model.specs.Disks.{Image, DiskSector, bytes_at}
use Rattle.lilo_model.specs.MinixParts as model
use Rattle.map_sectors.specs.declared.map.MapPlan.{MapPlan}
use Rattle.minix_choice.specs.declared.write_fault.WriteFault.{WriteFault}
use Rattle.minix_zones.specs.Volume.{volume_view, past_of}
use Rattle.minix_zones.specs.declared.volume.Volume.{Volume}
use Rattle.install_laws.specs.Writes.{IsWritable, WritesOnly}
use Rattle.install_laws.proofs.Writes.{unwritten_law}
use Rattle.install_order.specs.States.{StagesFrom}
use Rattle.install_room.specs.declared.room.Room.{Room}
use Rattle.install_stage.specs.Stages.{room_zones}

module _ {D : Type 0} {disks : Ghosts D} (start new : Volume D disks) (forced : Bool) (present : List ℕ) (plan : MapPlan) (room : Room) (result : Result (Unit {0}) WriteFault)
    (from : StagesFrom start new forced present plan room result) (told : IsTold (past_of start)) (quiet : IsQuiet (past_of start)) where
  abbrev Here : Image
  Here = now (past_of start)

  pub flushed-view : volume_view from.flushed ≡ volume_view start
  flushed-view = rw (from.syncs.kept.same_span, from.syncs.kept.same_layout) refl

  pub flushed-now : now (past_of from.flushed) ≡ Here
  flushed-now = from.syncs.flushes.same_now

  pub flushed-told : IsTold (past_of from.flushed)
  flushed-told = from.syncs.flushes.goes_on.told told

  -- the flush leaves what there was
  pub joined : (P : Image → Type 0) → P Here → LeavesOnly (past_of from.flushed) (past_of new) P → LeavesOnly (past_of start) (past_of new) P
  joined P here since =
      leaves_join (past_of start) (past_of from.flushed) (past_of new) P
      (leaves_weaker (past_of start) (past_of from.flushed) _ P from.syncs.flushes.any_moment (λ c left. subst P (sym (quiet c left)) here)) since

  module _ (only : WritesOnly (volume_view from.flushed) (room_zones room) (past_of from.flushed) (past_of new)) where
    abbrev Keeps : model.Volume → Image → Image → Type 0
    Keeps view image c = (place : DiskSector) → (IsWritable view image (room_zones room) place → ⊥) → bytes_at c place ≡ bytes_at image place

    pub writes-since : WritesOnly (volume_view start) (room_zones room) (past_of start) (past_of new)
    writes-since =
        joined (Keeps (volume_view start) Here) (λ place out. refl)
        (subst₂ (λ (v : model.Volume) (i : Image). LeavesOnly (past_of from.flushed) (past_of new) (Keeps v i)) flushed-view flushed-now only)

  module _ (d s : ℕ) (none : NotWritten (past_of from.flushed) (past_of new) d s) where
    pub stays-since : LeavesOnly (past_of start) (past_of new) (λ c. c d s ≡ Here d s)
    stays-since =
        joined (λ c. c d s ≡ Here d s) refl
        (subst (λ (i : Image). LeavesOnly (past_of from.flushed) (past_of new) (λ c. c d s ≡ i d s)) flushed-now
        (leaves_weaker (past_of from.flushed) (past_of new) _ _ (unwritten_law (past_of from.flushed) (past_of new) d s from.syncs.flushes.quiet none) (λ c all. all d s none)))
