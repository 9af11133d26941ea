-- What is known of an installation that began, and of what it plans.
use Rattle.std.proofs.Common.{◌≡◌, ℕ, List, Option, refl, sym, ◌∙◌, subst}
use Rattle.std.specs.Prelude.{IfSome}
use Rattle.disk_trait.specs.declared.disks.Disks.{Ghosts}
use Rattle.disk_trait.specs.declared.disks.Span as spans
use Rattle.disk_trait.specs.Moments.{IsTold, now}
use Rattle.disk_trait.specs.Past.{Told}
use Rattle.disk_trait.proofs.MomentLemmas.{told_now}
use Rattle.lilo_model.specs.Disks.{Image, Machine, DiskSector}
use Rattle.lilo_model.specs.Settled as settles
use Rattle.lilo_conf.specs.declared.config.Config as configs
use Rattle.mbr_table.specs.declared.device.Device as devices
use Rattle.minix_zones.specs.Volume.{volume_view, past_of}
use Rattle.minix_zones.specs.declared.volume.Volume.{Volume}
use Rattle.minix_zones.proofs.SameLemmas.{same_view}
use Rattle.sector_address.specs.Machine.{machine_of}
use Rattle.install_stage_laws.specs.BeginLaws.{Begins}
use Rattle.install_stage_laws.proofs.Apart.{apart_boot_law}
use Rattle.install_laws.specs.InstallVerdict.{Begun}
use Rattle.install_laws.specs.Writes.{IsApartSector}
use Rattle.install_order.specs.Answers.{Leaves, Promises, Settled}
use Rattle.install_order.specs.Begins.{LiesThere, AreOwn, IsBegun}
use Rattle.install_order.specs.Checks.{IsExamined}
use Rattle.install_order.specs.Plans.{Surveys}
use Rattle.install_order.specs.Stageable.{MayStage}
use Rattle.install_order.specs.View.{begun_of}
use Rattle.install_order.specs.declared.planned.Planned.{Planned}
use Rattle.install_order.specs.declared.surveyed.Surveyed.{Surveyed}
use Rattle.install_room.specs.Room.{KeepsOut}
use Rattle.install_join_laws.specs.Steps.{HasPlanned, IsBegunWith, begun_from, machine_on}

module _ {D : Type 0} {disks : Ghosts D} (entry : Volume D disks) (config : configs.Config) (boot : spans.Span) (time : ℕ) (surveyed : Surveyed D disks)
    (is : IsBegunWith entry config boot time surveyed) where
  abbrev pub Start : Image
  Start = now (past_of entry)

  abbrev pub Settled-image : Image
  Settled-image = now (past_of surveyed.volume)

  abbrev pub On : Machine
  On = machine_on entry

  abbrev pub From : Begun
  From = begun_from entry surveyed

  -- what holds of the boot device that there is holds of what was begun with
  from : (P : Begun → Type 0) → IfSome config.boot (λ device. P (begun_of entry config device boot)) → P From
  from P each =
      let one = subst (λ (o : Option devices.Device). IfSome o (λ device. P (begun_of entry config device boot))) is.held.device_is each in
      subst (λ (c : configs.Config). P (begun_of entry c surveyed.device surveyed.boot)) (sym is.held.config_is)
      (subst (λ (b : spans.Span). P (begun_of entry config surveyed.device b)) (sym is.held.boot_is) one)

  pub leaves : Leaves entry surveyed.volume From
  leaves = from (λ b. Leaves entry surveyed.volume b) is.leaves

  pub begun : IsBegun Start On From surveyed.found Settled-image
  begun = from (λ b. Settled entry b surveyed) is.settled is.told

  pub begins : LiesThere Start On From → Begins From.volume On From.span (past_of entry) (past_of surveyed.volume)
  begins there = from (λ b. Promises entry b surveyed) is.promises is.told there

  pub examined : IsExamined Start On From.volume From.config From.boot From.span surveyed.found
  examined =
      told_now (past_of entry) (λ image. IsExamined image On From.volume From.config From.boot From.span surveyed.found)
      (from (λ b. Told (past_of entry) (λ image. IsExamined image On b.volume b.config b.boot b.span surveyed.found)) is.found) is.told

  pub told-after : IsTold (past_of surveyed.volume)
  told-after = leaves.goes_on.told is.told

  pub machine-same : machine_of disks surveyed.volume.disks.now ≡ On
  machine-same = rw (leaves.goes_on.size, leaves.goes_on.geometry) refl

  pub view-same : volume_view surveyed.volume ≡ volume_view entry
  view-same = rw (leaves.kept.same_span, leaves.kept.same_layout) refl

  -- the boot sector is none of the volume's past its block 0
  pub boot-apart : LiesThere Start On From → IsApartSector From.volume From.span.disk From.span.start
  boot-apart there = apart_boot_law Start On From.volume From.config From.boot From.span examined.sound examined.apart there

  -- ---- what is planned

  module _ (planned : Planned D disks) (has : HasPlanned surveyed planned) where
    pub plan-view-same : volume_view planned.volume ≡ volume_view entry
    plan-view-same = same_view surveyed.volume planned.volume has.same ∙ view-same

    pub plan-machine-same : machine_of disks planned.volume.disks.now ≡ On
    plan-machine-same = rw (has.same.same_disks.same_size, has.same.same_disks.same_geometry) machine-same

    -- for the names that are replaced, and places that the present map keeps out
    pub may-stage : (names : settles.OwnNames) (places : List DiskSector) → AreOwn Start From names → KeepsOut From.volume places surveyed.found.old
        → MayStage Settled-image On names places planned
    may-stage names places own keeps =
        let are = from (λ b. Surveys entry b surveyed) is.surveys is.told names places own keeps in
        let may = told_now (past_of surveyed.volume) _ has.may told-after names places are is.held.settled_is in
        subst (λ (m : Machine). MayStage Settled-image m names places planned) machine-same may
