-- What is staged promises what the headline asks until the commit.
use Rattle.std.proofs.Common.{◌≡◌, ◌⊎◌, ℕ, Bool, Option, Result, Err, inl, inr, refl, sym, ◌∙◌, subst, subst₂}
use Rattle.disk_trait.specs.declared.disks.Disks.{Ghosts}
use Rattle.disk_trait.specs.declared.disks.Span as spans
use Rattle.disk_trait.specs.Moments.{IsTold, now, IsQuiet, LeavesOnly}
use Rattle.disk_trait.specs.Past.{Past}
use Rattle.disk_trait.proofs.MomentLemmas.{leaves_none, leaves_weaker}
use Rattle.lilo_model.specs.Clear.{Clear}
use Rattle.lilo_model.specs.Disks.{Image, Machine, Span}
use Rattle.lilo_model.specs.Mapped.{mapped_sectors}
use Rattle.lilo_model.specs.MinixParts as model
use Rattle.lilo_conf.specs.declared.config.Config as configs
use Rattle.minix_choice.specs.declared.write_fault.WriteFault.{WriteFault}
use Rattle.minix_choice.specs.declared.write_fault.WriteFault.TheVariants as writes
use Rattle.minix_zones.specs.View.{span_view}
use Rattle.minix_zones.specs.Volume.{volume_view, past_of, Syncs}
use Rattle.minix_zones.specs.declared.volume.Volume.{Volume}
use Rattle.minix_zones.specs.declared.zone_fault.ZoneFault.TheVariants as zones
use Rattle.sector_address.specs.Machine.{machine_of}
use Rattle.boot_laws.specs.SameOn.{SameOn}
use Rattle.boot_laws.proofs.Boots.{mapped_law}
use Rattle.install_laws.specs.Boots.{HasBootOf, SparesMapped}
use Rattle.install_laws.specs.Stopped.{Prepares, StaysAsBefore}
use Rattle.install_laws.specs.Writes.{AreAvoided, IsApartSector, WritesOnly}
use Rattle.install_laws.proofs.Stopped.{prepares_law}
use Rattle.install_laws.proofs.Writes.{spares_law}
use Rattle.install_order.specs.Begins.{LiesThere}
use Rattle.install_order.specs.Stageable.{MayStageNow, path_made}
use Rattle.install_order.specs.States.{StagesFrom, is_forced}
use Rattle.install_order.specs.declared.planned.Planned.{Planned}
use Rattle.install_order.specs.declared.surveyed.Surveyed.{Surveyed}
use Rattle.install_stage.specs.Stages.{room_zones, StagesRoom}
use Rattle.install_join_laws.specs.JoinLaws.{BeginningStopsLaw, StagingPreparesLaw, StagingStopsLaw}
use Rattle.install_join_laws.specs.Steps.{HasPlanned, IsBegunWith, begun_from, machine_on}
use Rattle.install_join_laws.proofs.Begun.{begins, begun, boot-apart, may-stage, plan-view-same, told-after}
use Rattle.install_join_laws.proofs.Flushed.{flushed-told, flushed-view, stays-since, writes-since}

module _ {D : Type 0} {disks : Ghosts D} (entry : Volume D disks) (config : configs.Config) (boot : spans.Span) (time : ℕ) (surveyed : Surveyed D disks) (planned : Planned D disks)
    (is : IsBegunWith entry config boot time surveyed) (has : HasPlanned surveyed planned) (there : LiesThere (now (past_of entry)) (machine_on entry) (begun_from entry surveyed)) where
  abbrev View : model.Volume
  View = volume_view entry

  abbrev M : Machine
  M = machine_on entry

  abbrev S : Span
  S = span_view surveyed.boot

  abbrev Was : Image
  Was = now (past_of entry)

  abbrev Is : Image
  Is = now (past_of surveyed.volume)

  past-same : past_of planned.volume ≡ past_of surveyed.volume
  past-same = has.same.same_disks.same_past

  told : IsTold (past_of surveyed.volume)
  told = told-after entry config boot time surveyed is

  -- what is left from then on, of what spares the map and the boot sector
  prepared : (ended : Option Past) → IsTold ended → (Clear View Was M S → SparesMapped M S (past_of surveyed.volume) ended)
      → LeavesOnly (past_of surveyed.volume) ended (HasBootOf S Is) → Prepares M View S (past_of entry) (past_of surveyed.volume) ended
  prepared ended told-ended spares stays =
      let all = begins entry config boot time surveyed is there in
      record { told = (told, told-ended); begin = all.begin; begin_boot = all.begin_boot; stage = spares; stage_boot = stays }

  -- where nothing was done
  pub prepared-none : (ended : Option Past) → ended ≡ past_of surveyed.volume → Prepares M View S (past_of entry) (past_of surveyed.volume) ended
  prepared-none ended same =
      subst (λ (p : Option Past). Prepares M View S (past_of entry) (past_of surveyed.volume) p) (sym same)
      (prepared (past_of surveyed.volume) told
      (λ clear. leaves_none (past_of surveyed.volume) _ (λ c left. subst (SameOn (mapped_sectors Is M S) Is) (sym (is.quiet_after c left)) (λ k d below. refl)))
      (leaves_none (past_of surveyed.volume) _ (λ c left. subst (HasBootOf S Is) (sym (is.quiet_after c left)) refl)))

  module _ (new : Volume D disks) (result : Result (Unit {0}) WriteFault) (from : StagesFrom planned.volume new (is_forced planned) planned.present planned.plan planned.room result) where
    told-plan : IsTold (past_of planned.volume)
    told-plan = subst IsTold (sym past-same) told

    quiet-plan : IsQuiet (past_of planned.volume)
    quiet-plan = subst IsQuiet (sym past-same) is.quiet_after

    -- the files were staged since the flush, for some names
    room-now : MayStageNow planned
    room-now = has.ready.may told-plan (has.held.settled_is ∙ is.held.settled_is)

    stages : StagesRoom from.flushed new (machine_of disks planned.volume.disks.now) (is_forced planned) (path_made planned.room.backup room-now.names.backup) planned.present room-now.names.map planned.plan planned.room result
    stages = from.stages (machine_of disks planned.volume.disks.now) (path_made planned.room.backup room-now.names.backup) room-now.names.map (λ t. room-now.room)

    room-free : ℕ → Bool
    room-free = room_zones planned.room

    writes-only : WritesOnly View room-free (past_of surveyed.volume) (past_of new)
    unfolding room-free
    writes-only =
        subst₂ (λ (v : model.Volume) (p : Option Past). WritesOnly v room-free p (past_of new)) (plan-view-same entry config boot time surveyed is planned has) past-same
        (writes-since planned.volume new (is_forced planned) planned.present planned.plan planned.room result from told-plan quiet-plan stages.only)

    -- a Clear map's sectors are none of the chosen zones'
    spares : Clear View Was M S → SparesMapped M S (past_of surveyed.volume) (past_of new)
    unfolding room-free
    spares clear =
        let b = begun entry config boot time surveyed is in
        let may = may-stage entry config boot time surveyed is planned has b.names (mapped_sectors Is M S) b.are (b.map there clear).zones in
        let avoided = subst (λ (v : model.Volume). AreAvoided v room-free (mapped_sectors Is M S)) (plan-view-same entry config boot time surveyed is planned has) may.avoids in
        spares_law View M S room-free (past_of surveyed.volume) (past_of new) (b.clear there clear) avoided writes-only

    stays : LeavesOnly (past_of surveyed.volume) (past_of new) (HasBootOf S Is)
    stays =
        let view = flushed-view planned.volume new (is_forced planned) planned.present planned.plan planned.room result from told-plan quiet-plan ∙ plan-view-same entry config boot time surveyed is planned has in
        let apart = subst (λ (v : model.Volume). IsApartSector v S.disk S.start) (sym view) (boot-apart entry config boot time surveyed is there) in
        let flushed = flushed-told planned.volume new (is_forced planned) planned.present planned.plan planned.room result from told-plan quiet-plan in
        subst (λ (p : Option Past). LeavesOnly p (past_of new) (HasBootOf S (now p))) past-same
        (stays-since planned.volume new (is_forced planned) planned.present planned.plan planned.room result from told-plan quiet-plan S.disk S.start
        (stages.apart flushed S.disk S.start apart))

    pub prepared-staged : Prepares M View S (past_of entry) (past_of surveyed.volume) (past_of new)
    prepared-staged = prepared (past_of new) (from.goes_on.told told-plan) spares stays

pub beginning_stops_law : {D : Type 0} (disks : Ghosts D) → BeginningStopsLaw disks
beginning_stops_law disks entry ended config device boot quiet there leaves =
    let run = leaves.any_moment quiet in
    record {
      boots = λ clear. leaves_weaker (past_of entry) (past_of ended) _ _ run (λ c b keys memory. mapped_law (now (past_of entry)) c (machine_on entry) (span_view boot) keys memory (b.spared there clear));
      boot = leaves_weaker (past_of entry) (past_of ended) _ _ run (λ c b. b.boot there);
    }

pub staging_prepares_law : {D : Type 0} (disks : Ghosts D) → StagingPreparesLaw disks
staging_prepares_law disks entry new config boot time surveyed planned result is has there from = prepared-staged entry config boot time surveyed planned is has there new result from

pub staging_stops_law : {D : Type 0} (disks : Ghosts D) → StagingStopsLaw disks
staging_stops_law disks entry config boot time surveyed planned halt is has there halts = by halts.stops
  where
    stop : Prepares (machine_on entry) (volume_view entry) (span_view surveyed.boot) (past_of entry) (past_of surveyed.volume) (past_of halt.volume)
        → StaysAsBefore (machine_on entry) (volume_view entry) (span_view surveyed.boot) (past_of entry) (past_of halt.volume)
    stop = prepares_law (machine_on entry) (volume_view entry) (span_view surveyed.boot) (past_of entry) (past_of surveyed.volume) (past_of halt.volume)

    by : (Syncs planned.volume halt.volume zones.Device (Err zones.Device) × (halts.fault ≡ writes.Device)) ⊎ StagesFrom planned.volume halt.volume (is_forced planned) planned.present planned.plan planned.room (Err halts.fault)
        → StaysAsBefore (machine_on entry) (volume_view entry) (span_view surveyed.boot) (past_of entry) (past_of halt.volume)
    by (inl failed) = stop (prepared-none entry config boot time surveyed planned is has there (past_of halt.volume) (failed.0.flushes.failed ∙ has.same.same_disks.same_past))
    by (inr from) = stop (prepared-staged entry config boot time surveyed planned is has there halt.volume (Err halts.fault) from)
