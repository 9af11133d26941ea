-- The volume is as it was found.
use Rattle.std.proofs.Common.{◌≡◌, ◌∙◌, refl, sym, ap, subst, rules}
use Rattle.disk_trait.specs.Calls.{GoesOn}
use Rattle.disk_trait.specs.Moments.{now, IsQuiet}
use Rattle.disk_trait.specs.Past.{Told}
use Rattle.disk_trait.proofs.CallLemmas.{goes_on_same}
use Rattle.lilo_model.specs.Faults.{Rose}
use Rattle.disk_trait.proofs.ToldLemmas.{told_map, told_both}
use Rattle.minix_zones.specs.Volume.{volume_view}
use Rattle.mbr_table.specs.View.{span_view}
use Rattle.sector_address.specs.Machine.{machine_of}
use Rattle.stream_trait.specs.Shows.{sink_of}
use Rattle.install_begin.specs.View.{begun_view}
use Rattle.install_run.proofs.TrialLemmas.{laid_told, of_some}
use Rattle.install_run.specs.Installs.{InstallsBegun, OnVolume}
use Rattle.install_run.specs.Phases.{FailsBy, FailsIn}
use Rattle.install_run.proofs.InstalledLemmas.{no_volume, zone_known, zone_lost}
use Rattle.install_run.specs.Staged.{IsStagedOn}
use Rattle.install_run.proofs.PhaseLemmas.{attached_fails, disk_fault_at, fails_still}
use Rattle.install_run.proofs.PreviewStateLemmas.{told_from}
use Rattle.install_run.proofs.install.install_begun.Goals as goal

pub install-requires-clause-whole : goal.install-requires-clause-whole
install-requires-clause-whole g c = rw (c.in-Ok.ensures.same.same_past, c.in-Ok.ensures.same.same_size) c.requires.whole

pub install-requires-clause-laid : goal.install-requires-clause-laid
install-requires-clause-laid g c =
    laid_told g.D.Disks c.args.disks.now c.in-Ok.volume.disks.now (span_view c.args.begun.volume) (volume_view c.in-Ok.volume) c.in-Ok.ensures.same c.in-Ok.ensures.volume
    c.requires.whole c.requires.room.ends c.in-Ok.volume.whole

pub install-requires-clause-on_disk : goal.install-requires-clause-on_disk
install-requires-clause-on_disk g c = rw c.in-Ok.ensures.same.same_size c.requires.boot

pub install-requires-clause-device : goal.install-requires-clause-device
install-requires-clause-device g c = rw c.requires.device refl

pub install-requires-clause-there : goal.install-requires-clause-there
install-requires-clause-there g c =
    let same = c.in-Ok.ensures.same in
    rw (c.requires.device, same.same_past, same.same_size, same.same_geometry) c.requires.there

pub returns-in-Ok-clause-installs : goal.returns-in-Ok-clause-installs
returns-in-Ok-clause-installs g c =
    let same = c.in-Ok.ensures.same in
    let end : c.install.result.1.now ≡ c.disks-1.given.0 = search rules in
    let machine = machine_of g.D.Disks c.args.disks.now in
    subst
    (λ disks. Told (g.D.Disks.past c.args.disks.now) (λ now. InstallsBegun now machine c.args.time (begun_view c.args.begun) (g.D.Disks.past c.args.disks.now) (g.D.Disks.past disks) c.install.result.0
    (sink_of g.O.Sink c.args.out.now) (sink_of g.O.Sink c.install.new.out))) end
    (told_both (g.D.Disks.past c.args.disks.now) _ _ _
    (λ now is installs. OnVolume (volume_view c.in-Ok.volume) is installs)
    c.in-Ok.ensures.volume (rw (same.same_past, same.same_size, same.same_geometry) at (of_some c.args.begun.config.boot c.args.begun.device _ c.requires.device c.install.ensures.installs)))

pub returns-in-Err-clause-installs : goal.returns-in-Err-clause-installs
returns-in-Err-clause-installs g c =
    let machine = machine_of g.D.Disks c.args.disks.now in
    let end : c.disks-in-Err-4-1.given.0 ≡ c.in-Err.disks.now = search rules in
    told_map (g.D.Disks.past c.args.disks.now) _ _
    (λ now refuses. no_volume now machine c.args.time (begun_view c.args.begun) c.in-Err.fault c.say_zone.result _ _ (sink_of g.O.Sink c.args.out.now) (sink_of g.O.Sink c.say_zone.new.out) refuses
    c.say_zone.ensures.answers (ap g.D.Disks.past end ∙ c.in-Err.ensures.same.same_past))
    c.in-Err.ensures.volume

pub returns-in-Err-clause-statuses : goal.returns-in-Err-clause-statuses
returns-in-Err-clause-statuses g c = zone_known c.in-Err.fault c.say_zone.result c.say_zone.ensures.answers.status_is

pub returns-in-Err-clause-cause : goal.returns-in-Err-clause-cause
returns-in-Err-clause-cause g c lost =
    let device = zone_lost c.in-Err.fault c.say_zone.result c.say_zone.ensures.answers.status_is lost in
    let end : c.disks-in-Err-4-1.given.0 ≡ c.in-Err.disks.now = search rules in
    subst (λ disks. Rose (g.D.Disks.faults c.args.disks.now) (g.D.Disks.faults disks)) (sym end) (c.in-Err.ensures.device (rw device refl))

pub returns-in-Err-clause-goes_on : goal.returns-in-Err-clause-goes_on
returns-in-Err-clause-goes_on g c =
    let same = c.in-Err.ensures.same in
    let end : c.disks-in-Err-4-1.given.0 ≡ c.in-Err.disks.now = search rules in
    subst (λ disks. GoesOn g.D.Disks c.args.disks.now disks) (sym end)
    (goes_on_same g.D.Disks c.args.disks.now c.in-Err.disks.now same.same_past
    record { later = c.in-Err.ensures.later; size = same.same_size; count = same.same_count; geometry = same.same_geometry })

-- ---- in which phase a disk failed

pub returns-in-Ok-clause-phase : goal.returns-in-Ok-clause-phase
returns-in-Ok-clause-phase g c =
    let machine = machine_of g.D.Disks c.args.disks.now in
    let end : c.install.result.1.now ≡ c.disks-1.given.0 = search rules in
    subst
    (λ disks. Told (g.D.Disks.past c.args.disks.now) (λ now. IsQuiet (g.D.Disks.past c.args.disks.now)
    → FailsBy g.D.Disks c.install.result.0 (IsStagedOn now machine (begun_view c.args.begun) (g.D.Disks.past c.args.disks.now)) (span_view c.args.begun.boot) c.args.disks.now disks)) end
    (attached_fails g.D.Disks c.args.disks.now c.in-Ok.volume.disks.now c.install.result.1.now c.in-Ok.ensures.same c.in-Ok.ensures.later c.install.result.0 (begun_view c.args.begun)
    (volume_view c.in-Ok.volume) c.in-Ok.ensures.volume (of_some c.args.begun.config.boot c.args.begun.device _ c.requires.device c.install.ensures.phase))

pub returns-in-Err-clause-phase : goal.returns-in-Err-clause-phase
returns-in-Err-clause-phase g c =
    let machine = machine_of g.D.Disks c.args.disks.now in
    let past = g.D.Disks.past c.args.disks.now in
    told_from past _
    (λ told quiet phase is.
    let lost = disk_fault_at c.say_zone.result phase is in
    let device = zone_lost c.in-Err.fault c.say_zone.result c.say_zone.ensures.answers.status_is lost in
    let end : c.disks-in-Err-4-1.given.0 ≡ c.in-Err.disks.now = search rules in
    let eight : c.say_zone.result ≡ 8 = rw device at c.say_zone.ensures.answers.status_is in
    subst (λ disks. FailsIn g.D.Disks phase (IsStagedOn (now past) machine (begun_view c.args.begun) past) (span_view c.args.begun.boot) c.args.disks.now disks) (sym end)
    (fails_still g.D.Disks (IsStagedOn (now past) machine (begun_view c.args.begun) past) (span_view c.args.begun.boot) c.args.disks.now c.in-Err.disks.now c.in-Err.ensures.same.same_past quiet (c.in-Err.ensures.device (rw device refl)) phase
    (sym eight ∙ is)))
