-- Zone by zone.
use Rattle.std.proofs.Common.{◌≡◌, ◌≤◌, true, false, rules}
use Rattle.minix_zones.specs.Volume.{volume_view, past_of}
use Rattle.sector_address.specs.Machine.{machine_of}
use Rattle.install_laws.specs.InstallVerdict.{is_clear}
use Rattle.disk_trait.proofs.ToldLemmas.{told_map}
use Rattle.minix_zones.proofs.SameLemmas.{told_back}
use Rattle.present_map.proofs.ClearLemmas.{SaysZone, answered, clear_at_end, clear_not}
use Rattle.present_map.proofs.clear.is_clear.Goals as goal

pub returns-then-not-branch-clause-clear : goal.returns-then-not-branch-clause-clear
returns-then-not-branch-clause-clear g c =
    let volume = volume_view c.args.volume.now in
    let machine = machine_of g.D.Disks c.args.volume.now.disks.now in
    let findings = c.args.findings.now in
    let old = c.args.old.now in
    let zone = c.loop-zone.zone in
    let ours : old.foreign ≡ false = search rules in
    let none : c.in_ok-is_clear_zone.field-0 ≡ false = search rules in
    told_map (past_of c.args.volume.now) _ _
    (λ now says boot met is found.
    answered old.foreign (is_clear volume now met machine boot) false ours (clear_not volume now findings old machine boot met is found zone (rw none at says)))
    (told_back c.args.volume.now c.loop-zone.volume (λ volume now. SaysZone volume now findings old zone c.in_ok-is_clear_zone.field-0) c.loop-zone.invariant.same
    c.in_ok-is_clear_zone.ensures.clear)

pub returns-clause-clear : goal.returns-clause-clear
returns-clause-clear g c =
    let volume = volume_view c.args.volume.now in
    let machine = machine_of g.D.Disks c.args.volume.now.disks.now in
    let old = c.args.old.now in
    let ours : old.foreign ≡ false = search rules in
    let past : volume.layout.zones ≤ c.loop-zone.zone = search rules in
    told_map (past_of c.args.volume.now) _ _
    (λ now before boot met is found.
    answered old.foreign (is_clear volume now met machine boot) true ours
    (clear_at_end volume now c.args.findings.now old machine boot met is found c.loop-zone.zone past before))
    c.loop-zone.invariant.plain
