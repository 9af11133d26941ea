-- A refusal of the device or of its superblock is one of the command.
use Rattle.std.proofs.Common.{◌≡◌, ◌≤◌, Ok, Err, rules, arith, refl}
use Rattle.lilo_model.proofs.RoseLemmas.{rose_after}
use Rattle.disk_trait.specs.Calls.{SameOf}
use Rattle.lilo_model.specs.LdiskVerdict.{room_of, command_verdict}
use Rattle.lilo_model.specs.MinixParts.{volume_at}
use Rattle.mbr_table.specs.View.{device_view, span_view}
use Rattle.mbr_table.proofs.ToldLemmas.{told_before, same_twice}
use Rattle.minix_zones.specs.View.{Refuses}
use Rattle.ldisk_run.specs.Pieces.{held_by}
use Rattle.ldisk_run.specs.Run.{Halts, HasCause, Does}
use Rattle.ldisk_run.specs.View.{reading_view}
use Rattle.ldisk_run.proofs.CommandLemmas.{held_of, room_halted, volume_halted}
use Rattle.ldisk_run.proofs.HaltLemmas.{zone_cause}
use Rattle.disk_trait.proofs.ToldLemmas.{told_map, told_both}
use Rattle.sector_address.specs.Machine.{machine_of}
use Rattle.ldisk_run.proofs.command.carry_out.Goals as goal

pub returns-in_err-span-clause-does : goal.returns-in_err-span-clause-does
returns-in_err-span-clause-does g c =
    let disks = c.args.disks.now in
    let machine = machine_of g.D.Disks disks in
    let command = reading_view c.args.reading in
    let device = device_view c.device_of.result in
    let held = held_by g.O.Sink c.args.out.now in
    let halt = c.in_err-span.field-0.0 in
    let given : c.from_residual.result ≡ Err halt = search rules in
    rw given
    (told_map (g.D.Disks.past disks) (λ now. Halts halt (room_of now machine device)) (λ now. Does (command_verdict now machine command) (Err halt) held held)
    (λ now halts. room_halted now machine command device halt held c.device_of.ensures halts) c.in_err-span.ensures.room)

pub returns-in-Err-clause-does : goal.returns-in-Err-clause-does
returns-in-Err-clause-does g c =
    let disks = c.args.disks.now in
    let mid = c.find_room.new.disks in
    let machine = machine_of g.D.Disks disks in
    let command = reading_view c.args.reading in
    let device = device_view c.device_of.result in
    let span = span_view c.in_ok-span.span in
    let held = held_by g.O.Sink c.args.out.now in
    let fault = c.in-Err.fault in
    let halt = c.refused.result in
    told_both (g.D.Disks.past disks) (λ now. room_of now machine device ≡ Ok span) (λ now. Refuses fault (volume_at now span))
    (λ now. Does (command_verdict now machine command) (Err halt) held held)
    (λ now room refused. volume_halted now machine command device span fault halt held c.device_of.ensures room refused c.refused.ensures.told)
    c.in_ok-span.ensures.room
    (told_before (g.D.Disks.past disks) (g.D.Disks.past mid) (λ now. Refuses fault (volume_at now span)) c.in_ok-span.ensures.same.same_past c.in-Err.ensures.volume)

pub returns-in-Err-clause-cause : goal.returns-in-Err-clause-cause
returns-in-Err-clause-cause g c =
    let faults = g.D.Disks.faults in
    let found = c.in-Err.disks.now in
    held_of (λ disks. HasCause (faults c.args.disks.now) (faults disks) c.refused.result) found
    (zone_cause (faults c.args.disks.now) (faults found) c.in-Err.fault c.refused.result
    (λ is. rose_after (faults c.args.disks.now) (faults c.find_room.new.disks) (faults found) c.in_ok-span.ensures.later (c.in-Err.ensures.device (rw is refl))) c.refused.ensures.told)
    (search rules)

pub returns-in-Err-clause-later : goal.returns-in-Err-clause-later
returns-in-Err-clause-later g c =
    let faults = g.D.Disks.faults in
    let found = c.in-Err.disks.now in
    let first = c.in_ok-span.ensures.later in
    let second : faults c.find_room.new.disks ≤ faults found = c.in-Err.ensures.later in
    held_of (λ disks. faults c.args.disks.now ≤ faults disks) found (omega (arith, first, second)) (search rules)

pub returns-in-Err-clause-same : goal.returns-in-Err-clause-same
returns-in-Err-clause-same g c =
    let d = g.D.Disks in
    let found = c.in-Err.disks.now in
    held_of (λ disks. SameOf d c.args.disks.now disks) found
    (same_twice d.past d.size_of d.count_of d.geometry_of c.args.disks.now c.find_room.new.disks found c.in_ok-span.ensures.same c.in-Err.ensures.same)
    (search rules)
