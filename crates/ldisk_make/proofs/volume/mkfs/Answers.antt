use Rattle.std.proofs.Common.{◌≡◌, ◌≢◌, false, ℕ, Ok, Err, inr}
use Rattle.disk_trait.proofs.CallLemmas.{goes_on_same, goes_on_join}
use Rattle.disk_trait.proofs.NotWrittenLemmas.{not_written_flushed}
use Rattle.disk_trait.proofs.ToldLemmas.{told_all, told_map}
use Rattle.disk_trait.specs.NotWritten.{NotWritten}
use Rattle.disk_trait.specs.Moments.{now, LeavesOnly}
use Rattle.lilo_model.specs.Partitions.{span_of}
use Rattle.ldisk_model.specs.Verdict.{status_of, place_check, mkfs_check, formatted_on, is_in_found}
use Rattle.mbr_table.specs.View.{device_view}
use Rattle.minix_layout.specs.View.{kind_view}
use Rattle.sector_address.specs.Machine.{machine_of}
use Rattle.minix_format.specs.Left.{LeftOrPartlyMade}
use Rattle.ldisk_make.specs.Answer.{Answers, Finds}
use Rattle.ldisk_make.proofs.VolumeLemmas.{no_place, answered, made_told, empty_told, partly_told, partly_same, unwritten_told, outside_told, refused_before, cause_before}
use Rattle.ldisk_make.proofs.volume.mkfs.Goals as goal

pub returns-in-Err-clause-status : goal.returns-in-Err-clause-status
returns-in-Err-clause-status g c =
    let machine = machine_of g.D.Disks c.args.disks.now in
    let device = device_view c.args.device in
    told_map (g.D.Disks.past c.args.disks.now) (λ now. Finds (Err c.in-Err.fault) (place_check now machine device) (span_of now machine device))
    (λ now. Answers (mkfs_check now machine device (kind_view c.args.kind) c.args.inodes) (Err c.in-Err.fault))
    (λ now finds. no_place now machine device (kind_view c.args.kind) c.args.inodes c.in-Err.fault finds)
    c.in-Err.ensures.place

pub returns-in-Err-clause-any_moment : goal.returns-in-Err-clause-any_moment
returns-in-Err-clause-any_moment g c =
    let machine = machine_of g.D.Disks c.args.disks.now in
    let device = device_view c.args.device in
    let kind = kind_view c.args.kind in
    let old = g.D.Disks.past c.args.disks.now in
    let new = g.D.Disks.past c.find_place.new.disks in
    told_all old (λ now. LeavesOnly old new (LeftOrPartlyMade old (formatted_on (span_of now machine device) kind c.args.inodes c.args.time)))
    (λ now. partly_same old new (formatted_on (span_of now machine device) kind c.args.inodes c.args.time) c.in-Err.ensures.same.same_past)

pub returns-in-Err-clause-unwritten : goal.returns-in-Err-clause-unwritten
returns-in-Err-clause-unwritten g c =
    let machine = machine_of g.D.Disks c.args.disks.now in
    let device = device_view c.args.device in
    let old = g.D.Disks.past c.args.disks.now in
    let new = g.D.Disks.past c.find_place.new.disks in
    told_all old (λ now. status_of (mkfs_check now machine device (kind_view c.args.kind) c.args.inodes) ≢ 0 → new ≡ old)
    (λ now some. c.in-Err.ensures.same.same_past)

pub returns-in-Err-clause-outside : goal.returns-in-Err-clause-outside
returns-in-Err-clause-outside g c =
    let machine = machine_of g.D.Disks c.args.disks.now in
    let device = device_view c.args.device in
    let old = g.D.Disks.past c.args.disks.now in
    let new = g.D.Disks.past c.find_place.new.disks in
    told_all old (λ now. (d s : ℕ) → is_in_found (span_of now machine device) d s ≡ false → NotWritten old new d s)
    (λ now d s out. not_written_flushed old new (inr c.in-Err.ensures.same.same_past) d s)

pub returns-in-Err-clause-goes_on : goal.returns-in-Err-clause-goes_on
returns-in-Err-clause-goes_on g c =
    let same = c.in-Err.ensures.same in
    goes_on_same g.D.Disks c.args.disks.now c.find_place.new.disks same.same_past
    record { later = c.in-Err.ensures.later; size = same.same_size; count = same.same_count; geometry = same.same_geometry }

pub returns-in-Ok-clause-status : goal.returns-in-Ok-clause-status
returns-in-Ok-clause-status g c =
    let machine = machine_of g.D.Disks c.args.disks.now in
    let device = device_view c.args.device in
    told_map (g.D.Disks.past c.args.disks.now) (λ now. Finds (Ok c.in-Ok.span) (place_check now machine device) (span_of now machine device))
    (λ now. Answers (mkfs_check now machine device (kind_view c.args.kind) c.args.inodes) c.format_in.result)
    (λ now finds. answered now machine device (kind_view c.args.kind) c.args.inodes c.in-Ok.span finds c.format_in.result c.format_in.ensures.fits)
    c.in-Ok.ensures.place

pub returns-in-Ok-clause-made : goal.returns-in-Ok-clause-made
returns-in-Ok-clause-made g c =
    made_told (machine_of g.D.Disks c.args.disks.now) (device_view c.args.device) (kind_view c.args.kind) c.args.inodes c.in-Ok.span
    (g.D.Disks.past c.args.disks.now) (g.D.Disks.past c.find_place.new.disks) c.in-Ok.ensures.same.same_past c.in-Ok.ensures.place
    c.args.time (now (g.D.Disks.past c.format_in.new.disks)) c.format_in.result c.format_in.ensures.made

pub returns-in-Ok-clause-empty : goal.returns-in-Ok-clause-empty
returns-in-Ok-clause-empty g c =
    empty_told (machine_of g.D.Disks c.args.disks.now) (device_view c.args.device) (kind_view c.args.kind) c.args.inodes c.in-Ok.span
    (g.D.Disks.past c.args.disks.now) (g.D.Disks.past c.find_place.new.disks) c.in-Ok.ensures.same.same_past c.in-Ok.ensures.place
    (g.D.Disks.size_of c.args.disks.now) (g.D.Disks.size_of c.find_place.new.disks) (now (g.D.Disks.past c.format_in.new.disks)) c.format_in.result
    c.in-Ok.ensures.same.same_size c.format_in.ensures.empty

pub returns-in-Ok-clause-any_moment : goal.returns-in-Ok-clause-any_moment
returns-in-Ok-clause-any_moment g c =
    partly_told (machine_of g.D.Disks c.args.disks.now) (device_view c.args.device) (kind_view c.args.kind) c.args.inodes c.in-Ok.span
    (g.D.Disks.past c.args.disks.now) (g.D.Disks.past c.find_place.new.disks) c.in-Ok.ensures.same.same_past c.in-Ok.ensures.place
    c.args.time (g.D.Disks.past c.format_in.new.disks) c.format_in.ensures.any_moment

pub returns-in-Ok-clause-refused : goal.returns-in-Ok-clause-refused
returns-in-Ok-clause-refused g c =
    refused_before (g.D.Disks.past c.args.disks.now) (g.D.Disks.past c.find_place.new.disks) (g.D.Disks.past c.format_in.new.disks) c.format_in.result
    c.in-Ok.ensures.same.same_past c.format_in.ensures.refused

pub returns-in-Ok-clause-unwritten : goal.returns-in-Ok-clause-unwritten
returns-in-Ok-clause-unwritten g c =
    unwritten_told (machine_of g.D.Disks c.args.disks.now) (device_view c.args.device) (kind_view c.args.kind) c.args.inodes c.in-Ok.span
    (g.D.Disks.past c.args.disks.now) (g.D.Disks.past c.find_place.new.disks) c.in-Ok.ensures.same.same_past c.in-Ok.ensures.place
    (g.D.Disks.past c.format_in.new.disks) c.format_in.ensures.unwritten

pub returns-in-Ok-clause-cause : goal.returns-in-Ok-clause-cause
returns-in-Ok-clause-cause g c =
    cause_before (g.D.Disks.faults c.args.disks.now) (g.D.Disks.faults c.find_place.new.disks) (g.D.Disks.faults c.format_in.new.disks) c.format_in.result
    c.in-Ok.ensures.later c.format_in.ensures.cause

pub returns-in-Ok-clause-outside : goal.returns-in-Ok-clause-outside
returns-in-Ok-clause-outside g c =
    outside_told (machine_of g.D.Disks c.args.disks.now) (device_view c.args.device) (kind_view c.args.kind) c.args.inodes c.in-Ok.span
    (g.D.Disks.past c.args.disks.now) (g.D.Disks.past c.find_place.new.disks) c.in-Ok.ensures.same.same_past c.in-Ok.ensures.place
    (g.D.Disks.past c.format_in.new.disks) c.format_in.ensures.outside

pub returns-in-Ok-clause-goes_on : goal.returns-in-Ok-clause-goes_on
returns-in-Ok-clause-goes_on g c =
    let same = c.in-Ok.ensures.same in
    goes_on_join g.D.Disks c.args.disks.now c.find_place.new.disks c.format_in.new.disks
    (goes_on_same g.D.Disks c.args.disks.now c.find_place.new.disks same.same_past
    record { later = c.in-Ok.ensures.later; size = same.same_size; count = same.same_count; geometry = same.same_geometry })
    c.format_in.ensures.goes_on
