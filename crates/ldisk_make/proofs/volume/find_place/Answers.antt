use Rattle.std.proofs.Common.{◌≡◌, Ok, Err, arith}
use Rattle.disk_trait.proofs.ToldLemmas.{told_all, told_map}
use Rattle.lilo_model.specs.Partitions.{span_of}
use Rattle.ldisk_model.specs.Verdict.{place_check}
use Rattle.mbr_table.specs.Gives.{Refuses}
use Rattle.mbr_table.specs.View.{device_view}
use Rattle.minix_zones.specs.View.{span_view}
use Rattle.sector_address.specs.Machine.{machine_of}
use Rattle.ldisk_make.specs.Answer.{Finds}
use Rattle.ldisk_make.specs.declared.fault.MakeFault.TheVariants.{NoPlace}
use Rattle.ldisk_make.proofs.VolumeLemmas.{place_absent, place_found, place_refused}
use Rattle.ldisk_make.proofs.volume.find_place.Goals as goal

pub returns-then-size-eq0-clause-place : goal.returns-then-size-eq0-clause-place
returns-then-size-eq0-clause-place g c =
    let machine = machine_of g.D.Disks c.args.disks.now in
    let device = device_view c.args.device in
    told_all (g.D.Disks.past c.args.disks.now) (λ now. Finds (Err NoPlace) (place_check now machine device) (span_of now machine device))
    (λ now. place_absent now machine device (omega (arith, c.size.ensures.size, c.if-size-eq0.true)))

pub returns-in-Ok-clause-place : goal.returns-in-Ok-clause-place
returns-in-Ok-clause-place g c =
    let machine = machine_of g.D.Disks c.args.disks.now in
    let device = device_view c.args.device in
    told_map (g.D.Disks.past c.args.disks.now) (λ now. span_of now machine device ≡ Ok (span_view c.in-Ok.span))
    (λ now. Finds (Ok c.in-Ok.span) (place_check now machine device) (span_of now machine device))
    (λ now is. place_found now machine device (λ none. omega (arith, c.size.ensures.size, c.if-size-eq0.false, none)) c.in-Ok.span is)
    c.in-Ok.ensures.place

pub returns-in-Err-clause-place : goal.returns-in-Err-clause-place
returns-in-Err-clause-place g c =
    let machine = machine_of g.D.Disks c.args.disks.now in
    let device = device_view c.args.device in
    told_map (g.D.Disks.past c.args.disks.now) (λ now. Refuses c.in-Err.fault (span_of now machine device))
    (λ now. Finds (Err c.place_fault.result) (place_check now machine device) (span_of now machine device))
    (λ now refuses. place_refused now machine device (λ none. omega (arith, c.size.ensures.size, c.if-size-eq0.false, none)) c.in-Err.fault c.place_fault.result refuses c.place_fault.ensures)
    c.in-Err.ensures.place
