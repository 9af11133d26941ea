-- What it begins with is read, and then it is tested.
use Rattle.std.specs.Prelude.{option_map}
use Rattle.mbr_table.specs.View.{device_view}
use Rattle.sector_address.specs.Machine.{machine_of}
use Rattle.disk_trait.proofs.ToldLemmas.{told_map, told_both}
use Rattle.install_begin.specs.View.{begun_view}
use Rattle.lilo_run.proofs.TestLemmas.{test_done, test_refused, refusal_known}
use Rattle.lilo_run.proofs.test_part.test.Goals as goal

pub returns-in-Ok-clause-does : goal.returns-in-Ok-clause-does
returns-in-Ok-clause-does g c =
    let same = c.in-Ok.ensures.same in
    let machine = machine_of g.D.Disks c.args.disks.now in
    λ memory.
    told_both (g.D.Disks.past c.args.disks.now) _ _ _
    (λ now is answers. test_done now machine c.args.time (option_map device_view c.args.root) c.args.path.now c.preview_begun.result memory _ _ (begun_view c.in-Ok.begun) is answers)
    c.in-Ok.ensures.begun (rw (same.same_past, same.same_size, same.same_geometry) at c.preview_begun.ensures.answers)

pub returns-in-Err-clause-does : goal.returns-in-Err-clause-does
returns-in-Err-clause-does g c =
    let machine = machine_of g.D.Disks c.args.disks.now in
    λ memory.
    told_map (g.D.Disks.past c.args.disks.now) _ _
    (λ now refuses. test_refused now machine c.args.time (option_map device_view c.args.root) c.args.path.now c.say_conf.result memory _ _ c.in-Err.fault c.begin_halt.result refuses c.begin_halt.ensures
    c.say_conf.ensures.status c.say_conf.ensures.some c.say_conf.ensures.shown)
    c.in-Err.ensures.begun

pub returns-in-Err-clause-known : goal.returns-in-Err-clause-known
returns-in-Err-clause-known g c = refusal_known c.args.path.now c.begin_halt.result c.say_conf.result c.say_conf.ensures.status
