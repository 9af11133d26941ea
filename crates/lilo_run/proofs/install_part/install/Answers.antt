-- What it begins with is read, and then it is installed.
use Rattle.std.proofs.Common.{[], rules}
use Rattle.std.specs.Prelude.{option_map}
use Rattle.bios_model.proofs.WriteLemmas.{goes_on_read}
use Rattle.bios_model.specs.Memory.{memory_of}
use Rattle.disk_trait.proofs.MomentLemmas.{told_now}
use Rattle.disk_trait.proofs.ToldLemmas.{told_map}
use Rattle.install_begin.specs.View.{begun_view}
use Rattle.lilo_model.proofs.RoseLemmas.{rose_after}
use Rattle.loader_core.proofs.LeavesLemmas.{goes_on_after}
use Rattle.mbr_table.specs.View.{device_view}
use Rattle.install_run.proofs.PhaseLemmas.{read_fails}
use Rattle.sector_address.specs.Machine.{machine_of}
use Rattle.lilo_run.proofs.AloneLemmas.{carried_leaves}
use Rattle.lilo_run.proofs.InstallLemmas.{begun_there, begun_found, refused_found}
use Rattle.install_run.proofs.PreviewStateLemmas.{told_from}
use Rattle.lilo_run.proofs.RunLemmas.{conf_part_lost}
use Rattle.lilo_run.proofs.TestLemmas.{begin_lost, begin_refuses, install_refusal_known}
use Rattle.lilo_run.proofs.install_part.install.Goals as goal

-- where the boot device lies is known of what was read
pub install_begun-requires-clause-there : goal.install_begun-requires-clause-there
install_begun-requires-clause-there g c =
    let same = c.in-Ok.ensures.same in
    let machine = machine_of g.D.Disks c.args.disks.now in
    rw (same.same_past, same.same_size, same.same_geometry)
    (told_map (g.D.Disks.past c.args.disks.now) _ _
    (λ now is. begun_there now machine (option_map device_view c.args.root) c.args.path.now (begun_view c.in-Ok.begun) is)
    c.in-Ok.ensures.begun)

pub returns-in-Ok-clause-does : goal.returns-in-Ok-clause-does
returns-in-Ok-clause-does g c =
    let same = c.in-Ok.ensures.same in
    let later = c.in-Ok.ensures.later in
    let disks = c.args.disks.now in
    let machine = machine_of g.D.Disks disks in
    let goes_on = goes_on_after g.D.Disks disks c.begin.new.disks c.install_begun.new.disks same later c.install_begun.ensures.goes_on in
    let installs = rw (same.same_past, same.same_size, same.same_geometry) at c.install_begun.ensures.installs in
    λ memory.
    told_from (g.D.Disks.past disks) _
    (λ is. begun_found g.D.Disks machine (option_map device_view c.args.root) c.args.path.now c.args.time c.install_begun.result memory disks c.install_begun.new.disks _ _ goes_on
    (begun_view c.in-Ok.begun) (told_now (g.D.Disks.past disks) _ c.in-Ok.ensures.begun is)
    (λ lost. rose_after _ _ _ later (c.install_begun.ensures.cause lost))
    (λ quiet. read_fails g.D.Disks disks c.begin.new.disks c.install_begun.new.disks same later c.install_begun.result (begun_view c.in-Ok.begun) c.install_begun.ensures.phase is quiet)
    (told_now (g.D.Disks.past disks) _ installs is))

pub returns-in-Ok-clause-leaves : goal.returns-in-Ok-clause-leaves
returns-in-Ok-clause-leaves g c =
    told_map (g.D.Disks.past c.args.disks.now) _ _
    (λ now found. carried_leaves g.D.Disks now (machine_of g.D.Disks c.args.disks.now) (option_map device_view c.args.root) c.args.path.now c.args.time found.0
    [] [] c.install_begun.result _ _ (found.1 [] 0))
    (returns-in-Ok-clause-does g c (memory_of []))

pub returns-in-Err-clause-does : goal.returns-in-Err-clause-does
returns-in-Err-clause-does g c =
    let same = c.in-Err.ensures.same in
    let disks = c.args.disks.now in
    let machine = machine_of g.D.Disks disks in
    let goes_on = goes_on_read g.D.Disks disks c.begin.new.disks same c.in-Err.ensures.later in
    λ memory.
    told_from (g.D.Disks.past disks) _
    (λ is. refused_found g.D.Disks machine (option_map device_view c.args.root) c.args.path.now c.args.time c.say_conf.result memory disks c.begin.new.disks _ _ goes_on
    c.begin_halt.result
    (begin_refuses c.args.path.now c.in-Err.fault c.begin_halt.result _ c.begin_halt.ensures (told_now (g.D.Disks.past disks) _ c.in-Err.ensures.begun is))
    c.say_conf.ensures.status c.say_conf.ensures.shown same.same_past
    (λ eight. begin_lost c.args.path.now c.say_conf.result _ _ c.in-Err.fault c.begin_halt.result eight c.begin_halt.ensures c.in-Err.ensures.cause c.say_conf.ensures.status))

pub returns-in-Err-clause-leaves : goal.returns-in-Err-clause-leaves
returns-in-Err-clause-leaves g c =
    told_map (g.D.Disks.past c.args.disks.now) _ _
    (λ now found. carried_leaves g.D.Disks now (machine_of g.D.Disks c.args.disks.now) (option_map device_view c.args.root) c.args.path.now c.args.time found.0
    [] [] c.say_conf.result _ _ (found.1 [] 0))
    (returns-in-Err-clause-does g c (memory_of []))

pub returns-in-Err-clause-known : goal.returns-in-Err-clause-known
returns-in-Err-clause-known g c = install_refusal_known c.args.path.now c.begin_halt.result c.say_conf.result c.say_conf.ensures.status

pub returns-in-Ok-clause-only : goal.returns-in-Ok-clause-only
returns-in-Ok-clause-only g c =
    let later = c.in-Ok.ensures.later in
    record {
      keeps = goes_on_after g.D.Disks c.args.disks.now c.begin.new.disks c.install_begun.new.disks c.in-Ok.ensures.same later c.install_begun.ensures.goes_on;
      failed = λ lost. rose_after _ _ _ later (c.install_begun.ensures.cause lost);
      sink = c.install_begun.ensures.sink;
      same_reference = c.install_begun.ensures.same_sink;
    }

pub returns-in-Err-clause-only : goal.returns-in-Err-clause-only
returns-in-Err-clause-only g c = record {
  keeps = goes_on_read g.D.Disks c.args.disks.now c.begin.new.disks c.in-Err.ensures.same c.in-Err.ensures.later;
  failed =
      λ lost. begin_lost c.args.path.now c.say_conf.result _ _ c.in-Err.fault c.begin_halt.result (conf_part_lost c.say_conf.result lost c.say_conf.ensures.known)
      c.begin_halt.ensures c.in-Err.ensures.cause c.say_conf.ensures.status;
  sink = search rules;
  same_reference = c.say_conf.ensures.same_reference;
}
