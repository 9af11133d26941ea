use Rattle.std.proofs.Common.{length}
use Rattle.sector_address.specs.Machine.{machine_of}
use Rattle.bios_model.specs.Memory.{memory_of}
use Rattle.boot_map.specs.View.{boot_view}
use Rattle.stream_trait.specs.Shows.{sink_of}
use Rattle.disk_trait.proofs.ToldLemmas.{told_map}
use Rattle.loader_core.proofs.BootLemmas.{good_asked, good_write, keys_map}
use Rattle.loader_core.proofs.LeavesLemmas.{leaves_as}
use Rattle.loader_core.proofs.loader.boot_good.Goals as goal

pub returns-clause-went : goal.returns-clause-went
returns-clause-went g c =
    let machine = machine_of g.D.Disks c.args.bios.now.disks.now in
    let boot = boot_view c.args.boot.now in
    let size = length c.args.ram.now in
    told_map (g.D.Disks.past c.args.bios.now.disks.now) _ _
    (λ now went model good. keys_map g.I.Source _ _ _
    (λ keys left went. (
      leaves_as g.D.Disks c.args.bios.now.disks.now c.boot_asked.new.bios.disks.now c.boot_asked.result c.boot_asked.new.phase _ _ (good_write now machine boot size model keys) went.0,
      good_asked now machine boot size model keys c.boot_asked.result (memory_of c.args.ram.now) c.boot_asked.new.ram left
          (sink_of g.O.Sink c.args.out.now) (sink_of g.O.Sink c.put.new.self) (sink_of g.O.Sink c.boot_asked.new.out) c.put.ensures.shown went.1,
    ))
    (went model good))
    c.boot_asked.ensures.went
