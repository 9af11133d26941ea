use Rattle.std.proofs.Common.{arith, rules}
use Rattle.sector_address.specs.Machine.{machine_of}
use Rattle.bios_model.specs.Memory.{memory_of}
use Rattle.section_loader.specs.File.{rest_in}
use Rattle.loader_core.proofs.KernelLemmas.{kernel_placed}
use Rattle.section_loader.proofs.RestLemmas.{ended_rest}
use Rattle.disk_trait.proofs.ToldLemmas.{told_both}
use Rattle.loader_core.proofs.kernel.place_kernel.Goals as goal

pub returns-clause-placed : goal.returns-clause-placed
returns-clause-placed g c =
    let same = c.in_ok-load_bytes.ensures.reads.same in
    let machine = machine_of g.D.Disks c.args.disks.now in
    let protected = rw (same.same_past, same.same_size, same.same_geometry) at c.load_bytes-2.ensures.loaded in
    told_both (g.D.Disks.past c.args.disks.now) _ _ _
    (λ now one other.
    kernel_placed c.args.layout.now c.args.first.now c.args.second.now c.load_bytes-2.result
    (rest_in now machine c.args.file.now) (rest_in now machine c.load_bytes.new.file) (rest_in now machine c.load_bytes-2.new.file)
    (memory_of c.args.ram.now) (memory_of c.place.new.ram) (memory_of c.place-2.new.ram) (memory_of c.load_bytes.new.ram) (memory_of c.load_bytes-2.new.ram)
    (search rules) (search rules) c.requires.kernel.least
    c.place.ensures.memory c.place-2.ensures.memory one other
    (λ done is.
    let left = rw is at c.load_bytes-2.ensures.left in
    let counted = rw is at c.load_bytes-2.ensures.counted in
    ended_rest now machine c.load_bytes-2.new.file
    (omega (arith, left, c.in_ok-load_bytes.ensures.left, c.requires.kernel.rest, c.requires.kernel.least)) counted))
    c.in_ok-load_bytes.ensures.loaded protected
