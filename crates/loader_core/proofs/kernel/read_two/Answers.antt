use Rattle.sector_address.specs.Machine.{machine_of}
use Rattle.section_loader.specs.File.{rest_in}
use Rattle.loader_core.proofs.KernelLemmas.{two_read}
use Rattle.disk_trait.proofs.ToldLemmas.{told_both}
use Rattle.loader_core.proofs.kernel.read_two.Goals as goal

pub returns-clause-bytes : goal.returns-clause-bytes
returns-clause-bytes g c =
    let same = c.in_ok-read_cut.ensures.reads.same in
    let machine = machine_of g.D.Disks c.args.disks.now in
    let second = rw (same.same_past, same.same_size, same.same_geometry) at c.read_cut-2.ensures.bytes in
    told_both (g.D.Disks.past c.args.disks.now) _ _ _
    (λ now one other.
    two_read c.args.file.now.left c.read_cut.new.file.left c.read_cut-2.result (rest_in now machine c.args.file.now) (rest_in now machine c.read_cut.new.file) (rest_in now machine c.read_cut-2.new.file)
    c.read_cut.new.into c.read_cut-2.new.into c.in_ok-read_cut.ensures.left one other)
    c.in_ok-read_cut.ensures.bytes second
