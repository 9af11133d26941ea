use Rattle.std.proofs.Common.{None, Ok, refl, arith}
use Rattle.sector_address.specs.Machine.{machine_of}
use Rattle.bios_model.specs.Memory.{memory_of}
use Rattle.sector_address.specs.View.{slot_view}
use Rattle.setup_header.specs.View.{region_view}
use Rattle.boot_map.specs.View.{descriptor_view}
use Rattle.std.specs.Option.{option_map}
use Rattle.loader_core.specs.Kernel.{PlacesInitrd}
use Rattle.loader_core.specs.Report.{initrd_read, initrd_rest}
use Rattle.lilo_model.specs.Section.{file_content}
use Rattle.section_loader.specs.Reading.{content_rest}
use Rattle.section_loader.specs.File.{rest_in}
use Rattle.section_loader.specs.Load.{Loads}
use Rattle.loader_core.proofs.KernelLemmas.{initrd_placed, none_from}
use Rattle.section_loader.proofs.RestLemmas.{ended_rest}
use Rattle.disk_trait.proofs.ToldLemmas.{told_all, told_map}
use Rattle.loader_core.proofs.kernel.load_initrd.Goals as goal

pub returns-in_default-2-clause-placed : goal.returns-in_default-2-clause-placed
unfolding initrd_rest
returns-in_default-2-clause-placed g c =
    let none = none_from c.args.region c.args.entry.now.initrd c.in_default.is-0 c.requires.there in
    let machine = machine_of g.D.Disks c.args.disks.now in
    told_all (g.D.Disks.past c.args.disks.now)
    (λ now. PlacesInitrd (Ok tt) (option_map region_view c.args.region) (initrd_read (initrd_rest now machine (descriptor_view c.args.entry.now))) (memory_of c.args.ram.now) (memory_of c.args.ram.now))
    (λ now. rw (none, c.in_default.is-0) (record { bytes = None; is = refl; fits = tt; placed = refl }))

pub returns-clause-placed : goal.returns-clause-placed
unfolding initrd_rest
returns-clause-placed g c =
    let machine = machine_of g.D.Disks c.args.disks.now in
    let region = c.in-Some-Some.region in
    let slot = c.in-Some-Some.slot in
    told_map (g.D.Disks.past c.args.disks.now)
    (λ now. Loads c.load_bytes.result region.length region.address (rest_in now machine c.new-file.result) (memory_of c.args.ram.now) (rest_in now machine c.load_bytes.new.file) (memory_of c.load_bytes.new.ram)) _
    (λ now loaded.
    let rest = c.new-file.ensures.rest now machine in
    rw (c.in-Some-Some.is-0, c.in-Some-Some.is-1)
    (initrd_placed (region_view region) c.load_bytes.result (content_rest (file_content now machine (slot_view slot) c.args.entry.now.initrd_length c.args.entry.now.initrd_chain))
    (rest_in now machine c.load_bytes.new.file) (memory_of c.args.ram.now) (memory_of c.load_bytes.new.ram) (rw rest at loaded)
    (λ done is.
    let left = rw is at c.load_bytes.ensures.left in
    let size = rw c.in-Some-Some.is-0 at c.requires.size in
    let counted = rw is at c.load_bytes.ensures.counted in
    ended_rest now machine c.load_bytes.new.file (omega (arith, left, size, c.new-file.ensures.left)) counted)))
    c.load_bytes.ensures.loaded
