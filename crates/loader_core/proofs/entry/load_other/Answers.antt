use Rattle.std.proofs.Common.{◌≡◌, ◌∙◌, ◌-◌, min, ap, refl, Err, arith, rules}
use Rattle.lilo_model.specs.Boot.{main_of}
use Rattle.sector_address.specs.Machine.{machine_of}
use Rattle.bios_model.specs.Memory.{memory_of}
use Rattle.boot_map.specs.View.{descriptor_view}
use Rattle.lilo_model.specs.Table.{has_flag, table_flag}
use Rattle.section_loader.specs.File.{rest_in}
use Rattle.section_loader.specs.Load.{IsCutSector, ReadsCut}
use Rattle.disk_trait.proofs.ToldLemmas.{told_map, told_both}
use Rattle.loader_core.specs.Report.{main_rest}
use Rattle.loader_core.proofs.EntryLemmas.{ends_first, ends_second, other_sectors, left_none}
use Rattle.section_loader.proofs.RestLemmas.{ended_rest}
use Rattle.loader_core.proofs.entry.load_other.Goals as goal

pub returns-in_err-read_cut-clause-started : goal.returns-in_err-read_cut-clause-started
unfolding main_rest main_of
returns-in_err-read_cut-clause-started g c =
    let machine = machine_of g.D.Disks c.args.disks.now in
    let entry = descriptor_view c.args.entry.now in
    let halt = c.in_err-read_cut.field-0.0 in
    let is : c.from_residual.result ≡ Err halt = search rules in
    told_map (g.D.Disks.past c.args.disks.now)
    (λ now. ReadsCut (Err halt) (min 512 c.new-file.result.left) (rest_in now machine c.new-file.result) c.read_cut.new.into (rest_in now machine c.read_cut.new.file)) _
    (λ now read. rw is
    (ends_first entry (main_rest now machine entry) (rest_in now machine c.read_cut.new.file) (min 512 c.new-file.result.left) c.read_cut.new.into (memory_of c.args.ram.now) c.args.ram.now halt
    (rw (c.new-file.ensures.rest now machine) at read)))
    c.in_err-read_cut.ensures.bytes

pub returns-in_err-read_cut-2-clause-started : goal.returns-in_err-read_cut-2-clause-started
unfolding main_rest main_of
returns-in_err-read_cut-2-clause-started g c =
    let machine = machine_of g.D.Disks c.args.disks.now in
    let entry = descriptor_view c.args.entry.now in
    let halt = c.in_err-read_cut-2.field-0.0 in
    let is : c.from_residual-in_err-read_cut-2.result ≡ Err halt = search rules in
    let same = c.in_ok-read_cut.ensures.reads.same in
    let second = rw (same.same_past, same.same_size, same.same_geometry) at c.in_err-read_cut-2.ensures.bytes in
    told_both (g.D.Disks.past c.args.disks.now)
    (λ now. IsCutSector (min 512 c.new-file.result.left) (rest_in now machine c.new-file.result) c.read_cut.new.into (rest_in now machine c.read_cut.new.file)) _ _
    (λ now one read. rw is
    (ends_second entry (main_rest now machine entry) (rest_in now machine c.read_cut.new.file) (rest_in now machine c.read_cut-2.new.file) (min 512 c.new-file.result.left) (min 512 c.read_cut.new.file.left) c.read_cut.new.into c.read_cut-2.new.into (memory_of c.args.ram.now) c.args.ram.now halt
    (rw (c.new-file.ensures.rest now machine) at one) read))
    c.in_ok-read_cut.ensures.bytes second

pub returns-clause-started : goal.returns-clause-started
unfolding main_rest main_of
returns-clause-started g c =
    let machine = machine_of g.D.Disks c.args.disks.now in
    let entry = descriptor_view c.args.entry.now in
    let same = c.in_ok-read_cut.ensures.reads.same in
    let second = rw (same.same_past, same.same_size, same.same_geometry) at c.in_ok-read_cut-2.ensures.bytes in
    let flag = has_flag c.args.entry.now.flags table_flag in
    let long = c.requires.flags.other c.requires.other in
    let first_left = c.in_ok-read_cut.ensures.left in
    let start_left = c.new-file.ensures.left in
    let left = c.in_ok-read_cut-2.ensures.left in
    told_both (g.D.Disks.past c.args.disks.now)
    (λ now. IsCutSector (min 512 c.new-file.result.left) (rest_in now machine c.new-file.result) c.read_cut.new.into (rest_in now machine c.read_cut.new.file)) _ _
    (λ now one two.
    other_sectors entry (main_rest now machine entry) (rest_in now machine c.read_cut.new.file) (rest_in now machine c.read_cut-2.new.file) c.read_cut.new.into c.read_cut-2.new.into flag
    (memory_of c.args.ram.now) (memory_of c.place_table.new.ram) c.place_boot.new.ram c.read_cut.new.file.left
    refl long (first_left ∙ ap (λ n. n - min 512 n) start_left)
    (rw (c.new-file.ensures.rest now machine, start_left) at one) two
    (ended_rest now machine c.read_cut-2.new.file
    (left_none flag c.args.entry.now.length c.new-file.result.left c.read_cut.new.file.left c.read_cut-2.new.file.left long start_left first_left left) c.in_ok-read_cut-2.ensures.counted)
    c.place_table.ensures.memory c.place_boot.ensures.memory (omega (arith, c.place_boot.ensures.inside, c.place_boot.ensures.size)))
    c.in_ok-read_cut.ensures.bytes second
