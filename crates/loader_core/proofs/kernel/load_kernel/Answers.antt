-- Each way in which the loading of a kernel ends is what is reported of it.
use Rattle.std.proofs.Common.{◌≡◌, ◌∙◌, ◌≤◌, ◌-◌, ◌++◌, length, min, sym, ap, subst, length-append, Err, arith, rules}
use Rattle.sector_address.specs.Machine.{machine_of}
use Rattle.bios_model.specs.Memory.{memory_of}
use Rattle.boot_map.specs.View.{descriptor_view}
use Rattle.std.specs.Option.{option_map}
use Rattle.lilo_model.specs.Boot.{main_of, initrd_size}
use Rattle.setup_header.specs.Words.{LiesIn}
use Rattle.setup_header.specs.View.{header_view, layout_view, region_view}
use Rattle.section_loader.specs.File.{rest_in}
use Rattle.loader_core.specs.Kernel.{PlacesKernel, PlacesInitrd}
use Rattle.loader_core.specs.Report.{main_rest, initrd_rest, initrd_read}
use Rattle.loader_core.proofs.LoadedLemmas.{Loading, IsBegun, IsPlanned, begun_by, ends_short, ends_header, ends_layout, ends_kernel, ends_initrd}
use Rattle.loader_core.proofs.WholeLemmas.{kernel_whole}
use Rattle.loader_core.proofs.PlanLemmas.{IsOfSize, setup_least, planned_size, region_there, region_sized, holds_kernel}
use Rattle.disk_trait.specs.Past.{Told}
use Rattle.lilo_model.specs.Disks.{Image}
use Rattle.disk_trait.proofs.ToldLemmas.{told_map, told_both, told_three}
use Rattle.loader_core.proofs.kernel.load_kernel.Goals as goal
use Rattle.loader_core.proofs.kernel.load_kernel.Goals.{After-read_two, In_ok-read_two, In_ok-layout, After-place_kernel, After-load_initrd}

pub place_kernel-requires-clause-kernel : goal.place_kernel-requires-clause-kernel
place_kernel-requires-clause-kernel g c =
    let setup = setup_least _ c.args.entry.now.length (header_view c.in_ok-header.header) c.in_ok-header.ensures.header in
    let inside = rw c.size-memory.ensures.value at c.in_ok-layout.ensures.inside in
    holds_kernel c.in_ok-layout.layout c.in_ok-header.header c.args.entry.now.length c.read_two.new.file.left _ _ setup c.in_ok-layout.ensures.lengths
    inside
    (c.in_ok-read_two.ensures.left ∙ ap (λ n. n - min 1024 n) c.new-file.ensures.left)
    (omega (arith, c.size-memory.ensures.value, c.size-memory.ensures.range))

-- an initrd's region is as long as the initrd
sized : (g : _) (c : goal.In_ok-layout g) → IsOfSize (option_map region_view c.in_ok-layout.layout.initrd) (initrd_size (descriptor_view c.args.entry.now))
sized g c =
    let header = header_view c.in_ok-header.header in
    rw c.initrd_size.ensures at (planned_size header c.args.entry.now.length _ _ _ (layout_view c.in_ok-layout.layout) c.in_ok-layout.ensures.layout)

pub load_initrd-requires-clause-there : goal.load_initrd-requires-clause-there
load_initrd-requires-clause-there g c =
    region_there c.in_ok-layout.layout.initrd c.args.entry.now (sized g (goal.at.load_initrd-requires-clause-there g c).In_ok-layout) ∙ sym c.requires.flags.initrd

pub load_initrd-requires-clause-size : goal.load_initrd-requires-clause-size
load_initrd-requires-clause-size g c =
    region_sized c.in_ok-layout.layout.initrd c.args.entry.now (sized g (goal.at.load_initrd-requires-clause-size g c).In_ok-layout)

-- the kernel that is loaded, once its first two sectors were asked for
abbrev loading : (g : _) → goal.After-read_two g → Image → Loading
loading g c now =
    let machine = machine_of g.D.Disks c.args.disks.now in
    let entry = descriptor_view c.args.entry.now in
    record {
      entry = entry;
      main = main_rest now machine entry;
      sectors = c.read_two.new.first ++ c.read_two.new.second;
      rest = rest_in now machine c.read_two.new.file;
      initrd = initrd_rest now machine entry;
      line = c.args.line.now;
      video = c.args.video;
      memory = length c.args.ram.now;
    }

-- its first two sectors are there
begun : (g : _) (c : goal.In_ok-read_two g) → Told (g.D.Disks.past c.args.disks.now) (λ now. IsBegun (loading g (goal.at.In_ok-read_two g c).After-read_two now))
unfolding main_rest main_of
begun g c =
    told_map (g.D.Disks.past c.args.disks.now) _ _
    (λ now. begun_by (loading g (goal.at.In_ok-read_two g c).After-read_two now) now (machine_of g.D.Disks c.args.disks.now) c.new-file.result (c.new-file.ensures.rest now _) c.new-file.ensures.left)
    c.in_ok-read_two.ensures.bytes

-- it has a layout
planned : (g : _) (c : goal.In_ok-layout g)
    → Told (g.D.Disks.past c.args.disks.now) (λ now. IsPlanned (loading g (goal.at.In_ok-layout g c).After-read_two now) (header_view c.in_ok-header.header) (layout_view c.in_ok-layout.layout))
planned g c =
    let plan = rw (c.initrd_size.ensures, c.size-memory.ensures.value) at c.in_ok-layout.ensures.layout in
    told_map (g.D.Disks.past c.args.disks.now) _ _ (λ now begun. record { begun = begun; header_is = c.in_ok-header.ensures.header; layout_is = plan })
    (begun g (goal.at.In_ok-layout g c).In_ok-read_two)

-- what placing the kernel gives
placed : (g : _) (c : goal.After-place_kernel g)
    → Told (g.D.Disks.past c.args.disks.now) (λ now. PlacesKernel c.place_kernel.result c.in_ok-layout.layout (c.patch.new.first ++ c.patch.new.second)
    (loading g (goal.at.After-place_kernel g c).After-read_two now).rest (memory_of c.args.ram.now) (memory_of c.place_kernel.new.ram))
placed g c =
    let same = c.in_ok-read_two.ensures.reads.same in
    rw (same.same_past, same.same_size, same.same_geometry) at c.place_kernel.ensures.placed

-- what loading the initrd gives
read : (g : _) (c : goal.After-load_initrd g)
    → Told (g.D.Disks.past c.args.disks.now) (λ now. PlacesInitrd c.load_initrd.result (option_map region_view c.in_ok-layout.layout.initrd)
    (initrd_read (loading g (goal.at.After-load_initrd g c).After-read_two now).initrd) (memory_of c.place_kernel.new.ram) (memory_of c.load_initrd.new.ram))
read g c =
    let same = c.in_ok-read_two.ensures.reads.same in
    let same' = c.in_ok-place_kernel.ensures.reads.same in
    rw (same'.same_past, same'.same_size, same'.same_geometry, same.same_past, same.same_size, same.same_geometry) at c.load_initrd.ensures.placed

pub returns-in_err-read_two-clause-loaded : goal.returns-in_err-read_two-clause-loaded
unfolding main_rest main_of
returns-in_err-read_two-clause-loaded g c =
    let load = loading g (goal.at.returns-in_err-read_two-clause-loaded g c).After-read_two in
    let halt = c.in_err-read_two.field-0.0 in
    let is : c.from_residual.result ≡ Err halt = search rules in
    told_map (g.D.Disks.past c.args.disks.now) _ _
    (λ now read. rw is (ends_short (load now) now (machine_of g.D.Disks c.args.disks.now) c.new-file.result _ _ halt (c.new-file.ensures.rest now _) c.new-file.ensures.left read))
    c.in_err-read_two.ensures.bytes

pub returns-in_err-header-clause-loaded : goal.returns-in_err-header-clause-loaded
returns-in_err-header-clause-loaded g c =
    let halt = c.in_err-header.field-0.0 in
    let is : c.from_residual-in_err-header.result ≡ Err halt = search rules in
    told_map (g.D.Disks.past c.args.disks.now) _ _ (λ now begun. rw is (ends_header _ _ _ halt begun c.in_err-header.ensures.header))
    (begun g (goal.at.returns-in_err-header-clause-loaded g c).In_ok-read_two)

pub returns-in_err-layout-clause-loaded : goal.returns-in_err-layout-clause-loaded
returns-in_err-layout-clause-loaded g c =
    let halt = c.in_err-layout.field-0.0 in
    let is : c.from_residual-in_err-layout.result ≡ Err halt = search rules in
    let refused = rw (c.initrd_size.ensures, c.size-memory.ensures.value) at c.in_err-layout.ensures.layout in
    told_map (g.D.Disks.past c.args.disks.now) _ _ (λ now begun. rw is (ends_layout _ _ _ _ halt begun c.in_ok-header.ensures.header refused))
    (begun g (goal.at.returns-in_err-layout-clause-loaded g c).In_ok-read_two)

pub returns-in_err-place_kernel-clause-loaded : goal.returns-in_err-place_kernel-clause-loaded
returns-in_err-place_kernel-clause-loaded g c =
    let path = goal.at.returns-in_err-place_kernel-clause-loaded g c in
    let halt = c.in_err-place_kernel.field-0.0 in
    let is : c.from_residual-in_err-place_kernel.result ≡ Err halt = search rules in
    told_both (g.D.Disks.past c.args.disks.now) _ _ _
    (λ now planned stops. rw is (ends_kernel _ _ c.in_ok-layout.layout (c.patch.new.first ++ c.patch.new.second) _ (memory_of c.place_kernel.new.ram) _ halt planned stops))
    (planned g path.In_ok-layout) (rw c.in_err-place_kernel.was at (placed g path.After-place_kernel))

pub returns-in_err-load_initrd-clause-loaded : goal.returns-in_err-load_initrd-clause-loaded
returns-in_err-load_initrd-clause-loaded g c =
    let path = goal.at.returns-in_err-load_initrd-clause-loaded g c in
    let halt = c.in_err-load_initrd.field-0.0 in
    let is : c.from_residual-in_err-load_initrd.result ≡ Err halt = search rules in
    told_three (g.D.Disks.past c.args.disks.now) _ _ _ _
    (λ now planned placed read. rw is (ends_initrd _ _ c.in_ok-layout.layout _ _ _ (memory_of c.load_initrd.new.ram) _ halt planned placed read))
    (planned g path.In_ok-layout) (rw c.in_ok-place_kernel.was at (placed g path.After-place_kernel)) (rw c.in_err-load_initrd.was at (read g path.After-load_initrd))

pub returns-clause-loaded : goal.returns-clause-loaded
returns-clause-loaded g c =
    let path = goal.at.returns-clause-loaded g c in
    let layout = c.in_ok-layout.layout in
    let lengths = c.in_ok-layout.ensures.lengths in
    let setup = setup_least _ c.args.entry.now.length (header_view c.in_ok-header.header) c.in_ok-header.ensures.header in
    let size : length (c.patch.new.first ++ c.patch.new.second) ≡ 1024 = rw length-append (omega (arith, c.patch.array_long, c.patch.array_long2)) in
    let least : 1024 ≤ c.args.entry.now.length = omega (arith, setup, lengths.real_length, lengths.rest_length) in
    let long : c.size-memory.result ≡ length c.place-2.new.ram =
    c.size-memory.ensures.value ∙ sym (c.place-2.ensures.size ∙ c.place.ensures.size ∙ c.in_ok-load_initrd.ensures.memory ∙ c.in_ok-place_kernel.ensures.memory) in
    let inside = subst (λ n. LiesIn n layout) long c.in_ok-layout.ensures.inside in
    told_three (g.D.Disks.past c.args.disks.now) _ _ _ _
    (λ now planned placed read. kernel_whole _ _ layout _ _ _ _ _ c.place-2.new.ram planned
    c.patch.ensures size least placed read c.place.ensures.memory c.place-2.ensures.memory lengths.line_length inside c.in_ok-layout.ensures.apart)
    (planned g path.In_ok-layout) (rw c.in_ok-place_kernel.was at (placed g path.After-place_kernel)) (rw c.in_ok-load_initrd.was at (read g path.After-load_initrd))
