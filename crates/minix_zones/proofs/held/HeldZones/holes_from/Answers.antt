-- The numbers of the blocks after one are in the zone with its own, as far as that goes.
use Rattle.std.proofs.Common.{arith}
use Rattle.minix_layout.specs.View.{inode_view}
use Rattle.minix_zones.specs.Volume.{volume_view, past_of}
use Rattle.minix_zones.proofs.RunLemmas.{finds_holes, refuses_first, no_holes_told, branch_at, per_at, few_at, zeros_back}
use Rattle.minix_zones.proofs.held.HeldZones.holes_from.Goals as goal

pub returns-then-way-eq0-clause-holes : goal.returns-then-way-eq0-clause-holes
returns-then-way-eq0-clause-holes g c =
    no_holes_told (past_of c.args.volume.now) (volume_view c.args.volume.now) (inode_view c.args.inode.now) c.args.index

pub returns-in-Ok-clause-holes : goal.returns-in-Ok-clause-holes
returns-in-Ok-clause-holes g c =
    let old = c.args.volume.now in
    let mid = c.follow.new.volume in
    let way = c.way_to-way.result in
    let per = c.numbers_in_zone-per.result in
    finds_holes (past_of old) (volume_view old) (inode_view c.args.inode.now) c.args.index way.top way.index way.depth c.in-Ok.above per _ _ c.zeros_below.result
    (branch_at _ old.layout c.args.index _ c.layout.ensures.value c.way_to-way.ensures.branch) c.way_to-way.ensures.within (omega arith)
    (per_at _ old.layout per c.layout.ensures.value c.numbers_in_zone-per.ensures) c.in-Ok.ensures.number
    (zeros_back old mid c.in-Ok.above _ c.zeros_below.result c.in-Ok.ensures.same c.zeros_below.ensures.zeros)
    (few_at mid.layout old.layout _ c.zeros_below.result c.in-Ok.ensures.same.same_layout c.zeros_below.ensures.within)
    c.zeros_below.ensures.device

pub returns-in-Err-clause-holes : goal.returns-in-Err-clause-holes
returns-in-Err-clause-holes g c =
    let old = c.args.volume.now in
    let way = c.way_to-way.result in
    let per = c.numbers_in_zone-per.result in
    refuses_first (past_of old) (volume_view old) (inode_view c.args.inode.now) c.args.index way.top way.index way.depth per c.in-Err.fault
    (branch_at _ old.layout c.args.index _ c.layout.ensures.value c.way_to-way.ensures.branch) c.way_to-way.ensures.within (omega arith)
    (per_at _ old.layout per c.layout.ensures.value c.numbers_in_zone-per.ensures) c.in-Err.ensures.number
