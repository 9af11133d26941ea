-- The free zones for a file and for the growth of its directory.
use Rattle.std.proofs.Common.{◌≡◌, ◌+◌, Ok, Err, arith}
use Rattle.std.proofs.lemmas.Result.{err_from_is_err_and}
use Rattle.minix_steps.specs.Find as bits
use Rattle.minix_steps.specs.Free.{lowest_zones}
use Rattle.lilo_model.specs.MinixParts.{parts_of}
use Rattle.minix_layout.specs.View.{kind_view, inode_view}
use Rattle.minix_zones.specs.Volume.{volume_view, past_of}
use Rattle.minix_zones.proofs.SameLemmas.{told_back}
use Rattle.write_model.specs.Growth.{count_fresh}
use Rattle.minix_choice.specs.View.{taken_view}
use Rattle.minix_choice.proofs.ZonesLemmas.{few_promised, place_block, total_is, way_bad, grows, zones_bad, zones_are}
use Rattle.minix_choice.proofs.pick.zones_for.Goals as goal

pub overflow_cast-fresh : goal.overflow_cast-fresh
overflow_cast-fresh g c =
    let few = few_promised (kind_view c.args.volume.now.layout.kind) c.args.taken.now.promises c.args.stat.now.inode _ c.in_ok-missing.missing c.in_ok-promised.promised.items (rw c.layout.ensures.value at c.in_ok-promised.ensures) c.in_ok-missing.ensures.few in
    omega (arith, few, c.count_fresh-fresh.ensures.few)

pub overflow_add-need : goal.overflow_add-need
overflow_add-need g c =
    let few = few_promised (kind_view c.args.volume.now.layout.kind) c.args.taken.now.promises c.args.stat.now.inode _ c.in_ok-missing.missing c.in_ok-promised.promised.items (rw c.layout.ensures.value at c.in_ok-promised.ensures) c.in_ok-missing.ensures.few in
    omega (arith, few, c.count_fresh-fresh.ensures.few, c.requires.few)

pub returns-in_err-missing-clause-zones : goal.returns-in_err-missing-clause-zones
returns-in_err-missing-clause-zones g c =
    let per = rw c.layout.ensures.value at c.entries_per_block.ensures.value in
    let p = err_from_is_err_and c.from_residual.result c.from_residual.ensures.1 in
    rw (p.1, p.2)
    (way_bad (past_of c.args.volume.now) (volume_view c.args.volume.now) (taken_view c.args.taken.now) c.args.stat.now.inode c.args.need c.args.place _ (inode_view c.args.stat.now.node) c.in_err-missing.field-0.0
    (place_block (kind_view c.args.volume.now.layout.kind) c.args.place c.entries_per_block.result c.from.result per c.from.ensures) c.requires.node c.in_err-missing.ensures.missing)

pub returns-in_err-zones-clause-zones : goal.returns-in_err-zones-clause-zones
returns-in_err-zones-clause-zones g c =
    let per = rw c.layout.ensures.value at c.entries_per_block.ensures.value in
    let known = grows (past_of c.args.volume.now) (volume_view c.args.volume.now) c.args.taken.now.promises c.args.stat.now.inode c.args.place _ c.in_ok-missing.missing (inode_view c.args.stat.now.node) c.in_ok-promised.promised.items
    (place_block (kind_view c.args.volume.now.layout.kind) c.args.place c.entries_per_block.result c.from.result per c.from.ensures) c.requires.node c.in_ok-missing.ensures.missing (rw c.layout.ensures.value at c.in_ok-promised.ensures) in
    let fresh = rw c.deref.ensures.value at c.count_fresh-fresh.ensures.value in
    let short = told_back c.args.volume.now c.missing_on_way.new.volume
    (λ volume now. bits.Gives (Err c.in_err-zones.field-0.0) (lowest_zones volume.layout (parts_of volume now) c.args.taken.now.zones.numbers (c.args.need + c.count_fresh-fresh.result)))
    c.missing_on_way.ensures.same c.in_err-zones.ensures.zones in
    let p = err_from_is_err_and c.from_residual-in_err-zones.result c.from_residual-in_err-zones.ensures.1 in
    rw (p.1, p.2)
    (zones_bad (past_of c.args.volume.now) (volume_view c.args.volume.now) c.args.taken.now c.args.stat.now.inode c.args.need c.args.place (c.args.need + c.count_fresh-fresh.result) c.in_ok-promised.promised.items c.in_err-zones.field-0.0
    (total_is c.args.need c.count_fresh-fresh.result (count_fresh c.in_ok-promised.promised.items) fresh) known short)

pub returns-clause-zones : goal.returns-clause-zones
returns-clause-zones g c =
    let per = rw c.layout.ensures.value at c.entries_per_block.ensures.value in
    let known = grows (past_of c.args.volume.now) (volume_view c.args.volume.now) c.args.taken.now.promises c.args.stat.now.inode c.args.place _ c.in_ok-missing.missing (inode_view c.args.stat.now.node) c.in_ok-promised.promised.items
    (place_block (kind_view c.args.volume.now.layout.kind) c.args.place c.entries_per_block.result c.from.result per c.from.ensures) c.requires.node c.in_ok-missing.ensures.missing (rw c.layout.ensures.value at c.in_ok-promised.ensures) in
    let fresh = rw c.deref.ensures.value at c.count_fresh-fresh.ensures.value in
    let are = told_back c.args.volume.now c.missing_on_way.new.volume
    (λ volume now. lowest_zones volume.layout (parts_of volume now) c.args.taken.now.zones.numbers (c.args.need + c.count_fresh-fresh.result) ≡ Ok c.in_ok-zones.zones)
    c.missing_on_way.ensures.same c.in_ok-zones.ensures.zones in
    zones_are (past_of c.args.volume.now) (volume_view c.args.volume.now) c.args.taken.now c.args.stat.now.inode c.args.need c.args.place (c.args.need + c.count_fresh-fresh.result) c.in_ok-promised.promised.items c.in_ok-zones.zones
    (total_is c.args.need c.count_fresh-fresh.result (count_fresh c.in_ok-promised.promised.items) fresh) known are
