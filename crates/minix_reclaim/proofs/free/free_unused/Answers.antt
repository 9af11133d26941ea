use Rattle.std.proofs.Common.{◌≡◌, ◌<◌, ◌+◌, ◌*◌, Err, arith, rules}
use Rattle.minix_layout.specs.View.{super_view}
use Rattle.minix_reclaim.specs.Frees.{sectors_of}
use Rattle.minix_reclaim.proofs.FreesLemmas.{map_some}
use Rattle.minix_reclaim.proofs.MapLemmas.{map_start, map_failed, map_next}
use Rattle.minix_reclaim.proofs.free.free_unused.Goals as goal

pub overflow_sub-bitmap : goal.overflow_sub-bitmap
overflow_sub-bitmap g c =
    let old = c.args.volume.now in
    let some = map_some (super_view old.layout) old.span.count old.whole c.args.bitmap.now c.requires in
    omega (arith, some)

pub loop-index-init : goal.loop-index-init
loop-index-init g c = map_start c.args.volume.now c.args.bitmap.now c.args.found.now

pub returns-in_err-freed : goal.returns-in_err-freed
returns-in_err-freed g c =
    let fault = c.in_err-freed.field-0.0 in
    let given : c.from_residual.result ≡ Err fault = search rules in
    let inside : c.args.bitmap.now.origin + 4096 * c.loop-index.index < c.args.bitmap.now.end = omega (arith, c.div_ceil-sectors.ensures, c.loop-index-test.true) in
    rw given (map_failed c.args.volume.now c.loop-index.volume c.free_in_sector.new.volume c.args.bitmap.now c.args.found.now c.loop-index.index c.loop-index.freed inside c.loop-index.invariant
    fault (sectors_of c.args.bitmap.now) (omega (arith, inside)) c.in_err-freed.ensures)

pub loop-index-preserved : goal.loop-index-preserved
loop-index-preserved g c =
    let inside : c.args.bitmap.now.origin + 4096 * c.loop-index.index < c.args.bitmap.now.end = omega (arith, c.div_ceil-sectors.ensures, c.loop-index-test.true) in
    map_next c.args.volume.now c.loop-index.volume c.free_in_sector.new.volume c.args.bitmap.now c.args.found.now c.loop-index.index c.loop-index.freed inside c.loop-index.invariant
    c.in_ok-freed.field-0 c.in_ok-freed.ensures
