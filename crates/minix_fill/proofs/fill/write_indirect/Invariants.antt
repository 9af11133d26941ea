use Rattle.std.proofs.Common.{Ok}
use Rattle.minix_fill.specs.Fill.{WritesNumbers}
use Rattle.minix_fill.specs.Numbers.{zones_view}
use Rattle.minix_fill.proofs.fill.write_indirect.Given as goal

-- the first indirect zones are written
abbrev pub invariant-loop-place : goal.invariant-loop-place
invariant-loop-place g l = WritesNumbers l.fn.volume l.volume (zones_view l.zones) 0 l.place (Ok tt)
