use Rattle.std.proofs.Common.{◌≡◌, drop}
use Rattle.minix_layout.specs.View.{super_view}
use Rattle.minix_fill.specs.Marks.{with_marks}
use Rattle.minix_fill.proofs.mark.set_marks.Given as goal

-- what is left to set gives the whole
abbrev pub invariant-loop-zone : goal.invariant-loop-zone
invariant-loop-zone l =
    with_marks (super_view l.layout) l.bytes (drop l.zone-index l.zones) ≡ with_marks (super_view l.layout) l.fn.bytes l.zones
