-- A sector that is held was read, and one that is read is held with the others.
use Rattle.std.proofs.Common.{◌≡◌, ◌+◌}
use Rattle.minix_zones.specs.Volume.{past_of}
use Rattle.minix_zones.proofs.SectorLemmas.{held_told, hold_told}
use Rattle.minix_zones.proofs.volume.Volume.read_sector.Goals as goal

pub returns-then-get-clause-bytes : goal.returns-then-get-clause-bytes
returns-then-get-clause-bytes g c =
    held_told (λ bytes. c.get.new.into ≡ bytes) (past_of c.args.self.now) c.args.self.now.span.disk (c.args.self.now.span.start + c.args.sector)
    c.args.self.now.held (c.get.ensures.held c.if-get.true) (c.args.self.now.are_held c.if-self.true)

pub invariant_of-self-2-clause-are_held : goal.invariant_of-self-2-clause-are_held
invariant_of-self-2-clause-are_held g c holds =
    hold_told (past_of c.args.self.now) _ c.args.self.now.span.disk (c.args.self.now.span.start + c.args.sector) c.args.self.now.held
    c.hold.new.self _ c.read.ensures.past c.hold.ensures (c.args.self.now.are_held holds) c.in_ok-read.ensures.bytes
