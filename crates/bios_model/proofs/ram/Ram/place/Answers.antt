use Rattle.std.proofs.Common.{◌∙◌, length, ap, sym, arith}
use Rattle.lilo_model.specs.Bytes.{with_part}
use Rattle.bios_model.specs.Memory.{memory_of}
use Rattle.bios_model.proofs.HeldLemmas.{held_and_placed, whole_memory-length}
use Rattle.bios_model.proofs.MemoryLemmas.{memory_of-with_part}
use Rattle.bios_model.proofs.ram.Ram.place.Goals as goal

pub returns-clause-placed : goal.returns-clause-placed
returns-clause-placed c =
    held_and_placed c.self.inside.size c.args.at c.self.inside.bytes.items c.hold.new.bytes.items c.put.new.bytes.items c.args.bytes.now
    c.self.invariant.2 c.if-start-bytes.false c.hold.ensures.held c.put.ensures.placed
    ∙ ap (λ memory. with_part memory c.args.at c.args.bytes.now) c.self.view_is

pub returns-clause-memory : goal.returns-clause-memory
returns-clause-memory c =
    let size = whole_memory-length c.self.inside.size c.self.inside.bytes.items c.self.invariant.2 in
    let long = ap length (sym c.self.view_is) ∙ size in
    ap memory_of (returns-clause-placed c)
    ∙ memory_of-with_part c.args.self.now c.args.bytes.now c.args.at (omega (arith, long, c.if-start-bytes.false))
