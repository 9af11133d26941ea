use Rattle.std.proofs.Common.{◌∙◌, sym, true, false, arith}
use Rattle.bios_model.specs.Memory.{memory_of}
use Rattle.loader_core.proofs.BootLemmas.{foreign_refused, foreign_started, marked}
use Rattle.loader_core.proofs.loader.boot_foreign.Goals as goal

pub returns-then-ne-clause-started : goal.returns-then-ne-clause-started
returns-then-ne-clause-started c = λ keys.
    foreign_refused c.args.sector.now keys (marked c.args.sector.now c.part.result.now c.as_slice.result.now true c.part.ensures.bytes c.as_slice.ensures (sym c.ne.ensures ∙ c.if-ne.true))

pub returns-clause-started : goal.returns-clause-started
returns-clause-started c = λ keys.
    foreign_started c.args.sector.now keys (memory_of c.args.ram.now) c.place_boot.new.ram
    (marked c.args.sector.now c.part.result.now c.as_slice.result.now false c.part.ensures.bytes c.as_slice.ensures (sym c.ne.ensures ∙ c.if-ne.false))
    c.told-sector c.place_boot.ensures.memory (omega (arith, c.place_boot.ensures.inside, c.place_boot.ensures.size))
