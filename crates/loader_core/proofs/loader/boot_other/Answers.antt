use Rattle.std.proofs.Common.{rules}
use Rattle.bios_model.specs.Memory.{memory_of}
use Rattle.stream_trait.specs.Shows.{sink_of}
use Rattle.loader_core.proofs.BootLemmas.{foreign_reports}
use Rattle.loader_core.proofs.loader.boot_other.Goals as goal

pub returns-in-NotOurs-clause-report : goal.returns-in-NotOurs-clause-report
returns-in-NotOurs-clause-report g c = λ now machine memory keys.
    rw c.in-NotOurs.is
    (foreign_reports c.args.sector.now keys c.boot_foreign.result (memory_of c.args.ram.now) c.boot_foreign.new.ram (sink_of g.O.Sink c.args.out.now)
    (λ lost. search rules) (c.boot_foreign.ensures.started keys))

pub returns-in-BadVersion-clause-report : goal.returns-in-BadVersion-clause-report
returns-in-BadVersion-clause-report g c = λ now machine memory keys.
    rw c.in-BadVersion.is
    (foreign_reports c.args.sector.now keys c.boot_foreign-in-BadVersion.result (memory_of c.args.ram.now) c.boot_foreign-in-BadVersion.new.ram (sink_of g.O.Sink c.args.out.now)
    (λ lost. search rules) (c.boot_foreign-in-BadVersion.ensures.started keys))

pub returns-in-BadLine-clause-report : goal.returns-in-BadLine-clause-report
returns-in-BadLine-clause-report g c = λ now machine memory keys.
    rw c.in-BadLine.is
    (foreign_reports c.args.sector.now keys c.boot_foreign-in-BadLine.result (memory_of c.args.ram.now) c.boot_foreign-in-BadLine.new.ram (sink_of g.O.Sink c.args.out.now)
    (λ lost. search rules) (c.boot_foreign-in-BadLine.ensures.started keys))
