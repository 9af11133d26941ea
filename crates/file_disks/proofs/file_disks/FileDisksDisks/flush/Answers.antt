use Rattle.std.proofs.Common.{ap, subst, sym, ◌∙◌}
use Rattle.std.proofs.lemmas.Bool.{false≢true}
use Rattle.file_disks.specs.FileDisks.{FileState, AreDurable}
use Rattle.file_disks.proofs.file_disks.FileDisksDisks.flush.Goals as goal

pub returns-clause-durable : goal.returns-clause-durable
returns-clause-durable g c = (
  λ yes. absurd (false≢true yes),
  λ all. sym c.if-sync_all.false ∙ c.sync_all.ensures.durable.1 (subst AreDurable (ap (λ (files : FileState). files.disks) c.failure.ensures.counted) all),
)
