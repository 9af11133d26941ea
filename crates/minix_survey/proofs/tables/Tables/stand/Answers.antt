use Rattle.std.proofs.Common.{refl}
use Rattle.minix_survey.proofs.TableLemmas.{enters-by}
use Rattle.minix_survey.proofs.tables.Tables.stand.Goals as goal

pub returns-clause-enters : goal.returns-clause-enters
returns-clause-enters c =
    enters-by _ _ c.args.directory c.args.name.now c.in_ok-key.key _ c.in_ok-key.ensures.directory c.in_ok-key.ensures.name c.in_ok-insert.ensures.keys refl refl
