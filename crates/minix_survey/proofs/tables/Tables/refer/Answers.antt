use Rattle.std.proofs.Common.{rules, refl, sym, ◌∙◌}
use Rattle.minix_zones.specs.Walk.{visit_view}
use Rattle.minix_survey.proofs.TableLemmas.{tells-refers}
use Rattle.minix_survey.proofs.tables.Tables.refer.Goals as goal

pub returns-in-None-clause-tells : goal.returns-in-None-clause-tells
returns-in-None-clause-tells c = λ met tells.
    tells-refers _ _ c.args.inode (visit_view c.args.visit) (λ zone. c.in_ok-first.ensures.updates.0 zone)
    (sym c.in_ok-first.ensures.old ∙ c.in-None.is) met tells refl refl refl
