use Rattle.std.proofs.Common.{rules, refl}
use Rattle.minix_survey.specs.View.{spot_view}
use Rattle.minix_survey.proofs.TableLemmas.{tells-reaches}
use Rattle.minix_survey.proofs.tables.Tables.reach.Goals as goal

pub returns : goal.returns
returns c = λ met tells. tells-reaches _ _ (spot_view c.args.spot) (λ inode. c.in_ok-insert.ensures.updates.0 inode) refl refl met tells
