use Rattle.stream_trait.proofs.ShowsLemmas.{shows_same}
use Rattle.install_run.proofs.TextLemmas.{table_other}
use Rattle.install_run.proofs.plan.show_table.Goals as goal

pub returns-in-NoDisk-clause-shown : goal.returns-in-NoDisk-clause-shown
returns-in-NoDisk-clause-shown g c = rw c.in-NoDisk.is c.put.ensures.shown

pub returns-in-NoPartition-clause-shown : goal.returns-in-NoPartition-clause-shown
returns-in-NoPartition-clause-shown g c = rw c.in-NoPartition.is c.put-in-NoPartition.ensures.shown

pub returns-in-NoSignature : goal.returns-in-NoSignature
returns-in-NoSignature g c = record {
  shown = shows_same _ _ _ _ (table_other c.args.fault c.in-NoSignature.is) c.put-in-NoSignature.ensures.shown;
  same_reference = c.put-in-NoSignature.ensures.same_reference;
}
