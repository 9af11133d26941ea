-- The lines are those of refusals.
use Rattle.lilo_model.specs.Refusal.{refusal_line}
use Rattle.lilo_run.proofs.ConfLemmas.{table_told}
use Rattle.lilo_run.proofs.conf.say_file.Goals as goal

pub returns-in-Place-clause-shown : goal.returns-in-Place-clause-shown
returns-in-Place-clause-shown g c =
    rw c.in-Place.is (rw (table_told c.in-Place.fault c.place_halt.result c.place_halt.ensures.told) at c.say.ensures.shown)

pub returns-in-Layout-clause-shown : goal.returns-in-Layout-clause-shown
unfolding refusal_line
returns-in-Layout-clause-shown g c = rw c.in-Layout.is c.put-in-Layout.ensures.shown

pub returns-in-Missing-clause-shown : goal.returns-in-Missing-clause-shown
unfolding refusal_line
returns-in-Missing-clause-shown g c = rw c.in-Missing.is c.say_path.ensures.shown

pub returns-in-BadPath-clause-shown : goal.returns-in-BadPath-clause-shown
unfolding refusal_line
returns-in-BadPath-clause-shown g c = rw c.in-BadPath.is c.say_path-in-BadPath.ensures.shown

pub returns-in-Memory-clause-shown : goal.returns-in-Memory-clause-shown
returns-in-Memory-clause-shown g c = rw c.in-Memory.is c.say_memory.ensures.shown
