use Rattle.lilo_run.proofs.conf.query.Goals as goal

pub returns-in-Some-clause-does : goal.returns-in-Some-clause-does
returns-in-Some-clause-does g c = λ memory. rw c.in-Some.is (c.query_device.ensures.does memory)

pub returns-in-None-clause-does : goal.returns-in-None-clause-does
returns-in-None-clause-does g c = λ memory. rw c.in-None.is (c.query_conf.ensures.does memory)
