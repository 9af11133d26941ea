use Rattle.lilo_model.specs.ConfJudge.{value_reason}
use Rattle.conf_judge.proofs.place.value_reason.Goals as goal

pub returns-in-Bare : goal.returns-in-Bare
unfolding value_reason
returns-in-Bare c = rw c.in-Bare.is (c.bare_reason.ensures c.args.disk)

pub returns-in-Sign : goal.returns-in-Sign
unfolding value_reason
returns-in-Sign c = rw c.in-Sign.is (c.sign_reason.ensures c.args.disk)
