use Rattle.std.proofs.Common.{◌≢◌, arith}
use Rattle.std.proofs.lemmas.List.Elements.{All-from_get_or}
use Rattle.test_disks.proofs.name.has_no_zero.Goals as goal

pub returns : goal.returns
returns c = λ same. All-from_get_or (λ byte. byte ≢ 0) c.args.name.now 0
    (λ i low. c.loop-at.invariant i (let end = c.loop-at-test.false in omega (arith, low, end)))
