use Rattle.std.proofs.Common.{◌<◌, subst}
use Rattle.std.specs.Prelude.{All}
use Rattle.std.specs.List.Sorted.{IsStrictlyIncreasing}
use Rattle.minix_steps.specs.Numbers.{Numbers}
use Rattle.minix_steps.proofs.SetLemmas.{rising, inside}
use Rattle.minix_steps.proofs.number_set.NumberSet.below.Goals as goal

pub returns-clause-inside : goal.returns-clause-inside
returns-clause-inside c =
    let P : Numbers → Type 0 = λ set. All (λ n. n < set.below) set.numbers in
    subst P c.self.view_is (inside c.self.inside.bytes.items c.self.inside.below)

pub returns-clause-rising : goal.returns-clause-rising
returns-clause-rising c =
    let P : Numbers → Type 0 = λ set. IsStrictlyIncreasing set.numbers in
    subst P c.self.view_is (rising c.self.inside.bytes.items c.self.inside.below)
