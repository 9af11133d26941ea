use Rattle.std.proofs.Common.{◌≡◌, ◌∙◌, ap, arith, length, List, ℕ, true}
use Rattle.std.proofs.lemmas.List.{with_items_is}
use Rattle.lilo_model.specs.MinixParts.{with_bit}
use Rattle.minix_steps.proofs.SetLemmas.{rising, inside, set_added}
use Rattle.minix_steps.proofs.number_set.NumberSet.add.Goals as goal

pub returns-clause-added : goal.returns-clause-added
returns-clause-added c =
    let held : List ℕ → List ℕ = λ bytes. with_bit bytes c.args.n true in
    let long : length c.put_bit.new.bytes ≡ c.self.inside.bytes.len = omega (arith, c.put_bit.auto.bytes, c.deref_mut.ensures.len) in
    let items = with_items_is c.self.inside.bytes c.put_bit.new.bytes long in
    set_added c.args.self.now c.self.inside.bytes.items _ c.self.inside.below c.args.n c.self.view_is c.requires c.self.invariant (items ∙ c.put_bit.ensures ∙ ap held c.deref_mut.ensures.value)

pub returns-clause-inside : goal.returns-clause-inside
returns-clause-inside c = inside _ c.self.inside.below

pub returns-clause-rising : goal.returns-clause-rising
returns-clause-rising c = rising _ c.self.inside.below
