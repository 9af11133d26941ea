use Rattle.std.proofs.Common.{◌≡◌, ◌<◌, ◌∙◌, ap, sym, Bool, ℕ, List, arith}
use Rattle.lilo_model.specs.MinixParts.{bit}
use Rattle.minix_steps.specs.Numbers.{Numbers, has_number}
use Rattle.minix_steps.proofs.SetLemmas.{has_by_bit, contains_from, has_from}
use Rattle.minix_steps.proofs.number_set.NumberSet.has.Goals as goal

same : (c : goal.After-has_bit) → c.has_bit.result ≡ has_number c.args.self.now.numbers c.args.n
same c =
    let set : Numbers → Bool = λ set. has_number set.numbers c.args.n in
    let bound : Numbers → ℕ = λ set. set.below in
    let held : List ℕ → Bool = λ bytes. bit bytes c.args.n in
    let inside : c.args.n < c.self.inside.below = omega (arith, ap bound c.self.view_is) in
    c.has_bit.ensures ∙ ap held c.deref.ensures.value ∙ sym (has_by_bit c.self.inside.bytes.items c.self.inside.below c.args.n inside) ∙ ap set c.self.view_is

pub returns-clause-value : goal.returns-clause-value
returns-clause-value c = same c

pub returns-clause-contains : goal.returns-clause-contains
returns-clause-contains c = (
  (λ is. contains_from c.args.self.now.numbers c.args.n (sym (same c) ∙ is)),
  (λ contains. same c ∙ has_from c.args.self.now.numbers c.args.n contains),
)
