use Rattle.std.proofs.Common.{◌≡◌, ◌<◌, ◌+◌, ◌^◌, ℕ, List, sym, subst, rules, arith}
use Rattle.lilo_model.specs.MinixLayout.{numbers_in_zone, number_size}
use Rattle.minix_layout.specs.View.{kind_view}
use Rattle.minix_choice_laws.specs.Sources.{zone_from, below_source}
use Rattle.minix_fill.specs.Numbers.{zones_view, HasFirstNumbers}
use Rattle.minix_fill.proofs.NumberLemmas.{one_number_more}
use Rattle.minix_fill.proofs.numbers.put_numbers.Goals as goal

pub loop-index-preserved : goal.loop-index-preserved
loop-index-preserved c =
    let kind = kind_view c.args.kind in
    let zones = zones_view c.args.zones.now in
    let place = c.args.place in
    let index = c.loop-index.index in
    let number = c.number_below-number.result in
    let is : number ≡ zone_from zones (below_source (numbers_in_zone kind) place index) = rw c.numbers_in_zone-per.ensures.value at c.number_below-number.ensures in
    let S : ℕ → Type 0 = λ n. n < 256 ^ number_size kind in
    let small : number < 256 ^ number_size kind = subst S (sym is) (c.requires.small (below_source (numbers_in_zone kind) place index)) in
    let low : index < numbers_in_zone kind = omega (arith, c.loop-index-test.true, c.numbers_in_zone-per.ensures.value) in
    let long = c.loop-index.invariant.long in
    let P : List ℕ → Type 0 = HasFirstNumbers kind zones place (index + 1) in
    record {
      long = search rules;
      numbers = subst P (sym c.put_number.ensures) (one_number_more kind zones place index number c.loop-index.into long low small is c.loop-index.invariant.numbers);
    }
