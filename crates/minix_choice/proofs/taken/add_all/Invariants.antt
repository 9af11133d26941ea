use Rattle.std.proofs.Common.{◌≡◌, drop}
use Rattle.minix_choice.specs.Taken.{with_numbers}
use Rattle.minix_choice.proofs.taken.add_all.Given as goal

-- those that are left are to be added to the numbers so far
abbrev pub invariant-loop-number : goal.invariant-loop-number
invariant-loop-number l = record {
  added : with_numbers l.set.numbers (drop l.number-index l.numbers) ≡ with_numbers l.fn.set.numbers l.numbers;
  bound : l.set.below ≡ l.fn.set.below;
}
