use Rattle.std.proofs.Common.{◌≡◌, ◌≤◌, ◌+◌, length}
use Rattle.lilo_model.specs.MinixFind.{components}
use Rattle.minix_names.proofs.component.count_components.Given as goal

-- those that were counted and those that are left are all
abbrev pub invariant-loop-component : goal.invariant-loop-component
invariant-loop-component l = record {
  so : l.count + length (components l.rest) ≡ length (components l.text);
  few : l.count + length l.rest ≤ 1024;
}

abbrev pub decreases-loop-component : goal.decreases-loop-component
decreases-loop-component l = length l.rest
