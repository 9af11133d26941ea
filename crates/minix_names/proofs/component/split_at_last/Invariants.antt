use Rattle.std.proofs.Common.{◌≡◌, ◌≤◌, ◌+◌, ◌∷◌, length}
use Rattle.lilo_model.specs.MinixFind.{components}
use Rattle.lilo_model.specs.NamePlaces.{split_at_last}
use Rattle.minix_tree.specs.Component.{component_view, HasNoZero, IsFileName}
use Rattle.minix_names.proofs.component.split_at_last.Given as goal

-- the last component so far and those after it have the last one of all
abbrev pub invariant-loop-next : goal.invariant-loop-next
invariant-loop-next l = record {
  so : split_at_last l.path (components l.path) ≡ split_at_last l.path (component_view l.last ∷ components l.last.rest.now);
  few : length l.last.name.now + length l.last.rest.now ≤ length l.path;
  name : HasNoZero l.path → IsFileName l.last.name.now;
  rest : HasNoZero l.path → HasNoZero l.last.rest.now;
}

abbrev pub decreases-loop-next : goal.decreases-loop-next
decreases-loop-next l = length l.last.rest.now
