use Rattle.std.specs.Prelude.{◌≤◌, All}
use Rattle.map_tests.proofs.lists.places_of.Given as goal

-- each is of the first disk
abbrev pub invariant-loop-number : goal.invariant-loop-number
invariant-loop-number l = All (λ place. place.disk ≤ 3) l.places.items
