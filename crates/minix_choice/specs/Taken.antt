-- What is taken once a choice is promised too.
use Rattle.std.specs.Prelude.{ℕ, List, [], ◌∷◌, ◌++◌}
use Rattle.minix_steps.specs.Numbers.{with_number}
use Rattle.write_model.specs.Choice.{Choice}
use Rattle.minix_choice.specs.View.{Promised}

-- numbers in rising order with others among them
abbrev pub with_numbers : List ℕ → List ℕ → List ℕ
with_numbers numbers [] = numbers
with_numbers numbers (other ∷ others) = with_numbers (with_number numbers other) others

-- what is taken, with the zones and the inode of a choice, and its place in a directory
abbrev pub with_choice : Promised → ℕ → Choice → Promised
with_choice taken directory choice = record {
  zones = record taken.zones { numbers = with_numbers taken.zones.numbers choice.zones };
  inodes = record taken.inodes { numbers = with_number taken.inodes.numbers choice.inode };
  promises = taken.promises ++ (record { directory = directory; place = choice.place; growth = choice.growth } ∷ []);
  overlooked = taken.overlooked;
}
