-- A cut path, as the model has it; and the names of files.
use Rattle.std.specs.Prelude.{List, Option}
use Rattle.std.specs.Option.{option_map}
use Rattle.lilo_model.specs.NamePlaces.{NameSplit}
pub use Rattle.minix_tree.specs.Component.{HasNoZero, IsFileName}
use Rattle.minix_names.specs.declared.component.Split.{Split}

-- a path before its last component, and that component, if it has one
abbrev pub split_view : Option Split → Option NameSplit
split_view split = option_map (λ split. record { before = split.before.now; name = split.name.now }) split
