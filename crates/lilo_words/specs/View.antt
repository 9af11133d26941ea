-- Which plain value of the model each value of this crate stands for. A command speaks of the arguments that it was
-- read from.
use Rattle.std.specs.Prelude.{ℕ, List, option_map, option_copied, slice_range}
use Rattle.lilo_model.specs.Words as model
use Rattle.mbr_table.specs.View.{device_view}
use Rattle.lilo_words.specs.declared.part.Command.{Command}
use Rattle.lilo_words.specs.declared.part.Command.TheVariants.{Install, Test, Query, SetLine, Restore, Boot}
use Rattle.lilo_words.specs.declared.part.Part.{Part}

-- what a part does
abbrev pub command_view : List (List ℕ) → Command → model.Command
command_view words Install = model.Install
command_view words Test = model.Test
command_view words (Query device) = model.Query (option_map device_view device)
command_view words (SetLine from to) = model.SetLine (slice_range words from to)
command_view words (Restore device) = model.Restore (device_view device)
command_view words (Boot device dump) = model.Boot (device_view device) dump

-- what a part asks for
abbrev pub part_view : List (List ℕ) → Part → model.Part
part_view words part = record {
  config = option_copied part.config;
  root = option_map device_view part.root;
  verbose = part.verbose;
  command = command_view words part.command;
}

-- its options alone
abbrev pub bare_view : Part → model.Part
bare_view part = record {
  config = option_copied part.config;
  root = option_map device_view part.root;
  verbose = part.verbose;
  command = model.Install;
}
