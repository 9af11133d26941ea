-- The way to a block of a directory.
use Rattle.write_model.specs.Growth as model
use Rattle.minix_choice.specs.declared.growth.Way.{Way}

-- a way
abbrev pub way_view : Way → model.Way
way_view way = record { zone = way.zone; missing = way.missing }
