-- Fields in the second of two sectors, by offsets from its own start.
use Rattle.std.specs.Prelude.{◌-◌, List, map}
use Rattle.lilo_model.specs.Header.{Field}

-- a field after the first 512 bytes, as it is in the sector that begins there
abbrev pub behind_first : Field → Field
behind_first field = record { at = field.at - 512; bytes = field.bytes }

-- all of them
abbrev pub in_second : List Field → List Field
in_second fields = map behind_first fields
