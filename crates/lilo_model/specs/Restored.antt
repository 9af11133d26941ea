-- What `-u` writes: the boot sector that was there before the first installation (this project's own; the partition
-- table in it: IBM PC).
use Rattle.std.specs.Prelude.{ℕ, List}
use Rattle.lilo_model.specs.Bytes.{part_of, with_part}

-- a backup, with bytes 440 to 509 of the sector that is there
unfoldable pub restored_sector : List ℕ → List ℕ → List ℕ
restored_sector backup present = with_part backup 440 (part_of present 440 70)
