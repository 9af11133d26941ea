-- Which plain value of the model each value of this crate stands for.
use Rattle.std.specs.Prelude.{ℕ, List, map}
use Rattle.std.specs.Borrow.{Bor}
use Rattle.ldisk_model.specs.Arguments as model
use Rattle.mbr_table.specs.View.{device_view}
use Rattle.minix_layout.specs.View.{kind_view}
use Rattle.ldisk_words.specs.declared.part.PartWish.{PartWish}
use Rattle.ldisk_words.specs.declared.asked.Asked.{Asked}
use Rattle.ldisk_words.specs.declared.asked.Command.{Command}
use Rattle.ldisk_words.specs.declared.asked.Command.TheVariants.{Make, Mkfs, Put, Get, Ls, Rm, Mkdir, Ln, Reclaim}

-- a partition that is asked for
abbrev pub part_view : PartWish → model.PartWish
part_view part = record { start = part.start; count = part.count; kind = part.kind }

-- a text up to its first colon, and what comes after that
abbrev pub halves_view : Bor (List ℕ) × Bor (List ℕ) → model.Halves
halves_view halves = record { before = halves.0.now; after = halves.1.now }

-- what is done on an image
abbrev pub command_view : Command → model.Command
command_view (Make parts) = model.Make (map part_view parts.items)
command_view (Mkfs device kind inodes) = model.Mkfs (device_view device) (kind_view kind) inodes
command_view (Put device path) = model.Put (device_view device) path.now
command_view (Get device path) = model.Get (device_view device) path.now
command_view (Ls device path) = model.Ls (device_view device) path.now
command_view (Rm device path) = model.Rm (device_view device) path.now
command_view (Mkdir device path) = model.Mkdir (device_view device) path.now
command_view (Ln device path target) = model.Ln (device_view device) path.now target.now
command_view (Reclaim device) = model.Reclaim (device_view device)

-- what arguments ask for
abbrev pub asked_view : Asked → model.Asked
asked_view asked = record { image = asked.image.now; sectors = asked.sectors; command = command_view asked.command }
