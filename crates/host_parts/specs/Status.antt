-- The exit status of a program that ends before its arguments are carried out (this project's own).
use Rattle.std.specs.Prelude.{ℕ}
use Rattle.host_parts.specs.declared.start.StartFault.{StartFault}
use Rattle.host_parts.specs.declared.start.StartFault.TheVariants.{Image, Memory, NotText}

abbrev pub start_status : StartFault → ℕ
start_status (Image path) = 14
start_status (Memory error) = 13
start_status NotText = 1
