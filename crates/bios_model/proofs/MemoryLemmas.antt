-- Bytes that are replaced in a list are those that are put into memory.
use Rattle.std.proofs.Common.{◌≡◌, ℕ, ◌+◌, ◌≤◌, List, length, arith}
use Rattle.std.specs.Prelude.{slice_index}
use Rattle.std.proofs.Math.Path.{fun_ext}
use Rattle.std.proofs.lemmas.List.{get_or_append_left, get_or-append_right, get_or-drop, get_or-take}
use Rattle.std.proofs.lemmas.Grind.{common_steps}
use Rattle.lilo_model.specs.Bytes.{with_part}
use Rattle.lilo_model.specs.Place.{with_bytes}
use Rattle.bios_model.specs.Memory.{memory_of}

at_address :
    (bytes new : List ℕ) (at address : ℕ) → at + length new ≤ length bytes
    → slice_index (with_part bytes at new) address
    ≡ with_bytes (memory_of bytes) (record { address = at; bytes = new }) address
at_address bytes new at address fits = grind (arith, common_steps, get_or_append_left, get_or-append_right, get_or-drop, get_or-take)

pub memory_of-with_part :
    (bytes new : List ℕ) (at : ℕ) → at + length new ≤ length bytes
    → memory_of (with_part bytes at new) ≡ with_bytes (memory_of bytes) (record { address = at; bytes = new })
memory_of-with_part bytes new at fits = fun_ext (λ address. at_address bytes new at address fits)
