-- The zones so far are kept out.
use Rattle.std.proofs.Common.{◌≡◌, ◌&&◌, ℕ, nat_lt}
use Rattle.minix_steps.specs.Numbers.{has_number}
use Rattle.install_room.proofs.avoid.keep_out.Given as goal

abbrev pub invariant-loop-zone : goal.invariant-loop-zone
invariant-loop-zone l = record {
  kept : (zone : ℕ) → has_number l.taken.zones.numbers zone ≡ (nat_lt zone l.zone && has_number l.old.met.zones zone);
  rest : l.taken ≡ record l.fn.taken { zones = record l.fn.taken.zones { numbers = l.taken.zones.numbers } };
}
