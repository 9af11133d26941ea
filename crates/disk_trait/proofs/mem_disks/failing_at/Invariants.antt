use Rattle.std.proofs.Common.{◌≡◌, ◌==◌, drop}
use Rattle.std.specs.Prelude.{find}
use Rattle.disk_trait.proofs.mem_disks.failing_at.Given as goal

abbrev pub invariant-loop-listed : goal.invariant-loop-listed
invariant-loop-listed l =
    find (λ listed. listed.call == l.call) l.failing ≡ find (λ listed. listed.call == l.call) (drop l.listed-index l.failing)
