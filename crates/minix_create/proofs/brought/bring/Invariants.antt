use Rattle.std.proofs.Common.{◌≤◌, Ok}
use Rattle.disk_trait.specs.Moments.{IsTold, IsQuiet}
use Rattle.minix_choice.specs.declared.write_fault.WriteFault.TheVariants.{Device}
use Rattle.minix_zones.specs.Volume.{past_of, faults_of, KeepsVolume}
use Rattle.minix_create.specs.Brought.{MayBring, Brings}
use Rattle.minix_create.proofs.brought.bring.Given as goal

-- the places before this one lie below the size
abbrev pub invariant-loop-next : goal.invariant-loop-next
invariant-loop-next g l = record {
  brings : (IsTold (past_of l.fn.volume) → MayBring l.fn.volume l.directory l.have) → Brings l.fn.volume l.volume l.directory l.next Device (Ok tt);
  quiet : IsQuiet (past_of l.volume);
  later : faults_of l.fn.volume ≤ faults_of l.volume;
  kept : KeepsVolume l.fn.volume l.volume;
  from : l.have ≤ l.next;
  to : l.next ≤ l.place;
}
