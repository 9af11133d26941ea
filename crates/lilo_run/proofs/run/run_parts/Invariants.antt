-- What the parts that are left do is what is left of all of them.
use Rattle.std.proofs.Common.{◌≡◌, ◌≤◌, length, IfSome, IsOk}
use Rattle.disk_trait.specs.Moments.{IsTold}
use Rattle.disk_trait.specs.Calls.{GoesOn}
use Rattle.sector_address.specs.Machine.{machine_of}
use Rattle.lilo_words.specs.Run.{run_behind, parts_behind, parts_of_next}
use Rattle.stream_trait.specs.Shows.{sink_of, HasFailed}
use Rattle.lilo_run.specs.Run.{state_of}
use Rattle.lilo_run.specs.Verdict.{part_effect}
use Rattle.lilo_run.proofs.AloneLemmas.{IsAlone}
use Rattle.lilo_run.proofs.ConfLemmas.{AreRead}
use Rattle.lilo_run.proofs.RunLemmas.{turns_left, Continues, Begun, AreLong, AreWrites, Stays, StaysUnwritten}
use Rattle.lilo_run.proofs.run.run_parts.Given as goal

abbrev pub invariant-loop-next : goal.invariant-loop-next
invariant-loop-next g l = record {
  place : IfSome l.next (λ from. from ≤ length l.words);
  run : IfSome l.next (λ from. IsOk (run_behind l.words from));
  does :
      IsTold (g.D.Disks.past l.fn.bios.disks.now)
      → Continues g.D.Disks g.I.Source (part_effect (machine_of g.D.Disks l.fn.bios.disks.now) (length l.fn.ram) l.fn.time)
      (parts_behind l.words 0) (parts_of_next l.words l.next) l.fn.bios.keys.now l.bios.keys.now
      (state_of g.I.Source g.O.Sink (l.fn.bios.disks.now, l.fn.bios.keys.now, l.fn.ram, l.fn.out)) (state_of g.I.Source g.O.Sink (l.bios.disks.now, l.bios.keys.now, l.ram, l.out));
  begun : Begun (g.D.Disks.size_of l.fn.bios.disks.now) (parts_behind l.words 0) l.next;
  alone : IsAlone g.D.Disks l.fn.time (parts_behind l.words 0) (parts_of_next l.words l.next) l.fn.bios.disks.now l.bios.disks.now;
  keeps : GoesOn g.D.Disks l.fn.bios.disks.now l.bios.disks.now;
  keys_later : g.I.Source.faults l.fn.bios.keys.now ≤ g.I.Source.faults l.bios.keys.now;
  sink :
      HasFailed (sink_of g.O.Sink l.fn.out)
      (sink_of g.O.Sink l.out);
  memory : length l.ram ≡ length l.fn.ram;
  conf : AreRead (parts_behind l.words 0) (parts_of_next l.words l.next);
  long : AreLong (parts_behind l.words 0) (parts_of_next l.words l.next);
  writes : AreWrites (parts_behind l.words 0) (parts_of_next l.words l.next);
  stays :
      Stays (parts_behind l.words 0) (parts_of_next l.words l.next) (l.fn.bios.keys.now, l.fn.ram)
      (l.bios.keys.now, l.ram);
  unwritten : StaysUnwritten g.D.Disks (parts_behind l.words 0) (parts_of_next l.words l.next) l.fn.bios.disks.now l.bios.disks.now;
  disks_reference : l.bios.disks.ghost_name ≡ l.fn.bios.disks.ghost_name;
  keys_reference : l.bios.keys.ghost_name ≡ l.fn.bios.keys.ghost_name;
  out_reference : l.out.out.ghost_name ≡ l.fn.out.out.ghost_name;
}

abbrev pub decreases-loop-next : goal.decreases-loop-next
decreases-loop-next g l = turns_left l.next (length l.words)
