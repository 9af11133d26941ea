-- Commands that don't boot do what their definitions say, with the part's path, and take no key.
use Rattle.std.proofs.Common.{◌∙◌, inl, [], length, subst}
use Rattle.std.specs.Prelude.{option_map}
use Rattle.mbr_table.specs.View.{device_view}
use Rattle.sector_address.specs.Machine.{OnDisks, machine_of}
use Rattle.lilo_run.specs.Install.{InstallDoes}
use Rattle.lilo_run.specs.Run.{Starved, DoesBeside, CarriesBeside, CarriesFound, state_of}
use Rattle.lilo_run.specs.Verdict.{query_command, install_effect, line_effect, command_effect, first_left}
use Rattle.bios_model.specs.Memory.{memory_of}
use Rattle.disk_trait.proofs.ToldLemmas.{told_map, told_all}
use Rattle.lilo_run.proofs.ConfLemmas.{queries, tests}
use Rattle.lilo_run.proofs.PartLemmas.{part_installs}
use Rattle.prompt_loop.proofs.LastLemmas.{all_last}
use Rattle.loader_core.proofs.BootLemmas.{keys_still, keys_map}
use Rattle.loader_core.proofs.LeavesLemmas.{same_self}
use Rattle.bios_model.proofs.WriteLemmas.{goes_on_read}
use Rattle.loader_core.proofs.LeavesLemmas.{goes_on_self}
use Rattle.std.proofs.Common.{refl, arith, rules}
use Rattle.lilo_run.proofs.RunLemmas.{conf_part_lost, conf_part_heard, install_heard, test_lost, test_heard}
use Rattle.lilo_run.proofs.part.carry_out.Goals as goal

pub returns-in-Query-clause-does : goal.returns-in-Query-clause-does
returns-in-Query-clause-does g c =
    let past = g.D.Disks.past c.args.bios.now.disks.now in
    let machine = machine_of g.D.Disks c.args.bios.now.disks.now in
    let old = state_of g.I.Source g.O.Sink (c.args.bios.now.disks.now, c.args.bios.now.keys.now, c.args.ram.now, c.args.out.now) in
    let new = state_of g.I.Source g.O.Sink (c.query.new.disks, c.args.bios.now.keys.now, c.args.ram.now, c.query.new.out) in
    let same = c.as_bytes-path.ensures.value ∙ c.conf_path.ensures in
    let does = subst
    (λ path. DoesBeside g.D.Disks g.O.Sink c.args.bios.now.disks.now (memory_of c.args.ram.now) c.query.result c.args.out.now c.query.new.out
    (λ now machine. query_command now machine (option_map device_view c.args.part.root) path (option_map device_view c.in-Query.device)))
    same (c.query.ensures.does (memory_of c.args.ram.now)) in
    rw c.in-Query.is
    (told_map past _ _ (λ now does. keys_still g.I.Source c.args.bios.now.keys.now _
    (λ keys. (first_left now [], queries g.D.Disks now machine (length c.args.ram.now) c.args.time _ _ c.query.result (first_left now []) keys old new c.query.ensures.only.reads _ does))) does)

pub returns-in-Boot-clause-does : goal.returns-in-Boot-clause-does
unfolding command_effect
returns-in-Boot-clause-does g c =
    rw c.in-Boot.is
    (told_map (g.D.Disks.past c.args.bios.now.disks.now) _ _ (λ now goes. keys_map g.I.Source _ _ _ (λ all left carries. (first_left now [], carries)) goes)
    c.boot_device.ensures.does)

pub returns-in-Install-clause-does : goal.returns-in-Install-clause-does
unfolding command_effect
returns-in-Install-clause-does g c =
    let same = c.as_bytes-path.ensures.value ∙ c.conf_path.ensures in
    let does = subst
    (λ path. CarriesFound g.D.Disks g.O.Sink (memory_of c.args.ram.now) c.install.result (c.args.bios.now.disks.now, c.args.out.now) (c.install.new.disks, c.install.new.out)
    (λ now machine. install_effect now machine (option_map device_view c.args.part.root) path c.args.time))
    same (c.install.ensures.does (memory_of c.args.ram.now)) in
    rw c.in-Install.is
    (part_installs g.D.Disks g.I.Source g.O.Sink c.install.result c.args.bios.now.keys.now c.args.ram.now (c.args.bios.now.disks.now, c.args.out.now) (c.install.new.disks, c.install.new.out) (option_map device_view c.args.part.root) _ c.args.time does)

pub returns-in-Install-clause-leaves : goal.returns-in-Install-clause-leaves
returns-in-Install-clause-leaves g c = λ is.
    let same = c.as_bytes-path.ensures.value ∙ c.conf_path.ensures in
    subst
    (λ path. OnDisks g.D.Disks c.args.bios.now.disks.now (λ image machine.
    InstallDoes image machine (option_map device_view c.args.part.root) path c.args.time (g.D.Disks.past c.args.bios.now.disks.now) (g.D.Disks.past c.install.new.disks) c.install.result))
    same c.install.ensures.leaves

pub returns-in-Test-clause-does : goal.returns-in-Test-clause-does
returns-in-Test-clause-does g c =
    let past = g.D.Disks.past c.args.bios.now.disks.now in
    let machine = machine_of g.D.Disks c.args.bios.now.disks.now in
    let old = state_of g.I.Source g.O.Sink (c.args.bios.now.disks.now, c.args.bios.now.keys.now, c.args.ram.now, c.args.out.now) in
    let new = state_of g.I.Source g.O.Sink (c.test.new.disks, c.args.bios.now.keys.now, c.args.ram.now, c.test.new.out) in
    let reads = c.test.ensures.only.reads in
    let does = rw (c.as_bytes-path.ensures.value, c.conf_path.ensures) at (c.test.ensures.does (memory_of c.args.ram.now)) in
    rw c.in-Test.is (told_map past _ _ (λ now does. keys_still g.I.Source c.args.bios.now.keys.now _ (λ keys. (first_left now [], tests g.D.Disks now machine (length c.args.ram.now) c.args.time _ _ c.test.result (first_left now []) keys old new reads does))) does)

pub returns-in-Ok-clause-does : goal.returns-in-Ok-clause-does
unfolding command_effect
returns-in-Ok-clause-does g c =
    let same = c.as_bytes-path.ensures.value ∙ c.conf_path.ensures in
    let does = subst
    (λ path. CarriesBeside g.D.Disks g.O.Sink (memory_of c.args.ram.now) c.put_line.result (c.args.bios.now.disks.now, c.args.out.now) (c.put_line.new.disks, c.put_line.new.out)
    (λ now machine. line_effect now machine (option_map device_view c.args.part.root) path c.in-Ok.text.items))
    same (rw c.as_slice.ensures.value at (c.put_line.ensures.does (memory_of c.args.ram.now))) in
    rw (c.in-SetLine.is, ← c.in-Ok.ensures)
    (told_map (g.D.Disks.past c.args.bios.now.disks.now) _ _ (λ now carries. keys_still g.I.Source c.args.bios.now.keys.now _ (λ keys. (first_left now [], record { does = carries keys (g.I.Source.faults c.args.bios.now.keys.now); keys = all_last keys }))) does)

pub returns-in-Err-clause-does : goal.returns-in-Err-clause-does
unfolding command_effect line_effect
returns-in-Err-clause-does g c =
    let disks = c.args.bios.now.disks.now in
    rw c.in-SetLine.is
    (told_all (g.D.Disks.past disks) _ (λ now. keys_still g.I.Source c.args.bios.now.keys.now _
    (λ keys.
    let starved = Starved (record { answer = c.say_memory.ensures.status; shown = inl c.say_memory.ensures.shown }) (same_self g.D.Disks disks) in
    (first_left now [], record { does = starved; keys = all_last keys }))))

pub returns-in-Restore-clause-does : goal.returns-in-Restore-clause-does
unfolding command_effect
returns-in-Restore-clause-does g c =
    rw c.in-Restore.is
    (told_map (g.D.Disks.past c.args.bios.now.disks.now) _ _ (λ now carries. keys_still g.I.Source c.args.bios.now.keys.now _ (λ keys. (first_left now [], record { does = carries keys (g.I.Source.faults c.args.bios.now.keys.now); keys = all_last keys })))
    (c.put_back.ensures.does (memory_of c.args.ram.now)))

pub returns-in-Query-clause-asks : goal.returns-in-Query-clause-asks
returns-in-Query-clause-asks g c =
    let only = c.query.ensures.only in
    record {
      keeps = goes_on_read g.D.Disks c.args.bios.now.disks.now c.query.new.disks only.reads.same only.reads.later;
      lost = λ lost. only.reads.failed (conf_part_lost c.query.result lost c.query.ensures.known);
      later = omega arith;
      keys = λ unheard. absurd (conf_part_heard c.query.result c.query.ensures.known unheard);
      sink = only.sink;
      same_disks_reference = search rules;
      same_keys_reference = refl;
      same_reference = only.same_reference;
    }

pub returns-in-Install-clause-asks : goal.returns-in-Install-clause-asks
returns-in-Install-clause-asks g c =
    let only = c.install.ensures.only in
    record {
      keeps = only.keeps;
      lost = λ lost. only.failed lost;
      later = omega arith;
      keys = λ unheard. absurd (install_heard c.install.result c.install.ensures.known unheard);
      sink = only.sink;
      same_disks_reference = search rules;
      same_keys_reference = refl;
      same_reference = only.same_reference;
    }

pub returns-in-Test-clause-asks : goal.returns-in-Test-clause-asks
returns-in-Test-clause-asks g c =
    let only = c.test.ensures.only in
    record {
      keeps = goes_on_read g.D.Disks c.args.bios.now.disks.now c.test.new.disks only.reads.same only.reads.later;
      lost = λ lost. only.reads.failed (test_lost c.test.result lost c.test.ensures.known);
      later = omega arith;
      keys = λ unheard. absurd (test_heard c.test.result c.test.ensures.known unheard);
      sink = only.sink;
      same_disks_reference = search rules;
      same_keys_reference = refl;
      same_reference = only.same_reference;
    }

pub returns-in-Err-clause-asks : goal.returns-in-Err-clause-asks
returns-in-Err-clause-asks g c = let status = c.say_memory.ensures.status in record {
  keeps = goes_on_self g.D.Disks c.args.bios.now.disks.now;
  lost = λ lost. search rules;
  later = omega arith;
  keys = λ unheard. absurd (omega (arith, status, unheard));
  sink = search rules;
  same_disks_reference = refl;
  same_keys_reference = refl;
  same_reference = c.say_memory.ensures.same_reference;
}
