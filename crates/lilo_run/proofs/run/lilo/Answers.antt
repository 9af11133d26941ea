-- The sink hadn't failed before.
use Rattle.std.proofs.Common.{◌≡◌, ℕ, List, Option, ap, subst, rules}
use Rattle.std.specs.Prelude.{length}
use Rattle.disk_trait.specs.Past.{Told}
use Rattle.disk_trait.proofs.MomentLemmas.{told_now}
use Rattle.disk_trait.proofs.ToldLemmas.{told_map}
use Rattle.install_run.proofs.PreviewStateLemmas.{told_from}
use Rattle.lilo_model.specs.Devices.{Device}
use Rattle.sector_address.specs.Machine.{OnDisks, machine_of}
use Rattle.loader_core.proofs.BootLemmas.{keys_map}
use Rattle.loader_core.specs.Start.{OnKeys}
use Rattle.lilo_run.specs.Install.{HoldsHeadline, InstallDoes, InstallHolds, InstallStays, done_status}
use Rattle.lilo_run.specs.Run.{TellsRun, scene_of}
use Rattle.lilo_run.specs.Verdict.{Left, effects_of}
use Rattle.lilo_run.proofs.AloneLemmas.{headline_of, of_run}
use Rattle.lilo_run.proofs.InstallLemmas.{install_tells}
use Rattle.lilo_run.proofs.LawLemmas.{boot_tells}
use Rattle.lilo_run.proofs.LineLemmas.{told_leaves, told_others, told_holds}
use Rattle.lilo_run.proofs.PartLemmas.{parts_then, parts_alone}
use Rattle.lilo_run.proofs.TellLemmas.{runs_tell, told_answers, told_whole, told_placed, told_left, held_of_four}
use Rattle.lilo_run.proofs.TurnLemmas.{turn_tells}
use Rattle.lilo_run.proofs.run.lilo.Goals as goal

pub returns-clause-text : goal.returns-clause-text
returns-clause-text g c =
    held_of_four
    (λ disks keys out out'. Told (g.D.Disks.past c.args.disks.now) (λ now. OnKeys g.I.Source (c.args.keys.now, keys) (λ all left. (lefts : List Left)
    × TellsRun g.D.Disks (effects_of now (machine_of g.D.Disks c.args.disks.now) (length c.args.ram.now) c.args.now c.args.words.now lefts all)
    c.run_words.result all left (scene_of g.I.Source g.O.Sink (c.args.disks.now, c.args.keys.now, c.args.ram.now, out)) (scene_of g.I.Source g.O.Sink (disks, keys, c.run_words.new.ram, out')))))
    c.run_words.new.bios.disks.now c.run_words.new.bios.keys.now c.new-shown.result.out.now c.run_words.new.out.out.now
    (parts_then (g.D.Disks.past c.args.disks.now) g.I.Source _ _ c.run_words.ensures.does _
    (λ is now all left lefts told. runs_tell g.D.Disks _ c.run_words.result all left _ _ c.new-shown.ensures.fresh told))
    (search rules) (search rules) (ap (λ out. out.now) c.new-shown.ensures.sink) (search rules)

pub returns-clause-status : goal.returns-clause-status
returns-clause-status g c =
    parts_then (g.D.Disks.past c.args.disks.now) g.I.Source _ _ (returns-clause-text g c) _
    (λ is now all left lefts told. told_answers g.D.Disks _ c.run_words.result _ _ _ _ told)

pub returns-clause-whole : goal.returns-clause-whole
returns-clause-whole g c =
    λ done. parts_then (g.D.Disks.past c.args.disks.now) g.I.Source _ _ (returns-clause-text g c) _
    (λ is now all left lefts told. told_whole g.D.Disks _ c.run_words.result _ _ _ _ told done)

pub returns-clause-left : goal.returns-clause-left
returns-clause-left g c =
    λ done. parts_then (g.D.Disks.past c.args.disks.now) g.I.Source _ _ (returns-clause-text g c) _
    (λ is now all left lefts told. told_left g.D.Disks _ c.run_words.result _ _ _ _ told done)

pub returns-clause-memory : goal.returns-clause-memory
returns-clause-memory g c =
    λ done. parts_then (g.D.Disks.past c.args.disks.now) g.I.Source _ _ (returns-clause-text g c) _
    (λ is now all left lefts told. told_placed g.D.Disks _ c.run_words.result _ _ _ _ told done)

pub returns-clause-lines : goal.returns-clause-lines
returns-clause-lines g c =
    λ done. parts_then (g.D.Disks.past c.args.disks.now) g.I.Source _ _ (returns-clause-text g c) _
    (λ is now all left lefts told. told_holds g.D.Disks _ c.run_words.result all left _ _ is told done)

pub returns-clause-moments : goal.returns-clause-moments
returns-clause-moments g c =
    parts_then (g.D.Disks.past c.args.disks.now) g.I.Source _ _ (returns-clause-text g c) _
    (λ is now all left lefts told. told_leaves g.D.Disks _ c.run_words.result all left _ _ is told)

pub returns-clause-others : goal.returns-clause-others
returns-clause-others g c =
    parts_then (g.D.Disks.past c.args.disks.now) g.I.Source _ _ (returns-clause-text g c) _
    (λ is now all left lefts told. told_others g.D.Disks _ c.run_words.result all left _ _ told)

pub returns-clause-boot : goal.returns-clause-boot
returns-clause-boot g c =
    λ device dump run. parts_alone (g.D.Disks.past c.args.disks.now) g.I.Source _ _ (returns-clause-text g c) _
    (λ now all left lefts told. boot_tells g.D.Disks now _ _ _ c.args.words.now device dump lefts all left _ _ _ run told)

pub returns-clause-install : goal.returns-clause-install
returns-clause-install g c =
    λ root path run. parts_alone (g.D.Disks.past c.args.disks.now) g.I.Source _ _ (returns-clause-text g c) _
    (λ now all left lefts told. install_tells g.D.Disks now _ _ _ c.args.words.now root path lefts all left _ _ _ run told)

pub returns-clause-headline : goal.returns-clause-headline
returns-clause-headline g c = λ root path run.
    let end : c.run_words.new.bios.disks.now ≡ c.disks-1.given.0 = search rules in
    subst
    (λ disks. OnDisks g.D.Disks c.args.disks.now (λ image machine.
    HoldsHeadline image machine root path (g.D.Disks.past c.args.disks.now) (g.D.Disks.past disks) (done_status c.run_words.result))) end
    (told_map (g.D.Disks.past c.args.disks.now) _ _
    (λ now does. headline_of now (machine_of g.D.Disks c.args.disks.now) root path c.args.now _ _ (done_status c.run_words.result) does.leaves)
    (of_run c.args.words.now root path
    (λ (r : Option Device) (p : List ℕ). OnDisks g.D.Disks c.args.disks.now (λ image machine.
    InstallDoes image machine r p c.args.now (g.D.Disks.past c.args.disks.now) (g.D.Disks.past c.run_words.new.bios.disks.now) (done_status c.run_words.result)))
    run c.run_words.ensures.alone))

pub returns-clause-leaves : goal.returns-clause-leaves
returns-clause-leaves g c = λ root path run.
    let end : c.run_words.new.bios.disks.now ≡ c.disks-1.given.0 = search rules in
    subst
    (λ disks. OnDisks g.D.Disks c.args.disks.now (λ image machine.
    InstallHolds image machine root path c.args.now (g.D.Disks.past c.args.disks.now) (g.D.Disks.past disks) c.run_words.result)) end
    (told_map (g.D.Disks.past c.args.disks.now) _ _ (λ now does. does.leaves)
    (of_run c.args.words.now root path
    (λ (r : Option Device) (p : List ℕ). OnDisks g.D.Disks c.args.disks.now (λ image machine.
    InstallDoes image machine r p c.args.now (g.D.Disks.past c.args.disks.now) (g.D.Disks.past c.run_words.new.bios.disks.now) (done_status c.run_words.result)))
    run c.run_words.ensures.alone))

pub returns-clause-stays : goal.returns-clause-stays
returns-clause-stays g c = λ root path run.
    let end : c.run_words.new.bios.disks.now ≡ c.disks-1.given.0 = search rules in
    subst
    (λ disks. OnDisks g.D.Disks c.args.disks.now (λ image machine.
    InstallStays image machine root path (g.D.Disks.past c.args.disks.now) (g.D.Disks.past disks) (done_status c.run_words.result))) end
    (told_map (g.D.Disks.past c.args.disks.now) _ _ (λ now does. does.stays)
    (of_run c.args.words.now root path
    (λ (r : Option Device) (p : List ℕ). OnDisks g.D.Disks c.args.disks.now (λ image machine.
    InstallDoes image machine r p c.args.now (g.D.Disks.past c.args.disks.now) (g.D.Disks.past c.run_words.new.bios.disks.now) (done_status c.run_words.result)))
    run c.run_words.ensures.alone))

pub returns-clause-turn : goal.returns-clause-turn
returns-clause-turn g c = λ part run.
    told_from (g.D.Disks.past c.args.disks.now) _
    (λ is. keys_map g.I.Source _ _ _ (λ all left found. turn_tells g.D.Disks _ _ _ c.args.words.now found.0 all left _ _ _ part run is found.1)
    (told_now (g.D.Disks.past c.args.disks.now) _ (returns-clause-text g c) is))
