-- A part answers 0 and the loop goes on, or it is the last.
use Rattle.std.proofs.Common.{◌≡◌, inl, [], ◌∷◌, refl, ◌∙◌, length, sym, ap, subst, arith, tests}
use Rattle.std.specs.Prelude.{IfSome}
use Rattle.disk_trait.specs.Moments.{now}
use Rattle.disk_trait.proofs.CallLemmas.{goes_on_join}
use Rattle.sector_address.specs.Machine.{machine_of}
use Rattle.bios_model.specs.Memory.{memory_of}
use Rattle.lilo_words.specs.Run.{parts_behind, parts_of_next}
use Rattle.lilo_words.specs.View.{part_view}
use Rattle.stream_trait.specs.Shows.{sink_of, answer_of}
use Rattle.stream_trait.proofs.ShowsLemmas.{has_failed_twice, zero_before}
use Rattle.loader_core.specs.Start.{OnKeys}
use Rattle.lilo_run.specs.Run.{CarriesKeys, state_of}
use Rattle.lilo_run.specs.Verdict.{Left, part_effect, early_status}
use Rattle.lilo_run.specs.Install.{done_status}
use Rattle.lilo_run.proofs.AloneLemmas.{alone_end, alone_last, alone_more, done_answer}
use Rattle.lilo_run.proofs.ConfLemmas.{read_first, read_more}
use Rattle.lilo_model.specs.ConfVerdict.{conf_path}
use Rattle.lilo_run.proofs.MemoryLemmas.{boots_by}
use Rattle.install_run.proofs.PreviewStateLemmas.{told_from}
use Rattle.lilo_run.proofs.RunLemmas.{Begun, place_within, continues_more, continues_end, continues_last, own_status, own_lost, own_write_lost, long_first, long_more, write_first, write_more, begun_more, begun_last, stays_more, unwritten_more, told_here, continues_start}
use Rattle.lilo_model.proofs.RoseLemmas.{rose_after}
use Rattle.loader_core.proofs.LeavesLemmas.{goes_on_self, same_self}
use Rattle.lilo_run.proofs.run.run_parts.Goals as goal

pub returns-in_default-answer-clause-does : goal.returns-in_default-answer-clause-does
returns-in_default-answer-clause-does g c =
    let words = c.args.words.now in
    let invariant = c.loop-next.invariant in
    let run = c.carry_out-own in
    let part = part_view words c.part_at-read.result.part in
    let machine = machine_of g.D.Disks c.args.bios.now.disks.now in
    let start = state_of g.I.Source g.O.Sink (c.args.bios.now.disks.now, c.args.bios.now.keys.now, c.args.ram.now, c.args.out.now) in
    let here = state_of g.I.Source g.O.Sink (c.loop-next.bios.disks.now, c.loop-next.bios.keys.now, c.loop-next.ram, c.loop-next.out) in
    let there = state_of g.I.Source g.O.Sink (run.new.bios.disks.now, run.new.bios.keys.now, run.new.ram, run.new.out) in
    let rest : parts_of_next words c.loop-next.next ≡ part ∷ parts_of_next words c.part_at-read.result.next =
    rw c.in-Some.is c.part_at-read.ensures.part in
    let answer : c.answer.result ≡ answer_of run.result run.new.out.failed = rw c.failed.ensures at c.answer.ensures in
    told_from (g.D.Disks.past c.args.bios.now.disks.now) _
    (λ is.
    let told = told_here g.D.Disks c.args.bios.now.disks.now c.loop-next.bios.disks.now invariant.keeps.size invariant.keeps.geometry
    (λ image machine. OnKeys g.I.Source (c.loop-next.bios.keys.now, run.new.bios.keys.now) (λ keys left. (found : Left)
    × CarriesKeys g.D.Disks (part_effect machine (length c.loop-next.ram) c.args.time image part found keys) run.result left here there))
    run.ensures.does (invariant.keeps.told is) in
    let done = subst
    (λ size. OnKeys g.I.Source (c.loop-next.bios.keys.now, run.new.bios.keys.now) (λ keys left. (found : Left)
    × CarriesKeys g.D.Disks (part_effect machine size c.args.time (now (g.D.Disks.past c.loop-next.bios.disks.now)) part found keys) run.result left here there))
    invariant.memory told in
    continues_last g.D.Disks g.I.Source (part_effect machine (length c.args.ram.now) c.args.time) _ _ _ part run.result c.answer.result _ _ _ start here there (invariant.does is) rest done run.ensures.known answer
    (grind (arith, tests))
    (λ found keys none. ap memory_of (run.ensures.quiet words (sym (boots_by (now (g.D.Disks.past c.loop-next.bios.disks.now)) machine (length c.args.ram.now) c.args.time part.root (conf_path part.config) part.command found keys) ∙ none))))

pub returns-in_default-answer-clause-early : goal.returns-in_default-answer-clause-early
returns-in_default-answer-clause-early g c =
    let words = c.args.words.now in
    let part = part_view words c.part_at-read.result.part in
    let behind = parts_of_next words c.part_at-read.result.next in
    let begun = subst (λ next. Begun (g.D.Disks.size_of c.args.bios.now.disks.now) (parts_behind words 0) next) c.in-Some.is c.loop-next.invariant.begun in
    rw (c.answer.ensures, c.failed.ensures)
    (begun_last _ (parts_behind words 0) behind part c.in-Some.from c.carry_out-own.result c.carry_out-own.new.out.failed begun
    (λ zero. subst (λ n. parts_behind words n ≡ part ∷ behind) zero c.part_at-read.ensures.part)
    (subst (λ size. IfSome (early_status size part.command) (λ status. c.carry_out-own.result ≡ status)) c.loop-next.invariant.keeps.size (c.carry_out-own.ensures.early words)))

pub returns-in_default-answer-clause-alone : goal.returns-in_default-answer-clause-alone
returns-in_default-answer-clause-alone g c =
    let words = c.args.words.now in
    let run = c.carry_out-own in
    let part = part_view words c.part_at-read.result.part in
    let behind = parts_of_next words c.part_at-read.result.next in
    let rest : parts_of_next words c.loop-next.next ≡ part ∷ behind = rw c.in-Some.is c.part_at-read.ensures.part in
    let answer : c.answer.result ≡ answer_of run.result run.new.out.failed = rw c.failed.ensures at c.answer.ensures in
    alone_last g.D.Disks c.args.time (parts_behind words 0) _ behind part c.args.bios.now.disks.now c.loop-next.bios.disks.now run.new.bios.disks.now
    c.loop-next.invariant.alone rest run.result run.ensures.leaves c.answer.result
    (ap done_status answer ∙ done_answer run.result run.new.out.failed run.ensures.known)

pub returns-in_default-answer-clause-no_boot : goal.returns-in_default-answer-clause-no_boot
returns-in_default-answer-clause-no_boot g c =
    let words = c.args.words.now in
    let part = part_view words c.part_at-read.result.part in
    let behind = parts_of_next words c.part_at-read.result.next in
    let rest : parts_of_next words c.loop-next.next ≡ part ∷ behind = rw c.in-Some.is c.part_at-read.ensures.part in
    λ none. (stays_more (parts_behind words 0) _ behind part
    c.args.bios.now.keys.now c.loop-next.bios.keys.now c.carry_out-own.new.bios.keys.now c.args.ram.now c.loop-next.ram c.carry_out-own.new.ram c.loop-next.invariant.stays rest
    (c.carry_out-own.ensures.quiet words) (c.carry_out-own.ensures.keys words) none).0

pub returns-in_default-answer-clause-same : goal.returns-in_default-answer-clause-same
returns-in_default-answer-clause-same g c =
    let words = c.args.words.now in
    let part = part_view words c.part_at-read.result.part in
    let behind = parts_of_next words c.part_at-read.result.next in
    let rest : parts_of_next words c.loop-next.next ≡ part ∷ behind = rw c.in-Some.is c.part_at-read.ensures.part in
    λ none. (unwritten_more g.D.Disks (parts_behind words 0) _ behind part c.args.bios.now.disks.now c.loop-next.bios.disks.now c.carry_out-own.new.bios.disks.now
    c.loop-next.invariant.unwritten rest (c.carry_out-own.ensures.same words) none).0

pub returns-in_default-answer-clause-starved : goal.returns-in_default-answer-clause-starved
returns-in_default-answer-clause-starved g c =
    let words = c.args.words.now in
    let part = part_view words c.part_at-read.result.part in
    let behind = parts_of_next words c.part_at-read.result.next in
    let rest : parts_of_next words c.loop-next.next ≡ part ∷ behind = rw c.in-Some.is c.part_at-read.ensures.part in
    λ starved.
    let own : c.carry_out-own.result ≡ 13 =
    own_status c.carry_out-own.result 13 c.failed.result (sym c.answer.ensures ∙ starved) (λ is. omega (arith, is)) in
    read_first (parts_behind words 0) _ behind part c.loop-next.invariant.conf rest (c.carry_out-own.ensures.starved words own)

pub returns-in_default-answer-clause-written : goal.returns-in_default-answer-clause-written
returns-in_default-answer-clause-written g c =
    let words = c.args.words.now in
    let part = part_view words c.part_at-read.result.part in
    let behind = parts_of_next words c.part_at-read.result.next in
    let rest : parts_of_next words c.loop-next.next ≡ part ∷ behind = rw c.in-Some.is c.part_at-read.ensures.part in
    λ lost.
    write_first (parts_behind words 0) _ behind part c.loop-next.invariant.writes rest
    (c.carry_out-own.ensures.written words (own_write_lost c.carry_out-own.result c.answer.result c.failed.result c.answer.ensures lost))

pub returns-in_default-answer-clause-after : goal.returns-in_default-answer-clause-after
returns-in_default-answer-clause-after g c =
    let words = c.args.words.now in
    let part = part_view words c.part_at-read.result.part in
    let behind = parts_of_next words c.part_at-read.result.next in
    let rest : parts_of_next words c.loop-next.next ≡ part ∷ behind = rw c.in-Some.is c.part_at-read.ensures.part in
    λ lost.
    let own : c.carry_out-own.result ≡ 10 =
    own_status c.carry_out-own.result 10 c.failed.result (sym c.answer.ensures ∙ lost) (λ is. omega (arith, is)) in
    long_first (parts_behind words 0) _ behind part c.loop-next.invariant.long rest (c.carry_out-own.ensures.after words own)

pub returns-in_default-answer-clause-asks : goal.returns-in_default-answer-clause-asks
returns-in_default-answer-clause-asks g c =
    let invariant = c.loop-next.invariant in
    let run = c.carry_out-own in
    let keys_before = invariant.keys_later in
    let old = sink_of g.O.Sink c.loop-next.out in
    let new = sink_of g.O.Sink run.new.out in
    record {
      keeps = goes_on_join g.D.Disks c.args.bios.now.disks.now c.loop-next.bios.disks.now run.new.bios.disks.now invariant.keeps run.ensures.asks.keeps;
      lost =
          λ lost. rose_after _ _ _ invariant.keeps.later
          (run.ensures.asks.lost (own_lost run.result c.answer.result c.failed.result c.answer.ensures lost));
      later = let after = run.ensures.asks.later in omega (arith, keys_before, after);
      keys =
          λ failed.
          let own : run.result ≡ 11 = own_status run.result 11 c.failed.result (sym c.answer.ensures ∙ failed) (λ is. omega (arith, is)) in
          rose_after _ _ _ keys_before (run.ensures.asks.keys own);
      sink = has_failed_twice _ old new invariant.sink run.ensures.asks.sink;
      same_disks_reference = run.ensures.asks.same_disks_reference ∙ invariant.disks_reference;
      same_keys_reference = run.ensures.asks.same_keys_reference ∙ invariant.keys_reference;
      same_reference = run.ensures.asks.same_reference ∙ invariant.out_reference;
    }

pub loop-next-preserved : goal.loop-next-preserved
loop-next-preserved g c =
    let words = c.args.words.now in
    let invariant = c.loop-next.invariant in
    let run = c.carry_out-own in
    let part = part_view words c.part_at-read.result.part in
    let behind = parts_of_next words c.part_at-read.result.next in
    let old = sink_of g.O.Sink c.loop-next.out in
    let new = sink_of g.O.Sink run.new.out in
    let machine = machine_of g.D.Disks c.args.bios.now.disks.now in
    let start = state_of g.I.Source g.O.Sink (c.args.bios.now.disks.now, c.args.bios.now.keys.now, c.args.ram.now, c.args.out.now) in
    let here = state_of g.I.Source g.O.Sink (c.loop-next.bios.disks.now, c.loop-next.bios.keys.now, c.loop-next.ram, c.loop-next.out) in
    let there = state_of g.I.Source g.O.Sink (run.new.bios.disks.now, run.new.bios.keys.now, run.new.ram, run.new.out) in
    let rest : parts_of_next words c.loop-next.next ≡ part ∷ behind = rw c.in-Some.is c.part_at-read.ensures.part in
    let begun = subst (λ next. Begun (g.D.Disks.size_of c.args.bios.now.disks.now) (parts_behind words 0) next) c.in-Some.is invariant.begun in
    let early = subst (λ size. IfSome (early_status size part.command) (λ status. run.result ≡ status)) invariant.keeps.size (run.ensures.early words) in
    let zero : answer_of run.result run.new.out.failed ≡ 0 = let answer = c.answer.ensures in let failed = c.failed.ensures in grind (arith, tests) in
    record {
      place = place_within c.part_at-read.result.next c.in-Some.from (length words) c.part_at-read.ensures.next;
      run = c.part_at-read.ensures.run;
      does =
          λ is.
          let told = told_here g.D.Disks c.args.bios.now.disks.now c.loop-next.bios.disks.now invariant.keeps.size invariant.keeps.geometry
          (λ image machine. OnKeys g.I.Source (c.loop-next.bios.keys.now, run.new.bios.keys.now) (λ keys left. (found : Left)
          × CarriesKeys g.D.Disks (part_effect machine (length c.loop-next.ram) c.args.time image part found keys) run.result left here there))
          run.ensures.does (invariant.keeps.told is) in
          let done = subst
          (λ size. OnKeys g.I.Source (c.loop-next.bios.keys.now, run.new.bios.keys.now) (λ keys left. (found : Left)
          × CarriesKeys g.D.Disks (part_effect machine size c.args.time (now (g.D.Disks.past c.loop-next.bios.disks.now)) part found keys) run.result left here there))
          invariant.memory told in
          continues_more g.D.Disks g.I.Source (part_effect machine (length c.args.ram.now) c.args.time) _ _ behind part run.result _ _ _ start here there (invariant.does is) rest done (invariant.keeps.told is) zero;
      begun =
          begun_more _ (parts_behind words 0) behind part c.in-Some.from run.result run.new.out.failed c.part_at-read.result.next begun
          (λ zero. subst (λ n. parts_behind words n ≡ part ∷ behind) zero c.part_at-read.ensures.part)
          early zero;
      alone =
          alone_more g.D.Disks c.args.time (parts_behind words 0) _ behind part c.args.bios.now.disks.now c.loop-next.bios.disks.now run.new.bios.disks.now
          invariant.alone rest run.result run.ensures.leaves (zero_before run.result run.new.out.failed zero);
      keeps = goes_on_join g.D.Disks c.args.bios.now.disks.now c.loop-next.bios.disks.now run.new.bios.disks.now invariant.keeps run.ensures.asks.keeps;
      keys_later = let before = invariant.keys_later in let after = run.ensures.asks.later in omega (arith, before, after);
      sink = has_failed_twice _ old new invariant.sink run.ensures.asks.sink;
      memory = run.ensures.memory ∙ invariant.memory;
      conf = read_more (parts_behind words 0) _ behind part invariant.conf rest;
      long = long_more (parts_behind words 0) _ behind part invariant.long rest;
      writes = write_more (parts_behind words 0) _ behind part invariant.writes rest;
      stays =
          stays_more (parts_behind words 0) _ behind part
          c.args.bios.now.keys.now c.loop-next.bios.keys.now run.new.bios.keys.now c.args.ram.now c.loop-next.ram run.new.ram
          invariant.stays rest (run.ensures.quiet words) (run.ensures.keys words);
      unwritten =
          unwritten_more g.D.Disks (parts_behind words 0) _ behind part c.args.bios.now.disks.now c.loop-next.bios.disks.now run.new.bios.disks.now
          invariant.unwritten rest (run.ensures.same words);
      disks_reference = run.ensures.asks.same_disks_reference ∙ invariant.disks_reference;
      keys_reference = run.ensures.asks.same_keys_reference ∙ invariant.keys_reference;
      out_reference = run.ensures.asks.same_reference ∙ invariant.out_reference;
    }

pub returns-clause-does : goal.returns-clause-does
returns-clause-does g c =
    let rest : parts_of_next c.args.words.now c.loop-next.next ≡ [] = rw c.in_default.is refl in
    let machine = machine_of g.D.Disks c.args.bios.now.disks.now in
    told_from (g.D.Disks.past c.args.bios.now.disks.now) _
    (λ is. continues_end g.D.Disks g.I.Source (part_effect machine (length c.args.ram.now) c.args.time) _ _ _ _ _ _ (c.loop-next.invariant.does is) rest)

pub returns-clause-alone : goal.returns-clause-alone
returns-clause-alone g c =
    let rest : parts_of_next c.args.words.now c.loop-next.next ≡ [] = rw c.in_default.is refl in
    alone_end g.D.Disks c.args.time (parts_behind c.args.words.now 0) _ c.args.bios.now.disks.now c.loop-next.bios.disks.now c.loop-next.invariant.alone rest

pub loop-next-init : goal.loop-next-init
loop-next-init g c = record {
  place = omega arith;
  run = c.requires.begins;
  does = λ is. continues_start g.D.Disks g.I.Source (part_effect (machine_of g.D.Disks c.args.bios.now.disks.now) (length c.args.ram.now) c.args.time) _ _ _;
  begun = inl refl;
  alone = λ part only. inl (only, refl);
  keeps = goes_on_self g.D.Disks c.args.bios.now.disks.now;
  keys_later = omega arith;
  sink = record { later = omega arith; failed = λ is. inl is };
  memory = refl;
  conf = λ is. is;
  long = λ is. is;
  writes = λ is. is;
  stays = λ none. ((refl, refl), none);
  unwritten = λ none. (same_self g.D.Disks c.args.bios.now.disks.now, none);
  disks_reference = refl;
  keys_reference = refl;
  out_reference = refl;
}
