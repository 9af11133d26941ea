-- Arguments that are no run are reported.
use Rattle.lilo_words.specs.Wrong.{wrong_view}
use Rattle.disk_trait.proofs.ToldLemmas.{told_all}
use Rattle.lilo_run.proofs.RunLemmas.{usage_is, usage_runs}
use Rattle.std.proofs.Common.{[], refl, arith, rules}
use Rattle.lilo_run.proofs.InstallLemmas.{ok_same}
use Rattle.loader_core.proofs.LeavesLemmas.{goes_on_self}
use Rattle.lilo_run.proofs.run.run_words.Goals as goal

pub returns-in-Err-clause-usage_line : goal.returns-in-Err-clause-usage_line
returns-in-Err-clause-usage_line g c =
    λ none. rw (usage_is c.args.words.now (wrong_view c.in-Err.wrong) c.in-Err.ensures.wrong, ← c.word.ensures) c.say_usage.ensures.shown

pub returns-in-Ok-clause-alone : goal.returns-in-Ok-clause-alone
returns-in-Ok-clause-alone g c = λ part only. c.run_parts.ensures.alone part (ok_same _ _ _ c.in-Ok.ensures.run only)

pub returns-in-Err-clause-alone : goal.returns-in-Err-clause-alone
returns-in-Err-clause-alone g c = λ part only. let wrong = c.in-Err.ensures.wrong in absurd cc

pub returns-in-Err-clause-does : goal.returns-in-Err-clause-does
returns-in-Err-clause-does g c =
    told_all (g.D.Disks.past c.args.bios.now.disks.now) _
    (λ now left may. (
      left,
      may,
      (
        [],
        usage_runs g.D.Disks now _ _ _ c.args.words.now [] left (wrong_view c.in-Err.wrong) c.args.bios.now.disks.now _ _ _ _ c.in-Err.ensures.wrong
            (rw (usage_is c.args.words.now (wrong_view c.in-Err.wrong) c.in-Err.ensures.wrong, ← c.word.ensures) c.say_usage.ensures.shown),
      ),
    ))

pub returns-in-Err-clause-asks : goal.returns-in-Err-clause-asks
returns-in-Err-clause-asks g c = record {
  keeps = goes_on_self g.D.Disks c.args.bios.now.disks.now;
  lost = λ lost. search rules;
  later = omega arith;
  keys = λ unheard. absurd (omega (arith, unheard));
  sink = search rules;
  same_disks_reference = refl;
  same_keys_reference = refl;
  same_reference = c.say_usage.ensures.same_reference;
}
