-- A run is joined to the last one, or comes after it.
use Rattle.std.proofs.Common.{[], ◌∷◌, ◌++◌, sym, ap, subst, ◌∙◌, arith}
use Rattle.std.specs.Prelude.{All}
use Rattle.std.proofs.lemmas.List.Elements.{All-push, All-take}
use Rattle.slot_lists.specs.Runs.{IsRun, run_places, places_in}
use Rattle.file_runs.specs.Needed.{AreJoined}
use Rattle.file_runs.proofs.NeededLemmas.{last-count, last-is, places-whole, joined-whole, joined-apart, run-whole}
use Rattle.file_runs.proofs.list.add_run.Goals as goal

pub joined_run-requires : goal.joined_run-requires
joined_run-requires c =
    let few = last-count c.pop.new.self.items c.in-Some.last _ c.in-Some.ensures.items in
    omega (arith, few, c.requires.room)

pub returns-in_ok-push-in-Some-joined_run-clause-places : goal.returns-in_ok-push-in-Some-joined_run-clause-places
returns-in_ok-push-in-Some-joined_run-clause-places c =
    ap places_in c.in_ok-push-in-Some-joined_run.ensures.items
    ∙ places-whole c.pop.new.self.items c.in-Some.last c.args.run c.in-Some-joined_run.whole (sym c.in-Some-joined_run.ensures)
    ∙ ap (λ runs. places_in runs ++ run_places c.args.run) (sym c.in-Some.ensures.items)

pub returns-in_ok-push-in-Some-joined_run-clause-joined : goal.returns-in_ok-push-in-Some-joined_run-clause-joined
returns-in_ok-push-in-Some-joined_run-clause-joined c joined =
    subst AreJoined (sym c.in_ok-push-in-Some-joined_run.ensures.items)
    (joined-whole c.pop.new.self.items c.in-Some.last c.args.run c.in-Some-joined_run.whole
    (subst AreJoined c.in-Some.ensures.items joined) (sym c.in-Some-joined_run.ensures))

pub returns-in_ok-push-in-Some-joined_run-clause-are : goal.returns-in_ok-push-in-Some-joined_run-clause-are
returns-in_ok-push-in-Some-joined_run-clause-are c all one =
    subst (All IsRun) (sym c.in_ok-push-in-Some-joined_run.ensures.items)
    (All-push IsRun c.pop.new.self.items c.in-Some-joined_run.whole
    (subst (All IsRun) (sym c.in-Some.ensures.rest) (All-take IsRun _ c.args.runs.now.items all))
    (run-whole c.in-Some.last c.args.run c.in-Some-joined_run.whole (sym c.in-Some-joined_run.ensures)
    (last-is c.pop.new.self.items c.in-Some.last (subst (All IsRun) c.in-Some.ensures.items all)) one))

pub returns-in_ok-push-in-None-joined_run-2-clause-joined : goal.returns-in_ok-push-in-None-joined_run-2-clause-joined
returns-in_ok-push-in-None-joined_run-2-clause-joined c joined =
    subst AreJoined
    (sym (c.in_ok-push-in-None-joined_run-2.ensures.items ∙ ap (λ runs. runs ++ c.args.run ∷ []) c.in_ok-push-in-None-joined_run.ensures.items))
    (joined-apart c.pop.new.self.items c.in-Some.last c.args.run (subst AreJoined c.in-Some.ensures.items joined)
    (sym c.in-None-joined_run.ensures) c.requires.some)
