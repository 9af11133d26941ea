use Rattle.std.proofs.Common.{◌≡◌, ◌∙◌, ◌++◌, ◌∷◌, suc, sym, ap, take, drop, add-one, rules}
use Rattle.std.proofs.Math.Seq.{drop-cons}
use Rattle.lilo_model.specs.Choice.{listing, newline}
use Rattle.prompt_core.specs.View.{entries_view}
use Rattle.stream_trait.specs.Shows.{sink_of}
use Rattle.stream_trait.proofs.ShowsLemmas.{shows_join, shows_same}
use Rattle.prompt_loop.proofs.ShowLemmas.{listing_next}
use Rattle.prompt_loop.proofs.reply.show_names.Goals as goal

pub loop-choice-preserved : goal.loop-choice-preserved
loop-choice-preserved g c =
    let choice = c.choice-item.result in
    let place = c.loop-choice.choice-index in
    let choices = c.args.choices.now in
    let split : drop place choices ≡ choice ∷ drop (suc place) choices =
    drop-cons choices place choice c.loop-choice-test.true ∙ ap (λ e. e ∷ drop (suc place) choices) (sym c.choice-item.is) in
    let line = rw (c.as_slice-in-loop-choice.ensures.value, c.name_line.ensures, c.as_slice.ensures.value) at c.put.ensures.shown in
    let far = listing (entries_view (take place choices)) in
    record {
      shown =
          rw add-one
          (shows_same (sink_of g.O.Sink c.args.out.now) (sink_of g.O.Sink c.put.new.self) (far ++ (choice.name.items ++ newline)) (listing (entries_view (take (suc place) choices)))
          (sym (listing_next choices place choice (drop (suc place) choices) split))
          (shows_join (sink_of g.O.Sink c.args.out.now) (sink_of g.O.Sink c.loop-choice.out) (sink_of g.O.Sink c.put.new.self) far (choice.name.items ++ newline) c.loop-choice.invariant.shown line));
      same_reference = search rules;
    }
