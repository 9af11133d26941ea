-- The names so far were shown.
use Rattle.std.proofs.Common.{◌≡◌, take}
use Rattle.lilo_model.specs.Choice.{listing}
use Rattle.prompt_core.specs.View.{entries_view}
use Rattle.stream_trait.specs.Shows.{Shows, sink_of}
use Rattle.prompt_loop.proofs.reply.show_names.Given as goal

abbrev pub invariant-loop-choice : goal.invariant-loop-choice
invariant-loop-choice g l = record {
  shown : Shows (sink_of g.O.Sink l.fn.out) (listing (entries_view (take l.choice-index l.choices))) (sink_of g.O.Sink l.out);
  same_reference : l.out.out.ghost_name ≡ l.fn.out.out.ghost_name;
}
