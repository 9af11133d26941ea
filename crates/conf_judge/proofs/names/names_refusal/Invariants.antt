use Rattle.std.proofs.Common.{◌≡◌, ◌≤◌, [], length, take, drop}
use Rattle.lilo_model.specs.Conf.{names_from}
use Rattle.conf_judge.specs.View.{lists_view, names_of}
use Rattle.conf_judge.proofs.names.names_refusal.Given as goal

-- so many names come before what is left, which is refused after them as the whole is
abbrev pub invariant-loop-index : goal.invariant-loop-index
invariant-loop-index l = record {
  count : l.count ≡ length (names_of (take l.index l.sections));
  few : l.count ≤ 19;
  rest : names_from (names_of (take l.index l.sections)) (lists_view (drop l.index l.sections)) ≡ names_from [] (lists_view l.sections);
}
