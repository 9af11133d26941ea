use Rattle.std.proofs.Common.{◌≡◌, ◌≤◌, ◌-◌, refl, arith, length, drop, [], append_assoc, append-nil}
use Rattle.std.proofs.lemmas.List.{map-append, drop_all, length-drop}
use Rattle.lilo_model.specs.Conf.{parts_of}
use Rattle.conf_judge.proofs.PartsLemmas.{parts_of-next, rest_of}
use Rattle.conf_judge.proofs.parts.sections_of.Goals as goal

pub loop-at-preserved : goal.loop-at-preserved
loop-at-preserved c =
    let next = parts_of-next c.args.settings.now c.loop-at.at c.section_length-count.result c.loop-at-test.true c.loop-at.invariant.front c.section_length-count.ensures.value in
    let within : c.section_length-count.result ≤ length c.args.settings.now - c.loop-at.at =
    rw (rest_of c.args.settings.now c.loop-at.at, length-drop) at c.section_length-count.ensures.within in
    record {
      within = omega arith;
      front = next.1;
      sections = rw (c.in_ok-push.ensures.items, map-append, append_assoc) (rw next.0 at c.loop-at.invariant.sections);
    }

pub returns : goal.returns
unfolding parts_of
returns c =
    let none : drop c.loop-at.at c.args.settings.now ≡ [] = drop_all c.loop-at.at c.args.settings.now (omega arith) in
    rw (← c.loop-at.invariant.sections, none, append-nil) refl
