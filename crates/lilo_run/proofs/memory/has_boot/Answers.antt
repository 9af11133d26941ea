-- A part boots, or the next one is looked at.
use Rattle.std.proofs.Common.{◌≡◌, ◌∷◌, ◌∙◌, length, sym}
use Rattle.lilo_words.specs.Run.{parts_of_next}
use Rattle.lilo_words.specs.View.{part_view}
use Rattle.lilo_run.proofs.MemoryLemmas.{boots_first, boots_later, none_boots}
use Rattle.lilo_run.proofs.RunLemmas.{place_within}
use Rattle.lilo_run.proofs.memory.has_boot.Goals as goal

pub returns-then-is_boot : goal.returns-then-is_boot
returns-then-is_boot c =
    let words = c.args.words.now in
    let part = part_view words c.part_at-read.result.part in
    let behind = parts_of_next words c.part_at-read.result.next in
    let rest : parts_of_next words c.loop-next.next ≡ part ∷ behind = rw c.in-Some.is c.part_at-read.ensures.part in
    sym (c.loop-next.invariant.boots ∙ boots_first part behind _ rest (sym (c.is_boot.ensures words) ∙ c.if-is_boot.true))

pub loop-next-preserved : goal.loop-next-preserved
loop-next-preserved c =
    let words = c.args.words.now in
    let part = part_view words c.part_at-read.result.part in
    let behind = parts_of_next words c.part_at-read.result.next in
    let rest : parts_of_next words c.loop-next.next ≡ part ∷ behind = rw c.in-Some.is c.part_at-read.ensures.part in
    record {
      place = place_within c.part_at-read.result.next c.in-Some.from (length words) c.part_at-read.ensures.next;
      run = c.part_at-read.ensures.run;
      boots = c.loop-next.invariant.boots ∙ boots_later part behind _ rest (sym (c.is_boot.ensures words) ∙ c.if-is_boot.false);
    }

pub returns : goal.returns
returns c = sym (c.loop-next.invariant.boots ∙ rw c.in_default.is none_boots)
