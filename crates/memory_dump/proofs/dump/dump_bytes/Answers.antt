-- The lines of a piece are shown after those before them.
use Rattle.std.proofs.Common.{[], ◌++◌, sym, ap, ◌∙◌, rules, append_assoc}
use Rattle.std.specs.Slice.Iter.{chunks_rest}
use Rattle.stream_trait.proofs.ShowsLemmas.{shows_nothing, shows_join, shows_same}
use Rattle.memory_dump.specs.Dump.{hex_text}
use Rattle.memory_dump.proofs.DumpLemmas.{hex_text-piece, all_told}
use Rattle.memory_dump.proofs.dump.dump_bytes.Goals as goal

pub loop-piece-init : goal.loop-piece-init
loop-piece-init g c = (search rules, tt, search rules, search rules, ([], shows_nothing _, search rules))

pub loop-piece-preserved : goal.loop-piece-preserved
loop-piece-preserved g c =
    let piece = c.in-Some.piece.now in
    let rest = chunks_rest c.next.new.self in
    let (same, (parts, size, some)) = c.in-Some.ensures.steps in
    let (before, shown, told) = c.loop-piece.invariant.4 in
    let put = shows_same _ _ _ _ (c.as_slice.ensures.value ∙ c.lines.ensures) c.put.ensures.shown in (
      search rules,
      tt,
      same ∙ c.loop-piece.invariant.2,
      c.put.ensures.same_reference ∙ c.loop-piece.invariant.3,
      (
        before ++ hex_text piece,
        shows_join _ _ _ _ _ shown put,
        append_assoc before (hex_text piece) (hex_text rest) ∙ ap (λ l. before ++ l) (sym (hex_text-piece _ piece rest parts (search rules))) ∙ told,
      ),
    )

pub returns-clause-shown : goal.returns-clause-shown
returns-clause-shown g c =
    let (before, shown, told) = c.loop-piece.invariant.4 in
    shows_same _ _ _ _ (all_told _ _ c.in-None.ensures.steps.1.0 ∙ told) shown
