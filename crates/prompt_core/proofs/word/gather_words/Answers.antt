use Rattle.std.proofs.Common.{◌≢◌, [], length, sym, ◌∙◌, ap, arith}
use Rattle.lilo_model.specs.LineWords.{words_of}
use Rattle.prompt_core.specs.Reader.{gather_all}
use Rattle.prompt_core.specs.GatheredView.{gathered_view}
use Rattle.prompt_core.proofs.WordLemmas.{some_word}
use Rattle.prompt_core.proofs.GatherLemmas.{gathers_on, words-length, lock_line-length}
use Rattle.prompt_core.proofs.word.gather_words.Goals as goal

pub loop-next-preserved : goal.loop-next-preserved
loop-next-preserved c =
    let some : c.first_word-next.result.word.now ≢ [] = some_word c.first_word-next.result.word.now c.is_empty.result c.is_empty.ensures c.if-is_empty.false in
    let less = c.first_word-next.ensures.shorter c.loop-next.invariant.spaced some in
    let words = ap (λ g. length g.words) c.gather-gathered.ensures in
    let line = ap (λ g. length g.lock_line) c.gather-gathered.ensures in
    record {
      same = rw c.gather-gathered.ensures
          (sym (gathers_on (gathered_view c.loop-next.gathered) c.first_word-next.result.word.now (words_of c.first_word-next.result.rest.now) some)
          ∙ ap (gather_all (gathered_view c.loop-next.gathered)) (sym c.first_word-next.ensures.words)
          ∙ c.loop-next.invariant.same);
      words = omega (arith, words, words-length (gathered_view c.loop-next.gathered) c.first_word-next.result.word.now);
      lock_line = omega (arith, line, lock_line-length (gathered_view c.loop-next.gathered) c.first_word-next.result.word.now);
      spaced = c.first_word-next.ensures.spaced;
    }
