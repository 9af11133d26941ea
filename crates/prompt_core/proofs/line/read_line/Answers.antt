use Rattle.std.proofs.Common.{sym, ◌∙◌}
use Rattle.std.specs.Str.{bytes_eq}
use Rattle.lilo_model.specs.LineWords.{words_of}
use Rattle.prompt_core.specs.View.{choice_view, entries_view, chosen_view}
use Rattle.prompt_core.proofs.WordLemmas.{no_word, some_word}
use Rattle.prompt_core.proofs.GatherLemmas.{position_of, line_blank, line_unknown, line_means}
use Rattle.prompt_core.proofs.line.read_line.Goals as goal

pub returns-then-is_empty : goal.returns-then-is_empty
returns-then-is_empty c =
    line_blank (entries_view c.args.choices.now) c.args.automatic c.args.text.now c.first_word-first.result.word.now (words_of c.first_word-first.result.rest.now)
    c.first_word-first.ensures.words (no_word c.first_word-first.result.word.now c.is_empty.result c.is_empty.ensures c.if-is_empty.true)

pub returns-in-None : goal.returns-in-None
returns-in-None c =
    line_unknown (entries_view c.args.choices.now) c.args.automatic c.args.text.now c.first_word-first.result.word.now (words_of c.first_word-first.result.rest.now)
    c.first_word-first.ensures.words (some_word c.first_word-first.result.word.now c.is_empty.result c.is_empty.ensures c.if-is_empty.false)
    (position_of (λ entry. bytes_eq entry.name c.first_word-first.result.word.now) choice_view c.args.choices.now ∙ sym c.in-None.ensures)

pub returns-in-Some : goal.returns-in-Some
returns-in-Some c =
    line_means (entries_view c.args.choices.now) c.args.automatic c.args.text.now c.first_word-first.result.word.now c.first_word-first.result.rest.now
    c.in-Some.place (chosen_view c.named_choice.result)
    c.first_word-first.ensures.words (some_word c.first_word-first.result.word.now c.is_empty.result c.is_empty.ensures c.if-is_empty.false)
    (position_of (λ entry. bytes_eq entry.name c.first_word-first.result.word.now) choice_view c.args.choices.now ∙ sym c.in-Some.ensures)
    c.named_choice.ensures
