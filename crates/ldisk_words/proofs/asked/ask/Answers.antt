use Rattle.std.proofs.Common.{◌∙◌, Some, sym, ap}
use Rattle.std.specs.Option.{option_and_then}
use Rattle.ldisk_model.specs.Arguments.{asked_of}
use Rattle.ldisk_words.proofs.AskedLemmas.{asked_command}
use Rattle.ldisk_words.proofs.asked.ask.Goals as goal

pub returns-else-eq : goal.returns-else-eq
returns-else-eq c =
    c.asked_with.ensures ∙ ap (option_and_then (λ command. Some (asked_of c.word-image.result.now command))) c.command_in.ensures
    ∙ sym (asked_command c.args.words.now c.word-word.result.now c.word-image.result.now c.word-word.ensures c.word-image.ensures (sym c.if-eq.ensures))
