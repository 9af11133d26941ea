use Rattle.prompt_core.proofs.WordLemmas.{first_word_is, rest_spaced}
use Rattle.prompt_core.proofs.word.first_word.Goals as goal

pub returns-clause-words : goal.returns-clause-words
returns-clause-words c =
    first_word_is c.args.text.now c.split_at.result.1.now c.split_at-2.result.0.now c.split_at-2.result.1.now c.spaces.result c.word_length.result
    c.spaces.ensures.value c.split_at.ensures.back c.word_length.ensures.value c.split_at-2.ensures.front c.split_at-2.ensures.back

pub returns-clause-spaced : goal.returns-clause-spaced
returns-clause-spaced c =
    rest_spaced c.split_at.result.1.now c.split_at-2.result.1.now c.word_length.result c.word_length.ensures.value c.split_at-2.ensures.back
