use Rattle.ldisk_words.proofs.GrammarLemmas.{asked_law}
use Rattle.ldisk_words.proofs.laws.words_ask_as_the_grammar_says.Goals as goal

pub returns : goal.returns
returns c = asked_law
