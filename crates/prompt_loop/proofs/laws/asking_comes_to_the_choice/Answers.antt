use Rattle.prompt_loop.proofs.LawLemmas.{ask_law}
use Rattle.prompt_loop.proofs.laws.asking_comes_to_the_choice.Goals as goal

pub returns : goal.returns
returns c = ask_law
