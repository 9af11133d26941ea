use Rattle.boot_laws.proofs.Steps.{enough_lines_law}
use Rattle.boot_laws.proofs.laws.choice_counts_on_enough_lines.Goals as goal

pub returns : goal.returns
returns c = enough_lines_law
