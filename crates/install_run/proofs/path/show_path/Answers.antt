use Rattle.stream_trait.proofs.ShowsLemmas.{shows_same}
use Rattle.install_run.proofs.TextLemmas.{path_other}
use Rattle.install_run.proofs.path.show_path.Goals as goal

pub returns-in-NotDirectory-clause-shown : goal.returns-in-NotDirectory-clause-shown
returns-in-NotDirectory-clause-shown g c =
    shows_same _ _ _ _ (path_other c.args.path.now c.args.fault.now c.in-NotDirectory.is) c.show_line-in-NotDirectory.ensures.shown
