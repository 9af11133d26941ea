use Rattle.std.specs.Prelude.{codes}
use Rattle.install_laws.specs.InstallVerdict.{answer_text, test_text}
use Rattle.stream_trait.proofs.ShowsLemmas.{shows_join, shows_same}
use Rattle.install_run.specs.Reports.{answer_in}
use Rattle.install_run.proofs.ReportLemmas.{clear_is}
use Rattle.install_run.proofs.report.Report.show_test.Goals as goal

pub returns-clause-shown : goal.returns-clause-shown
unfolding test_text
returns-clause-shown g c =
    shows_join _ _ _ (answer_text (answer_in c.args.self.now)) _ c.show.ensures.shown
    (shows_join _ _ _ _ (codes "No changes were made.\n") (shows_same _ _ _ _ (clear_is c.args.self.now.clear) c.show_clear.ensures.shown) c.put.ensures.shown)
