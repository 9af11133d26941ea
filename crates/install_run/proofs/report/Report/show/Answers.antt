use Rattle.std.proofs.Common.{List, ℕ}
use Rattle.std.specs.Prelude.{◌++◌, codes}
use Rattle.std.specs.List.{flat_map}
use Rattle.install_laws.specs.InstallVerdict.{added_lines, answer_text}
use Rattle.stream_trait.proofs.ShowsLemmas.{shows_join, shows_same}
use Rattle.install_run.proofs.ReportLemmas.{warning_is}
use Rattle.install_run.proofs.report.Report.show.Goals as goal

pub returns-clause-shown : goal.returns-clause-shown
unfolding answer_text
returns-clause-shown g c =
    let skipped = flat_map (λ (path : List ℕ). codes "Skipping " ++ path ++ codes "\n") c.args.self.now.skipped.now in
    let names = added_lines c.args.self.now.default_entry 0 c.args.self.now.names.now in
    shows_join _ _ _ skipped _ c.show_skipped.ensures.shown
    (shows_join _ _ _ _ names (shows_same _ _ _ _ (warning_is c.args.self.now.clear) c.show_clear.ensures.shown) c.show_names.ensures.shown)
