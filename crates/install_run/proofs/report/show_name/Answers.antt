use Rattle.std.specs.Prelude.{◌++◌, if◌then◌else◌, codes}
use Rattle.stream_trait.proofs.ShowsLemmas.{shows_join}
use Rattle.install_run.proofs.report.show_name.Goals as goal

pub returns-clause-shown : goal.returns-clause-shown
returns-clause-shown g c =
    let end = if c.args.is_default then codes " *\n" else codes "\n" in
    shows_join _ _ _ (codes "Added ") (c.args.name.now ++ end) c.put.ensures.shown
    (shows_join _ _ _ c.args.name.now end c.put-2.ensures.shown (rw c.end_of.ensures at c.put-3.ensures.shown))
