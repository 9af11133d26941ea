use Rattle.std.proofs.Common.{◌∙◌, take}
use Rattle.std.specs.Prelude.{◌++◌, ◌==◌, codes}
use Rattle.lilo_model.specs.Verdict.{name_line}
use Rattle.install_laws.specs.InstallVerdict.{added_lines}
use Rattle.stream_trait.proofs.ShowsLemmas.{shows_join, shows_same}
use Rattle.install_run.proofs.ReportLemmas.{added_next}
use Rattle.install_run.proofs.report.show_names.Goals as goal

pub loop-index-preserved : goal.loop-index-preserved
loop-index-preserved g c =
    let inv = c.loop-index.invariant in
    let item = c.index-items-index.result in
    record {
      all = inv.all;
      shown = shows_same _ _ _ _ (added_next c.items-items.result.now c.args.names.now c.loop-index.index item inv.all c.index-items-index.is c.loop-index-test.true c.args.default_entry)
          (shows_join _ _ _ (added_lines c.args.default_entry 0 (take c.loop-index.index c.args.names.now)) (codes "Added " ++ name_line (c.loop-index.index == c.args.default_entry) item) inv.shown
          (rw (c.bytes.ensures, c.from.ensures) at c.show_name.ensures.shown));
      same = c.show_name.ensures.same_reference ∙ inv.same;
    }
