use Rattle.std.proofs.Common.{◌∙◌, List, ℕ, take}
use Rattle.std.specs.Prelude.{◌++◌, codes}
use Rattle.std.specs.List.{flat_map}
use Rattle.stream_trait.proofs.ShowsLemmas.{shows_join, shows_same}
use Rattle.install_run.proofs.ReportLemmas.{skipped_next}
use Rattle.install_run.proofs.report.show_skipped.Goals as goal

pub loop-index-preserved : goal.loop-index-preserved
loop-index-preserved g c =
    let inv = c.loop-index.invariant in
    let line : List ℕ → List ℕ = λ path. codes "Skipping " ++ path ++ codes "\n" in
    let item = c.index-items-index.result in
    record {
      all = inv.all;
      shown = shows_same _ _ _ _ (skipped_next c.items-items.result.now c.args.paths.now c.loop-index.index item inv.all c.index-items-index.is c.loop-index-test.true line)
          (shows_join _ _ _ (flat_map line (take c.loop-index.index c.args.paths.now)) (line item) inv.shown (rw c.bytes.ensures at c.show_line.ensures.shown));
      same = c.show_line.ensures.same_reference ∙ inv.same;
    }
