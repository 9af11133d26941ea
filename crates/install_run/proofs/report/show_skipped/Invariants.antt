use Rattle.std.proofs.Common.{◌≡◌, ◌++◌, codes, List, ℕ, take}
use Rattle.std.specs.List.{flat_map}
use Rattle.stream_trait.specs.Shows.{Shows, sink_of}
use Rattle.install_run.proofs.report.show_skipped.Given as goal

-- the lines of the first paths were shown
abbrev pub invariant-loop-index : goal.invariant-loop-index
invariant-loop-index g l = record {
  all : l.items ≡ l.paths;
  shown : Shows (sink_of g.O.Sink l.fn.out) (flat_map (λ (path : List ℕ). codes "Skipping " ++ path ++ codes "\n") (take l.index l.paths)) (sink_of g.O.Sink l.out);
  same : l.out.out.ghost_name ≡ l.fn.out.out.ghost_name;
}
