use Rattle.std.proofs.Common.{◌≡◌, take}
use Rattle.stream_trait.specs.Shows.{Shows, sink_of}
use Rattle.install_laws.specs.InstallVerdict.{added_lines}
use Rattle.install_run.proofs.report.show_names.Given as goal

-- the lines of the first names were shown
abbrev pub invariant-loop-index : goal.invariant-loop-index
invariant-loop-index g l = record {
  all : l.items ≡ l.names;
  shown : Shows (sink_of g.O.Sink l.fn.out) (added_lines l.default_entry 0 (take l.index l.names)) (sink_of g.O.Sink l.out);
  same : l.out.out.ghost_name ≡ l.fn.out.out.ghost_name;
}
