-- What is printed of an installation that is planned (this project's own).
use Rattle.std.specs.Prelude.{ℕ, Bool, true, false, List, [], Option, None, Some}
use Rattle.install_laws.specs.InstallVerdict.{Answer}
use Rattle.install_run.specs.declared.report.Report.{Report}

-- the answer that is reported
abbrev pub answer_in : Report → Answer
answer_in report = record {
  skipped = report.skipped.now;
  clear = report.clear;
  names = report.names.now;
  default = report.default_entry;
}

-- a text where a present map is Clear, or another one where it isn't
abbrev pub clear_text : List ℕ → List ℕ → Option Bool → List ℕ
clear_text clear other None = []
clear_text clear other (Some true) = clear
clear_text clear other (Some false) = other
