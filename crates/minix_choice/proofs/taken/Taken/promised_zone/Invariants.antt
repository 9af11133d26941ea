use Rattle.std.proofs.Common.{◌≡◌, drop}
use Rattle.minix_layout.specs.View.{kind_view}
use Rattle.write_model.specs.Growth.{promised_zone}
use Rattle.minix_choice.proofs.taken.Taken.promised_zone.Given as goal

-- no promise so far has it
abbrev pub invariant-loop-promise : goal.invariant-loop-promise
invariant-loop-promise l =
    promised_zone (kind_view l.kind) (drop l.promise-index l.self.promises) l.directory l.block l.level
    ≡ promised_zone (kind_view l.kind) l.self.promises l.directory l.block l.level
