-- Which case it is follows from the length.
use Rattle.std.proofs.Common.{sym, ◌∙◌, arith}
use Rattle.mbr_table.proofs.NameLemmas.{partition_at-none, partition_at-one, partition_at-two, partition_at-long}
use Rattle.mbr_table.proofs.device.partition_of.Goals as goal

pub returns-in-empty : goal.returns-in-empty
returns-in-empty c = sym (partition_at-none c.args.number.now (omega arith))

pub returns-in-len1 : goal.returns-in-len1
returns-in-len1 c = c.one_digit.ensures ∙ sym (partition_at-one c.args.number.now (omega arith))

pub returns-in-len2 : goal.returns-in-len2
returns-in-len2 c = c.two_digits.ensures ∙ sym (partition_at-two c.args.number.now (omega arith))

pub returns-in_default : goal.returns-in_default
returns-in_default c = sym (partition_at-long c.args.number.now (omega arith))
