-- The slot of the extra sector is zeros or one sector, and the fields fit the flags.
use Rattle.std.proofs.Common.{rules}
use Rattle.lilo_model.specs.Table.{descriptor_of}
use Rattle.boot_map.proofs.TableLemmas.{entry_extra}
use Rattle.boot_map.proofs.FlagLemmas.{entry_fits}
use Rattle.boot_map.proofs.descriptor.descriptor_of.Goals as goal

pub some_slot-requires-2-clause-one : goal.some_slot-requires-2-clause-one
some_slot-requires-2-clause-one c = entry_extra c.args.bytes.now c.requires.entry

pub returns-clause-value : goal.returns-clause-value
unfolding descriptor_of
returns-clause-value c = search rules

pub returns-clause-flags : goal.returns-clause-flags
returns-clause-flags c = entry_fits c.args.bytes.now _ c.requires.entry (returns-clause-value c)
