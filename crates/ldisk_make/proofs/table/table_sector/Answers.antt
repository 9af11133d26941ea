use Rattle.std.proofs.Common.{arith}
use Rattle.ldisk_words.specs.View.{part_view}
use Rattle.ldisk_make.proofs.TableLemmas.{table_step, table_end}
use Rattle.ldisk_make.proofs.table.table_sector.Goals as goal

pub loop-at-preserved : goal.loop-at-preserved
loop-at-preserved c = record {
  bytes = table_step part_view c.args.parts.now c.loop-at.at c.loop-at.sector _ c.loop-at.invariant.bytes _ c.entry_bytes.result c.loop-at-test.true c.entry_bytes.ensures c.put_part.ensures;
}

pub returns : goal.returns
returns c =
    table_end part_view c.args.parts.now c.loop-at.at c.loop-at.sector _ c.loop-at.invariant.bytes
    (omega (arith, c.loop-at-test.false, c.loop-at.auto.at-end)) c.requires c.put_u16.ensures
