-- Each entry is listed, refused or passed over.
use Rattle.std.proofs.Common.{◌<◌, length, sym, ◌∙◌, arith}
use Rattle.std.proofs.lemmas.Result.{err_from_is_err_and}
use Rattle.mbr_table.proofs.ListedLemmas.{rest_of-used, rest_of-refused, rest_of-empty, AreListed-push, AreListed-weaker}
use Rattle.mbr_table.proofs.partition.SizedDisk.primary.Goals as goal
use Rattle.mbr_table.proofs.partition.SizedDisk.primary.Goals.{then-is_used+in_ok-listed, else-is_used}

pub loop-entry-preserved : goal.loop-entry-preserved
loop-entry-preserved c =
    let so_far = c.loop-entry.invariant in
    let inside : c.loop-entry.entry-index < length c.args.table.now.entries = omega arith in
    elim c.if-is_used.branch [
      | then-is_used+in_ok-listed w ↦
          let used = sym c.is_used.ensures ∙ w.if-is_used.true in
          let span = w.in_ok-listed.ensures.span in
          let number = w.in_ok-listed.ensures.number in
          rw w.found-is (record {
            partitions = rw w.push.ensures.items (rest_of-used _ _ _ _ _ _ _ _ _ inside used (sym w.in_ok-listed.ensures.partition) so_far.partitions);
            count = omega (arith, so_far.count, w.push.ensures.len);
            number = omega (arith, so_far.number);
            listed = rw w.push.ensures.items (AreListed-push _ _ _ _ _ _ (omega arith) so_far.listed span number);
          })
      | else-is_used w ↦
          let empty = sym c.is_used.ensures ∙ w.if-is_used.false in
          rw w.found-is (record {
            partitions = rest_of-empty _ _ _ _ _ _ _ _ inside empty so_far.partitions;
            count = omega (arith, so_far.count);
            number = omega (arith, so_far.number);
            listed = AreListed-weaker _ _ _ _ _ _ (omega arith) so_far.listed;
          })
    ]

pub returns-in_err-listed-clause-partitions : goal.returns-in_err-listed-clause-partitions
returns-in_err-listed-clause-partitions c =
    let so_far = c.loop-entry.invariant in
    let inside : c.loop-entry.entry-index < length c.args.table.now.entries = omega arith in
    let used = sym c.is_used.ensures ∙ c.if-is_used.true in
    let refused = rest_of-refused _ _ _ _ _ _ _ _ _ inside used (sym c.in_err-listed.ensures.partition) so_far.partitions in
    let p = err_from_is_err_and c.from_residual.result c.from_residual.ensures.1 in rw (p.1, p.2) (sym refused)
