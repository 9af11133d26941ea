-- The word, then the number.
use Rattle.std.proofs.Common.{◌∙◌}
use Rattle.std.specs.Prelude.{decimal}
use Rattle.ldisk_run.specs.Pieces.{held_by}
use Rattle.ldisk_run.proofs.AddsLemmas.{adds_join, adds_same}
use Rattle.ldisk_run.proofs.freeing.put_count.Goals as goal

pub returns-clause-adds : goal.returns-clause-adds
returns-clause-adds g c =
    let held = held_by g.O.Sink in
    adds_join (held c.args.out.now) (held c.put.new.self) (held c.put-2.new.self) c.args.word.now (decimal c.args.count) c.put.ensures.adds
    (adds_same (held c.put.new.self) (held c.put-2.new.self) _ (decimal c.args.count) (c.as_bytes.ensures.value ∙ c.format.ensures.text) c.put-2.ensures.adds)
