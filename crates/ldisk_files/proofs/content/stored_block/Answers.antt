-- The rest is cut, or is short.
use Rattle.std.proofs.Common.{◌*◌, drop, sym, ◌∙◌, arith}
use Rattle.std.proofs.lemmas.List.{take_all, take_rest, length-drop}
use Rattle.ldisk_files.proofs.content.stored_block.Goals as goal

pub returns-then-rest-lt1024-clause-is : goal.returns-then-rest-lt1024-clause-is
returns-then-rest-lt1024-clause-is c =
    let bytes = c.args.bytes.now in
    let long = length-drop (1024 * c.args.index) bytes in
    let short = c.if-rest-lt1024.true in
    take_rest bytes (1024 * c.args.index) ∙ sym (take_all 1024 (drop (1024 * c.args.index) bytes) (omega (arith, long, short)))
