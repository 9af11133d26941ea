use Rattle.std.proofs.Common.{◌≡◌, ◌+◌, ◌*◌, ◌≤◌, ◌∙◌, length, get_or, arith}
use Rattle.lilo_model.specs.Bytes.{bytes32}
use Rattle.minix_layout.proofs.Written.{put32-more, length-put}
use Rattle.minix_layout.proofs.inode.put_numbers32.Goals as goal

pub loop-index-preserved : goal.loop-index-preserved
loop-index-preserved c =
    let long : length c.loop-index.part.bytes.now ≡ length c.args.part.now.bytes.now = c.loop-index.invariant.2 in
    let fits : c.args.at + 4 * length c.args.numbers.now ≤ length c.args.part.now.bytes.now = c.requires in
    let here : c.args.at + 4 * c.loop-index.index + 4 ≤ length c.loop-index.part.bytes.now = omega (arith, long, fits, c.loop-index-test.true) in
    (c.put_u32.ensures.bytes ∙ put32-more c.args.part.now.bytes.now _ c.args.at c.args.numbers.now c.loop-index.index c.loop-index-test.true fits c.loop-index.invariant.0, c.put_u32.ensures.same_reference ∙ c.loop-index.invariant.1, length-put _ _ _ (bytes32 (get_or c.args.numbers.now c.loop-index.index 0)) c.put_u32.ensures.bytes here ∙ long)
