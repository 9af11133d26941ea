use Rattle.std.proofs.Common.{◌≡◌, ◌+◌, ◌*◌, ◌≤◌, ◌∙◌, length, get_or, arith}
use Rattle.lilo_model.specs.Bytes.{bytes16}
use Rattle.minix_layout.proofs.Written.{put16-more, length-put}
use Rattle.minix_layout.proofs.inode.put_numbers16.Goals as goal

pub loop-index-preserved : goal.loop-index-preserved
loop-index-preserved c =
    let long : length c.loop-index.part.bytes.now ≡ length c.args.part.now.bytes.now = c.loop-index.invariant.2 in
    let fits : c.args.at + 2 * length c.args.numbers.now ≤ length c.args.part.now.bytes.now = c.requires.inside in
    let here : c.args.at + 2 * c.loop-index.index + 2 ≤ length c.loop-index.part.bytes.now = omega (arith, long, fits, c.loop-index-test.true) in
    (c.put_u16.ensures.bytes ∙ put16-more c.args.part.now.bytes.now _ c.args.at c.args.numbers.now c.loop-index.index c.loop-index-test.true fits c.loop-index.invariant.0, c.put_u16.ensures.same_reference ∙ c.loop-index.invariant.1, length-put _ _ _ (bytes16 (get_or c.args.numbers.now c.loop-index.index 0)) c.put_u16.ensures.bytes here ∙ long)
