use Rattle.std.proofs.Common.{◌≡◌, ◌∙◌}
use Rattle.std.proofs.lemmas.Result.{IfOk-weaker}
use Rattle.disk_trait.specs.MemDisks.{image_of, past_in, now_in}
use Rattle.disk_trait.specs.Left.{left_image}
use Rattle.test_disks.proofs.AllLemmas.{all_is_now}
use Rattle.test_disks.proofs.images.made_again.Goals as goal

-- src/images.rt:74:1
pub returns-clause-image : goal.returns-clause-image
returns-clause-image c =
    let disks = c.args.disks.now in
    let made = c.as_slice.ensures.value ∙ c.in_ok-keep.ensures.items_if_clones_equal (λ y same. same) in
    let now = all_is_now (past_in disks) c.events-prefix.result c.unflushed.result c.as_slice.result.now c.events-prefix.ensures.count c.unflushed.ensures made in
    IfOk-weaker c.left.result
    (λ left. image_of left.start ≡ left_image (past_in disks) c.events-prefix.result c.as_slice.result.now)
    (λ left. image_of left.start ≡ now_in disks)
    (λ left is. is ∙ now) c.left.ensures.image
