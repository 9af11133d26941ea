use Rattle.std.proofs.Common.{◌≡◌, ◌+◌, ◌-◌, ℕ, length, sym, ◌∙◌, ap, arith}
use Rattle.disk_trait.specs.Past.{first_events}
use Rattle.disk_trait.specs.MemDisks.{image_of}
use Rattle.disk_trait.specs.Left.{left_after, unflushed_count}
use Rattle.disk_trait.proofs.LeftLemmas.{unflushed_within, rejoined}
use Rattle.disk_trait.proofs.left.make_left.Goals as goal

pub overflow_sub-flushed : goal.overflow_sub-flushed
overflow_sub-flushed c = omega (arith, unflushed_within c.args.prefix c.args.events.now.items c.requires.within)

pub make_kept-requires-clause-within : goal.make_kept-requires-clause-within
make_kept-requires-clause-within c = omega (arith, unflushed_within c.args.prefix c.args.events.now.items c.requires.within)

pub make_kept-requires-clause-each : goal.make_kept-requires-clause-each
make_kept-requires-clause-each c =
    let whole : c.args.prefix - length c.args.keep.now + length c.args.keep.now ≡ c.args.prefix = rejoined c.args.events.now.items _ _ c.requires.within c.requires.each in
    c.requires.each ∙ sym (ap (λ (k : ℕ). unflushed_count (first_events k c.args.events.now.items)) whole)

pub returns-clause-image : goal.returns-clause-image
returns-clause-image c =
    let whole : c.args.prefix - length c.args.keep.now + length c.args.keep.now ≡ c.args.prefix = rejoined c.args.events.now.items _ _ c.requires.within c.requires.each in
    c.make_kept.ensures.image (image_of c.args.disks.now) c.make_first.ensures.image
    ∙ ap (λ (k : ℕ). left_after (image_of c.args.disks.now) (first_events k c.args.events.now.items) c.args.keep.now) whole
