use Rattle.std.proofs.Common.{◌≡◌, List, ◌++◌, length, take, drop, sym, ◌∙◌, ap, subst, rules}
use Rattle.disk_trait.specs.MemDisks.{StartDisk, MemState, fresh_state, HasWholeSectors, image_of, past_in}
use Rattle.std.proofs.lemmas.Result.{IfOk-weaker}
use Rattle.disk_trait.specs.Past.{first_events}
use Rattle.disk_trait.specs.Left.{left_after, left_image}
use Rattle.disk_trait.proofs.LeftLemmas.{whole-left_after, whole-first, put_back, leaves_left}
use Rattle.disk_trait.proofs.mem_disks.MemDisks.left.Goals as goal

pub fresh-requires-clause-whole : goal.fresh-requires-clause-whole
fresh-requires-clause-whole c =
    let was : c.deref_mut.result.now ≡ c.self.inside.start.items = c.deref_mut.ensures.value ∙ c.in_ok-start.ensures ∙ c.deref.ensures.value in
    let before : HasWholeSectors (image_of c.deref_mut.result.now) = subst (λ (disks : List StartDisk). HasWholeSectors (image_of disks)) (sym was) c.self.invariant.start_whole in
    let made : HasWholeSectors (image_of c.make_left.new.disks) = subst HasWholeSectors (sym c.make_left.ensures.image) (whole-left_after _ _ _ before (whole-first c.args.prefix _ c.self.invariant.events_whole)) in
    subst (λ (disks : List StartDisk). HasWholeSectors (image_of disks)) (sym (put_back _ _ _ (search rules))) made

pub returns-clause-leaves : goal.returns-clause-leaves
returns-clause-leaves c =
    let was : c.deref_mut.result.now ≡ c.self.inside.start.items = c.deref_mut.ensures.value ∙ c.in_ok-start.ensures ∙ c.deref.ensures.value in
    let back : take c.in_ok-start.start.len (c.make_left.new.disks ++ drop (length c.make_left.new.disks) c.in_ok-start.start.items) ≡ c.make_left.new.disks = put_back _ _ _ (search rules) in
    let image : image_of c.make_left.new.disks ≡ left_image (past_in c.args.self.now) c.args.prefix c.args.keep.now = c.make_left.ensures.image
    ∙ ap (λ (disks : List StartDisk). left_after (image_of disks) (first_events c.args.prefix c.self.inside.events.items) c.args.keep.now) was
    ∙ ap (λ (disks : MemState). left_image (past_in disks) c.args.prefix c.args.keep.now) c.self.view_is in
    IfOk-weaker c.fresh.result
    (λ (made : MemState). made ≡ fresh_state (take c.in_ok-start.start.len (c.make_left.new.disks ++ drop (length c.make_left.new.disks) c.in_ok-start.start.items)) c.args.room c.args.failing.now)
    _
    (λ made is. leaves_left (past_in c.args.self.now) c.args.prefix c.args.keep.now _ (ap (λ (disks : MemState). image_of disks.start) is ∙ ap image_of back ∙ image))
    c.fresh.ensures
