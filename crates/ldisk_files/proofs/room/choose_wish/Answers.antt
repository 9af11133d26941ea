-- Nothing is taken at first.
use Rattle.std.proofs.Common.{◌≡◌, subst}
use Rattle.disk_trait.proofs.ToldLemmas.{told_map}
use Rattle.minix_create.specs.Chosen.{IsFreeWhereSound, LinksWhereSound}
use Rattle.minix_choice.specs.View.{taken_view}
use Rattle.minix_zones.specs.Volume.{volume_view, past_of}
use Rattle.write_model.specs.Wish.{Taken}
use Rattle.ldisk_model.specs.FileVerdict.{nothing_taken}
use Rattle.ldisk_files.proofs.RoomLemmas.{fresh, choice-ok, choice-err}
use Rattle.ldisk_files.proofs.room.choose_wish.Goals as goal

pub returns-in-Ok-choose-clause-choice : goal.returns-in-Ok-choose-clause-choice
returns-in-Ok-choose-clause-choice g c =
    let none : taken_view c.in-Ok.taken ≡ nothing_taken = fresh c.in-Ok.taken _ _ c.in-Ok.ensures.zones c.in-Ok.ensures.inodes c.in-Ok.ensures.promises c.in-Ok.ensures.overlooked in
    told_map (past_of c.args.volume.now) _ _ (λ now is. choice-ok (volume_view c.args.volume.now) now c.args.wish.now c.in-Ok.taken none c.in-Ok-choose.chosen is) c.in-Ok-choose.ensures.choice

pub returns-in-Ok-choose-clause-free : goal.returns-in-Ok-choose-clause-free
returns-in-Ok-choose-clause-free g c =
    let none : taken_view c.in-Ok.taken ≡ nothing_taken = fresh c.in-Ok.taken _ _ c.in-Ok.ensures.zones c.in-Ok.ensures.inodes c.in-Ok.ensures.promises c.in-Ok.ensures.overlooked in
    subst (λ (t : Taken). IsFreeWhereSound c.choose.new.volume t c.in-Ok-choose.chosen) none c.in-Ok-choose.ensures.free

pub returns-in-Ok-choose-clause-name : goal.returns-in-Ok-choose-clause-name
returns-in-Ok-choose-clause-name g c =
    let none : taken_view c.in-Ok.taken ≡ nothing_taken = fresh c.in-Ok.taken _ _ c.in-Ok.ensures.zones c.in-Ok.ensures.inodes c.in-Ok.ensures.promises c.in-Ok.ensures.overlooked in
    subst (λ (t : Taken). LinksWhereSound c.choose.new.volume t c.in-Ok-choose.chosen) none c.in-Ok-choose.ensures.name

pub returns-clause-choice : goal.returns-clause-choice
returns-clause-choice g c =
    let none : taken_view c.in-Ok.taken ≡ nothing_taken = fresh c.in-Ok.taken _ _ c.in-Ok.ensures.zones c.in-Ok.ensures.inodes c.in-Ok.ensures.promises c.in-Ok.ensures.overlooked in
    rw c.write_fault.ensures
    (told_map (past_of c.args.volume.now) _ _ (λ now is. choice-err (volume_view c.args.volume.now) now c.args.wish.now c.in-Ok.taken none c.in-Err.fault is) c.in-Err.ensures.choice)
