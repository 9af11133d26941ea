-- An inode that is reached is judged by its bitmap bit, and a directory by its level.
use Rattle.std.proofs.Common.{◌≡◌, ◌≤◌, ◌∷◌, ◌&&◌, nat_lt, true, Ok, Err, refl, sym, ◌∙◌, subst}
use Rattle.disk_trait.specs.Past.{Image}
use Rattle.lilo_model.specs.MinixLayout.{is_size}
use Rattle.lilo_model.specs.MinixParts.{parts_of, is_directory}
use Rattle.minix_layout.specs.View.{kind_view, inode_view}
use Rattle.minix_zones.specs.Volume.{volume_view, past_of}
use Rattle.minix_survey.specs.Step.{seen_in}
use Rattle.minix_survey.specs.View.{spot_view}
use Rattle.minix_survey.proofs.JudgeLemmas.{spot-unmarked, spot-good, spot-deep, deep-true, deep-false}
use Rattle.minix_survey.proofs.StepLemmas.{one_step, told_pair}
use Rattle.minix_survey.proofs.walk.meet_inode.Goals as goal

pub returns-then-not-marked-clause-steps : goal.returns-then-not-marked-clause-steps
returns-then-not-marked-clause-steps g c =
    let old = c.args.volume.now in
    one_step old _ _ _ _ _
    (λ now. c.in_ok-marked.marked ≡ (parts_of (volume_view old) now).has_inode c.args.spot.inode)
    c.in_ok-marked.ensures.value
    (λ now marked met tells good. spot-unmarked (seen_in old now) met good (spot_view c.args.spot) (sym marked ∙ c.if-not-marked.true))
    tt c.in_ok-marked.ensures.later c.in_ok-marked.ensures.same

pub returns-then-deep-clause-steps : goal.returns-then-deep-clause-steps
returns-then-deep-clause-steps g c =
    let old = c.args.volume.now in
    let deep = deep-true (is_directory (inode_view c.args.node.now)) c.args.spot.level (sym c.is_too_deep-deep.ensures ∙ c.if-deep.true) in
    let M : Image → Type 0 = λ now. c.in_ok-marked.marked ≡ (parts_of (volume_view old) now).has_inode c.args.spot.inode in
    let N : Image → Type 0 = λ now. inode_view c.args.node.now ≡ (parts_of (volume_view old) now).node c.args.spot.inode in
    one_step old _ _ _ _ _
    (λ now. M now × N now)
    (told_pair (past_of old) M N c.in_ok-marked.ensures.value c.requires.node.is)
    (λ now facts met tells good. spot-deep (seen_in old now) met good (spot_view c.args.spot)
    (record {
      marked = sym facts.0 ∙ c.if-not-marked.false;
      sized = subst (λ n. is_size (kind_view old.layout.kind) n.size ≡ true) facts.1 c.requires.node.sized;
      root = λ e. subst (λ n. is_directory n ≡ true) facts.1 (c.requires.node.root e);
    })
    (subst (λ n. is_directory n ≡ true) facts.1 deep.0) deep.1)
    tt c.in_ok-marked.ensures.later c.in_ok-marked.ensures.same

pub returns-clause-steps : goal.returns-clause-steps
returns-clause-steps g c =
    let old = c.args.volume.now in
    let M : Image → Type 0 = λ now. c.in_ok-marked.marked ≡ (parts_of (volume_view old) now).has_inode c.args.spot.inode in
    let N : Image → Type 0 = λ now. inode_view c.args.node.now ≡ (parts_of (volume_view old) now).node c.args.spot.inode in
    one_step old _ _ _ _ _
    (λ now. M now × N now)
    (told_pair (past_of old) M N c.in_ok-marked.ensures.value c.requires.node.is)
    (λ now facts met tells good. (
      spot-good (seen_in old now) met good (spot_view c.args.spot)
          (record {
            marked = sym facts.0 ∙ c.if-not-marked.false;
            sized = subst (λ n. is_size (kind_view old.layout.kind) n.size ≡ true) facts.1 c.requires.node.sized;
            root = λ e. subst (λ n. is_directory n ≡ true) facts.1 (c.requires.node.root e);
          })
          (λ is. deep-false (is_directory (inode_view c.args.node.now)) c.args.spot.level (sym c.is_too_deep-deep.ensures ∙ c.if-deep.false) (subst (λ n. is_directory n ≡ true) (sym facts.1) is)),
      c.in_ok-reach.ensures met tells,
    ))
    tt c.in_ok-marked.ensures.later c.in_ok-marked.ensures.same
