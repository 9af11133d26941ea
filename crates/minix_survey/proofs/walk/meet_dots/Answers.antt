-- `.` and `..` name the right inode, once.
use Rattle.std.proofs.Common.{◌≡◌, ◌≢◌, ◌∷◌, Bool, true, false, not, refl, sym, ◌∙◌, eq-eqb}
use Rattle.std.proofs.lemmas.Bool.{ne_eqb, OnTrue_at}
use Rattle.lilo_model.specs.MinixSurvey.{right_inode, has_name}
use Rattle.minix_survey.specs.Step.{entry_seen}
use Rattle.minix_survey.specs.Tables.{entry_in}
use Rattle.minix_survey.specs.View.{spot_view}
use Rattle.minix_survey.proofs.JudgeLemmas.{dots-judged, not-false, not-true}
use Rattle.minix_survey.proofs.TableLemmas.{tells-dots}
use Rattle.minix_survey.proofs.walk.meet_dots.Goals as goal

pub returns-then-entry-right : goal.returns-then-entry-right
returns-then-entry-right c =
    let spot = spot_view c.args.spot in
    let what = entry_seen c.args.entry.now in
    let apart : what.inode ≢ right_inode spot what.name = λ e. c.if-entry-right.true (e ∙ sym c.right_inode-right.ensures) in
    record {
      meets = λ volume met tells good. dots-judged volume met good spot c.args.place what c.requires.dots ∙ rw (ne_eqb _ _ apart) refl;
      cause = λ earlier later. tt;
    }

pub returns-then-not-added : goal.returns-then-not-added
returns-then-not-added c =
    let spot = spot_view c.args.spot in
    let what = entry_seen c.args.entry.now in
    let same : what.inode ≡ right_inode spot what.name = c.if-entry-right.false ∙ c.right_inode-right.ensures in
    let is = eq-eqb what.inode (right_inode spot what.name) same in
    let there : entry_in c.args.tables.now spot.inode what.name ≡ true = not-false _ (sym c.in_ok-added.ensures.added ∙ c.if-not-added.true) in
    record {
      meets = λ volume met tells good.
          let has : has_name met spot.inode what.name ≡ true = sym (tells.entries spot.inode what.name) ∙ there in
          dots-judged volume met good spot c.args.place what c.requires.dots ∙ rw (is, has) refl;
      cause = λ earlier later. tt;
    }

pub returns : goal.returns
returns c =
    let spot = spot_view c.args.spot in
    let what = entry_seen c.args.entry.now in
    let same : what.inode ≡ right_inode spot what.name = c.if-entry-right.false ∙ c.right_inode-right.ensures in
    let is = eq-eqb what.inode (right_inode spot what.name) same in
    let new : entry_in c.args.tables.now spot.inode what.name ≡ false = not-true _ (sym c.in_ok-added.ensures.added ∙ c.if-not-added.false) in
    let enters = OnTrue_at c.if-not-added.false c.in_ok-added.ensures.enters in
    record {
      meets = λ volume met tells good.
          let has : has_name met spot.inode what.name ≡ false = sym (tells.entries spot.inode what.name) ∙ new in (
            dots-judged volume met good spot c.args.place what c.requires.dots ∙ rw (is, has) refl,
            tells-dots c.args.tables.now _ spot c.args.place what enters met tells c.requires.dots,
          );
      cause = λ earlier later. tt;
    }
