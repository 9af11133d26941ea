-- A directory ends where `.` and `..` are in it.
use Rattle.std.proofs.Common.{◌≡◌, ◌∷◌, Bool, true, false, refl, sym, ◌∙◌, ◌&&◌}
use Rattle.lilo_model.specs.MinixEntries.{here_name, above_name}
use Rattle.lilo_model.specs.MinixSurvey.{has_name}
use Rattle.minix_survey.specs.View.{spot_view}
use Rattle.minix_survey.proofs.JudgeLemmas.{end-judged}
use Rattle.minix_survey.proofs.TableLemmas.{tells-ends}
use Rattle.minix_survey.proofs.walk.meet_end.Goals as goal

pub returns-then-not-here : goal.returns-then-not-here
returns-then-not-here c =
    let spot = spot_view c.args.spot in
    record {
      meets = λ volume met tells good.
          let none : has_name met spot.inode here_name ≡ false = sym (tells.entries spot.inode here_name) ∙ sym c.in_ok-here.ensures ∙ c.if-not-here.true in
          end-judged volume met good spot c.args.places ∙ rw none refl;
      cause = λ earlier later. tt;
    }

pub returns-then-not-above : goal.returns-then-not-above
returns-then-not-above c =
    let spot = spot_view c.args.spot in
    record {
      meets = λ volume met tells good.
          let here : has_name met spot.inode here_name ≡ true = sym (tells.entries spot.inode here_name) ∙ sym c.in_ok-here.ensures ∙ c.if-not-here.false in
          let none : has_name met spot.inode above_name ≡ false = sym (tells.entries spot.inode above_name) ∙ sym c.in_ok-above.ensures ∙ c.if-not-above.true in
          end-judged volume met good spot c.args.places ∙ rw (here, none) refl;
      cause = λ earlier later. tt;
    }

pub returns : goal.returns
returns c =
    let spot = spot_view c.args.spot in
    record {
      meets = λ volume met tells good.
          let here : has_name met spot.inode here_name ≡ true = sym (tells.entries spot.inode here_name) ∙ sym c.in_ok-here.ensures ∙ c.if-not-here.false in
          let above : has_name met spot.inode above_name ≡ true = sym (tells.entries spot.inode above_name) ∙ sym c.in_ok-above.ensures ∙ c.if-not-above.false in
          (end-judged volume met good spot c.args.places ∙ rw (here, above) refl, tells-ends c.args.tables.now spot c.args.places met tells);
      cause = λ earlier later. tt;
    }
