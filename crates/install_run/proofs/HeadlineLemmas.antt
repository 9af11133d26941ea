-- The headline is what an installation leaves, but for what boots alone.
use Rattle.std.proofs.Common.{◌≡◌, ◌⊎◌, ℕ, Option, inl, inr}
use Rattle.disk_trait.specs.Past.{Past}
use Rattle.disk_trait.specs.Moments.{now, LeavesOnly}
use Rattle.lilo_model.specs.Clear.{Clear}
use Rattle.lilo_model.specs.Disks.{Image, Machine}
use Rattle.install_laws.specs.InstallVerdict.{Begun}
use Rattle.install_run.specs.Answers.{IsSettledFrom}
use Rattle.install_run.specs.Headline.{BootsAsOneOf, HeadlineBy, IsSettledImage}
use Rattle.install_run.specs.Installs.{Leaves, Passes}
use Rattle.install_run.specs.Keeps.{IsDone}
use Rattle.install_run.proofs.AnswerLemmas.{passes_settled}

-- what passes all checks is settled as the model says
settled_image : (image : Image) (machine : Machine) (begun : Begun) (settled : Image) (time : ℕ) → IsSettledFrom image machine begun settled
    → Passes image machine settled begun time → IsSettledImage image machine begun settled
settled_image image machine begun settled time from (answer, passes) =
    let began = (passes_settled image machine settled begun time answer passes from).1 in
    record { own = began.names; are = began.are; names = began.settled; outside = began.outside }

pub headline_by : (machine : Machine) (begun : Begun) (settled : Image) (time : ℕ) (entry ended : Option Past) (status : ℕ)
    → Leaves machine begun settled time entry ended status → HeadlineBy machine begun entry ended status
headline_by machine begun settled time entry ended status leaves = record {
  settled = settled;
  settles = λ is. settled_image (now entry) machine begun settled time (leaves.settles is) (leaves.passes is);
  before = λ is. (leaves.before is).boots;
  any_moment = either;
  done = λ is c may. ((leaves.done is).1.after c may).empty;
}
  where
    either : (status ≡ 9) ⊎ IsDone status → Clear begun.volume (now entry) machine begun.span
        → LeavesOnly entry ended (BootsAsOneOf machine begun settled (now entry))
    either (inl commit) = (leaves.at_commit commit).1.any_moment
    either (inr done) = (leaves.done done).1.either.any_moment
