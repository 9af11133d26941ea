-- What a reader refuses is what the survey refuses.
use Rattle.std.proofs.Common.{◌≡◌, ℕ, Bool, true, false, Result, Ok, Err, refl, ap}
use Rattle.lilo_model.specs.Checks.{◌>>=◌, require}
use Rattle.lilo_model.specs.MinixFind.{TreeFault as TreeRefusal, Zone}
use Rattle.lilo_model.specs.MinixLayout.{BadSize, FileSize}
use Rattle.lilo_model.specs.MinixParts.{Layout}
use Rattle.lilo_model.specs.MinixSurvey.{SurveyFault as Refusal, Tree}
use Rattle.minix_zones.specs.declared.zone_fault.ZoneFault.TheVariants as zones
use Rattle.minix_tree.specs.declared.tree_fault.TreeFault.TheVariants as trees
use Rattle.minix_survey.specs.declared.survey_fault.SurveyFault.{SurveyFault}
use Rattle.minix_survey.specs.declared.survey_fault.SurveyFault.TheVariants as faults
use Rattle.minix_survey.specs.Step.{IsReadRefusal}
use Rattle.minix_survey.specs.View.{Refuses, HasSurveyCause}

-- the refusal of an inode's size
abbrev BadSizeOf : Refusal
BadSizeOf = Tree (Zone (Layout (BadSize FileSize)))

abbrev read_size : Bool → ℕ → Result ℕ TreeRefusal
read_size sized inode = require sized (Zone (Layout (BadSize FileSize))) >>= λ a. Ok inode

module _ {B : Type 0} (inode before now : ℕ) (judgment : Result B Refusal) where
  abbrev told_as : Result ℕ TreeRefusal → Result B Refusal
  told_as (Ok value) = judgment
  told_as (Err fault) = Err (Tree fault)

  pub size-refused : (fault : SurveyFault) (sized : Bool) → HasSurveyCause before now fault → (sized ≡ false → judgment ≡ Err BadSizeOf) → IsReadRefusal fault (read_size sized inode) → Refuses fault judgment
  size-refused (faults.Tree (trees.Zone zones.Device)) sized cause gives read = tt
  size-refused (faults.Tree (trees.Zone (zones.Layout fault))) true cause gives read = cc
  size-refused (faults.Tree (trees.Zone (zones.Layout fault))) false cause gives read = rw (gives refl) (ap told_as read)
  size-refused (faults.Tree (trees.Zone (zones.ZoneOutside zone))) true cause gives read = cc
  size-refused (faults.Tree (trees.Zone (zones.ZoneOutside zone))) false cause gives read = cc
  size-refused (faults.Tree (trees.NotFound position)) true cause gives read = cc
  size-refused (faults.Tree (trees.NotFound position)) false cause gives read = cc
  size-refused (faults.Tree (trees.NotDirectory position)) true cause gives read = cc
  size-refused (faults.Tree (trees.NotDirectory position)) false cause gives read = cc
  size-refused (faults.Tree trees.NotFile) true cause gives read = cc
  size-refused (faults.Tree trees.NotFile) false cause gives read = cc
  size-refused (faults.Tree trees.TooManyLinks) true cause gives read = cc
  size-refused (faults.Tree trees.TooManyLinks) false cause gives read = cc
  size-refused (faults.Tree (trees.BadEntry directory)) true cause gives read = cc
  size-refused (faults.Tree (trees.BadEntry directory)) false cause gives read = cc
  size-refused (faults.Tree trees.PathTooLong) true cause gives read = cc
  size-refused (faults.Tree trees.PathTooLong) false cause gives read = cc
  size-refused (faults.Tree trees.Memory) sized cause gives read = absurd cause
  size-refused faults.Memory sized cause gives read = tt
  size-refused (faults.Crossed zone one other) sized cause gives read = absurd read
  size-refused (faults.Unmarked zone) sized cause gives read = absurd read
  size-refused (faults.UnmarkedInode number) sized cause gives read = absurd read
  size-refused (faults.BadLink directory place) sized cause gives read = absurd read
  size-refused (faults.FewLinks number) sized cause gives read = absurd read
  size-refused faults.TooDeep sized cause gives read = absurd read
