use Rattle.std.proofs.Common.{rules, refl, ap}
use Rattle.std.specs.List.{list_any}
use Rattle.std.specs.Map.{lookup}
use Rattle.lilo_model.specs.MinixSurvey.{was_reached, owner, names_of, has_name, is_indirect}
use Rattle.minix_survey.proofs.tables.Tables.new.Goals as goal

pub returns : goal.returns
unfolding was_reached owner names_of has_name is_indirect
returns c = record {
  reached = λ inode. rw c.new-3.ensures.empty refl;
  entries = λ directory name. rw c.new-4.ensures.empty refl;
  found = record {
    owner = λ zone. rw c.new.ensures.empty refl;
    names = λ inode. rw c.new-2.ensures.empty refl;
    indirect = λ zone. rw c.new.ensures.empty refl;
  };
}
