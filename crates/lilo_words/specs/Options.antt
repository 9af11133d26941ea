-- What an argument is to a part that has some options already.
use Rattle.std.specs.Prelude.{◌≡◌, ℕ, List, true, false}
use Rattle.lilo_model.specs.Words.{Part, is_config, is_root, is_verbose}
use Rattle.lilo_words.specs.declared.options.PartOption.{PartOption}
use Rattle.lilo_words.specs.declared.options.PartOption.TheVariants.{Config, Root, Verbose}

-- it is this option, which the part doesn't have yet
abbrev pub IsNewOption : PartOption → Part → List ℕ → Type 0
IsNewOption Config part word = is_config part word ≡ true
IsNewOption Root part word = is_root part word ≡ true
IsNewOption Verbose part word = is_verbose part word ≡ true

-- it is no option that the part doesn't have yet
pub record IsNoNewOption (part : Part) (word : List ℕ) : Type 0 where
  pub config : is_config part word ≡ false
  pub root : is_root part word ≡ false
  pub verbose : is_verbose part word ≡ false
