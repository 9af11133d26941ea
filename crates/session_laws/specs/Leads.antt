-- Where a text leads, once some names have changed.
use Rattle.std.specs.Prelude.{◌≡◌, ℕ, true, List, Some, Ok}
use Rattle.lilo_model.specs.MinixFindNames.{Names, leads_to_directory, link_text}
use Rattle.lilo_model.specs.NamePlaces.{name_path}

-- each directory is one still, and each link has its text
pub record LeadsOn (one other : Names) : Type 0 where
  pub directories : (path : List (List ℕ)) → leads_to_directory (one path) ≡ true → leads_to_directory (other path) ≡ true
  pub links : (path : List (List ℕ)) (text : List ℕ) → link_text (one path) ≡ Some text → link_text (other path) ≡ Some text

-- so a text leads to the name that it led to, whatever else came or went
abbrev pub NamePathLaw : Type 0
NamePathLaw =
    (one other : Names) (text : List ℕ) (path : List (List ℕ)) → LeadsOn one other → name_path one text ≡ Ok path → name_path other text ≡ Ok path
