-- What is at a name, in terms of paths.
use Rattle.std.specs.Prelude.{◌≡◌, ℕ, true, false, List, ◌∷◌, IfSome, Some}
use Rattle.lilo_model.specs.MinixEntries.{is_dots}
use Rattle.lilo_model.specs.MinixLayout.{Super}
use Rattle.lilo_model.specs.MinixParts.{Parts, is_directory}
use Rattle.lilo_model.specs.MinixNames.{reached}
use Rattle.minix_layout.specs.View.{inode_view}
use Rattle.minix_names.specs.Places.{number_found}
use Rattle.minix_remove_laws.specs.Held.{held_name}
use Rattle.install_apart.specs.declared.name.OwnName.{OwnName}

-- a path ends with a name in a directory, which holds this by it
pub record IsAt (super : Super) (parts : Parts) (path : List (List ℕ)) (own : OwnName) : Type 0 where
  pub above : List (List ℕ)
  pub is : path ≡ own.name ∷ above
  pub leads : reached super parts above ≡ Some own.directory
  pub directory : is_directory (parts.node own.directory) ≡ true
  pub plain : is_dots own.name ≡ false
  pub there : reached super parts path ≡ number_found own.there
  pub held : held_name super parts own.directory own.name ≡ number_found own.there
  pub mode : IfSome own.there (λ stat. (inode_view stat.node).mode ≡ (parts.node stat.inode).mode)
