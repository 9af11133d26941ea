-- The sections that are omitted.
use Rattle.std.specs.Prelude.{ℕ, List, [], ◌∷◌, flat_map}
use Rattle.lilo_model.specs.Conf.{ConfSection}
use Rattle.lilo_model.specs.Disks.{Image, Machine}
use Rattle.lilo_model.specs.MinixParts.{Volume}
use Rattle.lilo_model.specs.Plan.{MappedSection}
use Rattle.lilo_model.specs.Planned.{mapped_section}

-- the path of a section of which nothing is mapped
abbrev pub skipped_path : ConfSection → List MappedSection → List (List ℕ)
skipped_path section [] = section.path ∷ []
skipped_path section (mapped ∷ others) = []

-- those of all that are omitted, in order
abbrev pub skipped_paths : Image → Machine → Volume → List ConfSection → List (List ℕ)
skipped_paths image machine volume sections =
    flat_map (λ section. skipped_path section (mapped_section image machine volume section)) sections
