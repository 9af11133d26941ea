-- The middle of a command line where no literal text is in its place.
use Rattle.std.specs.Prelude.{ℕ, List, [], ◌++◌, unwrap_or}
use Rattle.lilo_model.specs.Conf.{ConfSection}
use Rattle.lilo_model.specs.Place.{spaced_words}
use Rattle.lilo_model.specs.Meant.{mount_text, root_text}

-- how the root is mounted, its device, and what comes last
abbrev pub parts_text : ConfSection → List ℕ
parts_text section = mount_text section.mount ++ root_text section.root ++ spaced_words (unwrap_or section.append [])
