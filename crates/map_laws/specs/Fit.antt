-- That a plan's check of a kernel doesn't know the memory costs nothing: what it accepts is refused for that alone.
use Rattle.std.specs.Prelude.{◌≡◌, ◌↔◌, ℕ, List, length, Option, option_map, Result, Ok, Err}
use Rattle.lilo_model.specs.Table.{Descriptor}
use Rattle.lilo_model.specs.Header.{NoRoom}
use Rattle.lilo_model.specs.Place.{Fits}
use Rattle.lilo_model.specs.Reason as reasons
use Rattle.lilo_model.specs.Reason.{Reason}
use Rattle.lilo_model.specs.Boot.{Ending, initrd_size, loaded_ending}
use Rattle.boot_laws.specs.Steps.{whole_content}

-- a kernel was loaded, or the memory was too small for it
abbrev pub IsLoadedOrTooLarge : Result Ending Reason → Type 0
IsLoadedOrTooLarge (Ok ending) = Unit {0}
IsLoadedOrTooLarge (Err (reasons.Header (NoRoom need have))) = Unit {0}
IsLoadedOrTooLarge (Err reason) = ⊥

-- a kernel, an initrd and a line fit exactly where a boot of these, whole, is refused for no other reason
abbrev pub FitLaw : Type 0
FitLaw =
    (entry : Descriptor) (kernel : List ℕ) (initrd : Option (List ℕ)) (line : List ℕ) (video : Option ℕ) (memory : ℕ)
    → entry.main_length ≡ length kernel
    → initrd_size entry ≡ option_map length initrd
    → Fits kernel initrd line
    ↔ IsLoadedOrTooLarge (loaded_ending entry (whole_content kernel) (option_map whole_content initrd) line video memory)
