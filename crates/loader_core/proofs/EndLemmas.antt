-- What an entry loads by what is read of its files is what the model's entry loads.
use Rattle.std.proofs.Common.{◌≡◌, ℕ, min, nat_lt, if◌then◌else◌, refl, ap, List, length, Option, None, Some, option_map, Ok}
use Rattle.lilo_model.specs.Checks.{◌>>=◌, no_fault, with_fault}
use Rattle.lilo_model.specs.Disks.{Image, Machine}
use Rattle.lilo_model.specs.Section.{SectionFault, Content}
use Rattle.lilo_model.specs.Prompt.{Picked}
use Rattle.lilo_model.specs.Table.{Descriptor}
use Rattle.lilo_model.specs.Reason.{section_reason}
use Rattle.lilo_model.specs.Boot.{whole_check, first_two_check, initrd_check, initrd_of, main_of, handed_ending, loaded_ending, kernel_ending, entry_ending, picked_line, video_of}
use Rattle.section_loader.specs.Reading.{content_rest}
use Rattle.loader_core.specs.Report.{whole_read, first_two_read, initrd_read, handed_by, loaded_by, main_rest, initrd_rest, entry_by}

stop_same : (refusal : Option SectionFault) → no_fault (option_map section_reason refusal) ≡ with_fault section_reason (no_fault refusal)
stop_same None = refl
stop_same (Some fault) = refl

-- a file as a whole
whole_same : (content : Content) → whole_read (content_rest content) ≡ whole_check content
whole_same content = stop_same content.refusal

-- its first two sectors
first_two_same : (len : ℕ) (content : Content) → first_two_read len (content_rest content) ≡ first_two_check len content
first_two_same len content = ap (λ whole. if nat_lt (length content.bytes) (min len 1024) then whole else Ok tt) (whole_same content)

-- an initrd
initrd_same : (initrd : Option Content) → initrd_read (option_map content_rest initrd) ≡ initrd_check initrd
initrd_same None = refl
initrd_same (Some content) = ap (λ whole. whole >>= λ a. Ok (Some content.bytes)) (whole_same content)

-- another system's boot sector
handed_same : (entry : Descriptor) (main : Content) → handed_by entry (content_rest main) ≡ handed_ending entry main
unfolding handed_by handed_ending
handed_same entry main = rw (whole_same main) refl

-- a kernel
loaded_same :
    (entry : Descriptor) (main : Content) (initrd : Option Content) (line : List ℕ) (video : Option ℕ) (memory : ℕ)
    → loaded_by entry (content_rest main) (option_map content_rest initrd) line video memory
    ≡ loaded_ending entry main initrd line video memory
unfolding loaded_by loaded_ending
loaded_same entry main initrd line video memory =
    rw (first_two_same entry.main_length main, whole_same main, initrd_same initrd) refl

-- an entry that was picked loads what the model's does
pub entry_same :
    (image : Image) (machine : Machine) (entry : Descriptor) (picked : Picked) (middle : List ℕ) (memory : ℕ)
    → entry_by image machine entry (picked_line entry picked middle) (video_of entry picked) memory
    ≡ entry_ending image machine entry picked middle memory
unfolding entry_by entry_ending kernel_ending main_rest initrd_rest
entry_same image machine entry picked middle memory =
    rw (
      handed_same entry (main_of image machine entry),
      loaded_same entry (main_of image machine entry) (initrd_of image machine entry) (picked_line entry picked middle) (video_of entry picked) memory,
    ) refl
