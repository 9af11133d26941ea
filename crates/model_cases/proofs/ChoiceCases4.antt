-- Cases of the choice at the prompt, part 4; tools/choice_cases.py writes this file.
use Rattle.std.proofs.Common.{◌≡◌, [], ◌∷◌, ◌++◌, replicate, true, false, None, Some, codes, refl}
use Rattle.lilo_model.specs.DefaultLine.{Empty, Once, Kept}
use Rattle.lilo_model.specs.LineEdits.{erasing_text}
use Rattle.lilo_model.specs.LineWords.{words_of, meaning}
use Rattle.lilo_model.specs.Choice.{newline, course_of}
use Rattle.model_cases.specs.Cases.{typing, waiting, settings, listed, chosen, answers, expected, opened}

-- a video mode: a huge number
video_mode_huge : answers (settings true 0 None 0 255)
    (listed (codes "linux") None false false None ∷ listed (codes "dos") None false false None ∷ [])
    Empty None
    (typing (codes "dos vga=" ++ replicate 200 57 ++ codes " a" ++ newline))
    ≡ expected (Some (chosen 1 (codes "a") false None))
    (codes "boot: dos vga=" ++ replicate 200 57 ++ codes " a" ++ newline)
    Empty []
    (Some (opened [] (typing (codes "dos vga=" ++ replicate 200 57 ++ codes " a" ++ newline))))
unfolding words_of meaning course_of
video_mode_huge = refl

-- a video mode: a second sign of equality
video_mode_equals : answers (settings true 0 None 0 255)
    (listed (codes "linux") None false false None ∷ listed (codes "dos") None false false None ∷ [])
    Empty None
    (typing (codes "dos vga==1 a" ++ newline))
    ≡ expected (Some (chosen 1 (codes "a") false None))
    (codes "boot: dos vga==1 a" ++ newline)
    Empty []
    (Some (opened [] (typing (codes "dos vga==1 a" ++ newline))))
unfolding words_of meaning course_of
video_mode_equals = refl

-- a video mode: a letter that is no hexadecimal digit
video_mode_mixed_hexadecimal : answers (settings true 0 None 0 255)
    (listed (codes "linux") None false false None ∷ listed (codes "dos") None false false None ∷ [])
    Empty None
    (typing (codes "dos vga=0x12g4 a" ++ newline))
    ≡ expected (Some (chosen 1 (codes "a") false None))
    (codes "boot: dos vga=0x12g4 a" ++ newline)
    Empty []
    (Some (opened [] (typing (codes "dos vga=0x12g4 a" ++ newline))))
unfolding words_of meaning course_of
video_mode_mixed_hexadecimal = refl

-- the last video mode counts
video_mode_last_counts : answers (settings true 0 None 0 255)
    (listed (codes "linux") None false false None ∷ listed (codes "dos") None false false None ∷ [])
    Empty None
    (typing (codes "dos vga=1 vga=2 vga=3" ++ newline))
    ≡ expected (Some (chosen 1 [] false (Some 3)))
    (codes "boot: dos vga=1 vga=2 vga=3" ++ newline)
    Empty []
    (Some (opened [] (typing (codes "dos vga=1 vga=2 vga=3" ++ newline))))
unfolding words_of meaning course_of
video_mode_last_counts = refl

-- a wrong video mode at the end leaves the one before
video_mode_wrong_last : answers (settings true 0 None 0 255)
    (listed (codes "linux") None false false None ∷ listed (codes "dos") None false false None ∷ [])
    Empty None
    (typing (codes "dos vga=ask vga=x" ++ newline))
    ≡ expected (Some (chosen 1 [] false (Some 65533)))
    (codes "boot: dos vga=ask vga=x" ++ newline)
    Empty []
    (Some (opened [] (typing (codes "dos vga=ask vga=x" ++ newline))))
unfolding words_of meaning course_of
video_mode_wrong_last = refl

-- a wrong video mode at the start leaves the one after it
video_mode_wrong_first : answers (settings true 0 None 0 255)
    (listed (codes "linux") None false false None ∷ listed (codes "dos") None false false None ∷ [])
    Empty None
    (typing (codes "dos vga=x vga=ask" ++ newline))
    ≡ expected (Some (chosen 1 [] false (Some 65533)))
    (codes "boot: dos vga=x vga=ask" ++ newline)
    Empty []
    (Some (opened [] (typing (codes "dos vga=x vga=ask" ++ newline))))
unfolding words_of meaning course_of
video_mode_wrong_first = refl

-- a word that begins with capitals is no video mode
video_mode_capitals : answers (settings true 0 None 0 255)
    (listed (codes "linux") None false false None ∷ listed (codes "dos") None false false None ∷ [])
    Empty None
    (typing (codes "dos VGA=ask" ++ newline))
    ≡ expected (Some (chosen 1 (codes "VGA=ask") false None))
    (codes "boot: dos VGA=ask" ++ newline)
    Empty []
    (Some (opened [] (typing (codes "dos VGA=ask" ++ newline))))
unfolding words_of meaning course_of
video_mode_capitals = refl

-- the word without the sign is passed on
video_mode_without_sign : answers (settings true 0 None 0 255)
    (listed (codes "linux") None false false None ∷ listed (codes "dos") None false false None ∷ [])
    Empty None
    (typing (codes "dos vga ask" ++ newline))
    ≡ expected (Some (chosen 1 (codes "vga ask") false None))
    (codes "boot: dos vga ask" ++ newline)
    Empty []
    (Some (opened [] (typing (codes "dos vga ask" ++ newline))))
unfolding words_of meaning course_of
video_mode_without_sign = refl

-- a video mode within a word is passed on
video_mode_inside_word : answers (settings true 0 None 0 255)
    (listed (codes "linux") None false false None ∷ listed (codes "dos") None false false None ∷ [])
    Empty None
    (typing (codes "dos xvga=ask" ++ newline))
    ≡ expected (Some (chosen 1 (codes "xvga=ask") false None))
    (codes "boot: dos xvga=ask" ++ newline)
    Empty []
    (Some (opened [] (typing (codes "dos xvga=ask" ++ newline))))
unfolding words_of meaning course_of
video_mode_inside_word = refl

-- a video mode as the first word is no name
video_mode_as_first_word : answers (settings true 0 None 0 255)
    (listed (codes "linux") None false false None ∷ listed (codes "dos") None false false None ∷ [])
    Empty None
    (typing (codes "vga=ask" ++ newline))
    ≡ expected None
    (codes "boot: vga=ask" ++ newline ++ codes "No such image." ++ newline ++ codes "boot: ")
    Empty []
    (Some (opened [] (typing (codes "vga=ask" ++ newline))))
unfolding words_of meaning course_of
video_mode_as_first_word = refl

-- an entry may be named like a video mode
video_mode_as_name : answers (settings true 0 None 0 255)
    (listed (codes "vga=1") None false false None ∷ listed (codes "dos") None false false None ∷ [])
    Empty None
    (typing (codes "vga=1 vga=2" ++ newline))
    ≡ expected (Some (chosen 0 [] false (Some 2)))
    (codes "boot: vga=1 vga=2" ++ newline)
    Empty []
    (Some (opened [] (typing (codes "vga=1 vga=2" ++ newline))))
unfolding words_of meaning course_of
video_mode_as_name = refl

-- the word lock keeps the name
lock_word : answers (settings true 0 None 0 255)
    (listed (codes "linux") None false false None ∷ listed (codes "dos") None false false None ∷ [])
    Empty None
    (typing (codes "dos lock" ++ newline))
    ≡ expected (Some (chosen 1 [] false None))
    (codes "boot: dos lock" ++ newline)
    (Kept (codes "dos")) []
    (Some (opened [] (typing (codes "dos lock" ++ newline))))
unfolding words_of meaning course_of
lock_word = refl

-- the word lock keeps the words without it
lock_word_between : answers (settings true 0 None 0 255)
    (listed (codes "linux") None false false None ∷ listed (codes "dos") None false false None ∷ [])
    Empty None
    (typing (codes "dos a lock b" ++ newline))
    ≡ expected (Some (chosen 1 (codes "a b") false None))
    (codes "boot: dos a lock b" ++ newline)
    (Kept (codes "dos a b")) []
    (Some (opened [] (typing (codes "dos a lock b" ++ newline))))
unfolding words_of meaning course_of
lock_word_between = refl

-- the word lock counts once
lock_word_twice : answers (settings true 0 None 0 255)
    (listed (codes "linux") None false false None ∷ listed (codes "dos") None false false None ∷ [])
    Empty None
    (typing (codes "dos lock a lock" ++ newline))
    ≡ expected (Some (chosen 1 (codes "a") false None))
    (codes "boot: dos lock a lock" ++ newline)
    (Kept (codes "dos a")) []
    (Some (opened [] (typing (codes "dos lock a lock" ++ newline))))
unfolding words_of meaning course_of
lock_word_twice = refl

-- a kept line has its video modes, the wrong ones too
lock_word_with_video_mode : answers (settings true 0 None 0 255)
    (listed (codes "linux") None false false None ∷ listed (codes "dos") None false false None ∷ [])
    Empty None
    (typing (codes "dos lock vga=ask vga=x a" ++ newline))
    ≡ expected (Some (chosen 1 (codes "a") false (Some 65533)))
    (codes "boot: dos lock vga=ask vga=x a" ++ newline)
    (Kept (codes "dos vga=ask vga=x a")) []
    (Some (opened [] (typing (codes "dos lock vga=ask vga=x a" ++ newline))))
unfolding words_of meaning course_of
lock_word_with_video_mode = refl

-- a kept line has single spaces
lock_word_spaces : answers (settings true 0 None 0 255)
    (listed (codes "linux") None false false None ∷ listed (codes "dos") None false false None ∷ [])
    Empty None
    (typing (codes "  dos   lock   a   b  " ++ newline))
    ≡ expected (Some (chosen 1 (codes "a b") false None))
    (codes "boot:   dos   lock   a   b  " ++ newline)
    (Kept (codes "dos a b")) []
    (Some (opened [] (typing (codes "  dos   lock   a   b  " ++ newline))))
unfolding words_of meaning course_of
lock_word_spaces = refl

-- the word in capitals is passed on
lock_word_capital : answers (settings true 0 None 0 255)
    (listed (codes "linux") None false false None ∷ listed (codes "dos") None false false None ∷ [])
    Empty None
    (typing (codes "dos LOCK" ++ newline))
    ≡ expected (Some (chosen 1 (codes "LOCK") false None))
    (codes "boot: dos LOCK" ++ newline)
    Empty []
    (Some (opened [] (typing (codes "dos LOCK" ++ newline))))
unfolding words_of meaning course_of
lock_word_capital = refl

-- a longer word is passed on
lock_word_longer : answers (settings true 0 None 0 255)
    (listed (codes "linux") None false false None ∷ listed (codes "dos") None false false None ∷ [])
    Empty None
    (typing (codes "dos locks lock=1" ++ newline))
    ≡ expected (Some (chosen 1 (codes "locks lock=1") false None))
    (codes "boot: dos locks lock=1" ++ newline)
    Empty []
    (Some (opened [] (typing (codes "dos locks lock=1" ++ newline))))
unfolding words_of meaning course_of
lock_word_longer = refl

-- a lock takes the place of a kept line
lock_word_replaces_kept : answers (settings false 2 None 0 255)
    (listed (codes "linux") None false false None ∷ listed (codes "dos") None false false None ∷ [])
    (Kept (codes "linux a")) None
    (typing (codes "dos lock" ++ newline))
    ≡ expected (Some (chosen 1 [] false None))
    (codes "boot: dos lock" ++ newline)
    (Kept (codes "dos")) []
    (Some (opened [] (typing (codes "os lock" ++ newline))))
unfolding words_of meaning course_of
lock_word_replaces_kept = refl

-- a lock takes the place of a line for one boot
lock_word_replaces_once : answers (settings false 2 None 0 255)
    (listed (codes "linux") None false false None ∷ listed (codes "dos") None false false None ∷ [])
    (Once (codes "linux a")) None
    (typing (codes "dos lock" ++ newline))
    ≡ expected (Some (chosen 1 [] false None))
    (codes "boot: dos lock" ++ newline)
    (Kept (codes "dos")) []
    (Some (opened [] (typing (codes "os lock" ++ newline))))
unfolding words_of meaning course_of
lock_word_replaces_once = refl

-- a typed lock goes before the fallback of its entry
lock_word_and_fallback : answers (settings true 0 None 0 255)
    (listed (codes "tried") None false false (Some (codes "linux")) ∷ listed (codes "linux") None false false None ∷ [])
    Empty None
    (typing (codes "tried a lock" ++ newline))
    ≡ expected (Some (chosen 0 (codes "a") false None))
    (codes "boot: tried a lock" ++ newline)
    (Kept (codes "tried a")) []
    (Some (opened [] (typing (codes "tried a lock" ++ newline))))
unfolding words_of meaning course_of
lock_word_and_fallback = refl

-- an entry may be named lock
lock_word_as_name : answers (settings true 0 None 0 255)
    (listed (codes "lock") None false false None ∷ listed (codes "dos") None false false None ∷ [])
    Empty None
    (typing (codes "lock lock a" ++ newline))
    ≡ expected (Some (chosen 0 (codes "a") false None))
    (codes "boot: lock lock a" ++ newline)
    (Kept (codes "lock a")) []
    (Some (opened [] (typing (codes "lock lock a" ++ newline))))
unfolding words_of meaning course_of
lock_word_as_name = refl

-- an entry with a lock keeps its name
lock_of_entry_without_words : answers (settings true 0 None 0 255)
    (listed (codes "locked") None false true None ∷ listed (codes "dos") None false false None ∷ [])
    Empty None
    (typing (codes "locked" ++ newline))
    ≡ expected (Some (chosen 0 [] false None))
    (codes "boot: locked" ++ newline)
    (Kept (codes "locked")) []
    (Some (opened [] (typing (codes "locked" ++ newline))))
unfolding words_of meaning course_of
lock_of_entry_without_words = refl

-- an automatic choice of an entry with a lock keeps its name
lock_of_entry_automatic : answers (settings false 0 None 0 255)
    (listed (codes "locked") None false true None ∷ listed (codes "dos") None false false None ∷ [])
    Empty None
    []
    ≡ expected (Some (chosen 0 [] true None))
    []
    (Kept (codes "locked")) []
    None
unfolding words_of meaning course_of
lock_of_entry_automatic = refl

-- an empty line that chooses an entry with a lock keeps its name
lock_of_entry_default_line : answers (settings true 0 None 0 255)
    (listed (codes "locked") None false true None ∷ listed (codes "dos") None false false None ∷ [])
    (Once (codes "x")) None
    (typing newline)
    ≡ expected (Some (chosen 0 [] false None))
    (codes "boot: " ++ newline)
    (Kept (codes "locked")) []
    (Some (opened [] (typing newline)))
unfolding words_of meaning course_of
lock_of_entry_default_line = refl

-- a lock of the entry goes before its fallback
lock_of_entry_and_fallback : answers (settings true 0 None 0 255)
    (listed (codes "both") None false true (Some (codes "linux")) ∷ listed (codes "linux") None false false None ∷ [])
    Empty None
    (typing (codes "both x" ++ newline))
    ≡ expected (Some (chosen 0 (codes "x") false None))
    (codes "boot: both x" ++ newline)
    (Kept (codes "both x")) []
    (Some (opened [] (typing (codes "both x" ++ newline))))
unfolding words_of meaning course_of
lock_of_entry_and_fallback = refl

-- a lock word counts only once the password is right
lock_with_wrong_password : answers (settings true 0 None 0 255)
    (listed (codes "secret") (Some (codes "abc")) false false None ∷ listed (codes "dos") None false false None ∷ [])
    Empty None
    (typing (codes "secret lock" ++ newline ++ codes "no" ++ newline ++ codes "dos" ++ newline))
    ≡ expected (Some (chosen 1 [] false None))
    (codes "boot: secret lock" ++ newline ++ codes "Password: " ++ newline ++ codes "Sorry." ++ newline ++ codes "boot: dos" ++ newline)
    Empty []
    (Some (opened [] (typing (codes "secret lock" ++ newline ++ codes "no" ++ newline ++ codes "dos" ++ newline))))
unfolding words_of meaning course_of
lock_with_wrong_password = refl

-- a fallback of no bytes is none
fallback_empty : answers (settings true 0 None 0 255)
    (listed (codes "e") None false false (Some []) ∷ listed (codes "dos") None false false None ∷ [])
    (Once (codes "x")) None
    (typing (codes "e" ++ newline))
    ≡ expected (Some (chosen 0 [] false None))
    (codes "boot: e" ++ newline)
    Empty []
    (Some (opened [] (typing (codes "e" ++ newline))))
unfolding words_of meaning course_of
fallback_empty = refl

-- a fallback of no bytes leaves a kept line
fallback_empty_kept : answers (settings true 0 None 0 255)
    (listed (codes "e") None false false (Some []) ∷ listed (codes "dos") None false false None ∷ [])
    (Kept (codes "x")) None
    (typing (codes "e" ++ newline))
    ≡ expected (Some (chosen 0 [] false None))
    (codes "boot: e" ++ newline)
    (Kept (codes "x")) []
    (Some (opened [] (typing (codes "e" ++ newline))))
unfolding words_of meaning course_of
fallback_empty_kept = refl

-- a fallback takes the place of a line for one boot
fallback_over_once : answers (settings false 0 None 0 255)
    (listed (codes "tried") None false false (Some (codes "linux")) ∷ listed (codes "linux") None false false None ∷ [])
    (Once (codes "tried b")) None
    []
    ≡ expected (Some (chosen 0 (codes "b") true None))
    []
    (Kept (codes "linux")) []
    None
unfolding words_of meaning course_of
fallback_over_once = refl

-- a fallback is kept byte for byte
fallback_as_written : answers (settings true 0 None 0 255)
    (listed (codes "e") None false false (Some (codes "  a  b ")) ∷ listed (codes "dos") None false false None ∷ [])
    Empty None
    (typing (codes "e" ++ newline))
    ≡ expected (Some (chosen 0 [] false None))
    (codes "boot: e" ++ newline)
    (Kept (codes "  a  b ")) []
    (Some (opened [] (typing (codes "e" ++ newline))))
unfolding words_of meaning course_of
fallback_as_written = refl

-- where nothing is chosen no fallback is kept
fallback_not_with_idle : answers (settings true 0 None 0 255)
    (listed (codes "tried") None false false (Some (codes "linux")) ∷ listed (codes "linux") None false false None ∷ [])
    Empty None
    (typing (codes "tried"))
    ≡ expected None
    (codes "boot: tried")
    Empty []
    (Some (opened [] (typing (codes "tried"))))
unfolding words_of meaning course_of
fallback_not_with_idle = refl

-- a fallback may be the line that is there
fallback_same_as_line : answers (settings false 0 None 0 255)
    (listed (codes "e") None false false (Some (codes "e")) ∷ listed (codes "dos") None false false None ∷ [])
    (Kept (codes "e")) None
    []
    ≡ expected (Some (chosen 0 [] true None))
    []
    (Kept (codes "e")) []
    None
unfolding words_of meaning course_of
fallback_same_as_line = refl

-- where a name is there twice the first entry counts
repeated_name_first_counts : answers (settings true 0 None 0 255)
    (listed (codes "a") None false false None ∷ listed (codes "a") (Some (codes "x")) false false None ∷ [])
    Empty None
    (typing (codes "a" ++ newline))
    ≡ expected (Some (chosen 0 [] false None))
    (codes "boot: a" ++ newline)
    Empty []
    (Some (opened [] (typing (codes "a" ++ newline))))
unfolding words_of meaning course_of
repeated_name_first_counts = refl

-- the place of the entry is its place in the list
names_many : answers (settings true 0 None 0 255)
    (listed (codes "n0") None false false None ∷ listed (codes "n1") None false false None ∷ listed (codes "n2") None false false None ∷ listed (codes "n3") None false false None ∷ listed (codes "n4") None false false None ∷ listed (codes "n5") None false false None ∷ listed (codes "n6") None false false None ∷ listed (codes "n7") None false false None ∷ listed (codes "n8") None false false None ∷ listed (codes "n9") None false false None ∷ listed (codes "n10") None false false None ∷ listed (codes "n11") None false false None ∷ listed (codes "n12") None false false None ∷ listed (codes "n13") None false false None ∷ listed (codes "n14") None false false None ∷ listed (codes "n15") None false false None ∷ listed (codes "n16") None false false None ∷ listed (codes "n17") None false false None ∷ listed (codes "n18") None false false None ∷ [])
    Empty None
    (typing (codes "n18 x" ++ newline))
    ≡ expected (Some (chosen 18 (codes "x") false None))
    (codes "boot: n18 x" ++ newline)
    Empty []
    (Some (opened [] (typing (codes "n18 x" ++ newline))))
unfolding words_of meaning course_of
names_many = refl

-- nineteen names are listed
names_many_listed : answers (settings true 0 None 0 255)
    (listed (codes "n0") None false false None ∷ listed (codes "n1") None false false None ∷ listed (codes "n2") None false false None ∷ listed (codes "n3") None false false None ∷ listed (codes "n4") None false false None ∷ listed (codes "n5") None false false None ∷ listed (codes "n6") None false false None ∷ listed (codes "n7") None false false None ∷ listed (codes "n8") None false false None ∷ listed (codes "n9") None false false None ∷ listed (codes "n10") None false false None ∷ listed (codes "n11") None false false None ∷ listed (codes "n12") None false false None ∷ listed (codes "n13") None false false None ∷ listed (codes "n14") None false false None ∷ listed (codes "n15") None false false None ∷ listed (codes "n16") None false false None ∷ listed (codes "n17") None false false None ∷ listed (codes "n18") None false false None ∷ [])
    Empty None
    (typing ((9 ∷ []) ++ codes "n7" ++ newline))
    ≡ expected (Some (chosen 7 [] false None))
    (codes "boot: " ++ newline ++ codes "n0" ++ newline ++ codes "n1" ++ newline ++ codes "n2" ++ newline ++ codes "n3" ++ newline ++ codes "n4" ++ newline ++ codes "n5" ++ newline ++ codes "n6" ++ newline ++ codes "n7" ++ newline ++ codes "n8" ++ newline ++ codes "n9" ++ newline ++ codes "n10" ++ newline ++ codes "n11" ++ newline ++ codes "n12" ++ newline ++ codes "n13" ++ newline ++ codes "n14" ++ newline ++ codes "n15" ++ newline ++ codes "n16" ++ newline ++ codes "n17" ++ newline ++ codes "n18" ++ newline ++ codes "boot: n7" ++ newline)
    Empty []
    (Some (opened [] (typing ((9 ∷ []) ++ codes "n7" ++ newline))))
unfolding words_of meaning course_of
names_many_listed = refl

-- a name of 15 bytes
name_of_15_bytes : answers (settings true 0 None 0 255)
    (listed (codes "abcdefghijklmno") None false false None ∷ listed (codes "dos") None false false None ∷ [])
    Empty None
    (typing (codes "abcdefghijklmno" ++ newline))
    ≡ expected (Some (chosen 0 [] false None))
    (codes "boot: abcdefghijklmno" ++ newline)
    Empty []
    (Some (opened [] (typing (codes "abcdefghijklmno" ++ newline))))
unfolding words_of meaning course_of
name_of_15_bytes = refl

-- a name may have signs
name_with_signs : answers (settings true 0 None 0 255)
    (listed (codes "a=b" ++ (34 ∷ []) ++ codes "c" ++ (92 ∷ []) ++ codes "d") None false false None ∷ listed (codes "dos") None false false None ∷ [])
    Empty None
    (typing (codes "a=b" ++ (34 ∷ []) ++ codes "c" ++ (92 ∷ []) ++ codes "d x" ++ (34 ∷ []) ++ codes "y" ++ (92 ∷ []) ++ codes "z" ++ newline))
    ≡ expected (Some (chosen 0 (codes "x" ++ (34 ∷ []) ++ codes "y" ++ (92 ∷ []) ++ codes "z") false None))
    (codes "boot: a=b" ++ (34 ∷ []) ++ codes "c" ++ (92 ∷ []) ++ codes "d x" ++ (34 ∷ []) ++ codes "y" ++ (92 ∷ []) ++ codes "z" ++ newline)
    Empty []
    (Some (opened [] (typing (codes "a=b" ++ (34 ∷ []) ++ codes "c" ++ (92 ∷ []) ++ codes "d x" ++ (34 ∷ []) ++ codes "y" ++ (92 ∷ []) ++ codes "z" ++ newline))))
unfolding words_of meaning course_of
name_with_signs = refl

-- the last of many entries as the default
high_default : answers (settings false 0 None 18 255)
    (listed (codes "n0") None false false None ∷ listed (codes "n1") None false false None ∷ listed (codes "n2") None false false None ∷ listed (codes "n3") None false false None ∷ listed (codes "n4") None false false None ∷ listed (codes "n5") None false false None ∷ listed (codes "n6") None false false None ∷ listed (codes "n7") None false false None ∷ listed (codes "n8") None false false None ∷ listed (codes "n9") None false false None ∷ listed (codes "n10") None false false None ∷ listed (codes "n11") None false false None ∷ listed (codes "n12") None false false None ∷ listed (codes "n13") None false false None ∷ listed (codes "n14") None false false None ∷ listed (codes "n15") None false false None ∷ listed (codes "n16") None false false None ∷ listed (codes "n17") None false false None ∷ listed (codes "n18") None false false None ∷ [])
    Empty None
    []
    ≡ expected (Some (chosen 18 [] true None))
    []
    Empty []
    None
unfolding words_of meaning course_of
high_default = refl

-- drawn at random: a typed choice, a new default line, keys are left
drawn_001 : answers (settings false 2 (Some 2) 2 255)
    (listed (codes "a1") (Some (replicate 31 112)) true false (Some []) ∷ listed (codes "old") (Some (replicate 31 112)) true false None ∷ listed (codes "lock") None false false None ∷ listed (codes "dos") None false true None ∷ [])
    Empty (Some [])
    (typing (codes "dos" ++ newline ++ newline ++ replicate 31 112 ++ newline ++ codes "a1 vga=normal vga=0x1F vga=65536" ++ newline) ++ waiting 650 ++ typing (newline ++ codes "old" ++ newline ++ codes "dos" ++ newline))
    ≡ expected (Some (chosen 3 [] false None))
    (codes "boot: dos" ++ newline)
    (Kept (codes "dos")) (typing (newline ++ replicate 31 112 ++ newline ++ codes "a1 vga=normal vga=0x1F vga=65536" ++ newline) ++ waiting 650 ++ typing (newline ++ codes "old" ++ newline ++ codes "dos" ++ newline))
    (Some (opened [] (typing (codes "os" ++ newline ++ newline ++ replicate 31 112 ++ newline ++ codes "a1 vga=normal vga=0x1F vga=65536" ++ newline) ++ waiting 650 ++ typing (newline ++ codes "old" ++ newline ++ codes "dos" ++ newline))))
unfolding words_of meaning course_of
drawn_001 = refl

-- drawn at random: a typed choice, 1 unknown name, a new default line
drawn_002 : answers (settings false 2 None 0 255)
    (listed (codes "rescue") None false false (Some (codes "none")) ∷ [])
    Empty None
    (typing (codes "tux" ++ newline ++ codes "rescue " ++ (63 ∷ []) ++ codes " root=/dev/hda1 single" ++ (13 ∷ [])))
    ≡ expected (Some (chosen 0 ((63 ∷ []) ++ codes " root=/dev/hda1 single") false None))
    (codes "boot: tux" ++ newline ++ codes "No such image." ++ newline ++ codes "boot: rescue " ++ (63 ∷ []) ++ codes " root=/dev/hda1 single" ++ newline)
    (Kept (codes "none")) []
    (Some (opened [] (typing (codes "ux" ++ newline ++ codes "rescue " ++ (63 ∷ []) ++ codes " root=/dev/hda1 single" ++ (13 ∷ [])))))
unfolding words_of meaning course_of
drawn_002 = refl

-- drawn at random: nothing is chosen
drawn_003 : answers (settings true 5 (Some 1) 0 12)
    (listed (codes "lock") (Some []) false true None ∷ listed (codes "a1") (Some (codes "tux")) true false None ∷ [])
    Empty (Some (codes "boot: "))
    (typing ((8 ∷ []) ++ (8 ∷ []) ++ (8 ∷ [])))
    ≡ expected None
    (codes "boot: boot: ")
    Empty []
    (Some (opened [] (typing ((8 ∷ []) ++ (8 ∷ []) ++ (8 ∷ [])))))
unfolding words_of meaning course_of
drawn_003 = refl

-- drawn at random: a typed choice
drawn_004 : answers (settings false 1 None 2 5)
    (listed (codes "x") None false false (Some (codes "dos vga=ask vga=bad")) ∷ listed (codes "old") (Some []) false false (Some (codes "x " ++ (63 ∷ []) ++ codes " a ro")) ∷ listed (codes "dos") None false false None ∷ [])
    Empty (Some [])
    (typing (codes "dos" ++ newline))
    ≡ expected (Some (chosen 2 [] false None))
    (codes "boot: dos" ++ newline)
    Empty []
    (Some (opened [] (typing (codes "os" ++ newline))))
unfolding words_of meaning course_of
drawn_004 = refl

-- drawn at random: an automatic choice, no prompt, keys are left
drawn_005 : answers (settings false 0 (Some 9) 0 255)
    (listed (codes "rescue") (Some []) true false None ∷ [])
    Empty (Some (codes "Hello" ++ newline))
    (typing (newline ++ newline))
    ≡ expected (Some (chosen 0 [] true None))
    []
    Empty (typing (newline ++ newline))
    None
unfolding words_of meaning course_of
drawn_005 = refl

-- drawn at random: nothing is chosen, 2 questions, 1 wrong, 2 unknown names
drawn_006 : answers (settings false 2 (Some 1) 0 255)
    (listed (codes "a1") (Some (codes "secret")) false true None ∷ listed (codes "rescue") (Some (codes "secret")) false false None ∷ [])
    Empty (Some [])
    (typing (codes "a1 quiet lock ro" ++ newline) ++ waiting 601 ++ typing (codes "a b" ++ newline ++ codes "a b" ++ newline ++ codes "  rescue locknone" ++ newline ++ codes "none vga=bad" ++ newline ++ codes "a1 lock" ++ (8 ∷ []) ++ (8 ∷ [])))
    ≡ expected None
    (codes "boot: a1 quiet lock ro" ++ newline ++ codes "Password: " ++ newline ++ codes "boot: a b" ++ newline ++ codes "No such image." ++ newline ++ codes "boot: a b" ++ newline ++ codes "No such image." ++ newline ++ codes "boot:   rescue locknone" ++ newline ++ codes "Password: " ++ newline ++ codes "Sorry." ++ newline ++ codes "boot: a1 lock" ++ erasing_text ++ erasing_text)
    Empty []
    (Some (opened [] (typing (codes "1 quiet lock ro" ++ newline) ++ waiting 601 ++ typing (codes "a b" ++ newline ++ codes "a b" ++ newline ++ codes "  rescue locknone" ++ newline ++ codes "none vga=bad" ++ newline ++ codes "a1 lock" ++ (8 ∷ []) ++ (8 ∷ [])))))
unfolding words_of meaning course_of
drawn_006 = refl

-- drawn at random: nothing is chosen
drawn_007 : answers (settings true 0 None 0 255)
    (listed (codes "x") None false true None ∷ listed (codes "dos") (Some (codes "secret")) true false None ∷ [])
    (Kept (codes "vga=0x1F vga=bad ro vga=normal")) (Some (codes "boot: "))
    (waiting 2)
    ≡ expected None
    (codes "boot: boot: ")
    (Kept (codes "vga=0x1F vga=bad ro vga=normal")) []
    (Some (opened [] (waiting 2)))
unfolding words_of meaning course_of
drawn_007 = refl

-- drawn at random: a typed choice, 1 question, 1 wrong
drawn_008 : answers (settings false 0 (Some 9) 0 470)
    (listed (codes "linux") (Some []) false false None ∷ listed (codes "rescue") None false false None ∷ [])
    Empty None
    (typing (codes "rescue" ++ newline ++ codes "rescue" ++ newline))
    ≡ expected (Some (chosen 1 [] false None))
    (codes "Password: " ++ newline ++ codes "Sorry." ++ newline ++ codes "boot: rescue" ++ newline)
    Empty []
    (Some (opened (codes "Password: " ++ newline ++ codes "Sorry." ++ newline) (typing (codes "rescue" ++ newline))))
unfolding words_of meaning course_of
drawn_008 = refl

-- drawn at random: nothing is chosen, 2 questions, 1 wrong
drawn_009 : answers (settings false 0 None 0 255)
    (listed (codes "x") (Some (codes "a b")) false false None ∷ [])
    Empty (Some (codes "boot: "))
    (typing ((9 ∷ []) ++ newline ++ (8 ∷ []) ++ (8 ∷ []) ++ (8 ∷ []) ++ (8 ∷ []) ++ (8 ∷ []) ++ codes "x" ++ newline))
    ≡ expected None
    (codes "Password: " ++ newline ++ codes "Sorry." ++ newline ++ codes "boot: boot: x" ++ newline ++ codes "Password: " ++ newline ++ codes "boot: ")
    Empty []
    (Some (opened (codes "Password: " ++ newline ++ codes "Sorry." ++ newline) (typing ((8 ∷ []) ++ (8 ∷ []) ++ (8 ∷ []) ++ (8 ∷ []) ++ (8 ∷ []) ++ codes "x" ++ newline))))
unfolding words_of meaning course_of
drawn_009 = refl

-- drawn at random: a typed choice, a new default line, keys are left
drawn_010 : answers (settings true 0 (Some 2) 1 470)
    (listed (codes "lock") None false false None ∷ listed (codes "linux") (Some (codes "a b")) false true None ∷ listed (codes "a1") None false false None ∷ [])
    Empty (Some (codes "boot: "))
    (typing (codes "a1 lock" ++ newline ++ codes "lock vga=5" ++ newline ++ codes "linux" ++ newline) ++ waiting 598 ++ typing ((9 ∷ []) ++ codes "none vga=normal root=/dev/hda1"))
    ≡ expected (Some (chosen 2 [] false None))
    (codes "boot: boot: a1 lock" ++ newline)
    (Kept (codes "a1")) (typing (codes "lock vga=5" ++ newline ++ codes "linux" ++ newline) ++ waiting 598 ++ typing ((9 ∷ []) ++ codes "none vga=normal root=/dev/hda1"))
    (Some (opened [] (typing (codes "a1 lock" ++ newline ++ codes "lock vga=5" ++ newline ++ codes "linux" ++ newline) ++ waiting 598 ++ typing ((9 ∷ []) ++ codes "none vga=normal root=/dev/hda1"))))
unfolding words_of meaning course_of
drawn_010 = refl

-- drawn at random: a typed choice, 3 unknown names
drawn_011 : answers (settings true 2 (Some 2) 0 470)
    (listed (codes "lock") (Some (codes "a b")) true false None ∷ [])
    Empty (Some (codes "boot: "))
    (typing (codes "a b" ++ newline ++ (9 ∷ []) ++ (21 ∷ []) ++ codes "none quiet") ++ waiting 5 ++ typing (codes "lock" ++ newline ++ codes "none vga=ask" ++ newline ++ codes "lock" ++ newline))
    ≡ expected (Some (chosen 0 [] false None))
    (codes "boot: boot: a b" ++ newline ++ codes "No such image." ++ newline ++ codes "boot: " ++ newline ++ codes "lock" ++ newline ++ codes "boot: " ++ newline ++ codes "boot: none quietlock" ++ newline ++ codes "No such image." ++ newline ++ codes "boot: none vga=ask" ++ newline ++ codes "No such image." ++ newline ++ codes "boot: lock" ++ newline)
    Empty []
    (Some (opened [] (typing (codes "a b" ++ newline ++ (9 ∷ []) ++ (21 ∷ []) ++ codes "none quiet") ++ waiting 5 ++ typing (codes "lock" ++ newline ++ codes "none vga=ask" ++ newline ++ codes "lock" ++ newline))))
unfolding words_of meaning course_of
drawn_011 = refl

-- drawn at random: nothing is chosen, 2 unknown names
drawn_012 : answers (settings true 3 None 1 5)
    (listed (codes "x") (Some (codes "secret")) false false None ∷ listed (codes "linux") None false true None ∷ [])
    (Kept (codes "x ro")) None
    (typing (codes "a b" ++ newline) ++ waiting 598 ++ typing ((127 ∷ []) ++ codes "vga=bad " ++ (63 ∷ []) ++ newline))
    ≡ expected None
    (codes "boot: a b" ++ newline ++ codes "No such image." ++ newline ++ codes "boot: vga=b" ++ newline ++ codes "No such image." ++ newline ++ codes "boot: ")
    (Kept (codes "x ro")) []
    (Some (opened [] (typing (codes " b" ++ newline) ++ waiting 598 ++ typing ((127 ∷ []) ++ codes "vga=bad " ++ (63 ∷ []) ++ newline))))
unfolding words_of meaning course_of
drawn_012 = refl

-- drawn at random: nothing is chosen, 1 unknown name
drawn_013 : answers (settings true 2 (Some 9) 1 12)
    (listed (codes "lock") None false false None ∷ listed (codes "linux") None false true None ∷ [])
    Empty (Some (codes "Hello" ++ newline))
    (typing (codes "tux" ++ newline))
    ≡ expected None
    (codes "Hello" ++ newline ++ codes "boot: tux" ++ newline ++ codes "No such image." ++ newline ++ codes "boot: ")
    Empty []
    (Some (opened [] (typing (codes "tux" ++ newline))))
unfolding words_of meaning course_of
drawn_013 = refl

-- drawn at random: an automatic choice, no prompt
drawn_014 : answers (settings false 3 None 0 12)
    (listed (codes "old") None false false None ∷ [])
    Empty (Some (codes "boot: "))
    []
    ≡ expected (Some (chosen 0 [] true None))
    []
    Empty []
    None
unfolding words_of meaning course_of
drawn_014 = refl

-- drawn at random: an automatic choice, a new default line
drawn_015 : answers (settings true 2 (Some 1) 1 255)
    (listed (codes "x") None false false (Some (codes "x")) ∷ listed (codes "rescue") (Some (codes "tux")) true true None ∷ [])
    Empty None
    []
    ≡ expected (Some (chosen 1 [] true None))
    (codes "boot: " ++ newline)
    (Kept (codes "rescue")) []
    (Some (opened [] []))
unfolding words_of meaning course_of
drawn_015 = refl

-- drawn at random: an automatic choice, no prompt, a new default line, keys are left
drawn_016 : answers (settings true 0 (Some 9) 1 470)
    (listed (codes "a1") None false false (Some (codes "dos vga=65536 lock")) ∷ listed (codes "rescue") None false false (Some []) ∷ listed (codes "dos") None false true None ∷ listed (codes "old") (Some (codes "abc")) true false (Some (codes "rescue single vga=0x1F")) ∷ [])
    (Once (codes "rescue quiet")) (Some [])
    (waiting 650 ++ typing (21 ∷ []))
    ≡ expected (Some (chosen 1 (codes "quiet") true None))
    []
    Empty (waiting 650 ++ typing (21 ∷ []))
    None
unfolding words_of meaning course_of
drawn_016 = refl

-- drawn at random: a typed choice, keys are left
drawn_017 : answers (settings false 3 None 0 255)
    (listed (codes "rescue") (Some (codes "secret")) true false None ∷ listed (codes "lock") (Some (codes "secret")) true true None ∷ [])
    Empty (Some (codes "boot: "))
    (typing ((9 ∷ []) ++ codes "rescue" ++ newline ++ (9 ∷ []) ++ newline ++ codes "none single" ++ (9 ∷ [])))
    ≡ expected (Some (chosen 0 [] false None))
    (codes "boot: boot: " ++ newline ++ codes "rescue" ++ newline ++ codes "lock" ++ newline ++ codes "boot: rescue" ++ newline)
    Empty (typing ((9 ∷ []) ++ newline ++ codes "none single" ++ (9 ∷ [])))
    (Some (opened [] (typing (codes "rescue" ++ newline ++ (9 ∷ []) ++ newline ++ codes "none single" ++ (9 ∷ [])))))
unfolding words_of meaning course_of
drawn_017 = refl

-- drawn at random: a typed choice, a new default line, keys are left
drawn_018 : answers (settings true 5 (Some 9) 1 255)
    (listed (codes "rescue") (Some (codes "tux")) false true None ∷ listed (codes "dos") None false false None ∷ [])
    (Once (codes "dos")) (Some (codes "boot: "))
    (typing ((21 ∷ []) ++ codes "dos lock" ++ newline ++ codes "rescue " ++ (63 ∷ []) ++ codes " root=/dev/hda1 vga=bad" ++ (13 ∷ []) ++ codes "rescue" ++ newline ++ codes "dos vga=ask" ++ newline ++ codes "vga= ro" ++ (13 ∷ []) ++ codes "none vga=ask" ++ (13 ∷ []) ++ codes "dos" ++ newline ++ codes "none vga=ask" ++ newline ++ codes "rescue lock " ++ (63 ∷ []) ++ codes "a lock" ++ newline))
    ≡ expected (Some (chosen 1 [] false None))
    (codes "boot: boot: " ++ newline ++ codes "boot: dos lock" ++ newline)
    (Kept (codes "dos")) (typing (codes "rescue " ++ (63 ∷ []) ++ codes " root=/dev/hda1 vga=bad" ++ (13 ∷ []) ++ codes "rescue" ++ newline ++ codes "dos vga=ask" ++ newline ++ codes "vga= ro" ++ (13 ∷ []) ++ codes "none vga=ask" ++ (13 ∷ []) ++ codes "dos" ++ newline ++ codes "none vga=ask" ++ newline ++ codes "rescue lock " ++ (63 ∷ []) ++ codes "a lock" ++ newline))
    (Some (opened [] (typing (codes "dos lock" ++ newline ++ codes "rescue " ++ (63 ∷ []) ++ codes " root=/dev/hda1 vga=bad" ++ (13 ∷ []) ++ codes "rescue" ++ newline ++ codes "dos vga=ask" ++ newline ++ codes "vga= ro" ++ (13 ∷ []) ++ codes "none vga=ask" ++ (13 ∷ []) ++ codes "dos" ++ newline ++ codes "none vga=ask" ++ newline ++ codes "rescue lock " ++ (63 ∷ []) ++ codes "a lock" ++ newline))))
unfolding words_of meaning course_of
drawn_018 = refl

-- drawn at random: nothing is chosen, 1 question, 1 wrong
drawn_019 : answers (settings true 0 None 1 255)
    (listed (codes "old") None false true None ∷ listed (codes "x") (Some (codes "abc")) false false None ∷ [])
    Empty (Some [])
    (typing (codes "x" ++ newline ++ codes "none a a" ++ (13 ∷ [])))
    ≡ expected None
    (codes "boot: x" ++ newline ++ codes "Password: " ++ newline ++ codes "Sorry." ++ newline ++ codes "boot: ")
    Empty []
    (Some (opened [] (typing (codes "x" ++ newline ++ codes "none a a" ++ (13 ∷ [])))))
unfolding words_of meaning course_of
drawn_019 = refl

-- drawn at random: a typed choice, a new default line, keys are left
drawn_020 : answers (settings false 3 None 1 255)
    (listed (codes "lock") (Some (codes "secret")) false false (Some (codes "a1 vga=bad vga=normal")) ∷ listed (codes "x") (Some (codes "secret")) true false (Some (codes "lock vga=65536")) ∷ listed (codes "a1") (Some (codes "abc")) false false None ∷ [])
    Empty None
    (typing (codes "x" ++ newline) ++ waiting 5 ++ typing (codes "x a vga=" ++ (127 ∷ []) ++ (127 ∷ [])))
    ≡ expected (Some (chosen 1 [] false None))
    (codes "boot: x" ++ newline)
    (Kept (codes "lock vga=65536")) (waiting 5 ++ typing (codes "x a vga=" ++ (127 ∷ []) ++ (127 ∷ [])))
    (Some (opened [] (typing newline ++ waiting 5 ++ typing (codes "x a vga=" ++ (127 ∷ []) ++ (127 ∷ [])))))
unfolding words_of meaning course_of
drawn_020 = refl

-- drawn at random: nothing is chosen, 1 question, 1 wrong
drawn_021 : answers (settings true 5 (Some 2) 1 255)
    (listed (codes "old") None false false (Some (codes "x ro single")) ∷ listed (codes "dos") (Some (codes "a b")) false true None ∷ listed (codes "linux") (Some []) true false None ∷ listed (codes "x") None false false (Some (codes "linux ro single")) ∷ [])
    (Once (codes "x vga= ro")) None
    (typing ((7 ∷ []) ++ (8 ∷ []) ++ (8 ∷ []) ++ (8 ∷ []) ++ (8 ∷ []) ++ (8 ∷ []) ++ codes "dos" ++ newline ++ (9 ∷ []) ++ codes "linux" ++ newline ++ (9 ∷ [])))
    ≡ expected None
    (codes "boot: dos" ++ newline ++ codes "Password: " ++ newline ++ codes "Sorry." ++ newline ++ codes "boot: " ++ newline ++ codes "old" ++ newline ++ codes "dos" ++ newline ++ codes "linux" ++ newline ++ codes "x" ++ newline ++ codes "boot: ")
    (Once (codes "x vga= ro")) []
    (Some (opened [] (typing ((8 ∷ []) ++ (8 ∷ []) ++ (8 ∷ []) ++ (8 ∷ []) ++ (8 ∷ []) ++ codes "dos" ++ newline ++ (9 ∷ []) ++ codes "linux" ++ newline ++ (9 ∷ [])))))
unfolding words_of meaning course_of
drawn_021 = refl
