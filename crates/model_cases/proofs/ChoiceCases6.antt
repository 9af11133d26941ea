-- Cases of the choice at the prompt, part 6; tools/choice_cases.py writes this file.
use Rattle.std.proofs.Common.{◌≡◌, [], ◌∷◌, ◌++◌, replicate, true, false, None, Some, codes, refl}
use Rattle.lilo_model.specs.DefaultLine.{Empty, Once, Kept}
use Rattle.lilo_model.specs.LineWords.{words_of, meaning}
use Rattle.lilo_model.specs.Choice.{newline, course_of}
use Rattle.model_cases.specs.Cases.{typing, waiting, settings, listed, chosen, answers, expected, opened}

-- drawn at random: a typed choice, 2 unknown names, a new default line, keys are left
drawn_082 : answers (settings false 5 None 0 12)
    (listed (codes "x") None false false (Some (codes "none vga=0x1F")) ∷ listed (codes "lock") (Some (codes "tux")) false false (Some (codes "x vga= " ++ (63 ∷ []))) ∷ listed (codes "linux") None false false (Some (codes "linux quiet single vga=5")) ∷ [])
    (Once (codes "none vga=0x1F")) (Some [])
    (typing (codes "a b" ++ newline ++ codes "a b" ++ newline ++ codes "linux" ++ newline ++ codes "x vga=0x1F quiet" ++ newline ++ codes "linux single single lock" ++ newline ++ codes "lock" ++ newline))
    ≡ expected (Some (chosen 2 [] false None))
    (codes "boot: a b" ++ newline ++ codes "No such image." ++ newline ++ codes "boot: a b" ++ newline ++ codes "No such image." ++ newline ++ codes "boot: linux" ++ newline)
    (Kept (codes "linux quiet single vga=5")) (typing (codes "x vga=0x1F quiet" ++ newline ++ codes "linux single single lock" ++ newline ++ codes "lock" ++ newline))
    (Some (opened [] (typing (codes " b" ++ newline ++ codes "a b" ++ newline ++ codes "linux" ++ newline ++ codes "x vga=0x1F quiet" ++ newline ++ codes "linux single single lock" ++ newline ++ codes "lock" ++ newline))))
unfolding words_of meaning course_of
drawn_082 = refl

-- drawn at random: an automatic choice, a new default line
drawn_083 : answers (settings true 2 (Some 0) 1 470)
    (listed (codes "old") None false false None ∷ listed (codes "linux") (Some (codes "tux")) true false (Some (codes "none vga= vga=0x1F")) ∷ [])
    (Once (codes "none lock")) None
    []
    ≡ expected (Some (chosen 1 [] true None))
    (codes "boot: " ++ newline)
    (Kept (codes "none vga= vga=0x1F")) []
    (Some (opened [] []))
unfolding words_of meaning course_of
drawn_083 = refl

-- drawn at random: nothing is chosen
drawn_084 : answers (settings true 0 None 0 255)
    (listed (codes "a1") (Some (codes "tux")) false true None ∷ listed (codes "linux") None false true None ∷ [])
    Empty (Some (codes "boot: "))
    []
    ≡ expected None
    (codes "boot: boot: ")
    Empty []
    (Some (opened [] []))
unfolding words_of meaning course_of
drawn_084 = refl

-- drawn at random: an automatic choice, no prompt, a new default line, keys are left
drawn_085 : answers (settings false 0 None 1 470)
    (listed (codes "linux") None false false (Some (codes "x")) ∷ listed (codes "x") None false true None ∷ [])
    Empty None
    (waiting 600 ++ typing (codes "x" ++ newline ++ codes "none vga=bad" ++ (13 ∷ [])))
    ≡ expected (Some (chosen 1 [] true None))
    []
    (Kept (codes "x")) (waiting 600 ++ typing (codes "x" ++ newline ++ codes "none vga=bad" ++ (13 ∷ [])))
    None
unfolding words_of meaning course_of
drawn_085 = refl

-- drawn at random: nothing is chosen
drawn_086 : answers (settings true 1 None 1 5)
    (listed (codes "old") None false false None ∷ listed (codes "lock") (Some (codes "abc")) true false (Some (codes "lock vga=")) ∷ listed (codes "dos") None false false (Some []) ∷ [])
    (Kept (codes "old vga=normal vga=bad")) (Some (codes "Hello" ++ newline))
    (typing ((8 ∷ []) ++ (8 ∷ [])))
    ≡ expected None
    (codes "Hello" ++ newline ++ codes "boot: ")
    (Kept (codes "old vga=normal vga=bad")) []
    (Some (opened [] (typing (8 ∷ []))))
unfolding words_of meaning course_of
drawn_086 = refl

-- drawn at random: nothing is chosen, 1 unknown name
drawn_087 : answers (settings true 0 (Some 4) 3 12)
    (listed (codes "rescue") (Some (codes "tux")) true false None ∷ listed (codes "old") (Some (codes "tux")) false true None ∷ listed (codes "x") None false false (Some []) ∷ listed (codes "linux") None false false (Some (codes "x")) ∷ [])
    Empty None
    (typing ((200 ∷ []) ++ codes "  " ++ (63 ∷ []) ++ (63 ∷ []) ++ codes "rescue" ++ newline ++ (63 ∷ [])))
    ≡ expected None
    (codes "boot:   " ++ (63 ∷ []) ++ (63 ∷ []) ++ codes "rescue" ++ newline ++ codes "No such image." ++ newline ++ codes "boot: " ++ newline ++ codes "rescue" ++ newline ++ codes "old" ++ newline ++ codes "x" ++ newline ++ codes "linux" ++ newline ++ codes "boot: ")
    Empty []
    (Some (opened [] (typing ((200 ∷ []) ++ codes "  " ++ (63 ∷ []) ++ (63 ∷ []) ++ codes "rescue" ++ newline ++ (63 ∷ [])))))
unfolding words_of meaning course_of
drawn_087 = refl

-- drawn at random: nothing is chosen, 1 question
drawn_088 : answers (settings true 0 (Some 9) 1 5)
    (listed (codes "x") (Some (replicate 31 112)) false false None ∷ listed (codes "lock") (Some []) false false None ∷ [])
    (Once (codes "lock")) (Some [])
    []
    ≡ expected None
    (codes "Password: " ++ newline ++ codes "boot: ")
    (Once (codes "lock")) []
    (Some (opened (codes "Password: " ++ newline) []))
unfolding words_of meaning course_of
drawn_088 = refl

-- drawn at random: an automatic choice, no prompt, a new default line, keys are left
drawn_089 : answers (settings false 0 (Some 1) 1 255)
    (listed (codes "a1") (Some (codes "a b")) true false (Some []) ∷ listed (codes "old") None false false None ∷ listed (codes "dos") (Some (codes "tux")) true false (Some (codes "a1")) ∷ listed (codes "lock") None false false None ∷ [])
    (Kept (codes "dos vga=65536 vga=65536")) (Some [])
    (typing (codes "none" ++ (21 ∷ []) ++ codes "old lock root=/dev/hda1" ++ newline ++ codes "a b" ++ newline))
    ≡ expected (Some (chosen 2 [] true None))
    []
    (Kept (codes "a1")) (typing (codes "none" ++ (21 ∷ []) ++ codes "old lock root=/dev/hda1" ++ newline ++ codes "a b" ++ newline))
    None
unfolding words_of meaning course_of
drawn_089 = refl

-- drawn at random: nothing is chosen, 1 unknown name
drawn_090 : answers (settings false 5 None 0 470)
    (listed (codes "lock") None false false None ∷ listed (codes "old") (Some (codes "tux")) true false None ∷ [])
    (Once (codes "a vga=normal")) None
    (typing ((8 ∷ []) ++ (8 ∷ []) ++ (8 ∷ []) ++ (8 ∷ []) ++ (8 ∷ []) ++ codes "tux" ++ newline ++ (21 ∷ []) ++ codes "none"))
    ≡ expected None
    (codes "boot: tux" ++ newline ++ codes "No such image." ++ newline ++ codes "boot: " ++ newline ++ codes "boot: none")
    (Once (codes "a vga=normal")) []
    (Some (opened [] (typing ((8 ∷ []) ++ (8 ∷ []) ++ (8 ∷ []) ++ (8 ∷ []) ++ codes "tux" ++ newline ++ (21 ∷ []) ++ codes "none"))))
unfolding words_of meaning course_of
drawn_090 = refl

-- drawn at random: an automatic choice, no prompt
drawn_091 : answers (settings true 2 (Some 9) 1 12)
    (listed (codes "rescue") None false true None ∷ listed (codes "linux") (Some (codes "abc")) true true None ∷ [])
    (Kept (codes "rescue a a")) (Some [])
    []
    ≡ expected (Some (chosen 0 (codes "a a") true None))
    []
    (Kept (codes "rescue a a")) []
    None
unfolding words_of meaning course_of
drawn_091 = refl

-- drawn at random: an automatic choice, no prompt, keys are left
drawn_092 : answers (settings false 0 (Some 4) 0 255)
    (listed (codes "old") (Some (codes "abc")) true false None ∷ [])
    Empty (Some (codes "Hello" ++ newline))
    (typing (codes "abc" ++ newline) ++ waiting 3 ++ typing (codes "old vga=ask ro" ++ newline ++ codes "old" ++ newline) ++ waiting 11 ++ typing newline ++ waiting 3)
    ≡ expected (Some (chosen 0 [] true None))
    []
    Empty (typing (codes "abc" ++ newline) ++ waiting 3 ++ typing (codes "old vga=ask ro" ++ newline ++ codes "old" ++ newline) ++ waiting 11 ++ typing newline ++ waiting 3)
    None
unfolding words_of meaning course_of
drawn_092 = refl

-- drawn at random: nothing is chosen, 2 questions, 2 wrong, 1 unknown name
drawn_093 : answers (settings true 8 (Some 1) 1 255)
    (listed (codes "rescue") (Some (replicate 31 112)) false false (Some []) ∷ listed (codes "x") (Some (replicate 31 112)) false false None ∷ [])
    Empty (Some [])
    (typing (8 ∷ []) ++ waiting 9 ++ typing (codes "rescue single vga=bad single" ++ newline ++ codes "none" ++ (13 ∷ []) ++ (11 ∷ []) ++ (63 ∷ [])) ++ waiting 601 ++ typing (codes "rescue " ++ (63 ∷ []) ++ codes " vga=bad" ++ (13 ∷ []) ++ codes "rescue vga=bad" ++ newline) ++ waiting 599 ++ typing (codes "x" ++ newline))
    ≡ expected None
    (codes "boot: rescue single vga=bad single" ++ newline ++ codes "Password: " ++ newline ++ codes "Sorry." ++ newline ++ codes "boot: " ++ (63 ∷ []) ++ codes "rescue " ++ (63 ∷ []) ++ codes " vga=bad" ++ newline ++ codes "No such image." ++ newline ++ codes "boot: rescue vga=bad" ++ newline ++ codes "Password: " ++ newline ++ codes "Sorry." ++ newline ++ codes "boot: ")
    Empty []
    (Some (opened [] (typing (8 ∷ []) ++ waiting 9 ++ typing (codes "rescue single vga=bad single" ++ newline ++ codes "none" ++ (13 ∷ []) ++ (11 ∷ []) ++ (63 ∷ [])) ++ waiting 601 ++ typing (codes "rescue " ++ (63 ∷ []) ++ codes " vga=bad" ++ (13 ∷ []) ++ codes "rescue vga=bad" ++ newline) ++ waiting 599 ++ typing (codes "x" ++ newline))))
unfolding words_of meaning course_of
drawn_093 = refl

-- drawn at random: a typed choice, a new default line, keys are left
drawn_094 : answers (settings false 3 (Some 9) 1 255)
    (listed (codes "a1") None false false None ∷ listed (codes "dos") None false false (Some (codes "dos vga=bad")) ∷ [])
    Empty (Some [])
    (typing (codes "dos lock root=/dev/hda1 vga=normal" ++ newline ++ codes "dos" ++ newline ++ codes "a1 vga=bad" ++ (8 ∷ []) ++ (8 ∷ [])) ++ waiting 1 ++ typing ((9 ∷ []) ++ (8 ∷ []) ++ (8 ∷ []) ++ (8 ∷ []) ++ (8 ∷ []) ++ (8 ∷ []) ++ codes "dos" ++ newline))
    ≡ expected (Some (chosen 1 (codes "root=/dev/hda1") false (Some 65535)))
    (codes "boot: dos lock root=/dev/hda1 vga=normal" ++ newline)
    (Kept (codes "dos root=/dev/hda1 vga=normal")) (typing (codes "dos" ++ newline ++ codes "a1 vga=bad" ++ (8 ∷ []) ++ (8 ∷ [])) ++ waiting 1 ++ typing ((9 ∷ []) ++ (8 ∷ []) ++ (8 ∷ []) ++ (8 ∷ []) ++ (8 ∷ []) ++ (8 ∷ []) ++ codes "dos" ++ newline))
    (Some (opened [] (typing (codes "os lock root=/dev/hda1 vga=normal" ++ newline ++ codes "dos" ++ newline ++ codes "a1 vga=bad" ++ (8 ∷ []) ++ (8 ∷ [])) ++ waiting 1 ++ typing ((9 ∷ []) ++ (8 ∷ []) ++ (8 ∷ []) ++ (8 ∷ []) ++ (8 ∷ []) ++ (8 ∷ []) ++ codes "dos" ++ newline))))
unfolding words_of meaning course_of
drawn_094 = refl

-- drawn at random: nothing is chosen, 1 unknown name
drawn_095 : answers (settings true 8 (Some 2) 2 255)
    (listed (codes "lock") None false false None ∷ listed (codes "rescue") None false false None ∷ listed (codes "old") None false false (Some []) ∷ [])
    Empty (Some (codes "Hello" ++ newline))
    (typing (codes "none" ++ newline) ++ waiting 9)
    ≡ expected None
    (codes "Hello" ++ newline ++ codes "boot: none" ++ newline ++ codes "No such image." ++ newline ++ codes "boot: ")
    Empty []
    (Some (opened [] (typing (codes "none" ++ newline) ++ waiting 9)))
unfolding words_of meaning course_of
drawn_095 = refl

-- drawn at random: nothing is chosen, 1 question
drawn_096 : answers (settings true 3 (Some 2) 2 470)
    (listed (codes "x") (Some (codes "abc")) false false None ∷ listed (codes "dos") (Some (codes "secret")) false false None ∷ listed (codes "linux") None false false None ∷ listed (codes "lock") (Some (codes "secret")) false false (Some []) ∷ [])
    Empty (Some [])
    (typing (codes "x vga=bad vga=ask" ++ newline))
    ≡ expected None
    (codes "boot: x vga=bad vga=ask" ++ newline ++ codes "Password: " ++ newline ++ codes "boot: ")
    Empty []
    (Some (opened [] (typing (codes "x vga=bad vga=ask" ++ newline))))
unfolding words_of meaning course_of
drawn_096 = refl

-- drawn at random: nothing is chosen, 2 questions, 2 wrong
drawn_097 : answers (settings false 0 (Some 9) 0 255)
    (listed (codes "old") (Some (codes "secret")) false false None ∷ [])
    (Once (codes "old vga= " ++ (63 ∷ []) ++ codes " lock")) (Some (codes "Hello" ++ newline))
    (typing ((127 ∷ []) ++ (127 ∷ []) ++ codes "a b" ++ newline ++ newline ++ codes "quiet ro vga=65536 " ++ (63 ∷ []) ++ (13 ∷ [])))
    ≡ expected None
    (codes "Password: " ++ newline ++ codes "Sorry." ++ newline ++ codes "Hello" ++ newline ++ codes "boot: " ++ newline ++ codes "Password: " ++ newline ++ codes "Sorry." ++ newline ++ codes "boot: ")
    (Once (codes "old vga= " ++ (63 ∷ []) ++ codes " lock")) []
    (Some (opened (codes "Password: " ++ newline ++ codes "Sorry." ++ newline) (typing (newline ++ codes "quiet ro vga=65536 " ++ (63 ∷ []) ++ (13 ∷ [])))))
unfolding words_of meaning course_of
drawn_097 = refl

-- drawn at random: an automatic choice, a new default line, keys are left
drawn_098 : answers (settings true 5 (Some 0) 0 255)
    (listed (codes "dos") None false false None ∷ listed (codes "rescue") (Some []) true false None ∷ listed (codes "x") None false false (Some []) ∷ listed (codes "lock") None false false (Some (codes "dos vga=65536 vga=bad")) ∷ [])
    (Once (codes "vga=5 vga= lock " ++ (63 ∷ []))) (Some (codes "boot: "))
    (typing ((9 ∷ []) ++ codes "rescue vga=65536 ro quiet" ++ (13 ∷ []) ++ codes "x" ++ newline))
    ≡ expected (Some (chosen 0 [] true None))
    (codes "boot: boot: " ++ newline)
    Empty (typing ((9 ∷ []) ++ codes "rescue vga=65536 ro quiet" ++ (13 ∷ []) ++ codes "x" ++ newline))
    (Some (opened [] (typing ((9 ∷ []) ++ codes "rescue vga=65536 ro quiet" ++ (13 ∷ []) ++ codes "x" ++ newline))))
unfolding words_of meaning course_of
drawn_098 = refl

-- drawn at random: an automatic choice, no prompt
drawn_099 : answers (settings false 3 (Some 0) 0 255)
    (listed (codes "dos") (Some (codes "tux")) true false (Some []) ∷ listed (codes "rescue") (Some (codes "a b")) false true None ∷ listed (codes "old") None false false None ∷ [])
    (Kept (codes "old")) (Some (codes "boot: "))
    []
    ≡ expected (Some (chosen 2 [] true None))
    []
    (Kept (codes "old")) []
    None
unfolding words_of meaning course_of
drawn_099 = refl

-- drawn at random: a typed choice, a new default line, keys are left
drawn_100 : answers (settings true 5 (Some 4) 0 12)
    (listed (codes "lock") None false false (Some (codes "linux vga=")) ∷ listed (codes "a1") None false false None ∷ listed (codes "old") (Some (codes "a b")) true false None ∷ listed (codes "linux") None false true None ∷ [])
    Empty None
    (typing (codes "lock" ++ newline ++ newline) ++ waiting 2)
    ≡ expected (Some (chosen 0 [] false None))
    (codes "boot: lock" ++ newline)
    (Kept (codes "linux vga=")) (typing newline ++ waiting 2)
    (Some (opened [] (typing (codes "lock" ++ newline ++ newline) ++ waiting 2)))
unfolding words_of meaning course_of
drawn_100 = refl

-- drawn at random: nothing is chosen
drawn_101 : answers (settings true 5 None 1 470)
    (listed (codes "a1") None false false None ∷ listed (codes "rescue") (Some []) true false None ∷ [])
    Empty (Some (codes "boot: "))
    []
    ≡ expected None
    (codes "boot: boot: ")
    Empty []
    (Some (opened [] []))
unfolding words_of meaning course_of
drawn_101 = refl

-- drawn at random: a typed choice
drawn_102 : answers (settings true 0 (Some 1) 1 255)
    (listed (codes "x") None false false (Some []) ∷ listed (codes "linux") (Some (codes "secret")) true false None ∷ [])
    Empty (Some [])
    (typing ((21 ∷ []) ++ codes "x ro" ++ newline))
    ≡ expected (Some (chosen 0 (codes "ro") false None))
    (codes "boot: " ++ newline ++ codes "boot: x ro" ++ newline)
    Empty []
    (Some (opened [] (typing ((21 ∷ []) ++ codes "x ro" ++ newline))))
unfolding words_of meaning course_of
drawn_102 = refl

-- drawn at random: nothing is chosen, 1 question
drawn_103 : answers (settings true 0 None 1 12)
    (listed (codes "rescue") None false false None ∷ listed (codes "x") None false false (Some (codes "none vga=bad vga=ask")) ∷ listed (codes "old") (Some (codes "secret")) false false (Some (codes "a")) ∷ [])
    (Kept (codes "old " ++ (63 ∷ []))) (Some (codes "Hello" ++ newline))
    (waiting 9 ++ typing ((127 ∷ []) ++ (127 ∷ [])))
    ≡ expected None
    (codes "Password: " ++ newline ++ codes "Hello" ++ newline ++ codes "boot: ")
    (Kept (codes "old " ++ (63 ∷ []))) []
    (Some (opened (codes "Password: " ++ newline) []))
unfolding words_of meaning course_of
drawn_103 = refl

-- drawn at random: an automatic choice, keys are left
drawn_104 : answers (settings true 3 (Some 0) 0 255)
    (listed (codes "dos") None false false None ∷ listed (codes "rescue") None false false (Some []) ∷ [])
    Empty (Some [])
    (typing (codes "none" ++ newline ++ codes "a b" ++ newline))
    ≡ expected (Some (chosen 0 [] true None))
    (codes "boot: " ++ newline)
    Empty (typing (codes "none" ++ newline ++ codes "a b" ++ newline))
    (Some (opened [] (typing (codes "none" ++ newline ++ codes "a b" ++ newline))))
unfolding words_of meaning course_of
drawn_104 = refl

-- drawn at random: an automatic choice, no prompt
drawn_105 : answers (settings true 2 (Some 4) 1 255)
    (listed (codes "linux") None false false None ∷ listed (codes "x") (Some []) false false None ∷ [])
    (Kept (codes "linux vga=bad")) (Some (codes "boot: "))
    []
    ≡ expected (Some (chosen 0 [] true None))
    []
    (Kept (codes "linux vga=bad")) []
    None
unfolding words_of meaning course_of
drawn_105 = refl

-- drawn at random: a typed choice, a new default line, keys are left
drawn_106 : answers (settings false 2 None 0 12)
    (listed (codes "a1") None false false None ∷ listed (codes "rescue") None false false (Some (codes "ro vga=")) ∷ listed (codes "lock") None false false None ∷ [])
    Empty None
    (typing (codes "rescue" ++ newline ++ (127 ∷ []) ++ (21 ∷ []) ++ (21 ∷ []) ++ codes "abc" ++ newline ++ codes "abc" ++ newline ++ codes "rescue lock" ++ newline ++ (127 ∷ []) ++ (127 ∷ []) ++ (127 ∷ []) ++ (127 ∷ []) ++ (127 ∷ []) ++ codes "lock vga=65536 vga=bad" ++ newline ++ codes "lock" ++ newline ++ codes "none vga=0x1F vga=65536" ++ newline))
    ≡ expected (Some (chosen 1 [] false None))
    (codes "boot: rescue" ++ newline)
    (Kept (codes "ro vga=")) (typing ((127 ∷ []) ++ (21 ∷ []) ++ (21 ∷ []) ++ codes "abc" ++ newline ++ codes "abc" ++ newline ++ codes "rescue lock" ++ newline ++ (127 ∷ []) ++ (127 ∷ []) ++ (127 ∷ []) ++ (127 ∷ []) ++ (127 ∷ []) ++ codes "lock vga=65536 vga=bad" ++ newline ++ codes "lock" ++ newline ++ codes "none vga=0x1F vga=65536" ++ newline))
    (Some (opened [] (typing (codes "escue" ++ newline ++ (127 ∷ []) ++ (21 ∷ []) ++ (21 ∷ []) ++ codes "abc" ++ newline ++ codes "abc" ++ newline ++ codes "rescue lock" ++ newline ++ (127 ∷ []) ++ (127 ∷ []) ++ (127 ∷ []) ++ (127 ∷ []) ++ (127 ∷ []) ++ codes "lock vga=65536 vga=bad" ++ newline ++ codes "lock" ++ newline ++ codes "none vga=0x1F vga=65536" ++ newline))))
unfolding words_of meaning course_of
drawn_106 = refl

-- drawn at random: nothing is chosen, 1 question, 1 wrong, 2 unknown names
drawn_107 : answers (settings true 2 (Some 1) 0 255)
    (listed (codes "old") (Some (codes "secret")) false false None ∷ listed (codes "dos") None false false (Some []) ∷ listed (codes "rescue") (Some (codes "secret")) false false None ∷ listed (codes "x") (Some (codes "secret")) true false None ∷ [])
    (Once (codes "x vga=ask")) (Some [])
    (typing (codes "rescue single vga=ask vga=65536" ++ newline) ++ waiting 9 ++ typing (codes "x vga=0x1F " ++ (63 ∷ []) ++ newline ++ codes "  none" ++ newline ++ replicate 31 112 ++ newline))
    ≡ expected None
    (codes "boot: rescue single vga=ask vga=65536" ++ newline ++ codes "Password: " ++ newline ++ codes "Sorry." ++ newline ++ codes "boot:   none" ++ newline ++ codes "No such image." ++ newline ++ codes "boot: " ++ replicate 31 112 ++ newline ++ codes "No such image." ++ newline ++ codes "boot: ")
    (Once (codes "x vga=ask")) []
    (Some (opened [] (typing (codes "escue single vga=ask vga=65536" ++ newline) ++ waiting 9 ++ typing (codes "x vga=0x1F " ++ (63 ∷ []) ++ newline ++ codes "  none" ++ newline ++ replicate 31 112 ++ newline))))
unfolding words_of meaning course_of
drawn_107 = refl

-- drawn at random: an automatic choice, no prompt, a new default line, keys are left
drawn_108 : answers (settings false 0 None 0 255)
    (listed (codes "old") None false false (Some (codes "single")) ∷ listed (codes "dos") None false false (Some (codes "none")) ∷ [])
    Empty (Some (codes "Hello" ++ newline))
    (typing ((8 ∷ []) ++ (8 ∷ []) ++ (8 ∷ []) ++ (8 ∷ []) ++ (8 ∷ []) ++ codes "tux" ++ newline ++ codes "old vga=65536 ro" ++ newline) ++ waiting 2 ++ typing (codes "none root=/dev/hda1" ++ newline) ++ waiting 3)
    ≡ expected (Some (chosen 0 [] true None))
    []
    (Kept (codes "single")) (typing ((8 ∷ []) ++ (8 ∷ []) ++ (8 ∷ []) ++ (8 ∷ []) ++ (8 ∷ []) ++ codes "tux" ++ newline ++ codes "old vga=65536 ro" ++ newline) ++ waiting 2 ++ typing (codes "none root=/dev/hda1" ++ newline) ++ waiting 3)
    None
unfolding words_of meaning course_of
drawn_108 = refl

-- drawn at random: nothing is chosen
drawn_109 : answers (settings true 0 (Some 2) 1 255)
    (listed (codes "x") None false false None ∷ listed (codes "rescue") None false false (Some (codes "a1")) ∷ listed (codes "a1") (Some (codes "a b")) true false None ∷ [])
    (Once (codes "none a a " ++ (63 ∷ []))) None
    (typing (7 ∷ []))
    ≡ expected None
    (codes "boot: ")
    (Once (codes "none a a " ++ (63 ∷ []))) []
    (Some (opened [] (typing (7 ∷ []))))
unfolding words_of meaning course_of
drawn_109 = refl

-- drawn at random: a typed choice, 1 question, a new default line, keys are left
drawn_110 : answers (settings true 3 (Some 0) 0 12)
    (listed (codes "rescue") (Some (codes "secret")) false false None ∷ listed (codes "old") None false true None ∷ [])
    (Once (codes "old single ro vga=normal")) None
    (typing (codes "rescue" ++ newline ++ codes "secret" ++ newline ++ codes "secret" ++ newline ++ (9 ∷ []) ++ codes "rescue" ++ newline ++ codes "rescue" ++ newline ++ codes "abc" ++ newline ++ codes "old" ++ newline ++ codes "  old vga=normal") ++ waiting 5)
    ≡ expected (Some (chosen 0 [] false None))
    (codes "boot: rescue" ++ newline ++ codes "Password: " ++ newline)
    Empty (typing (codes "secret" ++ newline ++ (9 ∷ []) ++ codes "rescue" ++ newline ++ codes "rescue" ++ newline ++ codes "abc" ++ newline ++ codes "old" ++ newline ++ codes "  old vga=normal") ++ waiting 5)
    (Some (opened [] (typing (codes "escue" ++ newline ++ codes "secret" ++ newline ++ codes "secret" ++ newline ++ (9 ∷ []) ++ codes "rescue" ++ newline ++ codes "rescue" ++ newline ++ codes "abc" ++ newline ++ codes "old" ++ newline ++ codes "  old vga=normal") ++ waiting 5)))
unfolding words_of meaning course_of
drawn_110 = refl

-- drawn at random: a typed choice, 1 unknown name, keys are left
drawn_111 : answers (settings true 8 None 0 255)
    (listed (codes "rescue") None false false None ∷ [])
    Empty None
    (typing (codes "none" ++ (13 ∷ []) ++ newline) ++ waiting 600 ++ typing (codes "  "))
    ≡ expected (Some (chosen 0 [] false None))
    (codes "boot: none" ++ newline ++ codes "No such image." ++ newline ++ codes "boot: " ++ newline)
    Empty (waiting 600 ++ typing (codes "  "))
    (Some (opened [] (typing (codes "none" ++ (13 ∷ []) ++ newline) ++ waiting 600 ++ typing (codes "  "))))
unfolding words_of meaning course_of
drawn_111 = refl

-- drawn at random: an automatic choice, no prompt, a new default line, keys are left
drawn_112 : answers (settings false 0 (Some 9) 1 255)
    (listed (codes "lock") (Some (codes "tux")) false false None ∷ listed (codes "old") None false false (Some (codes "lock a")) ∷ listed (codes "a1") None false false (Some []) ∷ listed (codes "rescue") (Some (codes "secret")) false false None ∷ [])
    Empty None
    (typing (codes "none vga=normal vga=bad vga=5" ++ newline ++ newline ++ (7 ∷ []) ++ (9 ∷ [])) ++ waiting 2 ++ typing (21 ∷ []))
    ≡ expected (Some (chosen 1 [] true None))
    []
    (Kept (codes "lock a")) (typing (codes "none vga=normal vga=bad vga=5" ++ newline ++ newline ++ (7 ∷ []) ++ (9 ∷ [])) ++ waiting 2 ++ typing (21 ∷ []))
    None
unfolding words_of meaning course_of
drawn_112 = refl

-- drawn at random: a typed choice, a new default line
drawn_113 : answers (settings true 0 (Some 9) 0 255)
    (listed (codes "dos") None false false None ∷ [])
    (Once (codes "none vga=normal")) (Some (codes "Hello" ++ newline))
    (waiting 3 ++ typing (codes "dos root=/dev/hda1" ++ (13 ∷ [])))
    ≡ expected (Some (chosen 0 (codes "root=/dev/hda1") false None))
    (codes "Hello" ++ newline ++ codes "boot: dos root=/dev/hda1" ++ newline)
    Empty []
    (Some (opened [] (waiting 3 ++ typing (codes "dos root=/dev/hda1" ++ (13 ∷ [])))))
unfolding words_of meaning course_of
drawn_113 = refl

-- drawn at random: nothing is chosen, 3 questions, 2 wrong
drawn_114 : answers (settings false 5 (Some 4) 3 255)
    (listed (codes "x") (Some (replicate 31 112)) false false None ∷ listed (codes "rescue") (Some (codes "secret")) false false (Some []) ∷ listed (codes "a1") (Some (codes "secret")) true false (Some []) ∷ listed (codes "dos") (Some (codes "secret")) false false (Some []) ∷ [])
    Empty None
    (typing (codes "rescue vga=0x1Fa1 root=/dev/hda1 vga=5" ++ newline ++ codes "rescue ro" ++ newline ++ codes "rescue" ++ newline) ++ waiting 598 ++ typing (codes "a1 single" ++ newline ++ codes "a1 root=/dev/hda1" ++ newline))
    ≡ expected None
    (codes "boot: rescue vga=0x1Fa1 root=/dev/hda1 vga=5" ++ newline ++ codes "Password: " ++ newline ++ codes "Sorry." ++ newline ++ codes "boot: rescue" ++ newline ++ codes "Password: " ++ newline ++ codes "Sorry." ++ newline ++ codes "boot: a1 root=/dev/hda1" ++ newline ++ codes "Password: " ++ newline ++ codes "boot: ")
    Empty []
    (Some (opened [] (typing (codes "escue vga=0x1Fa1 root=/dev/hda1 vga=5" ++ newline ++ codes "rescue ro" ++ newline ++ codes "rescue" ++ newline) ++ waiting 598 ++ typing (codes "a1 single" ++ newline ++ codes "a1 root=/dev/hda1" ++ newline))))
unfolding words_of meaning course_of
drawn_114 = refl

-- drawn at random: an automatic choice, keys are left
drawn_115 : answers (settings true 0 (Some 0) 0 255)
    (listed (codes "lock") None false false None ∷ listed (codes "dos") None false false None ∷ [])
    Empty (Some (codes "Hello" ++ newline))
    (typing (codes "vga=65536 " ++ (63 ∷ []) ++ codes " ro vga=65536" ++ (13 ∷ [])))
    ≡ expected (Some (chosen 0 [] true None))
    (codes "Hello" ++ newline ++ codes "boot: " ++ newline)
    Empty (typing (codes "vga=65536 " ++ (63 ∷ []) ++ codes " ro vga=65536" ++ (13 ∷ [])))
    (Some (opened [] (typing (codes "vga=65536 " ++ (63 ∷ []) ++ codes " ro vga=65536" ++ (13 ∷ [])))))
unfolding words_of meaning course_of
drawn_115 = refl

-- drawn at random: nothing is chosen, 1 question
drawn_116 : answers (settings true 1 (Some 9) 0 255)
    (listed (codes "rescue") (Some (codes "tux")) false false None ∷ listed (codes "old") (Some (codes "secret")) false false None ∷ [])
    Empty None
    (typing (newline ++ codes "  " ++ (63 ∷ [])))
    ≡ expected None
    (codes "boot: " ++ newline ++ codes "Password: " ++ newline ++ codes "boot: ")
    Empty []
    (Some (opened [] (typing (newline ++ codes "  " ++ (63 ∷ [])))))
unfolding words_of meaning course_of
drawn_116 = refl

-- drawn at random: an automatic choice, no prompt, keys are left
drawn_117 : answers (settings false 0 None 0 255)
    (listed (codes "rescue") None false false None ∷ listed (codes "old") None false false (Some []) ∷ listed (codes "lock") None false true None ∷ [])
    Empty (Some (codes "Hello" ++ newline))
    (typing ((0 ∷ []) ++ codes "lock a " ++ (63 ∷ []) ++ newline ++ codes "lock" ++ newline ++ codes "rescue single vga=asknone" ++ newline ++ codes "rescue" ++ newline))
    ≡ expected (Some (chosen 0 [] true None))
    []
    Empty (typing ((0 ∷ []) ++ codes "lock a " ++ (63 ∷ []) ++ newline ++ codes "lock" ++ newline ++ codes "rescue single vga=asknone" ++ newline ++ codes "rescue" ++ newline))
    None
unfolding words_of meaning course_of
drawn_117 = refl

-- drawn at random: a typed choice, 1 unknown name, a new default line, keys are left
drawn_118 : answers (settings true 1 None 0 255)
    (listed (codes "lock") (Some (codes "tux")) true true None ∷ listed (codes "dos") None false false None ∷ listed (codes "linux") None false true None ∷ [])
    Empty (Some (codes "boot: "))
    (typing (codes "none vga=bad vga=bad vga=65536" ++ (13 ∷ []) ++ codes "lock" ++ newline ++ codes "linux lock" ++ (13 ∷ []) ++ codes "linux" ++ (13 ∷ [])))
    ≡ expected (Some (chosen 0 [] false None))
    (codes "boot: boot: none vga=bad vga=bad vga=65536" ++ newline ++ codes "No such image." ++ newline ++ codes "boot: lock" ++ newline)
    (Kept (codes "lock")) (typing (codes "linux lock" ++ (13 ∷ []) ++ codes "linux" ++ (13 ∷ [])))
    (Some (opened [] (typing (codes "none vga=bad vga=bad vga=65536" ++ (13 ∷ []) ++ codes "lock" ++ newline ++ codes "linux lock" ++ (13 ∷ []) ++ codes "linux" ++ (13 ∷ [])))))
unfolding words_of meaning course_of
drawn_118 = refl

-- drawn at random: a typed choice, 3 unknown names, a new default line, keys are left
drawn_119 : answers (settings true 2 None 0 5)
    (listed (codes "dos") None false false (Some (codes "none lock")) ∷ [])
    Empty (Some [])
    (typing ((11 ∷ []) ++ codes "abc" ++ newline ++ codes "none vga=ask vga=bad" ++ newline ++ codes "abc" ++ newline ++ (7 ∷ []) ++ (11 ∷ []) ++ codes "dos" ++ newline ++ newline ++ codes "none vga=bad single" ++ newline ++ codes "dos" ++ newline ++ (9 ∷ [])))
    ≡ expected (Some (chosen 0 [] false None))
    (codes "boot: abc" ++ newline ++ codes "No such image." ++ newline ++ codes "boot: none " ++ newline ++ codes "No such image." ++ newline ++ codes "boot: abc" ++ newline ++ codes "No such image." ++ newline ++ codes "boot: dos" ++ newline)
    (Kept (codes "none lock")) (typing (newline ++ codes "none vga=bad single" ++ newline ++ codes "dos" ++ newline ++ (9 ∷ [])))
    (Some (opened [] (typing ((11 ∷ []) ++ codes "abc" ++ newline ++ codes "none vga=ask vga=bad" ++ newline ++ codes "abc" ++ newline ++ (7 ∷ []) ++ (11 ∷ []) ++ codes "dos" ++ newline ++ newline ++ codes "none vga=bad single" ++ newline ++ codes "dos" ++ newline ++ (9 ∷ [])))))
unfolding words_of meaning course_of
drawn_119 = refl

-- drawn at random: nothing is chosen, 1 question, 1 wrong, 1 unknown name
drawn_120 : answers (settings true 3 None 1 255)
    (listed (codes "lock") None false false None ∷ listed (codes "dos") (Some (codes "secret")) false false None ∷ [])
    Empty (Some [])
    (typing (codes "none roabc" ++ newline ++ (9 ∷ []) ++ (127 ∷ []) ++ codes "dos vga=65536" ++ (13 ∷ []) ++ codes "none vga=ask" ++ newline))
    ≡ expected None
    (codes "boot: none roabc" ++ newline ++ codes "No such image." ++ newline ++ codes "boot: " ++ newline ++ codes "lock" ++ newline ++ codes "dos" ++ newline ++ codes "boot: dos vga=65536" ++ newline ++ codes "Password: " ++ newline ++ codes "Sorry." ++ newline ++ codes "boot: ")
    Empty []
    (Some (opened [] (typing (codes "none roabc" ++ newline ++ (9 ∷ []) ++ (127 ∷ []) ++ codes "dos vga=65536" ++ (13 ∷ []) ++ codes "none vga=ask" ++ newline))))
unfolding words_of meaning course_of
drawn_120 = refl

-- drawn at random: a typed choice, 1 unknown name, keys are left
drawn_121 : answers (settings true 0 None 0 12)
    (listed (codes "x") None false false None ∷ listed (codes "a1") None false false None ∷ [])
    Empty None
    (typing ((63 ∷ []) ++ codes "tux" ++ newline ++ newline ++ codes "none vga=0x1F vga= roa1" ++ newline ++ codes "none vga=ask single vga=" ++ newline))
    ≡ expected (Some (chosen 0 [] false None))
    (codes "boot: " ++ newline ++ codes "x" ++ newline ++ codes "a1" ++ newline ++ codes "boot: tux" ++ newline ++ codes "No such image." ++ newline ++ codes "boot: " ++ newline)
    Empty (typing (codes "none vga=0x1F vga= roa1" ++ newline ++ codes "none vga=ask single vga=" ++ newline))
    (Some (opened [] (typing ((63 ∷ []) ++ codes "tux" ++ newline ++ newline ++ codes "none vga=0x1F vga= roa1" ++ newline ++ codes "none vga=ask single vga=" ++ newline))))
unfolding words_of meaning course_of
drawn_121 = refl

-- drawn at random: nothing is chosen, 1 question
drawn_122 : answers (settings true 0 (Some 9) 1 255)
    (listed (codes "x") None false false (Some []) ∷ listed (codes "dos") (Some []) false false None ∷ [])
    (Once (codes "none vga=65536")) None
    (typing (codes "dos" ++ newline))
    ≡ expected None
    (codes "boot: dos" ++ newline ++ codes "Password: " ++ newline ++ codes "boot: ")
    (Once (codes "none vga=65536")) []
    (Some (opened [] (typing (codes "dos" ++ newline))))
unfolding words_of meaning course_of
drawn_122 = refl

-- drawn at random: nothing is chosen, 1 question, 1 wrong, 1 unknown name
drawn_123 : answers (settings false 5 None 0 5)
    (listed (codes "lock") (Some (codes "tux")) false false (Some (codes "none")) ∷ [])
    (Kept (codes "lock vga=5 vga=")) (Some (codes "Hello" ++ newline))
    (typing (codes "lock " ++ (63 ∷ []) ++ codes " a vga=0x1F" ++ newline ++ codes "quiet a" ++ newline ++ codes "none vga=normal" ++ newline))
    ≡ expected None
    (codes "Hello" ++ newline ++ codes "boot: lock " ++ newline ++ codes "Password: " ++ newline ++ codes "Sorry." ++ newline ++ codes "boot: none " ++ newline ++ codes "No such image." ++ newline ++ codes "boot: ")
    (Kept (codes "lock vga=5 vga=")) []
    (Some (opened [] (typing (codes "ock " ++ (63 ∷ []) ++ codes " a vga=0x1F" ++ newline ++ codes "quiet a" ++ newline ++ codes "none vga=normal" ++ newline))))
unfolding words_of meaning course_of
drawn_123 = refl

-- drawn at random: an automatic choice, no prompt, a new default line
drawn_124 : answers (settings false 5 (Some 2) 0 255)
    (listed (codes "a1") (Some []) true true None ∷ listed (codes "rescue") None false false (Some (codes "none vga=bad ro " ++ (63 ∷ []))) ∷ [])
    (Kept (codes "none")) (Some [])
    []
    ≡ expected (Some (chosen 0 [] true None))
    []
    (Kept (codes "a1")) []
    None
unfolding words_of meaning course_of
drawn_124 = refl

-- drawn at random: a typed choice, 2 unknown names, keys are left
drawn_125 : answers (settings true 3 (Some 2) 0 5)
    (listed (codes "linux") None false false (Some []) ∷ [])
    Empty None
    (typing ((21 ∷ []) ++ codes "none vga=bad a" ++ newline ++ (9 ∷ []) ++ codes "secret" ++ newline ++ codes "linux" ++ newline ++ codes "none vga=65536" ++ newline))
    ≡ expected (Some (chosen 0 [] false None))
    (codes "boot: " ++ newline ++ codes "boot: none " ++ newline ++ codes "No such image." ++ newline ++ codes "boot: " ++ newline ++ codes "linux" ++ newline ++ codes "boot: secre" ++ newline ++ codes "No such image." ++ newline ++ codes "boot: linux" ++ newline)
    Empty (typing (codes "none vga=65536" ++ newline))
    (Some (opened [] (typing ((21 ∷ []) ++ codes "none vga=bad a" ++ newline ++ (9 ∷ []) ++ codes "secret" ++ newline ++ codes "linux" ++ newline ++ codes "none vga=65536" ++ newline))))
unfolding words_of meaning course_of
drawn_125 = refl

-- drawn at random: nothing is chosen, 1 question
drawn_126 : answers (settings true 3 (Some 1) 3 255)
    (listed (codes "lock") None false false (Some []) ∷ listed (codes "dos") None false false None ∷ listed (codes "a1") None false false (Some []) ∷ listed (codes "linux") (Some (replicate 31 112)) false false (Some []) ∷ [])
    Empty None
    (typing (codes "linux vga=bad lock" ++ newline ++ (63 ∷ [])))
    ≡ expected None
    (codes "boot: linux vga=bad lock" ++ newline ++ codes "Password: " ++ newline ++ codes "boot: ")
    Empty []
    (Some (opened [] (typing (codes "linux vga=bad lock" ++ newline ++ (63 ∷ [])))))
unfolding words_of meaning course_of
drawn_126 = refl

-- drawn at random: nothing is chosen, 1 question, 1 wrong
drawn_127 : answers (settings true 2 (Some 4) 0 470)
    (listed (codes "a1") None false false (Some []) ∷ listed (codes "dos") (Some (replicate 31 112)) false false (Some (codes "a1")) ∷ [])
    (Once (codes "none vga=bad vga=5 vga=ask")) (Some (codes "Hello" ++ newline))
    (typing (codes "dos vga=ask" ++ newline ++ codes "dos" ++ newline) ++ waiting 650 ++ typing (21 ∷ []))
    ≡ expected None
    (codes "Hello" ++ newline ++ codes "boot: dos vga=ask" ++ newline ++ codes "Password: " ++ newline ++ codes "Sorry." ++ newline ++ codes "boot: " ++ newline ++ codes "boot: ")
    (Once (codes "none vga=bad vga=5 vga=ask")) []
    (Some (opened [] (typing (codes "dos vga=ask" ++ newline ++ codes "dos" ++ newline) ++ waiting 650 ++ typing (21 ∷ []))))
unfolding words_of meaning course_of
drawn_127 = refl

-- drawn at random: a typed choice, 1 question, 1 wrong, a new default line, keys are left
drawn_128 : answers (settings false 2 None 0 12)
    (listed (codes "old") (Some (codes "a b")) true true None ∷ listed (codes "dos") None false false None ∷ listed (codes "rescue") (Some (codes "a b")) false false (Some (codes "old root=/dev/hda1 vga=normal")) ∷ listed (codes "lock") None false false None ∷ [])
    Empty None
    (typing (codes "old " ++ (63 ∷ []) ++ newline ++ (21 ∷ []) ++ (63 ∷ []) ++ codes "ro" ++ (13 ∷ []) ++ newline ++ codes "lock vga=65536 a" ++ newline ++ (11 ∷ []) ++ codes "lock vga=65536 single vga=0x1F" ++ newline))
    ≡ expected (Some (chosen 0 [] false None))
    (codes "boot: old " ++ (63 ∷ []) ++ newline ++ codes "Password: " ++ newline ++ codes "Sorry." ++ newline ++ codes "boot: " ++ newline)
    (Kept (codes "old")) (typing (codes "lock vga=65536 a" ++ newline ++ (11 ∷ []) ++ codes "lock vga=65536 single vga=0x1F" ++ newline))
    (Some (opened [] (typing (codes "ld " ++ (63 ∷ []) ++ newline ++ (21 ∷ []) ++ (63 ∷ []) ++ codes "ro" ++ (13 ∷ []) ++ newline ++ codes "lock vga=65536 a" ++ newline ++ (11 ∷ []) ++ codes "lock vga=65536 single vga=0x1F" ++ newline))))
unfolding words_of meaning course_of
drawn_128 = refl

-- drawn at random: a typed choice, 1 question, 1 wrong, keys are left
drawn_129 : answers (settings true 8 None 2 5)
    (listed (codes "a1") (Some (codes "a b")) false false (Some (codes "none vga=normal single vga=bad")) ∷ listed (codes "x") None false false None ∷ listed (codes "old") None false false (Some []) ∷ [])
    Empty (Some (codes "boot: "))
    (typing (codes "a1 quiet" ++ newline ++ codes "old" ++ newline ++ codes "x a" ++ newline ++ codes "a b" ++ newline ++ codes "a b" ++ newline ++ replicate 31 112 ++ newline ++ codes "a1 a vga=65536 " ++ (63 ∷ []) ++ newline ++ (21 ∷ []) ++ codes "oldold" ++ newline ++ codes "x vga=bad single" ++ newline))
    ≡ expected (Some (chosen 1 (codes "a") false None))
    (codes "boot: boot: a1 qu" ++ newline ++ codes "Password: " ++ newline ++ codes "Sorry." ++ newline ++ codes "boot: x a" ++ newline)
    Empty (typing (codes "a b" ++ newline ++ codes "a b" ++ newline ++ replicate 31 112 ++ newline ++ codes "a1 a vga=65536 " ++ (63 ∷ []) ++ newline ++ (21 ∷ []) ++ codes "oldold" ++ newline ++ codes "x vga=bad single" ++ newline))
    (Some (opened [] (typing (codes "a1 quiet" ++ newline ++ codes "old" ++ newline ++ codes "x a" ++ newline ++ codes "a b" ++ newline ++ codes "a b" ++ newline ++ replicate 31 112 ++ newline ++ codes "a1 a vga=65536 " ++ (63 ∷ []) ++ newline ++ (21 ∷ []) ++ codes "oldold" ++ newline ++ codes "x vga=bad single" ++ newline))))
unfolding words_of meaning course_of
drawn_129 = refl

-- drawn at random: an automatic choice, no prompt, a new default line
drawn_130 : answers (settings false 1 (Some 1) 0 255)
    (listed (codes "rescue") None false true None ∷ listed (codes "linux") (Some []) true false (Some (codes "linux")) ∷ [])
    (Once (codes "linux " ++ (63 ∷ []) ++ codes " vga=65536")) (Some [])
    []
    ≡ expected (Some (chosen 1 (63 ∷ []) true None))
    []
    (Kept (codes "linux")) []
    None
unfolding words_of meaning course_of
drawn_130 = refl

-- drawn at random: nothing is chosen, 2 questions, 1 wrong, 3 unknown names
drawn_131 : answers (settings true 8 (Some 9) 0 470)
    (listed (codes "rescue") (Some (codes "secret")) false false (Some []) ∷ [])
    (Kept (codes "rescue quiet vga=5 quiet")) (Some (codes "boot: "))
    (typing (codes "ronone vga=" ++ newline) ++ waiting 1 ++ typing (codes "secret" ++ newline ++ (63 ∷ []) ++ codes "rescue vga=65536rescue" ++ newline ++ (21 ∷ []) ++ newline ++ codes "none single " ++ (63 ∷ []) ++ codes " quiet" ++ (13 ∷ []) ++ codes "rescue vga=" ++ newline))
    ≡ expected None
    (codes "boot: boot: ronone vga=" ++ newline ++ codes "No such image." ++ newline ++ codes "boot: secret" ++ newline ++ codes "No such image." ++ newline ++ codes "boot: " ++ newline ++ codes "rescue" ++ newline ++ codes "boot: rescue vga=65536rescue" ++ newline ++ codes "Password: " ++ newline ++ codes "Sorry." ++ newline ++ codes "boot: none single " ++ (63 ∷ []) ++ codes " quiet" ++ newline ++ codes "No such image." ++ newline ++ codes "boot: rescue vga=" ++ newline ++ codes "Password: " ++ newline ++ codes "boot: ")
    (Kept (codes "rescue quiet vga=5 quiet")) []
    (Some (opened [] (typing (codes "onone vga=" ++ newline) ++ waiting 1 ++ typing (codes "secret" ++ newline ++ (63 ∷ []) ++ codes "rescue vga=65536rescue" ++ newline ++ (21 ∷ []) ++ newline ++ codes "none single " ++ (63 ∷ []) ++ codes " quiet" ++ (13 ∷ []) ++ codes "rescue vga=" ++ newline))))
unfolding words_of meaning course_of
drawn_131 = refl

-- drawn at random: nothing is chosen, 1 question
drawn_132 : answers (settings false 5 (Some 4) 1 255)
    (listed (codes "a1") (Some (replicate 31 112)) false false None ∷ listed (codes "lock") (Some (codes "a b")) false false None ∷ [])
    (Once (codes "lock")) (Some (codes "boot: "))
    (typing (codes "a1 vga=65536 " ++ (63 ∷ []) ++ (13 ∷ [])))
    ≡ expected None
    (codes "boot: boot: a1 vga=65536 " ++ (63 ∷ []) ++ newline ++ codes "Password: " ++ newline ++ codes "boot: ")
    (Once (codes "lock")) []
    (Some (opened [] (typing (codes "1 vga=65536 " ++ (63 ∷ []) ++ (13 ∷ [])))))
unfolding words_of meaning course_of
drawn_132 = refl

-- drawn at random: a typed choice, 1 question, 1 wrong, keys are left
drawn_133 : answers (settings false 0 (Some 4) 0 255)
    (listed (codes "rescue") (Some (codes "a b")) false false None ∷ listed (codes "dos") None false false None ∷ [])
    (Kept (codes "none vga=")) (Some [])
    (typing (codes "dostux" ++ newline ++ codes "dos vga=65536" ++ newline ++ codes "ro root=/dev/hda1" ++ newline))
    ≡ expected (Some (chosen 1 [] false None))
    (codes "Password: " ++ newline ++ codes "Sorry." ++ newline ++ codes "boot: dos vga=65536" ++ newline)
    (Kept (codes "none vga=")) (typing (codes "ro root=/dev/hda1" ++ newline))
    (Some (opened (codes "Password: " ++ newline ++ codes "Sorry." ++ newline) (typing (codes "dos vga=65536" ++ newline ++ codes "ro root=/dev/hda1" ++ newline))))
unfolding words_of meaning course_of
drawn_133 = refl

-- drawn at random: an automatic choice, no prompt, a new default line
drawn_134 : answers (settings true 0 (Some 0) 1 12)
    (listed (codes "old") None false true None ∷ listed (codes "linux") None false false None ∷ listed (codes "a1") (Some []) false true None ∷ [])
    (Once (codes "linux lock")) None
    []
    ≡ expected (Some (chosen 1 [] true None))
    []
    (Kept (codes "linux")) []
    None
unfolding words_of meaning course_of
drawn_134 = refl

-- drawn at random: a typed choice, 1 unknown name, a new default line, keys are left
drawn_135 : answers (settings true 8 None 0 255)
    (listed (codes "lock") None false false None ∷ listed (codes "linux") None false false (Some []) ∷ [])
    (Once (codes "vga=65536 vga= " ++ (63 ∷ []) ++ codes " single")) (Some (codes "Hello" ++ newline))
    (typing (codes "vga=ask vga= quiet vga=normal" ++ newline ++ newline ++ codes "none quiet single" ++ (13 ∷ [])))
    ≡ expected (Some (chosen 0 [] false None))
    (codes "Hello" ++ newline ++ codes "boot: vga=ask vga= quiet vga=normal" ++ newline ++ codes "No such image." ++ newline ++ codes "boot: " ++ newline)
    Empty (typing (codes "none quiet single" ++ (13 ∷ [])))
    (Some (opened [] (typing (codes "vga=ask vga= quiet vga=normal" ++ newline ++ newline ++ codes "none quiet single" ++ (13 ∷ [])))))
unfolding words_of meaning course_of
drawn_135 = refl

-- drawn at random: a typed choice, 1 question, 1 wrong, 1 unknown name, keys are left
drawn_136 : answers (settings false 0 (Some 9) 1 255)
    (listed (codes "dos") None false false None ∷ listed (codes "lock") (Some (codes "abc")) false false (Some []) ∷ listed (codes "linux") (Some (codes "tux")) true false (Some (codes "lock")) ∷ listed (codes "old") None false false None ∷ [])
    Empty None
    (typing (codes "old " ++ (63 ∷ []) ++ codes " lock vga=bad" ++ newline ++ codes "abc" ++ newline ++ (63 ∷ []) ++ codes "old" ++ (13 ∷ []) ++ (127 ∷ []) ++ codes "single vga=65536 ro ro  vga=0x1F" ++ newline))
    ≡ expected (Some (chosen 3 [] false None))
    (codes "Password: " ++ newline ++ codes "Sorry." ++ newline ++ codes "boot: abc" ++ newline ++ codes "No such image." ++ newline ++ codes "boot: " ++ newline ++ codes "dos" ++ newline ++ codes "lock" ++ newline ++ codes "linux" ++ newline ++ codes "old" ++ newline ++ codes "boot: old" ++ newline)
    Empty (typing ((127 ∷ []) ++ codes "single vga=65536 ro ro  vga=0x1F" ++ newline))
    (Some (opened (codes "Password: " ++ newline ++ codes "Sorry." ++ newline) (typing (codes "abc" ++ newline ++ (63 ∷ []) ++ codes "old" ++ (13 ∷ []) ++ (127 ∷ []) ++ codes "single vga=65536 ro ro  vga=0x1F" ++ newline))))
unfolding words_of meaning course_of
drawn_136 = refl

-- drawn at random: nothing is chosen, 1 question, 1 wrong
drawn_137 : answers (settings false 8 None 3 255)
    (listed (codes "dos") (Some (replicate 31 112)) true false (Some (codes "rescue")) ∷ listed (codes "rescue") (Some (codes "secret")) true false None ∷ listed (codes "linux") (Some (codes "secret")) false false None ∷ listed (codes "lock") None false false None ∷ [])
    Empty (Some (codes "Hello" ++ newline))
    (typing (9 ∷ []) ++ waiting 599 ++ typing (codes "linux single" ++ (13 ∷ []) ++ (127 ∷ []) ++ (127 ∷ []) ++ replicate 31 112 ++ newline) ++ waiting 5)
    ≡ expected None
    (codes "Hello" ++ newline ++ codes "boot: " ++ newline ++ codes "dos" ++ newline ++ codes "rescue" ++ newline ++ codes "linux" ++ newline ++ codes "lock" ++ newline ++ codes "boot: linux single" ++ newline ++ codes "Password: " ++ newline ++ codes "Sorry." ++ newline ++ codes "boot: ")
    Empty []
    (Some (opened [] (waiting 599 ++ typing (codes "linux single" ++ (13 ∷ []) ++ (127 ∷ []) ++ (127 ∷ []) ++ replicate 31 112 ++ newline) ++ waiting 5)))
unfolding words_of meaning course_of
drawn_137 = refl

-- drawn at random: a typed choice, 2 unknown names, keys are left
drawn_138 : answers (settings true 8 (Some 9) 1 255)
    (listed (codes "x") (Some (codes "abc")) false false (Some []) ∷ listed (codes "lock") None false false None ∷ listed (codes "rescue") None false false None ∷ listed (codes "dos") None false false None ∷ [])
    Empty (Some (codes "boot: "))
    (typing (codes "vga=5 vga=0x1F" ++ (13 ∷ []) ++ codes "abc" ++ newline ++ (8 ∷ []) ++ codes "rescue" ++ newline ++ codes "lock vga=bad" ++ newline ++ (8 ∷ []) ++ (8 ∷ [])) ++ waiting 9 ++ typing (codes "lock" ++ (13 ∷ []) ++ codes "x" ++ newline ++ codes "x lock vga=5" ++ newline ++ codes "x" ++ newline))
    ≡ expected (Some (chosen 2 [] false None))
    (codes "boot: boot: vga=5 vga=0x1F" ++ newline ++ codes "No such image." ++ newline ++ codes "boot: abc" ++ newline ++ codes "No such image." ++ newline ++ codes "boot: rescue" ++ newline)
    Empty (typing (codes "lock vga=bad" ++ newline ++ (8 ∷ []) ++ (8 ∷ [])) ++ waiting 9 ++ typing (codes "lock" ++ (13 ∷ []) ++ codes "x" ++ newline ++ codes "x lock vga=5" ++ newline ++ codes "x" ++ newline))
    (Some (opened [] (typing (codes "vga=5 vga=0x1F" ++ (13 ∷ []) ++ codes "abc" ++ newline ++ (8 ∷ []) ++ codes "rescue" ++ newline ++ codes "lock vga=bad" ++ newline ++ (8 ∷ []) ++ (8 ∷ [])) ++ waiting 9 ++ typing (codes "lock" ++ (13 ∷ []) ++ codes "x" ++ newline ++ codes "x lock vga=5" ++ newline ++ codes "x" ++ newline))))
unfolding words_of meaning course_of
drawn_138 = refl

-- drawn at random: an automatic choice, no prompt, a new default line
drawn_139 : answers (settings false 0 (Some 4) 1 470)
    (listed (codes "linux") None false false (Some []) ∷ listed (codes "x") None false true None ∷ listed (codes "a1") None false false None ∷ [])
    (Once (codes "a1 vga=65536 " ++ (63 ∷ []) ++ codes " " ++ (63 ∷ []))) (Some [])
    []
    ≡ expected (Some (chosen 2 ((63 ∷ []) ++ codes " " ++ (63 ∷ [])) true None))
    []
    Empty []
    None
unfolding words_of meaning course_of
drawn_139 = refl

-- drawn at random: an automatic choice, a new default line, keys are left
drawn_140 : answers (settings true 0 (Some 0) 0 255)
    (listed (codes "a1") None false false (Some (codes "old")) ∷ listed (codes "old") None false false None ∷ [])
    Empty None
    (typing (codes "old" ++ newline ++ codes "tux" ++ newline ++ codes "none lock vga=aska b" ++ newline))
    ≡ expected (Some (chosen 0 [] true None))
    (codes "boot: " ++ newline)
    (Kept (codes "old")) (typing (codes "old" ++ newline ++ codes "tux" ++ newline ++ codes "none lock vga=aska b" ++ newline))
    (Some (opened [] (typing (codes "old" ++ newline ++ codes "tux" ++ newline ++ codes "none lock vga=aska b" ++ newline))))
unfolding words_of meaning course_of
drawn_140 = refl

-- drawn at random: nothing is chosen, 1 question, 2 unknown names
drawn_141 : answers (settings false 2 (Some 1) 1 255)
    (listed (codes "lock") None false false (Some (codes "x vga=normal")) ∷ listed (codes "x") (Some (codes "secret")) false false None ∷ [])
    Empty (Some (codes "boot: "))
    (waiting 650 ++ typing (codes "vga=normal" ++ newline ++ codes "secret" ++ newline))
    ≡ expected None
    (codes "Password: " ++ newline ++ codes "boot: boot: vga=normal" ++ newline ++ codes "No such image." ++ newline ++ codes "boot: secret" ++ newline ++ codes "No such image." ++ newline ++ codes "boot: ")
    Empty []
    (Some (opened (codes "Password: " ++ newline) (waiting 48 ++ typing (codes "vga=normal" ++ newline ++ codes "secret" ++ newline))))
unfolding words_of meaning course_of
drawn_141 = refl
