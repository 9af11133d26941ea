-- Cases of the choice at the prompt, part 5; tools/choice_cases.py writes this file.
use Rattle.std.proofs.Common.{◌≡◌, [], ◌∷◌, ◌++◌, replicate, true, false, None, Some, codes, refl}
use Rattle.lilo_model.specs.DefaultLine.{Empty, Once, Kept}
use Rattle.lilo_model.specs.LineEdits.{erasing_text}
use Rattle.lilo_model.specs.LineWords.{words_of, meaning}
use Rattle.lilo_model.specs.Choice.{newline, course_of}
use Rattle.model_cases.specs.Cases.{typing, waiting, settings, listed, chosen, answers, expected, opened}

-- drawn at random: a typed choice, keys are left
drawn_022 : answers (settings true 8 None 0 470)
    (listed (codes "old") None false false None ∷ [])
    Empty None
    (typing (codes "  " ++ (8 ∷ []) ++ (8 ∷ []) ++ (8 ∷ []) ++ (8 ∷ []) ++ (8 ∷ []) ++ newline ++ codes "  "))
    ≡ expected (Some (chosen 0 [] false None))
    (codes "boot:   " ++ erasing_text ++ erasing_text ++ newline)
    Empty (typing (codes "  "))
    (Some (opened [] (typing (codes "  " ++ (8 ∷ []) ++ (8 ∷ []) ++ (8 ∷ []) ++ (8 ∷ []) ++ (8 ∷ []) ++ newline ++ codes "  "))))
unfolding words_of meaning course_of
drawn_022 = refl

-- drawn at random: nothing is chosen, 2 questions, 1 wrong
drawn_023 : answers (settings true 2 (Some 4) 0 12)
    (listed (codes "dos") (Some (codes "secret")) false false (Some []) ∷ [])
    (Once (codes "dos")) None
    (typing (codes "dos vga=ask a" ++ newline ++ codes "vga=65536 ro" ++ newline ++ codes "dos" ++ newline))
    ≡ expected None
    (codes "boot: dos vga=ask " ++ newline ++ codes "Password: " ++ newline ++ codes "Sorry." ++ newline ++ codes "boot: dos" ++ newline ++ codes "Password: " ++ newline ++ codes "boot: ")
    (Once (codes "dos")) []
    (Some (opened [] (typing (codes "os vga=ask a" ++ newline ++ codes "vga=65536 ro" ++ newline ++ codes "dos" ++ newline))))
unfolding words_of meaning course_of
drawn_023 = refl

-- drawn at random: an automatic choice, no prompt, a new default line, keys are left
drawn_024 : answers (settings false 2 None 2 12)
    (listed (codes "old") (Some []) true false None ∷ listed (codes "rescue") (Some (codes "a b")) false false None ∷ listed (codes "dos") None false true None ∷ listed (codes "lock") None false true None ∷ [])
    Empty None
    (waiting 5 ++ typing (codes "none ro " ++ (63 ∷ []) ++ codes " vga=0x1F" ++ newline ++ (127 ∷ [])))
    ≡ expected (Some (chosen 2 [] true None))
    []
    (Kept (codes "dos")) (waiting 3 ++ typing (codes "none ro " ++ (63 ∷ []) ++ codes " vga=0x1F" ++ newline ++ (127 ∷ [])))
    None
unfolding words_of meaning course_of
drawn_024 = refl

-- drawn at random: a typed choice, a new default line, keys are left
drawn_025 : answers (settings true 0 (Some 4) 1 470)
    (listed (codes "a1") None false false None ∷ listed (codes "rescue") None false false None ∷ [])
    (Once (codes "none")) (Some (codes "boot: "))
    (typing ((21 ∷ []) ++ (21 ∷ []) ++ (63 ∷ []) ++ (127 ∷ []) ++ (127 ∷ []) ++ (127 ∷ []) ++ (127 ∷ []) ++ (127 ∷ []) ++ codes "rescue" ++ newline ++ (9 ∷ []) ++ codes "rescuea1" ++ (13 ∷ []) ++ codes "a1a1 vga=5" ++ (13 ∷ []) ++ (21 ∷ [])))
    ≡ expected (Some (chosen 1 [] false None))
    (codes "boot: boot: " ++ newline ++ codes "boot: " ++ newline ++ codes "boot: " ++ newline ++ codes "a1" ++ newline ++ codes "rescue" ++ newline ++ codes "boot: rescue" ++ newline)
    Empty (typing ((9 ∷ []) ++ codes "rescuea1" ++ (13 ∷ []) ++ codes "a1a1 vga=5" ++ (13 ∷ []) ++ (21 ∷ [])))
    (Some (opened [] (typing ((21 ∷ []) ++ (21 ∷ []) ++ (63 ∷ []) ++ (127 ∷ []) ++ (127 ∷ []) ++ (127 ∷ []) ++ (127 ∷ []) ++ (127 ∷ []) ++ codes "rescue" ++ newline ++ (9 ∷ []) ++ codes "rescuea1" ++ (13 ∷ []) ++ codes "a1a1 vga=5" ++ (13 ∷ []) ++ (21 ∷ [])))))
unfolding words_of meaning course_of
drawn_025 = refl

-- drawn at random: a typed choice, 3 questions, 3 wrong, 2 unknown names
drawn_026 : answers (settings false 0 None 2 5)
    (listed (codes "x") (Some (codes "secret")) true false None ∷ listed (codes "lock") None false false None ∷ listed (codes "old") (Some (codes "secret")) false true None ∷ listed (codes "a1") (Some (replicate 31 112)) false true None ∷ [])
    Empty None
    (waiting 2 ++ typing (codes "none " ++ (63 ∷ []) ++ newline ++ codes "a1 vga=normallock vga= vga=bad" ++ newline ++ codes "old" ++ newline ++ codes "x vga=ask ro" ++ (13 ∷ []) ++ replicate 31 112 ++ newline ++ (9 ∷ []) ++ codes "secret" ++ newline ++ replicate 31 112 ++ newline ++ codes "lock" ++ newline))
    ≡ expected (Some (chosen 1 [] false None))
    (codes "Password: " ++ newline ++ codes "Sorry." ++ newline ++ codes "boot: a1 vg" ++ newline ++ codes "Password: " ++ newline ++ codes "Sorry." ++ newline ++ codes "boot: x vga" ++ newline ++ codes "Password: " ++ newline ++ codes "Sorry." ++ newline ++ codes "boot: " ++ newline ++ codes "x" ++ newline ++ codes "lock" ++ newline ++ codes "old" ++ newline ++ codes "a1" ++ newline ++ codes "boot: secre" ++ newline ++ codes "No such image." ++ newline ++ codes "boot: ppppp" ++ newline ++ codes "No such image." ++ newline ++ codes "boot: lock" ++ newline)
    Empty []
    (Some (opened (codes "Password: " ++ newline ++ codes "Sorry." ++ newline) (typing (codes "a1 vga=normallock vga= vga=bad" ++ newline ++ codes "old" ++ newline ++ codes "x vga=ask ro" ++ (13 ∷ []) ++ replicate 31 112 ++ newline ++ (9 ∷ []) ++ codes "secret" ++ newline ++ replicate 31 112 ++ newline ++ codes "lock" ++ newline))))
unfolding words_of meaning course_of
drawn_026 = refl

-- drawn at random: a typed choice, 1 unknown name, a new default line, keys are left
drawn_027 : answers (settings false 5 (Some 4) 0 255)
    (listed (codes "lock") (Some (replicate 31 112)) true false (Some []) ∷ listed (codes "rescue") None false false None ∷ listed (codes "x") None false false None ∷ listed (codes "a1") None false false None ∷ [])
    (Once (codes "x")) (Some [])
    (typing (codes "root=/dev/hda1 " ++ (63 ∷ []) ++ (13 ∷ []) ++ codes "lock vga=0x1F" ++ (13 ∷ []) ++ codes "rescue" ++ newline) ++ waiting 599 ++ typing (codes "rescue" ++ newline ++ (21 ∷ []) ++ codes "rescue vga=ask vga=normal singlelock" ++ newline ++ (127 ∷ []) ++ (127 ∷ [])) ++ waiting 9 ++ typing (codes "none quiet vga=5"))
    ≡ expected (Some (chosen 0 [] false (Some 31)))
    (codes "boot: root=/dev/hda1 " ++ (63 ∷ []) ++ newline ++ codes "No such image." ++ newline ++ codes "boot: lock vga=0x1F" ++ newline)
    Empty (typing (codes "rescue" ++ newline) ++ waiting 599 ++ typing (codes "rescue" ++ newline ++ (21 ∷ []) ++ codes "rescue vga=ask vga=normal singlelock" ++ newline ++ (127 ∷ []) ++ (127 ∷ [])) ++ waiting 9 ++ typing (codes "none quiet vga=5"))
    (Some (opened [] (typing (codes "oot=/dev/hda1 " ++ (63 ∷ []) ++ (13 ∷ []) ++ codes "lock vga=0x1F" ++ (13 ∷ []) ++ codes "rescue" ++ newline) ++ waiting 599 ++ typing (codes "rescue" ++ newline ++ (21 ∷ []) ++ codes "rescue vga=ask vga=normal singlelock" ++ newline ++ (127 ∷ []) ++ (127 ∷ [])) ++ waiting 9 ++ typing (codes "none quiet vga=5"))))
unfolding words_of meaning course_of
drawn_027 = refl

-- drawn at random: a typed choice, 1 question, 1 wrong, 1 unknown name, a new default line
drawn_028 : answers (settings true 0 (Some 1) 1 255)
    (listed (codes "dos") (Some (codes "tux")) false false None ∷ listed (codes "x") None false false (Some []) ∷ [])
    (Once (codes "dos vga=65536")) None
    (typing (codes "none " ++ (63 ∷ []) ++ codes " " ++ (63 ∷ []) ++ codes " a" ++ newline ++ codes "secret" ++ newline ++ codes "x" ++ (13 ∷ [])))
    ≡ expected (Some (chosen 1 [] false None))
    (codes "Password: " ++ newline ++ codes "Sorry." ++ newline ++ codes "boot: secret" ++ newline ++ codes "No such image." ++ newline ++ codes "boot: x" ++ newline)
    Empty []
    (Some (opened (codes "Password: " ++ newline ++ codes "Sorry." ++ newline) (typing (codes "secret" ++ newline ++ codes "x" ++ (13 ∷ [])))))
unfolding words_of meaning course_of
drawn_028 = refl

-- drawn at random: a typed choice, keys are left
drawn_029 : answers (settings true 0 None 0 5)
    (listed (codes "a1") None false false None ∷ listed (codes "lock") None false false (Some []) ∷ [])
    Empty None
    (typing (codes "lock vga=normal vga=65536" ++ newline ++ codes "a1" ++ newline))
    ≡ expected (Some (chosen 1 [] false None))
    (codes "boot: lock " ++ newline)
    Empty (typing (codes "a1" ++ newline))
    (Some (opened [] (typing (codes "lock vga=normal vga=65536" ++ newline ++ codes "a1" ++ newline))))
unfolding words_of meaning course_of
drawn_029 = refl

-- drawn at random: an automatic choice, no prompt
drawn_030 : answers (settings false 8 (Some 9) 0 12)
    (listed (codes "dos") None false false (Some []) ∷ listed (codes "x") (Some (replicate 31 112)) true false None ∷ listed (codes "linux") (Some (codes "abc")) true false None ∷ [])
    Empty None
    []
    ≡ expected (Some (chosen 0 [] true None))
    []
    Empty []
    None
unfolding words_of meaning course_of
drawn_030 = refl

-- drawn at random: nothing is chosen, 1 unknown name
drawn_031 : answers (settings false 8 (Some 4) 1 12)
    (listed (codes "lock") (Some (codes "abc")) true false None ∷ listed (codes "dos") None false false (Some (codes "lock root=/dev/hda1")) ∷ listed (codes "a1") None false false None ∷ [])
    (Kept (codes "none")) (Some (codes "boot: "))
    (typing (codes "none vga=0x1Fnone root=/dev/hda1" ++ newline))
    ≡ expected None
    (codes "boot: boot: none vga=0x1" ++ newline ++ codes "No such image." ++ newline ++ codes "boot: ")
    (Kept (codes "none")) []
    (Some (opened [] (typing (codes "one vga=0x1Fnone root=/dev/hda1" ++ newline))))
unfolding words_of meaning course_of
drawn_031 = refl

-- drawn at random: nothing is chosen, 2 questions, 2 wrong
drawn_032 : answers (settings true 5 (Some 0) 0 255)
    (listed (codes "old") (Some (codes "abc")) false true None ∷ listed (codes "rescue") (Some (codes "tux")) false false (Some (codes "none vga=")) ∷ [])
    (Kept (codes "rescue vga=5 quiet")) (Some (codes "Hello" ++ newline))
    (typing (codes "old" ++ newline ++ codes "rescue" ++ newline ++ codes "rescue" ++ newline ++ codes "old" ++ newline))
    ≡ expected None
    (codes "Hello" ++ newline ++ codes "boot: old" ++ newline ++ codes "Password: " ++ newline ++ codes "Sorry." ++ newline ++ codes "boot: rescue" ++ newline ++ codes "Password: " ++ newline ++ codes "Sorry." ++ newline ++ codes "boot: ")
    (Kept (codes "rescue vga=5 quiet")) []
    (Some (opened [] (typing (codes "ld" ++ newline ++ codes "rescue" ++ newline ++ codes "rescue" ++ newline ++ codes "old" ++ newline))))
unfolding words_of meaning course_of
drawn_032 = refl

-- drawn at random: a typed choice, keys are left
drawn_033 : answers (settings true 1 (Some 1) 0 255)
    (listed (codes "lock") None false true None ∷ listed (codes "dos") (Some (replicate 31 112)) false false (Some (codes "dos quiet")) ∷ listed (codes "old") (Some (codes "abc")) true true None ∷ listed (codes "a1") None false false (Some []) ∷ [])
    Empty (Some (codes "boot: "))
    (typing ((63 ∷ []) ++ codes " a") ++ waiting 10 ++ typing (codes "  " ++ (127 ∷ []) ++ (127 ∷ []) ++ (127 ∷ []) ++ (127 ∷ []) ++ (127 ∷ []) ++ codes "a1" ++ (13 ∷ []) ++ codes "old vga=bad vga=65536") ++ waiting 650 ++ typing ((9 ∷ []) ++ codes "a1" ++ newline) ++ waiting 599)
    ≡ expected (Some (chosen 3 [] false None))
    (codes "boot: boot: " ++ newline ++ codes "lock" ++ newline ++ codes "dos" ++ newline ++ codes "old" ++ newline ++ codes "a1" ++ newline ++ codes "boot:  a  " ++ erasing_text ++ erasing_text ++ erasing_text ++ erasing_text ++ codes "a1" ++ newline)
    Empty (typing (codes "old vga=bad vga=65536") ++ waiting 650 ++ typing ((9 ∷ []) ++ codes "a1" ++ newline) ++ waiting 599)
    (Some (opened [] (typing ((63 ∷ []) ++ codes " a") ++ waiting 10 ++ typing (codes "  " ++ (127 ∷ []) ++ (127 ∷ []) ++ (127 ∷ []) ++ (127 ∷ []) ++ (127 ∷ []) ++ codes "a1" ++ (13 ∷ []) ++ codes "old vga=bad vga=65536") ++ waiting 650 ++ typing ((9 ∷ []) ++ codes "a1" ++ newline) ++ waiting 599)))
unfolding words_of meaning course_of
drawn_033 = refl

-- drawn at random: nothing is chosen
drawn_034 : answers (settings true 5 (Some 2) 1 255)
    (listed (codes "x") (Some (codes "tux")) false false (Some (codes "x root=/dev/hda1 vga=0x1F")) ∷ listed (codes "linux") (Some (codes "tux")) true false None ∷ [])
    Empty None
    (typing (codes "linux"))
    ≡ expected None
    (codes "boot: linux")
    Empty []
    (Some (opened [] (typing (codes "linux"))))
unfolding words_of meaning course_of
drawn_034 = refl

-- drawn at random: a typed choice
drawn_035 : answers (settings false 8 (Some 1) 0 470)
    (listed (codes "linux") None false false None ∷ listed (codes "dos") (Some (replicate 31 112)) false false None ∷ listed (codes "rescue") (Some (replicate 31 112)) false false (Some (codes "none")) ∷ listed (codes "old") (Some (replicate 31 112)) true false None ∷ [])
    (Kept (codes "old")) (Some (codes "boot: "))
    (typing (codes "old" ++ newline))
    ≡ expected (Some (chosen 3 [] false None))
    (codes "boot: boot: old" ++ newline)
    (Kept (codes "old")) []
    (Some (opened [] (typing (codes "ld" ++ newline))))
unfolding words_of meaning course_of
drawn_035 = refl

-- drawn at random: a typed choice, 2 unknown names, a new default line, keys are left
drawn_036 : answers (settings true 1 (Some 2) 1 255)
    (listed (codes "x") (Some (codes "tux")) false false None ∷ listed (codes "rescue") None false true None ∷ listed (codes "linux") None false false None ∷ listed (codes "lock") None false true None ∷ [])
    (Once (codes "vga=normal a vga= vga=normal")) None
    (typing (codes "tux" ++ newline) ++ waiting 2 ++ typing (codes "linux vga=ask" ++ (127 ∷ []) ++ (127 ∷ []) ++ (127 ∷ []) ++ (127 ∷ []) ++ (127 ∷ []) ++ (127 ∷ []) ++ (127 ∷ []) ++ (127 ∷ []) ++ (127 ∷ []) ++ (127 ∷ []) ++ (127 ∷ []) ++ codes "linux" ++ newline ++ codes "linux quiet" ++ newline ++ codes "lock vga=0x1Fquiet single vga=0x1Frescue" ++ newline))
    ≡ expected (Some (chosen 2 (codes "quiet") false None))
    (codes "boot: tux" ++ newline ++ codes "No such image." ++ newline ++ codes "boot: linux vga=ask" ++ erasing_text ++ erasing_text ++ erasing_text ++ erasing_text ++ erasing_text ++ erasing_text ++ erasing_text ++ erasing_text ++ erasing_text ++ erasing_text ++ erasing_text ++ codes "linux" ++ newline ++ codes "No such image." ++ newline ++ codes "boot: linux quiet" ++ newline)
    Empty (typing (codes "lock vga=0x1Fquiet single vga=0x1Frescue" ++ newline))
    (Some (opened [] (typing (codes "tux" ++ newline) ++ waiting 2 ++ typing (codes "linux vga=ask" ++ (127 ∷ []) ++ (127 ∷ []) ++ (127 ∷ []) ++ (127 ∷ []) ++ (127 ∷ []) ++ (127 ∷ []) ++ (127 ∷ []) ++ (127 ∷ []) ++ (127 ∷ []) ++ (127 ∷ []) ++ (127 ∷ []) ++ codes "linux" ++ newline ++ codes "linux quiet" ++ newline ++ codes "lock vga=0x1Fquiet single vga=0x1Frescue" ++ newline))))
unfolding words_of meaning course_of
drawn_036 = refl

-- drawn at random: a typed choice, 1 unknown name, a new default line, keys are left
drawn_037 : answers (settings true 5 None 2 12)
    (listed (codes "lock") None false false (Some (codes "none")) ∷ listed (codes "a1") (Some (replicate 31 112)) false false (Some (codes "rescue vga=0x1F ro vga=ask")) ∷ listed (codes "rescue") (Some (codes "secret")) true false None ∷ listed (codes "x") (Some (codes "secret")) false true None ∷ [])
    (Once (codes "a1 vga=bad vga=65536 vga=")) (Some (codes "boot: "))
    (typing (codes "rescuelock" ++ replicate 31 112 ++ newline ++ (8 ∷ []) ++ (8 ∷ []) ++ codes "lock vga=5 " ++ (63 ∷ []) ++ newline ++ codes "rescue vga=normal" ++ newline ++ replicate 31 112 ++ newline ++ codes "secret" ++ newline ++ codes "secret" ++ newline ++ codes "x" ++ newline) ++ waiting 3)
    ≡ expected (Some (chosen 0 (63 ∷ []) false (Some 5)))
    (codes "boot: boot: rescuelockpp" ++ newline ++ codes "No such image." ++ newline ++ codes "boot: lock vga=5 " ++ (63 ∷ []) ++ newline)
    (Kept (codes "none")) (typing (codes "rescue vga=normal" ++ newline ++ replicate 31 112 ++ newline ++ codes "secret" ++ newline ++ codes "secret" ++ newline ++ codes "x" ++ newline) ++ waiting 3)
    (Some (opened [] (typing (codes "escuelock" ++ replicate 31 112 ++ newline ++ (8 ∷ []) ++ (8 ∷ []) ++ codes "lock vga=5 " ++ (63 ∷ []) ++ newline ++ codes "rescue vga=normal" ++ newline ++ replicate 31 112 ++ newline ++ codes "secret" ++ newline ++ codes "secret" ++ newline ++ codes "x" ++ newline) ++ waiting 3)))
unfolding words_of meaning course_of
drawn_037 = refl

-- drawn at random: an automatic choice, no prompt, a new default line, keys are left
drawn_038 : answers (settings false 0 (Some 9) 0 5)
    (listed (codes "x") (Some (codes "secret")) true true None ∷ [])
    Empty (Some (codes "boot: "))
    (typing (codes "a a" ++ newline ++ codes "secret" ++ newline) ++ waiting 601 ++ typing (codes "tux" ++ newline))
    ≡ expected (Some (chosen 0 [] true None))
    []
    (Kept (codes "x")) (typing (codes "a a" ++ newline ++ codes "secret" ++ newline) ++ waiting 601 ++ typing (codes "tux" ++ newline))
    None
unfolding words_of meaning course_of
drawn_038 = refl

-- drawn at random: an automatic choice, no prompt, a new default line, keys are left
drawn_039 : answers (settings true 0 None 1 255)
    (listed (codes "lock") None false false None ∷ listed (codes "old") None false false None ∷ [])
    (Once (codes "lock")) None
    (typing ((127 ∷ []) ++ (127 ∷ []) ++ codes "lock" ++ newline ++ codes "old vga=65536 vga=0x1F vga=" ++ (13 ∷ []) ++ (9 ∷ []) ++ codes "old" ++ newline ++ codes "tux" ++ newline))
    ≡ expected (Some (chosen 0 [] true None))
    []
    Empty (typing ((127 ∷ []) ++ (127 ∷ []) ++ codes "lock" ++ newline ++ codes "old vga=65536 vga=0x1F vga=" ++ (13 ∷ []) ++ (9 ∷ []) ++ codes "old" ++ newline ++ codes "tux" ++ newline))
    None
unfolding words_of meaning course_of
drawn_039 = refl

-- drawn at random: an automatic choice, no prompt, a new default line
drawn_040 : answers (settings true 1 (Some 9) 1 5)
    (listed (codes "x") None false false None ∷ listed (codes "linux") None false false None ∷ listed (codes "lock") None false false None ∷ [])
    (Once (codes "lock " ++ (63 ∷ []) ++ codes " quiet " ++ (63 ∷ []))) None
    []
    ≡ expected (Some (chosen 2 ((63 ∷ []) ++ codes " quiet " ++ (63 ∷ [])) true None))
    []
    Empty []
    None
unfolding words_of meaning course_of
drawn_040 = refl

-- drawn at random: nothing is chosen, 1 unknown name
drawn_041 : answers (settings true 0 (Some 2) 3 470)
    (listed (codes "dos") (Some (codes "a b")) true false None ∷ listed (codes "old") None false false (Some (codes "rescue")) ∷ listed (codes "rescue") (Some []) true true None ∷ listed (codes "lock") None false false (Some (codes "old ro")) ∷ [])
    Empty (Some (codes "boot: "))
    (typing ((8 ∷ []) ++ codes "  " ++ (128 ∷ []) ++ codes "none root=/dev/hda1a b" ++ newline) ++ waiting 2)
    ≡ expected None
    (codes "boot: boot:   none root=/dev/hda1a b" ++ newline ++ codes "No such image." ++ newline ++ codes "boot: ")
    Empty []
    (Some (opened [] (typing ((8 ∷ []) ++ codes "  " ++ (128 ∷ []) ++ codes "none root=/dev/hda1a b" ++ newline) ++ waiting 2)))
unfolding words_of meaning course_of
drawn_041 = refl

-- drawn at random: nothing is chosen, 2 unknown names
drawn_042 : answers (settings true 1 (Some 9) 0 255)
    (listed (codes "rescue") None false false None ∷ [])
    Empty (Some (codes "boot: "))
    (typing (codes "secret" ++ newline ++ (21 ∷ []) ++ codes "none" ++ newline))
    ≡ expected None
    (codes "boot: boot: secret" ++ newline ++ codes "No such image." ++ newline ++ codes "boot: " ++ newline ++ codes "boot: none" ++ newline ++ codes "No such image." ++ newline ++ codes "boot: ")
    Empty []
    (Some (opened [] (typing (codes "secret" ++ newline ++ (21 ∷ []) ++ codes "none" ++ newline))))
unfolding words_of meaning course_of
drawn_042 = refl

-- drawn at random: nothing is chosen, 1 question
drawn_043 : answers (settings false 1 (Some 9) 0 255)
    (listed (codes "linux") (Some (codes "abc")) false false None ∷ listed (codes "x") None false true None ∷ [])
    (Once (codes "none")) None
    []
    ≡ expected None
    (codes "Password: " ++ newline ++ codes "boot: ")
    (Once (codes "none")) []
    (Some (opened (codes "Password: " ++ newline) []))
unfolding words_of meaning course_of
drawn_043 = refl

-- drawn at random: nothing is chosen
drawn_044 : answers (settings false 8 (Some 2) 1 255)
    (listed (codes "x") (Some (codes "abc")) true false None ∷ listed (codes "old") (Some (codes "secret")) false false (Some (codes "old")) ∷ [])
    Empty (Some [])
    (typing ((22 ∷ []) ++ (21 ∷ [])))
    ≡ expected None
    (codes "boot: " ++ newline ++ codes "boot: ")
    Empty []
    (Some (opened [] (typing (21 ∷ []))))
unfolding words_of meaning course_of
drawn_044 = refl

-- drawn at random: nothing is chosen, 1 question, 2 unknown names
drawn_045 : answers (settings false 3 None 0 12)
    (listed (codes "lock") (Some (codes "secret")) false false (Some []) ∷ listed (codes "rescue") (Some (codes "secret")) false false None ∷ [])
    Empty (Some (codes "boot: "))
    (typing (codes "lock" ++ replicate 31 112 ++ newline ++ codes "vga=65536 vga=65536 a" ++ newline ++ codes "rescue" ++ newline))
    ≡ expected None
    (codes "boot: boot: lockpppppppp" ++ newline ++ codes "No such image." ++ newline ++ codes "boot: vga=65536 vg" ++ newline ++ codes "No such image." ++ newline ++ codes "boot: rescue" ++ newline ++ codes "Password: " ++ newline ++ codes "boot: ")
    Empty []
    (Some (opened [] (typing (codes "ock" ++ replicate 31 112 ++ newline ++ codes "vga=65536 vga=65536 a" ++ newline ++ codes "rescue" ++ newline))))
unfolding words_of meaning course_of
drawn_045 = refl

-- drawn at random: an automatic choice, no prompt, keys are left
drawn_046 : answers (settings false 0 None 0 255)
    (listed (codes "a1") None false false (Some []) ∷ listed (codes "x") None false false None ∷ [])
    Empty (Some (codes "Hello" ++ newline))
    (typing ((21 ∷ []) ++ codes "ro root=/dev/hda1" ++ newline))
    ≡ expected (Some (chosen 0 [] true None))
    []
    Empty (typing ((21 ∷ []) ++ codes "ro root=/dev/hda1" ++ newline))
    None
unfolding words_of meaning course_of
drawn_046 = refl

-- drawn at random: an automatic choice, no prompt, a new default line
drawn_047 : answers (settings false 0 (Some 4) 0 12)
    (listed (codes "dos") (Some []) true false (Some (codes "dos vga= vga=normal vga=0x1F")) ∷ [])
    Empty None
    []
    ≡ expected (Some (chosen 0 [] true None))
    []
    (Kept (codes "dos vga= vga=normal vga=0x1F")) []
    None
unfolding words_of meaning course_of
drawn_047 = refl

-- drawn at random: a typed choice, 1 unknown name
drawn_048 : answers (settings true 5 None 0 12)
    (listed (codes "rescue") (Some (codes "abc")) true false None ∷ listed (codes "a1") None false false None ∷ [])
    Empty None
    (waiting 11 ++ typing (codes "abc" ++ newline ++ newline))
    ≡ expected (Some (chosen 0 [] false None))
    (codes "boot: abc" ++ newline ++ codes "No such image." ++ newline ++ codes "boot: " ++ newline)
    Empty []
    (Some (opened [] (waiting 11 ++ typing (codes "abc" ++ newline ++ newline))))
unfolding words_of meaning course_of
drawn_048 = refl

-- drawn at random: an automatic choice
drawn_049 : answers (settings true 0 (Some 1) 0 255)
    (listed (codes "dos") None false false None ∷ listed (codes "lock") None false false None ∷ listed (codes "old") (Some []) false false (Some (codes "single vga=bad")) ∷ listed (codes "a1") None false false None ∷ [])
    Empty None
    []
    ≡ expected (Some (chosen 0 [] true None))
    (codes "boot: " ++ newline)
    Empty []
    (Some (opened [] []))
unfolding words_of meaning course_of
drawn_049 = refl

-- drawn at random: nothing is chosen, 2 unknown names
drawn_050 : answers (settings false 3 (Some 0) 0 255)
    (listed (codes "old") (Some (codes "tux")) true true None ∷ [])
    Empty None
    (typing (codes "abc" ++ newline ++ codes "vga=normal a " ++ (63 ∷ []) ++ newline))
    ≡ expected None
    (codes "boot: abc" ++ newline ++ codes "No such image." ++ newline ++ codes "boot: vga=normal a " ++ (63 ∷ []) ++ newline ++ codes "No such image." ++ newline ++ codes "boot: ")
    Empty []
    (Some (opened [] (typing (codes "bc" ++ newline ++ codes "vga=normal a " ++ (63 ∷ []) ++ newline))))
unfolding words_of meaning course_of
drawn_050 = refl

-- drawn at random: a typed choice, keys are left
drawn_051 : answers (settings true 8 (Some 4) 0 255)
    (listed (codes "x") None false false None ∷ listed (codes "linux") (Some []) false true None ∷ listed (codes "dos") None false false (Some (codes "lock " ++ (63 ∷ []) ++ codes " vga=5 vga=")) ∷ listed (codes "lock") None false false None ∷ [])
    (Kept (codes "lock")) (Some (codes "Hello" ++ newline))
    (typing (codes "lock" ++ newline ++ newline ++ codes "none a vga= single" ++ newline ++ codes "dos vga=0x1Fabc" ++ newline ++ codes "abc" ++ newline ++ codes "x vga=ask vga=0x1F" ++ newline ++ (127 ∷ []) ++ newline ++ (63 ∷ []) ++ (127 ∷ [])))
    ≡ expected (Some (chosen 3 [] false None))
    (codes "Hello" ++ newline ++ codes "boot: lock" ++ newline)
    (Kept (codes "lock")) (typing (newline ++ codes "none a vga= single" ++ newline ++ codes "dos vga=0x1Fabc" ++ newline ++ codes "abc" ++ newline ++ codes "x vga=ask vga=0x1F" ++ newline ++ (127 ∷ []) ++ newline ++ (63 ∷ []) ++ (127 ∷ [])))
    (Some (opened [] (typing (codes "ock" ++ newline ++ newline ++ codes "none a vga= single" ++ newline ++ codes "dos vga=0x1Fabc" ++ newline ++ codes "abc" ++ newline ++ codes "x vga=ask vga=0x1F" ++ newline ++ (127 ∷ []) ++ newline ++ (63 ∷ []) ++ (127 ∷ [])))))
unfolding words_of meaning course_of
drawn_051 = refl

-- drawn at random: a typed choice, keys are left
drawn_052 : answers (settings true 5 (Some 9) 3 5)
    (listed (codes "a1") (Some []) false false None ∷ listed (codes "rescue") None false false None ∷ listed (codes "linux") None false false (Some []) ∷ listed (codes "x") None false false None ∷ [])
    (Kept (codes "a1")) None
    (typing (codes "linux" ++ newline ++ (127 ∷ []) ++ (127 ∷ []) ++ (127 ∷ []) ++ (127 ∷ []) ++ (127 ∷ []) ++ codes "linux" ++ newline ++ codes "a1 " ++ (63 ∷ []) ++ newline ++ codes "vga=bad    " ++ newline))
    ≡ expected (Some (chosen 2 [] false None))
    (codes "boot: linux" ++ newline)
    (Kept (codes "a1")) (typing ((127 ∷ []) ++ (127 ∷ []) ++ (127 ∷ []) ++ (127 ∷ []) ++ (127 ∷ []) ++ codes "linux" ++ newline ++ codes "a1 " ++ (63 ∷ []) ++ newline ++ codes "vga=bad    " ++ newline))
    (Some (opened [] (typing (codes "inux" ++ newline ++ (127 ∷ []) ++ (127 ∷ []) ++ (127 ∷ []) ++ (127 ∷ []) ++ (127 ∷ []) ++ codes "linux" ++ newline ++ codes "a1 " ++ (63 ∷ []) ++ newline ++ codes "vga=bad    " ++ newline))))
unfolding words_of meaning course_of
drawn_052 = refl

-- drawn at random: an automatic choice, keys are left
drawn_053 : answers (settings true 0 (Some 0) 1 12)
    (listed (codes "lock") None false false None ∷ listed (codes "x") None false false None ∷ listed (codes "linux") None false false None ∷ [])
    Empty None
    (typing (codes "lock" ++ newline ++ codes "linux " ++ (63 ∷ []) ++ codes " single vga=65536" ++ (13 ∷ [])))
    ≡ expected (Some (chosen 1 [] true None))
    (codes "boot: " ++ newline)
    Empty (typing (codes "lock" ++ newline ++ codes "linux " ++ (63 ∷ []) ++ codes " single vga=65536" ++ (13 ∷ [])))
    (Some (opened [] (typing (codes "lock" ++ newline ++ codes "linux " ++ (63 ∷ []) ++ codes " single vga=65536" ++ (13 ∷ [])))))
unfolding words_of meaning course_of
drawn_053 = refl

-- drawn at random: an automatic choice, keys are left
drawn_054 : answers (settings true 1 (Some 9) 0 255)
    (listed (codes "rescue") None false false None ∷ listed (codes "dos") (Some (codes "secret")) false false None ∷ [])
    Empty (Some (codes "boot: "))
    (waiting 600 ++ typing ((0 ∷ []) ++ codes "secret" ++ newline) ++ waiting 2 ++ typing ((9 ∷ []) ++ codes "dos vga=5 vga=ask" ++ (13 ∷ [])))
    ≡ expected (Some (chosen 0 [] true None))
    (codes "boot: boot: " ++ newline)
    Empty (waiting 591 ++ typing ((0 ∷ []) ++ codes "secret" ++ newline) ++ waiting 2 ++ typing ((9 ∷ []) ++ codes "dos vga=5 vga=ask" ++ (13 ∷ [])))
    (Some (opened [] (waiting 600 ++ typing ((0 ∷ []) ++ codes "secret" ++ newline) ++ waiting 2 ++ typing ((9 ∷ []) ++ codes "dos vga=5 vga=ask" ++ (13 ∷ [])))))
unfolding words_of meaning course_of
drawn_054 = refl

-- drawn at random: an automatic choice, no prompt, keys are left
drawn_055 : answers (settings false 8 (Some 2) 0 5)
    (listed (codes "rescue") None false false (Some []) ∷ listed (codes "old") (Some (replicate 31 112)) true false None ∷ [])
    Empty (Some (codes "boot: "))
    (waiting 599)
    ≡ expected (Some (chosen 0 [] true None))
    []
    Empty (waiting 591)
    None
unfolding words_of meaning course_of
drawn_055 = refl

-- drawn at random: nothing is chosen, 1 question, 1 unknown name
drawn_056 : answers (settings true 0 None 1 5)
    (listed (codes "a1") None false false (Some (codes "lock")) ∷ listed (codes "lock") (Some (replicate 31 112)) false false None ∷ listed (codes "linux") (Some []) false false None ∷ listed (codes "rescue") (Some []) true false (Some (codes "none vga=65536")) ∷ [])
    Empty (Some [])
    (typing ((127 ∷ []) ++ (127 ∷ [])) ++ waiting 3 ++ typing (127 ∷ []) ++ waiting 1 ++ typing (codes "none vga=bad vga= vga=65536linux" ++ newline ++ codes "linux" ++ newline ++ (21 ∷ [])))
    ≡ expected None
    (codes "boot: none " ++ newline ++ codes "No such image." ++ newline ++ codes "boot: linux" ++ newline ++ codes "Password: " ++ newline ++ codes "boot: ")
    Empty []
    (Some (opened [] (typing ((127 ∷ []) ++ (127 ∷ [])) ++ waiting 3 ++ typing (127 ∷ []) ++ waiting 1 ++ typing (codes "none vga=bad vga= vga=65536linux" ++ newline ++ codes "linux" ++ newline ++ (21 ∷ [])))))
unfolding words_of meaning course_of
drawn_056 = refl

-- drawn at random: an automatic choice, no prompt, a new default line
drawn_057 : answers (settings false 0 (Some 2) 0 470)
    (listed (codes "old") None false true None ∷ listed (codes "linux") None false false None ∷ listed (codes "lock") None false false (Some (codes "linux a vga=65536 root=/dev/hda1")) ∷ [])
    Empty None
    []
    ≡ expected (Some (chosen 0 [] true None))
    []
    (Kept (codes "old")) []
    None
unfolding words_of meaning course_of
drawn_057 = refl

-- drawn at random: a typed choice, 1 unknown name
drawn_058 : answers (settings false 8 None 0 255)
    (listed (codes "linux") None false false (Some []) ∷ [])
    Empty (Some (codes "boot: "))
    (typing (codes "vga=" ++ (13 ∷ []) ++ codes "linux" ++ newline))
    ≡ expected (Some (chosen 0 [] false None))
    (codes "boot: boot: vga=" ++ newline ++ codes "No such image." ++ newline ++ codes "boot: linux" ++ newline)
    Empty []
    (Some (opened [] (typing (codes "ga=" ++ (13 ∷ []) ++ codes "linux" ++ newline))))
unfolding words_of meaning course_of
drawn_058 = refl

-- drawn at random: a typed choice, a new default line, keys are left
drawn_059 : answers (settings false 5 (Some 1) 0 255)
    (listed (codes "lock") None false false None ∷ listed (codes "rescue") None false false None ∷ listed (codes "old") None false false None ∷ [])
    (Once (codes "lock")) None
    (typing (codes "old vga=65536 vga=normal" ++ newline ++ codes "old" ++ newline) ++ waiting 3 ++ typing (codes "single ro a" ++ (13 ∷ []) ++ codes "old" ++ (13 ∷ []) ++ codes "vga=bad vga=ask vga=normal") ++ waiting 1 ++ typing ((8 ∷ []) ++ (8 ∷ [])) ++ waiting 603 ++ typing (codes "old" ++ newline))
    ≡ expected (Some (chosen 2 [] false (Some 65535)))
    (codes "boot: old vga=65536 vga=normal" ++ newline)
    Empty (typing (codes "old" ++ newline) ++ waiting 3 ++ typing (codes "single ro a" ++ (13 ∷ []) ++ codes "old" ++ (13 ∷ []) ++ codes "vga=bad vga=ask vga=normal") ++ waiting 1 ++ typing ((8 ∷ []) ++ (8 ∷ [])) ++ waiting 603 ++ typing (codes "old" ++ newline))
    (Some (opened [] (typing (codes "ld vga=65536 vga=normal" ++ newline ++ codes "old" ++ newline) ++ waiting 3 ++ typing (codes "single ro a" ++ (13 ∷ []) ++ codes "old" ++ (13 ∷ []) ++ codes "vga=bad vga=ask vga=normal") ++ waiting 1 ++ typing ((8 ∷ []) ++ (8 ∷ [])) ++ waiting 603 ++ typing (codes "old" ++ newline))))
unfolding words_of meaning course_of
drawn_059 = refl

-- drawn at random: an automatic choice, no prompt, keys are left
drawn_060 : answers (settings false 0 (Some 1) 0 470)
    (listed (codes "lock") None false false None ∷ listed (codes "a1") None false false None ∷ [])
    (Kept (codes "none root=/dev/hda1 vga=0x1F")) (Some [])
    (typing (newline ++ codes "none ro " ++ (63 ∷ []) ++ newline ++ codes "a1" ++ (13 ∷ []) ++ newline) ++ waiting 3 ++ typing (codes "a1 vga=5" ++ newline))
    ≡ expected (Some (chosen 0 [] true None))
    []
    (Kept (codes "none root=/dev/hda1 vga=0x1F")) (typing (newline ++ codes "none ro " ++ (63 ∷ []) ++ newline ++ codes "a1" ++ (13 ∷ []) ++ newline) ++ waiting 3 ++ typing (codes "a1 vga=5" ++ newline))
    None
unfolding words_of meaning course_of
drawn_060 = refl

-- drawn at random: a typed choice, 1 question, 1 wrong, keys are left
drawn_061 : answers (settings false 3 (Some 4) 0 255)
    (listed (codes "dos") None false false None ∷ listed (codes "linux") (Some (replicate 31 112)) true false None ∷ [])
    (Kept (codes "none")) (Some (codes "boot: "))
    (typing (codes "linux singledos" ++ newline ++ codes "tux" ++ newline) ++ waiting 600 ++ typing (codes "linux" ++ newline ++ codes "linux" ++ newline ++ codes "dos" ++ (13 ∷ []) ++ codes "tux" ++ newline))
    ≡ expected (Some (chosen 1 [] false None))
    (codes "boot: boot: linux singledos" ++ newline ++ codes "Password: " ++ newline ++ codes "Sorry." ++ newline ++ codes "boot: linux" ++ newline)
    (Kept (codes "none")) (typing (codes "linux" ++ newline ++ codes "dos" ++ (13 ∷ []) ++ codes "tux" ++ newline))
    (Some (opened [] (typing (codes "inux singledos" ++ newline ++ codes "tux" ++ newline) ++ waiting 600 ++ typing (codes "linux" ++ newline ++ codes "linux" ++ newline ++ codes "dos" ++ (13 ∷ []) ++ codes "tux" ++ newline))))
unfolding words_of meaning course_of
drawn_061 = refl

-- drawn at random: a typed choice, keys are left
drawn_062 : answers (settings true 5 None 1 5)
    (listed (codes "lock") None false true None ∷ listed (codes "linux") None false false (Some []) ∷ [])
    (Kept (codes "none ro ro")) (Some (codes "Hello" ++ newline))
    (typing (codes "linux lock vga= vga=5" ++ (13 ∷ []) ++ (127 ∷ []) ++ (127 ∷ [])) ++ waiting 650 ++ typing (codes "linux" ++ (13 ∷ []) ++ codes "linux" ++ newline ++ (7 ∷ []) ++ (1 ∷ []) ++ codes "lock" ++ newline))
    ≡ expected (Some (chosen 1 [] false None))
    (codes "Hello" ++ newline ++ codes "boot: linux" ++ newline)
    (Kept (codes "none ro ro")) (typing ((127 ∷ []) ++ (127 ∷ [])) ++ waiting 650 ++ typing (codes "linux" ++ (13 ∷ []) ++ codes "linux" ++ newline ++ (7 ∷ []) ++ (1 ∷ []) ++ codes "lock" ++ newline))
    (Some (opened [] (typing (codes "linux lock vga= vga=5" ++ (13 ∷ []) ++ (127 ∷ []) ++ (127 ∷ [])) ++ waiting 650 ++ typing (codes "linux" ++ (13 ∷ []) ++ codes "linux" ++ newline ++ (7 ∷ []) ++ (1 ∷ []) ++ codes "lock" ++ newline))))
unfolding words_of meaning course_of
drawn_062 = refl

-- drawn at random: nothing is chosen
drawn_063 : answers (settings true 5 (Some 1) 2 5)
    (listed (codes "lock") (Some (codes "tux")) false false None ∷ listed (codes "dos") (Some []) false false (Some (codes "ro vga=normal vga=")) ∷ listed (codes "a1") (Some []) true false None ∷ [])
    Empty None
    (typing (codes "  ") ++ waiting 601)
    ≡ expected None
    (codes "boot:   ")
    Empty []
    (Some (opened [] (typing (codes "  ") ++ waiting 601)))
unfolding words_of meaning course_of
drawn_063 = refl

-- drawn at random: an automatic choice, keys are left
drawn_064 : answers (settings true 8 (Some 2) 0 255)
    (listed (codes "x") None false false None ∷ [])
    Empty (Some (codes "boot: "))
    (waiting 2 ++ typing (codes "tux" ++ newline ++ codes "x" ++ newline ++ codes "tux" ++ newline ++ codes "tux" ++ newline ++ newline))
    ≡ expected (Some (chosen 0 [] true None))
    (codes "boot: boot: " ++ newline)
    Empty (typing (codes "tux" ++ newline ++ codes "x" ++ newline ++ codes "tux" ++ newline ++ codes "tux" ++ newline ++ newline))
    (Some (opened [] (waiting 2 ++ typing (codes "tux" ++ newline ++ codes "x" ++ newline ++ codes "tux" ++ newline ++ codes "tux" ++ newline ++ newline))))
unfolding words_of meaning course_of
drawn_064 = refl

-- drawn at random: a typed choice, 2 unknown names, keys are left
drawn_065 : answers (settings false 8 None 1 255)
    (listed (codes "dos") None false false None ∷ listed (codes "x") None false false None ∷ [])
    Empty (Some (codes "boot: "))
    (typing (codes "none" ++ (13 ∷ []) ++ replicate 31 112 ++ newline) ++ waiting 1 ++ typing ((27 ∷ []) ++ codes "x vga=65536 vga=5 a" ++ newline ++ replicate 31 112 ++ newline) ++ waiting 598 ++ typing (codes "x ro a vga=normal" ++ newline ++ codes "root=/dev/hda1" ++ newline ++ replicate 31 112 ++ newline ++ newline))
    ≡ expected (Some (chosen 1 (codes "a") false (Some 5)))
    (codes "boot: boot: none" ++ newline ++ codes "No such image." ++ newline ++ codes "boot: " ++ replicate 31 112 ++ newline ++ codes "No such image." ++ newline ++ codes "boot: x vga=65536 vga=5 a" ++ newline)
    Empty (typing (replicate 31 112 ++ newline) ++ waiting 598 ++ typing (codes "x ro a vga=normal" ++ newline ++ codes "root=/dev/hda1" ++ newline ++ replicate 31 112 ++ newline ++ newline))
    (Some (opened [] (typing (codes "one" ++ (13 ∷ []) ++ replicate 31 112 ++ newline) ++ waiting 1 ++ typing ((27 ∷ []) ++ codes "x vga=65536 vga=5 a" ++ newline ++ replicate 31 112 ++ newline) ++ waiting 598 ++ typing (codes "x ro a vga=normal" ++ newline ++ codes "root=/dev/hda1" ++ newline ++ replicate 31 112 ++ newline ++ newline))))
unfolding words_of meaning course_of
drawn_065 = refl

-- drawn at random: an automatic choice, no prompt, a new default line
drawn_066 : answers (settings false 3 (Some 2) 3 255)
    (listed (codes "lock") None false false (Some (codes "dos vga=normal vga=65536")) ∷ listed (codes "dos") (Some (codes "a b")) true false None ∷ listed (codes "rescue") (Some (codes "a b")) false false None ∷ listed (codes "old") None false false (Some (codes "root=/dev/hda1 ro single")) ∷ [])
    Empty (Some (codes "Hello" ++ newline))
    (waiting 2)
    ≡ expected (Some (chosen 3 [] true None))
    []
    (Kept (codes "root=/dev/hda1 ro single")) []
    None
unfolding words_of meaning course_of
drawn_066 = refl

-- drawn at random: nothing is chosen, 1 question
drawn_067 : answers (settings false 0 (Some 9) 2 255)
    (listed (codes "a1") None false false None ∷ listed (codes "lock") None false false None ∷ listed (codes "linux") (Some (codes "abc")) false false None ∷ listed (codes "dos") None false true None ∷ [])
    Empty (Some (codes "boot: "))
    []
    ≡ expected None
    (codes "Password: " ++ newline ++ codes "boot: boot: ")
    Empty []
    (Some (opened (codes "Password: " ++ newline) []))
unfolding words_of meaning course_of
drawn_067 = refl

-- drawn at random: an automatic choice, no prompt, keys are left
drawn_068 : answers (settings false 0 (Some 9) 1 5)
    (listed (codes "x") (Some (codes "tux")) true false (Some (codes "x vga=ask root=/dev/hda1 a")) ∷ listed (codes "lock") None false false None ∷ [])
    Empty None
    (typing (codes "x" ++ newline))
    ≡ expected (Some (chosen 1 [] true None))
    []
    Empty (typing (codes "x" ++ newline))
    None
unfolding words_of meaning course_of
drawn_068 = refl

-- drawn at random: an automatic choice, no prompt, a new default line, keys are left
drawn_069 : answers (settings false 0 (Some 9) 3 255)
    (listed (codes "a1") (Some (codes "a b")) false false None ∷ listed (codes "linux") None false false None ∷ listed (codes "x") None false false None ∷ listed (codes "rescue") (Some (codes "tux")) true false None ∷ [])
    (Once (codes "x single")) (Some [])
    (typing (codes "a1 single vga=5 a" ++ (13 ∷ []) ++ codes "linux" ++ newline ++ codes "a b" ++ newline ++ codes "a1" ++ newline ++ codes "rescue lock" ++ newline ++ codes "a b" ++ newline))
    ≡ expected (Some (chosen 2 (codes "single") true None))
    []
    Empty (typing (codes "a1 single vga=5 a" ++ (13 ∷ []) ++ codes "linux" ++ newline ++ codes "a b" ++ newline ++ codes "a1" ++ newline ++ codes "rescue lock" ++ newline ++ codes "a b" ++ newline))
    None
unfolding words_of meaning course_of
drawn_069 = refl

-- drawn at random: an automatic choice, no prompt, keys are left
drawn_070 : answers (settings false 0 (Some 9) 0 255)
    (listed (codes "x") (Some (codes "secret")) true false None ∷ listed (codes "linux") (Some (codes "secret")) true false None ∷ [])
    (Kept (codes "x vga=normal")) None
    (typing (codes "secret" ++ newline ++ codes "linux" ++ newline ++ codes "none a" ++ newline) ++ waiting 1 ++ typing (codes "abc" ++ newline ++ codes "x" ++ (9 ∷ []) ++ newline))
    ≡ expected (Some (chosen 0 [] true (Some 65535)))
    []
    (Kept (codes "x vga=normal")) (typing (codes "secret" ++ newline ++ codes "linux" ++ newline ++ codes "none a" ++ newline) ++ waiting 1 ++ typing (codes "abc" ++ newline ++ codes "x" ++ (9 ∷ []) ++ newline))
    None
unfolding words_of meaning course_of
drawn_070 = refl

-- drawn at random: a typed choice, 2 unknown names, keys are left
drawn_071 : answers (settings false 2 None 0 255)
    (listed (codes "linux") None false false None ∷ listed (codes "dos") None false false None ∷ [])
    Empty None
    (typing (codes "none vga=ask vga=bad" ++ newline ++ codes "none" ++ newline ++ codes "dos" ++ newline ++ codes "linux vga=normal" ++ newline ++ codes "dos single vga=0x1F" ++ (13 ∷ []) ++ codes "dos vga=bad vga=normal a" ++ (13 ∷ [])))
    ≡ expected (Some (chosen 1 [] false None))
    (codes "boot: none vga=ask vga=bad" ++ newline ++ codes "No such image." ++ newline ++ codes "boot: none" ++ newline ++ codes "No such image." ++ newline ++ codes "boot: dos" ++ newline)
    Empty (typing (codes "linux vga=normal" ++ newline ++ codes "dos single vga=0x1F" ++ (13 ∷ []) ++ codes "dos vga=bad vga=normal a" ++ (13 ∷ [])))
    (Some (opened [] (typing (codes "one vga=ask vga=bad" ++ newline ++ codes "none" ++ newline ++ codes "dos" ++ newline ++ codes "linux vga=normal" ++ newline ++ codes "dos single vga=0x1F" ++ (13 ∷ []) ++ codes "dos vga=bad vga=normal a" ++ (13 ∷ [])))))
unfolding words_of meaning course_of
drawn_071 = refl

-- drawn at random: an automatic choice, keys are left
drawn_072 : answers (settings true 0 (Some 0) 0 255)
    (listed (codes "rescue") None false false None ∷ [])
    (Kept (codes "none quiet")) (Some (codes "boot: "))
    (waiting 1 ++ typing (codes "tux" ++ newline))
    ≡ expected (Some (chosen 0 [] true None))
    (codes "boot: boot: " ++ newline)
    (Kept (codes "none quiet")) (waiting 1 ++ typing (codes "tux" ++ newline))
    (Some (opened [] (waiting 1 ++ typing (codes "tux" ++ newline))))
unfolding words_of meaning course_of
drawn_072 = refl

-- drawn at random: a typed choice, 1 unknown name, a new default line, keys are left
drawn_073 : answers (settings true 2 None 0 470)
    (listed (codes "linux") None false false (Some []) ∷ [])
    Empty (Some (codes "boot: "))
    (typing (codes "vga=65536 root=/dev/hda1 single vga=bad" ++ newline) ++ waiting 2 ++ typing ((8 ∷ []) ++ (8 ∷ []) ++ codes "linux lock" ++ newline) ++ waiting 2 ++ typing (codes "abc" ++ newline))
    ≡ expected (Some (chosen 0 [] false None))
    (codes "boot: boot: vga=65536 root=/dev/hda1 single vga=bad" ++ newline ++ codes "No such image." ++ newline ++ codes "boot: linux lock" ++ newline)
    (Kept (codes "linux")) (waiting 2 ++ typing (codes "abc" ++ newline))
    (Some (opened [] (typing (codes "vga=65536 root=/dev/hda1 single vga=bad" ++ newline) ++ waiting 2 ++ typing ((8 ∷ []) ++ (8 ∷ []) ++ codes "linux lock" ++ newline) ++ waiting 2 ++ typing (codes "abc" ++ newline))))
unfolding words_of meaning course_of
drawn_073 = refl

-- drawn at random: a typed choice, 1 question, a new default line, keys are left
drawn_074 : answers (settings false 1 None 1 255)
    (listed (codes "x") (Some (codes "tux")) false false (Some (codes "rescue")) ∷ listed (codes "rescue") (Some (codes "tux")) false false None ∷ [])
    Empty (Some (codes "boot: "))
    (typing (codes "x" ++ newline ++ codes "tux" ++ newline ++ (9 ∷ [])))
    ≡ expected (Some (chosen 0 [] false None))
    (codes "boot: boot: x" ++ newline ++ codes "Password: " ++ newline)
    (Kept (codes "rescue")) (typing (9 ∷ []))
    (Some (opened [] (typing (newline ++ codes "tux" ++ newline ++ (9 ∷ [])))))
unfolding words_of meaning course_of
drawn_074 = refl

-- drawn at random: nothing is chosen, 2 questions, 2 wrong, 1 unknown name
drawn_075 : answers (settings false 3 None 0 255)
    (listed (codes "a1") (Some (codes "secret")) false false (Some []) ∷ listed (codes "dos") None false false None ∷ [])
    (Kept (codes "dos vga=ask")) (Some (codes "boot: "))
    (typing (codes "a1 vga=5 lock" ++ newline ++ codes "tux" ++ newline ++ codes "a1" ++ newline ++ codes "  " ++ (7 ∷ []) ++ codes "dos" ++ newline ++ (8 ∷ []) ++ (8 ∷ []) ++ codes "secret" ++ newline))
    ≡ expected None
    (codes "boot: boot: a1 vga=5 lock" ++ newline ++ codes "Password: " ++ newline ++ codes "Sorry." ++ newline ++ codes "boot: a1" ++ newline ++ codes "Password: " ++ newline ++ codes "Sorry." ++ newline ++ codes "boot: secret" ++ newline ++ codes "No such image." ++ newline ++ codes "boot: ")
    (Kept (codes "dos vga=ask")) []
    (Some (opened [] (typing (codes "1 vga=5 lock" ++ newline ++ codes "tux" ++ newline ++ codes "a1" ++ newline ++ codes "  " ++ (7 ∷ []) ++ codes "dos" ++ newline ++ (8 ∷ []) ++ (8 ∷ []) ++ codes "secret" ++ newline))))
unfolding words_of meaning course_of
drawn_075 = refl

-- drawn at random: a typed choice, a new default line
drawn_076 : answers (settings false 1 None 2 255)
    (listed (codes "lock") None false false None ∷ listed (codes "a1") None false false (Some (codes "none quiet vga=bad " ++ (63 ∷ []))) ∷ listed (codes "x") None false true None ∷ listed (codes "old") (Some (codes "abc")) false false None ∷ [])
    Empty (Some (codes "boot: "))
    (typing (codes "x vga=bad vga=ask" ++ newline))
    ≡ expected (Some (chosen 2 [] false (Some 65533)))
    (codes "boot: boot: x vga=bad vga=ask" ++ newline)
    (Kept (codes "x vga=bad vga=ask")) []
    (Some (opened [] (typing (codes " vga=bad vga=ask" ++ newline))))
unfolding words_of meaning course_of
drawn_076 = refl

-- drawn at random: a typed choice, 1 unknown name, a new default line, keys are left
drawn_077 : answers (settings false 3 None 2 255)
    (listed (codes "linux") None false false (Some (codes "dos a vga= vga=ask")) ∷ listed (codes "lock") (Some (codes "a b")) false false (Some (codes "linux vga=65536")) ∷ listed (codes "x") None false false None ∷ listed (codes "dos") None false true None ∷ [])
    (Kept (codes "root=/dev/hda1 " ++ (63 ∷ []) ++ codes " lock")) (Some [])
    (typing (codes "root=/dev/hda1 vga=normal vga=normal" ++ (13 ∷ []) ++ codes "dos" ++ newline ++ codes "none" ++ newline ++ codes "abc" ++ newline))
    ≡ expected (Some (chosen 3 [] false None))
    (codes "boot: root=/dev/hda1 vga=normal vga=normal" ++ newline ++ codes "No such image." ++ newline ++ codes "boot: dos" ++ newline)
    (Kept (codes "dos")) (typing (codes "none" ++ newline ++ codes "abc" ++ newline))
    (Some (opened [] (typing (codes "oot=/dev/hda1 vga=normal vga=normal" ++ (13 ∷ []) ++ codes "dos" ++ newline ++ codes "none" ++ newline ++ codes "abc" ++ newline))))
unfolding words_of meaning course_of
drawn_077 = refl

-- drawn at random: a typed choice, keys are left
drawn_078 : answers (settings true 8 (Some 1) 1 255)
    (listed (codes "old") None false false None ∷ listed (codes "rescue") (Some (codes "secret")) true false None ∷ [])
    (Kept ((63 ∷ []) ++ codes " single vga=5")) None
    (typing (codes "rescue" ++ newline ++ codes "rescue" ++ newline ++ codes "old" ++ newline ++ codes "rescue" ++ newline ++ codes "old" ++ newline) ++ waiting 3 ++ typing (newline ++ codes "secret" ++ newline))
    ≡ expected (Some (chosen 1 [] false None))
    (codes "boot: rescue" ++ newline)
    (Kept ((63 ∷ []) ++ codes " single vga=5")) (typing (codes "rescue" ++ newline ++ codes "old" ++ newline ++ codes "rescue" ++ newline ++ codes "old" ++ newline) ++ waiting 3 ++ typing (newline ++ codes "secret" ++ newline))
    (Some (opened [] (typing (codes "rescue" ++ newline ++ codes "rescue" ++ newline ++ codes "old" ++ newline ++ codes "rescue" ++ newline ++ codes "old" ++ newline) ++ waiting 3 ++ typing (newline ++ codes "secret" ++ newline))))
unfolding words_of meaning course_of
drawn_078 = refl

-- drawn at random: a typed choice, keys are left
drawn_079 : answers (settings true 5 None 0 255)
    (listed (codes "x") (Some (codes "a b")) true false None ∷ listed (codes "rescue") None false false None ∷ [])
    Empty (Some [])
    (typing (newline ++ codes "x root=/dev/hda1 vga=ask" ++ newline ++ codes "rescue vga=0x1F" ++ newline ++ codes "none" ++ newline) ++ waiting 5 ++ typing (codes "x" ++ newline))
    ≡ expected (Some (chosen 0 [] false None))
    (codes "boot: " ++ newline)
    Empty (typing (codes "x root=/dev/hda1 vga=ask" ++ newline ++ codes "rescue vga=0x1F" ++ newline ++ codes "none" ++ newline) ++ waiting 5 ++ typing (codes "x" ++ newline))
    (Some (opened [] (typing (newline ++ codes "x root=/dev/hda1 vga=ask" ++ newline ++ codes "rescue vga=0x1F" ++ newline ++ codes "none" ++ newline) ++ waiting 5 ++ typing (codes "x" ++ newline))))
unfolding words_of meaning course_of
drawn_079 = refl

-- drawn at random: an automatic choice, no prompt, keys are left
drawn_080 : answers (settings false 0 (Some 9) 0 255)
    (listed (codes "a1") None false true None ∷ [])
    (Kept (codes "a1 vga=0x1F")) None
    (typing (newline ++ codes "vga= " ++ (63 ∷ []) ++ newline ++ codes "none ro" ++ (13 ∷ []) ++ codes "a1" ++ newline ++ (1 ∷ []) ++ codes "none" ++ (13 ∷ []) ++ codes "  a1 vga=ask ro vga=0x1F" ++ newline) ++ waiting 9 ++ typing (replicate 31 112 ++ newline ++ (9 ∷ [])))
    ≡ expected (Some (chosen 0 [] true (Some 31)))
    []
    (Kept (codes "a1 vga=0x1F")) (typing (newline ++ codes "vga= " ++ (63 ∷ []) ++ newline ++ codes "none ro" ++ (13 ∷ []) ++ codes "a1" ++ newline ++ (1 ∷ []) ++ codes "none" ++ (13 ∷ []) ++ codes "  a1 vga=ask ro vga=0x1F" ++ newline) ++ waiting 9 ++ typing (replicate 31 112 ++ newline ++ (9 ∷ [])))
    None
unfolding words_of meaning course_of
drawn_080 = refl

-- drawn at random: an automatic choice, no prompt, a new default line
drawn_081 : answers (settings false 1 (Some 4) 0 12)
    (listed (codes "dos") None false false (Some []) ∷ listed (codes "a1") None false true None ∷ [])
    (Once (codes "a1 quiet")) (Some [])
    []
    ≡ expected (Some (chosen 1 (codes "quiet") true None))
    []
    (Kept (codes "a1 quiet")) []
    None
unfolding words_of meaning course_of
drawn_081 = refl
