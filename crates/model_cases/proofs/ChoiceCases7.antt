-- Cases of the choice at the prompt, part 7; tools/choice_cases.py writes this file.
use Rattle.std.proofs.Common.{◌≡◌, [], ◌∷◌, ◌++◌, replicate, true, false, None, Some, codes, refl}
use Rattle.lilo_model.specs.DefaultLine.{Empty, Once, Kept}
use Rattle.lilo_model.specs.LineEdits.{erasing_text}
use Rattle.lilo_model.specs.LineWords.{words_of, meaning}
use Rattle.lilo_model.specs.Choice.{newline, course_of}
use Rattle.model_cases.specs.Cases.{typing, waiting, settings, listed, chosen, answers, expected, opened}

-- drawn at random: a typed choice
drawn_142 : answers (settings true 1 (Some 2) 0 255)
    (listed (codes "dos") (Some []) true false None ∷ listed (codes "rescue") None false false None ∷ [])
    Empty None
    (typing (codes "rescue vga=normal " ++ (63 ∷ []) ++ newline))
    ≡ expected (Some (chosen 1 (63 ∷ []) false (Some 65535)))
    (codes "boot: rescue vga=normal " ++ (63 ∷ []) ++ newline)
    Empty []
    (Some (opened [] (typing (codes "rescue vga=normal " ++ (63 ∷ []) ++ newline))))
unfolding words_of meaning course_of
drawn_142 = refl

-- drawn at random: a typed choice, a new default line
drawn_143 : answers (settings true 1 (Some 1) 0 255)
    (listed (codes "linux") None false false None ∷ listed (codes "rescue") None false false (Some (codes "none")) ∷ [])
    Empty (Some [])
    (typing (codes "rescue vga=bad vga=5") ++ waiting 598 ++ typing ((200 ∷ []) ++ codes "vga=normal single vga=normal vga=5" ++ (13 ∷ [])))
    ≡ expected (Some (chosen 1 (codes "single") false (Some 5)))
    (codes "boot: rescue vga=bad vga=5vga=normal single vga=normal vga=5" ++ newline)
    (Kept (codes "none")) []
    (Some (opened [] (typing (codes "rescue vga=bad vga=5") ++ waiting 598 ++ typing ((200 ∷ []) ++ codes "vga=normal single vga=normal vga=5" ++ (13 ∷ [])))))
unfolding words_of meaning course_of
drawn_143 = refl

-- drawn at random: an automatic choice
drawn_144 : answers (settings true 1 (Some 4) 0 470)
    (listed (codes "x") None false false None ∷ [])
    Empty None
    []
    ≡ expected (Some (chosen 0 [] true None))
    (codes "boot: " ++ newline)
    Empty []
    (Some (opened [] []))
unfolding words_of meaning course_of
drawn_144 = refl

-- drawn at random: an automatic choice, a new default line, keys are left
drawn_145 : answers (settings true 5 (Some 0) 1 470)
    (listed (codes "linux") None false false None ∷ listed (codes "a1") None false false (Some []) ∷ [])
    (Once (codes "quiet")) None
    (waiting 9)
    ≡ expected (Some (chosen 1 [] true None))
    (codes "boot: " ++ newline)
    Empty (waiting 9)
    (Some (opened [] (waiting 9)))
unfolding words_of meaning course_of
drawn_145 = refl

-- drawn at random: a typed choice, 1 unknown name, keys are left
drawn_146 : answers (settings true 0 (Some 1) 1 255)
    (listed (codes "dos") None false false None ∷ listed (codes "a1") None false false (Some []) ∷ [])
    Empty None
    (typing (codes "none vga=5 vga=5" ++ newline ++ newline) ++ waiting 1)
    ≡ expected (Some (chosen 1 [] false None))
    (codes "boot: none vga=5 vga=5" ++ newline ++ codes "No such image." ++ newline ++ codes "boot: " ++ newline)
    Empty (waiting 1)
    (Some (opened [] (typing (codes "none vga=5 vga=5" ++ newline ++ newline) ++ waiting 1)))
unfolding words_of meaning course_of
drawn_146 = refl

-- drawn at random: an automatic choice, a new default line
drawn_147 : answers (settings true 5 (Some 0) 2 255)
    (listed (codes "rescue") (Some (codes "secret")) false false None ∷ listed (codes "lock") None false true None ∷ listed (codes "linux") (Some (codes "secret")) true true None ∷ listed (codes "dos") (Some (codes "secret")) true false None ∷ [])
    Empty (Some [])
    []
    ≡ expected (Some (chosen 2 [] true None))
    (codes "boot: " ++ newline)
    (Kept (codes "linux")) []
    (Some (opened [] []))
unfolding words_of meaning course_of
drawn_147 = refl

-- drawn at random: an automatic choice, keys are left
drawn_148 : answers (settings true 0 (Some 0) 1 255)
    (listed (codes "x") None false false None ∷ listed (codes "a1") (Some (codes "a b")) true false None ∷ [])
    Empty (Some (codes "Hello" ++ newline))
    (waiting 601)
    ≡ expected (Some (chosen 1 [] true None))
    (codes "Hello" ++ newline ++ codes "boot: " ++ newline)
    Empty (waiting 601)
    (Some (opened [] (waiting 601)))
unfolding words_of meaning course_of
drawn_148 = refl

-- drawn at random: a typed choice, 2 unknown names, keys are left
drawn_149 : answers (settings false 2 None 0 255)
    (listed (codes "a1") None false false None ∷ [])
    (Kept (codes "none vga=normal vga=0x1F")) (Some (codes "Hello" ++ newline))
    (typing ((8 ∷ []) ++ (8 ∷ []) ++ (8 ∷ []) ++ (8 ∷ []) ++ (8 ∷ []) ++ (8 ∷ []) ++ (8 ∷ []) ++ (8 ∷ []) ++ (8 ∷ []) ++ (8 ∷ []) ++ (127 ∷ []) ++ (127 ∷ []) ++ (127 ∷ []) ++ (127 ∷ []) ++ (127 ∷ []) ++ (27 ∷ []) ++ codes "none vga=" ++ (13 ∷ []) ++ replicate 31 112 ++ newline ++ codes "a1" ++ newline ++ codes "lock vga=65536" ++ (13 ∷ []) ++ codes "none" ++ (13 ∷ []) ++ (8 ∷ []) ++ (8 ∷ []) ++ codes "a" ++ newline))
    ≡ expected (Some (chosen 0 [] false None))
    (codes "Hello" ++ newline ++ codes "boot: none vga=" ++ newline ++ codes "No such image." ++ newline ++ codes "boot: " ++ replicate 31 112 ++ newline ++ codes "No such image." ++ newline ++ codes "boot: a1" ++ newline)
    (Kept (codes "none vga=normal vga=0x1F")) (typing (codes "lock vga=65536" ++ (13 ∷ []) ++ codes "none" ++ (13 ∷ []) ++ (8 ∷ []) ++ (8 ∷ []) ++ codes "a" ++ newline))
    (Some (opened [] (typing ((8 ∷ []) ++ (8 ∷ []) ++ (8 ∷ []) ++ (8 ∷ []) ++ (8 ∷ []) ++ (8 ∷ []) ++ (8 ∷ []) ++ (8 ∷ []) ++ (8 ∷ []) ++ (127 ∷ []) ++ (127 ∷ []) ++ (127 ∷ []) ++ (127 ∷ []) ++ (127 ∷ []) ++ (27 ∷ []) ++ codes "none vga=" ++ (13 ∷ []) ++ replicate 31 112 ++ newline ++ codes "a1" ++ newline ++ codes "lock vga=65536" ++ (13 ∷ []) ++ codes "none" ++ (13 ∷ []) ++ (8 ∷ []) ++ (8 ∷ []) ++ codes "a" ++ newline))))
unfolding words_of meaning course_of
drawn_149 = refl

-- drawn at random: an automatic choice, 1 question
drawn_150 : answers (settings true 2 (Some 0) 0 255)
    (listed (codes "a1") (Some (replicate 31 112)) false false (Some []) ∷ listed (codes "rescue") (Some (codes "secret")) false false None ∷ listed (codes "lock") (Some (codes "secret")) false true None ∷ listed (codes "x") None false false None ∷ [])
    Empty None
    (typing ((9 ∷ []) ++ replicate 31 112 ++ newline))
    ≡ expected (Some (chosen 0 [] true None))
    (codes "boot: " ++ newline ++ codes "Password: " ++ newline)
    Empty []
    (Some (opened [] (typing ((9 ∷ []) ++ replicate 31 112 ++ newline))))
unfolding words_of meaning course_of
drawn_150 = refl

-- drawn at random: an automatic choice, a new default line, keys are left
drawn_151 : answers (settings true 0 (Some 0) 1 255)
    (listed (codes "a1") None false false (Some (codes "ro root=/dev/hda1 lock")) ∷ listed (codes "dos") None false true None ∷ [])
    Empty None
    (typing (codes "a1" ++ newline ++ codes "  "))
    ≡ expected (Some (chosen 1 [] true None))
    (codes "boot: " ++ newline)
    (Kept (codes "dos")) (typing (codes "a1" ++ newline ++ codes "  "))
    (Some (opened [] (typing (codes "a1" ++ newline ++ codes "  "))))
unfolding words_of meaning course_of
drawn_151 = refl

-- drawn at random: nothing is chosen, 1 question, 1 unknown name
drawn_152 : answers (settings false 2 (Some 2) 1 255)
    (listed (codes "rescue") None false false (Some []) ∷ listed (codes "a1") (Some (replicate 31 112)) false false None ∷ [])
    (Kept (codes "none")) (Some [])
    (typing (codes "none" ++ newline ++ newline))
    ≡ expected None
    (codes "boot: none" ++ newline ++ codes "No such image." ++ newline ++ codes "boot: " ++ newline ++ codes "Password: " ++ newline ++ codes "boot: ")
    (Kept (codes "none")) []
    (Some (opened [] (typing (codes "one" ++ newline ++ newline))))
unfolding words_of meaning course_of
drawn_152 = refl

-- drawn at random: an automatic choice, a new default line, keys are left
drawn_153 : answers (settings true 1 (Some 0) 1 255)
    (listed (codes "a1") (Some (codes "a b")) false false (Some []) ∷ listed (codes "x") (Some (codes "abc")) true false (Some []) ∷ listed (codes "old") (Some (codes "a b")) false true None ∷ listed (codes "dos") None false true None ∷ [])
    (Once (codes "none vga=65536")) None
    (typing (codes "abc" ++ newline ++ codes "a b" ++ newline))
    ≡ expected (Some (chosen 1 [] true None))
    (codes "boot: " ++ newline)
    Empty (typing (codes "abc" ++ newline ++ codes "a b" ++ newline))
    (Some (opened [] (typing (codes "abc" ++ newline ++ codes "a b" ++ newline))))
unfolding words_of meaning course_of
drawn_153 = refl

-- drawn at random: nothing is chosen, 1 question, 6 unknown names
drawn_154 : answers (settings true 0 None 0 255)
    (listed (codes "x") (Some (codes "a b")) false true None ∷ listed (codes "lock") None false false None ∷ [])
    Empty (Some (codes "boot: "))
    (typing (codes "none" ++ newline ++ codes "abc" ++ newline ++ codes "a b" ++ newline ++ (8 ∷ []) ++ (8 ∷ []) ++ codes "none aabc" ++ newline ++ codes "single vga=bad" ++ newline ++ codes "a b" ++ newline) ++ waiting 1 ++ typing ((9 ∷ []) ++ codes "x vga=0x1F" ++ newline))
    ≡ expected None
    (codes "boot: boot: none" ++ newline ++ codes "No such image." ++ newline ++ codes "boot: abc" ++ newline ++ codes "No such image." ++ newline ++ codes "boot: a b" ++ newline ++ codes "No such image." ++ newline ++ codes "boot: none aabc" ++ newline ++ codes "No such image." ++ newline ++ codes "boot: single vga=bad" ++ newline ++ codes "No such image." ++ newline ++ codes "boot: a b" ++ newline ++ codes "No such image." ++ newline ++ codes "boot: " ++ newline ++ codes "x" ++ newline ++ codes "lock" ++ newline ++ codes "boot: x vga=0x1F" ++ newline ++ codes "Password: " ++ newline ++ codes "boot: ")
    Empty []
    (Some (opened [] (typing (codes "none" ++ newline ++ codes "abc" ++ newline ++ codes "a b" ++ newline ++ (8 ∷ []) ++ (8 ∷ []) ++ codes "none aabc" ++ newline ++ codes "single vga=bad" ++ newline ++ codes "a b" ++ newline) ++ waiting 1 ++ typing ((9 ∷ []) ++ codes "x vga=0x1F" ++ newline))))
unfolding words_of meaning course_of
drawn_154 = refl

-- drawn at random: an automatic choice, keys are left
drawn_155 : answers (settings true 1 (Some 0) 0 470)
    (listed (codes "x") None false false None ∷ listed (codes "a1") (Some (codes "secret")) true false (Some (codes "x")) ∷ [])
    Empty (Some (codes "Hello" ++ newline))
    (typing ((21 ∷ []) ++ codes "quiet vga=5" ++ newline ++ newline ++ replicate 31 112 ++ newline ++ (8 ∷ []) ++ (8 ∷ []) ++ (8 ∷ []) ++ (8 ∷ []) ++ (8 ∷ [])) ++ waiting 9 ++ typing ((127 ∷ []) ++ codes "x" ++ newline))
    ≡ expected (Some (chosen 0 [] true None))
    (codes "Hello" ++ newline ++ codes "boot: " ++ newline)
    Empty (typing ((21 ∷ []) ++ codes "quiet vga=5" ++ newline ++ newline ++ replicate 31 112 ++ newline ++ (8 ∷ []) ++ (8 ∷ []) ++ (8 ∷ []) ++ (8 ∷ []) ++ (8 ∷ [])) ++ waiting 9 ++ typing ((127 ∷ []) ++ codes "x" ++ newline))
    (Some (opened [] (typing ((21 ∷ []) ++ codes "quiet vga=5" ++ newline ++ newline ++ replicate 31 112 ++ newline ++ (8 ∷ []) ++ (8 ∷ []) ++ (8 ∷ []) ++ (8 ∷ []) ++ (8 ∷ [])) ++ waiting 9 ++ typing ((127 ∷ []) ++ codes "x" ++ newline))))
unfolding words_of meaning course_of
drawn_155 = refl

-- drawn at random: nothing is chosen, 1 question, 2 unknown names
drawn_156 : answers (settings false 2 None 0 255)
    (listed (codes "lock") (Some (replicate 31 112)) false false (Some []) ∷ [])
    Empty None
    (typing (codes "ro" ++ (13 ∷ []) ++ codes "locksecret" ++ newline ++ codes "lock" ++ newline) ++ waiting 3)
    ≡ expected None
    (codes "boot: ro" ++ newline ++ codes "No such image." ++ newline ++ codes "boot: locksecret" ++ newline ++ codes "No such image." ++ newline ++ codes "boot: lock" ++ newline ++ codes "Password: " ++ newline ++ codes "boot: ")
    Empty []
    (Some (opened [] (typing (codes "o" ++ (13 ∷ []) ++ codes "locksecret" ++ newline ++ codes "lock" ++ newline) ++ waiting 3)))
unfolding words_of meaning course_of
drawn_156 = refl

-- drawn at random: a typed choice, 1 question, 1 wrong, 3 unknown names, keys are left
drawn_157 : answers (settings true 3 (Some 4) 1 12)
    (listed (codes "rescue") None false false None ∷ listed (codes "linux") (Some (replicate 31 112)) true false None ∷ listed (codes "lock") (Some (codes "a b")) false false None ∷ [])
    Empty (Some (codes "boot: "))
    (typing (replicate 31 112 ++ newline ++ replicate 31 112 ++ newline ++ codes "lock" ++ (13 ∷ []) ++ (21 ∷ []) ++ newline ++ (21 ∷ []) ++ codes "  none" ++ replicate 31 112 ++ newline ++ newline) ++ waiting 9)
    ≡ expected (Some (chosen 1 [] false None))
    (codes "boot: boot: pppppppppppp" ++ newline ++ codes "No such image." ++ newline ++ codes "boot: pppppppppppp" ++ newline ++ codes "No such image." ++ newline ++ codes "boot: lock" ++ newline ++ codes "Password: " ++ newline ++ codes "Sorry." ++ newline ++ codes "boot: " ++ newline ++ codes "boot:   nonepppppp" ++ newline ++ codes "No such image." ++ newline ++ codes "boot: " ++ newline)
    Empty (waiting 9)
    (Some (opened [] (typing (replicate 31 112 ++ newline ++ replicate 31 112 ++ newline ++ codes "lock" ++ (13 ∷ []) ++ (21 ∷ []) ++ newline ++ (21 ∷ []) ++ codes "  none" ++ replicate 31 112 ++ newline ++ newline) ++ waiting 9)))
unfolding words_of meaning course_of
drawn_157 = refl

-- drawn at random: a typed choice
drawn_158 : answers (settings true 8 (Some 9) 0 255)
    (listed (codes "lock") (Some (codes "tux")) true false None ∷ listed (codes "x") None false false None ∷ [])
    (Kept (codes "none")) None
    (typing (codes "lock" ++ newline))
    ≡ expected (Some (chosen 0 [] false None))
    (codes "boot: lock" ++ newline)
    (Kept (codes "none")) []
    (Some (opened [] (typing (codes "lock" ++ newline))))
unfolding words_of meaning course_of
drawn_158 = refl

-- drawn at random: an automatic choice
drawn_159 : answers (settings true 8 (Some 2) 0 255)
    (listed (codes "lock") None false false None ∷ listed (codes "linux") (Some (codes "abc")) true false (Some []) ∷ [])
    Empty (Some [])
    []
    ≡ expected (Some (chosen 0 [] true None))
    (codes "boot: " ++ newline)
    Empty []
    (Some (opened [] []))
unfolding words_of meaning course_of
drawn_159 = refl

-- drawn at random: an automatic choice, keys are left
drawn_160 : answers (settings true 1 (Some 0) 0 470)
    (listed (codes "linux") None false false None ∷ [])
    Empty None
    (typing (codes "linux" ++ newline))
    ≡ expected (Some (chosen 0 [] true None))
    (codes "boot: " ++ newline)
    Empty (typing (codes "linux" ++ newline))
    (Some (opened [] (typing (codes "linux" ++ newline))))
unfolding words_of meaning course_of
drawn_160 = refl

-- drawn at random: a typed choice, 1 unknown name, keys are left
drawn_161 : answers (settings false 2 (Some 1) 2 5)
    (listed (codes "rescue") (Some (codes "abc")) false false (Some ((63 ∷ []) ++ codes " " ++ (63 ∷ []))) ∷ listed (codes "a1") None false false None ∷ listed (codes "lock") (Some (codes "a b")) true false None ∷ [])
    Empty (Some [])
    (typing (codes "abc" ++ newline ++ codes "lock" ++ newline ++ (63 ∷ []) ++ (21 ∷ [])))
    ≡ expected (Some (chosen 2 [] false None))
    (codes "boot: abc" ++ newline ++ codes "No such image." ++ newline ++ codes "boot: lock" ++ newline)
    Empty (typing ((63 ∷ []) ++ (21 ∷ [])))
    (Some (opened [] (typing (codes "bc" ++ newline ++ codes "lock" ++ newline ++ (63 ∷ []) ++ (21 ∷ [])))))
unfolding words_of meaning course_of
drawn_161 = refl

-- drawn at random: nothing is chosen, 2 questions, 1 wrong, 2 unknown names
drawn_162 : answers (settings true 0 None 1 255)
    (listed (codes "x") (Some (codes "secret")) true true None ∷ listed (codes "linux") (Some (codes "secret")) false false None ∷ [])
    (Once (codes "linux vga=65536")) None
    (typing (codes "linux" ++ newline ++ replicate 31 112 ++ newline ++ codes "  " ++ (9 ∷ []) ++ codes "none vga=normal" ++ newline ++ newline))
    ≡ expected None
    (codes "Password: " ++ newline ++ codes "Sorry." ++ newline ++ codes "boot: " ++ replicate 31 112 ++ newline ++ codes "No such image." ++ newline ++ codes "boot:   none vga=normal" ++ newline ++ codes "No such image." ++ newline ++ codes "boot: " ++ newline ++ codes "Password: " ++ newline ++ codes "boot: ")
    (Once (codes "linux vga=65536")) []
    (Some (opened (codes "Password: " ++ newline ++ codes "Sorry." ++ newline) (typing (replicate 31 112 ++ newline ++ codes "  " ++ (9 ∷ []) ++ codes "none vga=normal" ++ newline ++ newline))))
unfolding words_of meaning course_of
drawn_162 = refl

-- drawn at random: a typed choice, 1 question, 1 wrong, keys are left
drawn_163 : answers (settings true 5 None 2 255)
    (listed (codes "a1") None false false (Some (codes "x vga=bad")) ∷ listed (codes "linux") (Some (codes "secret")) false false None ∷ listed (codes "x") None false false None ∷ [])
    Empty None
    (waiting 3 ++ typing (codes "linux" ++ newline ++ newline ++ newline ++ codes "x" ++ newline) ++ waiting 5 ++ typing (codes "x" ++ (13 ∷ [])) ++ waiting 5 ++ typing (newline ++ newline))
    ≡ expected (Some (chosen 2 [] false None))
    (codes "boot: linux" ++ newline ++ codes "Password: " ++ newline ++ codes "Sorry." ++ newline ++ codes "boot: " ++ newline)
    Empty (typing (codes "x" ++ newline) ++ waiting 5 ++ typing (codes "x" ++ (13 ∷ [])) ++ waiting 5 ++ typing (newline ++ newline))
    (Some (opened [] (waiting 3 ++ typing (codes "linux" ++ newline ++ newline ++ newline ++ codes "x" ++ newline) ++ waiting 5 ++ typing (codes "x" ++ (13 ∷ [])) ++ waiting 5 ++ typing (newline ++ newline))))
unfolding words_of meaning course_of
drawn_163 = refl

-- drawn at random: nothing is chosen, 3 questions, 2 wrong, 1 unknown name
drawn_164 : answers (settings false 8 None 1 255)
    (listed (codes "old") (Some []) false false None ∷ listed (codes "dos") (Some (codes "secret")) false true None ∷ [])
    Empty None
    (typing (codes "secret" ++ newline ++ codes "old vga=ask vga=old lock vga=bad single" ++ (13 ∷ [])) ++ waiting 2 ++ typing (codes "a a" ++ (13 ∷ []) ++ codes "old lock quiet" ++ newline ++ (9 ∷ []) ++ codes "old" ++ newline ++ newline ++ (21 ∷ [])) ++ waiting 2)
    ≡ expected None
    (codes "boot: secret" ++ newline ++ codes "No such image." ++ newline ++ codes "boot: old vga=ask vga=old lock vga=bad single" ++ newline ++ codes "Password: " ++ newline ++ codes "Sorry." ++ newline ++ codes "boot: old lock quiet" ++ newline ++ codes "Password: " ++ newline ++ codes "Sorry." ++ newline ++ codes "boot: " ++ newline ++ codes "Password: " ++ newline ++ codes "boot: ")
    Empty []
    (Some (opened [] (typing (codes "ecret" ++ newline ++ codes "old vga=ask vga=old lock vga=bad single" ++ (13 ∷ [])) ++ waiting 2 ++ typing (codes "a a" ++ (13 ∷ []) ++ codes "old lock quiet" ++ newline ++ (9 ∷ []) ++ codes "old" ++ newline ++ newline ++ (21 ∷ [])) ++ waiting 2)))
unfolding words_of meaning course_of
drawn_164 = refl

-- drawn at random: an automatic choice, no prompt, 1 question, a new default line, keys are left
drawn_165 : answers (settings true 0 (Some 0) 0 255)
    (listed (codes "rescue") (Some []) false false None ∷ listed (codes "x") (Some []) true false None ∷ [])
    (Once (codes "rescue")) None
    (typing ((9 ∷ []) ++ newline ++ codes "abc" ++ newline) ++ waiting 2 ++ typing (codes "a vga=65536 vga=normal vga=5" ++ newline ++ (9 ∷ []) ++ codes "rescue quiet vga=normal" ++ newline ++ codes "x" ++ newline))
    ≡ expected (Some (chosen 0 [] true None))
    (codes "Password: " ++ newline)
    Empty (typing (codes "abc" ++ newline) ++ waiting 2 ++ typing (codes "a vga=65536 vga=normal vga=5" ++ newline ++ (9 ∷ []) ++ codes "rescue quiet vga=normal" ++ newline ++ codes "x" ++ newline))
    None
unfolding words_of meaning course_of
drawn_165 = refl

-- drawn at random: an automatic choice, no prompt
drawn_166 : answers (settings true 1 (Some 2) 2 255)
    (listed (codes "a1") None false false None ∷ listed (codes "rescue") (Some (codes "a b")) false false None ∷ listed (codes "lock") None false false (Some (codes "lock root=/dev/hda1")) ∷ listed (codes "linux") None false false None ∷ [])
    (Kept (codes "linux quiet a vga=5")) (Some (codes "Hello" ++ newline))
    []
    ≡ expected (Some (chosen 3 (codes "quiet a") true (Some 5)))
    []
    (Kept (codes "linux quiet a vga=5")) []
    None
unfolding words_of meaning course_of
drawn_166 = refl

-- drawn at random: an automatic choice, a new default line, keys are left
drawn_167 : answers (settings true 8 (Some 0) 1 255)
    (listed (codes "linux") None false false None ∷ listed (codes "rescue") None false false (Some (codes "x")) ∷ listed (codes "x") None false false None ∷ [])
    Empty (Some (codes "Hello" ++ newline))
    (typing (codes "linux" ++ newline ++ (8 ∷ []) ++ newline))
    ≡ expected (Some (chosen 1 [] true None))
    (codes "Hello" ++ newline ++ codes "boot: " ++ newline)
    (Kept (codes "x")) (typing (codes "linux" ++ newline ++ (8 ∷ []) ++ newline))
    (Some (opened [] (typing (codes "linux" ++ newline ++ (8 ∷ []) ++ newline))))
unfolding words_of meaning course_of
drawn_167 = refl

-- drawn at random: a typed choice, 3 unknown names
drawn_168 : answers (settings false 2 (Some 2) 1 5)
    (listed (codes "dos") (Some (codes "abc")) false false (Some (codes "none vga=ask")) ∷ listed (codes "linux") None false false None ∷ [])
    Empty None
    (typing ((127 ∷ []) ++ (127 ∷ []) ++ (127 ∷ []) ++ (127 ∷ []) ++ (127 ∷ []) ++ (9 ∷ []) ++ codes "vga=65536 vga=0x1F vga=normal vga=0x1F" ++ (13 ∷ []) ++ codes "abc" ++ newline ++ (9 ∷ []) ++ (7 ∷ []) ++ codes "abc" ++ newline ++ codes "linux" ++ newline))
    ≡ expected (Some (chosen 1 [] false None))
    (codes "boot: vga=6" ++ newline ++ codes "No such image." ++ newline ++ codes "boot: abc" ++ newline ++ codes "No such image." ++ newline ++ codes "boot: " ++ newline ++ codes "dos" ++ newline ++ codes "linux" ++ newline ++ codes "boot: abc" ++ newline ++ codes "No such image." ++ newline ++ codes "boot: linux" ++ newline)
    Empty []
    (Some (opened [] (typing ((127 ∷ []) ++ (127 ∷ []) ++ (127 ∷ []) ++ (127 ∷ []) ++ (9 ∷ []) ++ codes "vga=65536 vga=0x1F vga=normal vga=0x1F" ++ (13 ∷ []) ++ codes "abc" ++ newline ++ (9 ∷ []) ++ (7 ∷ []) ++ codes "abc" ++ newline ++ codes "linux" ++ newline))))
unfolding words_of meaning course_of
drawn_168 = refl

-- drawn at random: an automatic choice
drawn_169 : answers (settings true 5 (Some 1) 2 255)
    (listed (codes "linux") None false false None ∷ listed (codes "a1") (Some (codes "secret")) false false (Some (codes "vga=normal")) ∷ listed (codes "lock") (Some []) true false None ∷ listed (codes "dos") (Some []) true false None ∷ [])
    (Kept (codes "none vga=bad vga= single")) None
    []
    ≡ expected (Some (chosen 2 [] true None))
    (codes "boot: " ++ newline)
    (Kept (codes "none vga=bad vga= single")) []
    (Some (opened [] []))
unfolding words_of meaning course_of
drawn_169 = refl

-- drawn at random: a typed choice, 1 question, 1 wrong, 1 unknown name, a new default line, keys are left
drawn_170 : answers (settings false 5 (Some 2) 1 255)
    (listed (codes "linux") None false false (Some (codes "linux single a")) ∷ listed (codes "lock") (Some (codes "secret")) false false (Some []) ∷ [])
    Empty None
    (typing (codes "tux" ++ newline ++ (63 ∷ []) ++ codes "lock" ++ newline ++ codes "linux" ++ newline ++ codes "  " ++ (8 ∷ []) ++ (8 ∷ []) ++ (8 ∷ []) ++ (8 ∷ []) ++ (8 ∷ []) ++ codes "linux" ++ newline ++ newline ++ codes "linux a" ++ newline) ++ waiting 1 ++ typing ((8 ∷ []) ++ (8 ∷ []) ++ (8 ∷ []) ++ (8 ∷ []) ++ (8 ∷ [])))
    ≡ expected (Some (chosen 0 [] false None))
    (codes "boot: tux" ++ newline ++ codes "No such image." ++ newline ++ codes "boot: " ++ newline ++ codes "linux" ++ newline ++ codes "lock" ++ newline ++ codes "boot: lock" ++ newline ++ codes "Password: " ++ newline ++ codes "Sorry." ++ newline ++ codes "boot:   " ++ erasing_text ++ erasing_text ++ codes "linux" ++ newline)
    (Kept (codes "linux single a")) (typing (newline ++ codes "linux a" ++ newline) ++ waiting 1 ++ typing ((8 ∷ []) ++ (8 ∷ []) ++ (8 ∷ []) ++ (8 ∷ []) ++ (8 ∷ [])))
    (Some (opened [] (typing (codes "ux" ++ newline ++ (63 ∷ []) ++ codes "lock" ++ newline ++ codes "linux" ++ newline ++ codes "  " ++ (8 ∷ []) ++ (8 ∷ []) ++ (8 ∷ []) ++ (8 ∷ []) ++ (8 ∷ []) ++ codes "linux" ++ newline ++ newline ++ codes "linux a" ++ newline) ++ waiting 1 ++ typing ((8 ∷ []) ++ (8 ∷ []) ++ (8 ∷ []) ++ (8 ∷ []) ++ (8 ∷ [])))))
unfolding words_of meaning course_of
drawn_170 = refl

-- drawn at random: a typed choice, 1 question, 1 wrong, a new default line, keys are left
drawn_171 : answers (settings true 5 (Some 0) 0 255)
    (listed (codes "lock") (Some (codes "secret")) false false (Some (codes "rescue vga=5 vga=5 vga=")) ∷ listed (codes "x") None false false None ∷ listed (codes "rescue") None false true None ∷ [])
    Empty (Some (codes "boot: "))
    (waiting 9 ++ typing (codes "x" ++ newline ++ codes "rescue" ++ newline ++ codes "none lock vga=normal" ++ newline ++ (255 ∷ [])) ++ waiting 5 ++ typing (codes "x vga=5a b" ++ newline))
    ≡ expected (Some (chosen 2 [] false None))
    (codes "boot: boot: " ++ newline ++ codes "Password: " ++ newline ++ codes "Sorry." ++ newline ++ codes "boot: rescue" ++ newline)
    (Kept (codes "rescue")) (typing (codes "none lock vga=normal" ++ newline ++ (255 ∷ [])) ++ waiting 5 ++ typing (codes "x vga=5a b" ++ newline))
    (Some (opened [] (waiting 9 ++ typing (codes "x" ++ newline ++ codes "rescue" ++ newline ++ codes "none lock vga=normal" ++ newline ++ (255 ∷ [])) ++ waiting 5 ++ typing (codes "x vga=5a b" ++ newline))))
unfolding words_of meaning course_of
drawn_171 = refl

-- drawn at random: an automatic choice, a new default line
drawn_172 : answers (settings true 2 (Some 2) 1 12)
    (listed (codes "lock") None false false (Some (codes "root=/dev/hda1 single")) ∷ listed (codes "x") None false true None ∷ [])
    Empty (Some (codes "Hello" ++ newline))
    []
    ≡ expected (Some (chosen 1 [] true None))
    (codes "Hello" ++ newline ++ codes "boot: " ++ newline)
    (Kept (codes "x")) []
    (Some (opened [] []))
unfolding words_of meaning course_of
drawn_172 = refl

-- drawn at random: an automatic choice
drawn_173 : answers (settings true 3 (Some 9) 1 255)
    (listed (codes "a1") None false false None ∷ listed (codes "old") (Some (replicate 31 112)) true false (Some []) ∷ [])
    Empty (Some (codes "boot: "))
    []
    ≡ expected (Some (chosen 1 [] true None))
    (codes "boot: boot: " ++ newline)
    Empty []
    (Some (opened [] []))
unfolding words_of meaning course_of
drawn_173 = refl

-- drawn at random: a typed choice, 2 unknown names
drawn_174 : answers (settings true 5 None 2 12)
    (listed (codes "x") (Some []) true false (Some []) ∷ listed (codes "lock") None false false (Some []) ∷ listed (codes "linux") None false false None ∷ listed (codes "old") (Some []) false true None ∷ [])
    Empty (Some (codes "Hello" ++ newline))
    (typing ((21 ∷ []) ++ codes "secret" ++ newline ++ codes "secret" ++ newline ++ codes "x" ++ newline))
    ≡ expected (Some (chosen 0 [] false None))
    (codes "Hello" ++ newline ++ codes "boot: " ++ newline ++ codes "boot: secret" ++ newline ++ codes "No such image." ++ newline ++ codes "boot: secret" ++ newline ++ codes "No such image." ++ newline ++ codes "boot: x" ++ newline)
    Empty []
    (Some (opened [] (typing ((21 ∷ []) ++ codes "secret" ++ newline ++ codes "secret" ++ newline ++ codes "x" ++ newline))))
unfolding words_of meaning course_of
drawn_174 = refl

-- drawn at random: a typed choice, a new default line
drawn_175 : answers (settings false 5 (Some 9) 0 470)
    (listed (codes "rescue") (Some (replicate 31 112)) true true None ∷ [])
    Empty None
    (typing newline)
    ≡ expected (Some (chosen 0 [] false None))
    (codes "boot: " ++ newline)
    (Kept (codes "rescue")) []
    (Some (opened [] []))
unfolding words_of meaning course_of
drawn_175 = refl

-- drawn at random: an automatic choice
drawn_176 : answers (settings true 1 (Some 9) 2 255)
    (listed (codes "lock") None false false (Some (codes "none vga= vga=65536")) ∷ listed (codes "rescue") None false false None ∷ listed (codes "x") None false false (Some []) ∷ listed (codes "old") None false false (Some (codes "x vga=bad quiet")) ∷ [])
    (Kept (codes "none")) None
    []
    ≡ expected (Some (chosen 2 [] true None))
    (codes "boot: " ++ newline)
    (Kept (codes "none")) []
    (Some (opened [] []))
unfolding words_of meaning course_of
drawn_176 = refl

-- drawn at random: nothing is chosen, 1 question, 2 unknown names
drawn_177 : answers (settings true 0 (Some 1) 0 255)
    (listed (codes "a1") (Some (replicate 31 112)) false false (Some (codes "none lock")) ∷ [])
    Empty None
    (typing ((21 ∷ []) ++ codes "  single vga=65536" ++ newline ++ replicate 31 112 ++ newline ++ codes "a1" ++ newline ++ (0 ∷ [])))
    ≡ expected None
    (codes "boot: " ++ newline ++ codes "boot:   single vga=65536" ++ newline ++ codes "No such image." ++ newline ++ codes "boot: " ++ replicate 31 112 ++ newline ++ codes "No such image." ++ newline ++ codes "boot: a1" ++ newline ++ codes "Password: " ++ newline ++ codes "boot: ")
    Empty []
    (Some (opened [] (typing ((21 ∷ []) ++ codes "  single vga=65536" ++ newline ++ replicate 31 112 ++ newline ++ codes "a1" ++ newline ++ (0 ∷ [])))))
unfolding words_of meaning course_of
drawn_177 = refl

-- drawn at random: nothing is chosen, 1 question, 3 unknown names
drawn_178 : answers (settings true 1 (Some 2) 0 255)
    (listed (codes "lock") (Some (codes "tux")) false false None ∷ [])
    (Kept (codes "vga=bad vga= vga=ask " ++ (63 ∷ []))) None
    (typing (codes "none" ++ newline ++ codes "none " ++ (63 ∷ []) ++ codes " vga=0x1F single" ++ newline ++ newline) ++ waiting 600 ++ typing (codes "secret" ++ newline) ++ waiting 2)
    ≡ expected None
    (codes "boot: none" ++ newline ++ codes "No such image." ++ newline ++ codes "boot: none " ++ (63 ∷ []) ++ codes " vga=0x1F single" ++ newline ++ codes "No such image." ++ newline ++ codes "boot: " ++ newline ++ codes "Password: " ++ newline ++ codes "boot: secret" ++ newline ++ codes "No such image." ++ newline ++ codes "boot: ")
    (Kept (codes "vga=bad vga= vga=ask " ++ (63 ∷ []))) []
    (Some (opened [] (typing (codes "none" ++ newline ++ codes "none " ++ (63 ∷ []) ++ codes " vga=0x1F single" ++ newline ++ newline) ++ waiting 600 ++ typing (codes "secret" ++ newline) ++ waiting 2)))
unfolding words_of meaning course_of
drawn_178 = refl

-- drawn at random: an automatic choice, a new default line
drawn_179 : answers (settings true 1 (Some 4) 0 255)
    (listed (codes "x") (Some (codes "abc")) true false (Some (codes "x root=/dev/hda1 " ++ (63 ∷ []) ++ codes " vga=bad")) ∷ listed (codes "lock") None false false None ∷ [])
    Empty (Some (codes "Hello" ++ newline))
    []
    ≡ expected (Some (chosen 0 [] true None))
    (codes "Hello" ++ newline ++ codes "boot: " ++ newline)
    (Kept (codes "x root=/dev/hda1 " ++ (63 ∷ []) ++ codes " vga=bad")) []
    (Some (opened [] []))
unfolding words_of meaning course_of
drawn_179 = refl

-- drawn at random: a typed choice, 1 unknown name
drawn_180 : answers (settings true 8 (Some 1) 0 5)
    (listed (codes "lock") None false false None ∷ listed (codes "a1") None false false (Some []) ∷ listed (codes "dos") None false false None ∷ listed (codes "old") None false false None ∷ [])
    Empty None
    (typing (codes "tux" ++ newline ++ codes "lock vga=65536" ++ newline))
    ≡ expected (Some (chosen 0 [] false None))
    (codes "boot: tux" ++ newline ++ codes "No such image." ++ newline ++ codes "boot: lock " ++ newline)
    Empty []
    (Some (opened [] (typing (codes "tux" ++ newline ++ codes "lock vga=65536" ++ newline))))
unfolding words_of meaning course_of
drawn_180 = refl

-- drawn at random: a typed choice, a new default line
drawn_181 : answers (settings true 2 (Some 2) 0 255)
    (listed (codes "dos") None false false None ∷ listed (codes "lock") None false false (Some []) ∷ [])
    (Once (codes "none vga=5 ro")) None
    (typing newline)
    ≡ expected (Some (chosen 0 [] false None))
    (codes "boot: " ++ newline)
    Empty []
    (Some (opened [] (typing newline)))
unfolding words_of meaning course_of
drawn_181 = refl

-- drawn at random: an automatic choice, no prompt
drawn_182 : answers (settings false 1 None 1 255)
    (listed (codes "linux") (Some (codes "abc")) false true None ∷ listed (codes "a1") None false false None ∷ [])
    Empty None
    []
    ≡ expected (Some (chosen 1 [] true None))
    []
    Empty []
    None
unfolding words_of meaning course_of
drawn_182 = refl

-- drawn at random: an automatic choice, no prompt, 1 question, a new default line, keys are left
drawn_183 : answers (settings false 0 None 1 12)
    (listed (codes "rescue") (Some (replicate 31 112)) true false None ∷ listed (codes "dos") (Some (replicate 31 112)) false false (Some (codes "dos single lock")) ∷ [])
    Empty None
    (typing (replicate 31 112 ++ newline ++ codes "none" ++ (13 ∷ []) ++ codes "rescue vga=normalrescue lock vga=normal lock" ++ (13 ∷ []) ++ codes "dos vga= root=/dev/hda1 vga=65536" ++ (13 ∷ [])) ++ waiting 600)
    ≡ expected (Some (chosen 1 [] true None))
    (codes "Password: " ++ newline)
    (Kept (codes "dos single lock")) (typing (codes "none" ++ (13 ∷ []) ++ codes "rescue vga=normalrescue lock vga=normal lock" ++ (13 ∷ []) ++ codes "dos vga= root=/dev/hda1 vga=65536" ++ (13 ∷ [])) ++ waiting 600)
    None
unfolding words_of meaning course_of
drawn_183 = refl

-- drawn at random: a typed choice
drawn_184 : answers (settings false 3 (Some 1) 1 5)
    (listed (codes "dos") None false true None ∷ listed (codes "rescue") None false false (Some []) ∷ listed (codes "old") (Some []) true false None ∷ [])
    Empty None
    (typing newline)
    ≡ expected (Some (chosen 1 [] false None))
    (codes "boot: " ++ newline)
    Empty []
    (Some (opened [] []))
unfolding words_of meaning course_of
drawn_184 = refl

-- drawn at random: a typed choice, 1 question, 1 wrong, keys are left
drawn_185 : answers (settings false 0 (Some 1) 2 255)
    (listed (codes "rescue") None false false None ∷ listed (codes "linux") (Some (codes "abc")) true false (Some []) ∷ listed (codes "x") (Some (codes "secret")) false false None ∷ listed (codes "lock") None false false (Some []) ∷ [])
    Empty (Some (codes "boot: "))
    (typing (codes "none" ++ newline ++ (63 ∷ []) ++ codes "lock" ++ newline) ++ waiting 5 ++ typing (codes "  linux" ++ newline ++ codes "rescue" ++ newline) ++ waiting 5)
    ≡ expected (Some (chosen 3 [] false None))
    (codes "Password: " ++ newline ++ codes "Sorry." ++ newline ++ codes "boot: boot: " ++ newline ++ codes "rescue" ++ newline ++ codes "linux" ++ newline ++ codes "x" ++ newline ++ codes "lock" ++ newline ++ codes "boot: lock" ++ newline)
    Empty (waiting 5 ++ typing (codes "  linux" ++ newline ++ codes "rescue" ++ newline) ++ waiting 5)
    (Some (opened (codes "Password: " ++ newline ++ codes "Sorry." ++ newline) (typing ((63 ∷ []) ++ codes "lock" ++ newline) ++ waiting 5 ++ typing (codes "  linux" ++ newline ++ codes "rescue" ++ newline) ++ waiting 5)))
unfolding words_of meaning course_of
drawn_185 = refl

-- drawn at random: an automatic choice, no prompt
drawn_186 : answers (settings false 0 None 1 255)
    (listed (codes "old") (Some (codes "secret")) true false (Some []) ∷ listed (codes "linux") (Some (codes "a b")) false false None ∷ listed (codes "rescue") None false false None ∷ listed (codes "dos") None false false None ∷ [])
    (Kept (codes "rescue a")) None
    []
    ≡ expected (Some (chosen 2 (codes "a") true None))
    []
    (Kept (codes "rescue a")) []
    None
unfolding words_of meaning course_of
drawn_186 = refl

-- drawn at random: a typed choice, 1 question, 1 wrong
drawn_187 : answers (settings true 3 None 1 470)
    (listed (codes "dos") None false false None ∷ listed (codes "old") (Some (codes "a b")) false true None ∷ [])
    Empty (Some (codes "Hello" ++ newline))
    (typing (codes "  " ++ newline ++ codes "tux" ++ newline ++ codes "dos vga=5 vga=" ++ (13 ∷ [])))
    ≡ expected (Some (chosen 0 [] false (Some 5)))
    (codes "Hello" ++ newline ++ codes "boot:   " ++ newline ++ codes "Password: " ++ newline ++ codes "Sorry." ++ newline ++ codes "boot: dos vga=5 vga=" ++ newline)
    Empty []
    (Some (opened [] (typing (codes "  " ++ newline ++ codes "tux" ++ newline ++ codes "dos vga=5 vga=" ++ (13 ∷ [])))))
unfolding words_of meaning course_of
drawn_187 = refl

-- drawn at random: an automatic choice, no prompt
drawn_188 : answers (settings false 1 (Some 0) 0 255)
    (listed (codes "a1") None false false None ∷ [])
    (Kept (codes "vga=normal quiet vga=bad single")) None
    []
    ≡ expected (Some (chosen 0 [] true None))
    []
    (Kept (codes "vga=normal quiet vga=bad single")) []
    None
unfolding words_of meaning course_of
drawn_188 = refl

-- drawn at random: a typed choice
drawn_189 : answers (settings true 0 None 1 255)
    (listed (codes "dos") (Some (codes "a b")) false false None ∷ listed (codes "a1") (Some (codes "a b")) true false (Some []) ∷ [])
    Empty None
    (typing (codes "a1" ++ newline))
    ≡ expected (Some (chosen 1 [] false None))
    (codes "boot: a1" ++ newline)
    Empty []
    (Some (opened [] (typing (codes "a1" ++ newline))))
unfolding words_of meaning course_of
drawn_189 = refl

-- drawn at random: an automatic choice, a new default line
drawn_190 : answers (settings true 2 (Some 9) 0 255)
    (listed (codes "a1") None false false None ∷ [])
    (Once (codes "vga=bad single")) (Some (codes "boot: "))
    []
    ≡ expected (Some (chosen 0 [] true None))
    (codes "boot: boot: " ++ newline)
    Empty []
    (Some (opened [] []))
unfolding words_of meaning course_of
drawn_190 = refl

-- drawn at random: a typed choice, 1 question, 1 wrong, 2 unknown names, keys are left
drawn_191 : answers (settings true 0 (Some 4) 1 255)
    (listed (codes "dos") (Some (codes "secret")) true false (Some []) ∷ listed (codes "rescue") (Some []) true false None ∷ [])
    Empty (Some (codes "boot: "))
    (typing (codes "none" ++ newline ++ codes "rescue quiet" ++ (13 ∷ []) ++ codes "lock vga=ask" ++ newline ++ codes "vga=5 vga=0x1F vga=bad ro" ++ newline ++ (9 ∷ []) ++ newline ++ newline) ++ waiting 1)
    ≡ expected (Some (chosen 1 [] false None))
    (codes "boot: boot: none" ++ newline ++ codes "No such image." ++ newline ++ codes "boot: rescue quiet" ++ newline ++ codes "Password: " ++ newline ++ codes "Sorry." ++ newline ++ codes "boot: vga=5 vga=0x1F vga=bad ro" ++ newline ++ codes "No such image." ++ newline ++ codes "boot: " ++ newline ++ codes "dos" ++ newline ++ codes "rescue" ++ newline ++ codes "boot: " ++ newline)
    Empty (typing newline ++ waiting 1)
    (Some (opened [] (typing (codes "none" ++ newline ++ codes "rescue quiet" ++ (13 ∷ []) ++ codes "lock vga=ask" ++ newline ++ codes "vga=5 vga=0x1F vga=bad ro" ++ newline ++ (9 ∷ []) ++ newline ++ newline) ++ waiting 1)))
unfolding words_of meaning course_of
drawn_191 = refl

-- drawn at random: an automatic choice
drawn_192 : answers (settings true 0 (Some 4) 3 470)
    (listed (codes "old") (Some []) true false None ∷ listed (codes "a1") None false false (Some []) ∷ listed (codes "lock") None false false (Some []) ∷ listed (codes "x") None false false None ∷ [])
    Empty (Some (codes "boot: "))
    []
    ≡ expected (Some (chosen 3 [] true None))
    (codes "boot: boot: " ++ newline)
    Empty []
    (Some (opened [] []))
unfolding words_of meaning course_of
drawn_192 = refl

-- drawn at random: a typed choice, a new default line
drawn_193 : answers (settings false 3 (Some 4) 1 255)
    (listed (codes "x") None false false None ∷ listed (codes "lock") None false true None ∷ [])
    Empty None
    (typing (codes "lock vga=bad a" ++ newline))
    ≡ expected (Some (chosen 1 (codes "a") false None))
    (codes "boot: lock vga=bad a" ++ newline)
    (Kept (codes "lock vga=bad a")) []
    (Some (opened [] (typing (codes "ock vga=bad a" ++ newline))))
unfolding words_of meaning course_of
drawn_193 = refl

-- drawn at random: a typed choice, a new default line
drawn_194 : answers (settings true 0 (Some 4) 1 470)
    (listed (codes "rescue") None false false (Some (codes "linux")) ∷ listed (codes "linux") None false false None ∷ listed (codes "x") (Some (codes "tux")) true false None ∷ [])
    Empty (Some [])
    (typing (codes "linux lock single vga=65536" ++ newline))
    ≡ expected (Some (chosen 1 (codes "single") false None))
    (codes "boot: linux lock single vga=65536" ++ newline)
    (Kept (codes "linux single vga=65536")) []
    (Some (opened [] (typing (codes "linux lock single vga=65536" ++ newline))))
unfolding words_of meaning course_of
drawn_194 = refl

-- drawn at random: an automatic choice, a new default line, keys are left
drawn_195 : answers (settings true 8 (Some 0) 0 255)
    (listed (codes "x") None false false (Some (codes "x vga=5")) ∷ [])
    (Once (codes "none")) None
    (typing (codes "none" ++ newline ++ (21 ∷ []) ++ codes "none " ++ (63 ∷ []) ++ newline ++ newline))
    ≡ expected (Some (chosen 0 [] true None))
    (codes "boot: " ++ newline)
    (Kept (codes "x vga=5")) (typing (codes "none" ++ newline ++ (21 ∷ []) ++ codes "none " ++ (63 ∷ []) ++ newline ++ newline))
    (Some (opened [] (typing (codes "none" ++ newline ++ (21 ∷ []) ++ codes "none " ++ (63 ∷ []) ++ newline ++ newline))))
unfolding words_of meaning course_of
drawn_195 = refl

-- drawn at random: an automatic choice, a new default line, keys are left
drawn_196 : answers (settings true 0 (Some 0) 1 255)
    (listed (codes "rescue") (Some (codes "abc")) true false None ∷ listed (codes "linux") None false false (Some (codes "linux")) ∷ listed (codes "x") None false false (Some []) ∷ [])
    (Kept (codes "none vga=65536 vga=bad vga=bad")) None
    (typing (codes "none" ++ newline ++ newline) ++ waiting 5 ++ typing (codes "a b" ++ newline ++ (63 ∷ []) ++ codes "linux vga=normal" ++ (13 ∷ []) ++ codes "linux" ++ newline ++ codes "a b" ++ newline))
    ≡ expected (Some (chosen 1 [] true None))
    (codes "boot: " ++ newline)
    (Kept (codes "linux")) (typing (codes "none" ++ newline ++ newline) ++ waiting 5 ++ typing (codes "a b" ++ newline ++ (63 ∷ []) ++ codes "linux vga=normal" ++ (13 ∷ []) ++ codes "linux" ++ newline ++ codes "a b" ++ newline))
    (Some (opened [] (typing (codes "none" ++ newline ++ newline) ++ waiting 5 ++ typing (codes "a b" ++ newline ++ (63 ∷ []) ++ codes "linux vga=normal" ++ (13 ∷ []) ++ codes "linux" ++ newline ++ codes "a b" ++ newline))))
unfolding words_of meaning course_of
drawn_196 = refl

-- drawn at random: a typed choice, 2 questions, 1 wrong, keys are left
drawn_197 : answers (settings false 2 (Some 9) 0 12)
    (listed (codes "old") (Some (codes "tux")) false false (Some []) ∷ listed (codes "a1") (Some (codes "abc")) false false None ∷ [])
    Empty None
    (typing (codes "old" ++ newline ++ codes "vga=0x1F root=/dev/hda1" ++ newline ++ codes "old root=/dev/hda1 lock vga=" ++ newline ++ codes "tux" ++ newline ++ codes "a1 quiet vga=ask" ++ newline ++ codes "none quiet vga=65536" ++ (13 ∷ []) ++ newline ++ codes "old vga=5 quiet vga=bada1 vga=0x1F vga=normal vga=5" ++ newline ++ codes "vga=normal vga=normal" ++ newline ++ (63 ∷ []) ++ newline))
    ≡ expected (Some (chosen 0 (codes "root=/de") false None))
    (codes "boot: old" ++ newline ++ codes "Password: " ++ newline ++ codes "Sorry." ++ newline ++ codes "boot: old root=/de" ++ newline ++ codes "Password: " ++ newline)
    Empty (typing (codes "a1 quiet vga=ask" ++ newline ++ codes "none quiet vga=65536" ++ (13 ∷ []) ++ newline ++ codes "old vga=5 quiet vga=bada1 vga=0x1F vga=normal vga=5" ++ newline ++ codes "vga=normal vga=normal" ++ newline ++ (63 ∷ []) ++ newline))
    (Some (opened [] (typing (codes "ld" ++ newline ++ codes "vga=0x1F root=/dev/hda1" ++ newline ++ codes "old root=/dev/hda1 lock vga=" ++ newline ++ codes "tux" ++ newline ++ codes "a1 quiet vga=ask" ++ newline ++ codes "none quiet vga=65536" ++ (13 ∷ []) ++ newline ++ codes "old vga=5 quiet vga=bada1 vga=0x1F vga=normal vga=5" ++ newline ++ codes "vga=normal vga=normal" ++ newline ++ (63 ∷ []) ++ newline))))
unfolding words_of meaning course_of
drawn_197 = refl

-- drawn at random: an automatic choice, a new default line, keys are left
drawn_198 : answers (settings true 3 (Some 0) 0 5)
    (listed (codes "linux") (Some (codes "tux")) true false (Some (codes "old single single root=/dev/hda1")) ∷ listed (codes "old") None false false None ∷ [])
    Empty None
    (typing (codes "old" ++ (9 ∷ []) ++ codes "none" ++ newline) ++ waiting 2 ++ typing (21 ∷ []))
    ≡ expected (Some (chosen 0 [] true None))
    (codes "boot: " ++ newline)
    (Kept (codes "old single single root=/dev/hda1")) (typing (codes "old" ++ (9 ∷ []) ++ codes "none" ++ newline) ++ waiting 2 ++ typing (21 ∷ []))
    (Some (opened [] (typing (codes "old" ++ (9 ∷ []) ++ codes "none" ++ newline) ++ waiting 2 ++ typing (21 ∷ []))))
unfolding words_of meaning course_of
drawn_198 = refl

-- drawn at random: a typed choice, 1 question, keys are left
drawn_199 : answers (settings true 0 None 1 470)
    (listed (codes "a1") (Some []) false true None ∷ listed (codes "rescue") None false false None ∷ [])
    (Kept (codes "a1 vga=bad vga=65536")) (Some (codes "boot: "))
    (waiting 650 ++ typing (codes "rescue" ++ newline ++ codes "a b" ++ newline) ++ waiting 9 ++ typing (codes "rescue lock" ++ newline ++ (21 ∷ [])) ++ waiting 601 ++ typing (codes "none  a b" ++ newline ++ codes "none vga=ask vga=bad" ++ newline))
    ≡ expected (Some (chosen 1 [] false None))
    (codes "Password: " ++ newline ++ codes "boot: boot: rescue" ++ newline)
    (Kept (codes "a1 vga=bad vga=65536")) (typing (codes "a b" ++ newline) ++ waiting 9 ++ typing (codes "rescue lock" ++ newline ++ (21 ∷ [])) ++ waiting 601 ++ typing (codes "none  a b" ++ newline ++ codes "none vga=ask vga=bad" ++ newline))
    (Some (opened (codes "Password: " ++ newline) (waiting 50 ++ typing (codes "rescue" ++ newline ++ codes "a b" ++ newline) ++ waiting 9 ++ typing (codes "rescue lock" ++ newline ++ (21 ∷ [])) ++ waiting 601 ++ typing (codes "none  a b" ++ newline ++ codes "none vga=ask vga=bad" ++ newline))))
unfolding words_of meaning course_of
drawn_199 = refl

-- drawn at random: a typed choice, 1 question, 1 wrong, a new default line, keys are left
drawn_200 : answers (settings false 2 (Some 1) 0 255)
    (listed (codes "a1") (Some (replicate 31 112)) true false None ∷ listed (codes "rescue") None false true None ∷ listed (codes "lock") (Some []) true true None ∷ [])
    Empty None
    (typing (codes "a1 quiet vga=65536" ++ (13 ∷ []) ++ codes "a1 vga=ask vga=0x1F" ++ (13 ∷ []) ++ (63 ∷ []) ++ codes "lock" ++ newline ++ newline ++ codes "none a" ++ (13 ∷ [])))
    ≡ expected (Some (chosen 2 [] false None))
    (codes "boot: a1 quiet vga=65536" ++ newline ++ codes "Password: " ++ newline ++ codes "Sorry." ++ newline ++ codes "boot: " ++ newline ++ codes "a1" ++ newline ++ codes "rescue" ++ newline ++ codes "lock" ++ newline ++ codes "boot: lock" ++ newline)
    (Kept (codes "lock")) (typing (newline ++ codes "none a" ++ (13 ∷ [])))
    (Some (opened [] (typing (codes "1 quiet vga=65536" ++ (13 ∷ []) ++ codes "a1 vga=ask vga=0x1F" ++ (13 ∷ []) ++ (63 ∷ []) ++ codes "lock" ++ newline ++ newline ++ codes "none a" ++ (13 ∷ [])))))
unfolding words_of meaning course_of
drawn_200 = refl

-- drawn at random: an automatic choice, a new default line
drawn_201 : answers (settings true 3 (Some 2) 0 255)
    (listed (codes "x") None false true None ∷ [])
    Empty (Some [])
    []
    ≡ expected (Some (chosen 0 [] true None))
    (codes "boot: " ++ newline)
    (Kept (codes "x")) []
    (Some (opened [] []))
unfolding words_of meaning course_of
drawn_201 = refl
