-- Cases of the choice at the prompt, part 8; tools/choice_cases.py writes this file.
use Rattle.std.proofs.Common.{◌≡◌, [], ◌∷◌, ◌++◌, replicate, true, false, None, Some, codes, refl}
use Rattle.lilo_model.specs.DefaultLine.{Empty, Once, Kept}
use Rattle.lilo_model.specs.LineWords.{words_of, meaning}
use Rattle.lilo_model.specs.Choice.{newline, course_of}
use Rattle.model_cases.specs.Cases.{typing, waiting, settings, listed, chosen, answers, expected, opened}

-- drawn at random: a typed choice, a new default line
drawn_202 : answers (settings true 0 None 2 255)
    (listed (codes "x") (Some (codes "tux")) true true None ∷ listed (codes "dos") (Some (codes "tux")) true false None ∷ listed (codes "rescue") None false false None ∷ listed (codes "linux") None false false (Some (codes "x vga=0x1F")) ∷ [])
    Empty (Some (codes "Hello" ++ newline))
    (typing (codes "linux vga=65536 vga=" ++ (13 ∷ [])))
    ≡ expected (Some (chosen 3 [] false None))
    (codes "Hello" ++ newline ++ codes "boot: linux vga=65536 vga=" ++ newline)
    (Kept (codes "x vga=0x1F")) []
    (Some (opened [] (typing (codes "linux vga=65536 vga=" ++ (13 ∷ [])))))
unfolding words_of meaning course_of
drawn_202 = refl

-- drawn at random: a typed choice, 1 question, 1 wrong, 1 unknown name, keys are left
drawn_203 : answers (settings true 5 (Some 4) 1 12)
    (listed (codes "x") (Some (codes "a b")) false false None ∷ listed (codes "dos") None false false None ∷ [])
    Empty (Some [])
    (typing ((200 ∷ []) ++ (9 ∷ []) ++ codes "x" ++ newline ++ (27 ∷ []) ++ codes "ro lock" ++ newline) ++ waiting 9 ++ typing (codes "none quiet a" ++ newline ++ codes "dos" ++ newline ++ newline) ++ waiting 3 ++ typing (codes "x"))
    ≡ expected (Some (chosen 1 [] false None))
    (codes "boot: x" ++ newline ++ codes "Password: " ++ newline ++ codes "Sorry." ++ newline ++ codes "boot: none quiet a" ++ newline ++ codes "No such image." ++ newline ++ codes "boot: dos" ++ newline)
    Empty (typing newline ++ waiting 3 ++ typing (codes "x"))
    (Some (opened [] (typing ((200 ∷ []) ++ (9 ∷ []) ++ codes "x" ++ newline ++ (27 ∷ []) ++ codes "ro lock" ++ newline) ++ waiting 9 ++ typing (codes "none quiet a" ++ newline ++ codes "dos" ++ newline ++ newline) ++ waiting 3 ++ typing (codes "x"))))
unfolding words_of meaning course_of
drawn_203 = refl

-- drawn at random: a typed choice, a new default line
drawn_204 : answers (settings true 1 (Some 4) 0 255)
    (listed (codes "x") (Some []) true false (Some (codes "lock quiet quiet single")) ∷ listed (codes "lock") (Some []) false false None ∷ [])
    (Once (codes "none quiet")) None
    (typing (codes "x" ++ newline))
    ≡ expected (Some (chosen 0 [] false None))
    (codes "boot: x" ++ newline)
    (Kept (codes "lock quiet quiet single")) []
    (Some (opened [] (typing (codes "x" ++ newline))))
unfolding words_of meaning course_of
drawn_204 = refl

-- drawn at random: a typed choice, 1 question, 1 wrong, 1 unknown name, a new default line
drawn_205 : answers (settings true 0 (Some 4) 1 255)
    (listed (codes "old") (Some (codes "a b")) false true None ∷ listed (codes "lock") None false false (Some []) ∷ [])
    (Once (codes "old vga=normal")) (Some (codes "Hello" ++ newline))
    (typing (codes "lock" ++ newline ++ (63 ∷ []) ++ codes "abc" ++ newline ++ codes "lock" ++ (13 ∷ [])))
    ≡ expected (Some (chosen 1 [] false None))
    (codes "Password: " ++ newline ++ codes "Sorry." ++ newline ++ codes "Hello" ++ newline ++ codes "boot: " ++ newline ++ codes "old" ++ newline ++ codes "lock" ++ newline ++ codes "boot: abc" ++ newline ++ codes "No such image." ++ newline ++ codes "boot: lock" ++ newline)
    Empty []
    (Some (opened (codes "Password: " ++ newline ++ codes "Sorry." ++ newline) (typing ((63 ∷ []) ++ codes "abc" ++ newline ++ codes "lock" ++ (13 ∷ [])))))
unfolding words_of meaning course_of
drawn_205 = refl

-- drawn at random: a typed choice, 1 question, 1 wrong, a new default line, keys are left
drawn_206 : answers (settings true 0 (Some 9) 2 255)
    (listed (codes "x") None false false None ∷ listed (codes "lock") (Some (codes "tux")) false false None ∷ listed (codes "dos") None false false (Some (codes "none quiet quiet vga=")) ∷ [])
    (Kept (codes "lock root=/dev/hda1")) (Some (codes "boot: "))
    (typing ((0 ∷ []) ++ codes "vga=5 quiet quiet vga=" ++ newline ++ codes "dos" ++ newline ++ codes "dos" ++ newline ++ (21 ∷ []) ++ codes "dos vga=ask vga=0x1Fdos quiet vga=65536 vga=" ++ newline ++ (9 ∷ []) ++ codes "vga=bad a ro vga=" ++ newline ++ codes "x" ++ newline ++ codes "tux" ++ newline))
    ≡ expected (Some (chosen 2 [] false None))
    (codes "Password: " ++ newline ++ codes "Sorry." ++ newline ++ codes "boot: boot: dos" ++ newline)
    (Kept (codes "none quiet quiet vga=")) (typing (codes "dos" ++ newline ++ (21 ∷ []) ++ codes "dos vga=ask vga=0x1Fdos quiet vga=65536 vga=" ++ newline ++ (9 ∷ []) ++ codes "vga=bad a ro vga=" ++ newline ++ codes "x" ++ newline ++ codes "tux" ++ newline))
    (Some (opened (codes "Password: " ++ newline ++ codes "Sorry." ++ newline) (typing (codes "dos" ++ newline ++ codes "dos" ++ newline ++ (21 ∷ []) ++ codes "dos vga=ask vga=0x1Fdos quiet vga=65536 vga=" ++ newline ++ (9 ∷ []) ++ codes "vga=bad a ro vga=" ++ newline ++ codes "x" ++ newline ++ codes "tux" ++ newline))))
unfolding words_of meaning course_of
drawn_206 = refl

-- drawn at random: an automatic choice, a new default line
drawn_207 : answers (settings true 3 (Some 0) 1 12)
    (listed (codes "x") None false false (Some (codes "x vga=bad")) ∷ listed (codes "old") None false true None ∷ [])
    (Once (codes "none vga=normal root=/dev/hda1")) None
    []
    ≡ expected (Some (chosen 1 [] true None))
    (codes "boot: " ++ newline)
    (Kept (codes "old")) []
    (Some (opened [] []))
unfolding words_of meaning course_of
drawn_207 = refl

-- drawn at random: an automatic choice, no prompt, 1 question
drawn_208 : answers (settings false 0 None 1 5)
    (listed (codes "old") None false false (Some (codes "none vga=65536 vga=5 vga=65536")) ∷ listed (codes "x") (Some (codes "tux")) false false (Some []) ∷ [])
    Empty None
    (typing (codes "tux" ++ newline))
    ≡ expected (Some (chosen 1 [] true None))
    (codes "Password: " ++ newline)
    Empty []
    None
unfolding words_of meaning course_of
drawn_208 = refl

-- drawn at random: an automatic choice, 1 question, keys are left
drawn_209 : answers (settings true 2 (Some 0) 1 255)
    (listed (codes "lock") None false false (Some []) ∷ listed (codes "old") (Some (codes "abc")) false false None ∷ [])
    Empty (Some (codes "Hello" ++ newline))
    (typing (codes "abc" ++ newline ++ (8 ∷ []) ++ (8 ∷ []) ++ (8 ∷ []) ++ (8 ∷ []) ++ (8 ∷ []) ++ (9 ∷ []) ++ (127 ∷ [])) ++ waiting 9 ++ typing ((63 ∷ []) ++ (21 ∷ []) ++ newline))
    ≡ expected (Some (chosen 1 [] true None))
    (codes "Hello" ++ newline ++ codes "boot: " ++ newline ++ codes "Password: " ++ newline)
    Empty (typing ((8 ∷ []) ++ (8 ∷ []) ++ (8 ∷ []) ++ (8 ∷ []) ++ (8 ∷ []) ++ (9 ∷ []) ++ (127 ∷ [])) ++ waiting 9 ++ typing ((63 ∷ []) ++ (21 ∷ []) ++ newline))
    (Some (opened [] (typing (codes "abc" ++ newline ++ (8 ∷ []) ++ (8 ∷ []) ++ (8 ∷ []) ++ (8 ∷ []) ++ (8 ∷ []) ++ (9 ∷ []) ++ (127 ∷ [])) ++ waiting 9 ++ typing ((63 ∷ []) ++ (21 ∷ []) ++ newline))))
unfolding words_of meaning course_of
drawn_209 = refl

-- drawn at random: a typed choice, 2 unknown names, a new default line
drawn_210 : answers (settings true 8 (Some 2) 0 470)
    (listed (codes "old") None false false None ∷ listed (codes "linux") None false false (Some []) ∷ [])
    (Once (codes "a")) (Some [])
    (typing (codes "a b" ++ newline ++ (127 ∷ []) ++ (127 ∷ []) ++ (21 ∷ []) ++ codes "olda b" ++ newline ++ codes "old root=/dev/hda1" ++ (13 ∷ [])))
    ≡ expected (Some (chosen 0 (codes "root=/dev/hda1") false None))
    (codes "boot: a b" ++ newline ++ codes "No such image." ++ newline ++ codes "boot: " ++ newline ++ codes "boot: olda b" ++ newline ++ codes "No such image." ++ newline ++ codes "boot: old root=/dev/hda1" ++ newline)
    Empty []
    (Some (opened [] (typing (codes "a b" ++ newline ++ (127 ∷ []) ++ (127 ∷ []) ++ (21 ∷ []) ++ codes "olda b" ++ newline ++ codes "old root=/dev/hda1" ++ (13 ∷ [])))))
unfolding words_of meaning course_of
drawn_210 = refl

-- drawn at random: a typed choice, 2 unknown names, a new default line
drawn_211 : answers (settings false 2 (Some 9) 0 470)
    (listed (codes "a1") None false false (Some (codes "a1 vga=ask")) ∷ [])
    Empty (Some (codes "Hello" ++ newline))
    (typing (codes "none vga=0x1F single ro" ++ (13 ∷ []) ++ codes "a1a1 vga=ask" ++ newline ++ codes "a1" ++ newline))
    ≡ expected (Some (chosen 0 [] false None))
    (codes "Hello" ++ newline ++ codes "boot: none vga=0x1F single ro" ++ newline ++ codes "No such image." ++ newline ++ codes "boot: a1a1 vga=ask" ++ newline ++ codes "No such image." ++ newline ++ codes "boot: a1" ++ newline)
    (Kept (codes "a1 vga=ask")) []
    (Some (opened [] (typing (codes "one vga=0x1F single ro" ++ (13 ∷ []) ++ codes "a1a1 vga=ask" ++ newline ++ codes "a1" ++ newline))))
unfolding words_of meaning course_of
drawn_211 = refl

-- drawn at random: a typed choice, 1 unknown name
drawn_212 : answers (settings true 8 None 1 255)
    (listed (codes "rescue") (Some (replicate 31 112)) false false (Some (codes "vga=normal vga=65536 vga= lock")) ∷ listed (codes "x") None false false None ∷ listed (codes "a1") None false false None ∷ [])
    Empty (Some [])
    (waiting 9 ++ typing ((9 ∷ []) ++ codes "none vga=ask" ++ (21 ∷ []) ++ codes "single quiet" ++ newline ++ codes "a1" ++ newline))
    ≡ expected (Some (chosen 2 [] false None))
    (codes "boot: " ++ newline ++ codes "rescue" ++ newline ++ codes "x" ++ newline ++ codes "a1" ++ newline ++ codes "boot: none vga=ask" ++ newline ++ codes "boot: single quiet" ++ newline ++ codes "No such image." ++ newline ++ codes "boot: a1" ++ newline)
    Empty []
    (Some (opened [] (waiting 9 ++ typing ((9 ∷ []) ++ codes "none vga=ask" ++ (21 ∷ []) ++ codes "single quiet" ++ newline ++ codes "a1" ++ newline))))
unfolding words_of meaning course_of
drawn_212 = refl

-- drawn at random: nothing is chosen, 1 question, 1 unknown name
drawn_213 : answers (settings true 0 (Some 1) 1 255)
    (listed (codes "x") (Some (codes "secret")) false false (Some []) ∷ listed (codes "linux") None false false None ∷ [])
    Empty (Some (codes "Hello" ++ newline))
    (typing (codes "ro" ++ newline ++ codes "x a vga=0x1F quiet" ++ (21 ∷ []) ++ codes "x " ++ (63 ∷ []) ++ newline) ++ waiting 3 ++ typing ((127 ∷ []) ++ (127 ∷ []) ++ (11 ∷ []) ++ (21 ∷ [])))
    ≡ expected None
    (codes "Hello" ++ newline ++ codes "boot: ro" ++ newline ++ codes "No such image." ++ newline ++ codes "boot: x a vga=0x1F quiet" ++ newline ++ codes "boot: x " ++ (63 ∷ []) ++ newline ++ codes "Password: " ++ newline ++ codes "boot: ")
    Empty []
    (Some (opened [] (typing (codes "ro" ++ newline ++ codes "x a vga=0x1F quiet" ++ (21 ∷ []) ++ codes "x " ++ (63 ∷ []) ++ newline) ++ waiting 3 ++ typing ((127 ∷ []) ++ (127 ∷ []) ++ (11 ∷ []) ++ (21 ∷ [])))))
unfolding words_of meaning course_of
drawn_213 = refl

-- drawn at random: a typed choice, 1 question, 1 wrong, a new default line, keys are left
drawn_214 : answers (settings false 8 (Some 2) 2 5)
    (listed (codes "a1") (Some (codes "secret")) true false None ∷ listed (codes "dos") (Some []) true false None ∷ listed (codes "rescue") None false true None ∷ listed (codes "x") None false false (Some (codes "none vga=5 vga=bad a")) ∷ [])
    (Once (codes "a1 vga=0x1F single")) (Some (codes "boot: "))
    (typing (codes "dos vga=" ++ newline ++ codes "lock vga=5" ++ (13 ∷ []) ++ newline ++ (128 ∷ [])))
    ≡ expected (Some (chosen 2 [] false None))
    (codes "boot: boot: dos v" ++ newline ++ codes "Password: " ++ newline ++ codes "Sorry." ++ newline ++ codes "boot: " ++ newline)
    (Kept (codes "rescue")) (typing (128 ∷ []))
    (Some (opened [] (typing (codes "os vga=" ++ newline ++ codes "lock vga=5" ++ (13 ∷ []) ++ newline ++ (128 ∷ [])))))
unfolding words_of meaning course_of
drawn_214 = refl

-- drawn at random: a typed choice, 1 question, 1 wrong, a new default line, keys are left
drawn_215 : answers (settings false 1 (Some 1) 1 470)
    (listed (codes "lock") (Some (codes "secret")) true true None ∷ listed (codes "a1") None false false None ∷ [])
    Empty None
    (typing ((9 ∷ []) ++ codes "lock singleabc" ++ newline ++ codes "abc" ++ newline ++ codes "lock" ++ (13 ∷ []) ++ (8 ∷ []) ++ (8 ∷ []) ++ (8 ∷ []) ++ (8 ∷ []) ++ (8 ∷ []) ++ (8 ∷ []) ++ (8 ∷ []) ++ codes "none"))
    ≡ expected (Some (chosen 0 [] false None))
    (codes "boot: " ++ newline ++ codes "lock" ++ newline ++ codes "a1" ++ newline ++ codes "boot: lock singleabc" ++ newline ++ codes "Password: " ++ newline ++ codes "Sorry." ++ newline ++ codes "boot: lock" ++ newline)
    (Kept (codes "lock")) (typing ((8 ∷ []) ++ (8 ∷ []) ++ (8 ∷ []) ++ (8 ∷ []) ++ (8 ∷ []) ++ (8 ∷ []) ++ (8 ∷ []) ++ codes "none"))
    (Some (opened [] (typing (codes "lock singleabc" ++ newline ++ codes "abc" ++ newline ++ codes "lock" ++ (13 ∷ []) ++ (8 ∷ []) ++ (8 ∷ []) ++ (8 ∷ []) ++ (8 ∷ []) ++ (8 ∷ []) ++ (8 ∷ []) ++ (8 ∷ []) ++ codes "none"))))
unfolding words_of meaning course_of
drawn_215 = refl

-- drawn at random: a typed choice, 1 question, 1 wrong, a new default line, keys are left
drawn_216 : answers (settings false 3 (Some 2) 0 255)
    (listed (codes "x") (Some (replicate 31 112)) false false None ∷ listed (codes "rescue") None false true None ∷ [])
    (Once (codes "none root=/dev/hda1")) (Some (codes "Hello" ++ newline))
    (waiting 598 ++ typing ((27 ∷ []) ++ codes "none single" ++ (13 ∷ []) ++ codes "rescue" ++ newline ++ codes "rescue" ++ newline ++ codes "x " ++ (63 ∷ [])))
    ≡ expected (Some (chosen 1 [] false None))
    (codes "Password: " ++ newline ++ codes "Sorry." ++ newline ++ codes "Hello" ++ newline ++ codes "boot: rescue" ++ newline)
    (Kept (codes "rescue")) (typing (codes "rescue" ++ newline ++ codes "x " ++ (63 ∷ [])))
    (Some (opened (codes "Password: " ++ newline ++ codes "Sorry." ++ newline) (typing (codes "rescue" ++ newline ++ codes "rescue" ++ newline ++ codes "x " ++ (63 ∷ [])))))
unfolding words_of meaning course_of
drawn_216 = refl

-- drawn at random: an automatic choice
drawn_217 : answers (settings true 5 (Some 9) 0 255)
    (listed (codes "dos") (Some []) true false None ∷ [])
    (Kept (codes "none lock " ++ (63 ∷ []) ++ codes " single")) (Some (codes "Hello" ++ newline))
    []
    ≡ expected (Some (chosen 0 [] true None))
    (codes "Hello" ++ newline ++ codes "boot: " ++ newline)
    (Kept (codes "none lock " ++ (63 ∷ []) ++ codes " single")) []
    (Some (opened [] []))
unfolding words_of meaning course_of
drawn_217 = refl

-- drawn at random: a typed choice
drawn_218 : answers (settings true 2 (Some 1) 0 255)
    (listed (codes "dos") None false false None ∷ listed (codes "a1") (Some (replicate 31 112)) false false None ∷ [])
    Empty (Some (codes "Hello" ++ newline))
    (typing (codes "dos" ++ newline))
    ≡ expected (Some (chosen 0 [] false None))
    (codes "Hello" ++ newline ++ codes "boot: dos" ++ newline)
    Empty []
    (Some (opened [] (typing (codes "dos" ++ newline))))
unfolding words_of meaning course_of
drawn_218 = refl

-- drawn at random: a typed choice, 1 unknown name
drawn_219 : answers (settings true 1 (Some 4) 0 5)
    (listed (codes "x") None false false None ∷ [])
    (Kept (codes "x single")) None
    (typing (codes "none" ++ newline) ++ waiting 599 ++ typing (codes "x vga=5 vga=ask vga=0x1F" ++ newline))
    ≡ expected (Some (chosen 0 (codes "vga") false None))
    (codes "boot: none" ++ newline ++ codes "No such image." ++ newline ++ codes "boot: x vga" ++ newline)
    (Kept (codes "x single")) []
    (Some (opened [] (typing (codes "one" ++ newline) ++ waiting 599 ++ typing (codes "x vga=5 vga=ask vga=0x1F" ++ newline))))
unfolding words_of meaning course_of
drawn_219 = refl

-- drawn at random: a typed choice, 1 question, 3 unknown names
drawn_220 : answers (settings true 2 None 0 255)
    (listed (codes "rescue") (Some (codes "a b")) false false None ∷ listed (codes "dos") None false true None ∷ listed (codes "a1") (Some (codes "secret")) true false None ∷ [])
    Empty None
    (typing (codes "secret" ++ newline ++ (21 ∷ []) ++ codes "a b" ++ newline ++ (9 ∷ []) ++ (21 ∷ []) ++ (9 ∷ []) ++ (9 ∷ []) ++ codes "a b" ++ newline ++ newline ++ (1 ∷ []) ++ codes "a b" ++ newline))
    ≡ expected (Some (chosen 0 [] false None))
    (codes "boot: secret" ++ newline ++ codes "No such image." ++ newline ++ codes "boot: " ++ newline ++ codes "boot: a b" ++ newline ++ codes "No such image." ++ newline ++ codes "boot: " ++ newline ++ codes "rescue" ++ newline ++ codes "dos" ++ newline ++ codes "a1" ++ newline ++ codes "boot: " ++ newline ++ codes "boot: " ++ newline ++ codes "rescue" ++ newline ++ codes "dos" ++ newline ++ codes "a1" ++ newline ++ codes "boot: " ++ newline ++ codes "rescue" ++ newline ++ codes "dos" ++ newline ++ codes "a1" ++ newline ++ codes "boot: a b" ++ newline ++ codes "No such image." ++ newline ++ codes "boot: " ++ newline ++ codes "Password: " ++ newline)
    Empty []
    (Some (opened [] (typing (codes "secret" ++ newline ++ (21 ∷ []) ++ codes "a b" ++ newline ++ (9 ∷ []) ++ (21 ∷ []) ++ (9 ∷ []) ++ (9 ∷ []) ++ codes "a b" ++ newline ++ newline ++ (1 ∷ []) ++ codes "a b" ++ newline))))
unfolding words_of meaning course_of
drawn_220 = refl

-- drawn at random: a typed choice, 1 question, keys are left
drawn_221 : answers (settings false 2 (Some 1) 0 255)
    (listed (codes "lock") (Some (codes "secret")) true false None ∷ [])
    (Kept (codes "lock root=/dev/hda1 a")) (Some (codes "Hello" ++ newline))
    (typing (codes "lock vga=badlock vga=ask quiet root=/dev/hda1" ++ newline ++ codes "secret" ++ newline ++ (9 ∷ []) ++ codes "none root=/dev/hda1 quiet" ++ newline ++ (63 ∷ []) ++ codes "secret" ++ newline ++ codes "a b" ++ newline))
    ≡ expected (Some (chosen 0 (codes "quiet root=/dev/hda1") false (Some 65533)))
    (codes "Hello" ++ newline ++ codes "boot: lock vga=badlock vga=ask quiet root=/dev/hda1" ++ newline ++ codes "Password: " ++ newline)
    (Kept (codes "lock root=/dev/hda1 a")) (typing ((9 ∷ []) ++ codes "none root=/dev/hda1 quiet" ++ newline ++ (63 ∷ []) ++ codes "secret" ++ newline ++ codes "a b" ++ newline))
    (Some (opened [] (typing (codes "ock vga=badlock vga=ask quiet root=/dev/hda1" ++ newline ++ codes "secret" ++ newline ++ (9 ∷ []) ++ codes "none root=/dev/hda1 quiet" ++ newline ++ (63 ∷ []) ++ codes "secret" ++ newline ++ codes "a b" ++ newline))))
unfolding words_of meaning course_of
drawn_221 = refl

-- drawn at random: an automatic choice
drawn_222 : answers (settings true 0 (Some 4) 0 255)
    (listed (codes "rescue") (Some (codes "a b")) true false None ∷ [])
    Empty (Some (codes "boot: "))
    []
    ≡ expected (Some (chosen 0 [] true None))
    (codes "boot: boot: " ++ newline)
    Empty []
    (Some (opened [] []))
unfolding words_of meaning course_of
drawn_222 = refl

-- drawn at random: a typed choice, 1 unknown name, a new default line
drawn_223 : answers (settings true 1 None 0 255)
    (listed (codes "old") None false false None ∷ [])
    (Once (codes "none vga=normal")) (Some [])
    (typing ((22 ∷ []) ++ codes "  ") ++ waiting 610 ++ typing (codes "none" ++ newline ++ codes "old" ++ newline))
    ≡ expected (Some (chosen 0 [] false None))
    (codes "boot:   none" ++ newline ++ codes "No such image." ++ newline ++ codes "boot: old" ++ newline)
    Empty []
    (Some (opened [] (typing ((22 ∷ []) ++ codes "  ") ++ waiting 610 ++ typing (codes "none" ++ newline ++ codes "old" ++ newline))))
unfolding words_of meaning course_of
drawn_223 = refl

-- drawn at random: a typed choice, 1 unknown name
drawn_224 : answers (settings true 8 None 1 255)
    (listed (codes "dos") (Some (codes "a b")) true false (Some []) ∷ listed (codes "a1") None false false None ∷ [])
    (Kept (codes "dos vga=normal")) (Some (codes "boot: "))
    (typing (codes "a b" ++ newline ++ (63 ∷ []) ++ codes "dos" ++ (13 ∷ [])))
    ≡ expected (Some (chosen 0 [] false None))
    (codes "boot: boot: a b" ++ newline ++ codes "No such image." ++ newline ++ codes "boot: " ++ newline ++ codes "dos" ++ newline ++ codes "a1" ++ newline ++ codes "boot: dos" ++ newline)
    (Kept (codes "dos vga=normal")) []
    (Some (opened [] (typing (codes " b" ++ newline ++ (63 ∷ []) ++ codes "dos" ++ (13 ∷ [])))))
unfolding words_of meaning course_of
drawn_224 = refl

-- drawn at random: a typed choice, 1 question, 1 wrong, 2 unknown names, a new default line, keys are left
drawn_225 : answers (settings false 0 (Some 1) 1 255)
    (listed (codes "rescue") (Some (codes "tux")) true false None ∷ listed (codes "dos") (Some (codes "tux")) false false None ∷ [])
    (Once (codes "vga= root=/dev/hda1")) (Some (codes "Hello" ++ newline))
    (typing (codes "secret" ++ newline ++ codes "none vga=65536" ++ (13 ∷ []) ++ codes "none  " ++ newline ++ codes "rescue" ++ newline ++ (63 ∷ []) ++ codes "dos" ++ newline ++ codes "rescue vga=ask root=/dev/hda1 vga=" ++ newline ++ codes "none" ++ newline) ++ waiting 650)
    ≡ expected (Some (chosen 0 [] false None))
    (codes "Password: " ++ newline ++ codes "Sorry." ++ newline ++ codes "Hello" ++ newline ++ codes "boot: none vga=65536" ++ newline ++ codes "No such image." ++ newline ++ codes "boot: none  " ++ newline ++ codes "No such image." ++ newline ++ codes "boot: rescue" ++ newline)
    Empty (typing ((63 ∷ []) ++ codes "dos" ++ newline ++ codes "rescue vga=ask root=/dev/hda1 vga=" ++ newline ++ codes "none" ++ newline) ++ waiting 650)
    (Some (opened (codes "Password: " ++ newline ++ codes "Sorry." ++ newline) (typing (codes "none vga=65536" ++ (13 ∷ []) ++ codes "none  " ++ newline ++ codes "rescue" ++ newline ++ (63 ∷ []) ++ codes "dos" ++ newline ++ codes "rescue vga=ask root=/dev/hda1 vga=" ++ newline ++ codes "none" ++ newline) ++ waiting 650)))
unfolding words_of meaning course_of
drawn_225 = refl

-- drawn at random: an automatic choice, no prompt, 1 question, keys are left
drawn_226 : answers (settings true 0 None 0 255)
    (listed (codes "x") (Some []) false false None ∷ listed (codes "lock") None false false None ∷ [])
    (Kept (codes "x vga=5")) (Some (codes "Hello" ++ newline))
    (typing (newline ++ codes "none" ++ newline ++ (9 ∷ [])) ++ waiting 600 ++ typing (codes "secret" ++ newline ++ (127 ∷ []) ++ (127 ∷ [])))
    ≡ expected (Some (chosen 0 [] true (Some 5)))
    (codes "Password: " ++ newline)
    (Kept (codes "x vga=5")) (typing (codes "none" ++ newline ++ (9 ∷ [])) ++ waiting 600 ++ typing (codes "secret" ++ newline ++ (127 ∷ []) ++ (127 ∷ [])))
    None
unfolding words_of meaning course_of
drawn_226 = refl

-- drawn at random: a typed choice
drawn_227 : answers (settings false 8 (Some 0) 0 255)
    (listed (codes "dos") (Some (replicate 31 112)) true false None ∷ listed (codes "old") None false false None ∷ [])
    Empty (Some (codes "boot: "))
    (typing newline)
    ≡ expected (Some (chosen 0 [] false None))
    (codes "boot: boot: " ++ newline)
    Empty []
    (Some (opened [] []))
unfolding words_of meaning course_of
drawn_227 = refl

-- drawn at random: a typed choice, 1 question, 1 wrong, keys are left
drawn_228 : answers (settings false 5 (Some 1) 2 255)
    (listed (codes "dos") None false false None ∷ listed (codes "rescue") (Some (codes "a b")) false false (Some (codes "a1 root=/dev/hda1 vga=bad single")) ∷ listed (codes "linux") None false false None ∷ listed (codes "a1") (Some (codes "a b")) true false None ∷ [])
    (Kept (codes "none root=/dev/hda1 root=/dev/hda1")) (Some [])
    (typing (codes "a1 vga=65536 quiet vga=65536" ++ newline ++ codes "linux quiet") ++ waiting 5 ++ typing (newline ++ codes "a1" ++ newline) ++ waiting 2 ++ typing (codes "a b" ++ newline ++ codes "dos single vga=5vga=bad vga=5" ++ newline ++ codes "tux" ++ newline))
    ≡ expected (Some (chosen 3 [] false None))
    (codes "boot: a1 vga=65536 quiet vga=65536" ++ newline ++ codes "Password: " ++ newline ++ codes "Sorry." ++ newline ++ codes "boot: a1" ++ newline)
    (Kept (codes "none root=/dev/hda1 root=/dev/hda1")) (waiting 2 ++ typing (codes "a b" ++ newline ++ codes "dos single vga=5vga=bad vga=5" ++ newline ++ codes "tux" ++ newline))
    (Some (opened [] (typing (codes "1 vga=65536 quiet vga=65536" ++ newline ++ codes "linux quiet") ++ waiting 5 ++ typing (newline ++ codes "a1" ++ newline) ++ waiting 2 ++ typing (codes "a b" ++ newline ++ codes "dos single vga=5vga=bad vga=5" ++ newline ++ codes "tux" ++ newline))))
unfolding words_of meaning course_of
drawn_228 = refl

-- drawn at random: a typed choice, 1 question, 1 wrong, 1 unknown name, a new default line, keys are left
drawn_229 : answers (settings true 0 (Some 4) 0 255)
    (listed (codes "dos") (Some (codes "secret")) false false None ∷ listed (codes "lock") (Some (codes "secret")) true true None ∷ listed (codes "rescue") None false false None ∷ listed (codes "old") None false true None ∷ [])
    (Kept (codes "dos")) (Some (codes "Hello" ++ newline))
    (waiting 10 ++ typing (codes "none vga= vga=bad lock" ++ (13 ∷ []) ++ (127 ∷ []) ++ (63 ∷ []) ++ codes "dos single quiet" ++ newline ++ codes "old quiet" ++ (13 ∷ []) ++ replicate 31 112 ++ newline))
    ≡ expected (Some (chosen 3 (codes "quiet") false None))
    (codes "Password: " ++ newline ++ codes "Sorry." ++ newline ++ codes "Hello" ++ newline ++ codes "boot: " ++ (63 ∷ []) ++ codes "dos single quiet" ++ newline ++ codes "No such image." ++ newline ++ codes "boot: old quiet" ++ newline)
    (Kept (codes "old quiet")) (typing (replicate 31 112 ++ newline))
    (Some (opened (codes "Password: " ++ newline ++ codes "Sorry." ++ newline) (typing ((127 ∷ []) ++ (63 ∷ []) ++ codes "dos single quiet" ++ newline ++ codes "old quiet" ++ (13 ∷ []) ++ replicate 31 112 ++ newline))))
unfolding words_of meaning course_of
drawn_229 = refl

-- drawn at random: a typed choice, 1 question, 1 wrong, 1 unknown name, keys are left
drawn_230 : answers (settings true 0 (Some 2) 2 12)
    (listed (codes "lock") (Some (codes "tux")) false false None ∷ listed (codes "old") None false false None ∷ listed (codes "dos") None false false None ∷ listed (codes "rescue") None false true None ∷ [])
    Empty None
    (typing (codes "lock a" ++ (13 ∷ []) ++ codes "abc" ++ newline ++ codes "tux" ++ newline) ++ waiting 650 ++ typing (codes "old" ++ newline ++ codes "abc" ++ newline) ++ waiting 601 ++ typing (9 ∷ []))
    ≡ expected (Some (chosen 1 [] false None))
    (codes "boot: lock a" ++ newline ++ codes "Password: " ++ newline ++ codes "Sorry." ++ newline ++ codes "boot: tux" ++ newline ++ codes "No such image." ++ newline ++ codes "boot: old" ++ newline)
    Empty (typing (codes "abc" ++ newline) ++ waiting 601 ++ typing (9 ∷ []))
    (Some (opened [] (typing (codes "lock a" ++ (13 ∷ []) ++ codes "abc" ++ newline ++ codes "tux" ++ newline) ++ waiting 650 ++ typing (codes "old" ++ newline ++ codes "abc" ++ newline) ++ waiting 601 ++ typing (9 ∷ []))))
unfolding words_of meaning course_of
drawn_230 = refl
