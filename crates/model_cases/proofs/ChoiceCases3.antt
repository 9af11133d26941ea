-- Cases of the choice at the prompt, part 3; tools/choice_cases.py writes this file.
use Rattle.std.proofs.Common.{◌≡◌, [], ◌∷◌, ◌++◌, replicate, true, false, None, Some, codes, refl}
use Rattle.lilo_model.specs.DefaultLine.{Empty, Kept}
use Rattle.lilo_model.specs.LineWords.{words_of, meaning}
use Rattle.lilo_model.specs.Choice.{newline, course_of}
use Rattle.model_cases.specs.Cases.{typing, waiting, settings, listed, chosen, answers, expected, opened}

-- a question mark is a byte of a password
password_question_mark : answers (settings true 0 None 0 255)
    (listed (codes "q") (Some (63 ∷ [])) false false None ∷ listed (codes "dos") None false false None ∷ [])
    Empty None
    (typing (codes "q" ++ newline ++ (63 ∷ []) ++ newline))
    ≡ expected (Some (chosen 0 [] false None))
    (codes "boot: q" ++ newline ++ codes "Password: " ++ newline)
    Empty []
    (Some (opened [] (typing (codes "q" ++ newline ++ (63 ∷ []) ++ newline))))
unfolding words_of meaning course_of
password_question_mark = refl

-- spaces count in a password
password_with_spaces : answers (settings true 0 None 0 255)
    (listed (codes "q") (Some (codes " a  b ")) false false None ∷ listed (codes "dos") None false false None ∷ [])
    Empty None
    (typing (codes "q" ++ newline ++ codes " a  b " ++ newline))
    ≡ expected (Some (chosen 0 [] false None))
    (codes "boot: q" ++ newline ++ codes "Password: " ++ newline)
    Empty []
    (Some (opened [] (typing (codes "q" ++ newline ++ codes " a  b " ++ newline))))
unfolding words_of meaning course_of
password_with_spaces = refl

-- spaces are not joined in a password
password_with_single_space_wrong : answers (settings true 0 None 0 255)
    (listed (codes "q") (Some (codes "a  b")) false false None ∷ listed (codes "dos") None false false None ∷ [])
    Empty None
    (typing (codes "q" ++ newline ++ codes "a b" ++ newline))
    ≡ expected None
    (codes "boot: q" ++ newline ++ codes "Password: " ++ newline ++ codes "Sorry." ++ newline ++ codes "boot: ")
    Empty []
    (Some (opened [] (typing (codes "q" ++ newline ++ codes "a b" ++ newline))))
unfolding words_of meaning course_of
password_with_single_space_wrong = refl

-- a password may have 31 bytes
password_of_31_bytes : answers (settings true 0 None 0 255)
    (listed (codes "q") (Some (replicate 31 112)) false false None ∷ listed (codes "dos") None false false None ∷ [])
    Empty None
    (typing (codes "q" ++ newline ++ replicate 31 112 ++ newline))
    ≡ expected (Some (chosen 0 [] false None))
    (codes "boot: q" ++ newline ++ codes "Password: " ++ newline)
    Empty []
    (Some (opened [] (typing (codes "q" ++ newline ++ replicate 31 112 ++ newline))))
unfolding words_of meaning course_of
password_of_31_bytes = refl

-- a byte past 31 makes the answer wrong
password_of_32_bytes : answers (settings true 0 None 0 255)
    (listed (codes "q") (Some (replicate 31 112)) false false None ∷ listed (codes "dos") None false false None ∷ [])
    Empty None
    (typing (codes "q" ++ newline ++ replicate 32 112 ++ newline))
    ≡ expected None
    (codes "boot: q" ++ newline ++ codes "Password: " ++ newline ++ codes "Sorry." ++ newline ++ codes "boot: ")
    Empty []
    (Some (opened [] (typing (codes "q" ++ newline ++ replicate 32 112 ++ newline))))
unfolding words_of meaning course_of
password_of_32_bytes = refl

-- an answer that was too long stays wrong, whatever is removed
password_too_long_removed : answers (settings true 0 None 0 255)
    (listed (codes "q") (Some (codes "abc")) false false None ∷ listed (codes "dos") None false false None ∷ [])
    Empty None
    (typing (codes "q" ++ newline ++ codes "abc" ++ replicate 29 120 ++ replicate 29 8 ++ newline))
    ≡ expected None
    (codes "boot: q" ++ newline ++ codes "Password: " ++ newline ++ codes "Sorry." ++ newline ++ codes "boot: ")
    Empty []
    (Some (opened [] (typing (codes "q" ++ newline ++ codes "abc" ++ replicate 29 120 ++ replicate 29 8 ++ newline))))
unfolding words_of meaning course_of
password_too_long_removed = refl

-- an answer that was too long stays wrong where the rest is right
password_too_long_removed_exactly : answers (settings true 0 None 0 255)
    (listed (codes "q") (Some (codes "abc")) false false None ∷ listed (codes "dos") None false false None ∷ [])
    Empty None
    (typing (codes "q" ++ newline ++ codes "abc" ++ replicate 29 120 ++ replicate 28 8 ++ newline))
    ≡ expected None
    (codes "boot: q" ++ newline ++ codes "Password: " ++ newline ++ codes "Sorry." ++ newline ++ codes "boot: ")
    Empty []
    (Some (opened [] (typing (codes "q" ++ newline ++ codes "abc" ++ replicate 29 120 ++ replicate 28 8 ++ newline))))
unfolding words_of meaning course_of
password_too_long_removed_exactly = refl

-- an answer that was too long stays wrong where all is removed and typed anew
password_too_long_removed_and_anew : answers (settings true 0 None 0 255)
    (listed (codes "q") (Some (codes "abc")) false false None ∷ listed (codes "dos") None false false None ∷ [])
    Empty None
    (typing (codes "q" ++ newline ++ replicate 32 120 ++ replicate 40 127 ++ codes "abc" ++ newline))
    ≡ expected None
    (codes "boot: q" ++ newline ++ codes "Password: " ++ newline ++ codes "Sorry." ++ newline ++ codes "boot: ")
    Empty []
    (Some (opened [] (typing (codes "q" ++ newline ++ replicate 32 120 ++ replicate 40 127 ++ codes "abc" ++ newline))))
unfolding words_of meaning course_of
password_too_long_removed_and_anew = refl

-- an answer that was too long stays wrong for an empty password
password_too_long_removed_to_none : answers (settings true 0 None 0 255)
    (listed (codes "q") (Some []) false false None ∷ listed (codes "dos") None false false None ∷ [])
    Empty None
    (typing (codes "q" ++ newline ++ replicate 32 120 ++ replicate 32 8 ++ newline))
    ≡ expected None
    (codes "boot: q" ++ newline ++ codes "Password: " ++ newline ++ codes "Sorry." ++ newline ++ codes "boot: ")
    Empty []
    (Some (opened [] (typing (codes "q" ++ newline ++ replicate 32 120 ++ replicate 32 8 ++ newline))))
unfolding words_of meaning course_of
password_too_long_removed_to_none = refl

-- the next answer is judged anew
password_too_long_then_anew : answers (settings true 0 None 0 255)
    (listed (codes "q") (Some (codes "abc")) false false None ∷ listed (codes "dos") None false false None ∷ [])
    Empty None
    (typing (codes "q" ++ newline ++ replicate 40 120 ++ newline ++ codes "q" ++ newline ++ codes "abc" ++ newline))
    ≡ expected (Some (chosen 0 [] false None))
    (codes "boot: q" ++ newline ++ codes "Password: " ++ newline ++ codes "Sorry." ++ newline ++ codes "boot: q" ++ newline ++ codes "Password: " ++ newline)
    Empty []
    (Some (opened [] (typing (codes "q" ++ newline ++ replicate 40 120 ++ newline ++ codes "q" ++ newline ++ codes "abc" ++ newline))))
unfolding words_of meaning course_of
password_too_long_then_anew = refl

-- up to 31 bytes may be removed again
password_31_then_removed : answers (settings true 0 None 0 255)
    (listed (codes "q") (Some (codes "abc")) false false None ∷ listed (codes "dos") None false false None ∷ [])
    Empty None
    (typing (codes "q" ++ newline ++ codes "abc" ++ replicate 28 120 ++ replicate 28 127 ++ newline))
    ≡ expected (Some (chosen 0 [] false None))
    (codes "boot: q" ++ newline ++ codes "Password: " ++ newline)
    Empty []
    (Some (opened [] (typing (codes "q" ++ newline ++ codes "abc" ++ replicate 28 120 ++ replicate 28 127 ++ newline))))
unfolding words_of meaning course_of
password_31_then_removed = refl

-- an empty password is asked and answered by Enter
password_empty : answers (settings true 0 None 0 255)
    (listed (codes "q") (Some []) false false None ∷ listed (codes "dos") None false false None ∷ [])
    Empty None
    (typing (codes "q" ++ newline ++ newline))
    ≡ expected (Some (chosen 0 [] false None))
    (codes "boot: q" ++ newline ++ codes "Password: " ++ newline)
    Empty []
    (Some (opened [] (typing (codes "q" ++ newline ++ newline))))
unfolding words_of meaning course_of
password_empty = refl

-- a byte is wrong for an empty password
password_empty_wrong : answers (settings true 0 None 0 255)
    (listed (codes "q") (Some []) false false None ∷ listed (codes "dos") None false false None ∷ [])
    Empty None
    (typing (codes "q" ++ newline ++ codes "a" ++ newline))
    ≡ expected None
    (codes "boot: q" ++ newline ++ codes "Password: " ++ newline ++ codes "Sorry." ++ newline ++ codes "boot: ")
    Empty []
    (Some (opened [] (typing (codes "q" ++ newline ++ codes "a" ++ newline))))
unfolding words_of meaning course_of
password_empty_wrong = refl

-- an answer may begin after 599 ticks
password_599_ticks : answers (settings true 0 None 0 255)
    (listed (codes "secret") (Some (codes "abc")) false false None ∷ listed (codes "dos") None false false None ∷ [])
    Empty None
    (typing (codes "secret" ++ newline) ++ waiting 599 ++ typing (codes "abc" ++ newline))
    ≡ expected (Some (chosen 0 [] false None))
    (codes "boot: secret" ++ newline ++ codes "Password: " ++ newline)
    Empty []
    (Some (opened [] (typing (codes "secret" ++ newline) ++ waiting 599 ++ typing (codes "abc" ++ newline))))
unfolding words_of meaning course_of
password_599_ticks = refl

-- 600 ticks in a row end the question
password_600_ticks : answers (settings true 0 None 0 255)
    (listed (codes "secret") (Some (codes "abc")) false false None ∷ listed (codes "dos") None false false None ∷ [])
    Empty None
    (typing (codes "secret" ++ newline) ++ waiting 600 ++ typing (codes "abc" ++ newline))
    ≡ expected None
    (codes "boot: secret" ++ newline ++ codes "Password: " ++ newline ++ codes "boot: abc" ++ newline ++ codes "No such image." ++ newline ++ codes "boot: ")
    Empty []
    (Some (opened [] (typing (codes "secret" ++ newline) ++ waiting 600 ++ typing (codes "abc" ++ newline))))
unfolding words_of meaning course_of
password_600_ticks = refl

-- the question ends with the tick that completes 600
password_600_ticks_exactly : answers (settings true 0 None 0 255)
    (listed (codes "secret") (Some (codes "abc")) false false None ∷ listed (codes "dos") None false false None ∷ [])
    Empty None
    (typing (codes "secret" ++ newline) ++ waiting 600)
    ≡ expected None
    (codes "boot: secret" ++ newline ++ codes "Password: " ++ newline ++ codes "boot: ")
    Empty []
    (Some (opened [] (typing (codes "secret" ++ newline) ++ waiting 600)))
unfolding words_of meaning course_of
password_600_ticks_exactly = refl

-- the ticks after the 600 are taken at the prompt
password_601_ticks : answers (settings true 0 None 0 255)
    (listed (codes "secret") (Some (codes "abc")) false false None ∷ listed (codes "dos") None false false None ∷ [])
    Empty None
    (typing (codes "secret" ++ newline) ++ waiting 601 ++ typing (codes "dos" ++ newline))
    ≡ expected (Some (chosen 1 [] false None))
    (codes "boot: secret" ++ newline ++ codes "Password: " ++ newline ++ codes "boot: dos" ++ newline)
    Empty []
    (Some (opened [] (typing (codes "secret" ++ newline) ++ waiting 601 ++ typing (codes "dos" ++ newline))))
unfolding words_of meaning course_of
password_601_ticks = refl

-- 600 ticks in a row count after some bytes too
password_600_ticks_after_bytes : answers (settings true 0 None 0 255)
    (listed (codes "secret") (Some (codes "abc")) false false None ∷ listed (codes "dos") None false false None ∷ [])
    Empty None
    (typing (codes "secret" ++ newline ++ codes "ab") ++ waiting 600 ++ typing (codes "c" ++ newline ++ codes "dos" ++ newline))
    ≡ expected (Some (chosen 1 [] false None))
    (codes "boot: secret" ++ newline ++ codes "Password: " ++ newline ++ codes "boot: c" ++ newline ++ codes "No such image." ++ newline ++ codes "boot: dos" ++ newline)
    Empty []
    (Some (opened [] (typing (codes "secret" ++ newline ++ codes "ab") ++ waiting 600 ++ typing (codes "c" ++ newline ++ codes "dos" ++ newline))))
unfolding words_of meaning course_of
password_600_ticks_after_bytes = refl

-- a byte begins the count of ticks anew
password_ticks_with_byte_between : answers (settings true 0 None 0 255)
    (listed (codes "secret") (Some (codes "abc")) false false None ∷ listed (codes "dos") None false false None ∷ [])
    Empty None
    (typing (codes "secret" ++ newline) ++ waiting 599 ++ typing (codes "a") ++ waiting 599 ++ typing (codes "bc" ++ newline))
    ≡ expected (Some (chosen 0 [] false None))
    (codes "boot: secret" ++ newline ++ codes "Password: " ++ newline)
    Empty []
    (Some (opened [] (typing (codes "secret" ++ newline) ++ waiting 599 ++ typing (codes "a") ++ waiting 599 ++ typing (codes "bc" ++ newline))))
unfolding words_of meaning course_of
password_ticks_with_byte_between = refl

-- an ignored byte begins the count of ticks anew
password_ticks_with_ignored_between : answers (settings true 0 None 0 255)
    (listed (codes "secret") (Some (codes "abc")) false false None ∷ listed (codes "dos") None false false None ∷ [])
    Empty None
    (typing (codes "secret" ++ newline) ++ waiting 400 ++ typing (1 ∷ []) ++ waiting 400 ++ typing (codes "abc" ++ newline))
    ≡ expected (Some (chosen 0 [] false None))
    (codes "boot: secret" ++ newline ++ codes "Password: " ++ newline)
    Empty []
    (Some (opened [] (typing (codes "secret" ++ newline) ++ waiting 400 ++ typing (1 ∷ []) ++ waiting 400 ++ typing (codes "abc" ++ newline))))
unfolding words_of meaning course_of
password_ticks_with_ignored_between = refl

-- after the question ticks do nothing
password_1200_ticks : answers (settings true 0 None 0 255)
    (listed (codes "secret") (Some (codes "abc")) false false None ∷ listed (codes "dos") None false false None ∷ [])
    Empty None
    (typing (codes "secret" ++ newline) ++ waiting 1300 ++ typing (codes "secret" ++ newline ++ codes "abc" ++ newline))
    ≡ expected (Some (chosen 0 [] false None))
    (codes "boot: secret" ++ newline ++ codes "Password: " ++ newline ++ codes "boot: secret" ++ newline ++ codes "Password: " ++ newline)
    Empty []
    (Some (opened [] (typing (codes "secret" ++ newline) ++ waiting 1300 ++ typing (codes "secret" ++ newline ++ codes "abc" ++ newline))))
unfolding words_of meaning course_of
password_1200_ticks = refl

-- where the keys end at the question the prompt comes and nothing is chosen
password_silence : answers (settings true 0 None 0 255)
    (listed (codes "secret") (Some (codes "abc")) false false None ∷ listed (codes "dos") None false false None ∷ [])
    Empty None
    (typing (codes "secret" ++ newline ++ codes "ab"))
    ≡ expected None
    (codes "boot: secret" ++ newline ++ codes "Password: " ++ newline ++ codes "boot: ")
    Empty []
    (Some (opened [] (typing (codes "secret" ++ newline ++ codes "ab"))))
unfolding words_of meaning course_of
password_silence = refl

-- the default entry asks its password for an empty line
password_of_default_by_empty_line : answers (settings true 0 None 0 255)
    (listed (codes "secret") (Some (codes "abc")) false false None ∷ listed (codes "dos") None false false None ∷ [])
    Empty None
    (typing (newline ++ codes "abc" ++ newline))
    ≡ expected (Some (chosen 0 [] false None))
    (codes "boot: " ++ newline ++ codes "Password: " ++ newline)
    Empty []
    (Some (opened [] (typing (newline ++ codes "abc" ++ newline))))
unfolding words_of meaning course_of
password_of_default_by_empty_line = refl

-- a restricted default entry asks no password for an empty line
password_restricted_default_by_empty_line : answers (settings true 0 None 0 255)
    (listed (codes "linux") (Some (codes "tux")) true false None ∷ [])
    Empty None
    (typing newline)
    ≡ expected (Some (chosen 0 [] false None))
    (codes "boot: " ++ newline)
    Empty []
    (Some (opened [] (typing newline)))
unfolding words_of meaning course_of
password_restricted_default_by_empty_line = refl

-- an automatic choice asks the password
password_automatic : answers (settings false 0 None 0 255)
    (listed (codes "secret") (Some (codes "abc")) false false None ∷ listed (codes "dos") None false false None ∷ [])
    Empty None
    (typing (codes "abc" ++ newline ++ codes "x"))
    ≡ expected (Some (chosen 0 [] true None))
    (codes "Password: " ++ newline)
    Empty (typing (codes "x"))
    None
unfolding words_of meaning course_of
password_automatic = refl

-- an automatic choice without a password shows the prompt at the end
password_automatic_none : answers (settings false 0 None 0 255)
    (listed (codes "secret") (Some (codes "abc")) false false None ∷ listed (codes "dos") None false false None ∷ [])
    Empty None
    []
    ≡ expected None
    (codes "Password: " ++ newline ++ codes "boot: ")
    Empty []
    (Some (opened (codes "Password: " ++ newline) []))
unfolding words_of meaning course_of
password_automatic_none = refl

-- the message comes after the wrong password of an automatic choice
password_automatic_wrong : answers (settings false 0 None 0 255)
    (listed (codes "secret") (Some (codes "abc")) false false None ∷ listed (codes "dos") None false false None ∷ [])
    Empty (Some (codes "Hi" ++ newline))
    (typing (codes "b" ++ newline ++ newline ++ codes "abc" ++ newline))
    ≡ expected (Some (chosen 0 [] false None))
    (codes "Password: " ++ newline ++ codes "Sorry." ++ newline ++ codes "Hi" ++ newline ++ codes "boot: " ++ newline ++ codes "Password: " ++ newline)
    Empty []
    (Some (opened (codes "Password: " ++ newline ++ codes "Sorry." ++ newline) (typing (newline ++ codes "abc" ++ newline))))
unfolding words_of meaning course_of
password_automatic_wrong = refl

-- the password is asked once the delay is over
password_automatic_delay : answers (settings false 3 None 0 255)
    (listed (codes "secret") (Some (codes "abc")) false false None ∷ listed (codes "dos") None false false None ∷ [])
    Empty None
    (waiting 3 ++ typing (codes "abc" ++ newline))
    ≡ expected (Some (chosen 0 [] true None))
    (codes "Password: " ++ newline)
    Empty []
    None
unfolding words_of meaning course_of
password_automatic_delay = refl

-- the keys may end at the delay
password_automatic_delay_silence : answers (settings false 3 None 0 255)
    (listed (codes "secret") (Some (codes "abc")) false false None ∷ listed (codes "dos") None false false None ∷ [])
    Empty (Some (codes "Hi" ++ newline))
    (waiting 2)
    ≡ expected None
    (codes "Password: " ++ newline ++ codes "Hi" ++ newline ++ codes "boot: ")
    Empty []
    (Some (opened (codes "Password: " ++ newline) []))
unfolding words_of meaning course_of
password_automatic_delay_silence = refl

-- an automatic choice of a restricted entry asks nothing
password_automatic_restricted : answers (settings false 0 None 0 255)
    (listed (codes "linux") (Some (codes "tux")) true false None ∷ [])
    Empty None
    []
    ≡ expected (Some (chosen 0 [] true None))
    []
    Empty []
    None
unfolding words_of meaning course_of
password_automatic_restricted = refl

-- no timeout runs after a question
password_no_timeout_after_question : answers (settings false 0 (Some 5) 0 255)
    (listed (codes "secret") (Some (codes "abc")) false false None ∷ listed (codes "dos") None false false None ∷ [])
    Empty None
    (waiting 620 ++ typing (codes "dos" ++ newline))
    ≡ expected (Some (chosen 1 [] false None))
    (codes "Password: " ++ newline ++ codes "boot: dos" ++ newline)
    Empty []
    (Some (opened (codes "Password: " ++ newline) (waiting 20 ++ typing (codes "dos" ++ newline))))
unfolding words_of meaning course_of
password_no_timeout_after_question = refl

-- the word lock alone is not passed on, so no password is asked
restricted_lock_word_alone : answers (settings true 0 None 0 255)
    (listed (codes "linux") (Some (codes "tux")) true false None ∷ [])
    Empty None
    (typing (codes "linux lock" ++ newline))
    ≡ expected (Some (chosen 0 [] false None))
    (codes "boot: linux lock" ++ newline)
    (Kept (codes "linux")) []
    (Some (opened [] (typing (codes "linux lock" ++ newline))))
unfolding words_of meaning course_of
restricted_lock_word_alone = refl

-- a video mode alone is not passed on, so no password is asked
restricted_vga_word_alone : answers (settings true 0 None 0 255)
    (listed (codes "linux") (Some (codes "tux")) true false None ∷ [])
    Empty None
    (typing (codes "linux vga=ask" ++ newline))
    ≡ expected (Some (chosen 0 [] false (Some 65533)))
    (codes "boot: linux vga=ask" ++ newline)
    Empty []
    (Some (opened [] (typing (codes "linux vga=ask" ++ newline))))
unfolding words_of meaning course_of
restricted_vga_word_alone = refl

-- a wrong video mode is not passed on either
restricted_wrong_vga_word_alone : answers (settings true 0 None 0 255)
    (listed (codes "linux") (Some (codes "tux")) true false None ∷ [])
    Empty None
    (typing (codes "linux vga=what" ++ newline))
    ≡ expected (Some (chosen 0 [] false None))
    (codes "boot: linux vga=what" ++ newline)
    Empty []
    (Some (opened [] (typing (codes "linux vga=what" ++ newline))))
unfolding words_of meaning course_of
restricted_wrong_vga_word_alone = refl

-- one word that is passed on is enough for the password
restricted_mixed_words : answers (settings true 0 None 0 255)
    (listed (codes "linux") (Some (codes "tux")) true false None ∷ [])
    Empty None
    (typing (codes "linux lock vga=3 a" ++ newline ++ codes "tux" ++ newline))
    ≡ expected (Some (chosen 0 (codes "a") false (Some 3)))
    (codes "boot: linux lock vga=3 a" ++ newline ++ codes "Password: " ++ newline)
    (Kept (codes "linux vga=3 a")) []
    (Some (opened [] (typing (codes "linux lock vga=3 a" ++ newline ++ codes "tux" ++ newline))))
unfolding words_of meaning course_of
restricted_mixed_words = refl

-- an entry without a password asks none
restricted_without_a_password : answers (settings true 0 None 0 255)
    (listed (codes "linux") None true false None ∷ [])
    Empty None
    (typing (codes "linux a" ++ newline))
    ≡ expected (Some (chosen 0 (codes "a") false None))
    (codes "boot: linux a" ++ newline)
    Empty []
    (Some (opened [] (typing (codes "linux a" ++ newline))))
unfolding words_of meaning course_of
restricted_without_a_password = refl

-- words, video mode and lock last over the question
password_words_kept_over_question : answers (settings true 0 None 0 255)
    (listed (codes "secret") (Some (codes "abc")) false false None ∷ listed (codes "dos") None false false None ∷ [])
    Empty None
    (typing (codes "secret lock a vga=7 b" ++ newline ++ codes "abc" ++ newline))
    ≡ expected (Some (chosen 0 (codes "a b") false (Some 7)))
    (codes "boot: secret lock a vga=7 b" ++ newline ++ codes "Password: " ++ newline)
    (Kept (codes "secret a vga=7 b")) []
    (Some (opened [] (typing (codes "secret lock a vga=7 b" ++ newline ++ codes "abc" ++ newline))))
unfolding words_of meaning course_of
password_words_kept_over_question = refl

-- a video mode: the mode normal
video_mode_normal : answers (settings true 0 None 0 255)
    (listed (codes "linux") None false false None ∷ listed (codes "dos") None false false None ∷ [])
    Empty None
    (typing (codes "dos vga=normal a" ++ newline))
    ≡ expected (Some (chosen 1 (codes "a") false (Some 65535)))
    (codes "boot: dos vga=normal a" ++ newline)
    Empty []
    (Some (opened [] (typing (codes "dos vga=normal a" ++ newline))))
unfolding words_of meaning course_of
video_mode_normal = refl

-- a video mode: the mode ext
video_mode_ext : answers (settings true 0 None 0 255)
    (listed (codes "linux") None false false None ∷ listed (codes "dos") None false false None ∷ [])
    Empty None
    (typing (codes "dos vga=ext a" ++ newline))
    ≡ expected (Some (chosen 1 (codes "a") false (Some 65534)))
    (codes "boot: dos vga=ext a" ++ newline)
    Empty []
    (Some (opened [] (typing (codes "dos vga=ext a" ++ newline))))
unfolding words_of meaning course_of
video_mode_ext = refl

-- a video mode: the mode extended
video_mode_extended : answers (settings true 0 None 0 255)
    (listed (codes "linux") None false false None ∷ listed (codes "dos") None false false None ∷ [])
    Empty None
    (typing (codes "dos vga=extended a" ++ newline))
    ≡ expected (Some (chosen 1 (codes "a") false (Some 65534)))
    (codes "boot: dos vga=extended a" ++ newline)
    Empty []
    (Some (opened [] (typing (codes "dos vga=extended a" ++ newline))))
unfolding words_of meaning course_of
video_mode_extended = refl

-- a video mode: the mode ask
video_mode_ask : answers (settings true 0 None 0 255)
    (listed (codes "linux") None false false None ∷ listed (codes "dos") None false false None ∷ [])
    Empty None
    (typing (codes "dos vga=ask a" ++ newline))
    ≡ expected (Some (chosen 1 (codes "a") false (Some 65533)))
    (codes "boot: dos vga=ask a" ++ newline)
    Empty []
    (Some (opened [] (typing (codes "dos vga=ask a" ++ newline))))
unfolding words_of meaning course_of
video_mode_ask = refl

-- a video mode: a decimal number
video_mode_decimal : answers (settings true 0 None 0 255)
    (listed (codes "linux") None false false None ∷ listed (codes "dos") None false false None ∷ [])
    Empty None
    (typing (codes "dos vga=769 a" ++ newline))
    ≡ expected (Some (chosen 1 (codes "a") false (Some 769)))
    (codes "boot: dos vga=769 a" ++ newline)
    Empty []
    (Some (opened [] (typing (codes "dos vga=769 a" ++ newline))))
unfolding words_of meaning course_of
video_mode_decimal = refl

-- a video mode: the number 0
video_mode_zero : answers (settings true 0 None 0 255)
    (listed (codes "linux") None false false None ∷ listed (codes "dos") None false false None ∷ [])
    Empty None
    (typing (codes "dos vga=0 a" ++ newline))
    ≡ expected (Some (chosen 1 (codes "a") false (Some 0)))
    (codes "boot: dos vga=0 a" ++ newline)
    Empty []
    (Some (opened [] (typing (codes "dos vga=0 a" ++ newline))))
unfolding words_of meaning course_of
video_mode_zero = refl

-- a video mode: the greatest number
video_mode_most : answers (settings true 0 None 0 255)
    (listed (codes "linux") None false false None ∷ listed (codes "dos") None false false None ∷ [])
    Empty None
    (typing (codes "dos vga=65535 a" ++ newline))
    ≡ expected (Some (chosen 1 (codes "a") false (Some 65535)))
    (codes "boot: dos vga=65535 a" ++ newline)
    Empty []
    (Some (opened [] (typing (codes "dos vga=65535 a" ++ newline))))
unfolding words_of meaning course_of
video_mode_most = refl

-- a video mode: a number above the greatest
video_mode_above_most : answers (settings true 0 None 0 255)
    (listed (codes "linux") None false false None ∷ listed (codes "dos") None false false None ∷ [])
    Empty None
    (typing (codes "dos vga=65536 a" ++ newline))
    ≡ expected (Some (chosen 1 (codes "a") false None))
    (codes "boot: dos vga=65536 a" ++ newline)
    Empty []
    (Some (opened [] (typing (codes "dos vga=65536 a" ++ newline))))
unfolding words_of meaning course_of
video_mode_above_most = refl

-- a video mode: a hexadecimal number
video_mode_hexadecimal : answers (settings true 0 None 0 255)
    (listed (codes "linux") None false false None ∷ listed (codes "dos") None false false None ∷ [])
    Empty None
    (typing (codes "dos vga=0x301 a" ++ newline))
    ≡ expected (Some (chosen 1 (codes "a") false (Some 769)))
    (codes "boot: dos vga=0x301 a" ++ newline)
    Empty []
    (Some (opened [] (typing (codes "dos vga=0x301 a" ++ newline))))
unfolding words_of meaning course_of
video_mode_hexadecimal = refl

-- a video mode: hexadecimal digits in either case
video_mode_hexadecimal_letters : answers (settings true 0 None 0 255)
    (listed (codes "linux") None false false None ∷ listed (codes "dos") None false false None ∷ [])
    Empty None
    (typing (codes "dos vga=0xfFfD a" ++ newline))
    ≡ expected (Some (chosen 1 (codes "a") false (Some 65533)))
    (codes "boot: dos vga=0xfFfD a" ++ newline)
    Empty []
    (Some (opened [] (typing (codes "dos vga=0xfFfD a" ++ newline))))
unfolding words_of meaning course_of
video_mode_hexadecimal_letters = refl

-- a video mode: a prefix with a capital is no number
video_mode_upper_prefix : answers (settings true 0 None 0 255)
    (listed (codes "linux") None false false None ∷ listed (codes "dos") None false false None ∷ [])
    Empty None
    (typing (codes "dos vga=0X301 a" ++ newline))
    ≡ expected (Some (chosen 1 (codes "a") false None))
    (codes "boot: dos vga=0X301 a" ++ newline)
    Empty []
    (Some (opened [] (typing (codes "dos vga=0X301 a" ++ newline))))
unfolding words_of meaning course_of
video_mode_upper_prefix = refl

-- a video mode: a prefix alone is no number
video_mode_prefix_alone : answers (settings true 0 None 0 255)
    (listed (codes "linux") None false false None ∷ listed (codes "dos") None false false None ∷ [])
    Empty None
    (typing (codes "dos vga=0x a" ++ newline))
    ≡ expected (Some (chosen 1 (codes "a") false None))
    (codes "boot: dos vga=0x a" ++ newline)
    Empty []
    (Some (opened [] (typing (codes "dos vga=0x a" ++ newline))))
unfolding words_of meaning course_of
video_mode_prefix_alone = refl

-- a video mode: a hexadecimal number above the greatest
video_mode_hexadecimal_above : answers (settings true 0 None 0 255)
    (listed (codes "linux") None false false None ∷ listed (codes "dos") None false false None ∷ [])
    Empty None
    (typing (codes "dos vga=0x10000 a" ++ newline))
    ≡ expected (Some (chosen 1 (codes "a") false None))
    (codes "boot: dos vga=0x10000 a" ++ newline)
    Empty []
    (Some (opened [] (typing (codes "dos vga=0x10000 a" ++ newline))))
unfolding words_of meaning course_of
video_mode_hexadecimal_above = refl

-- a video mode: an empty value
video_mode_empty : answers (settings true 0 None 0 255)
    (listed (codes "linux") None false false None ∷ listed (codes "dos") None false false None ∷ [])
    Empty None
    (typing (codes "dos vga= a" ++ newline))
    ≡ expected (Some (chosen 1 (codes "a") false None))
    (codes "boot: dos vga= a" ++ newline)
    Empty []
    (Some (opened [] (typing (codes "dos vga= a" ++ newline))))
unfolding words_of meaning course_of
video_mode_empty = refl

-- a video mode: leading zeros
video_mode_leading_zeros : answers (settings true 0 None 0 255)
    (listed (codes "linux") None false false None ∷ listed (codes "dos") None false false None ∷ [])
    Empty None
    (typing (codes "dos vga=000000000769 a" ++ newline))
    ≡ expected (Some (chosen 1 (codes "a") false (Some 769)))
    (codes "boot: dos vga=000000000769 a" ++ newline)
    Empty []
    (Some (opened [] (typing (codes "dos vga=000000000769 a" ++ newline))))
unfolding words_of meaning course_of
video_mode_leading_zeros = refl

-- a video mode: hexadecimal leading zeros
video_mode_hexadecimal_leading_zeros : answers (settings true 0 None 0 255)
    (listed (codes "linux") None false false None ∷ listed (codes "dos") None false false None ∷ [])
    Empty None
    (typing (codes "dos vga=0x0000000000ff a" ++ newline))
    ≡ expected (Some (chosen 1 (codes "a") false (Some 255)))
    (codes "boot: dos vga=0x0000000000ff a" ++ newline)
    Empty []
    (Some (opened [] (typing (codes "dos vga=0x0000000000ff a" ++ newline))))
unfolding words_of meaning course_of
video_mode_hexadecimal_leading_zeros = refl

-- a video mode: letters
video_mode_letters : answers (settings true 0 None 0 255)
    (listed (codes "linux") None false false None ∷ listed (codes "dos") None false false None ∷ [])
    Empty None
    (typing (codes "dos vga=abc a" ++ newline))
    ≡ expected (Some (chosen 1 (codes "a") false None))
    (codes "boot: dos vga=abc a" ++ newline)
    Empty []
    (Some (opened [] (typing (codes "dos vga=abc a" ++ newline))))
unfolding words_of meaning course_of
video_mode_letters = refl

-- a video mode: digits and a letter
video_mode_digits_then_letters : answers (settings true 0 None 0 255)
    (listed (codes "linux") None false false None ∷ listed (codes "dos") None false false None ∷ [])
    Empty None
    (typing (codes "dos vga=12a a" ++ newline))
    ≡ expected (Some (chosen 1 (codes "a") false None))
    (codes "boot: dos vga=12a a" ++ newline)
    Empty []
    (Some (opened [] (typing (codes "dos vga=12a a" ++ newline))))
unfolding words_of meaning course_of
video_mode_digits_then_letters = refl

-- a video mode: a sign is no digit
video_mode_minus : answers (settings true 0 None 0 255)
    (listed (codes "linux") None false false None ∷ listed (codes "dos") None false false None ∷ [])
    Empty None
    (typing (codes "dos vga=-1 a" ++ newline))
    ≡ expected (Some (chosen 1 (codes "a") false None))
    (codes "boot: dos vga=-1 a" ++ newline)
    Empty []
    (Some (opened [] (typing (codes "dos vga=-1 a" ++ newline))))
unfolding words_of meaning course_of
video_mode_minus = refl

-- a video mode: a plus is no digit
video_mode_plus : answers (settings true 0 None 0 255)
    (listed (codes "linux") None false false None ∷ listed (codes "dos") None false false None ∷ [])
    Empty None
    (typing (codes "dos vga=+1 a" ++ newline))
    ≡ expected (Some (chosen 1 (codes "a") false None))
    (codes "boot: dos vga=+1 a" ++ newline)
    Empty []
    (Some (opened [] (typing (codes "dos vga=+1 a" ++ newline))))
unfolding words_of meaning course_of
video_mode_plus = refl

-- a video mode: names of modes in capitals are none
video_mode_capital : answers (settings true 0 None 0 255)
    (listed (codes "linux") None false false None ∷ listed (codes "dos") None false false None ∷ [])
    Empty None
    (typing (codes "dos vga=ASK a" ++ newline))
    ≡ expected (Some (chosen 1 (codes "a") false None))
    (codes "boot: dos vga=ASK a" ++ newline)
    Empty []
    (Some (opened [] (typing (codes "dos vga=ASK a" ++ newline))))
unfolding words_of meaning course_of
video_mode_capital = refl

-- a video mode: a prefix of a name is none
video_mode_name_prefix : answers (settings true 0 None 0 255)
    (listed (codes "linux") None false false None ∷ listed (codes "dos") None false false None ∷ [])
    Empty None
    (typing (codes "dos vga=norma a" ++ newline))
    ≡ expected (Some (chosen 1 (codes "a") false None))
    (codes "boot: dos vga=norma a" ++ newline)
    Empty []
    (Some (opened [] (typing (codes "dos vga=norma a" ++ newline))))
unfolding words_of meaning course_of
video_mode_name_prefix = refl

-- a video mode: a longer name is none
video_mode_name_longer : answers (settings true 0 None 0 255)
    (listed (codes "linux") None false false None ∷ listed (codes "dos") None false false None ∷ [])
    Empty None
    (typing (codes "dos vga=normally a" ++ newline))
    ≡ expected (Some (chosen 1 (codes "a") false None))
    (codes "boot: dos vga=normally a" ++ newline)
    Empty []
    (Some (opened [] (typing (codes "dos vga=normally a" ++ newline))))
unfolding words_of meaning course_of
video_mode_name_longer = refl
