-- Cases of the choice at the prompt, part 2; tools/choice_cases.py writes this file.
use Rattle.std.proofs.Common.{◌≡◌, [], ◌∷◌, ◌++◌, replicate, true, false, None, Some, codes, refl}
use Rattle.lilo_model.specs.DefaultLine.{Empty, Once, Kept}
use Rattle.lilo_model.specs.LineEdits.{erasing_text}
use Rattle.lilo_model.specs.LineWords.{words_of, meaning}
use Rattle.lilo_model.specs.Choice.{newline, course_of}
use Rattle.model_cases.specs.Cases.{typing, waiting, settings, listed, chosen, answers, expected, opened}

-- a tab later in a line is ignored
prompt_tab_later : answers (settings true 0 None 0 255)
    (listed (codes "linux") None false false None ∷ listed (codes "dos") None false false None ∷ [])
    Empty None
    (typing (codes "do" ++ (9 ∷ []) ++ codes "s" ++ newline))
    ≡ expected (Some (chosen 1 [] false None))
    (codes "boot: dos" ++ newline)
    Empty []
    (Some (opened [] (typing (codes "do" ++ (9 ∷ []) ++ codes "s" ++ newline))))
unfolding words_of meaning course_of
prompt_tab_later = refl

-- a question mark later in a line is appended
prompt_question_mark_later : answers (settings true 0 None 0 255)
    (listed (codes "linux") None false false None ∷ listed (codes "dos") None false false None ∷ [])
    Empty None
    (typing (codes "dos a" ++ (63 ∷ []) ++ newline))
    ≡ expected (Some (chosen 1 (codes "a" ++ (63 ∷ [])) false None))
    (codes "boot: dos a" ++ (63 ∷ []) ++ newline)
    Empty []
    (Some (opened [] (typing (codes "dos a" ++ (63 ∷ []) ++ newline))))
unfolding words_of meaning course_of
prompt_question_mark_later = refl

-- a question mark as the first key lists the names
prompt_question_mark_lists : answers (settings true 0 None 0 255)
    (listed (codes "linux") None false false None ∷ listed (codes "dos") None false false None ∷ [])
    Empty None
    (typing ((63 ∷ []) ++ codes "dos" ++ newline))
    ≡ expected (Some (chosen 1 [] false None))
    (codes "boot: " ++ newline ++ codes "linux" ++ newline ++ codes "dos" ++ newline ++ codes "boot: dos" ++ newline)
    Empty []
    (Some (opened [] (typing ((63 ∷ []) ++ codes "dos" ++ newline))))
unfolding words_of meaning course_of
prompt_question_mark_lists = refl

-- after a list the next key is a first key again
prompt_list_twice : answers (settings true 0 None 0 255)
    (listed (codes "linux") None false false None ∷ listed (codes "dos") None false false None ∷ [])
    Empty None
    (typing ((9 ∷ []) ++ (63 ∷ []) ++ (9 ∷ []) ++ codes "dos" ++ newline))
    ≡ expected (Some (chosen 1 [] false None))
    (codes "boot: " ++ newline ++ codes "linux" ++ newline ++ codes "dos" ++ newline ++ codes "boot: " ++ newline ++ codes "linux" ++ newline ++ codes "dos" ++ newline ++ codes "boot: " ++ newline ++ codes "linux" ++ newline ++ codes "dos" ++ newline ++ codes "boot: dos" ++ newline)
    Empty []
    (Some (opened [] (typing ((9 ∷ []) ++ (63 ∷ []) ++ (9 ∷ []) ++ codes "dos" ++ newline))))
unfolding words_of meaning course_of
prompt_list_twice = refl

-- the list has each name on a line
prompt_list_many : answers (settings true 0 None 0 255)
    (listed (codes "linux") None false false None ∷ listed (codes "dos") None false false None ∷ listed (codes "secret") (Some (codes "abc")) false false None ∷ listed (codes "locked") None false true None ∷ listed (codes "tried") None false false (Some (codes "linux")) ∷ [])
    Empty None
    (typing (9 ∷ []))
    ≡ expected None
    (codes "boot: " ++ newline ++ codes "linux" ++ newline ++ codes "dos" ++ newline ++ codes "secret" ++ newline ++ codes "locked" ++ newline ++ codes "tried" ++ newline ++ codes "boot: ")
    Empty []
    (Some (opened [] (typing (9 ∷ []))))
unfolding words_of meaning course_of
prompt_list_many = refl

-- a tab after an ignored byte is no first key
prompt_tab_after_ignored : answers (settings true 0 None 0 255)
    (listed (codes "linux") None false false None ∷ listed (codes "dos") None false false None ∷ [])
    Empty None
    (typing ((1 ∷ []) ++ (9 ∷ []) ++ codes "dos" ++ newline))
    ≡ expected (Some (chosen 1 [] false None))
    (codes "boot: dos" ++ newline)
    Empty []
    (Some (opened [] (typing ((1 ∷ []) ++ (9 ∷ []) ++ codes "dos" ++ newline))))
unfolding words_of meaning course_of
prompt_tab_after_ignored = refl

-- a tab after a removal is no first key
prompt_tab_after_removal : answers (settings true 0 None 0 255)
    (listed (codes "linux") None false false None ∷ listed (codes "dos") None false false None ∷ [])
    Empty None
    (typing ((127 ∷ []) ++ (9 ∷ []) ++ codes "dos" ++ newline))
    ≡ expected (Some (chosen 1 [] false None))
    (codes "boot: dos" ++ newline)
    Empty []
    (Some (opened [] (typing ((127 ∷ []) ++ (9 ∷ []) ++ codes "dos" ++ newline))))
unfolding words_of meaning course_of
prompt_tab_after_removal = refl

-- ticks leave the next key a first key
prompt_tab_after_ticks : answers (settings true 0 None 0 255)
    (listed (codes "linux") None false false None ∷ listed (codes "dos") None false false None ∷ [])
    Empty None
    (waiting 5 ++ typing ((9 ∷ []) ++ codes "dos" ++ newline))
    ≡ expected (Some (chosen 1 [] false None))
    (codes "boot: " ++ newline ++ codes "linux" ++ newline ++ codes "dos" ++ newline ++ codes "boot: dos" ++ newline)
    Empty []
    (Some (opened [] (waiting 5 ++ typing ((9 ∷ []) ++ codes "dos" ++ newline))))
unfolding words_of meaning course_of
prompt_tab_after_ticks = refl

-- a tab after an emptied line is a first key
prompt_tab_after_clearing : answers (settings true 0 None 0 255)
    (listed (codes "linux") None false false None ∷ listed (codes "dos") None false false None ∷ [])
    Empty None
    (typing (codes "ab" ++ (21 ∷ []) ++ (9 ∷ []) ++ codes "dos" ++ newline))
    ≡ expected (Some (chosen 1 [] false None))
    (codes "boot: ab" ++ newline ++ codes "boot: " ++ newline ++ codes "linux" ++ newline ++ codes "dos" ++ newline ++ codes "boot: dos" ++ newline)
    Empty []
    (Some (opened [] (typing (codes "ab" ++ (21 ∷ []) ++ (9 ∷ []) ++ codes "dos" ++ newline))))
unfolding words_of meaning course_of
prompt_tab_after_clearing = refl

-- after bytes are removed to none the next key is no first key
prompt_tab_after_erased_to_none : answers (settings true 0 None 0 255)
    (listed (codes "linux") None false false None ∷ listed (codes "dos") None false false None ∷ [])
    Empty None
    (typing (codes "ab" ++ (8 ∷ []) ++ (8 ∷ []) ++ (9 ∷ []) ++ codes "dos" ++ newline))
    ≡ expected (Some (chosen 1 [] false None))
    (codes "boot: ab" ++ erasing_text ++ erasing_text ++ codes "dos" ++ newline)
    Empty []
    (Some (opened [] (typing (codes "ab" ++ (8 ∷ []) ++ (8 ∷ []) ++ (9 ∷ []) ++ codes "dos" ++ newline))))
unfolding words_of meaning course_of
prompt_tab_after_erased_to_none = refl

-- a question mark is appended after bytes are removed to none
prompt_question_after_erased_to_none : answers (settings true 0 None 0 255)
    (listed (codes "linux") None false false None ∷ listed (codes "dos") None false false None ∷ [])
    Empty None
    (typing (codes "ab" ++ (127 ∷ []) ++ (127 ∷ []) ++ (63 ∷ []) ++ newline))
    ≡ expected None
    (codes "boot: ab" ++ erasing_text ++ erasing_text ++ (63 ∷ []) ++ newline ++ codes "No such image." ++ newline ++ codes "boot: ")
    Empty []
    (Some (opened [] (typing (codes "ab" ++ (127 ∷ []) ++ (127 ∷ []) ++ (63 ∷ []) ++ newline))))
unfolding words_of meaning course_of
prompt_question_after_erased_to_none = refl

-- a tab after a wrong name is a first key
prompt_tab_after_wrong_name : answers (settings true 0 None 0 255)
    (listed (codes "linux") None false false None ∷ listed (codes "dos") None false false None ∷ [])
    Empty None
    (typing (codes "x" ++ newline ++ (9 ∷ []) ++ codes "dos" ++ newline))
    ≡ expected (Some (chosen 1 [] false None))
    (codes "boot: x" ++ newline ++ codes "No such image." ++ newline ++ codes "boot: " ++ newline ++ codes "linux" ++ newline ++ codes "dos" ++ newline ++ codes "boot: dos" ++ newline)
    Empty []
    (Some (opened [] (typing (codes "x" ++ newline ++ (9 ∷ []) ++ codes "dos" ++ newline))))
unfolding words_of meaning course_of
prompt_tab_after_wrong_name = refl

-- an emptied line is shown and begun anew
prompt_clearing : answers (settings true 0 None 0 255)
    (listed (codes "linux") None false false None ∷ listed (codes "dos") None false false None ∷ [])
    Empty None
    (typing (codes "linux" ++ (21 ∷ []) ++ codes "dos" ++ newline))
    ≡ expected (Some (chosen 1 [] false None))
    (codes "boot: linux" ++ newline ++ codes "boot: dos" ++ newline)
    Empty []
    (Some (opened [] (typing (codes "linux" ++ (21 ∷ []) ++ codes "dos" ++ newline))))
unfolding words_of meaning course_of
prompt_clearing = refl

-- an empty line can be emptied
prompt_clearing_empty : answers (settings true 0 None 0 255)
    (listed (codes "linux") None false false None ∷ listed (codes "dos") None false false None ∷ [])
    Empty None
    (typing ((21 ∷ []) ++ (21 ∷ []) ++ codes "dos" ++ newline))
    ≡ expected (Some (chosen 1 [] false None))
    (codes "boot: " ++ newline ++ codes "boot: " ++ newline ++ codes "boot: dos" ++ newline)
    Empty []
    (Some (opened [] (typing ((21 ∷ []) ++ (21 ∷ []) ++ codes "dos" ++ newline))))
unfolding words_of meaning course_of
prompt_clearing_empty = refl

-- an emptied line does not show the message again
prompt_clearing_message : answers (settings true 0 None 0 255)
    (listed (codes "linux") None false false None ∷ listed (codes "dos") None false false None ∷ [])
    Empty (Some (codes "M"))
    (typing (codes "a" ++ (21 ∷ []) ++ codes "dos" ++ newline))
    ≡ expected (Some (chosen 1 [] false None))
    (codes "Mboot: a" ++ newline ++ codes "boot: dos" ++ newline)
    Empty []
    (Some (opened [] (typing (codes "a" ++ (21 ∷ []) ++ codes "dos" ++ newline))))
unfolding words_of meaning course_of
prompt_clearing_message = refl

-- a removal is shown by going back over the byte
prompt_removals : answers (settings true 0 None 0 255)
    (listed (codes "linux") None false false None ∷ listed (codes "dos") None false false None ∷ [])
    Empty None
    (typing (codes "dox" ++ (8 ∷ []) ++ codes "s" ++ newline))
    ≡ expected (Some (chosen 1 [] false None))
    (codes "boot: dox" ++ erasing_text ++ codes "s" ++ newline)
    Empty []
    (Some (opened [] (typing (codes "dox" ++ (8 ∷ []) ++ codes "s" ++ newline))))
unfolding words_of meaning course_of
prompt_removals = refl

-- either removing byte removes
prompt_removal_127 : answers (settings true 0 None 0 255)
    (listed (codes "linux") None false false None ∷ listed (codes "dos") None false false None ∷ [])
    Empty None
    (typing (codes "dox" ++ (127 ∷ []) ++ codes "s" ++ newline))
    ≡ expected (Some (chosen 1 [] false None))
    (codes "boot: dox" ++ erasing_text ++ codes "s" ++ newline)
    Empty []
    (Some (opened [] (typing (codes "dox" ++ (127 ∷ []) ++ codes "s" ++ newline))))
unfolding words_of meaning course_of
prompt_removal_127 = refl

-- a removal at an empty line shows nothing
prompt_removal_at_none : answers (settings true 0 None 0 255)
    (listed (codes "linux") None false false None ∷ listed (codes "dos") None false false None ∷ [])
    Empty None
    (typing ((8 ∷ []) ++ (8 ∷ []) ++ codes "dos" ++ newline))
    ≡ expected (Some (chosen 1 [] false None))
    (codes "boot: dos" ++ newline)
    Empty []
    (Some (opened [] (typing ((8 ∷ []) ++ (8 ∷ []) ++ codes "dos" ++ newline))))
unfolding words_of meaning course_of
prompt_removal_at_none = refl

-- more removals than bytes do no harm
prompt_removal_more_than_typed : answers (settings true 0 None 0 255)
    (listed (codes "linux") None false false None ∷ listed (codes "dos") None false false None ∷ [])
    Empty None
    (typing (codes "ab" ++ (8 ∷ []) ++ (8 ∷ []) ++ (8 ∷ []) ++ (127 ∷ []) ++ codes "dos" ++ newline))
    ≡ expected (Some (chosen 1 [] false None))
    (codes "boot: ab" ++ erasing_text ++ erasing_text ++ codes "dos" ++ newline)
    Empty []
    (Some (opened [] (typing (codes "ab" ++ (8 ∷ []) ++ (8 ∷ []) ++ (8 ∷ []) ++ (127 ∷ []) ++ codes "dos" ++ newline))))
unfolding words_of meaning course_of
prompt_removal_more_than_typed = refl

-- a line has 255 bytes
prompt_line_of_255_bytes : answers (settings true 0 None 0 255)
    (listed (codes "linux") None false false None ∷ listed (codes "dos") None false false None ∷ [])
    Empty None
    (typing (codes "dos " ++ replicate 251 97 ++ newline))
    ≡ expected (Some (chosen 1 (replicate 251 97) false None))
    (codes "boot: dos " ++ replicate 251 97 ++ newline)
    Empty []
    (Some (opened [] (typing (codes "dos " ++ replicate 251 97 ++ newline))))
unfolding words_of meaning course_of
prompt_line_of_255_bytes = refl

-- a byte past 255 is ignored and not shown
prompt_line_of_256_bytes : answers (settings true 0 None 0 255)
    (listed (codes "linux") None false false None ∷ listed (codes "dos") None false false None ∷ [])
    Empty None
    (typing (codes "dos " ++ replicate 251 97 ++ codes "b" ++ newline))
    ≡ expected (Some (chosen 1 (replicate 251 97) false None))
    (codes "boot: dos " ++ replicate 251 97 ++ newline)
    Empty []
    (Some (opened [] (typing (codes "dos " ++ replicate 251 97 ++ codes "b" ++ newline))))
unfolding words_of meaning course_of
prompt_line_of_256_bytes = refl

-- after a removal a full line takes one byte more
prompt_full_line_removal : answers (settings true 0 None 0 255)
    (listed (codes "linux") None false false None ∷ listed (codes "dos") None false false None ∷ [])
    Empty None
    (typing (codes "dos " ++ replicate 251 97 ++ codes "b" ++ (8 ∷ []) ++ codes "cd" ++ newline))
    ≡ expected (Some (chosen 1 (replicate 250 97 ++ codes "c") false None))
    (codes "boot: dos " ++ replicate 251 97 ++ erasing_text ++ codes "c" ++ newline)
    Empty []
    (Some (opened [] (typing (codes "dos " ++ replicate 251 97 ++ codes "b" ++ (8 ∷ []) ++ codes "cd" ++ newline))))
unfolding words_of meaning course_of
prompt_full_line_removal = refl

-- a full line can be emptied
prompt_full_line_clearing : answers (settings true 0 None 0 255)
    (listed (codes "linux") None false false None ∷ listed (codes "dos") None false false None ∷ [])
    Empty None
    (typing (replicate 300 120 ++ (21 ∷ []) ++ codes "dos" ++ newline))
    ≡ expected (Some (chosen 1 [] false None))
    (codes "boot: " ++ replicate 255 120 ++ newline ++ codes "boot: dos" ++ newline)
    Empty []
    (Some (opened [] (typing (replicate 300 120 ++ (21 ∷ []) ++ codes "dos" ++ newline))))
unfolding words_of meaning course_of
prompt_full_line_clearing = refl

-- a smaller capacity cuts a line earlier
prompt_capacity_small : answers (settings true 0 None 0 3)
    (listed (codes "linux") None false false None ∷ listed (codes "dos") None false false None ∷ [])
    Empty None
    (typing (codes "dosy" ++ newline))
    ≡ expected (Some (chosen 1 [] false None))
    (codes "boot: dos" ++ newline)
    Empty []
    (Some (opened [] (typing (codes "dosy" ++ newline))))
unfolding words_of meaning course_of
prompt_capacity_small = refl

-- with no capacity a line stays empty
prompt_capacity_zero : answers (settings true 0 None 0 0)
    (listed (codes "linux") None false false None ∷ listed (codes "dos") None false false None ∷ [])
    Empty None
    (typing (codes "dos" ++ newline))
    ≡ expected (Some (chosen 0 [] false None))
    (codes "boot: " ++ newline)
    Empty []
    (Some (opened [] (typing (codes "dos" ++ newline))))
unfolding words_of meaning course_of
prompt_capacity_zero = refl

-- a greater capacity takes a longer line
prompt_capacity_470 : answers (settings true 0 None 0 470)
    (listed (codes "linux") None false false None ∷ listed (codes "dos") None false false None ∷ [])
    Empty None
    (typing (codes "dos " ++ replicate 470 97 ++ newline))
    ≡ expected (Some (chosen 1 (replicate 466 97) false None))
    (codes "boot: dos " ++ replicate 466 97 ++ newline)
    Empty []
    (Some (opened [] (typing (codes "dos " ++ replicate 470 97 ++ newline))))
unfolding words_of meaning course_of
prompt_capacity_470 = refl

-- the keys after the deciding byte are not taken
prompt_keys_behind_stay : answers (settings true 0 None 0 255)
    (listed (codes "linux") None false false None ∷ listed (codes "dos") None false false None ∷ [])
    Empty None
    (typing (codes "dos" ++ newline ++ codes "linux" ++ newline) ++ waiting 3)
    ≡ expected (Some (chosen 1 [] false None))
    (codes "boot: dos" ++ newline)
    Empty (typing (codes "linux" ++ newline) ++ waiting 3)
    (Some (opened [] (typing (codes "dos" ++ newline ++ codes "linux" ++ newline) ++ waiting 3)))
unfolding words_of meaning course_of
prompt_keys_behind_stay = refl

-- an absent message shows nothing
prompt_no_message : answers (settings true 0 None 0 255)
    (listed (codes "linux") None false false None ∷ listed (codes "dos") None false false None ∷ [])
    Empty None
    (typing newline)
    ≡ expected (Some (chosen 0 [] false None))
    (codes "boot: " ++ newline)
    Empty []
    (Some (opened [] (typing newline)))
unfolding words_of meaning course_of
prompt_no_message = refl

-- the message may hold the text of the prompt
prompt_message_like_prompt : answers (settings true 0 None 0 255)
    (listed (codes "linux") None false false None ∷ listed (codes "dos") None false false None ∷ [])
    Empty (Some (codes "boot: boot: "))
    (typing (codes "x" ++ newline ++ newline))
    ≡ expected (Some (chosen 0 [] false None))
    (codes "boot: boot: boot: x" ++ newline ++ codes "No such image." ++ newline ++ codes "boot: " ++ newline)
    Empty []
    (Some (opened [] (typing (codes "x" ++ newline ++ newline))))
unfolding words_of meaning course_of
prompt_message_like_prompt = refl

-- the message is shown though no key comes
prompt_message_alone_idle : answers (settings true 0 None 0 255)
    (listed (codes "linux") None false false None ∷ listed (codes "dos") None false false None ∷ [])
    Empty (Some (codes "Hi" ++ (13 ∷ []) ++ newline))
    []
    ≡ expected None
    (codes "Hi" ++ (13 ∷ []) ++ newline ++ codes "boot: ")
    Empty []
    (Some (opened [] []))
unfolding words_of meaning course_of
prompt_message_alone_idle = refl

-- no message is shown where the prompt is not
no_message_without_prompt : answers (settings false 0 None 0 255)
    (listed (codes "linux") None false false None ∷ listed (codes "dos") None false false None ∷ [])
    Empty (Some (codes "Hi" ++ newline))
    []
    ≡ expected (Some (chosen 0 [] true None))
    []
    Empty []
    None
unfolding words_of meaning course_of
no_message_without_prompt = refl

-- a usable line for one boot is chosen and erased
once_usable : answers (settings false 0 None 0 255)
    (listed (codes "linux") None false false None ∷ listed (codes "dos") None false false None ∷ [])
    (Once (codes "dos a b")) None
    []
    ≡ expected (Some (chosen 1 (codes "a b") true None))
    []
    Empty []
    None
unfolding words_of meaning course_of
once_usable = refl

-- a usable kept line is chosen and stays
kept_usable : answers (settings false 0 None 0 255)
    (listed (codes "linux") None false false None ∷ listed (codes "dos") None false false None ∷ [])
    (Kept (codes "dos a b")) None
    []
    ≡ expected (Some (chosen 1 (codes "a b") true None))
    []
    (Kept (codes "dos a b")) []
    None
unfolding words_of meaning course_of
kept_usable = refl

-- a line for one boot whose first word is no name is erased all the same
once_unusable : answers (settings false 0 None 0 255)
    (listed (codes "linux") None false false None ∷ listed (codes "dos") None false false None ∷ [])
    (Once (codes "none a")) None
    []
    ≡ expected (Some (chosen 0 [] true None))
    []
    Empty []
    None
unfolding words_of meaning course_of
once_unusable = refl

-- a kept line whose first word is no name stays
kept_unusable : answers (settings false 0 None 0 255)
    (listed (codes "linux") None false false None ∷ listed (codes "dos") None false false None ∷ [])
    (Kept (codes "none a")) None
    []
    ≡ expected (Some (chosen 0 [] true None))
    []
    (Kept (codes "none a")) []
    None
unfolding words_of meaning course_of
kept_unusable = refl

-- a line that is not usable leaves the prompt to be shown
kept_unusable_with_prompt : answers (settings true 0 (Some 2) 0 255)
    (listed (codes "linux") None false false None ∷ listed (codes "dos") None false false None ∷ [])
    (Kept (codes "none a")) None
    (waiting 2)
    ≡ expected (Some (chosen 0 [] true None))
    (codes "boot: " ++ newline)
    (Kept (codes "none a")) []
    (Some (opened [] (waiting 2)))
unfolding words_of meaning course_of
kept_unusable_with_prompt = refl

-- a line for one boot that is not usable is erased after the timeout
once_unusable_with_prompt : answers (settings true 0 (Some 2) 0 255)
    (listed (codes "linux") None false false None ∷ listed (codes "dos") None false false None ∷ [])
    (Once (codes "none")) None
    (waiting 2)
    ≡ expected (Some (chosen 0 [] true None))
    (codes "boot: " ++ newline)
    Empty []
    (Some (opened [] (waiting 2)))
unfolding words_of meaning course_of
once_unusable_with_prompt = refl

-- a line for one boot that is not usable stays where nothing is chosen
once_unusable_idle : answers (settings true 0 None 0 255)
    (listed (codes "linux") None false false None ∷ listed (codes "dos") None false false None ∷ [])
    (Once (codes "none")) None
    []
    ≡ expected None
    (codes "boot: ")
    (Once (codes "none")) []
    (Some (opened [] []))
unfolding words_of meaning course_of
once_unusable_idle = refl

-- a line of spaces is not usable
once_spaces : answers (settings true 0 None 0 255)
    (listed (codes "linux") None false false None ∷ listed (codes "dos") None false false None ∷ [])
    (Once (codes "   ")) None
    (typing newline)
    ≡ expected (Some (chosen 0 [] false None))
    (codes "boot: " ++ newline)
    Empty []
    (Some (opened [] (typing newline)))
unfolding words_of meaning course_of
once_spaces = refl

-- spaces around the words of a line do not count
kept_spaces_around : answers (settings true 0 None 0 255)
    (listed (codes "linux") None false false None ∷ listed (codes "dos") None false false None ∷ [])
    (Kept (codes "  dos   a ")) None
    []
    ≡ expected (Some (chosen 1 (codes "a") true None))
    []
    (Kept (codes "  dos   a ")) []
    None
unfolding words_of meaning course_of
kept_spaces_around = refl

-- a usable line hides the prompt
kept_hides_prompt : answers (settings true 0 (Some 5) 0 255)
    (listed (codes "linux") None false false None ∷ listed (codes "dos") None false false None ∷ [])
    (Kept (codes "dos")) None
    (typing (codes "x"))
    ≡ expected (Some (chosen 1 [] true None))
    []
    (Kept (codes "dos")) (typing (codes "x"))
    None
unfolding words_of meaning course_of
kept_hides_prompt = refl

-- the words of a usable line may give a video mode
kept_with_video_mode : answers (settings false 0 None 0 255)
    (listed (codes "linux") None false false None ∷ listed (codes "dos") None false false None ∷ [])
    (Kept (codes "dos vga=5 a vga=ext")) None
    []
    ≡ expected (Some (chosen 1 (codes "a") true (Some 65534)))
    []
    (Kept (codes "dos vga=5 a vga=ext")) []
    None
unfolding words_of meaning course_of
kept_with_video_mode = refl

-- the word lock in a usable line keeps it without that word
kept_with_lock : answers (settings false 0 None 0 255)
    (listed (codes "linux") None false false None ∷ listed (codes "dos") None false false None ∷ [])
    (Once (codes "dos lock a vga=3 lock b")) None
    []
    ≡ expected (Some (chosen 1 (codes "a b") true (Some 3)))
    []
    (Kept (codes "dos a vga=3 b")) []
    None
unfolding words_of meaning course_of
kept_with_lock = refl

-- a wrong video mode in a usable line is not passed on
kept_with_wrong_video_mode : answers (settings false 0 None 0 255)
    (listed (codes "linux") None false false None ∷ listed (codes "dos") None false false None ∷ [])
    (Kept (codes "dos vga=none a")) None
    []
    ≡ expected (Some (chosen 1 (codes "a") true None))
    []
    (Kept (codes "dos vga=none a")) []
    None
unfolding words_of meaning course_of
kept_with_wrong_video_mode = refl

-- the words of a usable line are not typed
kept_restricted : answers (settings false 0 None 0 255)
    (listed (codes "linux") (Some (codes "tux")) true false None ∷ [])
    (Kept (codes "linux single")) None
    []
    ≡ expected (Some (chosen 0 (codes "single") true None))
    []
    (Kept (codes "linux single")) []
    None
unfolding words_of meaning course_of
kept_restricted = refl

-- a password is asked for a usable line
kept_password : answers (settings false 0 None 0 255)
    (listed (codes "secret") (Some (codes "abc")) false false None ∷ listed (codes "dos") None false false None ∷ [])
    (Kept (codes "secret x")) None
    (typing (codes "abc" ++ newline))
    ≡ expected (Some (chosen 0 (codes "x") true None))
    (codes "Password: " ++ newline)
    (Kept (codes "secret x")) []
    None
unfolding words_of meaning course_of
kept_password = refl

-- after a wrong password for a usable line the message and the prompt come
kept_password_wrong : answers (settings false 0 None 0 255)
    (listed (codes "secret") (Some (codes "abc")) false false None ∷ listed (codes "dos") None false false None ∷ [])
    (Kept (codes "secret x")) (Some (codes "Hello" ++ newline))
    (typing (codes "abx" ++ newline ++ codes "dos" ++ newline))
    ≡ expected (Some (chosen 1 [] false None))
    (codes "Password: " ++ newline ++ codes "Sorry." ++ newline ++ codes "Hello" ++ newline ++ codes "boot: dos" ++ newline)
    (Kept (codes "secret x")) []
    (Some (opened (codes "Password: " ++ newline ++ codes "Sorry." ++ newline) (typing (codes "dos" ++ newline))))
unfolding words_of meaning course_of
kept_password_wrong = refl

-- without a password for a usable line the message and the prompt come
kept_password_missing : answers (settings false 0 None 0 255)
    (listed (codes "secret") (Some (codes "abc")) false false None ∷ listed (codes "dos") None false false None ∷ [])
    (Once (codes "secret x")) (Some (codes "Hello" ++ newline))
    []
    ≡ expected None
    (codes "Password: " ++ newline ++ codes "Hello" ++ newline ++ codes "boot: ")
    (Once (codes "secret x")) []
    (Some (opened (codes "Password: " ++ newline) []))
unfolding words_of meaning course_of
kept_password_missing = refl

-- after 600 ticks at the first question the message and the prompt come
kept_password_then_timed_out : answers (settings false 0 None 0 255)
    (listed (codes "secret") (Some (codes "abc")) false false None ∷ listed (codes "dos") None false false None ∷ [])
    (Once (codes "secret x")) (Some (codes "Hello" ++ newline))
    (waiting 600 ++ typing (codes "dos" ++ newline))
    ≡ expected (Some (chosen 1 [] false None))
    (codes "Password: " ++ newline ++ codes "Hello" ++ newline ++ codes "boot: dos" ++ newline)
    Empty []
    (Some (opened (codes "Password: " ++ newline) (typing (codes "dos" ++ newline))))
unfolding words_of meaning course_of
kept_password_then_timed_out = refl

-- a fallback takes the place of a kept line
kept_fallback : answers (settings false 0 None 0 255)
    (listed (codes "tried") None false false (Some (codes "linux")) ∷ listed (codes "linux") None false false None ∷ [])
    (Kept (codes "tried a")) None
    []
    ≡ expected (Some (chosen 0 (codes "a") true None))
    []
    (Kept (codes "linux")) []
    None
unfolding words_of meaning course_of
kept_fallback = refl

-- the fallback of the chosen entry counts
kept_other_fallback : answers (settings false 2 None 0 255)
    (listed (codes "tried") None false false (Some (codes "linux")) ∷ listed (codes "dos") None false false None ∷ [])
    (Kept (codes "tried a")) None
    (typing (codes "dos" ++ newline))
    ≡ expected (Some (chosen 1 [] false None))
    (codes "boot: dos" ++ newline)
    (Kept (codes "tried a")) []
    (Some (opened [] (typing (codes "os" ++ newline))))
unfolding words_of meaning course_of
kept_other_fallback = refl

-- the right password chooses
password_right : answers (settings true 0 None 0 255)
    (listed (codes "secret") (Some (codes "abc")) false false None ∷ listed (codes "dos") None false false None ∷ [])
    Empty None
    (typing (codes "secret" ++ newline ++ codes "abc" ++ newline))
    ≡ expected (Some (chosen 0 [] false None))
    (codes "boot: secret" ++ newline ++ codes "Password: " ++ newline)
    Empty []
    (Some (opened [] (typing (codes "secret" ++ newline ++ codes "abc" ++ newline))))
unfolding words_of meaning course_of
password_right = refl

-- after a wrong password a line is typed again
password_wrong_then_right : answers (settings true 0 None 0 255)
    (listed (codes "secret") (Some (codes "abc")) false false None ∷ listed (codes "dos") None false false None ∷ [])
    Empty None
    (typing (codes "secret" ++ newline ++ codes "abd" ++ newline ++ codes "secret" ++ newline ++ codes "abc" ++ newline))
    ≡ expected (Some (chosen 0 [] false None))
    (codes "boot: secret" ++ newline ++ codes "Password: " ++ newline ++ codes "Sorry." ++ newline ++ codes "boot: secret" ++ newline ++ codes "Password: " ++ newline)
    Empty []
    (Some (opened [] (typing (codes "secret" ++ newline ++ codes "abd" ++ newline ++ codes "secret" ++ newline ++ codes "abc" ++ newline))))
unfolding words_of meaning course_of
password_wrong_then_right = refl

-- after a wrong password another entry can be chosen
password_wrong_then_other : answers (settings true 0 None 0 255)
    (listed (codes "secret") (Some (codes "abc")) false false None ∷ listed (codes "dos") None false false None ∷ [])
    Empty None
    (typing (codes "secret" ++ newline ++ newline ++ codes "dos" ++ newline))
    ≡ expected (Some (chosen 1 [] false None))
    (codes "boot: secret" ++ newline ++ codes "Password: " ++ newline ++ codes "Sorry." ++ newline ++ codes "boot: dos" ++ newline)
    Empty []
    (Some (opened [] (typing (codes "secret" ++ newline ++ newline ++ codes "dos" ++ newline))))
unfolding words_of meaning course_of
password_wrong_then_other = refl

-- a prefix of a password is wrong
password_prefix_is_wrong : answers (settings true 0 None 0 255)
    (listed (codes "secret") (Some (codes "abc")) false false None ∷ listed (codes "dos") None false false None ∷ [])
    Empty None
    (typing (codes "secret" ++ newline ++ codes "ab" ++ newline))
    ≡ expected None
    (codes "boot: secret" ++ newline ++ codes "Password: " ++ newline ++ codes "Sorry." ++ newline ++ codes "boot: ")
    Empty []
    (Some (opened [] (typing (codes "secret" ++ newline ++ codes "ab" ++ newline))))
unfolding words_of meaning course_of
password_prefix_is_wrong = refl

-- a longer password is wrong
password_longer_is_wrong : answers (settings true 0 None 0 255)
    (listed (codes "secret") (Some (codes "abc")) false false None ∷ listed (codes "dos") None false false None ∷ [])
    Empty None
    (typing (codes "secret" ++ newline ++ codes "abcd" ++ newline))
    ≡ expected None
    (codes "boot: secret" ++ newline ++ codes "Password: " ++ newline ++ codes "Sorry." ++ newline ++ codes "boot: ")
    Empty []
    (Some (opened [] (typing (codes "secret" ++ newline ++ codes "abcd" ++ newline))))
unfolding words_of meaning course_of
password_longer_is_wrong = refl

-- a removal removes the last byte of a password
password_removals : answers (settings true 0 None 0 255)
    (listed (codes "secret") (Some (codes "abc")) false false None ∷ listed (codes "dos") None false false None ∷ [])
    Empty None
    (typing (codes "secret" ++ newline ++ codes "abx" ++ (8 ∷ []) ++ codes "c" ++ newline))
    ≡ expected (Some (chosen 0 [] false None))
    (codes "boot: secret" ++ newline ++ codes "Password: " ++ newline)
    Empty []
    (Some (opened [] (typing (codes "secret" ++ newline ++ codes "abx" ++ (8 ∷ []) ++ codes "c" ++ newline))))
unfolding words_of meaning course_of
password_removals = refl

-- either removing byte removes in a password
password_removal_127 : answers (settings true 0 None 0 255)
    (listed (codes "secret") (Some (codes "abc")) false false None ∷ listed (codes "dos") None false false None ∷ [])
    Empty None
    (typing (codes "secret" ++ newline ++ codes "abx" ++ (127 ∷ []) ++ codes "c" ++ newline))
    ≡ expected (Some (chosen 0 [] false None))
    (codes "boot: secret" ++ newline ++ codes "Password: " ++ newline)
    Empty []
    (Some (opened [] (typing (codes "secret" ++ newline ++ codes "abx" ++ (127 ∷ []) ++ codes "c" ++ newline))))
unfolding words_of meaning course_of
password_removal_127 = refl

-- a removal at an empty password does nothing
password_removals_at_none : answers (settings true 0 None 0 255)
    (listed (codes "secret") (Some (codes "abc")) false false None ∷ listed (codes "dos") None false false None ∷ [])
    Empty None
    (typing (codes "secret" ++ newline ++ (8 ∷ []) ++ (127 ∷ []) ++ codes "abc" ++ newline))
    ≡ expected (Some (chosen 0 [] false None))
    (codes "boot: secret" ++ newline ++ codes "Password: " ++ newline)
    Empty []
    (Some (opened [] (typing (codes "secret" ++ newline ++ (8 ∷ []) ++ (127 ∷ []) ++ codes "abc" ++ newline))))
unfolding words_of meaning course_of
password_removals_at_none = refl

-- other bytes are ignored in a password
password_ignored_bytes : answers (settings true 0 None 0 255)
    (listed (codes "secret") (Some (codes "abc")) false false None ∷ listed (codes "dos") None false false None ∷ [])
    Empty None
    (typing (codes "secret" ++ newline ++ codes "a" ++ (0 ∷ []) ++ (9 ∷ []) ++ (21 ∷ []) ++ codes "b" ++ (27 ∷ []) ++ (128 ∷ []) ++ (22 ∷ []) ++ codes "c" ++ (13 ∷ [])))
    ≡ expected (Some (chosen 0 [] false None))
    (codes "boot: secret" ++ newline ++ codes "Password: " ++ newline)
    Empty []
    (Some (opened [] (typing (codes "secret" ++ newline ++ codes "a" ++ (0 ∷ []) ++ (9 ∷ []) ++ (21 ∷ []) ++ codes "b" ++ (27 ∷ []) ++ (128 ∷ []) ++ (22 ∷ []) ++ codes "c" ++ (13 ∷ [])))))
unfolding words_of meaning course_of
password_ignored_bytes = refl
