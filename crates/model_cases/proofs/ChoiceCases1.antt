-- Cases of the choice at the prompt, part 1; tools/choice_cases.py writes this file.
use Rattle.std.proofs.Common.{◌≡◌, [], ◌∷◌, ◌++◌, true, false, None, Some, codes, refl}
use Rattle.lilo_model.specs.DefaultLine.{Empty, Once, Kept}
use Rattle.lilo_model.specs.LineWords.{words_of, meaning}
use Rattle.lilo_model.specs.Choice.{newline, course_of}
use Rattle.model_cases.specs.Cases.{typing, waiting, settings, listed, chosen, answers, expected, opened}

-- with a prompt, a timeout and no keys the default entry is chosen automatically
no_keys_time_out : answers (settings true 0 (Some 50) 0 255)
    (listed (codes "linux") None false false None ∷ [])
    Empty None
    []
    ≡ expected (Some (chosen 0 [] true None))
    (codes "boot: " ++ newline)
    Empty []
    (Some (opened [] []))
unfolding words_of meaning course_of
no_keys_time_out = refl

-- a typed name and word are chosen, and the word is passed on
typed_word_is_passed_on : answers (settings true 0 (Some 50) 0 255)
    (listed (codes "linux") None false false None ∷ [])
    Empty None
    (typing (codes "linux single" ++ newline))
    ≡ expected (Some (chosen 0 (codes "single") false None))
    (codes "boot: linux single" ++ newline)
    Empty []
    (Some (opened [] (typing (codes "linux single" ++ newline))))
unfolding words_of meaning course_of
typed_word_is_passed_on = refl

-- a line for one boot is chosen without a prompt, and erased
line_for_one_boot : answers (settings true 0 (Some 50) 0 255)
    (listed (codes "linux") None false false None ∷ [])
    (Once (codes "linux single")) None
    []
    ≡ expected (Some (chosen 0 (codes "single") true None))
    []
    Empty []
    None
unfolding words_of meaning course_of
line_for_one_boot = refl

-- the boot after a line for one boot is as without a line
line_for_one_boot_then_none : answers (settings true 0 (Some 50) 0 255)
    (listed (codes "linux") None false false None ∷ [])
    Empty None
    []
    ≡ expected (Some (chosen 0 [] true None))
    (codes "boot: " ++ newline)
    Empty []
    (Some (opened [] []))
unfolding words_of meaning course_of
line_for_one_boot_then_none = refl

-- an entry with a lock keeps what was typed
locked_entry_keeps_typed_line : answers (settings true 0 (Some 50) 0 255)
    (listed (codes "linux") None false true None ∷ [])
    Empty None
    (typing (codes "linux single" ++ newline))
    ≡ expected (Some (chosen 0 (codes "single") false None))
    (codes "boot: linux single" ++ newline)
    (Kept (codes "linux single")) []
    (Some (opened [] (typing (codes "linux single" ++ newline))))
unfolding words_of meaning course_of
locked_entry_keeps_typed_line = refl

-- the line that a lock kept is chosen without a prompt, and stays
locked_line_is_chosen : answers (settings true 0 (Some 50) 0 255)
    (listed (codes "linux") None false true None ∷ [])
    (Kept (codes "linux single")) None
    []
    ≡ expected (Some (chosen 0 (codes "single") true None))
    []
    (Kept (codes "linux single")) []
    None
unfolding words_of meaning course_of
locked_line_is_chosen = refl

-- an entry with a fallback keeps it where no key comes
fallback_is_kept_without_keys : answers (settings true 0 (Some 50) 0 255)
    (listed (codes "linux") None false false (Some (codes "linux")) ∷ [])
    Empty None
    []
    ≡ expected (Some (chosen 0 [] true None))
    (codes "boot: " ++ newline)
    (Kept (codes "linux")) []
    (Some (opened [] []))
unfolding words_of meaning course_of
fallback_is_kept_without_keys = refl

-- an entry with a fallback keeps it, whatever was typed
fallback_is_kept_after_typing : answers (settings true 0 (Some 50) 0 255)
    (listed (codes "linux") None false false (Some (codes "linux")) ∷ [])
    Empty None
    (typing (codes "linux single" ++ newline))
    ≡ expected (Some (chosen 0 (codes "single") false None))
    (codes "boot: linux single" ++ newline)
    (Kept (codes "linux")) []
    (Some (opened [] (typing (codes "linux single" ++ newline))))
unfolding words_of meaning course_of
fallback_is_kept_after_typing = refl

-- a restricted entry asks no password where no words are typed
restricted_without_words : answers (settings true 0 (Some 50) 0 255)
    (listed (codes "linux") (Some (codes "tux")) true false None ∷ [])
    Empty None
    (typing (codes "linux" ++ newline))
    ≡ expected (Some (chosen 0 [] false None))
    (codes "boot: linux" ++ newline)
    Empty []
    (Some (opened [] (typing (codes "linux" ++ newline))))
unfolding words_of meaning course_of
restricted_without_words = refl

-- a restricted entry asks its password where a word is typed
restricted_with_word_and_password : answers (settings true 0 (Some 50) 0 255)
    (listed (codes "linux") (Some (codes "tux")) true false None ∷ [])
    Empty None
    (typing (codes "linux single" ++ newline ++ codes "tux" ++ newline))
    ≡ expected (Some (chosen 0 (codes "single") false None))
    (codes "boot: linux single" ++ newline ++ codes "Password: " ++ newline)
    Empty []
    (Some (opened [] (typing (codes "linux single" ++ newline ++ codes "tux" ++ newline))))
unfolding words_of meaning course_of
restricted_with_word_and_password = refl

-- a wrong password is answered, and the keys end at the prompt
restricted_with_wrong_password : answers (settings true 0 (Some 50) 0 255)
    (listed (codes "linux") (Some (codes "tux")) true false None ∷ [])
    Empty None
    (typing (codes "linux single" ++ newline ++ codes "abc" ++ newline))
    ≡ expected None
    (codes "boot: linux single" ++ newline ++ codes "Password: " ++ newline ++ codes "Sorry." ++ newline ++ codes "boot: ")
    Empty []
    (Some (opened [] (typing (codes "linux single" ++ newline ++ codes "abc" ++ newline))))
unfolding words_of meaning course_of
restricted_with_wrong_password = refl

-- where no password is typed the prompt comes again
restricted_without_password : answers (settings true 0 (Some 50) 0 255)
    (listed (codes "linux") (Some (codes "tux")) true false None ∷ [])
    Empty None
    (typing (codes "linux single" ++ newline))
    ≡ expected None
    (codes "boot: linux single" ++ newline ++ codes "Password: " ++ newline ++ codes "boot: ")
    Empty []
    (Some (opened [] (typing (codes "linux single" ++ newline))))
unfolding words_of meaning course_of
restricted_without_password = refl

-- with a prompt, no timeout and no keys nothing is chosen
no_keys_without_timeout : answers (settings true 0 None 0 255)
    (listed (codes "linux") None false false None ∷ [])
    Empty None
    []
    ≡ expected None
    (codes "boot: ")
    Empty []
    (Some (opened [] []))
unfolding words_of meaning course_of
no_keys_without_timeout = refl

-- a tab as the first key lists the names
tab_lists_names : answers (settings true 0 (Some 50) 0 255)
    (listed (codes "linux") None false false None ∷ [])
    Empty None
    (typing ((9 ∷ []) ++ codes "linux" ++ newline))
    ≡ expected (Some (chosen 0 [] false None))
    (codes "boot: " ++ newline ++ codes "linux" ++ newline ++ codes "boot: linux" ++ newline)
    Empty []
    (Some (opened [] (typing ((9 ∷ []) ++ codes "linux" ++ newline))))
unfolding words_of meaning course_of
tab_lists_names = refl

-- a byte within the delay shows the prompt and is the first of its line
byte_within_delay : answers (settings false 3 (Some 50) 0 255)
    (listed (codes "linux") None false false None ∷ [])
    Empty None
    (waiting 2 ++ typing (codes "x"))
    ≡ expected None
    (codes "boot: x")
    Empty []
    (Some (opened [] []))
unfolding words_of meaning course_of
byte_within_delay = refl

-- a byte after the delay stays untaken
byte_after_delay : answers (settings false 3 (Some 50) 0 255)
    (listed (codes "linux") None false false None ∷ [])
    Empty None
    (waiting 3 ++ typing (codes "x"))
    ≡ expected (Some (chosen 0 [] true None))
    []
    Empty (typing (codes "x"))
    None
unfolding words_of meaning course_of
byte_after_delay = refl

-- a typed video mode is taken and not passed on
typed_video_mode : answers (settings true 0 (Some 50) 0 255)
    (listed (codes "linux") None false false None ∷ [])
    Empty None
    (typing (codes "linux vga=ask quiet" ++ newline))
    ≡ expected (Some (chosen 0 (codes "quiet") false (Some 65533)))
    (codes "boot: linux vga=ask quiet" ++ newline)
    Empty []
    (Some (opened [] (typing (codes "linux vga=ask quiet" ++ newline))))
unfolding words_of meaning course_of
typed_video_mode = refl

-- a first word that is no name is answered, and the keys end at the prompt
unknown_name : answers (settings true 0 (Some 50) 0 255)
    (listed (codes "linux") None false false None ∷ [])
    Empty None
    (typing (codes "none" ++ newline))
    ≡ expected None
    (codes "boot: none" ++ newline ++ codes "No such image." ++ newline ++ codes "boot: ")
    Empty []
    (Some (opened [] (typing (codes "none" ++ newline))))
unfolding words_of meaning course_of
unknown_name = refl

-- without a delay the choice is made without a key
delay_zero : answers (settings false 0 None 0 255)
    (listed (codes "linux") None false false None ∷ listed (codes "dos") None false false None ∷ [])
    Empty None
    (typing (codes "dos" ++ newline))
    ≡ expected (Some (chosen 0 [] true None))
    []
    Empty (typing (codes "dos" ++ newline))
    None
unfolding words_of meaning course_of
delay_zero = refl

-- the default entry need not be the first
delay_zero_other_default : answers (settings false 0 None 1 255)
    (listed (codes "linux") None false false None ∷ listed (codes "dos") None false false None ∷ [])
    Empty None
    []
    ≡ expected (Some (chosen 1 [] true None))
    []
    Empty []
    None
unfolding words_of meaning course_of
delay_zero_other_default = refl

-- without a delay no tick is taken
delay_zero_ticks_stay : answers (settings false 0 None 0 255)
    (listed (codes "linux") None false false None ∷ listed (codes "dos") None false false None ∷ [])
    Empty None
    (waiting 4)
    ≡ expected (Some (chosen 0 [] true None))
    []
    Empty (waiting 4)
    None
unfolding words_of meaning course_of
delay_zero_ticks_stay = refl

-- the delay is over where the keys end
delay_ends_at_silence : answers (settings false 10 None 0 255)
    (listed (codes "linux") None false false None ∷ listed (codes "dos") None false false None ∷ [])
    Empty None
    (waiting 4)
    ≡ expected (Some (chosen 0 [] true None))
    []
    Empty []
    None
unfolding words_of meaning course_of
delay_ends_at_silence = refl

-- the delay takes its own ticks and no more
delay_takes_its_ticks : answers (settings false 10 None 0 255)
    (listed (codes "linux") None false false None ∷ listed (codes "dos") None false false None ∷ [])
    Empty None
    (waiting 14 ++ typing (codes "x"))
    ≡ expected (Some (chosen 0 [] true None))
    []
    Empty (waiting 4 ++ typing (codes "x"))
    None
unfolding words_of meaning course_of
delay_takes_its_ticks = refl

-- the tick that completes the delay decides
delay_one_tick : answers (settings false 1 None 0 255)
    (listed (codes "linux") None false false None ∷ listed (codes "dos") None false false None ∷ [])
    Empty None
    (waiting 1 ++ typing (codes "dos" ++ newline))
    ≡ expected (Some (chosen 0 [] true None))
    []
    Empty (typing (codes "dos" ++ newline))
    None
unfolding words_of meaning course_of
delay_one_tick = refl

-- a byte may come before the first tick
delay_byte_before_any_tick : answers (settings false 5 None 0 255)
    (listed (codes "linux") None false false None ∷ listed (codes "dos") None false false None ∷ [])
    Empty None
    (typing (codes "dos" ++ newline))
    ≡ expected (Some (chosen 1 [] false None))
    (codes "boot: dos" ++ newline)
    Empty []
    (Some (opened [] (typing (codes "os" ++ newline))))
unfolding words_of meaning course_of
delay_byte_before_any_tick = refl

-- Enter within the delay finishes an empty line
delay_enter_is_first_key : answers (settings false 5 None 0 255)
    (listed (codes "linux") None false false None ∷ listed (codes "dos") None false false None ∷ [])
    Empty None
    (waiting 1 ++ typing newline)
    ≡ expected (Some (chosen 0 [] false None))
    (codes "boot: " ++ newline)
    Empty []
    (Some (opened [] []))
unfolding words_of meaning course_of
delay_enter_is_first_key = refl

-- a tab within the delay lists the names
delay_tab_is_first_key : answers (settings false 5 None 0 255)
    (listed (codes "linux") None false false None ∷ listed (codes "dos") None false false None ∷ [])
    Empty None
    (waiting 1 ++ typing ((9 ∷ []) ++ codes "dos" ++ newline))
    ≡ expected (Some (chosen 1 [] false None))
    (codes "boot: " ++ newline ++ codes "linux" ++ newline ++ codes "dos" ++ newline ++ codes "boot: dos" ++ newline)
    Empty []
    (Some (opened [] (typing (codes "dos" ++ newline))))
unfolding words_of meaning course_of
delay_tab_is_first_key = refl

-- a question mark within the delay lists the names
delay_question_mark_is_first_key : answers (settings false 5 None 0 255)
    (listed (codes "linux") None false false None ∷ listed (codes "dos") None false false None ∷ [])
    Empty None
    (waiting 1 ++ typing ((63 ∷ []) ++ codes "dos" ++ newline))
    ≡ expected (Some (chosen 1 [] false None))
    (codes "boot: " ++ newline ++ codes "linux" ++ newline ++ codes "dos" ++ newline ++ codes "boot: dos" ++ newline)
    Empty []
    (Some (opened [] (typing (codes "dos" ++ newline))))
unfolding words_of meaning course_of
delay_question_mark_is_first_key = refl

-- an ignored byte within the delay shows the prompt
delay_ignored_byte_opens : answers (settings false 5 None 0 255)
    (listed (codes "linux") None false false None ∷ listed (codes "dos") None false false None ∷ [])
    Empty None
    (waiting 1 ++ typing ((1 ∷ []) ++ (9 ∷ []) ++ codes "dos" ++ newline))
    ≡ expected (Some (chosen 1 [] false None))
    (codes "boot: dos" ++ newline)
    Empty []
    (Some (opened [] (typing ((9 ∷ []) ++ codes "dos" ++ newline))))
unfolding words_of meaning course_of
delay_ignored_byte_opens = refl

-- a removal within the delay shows the prompt
delay_removal_opens : answers (settings false 5 None 0 255)
    (listed (codes "linux") None false false None ∷ listed (codes "dos") None false false None ∷ [])
    Empty None
    (waiting 1 ++ typing ((8 ∷ []) ++ codes "dos" ++ newline))
    ≡ expected (Some (chosen 1 [] false None))
    (codes "boot: dos" ++ newline)
    Empty []
    (Some (opened [] (typing (codes "dos" ++ newline))))
unfolding words_of meaning course_of
delay_removal_opens = refl

-- an emptied line within the delay shows the prompt twice
delay_clearing_opens : answers (settings false 5 None 0 255)
    (listed (codes "linux") None false false None ∷ listed (codes "dos") None false false None ∷ [])
    Empty None
    (waiting 1 ++ typing ((21 ∷ []) ++ codes "dos" ++ newline))
    ≡ expected (Some (chosen 1 [] false None))
    (codes "boot: " ++ newline ++ codes "boot: dos" ++ newline)
    Empty []
    (Some (opened [] (typing (codes "dos" ++ newline))))
unfolding words_of meaning course_of
delay_clearing_opens = refl

-- the message is shown before the prompt that a byte shows
delay_message : answers (settings false 5 None 0 255)
    (listed (codes "linux") None false false None ∷ listed (codes "dos") None false false None ∷ [])
    Empty (Some (codes "Hello" ++ newline))
    (waiting 2 ++ typing (codes "dos" ++ newline))
    ≡ expected (Some (chosen 1 [] false None))
    (codes "Hello" ++ newline ++ codes "boot: dos" ++ newline)
    Empty []
    (Some (opened [] (typing (codes "os" ++ newline))))
unfolding words_of meaning course_of
delay_message = refl

-- no timeout runs once a byte has shown the prompt
delay_no_timeout_runs : answers (settings false 5 (Some 2) 0 255)
    (listed (codes "linux") None false false None ∷ listed (codes "dos") None false false None ∷ [])
    Empty None
    (waiting 2 ++ typing (codes "d") ++ waiting 30 ++ typing (codes "os" ++ newline))
    ≡ expected (Some (chosen 1 [] false None))
    (codes "boot: dos" ++ newline)
    Empty []
    (Some (opened [] (waiting 30 ++ typing (codes "os" ++ newline))))
unfolding words_of meaning course_of
delay_no_timeout_runs = refl

-- the delay runs before a usable line, with the prompt flag too
delay_with_kept_line : answers (settings true 3 None 0 255)
    (listed (codes "linux") None false false None ∷ listed (codes "dos") None false false None ∷ [])
    (Kept (codes "dos quiet")) None
    (waiting 3)
    ≡ expected (Some (chosen 1 (codes "quiet") true None))
    []
    (Kept (codes "dos quiet")) []
    None
unfolding words_of meaning course_of
delay_with_kept_line = refl

-- a byte within the delay leaves a usable line unchosen
delay_broken_with_kept_line : answers (settings true 3 None 0 255)
    (listed (codes "linux") None false false None ∷ listed (codes "dos") None false false None ∷ [])
    (Kept (codes "dos quiet")) None
    (waiting 2 ++ typing newline)
    ≡ expected (Some (chosen 0 [] false None))
    (codes "boot: " ++ newline)
    (Kept (codes "dos quiet")) []
    (Some (opened [] []))
unfolding words_of meaning course_of
delay_broken_with_kept_line = refl

-- a line for one boot is erased though another was typed
delay_broken_with_once_line : answers (settings false 3 None 0 255)
    (listed (codes "linux") None false false None ∷ listed (codes "dos") None false false None ∷ [])
    (Once (codes "dos quiet")) None
    (waiting 2 ++ typing (codes "linux a" ++ newline))
    ≡ expected (Some (chosen 0 (codes "a") false None))
    (codes "boot: linux a" ++ newline)
    Empty []
    (Some (opened [] (typing (codes "inux a" ++ newline))))
unfolding words_of meaning course_of
delay_broken_with_once_line = refl

-- where nothing is chosen a line for one boot stays
delay_broken_idle_keeps_once_line : answers (settings false 3 None 0 255)
    (listed (codes "linux") None false false None ∷ listed (codes "dos") None false false None ∷ [])
    (Once (codes "dos quiet")) None
    (waiting 2 ++ typing (codes "linux"))
    ≡ expected None
    (codes "boot: linux")
    (Once (codes "dos quiet")) []
    (Some (opened [] (typing (codes "inux"))))
unfolding words_of meaning course_of
delay_broken_idle_keeps_once_line = refl

-- the longest delay that a boot sector can have
delay_long : answers (settings false 65534 None 0 255)
    (listed (codes "linux") None false false None ∷ listed (codes "dos") None false false None ∷ [])
    Empty None
    (waiting 300)
    ≡ expected (Some (chosen 0 [] true None))
    []
    Empty []
    None
unfolding words_of meaning course_of
delay_long = refl

-- the timeout takes its ticks, shows a newline and chooses the default entry
prompt_timeout_elapses : answers (settings true 0 (Some 3) 0 255)
    (listed (codes "linux") None false false None ∷ listed (codes "dos") None false false None ∷ [])
    Empty None
    (waiting 5 ++ typing (codes "x"))
    ≡ expected (Some (chosen 0 [] true None))
    (codes "boot: " ++ newline)
    Empty (waiting 2 ++ typing (codes "x"))
    (Some (opened [] (waiting 5 ++ typing (codes "x"))))
unfolding words_of meaning course_of
prompt_timeout_elapses = refl

-- a timeout of 0 is complete at once
prompt_timeout_zero : answers (settings true 0 (Some 0) 0 255)
    (listed (codes "linux") None false false None ∷ listed (codes "dos") None false false None ∷ [])
    Empty None
    (typing (codes "dos" ++ newline))
    ≡ expected (Some (chosen 0 [] true None))
    (codes "boot: " ++ newline)
    Empty (typing (codes "dos" ++ newline))
    (Some (opened [] (typing (codes "dos" ++ newline))))
unfolding words_of meaning course_of
prompt_timeout_zero = refl

-- the timeout is over where the keys end
prompt_timeout_silence : answers (settings true 0 (Some 100) 0 255)
    (listed (codes "linux") None false false None ∷ listed (codes "dos") None false false None ∷ [])
    Empty None
    (waiting 5)
    ≡ expected (Some (chosen 0 [] true None))
    (codes "boot: " ++ newline)
    Empty []
    (Some (opened [] (waiting 5)))
unfolding words_of meaning course_of
prompt_timeout_silence = refl

-- a byte stops the timeout for good
prompt_timeout_stopped : answers (settings true 0 (Some 3) 0 255)
    (listed (codes "linux") None false false None ∷ listed (codes "dos") None false false None ∷ [])
    Empty None
    (waiting 2 ++ typing (codes "d") ++ waiting 10 ++ typing (codes "os" ++ newline))
    ≡ expected (Some (chosen 1 [] false None))
    (codes "boot: dos" ++ newline)
    Empty []
    (Some (opened [] (waiting 2 ++ typing (codes "d") ++ waiting 10 ++ typing (codes "os" ++ newline))))
unfolding words_of meaning course_of
prompt_timeout_stopped = refl

-- after a byte the end of the keys chooses nothing
prompt_timeout_stopped_idle : answers (settings true 0 (Some 3) 0 255)
    (listed (codes "linux") None false false None ∷ listed (codes "dos") None false false None ∷ [])
    Empty None
    (waiting 2 ++ typing (codes "d") ++ waiting 10)
    ≡ expected None
    (codes "boot: d")
    Empty []
    (Some (opened [] (waiting 2 ++ typing (codes "d") ++ waiting 10)))
unfolding words_of meaning course_of
prompt_timeout_stopped_idle = refl

-- an ignored byte stops the timeout
prompt_timeout_stopped_by_ignored : answers (settings true 0 (Some 3) 0 255)
    (listed (codes "linux") None false false None ∷ listed (codes "dos") None false false None ∷ [])
    Empty None
    (waiting 2 ++ typing (0 ∷ []) ++ waiting 10)
    ≡ expected None
    (codes "boot: ")
    Empty []
    (Some (opened [] (waiting 2 ++ typing (0 ∷ []) ++ waiting 10)))
unfolding words_of meaning course_of
prompt_timeout_stopped_by_ignored = refl

-- a byte directly before the last tick stops the timeout
prompt_timeout_last_moment : answers (settings true 0 (Some 3) 0 255)
    (listed (codes "linux") None false false None ∷ listed (codes "dos") None false false None ∷ [])
    Empty None
    (waiting 2 ++ typing newline ++ waiting 1)
    ≡ expected (Some (chosen 0 [] false None))
    (codes "boot: " ++ newline)
    Empty (waiting 1)
    (Some (opened [] (waiting 2 ++ typing newline ++ waiting 1)))
unfolding words_of meaning course_of
prompt_timeout_last_moment = refl

-- the message is shown before the first prompt alone
prompt_timeout_message : answers (settings true 0 (Some 3) 0 255)
    (listed (codes "linux") None false false None ∷ listed (codes "dos") None false false None ∷ [])
    Empty (Some (codes "Welcome" ++ newline))
    (typing (codes "x" ++ newline) ++ waiting 3)
    ≡ expected None
    (codes "Welcome" ++ newline ++ codes "boot: x" ++ newline ++ codes "No such image." ++ newline ++ codes "boot: ")
    Empty []
    (Some (opened [] (typing (codes "x" ++ newline) ++ waiting 3)))
unfolding words_of meaning course_of
prompt_timeout_message = refl

-- the default entry asks its password after the timeout too
prompt_timeout_default_with_password : answers (settings true 0 (Some 3) 0 255)
    (listed (codes "secret") (Some (codes "abc")) false false None ∷ listed (codes "dos") None false false None ∷ [])
    Empty None
    (waiting 3 ++ typing (codes "abc" ++ newline))
    ≡ expected (Some (chosen 0 [] true None))
    (codes "boot: " ++ newline ++ codes "Password: " ++ newline)
    Empty []
    (Some (opened [] (waiting 3 ++ typing (codes "abc" ++ newline))))
unfolding words_of meaning course_of
prompt_timeout_default_with_password = refl

-- after a wrong password no timeout runs any more
prompt_timeout_default_wrong_password : answers (settings true 0 (Some 3) 0 255)
    (listed (codes "secret") (Some (codes "abc")) false false None ∷ listed (codes "dos") None false false None ∷ [])
    Empty None
    (waiting 3 ++ typing (codes "abd" ++ newline) ++ waiting 10 ++ typing (codes "dos" ++ newline))
    ≡ expected (Some (chosen 1 [] false None))
    (codes "boot: " ++ newline ++ codes "Password: " ++ newline ++ codes "Sorry." ++ newline ++ codes "boot: dos" ++ newline)
    Empty []
    (Some (opened [] (waiting 3 ++ typing (codes "abd" ++ newline) ++ waiting 10 ++ typing (codes "dos" ++ newline))))
unfolding words_of meaning course_of
prompt_timeout_default_wrong_password = refl

-- ticks do nothing at a prompt without a timeout
prompt_no_timeout_ticks : answers (settings true 0 None 0 255)
    (listed (codes "linux") None false false None ∷ listed (codes "dos") None false false None ∷ [])
    Empty None
    (waiting 50 ++ typing (codes "do") ++ waiting 700 ++ typing (codes "s" ++ newline) ++ waiting 2)
    ≡ expected (Some (chosen 1 [] false None))
    (codes "boot: dos" ++ newline)
    Empty (waiting 2)
    (Some (opened [] (waiting 50 ++ typing (codes "do") ++ waiting 700 ++ typing (codes "s" ++ newline) ++ waiting 2)))
unfolding words_of meaning course_of
prompt_no_timeout_ticks = refl

-- keys that end within a line choose nothing
prompt_idle : answers (settings true 0 None 0 255)
    (listed (codes "linux") None false false None ∷ listed (codes "dos") None false false None ∷ [])
    Empty None
    (typing (codes "do"))
    ≡ expected None
    (codes "boot: do")
    Empty []
    (Some (opened [] (typing (codes "do"))))
unfolding words_of meaning course_of
prompt_idle = refl

-- ticks alone choose nothing at a prompt
prompt_idle_ticks : answers (settings true 0 None 0 255)
    (listed (codes "linux") None false false None ∷ listed (codes "dos") None false false None ∷ [])
    Empty None
    (waiting 40)
    ≡ expected None
    (codes "boot: ")
    Empty []
    (Some (opened [] (waiting 40)))
unfolding words_of meaning course_of
prompt_idle_ticks = refl

-- where nothing is chosen a kept line stays
prompt_idle_keeps_kept_line : answers (settings true 0 None 0 255)
    (listed (codes "linux") None false false None ∷ listed (codes "dos") None false false None ∷ [])
    (Kept (codes "other")) None
    (typing (codes "do"))
    ≡ expected None
    (codes "boot: do")
    (Kept (codes "other")) []
    (Some (opened [] (typing (codes "do"))))
unfolding words_of meaning course_of
prompt_idle_keeps_kept_line = refl

-- an empty line chooses the default entry, not automatically
prompt_empty_line : answers (settings true 0 None 1 255)
    (listed (codes "linux") None false false None ∷ listed (codes "dos") None false false None ∷ [])
    Empty None
    (typing newline)
    ≡ expected (Some (chosen 1 [] false None))
    (codes "boot: " ++ newline)
    Empty []
    (Some (opened [] (typing newline)))
unfolding words_of meaning course_of
prompt_empty_line = refl

-- a line of spaces chooses the default entry
prompt_spaces_alone : answers (settings true 0 None 1 255)
    (listed (codes "linux") None false false None ∷ listed (codes "dos") None false false None ∷ [])
    Empty None
    (typing (codes "   " ++ (13 ∷ [])))
    ≡ expected (Some (chosen 1 [] false None))
    (codes "boot:    " ++ newline)
    Empty []
    (Some (opened [] (typing (codes "   " ++ (13 ∷ [])))))
unfolding words_of meaning course_of
prompt_spaces_alone = refl

-- a carriage return finishes a line
prompt_carriage_return : answers (settings true 0 None 0 255)
    (listed (codes "linux") None false false None ∷ listed (codes "dos") None false false None ∷ [])
    Empty None
    (typing (codes "dos" ++ (13 ∷ []) ++ newline))
    ≡ expected (Some (chosen 1 [] false None))
    (codes "boot: dos" ++ newline)
    Empty (typing newline)
    (Some (opened [] (typing (codes "dos" ++ (13 ∷ []) ++ newline))))
unfolding words_of meaning course_of
prompt_carriage_return = refl

-- words are joined by single spaces
prompt_spaces_between_words : answers (settings true 0 None 0 255)
    (listed (codes "linux") None false false None ∷ listed (codes "dos") None false false None ∷ [])
    Empty None
    (typing (codes "  dos   a  b   c " ++ newline))
    ≡ expected (Some (chosen 1 (codes "a b c") false None))
    (codes "boot:   dos   a  b   c " ++ newline)
    Empty []
    (Some (opened [] (typing (codes "  dos   a  b   c " ++ newline))))
unfolding words_of meaning course_of
prompt_spaces_between_words = refl

-- names are compared byte for byte
prompt_name_is_case_sensitive : answers (settings true 0 None 0 255)
    (listed (codes "linux") None false false None ∷ listed (codes "dos") None false false None ∷ [])
    Empty None
    (typing (codes "DOS" ++ newline ++ codes "dos" ++ newline))
    ≡ expected (Some (chosen 1 [] false None))
    (codes "boot: DOS" ++ newline ++ codes "No such image." ++ newline ++ codes "boot: dos" ++ newline)
    Empty []
    (Some (opened [] (typing (codes "DOS" ++ newline ++ codes "dos" ++ newline))))
unfolding words_of meaning course_of
prompt_name_is_case_sensitive = refl

-- a prefix of a name is no name
prompt_name_prefix_is_no_name : answers (settings true 0 None 0 255)
    (listed (codes "linux") None false false None ∷ listed (codes "dos") None false false None ∷ [])
    Empty None
    (typing (codes "do" ++ newline ++ codes "doss" ++ newline ++ codes "dos" ++ newline))
    ≡ expected (Some (chosen 1 [] false None))
    (codes "boot: do" ++ newline ++ codes "No such image." ++ newline ++ codes "boot: doss" ++ newline ++ codes "No such image." ++ newline ++ codes "boot: dos" ++ newline)
    Empty []
    (Some (opened [] (typing (codes "do" ++ newline ++ codes "doss" ++ newline ++ codes "dos" ++ newline))))
unfolding words_of meaning course_of
prompt_name_prefix_is_no_name = refl

-- the prompt comes again after each wrong name
prompt_many_wrong_names : answers (settings true 0 None 0 255)
    (listed (codes "linux") None false false None ∷ listed (codes "dos") None false false None ∷ [])
    Empty None
    (typing (codes "a" ++ newline ++ codes "b" ++ newline ++ codes "c d" ++ newline ++ newline))
    ≡ expected (Some (chosen 0 [] false None))
    (codes "boot: a" ++ newline ++ codes "No such image." ++ newline ++ codes "boot: b" ++ newline ++ codes "No such image." ++ newline ++ codes "boot: c d" ++ newline ++ codes "No such image." ++ newline ++ codes "boot: " ++ newline)
    Empty []
    (Some (opened [] (typing (codes "a" ++ newline ++ codes "b" ++ newline ++ codes "c d" ++ newline ++ newline))))
unfolding words_of meaning course_of
prompt_many_wrong_names = refl

-- bytes that cannot be in a line are ignored
prompt_ignored_bytes : answers (settings true 0 None 0 255)
    (listed (codes "linux") None false false None ∷ listed (codes "dos") None false false None ∷ [])
    Empty None
    (typing (codes "d" ++ (0 ∷ []) ++ (1 ∷ []) ++ codes "o" ++ (27 ∷ []) ++ (128 ∷ []) ++ (255 ∷ []) ++ (22 ∷ []) ++ codes "s" ++ (11 ∷ []) ++ (12 ∷ []) ++ newline))
    ≡ expected (Some (chosen 1 [] false None))
    (codes "boot: dos" ++ newline)
    Empty []
    (Some (opened [] (typing (codes "d" ++ (0 ∷ []) ++ (1 ∷ []) ++ codes "o" ++ (27 ∷ []) ++ (128 ∷ []) ++ (255 ∷ []) ++ (22 ∷ []) ++ codes "s" ++ (11 ∷ []) ++ (12 ∷ []) ++ newline))))
unfolding words_of meaning course_of
prompt_ignored_bytes = refl
