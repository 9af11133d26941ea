-- Where the message and the names go in a text.
use Rattle.std.proofs.Common.{◌≡◌, ℕ, zero, suc, ◌+◌, ◌-◌, ◌<◌, List, [], ◌∷◌, ◌++◌, length, take, drop, length-drop, Bool, true, false, if◌then◌else◌, Option, None, Some, refl, sym, ◌∙◌, ap, arith}
use Rattle.std.specs.Prelude.{unwrap_or}
use Rattle.std.proofs.lemmas.List.{append-nil}
use Rattle.lilo_model.specs.Prompt.{Key, ListedEntry}
use Rattle.prompt_core.specs.declared.reply.Answer.{Answer}
use Rattle.prompt_core.specs.Run.{Opened, text_marks, begins_prompt, first_prompt, later_place, last_found, last_prompt, with_names, listed, said_marks, parts_marks}

-- ---- the text from a place on

take_all : (text : List ℕ) → take (length text) text ≡ text
take_all [] = refl
take_all (byte ∷ text) = ap (λ t. byte ∷ t) (take_all text)

-- whether it begins with the prompt
pub begins_at : (text : List ℕ) (place : ℕ) (here : Bool) → begins_prompt (take (length text - place) (drop place text)) ≡ here → begins_prompt (drop place text) ≡ here
begins_at text place here is =
    let long : length text - place ≡ length (drop place text) = omega (arith, length-drop place text) in
    let whole : take (length text - place) (drop place text) ≡ drop place text = rw long (take_all (drop place text)) in
    ap begins_prompt (sym whole) ∙ is

-- ---- the first prompt

pub first_here : (text : List ℕ) → begins_prompt text ≡ true → first_prompt text ≡ 0
first_here [] is = refl
first_here (byte ∷ text) is = rw is refl

first_head : (byte : ℕ) (text : List ℕ) → begins_prompt (byte ∷ text) ≡ false → first_prompt (byte ∷ text) ≡ suc (first_prompt text)
first_head byte text is = rw is refl

pub first_next : (place : ℕ) (text : List ℕ) → place < length text → begins_prompt (drop place text) ≡ false
    → first_prompt (drop place text) ≡ suc (first_prompt (drop (suc place) text))
first_next place [] within is = absurd (omega arith)
first_next zero (byte ∷ text) within is = first_head byte text is
first_next (suc place) (byte ∷ text) within is = first_next place text (omega arith) is

-- no prompt is before this place
pub first_on : (text : List ℕ) (place next : ℕ) → next ≡ suc place → place < length text → begins_prompt (drop place text) ≡ false
    → first_prompt text ≡ place + first_prompt (drop place text) → first_prompt text ≡ next + first_prompt (drop next text)
first_on text place next is within none before =
    let more = first_next place text within none in
    rw is (omega (arith, before, more))

pub first_found : (text : List ℕ) (place : ℕ) → begins_prompt (drop place text) ≡ true
    → first_prompt text ≡ place + first_prompt (drop place text) → place ≡ first_prompt text
first_found text place here before = omega (arith, before, first_here (drop place text) here)

drop_all : (text : List ℕ) → drop (length text) text ≡ []
drop_all [] = refl
drop_all (byte ∷ text) = drop_all text

pub first_none : (text : List ℕ) (place : ℕ) → place ≡ length text → first_prompt text ≡ place + first_prompt (drop place text) → place ≡ first_prompt text
first_none text place is before =
    let none : first_prompt (drop place text) ≡ 0 = rw (is, drop_all text) refl in
    omega (arith, before, none)

-- ---- the last prompt

-- a place that was found, or a later one
abbrev pub settled : ℕ → ℕ → Option ℕ → ℕ
settled found place None = found
settled found place (Some more) = place + more

last_next : (place : ℕ) (text : List ℕ) → place < length text
    → last_found (drop place text) ≡ later_place (last_found (drop (suc place) text)) (begins_prompt (drop place text))
last_next place [] within = absurd (omega arith)
last_next zero (byte ∷ text) within = refl
last_next (suc place) (byte ∷ text) within = last_next place text (omega arith)

settled_on : (found place : ℕ) (later : Option ℕ) (here : Bool)
    → settled found place (later_place later here) ≡ settled (if here then place else found) (suc place) later
settled_on found place (Some more) here = omega arith
settled_on found place None true = omega arith
settled_on found place None false = refl

pub last_on : (text : List ℕ) (found place next : ℕ) (here : Bool) → next ≡ suc place → place < length text → begins_prompt (drop place text) ≡ here
    → last_prompt text ≡ settled found place (last_found (drop place text))
    → last_prompt text ≡ settled (if here then place else found) next (last_found (drop next text))
last_on text found place next here is within at_place before =
    before
    ∙ ap (settled found place) (last_next place text within ∙ ap (later_place (last_found (drop (suc place) text))) at_place)
    ∙ settled_on found place (last_found (drop (suc place) text)) here
    ∙ rw is refl

settled_first : (text : List ℕ) (found : Option ℕ) → unwrap_or found (length text) ≡ settled (length text) 0 found
settled_first text None = refl
settled_first text (Some place) = omega arith

pub last_first : (text : List ℕ) → last_prompt text ≡ settled (length text) 0 (last_found text)
last_first text = settled_first text (last_found text)

pub last_end : (text : List ℕ) (found place : ℕ) → place ≡ length text → last_prompt text ≡ settled found place (last_found (drop place text)) → found ≡ last_prompt text
last_end text found place is before =
    let none : last_found (drop place text) ≡ None = rw (is, drop_all text) refl in
    sym (before ∙ ap (settled found place) none)

-- ---- the parts

pub names_all : (entries : List ListedEntry) (answer : Answer) (text : List ℕ) → (with_names entries answer text ≡ text) → (listed entries answer ≡ [])
    → with_names entries answer text ≡ text ++ (listed entries answer ++ [])
names_all entries answer text whole none = whole ∙ sym (append-nil text) ∙ ap (λ names. text ++ (names ++ [])) (sym none)

pub parts_same : (entries : List ListedEntry) (left : List Key) (answer : Answer) (opened : Bool) (show before text middle rest : List ℕ)
    → before ≡ (if opened then take (first_prompt show) show else []) → text ≡ (if opened then drop (first_prompt show) show else show)
    → with_names entries answer text ≡ middle ++ (listed entries answer ++ rest)
    → said_marks entries left (record { answer = answer; show = show; opened = opened })
    ≡ parts_marks entries left (record { answer = answer; show = show; opened = opened }) before middle rest
parts_same entries left answer true show before text middle rest front behind names =
    let whole : with_names entries answer (drop (first_prompt show) show) ≡ middle ++ (listed entries answer ++ rest) =
    ap (with_names entries answer) (sym behind) ∙ names in
    ap (λ t. text_marks (take (first_prompt show) show) ++ (Opened left ∷ text_marks t)) whole
    ∙ ap (λ t. text_marks t ++ (Opened left ∷ text_marks (middle ++ (listed entries answer ++ rest)))) (sym front)
parts_same entries left answer false show before text middle rest front behind names =
    let whole : with_names entries answer show ≡ middle ++ (listed entries answer ++ rest) = ap (with_names entries answer) (sym behind) ∙ names in
    ap text_marks whole ∙ ap (λ t. text_marks t ++ text_marks (middle ++ (listed entries answer ++ rest))) (sym front)
