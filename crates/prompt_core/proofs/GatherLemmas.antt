-- What the words of a line come to, one after another, is what they come to all together.
use Rattle.std.proofs.Common.{◌≡◌, ◌≢◌, ℕ, suc, ◌+◌, ◌≤◌, List, [], ◌∷◌, ◌++◌, length, filter, map, slice_get, Bool, true, false, not, ◌==◌, ◌||◌, if◌then◌else◌, Option, None, Some, append_assoc, refl, sym, ◌∙◌, ap, arith}
use Rattle.std.specs.Prelude.{⊤, fold, filter_map, position}
use Rattle.std.specs.List.{last_or, join_with_byte, position_from, slice_split}
use Rattle.std.proofs.lemmas.Iterator.Adapters.{position_from-zero}
use Rattle.std.specs.Str.{bytes_eq}
use Rattle.std.proofs.lemmas.Slice.Eq.{bytes_eq-Decides}
use Rattle.std.proofs.lemmas.List.{length-append}
use Rattle.lilo_model.specs.Prompt.{ListedEntry}
use Rattle.lilo_model.specs.LineWords.{words_of, is_empty_list, joined_words, is_lock_word, is_vga_word, passed_words, kept_words, has_lock_word, word_video_mode, entry_named, meaning}
use Rattle.prompt_core.specs.Reader.{onto_words, with_word, Gathered, later_mode, gather, gather_all, named, gathered_choice}
use Rattle.prompt_core.specs.Steps.{Chosen, name_at, chosen_of, Blank, Means, Unknown, meant_of}

-- ---- each part of what words come to

abbrev appended : List ℕ → List (List ℕ) → List ℕ
appended text words = fold with_word text words

words_by : (test : Bool) (gathered : Gathered) (word : List ℕ) (words : List (List ℕ)) → (is_lock_word word || is_vga_word word) ≡ test
    → (gather_all (gather gathered word) words).words ≡ appended (gather gathered word).words (passed_words words)
    → (gather_all (gather gathered word) words).words ≡ appended gathered.words (passed_words (word ∷ words))
words_by true gathered word words is rest = rw is (rw is at rest)
words_by false gathered word words is rest = rw is (rw is at rest)

gathered_words : (gathered : Gathered) (words : List (List ℕ)) → (gather_all gathered words).words ≡ appended gathered.words (passed_words words)
gathered_words gathered [] = refl
gathered_words gathered (word ∷ words) =
    words_by (is_lock_word word || is_vga_word word) gathered word words refl (gathered_words (gather gathered word) words)

kept_by : (test : Bool) (gathered : Gathered) (word : List ℕ) (words : List (List ℕ)) → is_lock_word word ≡ test
    → (gather_all (gather gathered word) words).lock_line ≡ appended (gather gathered word).lock_line (kept_words words)
    → (gather_all (gather gathered word) words).lock_line ≡ appended gathered.lock_line (kept_words (word ∷ words))
kept_by true gathered word words is rest = rw is (rw is at rest)
kept_by false gathered word words is rest = rw is (rw is at rest)

gathered_kept : (gathered : Gathered) (words : List (List ℕ)) → (gather_all gathered words).lock_line ≡ appended gathered.lock_line (kept_words words)
gathered_kept gathered [] = refl
gathered_kept gathered (word ∷ words) =
    kept_by (is_lock_word word) gathered word words refl (gathered_kept (gather gathered word) words)

or_assoc : (a b c : Bool) → ((a || b) || c) ≡ (a || (b || c))
or_assoc true b c = refl
or_assoc false b c = refl

or_false : (a : Bool) → a ≡ (a || false)
or_false true = refl
or_false false = refl

gathered_lock : (gathered : Gathered) (words : List (List ℕ)) → (gather_all gathered words).lock ≡ (gathered.lock || has_lock_word words)
gathered_lock gathered [] = or_false gathered.lock
gathered_lock gathered (word ∷ words) =
    gathered_lock (gather gathered word) words ∙ or_assoc gathered.lock (is_lock_word word) (has_lock_word words)

modes_on : (mode old : Option ℕ) (word : List ℕ) (words : List (List ℕ)) → word_video_mode word ≡ mode
    → last_or (later_mode old mode) (filter_map word_video_mode words) ≡ last_or old (filter_map word_video_mode (word ∷ words))
modes_on None old word words is = rw is refl
modes_on (Some mode) old word words is = rw is refl

gathered_modes : (gathered : Gathered) (words : List (List ℕ)) → (gather_all gathered words).vga ≡ last_or gathered.vga (filter_map word_video_mode words)
gathered_modes gathered [] = refl
gathered_modes gathered (word ∷ words) =
    gathered_modes (gather gathered word) words ∙ modes_on (word_video_mode word) gathered.vga word words refl

-- ---- words joined

join_two : (text word : List ℕ) (words : List (List ℕ))
    → join_with_byte 32 ((text ++ (32 ∷ word)) ∷ words) ≡ text ++ (32 ∷ join_with_byte 32 (word ∷ words))
join_two text word [] = refl
join_two text word (next ∷ words) = append_assoc text (32 ∷ word) (32 ∷ join_with_byte 32 (next ∷ words))

joined_onto : (byte : ℕ) (text : List ℕ) (words : List (List ℕ)) → appended (byte ∷ text) words ≡ joined_words ((byte ∷ text) ∷ words)
joined_onto byte text [] = refl
joined_onto byte text (word ∷ words) =
    joined_onto byte (text ++ (32 ∷ word)) words ∙ join_two (byte ∷ text) word words

-- words that have a byte each
abbrev pub AreFilled : List (List ℕ) → Type 0
AreFilled [] = ⊤
AreFilled (word ∷ words) = (is_empty_list word ≡ false) × AreFilled words

filled_by : (p : List ℕ → Bool) (word : List ℕ) (words : List (List ℕ)) (test : Bool) → p word ≡ test
    → is_empty_list word ≡ false → AreFilled (filter p words) → AreFilled (filter p (word ∷ words))
filled_by p word words true is here rest = rw is (here, rest)
filled_by p word words false is here rest = rw is rest

-- and so have those of them that pass a test
pub filled_filter : (p : List ℕ → Bool) (words : List (List ℕ)) → AreFilled words → AreFilled (filter p words)
filled_filter p [] all = tt
filled_filter p (word ∷ words) all = filled_by p word words (p word) refl all.0 (filled_filter p words all.1)

not_empty_by : (part : List ℕ) (parts : List (List ℕ)) (test : Bool) → is_empty_list part ≡ test
    → AreFilled (filter (λ word. not (is_empty_list word)) parts) → AreFilled (filter (λ word. not (is_empty_list word)) (part ∷ parts))
not_empty_by part parts true is rest = rw is rest
not_empty_by part parts false is rest = rw is (is, rest)

filled_parts : (parts : List (List ℕ)) → AreFilled (filter (λ word. not (is_empty_list word)) parts)
filled_parts [] = tt
filled_parts (part ∷ parts) = not_empty_by part parts (is_empty_list part) refl (filled_parts parts)

-- the words of a text have a byte each
pub words_filled : (text : List ℕ) → AreFilled (words_of text)
unfolding words_of
words_filled text = filled_parts (slice_split (λ byte. byte == 32) text)

joined_all : (words : List (List ℕ)) → AreFilled words → appended [] words ≡ joined_words words
joined_all [] all = refl
joined_all ([] ∷ words) all = let never : true ≡ false = all.0 in cc
joined_all ((byte ∷ word) ∷ words) all = joined_onto byte word words

-- joined words are of no bytes only where there are none
pub joined_empty : (words : List (List ℕ)) → AreFilled words → is_empty_list (joined_words words) ≡ is_empty_list words
joined_empty [] all = refl
joined_empty ([] ∷ words) all = let never : true ≡ false = all.0 in cc
joined_empty ((byte ∷ word) ∷ []) all = refl
joined_empty ((byte ∷ word) ∷ next ∷ words) all = refl

-- ---- one more word of a text

pub gathers_on : (gathered : Gathered) (word : List ℕ) (words : List (List ℕ)) → word ≢ []
    → gather_all gathered (onto_words word words) ≡ gather_all (gather gathered word) words
gathers_on gathered [] words some = absurd (some refl)
gathers_on gathered (byte ∷ word) words some = refl

with_word-length : (text word : List ℕ) → length (with_word text word) ≤ length text + length word + 1
with_word-length [] word = omega arith
with_word-length (byte ∷ text) word = omega (arith, length-append (byte ∷ text) (32 ∷ word))

one_or : (test : Bool) (a b : List ℕ) (n : ℕ) → length a ≤ n → length b ≤ n → length (if test then a else b) ≤ n
one_or true a b n small large = small
one_or false a b n small large = large

-- a word takes its bytes and one more, at most
pub words-length : (gathered : Gathered) (word : List ℕ) → length (gather gathered word).words ≤ length gathered.words + length word + 1
words-length gathered word =
    one_or (is_lock_word word || is_vga_word word) gathered.words (with_word gathered.words word) _ (omega arith) (with_word-length gathered.words word)

pub lock_line-length : (gathered : Gathered) (word : List ℕ) → length (gather gathered word).lock_line ≤ length gathered.lock_line + length word + 1
lock_line-length gathered word =
    one_or (is_lock_word word) gathered.lock_line (with_word gathered.lock_line word) _ (omega arith) (with_word-length gathered.lock_line word)

-- ---- the entry with a name

-- what is found at a place is what was looked for
found_at : {X : Type 0} (p : X → Bool) (from place : ℕ) (xs : List X) → position_from p from xs ≡ Some place
    → (x : X) × (k : ℕ) × (place ≡ from + k) × (slice_get xs k ≡ Some x) × (p x ≡ true)
found_at p from place [] is = let never : None ≡ Some place = is in cc
found_at {X} p from place (x ∷ xs) is = by (p x) refl (λ later. found_at p (from + 1) place xs later)
  where
    by : (test : Bool) → p x ≡ test
        → (position_from p (from + 1) xs ≡ Some place → (y : X) × (k : ℕ) × (place ≡ from + 1 + k) × (slice_get xs k ≡ Some y) × (p y ≡ true))
        → (y : X) × (k : ℕ) × (place ≡ from + k) × (slice_get (x ∷ xs) k ≡ Some y) × (p y ≡ true)
    by true passes rest =
        let same : Some from ≡ Some place = rw passes at is in
        let here : from ≡ place = cc in
        (x, 0, omega arith, refl, passes)
    by false passes rest =
        let later : position_from p (from + 1) xs ≡ Some place = rw passes at is in
        let (y, k, at_place, got, passed) = rest later in
        (y, suc k, omega arith, got, passed)

pub name_found : (entries : List ListedEntry) (name : List ℕ) (place : ℕ) → entry_named entries name ≡ Some place → name_at entries place ≡ name
name_found entries name place is =
    let named_so : ListedEntry → Bool = λ entry. bytes_eq entry.name name in
    let found : position_from named_so 0 entries ≡ Some place = sym (position_from-zero named_so entries) ∙ is in
    let (entry, k, at_place, got, passed) = found_at named_so 0 place entries found in
    let here : place ≡ k = omega arith in
    let same : entry.name ≡ name = (bytes_eq-Decides entry.name name).0 passed in
    rw (here, got) same

-- ---- a line

same_chosen : (place : ℕ) (automatic lock lock' : Bool) (vga vga' : Option ℕ) (words words' line line' : List ℕ)
    → lock ≡ lock' → vga ≡ vga' → words ≡ words' → line ≡ line'
    → gathered_choice place automatic (record { words = words; lock_line = line; lock = lock; vga = vga })
    ≡ gathered_choice place automatic (record { words = words'; lock_line = line'; lock = lock'; vga = vga' })
same_chosen place automatic lock lock' vga vga' words words' line line' a b c d = cc

chosen_is : (entries : List ListedEntry) (place : ℕ) (automatic : Bool) (byte : ℕ) (name : List ℕ) (words : List (List ℕ))
    → name_at entries place ≡ byte ∷ name → AreFilled words
    → gathered_choice place automatic (gather_all (named (byte ∷ name)) words)
    ≡ chosen_of entries (record { entry = place; words = words; automatic = automatic })
chosen_is entries place automatic byte name words is all =
    same_chosen place automatic _ _ _ _ _ _ _ _
    (gathered_lock (named (byte ∷ name)) words)
    (gathered_modes (named (byte ∷ name)) words)
    (gathered_words (named (byte ∷ name)) words ∙ joined_all (passed_words words) (filled_filter _ words all))
    (gathered_kept (named (byte ∷ name)) words ∙ joined_onto byte name (kept_words words) ∙ ap (λ n. joined_words (n ∷ kept_words words)) (sym is))

blank_is : (entries : List ListedEntry) (automatic : Bool) (text : List ℕ) → words_of text ≡ [] → meant_of entries automatic (meaning entries text) ≡ Blank
unfolding meaning
blank_is entries automatic text is = rw is refl

unknown_is : (entries : List ListedEntry) (automatic : Bool) (text name : List ℕ) (words : List (List ℕ)) → words_of text ≡ name ∷ words
    → entry_named entries name ≡ None → meant_of entries automatic (meaning entries text) ≡ Unknown
unfolding meaning
unknown_is entries automatic text name words is found = rw (is, found) refl

means_is : (entries : List ListedEntry) (automatic : Bool) (text name : List ℕ) (words : List (List ℕ)) (place : ℕ) → words_of text ≡ name ∷ words
    → entry_named entries name ≡ Some place
    → meant_of entries automatic (meaning entries text) ≡ Means (chosen_of entries (record { entry = place; words = words; automatic = automatic }))
unfolding meaning
means_is entries automatic text name words place is found = rw (is, found) refl

-- it has no words
pub line_blank : (entries : List ListedEntry) (automatic : Bool) (text word : List ℕ) (words : List (List ℕ))
    → words_of text ≡ onto_words word words → word ≡ [] → Blank ≡ meant_of entries automatic (meaning entries text)
line_blank entries automatic text word words is none =
    let no_words : words_of text ≡ [] = is ∙ ap (λ w. onto_words w words) none in
    sym (blank_is entries automatic text no_words)

-- its first word is no name
pub line_unknown : (entries : List ListedEntry) (automatic : Bool) (text word : List ℕ) (words : List (List ℕ))
    → words_of text ≡ onto_words word words → word ≢ [] → entry_named entries word ≡ None
    → Unknown ≡ meant_of entries automatic (meaning entries text)
line_unknown entries automatic text [] words is some found = absurd (some refl)
line_unknown entries automatic text (byte ∷ word) words is some found = sym (unknown_is entries automatic text (byte ∷ word) words is found)

-- its first word is a name
pub line_means : (entries : List ListedEntry) (automatic : Bool) (text word rest : List ℕ) (place : ℕ) (chosen : Chosen)
    → words_of text ≡ onto_words word (words_of rest) → word ≢ [] → entry_named entries word ≡ Some place
    → chosen ≡ gathered_choice place automatic (gather_all (named word) (words_of rest))
    → Means chosen ≡ meant_of entries automatic (meaning entries text)
line_means entries automatic text [] rest place chosen is some found made = absurd (some refl)
line_means entries automatic text (byte ∷ word) rest place chosen is some found made =
    let name = name_found entries (byte ∷ word) place found in
    let same = made ∙ chosen_is entries place automatic byte word (words_of rest) name (words_filled rest) in
    ap Means same ∙ sym (means_is entries automatic text (byte ∷ word) (words_of rest) place is found)

-- ---- the list of entries

position_view : {X Y : Type 0} (p : Y → Bool) (f : X → Y) (from : ℕ) (xs : List X) → position_from p from (map f xs) ≡ position_from (λ x. p (f x)) from xs
position_view p f from [] = refl
position_view p f from (x ∷ xs) = rw (position_view p f (from + 1) xs) refl

pub position_of : {X Y : Type 0} (p : Y → Bool) (f : X → Y) (xs : List X) → position p (map f xs) ≡ position (λ x. p (f x)) xs
position_of p f xs =
    position_from-zero p (map f xs) ∙ position_view p f 0 xs ∙ sym (position_from-zero (λ x. p (f x)) xs)
