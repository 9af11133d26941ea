-- The words of a line and what they mean. That the first word names an entry, and the words `lock`
-- and `vga=`, follow LILO's manners; how words count that are repeated or wrong is a rule of this
-- project's own.
use Rattle.std.specs.Prelude.{ℕ, List, [], ◌∷◌, drop, filter, filter_map, position, Bool, true, false, not, ◌||◌, ◌==◌, nat_eq, if◌then◌else◌, Option, None}
use Rattle.std.specs.Prelude.{Some, codes}
use Rattle.std.specs.List.{list_any, last_or, starts_with, slice_split, join_with_byte}
use Rattle.std.specs.Str.{bytes_eq}
use Rattle.lilo_model.specs.Prompt.{ListedEntry}
use Rattle.lilo_model.specs.VideoMode.{video_mode}

-- whether a list has nothing in it
abbrev pub is_empty_list : {X : Type 0} → List X → Bool
is_empty_list [] = true
is_empty_list (_ ∷ _) = false

-- the words of a text: the parts between spaces that have a byte
unfoldable pub words_of : List ℕ → List (List ℕ)
words_of text = filter (λ part. not (is_empty_list part)) (slice_split (λ byte. byte == 32) text)

-- words in a row, with a single space between each two
abbrev pub joined_words : List (List ℕ) → List ℕ
joined_words words = join_with_byte 32 words

-- whether a word asks that the choice is kept
abbrev pub is_lock_word : List ℕ → Bool
is_lock_word word = bytes_eq word (codes "lock")

-- whether a word gives a video mode, be it a good one or not
abbrev pub is_vga_word : List ℕ → Bool
is_vga_word word = starts_with nat_eq word (codes "vga=")

-- the words that are passed on: neither `lock` nor a video mode
abbrev pub passed_words : List (List ℕ) → List (List ℕ)
passed_words words = filter (λ word. not (is_lock_word word || is_vga_word word)) words

-- the words that a kept line has: all but `lock`
abbrev pub kept_words : List (List ℕ) → List (List ℕ)
kept_words words = filter (λ word. not (is_lock_word word)) words

-- whether one of the words is `lock`
abbrev pub has_lock_word : List (List ℕ) → Bool
has_lock_word words = list_any is_lock_word words

-- the video mode that a word gives
abbrev pub word_video_mode : List ℕ → Option ℕ
word_video_mode word = if is_vga_word word then video_mode (drop 4 word) else None

-- the video mode that the words give: the last of those that are good
abbrev pub words_video_mode : List (List ℕ) → Option ℕ
words_video_mode words = last_or None (filter_map word_video_mode words)

-- the place of the first entry with a name
abbrev pub entry_named : List ListedEntry → List ℕ → Option ℕ
entry_named entries name = position (λ entry. bytes_eq entry.name name) entries

-- what a line means
pub data Meaning : Type 0 where
  -- it has no words
  Nothing : Meaning
  -- its first word is the name of the entry at this place; the other words
  Names : ℕ → List (List ℕ) → Meaning
  -- its first word is no name
  NoSuch : Meaning

-- what a first word means that is the name of an entry, or of none, with the words after it
abbrev pub named_meaning : Option ℕ → List (List ℕ) → Meaning
named_meaning None words = NoSuch
named_meaning (Some entry) words = Names entry words

-- what words mean
abbrev pub words_meaning : List ListedEntry → List (List ℕ) → Meaning
words_meaning entries [] = Nothing
words_meaning entries (name ∷ words) = named_meaning (entry_named entries name) words

-- what a line's text means
unfoldable pub meaning : List ListedEntry → List ℕ → Meaning
meaning entries text = words_meaning entries (words_of text)
