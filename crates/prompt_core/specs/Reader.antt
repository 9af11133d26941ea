-- The words of a line, one after another. (This project's own.)
use Rattle.std.specs.Prelude.{ℕ, ◌≡◌, List, [], ◌∷◌, ◌++◌, Bool, false, not, ◌||◌, ◌==◌, if◌then◌else◌, Option, None, Some, ⊤, fold}
use Rattle.std.specs.List.{prefix_len}
use Rattle.lilo_model.specs.LineWords.{is_lock_word, is_vga_word, word_video_mode}
use Rattle.prompt_core.specs.Steps.{Chosen}

-- how many spaces a text begins with
abbrev pub spaces : List ℕ → ℕ
spaces text = prefix_len (λ byte. byte == 32) text

-- how many bytes come before its first space
abbrev pub word_length : List ℕ → ℕ
word_length text = prefix_len (λ byte. not (byte == 32)) text

-- a word before others, where it has a byte
abbrev pub onto_words : List ℕ → List (List ℕ) → List (List ℕ)
onto_words [] words = []
onto_words (byte ∷ word) words = (byte ∷ word) ∷ words

-- a text has nothing, or begins with a space
abbrev pub BeginsSpaced : List ℕ → Type 0
BeginsSpaced [] = ⊤
BeginsSpaced (byte ∷ text) = byte ≡ 32

-- a text with one more word
abbrev pub with_word : List ℕ → List ℕ → List ℕ
with_word [] word = word
with_word (byte ∷ text) word = (byte ∷ text) ++ (32 ∷ word)

-- what words come to
pub record Gathered : Type 0 where
  -- those to pass on
  pub words : List ℕ
  -- the name and those but `lock`
  pub lock_line : List ℕ
  -- whether `lock` is one of them
  pub lock : Bool
  -- the video mode that they give
  pub vga : Option ℕ

-- the later of two video modes
abbrev pub later_mode : Option ℕ → Option ℕ → Option ℕ
later_mode old None = old
later_mode old (Some mode) = Some mode

-- with one more word
abbrev pub gather : Gathered → List ℕ → Gathered
gather gathered word = record {
  words = if is_lock_word word || is_vga_word word then gathered.words else with_word gathered.words word;
  lock_line = if is_lock_word word then gathered.lock_line else with_word gathered.lock_line word;
  lock = gathered.lock || is_lock_word word;
  vga = later_mode gathered.vga (word_video_mode word);
}

-- with more words
abbrev pub gather_all : Gathered → List (List ℕ) → Gathered
gather_all gathered words = fold gather gathered words

-- before any word after a name
abbrev pub named : List ℕ → Gathered
named name = record { words = []; lock_line = name; lock = false; vga = None }

-- an entry, chosen with words that were gathered
abbrev pub gathered_choice : ℕ → Bool → Gathered → Chosen
gathered_choice place automatic gathered = record {
  picked = record { entry = place; automatic = automatic; lock = gathered.lock; vga = gathered.vga };
  words = gathered.words;
  lock_line = gathered.lock_line;
}
