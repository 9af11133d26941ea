-- The first word of a text.
use Rattle.std.proofs.Common.{◌≡◌, ◌≢◌, ℕ, suc, List, [], ◌∷◌, length, take, drop, filter, Bool, true, false, not, ◌==◌, refl, sym, ◌∙◌, ap, arith}
use Rattle.std.specs.List.{slice_split}
use Rattle.std.proofs.lemmas.Bool.{eqb-true, eqb-false}
use Rattle.lilo_model.specs.LineWords.{words_of, is_empty_list}
use Rattle.prompt_core.specs.Reader.{spaces, word_length, onto_words, BeginsSpaced}

-- ---- spaces at the start

words_of-space : (byte : ℕ) (text : List ℕ) → (byte == 32) ≡ true → words_of (byte ∷ text) ≡ words_of text
unfolding words_of
words_of-space byte text is = rw is refl

spaces-space : (byte : ℕ) (text : List ℕ) → (byte == 32) ≡ true → spaces (byte ∷ text) ≡ suc (spaces text)
spaces-space byte text is = rw is (omega arith)

spaces-other : (byte : ℕ) (text : List ℕ) → (byte == 32) ≡ false → spaces (byte ∷ text) ≡ 0
spaces-other byte text is = rw is refl

word_length-space : (byte : ℕ) (text : List ℕ) → (byte == 32) ≡ true → word_length (byte ∷ text) ≡ 0
word_length-space byte text is = rw is refl

word_length-other : (byte : ℕ) (text : List ℕ) → (byte == 32) ≡ false → word_length (byte ∷ text) ≡ suc (word_length text)
word_length-other byte text is = rw is (omega arith)

-- ---- a word at the start

abbrev space : ℕ → Bool
space byte = byte == 32

abbrev filled : List (List ℕ) → List (List ℕ)
filled parts = filter (λ part. not (is_empty_list part)) parts

-- the parts of a text: its word, and others whose words are those after it
record PartsFrom (text : List ℕ) : Type 0 where
  others : List (List ℕ)
  parts : slice_split space text ≡ take (word_length text) text ∷ others
  words : filled others ≡ words_of (drop (word_length text) text)

parts_space : (byte : ℕ) (text : List ℕ) → (byte == 32) ≡ true → PartsFrom (byte ∷ text)
unfolding words_of
parts_space byte text is = record {
  others = slice_split space text;
  parts = rw is refl;
  words = rw is (rw is refl);
}

parts_other : (byte : ℕ) (text : List ℕ) → (byte == 32) ≡ false → PartsFrom text → PartsFrom (byte ∷ text)
parts_other byte text is rest = record {
  others = rest.others;
  parts = rw (word_length-other byte text is, is, rest.parts) refl;
  words = rw (word_length-other byte text is) rest.words;
}

parts_nil : PartsFrom []
unfolding words_of
parts_nil = record { others = []; parts = refl; words = refl }

parts_by : (test : Bool) (byte : ℕ) (text : List ℕ) → (byte == 32) ≡ test → PartsFrom text → PartsFrom (byte ∷ text)
parts_by true byte text is rest = parts_space byte text is
parts_by false byte text is rest = parts_other byte text is rest

parts_from : (text : List ℕ) → PartsFrom text
parts_from [] = parts_nil
parts_from (byte ∷ text) = parts_by (byte == 32) byte text refl (parts_from text)

-- the words of a text that begins with one
words_front : (byte : ℕ) (text : List ℕ) → (byte == 32) ≡ false
    → words_of (byte ∷ text)
    ≡ onto_words (take (word_length (byte ∷ text)) (byte ∷ text)) (words_of (drop (word_length (byte ∷ text)) (byte ∷ text)))
words_front byte text is =
    let long = word_length-other byte text is in
    let from = parts_from (byte ∷ text) in
    let parts : slice_split space (byte ∷ text) ≡ (byte ∷ take (word_length text) text) ∷ from.others = rw long at from.parts in
    let words : filled from.others ≡ words_of (drop (word_length text) text) = rw long at from.words in
    let whole : words_of (byte ∷ text) ≡ filled (slice_split space (byte ∷ text)) = unfold words_of in refl in
    rw long (whole ∙ ap filled parts ∙ ap (λ ws. (byte ∷ take (word_length text) text) ∷ ws) words)

words_nil : words_of [] ≡ []
unfolding words_of
words_nil = refl

-- ---- both

abbrev behind : List ℕ → List ℕ
behind text = drop (spaces text) text

abbrev IsFirst : List ℕ → List ℕ → Type 0
IsFirst text from = words_of text ≡ onto_words (take (word_length from) from) (words_of (drop (word_length from) from))

first_by : (test : Bool) (byte : ℕ) (text : List ℕ) → (byte == 32) ≡ test → IsFirst text (behind text) → IsFirst (byte ∷ text) (behind (byte ∷ text))
first_by true byte text is rest = rw (spaces-space byte text is, words_of-space byte text is) rest
first_by false byte text is rest = rw (spaces-other byte text is) (words_front byte text is)

first_is : (text : List ℕ) → IsFirst text (behind text)
first_is [] = words_nil
first_is (byte ∷ text) = first_by (byte == 32) byte text refl (first_is text)

pub first_word_is : (text from word rest : List ℕ) (skipped long : ℕ) → skipped ≡ spaces text → from ≡ drop skipped text
    → long ≡ word_length from → word ≡ take long from → rest ≡ drop long from → words_of text ≡ onto_words word (words_of rest)
first_word_is text from word rest skipped long at_skipped at_from at_long at_word at_rest =
    let same : from ≡ behind text = at_from ∙ ap (λ n. drop n text) at_skipped in
    let here : IsFirst text from = rw same (first_is text) in
    rw (at_word, at_rest, at_long) here

-- ---- what is after a word begins with a space

spaced_by : (test : Bool) (byte : ℕ) (text : List ℕ) → (byte == 32) ≡ test → BeginsSpaced (drop (word_length text) text)
    → BeginsSpaced (drop (word_length (byte ∷ text)) (byte ∷ text))
spaced_by true byte text is rest = rw (word_length-space byte text is) (eqb-true byte 32 is)
spaced_by false byte text is rest = rw (word_length-other byte text is) rest

spaced : (text : List ℕ) → BeginsSpaced (drop (word_length text) text)
spaced [] = tt
spaced (byte ∷ text) = spaced_by (byte == 32) byte text refl (spaced text)

pub rest_spaced : (from rest : List ℕ) (long : ℕ) → long ≡ word_length from → rest ≡ drop long from → BeginsSpaced rest
rest_spaced from rest long at_long at_rest = rw (at_rest, at_long) (spaced from)

-- ---- whether there is a word

pub no_word : (word : List ℕ) (test : Bool) → test ≡ (length word == 0) → test ≡ true → word ≡ []
no_word [] test is none = refl
no_word (byte ∷ word) test is none = let zero : suc (length word) ≡ 0 = eqb-true (suc (length word)) 0 (sym is ∙ none) in absurd (omega arith)

pub some_word : (word : List ℕ) (test : Bool) → test ≡ (length word == 0) → test ≡ false → word ≢ []
some_word word test is some = λ none. let zero : length word ≡ 0 = ap length none in eqb-false (length word) 0 (sym is ∙ some) zero
