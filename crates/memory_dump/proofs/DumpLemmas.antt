-- Bytes in hexadecimal, a line or a piece at a time, and regions of memory.
use Rattle.std.proofs.Common.{◌≡◌, ℕ, zero, suc, ◌+◌, ◌*◌, ◌/◌, ◌<◌, ◌≤◌, inl, inr, min, List, [], ◌∷◌, ◌++◌, length, take, drop, refl, sym, ap, subst, ◌∙◌, arith, append-nil, append_assoc, length-append, length-drop, take_all, take-append-drop}
use Rattle.std.specs.Prelude.{codes, map}
use Rattle.std.specs.List.{flat_map}
use Rattle.std.proofs.Math.Seq.{take-append_seam, drop-append_seam}
use Rattle.std.proofs.lemmas.Bool.{cases_lt}
use Rattle.std.specs.Option.{option_to_list}
use Rattle.std.proofs.lemmas.List.{nil_from_length, length-take-le, map-append}
use Rattle.std.proofs.lemmas.List.Concat.{flat_map-append}
use Rattle.lilo_model.specs.Bytes.{hex_byte}
use Rattle.lilo_model.specs.Verdict.{hex_lines, region_text}
use Rattle.setup_header.specs.declared.layout.Layout.{Layout}
use Rattle.setup_header.specs.declared.layout.Region.{Region}
use Rattle.stream_trait.specs.Shows.{SinkState, Shows}
use Rattle.stream_trait.proofs.ShowsLemmas.{shows_join, shows_same}
use Rattle.memory_dump.specs.Dump.{hex_text, written_in, regions_of}

pub hex_text-nil : hex_text [] ≡ []
unfolding hex_text
hex_text-nil = refl

-- two digits a byte
pub length-hex : (bytes : List ℕ) → length (flat_map hex_byte bytes) ≡ 2 * length bytes
length-hex [] = refl
length-hex (byte ∷ bytes) = let e = length-hex bytes in omega (arith, e)

-- how many lines there are after the first
pub lines_behind :
    (line rest all : ℕ) → all ≡ line + rest → line ≡ min 32 all → 0 < all → (all + 31) / 32 ≡ suc ((rest + 31) / 32)
lines_behind line rest all sum size some = omega arith

-- room for a line leaves room for its end and for the lines after it
pub line_fits :
    (done line rest all : ℕ) → all ≡ line + rest → line ≡ min 32 all → 0 < all → done + 2 * all + (all + 31) / 32 ≤ 4160
    → done + 2 * line < 4160
line_fits done line rest all sum size some room = omega (arith, lines_behind line rest all sum size some)

pub lines_fit :
    (done line rest all : ℕ) → all ≡ line + rest → line ≡ min 32 all → 0 < all → done + 2 * all + (all + 31) / 32 ≤ 4160
    → done + 2 * line + 1 + 2 * rest + (rest + 31) / 32 ≤ 4160
lines_fit done line rest all sum size some room = omega (arith, lines_behind line rest all sum size some)

-- the first line, and what is after it
take_line : (line rest : List ℕ) → length line ≡ min 32 (length (line ++ rest)) → take 32 (line ++ rest) ≡ line
take_line line rest size =
    let sum = length-append line rest in
    elim (cases_lt (length line) 32) [
      | inl short ↦
          let none : rest ≡ [] = nil_from_length rest (omega arith) in
          take_all 32 (line ++ rest) (omega arith) ∙ ap (λ l. line ++ l) none ∙ append-nil line
      | inr long ↦ let full : length line ≡ 32 = omega arith in subst (λ n. take n (line ++ rest) ≡ line) full (take-append_seam line rest)
    ]

drop_line : (line rest : List ℕ) → length line ≡ min 32 (length (line ++ rest)) → drop 32 (line ++ rest) ≡ rest
drop_line line rest size =
    let sum = length-append line rest in
    elim (cases_lt (length line) 32) [
      | inl short ↦
          let none : rest ≡ [] = nil_from_length rest (omega arith) in
          nil_from_length (drop 32 (line ++ rest)) (omega (arith, length-drop 32 (line ++ rest))) ∙ sym none
      | inr long ↦ let full : length line ≡ 32 = omega arith in subst (λ n. drop n (line ++ rest) ≡ rest) full (drop-append_seam line rest)
    ]

line_first : (line rest : List ℕ) → length line ≡ min 32 (length (line ++ rest)) → 0 < length (line ++ rest)
    → hex_text (line ++ rest) ≡ flat_map hex_byte line ++ codes "\n" ++ hex_text rest
unfolding hex_text
line_first line rest size some =
    ap (λ n. hex_lines n (line ++ rest)) (lines_behind (length line) (length rest) (length (line ++ rest)) (length-append line rest) size some)
    ∙ ap (λ l. flat_map hex_byte l ++ codes "\n" ++ hex_lines ((length rest + 31) / 32) (drop 32 (line ++ rest))) (take_line line rest size)
    ∙ ap (λ l. flat_map hex_byte line ++ codes "\n" ++ hex_lines ((length rest + 31) / 32) l) (drop_line line rest size)

pub hex_text-line :
    (all line rest : List ℕ) → all ≡ line ++ rest → length line ≡ min 32 (length all) → 0 < length all
    → hex_text all ≡ flat_map hex_byte line ++ codes "\n" ++ hex_text rest
hex_text-line all line rest parts size some =
    ap hex_text parts ∙ line_first line rest (size ∙ ap (λ l. min 32 (length l)) parts) (subst (λ l. 0 < length l) parts some)

-- whole lines, and what is after them
whole_lines : (n : ℕ) (lines rest : List ℕ) → length lines ≡ n * 32 → hex_text (lines ++ rest) ≡ hex_text lines ++ hex_text rest
whole_lines zero lines rest long =
    let none : lines ≡ [] = nil_from_length lines (omega arith) in
    ap (λ l. hex_text (l ++ rest)) none ∙ ap (λ l. l ++ hex_text rest) (sym hex_text-nil ∙ ap hex_text (sym none))
whole_lines (suc n) lines rest long =
    let first = take 32 lines in
    let behind = drop 32 lines in
    let parts : lines ≡ first ++ behind = sym (take-append-drop 32 lines) in
    let size : length first ≡ 32 = length-take-le 32 lines (omega arith) in
    let left : length behind ≡ n * 32 = length-drop 32 lines ∙ omega arith in
    let head = flat_map hex_byte first ++ codes "\n" in
    hex_text-line (lines ++ rest) first (behind ++ rest) (ap (λ l. l ++ rest) parts ∙ append_assoc first behind rest) (omega (arith, length-append lines rest)) (omega (arith, length-append lines rest))
    ∙ ap (λ l. head ++ l) (whole_lines n behind rest left)
    ∙ sym (append_assoc head (hex_text behind) (hex_text rest))
    ∙ ap (λ l. l ++ hex_text rest) (sym (hex_text-line lines first behind parts (omega arith) (omega arith)))

-- a piece, which is of whole lines or the last
pub hex_text-piece :
    (all piece rest : List ℕ) → all ≡ piece ++ rest → length piece ≡ min 2048 (length all)
    → hex_text all ≡ hex_text piece ++ hex_text rest
hex_text-piece all piece rest parts size =
    let sum = ap length parts ∙ length-append piece rest in
    elim (cases_lt (length piece) 2048) [
      | inl short ↦
          let none : rest ≡ [] = nil_from_length rest (omega arith) in
          ap hex_text (parts ∙ ap (λ l. piece ++ l) none ∙ append-nil piece)
          ∙ sym (append-nil (hex_text piece)) ∙ ap (λ l. hex_text piece ++ l) (sym hex_text-nil ∙ ap hex_text (sym none))
      | inr long ↦ ap hex_text parts ∙ whole_lines 64 piece rest (omega arith)
    ]

-- a line goes after those before it
pub line_joins :
    (before after all line rest : List ℕ) → after ≡ before ++ flat_map hex_byte line ++ codes "\n"
    → all ≡ line ++ rest → length line ≡ min 32 (length all) → 0 < length all
    → after ++ hex_text rest ≡ before ++ hex_text all
line_joins before after all line rest put parts size some =
    let text = flat_map hex_byte line in
    ap (λ l. l ++ hex_text rest) (put ∙ append_assoc before text (codes "\n"))
    ∙ append_assoc before (text ++ codes "\n") (hex_text rest)
    ∙ ap (λ l. before ++ l) (sym (hex_text-line all line rest parts size some))

-- nothing is left after the last
pub all_told : (before rest : List ℕ) → length rest ≡ 0 → before ≡ before ++ hex_text rest
all_told before rest none =
    sym (append-nil before) ∙ ap (λ l. before ++ l) (sym hex_text-nil ∙ ap hex_text (sym (nil_from_length rest none)))

-- regions of memory, shown one after the other
pub regions_join :
    (memory : List ℕ) (one other : List Region) (a b c : SinkState)
    → Shows a (flat_map region_text (map (written_in memory) one)) b
    → Shows b (flat_map region_text (map (written_in memory) other)) c
    → Shows a (flat_map region_text (map (written_in memory) (one ++ other))) c
regions_join memory one other a b c first second =
    let told : List Region → List ℕ = λ regions. flat_map region_text (map (written_in memory) regions) in
    shows_same a c (told one ++ told other) (told (one ++ other))
    (sym (ap (flat_map region_text) (map-append (written_in memory) one other) ∙ flat_map-append region_text (map (written_in memory) one) (map (written_in memory) other)))
    (shows_join a b c (told one) (told other) first second)

pub region_alone :
    (memory : List ℕ) (region : Region) (a b : SinkState) → Shows a (region_text (written_in memory region)) b
    → Shows a (flat_map region_text (map (written_in memory) (region ∷ []))) b
region_alone memory region a b shown =
    let text = region_text (written_in memory region) in
    shows_same a b text (text ++ []) (sym (append-nil text)) shown

pub regions_shown :
    (layout : Layout) (memory : List ℕ) (a b c d e : SinkState)
    → Shows a (region_text (written_in memory layout.real)) b
    → Shows b (region_text (written_in memory layout.protected)) c
    → Shows c (flat_map region_text (map (written_in memory) (option_to_list layout.initrd))) d
    → Shows d (region_text (written_in memory layout.line)) e
    → Shows a (flat_map region_text (regions_of layout memory)) e
regions_shown layout memory a b c d e real protected initrd line =
    let last = option_to_list layout.initrd ++ (layout.line ∷ []) in
    regions_join memory (layout.real ∷ []) (layout.protected ∷ last) a b e (region_alone memory layout.real a b real)
    (regions_join memory (layout.protected ∷ []) last b c e (region_alone memory layout.protected b c protected)
    (regions_join memory (option_to_list layout.initrd) (layout.line ∷ []) c d e initrd (region_alone memory layout.line d e line)))

-- a region of one memory is that of another with the same bytes
pub shown_in :
    {one : List ℕ} (other : List ℕ) (region : Region) (a b : SinkState) → one ≡ other
    → Shows a (region_text (written_in one region)) b → Shows a (region_text (written_in other region)) b
shown_in other region a b same shown = subst (λ memory. Shows a (region_text (written_in memory region)) b) same shown
