-- Which arguments are a run, and how far those that are none can be followed.
use Rattle.std.proofs.Common.{◌≡◌, ◌<◌, ◌≤◌, ◌⊎◌, inl, inr, ℕ, suc, ◌+◌, List, [], ◌∷◌, ◌++◌, length, take, drop, Bool, true, false, refl, sym, ◌∙◌, ap, subst, arith, append_assoc, append-nil, length-append, add-one}
use Rattle.std.specs.Prelude.{Some, None, Ok, Err, Result, codes}
use Rattle.std.specs.List.{slice_split}
use Rattle.std.proofs.Math.Seq.{take-append-add}
use Rattle.std.proofs.lemmas.Bool.{cases_lt, cases_order, lt-ltb, le-ltb}
use Rattle.std.proofs.lemmas.List.{take-append-drop, take-append-le, take-take, take_all}
use Rattle.std.proofs.lemmas.List.Elements.{All-cons, All-append, All-take}
use Rattle.std.proofs.lemmas.List.Splits.{slice_split_none, slice_split_at}
use Rattle.lilo_model.specs.Words.{Part, IsPartBehind, IsRun, one, more, Begins, IsFirstWrong, IsUnfinished, bare_part, is_then, part_from, parts_from, run_from, run_at, place_in}
use Rattle.lilo_words.proofs.Commands.{same, IsFree, free_none, Stuck}
use Rattle.lilo_words.proofs.Parts.{JudgedPart, judged_part, part_from-IsPartBehind}

-- ---- arguments cut at each `--then`

abbrev NotThen : List ℕ → Type 0
NotThen word = is_then word ≡ false

between : List ℕ
between = codes "--then"

then_is_between : is_then between ≡ true
unfolding between
then_is_between = refl

free_append : (xs ys : List (List ℕ)) → IsFree xs → IsFree ys → IsFree (xs ++ ys)
free_append xs ys a b = All-append (λ word. is_then word ≡ false) xs ys a b

free_take : (n : ℕ) (xs : List (List ℕ)) → IsFree xs → IsFree (take n xs)
free_take n xs a = All-take (λ word. is_then word ≡ false) n xs a

-- pieces with a `--then` between each two, as one list
joined : List (List ℕ) → List (List (List ℕ)) → List (List ℕ)
joined piece [] = piece
joined piece (next ∷ others) = piece ++ between ∷ joined next others

AreFree : List (List (List ℕ)) → Type 0
AreFree [] = Unit {0}
AreFree (piece ∷ others) = IsFree piece × AreFree others

joined-cons : (word : List ℕ) (piece : List (List ℕ)) (others : List (List (List ℕ)))
    → word ∷ joined piece others ≡ joined (word ∷ piece) others
unfolding joined
joined-cons word piece [] = refl
joined-cons word piece (next ∷ others) = refl

joined-front : (front piece : List (List ℕ)) (others : List (List (List ℕ)))
    → front ++ joined piece others ≡ joined (front ++ piece) others
unfolding joined
joined-front front piece [] = refl
joined-front front piece (next ∷ others) = sym (append_assoc front piece (between ∷ joined next others))

record Pieces (words : List (List ℕ)) : Type 0 where
  piece : List (List ℕ)
  others : List (List (List ℕ))
  whole : words ≡ joined piece others
  free : IsFree piece
  all_free : AreFree others

pieces_by : (word : List ℕ) (words : List (List ℕ)) (cut : Bool) → is_then word ≡ cut → Pieces words → Pieces (word ∷ words)
unfolding joined AreFree between
pieces_by word words true is pieces = record {
  piece = [];
  others = pieces.piece ∷ pieces.others;
  whole = rw (same word (codes "--then") is) (ap (λ ws. codes "--then" ∷ ws) pieces.whole);
  free = free_none;
  all_free = (pieces.free, pieces.all_free);
}
pieces_by word words false isnt pieces = record {
  piece = word ∷ pieces.piece;
  others = pieces.others;
  whole = ap (λ ws. word ∷ ws) pieces.whole ∙ joined-cons word pieces.piece pieces.others;
  free = All-cons (λ w. is_then w ≡ false) word pieces.piece isnt pieces.free;
  all_free = pieces.all_free;
}

pieces_of : (words : List (List ℕ)) → Pieces words
unfolding joined AreFree
pieces_of [] = record { piece = []; others = []; whole = refl; free = free_none; all_free = tt }
pieces_of (word ∷ words) = pieces_by word words (is_then word) refl (pieces_of words)

slice_split-joined : (piece : List (List ℕ)) (others : List (List (List ℕ))) → IsFree piece → AreFree others
    → slice_split is_then (joined piece others) ≡ piece ∷ others
unfolding joined AreFree
slice_split-joined piece [] free all = slice_split_none is_then piece free
slice_split-joined piece (next ∷ others) free all =
    rw (slice_split_at is_then piece between (joined next others) free then_is_between)
    (ap (λ parts. piece ∷ parts) (slice_split-joined next others all.0 all.1))

run_from-joined : (at : ℕ) (piece : List (List ℕ)) (others : List (List (List ℕ))) → IsFree piece → AreFree others
    → run_from at (joined piece others) ≡ parts_from at (piece ∷ others)
unfolding run_from
run_from-joined at piece others free all = rw (slice_split-joined piece others free all) refl

-- a run whose first part ends at a `--then`
pub run_from-more : (at : ℕ) (piece rest : List (List ℕ)) → IsFree piece
    → run_from at (piece ++ codes "--then" ∷ rest) ≡ parts_from at (piece ∷ slice_split is_then rest)
unfolding run_from
run_from-more at piece rest free = rw (slice_split_at is_then piece (codes "--then") rest free refl) refl

-- ---- the grammar's runs are read

pub run_from-IsRun : (at : ℕ) (words : List (List ℕ)) (parts : List Part) → IsRun words parts → run_from at words ≡ Ok parts
unfolding run_from parts_from
run_from-IsRun at _ _ (one words part is) =
    rw (slice_split_none is_then words is.whole, part_from-IsPartBehind at bare_part words part is.spelled) refl
run_from-IsRun at _ _ (more words part rest parts is behind) =
    rw (
      slice_split_at is_then words (codes "--then") rest is.whole refl,
      part_from-IsPartBehind at bare_part words part is.spelled,
      run_from-IsRun (at + length words + 1) rest parts behind,
    )
    refl

-- ---- what a reading of a run says of the arguments

-- where a prefix of the first part can't go on, the run can't
front_fails : (at wrong : ℕ) (front others : List (List ℕ)) → IsFree front
    → ((more : List (List ℕ)) → part_from at bare_part (front ++ more) ≡ Err wrong)
    → run_from at (front ++ others) ≡ Err wrong
unfolding parts_from
front_fails at wrong front others free fails =
    let pieces = pieces_of others in
    rw (
      pieces.whole,
      joined-front front pieces.piece pieces.others,
      run_from-joined at (front ++ pieces.piece) pieces.others (free_append front pieces.piece free pieces.free) pieces.all_free,
      fails pieces.piece,
    )
    refl

whole_fails : (at wrong : ℕ) (piece rest : List (List ℕ)) → IsFree piece → part_from at bare_part piece ≡ Err wrong
    → run_from at (piece ++ codes "--then" ∷ rest) ≡ Err wrong
unfolding parts_from
whole_fails at wrong piece rest free e = rw (run_from-more at piece rest free, e) refl

rest_fails : (at wrong : ℕ) (piece rest : List (List ℕ)) (part : Part) → IsFree piece → part_from at bare_part piece ≡ Ok part
    → run_from (at + length piece + 1) rest ≡ Err wrong
    → run_from at (piece ++ codes "--then" ∷ rest) ≡ Err wrong
unfolding parts_from run_from
rest_fails at wrong piece rest part free e fails =
    rw (slice_split_at is_then piece (codes "--then") rest free refl, e, fails) refl

-- how far arguments go whose reading fails at one of them, or at the end
pub record StuckRun (at wrong : ℕ) (words : List (List ℕ)) : Type 0 where
  pub place : ℕ
  pub is : wrong ≡ at + place
  pub within : place ≤ length words
  pub begins : Begins (take place words)
  pub fails : place < length words → (others : List (List ℕ)) → run_from at (take (suc place) words ++ others) ≡ Err wrong

abbrev pub JudgedRun : ℕ → List (List ℕ) → Result (List Part) ℕ → Type 0
JudgedRun at words (Ok parts) = IsRun words parts
JudgedRun at words (Err wrong) = StuckRun at wrong words

begun_part : (words rest : List (List ℕ)) (place : ℕ) (whole : Part) → IsFree words → IsFree rest
    → IsPartBehind bare_part (take place words ++ rest) whole → Begins (take place words)
begun_part words rest place whole free rest_free spelled = (
  rest,
  whole ∷ [],
  one (take place words ++ rest) whole (record {
    spelled = spelled;
    whole = free_append (take place words) rest (free_take place words free) rest_free;
  }),
)

last_judged : (at : ℕ) (piece : List (List ℕ)) (read : Result Part ℕ) → IsFree piece
    → part_from at bare_part piece ≡ read → JudgedPart at bare_part piece read
    → JudgedRun at piece (parts_from at (piece ∷ []))
unfolding parts_from
last_judged at piece (Ok part) free e judged = rw e (one piece part (record { spelled = judged; whole = free }))
last_judged at piece (Err wrong) free e judged =
    let stuck = judged.2 in
    rw e (record {
      place = judged.0;
      is = judged.1;
      within = stuck.within;
      begins = begun_part piece stuck.rest judged.0 stuck.can.0 free stuck.free stuck.can.1;
      fails = λ less others.
          front_fails at wrong (take (suc judged.0) piece) others (free_take (suc judged.0) piece free) (λ more. stuck.fails less more);
    })

-- a part that is stuck, before a `--then`
abbrev StuckPart : ℕ → ℕ → List (List ℕ) → ℕ → Type 0
StuckPart at wrong piece place =
    Stuck (λ words. (whole : Part) × IsPartBehind bare_part words whole) (λ words. part_from at bare_part words ≡ Err wrong) piece place

stuck_inside : (at wrong place : ℕ) (piece rest others : List (List ℕ)) → IsFree piece → StuckPart at wrong piece place
    → place < length piece → run_from at (take (suc place) (piece ++ codes "--then" ∷ rest) ++ others) ≡ Err wrong
stuck_inside at wrong place piece rest others free stuck inside =
    let enough : suc place ≤ length piece = omega arith in
    rw (take-append-le (suc place) piece (codes "--then" ∷ rest) enough)
    (front_fails at wrong (take (suc place) piece) others (free_take (suc place) piece free) (λ more. stuck.fails inside more))

take_over : (piece rest : List (List ℕ)) (n : ℕ)
    → take (length piece + suc n) (piece ++ codes "--then" ∷ rest) ≡ piece ++ codes "--then" ∷ take n rest
take_over piece rest n = take-append-add piece (codes "--then" ∷ rest) (suc n)

take_over_append : (piece rest others : List (List ℕ)) (n : ℕ)
    → take (length piece + suc n) (piece ++ codes "--then" ∷ rest) ++ others
    ≡ piece ++ codes "--then" ∷ (take n rest ++ others)
take_over_append piece rest others n =
    rw (take_over piece rest n) (append_assoc piece (codes "--then" ∷ take n rest) others)

stuck_at_then : (at wrong place : ℕ) (piece rest others : List (List ℕ)) → IsFree piece
    → part_from at bare_part piece ≡ Err wrong → place ≡ length piece
    → run_from at (take (suc place) (piece ++ codes "--then" ∷ rest) ++ others) ≡ Err wrong
stuck_at_then at wrong place piece rest others free e last =
    let places : suc place ≡ length piece + suc 0 = omega arith in
    rw (places, take_over_append piece rest others 0) (whole_fails at wrong piece others free e)

stuck_before : (at wrong place : ℕ) (piece rest : List (List ℕ)) → IsFree piece
    → wrong ≡ at + place → part_from at bare_part piece ≡ Err wrong → StuckPart at wrong piece place
    → StuckRun at wrong (piece ++ codes "--then" ∷ rest)
stuck_before at wrong place piece rest free is e stuck = record {
  place = place;
  is = is;
  within = rw length-append (omega (arith, stuck.within));
  begins =
      rw (take-append-le place piece (codes "--then" ∷ rest) stuck.within)
      (begun_part piece stuck.rest place stuck.can.0 free stuck.free stuck.can.1);
  fails = λ less others.
      elim (cases_lt place (length piece)) [
        | inl inside ↦ stuck_inside at wrong place piece rest others free stuck inside
        | inr last ↦ stuck_at_then at wrong place piece rest others free e (omega (arith, stuck.within))
      ];
}

rest_stuck : (at wrong : ℕ) (piece rest : List (List ℕ)) (part : Part) → IsFree piece
    → part_from at bare_part piece ≡ Ok part → IsPartBehind bare_part piece part
    → StuckRun (at + length piece + 1) wrong rest → StuckRun at wrong (piece ++ codes "--then" ∷ rest)
rest_stuck at wrong piece rest part free e spelled stuck = record {
  place = length piece + suc stuck.place;
  is = omega (arith, stuck.is);
  within = rw length-append (omega (arith, stuck.within));
  begins =
      rw (take_over piece rest stuck.place) (
        stuck.begins.0,
        part ∷ stuck.begins.1,
        rw (append_assoc piece (codes "--then" ∷ take stuck.place rest) stuck.begins.0)
            (more piece part (take stuck.place rest ++ stuck.begins.0) stuck.begins.1 (record { spelled = spelled; whole = free }) stuck.begins.2),
      );
  fails = λ less others.
      let here : suc (length piece + suc stuck.place) ≡ length piece + suc (suc stuck.place) = omega arith in
      let inside : stuck.place < length rest = omega (arith, length-append piece (codes "--then" ∷ rest)) in
      rw (here, take_over_append piece rest others (suc stuck.place))
      (rest_fails at wrong piece (take (suc stuck.place) rest ++ others) part free e (stuck.fails inside others));
}

-- a part that is read, before a `--then`
rest_judged : (at : ℕ) (piece rest : List (List ℕ)) (part : Part) (read : Result (List Part) ℕ) → IsFree piece
    → part_from at bare_part piece ≡ Ok part → IsPartBehind bare_part piece part
    → run_from (at + length piece + 1) rest ≡ read → JudgedRun (at + length piece + 1) rest read
    → JudgedRun at (piece ++ codes "--then" ∷ rest) (run_from at (piece ++ codes "--then" ∷ rest))
unfolding run_from parts_from
rest_judged at piece rest part (Ok parts) free e spelled behind judged =
    rw (slice_split_at is_then piece (codes "--then") rest free refl, e, behind)
    (more piece part rest parts (record { spelled = spelled; whole = free }) judged)
rest_judged at piece rest part (Err wrong) free e spelled behind judged =
    rw (slice_split_at is_then piece (codes "--then") rest free refl, e, behind)
    (rest_stuck at wrong piece rest part free e spelled judged)

first_judged : (at : ℕ) (piece rest : List (List ℕ)) (read : Result Part ℕ) → IsFree piece
    → part_from at bare_part piece ≡ read → JudgedPart at bare_part piece read
    → JudgedRun (at + length piece + 1) rest (run_from (at + length piece + 1) rest)
    → JudgedRun at (piece ++ codes "--then" ∷ rest) (run_from at (piece ++ codes "--then" ∷ rest))
first_judged at piece rest (Ok part) free e judged behind =
    rest_judged at piece rest part (run_from (at + length piece + 1) rest) free e judged refl behind
first_judged at piece rest (Err wrong) free e judged behind =
    rw (whole_fails at wrong piece rest free e) (stuck_before at wrong judged.0 piece rest free judged.1 e judged.2)

judged_pieces : (at : ℕ) (piece : List (List ℕ)) (others : List (List (List ℕ))) → IsFree piece → AreFree others
    → JudgedRun at (joined piece others) (run_from at (joined piece others))
unfolding joined AreFree between
judged_pieces at piece [] free all =
    rw (run_from-joined at piece [] free all)
    (last_judged at piece (part_from at bare_part piece) free refl (judged_part at bare_part piece))
judged_pieces at piece (next ∷ others) free all =
    first_judged at piece (joined next others) (part_from at bare_part piece) free refl (judged_part at bare_part piece)
    (judged_pieces (at + length piece + 1) next others all.0 all.1)

pub judged_run : (at : ℕ) (words : List (List ℕ)) → JudgedRun at words (run_from at words)
judged_run at words =
    let pieces = pieces_of words in
    rw pieces.whole (judged_pieces at pieces.piece pieces.others pieces.free pieces.all_free)

-- ---- the laws

-- what begins a run, begins one in each prefix too
begins_front : (words : List (List ℕ)) (few many : ℕ) → few ≤ many → Begins (take many words) → Begins (take few words)
begins_front words few many less begins = (
  drop few (take many words) ++ begins.0,
  begins.1,
  let parts : take few words ++ drop few (take many words) ≡ take many words =
      ap (λ front. front ++ drop few (take many words)) (sym (take-take few many words less)) ∙ take-append-drop few (take many words) in
      rw (← append_assoc, parts) begins.2,
)

no_run : (at wrong : ℕ) (words : List (List ℕ)) → run_from at words ≡ Err wrong → (parts : List Part) → IsRun words parts → ⊥
no_run at wrong words fails parts run = let read = run_from-IsRun at words parts run in cc

-- a run that is stuck is stuck at one place alone
record StuckAt (words : List (List ℕ)) (place : ℕ) : Type 0 where
  within : place ≤ length words
  begins : Begins (take place words)
  stays : place < length words → Begins (take (suc place) words) → ⊥
  open_end : (parts : List Part) → IsRun words parts → ⊥

stuck_at : (words : List (List ℕ)) (wrong : ℕ) → run_from 0 words ≡ Err wrong → StuckRun 0 wrong words → StuckAt words wrong
stuck_at words wrong e stuck =
    let here : stuck.place ≡ wrong = omega (arith, stuck.is) in
    record {
      within = subst (λ place. place ≤ length words) here stuck.within;
      begins = subst (λ place. Begins (take place words)) here stuck.begins;
      stays =
          subst (λ place. place < length words → Begins (take (suc place) words) → ⊥) here
          (λ less begins. no_run 0 wrong (take (suc stuck.place) words ++ begins.0) (stuck.fails less begins.0) begins.1 begins.2);
      open_end = no_run 0 wrong words e;
    }

place_in-inside : (words : List (List ℕ)) (place : ℕ) → place < length words → place_in words place ≡ Some place
place_in-inside words place less = rw (lt-ltb place (length words) less) refl

place_in-end : (words : List (List ℕ)) (place : ℕ) → length words ≤ place → place_in words place ≡ None
place_in-end words place past = rw (le-ltb place (length words) past) refl

run_at-stuck : (words : List (List ℕ)) (wrong : ℕ) → run_from 0 words ≡ Err wrong → run_at words ≡ Err (place_in words wrong)
unfolding run_at
run_at-stuck words wrong e = rw e refl

run_at-read : (words : List (List ℕ)) (parts : List Part) → run_from 0 words ≡ Ok parts → run_at words ≡ Ok parts
unfolding run_at
run_at-read words parts e = rw e refl

-- what is reported of arguments that are no run
record Told (words : List (List ℕ)) (wrong : ℕ) : Type 0 where
  run : run_at words ≡ Err (place_in words wrong)
  stuck : StuckAt words wrong

-- a run, or where it is stuck
read_or_told : (words : List (List ℕ)) (read : Result (List Part) ℕ) → run_from 0 words ≡ read → JudgedRun 0 words read
    → ((parts : List Part) × (run_at words ≡ Ok parts) × IsRun words parts) ⊎ ((wrong : ℕ) × Told words wrong)
read_or_told words (Ok parts) e judged = inl (parts, run_at-read words parts e, judged)
read_or_told words (Err wrong) e judged =
    inr (wrong, record { run = run_at-stuck words wrong e; stuck = stuck_at words wrong e judged })

told : (words : List (List ℕ))
    → ((parts : List Part) × (run_at words ≡ Ok parts) × IsRun words parts) ⊎ ((wrong : ℕ) × Told words wrong)
told words = read_or_told words (run_from 0 words) refl (judged_run 0 words)

-- arguments of a run are all allowed
run_begins : (words : List (List ℕ)) (parts : List Part) → IsRun words parts → Begins words
run_begins words parts run = ([], parts, rw append-nil run)

begins_whole : (words : List (List ℕ)) (few : ℕ) → Begins words → Begins (take few words)
begins_whole words few begins =
    (drop few words ++ begins.0, begins.1, rw (← append_assoc, take-append-drop few words) begins.2)

pub run_law : (words : List (List ℕ)) (parts : List Part) → (run_at words ≡ Ok parts → IsRun words parts) × (IsRun words parts → run_at words ≡ Ok parts)
run_law words parts = (
  λ read. elim (told words) [
    | inl found ↦ (let same_parts : found.0 ≡ parts = cc in subst (λ ps. IsRun words ps) same_parts found.2)
    | inr found ↦ (let run = found.1.run in absurd cc)
  ],
  λ run. run_at-read words parts (run_from-IsRun 0 words parts run),
)

wrong_here : (words : List (List ℕ)) (wrong place : ℕ) → Told words wrong → wrong ≡ place → place < length words
    → run_at words ≡ Err (Some place)
wrong_here words wrong place found e less =
    found.run ∙ ap (λ p. Err p) (ap (λ p. place_in words p) e ∙ place_in-inside words place less)

-- two places at which arguments are stuck are one
same_place : (words : List (List ℕ)) (wrong place : ℕ) → StuckAt words wrong → place < length words
    → Begins (take place words) → (Begins (take (place + 1) words) → ⊥) → wrong ≡ place
same_place words wrong place stuck less begins stays =
    elim (cases_order wrong place) [
      | inl same_is ↦ same_is
      | inr other ↦ elim other [
        | inl before ↦ absurd (stuck.stays (omega arith) (begins_front words (suc wrong) place before begins))
        | inr behind ↦ absurd (stays (begins_front words (place + 1) wrong (omega arith) stuck.begins))
      ]
    ]

first_wrong_to : (words : List (List ℕ)) (place : ℕ) → run_at words ≡ Err (Some place) → IsFirstWrong words place
first_wrong_to words place read =
    elim (told words) [
      | inl found ↦ (let run = found.1 in absurd cc)
      | inr found ↦ elim (cases_lt found.0 (length words)) [
        | inl less ↦
            (let place_is = place_in-inside words found.0 less in
            let run = found.1.run in
            let here : found.0 ≡ place = cc in
            subst (λ p. IsFirstWrong words p) here
            (less, found.1.stuck.begins, λ begins. found.1.stuck.stays less (rw add-one at begins)))
        | inr past ↦ (let place_is = place_in-end words found.0 past in let run = found.1.run in absurd cc)
      ]
    ]

first_wrong_from : (words : List (List ℕ)) (place : ℕ) → IsFirstWrong words place → run_at words ≡ Err (Some place)
first_wrong_from words place (less, begins, stays) =
    elim (told words) [
      | inl found ↦ absurd (stays (begins_whole words (place + 1) (run_begins words found.0 found.2)))
      | inr found ↦ wrong_here words found.0 place found.1 (same_place words found.0 place found.1.stuck less begins stays) less
    ]

unfinished_to : (words : List (List ℕ)) → run_at words ≡ Err None → IsUnfinished words
unfinished_to words read =
    elim (told words) [
      | inl found ↦ (let run = found.1 in absurd cc)
      | inr found ↦ elim (cases_lt found.0 (length words)) [
        | inl less ↦ (let place_is = place_in-inside words found.0 less in let run = found.1.run in absurd cc)
        | inr past ↦
            (let whole : take found.0 words ≡ words = take_all found.0 words past in
            (subst (λ ws. Begins ws) whole found.1.stuck.begins, found.1.stuck.open_end))
      ]
    ]

unfinished_from : (words : List (List ℕ)) → IsUnfinished words → run_at words ≡ Err None
unfinished_from words (begins, open_end) =
    elim (told words) [
      | inl found ↦ absurd (open_end found.0 found.2)
      | inr found ↦ elim (cases_lt found.0 (length words)) [
        | inl less ↦ absurd (found.1.stuck.stays less (begins_whole words (suc found.0) begins))
        | inr past ↦ found.1.run ∙ ap (λ p. Err p) (place_in-end words found.0 past)
      ]
    ]

pub first_wrong_law : (words : List (List ℕ)) (place : ℕ)
    → (run_at words ≡ Err (Some place) → IsFirstWrong words place) × (IsFirstWrong words place → run_at words ≡ Err (Some place))
first_wrong_law words place = (first_wrong_to words place, first_wrong_from words place)

pub unfinished_law : (words : List (List ℕ))
    → (run_at words ≡ Err None → IsUnfinished words) × (IsUnfinished words → run_at words ≡ Err None)
unfinished_law words = (unfinished_to words, unfinished_from words)
