-- What one more place does to the count of an inode's names.
use Rattle.std.proofs.Common.{◌≡◌, ◌≢◌, ℕ, suc, ◌<◌, ◌≤◌, ◌==◌, ◌⊎◌, Bool, true, false, List, [], ◌∷◌, length, refl, sym, ◌∙◌, ap, subst, arith, eq-eqb, inl, inr}
use Rattle.std.proofs.lemmas.Bool.{eqb-true}
use Rattle.lilo_model.specs.MinixLayout.{Super}
use Rattle.lilo_model.specs.MinixParts.{Parts}
use Rattle.minix_survey_laws.specs.Survey.{NamesIn, NamesAt, EntryPlace, Each, IsNewPlace, AreApart}
use Rattle.minix_survey_laws.specs.Count.{IsJudged, IsCount, JudgesNext, AreAllJudged}
use Rattle.minix_survey_laws.specs.Laws.{CountLaw, LinksLaw}

-- a place, by its numbers
abbrev place_with : ℕ → ℕ → EntryPlace
place_with directory place = record { directory = directory; place = place }

-- ---- lists of places

pub each-of : (One Other : EntryPlace → Type 0) → ((at : EntryPlace) → One at → Other at) → (all : List EntryPlace) → Each One all → Each Other all
each-of One Other to [] each = tt
each-of One Other to (at ∷ others) each = (to at each.0, each-of One Other to others each.1)

new-by : (Is : EntryPlace → Type 0) (at : EntryPlace) → ((other : EntryPlace) → Is other → at ≢ other) → (all : List EntryPlace) → Each Is all → IsNewPlace at all
new-by Is at apart [] each = tt
new-by Is at apart (other ∷ others) each = (apart other each.0, new-by Is at apart others each.1)

module _ (One Other : EntryPlace → Type 0) (at : EntryPlace) (to : (other : EntryPlace) → One other → (at ≡ other) ⊎ Other other) where
  -- places that are all new
  each-new : (all : List EntryPlace) → IsNewPlace at all → Each One all → Each Other all
  each-new [] new each = tt
  each-new (other ∷ others) new each = (by_case (to other each.0), each-new others new.1 each.1)
    where
      by_case : (at ≡ other) ⊎ Other other → Other other
      by_case (inl same) = absurd (new.0 same)
      by_case (inr is) = is

  -- some places without one
  pub record Without (all : List EntryPlace) : Type 0 where
    pub rest : List EntryPlace
    pub keeps : (other : EntryPlace) → IsNewPlace other all → IsNewPlace other rest
    pub apart : AreApart rest
    pub each : Each Other rest
    pub count : length all ≤ suc (length rest)

  new-to : (other : EntryPlace) → at ≡ other → (all : List EntryPlace) → IsNewPlace other all → IsNewPlace at all
  new-to other same all new = subst (λ x. IsNewPlace x all) (sym same) new

  without-by : (other : EntryPlace) (others : List EntryPlace) → (at ≡ other) ⊎ Other other → AreApart (other ∷ others) → Each One others → Without others → Without (other ∷ others)
  without-by other others (inl same) apart each before = record {
    rest = others;
    keeps = λ x new. new.1;
    apart = apart.1;
    each = each-new others (new-to other same others apart.0) each;
    count = omega arith;
  }
  without-by other others (inr is) apart each before =
      let few : length others ≤ suc (length before.rest) = before.count in
      record {
        rest = other ∷ before.rest;
        keeps = λ x new. (new.0, before.keeps x new.1);
        apart = (before.keeps other apart.0, before.apart);
        each = (is, before.each);
        count = omega (arith, few);
      }

  pub without : (all : List EntryPlace) → AreApart all → Each One all → Without all
  without [] apart each = record { rest = []; keeps = λ x new. tt; apart = tt; each = tt; count = omega arith }
  without (other ∷ others) apart each = without-by other others (to other each.0) apart each.1 (without others apart.1 each.1)

-- ---- one more place

module _ (super : Super) (parts : Parts) where
  none-judged : (judged : ℕ → ℕ) (inode : ℕ) → ((directory : ℕ) → judged directory ≡ 0) → IsCount super parts judged inode 0
  none-judged judged inode none = record { all = []; apart = tt; each = tt; is = refl; most = most }
    where
      most : (others : List EntryPlace) → AreApart others → Each (IsJudged super parts judged inode) others → length others ≤ 0
      most [] apart each = omega arith
      most (at ∷ others) apart each =
          let low : at.place < judged at.directory = each.0.below in
          let zero_there : judged at.directory ≡ 0 = none at.directory in
          absurd (omega (arith, low, zero_there))

  module _ (judged next : ℕ → ℕ) (directory inode : ℕ) (judges : JudgesNext judged next directory) where
    -- the place
    abbrev Last : EntryPlace
    Last = place_with directory (judged directory)

    later-by : (at : EntryPlace) (here : Bool) → (at.directory == directory) ≡ here → at.place < judged at.directory → at.place < next at.directory
    later-by at true here low =
        let same : at.directory ≡ directory = eqb-true at.directory directory here in
        let more : next at.directory ≡ suc (judged at.directory) = ap next same ∙ judges.here ∙ ap (λ d. suc (judged d)) (sym same) in
        omega (arith, low, more)
    later-by at false here low =
        let same : next at.directory ≡ judged at.directory = judges.elsewhere at.directory (λ e. let t = eq-eqb at.directory directory e in cc) in
        omega (arith, low, same)

    -- what was judged is judged
    later : (at : EntryPlace) → IsJudged super parts judged inode at → IsJudged super parts next inode at
    later at is = record { below = later-by at _ refl is.below; by = is.by }

    before-by : (at : EntryPlace) (here last : Bool) → (at.directory == directory) ≡ here → (at.place == judged directory) ≡ last → at.place < next at.directory
        → (Last ≡ at) ⊎ (at.place < judged at.directory)
    before-by at true true here last low =
        inl (ap (λ d. place_with d (judged directory)) (sym (eqb-true at.directory directory here)) ∙ ap (λ k. place_with at.directory k) (sym (eqb-true at.place (judged directory) last)))
    before-by at true false here last low =
        let same : at.directory ≡ directory = eqb-true at.directory directory here in
        let more : next at.directory ≡ suc (judged at.directory) = ap next same ∙ judges.here ∙ ap (λ d. suc (judged d)) (sym same) in
        let apart : at.place ≢ judged at.directory = λ e. let t = eq-eqb at.place (judged directory) (e ∙ ap judged same) in cc in
        inr (omega (arith, low, more, apart))
    before-by at false last here is_last low =
        let same : next at.directory ≡ judged at.directory = judges.elsewhere at.directory (λ e. let t = eq-eqb at.directory directory e in cc) in
        inr (omega (arith, low, same))

    -- what is judged was judged, but for the last place
    before : (at : EntryPlace) → IsJudged super parts next inode at → (Last ≡ at) ⊎ IsJudged super parts judged inode at
    before at is = by_case (before-by at _ _ refl refl is.below)
      where
        by_case : (Last ≡ at) ⊎ (at.place < judged at.directory) → (Last ≡ at) ⊎ IsJudged super parts judged inode at
        by_case (inl same) = inl same
        by_case (inr low) = inr (record { below = low; by = is.by })

    not-yet : (at : EntryPlace) → IsJudged super parts judged inode at → Last ≢ at
    not-yet at is same =
        let low : at.place < judged at.directory = is.below in
        let place : judged directory ≡ at.place = ap (λ a. a.place) same in
        let there : judged directory ≡ judged at.directory = ap (λ a. judged a.directory) same in
        absurd (omega (arith, low, place, there))

    module _ (count : ℕ) (was : IsCount super parts judged inode count) where
      most-more : (others : List EntryPlace) → AreApart others → Each (IsJudged super parts next inode) others → length others ≤ suc count
      most-more others apart each =
          let less = without (IsJudged super parts next inode) (IsJudged super parts judged inode) Last before others apart each in
          let few : length less.rest ≤ count = was.most less.rest less.apart less.each in
          let one : length others ≤ suc (length less.rest) = less.count in
          omega (arith, few, one)

      named-next : NamesIn super parts directory (judged directory) inode → IsCount super parts next inode (suc count)
      named-next names = record {
        all = Last ∷ was.all;
        apart = (new-by (IsJudged super parts judged inode) Last not-yet was.all was.each, was.apart);
        each = (record { below = let more : next directory ≡ suc (judged directory) = judges.here in omega (arith, more); by = names }, each-of (IsJudged super parts judged inode) (IsJudged super parts next inode) later was.all was.each);
        is = ap suc was.is;
        most = most-more;
      }

      other-next : (NamesIn super parts directory (judged directory) inode → ⊥) → IsCount super parts next inode count
      other-next other = record {
        all = was.all;
        apart = was.apart;
        each = each-of (IsJudged super parts judged inode) (IsJudged super parts next inode) later was.all was.each;
        is = was.is;
        most = λ others apart each. was.most others apart (each-of (IsJudged super parts next inode) (IsJudged super parts judged inode) same others each);
      }
        where
          same : (at : EntryPlace) → IsJudged super parts next inode at → IsJudged super parts judged inode at
          same at is = by_case (before at is)
            where
              by_case : (Last ≡ at) ⊎ IsJudged super parts judged inode at → IsJudged super parts judged inode at
              by_case (inl last) = absurd (other (subst (λ a. NamesIn super parts a.directory a.place inode) (sym last) is.by))
              by_case (inr was') = was'

pub count_law : CountLaw
count_law super parts = record {
  none = none-judged super parts;
  next = λ judged next directory inode count was judges. record {
    named = named-next super parts judged next directory inode judges count was;
    other = other-next super parts judged next directory inode judges count was;
  };
}

-- ---- the end

judged-at : (super : Super) (parts : Parts) (seen : ℕ → Bool) (judged : ℕ → ℕ) (inode : ℕ) → AreAllJudged super parts seen judged → (at : EntryPlace) → NamesAt super parts seen at.directory at.place inode → IsJudged super parts judged inode at
judged-at super parts seen judged inode are at names =
    let low = names.by.taken.below in
    let all = are.all at.directory names.from in
    record { below = omega (arith, low, all); by = names.by }

pub links_law : LinksLaw
links_law super parts seen judged inode count all are is apart name =
    is.most all apart (each-of (λ at. NamesAt super parts seen at.directory at.place inode) (IsJudged super parts judged inode) (judged-at super parts seen judged inode are) all name)
