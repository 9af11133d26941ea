-- Where a survey is Ok, what was met is what is on the volume.
use Rattle.std.proofs.Common.{◌≡◌, ◌≢◌, ◌≤◌, ◌-◌, ◌==◌, nat_lt, ℕ, true, List, [], ◌∷◌, length, None, Some, inl, Ok, Err, refl, sym, ◌∙◌, subst, eq-eqb}
use Rattle.std.proofs.lemmas.Bool.{eqb-true, ltb-true, lt-ltb}
use Rattle.lilo_model.specs.MinixLayout.{Super}
use Rattle.lilo_model.specs.MinixParts.{Parts, Pointer}
use Rattle.lilo_model.specs.MinixNames.{Named, Refers, Sound}
use Rattle.lilo_model.specs.MinixWalk.{Visit}
use Rattle.lilo_model.specs.MinixSurvey.{Met, Reaches, Refers as RefersTo, Stands, Ends, Surveyable, surveyable, judged, was_reached, owner, names_of, is_indirect_at, is_indirect, root_spot, survey_walk, survey}
use Rattle.minix_survey_laws.specs.Survey.{NamesAt, EntryPlace, AllName}
use Rattle.minix_survey_laws.specs.Count.{HasNames}
use Rattle.minix_survey_laws.proofs.Paths.{named_law, places-of}
use Rattle.minix_survey_laws.proofs.Facts.{paths-of}
use Rattle.minix_sound_laws.specs.Laws.{HasNumbers, RefersIndirect, SaysVolume, MetLaw}
use Rattle.minix_sound_laws.proofs.Lists.{In, in-right, any-in, any-some}
use Rattle.minix_sound_laws.proofs.Walk.{fits-at, refers-reached, Grows, walk-grows}
use Rattle.minix_sound_laws.proofs.Good.{and-left, and-right, owner-none, owner-some}
use Rattle.minix_sound_laws.proofs.Places.{places_in, count-places, apart-places, each-in, place-of}
use Rattle.minix_sound_laws.proofs.Pointers.{zones-are}
use Rattle.minix_sound_laws.proofs.SoundStops.{pointed}
use Rattle.minix_sound_laws.proofs.OkSound.{sound, surveyed, level_of, places-bound, zone-at}
use Rattle.minix_sound_laws.proofs.SoundOk.{are-named, spot-named, met-at, names-of, zoned}
use Rattle.minix_sound_laws.proofs.Law.{survey-ok}

module _ (super : Super) (parts : Parts) (numbers : HasNumbers super parts) (met : List Met)
    (grows : Grows (surveyable super parts) [] met root_spot) (ok : judged (surveyable super parts) met ≡ Ok tt) where
  abbrev V : Surveyable
  V = surveyable super parts

  is-sound : Sound super parts
  is-sound = sound super parts numbers met grows ok

  named : (number : ℕ) → was_reached met number ≡ true → Named super parts number
  named = are-named super parts is-sound met (λ spot has. spot-named super parts is-sound met grows.fits spot has)

  -- ---- zones

  -- a zone that was met is referred to
  pub record IsReferred (number : ℕ) (visit : Visit) : Type 0 where
    pub at : Pointer
    pub refers : Refers super parts number at visit.zone
    pub indirect : visit.indirect ≡ nat_lt (length at.trail) (at.top - 6)

  referred : (number : ℕ) (visit : Visit) → In (RefersTo number (Ok visit)) met → IsReferred number visit
  referred number visit has =
      let there = fits-at V met grows.fits (RefersTo number (Ok visit)) has in
      let is = zoned super parts is-sound there.before number (Ok visit) there.fits _ refl in
      let list = sym (zones-are super parts number is) ∙ there.fits.split in
      let name = named number (refers-reached V met grows.fits number (Ok visit) has) in
      let to = pointed super parts is-sound number name is visit (subst (In (Ok visit)) (sym list) (in-right there.fits.earlier (Ok visit ∷ there.fits.later) (Ok visit) (inl refl))) in
      record { at = to.at; refers = record { named = name; to = to.to }; indirect = to.indirect }

  owned : (zone inode : ℕ) → owner met zone ≡ Some inode → (at : Pointer) × Refers super parts inode at zone
  owned zone inode is =
      let by = owner-some met zone inode is in
      let there = referred inode by.visit by.has in
      (there.at, subst (Refers super parts inode there.at) by.is there.refers)

  reached-named : (number : ℕ) → Named super parts number → was_reached met number ≡ true
  reached-named number name = named_law super parts (was_reached met) (level_of super parts numbers met grows ok) number (surveyed super parts numbers met grows ok) name

  free : (zone : ℕ) → owner met zone ≡ None → (number : ℕ) (at : Pointer) → Refers super parts number at zone → ⊥
  free zone none number at refers =
      let there = zone-at super parts numbers met grows ok number at zone (reached-named number refers.named) refers.to in
      owner-none met zone number there.visit none there.has there.same

  indirect-some : (zone : ℕ) (item : Met) → In item met → is_indirect_at zone item ≡ true → RefersIndirect super parts zone
  indirect-some zone (Reaches spot) has is = cc
  indirect-some zone (Stands directory place what) has is = cc
  indirect-some zone (Ends directory places) has is = cc
  indirect-some zone (RefersTo number (Err fault)) has is = cc
  indirect-some zone (RefersTo number (Ok visit)) has is =
      let there = referred number visit has in
      let same : visit.zone ≡ zone = eqb-true visit.zone zone (and-left (visit.zone == zone) visit.indirect is) in
      record {
        number = number;
        at = there.at;
        refers = subst (Refers super parts number there.at) same there.refers;
        short = ltb-true (length there.at.trail) (there.at.top - 6) (sym there.indirect ∙ and-right (visit.zone == zone) visit.indirect is);
      }

  indirect-to : (zone : ℕ) → is_indirect met zone ≡ true → RefersIndirect super parts zone
  unfolding is_indirect
  indirect-to zone is = let some = any-some (is_indirect_at zone) met is in indirect-some zone some.item some.has some.is

  indirect-from : (zone : ℕ) → RefersIndirect super parts zone → is_indirect met zone ≡ true
  unfolding is_indirect
  indirect-from zone to =
      let there = zone-at super parts numbers met grows ok to.number to.at zone (reached-named to.number to.refers.named) to.refers.to in
      let one : (there.visit.zone == zone) ≡ true = eq-eqb there.visit.zone zone there.same in
      let two : there.visit.indirect ≡ true = there.indirect ∙ lt-ltb (length to.at.trail) (to.at.top - 6) to.short in
      any-in (is_indirect_at zone) met (RefersTo to.number (Ok there.visit)) there.has (rw (one, two) refl)

  -- ---- names

  name-at : (inode : ℕ) (at : EntryPlace) → In at (places_in met inode) → NamesAt super parts (was_reached met) at.directory at.place inode
  name-at inode at has =
      let it = place-of met inode at has in
      let there = met-at super parts is-sound met grows.fits it.directory at.place it.what it.has in
      subst (λ n. NamesAt super parts (was_reached met) at.directory at.place n) it.names
      (subst (λ d. NamesAt super parts (was_reached met) d at.place it.what.inode) it.is (names-of super parts is-sound met it.directory at.place it.what there it.plain))

  names : (inode : ℕ) → inode ≢ 1 → HasNames super parts inode (names_of met inode)
  names inode other =
      let each : AllName super parts (was_reached met) inode (places_in met inode) =
      each-in (λ at. NamesAt super parts (was_reached met) at.directory at.place inode) (places_in met inode) (name-at inode) in
      let paths = paths-of super parts (was_reached met) is-sound named inode (places_in met inode) (apart-places V met inode grows.fits) each in
      record {
        paths = paths.paths;
        distinct = paths.distinct;
        lead = paths.leads;
        is = sym paths.count ∙ count-places met inode;
        most = λ others distinct lead.
            let places = places-of super parts (was_reached met) (level_of super parts numbers met grows ok) (surveyed super parts numbers met grows ok) inode others other distinct lead in
            subst (λ n. n ≤ names_of met inode) (sym places.count) (places-bound super parts numbers met grows ok inode places.all places.apart places.name);
      }

  pub says : SaysVolume super parts met
  says = record { owned = owned; free = free; names = names; indirect = λ zone. (indirect-to zone, indirect-from zone) }

pub met_law : MetLaw
unfolding survey
met_law super parts met numbers given =
    let both = survey-ok (surveyable super parts) met given in
    subst (SaysVolume super parts) both.1 (says super parts numbers (survey_walk (surveyable super parts)) (walk-grows (surveyable super parts)) both.0)
