-- What an installation finds, from what the calls below answered.
use Rattle.std.proofs.Common.{◌≡◌, Bool, true, List, Option, Some, None, Result, Ok, Err, refl, sym, ◌∙◌, ap, subst}
use Rattle.std.specs.Prelude.{IfSome, IfOk, is_some}
use Rattle.disk_trait.specs.declared.disks.Disks.{Ghosts}
use Rattle.disk_trait.specs.Past.{Image, Past, Told}
use Rattle.disk_trait.proofs.ToldLemmas.{told_map, told_both, told_three, told_all}
use Rattle.lilo_model.specs.Apart.{apart_checks}
use Rattle.lilo_model.specs.ConfOptions.{Opt}
use Rattle.lilo_model.specs.Checks.{◌>>=◌, require, with_fault}
use Rattle.lilo_model.specs.Conf.{Config}
use Rattle.lilo_model.specs.Devices.{Device}
use Rattle.lilo_model.specs.Disks.{Machine, Span}
use Rattle.lilo_model.specs.MinixNames.{names_in, Sound, IsSound}
use Rattle.lilo_model.specs.MinixParts.{Volume, parts_of}
use Rattle.lilo_model.specs.MinixSurvey.{Met, survey, survey_walk, surveyable}
use Rattle.lilo_model.specs.MinixSurvey.{SurveyFault as SurveyRefusal}
use Rattle.lilo_model.specs.MinixWalk.{visits}
use Rattle.lilo_model.specs.Settled as model
use Rattle.lilo_model.specs.Settled.{PathRefusal, is_foreign, own_names}
use Rattle.minix_survey.specs.Sound.{SaysSound}
use Rattle.minix_survey.specs.Step.{Finds}
use Rattle.minix_survey.specs.declared.findings.Findings.{Findings}
use Rattle.minix_survey.specs.declared.survey_fault.SurveyFault.{SurveyFault}
use Rattle.minix_layout.specs.View.{inode_view}
use Rattle.minix_tree.specs.View.{IsNode}
use Rattle.minix_tree.specs.declared.stat.Stat.{Stat}
use Rattle.minix_zones.specs.Volume.{volume_view, past_of, SameVolume}
use Rattle.minix_zones.specs.declared.volume.Volume as Disked
use Rattle.minix_zones.proofs.SameLemmas.{told_forth}
use Rattle.install_apart.specs.Apart as apart
use Rattle.install_apart.specs.Names.{is_replaceable}
use Rattle.install_apart.specs.Own.{GivesNames}
use Rattle.install_apart.specs.declared.fault.ApartFault.{ApartFault}
use Rattle.install_apart.specs.declared.fault.NameFault.{NameFault}
use Rattle.install_apart.specs.declared.own.OwnNames.{OwnNames}
use Rattle.install_laws.specs.InstallVerdict.{InstallRefusal, NotSound, NotApart, BadName, NoLink, may_settle, is_clear}
use Rattle.install_settle.specs.Found.{AreFound, IsToSettle, RefusesLinks}
use Rattle.install_settle.specs.declared.settling.SettleFault.{SettleFault}
use Rattle.present_map.specs.Clear.{IsFound, clear_answer}
use Rattle.present_map.specs.Old.{IsOldMap}
use Rattle.present_map.specs.declared.old_map.OldMapFault.{OldMapFault}
use Rattle.install_order.specs.Checks.{IsLaid, IsApartOn, GivesApart, IsPresent, GivesPresent, GivesRest, GivesExamined, begin_checks}
use Rattle.install_order.specs.Faults.{Refuses, survey_refusal, apart_refusal, name_refusal, settle_refusal, old_refusal}
use Rattle.install_order.specs.declared.examination.Examined.{Examined}
use Rattle.install_order.specs.declared.examination.Present.{Present}
use Rattle.install_order.specs.declared.fault.InstallFault.{InstallFault}
use Rattle.install_order.proofs.RefuseLemmas.{stopped, refuses-then, survey-refuses, apart-refuses, name-refuses, settle-refuses, old-stopped}

is-sound : (volume : Volume) (image : Image) → IsLaid volume image → Sound volume.layout (parts_of volume image) → IsSound volume image
unfolding IsSound
is-sound volume image laid parts = record { super = laid.super; whole = laid.whole; parts = parts }

module _ (past : Option Past) (machine : Machine) (volume : Volume) (config : Config) (boot : Device) where
  -- ---- the survey and what is apart

  pub not_surveyed : (fault : SurveyFault) → Told past (λ now. Finds (Err fault) volume.layout (parts_of volume now))
      → Told past (λ now. GivesApart now machine volume config boot (Err (survey_refusal fault)))
  not_surveyed fault told = told_map past _ _ (λ now finds.
      refuses-then (survey_refusal fault) (with_fault NotSound (survey volume.layout (parts_of volume now))) _ (survey-refuses fault (survey volume.layout (parts_of volume now)) finds)) told

  abbrev Surveyed : Findings → Image → Type 0
  Surveyed found now = (IsLaid volume now × SaysSound (Ok found) volume.layout (parts_of volume now)) × Finds (Ok found) volume.layout (parts_of volume now)

  pub surveyed : (found : Findings) → Told past (IsLaid volume) → Told past (λ now. SaysSound (Ok found) volume.layout (parts_of volume now))
      → Told past (λ now. Finds (Ok found) volume.layout (parts_of volume now)) → Told past (Surveyed found)
  surveyed found laid says finds = told_three past _ _ _ (Surveyed found) (λ now a b c. ((a, b), c)) laid says finds

  sound-by : (found : Findings) (now : Image) → Surveyed found now → IsSound volume now
  sound-by found now is = is-sound volume now is.0.0 is.0.1.0

  after-survey : {B : Type 0} (now : Image) (met : List Met) → survey volume.layout (parts_of volume now) ≡ Ok met → (more : Result B InstallRefusal)
      → (with_fault NotSound (survey volume.layout (parts_of volume now)) >>= λ met. more) ≡ more
  after-survey now met is more = ap (λ (s : Result (List Met) SurveyRefusal). with_fault NotSound s >>= λ met. more) is

  pub not_apart : (found : Findings) (fault : ApartFault) → Told past (Surveyed found)
      → Told past (λ now. IsSound volume now → apart.GivesApart (Err fault) (apart_checks now machine volume config boot))
      → Told past (λ now. GivesApart now machine volume config boot (Err (apart_refusal fault)))
  not_apart found fault was told = told_both past _ _ _ (λ now is gives.
      subst (Refuses (apart_refusal fault)) (sym (after-survey now _ is.1.0 (with_fault NotApart (apart_checks now machine volume config boot))))
      (apart-refuses fault (apart_checks now machine volume config boot) (gives (sound-by found now is)))) was told

  pub is_apart : (found : Findings) → Told past (Surveyed found)
      → Told past (λ now. IsSound volume now → apart.GivesApart (Ok tt) (apart_checks now machine volume config boot))
      → Told past (λ now. GivesApart now machine volume config boot (Ok found))
  is_apart found was told = told_both past _ _ _ (λ now is gives. record {
    sound = sound-by found now is;
    met = survey_walk (surveyable volume.layout (parts_of volume now));
    is = record { surveyed = is.1.0; found = is.1.1 };
    apart = gives (sound-by found now is);
  }) was told

  -- ---- the names

  module _ (span : Span) (foreign : Bool) (is_foreign_now : Told past (λ now. foreign ≡ is_foreign (now span.disk span.start))) where
    pub not_named : (fault : NameFault) → Told past (λ now. IsSound volume now → GivesNames volume.layout (parts_of volume now) (Err fault) (own_names (names_in volume now) config boot foreign))
        → Told past (λ now. IsSound volume now → GivesPresent now machine volume config boot span (Err (name_refusal fault)))
    not_named fault told = told_both past _ _ _ (λ now is gives sound.
        name-refuses fault (own_names (names_in volume now) config boot (is_foreign (now span.disk span.start)))
        (subst (λ (f : Bool). GivesNames volume.layout (parts_of volume now) (Err fault) (own_names (names_in volume now) config boot f)) is (gives sound))) is_foreign_now told

    pub is_named : (present : Present) → Told past (λ now. IsOldMap volume now machine span present.old)
        → Told past (λ now. IsSound volume now → GivesNames volume.layout (parts_of volume now) (Ok present.own) (own_names (names_in volume now) config boot foreign))
        → Told past (λ now. IsSound volume now → GivesPresent now machine volume config boot span (Ok present))
    is_named present old told = told_three past _ _ _ _ (λ now is map gives sound.
        let names = gives sound in
        record {
          names = names.names;
          are = ap (own_names (names_in volume now) config boot) (sym is) ∙ names.is;
          there = record { map = names.map; backup = names.backup };
          old = map;
        }) is_foreign_now old told

  -- ---- the whole

  module _ (span : Span) where
    -- the rest of the checks, from the names on
    abbrev After-names : Image → model.OwnNames → Result model.OwnNames InstallRefusal
    After-names now names =
        require (may_settle now machine volume (visits volume.layout (parts_of volume now)) span names.map) NoLink >>= λ b. Ok names

    abbrev After-apart : Image → Result model.OwnNames InstallRefusal
    After-apart now =
        with_fault BadName (own_names (names_in volume now) config boot (is_foreign (now span.disk span.start))) >>= λ names. After-names now names

    begin-is : (now : Image) → begin_checks now machine volume config boot span
        ≡ (with_fault NotSound (survey volume.layout (parts_of volume now)) >>= λ met. with_fault NotApart (apart_checks now machine volume config boot) >>= λ a. After-apart now)
    unfolding begin_checks
    begin-is now = refl

    refuses-deep : {A B C : Type 0} (fault : InstallFault) (one : Result A InstallRefusal) (two : Result B InstallRefusal) (more : Result C InstallRefusal)
        → Refuses fault (one >>= λ a. two) → Refuses fault (one >>= λ a. two >>= λ b. more)
    refuses-deep fault (Ok value) two more is = refuses-then fault two (λ b. more) is
    refuses-deep fault (Err refusal) two more is = is

    from-apart : (now : Image) (found : Findings) → IsApartOn now machine volume config boot found → begin_checks now machine volume config boot span ≡ After-apart now
    from-apart now found is =
        begin-is now
        ∙ (ap (λ (s : Result (List Met) SurveyRefusal). with_fault NotSound s >>= λ met. with_fault NotApart (apart_checks now machine volume config boot) >>= λ a. After-apart now) is.is.surveyed
        ∙ ap (λ (s : Result (Unit {0}) Opt). with_fault NotApart s >>= λ a. After-apart now) is.apart)

    from-names : (now : Image) (found : Findings) (present : Present) (is : IsApartOn now machine volume config boot found) (names : IsPresent now machine volume config boot span present)
        → begin_checks now machine volume config boot span ≡ After-names now names.names
    from-names now found present is names =
        from-apart now found is
        ∙ ap (λ (s : Result model.OwnNames PathRefusal). with_fault BadName s >>= λ names. After-names now names) names.are

    pub refused_first : (fault : InstallFault) → Told past (λ now. GivesApart now machine volume config boot (Err fault)) → Told past (λ now. GivesExamined now machine volume config boot span (Err fault))
    refused_first fault told = told_map past _ _ (λ now is.
        subst (Refuses fault) (sym (begin-is now))
        (refuses-deep fault (with_fault NotSound (survey volume.layout (parts_of volume now))) (with_fault NotApart (apart_checks now machine volume config boot)) (After-apart now) is)) told

    pub refused_second : (found : Findings) (fault : InstallFault) → Told past (λ now. IsApartOn now machine volume config boot found) → Told past (λ now. IsSound volume now → GivesPresent now machine volume config boot span (Err fault))
        → Told past (λ now. GivesExamined now machine volume config boot span (Err fault))
    refused_second found fault was told = told_both past _ _ _ (λ now is gives.
        subst (Refuses fault) (sym (from-apart now found is))
        (refuses-then fault (with_fault BadName (own_names (names_in volume now) config boot (is_foreign (now span.disk span.start)))) (After-names now) (gives is.sound))) was told

    module _ (found : Findings) (present : Present) (forced : Bool) (asked : is_some config.force_backup ≡ forced) where
      abbrev Rest : Result Examined InstallFault → Image → Type 0
      Rest result now =
          (names : model.OwnNames) (met : List Met) → IsSound volume now → AreFound volume.layout (parts_of volume now) names present.own → IsOldMap volume now machine span present.old
          → IsFound volume now found met → GivesRest now machine volume span names met forced result

      abbrev Both : Image → Type 0
      Both now = IsApartOn now machine volume config boot found × IsPresent now machine volume config boot span present

      pub both_found : Told past (λ now. IsApartOn now machine volume config boot found) → Told past (λ now. IsSound volume now → GivesPresent now machine volume config boot span (Ok present)) → Told past Both
      both_found was told = told_both past _ _ Both (λ now is gives. (is, gives is.sound)) was told

      -- the inodes of the map's names are as they were read
      pub plain_node : Told past Both → Told past (λ now. IfSome present.own.map.plain.there (λ stat. inode_view stat.node ≡ (parts_of volume now).node stat.inode))
      plain_node told = told_map past Both _ (λ now is. is.1.there.map.plain.node) told

      pub tilde_node : Told past Both → Told past (λ now. IfSome present.own.map.tilde.there (λ stat. inode_view stat.node ≡ (parts_of volume now).node stat.inode))
      tilde_node told = told_map past Both _ (λ now is. is.1.there.map.tilde.node) told

      rest-of : (result : Result Examined InstallFault) (now : Image) (is : Both now) → Rest result now → GivesRest now machine volume span is.1.names is.0.met forced result
      rest-of result now is rest = rest is.1.names is.0.met is.0.sound is.1.there is.1.old is.0.is

      pub refused_last : (fault : InstallFault) → Told past Both → Told past (Rest (Err fault)) → Told past (λ now. GivesExamined now machine volume config boot span (Err fault))
      refused_last fault was told = told_both past _ _ _ (λ now is rest.
          subst (Refuses fault) (sym (from-names now found present is.0 is.1))
          (refuses-then fault (require (may_settle now machine volume (visits volume.layout (parts_of volume now)) span is.1.names.map) NoLink) (λ b. Ok is.1.names) (rest-of (Err fault) now is rest))) was told

      pub is_examined : (all : Examined) → all.own ≡ present.own → all.old ≡ present.old → Told past Both → Told past (Rest (Ok all)) → Told past (λ now. GivesExamined now machine volume config boot span (Ok all))
      is_examined all own old was told = told_both past _ _ _ (λ now is rest.
          let last = rest-of (Ok all) now is rest in
          record {
            sound = is.0.sound;
            met = is.0.met;
            surveyed = is.0.is.surveyed;
            apart = is.0.apart;
            names = is.1.names;
            are = is.1.are;
            there = subst (λ (o : OwnNames). AreFound volume.layout (parts_of volume now) is.1.names o) (sym own) is.1.there;
            old = subst (IsOldMap volume now machine span) (sym old) is.1.old;
            settling = subst (λ (f : Bool). IsToSettle now machine volume span is.1.names f all.settling) (sym asked) last.settling;
            may = last.may;
            clear = last.clear;
          }) was told

      pub all_told : (result : Result Examined InstallFault) → IfOk result (λ all. (all.own ≡ present.own) × (all.old ≡ present.old)) → Told past Both → Told past (Rest result)
          → Told past (λ now. GivesExamined now machine volume config boot span result)
      all_told (Ok all) kept was told = is_examined all kept.0 kept.1 was told
      all_told (Err fault) kept was told = refused_last fault was told

-- what there is to settle, and whether the map is Clear
module _ (past : Option Past) (machine : Machine) (volume : Volume) (span : Span) (present : Present) (findings : Findings) (forced : Bool) where
  abbrev On : (Image → model.OwnNames → List Met → Type 0) → Image → Type 0
  On R now =
      (names : model.OwnNames) (met : List Met) → IsSound volume now → AreFound volume.layout (parts_of volume now) names present.own → IsOldMap volume now machine span present.old
      → IsFound volume now findings met → R now names met

  abbrev Settled : (Image → model.OwnNames → Type 0) → Image → Type 0
  Settled R now = (names : model.OwnNames) → IsSound volume now → AreFound volume.layout (parts_of volume now) names present.own → is_replaceable present.own.map.plain ≡ true → R now names

  abbrev May : Image → model.OwnNames → Bool
  May now names = may_settle now machine volume (visits volume.layout (parts_of volume now)) span names.map

  pub links_refused : (fault : SettleFault) → is_replaceable present.own.map.plain ≡ true → Told past (Settled (λ now names. RefusesLinks (Err fault) (May now names)))
      → Told past (On (λ now names met. GivesRest now machine volume span names met forced (Err (settle_refusal fault))))
  links_refused fault file told = told_map past _ _ (λ now so names met sound found old is. settle-refuses fault (May now names) (so names sound found file)) told

  pub clear_refused : (fault : OldMapFault) → Told past (On (λ now names met. GivesRest now machine volume span names met forced (Err (old_refusal fault))))
  clear_refused fault = told_all past _ (λ now names met sound found old is. stopped (old_refusal fault) (require (May now names) NoLink) (old-stopped fault))

  pub is_rest : (all : Examined) → is_replaceable present.own.map.plain ≡ true
      → Told past (Settled (λ now names. RefusesLinks (Ok all.settling) (May now names)))
      → Told past (Settled (λ now names. IsToSettle now machine volume span names forced all.settling))
      → Told past (λ now. (boot : Span) (met : List Met) → IsOldMap volume now machine boot present.old → IsFound volume now findings met → all.clear ≡ clear_answer present.old.foreign (is_clear volume now met machine boot))
      → Told past (On (λ now names met. GivesRest now machine volume span names met forced (Ok all)))
  is_rest all file may settles clear = told_three past _ _ _ _ (λ now one two three names met sound found old is. record {
    settling = two names sound found file;
    may = one names sound found file;
    clear = three span met old is ∙ ap (λ (f : Bool). clear_answer f (is_clear volume now met machine span)) old.foreign;
  }) may settles clear

-- an inode that was read is as it was after a call that left the volume alone
pub node_forth : {D : Type 0} {disks : Ghosts D} (old new : Disked.Volume D disks) (there : Option Stat) → SameVolume old new
    → Told (past_of old) (λ now. IfSome there (λ stat. inode_view stat.node ≡ (parts_of (volume_view old) now).node stat.inode)) → IfSome there (IsNode new)
node_forth old new None same told = tt
node_forth old new (Some stat) same told = told_forth old new (λ volume now. inode_view stat.node ≡ (parts_of volume now).node stat.inode) same told
