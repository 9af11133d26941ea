-- What a loop over the zones of an inode keeps.
use Rattle.std.proofs.Common.{◌≡◌, ◌≤◌, ℕ, true, if◌then◌else◌, List, [], ◌∷◌, Result, Ok, Err, refl, sym, ◌∙◌, ap, subst, arith}
use Rattle.disk_trait.specs.declared.disks.Disks.{Ghosts}
use Rattle.disk_trait.specs.Past.{Image, Told}
use Rattle.lilo_model.specs.MinixLayout.{Super, Inode as NodeOf}
use Rattle.lilo_model.specs.MinixParts.{Parts, ZoneFault, parts_of, has_zones, ZoneOutside as Outside}
use Rattle.lilo_model.specs.MinixWalk.{Visit, visits}
use Rattle.lilo_model.specs.MinixSurvey.{Surveyable, Met, Refers, surveyable, judged, with_zones, zones_of}
use Rattle.minix_layout.specs.View.{kind_view, super_view, inode_view}
use Rattle.minix_layout.specs.declared.inode.Inode.{Inode}
use Rattle.minix_zones.specs.declared.visit.Visit as walked
use Rattle.minix_zones.specs.declared.volume.Volume.{Volume}
use Rattle.minix_zones.specs.declared.walk.Walk.{Walk}
use Rattle.minix_zones.specs.declared.zone_fault.ZoneFault.TheVariants as zones
use Rattle.minix_zones.specs.Volume.{volume_view, past_of, faults_of, SameVolume}
use Rattle.minix_zones.specs.Walk.{rest_of, visit_view}
use Rattle.minix_tree.specs.declared.tree_fault.TreeFault.TheVariants as trees
use Rattle.minix_zones.proofs.SameLemmas.{told_back}
use Rattle.minix_survey.specs.declared.survey_fault.SurveyFault.{SurveyFault}
use Rattle.minix_survey.specs.declared.survey_fault.SurveyFault.TheVariants as faults
use Rattle.minix_survey.specs.declared.tables.Tables.{Tables}
use Rattle.minix_survey.specs.Step.{Steps, Meets, AreGiven, IsWalkRefusal, seen_in}
use Rattle.minix_survey.specs.Tables.{Tells}
use Rattle.minix_survey.specs.View.{Refuses, HasSurveyCause}
use Rattle.minix_survey.proofs.GivenLemmas.{NoRefusal, blocks_given}
use Rattle.minix_survey.proofs.JudgeLemmas.{zone-refused}
use Rattle.minix_survey.proofs.RefusedLemmas.{bad-zones}
use Rattle.minix_survey.proofs.StepLemmas.{told_any, told_both, told_pair, same_refl, same_then, refuses_kept, cause_later}

-- what is met so far is good, the tables have it, and what is left makes it all
pub record Comes (volume : Surveyable) (tables : Tables) (all : List Met) (left : List Met → List Met) : Type 0 where
  pub met : List Met
  pub good : judged volume met ≡ Ok tt
  pub tells : Tells tables met
  pub is : all ≡ left met

-- a walk has met some zones of an inode, and none of them was refused
pub record Walks {D : Type 0} {disks : Ghosts D} (old new : Volume D disks) (before after : Tables) (inode : ℕ) (node : Inode) (walk : Walk) : Type 0 where
  pub comes : Told (past_of old) (λ now. (met : List Met) → Tells before met → judged (seen_in old now) met ≡ Ok tt
      → Comes (seen_in old now) after (with_zones inode (visits (super_view old.layout) (parts_of (volume_view old) now) (inode_view node)) met)
      (with_zones inode (rest_of (super_view old.layout) (parts_of (volume_view old) now) walk)))
  pub none : Told (past_of old) (λ now. NoRefusal (rest_of (super_view old.layout) (parts_of (volume_view old) now) walk)
      → NoRefusal (visits (super_view old.layout) (parts_of (volume_view old) now) (inode_view node)))
  pub later : faults_of old ≤ faults_of new
  pub same : SameVolume old new

-- the zones of an inode that has some
zones_are : (super : Super) (parts : Parts) (inode : ℕ) (node : NodeOf) → node ≡ parts.node inode → has_zones node ≡ true → zones_of (surveyable super parts) inode ≡ visits super parts node
zones_are super parts inode node is has =
    subst (λ (n : NodeOf). (if has_zones n then visits super parts n else []) ≡ visits super parts node) is (rw has refl)

module _ {D : Type 0} {disks : Ghosts D} (old : Volume D disks) (before : Tables) (inode : ℕ) (node : Inode) where
  abbrev visits_in : Image → List (Result Visit ZoneFault)
  visits_in now = visits (super_view old.layout) (parts_of (volume_view old) now) (inode_view node)

  abbrev rest_in : Walk → Image → List (Result Visit ZoneFault)
  rest_in walk now = rest_of (super_view old.layout) (parts_of (volume_view old) now) walk

  -- what the loop's first field says
  abbrev ComesIn : Tables → Walk → Image → Type 0
  ComesIn after walk now =
      (met : List Met) → Tells before met → judged (seen_in old now) met ≡ Ok tt
      → Comes (seen_in old now) after (with_zones inode (visits_in now) met) (with_zones inode (rest_in walk now))

  -- at the beginning
  pub walks-init : (walk : Walk) → ((super : Super) (parts : Parts) → super.kind ≡ kind_view old.layout.kind → rest_of super parts walk ≡ visits super parts (inode_view node))
      → Walks old old before before inode node walk
  walks-init walk begins = record {
    comes = told_any
        (past_of old)
        (ComesIn before walk)
        (λ now met tells good. record {
          met = met;
          good = good;
          tells = tells;
          is = ap (λ r. with_zones inode r met) (sym (begins (super_view old.layout) (parts_of (volume_view old) now) refl));
        });
    none = told_any
        (past_of old)
        (λ now. NoRefusal (rest_in walk now) → NoRefusal (visits_in now))
        (λ now none. subst NoRefusal (begins (super_view old.layout) (parts_of (volume_view old) now) refl) none);
    later = omega arith;
    same = same_refl old;
  }

  module _ (mid : Volume D disks) (after : Tables) (walk : Walk) (walks : Walks old mid before after inode node walk) where
    -- one more zone is met
    module _ (next : Walk) (visit : walked.Visit) (come : Volume D disks)
        (first : Told (past_of mid) (λ now. rest_of (super_view mid.layout) (parts_of (volume_view mid) now) walk ≡ Ok (visit_view visit) ∷ rest_of (super_view mid.layout) (parts_of (volume_view mid) now) next))
        (later : faults_of mid ≤ faults_of come) (same : SameVolume mid come) where
      -- as of the beginning
      first-in : Told (past_of old) (λ now. rest_in walk now ≡ Ok (visit_view visit) ∷ rest_in next now)
      first-in =
          told_back
          old
          mid
          (λ volume now. rest_of volume.layout (parts_of volume now) walk ≡ Ok (visit_view visit) ∷ rest_of volume.layout (parts_of volume now) next)
          walks.same
          first

      abbrev step_of : Surveyable → List Met → List Met
      step_of seen met = Refers inode (Ok (visit_view visit)) ∷ met

      meets-in : (new : Volume D disks) (result : Result (Unit {0}) SurveyFault) (last : Tables) → Steps come new after last result step_of
          → Told (past_of old) (λ now. Meets result after last (step_of (seen_in old now)) (seen_in old now))
      meets-in new result last steps =
          told_back
          old
          come
          (λ volume now. Meets result after last (step_of (surveyable volume.layout (parts_of volume now))) (surveyable volume.layout (parts_of volume now)))
          (same_then old mid come walks.same same)
          steps.meets

      pub walks-more : (new : Volume D disks) (last : Tables) → Steps come new after last (Ok tt) step_of → Walks old new before last inode node next
      walks-more new last steps = record {
        comes = told_both
            {A = λ now. ComesIn after walk now × (rest_in walk now ≡ Ok (visit_view visit) ∷ rest_in next now)}
            {B = λ now. Meets (Ok tt) after last (step_of (seen_in old now)) (seen_in old now)}
            {C = ComesIn last next}
            (past_of old)
            (λ now so meets met tells good.
            let was = so.0 met tells good in
            let made = meets was.met was.tells was.good in
            record {
              met = Refers inode (Ok (visit_view visit)) ∷ was.met;
              good = made.0;
              tells = made.1;
              is = was.is ∙ ap (λ r. with_zones inode r was.met) so.1;
            })
            (told_pair (past_of old) (ComesIn after walk) (λ now. rest_in walk now ≡ Ok (visit_view visit) ∷ rest_in next now) walks.comes first-in)
            (meets-in new (Ok tt) last steps);
        none = told_both
            {A = λ now. NoRefusal (rest_in walk now) → NoRefusal (visits_in now)}
            {B = λ now. rest_in walk now ≡ Ok (visit_view visit) ∷ rest_in next now}
            {C = λ now. NoRefusal (rest_in next now) → NoRefusal (visits_in now)}
            (past_of old)
            (λ now was is none. was (subst NoRefusal (sym is) none))
            walks.none
            first-in;
        later = omega (arith, walks.later, later, steps.later);
        same = same_then old come new (same_then old mid come walks.same same) steps.same;
      }

      -- or it is refused
      module _ (is : Told (past_of old) (λ now. inode_view node ≡ (parts_of (volume_view old) now).node inode)) (has : has_zones (inode_view node) ≡ true) where
        pub walks-stop : (new : Volume D disks) (last : Tables) (fault : SurveyFault) → Steps come new after last (Err fault) step_of
            → Steps old new before last (Err fault) (λ seen met. with_zones inode (zones_of seen inode) met)
        walks-stop new last fault steps = record {
          meets = told_both
              {A = λ now. ComesIn after walk now × ((rest_in walk now ≡ Ok (visit_view visit) ∷ rest_in next now) × (inode_view node ≡ (parts_of (volume_view old) now).node inode))}
              {B = λ now. Meets (Err fault) after last (step_of (seen_in old now)) (seen_in old now)}
              {C = λ now. Meets (Err fault) before last (λ met. with_zones inode (zones_of (seen_in old now) inode) met) (seen_in old now)}
              (past_of old)
              (λ now so meets met tells good.
              let was = so.0 met tells good in
              let all : with_zones inode (zones_of (seen_in old now) inode) met ≡ with_zones inode (rest_in next now) (Refers inode (Ok (visit_view visit)) ∷ was.met) =
              ap (λ z. with_zones inode z met) (zones_are (super_view old.layout) (parts_of (volume_view old) now) inode (inode_view node) so.1.1 has) ∙ was.is ∙ ap (λ r. with_zones inode r was.met) so.1.0 in
              refuses_kept fault _ _
              (λ refusal bad. ap (judged (seen_in old now)) all ∙ bad-zones (seen_in old now) refusal inode (rest_in next now) (Refers inode (Ok (visit_view visit)) ∷ was.met) bad)
              (meets was.met was.tells was.good))
              (told_pair (past_of old) (ComesIn after walk) (λ now. (rest_in walk now ≡ Ok (visit_view visit) ∷ rest_in next now) × (inode_view node ≡ (parts_of (volume_view old) now).node inode)) walks.comes
              (told_pair (past_of old) (λ now. rest_in walk now ≡ Ok (visit_view visit) ∷ rest_in next now) (λ now. inode_view node ≡ (parts_of (volume_view old) now).node inode) first-in is))
              (meets-in new (Err fault) last steps);
          cause = cause_later (faults_of old) (faults_of come) (faults_of new) (omega (arith, walks.later, later)) fault steps.cause;
          later = omega (arith, walks.later, later, steps.later);
          same = same_then old come new (same_then old mid come walks.same same) steps.same;
        }

    -- nothing is left, or the next zone is refused
    module _ (come : Volume D disks) (later : faults_of mid ≤ faults_of come) (same : SameVolume mid come)
        (is : Told (past_of old) (λ now. inode_view node ≡ (parts_of (volume_view old) now).node inode)) (has : has_zones (inode_view node) ≡ true) where
      last-by : (fault : SurveyFault) (now : Image) (met : List Met) → judged (seen_in old now) met ≡ Ok tt → (rest : List (Result Visit ZoneFault)) → IsWalkRefusal fault rest
          → Refuses fault (judged (seen_in old now) (with_zones inode rest met))
      last-by (faults.Tree (trees.Zone (zones.Layout fault))) now met good rest refused = absurd refused
      last-by (faults.Tree (trees.Zone (zones.ZoneOutside zone))) now met good rest refused =
          ap (λ r. judged (seen_in old now) (with_zones inode r met)) refused ∙ zone-refused (seen_in old now) met good inode (Outside zone)
      last-by (faults.Tree (trees.Zone zones.Device)) now met good rest refused = tt
      last-by (faults.Tree (trees.NotFound position)) now met good rest refused = absurd refused
      last-by (faults.Tree (trees.NotDirectory position)) now met good rest refused = absurd refused
      last-by (faults.Tree trees.NotFile) now met good rest refused = absurd refused
      last-by (faults.Tree trees.TooManyLinks) now met good rest refused = absurd refused
      last-by (faults.Tree (trees.BadEntry directory)) now met good rest refused = absurd refused
      last-by (faults.Tree trees.PathTooLong) now met good rest refused = absurd refused
      last-by (faults.Tree trees.Memory) now met good rest refused = absurd refused
      last-by faults.Memory now met good rest refused = absurd refused
      last-by (faults.Crossed zone one other) now met good rest refused = absurd refused
      last-by (faults.Unmarked zone) now met good rest refused = absurd refused
      last-by (faults.UnmarkedInode number) now met good rest refused = absurd refused
      last-by (faults.BadLink directory place) now met good rest refused = absurd refused
      last-by (faults.FewLinks number) now met good rest refused = absurd refused
      last-by faults.TooDeep now met good rest refused = absurd refused

      pub walks-refused : (fault : SurveyFault) → Told (past_of mid) (λ now. IsWalkRefusal fault (rest_of (super_view mid.layout) (parts_of (volume_view mid) now) walk))
          → HasSurveyCause (faults_of mid) (faults_of come) fault → Steps old come before after (Err fault) (λ seen met. with_zones inode (zones_of seen inode) met)
      walks-refused fault refused cause = record {
        meets = told_both
            {A = λ now. ComesIn after walk now × (inode_view node ≡ (parts_of (volume_view old) now).node inode)}
            {B = λ now. IsWalkRefusal fault (rest_in walk now)}
            {C = λ now. Meets (Err fault) before after (λ met. with_zones inode (zones_of (seen_in old now) inode) met) (seen_in old now)}
            (past_of old)
            (λ now so last met tells good.
            let was = so.0 met tells good in
            let all : with_zones inode (zones_of (seen_in old now) inode) met ≡ with_zones inode (rest_in walk now) was.met =
            ap (λ z. with_zones inode z met) (zones_are (super_view old.layout) (parts_of (volume_view old) now) inode (inode_view node) so.1 has) ∙ was.is in
            subst (λ m. Refuses fault (judged (seen_in old now) m)) (sym all) (last-by fault now was.met was.good (rest_in walk now) last))
            (told_pair (past_of old) (ComesIn after walk) (λ now. inode_view node ≡ (parts_of (volume_view old) now).node inode) walks.comes is)
            (told_back old mid (λ volume now. IsWalkRefusal fault (rest_of volume.layout (parts_of volume now) walk)) walks.same refused);
        cause = cause_later (faults_of old) (faults_of mid) (faults_of come) walks.later fault cause;
        later = omega (arith, walks.later, later);
        same = same_then old mid come walks.same same;
      }

      module _ (ended : Told (past_of mid) (λ now. rest_of (super_view mid.layout) (parts_of (volume_view mid) now) walk ≡ [])) where
        ended-in : Told (past_of old) (λ now. rest_in walk now ≡ [])
        ended-in = told_back old mid (λ volume now. rest_of volume.layout (parts_of volume now) walk ≡ []) walks.same ended

        pub walks-done : Steps old come before after (Ok tt) (λ seen met. with_zones inode (zones_of seen inode) met)
        walks-done = record {
          meets = told_both
              {A = λ now. ComesIn after walk now × (inode_view node ≡ (parts_of (volume_view old) now).node inode)}
              {B = λ now. rest_in walk now ≡ []}
              {C = λ now. Meets (Ok tt) before after (λ met. with_zones inode (zones_of (seen_in old now) inode) met) (seen_in old now)}
              (past_of old)
              (λ now so none met tells good.
              let was = so.0 met tells good in
              let all : with_zones inode (zones_of (seen_in old now) inode) met ≡ was.met =
              ap (λ z. with_zones inode z met) (zones_are (super_view old.layout) (parts_of (volume_view old) now) inode (inode_view node) so.1 has) ∙ was.is ∙ ap (λ r. with_zones inode r was.met) none in
              (ap (judged (seen_in old now)) all ∙ was.good, subst (Tells after) (sym all) was.tells))
              (told_pair (past_of old) (ComesIn after walk) (λ now. inode_view node ≡ (parts_of (volume_view old) now).node inode) walks.comes is)
              ended-in;
          cause = tt;
          later = omega (arith, walks.later, later);
          same = same_then old mid come walks.same same;
        }

        -- and each block is given
        pub walks-given : Told (past_of old) (λ now. AreGiven (seen_in old now) inode)
        walks-given = told_both
            {A = λ now. (NoRefusal (rest_in walk now) → NoRefusal (visits_in now)) × (inode_view node ≡ (parts_of (volume_view old) now).node inode)}
            {B = λ now. rest_in walk now ≡ []}
            {C = λ now. AreGiven (seen_in old now) inode}
            (past_of old)
            (λ now so none.
            let all : NoRefusal (visits_in now) = so.0 (subst NoRefusal (sym none) tt) in
            blocks_given (super_view old.layout) (parts_of (volume_view old) now) ((parts_of (volume_view old) now).node inode)
            (subst (λ n. NoRefusal (visits (super_view old.layout) (parts_of (volume_view old) now) n)) so.1 all))
            (told_pair (past_of old) (λ now. NoRefusal (rest_in walk now) → NoRefusal (visits_in now)) (λ now. inode_view node ≡ (parts_of (volume_view old) now).node inode) walks.none is)
            ended-in
