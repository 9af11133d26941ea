-- A part that installs by itself, whatever keys there are.
use Rattle.std.proofs.Common.{◌≡◌, ◌≢◌, ◌⊎◌, ◌∙◌, ◌==◌, ℕ, Bool, true, false, List, [], ◌∷◌, Option, Ok, IsTrue, inl, inr, refl, sym, ap, subst, subst₂}
use Rattle.std.proofs.lemmas.Bool.{eqb-true, ne_eqb}
use Rattle.disk_trait.specs.Past.{Past}
use Rattle.disk_trait.specs.declared.disks.Disks.{Ghosts}
use Rattle.lilo_model.specs.ConfVerdict.{conf_path}
use Rattle.lilo_model.specs.Devices.{Device}
use Rattle.lilo_model.specs.Disks.{Image, Machine}
use Rattle.lilo_model.specs.Prompt.{Key}
use Rattle.lilo_model.specs.Words.{Part, Install, run_at}
use Rattle.stream_trait.specs.Shows.{answer_of}
use Rattle.install_begin.specs.Begin.{begun_with}
use Rattle.install_run.proofs.HeadlineLemmas.{headline_by}
use Rattle.lilo_run.specs.Install.{HoldsHeadline, InstallDoes, InstallLeaves, IsInstallRun, PartLeaves, done_status}
use Rattle.lilo_run.specs.Run.{Carries, CarriedOut, LostBefore, LostAtCommit, LostAfter, Starved, Unheard, EndsAs, State, is_part_status}
use Rattle.lilo_run.specs.Verdict.{Left, install_effect, leaving}
use Rattle.lilo_run.proofs.InstallLemmas.{installation}

-- ---- what it leaves

module _ {D : Type 0} (g : Ghosts D) (image : Image) (machine : Machine) (root : Option Device) (path : List ℕ) (time : ℕ) (found : Left) where
  pub own_leaves :
      (own status : ℕ) (old new : D) → status ≡ own → EndsAs g (installation image machine root path time found) own old new
      → InstallDoes image machine root path time (g.past old) (g.past new) status
  own_leaves own status old new same ends =
      subst (InstallDoes image machine root path time (g.past old) (g.past new)) (sym same)
      (record {
        leaves =
            λ read is volume there quiet.
            let left = ends.begun read is volume there in record { settled = found.settled; leaves = left.leaves quiet; unsettled = left.unsettled };
        stays = record {
          unread = ends.unread;
          no_volume = ends.no_volume;
          read = λ read is volume there. let left = ends.begun read is volume there in record { refused = left.refused; outside = left.outside };
        };
      })

  -- whatever keys there are
  pub carried_leaves :
      (keys left : List Key) (own : ℕ) (old new : State D) → Carries g (leaving keys (install_effect image machine root path time found)) own left old new
      → InstallDoes image machine root path time (g.past old.disks) (g.past new.disks) own
  unfolding install_effect
  carried_leaves keys left own old new (CarriedOut done is ends) = own_leaves own own old.disks new.disks refl ends
  carried_leaves keys left own old new (LostBefore failed (ends, rose)) = own_leaves 8 own old.disks new.disks failed.answer ends
  carried_leaves keys left own old new (LostAtCommit failed (ends, rose)) = own_leaves 9 own old.disks new.disks failed.answer ends
  carried_leaves keys left own old new (LostAfter failed (ends, rose)) = own_leaves 10 own old.disks new.disks failed.answer ends
  carried_leaves keys left own old new (Starved failed ends) = own_leaves 13 own old.disks new.disks failed.answer ends
  carried_leaves keys left own old new (Unheard failed rose same) = absurd failed.shown

-- the headline is of what it leaves
pub headline_of : (image : Image) (machine : Machine) (root : Option Device) (path : List ℕ) (time : ℕ) (entry ended : Option Past) (status : ℕ)
    → InstallLeaves image machine root path time entry ended status → HoldsHeadline image machine root path entry ended status
headline_of image machine root path time entry ended status leaves = λ read is volume there quiet.
    let left = leaves read is volume there quiet in
    headline_by machine (begun_with read volume) left.settled time entry ended status left.leaves

-- ---- in the run

-- By the parts that are left: nothing was done yet, or the part answered 0, and none is left.
abbrev pub IsAlone : {D : Type 0} → Ghosts D → ℕ → List Part → List Part → D → D → Type 0
IsAlone g time parts rest start here =
    (part : Part) → parts ≡ part ∷ [] → ((rest ≡ part ∷ []) × (here ≡ start)) ⊎ ((rest ≡ []) × PartLeaves g time part 0 start here)

module _ {D : Type 0} (g : Ghosts D) (time : ℕ) (parts rest behind : List Part) (next : Part) (start here there : D) (alone : IsAlone g time parts rest start here)
    (is : rest ≡ next ∷ behind) (own : ℕ) (leaves : PartLeaves g time next own here there) where
  -- the part that was carried out is the one that there is
  alone-here : (part : Part) → parts ≡ part ∷ [] → (behind ≡ []) × PartLeaves g time part own start there
  alone-here part only = by (alone part only)
    where
      by : ((rest ≡ part ∷ []) × (here ≡ start)) ⊎ ((rest ≡ []) × PartLeaves g time part 0 start here) → (behind ≡ []) × PartLeaves g time part own start there
      by (inl (one, same)) =
          let both : next ∷ behind ≡ part ∷ [] = sym is ∙ one in
          let head : next ≡ part = cc in
          let tail : behind ≡ [] = cc in
          (tail, subst (λ (d : D). PartLeaves g time part own d there) same (subst (λ (p : Part). PartLeaves g time p own here there) head leaves))
      by (inr (none, left)) = let both : next ∷ behind ≡ [] = sym is ∙ none in absurd cc

  pub alone_more : own ≡ 0 → IsAlone g time parts behind start there
  alone_more zero part only =
      let done = alone-here part only in
      inr (done.0, subst (λ (n : ℕ). PartLeaves g time part n start there) zero done.1)

  pub alone_last : (status : ℕ) → done_status status ≡ own → (part : Part) → parts ≡ part ∷ [] → PartLeaves g time part (done_status status) start there
  alone_last status same part only = subst (λ (n : ℕ). PartLeaves g time part n start there) (sym same) (alone-here part only).1

pub alone_end : {D : Type 0} (g : Ghosts D) (time : ℕ) (parts rest : List Part) (start here : D) → IsAlone g time parts rest start here → rest ≡ []
    → (part : Part) → parts ≡ part ∷ [] → PartLeaves g time part 0 start here
alone_end g time parts rest start here alone none part only = by (alone part only)
  where
    by : ((rest ≡ part ∷ []) × (here ≡ start)) ⊎ ((rest ≡ []) × PartLeaves g time part 0 start here) → PartLeaves g time part 0 start here
    by (inl (one, same)) = let both : part ∷ [] ≡ [] = sym one ∙ none in absurd cc
    by (inr (none, left)) = left

-- a run of one part that installs, by its device and its path
pub of_run : (words : List (List ℕ)) (root : Option Device) (path : List ℕ) (P : Option Device → List ℕ → Type 0) → IsInstallRun words root path
    → ((part : Part) → run_at words ≡ Ok (part ∷ []) → part.command ≡ Install → P part.root (conf_path part.config)) → P root path
of_run words root path P (part, is, command, rooted, called) holds = subst₂ P rooted called (holds part is command)

-- ---- the status

-- the status of a part is what was done of it
pub done_answer : (own : ℕ) (failed : Bool) → IsTrue (is_part_status own) → done_status (answer_of own failed) ≡ own
done_answer own failed known = by (own == 0) failed refl
  where
    not-12 : (n : ℕ) → n ≡ 12 → is_part_status n ≡ false
    not-12 n same = rw same refl

    plain : (n : ℕ) → n ≢ 12 → done_status n ≡ n
    plain n other = rw (ne_eqb n 12 other) refl

    other : own ≢ 12
    other same = let clash : true ≡ false = sym known ∙ not-12 own same in cc

    by : (zero failed : Bool) → own == 0 ≡ zero → done_status (answer_of own failed) ≡ own
    by true true zero = let none : own ≡ 0 = eqb-true own 0 zero in rw none refl
    by true false zero = let same : answer_of own false ≡ own = rw zero refl in ap done_status same ∙ plain own other
    by false failed zero = let same : answer_of own failed ≡ own = rw zero refl in ap done_status same ∙ plain own other
