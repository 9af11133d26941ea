-- What a turn leaves, where both what was held and that with the sector have a fact.
use Rattle.std.proofs.Common.{◌≡◌, ℕ, List, Option, Result, Ok, sym, subst, inl, inr, ⊎_elim}
use Rattle.disk_trait.specs.declared.disks.Disks.{Ghosts}
use Rattle.disk_trait.specs.Past.{Image}
use Rattle.disk_trait.specs.Moments.{IsTold, now, begun, IsQuiet, LeavesOnly}
use Rattle.disk_trait.proofs.CallLemmas.{goes_on_join}
use Rattle.disk_trait.proofs.LawLemmas.{quiet_begun}
use Rattle.disk_trait.proofs.MomentLemmas.{leaves_weaker, leaves_join, on_ok}
use Rattle.lilo_model.specs.MinixNames.{Thing, IsSound}
use Rattle.minix_change_laws.specs.Sees.{SeenAsIn}
use Rattle.minix_change_laws.specs.Tree.{HasTreeWith}
use Rattle.lilo_model.specs.MinixParts as model
use Rattle.minix_change_laws.specs.Beside.{Beside}
use Rattle.minix_change_laws.proofs.Seen.{seen_same_law, seen_beside_law, seen_join_law}
use Rattle.minix_change_laws.proofs.Tree.{tree_after_law, tree_before_law}
use Rattle.minix_steps.specs.Written.{with_sector_of}
use Rattle.minix_steps.specs.Steps.{IsReady, Steps}
use Rattle.minix_steps.proofs.ReadyLemmas.{quiet_ready}
use Rattle.minix_steps.proofs.StepLemmas.{leaves_told, same_view, beside_before, now_beside}
use Rattle.minix_turns.specs.Joined.{Unseen, SeenOrWith, LeadsPath}
use Rattle.minix_turns.specs.Turns.{WithOrWithout, Turns}
use Rattle.minix_zones.specs.Volume.{volume_view, past_of, KeepsVolume}
use Rattle.minix_zones.proofs.WriteLemmas.{keeps_join}
use Rattle.minix_zones.specs.declared.volume.Volume.{Volume}

module _ {D E : Type 0} {disks : Ghosts D} (old new : Volume D disks) (sector : ℕ) (bytes : List ℕ) (error : E) (result : Result (Unit {0}) E) (turns : Turns old new sector bytes error result) where
  abbrev With : Image
  With = with_sector_of (volume_view old) (now (past_of old)) sector bytes

  module _ (P : Image → Type 0) (before : IsTold (past_of old) → P (now (past_of old))) (after : IsTold (past_of old) → P With) where
    either : IsTold (past_of old) → (c : Image) → WithOrWithout (volume_view old) (now (past_of old)) sector bytes c → P c
    either told c (inl without) = subst P (sym without) (before told)
    either told c (inr with') = subst P (sym with') (after told)

    pub turn_leaves : LeavesOnly (past_of old) (past_of new) P
    turn_leaves = leaves_told (past_of old) (past_of new) _ P turns.any_moment (λ told c choice. either (turns.goes_on.told_before told) c choice)

    pub turn_holds : IsTold (past_of old) → P (now (past_of new))
    turn_holds told = ⊎_elim (λ with'. either told _ (inr with')) (λ without. either told _ (inl without)) (turns.made told)

  abbrev Seen : Image → Type 0
  Seen = SeenAsIn (volume_view old) (now (past_of old))

  pub turn_unseen : (IsTold (past_of old) → IsSound (volume_view old) (now (past_of old))) → (IsTold (past_of old) → Seen With) → Unseen old new
  turn_unseen sound after =
      let before : IsTold (past_of old) → Seen (now (past_of old)) = λ told. seen_same_law (volume_view old) (now (past_of old)) (sound told) in
      record { any_moment = turn_leaves Seen before after; held = turn_holds Seen before after; goes_on = turns.goes_on; kept = turns.kept }

  module _ (path : List (List ℕ)) (found : Option ℕ) (what : Option Thing) where
    abbrev Tree : Image → Type 0
    Tree c = HasTreeWith (volume_view old) (now (past_of old)) c path found what

    abbrev Either : Image → Type 0
    Either = SeenOrWith (volume_view old) (now (past_of old)) path found what

    pub turn_leads : (IsTold (past_of old) → IsSound (volume_view old) (now (past_of old))) → (IsTold (past_of old) → Tree With) → LeadsPath old new path found what result
    turn_leads sound after =
        let before : IsTold (past_of old) → Either (now (past_of old)) = λ told. inl (seen_same_law (volume_view old) (now (past_of old)) (sound told)) in
        record {
          any_moment = turn_leaves Either before (λ told. inr (after told));
          held = turn_holds Either before (λ told. inr (after told));
          done = λ told. on_ok result _ _ (turns.written told) (λ is. subst Tree (sym is) (after told));
          goes_on = turns.goes_on;
          kept = turns.kept;
        }

-- ---- in a row

-- what is said of a volume that was kept is said of it as it was
view-before : {D : Type 0} {disks : Ghosts D} (old mid : Volume D disks) (P : model.Volume → Type 0) → KeepsVolume old mid → P (volume_view mid) → P (volume_view old)
view-before old mid P kept = subst P (same_view old mid kept)

module _ {D : Type 0} {disks : Ghosts D} (old mid new : Volume D disks) where
  seen-after : Unseen old mid → IsTold (past_of old) → (c : Image) → SeenAsIn (volume_view mid) (now (past_of mid)) c → SeenAsIn (volume_view old) (now (past_of old)) c
  seen-after first told c seen =
      seen_join_law (volume_view old) (now (past_of old)) (now (past_of mid)) c (first.held told)
      (view-before old mid (λ view. SeenAsIn view (now (past_of mid)) c) first.kept seen)

  pub unseen_join : Unseen old mid → Unseen mid new → Unseen old new
  unseen_join first next = record {
    any_moment = leaves_join (past_of old) (past_of mid) (past_of new) _ first.any_moment
        (leaves_told (past_of mid) (past_of new) _ _ next.any_moment (λ told c. seen-after first (first.goes_on.told_before (next.goes_on.told_before told)) c));
    held = λ told. seen-after first told (now (past_of new)) (next.held (first.goes_on.told told));
    goes_on = goes_on_join disks old.disks.now mid.disks.now new.disks.now first.goes_on next.goes_on;
    kept = keeps_join old mid new first.kept next.kept;
  }

  module _ (path : List (List ℕ)) (found : Option ℕ) (what : Option Thing) where
    tree-after : Unseen old mid → IsTold (past_of old) → (c : Image) → HasTreeWith (volume_view mid) (now (past_of mid)) c path found what → HasTreeWith (volume_view old) (now (past_of old)) c path found what
    tree-after first told c tree =
        tree_after_law (volume_view old) (now (past_of old)) (now (past_of mid)) c path found what (first.held told)
        (view-before old mid (λ view. HasTreeWith view (now (past_of mid)) c path found what) first.kept tree)

    either-after : Unseen old mid → IsTold (past_of old) → (c : Image) → SeenOrWith (volume_view mid) (now (past_of mid)) path found what c → SeenOrWith (volume_view old) (now (past_of old)) path found what c
    either-after first told c (inl seen) = inl (seen-after first told c seen)
    either-after first told c (inr tree) = inr (tree-after first told c tree)

    pub unseen_then_leads : {E : Type 0} (result : Result (Unit {0}) E) → Unseen old mid → LeadsPath mid new path found what result → LeadsPath old new path found what result
    unseen_then_leads result first next = record {
      any_moment = leaves_join (past_of old) (past_of mid) (past_of new) _
          (leaves_weaker (past_of old) (past_of mid) _ _ first.any_moment (λ c seen. inl seen))
          (leaves_told (past_of mid) (past_of new) _ _ next.any_moment (λ told c. either-after first (first.goes_on.told_before (next.goes_on.told_before told)) c));
      held = λ told. either-after first told (now (past_of new)) (next.held (first.goes_on.told told));
      done = λ told. on_ok result _ _ (next.done (first.goes_on.told told)) (tree-after first told (now (past_of new)));
      goes_on = goes_on_join disks old.disks.now mid.disks.now new.disks.now first.goes_on next.goes_on;
      kept = keeps_join old mid new first.kept next.kept;
    }

    tree-before : {E : Type 0} → LeadsPath {E = E} old mid path found what (Ok tt) → IsTold (past_of old) → (c : Image) → SeenAsIn (volume_view mid) (now (past_of mid)) c → HasTreeWith (volume_view old) (now (past_of old)) c path found what
    tree-before first told c seen =
        tree_before_law (volume_view old) (now (past_of old)) (now (past_of mid)) c path found what (first.done told)
        (view-before old mid (λ view. SeenAsIn view (now (past_of mid)) c) first.kept seen)

    -- the change was made, whatever the later call answers
    pub leads_then_unseen : {E : Type 0} → LeadsPath {E = E} old mid path found what (Ok tt) → Unseen mid new → LeadsPath {E = E} old new path found what (Ok tt)
    leads_then_unseen first next = record {
      any_moment = leaves_join (past_of old) (past_of mid) (past_of new) _ first.any_moment
          (leaves_told (past_of mid) (past_of new) _ _ next.any_moment (λ told c seen. inr (tree-before first (first.goes_on.told_before (next.goes_on.told_before told)) c seen)));
      held = λ told. inr (tree-before first told (now (past_of new)) (next.held (first.goes_on.told told)));
      done = λ told. tree-before first told (now (past_of new)) (next.held (first.goes_on.told told));
      goes_on = goes_on_join disks old.disks.now mid.disks.now new.disks.now first.goes_on next.goes_on;
      kept = keeps_join old mid new first.kept next.kept;
    }

-- ---- steps

-- no name sees steps that begin at a quiet moment
module _ {D : Type 0} {disks : Ghosts D} (old new : Volume D disks) (quiet : IsQuiet (past_of old)) (sound : IsTold (past_of old) → IsSound (volume_view old) (now (past_of old))) (steps : Steps old new) where
  ready : IsReady old
  ready = quiet_ready old quiet sound

  begun-is : IsTold (past_of old) → begun (past_of old) ≡ now (past_of old)
  begun-is told = quiet_begun (past_of old) told quiet

  beside-seen : IsTold (past_of old) → (c : Image) → Beside (volume_view old) (begun (past_of old)) c → SeenAsIn (volume_view old) (now (past_of old)) c
  beside-seen told c beside =
      let P : Image → Type 0 = λ image. Beside (volume_view old) image c in
      seen_beside_law (volume_view old) (now (past_of old)) c (sound told) (subst P (begun-is told) beside)

  pub steps_unseen : Unseen old new
  steps_unseen = record {
    any_moment = leaves_told (past_of old) (past_of new) _ _ steps.any_moment (λ told c. beside-seen (steps.goes_on.told_before told) c);
    held = λ told. beside-seen told (now (past_of new)) (beside_before old new ready steps told (now (past_of new)) (now_beside new steps.ready (steps.goes_on.told told)));
    goes_on = steps.goes_on;
    kept = steps.kept;
  }
