-- The removal of a name, from what it leads to on.
use Rattle.std.proofs.Common.{◌≡◌, ◌≤◌, ◌+◌, ℕ, Bool, true, false, List, ◌∷◌, Option, Some, None, Result, Ok, Err, OnOk, refl, sym, ◌∙◌, ap, subst, inl, inr, arith}
use Rattle.disk_trait.specs.declared.disks.Disks.{Ghosts}
use Rattle.disk_trait.specs.Past.{Past}
use Rattle.disk_trait.specs.Moments.{IsTold, IsQuiet}
use Rattle.disk_trait.specs.NotWritten.{NotWritten}
use Rattle.disk_trait.specs.Range.{IsOutside}
use Rattle.disk_trait.proofs.CallLemmas.{goes_on_join}
use Rattle.disk_trait.proofs.MomentLemmas.{on_ok}
use Rattle.disk_trait.proofs.NotWrittenLemmas.{not_written_none}
use Rattle.lilo_model.specs.MinixLayout.{reach, zone_sector}
use Rattle.lilo_model.specs.MinixNames.{reached, PointsTo}
use Rattle.lilo_model.specs.MinixParts.{Parts, Pointer, blocks_for}
use Rattle.minix_fill.proofs.FileLemmas.{off_file_kept}
use Rattle.minix_change_laws.specs.Only.{zone_of_entry}
use Rattle.minix_layout.specs.View.{super_view, inode_view}
use Rattle.minix_remove_laws.specs.Held.{held_name, is_removable, HoldsName}
use Rattle.minix_steps.specs.Written.{parts_now}
use Rattle.minix_steps.proofs.ReadyLemmas.{quiet_ready}
use Rattle.minix_steps.proofs.StepLemmas.{no_step}
use Rattle.minix_tree.specs.View.{HasTreeCause}
use Rattle.minix_tree.specs.declared.tree_fault.TreeFault.{TreeFault}
use Rattle.minix_tree.specs.declared.tree_fault.TreeFault.TheVariants as faults
use Rattle.minix_turns.specs.Joined.{Unseen}
use Rattle.minix_turns.proofs.JoinedLemmas.{steps_unseen, unseen_then_leads}
use Rattle.minix_choice.specs.View.{tree_refusal, zone_refusal}
use Rattle.minix_choice.specs.declared.write_fault.WriteFault.{WriteFault}
use Rattle.minix_choice.specs.declared.write_fault.WriteFault.TheVariants as refusals
use Rattle.minix_zones.specs.Volume.{past_of, faults_of, SameVolume}
use Rattle.minix_zones.specs.declared.volume.Volume.{Volume}
use Rattle.minix_zones.specs.declared.zone_fault.ZoneFault.{ZoneFault}
use Rattle.minix_zones.proofs.WriteLemmas.{keeps_same, keeps_join}
use Rattle.minix_remove.specs.Removed.{GainsNoZone, RemovesFile, IsOffRemoved, IsSomeTarget, Takes, AnswersRight, Removes}
use Rattle.minix_remove.specs.Target.{IsDirectoryNow, refusal_of, IsTarget, FindsTarget, GivesTarget}
use Rattle.minix_remove.specs.declared.target.Target.{Target}
use Rattle.minix_remove.proofs.MoveLemmas.{leads_none}
use Rattle.minix_remove.proofs.TakeLemmas.{leads_as}
use Rattle.minix_remove.proofs.TargetLemmas.{at_same, then_same, told_then, directory_then, parts_at}

-- ---- refusals

-- a refusal of the removal is one of a file
says-by : (parts : Parts) (held : Option ℕ) (fault : TreeFault) → refusal_of parts held ≡ Some fault → tree_refusal fault ≡ refusals.Tree fault
says-by parts None fault is =
    let P : TreeFault → Type 0 = λ f. tree_refusal f ≡ refusals.Tree f in
    let same : faults.NotFound 0 ≡ fault = cc in
    subst P same refl
says-by parts (Some number) fault is = by _ refl
  where
    by : (removable : Bool) → is_removable (parts.node number) ≡ removable → tree_refusal fault ≡ refusals.Tree fault
    by true may = let none : None ≡ Some fault = rw may at is in cc
    by false cannot =
        let other : Some faults.NotFile ≡ Some fault = rw cannot at is in
        let P : TreeFault → Type 0 = λ f. tree_refusal f ≡ refusals.Tree f in
        let same : faults.NotFile ≡ fault = cc in
        subst P same refl

-- ---- a volume that was only read

module _ {D : Type 0} {disks : Ghosts D} (start mid : Volume D disks) (directory : ℕ) (name : List ℕ) (same : SameVolume start mid) (later : faults_of start ≤ faults_of mid)
    (quiet : IsQuiet (past_of start)) (may : IsTold (past_of start) → IsDirectoryNow start directory) where
  pub quiet_then : IsQuiet (past_of mid)
  quiet_then = subst IsQuiet (sym same.same_disks.same_past) quiet

  pub unseen : Unseen start mid
  unseen = steps_unseen start mid quiet (λ told. (may told).sound) (no_step start mid (quiet_ready start quiet (λ told. (may told).sound)) same later)

  pub not_written_same : (d s : ℕ) → NotWritten (past_of start) (past_of mid) d s
  not_written_same d s = let N : Option Past → Type 0 = λ p. NotWritten (past_of start) p d s in subst N (sym same.same_disks.same_past) (not_written_none (past_of start) d s)

  -- ---- the name leads to nothing that may go

  module _ (fault : TreeFault) (cause : HasTreeCause (faults_of start) (faults_of mid) fault) where
    refused-right : FindsTarget start directory name (Err fault) → AnswersRight start mid directory name (Err (tree_refusal fault))
    refused-right (inl device) =
        let C : TreeFault → Type 0 = HasTreeCause (faults_of start) (faults_of mid) in
        inl (ap tree_refusal device, subst C device cause)
    refused-right (inr why) = inr (record {
      why = fault;
      is = why;
      says = says-by (parts_now start) (held_name (super_view start.layout) (parts_now start) directory name) fault why;
      same = same;
    })

    pub removes_refused : GivesTarget start directory name (Err fault) → Removes start mid directory name (Err (tree_refusal fault))
    removes_refused gives = record {
      leads = λ outer leads. leads_none start mid (name ∷ outer) None None (tree_refusal fault) unseen;
      file = λ told. tt;
      gains = λ told. tt;
      others = λ told number held d s off. not_written_same d s;
      answers = λ told. refused-right (gives told (may told));
      goes_on = unseen.goes_on;
      kept = unseen.kept;
    }

  -- ---- it leads to a file or a link

  pub target_then : (target : Target) → IsTarget start directory name target → IsTarget mid directory name target
  target_then target is = record {
    in_directory = directory_then start mid directory same is.in_directory;
    holds = then_same start mid same (λ view past. HoldsName view.layout (parts_at view past) directory target.place target.inode name) is.holds;
    held = then_same start mid same (λ view past. held_name view.layout (parts_at view past) directory name ≡ Some target.inode) is.held;
    lies = then_same start mid same (λ view past. zone_of_entry view.layout (parts_at view past) directory target.place ≡ target.zone) is.lies;
    reached = then_same start mid same (λ view past. blocks_for ((parts_at view past).node directory).size ≤ reach view.layout.kind) is.reached;
    node = then_same start mid same (λ view past. (parts_at view past).node target.inode ≡ inode_view target.node) is.node;
  }

  module _ (target : Target) (gives : GivesTarget start directory name (Ok target)) where
    is-target : IsTold (past_of start) → IsTarget start directory name target
    is-target told = gives told (may told)

    told-before : IsTold (past_of mid) → IsTold (past_of start)
    told-before told = subst IsTold same.same_disks.same_past told

    pub some_target : IsTold (past_of mid) → IsSomeTarget mid target
    some_target told = record { directory = directory; name = name; is = target_then target (is-target (told-before told)) }

    pub mid_target : IsTold (past_of mid) → IsTarget mid directory name target
    mid_target told = target_then target (is-target (told-before told))

    -- a number that the directory holds by the name is the target's
    which : IsTold (past_of start) → (number : ℕ) → held_name (super_view start.layout) (parts_now start) directory name ≡ Some number → target.inode ≡ number
    which told number held = let both : Some target.inode ≡ Some number = sym (is-target told).held ∙ held in cc

    off-then : (d s : ℕ) → IsOffRemoved start directory target.inode d s → IsOffRemoved mid directory target.inode d s
    off-then d s off = record {
      zones = then_same start mid same (λ view past. (at : Pointer) (zone : ℕ) → PointsTo view.layout (parts_at view past) directory at zone
          → IsOutside view.span.disk (view.span.start + zone_sector zone) 2 d s) off.zones;
      file = off_file_kept start mid target.inode (keeps_same start mid same) d s off.file;
    }

    module _ (new : Volume D disks) (result : Result (Unit {0}) ZoneFault) (answer : Result (Unit {0}) WriteFault) (so : (P : Type 0) → OnOk result P → OnOk answer P)
        (takes : Takes mid new directory name target result) (answers : IsTold (past_of start) → AnswersRight start new directory name answer) where
      removes-so : Removes start new directory name answer
      removes-so = record {
        leads = λ outer leads. unseen_then_leads start mid new (name ∷ outer) None None answer unseen
            (leads_as mid new (name ∷ outer) result answer so
            (takes.leads outer (λ told. then_same start mid same (λ view past. reached view.layout (parts_at view past) outer ≡ Some directory) (leads (told-before told)))));
        file = λ told. so _ (on_ok result _ _ (takes.file (told_then start mid same told)) (λ file number held.
            let back = at_same start mid same (λ view past. RemovesFile view.layout (parts_at view past) (parts_now new) directory target.inode) file in
            let F : ℕ → Type 0 = λ n. RemovesFile (super_view start.layout) (parts_now start) (parts_now new) directory n in
            subst F (which told number held) back));
        gains = λ told. so _ (on_ok result _ _ (takes.gains (told_then start mid same told)) (λ gains.
            at_same start mid same (λ view past. GainsNoZone view.layout (parts_at view past) (parts_now new) directory) gains));
        others = λ told number held d s off.
            let O : ℕ → Type 0 = λ n. IsOffRemoved start directory n d s in
            let off' = off-then d s (subst O (sym (which told number held)) off) in
            let N : Option Past → Type 0 = λ p. NotWritten p (past_of new) d s in
            subst N same.same_disks.same_past (takes.others (told_then start mid same told) d s off');
        answers = answers;
        goes_on = goes_on_join disks start.disks.now mid.disks.now new.disks.now unseen.goes_on takes.goes_on;
        kept = keeps_join start mid new (keeps_same start mid same) takes.kept;
      }

    pub removes_done : (new : Volume D disks) → Takes mid new directory name target (Ok tt) → Removes start new directory name (Ok tt)
    removes_done new takes = removes-so new (Ok tt) (Ok tt) (λ P p. p) takes (λ told.
        let is = is-target told in
        let R : Option ℕ → Option TreeFault = refusal_of (parts_now start) in
        let none : refusal_of (parts_now start) (Some target.inode) ≡ None = rw is.holds.removable refl in
        ap R is.held ∙ none)

    pub removes_failed : (new : Volume D disks) (fault : ZoneFault) → Takes mid new directory name target (Err fault) → Removes start new directory name (Err (zone_refusal fault))
    removes_failed new fault takes = removes-so new (Err fault) (Err (zone_refusal fault)) (λ P p. tt) takes (λ told.
        let device = takes.device (told_then start mid same told) in
        inl (ap zone_refusal device.0, λ below. let rose = device.1 below in omega (arith, later, rose)))
