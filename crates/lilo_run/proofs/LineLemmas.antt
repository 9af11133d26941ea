-- What is left of the disks by the parts of a run.
use Rattle.std.proofs.Common.{◌≡◌, ◌∙◌, ◌⊎◌, ℕ, inl, inr, ⊎_elim, List, [], ◌∷◌, Option, None, Some, Result, Ok, Err, refl, sym, ap, subst}
use Rattle.std.proofs.lemmas.List.Elements.{All-head, All-tail}
use Rattle.disk_trait.specs.declared.disks.Disks.{Ghosts}
use Rattle.disk_trait.specs.Past.{Image, Past, Told}
use Rattle.disk_trait.specs.Moments.{IsTold, now, IsQuiet, LeavesOnly}
use Rattle.disk_trait.specs.NotWritten.{NotWritten}
use Rattle.disk_trait.specs.Calls.{SameOf}
use Rattle.disk_trait.proofs.MomentLemmas.{leaves_none, leaves_weaker, leaves_join}
use Rattle.disk_trait.proofs.NotWrittenLemmas.{not_written_none, not_written_join}
use Rattle.lilo_model.specs.Prompt.{Key}
use Rattle.loader_core.specs.Leaves.{Puts, HasPut}
use Rattle.loader_core.proofs.LeavesLemmas.{lost_puts, lost_put}
use Rattle.loader_core.specs.Report.{LineWrite, image_with}
use Rattle.lilo_run.specs.Run.{Scene, Tells, TellsVerdict, TellsLost, TellsLostAtCommit, TellsLostAfter, TellsUnheard, TellsStarved, TellsCut, TellsRun, HoldsWritten, IsWritten, IsBeside, LeavesWritten, LeavesOthers, MakesBy, Makes, ComesBy, Comes, StarvesBy, Starves}
use Rattle.lilo_run.specs.Verdict.{Effect, Installation, run_image}
use Rattle.disk_trait.specs.declared.disks.Phase.{Phase}
use Rattle.disk_trait.specs.declared.disks.Phase.TheVariants.{Before, Commit, After}
use Rattle.loader_core.specs.Leaves.{CameTo}
use Rattle.lilo_run.proofs.RunLemmas.{put_now, makes_now}

-- what disks hold is what they hold before the first part
written_now : (parts : List Effect) (image : Image) → IsWritten parts image image
written_now [] image = refl
written_now (part ∷ parts) image = inl refl

-- what is left by the write of a part is what is held before it or after it
written_once :
    (part : Effect) (parts : List Effect) (image c : Image) → (c ≡ image) ⊎ (c ≡ image_with image part.write) → IsWritten (part ∷ parts) image c
written_once part parts image c (inl same) = inl same
written_once part parts image c (inr written) =
    inr (subst (λ held. IsWritten parts (image_with image part.write) held) (sym written) (written_now parts (image_with image part.write)))

module _ {D : Type 0} (g : Ghosts D) where
  -- ---- one write

  put_told : (old new : D) (write : Option LineWrite) → HasPut g old new write → IsTold (g.past old) → IsTold (g.past new)
  put_told old new None put told = subst (λ (p : Option Past). IsTold p) (sym put.same_past) told
  put_told old new (Some write) put told = put.writes.goes_on.told told

  makes_told : (old new : D) (part : Effect) → Makes g part 0 old new → IsTold (g.past old) → IsTold (g.past new)
  makes_told old new part makes told = by part.installs makes
    where
      by : (installs : Option Installation) → MakesBy g installs part.write 0 old new → IsTold (g.past new)
      by None put = put_told old new part.write put told
      by (Some found) ends = ends.goes_on.told told

  -- a part that doesn't install
  module _ (old new : D) (part : Effect) (none : part.installs ≡ None) where
    pub makes_put : (own : ℕ) → Makes g part own old new → HasPut g old new part.write
    makes_put own makes = subst (λ (installs : Option Installation). MakesBy g installs part.write own old new) none makes

    pub comes_to : (phase : Phase) → Comes g part phase old new → CameTo g old new part.write phase
    comes_to phase comes = subst (λ (installs : Option Installation). ComesBy g installs part.write phase old new) none comes

    pub starves_same : Starves g part old new → SameOf g old new
    starves_same starves = subst (λ (installs : Option Installation). StarvesBy g installs old new) none starves

  put_quiet : (old new : D) (write : Option LineWrite) → HasPut g old new write → IsQuiet (g.past old) → IsQuiet (g.past new)
  put_quiet old new None put quiet = subst (λ (p : Option Past). IsQuiet p) (sym put.same_past) quiet
  put_quiet old new (Some write) put quiet = put.flushed.quiet

  same_leaves : (old new : D) (P : Image → Type 0) → SameOf g old new → IsQuiet (g.past old) → P (now (g.past old)) → LeavesOnly (g.past old) (g.past new) P
  same_leaves old new P same quiet held =
      subst (λ (p : Option Past). LeavesOnly (g.past old) p P) (sym same.same_past)
      (leaves_none (g.past old) P (λ c left. subst P (sym (quiet c left)) held))

  puts_leave :
      {E : Type 0} → (old new : D) (part : Effect) (parts : List Effect) (result : Result (Unit {0}) E) → Puts g old new part.write result → IsQuiet (g.past old)
      → LeavesOnly (g.past old) (g.past new) (IsWritten (part ∷ parts) (now (g.past old)))
  puts_leave {E} old new part parts result puts quiet = by part.write refl puts
    where
      by :
          (write : Option LineWrite) → part.write ≡ write → Puts g old new write result
          → LeavesOnly (g.past old) (g.past new) (IsWritten (part ∷ parts) (now (g.past old)))
      by None is same = same_leaves old new (IsWritten (part ∷ parts) (now (g.past old))) same quiet (inl refl)
      by (Some write) is call =
          leaves_weaker (g.past old) (g.past new) _ _ (call.old_or_new quiet)
          (λ c with_or_without. written_once part parts (now (g.past old)) c
          (⊎_elim (λ same. inl same) (λ written. inr (written ∙ sym (ap (λ w. image_with (now (g.past old)) w) is))) with_or_without))

  puts_beside :
      {E : Type 0} → (old new : D) (write : Option LineWrite) (result : Result (Unit {0}) E) (d s : ℕ) → Puts g old new write result → IsBeside d s write
      → NotWritten (g.past old) (g.past new) d s
  puts_beside old new None result d s same beside =
      subst (λ (p : Option Past). NotWritten (g.past old) p d s) (sym same.same_past) (not_written_none (g.past old) d s)
  puts_beside old new (Some write) result d s call beside = call.writes.others d s beside

  same_beside : (old new : D) (d s : ℕ) → SameOf g old new → NotWritten (g.past old) (g.past new) d s
  same_beside old new d s same = puts_beside {E = Unit {0}} old new None (Ok tt) d s same tt

  -- ---- a run

  pub told_leaves :
      (parts : List Effect) (status : ℕ) (keys left : List Key) (old new : Scene D) → IsTold (g.past old.disks) → TellsRun g parts status keys left old new
      → LeavesWritten g parts old.disks new.disks
  told_leaves [] status keys left old new told none plain quiet =
      subst (λ disks. LeavesOnly (g.past old.disks) (g.past disks) (IsWritten [] (now (g.past old.disks)))) (sym none.disks)
      (leaves_none (g.past old.disks) _ (λ c left. quiet c left))
  told_leaves (part ∷ parts) status keys left old new told (inl ends) plain quiet = by ends.tells
    where
      first : part.installs ≡ None
      first = All-head (λ p. p.installs ≡ None) part parts plain

      put_of : (own : ℕ) → Makes g part own old.disks new.disks → HasPut g old.disks new.disks part.write
      put_of own makes = makes_put old.disks new.disks part first own makes

      came_to : (phase : Phase) → Comes g part phase old.disks new.disks → CameTo g old.disks new.disks part.write phase
      came_to phase comes = comes_to old.disks new.disks part first phase comes

      still : SameOf g old.disks new.disks → LeavesOnly (g.past old.disks) (g.past new.disks) (IsWritten (part ∷ parts) (now (g.past old.disks)))
      still same = same_leaves old.disks new.disks (IsWritten (part ∷ parts) (now (g.past old.disks))) same quiet (inl refl)

      by : Tells g part status left old new → LeavesOnly (g.past old.disks) (g.past new.disks) (IsWritten (part ∷ parts) (now (g.past old.disks)))
      by (TellsVerdict is kept printed put) = puts_leave {E = Unit {0}} old.disks new.disks part parts (Ok tt) (put_of status put) quiet
      by (TellsLost is printed came) = still (came_to Before came).same
      by (TellsLostAtCommit is printed came) =
          puts_leave {E = Unit {0}} old.disks new.disks part parts (Err tt) (lost_puts g old.disks new.disks part.write (came_to Commit came)) quiet
      by (TellsLostAfter is printed came) =
          puts_leave {E = Unit {0}} old.disks new.disks part parts (Ok tt) (lost_put g old.disks new.disks part.write (came_to After came)) quiet
      by (TellsUnheard is printed rose same) = still same
      by (TellsStarved is printed same) = still (starves_same old.disks new.disks part first same)
      by (TellsCut is zero kept rose front put) = puts_leave {E = Unit {0}} old.disks new.disks part parts (Ok tt) (put_of 0 put) quiet
  told_leaves (part ∷ parts) status keys left old new told (inr (mid, passed, rest)) plain quiet =
      let put = makes_put old.disks mid.disks part (All-head (λ p. p.installs ≡ None) part parts plain) 0 passed.wrote in
      let first = puts_leave {E = Unit {0}} old.disks mid.disks part parts (Ok tt) put quiet in
      let next = told_leaves parts status part.left left mid new (put_told old.disks mid.disks part.write put told) rest
      (All-tail (λ p. p.installs ≡ None) part parts plain) (put_quiet old.disks mid.disks part.write put quiet) in
      let later = subst (λ image. LeavesOnly (g.past mid.disks) (g.past new.disks) (IsWritten parts image)) (put_now g old.disks mid.disks part.write put told) next in
      leaves_join (g.past old.disks) (g.past mid.disks) (g.past new.disks) _ first
      (leaves_weaker (g.past mid.disks) (g.past new.disks) _ _ later (λ c written. inr written))

  pub told_others :
      (parts : List Effect) (status : ℕ) (keys left : List Key) (old new : Scene D) → TellsRun g parts status keys left old new
      → LeavesOthers g parts old.disks new.disks
  told_others [] status keys left old new none plain d s beside =
      subst (λ disks. NotWritten (g.past old.disks) (g.past disks) d s) (sym none.disks) (not_written_none (g.past old.disks) d s)
  told_others (part ∷ parts) status keys left old new (inl ends) plain d s beside = by ends.tells
    where
      no_installation : part.installs ≡ None
      no_installation = All-head (λ p. p.installs ≡ None) part parts plain

      put_of : (own : ℕ) → Makes g part own old.disks new.disks → HasPut g old.disks new.disks part.write
      put_of own makes = makes_put old.disks new.disks part no_installation own makes

      came_to : (phase : Phase) → Comes g part phase old.disks new.disks → CameTo g old.disks new.disks part.write phase
      came_to phase comes = comes_to old.disks new.disks part no_installation phase comes

      first : IsBeside d s part.write
      first = All-head (λ p. IsBeside d s p.write) part parts beside

      by : Tells g part status left old new → NotWritten (g.past old.disks) (g.past new.disks) d s
      by (TellsVerdict is kept printed put) = puts_beside {E = Unit {0}} old.disks new.disks part.write (Ok tt) d s (put_of status put) first
      by (TellsLost is printed came) = same_beside old.disks new.disks d s (came_to Before came).same
      by (TellsLostAtCommit is printed came) =
          puts_beside {E = Unit {0}} old.disks new.disks part.write (Err tt) d s (lost_puts g old.disks new.disks part.write (came_to Commit came)) first
      by (TellsLostAfter is printed came) =
          puts_beside {E = Unit {0}} old.disks new.disks part.write (Ok tt) d s (lost_put g old.disks new.disks part.write (came_to After came)) first
      by (TellsUnheard is printed rose same) = same_beside old.disks new.disks d s same
      by (TellsStarved is printed same) = same_beside old.disks new.disks d s (starves_same old.disks new.disks part no_installation same)
      by (TellsCut is zero kept rose front put) = puts_beside {E = Unit {0}} old.disks new.disks part.write (Ok tt) d s (put_of 0 put) first
  told_others (part ∷ parts) status keys left old new (inr (mid, passed, rest)) plain d s beside =
      let put = makes_put old.disks mid.disks part (All-head (λ p. p.installs ≡ None) part parts plain) 0 passed.wrote in
      not_written_join (g.past old.disks) (g.past mid.disks) (g.past new.disks) d s
      (puts_beside {E = Unit {0}} old.disks mid.disks part.write (Ok tt) d s put (All-head (λ p. IsBeside d s p.write) part parts beside))
      (told_others parts status part.left left mid new rest (All-tail (λ p. p.installs ≡ None) part parts plain) d s (All-tail (λ p. IsBeside d s p.write) part parts beside))

  pub told_holds :
      (parts : List Effect) (status : ℕ) (keys left : List Key) (old new : Scene D) → IsTold (g.past old.disks) → TellsRun g parts status keys left old new
      → status ≡ 0 → HoldsWritten g parts old.disks new.disks
  told_holds [] status keys left old new told none done = ap (λ disks. now (g.past disks)) none.disks
  told_holds (part ∷ parts) status keys left old new told (inl ends) done = absurd (ends.some done)
  told_holds (part ∷ parts) status keys left old new told (inr (mid, passed, rest)) done =
      told_holds parts status part.left left mid new (makes_told old.disks mid.disks part passed.wrote told) rest done
      ∙ ap (λ image. run_image image parts) (makes_now g old.disks mid.disks part passed.wrote told)

-- a fact of what disks hold gives another, which may use that they report it
pub told_using : (past : Option Past) (P Q : Image → Type 0) → (IsTold past → (image : Image) → P image → Q image) → Told past P → Told past Q
unfolding IsTold
told_using None P Q f holds = tt
told_using (Some past) P Q f holds = f tt _ holds
