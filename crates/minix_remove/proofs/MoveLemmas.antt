-- A name that takes the place of another: what joins with changes that no name sees, and how it comes about.
use Rattle.std.proofs.Common.{◌≡◌, ◌≢◌, ℕ, List, ◌∷◌, Option, Some, None, option_map, Result, Ok, Err, OnOk, sym, ◌∙◌, ap, subst, subst₂, inl, inr}
use Rattle.disk_trait.specs.declared.disks.Disks.{Ghosts}
use Rattle.disk_trait.specs.Past.{Image}
use Rattle.disk_trait.specs.Moments.{IsTold, now}
use Rattle.disk_trait.proofs.CallLemmas.{goes_on_join, on_ok_held}
use Rattle.disk_trait.proofs.MomentLemmas.{leaves_weaker, leaves_join, on_ok}
use Rattle.lilo_model.specs.MinixNames.{Thing, thing, names, names_in, reached, Named, IsSound}
use Rattle.lilo_model.specs.MinixParts as model
use Rattle.lilo_model.specs.MinixParts.{Parts, parts_of}
use Rattle.minix_layout.specs.View.{super_view}
use Rattle.minix_change_laws.specs.Sees.{SeenAsIn}
use Rattle.minix_change_laws.specs.Tree.{HasTreeWith, HasTreeMoved}
use Rattle.minix_change_laws.proofs.Seen.{seen_sound_law, seen_join_law, seen_same_law}
use Rattle.minix_change_laws.proofs.Sees.{reached-same}
use Rattle.minix_change_laws.proofs.Tree.{keeps_join_law, tree_after_law, moved_tree_after_law, moved_tree_before_law}
use Rattle.minix_steps.specs.Written.{with_sector_of, parts_now}
use Rattle.minix_steps.proofs.StepLemmas.{leaves_told, same_view}
use Rattle.minix_turns.specs.Joined.{Unseen, SeenOrWith, LeadsPath}
use Rattle.minix_turns.specs.Replace.{IsReplacing, Replaces}
use Rattle.minix_turns.specs.Turns.{Turns}
use Rattle.minix_turns.proofs.JoinedLemmas.{turn_leaves, turn_holds}
use Rattle.minix_zones.specs.Volume.{volume_view, past_of}
use Rattle.minix_zones.specs.declared.volume.Volume.{Volume}
use Rattle.minix_zones.proofs.WriteLemmas.{keeps_join}
use Rattle.minix_remove.specs.Moves.{IsMoving, MovesPath}

-- ---- in images

module _ (volume : model.Volume) (old : Image) (former path : List (List ℕ)) where
  -- after what no name sees
  pub moving_after : (mid c : Image) → IsSound volume old → SeenAsIn volume old mid → IsMoving volume mid former path c → IsMoving volume old former path c
  moving_after mid c sound seen (inl same) = inl (seen_join_law volume old mid c seen same)
  moving_after mid c sound seen (inr (inl both)) =
      let leads : reached volume.layout (parts_of volume mid) former ≡ reached volume.layout (parts_of volume old) former =
      reached-same volume.layout (parts_of volume old) (parts_of volume mid) seen.sees former in
      let says : names_in volume mid former ≡ names_in volume old former = (seen_sound_law volume old mid sound seen).same former in
      let T : Option ℕ → Option Thing → Type 0 = λ found what. HasTreeWith volume old c path found what in
      inr (inl (record {
        stood = λ none. both.stood (reached-same volume.layout (parts_of volume old) (parts_of volume mid) seen.sees path ∙ none);
        tree = subst₂ T leads says (tree_after_law volume old mid c path _ _ seen both.tree);
      }))
  moving_after mid c sound seen (inr (inr moved)) = inr (inr (moved_tree_after_law volume old mid c former path seen moved))

  module _ (apart : former ≢ path) where
    -- an inode that has a name at last had it in between
    between : (mid c : Image) → HasTreeWith volume mid c former None None → (number : ℕ) → Named volume.layout (parts_of volume c) number → Named volume.layout (parts_of volume mid) number
    between mid c gone number named =
        let other : named.path ≢ former = λ same.
        let R : List (List ℕ) → Option ℕ = reached volume.layout (parts_of volume c) in
        let none : Some number ≡ None = sym named.leads ∙ (ap R same ∙ gone.tree.here) in cc in
        record { path = named.path; leads = sym (gone.tree.others named.path other) ∙ named.leads }

    -- a path that was led to where another leads, which then went
    pub led_moves : (mid c : Image) (number : ℕ) (what : Option Thing) → reached volume.layout (parts_of volume old) former ≡ Some number
        → HasTreeWith volume old mid path (Some number) what → HasTreeWith volume mid c former None None → HasTreeMoved volume old c former path
    led_moves mid c number what leads both gone = record {
      sound = gone.sound;
      tree = record {
        sound = gone.tree.sound;
        gone = gone.tree.here;
        here = gone.tree.others path (λ same. apart (sym same)) ∙ (both.tree.here ∙ sym leads);
        others = λ other from to. gone.tree.others other from ∙ both.tree.others other to;
        keeps = keeps_join_law volume.layout (parts_of volume old) (parts_of volume mid) (parts_of volume c) both.tree.keeps gone.tree.keeps (λ number' was now'. between mid c gone number' now');
      };
    }

    -- one of two paths to an inode that goes
    pub gone_moves : (c : Image) → reached volume.layout (parts_of volume old) path ≡ reached volume.layout (parts_of volume old) former
        → HasTreeWith volume old c former None None → HasTreeMoved volume old c former path
    gone_moves c same gone = record {
      sound = gone.sound;
      tree = record {
        sound = gone.tree.sound;
        gone = gone.tree.here;
        here = gone.tree.others path (λ e. apart (sym e)) ∙ same;
        others = λ other from to. gone.tree.others other from;
        keeps = gone.tree.keeps;
      };
    }

-- what a path leads to is what it is named
names-at : (volume : model.Volume) (image : Image) (path : List (List ℕ)) (number : ℕ) → reached volume.layout (parts_of volume image) path ≡ Some number
    → names_in volume image path ≡ Some (thing volume.layout (parts_of volume image) number)
unfolding names_in names
names-at volume image path number leads = let M : Option ℕ → Option Thing = option_map (thing volume.layout (parts_of volume image)) in ap M leads

-- ---- calls

-- no name sees a call that was refused
pub leads_none : {D E : Type 0} {disks : Ghosts D} (old new : Volume D disks) (path : List (List ℕ)) (found : Option ℕ) (what : Option Thing) (fault : E) → Unseen old new
    → LeadsPath old new path found what (Err fault)
leads_none old new path found what fault unseen = record {
  any_moment = leaves_weaker (past_of old) (past_of new) _ _ unseen.any_moment (λ c seen. inl seen);
  held = λ told. inl (unseen.held told);
  done = λ told. tt;
  goes_on = unseen.goes_on;
  kept = unseen.kept;
}

module _ {D : Type 0} {disks : Ghosts D} (old new : Volume D disks) (former path : List (List ℕ)) where
  abbrev Moving : Image → Type 0
  Moving = IsMoving (volume_view old) (now (past_of old)) former path

  abbrev Moved : Image → Type 0
  Moved c = HasTreeMoved (volume_view old) (now (past_of old)) c former path

  pub moves_none : {E : Type 0} (fault : E) → Unseen old new → MovesPath old new former path (Err fault)
  moves_none fault unseen = record {
    any_moment = leaves_weaker (past_of old) (past_of new) _ Moving unseen.any_moment (λ c seen. inl seen);
    held = λ told. inl (unseen.held told);
    done = λ told. tt;
    goes_on = unseen.goes_on;
    kept = unseen.kept;
  }

  -- another answer, which is Ok where this one is
  pub moves_as : {E F : Type 0} (result : Result (Unit {0}) E) (answer : Result (Unit {0}) F) → ((P : Type 0) → OnOk result P → OnOk answer P)
      → MovesPath old new former path result → MovesPath old new former path answer
  moves_as result answer so moves = record {
    any_moment = moves.any_moment;
    held = moves.held;
    done = λ told. so _ (moves.done told);
    goes_on = moves.goes_on;
    kept = moves.kept;
  }

  -- one of two paths to an inode goes
  pub leads_moves : {E : Type 0} (result : Result (Unit {0}) E) → (IsTold (past_of old) → former ≢ path)
      → (IsTold (past_of old) → reached (super_view old.layout) (parts_now old) path ≡ reached (super_view old.layout) (parts_now old) former)
      → LeadsPath old new former None None result → MovesPath old new former path result
  leads_moves result apart same leads =
      let by : IsTold (past_of old) → (c : Image) → SeenOrWith (volume_view old) (now (past_of old)) former None None c → Moving c =
      λ told c either. case_of told c either in
      record {
        any_moment = leaves_told (past_of old) (past_of new) _ Moving leads.any_moment (λ told c either. by (leads.goes_on.told_before told) c either);
        held = λ told. by told _ (leads.held told);
        done = λ told. on_ok result _ _ (leads.done told) (λ gone. gone_moves (volume_view old) (now (past_of old)) former path (apart told) _ (same told) gone);
        goes_on = leads.goes_on;
        kept = leads.kept;
      }
    where
      case_of : IsTold (past_of old) → (c : Image) → SeenOrWith (volume_view old) (now (past_of old)) former None None c → Moving c
      case_of told c (inl seen) = inl seen
      case_of told c (inr gone) = inr (inr (gone_moves (volume_view old) (now (past_of old)) former path (apart told) c (same told) gone))

  -- a sector that makes the change
  pub turn_moves : {E : Type 0} (sector : ℕ) (bytes : List ℕ) (error : E) (result : Result (Unit {0}) E) → Turns old new sector bytes error result
      → (IsTold (past_of old) → IsSound (volume_view old) (now (past_of old))) → (IsTold (past_of old) → Moved (with_sector_of (volume_view old) (now (past_of old)) sector bytes))
      → MovesPath old new former path result
  turn_moves sector bytes error result turns sound after =
      let before : IsTold (past_of old) → Moving (now (past_of old)) = λ told. inl (seen_same_law (volume_view old) (now (past_of old)) (sound told)) in
      record {
        any_moment = turn_leaves old new sector bytes error result turns Moving before (λ told. inr (inr (after told)));
        held = turn_holds old new sector bytes error result turns Moving before (λ told. inr (inr (after told)));
        done = λ told. on_ok result _ _ (turns.written told) (λ is. subst Moved (sym is) (after told));
        goes_on = turns.goes_on;
        kept = turns.kept;
      }

-- one name that replaces another in the same directory
module _ {D E : Type 0} {disks : Ghosts D} (old new : Volume D disks) (outer : List (List ℕ)) (former number : ℕ) (to from : List ℕ) (result : Result (Unit {0}) E)
    (replaces : Replaces old new outer former number to from result) (apart : IsTold (past_of old) → from ∷ outer ≢ to ∷ outer)
    (leads : IsTold (past_of old) → reached (super_view old.layout) (parts_now old) (from ∷ outer) ≡ Some number)
    (stood : IsTold (past_of old) → reached (super_view old.layout) (parts_now old) (to ∷ outer) ≡ Some former) where
  abbrev View : model.Volume
  View = volume_view old

  replacing : IsTold (past_of old) → (c : Image) → IsReplacing View (now (past_of old)) outer former number to from c → IsMoving View (now (past_of old)) (from ∷ outer) (to ∷ outer) c
  replacing told c (inl seen) = inl seen
  replacing told c (inr (inl both)) =
      let T : Option ℕ → Option Thing → Type 0 = λ found what. HasTreeWith View (now (past_of old)) c (to ∷ outer) found what in
      let somewhere : reached (super_view old.layout) (parts_now old) (to ∷ outer) ≢ None = λ none. let e : Some former ≡ None = sym (stood told) ∙ none in cc in
      inr (inl (record {
        stood = somewhere;
        tree = subst₂ T (sym (leads told)) (sym (names-at View (now (past_of old)) (from ∷ outer) number (leads told))) both;
      }))
  replacing told c (inr (inr (mid, is))) = inr (inr (led_moves View (now (past_of old)) (from ∷ outer) (to ∷ outer) (apart told) mid c number _ (leads told) is.both is.gone))

  pub replaces_moves : MovesPath old new (from ∷ outer) (to ∷ outer) result
  replaces_moves = record {
    any_moment = leaves_told (past_of old) (past_of new) _ _ replaces.any_moment (λ told c choice. replacing (replaces.goes_on.told_before told) c choice);
    held = λ told. replacing told _ (replaces.held told);
    done = λ told. on_ok result _ _ (replaces.done told)
        (λ is. led_moves View (now (past_of old)) (from ∷ outer) (to ∷ outer) (apart told) is.0 _ number _ (leads told) is.1.both is.1.gone);
    goes_on = replaces.goes_on;
    kept = replaces.kept;
  }

-- ---- in a row

module _ {D : Type 0} {disks : Ghosts D} (old mid new : Volume D disks) (former path : List (List ℕ)) where
  moving-after : Unseen old mid → IsTold (past_of old) → IsSound (volume_view old) (now (past_of old)) → (c : Image) → IsMoving (volume_view mid) (now (past_of mid)) former path c
      → IsMoving (volume_view old) (now (past_of old)) former path c
  moving-after first told sound c moving =
      let M : model.Volume → Type 0 = λ view. IsMoving view (now (past_of mid)) former path c in
      moving_after (volume_view old) (now (past_of old)) former path (now (past_of mid)) c sound (first.held told) (subst M (same_view old mid first.kept) moving)

  pub unseen_then_moves : {E : Type 0} (result : Result (Unit {0}) E) → (IsTold (past_of old) → IsSound (volume_view old) (now (past_of old))) → Unseen old mid
      → MovesPath mid new former path result → MovesPath old new former path result
  unseen_then_moves result sound first next = record {
    any_moment = leaves_join (past_of old) (past_of mid) (past_of new) _
        (leaves_weaker (past_of old) (past_of mid) _ _ first.any_moment (λ c seen. inl seen))
        (leaves_told (past_of mid) (past_of new) _ _ next.any_moment
        (λ told c. let before = first.goes_on.told_before (next.goes_on.told_before told) in moving-after first before (sound before) c));
    held = λ told. moving-after first told (sound told) (now (past_of new)) (next.held (first.goes_on.told told));
    done = λ told. on_ok result _ _ (next.done (first.goes_on.told told)) (λ moved.
        let M : model.Volume → Type 0 = λ view. HasTreeMoved view (now (past_of mid)) (now (past_of new)) former path in
        moved_tree_after_law (volume_view old) (now (past_of old)) (now (past_of mid)) (now (past_of new)) former path (first.held told) (subst M (same_view old mid first.kept) moved));
    goes_on = goes_on_join disks old.disks.now mid.disks.now new.disks.now first.goes_on next.goes_on;
    kept = keeps_join old mid new first.kept next.kept;
  }

  moved-before : {E : Type 0} → MovesPath {E = E} old mid former path (Ok tt) → IsTold (past_of old) → (c : Image) → SeenAsIn (volume_view mid) (now (past_of mid)) c
      → HasTreeMoved (volume_view old) (now (past_of old)) c former path
  moved-before first told c seen =
      let S : model.Volume → Type 0 = λ view. SeenAsIn view (now (past_of mid)) c in
      moved_tree_before_law (volume_view old) (now (past_of old)) (now (past_of mid)) c former path (first.done told) (subst S (same_view old mid first.kept) seen)

  -- the change was made, whatever the later call answers
  pub moves_then_unseen : {E F : Type 0} (answer : Result (Unit {0}) F) → MovesPath {E = E} old mid former path (Ok tt) → Unseen mid new → MovesPath old new former path answer
  moves_then_unseen answer first next = record {
    any_moment = leaves_join (past_of old) (past_of mid) (past_of new) _ first.any_moment
        (leaves_told (past_of mid) (past_of new) _ _ next.any_moment
        (λ told c seen. inr (inr (moved-before first (first.goes_on.told_before (next.goes_on.told_before told)) c seen))));
    held = λ told. inr (inr (moved-before first told (now (past_of new)) (next.held (first.goes_on.told told))));
    done = λ told. on_ok_held answer _ (moved-before first told (now (past_of new)) (next.held (first.goes_on.told told)));
    goes_on = goes_on_join disks old.disks.now mid.disks.now new.disks.now first.goes_on next.goes_on;
    kept = keeps_join old mid new first.kept next.kept;
  }
