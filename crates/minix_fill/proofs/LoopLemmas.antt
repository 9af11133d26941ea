-- The loop that clears the bits of the zones that a walk meets.
use Rattle.std.proofs.Common.{◌≡◌, ◌≤◌, ◌++◌, ℕ, List, [], ◌∷◌, Option, Some, None, Result, Ok, Err, IfErr, refl, sym, ◌∙◌, ap, subst, inl, arith}
use Rattle.disk_trait.specs.declared.disks.Disks.{Ghosts}
use Rattle.disk_trait.specs.Past.{Image, Told}
use Rattle.disk_trait.specs.Moments.{IsTold}
use Rattle.disk_trait.proofs.MomentLemmas.{told_now}
use Rattle.lilo_model.specs.MinixLayout.{Inode}
use Rattle.lilo_model.specs.MinixParts as model
use Rattle.lilo_model.specs.MinixParts.{Parts, parts_of}
use Rattle.lilo_model.specs.MinixWalk as walks
use Rattle.lilo_model.specs.MinixWalk.{visits}
use Rattle.minix_layout.specs.View.{super_view}
use Rattle.minix_layout.specs.declared.superblock.Super.{Super}
use Rattle.minix_sound_laws.proofs.Lists.{In, in-right}
use Rattle.minix_sound_laws.proofs.Stops.{in-contains}
use Rattle.minix_steps.specs.Steps.{IsReady, IsUnusedZone, Steps}
use Rattle.minix_steps.specs.Written.{parts_now}
use Rattle.minix_steps.proofs.StepLemmas.{no_step}
use Rattle.minix_zones.specs.View.{HasZoneCause}
use Rattle.minix_zones.specs.Volume.{volume_view, past_of, faults_of, SameVolume, HasDeviceCause}
use Rattle.minix_zones.specs.Walk.{rest_of, visit_view, Meets}
use Rattle.minix_zones.specs.declared.visit.Visit.{Visit}
use Rattle.minix_zones.specs.declared.volume.Volume.{Volume}
use Rattle.minix_zones.specs.declared.walk.Walk.{Walk}
use Rattle.minix_zones.specs.declared.zone_fault.ZoneFault.{ZoneFault}
use Rattle.minix_zones.specs.declared.zone_fault.ZoneFault.TheVariants.{Layout, ZoneOutside, Device}
use Rattle.minix_zones.proofs.WriteLemmas.{keeps_same}
use Rattle.minix_fill.specs.Changes.{Changes, IsOffMaps}
use Rattle.minix_fill.specs.Freed.{zones_met, ZonesCleared, ClearsZone, ClearsMet, MayClear}
use Rattle.minix_fill.proofs.ChangeLemmas.{off_maps_kept, changes_weaker, changes_as, changes_failed, changes_none, changes_join, SameParts}
use Rattle.minix_fill.proofs.FreedLemmas.{cleared_none, cleared_more, zones_last}
use Rattle.minix_fill.proofs.WalkLemmas.{rest_same}

-- the zones that were met have their bits cleared, and the others are left to meet
pub record ClearedUpTo (inode : Inode) (walk : Walk) (volume : model.Volume) (old new : Parts) : Type 0 where
  pub met : List (Result walks.Visit model.ZoneFault)
  pub split : visits volume.layout old inode ≡ met ++ rest_of volume.layout old walk
  pub cleared : ZonesCleared volume old new (zones_met met)

abbrev pub Clears : {D : Type 0} {disks : Ghosts D} → Volume D disks → Volume D disks → Inode → Walk → Type 0
Clears old new inode walk = Changes old new (IsOffMaps old) (ClearedUpTo inode walk) (Ok tt)

move : {X : Type 0} (xs : List X) (y : X) (ys : List X) → xs ++ (y ∷ ys) ≡ (xs ++ (y ∷ [])) ++ ys
move [] y ys = refl
move (x ∷ xs) y ys = ap (λ l. x ∷ l) (move xs y ys)

none_left : {X : Type 0} (xs : List X) → xs ++ [] ≡ xs
none_left [] = refl
none_left (x ∷ xs) = ap (λ l. x ∷ l) (none_left xs)

module _ {D : Type 0} {disks : Ghosts D} (old : Volume D disks) (inode : Inode) (ready : IsReady old) where
  pub clears_init : (walk : Walk) → rest_of (super_view old.layout) (parts_now old) walk ≡ visits (super_view old.layout) (parts_now old) inode → Clears old old inode walk
  clears_init walk is =
      let same : SameVolume old old = record {
        same_disks = record { same_past = refl; same_size = refl; same_count = refl; same_geometry = refl };
        same_span = refl;
        same_layout = refl;
        same_reference = refl;
      } in
      let none = changes_none old old (IsOffMaps old) (Ok tt) ready same (omega arith) (λ told. tt) tt in
      changes_as old old (IsOffMaps old) SameParts (Ok tt) (ClearedUpTo inode walk)
      (λ told same'. record { met = []; split = sym is; cleared = cleared_none (volume_view old) (parts_now old) }) none

  -- ---- a turn

  module _ (here : Volume D disks) (walk : Walk) (invariant : Clears old here inode walk)
      (next : Volume D disks) (later : faults_of here ≤ faults_of next) (same : SameVolume here next) where
    -- the walk's answer read nothing else
    reads : Steps here next
    reads = no_step here next invariant.steps.ready same later

    pub next_ready : IsReady next
    next_ready = reads.ready

    told_old : IsTold (past_of next) → IsTold (past_of old)
    told_old told = invariant.steps.goes_on.told_before (reads.goes_on.told_before told)

    -- what is left, as it was at the start
    left_same : IsTold (past_of old) → (any : Walk) → rest_of (super_view here.layout) (parts_now here) any ≡ rest_of (super_view old.layout) (parts_now old) any
    left_same told any =
        let S : Super → List (Result walks.Visit model.ZoneFault) = λ layout. rest_of (super_view layout) (parts_now here) any in
        ap S invariant.steps.kept.same_layout ∙ rest_same (super_view old.layout) (parts_now old) (parts_now here) (invariant.changed told).cleared.bytes any

    met_now : (result : Result (Option Visit) ZoneFault) (walk' : Walk)
        → Told (past_of here) (λ now. Meets result (rest_of (super_view here.layout) (parts_of (volume_view here) now) walk) (rest_of (super_view here.layout) (parts_of (volume_view here) now) walk'))
        → IsTold (past_of old) → Meets result (rest_of (super_view old.layout) (parts_now old) walk) (rest_of (super_view old.layout) (parts_now old) walk')
    met_now result walk' meets told =
        let M : Image → Type 0 = λ now. Meets result (rest_of (super_view here.layout) (parts_of (volume_view here) now) walk) (rest_of (super_view here.layout) (parts_of (volume_view here) now) walk') in
        let A : List (Result walks.Visit model.ZoneFault) → Type 0 = λ before. Meets result before (rest_of (super_view here.layout) (parts_now here) walk') in
        let B : List (Result walks.Visit model.ZoneFault) → Type 0 = λ after. Meets result (rest_of (super_view old.layout) (parts_now old) walk) after in
        subst B (left_same told walk') (subst A (left_same told walk) (told_now (past_of here) M meets (invariant.steps.goes_on.told told)))

    -- a call that wrote nothing
    joined_none : (Q : model.Volume → Parts → Parts → Type 0) (result : Result (Unit {0}) ZoneFault) → (IsTold (past_of here) → HasDeviceCause here next Device result) → IfErr result (HasZoneCause (faults_of here) (faults_of next))
        → (IsTold (past_of old) → ClearedUpTo inode walk (volume_view old) (parts_now old) (parts_now here) → parts_now next ≡ parts_now here → Q (volume_view old) (parts_now old) (parts_now next))
        → Changes old next (IsOffMaps old) Q result
    joined_none Q result device cause so =
        changes_join old here next (IsOffMaps old) (ClearedUpTo inode walk) SameParts Q result ready invariant
        (changes_none here next (IsOffMaps old) result invariant.steps.ready same later device cause) so

    -- the walk is refused
    module _ (may : IsTold (past_of old) → MayClear old inode) where
      refused_as : (fault : ZoneFault) (walk' : Walk) → IsTold (past_of old)
          → Meets (Err fault) (rest_of (super_view old.layout) (parts_now old) walk) (rest_of (super_view old.layout) (parts_now old) walk') → fault ≡ Device
      refused_as (Layout fault) walk' told met = absurd met
      refused_as Device walk' told met = refl
      refused_as (ZoneOutside zone) walk' told met =
          let up = invariant.changed told in
          let E : List (Result walks.Visit model.ZoneFault) → Type 0 = λ rest. In (Err (model.ZoneOutside zone)) rest in
          let there : In (Err (model.ZoneOutside zone)) (rest_of (super_view old.layout) (parts_now old) walk) = subst E (sym met) (inl refl) in
          let all : In (Err (model.ZoneOutside zone)) (visits (super_view old.layout) (parts_now old) inode) = subst E (sym up.split) (in-right up.met _ _ there) in
          absurd ((may told).good (model.ZoneOutside zone) (in-contains _ _ all))

      pub clears_refused : (fault : ZoneFault) (walk' : Walk)
          → Told (past_of here) (λ now. Meets (Err fault) (rest_of (super_view here.layout) (parts_of (volume_view here) now) walk) (rest_of (super_view here.layout) (parts_of (volume_view here) now) walk'))
          → HasZoneCause (faults_of here) (faults_of next) fault → Changes old next (IsOffMaps old) (ClearsMet inode) (Err fault)
      clears_refused fault walk' meets cause =
          changes_failed old next (IsOffMaps old) (λ view from to. Unit {0}) (ClearsMet inode) fault
          (joined_none (λ view from to. Unit {0}) (Err fault)
          (λ told.
          let is : fault ≡ Device = refused_as fault walk' (invariant.steps.goes_on.told_before told) (met_now (Err fault) walk' meets (invariant.steps.goes_on.told_before told)) in
          let C : ZoneFault → Type 0 = HasZoneCause (faults_of here) (faults_of next) in
          (is, subst C is cause))
          cause
          (λ told up same'. tt))

      -- it met a zone
      module _ (visit : Visit) (walk' : Walk)
          (meets : Told (past_of here) (λ now. Meets (Ok (Some visit)) (rest_of (super_view here.layout) (parts_of (volume_view here) now) walk) (rest_of (super_view here.layout) (parts_of (volume_view here) now) walk'))) where
        pub met_unused : IsUnusedZone next visit.zone
        met_unused = record {
          unused = λ told.
              let before = told_old told in
              let up = invariant.changed before in
              let met : rest_of (super_view old.layout) (parts_now old) walk ≡ Ok (visit_view visit) ∷ rest_of (super_view old.layout) (parts_now old) walk' = met_now (Ok (Some visit)) walk' meets before in
              let E : List (Result walks.Visit model.ZoneFault) → Type 0 = λ rest. In (Ok (visit_view visit)) rest in
              let there : In (Ok (visit_view visit)) (rest_of (super_view old.layout) (parts_now old) walk) = subst E (sym met) (inl refl) in
              let all : In (Ok (visit_view visit)) (visits (super_view old.layout) (parts_now old) inode) = subst E (sym up.split) (in-right up.met _ _ there) in
              (reads.unused visit.zone (invariant.steps.unused visit.zone ((may before).unused (visit_view visit) (in-contains _ _ all)))).unused told;
        }

        module _ (new : Volume D disks) (result : Result (Unit {0}) ZoneFault) (clear : Changes next new (IsOffMaps next) (ClearsZone visit.zone) result) where
          from_here : Changes here new (IsOffMaps old) (ClearsZone visit.zone) result
          from_here =
              changes_join here next new (IsOffMaps old) SameParts (ClearsZone visit.zone) (ClearsZone visit.zone) result invariant.steps.ready
              (changes_none here next (IsOffMaps old) (Ok tt) invariant.steps.ready same later (λ told. tt) tt)
              (changes_weaker next new (IsOffMaps next) (ClearsZone visit.zone) result (IsOffMaps old)
              (λ d s off. off_maps_kept here next (keeps_same here next same) d s (off_maps_kept old here invariant.steps.kept d s off)) clear)
              (λ told same' one. let O : Parts → Type 0 = λ parts. ClearsZone visit.zone (volume_view here) parts (parts_now new) in subst O same' one)

          pub clears_more : Changes old new (IsOffMaps old) (ClearedUpTo inode walk') result
          clears_more =
              changes_join old here new (IsOffMaps old) (ClearedUpTo inode walk) (ClearsZone visit.zone) (ClearedUpTo inode walk') result ready invariant from_here
              (λ told up one.
              let met : rest_of (super_view old.layout) (parts_now old) walk ≡ Ok (visit_view visit) ∷ rest_of (super_view old.layout) (parts_now old) walk' = met_now (Ok (Some visit)) walk' meets told in
              let Z : List ℕ → Type 0 = λ zones. ZonesCleared (volume_view old) (parts_now old) (parts_now new) zones in
              record {
                met = up.met ++ (Ok (visit_view visit) ∷ []);
                split = up.split ∙ ap (λ rest. up.met ++ rest) met ∙ move up.met (Ok (visit_view visit)) _;
                cleared = subst Z (sym (zones_last up.met (visit_view visit))) (cleared_more (volume_view old) (parts_now old) (parts_now here) (parts_now new) (zones_met up.met) visit.zone up.cleared one);
              })

        pub clears_stopped : (new : Volume D disks) (fault : ZoneFault) → Changes next new (IsOffMaps next) (ClearsZone visit.zone) (Err fault) → Changes old new (IsOffMaps old) (ClearsMet inode) (Err fault)
        clears_stopped new fault clear = changes_failed old new (IsOffMaps old) (ClearedUpTo inode walk') (ClearsMet inode) fault (clears_more new (Err fault) clear)

    -- it is at its end
    pub clears_done : (walk' : Walk)
        → Told (past_of here) (λ now. Meets (Ok None) (rest_of (super_view here.layout) (parts_of (volume_view here) now) walk) (rest_of (super_view here.layout) (parts_of (volume_view here) now) walk'))
        → Changes old next (IsOffMaps old) (ClearsMet inode) (Ok tt)
    clears_done walk' meets =
        joined_none (ClearsMet inode) (Ok tt) (λ told. tt) tt
        (λ told up same'.
        let ended : rest_of (super_view old.layout) (parts_now old) walk ≡ [] = met_now (Ok None) walk' meets told in
        let all : visits (super_view old.layout) (parts_now old) inode ≡ up.met = up.split ∙ ap (λ rest. up.met ++ rest) ended ∙ none_left up.met in
        let Z : List (Result walks.Visit model.ZoneFault) → Type 0 = λ met. ZonesCleared (volume_view old) (parts_now old) (parts_now here) (zones_met met) in
        let P : Parts → Type 0 = λ parts. ClearsMet inode (volume_view old) (parts_now old) parts in
        subst P (sym same') (subst Z (sym all) up.cleared))
