-- What is free on a volume is so after a call that left it alone; and so is what was chosen on the way to a room.
use Rattle.std.proofs.Common.{◌≡◌, ◌≤◌, ◌<◌, ℕ, true, false, length, List, [], Option, Some, None, sym, ◌∙◌, ap, subst, subst₂, arith}
use Rattle.std.specs.Prelude.{slice_index, IfSome}
use Rattle.std.specs.List.{Contains}
use Rattle.disk_trait.specs.declared.disks.Disks.{Ghosts}
use Rattle.disk_trait.specs.Moments.{IsTold, now}
use Rattle.disk_trait.specs.Past.{Image}
use Rattle.lilo_model.specs.MinixLayout as layouts
use Rattle.lilo_model.specs.MinixLayout.{reach}
use Rattle.lilo_model.specs.MinixNames.{reached, IsSound}
use Rattle.lilo_model.specs.MinixParts as model
use Rattle.lilo_model.specs.MinixParts.{Parts, parts_of, is_directory, blocks_for}
use Rattle.minix_choice_laws.specs.Choice.{file_of, MayHavePlace}
use Rattle.minix_choice_laws.specs.Growth.{ArePromised}
use Rattle.minix_create.specs.Chosen.{IsPromisedNow, IsFreeWhereSound, LinksWhereSound, IsClearGrowth}
use Rattle.minix_create.specs.Grown.{MayGrowIn}
use Rattle.minix_create.specs.Several.{PromisesMore, PromisesWhereFree}
use Rattle.minix_create.specs.declared.chosen.Chosen.{Chosen}
use Rattle.minix_choice_laws.specs.FillLaws.{MayBeFile}
use Rattle.minix_layout.specs.View.{super_view}
use Rattle.minix_steps.specs.Written.{parts_now}
use Rattle.minix_choice.specs.View.{Promised, taken_view}
use Rattle.minix_zones.specs.Volume.{volume_view, past_of, SameVolume}
use Rattle.minix_zones.specs.declared.volume.Volume.{Volume}
use Rattle.minix_zones.proofs.SameLemmas.{same_view}
use Rattle.write_model.specs.Places.{is_overlooked}
use Rattle.write_model.specs.Wish.{Taken, Promise}
use Rattle.install_room.specs.Room.{IsFree, AreFree, taken_beside, with_backup}
use Rattle.install_room.proofs.RoomOfLemmas.{view_with}

-- ---- by what a volume holds

record PromisedIn (view : model.Volume) (image : Image) (taken : Taken) (outer : List (List ℕ)) (chosen : Chosen) : Type 0 where
  pub sound : IsSound view image
  pub leads : reached view.layout (parts_of view image) outer ≡ Some chosen.directory
  pub is : is_directory ((parts_of view image).node chosen.directory) ≡ true
  pub reached : blocks_for ((parts_of view image).node chosen.directory).size ≤ reach view.layout.kind
  pub seen : is_overlooked taken.overlooked chosen.directory chosen.name ≡ false
  pub promised : ArePromised view.layout (parts_of view image) taken

record FreeIn (view : model.Volume) (image : Image) (chosen : Chosen) : Type 0 where
  pub sound : IsSound view image
  pub file : MayBeFile view.layout.kind (file_of chosen.choice)
  pub inode : (parts_of view image).has_inode chosen.choice.inode ≡ false
  pub zones : (i : ℕ) → i < length chosen.choice.zones → (parts_of view image).has_zone (slice_index chosen.choice.zones i) ≡ false
  pub grows : MayGrowIn view image chosen.directory chosen.choice.place chosen.choice.growth
  pub clear : IsClearGrowth chosen.choice

-- ---- a call that left the volume alone

module _ {D : Type 0} {disks : Ghosts D} (old new : Volume D disks) (same : SameVolume old new) where
  -- what holds before it holds after it, and the other way round
  pub moved : (P : model.Volume → Image → Type 0) → P (volume_view old) (now (past_of old)) → P (volume_view new) (now (past_of new))
  moved P = subst₂ P (sym (same_view old new same)) (ap now (sym same.same_disks.same_past))

  back : (P : model.Volume → Image → Type 0) → P (volume_view new) (now (past_of new)) → P (volume_view old) (now (past_of old))
  back P = subst₂ P (same_view old new same) (ap now same.same_disks.same_past)

  pub told_was : IsTold (past_of new) → IsTold (past_of old)
  told_was = subst IsTold same.same_disks.same_past

  pub told_stays : IsTold (past_of old) → IsTold (past_of new)
  told_stays = subst IsTold (sym same.same_disks.same_past)

  module _ (taken : Taken) (chosen : Chosen) where
    promised-was : (outer : List (List ℕ)) → IsPromisedNow new taken outer chosen → IsPromisedNow old taken outer chosen
    promised-was outer is =
        let f = back (λ view image. PromisedIn view image taken outer chosen)
        (record { sound = is.sound; leads = is.leads; is = is.is; reached = is.reached; seen = is.seen; promised = is.promised }) in
        record { sound = f.sound; leads = f.leads; is = f.is; reached = f.reached; seen = f.seen; promised = f.promised }

    pub free_stays : IsFreeWhereSound old taken chosen → IsFreeWhereSound new taken chosen
    free_stays free outer told is =
        let n = free outer (told_was told) (promised-was outer is) in
        let f = moved (λ view image. FreeIn view image chosen)
        (record { sound = n.sound; file = n.file; inode = n.inode; zones = n.zones; grows = n.grows; clear = n.clear }) in
        record { sound = f.sound; file = f.file; inode = f.inode; zones = f.zones; grows = f.grows; clear = f.clear }

    pub links_stay : LinksWhereSound old taken chosen → LinksWhereSound new taken chosen
    links_stay links outer told is =
        moved (λ view image. MayHavePlace view image outer chosen.directory chosen.choice.place chosen.name)
        (links outer (told_was told) (promised-was outer is))

  pub promises_stay : (taken : Taken) → ArePromised (super_view old.layout) (parts_now old) taken → ArePromised (super_view new.layout) (parts_now new) taken
  promises_stay taken = moved (λ view image. ArePromised view.layout (parts_of view image) taken)

-- where nothing was promised, all that was is free
pub none_promised : (super : layouts.Super) (parts : Parts) (taken : Taken) → taken.promises ≡ [] → ArePromised super parts taken
none_promised super parts taken none = record {
  zones = λ promise level there low. absurd (nothing promise there);
  steps = λ one other level there is is' low low' same. absurd (nothing one is);
}
  where
    nothing : (promise : Promise) → Contains taken.promises promise → ⊥
    nothing promise there =
        let here = subst (λ (promises : List Promise). Contains promises promise) none there in
        let low = here.1 in
        omega (arith, low)

-- ---- the room

-- what is taken once the backup is chosen is what the model takes
pub taken_beside_is : (taken : Promised) (first : Taken) → taken_view taken ≡ first → (backup : Option Chosen) → taken_view (with_backup taken backup) ≡ taken_beside first backup
taken_beside_is taken first is None = is
taken_beside_is taken first is (Some chosen) = view_with taken chosen.directory chosen.choice ∙ ap (λ (t : Taken). taken_beside t (Some chosen)) is

module _ {D : Type 0} {disks : Ghosts D} (old new : Volume D disks) (same : SameVolume old new) (taken : Promised) (first : Taken) (is : taken_view taken ≡ first)
    (none : first.promises ≡ []) (map : Chosen) (after : Promised) where
  at-first : ArePromised (super_view old.layout) (parts_now old) (taken_view taken)
  at-first = none_promised (super_view old.layout) (parts_now old) (taken_view taken) (ap (λ (t : Taken). t.promises) is ∙ none)

  by : (backup : Option Chosen) (mid : Promised) → taken_view mid ≡ taken_beside first backup → IfSome backup (IsFree old taken)
      → IfSome backup (PromisesWhereFree old (taken_view taken) (taken_view mid)) → IsFree new mid map → PromisesWhereFree new (taken_view mid) (taken_view after) map
      → AreFree new first backup map
  by None mid mid-is free promises free-map promises-map = record {
    backup_free = tt;
    map_free = subst (λ (t : Taken). IsFreeWhereSound new t map) mid-is free-map.zones;
    map_name = subst (λ (t : Taken). LinksWhereSound new t map) mid-is free-map.name;
    promised = λ told. none_promised (super_view new.layout) (parts_now new) first none;
    apart = λ told. tt;
    taken = λ told.
        let more = promises-map told (subst (λ (t : Taken). ArePromised (super_view new.layout) (parts_now new) t) (sym mid-is) (none_promised (super_view new.layout) (parts_now new) first none)) in
        record { last = taken_view after; promised = more.promised; map_held = more.held; backup_held = tt };
  }
  by (Some chosen) mid mid-is free promises free-map promises-map = record {
    backup_free = (
      free_stays old new same first chosen (subst (λ (t : Taken). IsFreeWhereSound old t chosen) is free.zones),
      links_stay old new same first chosen (subst (λ (t : Taken). LinksWhereSound old t chosen) is free.name),
    );
    map_free = subst (λ (t : Taken). IsFreeWhereSound new t map) mid-is free-map.zones;
    map_name = subst (λ (t : Taken). LinksWhereSound new t map) mid-is free-map.name;
    promised = λ told. subst (λ (t : Taken). ArePromised (super_view new.layout) (parts_now new) t) mid-is (promised-new told);
    apart = λ told. (promises-map told (promised-new told)).apart chosen (more told).held;
    taken = λ told.
        let both = promises-map told (promised-new told) in
        record { last = taken_view after; promised = both.promised; map_held = both.held; backup_held = both.stays chosen (more told).held };
  }
    where
      more : IsTold (past_of new) → PromisesMore old (taken_view taken) (taken_view mid) chosen
      more told = promises (told_was old new same told) at-first

      promised-new : IsTold (past_of new) → ArePromised (super_view new.layout) (parts_now new) (taken_view mid)
      promised-new told = promises_stay old new same (taken_view mid) (more told).promised

  pub room_free : (backup : Option Chosen) (mid : Promised) → mid ≡ with_backup taken backup → IfSome backup (IsFree old taken)
      → IfSome backup (PromisesWhereFree old (taken_view taken) (taken_view mid)) → IsFree new mid map → PromisesWhereFree new (taken_view mid) (taken_view after) map
      → AreFree new first backup map
  room_free backup mid mid-is = by backup mid (ap taken_view mid-is ∙ taken_beside_is taken first is backup)
