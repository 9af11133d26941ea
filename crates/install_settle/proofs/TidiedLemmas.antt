-- What tidying leaves of a new map.
use Rattle.std.proofs.Common.{◌≡◌, ◌⊎◌, ℕ, Bool, false, List, Some, None, sym, ◌∙◌, ap, subst, inl, inr}
use Rattle.disk_trait.specs.Past as past
use Rattle.disk_trait.specs.Moments.{now}
use Rattle.disk_trait.proofs.MomentLemmas.{leaves_weaker}
use Rattle.lilo_model.specs.Conf.{Config}
use Rattle.lilo_model.specs.Devices.{Device}
use Rattle.lilo_model.specs.Disks.{Image, Machine, Span, DiskSector}
use Rattle.lilo_model.specs.MinixNames.{reached}
use Rattle.lilo_model.specs.MinixParts.{Volume, parts_of}
use Rattle.lilo_model.specs.NamePlaces.{with_tilde}
use Rattle.lilo_model.specs.Plan.{Plan}
use Rattle.lilo_model.specs.Planned.{planned}
use Rattle.lilo_model.specs.Settled.{Holds, Held, is_foreign, says_foreign}
use Rattle.map_laws.specs.MapLays.{HoldsMap}
use Rattle.map_laws.proofs.Holder.{lays_held_law}
use Rattle.map_laws.specs.Lies.{MapPlaces, all_places}
use Rattle.minix_remove.specs.Moves.{IsMoving}
use Rattle.minix_change_laws.specs.Sees.{SeenAsIn}
use Rattle.minix_change_laws.specs.Tree.{TreeAs}
use Rattle.minix_change_laws.proofs.Seen.{opened}
use Rattle.minix_change_laws.proofs.Tree.{sees_tree_law, keeps_join_law}
use Rattle.install_stage_laws.proofs.Spared.{leaves_both}
use Rattle.install_stage_laws.specs.Committed.{IsStaged}
use Rattle.install_stage_laws.proofs.Committed as committing
use Rattle.install_stage_laws.proofs.Committed.{commit_seen_law, staged_tidies_law, tidied_lays_law}
use Rattle.install_stage_laws.proofs.HoldsMap.{holds_map_stays_law}
use Rattle.install_settle.specs.Tidied.{TidiedMapLaw, TidiedHoldsLaw}
use Rattle.install_settle.proofs.TidyLemmas.{still-leads}

module _ (before staged : Image) (machine : Machine) (volume : Volume) (span : Span) (config : Config) (device : Device) (time : ℕ)
    (chosen : ℕ → Bool) (places : MapPlaces) (bytes : List ℕ) (path : List (List ℕ))
    (map : IsStaged before staged machine volume span config device time chosen places bytes path)
    (there : reached volume.layout (parts_of volume staged) (with_tilde path) ≡ Some map.holds.holder) where
  abbrev Places : List DiskSector
  Places = all_places places

  abbrev Planned : Plan
  Planned = planned before machine volume config time

  abbrev New : Image
  New = past.with_sector staged span.disk span.start bytes

  seen : SeenAsIn volume staged New
  seen =
      commit_seen_law volume staged span bytes map.files.sound map.outside
      (committing.size-is before staged machine volume span config device time chosen places bytes path map)

  tree : TreeAs volume.layout (parts_of volume staged) (parts_of volume New)
  tree = sees_tree_law volume.layout (parts_of volume staged) (parts_of volume New) (opened volume staged map.files.sound).parts seen.sees

  -- the map's places are those of its file in whatever is left
  pub holds-in : (c : Image) → IsMoving volume New (with_tilde path) path c → HoldsMap c machine volume Planned path Places
  holds-in c moving =
      let still = still-leads volume New path seen.sound c moving in
      holds_map_stays_law volume staged c machine Planned path Places map.files.sound still.sound
      (keeps_join_law volume.layout (parts_of volume staged) (parts_of volume New) (parts_of volume c) tree.keeps still.keeps
      (λ number was now. record { path = was.path; leads = tree.leads was.path ∙ was.leads }))
      map.holds (by still.leads)
    where
      there-new : reached volume.layout (parts_of volume New) (with_tilde path) ≡ Some map.holds.holder
      there-new = tree.leads (with_tilde path) ∙ there

      by : (reached volume.layout (parts_of volume c) path ≡ reached volume.layout (parts_of volume New) (with_tilde path))
          ⊎ (reached volume.layout (parts_of volume c) (with_tilde path) ≡ reached volume.layout (parts_of volume New) (with_tilde path))
          → (reached volume.layout (parts_of volume c) path ≡ Some map.holds.holder) ⊎ (reached volume.layout (parts_of volume c) (with_tilde path) ≡ Some map.holds.holder)
      by (inl here) = inl (here ∙ there-new)
      by (inr same) = inr (same ∙ there-new)

pub tidied_map_law : TidiedMapLaw
tidied_map_law before machine volume span config device time chosen places bytes path staged committed tidied map there is writes leaves =
    leaves_weaker committed tidied _ _
    (leaves_both committed tidied _ _
    (staged_tidies_law before machine volume span config device time chosen places bytes path staged committed tidied map is writes)
    (leaves_both committed tidied _ _
    (tidied_lays_law before machine volume span config device time chosen places bytes path staged committed tidied map is writes)
    leaves))
    (λ c all.
    let moving = subst (λ (image : Image). IsMoving volume image (with_tilde path) path c) is all.1.1.leads in
    let lays = all.1.0 (holds-in before (now staged) machine volume span config device time chosen places bytes path map there c moving) in
    record {
      means = all.0;
      lays = lays;
      held = lays_held_law c machine volume span (planned before machine volume config time) path (before span.disk span.start) lays;
    })

pub tidied_holds_law : TidiedHoldsLaw
unfolding is_foreign
tidied_holds_law before machine volume span config time line_place path c is gone = by is.held
  where
    by : Held c machine volume span path → Holds c machine volume span path
    by (inl foreign) = let own : says_foreign (Rattle.lilo_model.specs.BootSector.boot_at (c span.disk span.start)) ≡ false = ap says_foreign is.lays.says in cc
    by (inr (inl holds)) = holds
    by (inr (inr holds)) = let both : None ≡ Some holds.number = sym gone ∙ holds.leads in cc
