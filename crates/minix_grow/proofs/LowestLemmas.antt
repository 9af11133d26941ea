-- The lowest zone that is there on the way to a block.
use Rattle.std.proofs.Common.{◌≡◌, ◌≢◌, ◌≤◌, ◌<◌, ◌+◌, ◌==◌, ◌||◌, ◌&&◌, ℕ, suc, Bool, true, false, nat_le, nat_lt, Ok, refl, sym, ◌∙◌, ap, subst, subst₂, arith, inl, inr}
use Rattle.std.specs.Prelude.{slice_index}
use Rattle.disk_trait.specs.declared.disks.Disks.{Ghosts}
use Rattle.disk_trait.specs.Past.{Image, Told}
use Rattle.disk_trait.specs.Moments.{IsTold}
use Rattle.disk_trait.proofs.MomentLemmas.{told_now}
use Rattle.lilo_model.specs.MinixLayout.{Super, Inode, numbers_in_zone}
use Rattle.lilo_model.specs.MinixParts as model
use Rattle.lilo_model.specs.MinixParts.{Parts, zone_at_pointer, follow, inside, number_below, parts_of}
use Rattle.lilo_model.specs.MinixWalk.{branch_of}
use Rattle.minix_layout.specs.View.{kind_view, super_view}
use Rattle.minix_layout.specs.declared.superblock.Super as superblocks
use Rattle.minix_steps.specs.Written.{parts_now}
use Rattle.minix_zones.specs.View.{Refuses, IsInside, IsDataZone}
use Rattle.minix_zones.specs.Volume.{volume_view, past_of, SameVolume}
use Rattle.minix_zones.proofs.SameLemmas.{told_back}
use Rattle.minix_zones.specs.declared.volume.Volume.{Volume}
use Rattle.minix_zones.specs.declared.zone_fault.ZoneFault.{ZoneFault}
use Rattle.minix_grow.specs.Grow.{IsRefusedOnWay, IsLowest, ReachesDownNow}
use Rattle.minix_grow.specs.Way.{depth_of, index_above, number_on_way}
use Rattle.minix_grow.proofs.CompleteLemmas.{way_step}
use Rattle.minix_grow.proofs.WayLemmas.{pointer_highest}

-- a number that may be followed is itself
inside-by : (super : Super) (zone to : ℕ) (test : Bool) → (zone == 0 || (nat_le super.first zone && nat_lt zone super.zones)) ≡ test → inside super zone ≡ Ok to → zone ≡ to
unfolding inside
inside-by super zone to true is given = let e = rw is at given in cc
inside-by super zone to false is given = let e = rw is at given in cc

inside_is : (super : Super) (zone to : ℕ) → inside super zone ≡ Ok to → zone ≡ to
inside_is super zone to given = inside-by super zone to _ refl given

-- the highest number on the way is the inode's own
pub way_top : (super : Super) (parts : Parts) (node : Inode) (block : ℕ) → number_on_way super parts node block (depth_of super.kind block) ≡ slice_index node.zones (branch_of (numbers_in_zone super.kind) block).top
unfolding follow
way_top super parts node block = ap (zone_at_pointer super parts node) (pointer_highest super.kind block)

-- ---- on a volume

-- the first number
module _ {D : Type 0} {disks : Ghosts D} (old : Volume D disks) (node : Inode) (block zone : ℕ) (is : zone ≡ slice_index node.zones (branch_of (numbers_in_zone (kind_view old.layout.kind)) block).top) where
  abbrev Top : ℕ
  Top = number_on_way (super_view old.layout) (parts_now old) node block (depth_of (kind_view old.layout.kind) block)

  top-is : zone ≡ Top
  top-is = is ∙ sym (way_top (super_view old.layout) (parts_now old) node block)

  pub first_number : (number : ℕ) → inside (super_view old.layout) zone ≡ Ok number → Top ≡ number
  first_number number found = sym top-is ∙ inside_is (super_view old.layout) zone number found

  pub first_refused : (fault : ZoneFault) → Refuses fault (inside (super_view old.layout) zone) → IsRefusedOnWay old node block fault
  first_refused fault refused = record {
    level = depth_of (kind_view old.layout.kind) block;
    low = omega arith;
    refused = let P : ℕ → Type 0 = λ n. Refuses fault (inside (super_view old.layout) n) in subst P top-is refused;
  }

-- a number below one that was found
module _ {D : Type 0} {disks : Ghosts D} (old mid : Volume D disks) (same : SameVolume old mid) (node : Inode) (block upper level number index : ℕ) (one : upper ≡ suc level) (low : upper ≤ depth_of (kind_view old.layout.kind) block)
    (found-upper : IsTold (past_of old) → number_on_way (super_view old.layout) (parts_now old) node block upper ≡ number) (is : index ≡ index_above (kind_view old.layout.kind) block level) where
  abbrev Below : ℕ
  Below = number_below (kind_view old.layout.kind) (parts_now old).zone number index

  read : IsTold (past_of old) → number_on_way (super_view old.layout) (parts_now old) node block level ≡ Below
  read told =
      let U : ℕ → Type 0 = λ l. number_on_way (super_view old.layout) (parts_now old) node block l ≡ number in
      way_step (super_view old.layout) (parts_now old) node block level (omega (arith, one, low))
      ∙ (ap (λ z. number_below (kind_view old.layout.kind) (parts_now old).zone z (index_above (kind_view old.layout.kind) block level)) (subst U one (found-upper told))
      ∙ ap (number_below (kind_view old.layout.kind) (parts_now old).zone number) (sym is))

  pub lower_number : (next : ℕ) → Told (past_of mid) (λ image. inside (super_view mid.layout) (number_below (kind_view mid.layout.kind) (parts_of (volume_view mid) image).zone number index) ≡ Ok next)
      → IsTold (past_of old) → number_on_way (super_view old.layout) (parts_now old) node block level ≡ next
  lower_number next found told =
      let P : model.Volume → Image → Type 0 = λ volume image. inside volume.layout (number_below volume.layout.kind (parts_of volume image).zone number index) ≡ Ok next in
      read told ∙ inside_is (super_view old.layout) Below next (told_now (past_of old) (P (volume_view old)) (told_back old mid P same found) told)

  pub lower_refused : (fault : ZoneFault) → Told (past_of mid) (λ image. Refuses fault (inside (super_view mid.layout) (number_below (kind_view mid.layout.kind) (parts_of (volume_view mid) image).zone number index)))
      → IsTold (past_of old) → IsRefusedOnWay old node block fault
  lower_refused fault refused told =
      let P : model.Volume → Image → Type 0 = λ volume image. Refuses fault (inside volume.layout (number_below volume.layout.kind (parts_of volume image).zone number index)) in
      let Q : ℕ → Type 0 = λ n. Refuses fault (inside (super_view old.layout) n) in
      record {
        level = level;
        low = omega (arith, one, low);
        refused = subst Q (sym (read told)) (told_now (past_of old) (P (volume_view old)) (told_back old mid P same refused) told);
      }

-- what was found, once the way ends
module _ {D : Type 0} {disks : Ghosts D} (old : Volume D disks) (node : Inode) (block level above number : ℕ) (low : level ≤ depth_of (kind_view old.layout.kind) block)
    (here : IsTold (past_of old) → number_on_way (super_view old.layout) (parts_now old) node block level ≡ number) where
  module _ (hole : number ≡ 0) (over : level < depth_of (kind_view old.layout.kind) block → IsTold (past_of old) → number_on_way (super_view old.layout) (parts_now old) node block (suc level) ≡ above) (at zone : ℕ)
      (at-is : at ≡ level + 1) (zone-is : zone ≡ above) where
    pub reaches_hole : IsTold (past_of old) → ReachesDownNow old node block at zone
    reaches_hole told =
        let N : ℕ → ℕ → Type 0 = λ l z. number_on_way (super_view old.layout) (parts_now old) node block l ≡ z in
        let e : suc level ≡ at = omega (arith, at-is) in
        record {
          number = λ few. subst₂ N e (sym zone-is) (over (omega (arith, few, at-is)) told);
          hole = λ lower is. let l : level ≡ lower = omega (arith, is, at-is) in
              let P : ℕ → Type 0 = λ n. number_on_way (super_view old.layout) (parts_now old) node block n ≡ 0 in
              subst P l (here told ∙ hole);
        }

    pub lowest_hole : (level < depth_of (kind_view old.layout.kind) block → IsDataZone old.layout above) → (depth_of (kind_view old.layout.kind) block ≤ level → above ≡ 0) → IsLowest old.layout block at zone
    lowest_hole over-data none = record {
      low = omega (arith, low, at-is);
      inside = λ few. subst (IsDataZone old.layout) (sym zone-is) (over-data (omega (arith, few, at-is)));
      none = λ few. zone-is ∙ none (omega (arith, few, at-is));
    }

  module _ (some : number ≢ 0) (end : level ≡ 0) (at zone : ℕ) (at-is : at ≡ level) (zone-is : zone ≡ number) where
    pub reaches_block : IsTold (past_of old) → ReachesDownNow old node block at zone
    reaches_block told =
        let N : ℕ → ℕ → Type 0 = λ l z. number_on_way (super_view old.layout) (parts_now old) node block l ≡ z in
        record {
          number = λ few. subst₂ N (sym at-is) (sym zone-is) (here told);
          hole = λ lower is. absurd (omega (arith, is, at-is, end));
        }

    pub lowest_block : IsInside old.layout number → IsLowest old.layout block at zone
    lowest_block (inl none) = absurd (some none)
    lowest_block (inr is-data) = record {
      low = omega (arith, low, at-is);
      inside = λ few. subst (IsDataZone old.layout) (sym zone-is) is-data;
      none = λ few. absurd (omega (arith, few, at-is, low));
    }

-- a number that may be followed and isn't 0 is a data zone's
pub data_of : (layout : superblocks.Super) (number : ℕ) → IsInside layout number → number ≢ 0 → IsDataZone layout number
data_of layout number (inl none) some = absurd (some none)
data_of layout number (inr is-data) some = is-data

-- what leaves a volume alone
pub same_self : {D : Type 0} {disks : Ghosts D} (volume : Volume D disks) → SameVolume volume volume
same_self volume = record {
  same_disks = record { same_past = refl; same_size = refl; same_count = refl; same_geometry = refl };
  same_span = refl;
  same_layout = refl;
  same_reference = refl;
}

pub same_join : {D : Type 0} {disks : Ghosts D} (old mid new : Volume D disks) → SameVolume old mid → SameVolume mid new → SameVolume old new
same_join old mid new first next = record {
  same_disks = record {
    same_past = next.same_disks.same_past ∙ first.same_disks.same_past;
    same_size = next.same_disks.same_size ∙ first.same_disks.same_size;
    same_count = next.same_disks.same_count ∙ first.same_disks.same_count;
    same_geometry = next.same_disks.same_geometry ∙ first.same_disks.same_geometry;
  };
  same_span = next.same_span ∙ first.same_span;
  same_layout = next.same_layout ∙ first.same_layout;
  same_reference = next.same_reference ∙ first.same_reference;
}
