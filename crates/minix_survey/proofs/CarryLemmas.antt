-- What is known of an inode stays known on a volume that a call left alone.
use Rattle.std.proofs.Common.{◌≡◌, ◌≤◌, ◌||◌, ℕ, true, refl, sym, subst}
use Rattle.disk_trait.specs.declared.disks.Disks.{Ghosts}
use Rattle.disk_trait.specs.Past.{Told}
use Rattle.lilo_model.specs.MinixLayout.{Inode as NodeOf, is_size}
use Rattle.lilo_model.specs.MinixParts.{parts_of, is_directory, has_zones}
use Rattle.lilo_model.specs.MinixSurvey.{surveyable}
use Rattle.minix_layout.specs.View.{kind_view, inode_view}
use Rattle.minix_layout.specs.declared.inode.Inode.{Inode}
use Rattle.minix_layout.specs.declared.superblock.Super.{Super}
use Rattle.minix_zones.specs.declared.volume.Volume.{Volume}
use Rattle.minix_zones.specs.Volume.{past_of, SameVolume}
use Rattle.minix_zones.proofs.SameLemmas.{told_forth}
use Rattle.minix_survey.specs.declared.spot.Spot.{Spot}
use Rattle.minix_survey.specs.Step.{IsNodeOf, AreGiven, seen_in}

module _ {D : Type 0} {disks : Ghosts D} where
  pub node_on : (old new : Volume D disks) (spot : Spot) (node : Inode) → SameVolume old new → IsNodeOf old spot node → IsNodeOf new spot node
  node_on old new spot node same is = record {
    some = is.some;
    there = subst (λ (l : Super). spot.inode ≤ l.inodes) (sym same.same_layout) is.there;
    sized = subst (λ (l : Super). is_size (kind_view l.kind) node.size ≡ true) (sym same.same_layout) is.sized;
    is = told_forth old new (λ volume now. inode_view node ≡ (parts_of volume now).node spot.inode) same is.is;
    root = is.root;
  }

  pub given_on : (old new : Volume D disks) (inode : ℕ) → SameVolume old new → Told (past_of old) (λ now. AreGiven (seen_in old now) inode)
      → Told (past_of new) (λ now. AreGiven (seen_in new now) inode)
  given_on old new inode same given =
      told_forth old new (λ volume now. AreGiven (surveyable volume.layout (parts_of volume now)) inode) same given

-- a directory's numbers are zones
pub directory-zones : (node : NodeOf) → is_directory node ≡ true → has_zones node ≡ true
directory-zones node is = rw is refl
