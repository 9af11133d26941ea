-- Where a name goes or takes another's place, no inode refers to another zone than before, and no bit is set that was clear.
use Rattle.std.proofs.Common.{◌≡◌, ◌≤◌, ◌<◌, ℕ, Bool, true, false, List, Some, None, refl, sym, ◌∙◌, ap, subst, ⊎_elim, arith}
use Rattle.std.proofs.lemmas.Bool.{cases_eq, cases_lt}
use Rattle.disk_trait.specs.Past.{Image}
use Rattle.lilo_model.specs.MinixLayout.{Inode, Super}
use Rattle.lilo_model.specs.MinixNames.{reached, Named, PointsTo, IsSound}
use Rattle.lilo_model.specs.MinixParts.{Volume, Parts, Pointer, parts_of, is_directory, is_file}
use Rattle.lilo_model.specs.NamePlaces.{same_path}
use Rattle.minix_change_laws.specs.Beside.{IsDataZone, IsInode}
use Rattle.minix_names.proofs.PathLemmas.{same-is}
use Rattle.minix_remove.specs.Removed.{GainsNoZone, FreesInode, LowersLinks, RemovesFile}
use Rattle.minix_remove_laws.specs.Files.{KeepsFiles}
use Rattle.minix_remove_laws.specs.Held.{is_removable}
use Rattle.minix_remove_laws.proofs.Files.{points-before}
use Rattle.minix_remove_laws.proofs.Held.{no-directory}
use Rattle.minix_change_laws.specs.Sees.{SameButLinks}
use Rattle.minix_change_laws.specs.Tree.{KeepsNamed, HasTreeWith, HasTreeMoved}
use Rattle.minix_change_laws.proofs.Inode.{HasSameNumbers, same-node}
use Rattle.minix_change_laws.proofs.Kept.{same-is-but-links}
use Rattle.minix_change_laws.proofs.Seen.{opened}
use Rattle.install_stage_laws.specs.BeginLaws.{GainsNothing}
use Rattle.install_stage_laws.specs.Marked.{KeepsMarked}
use Rattle.install_stage_laws.proofs.Marked.{marked_none, marked_join, same_links}
use Rattle.install_settle.proofs.NamesLemmas.{apart-of}

pub removable-file : (inode : Inode) → is_file inode ≡ true → is_removable inode ≡ true
removable-file inode is = rw is refl

-- ---- what is marked

module _ (super : Super) (old new : Parts) (directory : ℕ) where
  marked-kept : KeepsFiles super old new directory → KeepsMarked super old new
  marked-kept files = record {
    marks = λ other is set. sym (files.marks other is) ∙ set;
    zone_marks = λ zone is set. sym (files.zone_marks zone is) ∙ set;
    nodes = λ other is set. same-is-but-links (old.node other) (new.node other) (files.nodes other is);
    links = λ other is set. same_links (old.node other) (new.node other) (files.nodes other is);
  }

  module _ (number : ℕ) (removes : RemovesFile super old new directory number) where
    -- what holds of each inode that is as before holds of all, where it holds of the one whose name goes
    node-by : (P : Inode → Inode → Type 0) → ((one two : Inode) → two ≡ one → P one two) → (other : ℕ) → IsInode super other
        → (other ≡ number → P (old.node number) (new.node number)) → P (old.node other) (new.node other)
    node-by P same-is other is own = ⊎_elim
        (λ same. subst (λ (n : ℕ). P (old.node n) (new.node n)) (sym same) (own same))
        (λ apart. same-is (old.node other) (new.node other) (removes.others other is apart))
        (cases_eq other number)

    marked-lowered : LowersLinks super old new number → KeepsMarked super old new
    marked-lowered it = record {
      marks = λ other is set. sym (it.marks other is) ∙ set;
      zone_marks = λ zone is set. sym (it.zone_marks zone is) ∙ set;
      nodes = λ other is set. node-by SameButLinks same-is-but-links other is (λ same. let S : Inode → Type 0 = SameButLinks (old.node number) in subst S (sym it.node) refl);
      links = λ other is set. node-by (λ one two. two.links ≤ one.links) same_links other is (λ same. let e = ap (λ (i : Inode). i.links) it.node in omega (arith, e));
    }

    marked-freed : FreesInode super old new number → KeepsMarked super old new
    marked-freed it = record {
      marks = λ other is set. ⊎_elim
          (λ same. absurd (cleared other same set))
          (λ apart. sym (it.other_marks other is apart) ∙ set)
          (cases_eq other number);
      zone_marks = λ zone is set. sym (it.other_zone_marks zone is (λ at to. clash (sym (it.zone_marks at zone to) ∙ set))) ∙ set;
      nodes = λ other is set. node-by SameButLinks same-is-but-links other is (λ same. absurd (cleared other same set));
      links = λ other is set. node-by (λ one two. two.links ≤ one.links) same_links other is (λ same. absurd (cleared other same set));
    }
      where
        clash : false ≡ true → ⊥
        clash both = cc

        cleared : (other : ℕ) → other ≡ number → new.has_inode other ≡ true → ⊥
        cleared other same set = clash (sym it.mark ∙ (ap new.has_inode (sym same) ∙ set))

    marked-removed : KeepsMarked super old new
    marked-removed = ⊎_elim
        (λ (more : 1 < (old.node number).links). marked-lowered (removes.lowered more))
        (λ (few : (old.node number).links ≤ 1). marked-freed (removes.freed few))
        (cases_lt 1 (old.node number).links)

-- ---- what is gained

-- nothing is gained where nothing is done, and over two runs
pub gains_none : (volume : Volume) (image : Image) → GainsNothing volume image image
gains_none volume image = record {
  named = λ number named. named;
  refers = λ number at zone refers. refers;
  kinds = λ number named. refl;
  marked = marked_none volume.layout (parts_of volume image);
}

pub gains_join : (volume : Volume) (old mid new : Image) → GainsNothing volume old mid → GainsNothing volume mid new → GainsNothing volume old new
gains_join volume old mid new first next = record {
  named = λ number named. first.named number (next.named number named);
  refers = λ number at zone refers. first.refers number at zone (next.refers number at zone refers);
  kinds = λ number named. next.kinds number named ∙ first.kinds number (next.named number named);
  marked = marked_join volume.layout (parts_of volume old) (parts_of volume mid) (parts_of volume new) first.marked next.marked;
}

module _ (volume : Volume) (old new : Image) (sound : IsSound volume old) (directory : ℕ) (there : Named volume.layout (parts_of volume old) directory)
    (named : (number : ℕ) → Named volume.layout (parts_of volume new) number → Named volume.layout (parts_of volume old) number)
    (keeps : KeepsNamed volume.layout (parts_of volume old) (parts_of volume new)) (own : GainsNoZone volume.layout (parts_of volume old) (parts_of volume new) directory) where
  abbrev Old : Parts
  Old = parts_of volume old

  abbrev New : Parts
  New = parts_of volume new

  kind-same : (number : ℕ) → Named volume.layout New number → is_directory (New.node number) ≡ is_directory (Old.node number)
  kind-same number now = by (Old.node number) (New.node number) (keeps.modes number (named number now) now)
    where
      by : (one other : Inode) → other.mode ≡ one.mode → is_directory other ≡ is_directory one
      by one other same = ap (λ (mode : ℕ). is_directory (record one { mode = mode })) same

  module _ (bytes : (zone : ℕ) → IsDataZone volume.layout zone → ((at : Pointer) → PointsTo volume.layout Old directory at zone → ⊥) → New.zone zone ≡ Old.zone zone)
      (numbers : (number : ℕ) → Named volume.layout Old number → Named volume.layout New number → HasSameNumbers (Old.node number) (New.node number))
      (marked : KeepsMarked volume.layout Old New) where
    pub gains_by : GainsNothing volume old new
    gains_by = record {
      named = named;
      refers = λ number at zone refers.
          let was = named number refers.named in
          record {
            named = was;
            to = ⊎_elim
                (λ same. subst (λ (n : ℕ). PointsTo volume.layout Old n at zone) (sym same) (own at zone (subst (λ (n : ℕ). PointsTo volume.layout New n at zone) same refers.to)))
                (λ apart. points-before volume.layout Old New directory number (opened volume old sound).parts there was apart bytes (numbers number was refers.named) at zone refers.to)
                (cases_eq number directory);
          };
      kinds = kind-same;
      marked = marked;
    }

  -- an inode lost a name
  module _ (former : ℕ) (file : is_file (Old.node former) ≡ true) (removes : RemovesFile volume.layout Old New directory former) where
    numbers-removed : (number : ℕ) → Named volume.layout Old number → Named volume.layout New number → HasSameNumbers (Old.node number) (New.node number)
    numbers-removed number was now = ⊎_elim
        (λ same.
        let regular : is_file (Old.node number) ≡ true = subst (λ (n : ℕ). is_file (Old.node n) ≡ true) (sym same) file in
        let node = keeps.files number was now (no-directory (Old.node number) (removable-file (Old.node number) regular)) in
        record { mode = ap (λ (i : Inode). i.mode) node; zones = ap (λ (i : Inode). i.zones) node })
        (λ apart. (same-node (Old.node number) (New.node number) (removes.others number ((opened volume old sound).parts.in_range number was) apart)).numbers)
        (cases_eq number former)

    pub gains_removed : GainsNothing volume old new
    gains_removed = gains_by removes.bytes numbers-removed (marked-removed volume.layout Old New directory former removes)

  -- none did
  pub gains_kept : KeepsFiles volume.layout Old New directory → GainsNothing volume old new
  gains_kept files = gains_by files.bytes (λ number was now. (same-node (Old.node number) (New.node number) (files.nodes number ((opened volume old sound).parts.in_range number was))).numbers)
      (marked-kept volume.layout Old New directory files)

-- ---- which inodes are named

module _ (volume : Volume) (old new : Image) where
  pub named_gone : (path : List (List ℕ)) → HasTreeWith volume old new path None None → (number : ℕ) → Named volume.layout (parts_of volume new) number → Named volume.layout (parts_of volume old) number
  named_gone path has number is = by (same_path path is.path) refl
    where
      by : (test : Bool) → same_path path is.path ≡ test → Named volume.layout (parts_of volume old) number
      by true same =
          let none : None ≡ Some number = sym has.tree.here ∙ (ap (reached volume.layout (parts_of volume new)) (same-is path is.path same) ∙ is.leads) in
          absurd (clash none)
        where
          clash : None ≡ Some number → ⊥
          clash e = cc
      by false other = record { path = is.path; leads = sym (has.tree.others is.path (apart-of path is.path other)) ∙ is.leads }

  pub named_moved : (former path : List (List ℕ)) → HasTreeMoved volume old new former path → (number : ℕ) → Named volume.layout (parts_of volume new) number → Named volume.layout (parts_of volume old) number
  named_moved former path has number is = by (same_path former is.path) refl (same_path path is.path) refl
    where
      clash : None ≡ Some number → ⊥
      clash e = cc

      by : (gone : Bool) → same_path former is.path ≡ gone → (here : Bool) → same_path path is.path ≡ here → Named volume.layout (parts_of volume old) number
      by true same here at = absurd (clash (sym has.tree.gone ∙ (ap (reached volume.layout (parts_of volume new)) (same-is former is.path same) ∙ is.leads)))
      by false other true at = record { path = former; leads = sym has.tree.here ∙ (ap (reached volume.layout (parts_of volume new)) (same-is path is.path at) ∙ is.leads) }
      by false other false at = record { path = is.path; leads = sym (has.tree.others is.path (apart-of former is.path other) (apart-of path is.path at)) ∙ is.leads }
