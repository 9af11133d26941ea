-- Which inode each path leads to, and what becomes of the inodes.
use Rattle.std.proofs.Common.{◌≡◌, ◌≢◌, ℕ, ◌⊎◌, false, List, option_map, Option, Some, None, refl, sym, ◌∙◌, ap, inl, inr, ⊎_elim}
use Rattle.std.proofs.lemmas.Bool.{cases_Bool}
use Rattle.lilo_model.specs.MinixLayout.{Super}
use Rattle.lilo_model.specs.MinixParts.{Parts, Pointer, is_directory, parts_of}
use Rattle.lilo_model.specs.MinixNames.{Thing, reached, thing, names, names_in, Named, PointsTo, Refers}
use Rattle.minix_change_laws.proofs.Change.{path-cases}
use Rattle.minix_change_laws.specs.Sees.{IsFresh, Sees}
use Rattle.minix_change_laws.specs.Tree.{IsSpare, KeepsNamed, TreeWith, TreeMoved}
use Rattle.minix_change_laws.specs.TreeLaws.{SeesTreeLaw, KeepsJoinLaw, TreeNamesLaw, MovedNamesLaw, TreeNamedLaw, HasNamesLaw, HasMovedLaw, TreeAfterLaw, TreeBeforeLaw, MovedTreeAfterLaw, MovedTreeBeforeLaw, WithAfterLaw, WithBeforeLaw, MovedAfterLaw, MovedBeforeLaw}
use Rattle.minix_change_laws.proofs.Inode.{same-but-links, thing-directory, thing-same}
use Rattle.minix_change_laws.proofs.Sees.{reached-same, named-old, named-new, points-kept, points-either, thing-seen, sees_law}
use Rattle.minix_change_laws.proofs.Joins.{links-join}
use Rattle.minix_change_laws.proofs.Seen.{seen_sound_law}

-- ---- inodes that are named before and after

module _ (super : Super) (old new : Parts) (keeps : KeepsNamed super old new) (number : ℕ) (was : Named super old number) (now : Named super new number) where
  directory-kept : is_directory (new.node number) ≡ is_directory (old.node number)
  directory-kept = rw (keeps.modes number was now) refl

  -- each is what it was
  pub thing-kept : thing super new number ≡ thing super old number
  thing-kept = ⊎_elim
      (λ is. thing-directory super new number (directory-kept ∙ is) ∙ sym (thing-directory super old number is))
      (λ file. thing-same super old new number (same-but-links (old.node number) (new.node number) (keeps.files number was now file)) (λ at zone to. keeps.bytes number at zone (record { named = was; to = to }) now file))
      (cases_Bool (is_directory (old.node number)))

module _ (super : Super) (old mid new : Parts) (first : KeepsNamed super old mid) (next : KeepsNamed super mid new) (between : (number : ℕ) → Named super old number → Named super new number → Named super mid number) where
  refers-mid : (number : ℕ) (at : Pointer) (zone : ℕ) → Refers super old number at zone → Named super new number → Refers super mid number at zone
  refers-mid number at zone refers now =
      let mid_named = between number refers.named now in
      record { named = mid_named; to = first.stays number at zone refers mid_named }

  file-mid : (number : ℕ) → Named super old number → Named super mid number → is_directory (old.node number) ≡ false → is_directory (mid.node number) ≡ false
  file-mid number was named file = directory-kept super old mid first number was named ∙ file

  spare-first : (zone : ℕ) → IsSpare super old mid zone → IsSpare super old new zone
  spare-first zone spare number at refers now = spare number at refers (between number refers.named now)

  spare-next : (zone : ℕ) → IsSpare super mid new zone → IsSpare super old new zone
  spare-next zone spare number at refers now = spare number at (refers-mid number at zone refers now) now

  refers-by : (number : ℕ) (at : Pointer) (zone : ℕ) → Named super old number → Named super mid number → PointsTo super mid number at zone ⊎ IsSpare super mid new zone → PointsTo super old number at zone ⊎ IsSpare super old new zone
  refers-by number at zone was named (inl to) =
      ⊎_elim (λ to'. inl to') (λ spare. inr (spare-first zone spare)) (first.refers number at zone was (record { named = named; to = to }))
  refers-by number at zone was named (inr spare) = inr (spare-next zone spare)

  keeps-joined : KeepsNamed super old new
  keeps-joined = record {
    modes = λ number was now. let named = between number was now in next.modes number named now ∙ first.modes number was named;
    files = λ number was now file.
        let named = between number was now in
        links-join (old.node number) (mid.node number) (new.node number) (first.files number was named file) (next.files number named now (file-mid number was named file));
    bytes = λ number at zone refers now file.
        let named = between number refers.named now in
        next.bytes number at zone (refers-mid number at zone refers now) now (file-mid number refers.named named file) ∙ first.bytes number at zone refers named file;
    stays = λ number at zone refers now. next.stays number at zone (refers-mid number at zone refers now) now;
    refers = λ number at zone was refers.
        let named = between number was refers.named in
        refers-by number at zone was named (next.refers number at zone named refers);
  }

pub keeps_join_law : KeepsJoinLaw
keeps_join_law super old mid new first next between = keeps-joined super old mid new first next between

-- ---- what no name sees

module _ (super : Super) (old new : Parts) (sees : Sees super old new) where
  pub sees-keeps : KeepsNamed super old new
  sees-keeps = record {
    modes = λ number was now. sees.modes number was;
    files = λ number was now file. sees.files number was file;
    bytes = λ number at zone refers now file. sees.bytes number at zone refers file;
    stays = λ number at zone refers now. points-kept super old new sees number refers.named at zone refers.to;
    refers = λ number at zone was refers.
        ⊎_elim (λ to. inl to) (λ (fresh : IsFresh super old new zone). inr (λ other there refers' now. fresh.unused other there refers')) (points-either super old new sees number was at zone refers.to);
  }

pub sees_tree_law : SeesTreeLaw
sees_tree_law super old new sound sees = record {
  sound = (sees_law super old new sound sees).sound;
  leads = reached-same super old new sees;
  keeps = sees-keeps super old new sees;
}

-- ---- Names of trees

module _ (super : Super) (old new : Parts) (keeps : KeepsNamed super old new) where
  names-by : (path other : List (List ℕ)) (found : Option ℕ) → reached super old other ≡ found → reached super new path ≡ found → option_map (thing super new) found ≡ option_map (thing super old) found
  names-by path other None was now = refl
  names-by path other (Some number) was now = ap Some (thing-kept super old new keeps number (record { path = other; leads = was }) (record { path = path; leads = now }))

  -- a path that leads where another led
  names-kept : (path other : List (List ℕ)) → reached super new path ≡ reached super old other → names super new path ≡ names super old other
  unfolding names
  names-kept path other same =
      ap (option_map (thing super new)) same ∙ names-by path other (reached super old other) refl same

names-of : (super : Super) (parts : Parts) (path : List (List ℕ)) (found : Option ℕ) → reached super parts path ≡ found → names super parts path ≡ option_map (thing super parts) found
unfolding names
names-of super parts path found leads = ap (option_map (thing super parts)) leads

pub tree_names_law : TreeNamesLaw
tree_names_law super old new path found what tree = record {
  sound = tree.sound;
  here = names-of super new path found tree.here ∙ tree.is;
  others = λ other apart. names-kept super old new tree.keeps other other (tree.others other apart);
}

pub moved_names_law : MovedNamesLaw
moved_names_law super old new former path tree = record {
  sound = tree.sound;
  gone = names-of super new former None tree.gone;
  here = names-kept super old new tree.keeps path former tree.here;
  others = λ other apart away. names-kept super old new tree.keeps other other (tree.others other apart away);
}

named-by : (super : Super) (old new : Parts) (path : List (List ℕ)) (found : Option ℕ) (what : Option Thing) (number : ℕ) (tree : TreeWith super old new path found what) (named : Named super new number)
    → (named.path ≡ path) ⊎ (named.path ≢ path) → Named super old number ⊎ (found ≡ Some number)
named-by super old new path found what number tree named (inl same) = inr (sym tree.here ∙ (ap (reached super new) (sym same) ∙ named.leads))
named-by super old new path found what number tree named (inr apart) = inl (record { path = named.path; leads = sym (tree.others named.path apart) ∙ named.leads })

pub tree_named_law : TreeNamedLaw
tree_named_law super old new path found what number tree named = named-by super old new path found what number tree named (path-cases named.path path)

-- ---- images

pub has_names_law : HasNamesLaw
unfolding names_in
has_names_law volume old image path found what has =
    let n = tree_names_law volume.layout (parts_of volume old) (parts_of volume image) path found what has.tree in
    record { sound = has.sound; here = n.here; others = n.others }

pub has_moved_law : HasMovedLaw
unfolding names_in
has_moved_law volume old image former path has =
    let n = moved_names_law volume.layout (parts_of volume old) (parts_of volume image) former path has.tree in
    record { sound = has.sound; gone = n.gone; here = n.here; others = n.others }

-- ---- before and after

module _ (super : Super) (old mid new : Parts) where
  keeps-after : Sees super old mid → KeepsNamed super mid new → KeepsNamed super old new
  keeps-after sees keeps = keeps_join_law super old mid new (sees-keeps super old mid sees) keeps (λ number was now. named-new super old mid sees number was)

  keeps-before : KeepsNamed super old mid → Sees super mid new → KeepsNamed super old new
  keeps-before keeps sees = keeps_join_law super old mid new keeps (sees-keeps super mid new sees) (λ number was now. named-old super mid new sees number now)

  things-by : Sees super mid new → (path : List (List ℕ)) (found : Option ℕ) → reached super mid path ≡ found → option_map (thing super new) found ≡ option_map (thing super mid) found
  things-by sees path None leads = refl
  things-by sees path (Some number) leads = ap Some (thing-seen super mid new sees number (record { path = path; leads = leads }))

  tree-after : (path : List (List ℕ)) (found : Option ℕ) (what : Option Thing) → Sees super old mid → TreeWith super mid new path found what → TreeWith super old new path found what
  tree-after path found what sees tree = record {
    sound = tree.sound;
    here = tree.here;
    is = tree.is;
    others = λ other apart. tree.others other apart ∙ reached-same super old mid sees other;
    keeps = keeps-after sees tree.keeps;
  }

  tree-before : (path : List (List ℕ)) (found : Option ℕ) (what : Option Thing) → TreeWith super old mid path found what → Sees super mid new → TreeWith super old new path found what
  tree-before path found what tree sees = record {
    sound = (sees_law super mid new tree.sound sees).sound;
    here = reached-same super mid new sees path ∙ tree.here;
    is = things-by sees path found tree.here ∙ tree.is;
    others = λ other apart. reached-same super mid new sees other ∙ tree.others other apart;
    keeps = keeps-before tree.keeps sees;
  }

  moved-after : (former path : List (List ℕ)) → Sees super old mid → TreeMoved super mid new former path → TreeMoved super old new former path
  moved-after former path sees tree = record {
    sound = tree.sound;
    gone = tree.gone;
    here = tree.here ∙ reached-same super old mid sees former;
    others = λ other apart away. tree.others other apart away ∙ reached-same super old mid sees other;
    keeps = keeps-after sees tree.keeps;
  }

  moved-before : (former path : List (List ℕ)) → TreeMoved super old mid former path → Sees super mid new → TreeMoved super old new former path
  moved-before former path tree sees = record {
    sound = (sees_law super mid new tree.sound sees).sound;
    gone = reached-same super mid new sees former ∙ tree.gone;
    here = reached-same super mid new sees path ∙ tree.here;
    others = λ other apart away. reached-same super mid new sees other ∙ tree.others other apart away;
    keeps = keeps-before tree.keeps sees;
  }

pub tree_after_law : TreeAfterLaw
tree_after_law volume old middle image path found what seen has =
    record { sound = has.sound; tree = tree-after volume.layout (parts_of volume old) (parts_of volume middle) (parts_of volume image) path found what seen.sees has.tree }

pub tree_before_law : TreeBeforeLaw
tree_before_law volume old middle image path found what has seen =
    record { sound = seen.sound; tree = tree-before volume.layout (parts_of volume old) (parts_of volume middle) (parts_of volume image) path found what has.tree seen.sees }

pub moved_tree_after_law : MovedTreeAfterLaw
moved_tree_after_law volume old middle image former path seen has =
    record { sound = has.sound; tree = moved-after volume.layout (parts_of volume old) (parts_of volume middle) (parts_of volume image) former path seen.sees has.tree }

pub moved_tree_before_law : MovedTreeBeforeLaw
moved_tree_before_law volume old middle image former path has seen =
    record { sound = seen.sound; tree = moved-before volume.layout (parts_of volume old) (parts_of volume middle) (parts_of volume image) former path has.tree seen.sees }

pub with_after_law : WithAfterLaw
with_after_law volume old middle image path what sound seen names =
    let same_names = seen_sound_law volume old middle sound seen in
    record { sound = names.sound; here = names.here; others = λ other apart. names.others other apart ∙ same_names.same other }

pub with_before_law : WithBeforeLaw
with_before_law volume old middle image path what names seen =
    let same_names = seen_sound_law volume middle image names.sound seen in
    record { sound = same_names.sound; here = same_names.same path ∙ names.here; others = λ other apart. same_names.same other ∙ names.others other apart }

pub moved_after_law : MovedAfterLaw
moved_after_law volume old middle image former path sound seen names =
    let same_names = seen_sound_law volume old middle sound seen in
    record { sound = names.sound; gone = names.gone; here = names.here ∙ same_names.same former; others = λ other apart away. names.others other apart away ∙ same_names.same other }

pub moved_before_law : MovedBeforeLaw
moved_before_law volume old middle image former path names seen =
    let same_names = seen_sound_law volume middle image names.sound seen in
    record { sound = same_names.sound; gone = same_names.same former ∙ names.gone; here = same_names.same path ∙ names.here; others = λ other apart away. same_names.same other ∙ names.others other apart away }
