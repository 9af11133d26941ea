-- Where one name takes the place of another, no named inode refers to another zone than before, and no bit is set that wasn't.
use Rattle.std.proofs.Common.{◌≡◌, ℕ, true, false, List, Option, Some, None, refl, sym, ◌∙◌, ap, subst, ⊎_elim}
use Rattle.std.proofs.lemmas.Bool.{cases_eq, cases_lt}
use Rattle.lilo_model.specs.MinixLayout.{Super}
use Rattle.lilo_model.specs.MinixNames.{reached, Named, PointsTo, Refers, Sound}
use Rattle.lilo_model.specs.MinixParts.{Parts, Pointer, is_directory}
use Rattle.minix_change_laws.specs.Beside.{IsInode, IsDataZone}
use Rattle.minix_change_laws.proofs.Change.{path-cases}
use Rattle.minix_remove.specs.Removed.{GainsNoZone}
use Rattle.minix_remove.specs.Renamed.{RenamesFiles}
use Rattle.minix_remove_laws.proofs.Files.{points-before}
use Rattle.minix_change_laws.specs.Tree.{KeepsNamed, TreeMoved}
use Rattle.minix_change_laws.proofs.Inode.{HasSameNumbers, same-node, same-but-links}

-- what has a name then had one
pub named_back : (super : Super) (old new : Parts) (former path : List (List ℕ)) → TreeMoved super old new former path
    → (number : ℕ) → Named super new number → Named super old number
named_back super old new former path tree number is = ⊎_elim
    (λ gone.
    let none : None ≡ Some number = sym tree.gone ∙ (ap (reached super new) (sym gone) ∙ is.leads) in
    absurd (clash none))
    (λ apart. ⊎_elim
    (λ here. record { path = former; leads = sym tree.here ∙ (ap (reached super new) (sym here) ∙ is.leads) })
    (λ off. record { path = is.path; leads = sym (tree.others is.path apart off) ∙ is.leads })
    (path-cases is.path path))
    (path-cases is.path former)
  where
    clash : None ≡ Some number → ⊥
    clash e = cc

module _ (super : Super) (old new : Parts) (directory : ℕ) (sound : Sound super old) (there : Named super old directory) (keeps : KeepsNamed super old new) where
  -- the bytes of the zones beside the directory's
  beside-bytes : (former : Option ℕ) → RenamesFiles super old new directory former → (zone : ℕ) → IsDataZone super zone
      → ((at : Pointer) → PointsTo super old directory at zone → ⊥) → new.zone zone ≡ old.zone zone
  beside-bytes None files = files.bytes
  beside-bytes (Some number) files = files.bytes

  -- the inode that lost a name is no directory
  abbrev IsBeside : Option ℕ → Type 0
  IsBeside former = (number : ℕ) → former ≡ Some number → Named super old number × (is_directory (old.node number) ≡ false)

  same-numbers : (former : Option ℕ) → RenamesFiles super old new directory former → IsBeside former
      → (number : ℕ) → Named super old number → Named super new number → HasSameNumbers (old.node number) (new.node number)
  same-numbers None files beside number was now = (same-node (old.node number) (new.node number) (files.nodes number (sound.in_range number was))).numbers
  same-numbers (Some gone) files beside number was now = ⊎_elim
      (λ same.
      let file : is_directory (old.node number) ≡ false = subst (λ (n : ℕ). is_directory (old.node n) ≡ false) (sym same) (beside gone refl).1 in
      (same-but-links (old.node number) (new.node number) (keeps.files number was now file)).numbers)
      (λ apart. (same-node (old.node number) (new.node number) (files.others number (sound.in_range number was) apart)).numbers)
      (cases_eq number gone)

  module _ (former : Option ℕ) (files : RenamesFiles super old new directory former) (beside : IsBeside former) where
    pub refers_back : GainsNoZone super old new directory → ((number : ℕ) → Named super new number → Named super old number)
        → (number : ℕ) (at : Pointer) (zone : ℕ) → Refers super new number at zone → Refers super old number at zone
    refers_back gains back number at zone refers =
        let was = back number refers.named in
        let to : PointsTo super old number at zone = ⊎_elim
        (λ same. subst (λ (n : ℕ). PointsTo super old n at zone) (sym same) (gains at zone (subst (λ (n : ℕ). PointsTo super new n at zone) same refers.to)))
        (λ apart. points-before super old new directory number sound there was apart (beside-bytes former files) (same-numbers former files beside number was refers.named) at zone refers.to)
        (cases_eq number directory) in
        record { named = was; to = to }

  -- ---- bits

  -- a bit that was clear is clear
  pub inode_clear : (former : Option ℕ) → RenamesFiles super old new directory former → (number : ℕ) → IsInode super number
      → old.has_inode number ≡ false → new.has_inode number ≡ false
  inode_clear None files number in' free = files.marks number in' ∙ free
  inode_clear (Some gone) files number in' free = ⊎_elim
      (λ more. (files.lowered more).marks number in' ∙ free)
      (λ few. ⊎_elim
      (λ same. subst (λ (n : ℕ). new.has_inode n ≡ false) (sym same) (files.freed few).mark)
      (λ apart. (files.freed few).other_marks number in' apart ∙ free)
      (cases_eq number gone))
      (cases_lt 1 (old.node gone).links)

  pub zone_clear : (former : Option ℕ) → RenamesFiles super old new directory former → IsBeside former → (zone : ℕ) → IsDataZone super zone
      → old.has_zone zone ≡ false → new.has_zone zone ≡ false
  zone_clear None files beside zone in' free = files.zone_marks zone in' ∙ free
  zone_clear (Some gone) files beside zone in' free = ⊎_elim
      (λ more. (files.lowered more).zone_marks zone in' ∙ free)
      (λ few. (files.freed few).other_zone_marks zone in' (λ at to. unmarked at to) ∙ free)
      (cases_lt 1 (old.node gone).links)
    where
      -- the zones of the inode are marked
      unmarked : (at : Pointer) → PointsTo super old gone at zone → ⊥
      unmarked at to =
          let marked = sound.zone_marked gone at zone (record { named = (beside gone refl).0; to = to }) in
          let both : true ≡ false = sym marked ∙ free in
          cc
