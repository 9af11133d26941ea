-- What is marked once a file was made.
use Rattle.std.proofs.Common.{◌≡◌, ◌≢◌, ◌≤◌, ◌==◌, ◌||◌, ℕ, Bool, true, false, List, Option, Some, sym, ◌∙◌, ap, subst, ⊎_elim, arith, eq-eqb}
use Rattle.std.proofs.lemmas.Bool.{cases_Bool, cases_eq, false_from_ne_true, or_left, or_right}
use Rattle.std.proofs.lemmas.List.Elements.{Contains-get_or}
use Rattle.lilo_model.specs.MinixLayout.{Super, Inode}
use Rattle.lilo_model.specs.MinixNames.{Named, PointsTo, Sound, reached}
use Rattle.lilo_model.specs.MinixParts.{Parts, Pointer, is_directory, is_file}
use Rattle.minix_change_laws.specs.Beside.{IsInode, IsDataZone}
use Rattle.minix_change_laws.proofs.Kept.{same-is-but-links}
use Rattle.minix_create.specs.Linked.{MarksLinked}
use Rattle.minix_create.specs.declared.chosen.Chosen.{Chosen}
use Rattle.minix_grow.specs.Others.{IsNoneOf, KeepsNodes, SameButLinksAndZones}
use Rattle.minix_remove.specs.Removed.{FreesInode}
use Rattle.minix_remove.specs.Renamed.{RenamesFiles}
use Rattle.minix_remove_laws.proofs.Held.{no-directory}
use Rattle.minix_steps.specs.Numbers.{has_number}
use Rattle.minix_steps.proofs.SetLemmas.{has_from}
use Rattle.install_settle.proofs.GainLemmas.{removable-file}
use Rattle.install_stage.specs.Within.{is_chosen, is_inode_of}
use Rattle.install_stage_laws.specs.Marked.{IsFreed, IsOwnedAs, KeepsMarkedBut}
use Rattle.install_stage_laws.proofs.Marked.{clash, or_more, owned_links, same_links}

owned-zones : (old new : Inode) → SameButLinksAndZones old new → IsOwnedAs old new
owned-zones old new same = record {
  mode = ap (λ (i : Inode). i.mode) same;
  user = ap (λ (i : Inode). i.uid) same;
  group = ap (λ (i : Inode). i.gid) same;
  times = ap (λ (i : Inode). i.times) same;
}

module _ (super : Super) (old new : Parts) (chosen : Chosen) (linked : MarksLinked super old new chosen) (nodes : KeepsNodes super old new chosen.directory chosen.choice.inode)
    (directory : is_directory (old.node chosen.directory) ≡ true) where
  no-growth : (zone : ℕ) → has_number chosen.choice.growth zone ≡ false → IsNoneOf chosen.choice.growth zone
  no-growth zone none at low same =
      clash (sym none ∙ subst (λ (z : ℕ). has_number chosen.choice.growth z ≡ true) same (has_from chosen.choice.growth _ (Contains-get_or chosen.choice.growth at 0 low)))

  zone-by : (zone : ℕ) → IsDataZone super zone → new.has_zone zone ≡ true → (old.has_zone zone || is_chosen chosen zone) ≡ true
  zone-by zone is set = ⊎_elim
      (λ (grown : has_number chosen.choice.growth zone ≡ true).
      or_right (old.has_zone zone) (is_chosen chosen zone) (or_right (has_number chosen.choice.zones zone) (has_number chosen.choice.growth zone) grown))
      (λ (none : has_number chosen.choice.growth zone ≡ false).
      or_more (old.has_zone zone) (has_number chosen.choice.zones zone) (is_chosen chosen zone) (or_left (has_number chosen.choice.zones zone) (has_number chosen.choice.growth zone))
      (sym (linked.zones zone is (no-growth zone none)) ∙ set))
      (cases_Bool (has_number chosen.choice.growth zone))

  other-inode : (number : ℕ) → is_inode_of chosen number ≡ false → number ≢ chosen.choice.inode
  other-inode number none same = clash (sym none ∙ eq-eqb number chosen.choice.inode same)

  other-directory : (number : ℕ) → is_directory (old.node number) ≡ false → number ≢ chosen.directory
  other-directory number plain same = clash (sym plain ∙ subst (λ (n : ℕ). is_directory (old.node n) ≡ true) (sym same) directory)

  pub made_marks : KeepsMarkedBut super (is_inode_of chosen) (is_chosen chosen) old new
  made_marks = record {
    marks = λ number is set. sym (linked.inodes number is) ∙ set;
    zone_marks = λ zone is set. zone-by zone is set;
    owners = λ number is set none. ⊎_elim
        (λ same. subst (λ (n : ℕ). IsOwnedAs (old.node n) (new.node n)) (sym same) (owned-zones (old.node chosen.directory) (new.node chosen.directory) nodes.own))
        (λ apart. owned_links (old.node number) (new.node number) (same-is-but-links (old.node number) (new.node number) (nodes.others number is apart (other-inode number none))))
        (cases_eq number chosen.directory);
    files = λ number is set none plain.
        let same = nodes.others number is (other-directory number plain) (other-inode number none) in
        (same-is-but-links (old.node number) (new.node number) same, same_links (old.node number) (new.node number) same);
  }

-- ---- a file whose name another one took is freed, where it had no other

-- since parts in which the path led to it as it did, and beside what was made nothing is marked that wasn't
pub replaced_freed : (super : Super) (old mid new : Parts) (made zones : ℕ → Bool) (directory former : ℕ) (path : List (List ℕ)) → Sound super old → Sound super mid
    → reached super old path ≡ Some former → reached super mid path ≡ Some former → KeepsMarkedBut super made zones old mid
    → ((number : ℕ) → made number ≡ true → old.has_inode number ≡ false)
    → ((at : Pointer) (zone : ℕ) → PointsTo super old former at zone → PointsTo super mid former at zone) → is_file (mid.node former) ≡ true
    → RenamesFiles super mid new directory (reached super mid path) → (old.node former).links ≤ 1 → IsFreed super old former new
replaced_freed super old mid new made zones directory former path sound sound-mid leads leads-mid keeps unmarked points file renames few =
    record { mark = frees.mark; zone_marks = λ at zone to. frees.zone_marks at zone (points at zone to) }
  where
    named : Named super old former
    named = record { path = path; leads = leads }

    set-mid : mid.has_inode former ≡ true
    set-mid = sound-mid.marked former (record { path = path; leads = leads-mid })

    not-made : made former ≡ false
    not-made = false_from_ne_true (made former) (λ its. clash (sym (unmarked former its) ∙ sound.marked former named))

    plain : is_directory (old.node former) ≡ false
    plain =
        let mode = (keeps.owners former (sound.in_range former named) set-mid not-made).mode in
        no-directory (old.node former) (removable-file (old.node former) (rw (sym mode) file))

    few-mid : (mid.node former).links ≤ 1
    few-mid = let less = (keeps.files former (sound.in_range former named) set-mid not-made plain).1 in omega (arith, less, few)

    frees : FreesInode super mid new former
    frees = (subst (λ (o : Option ℕ). RenamesFiles super mid new directory o) leads-mid renames).freed few-mid
