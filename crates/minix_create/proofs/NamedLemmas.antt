-- What may get a name still may where its inode and its zones stay.
use Rattle.std.proofs.Common.{◌≡◌, ◌≢◌, ◌<◌, ℕ, true, List, length, sym, ◌∙◌, ap, subst, inl, inr, ⊎_elim}
use Rattle.lilo_model.specs.MinixEntries.{entry_with, here_name, above_name}
use Rattle.lilo_model.specs.MinixLayout.{Super, Inode}
use Rattle.lilo_model.specs.MinixNames.{thing, Named}
use Rattle.lilo_model.specs.MinixParts.{Parts, is_directory}
use Rattle.minix_change_laws.specs.Comes.{IsFit}
use Rattle.minix_change_laws.specs.Enter.{MayStand, DirectoryMayStand}
use Rattle.minix_change_laws.specs.Only.{KeepsInode}
use Rattle.minix_change_laws.specs.Sees.{Sees}
use Rattle.minix_change_laws.proofs.Inode.{IsSameNode, same-node, directory-zones, has_entry-same, has_entry-kept, lookup-same, thing-same}
use Rattle.minix_change_laws.proofs.Sees.{named-old, all_lead-old}
use Rattle.minix_create.specs.Entered.{MayBeNamed}

module _ (super : Super) (old new : Parts) (number : ℕ) (kept : KeepsInode super old new number) where
  node : IsSameNode (old.node number) (new.node number)
  node = same-node (old.node number) (new.node number) kept.node

  pub thing_kept : thing super new number ≡ thing super old number
  thing_kept = thing-same super old new number node kept.zones

  module _ (sees : Sees super old new) (fit : IsFit super new number) where
    stands-kept : MayStand super old number → MayStand super new number
    stands-kept may = record {
      file = rw kept.node may.file;
      fit = fit;
      links = λ paths distinct lead. subst (λ (i : Inode). length paths < i.links) (sym kept.node) (may.links paths distinct (all_lead-old super old new sees number paths lead));
    }

    directory-kept : (outer : List (List ℕ)) (directory : ℕ) → DirectoryMayStand super old outer directory number → DirectoryMayStand super new outer directory number
    directory-kept outer directory may =
        let zones = directory-zones old number may.is in
        let back = has_entry-same super old new number node kept.zones zones in
        let forth = has_entry-kept super old new number node kept.zones zones in
        record {
          is = rw kept.node may.is;
          fit = fit;
          some_link = rw kept.node may.some_link;
          fresh = record {
            unnamed = λ named. may.fresh.unnamed (named-old super old new sees number named);
            empty = λ name. lookup-same super old new number node kept.zones name ∙ may.fresh.empty name;
            no_twice = λ place other inode inode' name some some' one two.
                may.fresh.no_twice place other inode inode' name some some' (back place (entry_with inode name) one) (back other (entry_with inode' name) two);
            here = (may.fresh.here.0, forth may.fresh.here.0 (entry_with number here_name) may.fresh.here.1);
            above = (may.fresh.above.0, forth may.fresh.above.0 (entry_with directory above_name) may.fresh.above.1);
            depth = may.fresh.depth;
          };
        }

    pub named_kept : (outer : List (List ℕ)) (directory : ℕ) → MayBeNamed super old outer directory number → MayBeNamed super new outer directory number
    named_kept outer directory may = ⊎_elim (λ stands. inl (stands-kept stands)) (λ stands. inr (directory-kept outer directory stands)) may

-- it isn't a directory that has a name
pub not_named : (super : Super) (parts : Parts) (outer : List (List ℕ)) (directory number : ℕ) → Named super parts directory → is_directory (parts.node directory) ≡ true
    → MayBeNamed super parts outer directory number → number ≢ directory
not_named super parts outer directory number named is may same = ⊎_elim
    (λ stands. let file = stands.file in let t = ap (λ n. is_directory (parts.node n)) same ∙ is in cc)
    (λ stands. stands.fresh.unnamed (let P : ℕ → Type 0 = λ n. Named super parts n in subst P (sym same) named))
    may

pub fit_named : (super : Super) (parts : Parts) (outer : List (List ℕ)) (directory number : ℕ) → MayBeNamed super parts outer directory number → IsFit super parts number
fit_named super parts outer directory number may = ⊎_elim (λ stands. stands.fit) (λ stands. stands.fit) may
