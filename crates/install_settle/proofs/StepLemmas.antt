-- A name that is removed, and a rename that is finished.
use Rattle.std.proofs.Common.{◌≡◌, ◌<◌, ◌⊎◌, ℕ, true, List, ◌∷◌, Option, Some, None, Result, Ok, Err, OnOk, refl, sym, ◌∙◌, ap, subst, inl, inr}
use Rattle.std.specs.Prelude.{IfSome, is_some, nat_lt}
use Rattle.std.proofs.lemmas.Bool.{ltb-true}
use Rattle.disk_trait.specs.declared.disks.Disks.{Ghosts}
use Rattle.disk_trait.specs.Moments.{IsTold, now}
use Rattle.disk_trait.proofs.MomentLemmas.{told_or_not}
use Rattle.lilo_model.specs.MinixLayout.{Inode, most_links}
use Rattle.lilo_model.specs.MinixNames.{Named, IsSound}
use Rattle.lilo_model.specs.MinixParts.{Parts, parts_of, is_file}
use Rattle.lilo_model.specs.NamePlaces.{with_tilde}
use Rattle.minix_layout.specs.View.{kind_view, super_view, inode_view}
use Rattle.minix_names.specs.Places.{number_found}
use Rattle.minix_remove.specs.Removed.{GainsNoZone, RemovesFile, Removes, AnswersRight}
use Rattle.minix_remove.specs.Renamed.{Renames}
use Rattle.minix_remove.specs.Target.{refusal_of}
use Rattle.minix_remove_laws.specs.Held.{held_name}
use Rattle.minix_change_laws.specs.Tree.{HasTreeWith}
use Rattle.minix_steps.specs.Written.{parts_now}
use Rattle.minix_tree.specs.declared.stat.Stat.{Stat}
use Rattle.minix_choice.specs.declared.write_fault.WriteFault.{WriteFault}
use Rattle.minix_choice.specs.declared.write_fault.WriteFault.TheVariants.{Device}
use Rattle.minix_zones.specs.Volume.{volume_view, past_of, HasDeviceCause}
use Rattle.minix_zones.specs.declared.volume.Volume.{Volume}
use Rattle.install_stage_laws.specs.BeginLaws.{GainsNothing}
use Rattle.install_apart.specs.Names.{IsPair, AreTwins, is_replaceable, is_file_found}
use Rattle.install_apart.specs.declared.name.NamePair.{NamePair}
use Rattle.install_apart.specs.declared.name.OwnName.{OwnName}
use Rattle.install_settle.specs.Found.{is_there, has_link_by, has_link_left}
use Rattle.install_settle.specs.At.{IsAt}
use Rattle.install_settle.specs.Steps.{DoesMap, DoesRemove}
use Rattle.install_settle.specs.declared.settling.LeftMap.TheVariants.{Finish}
use Rattle.install_settle.proofs.GainLemmas.{removable-file, gains_removed, named_gone}
use Rattle.install_settle.proofs.LeadLemmas.{tilde-at, plain-at}
use Rattle.install_settle.proofs.RenameLemmas.{leaves-untold, view-kept, IsMovable, does-rename}
use Rattle.install_settle.proofs.WriteLemmas.{off-removed}

-- ---- what is there

-- something is at a name: its inode has a name, and is a regular file where it may be replaced
pub record IsFileAt (parts : Parts) (own : OwnName) : Type 0 where
  pub stat : Stat
  pub there : own.there ≡ Some stat
  pub regular : is_file (parts.node stat.inode) ≡ true

file-mode : (one other : Inode) → one.mode ≡ other.mode → is_file one ≡ true → is_file other ≡ true
file-mode one other same is = subst (λ (mode : ℕ). is_file (record other { mode = mode }) ≡ true) same is

pub file-at : (parts : Parts) (own : OwnName) → IfSome own.there (λ stat. (inode_view stat.node).mode ≡ (parts.node stat.inode).mode) → is_there own ≡ true → is_replaceable own ≡ true → IsFileAt parts own
file-at parts own mode some file = by own.there refl mode some file
  where
    by : (there : Option Stat) → own.there ≡ there → IfSome there (λ stat. (inode_view stat.node).mode ≡ (parts.node stat.inode).mode) → is_some there ≡ true → is_file_found there ≡ true → IsFileAt parts own
    by None is mode some file = absurd (cc)
    by (Some stat) is mode some file = record { stat = stat; there = is; regular = file-mode (inode_view stat.node) (parts.node stat.inode) mode file }

module _ {D : Type 0} {disks : Ghosts D} (old new : Volume D disks) where
  -- ---- a name is removed

  module _ (own : OwnName) (result : Result (Unit {0}) WriteFault) (some : is_there own ≡ true) (file : is_replaceable own ≡ true)
      (sound : IsTold (past_of old) → IsSound (volume_view old) (now (past_of old))) (removes : Removes old new own.directory own.name result) where
    module _ (told : IsTold (past_of old)) (path : List (List ℕ)) (at : IsAt (super_view old.layout) (parts_now old) path own) where
      found : IsFileAt (parts_now old) own
      found = file-at (parts_now old) own at.mode some file

      held : held_name (super_view old.layout) (parts_now old) own.directory own.name ≡ Some found.stat.inode
      held = at.held ∙ ap number_found found.there

      named : Named (super_view old.layout) (parts_now old) found.stat.inode
      named = record { path = path; leads = at.there ∙ ap number_found found.there }

      answers-by : (r : Result (Unit {0}) WriteFault) → AnswersRight old new own.directory own.name r → HasDeviceCause old new Device r
      answers-by (Ok done) right = tt
      answers-by (Err fault) (inl device) = device
      answers-by (Err fault) (inr refused) =
          let removable = removable-file ((parts_now old).node found.stat.inode) found.regular in
          let none : refusal_of (parts_now old) (held_name (super_view old.layout) (parts_now old) own.directory own.name) ≡ None = ap (refusal_of (parts_now old)) held ∙ rw removable refl in
          let is = refused.is in
          cc

      parts-same : parts_now new ≡ parts_of (volume_view old) (now (past_of new))
      parts-same = view-kept old new removes.kept

      -- no inode refers to another zone
      gains-told : (t : IsTold (past_of old)) (r : Result (Unit {0}) WriteFault) → OnOk r (HasTreeWith (volume_view old) (now (past_of old)) (now (past_of new)) (own.name ∷ at.above) None None)
          → OnOk r ((number : ℕ) → held_name (super_view old.layout) (parts_now old) own.directory own.name ≡ Some number → RemovesFile (super_view old.layout) (parts_now old) (parts_now new) own.directory number)
          → OnOk r (GainsNoZone (super_view old.layout) (parts_now old) (parts_now new) own.directory)
          → OnOk r (GainsNothing (volume_view old) (now (past_of old)) (now (past_of new)))
      gains-told t (Ok done) tree file zones =
          gains_removed (volume_view old) (now (past_of old)) (now (past_of new)) (sound t) own.directory (record { path = at.above; leads = at.leads })
          (named_gone (volume_view old) (now (past_of old)) (now (past_of new)) (own.name ∷ at.above) tree) tree.tree.keeps
          (subst (λ (n : Parts). GainsNoZone (super_view old.layout) (parts_now old) n own.directory) parts-same zones)
          found.stat.inode found.regular
          (subst (λ (n : Parts). RemovesFile (super_view old.layout) (parts_now old) n own.directory found.stat.inode) parts-same (file found.stat.inode held))
      gains-told t (Err fault) tree file zones = tt

      does-told : DoesRemove old new path result
      does-told =
          let leads = removes.leads at.above (λ t. at.leads) in
          subst (λ (p : List (List ℕ)). DoesRemove old new p result) (sym at.is)
          (record {
            any_moment = leads.any_moment;
            left = leads.held;
            done = leads.done;
            others = λ t place not. removes.others t found.stat.inode held place.disk place.sector
                (off-removed old (sound t) own.directory (record { path = at.above; leads = at.leads }) at.directory place.disk place.sector not found.stat.inode named);
            gains = λ t. gains-told t result (leads.done t) (removes.file t) (removes.gains t);
            device = λ t. answers-by result (removes.answers t);
            goes_on = removes.goes_on;
            kept = removes.kept;
          })

    pub does-remove : (path : List (List ℕ)) → (IsTold (past_of old) → IsAt (super_view old.layout) (parts_now old) path own) → DoesRemove old new path result
    does-remove path at = by (told_or_not (past_of old))
      where
        by : IsTold (past_of old) ⊎ (IsTold (past_of old) → ⊥) → DoesRemove old new path result
        by (inl told) = does-told told path (at told)
        by (inr none) = record {
          any_moment = leaves-untold (past_of old) (past_of new) _ none (λ told. none (removes.goes_on.told_before told));
          left = λ told. absurd (none told);
          done = λ told. absurd (none told);
          others = λ told place not. absurd (none told);
          gains = λ told. absurd (none told);
          device = λ told. absurd (none told);
          goes_on = removes.goes_on;
          kept = removes.kept;
        }

  -- ---- a rename is finished

  module _ (pair : NamePair) (result : Result (Unit {0}) WriteFault) (twins : AreTwins pair) (some : is_there pair.tilde ≡ true) (link : has_link_left (kind_view old.layout.kind) pair ≡ true)
      (plain : is_replaceable pair.plain ≡ true) (file : is_replaceable pair.tilde ≡ true)
      (sound : IsTold (past_of old) → IsSound (volume_view old) (now (past_of old))) (renames : Renames old new pair.tilde.directory pair.tilde.name pair.plain.name result) where
    module _ (path : List (List ℕ)) (names : IsPair (super_view old.layout) (parts_now old) path pair) where
      one : IsAt (super_view old.layout) (parts_now old) path pair.plain
      one = plain-at (super_view old.layout) (parts_now old) path pair.plain names.plain plain

      other : IsAt (super_view old.layout) (parts_now old) (with_tilde path) pair.tilde
      other = tilde-at (super_view old.layout) (parts_now old) path pair.tilde names.tilde

      moved : IsFileAt (parts_now old) pair.tilde
      moved = file-at (parts_now old) pair.tilde other.mode some file

      former-by : (there : Option Stat) → IfSome there (λ stat. (inode_view stat.node).mode ≡ ((parts_now old).node stat.inode).mode) → is_file_found there ≡ true
          → IfSome (number_found there) (λ number. is_file ((parts_now old).node number) ≡ true)
      former-by None mode is = tt
      former-by (Some stat) mode is = file-mode (inode_view stat.node) ((parts_now old).node stat.inode) mode is

      links-by : (there : Option Stat) (stat : Stat) → inode_view stat.node ≡ (parts_now old).node stat.inode → has_link_by (kind_view old.layout.kind) there (Some stat) ≡ true
          → IfSome (number_found there) (λ number. ((parts_now old).node stat.inode).links < most_links (kind_view old.layout.kind))
      links-by None stat node left = tt
      links-by (Some former) stat node left =
          ltb-true ((parts_now old).node stat.inode).links (most_links (kind_view old.layout.kind))
          (subst (λ (i : Inode). nat_lt i.links (most_links (kind_view old.layout.kind)) ≡ true) node left)

      node-of : inode_view moved.stat.node ≡ (parts_now old).node moved.stat.inode
      node-of = let N : Option Stat → Type 0 = λ there. IfSome there (λ stat. inode_view stat.node ≡ (parts_now old).node stat.inode) in subst N moved.there names.tilde.node

      link-of : has_link_by (kind_view old.layout.kind) pair.plain.there (Some moved.stat) ≡ true
      link-of = ap (has_link_by (kind_view old.layout.kind) pair.plain.there) (sym moved.there) ∙ link

      movable : IsMovable (super_view old.layout) (parts_now old) path pair.tilde.directory pair.tilde.name pair.plain.name
      movable = record {
        above = one.above;
        is = one.is;
        twin = twins.name;
        leads = one.leads ∙ ap Some (sym twins.directory);
        directory_is = other.directory;
        moved = moved.stat.inode;
        there = other.there ∙ ap number_found moved.there;
        held_from = other.held ∙ ap number_found moved.there;
        held_to = ap (λ (d : ℕ). held_name (super_view old.layout) (parts_now old) d pair.plain.name) twins.directory ∙ (one.held ∙ sym one.there);
        regular = moved.regular;
        former = let F : Option ℕ → Type 0 = λ found. IfSome found (λ number. is_file ((parts_now old).node number) ≡ true) in
            subst F (sym one.there) (former-by pair.plain.there one.mode plain);
        link = let L : Option ℕ → Type 0 = λ found. IfSome found (λ number. ((parts_now old).node moved.stat.inode).links < most_links (kind_view old.layout.kind)) in
            subst L (sym one.there) (links-by pair.plain.there moved.stat node-of link-of);
      }

    pub does-finish : (path : List (List ℕ)) → (IsTold (past_of old) → IsPair (super_view old.layout) (parts_now old) path pair) → DoesMap old new path Finish result
    does-finish path names = does-rename old new pair.tilde.directory pair.tilde.name pair.plain.name result sound renames path (λ told. movable path (names told))
