-- Which paths lead where they led.
use Rattle.std.proofs.Common.{◌≡◌, ◌≢◌, ℕ, Bool, true, false, if◌then◌else◌, List, [], ◌∷◌, ◌++◌, codes, length, get_or, length-append, arith, Option, None, Some, refl, sym, ◌∙◌, ap, subst}
use Rattle.std.specs.Prelude.{IfSome}
use Rattle.lilo_model.specs.Disks.{Image}
use Rattle.lilo_model.specs.MinixLayout.{Super}
use Rattle.lilo_model.specs.MinixNames.{reached}
use Rattle.lilo_model.specs.MinixParts.{Volume, Parts, parts_of, is_directory, is_file}
use Rattle.lilo_model.specs.NamePlaces.{with_tilde}
use Rattle.lilo_model.specs.Settled as model
use Rattle.minix_layout.specs.View.{inode_view}
use Rattle.minix_names.specs.Places.{number_found}
use Rattle.minix_remove_laws.proofs.Held.{no-directory}
use Rattle.minix_change_laws.specs.Tree.{KeepsNamed}
use Rattle.minix_tree.specs.declared.stat.Stat.{Stat}
use Rattle.install_apart.specs.Names.{is_replaceable, is_file_found}
use Rattle.install_apart.specs.declared.name.OwnName.{OwnName}
use Rattle.install_settle.specs.At.{IsAt}
use Rattle.install_settle.specs.Settles.{LeadsAsIn, stale_of}
use Rattle.install_settle.proofs.GainLemmas.{removable-file}

-- ---- paths that differ

-- a path that ends with a name isn't the one with `~`
pub tilde-differs : (path : List (List ℕ)) (name : List ℕ) (above : List (List ℕ)) → path ≡ name ∷ above → path ≢ with_tilde path
tilde-differs path name above is same =
    let tilde : with_tilde path ≡ (name ++ codes "~") ∷ above = ap with_tilde is in
    let both : name ∷ above ≡ (name ++ codes "~") ∷ above = sym is ∙ (same ∙ tilde) in
    let names : name ≡ name ++ codes "~" = ap (λ (p : List (List ℕ)). get_or p 0 []) both in
    let long : length name ≡ length (name ++ codes "~") = ap length names in
    let sum = length-append name (codes "~") in
    omega (arith, long, sum)

-- a file and a directory aren't at one path
pub file-apart : (super : Super) (parts : Parts) (path above : List (List ℕ)) (own : OwnName) (directory : ℕ) → IsAt super parts path own → is_replaceable own ≡ true
    → reached super parts above ≡ Some directory → is_directory (parts.node directory) ≡ true → above ≢ path
file-apart super parts path above own directory at file leads is same = by own.there refl at.mode file
  where
    both : number_found own.there ≡ Some directory
    both = sym at.there ∙ (ap (reached super parts) (sym same) ∙ leads)

    by : (there : Option Stat) → own.there ≡ there → IfSome there (λ stat. (inode_view stat.node).mode ≡ (parts.node stat.inode).mode) → is_file_found there ≡ true → ⊥
    by None none mode file = let e : None ≡ Some directory = sym (ap number_found none) ∙ both in cc
    by (Some stat) some mode file =
        let e : Some stat.inode ≡ Some directory = sym (ap number_found some) ∙ both in
        let inode : stat.inode ≡ directory = cc in
        let regular : is_file (parts.node stat.inode) ≡ true = subst (λ (m : ℕ). is_file (record (parts.node stat.inode) { mode = m }) ≡ true) mode file in
        let at' : is_file (parts.node directory) ≡ true = subst (λ (n : ℕ). is_file (parts.node n) ≡ true) inode regular in
        let none = no-directory (parts.node directory) (removable-file (parts.node directory) at') in
        cc

-- the stale copy's path, where one is removed
pub stale-copy : (names : model.OwnNames) (forced copy : Bool) (backup : List (List ℕ)) → copy ≡ true → stale_of forced names ≡ Some backup → stale_of copy names ≡ Some backup
stale-copy names forced copy backup on stale = by copy on forced stale
  where
    by : (copy : Bool) → copy ≡ true → (forced : Bool) → (if forced then names.backup else None) ≡ Some backup → (if copy then names.backup else None) ≡ Some backup
    by true on true is = is
    by true on false is = cc
    by false on forced is = cc

-- ---- paths that lead where they led

module _ (volume : Volume) (path : List (List ℕ)) where
  abbrev Leads : Image → Option ℕ
  Leads image = reached volume.layout (parts_of volume image) path

  abbrev SameMode : Image → Image → Option ℕ → Type 0
  SameMode old c found = IfSome found (λ number. ((parts_of volume c).node number).mode ≡ ((parts_of volume old).node number).mode)

  -- an inode that keeps its name keeps its mode
  pub leads-kept : (old c : Image) → KeepsNamed volume.layout (parts_of volume old) (parts_of volume c) → Leads c ≡ Leads old → LeadsAsIn volume old c path
  leads-kept old c keeps same = record { leads = same; mode = by (Leads old) refl }
    where
      by : (found : Option ℕ) → Leads old ≡ found → SameMode old c found
      by None is = tt
      by (Some number) is = keeps.modes number (record { path = path; leads = is }) (record { path = path; leads = same ∙ is })

  pub leads-join : (old mid c : Image) → LeadsAsIn volume old mid path → LeadsAsIn volume mid c path → LeadsAsIn volume old c path
  leads-join old mid c first next = record { leads = next.leads ∙ first.leads; mode = by (Leads old) first.mode (subst (SameMode mid c) first.leads next.mode) }
    where
      by : (found : Option ℕ) → SameMode old mid found → SameMode mid c found → SameMode old c found
      by None one other = tt
      by (Some number) one other = other ∙ one
