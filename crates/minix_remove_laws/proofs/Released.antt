-- An inode whose name is gone.
use Rattle.std.proofs.Common.{◌≡◌, ◌≢◌, ◌≤◌, ℕ, List, [], ◌∷◌, Some, arith, ⊎_elim}
use Rattle.lilo_model.specs.MinixLayout.{Super}
use Rattle.lilo_model.specs.MinixNames.{reached, Named, Sound}
use Rattle.lilo_model.specs.MinixParts.{Parts}
use Rattle.minix_change_laws.proofs.Change.{path-cases}
use Rattle.minix_change_laws.specs.Enter.{BecomesFree, IsOnlyName}
use Rattle.minix_change_laws.proofs.Names.{remove_last_law}
use Rattle.minix_change_laws.proofs.Only.{named-node, named-above}
use Rattle.minix_change_laws.proofs.Replace.{remove_lower_law}
use Rattle.minix_change_laws.proofs.Inode.{points-old, points-new}
use Rattle.minix_remove_laws.specs.Held.{HoldsName, MayGoFrom}
use Rattle.minix_remove_laws.specs.Laws.{ReleasedLaw}
use Rattle.minix_remove_laws.proofs.Held.{held_law}

-- ---- with one link it had one name

pub only-name : (super : Super) (parts : Parts) (path : List (List ℕ)) (number : ℕ) → Sound super parts → reached super parts path ≡ Some number → number ≢ 1
    → (parts.node number).links ≤ 1 → IsOnlyName super parts path number
only-name super parts path number sound leads root few = record {
  leads = leads;
  only = λ other leads'. ⊎_elim
      (λ same. same)
      (λ apart. let two = sound.links number (other ∷ (path ∷ [])) root ((apart, tt), (tt, tt)) (leads', (leads, tt)) in absurd (omega (arith, two, few)))
      (path-cases other path);
}

-- ---- what is left of it

module _ (super : Super) (old new : Parts) (directory place number : ℕ) (name : List ℕ) (sound : Sound super old) (holds : HoldsName super old directory place number name) (becomes : BecomesFree super old new directory place) where
  abbrev Outer : List (List ℕ)
  Outer = holds.entry.named.path

  goes : MayGoFrom super old Outer directory place number name
  goes = held_law super old Outer directory place number name sound holds.entry.named.leads holds

  named : Named super old number
  named = record { path = name ∷ Outer; leads = goes.leads }

pub released_law : ReleasedLaw
released_law super old new directory place number name sound holds becomes =
    let may = goes super old new directory place number name sound holds becomes in
    let had = named super old new directory place number name sound holds becomes in
    let outer = holds.entry.named.path in
    let numbers = (named-node super old new directory place sound becomes.only number had).numbers in
    let above = named-above super old new directory place sound becomes.only number had in
    record {
      is = becomes.only.nodes number had;
      enough = λ links is paths root distinct lead.
          let few = remove_lower_law super old new outer directory place number name sound may.may becomes paths distinct lead in
          omega (arith, few, is);
      left = λ few. remove_last_law super old new outer directory place number name sound may.may
          (only-name super old (name ∷ outer) number sound may.leads may.root few) becomes;
      points = λ at zone to. points-old super old new number numbers above at zone to;
      stays = λ at zone to. points-new super old new number numbers above at zone to;
      range = λ at zone to. sound.zone_range number at zone (record { named = had; to = points-old super old new number numbers above at zone to });
    }
