-- Links of an inode that may have no name.
use Rattle.std.proofs.Common.{◌≡◌, ◌≢◌, ◌≤◌, ℕ, List, [], ◌∷◌, length, sym, ◌∙◌, ap, subst, arith}
use Rattle.lilo_model.specs.MinixLayout.{Super, Inode}
use Rattle.lilo_model.specs.MinixNames.{Named, AllLead, AreDistinct, Sound}
use Rattle.lilo_model.specs.MinixParts.{Parts}
use Rattle.minix_change_laws.specs.Changes.{AreEnough, ChangesNode}
use Rattle.minix_change_laws.proofs.Extends.{of-node}
use Rattle.minix_change_laws.specs.Sees.{with_links, SameButLinks, Sees}
use Rattle.minix_change_laws.proofs.Kept.{same-is-but-links, links_law}
use Rattle.minix_remove_laws.specs.Laws.{AnyLinksLaw}

module _ (super : Super) (old new : Parts) (number links : ℕ) (sound : Sound super old) (enough : AreEnough super old number links)
    (change : ChangesNode super old new number (with_links (old.node number) links)) where
  own-links : (new.node number).links ≡ links
  own-links = ap (λ (i : Inode). i.links) change.here

  own : SameButLinks (old.node number) (new.node number)
  own = change.here ∙ ap (with_links (old.node number)) (sym own-links)

  stays : (other : ℕ) → Named super old other → other ≢ number → new.node other ≡ old.node other
  stays other named apart = change.others other (sound.in_range other named) apart

  links-by : (other : ℕ) (paths : List (List (List ℕ))) → other ≢ 1 → AreDistinct paths → AllLead super old other paths → length paths ≤ (new.node other).links
  links-by other [] root distinct lead = omega arith
  links-by other (path ∷ paths) root distinct lead =
      of-node number (λ n. n ≢ 1 → AllLead super old n (path ∷ paths) → length (path ∷ paths) ≤ (new.node n).links) other
      (λ root' lead'. subst (λ n. length (path ∷ paths) ≤ n) (sym own-links) (enough (path ∷ paths) root' distinct lead'))
      (λ apart root' lead'.
      subst (λ (i : Inode). length (path ∷ paths) ≤ i.links) (sym (stays other (record { path = path; leads = lead.0 }) apart)) (sound.links other (path ∷ paths) root' distinct lead'))
      root lead

  pub any-links : Sees super old new
  any-links = links_law super old new sound (record {
    nodes = λ other named. of-node number (λ n. SameButLinks (old.node n) (new.node n)) other own (λ apart. same-is-but-links (old.node other) (new.node other) (stays other named apart));
    links = links-by;
    marks = λ other named. change.marks other (sound.in_range other named);
    zones = λ other at zone refers. change.zones zone (sound.zone_range other at zone refers);
    zone_marks = λ other at zone refers. change.zone_marks zone (sound.zone_range other at zone refers);
  })

pub any_links_law : AnyLinksLaw
any_links_law super old new number links sound enough change = any-links super old new number links sound enough change
