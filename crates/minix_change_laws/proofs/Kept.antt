-- Parts that keep what has a name, or all but links, are seen as before.
use Rattle.std.proofs.Common.{◌≡◌, ◌≢◌, ℕ, ◌<◌, ◌≤◌, true, List, [], ◌∷◌, length, sym, ◌∙◌, ap, subst, arith, inl}
use Rattle.lilo_model.specs.MinixLayout.{Super, Inode, reach, is_size}
use Rattle.lilo_model.specs.MinixParts.{Parts, Pointer, blocks_for}
use Rattle.lilo_model.specs.MinixEntries.{places}
use Rattle.lilo_model.specs.MinixNames.{Named, PointsTo, AllLead, AreDistinct, Sound}
use Rattle.minix_change_laws.specs.Keeps.{Keeps}
use Rattle.minix_change_laws.specs.Sees.{with_links, SameButLinks, KeepsButLinks, Sees}
use Rattle.minix_change_laws.specs.SeesLaws.{LinksLaw, KeptIsSeenLaw}
use Rattle.minix_change_laws.proofs.Inode.{IsSameNode, same-but-links, KeepsAbove, keeps-above, directory-zones, points-old, points-new, entry-same}

pub same-is-but-links : (old new : Inode) → new ≡ old → SameButLinks old new
same-is-but-links old new same = same ∙ ap (with_links old) (sym (ap (λ (i : Inode). i.links) same))

module _ (super : Super) (old new : Parts) (sound : Sound super old) (keeps : KeepsButLinks super old new) where
  zones-kept : (number : ℕ) → Named super old number → (at : Pointer) (zone : ℕ) → PointsTo super old number at zone → new.zone zone ≡ old.zone zone
  zones-kept number named at zone to = keeps.zones number at zone (record { named = named; to = to })

  node-kept : (number : ℕ) → Named super old number → IsSameNode (old.node number) (new.node number)
  node-kept number named = same-but-links (old.node number) (new.node number) (keeps.nodes number named)

  above-kept : (number : ℕ) → Named super old number → KeepsAbove super old new number
  above-kept number named = keeps-above super old new number (zones-kept number named)

  points-was : (number : ℕ) (at : Pointer) (zone : ℕ) → Named super old number → PointsTo super new number at zone → PointsTo super old number at zone
  points-was number at zone named to = points-old super old new number (node-kept number named).numbers (above-kept number named) at zone to

  size-same : (number : ℕ) → Named super old number → (new.node number).size ≡ (old.node number).size
  size-same number named = (node-kept number named).size

  le-self : {n : ℕ} → n ≤ n
  le-self = omega arith

  seen : Sees super old new
  seen = record {
    modes = λ number named. (node-kept number named).numbers.mode;
    sizes = λ number named. subst (λ size. is_size super.kind size ≡ true) (sym (size-same number named)) (sound.size number named);
    marks = λ number named. keeps.marks number named ∙ sound.marked number named;
    links = keeps.links;
    files = λ number named file. keeps.nodes number named;
    bytes = λ number at zone refers file. keeps.zones number at zone refers;
    room = λ directory named is. subst (λ size. places super.kind (old.node directory).size ≤ places super.kind size) (sym (size-same directory named)) le-self;
    reaches = λ directory named is low. subst (λ size. blocks_for size ≤ reach super.kind) (sym (size-same directory named)) low;
    entries = λ directory place named is below. entry-same super old new directory (node-kept directory named).numbers (zones-kept directory named) (directory-zones old directory is) place;
    free = λ directory place named is from below.
        let low : place < places super.kind (old.node directory).size = subst (λ size. place < places super.kind size) (size-same directory named) below in
        absurd (omega (arith, from, low));
    stays = λ directory at zone refers is. points-new super old new directory (node-kept directory refers.named).numbers (above-kept directory refers.named) at zone refers.to;
    refers = λ directory at zone named is to. inl (points-was directory at zone named to);
    once = λ number other at there zone named named' one two fresh. absurd (fresh.unused number at (record { named = named; to = points-was number at zone named one }));
    zone_marks = λ number at zone refers. keeps.zone_marks number at zone refers ∙ sound.zone_marked number at zone refers;
  }

pub links_law : LinksLaw
links_law super old new sound keeps = seen super old new sound keeps

-- where links stay they are enough
links-enough : (super : Super) (old new : Parts) → Sound super old → Keeps super old new → (number : ℕ) (paths : List (List (List ℕ))) → number ≢ 1 → AreDistinct paths → AllLead super old number paths → length paths ≤ (new.node number).links
links-enough super old new sound keeps number [] other distinct lead = omega arith
links-enough super old new sound keeps number (path ∷ paths) other distinct lead =
    let named : Named super old number = record { path = path; leads = lead.0 } in
    subst (λ (i : Inode). length (path ∷ paths) ≤ i.links) (sym (keeps.nodes number named)) (sound.links number (path ∷ paths) other distinct lead)

pub kept_is_seen_law : KeptIsSeenLaw
kept_is_seen_law super old new sound keeps = links_law super old new sound (record {
  nodes = λ number named. same-is-but-links (old.node number) (new.node number) (keeps.nodes number named);
  links = links-enough super old new sound keeps;
  marks = keeps.marks;
  zones = keeps.zones;
  zone_marks = keeps.zone_marks;
})
