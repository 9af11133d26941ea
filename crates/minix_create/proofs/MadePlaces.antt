-- What keeps the places of directories.
use Rattle.std.proofs.Common.{◌≡◌, ◌≢◌, ◌≤◌, ◌<◌, ℕ, true, sym, ap, ◌∙◌, subst, arith, ⊎_elim}
use Rattle.std.proofs.lemmas.Bool.{cases_eq, cases_lt}
use Rattle.lilo_model.specs.MinixEntries.{Entry, places}
use Rattle.lilo_model.specs.MinixLayout.{Super, Inode, reach}
use Rattle.lilo_model.specs.MinixNames.{entry, Named, Sound}
use Rattle.lilo_model.specs.MinixParts.{Parts, is_directory, blocks_for}
use Rattle.minix_change_laws.specs.Only.{ChangesOnlyEntry}
use Rattle.minix_change_laws.proofs.Only.{other-kept}
use Rattle.minix_change_laws.proofs.Inode.{same-node, directory-zones, entry-same}
use Rattle.minix_change_laws.proofs.Sees.{directory-same, named-new}
use Rattle.minix_create.specs.Made.{KeepsPlaces}
use Rattle.minix_create.specs.MadeLaws.{SeenPlacesLaw, EntryPlacesLaw, JoinPlacesLaw}

pub seen_places_law : SeenPlacesLaw
seen_places_law super old new directory place sees = record {
  room = sees.room;
  reaches = sees.reaches;
  free = λ other at named is apart free below. ⊎_elim
      (λ low. ap (λ (e : Entry). e.inode) (sees.entries other at named is low) ∙ free low)
      (λ high. sees.free other at named is high below)
      (cases_lt at (places super.kind (old.node other).size));
}

module _ (super : Super) (old new : Parts) (directory place : ℕ) (sound : Sound super old) (only : ChangesOnlyEntry super old new directory place) where
  same-size : (other : ℕ) → Named super old other → (new.node other).size ≡ (old.node other).size
  same-size other named = ap (λ (i : Inode). i.size) (only.nodes other named)

  -- in the directory, at another place
  free-here : (at : ℕ) → at ≢ place → (at < places super.kind (old.node directory).size → (entry super old directory at).inode ≡ 0)
      → at < places super.kind (new.node directory).size → (entry super new directory at).inode ≡ 0
  free-here at apart free below =
      let size = same-size directory only.change.named in
      let P : ℕ → Type 0 = λ n. at < places super.kind n in
      let low : at < places super.kind (old.node directory).size = subst P size below in
      ap (λ (e : Entry). e.inode) (only.change.others at low apart) ∙ free low

  -- in another directory
  free-there : (other at : ℕ) → Named super old other → is_directory (old.node other) ≡ true → other ≢ directory
      → (at < places super.kind (old.node other).size → (entry super old other at).inode ≡ 0)
      → at < places super.kind (new.node other).size → (entry super new other at).inode ≡ 0
  free-there other at named is apart free below =
      let kept = other-kept super old new directory place sound only other named apart in
      let P : ℕ → Type 0 = λ n. at < places super.kind n in
      let low : at < places super.kind (old.node other).size = subst P (same-size other named) below in
      ap (λ (e : Entry). e.inode)
      (entry-same super old new other (same-node (old.node other) (new.node other) kept.node).numbers kept.zones (directory-zones old other is) at)
      ∙ free low

  pub entry_places : KeepsPlaces super old new directory place
  entry_places = record {
    room = λ other named is. let P : ℕ → Type 0 = λ n. places super.kind (old.node other).size ≤ places super.kind n in subst P (sym (same-size other named)) (omega arith);
    reaches = λ other named is few. let P : ℕ → Type 0 = λ n. blocks_for n ≤ reach super.kind in subst P (sym (same-size other named)) few;
    free = λ other at named is apart free below. ⊎_elim
        (λ same.
        let F : ℕ → Type 0 = λ n. (at < places super.kind (old.node n).size → (entry super old n at).inode ≡ 0) → at < places super.kind (new.node n).size → (entry super new n at).inode ≡ 0 in
        subst F (sym same) (free-here at (apart same)) free below)
        (λ far. free-there other at named is far free below)
        (cases_eq other directory);
  }

pub entry_places_law : EntryPlacesLaw
entry_places_law super old new directory place sound only = entry_places super old new directory place sound only

pub join_places_law : JoinPlacesLaw
join_places_law super old mid new directory place sees one two =
    let still : (other : ℕ) → Named super old other → Named super mid other = named-new super old mid sees in
    let is_still : (other : ℕ) → Named super old other → is_directory (old.node other) ≡ true → is_directory (mid.node other) ≡ true =
    λ other named is. directory-same super old mid sees other named ∙ is in
    record {
      room = λ other named is.
          let a = one.room other named is in
          let b = two.room other (still other named) (is_still other named is) in
          omega (arith, a, b);
      reaches = λ other named is few. two.reaches other (still other named) (is_still other named is) (one.reaches other named is few);
      free = λ other at named is apart free below. two.free other at (still other named) (is_still other named is) apart (one.free other at named is apart free) below;
    }
