-- A place where a name may be made stays one.
use Rattle.std.proofs.Common.{◌≡◌, ◌≢◌, ◌<◌, ◌/◌, ℕ, true, List, ◌∷◌, Option, Some, None, refl, sym, ap, ◌∙◌, arith, ⊎_elim}
use Rattle.std.proofs.lemmas.Bool.{cases_lt}
use Rattle.lilo_model.specs.Disks.{Image}
use Rattle.lilo_model.specs.MinixEntries.{Entry, entries_per_block, places}
use Rattle.lilo_model.specs.MinixNames.{entry, zone_number, lookup, then_lookup, reached, Named, Refers, IsSound}
use Rattle.lilo_model.specs.MinixParts.{Parts, Volume, block_pointer, is_directory, parts_of}
use Rattle.minix_change_laws.specs.Only.{zone_of_entry}
use Rattle.minix_change_laws.proofs.Only.{directory-refers}
use Rattle.minix_change_laws.specs.Sees.{SeenAsIn}
use Rattle.minix_change_laws.specs.Tree.{TreeAs}
use Rattle.minix_change_laws.proofs.Seen.{opened}
use Rattle.minix_change_laws.proofs.Sees.{directory-same, named-new}
use Rattle.minix_change_laws.proofs.Tree.{sees_tree_law}
use Rattle.minix_choice_laws.specs.Choice.{HasNamePlace}
use Rattle.minix_choice_laws.specs.ChoiceLaws.{PlaceStaysLaw, MayHaveStaysLaw, PlaceLiesLaw}

module _ (volume : Volume) (old new : Image) (outer : List (List ℕ)) (directory place : ℕ) (name : List ℕ) (sound : IsSound volume old) (seen : SeenAsIn volume old new)
    (has : HasNamePlace volume old outer directory place name) where
  abbrev Was : Parts
  Was = parts_of volume old

  abbrev Is : Parts
  Is = parts_of volume new

  tree : TreeAs volume.layout Was Is
  tree = sees_tree_law volume.layout Was Is (opened volume old sound).parts seen.sees

  leads : reached volume.layout Is outer ≡ Some directory
  leads = tree.leads outer ∙ has.enters.leads

  absent : lookup volume.layout Is name directory ≡ None
  unfolding reached
  absent =
      let T : Option ℕ → Option ℕ = λ found. then_lookup volume.layout Was name found in
      let N : Option ℕ → Option ℕ = λ found. then_lookup volume.layout Is name found in
      sym (ap N leads) ∙ (tree.leads (name ∷ outer) ∙ (ap T has.enters.leads ∙ has.enters.absent))

  refers : Refers volume.layout Was directory (block_pointer volume.layout.kind (place / entries_per_block volume.layout.kind)) (zone_of_entry volume.layout Was directory place)
  refers = directory-refers volume.layout Was directory place has.placed.named has.placed.is _ has.placed.some refl

  pub lies : zone_of_entry volume.layout Is directory place ≡ zone_of_entry volume.layout Was directory place
  unfolding zone_number
  lies = (seen.sees.stays directory (block_pointer volume.layout.kind (place / entries_per_block volume.layout.kind)) _ refers has.placed.is).is

  pub stays : HasNamePlace volume new outer directory place name
  stays = record {
    enters = record {
      leads = leads;
      plain = has.enters.plain;
      absent = absent;
      free = ap (λ (e : Entry). e.inode) (seen.sees.entries directory place has.placed.named has.placed.is has.placed.below) ∙ has.enters.free;
    };
    placed = record {
      named = named-new volume.layout Was Is seen.sees directory has.placed.named;
      is = directory-same volume.layout Was Is seen.sees directory has.placed.named ∙ has.placed.is;
      reached = seen.sees.reaches directory has.placed.named has.placed.is has.placed.reached;
      below = let room = seen.sees.room directory has.placed.named has.placed.is in let low = has.placed.below in omega (arith, room, low);
      some = λ none. has.placed.some (sym lies ∙ none);
    };
  }

pub place_stays_law : PlaceStaysLaw
place_stays_law volume old new outer directory place name sound seen has = stays volume old new outer directory place name sound seen has

-- ---- a place that the name may have

module _ (volume : Volume) (old new : Image) (directory : ℕ) (named : Named volume.layout (parts_of volume old) directory) (is : is_directory ((parts_of volume old).node directory) ≡ true) (seen : SeenAsIn volume old new) where
  -- a block lies in the zone in which it lay
  pub zone_lies : (place : ℕ) → zone_of_entry volume.layout (parts_of volume old) directory place ≢ 0 → zone_of_entry volume.layout (parts_of volume new) directory place ≡ zone_of_entry volume.layout (parts_of volume old) directory place
  unfolding zone_number
  zone_lies place some =
      (seen.sees.stays directory (block_pointer volume.layout.kind (place / entries_per_block volume.layout.kind)) _
      (directory-refers volume.layout (parts_of volume old) directory place named is _ some refl) is).is

  -- a place that is free below the size is free below the new one
  pub free_still : (place : ℕ) → (place < places volume.layout.kind ((parts_of volume old).node directory).size → (entry volume.layout (parts_of volume old) directory place).inode ≡ 0)
      → place < places volume.layout.kind ((parts_of volume new).node directory).size → (entry volume.layout (parts_of volume new) directory place).inode ≡ 0
  free_still place free below = ⊎_elim
      (λ low. ap (λ (e : Entry). e.inode) (seen.sees.entries directory place named is low) ∙ free low)
      (λ high. seen.sees.free directory place named is high below)
      (cases_lt place (places volume.layout.kind ((parts_of volume old).node directory).size))

-- a name that isn't there isn't there then
absent_still : (volume : Volume) (old new : Image) (outer : List (List ℕ)) (directory : ℕ) (name : List ℕ) → TreeAs volume.layout (parts_of volume old) (parts_of volume new)
    → reached volume.layout (parts_of volume new) outer ≡ Some directory → reached volume.layout (parts_of volume old) outer ≡ Some directory
    → lookup volume.layout (parts_of volume old) name directory ≡ None → lookup volume.layout (parts_of volume new) name directory ≡ None
unfolding reached
absent_still volume old new outer directory name tree leads led none =
    let T : Option ℕ → Option ℕ = λ found. then_lookup volume.layout (parts_of volume old) name found in
    let N : Option ℕ → Option ℕ = λ found. then_lookup volume.layout (parts_of volume new) name found in
    sym (ap N leads) ∙ (tree.leads (name ∷ outer) ∙ (ap T led ∙ none))

pub may_have_stays_law : MayHaveStaysLaw
may_have_stays_law volume old new outer directory place name sound seen may =
    let Was : Parts = parts_of volume old in
    let Is : Parts = parts_of volume new in
    let named : Named volume.layout Was directory = record { path = outer; leads = may.leads } in
    let tree : TreeAs volume.layout Was Is = sees_tree_law volume.layout Was Is (opened volume old sound).parts seen.sees in
    let leads : reached volume.layout Is outer ≡ Some directory = tree.leads outer ∙ may.leads in
    record {
      leads = leads;
      is = directory-same volume.layout Was Is seen.sees directory named ∙ may.is;
      reaches = seen.sees.reaches directory named may.is may.reaches;
      plain = may.plain;
      absent = absent_still volume old new outer directory name tree leads may.leads may.absent;
      free = free_still volume old new directory named may.is seen place may.free;
      near = λ past. may.near (let room = seen.sees.room directory named may.is in omega (arith, room, past));
    }

pub place_lies_law : PlaceLiesLaw
place_lies_law volume image outer directory place name may lies = record {
  enters = record { leads = may.leads; plain = may.plain; absent = may.absent; free = may.free lies.below };
  placed = record {
    named = record { path = outer; leads = may.leads };
    is = may.is;
    reached = may.reaches;
    below = lies.below;
    some = lies.some;
  };
}
