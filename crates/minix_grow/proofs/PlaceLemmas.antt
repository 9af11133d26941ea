-- A place that got below a directory's size.
use Rattle.std.proofs.Common.{◌≡◌, ◌≤◌, ◌<◌, ◌+◌, ◌*◌, ◌/◌, ◌^◌, ℕ, true, List, refl, sym, ◌∙◌, ap, subst, arith}
use Rattle.disk_trait.specs.Past.{Image}
use Rattle.lilo_model.specs.MinixEntries.{entries_per_block, places}
use Rattle.lilo_model.specs.MinixLayout.{Kind, V1Short, V1Long, V2Short, V2Long, Inode, entry_size, is_size}
use Rattle.lilo_model.specs.MinixNames.{zone_number, entry, Refers, Named}
use Rattle.lilo_model.specs.MinixParts.{Parts, Volume, block_pointer, parts_of}
use Rattle.minix_change_laws.specs.Beside.{IsDataZone}
use Rattle.minix_change_laws.specs.Only.{zone_of_entry}
use Rattle.minix_change_laws.proofs.Only.{directory-refers}
use Rattle.minix_change_laws.specs.Changes.{ChangesZone, MaySize}
use Rattle.minix_change_laws.specs.Sees.{SeenAsIn}
use Rattle.minix_change_laws.proofs.Seen.{opened}
use Rattle.minix_change_laws.proofs.Sees.{directory-same, named-new}
use Rattle.minix_tree.proofs.StatLemmas.{blocks_reached}
use Rattle.minix_change_laws.specs.Part.{HasZonePart, with_zone_part, IsPast}
use Rattle.minix_change_laws.proofs.Part.{part_law}
use Rattle.minix_grow.specs.Places.{size_to, IsFreePlace, IsNextPlace}

-- so many places lie below such a size
pub places_to : (kind : Kind) (place : ℕ) → places kind (size_to kind place) ≡ place + 1
places_to V1Short place = omega arith
places_to V1Long place = omega arith
places_to V2Short place = omega arith
places_to V2Long place = omega arith

-- a place past the size whose block lies where it lay is free once the size is after it
module _ (volume : Volume) (old new : Image) (directory place : ℕ) (past : IsPast volume.layout (parts_of volume old) directory place) (seen : SeenAsIn volume old new)
    (sized : ((parts_of volume new).node directory).size ≡ size_to volume.layout.kind place) where
  abbrev Was : Parts
  Was = parts_of volume old

  abbrev Is : Parts
  Is = parts_of volume new

  below-size : place < places volume.layout.kind (Is.node directory).size
  below-size =
      let e : places volume.layout.kind (Is.node directory).size ≡ place + 1 = ap (places volume.layout.kind) sized ∙ places_to volume.layout.kind place in
      omega (arith, e)

  refers : Refers volume.layout Was directory (block_pointer volume.layout.kind (place / entries_per_block volume.layout.kind)) (zone_of_entry volume.layout Was directory place)
  refers = directory-refers volume.layout Was directory place past.named past.is _ past.some refl

  lies : zone_of_entry volume.layout Is directory place ≡ zone_of_entry volume.layout Was directory place
  unfolding zone_number
  lies = (seen.sees.stays directory (block_pointer volume.layout.kind (place / entries_per_block volume.layout.kind)) _ refers past.is).is

  pub past_is_free : IsFreePlace volume new directory place
  past_is_free = record {
    placed = record {
      named = named-new volume.layout Was Is seen.sees directory past.named;
      is = directory-same volume.layout Was Is seen.sees directory past.named ∙ past.is;
      reached = seen.sees.reaches directory past.named past.is past.reached;
      below = below-size;
      some = λ none. past.some (sym lies ∙ none);
    };
    free = seen.sees.free directory place past.named past.is past.past below-size;
  }

-- the directory whose next place was filled with zeros
module _ (volume : Volume) (old mid : Image) (directory place zone index : ℕ) (node : Inode) (bytes : List ℕ) (next : IsNextPlace volume old directory node place zone) (range : IsDataZone volume.layout zone)
    (sized : is_size volume.layout.kind (size_to volume.layout.kind place) ≡ true) (small : size_to volume.layout.kind place < 2 ^ 32)
    (seen : SeenAsIn volume old mid) (part : HasZonePart volume old mid zone (entry_size volume.layout.kind * index) bytes)
    (free : (entry volume.layout (parts_of volume mid) directory place).inode ≡ 0) where
  change : ChangesZone volume.layout (parts_of volume old) (parts_of volume mid) zone (with_zone_part (parts_of volume old) zone (entry_size volume.layout.kind * index) bytes)
  change = (part_law volume old mid zone (entry_size volume.layout.kind * index) bytes next.sound range part).change

  pub node_stays : (parts_of volume mid).node directory ≡ node
  node_stays = change.nodes directory ((opened volume old next.sound).parts.in_range directory next.past.named) ∙ next.is

  pub named_stays : Named volume.layout (parts_of volume mid) directory
  named_stays = named-new volume.layout (parts_of volume old) (parts_of volume mid) seen.sees directory next.past.named

  only-place : (other : ℕ) → places volume.layout.kind node.size ≤ other → other < places volume.layout.kind (size_to volume.layout.kind place) → other ≡ place
  only-place other from below =
      let e = places_to volume.layout.kind place in
      let n = next.next in
      omega (arith, e, n, from, below)

  pub next_may_size : MaySize volume.layout (parts_of volume mid) directory (size_to volume.layout.kind place)
  next_may_size =
      let size-is : ((parts_of volume mid).node directory).size ≡ node.size = ap (λ (i : Inode). i.size) node_stays in
      record {
        named = named_stays;
        is = directory-same volume.layout (parts_of volume old) (parts_of volume mid) seen.sees directory next.past.named ∙ next.past.is;
        sized = sized;
        room = rw size-is (let e = places_to volume.layout.kind place in let n = next.next in omega (arith, e, n));
        reaches = λ low. blocks_reached volume.layout.kind (size_to volume.layout.kind place) small sized;
        free = λ other from below.
            let from' : places volume.layout.kind node.size ≤ other = subst (λ s. places volume.layout.kind s ≤ other) size-is from in
            ap (λ p. (entry volume.layout (parts_of volume mid) directory p).inode) (only-place other from' below) ∙ free;
      }
