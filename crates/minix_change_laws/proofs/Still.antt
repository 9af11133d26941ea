-- What may be done to entries after writes that no name sees.
use Rattle.std.proofs.Common.{◌≡◌, ◌≢◌, ℕ, ◌+◌, ◌/◌, ◌%◌, ◌<◌, ◌≤◌, true, List, ◌∷◌, Some, refl, sym, ◌∙◌, ap, arith, inr}
use Rattle.lilo_model.specs.Disks.{Image}
use Rattle.lilo_model.specs.MinixLayout.{Super, Place, zone_sector}
use Rattle.lilo_model.specs.MinixParts.{Parts, Volume, is_directory, block_pointer, parts_of}
use Rattle.lilo_model.specs.MinixEntries.{Entry, entries_per_block, named_inode, places}
use Rattle.lilo_model.specs.MinixNames.{zone_number, entry, lookup, then_lookup, reached, Named, PointsTo, Sound}
use Rattle.minix_laws.proofs.Pointers.{pointer_law}
use Rattle.minix_change_laws.specs.Change.{ChangesEntry}
use Rattle.minix_change_laws.proofs.Entries.{entry_law}
use Rattle.minix_change_laws.specs.Sees.{Sees, SeenAsIn}
use Rattle.minix_change_laws.proofs.Inode.{directory-zones}
use Rattle.minix_change_laws.proofs.Sees.{directory-same, lookup-same, reached-same, reached-old, named-old, named-new, all_lead-old, points-kept, sound-new}
use Rattle.minix_change_laws.proofs.Seen.{opened}
use Rattle.minix_change_laws.specs.Only.{zone_of_entry}
use Rattle.minix_change_laws.specs.Enter.{MayStand, MayEnter, MayRemove, MayRename, IsOnlyName}
use Rattle.minix_change_laws.proofs.Only.{fit_law}
use Rattle.minix_change_laws.proofs.Finds.{named-is}
use Rattle.minix_change_laws.specs.Written.{offset_of_entry, place_of_entry, IsPlaced}
use Rattle.minix_change_laws.specs.Still.{StandsAsIn}
use Rattle.minix_change_laws.specs.EntryBytesLaws.{StillLaw}

-- ---- parts

module _ (super : Super) (old new : Parts) (sound : Sound super old) (sees : Sees super old new) where
  module _ (directory place : ℕ) (named : Named super old directory) (is : is_directory (old.node directory) ≡ true) where
    -- the block of an entry, where it is no hole
    entry-zone : zone_of_entry super old directory place ≢ 0 → zone_of_entry super new directory place ≡ zone_of_entry super old directory place
    unfolding zone_number
    entry-zone some =
        let to : PointsTo super old directory (block_pointer super.kind (place / entries_per_block super.kind)) (zone_of_entry super old directory place) = record {
          kind = directory-zones old directory is;
          place = (pointer_law super.kind).is (place / entries_per_block super.kind);
          is = refl;
          some = some;
        } in
        (points-kept super old new sees directory named (block_pointer super.kind (place / entries_per_block super.kind)) (zone_of_entry super old directory place) to).is

    entry-place : zone_of_entry super old directory place ≢ 0 → place_of_entry super new directory place ≡ place_of_entry super old directory place
    unfolding place_of_entry
    entry-place some =
        let P : ℕ → Place = λ zone. record { sector = zone_sector zone + offset_of_entry super place / 512; at = offset_of_entry super place % 512 } in
        ap P (entry-zone some)

    module _ (outer : List (List ℕ)) (below : place < places super.kind (old.node directory).size) where
      still-enter : (name : List ℕ) → MayEnter super old outer directory place name → MayEnter super new outer directory place name
      still-enter name enter = record {
        leads = reached-same super old new sees outer ∙ enter.leads;
        plain = enter.plain;
        absent = lookup-same super old new sees directory named name ∙ enter.absent;
        free = ap (λ (e : Entry). e.inode) (sees.entries directory place named is below) ∙ enter.free;
      }

      -- what a name that is there leads to has it
      stands-named : (number : ℕ) (name : List ℕ) → MayRemove super old outer directory place number name → Named super old number
      unfolding reached
      stands-named number name remove =
          let stays : ChangesEntry super old old directory place = record { named = named; is = is; below = below; node = refl; others = λ other low apart. refl } in
          let says : named_inode name (entry super old directory place) ≡ Some number = ap (named_inode name) remove.stands ∙ named-is name number remove.some in
          let finds_it : lookup super old name directory ≡ Some number =
          (entry_law super old old directory place sound stays).changed name remove.plain (inr (λ none. let t = sym says ∙ none in cc)) ∙ says in
          record { path = name ∷ outer; leads = ap (then_lookup super old name) remove.leads ∙ finds_it }

      still-remove : (number : ℕ) (name : List ℕ) → MayRemove super old outer directory place number name → MayRemove super new outer directory place number name
      still-remove number name remove = record {
        leads = reached-same super old new sees outer ∙ remove.leads;
        plain = remove.plain;
        some = remove.some;
        stands = sees.entries directory place named is below ∙ remove.stands;
        file = directory-same super old new sees number (stands-named number name remove) ∙ remove.file;
      }

      still-rename : (number : ℕ) (former name : List ℕ) → MayRename super old outer directory place number former name → MayRename super new outer directory place number former name
      still-rename number former name rename = record {
        may = still-remove number former rename.may;
        plain = rename.plain;
        absent = lookup-same super old new sees directory named name ∙ rename.absent;
      }

  still-stands : (number : ℕ) → Named super old number → (old.node number).links ≤ (new.node number).links → MayStand super old number → MayStand super new number
  still-stands number named links stand = record {
    file = directory-same super old new sees number named ∙ stand.file;
    fit = fit_law super new number (sound-new super old new sees sound) (named-new super old new sees number named);
    links = λ paths distinct lead. let low = stand.links paths distinct (all_lead-old super old new sees number paths lead) in omega (arith, low, links);
  }

  still-only : (path : List (List ℕ)) (number : ℕ) → IsOnlyName super old path number → IsOnlyName super new path number
  still-only path number last = record {
    leads = reached-same super old new sees path ∙ last.leads;
    only = λ other leads. last.only other (reached-old super old new sees other number leads);
  }

-- ---- images

module _ (volume : Volume) (old image : Image) (sound : Sound volume.layout (parts_of volume old)) (seen : SeenAsIn volume old image) where
  still-placed : (directory place : ℕ) → IsPlaced volume old directory place → IsPlaced volume image directory place
  still-placed directory place placed = record {
    named = named-new volume.layout (parts_of volume old) (parts_of volume image) seen.sees directory placed.named;
    is = directory-same volume.layout (parts_of volume old) (parts_of volume image) seen.sees directory placed.named ∙ placed.is;
    reached = seen.sees.reaches directory placed.named placed.is placed.reached;
    below = let room = seen.sees.room directory placed.named placed.is in let low = placed.below in omega (arith, room, low);
    some = λ e. placed.some (sym (entry-zone volume.layout (parts_of volume old) (parts_of volume image) sound seen.sees directory place placed.named placed.is placed.some) ∙ e);
  }

  stands-as-in : StandsAsIn volume old image
  stands-as-in = record {
    placed = still-placed;
    place = λ directory place placed. entry-place volume.layout (parts_of volume old) (parts_of volume image) sound seen.sees directory place placed.named placed.is placed.some;
    enter = λ outer directory place name placed. still-enter volume.layout (parts_of volume old) (parts_of volume image) sound seen.sees directory place placed.named placed.is outer placed.below name;
    remove = λ outer directory place number name placed. still-remove volume.layout (parts_of volume old) (parts_of volume image) sound seen.sees directory place placed.named placed.is outer placed.below number name;
    rename = λ outer directory place number former name placed. still-rename volume.layout (parts_of volume old) (parts_of volume image) sound seen.sees directory place placed.named placed.is outer placed.below number former name;
    stands = still-stands volume.layout (parts_of volume old) (parts_of volume image) sound seen.sees;
    unnamed = λ number unnamed named. unnamed (named-old volume.layout (parts_of volume old) (parts_of volume image) seen.sees number named);
    only_name = still-only volume.layout (parts_of volume old) (parts_of volume image) sound seen.sees;
  }

pub still_law : StillLaw
still_law volume old image sound seen = stands-as-in volume old image (opened volume old sound).parts seen
