-- A name goes or replaces another by the bytes of entries.
use Rattle.std.proofs.Common.{◌≡◌, ◌≢◌, ℕ, ◌/◌, ◌<◌, ◌≤◌, List, ◌∷◌, length, Some, refl, sym, ◌∙◌, ap, subst, arith}
use Rattle.lilo_model.specs.Disks.{Image}
use Rattle.lilo_model.specs.MinixLayout.{Inode, reach}
use Rattle.lilo_model.specs.MinixParts.{Parts, Volume, is_directory, block_pointer, blocks_for, parts_of}
use Rattle.lilo_model.specs.MinixEntries.{Entry, entry_of, entries_per_block, places}
use Rattle.lilo_model.specs.MinixNames.{zone_number, reached, thing, Named, PointsTo, IsSound}
use Rattle.minix_laws.proofs.Pointers.{pointer_law}
use Rattle.minix_change_laws.specs.Tree.{HasTreeWith}
use Rattle.minix_change_laws.proofs.Inode.{directory-zones}
use Rattle.minix_change_laws.proofs.Seen.{opened}
use Rattle.minix_change_laws.specs.Only.{zone_of_entry}
use Rattle.minix_change_laws.specs.Enter.{BecomesFree}
use Rattle.minix_change_laws.specs.Replaces.{Replaces, Replaced}
use Rattle.minix_change_laws.proofs.Replace.{remove_lower_law, replace_law}
use Rattle.minix_change_laws.specs.Written.{IsPlaced, EntryIsWritten}
use Rattle.minix_change_laws.specs.Replaced.{ReplacesBytes, ReplacedIn}
use Rattle.minix_change_laws.specs.EntryBytesLaws.{RemoveLowerBytesLaw, ReplaceBytesLaw}
use Rattle.minix_change_laws.proofs.Written.{written_law}
use Rattle.minix_change_laws.proofs.Images.{redirect_bytes_law}

becomes-free : (volume : Volume) (old image : Image) (directory place : ℕ) (bytes : List ℕ) → EntryIsWritten volume old image directory place bytes → (entry_of volume.layout.kind bytes).inode ≡ 0 → BecomesFree volume.layout (parts_of volume old) (parts_of volume image) directory place
becomes-free volume old image directory place bytes all free = record { only = all.only; free = ap (λ (e : Entry). e.inode) all.says ∙ free }

pub remove_lower_bytes_law : RemoveLowerBytesLaw
remove_lower_bytes_law volume old image outer directory place number name bytes sound placed has free remove =
    remove_lower_law volume.layout (parts_of volume old) (parts_of volume image) outer directory place number name (opened volume old sound).parts remove
    (becomes-free volume old image directory place bytes (written_law volume old image directory place bytes sound placed has) free)

module _ (volume : Volume) (old mid new : Image) (outer : List (List ℕ)) (directory to_place from_place former number : ℕ) (to from bytes free : List ℕ) (sound : IsSound volume old)
    (r : ReplacesBytes volume old mid new outer directory to_place from_place former number to from bytes free) where
  abbrev Was : Parts
  Was = parts_of volume old

  abbrev Mid : Parts
  Mid = parts_of volume mid

  both : HasTreeWith volume old mid (to ∷ outer) (Some number) (Some (thing volume.layout (parts_of volume old) number))
  both = redirect_bytes_law volume old mid outer directory to_place former number to bytes sound r.to_placed r.first r.says r.goes r.stands

  first-written : EntryIsWritten volume old mid directory to_place bytes
  first-written = written_law volume old mid directory to_place bytes sound r.to_placed r.first

  node-same : Mid.node directory ≡ Was.node directory
  node-same = first-written.only.change.node

  too-long : outer ≢ to ∷ outer
  too-long e = let n : length outer ≡ length (to ∷ outer) = ap length e in absurd (omega (arith, n))

  mid-leads : reached volume.layout Mid outer ≡ Some directory
  mid-leads = both.tree.others outer too-long ∙ r.goes.leads

  mid-named : Named volume.layout Mid directory
  mid-named = record { path = outer; leads = mid-leads }

  zone-same : zone_of_entry volume.layout Mid directory from_place ≡ zone_of_entry volume.layout Was directory from_place
  unfolding zone_number
  zone-same =
      let pointer = block_pointer volume.layout.kind (from_place / entries_per_block volume.layout.kind) in
      let to' : PointsTo volume.layout Was directory pointer (zone_of_entry volume.layout Was directory from_place) = record {
        kind = directory-zones Was directory r.from_placed.is;
        place = (pointer_law volume.layout.kind).is (from_place / entries_per_block volume.layout.kind);
        is = refl;
        some = r.from_placed.some;
      } in
      (both.tree.keeps.stays directory pointer (zone_of_entry volume.layout Was directory from_place) (record { named = r.from_placed.named; to = to' }) mid-named).is

  mid-placed : IsPlaced volume mid directory from_place
  mid-placed = record {
    named = mid-named;
    is = ap (λ node. is_directory node) node-same ∙ r.from_placed.is;
    reached = subst (λ (i : Inode). blocks_for i.size ≤ reach volume.layout.kind) (sym node-same) r.from_placed.reached;
    below = subst (λ (i : Inode). from_place < places volume.layout.kind i.size) (sym node-same) r.from_placed.below;
    some = λ e. r.from_placed.some (sym zone-same ∙ e);
  }

  second-written : EntryIsWritten volume mid new directory from_place free
  second-written = written_law volume mid new directory from_place free both.sound mid-placed r.second

  replaces : Replaces volume.layout Was Mid (parts_of volume new) outer directory to_place from_place former number to from
  replaces = record {
    goes = r.goes;
    moves = r.moves;
    names = r.names;
    inodes = r.inodes;
    stands = r.stands;
    first = record { only = first-written.only; says = first-written.says ∙ r.says };
    second = becomes-free volume mid new directory from_place free second-written r.says_free;
  }

  replaced : Replaced volume.layout Was Mid (parts_of volume new) outer former number to from
  replaced = replace_law volume.layout Was Mid (parts_of volume new) outer directory to_place from_place former number to from (opened volume old sound).parts replaces

  replaced-in : ReplacedIn volume old mid new outer former number to from
  replaced-in = record {
    both = both;
    gone = record { sound = second-written.sound replaced.gone.sound; tree = replaced.gone };
    lower = replaced.lower;
    former_lower = replaced.former_lower;
    unnamed = replaced.unnamed;
    unused = replaced.unused;
  }

pub replace_bytes_law : ReplaceBytesLaw
replace_bytes_law volume old mid new outer directory to_place from_place former number to from bytes free sound r = replaced-in volume old mid new outer directory to_place from_place former number to from bytes free sound r
