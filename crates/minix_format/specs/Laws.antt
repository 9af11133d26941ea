-- What an empty volume is: sound, with the root alone, and each bit of its bitmaps.
use Rattle.std.specs.Prelude.{◌≡◌, ◌<◌, ◌≤◌, ◌^◌, ℕ, ◌+◌, ◌*◌, nat_le, nat_lt, false, ◌||◌, List, [], ◌∷◌, length, Some, None, Ok}
use Rattle.lilo_model.specs.Disks.{Image, Span}
use Rattle.lilo_model.specs.MinixLayout.{Kind, Super}
use Rattle.lilo_model.specs.MinixParts.{Volume, parts_of, volume_at, volume_with, bit}
use Rattle.lilo_model.specs.MinixNames.{Directory, names_in, IsSound}
use Rattle.ldisk_model.specs.MinixFormat.{format_layout, map_sector, formatted}

-- a bit of a bitmap is set where its number is 0, 1 or past the last number
abbrev pub MapLaw : Type 0
MapLaw =
    (last sector at : ℕ) → at < 4096
    → bit (map_sector last sector) at ≡ (nat_le (4096 * sector + at) 1 || nat_lt last (4096 * sector + at))

-- an image has a sound volume in which the root alone has a name, and nothing else is marked
pub record HasRootAlone (volume : Volume) (image : Image) : Type 0 where
  pub is : volume_at image volume.span ≡ Ok volume
  pub sound : IsSound volume image
  pub root : names_in volume image [] ≡ Some Directory
  pub alone : (name : List ℕ) (path : List (List ℕ)) → names_in volume image (name ∷ path) ≡ None
  pub free_inodes : (number : ℕ) → 1 < number → number ≤ volume.layout.inodes
      → (parts_of volume image).has_inode number ≡ false
  pub free_zones : (zone : ℕ) → volume.layout.first < zone → zone < volume.layout.zones
      → (parts_of volume image).has_zone zone ≡ false

-- the sectors of a span have 512 bytes each
abbrev pub HasWholeSpan : Span → Image → Type 0
HasWholeSpan span image = (sector : ℕ) → sector < span.count → length (image span.disk (span.start + sector)) ≡ 512

-- an empty volume that there is room for is one, whatever the sectors held before
abbrev pub FormatLaw : Type 0
FormatLaw =
    (span : Span) (kind : Kind) (inodes time : ℕ) (layout : Super) (image : Image) → time < 2 ^ 32
    → format_layout kind span.count inodes ≡ Some layout → HasWholeSpan span image
    → HasRootAlone (volume_with span layout) (formatted span layout time image)

-- an image has an empty volume of a kind in a span, with so many inodes
pub record IsEmptyVolume (span : Span) (kind : Kind) (inodes : ℕ) (image : Image) : Type 0 where
  pub layout : Super
  pub chosen : format_layout kind span.count inodes ≡ Some layout
  pub has : HasRootAlone (volume_with span layout) image
