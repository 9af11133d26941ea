-- A volume on which a directory may grow in each way, part by part (Minix file system, versions 1 and 2): its root
-- directory alone has a name, in zone 5; zones 6 to 10 are marked and unused. Zone 6 and zone 10 are full of zeros; zones 7
-- to 9 hold the number of the next one each.
use Rattle.std.specs.Prelude.{◌≢◌, ℕ, ◌*◌, ◌==◌, Bool, true, if◌then◌else◌, List, [], ◌∷◌, ◌++◌, replicate}
use Rattle.lilo_model.specs.Bytes.{with_part, filled_bytes}
use Rattle.lilo_model.specs.MinixLayout.{Kind, Super, entry_size}
use Rattle.lilo_model.specs.MinixParts.{Parts}
use Rattle.lilo_model.specs.MinixEntries.{here_name, above_name}
use Rattle.lilo_model.specs.MinixNames.{pointer, Sound}
use Rattle.minix_laws.specs.RootVolume.{root_layout, root_inode, root_entry}
use Rattle.minix_change_laws.specs.Grows.{pointer_at, below, Deeper}
use Rattle.minix_change_laws.specs.Changes.{AreEnough, MaySize, MayHook, with_top}
use Rattle.minix_change_laws.specs.Part.{number_bytes, offset_of_number, IsPast}

-- the root volume's layout, with more zones
abbrev pub sample_layout : Kind → Super
sample_layout kind = record (root_layout kind) { zones = 16 }

-- an indirect zone with one number, at its start
abbrev pub number_zone : Kind → ℕ → List ℕ
number_zone kind number = with_part (replicate 1024 0) (offset_of_number kind 0) (number_bytes kind number)

abbrev pub sample_zone : Kind → ℕ → List ℕ
sample_zone kind zone =
    if zone == 5 then filled_bytes 1024 (root_entry kind here_name ++ root_entry kind above_name) else
    if zone == 7 then number_zone kind 8 else
    if zone == 8 then number_zone kind 9 else
    if zone == 9 then number_zone kind 10 else
    replicate 1024 0

-- the parts, with some bitmap bits of zones
abbrev pub parts_with : Kind → (ℕ → Bool) → Parts
parts_with kind marks = record { node = λ number. root_inode kind; zone = sample_zone kind; has_inode = λ number. true; has_zone = marks }

abbrev pub sample_parts : Kind → Parts
sample_parts kind = parts_with kind (λ zone. true)

-- a zone further down, whose number comes first
abbrev pub deeper : ℕ → Deeper
deeper zone = record { index = 0; zone = zone }

-- the parts once the root has zone 9 as an indirect one, with zone 10
abbrev pub grown_with : Kind → (ℕ → Bool) → Parts
grown_with kind marks = record (parts_with kind marks) {
  node = λ number. if number == 1 then with_top (root_inode kind) 7 9 (2 * entry_size kind)
      else root_inode kind;
}

abbrev pub grown_parts : Kind → Parts
grown_parts kind = grown_with kind (λ zone. true)

-- the root may grow: by a zone; below one, two or three new indirect zones; by a place in the zone that it has
pub record CanGrow (kind : Kind) : Type 0 where
  pub sound : Sound (sample_layout kind) (sample_parts kind)
  pub alone : MayHook (sample_layout kind) (sample_parts kind) 1 (pointer_at 1 []) 6 []
  pub one : MayHook (sample_layout kind) (sample_parts kind) 1 (pointer_at 7 []) 9 (deeper 10 ∷ [])
  pub two : MayHook (sample_layout kind) (sample_parts kind) 1 (pointer_at 8 []) 8 (deeper 9 ∷ (deeper 10 ∷ []))
  pub three : MayHook (sample_layout kind) (sample_parts kind) 1 (pointer_at 9 []) 7 (deeper 8 ∷ (deeper 9 ∷ (deeper 10 ∷ [])))
  pub size : MaySize (sample_layout kind) (sample_parts kind) 1 (3 * entry_size kind)
  pub past : IsPast (sample_layout kind) (sample_parts kind) 1 2
  pub links : AreEnough (sample_layout kind) (sample_parts kind) 1 3
  -- and once it has an indirect zone, by a number there
  pub grown_sound : Sound (sample_layout kind) (grown_parts kind)
  pub outer : pointer (sample_layout kind) (grown_parts kind) 1 (pointer_at 7 []) ≢ 0
  pub number : MayHook (sample_layout kind) (grown_parts kind) 1 (below (pointer_at 7 []) 1) 6 []
