-- Volumes by tables of their inodes, zones and bitmap bits, and what a survey finds of one. The walk over an inode's
-- zones goes from number to number, so that cases compute. (This project's own.)
use Rattle.std.specs.Prelude.{ℕ, zero, suc, ◌+◌, ◌*◌, ◌^◌, ◌==◌, Bool, true, false, if◌then◌else◌, Option, None, Some, Result, Ok, Err}
use Rattle.std.specs.Prelude.{List, [], ◌∷◌, ◌++◌, map, replicate, slice_index, slice_index_or}
use Rattle.std.specs.List.{list_any, range_with_len, flat_map}
use Rattle.lilo_model.specs.Checks.{◌>>=◌}
use Rattle.lilo_model.specs.MinixLayout.{Kind, Super, Inode, numbers_in_zone}
use Rattle.lilo_model.specs.MinixParts.{ZoneFault, inside, number_in}
use Rattle.lilo_model.specs.MinixWalk.{Visit}
use Rattle.lilo_model.specs.MinixSurvey.{Surveyable, Met, SurveyFault, survey_of, owner, names_of, is_indirect}

-- ---- the walk over an inode's zones

abbrev pub visit_with : ℕ → ℕ → Bool → Visit
visit_with zone index indirect = record { zone = zone; index = index; indirect = indirect }

-- what is met at a number so many levels above blocks, the first of them with this index, and below it
abbrev pub met_from : Super → (ℕ → List ℕ) → ℕ → ℕ → Result ℕ ZoneFault → List (Result Visit ZoneFault)
met_from super bytes_of zero index (Err fault) = Err fault ∷ []
met_from super bytes_of zero index (Ok zero) = []
met_from super bytes_of zero index (Ok (suc zone)) = Ok (visit_with (suc zone) index false) ∷ []
met_from super bytes_of (suc level) index (Err fault) = Err fault ∷ []
met_from super bytes_of (suc level) index (Ok zero) = []
met_from super bytes_of (suc level) index (Ok (suc zone)) =
    let bytes : List ℕ = bytes_of (suc zone) in
    Ok (visit_with (suc zone) index true)
    ∷ flat_map
    (λ at. met_from super bytes_of level (index + at * numbers_in_zone super.kind ^ level) (inside super (number_in super.kind bytes at)))
    (range_with_len 0 (numbers_in_zone super.kind))

-- the same, up to the first refusal
abbrev pub up_to_refusal : List (Result Visit ZoneFault) → List (Result Visit ZoneFault)
up_to_refusal [] = []
up_to_refusal (Ok visit ∷ others) = Ok visit ∷ up_to_refusal others
up_to_refusal (Err fault ∷ others) = Err fault ∷ []

abbrev pub met_by : Super → (ℕ → List ℕ) → Inode → ℕ → ℕ → ℕ → List (Result Visit ZoneFault)
met_by super bytes_of inode top level index = met_from super bytes_of level index (inside super (slice_index inode.zones top))

abbrev pub walk_of : Super → (ℕ → List ℕ) → Inode → List (Result Visit ZoneFault)
walk_of super bytes_of inode =
    let per : ℕ = numbers_in_zone super.kind in
    up_to_refusal
    (flat_map (λ top. met_by super bytes_of inode top 0 top) (range_with_len 0 7)
    ++ met_by super bytes_of inode 7 1 7
    ++ met_by super bytes_of inode 8 2 (7 + per)
    ++ met_by super bytes_of inode 9 3 (7 + per + per * per))

-- ---- volumes by tables

-- an inode, by its mode, its links, its size and its zones
abbrev pub node : ℕ → ℕ → ℕ → List ℕ → Inode
node mode links size zones =
    record { mode = mode; links = links; uid = 0; gid = 0; size = size; times = 0 ∷ 0 ∷ 0 ∷ []; zones = zones }

abbrev pub no_node : Inode
no_node = node 0 0 0 (replicate 10 0)

-- the bytes of a zone
pub record ZoneOf : Type 0 where
  pub zone : ℕ
  pub bytes : List ℕ

abbrev pub zone_with : ℕ → List ℕ → ZoneOf
zone_with zone bytes = record { zone = zone; bytes = bytes }

abbrev pub zone_in : List ℕ → List ZoneOf → ℕ → List ℕ
zone_in zeros [] zone = zeros
zone_in zeros (first ∷ others) zone = if first.zone == zone then first.bytes else zone_in zeros others zone

abbrev pub super_with : Kind → ℕ → ℕ → ℕ → ℕ → ℕ → Super
super_with kind inodes zones imap zmap first = record {
  kind = kind;
  inodes = inodes;
  zones = zones;
  imap = imap;
  zmap = zmap;
  first = first;
  max_size = 0;
  state = 1;
}

-- a volume, by its superblock, its inodes from 1 on, its zones that aren't zeros, and the bitmap bits that are set
abbrev pub volume_by : Super → List Inode → List ZoneOf → List ℕ → List ℕ → Surveyable
volume_by super nodes zones inode_marks zone_marks =
    let zeros : List ℕ = replicate 1024 0 in
    record {
      super = super;
      parts = record {
        node = λ number. slice_index_or (no_node ∷ nodes) number no_node;
        zone = zone_in zeros zones;
        has_inode = λ number. list_any (λ marked. marked == number) inode_marks;
        has_zone = λ zone. list_any (λ marked. marked == zone) zone_marks;
      };
      walk = walk_of super (zone_in zeros zones);
    }

-- ---- what a survey finds

-- a zone that has an owner, and whether it is an indirect one
pub record Owned : Type 0 where
  pub zone : ℕ
  pub inode : ℕ
  pub indirect : Bool

abbrev pub owned : ℕ → ℕ → Bool → Owned
owned zone inode indirect = record { zone = zone; inode = inode; indirect = indirect }

abbrev pub owned_by : ℕ → Option ℕ → Bool → List Owned
owned_by zone None indirect = []
owned_by zone (Some inode) indirect = owned zone inode indirect ∷ []

-- the zones that have an owner, and the numbers of names of all inodes
pub record Found : Type 0 where
  pub zones : List Owned
  pub names : List ℕ

abbrev pub found : List Owned → List ℕ → Found
found zones names = record { zones = zones; names = names }

abbrev pub found_in : Super → List Met → Found
found_in super met = record {
  zones = flat_map (λ zone. owned_by zone (owner met zone) (is_indirect met zone)) (range_with_len 0 super.zones);
  names = map (names_of met) (range_with_len 1 super.inodes);
}

abbrev pub survey_found : Surveyable → Result Found SurveyFault
survey_found volume = survey_of volume >>= λ met. Ok (found_in volume.super met)
