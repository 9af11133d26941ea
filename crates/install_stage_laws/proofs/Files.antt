-- A fact of each sector of a file that is mapped.
use Rattle.std.proofs.Common.{◌≡◌, ◌≢◌, ℕ, ◌+◌, ◌*◌, ◌/◌, ◌%◌, ◌==◌, Bool, true, false, if◌then◌else◌, List, None, Some, refl, arith, get_or}
use Rattle.std.specs.Prelude.{Option, IfSome, option_map, option_and_then}
use Rattle.std.specs.List.{AllByRecursion, range_with_len}
use Rattle.std.proofs.lemmas.Bool.Decides.{nat_tests}
use Rattle.std.proofs.lemmas.List.Elements.{All-map, recursion_from_All}
use Rattle.lilo_model.specs.Disks.{Image, Span, DiskSector}
use Rattle.lilo_model.specs.MinixNames.{Named, Refers, zone_number, IsSound}
use Rattle.lilo_model.specs.MinixParts.{Volume, parts_of, block_pointer, is_file, is_link, is_directory}
use Rattle.lilo_model.specs.Plan.{MappedFile}
use Rattle.lilo_model.specs.Planned.{sector_in_zone, inode_places, mapped_inode, optional_file, file_inode, some_file}
use Rattle.lilo_model.specs.Section.{sectors_for}
use Rattle.minix_laws.proofs.Inside.{is_pointer-block}
use Rattle.map_laws.proofs.MeantFiles.{inode-named, zones-of}
use Rattle.install_stage_laws.specs.Mapped.{OnFile}
use Rattle.install_stage_laws.proofs.Mapped.{on-path}

-- a sector of a volume, by its number there
abbrev pub place_of : Volume → ℕ → DiskSector
place_of volume sector = record { disk = volume.span.disk; sector = volume.span.start + sector }

-- the first sector of a span
abbrev pub first-of : Span → DiskSector
first-of span = record { disk = span.disk; sector = span.start }

module _ (volume : Volume) (image : Image) where
  abbrev pub zone_of : ℕ → ℕ → ℕ
  zone_of number index = zone_number volume.layout (parts_of volume image) number (index / 2)

  -- a file refers to the zone of each of its blocks that is there
  pub refers-block : (number : ℕ) → Named volume.layout (parts_of volume image) number → is_file ((parts_of volume image).node number) ≡ true → (index zone : ℕ) → zone_of number index ≡ zone → zone ≢ 0
      → Refers volume.layout (parts_of volume image) number (block_pointer volume.layout.kind (index / 2)) zone
  unfolding zone_number
  refers-block number named regular index zone is some = record {
    named = named;
    to = record {
      kind = zones-of (is_directory ((parts_of volume image).node number)) (is_file ((parts_of volume image).node number)) (is_link ((parts_of volume image).node number)) regular;
      place = is_pointer-block volume.layout.kind (index / 2);
      is = is;
      some = some;
    };
  }

  module _ (P : DiskSector → Type 0) where
    -- each place that there is has it
    abbrev pub Each : List (Option DiskSector) → Type 0
    Each places = AllByRecursion (λ place. IfSome place P) places

    abbrev pub EachOptional : Option MappedFile → Type 0
    EachOptional file = IfSome file (λ file. Each file.places)

    module _ (number : ℕ) (each : (index zone : ℕ) → zone_of number index ≡ zone → zone ≢ 0 → P (place_of volume (2 * zone + index % 2))) where
      sector-has : (index : ℕ) → IfSome (sector_in_zone volume.span (zone_of number index) index) P
      sector-has index = by (zone_of number index) (zone_of number index == 0) refl refl
        where
          by : (zone : ℕ) (hole : Bool) → zone_of number index ≡ zone → (zone == 0) ≡ hole → IfSome (if zone == 0 then None else Some (place_of volume (2 * zone + index % 2))) P
          by zone true is none = rw none tt
          by zone false is none = let some : zone ≢ 0 = grind (arith, nat_tests) in rw none (each index zone is some)

      pub places-have : Each (inode_places volume (parts_of volume image) number)
      unfolding inode_places
      places-have =
          let indices = range_with_len 0 (sectors_for ((parts_of volume image).node number).size) in
          recursion_from_All (λ place. IfSome place P) (inode_places volume (parts_of volume image) number)
          (All-map (λ place. IfSome place P) (λ index. sector_in_zone volume.span (zone_of number index) index) indices (λ k d below. sector-has (get_or indices k d)))

      pub file-has : Each (mapped_inode volume (parts_of volume image) number).places
      unfolding mapped_inode
      file-has = places-have

    -- so does a file that may be absent or empty, where each that is there has another fact
    module _ (sound : IsSound volume image) (Q : ℕ → Type 0)
        (each : (number : ℕ) → Named volume.layout (parts_of volume image) number → is_file ((parts_of volume image).node number) ≡ true → Q number
        → Each (mapped_inode volume (parts_of volume image) number).places) where
      by-size : (number : ℕ) → Named volume.layout (parts_of volume image) number → is_file ((parts_of volume image).node number) ≡ true → Q number → (empty : Bool)
          → EachOptional (if empty then None else Some (mapped_inode volume (parts_of volume image) number))
      by-size number named regular has true = tt
      by-size number named regular has false = each number named regular has

      by-inode : (text : List ℕ) (inode : Option ℕ) → file_inode volume (parts_of volume image) text ≡ inode → IfSome inode Q
          → EachOptional (option_and_then some_file (option_map (mapped_inode volume (parts_of volume image)) inode))
      by-inode text None is on = tt
      by-inode text (Some number) is on =
          let named = inode-named volume image sound text number is in
          by-size number named.0 named.1 on ((mapped_inode volume (parts_of volume image) number).size == 0)

      pub optional-on : (path : Option (List ℕ)) → IfSome path (λ text. OnFile image volume text Q) → EachOptional (optional_file volume (parts_of volume image) path)
      optional-on None on = tt
      optional-on (Some text) on = by-inode text (file_inode volume (parts_of volume image) text) refl on

    -- and where no other fact is asked
    module _ (sound : IsSound volume image)
        (each : (number : ℕ) → Named volume.layout (parts_of volume image) number → is_file ((parts_of volume image).node number) ≡ true
        → Each (mapped_inode volume (parts_of volume image) number).places) where
      pub optional-has : (path : Option (List ℕ)) → EachOptional (optional_file volume (parts_of volume image) path)
      optional-has path =
          optional-on sound (λ number. Unit {0}) (λ number named regular any. each number named regular) path
          (on-path image volume sound (λ number. Unit {0}) (λ number named regular. tt) path)
