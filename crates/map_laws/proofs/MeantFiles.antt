-- On a sound volume the files that are mapped are those that Names have.
use Rattle.std.proofs.Common.{◌≡◌, ◌≢◌, ◌≤◌, ◌<◌, ◌^◌, ℕ, suc, ◌+◌, ◌*◌, ◌/◌, ◌%◌, ◌==◌, Bool, true, false, ◌||◌, if◌then◌else◌, List, [], ◌∷◌, map, length, take, None, Some, Result, Ok, Err, refl, sym, ap, subst, ◌∙◌, arith, length-take-le}
use Rattle.std.specs.Prelude.{Option, unwrap_or, option_map, option_and_then, replicate}
use Rattle.std.specs.Result.{result_ok}
use Rattle.std.specs.List.{concat, range_with_len}
use Rattle.std.proofs.lemmas.List.{length-map}
use Rattle.std.proofs.lemmas.Bool.Decides.{nat_tests}
use Rattle.lilo_model.specs.Disks.{Image, DiskSector, bytes_at}
use Rattle.lilo_model.specs.Section.{sectors_for}
use Rattle.lilo_model.specs.MinixParts.{Volume, Parts, parts_of, sector_of, block_pointer, is_file, is_link, is_directory, has_zones}
use Rattle.lilo_model.specs.MinixNames.{Thing, File, zone_number, content, thing, names, names_in, reached, Named, PointsTo, Refers, Sound, HasSound, IsSound}
use Rattle.lilo_model.specs.MinixFind.{TreeFault, find}
use Rattle.lilo_model.specs.MinixFindNames.{path_of, AgreesOn}
use Rattle.minix_laws.proofs.WalkNames.{find_law}
use Rattle.minix_laws.proofs.Inside.{is_pointer-block}
use Rattle.lilo_model.specs.Meant.{bytes_of, file_of, some_bytes}
use Rattle.lilo_model.specs.Plan.{MappedFile, filled_places}
use Rattle.lilo_model.specs.Planned.{sector_in_zone, inode_places, file_inode, mapped_inode, some_file}
use Rattle.std.proofs.lemmas.List.FromFn.{length-range_with_len}
use Rattle.map_laws.specs.Files.{AreKept, FileLaw, OptionalFileLaw}
use Rattle.map_laws.proofs.FileAgain.{held_bytes, sector_bytes, length-sectors, blocks-sectors, file-sectors}

-- a regular file has zones
pub zones-of : (directory file link : Bool) → file ≡ true → (directory || file || link) ≡ true
zones-of directory file link is = rw is (by directory)
  where
    by : (directory : Bool) → (directory || true || link) ≡ true
    by true = refl
    by false = refl

module _ (volume : Volume) (image : Image) (sound : IsSound volume image) where
  abbrev parts : Parts
  parts = parts_of volume image

  thing-bytes : (number : ℕ) → bytes_of (thing volume.layout parts number) ≡ (if is_file (parts.node number) then Some (content volume.layout parts number) else None)
  unfolding thing
  thing-bytes number = by (is_file (parts.node number)) (is_link (parts.node number)) (is_directory (parts.node number))
    where
      by : (file link directory : Bool) → bytes_of (if file then File (content volume.layout parts number) else if link then Rattle.lilo_model.specs.MinixNames.Link (content volume.layout parts number) else if directory then Rattle.lilo_model.specs.MinixNames.Directory else Rattle.lilo_model.specs.MinixNames.Other) ≡ (if file then Some (content volume.layout parts number) else None)
      by true link directory = refl
      by false true directory = refl
      by false false true = refl
      by false false false = refl

  -- the file of a text, by Names and by its inode
  pub file-both : (text : List ℕ) → file_of (names_in volume image) text ≡ option_map (content volume.layout parts) (file_inode volume parts text)
  unfolding file_of file_inode names_in names
  file-both text = by-found (find volume.layout parts text) (path_of (names_in volume image) true text) (find_law volume image sound true text)
    where
      by-found : (found : Result ℕ TreeFault) (at : Result (List (List ℕ)) TreeFault) → AgreesOn volume.layout parts found at
          → option_and_then bytes_of (option_and_then (λ path. option_map (thing volume.layout parts) (reached volume.layout parts path)) (result_ok at))
          ≡ option_map (content volume.layout parts) (option_and_then (λ number. if is_file (parts.node number) then Some number else None) (result_ok found))
      by-found (Ok number) (Ok path) agrees = rw agrees (thing-bytes number ∙ if-map (is_file (parts.node number)) number)
        where
          if-map : (b : Bool) (number : ℕ) → (if b then Some (content volume.layout parts number) else None) ≡ option_map (content volume.layout parts) (if b then Some number else None)
          if-map true number = refl
          if-map false number = refl
      by-found (Ok number) (Err fault) agrees = absurd agrees
      by-found (Err fault) (Ok path) agrees = absurd agrees
      by-found (Err fault) (Err other) agrees = refl

  module _ (number : ℕ) (named : Named volume.layout parts number) (is_regular : is_file (parts.node number) ≡ true) where
    pub in-range : (index zone : ℕ) → zone_number volume.layout parts number (index / 2) ≡ zone → zone ≢ 0 → zone < volume.layout.zones
    unfolding zone_number IsSound
    in-range index zone is some =
        let to : PointsTo volume.layout parts number (block_pointer volume.layout.kind (index / 2)) zone = record { kind = zones-of (is_directory (parts.node number)) (is_file (parts.node number)) (is_link (parts.node number)) is_regular; place = is_pointer-block volume.layout.kind (index / 2); is = is; some = some } in
        (sound.parts.zone_range number (block_pointer volume.layout.kind (index / 2)) zone (record { named = named; to = to })).1

    -- each of the file's sectors has 512 bytes
    pub sector-long : (index : ℕ) → length (sector_bytes volume image number index) ≡ 512
    unfolding IsSound
    sector-long index = by-zone (zone_number volume.layout parts number (index / 2)) (zone_number volume.layout parts number (index / 2) == 0) refl refl
      where
        by-zone : (zone : ℕ) (hole : Bool) → zone_number volume.layout parts number (index / 2) ≡ zone → (zone == 0) ≡ hole → length (held_bytes image (if zone == 0 then None else Some (record { disk = volume.span.disk; sector = volume.span.start + (2 * zone + index % 2) }))) ≡ 512
        by-zone zone true is none = rw none refl
        by-zone zone false is none =
            let some : zone ≢ 0 = grind (arith, nat_tests) in
            let below = in-range index zone is some in
            rw none (sound.whole (2 * zone + index % 2) (omega (arith, below)))

    abbrev blocks_of_file : List ℕ
    blocks_of_file = Rattle.lilo_model.specs.MinixNames.blocks (Rattle.lilo_model.specs.MinixNames.block volume.layout parts number) (Rattle.lilo_model.specs.MinixParts.blocks_for (parts.node number).size)

    pub length-content : length (content volume.layout parts number) ≡ (parts.node number).size
    unfolding content
    length-content =
        let count = Rattle.lilo_model.specs.MinixParts.blocks_for (parts.node number).size in
        let long : length blocks_of_file ≡ 512 * (2 * count) = ap length (sym (blocks-sectors volume image number count)) ∙ length-sectors volume image number sector-long (2 * count) in
        length-take-le (parts.node number).size blocks_of_file (omega (arith, long))

    length-file_places : length (inode_places volume parts number) ≡ sectors_for (parts.node number).size
    unfolding inode_places
    length-file_places = length-map (range_with_len 0 (sectors_for (parts.node number).size)) (λ index. sector_in_zone volume.span (zone_number volume.layout parts number (index / 2)) index) ∙ length-range_with_len 0 (sectors_for (parts.node number).size)

    -- the file's sectors in another image, where they are as they were
    kept-sectors : (other : Image) (zero_place : DiskSector) → bytes_at other zero_place ≡ replicate 512 0 → (places : List (Option DiskSector)) → AreKept image other places
        → map (bytes_at other) (filled_places zero_place places) ≡ map (held_bytes image) places
    kept-sectors other zero_place zeros [] kept = refl
    kept-sectors other zero_place zeros (None ∷ places) kept =
        ap (λ bytes. bytes ∷ map (bytes_at other) (filled_places zero_place places)) zeros ∙ ap (λ sectors. replicate 512 0 ∷ sectors) (kept-sectors other zero_place zeros places kept.1)
    kept-sectors other zero_place zeros (Some place ∷ places) kept =
        ap (λ bytes. bytes ∷ map (bytes_at other) (filled_places zero_place places)) kept.0 ∙ ap (λ sectors. bytes_at image place ∷ sectors) (kept-sectors other zero_place zeros places kept.1)

pub file_law : FileLaw
unfolding mapped_inode
file_law before image machine volume config line_place zero_place number sound k =
    let long = length-content volume before sound number k.named k.regular in
    record {
      size = sym long;
      some = subst (λ n. 1 ≤ n) (sym long) k.some;
      few = subst (λ n. n < 2 ^ 32) (sym long) k.few;
      slots = k.slots;
      count = length-file_places volume before sound number k.named k.regular ∙ ap sectors_for (sym long);
      named = k.are;
      apart = k.apart;
      lies =
          ap (λ n. take n (concat (map (bytes_at image) (filled_places zero_place (inode_places volume (parts_of volume before) number))))) long
          ∙ ap (λ sectors. take ((parts_of volume before).node number).size (concat sectors)) (kept-sectors volume before sound number k.named k.regular image zero_place k.zeros (inode_places volume (parts_of volume before) number) k.kept)
          ∙ file-sectors volume before number (sector-long volume before sound number k.named k.regular);
    }

-- ---- files that may be absent or empty

-- the inode of a path's file has a name
pub inode-named : (volume : Volume) (image : Image) (sound : IsSound volume image) (text : List ℕ) (number : ℕ) → file_inode volume (parts_of volume image) text ≡ Some number
    → Named volume.layout (parts_of volume image) number × (is_file ((parts_of volume image).node number) ≡ true)
unfolding file_inode
inode-named volume image sound text number is = by-found (find volume.layout (parts_of volume image) text) (path_of (names_in volume image) true text) (find_law volume image sound true text) is
  where
    by-file : (found : ℕ) (regular : Bool) → is_file ((parts_of volume image).node found) ≡ regular → (path : List (List ℕ)) → reached volume.layout (parts_of volume image) path ≡ Some found
        → (if regular then Some found else None) ≡ Some number → Named volume.layout (parts_of volume image) number × (is_file ((parts_of volume image).node number) ≡ true)
    by-file found true file path leads is =
        let same : found ≡ number = ap (λ one. unwrap_or one 0) is in
        subst (λ number. Named volume.layout (parts_of volume image) number × (is_file ((parts_of volume image).node number) ≡ true)) same (record { path = path; leads = leads }, file)
    by-file found false file path leads is = absurd (none is)
      where
        none : None ≡ Some number → ⊥
        none is = grind arith

    by-found : (found : Result ℕ TreeFault) (at : Result (List (List ℕ)) TreeFault) → AgreesOn volume.layout (parts_of volume image) found at
        → option_and_then (λ number. if is_file ((parts_of volume image).node number) then Some number else None) (result_ok found) ≡ Some number
        → Named volume.layout (parts_of volume image) number × (is_file ((parts_of volume image).node number) ≡ true)
    by-found (Ok found) (Ok path) agrees is = by-file found (is_file ((parts_of volume image).node found)) refl path agrees is
    by-found (Ok found) (Err fault) agrees is = absurd agrees
    by-found (Err fault) (Ok path) agrees is = absurd agrees
    by-found (Err fault) (Err other) agrees is = absurd (grind arith)

-- a file has a byte where its size isn't 0
some-both : (size : ℕ) (places : List (Option DiskSector)) (bytes : List ℕ) → length bytes ≡ size
    → option_map (λ (file : MappedFile). file.size) (some_file (record { size = size; places = places })) ≡ option_map length (some_bytes bytes)
some-both size places [] long = rw (sym long) refl
some-both size places (byte ∷ bytes) long =
    let some : (suc (length bytes) == 0) ≡ false = grind (arith, nat_tests) in
    rw (sym long, some) refl

pub optional_file_law : OptionalFileLaw
unfolding mapped_inode
optional_file_law volume image None sound = refl
optional_file_law volume image (Some text) sound =
    by-inode (file_inode volume (parts_of volume image) text) refl
    ∙ ap (λ bytes. option_map length (option_and_then some_bytes bytes)) (sym (file-both volume image sound text))
  where
    by-inode : (inode : Option ℕ) → file_inode volume (parts_of volume image) text ≡ inode
        → option_map (λ (file : MappedFile). file.size) (option_and_then some_file (option_map (mapped_inode volume (parts_of volume image)) (file_inode volume (parts_of volume image) text)))
        ≡ option_map length (option_and_then some_bytes (option_map (content volume.layout (parts_of volume image)) (file_inode volume (parts_of volume image) text)))
    by-inode None is = rw is refl
    by-inode (Some number) is =
        let named = inode-named volume image sound text number is in
        rw is (some-both ((parts_of volume image).node number).size (inode_places volume (parts_of volume image) number) (content volume.layout (parts_of volume image) number) (length-content volume image sound number named.0 named.1))
