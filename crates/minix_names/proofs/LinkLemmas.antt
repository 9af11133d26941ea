-- The text of a link on a sound volume has as many bytes as its size.
use Rattle.std.proofs.Common.{◌≡◌, ◌≢◌, ℕ, zero, suc, ◌+◌, ◌*◌, ◌==◌, ◌||◌, Bool, true, false, length, refl, ◌∙◌, arith, length-append}
use Rattle.std.proofs.lemmas.Bool.{eq-eqb}
use Rattle.std.proofs.lemmas.List.{length-take-le}
use Rattle.lilo_model.specs.Disks.{Image}
use Rattle.lilo_model.specs.MinixLayout.{Super}
use Rattle.lilo_model.specs.MinixParts.{Parts, Volume, sector_of, parts_of, is_directory, is_file, is_link, has_zones, zone_bytes, blocks_for, block_pointer}
use Rattle.lilo_model.specs.MinixNames.{zone_number, block, blocks, content, Named, Sound, HasSound}
use Rattle.minix_laws.proofs.Inside.{is_pointer-block}
use Rattle.minix_laws.proofs.WalkNames.{HasWholeZones}

module _ (super : Super) (parts : Parts) (sound : Sound super parts) (whole : HasWholeZones super parts) where
  length-zone : (number index : ℕ) → Named super parts number → has_zones (parts.node number) ≡ true → (hole : Bool) → (zone_number super parts number index == 0) ≡ hole
      → length (zone_bytes parts (zone_number super parts number index)) ≡ 1024
  unfolding zone_number
  length-zone number index named zones true hole = rw hole refl
  length-zone number index named zones false hole =
      let some : zone_number super parts number index ≢ 0 = λ e. let t = eq-eqb (zone_number super parts number index) 0 e in cc in
      let range = sound.zone_range number (block_pointer super.kind index) (zone_number super parts number index) (record { named = named; to = record { kind = zones; place = is_pointer-block super.kind index; is = refl; some = some } }) in
      rw hole (whole (zone_number super parts number index) range.0 range.1)

  length-block : (number index : ℕ) → Named super parts number → has_zones (parts.node number) ≡ true → length (block super parts number index) ≡ 1024
  unfolding block
  length-block number index named zones = length-zone number index named zones _ refl

  length-blocks : (number : ℕ) → Named super parts number → has_zones (parts.node number) ≡ true → (count : ℕ) → length (blocks (block super parts number) count) ≡ 1024 * count
  length-blocks number named zones zero = refl
  length-blocks number named zones (suc count) =
      let one : length (blocks (block super parts number) count) ≡ 1024 * count = length-blocks number named zones count in
      length-append (blocks (block super parts number) count) (block super parts number count) ∙ omega (arith, one, length-block number count named zones)

  pub length-content : (number : ℕ) → Named super parts number → has_zones (parts.node number) ≡ true → length (content super parts number) ≡ (parts.node number).size
  unfolding content
  length-content number named zones =
      let long : length (blocks (block super parts number) (blocks_for (parts.node number).size)) ≡ 1024 * blocks_for (parts.node number).size = length-blocks number named zones (blocks_for (parts.node number).size) in
      length-take-le (parts.node number).size (blocks (block super parts number) (blocks_for (parts.node number).size)) (omega (arith, long))

or-true : (test : Bool) → (test || true) ≡ true
or-true true = refl
or-true false = refl

pub link-zones : (super : Super) (parts : Parts) (number : ℕ) → is_link (parts.node number) ≡ true → has_zones (parts.node number) ≡ true
link-zones super parts number is = rw is (or-true (is_directory (parts.node number) || is_file (parts.node number)))

pub whole-zones : (volume : Volume) (image : Image) → HasSound volume image → HasWholeZones volume.layout (parts_of volume image)
unfolding parts_of
whole-zones volume image sound zone from below =
    let low : length (sector_of volume image (2 * zone)) ≡ 512 = sound.whole (2 * zone) (omega (arith, below)) in
    let high : length (sector_of volume image (2 * zone + 1)) ≡ 512 = sound.whole (2 * zone + 1) (omega (arith, below)) in
    length-append (sector_of volume image (2 * zone)) (sector_of volume image (2 * zone + 1)) ∙ omega (arith, low, high)
