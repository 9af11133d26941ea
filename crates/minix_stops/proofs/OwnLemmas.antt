-- Soundness is of a volume's own sectors.
use Rattle.std.proofs.Common.{◌≡◌, ◌↔◌, ℕ, ◌+◌, ◌*◌, ◌%◌, ◌<◌, ◌++◌, length, refl, sym, ◌∙◌, ap, arith}
use Rattle.lilo_model.specs.Bytes.{part_of}
use Rattle.lilo_model.specs.Disks.{Image}
use Rattle.lilo_model.specs.MinixLayout.{inode_size, super_at, inode_of, inode_place, zone_sector, super_sector}
use Rattle.lilo_model.specs.MinixParts.{Volume, sector_of, bit, inode_mark_sector, zone_bit, zone_mark_sector, parts_of}
use Rattle.lilo_model.specs.MinixNames.{names_in, HasSound, IsSound}
use Rattle.minix_change_laws.specs.Keeps.{Keeps, SoundAs}
use Rattle.minix_change_laws.specs.Beside.{SoundAsIn}
use Rattle.minix_change_laws.proofs.Keeps.{keeps_law}
use Rattle.minix_change_laws.proofs.Laid.{Laid, laid, mark-below, zone_mark-below, place-below}
use Rattle.minix_stops.specs.Laws.{HasSectorsOf, OwnSectorsLaw, OwnNamesLaw}

module _ (volume : Volume) (old image : Image) (same : HasSectorsOf volume old image) (sound : HasSound volume old) where
  lies : Laid volume.layout
  lies = laid (sector_of volume old super_sector) volume.span.count volume.layout sound.super

  keeps : Keeps volume.layout (parts_of volume old) (parts_of volume image)
  unfolding parts_of
  keeps = record {
    nodes = λ number named.
        let range = sound.parts.in_range number named in
        let low = place-below volume.layout lies number range.0 range.1 in
        ap (λ bytes. inode_of volume.layout.kind (part_of bytes (inode_place volume.layout number).at (inode_size volume.layout.kind)))
        (same (inode_place volume.layout number).sector (omega (arith, low, lies.first)));
    marks = λ number named.
        let range = sound.parts.in_range number named in
        let low = mark-below volume.layout lies number range.1 in
        ap (λ bytes. bit bytes (number % 4096)) (same (inode_mark_sector number) (omega (arith, low, lies.table, lies.first)));
    zones = λ number at zone refers.
        let range : zone < volume.layout.zones = (sound.parts.zone_range number at zone refers).1 in
        let low : sector_of volume image (zone_sector zone) ≡ sector_of volume old (zone_sector zone) = same (zone_sector zone) (omega (arith, range)) in
        let high : sector_of volume image (zone_sector zone + 1) ≡ sector_of volume old (zone_sector zone + 1) = same (zone_sector zone + 1) (omega (arith, range)) in
        ap (λ bytes. bytes ++ sector_of volume image (zone_sector zone + 1)) low ∙ ap (λ bytes. sector_of volume old (zone_sector zone) ++ bytes) high;
    zone_marks = λ number at zone refers.
        let range : zone < volume.layout.zones = (sound.parts.zone_range number at zone refers).1 in
        let low = zone_mark-below volume.layout lies zone range in
        ap (λ bytes. bit bytes (zone_bit volume.layout zone % 4096)) (same (zone_mark_sector volume.layout zone) (omega (arith, low, lies.table, lies.first)));
  }

  parts-sound : SoundAs volume.layout (parts_of volume old) (parts_of volume image)
  parts-sound = keeps_law volume.layout (parts_of volume old) (parts_of volume image) sound.parts keeps

  same-sound : SoundAsIn volume old image
  unfolding IsSound names_in
  same-sound = record {
    sound = record {
      super = ap (λ bytes. super_at bytes volume.span.count) (same super_sector (omega (arith, lies.table, lies.first))) ∙ sound.super;
      whole = λ sector below. ap length (same sector below) ∙ sound.whole sector below;
      parts = parts-sound.sound;
    };
    same = parts-sound.same;
  }

pub own_names_law : OwnNamesLaw
unfolding IsSound
own_names_law volume old image same sound = same-sound volume old image same sound

pub own_sectors_law : OwnSectorsLaw
own_sectors_law volume old image same = (
  (λ sound. (own_names_law volume old image same sound).sound),
  (λ sound. (own_names_law volume image old (λ sector below. sym (same sector below)) sound).sound),
)
