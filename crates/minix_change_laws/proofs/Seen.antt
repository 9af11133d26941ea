-- Images in which what has a name is seen as in others.
use Rattle.std.proofs.Common.{◌∙◌, ap}
use Rattle.lilo_model.specs.Disks.{Image}
use Rattle.lilo_model.specs.MinixLayout.{super_at}
use Rattle.lilo_model.specs.MinixParts.{Volume, parts_of}
use Rattle.lilo_model.specs.MinixNames.{names_in, HasSound, IsSound}
use Rattle.minix_change_laws.proofs.Beside.{keeps, beside_law, same_law}
use Rattle.minix_change_laws.specs.SeesLaws.{SeenSameLaw, SeenBesideLaw, SeenSoundLaw, SeenJoinLaw, SeenPartsLaw}
use Rattle.minix_change_laws.proofs.Sees.{sees_law}
use Rattle.minix_change_laws.proofs.Joins.{sees_join_law}
use Rattle.minix_change_laws.proofs.Kept.{kept_is_seen_law}

pub opened : (volume : Volume) (image : Image) → IsSound volume image → HasSound volume image
unfolding IsSound
opened volume image sound = sound

pub seen_beside_law : SeenBesideLaw
seen_beside_law volume old image sound beside =
    let has = opened volume old sound in
    record {
      sound = (beside_law volume old image sound beside).sound;
      sees = kept_is_seen_law volume.layout (parts_of volume old) (parts_of volume image) has.parts (keeps volume old has image beside);
    }

pub seen_same_law : SeenSameLaw
seen_same_law volume old sound = seen_beside_law volume old old sound (same_law volume old sound)

pub seen_sound_law : SeenSoundLaw
unfolding names_in
seen_sound_law volume old image sound seen = record {
  sound = seen.sound;
  same = (sees_law volume.layout (parts_of volume old) (parts_of volume image) (opened volume old sound).parts seen.sees).same;
}

pub seen_join_law : SeenJoinLaw
seen_join_law volume old middle image first next = record {
  sound = next.sound;
  sees = sees_join_law volume.layout (parts_of volume old) (parts_of volume middle) (parts_of volume image) first.sees next.sees;
}

pub seen_parts_law : SeenPartsLaw
unfolding IsSound
seen_parts_law volume old image sound kept sees = record {
  sound = record {
    super = ap (λ bytes. super_at bytes volume.span.count) kept.super ∙ sound.super;
    whole = kept.whole;
    parts = (sees_law volume.layout (parts_of volume old) (parts_of volume image) sound.parts sees).sound;
  };
  sees = sees;
}
