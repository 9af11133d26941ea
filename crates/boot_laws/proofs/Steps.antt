-- The steps of a boot, each by itself.
use Rattle.std.proofs.Common.{◌≡◌, Result, Ok, Err, refl, ◌∙◌}
use Rattle.lilo_model.specs.Checks.{◌>>=◌, with_fault}
use Rattle.lilo_model.specs.Header.{SetupFault}
use Rattle.lilo_model.specs.Place.{Loading, place}
use Rattle.lilo_model.specs.Reason as reasons
use Rattle.lilo_model.specs.Section.{chain_steps}
use Rattle.lilo_model.specs.Boot.{Loaded}
use Rattle.lilo_model.proofs.LeftLemmas.{choice_last}
use Rattle.lilo_model.proofs.TurnLemmas.{course_opened-add}
use Rattle.lilo_model.proofs.PlaceLaws.{ending_of, loaded_ending-place}
use Rattle.lilo_model.proofs.SectionLaws.{listing_of-most, content_of-length}
use Rattle.boot_laws.specs.Steps.{FewSectorsLaw, ContentLaw, LastKeysLaw, EnoughLinesLaw, PlaceLaw}

pub few_sectors_law : FewSectorsLaw
unfolding Rattle.lilo_model.specs.Section.section
few_sectors_law image machine first sectors chain = listing_of-most 0 sectors (chain_steps image machine chain 0 chain first)

pub content_law : ContentLaw
unfolding Rattle.lilo_model.specs.Section.file_content Rattle.lilo_model.specs.Section.section
content_law image machine first len chain sound whole = content_of-length image sound len (chain_steps image machine chain 0 chain first) whole

pub last_keys_law : LastKeysLaw
last_keys_law settings entries line message keys = choice_last settings entries line message keys

pub enough_lines_law : EnoughLinesLaw
enough_lines_law setup more opens keys = course_opened-add setup more opens keys

pub place_law : PlaceLaw
place_law entry kernel initrd line video memory long size =
    loaded_ending-place entry kernel initrd line video memory long size ∙ told (place kernel initrd line video memory)
  where
    told : (loading : Result Loading SetupFault) → ending_of loading ≡ (with_fault reasons.Header loading >>= λ loading. Ok (record { outcome = Loaded loading.layout; written = loading.written }))
    told (Ok loading) = refl
    told (Err fault) = refl
