-- What was chosen by a name, and whether there is room for it.
use Rattle.std.proofs.Common.{◌≡◌, ◌≢◌, ℕ, List, [], ◌∷◌, Option, Result, Ok, Err, refl, sym, ◌∙◌, ap, subst, arith}
use Rattle.std.specs.Prelude.{slice_index}
use Rattle.disk_trait.specs.declared.disks.Disks.{Ghosts}
use Rattle.disk_trait.specs.Past.{Image, Past, Told}
use Rattle.disk_trait.specs.Moments.{IsTold, now}
use Rattle.disk_trait.proofs.MomentLemmas.{told_now}
use Rattle.disk_trait.proofs.ToldLemmas.{told_map, told_both}
use Rattle.lilo_model.specs.Checks.{with_fault}
use Rattle.lilo_model.specs.MinixNames.{IsSound}
use Rattle.lilo_model.specs.MinixParts as model
use Rattle.lilo_model.specs.MinixParts.{parts_of, blocks_for}
use Rattle.minix_create.specs.Chosen.{IsMade, HasEachZone, IsFreeWhereSound, LinksWhereSound}
use Rattle.minix_create.specs.declared.chosen.Chosen.{Chosen}
use Rattle.minix_layout.specs.View.{kind_view, inode_view}
use Rattle.minix_layout.specs.declared.superblock.Super as layouts
use Rattle.minix_names.specs.declared.place.NamePlace.{NamePlace}
use Rattle.minix_tree.specs.View.{IsStat, IsNode}
use Rattle.minix_choice.specs.declared.wish.Wish.{Wish}
use Rattle.minix_zones.specs.Volume.{volume_view, past_of, SameVolume}
use Rattle.minix_zones.specs.declared.volume.Volume.{Volume}
use Rattle.minix_zones.proofs.SameLemmas.{told_forth}
use Rattle.write_model.specs.Choice.{Choice, choose_blocks}
use Rattle.write_model.specs.Wish.{Refusal}
use Rattle.write_model.specs.FileZones.{data_blocks}
use Rattle.ldisk_model.specs.FileVerdict as makings
use Rattle.ldisk_model.specs.FileVerdict.{NoSpace, nothing_taken, checked_status, room_check, size_made}
use Rattle.ldisk_files.specs.Answer.{Answers}
use Rattle.ldisk_files.specs.Made.{Fits, GivesLength, GivesChoice, IsNewPlace, IsWishFor, IsFirstBlock, IsSoundNow, MayMake, MayMakeNamed, making_view, mode_made}
use Rattle.ldisk_files.specs.declared.fault.FileFault.{FileFault}
use Rattle.ldisk_files.specs.declared.making.Making.{Making}
use Rattle.ldisk_files.proofs.MadeLemmas.{promised-now, nests-by, no-holes-kept, one-block, made-by, thing-by}
use Rattle.ldisk_files.proofs.MakeLemmas.{told-mid, sound-mid, place-mid, may-back}
use Rattle.ldisk_files.proofs.MarkLemmas.{each-given, growth-lacked}
use Rattle.ldisk_files.proofs.RoomLemmas.{no-holes, room-refused, room-passes, room-short}

-- ---- it may be made

-- what is known of the choice on a volume once it was made
pub record IsChosenFor {D : Type 0} {disks : Ghosts D} (last : Volume D disks) (place : NamePlace) (making : Making) (wish : Wish) (chosen : Chosen) (block : List ℕ) : Type 0 where
  pub made : IsMade wish chosen
  pub choice : Told (past_of last) (λ now. GivesChoice (volume_view last) now wish (Ok chosen))
  pub whole : HasEachZone last wish chosen
  pub free : IsFreeWhereSound last nothing_taken chosen
  pub links : LinksWhereSound last nothing_taken chosen
  pub wish_is : IsWishFor (kind_view last.layout.kind) place (making_view making) wish
  pub first : IsFirstBlock (kind_view last.layout.kind) (making_view making) chosen.choice.inode place.directory.inode block

module _ {D : Type 0} {disks : Ghosts D} (old last : Volume D disks) (same : SameVolume old last) (place : NamePlace) (making : Making) (wish : Wish) (chosen : Chosen)
    (block : List ℕ) (stat : IsStat old.layout place.directory) (node : IsNode old place.directory) (is : IsChosenFor last place making wish chosen block) where
  mode-is : chosen.mode ≡ mode_made (making_view making)
  mode-is = is.made.mode ∙ is.wish_is.mode

  long-is : chosen.length ≡ (size_made (kind_view last.layout.kind) (making_view making)).bytes
  long-is = is.made.size ∙ is.wish_is.long

  blocks-is : blocks_for chosen.length ≡ 1
  blocks-is = ap blocks_for long-is ∙ one-block (kind_view last.layout.kind) making is.wish_is.short

  directory-is : chosen.directory ≡ place.directory.inode
  directory-is = is.made.directory ∙ is.wish_is.directory

  pub named-made : IsTold (past_of old) → IsSoundNow old → (outer : List (List ℕ)) → IsNewPlace (volume_view old) (now (past_of old)) outer place
      → Fits (making_view making) outer place → MayMakeNamed old outer place.name.now (making_view making) chosen (block ∷ [])
  named-made told sound outer new status =
      let told-last = told-mid old last same told in
      let sound-last = sound-mid old last same sound in
      let new-last = place-mid old last same outer place new in
      let node-last : inode_view place.directory.node ≡ (parts_of (volume_view last) (now (past_of last))).node place.directory.inode =
      told_now (past_of last) (λ now. inode_view place.directory.node ≡ (parts_of (volume_view last) now).node place.directory.inode)
      (told_forth old last (λ (volume : model.Volume) (now : Image). inode_view place.directory.node ≡ (parts_of volume now).node place.directory.inode) same node) told-last in
      let stat-last : IsStat last.layout place.directory = subst (λ (layout : layouts.Super). IsStat layout place.directory) (sym same.same_layout) stat in
      let promised = promised-now last outer place chosen sound-last new-last stat-last node-last directory-is in
      let some : slice_index chosen.choice.blocks 0 ≢ 0 = is.whole told-last is.wish_is.holes 0 (let n = blocks-is in omega (arith, n)) in
      let first : IsFirstBlock (kind_view last.layout.kind) (making_view making) chosen.choice.inode chosen.directory block =
      subst (λ (d : ℕ). IsFirstBlock (kind_view last.layout.kind) (making_view making) chosen.choice.inode d block) (sym directory-is) is.first in
      let may : MayMake last outer (making_view making) chosen (block ∷ []) = record {
        free = is.free outer told-last promised;
        links = is.links outer told-last promised;
        nests = nests-by outer place.name.now making chosen mode-is status;
        mode = mode-is;
        made = made-by (kind_view last.layout.kind) making chosen block some is.wish_is.short mode-is long-is first;
        is = thing-by (kind_view last.layout.kind) making chosen block some is.wish_is.short mode-is long-is first;
        holes = no-holes-kept making chosen;
        each = each-given (volume_view last) (now (past_of last)) wish chosen
            (told_now (past_of last) (λ now. GivesChoice (volume_view last) now wish (Ok chosen)) is.choice told-last);
        lacks = growth-lacked (volume_view last) (now (past_of last)) wish chosen
            (told_now (past_of last) (λ now. GivesChoice (volume_view last) now wish (Ok chosen)) is.choice told-last) is.made.directory;
      } in
      record {
        named = is.made.name ∙ is.wish_is.name;
        may = may-back old last same outer (making_view making) chosen (block ∷ []) may;
      }

-- from a later volume to an earlier one
pub named-back : {D : Type 0} {disks : Ghosts D} (old mid : Volume D disks) → SameVolume old mid → (outer : List (List ℕ)) (name : List ℕ) (making : makings.Making) (chosen : Chosen) (blocks : List (List ℕ))
    → MayMakeNamed mid outer name making chosen blocks → MayMakeNamed old outer name making chosen blocks
named-back old mid same outer name making chosen blocks may = record { named = may.named; may = may-back old mid same outer making chosen blocks may.may }

-- ---- there is room, or none

module _ (past : Option Past) (volume : model.Volume) (place : NamePlace) (making : Making) where
  abbrev Told-room : (B : Type 0) → Result B FileFault → Type 0
  Told-room B result = Told past (λ now. IsSound volume now → (outer : List (List ℕ)) → IsNewPlace volume now outer place → Answers (room_check (making_view making) volume now (place.name.now ∷ outer)) result)

  -- the same where it fits
  abbrev Told-fits : (B : Type 0) → Result B FileFault → Type 0
  Told-fits B result = Told past (λ now. IsSound volume now → (outer : List (List ℕ)) → IsNewPlace volume now outer place → Fits (making_view making) outer place
      → Answers (room_check (making_view making) volume now (place.name.now ∷ outer)) result)

  abbrev Told-length : Result ℕ FileFault → Type 0
  Told-length result = Told past (λ now. IsSound volume now → (outer : List (List ℕ)) (name : List ℕ) → GivesLength volume now outer place.directory.inode name (making_view making) result)

  pub told-refused : (B : Type 0) (fault : FileFault) → Told-length (Err fault) → Told-room B (Err fault)
  told-refused B fault told = told_map past _ _
      (λ now gives sound outer new. room-refused volume now (making_view making) outer place.name.now place.directory.inode new.there.leads ℕ B fault (gives sound outer place.name.now new.there)) told

  pub told-all : (B : Type 0) (size : ℕ) (result : Result B FileFault) → Told-length (Ok size) → Told-fits B result → Told-room B result
  told-all B size result length fits = told_both past _ _ _ (λ now gives room sound outer new. room sound outer new (gives sound outer place.name.now new.there)) length fits

  module _ (wish : Wish) (is : IsWishFor volume.layout.kind place (making_view making) wish) where
    choice-as : (image : Image) → choose_blocks volume.layout (parts_of volume image) nothing_taken wish.directory wish.name.now (data_blocks wish.length wish.holes.now)
        ≡ choose_blocks volume.layout (parts_of volume image) nothing_taken place.directory.inode place.name.now
        (data_blocks (size_made volume.layout.kind (making_view making)).bytes (size_made volume.layout.kind (making_view making)).holes)
    choice-as image = rw (is.directory, is.name, is.long, is.holes ∙ sym (no-holes volume making)) refl

    pub told-passes : (B : Type 0) (chosen : Chosen) (ready : B) → Told past (λ now. GivesChoice volume now wish (Ok chosen)) → Told-fits B (Ok ready)
    told-passes B chosen ready told = told_map past _ _
        (λ now choice sound outer new fits.
        ap checked_status (room-passes volume now (making_view making) outer place.name.now place.directory.inode new.there.leads fits chosen.choice
        (ap (with_fault NoSpace) (sym (choice-as now) ∙ choice)))) told

    pub told-short : (B : Type 0) (fault : FileFault) → Told past (λ now. GivesChoice volume now wish (Err fault)) → Told-fits B (Err fault)
    told-short B fault told = told_map past _ _
        (λ now choice sound outer new fits.
        room-short volume now (making_view making) outer place.name.now place.directory.inode new.there.leads Chosen B fault fits
        (subst (λ (given : Result Choice Refusal). Answers {B = Chosen} (with_fault NoSpace given) (Err fault)) (choice-as now) choice)) told
