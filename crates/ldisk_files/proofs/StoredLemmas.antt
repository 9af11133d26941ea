-- What a source gives, and what may be stored of it.
use Rattle.std.proofs.Common.{◌≡◌, ◌≢◌, ◌≤◌, ◌<◌, ◌==◌, ℕ, zero, suc, Bool, true, false, List, [], ◌∷◌, ◌++◌, length, take, get_or, replicate, Option, Some, None, Result, Ok, Err, refl, sym, ◌∙◌, ap, subst, inl, arith}
use Rattle.std.specs.Prelude.{slice_index, nat_le, IfOk}
use Rattle.std.proofs.lemmas.Bool.{eqb-true, le-leb, lt-leb}
use Rattle.std.proofs.lemmas.List.{get_or-replicate}
use Rattle.disk_trait.specs.declared.disks.Disks.{Ghosts}
use Rattle.disk_trait.specs.declared.disks.Span.{Span}
use Rattle.disk_trait.specs.Moments.{IsTold, now}
use Rattle.disk_trait.specs.Past.{Image, Past, Told}
use Rattle.disk_trait.proofs.MomentLemmas.{told_now}
use Rattle.disk_trait.proofs.ToldLemmas.{told_all, told_map, told_both}
use Rattle.lilo_model.specs.Checks.{◌>>=◌, with_fault}
use Rattle.lilo_model.specs.MinixLayout.{Kind, V1Short, V1Long, V2Short, V2Long, is_size, v1_limit}
use Rattle.lilo_model.specs.MinixNames.{File, blocks, IsSound}
use Rattle.lilo_model.specs.MinixParts as model
use Rattle.lilo_model.specs.MinixParts.{parts_of, blocks_for, is_directory}
use Rattle.lilo_model.specs.MinixSurvey.{survey}
use Rattle.minix_steps.proofs.BitmapLemmas.{fits}
use Rattle.minix_choice_laws.proofs.Choose.{choice_law, blocks_length}
use Rattle.minix_create.specs.Chosen.{IsMade, Suits, IsFreeWhereSound, LinksWhereSound, MayBeMade, MayNest, block_of, block_with, content_with, new_inode, thing_with}
use Rattle.minix_create.specs.declared.chosen.Chosen.{Chosen}
use Rattle.minix_choice_laws.proofs.Given.{given_at, given_hole, given_length, count_before}
use Rattle.minix_choice_laws.specs.Sources.{FileZones}
use Rattle.minix_layout.specs.View.{kind_view, super_view, inode_view}
use Rattle.minix_layout.specs.declared.superblock.Super as layouts
use Rattle.minix_names.specs.declared.place.NamePlace.{NamePlace}
use Rattle.minix_tree.specs.View.{IsStat, IsNode}
use Rattle.minix_choice.specs.View.{wish_view}
use Rattle.minix_choice.specs.declared.wish.Wish.{Wish}
use Rattle.minix_zones.specs.Volume.{volume_view, past_of, SameVolume}
use Rattle.minix_zones.specs.declared.volume.Volume.{Volume}
use Rattle.minix_zones.proofs.SameLemmas.{told_back, told_forth}
use Rattle.write_model.specs.Choice.{Choice, choose, choose_blocks, file_need}
use Rattle.write_model.specs.FileZones.{count_made, data_blocks, without_holes}
use Rattle.write_model.specs.Wish.{Refusal}
use Rattle.ldisk_model.specs.FileVerdict.{FileRefusal, NewFile, NotSound, NoSpace, most_stored, stored_block, is_zero_block, zero_blocks, nothing_taken, checked_status, thing_made, making_check, new_check, room_check, made_check}
use Rattle.ldisk_files.specs.Answer.{Answers, IsSurveyed}
use Rattle.ldisk_files.specs.Made.{GivesNew, GivesChoice, IsNewPlace, IsSoundNow, KeepsHoles, MayMake, MayMakeNamed, MayMakeAt}
use Rattle.ldisk_files.specs.Stored.{padded_block, padded_blocks, IsGiven, OnGiven, IsReadFault, IsFileWish, GivesFree, GivesRoom, TakesRoom, GivesStored, TakesStored, IsStorable, IsUnread, file_fault}
use Rattle.ldisk_files.specs.declared.fault.FileFault.{FileFault}
use Rattle.ldisk_files.specs.declared.fault.FileFault.TheVariants as faults
use Rattle.ldisk_files.specs.declared.put_fault.PutFault.{PutFault}
use Rattle.ldisk_files.specs.declared.put_fault.PutFault.TheVariants.{Source, File as OfFile}
use Rattle.ldisk_files.specs.declared.stored.Stored.{Stored}
use Rattle.ldisk_files.proofs.ContentLemmas.{whole-file, block-there, hole-zeros, kept-made, hole-made}
use Rattle.ldisk_files.proofs.MadeLemmas.{promised-now}
use Rattle.ldisk_files.proofs.MarkLemmas.{each-given, growth-lacked}
use Rattle.ldisk_files.proofs.MakeLemmas.{told-mid, sound-mid, place-mid, may-back, may-at, new-place, new-answers}
use Rattle.ldisk_files.proofs.NameLemmas.{after-survey, answers-surveyed}
use Rattle.ldisk_files.proofs.PlaceLemmas.{pass-new}
use Rattle.ldisk_files.proofs.RoomLemmas.{answers-first, room-refused, room-passes, room-short}

-- ---- what a source gives

module _ (P : List ℕ → Type 0) where
  pub on-given : (left : Option (List ℕ)) (bytes : List ℕ) → IsGiven left bytes → P bytes → OnGiven left P
  on-given (Some left) bytes is held = subst P (sym is) held
  on-given None bytes is held = (bytes, held)

  pub given-all : (left : Option (List ℕ)) → ((given : List ℕ) → P given) → OnGiven left P
  given-all (Some left) held = held left
  given-all None held = ([], held [])

  pub given-map : (Q : List ℕ → Type 0) (left : Option (List ℕ)) → ((given : List ℕ) → P given → Q given) → OnGiven left P → OnGiven left Q
  given-map Q (Some left) f held = f left held
  given-map Q None f held = (held.0, f held.0 held.1)

-- ---- a refusal is the same, whatever would have been answered

pub answers-as : {A : Type 0} (B C : Type 0) (check : Result A FileRefusal) (fault : FileFault) → Answers {B = B} check (Err fault) → Answers {B = C} check (Err fault)
answers-as B C check faults.Refused is = is
answers-as B C check faults.BadLength is = is
answers-as B C check faults.NoSpace is = is
answers-as B C check faults.Device is = tt
answers-as B C check faults.Memory is = tt

answers-later : {A F : Type 0} (C E : Type 0) (given : Result A F) (wrap : F → FileRefusal) (check : Result (List (List ℕ)) FileRefusal) (next : List (List ℕ) → Result (List (List ℕ)) FileRefusal) (fault : FileFault)
    → Answers {B = C} (with_fault wrap given >>= λ met. check) (Err fault) → Answers {B = E} (with_fault wrap given >>= λ met. check >>= next) (Err fault)
answers-later C E (Ok met) wrap check next fault is = answers-first C E check next fault is
answers-later C E (Err why) wrap check next fault is = answers-as {A = List (List ℕ)} C E (Err (wrap why)) fault is

-- ---- the file

module _ (kind : Kind) (chosen : Chosen) (bytes : List ℕ) (mode : chosen.mode ≡ 33188) where
  pub file-may : MayBeMade kind chosen (block_of (padded_blocks bytes))
  file-may = inl record { file = rw mode refl; mode = λ none. let no = sym mode ∙ none in cc; some_link = rw mode (omega arith) }

  pub file-nests : (outer : List (List ℕ)) → MayNest outer chosen
  file-nests outer = λ is. absurd (let no : is_directory (new_inode chosen) ≡ false = rw mode refl in let e = sym no ∙ is in cc)

  module _ (long : chosen.length ≡ length bytes)
      (holes : (index : ℕ) → index < blocks_for (length bytes) → slice_index chosen.choice.blocks index ≡ 0 → is_zero_block (stored_block bytes index) ≡ true) where
    abbrev Given : ℕ → List ℕ
    Given = block_with chosen.choice.blocks (block_of (padded_blocks bytes))

    block-same : (index : ℕ) → index < blocks_for (length bytes) → Given index ≡ padded_block bytes index
    block-same index low = by (slice_index chosen.choice.blocks index == 0) refl
      where
        by : (hole : Bool) → (slice_index chosen.choice.blocks index == 0) ≡ hole → Given index ≡ padded_block bytes index
        by true e = rw e (sym (hole-zeros bytes index (holes index low (eqb-true (slice_index chosen.choice.blocks index) 0 e))))
        by false e = rw e (block-there bytes index low)

    blocks-same : (count : ℕ) → count ≤ blocks_for (length bytes) → blocks Given count ≡ blocks (padded_block bytes) count
    blocks-same zero low = refl
    blocks-same (suc count) low =
        ap (λ (front : List ℕ). front ++ Given count) (blocks-same count (omega (arith, low)))
        ∙ ap (λ (block : List ℕ). blocks (padded_block bytes) count ++ block) (block-same count (omega (arith, low)))

    content-same : content_with chosen (block_of (padded_blocks bytes)) ≡ bytes
    content-same =
        ap (λ (n : ℕ). take n (blocks Given (blocks_for n))) long
        ∙ (ap (take (length bytes)) (blocks-same (blocks_for (length bytes)) (omega arith)) ∙ whole-file bytes)

    pub file-is : thing_with chosen (block_of (padded_blocks bytes)) ≡ thing_made (NewFile bytes)
    file-is =
        let thing : thing_with chosen (block_of (padded_blocks bytes)) ≡ File (content_with chosen (block_of (padded_blocks bytes))) = rw mode refl in
        thing ∙ ap File content-same

-- ---- each block that isn't a hole gets a zone

module _ (volume : model.Volume) (image : Image) (place : NamePlace) (bytes : List ℕ) (wish : Wish) (is : IsFileWish place bytes wish) (chosen : Chosen) (first : 0 < volume.layout.first)
    (choice : GivesChoice volume image wish (Ok chosen)) where
  abbrev Made : List Bool
  Made = data_blocks wish.length wish.holes.now

  some-zone : (index : ℕ) → get_or Made index false ≡ true → slice_index chosen.choice.blocks index ≢ 0
  unfolding choose file_need
  some-zone index one =
      let free = choice_law volume.layout (parts_of volume image) nothing_taken (wish_view wish) chosen.choice first choice in
      let before = count_before Made index one in
      let enough = free.enough in
      let zone : slice_index chosen.choice.blocks index ≡ slice_index chosen.choice.zones (count_made (take index Made)) =
      ap (λ (zones : FileZones). slice_index zones.blocks index) free.file ∙ given_at Made chosen.choice.zones index one in
      λ none. free.rising.some (count_made (take index Made)) (omega (arith, before, enough)) (sym zone ∙ none)

  made-is : Made ≡ without_holes (zero_blocks bytes (blocks_for (length bytes))) (replicate (blocks_for (length bytes)) true)
  unfolding data_blocks
  made-is = ap (λ (n : ℕ). without_holes wish.holes.now (replicate (blocks_for n) true)) is.long
      ∙ ap (λ (list : List ℕ). without_holes list (replicate (blocks_for (length bytes)) true)) is.holes

  pub holes-zero : (index : ℕ) → index < blocks_for (length bytes) → slice_index chosen.choice.blocks index ≡ 0 → is_zero_block (stored_block bytes index) ≡ true
  holes-zero index low none = by (is_zero_block (stored_block bytes index)) refl
    where
      by : (test : Bool) → is_zero_block (stored_block bytes index) ≡ test → is_zero_block (stored_block bytes index) ≡ true
      by true e = e
      by false e =
          let one : get_or Made index false ≡ true =
          ap (λ (list : List Bool). get_or list index false) made-is
          ∙ (kept-made bytes (blocks_for (length bytes)) index (replicate (blocks_for (length bytes)) true) e
          ∙ get_or-replicate (blocks_for (length bytes)) index true false low) in
          absurd (some-zone index one none)

  -- and a block of zeros gets none
  pub holes-kept : KeepsHoles (NewFile bytes) chosen
  unfolding choose
  holes-kept index low zero-block =
      let free = choice_law volume.layout (parts_of volume image) nothing_taken (wish_view wish) chosen.choice first choice in
      let hole : get_or Made index false ≡ false = ap (λ (list : List Bool). get_or list index false) made-is
      ∙ hole-made bytes (blocks_for (length bytes)) index (replicate (blocks_for (length bytes)) true) low zero-block in
      let long : length chosen.choice.blocks ≡ length Made = ap (λ (zones : FileZones). length zones.blocks) free.file ∙ given_length Made chosen.choice.zones in
      let many : length Made ≡ blocks_for wish.length = blocks_length wish.length wish.holes.now in
      let same : blocks_for wish.length ≡ blocks_for (length bytes) = ap blocks_for is.long in
      (omega (arith, low, long, many, same), ap (λ (zones : FileZones). slice_index zones.blocks index) free.file ∙ given_hole Made chosen.choice.zones index hole)

-- ---- it may be made

-- what is known of the choice on a volume once it was made
pub record IsChosenFile {D : Type 0} {disks : Ghosts D} (last : Volume D disks) (place : NamePlace) (bytes : List ℕ) (wish : Wish) (chosen : Chosen) : Type 0 where
  pub made : IsMade wish chosen
  pub choice : Told (past_of last) (λ now. GivesChoice (volume_view last) now wish (Ok chosen))
  pub free : IsFreeWhereSound last nothing_taken chosen
  pub links : LinksWhereSound last nothing_taken chosen
  pub wish_is : IsFileWish place bytes wish

module _ {D : Type 0} {disks : Ghosts D} (old last : Volume D disks) (same : SameVolume old last) (place : NamePlace) (bytes : List ℕ) (wish : Wish) (chosen : Chosen)
    (stat : IsStat old.layout place.directory) (node : IsNode old place.directory) (is : IsChosenFile last place bytes wish chosen) where
  pub file-made : IsTold (past_of old) → IsSoundNow old → (outer : List (List ℕ)) → IsNewPlace (volume_view old) (now (past_of old)) outer place
      → MayMakeNamed old outer place.name.now (NewFile bytes) chosen (padded_blocks bytes)
  file-made told sound outer new =
      let told-last = told-mid old last same told in
      let sound-last = sound-mid old last same sound in
      let new-last = place-mid old last same outer place new in
      let node-last : inode_view place.directory.node ≡ (parts_of (volume_view last) (now (past_of last))).node place.directory.inode =
      told_now (past_of last) (λ now. inode_view place.directory.node ≡ (parts_of (volume_view last) now).node place.directory.inode)
      (told_forth old last (λ (volume : model.Volume) (now : Image). inode_view place.directory.node ≡ (parts_of volume now).node place.directory.inode) same node) told-last in
      let stat-last : IsStat last.layout place.directory = subst (λ (layout : layouts.Super). IsStat layout place.directory) (sym same.same_layout) stat in
      let in-it : chosen.directory ≡ place.directory.inode = is.made.directory ∙ is.wish_is.directory in
      let promised = promised-now last outer place chosen sound-last new-last stat-last node-last in-it in
      let mode : chosen.mode ≡ 33188 = is.made.mode ∙ is.wish_is.mode in
      let first : 0 < last.layout.first = let behind = (fits (super_view last.layout) last.span.count last.whole.passes).behind in omega (arith, behind) in
      let choice = told_now (past_of last) (λ now. GivesChoice (volume_view last) now wish (Ok chosen)) is.choice told-last in
      let may : MayMake last outer (NewFile bytes) chosen (padded_blocks bytes) = record {
        free = is.free outer told-last promised;
        links = is.links outer told-last promised;
        nests = file-nests (kind_view last.layout.kind) chosen bytes mode outer;
        mode = mode;
        made = file-may (kind_view last.layout.kind) chosen bytes mode;
        is = file-is (kind_view last.layout.kind) chosen bytes mode (is.made.size ∙ is.wish_is.long)
            (holes-zero (volume_view last) (now (past_of last)) place bytes wish is.wish_is chosen first choice);
        holes = holes-kept (volume_view last) (now (past_of last)) place bytes wish is.wish_is chosen first choice;
        each = each-given (volume_view last) (now (past_of last)) wish chosen choice;
        lacks = growth-lacked (volume_view last) (now (past_of last)) wish chosen choice is.made.directory;
      } in
      record {
        named = is.made.name ∙ is.wish_is.name;
        may = may-back old last same outer (NewFile bytes) chosen (padded_blocks bytes) may;
      }

-- the same of what was answered
pub file-made-all : {D : Type 0} {disks : Ghosts D} (old last : Volume D disks) → SameVolume old last → (place : NamePlace) (bytes : List ℕ) (wish : Wish) → IsStat old.layout place.directory → IsNode old place.directory
    → IsFileWish place bytes wish → (result : Result Chosen FileFault) → IfOk result (IsMade wish) → Told (past_of old) (λ now. GivesChoice (volume_view old) now wish result)
    → IfOk result (IsFreeWhereSound last nothing_taken) → IfOk result (LinksWhereSound last nothing_taken)
    → IfOk result (λ chosen. IsTold (past_of old) → IsSoundNow old → (outer : List (List ℕ)) → IsNewPlace (volume_view old) (now (past_of old)) outer place
    → MayMakeNamed old outer place.name.now (NewFile bytes) chosen (padded_blocks bytes))
file-made-all old last same place bytes wish stat node is (Ok chosen) made choice free links =
    file-made old last same place bytes wish chosen stat node
    record {
      made = made;
      choice = told_forth old last (λ (volume : model.Volume) (now : Image). GivesChoice volume now wish (Ok chosen)) same choice;
      free = free;
      links = links;
      wish_is = is;
    }
file-made-all old last same place bytes wish stat node is (Err fault) made choice free links = tt

-- each of its blocks was given
pub file-blocks : (layout : layouts.Super) (span : Span) (place : NamePlace) (bytes : List ℕ) (wish : Wish) → IsFileWish place bytes wish → (result : Result Chosen FileFault) → IfOk result (IsMade wish)
    → IfOk result (Suits layout span) → IfOk result (λ chosen. length chosen.choice.blocks ≤ blocks_for (length bytes))
file-blocks layout span place bytes wish is (Ok chosen) made suits =
    let same : length chosen.choice.blocks ≡ length suits.made = ap length suits.file.blocks_are ∙ given_length suits.made chosen.choice.zones in
    let many = suits.many in
    let long : blocks_for chosen.length ≡ blocks_for (length bytes) = ap blocks_for (made.size ∙ is.long) in
    omega (arith, same, many, long)
file-blocks layout span place bytes wish is (Err fault) made suits = tt

-- each volume can have a file of so many bytes
pub file-size : (kind : Kind) (size : ℕ) → size ≤ most_stored → is_size kind size ≡ true
file-size V1Short size few = rw (le-leb size v1_limit (omega (arith, few))) refl
file-size V1Long size few = rw (le-leb size v1_limit (omega (arith, few))) refl
file-size V2Short size few = refl
file-size V2Long size few = refl

-- ---- there is room, or none

module _ (past : Option Past) (volume : model.Volume) (place : NamePlace) where
  pub room-failed : (B : Type 0) (given : List ℕ) → GivesRoom {B = B} past volume place given (Err faults.Memory)
  room-failed B given = told_all past _ (λ now sound outer new. tt)

  too-long : (B : Type 0) (given : List ℕ) → most_stored < length given → GivesRoom {B = B} past volume place given (Err faults.BadLength)
  too-long B given many = told_all past _ (λ now sound outer new.
      room-refused volume now (NewFile given) outer place.name.now place.directory.inode new.there.leads (Unit {0}) B faults.BadLength
      (let no : nat_le (length given) most_stored ≡ false = lt-leb (length given) most_stored many in rw no refl))

  module _ (left : Option (List ℕ)) where
    -- why the source's bytes weren't taken
    pub read-room : (fault : PutFault) → IsReadFault left fault → OnGiven left (λ given. GivesRoom {B = Stored} past volume place given (Err (file_fault fault)))
    read-room Source is = given-all (λ given. GivesRoom {B = Stored} past volume place given (Err faults.Memory)) left (λ given. room-failed Stored given)
    read-room (OfFile faults.Refused) is = absurd is
    read-room (OfFile faults.BadLength) is = given-map (λ given. most_stored < length given) (λ given. GivesRoom {B = Stored} past volume place given (Err faults.BadLength)) left
        (λ given many. too-long Stored given many) is
    read-room (OfFile faults.NoSpace) is = absurd is
    read-room (OfFile faults.Device) is = absurd is
    read-room (OfFile faults.Memory) is = given-all (λ given. GivesRoom {B = Stored} past volume place given (Err faults.Memory)) left (λ given. room-failed Stored given)

    -- why nothing could be chosen for them
    pub chosen-room : (bytes : List ℕ) → IsGiven left bytes → (fault : FileFault) → GivesRoom {B = Chosen} past volume place bytes (Err fault)
        → OnGiven left (λ given. GivesRoom {B = Stored} past volume place given (Err fault))
    chosen-room bytes is fault room = on-given (λ given. GivesRoom {B = Stored} past volume place given (Err fault)) left bytes is
        (told_map past _ _ (λ now gives sound outer new. answers-as Chosen Stored (room_check (NewFile bytes) volume now (place.name.now ∷ outer)) fault (gives sound outer new)) room)

  module _ (bytes : List ℕ) (few : length bytes ≤ most_stored) (wish : Wish) (is : IsFileWish place bytes wish) where
    fits-file : (new : List (List ℕ)) → checked_status (making_check (NewFile bytes) new) ≡ 0
    fits-file new = let yes : nat_le (length bytes) most_stored ≡ true = le-leb (length bytes) most_stored few in rw yes refl

    choice-as : (image : Image) → choose_blocks volume.layout (parts_of volume image) nothing_taken wish.directory wish.name.now (data_blocks wish.length wish.holes.now)
        ≡ choose_blocks volume.layout (parts_of volume image) nothing_taken place.directory.inode place.name.now (data_blocks (length bytes) (zero_blocks bytes (blocks_for (length bytes))))
    choice-as image = rw (is.directory, is.name, is.long, is.holes) refl

    pub file-room : (result : Result Chosen FileFault) → Told past (λ now. GivesChoice volume now wish result) → GivesRoom past volume place bytes result
    file-room (Ok chosen) told = told_map past _ _ (λ now choice sound outer new.
        ap checked_status (room-passes volume now (NewFile bytes) outer place.name.now place.directory.inode new.there.leads (fits-file (place.name.now ∷ outer)) chosen.choice
        (ap (with_fault NoSpace) (sym (choice-as now) ∙ choice)))) told
    file-room (Err fault) told = told_map past _ _ (λ now choice sound outer new.
        room-short volume now (NewFile bytes) outer place.name.now place.directory.inode new.there.leads Chosen Chosen fault (fits-file (place.name.now ∷ outer))
        (subst (λ (given : Result Choice Refusal). Answers {B = Chosen} (with_fault NoSpace given) (Err fault)) (choice-as now) choice)) told

-- ---- all checks

-- a surveyed volume has a place for the name, or a check refuses
pub free-by : (volume : model.Volume) (image : Image) (text : List ℕ) (result : Result NamePlace FileFault) → IsSurveyed volume image → GivesNew volume image text result → GivesFree volume image text result
free-by volume image text (Ok place) is new = record { surveyed = is; new = new }
free-by volume image text (Err fault) is refuses = answers-surveyed volume image {B = NamePlace} (new_check text) (Err fault) is refuses

module _ (past : Option Past) (volume : model.Volume) (text : List ℕ) where
  -- no place, and so nothing is stored, whatever the source gives
  pub no-place-stored : (left : Option (List ℕ)) (fault : FileFault) → Told past (λ now. GivesFree volume now text (Err fault))
      → OnGiven left (λ given. GivesStored {B = Stored} past volume text given (Err fault))
  no-place-stored left fault told = given-all (λ given. GivesStored {B = Stored} past volume text given (Err fault)) left (λ given. told_map past _ _
      (λ now refuses. answers-later NamePlace Stored (survey volume.layout (parts_of volume now)) NotSound (new_check text volume now) (λ new. room_check (NewFile given) volume now new) fault refuses) told)

  -- the source is asked only where there is a place
  pub read-after : {I : Type 0} (place : NamePlace) (before after : I) → Told past (λ now. GivesFree volume now text (Ok place)) → IsUnread past volume text before after
  read-after place before after told = told_map past _ _ (λ now free some.
      absurd (some (ap checked_status (after-survey volume now (new_check text) free.surveyed ∙ pass-new volume now text place free.new)))) told

  pub unread-same : {I : Type 0} (source : I) → IsUnread past volume text source source
  unread-same source = told_all past _ (λ now some. refl)

module _ {D : Type 0} {disks : Ghosts D} (old mid : Volume D disks) (same : SameVolume old mid) (text : List ℕ) (place : NamePlace) (free : Told (past_of old) (λ now. GivesFree (volume_view old) now text (Ok place))) where
  stored-by : (B : Type 0) (given : List ℕ) (result : Result B FileFault) → GivesRoom (past_of mid) (volume_view mid) place given result → GivesStored (past_of old) (volume_view old) text given result
  stored-by B given result room =
      told_both (past_of old) _ _ _
      (λ now is gives.
      answers-surveyed (volume_view old) now (made_check (NewFile given) text) result is.surveyed
      (new-answers (volume_view old) now text (NewFile given) place is.new result (gives is.surveyed.sound is.new.ends.above (new-place (volume_view old) now text place is.new))))
      free
      (told_back old mid (λ (volume : model.Volume) (now : Image). IsSound volume now → (outer : List (List ℕ)) → IsNewPlace volume now outer place → Answers (room_check (NewFile given) volume now (place.name.now ∷ outer)) result) same room)

  pub takes-stored : (left : Option (List ℕ)) (result : Result Stored PutFault) → TakesRoom (past_of mid) (volume_view mid) place left result → TakesStored (past_of old) (volume_view old) text left result
  takes-stored left (Ok stored) room = stored-by Stored stored.bytes.items (Ok stored) room
  takes-stored left (Err fault) room = given-map (λ given. GivesRoom {B = Stored} (past_of mid) (volume_view mid) place given (Err (file_fault fault)))
      (λ given. GivesStored {B = Stored} (past_of old) (volume_view old) text given (Err (file_fault fault))) left (λ given gives. stored-by Stored given (Err (file_fault fault)) gives) room

  -- what may be made by the name may be made at the text's path
  pub may-stored : (result : Result Stored PutFault)
      → IfOk result (λ stored. IsTold (past_of mid) → IsSoundNow mid → (outer : List (List ℕ)) → IsNewPlace (volume_view mid) (now (past_of mid)) outer place
      → MayMakeNamed mid outer place.name.now (NewFile stored.bytes.items) stored.chosen (padded_blocks stored.bytes.items))
      → IfOk result (λ stored. IsTold (past_of old) → MayMakeAt old text (NewFile stored.bytes.items) stored.chosen (padded_blocks stored.bytes.items))
  may-stored (Ok stored) named = λ told.
      may-at old mid same text (NewFile stored.bytes.items) place stored.chosen (padded_blocks stored.bytes.items) (told_map (past_of old) _ _ (λ now is sound. is.new) free) named told
      (told_now (past_of old) (λ now. GivesFree (volume_view old) now text (Ok place)) free told).surveyed.sound
  may-stored (Err fault) named = tt

-- what suits the volume as it is later suits it before
pub storable-back : {D : Type 0} {disks : Ghosts D} (old mid : Volume D disks) → SameVolume old mid → (result : Result Stored PutFault) → IfOk result (IsStorable mid.layout mid.span) → IfOk result (IsStorable old.layout old.span)
storable-back old mid same (Ok stored) is = subst (λ (layout : layouts.Super). IsStorable layout old.span stored) same.same_layout (subst (λ (span : Span). IsStorable mid.layout span stored) same.same_span is)
storable-back old mid same (Err fault) is = tt
