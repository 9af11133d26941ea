-- The room that is found, and where its names lie, by what is read.
use Rattle.std.proofs.Common.{◌≡◌, ◌<◌, ◌^◌, ℕ, List, Option, None, Some, Result, Ok, Err, sym, subst}
use Rattle.std.specs.Prelude.{IfSome, IsErr, OnOk}
use Rattle.disk_trait.specs.declared.disks.Disks.{Ghosts}
use Rattle.disk_trait.specs.declared.disks.Span.{Span}
use Rattle.disk_trait.specs.Moments.{IsTold, now}
use Rattle.disk_trait.specs.Past.{Image, Told}
use Rattle.disk_trait.proofs.MomentLemmas.{told_now}
use Rattle.lilo_model.specs.Disks.{DiskSector}
use Rattle.lilo_model.specs.MinixFind.{readable}
use Rattle.lilo_model.specs.MinixLayout as layouts
use Rattle.lilo_model.specs.MinixLayout.{is_size}
use Rattle.lilo_model.specs.MinixNames.{Sound, IsSound}
use Rattle.lilo_model.specs.MinixParts as model
use Rattle.lilo_model.specs.MinixParts.{Parts, parts_of}
use Rattle.lilo_model.specs.Settled as names
use Rattle.minix_choice_laws.specs.Apart.{AreApart}
use Rattle.minix_create.specs.declared.chosen.Chosen.{Chosen}
use Rattle.minix_create.specs.Chosen.{IsFreeWhereSound, LinksWhereSound}
use Rattle.minix_layout.specs.View.{kind_view, super_view}
use Rattle.minix_layout.specs.declared.superblock.Super.{Super}
use Rattle.minix_change_laws.proofs.Seen.{opened}
use Rattle.minix_steps.specs.Written.{parts_now}
use Rattle.minix_zones.specs.View.{span_view}
use Rattle.minix_zones.specs.Volume.{volume_view, past_of, SameVolume}
use Rattle.minix_zones.specs.declared.volume.Volume.{Volume}
use Rattle.minix_zones.proofs.SameLemmas.{same_view}
use Rattle.write_model.specs.Wish.{Taken}
use Rattle.install_apart.specs.Names.{AreTwins}
use Rattle.install_apart.specs.declared.name.NamePair.{NamePair}
use Rattle.install_apart.specs.declared.own.OwnNames.{OwnNames}
use Rattle.install_laws.specs.InstallVerdict.{sectors_of_blocks}
use Rattle.install_room.specs.Making.{LiePaired}
use Rattle.install_room.specs.Room.{AvoidPlaces, HasNoHoles, IsRoomFor, IsRoomFree, KeepsOut, first_of, places_view, taken_beside}
use Rattle.install_room.specs.declared.room.Room.{Room}
use Rattle.install_room.specs.declared.room.RoomWish.{RoomWish}
use Rattle.install_room.proofs.FreeLemmas.{moved, told_was, free_stays, links_stay, promises_stay}
use Rattle.install_order.specs.Plans.{ArePlaced, IsPairPlaced}
use Rattle.install_order.specs.Stageable.{BackupLiesWhereSound, IsSmallWhereRead, IsWishedRoom, LieThere, LieWhereSound, PairLiesWhereSound}
use Rattle.install_order.specs.declared.examination.Examined.{Examined}

-- ---- a call that left the volume alone

module _ {D : Type 0} {disks : Ghosts D} (old new : Volume D disks) (same : SameVolume old new) where
  -- what is so now, where the past is told, is so after it
  pub stays : (P : model.Volume → Image → Type 0) → (IsTold (past_of old) → P (volume_view old) (now (past_of old))) → IsTold (past_of new) → P (volume_view new) (now (past_of new))
  stays P is told = moved old new same P (is (told_was old new same told))

  room-free : (first : Taken) (room : Room) → IsRoomFree old first room → IsRoomFree new first room
  room-free first room free = record {
    backup_free = by room.backup free.backup_free;
    map_free = free_stays old new same (taken_beside first room.backup) room.map free.map_free;
    map_name = links_stay old new same (taken_beside first room.backup) room.map free.map_name;
    promised = λ told. promises_stay old new same (taken_beside first room.backup) (free.promised (told_was old new same told));
    apart = λ told.
        let A : Super → Type 0 = λ layout. IfSome room.backup (λ chosen. AreApart (kind_view layout.kind) chosen.directory chosen.choice room.map.directory room.map.choice) in
        subst A (sym same.same_layout) (free.apart (told_was old new same told));
    taken = λ told.
        let was = free.taken (told_was old new same told) in
        record { last = was.last; promised = promises_stay old new same was.last was.promised; map_held = was.map_held; backup_held = was.backup_held };
  }
    where
      by : (backup : Option Chosen) → IfSome backup (λ chosen. IsFreeWhereSound old first chosen × LinksWhereSound old first chosen)
          → IfSome backup (λ chosen. IsFreeWhereSound new first chosen × LinksWhereSound new first chosen)
      by None was = tt
      by (Some chosen) was = (free_stays old new same first chosen was.0, links_stay old new same first chosen was.1)

  module _ (found : Examined) (wish : RoomWish) (room : Room) where
    kept-was : (places : List DiskSector) → KeepsOut (volume_view new) places found.old → KeepsOut (volume_view old) places found.old
    kept-was places = subst (λ (v : model.Volume). KeepsOut v places found.old) (same_view old new same)

    lies-new : places_view room ≡ sectors_of_blocks (span_view old.span) room.map.choice.blocks wish.sectors → places_view room ≡ sectors_of_blocks (span_view new.span) room.map.choice.blocks wish.sectors
    lies-new = subst (λ (span : Span). places_view room ≡ sectors_of_blocks (span_view span) room.map.choice.blocks wish.sectors) (sym same.same_span)

    -- the room that a call found
    pub wished_found : IsRoomFor found.own wish room → (IsTold (past_of old) → HasNoHoles room) → places_view room ≡ sectors_of_blocks (span_view old.span) room.map.choice.blocks wish.sectors
        → ((places : List DiskSector) → KeepsOut (volume_view old) places found.old → IsRoomFree new (first_of (volume_view old) places wish.unsettled wish.forced found.own) room)
        → (IsTold (past_of old) → (places : List DiskSector) → KeepsOut (volume_view old) places found.old → AvoidPlaces (volume_view old) places room)
        → IsWishedRoom new found wish room
    wished_found made whole lies free avoids = record {
      made = made;
      whole = λ told. whole (told_was old new same told);
      lies = lies-new lies;
      beside = λ places keeps. record {
        free = subst (λ (v : model.Volume). IsRoomFree new (first_of v places wish.unsettled wish.forced found.own) room) (sym (same_view old new same)) (free places (kept-was places keeps));
        avoids = λ told. subst (λ (v : model.Volume). AvoidPlaces v places room) (sym (same_view old new same)) (avoids (told_was old new same told) places (kept-was places keeps));
      };
    }

    -- and one that was found before it
    pub wished_stays : IsWishedRoom old found wish room → IsWishedRoom new found wish room
    wished_stays is =
        wished_found is.made is.whole is.lies
        (λ places keeps. room-free (first_of (volume_view old) places wish.unsettled wish.forced found.own) room (is.beside places keeps).free)
        (λ told places keeps. (is.beside places keeps).avoids told)

-- ---- the names

pub on_ok_all : {T E : Type 0} (result : Result T E) (P : Type 0) → P → OnOk result P
on_ok_all (Ok value) P p = p
on_ok_all (Err fault) P p = tt

-- what is read of a directory that can be read is there
pub small_read : {E : Type 0} (super : layouts.Super) (parts : Parts) (directory : ℕ) (result : Result (Unit {0}) E) → OnOk result (IsErr (readable super parts directory)) → OnOk result (IsSmallWhereRead super parts directory)
small_read super parts directory (Ok done) refused = λ sized. let none = rw sized at refused in absurd cc
small_read super parts directory (Err fault) refused = tt

module _ {D : Type 0} {disks : Ghosts D} (volume : Volume D disks) where
  -- both names of a pair are in the one directory
  pair-lies : (pair : NamePair) → AreTwins pair → (IsTold (past_of volume) → IsSmallWhereRead (super_view volume.layout) (parts_now volume) pair.plain.directory) → PairLiesWhereSound volume pair
  pair-lies pair twins small told sound path placed =
      let holds : Sound (super_view volume.layout) (parts_now volume) = (opened (volume_view volume) (now (past_of volume)) sound).parts in
      let sized = holds.size pair.plain.directory (record { path = placed.plain.above; leads = placed.plain.there.leads }) in
      let low : ((parts_now volume).node pair.plain.directory).size < 2 ^ 32 = small told sized in
      record {
        plain = record { ends = placed.plain; small = low };
        tilde = record { ends = placed.tilde; small = rw twins.directory low };
      }

module _ {D : Type 0} {disks : Ghosts D} (old new : Volume D disks) (same : SameVolume old new) where
  -- so they lie where it was read
  pub pair_looked : {E : Type 0} (pair : NamePair) → AreTwins pair → (result : Result (Unit {0}) E)
      → Told (past_of old) (λ image. OnOk result (IsSmallWhereRead (super_view old.layout) (parts_of (volume_view old) image) pair.plain.directory)) → OnOk result (PairLiesWhereSound new pair)
  pair_looked pair twins (Ok done) read =
      pair-lies new pair twins (stays old new same (λ view image. IsSmallWhereRead view.layout (parts_of view image) pair.plain.directory)
      (told_now (past_of old) (λ image. IsSmallWhereRead (super_view old.layout) (parts_of (volume_view old) image) pair.plain.directory) read))
  pair_looked pair twins (Err fault) read = tt

  -- and so they do after a call that left it alone
  pub pair_stays : (pair : NamePair) → PairLiesWhereSound old pair → PairLiesWhereSound new pair
  pair_stays pair = stays old new same (λ view image. IsSound view image → (path : List (List ℕ)) → IsPairPlaced view.layout (parts_of view image) path pair → LiePaired view.layout (parts_of view image) path pair)

  pub lie_stays : (own : OwnNames) → LieWhereSound old own → LieWhereSound new own
  lie_stays own = stays old new same (λ view image. IsSound view image → (all : names.OwnNames) → ArePlaced view.layout (parts_of view image) all own → LieThere view.layout (parts_of view image) all own)

  -- those of a map and of a backup
  pub names_looked : {E : Type 0} (own : OwnNames) (result : Result (Unit {0}) E) → PairLiesWhereSound old own.map → OnOk result (BackupLiesWhereSound new own.backup) → OnOk result (LieWhereSound new own)
  names_looked own (Ok done) map backup = λ told sound all placed.
      record { map = pair_stays own.map map told sound all.map placed.map; backup = backup told sound all.backup placed.backup }
  names_looked own (Err fault) map backup = tt

backup-lies : {D : Type 0} {disks : Ghosts D} (volume : Volume D disks) (pair : NamePair) → PairLiesWhereSound volume pair → BackupLiesWhereSound volume (Some pair)
backup-lies volume pair lies told sound None placed = placed
backup-lies volume pair lies told sound (Some path) placed = lies told sound path placed

pub backup_looked : {D E : Type 0} {disks : Ghosts D} (volume : Volume D disks) (pair : NamePair) (result : Result (Unit {0}) E) → OnOk result (PairLiesWhereSound volume pair)
    → OnOk result (BackupLiesWhereSound volume (Some pair))
backup_looked volume pair (Ok done) lies = backup-lies volume pair lies
backup_looked volume pair (Err fault) lies = tt

pub no_backup_lies : {D : Type 0} {disks : Ghosts D} (volume : Volume D disks) → BackupLiesWhereSound volume None
no_backup_lies volume told sound None placed = tt
no_backup_lies volume told sound (Some path) placed = placed
