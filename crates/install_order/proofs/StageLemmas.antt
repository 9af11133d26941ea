-- What may be staged of a plan, from what was found of its room.
use Rattle.std.proofs.Common.{◌≡◌, ◌≢◌, ◌≤◌, ◌<◌, ◌+◌, ◌-◌, ◌*◌, ◌/◌, ◌%◌, ◌==◌, ◌&&◌, ℕ, Bool, true, false, nat_le, nat_lt, is_some, List, [], ◌∷◌, length, map, Option, None, Some, Ok, refl, sym, ◌∙◌, ap, subst, arith, ⊎_elim}
use Rattle.std.specs.Prelude.{IfSome, get_or, if◌then◌else◌, slice_index, take}
use Rattle.std.specs.List.{AllByRecursion, range_with_len}
use Rattle.std.proofs.lemmas.Bool.{or_cases, or_parts}
use Rattle.std.proofs.lemmas.Bool.Decides.{nat_tests}
use Rattle.std.proofs.lemmas.List.Elements.{All-contains, All-from_get_or, All-from_recursion}
use Rattle.disk_trait.specs.declared.disks.Disks.{Ghosts}
use Rattle.disk_trait.specs.declared.disks.Span as spans
use Rattle.disk_trait.specs.Moments.{IsTold, now}
use Rattle.lilo_model.specs.Checks.{◌>>=◌}
use Rattle.lilo_model.specs.Clear.{IsOfZone}
use Rattle.lilo_model.specs.Conf.{Config}
use Rattle.lilo_model.specs.Disks.{Image, Machine, Span, DiskSector}
use Rattle.lilo_model.specs.MinixLayout as layouts
use Rattle.lilo_model.specs.MinixNames.{reached, IsSound}
use Rattle.lilo_model.specs.MinixParts.{Parts, Volume, blocks_for, is_directory, is_file}
use Rattle.lilo_model.specs.NamePlaces.{with_tilde}
use Rattle.lilo_model.specs.Plan as plans
use Rattle.lilo_model.specs.PlanRefusal.{file_checks, held_checks, address_checks, plan_at}
use Rattle.lilo_model.specs.Planned.{planned}
use Rattle.map_laws.specs.Accepted.{IsInside}
use Rattle.map_laws.proofs.Accepted.{both-pass}
use Rattle.minix_steps.specs.Numbers.{has_number}
use Rattle.minix_steps.proofs.SetLemmas.{contains_from}
use Rattle.minix_create.specs.Chosen.{Suits, new_inode, sector_of}
use Rattle.minix_create.specs.Several.{AreApartOn}
use Rattle.minix_create.specs.declared.chosen.Chosen.{Chosen}
use Rattle.minix_fill.specs.Fill.{IsOfFile}
use Rattle.minix_choice_laws.proofs.Given.{past_end, given_at, given_hole, given_length}
use Rattle.minix_layout.specs.View.{super_view}
use Rattle.minix_layout.specs.declared.superblock.Super.{Super}
use Rattle.minix_steps.specs.Written.{parts_now}
use Rattle.minix_tree.specs.declared.stat.Stat.{Stat}
use Rattle.minix_zones.specs.Volume.{volume_view, past_of}
use Rattle.minix_zones.specs.declared.volume.Volume as volumes
use Rattle.write_model.specs.FileZones.{count_made, given}
use Rattle.install_apart.specs.Names.{AreTwins}
use Rattle.install_apart.specs.Own.{IsBackupTwins}
use Rattle.install_apart.specs.declared.name.NamePair.{NamePair}
use Rattle.install_apart.specs.declared.name.OwnName.{OwnName}
use Rattle.install_stage.specs.BackupStaged.{made_at}
use Rattle.install_stage.specs.BackupStages.{HasOtherName, MayReplace}
use Rattle.install_stage_laws.specs.BeginLaws.{IsNoneOfMap}
use Rattle.install_laws.specs.InstallVerdict.{is_of_places, is_of_volume, last_name, made_backup, sectors_of_blocks}
use Rattle.install_laws.specs.Writes.{AreAvoided}
use Rattle.install_stage.specs.Sectors.{IsWholeFile, file_places}
use Rattle.install_stage.specs.Within.{AreDataZones, AreFreeZones, is_chosen}
use Rattle.install_room.specs.Making.{LiesBackup, LiesIn, MayMake, MayMakeBackup}
use Rattle.install_room.specs.Names.{backup_at, backup_of}
use Rattle.install_room.specs.Room.{AvoidPlaces, AvoidsPlaces, HasNoHole, IsForBackup, IsForName}
use Rattle.install_room.specs.declared.room.Room.{Room}
use Rattle.install_room.proofs.MakingLemmas.{differ}
use Rattle.install_stage.specs.Stages.{MayStageBackup}
use Rattle.install_order.specs.Stageable.{IsBackupFile, IsRegular, backup_zones, path_made, room_zones}
use Rattle.install_order.proofs.BeginLemmas.{value-is}

-- ---- files

-- a regular file of 32 bits' bytes
module _ (layout : Super) (span : spans.Span) (own : OwnName) (long time : ℕ) (chosen : Chosen) (suits : Suits layout span chosen) (made : IsForName own long time chosen) where
  pub is-file : is_file (new_inode chosen) ≡ true
  is-file = rw made.mode refl

  pub no-directory : is_directory (new_inode chosen) ≡ false
  no-directory = rw made.mode refl

  of-file : IsOfFile (new_inode chosen)
  of-file = record {
    file = no-directory;
    mode = λ none. let both = sym made.mode ∙ none in omega (arith, both);
    some_link = rw no-directory (omega arith);
  }

  many : length chosen.choice.blocks ≡ blocks_for chosen.length
  many = ap length suits.file.blocks_are ∙ (given_length suits.made chosen.choice.zones ∙ suits.many)

  pub regular : IsRegular chosen
  regular = record { file = of-file; fits = let small = suits.small in omega (arith, many, small) }

  pub backup-file : long ≡ 512 → IsBackupFile chosen
  backup-file is = record { regular = regular; one = let size = made.size in omega (arith, many, size, is) }

  pub whole-file : (count : ℕ) → long ≡ 512 * count → HasNoHole chosen → IsWholeFile chosen count
  whole-file count is each = record { file = is-file; size = made.size ∙ is; each = each }

module _ (layout : Super) (span : spans.Span) (time : ℕ) where
  pub backup_file : (own : Option OwnName) (backup : Option Chosen) → IfSome backup (Suits layout span) → IsForBackup own time backup → IfSome backup IsBackupFile
  backup_file None None suits made = tt
  backup_file None (Some chosen) suits made = absurd made
  backup_file (Some own) None suits made = tt
  backup_file (Some own) (Some chosen) suits made = backup-file layout span own 512 time chosen suits made refl

  pub backup_whole : (own : Option OwnName) (backup : Option Chosen) → IfSome backup (Suits layout span) → IsForBackup own time backup → IfSome backup HasNoHole
      → IfSome backup (λ chosen. IsWholeFile chosen 1)
  backup_whole None None suits made each = tt
  backup_whole None (Some chosen) suits made each = absurd made
  backup_whole (Some own) None suits made each = tt
  backup_whole (Some own) (Some chosen) suits made each = whole-file layout span own 512 time chosen suits made 1 refl each

  pub backup_directory : (own : Option OwnName) (backup : Option Chosen) → IfSome backup (Suits layout span) → IsForBackup own time backup → IfSome backup (λ chosen. is_directory (new_inode chosen) ≡ false)
  backup_directory None None suits made = tt
  backup_directory None (Some chosen) suits made = absurd made
  backup_directory (Some own) None suits made = tt
  backup_directory (Some own) (Some chosen) suits made = no-directory layout span own 512 time chosen suits made

-- what follows of each choice follows of that of a backup
pub each-backup : (P Q : Chosen → Type 0) → ((chosen : Chosen) → P chosen → Q chosen) → (backup : Option Chosen) → IfSome backup P → IfSome backup Q
each-backup P Q follows None is = tt
each-backup P Q follows (Some chosen) is = follows chosen is

-- ---- places

-- the zone of a block is below the volume's end, a hole's too
module _ (layout : Super) (span : spans.Span) (chosen : Chosen) (suits : Suits layout span chosen) (some : 0 < layout.zones) where
  among : (k : ℕ) → slice_index chosen.choice.zones k < layout.zones
  among k = by (nat_lt k (length chosen.choice.zones)) refl
    where
      by : (low : Bool) → nat_lt k (length chosen.choice.zones) ≡ low → slice_index chosen.choice.zones k < layout.zones
      by true low = (suits.are_data k 0 (grind (arith, nat_tests, low))).below
      by false low = let none = past_end chosen.choice.zones k (grind (arith, nat_tests, low)) in rw none some

  pub zone_below : (index : ℕ) → slice_index chosen.choice.blocks index < layout.zones
  zone_below index = subst (λ (blocks : List ℕ). slice_index blocks index < layout.zones) (sym suits.file.blocks_are) (by (get_or suits.made index false) refl)
    where
      by : (made : Bool) → get_or suits.made index false ≡ made → slice_index (given suits.made chosen.choice.zones) index < layout.zones
      by true made = let at = given_at suits.made chosen.choice.zones index made in rw at (among (count_made (take index suits.made)))
      by false made = let hole = given_hole suits.made chosen.choice.zones index made in rw hole some

each-mapped : {A B : Type 0} → (P : B → Type 0) (f : A → B) → ((x : A) → P (f x)) → (xs : List A) → AllByRecursion P (map f xs)
each-mapped P f each [] = tt
each-mapped P f each (x ∷ xs) = (each x, each-mapped P f each xs)

same-mapped : {A B : Type 0} → (f g : A → B) → ((x : A) → f x ≡ g x) → (xs : List A) → map f xs ≡ map g xs
same-mapped f g each [] = refl
same-mapped {A} {B} f g each (x ∷ xs) = by (f x) (g x) (map f xs) (map g xs) (each x) (same-mapped f g each xs)
  where
    by : (one other : B) (ones others : List B) → one ≡ other → ones ≡ others → one ∷ ones ≡ other ∷ others
    by one other ones others first rest = cc

-- the sectors of blocks are those of the file
pub places_of_file : (span : Span) (chosen : Chosen) (count : ℕ) → chosen.start ≡ span.start → sectors_of_blocks span chosen.choice.blocks count ≡ file_places chosen span.disk count
places_of_file span chosen count begins =
    same-mapped (λ index. record { disk = span.disk; sector = span.start + (2 * slice_index chosen.choice.blocks (index / 2) + index % 2) }) (λ index. record { disk = span.disk; sector = sector_of chosen index })
    (λ index. ap (λ (sector : ℕ). record { disk = span.disk; sector = sector }) (same index)) (range_with_len 0 count)
  where
    same : (index : ℕ) → span.start + (2 * slice_index chosen.choice.blocks (index / 2) + index % 2) ≡ sector_of chosen index
    same index = omega (arith, begins)

-- each sector of blocks is one of a disk of which the volume is
pub all_inside : (machine : Machine) (span : Span) (zones : ℕ) (blocks : List ℕ) → span.disk ≤ 3 → span.start + 2 * zones ≤ machine.size_of span.disk
    → ((index : ℕ) → slice_index blocks index < zones) → (sectors : ℕ) → AllByRecursion (IsInside machine) (sectors_of_blocks span blocks sectors)
all_inside machine span zones blocks disk fit below sectors =
    each-mapped (IsInside machine) (λ index. record { disk = span.disk; sector = span.start + (2 * slice_index blocks (index / 2) + index % 2) })
    (λ index. record { disk = disk; sector = let low = below (index / 2) in omega (arith, low, fit) }) (range_with_len 0 sectors)

-- ---- zones

-- chosen zones that have none of some places avoid them
module _ (volume : Volume) (chosen : ℕ → Bool) where
  abbrev Avoids : DiskSector → Type 0
  Avoids place = (zone sector : ℕ) → chosen zone ≡ true → IsOfZone zone sector → place ≡ record { disk = volume.span.disk; sector = volume.span.start + sector } → ⊥

  abbrev of-one : ℕ → DiskSector → Bool
  of-one zone place = is_of_volume volume place && ((place.sector - volume.span.start) / 2 == zone)

  hit : (zone sector : ℕ) → zone < volume.layout.zones → IsOfZone zone sector → of-one zone (record { disk = volume.span.disk; sector = volume.span.start + sector }) ≡ true
  hit zone sector below of =
      let near : (2 * zone ≤ sector) × (sector ≤ 2 * zone + 1) = ⊎_elim (λ first. (omega (arith, first), omega (arith, first))) (λ second. (omega (arith, second), omega (arith, second))) of in
      let disk : (volume.span.disk == volume.span.disk) ≡ true = grind (arith, nat_tests) in
      let from : nat_le volume.span.start (volume.span.start + sector) ≡ true = grind (arith, nat_tests) in
      let to : nat_lt (volume.span.start + sector) (volume.span.start + 2 * volume.layout.zones) ≡ true = grind (arith, nat_tests, near, below) in
      let same : (volume.span.start + sector - volume.span.start) / 2 ≡ zone = omega (arith, near) in
      let here : ((volume.span.start + sector - volume.span.start) / 2 == zone) ≡ true = grind (arith, nat_tests, same) in
      rw (disk, from, to, here) refl

  misses : (zone sector : ℕ) (place : DiskSector) → zone < volume.layout.zones → IsOfZone zone sector → of-one zone place ≡ false
      → place ≡ record { disk = volume.span.disk; sector = volume.span.start + sector } → ⊥
  misses zone sector place below of none is =
      let here : of-one zone (record { disk = volume.span.disk; sector = volume.span.start + sector }) ≡ false = subst (λ (p : DiskSector). of-one zone p ≡ false) is none in
      let both : true ≡ false = sym (hit zone sector below of) ∙ here in
      absurd (clash both)
    where
      clash : true ≡ false → ⊥
      clash both = cc

  avoid-each : (places : List DiskSector) → ((zone : ℕ) → chosen zone ≡ true → (zone < volume.layout.zones) × (is_of_places volume places zone ≡ false)) → AllByRecursion Avoids places
  avoid-each [] out = tt
  avoid-each (place ∷ places) out = (
    λ zone sector picked of. misses zone sector place (out zone picked).0 of (or_parts (of-one zone place) (is_of_places volume places zone) (out zone picked).1).0,
    avoid-each places (λ zone picked. ((out zone picked).0, (or_parts (of-one zone place) (is_of_places volume places zone) (out zone picked).1).1)),
  )

  avoided : (places : List DiskSector) → ((zone : ℕ) → chosen zone ≡ true → (zone < volume.layout.zones) × (is_of_places volume places zone ≡ false)) → AreAvoided volume chosen places
  avoided places out = All-from_recursion Avoids places (avoid-each places out)

module _ (volume : Volume) (places : List DiskSector) where
  abbrev IsOut : ℕ → Type 0
  IsOut zone = (zone < volume.layout.zones) × (is_of_places volume places zone ≡ false)

  chosen-out : (chosen : Chosen) → AvoidsPlaces volume places chosen → AreDataZones volume.layout (is_chosen chosen) → (zone : ℕ) → is_chosen chosen zone ≡ true → IsOut zone
  chosen-out chosen avoids data-zones zone picked =
      let P : ℕ → Type 0 = λ zone. is_of_places volume places zone ≡ false in (
        (data-zones zone picked).1,
        ⊎_elim (avoids.zones zone) (λ has. All-contains P chosen.choice.growth zone (All-from_get_or P chosen.choice.growth 0 avoids.growth) (contains_from chosen.choice.growth zone has))
            (or_cases (has_number chosen.choice.zones zone) (has_number chosen.choice.growth zone) picked),
      )

  backup-out : (backup : Option Chosen) → IfSome backup (AvoidsPlaces volume places) → IfSome backup (λ chosen. AreDataZones volume.layout (is_chosen chosen)) → (zone : ℕ) → backup_zones backup zone ≡ true → IsOut zone
  backup-out None avoids data-zones zone picked = absurd (let both : false ≡ true = picked in cc)
  backup-out (Some chosen) avoids data-zones zone picked = chosen-out chosen avoids data-zones zone picked

  -- so do those of a room
  pub room_avoids : (room : Room) → AvoidPlaces volume places room → AreDataZones volume.layout (is_chosen room.map) → IfSome room.backup (λ chosen. AreDataZones volume.layout (is_chosen chosen))
      → AreAvoided volume (room_zones room) places
  room_avoids room avoids map-zones backup-data =
      avoided volume (room_zones room) places
      (λ zone picked. ⊎_elim (chosen-out room.map avoids.map map-zones zone) (backup-out room.backup avoids.backup backup-data zone) (or_cases (is_chosen room.map zone) (backup_zones room.backup zone) picked))

-- where those of each are free, those of a room are
module _ (super : layouts.Super) (parts : Parts) where
  backup-free : (backup : Option Chosen) → IfSome backup (λ chosen. AreFreeZones super parts (is_chosen chosen)) → AreFreeZones super parts (backup_zones backup)
  backup-free None free zone picked = absurd (let both : false ≡ true = picked in cc)
  backup-free (Some chosen) free zone picked = free zone picked

  pub room_zones_free : (room : Room) → AreFreeZones super parts (is_chosen room.map) → IfSome room.backup (λ chosen. AreFreeZones super parts (is_chosen chosen)) → AreFreeZones super parts (room_zones room)
  room_zones_free room map backup zone picked =
      ⊎_elim (map zone) (backup-free room.backup backup zone) (or_cases (is_chosen room.map zone) (backup_zones room.backup zone) picked)

-- ---- names

-- no backup is made under the map's name
pub made_apart : (super : layouts.Super) (parts : Parts) (map : List (List ℕ)) (forced : Bool) (backup : Option (List (List ℕ)))
    → IfSome backup (λ path. IsNoneOfMap map path × IsNoneOfMap map (with_tilde path)) → made_backup super parts forced backup ≢ Some (with_tilde map)
made_apart super parts map forced None apart is = absurd (let both : None ≡ Some (with_tilde map) = is in cc)
made_apart super parts map true (Some path) apart is = apart.1.0 (same (with_tilde path) (with_tilde map) is)
  where
    same : (one other : List (List ℕ)) → Some one ≡ Some other → one ≡ other
    same one other is = cc
made_apart super parts map false (Some path) apart is = by (is_some (reached super parts path)) is
  where
    same : (one other : List (List ℕ)) → Some one ≡ Some other → one ≡ other
    same one other is = cc

    by : (there : Bool) → (if there then None else Some path) ≡ Some (with_tilde map) → ⊥
    by true is = absurd (let both : None ≡ Some (with_tilde map) = is in cc)
    by false is = apart.0.0 (same path (with_tilde map) is)

-- the directory of a backup is that of its own name, where the other is beside it
made-beside : (forced : Bool) (pair : NamePair) (time : ℕ) (chosen : Chosen) → AreTwins pair → IsForBackup (backup_at forced pair) time (Some chosen) → chosen.directory ≡ pair.plain.directory
made-beside true pair time chosen twins made = made.directory ∙ twins.directory
made-beside false pair time chosen twins made = by pair.plain.there made
  where
    by : (there : Option Stat) → IsForBackup (if is_some there then None else Some pair.plain) time (Some chosen) → chosen.directory ≡ pair.plain.directory
    by None made = made.directory
    by (Some stat) made = absurd made

-- a map has neither of the names of a backup
module _ {D : Type 0} {disks : Ghosts D} (volume : volumes.Volume D disks) (told : IsTold (past_of volume)) (sound : IsSound (volume_view volume) (now (past_of volume)))
    (map : List (List ℕ)) (own : OwnName) (lies : LiesIn (super_view volume.layout) (parts_now volume) (with_tilde map) own) (chosen : Chosen) (long time : ℕ) (made : IsForName own long time chosen) where
  pub other_names : (forced : Bool) (path : Option (List (List ℕ))) (pair : Option NamePair) (backup : Option Chosen) → IsBackupTwins pair → LiesBackup (super_view volume.layout) (parts_now volume) path pair
      → IfSome path (λ path. IsNoneOfMap map path × IsNoneOfMap map (with_tilde path)) → IsForBackup (backup_of forced pair) time backup
      → IfSome backup (λ one. chosen.directory ≡ one.directory → chosen.name ≢ one.name) → IfSome path (λ path. IfSome backup (λ one. HasOtherName path one chosen))
  other_names forced None pair backup twins lie apart is differs = tt
  other_names forced (Some path) pair None twins lie apart is differs = tt
  other_names forced (Some path) None (Some one) twins lie apart is differs = absurd lie
  other_names forced (Some path) (Some pair) (Some one) twins lie apart is differs = record {
    made = differs;
    plain = λ here named.
        differ volume told sound path (with_tilde map) pair.plain own lie.plain lies apart.0.0
        (sym made.directory ∙ (here ∙ made-beside forced pair time one twins is))
        (sym made.name ∙ (named ∙ ap last_name lie.plain.ends.is));
  }

-- what may be made of a backup may be staged, by its path
module _ {D : Type 0} {disks : Ghosts D} (volume : volumes.Volume D disks) (forced : Bool) where
  abbrev Makes : Option (List (List ℕ)) → Option Chosen → Type 0
  Makes path backup = MayMakeBackup volume (made_backup (super_view volume.layout) (parts_now volume) forced path) backup

  made-by-path : (path : List (List ℕ)) (chosen : Chosen) → Makes (Some path) (Some chosen) → MayMake volume (made_at forced path) chosen
  made-by-path path chosen = by forced (is_some (reached (super_view volume.layout) (parts_now volume) path)) refl
    where
      by : (forced there : Bool) → is_some (reached (super_view volume.layout) (parts_now volume) path) ≡ there
          → MayMakeBackup volume (made_backup (super_view volume.layout) (parts_now volume) forced (Some path)) (Some chosen) → MayMake volume (made_at forced path) chosen
      by true there is makes = makes
      by false true is makes = absurd (let none = rw is at makes in none)
      by false false is makes = rw is at makes

  pub staged_backup : (map : List (List ℕ)) (path : Option (List (List ℕ))) (backup : Option Chosen) (other : Chosen) → Makes path backup → IfSome path (MayReplace volume)
      → IfSome backup (λ chosen. AreApartOn volume chosen other) → IfSome path (λ path. IfSome backup (λ chosen. HasOtherName path chosen other)) → IfSome path (IsNoneOfMap map)
      → MayStageBackup volume (path_made backup path) map forced backup other
  staged_backup map path None other makes over apart names none = tt
  staged_backup map None (Some chosen) other makes over apart names none = absurd makes
  staged_backup map (Some path) (Some chosen) other makes over apart names none = record {
    may = record { make = made-by-path path chosen makes; over = λ on. over };
    apart = apart;
    names = names;
    plain = none.1;
    tilde = none.0;
  }

-- ---- the plan

-- what a plan's checks accept is what is planned
pub plan_is : (image : Image) (machine : Machine) (volume : Volume) (span : Span) (config : Config) (time : ℕ) (plan : plans.Plan)
    → plan_at image machine volume span config time ≡ Ok plan → planned image machine volume config time ≡ plan
unfolding plan_at
plan_is image machine volume span config time plan is =
    let all = planned image machine volume config time in
    let files = both-pass (file_checks image machine volume all) (λ a. held_checks image machine volume span all >>= λ b. address_checks machine all >>= λ c. Ok all) plan is in
    let helds = both-pass (held_checks image machine volume span all) (λ b. address_checks machine all >>= λ c. Ok all) plan files.2 in
    let addresses = both-pass (address_checks machine all) (λ c. Ok all) plan helds.2 in
    value-is all plan addresses.2

pub plan_again : (image : Image) (machine : Machine) (volume : Volume) (span : Span) (config : Config) (time : ℕ) (plan : plans.Plan)
    → plan_at image machine volume span config time ≡ Ok plan → plan_at image machine volume span config time ≡ Ok (planned image machine volume config time)
plan_again image machine volume span config time plan is =
    subst (λ (p : plans.Plan). plan_at image machine volume span config time ≡ Ok p) (sym (plan_is image machine volume span config time plan is)) is
