-- The room of the model, from what is chosen for the backup and the map.
use Rattle.std.proofs.Common.{◌≡◌, ◌≤◌, ◌*◌, nat_le, ℕ, Bool, true, false, is_some, if◌then◌else◌, List, ◌∷◌, ◌++◌, [], flat_map, Option, Some, None, Result, Ok, Err, refl, sym, ◌∙◌, ap, subst, arith}
use Rattle.std.specs.Option.{option_to_list}
use Rattle.std.proofs.lemmas.Bool.Decides.{nat_tests}
use Rattle.lilo_model.specs.Checks.{◌>>=◌}
use Rattle.lilo_model.specs.Disks.{DiskSector}
use Rattle.lilo_model.specs.MinixLayout.{Super}
use Rattle.lilo_model.specs.MinixParts.{Parts, Volume}
use Rattle.lilo_model.specs.NamePlaces.{with_tilde}
use Rattle.lilo_model.specs.Settled as model
use Rattle.minix_create.proofs.TakenLemmas.{IsTakenAs, taken_as}
use Rattle.minix_create.specs.declared.chosen.Chosen.{Chosen}
use Rattle.minix_tree.specs.declared.tree_fault.TreeFault.{TreeFault}
use Rattle.minix_tree.specs.declared.tree_fault.TreeFault.TheVariants as trees
use Rattle.minix_choice.specs.Taken.{with_choice}
use Rattle.minix_choice.specs.View.{Promised, taken_view, Refuses, RefusesTree, RefusesZone}
use Rattle.minix_choice.specs.declared.write_fault.WriteFault.{WriteFault}
use Rattle.minix_choice.specs.declared.write_fault.WriteFault.TheVariants as faults
use Rattle.minix_zones.specs.declared.zone_fault.ZoneFault.{ZoneFault}
use Rattle.minix_zones.specs.declared.zone_fault.ZoneFault.TheVariants as zones
use Rattle.write_model.specs.Choice.{Choice, choose, taken_with}
use Rattle.write_model.specs.Places.{most_size}
use Rattle.write_model.specs.Wish as rooms
use Rattle.write_model.specs.Wish.{Taken, Refusal, Wish}
use Rattle.install_laws.specs.InstallVerdict.{directory_of, last_name, file_wish, overlooked_at, stale_names, taken_first, taken_after, made_backup, room_on, sectors_of_blocks}
use Rattle.install_apart.specs.declared.name.OwnName.{OwnName}
use Rattle.install_apart.specs.declared.name.NamePair.{NamePair}
use Rattle.install_apart.specs.declared.own.OwnNames.{OwnNames}
use Rattle.install_room.specs.Names.{AreNamesOf, IsNameAt, IsBackupOf, IsBackupAt, backup_at, backup_of, own_wish, stale_of, stale_copy_of}
use Rattle.install_room.specs.Room.{GivesFor, first_of, room_for}
use Rattle.install_room.specs.declared.room.RoomWish.{RoomWish}

-- ---- what is taken with one choice more

pub view_with : (taken : Promised) (directory : ℕ) (choice : Choice) → taken_view (with_choice taken directory choice) ≡ taken_with (taken_view taken) directory choice
unfolding taken_with
view_with taken directory choice =
    let same : IsTakenAs (taken_view (with_choice taken directory choice)) (taken_with (taken_view taken) directory choice) = taken_as taken directory choice in
    λ i. record {
      has_zone = λ zone. same.zones zone i;
      has_inode = λ inode. same.inodes inode i;
      promises = sym same.promises i;
      overlooked = taken.overlooked;
    }

-- ---- refusals

zone-then : {A B : Type 0} (fault : ZoneFault) (given : Result A Refusal) (more : A → Result B Refusal) → RefusesZone fault given → RefusesZone fault (given >>= more)
zone-then (zones.Layout fault) given more is = rw is refl
zone-then (zones.ZoneOutside zone) given more is = rw is refl
zone-then zones.Device given more is = elim is [ ]

tree-then : {A B : Type 0} (fault : TreeFault) (given : Result A Refusal) (more : A → Result B Refusal) → RefusesTree fault given → RefusesTree fault (given >>= more)
tree-then (trees.Zone fault) given more is = zone-then fault given more is
tree-then trees.Memory given more is = elim is [ ]
tree-then (trees.NotFound position) given more is = elim is [ ]
tree-then (trees.NotDirectory position) given more is = elim is [ ]
tree-then trees.NotFile given more is = elim is [ ]
tree-then trees.TooManyLinks given more is = elim is [ ]
tree-then (trees.BadEntry directory) given more is = elim is [ ]
tree-then trees.PathTooLong given more is = elim is [ ]

-- what refuses a choice refuses what would come of it
pub refuses_then : {A B : Type 0} (fault : WriteFault) (given : Result A Refusal) (more : A → Result B Refusal) → Refuses fault given → Refuses fault (given >>= more)
refuses_then (faults.NoSpace need found) given more is = rw is refl
refuses_then faults.NoInode given more is = rw is refl
refuses_then faults.NameTooLong given more is = rw is refl
refuses_then faults.Exists given more is = rw is refl
refuses_then (faults.Tree fault) given more is = tree-then fault given more is
refuses_then faults.Device given more is = tt
refuses_then faults.Memory given more is = tt
refuses_then faults.Links given more is = elim is [ ]

-- ---- the backup

-- a path of the model and a name that was found
abbrev IsMadeAs : Super → Parts → Option (List (List ℕ)) → Option OwnName → Type 0
IsMadeAs super parts None None = Unit {0}
IsMadeAs super parts None (Some own) = ⊥
IsMadeAs super parts (Some path) None = ⊥
IsMadeAs super parts (Some path) (Some own) = IsNameAt super parts path own

made-at : (super : Super) (parts : Parts) (path : List (List ℕ)) (pair : NamePair) → IsBackupAt super parts path pair → (forced : Bool)
    → IsMadeAs super parts (made_backup super parts forced (Some path)) (backup_at forced pair)
made-at super parts path pair is true = is.tilde
made-at super parts path pair is false = by _ refl
  where
    by : (there : Bool) → is_some pair.plain.there ≡ there → IsMadeAs super parts (made_backup super parts false (Some path)) (backup_at false pair)
    by true t = rw (is.there, t) tt
    by false t = rw (is.there, t) is.plain

pub made_as : (super : Super) (parts : Parts) (forced : Bool) (path : Option (List (List ℕ))) (pair : Option NamePair) → IsBackupOf super parts path pair
    → IsMadeAs super parts (made_backup super parts forced path) (backup_of forced pair)
made_as super parts forced None None is = tt
made_as super parts forced (Some path) (Some pair) is = made-at super parts path pair is forced
made_as super parts forced None (Some pair) is = elim is [ ]
made_as super parts forced (Some path) None is = elim is [ ]

pub wish_is : (super : Super) (parts : Parts) (path : List (List ℕ)) (own : OwnName) (size time : ℕ) → IsNameAt super parts path own → file_wish super parts path size time ≡ own_wish own size time
wish_is super parts path own size time at =
    let D : ℕ → List ℕ → Wish = λ directory name. record (own_wish own size time) { directory = directory; name = name } in
    ap (λ (d : ℕ). D d (last_name path)) at.directory ∙ ap (λ (n : List ℕ). D own.directory n) at.name

module _ (super : Super) (parts : Parts) (old new : Promised) (time : ℕ) where
  abbrev After : Option (List (List ℕ)) → Result Taken Refusal
  After path = taken_after super parts (taken_view old) time path

  pub after_ok : (path : Option (List (List ℕ))) (own : Option OwnName) → IsMadeAs super parts path own → (chosen : Option Chosen)
      → GivesFor super parts old new own time (Ok chosen) → After path ≡ Ok (taken_view new)
  after_ok None None is None gives = ap (λ (t : Promised). Ok (taken_view t)) (sym gives)
  after_ok (Some path) (Some own) is (Some chosen) gives =
      let wish = wish_is super parts path own 512 time is in
      let made : choose super parts (taken_view old) (file_wish super parts path 512 time) ≡ Ok chosen.choice = ap (choose super parts (taken_view old)) wish ∙ gives.0 in
      let taken : taken_with (taken_view old) (directory_of super parts path) chosen.choice ≡ taken_view new =
      ap (λ (d : ℕ). taken_with (taken_view old) d chosen.choice) is.directory
      ∙ (sym (view_with old own.directory chosen.choice) ∙ ap taken_view (sym gives.1)) in
      rw made (ap (λ (t : Taken). Ok t) taken)
  after_ok None None is (Some chosen) gives = elim gives [ ]
  after_ok None (Some own) is chosen gives = elim is [ ]
  after_ok (Some path) None is chosen gives = elim is [ ]
  after_ok (Some path) (Some own) is None gives = elim gives [ ]

  pub after_err : {B : Type 0} (path : Option (List (List ℕ))) (own : Option OwnName) → IsMadeAs super parts path own → (fault : WriteFault) → (more : Taken → Result B Refusal)
      → GivesFor super parts old new own time (Err fault) → Refuses fault (After path >>= more)
  after_err (Some path) (Some own) is fault more gives =
      let wish = wish_is super parts path own 512 time is in
      let R : Wish → Type 0 = λ w. Refuses fault (choose super parts (taken_view old) w) in
      refuses_then fault (After (Some path)) more
      (refuses_then fault (choose super parts (taken_view old) (file_wish super parts path 512 time)) _ (subst R (sym wish) gives))
  after_err None None is fault more gives = elim gives [ ]
  after_err None (Some own) is fault more gives = elim is [ ]
  after_err (Some path) None is fault more gives = elim is [ ]

-- ---- the room

module _ (view : Volume) (parts : Parts) (time sectors : ℕ) (map : List (List ℕ)) (tilde : OwnName) (at : IsNameAt view.layout parts (with_tilde map) tilde)
    (fits : 512 * sectors ≤ most_size view.layout.kind) (first : Taken) (backup : Option (List (List ℕ))) where
  abbrev Room : Result (List DiskSector) Refusal
  Room = room_on view parts first time backup map sectors

  fit : nat_le (512 * sectors) (most_size view.layout.kind) ≡ true
  fit = grind (arith, nat_tests, fits)

  pub room_by : (taken : Taken) → taken_after view.layout parts first time backup ≡ Ok taken
      → Room ≡ (choose view.layout parts taken (own_wish tilde (512 * sectors) time) >>= λ choice. Ok (sectors_of_blocks view.span choice.blocks sectors))
  unfolding room_on
  room_by taken is =
      let wish = wish_is view.layout parts (with_tilde map) tilde (512 * sectors) time at in
      rw (is, fit, wish) refl

  pub room_refused : (fault : WriteFault) → ((more : Taken → Result (List DiskSector) Refusal) → Refuses fault (taken_after view.layout parts first time backup >>= more)) → Refuses fault Room
  unfolding room_on
  room_refused fault refuses = refuses _

-- ---- what is taken at first

-- names that settling takes away
copies-as : (super : Super) (parts : Parts) (forced : Bool) (path : Option (List (List ℕ))) (pair : Option NamePair) → IsBackupOf super parts path pair
    → (if forced then flat_map (overlooked_at super parts) (option_to_list path) else []) ≡ stale_copy_of forced pair
copies-as super parts false None None is = refl
copies-as super parts false (Some path) (Some pair) is = refl
copies-as super parts true None None is = refl
copies-as super parts false None (Some pair) is = elim is [ ]
copies-as super parts false (Some path) None is = elim is [ ]
copies-as super parts true None (Some pair) is = elim is [ ]
copies-as super parts true (Some path) None is = elim is [ ]
copies-as super parts true (Some path) (Some pair) is =
    let O : ℕ → List ℕ → List rooms.Overlooked = λ directory name. record { directory = directory; name = name } ∷ [] in
    ap (λ (d : ℕ). O d (last_name (with_tilde path))) is.tilde.directory ∙ ap (λ (n : List ℕ). O pair.tilde.directory n) is.tilde.name

stale-as : (super : Super) (parts : Parts) (forced : Bool) (names : model.OwnNames) (own : OwnNames) → AreNamesOf super parts names own → stale_names super parts forced names ≡ stale_of forced own
stale-as super parts forced names own are =
    let O : ℕ → List ℕ → List rooms.Overlooked = λ directory name. record { directory = directory; name = name } ∷ [] in
    let Copies : List rooms.Overlooked = if forced then flat_map (overlooked_at super parts) (option_to_list names.backup) else [] in
    ap (λ (d : ℕ). O d (last_name (with_tilde names.map)) ++ Copies) are.tilde.directory
    ∙ (ap (λ (n : List ℕ). O own.map.tilde.directory n ++ Copies) are.tilde.name
    ∙ ap (λ (copies : List rooms.Overlooked). O own.map.tilde.directory own.map.tilde.name ++ copies) (copies-as super parts forced names.backup own.backup are.backup))

first-by : (view : Volume) (parts : Parts) (places : List DiskSector) (names : model.OwnNames) (own : OwnNames) (unsettled forced : Bool) → AreNamesOf view.layout parts names own
    → first_of view places unsettled forced own ≡ taken_first view places (if unsettled then stale_names view.layout parts forced names else [])
first-by view parts places names own true forced are = ap (taken_first view places) (sym (stale-as view.layout parts forced names own are))
first-by view parts places names own false forced are = refl

-- ---- the whole

module _ (view : Volume) (parts : Parts) (places : List DiskSector) (names : model.OwnNames) (own : OwnNames) (wish : RoomWish) (are : AreNamesOf view.layout parts names own)
    (fits : 512 * wish.sectors ≤ most_size view.layout.kind) (old new : Promised) (first : taken_view old ≡ first_of view places wish.unsettled wish.forced own) where
  abbrev First : Taken
  First = taken_first view places (if wish.unsettled then stale_names view.layout parts wish.forced names else [])

  abbrev Made : Option (List (List ℕ))
  Made = made_backup view.layout parts wish.forced names.backup

  abbrev Found : Result (List DiskSector) Refusal
  Found = room_for view parts places names wish

  first-is : taken_view old ≡ First
  first-is = first ∙ first-by view parts places names own wish.unsettled wish.forced are

  made : IsMadeAs view.layout parts Made (backup_of wish.forced own.backup)
  made = made_as view.layout parts wish.forced names.backup own.backup are.backup

  pub backup_refused : (fault : WriteFault) → GivesFor view.layout parts old new (backup_of wish.forced own.backup) wish.time (Err fault) → Refuses fault Found
  backup_refused fault gives =
      room_refused view parts wish.time wish.sectors names.map own.map.tilde are.tilde fits First Made fault (λ more.
      let R : Taken → Type 0 = λ taken. Refuses fault (taken_after view.layout parts taken wish.time Made >>= more) in
      subst R first-is (after_err view.layout parts old new wish.time Made (backup_of wish.forced own.backup) made fault more gives))

  module _ (backup : Option Chosen) (gives : GivesFor view.layout parts old new (backup_of wish.forced own.backup) wish.time (Ok backup)) where
    abbrev Map : Result Choice Refusal
    Map = choose view.layout parts (taken_view new) (own_wish own.map.tilde (512 * wish.sectors) wish.time)

    found-by : Found ≡ (Map >>= λ choice. Ok (sectors_of_blocks view.span choice.blocks wish.sectors))
    found-by =
        let A : Taken → Type 0 = λ taken. taken_after view.layout parts taken wish.time Made ≡ Ok (taken_view new) in
        room_by view parts wish.time wish.sectors names.map own.map.tilde are.tilde fits First Made (taken_view new)
        (subst A first-is (after_ok view.layout parts old new wish.time Made (backup_of wish.forced own.backup) made backup gives))

    pub map_refused : (fault : WriteFault) → Refuses fault Map → Refuses fault Found
    map_refused fault refuses =
        let R : Result (List DiskSector) Refusal → Type 0 = Refuses fault in
        subst R (sym found-by) (refuses_then fault Map _ refuses)

    pub room_found : (choice : Choice) (at : List DiskSector) → Map ≡ Ok choice → at ≡ sectors_of_blocks view.span choice.blocks wish.sectors → Found ≡ Ok at
    room_found choice at is lies = found-by ∙ rw is (ap (λ (ps : List DiskSector). Ok ps) (sym lies))
