-- Places of directories, each of which was free and still is, where used entries change and where no name sees what does.
use Rattle.std.proofs.Common.{◌≡◌, ◌≢◌, ◌<◌, ◌≤◌, ◌*◌, ◌%◌, ℕ, List, ◌∷◌, true, false, Option, Some, sym, ◌∙◌, ap, subst, subst₂, arith}
use Rattle.disk_trait.specs.Past.{Image}
use Rattle.lilo_model.specs.MinixEntries.{Entry, entry_of, entry_with, entries_per_block, places}
use Rattle.lilo_model.specs.MinixLayout.{Super, Inode, entry_size, reach}
use Rattle.lilo_model.specs.MinixNames.{Thing, entry, thing, reached, Named, Sound, IsSound}
use Rattle.lilo_model.specs.MinixParts as model
use Rattle.lilo_model.specs.MinixParts.{Parts, is_directory, blocks_for, parts_of}
use Rattle.minix_change_laws.specs.Replaced.{ReplacedIn}
use Rattle.minix_change_laws.specs.Written.{IsPlaced, HasEntryBytes}
use Rattle.minix_change_laws.proofs.Images.{redirect_bytes_law}
use Rattle.minix_change_laws.proofs.ReplaceBytes.{replace_bytes_law}
use Rattle.minix_change_laws.proofs.Written.{written_law}
use Rattle.minix_change_laws.specs.Enter.{MayStand, MayRemove}
use Rattle.minix_change_laws.specs.Only.{zone_of_entry, ChangesOnlyEntry}
use Rattle.minix_create.proofs.MadePlaces.{seen_places_law, entry_places_law}
use Rattle.minix_change_laws.specs.Sees.{Sees}
use Rattle.minix_change_laws.specs.Tree.{TreeWith, TreeMoved, HasTreeWith}
use Rattle.minix_change_laws.proofs.Seen.{opened}
use Rattle.minix_change_laws.proofs.Sees.{directory-same, named-new}
use Rattle.minix_turns.proofs.EntryLemmas.{free-long, free-inode}
use Rattle.minix_turns.proofs.NameLemmas.{entry_at}
use Rattle.minix_turns.proofs.ReplaceLemmas.{zone_stays}
use Rattle.minix_change_laws.specs.Part.{HasZonePart, free_bytes}
use Rattle.minix_remove.specs.Removed.{KeepsEachPlace}

-- ---- directories that keep their names

-- each directory that has a name has one then
abbrev pub KeepsDirectories : Super → Parts → Parts → Type 0
KeepsDirectories super old new =
    (other : ℕ) → Named super old other → is_directory (old.node other) ≡ true → Named super new other × (is_directory (new.node other) ≡ true)

-- a path leads to no directory
abbrev pub LeadsToNoDirectory : Super → Parts → List (List ℕ) → Type 0
LeadsToNoDirectory super parts path = (number : ℕ) → reached super parts path ≡ Some number → is_directory (parts.node number) ≡ false

pub leads_to_file : (super : Super) (parts : Parts) (path : List (List ℕ)) (number : ℕ) → reached super parts path ≡ Some number → is_directory (parts.node number) ≡ false
    → LeadsToNoDirectory super parts path
leads_to_file super parts path number leads file other leads' =
    let both : Some number ≡ Some other = sym leads ∙ leads' in
    let same : number ≡ other = cc in
    subst (λ (n : ℕ). is_directory (parts.node n) ≡ false) same file

-- so it isn't that of a directory
pub off_directory : (super : Super) (parts : Parts) (path other : List (List ℕ)) (number : ℕ) → LeadsToNoDirectory super parts path → reached super parts other ≡ Some number
    → is_directory (parts.node number) ≡ true → other ≢ path
off_directory super parts path other number file leads is same =
    let leads' : reached super parts path ≡ Some number = ap (reached super parts) (sym same) ∙ leads in
    let both : true ≡ false = sym is ∙ file number leads' in
    cc

pub seen_directories : (super : Super) (old new : Parts) → Sees super old new → KeepsDirectories super old new
seen_directories super old new sees other named is = (named-new super old new sees other named, directory-same super old new sees other named ∙ is)

-- where one path leads elsewhere, which led to none
pub tree_directories : (super : Super) (old new : Parts) (path : List (List ℕ)) (found : Option ℕ) (what : Option Thing) → TreeWith super old new path found what
    → LeadsToNoDirectory super old path → KeepsDirectories super old new
tree_directories super old new path found what tree file other named is =
    let apart = off_directory super old path named.path other file named.leads is in
    let there : Named super new other = record { path = named.path; leads = tree.others named.path apart ∙ named.leads } in
    let mode = tree.keeps.modes other named there in
    (there, rw mode is)

-- and where a path takes the place of another
pub moved_directories : (super : Super) (old new : Parts) (former path : List (List ℕ)) → TreeMoved super old new former path
    → LeadsToNoDirectory super old former → LeadsToNoDirectory super old path → KeepsDirectories super old new
moved_directories super old new former path tree file file' other named is =
    let off = off_directory super old former named.path other file named.leads is in
    let off' = off_directory super old path named.path other file' named.leads is in
    let there : Named super new other = record { path = named.path; leads = tree.others named.path off off' ∙ named.leads } in
    let mode = tree.keeps.modes other named there in
    (there, rw mode is)

-- ---- places

pub seen_each : (super : Super) (old new : Parts) → Sees super old new → KeepsEachPlace super old new
seen_each super old new sees directory place = seen_places_law super old new directory place sees

-- two changes in a row
pub join_each : (super : Super) (old mid new : Parts) → KeepsDirectories super old mid → KeepsEachPlace super old mid → KeepsEachPlace super mid new → KeepsEachPlace super old new
join_each super old mid new still first next directory place =
    let one = first directory place in
    let two = next directory place in
    record {
      room = λ other named is.
          let there = still other named is in
          let a = one.room other named is in
          let b = two.room other there.0 there.1 in
          omega (arith, a, b);
      reaches = λ other named is few. let there = still other named is in two.reaches other there.0 there.1 (one.reaches other named is few);
      free = λ other at named is apart free below. let there = still other named is in two.free other at there.0 there.1 apart (one.free other at named is apart free) below;
    }

-- one entry changes that wasn't free
module _ (super : Super) (old new : Parts) (directory place : ℕ) (sound : Sound super old) (only : ChangesOnlyEntry super old new directory place)
    (used : (entry super old directory place).inode ≢ 0) where
  not-free : (other at : ℕ) → other ≡ directory → at ≡ place → (at < places super.kind (old.node other).size → (entry super old other at).inode ≡ 0) → ⊥
  not-free other at same here free =
      let F : ℕ → ℕ → Type 0 = λ d p. p < places super.kind (old.node d).size → (entry super old d p).inode ≡ 0 in
      let at_place : place < places super.kind (old.node directory).size → (entry super old directory place).inode ≡ 0 = subst₂ F same here free in
      used (at_place only.change.below)

  pub used_entry : KeepsEachPlace super old new
  used_entry one there =
      let keeps = entry_places_law super old new directory place sound only in
      record {
        room = keeps.room;
        reaches = keeps.reaches;
        free = λ other at named is apart free below. keeps.free other at named is (λ same here. not-free other at same here free) free below;
      }

-- an entry that says something isn't free
pub is_used : (super : Super) (parts : Parts) (directory place number : ℕ) (name : List ℕ) → entry super parts directory place ≡ entry_with number name → number ≢ 0
    → (entry super parts directory place).inode ≢ 0
is_used super parts directory place number name says some none = some (sym (ap (λ (e : Entry). e.inode) says) ∙ none)

-- ---- one name takes the place of that of another inode

module _ (v : model.Volume) (old mid new : Image) (outer : List (List ℕ)) (directory to_place from_place former number zone index : ℕ) (to from bytes : List ℕ)
    (sound : IsSound v old) (to_placed : IsPlaced v old directory to_place) (from_placed : IsPlaced v old directory from_place)
    (lies : zone_of_entry v.layout (parts_of v old) directory from_place ≡ zone) (slot : from_place % entries_per_block v.layout.kind ≡ index)
    (goes : MayRemove v.layout (parts_of v old) outer directory to_place former to) (moves : MayRemove v.layout (parts_of v old) outer directory from_place number from)
    (names : from ≢ to) (inodes : number ≢ former) (stands : MayStand v.layout (parts_of v old) number) (says : entry_of v.layout.kind bytes ≡ entry_with number to)
    (first : HasEntryBytes v old mid directory to_place bytes) (freed : HasZonePart v mid new zone (entry_size v.layout.kind * index) (free_bytes v.layout.kind))
    (leads_to : reached v.layout (parts_of v old) (to ∷ outer) ≡ Some former) (leads_from : reached v.layout (parts_of v old) (from ∷ outer) ≡ Some number) where
  abbrev Old : Parts
  Old = parts_of v old

  abbrev Mid : Parts
  Mid = parts_of v mid

  abbrev New : Parts
  New = parts_of v new

  led : HasTreeWith v old mid (to ∷ outer) (Some number) (Some (thing v.layout Old number))
  led = redirect_bytes_law v old mid outer directory to_place former number to bytes sound to_placed first says goes stands

  led-only : ChangesOnlyEntry v.layout Old Mid directory to_place
  led-only = (written_law v old mid directory to_place bytes sound to_placed first).only

  led-directories : KeepsDirectories v.layout Old Mid
  led-directories = tree_directories v.layout Old Mid (to ∷ outer) _ _ led.tree (leads_to_file v.layout Old (to ∷ outer) former leads_to goes.file)

  here : Named v.layout Mid directory × (is_directory (Mid.node directory) ≡ true)
  here = led-directories directory from_placed.named from_placed.is

  zone-mid : zone_of_entry v.layout Mid directory from_place ≡ zone
  zone-mid = zone_stays v.layout Old Mid directory from_place led.tree.keeps from_placed.named here.0 from_placed.is from_placed.some ∙ lies

  placed-mid : IsPlaced v mid directory from_place
  placed-mid = record {
    named = here.0;
    is = here.1;
    reached = subst (λ (i : Inode). blocks_for i.size ≤ reach v.layout.kind) (sym led-only.change.node) from_placed.reached;
    below = subst (λ (i : Inode). from_place < places v.layout.kind i.size) (sym led-only.change.node) from_placed.below;
    some = λ none. from_placed.some (lies ∙ (sym zone-mid ∙ none));
  }

  second : HasEntryBytes v mid new directory from_place (free_bytes v.layout.kind)
  second = entry_at v mid new directory from_place zone index (free_bytes v.layout.kind) (free-long v.layout.kind) zone-mid slot freed

  freed-only : ChangesOnlyEntry v.layout Mid New directory from_place
  freed-only = (written_law v mid new directory from_place (free_bytes v.layout.kind) led.sound placed-mid second).only

  -- the two entries are two
  apart-places : from_place ≢ to_place
  apart-places same =
      let both : entry_with number from ≡ entry_with former to = sym moves.stands ∙ (ap (entry v.layout Old directory) same ∙ goes.stands) in
      inodes (ap (λ (e : Entry). e.inode) both)

  stays : entry v.layout Mid directory from_place ≡ entry_with number from
  stays = led-only.change.others from_place from_placed.below apart-places ∙ moves.stands

  pub replaced_each : KeepsEachPlace v.layout Old New
  replaced_each =
      join_each v.layout Old Mid New led-directories
      (used_entry v.layout Old Mid directory to_place (opened v old sound).parts led-only (is_used v.layout Old directory to_place former to goes.stands goes.some))
      (used_entry v.layout Mid New directory from_place (opened v mid led.sound).parts freed-only (is_used v.layout Mid directory from_place number from stays moves.some))

  done : ReplacedIn v old mid new outer former number to from
  done = replace_bytes_law v old mid new outer directory to_place from_place former number to from bytes (free_bytes v.layout.kind) sound record {
    to_placed = to_placed;
    from_placed = from_placed;
    goes = goes;
    moves = moves;
    names = names;
    inodes = inodes;
    stands = stands;
    says = says;
    first = first;
    says_free = free-inode v.layout.kind;
    second = second;
  }

  -- in between the name leads where it led
  leads-mid : reached v.layout Mid (from ∷ outer) ≡ Some number
  leads-mid =
      let apart : from ∷ outer ≢ to ∷ outer = λ same. let head : from ≡ to = cc in names head in
      led.tree.others (from ∷ outer) apart ∙ leads_from

  file-mid : is_directory (Mid.node number) ≡ false
  file-mid = let mode = led.tree.keeps.modes number (record { path = from ∷ outer; leads = leads_from }) (record { path = from ∷ outer; leads = leads-mid }) in rw mode moves.file

  pub replaced_directories : KeepsDirectories v.layout Old New
  replaced_directories other named is =
      let there = led-directories other named is in
      tree_directories v.layout Mid New (from ∷ outer) _ _ done.gone.tree (leads_to_file v.layout Mid (from ∷ outer) number leads-mid file-mid) other there.0 there.1
