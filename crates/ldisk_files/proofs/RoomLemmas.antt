-- What is chosen for something new.
use Rattle.std.proofs.Common.{◌≡◌, ◌≢◌, ℕ, List, [], ◌∷◌, Some, Result, Ok, Err, refl, sym, ◌∙◌, ap, subst}
use Rattle.disk_trait.specs.Past.{Image}
use Rattle.lilo_model.specs.Checks.{◌>>=◌, with_fault}
use Rattle.lilo_model.specs.MinixNames.{reached}
use Rattle.lilo_model.specs.MinixParts as model
use Rattle.lilo_model.specs.MinixParts.{Parts, parts_of}
use Rattle.minix_steps.specs.Numbers.{has_number}
use Rattle.minix_create.specs.declared.chosen.Chosen.{Chosen}
use Rattle.minix_tree.specs.declared.tree_fault.TreeFault.{TreeFault}
use Rattle.minix_tree.specs.declared.tree_fault.TreeFault.TheVariants as trees
use Rattle.minix_choice.specs.View as writers
use Rattle.minix_choice.specs.View.{Promised, taken_view, wish_view}
use Rattle.minix_choice.specs.declared.wish.Wish.{Wish}
use Rattle.minix_choice.specs.declared.write_fault.WriteFault.{WriteFault}
use Rattle.minix_choice.specs.declared.write_fault.WriteFault.TheVariants as writes
use Rattle.minix_zones.specs.declared.zone_fault.ZoneFault.{ZoneFault}
use Rattle.minix_zones.specs.declared.zone_fault.ZoneFault.TheVariants as zones
use Rattle.write_model.specs.Choice.{Choice, choose, choose_blocks}
use Rattle.write_model.specs.FileZones.{data_blocks}
use Rattle.write_model.specs.Wish as wishes
use Rattle.ldisk_model.specs.FileVerdict as makings
use Rattle.ldisk_model.specs.FileVerdict.{FileRefusal, NoRoom, NoVolume, NotSound, NoPlace, NoFile, IsThere, TooDeep, BadTarget, TooLong, NoSpace, checked_status, file_status, space_status, nothing_taken, making_check, chosen_in, chosen_at, room_check, size_made}
use Rattle.ldisk_files.specs.Answer.{Answers, write_fault}
use Rattle.ldisk_files.specs.Made.{GivesChoice, making_view}
use Rattle.ldisk_files.specs.declared.fault.FileFault.{FileFault}
use Rattle.ldisk_files.specs.declared.fault.FileFault.TheVariants as faults
use Rattle.ldisk_files.specs.declared.making.Making.{Making}
use Rattle.ldisk_files.specs.declared.making.Making.TheVariants.{Directory, Link}

-- ---- nothing is taken at first

pub fresh : (taken : Promised) (zones inodes : ℕ) → taken.zones ≡ record { below = zones; numbers = [] } → taken.inodes ≡ record { below = inodes; numbers = [] }
    → taken.promises ≡ [] → taken.overlooked ≡ [] → taken_view taken ≡ nothing_taken
unfolding has_number
fresh taken zones inodes z i p o = rw (z, i, p, o) refl

-- ---- refusals

module _ {B : Type 0} (found : Result B wishes.Refusal) where
  refused-zone : (fault : ZoneFault) → writers.RefusesZone fault found → checked_status (with_fault NoSpace found) ≡ 3
  refused-zone (zones.Layout fault) is = rw is refl
  refused-zone (zones.ZoneOutside zone) is = rw is refl
  refused-zone zones.Device is = absurd is

  refused-tree : (fault : TreeFault) → writers.RefusesTree fault found → checked_status (with_fault NoSpace found) ≡ 3
  refused-tree (trees.NotFound position) is = absurd is
  refused-tree (trees.NotDirectory position) is = absurd is
  refused-tree trees.NotFile is = absurd is
  refused-tree trees.TooManyLinks is = absurd is
  refused-tree (trees.BadEntry directory) is = absurd is
  refused-tree trees.PathTooLong is = absurd is
  refused-tree (trees.Zone fault) is = refused-zone fault is
  refused-tree trees.Memory is = absurd is

  choice-refused : (C : Type 0) (fault : WriteFault) → writers.Refuses fault found → Answers {B = C} (with_fault NoSpace found) (Err (write_fault fault))
  choice-refused C (writes.NoSpace need short) is = rw is refl
  choice-refused C writes.NoInode is = rw is refl
  choice-refused C writes.NameTooLong is = rw is refl
  choice-refused C writes.Exists is = rw is refl
  choice-refused C writes.Links is = absurd is
  choice-refused C (writes.Tree fault) is = refused-tree fault is
  choice-refused C writes.Device is = tt
  choice-refused C writes.Memory is = tt

module _ (volume : model.Volume) (image : Image) (wish : Wish) (taken : Promised) (none : taken_view taken ≡ nothing_taken) where
  abbrev Chosen-of : wishes.Taken → Result Choice wishes.Refusal
  Chosen-of t = choose_blocks volume.layout (parts_of volume image) t wish.directory wish.name.now (data_blocks wish.length wish.holes.now)

  pub choice-ok : (chosen : Chosen) → writers.Gives (λ (c : Chosen). c.choice) (Ok chosen) (choose volume.layout (parts_of volume image) (taken_view taken) (wish_view wish))
      → GivesChoice volume image wish (Ok chosen)
  unfolding choose
  choice-ok chosen is = subst (λ (t : wishes.Taken). Chosen-of t ≡ Ok chosen.choice) none is

  pub choice-err : (fault : WriteFault) → writers.Gives (λ (c : Chosen). c.choice) (Err fault) (choose volume.layout (parts_of volume image) (taken_view taken) (wish_view wish))
      → GivesChoice volume image wish (Err (write_fault fault))
  unfolding choose
  choice-err fault is = subst (λ (t : wishes.Taken). Answers {B = Chosen} (with_fault NoSpace (Chosen-of t)) (Err (write_fault fault))) none
      (choice-refused (Chosen-of (taken_view taken)) Chosen fault is)

-- ---- chains of checks

-- a check whose status is 0 passes
some-status : (why : FileRefusal) → file_status why ≢ 0
some-status (NoRoom refusal) is = cc
some-status (NoVolume fault) is = cc
some-status (NotSound fault) is = cc
some-status (NoPlace fault) is = cc
some-status NoFile is = cc
some-status IsThere is = cc
some-status TooDeep is = cc
some-status BadTarget is = cc
some-status TooLong is = cc
some-status (NoSpace wishes.NameTooLong) is = cc
some-status (NoSpace wishes.Exists) is = cc
some-status (NoSpace wishes.NoInode) is = cc
some-status (NoSpace (wishes.NoSpace need found)) is = cc
some-status (NoSpace (wishes.Tree fault)) is = cc

pub passes-unit : (check : Result (Unit {0}) FileRefusal) → checked_status check ≡ 0 → check ≡ Ok tt
passes-unit (Ok done) is = refl
passes-unit (Err why) is = absurd (some-status why is)

-- a first check that was refused refuses the chain
pub answers-first : {A B : Type 0} (C E : Type 0) (check : Result A FileRefusal) (next : A → Result B FileRefusal) (fault : FileFault) → Answers {B = C} check (Err fault) → Answers {B = E} (check >>= next) (Err fault)
answers-first C E (Ok value) next faults.Refused is = absurd cc
answers-first C E (Ok value) next faults.BadLength is = absurd cc
answers-first C E (Ok value) next faults.NoSpace is = absurd cc
answers-first C E (Ok value) next faults.Device is = tt
answers-first C E (Ok value) next faults.Memory is = tt
answers-first C E (Err why) next faults.Refused is = is
answers-first C E (Err why) next faults.BadLength is = is
answers-first C E (Err why) next faults.NoSpace is = is
answers-first C E (Err why) next faults.Device is = tt
answers-first C E (Err why) next faults.Memory is = tt

-- ---- room for a name

pub no-holes : (volume : model.Volume) (making : Making) → (size_made volume.layout.kind (making_view making)).holes ≡ []
no-holes volume Directory = refl
no-holes volume (Link target) = refl

module _ (volume : model.Volume) (image : Image) (making : makings.Making) (outer : List (List ℕ)) (name : List ℕ) (directory : ℕ) (leads : reached volume.layout (parts_of volume image) outer ≡ Some directory) where
  abbrev There : Result (Unit {0}) FileRefusal
  There = making_check making (name ∷ outer)

  abbrev Chosen-there : Result Choice FileRefusal
  Chosen-there = with_fault NoSpace (choose_blocks volume.layout (parts_of volume image) nothing_taken directory name (data_blocks (size_made volume.layout.kind making).bytes (size_made volume.layout.kind making).holes))

  room-is : chosen_at volume image (size_made volume.layout.kind making) (name ∷ outer) ≡ Chosen-there
  room-is = ap (chosen_in volume image (size_made volume.layout.kind making) name) leads

  pub room-refused : (C E : Type 0) (fault : FileFault) → Answers {B = C} There (Err fault) → Answers {B = E} (room_check making volume image (name ∷ outer)) (Err fault)
  room-refused C E fault is = answers-first C E There (λ fits. chosen_at volume image (size_made volume.layout.kind making) (name ∷ outer) >>= λ choice. Ok (name ∷ outer)) fault is

  pub room-passes : checked_status There ≡ 0 → (choice : Choice) → Chosen-there ≡ Ok choice → room_check making volume image (name ∷ outer) ≡ Ok (name ∷ outer)
  room-passes fits choice is = rw (passes-unit There fits, room-is ∙ is) refl

  pub room-short : (C E : Type 0) (fault : FileFault) → checked_status There ≡ 0 → Answers {B = C} Chosen-there (Err fault) → Answers {B = E} (room_check making volume image (name ∷ outer)) (Err fault)
  room-short C E fault fits is =
      let first : Answers {B = E} (Chosen-there >>= λ choice. Ok (name ∷ outer)) (Err fault) = answers-first C E Chosen-there (λ choice. Ok (name ∷ outer)) fault is in
      subst (λ (check : Result (List (List ℕ)) FileRefusal). Answers {B = E} check (Err fault))
      (sym (ap (λ (given : Result (Unit {0}) FileRefusal). given >>= λ fits. chosen_at volume image (size_made volume.layout.kind making) (name ∷ outer) >>= λ choice. Ok (name ∷ outer)) (passes-unit There fits)
      ∙ ap (λ (given : Result Choice FileRefusal). given >>= λ choice. Ok (name ∷ outer)) room-is))
      first
