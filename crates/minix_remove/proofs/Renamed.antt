-- Where one name takes the place of another, a name may be made and a directory may grow where it might.
use Rattle.std.proofs.Common.{◌≡◌, ◌≢◌, ◌/◌, ◌⊎◌, nat_lt, ℕ, suc, Bool, true, false, List, ◌∷◌, length, Option, Some, None, refl, sym, ◌∙◌, ap, subst, arith, inl, inr, ⊎_elim}
use Rattle.std.specs.Option.{option_or}
use Rattle.std.proofs.lemmas.Bool.{cases_eq}
use Rattle.disk_trait.specs.Past.{Image}
use Rattle.lilo_model.specs.MinixEntries.{entries_per_block, places}
use Rattle.lilo_model.specs.MinixLayout.{Kind, Super, name_size}
use Rattle.lilo_model.specs.MinixNames.{entry, lookup, then_lookup, reached, Named, Refers, Sound, IsSound}
use Rattle.lilo_model.specs.MinixParts.{Parts, Volume, Pointer, is_directory, is_file, parts_of}
use Rattle.minix_change_laws.proofs.Change.{path-cases}
use Rattle.minix_choice_laws.specs.Choice.{MayHavePlace}
use Rattle.minix_create.specs.Grown.{MayGrowIn}
use Rattle.minix_create.proofs.GrownLemmas.{way_points}
use Rattle.minix_grow.specs.Way.{pointer_above, number_above}
use Rattle.minix_remove.specs.Removed.{GainsNoZone, KeepsEachPlace}
use Rattle.minix_remove.specs.Renamed.{moved_refusal, former_refusal, links_refusal, rename_refusal, RenamesFiles}
use Rattle.minix_remove.proofs.PlaceLemmas.{KeepsDirectories, LeadsToNoDirectory, leads_to_file, off_directory, moved_directories}
use Rattle.minix_remove_laws.specs.Held.{held_name, is_removable}
use Rattle.minix_remove_laws.proofs.Held.{no-directory, held_law, absent_law}
use Rattle.minix_change_laws.specs.Tree.{HasTreeMoved}
use Rattle.minix_change_laws.proofs.Seen.{opened}
use Rattle.minix_survey_laws.proofs.Found.{first_named-some}
use Rattle.minix_tree.specs.declared.tree_fault.TreeFault.TheVariants.{NotFile}
use Rattle.minix_choice.specs.declared.write_fault.WriteFault.{WriteFault}
use Rattle.minix_choice.specs.declared.write_fault.WriteFault.TheVariants.{Tree, NameTooLong}
use Rattle.minix_remove.proofs.Refers.{named_back, refers_back}

-- ---- what isn't refused

both-none : (first second : Option WriteFault) → option_or first second ≡ None → (first ≡ None) × (second ≡ None)
both-none None second none = (refl, none)
both-none (Some fault) second none = absurd (cc)

module _ (kind : Kind) (parts : Parts) (to : List ℕ) where
  file-by : (number : ℕ) (long file : Bool) → nat_lt (name_size kind) (length to) ≡ long → is_file (parts.node number) ≡ file → moved_refusal kind parts to (Some number) ≡ None
      → is_file (parts.node number) ≡ true
  file-by number true file is_long is none = absurd (let t : Some NameTooLong ≡ None = rw is_long at none in cc)
  file-by number false true is_long is none = is
  file-by number false false is_long is none = absurd (let t : Some (Tree NotFile) ≡ None = rw (is_long, is) at none in cc)

  -- the name is that of a regular file
  moved-file : (held : Option ℕ) → moved_refusal kind parts to held ≡ None → (number : ℕ) × ((held ≡ Some number) × (is_file (parts.node number) ≡ true))
  moved-file None none = absurd (cc)
  moved-file (Some number) none = (number, (refl, file-by number _ _ refl refl none))

  former-by : (number : ℕ) (file : Bool) → is_file (parts.node number) ≡ file → former_refusal parts (Some number) ≡ None → is_file (parts.node number) ≡ true
  former-by number true is none = is
  former-by number false is none = absurd (let t : Some (Tree NotFile) ≡ None = rw is at none in cc)

-- ---- the two names

removable : (parts : Parts) (number : ℕ) → is_file (parts.node number) ≡ true → is_removable (parts.node number) ≡ true
removable parts number file = rw file refl

-- what a name leads to, where its directory is known
name-leads : (super : Super) (parts : Parts) (outer : List (List ℕ)) (directory : ℕ) (name : List ℕ) → reached super parts outer ≡ Some directory
    → reached super parts (name ∷ outer) ≡ lookup super parts name directory
unfolding reached
name-leads super parts outer directory name leads = ap (then_lookup super parts name) leads

module _ (super : Super) (parts : Parts) (sound : Sound super parts) (outer : List (List ℕ)) (directory : ℕ) (leads : reached super parts outer ≡ Some directory)
    (is : is_directory (parts.node directory) ≡ true) where
  -- a file's name that the directory holds leads to it
  held-leads : (name : List ℕ) (number : ℕ) → held_name super parts directory name ≡ Some number → is_file (parts.node number) ≡ true → reached super parts (name ∷ outer) ≡ Some number
  held-leads name number held file =
      let found = first_named-some (entry super parts directory) name (places super.kind (parts.node directory).size) number held in
      (held_law super parts outer directory found.place number name sound leads (record {
        entry = record { named = record { path = outer; leads = leads }; is = is; below = found.below; says = found.is; some = found.some };
        removable = removable parts number file;
      })).leads

  file-path : (name : List ℕ) (number : ℕ) → held_name super parts directory name ≡ Some number → is_file (parts.node number) ≡ true → LeadsToNoDirectory super parts (name ∷ outer)
  file-path name number held file = leads_to_file super parts (name ∷ outer) number (held-leads name number held file) (no-directory (parts.node number) (removable parts number file))

  absent-path : (name : List ℕ) → held_name super parts directory name ≡ None → LeadsToNoDirectory super parts (name ∷ outer)
  absent-path name none number leads' =
      let absent = absent_law super parts directory name sound (record { path = outer; leads = leads }) is none in
      let nowhere : reached super parts (name ∷ outer) ≡ None = name-leads super parts outer directory name leads ∙ absent.absent in
      let both : None ≡ Some number = sym nowhere ∙ leads' in
      absurd (cc)

  former-path : (name : List ℕ) (held : Option ℕ) → held_name super parts directory name ≡ held → former_refusal parts held ≡ None → LeadsToNoDirectory super parts (name ∷ outer)
  former-path name None is' none = absent-path name is'
  former-path name (Some number) is' none = file-path name number is' (former-by super.kind parts name number _ refl none)

  former-beside : (name : List ℕ) (held : Option ℕ) → held_name super parts directory name ≡ held → former_refusal parts held ≡ None → (number : ℕ) → held ≡ Some number
      → Named super parts number × (is_directory (parts.node number) ≡ false)
  former-beside name None is' none number held = absurd (cc)
  former-beside name (Some former) is' none number held =
      let file = former-by super.kind parts name former _ refl none in
      let same : former ≡ number = cc in
      subst (λ (n : ℕ). Named super parts n × (is_directory (parts.node n) ≡ false)) same
      (record { path = name ∷ outer; leads = held-leads name former is' file }, no-directory (parts.node former) (removable parts former file))

-- ---- in images

module _ (v : Volume) (old new : Image) (sound : IsSound v old) (outer : List (List ℕ)) (directory : ℕ) (leads : reached v.layout (parts_of v old) outer ≡ Some directory)
    (is : is_directory ((parts_of v old).node directory) ≡ true) (from to : List ℕ) (none : rename_refusal v.layout (parts_of v old) directory from to ≡ None)
    (moved : HasTreeMoved v old new (from ∷ outer) (to ∷ outer))
    (files : RenamesFiles v.layout (parts_of v old) (parts_of v new) directory (held_name v.layout (parts_of v old) directory to))
    (gains : GainsNoZone v.layout (parts_of v old) (parts_of v new) directory) (each : KeepsEachPlace v.layout (parts_of v old) (parts_of v new)) where
  abbrev Old : Parts
  Old = parts_of v old

  abbrev New : Parts
  New = parts_of v new

  sound-old : Sound v.layout Old
  sound-old = (opened v old sound).parts

  abbrev HeldFrom : Option ℕ
  HeldFrom = held_name v.layout Old directory from

  abbrev HeldTo : Option ℕ
  HeldTo = held_name v.layout Old directory to

  none-from : moved_refusal v.layout.kind Old to HeldFrom ≡ None
  none-from = (both-none (moved_refusal v.layout.kind Old to HeldFrom) (option_or (former_refusal Old HeldTo) (links_refusal v.layout.kind Old HeldFrom HeldTo)) none).0

  none-to : former_refusal Old HeldTo ≡ None
  none-to =
      let rest = both-none (moved_refusal v.layout.kind Old to HeldFrom) (option_or (former_refusal Old HeldTo) (links_refusal v.layout.kind Old HeldFrom HeldTo)) none in
      (both-none (former_refusal Old HeldTo) (links_refusal v.layout.kind Old HeldFrom HeldTo) rest.1).0

  from-path : LeadsToNoDirectory v.layout Old (from ∷ outer)
  from-path = let file = moved-file v.layout.kind Old to HeldFrom none-from in file-path v.layout Old sound-old outer directory leads is from file.0 file.1.0 file.1.1

  to-path : LeadsToNoDirectory v.layout Old (to ∷ outer)
  to-path = former-path v.layout Old sound-old outer directory leads is to HeldTo refl none-to

  -- the inode that lost its name
  pub former_beside : (number : ℕ) → held_name v.layout Old directory to ≡ Some number → Named v.layout Old number × (is_directory (Old.node number) ≡ false)
  former_beside = former-beside v.layout Old sound-old outer directory leads is to HeldTo refl none-to

  -- a path to a directory leads there still
  still-leads : (there : List (List ℕ)) (other : ℕ) → reached v.layout Old there ≡ Some other → is_directory (Old.node other) ≡ true → reached v.layout New there ≡ Some other
  still-leads there other to-it is' =
      moved.tree.others there (off_directory v.layout Old (from ∷ outer) there other from-path to-it is') (off_directory v.layout Old (to ∷ outer) there other to-path to-it is') ∙ to-it

  still : KeepsDirectories v.layout Old New
  still = moved_directories v.layout Old New (from ∷ outer) (to ∷ outer) moved.tree from-path to-path

  -- ---- a name

  module _ (there : List (List ℕ)) (other at : ℕ) (later : List ℕ) (may : MayHavePlace v old there other at later) where
    was : Named v.layout Old other
    was = record { path = there; leads = may.leads }

    -- it isn't the name that took another's place
    not-to : (other ≡ directory → later ≢ to) → later ∷ there ≢ to ∷ outer
    not-to names same =
        let tail : there ≡ outer = cc in
        let head : later ≡ to = cc in
        let one = may.leads in
        let both : Some other ≡ Some directory = sym one ∙ (ap (reached v.layout Old) tail ∙ leads) in
        let in_it : other ≡ directory = cc in
        names in_it head

    absent-then : (other ≡ directory → later ≢ to) → reached v.layout New (later ∷ there) ≡ None
    absent-then names = ⊎_elim
        (λ gone. ap (reached v.layout New) gone ∙ moved.tree.gone)
        (λ apart. moved.tree.others (later ∷ there) apart (not-to names) ∙ (name-leads v.layout Old there other later may.leads ∙ may.absent))
        (path-cases (later ∷ there) (from ∷ outer))

    pub place_stays : (other ≡ directory → later ≢ to) → MayHavePlace v new there other at later
    place_stays names =
        let keeps = each other (suc at) in
        record {
          leads = still-leads there other may.leads may.is;
          is = (still other was may.is).1;
          reaches = keeps.reaches other was may.is may.reaches;
          plain = may.plain;
          absent = sym (name-leads v.layout New there other later (still-leads there other may.leads may.is)) ∙ absent-then names;
          free = keeps.free other at was may.is (λ same e. absurd (omega (arith, e))) may.free;
          near = λ past. may.near (let room = keeps.room other was may.is in omega (arith, room, past));
        }

  -- ---- growth

  module _ (other at : ℕ) (growth : List ℕ) (grows : MayGrowIn v old other at growth) where
    abbrev Block : ℕ
    Block = at / entries_per_block v.layout.kind

    still-there : Named v.layout New other × (is_directory (New.node other) ≡ true)
    still-there = still other grows.named grows.is

    -- a step that is missing was missing
    hole-old : (level : ℕ) → number_above v.layout New other Block level ≡ 0 → number_above v.layout Old other Block level ≡ 0
    hole-old level hole = by (cases_eq (number_above v.layout Old other Block level) 0)
      where
        by : (number_above v.layout Old other Block level ≡ 0) ⊎ (number_above v.layout Old other Block level ≢ 0) → number_above v.layout Old other Block level ≡ 0
        by (inl nothing) = nothing
        by (inr some) =
            let to = moved.tree.keeps.stays other (pointer_above v.layout.kind Block level) _ (record { named = grows.named; to = way_points v.layout Old other Block level grows.is some }) still-there.0 in
            absurd (some (sym to.is ∙ hole))

    refers-old : (number : ℕ) (pointer : Pointer) (zone : ℕ) → Refers v.layout New number pointer zone → Refers v.layout Old number pointer zone
    refers-old =
        refers_back v.layout Old New directory sound-old (record { path = outer; leads = leads }) moved.tree.keeps HeldTo files former_beside gains
        (named_back v.layout Old New (from ∷ outer) (to ∷ outer) moved.tree)

    pub growth_stays : MayGrowIn v new other at growth
    growth_stays =
        let keeps = each other (suc at) in
        record {
          sound = moved.sound;
          named = still-there.0;
          is = still-there.1;
          reaches = keeps.reaches other grows.named grows.is grows.reaches;
          free = keeps.free other at grows.named grows.is (λ same e. absurd (omega (arith, e))) grows.free;
          near = λ past. grows.near (let room = keeps.room other grows.named grows.is in omega (arith, room, past));
          growth_is = record {
            from = grows.growth_is.from;
            below = grows.growth_is.below;
            apart = grows.growth_is.apart;
            enough = λ level low hole. grows.growth_is.enough level low (hole-old level hole);
            unused = λ level low hole number pointer refers. grows.growth_is.unused level low (hole-old level hole) number pointer (refers-old number pointer _ refers);
          };
        }
