-- What stays where one entry of one directory changes.
use Rattle.std.proofs.Common.{◌≡◌, ◌≢◌, ℕ, ◌-◌, ◌/◌, ◌==◌, Bool, true, false, length, refl, sym, ◌∙◌, ap, arith, eq-eqb, inl}
use Rattle.std.proofs.lemmas.Bool.{eqb-true}
use Rattle.lilo_model.specs.MinixLayout.{Super}
use Rattle.lilo_model.specs.MinixParts.{Parts, Pointer, is_directory, block_pointer}
use Rattle.lilo_model.specs.MinixEntries.{entries_per_block}
use Rattle.lilo_model.specs.MinixNames.{zone_number, thing, Named, Refers, Sound}
use Rattle.minix_laws.proofs.Pointers.{pointer_law}
use Rattle.minix_change_laws.specs.Only.{zone_of_entry, ChangesOnlyEntry, KeepsInode}
use Rattle.minix_change_laws.specs.EntryLaws.{KeepsNamedLaw, FitLaw, FileLaw}
use Rattle.minix_change_laws.specs.Tree.{KeepsNamed}
use Rattle.minix_change_laws.proofs.Inode.{IsSameNode, same-node, KeepsAbove, directory-zones, points-old, points-new, thing-directory, thing-same}
use Rattle.minix_change_laws.proofs.Kept.{same-is-but-links}

-- the zones but that of an entry stay
abbrev pub KeepsOtherZones : Super → Parts → Parts → ℕ → ℕ → Type 0
KeepsOtherZones super old new directory place =
    (number : ℕ) (at : Pointer) (zone : ℕ) → Refers super old number at zone → zone ≢ zone_of_entry super old directory place → new.zone zone ≡ old.zone zone

module _ (super : Super) (old : Parts) (directory place : ℕ) (named : Named super old directory) (is : is_directory (old.node directory) ≡ true) where
  -- the pointer of the entry's block
  abbrev pub Here : Pointer
  Here = block_pointer super.kind (place / entries_per_block super.kind)

  pub directory-refers : (zone : ℕ) → zone ≢ 0 → zone ≡ zone_of_entry super old directory place → Refers super old directory Here zone
  unfolding zone_number
  directory-refers zone some same = record {
    named = named;
    to = record { kind = directory-zones old directory is; place = (pointer_law super.kind).is (place / entries_per_block super.kind); is = sym same; some = some };
  }

  module _ (new : Parts) (sound : Sound super old) (zones : KeepsOtherZones super old new directory place) where
    -- a zone that isn't that block's stays
    pub zone-kept : (number : ℕ) (at : Pointer) (zone : ℕ) → Refers super old number at zone → (number ≡ directory → at ≡ Here → ⊥) → new.zone zone ≡ old.zone zone
    zone-kept number at zone refers apart = zones number at zone refers (λ same.
        let one = sound.once number directory at Here zone refers (directory-refers zone refers.to.some same) in
        apart one.0 one.1)

    -- of each inode with a name the zones above others stay
    pub above-kept : (number : ℕ) → Named super old number → KeepsAbove super old new number
    above-kept number named' top index trail zone pointer to = zone-kept number (record { top = top; trail = trail }) zone (record { named = named'; to = to }) (λ here same.
        let whole : length Here.trail ≡ Here.top - 6 = (pointer_law super.kind).whole (place / entries_per_block super.kind) in
        let long : length trail ≡ length Here.trail = ap (λ (p : Pointer). length p.trail) same in
        let high : top ≡ Here.top = ap (λ (p : Pointer). p.top) same in
        omega (arith, pointer.deep, whole, long, high))

-- an inode that stays has the same node
pub node-kept : (super : Super) (old new : Parts) (number : ℕ) → KeepsInode super old new number → IsSameNode (old.node number) (new.node number)
node-kept super old new number kept = same-node (old.node number) (new.node number) kept.node

module _ (super : Super) (old new : Parts) (directory place : ℕ) (sound : Sound super old) (only : ChangesOnlyEntry super old new directory place) where
  pub named-node : (number : ℕ) → Named super old number → IsSameNode (old.node number) (new.node number)
  named-node number named = same-node (old.node number) (new.node number) (only.nodes number named)

  pub named-above : (number : ℕ) → Named super old number → KeepsAbove super old new number
  named-above number named = above-kept super old directory place only.change.named only.change.is new sound only.zones number named

  -- each inode but the directory keeps all its zones
  pub other-kept : (number : ℕ) → Named super old number → number ≢ directory → KeepsInode super old new number
  other-kept number named other = record {
    node = only.nodes number named;
    mark = only.marks number named;
    zones = λ at zone to. zone-kept super old directory place only.change.named only.change.is new sound only.zones number at zone (record { named = named; to = to }) (λ here same. other here);
    zone_marks = λ at zone to. only.zone_marks number at zone (record { named = named; to = to });
  }

  pub file-kept : (number : ℕ) → Named super old number → is_directory (old.node number) ≡ false → KeepsInode super old new number
  file-kept number named file = other-kept number named (λ same.
      let is : is_directory (old.node number) ≡ true = ap (λ n. is_directory (old.node n)) same ∙ only.change.is in
      cc)

  -- and each stays what it is
  thing-by : (number : ℕ) → Named super old number → (here : Bool) → (number == directory) ≡ here → thing super new number ≡ thing super old number
  thing-by number named true here =
      let now : is_directory (new.node directory) ≡ true = ap (λ node. is_directory node) only.change.node ∙ only.change.is in
      let same : number ≡ directory = eqb-true number directory here in
      ap (thing super new) same ∙ thing-directory super new directory now ∙ sym (thing-directory super old directory only.change.is) ∙ ap (thing super old) (sym same)
  thing-by number named false here =
      let kept = other-kept number named (λ e. let t = eq-eqb number directory e in cc) in
      thing-same super old new number (node-kept super old new number kept) kept.zones

  pub thing-kept : (number : ℕ) → Named super old number → thing super new number ≡ thing super old number
  thing-kept number named = thing-by number named _ refl

  -- all that has a name before and after
  pub keeps-named : KeepsNamed super old new
  keeps-named = record {
    modes = λ number was now. (named-node number was).numbers.mode;
    files = λ number was now file. same-is-but-links (old.node number) (new.node number) (only.nodes number was);
    bytes = λ number at zone refers now file. (file-kept number refers.named file).zones at zone refers.to;
    stays = λ number at zone refers now. points-new super old new number (named-node number refers.named).numbers (named-above number refers.named) at zone refers.to;
    refers = λ number at zone was refers. inl (points-old super old new number (named-node number was).numbers (named-above number was) at zone refers.to);
  }

-- ---- the laws

pub keeps_named_law : KeepsNamedLaw
keeps_named_law super old new directory place sound only = keeps-named super old new directory place sound only

pub fit_law : FitLaw
fit_law super parts number sound named = record {
  range = sound.in_range number named;
  marked = sound.marked number named;
  mode = sound.mode number named;
  size = sound.size number named;
  zone_range = λ at zone to. sound.zone_range number at zone (record { named = named; to = to });
  zone_marked = λ at zone to. sound.zone_marked number at zone (record { named = named; to = to });
  once = λ at there zone to to'. (sound.once number number at there zone (record { named = named; to = to }) (record { named = named; to = to' })).1;
  apart = λ other at there zone to refers. (sound.once number other at there zone (record { named = named; to = to }) refers).0;
}

pub file_law : FileLaw
file_law super old new directory place number sound only named file = file-kept super old new directory place sound only number named file
