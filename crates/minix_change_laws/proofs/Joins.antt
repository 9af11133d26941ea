-- Changes in a row that no name sees.
use Rattle.std.proofs.Common.{◌≡◌, ℕ, ◌<◌, ◌≤◌, ◌⊎◌, Bool, true, false, refl, ◌∙◌, ap, arith, inl, inr, ⊎_elim, ltb}
use Rattle.std.proofs.lemmas.Bool.{ltb-true, ltb-false}
use Rattle.lilo_model.specs.MinixLayout.{Super, Inode}
use Rattle.lilo_model.specs.MinixParts.{Parts, Pointer, is_directory}
use Rattle.lilo_model.specs.MinixEntries.{Entry, places}
use Rattle.lilo_model.specs.MinixNames.{entry, Named, PointsTo, Refers}
use Rattle.minix_change_laws.specs.Sees.{IsFresh, with_links, SameButLinks, Sees}
use Rattle.minix_change_laws.specs.SeesLaws.{SeesJoinLaw}
use Rattle.minix_change_laws.proofs.Sees.{directory-same, points-either, named-new, refers-new, all_lead-new}

pub links-join : (one two three : Inode) → SameButLinks one two → SameButLinks two three → SameButLinks one three
links-join one two three first next = next ∙ ap (λ inode. with_links inode three.links) first

module _ (super : Super) (old mid new : Parts) (first : Sees super old mid) (next : Sees super mid new) where
  named-mid : (number : ℕ) → Named super old number → Named super mid number
  named-mid number named = named-new super old mid first number named

  directory-mid : (number : ℕ) → Named super old number → is_directory (old.node number) ≡ true → is_directory (mid.node number) ≡ true
  directory-mid number named is = directory-same super old mid first number named ∙ is

  file-mid : (number : ℕ) → Named super old number → is_directory (old.node number) ≡ false → is_directory (mid.node number) ≡ false
  file-mid number named file = directory-same super old mid first number named ∙ file

  refers-mid : (number : ℕ) (at : Pointer) (zone : ℕ) → Refers super old number at zone → Refers super mid number at zone
  refers-mid = refers-new super old mid first

  free-by : (directory place : ℕ) → Named super old directory → is_directory (old.node directory) ≡ true → places super.kind (old.node directory).size ≤ place → place < places super.kind (new.node directory).size
      → (below : Bool) → ltb place (places super.kind (mid.node directory).size) ≡ below → (entry super new directory place).inode ≡ 0
  free-by directory place named is from to true below =
      let low = ltb-true place _ below in
      ap (λ (e : Entry). e.inode) (next.entries directory place (named-mid directory named) (directory-mid directory named is) low)
      ∙ first.free directory place named is from low
  free-by directory place named is from to false below =
      next.free directory place (named-mid directory named) (directory-mid directory named is) (ltb-false place _ below) to

  -- what is fresh in the new parts was unused in the old ones
  fresh-next : (zone : ℕ) → IsFresh super mid new zone → IsFresh super old new zone
  fresh-next zone fresh = record {
    range = fresh.range;
    marked = fresh.marked;
    unused = λ number at refers. fresh.unused number at (refers-mid number at zone refers);
  }

  fresh-first : (number : ℕ) (at : Pointer) (zone : ℕ) → Named super old number → PointsTo super mid number at zone → IsFresh super old mid zone → IsFresh super old new zone
  fresh-first number at zone named to fresh = record {
    range = fresh.range;
    marked = next.zone_marks number at zone (record { named = named-mid number named; to = to });
    unused = fresh.unused;
  }

  refers-by : (number : ℕ) (at : Pointer) (zone : ℕ) → Named super old number → is_directory (old.node number) ≡ true → PointsTo super mid number at zone ⊎ IsFresh super mid new zone → PointsTo super old number at zone ⊎ IsFresh super old new zone
  refers-by number at zone named is (inl to) = ⊎_elim (λ was. inl was) (λ fresh. inr (fresh-first number at zone named to fresh)) (first.refers number at zone named is to)
  refers-by number at zone named is (inr fresh) = inr (fresh-next zone fresh)

  -- a pointer of the parts in between to what is fresh was made then
  made-first : (number : ℕ) (at : Pointer) (zone : ℕ) → Named super old number → PointsTo super mid number at zone → IsFresh super old new zone → IsFresh super old mid zone
  made-first number at zone named to fresh =
      ⊎_elim (λ was. absurd (fresh.unused number at (record { named = named; to = was }))) (λ anew. anew) (points-either super old mid first number named at zone to)

  once-by : (number other : ℕ) (at there : Pointer) (zone : ℕ) → Named super old number → Named super old other → PointsTo super new number at zone → PointsTo super new other there zone → IsFresh super old new zone
      → PointsTo super mid number at zone ⊎ IsFresh super mid new zone → PointsTo super mid other there zone ⊎ IsFresh super mid new zone → (number ≡ other) × (at ≡ there)
  once-by number other at there zone named named' one two fresh (inl a) (inl b) =
      first.once number other at there zone named named' a b (made-first number at zone named a fresh)
  once-by number other at there zone named named' one two fresh (inl a) (inr anew) = absurd (anew.unused number at (record { named = named-mid number named; to = a }))
  once-by number other at there zone named named' one two fresh (inr anew) b = next.once number other at there zone (named-mid number named) (named-mid other named') one two anew

  joined : Sees super old new
  joined = record {
    modes = λ number named. next.modes number (named-mid number named) ∙ first.modes number named;
    sizes = λ number named. next.sizes number (named-mid number named);
    marks = λ number named. next.marks number (named-mid number named);
    links = λ number paths other distinct lead. next.links number paths other distinct (all_lead-new super old mid first number paths lead);
    files = λ number named file. links-join (old.node number) (mid.node number) (new.node number) (first.files number named file) (next.files number (named-mid number named) (file-mid number named file));
    bytes = λ number at zone refers file. next.bytes number at zone (refers-mid number at zone refers) (file-mid number refers.named file) ∙ first.bytes number at zone refers file;
    room = λ directory named is. let a = first.room directory named is in let b = next.room directory (named-mid directory named) (directory-mid directory named is) in omega (arith, a, b);
    reaches = λ directory named is low. next.reaches directory (named-mid directory named) (directory-mid directory named is) (first.reaches directory named is low);
    entries = λ directory place named is below.
        let room = first.room directory named is in
        next.entries directory place (named-mid directory named) (directory-mid directory named is) (omega (arith, room, below)) ∙ first.entries directory place named is below;
    free = λ directory place named is from to. free-by directory place named is from to _ refl;
    stays = λ directory at zone refers is. next.stays directory at zone (refers-mid directory at zone refers) (directory-mid directory refers.named is);
    refers = λ directory at zone named is to. refers-by directory at zone named is (next.refers directory at zone (named-mid directory named) (directory-mid directory named is) to);
    once = λ number other at there zone named named' one two fresh.
        once-by number other at there zone named named' one two fresh
        (points-either super mid new next number (named-mid number named) at zone one) (points-either super mid new next other (named-mid other named') there zone two);
    zone_marks = λ number at zone refers. next.zone_marks number at zone (refers-mid number at zone refers);
  }

pub sees_join_law : SeesJoinLaw
sees_join_law super old mid new first next = joined super old mid new first next
