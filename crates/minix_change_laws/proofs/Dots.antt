-- A directory with nothing in it but `.` and `..`.
use Rattle.std.proofs.Common.{◌≡◌, ◌≢◌, ℕ, zero, suc, ◌<◌, ◌≤◌, Bool, true, false, List, length, bytes_eq, None, refl, sym, ◌∙◌, ap, arith}
use Rattle.std.proofs.lemmas.Slice.Eq.{bytes_eq-Decides}
use Rattle.std.proofs.lemmas.Bool.{or_parts}
use Rattle.lilo_model.specs.MinixLayout.{Super}
use Rattle.lilo_model.specs.MinixParts.{Parts, is_directory}
use Rattle.lilo_model.specs.MinixEntries.{Entry, entry_with, named_inode, places, is_dots, here_name, above_name}
use Rattle.lilo_model.specs.MinixNames.{entry, lookup, HasEntry}
use Rattle.minix_change_laws.specs.Comes.{HasOnlyDots}
use Rattle.minix_change_laws.specs.EntryLaws.{NewDirectoryLaw}
use Rattle.minix_change_laws.proofs.Names.{named-other}
use Rattle.minix_change_laws.proofs.Sees.{named-free}
use Rattle.minix_change_laws.proofs.Entries.{first-none}

-- ---- nothing but `.` and `..`

dots-other : (name : List ℕ) → is_dots name ≡ false → (here_name ≢ name) × (above_name ≢ name)
unfolding is_dots
dots-other name plain =
    let no : (bytes_eq here_name name ≡ false) × (bytes_eq above_name name ≡ false) = or_parts _ _ plain in
    ((λ same. let t = (bytes_eq-Decides here_name name).1 same in let f = no.0 in cc), (λ same. let t = (bytes_eq-Decides above_name name).1 same in let f = no.1 in cc))

module _ (super : Super) (parts : Parts) (directory number : ℕ) (only : HasOnlyDots super parts directory number) where
  no-name : (name : List ℕ) → is_dots name ≡ false → (place : ℕ) → place < places super.kind (parts.node number).size → named_inode name (entry super parts number place) ≡ None
  no-name name plain zero below = ap (named_inode name) only.first ∙ named-other name here_name number (dots-other name plain).0
  no-name name plain (suc zero) below = ap (named_inode name) only.second ∙ named-other name above_name directory (dots-other name plain).1
  no-name name plain (suc (suc place)) below = named-free name (entry super parts number (suc (suc place))) (only.rest (suc (suc place)) (omega arith) below)

  empty-by : (name : List ℕ) (is dots : Bool) → is_directory (parts.node number) ≡ is → is_dots name ≡ dots → lookup super parts name number ≡ None
  unfolding lookup
  empty-by name false dots i d = rw i refl
  empty-by name true true i d = rw (i, d) refl
  empty-by name true false i d = rw (i, d) (first-none (entry super parts number) name (places super.kind (parts.node number).size) (no-name name d))

  -- the two entries have different names
  other-names : (name : List ℕ) (inode inode' : ℕ) → entry_with number here_name ≡ entry_with inode name → entry_with directory above_name ≡ entry_with inode' name → ⊥
  other-names name inode inode' one other =
      let here : here_name ≡ name = ap (λ (e : Entry). e.name) one in
      let above : above_name ≡ name = ap (λ (e : Entry). e.name) other in
      let same : length here_name ≡ length above_name = ap length (here ∙ sym above) in
      absurd (omega (arith, same))

  used : (place inode : ℕ) (name : List ℕ) → 2 ≤ place → inode ≢ 0 → HasEntry super parts number place (entry_with inode name) → ⊥
  used place inode name high some has = some (ap (λ (e : Entry). e.inode) (sym has.is) ∙ only.rest place high has.below)

  twice-by : (place other inode inode' : ℕ) (name : List ℕ) → inode ≢ 0 → inode' ≢ 0
      → HasEntry super parts number place (entry_with inode name) → HasEntry super parts number other (entry_with inode' name) → place ≡ other
  twice-by zero zero inode inode' name some some' one two = refl
  twice-by zero (suc zero) inode inode' name some some' one two = absurd (other-names name inode inode' (sym only.first ∙ one.is) (sym only.second ∙ two.is))
  twice-by (suc zero) zero inode inode' name some some' one two = absurd (other-names name inode' inode (sym only.first ∙ two.is) (sym only.second ∙ one.is))
  twice-by (suc zero) (suc zero) inode inode' name some some' one two = refl
  twice-by (suc (suc place)) other inode inode' name some some' one two = absurd (used (suc (suc place)) inode name (omega arith) some one)
  twice-by place (suc (suc other)) inode inode' name some some' one two = absurd (used (suc (suc other)) inode' name (omega arith) some' two)

pub new_directory_law : NewDirectoryLaw
new_directory_law super parts outer directory number only unnamed low = record {
  unnamed = unnamed;
  empty = λ name. empty-by super parts directory number only name _ _ refl refl;
  no_twice = twice-by super parts directory number only;
  here = (0, record { below = let two = only.two in omega (arith, two); is = only.first });
  above = (1, record { below = let two = only.two in omega (arith, two); is = only.second });
  depth = low;
}
