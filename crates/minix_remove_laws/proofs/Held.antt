-- A name that a directory holds and that leads to a file or a link.
use Rattle.std.proofs.Common.{◌≡◌, ◌≢◌, ◌<◌, ◌/◌, ◌⊎◌, ℕ, zero, suc, Bool, true, false, List, [], ◌∷◌, bytes_eq, Option, Some, None, refl, sym, ◌∙◌, ap, subst, inl, inr, ⊎_elim, arith}
use Rattle.std.specs.Option.{option_or}
use Rattle.std.proofs.lemmas.Bool.{cases_eq, eqb-true}
use Rattle.std.proofs.lemmas.Slice.Eq.{bytes_eq-Decides}
use Rattle.lilo_model.specs.MinixEntries.{Entry, entry_with, named_inode, here_name, above_name, places, is_dots}
use Rattle.lilo_model.specs.MinixLayout.{Super, Inode}
use Rattle.lilo_model.specs.MinixNames.{entry, first_named, lookup, then_lookup, reached, zone_number, Named, HasEntry, HasSomeEntry, Sound}
use Rattle.lilo_model.specs.MinixParts.{Parts, is_directory, is_file}
use Rattle.minix_change_laws.specs.Change.{ChangesEntry}
use Rattle.minix_change_laws.proofs.Entries.{entry_law}
use Rattle.minix_change_laws.specs.Enter.{MayRemove}
use Rattle.minix_change_laws.proofs.Finds.{named-is, leaf-file}
use Rattle.minix_change_laws.proofs.Replace.{stood_law}
use Rattle.minix_change_laws.proofs.Holes.{hole_law}
use Rattle.minix_remove_laws.specs.Held.{held_name, is_removable, HoldsEntry}
use Rattle.minix_remove_laws.specs.Laws.{AbsentLaw, EntryLaw, HeldLaw}

-- ---- a file or a link is no directory

apart-by : (inode : Inode) (file : Bool) → is_file inode ≡ file → is_removable inode ≡ true → is_directory inode ≡ false
apart-by inode true f is = let eight : inode.mode / 4096 ≡ 8 = eqb-true (inode.mode / 4096) 8 f in rw eight refl
apart-by inode false f is =
    let ten : inode.mode / 4096 ≡ 10 = eqb-true (inode.mode / 4096) 10 (rw f at is) in
    rw ten refl

pub no-directory : (inode : Inode) → is_removable inode ≡ true → is_directory inode ≡ false
no-directory inode is = apart-by inode _ refl is

-- ---- `.` and `..` lead to directories

-- an entry of a directory, where a path leads on
record IsAbove (super : Super) (parts : Parts) (directory : ℕ) : Type 0 where
  pub outer : ℕ
  pub named : Named super parts outer
  pub is : is_directory (parts.node outer) ≡ true
  pub has : HasSomeEntry super parts directory (entry_with outer above_name)

module _ (super : Super) (parts : Parts) (sound : Sound super parts) where
  root-leads : reached super parts [] ≡ Some 1
  unfolding reached
  root-leads = refl

  root-is : (directory : ℕ) → reached super parts [] ≡ Some directory → directory ≡ 1
  unfolding reached
  root-is directory leads = cc

  -- what a name is found in is a directory
  finds-in : (directory number : ℕ) (name : List ℕ) → lookup super parts name directory ≡ Some number → (is : Bool) → is_directory (parts.node directory) ≡ is → is_directory (parts.node directory) ≡ true
  finds-in directory number name found true is = is
  finds-in directory number name found false is = let none = leaf-file super parts directory is name in let t = sym none ∙ found in cc

  outer-by : (name : List ℕ) (path : List (List ℕ)) (directory : ℕ) (found : Option ℕ) → reached super parts path ≡ found → reached super parts (name ∷ path) ≡ Some directory
      → is_directory (parts.node directory) ≡ true → IsAbove super parts directory
  unfolding reached
  outer-by name path directory None is leads is' = let e = ap (then_lookup super parts name) is in cc
  outer-by name path directory (Some outer) is leads is' =
      let found : lookup super parts name outer ≡ Some directory = sym (ap (then_lookup super parts name) is) ∙ leads in
      record {
        outer = outer;
        named = record { path = path; leads = is };
        is = finds-in outer directory name found _ refl;
        has = sound.above directory outer name path leads is is';
      }

  above-of : (path : List (List ℕ)) (directory : ℕ) → reached super parts path ≡ Some directory → is_directory (parts.node directory) ≡ true → IsAbove super parts directory
  above-of [] directory leads is =
      let one : directory ≡ 1 = root-is directory leads in
      record {
        outer = 1;
        named = record { path = []; leads = root-leads };
        is = sound.root;
        has = subst (λ n. HasSomeEntry super parts n (entry_with 1 above_name)) (sym one) sound.root_above;
      }
  above-of (name ∷ path) directory leads is = outer-by name path directory _ refl leads is

  some-named : (number : ℕ) → Named super parts number → number ≢ 0
  some-named number named none = let range = sound.in_range number named in omega (arith, range.0, none)

  module _ (directory place number : ℕ) (name : List ℕ) (holds : HoldsEntry super parts directory place number name) where
    own : HasEntry super parts directory place (entry_with number name)
    own = record { below = holds.below; is = holds.says }

    -- another entry of the name is this one
    same-inode : (other : ℕ) (called : List ℕ) → called ≡ name → Named super parts other → HasSomeEntry super parts directory (entry_with other called) → number ≡ other
    same-inode other called same named has =
        let has' : HasEntry super parts directory has.0 (entry_with other name) = subst (λ n. HasEntry super parts directory has.0 (entry_with other n)) same has.1 in
        let at : place ≡ has.0 = sound.no_twice directory place has.0 number other name holds.named holds.is holds.some (some-named other named) own has' in
        let both : entry_with number name ≡ entry_with other name = sym holds.says ∙ (ap (entry super parts directory) at ∙ has'.is) in
        ap (λ (e : Entry). e.inode) both

    above : IsAbove super parts directory
    above = above-of holds.named.path directory holds.named.leads holds.is

    -- an entry of `.` or `..` is that of a directory with a name
    dots-by : (here up : Bool) → bytes_eq here_name name ≡ here → bytes_eq above_name name ≡ up → (is_dots name ≡ false) ⊎ (Named super parts number × (is_directory (parts.node number) ≡ true))
    unfolding is_dots
    dots-by true up h a =
        let same = same-inode directory here_name ((bytes_eq-Decides here_name name).0 h) holds.named (sound.here directory holds.named holds.is) in
        let P : ℕ → Type 0 = λ n. Named super parts n × (is_directory (parts.node n) ≡ true) in
        inr (subst P (sym same) (holds.named, holds.is))
    dots-by false true h a =
        let same = same-inode above.outer above_name ((bytes_eq-Decides above_name name).0 a) above.named above.has in
        let P : ℕ → Type 0 = λ n. Named super parts n × (is_directory (parts.node n) ≡ true) in
        inr (subst P (sym same) (above.named, above.is))
    dots-by false false h a = inl (rw (h, a) refl)

    -- any other is found by its name
    leads-by : (outer : List (List ℕ)) → reached super parts outer ≡ Some directory → is_dots name ≡ false → reached super parts (name ∷ outer) ≡ Some number
    unfolding reached
    leads-by outer leads plain =
        let stays : ChangesEntry super parts parts directory place = record { named = holds.named; is = holds.is; below = holds.below; node = refl; others = λ other low apart. refl } in
        let says : named_inode name (entry super parts directory place) ≡ Some number = ap (named_inode name) holds.says ∙ named-is name number holds.some in
        ap (then_lookup super parts name) leads
        ∙ ((entry_law super parts parts directory place sound stays).changed name plain (inr (λ none. let t = sym says ∙ none in cc)) ∙ says)

    pub leads-somewhere : Named super parts number
    leads-somewhere =
        ⊎_elim (λ plain. record { path = name ∷ holds.named.path; leads = leads-by holds.named.path holds.named.leads plain }) (λ both. both.0) (dots-by _ _ refl refl)

    module _ (removable : is_removable (parts.node number) ≡ true) where
      file : is_directory (parts.node number) ≡ false
      file = no-directory (parts.node number) removable

      plain : is_dots name ≡ false
      plain = ⊎_elim (λ none. none) (λ both. let is = both.1 in let not = file in absurd (differ is not)) (dots-by _ _ refl refl)
        where
          differ : is_directory (parts.node number) ≡ true → is_directory (parts.node number) ≡ false → ⊥
          differ is not = let both : true ≡ false = sym is ∙ not in cc

      pub may-remove : (outer : List (List ℕ)) → reached super parts outer ≡ Some directory → MayRemove super parts outer directory place number name
      may-remove outer leads = record { leads = leads; plain = plain; some = holds.some; stands = holds.says; file = file }

pub entry_named_law : EntryLaw
entry_named_law super parts directory place number name sound holds = leads-somewhere super parts sound directory place number name holds

pub held_law : HeldLaw
unfolding zone_number
held_law super parts outer directory place number name sound leads holds =
    let may = may-remove super parts sound directory place number name holds.entry holds.removable outer leads in
    let stood = stood_law super parts outer directory place number name sound may holds.entry.below holds.entry.is in
    record {
      may = may;
      leads = stood.0;
      root = stood.1;
      lies = λ hole. holds.entry.some (sym (ap (λ (e : Entry). e.inode) holds.entry.says) ∙ hole_law super parts directory place hole);
    }

-- ---- a name that isn't held

both-none : (first second : Option ℕ) → option_or first second ≡ None → (first ≡ None) × (second ≡ None)
both-none None second none = (refl, none)
both-none (Some number) second none = absurd (cc)

-- then no entry below has it
not-held : (at : ℕ → Entry) (name : List ℕ) (count place inode : ℕ) → first_named at name count ≡ None → place < count → at place ≡ entry_with inode name → inode ≢ 0 → ⊥
unfolding first_named
not-held at name zero place inode none below says some = absurd (omega (arith, below))
not-held at name (suc count) place inode none below says some =
    let parts = both-none (first_named at name count) (named_inode name (at count)) none in
    ⊎_elim
    (λ same.
    let last : named_inode name (at count) ≡ Some inode = ap (named_inode name) (sym (ap at same) ∙ says) ∙ named-is name inode some in
    let both : Some inode ≡ None = sym last ∙ parts.1 in
    cc)
    (λ apart. not-held at name count place inode parts.0 (omega (arith, below, apart)) says some)
    (cases_eq place count)

module _ (super : Super) (parts : Parts) (directory : ℕ) (name : List ℕ) (sound : Sound super parts) (named : Named super parts directory) (is : is_directory (parts.node directory) ≡ true)
    (none : held_name super parts directory name ≡ None) where
  no-entry : (called : List ℕ) (other : ℕ) → called ≡ name → Named super parts other → HasSomeEntry super parts directory (entry_with other called) → ⊥
  no-entry called other same named' has =
      let has' : HasEntry super parts directory has.0 (entry_with other name) = subst (λ n. HasEntry super parts directory has.0 (entry_with other n)) same has.1 in
      not-held (entry super parts directory) name (places super.kind (parts.node directory).size) has.0 other none has'.below has'.is (some-named super parts sound other named')

  plain-by : (here up : Bool) → bytes_eq here_name name ≡ here → bytes_eq above_name name ≡ up → is_dots name ≡ false
  unfolding is_dots
  plain-by true up h a = absurd (no-entry here_name directory ((bytes_eq-Decides here_name name).0 h) named (sound.here directory named is))
  plain-by false true h a =
      let up = above-of super parts sound named.path directory named.leads is in
      absurd (no-entry above_name up.outer ((bytes_eq-Decides above_name name).0 a) up.named up.has)
  plain-by false false h a = rw (h, a) refl

  absent-by : is_dots name ≡ false → lookup super parts name directory ≡ None
  unfolding lookup
  absent-by plain = rw (is, plain) none

pub absent_law : AbsentLaw
absent_law super parts directory name sound named is none =
    let plain = plain-by super parts directory name sound named is none _ _ refl refl in
    record { plain = plain; absent = absent-by super parts directory name sound named is none plain }
