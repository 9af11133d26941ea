-- What a directory finds after a change of one entry, and what paths lead to.
use Rattle.std.proofs.Common.{◌≡◌, ◌≢◌, ℕ, ◌⊎◌, Bool, true, false, List, [], ◌∷◌, length, Option, Some, None, refl, sym, ◌∙◌, ap, subst, arith, inl, inr}
use Rattle.std.proofs.lemmas.Bool.{ne_eqb}
use Rattle.std.proofs.lemmas.Slice.Eq.{bytes_eq-Decides}
use Rattle.lilo_model.specs.MinixLayout.{Super}
use Rattle.lilo_model.specs.MinixParts.{Parts, is_directory}
use Rattle.lilo_model.specs.MinixEntries.{Entry, entry_with, named_inode, is_dots}
use Rattle.lilo_model.specs.MinixNames.{entry, lookup, then_lookup, reached, Sound}
use Rattle.minix_change_laws.specs.Change.{ChangesEntry, FindsBy, IsLeaf, FindsLeaf, ChangesIn, PathsFrom}
use Rattle.minix_change_laws.proofs.Change.{path-cases, change_law}
use Rattle.minix_change_laws.proofs.Entries.{entry_law}
use Rattle.minix_change_laws.specs.Comes.{MayCome, MayChange}
use Rattle.minix_change_laws.proofs.Inode.{lookup-same}
use Rattle.minix_change_laws.proofs.Only.{node-kept, other-kept}
use Rattle.minix_laws.proofs.FirstNamed.{named_inode-some}

-- ---- an entry of a name

pub named-is : (name : List ℕ) (inode : ℕ) → inode ≢ 0 → named_inode name (entry_with inode name) ≡ Some inode
named-is name inode some = rw (ne_eqb inode 0 some, (bytes_eq-Decides name name).1 refl) refl

-- ---- nothing is found below what is no directory

pub leaf-file : (super : Super) (parts : Parts) (number : ℕ) → is_directory (parts.node number) ≡ false → IsLeaf super parts number
unfolding lookup
leaf-file super parts number is name = rw is refl

-- ---- what becomes of a name

-- it goes
record Goes (super : Super) (old new : Parts) (directory : ℕ) (name : List ℕ) : Type 0 where
  pub now : lookup super new name directory ≡ None
  pub leaf : FindsLeaf super old directory name

-- it comes
record Comes (super : Super) (old new : Parts) (directory place : ℕ) (name : List ℕ) : Type 0 where
  pub is : name ≡ (entry super new directory place).name
  pub some : (entry super new directory place).inode ≢ 0
  pub now : lookup super new name directory ≡ Some (entry super new directory place).inode
  pub leaf : FindsLeaf super old directory name

-- a path leads anew to an inode
pub record LeadsAnew (super : Super) (new : Parts) (outer : List (List ℕ)) (directory place : ℕ) (path : List (List ℕ)) (number : ℕ) : Type 0 where
  pub path_is : path ≡ (entry super new directory place).name ∷ outer
  pub is : number ≡ (entry super new directory place).inode
  pub some : (entry super new directory place).inode ≢ 0

module _ (super : Super) (old new : Parts) (outer : List (List ℕ)) (directory place : ℕ) (sound : Sound super old) (may : MayChange super old new outer directory place) where
  abbrev Was : Entry
  Was = entry super old directory place

  abbrev Now : Entry
  Now = entry super new directory place

  pub finds : FindsBy super old new directory place
  finds = entry_law super old new directory place sound may.only.change

  -- no change at another place
  pub found : (other : ℕ) (name : List ℕ) → is_dots name ≡ false → ChangesEntry super old old directory other
      → (lookup super old name directory ≡ None) ⊎ (named_inode name (entry super old directory other) ≢ None) → lookup super old name directory ≡ named_inode name (entry super old directory other)
  found other name plain change had = (entry_law super old old directory other sound change).changed name plain had

  stays : ChangesEntry super old old directory place
  stays = record { named = may.only.change.named; is = may.only.change.is; below = may.only.change.below; node = refl; others = λ other below apart. refl }

  -- ---- what the old entry named is a leaf

  was-leaf : (name : List ℕ) (inode : ℕ) → named_inode name Was ≡ Some inode → FindsLeaf super old directory name
  was-leaf name inode was number leads =
      let one = named_inode-some name Was inode was in
      let which : Was.inode ≡ inode = ap (λ (e : Entry). e.inode) one.1 in
      let called : Was.name ≡ name = ap (λ (e : Entry). e.name) one.1 in
      let goes = may.goes (λ e. one.0 (sym which ∙ e)) in
      let plain : is_dots name ≡ false = ap is_dots (sym called) ∙ goes.plain in
      let finds_it : lookup super old name directory ≡ named_inode name Was = found place name plain stays (inr (λ none. let t = sym was ∙ none in cc)) in
      let here : Some number ≡ Some inode = sym leads ∙ (finds_it ∙ was) in
      let same : Was.inode ≡ number = cc in
      subst (IsLeaf super old) same (leaf-file super old Was.inode goes.file)

  -- ---- and what the new one names

  pub comes-kept-leaf : Now.inode ≢ 0 → IsLeaf super new Now.inode
  comes-kept-leaf some name =
      let come = may.comes some in
      lookup-same super old new Now.inode (node-kept super old new Now.inode come.kept) come.kept.zones name ∙ by_kind come _ refl
    where
      by_kind : MayCome super old new outer directory place Now → (directory' : Bool) → is_directory (old.node Now.inode) ≡ directory' → lookup super old name Now.inode ≡ None
      by_kind come true is = (come.fresh is).empty name
      by_kind come false is = leaf-file super old Now.inode is name

  -- ---- each name

  come-leaf : (name : List ℕ) → (lookup super old name directory ≡ None) ⊎ (named_inode name Was ≢ None) → (was : Option ℕ) → named_inode name Was ≡ was → FindsLeaf super old directory name
  come-leaf name (inl none) was is = λ number leads. let t = sym none ∙ leads in cc
  come-leaf name (inr had) None is = absurd (had is)
  come-leaf name (inr had) (Some inode) is = was-leaf name inode is

  cases-by : (name : List ℕ) (now was : Option ℕ) → named_inode name Now ≡ now → named_inode name Was ≡ was
      → (lookup super new name directory ≡ lookup super old name directory) ⊎ (Goes super old new directory name ⊎ Comes super old new directory place name)
  cases-by name (Some inode) was now_is was_is =
      let one = named_inode-some name Now inode now_is in
      let which : Now.inode ≡ inode = ap (λ (e : Entry). e.inode) one.1 in
      let called : Now.name ≡ name = ap (λ (e : Entry). e.name) one.1 in
      let some : Now.inode ≢ 0 = λ e. one.0 (sym which ∙ e) in
      let come = may.comes some in
      let plain : is_dots name ≡ false = ap is_dots (sym called) ∙ come.plain in
      let alone = subst (λ n. (lookup super old n directory ≡ None) ⊎ (named_inode n Was ≢ None)) called come.alone in
      inr (inr (record {
        is = sym called;
        some = some;
        now = finds.changed name plain alone ∙ (now_is ∙ ap Some (sym which));
        leaf = come-leaf name alone was was_is;
      }))
  cases-by name None None now_is was_is = inl (finds.kept name (now_is ∙ sym was_is))
  cases-by name None (Some inode) now_is was_is =
      let one = named_inode-some name Was inode was_is in
      let which : Was.inode ≡ inode = ap (λ (e : Entry). e.inode) one.1 in
      let called : Was.name ≡ name = ap (λ (e : Entry). e.name) one.1 in
      let goes = may.goes (λ e. one.0 (sym which ∙ e)) in
      let plain : is_dots name ≡ false = ap is_dots (sym called) ∙ goes.plain in
      inr (inl (record { now = finds.changed name plain (inr (λ none. let t = sym was_is ∙ none in cc)) ∙ now_is; leaf = was-leaf name inode was_is }))

  name-cases : (name : List ℕ) → (lookup super new name directory ≡ lookup super old name directory) ⊎ (Goes super old new directory name ⊎ Comes super old new directory place name)
  name-cases name = cases-by name _ _ refl refl

  -- ---- each path

  changes-in : ChangesIn super old new outer directory
  changes-in = record {
    leads = may.leads;
    is = may.only.change.is;
    elsewhere = λ number name named other.
        let kept = other-kept super old new directory place sound may.only number named other in
        lookup-same super old new number (node-kept super old new number kept) kept.zones name;
    here = λ name. by_name name (name-cases name);
  }
    where
      by_name : (name : List ℕ) → (lookup super new name directory ≡ lookup super old name directory) ⊎ (Goes super old new directory name ⊎ Comes super old new directory place name)
          → (lookup super new name directory ≡ lookup super old name directory) ⊎ (FindsLeaf super old directory name × FindsLeaf super new directory name)
      by_name name (inl same) = inl same
      by_name name (inr (inl goes)) = inr (goes.leaf, λ number leads. let t = sym goes.now ∙ leads in cc)
      by_name name (inr (inr comes)) = inr (
        comes.leaf,
        λ number leads.
            let same : Some Now.inode ≡ Some number = sym comes.now ∙ leads in
            let is : Now.inode ≡ number = cc in
            subst (IsLeaf super new) is (comes-kept-leaf comes.some),
      )

  pub paths-from : PathsFrom super old new outer directory
  paths-from = change_law super old new outer directory sound changes-in

  was-name : (name : List ℕ) → reached super old (name ∷ outer) ≡ lookup super old name directory
  unfolding reached
  was-name name = ap (then_lookup super old name) may.leads

  -- a name that leads anywhere
  leads-name : (name : List ℕ) (number : ℕ) → reached super new (name ∷ outer) ≡ Some number → (reached super old (name ∷ outer) ≡ Some number) ⊎ LeadsAnew super new outer directory place (name ∷ outer) number
  leads-name name number leads = by_name (name-cases name)
    where
      by_name : (lookup super new name directory ≡ lookup super old name directory) ⊎ (Goes super old new directory name ⊎ Comes super old new directory place name)
          → (reached super old (name ∷ outer) ≡ Some number) ⊎ LeadsAnew super new outer directory place (name ∷ outer) number
      by_name (inl same) = inl (was-name name ∙ (sym same ∙ (sym (paths-from.here name) ∙ leads)))
      by_name (inr (inl goes)) = let t = sym goes.now ∙ (sym (paths-from.here name) ∙ leads) in cc
      by_name (inr (inr comes)) =
          let same : Some Now.inode ≡ Some number = sym comes.now ∙ (sym (paths-from.here name) ∙ leads) in
          let is : number ≡ Now.inode = cc in
          inr (record { path_is = ap (λ n. n ∷ outer) comes.is; is = is; some = comes.some })

  -- a path that leads anywhere
  pub leads-by : (path : List (List ℕ)) (number : ℕ) → reached super new path ≡ Some number → (reached super old path ≡ Some number) ⊎ LeadsAnew super new outer directory place path number
  leads-by [] number leads = inl (sym (paths-from.elsewhere [] (λ name e. cc)) ∙ leads)
  leads-by (name ∷ path) number leads = by_path (path-cases path outer)
    where
      by_path : (path ≡ outer) ⊎ (path ≢ outer) → (reached super old (name ∷ path) ≡ Some number) ⊎ LeadsAnew super new outer directory place (name ∷ path) number
      by_path (inl same) =
          let P : List (List ℕ) → Type 0 = λ p. (reached super old (name ∷ p) ≡ Some number) ⊎ LeadsAnew super new outer directory place (name ∷ p) number in
          subst P (sym same) (leads-name name number (ap (λ p. reached super new (name ∷ p)) (sym same) ∙ leads))
      by_path (inr apart) = inl (sym (paths-from.elsewhere (name ∷ path) (λ other e. apart cc)) ∙ leads)

  too-long : (name : List ℕ) (path : List (List ℕ)) → path ≢ name ∷ path
  too-long name path e = let n : length path ≡ length (name ∷ path) = ap length e in absurd (omega (arith, n))

  -- the directory's own path leads to it
  pub outer-leads : reached super new outer ≡ Some directory
  outer-leads = paths-from.elsewhere outer (λ name. too-long name outer) ∙ may.leads
