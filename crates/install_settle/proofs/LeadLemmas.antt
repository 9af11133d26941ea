-- What is at a name, in terms of paths.
use Rattle.std.proofs.Common.{◌≡◌, ◌≤◌, ◌/◌, ◌%◌, ◌*◌, ◌==◌, ◌&&◌, ℕ, zero, suc, Bool, true, false, not, List, [], ◌∷◌, ◌++◌, length, codes, bytes_eq, Option, Some, None, refl, sym, ◌∙◌, ap, subst, arith, length-append, get_or}
use Rattle.std.specs.Prelude.{IfSome, take, drop}
use Rattle.std.specs.List.{position_or_len}
use Rattle.std.specs.Option.{option_or}
use Rattle.std.proofs.lemmas.List.{length-take}
use Rattle.std.proofs.lemmas.Bool.{and_parts}
use Rattle.std.proofs.lemmas.Slice.Eq.{bytes_eq-Decides}
use Rattle.lilo_model.specs.Bytes.{name_in, part_of}
use Rattle.lilo_model.specs.MinixEntries.{Entry, entry_of, entries_per_block, named_inode, here_name, above_name, places, is_dots}
use Rattle.lilo_model.specs.MinixFindNames.{path_above}
use Rattle.lilo_model.specs.MinixLayout.{Super, Inode, entry_size, name_size}
use Rattle.lilo_model.specs.MinixNames.{block, entry, first_named, lookup, then_lookup, reached}
use Rattle.lilo_model.specs.MinixParts.{Parts, is_directory, is_file}
use Rattle.lilo_model.specs.NamePlaces.{plain_path, with_tilde}
use Rattle.minix_layout.specs.View.{inode_view}
use Rattle.minix_names.specs.Places.{number_found}
use Rattle.minix_names.proofs.PathLemmas.{bytes-not}
use Rattle.minix_remove_laws.specs.Held.{held_name, is_removable}
use Rattle.minix_remove_laws.proofs.Held.{no-directory}
use Rattle.minix_tree.specs.declared.stat.Stat.{Stat}
use Rattle.install_apart.specs.Names.{IsOwnName, is_replaceable, is_file_found}
use Rattle.install_apart.specs.declared.name.OwnName.{OwnName}
use Rattle.install_settle.specs.At.{IsAt}

-- ---- a name with `~` is neither `.` nor `..`

tilde-here : (name : List ℕ) → bytes_eq here_name (name ++ codes "~") ≡ false
tilde-here [] = refl
tilde-here (first ∷ rest) = bytes-not here_name ((first ∷ rest) ++ codes "~") (λ same.
    let long : 1 ≡ length ((first ∷ rest) ++ codes "~") = ap length same in
    let sum = length-append (first ∷ rest) (codes "~") in
    omega (arith, long, sum))

tilde-above : (name : List ℕ) → bytes_eq above_name (name ++ codes "~") ≡ false
tilde-above [] = refl
tilde-above (first ∷ []) = bytes-not above_name (first ∷ (126 ∷ [])) (λ same.
    let last : 46 ≡ 126 = ap (λ (l : List ℕ). get_or l 1 0) same in
    omega (arith, last))
tilde-above (first ∷ (second ∷ rest)) = bytes-not above_name ((first ∷ (second ∷ rest)) ++ codes "~") (λ same.
    let long : 2 ≡ length ((first ∷ (second ∷ rest)) ++ codes "~") = ap length same in
    let sum = length-append (first ∷ (second ∷ rest)) (codes "~") in
    omega (arith, long, sum))

no-dots : (name : List ℕ) → bytes_eq here_name name ≡ false → bytes_eq above_name name ≡ false → is_dots name ≡ false
unfolding is_dots
no-dots name here above = rw (here, above) refl

plain-is : (name : List ℕ) (above : List (List ℕ)) → bytes_eq here_name name ≡ false → bytes_eq above_name name ≡ false → plain_path (name ∷ above) ≡ name ∷ above
plain-is name above here up = rw (here, up) refl

-- so a path with `~` is its own
pub plain-tilde : (path : List (List ℕ)) (name : List ℕ) (above : List (List ℕ)) → with_tilde path ≡ name ∷ above
    → (plain_path (with_tilde path) ≡ with_tilde path) × (is_dots name ≡ false)
plain-tilde [] name above is = absurd (cc)
plain-tilde (first ∷ rest) name above is =
    let same : first ++ codes "~" ≡ name = ap (λ (path : List (List ℕ)). get_or path 0 []) is in (
      plain-is (first ++ codes "~") rest (tilde-here first) (tilde-above first),
      subst (λ (n : List ℕ). is_dots n ≡ false) same (no-dots (first ++ codes "~") (tilde-here first) (tilde-above first)),
    )

-- ---- what a directory holds by a name

module _ (super : Super) (parts : Parts) where
  pub held-is : (directory : ℕ) (name : List ℕ) (above : List (List ℕ)) → reached super parts above ≡ Some directory → is_directory (parts.node directory) ≡ true
      → is_dots name ≡ false → reached super parts (name ∷ above) ≡ held_name super parts directory name
  unfolding reached lookup
  held-is directory name above leads is plain = ap (then_lookup super parts name) leads ∙ rw (is, plain) refl

  at-plain : (path : List (List ℕ)) (own : OwnName) (is : IsOwnName super parts path own) → plain_path path ≡ path → is_dots own.name ≡ false → IsAt super parts path own
  at-plain path own is same plain =
      let there : reached super parts path ≡ number_found own.there = ap (reached super parts) (sym same) ∙ is.there in
      record {
        above = is.ends.above;
        is = is.ends.is;
        leads = is.ends.there.leads;
        directory = is.ends.there.is;
        plain = plain;
        there = there;
        held = sym (held-is own.directory own.name is.ends.above is.ends.there.leads is.ends.there.is plain) ∙ (ap (reached super parts) (sym is.ends.is) ∙ there);
        mode = mode-of own.there is.node;
      }
    where
      mode-of : (there : Option Stat) → IfSome there (λ stat. inode_view stat.node ≡ parts.node stat.inode) → IfSome there (λ stat. (inode_view stat.node).mode ≡ (parts.node stat.inode).mode)
      mode-of None node = tt
      mode-of (Some stat) node = ap (λ (i : Inode). i.mode) node

  pub tilde-at : (path : List (List ℕ)) (own : OwnName) → IsOwnName super parts (with_tilde path) own → IsAt super parts (with_tilde path) own
  tilde-at path own is =
      let both = plain-tilde path own.name is.ends.above is.ends.is in
      at-plain (with_tilde path) own is both.0 both.1

  -- a directory isn't replaced
  no-file : (there : Option Stat) (directory : ℕ) → Some directory ≡ number_found there → IfSome there (λ stat. inode_view stat.node ≡ parts.node stat.inode)
      → is_file_found there ≡ true → is_directory (parts.node directory) ≡ true → ⊥
  no-file None directory same node file is = cc
  no-file (Some stat) directory same node file is =
      let inode : stat.inode ≡ directory = cc in
      let regular : is_file (parts.node directory) ≡ true = subst (λ (n : ℕ). is_file (parts.node n) ≡ true) inode (subst (λ (i : Inode). is_file i ≡ true) node file) in
      let removable : is_removable (parts.node directory) ≡ true = rw regular refl in
      let other = no-directory (parts.node directory) removable in
      cc

  found-in : (directory number : ℕ) (name : List ℕ) → lookup super parts name directory ≡ Some number → (is : Bool) → is_directory (parts.node directory) ≡ is → is_directory (parts.node directory) ≡ true
  unfolding lookup
  found-in directory number name found true is = is
  found-in directory number name found false is = let none : None ≡ Some number = rw is at found in cc

  pub above-directory : (above : List (List ℕ)) (directory : ℕ) → reached super parts above ≡ Some directory → is_directory (parts.node directory) ≡ true
      → (outer : ℕ) × (reached super parts (path_above above) ≡ Some outer) × (is_directory (parts.node outer) ≡ true)
  unfolding reached
  above-directory [] directory leads is = (directory, leads, is)
  above-directory (name ∷ path) directory leads is = by (reached super parts path) refl
    where
      by : (found : Option ℕ) → reached super parts path ≡ found → (outer : ℕ) × (reached super parts path ≡ Some outer) × (is_directory (parts.node outer) ≡ true)
      by None none = let lost : None ≡ Some directory = sym (ap (then_lookup super parts name) none) ∙ leads in cc
      by (Some outer) found = (outer, found, found-in outer directory name (sym (ap (then_lookup super parts name) found) ∙ leads) _ refl)

  -- what may be replaced is at its own path
  pub plain-at : (path : List (List ℕ)) (own : OwnName) → IsOwnName super parts path own → is_replaceable own ≡ true → IsAt super parts path own
  plain-at path own is file = by _ _ refl refl
    where
      at-path : (plain : List (List ℕ)) → plain_path (own.name ∷ is.ends.above) ≡ plain → reached super parts plain ≡ number_found own.there
      at-path plain same = ap (reached super parts) (sym (ap plain_path is.ends.is ∙ same)) ∙ is.there

      by : (here up : Bool) → bytes_eq here_name own.name ≡ here → bytes_eq above_name own.name ≡ up → IsAt super parts path own
      by true up h a = absurd (no-file own.there own.directory (sym is.ends.there.leads ∙ at-path is.ends.above (rw h refl)) is.node file is.ends.there.is)
      by false true h a =
          let outer = above-directory is.ends.above own.directory is.ends.there.leads is.ends.there.is in
          absurd (no-file own.there outer.0 (sym outer.1 ∙ at-path (path_above is.ends.above) (rw (h, a) refl)) is.node file outer.2)
      by false false h a = at-plain path own is (ap plain_path is.ends.is ∙ (plain-is own.name is.ends.above h a ∙ sym is.ends.is)) (no-dots own.name h a)

  -- ---- a name that is held isn't too long

  short-by : (at : ℕ → Entry) (name : List ℕ) (size : ℕ) → ((place : ℕ) → length (at place).name ≤ size) → (count number : ℕ) → first_named at name count ≡ Some number → length name ≤ size
  unfolding first_named
  short-by at name size short zero number found = cc
  short-by at name size short (suc place) number found = by (first_named at name place) refl (λ other earlier. short-by at name size short place other earlier)
    where
      here : (test : Bool) → (not ((at place).inode == 0) && bytes_eq (at place).name name) ≡ test → named_inode name (at place) ≡ Some number → length name ≤ size
      here true is same =
          let both = and_parts (not ((at place).inode == 0)) (bytes_eq (at place).name name) is in
          subst (λ (n : List ℕ). length n ≤ size) ((bytes_eq-Decides (at place).name name).0 both.1) (short place)
      here false is same = let none : None ≡ Some number = rw is at same in cc

      by : (earlier : Option ℕ) → first_named at name place ≡ earlier → ((other : ℕ) → first_named at name place ≡ Some other → length name ≤ size) → length name ≤ size
      by None none before = here _ refl (let same : option_or None (named_inode name (at place)) ≡ Some number = rw none at found in same)
      by (Some other) is before = before other is

  name-short : (bytes : List ℕ) (size : ℕ) → length (name_in bytes 2 size) ≤ size
  name-short bytes size =
      let one = length-take (position_or_len (λ (byte : ℕ). byte == 0) (take size (drop 2 bytes))) (take size (drop 2 bytes)) in
      let two = length-take size (drop 2 bytes) in
      omega (arith, one, two)

  entry-short : (directory place : ℕ) → length (entry super parts directory place).name ≤ name_size super.kind
  unfolding entry entry_of
  entry-short directory place =
      name-short
      (part_of (block super parts directory (place / entries_per_block super.kind)) (entry_size super.kind * (place % entries_per_block super.kind)) (entry_size super.kind))
      (name_size super.kind)

  pub held-short : (directory number : ℕ) (name : List ℕ) → held_name super parts directory name ≡ Some number → length name ≤ name_size super.kind
  held-short directory number name held =
      short-by (entry super parts directory) name (name_size super.kind) (entry-short directory) (places super.kind (parts.node directory).size) number held
