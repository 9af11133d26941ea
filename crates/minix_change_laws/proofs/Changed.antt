-- A sound volume stays sound where one entry changes that may.
use Rattle.std.proofs.Common.{◌≡◌, ◌≢◌, ℕ, suc, ◌<◌, ◌≤◌, ◌==◌, ◌⊎◌, Bool, true, false, List, [], ◌∷◌, length, Option, Some, None, refl, sym, ◌∙◌, ap, subst, arith, eq-eqb, inl, inr}
use Rattle.std.proofs.lemmas.Bool.{eqb-true}
use Rattle.lilo_model.specs.MinixLayout.{Super, Inode, is_size}
use Rattle.lilo_model.specs.MinixParts.{Parts, Pointer, is_directory}
use Rattle.lilo_model.specs.MinixEntries.{Entry, entry_with, named_inode, places, is_dots, here_name, above_name}
use Rattle.lilo_model.specs.MinixNames.{entry, lookup, then_lookup, reached, Named, PointsTo, Refers, HasEntry, HasSomeEntry, AllLead, IsNew, AreDistinct, depth_limit, Sound}
use Rattle.minix_change_laws.specs.Change.{ChangesEntry}
use Rattle.minix_change_laws.specs.Comes.{MayChange, SoundAfter}
use Rattle.minix_change_laws.specs.Enter.{IsOnlyName, IsLeft}
use Rattle.minix_change_laws.specs.EntryLaws.{ChangedLaw}
use Rattle.minix_change_laws.proofs.Inode.{directory-zones, points-old, keeps-above, has_entry-same, has_entry-kept}
use Rattle.minix_change_laws.proofs.Lists.{without, new-without, distinct-without, absent-without, length-without, lead-without, lead-new}
use Rattle.minix_change_laws.proofs.Only.{node-kept, named-node, named-above, other-kept, thing-kept, keeps-named}
use Rattle.minix_change_laws.proofs.Finds.{LeadsAnew, named-is, finds, found, comes-kept-leaf, paths-from, leads-by, outer-leads}
use Rattle.minix_laws.proofs.FirstNamed.{named_inode-some}

-- an inode with a name had it, or is the one that comes
record IsAnew (super : Super) (new : Parts) (directory place number : ℕ) : Type 0 where
  pub is : number ≡ (entry super new directory place).inode
  pub some : (entry super new directory place).inode ≢ 0

-- it refers to a zone
record RefersAnew (super : Super) (old new : Parts) (directory place number : ℕ) (at : Pointer) (zone : ℕ) : Type 0 where
  pub is : number ≡ (entry super new directory place).inode
  pub some : (entry super new directory place).inode ≢ 0
  pub to : PointsTo super old (entry super new directory place).inode at zone

module _ (super : Super) (old new : Parts) (outer : List (List ℕ)) (directory place : ℕ) (sound : Sound super old) (may : MayChange super old new outer directory place) where
  abbrev Was : Entry
  Was = entry super old directory place

  abbrev Now : Entry
  Now = entry super new directory place

  named-by : (number : ℕ) → Named super new number → Named super old number ⊎ IsAnew super new directory place number
  named-by number named = by_path (leads-by super old new outer directory place sound may named.path number named.leads)
    where
      by_path : (reached super old named.path ≡ Some number) ⊎ LeadsAnew super new outer directory place named.path number → Named super old number ⊎ IsAnew super new directory place number
      by_path (inl leads) = inl (record { path = named.path; leads = leads })
      by_path (inr anew) = inr (record { is = anew.is; some = anew.some })

  -- what holds of the inodes that had a name, and of the one that comes
  by_named : (P : ℕ → Type 0) → ((number : ℕ) → Named super old number → P number) → (Now.inode ≢ 0 → P Now.inode) → (number : ℕ) → Named super new number → P number
  by_named P had comes number named = split (named-by number named)
    where
      split : Named super old number ⊎ IsAnew super new directory place number → P number
      split (inl named_old) = had number named_old
      split (inr anew) = subst P (sym anew.is) (comes anew.some)

  -- what holds of old nodes holds of new ones
  by_node : (P : Inode → Type 0) → ((number : ℕ) → Named super old number → P (old.node number)) → (Now.inode ≢ 0 → P (old.node Now.inode)) → (number : ℕ) → Named super new number → P (new.node number)
  by_node P had comes = by_named (λ number. P (new.node number))
      (λ number named. subst P (sym (may.only.nodes number named)) (had number named))
      (λ some. subst P (sym (may.comes some).kept.node) (comes some))

  -- ---- zones

  refers-by : (number : ℕ) (at : Pointer) (zone : ℕ) → Refers super new number at zone → Refers super old number at zone ⊎ RefersAnew super old new directory place number at zone
  refers-by number at zone refers = split (named-by number refers.named)
    where
      split : Named super old number ⊎ IsAnew super new directory place number → Refers super old number at zone ⊎ RefersAnew super old new directory place number at zone
      split (inl named) = inl (record {
        named = named;
        to = points-old super old new number (named-node super old new directory place sound may.only number named).numbers (named-above super old new directory place sound may.only number named) at zone refers.to;
      })
      split (inr anew) =
          let kept = (may.comes anew.some).kept in
          inr (record {
            is = anew.is;
            some = anew.some;
            to = points-old super old new Now.inode (node-kept super old new Now.inode kept).numbers (keeps-above super old new Now.inode kept.zones) at zone (subst (λ n. PointsTo super new n at zone) anew.is refers.to);
          })

  zone_range-by : (number : ℕ) (at : Pointer) (zone : ℕ) → Refers super old number at zone ⊎ RefersAnew super old new directory place number at zone → (super.first ≤ zone) × (zone < super.zones)
  zone_range-by number at zone (inl refers) = sound.zone_range number at zone refers
  zone_range-by number at zone (inr anew) = (may.comes anew.some).fit.zone_range at zone anew.to

  zone_marked-by : (number : ℕ) (at : Pointer) (zone : ℕ) → Refers super old number at zone ⊎ RefersAnew super old new directory place number at zone → new.has_zone zone ≡ true
  zone_marked-by number at zone (inl refers) = may.only.zone_marks number at zone refers ∙ sound.zone_marked number at zone refers
  zone_marked-by number at zone (inr anew) = (may.comes anew.some).kept.zone_marks at zone anew.to ∙ (may.comes anew.some).fit.zone_marked at zone anew.to

  -- a zone of the inode that comes, to which one with a name refers
  once-both : (number : ℕ) (at there : Pointer) (zone : ℕ) → Refers super old number at zone → (some : Now.inode ≢ 0) → PointsTo super old Now.inode there zone → (number ≡ Now.inode) × (at ≡ there)
  once-both number at there zone refers some to =
      let same : Now.inode ≡ number = (may.comes some).fit.apart number there at zone to refers in
      sound.once number Now.inode at there zone refers (record { named = subst (Named super old) (sym same) refers.named; to = to })

  once-by : (number other : ℕ) (at there : Pointer) (zone : ℕ) → Refers super old number at zone ⊎ RefersAnew super old new directory place number at zone
      → Refers super old other there zone ⊎ RefersAnew super old new directory place other there zone → (number ≡ other) × (at ≡ there)
  once-by number other at there zone (inl one) (inl two) = sound.once number other at there zone one two
  once-by number other at there zone (inl one) (inr two) = let both = once-both number at there zone one two.some two.to in (both.0 ∙ sym two.is, both.1)
  once-by number other at there zone (inr one) (inl two) = let both = once-both other there at zone two one.some one.to in (one.is ∙ sym both.0, sym both.1)
  once-by number other at there zone (inr one) (inr two) = (one.is ∙ sym two.is, (may.comes one.some).fit.once at there zone one.to two.to)

  -- ---- directories

  directory-old : (number : ℕ) → Named super old number → is_directory (new.node number) ≡ true → is_directory (old.node number) ≡ true
  directory-old number named is = subst (λ node. is_directory node ≡ true) (may.only.nodes number named) is

  -- the inode that comes is a new directory
  come-directory : (number : ℕ) → number ≡ Now.inode → (some : Now.inode ≢ 0) → is_directory (new.node number) ≡ true → is_directory (old.node Now.inode) ≡ true
  come-directory number same some is =
      ap (λ node. is_directory node) (sym (may.comes some).kept.node) ∙ (ap (λ n. is_directory (new.node n)) (sym same) ∙ is)

  abbrev Leads : List (List ℕ) → ℕ → Type 0
  Leads path number = (reached super old path ≡ Some number) ⊎ LeadsAnew super new outer directory place path number

  one_name-by : (number : ℕ) (path other : List (List ℕ)) → is_directory (new.node number) ≡ true → Leads path number → Leads other number → path ≡ other
  one_name-by number path other is (inl leads) (inl leads') = sound.one_name number path other (directory-old number (record { path = path; leads = leads }) is) leads leads'
  one_name-by number path other is (inl leads) (inr anew) =
      absurd (((may.comes anew.some).fresh (come-directory number anew.is anew.some is)).unnamed (record { path = path; leads = leads ∙ ap Some anew.is }))
  one_name-by number path other is (inr anew) (inl leads') =
      absurd (((may.comes anew.some).fresh (come-directory number anew.is anew.some is)).unnamed (record { path = other; leads = leads' ∙ ap Some anew.is }))
  one_name-by number path other is (inr one) (inr two) = one.path_is ∙ sym two.path_is

  -- ---- entries of the directory that changes

  abbrev Count : ℕ
  Count = places super.kind (old.node directory).size

  size-same : (other : ℕ) → other < places super.kind (new.node directory).size → other < Count
  size-same other below = let P : Inode → Type 0 = λ node. other < places super.kind node.size in subst P may.only.change.node below

  size-kept : (other : ℕ) → other < Count → other < places super.kind (new.node directory).size
  size-kept other below = let P : Inode → Type 0 = λ node. other < places super.kind node.size in subst P (sym may.only.change.node) below

  -- no other entry has the name that comes
  taken : (other inode inode' : ℕ) (name : List ℕ) → other < Count → other ≢ place → inode ≢ 0 → inode' ≢ 0 → Now ≡ entry_with inode name → entry super old directory other ≡ entry_with inode' name → ⊥
  taken other inode inode' name below apart some some' now is =
      let which : Now.inode ≡ inode = ap (λ (e : Entry). e.inode) now in
      let called : Now.name ≡ name = ap (λ (e : Entry). e.name) now in
      let come = may.comes (λ e. some (sym which ∙ e)) in
      by_alone (ap is_dots (sym called) ∙ come.plain) (subst (λ n. (lookup super old n directory ≡ None) ⊎ (named_inode n Was ≢ None)) called come.alone)
    where
      by_was : (was : Option ℕ) → named_inode name Was ≡ was → named_inode name Was ≢ None → ⊥
      by_was None none had = had none
      by_was (Some first) was had =
          let one = named_inode-some name Was first was in
          apart (sound.no_twice directory other place inode' first name may.only.change.named may.only.change.is some' one.0 (record { below = below; is = is }) (record { below = may.only.change.below; is = one.1 }))

      by_alone : is_dots name ≡ false → (lookup super old name directory ≡ None) ⊎ (named_inode name Was ≢ None) → ⊥
      by_alone plain (inl none) =
          let stays : ChangesEntry super old old directory other = record { named = may.only.change.named; is = may.only.change.is; below = below; node = refl; others = λ there low far. refl } in
          let finds_it : lookup super old name directory ≡ named_inode name (entry super old directory other) = found super old new outer directory place sound may other name plain stays (inl none) in
          let says : named_inode name (entry super old directory other) ≡ Some inode' = ap (named_inode name) is ∙ named-is name inode' some' in
          let t = sym none ∙ (finds_it ∙ says) in
          cc
      by_alone plain (inr had) = by_was _ refl had

  own_twice-by : (one two inode inode' : ℕ) (name : List ℕ) → inode ≢ 0 → inode' ≢ 0 → HasEntry super new directory one (entry_with inode name) → HasEntry super new directory two (entry_with inode' name)
      → (here there : Bool) → (one == place) ≡ here → (two == place) ≡ there → one ≡ two
  own_twice-by one two inode inode' name some some' has has' true true here there = eqb-true one place here ∙ sym (eqb-true two place there)
  own_twice-by one two inode inode' name some some' has has' true false here there =
      let apart : two ≢ place = λ e. let t = eq-eqb two place e in cc in
      let now : Now ≡ entry_with inode name = ap (entry super new directory) (sym (eqb-true one place here)) ∙ has.is in
      let below : two < Count = size-same two has'.below in
      absurd (taken two inode inode' name below apart some some' now (sym (may.only.change.others two below apart) ∙ has'.is))
  own_twice-by one two inode inode' name some some' has has' false true here there =
      let apart : one ≢ place = λ e. let t = eq-eqb one place e in cc in
      let now : Now ≡ entry_with inode' name = ap (entry super new directory) (sym (eqb-true two place there)) ∙ has'.is in
      let below : one < Count = size-same one has.below in
      absurd (taken one inode' inode name below apart some' some now (sym (may.only.change.others one below apart) ∙ has.is))
  own_twice-by one two inode inode' name some some' has has' false false here there =
      let apart : one ≢ place = λ e. let t = eq-eqb one place e in cc in
      let apart' : two ≢ place = λ e. let t = eq-eqb two place e in cc in
      let below : one < Count = size-same one has.below in
      let below' : two < Count = size-same two has'.below in
      sound.no_twice directory one two inode inode' name may.only.change.named may.only.change.is some some'
      (record { below = below; is = sym (may.only.change.others one below apart) ∙ has.is })
      (record { below = below'; is = sym (may.only.change.others two below' apart') ∙ has'.is })

  -- its `.` and `..` stay
  own_dots-by : (what : Entry) → what.inode ≢ 0 → is_dots what.name ≡ true → (other : ℕ) → HasEntry super old directory other what → (here : Bool) → (other == place) ≡ here → HasSomeEntry super new directory what
  own_dots-by what some dots other has true here =
      let was : Was ≡ what = ap (entry super old directory) (sym (eqb-true other place here)) ∙ has.is in
      let which : Was.inode ≡ what.inode = ap (λ (e : Entry). e.inode) was in
      let called : Was.name ≡ what.name = ap (λ (e : Entry). e.name) was in
      let goes = may.goes (λ e. some (sym which ∙ e)) in
      let plain : is_dots what.name ≡ false = ap is_dots (sym called) ∙ goes.plain in
      cc
  own_dots-by what some dots other has false here =
      (other, record { below = size-kept other has.below; is = may.only.change.others other has.below (λ e. let t = eq-eqb other place e in cc) ∙ has.is })

  -- ---- entries of each directory

  no_twice-by : (number one two inode inode' : ℕ) (name : List ℕ) → is_directory (new.node number) ≡ true → inode ≢ 0 → inode' ≢ 0 → HasEntry super new number one (entry_with inode name) → HasEntry super new number two (entry_with inode' name)
      → Named super old number → (here : Bool) → (number == directory) ≡ here → one ≡ two
  no_twice-by number one two inode inode' name is some some' has has' named true here =
      let same : number ≡ directory = eqb-true number directory here in
      own_twice-by one two inode inode' name some some' (subst (λ n. HasEntry super new n one (entry_with inode name)) same has) (subst (λ n. HasEntry super new n two (entry_with inode' name)) same has') _ _ refl refl
  no_twice-by number one two inode inode' name is some some' has has' named false here =
      let kept = other-kept super old new directory place sound may.only number named (λ e. let t = eq-eqb number directory e in cc) in
      let was = directory-old number named is in
      let zones = directory-zones old number was in
      sound.no_twice number one two inode inode' name named was some some'
      (has_entry-same super old new number (node-kept super old new number kept) kept.zones zones one (entry_with inode name) has)
      (has_entry-same super old new number (node-kept super old new number kept) kept.zones zones two (entry_with inode' name) has')

  no_twice-come : (number one two inode inode' : ℕ) (name : List ℕ) → is_directory (new.node number) ≡ true → inode ≢ 0 → inode' ≢ 0 → HasEntry super new number one (entry_with inode name) → HasEntry super new number two (entry_with inode' name)
      → IsAnew super new directory place number → one ≡ two
  no_twice-come number one two inode inode' name is some some' has has' anew =
      let was = come-directory number anew.is anew.some is in
      let kept = (may.comes anew.some).kept in
      let zones = directory-zones old Now.inode was in
      ((may.comes anew.some).fresh was).no_twice one two inode inode' name some some'
      (has_entry-same super old new Now.inode (node-kept super old new Now.inode kept) kept.zones zones one (entry_with inode name) (subst (λ n. HasEntry super new n one (entry_with inode name)) anew.is has))
      (has_entry-same super old new Now.inode (node-kept super old new Now.inode kept) kept.zones zones two (entry_with inode' name) (subst (λ n. HasEntry super new n two (entry_with inode' name)) anew.is has'))

  dots-by : (number : ℕ) (what : Entry) → what.inode ≢ 0 → is_dots what.name ≡ true → is_directory (old.node number) ≡ true → Named super old number → HasSomeEntry super old number what → (here : Bool) → (number == directory) ≡ here → HasSomeEntry super new number what
  dots-by number what some dots is named has true here =
      let same : number ≡ directory = eqb-true number directory here in
      subst (λ n. HasSomeEntry super new n what) (sym same) (own_dots-by what some dots has.0 (subst (λ n. HasEntry super old n has.0 what) same has.1) _ refl)
  dots-by number what some dots is named has false here =
      let kept = other-kept super old new directory place sound may.only number named (λ e. let t = eq-eqb number directory e in cc) in
      (has.0, has_entry-kept super old new number (node-kept super old new number kept) kept.zones (directory-zones old number is) has.0 what has.1)

  dots-kept : (number : ℕ) (what : Entry) → what.inode ≢ 0 → is_dots what.name ≡ true → is_directory (old.node number) ≡ true → Named super old number → HasSomeEntry super old number what → HasSomeEntry super new number what
  dots-kept number what some dots is named has = dots-by number what some dots is named has _ refl

  dots-come : (some : Now.inode ≢ 0) (what : Entry) → is_directory (old.node Now.inode) ≡ true → HasSomeEntry super old Now.inode what → HasSomeEntry super new Now.inode what
  dots-come some what is has =
      let kept = (may.comes some).kept in
      (has.0, has_entry-kept super old new Now.inode (node-kept super old new Now.inode kept) kept.zones (directory-zones old Now.inode is) has.0 what has.1)

  some-named : (number : ℕ) → Named super old number → number ≢ 0
  some-named number named = let range = (sound.in_range number named).0 in λ e. absurd (omega (arith, range, e))

  root-named : Named super old 1
  unfolding reached
  root-named = record { path = []; leads = refl }

  dots-here : is_dots here_name ≡ true
  unfolding is_dots
  dots-here = refl

  here-by : (number : ℕ) → is_directory (new.node number) ≡ true → Named super old number ⊎ IsAnew super new directory place number → HasSomeEntry super new number (entry_with number here_name)
  here-by number is (inl named) =
      let was = directory-old number named is in
      dots-kept number (entry_with number here_name) (some-named number named) dots-here was named (sound.here number named was)
  here-by number is (inr anew) =
      let was = come-directory number anew.is anew.some is in
      subst (λ n. HasSomeEntry super new n (entry_with n here_name)) (sym anew.is) (dots-come anew.some (entry_with Now.inode here_name) was ((may.comes anew.some).fresh was).here)

  dots-above : is_dots above_name ≡ true
  unfolding is_dots
  dots-above = refl

  above-old : (number outer' : ℕ) (name : List ℕ) (path : List (List ℕ)) → is_directory (new.node number) ≡ true → reached super old (name ∷ path) ≡ Some number → reached super new (name ∷ path) ≡ Some number → reached super new path ≡ Some outer' → Leads path outer'
      → HasSomeEntry super new number (entry_with outer' above_name)
  unfolding reached
  above-old number outer' name path is leads leads_new leads' (inl was_outer) =
      let named : Named super old number = record { path = name ∷ path; leads = leads } in
      let was = directory-old number named is in
      dots-kept number (entry_with outer' above_name) (some-named outer' (record { path = path; leads = was_outer })) dots-above was named (sound.above number outer' name path leads was_outer was)
  above-old number outer' name path is leads leads_new leads' (inr anew) =
      let none : lookup super new name Now.inode ≡ None = comes-kept-leaf super old new outer directory place sound may anew.some name in
      let leads_it : then_lookup super new name (Some Now.inode) ≡ Some number = ap (then_lookup super new name) (sym (leads' ∙ ap Some anew.is)) ∙ leads_new in
      let t = sym none ∙ leads_it in
      cc

  above-come : (number outer' : ℕ) (name : List ℕ) (path : List (List ℕ)) → is_directory (new.node number) ≡ true → reached super new path ≡ Some outer' → LeadsAnew super new outer directory place (name ∷ path) number
      → HasSomeEntry super new number (entry_with outer' above_name)
  above-come number outer' name path is leads' anew =
      let was = come-directory number anew.is anew.some is in
      let up : path ≡ outer = let t = anew.path_is in cc in
      let both : Some directory ≡ Some outer' = sym (outer-leads super old new outer directory place sound may) ∙ (ap (reached super new) (sym up) ∙ leads') in
      let same : directory ≡ outer' = cc in
      let has : HasSomeEntry super new Now.inode (entry_with directory above_name) = dots-come anew.some (entry_with directory above_name) was ((may.comes anew.some).fresh was).above in
      let P : ℕ → Type 0 = λ n. HasSomeEntry super new n (entry_with outer' above_name) in
      let Q : ℕ → Type 0 = λ o. HasSomeEntry super new Now.inode (entry_with o above_name) in
      subst P (sym anew.is) (subst Q same has)

  above-by : (number outer' : ℕ) (name : List ℕ) (path : List (List ℕ)) → is_directory (new.node number) ≡ true → reached super new (name ∷ path) ≡ Some number → reached super new path ≡ Some outer' → Leads (name ∷ path) number
      → HasSomeEntry super new number (entry_with outer' above_name)
  above-by number outer' name path is leads leads' (inl was) = above-old number outer' name path is was leads leads' (leads-by super old new outer directory place sound may path outer' leads')
  above-by number outer' name path is leads leads' (inr anew) = above-come number outer' name path is leads' anew

  depth-by : (number : ℕ) (path : List (List ℕ)) → is_directory (new.node number) ≡ true → Leads path number → length path ≤ depth_limit
  depth-by number path is (inl leads) = sound.depth number path leads (directory-old number (record { path = path; leads = leads }) is)
  depth-by number path is (inr anew) =
      let low : length outer < depth_limit = ((may.comes anew.some).fresh (come-directory number anew.is anew.some is)).depth in
      let long : length path ≡ suc (length outer) = ap (λ (p : List (List ℕ)). length p) anew.path_is in
      omega (arith, low, long)

  -- ---- links

  lead-more : (number : ℕ) (path : List (List ℕ)) (paths : List (List (List ℕ))) → Leads path number → AllLead super old number paths ⊎ IsAnew super new directory place number → AllLead super old number (path ∷ paths) ⊎ IsAnew super new directory place number
  lead-more number path paths (inl leads) (inl rest) = inl (leads, rest)
  lead-more number path paths (inl leads) (inr anew) = inr anew
  lead-more number path paths (inr anew) rest = inr (record { is = anew.is; some = anew.some })

  lead-by : (number : ℕ) (paths : List (List (List ℕ))) → AllLead super new number paths → AllLead super old number paths ⊎ IsAnew super new directory place number
  lead-by number [] lead = inl tt
  lead-by number (path ∷ paths) lead = lead-more number path paths (leads-by super old new outer directory place sound may path number lead.0) (lead-by number paths lead.1)

  -- the path of what goes isn't among those of the inode that comes
  gone-new : Was.inode ≢ 0 → (number : ℕ) (paths : List (List (List ℕ))) → AllLead super new number paths → IsNew (Was.name ∷ outer) (without (Now.name ∷ outer) paths)
  gone-new some number paths lead = by_now _ refl
    where
      by_now : (now : Option ℕ) → named_inode Was.name Now ≡ now → IsNew (Was.name ∷ outer) (without (Now.name ∷ outer) paths)
      by_now (Some inode) is =
          let one = named_inode-some Was.name Now inode is in
          let called : Now.name ≡ Was.name = ap (λ (e : Entry). e.name) one.1 in
          subst (λ n. IsNew (n ∷ outer) (without (Now.name ∷ outer) paths)) called (absent-without (Now.name ∷ outer) paths)
      by_now None is =
          let was : named_inode Was.name Was ≡ Some Was.inode = named-is Was.name Was.inode some in
          let none : lookup super new Was.name directory ≡ None =
          (finds super old new outer directory place sound may).changed Was.name (may.goes some).plain (inr (λ e. let t = sym was ∙ e in cc)) ∙ is in
          let nowhere : reached super new (Was.name ∷ outer) ≡ None = (paths-from super old new outer directory place sound may).here Was.name ∙ none in
          new-without (Now.name ∷ outer) (Was.name ∷ outer) paths (lead-new super new number (Was.name ∷ outer) paths (λ leads. let t = sym nowhere ∙ leads in cc) lead)

  -- paths but that of what comes led where they lead
  was-lead : (number : ℕ) (paths : List (List (List ℕ))) → AllLead super new number paths → AllLead super old number (without (Now.name ∷ outer) paths)
  was-lead number paths lead = lead-without super old new number (Now.name ∷ outer) paths
      (λ path apart leads. by_path path apart (leads-by super old new outer directory place sound may path number leads)) lead
    where
      by_path : (path : List (List ℕ)) → path ≢ Now.name ∷ outer → Leads path number → reached super old path ≡ Some number
      by_path path apart (inl leads) = leads
      by_path path apart (inr anew) = absurd (apart anew.path_is)

  come-links : (some : Now.inode ≢ 0) (paths : List (List (List ℕ))) → AreDistinct paths → AllLead super new Now.inode paths → length paths ≤ (old.node Now.inode).links
  come-links some paths distinct lead =
      let most : length paths ≤ suc (length (without (Now.name ∷ outer) paths)) = length-without (Now.name ∷ outer) paths distinct in
      let enough : length (without (Now.name ∷ outer) paths) < (old.node Now.inode).links =
      (may.comes some).links (without (Now.name ∷ outer) paths) (distinct-without (Now.name ∷ outer) paths distinct) (was-lead Now.inode paths lead)
      (λ went. gone-new went Now.inode paths lead) in
      omega (arith, most, enough)

  links-by : (number : ℕ) (path : List (List ℕ)) (paths : List (List (List ℕ))) → number ≢ 1 → AreDistinct (path ∷ paths) → AllLead super new number (path ∷ paths)
      → AllLead super old number (path ∷ paths) ⊎ IsAnew super new directory place number → length (path ∷ paths) ≤ (new.node number).links
  links-by number path paths other distinct lead (inl was) =
      let node = may.only.nodes number (record { path = path; leads = was.0 }) in
      let enough = sound.links number (path ∷ paths) other distinct was in
      subst (λ (n : Inode). length (path ∷ paths) ≤ n.links) (sym node) enough
  links-by number path paths other distinct lead (inr anew) =
      let P : ℕ → Type 0 = λ n. length (path ∷ paths) ≤ (new.node n).links in
      let enough : length (path ∷ paths) ≤ (old.node Now.inode).links = come-links anew.some (path ∷ paths) distinct (subst (λ n. AllLead super new n (path ∷ paths)) anew.is lead) in
      subst P (sym anew.is) (subst (λ (n : Inode). length (path ∷ paths) ≤ n.links) (sym (may.comes anew.some).kept.node) enough)

  links-new : (number : ℕ) (paths : List (List (List ℕ))) → number ≢ 1 → AreDistinct paths → AllLead super new number paths → length paths ≤ (new.node number).links
  links-new number [] other distinct lead = omega arith
  links-new number (path ∷ paths) other distinct lead = links-by number path paths other distinct lead (lead-by number (path ∷ paths) lead)

  -- ---- all of it

  leads-all : (path : List (List ℕ)) (number : ℕ) → reached super new path ≡ Some number → Leads path number
  leads-all path number leads = leads-by super old new outer directory place sound may path number leads

  sound-new : Sound super new
  sound-new = record {
    root = subst (λ node. is_directory node ≡ true) (sym (may.only.nodes 1 root-named)) sound.root;
    in_range = by_named (λ number. (0 < number) × (number ≤ super.inodes)) sound.in_range (λ some. (may.comes some).fit.range);
    marked = by_named (λ number. new.has_inode number ≡ true) (λ number named. may.only.marks number named ∙ sound.marked number named) (λ some. (may.comes some).kept.mark ∙ (may.comes some).fit.marked);
    mode = by_node (λ node. node.mode ≢ 0) sound.mode (λ some. (may.comes some).fit.mode);
    size = by_node (λ node. is_size super.kind node.size ≡ true) sound.size (λ some. (may.comes some).fit.size);
    zone_range = λ number at zone refers. zone_range-by number at zone (refers-by number at zone refers);
    zone_marked = λ number at zone refers. zone_marked-by number at zone (refers-by number at zone refers);
    once = λ number other at there zone one two. once-by number other at there zone (refers-by number at zone one) (refers-by other there zone two);
    one_name = λ number path other is leads leads'. one_name-by number path other is (leads-all path number leads) (leads-all other number leads');
    no_twice = λ number one two inode inode' name named is some some' has has'. no_twice-split number one two inode inode' name is some some' has has' (named-by number named);
    here = λ number named is. here-by number is (named-by number named);
    root_above = dots-kept 1 (entry_with 1 above_name) (λ e. absurd (omega (arith, e))) dots-above sound.root root-named sound.root_above;
    above = λ number outer' name path leads leads' is. above-by number outer' name path is leads leads' (leads-all (name ∷ path) number leads);
    depth = λ number path leads is. depth-by number path is (leads-all path number leads);
    links = links-new;
  }
    where
      no_twice-split : (number one two inode inode' : ℕ) (name : List ℕ) → is_directory (new.node number) ≡ true → inode ≢ 0 → inode' ≢ 0 → HasEntry super new number one (entry_with inode name) → HasEntry super new number two (entry_with inode' name)
          → Named super old number ⊎ IsAnew super new directory place number → one ≡ two
      no_twice-split number one two inode inode' name is some some' has has' (inl named) = no_twice-by number one two inode inode' name is some some' has has' named _ refl
      no_twice-split number one two inode inode' name is some some' has has' (inr anew) = no_twice-come number one two inode inode' name is some some' has has' anew

  pub sound-after : SoundAfter super old new outer directory place
  sound-after = record {
    sound = sound-new;
    finds = finds super old new outer directory place sound may;
    paths = paths-from super old new outer directory place sound may;
    things = thing-kept super old new directory place sound may.only;
    keeps = keeps-named super old new directory place sound may.only;
  }

  -- ---- what went has no name, where that was its only one and it doesn't come

  module _ (number : ℕ) (which : Was.inode ≡ number) (last : IsOnlyName super old (Was.name ∷ outer) number) (apart : Now.inode ≢ number) where
    some-went : Was.inode ≢ 0
    some-went e = some-named number (record { path = Was.name ∷ outer; leads = last.leads }) (sym which ∙ e)

    -- its path leads elsewhere
    elsewhere : reached super new (Was.name ∷ outer) ≢ Some number
    elsewhere leads = by_now _ refl
      where
        by_now : (now : Option ℕ) → named_inode Was.name Now ≡ now → ⊥
        by_now now is =
            let was : named_inode Was.name Was ≡ Some Was.inode = named-is Was.name Was.inode some-went in
            let here : lookup super new Was.name directory ≡ named_inode Was.name Now =
            (finds super old new outer directory place sound may).changed Was.name (may.goes some-went).plain (inr (λ e. let t = sym was ∙ e in cc)) in
            let says : named_inode Was.name Now ≡ Some number = sym here ∙ (sym ((paths-from super old new outer directory place sound may).here Was.name) ∙ leads) in
            apart (ap (λ (e : Entry). e.inode) (named_inode-some Was.name Now number says).1)

    left-by : (path : List (List ℕ)) → reached super new path ≡ Some number → Leads path number → ⊥
    left-by path leads (inl was) = elsewhere (ap (reached super new) (sym (last.only path was)) ∙ leads)
    left-by path leads (inr anew) = apart (sym anew.is)

    no-name : Named super new number → ⊥
    no-name named = left-by named.path named.leads (leads-by super old new outer directory place sound may named.path number named.leads)

    was-named : Named super old number
    was-named = record { path = Was.name ∷ outer; leads = last.leads }

    not-used : (other : ℕ) (at there : Pointer) (zone : ℕ) → Refers super old number at zone → Refers super new other there zone → Refers super old other there zone ⊎ RefersAnew super old new directory place other there zone → ⊥
    not-used other at there zone refers now (inl was) = no-name (subst (Named super new) (sym (sound.once number other at there zone refers was).0) now.named)
    not-used other at there zone refers now (inr anew) = apart ((may.comes anew.some).fit.apart number there at zone anew.to refers)

    pub is-left : IsLeft super new number
    is-left = record {
      unnamed = no-name;
      unused = λ at zone points other there refers.
          let to : PointsTo super old number at zone = points-old super old new number (named-node super old new directory place sound may.only number was-named).numbers (named-above super old new directory place sound may.only number was-named) at zone points in
          not-used other at there zone (record { named = was-named; to = to }) refers (refers-by other there zone refers);
    }

pub changed_law : ChangedLaw
changed_law super old new outer directory place sound may = sound-after super old new outer directory place sound may
