-- Parts in which what has a name is seen as before stay sound, with the same Names.
use Rattle.std.proofs.Common.{◌≡◌, ◌≢◌, ℕ, zero, suc, ◌+◌, ◌-◌, ◌<◌, ◌≤◌, ◌⊎◌, Bool, true, false, List, [], ◌∷◌, option_map, Option, Some, None, refl, sym, ◌∙◌, ap, subst, arith, inl, inr, ⊎_elim, ltb}
use Rattle.std.specs.Option.{option_or}
use Rattle.std.proofs.lemmas.Bool.{ltb-true, ltb-false, cases_Bool}
use Rattle.lilo_model.specs.MinixLayout.{Super}
use Rattle.lilo_model.specs.MinixParts.{Parts, Pointer, is_directory}
use Rattle.lilo_model.specs.MinixEntries.{Entry, entry_with, named_inode, places, here_name, above_name}
use Rattle.lilo_model.specs.MinixNames.{entry, first_named, lookup, then_lookup, reached, thing, names, Named, PointsTo, Refers, HasEntry, HasSomeEntry, AllLead, Sound}
use Rattle.minix_change_laws.specs.Sees.{IsFresh, Sees}
use Rattle.minix_change_laws.specs.SeesLaws.{SeesLaw}
use Rattle.minix_change_laws.proofs.Inode.{same-but-links, thing-directory, thing-same, points-old, points-new, keeps-above}

-- ---- entries past which there are only free ones

pub named-free : (name : List ℕ) (what : Entry) → what.inode ≡ 0 → named_inode name what ≡ None
named-free name what free = rw free refl

or-none : (found : Option ℕ) → option_or found None ≡ found
or-none None = refl
or-none (Some inode) = refl

first-kept : (at there : ℕ → Entry) (name : List ℕ) (count : ℕ) → ((place : ℕ) → place < count → there place ≡ at place) → first_named there name count ≡ first_named at name count
unfolding first_named
first-kept at there name zero same = refl
first-kept at there name (suc count) same = rw (first-kept at there name count (λ place below. same place (omega (arith, below))), same count (omega arith)) refl

first-more : (at : ℕ → Entry) (name : List ℕ) (count more : ℕ) → ((place : ℕ) → count ≤ place → place < more + count → (at place).inode ≡ 0) → first_named at name (more + count) ≡ first_named at name count
unfolding first_named
first-more at name count zero free =
    let none : zero + count ≡ count = omega arith in
    ap (first_named at name) none
first-more at name count (suc more) free =
    let before : first_named at name (more + count) ≡ first_named at name count = first-more at name count more (λ place from below. free place from (omega (arith, below))) in
    let last : named_inode name (at (more + count)) ≡ None = named-free name (at (more + count)) (free (more + count) (omega arith) (omega arith)) in
    let step : suc more + count ≡ suc (more + count) = omega arith in
    let here : first_named at name (suc (more + count)) ≡ first_named at name count = rw (before, last) (or-none (first_named at name count)) in
    ap (first_named at name) step ∙ here

-- ---- one inode

module _ (super : Super) (old new : Parts) (sees : Sees super old new) where
  module _ (number : ℕ) (named : Named super old number) where
    pub directory-same : is_directory (new.node number) ≡ is_directory (old.node number)
    directory-same = rw (sees.modes number named) refl

    pub points-kept : (at : Pointer) (zone : ℕ) → PointsTo super old number at zone → PointsTo super new number at zone
    points-kept at zone to = ⊎_elim as_directory as_file (cases_Bool (is_directory (old.node number)))
      where
        as_directory : is_directory (old.node number) ≡ true → PointsTo super new number at zone
        as_directory is = sees.stays number at zone (record { named = named; to = to }) is

        as_file : is_directory (old.node number) ≡ false → PointsTo super new number at zone
        as_file is =
            points-new super old new number (same-but-links (old.node number) (new.node number) (sees.files number named is)).numbers
            (keeps-above super old new number (λ there y to'. sees.bytes number there y (record { named = named; to = to' }) is)) at zone to

    pub points-either : (at : Pointer) (zone : ℕ) → PointsTo super new number at zone → PointsTo super old number at zone ⊎ IsFresh super old new zone
    points-either at zone to = ⊎_elim as_directory as_file (cases_Bool (is_directory (old.node number)))
      where
        as_directory : is_directory (old.node number) ≡ true → PointsTo super old number at zone ⊎ IsFresh super old new zone
        as_directory is = sees.refers number at zone named is to

        as_file : is_directory (old.node number) ≡ false → PointsTo super old number at zone ⊎ IsFresh super old new zone
        as_file is = inl (points-old super old new number (same-but-links (old.node number) (new.node number) (sees.files number named is)).numbers
            (keeps-above super old new number (λ there y to'. sees.bytes number there y (record { named = named; to = to' }) is)) at zone to)

    module _ (is : is_directory (old.node number) ≡ true) where
      Count : ℕ
      Count = places super.kind (old.node number).size

      More : ℕ
      More = places super.kind (new.node number).size - places super.kind (old.node number).size

      whole : More + Count ≡ places super.kind (new.node number).size
      unfolding More Count
      whole = let room = sees.room number named is in omega (arith, room)

      first-same : (name : List ℕ) → first_named (entry super new number) name (places super.kind (new.node number).size) ≡ first_named (entry super old number) name (places super.kind (old.node number).size)
      unfolding Count
      first-same name =
          ap (first_named (entry super new number) name) (sym whole)
          ∙ (first-more (entry super new number) name Count More (λ place from below. sees.free number place named is from (omega (arith, below, whole)))
          ∙ first-kept (entry super old number) (entry super new number) name Count (λ place below. sees.entries number place named is below))

    lookup-by : (name : List ℕ) (directory : Bool) → is_directory (old.node number) ≡ directory → lookup super new name number ≡ lookup super old name number
    unfolding lookup
    lookup-by name false is = rw (directory-same, is) refl
    lookup-by name true is = rw (directory-same, is, first-same is name) refl

    pub lookup-same : (name : List ℕ) → lookup super new name number ≡ lookup super old name number
    lookup-same name = lookup-by name _ refl

    thing-by : (directory : Bool) → is_directory (old.node number) ≡ directory → thing super new number ≡ thing super old number
    thing-by true is = thing-directory super new number (directory-same ∙ is) ∙ sym (thing-directory super old number is)
    thing-by false is =
        thing-same super old new number (same-but-links (old.node number) (new.node number) (sees.files number named is))
        (λ at zone to. sees.bytes number at zone (record { named = named; to = to }) is)

    pub thing-seen : thing super new number ≡ thing super old number
    thing-seen = thing-by _ refl

  -- ---- paths

  then-same : (name : List ℕ) (path : List (List ℕ)) (found : Option ℕ) → reached super old path ≡ found → then_lookup super new name found ≡ then_lookup super old name found
  then-same name path None leads = refl
  then-same name path (Some directory) leads = lookup-same directory (record { path = path; leads = leads }) name

  pub reached-same : (path : List (List ℕ)) → reached super new path ≡ reached super old path
  unfolding reached
  reached-same [] = refl
  reached-same (name ∷ path) = ap (then_lookup super new name) (reached-same path) ∙ then-same name path (reached super old path) refl

  pub reached-old : (path : List (List ℕ)) (number : ℕ) → reached super new path ≡ Some number → reached super old path ≡ Some number
  reached-old path number leads = sym (reached-same path) ∙ leads

  pub named-old : (number : ℕ) → Named super new number → Named super old number
  named-old number named = record { path = named.path; leads = reached-old named.path number named.leads }

  pub named-new : (number : ℕ) → Named super old number → Named super new number
  named-new number named = record { path = named.path; leads = reached-same named.path ∙ named.leads }

  pub refers-new : (number : ℕ) (at : Pointer) (zone : ℕ) → Refers super old number at zone → Refers super new number at zone
  refers-new number at zone refers = record { named = named-new number refers.named; to = points-kept number refers.named at zone refers.to }

  pub refers-old : (number : ℕ) (at : Pointer) (zone : ℕ) → Refers super new number at zone → Refers super old number at zone ⊎ IsFresh super old new zone
  refers-old number at zone refers =
      let named = named-old number refers.named in
      ⊎_elim (λ to. inl (record { named = named; to = to })) (λ fresh. inr fresh) (points-either number named at zone refers.to)

  names-by : (path : List (List ℕ)) (found : Option ℕ) → reached super old path ≡ found → option_map (thing super new) found ≡ option_map (thing super old) found
  names-by path None leads = refl
  names-by path (Some number) leads = ap Some (thing-seen number (record { path = path; leads = leads }))

  names-same : (path : List (List ℕ)) → names super new path ≡ names super old path
  unfolding names
  names-same path = ap (option_map (thing super new)) (reached-same path) ∙ names-by path (reached super old path) refl

  pub all_lead-old : (number : ℕ) (paths : List (List (List ℕ))) → AllLead super new number paths → AllLead super old number paths
  all_lead-old number [] lead = tt
  all_lead-old number (path ∷ paths) lead = (reached-old path number lead.0, all_lead-old number paths lead.1)

  pub all_lead-new : (number : ℕ) (paths : List (List (List ℕ))) → AllLead super old number paths → AllLead super new number paths
  all_lead-new number [] lead = tt
  all_lead-new number (path ∷ paths) lead = (reached-same path ∙ lead.0, all_lead-new number paths lead.1)

  -- ---- all of it

  module _ (sound : Sound super old) where
    range-by : (number : ℕ) (at : Pointer) (zone : ℕ) → Refers super old number at zone ⊎ IsFresh super old new zone → (super.first ≤ zone) × (zone < super.zones)
    range-by number at zone (inl refers) = sound.zone_range number at zone refers
    range-by number at zone (inr fresh) = fresh.range

    marked-by : (number : ℕ) (at : Pointer) (zone : ℕ) → Refers super old number at zone ⊎ IsFresh super old new zone → new.has_zone zone ≡ true
    marked-by number at zone (inl refers) = sees.zone_marks number at zone refers
    marked-by number at zone (inr fresh) = fresh.marked

    once-by : (number other : ℕ) (at there : Pointer) (zone : ℕ) → Refers super new number at zone → Refers super new other there zone
        → Refers super old number at zone ⊎ IsFresh super old new zone → Refers super old other there zone ⊎ IsFresh super old new zone → (number ≡ other) × (at ≡ there)
    once-by number other at there zone one two (inl a) (inl b) = sound.once number other at there zone a b
    once-by number other at there zone one two (inl a) (inr fresh) = absurd (fresh.unused number at a)
    once-by number other at there zone one two (inr fresh) b = sees.once number other at there zone (named-old number one.named) (named-old other two.named) one.to two.to fresh

    root-named : Named super old 1
    unfolding reached
    root-named = record { path = []; leads = refl }

    directory-old : (number : ℕ) → Named super old number → is_directory (new.node number) ≡ true → is_directory (old.node number) ≡ true
    directory-old number named is = sym (directory-same number named) ∙ is

    -- an entry that isn't free was there before
    has-old : (directory place : ℕ) (what : Entry) → Named super old directory → is_directory (old.node directory) ≡ true → what.inode ≢ 0 → HasEntry super new directory place what
        → (below : Bool) → (ltb place (places super.kind (old.node directory).size)) ≡ below → HasEntry super old directory place what
    has-old directory place what named is some has true below =
        let low : place < places super.kind (old.node directory).size = ltb-true place _ below in
        record { below = low; is = sym (sees.entries directory place named is low) ∙ has.is }
    has-old directory place what named is some has false below =
        let high : places super.kind (old.node directory).size ≤ place = ltb-false place _ below in
        absurd (some (sym (ap (λ (e : Entry). e.inode) has.is) ∙ sees.free directory place named is high has.below))

    has-new : (directory : ℕ) (what : Entry) → Named super old directory → is_directory (old.node directory) ≡ true → HasSomeEntry super old directory what → HasSomeEntry super new directory what
    has-new directory what named is has =
        let room = sees.room directory named is in
        let low = has.1.below in
        (has.0, record { below = omega (arith, room, low); is = sees.entries directory has.0 named is low ∙ has.1.is })

    pub sound-new : Sound super new
    sound-new = record {
      root = directory-same 1 root-named ∙ sound.root;
      in_range = λ number named. sound.in_range number (named-old number named);
      marked = λ number named. sees.marks number (named-old number named);
      mode = λ number named. subst (λ mode. mode ≢ 0) (sym (sees.modes number (named-old number named))) (sound.mode number (named-old number named));
      size = λ number named. sees.sizes number (named-old number named);
      zone_range = λ number at zone refers. range-by number at zone (refers-old number at zone refers);
      zone_marked = λ number at zone refers. marked-by number at zone (refers-old number at zone refers);
      once = λ number other at there zone one two. once-by number other at there zone one two (refers-old number at zone one) (refers-old other there zone two);
      one_name = λ number path other is leads leads'.
          let named : Named super old number = record { path = path; leads = reached-old path number leads } in
          sound.one_name number path other (directory-old number named is) (reached-old path number leads) (reached-old other number leads');
      no_twice = λ directory place other inode inode' name named is some some' one two.
          let named_old = named-old directory named in
          let is_old = directory-old directory named_old is in
          sound.no_twice directory place other inode inode' name named_old is_old some some'
          (has-old directory place (entry_with inode name) named_old is_old some one _ refl) (has-old directory other (entry_with inode' name) named_old is_old some' two _ refl);
      here = λ directory named is.
          let named_old = named-old directory named in
          let is_old = directory-old directory named_old is in
          has-new directory (entry_with directory here_name) named_old is_old (sound.here directory named_old is_old);
      root_above = has-new 1 (entry_with 1 above_name) root-named sound.root sound.root_above;
      above = λ directory outer name path leads leads' is.
          let leads_old = reached-old (name ∷ path) directory leads in
          let named_old : Named super old directory = record { path = name ∷ path; leads = leads_old } in
          let is_old = directory-old directory named_old is in
          has-new directory (entry_with outer above_name) named_old is_old (sound.above directory outer name path leads_old (reached-old path outer leads') is_old);
      depth = λ directory path leads is.
          let leads_old = reached-old path directory leads in
          sound.depth directory path leads_old (directory-old directory (record { path = path; leads = leads_old }) is);
      links = λ number paths other distinct lead. sees.links number paths other distinct (all_lead-old number paths lead);
    }

-- for all parts
pub sees_law : SeesLaw
sees_law super old new sound sees = record { sound = sound-new super old new sees sound; same = names-same super old new sees }
