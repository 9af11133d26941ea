-- Parts of which one zone of a file's bytes has other bytes stay sound (as minix_change_laws' Keeps, but for that zone).
use Rattle.std.proofs.Common.{◌≡◌, ◌≢◌, ℕ, zero, suc, ◌/◌, ◌%◌, ◌<◌, ◌≤◌, ◌==◌, ◌||◌, Bool, true, false, List, [], ◌∷◌, length, take, option_map, Option, Some, None, refl, sym, ◌∙◌, ap, subst, arith, eq-eqb, eqb-true, ◌+◌, min, length-append, length-take}
use Rattle.std.specs.Prelude.{slice_index}
use Rattle.std.proofs.lemmas.Bool.{or_left, or_right}
use Rattle.lilo_model.specs.MinixLayout.{Super, Inode, is_size}
use Rattle.lilo_model.specs.MinixParts.{Parts, Pointer, IsPointer, is_directory, is_file, is_link, has_zones, number_in, number_below, follow, block_pointer, zone_bytes, blocks_for}
use Rattle.lilo_model.specs.MinixEntries.{Entry, entry_with, entry_in, entries_per_block, places, here_name, above_name}
use Rattle.lilo_model.specs.MinixNames.{pointer, zone_number, block, blocks, content, entry, lookup, then_lookup, reached, thing, names, Named, Refers, HasEntry, HasSomeEntry, AllLead, AreDistinct, Sound, File, Link}
use Rattle.minix_laws.proofs.Inside.{is_pointer-block}
use Rattle.lilo_model.specs.Clear.{IsIndirect}
use Rattle.lilo_model.specs.MinixNames.{PointsTo}
use Rattle.session_model.specs.Step.{IsFileAgain}
use Rattle.session_laws.specs.FileData.{KeepsButData, DataLaw}

module _ (super : Super) (old new : Parts) (changed : ℕ) (keeps : KeepsButData super old new changed) where
  -- ---- what is in an inode that has a name

  module _ (number : ℕ) (named : Named super old number) where
    module _ (zones : has_zones (old.node number) ≡ true) where
      below-by : (top index : ℕ) (trail : List ℕ) → IsPointer super.kind (record { top = top; trail = trail }) → IsIndirect (record { top = top; trail = trail }) → (zone : ℕ) → follow super.kind old.zone (slice_index (old.node number).zones top) trail ≡ zone
          → (hole : Bool) → (zone == 0) ≡ hole → number_below super.kind new.zone zone index ≡ number_below super.kind old.zone zone index
      below-by top index trail is further zone to true hole = rw hole refl
      below-by top index trail is further zone to false hole =
          let some : zone ≢ 0 = λ e. let t = eq-eqb zone 0 e in cc in
          let refers : Refers super old number (record { top = top; trail = trail }) zone = record { named = named; to = record { kind = zones; place = is; is = to; some = some } } in
          let other : zone ≢ changed = λ here. (keeps.only number (record { top = top; trail = trail }) (subst (Refers super old number (record { top = top; trail = trail })) here refers)).1.0 further in
          let same : new.zone zone ≡ old.zone zone = keeps.zones number (record { top = top; trail = trail }) zone refers other in
          rw hole (ap (λ bytes. number_in super.kind bytes index) same)

      follow-same : (top : ℕ) (trail : List ℕ) → IsPointer super.kind (record { top = top; trail = trail })
          → follow super.kind new.zone (slice_index (old.node number).zones top) trail ≡ follow super.kind old.zone (slice_index (old.node number).zones top) trail
      unfolding follow
      follow-same top [] is = refl
      follow-same top (index ∷ before) is =
          let outer : IsPointer super.kind (record { top = top; trail = before }) = record {
            ten = is.ten;
            deep = omega (arith, is.deep);
            within = λ k d below. is.within (suc k) d (omega (arith, below));
          } in
          ap (λ zone. number_below super.kind new.zone zone index) (follow-same top before outer)
          ∙ below-by top index before outer (omega (arith, is.deep)) (follow super.kind old.zone (slice_index (old.node number).zones top) before) refl _ refl

      pointer-same : (at : Pointer) → IsPointer super.kind at → pointer super new number at ≡ pointer super old number at
      pointer-same at is =
          ap (λ node. follow super.kind new.zone (slice_index node.zones at.top) at.trail) (keeps.nodes number named)
          ∙ follow-same at.top at.trail is

      zone-same : (index : ℕ) → zone_number super new number index ≡ zone_number super old number index
      unfolding zone_number
      zone-same index = pointer-same (block_pointer super.kind index) (is_pointer-block super.kind index)

      -- where none of its data is in the zone that changed, blocks and content are the same
      module _ (free : (at : Pointer) → Refers super old number at changed → ⊥) where
        bytes-by : (index zone : ℕ) → zone_number super old number index ≡ zone → (hole : Bool) → (zone == 0) ≡ hole → zone_bytes new zone ≡ zone_bytes old zone
        unfolding zone_number
        bytes-by index zone to true hole = rw hole refl
        bytes-by index zone to false hole =
            let some : zone ≢ 0 = λ e. let t = eq-eqb zone 0 e in cc in
            let refers : Refers super old number (block_pointer super.kind index) zone = record { named = named; to = record { kind = zones; place = is_pointer-block super.kind index; is = to; some = some } } in
            let other : zone ≢ changed = λ here. free (block_pointer super.kind index) (subst (Refers super old number (block_pointer super.kind index)) here refers) in
            let same : new.zone zone ≡ old.zone zone = keeps.zones number (block_pointer super.kind index) zone refers other in
            rw hole same

        block-same : (index : ℕ) → block super new number index ≡ block super old number index
        unfolding block
        block-same index =
            ap (zone_bytes new) (zone-same index) ∙ bytes-by index (zone_number super old number index) refl _ refl

        entry-same : (place : ℕ) → entry super new number place ≡ entry super old number place
        unfolding entry
        entry-same place = ap (λ bytes. entry_in super.kind bytes (place % entries_per_block super.kind)) (block-same (place / entries_per_block super.kind))

        blocks-same : (count : ℕ) → blocks (block super new number) count ≡ blocks (block super old number) count
        blocks-same zero = refl
        blocks-same (suc count) = rw (blocks-same count, block-same count) refl

        content-same : content super new number ≡ content super old number
        unfolding content
        content-same =
            ap (λ node. take node.size (blocks (block super new number) (blocks_for node.size))) (keeps.nodes number named)
            ∙ ap (take (old.node number).size) (blocks-same (blocks_for (old.node number).size))

        has_entry-same : (place : ℕ) (what : Entry) → HasEntry super new number place what → HasEntry super old number place what
        has_entry-same place what has = record {
          below = let P : ℕ → Type 0 = λ size. place < places super.kind size in subst P (ap (λ node. node.size) (keeps.nodes number named)) has.below;
          is = sym (entry-same place) ∙ has.is;
        }

        has_entry-kept : (place : ℕ) (what : Entry) → HasEntry super old number place what → HasEntry super new number place what
        has_entry-kept place what has = record {
          below = let P : ℕ → Type 0 = λ size. place < places super.kind size in subst P (sym (ap (λ node. node.size) (keeps.nodes number named))) has.below;
          is = entry-same place ∙ has.is;
        }

      -- and in any case as long
      bytes-long : (index zone : ℕ) → zone_number super old number index ≡ zone → (hole : Bool) → (zone == 0) ≡ hole → (here : Bool) → (zone == changed) ≡ here
          → length (zone_bytes new zone) ≡ length (zone_bytes old zone)
      unfolding zone_number
      bytes-long index zone to true hole here test = rw hole refl
      bytes-long index zone to false hole true test =
          let is : zone ≡ changed = eqb-true zone changed test in
          let some : zone ≢ 0 = λ e. let t = eq-eqb zone 0 e in cc in
          let refers : Refers super old number (block_pointer super.kind index) zone = record { named = named; to = record { kind = zones; place = is_pointer-block super.kind index; is = to; some = some } } in
          let long = keeps.long number (block_pointer super.kind index) (subst (Refers super old number (block_pointer super.kind index)) is refers) in
          rw hole (subst (λ (zone : ℕ). length (new.zone zone) ≡ length (old.zone zone)) (sym is) long)
      bytes-long index zone to false hole false test =
          let some : zone ≢ 0 = λ e. let t = eq-eqb zone 0 e in cc in
          let other : zone ≢ changed = λ e. let t = eq-eqb zone changed e in cc in
          let refers : Refers super old number (block_pointer super.kind index) zone = record { named = named; to = record { kind = zones; place = is_pointer-block super.kind index; is = to; some = some } } in
          rw hole (ap length (keeps.zones number (block_pointer super.kind index) zone refers other))

      block-long : (index : ℕ) → length (block super new number index) ≡ length (block super old number index)
      unfolding block
      block-long index =
          ap (λ zone. length (zone_bytes new zone)) (zone-same index) ∙ bytes-long index (zone_number super old number index) refl _ refl _ refl

      blocks-long : (count : ℕ) → length (blocks (block super new number) count) ≡ length (blocks (block super old number) count)
      blocks-long zero = refl
      blocks-long (suc count) =
          length-append (blocks (block super new number) count) (block super new number count)
          ∙ ap (λ n. n + length (block super new number count)) (blocks-long count)
          ∙ ap (λ n. length (blocks (block super old number) count) + n) (block-long count)
          ∙ sym (length-append (blocks (block super old number) count) (block super old number count))

      content-long : length (content super new number) ≡ length (content super old number)
      unfolding content
      content-long =
          ap (λ node. length (take node.size (blocks (block super new number) (blocks_for node.size)))) (keeps.nodes number named)
          ∙ (length-take (old.node number).size (blocks (block super new number) (blocks_for (old.node number).size))
          ∙ ap (λ n. min (old.node number).size n) (blocks-long (blocks_for (old.node number).size))
          ∙ sym (length-take (old.node number).size (blocks (block super old number) (blocks_for (old.node number).size))))

    directory-zones : is_directory (old.node number) ≡ true → has_zones (old.node number) ≡ true
    directory-zones is = rw is refl

    -- a directory has no data in that zone, nor has a link
    directory-free : is_directory (old.node number) ≡ true → (at : Pointer) → Refers super old number at changed → ⊥
    directory-free is at refers = let off = (keeps.only number at refers).0 in absurd cc

    link-free : is_link (old.node number) ≡ true → (at : Pointer) → Refers super old number at changed → ⊥
    link-free is at refers = let off = (keeps.only number at refers).1.1 in absurd cc

    lookup-by : (name : List ℕ) (directory : Bool) → is_directory (old.node number) ≡ directory → lookup super new name number ≡ lookup super old name number
    unfolding lookup
    lookup-by name false is = rw (keeps.nodes number named, is) refl
    lookup-by name true is =
        let entries : entry super new number ≡ entry super old number = λ i place. entry-same (directory-zones is) (directory-free is) place i in
        rw (keeps.nodes number named, entries) refl

    lookup-same : (name : List ℕ) → lookup super new name number ≡ lookup super old name number
    lookup-same name = lookup-by name _ refl

    -- what it is, where none of its data is there
    file-zones : is_file (old.node number) ≡ true → has_zones (old.node number) ≡ true
    file-zones f = or_left (is_directory (old.node number) || is_file (old.node number)) (is_link (old.node number)) (or_right (is_directory (old.node number)) (is_file (old.node number)) f)

    link-zones : is_link (old.node number) ≡ true → has_zones (old.node number) ≡ true
    link-zones l = or_right (is_directory (old.node number) || is_file (old.node number)) (is_link (old.node number)) l

    module _ (free : (at : Pointer) → Refers super old number at changed → ⊥) where
      thing-by : (file link : Bool) → is_file (old.node number) ≡ file → is_link (old.node number) ≡ link → thing super new number ≡ thing super old number
      unfolding thing
      thing-by true link f l = rw (keeps.nodes number named, f) (ap File (content-same (file-zones f) free))
      thing-by false true f l = rw (keeps.nodes number named, f, l) (ap Link (content-same (link-zones l) free))
      thing-by false false f l = rw (keeps.nodes number named, f, l) refl

      thing-same : thing super new number ≡ thing super old number
      thing-same = thing-by _ _ refl refl

    -- and where some is: a file, of as many bytes
    module _ (at : Pointer) (to : PointsTo super old number at changed) where
      refers-here : Refers super old number at changed
      refers-here = record { named = named; to = to }

      is-file : is_file (old.node number) ≡ true
      is-file =
          let parts = keeps.only number at refers-here in
          only (is_directory (old.node number)) (is_file (old.node number)) (is_link (old.node number)) to.kind parts.0 parts.1.1
        where
          only : (directory file link : Bool) → (directory || file || link) ≡ true → directory ≡ false → link ≡ false → file ≡ true
          only false true false some d l = refl
          only false false false some d l = cc
          only true file link some d l = cc
          only false file true some d l = cc

      thing-old : thing super old number ≡ File (content super old number)
      unfolding thing
      thing-old = rw is-file refl

      thing-new : thing super new number ≡ File (content super new number)
      unfolding thing
      thing-new = rw (keeps.nodes number named, is-file) refl

  -- ---- paths

  then-same : (name : List ℕ) (path : List (List ℕ)) (found : Option ℕ) → reached super old path ≡ found → then_lookup super new name found ≡ then_lookup super old name found
  then-same name path None leads = refl
  then-same name path (Some directory) leads = lookup-same directory (record { path = path; leads = leads }) name

  pub reached-same : (path : List (List ℕ)) → reached super new path ≡ reached super old path
  unfolding reached
  reached-same [] = refl
  reached-same (name ∷ path) = ap (then_lookup super new name) (reached-same path) ∙ then-same name path (reached super old path) refl

  pub reached-old : (path : List (List ℕ)) (number : ℕ) → reached super new path ≡ Some number → reached super old path ≡ Some number
  reached-old path number leads = sym (reached-same path) ∙ leads

  pub named-old : (number : ℕ) → Named super new number → Named super old number
  named-old number named = record { path = named.path; leads = reached-old named.path number named.leads }

  pub named-new : (number : ℕ) → Named super old number → Named super new number
  named-new number named = record { path = named.path; leads = reached-same named.path ∙ named.leads }

  names-by : (path : List (List ℕ)) (found : Option ℕ) → reached super old path ≡ found
      → ((number : ℕ) (at : Pointer) → reached super old path ≡ Some number → PointsTo super old number at changed → ⊥)
      → option_map (thing super new) found ≡ option_map (thing super old) found
  names-by path None leads free = refl
  names-by path (Some number) leads free = ap Some (thing-same number (record { path = path; leads = leads }) (λ at refers. free number at leads refers.to))

  names-same : (path : List (List ℕ)) → ((number : ℕ) (at : Pointer) → reached super old path ≡ Some number → PointsTo super old number at changed → ⊥)
      → names super new path ≡ names super old path
  unfolding names
  names-same path free = ap (option_map (thing super new)) (reached-same path) ∙ names-by path (reached super old path) refl free

  names-file : (path : List (List ℕ)) (number : ℕ) (at : Pointer) → reached super old path ≡ Some number → PointsTo super old number at changed
      → IsFileAgain (names super old path) (names super new path)
  unfolding names
  names-file path number at leads to =
      let named : Named super old number = record { path = path; leads = leads } in
      record {
        before = content super old number;
        after = content super new number;
        was = ap (option_map (thing super old)) leads ∙ ap Some (thing-old number named at to);
        is = ap (option_map (thing super new)) (reached-same path ∙ leads) ∙ ap Some (thing-new number named at to);
        long = content-long number named to.kind;
      }

  all_lead-old : (number : ℕ) (paths : List (List (List ℕ))) → AllLead super new number paths → AllLead super old number paths
  all_lead-old number [] lead = tt
  all_lead-old number (path ∷ paths) lead = (reached-old path number lead.0, all_lead-old number paths lead.1)

  -- ---- references

  -- what holds of the old node of a named inode holds of the new one
  at-node : (P : Inode → Type 0) (number : ℕ) → Named super old number → P (old.node number) → P (new.node number)
  at-node P number named holds = subst P (sym (keeps.nodes number named)) holds

  from-node : (P : Inode → Type 0) (number : ℕ) → Named super old number → P (new.node number) → P (old.node number)
  from-node P number named holds = subst P (keeps.nodes number named) holds

  pub refers-old : (number : ℕ) (at : Pointer) (zone : ℕ) → Refers super new number at zone → Refers super old number at zone
  refers-old number at zone refers =
      let named : Named super old number = named-old number refers.named in
      let zones : has_zones (old.node number) ≡ true = from-node (λ node. has_zones node ≡ true) number named refers.to.kind in
      record { named = named; to = record { kind = zones; place = refers.to.place; is = sym (pointer-same number named zones at refers.to.place) ∙ refers.to.is; some = refers.to.some } }

  pub refers-new : (number : ℕ) (at : Pointer) (zone : ℕ) → Refers super old number at zone → Refers super new number at zone
  refers-new number at zone refers =
      let named : Named super old number = refers.named in
      let zones : has_zones (new.node number) ≡ true = at-node (λ node. has_zones node ≡ true) number named refers.to.kind in
      record { named = named-new number named; to = record { kind = zones; place = refers.to.place; is = pointer-same number named refers.to.kind at refers.to.place ∙ refers.to.is; some = refers.to.some } }

  -- ---- all of it

  module _ (sound : Sound super old) where
    directory-old : (number : ℕ) → Named super old number → is_directory (new.node number) ≡ true → is_directory (old.node number) ≡ true
    directory-old number named is = from-node (λ node. is_directory node ≡ true) number named is

    root-named : Named super old 1
    unfolding reached
    root-named = record { path = []; leads = refl }

    some_entry-new : (directory : ℕ) (what : Entry) → Named super old directory → is_directory (old.node directory) ≡ true → HasSomeEntry super old directory what → HasSomeEntry super new directory what
    some_entry-new directory what named is has = (has.0, has_entry-kept directory named (directory-zones directory named is) (directory-free directory named is) has.0 what has.1)

    sound-new : Sound super new
    sound-new = record {
      root = at-node (λ node. is_directory node ≡ true) 1 root-named sound.root;
      in_range = λ number named. sound.in_range number (named-old number named);
      marked = λ number named. keeps.marks number (named-old number named) ∙ sound.marked number (named-old number named);
      mode = λ number named. at-node (λ node. node.mode ≢ 0) number (named-old number named) (sound.mode number (named-old number named));
      size = λ number named. at-node (λ node. is_size super.kind node.size ≡ true) number (named-old number named) (sound.size number (named-old number named));
      zone_range = λ number at zone refers. sound.zone_range number at zone (refers-old number at zone refers);
      zone_marked = λ number at zone refers. keeps.zone_marks number at zone (refers-old number at zone refers) ∙ sound.zone_marked number at zone (refers-old number at zone refers);
      once = λ number other at there zone one two. sound.once number other at there zone (refers-old number at zone one) (refers-old other there zone two);
      one_name = λ number path other is leads leads'.
          let named : Named super old number = record { path = path; leads = reached-old path number leads } in
          sound.one_name number path other (directory-old number named is) (reached-old path number leads) (reached-old other number leads');
      no_twice = λ directory place other inode inode' name named is some some' one two.
          let named_old = named-old directory named in
          let is_old = directory-old directory named_old is in
          let zones = directory-zones directory named_old is_old in
          sound.no_twice directory place other inode inode' name named_old is_old some some'
          (has_entry-same directory named_old zones (directory-free directory named_old is_old) place (entry_with inode name) one) (has_entry-same directory named_old zones (directory-free directory named_old is_old) other (entry_with inode' name) two);
      here = λ directory named is.
          let named_old = named-old directory named in
          let is_old = directory-old directory named_old is in
          some_entry-new directory (entry_with directory here_name) named_old is_old (sound.here directory named_old is_old);
      root_above = some_entry-new 1 (entry_with 1 above_name) root-named sound.root sound.root_above;
      above = λ directory outer name path leads leads' is.
          let leads_old = reached-old (name ∷ path) directory leads in
          let named_old : Named super old directory = record { path = name ∷ path; leads = leads_old } in
          let is_old = directory-old directory named_old is in
          some_entry-new directory (entry_with outer above_name) named_old is_old (sound.above directory outer name path leads_old (reached-old path outer leads') is_old);
      depth = λ directory path leads is.
          let leads_old = reached-old path directory leads in
          sound.depth directory path leads_old (directory-old directory (record { path = path; leads = leads_old }) is);
      links = links-new;
    }
      where
        links-new : (number : ℕ) (paths : List (List (List ℕ))) → number ≢ 1 → AreDistinct paths → AllLead super new number paths → length paths ≤ (new.node number).links
        links-new number [] other distinct lead = omega arith
        links-new number (path ∷ paths) other distinct lead =
            let named : Named super old number = record { path = path; leads = reached-old path number lead.0 } in
            at-node (λ node. length (path ∷ paths) ≤ node.links) number named (sound.links number (path ∷ paths) other distinct (all_lead-old number (path ∷ paths) lead))

-- for all parts
pub data_law : DataLaw
data_law super old new zone sound keeps = record {
  sound = sound-new super old new zone keeps sound;
  leads = reached-same super old new zone keeps;
  refers_old = refers-old super old new zone keeps;
  refers_new = refers-new super old new zone keeps;
  others = names-same super old new zone keeps;
  file = names-file super old new zone keeps;
}
