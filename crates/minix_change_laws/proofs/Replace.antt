-- A name goes or replaces another of the same directory: what that leaves of links and zones.
use Rattle.std.proofs.Common.{◌≡◌, ◌≢◌, ℕ, ◌<◌, true, false, List, [], ◌∷◌, length, Option, Some, None, refl, sym, ◌∙◌, ap, subst, inr, ⊎_elim}
use Rattle.lilo_model.specs.MinixLayout.{Super, Inode}
use Rattle.lilo_model.specs.MinixParts.{Parts, Pointer, is_directory}
use Rattle.lilo_model.specs.MinixEntries.{Entry, entry_with, named_inode, places}
use Rattle.lilo_model.specs.MinixNames.{Thing, entry, lookup, then_lookup, reached, thing, Named, PointsTo, Refers, AllLead, IsNew, AreDistinct, Sound}
use Rattle.minix_change_laws.specs.Change.{ChangesEntry}
use Rattle.minix_change_laws.proofs.Entries.{entry_law}
use Rattle.minix_change_laws.specs.Tree.{TreeWith}
use Rattle.minix_change_laws.specs.Only.{KeepsInode}
use Rattle.minix_change_laws.specs.Comes.{MayGo, MayCome, MayChange, SoundAfter}
use Rattle.minix_change_laws.specs.Enter.{MayRemove, HasLinkMore, IsOnlyName}
use Rattle.minix_change_laws.proofs.Finds.{named-is, outer-leads, leads-by}
use Rattle.minix_change_laws.proofs.Only.{named-node, file-kept, named-above}
use Rattle.minix_change_laws.proofs.Inode.{points-old}
use Rattle.minix_change_laws.proofs.Lists.{lead-new}
use Rattle.minix_change_laws.proofs.Names.{remove_law, redirect_law}
use Rattle.minix_change_laws.proofs.Changed.{changed_law}
use Rattle.minix_change_laws.specs.Replaces.{Replaces}
use Rattle.minix_change_laws.specs.EntryLaws.{StoodLaw, RemoveLowerLaw, ReplaceLaw}

-- ---- where an entry lies its name leads to its inode

module _ (super : Super) (old : Parts) (outer : List (List ℕ)) (directory place number : ℕ) (name : List ℕ) (sound : Sound super old) (stands : MayRemove super old outer directory place number name) (change : ChangesEntry super old old directory place) where
  stood-found : lookup super old name directory ≡ Some number
  stood-found =
      (entry_law super old old directory place sound change).changed name stands.plain (inr (λ none. let t = sym (ap (named_inode name) stands.stands ∙ named-is name number stands.some) ∙ none in cc))
      ∙ (ap (named_inode name) stands.stands ∙ named-is name number stands.some)

  stood-reached : reached super old (name ∷ outer) ≡ Some number
  unfolding reached
  stood-reached = ap (then_lookup super old name) stands.leads ∙ stood-found

  stood-not-root : number ≢ 1
  stood-not-root same =
      let is : is_directory (old.node number) ≡ true = ap (λ n. is_directory (old.node n)) same ∙ sound.root in
      let file = stands.file in
      cc

itself : (super : Super) (parts : Parts) (directory place : ℕ) → Named super parts directory → is_directory (parts.node directory) ≡ true → place < places super.kind (parts.node directory).size → ChangesEntry super parts parts directory place
itself super parts directory place named is below = record { named = named; is = is; below = below; node = refl; others = λ other low apart. refl }

pub stood_law : StoodLaw
stood_law super parts outer directory place number name sound remove below is =
    let stays = itself super parts directory place (record { path = outer; leads = remove.leads }) is below in
    (stood-reached super parts outer directory place number name sound remove stays, stood-not-root super parts outer directory place number name sound remove stays)

-- ---- a link more

-- none of the paths that lead to the inode is the one that leads elsewhere
more-links : (super : Super) (old new : Parts) (path : List (List ℕ)) (found : Option ℕ) (what : Option Thing) (number : ℕ) → Sound super old → TreeWith super old new path found what
    → reached super old path ≡ Some number → number ≢ 1 → found ≢ Some number → HasLinkMore super old new number
more-links super old new path found what number sound tree was other away paths distinct lead =
    let is_new : IsNew path paths = lead-new super new number path paths (λ leads. away (sym tree.here ∙ leads)) lead in
    sound.links number (path ∷ paths) other (is_new, distinct) (was, all-was paths is_new lead)
  where
    all-was : (some : List (List (List ℕ))) → IsNew path some → AllLead super new number some → AllLead super old number some
    all-was [] apart lead = tt
    all-was (one ∷ some) apart lead = (sym (tree.others one (λ same. apart.0 (sym same))) ∙ lead.0, all-was some apart.1 lead.1)

pub remove_lower_law : RemoveLowerLaw
remove_lower_law super old new outer directory place number name sound remove becomes =
    let stood = stood_law super old outer directory place number name sound remove becomes.only.change.below becomes.only.change.is in
    more-links super old new (name ∷ outer) None None number sound (remove_law super old new outer directory place number name sound remove becomes) stood.0 stood.1 (λ e. cc)

-- ---- a name replaces another

module _ (super : Super) (old mid new : Parts) (outer : List (List ℕ)) (directory to_place from_place former number : ℕ) (to from : List ℕ) (sound : Sound super old)
    (r : Replaces super old mid new outer directory to_place from_place former number to from) where
  places-apart : from_place ≢ to_place
  places-apart same =
      let one : entry_with number from ≡ entry_with former to = sym r.moves.stands ∙ (ap (entry super old directory) same ∙ r.goes.stands) in
      r.names (ap (λ (e : Entry). e.name) one)

  from-below : from_place < places super.kind (old.node directory).size
  from-below = subst (λ node. from_place < places super.kind node.size) r.first.only.change.node r.second.only.change.below

  stays : ChangesEntry super old old directory from_place
  stays = record { named = r.first.only.change.named; is = r.first.only.change.is; below = from-below; node = refl; others = λ other below apart. refl }

  to-stays : ChangesEntry super old old directory to_place
  to-stays = record { named = r.first.only.change.named; is = r.first.only.change.is; below = r.first.only.change.below; node = refl; others = λ other below apart. refl }

  number-named : Named super old number
  number-named = record { path = from ∷ outer; leads = stood-reached super old outer directory from_place number from sound r.moves stays }

  kept : KeepsInode super old mid number
  kept = file-kept super old mid directory to_place sound r.first.only number number-named r.moves.file

  both : TreeWith super old mid (to ∷ outer) (Some number) (Some (thing super old number))
  both = redirect_law super old mid outer directory to_place former number to sound r.goes r.stands r.first kept

  goes-had : named_inode to (entry super old directory to_place) ≢ None
  goes-had none = let t = sym (ap (named_inode to) r.goes.stands ∙ named-is to former r.goes.some) ∙ none in cc

  come : MayCome super old mid outer directory to_place (entry_with number to)
  come = record {
    plain = r.goes.plain;
    alone = inr goes-had;
    fit = r.stands.fit;
    kept = kept;
    links = λ paths distinct lead gone. r.stands.links paths distinct lead;
    fresh = λ is. let file = r.stands.file in let t = sym is ∙ file in cc;
  }

  may : MayChange super old mid outer directory to_place
  may = record {
    only = r.first.only;
    leads = r.goes.leads;
    goes = λ some. subst (MayGo old) (sym r.goes.stands) (record { plain = r.goes.plain; file = r.goes.file });
    comes = λ some. subst (MayCome super old mid outer directory to_place) (sym r.first.says) come;
  }

  sound-mid : Sound super mid
  sound-mid = both.sound

  moves-mid : MayRemove super mid outer directory from_place number from
  moves-mid = record {
    leads = outer-leads super old mid outer directory to_place sound may;
    plain = r.moves.plain;
    some = r.moves.some;
    stands = r.first.only.change.others from_place from-below places-apart ∙ r.moves.stands;
    file = subst (λ node. is_directory node ≡ false) (sym kept.node) r.moves.file;
  }

  gone : TreeWith super mid new (from ∷ outer) None None
  gone = remove_law super mid new outer directory from_place number from sound-mid moves-mid r.second

  may-mid : MayChange super mid new outer directory from_place
  may-mid = record {
    only = r.second.only;
    leads = moves-mid.leads;
    goes = λ some. subst (MayGo mid) (sym moves-mid.stands) (record { plain = moves-mid.plain; file = moves-mid.file });
    comes = λ some. absurd (some r.second.free);
  }

  -- what leads somewhere in the end led there in between, and isn't the name that went
  led-mid : (path : List (List ℕ)) (n : ℕ) → reached super new path ≡ Some n → reached super mid path ≡ Some n
  led-mid path n leads = ⊎_elim (λ was. was) (λ anew. absurd (anew.some r.second.free)) (leads-by super mid new outer directory from_place sound-mid may-mid path n leads)

  all-mid : (n : ℕ) (paths : List (List (List ℕ))) → AllLead super new n paths → AllLead super mid n paths
  all-mid n [] lead = tt
  all-mid n (path ∷ paths) lead = (led-mid path n lead.0, all-mid n paths lead.1)

  -- and where it isn't the inode that was moved, it led there before
  led-old : (path : List (List ℕ)) (n : ℕ) → n ≢ number → reached super mid path ≡ Some n → reached super old path ≡ Some n
  led-old path n apart leads =
      ⊎_elim (λ was. was) (λ anew. absurd (apart (anew.is ∙ ap (λ (e : Entry). e.inode) r.first.says))) (leads-by super old mid outer directory to_place sound may path n leads)

  all-old : (n : ℕ) (paths : List (List (List ℕ))) → n ≢ number → AllLead super mid n paths → AllLead super old n paths
  all-old n [] apart lead = tt
  all-old n (path ∷ paths) apart lead = (led-old path n apart lead.0, all-old n paths apart lead.1)

  -- ---- links

  mid-stays : ChangesEntry super mid mid directory from_place
  mid-stays = record { named = r.second.only.change.named; is = r.second.only.change.is; below = r.second.only.change.below; node = refl; others = λ other below apart. refl }

  mid-from : reached super mid (from ∷ outer) ≡ Some number
  mid-from = stood-reached super mid outer directory from_place number from sound-mid moves-mid mid-stays

  gone-from : (n : ℕ) → reached super new (from ∷ outer) ≢ Some n
  gone-from n leads = let t = sym leads ∙ gone.here in cc

  lower : (paths : List (List (List ℕ))) → AreDistinct paths → AllLead super new number paths → length paths < (old.node number).links
  lower paths distinct lead =
      let is_new : IsNew (from ∷ outer) paths = lead-new super new number (from ∷ outer) paths (gone-from number) lead in
      let not_root = stood-not-root super old outer directory from_place number from sound r.moves stays in
      subst (λ (node : Inode). length paths < node.links) kept.node (sound-mid.links number ((from ∷ outer) ∷ paths) not_root (is_new, distinct) (mid-from, all-mid number paths lead))

  old-to : reached super old (to ∷ outer) ≡ Some former
  old-to = stood-reached super old outer directory to_place former to sound r.goes to-stays

  mid-to : reached super mid (to ∷ outer) ≢ Some former
  mid-to leads =
      ⊎_elim (λ was. away was) (λ anew. r.inodes (sym (anew.is ∙ ap (λ (e : Entry). e.inode) r.first.says))) (leads-by super old mid outer directory to_place sound may (to ∷ outer) former leads)
    where
      after : SoundAfter super old mid outer directory to_place
      after = changed_law super old mid outer directory to_place sound may

      leads-now : reached super mid (to ∷ outer) ≡ Some number
      leads-now = after.paths.here to ∙ (after.finds.changed to r.goes.plain (inr goes-had) ∙ (ap (named_inode to) r.first.says ∙ named-is to number r.moves.some))

      away : reached super old (to ∷ outer) ≡ Some former → ⊥
      away was = let t = sym leads ∙ leads-now in r.inodes (sym cc)

  former-lower : (paths : List (List (List ℕ))) → AreDistinct paths → AllLead super new former paths → length paths < (old.node former).links
  former-lower paths distinct lead =
      let apart : former ≢ number = λ same. r.inodes (sym same) in
      let in_mid = all-mid former paths lead in
      let is_new : IsNew (to ∷ outer) paths = lead-new super mid former (to ∷ outer) paths mid-to in_mid in
      let not_root = stood-not-root super old outer directory to_place former to sound r.goes to-stays in
      sound.links former ((to ∷ outer) ∷ paths) not_root (is_new, distinct) (old-to, all-old former paths apart in_mid)

  -- ---- the last name

  module _ (last : IsOnlyName super old (to ∷ outer) former) where
    unnamed : Named super new former → ⊥
    unnamed named =
        let in_mid = led-mid named.path former named.leads in
        let in_old = led-old named.path former (λ same. r.inodes (sym same)) in_mid in
        mid-to (subst (λ path. reached super mid path ≡ Some former) (last.only named.path in_old) in_mid)

    named-old : (n : ℕ) → Named super mid n → Named super old n
    named-old n named =
        ⊎_elim (λ was. record { path = named.path; leads = was })
        (λ anew. subst (Named super old) (sym (anew.is ∙ ap (λ (e : Entry). e.inode) r.first.says)) number-named)
        (leads-by super old mid outer directory to_place sound may named.path n named.leads)

    unused : (at : Pointer) (zone : ℕ) → PointsTo super old former at zone → (other : ℕ) (there : Pointer) → Refers super new other there zone → ⊥
    unused at zone to_zone other there refers =
        let in_mid : Named super mid other = record { path = refers.named.path; leads = led-mid refers.named.path other refers.named.leads } in
        let in_old : Named super old other = named-old other in_mid in
        let points_mid : PointsTo super mid other there zone = points-old super mid new other (named-node super mid new directory from_place sound-mid r.second.only other in_mid).numbers (named-above super mid new directory from_place sound-mid r.second.only other in_mid) there zone refers.to in
        let points_old : PointsTo super old other there zone = points-old super old mid other (named-node super old mid directory to_place sound r.first.only other in_old).numbers (named-above super old mid directory to_place sound r.first.only other in_old) there zone points_mid in
        let former_named : Named super old former = record { path = to ∷ outer; leads = old-to } in
        let one = sound.once former other at there zone (record { named = former_named; to = to_zone }) (record { named = in_old; to = points_old }) in
        unnamed (subst (Named super new) (sym one.0) refers.named)

pub replace_law : ReplaceLaw
replace_law super old mid new outer directory to_place from_place former number to from sound r = record {
  both = both super old mid new outer directory to_place from_place former number to from sound r;
  gone = gone super old mid new outer directory to_place from_place former number to from sound r;
  lower = lower super old mid new outer directory to_place from_place former number to from sound r;
  former_lower = former-lower super old mid new outer directory to_place from_place former number to from sound r;
  unnamed = unnamed super old mid new outer directory to_place from_place former number to from sound r;
  unused = unused super old mid new outer directory to_place from_place former number to from sound r;
}
