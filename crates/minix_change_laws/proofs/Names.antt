-- Names that are made, removed, led elsewhere and changed.
use Rattle.std.proofs.Common.{◌≡◌, ◌≢◌, ℕ, ◌<◌, ◌==◌, ◌⊎◌, Bool, true, false, List, [], ◌∷◌, length, bytes_eq, Some, None, refl, sym, ◌∙◌, ap, subst, arith, inl, inr}
use Rattle.std.proofs.lemmas.Slice.Eq.{bytes_eq-Decides}
use Rattle.lilo_model.specs.MinixLayout.{Super}
use Rattle.lilo_model.specs.MinixParts.{Parts, is_directory}
use Rattle.lilo_model.specs.MinixEntries.{Entry, entry_with, named_inode}
use Rattle.lilo_model.specs.MinixNames.{Directory, entry, lookup, then_lookup, reached, thing, Named, AllLead, IsNew, Sound}
use Rattle.minix_change_laws.specs.Change.{ChangesEntry}
use Rattle.minix_change_laws.proofs.Change.{path-cases}
use Rattle.minix_change_laws.proofs.Entries.{entry_law}
use Rattle.minix_change_laws.specs.Only.{KeepsInode}
use Rattle.minix_change_laws.specs.Comes.{IsFit, MayGo, MayCome, MayChange, SoundAfter}
use Rattle.minix_change_laws.specs.Enter.{MayStand, DirectoryMayStand, MayEnter, MayRemove, MayRename, Becomes, BecomesFree, IsOnlyName, IsLeft}
use Rattle.minix_change_laws.specs.EntryLaws.{NewFileLaw, EnterLaw, EnterDirectoryLaw, RemoveLaw, RedirectLaw, RenameLaw, RemoveLastLaw, RedirectLastLaw}
use Rattle.minix_change_laws.specs.Tree.{TreeWith, TreeMoved}
use Rattle.minix_change_laws.proofs.Inode.{thing-directory, thing-same}
use Rattle.minix_change_laws.proofs.Only.{node-kept, fit_law, file-kept}
use Rattle.minix_change_laws.proofs.Finds.{named-is}
use Rattle.minix_change_laws.proofs.Changed.{changed_law, is-left}
use Rattle.minix_change_laws.proofs.Sees.{named-free}

-- an entry of another name
other-by : (name other : List ℕ) (inode : ℕ) (is_free same : Bool) → (inode == 0) ≡ is_free → bytes_eq other name ≡ same → other ≢ name → named_inode name (entry_with inode other) ≡ None
other-by name other inode true same free is apart = rw free refl
other-by name other inode false true free is apart = absurd (apart ((bytes_eq-Decides other name).0 is))
other-by name other inode false false free is apart = rw (free, is) refl

pub named-other : (name other : List ℕ) (inode : ℕ) → other ≢ name → named_inode name (entry_with inode other) ≡ None
named-other name other inode apart = other-by name other inode _ _ refl refl apart

-- ---- what holds after each change

module _ (super : Super) (old new : Parts) (outer : List (List ℕ)) (directory place : ℕ) (leads : reached super old outer ≡ Some directory) (after : SoundAfter super old new outer directory place) where
  abbrev Was : Entry
  Was = entry super old directory place

  abbrev Now : Entry
  Now = entry super new directory place

  was-name : (name : List ℕ) → reached super old (name ∷ outer) ≡ lookup super old name directory
  unfolding reached
  was-name name = ap (then_lookup super old name) leads

  -- a name of which the entry says what it said
  kept-name : (name : List ℕ) → named_inode name Now ≡ named_inode name Was → reached super new (name ∷ outer) ≡ reached super old (name ∷ outer)
  kept-name name same = after.paths.here name ∙ (after.finds.kept name same ∙ sym (was-name name))

  -- a path that none of the entry's names ends
  other-path : (path : List (List ℕ)) → ((name : List ℕ) → path ≡ name ∷ outer → named_inode name Now ≡ named_inode name Was) → reached super new path ≡ reached super old path
  other-path [] same = after.paths.elsewhere [] (λ name e. cc)
  other-path (name ∷ path) same = by_path (path-cases path outer)
    where
      by_path : (path ≡ outer) ⊎ (path ≢ outer) → reached super new (name ∷ path) ≡ reached super old (name ∷ path)
      by_path (inl is) =
          let P : List (List ℕ) → Type 0 = λ p. reached super new (name ∷ p) ≡ reached super old (name ∷ p) in
          subst P (sym is) (kept-name name (same name (ap (λ p. name ∷ p) is)))
      by_path (inr apart) = after.paths.elsewhere (name ∷ path) (λ other e. apart cc)

-- ---- a new file

unnamed-links : (super : Super) (parts : Parts) (number : ℕ) (paths : List (List (List ℕ))) → (Named super parts number → ⊥) → AllLead super parts number paths → 0 < (parts.node number).links → length paths < (parts.node number).links
unnamed-links super parts number [] unnamed lead some = some
unnamed-links super parts number (path ∷ paths) unnamed lead some = absurd (unnamed (record { path = path; leads = lead.0 }))

pub new_file_law : NewFileLaw
new_file_law super parts number new = record {
  file = new.file;
  fit = record {
    range = new.range;
    marked = new.marked;
    mode = new.mode;
    size = new.size;
    zone_range = new.zone_range;
    zone_marked = new.zone_marked;
    once = new.once;
    apart = λ other at there zone points refers. absurd (new.unused at zone points other there refers);
  };
  links = λ paths distinct lead. unnamed-links super parts number paths new.unnamed lead new.some_link;
}

-- ---- an entry is made

some-number : (super : Super) (parts : Parts) (number : ℕ) → IsFit super parts number → number ≢ 0
some-number super parts number fit = let low = fit.range.0 in λ e. absurd (omega (arith, low, e))

module _ (super : Super) (old new : Parts) (outer : List (List ℕ)) (directory place number : ℕ) (name : List ℕ) (sound : Sound super old) (enter : MayEnter super old outer directory place name) (becomes : Becomes super old new directory place (entry_with number name)) (kept : KeepsInode super old new number) where
  enter-may : MayCome super old new outer directory place (entry_with number name) → MayChange super old new outer directory place
  enter-may come = record {
    only = becomes.only;
    leads = enter.leads;
    goes = λ some. absurd (some enter.free);
    comes = λ some. subst (MayCome super old new outer directory place) (sym becomes.says) come;
  }

  enter-names : MayCome super old new outer directory place (entry_with number name) → number ≢ 0 → TreeWith super old new (name ∷ outer) (Some number) (Some (thing super old number))
  enter-names come some =
      let after = changed_law super old new outer directory place sound (enter-may come) in
      let finds_it : lookup super new name directory ≡ Some number =
      after.finds.changed name enter.plain (inl enter.absent) ∙ (ap (named_inode name) becomes.says ∙ named-is name number some) in
      record {
        sound = after.sound;
        here = after.paths.here name ∙ finds_it;
        is = ap Some (thing-same super old new number (node-kept super old new number kept) kept.zones);
        keeps = after.keeps;
        others = λ other apart. other-path super old new outer directory place enter.leads after other (λ last is.
            ap (named_inode last) becomes.says
            ∙ (named-other last name number (λ same. apart (is ∙ ap (λ n. n ∷ outer) (sym same)))
            ∙ sym (named-free last (entry super old directory place) enter.free)));
      }

  enter-file : MayStand super old number → TreeWith super old new (name ∷ outer) (Some number) (Some (thing super old number))
  enter-file stand = enter-names (record {
    plain = enter.plain;
    alone = inl enter.absent;
    fit = stand.fit;
    kept = kept;
    links = λ paths distinct lead gone. stand.links paths distinct lead;
    fresh = λ is. let file = stand.file in let t = sym is ∙ file in cc;
  }) (some-number super old number stand.fit)

  enter-directory : DirectoryMayStand super old outer directory number → TreeWith super old new (name ∷ outer) (Some number) (Some Directory)
  enter-directory stand = subst (λ what. TreeWith super old new (name ∷ outer) (Some number) (Some what)) (thing-directory super old number stand.is) (enter-names (record {
    plain = enter.plain;
    alone = inl enter.absent;
    fit = stand.fit;
    kept = kept;
    links = λ paths distinct lead gone. unnamed-links super old number paths stand.fresh.unnamed lead stand.some_link;
    fresh = λ is. stand.fresh;
  }) (some-number super old number stand.fit))

pub enter_law : EnterLaw
enter_law super old new outer directory place number name sound enter stand becomes kept =
    enter-file super old new outer directory place number name sound enter becomes kept stand

pub enter_directory_law : EnterDirectoryLaw
enter_directory_law super old new outer directory place number name sound enter stand becomes kept =
    enter-directory super old new outer directory place number name sound enter becomes kept stand

-- ---- an entry was there that is no directory's

module _ (super : Super) (old : Parts) (outer : List (List ℕ)) (directory place number : ℕ) (name : List ℕ) (remove : MayRemove super old outer directory place number name) where
  stood-goes : MayGo old (entry super old directory place)
  stood-goes = subst (MayGo old) (sym remove.stands) (record { plain = remove.plain; file = remove.file })

  named-stood : named_inode name (entry super old directory place) ≢ None
  named-stood none = let t = sym (ap (named_inode name) remove.stands ∙ named-is name number remove.some) ∙ none in cc

-- ---- it is removed

module _ (super : Super) (old new : Parts) (outer : List (List ℕ)) (directory place number : ℕ) (name : List ℕ) (sound : Sound super old) (remove : MayRemove super old outer directory place number name) (becomes : BecomesFree super old new directory place) where
  remove-may : MayChange super old new outer directory place
  remove-may = record {
    only = becomes.only;
    leads = remove.leads;
    goes = λ some. stood-goes super old outer directory place number name remove;
    comes = λ some. absurd (some becomes.free);
  }

  free : (last : List ℕ) → named_inode last (entry super new directory place) ≡ None
  free last = named-free last (entry super new directory place) becomes.free

  remove-names : TreeWith super old new (name ∷ outer) None None
  remove-names =
      let after = changed_law super old new outer directory place sound remove-may in
      let finds_it : lookup super new name directory ≡ None =
      after.finds.changed name remove.plain (inr (named-stood super old outer directory place number name remove)) ∙ free name in
      record {
        sound = after.sound;
        here = after.paths.here name ∙ finds_it;
        is = refl;
        keeps = after.keeps;
        others = λ other apart. other-path super old new outer directory place remove.leads after other (λ last is.
            free last ∙ sym (ap (named_inode last) remove.stands ∙ named-other last name number (λ same. apart (is ∙ ap (λ n. n ∷ outer) (sym same)))));
      }

  remove-left : IsOnlyName super old (name ∷ outer) number → IsLeft super new number
  remove-left last = is-left super old new outer directory place sound remove-may number
      (ap (λ (e : Entry). e.inode) remove.stands)
      (subst (λ n. IsOnlyName super old (n ∷ outer) number) (sym (ap (λ (e : Entry). e.name) remove.stands)) last)
      (λ same. remove.some (sym same ∙ becomes.free))

pub remove_law : RemoveLaw
remove_law super old new outer directory place number name sound remove becomes = remove-names super old new outer directory place number name sound remove becomes

pub remove_last_law : RemoveLastLaw
remove_last_law super old new outer directory place number name sound remove last becomes = remove-left super old new outer directory place number name sound remove becomes last

-- ---- it names another inode

module _ (super : Super) (old new : Parts) (outer : List (List ℕ)) (directory place former number : ℕ) (name : List ℕ) (sound : Sound super old) (remove : MayRemove super old outer directory place former name) (stand : MayStand super old number) (becomes : Becomes super old new directory place (entry_with number name)) (kept : KeepsInode super old new number) where
  had-former : named_inode name (entry super old directory place) ≢ None
  had-former = named-stood super old outer directory place former name remove

  redirect-come : MayCome super old new outer directory place (entry_with number name)
  redirect-come = record {
    plain = remove.plain;
    alone = inr had-former;
    fit = stand.fit;
    kept = kept;
    links = λ paths distinct lead gone. stand.links paths distinct lead;
    fresh = λ is. let file = stand.file in let t = sym is ∙ file in cc;
  }

  redirect-may : MayChange super old new outer directory place
  redirect-may = record {
    only = becomes.only;
    leads = remove.leads;
    goes = λ some. stood-goes super old outer directory place former name remove;
    comes = λ some. subst (MayCome super old new outer directory place) (sym becomes.says) redirect-come;
  }

  redirect-names : TreeWith super old new (name ∷ outer) (Some number) (Some (thing super old number))
  redirect-names =
      let after = changed_law super old new outer directory place sound redirect-may in
      let finds_it : lookup super new name directory ≡ Some number =
      after.finds.changed name remove.plain (inr had-former)
      ∙ (ap (named_inode name) becomes.says ∙ named-is name number (some-number super old number stand.fit)) in
      record {
        sound = after.sound;
        here = after.paths.here name ∙ finds_it;
        is = ap Some (thing-same super old new number (node-kept super old new number kept) kept.zones);
        keeps = after.keeps;
        others = λ other apart. other-path super old new outer directory place remove.leads after other (λ last is.
            let away : name ≢ last = λ same. apart (is ∙ ap (λ n. n ∷ outer) (sym same)) in
            ap (named_inode last) becomes.says ∙ (named-other last name number away
            ∙ sym (ap (named_inode last) remove.stands ∙ named-other last name former away)));
      }

  redirect-left : IsOnlyName super old (name ∷ outer) former → number ≢ former → IsLeft super new former
  redirect-left last apart = is-left super old new outer directory place sound redirect-may former
      (ap (λ (e : Entry). e.inode) remove.stands)
      (subst (λ n. IsOnlyName super old (n ∷ outer) former) (sym (ap (λ (e : Entry). e.name) remove.stands)) last)
      (λ same. apart (ap (λ (e : Entry). e.inode) (sym becomes.says) ∙ same))

pub redirect_law : RedirectLaw
redirect_law super old new outer directory place former number name sound remove stand becomes kept =
    redirect-names super old new outer directory place former number name sound remove stand becomes kept

pub redirect_last_law : RedirectLastLaw
redirect_last_law super old new outer directory place former number name sound remove last stand apart becomes kept =
    redirect-left super old new outer directory place former number name sound remove stand becomes kept last apart

-- ---- it gets another name

module _ (super : Super) (old new : Parts) (outer : List (List ℕ)) (directory place number : ℕ) (former name : List ℕ) (sound : Sound super old) (rename : MayRename super old outer directory place number former name) (becomes : Becomes super old new directory place (entry_with number name)) where
  had : named_inode former (entry super old directory place) ≢ None
  had = named-stood super old outer directory place number former rename.may

  stays : ChangesEntry super old old directory place
  stays = record { named = becomes.only.change.named; is = becomes.only.change.is; below = becomes.only.change.below; node = refl; others = λ other below apart. refl }

  was-found : lookup super old former directory ≡ Some number
  was-found =
      (entry_law super old old directory place sound stays).changed former rename.may.plain (inr had)
      ∙ (ap (named_inode former) rename.may.stands ∙ named-is former number rename.may.some)

  was-reached : reached super old (former ∷ outer) ≡ Some number
  unfolding reached
  was-reached = ap (then_lookup super old former) rename.may.leads ∙ was-found

  -- the two names aren't the same
  apart-names : former ≢ name
  apart-names same = let t = sym was-found ∙ (ap (λ n. lookup super old n directory) same ∙ rename.absent) in cc

  number-named : Named super old number
  number-named = record { path = former ∷ outer; leads = was-reached }

  not-root : number ≢ 1
  not-root same =
      let is : is_directory (old.node number) ≡ true = ap (λ n. is_directory (old.node n)) same ∙ sound.root in
      let file = rename.may.file in
      cc

  come : MayCome super old new outer directory place (entry_with number name)
  come = record {
    plain = rename.plain;
    alone = inl rename.absent;
    fit = fit_law super old number sound number-named;
    kept = file-kept super old new directory place sound becomes.only number number-named rename.may.file;
    links = λ paths distinct lead gone.
        let went : IsNew (former ∷ outer) paths =
        subst (λ (e : Entry). IsNew (e.name ∷ outer) paths) rename.may.stands (gone (λ e. rename.may.some (ap (λ (s : Entry). s.inode) (sym rename.may.stands) ∙ e))) in
        sound.links number ((former ∷ outer) ∷ paths) not-root (went, distinct) (was-reached, lead);
    fresh = λ is. let file = rename.may.file in let t = sym is ∙ file in cc;
  }

  may : MayChange super old new outer directory place
  may = record {
    only = becomes.only;
    leads = rename.may.leads;
    goes = λ some. stood-goes super old outer directory place number former rename.may;
    comes = λ some. subst (MayCome super old new outer directory place) (sym becomes.says) come;
  }

  rename-after : SoundAfter super old new outer directory place
  rename-after = changed_law super old new outer directory place sound may

  now-former : lookup super new former directory ≡ None
  now-former =
      rename-after.finds.changed former rename.may.plain (inr had)
      ∙ (ap (named_inode former) becomes.says ∙ named-other former name number (λ e. apart-names (sym e)))

  now-found : lookup super new name directory ≡ Some number
  now-found = rename-after.finds.changed name rename.plain (inl rename.absent) ∙ (ap (named_inode name) becomes.says ∙ named-is name number rename.may.some)

  rename-names : TreeMoved super old new (former ∷ outer) (name ∷ outer)
  rename-names = record {
    sound = rename-after.sound;
    gone = rename-after.paths.here former ∙ now-former;
    here = rename-after.paths.here name ∙ (now-found ∙ sym was-reached);
    keeps = rename-after.keeps;
    others = λ other apart away. other-path super old new outer directory place rename.may.leads rename-after other (λ last is.
        ap (named_inode last) becomes.says ∙ (named-other last name number (λ same. away (is ∙ ap (λ n. n ∷ outer) (sym same)))
        ∙ sym (ap (named_inode last) rename.may.stands ∙ named-other last former number (λ same. apart (is ∙ ap (λ n. n ∷ outer) (sym same))))));
  }

pub rename_law : RenameLaw
rename_law super old new outer directory place number former name sound rename becomes = rename-names super old new outer directory place number former name sound rename becomes
