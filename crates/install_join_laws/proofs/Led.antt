-- A path that leads to no guarded name leads where it led once settling is done, where it led somewhere or fails as it did.
use Rattle.std.proofs.Common.{◌≡◌, ℕ, Bool, true, inl, inr, List, is_some, Option, Some, Result, Ok, Err, refl, sym, ◌∙◌, ap, subst}
use Rattle.std.specs.Prelude.{IfSome}
use Rattle.lilo_model.specs.Apart.{is_apart_path}
use Rattle.lilo_model.specs.Disks.{Image}
use Rattle.lilo_model.specs.MinixFind.{TreeFault, find_in}
use Rattle.lilo_model.specs.MinixFindNames.{Names, path_of}
use Rattle.lilo_model.specs.MinixNames.{Thing, Named, names_in, reached, IsSound}
use Rattle.lilo_model.specs.MinixParts.{Volume, parts_of}
use Rattle.lilo_model.specs.NamePlaces.{with_tilde}
use Rattle.lilo_model.specs.Settled.{OwnNames, settled}
use Rattle.install_settle.specs.Settles.{stale_of}
use Rattle.install_join_laws.specs.ApartLaws.{HasSettled}
use Rattle.install_join_laws.specs.Plans.{FailsAsIn}
use Rattle.install_join_laws.proofs.Leads.{leads-some, ends-find, find-ends, ends-fails, find-fails}
use Rattle.install_join_laws.proofs.Paths.{AreOwnFiles, IsSomewhere, somewhere, new-beside, stale-own, alike, no-end}
use Rattle.install_join_laws.proofs.Walks.{AreAlike, path-too}

module _ (volume : Volume) (old c : Image) (names : OwnNames) (forced finishes : Bool) (before : IsSound volume old) (is : HasSettled volume old c names forced finishes)
    (files : AreOwnFiles (names_in volume old) names forced) (text : List ℕ) (from-map : is_apart_path old volume text names.map ≡ true) (from-tilde : is_apart_path old volume text (with_tilde names.map) ≡ true)
    (from-stale : IfSome (stale_of forced names) (λ backup. is_apart_path old volume text (with_tilde backup) ≡ true)) where
  abbrev Old : Names
  Old = names_in volume old

  abbrev New : Names
  New = names_in volume c

  abbrev Was : List (List ℕ) → Option ℕ
  Was path = reached volume.layout (parts_of volume old) path

  abbrev Now : List (List ℕ) → Option ℕ
  Now path = reached volume.layout (parts_of volume c) path

  the-same : AreAlike Old New
  the-same = alike volume old c names forced finishes before is files

  no-change : AreAlike Old Old
  no-change = record { directories = λ path. refl; links = λ path. refl }

  -- a path that leads to an inode leads to it still, by the same names
  pub record Leads (number : ℕ) : Type 0 where
    pub path : List (List ℕ)
    pub was : Was path ≡ Some number
    pub now : Now path ≡ Some number
    pub found : find_in c volume text ≡ Ok number

  pub leads : (number : ℕ) → find_in old volume text ≡ Ok number → Leads number
  leads number found =
      let end = find-ends volume old before text number found in
      by end.0 end.1 end.2 (somewhere volume old c names forced finishes before is end.0)
    where
      ends-not : (path other : List (List ℕ)) → path_of Old true text ≡ Ok path → path ≡ other → path_of Old true text ≡ Ok other
      ends-not path other ends same = ends ∙ ap Ok same

      by : (path : List (List ℕ)) → path_of Old true text ≡ Ok path → Was path ≡ Some number → IsSomewhere volume old c names forced finishes before is path → Leads number
      by path ends leads (inl same) =
          absurd (no-end volume old c names forced finishes before is files Old no-change text names.map files.map from-map (ends-not path names.map ends same))
      by path ends leads (inr (inl same)) =
          absurd (no-end volume old c names forced finishes before is files Old no-change text (with_tilde names.map) files.tilde from-tilde (ends-not path (with_tilde names.map) ends same))
      by path ends leads (inr (inr (inl stale))) =
          let apart = subst (λ (o : Option (List (List ℕ))). IfSome o (λ backup. is_apart_path old volume text (with_tilde backup) ≡ true)) stale.1 from-stale in
          let own = stale-own volume old c names forced finishes before is files stale.0 stale.1 in
          absurd (no-end volume old c names forced finishes before is files Old no-change text (with_tilde stale.0) own apart (ends-not path (with_tilde stale.0) ends stale.2))
      by path ends leads (inr (inr (inr beside))) =
          let some : is_some (New path) ≡ true = subst (λ (o : Option Thing). is_some o ≡ true) (sym (new-beside volume old c names forced finishes before is path beside)) (leads-some volume old path number leads) in
          let end = ends-find volume c is.sound text path (path-too Old New the-same true text path ends some) in
          let now : Now path ≡ Some number = (is.paths path beside).leads ∙ leads in
          let one : end.0 ≡ number = let both : Some end.0 ≡ Some number = sym end.2 ∙ now in cc in
          record { path = path; was = leads; now = now; found = end.1 ∙ ap Ok one }

  pub named : (number : ℕ) → find_in old volume text ≡ Ok number → Named volume.layout (parts_of volume old) number × Named volume.layout (parts_of volume c) number
  named number found =
      let led = leads number found in
      (record { path = led.path; leads = led.was }, record { path = led.path; leads = led.now })

  -- where it fails as it did over the settled Names, it leads where it led
  abbrev Settled : Names
  Settled = settled finishes names.map (stale_of forced names) Old

  new-is : New ≡ Settled
  new-is = λ i path. is.has path i

  pub led-same : FailsAsIn Old Settled text → find_in c volume text ≡ find_in old volume text
  led-same fails = by (find_in old volume text) refl
    where
      by : (found : Result ℕ TreeFault) → find_in old volume text ≡ found → find_in c volume text ≡ find_in old volume text
      by (Ok number) found = (leads number found).found ∙ sym found
      by (Err fault) found =
          let settled-fails = fails fault (find-fails volume old before text fault found) in
          ends-fails volume c is.sound text fault (ap (λ (at : Names). path_of at true text) new-is ∙ settled-fails) ∙ sym found
