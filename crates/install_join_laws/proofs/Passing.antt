-- A path that passes by each name that settling changes comes to the same once they are settled.
use Rattle.std.proofs.Common.{◌≡◌, ℕ, Bool, true, inl, inr, List, is_some, Option, sym, ◌∙◌, ap, subst}
use Rattle.std.specs.Prelude.{◌⊎◌, IfSome}
use Rattle.lilo_model.specs.Disks.{Image}
use Rattle.lilo_model.specs.MinixFindNames.{Names, path_of}
use Rattle.lilo_model.specs.MinixNames.{names_in, IsSound}
use Rattle.lilo_model.specs.MinixParts.{Volume}
use Rattle.lilo_model.specs.NamePlaces.{with_tilde}
use Rattle.lilo_model.specs.Settled.{OwnNames, settled}
use Rattle.install_settle.specs.Settles.{stale_of}
use Rattle.install_join_laws.specs.ApartLaws.{HasSettled}
use Rattle.install_join_laws.specs.Plans.{PassesBy, PassesByOwn, PassingLaw}
use Rattle.install_join_laws.proofs.Entry.{files}
use Rattle.install_join_laws.proofs.Paths.{AreOwnFiles, IsStale, IsSomewhere, somewhere, new-beside, stale-own, alike}
use Rattle.install_join_laws.proofs.Unmet.{unmet-same}
use Rattle.install_join_laws.proofs.Walks.{IsPlain, plain-file}

module _ (volume : Volume) (old c : Image) (names : OwnNames) (forced finishes : Bool) (before : IsSound volume old) (is : HasSettled volume old c names forced finishes)
    (files : AreOwnFiles (names_in volume old) names forced) (text : List ℕ) (passes : PassesByOwn (names_in volume old) names forced text) where
  abbrev Old : Names
  Old = names_in volume old

  abbrev New : Names
  New = names_in volume c

  -- a name that settling changes
  abbrev IsChanged : List (List ℕ) → Type 0
  IsChanged path = (path ≡ names.map) ⊎ ((path ≡ with_tilde names.map) ⊎ IsStale volume old c names forced finishes before is path)

  plain : (path : List (List ℕ)) → IsChanged path → IsPlain (Old path)
  plain path (inl same) = subst (λ (p : List (List ℕ)). IsPlain (Old p)) (sym same) (plain-file (Old names.map) files.map.file)
  plain path (inr (inl same)) = subst (λ (p : List (List ℕ)). IsPlain (Old p)) (sym same) (plain-file (Old (with_tilde names.map)) files.tilde.file)
  plain path (inr (inr stale)) =
      let own = stale-own volume old c names forced finishes before is files stale.0 stale.1 in
      subst (λ (p : List (List ℕ)). IsPlain (Old p)) (sym stale.2) (plain-file (Old (with_tilde stale.0)) own.file)

  passed : (path : List (List ℕ)) → IsChanged path → PassesBy Old text path
  passed path (inl same) = subst (PassesBy Old text) (sym same) passes.map
  passed path (inr (inl same)) = subst (PassesBy Old text) (sym same) passes.tilde
  passed path (inr (inr stale)) =
      subst (PassesBy Old text) (sym stale.2) (subst (λ (o : Option (List (List ℕ))). IfSome o (λ backup. PassesBy Old text (with_tilde backup))) stale.1 passes.stale)

  off : (path : List (List ℕ)) → IsChanged path ⊎ (is_some (New path) ≡ is_some (Old path))
  off path = by (somewhere volume old c names forced finishes before is path)
    where
      by : IsSomewhere volume old c names forced finishes before is path → IsChanged path ⊎ (is_some (New path) ≡ is_some (Old path))
      by (inl same) = inl (inl same)
      by (inr (inl same)) = inl (inr (inl same))
      by (inr (inr (inl stale))) = inl (inr (inr stale))
      by (inr (inr (inr beside))) = inr (ap is_some (new-beside volume old c names forced finishes before is path beside))

  new-path : path_of New true text ≡ path_of Old true text
  new-path = unmet-same Old New IsChanged plain (alike volume old c names forced finishes before is files) off true text passed

  settled-path : path_of (settled finishes names.map (stale_of forced names) Old) true text ≡ path_of Old true text
  settled-path = ap (λ (at : Names). path_of at true text) (λ i path. sym (is.has path) i) ∙ new-path

pub passing_law : PassingLaw
passing_law old c volume config device foreign finishes names text before own is passes fault fails =
    settled-path volume old c names (is_some config.force_backup) finishes before is (files old volume config device foreign names own) text passes ∙ fails
