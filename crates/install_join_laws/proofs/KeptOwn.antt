-- The names that an installation replaces: which of them differ, and what is at a name in an image that a beginning leaves.
use Rattle.std.proofs.Common.{◌≡◌, ◌≢◌, ◌⊎◌, ℕ, Bool, true, false, if◌then◌else◌, inl, inr, is_some, List, Option, None, Some, Ok, refl, sym, ◌∙◌, ap, subst}
use Rattle.std.specs.Prelude.{IfSome}
use Rattle.lilo_model.specs.Disks.{Image, Machine}
use Rattle.lilo_model.specs.MinixFindNames.{Names}
use Rattle.lilo_model.specs.MinixNames.{names_in}
use Rattle.lilo_model.specs.NamePlaces.{backup_path, same_path, with_tilde}
use Rattle.lilo_model.specs.Settled.{Finishes, OwnNames, backup_name, is_foreign, settled, stale_backup}
use Rattle.minix_names.proofs.PathLemmas.{name-here, same-is}
use Rattle.install_join_laws.proofs.Names.{AreReplaced, IsBackup, are-replaced, backup-by, is-placed}
use Rattle.install_join_laws.proofs.Walks.{value-is}
use Rattle.install_stage_laws.specs.BeginLaws.{IsNoneOfMap}
use Rattle.install_laws.specs.InstallVerdict.{Begun}
use Rattle.install_order.specs.Begins.{AreApartNames, AreOwn, IsBeginning, IsOnTheWay, LiesThere}
use Rattle.install_settle.specs.Found.{IsApartCopy}
use Rattle.install_settle.specs.Settles.{AreSettling, HasNames, IsBeside, finishes, stale_of}
use Rattle.install_settle.specs.declared.settling.LeftMap.{LeftMap}
use Rattle.install_settle.proofs.NamesLemmas.{apart-of}
use Rattle.install_settle.proofs.PathLemmas.{stale-copy, tilde-differs}
use Rattle.install_join_laws.specs.Kept.{IsAsBefore, IsAsSettled, IsFile, Keeps, KeepsUnstaged}
use Rattle.install_join_laws.proofs.KeptNames.{finished-map, plainly, settled-beside, stale-other, with-other}

module _ (image : Image) (machine : Machine) (begun : Begun) (names : OwnNames) (own : AreOwn image begun names) where
  abbrev Old : Names
  Old = names_in begun.volume image

  abbrev Forced : Bool
  Forced = is_some begun.config.force_backup

  abbrev Foreign : Bool
  Foreign = is_foreign (image begun.span.disk begun.span.start)

  abbrev Stale : Option (List (List ℕ))
  Stale = stale_of Forced names

  -- ---- names that differ

  replaced : AreReplaced Old begun.config begun.boot Foreign names own
  replaced = are-replaced Old begun.config begun.boot Foreign names own

  pub map-differs : names.map ≢ with_tilde names.map
  map-differs =
      let placed = is-placed Old begun.config.map names.map replaced.map.place in
      tilde-differs names.map placed.name placed.above placed.is

  pub backup-differs : IfSome names.backup (λ backup. backup ≢ with_tilde backup)
  backup-differs = by (backup-by Old begun.config begun.boot Foreign names.backup replaced.backup)
    where
      by : (names.backup ≡ None) ⊎ IsBackup Old begun.config begun.boot names.backup → IfSome names.backup (λ backup. backup ≢ with_tilde backup)
      by (inl none) = subst (λ (o : Option (List (List ℕ))). IfSome o (λ backup. backup ≢ with_tilde backup)) (sym none) tt
      by (inr some) =
          let placed = is-placed Old (backup_path begun.config begun.boot) some.path some.replaced.place in
          subst (λ (o : Option (List (List ℕ))). IfSome o (λ backup. backup ≢ with_tilde backup)) (sym some.is) (tilde-differs some.path placed.name placed.above placed.is)

  -- a backup is made only where the boot sector is another system's
  stale-by : (foreign : Bool) → backup_name Old begun.config begun.boot foreign ≡ Ok names.backup → stale_backup foreign Stale ≡ Stale
  stale-by true made = refl
  stale-by false made = by Forced
    where
      by : (forced : Bool) → None ≡ (if forced then names.backup else None)
      by true = value-is None names.backup made
      by false = refl

  pub stale-same : stale_backup Foreign Stale ≡ Stale
  stale-same = stale-by Foreign replaced.backup

  -- a stale copy is that of the backup
  pub stale-is : (backup : List (List ℕ)) → Stale ≡ Some backup → names.backup ≡ Some backup
  stale-is backup stale = stale-copy names Forced true backup refl stale

  pub copy-apart : IsApartCopy names → (backup : List (List ℕ)) → Stale ≡ Some backup → (with_tilde backup ≢ with_tilde names.map) × (with_tilde backup ≢ names.map)
  copy-apart apart backup stale = subst (λ (o : Option (List (List ℕ))). IfSome o (λ backup. (with_tilde backup ≢ with_tilde names.map) × (with_tilde backup ≢ names.map))) (stale-is backup stale) apart

  pub map-no-stale : IsApartCopy names → IfSome Stale (λ backup. names.map ≢ with_tilde backup)
  map-no-stale apart = by Stale refl
    where
      by : (stale : Option (List (List ℕ))) → Stale ≡ stale → IfSome stale (λ backup. names.map ≢ with_tilde backup)
      by None is = tt
      by (Some backup) is = λ same. (copy-apart apart backup is).1 (sym same)

  -- ---- Settled

  pub as-settled : (done : Bool) → Finishes image machine begun.volume begun.span names.map done → (c : Image) (name : List (List ℕ)) → names_in begun.volume c name ≡ settled done names.map Stale Old name
      → IsAsSettled image machine begun names c name
  as-settled done holder c name is = record {
    after = settled done names.map (stale_backup Foreign Stale) Old;
    settled = record { finishes = done; holder = holder; is = λ n. refl };
    is = is ∙ ap (λ (s : Option (List (List ℕ))). settled done names.map s Old name) (sym stale-same);
  }

  -- ---- an image on the way there

  module _ (c : Image) (left : LeftMap) (holder : Finishes image machine begun.volume begun.span names.map (finishes left)) where
    settling-other : AreSettling begun.volume image names Forced left c → (name : List (List ℕ)) → IsBeside names Forced name → IsAsBefore begun.volume image c name
    settling-other (inl has) name beside = has name
    settling-other (inr (inl both)) name beside = both.1 name ∙ with-other names.map name (Old (with_tilde names.map)) Old beside.map
    settling-other (inr (inr (inl has))) name beside = has name ∙ settled-beside (finishes left) names.map None Old name beside.map beside.tilde tt
    settling-other (inr (inr (inr has))) name beside = has name ∙ settled-beside (finishes left) names.map Stale Old name beside.map beside.tilde beside.stale

    abbrev IsEither : List (List ℕ) → Type 0
    IsEither name = IsAsBefore begun.volume image c name ⊎ IsAsSettled image machine begun names c name

    settling-own : IsApartCopy names → AreSettling begun.volume image names Forced left c → (name : List (List ℕ)) → IsEither name
    settling-own apart (inl has) name = inl (has name)
    settling-own apart (inr (inl both)) name = by (same_path names.map name) refl
      where
        by : (same : Bool) → same_path names.map name ≡ same → IsEither name
        by true same =
            let at : names.map ≡ name = same-is names.map name same in
            inr (subst (IsAsSettled image machine begun names c) at
            (as-settled true (subst (Finishes image machine begun.volume begun.span names.map) both.0 holder) c names.map
            (both.1 names.map ∙ (name-here names.map (Old (with_tilde names.map)) Old ∙ sym (finished-map names.map Stale Old map-differs (map-no-stale apart))))))
        by false same = inl (both.1 name ∙ with-other names.map name (Old (with_tilde names.map)) Old (apart-of names.map name same))
    settling-own apart (inr (inr (inl has))) name = by Stale refl
      where
        by : (stale : Option (List (List ℕ))) → Stale ≡ stale → IsEither name
        by None is = inr (as-settled (finishes left) holder c name (has name ∙ ap (λ (s : Option (List (List ℕ))). settled (finishes left) names.map s Old name) (sym is)))
        by (Some backup) is = at (same_path (with_tilde backup) name) refl
          where
            at : (same : Bool) → same_path (with_tilde backup) name ≡ same → IsEither name
            at true same =
                let here : with_tilde backup ≡ name = same-is (with_tilde backup) name same in
                let other = copy-apart apart backup is in
                inl (subst (IsAsBefore begun.volume image c) here
                (has (with_tilde backup) ∙ settled-beside (finishes left) names.map None Old (with_tilde backup) other.1 other.0 tt))
            at false same =
                inr (as-settled (finishes left) holder c name
                (has name ∙ (sym (stale-other (Some backup) (plainly (finishes left) names.map Old) name (apart-of (with_tilde backup) name same))
                ∙ ap (λ (s : Option (List (List ℕ))). settled (finishes left) names.map s Old name) (sym is))))
    settling-own apart (inr (inr (inr has))) name = inr (as-settled (finishes left) holder c name (has name))

  -- ---- where the names are apart

  module _ (apart : AreApartNames names) where
    pub apart-copies : IsApartCopy names
    apart-copies = by names.backup apart
      where
        by : (backup : Option (List (List ℕ))) → IfSome backup (λ path. IsNoneOfMap names.map path × IsNoneOfMap names.map (with_tilde path)) → IfSome backup (λ path. IsNoneOfMap names.map (with_tilde path))
        by None apart = tt
        by (Some path) apart = apart.1

    -- settling doesn't change the backup
    pub backup-beside : IfSome names.backup (IsBeside names Forced)
    backup-beside = by names.backup refl apart backup-differs
      where
        by : (backup : Option (List (List ℕ))) → names.backup ≡ backup → IfSome backup (λ path. IsNoneOfMap names.map path × IsNoneOfMap names.map (with_tilde path))
            → IfSome backup (λ path. path ≢ with_tilde path) → IfSome backup (IsBeside names Forced)
        by None is apart differs = tt
        by (Some path) is apart differs = record { map = apart.0.1; tilde = apart.0.0; stale = at Forced }
          where
            at : (forced : Bool) → IfSome (stale_of forced names) (λ backup. path ≢ with_tilde backup)
            at true = subst (λ (o : Option (List (List ℕ))). IfSome o (λ backup. path ≢ with_tilde backup)) (sym is) differs
            at false = tt

  -- ---- an image that a beginning leaves

  pub kept-unstaged : LiesThere image machine begun → (c : Image) → IsBeginning image machine begun c → KeepsUnstaged image machine begun names c
  kept-unstaged there c b = record {
    sound = b.sound;
    others = λ name beside. other name beside b.names;
    own = λ name. either name b.names;
    backup = at b.names;
    held = b.held there names own;
  }
    where
      same : (way : IsOnTheWay image machine begun c) → way.names ≡ names
      same way = value-is way.names names (sym way.are ∙ own)

      apart-there : (way : IsOnTheWay image machine begun c) → AreApartNames names
      apart-there way = subst AreApartNames (same way) way.apart

      holds : (way : IsOnTheWay image machine begun c) → Finishes image machine begun.volume begun.span names.map (finishes way.left)
      holds way = subst (λ (n : OwnNames). Finishes image machine begun.volume begun.span n.map (finishes way.left)) (same way) way.holder

      has : (way : IsOnTheWay image machine begun c) → AreSettling begun.volume image names Forced way.left c
      has way = subst (λ (n : OwnNames). AreSettling begun.volume image n Forced way.left c) (same way) way.has

      other : (name : List (List ℕ)) → IsBeside names Forced name → HasNames begun.volume c Old ⊎ IsOnTheWay image machine begun c → IsAsBefore begun.volume image c name
      other name beside (inl before) = before name
      other name beside (inr way) = settling-other c way.left (holds way) (has way) name beside

      either : (name : List (List ℕ)) → HasNames begun.volume c Old ⊎ IsOnTheWay image machine begun c
          → IsAsBefore begun.volume image c name ⊎ IsAsSettled image machine begun names c name
      either name (inl before) = inl (before name)
      either name (inr way) = settling-own c way.left (holds way) (apart-copies (apart-there way)) (has way) name

      each : (backup : Option (List (List ℕ))) (P Q : List (List ℕ) → Type 0) → ((path : List (List ℕ)) → P path → Q path) → IfSome backup P → IfSome backup Q
      each None P Q from holds = tt
      each (Some path) P Q from holds = from path holds

      itself : (backup : Option (List (List ℕ))) → IfSome backup (λ path. path ≡ path)
      itself None = tt
      itself (Some path) = refl

      at : HasNames begun.volume c Old ⊎ IsOnTheWay image machine begun c → IfSome names.backup (IsAsBefore begun.volume image c)
      at (inl before) = each names.backup (λ path. path ≡ path) (IsAsBefore begun.volume image c) (λ path here. before path) (itself names.backup)
      at (inr way) =
          each names.backup (IsBeside names Forced) (IsAsBefore begun.volume image c) (λ path beside. other path beside (inr way)) (backup-beside (apart-there way))

  -- what is kept until then is kept at every moment
  pub kept-then : (bytes : List ℕ) (c : Image) → KeepsUnstaged image machine begun names c → Keeps image machine begun names bytes c
  kept-then bytes c k = record {
    sound = k.sound;
    others = λ name other. k.others name other.beside;
    map = by (k.own names.map);
    backup = each names.backup k.backup;
    held = k.held;
  }
    where
      by : IsAsBefore begun.volume image c names.map ⊎ IsAsSettled image machine begun names c names.map
          → IsAsBefore begun.volume image c names.map ⊎ (IsAsSettled image machine begun names c names.map ⊎ IsFile begun.volume c bytes names.map)
      by (inl before) = inl before
      by (inr settled-is) = inr (inl settled-is)

      each : (backup : Option (List (List ℕ))) → IfSome backup (IsAsBefore begun.volume image c)
          → IfSome backup (λ path. IsAsBefore begun.volume image c path ⊎ IsFile begun.volume c (image begun.span.disk begun.span.start) path)
      each None before = tt
      each (Some path) before = inl before
