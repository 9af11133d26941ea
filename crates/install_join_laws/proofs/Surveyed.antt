-- What was surveyed is apart, settled or not, and is planned as before.
use Rattle.std.proofs.Common.{◌≡◌, ◌≢◌, ℕ, Bool, true, false, if◌then◌else◌, List, [], ◌∷◌, is_some, option_to_list, Option, None, Ok, refl, sym, ◌∙◌, ap, subst}
use Rattle.std.specs.Prelude.{IfSome}
use Rattle.std.specs.List.{AllByRecursion}
use Rattle.lilo_model.specs.Apart.{Apart, initrd_paths, kernel_paths}
use Rattle.lilo_model.specs.Disks.{Image, Machine}
use Rattle.lilo_model.specs.MinixFindNames.{Names}
use Rattle.lilo_model.specs.MinixNames.{names_in}
use Rattle.lilo_model.specs.NamePlaces.{with_tilde}
use Rattle.lilo_model.specs.Settled.{OwnNames, backup_name, stale_backup, settled, is_foreign}
use Rattle.install_laws.specs.InstallVerdict.{Begun}
use Rattle.install_order.specs.Begins.{IsBegun}
use Rattle.install_order.specs.declared.examination.Examined.{Examined}
use Rattle.install_settle.specs.Settles.{stale_of, IsBeside}
use Rattle.install_join_laws.specs.ApartLaws.{HasSettled}
use Rattle.install_join_laws.specs.Plans.{AllPassBy, FailAsIn, FailsAsIn, PassesByOwn, settled_names}
use Rattle.install_join_laws.specs.Surveyed.{BegunPlansLaw, SurveyedApartLaw}
use Rattle.install_join_laws.proofs.Walks.{value-is}
use Rattle.install_join_laws.proofs.Names.{are-replaced}
use Rattle.install_join_laws.proofs.Passing.{passing_law}
use Rattle.install_join_laws.proofs.Plans.{settled_plan_law}
use Rattle.install_join_laws.proofs.Stays.{settled_apart_law}

-- what is beside a forced backup's copy is beside one that is removed
beside-copy : (names : OwnNames) (forced copy : Bool) → (copy ≡ true → forced ≡ true) → (path : List (List ℕ)) → IsBeside names forced path → IsBeside names copy path
beside-copy names forced copy asked path beside = record { map = beside.map; tilde = beside.tilde; stale = by copy asked }
  where
    by : (copy : Bool) → (copy ≡ true → forced ≡ true) → IfSome (stale_of copy names) (λ backup. path ≢ with_tilde backup)
    by true asked = subst (λ (f : Bool). IfSome (stale_of f names) (λ backup. path ≢ with_tilde backup)) (asked refl) beside.stale
    by false asked = tt

module _ (entry : Image) (machine : Machine) (begun : Begun) (found : Examined) (c : Image) (is : IsBegun entry machine begun found c) where
  abbrev Forced : Bool
  Forced = is_some begun.config.force_backup

  -- a backup is made only where the boot sector is another system's
  stale-same : (foreign : Bool) → backup_name (names_in begun.volume entry) begun.config begun.boot foreign ≡ Ok is.names.backup → stale_backup foreign (stale_of Forced is.names) ≡ stale_of Forced is.names
  stale-same true made = refl
  stale-same false made = by Forced
    where
      by : (forced : Bool) → None ≡ (if forced then is.names.backup else None)
      by true = value-is None is.names.backup made
      by false = refl

  pub has-settled : HasSettled begun.volume entry c is.names Forced is.settled.finishes
  has-settled =
      let foreign = is_foreign (entry begun.span.disk begun.span.start) in
      let made = (are-replaced (names_in begun.volume entry) begun.config begun.boot foreign is.names is.are).backup in
      record {
        sound = is.sound;
        has = λ path.
            is.settled.is path
            ∙ ap (λ (s : Option (List (List ℕ))). settled is.settled.finishes is.names.map s (names_in begun.volume entry) path) (stale-same foreign made);
        paths = λ path beside. is.paths path (beside-copy is.names Forced found.settling.copy is.copies path beside);
        file = is.file;
      }

pub surveyed_apart_law : SurveyedApartLaw
surveyed_apart_law image machine begun found on is devices = by on refl
  where
    by : (settled : Bool) → on ≡ settled → Apart image machine begun.volume begun.config begun.boot
    by true same =
        let done = is.is_settled same in
        settled_apart_law is.entry image machine begun.volume begun.config begun.boot (is_foreign (is.entry begun.span.disk begun.span.start)) done.settled.finishes done.names is.examined.sound done.are
        (has-settled is.entry machine begun found image done) devices is.examined.apart
    by false same = subst (λ (c : Image). Apart c machine begun.volume begun.config begun.boot) (sym (is.is_looked_at same)) is.examined.apart

-- ---- what is planned

module _ (image c : Image) (machine : Machine) (begun : Begun) (found : Examined) (is : IsBegun image machine begun found c) where
  abbrev Asked : Bool
  Asked = is_some begun.config.force_backup

  there : HasSettled begun.volume image c is.names Asked is.settled.finishes
  there = has-settled image machine begun found c is

  abbrev At : Names
  At = names_in begun.volume image

  abbrev Then : Names
  Then = settled_names begun.volume image begun.config is.names is.settled.finishes

  each-fails : (texts : List (List ℕ)) → AllByRecursion (PassesByOwn At is.names Asked) texts → AllByRecursion (FailsAsIn At Then) texts
  each-fails [] all = tt
  each-fails (text ∷ texts) all = (
    passing_law image c begun.volume begun.config begun.boot (is_foreign (image begun.span.disk begun.span.start)) is.settled.finishes is.names text
        is.was_sound is.are there all.0,
    each-fails texts all.1,
  )

  fails : AllPassBy At is.names begun.config → FailAsIn At Then begun.config
  fails pass = record {
    install = each-fails (option_to_list begun.config.install) pass.install;
    message = each-fails (option_to_list begun.config.message) pass.message;
    kernels = each-fails (kernel_paths begun.config) pass.kernels;
    initrds = each-fails (initrd_paths begun.config) pass.initrds;
  }

pub begun_plans_law : BegunPlansLaw
begun_plans_law image c machine begun found time is keeps apart pass =
    settled_plan_law image c machine begun.volume begun.config begun.boot begun.span (is_foreign (image begun.span.disk begun.span.start)) is.settled.finishes
    is.names time is.was_sound is.are
    (record { settled = there image c machine begun found is; keeps = is.keeps; gains = is.gains; outside = is.outside })
    keeps apart (fails image c machine begun found is pass)
