-- What an installation keeps of names until its commit.
use Rattle.std.proofs.Common.{◌≡◌, ◌≢◌, ◌⊎◌, ℕ, Bool, inl, inr, is_some, List, Option, None, Some, Result, Err, refl, sym, ◌∙◌, ap, subst, subst₂}
use Rattle.std.specs.Prelude.{IfSome}
use Rattle.disk_trait.specs.declared.disks.Disks.{Ghosts}
use Rattle.disk_trait.specs.declared.disks.Span as spans
use Rattle.disk_trait.specs.Moments.{IsTold, now, IsQuiet, LeavesOnly}
use Rattle.disk_trait.specs.Past.{Past}
use Rattle.disk_trait.proofs.MomentLemmas.{leaves_join, leaves_weaker}
use Rattle.lilo_model.specs.Disks.{Image, Machine, Span}
use Rattle.lilo_model.specs.Mapped.{mapped_sectors}
use Rattle.lilo_model.specs.MinixNames.{names_in, IsSound}
use Rattle.lilo_model.specs.MinixParts as model
use Rattle.lilo_model.specs.NamePlaces.{with_tilde}
use Rattle.lilo_model.specs.Settled.{Held, IsSettled, OwnNames, settled}
use Rattle.lilo_conf.specs.declared.config.Config as configs
use Rattle.minix_create.specs.declared.chosen.Chosen.{Chosen}
use Rattle.minix_choice.specs.declared.write_fault.WriteFault.{WriteFault}
use Rattle.minix_choice.specs.declared.write_fault.WriteFault.TheVariants as writes
use Rattle.minix_zones.specs.View.{span_view}
use Rattle.minix_zones.specs.Volume.{volume_view, past_of, Syncs}
use Rattle.minix_zones.specs.declared.volume.Volume.{Volume}
use Rattle.minix_zones.specs.declared.zone_fault.ZoneFault.TheVariants as zones
use Rattle.install_join_laws.proofs.Walks.{value-is}
use Rattle.install_stage_laws.specs.BeginLaws.{IsNoneOfMap}
use Rattle.install_laws.specs.InstallVerdict.{Begun}
use Rattle.install_order.specs.Begins.{AreApartNames, AreOwn, IsBegun, LiesThere}
use Rattle.install_order.specs.Checks.{IsExamined}
use Rattle.install_order.specs.Stageable.{MayStage, path_made}
use Rattle.install_order.specs.States.{StagesFrom, is_forced}
use Rattle.install_order.specs.View.{begun_of}
use Rattle.install_order.specs.declared.planned.Planned.{Planned}
use Rattle.install_order.specs.declared.surveyed.Surveyed.{Surveyed}
use Rattle.install_order.proofs.BeginLemmas.{backup-apart}
use Rattle.install_order.proofs.ReadyLemmas.{stageable}
use Rattle.install_settle.specs.Settles.{HasNames, IsBeside, stale_of}
use Rattle.install_stage.specs.Stages.{AreStagingBackup, IsStagingRoom, StagesRoom, with_room}
use Rattle.install_join_laws.specs.Kept.{HasOldMap, IsAsBefore, IsAsSettled, IsFile, IsOther, Keeps, KeepsUnstaged}
use Rattle.install_join_laws.specs.KeptLaws.{BeginningKeepsLaw, KeepsSince, PlanKeepsLaw, StagingKeepsLaw, StagingMapLaw, map_of}
use Rattle.install_join_laws.specs.Steps.{HasPlanned, IsBegunWith, begun_from, machine_on}
use Rattle.install_join_laws.proofs.Begun.{begun, boot-apart, examined, leaves, may-stage, plan-view-same, told-after}
use Rattle.install_join_laws.proofs.Flushed.{flushed-now, flushed-view, joined}
use Rattle.install_join_laws.proofs.KeptNames.{IsNoBackup, room-backup, room-other, settled-beside, staging-backup, staging-other}
use Rattle.install_join_laws.proofs.KeptOwn.{apart-copies, backup-beside, backup-differs, kept-then, kept-unstaged, map-differs, map-no-stale, stale-same}

pub beginning_keeps_law : {D : Type 0} (disks : Ghosts D) → BeginningKeepsLaw disks
beginning_keeps_law disks entry ended config device boot names quiet there own left =
    leaves_weaker (past_of entry) (past_of ended) _ _ (left.any_moment quiet)
    (λ c b. kept-unstaged (now (past_of entry)) (machine_on entry) (begun_of entry config device boot) names own there c b)

module _ {D : Type 0} {disks : Ghosts D} (entry : Volume D disks) (config : configs.Config) (boot : spans.Span) (time : ℕ) (surveyed : Surveyed D disks)
    (is : IsBegunWith entry config boot time surveyed) (there : LiesThere (now (past_of entry)) (machine_on entry) (begun_from entry surveyed)) (names : OwnNames)
    (own : AreOwn (now (past_of entry)) (begun_from entry surveyed) names) where
  abbrev View : model.Volume
  View = volume_view entry

  abbrev M : Machine
  M = machine_on entry

  abbrev S : Span
  S = span_view surveyed.boot

  abbrev Was : Image
  Was = now (past_of entry)

  abbrev Is : Image
  Is = now (past_of surveyed.volume)

  abbrev From : Begun
  From = begun_from entry surveyed

  abbrev Forced : Bool
  Forced = is_some From.config.force_backup

  abbrev Stale : Option (List (List ℕ))
  Stale = stale_of Forced names

  abbrev Present : List ℕ
  Present = Was S.disk S.start

  -- ---- names once they are settled

  done : IsBegun Was M From surveyed.found Is
  done = begun entry config boot time surveyed is

  looked : IsExamined Was M From.volume From.config From.boot From.span surveyed.found
  looked = examined entry config boot time surveyed is

  pub apart : AreApartNames names
  apart = subst AreApartNames (value-is looked.names names (sym looked.are ∙ own)) (backup-apart Was M From surveyed.found looked)

  pub settled-is : IsSettled Was M View S names.map Stale (names_in View Was) (names_in View Is)
  settled-is =
      subst (λ (n : OwnNames). IsSettled Was M View S n.map (stale_of Forced n) (names_in View Was) (names_in View Is)) (value-is done.names names (sym done.are ∙ own))
      done.settled

  pub mid : (name : List (List ℕ)) → names_in View Is name ≡ settled settled-is.finishes names.map Stale (names_in View Was) name
  mid name =
      settled-is.is name
      ∙ ap (λ (s : Option (List (List ℕ))). settled settled-is.finishes names.map s (names_in View Was) name) (stale-same Was M From names own)

  pub mid-beside : (name : List (List ℕ)) → IsBeside names Forced name → IsAsBefore View Was Is name
  mid-beside name beside = mid name ∙ settled-beside settled-is.finishes names.map Stale (names_in View Was) name beside.map beside.tilde beside.stale

  pub boot-is : Is S.disk S.start ≡ Present
  boot-is = done.left.boot there

  pub own-differs : names.map ≢ with_tilde names.map
  own-differs = map-differs Was M From names own

  -- an image of what is kept since names are settled
  module _ (bytes : List ℕ) (c : Image) where
    pub record KeepsMid : Type 0 where
      pub sound : IsSound View c
      pub others : (name : List (List ℕ)) → IsOther names Forced name → IsAsBefore View Is c name
      pub map : IsAsBefore View Is c names.map ⊎ IsFile View c bytes names.map
      pub backup : IfSome names.backup (λ backup. IsAsBefore View Is c backup ⊎ IsFile View c Present backup)
      pub held : Held Is M View S names.map → Held c M View S names.map

    pub kept : KeepsMid → Keeps Was M From names bytes c
    kept k = record {
      sound = λ s. k.sound;
      others = λ name other. k.others name other ∙ mid-beside name other.beside;
      map = by k.map;
      backup = each names.backup (backup-beside Was M From names own apart) k.backup;
      held = λ held. k.held (done.left.held there names own held);
    }
      where
        by : IsAsBefore View Is c names.map ⊎ IsFile View c bytes names.map → IsAsBefore View Was c names.map ⊎ (IsAsSettled Was M From names c names.map ⊎ IsFile View c bytes names.map)
        by (inl same) = inr (inl (record { after = names_in View Is; settled = settled-is; is = same }))
        by (inr new) = inr (inr new)

        each : (backup : Option (List (List ℕ))) → IfSome backup (IsBeside names Forced) → IfSome backup (λ path. IsAsBefore View Is c path ⊎ IsFile View c Present path)
            → IfSome backup (λ path. IsAsBefore View Was c path ⊎ IsFile View c Present path)
        each None beside two = tt
        each (Some path) beside (inl same) = inl (same ∙ mid-beside path beside)
        each (Some path) beside (inr new) = inr new

  -- what is settled is kept
  pub kept-mid : (bytes : List ℕ) → Keeps Was M From names bytes Is
  kept-mid bytes =
      kept bytes Is
      (record {
        sound = done.sound;
        others = λ name other. refl;
        map = inl refl;
        backup = each names.backup;
        held = λ held. held;
      })
    where
      each : (backup : Option (List (List ℕ))) → IfSome backup (λ path. IsAsBefore View Is Is path ⊎ IsFile View Is Present path)
      each None = tt
      each (Some path) = inl refl

  -- and so is what the beginning leaves
  pub beginning-run : (bytes : List ℕ) → LeavesOnly (past_of entry) (past_of surveyed.volume) (Keeps Was M From names bytes)
  beginning-run bytes =
      leaves_weaker (past_of entry) (past_of surveyed.volume) _ _ ((leaves entry config boot time surveyed is).any_moment is.quiet)
      (λ c b. kept-then Was M From names own bytes c (kept-unstaged Was M From names own there c b))

  pub unplanned-run : LeavesOnly (past_of entry) (past_of surveyed.volume) (KeepsUnstaged Was M From names)
  unplanned-run =
      leaves_weaker (past_of entry) (past_of surveyed.volume) _ _ ((leaves entry config boot time surveyed is).any_moment is.quiet)
      (λ c b. kept-unstaged Was M From names own there c b)

  -- ---- the old map

  pub old-map : (c : Image) → IsAsBefore View Is c names.map → HasOldMap Was M From names c
  old-map c same = inr (record { after = names_in View Is; settled = settled-is; is = same })

  beginning-map : LeavesOnly (past_of entry) (past_of surveyed.volume) (HasOldMap Was M From names)
  beginning-map = leaves_weaker (past_of entry) (past_of surveyed.volume) _ _ unplanned-run (λ c kept. kept.own names.map)

  -- ---- what is staged

  module _ (planned : Planned D disks) (has : HasPlanned surveyed planned) where
    abbrev Bytes : List ℕ
    Bytes = map_of entry planned

    abbrev pub Made : Option (List (List ℕ))
    Made = path_made planned.room.backup names.backup

    pub may : MayStage Is M names (mapped_sectors Was M S) planned
    may = may-stage entry config boot time surveyed is planned has names (mapped_sectors Was M S) own looked.old.zones

    pub past-same : past_of planned.volume ≡ past_of surveyed.volume
    past-same = has.same.same_disks.same_past

    pub told-plan : IsTold (past_of planned.volume)
    told-plan = subst IsTold (sym past-same) (told-after entry config boot time surveyed is)

    pub quiet-plan : IsQuiet (past_of planned.volume)
    quiet-plan = subst IsQuiet (sym past-same) is.quiet_after

    pub forced-same : is_forced planned ≡ Forced
    forced-same = ap (λ (c : configs.Config). is_some c.force_backup) has.held.config_is

    pub present-is : planned.present ≡ Present
    present-is = may.present ∙ (ap (λ (b : spans.Span). Is b.disk b.start) has.held.boot_is ∙ boot-is)

    -- ---- names that a backup doesn't take

    pub no-backup : (name : List (List ℕ)) → IfSome names.backup (λ backup. name ≢ backup) → IfSome Stale (λ backup. name ≢ with_tilde backup) → IsNoBackup Forced Made name
    no-backup name other copy = by planned.room.backup names.backup refl other
      where
        by : (made : Option Chosen) (backup : Option (List (List ℕ))) → names.backup ≡ backup → IfSome backup (λ path. name ≢ path) → IsNoBackup Forced (path_made made backup) name
        by None backup same other = tt
        by (Some chosen) None same other = tt
        by (Some chosen) (Some path) same other = (
          other,
          λ on.
              let stale : Stale ≡ Some path = ap (λ (f : Bool). stale_of f names) on ∙ same in
              subst (λ (o : Option (List (List ℕ))). IfSome o (λ backup. name ≢ with_tilde backup)) stale copy,
        )

    pub map-no-backup : IsNoBackup Forced Made names.map
    map-no-backup = no-backup names.map (by names.backup apart) (map-no-stale Was M From names own (apart-copies Was M From names own apart))
      where
        by : (backup : Option (List (List ℕ))) → IfSome backup (λ path. IsNoneOfMap names.map path × IsNoneOfMap names.map (with_tilde path)) → IfSome backup (λ path. names.map ≢ path)
        by None none = tt
        by (Some path) none = λ same. none.0.1 (sym same)

    -- ---- an image

    -- one that has the Names of what is staged
    module _ (c : Image) (sound : IsSound View c) (named : HasNames View c (with_room Forced Made Present names.map Bytes (names_in View Is))) where
      pub room-at : (name : List (List ℕ)) → name ≢ with_tilde names.map → IsNoBackup Forced Made name → IsAsBefore View Is c name
      room-at name tilde other = named name ∙ room-other Forced Made Present names.map Bytes (names_in View Is) name tilde other

      pub room-backup-at : IfSome names.backup (λ backup. IsAsBefore View Is c backup ⊎ IsFile View c Present backup)
      room-backup-at = by planned.room.backup names.backup named apart (backup-differs Was M From names own)
        where
          by : (made : Option Chosen) (backup : Option (List (List ℕ))) → HasNames View c (with_room Forced (path_made made backup) Present names.map Bytes (names_in View Is))
              → IfSome backup (λ path. IsNoneOfMap names.map path × IsNoneOfMap names.map (with_tilde path)) → IfSome backup (λ path. path ≢ with_tilde path)
              → IfSome backup (λ path. IsAsBefore View Is c path ⊎ IsFile View c Present path)
          by made None named none differs = tt
          by None (Some path) named none differs = inl (named path ∙ room-other Forced None Present names.map Bytes (names_in View Is) path none.0.0 tt)
          by (Some chosen) (Some path) named none differs = inr (named path ∙ room-backup Forced path Present names.map Bytes (names_in View Is) none.0.0 differs)

      pub room-kept : (Held Is M View S names.map → Held c M View S names.map) → Keeps Was M From names Bytes c
      room-kept held =
          kept Bytes c
          (record {
            sound = sound;
            others = λ name other. room-at name other.beside.tilde (no-backup name other.backup other.beside.stale);
            map = inl (room-at names.map own-differs map-no-backup);
            backup = room-backup-at;
            held = held;
          })

    -- one on the way to the backup
    module _ (c : Image) (sound : IsSound View c) (on : AreStagingBackup View Is Forced Made Present c) where
      way-at : (name : List (List ℕ)) → IsNoBackup Forced Made name → IsAsBefore View Is c name
      way-at name other = staging-other View Is Forced Present c Made name on other

      way-backup-at : IfSome names.backup (λ backup. IsAsBefore View Is c backup ⊎ IsFile View c Present backup)
      way-backup-at = by planned.room.backup names.backup on (backup-differs Was M From names own)
        where
          by : (made : Option Chosen) (backup : Option (List (List ℕ))) → AreStagingBackup View Is Forced (path_made made backup) Present c → IfSome backup (λ path. path ≢ with_tilde path)
              → IfSome backup (λ path. IsAsBefore View Is c path ⊎ IsFile View c Present path)
          by made None on differs = tt
          by None (Some path) on differs = inl (on path)
          by (Some chosen) (Some path) on differs = staging-backup View Is Forced Present c path on differs

      way-kept : (Held Is M View S names.map → Held c M View S names.map) → Keeps Was M From names Bytes c
      way-kept held =
          kept Bytes c
          (record {
            sound = sound;
            others = λ name other. way-at name (no-backup name other.backup other.beside.stale);
            map = inl (way-at names.map map-no-backup);
            backup = way-backup-at;
            held = held;
          })

    pub staging-kept : (c : Image) → IsStagingRoom View Is Forced Made Present names.map Bytes c → Keeps Was M From names Bytes c
    staging-kept c staging = by staging.names
      where
        held : Held Is M View S names.map → Held c M View S names.map
        held = staging.held M S (boot-apart entry config boot time surveyed is there)

        by : AreStagingBackup View Is Forced Made Present c ⊎ HasNames View c (with_room Forced Made Present names.map Bytes (names_in View Is)) → Keeps Was M From names Bytes c
        by (inl on) = way-kept c staging.sound on held
        by (inr named) = room-kept c staging.sound named held

    -- the old map stays at its name
    pub staging-map : (c : Image) → IsStagingRoom View Is Forced Made Present names.map Bytes c → IsAsBefore View Is c names.map
    staging-map c staging = by staging.names
      where
        by : AreStagingBackup View Is Forced Made Present c ⊎ HasNames View c (with_room Forced Made Present names.map Bytes (names_in View Is)) → IsAsBefore View Is c names.map
        by (inl on) = way-at c staging.sound on names.map map-no-backup
        by (inr named) = room-at c staging.sound named names.map own-differs map-no-backup

    -- ---- a run

    module _ (new : Volume D disks) (result : Result (Unit {0}) WriteFault) (from : StagesFrom planned.volume new (is_forced planned) planned.present planned.plan planned.room result) where
      pub calls : StagesRoom from.flushed new M (is_forced planned) Made planned.present names.map planned.plan planned.room result
      calls = from.stages M Made names.map (λ t. stageable Is M names (mapped_sectors Was M S) planned has.ready.files may)

      pub view-flushed : volume_view from.flushed ≡ View
      view-flushed =
          flushed-view planned.volume new (is_forced planned) planned.present planned.plan planned.room result from told-plan quiet-plan
          ∙ plan-view-same entry config boot time surveyed is planned has

      pub now-flushed : now (past_of from.flushed) ≡ Is
      now-flushed =
          flushed-now planned.volume new (is_forced planned) planned.present planned.plan planned.room result from told-plan quiet-plan
          ∙ ap (λ (p : Option Past). now p) past-same

      pub told-new : IsTold (past_of new)
      told-new = from.goes_on.told told-plan

      -- of the volume and the image that were surveyed, and the boot sector at the entry
      pub forth : (P : model.Volume → Image → Bool → List ℕ → Type 0) → P (volume_view from.flushed) (now (past_of from.flushed)) (is_forced planned) planned.present → P View Is Forced Present
      forth P p =
          subst (λ (b : List ℕ). P View Is Forced b) present-is
          (subst (λ (f : Bool). P View Is f planned.present) forced-same
          (subst₂ (λ (v : model.Volume) (i : Image). P v i (is_forced planned) planned.present) view-flushed now-flushed p))

      staging-run : LeavesOnly (past_of from.flushed) (past_of new) (IsStagingRoom View Is Forced Made Present names.map Bytes)
      staging-run = forth (λ v i f b. LeavesOnly (past_of from.flushed) (past_of new) (IsStagingRoom v i f Made b names.map Bytes)) calls.any_moment

      pub staged-run : LeavesOnly (past_of entry) (past_of new) (Keeps Was M From names Bytes)
      staged-run =
          leaves_join (past_of entry) (past_of surveyed.volume) (past_of new) _ (beginning-run Bytes)
          (subst (λ (p : Option Past). LeavesOnly p (past_of new) (Keeps Was M From names Bytes)) past-same
          (joined planned.volume new (is_forced planned) planned.present planned.plan planned.room result from told-plan quiet-plan (Keeps Was M From names Bytes)
          (subst (λ (p : Option Past). Keeps Was M From names Bytes (now p)) (sym past-same) (kept-mid Bytes))
          (leaves_weaker (past_of from.flushed) (past_of new) _ _ staging-run staging-kept)))

      pub staged-map : LeavesOnly (past_of entry) (past_of new) (HasOldMap Was M From names)
      staged-map =
          leaves_join (past_of entry) (past_of surveyed.volume) (past_of new) _ beginning-map
          (subst (λ (p : Option Past). LeavesOnly p (past_of new) (HasOldMap Was M From names)) past-same
          (joined planned.volume new (is_forced planned) planned.present planned.plan planned.room result from told-plan quiet-plan (HasOldMap Was M From names)
          (subst (λ (p : Option Past). HasOldMap Was M From names (now p)) (sym past-same) (old-map Is refl))
          (leaves_weaker (past_of from.flushed) (past_of new) _ _ staging-run (λ c staging. old-map c (staging-map c staging)))))

pub plan_keeps_law : {D : Type 0} (disks : Ghosts D) → PlanKeepsLaw disks
plan_keeps_law disks entry config boot time surveyed halt names is there own same =
    subst (λ (p : Option Past). LeavesOnly (past_of entry) p (KeepsUnstaged (now (past_of entry)) (machine_on entry) (begun_from entry surveyed) names)) (sym same.same_disks.same_past)
    (unplanned-run entry config boot time surveyed is there names own)

pub staging_keeps_law : {D : Type 0} (disks : Ghosts D) → StagingKeepsLaw disks
staging_keeps_law disks entry config boot time surveyed planned halt names is has there own halts = by halts.stops
  where
    by : (Syncs planned.volume halt.volume zones.Device (Err zones.Device) × (halts.fault ≡ writes.Device)) ⊎ StagesFrom planned.volume halt.volume (is_forced planned) planned.present planned.plan planned.room (Err halts.fault)
        → LeavesOnly (past_of entry) (past_of halt.volume) (KeepsSince entry surveyed planned names)
    by (inl failed) =
        subst (λ (p : Option Past). LeavesOnly (past_of entry) p (KeepsSince entry surveyed planned names)) (sym (failed.0.flushes.failed ∙ has.same.same_disks.same_past))
        (beginning-run entry config boot time surveyed is there names own (map_of entry planned))
    by (inr from) = staged-run entry config boot time surveyed is there names own planned has halt.volume (Err halts.fault) from

pub staging_map_law : {D : Type 0} (disks : Ghosts D) → StagingMapLaw disks
staging_map_law disks entry new config boot time surveyed planned names result is has there own from =
    staged-map entry config boot time surveyed is there names own planned has new result from
