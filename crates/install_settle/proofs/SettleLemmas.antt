-- Settling, from its steps.
use Rattle.std.proofs.Common.{◌≡◌, ◌≢◌, ◌≤◌, ◌&&◌, ◌⊎◌, ℕ, Bool, true, false, if◌then◌else◌, List, [], arith, option_map, Option, Some, None, Result, Ok, Err, IfOk, IfErr, OnOk, refl, sym, ◌∙◌, ap, subst, inl, inr, ⊎_elim}
use Rattle.std.specs.Prelude.{IfSome, is_some}
use Rattle.std.proofs.lemmas.Bool.{and_parts}
use Rattle.disk_trait.specs.declared.disks.Disks.{Ghosts}
use Rattle.disk_trait.specs.Past.{Image}
use Rattle.disk_trait.specs.Calls.{GoesOn}
use Rattle.disk_trait.specs.Moments.{IsTold, now, IsQuiet, LeavesOnly}
use Rattle.disk_trait.specs.NotWritten.{NotWritten}
use Rattle.disk_trait.proofs.CallLemmas.{goes_on_join}
use Rattle.disk_trait.proofs.MomentLemmas.{leaves_none, leaves_join, leaves_weaker, on_ok, told_or_not}
use Rattle.disk_trait.proofs.NotWrittenLemmas.{not_written_none, not_written_join}
use Rattle.lilo_model.specs.MinixFindNames.{Names}
use Rattle.lilo_model.specs.MinixLayout.{Inode, Kind}
use Rattle.lilo_model.specs.MinixNames.{Thing, reached, names, names_in, Named, IsSound}
use Rattle.lilo_model.specs.MinixParts as volumes
use Rattle.lilo_model.specs.MinixParts.{Parts, parts_of, is_directory, is_file}
use Rattle.lilo_model.specs.NamePlaces.{same_path, with_tilde, without_name}
use Rattle.lilo_model.specs.Settled as model
use Rattle.minix_layout.specs.View.{kind_view, super_view, inode_view}
use Rattle.minix_names.specs.Places.{number_found}
use Rattle.minix_names.proofs.PathLemmas.{same-is}
use Rattle.minix_remove.specs.Moves.{LeadsBoth}
use Rattle.minix_remove.specs.Target.{IsDirectoryNow}
use Rattle.minix_change_laws.specs.Sees.{SeenAsIn}
use Rattle.minix_change_laws.specs.Tree.{KeepsNamed, TreeAs, HasTreeWith, HasTreeMoved}
use Rattle.minix_change_laws.proofs.Seen.{opened, seen_same_law, seen_sound_law}
use Rattle.minix_change_laws.proofs.Tree.{sees_tree_law, keeps_join_law, has_names_law, has_moved_law}
use Rattle.minix_steps.specs.Written.{parts_now}
use Rattle.minix_tree.specs.declared.stat.Stat.{Stat}
use Rattle.minix_turns.specs.Joined.{SeenOrWith}
use Rattle.minix_choice.specs.declared.write_fault.WriteFault.{WriteFault}
use Rattle.minix_choice.specs.View.{HasWriteCause}
use Rattle.minix_choice.specs.declared.write_fault.WriteFault.TheVariants as faults
use Rattle.minix_choice.specs.declared.write_fault.WriteFault.TheVariants.{Device}
use Rattle.minix_zones.specs.Volume.{volume_view, past_of, faults_of, KeepsVolume, SameVolume}
use Rattle.minix_zones.specs.declared.volume.Volume.{Volume}
use Rattle.minix_zones.proofs.WriteLemmas.{keeps_same, keeps_join, goes_on_unchanged, cause_after}
use Rattle.install_apart.specs.Names.{IsPair, is_replaceable}
use Rattle.install_apart.specs.Own.{IsBackup, IsReplaceable}
use Rattle.install_apart.specs.declared.name.NamePair.{NamePair}
use Rattle.install_apart.specs.declared.name.OwnName.{OwnName}
use Rattle.install_apart.specs.declared.own.OwnNames.{OwnNames}
use Rattle.install_stage_laws.specs.BeginLaws.{GainsNothing}
use Rattle.install_laws.specs.Writes.{IsApartSector}
use Rattle.install_settle.specs.Found.{AreFound, AreNamesNow, MaySettle, IsLeft, IsApartCopy, is_there, has_copy}
use Rattle.install_settle.specs.Settles.{HasNames, finishes, stale_of, with_map_settled, with_all_settled, AreSettling, KeepsHeld, IsBeside, LeadsAsIn, KeepsPaths, KeepsMap, IsSettling, IsSettledIn, Settles}
use Rattle.install_settle.specs.At.{IsAt}
use Rattle.install_settle.specs.Steps.{IsSomewhere, IsSomePair, DoesMap, DoesRemove, IsMapLeft, IsMapSettled}
use Rattle.install_settle.specs.declared.settling.LeftMap.{LeftMap}
use Rattle.install_settle.specs.declared.settling.LeftMap.TheVariants.{Absent, Finish, Remove}
use Rattle.install_settle.specs.declared.settling.Settling.{Settling}
use Rattle.install_settle.proofs.HeldLemmas.{held-same, held-gone, held-both, held-foreign}
use Rattle.install_settle.proofs.LeadLemmas.{tilde-at, plain-at, held-is}
use Rattle.install_settle.proofs.PathLemmas.{tilde-differs, file-apart, stale-copy, leads-kept, leads-join}
use Rattle.install_settle.proofs.NamesLemmas.{absent-same, with-as, names-with, names-moved}
use Rattle.install_settle.proofs.GainLemmas.{gains_none, gains_join, named_gone}
use Rattle.install_settle.proofs.RenameLemmas.{leaves-untold}
use Rattle.install_settle.proofs.WriteLemmas.{apart-not}

-- ---- what was answered

pub if_ok_map : {T E : Type 0} (r : Result T E) (P Q : T → Type 0) → ((x : T) → P x → Q x) → IfOk r P → IfOk r Q
if_ok_map (Ok x) P Q f p = f x p
if_ok_map (Err e) P Q f p = tt

pub if_err_map : {T E : Type 0} (r : Result T E) (P Q : E → Type 0) → ((e : E) → P e → Q e) → IfErr r P → IfErr r Q
if_err_map (Ok x) P Q f p = tt
if_err_map (Err e) P Q f p = f e p

-- ---- what a step needs

pub directory_now : {D : Type 0} {disks : Ghosts D} (volume : Volume D disks) (own : OwnName) → IsSomewhere volume own → IsDirectoryNow volume own.directory
directory_now volume own is = record { sound = is.sound; named = record { path = is.at.above; leads = is.at.leads }; is = is.at.directory }

pub tilde_somewhere : {D : Type 0} {disks : Ghosts D} (volume : Volume D disks) (pair : NamePair) → IsSomePair volume pair → IsSomewhere volume pair.tilde
tilde_somewhere volume pair is = record { sound = is.sound; path = with_tilde is.path; at = tilde-at (super_view volume.layout) (parts_now volume) is.path pair.tilde is.names.tilde }

pub some_pair : {D : Type 0} {disks : Ghosts D} (volume : Volume D disks) (own : OwnNames) → AreNamesNow volume own → IsSomePair volume own.map
some_pair volume own is = record { sound = is.sound; path = is.names.map; names = is.found.map }

-- ---- nothing is done

pub does_nothing : {D : Type 0} {disks : Ghosts D} (volume : Volume D disks) (path : List (List ℕ)) → IsQuiet (past_of volume) → DoesMap volume volume path Absent (Ok tt)
does_nothing volume path quiet = by (told_or_not (past_of volume))
  where
    same : SameVolume volume volume
    same = record {
      same_disks = record { same_past = refl; same_size = refl; same_count = refl; same_geometry = refl };
      same_span = refl;
      same_layout = refl;
      same_reference = refl;
    }

    by : IsTold (past_of volume) ⊎ (IsTold (past_of volume) → ⊥) → DoesMap volume volume path Absent (Ok tt)
    by told = record {
      any_moment = leaves_none (past_of volume) _ quiet;
      left = λ told. refl;
      done = λ told. refl;
      others = λ told place not. not_written_none (past_of volume) place.disk place.sector;
      gains = λ told. gains_none (volume_view volume) (now (past_of volume));
      device = λ told. tt;
      goes_on = goes_on_unchanged volume volume same (omega arith);
      kept = keeps_same volume volume same;
    }

-- ---- Names and the Holder

-- something is there, or nothing is
names-by : (volume : volumes.Volume) (image : Image) (path : List (List ℕ)) (found : Option ℕ) → reached volume.layout (parts_of volume image) path ≡ found → names_in volume image path ≡ option_map (Rattle.lilo_model.specs.MinixNames.thing volume.layout (parts_of volume image)) found
unfolding names_in names
names-by volume image path found is = ap (option_map (Rattle.lilo_model.specs.MinixNames.thing volume.layout (parts_of volume image))) is

none-there : (own : OwnName) → is_there own ≡ false → number_found own.there ≡ None
none-there own is = by own.there refl is
  where
    by : (there : Option Stat) → own.there ≡ there → is_some there ≡ false → number_found own.there ≡ None
    by None same is = ap number_found same
    by (Some stat) same is = cc

-- what is known of what is to be settled
pub record Facts (volume : volumes.Volume) (old : Image) (names : model.OwnNames) (forced : Bool) (settling : Settling) : Type 0 where
  pub sound : IsSound volume old
  pub absent : settling.map ≡ Absent → names_in volume old (with_tilde names.map) ≡ None
  pub apart : names.map ≢ with_tilde names.map
  pub none : settling.copy ≡ false → IfSome (stale_of forced names) (λ backup. names_in volume old (with_tilde backup) ≡ None)
  pub copies : IsApartCopy names

-- what is settled of the map in an image
pub record MapDone (volume : volumes.Volume) (old : Image) (names : model.OwnNames) (left : LeftMap) (settling : Settling) (c : Image) : Type 0 where
  pub sound : IsSound volume c
  pub has : HasNames volume c (with_map_settled left names (names_in volume old))
  pub held : KeepsHeld volume old names.map settling c
  pub keeps : KeepsNamed volume.layout (parts_of volume old) (parts_of volume c)
  pub others : (other : List (List ℕ)) → other ≢ with_tilde names.map → other ≢ names.map → reached volume.layout (parts_of volume c) other ≡ reached volume.layout (parts_of volume old) other
  pub file : KeepsMap volume old names (finishes left) c

module _ (volume : volumes.Volume) (old : Image) (names : model.OwnNames) (forced : Bool) (settling : Settling) (facts : Facts volume old names forced settling) where
  abbrev Old : Names
  Old = names_in volume old

  abbrev P : List (List ℕ)
  P = names.map

  -- an image by what becomes of the map
  record Is (left : LeftMap) (c : Image) : Type 0 where
    pub sound : IsSound volume c
    pub has : AreSettling volume old names forced left c
    pub held : KeepsHeld volume old names.map settling c

  tree : (c : Image) → SeenAsIn volume old c → TreeAs volume.layout (parts_of volume old) (parts_of volume c)
  tree c seen = sees_tree_law volume.layout (parts_of volume old) (parts_of volume c) (opened volume old facts.sound).parts seen.sees

  seen-is : (left : LeftMap) (c : Image) → SeenAsIn volume old c → Is left c
  seen-is left c seen = record {
    sound = seen.sound;
    has = inl (seen_sound_law volume old c facts.sound seen).same;
    held = held-same volume old c P settling (tree c seen).keeps ((tree c seen).leads P) ((tree c seen).leads (with_tilde P));
  }

  gone-is : (c : Image) → settling.map ≡ Remove → HasTreeWith volume old c (with_tilde P) None None → Is Remove c
  gone-is c is with-tree = record {
    sound = with-tree.sound;
    has = inr (inr (inl (names-with volume old c (with_tilde P) None (has_names_law volume old c (with_tilde P) None None with-tree))));
    held = held-gone volume old c P settling with-tree.tree.keeps (with-tree.tree.others P facts.apart) (ap finishes is);
  }

  both-is : (c : Image) → settling.map ≡ Finish → LeadsBoth volume old (with_tilde P) P c → Is Finish c
  both-is c is both = record {
    sound = both.tree.sound;
    has = inr (inl (refl, names-with volume old c P (Old (with_tilde P)) (has_names_law volume old c P _ (Old (with_tilde P)) both.tree)));
    held = held-both volume old c P settling both.tree.tree.keeps both.tree.tree.here (ap finishes is);
  }

  moved-is : (c : Image) → settling.map ≡ Finish → HasTreeMoved volume old c (with_tilde P) P → Is Finish c
  moved-is c is moved = record {
    sound = moved.sound;
    has = inr (inr (inl (names-moved volume old c (with_tilde P) P (has_moved_law volume old c (with_tilde P) P moved))));
    held = held-both volume old c P settling moved.tree.keeps moved.tree.here (ap finishes is);
  }

  left-is : (left : LeftMap) (c : Image) → settling.map ≡ left → IsMapLeft volume old P left c → Is left c
  left-is Absent c is same = subst (Is Absent) (sym same) (seen-is Absent old (seen_same_law volume old facts.sound))
  left-is Finish c is (inl seen) = seen-is Finish c seen
  left-is Finish c is (inr (inl both)) = both-is c is both
  left-is Finish c is (inr (inr moved)) = moved-is c is moved
  left-is Remove c is (inl seen) = seen-is Remove c seen
  left-is Remove c is (inr gone) = gone-is c is gone

  pub map-left : (c : Image) → IsMapLeft volume old P settling.map c → IsSettling volume old names forced settling c
  map-left c left = let is = left-is settling.map c refl left in record { sound = is.sound; has = is.has; held = is.held }

  -- ---- once the map is settled

  done-is : (left : LeftMap) (c : Image) → settling.map ≡ left → IsMapSettled volume old P left c → MapDone volume old names left settling c
  done-is Absent c is same =
      let seen = seen_same_law volume old facts.sound in
      let here = seen-is Absent old seen in
      subst (MapDone volume old names Absent settling) (sym same)
      (record {
        sound = facts.sound;
        has = λ name. sym (absent-same (with_tilde P) name Old (facts.absent is));
        held = here.held;
        keeps = (tree old seen).keeps;
        others = λ other one two. refl;
        file = refl;
      })
  done-is Finish c is moved = record {
    sound = moved.sound;
    has = names-moved volume old c (with_tilde P) P (has_moved_law volume old c (with_tilde P) P moved);
    held = (moved-is c is moved).held;
    keeps = moved.tree.keeps;
    others = λ other one two. moved.tree.others other one two;
    file = moved.tree.here;
  }
  done-is Remove c is gone = record {
    sound = gone.sound;
    has = names-with volume old c (with_tilde P) None (has_names_law volume old c (with_tilde P) None None gone);
    held = (gone-is c is gone).held;
    keeps = gone.tree.keeps;
    others = λ other one two. gone.tree.others other one;
    file = gone.tree.others P facts.apart;
  }

  pub map-done : (c : Image) → IsMapSettled volume old P settling.map c → MapDone volume old names settling.map settling c
  map-done c done = done-is settling.map c refl done

  -- ---- once all is

  module _ (mid : Image) (done : MapDone volume old names settling.map settling mid) where
    abbrev Settled-map : Names
    Settled-map = with_map_settled settling.map names Old

    -- no copy is there
    stays-none : (finished : Bool) (path : List (List ℕ)) → Old path ≡ None → path ≢ P → Rattle.lilo_model.specs.Settled.settled finished P None Old path ≡ None
    stays-none false path none apart = by (same_path (with_tilde P) path)
      where
        by : (gone : Bool) → (if gone then None else Old path) ≡ None
        by true = refl
        by false = none
    stays-none true path none apart = by (same_path (with_tilde P) path) (same_path P path) refl
      where
        by : (gone here : Bool) → same_path P path ≡ here → (if gone then None else (if here then Old (with_tilde P) else Old path)) ≡ None
        by true here is = refl
        by false true is = absurd (apart (sym (same-is P path is)))
        by false false is = none

    all-by : (stale : Option (List (List ℕ))) → stale_of forced names ≡ stale → IfSome stale (λ backup. Old (with_tilde backup) ≡ None) → IfSome stale (λ backup. with_tilde backup ≢ P)
        → (name : List (List ℕ)) → Settled-map name ≡ Rattle.lilo_model.specs.Settled.settled (finishes settling.map) P stale Old name
    all-by None is none apart name = refl
    all-by (Some backup) is none apart name = sym (absent-same (with_tilde backup) name Settled-map (stays-none (finishes settling.map) (with_tilde backup) none apart))

    copy-apart : (stale : Option (List (List ℕ))) → stale_of forced names ≡ stale → IfSome stale (λ backup. with_tilde backup ≢ P)
    copy-apart stale is = by forced refl stale is
      where
        by : (asked : Bool) → forced ≡ asked → (stale : Option (List (List ℕ))) → (if asked then names.backup else None) ≡ stale → IfSome stale (λ backup. with_tilde backup ≢ P)
        by true same None is = tt
        by true same (Some backup) is = (subst (λ (o : Option (List (List ℕ))). IfSome o (λ backup. (with_tilde backup ≢ with_tilde P) × (with_tilde backup ≢ P))) is facts.copies).1
        by false same None is = tt
        by false same (Some backup) is = cc

    -- paths but the map's lead where they led
    beside-mid : (path : List (List ℕ)) → IsBeside names settling.copy path → LeadsAsIn volume old mid path
    beside-mid path beside = leads-kept volume path old mid done.keeps (done.others path beside.tilde beside.map)

    pub all-none : settling.copy ≡ false → IsSettledIn volume old names forced settling mid
    all-none copy = record {
      sound = done.sound;
      has = λ name. done.has name ∙ all-by (stale_of forced names) refl (facts.none copy) (copy-apart (stale_of forced names) refl) name;
      paths = beside-mid;
      file = done.file;
      keeps = done.keeps;
      held = done.held;
    }

    -- a copy is removed
    module _ (copy : settling.copy ≡ true) (backup : List (List ℕ)) (stale : stale_of forced names ≡ Some backup) where
      all-is : (name : List (List ℕ)) → without_name (with_tilde backup) Settled-map name ≡ with_all_settled settling.map forced names Old name
      all-is name = ap (λ (s : Option (List (List ℕ))). Rattle.lilo_model.specs.Settled.settled (finishes settling.map) P s Old name) (sym stale)

      gone-names : (c : Image) → HasTreeWith volume mid c (with_tilde backup) None None → HasNames volume c (with_all_settled settling.map forced names Old)
      gone-names c gone name =
          names-with volume mid c (with_tilde backup) None (has_names_law volume mid c (with_tilde backup) None None gone) name
          ∙ (with-as (with_tilde backup) name None (names_in volume mid) Settled-map done.has ∙ all-is name)

      gone-paths : (c : Image) → HasTreeWith volume mid c (with_tilde backup) None None → KeepsPaths volume old names settling.copy c
      gone-paths c gone path beside =
          let apart = subst (λ (s : Option (List (List ℕ))). IfSome s (λ backup. path ≢ with_tilde backup)) (stale-copy names forced settling.copy backup copy stale) beside.stale in
          leads-join volume path old mid c (beside-mid path beside) (leads-kept volume path mid c gone.tree.keeps (gone.tree.others path apart))

      gone-file : (c : Image) → HasTreeWith volume mid c (with_tilde backup) None None → KeepsMap volume old names (finishes settling.map) c
      gone-file c gone = gone.tree.others P (λ same. copy-apart (Some backup) stale (sym same)) ∙ done.file

      -- what is named at the end was named in the middle
      gone-keeps : (c : Image) → HasTreeWith volume mid c (with_tilde backup) None None → KeepsNamed volume.layout (parts_of volume old) (parts_of volume c)
      gone-keeps c gone =
          keeps_join_law volume.layout (parts_of volume old) (parts_of volume mid) (parts_of volume c) done.keeps gone.tree.keeps
          (λ number was now. named_gone volume mid c (with_tilde backup) gone number now)

      pub all-left : (c : Image) → SeenOrWith volume mid (with_tilde backup) None None c → IsSettling volume old names forced settling c
      all-left c (inl seen) = record {
        sound = seen.sound;
        has = inr (inr (inl (λ name. (seen_sound_law volume mid c done.sound seen).same name ∙ done.has name)));
        held = held-foreign volume old c P settling copy;
      }
      all-left c (inr gone) = record { sound = gone.sound; has = inr (inr (inr (gone-names c gone))); held = held-foreign volume old c P settling copy }

      pub all-done : (c : Image) → HasTreeWith volume mid c (with_tilde backup) None None → IsSettledIn volume old names forced settling c
      all-done c gone = record {
        sound = gone.sound;
        has = gone-names c gone;
        paths = gone-paths c gone;
        file = gone-file c gone;
        keeps = gone-keeps c gone;
        held = held-foreign volume old c P settling copy;
      }

-- ---- what is known of what is to be settled

module _ {D : Type 0} {disks : Ghosts D} (old : Volume D disks) (own : OwnNames) (files : IsReplaceable true own.map) where
  replaceable : (is_replaceable own.map.plain ≡ true) × (is_replaceable own.map.tilde ≡ true)
  replaceable = and_parts (is_replaceable own.map.plain) (is_replaceable own.map.tilde) files

  module _ (names : model.OwnNames) (found : AreFound (super_view old.layout) (parts_now old) names own) where
    plain-here : IsAt (super_view old.layout) (parts_now old) names.map own.map.plain
    plain-here = plain-at (super_view old.layout) (parts_now old) names.map own.map.plain found.map.plain replaceable.0

    tilde-here : IsAt (super_view old.layout) (parts_now old) (with_tilde names.map) own.map.tilde
    tilde-here = tilde-at (super_view old.layout) (parts_now old) names.map own.map.tilde found.map.tilde

    not-tilde : names.map ≢ with_tilde names.map
    not-tilde = tilde-differs names.map own.map.plain.name plain-here.above plain-here.is

    no-name : (path : List (List ℕ)) (one : OwnName) → IsAt (super_view old.layout) (parts_now old) path one → is_there one ≡ false → names_in (volume_view old) (now (past_of old)) path ≡ None
    no-name path one at none = names-by (volume_view old) (now (past_of old)) path None (at.there ∙ none-there one none)

    absent-by : (kind : Kind) (left : LeftMap) → IsLeft kind own.map left → left ≡ Absent → names_in (volume_view old) (now (past_of old)) (with_tilde names.map) ≡ None
    absent-by kind Absent is same = no-name (with_tilde names.map) own.map.tilde tilde-here is
    absent-by kind Finish is same = absurd (distinct same)
      where
        distinct : Finish ≡ Absent → ⊥
        distinct e = cc
    absent-by kind Remove is same = absurd (distinct same)
      where
        distinct : Remove ≡ Absent → ⊥
        distinct e = cc

    none-by : (backup : Option (List (List ℕ))) (pair : Option NamePair) → IsBackup (super_view old.layout) (parts_now old) backup pair → has_copy pair ≡ false
        → IfSome backup (λ path. names_in (volume_view old) (now (past_of old)) (with_tilde path) ≡ None)
    none-by None pair is none = tt
    none-by (Some path) None is none = absurd is
    none-by (Some path) (Some pair) is none = no-name (with_tilde path) pair.tilde (tilde-at (super_view old.layout) (parts_now old) path pair.tilde is.tilde) none

    stale-by : (forced : Bool) → (forced && has_copy own.backup) ≡ false → IfSome (stale_of forced names) (λ path. names_in (volume_view old) (now (past_of old)) (with_tilde path) ≡ None)
    stale-by true none = none-by names.backup own.backup found.backup none
    stale-by false none = tt

    module _ (forced : Bool) (settling : Settling) (left : IsLeft (kind_view old.layout.kind) own.map settling.map) (sound : IsSound (volume_view old) (now (past_of old)))
        (none : settling.copy ≡ false → (forced && has_copy own.backup) ≡ false) (copies : IsApartCopy names) where
      pub facts-by : Facts (volume_view old) (now (past_of old)) names forced settling
      facts-by = record {
        sound = sound;
        absent = absent-by (kind_view old.layout.kind) settling.map left;
        apart = not-tilde;
        none = λ copy. stale-by forced (none copy);
        copies = copies;
      }

      -- what is at the copy stays there
      module _ (mid : Image) (done : MapDone (volume_view old) (now (past_of old)) names settling.map settling mid) (backup : List (List ℕ)) (pair : NamePair)
          (is : IsPair (super_view old.layout) (parts_now old) backup pair) (apart : (with_tilde backup ≢ with_tilde names.map) × (with_tilde backup ≢ names.map)) where
        abbrev Mid : Parts
        Mid = parts_of (volume_view old) mid

        was : IsAt (super_view old.layout) (parts_now old) (with_tilde backup) pair.tilde
        was = tilde-at (super_view old.layout) (parts_now old) backup pair.tilde is.tilde

        above-leads : reached (super_view old.layout) Mid was.above ≡ Some pair.tilde.directory
        above-leads =
            done.others was.above
            (file-apart (super_view old.layout) (parts_now old) (with_tilde names.map) was.above own.map.tilde pair.tilde.directory tilde-here replaceable.1 was.leads was.directory)
            (file-apart (super_view old.layout) (parts_now old) names.map was.above own.map.plain pair.tilde.directory plain-here replaceable.0 was.leads was.directory)
            ∙ was.leads

        mode-kept : (number : ℕ) (path : List (List ℕ)) → reached (super_view old.layout) (parts_now old) path ≡ Some number → reached (super_view old.layout) Mid path ≡ Some number
            → (Mid.node number).mode ≡ ((parts_now old).node number).mode
        mode-kept number path before after = done.keeps.modes number (record { path = path; leads = before }) (record { path = path; leads = after })

        directory-mid : is_directory (Mid.node pair.tilde.directory) ≡ true
        directory-mid = rw (mode-kept pair.tilde.directory was.above was.leads above-leads) was.directory

        there-mid : reached (super_view old.layout) Mid (with_tilde backup) ≡ number_found pair.tilde.there
        there-mid = done.others (with_tilde backup) apart.0 apart.1 ∙ was.there

        mode-by : (there : Option Stat) → pair.tilde.there ≡ there → IfSome there (λ stat. (inode_view stat.node).mode ≡ ((parts_now old).node stat.inode).mode)
            → IfSome there (λ stat. (inode_view stat.node).mode ≡ (Mid.node stat.inode).mode)
        mode-by None same mode = tt
        mode-by (Some stat) same mode = mode ∙ sym (mode-kept stat.inode (with_tilde backup) (was.there ∙ ap number_found same) (there-mid ∙ ap number_found same))

        pub at-mid : IsAt (super_view old.layout) Mid (with_tilde backup) pair.tilde
        at-mid = record {
          above = was.above;
          is = was.is;
          leads = above-leads;
          directory = directory-mid;
          plain = was.plain;
          there = there-mid;
          held = sym (held-is (super_view old.layout) Mid pair.tilde.directory pair.tilde.name was.above above-leads directory-mid was.plain) ∙ (ap (reached (super_view old.layout) Mid) (sym was.is) ∙ there-mid);
          mode = mode-by pair.tilde.there refl was.mode;
        }

-- ---- the whole

-- a copy that was found is the stale one's, by its path
pub record CopyPath (super : Rattle.lilo_model.specs.MinixLayout.Super) (parts : Parts) (names : model.OwnNames) (forced : Bool) (pair : NamePair) : Type 0 where
  pub backup : List (List ℕ)
  pub stale : stale_of forced names ≡ Some backup
  pub is : IsPair super parts backup pair
  pub apart : (with_tilde backup ≢ with_tilde names.map) × (with_tilde backup ≢ names.map)

module _ (super : Rattle.lilo_model.specs.MinixLayout.Super) (parts : Parts) (names : model.OwnNames) (copies : IsApartCopy names) where
  pub copy-path : (forced : Bool) → forced ≡ true → (found : Option NamePair) (pair : NamePair) → found ≡ Some pair → IsBackup super parts names.backup found → CopyPath super parts names forced pair
  copy-path forced asked found pair some is = by names.backup refl (subst (IsBackup super parts names.backup) some is)
    where
      by : (backup : Option (List (List ℕ))) → names.backup ≡ backup → IsBackup super parts backup (Some pair) → CopyPath super parts names forced pair
      by None same is = absurd is
      by (Some backup) same is = record {
        backup = backup;
        stale = rw (asked, same) refl;
        is = is;
        apart = subst (λ (o : Option (List (List ℕ))). IfSome o (λ path. (with_tilde path ≢ with_tilde names.map) × (with_tilde path ≢ names.map))) same copies;
      }

module _ {D : Type 0} {disks : Ghosts D} (old mid : Volume D disks) (names : model.OwnNames) (forced : Bool) (settling : Settling) (own : OwnNames)
    (files : IsReplaceable true own.map) (left : IsLeft (kind_view old.layout.kind) own.map settling.map) (quiet : IsQuiet (past_of old))
    (may : IsTold (past_of old) → MaySettle old names forced own settling) where
  abbrev View : volumes.Volume
  View = volume_view old

  abbrev Was : Image
  Was = now (past_of old)

  facts : IsTold (past_of old) → Facts View Was names forced settling
  facts told = facts-by old own files names (may told).found forced settling left (may told).sound (λ copy. sym (may told).copy ∙ copy) (may told).apart

  module _ (r : Result (Unit {0}) WriteFault) (map : DoesMap old mid names.map settling.map r) where
    any-map : LeavesOnly (past_of old) (past_of mid) (IsSettling View Was names forced settling)
    any-map = by (told_or_not (past_of old))
      where
        by : IsTold (past_of old) ⊎ (IsTold (past_of old) → ⊥) → LeavesOnly (past_of old) (past_of mid) (IsSettling View Was names forced settling)
        by (inl told) = leaves_weaker (past_of old) (past_of mid) _ _ map.any_moment (map-left View Was names forced settling (facts told))
        by (inr none) = leaves-untold (past_of old) (past_of mid) _ none (λ told. none (map.goes_on.told_before told))

    apart-map : IsTold (past_of old) → (d s : ℕ) → IsApartSector View d s → NotWritten (past_of old) (past_of mid) d s
    apart-map told d s apart = map.others told (record { disk = d; sector = s }) (apart-not View Was (may told).sound d s apart)

    settles-by : OnOk r (IsTold (past_of old) → IsSettledIn View Was names forced settling (now (past_of mid))) → Settles old mid names forced settling r
    settles-by done = record {
      any_moment = λ q. any-map;
      left = λ told. map-left View Was names forced settling (facts told) (now (past_of mid)) (map.left told);
      done = λ told. on_ok r _ _ done (λ is. is told);
      apart = apart-map;
      others = λ told copy. map.others told;
      gains = map.gains;
      device = map.device;
      goes_on = map.goes_on;
      kept = map.kept;
    }

  -- the map's step was refused
  pub settles_refused : (fault : WriteFault) → DoesMap old mid names.map settling.map (Err fault) → Settles old mid names forced settling (Err fault)
  settles_refused fault map = settles-by (Err fault) map tt

  module _ (map : DoesMap old mid names.map settling.map (Ok tt)) where
    done-map : (told : IsTold (past_of old)) → MapDone View Was names settling.map settling (now (past_of mid))
    done-map told = map-done View Was names forced settling (facts told) (now (past_of mid)) (map.done told)

    -- no copy is there
    pub settles_map : settling.copy ≡ false → Settles old mid names forced settling (Ok tt)
    settles_map copy = settles-by (Ok tt) map (λ told. all-none View Was names forced settling (facts told) (now (past_of mid)) (done-map told) copy)

    -- a copy is removed
    module _ (copy : settling.copy ≡ true) (pair : NamePair) (some : own.backup ≡ Some pair) (there : (is_there pair.tilde ≡ true) × (is_replaceable pair.tilde ≡ true)) where
      asked : IsTold (past_of old) → forced ≡ true
      asked told = by forced (sym (may told).copy ∙ copy)
        where
          by : (forced : Bool) → (forced && has_copy own.backup) ≡ true → forced ≡ true
          by true is = refl
          by false is = is

      path-of : (told : IsTold (past_of old)) → CopyPath (super_view old.layout) (parts_now old) names forced pair
      path-of told = copy-path (super_view old.layout) (parts_now old) names (may told).apart forced (asked told) own.backup pair some (may told).found.backup

      at-of : (told : IsTold (past_of old)) → IsAt (super_view mid.layout) (parts_now mid) (with_tilde (path-of told).backup) pair.tilde
      at-of told =
          let path = path-of told in
          let view : volume_view mid ≡ View = rw (map.kept.same_span, map.kept.same_layout) refl in
          subst (λ (v : volumes.Volume). IsAt v.layout (parts_of v (now (past_of mid))) (with_tilde path.backup) pair.tilde) (sym view)
          (at-mid old own files names (may told).found forced settling left (may told).sound (λ copy. sym (may told).copy ∙ copy) (may told).apart
          (now (past_of mid)) (done-map told) path.backup pair path.is path.apart)

      pub somewhere_mid : IsTold (past_of mid) → IsSomewhere mid pair.tilde
      somewhere_mid is =
          let told = map.goes_on.told_before is in
          let view : volume_view mid ≡ View = rw (map.kept.same_span, map.kept.same_layout) refl in
          record {
            sound = subst (λ (v : volumes.Volume). IsSound v (now (past_of mid))) (sym view) (done-map told).sound;
            path = with_tilde (path-of told).backup;
            at = at-of told;
          }

      module _ (new : Volume D disks) (result : Result (Unit {0}) WriteFault) (removes : (path : List (List ℕ)) → (IsTold (past_of mid) → IsAt (super_view mid.layout) (parts_now mid) path pair.tilde) → DoesRemove mid new path result) where
        view-is : volume_view mid ≡ View
        view-is = rw (map.kept.same_span, map.kept.same_layout) refl

        module _ (told : IsTold (past_of old)) where
          step : DoesRemove mid new (with_tilde (path-of told).backup) result
          step = removes (with_tilde (path-of told).backup) (λ t. at-of told)

          left-in : (c : Image) → SeenOrWith (volume_view mid) (now (past_of mid)) (with_tilde (path-of told).backup) None None c → IsSettling View Was names forced settling c
          left-in c left =
              all-left View Was names forced settling (facts told) (now (past_of mid)) (done-map told) copy (path-of told).backup (path-of told).stale c
              (subst (λ (v : volumes.Volume). SeenOrWith v (now (past_of mid)) (with_tilde (path-of told).backup) None None c) view-is left)

          done-in : (c : Image) → HasTreeWith (volume_view mid) (now (past_of mid)) c (with_tilde (path-of told).backup) None None → IsSettledIn View Was names forced settling c
          done-in c gone =
              all-done View Was names forced settling (facts told) (now (past_of mid)) (done-map told) copy (path-of told).backup (path-of told).stale c
              (subst (λ (v : volumes.Volume). HasTreeWith v (now (past_of mid)) c (with_tilde (path-of told).backup) None None) view-is gone)

          settles-told : Settles old new names forced settling result
          settles-told =
              let mid-told = map.goes_on.told told in
              let sound-mid = (somewhere_mid mid-told).sound in
              record {
                any_moment = λ q. leaves_join (past_of old) (past_of mid) (past_of new) _ (any-map (Ok tt) map) (leaves_weaker (past_of mid) (past_of new) _ _ step.any_moment left-in);
                left = λ t. left-in (now (past_of new)) (step.left mid-told);
                done = λ t. on_ok result _ _ (step.done mid-told) (done-in (now (past_of new)));
                apart = λ t d s apart. not_written_join (past_of old) (past_of mid) (past_of new) d s (apart-map (Ok tt) map t d s apart)
                    (step.others mid-told (record { disk = d; sector = s }) (apart-not (volume_view mid) (now (past_of mid)) sound-mid d s (subst (λ (v : volumes.Volume). IsApartSector v d s) (sym view-is) apart)));
                others = λ t off. absurd (clash off);
                gains = λ t. on_ok result _ _ (step.gains mid-told) (λ next. gains_join View Was (now (past_of mid)) (now (past_of new)) (map.gains t)
                    (subst (λ (v : volumes.Volume). GainsNothing v (now (past_of mid)) (now (past_of new))) view-is next));
                device = λ t. cause_after old mid new Device result map.goes_on.later (step.device mid-told);
                goes_on = goes_on_join disks old.disks.now mid.disks.now new.disks.now map.goes_on step.goes_on;
                kept = keeps_join old mid new map.kept step.kept;
              }
            where
              clash : settling.copy ≡ false → ⊥
              clash off = let both : true ≡ false = sym copy ∙ off in cc

        untold : (IsTold (past_of old) → ⊥) → Settles old new names forced settling result
        untold none =
            let step = removes [] (λ t. absurd (none (map.goes_on.told_before t))) in
            record {
              any_moment = λ q. leaves-untold (past_of old) (past_of new) _ none (λ t. none (map.goes_on.told_before (step.goes_on.told_before t)));
              left = λ t. absurd (none t);
              done = λ t. absurd (none t);
              apart = λ t. absurd (none t);
              others = λ t. absurd (none t);
              gains = λ t. absurd (none t);
              device = λ t. absurd (none t);
              goes_on = goes_on_join disks old.disks.now mid.disks.now new.disks.now map.goes_on step.goes_on;
              kept = keeps_join old mid new map.kept step.kept;
            }

        pub settles_all : Settles old new names forced settling result
        settles_all = ⊎_elim settles-told untold (told_or_not (past_of old))

-- the second step's condition, by the names that were found
module _ {D : Type 0} {disks : Ghosts D} (old mid : Volume D disks) (settling : Settling) (own : OwnNames)
    (files : IsReplaceable true own.map) (left : IsLeft (kind_view old.layout.kind) own.map settling.map) (quiet : IsQuiet (past_of old))
    (found : IsTold (past_of old) → AreNamesNow old own) (copy : settling.copy ≡ true) (pair : NamePair) (some : own.backup ≡ Some pair)
    (there : (is_there pair.tilde ≡ true) × (is_replaceable pair.tilde ≡ true))
    (map : (path : List (List ℕ)) → (IsTold (past_of old) → IsPair (super_view old.layout) (parts_now old) path own.map) → DoesMap old mid path settling.map (Ok tt)) where
  before : IsTold (past_of mid) → IsTold (past_of old)
  before is = by (told_or_not (past_of old))
    where
      by : IsTold (past_of old) ⊎ (IsTold (past_of old) → ⊥) → IsTold (past_of old)
      by (inl told) = told
      by (inr none) = (map [] (λ t. absurd (none t))).goes_on.told_before is

  pub copy_somewhere : IsTold (past_of mid) → IsSomewhere mid pair.tilde
  copy_somewhere is =
      let told = before is in
      let was = found told in
      let is-there : has_copy own.backup ≡ true = ap has_copy some ∙ there.0 in
      somewhere_mid old mid was.names true settling own files left quiet
      (λ t. record { sound = was.sound; found = was.found; apart = was.apart; copy = copy ∙ sym is-there })
      (map was.names.map (λ t. was.found.map)) copy pair some there is

-- ---- faults

pub cause-by : (before mid after : ℕ) (fault : WriteFault) → before ≤ mid → HasWriteCause mid after fault → HasWriteCause before after fault
cause-by before mid after (faults.NoSpace need found) later cause = tt
cause-by before mid after faults.NoInode later cause = tt
cause-by before mid after faults.NameTooLong later cause = tt
cause-by before mid after faults.Exists later cause = tt
cause-by before mid after faults.Links later cause = tt
cause-by before mid after (faults.Tree fault) later cause = tt
cause-by before mid after faults.Device later cause = λ below. let rose = cause below in omega (arith, later, rose)
cause-by before mid after faults.Memory later cause = tt

module _ {D : Type 0} {disks : Ghosts D} (old mid : Volume D disks) (own : OwnNames) (left : LeftMap) (found : IsTold (past_of old) → AreNamesNow old own)
    (map : (path : List (List ℕ)) → (IsTold (past_of old) → IsPair (super_view old.layout) (parts_now old) path own.map) → DoesMap old mid path left (Ok tt)) where
  -- some path will do
  some-map : GoesOn disks old.disks.now mid.disks.now × KeepsVolume old mid
  some-map = by (told_or_not (past_of old))
    where
      by : IsTold (past_of old) ⊎ (IsTold (past_of old) → ⊥) → GoesOn disks old.disks.now mid.disks.now × KeepsVolume old mid
      by (inl told) = let does = map (found told).names.map (λ t. (found told).found.map) in (does.goes_on, does.kept)
      by (inr none) = let does = map [] (λ t. absurd (none t)) in (does.goes_on, does.kept)

  pub cause_then : (after : ℕ) (fault : WriteFault) → HasWriteCause (faults_of mid) after fault → HasWriteCause (faults_of old) after fault
  cause_then after fault cause = cause-by (faults_of old) (faults_of mid) after fault some-map.0.later cause

  pub layout_then : mid.layout ≡ old.layout
  layout_then = some-map.1.same_layout
