-- A backup that was made takes the place of the one that is there.
use Rattle.std.proofs.Common.{◌≡◌, ◌≢◌, ◌≤◌, ◌<◌, ◌/◌, ◌==◌, ◌&&◌, ◌||◌, ◌⊎◌, ℕ, suc, Bool, true, false, not, if◌then◌else◌, List, [], ◌∷◌, ◌++◌, codes, length, get_or, Option, None, Some, Result, Ok, Err, OnOk, refl, sym, ◌∙◌, ap, subst, subst₂, inl, inr, arith, length-append}
use Rattle.std.specs.Prelude.{IfSome}
use Rattle.std.proofs.lemmas.Bool.{eqb-true}
use Rattle.disk_trait.specs.declared.disks.Disks.{Ghosts}
use Rattle.disk_trait.specs.Past.{Past}
use Rattle.disk_trait.specs.Moments.{IsTold, now, IsQuiet, LeavesOnly}
use Rattle.disk_trait.specs.NotWritten.{NotWritten}
use Rattle.disk_trait.proofs.CallLemmas.{goes_on_join}
use Rattle.disk_trait.proofs.MomentLemmas.{leaves_weaker, leaves_join, on_ok, told_or_not}
use Rattle.disk_trait.proofs.NotWrittenLemmas.{not_written_join}
use Rattle.lilo_model.specs.Disks.{Image, DiskSector, bytes_at}
use Rattle.lilo_model.specs.MinixFindNames.{path_above}
use Rattle.lilo_model.specs.MinixLayout.{Inode, Kind, Super, is_v1, most_links, name_size}
use Rattle.lilo_model.specs.MinixNames.{File, Link, Directory, Other, Named, thing, content, names_in, reached, IsSound}
use Rattle.lilo_model.specs.MinixParts as model
use Rattle.lilo_model.specs.MinixParts.{Parts, parts_of, is_directory, is_file, is_link}
use Rattle.lilo_model.specs.NamePlaces.{with_tilde}
use Rattle.minix_create.specs.Chosen.{block_of}
use Rattle.minix_create.specs.Linked.{Creates}
use Rattle.minix_create.specs.Several.{WasMade}
use Rattle.minix_create.specs.States.{CreatesOn}
use Rattle.minix_create.specs.declared.chosen.Chosen.{Chosen}
use Rattle.minix_create.proofs.SeveralLemmas.{left_free}
use Rattle.minix_remove.specs.Moves.{IsMoving}
use Rattle.minix_remove.specs.Renamed.{Renames, RenamesFiles, links_refusal}
use Rattle.minix_remove.specs.Target.{IsDirectoryNow}
use Rattle.minix_remove.proofs.Free.{stays_free}
use Rattle.minix_change_laws.specs.Tree.{HasTreeWith, HasTreeMoved}
use Rattle.minix_change_laws.proofs.Seen.{opened}
use Rattle.minix_choice.specs.declared.write_fault.WriteFault.{WriteFault}
use Rattle.minix_choice.specs.declared.write_fault.WriteFault.TheVariants.{Links, Device}
use Rattle.minix_zones.specs.Volume.{volume_view, past_of}
use Rattle.minix_zones.specs.declared.volume.Volume.{Volume}
use Rattle.minix_zones.proofs.WriteLemmas.{keeps_join, cause_after}
use Rattle.install_stage_laws.proofs.Spared.{leaves_both}
use Rattle.install_stage_laws.specs.BeginLaws.{GainsNothing}
use Rattle.install_laws.specs.InstallVerdict.{last_name}
use Rattle.install_laws.specs.Writes.{IsOfDirectory, MayBeWritten, IsWritable, IsApartSector, WritesOnly}
use Rattle.install_laws.proofs.Writes.{writes_only_law}
use Rattle.install_stage.specs.Within.{is_chosen, is_inode_of, and_zones, IsKept, WritesJoin}
use Rattle.install_stage_laws.specs.Marked.{FreesAt, IsFreed}
use Rattle.install_stage_laws.proofs.Marked.{but_join, but_none}
use Rattle.install_stage.proofs.Marked.{replaced_freed}
use Rattle.install_stage.proofs.After.{was_writable, writes_join, gains_join_law}
use Rattle.install_stage.proofs.Kept.{apart_law}
use Rattle.install_stage.proofs.Within.{zones_data}
use Rattle.install_room.specs.Making.{MayMake}
use Rattle.install_settle.specs.Settles.{HasNames}
use Rattle.install_settle.specs.Steps.{Does}
use Rattle.install_settle.proofs.LeadLemmas.{held-is}
use Rattle.install_settle.proofs.PathLemmas.{tilde-differs}
use Rattle.install_settle.proofs.RenameLemmas.{IsMovable, does-rename, files-renamed, leaves-untold}
use Rattle.install_stage_laws.proofs.Sectors.{keeps_rest_law}
use Rattle.install_stage.specs.Halves.{backup_blocks}
use Rattle.install_stage.specs.BackupStaged.{with_backup, KeepsApart, IsStaging}
use Rattle.install_stage.specs.BackupStages.{MayReplace, MayStageFile, LeavesRoom, MarksFile, StagesFile}
use Rattle.install_stage.proofs.CopyLemmas.{IsForFile, creates-at, sound-was, free-file, absent-was, was-made, wrote, leads-at, left-told, making-any, marked}
use Rattle.install_stage.proofs.FileLemmas.{one-link}
use Rattle.install_stage.proofs.BackupImageLemmas.{moving-staging, moved-names}

-- ---- paths

-- a path with `~` has a path without it
pub tilde-of : (path : List (List ℕ)) (name : List ℕ) → name ∷ path_above (with_tilde path) ≡ with_tilde path
    → (path ≡ last_name path ∷ path_above (with_tilde path)) × (name ≡ last_name path ++ codes "~")
tilde-of [] name is = absurd (cc)
tilde-of (plain ∷ above) name is = (refl, ap (λ (p : List (List ℕ)). get_or p 0 []) is)

longer : (name : List ℕ) (above : List (List ℕ)) → above ≢ name ∷ above
longer name above same = let long : length above ≡ suc (length above) = ap length same in omega (arith, long)

-- ---- what is a file

-- what is a regular file's content is a regular file
thing-file : (super : Super) (parts : Parts) (number : ℕ) (bytes : List ℕ) → thing super parts number ≡ File bytes → is_file (parts.node number) ≡ true
unfolding thing
thing-file super parts number bytes is = by (is_file (parts.node number)) (is_link (parts.node number)) (is_directory (parts.node number)) is
  where
    by : (file link directory : Bool) → (if file then File (content super parts number) else (if link then Link (content super parts number) else (if directory then Directory else Other))) ≡ File bytes → file ≡ true
    by true link directory is = refl
    by false true directory is = cc
    by false false true is = cc
    by false false false is = cc

-- one link is fewer than there can be
few-links : (kind : Kind) (links : ℕ) → links ≡ 1 → links < most_links kind
few-links kind links one = by (is_v1 kind)
  where
    by : (v1 : Bool) → links < (if v1 then 255 else 65535)
    by true = omega (arith, one)
    by false = omega (arith, one)

-- ---- more zones

module _ (volume : model.Volume) (image : Image) (one other : ℕ → Bool) (more : (zone : ℕ) → one zone ≡ true → other zone ≡ true) where
  zone-more : (zone : ℕ) → (one zone ≡ true) ⊎ IsOfDirectory volume image zone → (other zone ≡ true) ⊎ IsOfDirectory volume image zone
  zone-more zone (inl picked) = inl (more zone picked)
  zone-more zone (inr of) = inr of

  sector-more : (sector : ℕ) → MayBeWritten volume image one sector → MayBeWritten volume image other sector
  sector-more sector (inl tables) = inl tables
  sector-more sector (inr zone) = inr (zone.0, zone.1, zone-more zone.0 zone.2)

  place-more : (place : DiskSector) → IsWritable volume image one place → IsWritable volume image other place
  place-more place w = record { sector = w.sector; inside = w.inside; is = w.is; may = sector-more w.sector w.may }

writes-more : (volume : model.Volume) (one other : ℕ → Bool) (old new : Option Past) → ((zone : ℕ) → one zone ≡ true → other zone ≡ true) → WritesOnly volume one old new → WritesOnly volume other old new
writes-more volume one other old new more writes =
    leaves_weaker old new _ _ writes (λ c same place not. same place (λ w. not (place-more volume (now old) one other more place w)))

abbrev None-chosen : ℕ → Bool
None-chosen zone = false

with-none : (chosen own : Bool) → ((chosen || false) || own) ≡ true → (chosen || own) ≡ true
with-none true own is = refl
with-none false own is = is

-- ---- the backup's name is given

module _ {D : Type 0} {disks : Ghosts D} (start mid : Volume D disks) (chosen : Chosen) (path : List (List ℕ)) (present : List ℕ) (is : IsForFile start chosen present)
    (quiet : IsQuiet (past_of start)) (may : IsTold (past_of start) → MayStageFile start path true chosen)
    (makes : CreatesOn start mid chosen (block_of (backup_blocks present)) (Ok tt)) (quiet-mid : IsQuiet (past_of mid)) where
  abbrev View : model.Volume
  View = volume_view start

  abbrev Was : Image
  Was = now (past_of start)

  abbrev Then : Image
  Then = now (past_of mid)

  abbrev Tilde : List (List ℕ)
  Tilde = with_tilde path

  abbrev Above : List (List ℕ)
  Above = path_above Tilde

  creates : Creates start mid Above chosen (block_of (backup_blocks present)) (Ok tt)
  creates = creates-at start mid chosen true path present is quiet may (Ok tt) makes

  view : volume_view mid ≡ View
  view = rw (creates.leads.kept.same_span, creates.leads.kept.same_layout) refl

  module _ (told : IsTold (past_of start)) where
    make : MayMake start Tilde chosen
    make = (may told).make

    over : MayReplace start path
    over = (may told).over refl

    sound : IsSound View Was
    sound = sound-was start mid chosen true path present is quiet may told

    absent : reached View.layout (parts_of View Was) Tilde ≡ None
    absent = absent-was start mid chosen true path present is quiet may told

    made : HasTreeWith View Was Then Tilde (Some chosen.choice.inode) (Some (File present))
    made = (leads-at start mid chosen true path present is quiet may told (Ok tt) creates).done told

    was : WasMade start mid chosen
    was = was-made start mid chosen true path present is quiet may told creates

    path-is : path ≡ last_name path ∷ Above
    path-is = (tilde-of path chosen.name make.ends).0

    name-is : chosen.name ≡ last_name path ++ codes "~"
    name-is = (tilde-of path chosen.name make.ends).1

    told-mid : IsTold (past_of mid)
    told-mid = creates.leads.goes_on.told told

    leads-then : reached View.layout (parts_of View Then) Above ≡ Some chosen.directory
    leads-then = made.tree.others Above (λ same. longer chosen.name Above (same ∙ sym make.ends)) ∙ make.name.leads

    directory-then : is_directory ((parts_of View Then).node chosen.directory) ≡ true
    directory-then =
        ap (λ (mode : ℕ). mode / 4096 == 4) (made.tree.keeps.modes chosen.directory (record { path = Above; leads = make.name.leads }) (record { path = Above; leads = leads-then }))
        ∙ make.name.is

    from-leads : reached View.layout (parts_of View Then) (chosen.name ∷ Above) ≡ Some chosen.choice.inode
    from-leads = ap (reached View.layout (parts_of View Then)) make.ends ∙ made.tree.here

    regular-then : is_file ((parts_of View Then).node chosen.choice.inode) ≡ true
    regular-then =
        let same : Some (thing View.layout (parts_of View Then) chosen.choice.inode) ≡ Some (File present) = made.tree.is in
        let file : thing View.layout (parts_of View Then) chosen.choice.inode ≡ File present = cc in
        thing-file View.layout (parts_of View Then) chosen.choice.inode present file

    -- it has one link
    links-then : ((parts_of View Then).node chosen.choice.inode).links ≡ 1
    links-then = ap (λ (i : Inode). i.links) (creates.node told) ∙ one-link chosen is.mode

    path-leads : reached View.layout (parts_of View Then) path ≡ reached View.layout (parts_of View Was) path
    path-leads = made.tree.others path (tilde-differs path (last_name path) Above path-is)

    former-file : IfSome (reached View.layout (parts_of View Then) path) (λ number. is_file ((parts_of View Then).node number) ≡ true)
    former-file = by (reached View.layout (parts_of View Was) path) refl over.file
      where
        by : (found : Option ℕ) → reached View.layout (parts_of View Was) path ≡ found → IfSome found (λ number. is_file ((parts_of View Was).node number) ≡ true)
            → IfSome (reached View.layout (parts_of View Then) path) (λ number. is_file ((parts_of View Then).node number) ≡ true)
        by None none file = rw (path-leads ∙ none) tt
        by (Some number) found file =
            rw (path-leads ∙ found)
            (ap (λ (mode : ℕ). mode / 4096 == 8) (made.tree.keeps.modes number (record { path = path; leads = found }) (record { path = path; leads = path-leads ∙ found })) ∙ file)

    to-leads : reached View.layout (parts_of View Then) (last_name path ∷ Above) ≡ reached View.layout (parts_of View Then) path
    to-leads = ap (reached View.layout (parts_of View Then)) (sym path-is)

    link-by : (former : Option ℕ) → IfSome former (λ number. ((parts_of View Then).node chosen.choice.inode).links < most_links View.layout.kind)
    link-by None = tt
    link-by (Some former) = few-links View.layout.kind ((parts_of View Then).node chosen.choice.inode).links links-then

    movable : IsMovable View.layout (parts_of View Then) path chosen.directory chosen.name (last_name path)
    movable = record {
      above = Above;
      is = path-is;
      twin = name-is;
      leads = leads-then;
      directory_is = directory-then;
      moved = chosen.choice.inode;
      there = made.tree.here;
      held_from = sym (held-is View.layout (parts_of View Then) chosen.directory chosen.name Above leads-then directory-then make.name.plain) ∙ from-leads;
      held_to = sym (held-is View.layout (parts_of View Then) chosen.directory (last_name path) Above leads-then directory-then over.plain) ∙ to-leads;
      regular = regular-then;
      former = former-file;
      link = link-by (reached View.layout (parts_of View Then) path);
    }

    pub in-directory : IsDirectoryNow mid chosen.directory
    in-directory =
        let D : model.Volume → Type 0 = λ v. IsSound v Then × (Named v.layout (parts_of v Then) chosen.directory × (is_directory ((parts_of v Then).node chosen.directory) ≡ true)) in
        let all = subst D (sym view) (made.sound, (record { path = Above; leads = leads-then }, directory-then)) in
        record { sound = all.0; named = all.1.0; is = all.1.1 }

    -- what is renamed
    module _ (new : Volume D disks) (to : List ℕ) (to-is : to ≡ last_name path) (result : Result (Unit {0}) WriteFault)
        (renames : Renames mid new chosen.directory chosen.name to result) where
      renames-last : Renames mid new chosen.directory chosen.name (last_name path) result
      renames-last = subst (λ (name : List ℕ). Renames mid new chosen.directory chosen.name name result) to-is renames

      does : Does mid new (IsMoving View Then Tilde path) (λ c. HasTreeMoved View Then c Tilde path) result
      does =
          let D : model.Volume → Type 0 = λ v. IsSound v Then in
          let R : model.Volume → Type 0 = λ v. IsMovable v.layout (parts_of v Then) path chosen.directory chosen.name (last_name path) in
          let step = does-rename mid new chosen.directory chosen.name (last_name path) result (λ t. subst D (sym view) made.sound) renames-last path (λ t. subst R (sym view) movable) in
          let M : model.Volume → Type 0 = λ v. Does mid new (IsMoving v Then Tilde path) (λ c. HasTreeMoved v Then c Tilde path) result in
          subst M view step

      told-new : IsTold (past_of new)
      told-new = does.goes_on.told told-mid

      wrote-none : WritesOnly View None-chosen (past_of mid) (past_of new)
      wrote-none = subst (λ (v : model.Volume). WritesOnly v None-chosen (past_of mid) (past_of new)) view
          (writes_only_law (volume_view mid) None-chosen (past_of mid) (past_of new) quiet-mid (does.others told-mid))

      apart-then : (c : Image) → ((place : DiskSector) → (IsWritable View Then None-chosen place → ⊥) → bytes_at c place ≡ bytes_at Then place) → KeepsApart View Was c
      apart-then c kept d s apart =
          kept (record { disk = d; sector = s }) (apart_law View Then None-chosen d s made.sound (λ zone none. absurd (cc)) apart)
          ∙ (left-told start mid chosen true path present is quiet may told (Ok tt) creates).apart d s apart

      apart-new : KeepsApart View Was (now (past_of new))
      apart-new = apart-then (now (past_of new)) ((keeps_rest_law View None-chosen (past_of mid) (past_of new) wrote-none).1 told-new)

      second : LeavesOnly (past_of mid) (past_of new) (IsStaging View Was true path present)
      second = leaves_weaker (past_of mid) (past_of new) _ _ (leaves_both (past_of mid) (past_of new) _ _ does.any_moment wrote-none)
          (λ c both. moving-staging View Was path present sound absent Then (Some chosen.choice.inode) made c (apart-then c both.1) both.0)

      left-over : IsStaging View Was true path present (now (past_of new))
      left-over = moving-staging View Was path present sound absent Then (Some chosen.choice.inode) made (now (past_of new)) apart-new (does.left told-mid)

      done-over : OnOk result (HasNames View (now (past_of new)) (with_backup true path present (names_in View Was)))
      done-over = on_ok result _ _ (does.done told-mid) (λ moved. moved-names View Was path present sound absent Then (Some chosen.choice.inode) made (now (past_of new)) apart-new moved)

      others-over : (place : DiskSector) → IsKept start (is_chosen chosen) place → NotWritten (past_of start) (past_of new) place.disk place.sector
      others-over place not =
          not_written_join (past_of start) (past_of mid) (past_of new) place.disk place.sector
          ((wrote start mid chosen true path present is quiet may told (Ok tt) creates).others place not)
          (does.others told-mid place (λ w. not (was_writable start mid chosen (free-file start mid chosen true path present is quiet may told).file was None-chosen place w)))

      apart-over : (d s : ℕ) → IsApartSector View d s → NotWritten (past_of start) (past_of new) d s
      apart-over d s apart = others-over (record { disk = d; sector = s })
          (apart_law View Was (is_chosen chosen) d s sound (zones_data start chosen (free-file start mid chosen true path present is quiet may told)) apart)

      view-new : volume_view new ≡ View
      view-new = let same : volume_view new ≡ volume_view mid = rw (does.kept.same_span, does.kept.same_layout) refl in same ∙ view

      joins-with : GainsNothing (volume_view mid) Then (now (past_of new)) → WritesJoin start new chosen
      joins-with gains zones later q next =
          writes-more View (and_zones (is_chosen chosen) (and_zones None-chosen zones)) (and_zones (is_chosen chosen) zones) (past_of start) later (λ zone. with-none (zones zone) (is_chosen chosen zone))
          (writes_join start mid chosen (free-file start mid chosen true path present is quiet may told) was (and_zones None-chosen zones) later q
          (subst (λ (v : model.Volume). WritesOnly v (and_zones None-chosen zones) (past_of mid) later) (sym view)
          (gains_join_law View None-chosen zones (past_of mid) (past_of new) later told-new (subst (λ (v : model.Volume). GainsNothing v Then (now (past_of new))) view gains) wrote-none
          (subst (λ (v : model.Volume). WritesOnly v zones (past_of new) later) view-new next))))

      -- what was at the path is freed
      module _ (former : ℕ) (at : reached View.layout (parts_of View Was) path ≡ Some former)
          (files : RenamesFiles View.layout (parts_of View Then) (parts_of View (now (past_of new))) chosen.directory (reached View.layout (parts_of View Then) path))
          (few : ((parts_of View Was).node former).links ≤ 1) where
        at-then : reached View.layout (parts_of View Then) path ≡ Some former
        at-then = path-leads ∙ at

        file-then : is_file ((parts_of View Then).node former) ≡ true
        file-then =
            let F : Option ℕ → Type 0 = λ o. IfSome o (λ number. is_file ((parts_of View Then).node number) ≡ true) in
            subst F at-then former-file

        unmarked : (number : ℕ) → is_inode_of chosen number ≡ true → (parts_of View Was).has_inode number ≡ false
        unmarked number its = subst (λ (n : ℕ). (parts_of View Was).has_inode n ≡ false) (sym (eqb-true number chosen.choice.inode its)) make.free.inode

        freed-over : IsFreed View.layout (parts_of View Was) former (parts_of View (now (past_of new)))
        freed-over =
            replaced_freed View.layout (parts_of View Was) (parts_of View Then) (parts_of View (now (past_of new))) (is_inode_of chosen) (is_chosen chosen) chosen.directory former path
            (opened View Was sound).parts (opened View Then made.sound).parts at at-then (marked start mid chosen true path present is quiet may told creates) unmarked
            (λ pointer zone to. made.tree.keeps.stays former pointer zone (record { named = record { path = path; leads = at }; to = to }) (record { path = path; leads = at-then }))
            file-then files few

      frees-over : RenamesFiles View.layout (parts_of View Then) (parts_of View (now (past_of new))) chosen.directory (reached View.layout (parts_of View Then) path)
          → FreesAt View.layout (parts_of View Was) path (parts_of View (now (past_of new)))
      frees-over files = by (reached View.layout (parts_of View Was) path) refl
        where
          by : (found : Option ℕ) → reached View.layout (parts_of View Was) path ≡ found
              → IfSome found (λ former. ((parts_of View Was).node former).links ≤ 1 → IsFreed View.layout (parts_of View Was) former (parts_of View (now (past_of new))))
          by None at = tt
          by (Some former) at = λ few. freed-over former at files few

      files-over : OnOk result (RenamesFiles View.layout (parts_of View Then) (parts_of View (now (past_of new))) chosen.directory (reached View.layout (parts_of View Then) path))
      files-over =
          let D : model.Volume → Type 0 = λ v. IsSound v Then in
          let R : model.Volume → Type 0 = λ v. IsMovable v.layout (parts_of v Then) path chosen.directory chosen.name (last_name path) in
          subst₂ (λ (v w : model.Volume). OnOk result (RenamesFiles v.layout (parts_of v Then) (parts_of w (now (past_of new))) chosen.directory (reached v.layout (parts_of v Then) path)))
          view view-new
          (files-renamed mid new chosen.directory chosen.name (last_name path) result (λ t. subst D (sym view) made.sound) renames-last path told-mid (subst R (sym view) movable))

      marks-by : (r : Result (Unit {0}) WriteFault) → OnOk r (GainsNothing (volume_view mid) Then (now (past_of new))) → OnOk r (HasTreeMoved View Then (now (past_of new)) Tilde path)
          → OnOk r (RenamesFiles View.layout (parts_of View Then) (parts_of View (now (past_of new))) chosen.directory (reached View.layout (parts_of View Then) path))
          → OnOk r (MarksFile View path chosen Was (now (past_of new)))
      marks-by (Err fault) gains moved files = tt
      marks-by (Ok done) gains moved files = record {
        frees = frees-over files;
        leads = moved.tree.here ∙ made.tree.here;
        only =
            let same = subst (λ (v : model.Volume). GainsNothing v Then (now (past_of new))) view gains in
            but_join View.layout (is_inode_of chosen) (is_chosen chosen) (parts_of View Was) (parts_of View Then) (parts_of View (now (past_of new)))
            (marked start mid chosen true path present is quiet may told creates)
            (but_none View.layout (is_inode_of chosen) (is_chosen chosen) (parts_of View Then) (parts_of View (now (past_of new))) same.marked);
      }

      marks-over : OnOk result (MarksFile View path chosen Was (now (past_of new)))
      marks-over = marks-by result (does.gains told-mid) (does.done told-mid) files-over

      joins-over : OnOk result (WritesJoin start new chosen)
      joins-over = on_ok result _ _ (does.gains told-mid) joins-with

    module _ (new : Volume D disks) (to : List ℕ) (to-is : to ≡ last_name path) where
      room-over : (result : Result (Unit {0}) WriteFault) → Renames mid new chosen.directory chosen.name to result → OnOk result (LeavesRoom start new path chosen)
      room-over (Err fault) renames = tt
      room-over (Ok done) renames = λ other suits apart.
          let first = left_free start mid chosen other suits apart was in
          let later = stays_free mid new chosen.directory chosen.name to other first.suits (record { told = told-mid; in_directory = in-directory; renames = renames }) in
          record {
            suits = later.suits;
            free = λ free. later.free (first.free free);
            name = λ outer may names. later.name outer (first.name outer may names.made) (λ same is. names.plain same (is ∙ to-is));
          }

  -- in the whole
  module _ (new : Volume D disks) (to : List ℕ) (to-is : IsTold (past_of start) → to ≡ last_name path) (result : Result (Unit {0}) WriteFault)
      (renames : Renames mid new chosen.directory chosen.name to result) where
    whole-goes : Rattle.disk_trait.specs.Calls.GoesOn disks start.disks.now new.disks.now
    whole-goes = goes_on_join disks start.disks.now mid.disks.now new.disks.now creates.leads.goes_on renames.moves.goes_on

    untold-new : (IsTold (past_of start) → ⊥) → IsTold (past_of new) → ⊥
    untold-new none told = none (whole-goes.told_before told)

    over-any : LeavesOnly (past_of start) (past_of new) (IsStaging View Was true path present)
    over-any = by (told_or_not (past_of start))
      where
        by : IsTold (past_of start) ⊎ (IsTold (past_of start) → ⊥) → LeavesOnly (past_of start) (past_of new) (IsStaging View Was true path present)
        by (inl told) = leaves_join (past_of start) (past_of mid) (past_of new) _ (making-any start mid chosen true path present is quiet may (Ok tt) creates) (second told new to (to-is told) result renames)
        by (inr none) = leaves-untold (past_of start) (past_of new) _ none (untold-new none)

    over-only : WritesOnly View (is_chosen chosen) (past_of start) (past_of new)
    over-only = by (told_or_not (past_of start))
      where
        by : IsTold (past_of start) ⊎ (IsTold (past_of start) → ⊥) → WritesOnly View (is_chosen chosen) (past_of start) (past_of new)
        by (inl told) = writes_only_law View (is_chosen chosen) (past_of start) (past_of new) quiet (others-over told new to (to-is told) result renames)
        by (inr none) = leaves-untold (past_of start) (past_of new) _ none (untold-new none)

    pub stages-over : StagesFile start new path true present chosen result
    stages-over = record {
      any_moment = over-any;
      left = λ told. left-over told new to (to-is told) result renames;
      done = λ told. done-over told new to (to-is told) result renames;
      others = λ told. others-over told new to (to-is told) result renames;
      only = over-only;
      apart = λ told. apart-over told new to (to-is told) result renames;
      joins = λ told. joins-over told new to (to-is told) result renames;
      marks = λ told. marks-over told new to (to-is told) result renames;
      room = λ told. room-over told new to (to-is told) result renames;
      device = λ told. cause_after start mid new Device result creates.leads.goes_on.later ((does told new to (to-is told) result renames).device (told-mid told));
      goes_on = whole-goes;
      kept = keeps_join start mid new creates.leads.kept renames.moves.kept;
    }
