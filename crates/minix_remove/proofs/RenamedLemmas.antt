-- A name that becomes another which is absent, or that of the same inode.
use Rattle.std.proofs.Common.{◌≡◌, ◌≢◌, ◌≤◌, ◌<◌, ◌+◌, ◌*◌, ◌/◌, ◌%◌, ◌^◌, ℕ, List, ◌∷◌, length, Option, Some, None, Result, OnOk, sym, ◌∙◌, ap, subst, arith}
use Rattle.disk_trait.specs.declared.disks.Disks.{Ghosts}
use Rattle.disk_trait.specs.Past.{Image}
use Rattle.disk_trait.specs.Moments.{IsTold, now}
use Rattle.disk_trait.proofs.MomentLemmas.{on_ok}
use Rattle.lilo_model.specs.MinixEntries.{entries_per_block}
use Rattle.lilo_model.specs.MinixLayout.{entry_size, name_size, zone_sector}
use Rattle.lilo_model.specs.MinixNames.{reached}
use Rattle.lilo_model.specs.MinixParts as model
use Rattle.lilo_model.specs.MinixParts.{Parts, parts_of}
use Rattle.minix_change_laws.specs.Written.{entry_bytes}
use Rattle.minix_change_laws.proofs.EntryBytes.{entry_bytes_law}
use Rattle.minix_change_laws.proofs.Images.{rename_bytes_law}
use Rattle.minix_change_laws.proofs.Written.{written_law}
use Rattle.minix_change_laws.specs.Changes.{ChangesZone}
use Rattle.minix_layout.specs.View.{kind_view, super_view}
use Rattle.minix_remove_laws.specs.Files.{KeepsFiles}
use Rattle.minix_remove_laws.specs.Held.{held_name, IsAbsent}
use Rattle.minix_remove_laws.proofs.Files.{keeps_zone}
use Rattle.minix_remove_laws.proofs.Held.{absent_law}
use Rattle.minix_change_laws.specs.Tree.{HasTreeMoved}
use Rattle.minix_change_laws.proofs.Seen.{opened}
use Rattle.minix_steps.specs.Written.{with_sector_of, parts_now}
use Rattle.minix_steps.proofs.StepLemmas.{same_view}
use Rattle.minix_turns.specs.Part.{part_rewritten, TurnsNamedEntry, HasEntryPart}
use Rattle.minix_turns.proofs.EntryLemmas.{entry-long}
use Rattle.minix_turns.proofs.NameLemmas.{entry_at}
use Rattle.minix_turns.proofs.PartLemmas.{entry_has}
use Rattle.minix_change_laws.specs.Part.{with_zone_part}
use Rattle.minix_change_laws.proofs.Part.{part_law}
use Rattle.minix_zones.specs.Volume.{volume_view, past_of}
use Rattle.minix_zones.specs.declared.volume.Volume.{Volume}
use Rattle.minix_zones.specs.declared.zone_fault.ZoneFault.{ZoneFault}
use Rattle.minix_zones.specs.declared.zone_fault.ZoneFault.TheVariants.{Device}
use Rattle.minix_remove.specs.Removed.{GainsNoZone, KeepsEachPlace, Takes}
use Rattle.minix_remove.specs.Renamed.{RenamesFiles, IsRenaming, Carries}
use Rattle.minix_remove.specs.Target.{FitsTarget}
use Rattle.minix_remove.specs.declared.target.Target.{Target}
use Rattle.minix_remove.proofs.PlaceLemmas.{used_entry, is_used}
use Rattle.minix_remove.proofs.PointerLemmas.{gains_one}
use Rattle.minix_remove.proofs.MoveLemmas.{leads_moves, turn_moves}
use Rattle.minix_remove.proofs.TakeLemmas.{may_go, placed, points, off_entry}

-- two names of a directory are two paths
pub apart_names : (outer : List (List ℕ)) (from to : List ℕ) → from ≢ to → from ∷ outer ≢ to ∷ outer
apart_names outer from to names same = let head : from ≡ to = cc in names head

-- ---- the other name is absent

module _ {D : Type 0} {disks : Ghosts D} (old new : Volume D disks) (directory : ℕ) (from to : List ℕ) (moved : Target) (index : ℕ) (fits : FitsTarget old.layout moved)
    (low : index < entries_per_block (kind_view old.layout.kind)) (slot : index ≡ moved.place % entries_per_block (kind_view old.layout.kind))
    (short : length to ≤ name_size (kind_view old.layout.kind)) (may : IsTold (past_of old) → IsRenaming old directory from to moved None)
    (result : Result (Unit {0}) ZoneFault) (turns : TurnsNamedEntry old new moved.zone index moved.inode to Device result)
    (entry : IsTold (past_of old) → OnOk result (HasEntryPart old (now (past_of new)) moved.zone index (entry_bytes (kind_view old.layout.kind) moved.inode to))) where
  abbrev View : model.Volume
  View = volume_view old

  abbrev Was : Parts
  Was = parts_now old

  abbrev Bytes : List ℕ
  Bytes = entry_bytes (kind_view old.layout.kind) moved.inode to

  low16 : moved.inode < 2 ^ 16
  low16 = let few = old.whole.inodes_fit in omega (arith, fits.there, few)

  long : length Bytes ≡ entry_size (kind_view old.layout.kind)
  long = entry-long (kind_view old.layout.kind) moved.inode to short

  abbrev With : Image
  With = with_sector_of View (now (past_of old)) (zone_sector moved.zone + entry_size (kind_view old.layout.kind) * index / 512) (part_rewritten old moved.zone (entry_size (kind_view old.layout.kind) * index) Bytes)

  module _ (told : IsTold (past_of old)) where
    absent : IsAbsent (super_view old.layout) Was directory to
    absent =
        let here = (may told).leads.in_directory in
        absent_law (super_view old.layout) Was directory to (opened View (now (past_of old)) here.sound).parts here.named here.is (may told).over

    has-moved : (outer : List (List ℕ)) → reached (super_view old.layout) Was outer ≡ Some directory → HasTreeMoved View (now (past_of old)) With (from ∷ outer) (to ∷ outer)
    has-moved outer leads =
        let is = (may told).leads in
        rename_bytes_law View (now (past_of old)) With outer directory moved.place moved.inode from to Bytes is.in_directory.sound (placed old directory from moved is)
        (entry_at View (now (past_of old)) With directory moved.place moved.zone index Bytes long is.lies (sym slot) (entry_has old new moved.zone index Bytes Device result fits.zone.below low long turns))
        (entry_bytes_law (kind_view old.layout.kind) moved.inode to low16 (may told).fits).1
        (record { may = (may_go old directory from moved is outer leads).may; plain = absent.plain; absent = absent.absent })

    changes : HasEntryPart old (now (past_of new)) moved.zone index Bytes
        → ChangesZone (super_view old.layout) Was (parts_of View (now (past_of new))) moved.zone (with_zone_part Was moved.zone (entry_size (kind_view old.layout.kind) * index) Bytes)
    changes has =
        let is = (may told).leads in
        (part_law View (now (past_of old)) (now (past_of new)) moved.zone (entry_size (kind_view old.layout.kind) * index) Bytes is.in_directory.sound (fits.zone.from, fits.zone.below) has).change

    keeps : HasEntryPart old (now (past_of new)) moved.zone index Bytes → KeepsFiles (super_view old.layout) Was (parts_of View (now (past_of new))) directory
    keeps has = keeps_zone (super_view old.layout) Was (parts_of View (now (past_of new))) directory moved.zone _ (changes has) _ (points old directory from moved (may told).leads)

    gains : OnOk result (GainsNoZone (super_view old.layout) Was (parts_now new) directory)
    gains =
        let V : model.Volume → Type 0 = λ view. GainsNoZone (super_view old.layout) Was (parts_of view (now (past_of new))) directory in
        on_ok result _ _ (entry told) (λ has.
        let is = (may told).leads in
        let here = is.holds.entry in
        let parts = (opened View (now (past_of old)) is.in_directory.sound).parts in
        let change = changes has in
        subst V (sym (same_view old new turns.kept))
        (gains_one (super_view old.layout) Was (parts_of View (now (past_of new))) directory parts here.named here.is (change.nodes directory (parts.in_range directory here.named)) moved.place
        (λ zone in' apart. change.others zone in' (λ same. apart (same ∙ sym is.lies)))))

    places : OnOk result (KeepsEachPlace (super_view old.layout) Was (parts_now new))
    places =
        let V : model.Volume → Type 0 = λ view. KeepsEachPlace (super_view old.layout) Was (parts_of view (now (past_of new))) in
        on_ok result _ _ (entry told) (λ has.
        let is = (may told).leads in
        let bytes = entry_at View (now (past_of old)) (now (past_of new)) directory moved.place moved.zone index Bytes long is.lies (sym slot) has in
        let only = (written_law View (now (past_of old)) (now (past_of new)) directory moved.place Bytes is.in_directory.sound (placed old directory from moved is) bytes).only in
        subst V (sym (same_view old new turns.kept))
        (used_entry (super_view old.layout) Was (parts_of View (now (past_of new))) directory moved.place (opened View (now (past_of old)) is.in_directory.sound).parts only
        (is_used (super_view old.layout) Was directory moved.place moved.inode from is.holds.entry.says is.holds.entry.some)))

    files : OnOk result (RenamesFiles (super_view old.layout) Was (parts_now new) directory (held_name (super_view old.layout) Was directory to))
    files =
        let V : model.Volume → Type 0 = λ view. KeepsFiles (super_view old.layout) Was (parts_of view (now (past_of new))) directory in
        let F : Option ℕ → Type 0 = λ held. RenamesFiles (super_view old.layout) Was (parts_now new) directory held in
        on_ok result _ _ (entry told) (λ has. subst F (sym (may told).over) (subst V (sym (same_view old new turns.kept)) (keeps has)))

  pub carries_entry : Carries old new directory from to result
  carries_entry = record {
    moves = record {
      moves = λ outer leads. turn_moves old new (from ∷ outer) (to ∷ outer) _ _ Device result turns (λ told. (may told).leads.in_directory.sound) (λ told. has-moved told outer (leads told));
      files = files;
      gains = gains;
      places = places;
      others = λ told d s off. turns.others d s (off_entry old directory from moved index fits low slot (may told).leads d s off.zones);
      goes_on = turns.goes_on;
      kept = turns.kept;
    };
    device = λ told. turns.device;
  }

-- ---- both names are those of one inode

module _ {D : Type 0} {disks : Ghosts D} (old new : Volume D disks) (directory : ℕ) (from to : List ℕ) (moved former : Target) (one : former.inode ≡ moved.inode)
    (may : IsTold (past_of old) → IsRenaming old directory from to moved (Some former)) (result : Result (Unit {0}) ZoneFault) (takes : Takes old new directory from moved result) where
  same-inode : IsTold (past_of old) → (outer : List (List ℕ)) → reached (super_view old.layout) (parts_now old) outer ≡ Some directory
      → reached (super_view old.layout) (parts_now old) (to ∷ outer) ≡ reached (super_view old.layout) (parts_now old) (from ∷ outer)
  same-inode told outer leads =
      let there = (may_go old directory to former (may told).over outer leads).leads in
      let here = (may_go old directory from moved (may told).leads outer leads).leads in
      there ∙ (ap (λ n. Some n) one ∙ sym here)

  held-is : IsTold (past_of old) → held_name (super_view old.layout) (parts_now old) directory to ≡ Some moved.inode
  held-is told = (may told).over.held ∙ ap (λ n. Some n) one

  pub carries_same : Carries old new directory from to result
  carries_same = record {
    moves = record {
      moves = λ outer leads. leads_moves old new (from ∷ outer) (to ∷ outer) result (λ told. apart_names outer from to (may told).names) (λ told. same-inode told outer (leads told)) (takes.leads outer leads);
      files = λ told.
          let F : Option ℕ → Type 0 = λ held. RenamesFiles (super_view old.layout) (parts_now old) (parts_now new) directory held in
          on_ok result _ _ (takes.file told) (λ file. subst F (sym (held-is told)) file);
      gains = takes.gains;
      places = takes.places;
      others = λ told d s off. takes.others told d s (record { zones = off.zones; file = (off.files moved.inode former.inode (may told).leads.held (may told).over.held).0 });
      goes_on = takes.goes_on;
      kept = takes.kept;
    };
    device = takes.device;
  }
