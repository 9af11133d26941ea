-- What was chosen for a file is free still, once one name took the place of another.
use Rattle.std.proofs.Common.{◌≡◌, ◌<◌, ℕ, false, List, ◌∷◌, length, None, sym, subst}
use Rattle.std.specs.Prelude.{slice_index}
use Rattle.disk_trait.specs.declared.disks.Disks.{Ghosts}
use Rattle.disk_trait.specs.Moments.{now}
use Rattle.lilo_model.specs.MinixNames.{IsSound}
use Rattle.lilo_model.specs.MinixParts as model
use Rattle.lilo_model.specs.MinixParts.{Parts, parts_of}
use Rattle.minix_choice_laws.specs.Choice.{file_of, MayHavePlace}
use Rattle.minix_create.specs.Chosen.{Suits, IsFreeNow}
use Rattle.minix_create.specs.Grown.{MayGrowIn}
use Rattle.minix_create.specs.declared.chosen.Chosen.{Chosen}
use Rattle.minix_create.proofs.OpenLemmas.{suits_kept}
use Rattle.minix_choice_laws.specs.FillLaws.{MayBeFile}
use Rattle.minix_layout.specs.View.{super_view}
use Rattle.minix_remove.specs.Removed.{GainsNoZone, KeepsEachPlace}
use Rattle.minix_remove.specs.Renamed.{rename_refusal, RenamesFiles}
use Rattle.minix_remove_laws.specs.Held.{held_name}
use Rattle.minix_change_laws.specs.Tree.{HasTreeMoved}
use Rattle.minix_change_laws.proofs.Seen.{opened}
use Rattle.minix_steps.specs.Written.{parts_now}
use Rattle.minix_steps.proofs.StepLemmas.{same_view}
use Rattle.minix_zones.specs.Volume.{volume_view, past_of}
use Rattle.minix_zones.specs.declared.volume.Volume.{Volume}
use Rattle.minix_remove.specs.Replaced.{WasRenamed, StaysFree}
use Rattle.minix_remove.proofs.Refers.{inode_clear, zone_clear}
use Rattle.minix_remove.proofs.Renamed.{former_beside, place_stays, growth_stays}

module _ {D : Type 0} {disks : Ghosts D} (start volume : Volume D disks) (directory : ℕ) (from to : List ℕ) (other : Chosen) (suits : Suits start.layout start.span other)
    (was : WasRenamed start volume directory from to) where
  abbrev View : model.Volume
  View = volume_view start

  abbrev Old : Parts
  Old = parts_now start

  abbrev New : Parts
  New = parts_of View (now (past_of volume))

  view : volume_view volume ≡ View
  view = same_view start volume was.renames.moves.kept

  at_volume : (P : model.Volume → Type 0) → P View → P (volume_view volume)
  at_volume P holds = subst P (sym view) holds

  at_start : (P : model.Volume → Type 0) → P (volume_view volume) → P View
  at_start P holds = subst P view holds

  abbrev Outer : List (List ℕ)
  Outer = was.in_directory.named.path

  moved : HasTreeMoved View (now (past_of start)) (now (past_of volume)) (from ∷ Outer) (to ∷ Outer)
  moved = (was.renames.moves.moves Outer (λ told. was.in_directory.named.leads)).done was.told

  none : rename_refusal (super_view start.layout) Old directory from to ≡ None
  none = was.renames.answers was.told

  files : RenamesFiles (super_view start.layout) Old New directory (held_name (super_view start.layout) Old directory to)
  files = at_start (λ v. RenamesFiles (super_view start.layout) Old (parts_of v (now (past_of volume))) directory (held_name (super_view start.layout) Old directory to)) (was.renames.moves.files was.told)

  gains : GainsNoZone (super_view start.layout) Old New directory
  gains = at_start (λ v. GainsNoZone (super_view start.layout) Old (parts_of v (now (past_of volume))) directory) (was.renames.moves.gains was.told)

  each : KeepsEachPlace (super_view start.layout) Old New
  each = at_start (λ v. KeepsEachPlace (super_view start.layout) Old (parts_of v (now (past_of volume)))) (was.renames.moves.places was.told)

  inode_free : Old.has_inode other.choice.inode ≡ false → New.has_inode other.choice.inode ≡ false
  inode_free free =
      inode_clear (super_view start.layout) Old New directory (opened View (now (past_of start)) was.in_directory.sound).parts was.in_directory.named moved.tree.keeps
      (held_name (super_view start.layout) Old directory to) files other.choice.inode (suits.some, suits.there) free

  zone_free : (i : ℕ) → i < length other.choice.zones → Old.has_zone (slice_index other.choice.zones i) ≡ false → New.has_zone (slice_index other.choice.zones i) ≡ false
  zone_free i low free =
      let data_is = suits.are_data i 0 low in
      zone_clear (super_view start.layout) Old New directory (opened View (now (past_of start)) was.in_directory.sound).parts was.in_directory.named moved.tree.keeps
      (held_name (super_view start.layout) Old directory to) files
      (former_beside View (now (past_of start)) (now (past_of volume)) was.in_directory.sound Outer directory was.in_directory.named.leads was.in_directory.is from to none moved files gains each)
      (slice_index other.choice.zones i) (data_is.from, data_is.below) free

  still_free : IsFreeNow start other → IsFreeNow volume other
  still_free free = record {
    sound = at_volume (λ v. IsSound v (now (past_of volume))) moved.sound;
    file = at_volume (λ v. MayBeFile v.layout.kind (file_of other.choice)) free.file;
    inode = at_volume (λ v. (parts_of v (now (past_of volume))).has_inode other.choice.inode ≡ false) (inode_free free.inode);
    zones = λ i low. at_volume (λ v. (parts_of v (now (past_of volume))).has_zone (slice_index other.choice.zones i) ≡ false) (zone_free i low (free.zones i low));
    grows = at_volume (λ v. MayGrowIn v (now (past_of volume)) other.directory other.choice.place other.choice.growth)
        (growth_stays View (now (past_of start)) (now (past_of volume)) was.in_directory.sound Outer directory was.in_directory.named.leads was.in_directory.is from to none moved files gains each
        other.directory other.choice.place other.choice.growth free.grows);
    clear = free.clear;
  }

  pub stays_free : StaysFree start volume directory to other
  stays_free = record {
    suits = suits_kept start volume other was.renames.moves.kept suits;
    free = still_free;
    name = λ outer may names. at_volume (λ v. MayHavePlace v (now (past_of volume)) outer other.directory other.choice.place other.name)
        (place_stays View (now (past_of start)) (now (past_of volume)) was.in_directory.sound Outer directory was.in_directory.named.leads was.in_directory.is from to none moved files gains each
        outer other.directory other.choice.place other.name may names);
  }
