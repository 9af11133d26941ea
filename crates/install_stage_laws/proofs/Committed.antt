-- What was staged, once its boot sector is written.
use Rattle.std.proofs.Common.{◌≡◌, ◌≢◌, ◌≤◌, ◌<◌, ◌⊎◌, inl, inr, ℕ, suc, ◌+◌, ◌*◌, ◌%◌, Bool, List, ◌++◌, length, Some, refl, sym, ap, subst, ◌∙◌, arith}
use Rattle.std.specs.Prelude.{All}
use Rattle.disk_trait.specs.Past as past
use Rattle.disk_trait.specs.Moments.{now}
use Rattle.disk_trait.proofs.MomentLemmas.{leaves_weaker}
use Rattle.lilo_model.specs.Bytes.{part_of}
use Rattle.lilo_model.specs.Clear.{IsClearPlace}
use Rattle.lilo_model.specs.Conf.{Config}
use Rattle.lilo_model.specs.DefaultLine.{Empty}
use Rattle.lilo_model.specs.Devices.{Device}
use Rattle.lilo_model.specs.Disks.{Image, Machine, Span, bytes_at}
use Rattle.lilo_model.specs.Lays.{Lays}
use Rattle.lilo_model.specs.LineSector.{line_at}
use Rattle.lilo_model.specs.Meant.{menu_of}
use Rattle.lilo_model.specs.MinixLayout.{inode_size, inode_of, inode_place, zone_sector, super_sector}
use Rattle.lilo_model.specs.MinixNames.{names_in, reached, IsSound}
use Rattle.lilo_model.specs.MinixParts.{Volume, sector_of, bit, inode_mark_sector, zone_bit, zone_mark_sector, parts_of}
use Rattle.lilo_model.specs.NamePlaces.{with_tilde}
use Rattle.lilo_model.specs.Planned.{devices_in, planned}
use Rattle.minix_change_laws.specs.Beside.{IsInode, IsDataZone, IsOfBitmaps, Regions}
use Rattle.minix_change_laws.specs.Keeps.{Keeps}
use Rattle.minix_change_laws.proofs.Harmless.{region_law}
use Rattle.minix_change_laws.proofs.Laid.{place-from}
use Rattle.minix_change_laws.proofs.Kept.{kept_is_seen_law, same-is-but-links}
use Rattle.minix_change_laws.proofs.Seen.{opened, seen_parts_law}
use Rattle.minix_change_laws.proofs.Tree.{sees_tree_law}
use Rattle.minix_change_laws.specs.Sees.{SeenAsIn}
use Rattle.minix_change_laws.specs.Tree.{TreeAs}
use Rattle.map_laws.proofs.AcceptedWhole.{accepted_lies_law}
use Rattle.map_laws.proofs.Laid.{accepted_lays_law, lays_stays_law}
use Rattle.map_laws.proofs.Planned.{map-lies}
use Rattle.map_laws.specs.Accepted.{IsWritten}
use Rattle.map_laws.specs.MapLays.{HoldsMap}
use Rattle.map_laws.specs.PlannedLies.{PlannedLies, targets_for}
use Rattle.install_laws.specs.Writes.{IsApartSector}
use Rattle.map_laws.specs.Lies.{MapPlaces, all_places}
use Rattle.install_stage_laws.specs.StaysLaws.{planned_places}
use Rattle.install_stage_laws.proofs.Stays.{clear_stays_law, tidy_law}
use Rattle.install_stage_laws.specs.Mapped.{KeepsMapped}
use Rattle.install_stage_laws.specs.Committed.{SectorsSeenLaw, CommitSeenLaw, CommitHoldsLaw, IsStaged, StagedLaysLaw, StagedTidiesLaw, TidiedLaysLaw}
use Rattle.install_stage_laws.proofs.BootBytes.{boot-long}
use Rattle.install_stage_laws.proofs.Clear.{seen_keeps_law, staged_clear_law}
use Rattle.install_stage_laws.proofs.Mapped.{mapped_joined_law}
use Rattle.install_stage_laws.specs.Marked.{KeepsMarked}
use Rattle.install_stage_laws.proofs.Marked.{same_links}
use Rattle.install_stage_laws.proofs.Files.{place_of}
use Rattle.install_stage_laws.proofs.HoldsMap.{holds_map_stays_law}
use Rattle.install_stage_laws.proofs.Sectors.{apart-other, from-two, lies, some-first}
use Rattle.install_stage_laws.proofs.Staged.{else-same, still-long, staged_written_law}

-- ---- a volume whose sectors past block 0 stay

module _ (volume : Volume) (old c : Image) (sound : IsSound volume old)
    (stays : (sector : ℕ) → 2 ≤ sector → sector < 2 * volume.layout.zones → sector_of volume c sector ≡ sector_of volume old sector) where
  regions : Regions volume.layout
  regions = region_law volume old sound

  bitmap : (n : ℕ) → IsOfBitmaps volume.layout n → sector_of volume c n ≡ sector_of volume old n
  bitmap n is = stays n (let low = is.0 in omega (arith, low)) (regions.bitmaps n is)

  node-same : (number : ℕ) → IsInode volume.layout number → (parts_of volume c).node number ≡ (parts_of volume old).node number
  unfolding parts_of
  node-same number is =
      let place = inode_place volume.layout number in
      let from = place-from volume.layout (lies volume old sound) number in
      ap (λ s. inode_of volume.layout.kind (part_of s place.at (inode_size volume.layout.kind))) (stays place.sector (omega (arith, from)) (regions.places number is))

  mark-same : (number : ℕ) → IsInode volume.layout number → (parts_of volume c).has_inode number ≡ (parts_of volume old).has_inode number
  unfolding parts_of
  mark-same number is = ap (λ s. bit s (number % 4096)) (bitmap (inode_mark_sector number) (regions.marks number is))

  zone-mark-same : (zone : ℕ) → IsDataZone volume.layout zone → (parts_of volume c).has_zone zone ≡ (parts_of volume old).has_zone zone
  unfolding parts_of
  zone-mark-same zone is = ap (λ s. bit s (zone_bit volume.layout zone % 4096)) (bitmap (zone_mark_sector volume.layout zone) (regions.zone_marks zone is))

  keeps-marked : KeepsMarked volume.layout (parts_of volume old) (parts_of volume c)
  keeps-marked = record {
    marks = λ number is set. sym (mark-same number is) ∙ set;
    zone_marks = λ zone is set. sym (zone-mark-same zone is) ∙ set;
    nodes = λ number is set. same-is-but-links ((parts_of volume old).node number) ((parts_of volume c).node number) (node-same number is);
    links = λ number is set. same_links ((parts_of volume old).node number) ((parts_of volume c).node number) (node-same number is);
  }

  keeps-all : Keeps volume.layout (parts_of volume old) (parts_of volume c)
  unfolding parts_of
  keeps-all = record {
    nodes = λ number named. node-same number ((opened volume old sound).parts.in_range number named);
    marks = λ number named. mark-same number ((opened volume old sound).parts.in_range number named);
    zones = λ number at zone refers.
        let range = (opened volume old sound).parts.zone_range number at zone refers in
        let past : 2 ≤ zone_sector zone = from-two volume old sound zone (zone_sector zone) (inl refl) range.0 in
        ap (λ s. s ++ sector_of volume c (zone_sector zone + 1)) (stays (zone_sector zone) past (regions.zones zone (zone_sector zone) range (inl refl)))
        ∙ ap (λ s. sector_of volume old (zone_sector zone) ++ s) (stays (zone_sector zone + 1) (omega (arith, past)) (regions.zones zone (zone_sector zone + 1) range (inr refl)));
    zone_marks = λ number at zone refers. zone-mark-same zone ((opened volume old sound).parts.zone_range number at zone refers);
  }

pub sectors_seen_law : SectorsSeenLaw
sectors_seen_law volume old c sound whole stays =
    let least = some-first volume old sound in
    let first = (lies volume old sound).first in
    seen_parts_law volume old c sound (record { super = stays super_sector (omega arith) (omega (arith, least, first)); whole = whole })
    (kept_is_seen_law volume.layout (parts_of volume old) (parts_of volume c) (opened volume old sound).parts (keeps-all volume old c sound stays))

-- the sector of a boot device that lies outside of them marks nothing
pub commit_marked : (volume : Volume) (staged : Image) (span : Span) (bytes : List ℕ) → IsSound volume staged → IsApartSector volume span.disk span.start
    → KeepsMarked volume.layout (parts_of volume staged) (parts_of volume (past.with_sector staged span.disk span.start bytes))
commit_marked volume staged span bytes sound apart =
    keeps-marked volume staged (past.with_sector staged span.disk span.start bytes) sound
    (λ sector from below. else-same staged span bytes (place_of volume sector) (apart-other volume span.disk span.start sector (place_of volume sector) apart refl from below))

pub commit_seen_law : CommitSeenLaw
commit_seen_law volume staged span bytes sound apart long =
    sectors_seen_law volume staged (past.with_sector staged span.disk span.start bytes) sound
    (λ sector below. still-long staged span bytes long (place_of volume sector) ((opened volume staged sound).whole sector below))
    (λ sector from below. else-same staged span bytes (place_of volume sector) (apart-other volume span.disk span.start sector (place_of volume sector) apart refl from below))

-- ---- the map's file

pub commit_holds_law : CommitHoldsLaw
commit_holds_law volume staged span bytes machine plan path places sound apart long h =
    holds_map_stays_law volume staged (past.with_sector staged span.disk span.start bytes) machine plan path places sound seen.sound tree.keeps h (leads-still h.leads)
  where
    seen : SeenAsIn volume staged (past.with_sector staged span.disk span.start bytes)
    seen = commit_seen_law volume staged span bytes sound apart long

    tree : TreeAs volume.layout (parts_of volume staged) (parts_of volume (past.with_sector staged span.disk span.start bytes))
    tree = sees_tree_law volume.layout (parts_of volume staged) (parts_of volume (past.with_sector staged span.disk span.start bytes)) (opened volume staged sound).parts seen.sees

    leads-still : (reached volume.layout (parts_of volume staged) path ≡ Some h.holder) ⊎ (reached volume.layout (parts_of volume staged) (with_tilde path) ≡ Some h.holder)
        → (reached volume.layout (parts_of volume (past.with_sector staged span.disk span.start bytes)) path ≡ Some h.holder)
        ⊎ (reached volume.layout (parts_of volume (past.with_sector staged span.disk span.start bytes)) (with_tilde path) ≡ Some h.holder)
    leads-still (inl leads) = inl (tree.leads path ∙ leads)
    leads-still (inr leads) = inr (tree.leads (with_tilde path) ∙ leads)

-- ---- what is staged

module _ (before staged : Image) (machine : Machine) (volume : Volume) (span : Span) (config : Config) (device : Device) (time : ℕ)
    (chosen : ℕ → Bool) (places : MapPlaces) (bytes : List ℕ) (path : List (List ℕ))
    (s : IsStaged before staged machine volume span config device time chosen places bytes path) where
  abbrev new : Image
  new = past.with_sector staged span.disk span.start bytes

  pub size-is : length bytes ≡ 512
  size-is = ap length s.boot.is ∙ boot-long before machine volume config time (all_places places) (before span.disk span.start) s.boot.long

  pub written : IsWritten before new machine volume span config time Empty places (before span.disk span.start) × (places.line ≢ record { disk = span.disk; sector = span.start })
  written = staged_written_law before staged machine volume span config device time chosen places bytes s.sound s.apart s.outside s.accepted s.map s.boot

  pub holds : HoldsMap new machine volume (planned before machine volume config time) path (all_places places)
  holds = commit_holds_law volume staged span bytes machine (planned before machine volume config time) path (all_places places) s.files.sound s.outside size-is s.holds

  pub files : KeepsMapped volume config before new
  files = mapped_joined_law volume config before staged new s.files (seen_keeps_law volume staged new s.files.sound (commit_seen_law volume staged span bytes s.files.sound s.outside size-is))

  pub lies-staged : PlannedLies before new machine volume span config time (devices_in before machine) Empty places (before span.disk span.start)
  lies-staged = accepted_lies_law before new machine volume span config time Empty places (before span.disk span.start) s.sound s.accepted written.0

  pub clear-staged : All (IsClearPlace volume new) (planned_places before machine volume span config time places)
  clear-staged = staged_clear_law before new machine volume span config device time places path s.sound s.apart s.outside files holds

  -- another image that is the same there has Lays too
  lays-in : (c : Image) → All (λ place. bytes_at c place ≡ bytes_at new place) (planned_places before machine volume span config time places)
      → HoldsMap c machine volume (planned before machine volume config time) path (all_places places)
      → Lays c machine volume span (planned before machine volume config time) path (before span.disk span.start)
  lays-in c same h =
      let names = names_in volume before in
      let devices = devices_in before machine in
      let here : bytes_at c places.line ≡ bytes_at new places.line = same 0 places.line (omega arith) in
      lays_stays_law new c machine volume span (planned before machine volume config time) (menu_of config names devices) (targets_for names devices config.sections)
      Empty Empty places (before span.disk span.start) path
      (map-lies before new machine volume span config time devices Empty places (before span.disk span.start) s.sound lies-staged)
      (λ index d below. same (suc index) d (omega (arith, below))) (ap line_at here ∙ lies-staged.line_is) h

pub staged_lays_law : StagedLaysLaw
staged_lays_law before staged machine volume span config device time chosen places bytes path s =
    accepted_lays_law before (past.with_sector staged span.disk span.start bytes) machine volume span config time Empty places (before span.disk span.start) path s.sound s.accepted
    (written before staged machine volume span config device time chosen places bytes path s).0
    (holds before staged machine volume span config device time chosen places bytes path s)

pub staged_tidies_law : StagedTidiesLaw
staged_tidies_law before machine volume span config device time chosen places bytes path staged committed tidied s is writes =
    tidy_law before machine volume span config time (devices_in before machine) places (before span.disk span.start) committed tidied s.sound
    (subst (λ (image : Image). PlannedLies before image machine volume span config time (devices_in before machine) Empty places (before span.disk span.start)) (sym is)
    (lies-staged before (now staged) machine volume span config device time chosen places bytes path s))
    (written before (now staged) machine volume span config device time chosen places bytes path s).1
    (subst (λ (image : Image). All (IsClearPlace volume image) (planned_places before machine volume span config time places)) (sym is)
    (clear-staged before (now staged) machine volume span config device time chosen places bytes path s))
    writes

pub tidied_lays_law : TidiedLaysLaw
tidied_lays_law before machine volume span config device time chosen places bytes path staged committed tidied s is writes =
    let lying = planned_places before machine volume span config time places in
    leaves_weaker committed tidied _ _
    (clear_stays_law volume lying committed tidied
    (subst (λ (image : Image). All (IsClearPlace volume image) lying) (sym is)
    (clear-staged before (now staged) machine volume span config device time chosen places bytes path s))
    writes)
    (λ c same. lays-in before (now staged) machine volume span config device time chosen places bytes path s c (subst (λ (image : Image). All (λ place. bytes_at c place ≡ bytes_at image place) lying) is same))
