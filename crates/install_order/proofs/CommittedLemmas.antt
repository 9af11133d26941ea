-- What was staged may be tidied once its boot sector is written.
use Rattle.std.proofs.Common.{◌≡◌, ◌<◌, ℕ, true, IfSome, List, length, Option, None, Some, Ok, refl, sym, ◌∙◌, ap, subst, arith}
use Rattle.disk_trait.specs.declared.disks.Disks.{Ghosts}
use Rattle.disk_trait.specs.declared.disks.Span as spans
use Rattle.disk_trait.specs.Moments.{IsTold, now}
use Rattle.disk_trait.specs.Past.{Image, with_sector}
use Rattle.lilo_model.specs.Bytes.{part_of}
use Rattle.lilo_model.specs.Disks.{Span}
use Rattle.lilo_model.specs.MinixLayout.{inode_of, inode_place, inode_size, most_links}
use Rattle.lilo_model.specs.MinixNames.{reached, IsSound}
use Rattle.lilo_model.specs.MinixParts.{Parts, is_file, parts_of, sector_of}
use Rattle.lilo_model.specs.MinixParts as model
use Rattle.lilo_model.specs.NamePlaces.{with_tilde}
use Rattle.minix_change_laws.specs.Beside.{NamedIn}
use Rattle.minix_change_laws.proofs.Harmless.{region_law}
use Rattle.minix_change_laws.proofs.Laid.{place-from}
use Rattle.minix_change_laws.specs.Sees.{SeenAsIn}
use Rattle.minix_change_laws.specs.Tree.{TreeAs}
use Rattle.minix_change_laws.proofs.Seen.{opened}
use Rattle.minix_change_laws.proofs.Tree.{sees_tree_law}
use Rattle.minix_zones.specs.View.{span_view}
use Rattle.minix_zones.specs.Volume.{volume_view, past_of}
use Rattle.minix_zones.specs.declared.volume.Volume.{Volume}
use Rattle.install_apart.specs.declared.name.NamePair.{NamePair}
use Rattle.install_order.specs.Commits.{Commits}
use Rattle.install_laws.specs.Writes.{IsApartSector}
use Rattle.install_stage_laws.proofs.Committed.{commit_seen_law}
use Rattle.install_stage_laws.proofs.Files.{place_of}
use Rattle.install_stage_laws.proofs.Sectors.{apart-other, lies}
use Rattle.install_stage_laws.proofs.Staged.{else-same}
use Rattle.install_settle.specs.Tidies.{AreMaps, MayTidy}

-- ---- in an image

module _ (volume : model.Volume) (old : Image) (span : Span) (bytes : List ℕ) (sound : IsSound volume old) (apart : IsApartSector volume span.disk span.start) (long : length bytes ≡ 512) where
  abbrev New : Image
  New = with_sector old span.disk span.start bytes

  abbrev Old : Parts
  Old = parts_of volume old

  abbrev Now : Parts
  Now = parts_of volume New

  seen : SeenAsIn volume old New
  seen = commit_seen_law volume old span bytes sound apart long

  tree : TreeAs volume.layout Old Now
  tree = sees_tree_law volume.layout Old Now (opened volume old sound).parts seen.sees

  -- a named inode stays
  node-stays : (number : ℕ) → NamedIn volume old number → Now.node number ≡ Old.node number
  unfolding parts_of
  node-stays number named =
      let place = inode_place volume.layout number in
      let from = place-from volume.layout (lies volume old sound) number in
      let below = (region_law volume old sound).places number ((opened volume old sound).parts.in_range number named) in
      ap (λ s. inode_of volume.layout.kind (part_of s place.at (inode_size volume.layout.kind)))
      (else-same old span bytes (place_of volume place.sector) (apart-other volume span.disk span.start place.sector (place_of volume place.sector) apart refl (omega (arith, from)) below))

  node-at : (path : List (List ℕ)) (number : ℕ) → reached volume.layout Old path ≡ Some number → Now.node number ≡ Old.node number
  node-at path number leads = node-stays number (record { path = path; leads = leads })

  -- what is there of a map that is to be tidied is there still
  maps-stay : (path : List (List ℕ)) (pair : NamePair) → AreMaps volume.layout Old path pair → AreMaps volume.layout Now path pair
  maps-stay path pair maps = record {
    place = record {
      above = maps.place.above;
      is = maps.place.is;
      there = record {
        leads = tree.leads maps.place.above ∙ maps.place.there.leads;
        is = let node = node-at maps.place.above pair.plain.directory maps.place.there.leads in rw node maps.place.there.is;
      };
    };
    named = maps.named;
    map = maps.map;
    leads = tree.leads (with_tilde path) ∙ maps.leads;
    regular = rw same maps.regular;
    former = former-by (reached volume.layout Old path) refl (tree.leads path) maps.former;
    link = subst (λ (found : Option ℕ). IfSome found (λ former. (Now.node maps.map).links < most_links volume.layout.kind)) (sym (tree.leads path)) (rw same maps.link);
  }
    where
      same : Now.node maps.map ≡ Old.node maps.map
      same = node-at (with_tilde path) maps.map maps.leads

      former-by : (found : Option ℕ) → reached volume.layout Old path ≡ found → reached volume.layout Now path ≡ reached volume.layout Old path
          → IfSome (reached volume.layout Old path) (λ former. is_file (Old.node former) ≡ true) → IfSome (reached volume.layout Now path) (λ former. is_file (Now.node former) ≡ true)
      former-by None is still file = rw (still, is) tt
      former-by (Some former) is still file =
          let node = node-at path former is in
          let was : is_file (Old.node former) ≡ true = subst (λ (found : Option ℕ). IfSome found (λ former. is_file (Old.node former) ≡ true)) is file in
          subst (λ (found : Option ℕ). IfSome found (λ former. is_file (Now.node former) ≡ true)) (sym (still ∙ is)) (rw node was)

-- ---- on a volume

module _ {D : Type 0} {disks : Ghosts D} (old new : Volume D disks) (boot : spans.Span) (bytes : List ℕ) (long : length bytes ≡ 512) (commits : Commits old new boot bytes (Ok tt)) (told : IsTold (past_of old)) where
  pub may_tidy : (path : List (List ℕ)) (pair : NamePair) → IsApartSector (volume_view old) boot.disk boot.start → MayTidy old path pair → MayTidy new path pair
  may_tidy path pair apart may = record {
    sound = forth IsSound (seen (volume_view old) (now (past_of old)) (span_view boot) bytes may.sound apart long).sound;
    maps = forth (λ v i. AreMaps v.layout (parts_of v i) path pair) (maps-stay (volume_view old) (now (past_of old)) (span_view boot) bytes may.sound apart long path pair may.maps);
  }
    where
      forth : (P : model.Volume → Image → Type 0) → P (volume_view old) (with_sector (now (past_of old)) boot.disk boot.start bytes) → P (volume_view new) (now (past_of new))
      forth P p =
          let view : volume_view new ≡ volume_view old = rw (commits.kept.same_span, commits.kept.same_layout) refl in
          subst (λ (v : model.Volume). P v (now (past_of new))) (sym view) (subst (P (volume_view old)) (sym (commits.written told)) p)
