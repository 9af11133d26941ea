-- What a creation leaves, in terms of Names and of the span.
use Rattle.std.proofs.Common.{◌≡◌, ◌≤◌, ◌<◌, ◌+◌, ◌*◌, ◌⊎◌, ℕ, zero, suc, true, List, [], ◌∷◌, Option, Some, Result, Ok, Err, refl, sym, ◌∙◌, ap, subst, inl, inr, arith}
use Rattle.std.specs.Prelude.{OnOk, IfErr, slice_index}
use Rattle.disk_trait.specs.declared.disks.Disks.{Ghosts}
use Rattle.disk_trait.specs.Moments.{IsTold, now, LeavesOnly}
use Rattle.disk_trait.specs.NotWritten.{NotWritten, IsOther}
use Rattle.disk_trait.specs.Past.{Image}
use Rattle.disk_trait.specs.Range.{IsOutside}
use Rattle.disk_trait.proofs.MomentLemmas.{leaves_weaker, told_or_not}
use Rattle.lilo_model.specs.MinixLayout.{IsSuper, inode_place, zone_sector}
use Rattle.lilo_model.specs.MinixNames.{Thing, PointsTo, IsSound}
use Rattle.lilo_model.specs.MinixParts as model
use Rattle.lilo_model.specs.MinixParts.{Pointer, block_pointer, has_zones, is_directory, parts_of, zone_mark_sector}
use Rattle.minix_steps.specs.Numbers.{has_number}
use Rattle.minix_create.specs.Chosen.{Suits, thing_with, block_of}
use Rattle.minix_create.specs.Linked.{Creates, IsOffName}
use Rattle.minix_create.specs.States.{CreatesOn}
use Rattle.minix_create.specs.declared.chosen.Chosen.{Chosen}
use Rattle.minix_change_laws.specs.Only.{zone_of_entry}
use Rattle.minix_change_laws.proofs.Only.{directory-refers}
use Rattle.std.proofs.lemmas.List.Elements.{All-contains}
use Rattle.minix_steps.proofs.SetLemmas.{contains_from}
use Rattle.minix_change_laws.specs.Tree.{HasNamesWith, HasTreeWith}
use Rattle.minix_change_laws.proofs.Seen.{opened, seen_sound_law}
use Rattle.minix_change_laws.proofs.Tree.{has_names_law}
use Rattle.minix_steps.proofs.RegionLemmas.{lies, place_there, zone_mark_in, bitmap_there}
use Rattle.minix_turns.specs.Joined.{SeenOrWith}
use Rattle.minix_choice.specs.declared.write_fault.WriteFault.{WriteFault}
use Rattle.minix_zones.specs.View.{IsDataZone}
use Rattle.minix_zones.specs.Volume.{volume_view, past_of, KeepsVolume}
use Rattle.minix_zones.specs.declared.volume.Volume.{Volume}
use Rattle.ldisk_model.specs.FileVerdict.{Making, thing_made}
use Rattle.ldisk_files.specs.Answer.{write_fault}
use Rattle.ldisk_files.specs.Left.{HasNamesBetween, ChangesName}
use Rattle.ldisk_files.specs.Made.{MayMake, MayMakeSome}
use Rattle.ldisk_files.specs.declared.fault.FileFault.{FileFault}
use Rattle.ldisk_files.specs.declared.fault.FileFault.TheVariants.{Device}
use Rattle.ldisk_files.proofs.OutsideLemmas.{off-range, off-one}
use Rattle.ldisk_files.proofs.UntoldLemmas.{leaves-untold, untouched-untold}

module _ {D : Type 0} {disks : Ghosts D} (start new : Volume D disks) (outer : List (List ℕ)) (making : Making) (chosen : Chosen) (blocks : List (List ℕ))
    (laid : IsSuper (volume_view start).layout (volume_view start).span.count) (suits : Suits start.layout start.span chosen) (may : IsTold (past_of start) → MayMake start outer making chosen blocks) where
  abbrev V : model.Volume
  V = volume_view start

  abbrev I : Image
  I = now (past_of start)

  abbrev Path : List (List ℕ)
  Path = chosen.name ∷ outer

  abbrev What : Option Thing
  What = Some (thing_made making)

  -- ---- sectors outside the volume

  module _ (told : IsTold (past_of start)) (d s : ℕ) (outside : IsOutside start.span.disk start.span.start start.span.count d s) where
    off-zone : (zone : ℕ) → zone < V.layout.zones → IsOutside start.span.disk (start.span.start + zone_sector zone) 2 d s
    off-zone zone below = off-range start laid d s outside (zone_sector zone) 2 (omega (arith, below)) (omega arith)

    off-maps : IsOutside start.span.disk (start.span.start + 4) (2 * (start.layout.imap + start.layout.zmap)) d s
    off-maps = off-range start laid d s outside 4 (2 * (V.layout.imap + V.layout.zmap))
        (let l = lies V.layout V.span.count laid in omega (arith, l.table, l.first)) (let l = lies V.layout V.span.count laid in omega (arith, l.imap))

    off-node : (number : ℕ) → 1 ≤ number → number ≤ start.layout.inodes → IsOther start.span.disk (start.span.start + (inode_place V.layout number).sector) d s
    off-node number some there = off-one start laid d s outside (inode_place V.layout number).sector (place_there V.layout V.span.count laid number some there)

    sound : IsSound V I
    sound = (may told).free.sound

    zone-below : (at : Pointer) (zone : ℕ) → PointsTo V.layout (parts_of V I) chosen.directory at zone → zone < V.layout.zones
    zone-below at zone to = ((opened V I sound).parts.zone_range chosen.directory at zone (record { named = (may told).free.grows.named; to = to })).1

    entry-below : zone_of_entry V.layout (parts_of V I) chosen.directory chosen.choice.place < V.layout.zones
    entry-below = by (zone_of_entry V.layout (parts_of V I) chosen.directory chosen.choice.place) refl
      where
        by : (zone : ℕ) → zone_of_entry V.layout (parts_of V I) chosen.directory chosen.choice.place ≡ zone → zone_of_entry V.layout (parts_of V I) chosen.directory chosen.choice.place < V.layout.zones
        by zero is = let l = lies V.layout V.span.count laid in omega (arith, is, l.first, l.table)
        by (suc zone) is =
            let grows = (may told).free.grows in
            ((opened V I sound).parts.zone_range chosen.directory _ (zone_of_entry V.layout (parts_of V I) chosen.directory chosen.choice.place)
            (directory-refers V.layout (parts_of V I) chosen.directory chosen.choice.place grows.named grows.is
            (zone_of_entry V.layout (parts_of V I) chosen.directory chosen.choice.place) (λ none. let no = sym is ∙ none in cc) refl)).1

    chosen-below : (zone : ℕ) → has_number chosen.choice.zones zone ≡ true → zone < V.layout.zones
    chosen-below zone has = (All-contains (IsDataZone start.layout) chosen.choice.zones zone suits.are_data (contains_from chosen.choice.zones zone has)).below

    off-name : IsOffName start chosen d s
    off-name = record {
      file = record {
        bitmaps = off-maps;
        zones = λ zone has. off-zone zone (chosen-below zone has);
        inode = off-node chosen.choice.inode suits.some suits.there;
      };
      name = λ some. off-zone _ entry-below;
      above = λ is. off-node chosen.directory suits.in_some suits.in_there;
      growth = λ no. record {
        directory = record {
          inode = off-node chosen.directory suits.in_some suits.in_there;
          zones = λ at zone to. off-zone zone (zone-below at zone to);
        };
        zones = λ level low.
            let below = (may told).free.grows.growth_is.below level low in
            record {
              bit = off-one start laid d s outside (zone_mark_sector V.layout (slice_index chosen.choice.growth level))
                  (bitmap_there V.layout V.span.count laid _ (zone_mark_in V.layout V.span.count laid (slice_index chosen.choice.growth level) below));
              bytes = off-zone (slice_index chosen.choice.growth level) below;
            };
      };
    }

  -- ---- what is left

  module _ (r : Result (Unit {0}) WriteFault) (creates : Creates start new outer chosen (block_of blocks) r) where
    untold-new : (IsTold (past_of start) → ⊥) → IsTold (past_of new) → ⊥
    untold-new none told = none (creates.leads.goes_on.told_before told)

    named : IsTold (past_of start) → (c : Image) → HasTreeWith V I c Path (Some chosen.choice.inode) (Some (thing_with chosen (block_of blocks))) → HasNamesWith V I c Path What
    named told c tree = subst (λ (t : Thing). HasNamesWith V I c Path (Some t)) (may told).is
        (has_names_law V I c Path (Some chosen.choice.inode) (Some (thing_with chosen (block_of blocks))) tree)

    between : IsTold (past_of start) → (c : Image) → SeenOrWith V I Path (Some chosen.choice.inode) (Some (thing_with chosen (block_of blocks))) c → HasNamesBetween V I Path What c
    between told c (inl seen) = let kept = seen_sound_law V I c (may told).free.sound seen in inl record { sound = kept.sound; same = kept.same }
    between told c (inr tree) = inr (named told c tree)

    any-moment : LeavesOnly (past_of start) (past_of new) (HasNamesBetween V I Path What)
    any-moment = by (told_or_not (past_of start))
      where
        by : IsTold (past_of start) ⊎ (IsTold (past_of start) → ⊥) → LeavesOnly (past_of start) (past_of new) (HasNamesBetween V I Path What)
        by (inl told) = leaves_weaker (past_of start) (past_of new) (SeenOrWith V I Path (Some chosen.choice.inode) (Some (thing_with chosen (block_of blocks)))) (HasNamesBetween V I Path What)
            creates.leads.any_moment (between told)
        by (inr none) = leaves-untold (past_of start) (past_of new) (HasNamesBetween V I Path What) none (untold-new none)

    outside-stays : (d s : ℕ) → IsOutside start.span.disk start.span.start start.span.count d s → NotWritten (past_of start) (past_of new) d s
    outside-stays d s outside = by (told_or_not (past_of start))
      where
        by : IsTold (past_of start) ⊎ (IsTold (past_of start) → ⊥) → NotWritten (past_of start) (past_of new) d s
        by (inl told) = creates.others told d s (off-name told d s outside)
        by (inr none) = untouched-untold (past_of start) (past_of new) d s none (untold-new none)

    changed : (result : Result (Unit {0}) FileFault) → (IsTold (past_of start) → OnOk result (HasNamesWith V I (now (past_of new)) Path What))
        → (IsTold (past_of start) → IfErr result (λ fault. fault ≡ Device)) → ChangesName start new Path What result
    changed result done device = record {
      any_moment = λ quiet. any-moment;
      done = done;
      device = device;
      outside = outside-stays;
      goes_on = creates.leads.goes_on;
      kept = creates.leads.kept;
    }

  -- where nothing is told
  untold : (r : Result (Unit {0}) WriteFault) → Creates start new [] chosen (block_of blocks) r → (IsTold (past_of start) → ⊥) → (result : Result (Unit {0}) FileFault)
      → ChangesName start new Path What result
  untold r one none result = record {
    any_moment = λ quiet. leaves-untold (past_of start) (past_of new) (HasNamesBetween V I Path What) none (λ told. none (one.leads.goes_on.told_before told));
    done = λ told. absurd (none told);
    device = λ told. absurd (none told);
    outside = λ d s outside. untouched-untold (past_of start) (past_of new) d s none (λ told. none (one.leads.goes_on.told_before told));
    goes_on = one.leads.goes_on;
    kept = one.leads.kept;
  }

  module _ (r : Result (Unit {0}) WriteFault) (creates : CreatesOn start new chosen (block_of blocks) r) where
    at-outer : IsTold (past_of start) → Creates start new outer chosen (block_of blocks) r
    at-outer told = creates outer (may told).nests (λ t. (may t).links)

    at-root : (IsTold (past_of start) → ⊥) → Creates start new [] chosen (block_of blocks) r
    at-root none = creates [] (λ is. omega arith) (λ told. absurd (none told))

  pub created : CreatesOn start new chosen (block_of blocks) (Ok tt) → ChangesName start new Path What (Ok tt)
  created creates = by (told_or_not (past_of start))
    where
      by : IsTold (past_of start) ⊎ (IsTold (past_of start) → ⊥) → ChangesName start new Path What (Ok tt)
      by (inl told) =
          let one = at-outer (Ok tt) creates told in
          changed (Ok tt) one (Ok tt) (λ t. named (Ok tt) one t (now (past_of new)) (one.leads.done t)) (λ t. tt)
      by (inr none) = untold (Ok tt) (at-root (Ok tt) creates none) none (Ok tt)

  pub not-created : (fault : WriteFault) → CreatesOn start new chosen (block_of blocks) (Err fault) → ChangesName start new Path What (Err (write_fault fault))
  not-created fault creates = by (told_or_not (past_of start))
    where
      by : IsTold (past_of start) ⊎ (IsTold (past_of start) → ⊥) → ChangesName start new Path What (Err (write_fault fault))
      by (inl told) =
          let one = at-outer (Err fault) creates told in
          changed (Err fault) one (Err (write_fault fault)) (λ t. tt) (λ t. ap write_fault (one.device t).0)
      by (inr none) = untold (Err fault) (at-root (Err fault) creates none) none (Err (write_fault fault))

-- ---- what holds of a creation anywhere

module _ {D : Type 0} {disks : Ghosts D} (start new : Volume D disks) (chosen : Chosen) (blocks : List (List ℕ)) (may : IsTold (past_of start) → MayMakeSome start chosen blocks)
    (r : Result (Unit {0}) WriteFault) (creates : CreatesOn start new chosen (block_of blocks) r) where
  somewhere : (told : IsTold (past_of start)) → Creates start new (may told).outer chosen (block_of blocks) r
  somewhere told = creates (may told).outer (may told).may.nests (λ t. (may told).may.links)

  pub created-kept : KeepsVolume start new
  created-kept = by (told_or_not (past_of start))
    where
      by : IsTold (past_of start) ⊎ (IsTold (past_of start) → ⊥) → KeepsVolume start new
      by (inl told) = (somewhere told).leads.kept
      by (inr none) = (creates [] (λ is. omega arith) (λ told. absurd (none told))).leads.kept
