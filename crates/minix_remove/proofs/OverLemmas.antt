-- A name that becomes that of another inode: a link more, both entries, the link again, and the inode that lost its name.
use Rattle.std.proofs.Common.{◌≡◌, ◌≢◌, ◌≤◌, ◌<◌, ◌+◌, ◌-◌, ◌*◌, ◌/◌, ◌%◌, ◌^◌, ◌==◌, ℕ, true, false, eq-eqb, List, [], ◌∷◌, length, Option, Some, Result, Ok, Err, OnOk, sym, ◌∙◌, ap, subst, subst₂, arith, ⊎_elim}
use Rattle.std.proofs.lemmas.Bool.{ne_eqb}
use Rattle.disk_trait.specs.declared.disks.Disks.{Ghosts}
use Rattle.disk_trait.specs.Past.{Image}
use Rattle.disk_trait.specs.Moments.{IsTold, now}
use Rattle.disk_trait.specs.NotWritten.{IsOther, NotWritten}
use Rattle.disk_trait.proofs.CallLemmas.{goes_on_join, on_ok_held}
use Rattle.disk_trait.specs.Calls.{GoesOn}
use Rattle.disk_trait.proofs.MomentLemmas.{on_ok, told_or_not}
use Rattle.disk_trait.proofs.NotWrittenLemmas.{not_written_join}
use Rattle.lilo_model.specs.MinixEntries.{entries_per_block}
use Rattle.lilo_model.specs.MinixLayout.{Inode, entry_size, name_size, most_links, is_size, zone_sector}
use Rattle.lilo_model.specs.MinixNames.{reached, Named, PointsTo, Sound, IsSound}
use Rattle.lilo_model.specs.MinixParts as model
use Rattle.lilo_model.specs.MinixParts.{Parts, Pointer, is_directory, has_zones, parts_of}
use Rattle.minix_change_laws.specs.Beside.{IsDataZone}
use Rattle.minix_change_laws.specs.Written.{entry_bytes, FitsEntry, IsPlaced}
use Rattle.minix_change_laws.specs.Still.{StandsAsIn}
use Rattle.minix_change_laws.proofs.EntryBytes.{entry_bytes_law}
use Rattle.minix_change_laws.proofs.Images.{redirect_bytes_law}
use Rattle.minix_change_laws.proofs.Still.{still_law}
use Rattle.minix_change_laws.specs.Enter.{MayStand, MayRemove, IsLeft, IsOnlyName}
use Rattle.minix_change_laws.specs.Only.{zone_of_entry}
use Rattle.minix_change_laws.proofs.Only.{fit_law}
use Rattle.minix_fill.proofs.FileLemmas.{off_file_kept}
use Rattle.minix_change_laws.specs.Changes.{AreEnough, ChangesNode, ChangesZone}
use Rattle.minix_layout.specs.View.{kind_view, super_view, inode_view}
use Rattle.minix_layout.specs.declared.superblock.Super.{Super}
use Rattle.minix_remove_laws.specs.Files.{KeepsFiles}
use Rattle.minix_remove_laws.specs.Held.{held_name}
use Rattle.minix_remove_laws.proofs.Files.{kept_files_law, raised_node, raised_range, keeps_raised, former_range, former_enough, former_left}
use Rattle.minix_remove_laws.proofs.Held.{no-directory}
use Rattle.minix_remove_laws.proofs.Released.{only-name}
use Rattle.minix_change_laws.specs.Sees.{with_links, SeenAsIn}
use Rattle.minix_change_laws.proofs.Seen.{opened}
use Rattle.minix_change_laws.proofs.Sees.{reached-same, named-new, all_lead-old}
use Rattle.minix_change_laws.proofs.Tree.{sees-keeps}
use Rattle.minix_steps.specs.Written.{parts_now}
use Rattle.minix_steps.proofs.StepLemmas.{same_view}
use Rattle.minix_turns.specs.Inode.{TurnsInode, MayHaveLinks}
use Rattle.minix_turns.specs.Joined.{Unseen}
use Rattle.minix_turns.specs.Replace.{MayReplaceAt, IsReplaced, ReplacesName, HasBothEntries, IsOffEntry, WritesEntriesAlone, Replaces}
use Rattle.minix_turns.specs.declared.replace.EntryPlace.{EntryPlace}
use Rattle.minix_turns.proofs.EntryLemmas.{entry-long}
use Rattle.minix_turns.proofs.JoinedLemmas.{unseen_join}
use Rattle.minix_turns.proofs.LinkLemmas.{raised_links_law}
use Rattle.minix_turns.proofs.NameLemmas.{entry_at}
use Rattle.minix_turns.proofs.ReplaceLemmas.{zone_stays, off_entry_stays}
use Rattle.minix_change_laws.specs.Part.{HasZonePart, free_bytes, with_zone_part}
use Rattle.minix_change_laws.proofs.Part.{part_law}
use Rattle.minix_zones.specs.Volume.{volume_view, past_of, KeepsVolume, HasDeviceCause}
use Rattle.minix_zones.specs.declared.volume.Volume.{Volume}
use Rattle.minix_zones.specs.declared.zone_fault.ZoneFault.{ZoneFault}
use Rattle.minix_zones.specs.declared.zone_fault.ZoneFault.TheVariants.{Device}
use Rattle.minix_zones.proofs.WriteLemmas.{cause_after, keeps_join}
use Rattle.minix_remove.specs.Moves.{MovesPath}
use Rattle.minix_remove.specs.Released.{MayRelease, LetsGo, Releases}
use Rattle.minix_remove.specs.Removed.{GainsNoZone, KeepsEachPlace, RemovesFile}
use Rattle.minix_remove.specs.Renamed.{RenamesFiles, IsOffRenamed, FitsRenaming, IsRenaming, IsSomeRenaming, Carries}
use Rattle.minix_remove.specs.Target.{FitsTarget, IsTarget}
use Rattle.minix_remove.specs.declared.target.Target.{Target}
use Rattle.minix_remove.proofs.MoveLemmas.{moves_none, replaces_moves, unseen_then_moves, moves_then_unseen}
use Rattle.minix_remove.proofs.ReleaseLemmas.{links_changed_in}
use Rattle.minix_remove.proofs.RenamedLemmas.{apart_names}
use Rattle.minix_remove.proofs.PlaceLemmas.{KeepsDirectories, seen_directories, seen_each, join_each, replaced_each, replaced_directories}
use Rattle.minix_remove.proofs.PointerLemmas.{gains_two}
use Rattle.minix_remove.proofs.TakeLemmas.{let_go_zones, removes_file, may_go, named_target, placed, points, kind_is, sized_is, off_entry}

-- the inode that is moved, with a link more
abbrev pub raised_of : Target → Inode
raised_of moved = with_links (inode_view moved.node) (moved.node.links + 1)

module _ {D : Type 0} {disks : Ghosts D} (v0 : Volume D disks) (directory : ℕ) (from to : List ℕ) (moved former : Target) (fits : FitsTarget v0.layout moved) (fits' : FitsTarget v0.layout former)
    (short : length to ≤ name_size (kind_view v0.layout.kind)) (apart : former.inode ≢ moved.inode) (fewer : moved.node.links < most_links (kind_view v0.layout.kind))
    (may : IsTold (past_of v0) → IsRenaming v0 directory from to moved (Some former)) where
  abbrev View : model.Volume
  View = volume_view v0

  abbrev In : Image → Parts
  In image = parts_of View image

  abbrev A : Parts
  A = parts_now v0

  abbrev Bytes : List ℕ
  Bytes = entry_bytes (kind_view v0.layout.kind) moved.inode to

  low16 : moved.inode < 2 ^ 16
  low16 = let few = v0.whole.inodes_fit in omega (arith, fits.there, few)

  long : length Bytes ≡ entry_size (kind_view v0.layout.kind)
  long = entry-long (kind_view v0.layout.kind) moved.inode to short

  few : moved.node.links + 1 ≤ most_links (kind_view v0.layout.kind)
  few = omega (arith, fewer)

  -- ---- before anything is done

  module _ (told : IsTold (past_of v0)) where
    is-from : IsTarget v0 directory from moved
    is-from = (may told).leads

    is-to : IsTarget v0 directory to former
    is-to = (may told).over

    sound-a : IsSound View (now (past_of v0))
    sound-a = is-from.in_directory.sound

    named-from : Named (super_view v0.layout) A moved.inode
    named-from = named_target v0 directory from moved is-from

    named-to : Named (super_view v0.layout) A former.inode
    named-to = named_target v0 directory to former is-to

    -- an inode that is no directory isn't the directory
    beside-by : (number : ℕ) → is_directory (A.node number) ≡ false → number ≢ directory
    beside-by number file same =
        let D' : ℕ → Type 0 = λ n. is_directory (A.node n) ≡ false in
        let not : is_directory (A.node directory) ≡ false = subst D' same file in
        let both : true ≡ false = sym is-from.in_directory.is ∙ not in cc

    beside-from : moved.inode ≢ directory
    beside-from = beside-by moved.inode (no-directory (A.node moved.inode) is-from.holds.removable)

    beside-to : former.inode ≢ directory
    beside-to = beside-by former.inode (no-directory (A.node former.inode) is-to.holds.removable)

    -- it has a link at least
    some-link : 1 ≤ moved.node.links
    some-link =
        let go = may_go v0 directory from moved is-from is-from.holds.entry.named.path is-from.holds.entry.named.leads in
        let one = (opened View (now (past_of v0)) sound-a).parts.links moved.inode ((from ∷ is-from.holds.entry.named.path) ∷ []) go.root (tt, tt) (go.leads, tt) in
        let L : Inode → Type 0 = λ i. 1 ≤ i.links in
        subst L is-from.node one

    pub may_have_links : MayHaveLinks v0 moved.inode (inode_view moved.node) (moved.node.links + 1)
    may_have_links = record {
      lies = record { sound = sound-a; is = is-from.node; named = named-from };
      enough = raised_links_law (super_view v0.layout) A moved.inode (moved.node.links + 1) (opened View (now (past_of v0)) sound-a).parts
          (let same : (A.node moved.inode).links ≡ moved.node.links = ap (λ (i : Inode). i.links) is-from.node in omega (arith, same));
    }

  -- ---- the links

  module _ (v1 : Volume D disks) (r1 : Result (Unit {0}) ZoneFault) (turns1 : TurnsInode v0 v1 moved.inode (raised_of moved) Device r1) (seen1 : Unseen v0 v1) where
    pub others1 : (told : IsTold (past_of v0)) → (d s : ℕ) → IsOffRenamed v0 directory from to d s → NotWritten (past_of v0) (past_of v1) d s
    others1 told d s off = turns1.others d s (off.files moved.inode former.inode (is-from told).held (is-to told).held).0.inode

    pub refused1 : (fault : ZoneFault) → r1 ≡ Err fault → Carries v0 v1 directory from to (Err fault)
    refused1 fault is = record {
      moves = record {
        moves = λ outer leads. moves_none v0 v1 (from ∷ outer) (to ∷ outer) fault seen1;
        files = λ told. tt;
        gains = λ told. tt;
        places = λ told. tt;
        others = others1;
        goes_on = seen1.goes_on;
        kept = seen1.kept;
      };
      device = λ told. let P : Result (Unit {0}) ZoneFault → Type 0 = λ r. HasDeviceCause v0 v1 Device r in subst P is turns1.device;
    }

  -- ---- the entries

  module _ (v1 : Volume D disks) (turns1 : TurnsInode {E = ZoneFault} v0 v1 moved.inode (raised_of moved) Device (Ok tt)) (seen1 : Unseen v0 v1) (over place : EntryPlace)
      (over-zone : over.zone ≡ former.zone) (over-slot : over.index ≡ former.place % entries_per_block (kind_view v0.layout.kind)) (over-low : over.index < entries_per_block (kind_view v0.layout.kind))
      (place-zone : place.zone ≡ moved.zone) (place-slot : place.index ≡ moved.place % entries_per_block (kind_view v0.layout.kind)) (place-low : place.index < entries_per_block (kind_view v0.layout.kind)) where
    abbrev B : Parts
    B = In (now (past_of v1))

    after1 : (P : model.Volume → Type 0) → P View → P (volume_view v1)
    after1 P = subst P (sym (same_view v0 v1 turns1.kept))

    before1 : (P : model.Volume → Type 0) → P (volume_view v1) → P View
    before1 P = subst P (same_view v0 v1 turns1.kept)

    module _ (told : IsTold (past_of v0)) where
      abbrev Outer : List (List ℕ)
      Outer = (is-from told).holds.entry.named.path

      outer-leads : reached (super_view v0.layout) A Outer ≡ Some directory
      outer-leads = (is-from told).holds.entry.named.leads

      seen-b : SeenAsIn View (now (past_of v0)) (now (past_of v1))
      seen-b = seen1.held told

      raised : ChangesNode (super_view v0.layout) A B moved.inode (raised_of moved)
      raised =
          links_changed_in v0 v1 moved.inode (moved.node.links + 1) (inode_view moved.node) fits.some fits.there fits.fits few (Ok tt) turns1
          sound-a (λ told'. (is-from told').node) (sized_is v0 directory from moved (is-from told)) told

      still : StandsAsIn View (now (past_of v0)) (now (past_of v1))
      still = still_law View (now (past_of v0)) (now (past_of v1)) (sound-a told) seen-b

      placed-from : IsPlaced View (now (past_of v1)) directory moved.place
      placed-from = still.placed directory moved.place (placed v0 directory from moved (is-from told))

      placed-to : IsPlaced View (now (past_of v1)) directory former.place
      placed-to = still.placed directory former.place (placed v0 directory to former (is-to told))

      zone-in : (at : ℕ) → IsPlaced View (now (past_of v0)) directory at → zone_of_entry (super_view v0.layout) B directory at ≡ zone_of_entry (super_view v0.layout) A directory at
      zone-in at is =
          zone_stays (super_view v0.layout) A B directory at (sees-keeps (super_view v0.layout) A B seen-b.sees) is.named
          (named-new (super_view v0.layout) A B seen-b.sees directory is.named) is.is is.some

      zone-from : zone_of_entry (super_view v0.layout) B directory moved.place ≡ place.zone
      zone-from = zone-in moved.place (placed v0 directory from moved (is-from told)) ∙ ((is-from told).lies ∙ sym place-zone)

      zone-to : zone_of_entry (super_view v0.layout) B directory former.place ≡ over.zone
      zone-to = zone-in former.place (placed v0 directory to former (is-to told)) ∙ ((is-to told).lies ∙ sym over-zone)

      links-b : (B.node moved.inode).links ≡ moved.node.links + 1
      links-b = ap (λ (i : Inode). i.links) raised.here

      stands : MayStand (super_view v0.layout) B moved.inode
      stands = record {
        file =
            let N : Inode → Type 0 = λ i. is_directory i ≡ false in
            let not : is_directory (inode_view moved.node) ≡ false = subst N (is-from told).node (no-directory (A.node moved.inode) (is-from told).holds.removable) in
            subst N (sym raised.here) not;
        fit = fit_law (super_view v0.layout) B moved.inode (opened View (now (past_of v1)) seen-b.sound).parts (named-new (super_view v0.layout) A B seen-b.sees moved.inode (named-from told));
        links = λ paths distinct lead.
            let go = may_go v0 directory from moved (is-from told) Outer outer-leads in
            let had = (opened View (now (past_of v0)) (sound-a told)).parts.links moved.inode paths go.root distinct (all_lead-old (super_view v0.layout) A B seen-b.sees moved.inode paths lead) in
            let same : (A.node moved.inode).links ≡ moved.node.links = ap (λ (i : Inode). i.links) (is-from told).node in
            let more = links-b in
            omega (arith, had, same, more);
      }

      module _ (outer : List (List ℕ)) (leads : reached (super_view v0.layout) A outer ≡ Some directory) where
        removes-from : MayRemove (super_view v0.layout) B outer directory moved.place moved.inode from
        removes-from = still.remove outer directory moved.place moved.inode from (placed v0 directory from moved (is-from told)) (may_go v0 directory from moved (is-from told) outer leads).may

        removes-to : MayRemove (super_view v0.layout) B outer directory former.place former.inode to
        removes-to = still.remove outer directory former.place former.inode to (placed v0 directory to former (is-to told)) (may_go v0 directory to former (is-to told) outer leads).may

        leads-from : reached (super_view v0.layout) B (from ∷ outer) ≡ Some moved.inode
        leads-from = reached-same (super_view v0.layout) A B seen-b.sees (from ∷ outer) ∙ (may_go v0 directory from moved (is-from told) outer leads).leads

        leads-to : reached (super_view v0.layout) B (to ∷ outer) ≡ Some former.inode
        leads-to = reached-same (super_view v0.layout) A B seen-b.sees (to ∷ outer) ∙ (may_go v0 directory to former (is-to told) outer leads).leads

        may-replace : MayReplaceAt v1 outer directory former.place moved.place former.inode moved.inode over place to from
        may-replace = record {
          to_lies = record {
            at = record {
              sound = after1 (λ view. IsSound view (now (past_of v1))) seen-b.sound;
              lies = after1 (λ view. zone_of_entry view.layout (parts_of view (now (past_of v1))) directory former.place ≡ over.zone) zone-to;
              slot = after1 (λ view. former.place % entries_per_block view.layout.kind ≡ over.index) (sym over-slot);
            };
            placed = after1 (λ view. IsPlaced view (now (past_of v1)) directory former.place) placed-to;
          };
          from_lies = record {
            at = record {
              sound = after1 (λ view. IsSound view (now (past_of v1))) seen-b.sound;
              lies = after1 (λ view. zone_of_entry view.layout (parts_of view (now (past_of v1))) directory moved.place ≡ place.zone) zone-from;
              slot = after1 (λ view. moved.place % entries_per_block view.layout.kind ≡ place.index) (sym place-slot);
            };
            placed = after1 (λ view. IsPlaced view (now (past_of v1)) directory moved.place) placed-from;
          };
          fits = after1 (λ view. FitsEntry view.layout.kind to) (may told).fits;
          goes = after1 (λ view. MayRemove view.layout (parts_of view (now (past_of v1))) outer directory former.place former.inode to) removes-to;
          moves = after1 (λ view. MayRemove view.layout (parts_of view (now (past_of v1))) outer directory moved.place moved.inode from) removes-from;
          names = (may told).names;
          inodes = λ same. apart (sym same);
          stands = after1 (λ view. MayStand view.layout (parts_of view (now (past_of v1))) moved.inode) stands;
        }

    told-back : IsTold (past_of v1) → IsTold (past_of v0)
    told-back told = turns1.goes_on.told_before told

    module _ (v2 : Volume D disks) (r2 : Result (Unit {0}) ZoneFault) (replaces : ReplacesName v1 v2 over place moved.inode to r2) (writes : WritesEntriesAlone v1 v2 over place) where
      replaced : (outer : List (List ℕ)) → (IsTold (past_of v0) → reached (super_view v0.layout) A outer ≡ Some directory) → Replaces v1 v2 outer former.inode moved.inode to from r2
      replaced outer leads =
          replaces outer directory former.place moved.place former.inode from (λ told. may-replace (told-back told) outer (leads (told-back told)))

      -- what stays, whatever the past
      stays : GoesOn disks v1.disks.now v2.disks.now × KeepsVolume v1 v2
      stays = ⊎_elim
          (λ told. let r = replaced (Outer (told-back told)) (λ told'. outer-leads (told-back told)) in (r.goes_on, r.kept))
          (λ none. let r = replaces [] 0 0 0 0 [] (λ told. absurd (none told)) in (r.goes_on, r.kept))
          (told_or_not (past_of v1))

      pub goes02 : GoesOn disks v0.disks.now v2.disks.now
      goes02 = goes_on_join disks v0.disks.now v1.disks.now v2.disks.now turns1.goes_on stays.0

      pub kept02 : KeepsVolume v0 v2
      kept02 = keeps_join v0 v1 v2 turns1.kept stays.1

      pub moves02 : (outer : List (List ℕ)) → (IsTold (past_of v0) → reached (super_view v0.layout) A outer ≡ Some directory) → MovesPath v0 v2 (from ∷ outer) (to ∷ outer) r2
      moves02 outer leads =
          unseen_then_moves v0 v1 v2 (from ∷ outer) (to ∷ outer) r2 sound-a seen1
          (replaces_moves v1 v2 outer former.inode moved.inode to from r2 (replaced outer leads)
          (λ told. apart_names outer from to (may (told-back told)).names)
          (λ told. after1 (λ view. reached view.layout (parts_of view (now (past_of v1))) (from ∷ outer) ≡ Some moved.inode) (leads-from (told-back told) outer (leads (told-back told))))
          (λ told. after1 (λ view. reached view.layout (parts_of view (now (past_of v1))) (to ∷ outer) ≡ Some former.inode) (leads-to (told-back told) outer (leads (told-back told)))))

      pub others02 : (told : IsTold (past_of v0)) → (d s : ℕ) → IsOffRenamed v0 directory from to d s → NotWritten (past_of v0) (past_of v2) d s
      others02 told d s off =
          let O : ℕ → ℕ → Type 0 = λ zone index. IsOther v0.span.disk (v0.span.start + (zone_sector zone + entry_size (kind_view v0.layout.kind) * index / 512)) d s in
          let off-over : IsOffEntry v0 over d s = subst (λ z. O z over.index) (sym over-zone) (off_entry v0 directory to former over.index fits' over-low over-slot (is-to told) d s off.zones) in
          let off-place : IsOffEntry v0 place d s = subst (λ z. O z place.index) (sym place-zone) (off_entry v0 directory from moved place.index fits place-low place-slot (is-from told) d s off.zones) in
          not_written_join (past_of v0) (past_of v1) (past_of v2) d s (others1 v1 (Ok tt) turns1 seen1 told d s off)
          (writes d s (off_entry_stays v0 v1 over d s turns1.kept off-over) (off_entry_stays v0 v1 place d s turns1.kept off-place))

      pub refused2 : (fault : ZoneFault) → r2 ≡ Err fault → HasDeviceCause v1 v2 Device r2 → Carries v0 v2 directory from to (Err fault)
      refused2 fault is device = record {
        moves = record {
          moves = λ outer leads. subst (MovesPath v0 v2 (from ∷ outer) (to ∷ outer)) is (moves02 outer leads);
          files = λ told. tt;
          gains = λ told. tt;
          places = λ told. tt;
          others = others02;
          goes_on = goes02;
          kept = kept02;
        };
        device = λ told.
            let P : Result (Unit {0}) ZoneFault → Type 0 = λ r. HasDeviceCause v0 v2 Device r in
            subst P is (cause_after v0 v1 v2 Device r2 turns1.goes_on.later device);
      }

    -- ---- the inode that was moved

    module _ (v2 : Volume D disks) (replaces : ReplacesName {E = ZoneFault} v1 v2 over place moved.inode to (Ok tt)) (writes : WritesEntriesAlone v1 v2 over place)
        (entries : IsTold (past_of v1) → HasBothEntries v1 (now (past_of v2)) over place moved.inode to) where
      abbrev C : Parts
      C = In (now (past_of v2))

      after2 : (P : model.Volume → Type 0) → P View → P (volume_view v2)
      after2 P = subst P (sym (same_view v0 v2 (kept02 v2 (Ok tt) replaces writes)))

      before2 : (P : model.Volume → Type 0) → P (volume_view v2) → P View
      before2 P = subst P (same_view v0 v2 (kept02 v2 (Ok tt) replaces writes))

      back2 : IsTold (past_of v2) → IsTold (past_of v0)
      back2 told = (goes02 v2 (Ok tt) replaces writes).told_before told

      module _ (told : IsTold (past_of v0)) where
        abbrev Path : List (List ℕ)
        Path = Outer told

        done : IsReplaced View (now (past_of v1)) Path former.inode moved.inode to from (now (past_of v2))
        done =
            before1 (λ view. IsReplaced view (now (past_of v1)) Path former.inode moved.inode to from (now (past_of v2)))
            ((replaced v2 (Ok tt) replaces writes Path (λ told'. outer-leads told)).done (turns1.goes_on.told told))

        sound-c : IsSound View (now (past_of v2))
        sound-c = done.1.gone.sound

        both : HasBothEntries v1 (now (past_of v2)) over place moved.inode to
        both = entries (turns1.goes_on.told told)

        led-part : HasZonePart View (now (past_of v1)) both.mid over.zone (entry_size (kind_view v0.layout.kind) * over.index) Bytes
        led-part = before1 (λ view. HasZonePart view (now (past_of v1)) both.mid over.zone (entry_size view.layout.kind * over.index) (entry_bytes view.layout.kind moved.inode to)) both.led

        freed-part : HasZonePart View both.mid (now (past_of v2)) place.zone (entry_size (kind_view v0.layout.kind) * place.index) (free_bytes (kind_view v0.layout.kind))
        freed-part = before1 (λ view. HasZonePart view both.mid (now (past_of v2)) place.zone (entry_size view.layout.kind * place.index) (free_bytes view.layout.kind)) both.freed

        over-data : IsDataZone (super_view v0.layout) over.zone
        over-data = subst (IsDataZone (super_view v0.layout)) (sym over-zone) (fits'.zone.from, fits'.zone.below)

        place-data : IsDataZone (super_view v0.layout) place.zone
        place-data = subst (IsDataZone (super_view v0.layout)) (sym place-zone) (fits.zone.from, fits.zone.below)

        sound-b : IsSound View (now (past_of v1))
        sound-b = (seen-b told).sound

        sound-m : IsSound View both.mid
        sound-m =
            (redirect_bytes_law View (now (past_of v1)) both.mid Path directory former.place former.inode moved.inode to Bytes sound-b (placed-to told)
            (entry_at View (now (past_of v1)) both.mid directory former.place over.zone over.index Bytes long (zone-to told) (sym over-slot) led-part)
            (entry_bytes_law (kind_view v0.layout.kind) moved.inode to low16 (may told).fits).1 (removes-to told Path (outer-leads told)) (stands told)).sound

        led : ChangesZone (super_view v0.layout) B (In both.mid) over.zone (with_zone_part B over.zone (entry_size (kind_view v0.layout.kind) * over.index) Bytes)
        led = (part_law View (now (past_of v1)) both.mid over.zone (entry_size (kind_view v0.layout.kind) * over.index) Bytes sound-b over-data led-part).change

        cleared : ChangesZone (super_view v0.layout) (In both.mid) C place.zone
            (with_zone_part (In both.mid) place.zone (entry_size (kind_view v0.layout.kind) * place.index) (free_bytes (kind_view v0.layout.kind)))
        cleared =
            (part_law View both.mid (now (past_of v2)) place.zone (entry_size (kind_view v0.layout.kind) * place.index) (free_bytes (kind_view v0.layout.kind)) sound-m place-data freed-part).change

        over-points : (at : Pointer) → PointsTo (super_view v0.layout) A directory at former.zone → PointsTo (super_view v0.layout) A directory at over.zone
        over-points at to' = subst (λ z. PointsTo (super_view v0.layout) A directory at z) (sym over-zone) to'

        place-points : (at : Pointer) → PointsTo (super_view v0.layout) A directory at moved.zone → PointsTo (super_view v0.layout) A directory at place.zone
        place-points at to' = subst (λ z. PointsTo (super_view v0.layout) A directory at z) (sym place-zone) to'

        parts-a : Sound (super_view v0.layout) A
        parts-a = (opened View (now (past_of v0)) (sound-a told)).parts

        -- places of directories
        placed-each : KeepsEachPlace (super_view v0.layout) B C × KeepsDirectories (super_view v0.layout) B C
        placed-each =
            let bytes = entry_bytes_law (kind_view v0.layout.kind) moved.inode to low16 (may told).fits in
            let first = entry_at View (now (past_of v1)) both.mid directory former.place over.zone over.index Bytes long (zone-to told) (sym over-slot) led-part in (
              replaced_each View (now (past_of v1)) both.mid (now (past_of v2)) Path directory former.place moved.place former.inode moved.inode place.zone place.index to from Bytes sound-b
                  (placed-to told) (placed-from told) (zone-from told) (sym place-slot) (removes-to told Path (outer-leads told)) (removes-from told Path (outer-leads told)) (may told).names
                  (λ same. apart (sym same)) (stands told) bytes.1 first freed-part (leads-to told Path (outer-leads told)) (leads-from told Path (outer-leads told)),
              replaced_directories View (now (past_of v1)) both.mid (now (past_of v2)) Path directory former.place moved.place former.inode moved.inode place.zone place.index to from Bytes sound-b
                  (placed-to told) (placed-from told) (zone-from told) (sym place-slot) (removes-to told Path (outer-leads told)) (removes-from told Path (outer-leads told)) (may told).names
                  (λ same. apart (sym same)) (stands told) bytes.1 first freed-part (leads-to told Path (outer-leads told)) (leads-from told Path (outer-leads told)),
            )

        moved-is : C.node moved.inode ≡ raised_of moved
        moved-is =
            raised_node (super_view v0.layout) A B (In both.mid) C C directory moved.inode over.zone place.zone (inode_view moved.node) _ _ _ _ parts-a (is-from told).holds.entry.named
            (named-from told) (beside-from told) (is-from told).node (raised told) led cleared (over-points _ (points v0 directory to former (is-to told))) (place-points _ (points v0 directory from moved (is-from told)))

        moved-range : (at : Pointer) (zone : ℕ) → PointsTo (super_view v0.layout) C moved.inode at zone → IsDataZone (super_view v0.layout) zone
        moved-range =
            raised_range (super_view v0.layout) A B (In both.mid) C C directory moved.inode over.zone place.zone (inode_view moved.node) _ _ _ _ parts-a (is-from told).holds.entry.named
            (named-from told) (beside-from told) (is-from told).node (raised told) led cleared (over-points _ (points v0 directory to former (is-to told))) (place-points _ (points v0 directory from moved (is-from told)))

        pub may_lower : MayRelease v2 moved.inode (raised_of moved)
        may_lower = record {
          sound = after2 (λ view. IsSound view (now (past_of v2))) sound-c;
          is = after2 (λ view. (parts_of view (now (past_of v2))).node moved.inode ≡ raised_of moved) moved-is;
          sized = after2 (λ view. is_size view.layout.kind moved.node.size ≡ true) (sized_is v0 directory from moved (is-from told));
          kind = kind_is v0 directory from moved (is-from told);
          enough = after2 (λ view. (links : ℕ) → moved.node.links + 1 ≡ links + 1 → AreEnough view.layout (parts_of view (now (past_of v2))) moved.inode links)
              (λ links more paths root distinct lead.
              let fewer' = done.1.lower paths distinct lead in
              let same = links-b told in
              omega (arith, fewer', more, same));
          left = λ few'. absurd (let one = some-link told in omega (arith, few', one));
          range = after2 (λ view. (at : Pointer) (zone : ℕ) → PointsTo view.layout (parts_of view (now (past_of v2))) moved.inode at zone → IsDataZone view.layout zone) moved-range;
        }

      -- ---- the inode that lost its name

      module _ (v3 : Volume D disks) (r3 : Result (Unit {0}) ZoneFault) (releases3 : Releases v2 v3 moved.inode (raised_of moved) r3) where
        told-then : IsTold (past_of v0) → IsTold (past_of v2)
        told-then told = (goes02 v2 (Ok tt) replaces writes).told told

        goes03 : GoesOn disks v0.disks.now v3.disks.now
        goes03 = goes_on_join disks v0.disks.now v2.disks.now v3.disks.now (goes02 v2 (Ok tt) replaces writes) releases3.unseen.goes_on

        kept03 : KeepsVolume v0 v3
        kept03 = keeps_join v0 v2 v3 (kept02 v2 (Ok tt) replaces writes) releases3.unseen.kept

        others03 : (told : IsTold (past_of v0)) → (d s : ℕ) → IsOffRenamed v0 directory from to d s → NotWritten (past_of v0) (past_of v3) d s
        others03 told d s off =
            not_written_join (past_of v0) (past_of v2) (past_of v3) d s (others02 v2 (Ok tt) replaces writes told d s off)
            (releases3.others d s (off_file_kept v0 v2 moved.inode (kept02 v2 (Ok tt) replaces writes) d s (off.files moved.inode former.inode (is-from told).held (is-to told).held).0))

        pub refused3 : (fault : ZoneFault) → r3 ≡ Err fault → Carries v0 v3 directory from to (Err fault)
        refused3 fault is = record {
          moves = record {
            moves = λ outer leads. moves_then_unseen v0 v2 v3 (from ∷ outer) (to ∷ outer) {E = ZoneFault} (Err fault) (moves02 v2 (Ok tt) replaces writes outer leads) releases3.unseen;
            files = λ told. tt;
            gains = λ told. tt;
            places = λ told. tt;
            others = others03;
            goes_on = goes03;
            kept = kept03;
          };
          device = λ told.
              let P : Result (Unit {0}) ZoneFault → Type 0 = λ r. HasDeviceCause v0 v3 Device r in
              subst P is (cause_after v0 v2 v3 Device r3 (goes02 v2 (Ok tt) replaces writes).later (releases3.device (told-then told)));
        }

      module _ (v3 : Volume D disks) (releases3 : Releases v2 v3 moved.inode (raised_of moved) (Ok tt)) where
        abbrev E' : Parts
        E' = In (now (past_of v3))

        kept-then : KeepsVolume v0 v3
        kept-then = kept03 v3 (Ok tt) releases3

        after3 : (P : model.Volume → Type 0) → P View → P (volume_view v3)
        after3 P = subst P (sym (same_view v0 v3 kept-then))

        pub back3 : IsTold (past_of v3) → IsTold (past_of v0)
        back3 told = (goes03 v3 (Ok tt) releases3).told_before told

        module _ (told : IsTold (past_of v0)) where
          seen-e : SeenAsIn View (now (past_of v2)) (now (past_of v3))
          seen-e = before2 (λ view. SeenAsIn view (now (past_of v2)) (now (past_of v3))) (releases3.unseen.held (told-then v3 (Ok tt) releases3 told))

          lowered : ChangesNode (super_view v0.layout) C E' moved.inode (with_links (raised_of moved) (moved.node.links + 1 - 1))
          lowered =
              let more : 1 < moved.node.links + 1 = let one = some-link told in omega (arith, one) in
              let P : model.Volume → model.Volume → Type 0 = λ was is.
              ChangesNode was.layout (parts_of was (now (past_of v2))) (parts_of is (now (past_of v3))) moved.inode (with_links (raised_of moved) (moved.node.links + 1 - 1)) in
              subst₂ P (same_view v0 v2 (kept02 v2 (Ok tt) replaces writes)) (same_view v0 v3 kept-then)
              ((releases3.changed (told-then v3 (Ok tt) releases3 told)).lowered more)

          keeps : KeepsFiles (super_view v0.layout) A E' directory
          keeps =
              keeps_raised (super_view v0.layout) A B (In (both told).mid) C E' directory moved.inode over.zone place.zone (inode_view moved.node) _ _ _ _ (parts-a told) (is-from told).holds.entry.named
              (named-from told) (beside-from told) (is-from told).node (raised told) (led told) (cleared told)
              (over-points told _ (points v0 directory to former (is-to told))) (place-points told _ (points v0 directory from moved (is-from told))) lowered

          former-range : (at : Pointer) (zone : ℕ) → PointsTo (super_view v0.layout) E' former.inode at zone → IsDataZone (super_view v0.layout) zone
          former-range =
              former_range (super_view v0.layout) A B (In (both told).mid) C E' directory moved.inode over.zone place.zone (inode_view moved.node) _ _ _ _ (parts-a told) (is-from told).holds.entry.named
              (named-from told) (beside-from told) (is-from told).node (raised told) (led told) (cleared told)
              (over-points told _ (points v0 directory to former (is-to told))) (place-points told _ (points v0 directory from moved (is-from told))) lowered
              former.inode (named-to told) (beside-to told) apart (opened View (now (past_of v2)) (sound-c told)).parts seen-e.sees

          former-enough : (links : ℕ) → (A.node former.inode).links ≡ links + 1 → AreEnough (super_view v0.layout) E' former.inode links
          former-enough links more =
              former_enough (super_view v0.layout) A B (In (both told).mid) C E' directory moved.inode over.zone place.zone (inode_view moved.node) _ _ _ _ (parts-a told) (is-from told).holds.entry.named
              (named-from told) (beside-from told) (is-from told).node (raised told) (led told) (cleared told)
              (over-points told _ (points v0 directory to former (is-to told))) (place-points told _ (points v0 directory from moved (is-from told))) lowered
              former.inode (named-to told) (beside-to told) apart (opened View (now (past_of v2)) (sound-c told)).parts seen-e.sees links more (done told).1.former_lower

          only : former.node.links ≤ 1 → IsOnlyName (super_view v0.layout) B (to ∷ Path told) former.inode
          only few' =
              let go = may_go v0 directory to former (is-to told) (Path told) (outer-leads told) in
              let same : (B.node former.inode).links ≡ former.node.links =
              ap (λ (i : Inode). i.links) ((raised told).others former.inode ((parts-a told).in_range former.inode (named-to told)) apart ∙ (is-to told).node) in
              only-name (super_view v0.layout) B (to ∷ Path told) former.inode (opened View (now (past_of v1)) (sound-b told)).parts (leads-to told (Path told) (outer-leads told)) go.root
              (omega (arith, few', same))

          former-left : former.node.links ≤ 1 → IsLeft (super_view v0.layout) E' former.inode
          former-left few' =
              former_left (super_view v0.layout) A B (In (both told).mid) C E' directory moved.inode over.zone place.zone (inode_view moved.node) _ _ _ _ (parts-a told) (is-from told).holds.entry.named
              (named-from told) (beside-from told) (is-from told).node (raised told) (led told) (cleared told)
              (over-points told _ (points v0 directory to former (is-to told))) (place-points told _ (points v0 directory from moved (is-from told))) lowered
              former.inode (named-to told) (beside-to told) apart (opened View (now (past_of v2)) (sound-c told)).parts seen-e.sees
              ((done told).1.unnamed (only few')) ((done told).1.unused (only few'))

          pub may_let_former : MayRelease v3 former.inode (inode_view former.node)
          may_let_former = record {
            sound = after3 (λ view. IsSound view (now (past_of v3))) seen-e.sound;
            is = after3 (λ view. (parts_of view (now (past_of v3))).node former.inode ≡ inode_view former.node)
                (keeps.nodes former.inode ((parts-a told).in_range former.inode (named-to told)) ∙ (is-to told).node);
            sized = after3 (λ view. is_size view.layout.kind former.node.size ≡ true) (sized_is v0 directory to former (is-to told));
            kind = kind_is v0 directory to former (is-to told);
            enough = after3 (λ view. (links : ℕ) → former.node.links ≡ links + 1 → AreEnough view.layout (parts_of view (now (past_of v3))) former.inode links)
                (λ links more. former-enough links (ap (λ (i : Inode). i.links) (is-to told).node ∙ more));
            left = after3 (λ view. former.node.links ≤ 1 → IsLeft view.layout (parts_of view (now (past_of v3))) former.inode) former-left;
            range = after3 (λ view. (at : Pointer) (zone : ℕ) → PointsTo view.layout (parts_of view (now (past_of v3))) former.inode at zone → IsDataZone view.layout zone) former-range;
          }

        -- ---- the whole

        module _ (v4 : Volume D disks) (r4 : Result (Unit {0}) ZoneFault) (releases4 : Releases v3 v4 former.inode (inode_view former.node) r4) where
          module _ (told : IsTold (past_of v0)) (lets : LetsGo former.inode (inode_view former.node) View E' (parts_now v4)) where
            abbrev Sound-a : Sound (super_view v0.layout) A
            Sound-a = parts-a told

            removed : RemovesFile (super_view v0.layout) A (parts_now v4) directory former.inode
            removed =
                removes_file View A E' (parts_now v4) directory former.inode (inode_view former.node) (fits'.some, fits'.there) (keeps told)
                (kept_files_law (super_view v0.layout) A E' directory former.inode Sound-a (is-from told).holds.entry.named (keeps told) (named-to told) (beside-to told))
                lets (is-to told).node

            gains-none : GainsNoZone (super_view v0.layout) A (parts_now v4) directory
            gains-none =
                let here = (is-from told).holds.entry in
                let node = removed.others directory (Sound-a.in_range directory here.named) (λ same. beside-to told (sym same)) in
                gains_two (super_view v0.layout) A (parts_now v4) directory Sound-a here.named here.is node former.place moved.place (λ zone in' off-to off-from.
                let_go_zones View E' (parts_now v4) former.inode (inode_view former.node) lets zone in'
                ∙ ((lowered told).zones zone in'
                ∙ ((cleared told).others zone in' (λ same. off-from (same ∙ (place-zone ∙ sym (is-from told).lies)))
                ∙ ((led told).others zone in' (λ same. off-to (same ∙ (over-zone ∙ sym (is-to told).lies)))
                ∙ (raised told).zones zone in'))))

          let-go : (told : IsTold (past_of v0)) → OnOk r4 (LetsGo former.inode (inode_view former.node) View E' (parts_now v4))
          let-go told =
              let L : model.Volume → Type 0 = λ view. LetsGo former.inode (inode_view former.node) view (parts_of view (now (past_of v3))) (parts_now v4) in
              on_ok r4 _ _ (releases4.changed ((goes03 v3 (Ok tt) releases3).told told)) (λ lets. subst L (same_view v0 v3 kept-then) lets)

          gains : (told : IsTold (past_of v0)) → OnOk r4 (GainsNoZone (super_view v0.layout) A (parts_now v4) directory)
          gains told = on_ok r4 _ _ (let-go told) (gains-none told)

          places : (told : IsTold (past_of v0)) → KeepsEachPlace (super_view v0.layout) A (parts_now v4)
          places told =
              let S : model.Volume → Type 0 = λ view. SeenAsIn view (now (past_of v3)) (now (past_of v4)) in
              let K : model.Volume → Type 0 = λ view. KeepsEachPlace (super_view v0.layout) A (parts_of view (now (past_of v4))) in
              let seen = subst S (same_view v0 v3 kept-then) (releases4.unseen.held ((goes03 v3 (Ok tt) releases3).told told)) in
              let entries = placed-each told in
              subst K (sym (same_view v0 v4 (keeps_join v0 v3 v4 kept-then releases4.unseen.kept)))
              (join_each (super_view v0.layout) A B (In (now (past_of v4))) (seen_directories (super_view v0.layout) A B (seen-b told).sees) (seen_each (super_view v0.layout) A B (seen-b told).sees)
              (join_each (super_view v0.layout) B C (In (now (past_of v4))) entries.1 entries.0
              (join_each (super_view v0.layout) C E' (In (now (past_of v4))) (seen_directories (super_view v0.layout) C E' (seen-e told).sees) (seen_each (super_view v0.layout) C E' (seen-e told).sees)
              (seen_each (super_view v0.layout) E' (In (now (past_of v4))) seen.sees))))

          files : IsTold (past_of v0) → OnOk r4 (RenamesFiles (super_view v0.layout) A (parts_now v4) directory (held_name (super_view v0.layout) A directory to))
          files told =
              let F : Option ℕ → Type 0 = λ held. RenamesFiles (super_view v0.layout) A (parts_now v4) directory held in
              on_ok r4 _ _ (let-go told) (λ lets. subst F (sym (is-to told).held) (removed told lets))

          pub carries_over : Carries v0 v4 directory from to r4
          carries_over = record {
            moves = record {
              moves = λ outer leads. moves_then_unseen v0 v2 v4 (from ∷ outer) (to ∷ outer) {E = ZoneFault} r4 (moves02 v2 (Ok tt) replaces writes outer leads)
                  (unseen_join v2 v3 v4 releases3.unseen releases4.unseen);
              files = files;
              gains = gains;
              places = λ told. on_ok_held r4 _ (places told);
              others = λ told d s off. not_written_join (past_of v0) (past_of v3) (past_of v4) d s (others03 v3 (Ok tt) releases3 told d s off)
                  (releases4.others d s (off_file_kept v0 v3 former.inode kept-then d s (off.files moved.inode former.inode (is-from told).held (is-to told).held).1));
              goes_on = goes_on_join disks v0.disks.now v3.disks.now v4.disks.now (goes03 v3 (Ok tt) releases3) releases4.unseen.goes_on;
              kept = keeps_join v0 v3 v4 kept-then releases4.unseen.kept;
            };
            device = λ told. cause_after v0 v3 v4 Device r4 (goes03 v3 (Ok tt) releases3).later (releases4.device ((goes03 v3 (Ok tt) releases3).told told));
          }

-- ---- what holds whatever the past

-- where the name of another inode is to be replaced, the inode may have a link more
pub link_left : (layout : Super) (moved former : Target) → FitsRenaming layout moved (Some former) → former.inode ≢ moved.inode → moved.node.links < most_links (kind_view layout.kind)
link_left layout moved former fits apart =
    let far : (former.inode == moved.inode) ≡ false = ne_eqb former.inode moved.inode apart in
    let not-most : (moved.node.links == most_links (kind_view layout.kind)) ≡ false = rw far at fits.link in
    let differ : moved.node.links ≢ most_links (kind_view layout.kind) = λ same. let t = eq-eqb moved.node.links (most_links (kind_view layout.kind)) same in cc in
    let low = fits.from.fits.links_fit in
    omega (arith, low, differ)

module _ {D : Type 0} {disks : Ghosts D} (v0 : Volume D disks) (to : List ℕ) (moved former : Target) (fits : FitsTarget v0.layout moved) (fits' : FitsTarget v0.layout former)
    (short : length to ≤ name_size (kind_view v0.layout.kind)) (apart : former.inode ≢ moved.inode) (fewer : moved.node.links < most_links (kind_view v0.layout.kind))
    (may : IsTold (past_of v0) → IsSomeRenaming v0 to moved (Some former)) where
  pub may_raise : IsTold (past_of v0) → MayHaveLinks v0 moved.inode (inode_view moved.node) (moved.node.links + 1)
  may_raise told = let some = may told in may_have_links v0 some.directory some.from to moved former fits fits' short apart fewer (λ told'. some.is) told

  module _ (v1 : Volume D disks) (turns1 : TurnsInode {E = ZoneFault} v0 v1 moved.inode (raised_of moved) Device (Ok tt)) (seen1 : Unseen v0 v1) (over place : EntryPlace)
      (over-zone : over.zone ≡ former.zone) (over-slot : over.index ≡ former.place % entries_per_block (kind_view v0.layout.kind)) (over-low : over.index < entries_per_block (kind_view v0.layout.kind))
      (place-zone : place.zone ≡ moved.zone) (place-slot : place.index ≡ moved.place % entries_per_block (kind_view v0.layout.kind)) (place-low : place.index < entries_per_block (kind_view v0.layout.kind))
      (v2 : Volume D disks) (r2 : Result (Unit {0}) ZoneFault) (replaces : ReplacesName v1 v2 over place moved.inode to r2) (writes : WritesEntriesAlone v1 v2 over place) where
    pub stays_over : GoesOn disks v0.disks.now v2.disks.now × KeepsVolume v0 v2
    stays_over = ⊎_elim
        (λ told. let some = may told in (
          goes02 v0 some.directory some.from to moved former fits fits' short apart fewer (λ told'. some.is) v1 turns1 seen1 over place over-zone over-slot over-low place-zone place-slot place-low v2 r2 replaces writes,
          kept02 v0 some.directory some.from to moved former fits fits' short apart fewer (λ told'. some.is) v1 turns1 seen1 over place over-zone over-slot over-low place-zone place-slot place-low v2 r2 replaces writes,
        ))
        (λ none. (
          goes02 v0 0 [] to moved former fits fits' short apart fewer (λ told. absurd (none told)) v1 turns1 seen1 over place over-zone over-slot over-low place-zone place-slot place-low v2 r2 replaces writes,
          kept02 v0 0 [] to moved former fits fits' short apart fewer (λ told. absurd (none told)) v1 turns1 seen1 over place over-zone over-slot over-low place-zone place-slot place-low v2 r2 replaces writes,
        ))
        (told_or_not (past_of v0))
