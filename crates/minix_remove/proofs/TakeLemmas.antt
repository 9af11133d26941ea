-- An entry that is cleared, and its inode that is let go.
use Rattle.std.proofs.Common.{◌≡◌, ◌≢◌, ◌≤◌, ◌<◌, ◌+◌, ◌-◌, ◌*◌, ◌/◌, ◌%◌, ◌||◌, ℕ, Bool, true, false, List, ◌∷◌, Some, None, Result, Ok, Err, OnOk, IfErr, refl, sym, ◌∙◌, ap, subst, arith, ⊎_elim}
use Rattle.std.proofs.lemmas.Bool.{cases_lt, or_left, or_right}
use Rattle.disk_trait.specs.declared.disks.Disks.{Ghosts}
use Rattle.disk_trait.specs.Past.{Image}
use Rattle.disk_trait.specs.Moments.{IsTold, now}
use Rattle.disk_trait.specs.NotWritten.{IsOther}
use Rattle.disk_trait.specs.Range.{IsOutside}
use Rattle.disk_trait.proofs.CallLemmas.{goes_on_join, on_ok_held}
use Rattle.disk_trait.proofs.MomentLemmas.{on_ok}
use Rattle.disk_trait.proofs.NotWrittenLemmas.{not_written_join}
use Rattle.disk_trait.proofs.RangeLemmas.{outside_is_other}
use Rattle.lilo_model.specs.MinixEntries.{Entry, entries_per_block}
use Rattle.lilo_model.specs.MinixLayout.{Inode, entry_size, is_size, zone_sector}
use Rattle.lilo_model.specs.MinixNames.{reached, Named, PointsTo, IsSound}
use Rattle.lilo_model.specs.MinixParts as model
use Rattle.lilo_model.specs.MinixParts.{Parts, Pointer, has_zones, is_directory, is_file, is_link, parts_of}
use Rattle.minix_change_laws.specs.Beside.{IsInode, IsDataZone}
use Rattle.minix_change_laws.specs.Written.{HasEntryBytes, IsPlaced}
use Rattle.minix_change_laws.proofs.Written.{written_law}
use Rattle.minix_change_laws.specs.Enter.{BecomesFree, IsLeft}
use Rattle.minix_change_laws.proofs.Only.{Here, directory-refers}
use Rattle.minix_fill.proofs.ChangeLemmas.{cause_later}
use Rattle.minix_fill.proofs.FileLemmas.{off_file_kept}
use Rattle.minix_change_laws.specs.Changes.{AreEnough, ChangesZone}
use Rattle.minix_layout.specs.View.{kind_view, super_view, inode_view}
use Rattle.minix_remove_laws.specs.Files.{KeepsFiles, KeepsFile}
use Rattle.minix_remove_laws.specs.Held.{is_removable, MayGoFrom, IsReleased}
use Rattle.minix_remove_laws.proofs.Files.{keeps_zone}
use Rattle.minix_remove_laws.proofs.Held.{held_law, no-directory}
use Rattle.minix_remove_laws.proofs.Released.{released_law}
use Rattle.minix_change_laws.specs.Sees.{SeenAsIn}
use Rattle.minix_change_laws.proofs.Seen.{opened}
use Rattle.minix_steps.specs.Written.{parts_now}
use Rattle.minix_steps.proofs.StepLemmas.{same_view}
use Rattle.minix_turns.specs.Joined.{Unseen, LeadsPath}
use Rattle.minix_turns.specs.Names.{IsEntryAt, MayRemoveAt, RemovesName}
use Rattle.minix_turns.specs.Part.{TurnsFreeEntry, HasEntryPart}
use Rattle.minix_turns.proofs.EntryLemmas.{free-long, free-inode}
use Rattle.minix_turns.proofs.JoinedLemmas.{leads_then_unseen}
use Rattle.minix_turns.proofs.NameLemmas.{entry_at}
use Rattle.minix_turns.proofs.PartLemmas.{entry_fits}
use Rattle.minix_change_laws.specs.Part.{free_bytes, with_zone_part}
use Rattle.minix_change_laws.proofs.Part.{part_law}
use Rattle.minix_zones.specs.View.{HasZoneCause}
use Rattle.minix_zones.specs.Volume.{volume_view, past_of, faults_of, KeepsVolume}
use Rattle.minix_zones.specs.declared.volume.Volume.{Volume}
use Rattle.minix_zones.specs.declared.zone_fault.ZoneFault.{ZoneFault}
use Rattle.minix_zones.specs.declared.zone_fault.ZoneFault.TheVariants.{Device}
use Rattle.minix_zones.proofs.WriteLemmas.{cause_after, keeps_join}
use Rattle.minix_remove.specs.Released.{MayRelease, LetsGo, Releases}
use Rattle.minix_remove.specs.Removed.{GainsNoZone, KeepsEachPlace, RemovesFile, Takes}
use Rattle.minix_remove.specs.Target.{IsTarget, FitsTarget}
use Rattle.minix_remove.specs.declared.target.Target.{Target}
use Rattle.minix_remove.proofs.PlaceLemmas.{leads_to_file, tree_directories, seen_each, join_each, used_entry, is_used}
use Rattle.minix_remove.proofs.PointerLemmas.{gains_one}

-- ---- answers

-- what is led is led by another answer, which is Ok where this one is
pub leads_as : {D E F : Type 0} {disks : Ghosts D} (old new : Volume D disks) (path : List (List ℕ)) (result : Result (Unit {0}) E) (answer : Result (Unit {0}) F)
    → ((P : Type 0) → OnOk result P → OnOk answer P) → LeadsPath old new path None None result → LeadsPath old new path None None answer
leads_as old new path result answer so leads = record {
  any_moment = leads.any_moment;
  held = leads.held;
  done = λ told. so _ (leads.done told);
  goes_on = leads.goes_on;
  kept = leads.kept;
}

-- ---- in terms of parts

-- an inode is let go that lost a name in a directory
module _ (view : model.Volume) (first next last : Parts) (directory number : ℕ) (inode : Inode) (range : IsInode view.layout number)
    (keeps : KeepsFiles view.layout first next directory) (kept : KeepsFile view.layout first next number) (goes : LetsGo number inode view next last) (is : first.node number ≡ inode) where
  pub removes_file : RemovesFile view.layout first last directory number
  removes_file = record {
    lowered = λ more.
        let more' : 1 < inode.links = subst (λ (i : Inode). 1 < i.links) is more in
        let changes = goes.lowered more' in
        record {
          node = changes.here ∙ ap (λ (i : Inode). record i { links = i.links - 1 }) (sym is);
          marks = λ other in'. changes.marks other in' ∙ keeps.marks other in';
          zone_marks = λ other in'. changes.zone_marks other in' ∙ keeps.zone_marks other in';
        };
    freed = λ few.
        let few' : inode.links ≤ 1 = subst (λ (i : Inode). i.links ≤ 1) is few in
        let frees = goes.freed few' in
        record {
          node = frees.node;
          mark = frees.mark;
          zone_marks = λ at other points. frees.zone_marks at other (kept.stays at other points);
          other_marks = λ other in' apart. frees.other_marks other in'.1 apart ∙ keeps.marks other in';
          other_zone_marks = λ other in' none. frees.other_zone_marks other in' (λ at points. none at (kept.points at other points)) ∙ keeps.zone_marks other in';
        };
    others = λ other in' apart. ⊎_elim
        (λ more. (goes.lowered more).others other in' apart ∙ keeps.nodes other in')
        (λ few. (goes.freed few).other_nodes other in'.0 in'.1 apart ∙ keeps.nodes other in')
        (cases_lt 1 inode.links);
    bytes = λ other in' none. ⊎_elim
        (λ more. (goes.lowered more).zones other in' ∙ keeps.bytes other in' none)
        (λ few. (goes.freed few).bytes other in'.0 ∙ keeps.bytes other in' none)
        (cases_lt 1 inode.links);
  }

-- an inode that is let go: no zone has other bytes
module _ (view : model.Volume) (next last : Parts) (number : ℕ) (inode : Inode) (goes : LetsGo number inode view next last) where
  pub let_go_zones : (zone : ℕ) → IsDataZone view.layout zone → last.zone zone ≡ next.zone zone
  let_go_zones zone in' = ⊎_elim
      (λ more. (goes.lowered more).zones zone in')
      (λ few. (goes.freed few).bytes zone in'.0)
      (cases_lt 1 inode.links)

-- a removable inode is no directory
pub beside_directory : (parts : Parts) (directory number : ℕ) → is_directory (parts.node directory) ≡ true → is_removable (parts.node number) ≡ true → directory ≢ number
beside_directory parts directory number is removable same =
    let not : is_directory (parts.node number) ≡ false = no-directory (parts.node number) removable in
    let D' : ℕ → Type 0 = λ n. is_directory (parts.node n) ≡ false in
    let both : true ≡ false = sym is ∙ subst D' (sym same) not in cc

-- ---- an inode that has a name

-- a file or a link has zones
has-by : (inode : Inode) (file : Bool) → is_file inode ≡ file → is_removable inode ≡ true → has_zones inode ≡ true
has-by inode true f removable = or_left (is_directory inode || is_file inode) (is_link inode) (or_right (is_directory inode) (is_file inode) f)
has-by inode false f removable = or_right (is_directory inode || is_file inode) (is_link inode) (rw f at removable)

module _ {D : Type 0} {disks : Ghosts D} (old : Volume D disks) (directory : ℕ) (name : List ℕ) (target : Target) (is : IsTarget old directory name target) where
  pub sound : IsSound (volume_view old) (now (past_of old))
  sound = is.in_directory.sound

  pub may_go : (outer : List (List ℕ)) → reached (super_view old.layout) (parts_now old) outer ≡ Some directory
      → MayGoFrom (super_view old.layout) (parts_now old) outer directory target.place target.inode name
  may_go outer leads = held_law (super_view old.layout) (parts_now old) outer directory target.place target.inode name (opened (volume_view old) (now (past_of old)) sound).parts leads is.holds

  pub goes : MayGoFrom (super_view old.layout) (parts_now old) is.holds.entry.named.path directory target.place target.inode name
  goes = may_go is.holds.entry.named.path is.holds.entry.named.leads

  pub named_target : Named (super_view old.layout) (parts_now old) target.inode
  named_target = record { path = name ∷ is.holds.entry.named.path; leads = goes.leads }

  pub placed : IsPlaced (volume_view old) (now (past_of old)) directory target.place
  placed = record { named = is.holds.entry.named; is = is.holds.entry.is; reached = is.reached; below = is.holds.entry.below; some = goes.lies }

  pub points : PointsTo (super_view old.layout) (parts_now old) directory (Here (super_view old.layout) (parts_now old) directory target.place is.holds.entry.named is.holds.entry.is) target.zone
  points =
      let refers = directory-refers (super_view old.layout) (parts_now old) directory target.place is.holds.entry.named is.holds.entry.is target.zone (λ none. goes.lies (is.lies ∙ none)) (sym is.lies) in
      refers.to

  pub kind_is : has_zones (inode_view target.node) ≡ true
  kind_is = let R : Inode → Type 0 = λ i. is_removable i ≡ true in has-by (inode_view target.node) _ refl (subst R is.node is.holds.removable)

  pub sized_is : is_size (kind_view old.layout.kind) target.node.size ≡ true
  sized_is =
      let S : Inode → Type 0 = λ i. is_size (kind_view old.layout.kind) i.size ≡ true in
      subst S is.node ((opened (volume_view old) (now (past_of old)) sound).parts.size target.inode named_target)

-- ---- the entry

module _ {D : Type 0} {disks : Ghosts D} (old : Volume D disks) (directory : ℕ) (name : List ℕ) (target : Target) (index : ℕ) (fits : FitsTarget old.layout target)
    (low : index < entries_per_block (kind_view old.layout.kind)) (slot : index ≡ target.place % entries_per_block (kind_view old.layout.kind)) where
  abbrev View : model.Volume
  View = volume_view old

  abbrev Was : Parts
  Was = parts_now old

  -- where it is
  module _ (is : IsTarget old directory name target) where
    pub lies : IsEntryAt old directory target.place target.zone index
    lies = record { at = record { sound = sound old directory name target is; lies = is.lies; slot = sym slot }; placed = placed old directory name target is }

    pub may_remove_at : (outer : List (List ℕ)) → reached (super_view old.layout) Was outer ≡ Some directory → MayRemoveAt old outer directory target.place target.zone index target.inode name
    may_remove_at outer leads = record { lies = lies; removes = (may_go old directory name target is outer leads).may }

    -- once it is clear
    abbrev Filled : List ℕ
    Filled = with_zone_part Was target.zone (entry_size (kind_view old.layout.kind) * index) (free_bytes (kind_view old.layout.kind))

    module _ (image : Image) (has : HasEntryPart old image target.zone index (free_bytes (kind_view old.layout.kind))) where
      pub changes_zone : ChangesZone (super_view old.layout) Was (parts_of View image) target.zone Filled
      changes_zone = (part_law View (now (past_of old)) image target.zone (entry_size (kind_view old.layout.kind) * index) (free_bytes (kind_view old.layout.kind)) (sound old directory name target is) (fits.zone.from, fits.zone.below) has).change

      has-bytes : HasEntryBytes View (now (past_of old)) image directory target.place (free_bytes (kind_view old.layout.kind))
      has-bytes = entry_at View (now (past_of old)) image directory target.place target.zone index (free_bytes (kind_view old.layout.kind)) (free-long (kind_view old.layout.kind)) is.lies (sym slot) has

      becomes : BecomesFree (super_view old.layout) Was (parts_of View image) directory target.place
      becomes =
          let written = written_law View (now (past_of old)) image directory target.place (free_bytes (kind_view old.layout.kind)) (sound old directory name target is) (placed old directory name target is) has-bytes in
          record { only = written.only; free = ap (λ (e : Entry). e.inode) written.says ∙ free-inode (kind_view old.layout.kind) }

      pub is_released : IsReleased (super_view old.layout) Was (parts_of View image) target.inode
      is_released = released_law (super_view old.layout) Was (parts_of View image) directory target.place target.inode name (opened View (now (past_of old)) (sound old directory name target is)).parts is.holds becomes

    -- ---- then its inode may go

    abbrev Node : Inode
    Node = inode_view target.node

    module _ (mid : Volume D disks) (kept : KeepsVolume old mid) (sound-mid : IsSound View (now (past_of mid)))
        (has : HasEntryPart old (now (past_of mid)) target.zone index (free_bytes (kind_view old.layout.kind))) where
      after : (P : model.Volume → Type 0) → P View → P (volume_view mid)
      after P = subst P (sym (same_view old mid kept))

      abbrev Next : model.Volume → Parts
      Next view = parts_of view (now (past_of mid))

      released : IsReleased (super_view old.layout) Was (Next View) target.inode
      released = is_released (now (past_of mid)) has

      pub may_release : MayRelease mid target.inode Node
      may_release = record {
        sound = after (λ view. IsSound view (now (past_of mid))) sound-mid;
        is = after (λ view. (Next view).node target.inode ≡ Node) (released.is ∙ is.node);
        sized = after (λ view. is_size view.layout.kind Node.size ≡ true) (sized_is old directory name target is);
        kind = kind_is old directory name target is;
        enough = after (λ view. (links : ℕ) → Node.links ≡ links + 1 → AreEnough view.layout (Next view) target.inode links)
            (λ links more. released.enough links (ap (λ (i : Inode). i.links) is.node ∙ more));
        left = after (λ view. Node.links ≤ 1 → IsLeft view.layout (Next view) target.inode)
            (λ few. released.left (let L : Inode → Type 0 = λ i. i.links ≤ 1 in subst L (sym is.node) few));
        range = after (λ view. (at : Pointer) (zone : ℕ) → PointsTo view.layout (Next view) target.inode at zone → IsDataZone view.layout zone) released.range;
      }

      pub file_removed : (new : Volume D disks) → LetsGo target.inode Node (volume_view mid) (parts_now mid) (parts_now new)
          → RemovesFile (super_view old.layout) Was (parts_now new) directory target.inode
      file_removed new lets =
          let L : model.Volume → Type 0 = λ view. LetsGo target.inode Node view (Next view) (parts_now new) in
          let here = points old directory name target is in
          removes_file View Was (Next View) (parts_now new) directory target.inode Node (fits.some, fits.there)
          (keeps_zone (super_view old.layout) Was (Next View) directory target.zone Filled (changes_zone (now (past_of mid)) has) _ here)
          (record { node = released.is; points = released.points; stays = released.stays }) (subst L (same_view old mid kept) lets) is.node

      pub gains : (new : Volume D disks) → LetsGo target.inode Node (volume_view mid) (parts_now mid) (parts_now new)
          → GainsNoZone (super_view old.layout) Was (parts_now new) directory
      gains new lets =
          let L : model.Volume → Type 0 = λ view. LetsGo target.inode Node view (Next view) (parts_now new) in
          let here = is.holds.entry in
          let parts = (opened View (now (past_of old)) (sound old directory name target is)).parts in
          let node = (file_removed new lets).others directory (parts.in_range directory here.named) (beside_directory Was directory target.inode here.is is.holds.removable) in
          gains_one (super_view old.layout) Was (parts_now new) directory parts here.named here.is node target.place (λ zone in' apart.
          let_go_zones View (Next View) (parts_now new) target.inode Node (subst L (same_view old mid kept) lets) zone in'
          ∙ (changes_zone (now (past_of mid)) has).others zone in' (λ same. apart (same ∙ sym is.lies)))

    -- ---- sectors

    half : entry_size (kind_view old.layout.kind) * index / 512 < 2
    half = let fit = entry_fits (kind_view old.layout.kind) index (free_bytes (kind_view old.layout.kind)) low (free-long (kind_view old.layout.kind)) in omega (arith, fit.0)

    pub off_entry : (d s : ℕ) → ((at : Pointer) (zone : ℕ) → PointsTo (super_view old.layout) Was directory at zone → IsOutside old.span.disk (old.span.start + zone_sector zone) 2 d s)
        → IsOther old.span.disk (old.span.start + (zone_sector target.zone + entry_size (kind_view old.layout.kind) * index / 512)) d s
    off_entry d s off =
        let at : ℕ = entry_size (kind_view old.layout.kind) * index / 512 in
        let same_place : old.span.start + zone_sector target.zone + at ≡ old.span.start + (zone_sector target.zone + at) = omega arith in
        let S : ℕ → Type 0 = λ n. IsOther old.span.disk n d s in
        subst S same_place (outside_is_other old.span.disk (old.span.start + zone_sector target.zone) 2 at d s half (off _ target.zone (points old directory name target is)))

  -- ---- the calls

  module _ (may : IsTold (past_of old) → IsTarget old directory name target) where
    led : {E : Type 0} (mid : Volume D disks) (result : Result (Unit {0}) E) → RemovesName old mid target.zone index result → (outer : List (List ℕ))
        → (IsTold (past_of old) → reached (super_view old.layout) Was outer ≡ Some directory) → LeadsPath old mid (name ∷ outer) None None result
    led mid result removes outer leads = removes outer directory target.place target.inode name (λ told. may_remove_at (may told) outer (leads told))

    pub takes_refused : (mid : Volume D disks) (fault : ZoneFault) → TurnsFreeEntry old mid target.zone index Device (Err fault) → RemovesName {E = ZoneFault} old mid target.zone index (Err fault)
        → Takes old mid directory name target (Err fault)
    takes_refused mid fault turns removes = record {
      leads = λ outer leads. led mid (Err fault) removes outer leads;
      file = λ told. tt;
      gains = λ told. tt;
      places = λ told. tt;
      others = λ told d s off. turns.others d s (off_entry (may told) d s off.zones);
      device = λ told. turns.device;
      goes_on = turns.goes_on;
      kept = turns.kept;
    }

    module _ (mid : Volume D disks) (turns : TurnsFreeEntry {E = ZoneFault} old mid target.zone index Device (Ok tt)) (removes : RemovesName {E = ZoneFault} old mid target.zone index (Ok tt))
        (entry : IsTold (past_of old) → HasEntryPart old (now (past_of mid)) target.zone index (free_bytes (kind_view old.layout.kind))) where
      sound-now : IsTold (past_of old) → IsSound View (now (past_of mid))
      sound-now told =
          let path = (may told).holds.entry.named.path in
          let leads = led mid (Ok tt) removes path (λ told'. (may told).holds.entry.named.leads) in
          (leads.done told).sound

      pub may_let_go : IsTold (past_of mid) → MayRelease mid target.inode (inode_view target.node)
      may_let_go is =
          let told = turns.goes_on.told_before is in
          may_release (may told) mid turns.kept (sound-now told) (entry told)

      -- the entry was a used one, and no name sees what comes then
      places-kept : (new : Volume D disks) → Unseen mid new → IsTold (past_of old) → KeepsEachPlace (super_view old.layout) Was (parts_now new)
      places-kept new unseen told =
          let is = may told in
          let go = goes old directory name target is in
          let path = name ∷ is.holds.entry.named.path in
          let tree = (led mid (Ok tt) removes is.holds.entry.named.path (λ told'. is.holds.entry.named.leads)).done told in
          let S : model.Volume → Type 0 = λ view. SeenAsIn view (now (past_of mid)) (now (past_of new)) in
          let K : model.Volume → Type 0 = λ view. KeepsEachPlace (super_view old.layout) Was (parts_of view (now (past_of new))) in
          let seen = subst S (same_view old mid turns.kept) (unseen.held (turns.goes_on.told told)) in
          subst K (sym (same_view old new (keeps_join old mid new turns.kept unseen.kept)))
          (join_each (super_view old.layout) Was (parts_of View (now (past_of mid))) (parts_of View (now (past_of new)))
          (tree_directories (super_view old.layout) Was (parts_of View (now (past_of mid))) path None None tree.tree
          (leads_to_file (super_view old.layout) Was path target.inode go.leads (no-directory (Was.node target.inode) is.holds.removable)))
          (used_entry (super_view old.layout) Was (parts_of View (now (past_of mid))) directory target.place (opened View (now (past_of old)) is.in_directory.sound).parts
          (becomes is (now (past_of mid)) (entry told)).only
          (is_used (super_view old.layout) Was directory target.place target.inode name is.holds.entry.says is.holds.entry.some))
          (seen_each (super_view old.layout) (parts_of View (now (past_of mid))) (parts_of View (now (past_of new))) seen.sees))

      pub takes_done : (new : Volume D disks) (result : Result (Unit {0}) ZoneFault) → Releases mid new target.inode (inode_view target.node) result → Takes old new directory name target result
      takes_done new result releases = record {
        leads = λ outer leads. leads_as old new (name ∷ outer) (Ok tt) result (λ P p. on_ok_held result P p)
            (leads_then_unseen old mid new (name ∷ outer) None None {E = ZoneFault} (led mid (Ok tt) removes outer leads) releases.unseen);
        file = λ told. on_ok result _ _ (releases.changed (turns.goes_on.told told)) (file_removed (may told) mid turns.kept (sound-now told) (entry told) new);
        gains = λ told. on_ok result _ _ (releases.changed (turns.goes_on.told told)) (gains (may told) mid turns.kept (sound-now told) (entry told) new);
        places = λ told. on_ok_held result _ (places-kept new releases.unseen told);
        others = λ told d s off. not_written_join (past_of old) (past_of mid) (past_of new) d s (turns.others d s (off_entry (may told) d s off.zones))
            (releases.others d s (off_file_kept old mid target.inode turns.kept d s off.file));
        device = λ told. cause_after old mid new Device result turns.goes_on.later (releases.device (turns.goes_on.told told));
        goes_on = goes_on_join disks old.disks.now mid.disks.now new.disks.now turns.goes_on releases.unseen.goes_on;
        kept = keeps_join old mid new turns.kept releases.unseen.kept;
      }

pub cause_taken : {D : Type 0} {disks : Ghosts D} (old mid new : Volume D disks) (result : Result (Unit {0}) ZoneFault) → faults_of old ≤ faults_of mid
    → IfErr result (HasZoneCause (faults_of mid) (faults_of new)) → IfErr result (HasZoneCause (faults_of old) (faults_of new))
cause_taken old mid new result later cause = cause_later (faults_of old) (faults_of mid) (faults_of new) result later cause
