-- What the call leaves that makes the name of what is filled.
use Rattle.std.proofs.Common.{◌≡◌, ◌≢◌, ◌≤◌, ◌<◌, ◌+◌, ◌*◌, ◌/◌, ◌%◌, ◌==◌, ℕ, Bool, true, false, List, [], ◌∷◌, Option, Some, None, Result, Ok, Err, OnOk, refl, sym, ap, ◌∙◌, subst, arith, inl, inr, ⊎_elim}
use Rattle.std.proofs.Math.Path.{subst₂}
use Rattle.lilo_model.proofs.RoseLemmas.{rose_after}
use Rattle.disk_trait.specs.declared.disks.Disks.{Ghosts}
use Rattle.disk_trait.specs.declared.disks.Span.{Span}
use Rattle.disk_trait.specs.Past.{Image, Past}
use Rattle.disk_trait.specs.Moments.{IsTold, now, IsQuiet, LeavesOnly}
use Rattle.disk_trait.specs.NotWritten.{IsOther, NotWritten}
use Rattle.disk_trait.proofs.MomentLemmas.{leaves_none, leaves_weaker, leaves_join, on_ok}
use Rattle.disk_trait.proofs.NotWrittenLemmas.{not_written_none, not_written_join}
use Rattle.lilo_model.specs.MinixEntries.{entries_per_block}
use Rattle.lilo_model.specs.MinixLayout as layouts
use Rattle.lilo_model.specs.MinixLayout.{Inode, entry_size, zone_sector}
use Rattle.lilo_model.specs.MinixNames.{Thing, Directory, then_lookup, reached, thing, zone_number, Named, PointsTo, Sound, IsSound}
use Rattle.lilo_model.specs.MinixParts as model
use Rattle.lilo_model.specs.MinixParts.{Parts, Pointer, is_directory}
use Rattle.minix_choice_laws.specs.Choice.{HasNamePlace}
use Rattle.minix_choice_laws.proofs.Stay.{lies, place_stays_law}
use Rattle.minix_change_laws.specs.Written.{entry_bytes}
use Rattle.minix_change_laws.proofs.Written.{written_law}
use Rattle.minix_change_laws.specs.Only.{zone_of_entry, ChangesOnlyEntry}
use Rattle.minix_change_laws.proofs.Only.{directory-refers, named-node, named-above}
use Rattle.minix_grow.specs.Others.{KeepsOthers}
use Rattle.minix_grow.proofs.KeepLemmas.{kept_join, keeps_bytes}
use Rattle.minix_change_laws.specs.Changes.{ChangesZone}
use Rattle.minix_layout.specs.View.{kind_view, super_view}
use Rattle.minix_layout.specs.declared.superblock.Super.{Super}
use Rattle.minix_change_laws.specs.Sees.{SeenAsIn, with_links, SameButLinks}
use Rattle.minix_change_laws.specs.Tree.{HasTreeWith}
use Rattle.minix_create.proofs.MadePlaces.{seen_places_law, entry_places_law, join_places_law}
use Rattle.minix_change_laws.proofs.Inode.{thing-directory, points-old, points-new}
use Rattle.minix_change_laws.proofs.Seen.{opened}
use Rattle.minix_change_laws.proofs.Sees.{reached-same, named-new}
use Rattle.minix_steps.specs.Written.{parts_now}
use Rattle.minix_steps.proofs.StepLemmas.{leaves_told, same_view}
use Rattle.minix_turns.specs.Joined.{Unseen, LeadsPath}
use Rattle.minix_turns.specs.Names.{MakesName, MakesDirectory, IsEntryAt}
use Rattle.minix_turns.specs.Part.{TurnsNamedEntry, HasEntryPart, WithOrWithoutEntry}
use Rattle.minix_turns.proofs.EntryLemmas.{entry-long}
use Rattle.minix_turns.proofs.JoinedLemmas.{unseen_then_leads}
use Rattle.minix_turns.proofs.NameLemmas.{entry_at}
use Rattle.minix_choice.specs.declared.write_fault.WriteFault.{WriteFault}
use Rattle.minix_choice.specs.declared.write_fault.WriteFault.TheVariants as refusals
use Rattle.minix_change_laws.specs.Part.{with_zone_part}
use Rattle.minix_change_laws.proofs.Part.{part_law}
use Rattle.minix_zones.specs.Volume.{volume_view, past_of, faults_of}
use Rattle.minix_zones.specs.declared.volume.Volume.{Volume}
use Rattle.minix_zones.specs.declared.zone_fault.ZoneFault.{ZoneFault}
use Rattle.minix_zones.specs.declared.zone_fault.ZoneFault.TheVariants as zones
use Rattle.minix_create.specs.Brought.{StillFits}
use Rattle.minix_create.specs.Chosen.{Suits, MayLinkNow}
use Rattle.minix_create.specs.Entered.{MayBeNamed, raised_links, IsDirectoryNow, RaisesLinks, links_above, HasLinksOrAbove, Readies, MayEnterNow, IsOffEntered, IsRaisedFirst, KeepsDirectories, Enters}
use Rattle.minix_create.specs.Linked.{IsRaisedBefore}
use Rattle.minix_create.specs.declared.chosen.Chosen.{Chosen}
use Rattle.minix_create.proofs.BroughtLemmas.{same_unseen, same_self}
use Rattle.minix_create.proofs.NamedLemmas.{thing_kept, named_kept, not_named, fit_named}
use Rattle.minix_create.proofs.StandLemmas.{keeps_none, keeps_changed}

-- ---- what is left at a moment

leaves_both : (old new : Option Past) (P Q : Image → Type 0) → LeavesOnly old new P → LeavesOnly old new Q → LeavesOnly old new (λ c. P c × Q c)
leaves_both old new P Q one two = record {
  later = one.later;
  each = λ c left. (one.each c left, two.each c left);
  before = λ t c le left. ⊎_elim (λ was. inl was) (λ p. ⊎_elim (λ was. inl was) (λ q. inr (p, q)) (two.before t c le left)) (one.before t c le left);
}

-- ---- a path that leads to what is called otherwise

pub leads_is : {D E : Type 0} {disks : Ghosts D} (old new : Volume D disks) (path : List (List ℕ)) (number : ℕ) (one other : Thing) (result : Result (Unit {0}) E)
    → LeadsPath old new path (Some number) (Some one) result → (IsTold (past_of old) → one ≡ other) → LeadsPath old new path (Some number) (Some other) result
leads_is old new path number one other result leads is =
    let T : Thing → Image → Type 0 = λ what image. HasTreeWith (volume_view old) (now (past_of old)) image path (Some number) (Some what) in
    let to : IsTold (past_of old) → (image : Image) → T one image → T other image =
    λ told image tree. let W : Thing → Type 0 = λ what. T what image in subst W (is told) tree in
    record {
      any_moment = leaves_told (past_of old) (past_of new) _ _ leads.any_moment (λ told c either. ⊎_elim (λ unseen. inl unseen) (λ tree. inr (to (leads.goes_on.told_before told) c tree)) either);
      held = λ told. ⊎_elim (λ unseen. inl unseen) (λ tree. inr (to told (now (past_of new)) tree)) (leads.held told);
      done = λ told. on_ok result _ _ (leads.done told) (to told (now (past_of new)));
      goes_on = leads.goes_on;
      kept = leads.kept;
    }

-- what no name saw was refused
pub unseen_refused : {D E : Type 0} {disks : Ghosts D} (start volume : Volume D disks) (path : List (List ℕ)) (found : Option ℕ) (what : Option Thing) (fault : E) → Unseen start volume
    → LeadsPath start volume path found what (Err fault)
unseen_refused start volume path found what fault unseen = record {
  any_moment = leaves_weaker (past_of start) (past_of volume) _ _ unseen.any_moment (λ c seen. inl seen);
  held = λ told. inl (unseen.held told);
  done = λ told. tt;
  goes_on = unseen.goes_on;
  kept = unseen.kept;
}

-- a new name isn't there while nothing is seen
pub unseen_before : {D : Type 0} {disks : Ghosts D} (start volume : Volume D disks) (outer : List (List ℕ)) (chosen : Chosen) → Unseen start volume
    → (IsTold (past_of start) → MayLinkNow start outer chosen) → LeavesOnly (past_of start) (past_of volume) (IsRaisedBefore start outer chosen)
unfolding reached
unseen_before start volume outer chosen unseen may =
    leaves_told (past_of start) (past_of volume) _ _ unseen.any_moment (λ told c seen.
    let m = may (unseen.goes_on.told_before told) in
    let T : Option ℕ → Option ℕ = λ found. then_lookup (super_view start.layout) (parts_now start) chosen.name found in
    inl (reached-same (super_view start.layout) (parts_now start) (model.parts_of (volume_view start) c) seen.sees (chosen.name ∷ outer) ∙ (ap T m.leads ∙ m.absent)))

-- an answer with another refusal
answered : {D E F : Type 0} {disks : Ghosts D} (old new : Volume D disks) (path : List (List ℕ)) (found : Option ℕ) (what : Option Thing) → LeadsPath {E = E} old new path found what (Ok tt) → LeadsPath {E = F} old new path found what (Ok tt)
answered old new path found what leads = record { any_moment = leads.any_moment; held = leads.held; done = leads.done; goes_on = leads.goes_on; kept = leads.kept }

refused : {D E F : Type 0} {disks : Ghosts D} (old new : Volume D disks) (path : List (List ℕ)) (found : Option ℕ) (what : Option Thing) (fault : E) (fault' : F) → LeadsPath old new path found what (Err fault) → LeadsPath old new path found what (Err fault')
refused old new path found what fault fault' leads = record { any_moment = leads.any_moment; held = leads.held; done = λ told. tt; goes_on = leads.goes_on; kept = leads.kept }

-- ---- where one entry changes

module _ (super : layouts.Super) (old new : Parts) (directory place : ℕ) (sound : Sound super old) (only : ChangesOnlyEntry super old new directory place) where
  -- no pointer goes
  points_after : (number : ℕ) → Named super old number → (at : Pointer) (zone : ℕ) → PointsTo super old number at zone → PointsTo super new number at zone
  points_after number named =
      points-new super old new number (named-node super old new directory place sound only number named).numbers (named-above super old new directory place sound only number named)

  -- its place lies where it lay
  lies_still : zone_of_entry super old directory place ≢ 0 → zone_of_entry super new directory place ≢ 0
  unfolding zone_number
  lies_still some none =
      let refers = directory-refers super old directory place only.change.named only.change.is _ some refl in
      let to = points_after directory only.change.named _ _ refers.to in
      some (sym to.is ∙ none)

  -- no pointer comes
  points_before : (number : ℕ) → Named super old number → (at : Pointer) (zone : ℕ) → PointsTo super new number at zone → PointsTo super old number at zone
  points_before number named =
      points-old super old new number (named-node super old new directory place sound only number named).numbers (named-above super old new directory place sound only number named)

-- ---- before the entry

module _ {D : Type 0} {disks : Ghosts D} (old : Volume D disks) (chosen : Chosen) (quiet : IsQuiet (past_of old)) (is : IsTold (past_of old) → IsDirectoryNow old chosen.directory) where
  -- a file
  pub ready_file : (chosen.mode / 4096 == 4) ≡ false → Readies old old chosen (Ok tt)
  ready_file file =
      let same : (links : ℕ) → links_above (kind_view old.layout.kind) chosen links ≡ links = λ links. rw file refl in
      record {
        unseen = same_unseen old old quiet (λ told. (is told).sound) (same_self old) (omega arith);
        any_moment = leaves_none (past_of old) (HasLinksOrAbove old chosen) (λ c left. let H : Image → Type 0 = λ image. HasLinksOrAbove old chosen image in subst H (sym (quiet c left)) (inl refl));
        links = λ told. sym (same ((parts_now old).node chosen.directory).links);
        keeps = λ told. keeps_none (super_view old.layout) (parts_now old) chosen.directory;
        tables = λ told. record { inodes = λ number is'. refl; zones = λ z is'. refl; nodes = λ number is' other. refl; own = refl };
        others = λ told d s above. not_written_none (past_of old) d s;
        device = λ told. tt;
      }

  -- a directory
  pub ready_directory : (chosen.mode / 4096 == 4) ≡ true → (mid : Volume D disks) (result : Result (Unit {0}) WriteFault) → RaisesLinks old mid chosen.directory refusals.Device result → Readies old mid chosen result
  ready_directory dir mid result raises =
      let raised : (links : ℕ) → links_above (kind_view old.layout.kind) chosen links ≡ raised_links (kind_view old.layout.kind) links = λ links. rw dir refl in
      let more : ℕ = raised_links (kind_view old.layout.kind) ((parts_now old).node chosen.directory).links in
      record {
        unseen = raises.unseen;
        any_moment = leaves_weaker (past_of old) (past_of mid) _ _ raises.any_moment
            (λ c either. ⊎_elim (λ same. inl same) (λ is'. inr (is' ∙ sym (raised ((parts_now old).node chosen.directory).links))) either);
        links = λ told. on_ok result _ _ (raises.raised told) (λ change. ap (λ (i : Inode). i.links) change.here ∙ sym (raised ((parts_now old).node chosen.directory).links));
        keeps = λ told. on_ok result _ _ (raises.raised told) (λ change.
            keeps_changed (super_view old.layout) (parts_now old) (model.parts_of (volume_view old) (now (past_of mid))) chosen.directory (with_links ((parts_now old).node chosen.directory) more)
            (opened (volume_view old) (now (past_of old)) (is told).sound).parts (record { mode = refl; zones = refl }) (raises.unseen.held told).sees change);
        tables = λ told. on_ok result _ _ (raises.raised told) (λ change. record {
          inodes = change.marks;
          zones = change.zone_marks;
          nodes = change.others;
          own = let S : Inode → Type 0 = SameButLinks ((parts_now old).node chosen.directory) in subst S (sym change.here) refl;
        });
        others = λ told d s above. raises.others told d s (above dir);
        device = raises.device;
      }

module _ {D : Type 0} {disks : Ghosts D} (old : Volume D disks) (outer : List (List ℕ)) (chosen : Chosen) (zone : ℕ) (may : IsTold (past_of old) → MayEnterNow old outer chosen zone) where
  pub directory_now : IsTold (past_of old) → IsDirectoryNow old chosen.directory
  directory_now told = let m = may told in record { sound = m.sound; named = m.place.placed.named; is = m.place.placed.is }

  -- the name isn't there
  absent : IsTold (past_of old) → reached (super_view old.layout) (parts_now old) (chosen.name ∷ outer) ≡ None
  unfolding reached
  absent told =
      let enters = (may told).place.enters in
      let T : Option ℕ → Option ℕ = λ found. then_lookup (super_view old.layout) (parts_now old) chosen.name found in
      ap T enters.leads ∙ enters.absent

  first-moment : (mid : Volume D disks) → Unseen old mid → LeavesOnly (past_of old) (past_of mid) (HasLinksOrAbove old chosen) → LeavesOnly (past_of old) (past_of mid) (IsRaisedFirst old outer chosen)
  first-moment mid unseen links =
      leaves_told (past_of old) (past_of mid) _ _
      (leaves_both (past_of old) (past_of mid) (SeenAsIn (volume_view old) (now (past_of old))) (HasLinksOrAbove old chosen) unseen.any_moment links)
      (λ told c both. ⊎_elim
      (λ same. inr (same, reached-same (super_view old.layout) (parts_now old) (model.parts_of (volume_view old) c) both.0.sees (chosen.name ∷ outer) ∙ absent (unseen.goes_on.told_before told)))
      (λ above. inl above)
      both.1)

  -- the links weren't raised
  pub enters_not_ready : (mid : Volume D disks) (fault : WriteFault) → Readies old mid chosen (Err fault) → Enters old mid outer chosen zone (Err fault)
  enters_not_ready mid fault ready = record {
    leads = unseen_refused old mid (chosen.name ∷ outer) (Some chosen.choice.inode) (Some (thing (super_view old.layout) (parts_now old) chosen.choice.inode)) fault ready.unseen;
    links = first-moment mid ready.unseen ready.any_moment;
    above = λ told. tt;
    tables = λ told. tt;
    stays = λ told. tt;
    directories = λ told. tt;
    others = λ told d s off. ready.others told d s off.above;
    device = ready.device;
  }

  -- ---- the entry

  module _ (mid : Volume D disks) (ready : Readies old mid chosen (Ok tt)) where
    view-mid : volume_view mid ≡ volume_view old
    view-mid = same_view old mid ready.unseen.kept

    still : IsTold (past_of old) → StillFits (super_view old.layout) (parts_now old) (model.parts_of (volume_view old) (now (past_of mid))) chosen.choice.inode
    still told =
        let m = may told in
        (ready.keeps told).files chosen.choice.inode
        (not_named (super_view old.layout) (parts_now old) outer chosen.directory chosen.choice.inode m.place.placed.named m.place.placed.is m.named)
        (fit_named (super_view old.layout) (parts_now old) outer chosen.directory chosen.choice.inode m.named)

    -- the name may be made still
    may_mid : IsTold (past_of mid) → MayEnterNow mid outer chosen zone
    may_mid told' =
        let told = ready.unseen.goes_on.told_before told' in
        let m = may told in
        let seen = ready.unseen.held told in
        let F : model.Volume → Type 0 = λ view. IsSound view (now (past_of mid)) × (zone_of_entry view.layout (model.parts_of view (now (past_of mid))) chosen.directory chosen.choice.place ≡ zone)
        × HasNamePlace view (now (past_of mid)) outer chosen.directory chosen.choice.place chosen.name × (((model.parts_of view (now (past_of mid))).node chosen.choice.inode).mode ≡ chosen.mode)
        × MayBeNamed view.layout (model.parts_of view (now (past_of mid))) outer chosen.directory chosen.choice.inode in
        let here : F (volume_view old) = (
          seen.sound,
          lies (volume_view old) (now (past_of old)) (now (past_of mid)) outer chosen.directory chosen.choice.place chosen.name m.sound seen m.place ∙ m.lies,
          place_stays_law (volume_view old) (now (past_of old)) (now (past_of mid)) outer chosen.directory chosen.choice.place chosen.name m.sound seen m.place,
          ap (λ (i : Inode). i.mode) (still told).kept.node ∙ m.mode,
          named_kept (super_view old.layout) (parts_now old) (model.parts_of (volume_view old) (now (past_of mid))) chosen.choice.inode (still told).kept seen.sees (still told).fit outer chosen.directory m.named,
        ) in
        let f = subst F (sym view-mid) here in
        record { sound = f.0; lies = f.1; place = f.2; mode = f.3; named = f.4 }

    module _ (suits : Suits mid.layout mid.span chosen) (from : mid.layout.first ≤ zone) (below : zone < mid.layout.zones)
        (index : ℕ) (slot : index ≡ chosen.choice.place % entries_per_block (kind_view mid.layout.kind)) (new : Volume D disks) (result : Result (Unit {0}) ZoneFault)
        (turns : TurnsNamedEntry mid new zone index chosen.choice.inode chosen.name zones.Device result)
        (any : LeavesOnly (past_of mid) (past_of new) (WithOrWithoutEntry mid zone index (entry_bytes (kind_view mid.layout.kind) chosen.choice.inode chosen.name)))
        (entry : IsTold (past_of mid) → OnOk result (HasEntryPart mid (now (past_of new)) zone index (entry_bytes (kind_view mid.layout.kind) chosen.choice.inode chosen.name)))
        (makes : MakesName mid new zone index chosen.choice.inode chosen.name result) (makes_directory : MakesDirectory mid new zone index chosen.choice.inode chosen.name result) where
      abbrev path : List (List ℕ)
      path = chosen.name ∷ outer

      abbrev What : Thing
      What = thing (super_view mid.layout) (parts_now mid) chosen.choice.inode

      entry-at : IsTold (past_of mid) → IsEntryAt mid chosen.directory chosen.choice.place zone index
      entry-at told = let m = may_mid told in record { at = record { sound = m.sound; lies = m.lies; slot = sym slot }; placed = m.place.placed }

      by-mode : (test : Bool) → (chosen.mode / 4096 == 4) ≡ test → LeadsPath mid new path (Some chosen.choice.inode) (Some What) result
      by-mode false file =
          makes outer chosen.directory chosen.choice.place (λ told.
          let m = may_mid told in
          record {
            lies = entry-at told;
            fits = suits.name;
            enters = m.place.enters;
            stands = ⊎_elim (λ stands. stands) (λ stands. absurd (let is = stands.is in let t = rw m.mode at is in cc)) m.named;
          })
      by-mode true dir =
          leads_is mid new path chosen.choice.inode Directory What result
          (makes_directory outer chosen.directory chosen.choice.place (λ told.
          let m = may_mid told in
          record {
            lies = entry-at told;
            fits = suits.name;
            enters = m.place.enters;
            stands = ⊎_elim (λ stands. absurd (let file = stands.file in let t = rw m.mode at file in cc)) (λ stands. stands) m.named;
          }))
          (λ told. sym (thing-directory (super_view mid.layout) (parts_now mid) chosen.choice.inode (rw (may_mid told).mode dir)))

      leads : LeadsPath old new path (Some chosen.choice.inode) (Some (thing (super_view old.layout) (parts_now old) chosen.choice.inode)) result
      leads =
          leads_is old new path chosen.choice.inode What (thing (super_view old.layout) (parts_now old) chosen.choice.inode) result
          (unseen_then_leads old mid new path (Some chosen.choice.inode) (Some What) result ready.unseen (by-mode (chosen.mode / 4096 == 4) refl))
          (λ told.
          let T : model.Volume → Type 0 = λ view. thing view.layout (model.parts_of view (now (past_of mid))) chosen.choice.inode ≡ thing (super_view old.layout) (parts_now old) chosen.choice.inode in
          subst T (sym view-mid)
          (thing_kept (super_view old.layout) (parts_now old) (model.parts_of (volume_view old) (now (past_of mid))) chosen.choice.inode (still told).kept))

      -- the inode of the directory above, and its links
      node-mid : (image : Image) → IsTold (past_of mid) → HasEntryPart mid image zone index (entry_bytes (kind_view mid.layout.kind) chosen.choice.inode chosen.name)
          → (model.parts_of (volume_view old) image).node chosen.directory ≡ (model.parts_of (volume_view old) (now (past_of mid))).node chosen.directory
      node-mid image told has =
          let m = may_mid told in
          let range = (opened (volume_view mid) (now (past_of mid)) m.sound).parts.in_range chosen.directory m.place.placed.named in
          let change = (part_law (volume_view mid) (now (past_of mid)) image zone (entry_size (kind_view mid.layout.kind) * index) (entry_bytes (kind_view mid.layout.kind) chosen.choice.inode chosen.name) m.sound (from, below) has).change in
          let L : model.Volume → Type 0 = λ view. (model.parts_of view image).node chosen.directory ≡ (model.parts_of view (now (past_of mid))).node chosen.directory in
          subst L view-mid (change.nodes chosen.directory range)

      links-mid : (image : Image) → IsTold (past_of mid) → HasEntryPart mid image zone index (entry_bytes (kind_view mid.layout.kind) chosen.choice.inode chosen.name)
          → ((model.parts_of (volume_view old) image).node chosen.directory).links ≡ ((model.parts_of (volume_view old) (now (past_of mid))).node chosen.directory).links
      links-mid image told has = ap (λ (i : Inode). i.links) (node-mid image told has)

      -- all other inodes, and the bitmap bits
      keeps-mid : IsTold (past_of mid) → HasEntryPart mid (now (past_of new)) zone index (entry_bytes (kind_view mid.layout.kind) chosen.choice.inode chosen.name)
          → KeepsOthers (super_view old.layout) (model.parts_of (volume_view old) (now (past_of mid))) (model.parts_of (volume_view old) (now (past_of new))) chosen.directory []
      keeps-mid told has =
          let m = may_mid told in
          let bytes : List ℕ = with_zone_part (parts_now mid) zone (entry_size (kind_view mid.layout.kind) * index) (entry_bytes (kind_view mid.layout.kind) chosen.choice.inode chosen.name) in
          let change = (part_law (volume_view mid) (now (past_of mid)) (now (past_of new)) zone (entry_size (kind_view mid.layout.kind) * index) (entry_bytes (kind_view mid.layout.kind) chosen.choice.inode chosen.name) m.sound (from, below) has).change in
          let C : ℕ → Type 0 = λ z. ChangesZone (super_view mid.layout) (parts_now mid) (model.parts_of (volume_view mid) (now (past_of new))) z bytes in
          let V : model.Volume → Type 0 = λ view. KeepsOthers view.layout (model.parts_of view (now (past_of mid))) (model.parts_of view (now (past_of new))) chosen.directory [] in
          let placed = m.place.placed in
          subst V view-mid
          (keeps_bytes (super_view mid.layout) (parts_now mid) (model.parts_of (volume_view mid) (now (past_of new))) chosen.directory chosen.choice.place bytes []
          (opened (volume_view mid) (now (past_of mid)) m.sound).parts placed.named placed.is placed.some (subst C (sym m.lies) change))

      -- one entry changed
      only-mid : IsTold (past_of mid) → HasEntryPart mid (now (past_of new)) zone index (entry_bytes (kind_view mid.layout.kind) chosen.choice.inode chosen.name)
          → ChangesOnlyEntry (super_view old.layout) (model.parts_of (volume_view old) (now (past_of mid))) (model.parts_of (volume_view old) (now (past_of new))) chosen.directory chosen.choice.place
      only-mid told has =
          let m = may_mid told in
          let bytes : List ℕ = entry_bytes (kind_view mid.layout.kind) chosen.choice.inode chosen.name in
          let V : model.Volume → Type 0 = λ view. ChangesOnlyEntry view.layout (model.parts_of view (now (past_of mid))) (model.parts_of view (now (past_of new))) chosen.directory chosen.choice.place in
          subst V view-mid
          (written_law (volume_view mid) (now (past_of mid)) (now (past_of new)) chosen.directory chosen.choice.place bytes m.sound m.place.placed
          (entry_at (volume_view mid) (now (past_of mid)) (now (past_of new)) chosen.directory chosen.choice.place zone index bytes
          (entry-long (kind_view mid.layout.kind) chosen.choice.inode chosen.name suits.name.short) m.lies (sym slot) has)).only

      directories-kept : IsTold (past_of old) → HasEntryPart mid (now (past_of new)) zone index (entry_bytes (kind_view mid.layout.kind) chosen.choice.inode chosen.name)
          → KeepsDirectories (super_view old.layout) (parts_now old) (model.parts_of (volume_view old) (now (past_of new))) chosen
      directories-kept told has =
          let super = super_view old.layout in
          let Mid : Parts = model.parts_of (volume_view old) (now (past_of mid)) in
          let New : Parts = model.parts_of (volume_view old) (now (past_of new)) in
          let told-mid = ready.unseen.goes_on.told told in
          let seen = ready.unseen.held told in
          let S : model.Volume → Type 0 = λ view. HasNamePlace view (now (past_of mid)) outer chosen.directory chosen.choice.place chosen.name in
          let place : HasNamePlace (volume_view old) (now (past_of mid)) outer chosen.directory chosen.choice.place chosen.name = subst S view-mid (may_mid told-mid).place in
          let sound-mid = (opened (volume_view old) (now (past_of mid)) seen.sound).parts in
          let only = only-mid told-mid has in
          record {
            lies = lies_still super Mid New chosen.directory chosen.choice.place sound-mid only place.placed.some;
            keeps = join_places_law super (parts_now old) Mid New chosen.directory chosen.choice.place seen.sees
                (seen_places_law super (parts_now old) Mid chosen.directory chosen.choice.place seen.sees)
                (entry_places_law super Mid New chosen.directory chosen.choice.place sound-mid only);
            stays = λ at z to.
                points_after super Mid New chosen.directory chosen.choice.place sound-mid only chosen.directory place.placed.named at z
                (seen.sees.stays chosen.directory at z (record { named = (may told).place.placed.named; to = to }) (may told).place.placed.is);
            points = λ number at z named to.
                (ready.keeps told).points number at z named
                (points_before super Mid New chosen.directory chosen.choice.place sound-mid only number (named-new super (parts_now old) Mid seen.sees number named) at z to);
          }

      last-moment : LeavesOnly (past_of mid) (past_of new) (IsRaisedFirst old outer chosen)
      last-moment =
          leaves_told (past_of mid) (past_of new) _ _ any (λ told c either.
          let told-mid = turns.goes_on.told_before told in
          let raised = ready.links (ready.unseen.goes_on.told_before told-mid) in
          inl (⊎_elim
          (λ same. let L : Image → Type 0 = λ image. ((model.parts_of (volume_view old) image).node chosen.directory).links ≡ links_above (kind_view old.layout.kind) chosen ((parts_now old).node chosen.directory).links in subst L (sym same) raised)
          (λ has. links-mid c told-mid has ∙ raised)
          either))

      others : IsTold (past_of old) → (d s : ℕ) → IsOffEntered old chosen zone d s → NotWritten (past_of old) (past_of new) d s
      others told d s off =
          let kept = ready.unseen.kept in
          let O : Span → Super → Type 0 = λ span layout. IsOther span.disk (span.start + (zone_sector zone + entry_size (kind_view layout.kind) * (chosen.choice.place % entries_per_block (kind_view layout.kind)) / 512)) d s in
          let I : ℕ → Type 0 = λ i. IsOther mid.span.disk (mid.span.start + (zone_sector zone + entry_size (kind_view mid.layout.kind) * i / 512)) d s in
          not_written_join (past_of old) (past_of mid) (past_of new) d s (ready.others told d s off.above)
          (turns.others d s (subst I (sym slot) (subst₂ O (sym kept.same_span) (sym kept.same_layout) off.entry)))

      links : LeavesOnly (past_of old) (past_of new) (IsRaisedFirst old outer chosen)
      links = leaves_join (past_of old) (past_of mid) (past_of new) (IsRaisedFirst old outer chosen) (first-moment mid ready.unseen ready.any_moment) last-moment

    module _ (suits : Suits mid.layout mid.span chosen) (from : mid.layout.first ≤ zone) (below : zone < mid.layout.zones)
        (index : ℕ) (slot : index ≡ chosen.choice.place % entries_per_block (kind_view mid.layout.kind)) (new : Volume D disks)
        (any : LeavesOnly (past_of mid) (past_of new) (WithOrWithoutEntry mid zone index (entry_bytes (kind_view mid.layout.kind) chosen.choice.inode chosen.name))) where
      pub enters_done : TurnsNamedEntry mid new zone index chosen.choice.inode chosen.name zones.Device (Ok tt)
          → (IsTold (past_of mid) → HasEntryPart mid (now (past_of new)) zone index (entry_bytes (kind_view mid.layout.kind) chosen.choice.inode chosen.name))
          → MakesName {E = ZoneFault} mid new zone index chosen.choice.inode chosen.name (Ok tt) → MakesDirectory {E = ZoneFault} mid new zone index chosen.choice.inode chosen.name (Ok tt)
          → Enters old new outer chosen zone (Ok tt)
      enters_done turns entry makes makes_directory = record {
        leads = answered old new (chosen.name ∷ outer) (Some chosen.choice.inode) (Some (thing (super_view old.layout) (parts_now old) chosen.choice.inode))
            (leads suits from below index slot new (Ok tt) turns any entry makes makes_directory);
        links = links suits from below index slot new (Ok tt) turns any entry makes makes_directory;
        above = λ told.
            let told-mid = ready.unseen.goes_on.told told in
            links-mid suits from below index slot new (Ok tt) turns any entry makes makes_directory (now (past_of new)) told-mid (entry told-mid) ∙ ready.links told;
        tables = λ told.
            let told-mid = ready.unseen.goes_on.told told in
            let keeps = keeps-mid suits from below index slot new (Ok tt) turns any entry makes makes_directory told-mid (entry told-mid) in
            let first = ready.tables told in
            let S : Inode → Type 0 = SameButLinks ((parts_now old).node chosen.directory) in
            record {
              inodes = λ number is. keeps.marks number is ∙ first.inodes number is;
              zones = λ z is. keeps.zone_marks z is (λ at low same. absurd (omega (arith, low))) ∙ first.zones z is;
              nodes = λ number is other. keeps.nodes number is other ∙ first.nodes number is other;
              own = subst S (sym (node-mid suits from below index slot new (Ok tt) turns any entry makes makes_directory (now (past_of new)) told-mid (entry told-mid))) first.own;
            };
        stays = λ told.
            let told-mid = ready.unseen.goes_on.told told in
            let keeps = keeps-mid suits from below index slot new (Ok tt) turns any entry makes makes_directory told-mid (entry told-mid) in
            let m = may told in
            kept_join (super_view old.layout) (parts_now old) (model.parts_of (volume_view old) (now (past_of mid))) (model.parts_of (volume_view old) (now (past_of new))) chosen.choice.inode (still told).kept
            (keeps.others chosen.choice.inode (still told).fit
            (not_named (super_view old.layout) (parts_now old) outer chosen.directory chosen.choice.inode m.place.placed.named m.place.placed.is m.named)
            (λ at z to i low. absurd (omega (arith, low))));
        directories = λ told.
            let told-mid = ready.unseen.goes_on.told told in
            directories-kept suits from below index slot new (Ok tt) turns any entry makes makes_directory told (entry told-mid);
        others = others suits from below index slot new (Ok tt) turns any entry makes makes_directory;
        device = λ told. tt;
      }

      pub enters_failed : (fault : ZoneFault) → TurnsNamedEntry mid new zone index chosen.choice.inode chosen.name zones.Device (Err fault)
          → MakesName {E = ZoneFault} mid new zone index chosen.choice.inode chosen.name (Err fault) → MakesDirectory {E = ZoneFault} mid new zone index chosen.choice.inode chosen.name (Err fault)
          → Enters old new outer chosen zone (Err refusals.Device)
      enters_failed fault turns makes makes_directory = record {
        leads = refused old new (chosen.name ∷ outer) (Some chosen.choice.inode) (Some (thing (super_view old.layout) (parts_now old) chosen.choice.inode)) fault refusals.Device
            (leads suits from below index slot new (Err fault) turns any (λ told. tt) makes makes_directory);
        links = links suits from below index slot new (Err fault) turns any (λ told. tt) makes makes_directory;
        above = λ told. tt;
        tables = λ told. tt;
        stays = λ told. tt;
        directories = λ told. tt;
        others = others suits from below index slot new (Err fault) turns any (λ told. tt) makes makes_directory;
        device = λ told. (refl, rose_after (faults_of old) (faults_of mid) (faults_of new) ready.unseen.goes_on.later turns.device.1);
      }
