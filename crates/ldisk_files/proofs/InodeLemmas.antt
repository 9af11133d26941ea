-- The inode of what was made, from the creation up to the span.
use Rattle.std.proofs.Common.{◌≡◌, ◌≢◌, ◌≤◌, ◌<◌, ◌/◌, ◌==◌, ◌||◌, ◌⊎◌, ℕ, suc, Bool, true, false, List, ◌∷◌, length, Option, Some, None, Result, Ok, refl, sym, ◌∙◌, ap, subst, inl, inr, ⊎_elim, arith}
use Rattle.std.specs.Prelude.{OnOk, slice_index}
use Rattle.std.proofs.lemmas.Bool.{cases_lt, cases_Bool, eqb-true}
use Rattle.std.proofs.lemmas.List.Elements.{All-get_or}
use Rattle.disk_trait.specs.declared.disks.Disks.{Ghosts}
use Rattle.disk_trait.specs.Calls.{SameOf}
use Rattle.disk_trait.specs.Moments.{IsTold, now}
use Rattle.disk_trait.specs.Past.{Image, Told}
use Rattle.disk_trait.proofs.MomentLemmas.{told_now, on_ok}
use Rattle.lilo_model.specs.Disks.{Span}
use Rattle.lilo_model.specs.MinixEntries.{entries_per_block}
use Rattle.lilo_model.specs.MinixLayout.{Inode, reach}
use Rattle.lilo_model.specs.MinixParts as model
use Rattle.lilo_model.specs.MinixParts.{Pointer, has_zones, is_directory, parts_of, volume_at}
use Rattle.lilo_model.specs.MinixNames.{names_in, Named, PointsTo, IsSound}
use Rattle.lilo_model.specs.NamePlaces.{name_path}
use Rattle.minix_choice_laws.specs.Choice.{file_of}
use Rattle.minix_choice_laws.specs.Sources.{Source, zone_from}
use Rattle.minix_steps.specs.Numbers.{has_number}
use Rattle.minix_choice_laws.proofs.Given.{given_length}
use Rattle.minix_layout.specs.View.{kind_view}
use Rattle.minix_zones.specs.View.{IsDataZone}
use Rattle.minix_change_laws.proofs.Inode.{directory-zones}
use Rattle.minix_create.proofs.MadeSteps.{steps_some}
use Rattle.minix_create.specs.Linked.{Creates}
use Rattle.minix_grow.proofs.CompleteLemmas.{way_is_pointer}
use Rattle.minix_grow.specs.Others.{IsOneOf}
use Rattle.minix_grow.specs.Way.{pointer_above, number_above}
use Rattle.ldisk_model.specs.FileVerdict.{Making, NewDirectory, NewLink, NewFile}
use Rattle.minix_create.specs.Chosen.{Suits, block_of, new_inode}
use Rattle.minix_create.specs.States.{CreatesOn}
use Rattle.minix_create.specs.declared.chosen.Chosen.{Chosen}
use Rattle.minix_zones.specs.Volume.{volume_view, past_of, SameVolume, Syncs}
use Rattle.minix_zones.specs.declared.volume.Volume.{Volume}
use Rattle.minix_zones.specs.declared.zone_fault.ZoneFault.{ZoneFault}
use Rattle.minix_zones.specs.declared.zone_fault.ZoneFault.TheVariants as zones
use Rattle.minix_names.specs.declared.place.NamePlace.{NamePlace}
use Rattle.ldisk_files.specs.Answer.{IsRemovable, GivesChecked}
use Rattle.ldisk_files.specs.Inode.{links_made, HasHoles, HasChanged, HasChangedAt, ChangesInode, ChangesInodeAt, ChangesInodeBy}
use Rattle.ldisk_files.specs.Made.{MayMake, MayMakeAt, mode_made}
use Rattle.ldisk_files.specs.declared.fault.FileFault.{FileFault}
use Rattle.ldisk_files.specs.Marks.{IsReferred, MarksNamed}
use Rattle.ldisk_files.proofs.FlushLemmas.{back}
use Rattle.ldisk_files.proofs.GrowthLemmas.{levels-apart}
use Rattle.ldisk_files.proofs.HoleLemmas.{needed, gets-zone, hole-stays, onto, zone-there}
use Rattle.ldisk_files.proofs.MakeLemmas.{told-mid, may-forth}
use Rattle.ldisk_files.proofs.MarkLemmas.{in-at, not-at}
use Rattle.ldisk_files.proofs.PathLemmas.{back-same, found, removable-mid}

links-by : (making : Making) (chosen : Chosen) → chosen.mode ≡ mode_made making → (new_inode chosen).links ≡ links_made making
links-by NewDirectory chosen mode = rw mode refl
links-by (NewLink target) chosen mode = rw mode refl
links-by (NewFile bytes) chosen mode = rw mode refl

-- an inode of a file has zones
zones-by : (inode : Inode) → inode.mode ≡ 33188 → has_zones inode ≡ true
zones-by inode mode = rw mode refl

-- a zone is pointed to once on a sound volume
once-in : (volume : model.Volume) (image : Image) (number : ℕ) → IsSound volume image → Named volume.layout (parts_of volume image) number → (at there : Pointer) (zone : ℕ)
    → PointsTo volume.layout (parts_of volume image) number at zone → PointsTo volume.layout (parts_of volume image) number there zone → at ≡ there
unfolding IsSound
once-in volume image number sound named at there zone one other = (sound.parts.once number number at there zone (record { named = named; to = one }) (record { named = named; to = other })).1

-- whatever is made has zones
zones-of : (making : Making) (inode : Inode) → inode.mode ≡ mode_made making → has_zones inode ≡ true
zones-of NewDirectory inode mode = rw mode refl
zones-of (NewLink target) inode mode = rw mode refl
zones-of (NewFile bytes) inode mode = rw mode refl

module _ {D : Type 0} {disks : Ghosts D} (start new : Volume D disks) (outer : List (List ℕ)) (making : Making) (chosen : Chosen) (blocks : List (List ℕ))
    (suits : Suits start.layout start.span chosen) (may : MayMake start outer making chosen blocks) (one : Creates start new outer chosen (block_of blocks) (Ok tt)) (told : IsTold (past_of start)) where
  abbrev V : model.Volume
  V = volume_view start

  abbrev I : Image
  I = now (past_of start)

  abbrev J : Image
  J = now (past_of new)

  named-new : Named V.layout (parts_of V J) chosen.choice.inode
  named-new = record { path = chosen.name ∷ outer; leads = (one.leads.done told).tree.here }

  kept-outer : outer ≢ chosen.name ∷ outer
  kept-outer same = let long : length outer ≡ suc (length outer) = ap length same in omega (arith, long)

  -- the directory has its name still
  named-above : Named V.layout (parts_of V J) chosen.directory
  named-above = record { path = outer; leads = (one.leads.done told).tree.others outer kept-outer ∙ may.links.leads }

  mode-new : ((parts_of V J).node chosen.choice.inode).mode ≡ mode_made making
  mode-new = ap (λ (i : Inode). i.mode) (one.node told) ∙ may.mode

  are-some : (i : ℕ) → i < length chosen.choice.zones → slice_index chosen.choice.zones i ≢ 0
  are-some i small = let some = (All-get_or (IsDataZone start.layout) chosen.choice.zones i 0 small suits.are_data).some in omega (arith, some)

  -- ---- each zone by which the directory grows is on the way to the name's place

  abbrev PlaceBlock : ℕ
  PlaceBlock = chosen.choice.place / entries_per_block V.layout.kind

  abbrev Above : ℕ → Pointer
  Above level = pointer_above V.layout.kind PlaceBlock level

  abbrev LeadsTo : ℕ → ℕ → Type 0
  LeadsTo level k = (k < length chosen.choice.growth) × PointsTo V.layout (parts_of V J) chosen.directory (Above level) (slice_index chosen.choice.growth k)

  named-old : Named V.layout (parts_of V I) chosen.directory
  named-old = record { path = outer; leads = may.links.leads }

  directory-still : is_directory ((parts_of V J).node chosen.directory) ≡ true
  directory-still = let mode = (one.leads.done told).tree.keeps.modes chosen.directory named-old named-above in rw mode may.links.is

  to-above : (level : ℕ) → level < length chosen.choice.growth → PointsTo V.layout (parts_of V J) chosen.directory (Above level) (number_above V.layout (parts_of V J) chosen.directory PlaceBlock level)
  to-above level low = record {
    kind = directory-zones (parts_of V J) chosen.directory directory-still;
    place = way_is_pointer V.layout PlaceBlock level (may.lacks level low).0;
    is = refl;
    some = steps_some V.layout (parts_of V J) chosen.directory PlaceBlock (one.made told).lies level;
  }

  leads-to : (level : ℕ) → level < length chosen.choice.growth → (k : ℕ) × LeadsTo level k
  leads-to level low =
      let zone : ℕ = number_above V.layout (parts_of V J) chosen.directory PlaceBlock level in
      let to = to-above level low in
      ⊎_elim
      (λ (was : PointsTo V.layout (parts_of V I) chosen.directory (Above level) zone). absurd (to.some (sym was.is ∙ (may.lacks level low).1)))
      (λ (has : IsOneOf chosen.choice.growth zone).
      (has.at, (has.low, subst (λ (z : ℕ). PointsTo V.layout (parts_of V J) chosen.directory (Above level) z) (sym has.is) to)))
      ((one.made told).points chosen.directory (Above level) zone named-old to)

  pick : (level : ℕ) → (k : ℕ) × (level < length chosen.choice.growth → LeadsTo level k)
  pick level = ⊎_elim
      (λ (low : level < length chosen.choice.growth). let it = leads-to level low in (it.0, λ again. it.1))
      (λ (high : length chosen.choice.growth ≤ level). (0, λ low. absurd (omega (arith, low, high))))
      (cases_lt level (length chosen.choice.growth))

  pick-once : (i j : ℕ) → i < j → j < length chosen.choice.growth → (pick i).0 ≢ (pick j).0
  pick-once i j less low same =
      let first : i < length chosen.choice.growth = omega (arith, less, low) in
      let pointers : Above i ≡ Above j = once-in V J chosen.directory (one.leads.done told).sound named-above (Above i) (Above j) (slice_index chosen.choice.growth (pick j).0)
      (subst (λ (k : ℕ). PointsTo V.layout (parts_of V J) chosen.directory (Above i) (slice_index chosen.choice.growth k)) same ((pick i).1 first).1)
      ((pick j).1 low).1 in
      let level = levels-apart V.layout.kind PlaceBlock i j (may.lacks i first).0 (may.lacks j low).0 pointers in
      omega (arith, level, less)

  growth-referred : (k : ℕ) → k < length chosen.choice.growth → IsReferred V J (slice_index chosen.choice.growth k)
  growth-referred k low =
      let from = onto (length chosen.choice.growth) (λ i. (pick i).0) (λ i small. ((pick i).1 small).0) pick-once k low in (
        chosen.directory,
        Above from.0,
        record {
          named = named-above;
          to = subst (λ (n : ℕ). PointsTo V.layout (parts_of V J) chosen.directory (Above from.0) (slice_index chosen.choice.growth n)) from.2 ((pick from.0).1 from.1).1;
        },
      )

  -- ---- each of its zones is pointed to

  zone-pointed : (source : Source) → zone_from (file_of chosen.choice) source ≢ 0 → (at : Pointer) × PointsTo V.layout (parts_of V J) chosen.choice.inode at (zone_from (file_of chosen.choice) source)
  zone-pointed source some =
      let kind = kind_view start.layout.kind in
      let long : length chosen.choice.blocks ≡ length suits.made = ap length suits.file.blocks_are ∙ given_length suits.made chosen.choice.zones in
      let short : length chosen.choice.blocks ≤ reach kind = may.free.file.few in
      zone-there V.layout (parts_of V J) chosen.choice.inode (file_of chosen.choice) suits.made (omega (arith, long, short)) short
      (needed kind suits.made chosen.choice suits.file are-some)
      (gets-zone kind suits.made chosen.choice suits.file are-some)
      (zones-of making ((parts_of V J).node chosen.choice.inode) mode-new)
      (once-in V J chosen.choice.inode (one.leads.done told).sound named-new)
      (one.lies told (zones-of making (new_inode chosen) may.mode))
      (one.made told).own
      source some

  -- one that was chosen is, where the directory doesn't grow by it
  chosen-referred : (i : ℕ) → i < length chosen.choice.zones → ((level : ℕ) → level < length chosen.choice.growth → slice_index chosen.choice.growth level ≢ slice_index chosen.choice.zones i)
      → IsReferred V J (slice_index chosen.choice.zones i)
  chosen-referred i low none = ⊎_elim
      (λ (from : (source : Source) × (zone_from (file_of chosen.choice) source ≡ slice_index chosen.choice.zones i)).
      let to = zone-pointed from.0 (λ zero. are-some i low (sym from.1 ∙ zero)) in
      subst (IsReferred V J) from.1 (chosen.choice.inode, to.0, record { named = named-new; to = to.1 }))
      (λ (grown : (level : ℕ) × (level < length chosen.choice.growth) × (slice_index chosen.choice.growth level ≡ slice_index chosen.choice.zones i)).
      absurd (none grown.0 grown.1 grown.2))
      (may.each i low)

  zone-by : (zone : ℕ) (was has : Bool) → (parts_of V I).has_zone zone ≡ was → has_number chosen.choice.zones zone ≡ has → ((level : ℕ) → level < length chosen.choice.growth → slice_index chosen.choice.growth level ≢ zone)
      → (was || has) ≡ true → ((parts_of V I).has_zone zone ≡ true) ⊎ IsReferred V J zone
  zone-by zone true has before is none set = inl before
  zone-by zone false false before is none set = absurd (let no : false ≡ true = set in cc)
  zone-by zone false true before is none set =
      let at = in-at chosen.choice.zones zone is in
      inr (subst (IsReferred V J) at.2 (chosen-referred at.0 at.1 (λ level low same. none level low (same ∙ at.2))))

  -- a bit that is set was set, or is in use
  pub marks-created : MarksNamed V I J
  marks-created = record {
    inodes = λ number is set. inode-by number ((parts_of V I).has_inode number) (number == chosen.choice.inode) refl refl (sym ((one.marks told).inodes number is) ∙ set);
    zones = λ zone is set. ⊎_elim
        (λ (grown : has_number chosen.choice.growth zone ≡ true).
        let at = in-at chosen.choice.growth zone grown in
        inr (subst (IsReferred V J) at.2 (growth-referred at.0 at.1)))
        (λ (no : has_number chosen.choice.growth zone ≡ false).
        zone-by zone ((parts_of V I).has_zone zone) (has_number chosen.choice.zones zone) refl refl (not-at chosen.choice.growth zone no)
        (sym ((one.marks told).zones zone is (not-at chosen.choice.growth zone no)) ∙ set))
        (cases_Bool (has_number chosen.choice.growth zone));
    stay = λ number is set. let both : ((parts_of V I).has_inode number || (number == chosen.choice.inode)) ≡ true = rw set refl in (one.marks told).inodes number is ∙ both;
    zones_stay = λ zone is set. (one.marks told).stay_marked zone is set;
  }
    where
      inode-by : (number : ℕ) (was own : Bool) → (parts_of V I).has_inode number ≡ was → (number == chosen.choice.inode) ≡ own → (was || own) ≡ true
          → ((parts_of V I).has_inode number ≡ true) ⊎ Named V.layout (parts_of V J) number
      inode-by number true own before is set = inl before
      inode-by number false true before is set = inr (subst (Named V.layout (parts_of V J)) (sym (eqb-true number chosen.choice.inode is)) named-new)
      inode-by number false false before is set = absurd (let no : false ≡ true = set in cc)

-- its blocks of zeros take none
holes-created : {D : Type 0} {disks : Ghosts D} (start new : Volume D disks) (outer : List (List ℕ)) (making : Making) (chosen : Chosen) (blocks : List (List ℕ))
    → Suits start.layout start.span chosen → MayMake start outer making chosen blocks → Creates start new outer chosen (block_of blocks) (Ok tt) → IsTold (past_of start)
    → HasHoles (volume_view start) (now (past_of new)) chosen.choice.inode making
holes-created start new outer NewDirectory chosen blocks suits may one told = tt
holes-created start new outer (NewLink target) chosen blocks suits may one told = tt
holes-created start new outer (NewFile bytes) chosen blocks suits may one told = λ index low zero-block.
    let view = volume_view start in
    let image = now (past_of new) in
    let kind = kind_view start.layout.kind in
    let hole = may.holes index low zero-block in
    let long : length chosen.choice.blocks ≡ length suits.made = ap length suits.file.blocks_are ∙ given_length suits.made chosen.choice.zones in
    let short : length chosen.choice.blocks ≤ reach kind = may.free.file.few in
    let are_some : (i : ℕ) → i < length chosen.choice.zones → slice_index chosen.choice.zones i ≢ 0 = λ i small.
    let some = (All-get_or (IsDataZone start.layout) chosen.choice.zones i 0 small suits.are_data).some in omega (arith, some) in
    let mode : ((parts_of view image).node chosen.choice.inode).mode ≡ 33188 = ap (λ (i : Inode). i.mode) (one.node told) ∙ may.mode in
    hole-stays view.layout (parts_of view image) chosen.choice.inode (file_of chosen.choice) suits.made (omega (arith, long, short)) short
    (needed kind suits.made chosen.choice suits.file are_some)
    (gets-zone kind suits.made chosen.choice suits.file are_some)
    (zones-by ((parts_of view image).node chosen.choice.inode) mode)
    (once-in view image chosen.choice.inode (one.leads.done told).sound (record { path = chosen.name ∷ outer; leads = (one.leads.done told).tree.here }))
    (one.lies told (zones-by (new_inode chosen) may.mode))
    (one.made told).own
    index (let there = hole.0 in omega (arith, there, short)) hole.1

pub inode-created : {D : Type 0} {disks : Ghosts D} (start new : Volume D disks) (outer : List (List ℕ)) (making : Making) (chosen : Chosen) (blocks : List (List ℕ))
    → Suits start.layout start.span chosen → (IsTold (past_of start) → MayMake start outer making chosen blocks) → CreatesOn start new chosen (block_of blocks) (Ok tt) → ChangesInodeBy start new (chosen.name ∷ outer) (Some (making, chosen.time)) (Ok tt)
inode-created start new outer making chosen blocks suits may creates told =
    let one = creates outer (may told).nests (λ t. (may t).links) in
    let node = one.node told in
    record {
      number = chosen.choice.inode;
      leads = (one.leads.done told).tree.here;
      mode = ap (λ (i : Inode). i.mode) node ∙ (may told).mode;
      links = ap (λ (i : Inode). i.links) node ∙ links-by making chosen (may told).mode;
      user = ap (λ (i : Inode). i.uid) node;
      group = ap (λ (i : Inode). i.gid) node;
      times = ap (λ (i : Inode). i.times) node;
      holes = holes-created start new outer making chosen blocks suits (may told) one told;
      marks = marks-created start new outer making chosen blocks suits (may told) one told;
      directory = chosen.directory;
      above = (may told).links.leads;
      others = one.nodes told;
    }

-- what was written before was made durable first
pub inode-flushed : {D : Type 0} {disks : Ghosts D} (old mid : Volume D disks) (first : Result (Unit {0}) ZoneFault) → Syncs old mid zones.Device first
    → (new : Volume D disks) (path : List (List ℕ)) (made : Option (Making × ℕ)) (result : Result (Unit {0}) FileFault) → ChangesInodeBy mid new path made result → ChangesInodeBy old new path made result
inode-flushed old mid first syncs new path made result changes told =
    back old mid first syncs (λ (v : model.Volume) (i : Image). OnOk result (HasChanged v i path made (now (past_of new)))) (changes (syncs.flushes.goes_on.told told))

-- the path is that of a text
pub inode-on : {D : Type 0} {disks : Ghosts D} (old mid : Volume D disks) (same : SameVolume old mid) (text : List ℕ) (path : List (List ℕ)) (made : Option (Making × ℕ)) (new : Volume D disks)
    (result : Result (Unit {0}) FileFault) → name_path (names_in (volume_view old) (now (past_of old))) text ≡ Ok path → IsTold (past_of mid) → ChangesInodeBy mid new path made result
    → OnOk result (HasChangedAt (volume_view old) (now (past_of old)) text made (now (past_of new)))
inode-on old mid same text path made new result at told changes =
    on_ok result _ _
    (back-same old mid same (λ (v : model.Volume) (i : Image). OnOk result (HasChanged v i path made (now (past_of new)))) (changes told))
    (λ has. record { path = path; at = at; has = has })

-- the path is that of the text, and the time the one that was wished
pub inode-at : {D : Type 0} {disks : Ghosts D} (old mid : Volume D disks) (same : SameVolume old mid) (text : List ℕ) (making : Making) (chosen : Chosen) (blocks : List (List ℕ))
    → (IsTold (past_of old) → MayMakeAt old text making chosen blocks) → (time : ℕ) → chosen.time ≡ time → (new : Volume D disks) (result : Result (Unit {0}) FileFault)
    → ((made : Making) (outer : List (List ℕ)) → (IsTold (past_of mid) → MayMake mid outer made chosen blocks) → ChangesInodeBy mid new (chosen.name ∷ outer) (Some (made, chosen.time)) result)
    → ChangesInodeAt old new text (Some (making, time)) result
inode-at old mid same text making chosen blocks may time is new result makes told =
    let at = may told in
    inode-on old mid same text (chosen.name ∷ at.outer) (Some (making, time)) new result at.is (told-mid old mid same told)
    (subst (λ (t : ℕ). ChangesInodeBy mid new (chosen.name ∷ at.outer) (Some (making, t)) result) is
    (makes making at.outer (λ t. may-forth old mid same at.outer making chosen blocks at.may)))

-- so it is of a name that goes
pub inode-gone : {D : Type 0} {disks : Ghosts D} (old mid : Volume D disks) (same : SameVolume old mid) (text : List ℕ) (place : NamePlace)
    (checked : Told (past_of old) (λ now. GivesChecked (volume_view old) now text (Ok place))) (new : Volume D disks) (result : Result (Unit {0}) FileFault)
    → ((path : List (List ℕ)) → (IsTold (past_of mid) → IsRemovable (volume_view mid) (now (past_of mid)) path place.directory.inode place.name.now) → ChangesInodeBy mid new path None result)
    → ChangesInodeAt old new text None result
inode-gone old mid same text place checked new result changes told =
    let is = found old mid same text place checked told in
    inode-on old mid same text is.path None new result is.is (told-mid old mid same told) (changes is.path (λ t. removable-mid old mid same text place checked told))

-- the volume is the one in the span
pub inode-in : {D : Type 0} (disks : Ghosts D) (old : D) (span : Span) (text : List ℕ) (made : Option (Making × ℕ)) (volume new : Volume D disks) → SameOf disks old volume.disks.now
    → Told (disks.past old) (λ now. volume_at now span ≡ Ok (volume_view volume)) → (result : Result (Unit {0}) FileFault) → ChangesInodeAt volume new text made result
    → ChangesInode disks old new.disks.now span text made result
inode-in disks old span text made volume new same is result makes told =
    on_ok result _ _ (makes (subst IsTold (sym same.same_past) told)) (λ has. record {
      volume = volume_view volume;
      is = told_now (disks.past old) (λ now. volume_at now span ≡ Ok (volume_view volume)) is told;
      has = subst (λ (i : Image). HasChangedAt (volume_view volume) i text made (now (past_of new))) (ap now same.same_past) has;
    })
