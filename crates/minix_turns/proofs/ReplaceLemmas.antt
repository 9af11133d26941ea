-- Two turns of entries that put one name in the place of another.
use Rattle.std.proofs.Common.{◌≡◌, ◌≢◌, ◌⊎◌, ◌<◌, ◌+◌, ◌*◌, ◌/◌, ◌%◌, ◌^◌, ℕ, true, List, ◌∷◌, length, Some, Result, Ok, OnOk, refl, sym, ◌∙◌, ap, subst, arith, inl, inr, ⊎_elim}
use Rattle.disk_trait.specs.declared.disks.Disks.{Ghosts}
use Rattle.disk_trait.specs.declared.disks.Span.{Span}
use Rattle.disk_trait.specs.NotWritten.{IsOther}
use Rattle.disk_trait.specs.Past.{Image}
use Rattle.disk_trait.specs.Moments.{IsTold, now, LeavesOnly}
use Rattle.disk_trait.proofs.CallLemmas.{goes_on_join}
use Rattle.disk_trait.proofs.MomentLemmas.{leaves_weaker, leaves_join, on_ok}
use Rattle.lilo_model.specs.Bytes.{with_part}
use Rattle.lilo_model.specs.MinixEntries.{entry_of, entry_with, entries_per_block}
use Rattle.lilo_model.specs.MinixLayout.{Super, entry_size, zone_sector}
use Rattle.lilo_model.specs.MinixNames.{zone_number, thing, Named, IsSound}
use Rattle.lilo_model.specs.MinixParts as model
use Rattle.lilo_model.specs.MinixParts.{Parts, is_directory, block_pointer, sector_of, parts_of}
use Rattle.minix_change_laws.specs.Written.{entry_bytes, IsPlaced, HasEntryBytes}
use Rattle.minix_change_laws.proofs.EntryBytes.{entry_bytes_law}
use Rattle.minix_change_laws.proofs.ReplaceBytes.{replace_bytes_law}
use Rattle.minix_change_laws.specs.Enter.{MayStand, MayRemove}
use Rattle.minix_change_laws.specs.Only.{zone_of_entry}
use Rattle.minix_change_laws.proofs.Only.{directory-refers}
use Rattle.minix_layout.specs.View.{kind_view, super_view}
use Rattle.minix_layout.specs.declared.superblock.Super as layout
use Rattle.minix_change_laws.specs.Tree.{KeepsNamed, HasTreeWith}
use Rattle.minix_steps.specs.Written.{with_sector_of, parts_now}
use Rattle.minix_steps.proofs.StepLemmas.{leaves_told, same_view}
use Rattle.minix_turns.specs.Joined.{LeadsPath}
use Rattle.minix_turns.specs.Names.{RedirectsName}
use Rattle.minix_turns.specs.Part.{TurnsEntry, HasEntryPart}
use Rattle.minix_turns.specs.Replace.{MayReplaceAt, IsReplaced, IsReplacing, Replaces, HasBothEntries, IsOffEntry}
use Rattle.minix_turns.specs.declared.replace.EntryPlace.{EntryPlace}
use Rattle.minix_turns.proofs.EntryLemmas.{free-long, free-inode}
use Rattle.minix_turns.proofs.PartLemmas.{entry_fits}
use Rattle.minix_turns.proofs.NameLemmas.{entry_at}
use Rattle.minix_change_laws.specs.Part.{HasZonePart, free_bytes}
use Rattle.minix_change_laws.proofs.Part.{write_part_law}
use Rattle.minix_zones.specs.Volume.{volume_view, past_of, KeepsVolume}
use Rattle.minix_zones.proofs.WriteLemmas.{keeps_join}
use Rattle.minix_zones.specs.declared.volume.Volume.{Volume}

-- a directory that keeps its name keeps the zone of a block
pub zone_stays : (super : Super) (old new : Parts) (directory place : ℕ) → KeepsNamed super old new → Named super old directory → Named super new directory → is_directory (old.node directory) ≡ true
    → zone_of_entry super old directory place ≢ 0 → zone_of_entry super new directory place ≡ zone_of_entry super old directory place
unfolding zone_number
zone_stays super old new directory place keeps was now is some =
    (keeps.stays directory (block_pointer super.kind (place / entries_per_block super.kind)) (zone_of_entry super old directory place)
    (directory-refers super old directory place was is (zone_of_entry super old directory place) some refl) now).is

-- an image with a free entry
abbrev with_free : model.Volume → Image → ℕ → ℕ → Image
with_free v image zone index =
    let sector : ℕ = zone_sector zone + entry_size v.layout.kind * index / 512 in
    with_sector_of v image sector (with_part (sector_of v image sector) (entry_size v.layout.kind * index % 512) (free_bytes v.layout.kind))

module _ (v : model.Volume) (old mid : Image) (outer : List (List ℕ)) (directory to_place from_place former number zone index : ℕ) (name gone bytes : List ℕ)
    (sound : IsSound v old) (there : index < entries_per_block v.layout.kind) (to_placed : IsPlaced v old directory to_place) (from_placed : IsPlaced v old directory from_place)
    (lies : zone_of_entry v.layout (parts_of v old) directory from_place ≡ zone) (slot : from_place % entries_per_block v.layout.kind ≡ index)
    (goes : MayRemove v.layout (parts_of v old) outer directory to_place former name) (moves : MayRemove v.layout (parts_of v old) outer directory from_place number gone)
    (names : gone ≢ name) (inodes : number ≢ former) (stands : MayStand v.layout (parts_of v old) number)
    (says : entry_of v.layout.kind bytes ≡ entry_with number name) (first : HasEntryBytes v old mid directory to_place bytes)
    (both : HasTreeWith v old mid (name ∷ outer) (Some number) (Some (thing v.layout (parts_of v old) number))) where
  too-long : outer ≢ name ∷ outer
  too-long e = let n : length outer ≡ length (name ∷ outer) = ap length e in absurd (omega (arith, n))

  mid-named : Named v.layout (parts_of v mid) directory
  mid-named = record { path = outer; leads = both.tree.others outer too-long ∙ goes.leads }

  zone-mid : zone_of_entry v.layout (parts_of v mid) directory from_place ≡ zone
  zone-mid = zone_stays v.layout (parts_of v old) (parts_of v mid) directory from_place both.tree.keeps from_placed.named mid-named from_placed.is from_placed.some ∙ lies

  part : HasZonePart v mid (with_free v mid zone index) zone (entry_size v.layout.kind * index) (free_bytes v.layout.kind)
  part =
      let fits = entry_fits v.layout.kind index (free_bytes v.layout.kind) there (free-long v.layout.kind) in
      write_part_law v mid zone (entry_size v.layout.kind * index) (free_bytes v.layout.kind) fits.0 fits.1

  second : HasEntryBytes v mid (with_free v mid zone index) directory from_place (free_bytes v.layout.kind)
  second = entry_at v mid (with_free v mid zone index) directory from_place zone index (free_bytes v.layout.kind) (free-long v.layout.kind) zone-mid slot part

  replaced : IsReplaced v old outer former number name gone (with_free v mid zone index)
  replaced = (
    mid,
    replace_bytes_law v old mid (with_free v mid zone index) outer directory to_place from_place former number name gone bytes (free_bytes v.layout.kind) sound record {
      to_placed = to_placed;
      from_placed = from_placed;
      goes = goes;
      moves = moves;
      names = names;
      inodes = inodes;
      stands = stands;
      says = says;
      first = first;
      says_free = free-inode v.layout.kind;
      second = second;
    },
  )

module _ {D : Type 0} {disks : Ghosts D} (old : Volume D disks) (to from : EntryPlace) (number : ℕ) (name : List ℕ) (outer : List (List ℕ)) (directory to_place from_place former : ℕ) (gone : List ℕ)
    (may : IsTold (past_of old) → MayReplaceAt old outer directory to_place from_place former number to from name gone) where
  abbrev Replacing : Image → Type 0
  Replacing = IsReplacing (volume_view old) (now (past_of old)) outer former number name gone

  abbrev Leads : {E : Type 0} → Volume D disks → Result (Unit {0}) E → Type 0
  Leads mid result = LeadsPath old mid (name ∷ outer) (Some number) (Some (thing (super_view old.layout) (parts_now old) number)) result

  redirected : {E : Type 0} (mid : Volume D disks) (result : Result (Unit {0}) E) → RedirectsName old mid to.zone to.index number name result → Leads mid result
  redirected mid result redirects =
      redirects outer directory to_place former
      (λ told. record { lies = (may told).to_lies; fits = (may told).fits; removes = (may told).goes; stands = (may told).stands })

  weaker : {E : Type 0} (mid : Volume D disks) (result : Result (Unit {0}) E) → Leads mid result → LeavesOnly (past_of old) (past_of mid) Replacing
  weaker mid result leads = leaves_weaker (past_of old) (past_of mid) _ Replacing leads.any_moment (λ c either. ⊎_elim (λ seen. inl seen) (λ tree. inr (inl tree)) either)

  -- the first turn was refused
  pub replace_refused : {E : Type 0} (mid : Volume D disks) (first result : Result (Unit {0}) E) → ((P : Type 0) → OnOk result P) → RedirectsName old mid to.zone to.index number name first
      → Replaces old mid outer former number name gone result
  replace_refused mid first result refused redirects =
      let leads = redirected mid first redirects in
      record {
        any_moment = weaker mid first leads;
        held = λ told. ⊎_elim (λ seen. inl seen) (λ tree. inr (inl tree)) (leads.held told);
        done = λ told. refused _;
        goes_on = leads.goes_on;
        kept = leads.kept;
      }

  module _ {E : Type 0} (low : number < 2 ^ 16) (there : from.index < entries_per_block (kind_view old.layout.kind)) (mid new : Volume D disks) (redirects : RedirectsName {E = E} old mid to.zone to.index number name (Ok tt))
      (entry : IsTold (past_of old) → HasEntryPart old (now (past_of mid)) to.zone to.index (entry_bytes (kind_view old.layout.kind) number name)) (error : E) (result : Result (Unit {0}) E)
      (turns : TurnsEntry mid new from.zone from.index (free_bytes (kind_view mid.layout.kind)) error result) where
    leads : Leads {E = E} mid (Ok tt)
    leads = redirected mid (Ok tt) redirects

    both : IsTold (past_of old) → Replacing (now (past_of mid))
    both told = inr (inl (leads.done told))

    freed : IsTold (past_of old) → IsReplaced (volume_view old) (now (past_of old)) outer former number name gone (with_free (volume_view mid) (now (past_of mid)) from.zone from.index)
    freed told =
        let m = may told in
        let P : model.Volume → Type 0 = λ v. IsReplaced (volume_view old) (now (past_of old)) outer former number name gone (with_free v (now (past_of mid)) from.zone from.index) in
        let said = entry_bytes_law (kind_view old.layout.kind) number name low m.fits in
        subst P (sym (same_view old mid leads.kept))
        (replaced (volume_view old) (now (past_of old)) (now (past_of mid)) outer directory to_place from_place former number from.zone from.index name gone (entry_bytes (kind_view old.layout.kind) number name)
        m.to_lies.at.sound there m.to_lies.placed m.from_lies.placed m.from_lies.at.lies m.from_lies.at.slot m.goes m.moves m.names m.inodes m.stands said.1
        (entry_at (volume_view old) (now (past_of old)) (now (past_of mid)) directory to_place to.zone to.index (entry_bytes (kind_view old.layout.kind) number name) said.0 m.to_lies.at.lies m.to_lies.at.slot (entry told))
        (leads.done told))

    before : IsTold (past_of new) → IsTold (past_of old)
    before told = leads.goes_on.told_before (turns.goes_on.told_before told)

    either : IsTold (past_of old) → (c : Image) → (c ≡ now (past_of mid)) ⊎ (c ≡ with_free (volume_view mid) (now (past_of mid)) from.zone from.index) → Replacing c
    either told c (inl same) = subst Replacing (sym same) (both told)
    either told c (inr is) = inr (inr (subst (IsReplaced (volume_view old) (now (past_of old)) outer former number name gone) (sym is) (freed told)))

    pub replace_done : Replaces old new outer former number name gone result
    replace_done = record {
      any_moment = leaves_join (past_of old) (past_of mid) (past_of new) Replacing (weaker mid (Ok tt) leads)
          (leaves_told (past_of mid) (past_of new) _ Replacing turns.any_moment (λ told c choice. either (before told) c choice));
      held = λ told. ⊎_elim (λ is. either told _ (inr is)) (λ same. either told _ (inl same)) (turns.made (leads.goes_on.told told));
      done = λ told. on_ok result _ _ (turns.written (leads.goes_on.told told))
          (λ is. subst (IsReplaced (volume_view old) (now (past_of old)) outer former number name gone) (sym is) (freed told));
      goes_on = goes_on_join disks old.disks.now mid.disks.now new.disks.now leads.goes_on turns.goes_on;
      kept = keeps_join old mid new leads.kept turns.kept;
    }

-- a sector that isn't the one with an entry isn't so of the same volume later
pub off_entry_stays : {D : Type 0} {disks : Ghosts D} (old mid : Volume D disks) (place : EntryPlace) (d s : ℕ) → KeepsVolume old mid → IsOffEntry old place d s → IsOffEntry mid place d s
off_entry_stays old mid place d s kept off =
    let B : layout.Super → Type 0 = λ l. IsOther mid.span.disk (mid.span.start + (zone_sector place.zone + entry_size (kind_view l.kind) * place.index / 512)) d s in
    let P : Span → Type 0 = λ p. IsOther p.disk (p.start + (zone_sector place.zone + entry_size (kind_view old.layout.kind) * place.index / 512)) d s in
    subst B (sym kept.same_layout) (subst P (sym kept.same_span) off)

-- the two entries, once both turns are done
pub both_entries : {D E : Type 0} {disks : Ghosts D} (old mid new : Volume D disks) (to from : EntryPlace) (number : ℕ) (name : List ℕ) (result : Result (Unit {0}) E)
    → KeepsVolume old mid → HasEntryPart old (now (past_of mid)) to.zone to.index (entry_bytes (kind_view old.layout.kind) number name)
    → OnOk result (HasEntryPart mid (now (past_of new)) from.zone from.index (free_bytes (kind_view mid.layout.kind)))
    → OnOk result (HasBothEntries old (now (past_of new)) to from number name)
both_entries old mid new to from number name result kept led freed =
    let P : model.Volume → Type 0 = λ v. HasZonePart v (now (past_of mid)) (now (past_of new)) from.zone (entry_size v.layout.kind * from.index) (free_bytes v.layout.kind) in
    on_ok result _ _ freed (λ free. record { mid = now (past_of mid); led = led; freed = subst P (same_view old mid kept) free })
