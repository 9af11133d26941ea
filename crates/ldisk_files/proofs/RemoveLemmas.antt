-- What the removal of a name leaves, in terms of Names and of the span.
use Rattle.std.proofs.Common.{◌≡◌, ◌≤◌, ◌<◌, ◌+◌, ◌*◌, ◌⊎◌, ℕ, List, ◌∷◌, Some, None, Result, Ok, Err, refl, sym, ◌∙◌, ap, subst, inl, inr, arith}
use Rattle.std.specs.Prelude.{OnOk, IfErr}
use Rattle.disk_trait.specs.declared.disks.Disks.{Ghosts}
use Rattle.disk_trait.specs.Moments.{IsTold, now, LeavesOnly}
use Rattle.disk_trait.specs.NotWritten.{NotWritten}
use Rattle.disk_trait.specs.Past.{Image}
use Rattle.disk_trait.specs.Range.{IsOutside}
use Rattle.disk_trait.proofs.MomentLemmas.{leaves_weaker, told_or_not}
use Rattle.lilo_model.specs.MinixLayout.{IsSuper, inode_place, zone_sector}
use Rattle.lilo_model.specs.MinixNames.{reached, Named, IsSound}
use Rattle.lilo_model.specs.MinixParts as model
use Rattle.lilo_model.specs.MinixParts.{Pointer, parts_of}
use Rattle.minix_remove.specs.Removed.{Removes, RemovesFile, AnswersRight, IsOffRemoved}
use Rattle.minix_remove.specs.Target.{refusal_of, IsDirectoryNow}
use Rattle.minix_remove_laws.specs.Held.{held_name}
use Rattle.minix_change_laws.specs.Tree.{HasNamesWith, HasTreeWith}
use Rattle.minix_change_laws.proofs.Seen.{opened, seen_sound_law}
use Rattle.minix_change_laws.proofs.Tree.{has_names_law}
use Rattle.minix_steps.proofs.RegionLemmas.{lies, place_there}
use Rattle.minix_steps.specs.Written.{parts_now}
use Rattle.minix_turns.specs.Joined.{SeenOrWith, LeadsPath}
use Rattle.minix_choice.specs.declared.write_fault.WriteFault.{WriteFault}
use Rattle.minix_choice.specs.declared.write_fault.WriteFault.TheVariants as writes
use Rattle.minix_zones.specs.Volume.{volume_view, past_of, Syncs}
use Rattle.minix_zones.specs.declared.volume.Volume.{Volume}
use Rattle.minix_zones.specs.declared.zone_fault.ZoneFault.{ZoneFault}
use Rattle.minix_zones.specs.declared.zone_fault.ZoneFault.TheVariants as zones
use Rattle.ldisk_files.specs.Answer.{IsRemovable, IsSomeRemovable, write_fault}
use Rattle.ldisk_files.specs.Inode.{ChangesInodeBy}
use Rattle.ldisk_files.specs.Left.{HasNamesBetween, ChangesName}
use Rattle.ldisk_files.specs.declared.fault.FileFault.{FileFault}
use Rattle.ldisk_files.specs.declared.fault.FileFault.TheVariants.{Device}
use Rattle.ldisk_files.proofs.FlushLemmas.{forth}
use Rattle.ldisk_files.proofs.MarkLemmas.{removed-clear}
use Rattle.ldisk_files.proofs.OutsideLemmas.{off-range, off-one}
use Rattle.ldisk_files.proofs.UntoldLemmas.{leaves-untold, untouched-untold}
use Rattle.ldisk_files.proofs.NameLemmas.{held-is, held-by, IsHeld}

-- ---- a name is removed

module _ {D : Type 0} {disks : Ghosts D} (start new : Volume D disks) (directory : ℕ) (name : List ℕ) (path : List (List ℕ)) where
  abbrev V : model.Volume
  V = volume_view start

  abbrev I : Image
  I = now (past_of start)

  pub directory-now : IsRemovable V I path directory name → IsDirectoryNow start directory
  directory-now is = record {
    sound = is.sound;
    named = record { path = is.ends.above; leads = is.ends.there.leads };
    is = is.ends.there.is;
  }

  -- a sector outside the volume's is none of those that a removal writes
  module _ (laid : IsSuper V.layout V.span.count) (sound : IsSound V I) (d s : ℕ) (outside : IsOutside start.span.disk start.span.start start.span.count d s) where
    off-removed : IsDirectoryNow start directory → (number : ℕ) → Named V.layout (parts_of V I) number → IsOffRemoved start directory number d s
    off-removed in-directory number named = record {
      zones = λ at zone to.
          let range = (opened V I sound).parts.zone_range directory at zone (record { named = in-directory.named; to = to }) in
          off-range start laid d s outside (zone_sector zone) 2 (let top = range.1 in omega (arith, top)) (omega arith);
      file = record {
        maps = off-range start laid d s outside 4 (2 * (V.layout.imap + V.layout.zmap)) maps-below maps-some;
        inode =
            let range = (opened V I sound).parts.in_range number named in
            off-one start laid d s outside (inode_place V.layout number).sector (place_there V.layout V.span.count laid number range.0 range.1);
      };
    }
      where
        maps-below : 4 + 2 * (V.layout.imap + V.layout.zmap) ≤ 2 * V.layout.zones
        maps-below = let l = lies V.layout V.span.count laid in omega (arith, l.table, l.first)

        maps-some : 0 < 2 * (V.layout.imap + V.layout.zmap)
        maps-some = let l = lies V.layout V.span.count laid in omega (arith, l.imap)

  module _ (r : Result (Unit {0}) WriteFault) (removes : Removes start new directory name r) where
    module _ (is : IsRemovable V I path directory name) where
      held : IsHeld V I path name
      held = held-by V I path directory name is

      name-held : held_name V.layout (parts_of V I) directory name ≡ Some held.number
      name-held =
          sym (held-is V.layout (parts_of V I) directory name is.ends.above is.ends.there.leads is.ends.there.is held.plain)
          ∙ (ap (reached V.layout (parts_of V I)) (sym is.ends.is) ∙ held.leads)

      lead : LeadsPath start new (name ∷ is.ends.above) None None r
      lead = removes.leads is.ends.above (λ told. is.ends.there.leads)

      with-path : (c : Image) → HasNamesWith V I c (name ∷ is.ends.above) None → HasNamesWith V I c path None
      with-path c has = subst (λ (p : List (List ℕ)). HasNamesWith V I c p None) (sym is.ends.is) has

      between : (c : Image) → SeenOrWith V I (name ∷ is.ends.above) None None c → HasNamesBetween V I path None c
      between c (inl seen) = let kept = seen_sound_law V I c is.sound seen in inl record { sound = kept.sound; same = kept.same }
      between c (inr tree) = inr (with-path c (has_names_law V I c (name ∷ is.ends.above) None None tree))

      by-ok : (result : Result (Unit {0}) WriteFault) → OnOk result (HasTreeWith V I (now (past_of new)) (name ∷ is.ends.above) None None) → OnOk result (HasNamesWith V I (now (past_of new)) path None)
      by-ok (Ok done) tree = with-path (now (past_of new)) (has_names_law V I (now (past_of new)) (name ∷ is.ends.above) None None tree)
      by-ok (Err fault) tree = tt

      by-answer : (result : Result (Unit {0}) WriteFault) → AnswersRight start new directory name result → IfErr result (λ fault. fault ≡ writes.Device)
      by-answer (Ok done) right = tt
      by-answer (Err fault) (inl device) = device.0
      by-answer (Err fault) (inr refused) =
          let none : refusal_of (parts_now start) (held_name V.layout (parts_of V I) directory name) ≡ None = ap (refusal_of (parts_now start)) name-held ∙ rw held.removable refl in
          let why = refused.is in
          cc

    module _ (laid : IsSuper V.layout V.span.count) (may : IsTold (past_of start) → IsRemovable V I path directory name) where
      untold-new : (IsTold (past_of start) → ⊥) → IsTold (past_of new) → ⊥
      untold-new none told = none (removes.goes_on.told_before told)

      pub any-moment : LeavesOnly (past_of start) (past_of new) (HasNamesBetween V I path None)
      any-moment = by (told_or_not (past_of start))
        where
          by : IsTold (past_of start) ⊎ (IsTold (past_of start) → ⊥) → LeavesOnly (past_of start) (past_of new) (HasNamesBetween V I path None)
          by (inl told) = leaves_weaker (past_of start) (past_of new) (SeenOrWith V I (name ∷ (may told).ends.above) None None) (HasNamesBetween V I path None) (lead (may told)).any_moment (between (may told))
          by (inr none) = leaves-untold (past_of start) (past_of new) (HasNamesBetween V I path None) none (untold-new none)

      pub outside-stays : (d s : ℕ) → IsOutside start.span.disk start.span.start start.span.count d s → NotWritten (past_of start) (past_of new) d s
      outside-stays d s outside = by (told_or_not (past_of start))
        where
          by : IsTold (past_of start) ⊎ (IsTold (past_of start) → ⊥) → NotWritten (past_of start) (past_of new) d s
          by (inl told) =
              let is = may told in
              removes.others told (held is).number (name-held is) d s
              (off-removed laid is.sound d s outside (directory-now is) (held is).number (record { path = path; leads = (held is).leads }))
          by (inr none) = untouched-untold (past_of start) (past_of new) d s none (untold-new none)

      pub done-with : IsTold (past_of start) → OnOk r (HasNamesWith V I (now (past_of new)) path None)
      done-with told = by-ok (may told) r ((lead (may told)).done told)

      pub device-alone : IsTold (past_of start) → IfErr r (λ fault. fault ≡ writes.Device)
      device-alone told = by-answer (may told) r (removes.answers told)

    -- the whole of it
    module _ (laid : IsSuper V.layout V.span.count) (may : IsTold (past_of start) → IsRemovable V I path directory name) where
      changed : (result : Result (Unit {0}) FileFault) → (IsTold (past_of start) → OnOk result (HasNamesWith V I (now (past_of new)) path None))
          → (IsTold (past_of start) → IfErr result (λ fault. fault ≡ Device)) → ChangesName start new path None result
      changed result done device = record {
        any_moment = λ quiet. any-moment laid may;
        done = done;
        device = device;
        outside = outside-stays laid may;
        goes_on = removes.goes_on;
        kept = removes.kept;
      }

module _ {D : Type 0} {disks : Ghosts D} (start new : Volume D disks) (directory : ℕ) (name : List ℕ) (path : List (List ℕ)) (laid : IsSuper (volume_view start).layout (volume_view start).span.count)
    (may : IsTold (past_of start) → IsRemovable (volume_view start) (now (past_of start)) path directory name) where
  pub removed : Removes start new directory name (Ok tt) → ChangesName start new path None (Ok tt)
  removed removes = changed start new directory name path (Ok tt) removes laid may (Ok tt) (done-with start new directory name path (Ok tt) removes laid may) (λ told. tt)

  pub not-removed : (fault : WriteFault) → Removes start new directory name (Err fault) → ChangesName start new path None (Err (write_fault fault))
  not-removed fault removes = changed start new directory name path (Err fault) removes laid may (Err (write_fault fault)) (λ told. tt)
      (λ told. ap write_fault (device-alone start new directory name path (Err fault) removes laid may told))

-- what becomes of its inode
pub inode-removed : {D : Type 0} {disks : Ghosts D} (start new : Volume D disks) (directory : ℕ) (name : List ℕ) (path : List (List ℕ))
    → (IsTold (past_of start) → IsRemovable (volume_view start) (now (past_of start)) path directory name) → Removes start new directory name (Ok tt) → ChangesInodeBy start new path None (Ok tt)
inode-removed start new directory name path may removes told =
    let old = volume_view start in
    let image = now (past_of new) in
    let is = may told in
    let it = held start new directory name path (Ok tt) removes is in
    let same : volume_view new ≡ volume_view start = rw (removes.kept.same_span, removes.kept.same_layout) refl in
    let file : RemovesFile old.layout (parts_of old (now (past_of start))) (parts_of old image) directory it.number =
    subst (λ (v : model.Volume). RemovesFile old.layout (parts_of old (now (past_of start))) (parts_of v image) directory it.number) same
    (removes.file told it.number (name-held start new directory name path (Ok tt) removes is)) in
    record {
      number = it.number;
      led = it.leads;
      lowered = file.lowered;
      freed = file.freed;
      marks = removed-clear old (now (past_of start)) image directory it.number file;
      others = file.others;
    }

-- what may be removed is in a directory of the volume once the flush is made
pub may-forth : {D : Type 0} {disks : Ghosts D} (old mid : Volume D disks) (first : Result (Unit {0}) ZoneFault) → Syncs old mid zones.Device first → (directory : ℕ) (name : List ℕ)
    → (IsTold (past_of old) → IsSomeRemovable (volume_view old) (now (past_of old)) directory name) → IsTold (past_of mid) → IsDirectoryNow mid directory
may-forth old mid first syncs directory name may told =
    let some = may (syncs.flushes.goes_on.told_before told) in
    directory-now mid mid directory name some.path
    (forth old mid first syncs (λ (v : model.Volume) (i : Image). IsRemovable v i some.path directory name) some.is)
