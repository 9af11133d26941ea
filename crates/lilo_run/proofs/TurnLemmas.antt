-- A part leaves what its command may leave, by what it reports.
use Rattle.std.proofs.Common.{◌≡◌, ◌≢◌, ◌⊎◌, ◌∙◌, ℕ, Bool, true, false, inl, inr, List, [], ◌∷◌, Option, None, Some, Result, Ok, Err, refl, sym, ap, subst}
use Rattle.disk_trait.specs.declared.disks.Disks.{Ghosts}
use Rattle.disk_trait.specs.declared.disks.Phase.TheVariants.{Before, Commit, After}
use Rattle.disk_trait.specs.Calls.{SameOf}
use Rattle.disk_trait.specs.Moments.{IsTold, now, IsQuiet}
use Rattle.disk_trait.proofs.MomentLemmas.{leaves_none}
use Rattle.install_laws.proofs.Outside.{apart_write_law}
use Rattle.lilo_model.specs.Boot.{whole_boot}
use Rattle.lilo_model.specs.ConfVerdict.{conf_path, conf_device, place_at}
use Rattle.lilo_model.specs.Devices.{Device}
use Rattle.lilo_model.specs.Disks.{Image, Machine, DiskSector, with_sector}
use Rattle.lilo_model.specs.LineSector.{line_bytes}
use Rattle.lilo_model.specs.LineShots.{ShotFault, shot_line, shot_place}
use Rattle.lilo_model.specs.LineWords.{joined_words}
use Rattle.lilo_model.specs.MinixParts.{Volume}
use Rattle.lilo_model.specs.NamePlaces.{default_backup}
use Rattle.lilo_model.specs.Prompt.{Key}
use Rattle.lilo_model.specs.Refusal.{Refusal}
use Rattle.lilo_model.specs.Verdict.{boot_verdict, verdict_of}
use Rattle.lilo_model.specs.Words as words
use Rattle.lilo_model.specs.Words.{Part, run_at}
use Rattle.boot_backup.specs.Restore.{boot_place, restored_in}
use Rattle.loader_core.proofs.LeavesLemmas.{lost_puts, lost_put}
use Rattle.loader_core.specs.Leaves.{HasPut, LostIn, LostAfter, Puts}
use Rattle.loader_core.specs.Report.{LineWrite, boot_write}
use Rattle.session_model.specs.Site.{Site}
use Rattle.session_model.specs.Step.{Command, Install, Boot, SetLine, Restore, Look, Change, Answered, Extent, Done, Either, extent_of}
use Rattle.session_laws.specs.Sessions.{LeavesTurn}
use Rattle.session_laws.specs.Turns.{WritesOne, WritesNoFile, IsMadeBy, LeavesOne, ReadsSector}
use Rattle.session_laws.proofs.Turns.{boot_stays_law, boot_makes_law, shot_makes_law, restore_makes_law, still_turn_law, one_turn_law}
use Rattle.lilo_run.specs.Refusal.{line_refused}
use Rattle.lilo_run.specs.Run.{Scene, Tells, TellsVerdict, TellsLost, TellsLostAtCommit, TellsLostAfter, TellsUnheard, TellsStarved, TellsCut, TellsRun}
use Rattle.lilo_run.specs.Turn.{found_span, turn_of, RestoresOn, ReadsOn, IsOn, OnSite, OnNone, PartTurns}
use Rattle.lilo_run.specs.Verdict.{Effect, Left, command_effect, part_effect, effects_of, first_left}
use Rattle.lilo_run.proofs.LineLemmas.{makes_put, comes_to, starves_same}
use Rattle.lilo_run.proofs.TellLemmas.{told_alone}
use Rattle.lilo_run.proofs.TurnEffects.{Does, boot-extent, shot-refused, restore-refused, some-ok, shot-device, boot_does, shot_does, restore_does, none_does}
use Rattle.lilo_run.proofs.TurnWrites.{BootWrites, KeepsLine, PutsLine, boot_writes, shot_there, restored_there, backup_read}

-- ---- what was done

-- By the status: what is to be written was, or nothing was, or a disk failed in the write or after it.
data Ends {D : Type 0} (g : Ghosts D) (write : Option LineWrite) (verdict status : ℕ) (old new : D) : Type 0 where
  EndsDone : (status ≡ verdict) ⊎ ((status ≡ 12) × (verdict ≡ 0)) → HasPut g old new write → Ends g write verdict status old new
  EndsBefore : (status ≡ 8) ⊎ ((status ≡ 11) ⊎ (status ≡ 13)) → SameOf g old new → Ends g write verdict status old new
  EndsIn : status ≡ 9 → LostIn g old new write → Ends g write verdict status old new
  EndsAfter : status ≡ 10 → LostAfter g old new write → Ends g write verdict status old new

ends_by : {D : Type 0} (g : Ghosts D) (part : Effect) (status : ℕ) (left : List Key) (old new : Scene D) → part.installs ≡ None → Tells g part status left old new
    → Ends g part.write part.verdict.status status old.disks new.disks
ends_by g part status left old new none (TellsVerdict is kept printed put) = EndsDone (inl is) (makes_put g old.disks new.disks part none status put)
ends_by g part status left old new none (TellsLost is printed came) = EndsBefore (inl is) (comes_to g old.disks new.disks part none Before came).same
ends_by g part status left old new none (TellsLostAtCommit is printed came) = EndsIn is (comes_to g old.disks new.disks part none Commit came)
ends_by g part status left old new none (TellsLostAfter is printed came) = EndsAfter is (comes_to g old.disks new.disks part none After came)
ends_by g part status left old new none (TellsUnheard is printed rose same) = EndsBefore (inr (inl is)) same
ends_by g part status left old new none (TellsStarved is printed same) = EndsBefore (inr (inr is)) (starves_same g old.disks new.disks part none same)
ends_by g part status left old new none (TellsCut is zero kept rose front put) = EndsDone (inr (is, zero)) (makes_put g old.disks new.disks part none 0 put)

-- ---- extents

abbrev extent_at : Command → ℕ → Extent
extent_at command status = extent_of command (Answered status)

-- a failure before the write isn't answered that it was done
record LostExtents (command : Command) : Type 0 where
  eight : extent_at command 8 ≢ Done
  eleven : extent_at command 11 ≢ Done
  thirteen : extent_at command 13 ≢ Done

lost-extents : (command : Command) → WritesNoFile command → LostExtents command
lost-extents (Install config device) one = absurd one
lost-extents (Boot keys memory) one = record { eight = λ is. cc; eleven = λ is. cc; thirteen = λ is. cc }
lost-extents (SetLine text) one = record { eight = λ is. cc; eleven = λ is. cc; thirteen = λ is. cc }
lost-extents (Restore device) one = record { eight = λ is. cc; eleven = λ is. cc; thirteen = λ is. cc }
lost-extents Look one = record { eight = λ is. cc; eleven = λ is. cc; thirteen = λ is. cc }
lost-extents (Change change) one = absurd one

lost-extent : (command : Command) → WritesNoFile command → (status : ℕ) → (status ≡ 8) ⊎ ((status ≡ 11) ⊎ (status ≡ 13)) → extent_at command status ≢ Done
lost-extent command one status (inl is) = subst (λ n. extent_at command n ≢ Done) (sym is) (lost-extents command one).eight
lost-extent command one status (inr (inl is)) = subst (λ n. extent_at command n ≢ Done) (sym is) (lost-extents command one).eleven
lost-extent command one status (inr (inr is)) = subst (λ n. extent_at command n ≢ Done) (sym is) (lost-extents command one).thirteen

-- a command for which 0 isn't done only looks
cut-extent : (command : Command) → WritesNoFile command → extent_at command 0 ≢ Done → extent_at command 12 ≢ Done
cut-extent (Install config device) one other = absurd one
cut-extent (Boot keys memory) one other = absurd (other refl)
cut-extent (SetLine text) one other = absurd (other refl)
cut-extent (Restore device) one other = absurd (other refl)
cut-extent Look one other = other
cut-extent (Change change) one other = absurd one

-- how far a command that writes came, by its status
record WrittenExtents (command : Command) : Type 0 where
  cut : extent_at command 12 ≡ Done
  commit : extent_at command 9 ≡ Either
  after : extent_at command 10 ≡ Done
  no_file : WritesNoFile command

written-extents : (command : Command) → WritesOne command → WrittenExtents command
written-extents (Install config device) one = absurd one
written-extents (Boot keys memory) one = record { cut = refl; commit = refl; after = refl; no_file = tt }
written-extents (SetLine text) one = record { cut = refl; commit = refl; after = refl; no_file = tt }
written-extents (Restore device) one = record { cut = refl; commit = refl; after = refl; no_file = tt }
written-extents Look one = absurd one
written-extents (Change change) one = absurd one

-- ---- a call

module _ {D : Type 0} (g : Ghosts D) (site : Site) (command : Command) (verdict status : ℕ) (old new : D) (quiet : IsQuiet (g.past old)) where
  -- nothing was written
  still : WritesNoFile command → extent_at command status ≢ Done → SameOf g old new → LeavesTurn site command status (g.past old) (g.past new)
  still one other same = still_turn_law site command status (g.past old) (g.past new) one other quiet same.same_past

  still_ends : WritesNoFile command → extent_at command verdict ≢ Done → Ends g None verdict status old new → LeavesTurn site command status (g.past old) (g.past new)
  still_ends one other (EndsDone (inl is) same) = still one (subst (λ n. extent_at command n ≢ Done) (sym is) other) same
  still_ends one other (EndsDone (inr (is, zero)) same) =
      still one (subst (λ n. extent_at command n ≢ Done) (sym is) (cut-extent command one (subst (λ n. extent_at command n ≢ Done) zero other))) same
  still_ends one other (EndsBefore is same) = still one (lost-extent command one status is) same
  still_ends one other (EndsIn is lost) = let some : false ≡ true = lost.some in cc
  still_ends one other (EndsAfter is lost) = let some : false ≡ true = lost.some in cc

  -- a sector was, or may have been
  module _ (told : IsTold (g.past old)) (one : WritesOne command) (done : extent_at command verdict ≡ Done) where
    by-extent : (made : Image) (extent : Extent) → IsMadeBy site command (now (g.past old)) made → extent_at command status ≡ extent
        → LeavesOne extent made (g.past old) (g.past new) → LeavesTurn site command status (g.past old) (g.past new)
    by-extent made extent makes is leaves =
        one_turn_law site command status (g.past old) (g.past new) made one makes (subst (λ (e : Extent). LeavesOne e made (g.past old) (g.past new)) (sym is) leaves)

    -- nothing is to be written, as all is there
    stays_ends : IsMadeBy site command (now (g.past old)) (now (g.past old)) → Ends g None verdict status old new → LeavesTurn site command status (g.past old) (g.past new)
    stays_ends makes ends = by ends
      where
        same-leaves : SameOf g old new → LeavesOne Done (now (g.past old)) (g.past old) (g.past new)
        same-leaves same = subst (λ past. LeavesOne Done (now (g.past old)) (g.past old) past) (sym same.same_past) (record {
          any_moment = leaves_none (g.past old) _ (λ c may. inl (quiet c may));
          after = λ c may. quiet c may;
        })

        by : Ends g None verdict status old new → LeavesTurn site command status (g.past old) (g.past new)
        by (EndsDone (inl is) same) = by-extent (now (g.past old)) Done makes (ap (extent_at command) is ∙ done) (same-leaves same)
        by (EndsDone (inr (is, zero)) same) = by-extent (now (g.past old)) Done makes (ap (extent_at command) is ∙ (written-extents command one).cut) (same-leaves same)
        by (EndsBefore is same) = still (written-extents command one).no_file (lost-extent command (written-extents command one).no_file status is) same
        by (EndsIn is lost) = let some : false ≡ true = lost.some in cc
        by (EndsAfter is lost) = let some : false ≡ true = lost.some in cc

    -- a sector is
    module _ (write : LineWrite) (makes : IsMadeBy site command (now (g.past old)) (with_sector (now (g.past old)) write.place write.bytes)) where
      abbrev made : Image
      made = with_sector (now (g.past old)) write.place write.bytes

      put-leaves : HasPut g old new (Some write) → LeavesOne Done made (g.past old) (g.past new)
      put-leaves put = record {
        any_moment = put.old_or_new quiet;
        after = λ c may. put.flushed.quiet c may ∙ put.writes.written told;
      }

      half-leaves : Puts {E = Unit {0}} g old new (Some write) (Err tt) → LeavesOne Either made (g.past old) (g.past new)
      half-leaves puts = record {
        any_moment = puts.old_or_new quiet;
        after = λ c may. let left = puts.writes.left c may in from left.0 (quiet left.0 left.1) c left.2;
      }
        where
          from : (b : Image) → b ≡ now (g.past old) → (c : Image) → (c ≡ b) ⊎ (c ≡ with_sector b write.place write.bytes) → (c ≡ now (g.past old)) ⊎ (c ≡ made)
          from b is c (inl same) = inl (same ∙ is)
          from b is c (inr with) = inr (with ∙ ap (λ (image : Image). with_sector image write.place write.bytes) is)

      write_ends : Ends g (Some write) verdict status old new → LeavesTurn site command status (g.past old) (g.past new)
      write_ends (EndsDone (inl is) put) = by-extent made Done makes (ap (extent_at command) is ∙ done) (put-leaves put)
      write_ends (EndsDone (inr (is, zero)) put) = by-extent made Done makes (ap (extent_at command) is ∙ (written-extents command one).cut) (put-leaves put)
      write_ends (EndsBefore is same) = still (written-extents command one).no_file (lost-extent command (written-extents command one).no_file status is) same
      write_ends (EndsIn is lost) = by-extent made Either makes (ap (extent_at command) is ∙ (written-extents command one).commit) (half-leaves (lost_puts g old new (Some write) lost))
      write_ends (EndsAfter is lost) = by-extent made Done makes (ap (extent_at command) is ∙ (written-extents command one).after) (put-leaves (lost_put g old new (Some write) lost))

-- ---- the commands

-- what it does of the disks, and its status
abbrev Ended : {D : Type 0} → Ghosts D → Option LineWrite → ℕ → ℕ → Scene D → Scene D → Type 0
Ended g write verdict status old new = Ends g write verdict status old.disks new.disks

ends_as : {D : Type 0} (g : Ghosts D) (part : Effect) (verdict : ℕ) (write : Option LineWrite) (status : ℕ) (left : List Key) (old new : Scene D) → Does part verdict write
    → Tells g part status left old new → Ended g write verdict status old new
ends_as g part verdict write status left old new does tells =
    subst (λ (n : ℕ). Ended g write n status old new) does.status
    (subst (λ (w : Option LineWrite). Ended g w part.verdict.status status old new) does.write (ends_by g part status left old new does.installs tells))

module _ {D : Type 0} (g : Ghosts D) (site : Site) (memory time : ℕ) (root : Option Device) (path : List ℕ) (found : Left) (keys left : List Key) (status : ℕ) (old new : Scene D)
    (told : IsTold (g.past old.disks)) (quiet : IsQuiet (g.past old.disks)) where
  abbrev image : Image
  image = now (g.past old.disks)

  abbrev Turns : Command → Type 0
  Turns command = LeavesTurn site command status (g.past old.disks) (g.past new.disks)

  abbrev effect : words.Command → Effect
  effect command = command_effect image site.machine memory time root path command found keys

  abbrev Told : words.Command → Type 0
  Told command = Tells g (effect command) status left old new

  boot-turn : (device : Device) (dump : Bool) → place_at image site.machine device ≡ Ok site.boot → Told (words.Boot device dump) → Turns (Boot keys memory)
  boot-turn device dump at tells = by (boot_writes site image keys memory)
    where
      write : Option LineWrite
      write = boot_write image site.machine site.boot (whole_boot image site.machine site.boot keys memory).line

      verdict : ℕ
      verdict = (boot_verdict image site.machine (Ok site.boot) dump keys memory).status

      ends : Ended g write verdict status old new
      ends = ends_as g (effect (words.Boot device dump)) verdict write status left old new (boot_does image site.machine memory time root path found keys device dump site.boot at) tells

      done : extent_at (Boot keys memory) verdict ≡ Done
      done = boot-extent image site.machine site.boot dump keys keys memory memory

      by : BootWrites site image (whole_boot image site.machine site.boot keys memory).line write → Turns (Boot keys memory)
      by (KeepsLine none same) =
          stays_ends g site (Boot keys memory) verdict status old.disks new.disks quiet told tt done (boot_stays_law site image keys memory same)
          (subst (λ (w : Option LineWrite). Ended g w verdict status old new) none ends)
      by (PutsLine place line is there gives) =
          write_ends g site (Boot keys memory) verdict status old.disks new.disks quiet told tt done (record { place = place; bytes = line_bytes line })
          (boot_makes_law site image keys memory place line there gives)
          (subst (λ (w : Option LineWrite). Ended g w verdict status old new) is ends)

  shot-turn : (line : List (List ℕ)) (device : Device) → conf_device image site.machine root path ≡ Ok device → place_at image site.machine device ≡ Ok site.boot
      → Told (words.SetLine line) → Turns (SetLine (joined_words line))
  shot-turn line device configured at tells = by (shot_place image site.machine site.boot (joined_words line)) refl
    where
      by : (place : Result DiskSector ShotFault) → shot_place image site.machine site.boot (joined_words line) ≡ place → Turns (SetLine (joined_words line))
      by (Ok place) is =
          let both = shot_there site image (joined_words line) place is in
          write_ends g site (SetLine (joined_words line)) 0 status old.disks new.disks quiet told tt refl (record { place = place; bytes = line_bytes (shot_line (joined_words line)) })
          (shot_makes_law site image (joined_words line) place both.0 both.1)
          (ends_as g (effect (words.SetLine line)) 0 (Some (record { place = place; bytes = line_bytes (shot_line (joined_words line)) })) status left old new
          (shot_does image site.machine memory time root path found keys line device site.boot configured at (Ok place) is) tells)
      by (Err fault) is =
          still_ends g site (SetLine (joined_words line)) (line_refused fault).status status old.disks new.disks quiet tt (shot-refused (joined_words line) fault)
          (ends_as g (effect (words.SetLine line)) (line_refused fault).status None status left old new
          (shot_does image site.machine memory time root path found keys line device site.boot configured at (Err fault) is) tells)

  restore-turn : (device : Device) → place_at image site.machine device ≡ Ok site.boot → RestoresOn site image root device → Told (words.Restore device) → Turns (Restore device)
  restore-turn device at on tells = by (restored_in image site.machine root device site.boot) refl
    where
      by : (bytes : Result (List ℕ) Refusal) → restored_in image site.machine root device site.boot ≡ bytes → Turns (Restore device)
      by (Ok bytes) is =
          let restored = restored_there image site.machine root device site.boot bytes is in
          let read = backup_read image site.machine root (default_backup device) restored.0 restored.1 in
          let reads : ReadsSector site.volume image (default_backup device) restored.0 =
          subst (λ (volume : Volume). ReadsSector volume image (default_backup device) restored.0) (on.on read.place read.searched read.volume read.there) read.reads in
          let makes = restore_makes_law site device image restored.0 on.apart reads (on.foreign restored.0 restored.1)
          (λ given long sound. apart_write_law site.volume image site.boot.disk site.boot.start given sound long on.apart) in
          write_ends g site (Restore device) 0 status old.disks new.disks quiet told tt refl (record { place = boot_place site.boot; bytes = bytes })
          (subst (λ (given : List ℕ). IsMadeBy site (Restore device) image (with_sector image (boot_place site.boot) given)) (sym restored.2) makes)
          (ends_as g (effect (words.Restore device)) 0 (Some (record { place = boot_place site.boot; bytes = bytes })) status left old new
          (restore_does image site.machine memory time root path found keys device site.boot at (Ok bytes) is) tells)
      by (Err refusal) is =
          still_ends g site (Restore device) (verdict_of (Err refusal)).status status old.disks new.disks quiet tt (restore-refused device refusal)
          (ends_as g (effect (words.Restore device)) (verdict_of (Err refusal)).status None status left old new
          (restore_does image site.machine memory time root path found keys device site.boot at (Err refusal) is) tells)

  on-site : (command : words.Command) → found_span image site.machine root path command ≡ Some site.boot → ReadsOn site image root command → Told command → Turns (turn_of memory keys command)
  on-site (words.Boot device dump) at reads tells = boot-turn device dump (some-ok (place_at image site.machine device) site.boot at) tells
  on-site (words.SetLine line) at reads tells =
      let device = shot-device image site.machine site.boot (conf_device image site.machine root path) at in shot-turn line device.0 device.1 device.2 tells
  on-site (words.Restore device) at reads tells = restore-turn device (some-ok (place_at image site.machine device) site.boot at) reads tells
  on-site words.Install at reads tells = absurd cc
  on-site words.Test at reads tells = absurd cc
  on-site (words.Query device) at reads tells = absurd cc

  on-none : (command : words.Command) → found_span image site.machine root path command ≡ None → command ≢ words.Install → Told command → Turns Look
  on-none command none other tells =
      let does = none_does image site.machine memory time root path found keys command none other in
      still_ends g site Look (effect command).verdict.status status old.disks new.disks quiet tt (λ is. cc)
      (ends_as g (effect command) (effect command).verdict.status None status left old new does tells)

-- ---- a part by itself

part_alone :
    (image : Image) (machine : Machine) (size time : ℕ) (text : List (List ℕ)) (lefts : List Left) (keys : List Key) (part : Part) → run_at text ≡ Ok (part ∷ [])
    → effects_of image machine size time text lefts keys ≡ part_effect machine size time image part (first_left image lefts) keys ∷ []
unfolding effects_of
part_alone image machine size time text lefts keys part is = rw is refl

pub turn_tells :
    {D : Type 0} → (g : Ghosts D) (machine : Machine) (memory time : ℕ) (text : List (List ℕ)) (lefts : List Left) (keys left : List Key) (status : ℕ) (old new : Scene D) (part : Part)
    → run_at text ≡ Ok (part ∷ []) → IsTold (g.past old.disks)
    → TellsRun g (effects_of (now (g.past old.disks)) machine memory time text lefts keys) status keys left old new
    → PartTurns (now (g.past old.disks)) machine memory keys part status (g.past old.disks) (g.past new.disks)
turn_tells g machine memory time text lefts keys left status old new part is told run site command same on quiet = by on
  where
    image : Image
    image = now (g.past old.disks)

    found : Left
    found = first_left (now (g.past old.disks)) lefts

    alone : Tells g (part_effect machine memory time (now (g.past old.disks)) part (first_left (now (g.past old.disks)) lefts) keys) status left old new
    alone =
        told_alone g (part_effect machine memory time (now (g.past old.disks)) part (first_left (now (g.past old.disks)) lefts) keys) status keys left old new
        (subst (λ parts. TellsRun g parts status keys left old new) (part_alone (now (g.past old.disks)) machine memory time text lefts keys part is) run)

    tells : Tells g (command_effect (now (g.past old.disks)) site.machine memory time part.root (conf_path part.config) part.command (first_left (now (g.past old.disks)) lefts) keys) status left old new
    tells = subst (λ (m : Machine). Tells g (command_effect (now (g.past old.disks)) m memory time part.root (conf_path part.config) part.command (first_left (now (g.past old.disks)) lefts) keys) status left old new) (sym same) alone

    by : IsOn site (now (g.past old.disks)) memory keys part command → LeavesTurn site command status (g.past old.disks) (g.past new.disks)
    by (OnSite at reads turn) =
        subst (λ (c : Command). LeavesTurn site c status (g.past old.disks) (g.past new.disks)) (sym turn)
        (on-site g site memory time part.root (conf_path part.config) (first_left (now (g.past old.disks)) lefts) keys left status old new told quiet part.command at reads tells)
    by (OnNone none other turn) =
        subst (λ (c : Command). LeavesTurn site c status (g.past old.disks) (g.past new.disks)) (sym turn)
        (on-none g site memory time part.root (conf_path part.config) (first_left (now (g.past old.disks)) lefts) keys left status old new told quiet part.command none other tells)
