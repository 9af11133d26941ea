-- What a command leaves that writes one sector, or none.
use Rattle.std.proofs.Common.{◌≡◌, ◌≢◌, ◌≤◌, ℕ, true, List, [], ◌∷◌, ◌++◌, length, codes, Option, Some, refl, sym, ap, subst, ◌∙◌, arith, inl, inr}
use Rattle.disk_trait.specs.Past.{Past}
use Rattle.disk_trait.specs.Moments.{now}
use Rattle.disk_trait.proofs.MomentLemmas.{leaves_none, leaves_weaker}
use Rattle.lilo_model.specs.Boot.{whole_boot}
use Rattle.lilo_model.specs.Bytes.{bytes16}
use Rattle.lilo_model.specs.DefaultLine.{DefaultLine, Empty, Once, Kept}
use Rattle.lilo_model.specs.Devices.{Device}
use Rattle.lilo_model.specs.Disks.{Image, DiskSector, bytes_at, with_sector}
use Rattle.lilo_model.specs.LineSector.{line_bytes, line_capacity}
use Rattle.lilo_model.specs.LineShots.{shot_line}
use Rattle.lilo_model.specs.Meant.{file_of}
use Rattle.lilo_model.specs.MinixNames.{names_in, IsSound}
use Rattle.lilo_model.specs.NamePlaces.{default_backup}
use Rattle.lilo_model.specs.Restored.{restored_sector}
use Rattle.lilo_model.specs.Settled.{is_foreign}
use Rattle.map_again_laws.specs.Fits.{IsLine}
use Rattle.map_again_laws.proofs.Parts.{length-filled}
use Rattle.map_again_laws.proofs.Texts.{line_again}
use Rattle.minix_change_laws.specs.Beside.{SoundAsIn}
use Rattle.session_model.specs.Keeps.{Keeps, IsHeld}
use Rattle.session_model.specs.Session.{IsLeft}
use Rattle.session_model.specs.Site.{Site, IsBootApart, boot_place}
use Rattle.session_model.specs.State.{SaysLine, line_place, IsSame}
use Rattle.session_model.specs.Step.{Command, Install, Boot, SetLine, Restore, Look, Change, Answer, Stopped, Answered, Extent, Done, Undone, Either, Came, extent_of, HasLine, IsRestored, Step}
use Rattle.session_laws.specs.Given.{with_restored}
use Rattle.session_laws.specs.Sessions.{LeavesTurn}
use Rattle.session_laws.specs.Turns.{WritesOne, WritesNoFile, IsMadeBy, ReadsSector, UnchangedLaw, BootStaysLaw, BootMakesLaw, ShotMakesLaw, RestoreMakesLaw, StillTurnLaw, OneTurnLaw}
use Rattle.session_laws.proofs.Bodies.{with-self}
use Rattle.session_laws.proofs.GivenLines.{given-fits, given_line_law}
use Rattle.session_laws.proofs.Kept.{restored_law}
use Rattle.session_laws.proofs.LineWrites.{line_write_law, held_line_law}
use Rattle.session_laws.proofs.PresentLines.{present_line_law}
use Rattle.session_laws.proofs.Restores.{backup_law, restore_law, restored-long}

-- ---- extents

before-came : (extent : Extent) (before after : Type 0) → extent ≢ Done → before → Came extent before after
before-came Done before after other is = absurd (other refl)
before-came Undone before after other is = is
before-came Either before after other is = inl is

after-came : (extent : Extent) (before after : Type 0) → extent ≢ Undone → after → Came extent before after
after-came Done before after other is = is
after-came Undone before after other is = absurd (other refl)
after-came Either before after other is = inr is

-- ---- nothing was written

same : (site : Site) (image : Image) → IsSame site image image
same site image = record { boots = record { body = refl; line = refl }; names = λ path. refl }

unchanged-step : (site : Site) (command : Command) (answer : Answer) (image : Image) → WritesNoFile command → extent_of command answer ≢ Done → Step site command answer image image
unchanged-step site (Install config device) answer image one other = absurd one
unchanged-step site (Boot keys memory) answer image one other =
    before-came (extent_of (Boot keys memory) answer) (IsSame site image image) (HasLine site (whole_boot image site.machine site.boot keys memory).line image image) other (same site image)
unchanged-step site (SetLine text) answer image one other =
    before-came (extent_of (SetLine text) answer) (IsSame site image image) (HasLine site (Some (shot_line text)) image image) other (same site image)
unchanged-step site (Restore device) answer image one other =
    before-came (extent_of (Restore device) answer) (IsSame site image image) (IsRestored site device image image) other (same site image)
unchanged-step site Look answer image one other = same site image
unchanged-step site (Change change) answer image one other = absurd one

pub unchanged_law : UnchangedLaw
unchanged_law site command answer image one other = record {
  keeps = λ keeps. keeps;
  step = λ keeps. unchanged-step site command answer image one other;
  held = λ keeps text leaves held. held;
}

-- ---- a line was written

pub boot_stays_law : BootStaysLaw
boot_stays_law site image keys memory is answer some = record {
  keeps = λ keeps. keeps;
  step = λ keeps.
      after-came (extent_of (Boot keys memory) answer) (IsSame site image image) (HasLine site (whole_boot image site.machine site.boot keys memory).line image image) some
      (subst (λ (line : Option DefaultLine). HasLine site line image image) (sym is) (present_line_law site image keeps));
  held = λ keeps text leaves held. held;
}

-- the sector of a line that fits has 512 bytes
line-long : (line : DefaultLine) → IsLine line → length (line_bytes line) ≡ 512
unfolding line_bytes
line-long Empty fits = refl
line-long (Once text) fits = length-filled 512 (codes "LINE" ++ bytes16 1 ++ bytes16 (length text) ++ text) (omega (arith, fits.1))
line-long (Kept text) fits = length-filled 512 (codes "LINE" ++ bytes16 2 ++ bytes16 (length text) ++ text) (omega (arith, fits.1))

-- a line that fits, in the line's sector
module _ (site : Site) (image : Image) (place : DiskSector) (line : DefaultLine) (is : line_place site image ≡ Some place) where
  abbrev with_line : Image
  with_line = with_sector image place (line_bytes line)

  written : Keeps site image → length (line_bytes line) ≡ 512 → SaysLine site image (line_bytes line) line
      → (Keeps site with_line × HasLine site (Some line) image with_line) × ((text : List ℕ) → IsHeld site text image → IsHeld site text with_line)
  written keeps long says =
      (line_write_law site image place (line_bytes line) line keeps is long says, λ text held. held_line_law site image place (line_bytes line) line text keeps is long says held)

pub boot_makes_law : BootMakesLaw
boot_makes_law site image keys memory place line is gives answer some = record {
  keeps = λ keeps. (left keeps).0.0;
  step = λ keeps.
      after-came (extent_of (Boot keys memory) answer) (IsSame site image new) (HasLine site (whole_boot image site.machine site.boot keys memory).line image new) some
      (subst (λ (line : Option DefaultLine). HasLine site line image new) (sym gives) (left keeps).0.1);
  held = λ keeps text leaves held. (left keeps).1 text held;
}
  where
    new : Image
    new = with_sector image place (line_bytes line)

    left : Keeps site image → (Keeps site (with_sector image place (line_bytes line)) × HasLine site (Some line) image (with_sector image place (line_bytes line)))
        × ((text : List ℕ) → IsHeld site text image → IsHeld site text (with_sector image place (line_bytes line)))
    left keeps = written site image place line is keeps (line-long line (given-fits site image keys memory keeps.whole line gives)) (given_line_law site image keys memory line keeps.whole gives)

shot-fits : (text : List ℕ) → length text ≤ line_capacity → IsLine (shot_line text)
shot-fits [] few = tt
shot-fits (byte ∷ text) few = (omega arith, omega (arith, few))

pub shot_makes_law : ShotMakesLaw
shot_makes_law site image text place is few answer some = record {
  keeps = λ keeps. (left keeps).0.0;
  step = λ keeps. after-came (extent_of (SetLine text) answer) (IsSame site image (with_line site image place (shot_line text) is)) (HasLine site (Some (shot_line text)) image (with_line site image place (shot_line text) is)) some (left keeps).0.1;
  held = λ keeps other leaves held. (left keeps).1 other held;
}
  where
    left : Keeps site image → (Keeps site (with_sector image place (line_bytes (shot_line text))) × HasLine site (Some (shot_line text)) image (with_sector image place (line_bytes (shot_line text))))
        × ((other : List ℕ) → IsHeld site other image → IsHeld site other (with_sector image place (line_bytes (shot_line text))))
    left keeps = written site image place (shot_line text) is keeps (line-long (shot_line text) (shot-fits text few)) (λ boot says. line_again (shot_line text) (shot-fits text few))

-- ---- a boot sector was restored

module _ (site : Site) (device : Device) (image : Image) (backup : List ℕ) (apart : IsBootApart site) (reads : ReadsSector site.volume image (default_backup device) backup)
    (foreign : is_foreign backup ≡ true)
    (sound : (bytes : List ℕ) → length bytes ≡ 512 → IsSound site.volume image → SoundAsIn site.volume image (with_sector image (boot_place site) bytes)) where
  abbrev restored : Image
  restored = with_restored site image backup

  named : Keeps site image → (file_of (names_in site.volume image) (default_backup device) ≡ Some backup) × (length backup ≡ 512)
  named keeps = backup_law site.volume image (default_backup device) reads.number backup keeps.sound reads.found reads.regular reads.size reads.read

  left : Keeps site image → Keeps site restored × IsRestored site device image restored
  left keeps =
      let backup-is = named keeps in
      restore_law site device image backup apart keeps backup-is.0 backup-is.1 foreign
      (sound (restored_sector backup (bytes_at image (boot_place site))) (restored-long backup (bytes_at image (boot_place site)) backup-is.1) keeps.sound)

  is-foreign : Keeps site image → is_foreign (restored site.boot.disk site.boot.start) ≡ true
  is-foreign keeps =
      ap is_foreign (with-self image (boot_place site) (restored_sector backup (bytes_at image (boot_place site))))
      ∙ restored_law backup (bytes_at image (boot_place site)) (named keeps).1 ∙ foreign

  restore-made : IsMadeBy site (Restore device) image restored
  restore-made answer some = record {
    keeps = λ keeps. (left keeps).0;
    step = λ keeps. after-came (extent_of (Restore device) answer) (IsSame site image restored) (IsRestored site device image restored) some (left keeps).1;
    held = λ keeps text leaves held. inl (is-foreign keeps);
  }

pub restore_makes_law : RestoreMakesLaw
restore_makes_law site device image backup apart reads foreign sound = restore-made site device image backup apart reads foreign sound

-- ---- calls

pub still_turn_law : StillTurnLaw
still_turn_law site command status old new one other quiet is =
    subst (λ (past : Option Past). LeavesTurn site command status old past) (sym is) (record {
      any_moment = leaves_none old (IsLeft site (record { command = command; answer = Stopped }) (now old)) (λ c may. at Stopped (stopped command one) c (quiet c may));
      after = λ c may. at (Answered status) other c (quiet c may);
    })
  where
    stopped : (command : Command) → WritesNoFile command → extent_of command Stopped ≢ Done
    stopped (Install config device) one = absurd one
    stopped (Boot keys memory) one = λ is. cc
    stopped (SetLine text) one = λ is. cc
    stopped (Restore device) one = λ is. cc
    stopped Look one = λ is. cc
    stopped (Change change) one = absurd one

    at : (answer : Answer) → extent_of command answer ≢ Done → (c : Image) → c ≡ now old → IsLeft site (record { command = command; answer = answer }) (now old) c
    at answer other c is =
        subst (IsLeft site (record { command = command; answer = answer }) (now old)) (sym is) (unchanged_law site command answer (now old) one other)

module _ (site : Site) (command : Command) (old new : Option Past) (made : Image) (one : WritesOne command) (makes : IsMadeBy site command (now old) made) where
  no-file : (command : Command) → WritesOne command → WritesNoFile command
  no-file (Install config device) one = one
  no-file (Boot keys memory) one = one
  no-file (SetLine text) one = one
  no-file (Restore device) one = one
  no-file Look one = absurd one
  no-file (Change change) one = one

  stopped : (command : Command) → WritesOne command → extent_of command Stopped ≡ Either
  stopped (Install config device) one = absurd one
  stopped (Boot keys memory) one = refl
  stopped (SetLine text) one = refl
  stopped (Restore device) one = refl
  stopped Look one = absurd one
  stopped (Change change) one = absurd one

  -- how an image is left, by which it is
  as-before : (answer : Answer) → extent_of command answer ≢ Done → (c : Image) → c ≡ now old → IsLeft site (record { command = command; answer = answer }) (now old) c
  as-before answer other c is =
      subst (IsLeft site (record { command = command; answer = answer }) (now old)) (sym is) (unchanged_law site command answer (now old) (no-file command one) other)

  as-made : (answer : Answer) → extent_of command answer ≢ Undone → (c : Image) → c ≡ made → IsLeft site (record { command = command; answer = answer }) (now old) c
  as-made answer some c is = subst (IsLeft site (record { command = command; answer = answer }) (now old)) (sym is) (makes answer some)

  left-by : (answer : Answer) (extent : Extent) → extent_of command answer ≡ extent → (c : Image) → Came extent (c ≡ now old) (c ≡ made)
      → IsLeft site (record { command = command; answer = answer }) (now old) c
  left-by answer Done is c came = as-made answer (λ other. let clash : Done ≡ Undone = sym is ∙ other in cc) c came
  left-by answer Undone is c came = as-before answer (λ other. let clash : Undone ≡ Done = sym is ∙ other in cc) c came
  left-by answer Either is c (inl came) = as-before answer (λ other. let clash : Either ≡ Done = sym is ∙ other in cc) c came
  left-by answer Either is c (inr came) = as-made answer (λ other. let clash : Either ≡ Undone = sym is ∙ other in cc) c came

pub one_turn_law : OneTurnLaw
one_turn_law site command status old new made one makes leaves = record {
  any_moment = leaves_weaker old new _ (IsLeft site (record { command = command; answer = Stopped }) (now old)) leaves.any_moment
      (λ c of. left-by site command old new made one makes Stopped Either (stopped site command old new made one makes command one) c of);
  after = λ c may. left-by site command old new made one makes (Answered status) (extent_of command (Answered status)) refl c (leaves.after c may);
}
