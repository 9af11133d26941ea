-- Where bodies, lines and what boots come from, by induction on the list.
use Rattle.std.proofs.Common.{◌≡◌, ◌≢◌, ◌⊎◌, ℕ, Bool, true, false, List, [], ◌∷◌, Option, None, Some, option_map, unwrap_or, Result, Ok, Err, refl, sym, ap, subst, ◌∙◌, inl, inr}
use Rattle.std.specs.List.{AllByRecursion}
use Rattle.lilo_model.specs.Boot.{Boot, whole_boot, boot_by, foreign_boot}
use Rattle.lilo_model.specs.BootSector.{BootSector, MapFault, NotOurs, BadVersion, BadTable, BadLine, boot_at}
use Rattle.lilo_model.specs.Conf.{Config}
use Rattle.lilo_model.specs.DefaultLine.{DefaultLine, Empty}
use Rattle.lilo_model.specs.Devices.{Device}
use Rattle.lilo_model.specs.Disks.{Image, Machine, DiskSector, bytes_at}
use Rattle.lilo_model.specs.LineShots.{shot_line}
use Rattle.lilo_model.specs.Meant.{Menu, MenuEntry, meant, menu_of, menu_boot, menu_decision, decided}
use Rattle.lilo_model.specs.MinixFindNames.{Names}
use Rattle.lilo_model.specs.MinixNames.{names_in}
use Rattle.lilo_model.specs.Planned.{devices_in, first_sector}
use Rattle.lilo_model.specs.Prompt.{Key, Picked, Decision}
use Rattle.lilo_model.specs.Restored.{restored_sector}
use Rattle.lilo_model.specs.Settled.{says_foreign, is_foreign}
use Rattle.session_model.specs.Keeps.{IsLineApart}
use Rattle.session_model.specs.Session.{Turn, IsReached, AtFirst, ByStep}
use Rattle.session_model.specs.Site.{Site, boot_place}
use Rattle.session_model.specs.State.{Sector, body_in, line_in, KeepsBoot}
use Rattle.session_model.specs.Step.{Command, Install, Boot as boots, SetLine, Restore, Look, Change, Answer, Extent, Done, Undone, Either, Came, extent_of, Step, IsInstalled, IsRestored, HasLine}
use Rattle.session_laws.specs.Origins.{sets_body, sets_line, IsUncertain, MakesBody, MakesLine, Comes, BodyLaw, LineLaw, IsOfFirst, IsOfInstallation, IsOfRestored, BootsLaw, ForeignBootsLaw, DevicesAtEntryLaw}
use Rattle.session_laws.proofs.Bodies.{of-body, apart-of-body}
use Rattle.session_laws.proofs.Kept.{restored_law}
use Rattle.session_laws.proofs.StateBoots.{state_boots_law}

-- what holds of both holds of what came
of-both : (extent : Extent) (before after P : Type 0) → Came extent before after → (before → P) → (after → P) → P
of-both Done before after P came one two = two came
of-both Undone before after P came one two = one came
of-both Either before after P (inl came) one two = one came
of-both Either before after P (inr came) one two = two came

-- what came is before, and not done for certain, or after, and not undone for certain
or-done : (extent : Extent) (before after P Q : Type 0) → Came extent before after → (before → P) → (after → Q) → (P × (extent ≢ Done)) ⊎ (Q × (extent ≢ Undone))
or-done Done before after P Q came one two = inr (two came, λ e. absurd cc)
or-done Undone before after P Q came one two = inl (one came, λ e. absurd cc)
or-done Either before after P Q (inl came) one two = inl (one came, λ e. absurd cc)
or-done Either before after P Q (inr came) one two = inr (two came, λ e. absurd cc)

-- ---- where a view comes from

abbrev StaysOrMakes : {A : Type 0} → (Image → A) → (Command → Bool) → (Command → Image → Image → Type 0) → Command → Answer → Image → Image → Type 0
StaysOrMakes view sets makes command answer old new =
    ((view new ≡ view old) × ((sets command ≡ false) ⊎ (extent_of command answer ≢ Done)))
    ⊎ (makes command old new × (extent_of command answer ≢ Undone))

module _ {A : Type 0} (site : Site) (sets : Command → Bool) (makes : Command → Image → Image → Type 0) (view : Image → A)
    (each : (command : Command) (answer : Answer) (old new : Image) → Step site command answer old new → StaysOrMakes view sets makes command answer old new) where
  comes : (first : Image) (turns : List Turn) (last : Image) → IsReached site first turns last → Comes site sets makes view first turns last
  comes first _ _ AtFirst = record { later = []; earlier = []; split = refl; made = first; is = refl; none = tt; by = inl (refl, refl) }
  comes first _ _ (ByStep turns old turn new reached step) = by (each turn.command turn.answer old new step) (comes first turns old reached)
    where
      by : StaysOrMakes view sets makes turn.command turn.answer old new → Comes site sets makes view first turns old → Comes site sets makes view first (turn ∷ turns) new
      by (inl stays) before = record {
        later = turn ∷ before.later;
        earlier = before.earlier;
        split = ap (λ all. turn ∷ all) before.split;
        made = before.made;
        is = stays.0 ∙ before.is;
        none = (stays.1, before.none);
        by = before.by;
      }
      by (inr makes) before = record {
        later = [];
        earlier = turn ∷ turns;
        split = refl;
        made = new;
        is = refl;
        none = tt;
        by = inr (record { turn = turn; before = turns; old = old; are = refl; reached = reached; makes = makes.0; may = makes.1 });
      }

abbrev OrMakes : Type 0 → Extent → Type 0 → Type 0
OrMakes same extent made = (same × (extent ≢ Done)) ⊎ (made × (extent ≢ Undone))

as-uncertain : (same lost made : Type 0) (extent : Extent) → OrMakes same extent made → (same × (lost ⊎ (extent ≢ Done))) ⊎ (made × (extent ≢ Undone))
as-uncertain same lost made extent (inl stays) = inl (stays.0, inr stays.1)
as-uncertain same lost made extent (inr makes) = inr makes

module _ (site : Site) where
  body-by : (command : Command) (answer : Answer) (old new : Image) → Step site command answer old new → StaysOrMakes (body_in site) sets_body (MakesBody site) command answer old new
  body-by (Install config device) answer old new step =
      as-uncertain _ _ _ _ (or-done (extent_of (Install config device) answer) _ _ (body_in site new ≡ body_in site old) (IsInstalled site config device old new) step.0 (λ keeps. keeps.body) (λ made. made))
  body-by (Restore device) answer old new step =
      as-uncertain _ _ _ _ (or-done (extent_of (Restore device) answer) _ _ (body_in site new ≡ body_in site old) (IsRestored site device old new) step (λ same. same.boots.body) (λ made. made))
  body-by (boots keys memory) answer old new step = inl (of-both (extent_of (boots keys memory) answer) _ _ (body_in site new ≡ body_in site old) step (λ same. same.boots.body) (λ has. has.body), inl refl)
  body-by (SetLine text) answer old new step = inl (of-both (extent_of (SetLine text) answer) _ _ (body_in site new ≡ body_in site old) step (λ same. same.boots.body) (λ has. has.body), inl refl)
  body-by Look answer old new step = inl (step.boots.body, inl refl)
  body-by (Change change) answer old new step = inl (of-both (extent_of (Change change) answer) _ _ (body_in site new ≡ body_in site old) step (λ same. same.boots.body) (λ has. has.boots.body), inl refl)

  line-by : (command : Command) (answer : Answer) (old new : Image) → Step site command answer old new → StaysOrMakes (line_in site) sets_line (MakesLine site) command answer old new
  line-by (Install config device) answer old new step =
      as-uncertain _ _ _ _ (or-done (extent_of (Install config device) answer) _ _ (line_in site new ≡ line_in site old) (IsInstalled site config device old new) step.0 (λ keeps. keeps.line) (λ made. made))
  line-by (Restore device) answer old new step =
      as-uncertain _ _ _ _ (or-done (extent_of (Restore device) answer) _ _ (line_in site new ≡ line_in site old) (IsRestored site device old new) step (λ same. same.boots.line) (λ made. made))
  line-by (boots keys memory) answer old new step =
      as-uncertain _ _ _ _ (or-done (extent_of (boots keys memory) answer) _ _ (line_in site new ≡ line_in site old) (HasLine site (whole_boot old site.machine site.boot keys memory).line old new) step (λ same. same.boots.line) (λ made. made))
  line-by (SetLine text) answer old new step =
      as-uncertain _ _ _ _ (or-done (extent_of (SetLine text) answer) _ _ (line_in site new ≡ line_in site old) (HasLine site (Some (shot_line text)) old new) step (λ same. same.boots.line) (λ made. made))
  line-by Look answer old new step = inl (step.boots.line, inl refl)
  line-by (Change change) answer old new step = inl (of-both (extent_of (Change change) answer) _ _ (line_in site new ≡ line_in site old) step (λ same. same.boots.line) (λ has. has.boots.line), inl refl)

pub body_law : BodyLaw
body_law site first turns last reached = comes site sets_body (MakesBody site) (body_in site) (body-by site) first turns last reached

pub line_law : LineLaw
line_law site first turns last reached = comes site sets_line (MakesLine site) (line_in site) (line-by site) first turns last reached

-- ---- a boot as is meant leaves a line

decided-line : (menu : Menu) (line : DefaultLine) (decision : Decision) (memory : ℕ) (picked : Option Picked) (entry : Option MenuEntry)
    → (left : DefaultLine) × ((decided menu line decision memory picked entry).line ≡ Some left)
decided-line menu line decision memory (Some picked) (Some entry) = (decision.line, refl)
decided-line menu line decision memory (Some picked) None = (line, refl)
decided-line menu line decision memory None entry = (line, refl)

meant-line : (config : Config) (names : Names) (devices : Device → List ℕ) (line : DefaultLine) (keys : List Key) (memory : ℕ)
    → (left : DefaultLine) × ((meant config names devices line keys memory).line ≡ Some left)
unfolding meant menu_boot
meant-line config names devices line keys memory =
    decided-line (menu_of config names devices) line (menu_decision (menu_of config names devices) line keys) memory _ _

-- ---- another system's sector

foreign-by : (image : Image) (machine : Machine) (bytes : List ℕ) (keys : List Key) (memory : ℕ) (read : Result BootSector MapFault) → says_foreign read ≡ true
    → boot_by image machine bytes keys memory read ≡ foreign_boot bytes keys
foreign-by image machine bytes keys memory (Ok boot) is = cc
foreign-by image machine bytes keys memory (Err NotOurs) is = refl
foreign-by image machine bytes keys memory (Err (BadVersion version)) is = refl
foreign-by image machine bytes keys memory (Err (BadTable entry)) is = cc
foreign-by image machine bytes keys memory (Err BadLine) is = cc

pub foreign_boots_law : ForeignBootsLaw
unfolding whole_boot is_foreign
foreign_boots_law site last bytes body foreign keys memory =
    let all : AllByRecursion (λ (sector : Sector). bytes_at last sector.place ≡ sector.bytes) (record { place = boot_place site; bytes = bytes } ∷ []) =
    subst (λ (sectors : List Sector). AllByRecursion (λ (sector : Sector). bytes_at last sector.place ≡ sector.bytes) sectors) body (of-body site last) in
    ap (λ (present : List ℕ). boot_by last site.machine present keys memory (boot_at present)) all.0
    ∙ foreign-by last site.machine bytes keys memory (boot_at bytes) foreign

-- ---- what boots

-- how the line goes on where the body stays
abbrev LineMoves : Site → Image → Image → Type 0
LineMoves site old new =
    (line_in site new ≡ line_in site old)
    ⊎ (((line : DefaultLine) × (line_in site new ≡ Some line))
    ⊎ ((keys : List Key) × (memory : ℕ) × (line_in site new ≡ (whole_boot old site.machine site.boot keys memory).line)))

abbrev Moves : Site → Image → Image → Type 0
Moves site old new = (body_in site new ≡ body_in site old) × LineMoves site old new

module _ (site : Site) where
  of-kept : (old new : Image) → KeepsBoot site old new → Moves site old new
  of-kept old new keeps = (keeps.body, inl keeps.line)

  moves-by : (command : Command) (answer : Answer) (old new : Image) → Step site command answer old new
      → (Moves site old new × ((sets_body command ≡ false) ⊎ (extent_of command answer ≢ Done))) ⊎ (MakesBody site command old new × (extent_of command answer ≢ Undone))
  moves-by (Install config device) answer old new step =
      as-uncertain _ _ _ _ (or-done (extent_of (Install config device) answer) _ _ (Moves site old new) (IsInstalled site config device old new) step.0 (of-kept old new) (λ made. made))
  moves-by (Restore device) answer old new step =
      as-uncertain _ _ _ _ (or-done (extent_of (Restore device) answer) _ _ (Moves site old new) (IsRestored site device old new) step (λ same. of-kept old new same.boots) (λ made. made))
  moves-by (boots keys memory) answer old new step =
      inl (of-both (extent_of (boots keys memory) answer) _ _ (Moves site old new) step (λ same. of-kept old new same.boots) (λ has. (has.body, inr (inr (keys, memory, has.line)))), inl refl)
  moves-by (SetLine text) answer old new step =
      inl (of-both (extent_of (SetLine text) answer) _ _ (Moves site old new) step (λ same. of-kept old new same.boots) (λ has. (has.body, inr (inl (shot_line text, has.line)))), inl refl)
  moves-by Look answer old new step = inl (of-kept old new step.boots, inl refl)
  moves-by (Change change) answer old new step =
      inl (of-both (extent_of (Change change) answer) _ _ (Moves site old new) step (λ same. of-kept old new same.boots) (λ has. of-kept old new has.boots), inl refl)

  -- an image with a restored body boots that
  restored-boots : (device : Device) (old made last : Image) (restored : IsRestored site device old made) → body_in site last ≡ body_in site made
      → (keys : List Key) (memory : ℕ) → whole_boot last site.machine site.boot keys memory ≡ foreign_boot (restored_sector restored.backup (bytes_at old (boot_place site))) keys
  restored-boots device old made last restored same keys memory =
      foreign_boots_law site last (restored_sector restored.backup (bytes_at old (boot_place site))) (same ∙ restored.body)
      (restored_law restored.backup (bytes_at old (boot_place site)) restored.long ∙ restored.foreign) keys memory

  -- an image with the first one's body boots as each other that has it and the same line
  first-boots : (first last : Image) → body_in site last ≡ body_in site first → IsLineApart site first → (c : Image) → body_in site c ≡ body_in site first → line_in site c ≡ line_in site last
      → (keys : List Key) (memory : ℕ) → whole_boot last site.machine site.boot keys memory ≡ whole_boot c site.machine site.boot keys memory
  first-boots first last same apart c body line keys memory =
      state_boots_law site c last (apart-of-body site first c apart body) (same ∙ sym body) (sym line) keys memory

  module _ (first : Image) (turns : List Turn) (old : Image) (turn : Turn) (new : Image) (moves : Moves site old new) (uncertain : IsUncertain sets_body turn) where
    first-on : IsOfFirst site first turns old → IsOfFirst site first (turn ∷ turns) new
    first-on was = record {
      body = moves.0 ∙ was.body;
      none = (uncertain, was.none);
      boots = λ apart c body line keys memory. first-boots first new (moves.0 ∙ was.body) apart c body line keys memory;
    }

    restored-on : IsOfRestored site first turns old → IsOfRestored site first (turn ∷ turns) new
    restored-on was = record {
      turn = was.turn;
      device = was.device;
      restores = was.restores;
      later = turn ∷ was.later;
      before = was.before;
      split = ap (λ all. turn ∷ all) was.split;
      old = was.old;
      made = was.made;
      reached = was.reached;
      restored = was.restored;
      may = was.may;
      none = (uncertain, was.none);
      body = moves.0 ∙ was.body;
      boots = restored-boots was.device was.old was.made new was.restored (moves.0 ∙ was.body);
    }

    installed-on : IsOfInstallation site first turns old → IsOfInstallation site first (turn ∷ turns) new
    installed-on was = with (line-on moves.1)
      where
        line-on : LineMoves site old new → (line : DefaultLine) × (line_in site new ≡ Some line)
        line-on (inl same) = (was.line, same ∙ was.has)
        line-on (inr (inl set)) = set
        line-on (inr (inr booted)) =
            let left = meant-line was.config (names_in site.volume was.committed.settled) (devices_in was.committed.settled site.machine) was.line booted.0 booted.1 in
            (left.0, booted.2 ∙ (ap (λ (boot : Boot). boot.line) (was.boots booted.0 booted.1) ∙ left.1))

        with : (line : DefaultLine) × (line_in site new ≡ Some line) → IsOfInstallation site first (turn ∷ turns) new
        with has = record {
          turn = was.turn;
          config = was.config;
          device = was.device;
          installs = was.installs;
          later = turn ∷ was.later;
          before = was.before;
          split = ap (λ all. turn ∷ all) was.split;
          old = was.old;
          made = was.made;
          reached = was.reached;
          committed = was.committed;
          may = was.may;
          none = (uncertain, was.none);
          body = moves.0 ∙ was.body;
          line = has.0;
          has = has.1;
          boots = was.committed.boots new has.0 (moves.0 ∙ was.body) has.1;
        }

  abbrev IsOf : Image → List Turn → Image → Type 0
  IsOf first turns last = IsOfFirst site first turns last ⊎ (IsOfInstallation site first turns last ⊎ IsOfRestored site first turns last)

  -- a turn that made the body
  makes-on : (first : Image) (turns : List Turn) (old : Image) (turn : Turn) (new : Image) → IsReached site first turns old
      → (command : Command) → turn.command ≡ command → MakesBody site command old new → extent_of turn.command turn.answer ≢ Undone → IsOf first (turn ∷ turns) new
  makes-on first turns old turn new reached (Install config device) is makes may = inr (inl (record {
    turn = turn;
    config = config;
    device = device;
    installs = is;
    later = [];
    before = turns;
    split = refl;
    old = old;
    made = new;
    reached = reached;
    committed = makes.committed;
    may = may;
    none = tt;
    body = refl;
    line = Empty;
    has = makes.committed.line;
    boots = makes.committed.boots new Empty refl makes.committed.line;
  }))
  makes-on first turns old turn new reached (Restore device) is makes may = inr (inr (record {
    turn = turn;
    device = device;
    restores = is;
    later = [];
    before = turns;
    split = refl;
    old = old;
    made = new;
    reached = reached;
    restored = makes;
    may = may;
    none = tt;
    body = refl;
    boots = restored-boots device old new new makes refl;
  }))
  makes-on first turns old turn new reached (boots keys memory) is makes may = absurd makes
  makes-on first turns old turn new reached (SetLine text) is makes may = absurd makes
  makes-on first turns old turn new reached Look is makes may = absurd makes
  makes-on first turns old turn new reached (Change change) is makes may = absurd makes

  known : (first : Image) (turns : List Turn) (last : Image) → IsReached site first turns last → IsOf first turns last
  known first _ _ AtFirst = inl (record { body = refl; none = tt; boots = first-boots first first refl })
  known first _ _ (ByStep turns old turn new reached step) = by (moves-by turn.command turn.answer old new step) (known first turns old reached)
    where
      by : (Moves site old new × ((sets_body turn.command ≡ false) ⊎ (extent_of turn.command turn.answer ≢ Done)))
          ⊎ (MakesBody site turn.command old new × (extent_of turn.command turn.answer ≢ Undone))
          → IsOf first turns old → IsOf first (turn ∷ turns) new
      by (inr makes) was = makes-on first turns old turn new reached turn.command refl makes.0 makes.1
      by (inl moves) (inl was) = inl (first-on first turns old turn new moves.0 moves.1 was)
      by (inl moves) (inr (inl was)) = inr (inl (installed-on first turns old turn new moves.0 moves.1 was))
      by (inl moves) (inr (inr was)) = inr (inr (restored-on first turns old turn new moves.0 moves.1 was))

pub boots_law : BootsLaw
boots_law site first turns last reached = known site first turns last reached

-- ---- devices

same-bytes : (old new : Image) (place : Option DiskSector) → ((at : DiskSector) → place ≡ Some at → bytes_at new at ≡ bytes_at old at)
    → unwrap_or (option_map (bytes_at new) place) [] ≡ unwrap_or (option_map (bytes_at old) place) []
same-bytes old new None same = refl
same-bytes old new (Some at) same = same at refl

pub devices_at_entry_law : DevicesAtEntryLaw
unfolding devices_in
devices_at_entry_law site config device old made committed other stays apart =
    ap (λ (place : Option DiskSector). unwrap_or (option_map (bytes_at committed.settled) place) []) (stays committed.settled committed.leaves.outside)
    ∙ same-bytes old committed.settled (first_sector old site.machine other) (λ at is. committed.leaves.outside at.disk at.sector (apart at is))
