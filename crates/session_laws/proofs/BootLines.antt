-- The line that a boot gives is the present one, or one that the prompt decided.
use Rattle.std.proofs.Common.{◌≡◌, ◌⊎◌, ℕ, Bool, true, false, List, map, Option, None, Some, Result, Ok, Err, refl, sym, ap, ◌∙◌, inl, inr}
use Rattle.std.proofs.lemmas.Slice.Eq.{bytes_eq-Decides}
use Rattle.std.specs.Option.{option_and_then}
use Rattle.std.specs.Result.{result_ok}
use Rattle.lilo_model.specs.Checks.{◌>>=◌, each}
use Rattle.lilo_model.specs.Disks.{Image, Machine}
use Rattle.lilo_model.specs.Slots as slots
use Rattle.lilo_model.specs.BootSector.{MapFault, NotOurs, BadVersion, BadTable, BadLine, BootSector, boot_at, is_bootable}
use Rattle.lilo_model.specs.Table.{Descriptor, password_flag, table_at}
use Rattle.lilo_model.specs.LineSector.{line_at, is_same_line}
use Rattle.lilo_model.specs.DefaultLine.{DefaultLine, Empty, Once, Kept}
use Rattle.lilo_model.specs.Prompt.{Key, Picked, Decision, Opening}
use Rattle.lilo_model.specs.Section.{Content, SectionFault}
use Rattle.lilo_model.specs.Reason.{Reason}
use Rattle.lilo_model.specs.Boot.{Boot, Ending, foreign_boot, slot_bytes_at, optional_at, extra_slot, entries_of, MapSectors, map_sectors, present_line, password_at, GoodMap, good_map, message_of, message_stop, message_check, middle_of, image_with_line, ended_boot, entry_ending, chosen_boot, picked_entry, decided_boot, decision_at, opening_at, prompted_boot, map_boot, boot_by, whole_boot}
use Rattle.boot_laws.proofs.Checks.{bind-given}
use Rattle.session_model.specs.Site.{Site}
use Rattle.session_model.specs.State.{line_by, line_in}
use Rattle.session_laws.specs.Given.{IsOther, BootLineLaw}

-- ---- what is read before the prompt

-- what is read behind the line and the table
abbrev sectors_behind : Image → Machine → BootSector → List ℕ → List (List ℕ) → Result MapSectors slots.AddressFault
sectors_behind image machine boot line sectors =
    each (map (λ entry. optional_at image machine (extra_slot password_flag entry)) (entries_of (table_at boot.names sectors))) >>= λ extras.
    Ok (record { line = line; table = table_at boot.names sectors; extras = extras })

-- the line's sector that was read is there
pub line-read : (image : Image) (machine : Machine) (boot : BootSector) (found : MapSectors) → map_sectors image machine boot ≡ Ok found → slot_bytes_at image machine boot.line ≡ Ok found.line
unfolding map_sectors
line-read image machine boot found is =
    let line = bind-given (slot_bytes_at image machine boot.line) (λ line. each (map (slot_bytes_at image machine) boot.table) >>= sectors_behind image machine boot line) found is in
    let sectors = bind-given (each (map (slot_bytes_at image machine) boot.table)) (sectors_behind image machine boot line.0) found line.2 in
    let extras = bind-given (each (map (λ entry. optional_at image machine (extra_slot password_flag entry)) (entries_of (table_at boot.names sectors.0)))) (λ extras. Ok (record { line = line.0; table = table_at boot.names sectors.0; extras = extras })) found sectors.2 in
    let whole : ◌≡◌ {A = MapSectors} (record { line = line.0; table = table_at boot.names sectors.0; extras = extras.0 }) found = cc in
    line.1 ∙ ap (λ (found : MapSectors). Ok found.line) {x = record { line = line.0; table = table_at boot.names sectors.0; extras = extras.0 }} whole

-- the table that was read is what some sectors say
pub table-read : (image : Image) (machine : Machine) (boot : BootSector) (found : MapSectors) → map_sectors image machine boot ≡ Ok found
    → (sectors : List (List ℕ)) × (found.table ≡ table_at boot.names sectors)
unfolding map_sectors
table-read image machine boot found is =
    let line = bind-given (slot_bytes_at image machine boot.line) (λ line. each (map (slot_bytes_at image machine) boot.table) >>= sectors_behind image machine boot line) found is in
    let sectors = bind-given (each (map (slot_bytes_at image machine) boot.table)) (sectors_behind image machine boot line.0) found line.2 in
    let extras = bind-given (each (map (λ entry. optional_at image machine (extra_slot password_flag entry)) (entries_of (table_at boot.names sectors.0)))) (λ extras. Ok (record { line = line.0; table = table_at boot.names sectors.0; extras = extras })) found sectors.2 in
    let whole : ◌≡◌ {A = MapSectors} (record { line = line.0; table = table_at boot.names sectors.0; extras = extras.0 }) found = cc in
    (sectors.0, sym (ap (λ (found : MapSectors). found.table) {x = record { line = line.0; table = table_at boot.names sectors.0; extras = extras.0 }} whole))

-- a good map's line is what that sector says
pub good-line : (sectors : MapSectors) (good : GoodMap) → good_map sectors ≡ Ok good → line_at sectors.line ≡ Ok good.line
unfolding good_map
good-line sectors good is =
    let line = bind-given (line_at sectors.line) (λ line. sectors.table >>= λ entries. each (map password_at sectors.extras) >>= λ passwords. Ok (record { line = line; entries = entries; passwords = passwords })) good is in
    let entries = bind-given sectors.table (λ entries. each (map password_at sectors.extras) >>= λ passwords. Ok (record { line = line.0; entries = entries; passwords = passwords })) good line.2 in
    let passwords = bind-given (each (map password_at sectors.extras)) (λ passwords. Ok (record { line = line.0; entries = entries.0; passwords = passwords })) good entries.2 in
    let whole : ◌≡◌ {A = GoodMap} (record { line = line.0; entries = entries.0; passwords = passwords.0 }) good = cc in
    line.1 ∙ ap (λ (good : GoodMap). Ok good.line) {x = record { line = line.0; entries = entries.0; passwords = passwords.0 }} whole

-- ---- the boot

-- where a message refuses the boot, the line stays
check-line : (line : DefaultLine) (opens : Option Opening) (message : Option Content) (ended : Boot) → message_check line opens message ≡ Err ended → ended.line ≡ Some line
check-line line None message ended is = absurd cc
check-line line (Some opens) None ended is = absurd cc
check-line line (Some opens) (Some message) ended is = by message.refusal is
  where
    by : (fault : Option SectionFault) → message_stop line opens message fault ≡ Err ended → ended.line ≡ Some line
    by None is = absurd cc
    by (Some fault) is = cc

module _ (image : Image) (machine : Machine) where
  ended-line : (shown : List ℕ) (line : DefaultLine) (left : List Key) (ending : Result Ending Reason) → (ended_boot shown line left ending).line ≡ Some line
  ended-line shown line left (Ok ending) = refl
  ended-line shown line left (Err reason) = refl

  chosen-line : (boot : BootSector) (line : DefaultLine) (entry : Descriptor) (picked : Picked) (decision : Decision) (memory : ℕ) (middle : Result (List ℕ) Reason)
      → ((chosen_boot image machine boot line entry picked decision memory middle).line ≡ Some line) ⊎ ((chosen_boot image machine boot line entry picked decision memory middle).line ≡ Some decision.line)
  unfolding chosen_boot
  chosen-line boot line entry picked decision memory (Err reason) = inl refl
  chosen-line boot line entry picked decision memory (Ok middle) =
      inr (ended-line _ decision.line decision.left (entry_ending (image_with_line image machine boot line decision.line) machine entry picked middle memory))

  decided-line : (boot : BootSector) (line : DefaultLine) (decision : Decision) (memory : ℕ) (picked : Option (Descriptor × Picked))
      → ((decided_boot image machine boot line decision memory picked).line ≡ Some line) ⊎ ((decided_boot image machine boot line decision memory picked).line ≡ Some decision.line)
  decided-line boot line decision memory None = inl refl
  decided-line boot line decision memory (Some (entry, picked)) = chosen-line boot line entry picked decision memory (middle_of image machine entry)

  -- the prompt of a good map decided the line
  pub record Chooses (boot : BootSector) (keys : List Key) (line : Option DefaultLine) : Type 0 where
    pub sectors : MapSectors
    pub read : map_sectors image machine boot ≡ Ok sectors
    pub good : GoodMap
    pub is : good_map sectors ≡ Ok good
    pub line_is : line ≡ Some (decision_at image machine boot good (message_of image machine boot) keys).line

  -- the present line is the good map's
  pub present-good : (boot : BootSector) (sectors : MapSectors) (good : GoodMap) → map_sectors image machine boot ≡ Ok sectors → good_map sectors ≡ Ok good
      → present_line image machine boot ≡ Some good.line
  unfolding present_line
  present-good boot sectors good read is =
      ap (λ found. option_and_then (λ bytes. result_ok (line_at bytes)) (result_ok found)) (line-read image machine boot sectors read) ∙ ap result_ok (good-line sectors good is)

  module _ (boot : BootSector) (keys : List Key) (memory : ℕ) where
    abbrev Comes : Option DefaultLine → Type 0
    Comes line = (line ≡ present_line image machine boot) ⊎ Chooses boot keys line

    prompted : (sectors : MapSectors) (good : GoodMap) → map_sectors image machine boot ≡ Ok sectors → good_map sectors ≡ Ok good
        → Comes (prompted_boot image machine boot good (message_of image machine boot) keys memory).line
    unfolding prompted_boot
    prompted sectors good read is = by (decided-line boot good.line decision memory (picked_entry good.entries decision.picked))
      where
        decision : Decision
        decision = decision_at image machine boot good (message_of image machine boot) keys

        by : ((decided_boot image machine boot good.line decision memory (picked_entry good.entries decision.picked)).line ≡ Some good.line)
            ⊎ ((decided_boot image machine boot good.line decision memory (picked_entry good.entries decision.picked)).line ≡ Some decision.line)
            → Comes (decided_boot image machine boot good.line decision memory (picked_entry good.entries decision.picked)).line
        by (inl same) = inl (same ∙ sym (present-good boot sectors good read is))
        by (inr new) = inr (record { sectors = sectors; read = read; good = good; is = is; line_is = new })

    pub map-line : Comes (map_boot image machine boot keys memory).line
    unfolding map_boot
    map-line = by-sectors (map_sectors image machine boot) refl
      where
        by-message : (sectors : MapSectors) (good : GoodMap) → map_sectors image machine boot ≡ Ok sectors → good_map sectors ≡ Ok good
            → (check : Result (Unit {0}) Boot) → message_check good.line (opening_at image machine boot good keys) (message_of image machine boot) ≡ check
            → Comes (map_boot image machine boot keys memory).line
        by-message sectors good read is (Ok done) test = rw (read, is, test) (prompted sectors good read is)
        by-message sectors good read is (Err ended) test =
            rw (read, is, test) (inl (check-line good.line (opening_at image machine boot good keys) (message_of image machine boot) ended test ∙ sym (present-good boot sectors good read is)))

        by-good : (sectors : MapSectors) → map_sectors image machine boot ≡ Ok sectors → (found : Result GoodMap MapFault) → good_map sectors ≡ found
            → Comes (map_boot image machine boot keys memory).line
        by-good sectors read (Err fault) is = rw (read, is) (inl refl)
        by-good sectors read (Ok good) is =
            by-message sectors good read is (message_check good.line (opening_at image machine boot good keys) (message_of image machine boot)) refl

        by-sectors : (found : Result MapSectors slots.AddressFault) → map_sectors image machine boot ≡ found → Comes (map_boot image machine boot keys memory).line
        by-sectors (Err fault) read = rw read (inl refl)
        by-sectors (Ok sectors) read = by-good sectors read (good_map sectors) refl

foreign-none : (bytes : List ℕ) (keys : List Key) → (foreign_boot bytes keys).line ≡ None
unfolding foreign_boot
foreign-none bytes keys = by (is_bootable bytes) refl
  where
    by : (test : Bool) → is_bootable bytes ≡ test → (foreign_boot bytes keys).line ≡ None
    by true is = rw is refl
    by false is = rw is refl

module _ (site : Site) (image : Image) (keys : List Key) (memory : ℕ) where
  -- a boot's line is the present one, or the prompt of this map decided it
  pub record Decides : Type 0 where
    pub boot : BootSector
    pub says : boot_at (image site.boot.disk site.boot.start) ≡ Ok boot
    pub chooses : Chooses image site.machine boot keys (whole_boot image site.machine site.boot keys memory).line

  by-read : (bytes : List ℕ) (read : Result BootSector MapFault) → ((boot_by image site.machine bytes keys memory read).line ≡ line_by image site.machine read)
      ⊎ ((boot : BootSector) × (read ≡ Ok boot) × Chooses image site.machine boot keys (boot_by image site.machine bytes keys memory read).line)
  by-read bytes (Ok boot) = by (map-line image site.machine boot keys memory)
    where
      by : Comes image site.machine boot keys memory (map_boot image site.machine boot keys memory).line
          → ((map_boot image site.machine boot keys memory).line ≡ present_line image site.machine boot)
          ⊎ ((other : BootSector) × (◌≡◌ {A = Result BootSector MapFault} (Ok boot) (Ok other)) × Chooses image site.machine other keys (map_boot image site.machine boot keys memory).line)
      by (inl same) = inl same
      by (inr chooses) = inr (boot, refl, chooses)
  by-read bytes (Err (BadTable entry)) = inl refl
  by-read bytes (Err NotOurs) = inl (foreign-none bytes keys)
  by-read bytes (Err (BadVersion version)) = inl (foreign-none bytes keys)
  by-read bytes (Err BadLine) = inl (foreign-none bytes keys)

  pub decides : ((whole_boot image site.machine site.boot keys memory).line ≡ line_in site image) ⊎ Decides
  unfolding whole_boot line_in
  decides = by (by-read (image site.boot.disk site.boot.start) (boot_at (image site.boot.disk site.boot.start)))
    where
      by : ((boot_by image site.machine (image site.boot.disk site.boot.start) keys memory (boot_at (image site.boot.disk site.boot.start))).line ≡ line_by image site.machine (boot_at (image site.boot.disk site.boot.start)))
          ⊎ ((boot : BootSector) × (boot_at (image site.boot.disk site.boot.start) ≡ Ok boot)
          × Chooses image site.machine boot keys (boot_by image site.machine (image site.boot.disk site.boot.start) keys memory (boot_at (image site.boot.disk site.boot.start))).line)
          → ((boot_by image site.machine (image site.boot.disk site.boot.start) keys memory (boot_at (image site.boot.disk site.boot.start))).line ≡ line_by image site.machine (boot_at (image site.boot.disk site.boot.start))) ⊎ Decides
      by (inl same) = inl same
      by (inr found) = inr (record { boot = found.0; says = found.1; chooses = found.2 })

  present-line : (boot : BootSector) (line : DefaultLine) → boot_at (image site.boot.disk site.boot.start) ≡ Ok boot → present_line image site.machine boot ≡ Some line → line_in site image ≡ Some line
  unfolding line_in
  present-line boot line says is = ap (line_by image site.machine) says ∙ is

-- ---- the law

-- lines that are told to be the same are
pub same-lines : (one other : DefaultLine) → is_same_line one other ≡ true → one ≡ other
unfolding is_same_line
same-lines Empty Empty is = refl
same-lines Empty (Once text) is = absurd cc
same-lines Empty (Kept text) is = absurd cc
same-lines (Once text) Empty is = absurd cc
same-lines (Once text) (Once other) is = ap Once ((bytes_eq-Decides text other).0 is)
same-lines (Once text) (Kept other) is = absurd cc
same-lines (Kept text) Empty is = absurd cc
same-lines (Kept text) (Once other) is = absurd cc
same-lines (Kept text) (Kept other) is = ap Kept ((bytes_eq-Decides text other).0 is)

pub boot_line_law : BootLineLaw
boot_line_law site image keys memory = by (decides site image keys memory)
  where
    by : ((whole_boot image site.machine site.boot keys memory).line ≡ line_in site image) ⊎ Decides site image keys memory
        → ((whole_boot image site.machine site.boot keys memory).line ≡ line_in site image) ⊎ IsOther (line_in site image) (whole_boot image site.machine site.boot keys memory).line
    by (inl same) = inl same
    by (inr decided) =
        let chooses = decided.chooses in
        let was = present-line site image keys memory decided.boot chooses.good.line decided.says (present-good image site.machine decided.boot chooses.sectors chooses.good chooses.read chooses.is) in
        let new = (decision_at image site.machine decided.boot chooses.good (message_of image site.machine decided.boot) keys).line in
        with chooses.good.line new was chooses.line_is (is_same_line chooses.good.line new) refl
      where
        with : (one other : DefaultLine) → line_in site image ≡ Some one → (whole_boot image site.machine site.boot keys memory).line ≡ Some other → (same : Bool) → is_same_line one other ≡ same
            → ((whole_boot image site.machine site.boot keys memory).line ≡ line_in site image) ⊎ IsOther (line_in site image) (whole_boot image site.machine site.boot keys memory).line
        with one other was is true test = inl (is ∙ ap Some (sym (same-lines one other test)) ∙ sym was)
        with one other was is false test = inr (record { one = one; other = other; was = was; is = is; differs = test })
