-- Each sector of a planned map has 512 bytes.
use Rattle.std.proofs.Common.{◌≡◌, ◌≤◌, ℕ, zero, suc, ◌+◌, ◌-◌, ◌*◌, ◌<◌, Bool, true, false, ◌&&◌, if◌then◌else◌, List, [], ◌∷◌, ◌++◌, length, map, take, drop, replicate, Option, None, Some, refl, ap, ◌∙◌, arith, length-append, length-take, length-drop}
use Rattle.std.specs.Prelude.{flat_map, unwrap_or, nat_le, IfSome, IsTrue}
use Rattle.std.specs.List.{concat, list_all, AllByRecursion}
use Rattle.std.proofs.lemmas.Bool.Decides.{nat_tests}
use Rattle.std.proofs.lemmas.List.{length-replicate, length-take-le}
use Rattle.lilo_model.specs.Bytes.{part_of, bytes16, filled_bytes, is_between}
use Rattle.lilo_model.specs.Conf.{Config, ConfSection}
use Rattle.lilo_model.specs.ConfValues.{is_shown}
use Rattle.lilo_model.specs.DefaultLine.{Empty}
use Rattle.lilo_model.specs.Disks.{DiskSector, Machine}
use Rattle.lilo_model.specs.LineSector.{line_bytes}
use Rattle.lilo_model.specs.Options.{Extra, options_bytes, extra_bytes}
use Rattle.lilo_model.specs.Plan.{MappedFile, MappedSection, Plan, chain_sectors, slot_to, chain_for, file_slots, needs_extra, extra_of, extra_sectors, kept_middle, link_to, main_places, initrd_places, places_after, file_sectors, optional_sectors, section_sectors_at, sections_sectors, plan_entries, sectors_of_table, sectors_after, plan_sectors, zero_sector_place, message_places, sections_places}
use Rattle.lilo_model.specs.Section.{section_bytes}
use Rattle.lilo_model.specs.Slots.{Slot, slot_bytes, optional_bytes}
use Rattle.lilo_model.specs.Table.{Descriptor, descriptor_bytes}
use Rattle.map_again_laws.proofs.Parts.{length-filled}
use Rattle.map_again_laws.proofs.SectionAgain.{length-slots}
use Rattle.lilo_conf.specs.View.{section_view}
use Rattle.map_again_laws.proofs.SlotAgain.{length-optional}
use Rattle.map_plan.specs.Sections.{planned_views}
use Rattle.map_plan.specs.declared.section.PlannedSection.{PlannedSection}
use Rattle.map_sectors.specs.Accepted.{IsAccepted, IsFor}
use Rattle.map_sectors.specs.Map.{plan_view}
use Rattle.map_sectors.specs.declared.map.MapPlan.{MapPlan}
use Rattle.slot_lists.specs.Made.{place_view}
use Rattle.slot_lists.specs.declared.slots.DiskSector as slots
use Rattle.install_stage.specs.Blocks.{sectors_of_map}

abbrev pub AreLong : List (List ℕ) → Type 0
AreLong sectors = AllByRecursion (λ bytes. length bytes ≡ 512) sectors

long-both : (first others : List (List ℕ)) → AreLong first → AreLong others → AreLong (first ++ others)
long-both [] others a b = b
long-both (bytes ∷ first) others a b = (a.0, long-both first others a.1 b)

-- ---- files

long-section : (slots : List Slot) (link : Option Slot) → length slots ≤ 63 → length (section_bytes slots link) ≡ 512
unfolding section_bytes
long-section slots link few =
    let all = length-slots slots in
    let filled = length-filled 504 (concat (map slot_bytes slots)) (omega (arith, all, few)) in
    let last = length-optional link in
    length-append (filled_bytes 504 (concat (map slot_bytes slots))) (optional_bytes link) ∙ omega (arith, filled, last)

few-taken : (slots : List Slot) → length (take 63 slots) ≤ 63
few-taken slots = omega (arith, length-take 63 slots)

long-chain : (to : DiskSector → Slot) (count : ℕ) (slots : List Slot) (behind : List DiskSector) → AreLong (chain_sectors to count slots behind)
long-chain to zero slots behind = tt
long-chain to (suc more) slots behind = (long-section (take 63 slots) (link_to to more behind) (few-taken slots), long-chain to more (drop 63 slots) (drop 1 behind))

module _ (config : Config) (machine : Machine) (zero_place : DiskSector) where
  long-file : (file : MappedFile) (places : List DiskSector) → AreLong (file_sectors config machine zero_place file places)
  unfolding file_sectors
  long-file file places = long-chain (slot_to config.mode machine) (chain_for config machine file) (file_slots config machine zero_place file) (drop 1 places)

  long-optional : (file : Option MappedFile) (places : List DiskSector) → AreLong (optional_sectors config machine zero_place file places)
  long-optional None places = tt
  long-optional (Some file) places = long-file file places

-- ---- texts

-- the texts of a section fit their sectors
pub record HasShortTexts (section : ConfSection) : Type 0 where
  pub middle : length (kept_middle section) ≤ 255
  pub fallback : length (unwrap_or section.fallback []) ≤ 255
  pub password : length (unwrap_or section.password []) ≤ 31

long-options : (middle : List ℕ) → length middle ≤ 255 → length (options_bytes middle) ≡ 512
unfolding options_bytes
long-options middle few =
    let all = length-append (bytes16 (length middle) ++ replicate 6 0) middle in
    length-filled 512 (bytes16 (length middle) ++ replicate 6 0 ++ middle) (omega (arith, all, few))

long-extra : (extra : Extra) → length extra.fallback ≤ 255 → length extra.password ≤ 31 → length (extra_bytes extra) ≡ 512
unfolding extra_bytes
long-extra extra fallback password =
    let texts = bytes16 (length extra.fallback) ++ bytes16 (length extra.password) ++ extra.fallback in
    let first = length-append (bytes16 (length extra.fallback) ++ bytes16 (length extra.password)) extra.fallback in
    let filled = length-filled 480 texts (omega (arith, first, fallback)) in
    let both = length-append (filled_bytes 480 texts) extra.password in
    length-filled 512 (filled_bytes 480 texts ++ extra.password) (omega (arith, filled, both, password))

long-extras : (section : ConfSection) → HasShortTexts section → (has : Bool) → AreLong (if has then extra_bytes (extra_of section) ∷ [] else [])
long-extras section short true = (long-extra (extra_of section) short.fallback short.password, tt)
long-extras section short false = tt

-- ---- sections

module _ (config : Config) (machine : Machine) (zero_place : DiskSector) where
  long-section-at : (mapped : MappedSection) (places : List DiskSector) → HasShortTexts mapped.section → AreLong (section_sectors_at config machine zero_place mapped places)
  unfolding section_sectors_at
  long-section-at mapped places short =
      let mains = file_sectors config machine zero_place mapped.main (main_places mapped.section places) in
      let ramdisks = optional_sectors config machine zero_place mapped.initrd (initrd_places config machine mapped places) in (
        long-options (kept_middle mapped.section) short.middle,
        long-both (extra_sectors mapped.section) (mains ++ ramdisks) (long-extras mapped.section short (needs_extra mapped.section))
            (long-both mains ramdisks (long-file config machine zero_place mapped.main (main_places mapped.section places)) (long-optional config machine zero_place mapped.initrd (initrd_places config machine mapped places))),
      )

  long-sections : (sections : List MappedSection) (places : List DiskSector) → AllByRecursion (λ (mapped : MappedSection). HasShortTexts mapped.section) sections
      → AreLong (sections_sectors config machine zero_place sections places)
  long-sections [] places short = tt
  long-sections (mapped ∷ others) places short =
      long-both (section_sectors_at config machine zero_place mapped places) (sections_sectors config machine zero_place others (places_after config machine mapped places))
      (long-section-at mapped places short.0) (long-sections others (places_after config machine mapped places) short.1)

-- ---- the map

long-line : length (line_bytes Empty) ≡ 512
unfolding line_bytes
long-line = refl

long-part : (bytes : List ℕ) (index : ℕ) → 512 * index + 512 ≤ length bytes → length (part_of bytes (512 * index) 512) ≡ 512
long-part bytes index inside =
    let left = length-drop (512 * index) bytes in
    length-take-le 512 (drop (512 * index) bytes) (omega (arith, left, inside))

long-table : (entries : List Descriptor) → AreLong (sectors_of_table entries)
unfolding sectors_of_table
long-table entries =
    let all = flat_map descriptor_bytes entries in
    let size = length-append all (replicate (1536 - length all) 0) in
    let zeros = length-replicate {A = ℕ} (1536 - length all) 0 in
    let long : (index : ℕ) → index < 3 → length (part_of (filled_bytes 1536 all) (512 * index) 512) ≡ 512 =
    λ index few. long-part (filled_bytes 1536 all) index (omega (arith, size, zeros, few)) in
    (long 0 (omega arith), (long 1 (omega arith), (long 2 (omega arith), tt)))

pub long_plan : (plan : Plan) (machine : Machine) (places : List DiskSector) → AllByRecursion (λ (mapped : MappedSection). HasShortTexts mapped.section) plan.sections
    → AreLong (plan_sectors plan machine places)
unfolding plan_sectors sectors_after
long_plan plan machine places short =
    let table = sectors_of_table (plan_entries plan machine places) in
    let messages = optional_sectors plan.config machine (zero_sector_place places) plan.message (message_places places) in
    let others = sections_sectors plan.config machine (zero_sector_place places) plan.sections (sections_places plan machine places) in (
      long-line,
      long-both table (replicate 512 0 ∷ (messages ++ others)) (long-table (plan_entries plan machine places)) (
        length-replicate {A = ℕ} 512 0,
        long-both messages others (long-optional plan.config machine (zero_sector_place places) plan.message (message_places places))
            (long-sections plan.config machine (zero_sector_place places) plan.sections (sections_places plan machine places) short),
      ),
    )

-- ---- a plan that is for a machine

first-true : (a b : Bool) → (a && b) ≡ true → a ≡ true
first-true true b both = refl
first-true false b both = both

shown-few : (most : ℕ) (text : List ℕ) → IsTrue (is_shown most text) → length text ≤ most
unfolding is_shown
shown-few most text is = by (nat_le 1 (length text)) (nat_le (length text) most) refl (first-true (is_between 1 most (length text)) (list_all (is_between 32 126) text) is)
  where
    by : (a b : Bool) → nat_le (length text) most ≡ b → (a && b) ≡ true → length text ≤ most
    by true b test both = grind (arith, nat_tests, test, both)
    by false b test both = cc

few-or-none : (most : ℕ) (text : Option (List ℕ)) → IfSome text (λ text. IsTrue (is_shown most text)) → length (unwrap_or text []) ≤ most
few-or-none most None is = omega arith
few-or-none most (Some text) is = shown-few most text is

short-views : (machine : Machine) (plan : MapPlan) (sections : List PlannedSection) → AllByRecursion (IsAccepted machine plan) sections
    → AllByRecursion (λ (mapped : MappedSection). HasShortTexts mapped.section) (planned_views sections)
short-views machine plan [] accepted = tt
short-views machine plan (planned ∷ sections) accepted = (
  record {
    middle = let is = ap length accepted.0.middle in let short = accepted.0.short in omega (arith, is, short);
    fallback = few-or-none 255 (section_view planned.section).fallback accepted.0.lawful.fallback;
    password = few-or-none 31 (section_view planned.section).password accepted.0.lawful.password;
  },
  short-views machine plan sections accepted.1,
)

pub long_map : (machine : Machine) (plan : MapPlan) (places : List slots.DiskSector) → IsFor machine plan → AreLong (sectors_of_map machine plan places)
long_map machine plan places is = long_plan (plan_view plan) machine (map place_view places) (short-views machine plan plan.files.sections.items is.sections)
