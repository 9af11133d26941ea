-- The sectors of a map by their index: each part comes after the one before it.
use Rattle.std.proofs.Common.{◌≡◌, ◌≤◌, ◌<◌, ℕ, ◌+◌, ◌-◌, Bool, true, false, if◌then◌else◌, List, [], ◌∷◌, ◌++◌, length, map, drop, replicate, Option, refl, ap, ◌∙◌, arith, length-append}
use Rattle.std.specs.Prelude.{slice_index_or, sum}
use Rattle.std.proofs.lemmas.List.{drop-drop, get_or_append_left, get_or-append_right}
use Rattle.std.proofs.lemmas.List.Sums.{sum_by-cons}
use Rattle.lilo_model.specs.Conf.{Config, ConfSection}
use Rattle.lilo_model.specs.DefaultLine.{Empty}
use Rattle.lilo_model.specs.Disks.{DiskSector, Machine}
use Rattle.lilo_model.specs.LineSector.{line_bytes}
use Rattle.lilo_model.specs.Options.{options_bytes, extra_bytes}
use Rattle.lilo_model.specs.Plan.{MappedFile, MappedSection, Plan, chain_for, optional_chain, needs_extra, extra_of, extra_sectors, kept_middle, places_after, file_sectors, optional_sectors, section_sectors_at, sections_sectors, section_size, map_size, plan_entries, sectors_of_table, sectors_after, plan_sectors, zero_sector_place, message_places, sections_places}
use Rattle.map_laws.proofs.Entries.{length-file, length-optional}
use Rattle.map_sectors.specs.Sectors.{sectors_of_files, sectors_after_options, sectors_after_line}

-- ---- two parts

in-front : (front behind : List (List ℕ)) (count index : ℕ) (other : List ℕ) → length front ≡ count → index < count
    → slice_index_or (front ++ behind) index other ≡ slice_index_or front index other
in-front front behind count index other is below = get_or_append_left front behind other index (omega (arith, is, below))

after-front : (front behind : List (List ℕ)) (count index : ℕ) (other : List ℕ) → length front ≡ count → count ≤ index
    → slice_index_or (front ++ behind) index other ≡ slice_index_or behind (index - count) other
after-front front behind count index other is above = get_or-append_right front behind count index other is above

after-first : (first : List ℕ) (behind : List (List ℕ)) (index : ℕ) (other : List ℕ) → 1 ≤ index
    → slice_index_or (first ∷ behind) index other ≡ slice_index_or behind (index - 1) other
after-first first behind index other above = get_or-append_right (first ∷ []) behind 1 index other refl above

at-first : (first : List ℕ) (behind : List (List ℕ)) (index : ℕ) (other : List ℕ) → index ≡ 0 → slice_index_or (first ∷ behind) index other ≡ first
at-first first behind index other is = ap (λ index. slice_index_or (first ∷ behind) index other) is

module _ (config : Config) (machine : Machine) (zero_place : DiskSector) where
  -- ---- the files of a section

  module _ (main : MappedFile) (initrd : Option MappedFile) (places : List DiskSector) (index : ℕ) (other : List ℕ) where
    pub in-main : index < chain_for config machine main
        → slice_index_or (sectors_of_files config machine zero_place main initrd places) index other ≡ slice_index_or (file_sectors config machine zero_place main places) index other
    in-main below =
        in-front (file_sectors config machine zero_place main places) (optional_sectors config machine zero_place initrd (drop (chain_for config machine main) places))
        (chain_for config machine main) index other (length-file config machine zero_place main places) below

    pub after-main : chain_for config machine main ≤ index
        → slice_index_or (sectors_of_files config machine zero_place main initrd places) index other
        ≡ slice_index_or (optional_sectors config machine zero_place initrd (drop (chain_for config machine main) places)) (index - chain_for config machine main) other
    after-main above =
        after-front (file_sectors config machine zero_place main places) (optional_sectors config machine zero_place initrd (drop (chain_for config machine main) places))
        (chain_for config machine main) index other (length-file config machine zero_place main places) above

  -- ---- a section

  extra-at : (section : ConfSection) (has : Bool) (index : ℕ) (other : List ℕ) → index < length (if has then extra_bytes (extra_of section) ∷ [] else [])
      → slice_index_or (if has then extra_bytes (extra_of section) ∷ [] else []) index other ≡ extra_bytes (extra_of section)
  extra-at section false index other below = absurd (omega (arith, below))
  extra-at section true index other below = at-first (extra_bytes (extra_of section)) [] index other (omega (arith, below))

  module _ (mapped : MappedSection) (places : List DiskSector) (index : ℕ) (other : List ℕ) where
    pub in-extra : index < length (extra_sectors mapped.section)
        → slice_index_or (sectors_after_options config machine zero_place mapped places) index other ≡ extra_bytes (extra_of mapped.section)
    in-extra below =
        in-front (extra_sectors mapped.section) (sectors_of_files config machine zero_place mapped.main mapped.initrd (drop (length (extra_sectors mapped.section)) places))
        (length (extra_sectors mapped.section)) index other refl below
        ∙ extra-at mapped.section (needs_extra mapped.section) index other below

    pub after-extra : length (extra_sectors mapped.section) ≤ index
        → slice_index_or (sectors_after_options config machine zero_place mapped places) index other
        ≡ slice_index_or (sectors_of_files config machine zero_place mapped.main mapped.initrd (drop (length (extra_sectors mapped.section)) places)) (index - length (extra_sectors mapped.section)) other
    after-extra above =
        after-front (extra_sectors mapped.section) (sectors_of_files config machine zero_place mapped.main mapped.initrd (drop (length (extra_sectors mapped.section)) places))
        (length (extra_sectors mapped.section)) index other refl above

    pub in-options : index ≡ 0 → slice_index_or (section_sectors_at config machine zero_place mapped places) index other ≡ options_bytes (kept_middle mapped.section)
    unfolding section_sectors_at
    in-options is = at-first (options_bytes (kept_middle mapped.section)) (sectors_after_options config machine zero_place mapped (drop 1 places)) index other is

    pub after-options : 1 ≤ index
        → slice_index_or (section_sectors_at config machine zero_place mapped places) index other
        ≡ slice_index_or (sectors_after_options config machine zero_place mapped (drop 1 places)) (index - 1) other
    unfolding section_sectors_at
    after-options above = after-first (options_bytes (kept_middle mapped.section)) (sectors_after_options config machine zero_place mapped (drop 1 places)) index other above

  length-section : (mapped : MappedSection) (places : List DiskSector) → length (section_sectors_at config machine zero_place mapped places) ≡ section_size config machine mapped
  unfolding section_sectors_at
  length-section mapped places =
      let behind = drop (length (extra_sectors mapped.section)) (drop 1 places) in
      let mains = file_sectors config machine zero_place mapped.main behind in
      let ramdisks = optional_sectors config machine zero_place mapped.initrd (drop (chain_for config machine mapped.main) behind) in
      let all = length-append (extra_sectors mapped.section) (mains ++ ramdisks) in
      let both = length-append mains ramdisks in
      let main = length-file config machine zero_place mapped.main behind in
      let ramdisk = length-optional config machine zero_place mapped.initrd (drop (chain_for config machine mapped.main) behind) in
      omega (arith, all, both, main, ramdisk)

  -- ---- sections

  all-dropped : (mapped : MappedSection) (places : List DiskSector) → places_after config machine mapped places ≡ drop (section_size config machine mapped) places
  all-dropped mapped places =
      let extras = length (extra_sectors mapped.section) in
      let main = chain_for config machine mapped.main in
      let initrd = optional_chain config machine mapped.initrd in
      ap (λ places. drop initrd (drop main places)) (drop-drop extras 1 places)
      ∙ ap (drop initrd) (drop-drop main (1 + extras) places)
      ∙ drop-drop initrd (1 + extras + main) places

  module _ (mapped : MappedSection) (others : List MappedSection) (places : List DiskSector) (index : ℕ) (other : List ℕ) where
    pub in-section : index < section_size config machine mapped
        → slice_index_or (sections_sectors config machine zero_place (mapped ∷ others) places) index other ≡ slice_index_or (section_sectors_at config machine zero_place mapped places) index other
    in-section below =
        in-front (section_sectors_at config machine zero_place mapped places) (sections_sectors config machine zero_place others (places_after config machine mapped places))
        (section_size config machine mapped) index other (length-section mapped places) below

    pub after-section : section_size config machine mapped ≤ index
        → slice_index_or (sections_sectors config machine zero_place (mapped ∷ others) places) index other
        ≡ slice_index_or (sections_sectors config machine zero_place others (drop (section_size config machine mapped) places)) (index - section_size config machine mapped) other
    after-section above =
        after-front (section_sectors_at config machine zero_place mapped places) (sections_sectors config machine zero_place others (places_after config machine mapped places))
        (section_size config machine mapped) index other (length-section mapped places) above
        ∙ ap (λ places. slice_index_or (sections_sectors config machine zero_place others places) (index - section_size config machine mapped) other) (all-dropped mapped places)

  length-sections : (sections : List MappedSection) (places : List DiskSector) → length (sections_sectors config machine zero_place sections places) ≡ sum (map (section_size config machine) sections)
  length-sections [] places = refl
  length-sections (mapped ∷ sections) places =
      let both = length-append (section_sectors_at config machine zero_place mapped places) (sections_sectors config machine zero_place sections (places_after config machine mapped places)) in
      let here = length-section mapped places in
      let others = length-sections sections (places_after config machine mapped places) in
      let more = sum_by-cons (λ n. n) (section_size config machine mapped) (map (section_size config machine) sections) in
      omega (arith, both, here, others, more)

-- ---- the map

length-table : (plan : Plan) (machine : Machine) (places : List DiskSector) → length (sectors_of_table (plan_entries plan machine places)) ≡ 3
unfolding sectors_of_table
length-table plan machine places = refl

module _ (plan : Plan) (machine : Machine) (places : List DiskSector) (index : ℕ) (other : List ℕ) where
  pub in-message : index < optional_chain plan.config machine plan.message
      → slice_index_or (sectors_after plan machine places) index other
      ≡ slice_index_or (optional_sectors plan.config machine (zero_sector_place places) plan.message (drop 5 places)) index other
  unfolding sectors_after
  in-message below =
      in-front (optional_sectors plan.config machine (zero_sector_place places) plan.message (message_places places))
      (sections_sectors plan.config machine (zero_sector_place places) plan.sections (sections_places plan machine places))
      (optional_chain plan.config machine plan.message) index other (length-optional plan.config machine (zero_sector_place places) plan.message (message_places places)) below

  pub after-message : optional_chain plan.config machine plan.message ≤ index
      → slice_index_or (sectors_after plan machine places) index other
      ≡ slice_index_or (sections_sectors plan.config machine (zero_sector_place places) plan.sections (drop (optional_chain plan.config machine plan.message) (drop 5 places))) (index - optional_chain plan.config machine plan.message) other
  unfolding sectors_after
  after-message above =
      after-front (optional_sectors plan.config machine (zero_sector_place places) plan.message (message_places places))
      (sections_sectors plan.config machine (zero_sector_place places) plan.sections (sections_places plan machine places))
      (optional_chain plan.config machine plan.message) index other (length-optional plan.config machine (zero_sector_place places) plan.message (message_places places)) above

  pub in-table : index < 3
      → slice_index_or (sectors_after_line plan machine places) index other ≡ slice_index_or (sectors_of_table (plan_entries plan machine places)) index other
  in-table below = in-front (sectors_of_table (plan_entries plan machine places)) (replicate 512 0 ∷ sectors_after plan machine places) 3 index other (length-table plan machine places) below

  pub in-zero : index ≡ 3 → slice_index_or (sectors_after_line plan machine places) index other ≡ replicate 512 0
  in-zero is =
      after-front (sectors_of_table (plan_entries plan machine places)) (replicate 512 0 ∷ sectors_after plan machine places) 3 index other (length-table plan machine places) (omega (arith, is))
      ∙ at-first (replicate 512 0) (sectors_after plan machine places) (index - 3) other (omega (arith, is))

  pub after-zero : 4 ≤ index
      → slice_index_or (sectors_after_line plan machine places) index other ≡ slice_index_or (sectors_after plan machine places) (index - 4) other
  after-zero above =
      let same : index - 3 - 1 ≡ index - 4 = omega arith in
      after-front (sectors_of_table (plan_entries plan machine places)) (replicate 512 0 ∷ sectors_after plan machine places) 3 index other (length-table plan machine places) (omega (arith, above))
      ∙ after-first (replicate 512 0) (sectors_after plan machine places) (index - 3) other (omega (arith, above))
      ∙ ap (λ index. slice_index_or (sectors_after plan machine places) index other) same

  pub in-line : index ≡ 0 → slice_index_or (plan_sectors plan machine places) index other ≡ line_bytes Empty
  unfolding plan_sectors
  in-line is = at-first (line_bytes Empty) (sectors_after_line plan machine places) index other is

  pub after-line : 1 ≤ index → slice_index_or (plan_sectors plan machine places) index other ≡ slice_index_or (sectors_after_line plan machine places) (index - 1) other
  unfolding plan_sectors
  after-line above = after-first (line_bytes Empty) (sectors_after_line plan machine places) index other above

-- as many as the map's size
pub length-plan : (plan : Plan) (machine : Machine) (places : List DiskSector) → length (plan_sectors plan machine places) ≡ map_size plan machine
unfolding plan_sectors sectors_after map_size
length-plan plan machine places =
    let messages = optional_sectors plan.config machine (zero_sector_place places) plan.message (message_places places) in
    let others = sections_sectors plan.config machine (zero_sector_place places) plan.sections (sections_places plan machine places) in
    let all = length-append (sectors_of_table (plan_entries plan machine places)) (replicate 512 0 ∷ (messages ++ others)) in
    let table = length-table plan machine places in
    let both = length-append messages others in
    let message = length-optional plan.config machine (zero_sector_place places) plan.message (message_places places) in
    let sections = length-sections plan.config machine (zero_sector_place places) plan.sections (sections_places plan machine places) in
    omega (arith, all, table, both, message, sections)
