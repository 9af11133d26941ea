-- What a new map lies in, and what it was planned from, is Clear.
use Rattle.std.proofs.Common.{◌≡◌, ◌≢◌, ◌≤◌, ◌<◌, ◌⊎◌, inl, inr, ℕ, ◌+◌, ◌-◌, ◌*◌, ◌/◌, ◌%◌, ◌==◌, Bool, true, false, if◌then◌else◌, nat_lt, List, [], ◌∷◌, ◌++◌, map, Option, None, Some, Result, Ok, Err, refl, sym, ap, subst, ◌∙◌, arith}
use Rattle.std.specs.Prelude.{IfSome, option_map, flat_map}
use Rattle.std.specs.List.{AllByRecursion}
use Rattle.std.specs.Result.{result_ok}
use Rattle.std.proofs.lemmas.Bool.{ltb-true}
use Rattle.std.proofs.lemmas.List.Elements.{All-from_recursion}
use Rattle.lilo_model.specs.Apart.{is_apart_place, is_apart_device}
use Rattle.lilo_model.specs.Clear.{IsIndirect, IsOfZone, IsPlain, IsClearPlace}
use Rattle.lilo_model.specs.Conf.{ConfSection}
use Rattle.lilo_model.specs.Devices.{Device}
use Rattle.lilo_model.specs.Disks.{Image, Machine, Span, DiskSector}
use Rattle.lilo_model.specs.MinixLayout.{Kind, numbers_in_zone}
use Rattle.lilo_model.specs.MinixNames.{Named, Refers, reached, IsSound}
use Rattle.lilo_model.specs.MinixParts.{Volume, pointer_with, pointer_by, block_pointer, parts_of, is_file, is_directory}
use Rattle.lilo_model.specs.NamePlaces.{with_tilde}
use Rattle.lilo_model.specs.Partitions.{TableFault, span_of}
use Rattle.lilo_model.specs.Plan.{MappedFile, MappedSection, filled_places}
use Rattle.lilo_model.specs.Planned.{first_sector, system_places, mapped_inode, optional_file, file_inode, kernel_section, mapped_by, mapped_section, planned}
use Rattle.minix_laws.proofs.Inside.{length-trail_of}
use Rattle.minix_change_laws.proofs.Seen.{opened}
use Rattle.minix_change_laws.proofs.Tree.{sees_tree_law, keeps_join_law}
use Rattle.minix_change_laws.specs.Tree.{TreeAs}
use Rattle.map_laws.proofs.MeantFiles.{inode-named}
use Rattle.map_laws.specs.MapStays.{file_sectors_of, section_places}
use Rattle.map_laws.specs.Lies.{after_line, all_places}
use Rattle.install_laws.specs.Writes.{IsApartSector}
use Rattle.install_stage_laws.specs.StaysLaws.{planned_places}
use Rattle.install_stage_laws.specs.ClearMap.{AddedKeepsLaw, SeenKeepsLaw, KeepsJoinedLaw, KeepsAllLaw, KeepsButJoinedLaw}
use Rattle.install_stage_laws.specs.Mapped.{OnFile, OnKernel, OnSection, StaysThere, StagedClearLaw}
use Rattle.install_stage_laws.proofs.Devices.{others-apart, tables-apart, device-apart}
use Rattle.install_stage_laws.proofs.Files.{place_of, first-of, refers-block, Each, EachOptional, places-have, file-has, optional-on}
use Rattle.install_stage_laws.proofs.Sectors.{same-sector, same-zone, from-zone, from-two, half, file-not-directory, lies}

-- ---- what stays

pub added_keeps_law : AddedKeepsLaw
added_keeps_law volume before c path found what tree none = record {
  sound = tree.sound;
  named = λ number was. record { path = was.path; leads = tree.tree.others was.path (other was.path number was.leads) ∙ was.leads };
  keeps = tree.tree.keeps;
}
  where
    other : (one : List (List ℕ)) (number : ℕ) → reached volume.layout (parts_of volume before) one ≡ Some number → one ≢ path
    other one number leads is =
        let both : None ≡ Some number = sym none ∙ subst (λ p. reached volume.layout (parts_of volume before) p ≡ Some number) is leads in
        grind (arith, both)

pub seen_keeps_law : SeenKeepsLaw
seen_keeps_law volume before c sound seen =
    let tree : TreeAs volume.layout (parts_of volume before) (parts_of volume c) = sees_tree_law volume.layout (parts_of volume before) (parts_of volume c) (opened volume before sound).parts seen.sees in
    record { sound = seen.sound; named = λ number was. record { path = was.path; leads = tree.leads was.path ∙ was.leads }; keeps = tree.keeps }

pub keeps_joined_law : KeepsJoinedLaw
keeps_joined_law volume before middle c one two = record {
  sound = two.sound;
  named = λ number was. two.named number (one.named number was);
  keeps = keeps_join_law volume.layout (parts_of volume before) (parts_of volume middle) (parts_of volume c) one.keeps two.keeps (λ number was now. one.named number was);
}

pub keeps_all_law : KeepsAllLaw
keeps_all_law volume but before c kept none = record {
  sound = kept.sound;
  named = λ number was. kept.named was.path number (other was.path number was.leads) was.leads;
  keeps = kept.keeps;
}
  where
    other : (one : List (List ℕ)) (number : ℕ) → reached volume.layout (parts_of volume before) one ≡ Some number → one ≢ but
    other one number leads is =
        let both : None ≡ Some number = sym none ∙ subst (λ p. reached volume.layout (parts_of volume before) p ≡ Some number) is leads in
        grind (arith, both)

pub keeps_but_joined_law : KeepsButJoinedLaw
keeps_but_joined_law volume but before middle c one two stays = record {
  sound = two.sound;
  named = λ name number other leads. two.named number (one.named name number other leads);
  keeps = keeps_join_law volume.layout (parts_of volume before) (parts_of volume middle) (parts_of volume c) one.keeps two.keeps stays;
}

-- ---- the pointer of a block

not-with : (per top depth index : ℕ) → top - 6 ≤ depth → IsIndirect (pointer_with per top depth index) → ⊥
not-with per top depth index deep short = omega (arith, length-trail_of per depth index, deep, short)

not-by : (per index : ℕ) → IsIndirect (pointer_by per index) → ⊥
unfolding pointer_by
not-by per index short = by (nat_lt index 7) (nat_lt index (7 + per)) (nat_lt index (7 + per + per * per)) refl short
  where
    by : (a b c : Bool) → nat_lt index 7 ≡ a
        → IsIndirect (if a then pointer_with per index 0 0 else (if b then pointer_with per 7 1 (index - 7) else (if c then pointer_with per 8 2 (index - 7 - per) else pointer_with per 9 3 (index - 7 - per - per * per))))
        → ⊥
    by true b c is short = let low : index < 7 = ltb-true index 7 is in not-with per index 0 0 (omega (arith, low)) short
    by false true c is short = not-with per 7 1 (index - 7) (omega arith) short
    by false false true is short = not-with per 8 2 (index - 7 - per) (omega arith) short
    by false false false is short = not-with per 9 3 (index - 7 - per - per * per) (omega arith) short

not-indirect : (kind : Kind) (index : ℕ) → IsIndirect (block_pointer kind index) → ⊥
not-indirect kind index short = not-by (numbers_in_zone kind) index short

pub no-directory : (mode : ℕ) → (mode / 4096 == 8) ≡ true → (mode / 4096 == 4) ≡ false
no-directory mode regular = by (mode / 4096 == 4) refl
  where
    by : (test : Bool) → (mode / 4096 == 4) ≡ test → (mode / 4096 == 4) ≡ false
    by false is = is
    by true is = absurd (file-not-directory mode regular is)

-- ---- places that are Clear

module _ (volume : Volume) (c : Image) (sound : IsSound volume c) where
  clear-apart : (place : DiskSector) → IsApartSector volume place.disk place.sector → IsClearPlace volume c place
  clear-apart place apart sector is inside = by apart
    where
      at : place.sector ≡ volume.span.start + sector
      at = ap (λ (p : DiskSector). p.sector) is

      low-plain : sector < 2 → IsPlain volume c sector
      low-plain low = record {
        tables = inl low;
        zones = λ number pointer zone refers of.
            let range = (opened volume c sound).parts.zone_range number pointer zone refers in
            let from = from-two volume c sound zone sector of range.0 in
            absurd (omega (arith, low, from));
      }

      by : IsApartSector volume place.disk place.sector → IsPlain volume c sector
      by (inl other) = absurd (other (ap (λ (p : DiskSector). p.disk) is))
      by (inr (inl before)) = low-plain (omega (arith, before, at))
      by (inr (inr after)) = absurd (omega (arith, after, at, inside))

  -- a sector of a file's block
  clear-block : (number index zone sector : ℕ) → Refers volume.layout (parts_of volume c) number (block_pointer volume.layout.kind index) zone
      → is_file ((parts_of volume c).node number) ≡ true → IsOfZone zone sector
      → IsClearPlace volume c (place_of volume sector)
  clear-block number index zone sector refers regular of other is inside = subst (IsPlain volume c) (same-sector volume (place_of volume sector) sector other refl is) plain
    where
      plain : IsPlain volume c sector
      plain = record {
        tables =
            let range = (opened volume c sound).parts.zone_range number (block_pointer volume.layout.kind index) zone refers in
            let low = from-zone zone sector volume.layout.first of range.0 in
            let table = (lies volume c sound).table in
            inr (omega (arith, low, table));
        zones = λ one pointer there refers-there of-there.
            let same = same-zone there zone sector of-there of in
            let both =
            (opened volume c sound).parts.once number one (block_pointer volume.layout.kind index) pointer zone refers
            (subst (λ z. Refers volume.layout (parts_of volume c) one pointer z) same refers-there) in (
              subst (λ n. is_directory ((parts_of volume c).node n) ≡ false) both.0 (no-directory ((parts_of volume c).node number).mode regular),
              λ short. not-indirect volume.layout.kind index (subst IsIndirect (sym both.1) short),
            );
      }

-- ---- what is planned

module _ (before c : Image) (machine : Machine) (volume : Volume) (zero_place : DiskSector)
    (sound : IsSound volume before) (now_sound : IsSound volume c) (zero_clear : IsClearPlace volume c zero_place) where
  abbrev AllClear : List DiskSector → Type 0
  AllClear places = AllByRecursion (IsClearPlace volume c) places

  joined : (first second : List DiskSector) → AllClear first → AllClear second → AllClear (first ++ second)
  joined [] second clear others = others
  joined (place ∷ first) second clear others = (clear.0, joined first second clear.1 others)

  filled-clear : (places : List (Option DiskSector)) → Each volume c (IsClearPlace volume c) places → AllClear (filled_places zero_place places)
  filled-clear [] each = tt
  filled-clear (None ∷ places) each = (zero_clear, filled-clear places each.1)
  filled-clear (Some place ∷ places) each = (each.0, filled-clear places each.1)

  -- a file that was mapped
  file-clear : (number : ℕ) → Named volume.layout (parts_of volume before) number → is_file ((parts_of volume before).node number) ≡ true → StaysThere volume before c number
      → Each volume before (IsClearPlace volume c) (mapped_inode volume (parts_of volume before) number).places
  file-clear number was regular stays = file-has volume before (IsClearPlace volume c) number (λ index zone is some.
      let refers : Refers volume.layout (parts_of volume c) number (block_pointer volume.layout.kind (index / 2)) zone =
      record { named = stays.named; to = stays.to (block_pointer volume.layout.kind (index / 2)) zone (refers-block volume before number was regular index zone is some) } in
      clear-block volume c now_sound number (index / 2) zone (2 * zone + index % 2) refers (ap (λ mode. mode / 4096 == 8) stays.mode ∙ regular) (half zone index))

  optional-clear : (file : Option MappedFile) → EachOptional volume before (IsClearPlace volume c) file → AllClear (file_sectors_of zero_place file)
  optional-clear None each = tt
  optional-clear (Some file) each = filled-clear file.places each

  pub path-clear : (path : Option (List ℕ)) → IfSome path (λ text. OnFile before volume text (StaysThere volume before c))
      → AllClear (file_sectors_of zero_place (optional_file volume (parts_of volume before) path))
  path-clear path stays =
      optional-clear (optional_file volume (parts_of volume before) path) (optional-on volume before (IsClearPlace volume c) sound (StaysThere volume before c) file-clear path stays)

  -- devices
  abbrev IsApartDevice : Device → Type 0
  IsApartDevice device = is_apart_device before machine volume device ≡ true

  device-clear : (device : Device) → IsApartDevice device → IfSome (first_sector before machine device) (IsClearPlace volume c)
  device-clear device is = by (span_of before machine device) is
    where
      by : (found : Result Span TableFault) → is_apart_place volume found ≡ true
          → IfSome (option_map first-of (result_ok found)) (IsClearPlace volume c)
      by (Err fault) is = tt
      by (Ok found) is = clear-apart volume c now_sound (record { disk = found.disk; sector = found.start }) (device-apart volume before sound found is)

  system-clear : (device : Device) (other : Option Device) → IsApartDevice device → IfSome other IsApartDevice → Each volume before (IsClearPlace volume c) (system_places before machine device other)
  system-clear device None is also = (device-clear device is, tt)
  system-clear device (Some other) is also = (device-clear device is, (device-clear other also, tt))

  -- sections
  abbrev AreClear : List MappedSection → Type 0
  AreClear sections = AllByRecursion (λ mapped. AllClear (section_places zero_place mapped)) sections

  section-clear : (section : ConfSection) (rest : List MappedSection) → OnSection before volume (StaysThere volume before c) section
      → IfSome section.other IsApartDevice → IfSome section.table IsApartDevice → AreClear rest
      → AreClear (mapped_section before machine volume section ++ rest)
  unfolding mapped_section
  section-clear section rest stays one two after = by section.other one stays.kernel
    where
      by-inode : (inode : Option ℕ) → file_inode volume (parts_of volume before) section.path ≡ inode → IfSome inode (StaysThere volume before c)
          → AreClear (kernel_section volume (parts_of volume before) section inode ++ rest)
      by-inode None is there = after
      by-inode (Some number) is there =
          let named = inode-named volume before sound section.path number is in
          let main = mapped_inode volume (parts_of volume before) number in
          let initrd = optional_file volume (parts_of volume before) section.initrd in
          (joined (filled_places zero_place main.places) (file_sectors_of zero_place initrd) (filled-clear main.places (file-clear number named.0 named.1 there)) (path-clear section.initrd stays.initrd), after)

      by : (other : Option Device) → IfSome other IsApartDevice → OnKernel before volume section.path other (StaysThere volume before c)
          → AreClear (mapped_by before machine volume section other ++ rest)
      by None apart there = by-inode (file_inode volume (parts_of volume before) section.path) refl there
      by (Some device) apart there =
          let places = system_places before machine device section.table in
          (joined (filled_places zero_place places) [] (filled-clear places (system-clear device section.table apart two)) tt, after)

  sections-clear : (sections : List ConfSection) → AllByRecursion (OnSection before volume (StaysThere volume before c)) sections
      → AllByRecursion (λ (section : ConfSection). IfSome section.other IsApartDevice) sections
      → AllByRecursion (λ (section : ConfSection). IfSome section.table IsApartDevice) sections
      → AreClear (flat_map (mapped_section before machine volume) sections)
  sections-clear [] stays others tables = tt
  sections-clear (section ∷ sections) stays others tables =
      section-clear section (flat_map (mapped_section before machine volume) sections) stays.0 others.0 tables.0 (sections-clear sections stays.1 others.1 tables.1)

  pub mapped-clear : (sections : List MappedSection) → AreClear sections → AllClear (flat_map (section_places zero_place) sections)
  mapped-clear [] clear = tt
  mapped-clear (mapped ∷ sections) clear = joined (section_places zero_place mapped) (flat_map (section_places zero_place) sections) clear.0 (mapped-clear sections clear.1)

-- ---- the whole

each-some : (volume : Volume) (c : Image) (places : List DiskSector) → Each volume c (IsClearPlace volume c) (map Some places) → AllByRecursion (IsClearPlace volume c) places
each-some volume c [] each = tt
each-some volume c (place ∷ places) each = (each.0, each-some volume c places each.1)

pub staged_clear_law : StagedClearLaw
unfolding planned
staged_clear_law before c machine volume span config device time places path sound apart outside keeps held =
    let after = after_line places in
    let message = file_sectors_of places.zero_place (optional_file volume (parts_of volume before) config.message) in
    let sections = flat_map (section_places places.zero_place) (flat_map (mapped_section before machine volume) config.sections) in
    let zeros = own.1.1.1.1.0 in
    All-from_recursion (IsClearPlace volume c) (planned_places before machine volume span config time places) (
      own.0,
      (
        clear-apart volume c keeps.sound (record { disk = span.disk; sector = span.start }) outside,
        joined before c machine volume places.zero_place sound keeps.sound zeros after (message ++ sections) own.1
            (joined before c machine volume places.zero_place sound keeps.sound zeros message sections (path-clear before c machine volume places.zero_place sound keeps.sound zeros config.message keeps.mapped.message)
            (mapped-clear before c machine volume places.zero_place sound keeps.sound zeros (flat_map (mapped_section before machine volume) config.sections)
            (sections-clear before c machine volume places.zero_place sound keeps.sound zeros config.sections keeps.mapped.sections (others-apart before machine volume config device apart) (tables-apart before machine volume config device apart)))),
      ),
    )
  where
    named : (reached volume.layout (parts_of volume c) path ≡ Some held.holder) ⊎ (reached volume.layout (parts_of volume c) (with_tilde path) ≡ Some held.holder)
        → Named volume.layout (parts_of volume c) held.holder
    named (inl leads) = record { path = path; leads = leads }
    named (inr leads) = record { path = with_tilde path; leads = leads }

    own : AllByRecursion (IsClearPlace volume c) (all_places places)
    own =
        each-some volume c (all_places places)
        (subst (Each volume c (IsClearPlace volume c)) held.solid
        (places-have volume c (IsClearPlace volume c) held.holder (λ index zone is some.
        clear-block volume c keeps.sound held.holder (index / 2) zone (2 * zone + index % 2)
        (refers-block volume c held.holder (named held.leads) held.regular index zone is some) held.regular (half zone index))))
