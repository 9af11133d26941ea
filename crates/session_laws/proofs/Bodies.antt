-- What body and line of an image rest on.
use Rattle.std.proofs.Common.{◌≡◌, ◌≢◌, ℕ, ◌==◌, Bool, true, false, not, if◌then◌else◌, List, [], ◌∷◌, map, filter, Option, None, Some, Result, Ok, Err, refl, sym, ap, subst, ◌∙◌, ◌<◌, length, get_or, arith, eqb-true, eq-eqb}
use Rattle.std.proofs.lemmas.Bool.{and_parts}
use Rattle.std.specs.List.{All, AllByRecursion}
use Rattle.std.specs.Result.{result_ok}
use Rattle.std.proofs.lemmas.List.Elements.{recursion_from_All, All-from_recursion}
use Rattle.lilo_model.specs.Boot.{Boot, whole_boot, present_line, slot_bytes_at}
use Rattle.lilo_model.specs.BootSector.{BootSector, MapFault, boot_at}
use Rattle.lilo_model.specs.Checks.{each}
use Rattle.lilo_model.specs.DefaultLine.{DefaultLine}
use Rattle.lilo_model.specs.Disks.{Image, DiskSector, bytes_at, with_sector}
use Rattle.lilo_model.specs.LineSector.{line_at}
use Rattle.lilo_model.specs.Mapped.{found_places, behind_table, map_places, behind_sector, mapped_sectors}
use Rattle.lilo_model.specs.Prompt.{Key}
use Rattle.lilo_model.specs.Slots.{AddressFault, place_at}
use Rattle.boot_laws.specs.SameOn.{SameOn}
use Rattle.boot_laws.proofs.Boots.{mapped_law}
use Rattle.boot_laws.proofs.Mapped.{same_mapped_law}
use Rattle.boot_laws.proofs.Maps.{table_checks, MapSame, map-parts, present_line-same}
use Rattle.boot_laws.proofs.Same.{Same, same-from_all, same-joined}
use Rattle.boot_laws.proofs.Unlisted.{unlisted_law}
use Rattle.session_model.specs.Keeps.{IsLineApart, others_behind}
use Rattle.session_model.specs.Site.{Site, boot_place}
use Rattle.session_model.specs.State.{Sector, sector_in, is_same_place, is_beside, place_by, line_place, line_by, line_in, body_in, line_of_boot}
use Rattle.session_laws.specs.Bodies.{SparedLaw, NamesLine, HasOtherLine, OtherLineLaw, BodyMeansLaw}
use Rattle.session_laws.proofs.Others.{others-same}

-- ---- lists of sectors

-- sectors with the same bytes
same-sectors : (image other : Image) (keep : DiskSector → Bool) (places : List DiskSector) → Same image other places
    → map (sector_in other) (filter keep places) ≡ map (sector_in image) (filter keep places)
same-sectors image other keep [] same = refl
same-sectors image other keep (place ∷ places) same = by (keep place) (same-sectors image other keep places same.1)
  where
    by : (kept : Bool) → map (sector_in other) (filter keep places) ≡ map (sector_in image) (filter keep places)
        → map (sector_in other) (if kept then place ∷ filter keep places else filter keep places) ≡ map (sector_in image) (if kept then place ∷ filter keep places else filter keep places)
    by true rest = ap (λ bytes. record { place = place; bytes = bytes } ∷ map (sector_in other) (filter keep places)) same.0 ∙ ap (λ sectors. sector_in image place ∷ sectors) rest
    by false rest = rest

-- ---- where the Mapped sectors are as they were

module _ (site : Site) (old new : Image) (same : SameOn (mapped_sectors old site.machine site.boot) old new) where
  all-same : Same old new (mapped_sectors old site.machine site.boot)
  all-same = same-from_all old new (mapped_sectors old site.machine site.boot) same

  boot-same : new site.boot.disk site.boot.start ≡ old site.boot.disk site.boot.start
  unfolding mapped_sectors
  boot-same = all-same.0

  behind-same : Same old new (behind_sector old site.machine (boot_at (old site.boot.disk site.boot.start)))
  unfolding mapped_sectors
  behind-same = all-same.1

  pub place-same : line_place site new ≡ line_place site old
  unfolding line_place
  place-same = ap (λ bytes. place_by site.machine (boot_at bytes)) boot-same

  line-by : (read : Result BootSector MapFault) → Same old new (behind_sector old site.machine read) → line_by new site.machine read ≡ line_by old site.machine read
  line-by (Err fault) same = refl
  line-by (Ok boot) same = present_line-same old new site.machine boot (map-parts old new site.machine boot same)

  line-same : line_in site new ≡ line_in site old
  unfolding line_in
  line-same = ap (λ bytes. line_by new site.machine (boot_at bytes)) boot-same ∙ line-by (boot_at (old site.boot.disk site.boot.start)) behind-same

  body-same : body_in site new ≡ body_in site old
  unfolding body_in
  body-same =
      ap (λ line. map (sector_in new) (filter (is_beside line) (mapped_sectors new site.machine site.boot))) place-same
      ∙ ap (λ places. map (sector_in new) (filter (is_beside (line_place site old)) places)) (same_mapped_law old new site.machine site.boot same)
      ∙ same-sectors old new (is_beside (line_place site old)) (mapped_sectors old site.machine site.boot) all-same

  others-kept : (boot : BootSector) → boot_at (old site.boot.disk site.boot.start) ≡ Ok boot → others_behind site new boot ≡ others_behind site old boot
  unfolding others_behind
  others-kept boot is =
      let parts : MapSame old new site.machine boot = map-parts old new site.machine boot (subst (λ read. Same old new (behind_sector old site.machine read)) is behind-same) in
      others-same site old new boot (same-joined old new (found_places (table_checks site.machine boot.table)) (behind_table old site.machine boot (each (table_checks site.machine boot.table))) parts.table parts.behind)

  apart-same : IsLineApart site old → IsLineApart site new
  apart-same apart boot place says named =
      let was : boot_at (old site.boot.disk site.boot.start) ≡ Ok boot = sym (ap boot_at boot-same) ∙ says in
      let both = apart boot place was named in
      (both.0, subst (λ (places : List DiskSector). All (λ (other : DiskSector). other ≢ place) places) (sym (others-kept boot was)) both.1)

pub spared_law : SparedLaw
spared_law site old new same = (record { body = body-same site old new same; line = line-same site old new same }, apart-same site old new same)

-- ---- the default line's sector

-- a place is itself, and another isn't
place-self : (place : DiskSector) → is_same_place place place ≡ true
place-self place = rw (eq-eqb place.disk place.disk refl, eq-eqb place.sector place.sector refl) refl

same-place : (one other : DiskSector) → is_same_place one other ≡ true → other ≡ one
same-place one other is =
    let both : ((one.disk == other.disk) ≡ true) × ((one.sector == other.sector) ≡ true) = and_parts (one.disk == other.disk) (one.sector == other.sector) is in
    let disk : other.disk ≡ one.disk = sym (eqb-true one.disk other.disk both.0) in
    let sector : other.sector ≡ one.sector = sym (eqb-true one.sector other.sector both.1) in
    let made : ℕ → ℕ → DiskSector = λ disk sector. record { disk = disk; sector = sector } in
    ap (λ n. made n other.sector) disk ∙ ap (made one.disk) sector

beside : (line place : DiskSector) → place ≢ line → is_beside (Some line) place ≡ true
beside line place other = by (is_same_place line place) refl
  where
    by : (same : Bool) → is_same_place line place ≡ same → not same ≡ true
    by true is = absurd (other (same-place line place is))
    by false is = refl

-- all of some are kept that aren't the line's
filter-others : (line : DiskSector) (places : List DiskSector) → AllByRecursion (λ other. other ≢ line) places → filter (is_beside (Some line)) places ≡ places
filter-others line [] all = refl
filter-others line (place ∷ places) all = rw (beside line place all.0, filter-others line places all.1) refl

pub with-self : (image : Image) (place : DiskSector) (bytes : List ℕ) → bytes_at (with_sector image place bytes) place ≡ bytes
with-self image place bytes = rw (place-self place) refl

-- each of some sectors has the bytes of an image
are-of : (image : Image) (places : List DiskSector) → AllByRecursion (λ (sector : Sector). bytes_at image sector.place ≡ sector.bytes) (map (sector_in image) places)
are-of image [] = tt
are-of image (place ∷ places) = (refl, are-of image places)

same-of : (image other : Image) (places : List DiskSector) → AllByRecursion (λ (sector : Sector). bytes_at other sector.place ≡ sector.bytes) (map (sector_in image) places) → Same image other places
same-of image other [] all = tt
same-of image other (place ∷ places) all = (all.0, same-of image other places all.1)

-- so have those of its body
pub of-body : (site : Site) (image : Image) → AllByRecursion (λ (sector : Sector). bytes_at image sector.place ≡ sector.bytes) (body_in site image)
unfolding body_in
of-body site image = are-of image (filter (is_beside (line_place site image)) (mapped_sectors image site.machine site.boot))

-- an image whose body has some places of another one is the same there
same-by : (site : Site) (image other : Image) (places : List DiskSector) → body_in site other ≡ map (sector_in image) places → Same image other places
same-by site image other places is =
    same-of image other places (subst (λ (sectors : List Sector). AllByRecursion (λ (sector : Sector). bytes_at other sector.place ≡ sector.bytes) sectors) is (of-body site other))

module _ (site : Site) (old : Image) (place : DiskSector) (names : NamesLine site old place) where
  abbrev pub others : List DiskSector
  others = others_behind site old names.boot

  boot-other : boot_place site ≢ place
  boot-other = (names.apart names.boot place names.says names.named).0

  others-other : AllByRecursion (λ other. other ≢ place) others
  others-other = recursion_from_All (λ (other : DiskSector). other ≢ place) others (names.apart names.boot place names.says names.named).1

  mapped-is : mapped_sectors old site.machine site.boot ≡ boot_place site ∷ (place ∷ others)
  unfolding mapped_sectors map_places others_behind
  mapped-is = rw (names.says, names.named) refl

  place-is : line_place site old ≡ Some place
  unfolding line_place
  place-is = rw (names.says, names.named) refl

  pub line-is : line_in site old ≡ result_ok (line_at (bytes_at old place))
  unfolding line_in present_line slot_bytes_at
  line-is = rw (names.says, names.named) refl

  body-is : body_in site old ≡ map (sector_in old) (boot_place site ∷ others)
  unfolding body_in
  body-is = rw (place-is, mapped-is, beside place (boot_place site) boot-other, place-self place, filter-others place others others-other) refl

-- a boot sector that names a line's sector
pub names-line : (site : Site) (image : Image) (place : DiskSector) → IsLineApart site image → line_place site image ≡ Some place → NamesLine site image place
unfolding line_place
names-line site image place apart is = by (boot_at (image site.boot.disk site.boot.start)) refl is
  where
    by : (read : Result BootSector MapFault) → boot_at (image site.boot.disk site.boot.start) ≡ read → place_by site.machine read ≡ Some place → NamesLine site image place
    by (Err fault) says is = cc
    by (Ok boot) says is = named (place_at site.machine boot.line 0) refl is
      where
        named : (found : Result DiskSector AddressFault) → place_at site.machine boot.line 0 ≡ found → result_ok found ≡ Some place → NamesLine site image place
        named (Err fault) at is = cc
        named (Ok there) at is =
            let same : there ≡ place = cc in
            record { boot = boot; says = says; named = at ∙ ap Ok same; apart = apart }

-- ---- an image with the same body

-- it is the same on all of these
pub same-others : (site : Site) (image : Image) (place : DiskSector) (names : NamesLine site image place) (c : Image) → body_in site c ≡ body_in site image
    → Same image c (boot_place site ∷ others site image place names)
same-others site image place names c body = same-by site image c (boot_place site ∷ others site image place names) (body ∙ body-is site image place names)

filter-all : (places : List DiskSector) → filter (is_beside None) places ≡ places
filter-all [] = refl
filter-all (place ∷ places) = ap (λ places. place ∷ places) (filter-all places)

-- and on all Mapped sectors, where no line's sector is among them
pub same-mapped : (site : Site) (image : Image) → line_place site image ≡ None → (c : Image) → body_in site c ≡ body_in site image
    → Same image c (mapped_sectors image site.machine site.boot)
unfolding body_in
same-mapped site image none c body =
    same-by site image c (mapped_sectors image site.machine site.boot)
    (body
    ∙ ap (λ line. map (sector_in image) (filter (is_beside line) (mapped_sectors image site.machine site.boot))) none
    ∙ ap (map (sector_in image)) (filter-all (mapped_sectors image site.machine site.boot)))

boot-of-body : (site : Site) (image c : Image) → IsLineApart site image → body_in site c ≡ body_in site image → c site.boot.disk site.boot.start ≡ image site.boot.disk site.boot.start
unfolding mapped_sectors
boot-of-body site image c apart body = by (line_place site image) refl
  where
    by : (found : Option DiskSector) → line_place site image ≡ found → c site.boot.disk site.boot.start ≡ image site.boot.disk site.boot.start
    by None is = (same-mapped site image is c body).0
    by (Some place) is = (same-others site image place (names-line site image place apart is) c body).0

-- the line's sector is apart there too
pub apart-of-body : (site : Site) (image c : Image) → IsLineApart site image → body_in site c ≡ body_in site image → IsLineApart site c
apart-of-body site image c apart body boot place says named =
    let was : boot_at (image site.boot.disk site.boot.start) ≡ Ok boot = sym (ap boot_at (boot-of-body site image c apart body)) ∙ says in
    let names : NamesLine site image place = record { boot = boot; says = was; named = named; apart = apart } in
    let both = apart boot place was named in
    let list : others_behind site c boot ≡ others_behind site image boot = others-same site image c boot (same-others site image place names c body).1 in
    (both.0, subst (λ (places : List DiskSector). All (λ (other : DiskSector). other ≢ place) places) (sym list) both.1)

-- ---- another line

module _ (site : Site) (old : Image) (place : DiskSector) (bytes : List ℕ) (names : NamesLine site old place) where
  abbrev new : Image
  new = with_sector old place bytes

  here-others : Same old new (boot_place site ∷ others site old place names)
  here-others =
      same-from_all old new (boot_place site ∷ others site old place names)
      (unlisted_law (boot_place site ∷ others site old place names) old place bytes
      (All-from_recursion (λ (other : DiskSector). other ≢ place) (boot_place site ∷ others site old place names) (boot-other site old place names, others-other site old place names)))

  pub boot-stays : new site.boot.disk site.boot.start ≡ old site.boot.disk site.boot.start
  boot-stays = here-others.0

  says-new : boot_at (new site.boot.disk site.boot.start) ≡ Ok names.boot
  says-new = ap boot_at here-others.0 ∙ names.says

  others-new : others_behind site new names.boot ≡ others site old place names
  others-new = others-same site old new names.boot here-others.1

  -- the boot sector that it says is this one
  ok-same : (one other : BootSector) → ◌≡◌ {A = Result BootSector MapFault} (Ok one) (Ok other) → one ≡ other
  ok-same one other is = cc

  names-new : NamesLine site new place
  names-new = record {
    boot = names.boot;
    says = says-new;
    named = names.named;
    apart = λ boot at says named.
        let same : names.boot ≡ boot = ok-same names.boot boot (sym says-new ∙ says) in
        let was : boot_at (old site.boot.disk site.boot.start) ≡ Ok boot = names.says ∙ ap Ok same in
        let both = names.apart boot at was named in
        let list : others_behind site new boot ≡ others_behind site old boot = subst (λ (boot : BootSector). others_behind site new boot ≡ others_behind site old boot) same others-new in
        (both.0, subst (λ (places : List DiskSector). All (λ (other : DiskSector). other ≢ at) places) (sym list) both.1);
  }

  other-line : (line : DefaultLine) → line_at bytes ≡ Ok line → HasOtherLine site old new place line
  unfolding names-new
  other-line line is = record {
    body = body-is site new place names-new
        ∙ ap (λ places. map (sector_in new) (boot_place site ∷ places)) others-new
        ∙ all-sectors (boot_place site ∷ others site old place names) here-others
        ∙ sym (body-is site old place names);
    line_is = line-is site new place names-new ∙ ap (λ bytes. result_ok (line_at bytes)) (with-self old place bytes) ∙ ap result_ok is;
    mapped = mapped-is site new place names-new ∙ ap (λ places. boot_place site ∷ (place ∷ places)) others-new ∙ sym (mapped-is site old place names);
    names = names-new;
  }
    where
      all-sectors : (places : List DiskSector) → Same old new places → map (sector_in new) places ≡ map (sector_in old) places
      all-sectors [] same = refl
      all-sectors (at ∷ places) same =
          ap (λ bytes. record { place = at; bytes = bytes } ∷ map (sector_in new) places) same.0 ∙ ap (λ sectors. sector_in old at ∷ sectors) (all-sectors places same.1)

pub other_line_law : OtherLineLaw
other_line_law site old place bytes line names is = other-line site old place bytes names line is

-- ---- what a body means

module _ (site : Site) (image : Image) (place : DiskSector) (meant : DefaultLine → List Key → ℕ → Boot) (names : NamesLine site image place)
    (boots : (bytes : List ℕ) (line : DefaultLine) → line_of_boot names.boot bytes ≡ Ok line → (keys : List Key) (memory : ℕ) → whole_boot (with_sector image place bytes) site.machine site.boot keys memory ≡ meant line keys memory)
    (c : Image) (line : DefaultLine) (body : body_in site c ≡ body_in site image) (has : line_in site c ≡ Some line) where
  -- the image with the sector of the line as it is there
  abbrev middle : Image
  middle = with_sector image place (bytes_at c place)

  here : Same image c (boot_place site ∷ others site image place names)
  here = same-others site image place names c body

  says-c : boot_at (c site.boot.disk site.boot.start) ≡ Ok names.boot
  says-c = ap boot_at here.0 ∙ names.says

  some-ok : (found : Result DefaultLine MapFault) → result_ok found ≡ Some line → found ≡ Ok line
  some-ok (Ok value) is = ap Ok (some-same value line is)
    where
      some-same : (one other : DefaultLine) → ◌≡◌ {A = Option DefaultLine} (Some one) (Some other) → one ≡ other
      some-same one other is = cc
  some-ok (Err fault) is = cc

  line-c : line_at (bytes_at c place) ≡ Ok line
  unfolding line_in present_line slot_bytes_at
  line-c =
      let is : line_in site c ≡ result_ok (line_at (bytes_at c place)) = rw (says-c, names.named) refl in
      some-ok (line_at (bytes_at c place)) (sym is ∙ has)

  there : Same image middle (boot_place site ∷ others site image place names)
  there = here-others site image place (bytes_at c place) names

  through : (places : List DiskSector) → Same image c places → Same image middle places → Same middle c places
  through [] one two = tt
  through (at ∷ places) one two = (one.0 ∙ sym two.0, through places one.1 two.1)

  all : Same middle c (boot_place site ∷ (place ∷ others site image place names))
  all =
      let both = through (boot_place site ∷ others site image place names) here there in
      (both.0, (sym (with-self image place (bytes_at c place)), both.1))

  mapped-middle : mapped_sectors middle site.machine site.boot ≡ boot_place site ∷ (place ∷ others site image place names)
  mapped-middle = (other-line site image place (bytes_at c place) names line line-c).mapped ∙ mapped-is site image place names

  means : (keys : List Key) (memory : ℕ) → whole_boot c site.machine site.boot keys memory ≡ meant line keys memory
  means keys memory =
      mapped_law middle c site.machine site.boot keys memory
      (subst (λ (places : List DiskSector). SameOn places middle c) (sym mapped-middle)
      (All-from_recursion (λ (at : DiskSector). bytes_at c at ≡ bytes_at middle at) (boot_place site ∷ (place ∷ others site image place names)) all))
      ∙ boots (bytes_at c place) line line-c keys memory

pub body_means_law : BodyMeansLaw
body_means_law site image place meant names boots c line body has keys memory = means site image place meant names boots c line body has keys memory

-- ---- the line's sector is listed

-- a place is at an index of some
pub record IsListed (place : DiskSector) (places : List DiskSector) : Type 0 where
  pub index : ℕ
  pub below : index < length places
  pub is : get_or places index place ≡ place

module _ (site : Site) (image : Image) (place : DiskSector) where
  listed-by : (read : Result BootSector MapFault) → place_by site.machine read ≡ Some place → IsListed place (boot_place site ∷ behind_sector image site.machine read)
  unfolding map_places
  listed-by (Err fault) is = cc
  listed-by (Ok boot) is = by (place_at site.machine boot.line 0) refl is
    where
      by : (found : Result DiskSector AddressFault) → place_at site.machine boot.line 0 ≡ found → result_ok found ≡ Some place
          → IsListed place (boot_place site ∷ map_places image site.machine boot)
      by (Err fault) at is = cc
      by (Ok there) at is =
          let same : there ≡ place = cc in
          rw at (record { index = 1; below = omega arith; is = same })

  pub line-mapped : line_place site image ≡ Some place → (index : ℕ) × (index < length (mapped_sectors image site.machine site.boot))
      × (get_or (mapped_sectors image site.machine site.boot) index place ≡ place)
  unfolding line_place mapped_sectors
  line-mapped is =
      let listed = listed-by (boot_at (image site.boot.disk site.boot.start)) is in
      (listed.index, listed.below, listed.is)
