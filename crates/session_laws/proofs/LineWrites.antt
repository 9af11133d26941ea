-- A write of the default line's sector.
use Rattle.std.proofs.Common.{◌≡◌, ◌≢◌, ◌⊎◌, ◌<◌, ◌≤◌, ℕ, ◌+◌, ◌*◌, ◌-◌, ◌/◌, ◌%◌, ◌==◌, Bool, true, false, ◌&&◌, if◌then◌else◌, nat_lt, nat_le, List, ◌++◌, length, get_or, Option, Some, Result, Ok, Err, refl, sym, ap, subst, ◌∙◌, arith, inl, inr, eqb-true, eq-eqb, length-append}
use Rattle.std.proofs.lemmas.Bool.{leb-true, ltb-true}
use Rattle.std.proofs.lemmas.Bool.Decides.{nat_tests}
use Rattle.std.specs.List.{All}
use Rattle.lilo_model.specs.BootSector.{boot_at}
use Rattle.lilo_model.specs.Bytes.{part_of}
use Rattle.lilo_model.specs.Clear.{IsClearPlace, IsPlain, IsOfZone}
use Rattle.lilo_model.specs.DefaultLine.{DefaultLine}
use Rattle.lilo_model.specs.Disks.{Image, DiskSector, with_sector}
use Rattle.lilo_model.specs.MinixLayout.{Kind, V1Short, V1Long, V2Short, V2Long, Super, inode_size, table_start, table_blocks, inode_place, inode_of, zone_sector, super_sector, super_at}
use Rattle.lilo_model.specs.MinixFindNames.{leads_to_directory, link_text}
use Rattle.lilo_model.specs.MinixNames.{Thing, File, Named, PointsTo, Refers, HasSound, IsSound, names_in}
use Rattle.lilo_model.specs.MinixParts.{Volume, Pointer, sector_of, bit, inode_mark_sector, zone_bit, zone_mark_sector, parts_of, is_directory, is_file, is_link}
use Rattle.lilo_model.specs.NamePlaces.{with_tilde}
use Rattle.lilo_model.specs.Settled.{Holds, NamesInFile, is_foreign}
use Rattle.lilo_model.specs.Slots.{AddressFault, place_at}
use Rattle.minix_change_laws.proofs.Beside.{lies}
use Rattle.minix_change_laws.proofs.Laid.{Laid, mark-from, mark-below, zone_mark-from, zone_mark-below, place-from}
use Rattle.session_model.specs.Keeps.{Keeps, IsHeld}
use Rattle.session_model.specs.Site.{Site}
use Rattle.session_model.specs.State.{SaysLine, line_place}
use Rattle.session_model.specs.Step.{HasLine, KeepsNamesButLine}
use Rattle.session_laws.specs.Bodies.{HasOtherLine}
use Rattle.session_laws.specs.FileData.{KeepsButData, SoundButData}
use Rattle.session_laws.specs.Leads.{LeadsOn}
use Rattle.session_laws.specs.LineWrites.{LineWriteLaw}
use Rattle.session_laws.specs.Turns.{HeldLineLaw}
use Rattle.session_laws.proofs.Bodies.{boot-stays, line-mapped, names-line, other_line_law}
use Rattle.session_laws.proofs.FileData.{data_law}
use Rattle.session_laws.proofs.Leads.{name_path_law}

pub opened : (volume : Volume) (image : Image) → IsSound volume image → HasSound volume image
unfolding IsSound
opened volume image sound = sound

closed : (volume : Volume) (image : Image) → HasSound volume image → IsSound volume image
unfolding IsSound
closed volume image sound = sound

-- an inode lies in the table
place-by : (kind : Kind) (inodes start number : ℕ) → 0 < number → number ≤ inodes → 2 * start + (number - 1) * inode_size kind / 512 < 2 * (start + (inodes * inode_size kind + 1023) / 1024)
place-by V1Short inodes start number some range = omega arith
place-by V1Long inodes start number some range = omega arith
place-by V2Short inodes start number some range = omega arith
place-by V2Long inodes start number some range = omega arith

place-in : (super : Super) (number : ℕ) → 0 < number → number ≤ super.inodes → (inode_place super number).sector < 2 * (table_start super + table_blocks super)
unfolding inode_place
place-in super number some range = place-by super.kind super.inodes (table_start super) number some range

-- a place is a sector of a zone of the volume
record HitIn (site : Site) (place : DiskSector) (zone : ℕ) : Type 0 where
  sector : ℕ
  of : IsOfZone zone sector
  hit : place ≡ record { disk = site.volume.span.disk; sector = site.volume.span.start + sector }
  inside : sector < 2 * site.volume.layout.zones

module _ (site : Site) (old : Image) (place : DiskSector) (bytes : List ℕ) (keeps : Keeps site old) (is : line_place site old ≡ Some place) (long : length bytes ≡ 512) where
  abbrev volume : Volume
  volume = site.volume

  abbrev new : Image
  new = with_sector old place bytes

  -- all is kept with this line, and so is Held
  abbrev Written : DefaultLine → Type 0
  Written line = (Keeps site new × HasLine site (Some line) old new) × ((text : List ℕ) → IsHeld site text old → IsHeld site text new)

  -- the place is this sector of the volume
  abbrev Hit : ℕ → Type 0
  Hit sector = place ≡ record { disk = site.volume.span.disk; sector = site.volume.span.start + sector }

  sound : HasSound site.volume old
  sound = opened site.volume old keeps.sound

  plain : (sector : ℕ) → Hit sector → sector < 2 * site.volume.layout.zones → IsPlain site.volume old sector
  plain sector hit inside =
      let listed = line-mapped site old place is in
      keeps.clear listed.0 place listed.1 sector (listed.2 ∙ hit) inside

  -- ---- sectors

  sector-by : (sector : ℕ) (disk here : Bool) → (place.disk == site.volume.span.disk) ≡ disk → (place.sector == site.volume.span.start + sector) ≡ here
      → ((if disk && here then bytes else sector_of site.volume old sector) ≡ sector_of site.volume old sector) ⊎ Hit sector
  sector-by sector false here one two = inl refl
  sector-by sector true false one two = inl refl
  sector-by sector true true one two =
      let disk : place.disk ≡ site.volume.span.disk = eqb-true place.disk site.volume.span.disk one in
      let here : place.sector ≡ site.volume.span.start + sector = eqb-true place.sector (site.volume.span.start + sector) two in
      let made : ℕ → ℕ → DiskSector = λ disk sector. record { disk = disk; sector = sector } in
      inr (ap (λ n. made n place.sector) disk ∙ ap (made site.volume.span.disk) here)

  sector-or : (sector : ℕ) → (sector_of site.volume new sector ≡ sector_of site.volume old sector) ⊎ Hit sector
  sector-or sector = sector-by sector (place.disk == site.volume.span.disk) (place.sector == site.volume.span.start + sector) refl refl

  other-sector : (sector : ℕ) → (Hit sector → ⊥) → sector_of site.volume new sector ≡ sector_of site.volume old sector
  other-sector sector none = by (sector-or sector)
    where
      by : (sector_of site.volume new sector ≡ sector_of site.volume old sector) ⊎ Hit sector → sector_of site.volume new sector ≡ sector_of site.volume old sector
      by (inl same) = same
      by (inr hit) = absurd (none hit)

  whole-by : (d s : ℕ) (test : Bool) → length (old d s) ≡ 512 → length (if test then bytes else old d s) ≡ 512
  whole-by d s true before = long
  whole-by d s false before = before

  sector-long : (sector : ℕ) → sector < 2 * site.volume.layout.zones → length (sector_of site.volume new sector) ≡ 512
  sector-long sector inside = whole-by site.volume.span.disk (site.volume.span.start + sector) ((place.disk == site.volume.span.disk) && (place.sector == site.volume.span.start + sector)) (sound.whole sector inside)

  -- a sector of the tables stays
  table-sector : (sector : ℕ) → 2 ≤ sector → sector < 2 * (table_start site.volume.layout + table_blocks site.volume.layout)
      → sector_of site.volume new sector ≡ sector_of site.volume old sector
  table-sector sector from to =
      let laid : Laid site.volume.layout = lies site.volume old sound in
      let inside : sector < 2 * site.volume.layout.zones = omega (arith, to, laid.table, laid.first) in
      other-sector sector (λ hit. by (plain sector hit inside).tables)
    where
      by : (sector < super_sector) ⊎ (2 * (table_start site.volume.layout + table_blocks site.volume.layout) ≤ sector) → ⊥
      by (inl low) = omega (arith, low, from)
      by (inr high) = omega (arith, high, to)

  -- ---- by the zone in which the place lies, where it lies in one

  module _ (zone : ℕ)
      (here : (other sector : ℕ) → other < site.volume.layout.zones → IsOfZone other sector → Hit sector → other ≡ zone)
      (only-by : (number : ℕ) (at : Pointer) → Refers site.volume.layout (parts_of site.volume old) number at zone
      → HitIn site place zone) where
    in-range : (number : ℕ) → Named site.volume.layout (parts_of site.volume old) number → (0 < number) × (number ≤ site.volume.layout.inodes)
    in-range number named = sound.parts.in_range number named

    zones-same : (other : ℕ) → other < site.volume.layout.zones → other ≢ zone → (parts_of site.volume new).zone other ≡ (parts_of site.volume old).zone other
    unfolding parts_of
    zones-same other inside apart =
        ap (λ first. first ++ sector_of site.volume new (zone_sector other + 1)) (other-sector (zone_sector other) (λ hit. apart (here other (zone_sector other) inside (inl refl) hit)))
        ∙ ap (λ second. sector_of site.volume old (zone_sector other) ++ second) (other-sector (zone_sector other + 1) (λ hit. apart (here other (zone_sector other + 1) inside (inr refl) hit)))

    zone-long : (image : Image) → length (sector_of site.volume image (zone_sector zone)) ≡ 512 → length (sector_of site.volume image (zone_sector zone + 1)) ≡ 512
        → length ((parts_of site.volume image).zone zone) ≡ 1024
    unfolding parts_of
    zone-long image one two = length-append (sector_of site.volume image (zone_sector zone)) (sector_of site.volume image (zone_sector zone + 1)) ∙ omega (arith, one, two)

    but-data : KeepsButData site.volume.layout (parts_of site.volume old) (parts_of site.volume new) zone
    unfolding parts_of
    but-data = record {
      nodes = λ number named.
          let range = in-range number named in
          let from = place-from site.volume.layout (lies site.volume old sound) number in
          ap (λ bytes. inode_of site.volume.layout.kind (part_of bytes (inode_place site.volume.layout number).at (inode_size site.volume.layout.kind)))
          (table-sector (inode_place site.volume.layout number).sector (omega (arith, from)) (place-in site.volume.layout number range.0 range.1));
      marks = λ number named.
          let range = in-range number named in
          let laid = lies site.volume old sound in
          let from = mark-from site.volume.layout laid number in
          let below = mark-below site.volume.layout laid number range.1 in
          ap (λ bytes. bit bytes (number % 4096)) (table-sector (inode_mark_sector number) (omega (arith, from)) (omega (arith, below)));
      zones = λ number at other refers apart. zones-same other (sound.parts.zone_range number at other refers).1 apart;
      zone_marks = λ number at other refers.
          let laid = lies site.volume old sound in
          let range = sound.parts.zone_range number at other refers in
          let from = zone_mark-from site.volume.layout laid other in
          let below = zone_mark-below site.volume.layout laid other range.1 in
          ap (λ bytes. bit bytes (zone_bit site.volume.layout other % 4096)) (table-sector (zone_mark_sector site.volume.layout other) (omega (arith, from)) (omega (arith, below)));
      only = λ number at refers.
          let found = only-by number at refers in
          let parts = (plain found.sector found.hit found.inside).zones number at zone refers found.of in
          (parts.0, (parts.1, keeps.off_links place is number at zone found.sector refers found.of found.hit));
      long = λ number at refers.
          let range = (sound.parts.zone_range number at zone refers).1 in
          let low : zone_sector zone < 2 * site.volume.layout.zones = omega (arith, range) in
          let high : zone_sector zone + 1 < 2 * site.volume.layout.zones = omega (arith, range) in
          zone-long new (sector-long (zone_sector zone) low) (sector-long (zone_sector zone + 1) high)
          ∙ sym (zone-long old (sound.whole (zone_sector zone) low) (sound.whole (zone_sector zone + 1) high));
    }

    after : SoundButData site.volume.layout (parts_of site.volume old) (parts_of site.volume new) zone
    after = data_law site.volume.layout (parts_of site.volume old) (parts_of site.volume new) zone sound.parts but-data

    sound-new : HasSound site.volume new
    sound-new =
        let laid = lies site.volume old sound in
        record {
          super = ap (λ bytes. super_at bytes site.volume.span.count) (table-sector super_sector (omega arith) (omega (arith))) ∙ sound.super;
          whole = sector-long;
          parts = after.sound;
        }

    node-same : (number : ℕ) → Named site.volume.layout (parts_of site.volume old) number → (parts_of site.volume new).node number ≡ (parts_of site.volume old).node number
    node-same = but-data.nodes

    -- ---- names

    names-new : KeepsNamesButLine site old new
    unfolding names_in
    names-new = record {
      others = λ path none. after.others path (λ number at leads to.
          let refers : Refers site.volume.layout (parts_of site.volume old) number at zone = record { named = record { path = path; leads = leads }; to = to } in
          let found = only-by number at refers in
          none (
            place,
            is,
            record {
              number = number;
              leads = leads;
              lies = record { at = at; zone = zone; sector = found.sector; points = to; is = found.hit; of = found.of };
            },
          ));
      file = λ path line.
          let into = line.2 in
          let same : place ≡ line.0 = some-same place line.0 (sym is ∙ line.1) in
          let refers : Refers site.volume.layout (parts_of site.volume old) into.number into.lies.at into.lies.zone = record { named = record { path = path; leads = into.leads }; to = into.lies.points } in
          let inside = (sound.parts.zone_range into.number into.lies.at into.lies.zone refers).1 in
          let there : into.lies.zone ≡ zone = here into.lies.zone into.lies.sector inside into.lies.of (same ∙ into.lies.is) in
          after.file path into.number into.lies.at into.leads (subst (PointsTo site.volume.layout (parts_of site.volume old) into.number into.lies.at) there into.lies.points);
    }
      where
        some-same : (one other : DiskSector) → ◌≡◌ {A = Option DiskSector} (Some one) (Some other) → one ≡ other
        some-same one other is = cc

    -- ---- Held

    -- only a regular file's bytes are others, so a text leads where it led
    leads-on : LeadsOn (names_in site.volume old) (names_in site.volume new)
    leads-on = record {
      directories = λ path is. subst (λ thing. leads_to_directory thing ≡ true) (sym (names-new.others path (λ line. let again = names-new.file path line in no-directory (names_in site.volume old path) again.before again.was is))) is;
      links = λ path text is. subst (λ thing. link_text thing ≡ Some text) (sym (names-new.others path (λ line. let again = names-new.file path line in no-link (names_in site.volume old path) again.before text again.was is))) is;
    }
      where
        no-directory : (thing : Option Thing) (bytes : List ℕ) → thing ≡ Some (File bytes) → leads_to_directory thing ≡ true → ⊥
        no-directory thing bytes is directory = let clash : leads_to_directory (Some (File bytes)) ≡ true = rw is at directory in cc

        no-link : (thing : Option Thing) (bytes text : List ℕ) → thing ≡ Some (File bytes) → link_text thing ≡ Some text → ⊥
        no-link thing bytes text is link = let clash : link_text (Some (File bytes)) ≡ Some text = rw is at link in cc

    boot-same : new site.boot.disk site.boot.start ≡ old site.boot.disk site.boot.start
    boot-same = boot-stays site old place bytes (names-line site old place keeps.line_apart is)

    holds-new : (path : List (List ℕ)) → Holds old site.machine site.volume site.boot path → Holds new site.machine site.volume site.boot path
    holds-new path holds = record {
      boot = holds.boot;
      says = ap boot_at boot-same ∙ holds.says;
      number = holds.number;
      leads = after.leads path ∙ holds.leads;
      regular = ap (λ node. is_file node) (node-same holds.number named) ∙ holds.regular;
      table = λ index default below. by (place_at site.machine (get_or holds.boot.table index default) 0) (holds.table index default below);
    }
      where
        named : Named site.volume.layout (parts_of site.volume old) holds.number
        named = record { path = path; leads = holds.leads }

        by : (found : Result DiskSector AddressFault) → NamesInFile site.machine site.volume old holds.number found → NamesInFile site.machine site.volume new holds.number found
        by (Ok at) lies = record {
          at = lies.at;
          zone = lies.zone;
          sector = lies.sector;
          points = (after.refers_new holds.number lies.at lies.zone (record { named = named; to = lies.points })).to;
          is = lies.is;
          of = lies.of;
        }
        by (Err fault) lies = lies

    held-new : (text : List ℕ) → IsHeld site text old → IsHeld site text new
    held-new text (inl foreign) = inl (ap is_foreign boot-same ∙ foreign)
    held-new text (inr holder) = inr (record {
      path = holder.path;
      is = name_path_law (names_in site.volume old) (names_in site.volume new) text holder.path leads-on holder.is;
      holds = by holder.holds;
    })
      where
        by : Holds old site.machine site.volume site.boot holder.path ⊎ Holds old site.machine site.volume site.boot (with_tilde holder.path)
            → Holds new site.machine site.volume site.boot holder.path ⊎ Holds new site.machine site.volume site.boot (with_tilde holder.path)
        by (inl at) = inl (holds-new holder.path at)
        by (inr at) = inr (holds-new (with_tilde holder.path) at)

    -- ---- the whole

    module _ (line : DefaultLine) (says : SaysLine site old bytes line) where
      changed : HasOtherLine site old new place line
      changed =
          let names = names-line site old place keeps.line_apart is in
          other_line_law site old place bytes line names (says names.boot names.says)

      place-new : (other : DiskSector) → line_place site new ≡ Some other → line_place site old ≡ Some other
      unfolding line_place
      place-new other named =
          let before = names-line site old place keeps.line_apart is in
          let there : line_place site new ≡ Some place = rw (changed.names.says, changed.names.named) refl in
          is ∙ (sym there ∙ named)

      keeps-new : Keeps site new
      keeps-new = record {
        whole = λ d s there. whole-by d s ((place.disk == d) && (place.sector == s)) (keeps.whole d s there);
        sound = closed site.volume new sound-new;
        clear = subst (λ (places : List DiskSector). All (IsClearPlace site.volume new) places) (sym changed.mapped)
            (λ index default below sector at inside.
            let was : IsPlain site.volume old sector = keeps.clear index default below sector at inside in
            record {
              tables = was.tables;
              zones = λ number at zone refers of.
                  let before = after.refers_old number at zone refers in
                  let kinds = was.zones number at zone before of in
                  (ap (λ node. is_directory node) (node-same number before.named) ∙ kinds.0, kinds.1);
            });
        line_apart = changed.names.apart;
        off_links = λ other named number at zone sector refers of at_place.
            let before = after.refers_old number at zone refers in
            ap (λ node. is_link node) (node-same number before.named) ∙ keeps.off_links other (place-new other named) number at zone sector before of at_place;
      }

      written : Written line
      written = ((keeps-new, record { body = changed.body; line = changed.line_is; names = names-new }), held-new)

  -- ---- where the place lies

  module _ (line : DefaultLine) (says : SaysLine site old bytes line) where
    outside : ((sector : ℕ) → sector < 2 * site.volume.layout.zones → Hit sector → ⊥) → Written line
    outside none =
        written site.volume.layout.zones
        (λ other sector inside of hit. absurd (none sector (below other sector inside of) hit))
        (λ number at refers. let range = (sound.parts.zone_range number at site.volume.layout.zones refers).1 in absurd (omega (arith, range)))
        line says
      where
        below : (other sector : ℕ) → other < site.volume.layout.zones → IsOfZone other sector → sector < 2 * site.volume.layout.zones
        below other sector inside (inl at) = omega (arith, inside, at)
        below other sector inside (inr at) = omega (arith, inside, at)

    inside-at : (there : ℕ) → Hit there → there < 2 * site.volume.layout.zones → Written line
    inside-at there hit inside =
        written (there / 2)
        (λ other sector low of at.
        let same : site.volume.span.start + there ≡ site.volume.span.start + sector = ap (λ (place : DiskSector). place.sector) (sym hit ∙ at) in
        zone-is other sector of (omega (arith, same)))
        (λ number at refers. record { sector = there; of = of-half (there % 2) refl; hit = hit; inside = inside })
        line says
      where
        zone-is : (other sector : ℕ) → IsOfZone other sector → sector ≡ there → other ≡ there / 2
        zone-is other sector (inl at) same = omega (arith, at, same)
        zone-is other sector (inr at) same = omega (arith, at, same)

        of-half : (rest : ℕ) → there % 2 ≡ rest → IsOfZone (there / 2) there
        of-half rest is = by (rest == 0) refl
          where
            by : (even : Bool) → (rest == 0) ≡ even → IsOfZone (there / 2) there
            by true test = let zero : rest ≡ 0 = eqb-true rest 0 test in inl (omega (arith, is, zero))
            by false test = let some : rest ≢ 0 = λ e. let t = eq-eqb rest 0 e in cc in inr (omega (arith, is, some))

    all : Written line
    all = by (place.disk == site.volume.span.disk) refl (nat_le site.volume.span.start place.sector) refl (nat_lt place.sector (site.volume.span.start + 2 * site.volume.layout.zones)) refl
      where
        sector-of : (sector : ℕ) → Hit sector → (place.disk ≡ site.volume.span.disk) × (place.sector ≡ site.volume.span.start + sector)
        sector-of sector hit = (ap (λ (place : DiskSector). place.disk) hit, ap (λ (place : DiskSector). place.sector) hit)

        by : (disk : Bool) → (place.disk == site.volume.span.disk) ≡ disk → (from : Bool) → nat_le site.volume.span.start place.sector ≡ from
            → (to : Bool) → nat_lt place.sector (site.volume.span.start + 2 * site.volume.layout.zones) ≡ to → Written line
        by false one from two to three = outside (λ sector inside hit. let at = sector-of sector hit in let t = eq-eqb place.disk site.volume.span.disk at.0 in absurd cc)
        by true one false two to three = outside (λ sector inside hit. let at = (sector-of sector hit).1 in absurd (grind (arith, nat_tests, two, at)))
        by true one true two false three = outside (λ sector inside hit. let at = (sector-of sector hit).1 in absurd (grind (arith, nat_tests, three, at, inside)))
        by true one true two true three =
            let disk : place.disk ≡ site.volume.span.disk = eqb-true place.disk site.volume.span.disk one in
            let from : site.volume.span.start ≤ place.sector = leb-true site.volume.span.start place.sector two in
            let to : place.sector < site.volume.span.start + 2 * site.volume.layout.zones = ltb-true place.sector (site.volume.span.start + 2 * site.volume.layout.zones) three in
            let sector : place.sector ≡ site.volume.span.start + (place.sector - site.volume.span.start) = omega (arith, from) in
            let made : ℕ → ℕ → DiskSector = λ disk sector. record { disk = disk; sector = sector } in
            inside-at (place.sector - site.volume.span.start) (ap (λ n. made n place.sector) disk ∙ ap (made site.volume.span.disk) sector) (omega (arith, from, to))

pub line_write_law : LineWriteLaw
line_write_law site old place bytes line keeps is long says = (all site old place bytes keeps is long line says).0

pub held_line_law : HeldLineLaw
held_line_law site old place bytes line text keeps is long says held = (all site old place bytes keeps is long line says).1 text held
