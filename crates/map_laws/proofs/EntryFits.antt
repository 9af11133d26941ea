-- The entry of a section has bytes.
use Rattle.std.proofs.Common.{◌≡◌, ◌≤◌, ◌<◌, ℕ, zero, suc, ◌==◌, ◌^◌, Bool, true, false, ◌&&◌, ◌||◌, not, if◌then◌else◌, List, [], ◌∷◌, ◌++◌, drop, Option, None, Some, refl, sym, ap, subst, ◌∙◌, arith}
use Rattle.std.specs.Prelude.{is_some, unwrap_or, option_map, IfSome}
use Rattle.std.proofs.lemmas.Bool.Decides.{nat_tests}
use Rattle.lilo_model.specs.Disks.{Image, Machine, DiskSector}
use Rattle.lilo_model.specs.Slots.{Slot}
use Rattle.lilo_model.specs.Table.{Descriptor}
use Rattle.lilo_model.specs.Conf.{Config}
use Rattle.lilo_model.specs.Meant.{Target, Kernel, System}
use Rattle.lilo_model.specs.Plan.{MappedFile, MappedSection, slot_to, place_of_sector, section_sectors, slots_for, chain_for, optional_chain, needs_extra, extra_sectors, main_places, initrd_places, file_sectors, optional_sectors, chain_sectors, section_sectors_at, flags_of, descriptor_for}
use Rattle.map_laws.specs.Lies.{IsOneSlot, AreNamed, FileLies, OptionalLies, IsFitSection, IsName, TargetLies}
use Rattle.lilo_model.specs.Lays.{AreAt}
use Rattle.map_again_laws.specs.Fits.{FitsOptional, FitsFlags, FitsEntry}
use Rattle.map_laws.proofs.Files.{chain-is, slots-between}
use Rattle.map_laws.proofs.Entries.{lie-prefix, files-at, flags-of}

module _ (image : Image) (machine : Machine) (config : Config) (line_place zero_place : DiskSector) where
  abbrev to : DiskSector → Slot
  to = slot_to config.mode machine

  pub chain-some : (file : MappedFile) (bytes : List ℕ) → FileLies image machine config line_place zero_place file bytes → 1 ≤ chain_for config machine file
  chain-some file bytes lies = let is = chain-is image machine config line_place zero_place file in let count = lies.count in let some = lies.some in let most = (slots-between machine config file (omega (arith, count, some))).0 in omega (arith, is, most)

  chain-few : (file : MappedFile) (bytes : List ℕ) → FileLies image machine config line_place zero_place file bytes → chain_for config machine file < 2 ^ 16
  chain-few file bytes lies = let is = chain-is image machine config line_place zero_place file in let slots = lies.slots in omega (arith, is, slots)

  -- the first of the places of a file's sectors is named
  pub first-one : (file : MappedFile) (bytes : List ℕ) (own : List DiskSector) → FileLies image machine config line_place zero_place file bytes → AreNamed machine to own → AreAt image own (file_sectors config machine zero_place file own) → IsOneSlot (to (place_of_sector own 0))
  unfolding file_sectors
  first-one file bytes [] lies named lie = by-chain (chain_for config machine file) (chain-some file bytes lies) lie
    where
      by-chain : (chain : ℕ) → 1 ≤ chain → AreAt image [] (chain_sectors to chain (Rattle.lilo_model.specs.Plan.file_slots config machine zero_place file) (drop 1 [])) → IsOneSlot (to (place_of_sector [] 0))
      by-chain zero some lie = absurd (omega (arith, some))
      by-chain (suc chain) some lie = absurd lie
  first-one file bytes (place ∷ own) lies named lie = named.0.one

  module _ (mapped : MappedSection) (lawful : IsFitSection mapped.section) (own : List DiskSector) (name : List ℕ) where
    abbrev entry : Descriptor
    entry = descriptor_for config machine mapped own name

    -- what differs between a kernel and another system
    record Differs : Type 0 where
      system : (is_some mapped.section.other && (is_some mapped.section.vga || is_some mapped.initrd)) ≡ false
      size : (if not (is_some mapped.section.other) then not (mapped.main.size == 0) else if is_some mapped.section.table then mapped.main.size == 1024 else mapped.main.size == 512) ≡ true
      bytes : List ℕ
      main : FileLies image machine config line_place zero_place mapped.main bytes
      initrd : Option (List ℕ)
      ramdisk : OptionalLies image machine config line_place zero_place mapped.initrd initrd

    differs : (target : Target) → TargetLies image machine config line_place zero_place mapped target → Differs
    differs (Kernel bytes initrd middle video) lies = record {
      system = ap (λ other. is_some other && (is_some mapped.section.vga || is_some mapped.initrd)) lies.0;
      size = ap (λ other. if not (is_some other) then not (mapped.main.size == 0) else if is_some mapped.section.table then mapped.main.size == 1024 else mapped.main.size == 512) lies.0 ∙ some-size mapped.main.size (subst (λ n. 1 ≤ n) (sym lies.3.size) lies.3.some);
      bytes = bytes;
      main = lies.3;
      initrd = initrd;
      ramdisk = lies.4;
    }
      where
        some-size : (size : ℕ) → 1 ≤ size → not (size == 0) ≡ true
        some-size size some = let other : (size == 0) ≡ false = grind (arith, nat_tests) in rw other refl
    differs (System sector table) lies = record {
      system = ap (λ initrd. is_some mapped.section.other && (is_some mapped.section.vga || is_some initrd)) lies.2 ∙ no-video (is_some mapped.section.other) (is_some mapped.section.vga) lawful.system;
      size = ap (λ other. if not other then not (mapped.main.size == 0) else if is_some mapped.section.table then mapped.main.size == 1024 else mapped.main.size == 512) lies.0
          ∙ ap (λ has. if has then mapped.main.size == 1024 else mapped.main.size == 512) lies.1 ∙ by-table (is_some table) mapped.main.size (lies.3.lies.size ∙ lies.3.long);
      bytes = lies.3.bytes;
      main = lies.3.lies;
      initrd = None;
      ramdisk = subst (λ file. OptionalLies image machine config line_place zero_place file None) (sym lies.2) tt;
    }
      where
        no-video : (other video : Bool) → (other && video) ≡ false → (other && (video || false)) ≡ false
        no-video true true is = is
        no-video true false is = refl
        no-video false video is = refl

        by-table : (has : Bool) (size : ℕ) → size ≡ (if has then 1024 else 512) → (if has then size == 1024 else size == 512) ≡ true
        by-table false size is = rw is refl
        by-table true size is = rw is refl

    flags-fit : Differs → FitsFlags entry
    unfolding descriptor_for
    flags-fit d =
        let f = flags-of mapped in
        record {
          known = f.small;
          lock = rw (f.lock, f.fallback) lawful.lock;
          restricted = rw (f.restricted, f.password) lawful.restricted;
          table = rw (f.table, f.other) lawful.table;
          system = rw (f.other, f.video, f.initrd) d.system;
          video = rw f.video (by-video mapped.section.vga);
          size = rw (f.other, f.table) d.size;
          initrd = f.initrd ∙ some-map mapped.initrd;
          extra = rw (f.password, f.fallback) (some-if (needs_extra mapped.section));
          initrd_chain = by-initrd mapped.initrd d.initrd d.ramdisk;
        }
      where
        by-video : (video : Option ℕ) → (is_some video || (unwrap_or video 0 == 0)) ≡ true
        by-video None = refl
        by-video (Some mode) = refl

        some-map : (file : Option MappedFile) → is_some file ≡ is_some (option_map (λ (file : MappedFile). to (place_of_sector (initrd_places config machine mapped own) 0)) file)
        some-map None = refl
        some-map (Some file) = refl

        some-if : (b : Bool) → b ≡ is_some (if b then Some (to (place_of_sector own 1)) else None)
        some-if true = refl
        some-if false = refl

        by-initrd : (file : Option MappedFile) (initrd : Option (List ℕ)) → OptionalLies image machine config line_place zero_place file initrd
            → (if is_some (option_map (λ (file : MappedFile). to (place_of_sector (initrd_places config machine mapped own) 0)) file) then not (optional_chain config machine file == 0) else ((optional_chain config machine file == 0) && (unwrap_or (option_map (λ (file : MappedFile). file.size) file) 0 == 0))) ≡ true
        by-initrd None None lies = refl
        by-initrd None (Some bytes) lies = absurd lies
        by-initrd (Some file) None lies = absurd lies
        by-initrd (Some file) (Some bytes) lies = let some = chain-some file bytes lies in let other : (chain_for config machine file == 0) ≡ false = grind (arith, nat_tests) in rw other refl

-- a section's entry, at its places
pub entry-bytes-fit : (image : Image) (machine : Machine) (config : Config) (line_place zero_place : DiskSector) → (mapped : MappedSection) (target : Target) (own : List DiskSector) (name : List ℕ)
    → IsFitSection mapped.section → TargetLies image machine config line_place zero_place mapped target → IsName name
    → AreNamed machine (slot_to config.mode machine) own → AreAt image own (section_sectors_at config machine zero_place mapped own)
    → FitsEntry (descriptor_for config machine mapped own name)
unfolding section_sectors_at descriptor_for
entry-bytes-fit image machine config line_place zero_place mapped target [] name lawful lies is_name named lie = absurd lie
entry-bytes-fit image machine config line_place zero_place mapped target (first ∷ own) name lawful lies is_name named lie =
    let all = first ∷ own in
    let d = differs image machine config line_place zero_place mapped lawful all name target lies in
    let extras = extra_sectors mapped.section in
    let main = main_places mapped.section all in
    let ramdisk = initrd_places config machine mapped all in
    let mains = file_sectors config machine zero_place mapped.main main in
    let ramdisks = optional_sectors config machine zero_place mapped.initrd ramdisk in
    let at = files-at image machine config zero_place mapped first own named.1 lie.1 in
    record {
      name = is_name;
      flags = flags-fit image machine config line_place zero_place mapped lawful all name d;
      vga = vga-fits mapped.section.vga lawful.vga;
      main = subst (λ n. n < 2 ^ 32) (sym d.main.size) d.main.few;
      initrd_size = size-fits mapped.initrd d.initrd d.ramdisk;
      some_chain = chain-some image machine config line_place zero_place mapped.main d.bytes d.main;
      chain = chain-few image machine config line_place zero_place mapped.main d.bytes d.main;
      initrd_chain = ramdisk-chain mapped.initrd d.initrd d.ramdisk;
      options = named.0.one;
      first = first-one image machine config line_place zero_place mapped.main d.bytes main d.main at.named at.main;
      initrd = ramdisk-one mapped.initrd d.initrd d.ramdisk ramdisk at.named_ramdisk at.ramdisk;
      extra = extra-one (needs_extra mapped.section) own named.1 (lie-prefix image own extras (mains ++ ramdisks) lie.1);
    }
  where
    vga-fits : (vga : Option ℕ) → IfSome vga (λ mode. mode < 2 ^ 16) → unwrap_or vga 0 < 2 ^ 16
    vga-fits None fits = omega arith
    vga-fits (Some mode) fits = fits

    size-fits : (file : Option MappedFile) (initrd : Option (List ℕ)) → OptionalLies image machine config line_place zero_place file initrd → unwrap_or (option_map (λ (file : MappedFile). file.size) file) 0 < 2 ^ 32
    size-fits None initrd lies = omega arith
    size-fits (Some file) None lies = absurd lies
    size-fits (Some file) (Some bytes) lies = subst (λ n. n < 2 ^ 32) (sym lies.size) lies.few

    ramdisk-chain : (file : Option MappedFile) (initrd : Option (List ℕ)) → OptionalLies image machine config line_place zero_place file initrd → optional_chain config machine file < 2 ^ 16
    ramdisk-chain None initrd lies = omega arith
    ramdisk-chain (Some file) None lies = absurd lies
    ramdisk-chain (Some file) (Some bytes) lies = chain-few image machine config line_place zero_place file bytes lies

    ramdisk-one : (file : Option MappedFile) (initrd : Option (List ℕ)) → OptionalLies image machine config line_place zero_place file initrd → (places : List DiskSector) → AreNamed machine (slot_to config.mode machine) places → AreAt image places (optional_sectors config machine zero_place file places)
        → FitsOptional (option_map (λ (file : MappedFile). slot_to config.mode machine (place_of_sector places 0)) file)
    ramdisk-one None initrd lies places named lie = tt
    ramdisk-one (Some file) None lies places named lie = absurd lies
    ramdisk-one (Some file) (Some bytes) lies places named lie = first-one image machine config line_place zero_place file bytes places lies named lie

    extra-one : (has : Bool) (own : List DiskSector) → AreNamed machine (slot_to config.mode machine) own → AreAt image own (if has then Rattle.lilo_model.specs.Options.extra_bytes (record { fallback = unwrap_or mapped.section.fallback []; password = unwrap_or mapped.section.password [] }) ∷ [] else [])
        → FitsOptional (if has then Some (slot_to config.mode machine (place_of_sector (first ∷ own) 1)) else None)
    extra-one false own named lie = tt
    extra-one true [] named lie = absurd lie
    extra-one true (place ∷ own) named lie = named.0.one
