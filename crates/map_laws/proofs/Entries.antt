-- The entries of a section, as they are read from the map.
use Rattle.std.proofs.Common.{◌≡◌, ◌≤◌, ℕ, zero, suc, Bool, true, false, ◌||◌, if◌then◌else◌, List, [], ◌∷◌, ◌++◌, length, drop, Option, None, Some, Ok, refl, ap, subst, ◌∙◌, arith}
use Rattle.std.specs.Prelude.{is_some, unwrap_or, option_map, option_and_then, IfSome}
use Rattle.std.specs.Result.{result_ok}
use Rattle.lilo_model.specs.Checks.{◌>>=◌, with_fault}
use Rattle.lilo_model.specs.Disks.{Image, Machine, DiskSector, bytes_at, with_sector}
use Rattle.lilo_model.specs.Slots.{Slot}
use Rattle.lilo_model.specs.Table.{Descriptor, password_flag}
use Rattle.lilo_model.specs.Options.{Extra, options_bytes, extra_at, extra_bytes}
use Rattle.lilo_model.specs.LineSector.{line_bytes}
use Rattle.lilo_model.specs.Boot.{slot_bytes_at, optional_at, extra_slot, entry_has, password_at, listed_entry, middle_of, main_of, initrd_of, initrd_size}
use Rattle.lilo_model.specs.Conf.{Config, ConfSection}
use Rattle.lilo_model.specs.Meant.{Target, Kernel, System, MenuEntry, menu_entry, middle_text}
use Rattle.lilo_model.specs.Plan.{MappedFile, MappedSection, slot_to, place_of_sector, file_slots, needs_extra, extra_sectors, main_places, initrd_places, kept_middle, file_sectors, optional_sectors, section_sectors_at, flags_of, descriptor_for, chain_for, optional_chain, chain_sectors}
use Rattle.map_laws.specs.Shows.{whole, ShowsKernel, ShowsSystem, ShowsTarget, target_middle, ShowsEntry}
use Rattle.map_laws.specs.Lies.{IsNamed, AreNamed, IsNone, OptionalLies, IsFitSection, TargetLies}
use Rattle.lilo_model.specs.Lays.{AreAt}
use Rattle.map_again_laws.proofs.Texts.{options_again, extra_again}
use Rattle.map_laws.proofs.Flags.{FlagsAre, flags-are}
use Rattle.map_laws.proofs.Files.{file-shown, file-still, lie-still}

-- ---- sectors one after the other

pub lie-prefix : (image : Image) (places : List DiskSector) (prefix suffix : List (List ℕ)) → AreAt image places (prefix ++ suffix) → AreAt image places prefix
lie-prefix image places [] suffix lie = tt
lie-prefix image [] (bytes ∷ prefix) suffix lie = absurd lie
lie-prefix image (place ∷ places) (bytes ∷ prefix) suffix lie = (lie.0, lie-prefix image places prefix suffix lie.1)

pub lie-suffix : (image : Image) (places : List DiskSector) (prefix suffix : List (List ℕ)) → AreAt image places (prefix ++ suffix) → AreAt image (drop (length prefix) places) suffix
lie-suffix image places [] suffix lie = lie
lie-suffix image [] (bytes ∷ prefix) suffix lie = absurd lie
lie-suffix image (place ∷ places) (bytes ∷ prefix) suffix lie = lie-suffix image places prefix suffix lie.1

pub named-drop : (machine : Machine) (to : DiskSector → Slot) (count : ℕ) (places : List DiskSector) → AreNamed machine to places → AreNamed machine to (drop count places)
named-drop machine to zero places named = named
named-drop machine to (suc count) [] named = tt
named-drop machine to (suc count) (place ∷ places) named = named-drop machine to count places named.1

pub none-drop : (line_place : DiskSector) (count : ℕ) (places : List DiskSector) → IsNone line_place places → IsNone line_place (drop count places)
none-drop line_place zero places none = none
none-drop line_place (suc count) [] none = tt
none-drop line_place (suc count) (place ∷ places) none = none-drop line_place count places none.1

pub length-chain : (to : DiskSector → Slot) (count : ℕ) (slots : List Slot) (after : List DiskSector) → length (chain_sectors to count slots after) ≡ count
length-chain to zero slots after = refl
length-chain to (suc count) slots after = ap suc (length-chain to count (drop 63 slots) (drop 1 after))

pub length-file : (config : Config) (machine : Machine) (zero_place : DiskSector) (file : MappedFile) (places : List DiskSector) → length (file_sectors config machine zero_place file places) ≡ chain_for config machine file
unfolding file_sectors
length-file config machine zero_place file places = length-chain (slot_to config.mode machine) (chain_for config machine file) (file_slots config machine zero_place file) (drop 1 places)

pub length-optional : (config : Config) (machine : Machine) (zero_place : DiskSector) (file : Option MappedFile) (places : List DiskSector) → length (optional_sectors config machine zero_place file places) ≡ optional_chain config machine file
length-optional config machine zero_place None places = refl
length-optional config machine zero_place (Some file) places = length-file config machine zero_place file places

-- the section sectors of a section's files lie at their places, and those have slots
pub record FilesAt (image : Image) (machine : Machine) (config : Config) (zero_place : DiskSector) (mapped : MappedSection) (own : List DiskSector) : Type 0 where
  pub named : AreNamed machine (slot_to config.mode machine) (main_places mapped.section own)
  pub named_ramdisk : AreNamed machine (slot_to config.mode machine) (initrd_places config machine mapped own)
  pub main : AreAt image (main_places mapped.section own) (file_sectors config machine zero_place mapped.main (main_places mapped.section own))
  pub ramdisk : AreAt image (initrd_places config machine mapped own) (optional_sectors config machine zero_place mapped.initrd (initrd_places config machine mapped own))

-- the sectors of a section after its first lie one after the other
pub files-at : (image : Image) (machine : Machine) (config : Config) (zero_place : DiskSector) (mapped : MappedSection) (first : DiskSector) (own : List DiskSector) → AreNamed machine (slot_to config.mode machine) own
    → AreAt image own (extra_sectors mapped.section ++ (file_sectors config machine zero_place mapped.main (main_places mapped.section (first ∷ own)) ++ optional_sectors config machine zero_place mapped.initrd (initrd_places config machine mapped (first ∷ own))))
    → FilesAt image machine config zero_place mapped (first ∷ own)
files-at image machine config zero_place mapped first own named lie =
    let to = slot_to config.mode machine in
    let all = first ∷ own in
    let extras = extra_sectors mapped.section in
    let main = main_places mapped.section all in
    let ramdisk = initrd_places config machine mapped all in
    let mains = file_sectors config machine zero_place mapped.main main in
    let ramdisks = optional_sectors config machine zero_place mapped.initrd ramdisk in
    let after = lie-suffix image own extras (mains ++ ramdisks) lie in
    let named_main = named-drop machine to (length extras) own named in
    record {
      named = named_main;
      named_ramdisk = named-drop machine to (chain_for config machine mapped.main) main named_main;
      main = lie-prefix image main mains ramdisks after;
      ramdisk = subst (λ n. AreAt image (drop n main) ramdisks) (length-file config machine zero_place mapped.main main) (lie-suffix image main mains ramdisks after);
    }

-- the same of all its sectors
pub section-at : (image : Image) (machine : Machine) (config : Config) (zero_place : DiskSector) (mapped : MappedSection) (own : List DiskSector) → AreNamed machine (slot_to config.mode machine) own
    → AreAt image own (section_sectors_at config machine zero_place mapped own) → FilesAt image machine config zero_place mapped own
unfolding section_sectors_at
section-at image machine config zero_place mapped [] named lie = absurd lie
section-at image machine config zero_place mapped (first ∷ own) named lie = files-at image machine config zero_place mapped first own named.1 lie.1

-- ---- a slot's sector

pub slot-read : (image : Image) (machine : Machine) (to : DiskSector → Slot) (place : DiskSector) (bytes : List ℕ) → IsNamed machine to place → bytes_at image place ≡ bytes → slot_bytes_at image machine (to place) ≡ Ok bytes
unfolding slot_bytes_at
slot-read image machine to place bytes named is = rw named.names (ap Ok is)

-- ---- the flags of a section

pub flags-of : (mapped : MappedSection) → FlagsAre (flags_of mapped) (is_some mapped.section.other) (is_some mapped.section.password) mapped.section.restricted mapped.section.lock (is_some mapped.section.fallback) (is_some mapped.section.vga) (is_some mapped.initrd) (is_some mapped.section.table)
unfolding flags_of
flags-of mapped = flags-are (is_some mapped.section.other) (is_some mapped.section.password) mapped.section.restricted mapped.section.lock (is_some mapped.section.fallback) (is_some mapped.section.vga) (is_some mapped.initrd) (is_some mapped.section.table)

-- ---- one section

abbrev texts_of : ConfSection → Extra
texts_of section = record { fallback = unwrap_or section.fallback []; password = unwrap_or section.password [] }

-- an entry is read from the map as one of the menu
pub record EntryShown (image : Image) (machine : Machine) (line_place : DiskSector) (entry : Descriptor) (meant : MenuEntry) : Type 0 where
  pub shows : ShowsEntry image machine line_place entry meant
  pub extra : Option (List ℕ)
  pub extra_is : optional_at image machine (extra_slot password_flag entry) ≡ Ok extra
  pub password : password_at extra ≡ Ok meant.listed.password
  pub listed : listed_entry image machine (entry, meant.listed.password) ≡ meant.listed

module _ (image : Image) (machine : Machine) (config : Config) (line_place zero_place : DiskSector) (mapped : MappedSection) (lawful : IsFitSection mapped.section) where
  abbrev to : DiskSector → Slot
  to = slot_to config.mode machine

  abbrev entry_at_own : List DiskSector → List ℕ → Descriptor
  entry_at_own own name = descriptor_for config machine mapped own name

  -- the extra sector, where there is one
  abbrev ExtraRead : List DiskSector → Type 0
  ExtraRead own = needs_extra mapped.section ≡ true → slot_bytes_at image machine (to (place_of_sector own 1)) ≡ Ok (extra_bytes (texts_of mapped.section))

  extra-read : (first : DiskSector) (own : List DiskSector) → AreNamed machine to own → AreAt image own (extra_sectors mapped.section) → ExtraRead (first ∷ own)
  extra-read first own named lie has = by-own own named (subst (λ b. AreAt image own (if b then extra_bytes (texts_of mapped.section) ∷ [] else [])) has lie)
    where
      by-own : (own : List DiskSector) → AreNamed machine to own → AreAt image own (extra_bytes (texts_of mapped.section) ∷ []) → slot_bytes_at image machine (to (place_of_sector (first ∷ own) 1)) ≡ Ok (extra_bytes (texts_of mapped.section))
      by-own [] named lie = absurd lie
      by-own (place ∷ own) named lie = slot-read image machine to place (extra_bytes (texts_of mapped.section)) named.0 lie.0

  extra-texts : extra_at (extra_bytes (texts_of mapped.section)) ≡ Ok (texts_of mapped.section)
  extra-texts = extra_again (texts_of mapped.section) (short mapped.section.fallback 255 lawful.fallback) (short mapped.section.password 31 lawful.password)
    where
      short : (text : Option (List ℕ)) (most : ℕ) → IfSome text (λ text. length text ≤ most) → length (unwrap_or text []) ≤ most
      short None most is = omega arith
      short (Some text) most is = is

  -- an extra sector that a flag asks for
  asked-read : (own : List DiskSector) (name : List ℕ) (asked : Option (List ℕ)) → (is_some asked ≡ true → needs_extra mapped.section ≡ true) → ExtraRead own
      → optional_at image machine (if is_some asked then (entry_at_own own name).extra else None) ≡ Ok (option_map (λ text. extra_bytes (texts_of mapped.section)) asked)
  unfolding descriptor_for
  asked-read own name None has read = refl
  asked-read own name (Some text) has read = let h = has refl in rw (h, read h) refl

  -- the password and the fallback
  password-read : (texts : Option (List ℕ)) → mapped.section.password ≡ texts → password_at (option_map (λ text. extra_bytes (texts_of mapped.section)) texts) ≡ Ok texts
  password-read None is = refl
  password-read (Some text) is = rw extra-texts (ap (λ password. Ok (Some (unwrap_or password []))) is)

  fallback-read : (own : List DiskSector) (name : List ℕ) (texts : Option (List ℕ)) → mapped.section.fallback ≡ texts → (is_some texts ≡ true → needs_extra mapped.section ≡ true) → ExtraRead own
      → option_and_then (λ slot. option_and_then (λ bytes. option_map (λ (extra : Extra). extra.fallback) (result_ok (extra_at bytes))) (result_ok (slot_bytes_at image machine slot))) (if is_some texts then (entry_at_own own name).extra else None) ≡ texts
  unfolding descriptor_for
  fallback-read own name None is has read = refl
  fallback-read own name (Some text) is has read = let h = has refl in rw (h, read h, extra-texts) (ap (λ fallback. Some (unwrap_or fallback [])) is)

  has-by-password : is_some mapped.section.password ≡ true → needs_extra mapped.section ≡ true
  has-by-password is = rw is refl

  has-by-fallback : is_some mapped.section.fallback ≡ true → needs_extra mapped.section ≡ true
  has-by-fallback is = rw is (or-true (is_some mapped.section.password))
    where
      or-true : (b : Bool) → (b || true) ≡ true
      or-true true = refl
      or-true false = refl

  -- ---- the entry, as the prompt lists it

  listed-read : (own : List DiskSector) (name : List ℕ) → ExtraRead own → (target : Target)
      → listed_entry image machine (entry_at_own own name, mapped.section.password) ≡ (menu_entry mapped.section target name).listed
  unfolding descriptor_for
  listed-read own name read target =
      let flags = flags-of mapped in
      rw (flags.restricted, flags.lock, flags.fallback)
      (ap (λ fallback. record { name = name; password = mapped.section.password; restricted = mapped.section.restricted; lock = mapped.section.lock; fallback = fallback })
      (fallback-read own name mapped.section.fallback refl has-by-fallback read))

  -- the middle text; both sectors are read
  middle-read : (own : List DiskSector) (name : List ℕ) → ExtraRead own → slot_bytes_at image machine (to (place_of_sector own 0)) ≡ Ok (options_bytes (kept_middle mapped.section)) → length (kept_middle mapped.section) ≤ 255
      → middle_of image machine (entry_at_own own name) ≡ Ok (kept_middle mapped.section)
  unfolding middle_of descriptor_for
  middle-read own name read options short =
      rw (options, (flags-of mapped).fallback, asked-read own name mapped.section.fallback has-by-fallback read, options_again (kept_middle mapped.section) short) (by-fallback mapped.section.fallback)
    where
      by-fallback : (texts : Option (List ℕ)) → (with_fault Rattle.lilo_model.specs.Reason.map_reason (password_at (option_map (λ text. extra_bytes (texts_of mapped.section)) texts)) >>= λ password. Ok (kept_middle mapped.section)) ≡ Ok (kept_middle mapped.section)
      by-fallback None = refl
      by-fallback (Some text) = rw extra-texts refl

  -- ---- what the entry starts

  initrd-read : (own : List DiskSector) (name : List ℕ) (file : Option MappedFile) (initrd : Option (List ℕ)) → mapped.initrd ≡ file → OptionalLies image machine config line_place zero_place file initrd
      → AreNamed machine to (initrd_places config machine mapped own) → AreAt image (initrd_places config machine mapped own) (optional_sectors config machine zero_place file (initrd_places config machine mapped own))
      → (initrd_size (entry_at_own own name) ≡ option_map length initrd) × (initrd_of image machine (entry_at_own own name) ≡ option_map whole initrd)
  unfolding descriptor_for
  initrd-read own name None None is lies named lie = (rw ((flags-of mapped).initrd, is) refl, rw is refl)
  initrd-read own name None (Some bytes) is lies named lie = absurd lies
  initrd-read own name (Some file) None is lies named lie = absurd lies
  initrd-read own name (Some file) (Some bytes) is lies named lie =
      (rw ((flags-of mapped).initrd, is) (ap Some lies.size), rw is (ap Some (file-shown image machine config line_place zero_place file bytes (initrd_places config machine mapped own) lies named lie)))

  kernel-read : (own : List DiskSector) (name : List ℕ) (bytes : List ℕ) (initrd : Option (List ℕ)) (middle : List ℕ) (video : Option ℕ) → TargetLies image machine config line_place zero_place mapped (Kernel bytes initrd middle video)
      → AreNamed machine to (main_places mapped.section own) → AreNamed machine to (initrd_places config machine mapped own)
      → AreAt image (main_places mapped.section own) (file_sectors config machine zero_place mapped.main (main_places mapped.section own))
      → AreAt image (initrd_places config machine mapped own) (optional_sectors config machine zero_place mapped.initrd (initrd_places config machine mapped own))
      → ShowsKernel image machine (entry_at_own own name) bytes initrd video
  unfolding descriptor_for main_of
  kernel-read own name bytes initrd middle video lies named named' lie lie' =
      let both = initrd-read own name mapped.initrd initrd refl lies.4 named' lie' in
      record {
        kernel = (flags-of mapped).other ∙ ap is_some lies.0;
        size = lies.3.size;
        main = file-shown image machine config line_place zero_place mapped.main bytes (main_places mapped.section own) lies.3 named lie;
        initrd_size_is = both.0;
        initrd_is = both.1;
        video_is = rw (flags-of mapped).video (by-video mapped.section.vga) ∙ lies.2;
      }
    where
      by-video : (video : Option ℕ) → (if is_some video then Some (unwrap_or video 0) else None) ≡ video
      by-video None = refl
      by-video (Some mode) = refl

  system-read : (own : List DiskSector) (name : List ℕ) (sector : List ℕ) (table : Option (List ℕ)) → TargetLies image machine config line_place zero_place mapped (System sector table)
      → AreNamed machine to (main_places mapped.section own)
      → AreAt image (main_places mapped.section own) (file_sectors config machine zero_place mapped.main (main_places mapped.section own))
      → ShowsSystem image machine (entry_at_own own name) sector table
  unfolding descriptor_for main_of
  system-read own name sector table lies named lie = record {
    other = (flags-of mapped).other ∙ lies.0;
    has_table = (flags-of mapped).table ∙ lies.1;
    bytes = lies.3.bytes;
    main = file-shown image machine config line_place zero_place mapped.main lies.3.bytes (main_places mapped.section own) lies.3.lies named lie;
    prefix = lies.3.prefix;
    suffix = lies.3.suffix;
  }

  target-read : (own : List DiskSector) (name : List ℕ) (target : Target) → TargetLies image machine config line_place zero_place mapped target
      → AreNamed machine to (main_places mapped.section own) → AreNamed machine to (initrd_places config machine mapped own)
      → AreAt image (main_places mapped.section own) (file_sectors config machine zero_place mapped.main (main_places mapped.section own))
      → AreAt image (initrd_places config machine mapped own) (optional_sectors config machine zero_place mapped.initrd (initrd_places config machine mapped own))
      → ShowsTarget image machine (entry_at_own own name) target
  target-read own name (Kernel bytes initrd middle video) lies named named' lie lie' = kernel-read own name bytes initrd middle video lies named named' lie lie'
  target-read own name (System sector table) lies named named' lie lie' = system-read own name sector table lies named lie

-- ---- once the default line is written

target-still : (image : Image) (line_place : DiskSector) (new : List ℕ) (machine : Machine) (config : Config) (zero_place : DiskSector) (mapped : MappedSection) (target : Target) → TargetLies image machine config line_place zero_place mapped target → TargetLies (with_sector image line_place new) machine config line_place zero_place mapped target
target-still image line_place new machine config zero_place mapped (Kernel bytes initrd middle video) lies =
    (lies.0, lies.1, lies.2, file-still image line_place new machine config zero_place mapped.main bytes lies.3, optional-still mapped.initrd initrd lies.4)
  where
    optional-still : (file : Option MappedFile) (initrd : Option (List ℕ)) → OptionalLies image machine config line_place zero_place file initrd → OptionalLies (with_sector image line_place new) machine config line_place zero_place file initrd
    optional-still None None lies = tt
    optional-still None (Some bytes) lies = absurd lies
    optional-still (Some file) None lies = absurd lies
    optional-still (Some file) (Some bytes) lies = file-still image line_place new machine config zero_place file bytes lies
target-still image line_place new machine config zero_place mapped (System sector table) lies =
    (lies.0, lies.1, lies.2, record { bytes = lies.3.bytes; lies = file-still image line_place new machine config zero_place mapped.main lies.3.bytes lies.3.lies; long = lies.3.long; prefix = lies.3.prefix; suffix = lies.3.suffix })

-- ---- an entry

target-middle : (image : Image) (machine : Machine) (config : Config) (line_place zero_place : DiskSector) (mapped : MappedSection) (target : Target) → TargetLies image machine config line_place zero_place mapped target → kept_middle mapped.section ≡ target_middle target
target-middle image machine config line_place zero_place mapped (Kernel bytes initrd middle video) lies = ap (λ other. if is_some other then [] else middle_text mapped.section) lies.0 ∙ lies.1
target-middle image machine config line_place zero_place mapped (System sector table) lies = ap (λ other. if other then [] else middle_text mapped.section) lies.0

kept-short : (section : ConfSection) → length (middle_text section) ≤ 255 → length (kept_middle section) ≤ 255
kept-short section short = by (is_some section.other)
  where
    by : (other : Bool) → length (if other then [] else middle_text section) ≤ 255
    by true = omega arith
    by false = short

-- what is read of a section whose sectors lie at its places
pub section-read : (image : Image) (machine : Machine) (config : Config) (line_place zero_place : DiskSector) → (mapped : MappedSection) (target : Target) (own : List DiskSector) (name : List ℕ)
    → IsFitSection mapped.section → TargetLies image machine config line_place zero_place mapped target
    → AreNamed machine (slot_to config.mode machine) own → IsNone line_place own → AreAt image own (section_sectors_at config machine zero_place mapped own)
    → EntryShown image machine line_place (descriptor_for config machine mapped own name) (menu_entry mapped.section target name)
unfolding section_sectors_at descriptor_for
section-read image machine config line_place zero_place mapped target [] name lawful lies named none lie = absurd lie
section-read image machine config line_place zero_place mapped target (first ∷ own) name lawful lies named none lie =
    let to = slot_to config.mode machine in
    let all = first ∷ own in
    let extras = extra_sectors mapped.section in
    let main = main_places mapped.section all in
    let ramdisk = initrd_places config machine mapped all in
    let mains = file_sectors config machine zero_place mapped.main main in
    let ramdisks = optional_sectors config machine zero_place mapped.initrd ramdisk in
    let extra = extra-read image machine config line_place zero_place mapped lawful first own named.1 (lie-prefix image own extras (mains ++ ramdisks) lie.1) in
    let at = files-at image machine config zero_place mapped first own named.1 lie.1 in
    let none_main = none-drop line_place (length extras) own none.1 in
    let none_ramdisk = none-drop line_place (chain_for config machine mapped.main) main none_main in
    record {
      shows = record {
        name = refl;
        middle = middle-read image machine config line_place zero_place mapped lawful all name extra (slot-read image machine to first (options_bytes (kept_middle mapped.section)) named.0 lie.0) (kept-short mapped.section lawful.middle) ∙ ap Ok (target-middle image machine config line_place zero_place mapped target lies);
        now = target-read image machine config line_place zero_place mapped lawful all name target lies at.named at.named_ramdisk at.main at.ramdisk;
        after = λ line. target-read (with_sector image line_place (line_bytes line)) machine config line_place zero_place mapped lawful all name target (target-still image line_place (line_bytes line) machine config zero_place mapped target lies) at.named at.named_ramdisk
            (lie-still image line_place (line_bytes line) main mains none_main at.main) (lie-still image line_place (line_bytes line) ramdisk ramdisks none_ramdisk at.ramdisk);
      };
      extra = option_map (λ text. extra_bytes (texts_of mapped.section)) mapped.section.password;
      extra_is = ap (λ flag. optional_at image machine (if flag then (descriptor_for config machine mapped all name).extra else None)) (password-flag mapped all name) ∙ asked-read image machine config line_place zero_place mapped lawful all name mapped.section.password (has-by-password image machine config line_place zero_place mapped lawful) extra;
      password = password-read image machine config line_place zero_place mapped lawful mapped.section.password refl;
      listed = listed-read image machine config line_place zero_place mapped lawful all name extra target;
    }
  where
    password-flag : (mapped : MappedSection) (own : List DiskSector) (name : List ℕ) → entry_has (descriptor_for config machine mapped own name) password_flag ≡ is_some mapped.section.password
    password-flag mapped own name = (flags-of mapped).password
