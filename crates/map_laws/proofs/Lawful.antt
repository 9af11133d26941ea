-- What a lawful configuration gives a plan: its sections fit the map's format, and its names are names.
use Rattle.std.proofs.Common.{◌≡◌, ◌≢◌, ◌≤◌, ◌<◌, ℕ, suc, ◌^◌, ◌==◌, Bool, true, false, not, ◌&&◌, ◌||◌, List, [], ◌∷◌, ◌++◌, length, Option, None, Some, All, refl, sym, ap, subst, ◌∙◌, arith}
use Rattle.std.specs.Prelude.{IfSome, IsSome, IsTrue, AllPairs, flat_map, is_some, nat_le, bytes_eq, position, unwrap_or}
use Rattle.std.specs.List.{AllByRecursion, list_all}
use Rattle.std.proofs.lemmas.List.Elements.{recursion_from_All}
use Rattle.std.proofs.lemmas.List.Quantifiers.{position-Some}
use Rattle.std.proofs.lemmas.Slice.Eq.{bytes_eq-Decides}
use Rattle.std.proofs.lemmas.Bool.Decides.{nat_tests}
use Rattle.lilo_model.specs.Bytes.{is_between}
use Rattle.lilo_model.specs.Devices.{Device}
use Rattle.lilo_model.specs.Disks.{Image, Machine, DiskSector}
use Rattle.lilo_model.specs.Table.{is_printable}
use Rattle.lilo_model.specs.ConfValues.{is_name, is_shown}
use Rattle.lilo_model.specs.Conf.{Config, ConfSection}
use Rattle.lilo_model.specs.ConfLawful as lawful
use Rattle.lilo_model.specs.ConfLawful.{IsEntryName, IsOfKind, IsImageSection, IsOtherSection, IsLawful, names_of_section, names_of_config}
use Rattle.lilo_model.specs.MinixParts.{Volume, parts_of}
use Rattle.lilo_model.specs.Meant.{Target, middle_text, default_place}
use Rattle.lilo_model.specs.Plan.{MappedSection, plan_names}
use Rattle.lilo_model.specs.Planned.{mapped_section, mapped_by, kernel_section, file_inode, planned}
use Rattle.map_laws.specs.Lies.{IsFitSection, IsName, IsOtherName, AreNames, TargetsLie}
use Rattle.map_laws.specs.PlannedLies.{FilesLie}

-- ---- a section

shown-few : (most : ℕ) (text : List ℕ) → IsTrue (is_shown most text) → length text ≤ most
unfolding is_shown
shown-few most text is = few (nat_le 1 (length text)) (nat_le (length text) most) (list_all (is_between 32 126) text) refl is
  where
    few : (a b c : Bool) → nat_le (length text) most ≡ b → ((a && b) && c) ≡ true → length text ≤ most
    few a false c test both = absurd (none a c both)
      where
        none : (a c : Bool) → ((a && false) && c) ≡ true → ⊥
        none true c both = grind arith
        none false c both = grind arith
    few a true c test both = grind (arith, nat_tests)

some-shown : (most : ℕ) (text : Option (List ℕ)) → IfSome text (λ text. IsTrue (is_shown most text)) → IfSome text (λ text. length text ≤ most)
some-shown most None is = tt
some-shown most (Some text) is = shown-few most text is

below-16 : (mode : Option ℕ) → IfSome mode (λ mode. mode ≤ 65535) → IfSome mode (λ mode. mode < 2 ^ 16)
below-16 None is = tt
below-16 (Some mode) is = omega (arith, is)

lock-apart : (lock : Bool) (fallback : Option (List ℕ)) → (IsTrue lock → fallback ≡ None) → (lock && is_some fallback) ≡ false
lock-apart false fallback none = refl
lock-apart true fallback none = ap is_some (none refl)

has-password : (restricted : Bool) (password : Option (List ℕ)) → (IsTrue restricted → IsSome password) → (not restricted || is_some password) ≡ true
has-password false password some = refl
has-password true None some = some refl
has-password true (Some text) some = refl

table-of-other : (section : ConfSection) (other : Option Device) → section.other ≡ other → IsOfKind section other → (not (is_some section.table) || is_some section.other) ≡ true
table-of-other section None is kind = rw (is, kind.table) refl
table-of-other section (Some device) is kind = ap (λ other. not (is_some section.table) || is_some other) is ∙ or-true (not (is_some section.table))
  where
    or-true : (test : Bool) → (test || true) ≡ true
    or-true true = refl
    or-true false = refl

no-video : (section : ConfSection) (other : Option Device) → section.other ≡ other → IsOfKind section other → (is_some section.other && is_some section.vga) ≡ false
no-video section None is kind = ap (λ other. is_some other && is_some section.vga) is
no-video section (Some device) is kind = rw (is, kind.vga) refl

video-fits : (section : ConfSection) (other : Option Device) → IsOfKind section other → IfSome section.vga (λ mode. mode < 2 ^ 16)
video-fits section None kind = below-16 section.vga kind.vga
video-fits section (Some device) kind = subst (λ vga. IfSome vga (λ mode. mode < 2 ^ 16)) (sym kind.vga) tt

fits : (section : ConfSection) → lawful.IsLawfulSection section → length (middle_text section) ≤ 255 → IsFitSection section
fits section is middle = record {
  middle = middle;
  vga = video-fits section section.other is.kind;
  fallback = some-shown 255 section.fallback is.fallback;
  password = some-shown 31 section.password is.password;
  lock = lock-apart section.lock section.fallback is.lock;
  restricted = has-password section.restricted section.password is.restricted;
  table = table-of-other section section.other refl is.kind;
  system = no-video section section.other refl is.kind;
}

-- ---- sections that are mapped

abbrev AreLawful : List ConfSection → Type 0
AreLawful sections = AllByRecursion lawful.IsLawfulSection sections

abbrev MappedLawful : List MappedSection → Type 0
MappedLawful sections = AllByRecursion (λ (mapped : MappedSection). lawful.IsLawfulSection mapped.section) sections

module _ (image : Image) (machine : Machine) (volume : Volume) where
  with-mapped : (section : ConfSection) (others : List MappedSection) → lawful.IsLawfulSection section → MappedLawful others → MappedLawful (mapped_section image machine volume section ++ others)
  unfolding mapped_section
  with-mapped section others is rest = by-other section.other
    where
      by-inode : (inode : Option ℕ) → MappedLawful (kernel_section volume (parts_of volume image) section inode ++ others)
      by-inode None = rest
      by-inode (Some number) = (is, rest)

      by-other : (other : Option Device) → MappedLawful (mapped_by image machine volume section other ++ others)
      by-other None = by-inode (file_inode volume (parts_of volume image) section.path)
      by-other (Some device) = (is, rest)

  pub mapped-lawful : (sections : List ConfSection) → AreLawful sections → MappedLawful (flat_map (mapped_section image machine volume) sections)
  mapped-lawful [] all = tt
  mapped-lawful (section ∷ sections) all = with-mapped section (flat_map (mapped_section image machine volume) sections) all.0 (mapped-lawful sections all.1)

-- their files lie, and so they fit
pub targets-lie : (image : Image) (machine : Machine) (config : Config) (line_place zero_place : DiskSector) (sections : List MappedSection) (targets : List Target) → MappedLawful sections → FilesLie image machine config line_place zero_place sections targets → TargetsLie image machine config line_place zero_place sections targets
targets-lie image machine config line_place zero_place [] [] all lie = tt
targets-lie image machine config line_place zero_place [] (target ∷ targets) all lie = absurd lie
targets-lie image machine config line_place zero_place (mapped ∷ sections) [] all lie = absurd lie
targets-lie image machine config line_place zero_place (mapped ∷ sections) (target ∷ targets) all lie =
    (fits mapped.section all.0 lie.0, lie.1, targets-lie image machine config line_place zero_place sections targets all.1 lie.2)

-- ---- names

is-name : (name : List ℕ) → IsEntryName name → IsName name
unfolding is_name is_printable
is-name name is = by (length name == 0) (list_all (is_between 33 126) name) refl refl is.name
  where
    by : (empty printable : Bool) → (length name == 0) ≡ empty → list_all (is_between 33 126) name ≡ printable → (not empty && printable) ≡ true → IsName name
    by true printable e p both = absurd (grind arith)
    by false false e p both = absurd (grind arith)
    by false true e p both = (grind (arith, nat_tests), is.size, p)

other-name : (name : List ℕ) (names : List (List ℕ)) → AllByRecursion (λ other. name ≢ other) names → IsOtherName name names
other-name name [] all = tt
other-name name (other ∷ names) all = (by (bytes_eq name other) refl, other-name name names all.1)
  where
    by : (same : Bool) → bytes_eq name other ≡ same → bytes_eq name other ≡ false
    by false is = is
    by true is = let decides = bytes_eq-Decides name other in absurd (grind (arith, all, decides))

first-apart : (name : List ℕ) (names : List (List ℕ)) → AllPairs (λ one other. one ≢ other) (name ∷ names) → All (λ other. name ≢ other) names
first-apart name names apart k d below = apart 0 (suc k) d (omega arith) (omega (arith, below))

others-apart : (name : List ℕ) (names : List (List ℕ)) → AllPairs (λ one other. one ≢ other) (name ∷ names) → AllPairs (λ one other. one ≢ other) names
others-apart name names apart i j d less below = apart (suc i) (suc j) d (omega (arith, less)) (omega (arith, below))

are-names : (names : List (List ℕ)) → AllByRecursion IsEntryName names → AllPairs (λ one other. one ≢ other) names → AreNames names
are-names [] all apart = tt
are-names (name ∷ names) all apart =
    (is-name name all.0, other-name name names (recursion_from_All _ names (first-apart name names apart)), are-names names all.1 (others-apart name names apart))

with-names : (section : ConfSection) (others : List (List ℕ)) → lawful.IsLawfulSection section → AllByRecursion IsEntryName others → AllByRecursion IsEntryName (names_of_section section ++ others)
unfolding names_of_section
with-names section others is all = by section.alias refl is.alias
  where
    by : (alias : Option (List ℕ)) → section.alias ≡ alias → IfSome alias IsEntryName → AllByRecursion IsEntryName (names_of_section section ++ others)
    by None none alias = let names : names_of_section section ≡ section.label ∷ [] = rw none refl in subst (λ names. AllByRecursion IsEntryName (names ++ others)) (sym names) (is.label, all)
    by (Some name) one alias = let names : names_of_section section ≡ section.label ∷ (name ∷ []) = rw one refl in subst (λ names. AllByRecursion IsEntryName (names ++ others)) (sym names) (is.label, (alias, all))

pub section-names : (sections : List ConfSection) → AreLawful sections → AllByRecursion IsEntryName (flat_map names_of_section sections)
section-names [] all = tt
section-names (section ∷ sections) all = with-names section (flat_map names_of_section sections) all.0 (section-names sections all.1)

-- some of names are others' names, in their order
record ArePart (part whole : List (List ℕ)) : Type 0 where
  other : (name : List ℕ) → IsOtherName name whole → IsOtherName name part
  are : AreNames whole → AreNames part
  few : length part ≤ length whole

skipped : (names part whole : List (List ℕ)) → ArePart part whole → ArePart part (names ++ whole)
skipped [] part whole p = p
skipped (name ∷ names) part whole p =
    let q = skipped names part whole p in
    record { other = λ one is. q.other one is.1; are = λ is. q.are is.2; few = let few = q.few in omega (arith, few) }

kept : (names part whole : List (List ℕ)) → ArePart part whole → ArePart (names ++ part) (names ++ whole)
kept [] part whole p = p
kept (name ∷ names) part whole p =
    let q = kept names part whole p in
    record { other = λ one is. (is.0, q.other one is.1); are = λ is. (is.0, q.other name is.1, q.are is.2); few = let few = q.few in omega (arith, few) }

abbrev mapped_names : List MappedSection → List (List ℕ)
mapped_names sections = flat_map (λ (mapped : MappedSection). names_of_section mapped.section) sections

module _ (image : Image) (machine : Machine) (volume : Volume) where
  part-with : (section : ConfSection) (others : List MappedSection) (whole : List (List ℕ)) → ArePart (mapped_names others) whole → ArePart (mapped_names (mapped_section image machine volume section ++ others)) (names_of_section section ++ whole)
  unfolding mapped_section
  part-with section others whole p = by-other section.other
    where
      by-inode : (inode : Option ℕ) → ArePart (mapped_names (kernel_section volume (parts_of volume image) section inode ++ others)) (names_of_section section ++ whole)
      by-inode None = skipped (names_of_section section) (mapped_names others) whole p
      by-inode (Some number) = kept (names_of_section section) (mapped_names others) whole p

      by-other : (other : Option Device) → ArePart (mapped_names (mapped_by image machine volume section other ++ others)) (names_of_section section ++ whole)
      by-other None = by-inode (file_inode volume (parts_of volume image) section.path)
      by-other (Some device) = kept (names_of_section section) (mapped_names others) whole p

  mapped-part : (sections : List ConfSection) → ArePart (mapped_names (flat_map (mapped_section image machine volume) sections)) (flat_map names_of_section sections)
  mapped-part [] = record { other = λ name is. is; are = λ is. is; few = omega arith }
  mapped-part (section ∷ sections) = part-with section (flat_map (mapped_section image machine volume) sections) (flat_map names_of_section sections) (mapped-part sections)

  module _ (config : Config) (time : ℕ) (is : IsLawful config) where
    all-lawful : AreLawful config.sections
    all-lawful = recursion_from_All _ config.sections is.sections

    pub sections-lawful : MappedLawful (planned image machine volume config time).sections
    unfolding planned
    sections-lawful = mapped-lawful image machine volume config.sections all-lawful

    pub planned-names : AreNames (plan_names (planned image machine volume config time))
    unfolding planned plan_names names_of_config
    planned-names = (mapped-part config.sections).are (are-names (flat_map names_of_section config.sections) (section-names config.sections all-lawful) is.names_apart)

    pub few-names : length (plan_names (planned image machine volume config time)) ≤ 19
    unfolding planned plan_names names_of_config
    few-names = let less = (mapped-part config.sections).few in let most = is.few_names in omega (arith, less, most)

-- ---- the default

pub default-below : (default : Option (List ℕ)) (names : List (List ℕ)) → 1 ≤ length names → default_place default names < length names
default-below None names some = some
default-below (Some name) names some = by (position (λ other. bytes_eq other name) names) refl
  where
    by : (found : Option ℕ) → position (λ other. bytes_eq other name) names ≡ found → unwrap_or (position (λ other. bytes_eq other name) names) 0 < length names
    by None is = subst (λ found. unwrap_or found 0 < length names) (sym is) some
    by (Some i) is = subst (λ found. unwrap_or found 0 < length names) (sym is) (position-Some (λ other. bytes_eq other name) names i [] is).0
