-- How many sectors the sections of a plan take.
use Rattle.std.proofs.Common.{◌≡◌, ◌≤◌, ℕ, ◌+◌, ◌*◌, Bool, true, false, if◌then◌else◌, List, [], ◌∷◌, ◌++◌, length, Option, None, Some, Ok, refl, sym, ap, ◌∙◌, arith, length-append}
use Rattle.std.specs.Prelude.{IfSome, is_some, flat_map}
use Rattle.std.specs.List.{AllByRecursion}
use Rattle.lilo_model.specs.Conf.{Config, ConfSection}
use Rattle.lilo_model.specs.ConfLawful.{names_of_section}
use Rattle.lilo_model.specs.ConfOptions as options
use Rattle.lilo_model.specs.Devices.{Device}
use Rattle.lilo_model.specs.Disks.{Image, Machine}
use Rattle.lilo_model.specs.MinixLayout.{is_v1}
use Rattle.lilo_model.specs.MinixNames.{IsSound}
use Rattle.lilo_model.specs.MinixParts.{Volume, Parts, parts_of}
use Rattle.lilo_model.specs.Options.{extra_bytes}
use Rattle.lilo_model.specs.Plan.{MappedSection, chain_for, optional_chain, needs_extra, extra_of, extra_sectors, section_size}
use Rattle.lilo_model.specs.PlanRefusal.{if_there, mapped_file_check, system_places_check, main_address_check, mapped_address_check}
use Rattle.lilo_model.specs.Planned.{system_places, file_inode, mapped_inode, kernel_section, mapped_by, mapped_section}
use Rattle.map_laws.proofs.Accepted.{both-pass}
use Rattle.map_laws.proofs.MeantFiles.{inode-named}
use Rattle.install_order.proofs.MapFiles.{v1_sectors, placed-chain, placed-optional, checked-chain, checked-optional, inode-short, optional-short}

-- ---- what is mapped for a section

module _ (image : Image) (machine : Machine) (volume : Volume) (sound : IsSound volume image) where
  abbrev parts : Parts
  parts = parts_of volume image

  -- another system has two sectors at most, and a volume of version 1 has short files
  pub record IsShort (mapped : MappedSection) : Type 0 where
    pub system : is_some mapped.section.other ≡ true → length mapped.main.places ≤ 2
    pub main : is_v1 volume.layout.kind ≡ true → length mapped.main.places ≤ v1_sectors
    pub initrd : is_v1 volume.layout.kind ≡ true → IfSome mapped.initrd (λ file. length file.places ≤ v1_sectors)

  two-places : (device : Device) (table : Option Device) → length (system_places image machine device table) ≤ 2
  two-places device None = omega arith
  two-places device (Some table) = omega arith

  no-system : (section : ConfSection) (places : ℕ) → section.other ≡ None → is_some section.other ≡ true → places ≤ 2
  no-system section places none some = let both = sym (ap is_some none) ∙ some in absurd (grind (arith, both))

  with-mapped : (section : ConfSection) (others : List MappedSection) → AllByRecursion IsShort others → AllByRecursion IsShort (mapped_section image machine volume section ++ others)
  unfolding mapped_section mapped_inode
  with-mapped section others rest = by-other section.other refl
    where
      by-inode : (inode : Option ℕ) → section.other ≡ None → file_inode volume parts section.path ≡ inode → AllByRecursion IsShort (kernel_section volume parts section inode ++ others)
      by-inode None none is = rest
      by-inode (Some number) none is = (
        record {
          system = no-system section _ none;
          main = λ v1. inode-short volume image sound v1 number (inode-named volume image sound section.path number is).0;
          initrd = λ v1. optional-short volume image sound v1 section.initrd;
        },
        rest,
      )

      by-other : (other : Option Device) → section.other ≡ other → AllByRecursion IsShort (mapped_by image machine volume section other ++ others)
      by-other None is = by-inode (file_inode volume parts section.path) is refl
      by-other (Some device) is =
          let two = two-places device section.table in
          (record { system = λ some. two; main = λ v1. omega (arith, two); initrd = λ v1. tt }, rest)

  pub all-short : (sections : List ConfSection) → AllByRecursion IsShort (flat_map (mapped_section image machine volume) sections)
  all-short [] = tt
  all-short (section ∷ sections) = with-mapped section (flat_map (mapped_section image machine volume) sections) (all-short sections)

  -- ---- so it has few sectors

  module _ (config : Config) where
    one-extra : (section : ConfSection) → length (extra_sectors section) ≤ 1
    one-extra section = by (needs_extra section)
      where
        by : (needs : Bool) → length (if needs then extra_bytes (extra_of section) ∷ [] else []) ≤ 1
        by true = omega arith
        by false = omega arith

    by-chains : (most : ℕ) (mapped : MappedSection) → chain_for config machine mapped.main ≤ most → optional_chain config machine mapped.initrd ≤ most → section_size config machine mapped ≤ 2 + 2 * most
    by-chains most mapped main initrd = let extra = one-extra mapped.section in omega (arith, extra, main, initrd)

    few-of-1 : is_v1 volume.layout.kind ≡ true → (mapped : MappedSection) → IsShort mapped → section_size config machine mapped ≤ 16680
    few-of-1 v1 mapped short =
        by-chains 8339 mapped
        (placed-chain config machine mapped.main v1_sectors (short.main v1))
        (placed-optional config machine mapped.initrd v1_sectors (short.initrd v1))

    few-of-2 : (mapped : MappedSection) → IsShort mapped → mapped_address_check config machine mapped ≡ Ok tt → section_size config machine mapped ≤ 131072
    few-of-2 mapped short is =
        let both = both-pass (main_address_check config machine mapped) (λ a. if_there (mapped_file_check config machine options.Initrd) mapped.initrd) tt is in
        by-chains 65535 mapped (by (is_some mapped.section.other) refl both.1) (checked-optional config machine options.Initrd mapped.initrd both.2)
      where
        by : (other : Bool) → is_some mapped.section.other ≡ other
            → (if other then system_places_check config machine mapped.main.places else mapped_file_check config machine options.Image mapped.main) ≡ Ok tt
            → chain_for config machine mapped.main ≤ 65535
        by true some is = let few = placed-chain config machine mapped.main 2 (short.system some) in omega (arith, few)
        by false none is = checked-chain config machine options.Image mapped.main is

    pub all-of-1 : is_v1 volume.layout.kind ≡ true → (sections : List MappedSection) → AllByRecursion IsShort sections → AllByRecursion (λ mapped. section_size config machine mapped ≤ 16680) sections
    all-of-1 v1 [] short = tt
    all-of-1 v1 (mapped ∷ sections) short = (few-of-1 v1 mapped short.0, all-of-1 v1 sections short.1)

    pub all-of-2 : (sections : List MappedSection) → AllByRecursion IsShort sections → AllByRecursion (λ mapped. mapped_address_check config machine mapped ≡ Ok tt) sections → AllByRecursion (λ mapped. section_size config machine mapped ≤ 131072) sections
    all-of-2 [] short is = tt
    all-of-2 (mapped ∷ sections) short is = (few-of-2 mapped short.0 is.0, all-of-2 sections short.1 is.1)

-- ---- each has a name

some-name : (section : ConfSection) → 1 ≤ length (names_of_section section)
unfolding names_of_section
some-name section = omega arith

pub sections-few : (sections : List MappedSection) → length sections ≤ length (flat_map (λ (mapped : MappedSection). names_of_section mapped.section) sections)
sections-few [] = omega arith
sections-few (mapped ∷ sections) =
    let some = some-name mapped.section in
    let rest = sections-few sections in
    let long = length-append (names_of_section mapped.section) (flat_map (λ (mapped : MappedSection). names_of_section mapped.section) sections) in
    omega (arith, some, rest, long)
