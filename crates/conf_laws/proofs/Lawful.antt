-- Each configuration that a text says may be carried out.
use Rattle.std.proofs.Common.{◌≡◌, ◌≢◌, ℕ, ◌≤◌, Bool, true, false, List, [], ◌∷◌, ◌++◌, map, length, Some, None, Ok, Err, Option, Result, refl, sym, ◌∙◌, arith}
use Rattle.std.specs.Prelude.{IsSome, IfSome, codes, unwrap_or, nat_le, flat_map}
use Rattle.std.specs.List.{AllByRecursion}
use Rattle.std.proofs.lemmas.Bool.{leb-true}
use Rattle.std.proofs.lemmas.List.Elements.{All-from_recursion}
use Rattle.lilo_model.specs.ConfOptions as options
use Rattle.lilo_model.specs.ConfOptions.{Opt, takes_of, opens, is_of_disk, is_of_name, excluded_by, opt_number}
use Rattle.lilo_model.specs.Devices.{IsDevice, device_at}
use Rattle.lilo_model.specs.ConfValues.{is_value, is_path, number_between}
use Rattle.lilo_model.specs.ConfRefusal.{ConfRefusal}
use Rattle.lilo_model.specs.ConfSettings.{Setting, text_settings}
use Rattle.lilo_model.specs.ConfJudge.{settings_refusal}
use Rattle.lilo_model.specs.Conf.{Config, ConfParts, parts_of, value_of, section_of, section_refusal, sections_refusal, names_from, default_refusal, section_names, number_of, disks_of, config_of, whole_of, conf_limit, conf_at}
use Rattle.lilo_model.specs.ConfLawful.{names_of_section, names_of_config, IsPath, IsLawfulSection, IsLawfulDisk, IsLawful}
use Rattle.conf_laws.specs.Lawful.{LawfulLaw}
use Rattle.conf_laws.proofs.Settings.{AllStand, is_plain}
use Rattle.conf_laws.proofs.Given.{value_of-given, value_of-has, excluded-apart}
use Rattle.conf_laws.proofs.Sizes.{text_settings-small}
use Rattle.conf_laws.proofs.Parts.{IsOpened, AreParts, parts_of-stand}
use Rattle.conf_laws.proofs.Values.{device_at-device, number_between-narrow}
use Rattle.conf_laws.proofs.Effects.{fits-path, if_some, if_meant}
use Rattle.conf_laws.proofs.Sections.{section_refusal-none, lawful-section}
use Rattle.conf_laws.proofs.Names.{names_of-sections, names_from-names, default_refusal-known}
use Rattle.conf_laws.proofs.Disks.{disks_of-disks, disks-lawful}

-- ---- what a text that is answered passes

record IsAnswered (parts : ConfParts) (config : Config) : Type 0 where
  sections : sections_refusal parts.front parts.sections ≡ None
  names : List (List ℕ)
  named : names_from [] parts.sections ≡ Ok names
  known : default_refusal parts.front names ≡ None
  is : config_of parts ≡ config

whole_of-answered : (parts : ConfParts) (config : Config) → whole_of parts ≡ Ok config → IsAnswered parts config
unfolding whole_of
whole_of-answered parts config is = first _ refl
  where
    third : (names : List (List ℕ)) (refusal : Option ConfRefusal) → default_refusal parts.front names ≡ refusal → sections_refusal parts.front parts.sections ≡ None → names_from [] parts.sections ≡ Ok names
        → IsAnswered parts config
    third names (Some refusal) known sections named = let e = rw (sections, named, known) at is in absurd (cc)
    third names None known sections named =
        let e = rw (sections, named, known) at is in
        let same : config_of parts ≡ config = cc in
        record { sections = sections; names = names; named = named; known = known; is = same }

    second : (names : Result (List (List ℕ)) ConfRefusal) → names_from [] parts.sections ≡ names → sections_refusal parts.front parts.sections ≡ None → IsAnswered parts config
    second (Err refusal) named sections = let e = rw (sections, named) at is in absurd (cc)
    second (Ok names) named sections = third names _ refl sections named

    first : (refusal : Option ConfRefusal) → sections_refusal parts.front parts.sections ≡ refusal → IsAnswered parts config
    first (Some refusal) sections = let e = rw sections at is in absurd (cc)
    first None sections = second _ refl sections

record IsRead (text : List ℕ) (config : Config) : Type 0 where
  few : length text ≤ conf_limit
  settings : settings_refusal [] (text_settings text).settings ≡ None
  answered : IsAnswered (parts_of (text_settings text).settings) config

conf_at-read : (text : List ℕ) (config : Config) → conf_at text ≡ Ok config → IsRead text config
unfolding conf_at
conf_at-read text config is = first _ refl
  where
    third : (refusal : Option ConfRefusal) → (text_settings text).refusal ≡ refusal → nat_le (length text) conf_limit ≡ true → settings_refusal [] (text_settings text).settings ≡ None → IsRead text config
    third (Some refusal) cut few settings = let e = rw (few, settings, cut) at is in absurd (cc)
    third None cut few settings = record {
      few = leb-true (length text) conf_limit few;
      settings = settings;
      answered = whole_of-answered (parts_of (text_settings text).settings) config (rw (few, settings, cut) at is);
    }

    second : (refusal : Option ConfRefusal) → settings_refusal [] (text_settings text).settings ≡ refusal → nat_le (length text) conf_limit ≡ true → IsRead text config
    second (Some refusal) settings few = let e = rw (few, settings) at is in absurd (cc)
    second None settings few = third _ refl few settings

    first : (small : Bool) → nat_le (length text) conf_limit ≡ small → IsRead text config
    first true few = second _ refl few
    first false few = let e = rw few at is in absurd (cc)

-- ---- sections

sections-lawful : (size : ℕ) (front : List Setting) (sections : List (List Setting)) → size ≤ conf_limit → AllStand size [] front → AllByRecursion (IsOpened size) sections
    → sections_refusal front sections ≡ None → AllByRecursion IsLawfulSection (map (section_of front) sections)
unfolding sections_refusal
sections-lawful size front [] few stand opened none = tt
sections-lawful size front ([] ∷ sections) few stand opened none = absurd (opened.0)
sections-lawful size front ((first ∷ rest) ∷ sections) few stand opened none =
    by _ refl (sections-lawful size front sections few stand opened.1)
  where
    by : (refusal : Option ConfRefusal) → section_refusal front (first ∷ rest) ≡ refusal
        → (sections_refusal front sections ≡ None → AllByRecursion IsLawfulSection (map (section_of front) sections))
        → AllByRecursion IsLawfulSection (section_of front (first ∷ rest) ∷ map (section_of front) sections)
    by (Some refusal) is others = let e = rw (is, sections_refusal) at none in absurd (cc)
    by None is others =
        (lawful-section size front first rest few stand opened.0 (section_refusal-none front (first ∷ rest) is), others (rw (is, sections_refusal) at none))

-- ---- the part before all sections

module _ (size : ℕ) (front : List Setting) (few : size ≤ conf_limit) (stand : AllStand size [] front) where
  front-path : (one : Opt) → is_plain one ≡ true → takes_of one ≡ options.APath → IfSome (value_of one front) IsPath
  front-path one plain takes = if_some IsPath _ (λ text is. let given = value_of-given size one [] front text plain stand is in fits-path one text takes given.fits (omega (arith, few, given.small)))

  front-number : (one : Opt) → is_plain one ≡ true → takes_of one ≡ options.ANumber 0 65534 → IfSome (number_of 65535 one front) (λ number. number ≤ 65534)
  unfolding number_of is_value
  front-number one plain takes = if_meant (λ number. number ≤ 65534) (number_between 0 65535) (value_of one front)
      (λ text number is means. let value = (value_of-given size one [] front text plain stand is).fits.value in (number_between-narrow 0 65535 0 65534 text number means (rw takes at value)).1)

  map-path : IsPath (unwrap_or (value_of options.Map front) (codes "/boot/map"))
  unfolding takes_of opens is_of_disk opt_number is_path
  map-path = by (value_of options.Map front) (front-path options.Map refl refl)
    where
      by : (found : Option (List ℕ)) → IfSome found IsPath → IsPath (unwrap_or found (codes "/boot/map"))
      by None path = record { path = refl; size = omega arith }
      by (Some text) path = path

  backup-alone : IsSome (value_of options.Backup front) → value_of options.ForceBackup front ≡ None
  unfolding opens is_of_disk opt_number excluded_by
  backup-alone some = by _ _ refl refl some
    where
      by : (backup force : Option (List ℕ)) → value_of options.Backup front ≡ backup → value_of options.ForceBackup front ≡ force → IsSome backup → value_of options.ForceBackup front ≡ None
      by None force is is' some = absurd (cc)
      by (Some text) None is is' some = is'
      by (Some text) (Some other) is is' some =
          absurd (excluded-apart size options.Backup options.ForceBackup [] front refl refl refl refl refl stand (value_of-has options.Backup front text is) (value_of-has options.ForceBackup front other is'))

number-or_zero : (found : Option ℕ) → IfSome found (λ number. number ≤ 65534) → unwrap_or found 0 ≤ 65534
number-or_zero None small = omega arith
number-or_zero (Some number) small = small

-- ---- the whole

some-section : (sections : List (List Setting)) (names : List (List ℕ)) → names ≢ [] → names ≡ [] ++ flat_map section_names sections → (front : List Setting) → 1 ≤ length (map (section_of front) sections)
some-section [] names some is front = absurd (some is)
some-section (section ∷ sections) names some is front = omega arith

config_of-lawful : (size : ℕ) (parts : ConfParts) (config : Config) → size ≤ conf_limit → AreParts size [] parts → IsAnswered parts config → IsLawful (config_of parts)
unfolding config_of names_of_config takes_of opens is_of_disk opt_number
config_of-lawful size parts config few stand answered =
    let all = names_from-names [] parts.sections answered.names answered.named (record { apart = λ i j d less within. absurd (omega (arith, within)); few = omega arith }) in
    let known = default_refusal-known parts.front answered.names answered.known in
    let names : answered.names ≡ flat_map names_of_section (map (section_of parts.front) parts.sections) = all.1 ∙ sym (names_of-sections parts.front parts.sections) in
    let disks = disks_of-disks size [] parts.front stand.front in
    record {
      boot = if_meant IsDevice device_at (value_of options.Boot parts.front) (λ text device is means. (device_at-device text device means).0);
      map = map-path size parts.front few stand.front;
      install = front-path size parts.front few stand.front options.Install refl refl;
      backup = front-path size parts.front few stand.front options.Backup refl refl;
      force_backup = front-path size parts.front few stand.front options.ForceBackup refl refl;
      message = front-path size parts.front few stand.front options.Message refl refl;
      delay = number-or_zero (number_of 65535 options.Delay parts.front) (front-number size parts.front few stand.front options.Delay refl refl);
      timeout = front-number size parts.front few stand.front options.Timeout refl refl;
      one_backup = backup-alone size parts.front few stand.front;
      disks = All-from_recursion IsLawfulDisk (disks_of parts.front) (disks-lawful [] (disks_of parts.front) disks.fresh);
      disks_apart = disks.apart;
      some = some-section parts.sections answered.names known.0 all.1 parts.front;
      sections = All-from_recursion IsLawfulSection (map (section_of parts.front) parts.sections) (sections-lawful size parts.front parts.sections few stand.front stand.sections answered.sections);
      few_names = rw (← names) all.0.few;
      names_apart = rw (← names) all.0.apart;
      default_name = rw (← names) known.1;
    }

pub lawful_law : LawfulLaw
lawful_law text config is =
    let read = conf_at-read text config is in
    let parts = parts_of (text_settings text).settings in
    let stand = parts_of-stand (length text) [] (text_settings text).settings (text_settings-small text) read.settings in
    rw (← read.answered.is) (config_of-lawful (length text) parts config read.few stand read.answered)
