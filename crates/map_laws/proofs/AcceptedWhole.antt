-- What is accepted on a sound volume and written boots as the configuration and its files mean.
use Rattle.std.proofs.Common.{◌≡◌, ◌≢◌, ◌≤◌, ℕ, List, [], length, Option, None, Some, Ok, sym, ap, ◌∙◌, arith}
use Rattle.std.specs.Prelude.{IfSome, nat_le, option_map, flat_map}
use Rattle.std.specs.List.{AllByRecursion}
use Rattle.std.proofs.lemmas.List.Elements.{recursion_from_All}
use Rattle.std.proofs.lemmas.Bool.Decides.{nat_tests}
use Rattle.lilo_model.specs.Checks.{◌>>=◌}
use Rattle.lilo_model.specs.Conf.{ConfSection}
use Rattle.lilo_model.specs.ConfOptions as options
use Rattle.lilo_model.specs.MinixParts.{parts_of}
use Rattle.lilo_model.specs.MinixNames.{names_in}
use Rattle.lilo_model.specs.Meant.{filled_file}
use Rattle.lilo_model.specs.Plan.{MappedFile, MappedSection, plan_sectors, sectors_of_table}
use Rattle.lilo_model.specs.Planned.{optional_file, mapped_section, devices_in, planned}
use Rattle.lilo_model.specs.PlanRefusal.{NoImagesLeft, MessageTooLong, each_passes, if_there, file_check, section_check, default_check, left_check, file_checks, disk_check, message_limit, message_check, mapped_check, held_checks, mapped_file_check, mapped_address_check, address_checks, plan_at}
use Rattle.map_laws.specs.Accepted.{IsSmall, HasZeros, AcceptedLiesLaw, AcceptedLaw}
use Rattle.map_laws.proofs.Accepted.{both-pass, required, all-pass, not-ok, places_law, optional-lies}
use Rattle.map_laws.proofs.AcceptedSections.{files-lie, all-ready}
use Rattle.map_laws.proofs.MeantFiles.{optional_file_law}
use Rattle.map_laws.proofs.Planned.{planned_law}
use Rattle.map_laws.specs.Lies.{all_places}

-- a message that is accepted is short
few : (file : Option MappedFile) (bytes : Option (List ℕ)) → option_map (λ (file : MappedFile). file.size) file ≡ option_map length bytes → if_there message_check file ≡ Ok tt → IfSome bytes (λ bytes. length bytes ≤ message_limit)
few file None same is = tt
few None (Some bytes) same is = absurd (grind arith)
few (Some file) (Some bytes) same is =
    let long : file.size ≡ length bytes = ap (λ size. Rattle.std.specs.Prelude.unwrap_or size 0) same in
    let test = required (nat_le file.size message_limit) (MessageTooLong file.size) is in
    grind (arith, nat_tests, long, test)

message-small : (file : Option MappedFile) → if_there message_check file ≡ Ok tt → IfSome file IsSmall
message-small None is = tt
message-small (Some file) is =
    let test = required (nat_le file.size message_limit) (MessageTooLong file.size) is in
    let most : file.size ≤ message_limit = grind (arith, nat_tests, test) in
    omega (arith, most)

some-left : (sections : List MappedSection) → left_check sections ≡ Ok tt → sections ≢ []
some-left sections is none = not-ok NoImagesLeft tt (ap left_check (sym none) ∙ is)

pub accepted_lies_law : AcceptedLiesLaw
unfolding plan_at file_checks held_checks address_checks planned plan_sectors sectors_of_table
accepted_lies_law before image machine volume span config time line places present sound a w =
    let plan = planned before machine volume config time in
    let parts = parts_of volume before in
    let sections = flat_map (mapped_section before machine volume) config.sections in
    let message = optional_file volume parts config.message in
    let files = both-pass (file_checks before machine volume plan) (λ a. held_checks before machine volume span plan >>= λ b. address_checks machine plan >>= λ c. Ok plan) plan a.plan in
    let helds = both-pass (held_checks before machine volume span plan) (λ b. address_checks machine plan >>= λ c. Ok plan) plan files.2 in
    let addresses = both-pass (address_checks machine plan) (λ c. Ok plan) plan helds.2 in
    -- files and devices
    let last = default_check plan >>= λ d. left_check sections in
    let code = both-pass (if_there (file_check volume parts) config.install) (λ a. if_there (file_check volume parts) config.message >>= λ b. each_passes (λ (section : ConfSection). section_check before machine volume section section.other) config.sections >>= λ c. last) tt files.1 in
    let text = both-pass (if_there (file_check volume parts) config.message) (λ b. each_passes (λ (section : ConfSection). section_check before machine volume section section.other) config.sections >>= λ c. last) tt code.2 in
    let each = both-pass (each_passes (λ (section : ConfSection). section_check before machine volume section section.other) config.sections) (λ c. last) tt text.2 in
    let left = both-pass (default_check plan) (λ d. left_check sections) tt each.2 in
    -- what they hold
    let disks = both-pass (each_passes (disk_check machine) config.disks) (λ a. if_there message_check message >>= λ b. each_passes (mapped_check before volume span) sections) tt helds.1 in
    let short = both-pass (if_there message_check message) (λ b. each_passes (mapped_check before volume span) sections) tt disks.2 in
    -- addresses
    let sent = both-pass (if_there (mapped_file_check config machine options.Message) message) (λ a. each_passes (mapped_address_check config machine) sections) tt addresses.1 in
    let named = places_law machine config (all_places places) a.has.geometries a.inside a.own in
    let z : HasZeros image machine config places.line places.zero_place = record { named = (named.1.1.1.1.0, tt); other = w.apart.1.1.1.0; zeros = w.lies.1.1.1.0 } in
    let ready = all-ready before image machine volume span config places.line places.zero_place sound a.has z a.devices w.whole sections (all-pass (mapped_address_check config machine) sections sent.2) (all-pass (mapped_check before volume span) sections short.2) w.sections a.small in
    record {
      lawful = a.lawful;
      time_fits = a.time_fits;
      present_long = w.present_long;
      boot = w.boot;
      line_is = w.line_is;
      lies = w.lies;
      named = named;
      apart = w.apart;
      left = some-left sections left.2;
      message_few = few message (filled_file (names_in volume before) config.message) (optional_file_law volume before config.message sound) short.1;
      message = optional-lies before image machine volume config places.line places.zero_place options.Message sound a.has z config.message (message-small message short.1) sent.1 w.message;
      files = files-lie before image machine volume span config places.line places.zero_place sound a.has z a.devices w.whole config.sections (recursion_from_All _ config.sections a.lawful.sections)
          (all-pass (λ (section : ConfSection). section_check before machine volume section section.other) config.sections each.1) ready;
    }

pub accepted_law : AcceptedLaw
accepted_law before image machine volume span config time line places present keys memory sound a w =
    planned_law before image machine volume span config time (devices_in before machine) line places present keys memory sound
    (accepted_lies_law before image machine volume span config time line places present sound a w)
