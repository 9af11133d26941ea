-- A planned map is no longer than a file of its volume may be.
use Rattle.std.proofs.Common.{◌≡◌, ◌≤◌, ℕ, ◌+◌, ◌*◌, Bool, true, false, if◌then◌else◌, length, Ok, refl, subst, arith}
use Rattle.std.specs.Prelude.{flat_map}
use Rattle.std.specs.List.{AllByRecursion}
use Rattle.std.proofs.lemmas.List.Elements.{All-from_recursion}
use Rattle.std.proofs.lemmas.List.Sums.{sum-map, sum_by-le}
use Rattle.std.proofs.lemmas.Nat.{mul-le}
use Rattle.lilo_model.specs.Checks.{◌>>=◌}
use Rattle.lilo_model.specs.Conf.{Config}
use Rattle.lilo_model.specs.ConfLawful.{IsLawful}
use Rattle.lilo_model.specs.ConfOptions as options
use Rattle.lilo_model.specs.Disks.{Image, Machine}
use Rattle.lilo_model.specs.MinixLayout.{is_v1, v1_limit}
use Rattle.lilo_model.specs.MinixNames.{IsSound}
use Rattle.lilo_model.specs.MinixParts.{Volume, parts_of}
use Rattle.lilo_model.specs.Plan.{Plan, optional_chain, section_size, map_size, plan_names}
use Rattle.lilo_model.specs.PlanRefusal.{each_passes, if_there, mapped_file_check, mapped_address_check, file_checks, held_checks, address_checks, plan_at}
use Rattle.lilo_model.specs.Planned.{optional_file, mapped_section, planned}
use Rattle.map_laws.proofs.Accepted.{both-pass, all-pass}
use Rattle.map_laws.proofs.Lawful.{few-names}
use Rattle.install_order.specs.MapSizeLaws.{MapSizeLaw}
use Rattle.install_order.proofs.MapFiles.{v1_sectors, placed-optional, checked-optional, optional-short}
use Rattle.install_order.proofs.MapSections.{all-short, all-of-1, all-of-2, sections-few}

module _ (image : Image) (machine : Machine) (volume : Volume) (config : Config) (time : ℕ) (sound : IsSound volume image) (lawful : IsLawful config) where
  abbrev plan : Plan
  plan = planned image machine volume config time

  few-sections : length plan.sections ≤ 19
  unfolding plan_names
  few-sections =
      let names = few-names image machine volume config time lawful in
      let few = sections-few plan.sections in
      omega (arith, names, few)

  size-few : (chain most : ℕ) → optional_chain config machine plan.message ≤ chain → AllByRecursion (λ mapped. section_size config machine mapped ≤ most) plan.sections → map_size plan machine ≤ 5 + chain + 19 * most
  unfolding planned map_size
  size-few chain most message each =
      let same = sum-map (section_size config machine) plan.sections in
      let all = sum_by-le (section_size config machine) most plan.sections (All-from_recursion _ plan.sections each) in
      let few = mul-le (length plan.sections) most 19 most few-sections (omega arith) in
      omega (arith, message, same, all, few)

  of-1 : is_v1 volume.layout.kind ≡ true → 512 * map_size plan machine ≤ v1_limit
  unfolding planned
  of-1 v1 =
      let sections = flat_map (mapped_section image machine volume) config.sections in
      let message = placed-optional config machine (optional_file volume (parts_of volume image) config.message) v1_sectors (optional-short volume image sound v1 config.message) in
      let few = size-few 8339 16680 message (all-of-1 image machine volume sound config v1 sections (all-short image machine volume sound config.sections)) in
      omega (arith, few)

  of-2 : address_checks machine plan ≡ Ok tt → 512 * map_size plan machine ≤ 4294967295
  unfolding planned address_checks
  of-2 is =
      let sections = flat_map (mapped_section image machine volume) config.sections in
      let message = optional_file volume (parts_of volume image) config.message in
      let both = both-pass (if_there (mapped_file_check config machine options.Message) message) (λ a. each_passes (mapped_address_check config machine) sections) tt is in
      let all = all-of-2 image machine volume sound config sections (all-short image machine volume sound config.sections) (all-pass (mapped_address_check config machine) sections both.2) in
      let few = size-few 65535 131072 (checked-optional config machine options.Message message both.1) all in
      omega (arith, few)

  by-kind : (old : Bool) → is_v1 volume.layout.kind ≡ old → address_checks machine plan ≡ Ok tt → 512 * map_size plan machine ≤ (if old then v1_limit else 4294967295)
  by-kind true v1 is = of-1 v1
  by-kind false v2 is = of-2 is

pub map_size_law : MapSizeLaw
unfolding plan_at
map_size_law image machine volume span config time plan sound lawful is =
    let own = planned image machine volume config time in
    let files = both-pass (file_checks image machine volume own) (λ a. held_checks image machine volume span own >>= λ b. address_checks machine own >>= λ c. Ok own) plan is in
    let helds = both-pass (held_checks image machine volume span own) (λ b. address_checks machine own >>= λ c. Ok own) plan files.2 in
    let addresses = both-pass (address_checks machine own) (λ c. Ok own) plan helds.2 in
    let passed = addresses.2 in
    let same : own ≡ plan = cc in
    subst (λ plan. 512 * map_size plan machine ≤ (if is_v1 volume.layout.kind then v1_limit else 4294967295)) same
    (by-kind image machine volume config time sound lawful (is_v1 volume.layout.kind) refl addresses.1)
