-- What was surveyed is apart, and is planned as before (rules of this project's own).
use Rattle.std.specs.Prelude.{◌≡◌, ℕ, Bool, Ok}
use Rattle.std.specs.List.{AllByRecursion}
use Rattle.lilo_model.specs.Apart.{Apart}
use Rattle.lilo_model.specs.Disks.{Image, Machine}
use Rattle.lilo_model.specs.MinixNames.{names_in}
use Rattle.lilo_model.specs.PlanRefusal.{plan_at}
use Rattle.install_apart.specs.Apart.{device_checks}
use Rattle.install_laws.specs.InstallVerdict.{Begun}
use Rattle.install_order.specs.Begins.{IsBegun, IsSurveyed}
use Rattle.install_order.specs.declared.examination.Examined.{Examined}
use Rattle.install_join_laws.specs.ApartLaws.{KeepsDevices}
use Rattle.install_join_laws.specs.Plans.{AllPassBy, MapsAsIn}

-- on the disks as they were when they were examined, and once they are settled, where the devices are apart still
abbrev pub SurveyedApartLaw : Type 0
SurveyedApartLaw =
    (image : Image) (machine : Machine) (begun : Begun) (found : Examined) (settled : Bool) (is : IsSurveyed image machine begun found settled)
    → device_checks image machine begun.volume begun.config begun.boot ≡ Ok tt
    → Apart image machine begun.volume begun.config begun.boot

-- where the paths that are named pass by what settling changes, too, what was apart is planned as it was, or refused as it was
abbrev pub BegunPlansLaw : Type 0
BegunPlansLaw =
    (image c : Image) (machine : Machine) (begun : Begun) (found : Examined) (time : ℕ) (is : IsBegun image machine begun found c)
    → KeepsDevices image c machine begun.config begun.boot → Apart image machine begun.volume begun.config begun.boot
    → AllPassBy (names_in begun.volume image) is.names begun.config
    → (plan_at c machine begun.volume begun.span begun.config time ≡ plan_at image machine begun.volume begun.span begun.config time)
    × AllByRecursion (MapsAsIn image c machine begun.volume) begun.config.sections
