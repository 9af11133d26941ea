-- An image where what was planned lies means what the configuration does.
use Rattle.lilo_model.specs.DefaultLine.{Empty}
use Rattle.lilo_model.specs.Planned.{devices_in}
use Rattle.map_laws.proofs.AcceptedWhole.{accepted_lies_law}
use Rattle.map_laws.proofs.Planned.{planned_law}
use Rattle.map_laws.proofs.Lines.{lines_law}
use Rattle.install_laws.specs.Planned.{MeansLaw, AcceptedMeansLaw}

pub means_law : MeansLaw
means_law before c machine volume span config time devices places present sound s elsewhere =
    let lines = lines_law before c machine volume span config time devices Empty places present sound s elsewhere in
    record {
      boot = lines.names.boot;
      says = lines.names.says;
      named = lines.names.named;
      line_is = s.line_is;
      empty = λ keys memory. planned_law before c machine volume span config time devices Empty places present keys memory sound s;
      each_line = λ bytes line is keys memory. lines.boots bytes line keys memory is;
    }

pub accepted_means_law : AcceptedMeansLaw
accepted_means_law before c machine volume span config time places present sound a w elsewhere =
    means_law before c machine volume span config time (devices_in before machine) places present sound
    (accepted_lies_law before c machine volume span config time Empty places present sound a w) elsewhere
