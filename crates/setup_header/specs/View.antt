-- Which plain value of the model each value of this crate stands for.
use Rattle.std.specs.Option.{option_map}
use Rattle.lilo_model.specs.Header as model
use Rattle.setup_header.specs.declared.header.Header.{Header}
use Rattle.setup_header.specs.declared.layout.Region.{Region}
use Rattle.setup_header.specs.declared.layout.Layout.{Layout}
use Rattle.setup_header.specs.declared.refusal.SetupFault.{SetupFault}
use Rattle.setup_header.specs.declared.refusal.SetupFault.TheVariants as faults

-- what a header says
abbrev pub header_view : Header → model.Header
header_view header = record {
  setup = header.setup;
  version = header.version;
  high = header.high;
  initrd_max = header.initrd_max;
  line_limit = header.line_limit;
}

-- some bytes of memory
abbrev pub region_view : Region → model.Region
region_view region = record { address = region.address; size = region.length }

-- where a kernel and what goes with it lie
abbrev pub layout_view : Layout → model.Layout
layout_view layout = record {
  real = region_view layout.real;
  protected = region_view layout.protected;
  initrd = option_map region_view layout.initrd;
  line = region_view layout.line;
}

-- a refusal
abbrev pub setup_fault_view : SetupFault → model.SetupFault
setup_fault_view faults.TooShort = model.TooShort
setup_fault_view faults.NoBootFlag = model.NoBootFlag
setup_fault_view (faults.SetupTooLarge setup) = model.SetupTooLarge setup
setup_fault_view (faults.LowTooLarge size) = model.LowTooLarge size
setup_fault_view faults.NoInitrd = model.NoInitrd
setup_fault_view (faults.NoRoom need have) = model.NoRoom need have
setup_fault_view (faults.LineTooLong size) = model.LineTooLong size
