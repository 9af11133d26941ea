-- What cases of configurations are written in: the least that one says, and what is said beyond it. (This project's own.)
use Rattle.std.specs.Prelude.{ℕ, false, List, [], None, Some, codes}
use Rattle.lilo_model.specs.Slots.{ChsMode}
use Rattle.lilo_model.specs.Conf.{Config, ConfSection, Unsaid}

-- a section that says nothing but what opens it, in this line, and its name
abbrev pub section_at : ℕ → List ℕ → List ℕ → ConfSection
section_at line path label = record {
  other = None;
  path = path;
  label = label;
  alias = None;
  initrd = None;
  root = None;
  mount = Unsaid;
  append = None;
  literal = None;
  vga = None;
  password = None;
  restricted = false;
  optional = false;
  lock = false;
  fallback = None;
  table = None;
  line = line;
}

-- a configuration that says nothing but its boot device, /dev/hda, and its map
abbrev pub plain_config : Config
plain_config = record {
  boot = Some (record { disk = 0; partition = 0 });
  map = codes "/boot/map";
  install = None;
  backup = None;
  force_backup = None;
  compact = false;
  mode = ChsMode;
  default_name = None;
  delay = 0;
  timeout = None;
  prompt = false;
  message = None;
  disks = [];
  sections = [];
}
