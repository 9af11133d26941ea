-- The header of a Linux kernel, the layout of memory, and the header's fields that a loader replaces
-- (Linux/x86 boot protocol, 2.00 to 2.06 and the form before it).
use Rattle.std.specs.Prelude.{ℕ, ◌+◌, ◌-◌, ◌*◌, ◌/◌, ◌%◌, ◌==◌, nat_le, min, Bool, true, false, not, ◌&&◌, ◌||◌, if◌then◌else◌, bit_or, List, [], ◌∷◌, ◌++◌}
use Rattle.std.specs.Prelude.{bytes_eq, codes, slice_index, Option, Some, None, is_some, is_none, Result, Ok}
use Rattle.lilo_model.specs.Bytes.{part_of, with_part, number16, number32, bytes16, bytes32}
use Rattle.lilo_model.specs.Checks.{◌>>=◌, require}

-- what the header of a kernel says
pub record Header : Type 0 where
  -- the sectors of the real-mode part after its first
  pub setup : ℕ
  -- the version of the protocol, where there is one
  pub version : Option ℕ
  -- whether the protected-mode part lies above the first 1,048,576 bytes
  pub high : Bool
  -- the address of the last byte that an initrd may take
  pub initrd_max : ℕ
  -- the most bytes of a command line
  pub line_limit : ℕ

-- some bytes of memory
pub record Region : Type 0 where
  pub address : ℕ
  pub size : ℕ

-- where a kernel and what goes with it lie in memory
pub record Layout : Type 0 where
  pub real : Region
  pub protected : Region
  pub initrd : Option Region
  -- the command line with its zero byte
  pub line : Region

-- why a kernel is refused
pub data SetupFault : Type 0 where
  -- it is shorter than its setup
  TooShort : SetupFault
  -- its first sector doesn't end as a boot sector does
  NoBootFlag : SetupFault
  -- it has more than 64 setup sectors
  SetupTooLarge : (setup : ℕ) → SetupFault
  -- a low kernel has more than 524,288 bytes after its setup
  LowTooLarge : (size : ℕ) → SetupFault
  -- an initrd goes with a kernel that can't take one
  NoInitrd : SetupFault
  -- it, or its initrd, would end past the memory that there is for it
  NoRoom : (need have : ℕ) → SetupFault
  -- its command line is longer than it takes
  LineTooLong : (size : ℕ) → SetupFault

-- ---- the header

-- the sectors of the real-mode part after its first
unfoldable pub setup_of : List ℕ → ℕ
setup_of bytes = if slice_index bytes 0x1F1 == 0 then 4 else slice_index bytes 0x1F1

-- the version of the protocol, where there is one
unfoldable pub version_of : List ℕ → Option ℕ
version_of bytes =
    if bytes_eq (part_of bytes 0x202 4) (codes "HdrS") then Some (number16 bytes 0x206) else None

-- whether the protocol has a version, from a given one on
abbrev pub is_from : ℕ → Option ℕ → Bool
is_from least None = false
is_from least (Some version) = nat_le least version

-- the last byte that an initrd may take
abbrev pub initrd_max_of : List ℕ → Option ℕ → ℕ
initrd_max_of bytes version = if is_from 0x203 version then number32 bytes 0x22C else 0x37FFFFFF

-- the most bytes of a command line
abbrev pub line_limit_of : List ℕ → Option ℕ → ℕ
line_limit_of bytes version = if is_from 0x206 version then min 255 (number32 bytes 0x238) else 255

-- the header in a kernel's first two sectors, whatever its length
unfoldable pub header_of : List ℕ → Header
header_of bytes = record {
  setup = setup_of bytes;
  version = version_of bytes;
  high = is_some (version_of bytes) && (slice_index bytes 0x211 % 2 == 1);
  initrd_max = initrd_max_of bytes (version_of bytes);
  line_limit = line_limit_of bytes (version_of bytes);
}

-- the bytes of the real-mode part
abbrev pub real_size : ℕ → ℕ
real_size setup = (setup + 1) * 512

-- the header in the first two sectors of a kernel of some length, or the first fault in this order
unfoldable pub header_at : List ℕ → ℕ → Result Header SetupFault
header_at bytes len = do
  a ← require (nat_le 512 len) TooShort
  b ← require (number16 bytes 0x1FE == 0xAA55) NoBootFlag
  c ← require (nat_le (setup_of bytes) 64) (SetupTooLarge (setup_of bytes))
  d ← require (nat_le (real_size (setup_of bytes)) len) TooShort
  Ok (header_of bytes)

-- ---- the layout

-- the bytes of the protected-mode part
abbrev pub protected_size : Header → ℕ → ℕ
protected_size header len = len - real_size header.setup

-- the address of the protected-mode part
abbrev pub protected_address : Header → ℕ
protected_address header = if header.high then 0x100000 else 0x10000

-- the end of the protected-mode part
abbrev pub protected_end : Header → ℕ → ℕ
protected_end header len = protected_address header + protected_size header len

-- the checks that don't know the memory: of a kernel's length, of an initrd's, and of a line's
unfoldable pub fit_checks : Header → ℕ → Option ℕ → ℕ → Result (Unit {0}) SetupFault
fit_checks header len initrd line = do
  a ← require (header.high || nat_le (protected_size header len) 524288) (LowTooLarge (protected_size header len))
  b ← require (is_none initrd || is_some header.version) NoInitrd
  require (nat_le line header.line_limit) (LineTooLong line)

-- the least multiple of 4096 that isn't below a number
abbrev pub page_above : ℕ → ℕ
page_above number = (number + 4095) / 4096 * 4096

-- the greatest one that isn't above it
abbrev pub page_below : ℕ → ℕ
page_below number = number / 4096 * 4096

-- the least address of an initrd
abbrev pub initrd_least : Header → ℕ → ℕ
initrd_least header len = page_above (if header.high then protected_end header len else 0x100000)

-- the end of the memory that an initrd may take
abbrev pub initrd_end : Header → ℕ → ℕ
initrd_end header memory = min memory (header.initrd_max + 1)

-- where an initrd of some bytes lies between two addresses: as high as it can at a multiple of 4096
abbrev pub initrd_between : ℕ → ℕ → ℕ → Result (Option Region) SetupFault
initrd_between least end size = do
  a ← require (nat_le (least + size) end) (NoRoom (least + size) end)
  Ok (Some (record { address = page_below (end - size); size = size }))

-- where the initrd lies, if there is one
abbrev pub initrd_region : Header → ℕ → ℕ → Option ℕ → Result (Option Region) SetupFault
initrd_region header len memory None = Ok None
initrd_region header len memory (Some size) =
    initrd_between (initrd_least header len) (initrd_end header memory) size

-- the layout in a memory of some bytes, or the first fault in this order
unfoldable pub plan_memory : Header → ℕ → Option ℕ → ℕ → ℕ → Result Layout SetupFault
plan_memory header len initrd line memory = do
  a ← fit_checks header len initrd line
  b ← require (not header.high || nat_le (protected_end header len) memory) (NoRoom (protected_end header len) memory)
  region ← initrd_region header len memory initrd
  Ok (record {
    real = record { address = 0x90000; size = real_size header.setup };
    protected = record { address = protected_address header; size = protected_size header len };
    initrd = region;
    line = record { address = 0x99800; size = line + 1 };
  })

-- ---- the fields that are replaced

-- an offset, and the bytes that are there from then on
pub record Field : Type 0 where
  pub at : ℕ
  pub bytes : List ℕ

-- the field of a video mode
abbrev pub video_fields : Option ℕ → List Field
video_fields None = []
video_fields (Some mode) = record { at = 0x1FA; bytes = bytes16 mode } ∷ []

-- the fields of an initrd's address and length
abbrev pub initrd_fields : Option Region → List Field
initrd_fields None = []
initrd_fields (Some region) =
    record { at = 0x218; bytes = bytes32 region.address } ∷ (record { at = 0x21C; bytes = bytes32 region.size } ∷ [])

-- the fields of a kernel with a version: the loader's number, and the initrd
abbrev pub loader_fields : Option ℕ → Option Region → List Field
loader_fields None initrd = []
loader_fields (Some version) initrd = record { at = 0x210; bytes = 0x02 ∷ [] } ∷ initrd_fields initrd

-- from 2.01 on: the end of the heap, and the flag that says so
abbrev pub heap_fields : Bool → ℕ → List Field
heap_fields false flags = []
heap_fields true flags =
    record { at = 0x224; bytes = bytes16 0x9600 } ∷ (record { at = 0x211; bytes = bit_or flags 0x80 ∷ [] } ∷ [])

-- the command line's address: from 2.02 on in a field of its own, else by a magic number and an offset
abbrev pub line_fields : Bool → List Field
line_fields true = record { at = 0x228; bytes = bytes32 0x99800 } ∷ []
line_fields false =
    record { at = 0x20; bytes = bytes16 0xA33F } ∷ (record { at = 0x22; bytes = bytes16 0x9800 } ∷ [])

-- all fields that are replaced
unfoldable pub replaced_fields : Header → Option Region → Option ℕ → List ℕ → List Field
replaced_fields header initrd video bytes =
    video_fields video
    ++ loader_fields header.version initrd
    ++ heap_fields (is_from 0x201 header.version) (slice_index bytes 0x211)
    ++ line_fields (is_from 0x202 header.version)

-- bytes with fields replaced
abbrev pub with_fields : List ℕ → List Field → List ℕ
with_fields bytes [] = bytes
with_fields bytes (field ∷ fields) = with_fields (with_part bytes field.at field.bytes) fields

-- a kernel, or its first two sectors, with the fields replaced
unfoldable pub patch : Header → Layout → Option ℕ → List ℕ → List ℕ
patch header layout video bytes =
    with_fields bytes (replaced_fields header layout.initrd video bytes)
