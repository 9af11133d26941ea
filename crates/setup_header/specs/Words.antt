-- What callers need to know of a header that was read, and of a layout that was planned.
use Rattle.std.specs.Prelude.{◌≡◌, ℕ, ◌+◌, ◌*◌, ◌≤◌, ◌⊎◌, IfSome}
use Rattle.lilo_model.specs.Header.{real_size}
use Rattle.setup_header.specs.declared.header.Header.{Header}
use Rattle.setup_header.specs.declared.layout.Region.{Region}
use Rattle.setup_header.specs.declared.layout.Layout.{Layout}

-- a kernel of some length can have this header: at most 64 setup sectors, a real-mode part that is there,
-- and a limit of 255 bytes or fewer for the command line
pub record IsHeaderFor (header : Header) (len : ℕ) : Type 0 where
  pub setup_bound : header.setup ≤ 64
  pub has_real : real_size header.setup ≤ len
  pub line_bound : header.line_limit ≤ 255

-- a region ends at an address or before it
abbrev pub EndsBy : ℕ → Region → Type 0
EndsBy end region = region.address + region.length ≤ end

-- a region lies between two addresses
pub record StandsBetween (least end : ℕ) (region : Region) : Type 0 where
  pub begins_from : least ≤ region.address
  pub ends_by : EndsBy end region

-- how long the regions of a layout are
pub record HasLengths (layout : Layout) (header : Header) (len line : ℕ) : Type 0 where
  pub real_length : layout.real.length ≡ (header.setup + 1) * 512
  pub rest_length : layout.real.length + layout.protected.length ≡ len
  pub line_length : layout.line.length ≡ line + 1

-- all regions of a layout lie in a memory of some bytes
pub record LiesIn (memory : ℕ) (layout : Layout) : Type 0 where
  pub real_inside : EndsBy memory layout.real
  pub protected_inside : EndsBy memory layout.protected
  pub line_inside : EndsBy memory layout.line
  pub initrd_inside : IfSome layout.initrd (EndsBy memory)

-- a region ends before another begins, or begins after its end
abbrev pub IsApartFrom : Region → Region → Type 0
IsApartFrom one other =
    (one.address + one.length ≤ other.address) ⊎ (other.address + other.length ≤ one.address)

-- no region of a layout has a byte of another
pub record AreApart (layout : Layout) : Type 0 where
  pub real_line : IsApartFrom layout.real layout.line
  pub real_protected : IsApartFrom layout.real layout.protected
  pub line_protected : IsApartFrom layout.line layout.protected
  pub initrd_others :
      IfSome layout.initrd (λ initrd.
      IsApartFrom initrd layout.real × IsApartFrom initrd layout.line × IsApartFrom initrd layout.protected)
