use Rattle.std.proofs.Common.{◌≡◌, length}
use Rattle.minix_layout.specs.View.{kind_view}
use Rattle.minix_fill.specs.Numbers.{zones_view, HasFirstNumbers}
use Rattle.minix_fill.proofs.numbers.put_numbers.Given as goal

-- the first numbers are there
abbrev pub invariant-loop-index : goal.invariant-loop-index
invariant-loop-index l = record {
  long : length l.into ≡ 1024;
  numbers : HasFirstNumbers (kind_view l.kind) (zones_view l.zones) l.place l.index l.into;
}
