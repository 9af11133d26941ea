-- The places so far.
use Rattle.std.proofs.Common.{◌≡◌, map}
use Rattle.minix_zones.specs.View.{span_view}
use Rattle.slot_lists.specs.Made.{place_view}
use Rattle.install_laws.specs.InstallVerdict.{sectors_of_blocks}
use Rattle.install_room.proofs.places.places_of.Given as goal

abbrev pub invariant-loop-index : goal.invariant-loop-index
invariant-loop-index l = record {
  places : map place_view l.places.items ≡ sectors_of_blocks (span_view l.span) l.blocks l.index;
}
