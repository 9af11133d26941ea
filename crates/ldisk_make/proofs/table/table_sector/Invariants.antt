use Rattle.std.proofs.Common.{◌≡◌, ◌-◌, ◌*◌, ◌++◌, map, take, replicate}
use Rattle.ldisk_words.specs.View.{part_view}
use Rattle.ldisk_make.proofs.TableLemmas.{front_of}
use Rattle.ldisk_make.proofs.table.table_sector.Given as goal

-- the entries so far, and zeros
abbrev pub invariant-loop-at : goal.invariant-loop-at
invariant-loop-at l = record {
  bytes : l.sector ≡ front_of (map part_view (take l.at l.parts)) ++ replicate (66 - 16 * l.at) 0;
}
