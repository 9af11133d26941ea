-- The texts of the line go one after the other.
use Rattle.std.proofs.Common.{◌++◌, ap, sym, append_assoc}
use Rattle.std.specs.Prelude.{codes, decimal}
use Rattle.ldisk_run.specs.Pieces.{held_by}
use Rattle.ldisk_run.proofs.AddsLemmas.{adds_join, adds_same}
use Rattle.ldisk_run.proofs.freeing.put_line.Goals as goal

pub returns-clause-adds : goal.returns-clause-adds
returns-clause-adds g c =
    let held = held_by g.O.Sink in
    let zones = codes "zones " ++ decimal c.args.freed.zones in
    let inodes = codes ", inodes " ++ decimal c.args.freed.inodes in
    let start = held c.args.out.now in
    let second = adds_join start (held c.put_count.new.out) (held c.put_count-2.new.out) zones inodes c.put_count.ensures.adds c.put_count-2.ensures.adds in
    let third = adds_join start (held c.put_count-2.new.out) (held c.put.new.self) (zones ++ inodes) (codes "\n") second c.put.ensures.adds in
    adds_same start (held c.put.new.self) ((zones ++ inodes) ++ codes "\n") _
    (ap (λ text. text ++ codes "\n") (sym (append_assoc zones (codes ", inodes ") (decimal c.args.freed.inodes)))) third
