use Rattle.std.proofs.Common.{◌<◌, ◌≤◌, length, arith}
use Rattle.lilo_words.specs.View.{part_view}
use Rattle.lilo_words.proofs.RunReads.{IsEndOf, part_more, part_last, part_wrong}
use Rattle.lilo_words.proofs.run.read_part.Goals as goal
use Rattle.lilo_words.proofs.run.read_part.Goals.{then-end-count, else-end-count}

pub returns-after-end-count : goal.returns-after-end-count
returns-after-end-count c =
    let words = c.args.words.now in
    let end = c.part_end-end.result in
    let ends : IsEndOf c.args.words.now c.args.from c.part_end-end.result =
    record { there = c.requires; within = c.part_end-end.ensures.within; is = c.part_end-end.ensures.end } in
    elim c.if-end-count.branch [
      | then-end-count w ↦
          (let less : c.part_end-end.result < length c.args.words.now = omega arith in
          rw w.result-is (
            omega (arith, c.part_end-end.ensures.end),
            omega arith,
            part_more c.args.words.now c.args.from c.part_end-end.result (part_view c.args.words.now c.in-Ok.part) ends less c.in-Ok.ensures,
          ))
      | else-end-count w ↦
          (let past : length c.args.words.now ≤ c.part_end-end.result = omega arith in
          rw w.result-is
          (part_last c.args.words.now c.args.from c.part_end-end.result (part_view c.args.words.now c.in-Ok.part) ends past c.in-Ok.ensures))
    ]

pub returns-in-Err : goal.returns-in-Err
returns-in-Err c =
    let ends : IsEndOf c.args.words.now c.args.from c.part_end-end.result =
    record { there = c.requires; within = c.part_end-end.ensures.within; is = c.part_end-end.ensures.end } in
    part_wrong c.args.words.now c.args.from c.part_end-end.result c.in-Err.place ends c.in-Err.ensures
