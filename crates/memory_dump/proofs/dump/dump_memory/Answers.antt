-- The regions are shown one after the other, with the initrd's where there is one. Memory stays the same.
use Rattle.std.proofs.Common.{◌∙◌}
use Rattle.stream_trait.proofs.ShowsLemmas.{shows_nothing}
use Rattle.memory_dump.proofs.DumpLemmas.{region_alone, regions_shown, shown_in}
use Rattle.memory_dump.proofs.dump.dump_memory.Goals as goal
use Rattle.memory_dump.proofs.dump.dump_memory.Goals.{in-Some, in_default}

pub returns-clause-shown : goal.returns-clause-shown
returns-clause-shown g c =
    let layout = c.args.layout.now in
    let memory = c.args.ram.now in
    let same = c.dump_part-2.ensures.same ∙ c.dump_part.ensures.same in
    regions_shown layout memory _ _ _ _ _ c.dump_part.ensures.shown
    (shown_in memory layout.protected _ _ c.dump_part.ensures.same c.dump_part-2.ensures.shown)
    (
    elim c.match-layout.branch [
      | in-Some w ↦ rw (w.in-Some.is, w.out-is) (region_alone memory w.in-Some.initrd _ _ (shown_in memory w.in-Some.initrd _ _ same w.dump_part-in-Some.ensures.shown))
      | in_default w ↦ rw (w.in_default.is, w.out-is) (shows_nothing _)
    ]
    )
    (shown_in memory layout.line _ _
    (elim c.match-layout.branch [
      | in-Some w ↦ rw w.ram-is (w.dump_part-in-Some.ensures.same ∙ same)
      | in_default w ↦ rw w.ram-is same
    ])
    c.dump_part-3.ensures.shown)
