-- The regions are handed over one after the other, with the initrd's where there is one. Memory stays the same.
use Rattle.std.proofs.Common.{◌∙◌}
use Rattle.stream_trait.proofs.ShowsLemmas.{shows_nothing}
use Rattle.boot_second.proofs.SecondLemmas.{region_alone, kernel_handed, handed_in}
use Rattle.boot_second.proofs.hand.hand_kernel.Goals as goal
use Rattle.boot_second.proofs.hand.hand_kernel.Goals.{in-Some, in_default}

pub returns-clause-handed : goal.returns-clause-handed
returns-clause-handed g c =
    let layout = c.args.layout.now in
    let memory = c.args.ram.now in
    let same = c.hand_region-2.ensures.same ∙ c.hand_region.ensures.same in
    kernel_handed layout memory _ _ _ _ _ _ c.hand_region.ensures.handed
    (handed_in memory layout.protected _ _ c.hand_region.ensures.same c.hand_region-2.ensures.handed)
    (
    elim c.match-layout.branch [
      | in-Some w ↦ rw (w.in-Some.is, w.to-is) (region_alone memory w.in-Some.initrd _ _ (handed_in memory w.in-Some.initrd _ _ same w.hand_region-in-Some.ensures.handed))
      | in_default w ↦ rw (w.in_default.is, w.to-is) (shows_nothing _)
    ]
    )
    (handed_in memory layout.line _ _
    (elim c.match-layout.branch [
      | in-Some w ↦ rw w.ram-is (w.hand_region-in-Some.ensures.same ∙ same)
      | in_default w ↦ rw w.ram-is same
    ])
    c.hand_region-3.ensures.handed)
    c.hand_entry.ensures.handed
