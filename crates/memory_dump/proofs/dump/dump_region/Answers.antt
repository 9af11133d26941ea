-- The first line and the bytes are shown one after the other.
use Rattle.std.proofs.Common.{◌∙◌}
use Rattle.stream_trait.proofs.ShowsLemmas.{shows_join, shows_same}
use Rattle.memory_dump.specs.Dump.{hex_text}
use Rattle.memory_dump.proofs.dump.dump_region.Goals as goal

pub returns-clause-shown : goal.returns-clause-shown
unfolding hex_text
returns-clause-shown g c =
    shows_join _ _ _ _ _ (shows_same _ _ _ _ (c.as_slice.ensures.value ∙ c.head.ensures) c.put.ensures.shown) c.dump_bytes.ensures.shown
