-- Links that are enough.
use Rattle.std.proofs.Common.{arith}
use Rattle.minix_turns.specs.Inode.{RaisedLinksLaw, LoweredLinksLaw}

pub raised_links_law : RaisedLinksLaw
raised_links_law super parts number links sound more paths root distinct lead =
    let had = sound.links number paths root distinct lead in
    omega (arith, had, more)

pub lowered_links_law : LoweredLinksLaw
lowered_links_law super old new number links left is paths root distinct lead =
    let few = left paths distinct lead in
    omega (arith, few, is)
