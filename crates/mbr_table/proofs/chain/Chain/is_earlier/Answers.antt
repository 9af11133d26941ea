use Rattle.mbr_table.proofs.ChainLemmas.{told_above}
use Rattle.mbr_table.proofs.chain.Chain.is_earlier.Goals as goal

pub returns-then-sector-highest-clause-found : goal.returns-then-sector-highest-clause-found
returns-then-sector-highest-clause-found g c =
    let disk = c.args.self.disk in
    told_above (g.D.Disks.past c.args.disks.now) disk.disk disk.size c.args.self.outer c.args.tables c.args.highest c.args.sector
    c.if-sector-highest.true c.requires.highest
