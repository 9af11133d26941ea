use Rattle.setup_header.proofs.Sectors.{header_of-read}
use Rattle.setup_header.proofs.header.header_of.Goals as goal

pub returns-clause-view : goal.returns-clause-view
returns-clause-view c =
    header_of-read c.args.first.now c.args.second.now
    c.setup_of.result c.version_of-version.result c.is_high.result c.initrd_max_of.result c.line_limit_of.result
    c.told-first c.setup_of.ensures c.version_of-version.ensures c.is_high.ensures c.initrd_max_of.ensures
    c.line_limit_of.ensures.value
