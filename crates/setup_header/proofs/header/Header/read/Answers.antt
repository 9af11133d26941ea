use Rattle.setup_header.specs.View.{header_view}
use Rattle.setup_header.proofs.Reading.{header_at-no_flag, header_at-large, header_at-short, header_at-read}
use Rattle.setup_header.proofs.header.Header.read.Goals as goal

pub returns-then-u16_at-ne-BOOT_FLAG-clause-header : goal.returns-then-u16_at-ne-BOOT_FLAG-clause-header
returns-then-u16_at-ne-BOOT_FLAG-clause-header c =
    header_at-no_flag c.args.first.now c.args.second.now c.args.length c.u16_at.result
    c.told-first c.if-length-lt-SECTOR.false c.u16_at.ensures c.if-u16_at-ne-BOOT_FLAG.true

pub returns-then-setup-gt-MOST_SETUP-clause-header :
    goal.returns-then-setup-gt-MOST_SETUP-clause-header
returns-then-setup-gt-MOST_SETUP-clause-header c =
    header_at-large c.args.first.now c.args.second.now c.args.length c.u16_at.result c.setup_of-setup.result
    c.told-first c.if-length-lt-SECTOR.false c.u16_at.ensures c.if-u16_at-ne-BOOT_FLAG.false c.setup_of-setup.ensures
    c.if-setup-gt-MOST_SETUP.true

pub returns-then-length-real_size-clause-header : goal.returns-then-length-real_size-clause-header
returns-then-length-real_size-clause-header c =
    header_at-short c.args.first.now c.args.second.now c.args.length c.u16_at.result c.setup_of-setup.result c.real_size.result
    c.told-first c.if-length-lt-SECTOR.false c.u16_at.ensures c.if-u16_at-ne-BOOT_FLAG.false c.setup_of-setup.ensures
    c.if-setup-gt-MOST_SETUP.false c.real_size.ensures c.if-length-real_size.true

pub returns-else-length-real_size-clause-header : goal.returns-else-length-real_size-clause-header
returns-else-length-real_size-clause-header c =
    header_at-read c.args.first.now c.args.second.now c.args.length c.u16_at.result c.setup_of-setup.result c.real_size.result
    (header_view c.header_of.result)
    c.told-first c.if-length-lt-SECTOR.false c.u16_at.ensures c.if-u16_at-ne-BOOT_FLAG.false c.setup_of-setup.ensures
    c.if-setup-gt-MOST_SETUP.false c.real_size.ensures c.if-length-real_size.false c.header_of.ensures.view
