-- The line stays, or its sector is written, there is none, or the disk failed.
use Rattle.std.proofs.Common.{◌≡◌, ◌∙◌, false, sym, ap, Err}
use Rattle.lilo_model.specs.LineSector.{is_same_line}
use Rattle.sector_address.specs.Machine.{machine_of}
use Rattle.sector_address.specs.View.{slot_view}
use Rattle.bios_model.specs.declared.bios.BiosFault.TheVariants as bios
use Rattle.boot_map.specs.View.{line_view}
use Rattle.loader_core.proofs.LeavesLemmas.{line_kept, line_made, line_missing, line_failed}
use Rattle.loader_core.proofs.line.write_line.Goals as goal

pub returns-then-is_same_line : goal.returns-then-is_same_line
returns-then-is_same_line g c =
    line_kept g.D.Disks c.args.disks.now (machine_of g.D.Disks c.args.disks.now) (slot_view c.args.at.now.slot) (line_view c.args.at.now.line) (line_view c.args.new.now) c.args.phase.now
    (sym c.is_same_line.ensures ∙ c.if-is_same_line.true) c.requires.begins

pub returns-in-Ok : goal.returns-in-Ok
returns-in-Ok g c =
    let differs : is_same_line (line_view c.args.at.now.line) (line_view c.args.new.now) ≡ false = sym c.is_same_line.ensures ∙ c.if-is_same_line.false in
    let writes = rw c.write_into.ensures.bytes at c.in-Ok.ensures.writes in
    line_made g.D.Disks c.args.disks.now c.write_sector.new.disks (machine_of g.D.Disks c.args.disks.now) (slot_view c.args.at.now.slot) (line_view c.args.at.now.line) (line_view c.args.new.now)
    differs c.in-Ok.ensures.later writes (λ lost. let is = c.in-Ok.ensures.not_found.1 lost in cc)

pub returns-in-Err-NotFound : goal.returns-in-Err-NotFound
returns-in-Err-NotFound g c =
    let differs : is_same_line (line_view c.args.at.now.line) (line_view c.args.new.now) ≡ false = sym c.is_same_line.ensures ∙ c.if-is_same_line.false in
    let writes = rw (c.write_into.ensures.bytes, c.in-Err-NotFound.field-0-is) at c.in-Err-NotFound.ensures.writes in
    line_missing g.D.Disks c.args.disks.now c.write_sector.new.disks (machine_of g.D.Disks c.args.disks.now) (slot_view c.args.at.now.slot) (line_view c.args.at.now.line) (line_view c.args.new.now)
    differs c.in-Err-NotFound.ensures.later bios.NotFound c.args.phase.now writes (c.in-Err-NotFound.ensures.not_found.0 (ap Err c.in-Err-NotFound.field-0-is)) c.requires.begins

pub returns-in-Err-Timeout : goal.returns-in-Err-Timeout
returns-in-Err-Timeout g c =
    let differs : is_same_line (line_view c.args.at.now.line) (line_view c.args.new.now) ≡ false = sym c.is_same_line.ensures ∙ c.if-is_same_line.false in
    let writes = rw (c.write_into.ensures.bytes, c.in-Err-Timeout.field-0-is) at c.in-Err-Timeout.ensures.writes in
    let there = rw c.in-Err-Timeout.field-0-is at c.in-Err-Timeout.ensures.not_found in
    line_failed g.D.Disks c.args.disks.now c.write_sector.new.disks (machine_of g.D.Disks c.args.disks.now) (slot_view c.args.at.now.slot) (line_view c.args.at.now.line) (line_view c.args.new.now)
    differs c.in-Err-Timeout.ensures.later bios.Timeout writes (λ lost. let is = there.1 lost in cc) (c.in-Err-Timeout.ensures.timeout (ap Err c.in-Err-Timeout.field-0-is))
