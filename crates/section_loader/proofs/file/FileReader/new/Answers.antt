use Rattle.std.proofs.Common.{◌≡◌, ◌-◌, min, replicate, arith}
use Rattle.lilo_model.specs.Section.{sectors_for}
use Rattle.sector_address.specs.View.{slot_view}
use Rattle.section_loader.proofs.AgreementLemmas.{file_reads}
use Rattle.section_loader.proofs.file.FileReader.new.Goals as goal

pub returns-clause-rest : goal.returns-clause-rest
returns-clause-rest c = λ now machine.
    let count : c.div_ceil.result ≡ sectors_for c.args.length = grind (arith, c.div_ceil.ensures) in
    let one = c.args.first.now.count in
    let none : min (one - one) (sectors_for c.args.length) ≡ 0 = grind arith in
    let all : sectors_for c.args.length - (one - one) ≡ sectors_for c.args.length = grind arith in
    rw (c.new.ensures, count, none, all)
    (file_reads now machine (slot_view c.args.first.now) c.args.length c.args.chain (replicate 512 0))
