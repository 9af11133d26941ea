use Rattle.std.proofs.Common.{arith}
use Rattle.minix_zones.specs.Volume.{volume_view, past_of}
use Rattle.minix_steps.specs.Bitmap.{IsNumberOf}
use Rattle.minix_steps.specs.Free.{is_free_in}
use Rattle.minix_steps.proofs.FindLemmas.{sector_taken, all_taken}
use Rattle.minix_steps.proofs.find.take_in_sector.Goals as goal

pub returns-clause-taken : goal.returns-clause-taken
returns-clause-taken g c =
    sector_taken (past_of c.args.volume.now) (volume_view c.args.volume.now) c.args.bitmap.now c.read_bits.new.into c.args.avoid.now.numbers c.args.found.now.items c.take_free.new.found.items c.args.at c.base_of-base.result c.end_of-end.result c.args.need
    (omega (arith, c.requires.from)) c.base_of-base.ensures c.end_of-end.ensures.value (omega (arith, c.end_of-end.ensures.behind)) c.in_ok-read_bits.ensures.bytes c.in_ok-take_free.ensures.taken

pub returns-clause-inside : goal.returns-clause-inside
returns-clause-inside g c all =
    all_taken (IsNumberOf c.args.bitmap.now) (is_free_in c.read_bits.new.into c.base_of-base.result c.args.avoid.now.numbers) c.args.found.now.items c.take_free.new.found.items c.args.at _ c.args.need all
    (λ m low high. record { above = omega (arith, c.requires.from); below = omega (arith, c.end_of-end.ensures.behind, c.end_of-end.ensures.within) })
    c.in_ok-take_free.ensures.taken
