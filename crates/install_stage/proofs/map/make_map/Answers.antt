use Rattle.std.proofs.Common.{refl}
use Rattle.install_stage.specs.Blocks.{block_of_sectors, sectors_of_map}
use Rattle.install_stage.proofs.RoomLemmas.{blocks_few, of_file}
use Rattle.install_stage.proofs.MadeLemmas.{makes_ok, makes_err}
use Rattle.install_stage.proofs.map.make_map.Goals as goal

pub write_map-requires-clause-file : goal.write_map-requires-clause-file
write_map-requires-clause-file g c = of_file c.args.chosen c.requires.mode

pub write_map-requires-clause-fits : goal.write_map-requires-clause-fits
write_map-requires-clause-fits g c = blocks_few c.args.volume.layout c.args.volume.span c.args.chosen c.requires.suits

pub returns-clause-made : goal.returns-clause-made
returns-clause-made g c machine path room =
    makes_ok c.args.volume machine path c.args.chosen c.args.plan.now c.args.places.now c.requires.suits c.requires.mode c.requires.quiet room c.write_map.result
    (c.write_map.ensures.made (block_of_sectors (sectors_of_map machine c.args.plan.now c.args.places.now)) (λ told. record { machine = machine; lies = (room told).lies; are = λ index. refl }))

pub returns-clause-halted : goal.returns-clause-halted
returns-clause-halted g c machine path room =
    makes_err c.args.volume machine path c.args.chosen c.args.plan.now c.args.places.now c.requires.suits c.requires.mode c.requires.quiet room c.write_map.result
    (c.write_map.ensures.halted (block_of_sectors (sectors_of_map machine c.args.plan.now c.args.places.now)) (λ told. record { machine = machine; lies = (room told).lies; are = λ index. refl }))
