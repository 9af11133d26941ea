-- The names at the place of a path.
use Rattle.std.proofs.Common.{ℕ, List}
use Rattle.lilo_model.specs.MinixNames.{IsSound}
use Rattle.lilo_model.specs.MinixParts.{parts_of}
use Rattle.minix_zones.specs.Volume.{volume_view, past_of}
use Rattle.minix_zones.proofs.SameLemmas.{told_back}
use Rattle.minix_names.specs.Places.{IsPlace}
use Rattle.install_apart.specs.Names.{GivesNamePair}
use Rattle.install_apart.proofs.OwnLemmas.{pair-of-path}
use Rattle.install_apart.proofs.name.find_pair.Goals as goal

pub returns-clause-pair : goal.returns-clause-pair
returns-clause-pair g c =
    let names = told_back c.args.volume.now c.place_of_name.new.volume
    (λ volume now. IsSound volume now → (path : List (List ℕ)) → IsPlace volume.layout (parts_of volume now) path c.in-Ok.place.directory.inode c.in-Ok.place.name.now
    → GivesNamePair volume.layout (parts_of volume now) path c.pair_at.result)
    c.in-Ok.ensures.same c.pair_at.ensures.pair in
    pair-of-path (past_of c.args.volume.now) (volume_view c.args.volume.now) c.args.path.now c.in-Ok.place c.pair_at.result c.in-Ok.ensures.place names
