-- A name, and the same with `~`.
use Rattle.std.proofs.Common.{◌≡◌, ◌∷◌, ℕ, List}
use Rattle.lilo_model.specs.MinixNames.{IsSound}
use Rattle.lilo_model.specs.MinixParts.{parts_of}
use Rattle.minix_layout.specs.View.{inode_view}
use Rattle.minix_zones.specs.Volume.{volume_view, past_of}
use Rattle.minix_zones.proofs.SameLemmas.{told_back, told_forth}
use Rattle.minix_names.specs.Places.{LeadsToDirectory}
use Rattle.install_apart.specs.Names.{IsOwnName}
use Rattle.install_apart.proofs.OwnLemmas.{pair-found}
use Rattle.install_apart.proofs.name.pair_at.Goals as goal

pub own_name-requires-2-clause-node : goal.own_name-requires-2-clause-node
own_name-requires-2-clause-node g c =
    told_forth c.args.volume.now c.own_name.new.volume
    (λ volume now. inode_view c.args.directory.now.node ≡ (parts_of volume now).node c.args.directory.now.inode)
    c.in_ok-plain.ensures.same c.requires.node

pub returns-clause-pair : goal.returns-clause-pair
returns-clause-pair g c =
    let second = told_back c.args.volume.now c.own_name.new.volume
    (λ volume now. IsSound volume now → (above : List (List ℕ)) → LeadsToDirectory volume.layout (parts_of volume now) above c.args.directory.now.inode
    → IsOwnName volume.layout (parts_of volume now) (c.in-Ok-with_tilde.tilde ∷ above) c.in_ok-tilde.tilde)
    c.in_ok-plain.ensures.same c.in_ok-tilde.ensures.own in
    pair-found (past_of c.args.volume.now) (volume_view c.args.volume.now) c.args.directory.now.inode c.args.name.now c.in-Ok.plain c.in-Ok-with_tilde.tilde
    c.in_ok-plain.plain c.in_ok-tilde.tilde c.in-Ok.ensures c.in-Ok-with_tilde.ensures c.in_ok-plain.ensures.own second
