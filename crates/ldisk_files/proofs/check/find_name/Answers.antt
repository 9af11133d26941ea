-- What is at the name decides.
use Rattle.std.proofs.Common.{◌≡◌, ℕ, true, false, List, ◌∷◌, Ok, rules}
use Rattle.disk_trait.proofs.ToldLemmas.{told_map}
use Rattle.lilo_model.specs.Disks.{Image}
use Rattle.lilo_model.specs.MinixEntries.{is_dots}
use Rattle.lilo_model.specs.MinixNames.{IsSound}
use Rattle.lilo_model.specs.MinixParts as model
use Rattle.lilo_model.specs.MinixParts.{parts_of}
use Rattle.minix_names.specs.Places.{LeadsToDirectory, GivesThere}
use Rattle.minix_zones.specs.Volume.{volume_view, past_of}
use Rattle.minix_zones.proofs.SameLemmas.{told_back}
use Rattle.ldisk_files.specs.Answer.{is_found_removable}
use Rattle.ldisk_files.proofs.NameLemmas.{dots-refused, told-removable, told-other, node-back}
use Rattle.ldisk_files.proofs.check.find_name.Goals as goal

pub returns-then-is_dots-clause-found : goal.returns-then-is_dots-clause-found
returns-then-is_dots-clause-found g c =
    let volume = volume_view c.args.volume.now in
    let dots : is_dots c.in-Ok.place.name.now ≡ true = search rules in
    told_map (past_of c.args.volume.now) _ _ (λ now at sound. dots-refused volume now c.args.path.now c.in-Ok.place (at sound) dots) c.in-Ok.ensures.place

pub returns-in-Ok-look_up-clause-found : goal.returns-in-Ok-look_up-clause-found
returns-in-Ok-look_up-clause-found g c =
    let old = c.args.volume.now in
    let mid = c.place_of_name.new.volume in
    let place = c.in-Ok.place in
    let found = c.in-Ok-look_up.found in
    let plain : is_dots place.name.now ≡ false = search rules in
    let removable : is_found_removable found ≡ true = search rules in
    told-removable (past_of old) (volume_view old) c.args.path.now place plain found c.in-Ok.ensures.place
    (told_back old mid (λ (volume : model.Volume) (now : Image). IsSound volume now → (above : List (List ℕ)) → LeadsToDirectory volume.layout (parts_of volume now) above place.directory.inode
    → GivesThere volume.layout (parts_of volume now) (place.name.now ∷ above) (Ok found)) c.in-Ok.ensures.same c.in-Ok-look_up.ensures.there)
    (node-back old mid found c.in-Ok.ensures.same c.in-Ok-look_up.ensures.node) removable

pub returns-in-Ok-2-clause-found : goal.returns-in-Ok-2-clause-found
returns-in-Ok-2-clause-found g c =
    let old = c.args.volume.now in
    let mid = c.place_of_name.new.volume in
    let place = c.in-Ok.place in
    let found = c.in-Ok-look_up.found in
    let plain : is_dots place.name.now ≡ false = search rules in
    let other : is_found_removable found ≡ false = search rules in
    told-other (past_of old) (volume_view old) c.args.path.now place plain found c.in-Ok.ensures.place
    (told_back old mid (λ (volume : model.Volume) (now : Image). IsSound volume now → (above : List (List ℕ)) → LeadsToDirectory volume.layout (parts_of volume now) above place.directory.inode
    → GivesThere volume.layout (parts_of volume now) (place.name.now ∷ above) (Ok found)) c.in-Ok.ensures.same c.in-Ok-look_up.ensures.there)
    (node-back old mid found c.in-Ok.ensures.same c.in-Ok-look_up.ensures.node) other
