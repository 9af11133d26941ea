-- What is at the name decides.
use Rattle.std.proofs.Common.{◌≡◌, ℕ, List, ◌∷◌, Ok, true, false, Result, rules, subst}
use Rattle.std.specs.Prelude.{is_none}
use Rattle.disk_trait.specs.Past.{Told}
use Rattle.lilo_model.specs.Disks.{Image}
use Rattle.lilo_model.specs.MinixNames.{IsSound}
use Rattle.lilo_model.specs.MinixParts as model
use Rattle.lilo_model.specs.MinixParts.{parts_of}
use Rattle.minix_names.specs.Places.{LeadsToDirectory, GivesThere}
use Rattle.minix_names.specs.declared.place.NamePlace.{NamePlace}
use Rattle.minix_zones.specs.Volume.{volume_view, past_of}
use Rattle.minix_zones.proofs.SameLemmas.{told_back}
use Rattle.ldisk_files.specs.Made.{GivesNew}
use Rattle.ldisk_files.specs.declared.fault.FileFault.{FileFault}
use Rattle.ldisk_files.proofs.PlaceLemmas.{told-new, answer-none, answer-some}
use Rattle.ldisk_files.proofs.place.find_new.Goals as goal

pub returns-in-Ok-look_up-clause-found : goal.returns-in-Ok-look_up-clause-found
returns-in-Ok-look_up-clause-found g c =
    let old = c.args.volume.now in
    let mid = c.place_of_name.new.volume in
    let place = c.in-Ok.place in
    let found = c.in-Ok-look_up.found in
    let none : is_none found ≡ true = search rules in
    subst (λ (answer : Result NamePlace FileFault). Told (past_of old) (λ now. IsSound (volume_view old) now → GivesNew (volume_view old) now c.args.path.now answer)) (answer-none place found none)
    (told-new (past_of old) (volume_view old) c.args.path.now place (Ok found) c.in-Ok.ensures.place
    (told_back old mid (λ (volume : model.Volume) (now : Image). IsSound volume now → (above : List (List ℕ)) → LeadsToDirectory volume.layout (parts_of volume now) above place.directory.inode
    → GivesThere volume.layout (parts_of volume now) (place.name.now ∷ above) (Ok found)) c.in-Ok.ensures.same c.in-Ok-look_up.ensures.there))

pub returns-in-Ok-2-clause-found : goal.returns-in-Ok-2-clause-found
returns-in-Ok-2-clause-found g c =
    let old = c.args.volume.now in
    let mid = c.place_of_name.new.volume in
    let place = c.in-Ok.place in
    let found = c.in-Ok-look_up.found in
    let some : is_none found ≡ false = search rules in
    subst (λ (answer : Result NamePlace FileFault). Told (past_of old) (λ now. IsSound (volume_view old) now → GivesNew (volume_view old) now c.args.path.now answer)) (answer-some place found some)
    (told-new (past_of old) (volume_view old) c.args.path.now place (Ok found) c.in-Ok.ensures.place
    (told_back old mid (λ (volume : model.Volume) (now : Image). IsSound volume now → (above : List (List ℕ)) → LeadsToDirectory volume.layout (parts_of volume now) above place.directory.inode
    → GivesThere volume.layout (parts_of volume now) (place.name.now ∷ above) (Ok found)) c.in-Ok.ensures.same c.in-Ok-look_up.ensures.there))
