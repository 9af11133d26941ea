-- What is chosen, from inode and place and from the zones that are found.
use Rattle.std.proofs.Common.{◌≡◌, ◌+◌, ◌/◌, ℕ, Bool, List, Option, None, Some, Result, Ok, Err, refl, sym, ap, ◌∙◌, subst}
use Rattle.disk_trait.specs.Past.{Past, Told, now_of}
use Rattle.lilo_model.specs.Checks.{◌>>=◌}
use Rattle.lilo_model.specs.MinixLayout.{Super}
use Rattle.lilo_model.specs.MinixParts.{Parts, Volume, parts_of}
use Rattle.write_model.specs.Wish as model
use Rattle.write_model.specs.Wish.{Taken, Refusal}
use Rattle.lilo_model.specs.MinixEntries.{Entry, entries_per_block}
use Rattle.write_model.specs.Places.{new_place, first_free, is_promised, or_behind}
use Rattle.write_model.specs.Growth.{missing_on_way, promised_zones, count_fresh}
use Rattle.write_model.specs.FileZones.{data_blocks}
use Rattle.write_model.specs.Choice.{Choice, choose, choose_blocks, choice_with, file_need, zones_check, some_or, in_zone, name_check, free_inode, first_zones, left_zones}
use Rattle.minix_choice.specs.Chosen.{at_place, PromisedZones, zones_with, free_for, spot_for, zones_for}
use Rattle.minix_choice.specs.declared.write_fault.WriteFault.{WriteFault}
use Rattle.minix_choice.specs.View.{Refuses}
use Rattle.minix_choice.proofs.ChooseLemmas.{refused_then}

-- ---- one step after the other

zones_step : (zones : Result (List ℕ) Refusal) (promised : List (Option ℕ)) (make : List (Option ℕ) → List ℕ → Choice)
    → (zones >>= λ z. Ok (make promised z)) ≡ ((zones >>= λ z. Ok (zones_with promised z)) >>= λ found. Ok (make found.promised found.zones))
zones_step (Ok zones) promised make = refl
zones_step (Err refusal) promised make = refl

way_step : (way : Result ℕ Refusal) (zones : ℕ → Result (List ℕ) Refusal) (promised : ℕ → List (Option ℕ)) (make : List (Option ℕ) → List ℕ → Choice)
    → (way >>= λ m. zones m >>= λ z. Ok (make (promised m) z))
    ≡ ((way >>= λ m. zones m >>= λ z. Ok (zones_with (promised m) z)) >>= λ found. Ok (make found.promised found.zones))
way_step (Ok missing) zones promised make = zones_step (zones missing) (promised missing) make
way_step (Err refusal) zones promised make = refl

place_step : (place : Result ℕ Refusal) (inode : ℕ) (way : ℕ → Result ℕ Refusal) (zones : ℕ → ℕ → Result (List ℕ) Refusal) (promised : ℕ → ℕ → List (Option ℕ)) (make : ℕ → List (Option ℕ) → List ℕ → Choice)
    → (place >>= λ p. way p >>= λ m. zones p m >>= λ z. Ok (make p (promised p m) z))
    ≡ ((place >>= λ p. Ok (at_place inode p)) >>= λ spot. (way spot.place >>= λ m. zones spot.place m >>= λ z. Ok (zones_with (promised spot.place m) z)) >>= λ found. Ok (make spot.place found.promised found.zones))
place_step (Ok place) inode way zones promised make = way_step (way place) (zones place) (promised place) (make place)
place_step (Err refusal) inode way zones promised make = refl

inode_step : (inode : Result ℕ Refusal) (place : Result ℕ Refusal) (way : ℕ → Result ℕ Refusal) (zones : ℕ → ℕ → Result (List ℕ) Refusal) (promised : ℕ → ℕ → List (Option ℕ)) (make : ℕ → ℕ → List (Option ℕ) → List ℕ → Choice)
    → (inode >>= λ i. place >>= λ p. way p >>= λ m. zones p m >>= λ z. Ok (make i p (promised p m) z))
    ≡ ((inode >>= λ i. place >>= λ p. Ok (at_place i p)) >>= λ spot. (way spot.place >>= λ m. zones spot.place m >>= λ z. Ok (zones_with (promised spot.place m) z)) >>= λ found. Ok (make spot.inode spot.place found.promised found.zones))
inode_step (Ok inode) (Ok place) way zones promised make = place_step (Ok place) inode way zones promised (make inode)
inode_step (Ok inode) (Err refusal) way zones promised make = refl
inode_step (Err refusal) place way zones promised make = refl

check_step : {E F : Type 0} (check : Result E Refusal) (free : E → F) (inode : Result ℕ Refusal) (place : F → Result ℕ Refusal) (way : ℕ → Result ℕ Refusal) (zones : ℕ → ℕ → Result (List ℕ) Refusal) (promised : ℕ → ℕ → List (Option ℕ)) (make : ℕ → ℕ → List (Option ℕ) → List ℕ → Choice)
    → (check >>= λ e. inode >>= λ i. place (free e) >>= λ p. way p >>= λ m. zones p m >>= λ z. Ok (make i p (promised p m) z))
    ≡ (((check >>= λ e. Ok (free e)) >>= λ f. inode >>= λ i. place f >>= λ p. Ok (at_place i p)) >>= λ spot. (way spot.place >>= λ m. zones spot.place m >>= λ z. Ok (zones_with (promised spot.place m) z)) >>= λ found. Ok (make spot.inode spot.place found.promised found.zones))
check_step (Ok entries) free inode place way zones promised make = inode_step inode (place (free entries)) way zones promised make
check_step (Err refusal) free inode place way zones promised make = refl

choose_blocks_is : (super : Super) (parts : Parts) (taken : Taken) (directory : ℕ) (name : List ℕ) (blocks : List Bool)
    → choose_blocks super parts taken directory name blocks
    ≡ (spot_for super parts taken directory name >>= λ spot. zones_for super parts taken directory (file_need super.kind blocks) spot.place
    >>= λ found. Ok (choice_with super.kind blocks spot.inode spot.place found.promised found.zones))
unfolding choose_blocks spot_for free_for zones_check zones_for new_place
choose_blocks_is super parts taken directory name blocks =
    check_step {E = List Entry} {F = Option ℕ}
    (name_check super parts taken directory name)
    (λ entries. first_free (is_promised taken.promises directory) 0 entries)
    (some_or model.NoInode (free_inode super parts taken.has_inode))
    (λ free. some_or (model.NoSpace 1 0) (or_behind super.kind taken.promises directory (parts.node directory).size free))
    (λ place. in_zone (missing_on_way super parts (parts.node directory) (place / entries_per_block super.kind)))
    (λ place missing. first_zones (file_need super.kind blocks + count_fresh (promised_zones super.kind taken.promises directory (place / entries_per_block super.kind) missing)) (left_zones super parts taken.has_zone))
    (λ place missing. promised_zones super.kind taken.promises directory (place / entries_per_block super.kind) missing)
    (choice_with super.kind blocks)

choose_is : (super : Super) (parts : Parts) (taken : Taken) (wish : model.Wish) (blocks : List Bool) → blocks ≡ data_blocks wish.length wish.holes
    → choose super parts taken wish
    ≡ (spot_for super parts taken wish.directory wish.name >>= λ spot. zones_for super parts taken wish.directory (file_need super.kind blocks) spot.place
    >>= λ found. Ok (choice_with super.kind blocks spot.inode spot.place found.promised found.zones))
unfolding choose
choose_is super parts taken wish blocks is =
    ap (choose_blocks super parts taken wish.directory wish.name) (sym is) ∙ choose_blocks_is super parts taken wish.directory wish.name blocks

choose_starts : (super : Super) (parts : Parts) (taken : Taken) (wish : model.Wish)
    → choose super parts taken wish
    ≡ (spot_for super parts taken wish.directory wish.name >>= λ spot. zones_for super parts taken wish.directory (file_need super.kind (data_blocks wish.length wish.holes)) spot.place
    >>= λ found. Ok (choice_with super.kind (data_blocks wish.length wish.holes) spot.inode spot.place found.promised found.zones))
choose_starts super parts taken wish = choose_is super parts taken wish (data_blocks wish.length wish.holes) refl

-- ---- refusals, and what is chosen

-- no inode, or no place
pub no_spot : (past : Option Past) (volume : Volume) (taken : Taken) (wish : model.Wish) (fault : WriteFault)
    → Told past (λ now. Refuses fault (spot_for volume.layout (parts_of volume now) taken wish.directory wish.name))
    → Told past (λ now. Refuses fault (choose volume.layout (parts_of volume now) taken wish))
no_spot None volume taken wish fault refused = tt
no_spot (Some past) volume taken wish fault refused =
    rw (choose_starts volume.layout (parts_of volume (now_of past)) taken wish)
    (refused_then fault (spot_for volume.layout (parts_of volume (now_of past)) taken wish.directory wish.name) _ refused)

-- too few zones
pub no_zones : (past : Option Past) (volume : Volume) (taken : Taken) (wish : model.Wish) (blocks : List Bool) (need inode place : ℕ) (fault : WriteFault)
    → blocks ≡ data_blocks wish.length wish.holes → need ≡ file_need volume.layout.kind blocks
    → Told past (λ now. spot_for volume.layout (parts_of volume now) taken wish.directory wish.name ≡ Ok (at_place inode place))
    → Told past (λ now. Refuses fault (zones_for volume.layout (parts_of volume now) taken wish.directory need place))
    → Told past (λ now. Refuses fault (choose volume.layout (parts_of volume now) taken wish))
no_zones None volume taken wish blocks need inode place fault is counted spot refused = tt
no_zones (Some past) volume taken wish blocks need inode place fault is counted spot refused =
    let R : ℕ → Type 0 = λ n. Refuses fault (zones_for volume.layout (parts_of volume (now_of past)) taken wish.directory n place) in
    rw (choose_is volume.layout (parts_of volume (now_of past)) taken wish blocks is, spot)
    (refused_then fault (zones_for volume.layout (parts_of volume (now_of past)) taken wish.directory (file_need volume.layout.kind blocks) place) _ (subst R counted refused))

-- all is found
pub picked : (past : Option Past) (volume : Volume) (taken : Taken) (wish : model.Wish) (blocks : List Bool) (need inode place : ℕ) (promised : List (Option ℕ)) (zones : List ℕ) (choice : Choice)
    → blocks ≡ data_blocks wish.length wish.holes → need ≡ file_need volume.layout.kind blocks
    → Told past (λ now. spot_for volume.layout (parts_of volume now) taken wish.directory wish.name ≡ Ok (at_place inode place))
    → Told past (λ now. zones_for volume.layout (parts_of volume now) taken wish.directory need place ≡ Ok (zones_with promised zones))
    → choice ≡ choice_with volume.layout.kind blocks inode place promised zones
    → Told past (λ now. choose volume.layout (parts_of volume now) taken wish ≡ Ok choice)
picked None volume taken wish blocks need inode place promised zones choice is counted spot found made = tt
picked (Some past) volume taken wish blocks need inode place promised zones choice is counted spot found made =
    let Z : ℕ → Result PromisedZones Refusal = λ n. zones_for volume.layout (parts_of volume (now_of past)) taken wish.directory n place in
    let there : zones_for volume.layout (parts_of volume (now_of past)) taken wish.directory (file_need volume.layout.kind blocks) place ≡ Ok (zones_with promised zones) = sym (ap Z counted) ∙ found in
    let K : Choice → Result Choice Refusal = λ c. Ok c in
    choose_is volume.layout (parts_of volume (now_of past)) taken wish blocks is ∙ rw (spot, there) refl ∙ ap K (sym made)
