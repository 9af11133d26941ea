-- The root is nested below none; any other directory below one more than the one above it.
use Rattle.std.proofs.Common.{◌-◌, ℕ, List, arith}
use Rattle.disk_trait.proofs.ToldLemmas.{told_all, told_map, told_both}
use Rattle.disk_trait.specs.Past.{Image}
use Rattle.lilo_model.specs.MinixNames.{IsSound}
use Rattle.lilo_model.specs.MinixParts as model
use Rattle.lilo_model.specs.MinixParts.{parts_of}
use Rattle.minix_zones.specs.Volume.{volume_view, past_of}
use Rattle.minix_zones.proofs.SameLemmas.{told_back}
use Rattle.ldisk_files.specs.Made.{GivesShallow}
use Rattle.ldisk_files.proofs.PlaceLemmas.{shallow-root, shallow-no, shallow-step, shallow-none}
use Rattle.ldisk_files.proofs.place.+is_shallow.Goals as goal

pub returns-then-directory-eq1-clause-shallow : goal.returns-then-directory-eq1-clause-shallow
returns-then-directory-eq1-clause-shallow g t c =
    told_all (past_of c.args.volume.now) _ (λ now sound path. shallow-root (volume_view c.args.volume.now) now sound path c.args.directory.now.inode c.args.most c.if-directory-eq1.true)

pub returns-then-most-eq0-clause-shallow : goal.returns-then-most-eq0-clause-shallow
returns-then-most-eq0-clause-shallow g t c =
    told_all (past_of c.args.volume.now) _ (λ now sound path. shallow-no (volume_view c.args.volume.now) now sound path c.args.directory.now.inode c.args.most c.if-directory-eq1.false c.if-most-eq0.true)

pub returns-in-Ok-Some-clause-shallow : goal.returns-in-Ok-Some-clause-shallow
returns-in-Ok-Some-clause-shallow g t c =
    let old = c.args.volume.now in
    let mid = c.look_up.new.volume in
    told_both (past_of old) _ _ _
    (λ now there further sound path.
    shallow-step (volume_view old) now sound c.args.directory.now.inode c.args.most c.if-directory-eq1.false c.in-Ok-Some.above c.is_shallow.result (omega (arith, c.if-most-eq0.false)) (there sound) (further sound) path)
    (rw c.in-Ok-Some.field-0-is at c.in-Ok-Some.ensures.there)
    (told_back old mid (λ (volume : model.Volume) (now : Image). IsSound volume now → (path : List (List ℕ)) → GivesShallow volume now path c.in-Ok-Some.above.inode (c.args.most - 1) c.is_shallow.result)
    c.in-Ok-Some.ensures.same c.is_shallow.ensures.shallow)

pub returns-in-Ok-None-clause-shallow : goal.returns-in-Ok-None-clause-shallow
returns-in-Ok-None-clause-shallow g t c =
    let old = c.args.volume.now in
    told_map (past_of old) _ _
    (λ now there sound path. shallow-none (volume_view old) now sound c.args.directory.now.inode c.args.most c.if-directory-eq1.false (there sound) path)
    (rw c.in-Ok-None.field-0-is at c.in-Ok-None.ensures.there)
