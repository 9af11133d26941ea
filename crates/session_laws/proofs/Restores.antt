-- What a restored boot sector leaves.
use Rattle.std.proofs.Common.{◌≡◌, ℕ, true, List, length, take, drop, Some, option_map, Result, Ok, Err, refl, sym, ap, subst, ◌∙◌, arith, length-take}
use Rattle.lilo_model.specs.Bytes.{part_of}
use Rattle.lilo_model.specs.Checks.{◌>>=◌, with_fault}
use Rattle.lilo_model.specs.Disks.{Image, bytes_at}
use Rattle.lilo_model.specs.Meant.{file_of}
use Rattle.lilo_model.specs.MinixFind.{TreeFault, Zone, find, file_block}
use Rattle.lilo_model.specs.MinixFindNames.{path_of, AgreesOn}
use Rattle.lilo_model.specs.MinixNames.{Named, content, block, names_in, IsSound}
use Rattle.lilo_model.specs.MinixParts.{Volume, Parts, parts_of, is_file, block_at}
use Rattle.lilo_model.specs.Planned.{file_inode}
use Rattle.lilo_model.specs.Restored.{restored_sector}
use Rattle.boot_laws.proofs.Checks.{bind-given, told-given}
use Rattle.map_laws.proofs.MeantFiles.{file-both, length-content}
use Rattle.minix_change_laws.proofs.Replaced.{length-with_part}
use Rattle.minix_laws.proofs.Given.{given_law}
use Rattle.minix_laws.proofs.WalkNames.{find_law}
use Rattle.session_model.specs.Site.{boot_place}
use Rattle.session_laws.specs.Given.{BackupLaw, RestoreLaw}
use Rattle.session_laws.proofs.Kept.{foreign_law, restored_law}

pub restored-long : (backup present : List ℕ) → length backup ≡ 512 → length (restored_sector backup present) ≡ 512
unfolding restored_sector
restored-long backup present long = length-with_part backup 440 (part_of present 440 70) (omega (arith, long, length-take 70 (drop 440 present))) ∙ long

pub restore_law : RestoreLaw
restore_law site device old backup apart keeps found long foreign sound =
    let present = bytes_at old (boot_place site) in
    let is = restored_law backup present long ∙ foreign in
    let has = foreign_law site old (restored_sector backup present) apart keeps (restored-long backup present long) is sound in (
      has.keeps,
      record {
        backup = backup;
        found = found;
        long = long;
        foreign = foreign;
        body = has.body;
        line = has.line;
        names = sound.same;
      },
    )

-- ---- a backup

module _ (volume : Volume) (image : Image) (text : List ℕ) (number : ℕ) (bytes : List ℕ) (sound : IsSound volume image)
    (found : find volume.layout (parts_of volume image) text ≡ Ok number) (regular : is_file ((parts_of volume image).node number) ≡ true)
    (size : ((parts_of volume image).node number).size ≡ 512)
    (read : file_block volume.layout (parts_of volume image) ((parts_of volume image).node number) 0 ≡ Ok bytes) where
  abbrev parts : Parts
  parts = parts_of volume image

  named-by : (at : Result (List (List ℕ)) TreeFault) → AgreesOn volume.layout parts (Ok number) at → Named volume.layout parts number
  named-by (Ok path) leads = record { path = path; leads = leads }
  named-by (Err fault) leads = absurd leads

  named : Named volume.layout parts number
  named =
      named-by (path_of (names_in volume image) true text)
      (subst (λ found. AgreesOn volume.layout parts found (path_of (names_in volume image) true text)) found (find_law volume image sound true text))

  -- the bytes are the first of the block that was read
  block-read : (bytes_read : List ℕ) × (block_at volume.layout parts (parts.node number) 0 ≡ Ok bytes_read) × (take 512 bytes_read ≡ bytes)
  unfolding file_block
  block-read =
      let reads : (with_fault Zone (block_at volume.layout parts (parts.node number) 0) >>= λ block. Ok (take 512 block)) ≡ Ok bytes = rw (regular, size) at read in
      let given = bind-given (with_fault Zone (block_at volume.layout parts (parts.node number) 0)) (λ block. Ok (take 512 block)) bytes reads in
      let same : take 512 given.0 ≡ bytes = cc in
      (given.0, told-given Zone (block_at volume.layout parts (parts.node number) 0) given.0 given.1, same)

  content-first : content volume.layout parts number ≡ take 512 (block volume.layout parts number 0)
  unfolding content
  content-first = rw size refl

  content-is : content volume.layout parts number ≡ bytes
  content-is = content-first ∙ ap (take 512) ((given_law volume.layout parts number).bytes 0 block-read.0 block-read.1) ∙ block-read.2

  inode-is : file_inode volume parts text ≡ Some number
  unfolding file_inode
  inode-is = rw (found, regular) refl

  backup-found : file_of (names_in volume image) text ≡ Some bytes
  backup-found = file-both volume image sound text ∙ ap (option_map (content volume.layout parts)) inode-is ∙ ap Some content-is

  backup-long : length bytes ≡ 512
  backup-long = ap length (sym content-is) ∙ length-content volume image sound number named regular ∙ size

pub backup_law : BackupLaw
backup_law volume image text number bytes sound found regular size read =
    (backup-found volume image text number bytes sound found regular size read, backup-long volume image text number bytes sound found regular size read)
