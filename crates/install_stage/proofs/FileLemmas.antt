-- The file that is made for a backup: one block, of which the first 512 bytes are the file.
use Rattle.std.proofs.Common.{◌≡◌, ◌≢◌, ◌≤◌, ◌+◌, ◌/◌, ◌==◌, ℕ, true, false, List, ◌++◌, length, take, replicate, refl, sym, ◌∙◌, ap, arith}
use Rattle.std.specs.Prelude.{slice_index}
use Rattle.std.proofs.lemmas.Bool.Decides.{nat_tests}
use Rattle.std.proofs.Math.Seq.{take-append_seam}
use Rattle.disk_trait.specs.declared.disks.Span.{Span}
use Rattle.lilo_model.specs.MinixNames.{File, blocks}
use Rattle.lilo_model.specs.MinixParts.{blocks_for, is_directory, is_file}
use Rattle.minix_create.specs.Chosen.{Suits, block_of, block_with, content_with, new_inode, thing_with}
use Rattle.minix_create.specs.declared.chosen.Chosen.{Chosen}
use Rattle.minix_fill.specs.Fill.{IsOfFile}
use Rattle.minix_choice_laws.proofs.Given.{given_length}
use Rattle.minix_layout.specs.declared.superblock.Super.{Super}
use Rattle.install_laws.specs.InstallVerdict.{file_mode}
use Rattle.install_room.specs.Room.{HasNoHole}
use Rattle.install_stage.specs.Halves.{backup_blocks}

module _ (chosen : Chosen) (mode : chosen.mode ≡ file_mode) where
  pub regular : is_file (new_inode chosen) ≡ true
  regular = ap (λ (m : ℕ). m / 4096 == 8) mode

  pub no-directory : is_directory (new_inode chosen) ≡ false
  no-directory = ap (λ (m : ℕ). m / 4096 == 4) mode

  pub of-file : IsOfFile (new_inode chosen)
  of-file = record {
    file = no-directory;
    mode = λ (none : chosen.mode ≡ 0). let other : file_mode ≡ 0 = sym mode ∙ none in absurd (omega (arith, other));
    some_link = let none : (chosen.mode / 4096 == 4) ≡ false = no-directory in rw none (omega arith);
  }

  -- an inode of it, whatever zones it has, has one link
  pub one-link : (new_inode chosen).links ≡ 1
  one-link = let none : (chosen.mode / 4096 == 4) ≡ false = no-directory in rw none refl

  module _ (size : chosen.length ≡ 512) where
    pub one-block : (layout : Super) (span : Span) → Suits layout span chosen → length chosen.choice.blocks ≤ 1
    one-block layout span suits =
        let blocks-are : length chosen.choice.blocks ≡ length suits.made = ap length suits.file.blocks_are ∙ given_length suits.made chosen.choice.zones in
        let many : length suits.made ≡ (512 + 1023) / 1024 = suits.many ∙ ap blocks_for size in
        omega (arith, blocks-are, many)

    module _ (whole : HasNoHole chosen) (present : List ℕ) (long : length present ≡ 512) where
      some : slice_index chosen.choice.blocks 0 ≢ 0
      some = whole 0 (let few = size in omega (arith, few))

      block-is : block_with chosen.choice.blocks (block_of (backup_blocks present)) 0 ≡ present ++ replicate 512 0
      block-is = let none : (slice_index chosen.choice.blocks 0 == 0) ≡ false = (let apart = some in grind (arith, nat_tests, apart)) in rw none refl

      content-is : content_with chosen (block_of (backup_blocks present)) ≡ present
      content-is =
          let given : ℕ → List ℕ = block_with chosen.choice.blocks (block_of (backup_blocks present)) in
          ap (λ (n : ℕ). take n (blocks given (blocks_for n))) size
          ∙ (ap (λ (bytes : List ℕ). take 512 bytes) block-is
          ∙ (ap (λ (n : ℕ). take n (present ++ replicate 512 0)) (sym long) ∙ take-append_seam present (replicate 512 0)))

      -- so the file is the boot sector
      pub file-is : thing_with chosen (block_of (backup_blocks present)) ≡ File present
      file-is = rw regular (ap File content-is)
