-- The small volume is sound, and steps may be taken on it.
use Rattle.std.proofs.Common.{◌∷◌, [], IfOk, Result, Err, ◌≡◌, ◌≢◌, ℕ, zero, suc, ◌+◌, ◌-◌, ◌%◌, ◌<◌, ◌≤◌, ◌==◌, Bool, true, false, if◌then◌else◌, List, length, Option, Some, Ok, refl, sym, ◌∙◌, ap, subst, arith, eq-eqb}
use Rattle.std.proofs.lemmas.Bool.{eqb-true, ne_eqb}
use Rattle.std.proofs.Math.Path.{subst₂}
use Rattle.disk_trait.specs.declared.disks.Disks.{Ghosts}
use Rattle.disk_trait.specs.declared.event.Event.{Event}
use Rattle.disk_trait.specs.MemDisks.{StartDisk, MemState, zero_sector, image_of, past_in, past_of as past_of_disks}
use Rattle.disk_trait.proofs.LawLemmas.{quiet_law}
use Rattle.disk_trait.specs.Moments.{now, IsQuiet}
use Rattle.disk_trait.specs.Past.{Past, now_of, now_after, with_sector, IsQuietAfter}
use Rattle.lilo_model.specs.Bytes.{number16, number32, with_part, bytes16, filled_bytes}
use Rattle.lilo_model.specs.Disks.{Image}
use Rattle.lilo_model.specs.MinixEntries.{entry_of, here_name, above_name}
use Rattle.lilo_model.specs.MinixLayout.{Kind, V1Short, V1Long, V2Short, V2Long, kind_of, super_of, super_checks, super_in, super_at, with_counts, super_bytes, v1_inode, v2_inode, inode_of, v1_inode_bytes, v2_inode_bytes, inode_bytes, inode_place, entry_size, name_size}
use Rattle.lilo_model.specs.MinixNames.{zone_number, block, entry, IsSound}
use Rattle.lilo_model.specs.MinixParts as model
use Rattle.lilo_model.specs.MinixParts.{bit, parts_of, number_in, follow, pointer_by, volume_at}
use Rattle.minix_laws.specs.RootVolume.{root_inode}
use Rattle.minix_laws.proofs.BareRoot.{BareRoot, bare-sound}
use Rattle.minix_laws.proofs.RootBytes.{read, bare_read, read_bare, length-choice}
use Rattle.minix_layout.specs.View.{super_view}
use Rattle.minix_zones.specs.Volume.{volume_view, past_of}
use Rattle.minix_zones.specs.declared.volume.Volume.{Volume}
use Rattle.minix_steps.specs.Steps.{IsReady}
use Rattle.minix_steps.proofs.ReadyLemmas.{quiet_ready, unmarked_unused, unmarked_unnamed}
use Rattle.minix_stops.specs.Laws.{HasSectorsOf}
use Rattle.minix_stops.specs.Small.{small_layout, small_volume, small_sector, small_image, with_root_entry, zeros, IsOpen}
use Rattle.minix_stops.proofs.OwnLemmas.{own_sectors_law}

-- ---- the bytes are those of a root directory alone

root-read : (kind : Kind) → read (small_layout kind) (parts_of (small_volume kind) (small_image kind)) 5 ≡ bare_read 5
unfolding super_bytes with_counts inode_bytes v1_inode_bytes v2_inode_bytes parts_of inode_of v1_inode v2_inode inode_place number16 number32 bit number_in follow pointer_by entry_of zone_number block entry
root-read V1Short = refl
root-read V1Long = refl
root-read V2Short = refl
root-read V2Long = refl

bare : (kind : Kind) → BareRoot (small_layout kind) (parts_of (small_volume kind) (small_image kind)) 5 2
bare kind = read_bare (small_layout kind) (parts_of (small_volume kind) (small_image kind)) 5 (root-read kind) (omega arith) (omega arith) (omega arith)

-- its superblock is read
small-super : (kind : Kind) → super_at (small_sector kind 2) 48 ≡ Ok (small_layout kind)
unfolding super_at super_in kind_of super_of super_checks super_bytes with_counts number16 number32
small-super V1Short = refl
small-super V1Long = refl
small-super V2Short = refl
small-super V2Long = refl

-- each sector has 512 bytes
small-whole : (kind : Kind) (sector : ℕ) → length (small_sector kind sector) ≡ 512
unfolding super_bytes with_counts inode_bytes v1_inode_bytes v2_inode_bytes
small-whole V1Short sector = length-choice (sector == 10) _ _ refl (length-choice (sector == 8) _ _ refl (length-choice (sector == 6) _ _ refl (length-choice (sector == 4) _ _ refl (length-choice (sector == 2) _ _ refl refl))))
small-whole V1Long sector = length-choice (sector == 10) _ _ refl (length-choice (sector == 8) _ _ refl (length-choice (sector == 6) _ _ refl (length-choice (sector == 4) _ _ refl (length-choice (sector == 2) _ _ refl refl))))
small-whole V2Short sector = length-choice (sector == 10) _ _ refl (length-choice (sector == 8) _ _ refl (length-choice (sector == 6) _ _ refl (length-choice (sector == 4) _ _ refl (length-choice (sector == 2) _ _ refl refl))))
small-whole V2Long sector = length-choice (sector == 10) _ _ refl (length-choice (sector == 8) _ _ refl (length-choice (sector == 6) _ _ refl (length-choice (sector == 4) _ _ refl (length-choice (sector == 2) _ _ refl refl))))

image-sound : (kind : Kind) → IsSound (small_volume kind) (small_image kind)
unfolding IsSound
image-sound kind = record {
  super = small-super kind;
  whole = λ sector below. small-whole kind (8 + sector - 8);
  parts = bare-sound (small_layout kind) (parts_of (small_volume kind) (small_image kind)) 5 2 (bare kind);
}

-- so is each image with its sectors
pub small_sound : (kind : Kind) (image : Image) → HasSectorsOf (small_volume kind) (small_image kind) image → IsSound (small_volume kind) image
small_sound kind image same = (own_sectors_law (small_volume kind) (small_image kind) image same).0 (image-sound kind)

-- ---- zones and inodes that aren't marked

module _ (kind : Kind) (image : Image) (same : HasSectorsOf (small_volume kind) (small_image kind) image) where
  bit-of : (sector at : ℕ) → sector < 48 → bit (image 0 (8 + sector)) at ≡ bit (small_sector kind (8 + sector - 8)) at
  bit-of sector at below = ap (λ bytes. bit bytes at) (same sector below)

  zone-free : (n : ℕ) → n < 8 → (parts_of (small_volume kind) image).has_zone (6 + n) ≡ false
  unfolding parts_of bit
  zone-free zero below = bit-of 6 2 (omega arith)
  zone-free (suc zero) below = bit-of 6 3 (omega arith)
  zone-free (suc (suc zero)) below = bit-of 6 4 (omega arith)
  zone-free (suc (suc (suc zero))) below = bit-of 6 5 (omega arith)
  zone-free (suc (suc (suc (suc zero)))) below = bit-of 6 6 (omega arith)
  zone-free (suc (suc (suc (suc (suc zero))))) below = bit-of 6 7 (omega arith)
  zone-free (suc (suc (suc (suc (suc (suc zero)))))) below = bit-of 6 8 (omega arith)
  zone-free (suc (suc (suc (suc (suc (suc (suc zero))))))) below = bit-of 6 9 (omega arith)
  zone-free (suc (suc (suc (suc (suc (suc (suc (suc n)))))))) below = absurd (omega (arith, below))

  inode-free : (n : ℕ) → n < 4 → (parts_of (small_volume kind) image).has_inode (2 + n) ≡ false
  unfolding parts_of bit
  inode-free zero below = bit-of 4 2 (omega arith)
  inode-free (suc zero) below = bit-of 4 3 (omega arith)
  inode-free (suc (suc zero)) below = bit-of 4 4 (omega arith)
  inode-free (suc (suc (suc zero))) below = bit-of 4 5 (omega arith)
  inode-free (suc (suc (suc (suc n)))) below = absurd (omega (arith, below))

  zone-at : (zone : ℕ) → 6 ≤ zone → zone < 14 → (parts_of (small_volume kind) image).has_zone zone ≡ false
  zone-at zone from below =
      let P : ℕ → Type 0 = λ n. (parts_of (small_volume kind) image).has_zone n ≡ false in
      let is : 6 + (zone - 6) ≡ zone = omega (arith, from) in
      subst P is (zone-free (zone - 6) (omega (arith, from, below)))

  inode-at : (number : ℕ) → 2 ≤ number → number < 6 → (parts_of (small_volume kind) image).has_inode number ≡ false
  inode-at number from below =
      let P : ℕ → Type 0 = λ n. (parts_of (small_volume kind) image).has_inode n ≡ false in
      let is : 2 + (number - 2) ≡ number = omega (arith, from) in
      subst P is (inode-free (number - 2) (omega (arith, from, below)))

-- ---- the volume on disks that hold it

small-at : (kind : Kind) (image : Image) → HasSectorsOf (small_volume kind) (small_image kind) image
    → volume_at image (small_volume kind).span ≡ Ok (small_volume kind)
unfolding volume_at
small-at kind image same =
    let is : super_at (image 0 (8 + 2)) 48 ≡ Ok (small_layout kind) = ap (λ bytes. super_at bytes 48) (same 2 (omega arith)) ∙ small-super kind in
    rw is refl

module _ {D : Type 0} {disks : Ghosts D} (volume : Volume D disks) (kind : Kind) (past : Past) (same-past : past_of volume ≡ Some past)
    (same : HasSectorsOf (small_volume kind) (small_image kind) (now (Some past))) (quiet : IsQuiet (Some past)) where
  now-same : HasSectorsOf (small_volume kind) (small_image kind) (now (past_of volume))
  now-same =
      let P : Option Past → Type 0 = λ p. HasSectorsOf (small_volume kind) (small_image kind) (now p) in
      subst P (sym same-past) same

  pub quiet_now : IsQuiet (past_of volume)
  quiet_now = subst IsQuiet (sym same-past) quiet

  module _ (is : volume_view volume ≡ small_volume kind) where
    now-ready : IsReady volume
    now-ready =
        let P : model.Volume → Type 0 = λ v. IsSound v (now (past_of volume)) in
        quiet_ready volume quiet_now (λ told. subst P (sym is) (small_sound kind (now (past_of volume)) now-same))

    layout-is : super_view volume.layout ≡ small_layout kind
    layout-is = ap (λ v. v.layout) is

    now-open : IsOpen volume
    now-open = record {
      ready = now-ready;
      first = ap (λ l. l.first) layout-is;
      zones = ap (λ l. l.zones) layout-is;
      inodes = ap (λ l. l.inodes) layout-is;
      unused = λ zone from below.
          let first : volume.layout.first ≡ 5 = ap (λ l. l.first) layout-is in
          let zones : volume.layout.zones ≡ 24 = ap (λ l. l.zones) layout-is in
          let P : model.Volume → Type 0 = λ v. (parts_of v (now (past_of volume))).has_zone zone ≡ false in
          unmarked_unused volume now-ready zone (omega (arith, first, from)) (omega (arith, zones, below))
          (λ told. subst P (sym is) (zone-at kind (now (past_of volume)) now-same zone from below));
      unnamed = λ number from below.
          let inodes : volume.layout.inodes ≡ 16 = ap (λ l. l.inodes) layout-is in
          let P : model.Volume → Type 0 = λ v. (parts_of v (now (past_of volume))).has_inode number ≡ false in
          unmarked_unnamed volume now-ready number (omega (arith, from)) (omega (arith, inodes, below))
          (λ told. subst P (sym is) (inode-at kind (now (past_of volume)) now-same number from below));
    }

  pub opened : volume_at (now_of past) (small_volume kind).span ≡ Ok (volume_view volume) → IsOpen volume
  unfolding now
  opened found =
      let both : Ok (volume_view volume) ≡ Ok (small_volume kind) = sym found ∙ small-at kind (now_of past) same in
      now-open cc

-- ---- the sectors as they are set

cons-eqb : (m n : ℕ) (b : Bool) → (n == m) ≡ b → (8 + m == 8 + n) ≡ b
cons-eqb m n true is = let e : n ≡ m = eqb-true n m is in rw e (eq-eqb (8 + m) (8 + m) refl)
cons-eqb m n false is = ne_eqb (8 + m) (8 + n) (λ e. let same : n ≡ m = omega (arith, e) in let t = eq-eqb n m same in cc)

set-one : (at sector : ℕ) (bytes rest other : List ℕ) → rest ≡ other
    → (if 8 + at == 8 + sector then bytes else rest) ≡ (if sector == at then bytes else other)
set-one at sector bytes rest other is =
    ap (λ test. if test then bytes else rest) (cons-eqb at sector _ refl) ∙ ap (λ bytes'. if sector == at then bytes else bytes') is

-- five sectors of a disk of zeros
abbrev set_five : Image → List ℕ → List ℕ → List ℕ → List ℕ → List ℕ → Image
set_five start two four six eight ten =
    with_sector (with_sector (with_sector (with_sector (with_sector start 0 10 two) 0 12 four) 0 14 six) 0 16 eight) 0 18 ten

pub five_set : (start : Image) → ((sector : ℕ) → start 0 sector ≡ zeros) → (two four six eight ten : List ℕ) (sector : ℕ)
    → set_five start two four six eight ten 0 (8 + sector)
    ≡ (if sector == 10 then ten else if sector == 8 then eight else if sector == 6 then six else if sector == 4 then four else if sector == 2 then two else zeros)
five_set start blank two four six eight ten sector =
    set-one 10 sector ten _ _ (set-one 8 sector eight _ _ (set-one 6 sector six _ _ (set-one 4 sector four _ _ (set-one 2 sector two _ _ (blank (8 + sector))))))

-- the root's entries, as they are put
pub entries_made : (kind : Kind) (size : ℕ) (one two three four : List ℕ) → size ≡ entry_size kind
    → one ≡ with_part zeros 0 (bytes16 1) → two ≡ with_part one 2 (filled_bytes (size - 2) here_name)
    → three ≡ with_part two size (bytes16 1) → four ≡ with_part three (size + 2) (filled_bytes (size - 2) above_name)
    → four ≡ with_root_entry kind (entry_size kind) above_name (with_root_entry kind 0 here_name zeros)
entries_made kind size one two three four is first second third fourth =
    let P : ℕ → ℕ → Type 0 = λ n len. with_part (with_part (with_part (with_part zeros 0 (bytes16 1)) 2 (filled_bytes len here_name)) n (bytes16 1)) (n + 2) (filled_bytes len above_name)
    ≡ with_root_entry kind (entry_size kind) above_name (with_root_entry kind 0 here_name zeros) in
    let len : size - 2 ≡ name_size kind = omega (arith, is) in
    fourth
    ∙ ap (λ bytes. with_part bytes (size + 2) (filled_bytes (size - 2) above_name))
    (third ∙ ap (λ bytes. with_part bytes size (bytes16 1)) (second ∙ ap (λ bytes. with_part bytes 2 (filled_bytes (size - 2) here_name)) first))
    ∙ subst₂ P (sym is) (sym len) refl

-- what was made has zeros
pub blank_made : {A E : Type 0} (start : A → List StartDisk) (result : Result A E)
    → IfOk result (λ made. (disk sector : ℕ) → image_of (start made) disk sector ≡ zero_sector)
    → IfOk result (λ made. (sector : ℕ) → image_of (start made) 0 sector ≡ zeros)
unfolding zero_sector
blank_made start (Ok made) is = λ sector. is 0 sector
blank_made start (Err fault) is = tt

module _ (kind : Kind) (start one two three four : Image) (disks : MemState) (blank : (sector : ℕ) → start 0 sector ≡ zeros) (empty : disks.events ≡ [])
    (first : one ≡ with_sector start 0 10 (super_bytes (small_layout kind) zeros))
    (second : two ≡ with_sector one 0 12 (with_part zeros 0 (3 ∷ [])))
    (third : three ≡ with_sector two 0 14 (with_part zeros 0 (3 ∷ [])))
    (fourth : four ≡ with_sector three 0 16 (with_part zeros 0 (inode_bytes kind (root_inode kind))))
    (fifth : image_of disks.start ≡ with_sector four 0 18 (with_root_entry kind (entry_size kind) above_name (with_root_entry kind 0 here_name zeros))) where
  abbrev entries : List ℕ
  entries = with_root_entry kind (entry_size kind) above_name (with_root_entry kind 0 here_name zeros)

  abbrev node : List ℕ
  node = with_part zeros 0 (inode_bytes kind (root_inode kind))

  abbrev bits : List ℕ
  bits = with_part zeros 0 (3 ∷ [])

  start-is : image_of disks.start ≡ set_five start (super_bytes (small_layout kind) zeros) bits bits node entries
  start-is =
      fifth ∙ ap (λ image. with_sector image 0 18 entries)
      (fourth ∙ ap (λ image. with_sector image 0 16 node)
      (third ∙ ap (λ image. with_sector image 0 14 bits)
      (second ∙ ap (λ image. with_sector image 0 12 bits) first)))

  now-is : now (past_of_disks disks) ≡ image_of disks.start
  unfolding now
  now-is = λ i d s. now_after (image_of disks.start) (empty i) d s

  pub made_sectors : HasSectorsOf (small_volume kind) (small_image kind) (now (past_of_disks disks))
  made_sectors sector below =
      let back : sector ≡ 8 + sector - 8 = omega arith in
      ap (λ image. image 0 (8 + sector)) (now-is ∙ start-is)
      ∙ five_set start blank (super_bytes (small_layout kind) zeros) bits bits node entries sector
      ∙ ap (small_sector kind) back

  pub made_quiet : IsQuiet (past_of_disks disks)
  made_quiet =
      let P : List Event → Type 0 = IsQuietAfter in
      quiet_law (past_in disks) (subst P (sym empty) tt)
