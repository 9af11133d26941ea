-- Parts with a root directory that has room for an entry, and with an empty file and a new directory that have no
-- names, are sound.
use Rattle.std.proofs.Common.{◌≡◌, ◌≢◌, ℕ, ◌<◌, ◌≤◌, true, false, List, [], ◌∷◌, length, replicate, refl, sym, ◌∙◌, ap, arith}
use Rattle.std.specs.Prelude.{slice_index}
use Rattle.lilo_model.specs.MinixLayout.{Super, is_size}
use Rattle.lilo_model.specs.MinixParts.{Parts, Pointer, is_directory, follow}
use Rattle.lilo_model.specs.MinixEntries.{entry_with, places, here_name, above_name, is_dots}
use Rattle.lilo_model.specs.MinixNames.{entry, reached, Named, PointsTo, Sound}
use Rattle.minix_laws.proofs.BareRoot.{BareRoot, no-more, follow-hole, only_pointer, same_pointer, bare-lookup, bare-named, bare-no_paths, bare-refers, bare-sound}
use Rattle.minix_change_laws.specs.Comes.{HasOnlyDots}
use Rattle.minix_change_laws.specs.Enter.{MayStand, DirectoryMayStand, MayEnter}
use Rattle.minix_change_laws.proofs.Dots.{new_directory_law}

-- the root directory has `.` and `..` in one zone, and a free entry after them; inode 2 is an empty file, and inode
-- 3 a directory with its two entries in another zone
pub record RootRoom (super : Super) (parts : Parts) (zone other : ℕ) : Type 0 where
  pub root : BareRoot super parts zone 3
  pub some_inode : 3 ≤ super.inodes
  pub file : is_directory (parts.node 2) ≡ false
  pub file_mode : (parts.node 2).mode ≢ 0
  pub file_small : is_size super.kind (parts.node 2).size ≡ true
  pub file_mark : parts.has_inode 2 ≡ true
  pub file_zones : (parts.node 2).zones ≡ replicate 10 0
  pub file_links : (parts.node 2).links ≡ 1
  pub new_directory : is_directory (parts.node 3) ≡ true
  pub new_mode : (parts.node 3).mode ≢ 0
  pub new_small : is_size super.kind (parts.node 3).size ≡ true
  pub new_two : places super.kind (parts.node 3).size ≡ 2
  pub new_zones : (parts.node 3).zones ≡ other ∷ replicate 9 0
  pub new_links : (parts.node 3).links ≡ 2
  pub new_first : entry super parts 3 0 ≡ entry_with 3 here_name
  pub new_second : entry super parts 3 1 ≡ entry_with 1 above_name
  pub new_inode_mark : parts.has_inode 3 ≡ true
  pub new_zone_mark : parts.has_zone other ≡ true
  pub new_from : super.first ≤ other
  pub new_below : other < super.zones
  pub apart : other ≢ zone

module _ (super : Super) (parts : Parts) (zone other : ℕ) (h : RootRoom super parts zone other) where
  -- the file has no zones
  no-points : (at : Pointer) (to : ℕ) → PointsTo super parts 2 at to → ⊥
  no-points at to points =
      let hole : slice_index (parts.node 2).zones at.top ≡ 0 = ap (λ numbers. slice_index numbers at.top) h.file_zones ∙ no-more 10 at.top in
      let none : to ≡ 0 = sym points.is ∙ (ap (λ n. follow super.kind parts.zone n at.trail) hole ∙ follow-hole super.kind parts.zone at.trail) in
      points.some none

  pub root_room-sound : Sound super parts
  root_room-sound = bare-sound super parts zone 3 h.root

  -- the file may get a name
  pub room-stands : MayStand super parts 2
  room-stands = record {
    file = h.file;
    fit = record {
      range = (omega arith, omega (arith, h.some_inode));
      marked = h.file_mark;
      mode = h.file_mode;
      size = h.file_small;
      zone_range = λ at to points. absurd (no-points at to points);
      zone_marked = λ at to points. absurd (no-points at to points);
      once = λ at there to points other. absurd (no-points at to points);
      apart = λ other at there to points refers. absurd (no-points at to points);
    };
    links = λ paths distinct lead.
        let none : length paths ≡ 0 = bare-no_paths super parts zone 3 h.root 2 paths (λ e. absurd (omega (arith, e))) lead in
        omega (arith, none, h.file_links);
  }

  -- in the root, at the third place
  pub room-enter : (name : List ℕ) → is_dots name ≡ false → MayEnter super parts [] 1 2 name
  unfolding reached
  room-enter name plain = record { leads = refl; plain = plain; absent = bare-lookup super parts zone 3 h.root name; free = h.root.free 2 (omega arith) (omega arith) }

  -- ---- the new directory

  points-new : (at : Pointer) (to : ℕ) → PointsTo super parts 3 at to → (at.top ≡ 0) × (at.trail ≡ []) × (to ≡ other)
  points-new at to points = only_pointer super.kind parts.zone other at.top at.trail (parts.node 3).zones to h.new_zones points.place.deep points.is points.some

  only-dots : HasOnlyDots super parts 1 3
  only-dots = record {
    two = omega (arith, h.new_two);
    first = h.new_first;
    second = h.new_second;
    rest = λ place high below. absurd (omega (arith, high, below, h.new_two));
  }

  -- it may get a name in the root
  pub room-directory : DirectoryMayStand super parts [] 1 3
  room-directory = record {
    is = h.new_directory;
    fit = record {
      range = (omega arith, omega (arith, h.some_inode));
      marked = h.new_inode_mark;
      mode = h.new_mode;
      size = h.new_small;
      zone_range = λ at to points. let is : to ≡ other = (points-new at to points).2 in (omega (arith, is, h.new_from), omega (arith, is, h.new_below));
      zone_marked = λ at to points. ap parts.has_zone (points-new at to points).2 ∙ h.new_zone_mark;
      once = λ at there to one two. let f = points-new at to one in let g = points-new there to two in same_pointer at there f.0 f.1 g.0 g.1;
      apart = λ number at there to points refers. absurd (h.apart (sym (points-new at to points).2 ∙ (bare-refers super parts zone 3 h.root number there to refers).3));
    };
    some_link = omega (arith, h.new_links);
    fresh = new_directory_law super parts [] 1 3 only-dots (λ named. let one : 3 ≡ 1 = bare-named super parts zone 3 h.root 3 named in absurd (omega (arith, one))) (omega arith);
  }

  pub room-named : Named super parts 1
  unfolding reached
  room-named = record { path = []; leads = refl }
