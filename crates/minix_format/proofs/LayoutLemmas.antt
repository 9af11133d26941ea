-- The superblock of an empty volume.
use Rattle.std.proofs.Common.{◌≡◌, ◌≢◌, ◌<◌, ◌≤◌, ◌⊎◌, inl, inr, ℕ, ◌+◌, ◌-◌, ◌*◌, ◌/◌, nat_le, nat_lt, Bool, true, false, ◌&&◌, if◌then◌else◌, Some, None, Ok, refl, sym, ◌∙◌, ap, subst, arith, ⊎_elim}
use Rattle.std.specs.Int.{div_ceil}
use Rattle.std.proofs.lemmas.Bool.{le-leb, lt-ltb, le-ltb, leb-true, ltb-true}
use Rattle.std.proofs.lemmas.Bool.Decides.{nat_tests}
use Rattle.lilo_model.specs.MinixLayout.{Kind, V1Short, V1Long, V2Short, V2Long, Super, IsSuper, inode_size, table_start, table_blocks, super_checks}
use Rattle.minix_format.specs.Laid.{IsLaid}
use Rattle.ldisk_model.specs.MinixFormat.{zones_for, map_blocks, size_for, new_layout, has_room, where_room, format_layout}

where_room-is : (room : Bool) (super layout : Super) → has_room super ≡ room → where_room super ≡ Some layout → (has_room super ≡ true) × (super ≡ layout)
where_room-is true super layout room is = (room, let e : (if has_room super then Some super else None) ≡ Some super = rw room refl in cc)
where_room-is false super layout room is = let e : (if has_room super then Some super else None) ≡ None = rw room refl in cc

-- what the test of room says
record HasRoom (super : Super) : Type 0 where
  some : 1 ≤ super.inodes
  fit : super.inodes ≤ 65535
  low : super.first < super.zones
  small : super.first ≤ 65535

and-is : (a b : Bool) → (a && b) ≡ true → (a ≡ true) × (b ≡ true)
and-is true true is = (refl, refl)
and-is true false is = (refl, is)
and-is false b is = cc

room-is : (super : Super) → has_room super ≡ true → HasRoom super
unfolding has_room
room-is super is =
    let all = and-is (nat_le 1 super.inodes && nat_le super.inodes 65535 && nat_lt super.first super.zones) (nat_le super.first 65535) is in
    let parts = and-is (nat_le 1 super.inodes && nat_le super.inodes 65535) (nat_lt super.first super.zones) all.0 in
    let counts = and-is (nat_le 1 super.inodes) (nat_le super.inodes 65535) parts.0 in
    record {
      some = leb-true 1 super.inodes counts.0;
      fit = leb-true super.inodes 65535 counts.1;
      low = ltb-true super.first super.zones parts.1;
      small = leb-true super.first 65535 all.1;
    }

-- ---- as it is computed

no-room : (super : Super) → (super.inodes ≡ 0) ⊎ (super.zones ≤ super.first) ⊎ (65535 < super.first) → has_room super ≡ false
unfolding has_room
no-room super (inl none) = grind (arith, nat_tests)
no-room super (inr (inl past)) = grind (arith, nat_tests)
no-room super (inr (inr great)) = grind (arith, nat_tests)

some-room : (super : Super) → super.inodes ≢ 0 → super.inodes ≤ 65535 → super.first < super.zones → super.first ≤ 65535 → has_room super ≡ true
unfolding has_room
some-room super some fit low small = grind (arith, nat_tests)

rounded-8192 : (n : ℕ) → div_ceil n 8192 ≡ (n + 8191) / 8192
rounded-8192 n = omega arith

rounded-1024 : (n : ℕ) → div_ceil n 1024 ≡ (n + 1023) / 1024
rounded-1024 n = omega arith

module _ (kind : Kind) (sectors inodes inodes' zones imap zmap table max_size : ℕ) (inodes-is : inodes' ≡ inodes) (zones-is : zones ≡ zones_for kind sectors)
    (imap-is : imap ≡ div_ceil (inodes + 1) 8192) (zmap-is : zmap ≡ div_ceil zones 8192) (table-is : table ≡ div_ceil (inodes * inode_size kind) 1024)
    (size-is : max_size ≡ size_for kind) where
  abbrev computed : Super
  computed = record {
    kind = kind;
    inodes = inodes';
    zones = zones;
    imap = imap;
    zmap = zmap;
    first = 2 + imap + zmap + table;
    max_size = max_size;
    state = 1;
  }

  is-computed : new_layout kind sectors inodes ≡ computed
  unfolding new_layout
  is-computed =
      let a : imap ≡ map_blocks (inodes + 1) = imap-is ∙ rounded-8192 (inodes + 1) in
      let b : zmap ≡ map_blocks (zones_for kind sectors) = zmap-is ∙ ap (λ n. div_ceil n 8192) zones-is ∙ rounded-8192 (zones_for kind sectors) in
      let c : table ≡ (inodes * inode_size kind + 1023) / 1024 = table-is ∙ rounded-1024 (inodes * inode_size kind) in
      rw (a, b, c, zones-is, inodes-is, size-is) refl

  pub layout-none :
      (inodes ≡ 0) ⊎ (((inodes ≢ 0) × (zones ≤ 2 + imap + zmap + table)) ⊎ ((inodes ≢ 0) × (2 + imap + zmap + table < zones) × (65535 < 2 + imap + zmap + table)))
      → None ≡ format_layout kind sectors inodes
  unfolding format_layout
  layout-none why =
      let reason : (inodes' ≡ 0) ⊎ (zones ≤ 2 + imap + zmap + table) ⊎ (65535 < 2 + imap + zmap + table) =
      ⊎_elim (λ none. inl (inodes-is ∙ none)) (λ other. ⊎_elim (λ past. inr (inl past.1)) (λ great. inr (inr great.2)) other) why in
      let full : has_room (new_layout kind sectors inodes) ≡ false = ap has_room is-computed ∙ no-room computed reason in
      rw full refl

  pub layout-some : inodes ≢ 0 → inodes ≤ 65535 → 2 + imap + zmap + table < zones → 2 + imap + zmap + table ≤ 65535
      → Some computed ≡ format_layout kind sectors inodes
  unfolding format_layout
  layout-some some fit low small =
      let room : has_room (new_layout kind sectors inodes) ≡ true =
      ap has_room is-computed ∙ some-room computed (λ none. some (sym inodes-is ∙ none)) (omega (arith, inodes-is, fit)) low small in
      rw (room, is-computed) refl

-- ---- what is known of it

laid-by : (kind : Kind) (sectors inodes : ℕ) → HasRoom (new_layout kind sectors inodes) → IsLaid (new_layout kind sectors inodes)
unfolding new_layout
laid-by V1Short sectors inodes room = record {
  some_inode = room.some;
  inodes_fit = omega (arith, room.fit);
  below = room.low;
  first_fits = omega (arith, room.small);
  follows = refl;
  imap_fits = omega (arith, room.fit);
  imap_holds = omega arith;
  zmap_fits = omega (arith, room.small);
  zmap_holds = omega arith;
  zones_fit = omega (arith, room.small);
  size_fits = omega arith;
  state_fits = omega arith;
}
laid-by V1Long sectors inodes room = record {
  some_inode = room.some;
  inodes_fit = omega (arith, room.fit);
  below = room.low;
  first_fits = omega (arith, room.small);
  follows = refl;
  imap_fits = omega (arith, room.fit);
  imap_holds = omega arith;
  zmap_fits = omega (arith, room.small);
  zmap_holds = omega arith;
  zones_fit = omega (arith, room.small);
  size_fits = omega arith;
  state_fits = omega arith;
}
laid-by V2Short sectors inodes room = record {
  some_inode = room.some;
  inodes_fit = omega (arith, room.fit);
  below = room.low;
  first_fits = omega (arith, room.small);
  follows = refl;
  imap_fits = omega (arith, room.fit);
  imap_holds = omega arith;
  zmap_fits = omega (arith, room.small);
  zmap_holds = omega arith;
  zones_fit = omega (arith, room.small);
  size_fits = omega arith;
  state_fits = omega arith;
}
laid-by V2Long sectors inodes room = record {
  some_inode = room.some;
  inodes_fit = omega (arith, room.fit);
  below = room.low;
  first_fits = omega (arith, room.small);
  follows = refl;
  imap_fits = omega (arith, room.fit);
  imap_holds = omega arith;
  zmap_fits = omega (arith, room.small);
  zmap_holds = omega arith;
  zones_fit = omega (arith, room.small);
  size_fits = omega arith;
  state_fits = omega arith;
}

within-by : (kind : Kind) (sectors inodes : ℕ) → 2 * (new_layout kind sectors inodes).zones ≤ sectors
unfolding new_layout
within-by V1Short sectors inodes = omega arith
within-by V1Long sectors inodes = omega arith
within-by V2Short sectors inodes = omega arith
within-by V2Long sectors inodes = omega arith

pub layout-laid : (kind : Kind) (sectors inodes : ℕ) (layout : Super) → format_layout kind sectors inodes ≡ Some layout → IsLaid layout
unfolding format_layout
layout-laid kind sectors inodes layout is =
    let found = where_room-is _ (new_layout kind sectors inodes) layout refl is in
    subst IsLaid found.1 (laid-by kind sectors inodes (room-is (new_layout kind sectors inodes) found.0))

-- its zones lie in the sectors
pub layout-within : (kind : Kind) (sectors inodes : ℕ) (layout : Super) → format_layout kind sectors inodes ≡ Some layout → 2 * layout.zones ≤ sectors
unfolding format_layout
layout-within kind sectors inodes layout is =
    let found = where_room-is _ (new_layout kind sectors inodes) layout refl is in
    subst (λ (super : Super). 2 * super.zones ≤ sectors) found.1 (within-by kind sectors inodes)

module _ (layout : Super) (sectors : ℕ) (laid : IsLaid layout) (within : 2 * layout.zones ≤ sectors) where
  checks-pass : super_checks layout sectors ≡ Ok tt
  unfolding super_checks
  checks-pass =
      let a : nat_le 1 layout.inodes ≡ true = le-leb 1 layout.inodes laid.some_inode in
      let b : nat_le 1 layout.zones ≡ true = le-leb 1 layout.zones (omega (arith, laid.below)) in
      let c : nat_le (2 * layout.zones) sectors ≡ true = le-leb (2 * layout.zones) sectors within in
      let d : nat_lt layout.inodes (8192 * layout.imap) ≡ true = lt-ltb layout.inodes (8192 * layout.imap) laid.imap_holds in
      let e : nat_lt (layout.zones - layout.first) (8192 * layout.zmap) ≡ true = lt-ltb (layout.zones - layout.first) (8192 * layout.zmap) (omega (arith, laid.zmap_holds, laid.below, laid.follows)) in
      let f : nat_le (table_start layout + table_blocks layout) layout.first ≡ true = le-leb (table_start layout + table_blocks layout) layout.first (omega (arith, laid.follows)) in
      let g : nat_lt layout.first layout.zones ≡ true = lt-ltb layout.first layout.zones laid.below in
      let h : nat_lt layout.zones layout.first ≡ false = le-ltb layout.zones layout.first (omega (arith, laid.below)) in
      rw (a, b, c, d, h, e, f, g) refl

  pub laid-super : IsSuper layout sectors
  laid-super = record {
    inodes_fit = laid.inodes_fit;
    zones_fit = laid.zones_fit;
    imap_fits = laid.imap_fits;
    zmap_fits = laid.zmap_fits;
    first_fits = laid.first_fits;
    size_fits = laid.size_fits;
    state_fits = laid.state_fits;
    passes = checks-pass;
  }
