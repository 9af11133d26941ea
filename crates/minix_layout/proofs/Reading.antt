-- What was written is read again.
use Rattle.std.proofs.Common.{◌≡◌, ℕ, ◌^◌, ◌<◌, ◌≤◌, Bool, true, false, List, [], ◌∷◌, ◌++◌, length, take, All, Some, Ok, if◌then◌else◌, replicate, lit<, refl, sym, ◌∙◌, ap, arith}
use Rattle.std.specs.Prelude.{slice_index}
use Rattle.std.proofs.lemmas.Nat.{from_le_bytes-to_le_bytes_2, from_le_bytes-to_le_bytes_4}
use Rattle.lilo_model.specs.Bytes.{with_part, number16, number32, bytes16, bytes32}
use Rattle.lilo_model.specs.MinixLayout.{Kind, V1Short, V1Long, V2Short, V2Long, Super, Inode, IsSuper, FitsInode, is_v1, is_size, number_size, magic_of, kind_of, super_of, super_in, super_at, with_zones, with_counts, super_bytes, v1_inode, v2_inode, inode_of, inode_at, v1_inode_bytes, v2_inode_bytes, inode_bytes, kept_inode}
use Rattle.minix_layout.specs.Laws.{SuperLaw, InodeLaw, KeptLaw}

-- ---- the superblock

-- a sector with fields, by whether they are of version 1
abbrev sector_with : Bool → Super → List ℕ → List ℕ
sector_with one super bytes =
    with_part
    (with_zones one super.zones (with_part bytes 0 (bytes16 super.inodes)))
    4
    (bytes16 super.imap ++ bytes16 super.zmap ++ bytes16 super.first ++ bytes16 0 ++ bytes32 super.max_size ++ bytes16 (magic_of super.kind) ++ bytes16 super.state)

-- the numbers that are read in a sector are those of a superblock
record HasFields (one : Bool) (super : Super) (bytes : List ℕ) : Type 0 where
  inodes_is : number16 bytes 0 ≡ super.inodes
  zones_is : (if one then number16 bytes 2 else number32 bytes 20) ≡ super.zones
  imap_is : number16 bytes 4 ≡ super.imap
  zmap_is : number16 bytes 6 ≡ super.zmap
  first_is : number16 bytes 8 ≡ super.first
  zero_is : number16 bytes 10 ≡ 0
  max_is : number32 bytes 12 ≡ super.max_size
  magic_is : number16 bytes 16 ≡ magic_of super.kind
  state_is : number16 bytes 18 ≡ super.state

magic-fits : (kind : Kind) → magic_of kind < 2 ^ 16
magic-fits V1Short = omega arith
magic-fits V1Long = omega arith
magic-fits V2Short = omega arith
magic-fits V2Long = omega arith

has_fields :
    (one : Bool) (super : Super) (sectors : ℕ) (bytes : List ℕ) → IsSuper super sectors → super.zones < (if one then 2 ^ 16 else 2 ^ 32)
    → 24 ≤ length bytes → HasFields one super (sector_with one super bytes)
unfolding number16 number32
has_fields true super sectors (a ∷ (b ∷ (c ∷ (d ∷ (e ∷ (f ∷ (g ∷ (h ∷ (i ∷ (j ∷ (k ∷ (l ∷ (m ∷ (n ∷ (o ∷ (p ∷ (q ∷ (r ∷ (s ∷ (t ∷ (u ∷ (v ∷ (w ∷ (x ∷ rest)))))))))))))))))))))))) good zones long = record {
  inodes_is = from_le_bytes-to_le_bytes_2 super.inodes good.inodes_fit;
  zones_is = from_le_bytes-to_le_bytes_2 super.zones zones;
  imap_is = from_le_bytes-to_le_bytes_2 super.imap good.imap_fits;
  zmap_is = from_le_bytes-to_le_bytes_2 super.zmap good.zmap_fits;
  first_is = from_le_bytes-to_le_bytes_2 super.first good.first_fits;
  zero_is = refl;
  max_is = from_le_bytes-to_le_bytes_4 super.max_size good.size_fits;
  magic_is = from_le_bytes-to_le_bytes_2 (magic_of super.kind) (magic-fits super.kind);
  state_is = from_le_bytes-to_le_bytes_2 super.state good.state_fits;
}
has_fields false super sectors (a ∷ (b ∷ (c ∷ (d ∷ (e ∷ (f ∷ (g ∷ (h ∷ (i ∷ (j ∷ (k ∷ (l ∷ (m ∷ (n ∷ (o ∷ (p ∷ (q ∷ (r ∷ (s ∷ (t ∷ (u ∷ (v ∷ (w ∷ (x ∷ rest)))))))))))))))))))))))) good zones long = record {
  inodes_is = from_le_bytes-to_le_bytes_2 super.inodes good.inodes_fit;
  zones_is = from_le_bytes-to_le_bytes_4 super.zones zones;
  imap_is = from_le_bytes-to_le_bytes_2 super.imap good.imap_fits;
  zmap_is = from_le_bytes-to_le_bytes_2 super.zmap good.zmap_fits;
  first_is = from_le_bytes-to_le_bytes_2 super.first good.first_fits;
  zero_is = refl;
  max_is = from_le_bytes-to_le_bytes_4 super.max_size good.size_fits;
  magic_is = from_le_bytes-to_le_bytes_2 (magic_of super.kind) (magic-fits super.kind);
  state_is = from_le_bytes-to_le_bytes_2 super.state good.state_fits;
}
has_fields _ super sectors _ good zones long = absurd (omega (arith, long))

-- ---- a kind is known by its magic number

kind_of-magic : (kind : Kind) → kind_of (magic_of kind) ≡ Some kind
unfolding kind_of
kind_of-magic V1Short = refl
kind_of-magic V1Long = refl
kind_of-magic V2Short = refl
kind_of-magic V2Long = refl

-- a number of zones fits by its version
fits-by_version : (kind : Kind) (n : ℕ) → n < 256 ^ number_size kind → n < (if is_v1 kind then 2 ^ 16 else 2 ^ 32)
fits-by_version V1Short n fits = fits
fits-by_version V1Long n fits = fits
fits-by_version V2Short n fits = fits
fits-by_version V2Long n fits = fits

super_of-fields : (super : Super) (bytes : List ℕ) → HasFields (is_v1 super.kind) super bytes → super_of super.kind bytes ≡ super
unfolding super_of
super_of-fields super bytes h =
    rw (h.inodes_is, h.zones_is, h.imap_is, h.zmap_is, h.first_is, h.max_is, h.state_is) refl

super_at-fields : (super : Super) (sectors : ℕ) (bytes : List ℕ) → IsSuper super sectors → HasFields (is_v1 super.kind) super bytes → super_at bytes sectors ≡ Ok super
unfolding super_at super_in
super_at-fields super sectors bytes good h =
    rw (h.magic_is, kind_of-magic super.kind, h.zero_is, super_of-fields super bytes h, good.passes) refl

-- a superblock that was written is read again
pub super_law : SuperLaw
unfolding super_bytes with_counts
super_law super sectors bytes good long =
    super_at-fields super sectors (super_bytes super bytes) good (has_fields (is_v1 super.kind) super sectors bytes good (fits-by_version super.kind super.zones good.zones_fit) (omega (arith, long)))

-- ---- inodes

abbrev inode_with : (mode links uid gid size : ℕ) (times zones : List ℕ) → Inode
inode_with mode links uid gid size times zones =
    record { mode = mode; links = links; uid = uid; gid = gid; size = size; times = times; zones = zones }

-- in version 1
v1_again :
    (mode links uid gid size : ℕ) (times zones : List ℕ) → length times ≡ 3 → length zones ≡ 10
    → mode < 2 ^ 16 → uid < 2 ^ 16 → size < 2 ^ 32 → All (λ time. time < 2 ^ 32) times → All (λ zone. zone < 2 ^ 16) zones
    → v1_inode (v1_inode_bytes (inode_with mode links uid gid size times zones))
    ≡ inode_with mode links uid gid size (replicate 3 (slice_index times 1)) (take 9 zones ++ (0 ∷ []))
unfolding v1_inode v1_inode_bytes number16 number32
v1_again mode links uid gid size (t0 ∷ (t1 ∷ (t2 ∷ []))) (z0 ∷ (z1 ∷ (z2 ∷ (z3 ∷ (z4 ∷ (z5 ∷ (z6 ∷ (z7 ∷ (z8 ∷ (z9 ∷ [])))))))))) three ten mf uf sf tf zf =
    rw (from_le_bytes-to_le_bytes_2 mode mf, from_le_bytes-to_le_bytes_2 uid uf, from_le_bytes-to_le_bytes_4 size sf, from_le_bytes-to_le_bytes_4 t1 (tf 1 t1 (lit< tt)), from_le_bytes-to_le_bytes_2 z0 (zf 0 z0 (lit< tt)), from_le_bytes-to_le_bytes_2 z1 (zf 1 z1 (lit< tt)), from_le_bytes-to_le_bytes_2 z2 (zf 2 z2 (lit< tt)), from_le_bytes-to_le_bytes_2 z3 (zf 3 z3 (lit< tt)), from_le_bytes-to_le_bytes_2 z4 (zf 4 z4 (lit< tt)), from_le_bytes-to_le_bytes_2 z5 (zf 5 z5 (lit< tt)), from_le_bytes-to_le_bytes_2 z6 (zf 6 z6 (lit< tt)), from_le_bytes-to_le_bytes_2 z7 (zf 7 z7 (lit< tt)), from_le_bytes-to_le_bytes_2 z8 (zf 8 z8 (lit< tt))) refl
v1_again mode links uid gid size _ _ three ten mf uf sf tf zf = absurd (omega (arith, three, ten))

-- in version 2
v2_again :
    (mode links uid gid size : ℕ) (times zones : List ℕ) → length times ≡ 3 → length zones ≡ 10
    → mode < 2 ^ 16 → links < 2 ^ 16 → uid < 2 ^ 16 → gid < 2 ^ 16 → size < 2 ^ 32 → All (λ time. time < 2 ^ 32) times → All (λ zone. zone < 2 ^ 32) zones
    → v2_inode (v2_inode_bytes (inode_with mode links uid gid size times zones)) ≡ inode_with mode links uid gid size times zones
unfolding v2_inode v2_inode_bytes number16 number32
v2_again mode links uid gid size (t0 ∷ (t1 ∷ (t2 ∷ []))) (z0 ∷ (z1 ∷ (z2 ∷ (z3 ∷ (z4 ∷ (z5 ∷ (z6 ∷ (z7 ∷ (z8 ∷ (z9 ∷ [])))))))))) three ten mf lf uf gf sf tf zf =
    rw (from_le_bytes-to_le_bytes_2 mode mf, from_le_bytes-to_le_bytes_2 links lf, from_le_bytes-to_le_bytes_2 uid uf, from_le_bytes-to_le_bytes_2 gid gf, from_le_bytes-to_le_bytes_4 size sf, from_le_bytes-to_le_bytes_4 t0 (tf 0 t0 (lit< tt)), from_le_bytes-to_le_bytes_4 t1 (tf 1 t1 (lit< tt)), from_le_bytes-to_le_bytes_4 t2 (tf 2 t2 (lit< tt)), from_le_bytes-to_le_bytes_4 z0 (zf 0 z0 (lit< tt)), from_le_bytes-to_le_bytes_4 z1 (zf 1 z1 (lit< tt)), from_le_bytes-to_le_bytes_4 z2 (zf 2 z2 (lit< tt)), from_le_bytes-to_le_bytes_4 z3 (zf 3 z3 (lit< tt)), from_le_bytes-to_le_bytes_4 z4 (zf 4 z4 (lit< tt)), from_le_bytes-to_le_bytes_4 z5 (zf 5 z5 (lit< tt)), from_le_bytes-to_le_bytes_4 z6 (zf 6 z6 (lit< tt)), from_le_bytes-to_le_bytes_4 z7 (zf 7 z7 (lit< tt)), from_le_bytes-to_le_bytes_4 z8 (zf 8 z8 (lit< tt)), from_le_bytes-to_le_bytes_4 z9 (zf 9 z9 (lit< tt))) refl
v2_again mode links uid gid size _ _ three ten mf lf uf gf sf tf zf = absurd (omega (arith, three, ten))

-- the bytes of an inode have what is kept of it
inode_of-written : (kind : Kind) (inode : Inode) → FitsInode kind inode → inode_of kind (inode_bytes kind inode) ≡ kept_inode kind inode
unfolding inode_of inode_bytes kept_inode
inode_of-written V1Short inode h = v1_again inode.mode inode.links inode.uid inode.gid inode.size inode.times inode.zones h.three h.ten h.mode_fits h.uid_fits h.size_fits h.times_fit h.zones_fit
inode_of-written V1Long inode h = v1_again inode.mode inode.links inode.uid inode.gid inode.size inode.times inode.zones h.three h.ten h.mode_fits h.uid_fits h.size_fits h.times_fit h.zones_fit
inode_of-written V2Short inode h = v2_again inode.mode inode.links inode.uid inode.gid inode.size inode.times inode.zones h.three h.ten h.mode_fits (omega (arith, h.links_fit)) h.uid_fits h.gid_fits h.size_fits h.times_fit h.zones_fit
inode_of-written V2Long inode h = v2_again inode.mode inode.links inode.uid inode.gid inode.size inode.times inode.zones h.three h.ten h.mode_fits (omega (arith, h.links_fit)) h.uid_fits h.gid_fits h.size_fits h.times_fit h.zones_fit

-- with its size
kept_inode-size : (kind : Kind) (inode : Inode) → (kept_inode kind inode).size ≡ inode.size
unfolding kept_inode
kept_inode-size V1Short inode = refl
kept_inode-size V1Long inode = refl
kept_inode-size V2Short inode = refl
kept_inode-size V2Long inode = refl

inode_at-of : (kind : Kind) (bytes : List ℕ) (inode : Inode) → inode_of kind bytes ≡ inode → is_size kind inode.size ≡ true → inode_at kind bytes ≡ Ok inode
unfolding inode_at
inode_at-of kind bytes inode is fits = rw (is, fits) refl

-- an inode that was written is read again
pub inode_law : InodeLaw
inode_law kind inode fits small =
    inode_at-of kind (inode_bytes kind inode) (kept_inode kind inode) (inode_of-written kind inode fits) (ap (is_size kind) (kept_inode-size kind inode) ∙ small)

-- what an inode was read from keeps it whole
kept_inode-of : (kind : Kind) (bytes : List ℕ) → kept_inode kind (inode_of kind bytes) ≡ inode_of kind bytes
unfolding kept_inode inode_of v1_inode
kept_inode-of V1Short bytes = refl
kept_inode-of V1Long bytes = refl
kept_inode-of V2Short bytes = refl
kept_inode-of V2Long bytes = refl

inode_of-at : (kind : Kind) (bytes : List ℕ) (inode : Inode) (small : Bool) → is_size kind (inode_of kind bytes).size ≡ small → inode_at kind bytes ≡ Ok inode → inode_of kind bytes ≡ inode
unfolding inode_at
inode_of-at kind bytes inode true is read = let e = rw is at read in cc
inode_of-at kind bytes inode false is read = let e = rw is at read in cc

pub kept_law : KeptLaw
kept_law kind bytes inode read =
    let same = inode_of-at kind bytes inode _ refl read in
    ap (kept_inode kind) (sym same) ∙ kept_inode-of kind bytes ∙ same
