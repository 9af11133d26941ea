-- What is freed, in terms of parts.
use Rattle.std.proofs.Common.{◌≡◌, ◌<◌, ◌==◌, ◌&&◌, ◌||◌, ◌⊎◌, ◌++◌, ◌^◌, not, ℕ, zero, suc, Bool, true, false, List, [], ◌∷◌, All, Result, Ok, Err, refl, sym, ◌∙◌, ap, subst, inl, inr, ⊎_elim, arith}
use Rattle.std.proofs.lemmas.Bool.{cases_Bool, cases_eq}
use Rattle.std.proofs.lemmas.Bool.Decides.{nat_tests}
use Rattle.lilo_model.specs.MinixLayout.{Kind, V1Short, V1Long, V2Short, V2Long, Inode, FitsInode, is_size, kept_inode, number_size}
use Rattle.lilo_model.specs.MinixParts as model
use Rattle.lilo_model.specs.MinixParts.{Parts, Pointer, has_zones}
use Rattle.lilo_model.specs.MinixNames.{PointsTo}
use Rattle.lilo_model.specs.MinixWalk.{Visit, visits}
use Rattle.minix_change_laws.specs.Beside.{IsDataZone}
use Rattle.minix_steps.specs.BitLaws.{OneInodeMark}
use Rattle.minix_steps.specs.Numbers.{has_number}
use Rattle.minix_sound_laws.specs.Laws.{HasNumbers}
use Rattle.minix_steps.proofs.PartLemmas.{kept_inode_law}
use Rattle.minix_fill.specs.Freed.{no_inode, zones_met, ZonesCleared, ClearsMet, ClearsZone, ClearsFile, ZeroesInode, FreesFile}
use Rattle.minix_fill.proofs.WalkLemmas.{visits_same, zones_in, has_in, in_has, visit_pointed, pointed_met}

-- ---- the inode of zeros

abbrev AreZeros : List ℕ → Type 0
AreZeros [] = Unit {0}
AreZeros (x ∷ xs) = (x ≡ 0) × AreZeros xs

all_zero : (limit : ℕ) → 0 < limit → (numbers : List ℕ) → AreZeros numbers → All (λ n. n < limit) numbers
all_zero limit some [] zeros k d inside = absurd (omega (arith, inside))
all_zero limit some (x ∷ xs) zeros zero d inside = subst (λ n. n < limit) (sym zeros.0) some
all_zero limit some (x ∷ xs) zeros (suc k) d inside = all_zero limit some xs zeros.1 k d (omega (arith, inside))

times_zero : All (λ n. n < 2 ^ 32) no_inode.times
times_zero = all_zero (2 ^ 32) (omega arith) no_inode.times (refl, (refl, (refl, tt)))

number_some : (kind : Kind) → 0 < 256 ^ number_size kind
number_some V1Short = omega arith
number_some V1Long = omega arith
number_some V2Short = omega arith
number_some V2Long = omega arith

pub zones_zero : (kind : Kind) → All (λ zone. zone < 256 ^ number_size kind) no_inode.zones
zones_zero kind = all_zero (256 ^ number_size kind) (number_some kind) no_inode.zones (refl, (refl, (refl, (refl, (refl, (refl, (refl, (refl, (refl, (refl, tt))))))))))

fits_zero : (kind : Kind) → FitsInode kind no_inode
fits_zero V1Short = record { mode_fits = omega arith; links_fit = omega arith; uid_fits = omega arith; gid_fits = omega arith; size_fits = omega arith; times_fit = times_zero; zones_fit = zones_zero V1Short; three = refl; ten = refl }
fits_zero V1Long = record { mode_fits = omega arith; links_fit = omega arith; uid_fits = omega arith; gid_fits = omega arith; size_fits = omega arith; times_fit = times_zero; zones_fit = zones_zero V1Long; three = refl; ten = refl }
fits_zero V2Short = record { mode_fits = omega arith; links_fit = omega arith; uid_fits = omega arith; gid_fits = omega arith; size_fits = omega arith; times_fit = times_zero; zones_fit = zones_zero V2Short; three = refl; ten = refl }
fits_zero V2Long = record { mode_fits = omega arith; links_fit = omega arith; uid_fits = omega arith; gid_fits = omega arith; size_fits = omega arith; times_fit = times_zero; zones_fit = zones_zero V2Long; three = refl; ten = refl }

size_zero : (kind : Kind) → is_size kind 0 ≡ true
size_zero V1Short = refl
size_zero V1Long = refl
size_zero V2Short = refl
size_zero V2Long = refl

kept_zero : (kind : Kind) → kept_inode kind no_inode ≡ no_inode
unfolding kept_inode
kept_zero V1Short = refl
kept_zero V1Long = refl
kept_zero V2Short = refl
kept_zero V2Long = refl

pub zeroed : (number : ℕ) (volume : model.Volume) (old new : Parts) → ZeroesInode number volume old new → new.node number ≡ no_inode
zeroed number volume old new one = one.here ∙ kept_inode_law volume.layout.kind no_inode (fits_zero volume.layout.kind) (size_zero volume.layout.kind) ∙ kept_zero volume.layout.kind

-- ---- zones whose bits are cleared

and_true : (a : Bool) → a ≡ (a && true)
and_true true = refl
and_true false = refl

and_false : (a : Bool) → (a && false) ≡ false
and_false true = refl
and_false false = refl

and_both : (a b c : Bool) → ((a && not b) && not c) ≡ (a && not (b || c))
and_both true true c = refl
and_both true false c = refl
and_both false true c = refl
and_both false false c = refl

has_none : (zone : ℕ) → has_number [] zone ≡ false
unfolding has_number
has_none zone = refl

has_last : (xs : List ℕ) (zone other : ℕ) → has_number (xs ++ (zone ∷ [])) other ≡ (has_number xs other || (other == zone))
unfolding has_number
has_last [] zone true_or = or_none (true_or == zone)
  where
    or_none : (a : Bool) → (a || false) ≡ a
    or_none true = refl
    or_none false = refl
has_last (x ∷ xs) zone other = ap (λ b. (other == x) || b) (has_last xs zone other) ∙ or_assoc (other == x) (has_number xs other) (other == zone)
  where
    or_assoc : (a b c : Bool) → (a || (b || c)) ≡ ((a || b) || c)
    or_assoc true b c = refl
    or_assoc false b c = refl

pub cleared_none : (volume : model.Volume) (parts : Parts) → ZonesCleared volume parts parts []
cleared_none volume parts = record {
  zone_marks = λ zone data_zone. and_true (parts.has_zone zone) ∙ ap (λ b. parts.has_zone zone && not b) (sym (has_none zone));
  marks = λ number there. refl;
  nodes = λ number. refl;
  bytes = λ zone from. refl;
}

pub zones_last : (met : List (Result Visit model.ZoneFault)) (visit : Visit) → zones_met (met ++ (Ok visit ∷ [])) ≡ zones_met met ++ (visit.zone ∷ [])
zones_last [] visit = refl
zones_last (Ok first ∷ rest) visit = ap (λ zones. first.zone ∷ zones) (zones_last rest visit)
zones_last (Err fault ∷ rest) visit = zones_last rest visit

pub cleared_more : (volume : model.Volume) (old mid new : Parts) (zones : List ℕ) (zone : ℕ) → ZonesCleared volume old mid zones → ClearsZone zone volume mid new
    → ZonesCleared volume old new (zones ++ (zone ∷ []))
cleared_more volume old mid new zones zone one two = record {
  zone_marks = λ other data_zone. ⊎_elim
      (λ is.
      let t : (other == zone) ≡ true = grind (arith, nat_tests) in
      let now_clear : new.has_zone other ≡ false = ap new.has_zone is ∙ two.here in
      now_clear ∙ sym (and_false (old.has_zone other && not (has_number zones other)))
      ∙ ap (λ b. (old.has_zone other && not (has_number zones other)) && not b) (sym t)
      ∙ and_both (old.has_zone other) (has_number zones other) (other == zone)
      ∙ ap (λ b. old.has_zone other && not b) (sym (has_last zones zone other)))
      (λ apart.
      let f : (other == zone) ≡ false = grind (arith, nat_tests) in
      two.other_zones other data_zone.0 data_zone.1 apart
      ∙ one.zone_marks other data_zone
      ∙ and_true (old.has_zone other && not (has_number zones other))
      ∙ ap (λ b. (old.has_zone other && not (has_number zones other)) && not b) (sym f)
      ∙ and_both (old.has_zone other) (has_number zones other) (other == zone)
      ∙ ap (λ b. old.has_zone other && not b) (sym (has_last zones zone other)))
      (cases_eq other zone);
  marks = λ number there. two.inodes number there ∙ one.marks number there;
  nodes = λ number. two.nodes number ∙ one.nodes number;
  bytes = λ other from. two.bytes other from ∙ one.bytes other from;
}

-- ---- with the bit of the inode

pub clears_file : (number : ℕ) (inode : Inode) (volume : model.Volume) (old mid new : Parts) → ClearsMet inode volume old mid → OneInodeMark volume mid new number false → ClearsFile number inode volume old new
clears_file number inode volume old mid new one two = record {
  zone_marks = λ zone data_zone. two.zones zone data_zone.0 ∙ one.zone_marks zone data_zone;
  mark = two.here;
  other_marks = λ other there apart. two.other_inodes other there apart ∙ one.marks other there;
  nodes = λ other. two.nodes other ∙ one.nodes other;
  bytes = λ zone from. two.bytes zone from ∙ one.bytes zone from;
}

-- ---- the whole

pub frees_file : (number : ℕ) (inode : Inode) (volume : model.Volume) (old mid new : Parts) → old.node number ≡ inode → has_zones inode ≡ true → HasNumbers volume.layout old
    → ((at : Pointer) (zone : ℕ) → PointsTo volume.layout old number at zone → IsDataZone volume.layout zone)
    → ZeroesInode number volume old mid → ClearsFile number inode volume mid new → FreesFile number volume old new
frees_file number inode volume old mid new is kind tops range one two = record {
  node = two.nodes number ∙ zeroed number volume old mid one;
  mark = two.mark;
  zone_marks = λ at zone to.
      let data_zone = range at zone to in
      two.zone_marks zone data_zone
      ∙ ap (λ b. mid.has_zone zone && not b) (marked zone ∙ has_in (zones_met (visits volume.layout old (old.node number))) zone (pointed_met volume.layout old number kind' range tops at zone to))
      ∙ and_false (mid.has_zone zone);
  other_nodes = λ other low high apart. two.nodes other ∙ one.others other low high apart;
  other_marks = λ other high apart. two.other_marks other high apart ∙ one.marks other high;
  other_zone_marks = λ zone data_zone none.
      two.zone_marks zone data_zone
      ∙ ap (λ b. mid.has_zone zone && not b) (marked zone ∙ unmarked zone none (cases_Bool (has_number (zones_met (visits volume.layout old (old.node number))) zone)))
      ∙ sym (and_true (mid.has_zone zone))
      ∙ one.zone_marks zone data_zone.1;
  bytes = λ zone from. two.bytes zone from ∙ one.zones zone from;
}
  where
    kind' : has_zones (old.node number) ≡ true
    kind' = let K : Inode → Type 0 = λ node. has_zones node ≡ true in subst K (sym is) kind

    same_visits : visits volume.layout mid inode ≡ visits volume.layout old (old.node number)
    same_visits = visits_same volume.layout old mid one.zones inode ∙ ap (visits volume.layout old) (sym is)

    marked : (zone : ℕ) → has_number (zones_met (visits volume.layout mid inode)) zone ≡ has_number (zones_met (visits volume.layout old (old.node number))) zone
    marked zone = ap (λ (met : List (Result Visit model.ZoneFault)). has_number (zones_met met) zone) same_visits

    unmarked : (zone : ℕ) → ((at : Pointer) → PointsTo volume.layout old number at zone → ⊥)
        → (has_number (zones_met (visits volume.layout old (old.node number))) zone ≡ true) ⊎ (has_number (zones_met (visits volume.layout old (old.node number))) zone ≡ false)
        → has_number (zones_met (visits volume.layout old (old.node number))) zone ≡ false
    unmarked zone none (inr isnt) = isnt
    unmarked zone none (inl has) =
        let it = zones_in (visits volume.layout old (old.node number)) zone (in_has _ zone has) in
        let pointed = visit_pointed volume.layout old number kind' range it.visit it.has in
        absurd (none pointed.at (subst (PointsTo volume.layout old number pointed.at) it.is pointed.to))
