-- What indirect zones and the inode of a new file change of the parts of a volume.
use Rattle.std.proofs.Common.{◌≡◌, ◌≢◌, ◌≤◌, ◌<◌, ◌+◌, ◌^◌, ℕ, zero, suc, List, [], ◌∷◌, All, refl, sym, ap, ◌∙◌, subst, lit<, arith, ⊎_elim}
use Rattle.std.specs.Prelude.{slice_index, if◌then◌else◌}
use Rattle.std.proofs.lemmas.Bool.{cases_eq, cases_lt}
use Rattle.lilo_model.specs.MinixLayout.{Kind, V1Short, V1Long, V2Short, V2Long, Super, Inode, FitsInode, IsSuper, is_v1, number_size, numbers_in_zone, most_links, kept_inode}
use Rattle.lilo_model.specs.MinixParts as model
use Rattle.lilo_model.specs.MinixParts.{Parts, is_directory}
use Rattle.minix_change_laws.specs.Beside.{IsDataZone}
use Rattle.minix_choice_laws.specs.Sources.{Source, Block, Indirect, FileZones, zone_from, top_source}
use Rattle.minix_choice_laws.proofs.Given.{past_end}
use Rattle.minix_choice_laws.specs.FillLaws.{MayBeFile}
use Rattle.minix_steps.specs.StepLaws.{OneZone}
use Rattle.minix_fill.specs.Numbers.{AreNumbers, HasNumbers, tops_of}
use Rattle.minix_fill.specs.Fill.{NumbersWritten}

-- ---- indirect zones

module _ (volume : model.Volume) (zones : FileZones) where
  pub numbers_none : (parts : Parts) (place : ℕ) → NumbersWritten volume parts parts zones place place
  numbers_none parts place = record {
    numbers = λ at low high some. absurd (omega (arith, low, high));
    others = λ zone apart. refl;
    nodes = λ number some there. refl;
    marks = λ number there. refl;
    zone_marks = λ zone below. refl;
  }

  pub numbers_hole : (parts : Parts) (place : ℕ) → slice_index zones.indirect place ≡ 0 → NumbersWritten volume parts parts zones place (place + 1)
  numbers_hole parts place hole = record {
    numbers = λ at low high some. let same : at ≡ place = omega (arith, low, high) in absurd (some (ap (slice_index zones.indirect) same ∙ hole));
    others = λ zone apart. refl;
    nodes = λ number some there. refl;
    marks = λ number there. refl;
    zone_marks = λ zone below. refl;
  }

  pub numbers_one : (old new : Parts) (place : ℕ) (bytes : List ℕ) → OneZone volume old new (slice_index zones.indirect place) bytes → HasNumbers volume.layout.kind zones place bytes
      → NumbersWritten volume old new zones place (place + 1)
  numbers_one old new place bytes one has = record {
    numbers = λ at low high some.
        let same : place ≡ at = omega (arith, low, high) in
        let P : ℕ → Type 0 = λ p. HasNumbers volume.layout.kind zones p (new.zone (slice_index zones.indirect p)) in
        subst P same (let B : List ℕ → Type 0 = HasNumbers volume.layout.kind zones place in subst B (sym one.here) has);
    others = λ zone apart. one.others zone (λ same. apart place (omega arith) (omega arith) (sym same));
    nodes = one.nodes;
    marks = one.marks;
    zone_marks = one.zone_marks;
  }

  module _ (may : MayBeFile volume.layout.kind zones) where
    place_once : (one other : ℕ) → slice_index zones.indirect one ≢ 0 → slice_index zones.indirect other ≡ slice_index zones.indirect one → other ≡ one
    place_once one other some same =
        let P : Source → Type 0 = λ source. other ≡ place_of source in
        subst P (may.once (Indirect other) (Indirect one) same (λ none. some (sym same ∙ none))) refl
      where
        place_of : Source → ℕ
        place_of (Block index) = index
        place_of (Indirect place) = place

    pub numbers_join : (old mid new : Parts) (low middle high : ℕ) → low ≤ middle → middle ≤ high → NumbersWritten volume old mid zones low middle → NumbersWritten volume mid new zones middle high
        → NumbersWritten volume old new zones low high
    numbers_join old mid new low middle high up down one two = record {
      numbers = λ place from below some. ⊎_elim
          (λ (before : place < middle).
          let kept : new.zone (slice_index zones.indirect place) ≡ mid.zone (slice_index zones.indirect place) =
          two.others (slice_index zones.indirect place) (λ other above under same. let is = place_once place other some same in absurd (omega (arith, is, above, before))) in
          let B : List ℕ → Type 0 = HasNumbers volume.layout.kind zones place in
          subst B (sym kept) (one.numbers place from before some))
          (λ (after : middle ≤ place). two.numbers place after below some)
          (cases_lt place middle);
      others = λ zone apart.
          two.others zone (λ place from below. apart place (omega (arith, from, up)) below)
          ∙ one.others zone (λ place from below. apart place from (omega (arith, below, down)));
      nodes = λ number some there. two.nodes number some there ∙ one.nodes number some there;
      marks = λ number there. two.marks number there ∙ one.marks number there;
      zone_marks = λ zone below. two.zone_marks zone below ∙ one.zone_marks zone below;
    }

-- ---- numbers of zones fit

some_power : (kind : Kind) → 0 < 256 ^ number_size kind
some_power V1Short = lit< tt
some_power V1Long = lit< tt
some_power V2Short = lit< tt
some_power V2Long = lit< tt

pub numbers_fit : (super : Super) (sectors : ℕ) (zones : FileZones) → IsSuper super sectors
    → ((source : Source) → zone_from zones source ≢ 0 → IsDataZone super (zone_from zones source)) → AreNumbers super.kind zones
numbers_fit super sectors zones is range source = ⊎_elim
    (λ none. let P : ℕ → Type 0 = λ zone. zone < 256 ^ number_size super.kind in subst P (sym none) (some_power super.kind))
    (λ some. omega (arith, (range source some).1, is.zones_fit))
    (cases_eq (zone_from zones source) 0)

-- ---- the inode

pub tops_at : (kind : Kind) (zones : FileZones) (top : ℕ) → top < 10 → slice_index (tops_of kind zones) top ≡ zone_from zones (top_source (numbers_in_zone kind) top)
unfolding top_source
tops_at kind zones zero ten = refl
tops_at kind zones (suc zero) ten = refl
tops_at kind zones (suc (suc zero)) ten = refl
tops_at kind zones (suc (suc (suc zero))) ten = refl
tops_at kind zones (suc (suc (suc (suc zero)))) ten = refl
tops_at kind zones (suc (suc (suc (suc (suc zero))))) ten = refl
tops_at kind zones (suc (suc (suc (suc (suc (suc zero)))))) ten = refl
tops_at kind zones (suc (suc (suc (suc (suc (suc (suc zero))))))) ten = refl
tops_at kind zones (suc (suc (suc (suc (suc (suc (suc (suc zero)))))))) ten = refl
tops_at kind zones (suc (suc (suc (suc (suc (suc (suc (suc (suc zero))))))))) ten = refl
tops_at kind zones (suc (suc (suc (suc (suc (suc (suc (suc (suc (suc top)))))))))) ten = absurd (omega (arith, ten))

-- version 1 has no tenth number, and needs none
first_nine : (zones : FileZones) (a b c d e f g h i last : ℕ) (top : ℕ) → top < 10 → last ≡ 0
    → slice_index (a ∷ (b ∷ (c ∷ (d ∷ (e ∷ (f ∷ (g ∷ (h ∷ (i ∷ (0 ∷ [])))))))))) top
    ≡ slice_index (a ∷ (b ∷ (c ∷ (d ∷ (e ∷ (f ∷ (g ∷ (h ∷ (i ∷ (last ∷ [])))))))))) top
first_nine zones a b c d e f g h i last top ten none = let L : ℕ → ℕ = λ z. slice_index (a ∷ (b ∷ (c ∷ (d ∷ (e ∷ (f ∷ (g ∷ (h ∷ (i ∷ (z ∷ [])))))))))) top in ap L (sym none)

pub kept_tops : (kind : Kind) (zones : FileZones) (inode : Inode) (top : ℕ) → MayBeFile kind zones → top < 10
    → slice_index (kept_inode kind (record inode { zones = tops_of kind zones })).zones top ≡ zone_from zones (top_source (numbers_in_zone kind) top)
unfolding kept_inode
kept_tops V1Short zones inode top may ten =
    first_nine zones _ _ _ _ _ _ _ _ _ (slice_index zones.indirect 514) top ten (past_end zones.indirect 514 (may.two_levels refl)) ∙ tops_at V1Short zones top ten
kept_tops V1Long zones inode top may ten =
    first_nine zones _ _ _ _ _ _ _ _ _ (slice_index zones.indirect 514) top ten (past_end zones.indirect 514 (may.two_levels refl)) ∙ tops_at V1Long zones top ten
kept_tops V2Short zones inode top may ten = tops_at V2Short zones top ten
kept_tops V2Long zones inode top may ten = tops_at V2Long zones top ten

-- what else is kept
kept-mode : (kind : Kind) (inode : Inode) → (kept_inode kind inode).mode ≡ inode.mode
unfolding kept_inode
kept-mode V1Short inode = refl
kept-mode V1Long inode = refl
kept-mode V2Short inode = refl
kept-mode V2Long inode = refl

kept-links : (kind : Kind) (inode : Inode) → (kept_inode kind inode).links ≡ inode.links
unfolding kept_inode
kept-links V1Short inode = refl
kept-links V1Long inode = refl
kept-links V2Short inode = refl
kept-links V2Long inode = refl

kept-size : (kind : Kind) (inode : Inode) → (kept_inode kind inode).size ≡ inode.size
unfolding kept_inode
kept-size V1Short inode = refl
kept-size V1Long inode = refl
kept-size V2Short inode = refl
kept-size V2Long inode = refl

pub record KeepsFields (kept inode : Inode) : Type 0 where
  pub mode : kept.mode ≡ inode.mode
  pub links : kept.links ≡ inode.links
  pub size : kept.size ≡ inode.size

pub kept_fields : (kind : Kind) (inode : Inode) (numbers : List ℕ) → KeepsFields (kept_inode kind (record inode { zones = numbers })) inode
kept_fields kind inode numbers = record {
  mode = kept-mode kind (record inode { zones = numbers });
  links = kept-links kind (record inode { zones = numbers });
  size = kept-size kind (record inode { zones = numbers });
}

-- it fits
tops_small : (kind : Kind) (zones : FileZones) → AreNumbers kind zones → All (λ zone. zone < 256 ^ number_size kind) (tops_of kind zones)
tops_small kind zones small zero d inside = small (Block 0)
tops_small kind zones small (suc zero) d inside = small (Block 1)
tops_small kind zones small (suc (suc zero)) d inside = small (Block 2)
tops_small kind zones small (suc (suc (suc zero))) d inside = small (Block 3)
tops_small kind zones small (suc (suc (suc (suc zero)))) d inside = small (Block 4)
tops_small kind zones small (suc (suc (suc (suc (suc zero))))) d inside = small (Block 5)
tops_small kind zones small (suc (suc (suc (suc (suc (suc zero)))))) d inside = small (Block 6)
tops_small kind zones small (suc (suc (suc (suc (suc (suc (suc zero))))))) d inside = small (Indirect 0)
tops_small kind zones small (suc (suc (suc (suc (suc (suc (suc (suc zero)))))))) d inside = small (Indirect 1)
tops_small kind zones small (suc (suc (suc (suc (suc (suc (suc (suc (suc zero))))))))) d inside = small (Indirect (2 + numbers_in_zone kind))
tops_small kind zones small (suc (suc (suc (suc (suc (suc (suc (suc (suc (suc k)))))))))) d inside = absurd (omega (arith, inside))

pub fits_with : (kind : Kind) (zones : FileZones) (inode : Inode) → AreNumbers kind zones → FitsInode kind inode → FitsInode kind (record inode { zones = tops_of kind zones })
fits_with kind zones inode small fits = record {
  mode_fits = fits.mode_fits;
  links_fit = fits.links_fit;
  uid_fits = fits.uid_fits;
  gid_fits = fits.gid_fits;
  size_fits = fits.size_fits;
  times_fit = fits.times_fit;
  zones_fit = tops_small kind zones small;
  three = fits.three;
  ten = refl;
}

pub gid_small : (kind : Kind) (gid : ℕ) → gid < 256 ^ (if is_v1 kind then 1 else 2) → gid ≤ most_links kind
gid_small V1Short gid small = omega (arith, small)
gid_small V1Long gid small = omega (arith, small)
gid_small V2Short gid small = omega (arith, small)
gid_small V2Long gid small = omega (arith, small)
