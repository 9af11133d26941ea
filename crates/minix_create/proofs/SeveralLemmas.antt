-- What was chosen for a file is free still once another was made.
use Rattle.std.proofs.Common.{◌≡◌, ◌≢◌, ◌<◌, ◌/◌, ◌==◌, ◌⊎◌, ℕ, suc, true, false, List, [], ◌∷◌, length, Option, Some, refl, sym, ◌∙◌, subst, arith, inl, inr, ⊎_elim}
use Rattle.std.specs.Prelude.{slice_index}
use Rattle.std.proofs.lemmas.Bool.{cases_eq, ne_eqb}
use Rattle.disk_trait.specs.declared.disks.Disks.{Ghosts}
use Rattle.disk_trait.specs.Moments.{now}
use Rattle.disk_trait.specs.Past.{Image}
use Rattle.lilo_model.specs.MinixEntries.{entries_per_block}
use Rattle.lilo_model.specs.MinixNames.{Thing, reached, Named, IsSound}
use Rattle.lilo_model.specs.MinixParts as model
use Rattle.lilo_model.specs.MinixParts.{Parts, Pointer, is_directory, parts_of}
use Rattle.minix_steps.specs.Numbers.{has_number}
use Rattle.minix_choice_laws.specs.Apart.{AreApart}
use Rattle.minix_choice_laws.specs.Choice.{file_of, MayHavePlace}
use Rattle.minix_choice_laws.specs.FillLaws.{MayBeFile}
use Rattle.minix_grow.specs.Way.{pointer_above, number_above}
use Rattle.minix_layout.specs.View.{super_view}
use Rattle.minix_create.specs.Made.{HasMade}
use Rattle.minix_create.proofs.MadeOther.{not_new, other_place_law, other_growth_law}
use Rattle.minix_change_laws.specs.Tree.{HasTreeWith}
use Rattle.minix_steps.specs.Written.{parts_now}
use Rattle.minix_steps.proofs.StepLemmas.{same_view}
use Rattle.minix_zones.specs.Volume.{volume_view, past_of}
use Rattle.minix_zones.specs.declared.volume.Volume.{Volume}
use Rattle.write_model.specs.Choice.{Choice}
use Rattle.minix_create.specs.Chosen.{Suits, IsFreeNow, thing_with}
use Rattle.minix_create.specs.Grown.{MayGrowIn}
use Rattle.minix_create.specs.Linked.{MarksLinked}
use Rattle.minix_create.specs.Several.{AreApartOn, WasMade, IsLeftFree}
use Rattle.minix_create.specs.declared.chosen.Chosen.{Chosen}
use Rattle.minix_create.proofs.GrownLemmas.{way_points}
use Rattle.minix_create.proofs.OpenLemmas.{suits_kept}

-- ---- bits

-- a number that is none of some
none-of : (numbers : List ℕ) (n : ℕ) → ((i : ℕ) → i < length numbers → n ≢ slice_index numbers i) → has_number numbers n ≡ false
unfolding has_number
none-of [] n apart = refl
none-of (first ∷ numbers) n apart =
    let here : (n == first) ≡ false = ne_eqb n first (apart 0 (omega arith)) in
    rw here (none-of numbers n (λ i low. apart (suc i) (omega (arith, low))))

-- ---- growth

module _ (view : model.Volume) (old new : Image) (outer : List (List ℕ)) (directory : ℕ) (one : Choice) (name : List ℕ) (what : Option Thing) (other : ℕ) (later : Choice)
    (tree : HasTreeWith view old new (name ∷ outer) (Some one.inode) what) (made : HasMade view.layout (parts_of view old) (parts_of view new) directory one)
    (apart : AreApart view.layout.kind directory one other later) (may : MayHavePlace view old outer directory one.place name)
    (grows : MayGrowIn view old other later.place later.growth) where
  abbrev Old : Parts
  Old = parts_of view old

  abbrev New : Parts
  New = parts_of view new

  abbrev Block : ℕ
  Block = later.place / entries_per_block view.layout.kind

  -- its directory has its name still
  path_there : reached view.layout New grows.named.path ≡ Some other
  path_there = tree.tree.others grows.named.path (not_new view.layout Old outer directory name may.leads may.absent grows.named.path other grows.named.leads) ∙ grows.named.leads

  named : Named view.layout New other
  named = record { path = grows.named.path; leads = path_there }

  is : is_directory (New.node other) ≡ true
  is = let mode = tree.tree.keeps.modes other grows.named named in rw mode grows.is

  -- a step that is missing was missing
  hole-old : (level : ℕ) → number_above view.layout New other Block level ≡ 0 → number_above view.layout Old other Block level ≡ 0
  hole-old level hole = by (cases_eq (number_above view.layout Old other Block level) 0)
    where
      by : (number_above view.layout Old other Block level ≡ 0) ⊎ (number_above view.layout Old other Block level ≢ 0) → number_above view.layout Old other Block level ≡ 0
      by (inl none) = none
      by (inr some) =
          let to = tree.tree.keeps.stays other (pointer_above view.layout.kind Block level) _ (record { named = grows.named; to = way_points view.layout Old other Block level grows.is some }) named in
          absurd (some (sym to.is ∙ hole))

  pub may_grow_later : MayGrowIn view new other later.place later.growth
  may_grow_later = record {
    sound = tree.sound;
    named = named;
    is = is;
    reaches = made.keeps.reaches other grows.named grows.is grows.reaches;
    free = made.keeps.free other later.place grows.named grows.is apart.place grows.free;
    near = λ past. grows.near (let room = made.keeps.room other grows.named grows.is in omega (arith, room, past));
    growth_is = record {
      from = grows.growth_is.from;
      below = grows.growth_is.below;
      apart = grows.growth_is.apart;
      enough = λ level low hole. grows.growth_is.enough level low (hole-old level hole);
      unused = λ level low hole number at refers. ⊎_elim
          (λ was. grows.growth_is.unused level low (hole-old level hole) number at was)
          (λ some. some hole)
          (other_growth_law view.layout Old New (name ∷ outer) what directory one other later tree.tree made apart level low number at refers);
    };
  }

-- ---- all of it

module _ {D : Type 0} {disks : Ghosts D} (start volume : Volume D disks) (one other : Chosen) (suits : Suits start.layout start.span other) (apart : AreApartOn start one other) (was : WasMade start volume one) where
  view : volume_view volume ≡ volume_view start
  view = same_view start volume was.creates.leads.kept

  at_volume : (P : model.Volume → Type 0) → P (volume_view start) → P (volume_view volume)
  at_volume P holds = subst P (sym view) holds

  tree : HasTreeWith (volume_view start) (now (past_of start)) (now (past_of volume)) (one.name ∷ was.outer) (Some one.choice.inode) (Some (thing_with one was.given))
  tree = was.creates.leads.done was.told

  made : HasMade (super_view start.layout) (parts_now start) (parts_of (volume_view start) (now (past_of volume))) one.directory one.choice
  made = was.creates.made was.told

  marks : MarksLinked (super_view start.layout) (parts_now start) (parts_of (volume_view start) (now (past_of volume))) one
  marks = was.creates.marks was.told

  inode_free : (parts_now start).has_inode other.choice.inode ≡ false → (parts_of (volume_view start) (now (past_of volume))).has_inode other.choice.inode ≡ false
  inode_free free = marks.inodes other.choice.inode (suits.some, suits.there) ∙ rw (free, ne_eqb other.choice.inode one.choice.inode apart.inode) refl

  zone_free : (i : ℕ) → i < length other.choice.zones → (parts_now start).has_zone (slice_index other.choice.zones i) ≡ false
      → (parts_of (volume_view start) (now (past_of volume))).has_zone (slice_index other.choice.zones i) ≡ false
  zone_free i low free =
      let data_is = suits.are_data i 0 low in
      marks.zones (slice_index other.choice.zones i) (data_is.from, data_is.below) (λ level low' same. apart.growth i level low low' (sym same))
      ∙ rw (free, none-of one.choice.zones (slice_index other.choice.zones i) (λ j low'. apart.zones i j low low')) refl

  still_free : IsFreeNow start other → IsFreeNow volume other
  still_free free = record {
    sound = at_volume (λ v. IsSound v (now (past_of volume))) tree.sound;
    file = at_volume (λ v. MayBeFile v.layout.kind (file_of other.choice)) free.file;
    inode = at_volume (λ v. (parts_of v (now (past_of volume))).has_inode other.choice.inode ≡ false) (inode_free free.inode);
    zones = λ i low. at_volume (λ v. (parts_of v (now (past_of volume))).has_zone (slice_index other.choice.zones i) ≡ false) (zone_free i low (free.zones i low));
    grows = at_volume (λ v. MayGrowIn v (now (past_of volume)) other.directory other.choice.place other.choice.growth)
        (may_grow_later (volume_view start) (now (past_of start)) (now (past_of volume)) was.outer one.directory one.choice one.name _ other.directory other.choice tree made apart was.might free.grows);
    clear = free.clear;
  }

  pub left_free : IsLeftFree start volume one other
  left_free = record {
    suits = suits_kept start volume other was.creates.leads.kept suits;
    free = still_free;
    name = λ outer may names. at_volume (λ v. MayHavePlace v (now (past_of volume)) outer other.directory other.choice.place other.name)
        (other_place_law (volume_view start) (now (past_of start)) (now (past_of volume)) was.outer one.directory one.choice.place one.name _ _ outer other.directory other.choice.place other.name
        tree made.keeps was.might may apart.place names);
  }
