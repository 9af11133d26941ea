-- What was chosen for a file is still free once another was made.
use Rattle.std.proofs.Common.{◌≡◌, ◌≢◌, ◌<◌, ◌/◌, ◌⊎◌, ℕ, true, List, ◌∷◌, length, Option, Some, None, sym, ap, ◌∙◌, subst, arith, inl, inr, ⊎_elim}
use Rattle.std.specs.Prelude.{slice_index}
use Rattle.lilo_model.specs.MinixEntries.{entries_per_block}
use Rattle.lilo_model.specs.MinixLayout.{Super, numbers_in_zone}
use Rattle.lilo_model.specs.MinixNames.{Thing, lookup, then_lookup, reached, pointer, Named, Refers}
use Rattle.lilo_model.specs.MinixParts.{Parts, Volume, Pointer, is_directory, parts_of}
use Rattle.lilo_model.specs.Disks.{Image}
use Rattle.minix_change_laws.proofs.Change.{path-cases}
use Rattle.minix_choice_laws.specs.Apart.{AreApart}
use Rattle.minix_choice_laws.specs.Choice.{MayHavePlace}
use Rattle.minix_change_laws.specs.Tree.{TreeWith, HasTreeWith}
use Rattle.write_model.specs.Choice.{Choice}
use Rattle.write_model.specs.Growth.{first_beside}
use Rattle.minix_grow.specs.Others.{IsOneOf}
use Rattle.minix_grow.specs.Way.{number_above}
use Rattle.minix_create.specs.Made.{KeepsPlaces, HasMade}
use Rattle.minix_create.specs.MadeLaws.{OtherPlaceLaw, OtherGrowthLaw}
use Rattle.minix_create.proofs.MadeSteps.{same_step, steps_some}

-- ---- places

-- what a name leads to, where its directory is known
named-there : (super : Super) (parts : Parts) (outer : List (List ℕ)) (directory : ℕ) (name : List ℕ) → reached super parts outer ≡ Some directory
    → reached super parts (name ∷ outer) ≡ lookup super parts name directory
unfolding reached
named-there super parts outer directory name leads = ap (then_lookup super parts name) leads

-- a path that leads somewhere isn't that of a name which isn't there
pub not_new : (super : Super) (parts : Parts) (outer : List (List ℕ)) (directory : ℕ) (name : List ℕ) → reached super parts outer ≡ Some directory → lookup super parts name directory ≡ None
    → (path : List (List ℕ)) (number : ℕ) → reached super parts path ≡ Some number → path ≢ name ∷ outer
not_new super parts outer directory name leads absent path number is same =
    let none : reached super parts (name ∷ outer) ≡ None = named-there super parts outer directory name leads ∙ absent in
    let t : reached super parts path ≡ None = ap (reached super parts) same ∙ none in
    cc

module _ (volume : Volume) (old new : Image) (outer : List (List ℕ)) (directory place : ℕ) (name : List ℕ) (found : Option ℕ) (what : Option Thing)
    (there : List (List ℕ)) (other at : ℕ) (later : List ℕ) (has : HasTreeWith volume old new (name ∷ outer) found what)
    (keeps : KeepsPlaces volume.layout (parts_of volume old) (parts_of volume new) directory place)
    (one : MayHavePlace volume old outer directory place name) (two : MayHavePlace volume old there other at later) where
  abbrev Old : Parts
  Old = parts_of volume old

  abbrev New : Parts
  New = parts_of volume new

  leads : reached volume.layout New there ≡ Some other
  leads = has.tree.others there (not_new volume.layout Old outer directory name one.leads one.absent there other two.leads) ∙ two.leads

  was : Named volume.layout Old other
  was = record { path = there; leads = two.leads }

  is : is_directory (New.node other) ≡ true
  is = let mode = has.tree.keeps.modes other was (record { path = there; leads = leads }) in rw mode two.is

  absent : (other ≡ directory → later ≢ name) → lookup volume.layout New later other ≡ None
  absent names =
      let apart : later ∷ there ≢ name ∷ outer = λ same.
      let tail : there ≡ outer = cc in
      let head : later ≡ name = cc in
      let in_it : other ≡ directory = let a = two.leads in let b = one.leads in let t : reached volume.layout Old there ≡ reached volume.layout Old outer = ap (reached volume.layout Old) tail in cc in
      names in_it head in
      sym (named-there volume.layout New there other later leads)
      ∙ (has.tree.others (later ∷ there) apart
      ∙ (named-there volume.layout Old there other later two.leads ∙ two.absent))

  pub other_place : (other ≡ directory → at ≢ place) → (other ≡ directory → later ≢ name) → MayHavePlace volume new there other at later
  other_place apart names = record {
    leads = leads;
    is = is;
    reaches = keeps.reaches other was two.is two.reaches;
    plain = two.plain;
    absent = absent names;
    free = keeps.free other at was two.is apart two.free;
    near = λ past. two.near (let room = keeps.room other was two.is in omega (arith, room, past));
  }

pub other_place_law : OtherPlaceLaw
other_place_law volume old new outer directory place name found what there other at later has keeps one two apart names =
    other_place volume old new outer directory place name found what there other at later has keeps one two apart names

-- ---- growth

module _ (super : Super) (old new : Parts) (path : List (List ℕ)) (what : Option Thing) (directory : ℕ) (one : Choice) (other : ℕ) (later : Choice)
    (tree : TreeWith super old new path (Some one.inode) what) (made : HasMade super old new directory one) (apart : AreApart super.kind directory one other later) where
  -- what has a name then had one, or is the file
  pub named_before : (number : ℕ) → Named super new number → (number ≡ one.inode) ⊎ Named super old number
  named_before number named = ⊎_elim
      (λ same.
      let here = tree.here in
      let leads = named.leads in
      let t : reached super new named.path ≡ Some one.inode = ap (reached super new) same ∙ here in
      inl cc)
      (λ far. inr (record { path = named.path; leads = sym (tree.others named.path far) ∙ named.leads }))
      (path-cases named.path path)

  module _ (level : ℕ) (low : level < length later.growth) where
    abbrev Zone : ℕ
    Zone = slice_index later.growth level

    -- a zone that the directory got is that of the same step
    step-there : IsOneOf one.growth Zone → number_above super new other (later.place / entries_per_block super.kind) level ≢ 0
    step-there has =
        let step = apart.steps level has.at low has.low (sym has.is) in
        let same : first_beside (numbers_in_zone super.kind) (later.place / entries_per_block super.kind) level ≡ first_beside (numbers_in_zone super.kind) (one.place / entries_per_block super.kind) level =
        step.blocks ∙ ap (first_beside (numbers_in_zone super.kind) (one.place / entries_per_block super.kind)) (sym step.at) in
        let to = same_step super.kind (later.place / entries_per_block super.kind) (one.place / entries_per_block super.kind) level same in
        let there = steps_some super new directory (one.place / entries_per_block super.kind) made.lies level in
        let is : number_above super new other (later.place / entries_per_block super.kind) level ≡ number_above super new directory (one.place / entries_per_block super.kind) level =
        ap (λ n. number_above super new n (later.place / entries_per_block super.kind) level) step.directory ∙ ap (pointer super new directory) to in
        λ none. there (sym is ∙ none)

    pub other_growth : (number : ℕ) (at : Pointer) → Refers super new number at Zone → Refers super old number at Zone ⊎ (number_above super new other (later.place / entries_per_block super.kind) level ≢ 0)
    other_growth number at refers = ⊎_elim
        (λ same.
        let P : ℕ → Type 0 = λ n. Refers super new n at Zone in
        let own = made.own at Zone (subst P same refers).to in
        absurd (apart.file own.0 level (λ none. refers.to.some (sym own.1 ∙ none)) low (sym own.1)))
        (λ named. ⊎_elim
        (λ to. inl (record { named = named; to = to }))
        (λ has. inr (step-there has))
        (made.points number at Zone named refers.to))
        (named_before number refers.named)

pub other_growth_law : OtherGrowthLaw
other_growth_law super old new path what directory one other later tree made apart level low number at refers =
    other_growth super old new path what directory one other later tree made apart level low number at refers
