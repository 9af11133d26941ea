-- What is writable once a file was made was writable before.
use Rattle.std.proofs.Common.{◌≡◌, ℕ, Bool, true, false, List, ◌∷◌, Option, Some, Ok, refl, sym, ◌∙◌, ap, subst, inl, inr, ◌⊎◌, ⊎_elim}
use Rattle.std.proofs.lemmas.Bool.{or_left, or_right}
use Rattle.std.proofs.lemmas.List.Elements.{Contains-get_or}
use Rattle.disk_trait.specs.declared.disks.Disks.{Ghosts}
use Rattle.disk_trait.specs.Moments.{IsTold, now, LeavesOnly}
use Rattle.disk_trait.specs.Past.{Past}
use Rattle.disk_trait.proofs.LawLemmas.{end_of_run_law}
use Rattle.disk_trait.proofs.MomentLemmas.{at_now, leaves_weaker, leaves_join}
use Rattle.install_stage_laws.specs.BeginLaws.{GainsNothing}
use Rattle.install_laws.specs.Writes.{IsOfDirectory, MayBeWritten, IsWritable, WritesOnly}
use Rattle.lilo_model.specs.Disks.{Image, DiskSector, bytes_at}
use Rattle.lilo_model.specs.MinixNames.{File, Link, Directory, Other, Named}
use Rattle.lilo_model.specs.MinixParts as model
use Rattle.lilo_model.specs.MinixParts.{Parts, is_directory, is_file, is_link, parts_of}
use Rattle.minix_steps.specs.Numbers.{has_number}
use Rattle.minix_steps.proofs.SetLemmas.{has_from}
use Rattle.minix_create.specs.Chosen.{content_with, new_inode, thing_with}
use Rattle.minix_create.specs.Several.{WasMade}
use Rattle.minix_create.specs.declared.chosen.Chosen.{Chosen}
use Rattle.minix_grow.specs.Others.{IsOneOf}
use Rattle.minix_layout.specs.View.{super_view}
use Rattle.minix_create.specs.Made.{HasMade}
use Rattle.minix_change_laws.specs.Tree.{HasTreeWith}
use Rattle.minix_change_laws.proofs.Inode.{thing-directory}
use Rattle.minix_change_laws.proofs.Tree.{tree_named_law}
use Rattle.minix_steps.specs.Written.{parts_now}
use Rattle.minix_steps.proofs.StepLemmas.{same_view}
use Rattle.minix_zones.specs.Volume.{volume_view, past_of}
use Rattle.minix_zones.specs.declared.volume.Volume.{Volume}
use Rattle.install_stage.specs.Within.{is_chosen, and_zones, IsFreeFile, WasWritable, WritesJoin, GainsJoinLaw}
use Rattle.install_stage.proofs.Within.{writes_within}

-- what isn't a directory isn't made as one
no-directory : (chosen : Chosen) (given : ℕ → List ℕ) → is_directory (new_inode chosen) ≡ false → Directory ≡ thing_with chosen given → ⊥
no-directory chosen given plain same = by _ _ refl refl
  where
    by : (file link : Bool) → is_file (new_inode chosen) ≡ file → is_link (new_inode chosen) ≡ link → ⊥
    by true link f l = let e : Directory ≡ File (content_with chosen given) = rw f at same in cc
    by false true f l = let e : Directory ≡ Link (content_with chosen given) = rw (f, l) at same in cc
    by false false f l = let e : Directory ≡ Other = rw (f, l, plain) at same in cc

-- a zone of growth was chosen
grown-chosen : (chosen : Chosen) (zone : ℕ) → IsOneOf chosen.choice.growth zone → is_chosen chosen zone ≡ true
grown-chosen chosen zone one =
    or_right (has_number chosen.choice.zones zone) (has_number chosen.choice.growth zone)
    (subst (λ (z : ℕ). has_number chosen.choice.growth z ≡ true) one.is (has_from chosen.choice.growth _ (Contains-get_or chosen.choice.growth one.at 0 one.low)))

module _ {D : Type 0} {disks : Ghosts D} (start volume : Volume D disks) (one : Chosen) (file : is_directory (new_inode one) ≡ false) (was : WasMade start volume one) where
  abbrev Old : Parts
  Old = parts_now start

  abbrev New : Parts
  New = parts_of (volume_view start) (now (past_of volume))

  view : volume_view volume ≡ volume_view start
  view = same_view start volume was.creates.leads.kept

  tree : HasTreeWith (volume_view start) (now (past_of start)) (now (past_of volume)) (one.name ∷ was.outer) (Some one.choice.inode) (Some (thing_with one was.given))
  tree = was.creates.leads.done was.told

  made : HasMade (super_view start.layout) Old New one.directory one.choice
  made = was.creates.made was.told

  -- the file is no directory
  not-file : (number : ℕ) → Some one.choice.inode ≡ Some number → is_directory (New.node number) ≡ true → ⊥
  not-file number same is =
      let number-is : one.choice.inode ≡ number = cc in
      let there : is_directory (New.node one.choice.inode) ≡ true = subst (λ (n : ℕ). is_directory (New.node n) ≡ true) (sym number-is) is in
      let some : Some Directory ≡ Some (thing_with one was.given) = sym (ap Some (thing-directory (super_view start.layout) New one.choice.inode there)) ∙ tree.tree.is in
      let both : Directory ≡ thing_with one was.given = cc in
      no-directory one was.given file both

  -- a directory's zone was one, or is of growth
  directory-was : (zone : ℕ) → IsOfDirectory (volume_view start) (now (past_of volume)) zone → (is_chosen one zone ≡ true) ⊎ IsOfDirectory (volume_view start) (now (past_of start)) zone
  directory-was zone of = ⊎_elim old (λ found. absurd (not-file of.number found of.is))
      (tree_named_law (super_view start.layout) Old New (one.name ∷ was.outer) (Some one.choice.inode) (Some (thing_with one was.given)) of.number tree.tree of.refers.named)
    where
      old : Named (super_view start.layout) Old of.number → (is_chosen one zone ≡ true) ⊎ IsOfDirectory (volume_view start) (now (past_of start)) zone
      old named =
          let mode = tree.tree.keeps.modes of.number named of.refers.named in
          let is : is_directory (Old.node of.number) ≡ true = rw (sym mode) of.is in
          ⊎_elim
          (λ to. inr (record { number = of.number; at = of.at; refers = record { named = named; to = to }; is = is }))
          (λ grown. inl (grown-chosen one zone grown))
          (made.points of.number of.at zone named of.refers.to)

  module _ (chosen : ℕ → Bool) where
    zone-was : (zone : ℕ) → (chosen zone ≡ true) ⊎ IsOfDirectory (volume_view start) (now (past_of volume)) zone
        → (and_zones (is_chosen one) chosen zone ≡ true) ⊎ IsOfDirectory (volume_view start) (now (past_of start)) zone
    zone-was zone (inl picked) = inl (or_left (chosen zone) (is_chosen one zone) picked)
    zone-was zone (inr of) = ⊎_elim (λ its. inl (or_right (chosen zone) (is_chosen one zone) its)) (λ still. inr still) (directory-was zone of)

    sector-was : (sector : ℕ) → MayBeWritten (volume_view start) (now (past_of volume)) chosen sector → MayBeWritten (volume_view start) (now (past_of start)) (and_zones (is_chosen one) chosen) sector
    sector-was sector (inl tables) = inl tables
    sector-was sector (inr zone) = inr (zone.0, zone.1, zone-was zone.0 zone.2)

    place-was : (place : DiskSector) → IsWritable (volume_view start) (now (past_of volume)) chosen place → IsWritable (volume_view start) (now (past_of start)) (and_zones (is_chosen one) chosen) place
    place-was place w = record { sector = w.sector; inside = w.inside; is = w.is; may = sector-was w.sector w.may }

  pub was_writable : WasWritable start volume one
  was_writable chosen place w = place-was chosen place (subst (λ (v : model.Volume). IsWritable v (now (past_of volume)) chosen place) view w)

-- ---- what is written in a row

-- two runs in a row are one, where what is writable between them was writable before
module _ (volume : model.Volume) (one chosen : ℕ → Bool) (old mid new : Option Past) (told : IsTold mid)
    (was : (place : DiskSector) → IsWritable volume (now mid) chosen place → IsWritable volume (now old) (and_zones one chosen) place)
    (first : WritesOnly volume one old mid) (next : WritesOnly volume chosen mid new) where
  zone-more : (zone : ℕ) → (one zone ≡ true) ⊎ IsOfDirectory volume (now old) zone → (and_zones one chosen zone ≡ true) ⊎ IsOfDirectory volume (now old) zone
  zone-more zone (inl picked) = inl (or_right (chosen zone) (one zone) picked)
  zone-more zone (inr of) = inr of

  sector-more : (sector : ℕ) → MayBeWritten volume (now old) one sector → MayBeWritten volume (now old) (and_zones one chosen) sector
  sector-more sector (inl tables) = inl tables
  sector-more sector (inr zone) = inr (zone.0, zone.1, zone-more zone.0 zone.2)

  place-more : (place : DiskSector) → IsWritable volume (now old) one place → IsWritable volume (now old) (and_zones one chosen) place
  place-more place w = record { sector = w.sector; inside = w.inside; is = w.is; may = sector-more w.sector w.may }

  -- in an image all else is as it was
  abbrev Left : Image → Type 0
  Left c = (place : DiskSector) → (IsWritable volume (now old) (and_zones one chosen) place → ⊥) → bytes_at c place ≡ bytes_at (now old) place

  run : LeavesOnly old mid Left
  run = leaves_weaker old mid _ Left first (λ c same place not. same place (λ w. not (place-more place w)))

  now-left : Left (now mid)
  now-left = end_of_run_law Left old mid run (now mid) (at_now mid told)

  join : WritesOnly volume (and_zones one chosen) old new
  join = leaves_join old mid new Left run (leaves_weaker mid new _ Left next (λ c same place not. same place (λ w. not (was place w)) ∙ now-left place not))

module _ {D : Type 0} {disks : Ghosts D} (start volume : Volume D disks) (one : Chosen) (f : IsFreeFile start one) (was : WasMade start volume one) where
  pub writes_join : WritesJoin start volume one
  writes_join chosen later quiet next =
      join (volume_view start) (is_chosen one) chosen (past_of start) (past_of volume) later (was.creates.leads.goes_on.told was.told)
      (λ place w. place-was start volume one f.file was chosen place w)
      ((writes_within start volume one f (record { told = was.told; outer = was.outer; given = was.given; result = Ok tt; creates = was.creates })).only quiet)
      (subst (λ (v : model.Volume). WritesOnly v chosen (past_of volume) later) (same_view start volume was.creates.leads.kept) next)

-- ---- after a run in which no inode gained a zone

module _ (volume : model.Volume) (one chosen : ℕ → Bool) (old mid : Image) (gains : GainsNothing volume old mid) where
  zone-before : (zone : ℕ) → (chosen zone ≡ true) ⊎ IsOfDirectory volume mid zone → (and_zones one chosen zone ≡ true) ⊎ IsOfDirectory volume old zone
  zone-before zone (inl picked) = inl (or_left (chosen zone) (one zone) picked)
  zone-before zone (inr of) = inr (record {
    number = of.number;
    at = of.at;
    refers = gains.refers of.number of.at zone of.refers;
    is = sym (gains.kinds of.number of.refers.named) ∙ of.is;
  })

  sector-before : (sector : ℕ) → MayBeWritten volume mid chosen sector → MayBeWritten volume old (and_zones one chosen) sector
  sector-before sector (inl tables) = inl tables
  sector-before sector (inr zone) = inr (zone.0, zone.1, zone-before zone.0 zone.2)

  place-before : (place : DiskSector) → IsWritable volume mid chosen place → IsWritable volume old (and_zones one chosen) place
  place-before place w = record { sector = w.sector; inside = w.inside; is = w.is; may = sector-before w.sector w.may }

pub gains_join_law : GainsJoinLaw
gains_join_law volume one chosen old mid new told gains first next =
    join volume one chosen old mid new told (place-before volume one chosen (now old) (now mid) gains) first next
