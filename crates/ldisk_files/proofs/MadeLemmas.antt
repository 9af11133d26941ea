-- What was chosen may be made, of these blocks.
use Rattle.std.proofs.Common.{◌≡◌, ◌≢◌, ◌≤◌, ◌-◌, ◌*◌, ◌++◌, ℕ, suc, Bool, true, false, List, [], ◌∷◌, length, take, replicate, Some, Result, Ok, Err, refl, sym, ◌∙◌, ap, subst, inl, inr, arith}
use Rattle.std.specs.Prelude.{slice_index, nat_le}
use Rattle.lilo_model.specs.Checks.{require}
use Rattle.std.proofs.lemmas.Bool.{leb-true, le-leb, ne_eqb}
use Rattle.std.proofs.Math.Seq.{take-append_seam}
use Rattle.disk_trait.specs.declared.disks.Disks.{Ghosts}
use Rattle.disk_trait.specs.declared.disks.Span.{Span}
use Rattle.disk_trait.specs.Moments.{IsTold, now}
use Rattle.disk_trait.specs.Past.{Image}
use Rattle.lilo_model.specs.MinixLayout.{Inode, Kind, V1Short, V1Long, V2Short, V2Long, entry_size, is_size, v1_limit, reach}
use Rattle.lilo_model.specs.MinixNames.{Link, depth_limit, blocks, IsSound}
use Rattle.lilo_model.specs.MinixParts as model
use Rattle.lilo_model.specs.MinixParts.{parts_of, blocks_for, is_directory}
use Rattle.minix_choice_laws.specs.Choice.{MayHavePlace, file_of}
use Rattle.minix_create.specs.Chosen.{Suits, HasDots, IsFreeNow, MayBeMade, MayNest, IsPromisedNow, block_of, block_with, content_with, new_inode, thing_with}
use Rattle.minix_create.specs.Grown.{MayGrowIn}
use Rattle.minix_create.specs.declared.chosen.Chosen.{Chosen}
use Rattle.minix_choice_laws.specs.FillLaws.{MayBeFile}
use Rattle.minix_choice_laws.proofs.Given.{given_length}
use Rattle.minix_layout.specs.View.{kind_view, inode_view}
use Rattle.minix_layout.specs.declared.superblock.Super as layouts
use Rattle.minix_names.specs.declared.place.NamePlace.{NamePlace}
use Rattle.minix_tree.specs.View.{IsStat}
use Rattle.minix_zones.specs.Volume.{volume_view, past_of, Syncs}
use Rattle.minix_zones.specs.declared.zone_fault.ZoneFault.{ZoneFault}
use Rattle.minix_zones.specs.declared.zone_fault.ZoneFault.TheVariants as zones
use Rattle.minix_zones.specs.declared.volume.Volume.{Volume}
use Rattle.write_model.specs.Places.{is_overlooked}
use Rattle.ldisk_model.specs.FileVerdict as makings
use Rattle.ldisk_model.specs.FileVerdict.{NewDirectory, NewLink, TooDeep, nothing_taken, checked_status, making_check, size_made, thing_made}
use Rattle.ldisk_files.specs.Made.{IsNewPlace, IsShort, IsFirstBlock, KeepsHoles, LacksGrowth, MayMake, MayMakeSome, making_view, mode_made}
use Rattle.ldisk_files.specs.declared.making.Making.{Making}
use Rattle.ldisk_files.specs.declared.making.Making.TheVariants as declared
use Rattle.ldisk_files.proofs.FlushLemmas.{flushed-view}
use Rattle.ldisk_files.proofs.RoomLemmas.{passes-unit}

-- ---- the same volume at another moment

module _ {D : Type 0} {disks : Ghosts D} (old new : Volume D disks) (view : volume_view new ≡ volume_view old) (held : now (past_of new) ≡ now (past_of old)) where
  back : (P : model.Volume → Image → Type 0) → P (volume_view new) (now (past_of new)) → P (volume_view old) (now (past_of old))
  back P is = subst (λ (i : Image). P (volume_view old) i) held (subst (λ (v : model.Volume). P v (now (past_of new))) view is)

  module _ (chosen : Chosen) where
    free-as : IsFreeNow new chosen → IsFreeNow old chosen
    free-as free = record {
      sound = back (λ v i. IsSound v i) free.sound;
      file = back (λ v i. MayBeFile v.layout.kind (file_of chosen.choice)) free.file;
      inode = back (λ v i. (parts_of v i).has_inode chosen.choice.inode ≡ false) free.inode;
      zones = λ k low. back (λ v i. (parts_of v i).has_zone (slice_index chosen.choice.zones k) ≡ false) (free.zones k low);
      grows = back (λ v i. MayGrowIn v i chosen.directory chosen.choice.place chosen.choice.growth) free.grows;
      clear = free.clear;
    }

    pub may-as : (outer : List (List ℕ)) (making : makings.Making) (given : List (List ℕ)) → MayMake new outer making chosen given → MayMake old outer making chosen given
    may-as outer making given may = record {
      free = free-as may.free;
      links = back (λ v i. MayHavePlace v i outer chosen.directory chosen.choice.place chosen.name) may.links;
      nests = may.nests;
      mode = may.mode;
      made = back (λ v i. MayBeMade v.layout.kind chosen (block_of given)) may.made;
      is = may.is;
      holes = may.holes;
      each = may.each;
      lacks = back (λ v i. LacksGrowth v i chosen) may.lacks;
    }

-- the same once what was written before is durable
pub some-forth : {D : Type 0} {disks : Ghosts D} (old mid : Volume D disks) (first : Result (Unit {0}) ZoneFault) → Syncs old mid zones.Device first → (chosen : Chosen) (blocks : List (List ℕ))
    → (IsTold (past_of old) → MayMakeSome old chosen blocks) → IsTold (past_of mid) → MayMakeSome mid chosen blocks
some-forth old mid first syncs chosen blocks may told =
    let some = may (syncs.flushes.goes_on.told_before told) in
    record {
      outer = some.outer;
      making = some.making;
      may = may-as mid old (sym (flushed-view old mid first syncs)) (sym syncs.flushes.same_now) chosen some.outer some.making blocks some.may;
    }

-- ---- what is promised where nothing is taken

pub promised-now : {D : Type 0} {disks : Ghosts D} (volume : Volume D disks) (outer : List (List ℕ)) (place : NamePlace) (chosen : Chosen)
    → IsSound (volume_view volume) (now (past_of volume)) → IsNewPlace (volume_view volume) (now (past_of volume)) outer place → IsStat volume.layout place.directory
    → inode_view place.directory.node ≡ (parts_of (volume_view volume) (now (past_of volume))).node place.directory.inode → chosen.directory ≡ place.directory.inode
    → IsPromisedNow volume nothing_taken outer chosen
unfolding is_overlooked
promised-now volume outer place chosen sound new stat node in_it =
    let V = volume_view volume in
    let I = now (past_of volume) in
    record {
      sound = sound;
      leads = new.there.leads ∙ ap Some (sym in_it);
      is = subst (λ (d : ℕ). is_directory ((parts_of V I).node d) ≡ true) (sym in_it) new.there.is;
      reached = subst (λ (d : ℕ). blocks_for ((parts_of V I).node d).size ≤ reach (kind_view volume.layout.kind)) (sym in_it)
          (subst (λ (n : Inode). blocks_for n.size ≤ reach (kind_view volume.layout.kind)) node stat.reached);
      seen = refl;
      promised = record {
        zones = λ promise level there low. absurd (let none = there.1 in omega (arith, none));
        steps = λ one other level there first second low high same. absurd (let none = first.1 in omega (arith, none));
      };
    }

-- ---- its block

-- only a file has holes
pub no-holes-kept : (making : Making) (chosen : Chosen) → KeepsHoles (making_view making) chosen
no-holes-kept declared.Directory chosen = tt
no-holes-kept (declared.Link target) chosen = tt

-- it is a size that a volume can have
pub size-fits : (kind : Kind) (making : Making) → IsShort (making_view making) → is_size kind (size_made kind (making_view making)).bytes ≡ true
size-fits V1Short declared.Directory short = refl
size-fits V1Long declared.Directory short = refl
size-fits V2Short declared.Directory short = refl
size-fits V2Long declared.Directory short = refl
size-fits V1Short (declared.Link target) short = let few = short.1 in rw (le-leb (length target.now) v1_limit (omega (arith, few))) refl
size-fits V1Long (declared.Link target) short = let few = short.1 in rw (le-leb (length target.now) v1_limit (omega (arith, few))) refl
size-fits V2Short (declared.Link target) short = refl
size-fits V2Long (declared.Link target) short = refl

-- it has no more than one
kind-blocks : (kind : Kind) → blocks_for (2 * entry_size kind) ≡ 1
kind-blocks V1Short = refl
kind-blocks V1Long = refl
kind-blocks V2Short = refl
kind-blocks V2Long = refl

pub one-block : (kind : Kind) (making : Making) → IsShort (making_view making) → blocks_for (size_made kind (making_view making)).bytes ≡ 1
one-block kind declared.Directory short = kind-blocks kind
one-block kind (declared.Link target) short = let some = short.0 in let few = short.1 in omega (arith, some, few)

pub few-blocks : (layout : layouts.Super) (span : Span) (chosen : Chosen) → Suits layout span chosen → blocks_for chosen.length ≡ 1 → length chosen.choice.blocks ≤ 1
few-blocks layout span chosen suits one =
    let same : length chosen.choice.blocks ≡ length suits.made = ap length suits.file.blocks_are ∙ given_length suits.made chosen.choice.zones in
    let many = suits.many in
    omega (arith, same, many, one)

module _ (kind : Kind) (chosen : Chosen) (block : List ℕ) (some : slice_index chosen.choice.blocks 0 ≢ 0) where
  block-is : block_with chosen.choice.blocks (block_of (block ∷ [])) 0 ≡ block
  block-is = rw (ne_eqb (slice_index chosen.choice.blocks 0) 0 some) refl

  content-is : blocks_for chosen.length ≡ 1 → content_with chosen (block_of (block ∷ [])) ≡ take chosen.length block
  content-is one = ap (λ (n : ℕ). take chosen.length (blocks (block_with chosen.choice.blocks (block_of (block ∷ []))) n)) one ∙ ap (take chosen.length) block-is

  -- a directory
  module _ (mode : chosen.mode ≡ 16877) where
    pub directory-may : chosen.length ≡ 2 * entry_size kind → HasDots kind block chosen.choice.inode chosen.directory → MayBeMade kind chosen (block_of (block ∷ []))
    directory-may two dots = inr record {
      is = rw mode refl;
      two = two;
      dots = subst (λ (bytes : List ℕ). HasDots kind bytes chosen.choice.inode chosen.directory) (sym block-is) dots;
    }

    pub directory-is : thing_with chosen (block_of (block ∷ [])) ≡ thing_made NewDirectory
    directory-is = rw mode refl

  -- a link
  module _ (mode : chosen.mode ≡ 41471) where
    pub link-may : MayBeMade kind chosen (block_of (block ∷ []))
    link-may = inl record { file = rw mode refl; mode = λ none. let no = sym mode ∙ none in cc; some_link = rw mode (omega arith) }

    pub link-is : (target : List ℕ) → 1 ≤ length target → length target ≤ 1023 → chosen.length ≡ length target → block ≡ target ++ replicate (1024 - length target) 0
        → thing_with chosen (block_of (block ∷ [])) ≡ thing_made (NewLink target)
    link-is target least most long is =
        let one : blocks_for chosen.length ≡ 1 = omega (arith, least, most, long) in
        let bytes : content_with chosen (block_of (block ∷ [])) ≡ target =
        content-is one ∙ (ap (λ (n : ℕ). take n block) long ∙ (ap (take (length target)) is ∙ take-append_seam target (replicate (1024 - length target) 0))) in
        let thing : thing_with chosen (block_of (block ∷ [])) ≡ Link (content_with chosen (block_of (block ∷ []))) = rw mode refl in
        thing ∙ ap Link bytes

-- ---- all of it

require-holds : {F : Type 0} (test : Bool) (why : F) → require test why ≡ Ok tt → test ≡ true
require-holds true why is = refl
require-holds false why is = absurd (let no : Err why ≡ Ok tt = is in cc)

pub nests-by : (outer : List (List ℕ)) (name : List ℕ) (making : Making) (chosen : Chosen) → chosen.mode ≡ mode_made (making_view making)
    → checked_status (making_check (making_view making) (name ∷ outer)) ≡ 0 → MayNest outer chosen
nests-by outer name declared.Directory chosen mode fits = λ is.
    let passes = passes-unit (making_check NewDirectory (name ∷ outer)) fits in
    leb-true (suc (length outer)) depth_limit (require-holds (nat_le (suc (length outer)) depth_limit) TooDeep passes)
nests-by outer name (declared.Link target) chosen mode fits = λ is. absurd (let no : is_directory (new_inode chosen) ≡ false = rw mode refl in let e = sym no ∙ is in cc)

module _ (kind : Kind) (making : Making) (chosen : Chosen) (block : List ℕ) (some : slice_index chosen.choice.blocks 0 ≢ 0) (short : IsShort (making_view making))
    (mode : chosen.mode ≡ mode_made (making_view making)) (long : chosen.length ≡ (size_made kind (making_view making)).bytes)
    (first : IsFirstBlock kind (making_view making) chosen.choice.inode chosen.directory block) where
  pub made-by : MayBeMade kind chosen (block_of (block ∷ []))
  made-by = by making refl
    where
      by : (m : Making) → making ≡ m → MayBeMade kind chosen (block_of (block ∷ []))
      by declared.Directory is = directory-may kind chosen block some (subst (λ (n : Making). chosen.mode ≡ mode_made (making_view n)) is mode)
          (subst (λ (n : Making). chosen.length ≡ (size_made kind (making_view n)).bytes) is long)
          (subst (λ (n : Making). IsFirstBlock kind (making_view n) chosen.choice.inode chosen.directory block) is first)
      by (declared.Link target) is = link-may kind chosen block some (subst (λ (n : Making). chosen.mode ≡ mode_made (making_view n)) is mode)

  pub thing-by : thing_with chosen (block_of (block ∷ [])) ≡ thing_made (making_view making)
  thing-by = by making refl
    where
      by : (m : Making) → making ≡ m → thing_with chosen (block_of (block ∷ [])) ≡ thing_made (making_view making)
      by declared.Directory is = directory-is kind chosen block some (subst (λ (n : Making). chosen.mode ≡ mode_made (making_view n)) is mode) ∙ ap (λ (n : Making). thing_made (making_view n)) (sym is)
      by (declared.Link target) is =
          let fits = subst (λ (n : Making). IsShort (making_view n)) is short in
          link-is kind chosen block some (subst (λ (n : Making). chosen.mode ≡ mode_made (making_view n)) is mode) target.now fits.0 fits.1
          (subst (λ (n : Making). chosen.length ≡ (size_made kind (making_view n)).bytes) is long)
          (subst (λ (n : Making). IsFirstBlock kind (making_view n) chosen.choice.inode chosen.directory block) is first)
          ∙ ap (λ (n : Making). thing_made (making_view n)) (sym is)
