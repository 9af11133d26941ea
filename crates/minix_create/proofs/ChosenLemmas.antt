-- What suits a volume.
use Rattle.std.proofs.Common.{◌≡◌, ◌≢◌, ◌≤◌, ◌<◌, ◌^◌, ◌/◌, ℕ, true, false, Bool, List, [], length, get_or, take, drop, replicate, All, None, Ok, sym, ap, ◌∙◌, subst, arith}
use Rattle.std.specs.Prelude.{slice_index}
use Rattle.std.proofs.Math.Path.{subst₂}
use Rattle.std.proofs.lemmas.List.{get_or-replicate}
use Rattle.disk_trait.specs.declared.disks.Disks.{Ghosts}
use Rattle.disk_trait.specs.Past.{Told}
use Rattle.disk_trait.specs.Moments.{IsTold, now}
use Rattle.disk_trait.proofs.MomentLemmas.{told_now}
use Rattle.lilo_model.specs.MinixEntries.{entries_per_block, places, is_dots}
use Rattle.lilo_model.specs.MinixNames.{entry, lookup}
use Rattle.lilo_model.specs.MinixLayout.{Kind, is_size, numbers_in_zone, reach}
use Rattle.lilo_model.specs.MinixParts.{blocks_for, parts_of}
use Rattle.minix_steps.proofs.BitmapLemmas.{fits}
use Rattle.minix_choice_laws.proofs.Choose.{blocks_length, choice_law, file_law}
use Rattle.minix_choice_laws.specs.Apart.{IsHeld, AreApart}
use Rattle.minix_choice_laws.proofs.Apart.{held_law, held_stays_law, apart_law}
use Rattle.minix_choice_laws.proofs.Growth.{free_growth_law, promises_law}
use Rattle.minix_choice_laws.proofs.Place.{place_law}
use Rattle.minix_choice_laws.proofs.Chosen.{few_by}
use Rattle.minix_choice_laws.proofs.Given.{given_length, given_at, count_before}
use Rattle.minix_choice_laws.specs.Sources.{FileZones}
use Rattle.minix_grow.specs.Way.{depth_of, number_above}
use Rattle.minix_grow.proofs.MissingLemmas.{growth_law}
use Rattle.minix_layout.specs.View.{kind_view, super_view}
use Rattle.minix_change_laws.proofs.Seen.{opened}
use Rattle.minix_steps.specs.Written.{parts_now}
use Rattle.minix_layout.specs.declared.superblock.Super.{Super}
use Rattle.minix_tree.proofs.StatLemmas.{blocks_reached}
use Rattle.minix_change_laws.specs.Written.{FitsEntry}
use Rattle.minix_choice.specs.Suits.{SuitsWish}
use Rattle.minix_choice.specs.declared.wish.Wish.{Wish}
use Rattle.minix_choice.specs.Taken.{with_choice}
use Rattle.minix_choice.specs.View.{Promised, taken_view}
use Rattle.minix_zones.specs.Volume.{volume_view, past_of}
use Rattle.minix_zones.specs.declared.volume.Volume.{Volume}
use Rattle.disk_trait.specs.declared.disks.Span.{Span}
use Rattle.write_model.specs.Choice.{choose, file_need, taken_with}
use Rattle.write_model.specs.FileZones.{count_made, data_blocks, made_indirect}
use Rattle.write_model.specs.Places.{most_places}
use Rattle.write_model.specs.Wish as model
use Rattle.write_model.specs.Wish.{Taken}
use Rattle.minix_create.specs.Chosen.{Suits, IsPromisedNow, IsFreeWhereSound, LinksWhereSound}
use Rattle.minix_create.specs.Several.{PromisesMore, PromisesWhereFree}
use Rattle.minix_create.specs.declared.chosen.Chosen.{Chosen}
use Rattle.minix_create.proofs.TakenLemmas.{taken_as, promised_as, held_as}

-- an inode can name the blocks
pub few_blocks : (layout : Super) (span : Span) (chosen : Chosen) → Suits layout span chosen → blocks_for chosen.length ≤ reach (kind_view layout.kind)
few_blocks layout span chosen suits = blocks_reached (kind_view layout.kind) chosen.length suits.small suits.sized

-- and there are as few indirect zones
pub few_indirect : (layout : Super) (span : Span) (chosen : Chosen) → Suits layout span chosen → length chosen.choice.indirect ≤ reach (kind_view layout.kind)
few_indirect layout span chosen suits =
    let kind : Kind = kind_view layout.kind in
    let few = few_by kind suits.made (let m = suits.many in let b = few_blocks layout span chosen suits in omega (arith, m, b)) in
    let long = given_length (made_indirect (numbers_in_zone kind) suits.made) (drop (count_made suits.made) chosen.choice.zones) in
    let same : length chosen.choice.indirect ≡ length (made_indirect (numbers_in_zone kind) suits.made) = ap length suits.file.indirect_are ∙ long in
    omega (arith, few, same)

-- ---- what may be done with a choice

module _ {D : Type 0} {disks : Ghosts D} (volume : Volume D disks) (taken : Promised) (wish : model.Wish) (chosen : Chosen) (suits : Suits volume.layout volume.span chosen)
    (is : Told (past_of volume) (λ image. choose (super_view volume.layout) (parts_of (volume_view volume) image) (taken_view taken) wish ≡ Ok chosen.choice)) where
  chosen_now : IsTold (past_of volume) → choose (super_view volume.layout) (parts_now volume) (taken_view taken) wish ≡ Ok chosen.choice
  chosen_now told = told_now (past_of volume) (λ image. choose (super_view volume.layout) (parts_of (volume_view volume) image) (taken_view taken) wish ≡ Ok chosen.choice) is told

  first_some : 0 < volume.layout.first
  first_some = let behind = (fits (super_view volume.layout) volume.span.count volume.whole.passes).behind in omega (arith, behind)

  -- its name is free there
  record IsFreeThere : Type 0 where
    pub plain : is_dots chosen.name ≡ false
    pub absent : lookup (super_view volume.layout) (parts_now volume) chosen.name chosen.directory ≡ None
    pub free : chosen.choice.place < places (kind_view volume.layout.kind) ((parts_now volume).node chosen.directory).size → (entry (super_view volume.layout) (parts_now volume) chosen.directory chosen.choice.place).inode ≡ 0
    pub near : places (kind_view volume.layout.kind) ((parts_now volume).node chosen.directory).size ≤ chosen.choice.place → chosen.choice.place < most_places (kind_view volume.layout.kind)

  free_name : wish.directory ≡ chosen.directory → wish.name ≡ chosen.name → (outer : List (List ℕ)) → IsTold (past_of volume) → IsPromisedNow volume (taken_view taken) outer chosen → IsFreeThere
  free_name in_it named outer told needs =
      let it : model.Wish = record wish { directory = chosen.directory; name = chosen.name } in
      let O : ℕ → List ℕ → Type 0 = λ d n. choose (super_view volume.layout) (parts_now volume) (taken_view taken) (record wish { directory = d; name = n }) ≡ Ok chosen.choice in
      let parts = (opened (volume_view volume) (now (past_of volume)) needs.sound).parts in
      let name = place_law (super_view volume.layout) (parts_now volume) (taken_view taken) it chosen.choice parts (record { path = outer; leads = needs.leads }) needs.is needs.seen (subst₂ O in_it named (chosen_now told)) in
      record { plain = name.plain; absent = name.absent; free = name.free; near = name.near }

  pub is_free : wish.directory ≡ chosen.directory → wish.name ≡ chosen.name → wish.length ≡ chosen.length → IsFreeWhereSound volume (taken_view taken) chosen
  is_free in_it named long outer told needs =
      let parts = (opened (volume_view volume) (now (past_of volume)) needs.sound).parts in
      let free = choice_law (super_view volume.layout) (parts_now volume) (taken_view taken) wish chosen.choice first_some (chosen_now told) in
      let few = few_blocks volume.layout volume.span chosen suits in
      let F : ℕ → Type 0 = λ n. blocks_for n ≤ reach (kind_view volume.layout.kind) in
      let growth = free_growth_law (super_view volume.layout) (parts_now volume) (taken_view taken) wish chosen.choice first_some needs.promised (chosen_now told) in
      let name = free_name in_it named outer told needs in
      let E : ℕ → Type 0 = λ d. (level : ℕ) → level ≤ depth_of (kind_view volume.layout.kind) (chosen.choice.place / entries_per_block (kind_view volume.layout.kind))
      → number_above (super_view volume.layout) (parts_now volume) d (chosen.choice.place / entries_per_block (kind_view volume.layout.kind)) level ≡ 0 → level < length chosen.choice.growth in
      record {
        sound = needs.sound;
        file = file_law (super_view volume.layout) (parts_now volume) (taken_view taken) wish chosen.choice first_some (subst F (sym long) few) (chosen_now told);
        inode = free.unmarked;
        zones = λ i inside. (free.free i inside).unmarked;
        grows = record {
          sound = needs.sound;
          named = record { path = outer; leads = needs.leads };
          is = needs.is;
          reaches = needs.reached;
          free = name.free;
          near = name.near;
          growth_is = record {
            from = growth.from;
            below = growth.below;
            apart = growth.apart;
            enough = subst E in_it (λ level. growth_law (super_view volume.layout) (parts_now volume) (taken_view taken) wish chosen.choice level (chosen_now told));
            unused = λ level low hole number at refers. let set = parts.zone_marked number at _ refers in let clear = growth.unmarked level low in cc;
          };
        };
        clear = growth.clear;
      }

  -- a file without holes gets a zone for each block
  pub each_zone : chosen.length ≡ wish.length → IsTold (past_of volume) → wish.holes ≡ [] → (index : ℕ) → index < blocks_for chosen.length → slice_index chosen.choice.blocks index ≢ 0
  unfolding data_blocks file_need
  each_zone long told none index low =
      let free = choice_law (super_view volume.layout) (parts_now volume) (taken_view taken) wish chosen.choice first_some (chosen_now told) in
      let made : List Bool = data_blocks wish.length wish.holes in
      let all : made ≡ replicate (blocks_for wish.length) true = ap (data_blocks wish.length) none in
      let same : blocks_for chosen.length ≡ blocks_for wish.length = ap blocks_for long in
      let one : get_or made index false ≡ true = ap (λ blocks. get_or blocks index false) all ∙ get_or-replicate (blocks_for wish.length) index true false (omega (arith, same, low)) in
      let before = count_before made index one in
      let enough = free.enough in
      let is : slice_index chosen.choice.blocks index ≡ slice_index chosen.choice.zones (count_made (take index made)) =
      ap (λ (zones : FileZones). slice_index zones.blocks index) free.file ∙ given_at made chosen.choice.zones index one in
      λ zero. free.rising.some (count_made (take index made)) (omega (arith, before, enough)) (sym is ∙ zero)

  -- and what it has in common with what was chosen before
  pub promises_more : wish.directory ≡ chosen.directory → (new : Promised) → new ≡ with_choice taken wish.directory chosen.choice → PromisesWhereFree volume (taken_view taken) (taken_view new) chosen
  promises_more in_it new taken_is told promised =
      let now_is = chosen_now told in
      let same = taken_as taken wish.directory chosen.choice in
      let One : Taken = taken_view (with_choice taken wish.directory chosen.choice) in
      let Other : Taken = taken_with (taken_view taken) wish.directory chosen.choice in
      let N : Promised → Type 0 = λ t. PromisesMore volume (taken_view taken) (taken_view t) chosen in
      let H : ℕ → Type 0 = λ d. IsHeld Other d chosen.choice in
      subst N (sym taken_is)
      (record {
        promised = promised_as One Other same (super_view volume.layout) (parts_now volume) (promises_law (super_view volume.layout) (parts_now volume) (taken_view taken) wish chosen.choice first_some promised now_is);
        held = held_as One Other same chosen.directory chosen.choice (subst H in_it (held_law (super_view volume.layout) (parts_now volume) (taken_view taken) wish chosen.choice first_some promised now_is));
        stays = λ one held.
            held_as One Other same one.directory one.choice
            (held_stays_law (super_view volume.layout) (parts_now volume) (taken_view taken) wish chosen.choice one.directory one.choice first_some promised now_is held);
        apart = λ one held.
            let A : ℕ → Type 0 = λ d. AreApart (kind_view volume.layout.kind) one.directory one.choice d chosen.choice in
            subst A in_it (apart_law (super_view volume.layout) (parts_now volume) (taken_view taken) wish chosen.choice one.directory one.choice first_some promised now_is held);
      })

  pub links : wish.directory ≡ chosen.directory → wish.name ≡ chosen.name → LinksWhereSound volume (taken_view taken) chosen
  links in_it named outer told needs =
      let name = free_name in_it named outer told needs in
      record { leads = needs.leads; is = needs.is; reaches = needs.reached; plain = name.plain; absent = name.absent; free = name.free; near = name.near }

-- what is answered suits the volume
pub suits_made : (layout : Super) (span : Span) (wish : Wish) (chosen : Chosen) → chosen.name ≡ wish.name.now → chosen.length ≡ wish.length → chosen.directory ≡ wish.directory → chosen.start ≡ span.start
    → wish.length < 2 ^ 32 → 1 ≤ wish.directory → wish.directory ≤ layout.inodes → All (λ byte. byte ≢ 0) wish.name.now → is_size (kind_view layout.kind) wish.length ≡ true
    → SuitsWish layout wish chosen.choice → Suits layout span chosen
suits_made layout span wish chosen named long in_it begins small in_some in_there no_zero sized suits = record {
  name = let P : List ℕ → Type 0 = λ name. FitsEntry (kind_view layout.kind) name in subst P (sym named) (record { short = suits.short; no_zero = no_zero });
  sized = let P : ℕ → Type 0 = λ n. is_size (kind_view layout.kind) n ≡ true in subst P (sym long) sized;
  small = let P : ℕ → Type 0 = λ n. n < 2 ^ 32 in subst P (sym long) small;
  in_some = let P : ℕ → Type 0 = λ n. 1 ≤ n in subst P (sym in_it) in_some;
  in_there = let P : ℕ → Type 0 = λ n. n ≤ layout.inodes in subst P (sym in_it) in_there;
  some = suits.some;
  there = suits.there;
  are_data = suits.are_data;
  made = data_blocks wish.length wish.holes.now;
  many = let P : ℕ → Type 0 = λ n. length (data_blocks wish.length wish.holes.now) ≡ blocks_for n in subst P (sym long) (blocks_length wish.length wish.holes.now);
  file = suits.file;
  begins = begins;
}
