-- The judgment of what is met next, where all before is good.
use Rattle.std.proofs.Common.{◌≡◌, ◌≤◌, ◌<◌, ℕ, ◌==◌, ◌&&◌, ◌||◌, nat_le, nat_lt, Bool, true, false, not, List, [], ◌∷◌, Option, Some, None, Result, Ok, Err, bytes_eq, refl, sym, ◌∙◌, ap, subst, arith, eq-eqb}
use Rattle.std.proofs.lemmas.Bool.{eqb-true}
use Rattle.lilo_model.specs.Checks.{◌>>=◌, require}
use Rattle.lilo_model.specs.MinixFind.{Zone, NotDirectory}
use Rattle.lilo_model.specs.MinixLayout.{Inode, BadSize, FileSize, is_size}
use Rattle.lilo_model.specs.MinixParts.{ZoneFault, Layout, is_directory}
use Rattle.lilo_model.specs.MinixEntries.{Entry, here_name, above_name, is_dots}
use Rattle.lilo_model.specs.MinixNames.{depth_limit}
use Rattle.lilo_model.specs.MinixWalk.{Visit}
use Rattle.lilo_model.specs.MinixSurvey.{Surveyable, Spot, Met, Refers, Reaches, Stands, Ends, SurveyFault, Crossed, Unmarked, UnmarkedInode, BadLink, FewLinks, TooDeep, Tree, owner, has_name, names_of, was_reached, right_inode, crossed, spot_check, zone_check, dots_check, name_check, entry_check, end_check, judge, judged}

implied : (b x : Bool) → (b ≡ true → x ≡ true) → (not b || x) ≡ true
implied true x gives = gives refl
implied false x gives = refl

-- two checks with one refusal
bad-checks : (a b e : Bool) (fault : SurveyFault) (rest : Result (Unit {0}) SurveyFault) → ((a || b) || e) ≡ true
    → (require (not a && not b) fault >>= λ x. require (not e) fault >>= λ y. rest) ≡ Err fault
bad-checks true b e fault rest bad = refl
bad-checks false true e fault rest bad = refl
bad-checks false false true fault rest bad = refl
bad-checks false false false fault rest bad = cc

good-checks : (a b e : Bool) (fault : SurveyFault) (rest : Result (Unit {0}) SurveyFault) → ((a || b) || e) ≡ false
    → (require (not a && not b) fault >>= λ x. require (not e) fault >>= λ y. rest) ≡ rest
good-checks true b e fault rest bad = cc
good-checks false true e fault rest bad = cc
good-checks false false true fault rest bad = cc
good-checks false false false fault rest bad = refl

module _ (volume : Surveyable) (met : List Met) (good : judged volume met ≡ Ok tt) where
  pub judged-next : (next : Met) → judged volume (next ∷ met) ≡ judge volume met next
  unfolding judged
  judged-next next = rw good refl

  -- ---- an inode that is reached

  pub spot-unmarked : (spot : Spot) → volume.parts.has_inode spot.inode ≡ false → judged volume (Reaches spot ∷ met) ≡ Err (UnmarkedInode spot.inode)
  unfolding judge
  spot-unmarked spot off = judged-next (Reaches spot) ∙ rw off refl

  -- what is known of an inode before it is reached
  pub record IsFit (spot : Spot) : Type 0 where
    pub marked : volume.parts.has_inode spot.inode ≡ true
    pub sized : is_size volume.super.kind (volume.parts.node spot.inode).size ≡ true
    pub root : spot.inode ≡ 1 → is_directory (volume.parts.node spot.inode) ≡ true

  spot-fit : (spot : Spot) → IsFit spot
      → judged volume (Reaches spot ∷ met) ≡ require (not (is_directory (volume.parts.node spot.inode)) || nat_le spot.level depth_limit) TooDeep
  unfolding judge
  spot-fit spot fit =
      let sized : (not (spot.inode == 1) || is_size volume.super.kind (volume.parts.node 1).size) ≡ true =
      implied (spot.inode == 1) _ (λ e. subst (λ n. is_size volume.super.kind (volume.parts.node n).size ≡ true) (eqb-true spot.inode 1 e) fit.sized) in
      let root : (not (spot.inode == 1) || is_directory (volume.parts.node 1)) ≡ true =
      implied (spot.inode == 1) _ (λ e. subst (λ n. is_directory (volume.parts.node n) ≡ true) (eqb-true spot.inode 1 e) (fit.root (eqb-true spot.inode 1 e))) in
      judged-next (Reaches spot) ∙ rw (fit.marked, sized, root) refl

  pub spot-good : (spot : Spot) → IsFit spot → (is_directory (volume.parts.node spot.inode) ≡ true → spot.level ≤ 64) → judged volume (Reaches spot ∷ met) ≡ Ok tt
  spot-good spot fit shallow =
      spot-fit spot fit ∙ ap (λ b. require b TooDeep) (implied (is_directory (volume.parts.node spot.inode)) _ (λ is. let low = shallow is in grind arith))

  pub spot-deep : (spot : Spot) → IsFit spot → is_directory (volume.parts.node spot.inode) ≡ true → 64 < spot.level → judged volume (Reaches spot ∷ met) ≡ Err TooDeep
  spot-deep spot fit is deep =
      let high : nat_le spot.level 64 ≡ false = grind arith in
      spot-fit spot fit ∙ rw (is, high) refl

  -- ---- a zone

  pub zone-refused : (inode : ℕ) (fault : ZoneFault) → judged volume (Refers inode (Err fault) ∷ met) ≡ Err (Tree (Zone fault))
  unfolding judge
  zone-refused inode fault = judged-next (Refers inode (Err fault))

  pub zone-unmarked : (inode : ℕ) (visit : Visit) → volume.parts.has_zone visit.zone ≡ false → judged volume (Refers inode (Ok visit) ∷ met) ≡ Err (Unmarked visit.zone)
  unfolding judge
  zone-unmarked inode visit off = judged-next (Refers inode (Ok visit)) ∙ rw off refl

  pub zone-crossed : (inode other : ℕ) (visit : Visit) → volume.parts.has_zone visit.zone ≡ true → owner met visit.zone ≡ Some other
      → judged volume (Refers inode (Ok visit) ∷ met) ≡ Err (Crossed visit.zone other inode)
  unfolding judge
  zone-crossed inode other visit on has = judged-next (Refers inode (Ok visit)) ∙ rw (on, has) refl

  pub zone-good : (inode : ℕ) (visit : Visit) → volume.parts.has_zone visit.zone ≡ true → owner met visit.zone ≡ None
      → judged volume (Refers inode (Ok visit) ∷ met) ≡ Ok tt
  unfolding judge
  zone-good inode visit on none = judged-next (Refers inode (Ok visit)) ∙ rw (on, none) refl

  -- ---- an entry

  pub dots-judged : (spot : Spot) (place : ℕ) (what : Entry) → is_dots what.name ≡ true
      → judged volume (Stands spot place what ∷ met)
      ≡ require ((what.inode == right_inode spot what.name) && not (has_name met spot.inode what.name)) (BadLink spot.inode place)
  unfolding judge
  dots-judged spot place what dots = judged-next (Stands spot place what) ∙ rw dots refl

  name-judged : (spot : Spot) (place : ℕ) (what : Entry) → is_dots what.name ≡ false
      → judged volume (Stands spot place what ∷ met) ≡ name_check volume met spot place what
  unfolding judge
  name-judged spot place what plain = judged-next (Stands spot place what) ∙ rw plain refl

  pub name-far : (spot : Spot) (place : ℕ) (what : Entry) → is_dots what.name ≡ false → volume.super.inodes < what.inode
      → judged volume (Stands spot place what ∷ met) ≡ Err (BadLink spot.inode place)
  name-far spot place what plain far =
      let off : nat_le what.inode volume.super.inodes ≡ false = grind arith in
      name-judged spot place what plain ∙ rw off refl

  pub name-sized : (spot : Spot) (place : ℕ) (what : Entry) → is_dots what.name ≡ false → what.inode ≤ volume.super.inodes
      → is_size volume.super.kind (volume.parts.node what.inode).size ≡ false
      → judged volume (Stands spot place what ∷ met) ≡ Err (Tree (Zone (Layout (BadSize FileSize))))
  name-sized spot place what plain near size =
      let on : nat_le what.inode volume.super.inodes ≡ true = grind arith in
      name-judged spot place what plain ∙ rw (on, size) refl

  -- an inode that is there, of a size that is read
  pub record IsThere (what : Entry) : Type 0 where
    pub plain : is_dots what.name ≡ false
    pub near : what.inode ≤ volume.super.inodes
    pub sized : is_size volume.super.kind (volume.parts.node what.inode).size ≡ true

  -- the last two checks of a name
  abbrev last_checks : Spot → ℕ → Entry → Result (Unit {0}) SurveyFault
  last_checks spot place what = do
    e ← require (not (has_name met spot.inode what.name)) (BadLink spot.inode place)
    require (nat_lt (names_of met what.inode) (volume.parts.node what.inode).links) (FewLinks what.inode)

  -- what is wrong with the inode that is named
  abbrev pub is_bad : Entry → Bool
  is_bad what =
      (((volume.parts.node what.inode).mode == 0) || (what.inode == 1)) || (is_directory (volume.parts.node what.inode) && was_reached met what.inode)

  pub name-bad : (spot : Spot) (place : ℕ) (what : Entry) → IsThere what → is_bad what ≡ true → judged volume (Stands spot place what ∷ met) ≡ Err (BadLink spot.inode place)
  name-bad spot place what there bad =
      let on : nat_le what.inode volume.super.inodes ≡ true = let near = there.near in grind arith in
      name-judged spot place what there.plain ∙ rw (on, there.sized)
      (bad-checks ((volume.parts.node what.inode).mode == 0) (what.inode == 1) (is_directory (volume.parts.node what.inode) && was_reached met what.inode) (BadLink spot.inode place) (last_checks spot place what) bad)

  name-last : (spot : Spot) (place : ℕ) (what : Entry) → IsThere what → is_bad what ≡ false → judged volume (Stands spot place what ∷ met) ≡ last_checks spot place what
  name-last spot place what there bad =
      let on : nat_le what.inode volume.super.inodes ≡ true = let near = there.near in grind arith in
      name-judged spot place what there.plain ∙ rw (on, there.sized)
      (good-checks ((volume.parts.node what.inode).mode == 0) (what.inode == 1) (is_directory (volume.parts.node what.inode) && was_reached met what.inode) (BadLink spot.inode place) (last_checks spot place what) bad)

  pub name-again : (spot : Spot) (place : ℕ) (what : Entry) → IsThere what → is_bad what ≡ false → has_name met spot.inode what.name ≡ true
      → judged volume (Stands spot place what ∷ met) ≡ Err (BadLink spot.inode place)
  name-again spot place what there bad has = name-last spot place what there bad ∙ rw has refl

  pub name-few : (spot : Spot) (place : ℕ) (what : Entry) → IsThere what → is_bad what ≡ false → has_name met spot.inode what.name ≡ false
      → (volume.parts.node what.inode).links ≤ names_of met what.inode → judged volume (Stands spot place what ∷ met) ≡ Err (FewLinks what.inode)
  name-few spot place what there bad has few =
      let off : nat_lt (names_of met what.inode) (volume.parts.node what.inode).links ≡ false = grind arith in
      name-last spot place what there bad ∙ rw (has, off) refl

  pub name-good : (spot : Spot) (place : ℕ) (what : Entry) → IsThere what → is_bad what ≡ false → has_name met spot.inode what.name ≡ false
      → names_of met what.inode < (volume.parts.node what.inode).links → judged volume (Stands spot place what ∷ met) ≡ Ok tt
  name-good spot place what there bad has enough =
      let on : nat_lt (names_of met what.inode) (volume.parts.node what.inode).links ≡ true = grind arith in
      name-last spot place what there bad ∙ rw (has, on) refl

  -- ---- the end of a directory

  pub end-judged : (spot : Spot) (places : ℕ)
      → judged volume (Ends spot places ∷ met) ≡ require (has_name met spot.inode here_name && has_name met spot.inode above_name) (BadLink spot.inode places)
  unfolding judge
  end-judged spot places = judged-next (Ends spot places)

-- ---- tests of the code

-- a directory that is nested too deep, or not
pub deep-true : (directory : Bool) (level : ℕ) → (directory && nat_lt 64 level) ≡ true → (directory ≡ true) × (64 < level)
deep-true true level deep = (refl, grind arith)
deep-true false level deep = cc

pub deep-false : (directory : Bool) (level : ℕ) → (directory && nat_lt 64 level) ≡ false → directory ≡ true → level ≤ 64
deep-false true level deep is = grind arith
deep-false false level deep is = cc

-- a negated test
pub not-false : (b : Bool) → not b ≡ false → b ≡ true
not-false true is = refl
not-false false is = cc

pub not-true : (b : Bool) → not b ≡ true → b ≡ false
not-true true is = cc
not-true false is = refl

-- the code's test of the inode that is named
pub bad-as : (node other : Inode) → node ≡ other → (inode : ℕ) (reached was : Bool) → reached ≡ was → (test : Bool)
    → (((node.mode == 0) || (inode == 1)) || (is_directory node && reached)) ≡ test → (((other.mode == 0) || (inode == 1)) || (is_directory other && was)) ≡ test
bad-as node other same inode reached was is test bad =
    subst
    (λ (n : Inode). (((n.mode == 0) || (inode == 1)) || (is_directory n && was)) ≡ test)
    same
    (subst (λ b. (((node.mode == 0) || (inode == 1)) || (is_directory node && b)) ≡ test) is bad)
