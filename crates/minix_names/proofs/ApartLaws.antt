-- A path is apart from a name exactly where its walk doesn't end there.
use Rattle.std.proofs.Common.{◌≡◌, ℕ, ◌==◌, ◌&&◌, Bool, true, false, not, List, [], ◌∷◌, bytes_eq, Some, None, Result, Ok, Err, refl, sym, ◌∙◌, ap, subst}
use Rattle.lilo_model.specs.Disks.{Image}
use Rattle.lilo_model.specs.MinixLayout.{Super}
use Rattle.lilo_model.specs.MinixParts.{Volume, Parts, parts_of, is_directory}
use Rattle.lilo_model.specs.MinixEntries.{here_name, above_name}
use Rattle.lilo_model.specs.MinixFind.{TreeFault, find_in}
use Rattle.lilo_model.specs.MinixNames.{reached, names, names_in, then_lookup, Sound, HasSound, IsSound}
use Rattle.lilo_model.specs.MinixFindNames.{path_above}
use Rattle.lilo_model.specs.NamePlaces.{plain_path}
use Rattle.lilo_model.specs.Apart.{is_same_inode, is_apart_path}
use Rattle.minix_names.specs.Ends.{PathEnd, At, Misses, path_end}
use Rattle.minix_names.specs.Laws.{ends_at_name, ApartLaw}
use Rattle.minix_names.proofs.LinkLemmas.{whole-zones}
use Rattle.minix_names.proofs.FindEnds.{EndsLike, path-like}
use Rattle.minix_names.proofs.EndLaws.{absent-law}

-- ---- where something is at the name

there-by : (super : Super) (parts : Parts) (directory : ℕ) (name : List ℕ) (number : ℕ) (end : Result PathEnd TreeFault) (found : Result ℕ TreeFault)
    → EndsLike super parts end found → is_same_inode (Some number) found ≡ ends_at_name directory name (Some number) end
there-by super parts directory name number (Ok (At inode)) (Ok other) h = ap (λ (n : ℕ). number == n) (sym h)
there-by super parts directory name number (Ok (At inode)) (Err fault) h = absurd h
there-by super parts directory name number (Ok (Misses holder missed)) (Ok other) h = absurd h
there-by super parts directory name number (Ok (Misses holder missed)) (Err fault) h = refl
there-by super parts directory name number (Err fault) (Ok other) h = absurd h
there-by super parts directory name number (Err fault) (Err other) h = refl

-- ---- where nothing is

module _ (super : Super) (parts : Parts) (sound : Sound super parts) where
  -- `.` and `..` of a directory are there
  here-there : (above : List (List ℕ)) (name : List ℕ) (directory : ℕ) (here : Bool) → bytes_eq here_name name ≡ here
      → reached super parts above ≡ Some directory → reached super parts (plain_path (name ∷ above)) ≡ None → here ≡ false
  here-there above name directory true is leads none =
      let e : reached super parts above ≡ None = rw is at none in
      cc
  here-there above name directory false is leads none = refl

  above-leads : (above : List (List ℕ)) (directory : ℕ) → reached super parts above ≡ Some directory → reached super parts (path_above above) ≡ None → ⊥
  unfolding reached
  above-leads [] directory leads none = cc
  above-leads (name ∷ path) directory leads none = let e : then_lookup super parts name (reached super parts path) ≡ None = ap (then_lookup super parts name) none in cc

  up-there : (above : List (List ℕ)) (name : List ℕ) (directory : ℕ) (up : Bool) → bytes_eq here_name name ≡ false → bytes_eq above_name name ≡ up
      → reached super parts above ≡ Some directory → reached super parts (plain_path (name ∷ above)) ≡ None → up ≡ false
  up-there above name directory true is_here is leads none = absurd (above-leads above directory leads (rw (is_here, is) at none))
  up-there above name directory false is_here is leads none = refl

  plain-is : (above : List (List ℕ)) (name : List ℕ) → bytes_eq here_name name ≡ false → bytes_eq above_name name ≡ false → plain_path (name ∷ above) ≡ name ∷ above
  plain-is above name here up = rw (here, up) refl

-- ---- in an image

module _ (volume : Volume) (image : Image) (text : List ℕ) where
  abbrev the_parts : Parts
  the_parts = parts_of volume image

  abbrev end_of_text : Result PathEnd TreeFault
  end_of_text = path_end volume.layout the_parts text

  -- something is there
  present : (path : List (List ℕ)) (directory : ℕ) (name : List ℕ) (number : ℕ) → reached volume.layout the_parts (plain_path path) ≡ Some number
      → is_apart_path image volume text path ≡ not (ends_at_name directory name (Some number) end_of_text)
  unfolding is_apart_path names_in names
  present path directory name number is =
      rw is (and-true (is_same_inode (Some number) (find_in image volume text))
      ∙ ap not (there-by volume.layout the_parts directory name number end_of_text (find_in image volume text) (path-like volume.layout the_parts text)))
    where
      and-true : (test : Bool) → (not test && not false) ≡ not test
      and-true true = refl
      and-true false = refl

  -- nothing is
  missing : HasSound volume image → (above : List (List ℕ)) (directory : ℕ) (name : List ℕ) → reached volume.layout the_parts above ≡ Some directory
      → is_directory (the_parts.node directory) ≡ true → reached volume.layout the_parts (plain_path (name ∷ above)) ≡ None
      → is_apart_path image volume text (name ∷ above) ≡ not (ends_at_name directory name None end_of_text)
  unfolding is_apart_path names_in names
  missing sound above directory name leads is none =
      let here = here-there volume.layout the_parts sound.parts above name directory (bytes_eq here_name name) refl leads none in
      let up = up-there volume.layout the_parts sound.parts above name directory (bytes_eq above_name name) here refl leads none in
      let plain = plain-is volume.layout the_parts sound.parts above name here up in
      let absent : reached volume.layout the_parts (name ∷ above) ≡ None = ap (reached volume.layout the_parts) (sym plain) ∙ none in
      rw none
      (ap not (absent-law volume.layout the_parts sound.parts (whole-zones volume image sound) above directory name leads is here up absent text))

pub apart_law : ApartLaw
unfolding IsSound
apart_law volume image text path directory name (Some number) sound place is = present volume image text path directory name number is
apart_law volume image text path directory name None sound place is =
    let P : List (List ℕ) → Type 0 = λ p. reached volume.layout (parts_of volume image) (plain_path p) ≡ None in
    let Q : List (List ℕ) → Type 0 = λ p. is_apart_path image volume text p ≡ not (ends_at_name directory name None (path_end volume.layout (parts_of volume image) text)) in
    subst Q (sym place.is)
    (missing volume image text sound place.above directory name place.there.leads place.there.is (subst P place.is is))
