-- The present line, where nothing is written.
use Rattle.std.proofs.Common.{◌≡◌, ◌<◌, ℕ, ◌*◌, Bool, true, false, ◌||◌, List, Some, option_map, refl, ap, ◌∙◌, arith, inl, inr}
use Rattle.lilo_model.specs.Clear.{IsOfZone}
use Rattle.lilo_model.specs.Disks.{Image}
use Rattle.lilo_model.specs.MinixNames.{File, Named, Refers, HasSound, content, thing, names, names_in}
use Rattle.lilo_model.specs.MinixParts.{parts_of, is_directory, is_file, is_link}
use Rattle.session_model.specs.Keeps.{Keeps}
use Rattle.session_model.specs.Site.{Site}
use Rattle.session_model.specs.Step.{LeadsToLine, IsFileAgain}
use Rattle.session_laws.specs.Given.{PresentLineLaw}
use Rattle.session_laws.proofs.Bodies.{line-mapped}
use Rattle.session_laws.proofs.LineWrites.{opened}

only-file : (directory file link : Bool) → (directory || file || link) ≡ true → directory ≡ false → link ≡ false → file ≡ true
only-file false true false some d l = refl
only-file false false false some d l = cc
only-file true file link some d l = cc
only-file false file true some d l = cc

module _ (site : Site) (image : Image) (keeps : Keeps site image) (path : List (List ℕ)) (line : LeadsToLine site image path) where
  abbrev number : ℕ
  number = line.2.number

  named : Named site.volume.layout (parts_of site.volume image) number
  named = record { path = path; leads = line.2.leads }

  refers : Refers site.volume.layout (parts_of site.volume image) number line.2.lies.at line.2.lies.zone
  refers = record { named = named; to = line.2.lies.points }

  sector-inside : (zone sector : ℕ) → zone < site.volume.layout.zones → IsOfZone zone sector → sector < 2 * site.volume.layout.zones
  sector-inside zone sector below (inl at) = omega (arith, below, at)
  sector-inside zone sector below (inr at) = omega (arith, below, at)

  -- the line's sector is of a regular file's data, since the map is Clear and no link has it
  regular : is_file ((parts_of site.volume image).node number) ≡ true
  regular =
      let sound : HasSound site.volume image = opened site.volume image keeps.sound in
      let below = (sound.parts.zone_range number line.2.lies.at line.2.lies.zone refers).1 in
      let listed = line-mapped site image line.0 line.1 in
      let plain = keeps.clear listed.0 line.0 listed.1 line.2.lies.sector (listed.2 ∙ line.2.lies.is) (sector-inside line.2.lies.zone line.2.lies.sector below line.2.lies.of) in
      let parts = plain.zones number line.2.lies.at line.2.lies.zone refers line.2.lies.of in
      let off = keeps.off_links line.0 line.1 number line.2.lies.at line.2.lies.zone line.2.lies.sector refers line.2.lies.of line.2.lies.is in
      let node = (parts_of site.volume image).node number in
      only-file (is_directory node) (is_file node) (is_link node) line.2.lies.points.kind parts.0 off

  is-thing : thing site.volume.layout (parts_of site.volume image) number ≡ File (content site.volume.layout (parts_of site.volume image) number)
  unfolding thing
  is-thing = rw regular refl

  there : names_in site.volume image path ≡ Some (File (content site.volume.layout (parts_of site.volume image) number))
  unfolding names_in names
  there = ap (option_map (thing site.volume.layout (parts_of site.volume image))) line.2.leads ∙ ap Some is-thing

  again : IsFileAgain (names_in site.volume image path) (names_in site.volume image path)
  again = record {
    before = content site.volume.layout (parts_of site.volume image) number;
    after = content site.volume.layout (parts_of site.volume image) number;
    was = there;
    is = there;
    long = refl;
  }

pub present_line_law : PresentLineLaw
present_line_law site image keeps = record {
  body = refl;
  line = refl;
  names = record { others = λ path none. refl; file = λ path line. again site image keeps path line };
}
