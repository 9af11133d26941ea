-- Where a survey is done, the places that name an inode are its names.
use Rattle.std.proofs.Common.{◌≡◌, ◌≤◌, length, sym, ◌∙◌, arith}
use Rattle.minix_survey_laws.specs.Survey.{NamesAt, AllName}
use Rattle.minix_survey_laws.specs.Count.{IsJudged}
use Rattle.minix_survey_laws.specs.Laws.{AreNamed, NamesLaw}
use Rattle.minix_survey_laws.proofs.Count.{each-of, links_law}
use Rattle.minix_survey_laws.proofs.Paths.{sound-of, places-of}
use Rattle.minix_survey_laws.proofs.Seen.{seen-named}
use Rattle.minix_survey_laws.proofs.Facts.{paths-of}

pub names_law : NamesLaw
names_law super parts seen level judged inode count done found are other is =
    let named : AreNamed super parts seen = seen-named super parts seen level done found in
    let each : AllName super parts seen inode is.all =
    each-of (IsJudged super parts judged inode) (λ at. NamesAt super parts seen at.directory at.place inode) (λ at was. record { from = are.only at.directory at.place was.below; by = was.by }) is.all is.each in
    let paths = paths-of super parts seen (sound-of super parts seen level done) named inode is.all is.apart each in
    record {
      paths = paths.paths;
      distinct = paths.distinct;
      lead = paths.leads;
      is = sym paths.count ∙ is.is;
      most = λ others distinct lead.
          let places = places-of super parts seen level done inode others other distinct lead in
          let few : length places.all ≤ count = links_law super parts seen judged inode count places.all are is places.apart places.name in
          let same : length others ≡ length places.all = places.count in
          omega (arith, few, same);
    }
