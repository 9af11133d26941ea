-- What was staged may be tidied once it is committed.
use Rattle.std.proofs.Common.{◌≡◌, length, Result, subst, arith}
use Rattle.disk_trait.specs.declared.disks.DiskFault.{DiskFault}
use Rattle.install_order.specs.Commits.{Commits}
use Rattle.install_order.proofs.CommittedLemmas.{may_tidy}
use Rattle.install_order.proofs.staged.Staged.commit.Goals as goal

pub returns-in-Ok-clause-ready : goal.returns-in-Ok-clause-ready
returns-in-Ok-clause-ready g c = λ may.
    let old = c.args.self.volume in
    let new = c.commit.new.volume in
    let boot = c.args.self.boot in
    let bytes = c.args.self.sector in
    let long : length bytes ≡ 512 = omega arith in
    let commits = subst (λ (r : Result (Unit {0}) DiskFault). Commits old new boot bytes r) c.in-Ok.is c.commit.ensures.commits in
    record {
      inside = rw commits.kept.same_layout may.inside;
      twins = may.twins;
      called = may.called;
      quiet = commits.quiet;
      may = λ told.
          let before = commits.goes_on.told_before told in
          let is = may.may before in
          record { path = is.path; may = may_tidy old new boot bytes long commits before is.path c.args.self.map is.apart is.may };
    }
