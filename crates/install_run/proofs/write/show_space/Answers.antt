use Rattle.std.specs.Prelude.{◌++◌, codes, decimal}
use Rattle.stream_trait.proofs.ShowsLemmas.{shows_join}
use Rattle.install_run.proofs.write.show_space.Goals as goal

pub returns-clause-shown : goal.returns-clause-shown
returns-clause-shown g c =
    shows_join _ _ _ (codes "space: need " ++ decimal c.args.need ++ codes ", found " ++ decimal c.args.found) (codes "\n")
    (shows_join _ _ _ (codes "space: need " ++ decimal c.args.need ++ codes ", found ") (decimal c.args.found) (rw c.from.ensures at c.show_numbered.ensures.shown) (rw c.from-2.ensures at c.show_number.ensures.shown))
    c.put.ensures.shown
