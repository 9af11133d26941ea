use Rattle.std.proofs.Common.{◌≡◌, ◌<◌, arith, sym, ◌∙◌, refl, true, false}
use Rattle.lilo_model.specs.Words as model
use Rattle.lilo_words.proofs.CommandReads.{path_from-word}
use Rattle.lilo_words.proofs.options.path_in.Goals as goal

pub returns-then-is_path-clause-path : goal.returns-then-is_path-clause-path
returns-then-is_path-clause-path c =
    let less : c.args.at < c.args.end = omega arith in
    let is : model.is_path c.word-word.result.now ≡ true = cc in
    sym (path_from-word c.args.words.now c.args.at c.args.end c.word-word.result.now less c.requires.end c.word-word.ensures ∙ rw is refl)

pub returns-else-is_path-clause-path : goal.returns-else-is_path-clause-path
returns-else-is_path-clause-path c =
    let less : c.args.at < c.args.end = omega arith in
    let isnt : model.is_path c.word-word.result.now ≡ false = cc in
    sym (path_from-word c.args.words.now c.args.at c.args.end c.word-word.result.now less c.requires.end c.word-word.ensures ∙ rw isnt refl)
