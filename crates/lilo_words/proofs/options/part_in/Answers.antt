use Rattle.std.proofs.Common.{rules, ◌≡◌, slice_range, refl, sym, ◌∙◌, arith, true, Err}
use Rattle.lilo_model.specs.Words.{is_config, is_root, is_verbose, commanded, part_from}
use Rattle.mbr_table.specs.View.{device_view}
use Rattle.lilo_words.specs.View.{bare_view}
use Rattle.lilo_words.proofs.PartReads.{config_read, config_refused, root_read, root_refused, verbose_read, command_read, command_none}
use Rattle.lilo_words.proofs.options.part_in.Goals as goal
use Rattle.lilo_words.proofs.options.part_in.Goals.{else-loop-at-test, then-loop-at-test+in-None}

pub loop-at-init : goal.loop-at-init
loop-at-init c = record { before = c.requires.from; read = refl }

pub returns-in_err-path_in-in-Some-Config : goal.returns-in_err-path_in-in-Some-Config
returns-in_err-path_in-in-Some-Config c =
    let is : is_config (bare_view c.loop-at.part) c.word.result.now ≡ true = rw c.in-Some-Config.field-0-is at c.in-Some-Config.ensures.some in
    let refused = config_refused c.args.words.now c.loop-at.at c.args.end ((c.in_err-path_in-in-Some-Config).field-0.0) (bare_view c.loop-at.part) c.word.result.now
    c.loop-at-test.true c.requires.end c.word.ensures is (c.in_err-path_in-in-Some-Config).ensures.path in
    let given : c.from_residual.result ≡ Err ((c.in_err-path_in-in-Some-Config).field-0.0) = search rules in
    rw given (sym (c.loop-at.invariant.read ∙ refused))

pub loop-at-preserved-in-Some-Config : goal.loop-at-preserved-in-Some-Config
loop-at-preserved-in-Some-Config c =
    let is : is_config (bare_view c.loop-at.part) c.word.result.now ≡ true = rw c.in-Some-Config.field-0-is at c.in-Some-Config.ensures.some in
    let read = config_read c.args.words.now c.loop-at.at c.args.end (bare_view c.loop-at.part) c.word.result.now ((c.in_ok-path_in-in-Some-Config).field-0.now)
    (c.in_ok-path_in-in-Some-Config).ensures.before c.requires.end c.word.ensures is (c.in_ok-path_in-in-Some-Config).ensures.path in
    record { before = omega (arith, (c.in_ok-path_in-in-Some-Config).ensures.before); read = c.loop-at.invariant.read ∙ read }

pub returns-in_err-device_in-in-Some-Root : goal.returns-in_err-device_in-in-Some-Root
returns-in_err-device_in-in-Some-Root c =
    let is : is_root (bare_view c.loop-at.part) c.word.result.now ≡ true = rw c.in-Some-Root.field-0-is at c.in-Some-Root.ensures.some in
    let refused = root_refused c.args.words.now c.loop-at.at c.args.end ((c.in_err-device_in-in-Some-Root).field-0.0) (bare_view c.loop-at.part) c.word.result.now
    c.loop-at-test.true c.requires.end c.word.ensures is (c.in_err-device_in-in-Some-Root).ensures.device in
    let given : (c.from_residual-in_err-device_in-in-Some-Root).result ≡ Err ((c.in_err-device_in-in-Some-Root).field-0.0) = search rules in
    rw given (sym (c.loop-at.invariant.read ∙ refused))

pub loop-at-preserved-in-Some-Root : goal.loop-at-preserved-in-Some-Root
loop-at-preserved-in-Some-Root c =
    let is : is_root (bare_view c.loop-at.part) c.word.result.now ≡ true = rw c.in-Some-Root.field-0-is at c.in-Some-Root.ensures.some in
    let read = root_read c.args.words.now c.loop-at.at c.args.end (bare_view c.loop-at.part) c.word.result.now (device_view (c.in_ok-device_in-in-Some-Root).field-0)
    (c.in_ok-device_in-in-Some-Root).ensures.before c.requires.end c.word.ensures is (c.in_ok-device_in-in-Some-Root).ensures.device in
    record { before = omega (arith, (c.in_ok-device_in-in-Some-Root).ensures.before); read = c.loop-at.invariant.read ∙ read }

pub loop-at-preserved : goal.loop-at-preserved
loop-at-preserved c =
    let is : is_verbose (bare_view c.loop-at.part) c.word.result.now ≡ true = rw c.in-Some-Verbose.field-0-is at c.in-Some-Verbose.ensures.some in
    let read = verbose_read c.args.words.now c.loop-at.at c.args.end (bare_view c.loop-at.part) c.word.result.now
    c.loop-at-test.true c.requires.end c.word.ensures is in
    record { before = omega arith; read = c.loop-at.invariant.read ∙ read }

pub command_in-requires-clause-at : goal.command_in-requires-clause-at
command_in-requires-clause-at c = c.loop-at.invariant.before

pub returns-in_err-part : goal.returns-in_err-part
returns-in_err-part c =
    let here : part_from c.loop-at.at (bare_view c.loop-at.part) (slice_range c.args.words.now c.loop-at.at c.args.end) ≡ commanded c.loop-at.at (bare_view c.loop-at.part) (slice_range c.args.words.now c.loop-at.at c.args.end) =
    elim c.loop-at-test.branch [
      | else-loop-at-test w ↦ command_none c.args.words.now c.loop-at.at c.args.end (bare_view c.loop-at.part) (omega arith)
      | then-loop-at-test+in-None w ↦
          command_read c.args.words.now c.loop-at.at c.args.end (bare_view c.loop-at.part) w.word.result.now
          w.loop-at-test.true c.requires.end w.word.ensures w.in-None.ensures.none
    ] in
    let given : (c.from_residual-in_err-part).result ≡ Err ((c.in_err-part).field-0.0) = search rules in
    rw (given, c.loop-at.invariant.read, here, ← c.in_err-part.ensures) refl

pub returns : goal.returns
returns c =
    let here : part_from c.loop-at.at (bare_view c.loop-at.part) (slice_range c.args.words.now c.loop-at.at c.args.end) ≡ commanded c.loop-at.at (bare_view c.loop-at.part) (slice_range c.args.words.now c.loop-at.at c.args.end) =
    elim c.loop-at-test.branch [
      | else-loop-at-test w ↦ command_none c.args.words.now c.loop-at.at c.args.end (bare_view c.loop-at.part) (omega arith)
      | then-loop-at-test+in-None w ↦
          command_read c.args.words.now c.loop-at.at c.args.end (bare_view c.loop-at.part) w.word.result.now
          w.loop-at-test.true c.requires.end w.word.ensures w.in-None.ensures.none
    ] in
    rw (c.loop-at.invariant.read, here, ← c.in_ok-part.ensures) refl
