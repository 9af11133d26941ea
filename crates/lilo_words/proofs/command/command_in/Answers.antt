use Rattle.std.proofs.Common.{◌<◌, ◌+◌, arith, sym, ◌∙◌, slice_range, codes}
use Rattle.lilo_words.specs.declared.part.Command.TheVariants.{Test}
use Rattle.lilo_words.proofs.Commands.{differs, no_command}
use Rattle.lilo_words.proofs.CommandReads.{ended_seen, command_from-word, command_from-none, command_from-test, command_from-query, command_from-line, command_from-restore, command_from-boot}
use Rattle.lilo_words.proofs.command.command_in.Goals as goal

pub returns-then-at-end : goal.returns-then-at-end
returns-then-at-end c = sym (command_from-none c.args.words.now c.args.at c.args.end (omega arith))

pub returns-in-text : goal.returns-in-text
returns-in-text c =
    let less : c.args.at < c.args.end = omega arith in
    let front = command_from-word c.args.words.now c.args.at c.args.end c.word.result.now less c.requires.end c.word.ensures in
    let read = command_from-test c.args.at c.word.result.now (slice_range c.args.words.now (c.args.at + 1) c.args.end) c.in-text.is in
    ended_seen c.args.words.now Test (c.args.at + 1) c.args.end c.ended.result (omega arith) c.requires.end c.ended.ensures
    ∙ sym (front ∙ read)

pub returns-in-text-2 : goal.returns-in-text-2
returns-in-text-2 c =
    let less : c.args.at < c.args.end = omega arith in
    let front = command_from-word c.args.words.now c.args.at c.args.end c.word.result.now less c.requires.end c.word.ensures in
    let read = command_from-query c.args.at c.word.result.now (slice_range c.args.words.now (c.args.at + 1) c.args.end) c.in-text-2.is in
    c.query_in.ensures ∙ sym (front ∙ read)

pub returns-in-text-3 : goal.returns-in-text-3
returns-in-text-3 c =
    let less : c.args.at < c.args.end = omega arith in
    let front = command_from-word c.args.words.now c.args.at c.args.end c.word.result.now less c.requires.end c.word.ensures in
    let read = command_from-line c.args.at c.word.result.now (slice_range c.args.words.now (c.args.at + 1) c.args.end) c.in-text-3.is in
    c.line_in.ensures ∙ sym (front ∙ read)

pub returns-in-text-4 : goal.returns-in-text-4
returns-in-text-4 c =
    let less : c.args.at < c.args.end = omega arith in
    let front = command_from-word c.args.words.now c.args.at c.args.end c.word.result.now less c.requires.end c.word.ensures in
    let read = command_from-restore c.args.at c.word.result.now (slice_range c.args.words.now (c.args.at + 1) c.args.end) c.in-text-4.is in
    c.restore_in.ensures ∙ sym (front ∙ read)

pub returns-in-boot : goal.returns-in-boot
returns-in-boot c =
    let less : c.args.at < c.args.end = omega arith in
    let front = command_from-word c.args.words.now c.args.at c.args.end c.word.result.now less c.requires.end c.word.ensures in
    let read = command_from-boot c.args.at c.word.result.now (slice_range c.args.words.now (c.args.at + 1) c.args.end) c.in-boot.is in
    c.boot_in.ensures ∙ sym (front ∙ read)

pub returns-in_default : goal.returns-in_default
returns-in_default c =
    let less : c.args.at < c.args.end = omega arith in
    let word = c.word.result.now in
    let front = command_from-word c.args.words.now c.args.at c.args.end word less c.requires.end c.word.ensures in
    let none = no_command c.args.at word (slice_range c.args.words.now (c.args.at + 1) c.args.end)
    (differs word (codes "-t") c.in_default.not-text) (differs word (codes "-q") c.in_default.not-text-2)
    (differs word (codes "-R") c.in_default.not-text-3) (differs word (codes "-u") c.in_default.not-text-4)
    (differs word (codes "boot") c.in_default.not-boot) in
    sym (front ∙ none)
