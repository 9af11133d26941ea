-- The line of a place, and what is there.
use Rattle.std.proofs.Common.{◌≡◌, ◌+◌, drop, sym, ◌∙◌, ap, arith, false}
use Rattle.lilo_model.specs.ConfTokens.{line_at, blank_length}
use Rattle.conf_text.proofs.TokensLemmas.{line_at-later, line_at-small, next_piece-at, take-rest}
use Rattle.conf_text.proofs.scan.next_piece.Goals as goal

pub overflow_add-line : goal.overflow_add-line
overflow_add-line c =
    let later = line_at-later c.args.text.now c.args.counted (c.args.place + c.blank_length.result) (omega arith) in
    let small = line_at-small c.args.text.now (c.args.place + c.blank_length.result) in
    let line : c.args.line + c.newlines.result ≡ line_at c.args.text.now (c.args.place + c.blank_length.result) =
    rw (c.requires.line, c.newlines.ensures) later in
    omega (arith, line, small)

pub returns-clause-piece : goal.returns-clause-piece
returns-clause-piece c =
    let later = line_at-later c.args.text.now c.args.counted (c.args.place + c.blank_length.result) (omega arith) in
    let line : c.args.line + c.newlines.result ≡ line_at c.args.text.now (c.args.place + c.blank_length.result) =
    rw (c.requires.line, c.newlines.ensures) later in
    let rest = take-rest c.args.place c.args.text.now in
    let behind = take-rest (c.args.place + c.blank_length.result) c.args.text.now in
    let blank : c.blank_length.result ≡ blank_length false (drop c.args.place c.args.text.now) =
    c.blank_length.ensures.value ∙ ap (blank_length false) rest in
    sym (next_piece-at c.args.text.now c.args.value c.args.place (c.args.place + c.blank_length.result)
    (c.args.line + c.newlines.result) _ (ap (λ n. c.args.place + n) blank) line (rw behind at c.piece_at-piece.ensures.value))

pub returns-clause-line : goal.returns-clause-line
returns-clause-line c =
    let later = line_at-later c.args.text.now c.args.counted (c.args.place + c.blank_length.result) (omega arith) in
    rw (c.requires.line, c.newlines.ensures) later
