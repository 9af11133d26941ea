use Rattle.std.proofs.Common.{◌≡◌, [], Ok, Err, sym, ap, ◌∙◌, rules, inl}
use Rattle.minix_create.proofs.StateLemmas.{wrong_creates, next_is, since_halts, created_ok, created_err, created_cause}
use Rattle.install_stage.proofs.WriteLemmas.{since_written, some_written, wrong_cause, later_cause}
use Rattle.install_stage.proofs.map.write_map.Goals as goal

pub returns-in_err-reserved-clause-halted : goal.returns-in_err-reserved-clause-halted
returns-in_err-reserved-clause-halted g c given are =
    let halt = c.in_err-reserved.field-0.0 in
    let is : c.from_residual.result ≡ Err halt = search rules in
    rw is (wrong_creates c.args.volume c.args.chosen given c.requires.quiet c.requires.free halt.volume halt.fault c.in_err-reserved.ensures.halted)

pub loop-index-init : goal.loop-index-init
loop-index-init g c =
    let reserves = c.in_ok-reserved.ensures.reserved in
    record {
      hand = reserves.hand;
      same = reserves.same;
      since = λ given are. reserves.since given;
      some = (λ index. [], reserves.since (λ index. []));
    }

pub returns-in-Err-clause-halted : goal.returns-in-Err-clause-halted
returns-in-Err-clause-halted g c given are =
    let inv = c.loop-index.invariant in
    rw c.leave.ensures
    (since_halts c.args.volume given c.args.chosen c.loop-index.reserved inv.same (inv.since given are) c.block.new.self.volume c.in-Err.fault c.in-Err.ensures.halted)

pub loop-index-preserved : goal.loop-index-preserved
loop-index-preserved g c =
    let inv = c.loop-index.invariant in
    let wrote = c.in_default-block.ensures.written in
    let next = next_is c.loop-index.reserved.next _ c.in-Some.index _ c.next_index.ensures c.in-Some.is in
    record {
      hand = wrote.hand;
      same = wrote.same ∙ inv.same;
      since = λ given are.
          since_written c.args.volume c.loop-index.reserved c.block.new.self _ given wrote
          (λ told. let map = are told in c.map_block-block.ensures map.machine map.lies ∙ sym (map.are c.in-Some.index) ∙ ap given next)
          (inv.since given are);
      some = some_written c.args.volume c.loop-index.reserved c.block.new.self _ wrote inv.some;
    }

pub returns-in_err-filled-clause-halted : goal.returns-in_err-filled-clause-halted
returns-in_err-filled-clause-halted g c given are =
    let inv = c.loop-index.invariant in
    let halt = c.in_err-filled.field-0.0 in
    let is : c.from_residual-in_err-filled.result ≡ Err halt = search rules in
    rw is (since_halts c.args.volume given c.args.chosen c.loop-index.reserved inv.same (inv.since given are) halt.volume halt.fault c.in_err-filled.ensures.halted)

pub returns-in_err-volume-clause-halted : goal.returns-in_err-volume-clause-halted
returns-in_err-volume-clause-halted g c given are =
    let inv = c.loop-index.invariant in
    let halt = c.in_err-volume.field-0.0 in
    let is : c.from_residual-in_err-volume.result ≡ Err halt = search rules in
    rw is
    (created_err c.args.volume given c.args.chosen c.loop-index.reserved inv.same (inv.since given are) (λ told. inl c.requires.file) c.in_ok-filled.filled c.in_ok-filled.ensures.filled
    (Err halt) c.in_err-volume.ensures.halted)

pub returns-clause-made : goal.returns-clause-made
returns-clause-made g c given are =
    let inv = c.loop-index.invariant in
    let made = created_ok c.args.volume given c.args.chosen c.loop-index.reserved inv.same (inv.since given are) (λ told. inl c.requires.file) c.in_ok-filled.filled c.in_ok-filled.ensures.filled
    (Ok (c.in_ok-volume.volume, c.in_ok-volume.field-0-1)) c.in_ok-volume.ensures.linked in
    made.creates

pub returns-in_err-reserved-clause-cause : goal.returns-in_err-reserved-clause-cause
returns-in_err-reserved-clause-cause g c =
    let halt = c.in_err-reserved.field-0.0 in
    let is : c.from_residual.result ≡ Err halt = search rules in
    rw is (wrong_cause c.args.volume halt.volume c.args.chosen halt.fault c.in_err-reserved.ensures.halted)

pub returns-in-Err-clause-cause : goal.returns-in-Err-clause-cause
returns-in-Err-clause-cause g c =
    rw c.leave.ensures (later_cause c.args.volume c.loop-index.reserved c.loop-index.invariant.some c.block.new.self.volume c.in-Err.fault c.in-Err.ensures.halted)

pub returns-in_err-filled-clause-cause : goal.returns-in_err-filled-clause-cause
returns-in_err-filled-clause-cause g c =
    let halt = c.in_err-filled.field-0.0 in
    let is : c.from_residual-in_err-filled.result ≡ Err halt = search rules in
    rw is (later_cause c.args.volume c.loop-index.reserved c.loop-index.invariant.some halt.volume halt.fault c.in_err-filled.ensures.halted)

pub returns-in_err-volume-clause-cause : goal.returns-in_err-volume-clause-cause
returns-in_err-volume-clause-cause g c =
    let inv = c.loop-index.invariant in
    let halt = c.in_err-volume.field-0.0 in
    let is : c.from_residual-in_err-volume.result ≡ Err halt = search rules in
    rw is
    (created_cause c.args.volume inv.some.0 c.args.chosen c.loop-index.reserved inv.same inv.some.1 (λ told. inl c.requires.file) c.in_ok-filled.filled c.in_ok-filled.ensures.filled
    (Err halt) c.in_err-volume.ensures.cause)
