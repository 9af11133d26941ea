use Rattle.std.proofs.Common.{◌≡◌, Err, ◌∙◌, rules}
use Rattle.minix_create.specs.Chosen.{block_of}
use Rattle.ldisk_files.specs.Stored.{padded_blocks}
use Rattle.minix_create.proofs.StateLemmas.{wrong_creates, since_halts, created_ok, created_err, created_cause}
use Rattle.ldisk_files.proofs.StoringLemmas.{next-within, next-block}
use Rattle.ldisk_files.proofs.storing.write_file.Goals as goal

pub returns-in_err-reserved-clause-halted : goal.returns-in_err-reserved-clause-halted
returns-in_err-reserved-clause-halted g c =
    let halt = c.in_err-reserved.field-0.0 in
    let is : c.from_residual.result ≡ Err halt = search rules in
    rw is (wrong_creates c.args.volume c.args.chosen (block_of (padded_blocks c.args.bytes.now)) c.requires.quiet c.requires.free halt.volume halt.fault c.in_err-reserved.ensures.halted)

pub loop-index-init : goal.loop-index-init
loop-index-init g c =
    let reserves = c.in_ok-reserved.ensures.reserved in
    record { hand = reserves.hand; same = reserves.same; since = reserves.since (block_of (padded_blocks c.args.bytes.now)) }

pub returns-in-Err-clause-halted : goal.returns-in-Err-clause-halted
returns-in-Err-clause-halted g c =
    let inv = c.loop-index.invariant in
    rw c.leave.ensures (since_halts c.args.volume (block_of (padded_blocks c.args.bytes.now)) c.args.chosen c.loop-index.reserved inv.same inv.since c.block.new.self.volume c.in-Err.fault c.in-Err.ensures.halted)

pub padded_block-block-requires : goal.padded_block-block-requires
padded_block-block-requires g c =
    next-within c.loop-index.reserved.chosen c.args.chosen c.loop-index.invariant.same c.args.bytes.now c.requires.all c.loop-index.reserved.next c.in-Some.index _ c.next_index.ensures c.in-Some.is

pub loop-index-preserved : goal.loop-index-preserved
loop-index-preserved g c =
    let inv = c.loop-index.invariant in
    let wrote = c.in_default-block.ensures.written in
    record {
      hand = wrote.hand;
      same = wrote.same ∙ inv.same;
      since = wrote.since c.args.volume (block_of (padded_blocks c.args.bytes.now))
          (next-block c.loop-index.reserved.chosen c.args.chosen inv.same c.args.bytes.now c.requires.all c.loop-index.reserved.next c.in-Some.index _ c.next_index.ensures c.in-Some.is
          c.padded_block-block.result c.padded_block-block.ensures)
          inv.since;
    }

pub returns-in_err-filled-clause-halted : goal.returns-in_err-filled-clause-halted
returns-in_err-filled-clause-halted g c =
    let inv = c.loop-index.invariant in
    let halt = c.in_err-filled.field-0.0 in
    let is : c.from_residual-in_err-filled.result ≡ Err halt = search rules in
    rw is (since_halts c.args.volume (block_of (padded_blocks c.args.bytes.now)) c.args.chosen c.loop-index.reserved inv.same inv.since halt.volume halt.fault c.in_err-filled.ensures.halted)

pub returns-clause-created : goal.returns-clause-created
returns-clause-created g c =
    let inv = c.loop-index.invariant in
    created_ok c.args.volume (block_of (padded_blocks c.args.bytes.now)) c.args.chosen c.loop-index.reserved inv.same inv.since c.requires.whole c.in_ok-filled.filled c.in_ok-filled.ensures.filled
    c.link.result c.link.ensures.linked

pub returns-clause-halted : goal.returns-clause-halted
returns-clause-halted g c =
    let inv = c.loop-index.invariant in
    created_err c.args.volume (block_of (padded_blocks c.args.bytes.now)) c.args.chosen c.loop-index.reserved inv.same inv.since c.requires.whole c.in_ok-filled.filled c.in_ok-filled.ensures.filled
    c.link.result c.link.ensures.halted

pub returns-clause-cause : goal.returns-clause-cause
returns-clause-cause g c =
    let inv = c.loop-index.invariant in
    created_cause c.args.volume (block_of (padded_blocks c.args.bytes.now)) c.args.chosen c.loop-index.reserved inv.same inv.since c.requires.whole c.in_ok-filled.filled c.in_ok-filled.ensures.filled
    c.link.result c.link.ensures.cause
