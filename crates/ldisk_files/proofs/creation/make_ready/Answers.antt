-- The flush, then the creation.
use Rattle.std.proofs.Common.{◌∷◌, [], Ok, Err, Some, sym, ◌∙◌}
use Rattle.disk_trait.specs.Moments.{IsTold, IsQuiet}
use Rattle.minix_create.specs.Chosen.{Suits}
use Rattle.minix_zones.specs.Volume.{past_of}
use Rattle.ldisk_model.specs.FileVerdict.{thing_made}
use Rattle.ldisk_files.specs.Answer.{write_fault}
use Rattle.ldisk_files.proofs.CreateLemmas.{created, not-created, created-kept}
use Rattle.ldisk_files.proofs.FlushLemmas.{flushed-view, not-flushed, then-changed, when-ok}
use Rattle.ldisk_files.proofs.InodeLemmas.{inode-created, inode-flushed}
use Rattle.ldisk_files.proofs.MadeLemmas.{may-as, some-forth}
use Rattle.ldisk_files.proofs.creation.make_ready.Goals as goal

pub create-requires : goal.create-requires
create-requires g c =
    let syncs = c.sync.ensures.syncs in
    let quiet : IsQuiet (past_of c.sync.new.self) = when-ok c.sync.result (sym c.is_err.ensures.value ∙ c.if-is_err.false) syncs.flushes.quiet in
    let may = λ (told : IsTold (past_of c.sync.new.self)).
    let some = c.requires.may (syncs.flushes.goes_on.told_before told) in
    may-as c.sync.new.self c.args.volume (sym (flushed-view c.args.volume c.sync.new.self c.sync.result syncs)) (sym syncs.flushes.same_now) c.args.ready.chosen some.outer some.making (c.args.ready.block ∷ []) some.may in
    record {
      suits = rw (syncs.kept.same_layout, syncs.kept.same_span) c.requires.suits.suits;
      whole = λ told. (may told).made;
      all = c.requires.suits.one;
      quiet = quiet;
      free = λ told. (may told).free;
    }

pub returns-then-is_err-clause-changes : goal.returns-then-is_err-clause-changes
returns-then-is_err-clause-changes g c = λ making outer may.
    not-flushed c.args.volume c.sync.new.self c.sync.result c.sync.ensures.syncs (c.args.ready.chosen.name ∷ outer) (Some (thing_made making)) (λ told. (may told).free.sound)

pub returns-in-Ok-clause-changes : goal.returns-in-Ok-clause-changes
returns-in-Ok-clause-changes g c = λ making outer may.
    let syncs = c.sync.ensures.syncs in
    let quiet : IsQuiet (past_of c.sync.new.self) = when-ok c.sync.result (sym c.is_err.ensures.value ∙ c.if-is_err.false) syncs.flushes.quiet in
    let suits : Suits c.sync.new.self.layout c.sync.new.self.span c.args.ready.chosen = rw (syncs.kept.same_layout, syncs.kept.same_span) c.requires.suits.suits in
    then-changed c.args.volume c.sync.new.self c.sync.result syncs (c.args.ready.chosen.name ∷ outer) (Some (thing_made making)) (λ told. (may told).free.sound) quiet c.in-Ok.volume (Ok tt)
    (created c.sync.new.self c.in-Ok.volume outer making c.args.ready.chosen (c.args.ready.block ∷ []) c.sync.new.self.whole suits
    (λ told. may-as c.sync.new.self c.args.volume (sym (flushed-view c.args.volume c.sync.new.self c.sync.result syncs)) (sym syncs.flushes.same_now) c.args.ready.chosen outer making (c.args.ready.block ∷ [])
    (may (syncs.flushes.goes_on.told_before told)))
    c.in-Ok.ensures.created.creates)

pub returns-in-Ok-clause-inode : goal.returns-in-Ok-clause-inode
returns-in-Ok-clause-inode g c = λ making outer may.
    let syncs = c.sync.ensures.syncs in
    let suits : Suits c.sync.new.self.layout c.sync.new.self.span c.args.ready.chosen = rw (syncs.kept.same_layout, syncs.kept.same_span) c.requires.suits.suits in
    inode-flushed c.args.volume c.sync.new.self c.sync.result syncs c.in-Ok.volume (c.args.ready.chosen.name ∷ outer) (Some (making, c.args.ready.chosen.time)) (Ok tt)
    (inode-created c.sync.new.self c.in-Ok.volume outer making c.args.ready.chosen (c.args.ready.block ∷ []) suits
    (λ told. may-as c.sync.new.self c.args.volume (sym (flushed-view c.args.volume c.sync.new.self c.sync.result syncs)) (sym syncs.flushes.same_now) c.args.ready.chosen outer making (c.args.ready.block ∷ [])
    (may (syncs.flushes.goes_on.told_before told)))
    c.in-Ok.ensures.created.creates)

pub returns-in-Err-clause-changes : goal.returns-in-Err-clause-changes
returns-in-Err-clause-changes g c = λ making outer may.
    let syncs = c.sync.ensures.syncs in
    let quiet : IsQuiet (past_of c.sync.new.self) = when-ok c.sync.result (sym c.is_err.ensures.value ∙ c.if-is_err.false) syncs.flushes.quiet in
    let suits : Suits c.sync.new.self.layout c.sync.new.self.span c.args.ready.chosen = rw (syncs.kept.same_layout, syncs.kept.same_span) c.requires.suits.suits in
    rw c.write_fault.ensures
    (then-changed c.args.volume c.sync.new.self c.sync.result syncs (c.args.ready.chosen.name ∷ outer) (Some (thing_made making)) (λ told. (may told).free.sound) quiet c.in-Err.halt.volume (Err (write_fault c.in-Err.halt.fault))
    (not-created c.sync.new.self c.in-Err.halt.volume outer making c.args.ready.chosen (c.args.ready.block ∷ []) c.sync.new.self.whole suits
    (λ told. may-as c.sync.new.self c.args.volume (sym (flushed-view c.args.volume c.sync.new.self c.sync.result syncs)) (sym syncs.flushes.same_now) c.args.ready.chosen outer making (c.args.ready.block ∷ [])
    (may (syncs.flushes.goes_on.told_before told)))
    c.in-Err.halt.fault c.in-Err.ensures.halted))

pub returns-in-Ok-clause-same_reference : goal.returns-in-Ok-clause-same_reference
returns-in-Ok-clause-same_reference g c =
    let syncs = c.sync.ensures.syncs in
    (created-kept c.sync.new.self c.in-Ok.volume c.args.ready.chosen (c.args.ready.block ∷ []) (some-forth c.args.volume c.sync.new.self c.sync.result syncs c.args.ready.chosen (c.args.ready.block ∷ []) c.requires.may)
    (Ok tt) c.in-Ok.ensures.created.creates).same_reference ∙ syncs.kept.same_reference

pub returns-in-Err-clause-same_reference : goal.returns-in-Err-clause-same_reference
returns-in-Err-clause-same_reference g c =
    let syncs = c.sync.ensures.syncs in
    (created-kept c.sync.new.self c.in-Err.halt.volume c.args.ready.chosen (c.args.ready.block ∷ []) (some-forth c.args.volume c.sync.new.self c.sync.result syncs c.args.ready.chosen (c.args.ready.block ∷ []) c.requires.may)
    (Err c.in-Err.halt.fault) c.in-Err.ensures.halted).same_reference ∙ syncs.kept.same_reference
