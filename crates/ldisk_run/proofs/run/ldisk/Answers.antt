-- The sink hadn't failed before, and nothing was held. What is left is left by the status of the command.
use Rattle.std.proofs.Common.{◌≡◌, ◌≢◌, false, sym, ◌∙◌, rules}
use Rattle.disk_trait.specs.Past.{Told}
use Rattle.stream_trait.specs.Shows.{answer_of}
use Rattle.ldisk_model.specs.Arguments.{asked_at}
use Rattle.ldisk_model.specs.Verdict.{ldisk_verdict, asked_verdict, asked_change}
use Rattle.ldisk_files.proofs.StoredLemmas.{given-map}
use Rattle.ldisk_files.specs.Stored.{OnGiven}
use Rattle.ldisk_run.specs.Left.{IsAskedDone, IsDone, LeavesAsked, LeavesChanging, held_now}
use Rattle.ldisk_run.specs.Pieces.{sink_of, held_by}
use Rattle.ldisk_run.specs.Run.{DoesAs, Answers, Tells}
use Rattle.stream_trait.specs.Sink.{Takes}
use Rattle.ldisk_run.proofs.CommandLemmas.{held_of, answers, tells, takes_whole}
use Rattle.ldisk_run.proofs.MadeLemmas.{asked_moment, asked_freeing, asked_partly, asked_done, asked_volume, asked_quiet, asked_refused, asked_unwritten, asked_outside, asked_same, asked_goes_on, asked_device, source_status, known_status}
use Rattle.disk_trait.proofs.ToldLemmas.{told_map}
use Rattle.ldisk_run.proofs.PutLemmas.{told_given, given_out}
use Rattle.sector_address.specs.Machine.{machine_of}
use Rattle.ldisk_run.proofs.run.ldisk.Goals as goal

pub returns-clause-text : goal.returns-clause-text
returns-clause-text g c =
    let o = g.O.Sink in
    let disks = c.args.disks.now in
    let machine = machine_of g.D.Disks disks in
    let left = g.I.Source.left c.args.source.now in
    let words = c.args.words.now in
    let status = c.run_words-status.result in
    let failed = c.failed-sink_failed.result in
    let first = c.new-pieces.result.out.out.now in
    let last = c.show.new.self.out.out.now in
    let fine : c.new-pieces.result.out.failed ≡ false = search rules in
    rw c.answer.ensures
    (held_of (λ out. Told (g.D.Disks.past disks) (λ now. OnGiven left (λ given. Tells (ldisk_verdict now machine given words) (answer_of status failed) (o.taken c.args.out.now) (o.taken out) (o.faults c.args.out.now) (o.faults out)))) last
    (held_of (λ out. Told (g.D.Disks.past disks) (λ now. OnGiven left (λ given. Tells (ldisk_verdict now machine given words) (answer_of status failed) (o.taken out) (o.taken last) (o.faults out) (o.faults last)))) first
    (told_map (g.D.Disks.past disks) (λ now. OnGiven left (λ given. DoesAs (ldisk_verdict now machine given words) status (held_by o c.new-pieces.result) (held_by o c.run_words-status.new.out)))
    (λ now. OnGiven left (λ given. Tells (ldisk_verdict now machine given words) (answer_of status failed) (o.taken first) (o.taken last) (o.faults first) (o.faults last)))
    (λ now is. given-map (λ given. DoesAs (ldisk_verdict now machine given words) status (held_by o c.new-pieces.result) (held_by o c.run_words-status.new.out))
    (λ given. Tells (ldisk_verdict now machine given words) (answer_of status failed) (o.taken first) (o.taken last) (o.faults first) (o.faults last)) left
    (λ given does. tells (ldisk_verdict now machine given words) status failed (held_by o c.new-pieces.result) (held_by o c.run_words-status.new.out)
    (sink_of o c.show.new.self) does c.new-pieces.ensures.empty fine c.show.ensures.shown) is)
    c.run_words-status.ensures.does)
    (search rules))
    (search rules))

pub returns-clause-whole : goal.returns-clause-whole
returns-clause-whole g c = λ zero.
    let o = g.O.Sink in
    let disks = c.args.disks.now in
    let machine = machine_of g.D.Disks disks in
    let left = g.I.Source.left c.args.source.now in
    let words = c.args.words.now in
    let status = c.run_words-status.result in
    let failed = c.failed-sink_failed.result in
    let first = c.new-pieces.result.out.out.now in
    let last = c.show.new.self.out.out.now in
    let failed_is : (sink_of o c.show.new.self).failed ≡ failed = search rules in
    (held_of (λ out. Told (g.D.Disks.past disks) (λ now. OnGiven left (λ given. Takes (o.taken c.args.out.now) (ldisk_verdict now machine given words).text (o.taken out)))) last
    (held_of (λ out. Told (g.D.Disks.past disks) (λ now. OnGiven left (λ given. Takes (o.taken out) (ldisk_verdict now machine given words).text (o.taken last)))) first
    (told_map (g.D.Disks.past disks) (λ now. OnGiven left (λ given. DoesAs (ldisk_verdict now machine given words) status (held_by o c.new-pieces.result) (held_by o c.run_words-status.new.out)))
    (λ now. OnGiven left (λ given. Takes (o.taken first) (ldisk_verdict now machine given words).text (o.taken last)))
    (λ now is. given-map (λ given. DoesAs (ldisk_verdict now machine given words) status (held_by o c.new-pieces.result) (held_by o c.run_words-status.new.out))
    (λ given. Takes (o.taken first) (ldisk_verdict now machine given words).text (o.taken last)) left
    (λ given does. takes_whole (ldisk_verdict now machine given words) status failed (held_by o c.new-pieces.result) (held_by o c.run_words-status.new.out)
    (sink_of o c.show.new.self) does c.new-pieces.ensures.empty c.show.ensures.shown failed_is (sym c.answer.ensures ∙ zero)) is)
    c.run_words-status.ensures.does)
    (search rules))
    (search rules))

pub returns-clause-status : goal.returns-clause-status
returns-clause-status g c =
    let o = g.O.Sink in
    let disks = c.args.disks.now in
    let machine = machine_of g.D.Disks disks in
    let left = g.I.Source.left c.args.source.now in
    let words = c.args.words.now in
    let status = c.run_words-status.result in
    let failed = c.failed-sink_failed.result in
    rw c.answer.ensures
    (told_map (g.D.Disks.past disks) (λ now. OnGiven left (λ given. DoesAs (ldisk_verdict now machine given words) status (held_by o c.new-pieces.result) (held_by o c.run_words-status.new.out)))
    (λ now. OnGiven left (λ given. Answers (ldisk_verdict now machine given words) (answer_of status failed)))
    (λ now is. given-map (λ given. DoesAs (ldisk_verdict now machine given words) status (held_by o c.new-pieces.result) (held_by o c.run_words-status.new.out))
    (λ given. Answers (ldisk_verdict now machine given words) (answer_of status failed)) left
    (λ given does. answers (ldisk_verdict now machine given words) status failed (held_by o c.new-pieces.result) (held_by o c.run_words-status.new.out) does) is)
    c.run_words-status.ensures.does)

pub returns-clause-statuses : goal.returns-clause-statuses
returns-clause-statuses g c = rw c.answer.ensures (known_status c.run_words-status.result c.failed-sink_failed.result c.run_words-status.ensures.known)

pub returns-clause-source : goal.returns-clause-source
returns-clause-source g c = λ eleven.
    c.run_words-status.ensures.source (source_status c.run_words-status.result c.failed-sink_failed.result (sym c.answer.ensures ∙ eleven))

pub returns-clause-any_moment : goal.returns-clause-any_moment
returns-clause-any_moment g c = λ quiet.
    let disks = c.args.disks.now in
    let left = g.I.Source.left c.args.source.now in
    let asked = asked_at c.args.words.now in
    told_given (g.D.Disks.past disks) left (λ now given. LeavesChanging g.D.Disks disks c.run_words-status.new.disks now (machine_of g.D.Disks disks) (asked_change given asked))
    (given-map (λ given. LeavesAsked g.D.Disks disks c.run_words-status.new.disks c.args.time given asked c.run_words-status.result)
    (λ given. Told (g.D.Disks.past disks) (λ now. LeavesChanging g.D.Disks disks c.run_words-status.new.disks now (machine_of g.D.Disks disks) (asked_change given asked))) left
    (λ given leaves. asked_moment g.D.Disks disks c.run_words-status.new.disks c.args.time given c.run_words-status.result c.failed-sink_failed.result c.run_words-status.ensures.known asked leaves quiet)
    c.run_words-status.ensures.leaves)

pub returns-clause-freeing : goal.returns-clause-freeing
returns-clause-freeing g c = λ quiet.
    let disks = c.args.disks.now in
    let left = g.I.Source.left c.args.source.now in
    let asked = asked_at c.args.words.now in
    let new = c.run_words-status.new.disks in
    (given_out left
    (given-map (λ given. LeavesAsked g.D.Disks disks new c.args.time given asked c.run_words-status.result) (λ given. _) left
    (λ given leaves. asked_freeing g.D.Disks disks new c.args.time given c.run_words-status.result c.failed-sink_failed.result c.run_words-status.ensures.known asked leaves quiet)
    c.run_words-status.ensures.leaves))

pub returns-clause-partly : goal.returns-clause-partly
returns-clause-partly g c = λ makes quiet.
    let disks = c.args.disks.now in
    let left = g.I.Source.left c.args.source.now in
    let asked = asked_at c.args.words.now in
    let new = c.run_words-status.new.disks in
    (given_out left
    (given-map (λ given. LeavesAsked g.D.Disks disks new c.args.time given asked c.run_words-status.result) (λ given. _) left
    (λ given leaves. asked_partly g.D.Disks disks new c.args.time given c.run_words-status.result c.failed-sink_failed.result c.run_words-status.ensures.known asked leaves makes quiet)
    c.run_words-status.ensures.leaves))

pub returns-clause-done : goal.returns-clause-done
returns-clause-done g c =
    let disks = c.args.disks.now in
    let left = g.I.Source.left c.args.source.now in
    let asked = asked_at c.args.words.now in
    let answer = answer_of c.run_words-status.result c.failed-sink_failed.result in
    let new = c.run_words-status.new.disks in
    rw c.answer.ensures
    (told_given (g.D.Disks.past disks) left (λ now given. IsDone answer → IsAskedDone now (machine_of g.D.Disks disks) c.args.time given asked (held_now g.D.Disks new))
    (given-map (λ given. LeavesAsked g.D.Disks disks new c.args.time given asked c.run_words-status.result)
    (λ given. Told (g.D.Disks.past disks) (λ now. IsDone answer → IsAskedDone now (machine_of g.D.Disks disks) c.args.time given asked (held_now g.D.Disks new))) left
    (λ given leaves. asked_done g.D.Disks disks new c.args.time given c.run_words-status.result c.failed-sink_failed.result c.run_words-status.ensures.known asked leaves)
    c.run_words-status.ensures.leaves))

pub returns-clause-device : goal.returns-clause-device
returns-clause-device g c =
    let disks = c.args.disks.now in
    let left = g.I.Source.left c.args.source.now in
    let asked = asked_at c.args.words.now in
    let new = c.run_words-status.new.disks in
    rw c.answer.ensures
    (given_out left
    (given-map (λ given. LeavesAsked g.D.Disks disks new c.args.time given asked c.run_words-status.result) (λ given. _) left
    (λ given leaves. asked_device g.D.Disks disks new c.args.time given c.run_words-status.result c.failed-sink_failed.result c.run_words-status.ensures.known asked leaves)
    c.run_words-status.ensures.leaves))

pub returns-clause-volume : goal.returns-clause-volume
returns-clause-volume g c =
    let disks = c.args.disks.now in
    let left = g.I.Source.left c.args.source.now in
    let asked = asked_at c.args.words.now in
    let new = c.run_words-status.new.disks in
    rw c.answer.ensures
    (given_out left
    (given-map (λ given. LeavesAsked g.D.Disks disks new c.args.time given asked c.run_words-status.result) (λ given. _) left
    (λ given leaves. asked_volume g.D.Disks disks new c.args.time given c.run_words-status.result c.failed-sink_failed.result c.run_words-status.ensures.known asked leaves)
    c.run_words-status.ensures.leaves))

pub returns-clause-quiet : goal.returns-clause-quiet
returns-clause-quiet g c =
    let disks = c.args.disks.now in
    let left = g.I.Source.left c.args.source.now in
    let asked = asked_at c.args.words.now in
    let new = c.run_words-status.new.disks in
    rw c.answer.ensures
    (given_out left
    (given-map (λ given. LeavesAsked g.D.Disks disks new c.args.time given asked c.run_words-status.result) (λ given. _) left
    (λ given leaves. asked_quiet g.D.Disks disks new c.args.time given c.run_words-status.result c.failed-sink_failed.result c.run_words-status.ensures.known asked leaves)
    c.run_words-status.ensures.leaves))

pub returns-clause-refused : goal.returns-clause-refused
returns-clause-refused g c =
    let disks = c.args.disks.now in
    let left = g.I.Source.left c.args.source.now in
    let asked = asked_at c.args.words.now in
    let new = c.run_words-status.new.disks in
    rw c.answer.ensures
    (given_out left
    (given-map (λ given. LeavesAsked g.D.Disks disks new c.args.time given asked c.run_words-status.result) (λ given. _) left
    (λ given leaves. asked_refused g.D.Disks disks new c.args.time given c.run_words-status.result c.failed-sink_failed.result c.run_words-status.ensures.known asked leaves)
    c.run_words-status.ensures.leaves))

pub returns-clause-outside : goal.returns-clause-outside
returns-clause-outside g c =
    let disks = c.args.disks.now in
    let left = g.I.Source.left c.args.source.now in
    let asked = asked_at c.args.words.now in
    let new = c.run_words-status.new.disks in
    (given_out left
    (given-map (λ given. LeavesAsked g.D.Disks disks new c.args.time given asked c.run_words-status.result) (λ given. _) left
    (λ given leaves. asked_outside g.D.Disks disks new c.args.time given c.run_words-status.result c.failed-sink_failed.result c.run_words-status.ensures.known asked leaves)
    c.run_words-status.ensures.leaves))

pub returns-clause-reads : goal.returns-clause-reads
returns-clause-reads g c =
    let disks = c.args.disks.now in
    let left = g.I.Source.left c.args.source.now in
    let asked = asked_at c.args.words.now in
    let new = c.run_words-status.new.disks in
    (given_out left
    (given-map (λ given. LeavesAsked g.D.Disks disks new c.args.time given asked c.run_words-status.result) (λ given. _) left
    (λ given leaves. asked_same g.D.Disks disks new c.args.time given c.run_words-status.result c.failed-sink_failed.result c.run_words-status.ensures.known asked leaves)
    c.run_words-status.ensures.leaves))

pub returns-clause-goes_on : goal.returns-clause-goes_on
returns-clause-goes_on g c =
    let disks = c.args.disks.now in
    let left = g.I.Source.left c.args.source.now in
    let asked = asked_at c.args.words.now in
    let new = c.run_words-status.new.disks in
    (given_out left
    (given-map (λ given. LeavesAsked g.D.Disks disks new c.args.time given asked c.run_words-status.result) (λ given. _) left
    (λ given leaves. asked_goes_on g.D.Disks disks new c.args.time given c.run_words-status.result c.failed-sink_failed.result c.run_words-status.ensures.known asked leaves)
    c.run_words-status.ensures.leaves))

pub returns-clause-unwritten : goal.returns-clause-unwritten
unfolding ldisk_verdict
returns-clause-unwritten g c =
    let disks = c.args.disks.now in
    let left = g.I.Source.left c.args.source.now in
    let asked = asked_at c.args.words.now in
    let new = c.run_words-status.new.disks in
    told_given (g.D.Disks.past disks) left (λ now given. (asked_verdict now (machine_of g.D.Disks disks) given asked).status ≢ 0 → g.D.Disks.past new ≡ g.D.Disks.past disks)
    (given-map (λ given. LeavesAsked g.D.Disks disks new c.args.time given asked c.run_words-status.result)
    (λ given. Told (g.D.Disks.past disks) (λ now. (asked_verdict now (machine_of g.D.Disks disks) given asked).status ≢ 0 → g.D.Disks.past new ≡ g.D.Disks.past disks)) left
    (λ given leaves. asked_unwritten g.D.Disks disks new c.args.time given c.run_words-status.result c.failed-sink_failed.result c.run_words-status.ensures.known asked leaves)
    c.run_words-status.ensures.leaves)
