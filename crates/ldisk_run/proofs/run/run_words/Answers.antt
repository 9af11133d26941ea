-- What arguments ask for has a path without a zero byte, and those that ask for nothing leave nothing.
use Rattle.std.proofs.Common.{◌≡◌, Some, None, refl, inl, rules}
use Rattle.disk_trait.proofs.ToldLemmas.{told_all}
use Rattle.lilo_model.specs.LdiskVerdict.{silent}
use Rattle.ldisk_files.proofs.StoredLemmas.{given-all}
use Rattle.ldisk_model.specs.Arguments.{asked_at}
use Rattle.ldisk_model.specs.Verdict.{ldisk_verdict}
use Rattle.ldisk_words.specs.View.{asked_view}
use Rattle.ldisk_run.specs.Left.{LeavesAsked}
use Rattle.ldisk_run.specs.Pieces.{held_by}
use Rattle.ldisk_run.proofs.MadeLemmas.{nothing_left, silent_does}
use Rattle.ldisk_run.proofs.PutLemmas.{told_every}
use Rattle.ldisk_run.proofs.WordLemmas.{plain_path}
use Rattle.ldisk_run.proofs.run.run_words.Goals as goal

pub run_command-requires-clause-path : goal.run_command-requires-clause-path
run_command-requires-clause-path g c =
    let is : asked_at c.args.words.now ≡ Some (asked_view c.in-Some.asked) = search rules in
    plain_path c.args.words.now (asked_view c.in-Some.asked) is

pub returns-in-Some-clause-does : goal.returns-in-Some-clause-does
unfolding ldisk_verdict
returns-in-Some-clause-does g c =
    let is : asked_at c.args.words.now ≡ Some (asked_view c.in-Some.asked) = search rules in
    rw is c.run_command.ensures.does

pub returns-in-Some-clause-leaves : goal.returns-in-Some-clause-leaves
returns-in-Some-clause-leaves g c =
    let is : asked_at c.args.words.now ≡ Some (asked_view c.in-Some.asked) = search rules in
    rw is c.run_command.ensures.leaves

pub returns-in-Some-clause-unread : goal.returns-in-Some-clause-unread
returns-in-Some-clause-unread g c =
    let is : asked_at c.args.words.now ≡ Some (asked_view c.in-Some.asked) = search rules in
    rw is c.run_command.ensures.unread

pub returns-in-Some-clause-left_alone : goal.returns-in-Some-clause-left_alone
returns-in-Some-clause-left_alone g c =
    let is : asked_at c.args.words.now ≡ Some (asked_view c.in-Some.asked) = search rules in
    rw is c.run_command.ensures.left_alone

pub returns-in-None-clause-does : goal.returns-in-None-clause-does
unfolding ldisk_verdict
returns-in-None-clause-does g c =
    let is : asked_at c.args.words.now ≡ None = search rules in
    rw is
    (told_every (g.D.Disks.past c.args.disks.now) (g.I.Source.left c.args.source.now) _
    (λ given. told_all (g.D.Disks.past c.args.disks.now) _ (λ now. silent_does (silent 1) 1 (held_by g.O.Sink c.args.out.now) refl (inl refl))))

pub returns-in-None-clause-leaves : goal.returns-in-None-clause-leaves
returns-in-None-clause-leaves g c =
    let is : asked_at c.args.words.now ≡ None = search rules in
    given-all (λ given. LeavesAsked g.D.Disks c.args.disks.now c.args.disks.now c.args.time given (asked_at c.args.words.now) 1) (g.I.Source.left c.args.source.now)
    (λ given. nothing_left g.D.Disks c.args.disks.now c.args.time given (asked_at c.args.words.now) is)

pub returns-in-None-clause-unread : goal.returns-in-None-clause-unread
returns-in-None-clause-unread g c = told_all (g.D.Disks.past c.args.disks.now) _ (λ now none. refl)
