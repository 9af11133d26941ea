-- An entry is judged by the inode that it names, by its name, and by the links of that inode.
use Rattle.std.proofs.Common.{◌≡◌, ◌≢◌, ◌≤◌, ◌<◌, ℕ, ◌+◌, ◌∷◌, ◌||◌, ◌&&◌, ◌==◌, Bool, true, false, Ok, Err, refl, sym, ◌∙◌, ap, subst, arith, rules}
use Rattle.std.proofs.lemmas.Bool.{OnTrue_at}
use Rattle.disk_trait.specs.Past.{Image}
use Rattle.lilo_model.specs.MinixFind.{readable}
use Rattle.lilo_model.specs.MinixLayout.{is_size}
use Rattle.lilo_model.specs.MinixParts.{parts_of, is_directory}
use Rattle.lilo_model.specs.MinixSurvey.{has_name, names_of, was_reached, judged, Stands}
use Rattle.minix_layout.specs.View.{kind_view, super_view, inode_view}
use Rattle.minix_zones.specs.Volume.{volume_view, past_of, faults_of}
use Rattle.minix_survey.specs.Findings.{names_in}
use Rattle.minix_survey.specs.Step.{seen_in, entry_seen, IsReadRefusal}
use Rattle.minix_survey.specs.Tables.{entry_in, reached_in, Renames}
use Rattle.minix_survey.specs.View.{spot_view}
use Rattle.minix_survey.proofs.JudgeLemmas.{bad-as, name-far, name-sized, name-bad, name-again, name-few, name-good, not-false, not-true}
use Rattle.minix_survey.proofs.ReadLemmas.{size-refused}
use Rattle.minix_survey.proofs.StepLemmas.{one_step, told_any, same_refl}
use Rattle.minix_survey.proofs.TableLemmas.{tells-named}
use Rattle.minix_survey.proofs.walk.meet_name.Goals as goal

pub returns-then-entry-from-clause-steps : goal.returns-then-entry-from-clause-steps
returns-then-entry-from-clause-steps g c =
    let old = c.args.volume.now in
    let inodes : c.from.result ≡ old.layout.inodes = c.from.ensures ∙ ap (λ l. l.inodes) c.layout.ensures.value in
    let far : old.layout.inodes < c.args.entry.now.inode = let more = c.if-entry-from.true in omega (arith, inodes, more) in
    one_step old _ _ _ _ _
    (λ now. Unit {0})
    (told_any (past_of old) (λ now. Unit {0}) (λ now. tt))
    (λ now any met tells good. name-far (seen_in old now) met good (spot_view c.args.spot) c.args.place (entry_seen c.args.entry.now) c.requires.plain far)
    tt (omega arith) (same_refl old)

pub returns-in_err-node-clause-steps : goal.returns-in_err-node-clause-steps
returns-in_err-node-clause-steps g c =
    let old = c.args.volume.now in
    let inode = c.args.entry.now.inode in
    let spot = spot_view c.args.spot in
    let what = entry_seen c.args.entry.now in
    let fault = c.in_err-node.field-0.0 in
    let inodes : c.from.result ≡ old.layout.inodes = c.from.ensures ∙ ap (λ l. l.inodes) c.layout.ensures.value in
    let near : inode ≤ old.layout.inodes = let more = c.if-entry-from.false in omega (arith, inodes, more) in
    let given : c.from_residual.result ≡ Err fault = search rules in
    rw given
    (one_step old c.read_inode.new.volume c.args.tables.now c.args.tables.now (Err fault) _
    (λ now. IsReadRefusal fault (readable (super_view old.layout) (parts_of (volume_view old) now) inode))
    c.in_err-node.ensures.refused
    (λ now read met tells good.
    size-refused inode (faults_of old) (faults_of c.read_inode.new.volume) (judged (seen_in old now) (Stands spot c.args.place what ∷ met)) fault
    (is_size (kind_view old.layout.kind) ((parts_of (volume_view old) now).node inode).size) c.in_err-node.ensures.cause
    (λ size. name-sized (seen_in old now) met good spot c.args.place what c.requires.plain near size) read)
    c.in_err-node.ensures.cause c.in_err-node.ensures.later c.in_err-node.ensures.same)

pub returns-then-bad-clause-steps : goal.returns-then-bad-clause-steps
returns-then-bad-clause-steps g c =
    let old = c.args.volume.now in
    let inode = c.args.entry.now.inode in
    let spot = spot_view c.args.spot in
    let what = entry_seen c.args.entry.now in
    let node = inode_view c.in_ok-node.node in
    let inodes : c.from.result ≡ old.layout.inodes = c.from.ensures ∙ ap (λ l. l.inodes) c.layout.ensures.value in
    let near : inode ≤ old.layout.inodes = let more = c.if-entry-from.false in omega (arith, inodes, more) in
    one_step old _ _ _ _ _
    (λ now. node ≡ (parts_of (volume_view old) now).node inode)
    c.in_ok-node.ensures.node
    (λ now is met tells good.
    let bad = bad-as node _ is inode _ _ (tells.reached inode) _ (sym c.is_bad_name-bad.ensures ∙ c.if-bad.true) in
    let sized = subst (λ n. is_size (kind_view old.layout.kind) n.size ≡ true) is c.in_ok-node.ensures.sized in
    name-bad (seen_in old now) met good spot c.args.place what (record { plain = c.requires.plain; near = near; sized = sized }) bad)
    tt c.in_ok-node.ensures.later c.in_ok-node.ensures.same

pub returns-then-not-added-clause-steps : goal.returns-then-not-added-clause-steps
returns-then-not-added-clause-steps g c =
    let old = c.args.volume.now in
    let inode = c.args.entry.now.inode in
    let spot = spot_view c.args.spot in
    let what = entry_seen c.args.entry.now in
    let node = inode_view c.in_ok-node.node in
    let inodes : c.from.result ≡ old.layout.inodes = c.from.ensures ∙ ap (λ l. l.inodes) c.layout.ensures.value in
    let near : inode ≤ old.layout.inodes = let more = c.if-entry-from.false in omega (arith, inodes, more) in
    let there : entry_in c.args.tables.now spot.inode what.name ≡ true = not-false _ (sym c.in_ok-added.ensures.added ∙ c.if-not-added.true) in
    one_step old _ _ _ _ _
    (λ now. node ≡ (parts_of (volume_view old) now).node inode)
    c.in_ok-node.ensures.node
    (λ now is met tells good.
    let bad = bad-as node _ is inode _ _ (tells.reached inode) _ (sym c.is_bad_name-bad.ensures ∙ c.if-bad.false) in
    let sized = subst (λ n. is_size (kind_view old.layout.kind) n.size ≡ true) is c.in_ok-node.ensures.sized in
    let has : has_name met spot.inode what.name ≡ true = sym (tells.entries spot.inode what.name) ∙ there in
    name-again (seen_in old now) met good spot c.args.place what (record { plain = c.requires.plain; near = near; sized = sized }) bad has)
    tt c.in_ok-node.ensures.later c.in_ok-node.ensures.same

pub returns-then-names-from-clause-steps : goal.returns-then-names-from-clause-steps
returns-then-names-from-clause-steps g c =
    let old = c.args.volume.now in
    let inode = c.args.entry.now.inode in
    let spot = spot_view c.args.spot in
    let what = entry_seen c.args.entry.now in
    let node = inode_view c.in_ok-node.node in
    let inodes : c.from.result ≡ old.layout.inodes = c.from.ensures ∙ ap (λ l. l.inodes) c.layout.ensures.value in
    let near : inode ≤ old.layout.inodes = let more = c.if-entry-from.false in omega (arith, inodes, more) in
    let new : entry_in c.args.tables.now spot.inode what.name ≡ false = not-true _ (sym c.in_ok-added.ensures.added ∙ c.if-not-added.false) in
    let enters = OnTrue_at c.if-not-added.false c.in_ok-added.ensures.enters in
    let count : c.names-names.result ≡ names_in c.args.tables.now.found inode = c.names-names.ensures ∙ ap (λ f. names_in f inode) enters.found in
    let few : node.links ≤ names_in c.args.tables.now.found inode = let links = c.from-2.ensures in let more = c.if-names-from.true in omega (arith, count, links, more) in
    one_step old _ _ _ _ _
    (λ now. node ≡ (parts_of (volume_view old) now).node inode)
    c.in_ok-node.ensures.node
    (λ now is met tells good.
    let bad = bad-as node _ is inode _ _ (tells.reached inode) _ (sym c.is_bad_name-bad.ensures ∙ c.if-bad.false) in
    let sized = subst (λ n. is_size (kind_view old.layout.kind) n.size ≡ true) is c.in_ok-node.ensures.sized in
    let has : has_name met spot.inode what.name ≡ false = sym (tells.entries spot.inode what.name) ∙ new in
    let less = subst (λ n. n.links ≤ names_of met inode) is (subst (λ k. node.links ≤ k) (tells.found.names inode) few) in
    name-few (seen_in old now) met good spot c.args.place what (record { plain = c.requires.plain; near = near; sized = sized }) bad has less)
    tt c.in_ok-node.ensures.later c.in_ok-node.ensures.same

pub returns-clause-steps : goal.returns-clause-steps
returns-clause-steps g c =
    let old = c.args.volume.now in
    let inode = c.args.entry.now.inode in
    let spot = spot_view c.args.spot in
    let what = entry_seen c.args.entry.now in
    let node = inode_view c.in_ok-node.node in
    let inodes : c.from.result ≡ old.layout.inodes = c.from.ensures ∙ ap (λ l. l.inodes) c.layout.ensures.value in
    let near : inode ≤ old.layout.inodes = let more = c.if-entry-from.false in omega (arith, inodes, more) in
    let new : entry_in c.args.tables.now spot.inode what.name ≡ false = not-true _ (sym c.in_ok-added.ensures.added ∙ c.if-not-added.false) in
    let enters = OnTrue_at c.if-not-added.false c.in_ok-added.ensures.enters in
    let count : c.names-names.result ≡ names_in c.args.tables.now.found inode = c.names-names.ensures ∙ ap (λ f. names_in f inode) enters.found in
    let more : names_in c.args.tables.now.found inode < node.links = let links = c.from-2.ensures in let less = c.if-names-from.false in omega (arith, count, links, less) in
    let renames = subst (λ k. Renames c.stand.new.self c.set_names.new.self inode (k + 1)) count c.in_ok-set_names.ensures in
    one_step old _ _ _ _ _
    (λ now. node ≡ (parts_of (volume_view old) now).node inode)
    c.in_ok-node.ensures.node
    (λ now is met tells good.
    let bad = bad-as node _ is inode _ _ (tells.reached inode) _ (sym c.is_bad_name-bad.ensures ∙ c.if-bad.false) in
    let sized = subst (λ n. is_size (kind_view old.layout.kind) n.size ≡ true) is c.in_ok-node.ensures.sized in
    let has : has_name met spot.inode what.name ≡ false = sym (tells.entries spot.inode what.name) ∙ new in
    let enough = subst (λ n. names_of met inode < n.links) is (subst (λ k. k < node.links) (tells.found.names inode) more) in (
      name-good (seen_in old now) met good spot c.args.place what (record { plain = c.requires.plain; near = near; sized = sized }) bad has enough,
      tells-named c.args.tables.now c.stand.new.self spot c.args.place what enters met tells c.set_names.new.self renames c.requires.plain,
    ))
    tt c.in_ok-node.ensures.later c.in_ok-node.ensures.same
