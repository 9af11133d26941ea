-- A survey: the root by its bitmap bit, its size and its mode, and then all from it on.
use Rattle.std.proofs.Common.{◌≡◌, ◌≤◌, [], true, false, Result, Ok, Err, refl, sym, ◌∙◌, subst, arith, rules}
use Rattle.disk_trait.specs.Past.{Told}
use Rattle.lilo_model.specs.MinixFind.{readable}
use Rattle.lilo_model.specs.MinixLayout.{Inode as NodeOf, is_size}
use Rattle.lilo_model.specs.MinixParts.{parts_of, is_directory}
use Rattle.lilo_model.specs.MinixSurvey.{surveyable, survey}
use Rattle.minix_layout.specs.View.{kind_view, super_view, inode_view}
use Rattle.minix_layout.specs.declared.superblock.Super.{Super as SuperOf}
use Rattle.minix_zones.specs.Volume.{volume_view, past_of, faults_of}
use Rattle.minix_zones.proofs.SameLemmas.{told_back}
use Rattle.minix_tree.specs.declared.tree_fault.TreeFault.TheVariants as trees
use Rattle.minix_survey.specs.declared.findings.Findings.{Findings}
use Rattle.minix_survey.specs.declared.survey_fault.SurveyFault.{SurveyFault}
use Rattle.minix_survey.specs.declared.survey_fault.SurveyFault.TheVariants as faults
use Rattle.minix_survey.specs.Step.{Finds, Meets, IsReadRefusal, all_from, seen_in}
use Rattle.minix_survey.proofs.CarryLemmas.{node_on}
use Rattle.minix_survey.proofs.ReadLemmas.{size-refused}
use Rattle.minix_survey.proofs.RootLemmas.{root_at, root-unmarked, root-sized, root-plain, found-by, refused-by, none-judged, some-inode}
use Rattle.minix_survey.proofs.StepLemmas.{told_one, told_both, same_then}
use Rattle.minix_survey.proofs.walk.survey_root.Goals as goal

pub is_marked_inode-requires-clause-there : goal.is_marked_inode-requires-clause-there
is_marked_inode-requires-clause-there g c = some-inode (super_view c.args.volume.now.layout) _ c.args.volume.now.whole.passes

pub read_inode-requires-clause-there : goal.read_inode-requires-clause-there
read_inode-requires-clause-there g c =
    some-inode (super_view c.is_marked_inode.new.volume.layout) _ c.is_marked_inode.new.volume.whole.passes

pub meet_all-requires-clause-node : goal.meet_all-requires-clause-node
meet_all-requires-clause-node g c =
    let mid = c.is_marked_inode.new.volume in
    node_on mid c.read_inode.new.volume root_at c.in_ok-root.root c.in_ok-root.ensures.same
    (record {
      some = omega arith;
      there = some-inode (super_view mid.layout) _ mid.whole.passes;
      sized = c.in_ok-root.ensures.sized;
      is = c.in_ok-root.ensures.node;
      root = λ e. sym c.is_directory.ensures ∙ c.if-not-is_directory.false;
    })

pub returns-then-not-marked-clause-found : goal.returns-then-not-marked-clause-found
returns-then-not-marked-clause-found g c =
    let old = c.args.volume.now in
    told_one
    {A = λ now. c.in_ok-marked.marked ≡ (parts_of (volume_view old) now).has_inode 1}
    {B = λ now. Finds (Err (faults.UnmarkedInode 1)) (super_view old.layout) (parts_of (volume_view old) now)}
    (past_of old)
    (λ now is. root-unmarked (super_view old.layout) (parts_of (volume_view old) now) (sym is ∙ c.if-not-marked.true))
    c.in_ok-marked.ensures.value

pub returns-in_err-root-clause-found : goal.returns-in_err-root-clause-found
returns-in_err-root-clause-found g c =
    let old = c.args.volume.now in
    let mid = c.is_marked_inode.new.volume in
    let fault = c.in_err-root.field-0.0 in
    let given : c.from_residual-in_err-root.result ≡ Err fault = search rules in
    subst (λ (r : Result Findings SurveyFault). Told (past_of old) (λ now. Finds r (super_view old.layout) (parts_of (volume_view old) now))) (sym given)
    (told_both
    {A = λ now. c.in_ok-marked.marked ≡ (parts_of (volume_view old) now).has_inode 1}
    {B = λ now. IsReadRefusal fault (readable (super_view old.layout) (parts_of (volume_view old) now) 1)}
    {C = λ now. Finds (Err fault) (super_view old.layout) (parts_of (volume_view old) now)}
    (past_of old)
    (λ now on read.
    size-refused 1 (faults_of mid) (faults_of c.read_inode.new.volume) (survey (super_view old.layout) (parts_of (volume_view old) now)) fault
    (is_size (kind_view old.layout.kind) ((parts_of (volume_view old) now).node 1).size) c.in_err-root.ensures.cause
    (λ size. root-sized (super_view old.layout) (parts_of (volume_view old) now) (sym on ∙ c.if-not-marked.false) size) read)
    c.in_ok-marked.ensures.value
    (told_back old mid (λ volume now. IsReadRefusal fault (readable volume.layout (parts_of volume now) 1)) c.in_ok-marked.ensures.same c.in_err-root.ensures.refused))

pub returns-then-not-is_directory-clause-found : goal.returns-then-not-is_directory-clause-found
returns-then-not-is_directory-clause-found g c =
    let old = c.args.volume.now in
    let mid = c.is_marked_inode.new.volume in
    let root = inode_view c.in_ok-root.root in
    let same = c.in_ok-marked.ensures.same in
    let plain : is_directory root ≡ false = sym c.is_directory.ensures ∙ c.if-not-is_directory.true in
    let sized = subst (λ (l : SuperOf). is_size (kind_view l.kind) root.size ≡ true) same.same_layout c.in_ok-root.ensures.sized in
    told_both
    {A = λ now. c.in_ok-marked.marked ≡ (parts_of (volume_view old) now).has_inode 1}
    {B = λ now. root ≡ (parts_of (volume_view old) now).node 1}
    {C = λ now. Finds (Err (faults.Tree (trees.NotDirectory 0))) (super_view old.layout) (parts_of (volume_view old) now)}
    (past_of old)
    (λ now on is. (
      refl,
      root-plain (super_view old.layout) (parts_of (volume_view old) now) (sym on ∙ c.if-not-marked.false)
          (subst (λ (n : NodeOf). is_size (kind_view old.layout.kind) n.size ≡ true) is sized) (subst (λ (n : NodeOf). is_directory n ≡ false) is plain),
    ))
    c.in_ok-marked.ensures.value
    (told_back old mid (λ volume now. root ≡ (parts_of volume now).node 1) same c.in_ok-root.ensures.node)

pub returns-in_err-meet_all-clause-found : goal.returns-in_err-meet_all-clause-found
returns-in_err-meet_all-clause-found g c =
    let old = c.args.volume.now in
    let mid = c.is_marked_inode.new.volume in
    let high = c.read_inode.new.volume in
    let before = c.new-tables.result in
    let after = c.meet_all.new.tables in
    let fault = c.in_err-meet_all.field-0.0 in
    let given : c.from_residual-in_err-meet_all.result ≡ Err fault = search rules in
    subst (λ (r : Result Findings SurveyFault). Told (past_of old) (λ now. Finds r (super_view old.layout) (parts_of (volume_view old) now))) (sym given)
    (told_one
    {A = λ now. Meets (Err fault) before after (all_from root_at (seen_in old now)) (seen_in old now)}
    {B = λ now. Finds (Err fault) (super_view old.layout) (parts_of (volume_view old) now)}
    (past_of old)
    (λ now meets. refused-by (super_view old.layout) (parts_of (volume_view old) now) root_at after fault refl (meets [] c.new-tables.ensures (none-judged (seen_in old now))))
    (told_back old high (λ volume now. Meets (Err fault) before after (all_from root_at (surveyable volume.layout (parts_of volume now))) (surveyable volume.layout (parts_of volume now)))
    (same_then old mid high c.in_ok-marked.ensures.same c.in_ok-root.ensures.same) c.in_err-meet_all.ensures.meets))

pub returns-clause-found : goal.returns-clause-found
returns-clause-found g c =
    let old = c.args.volume.now in
    let mid = c.is_marked_inode.new.volume in
    let high = c.read_inode.new.volume in
    let before = c.new-tables.result in
    let after = c.meet_all.new.tables in
    told_one
    {A = λ now. Meets (Ok tt) before after (all_from root_at (seen_in old now)) (seen_in old now)}
    {B = λ now. Finds (Ok c.found.result) (super_view old.layout) (parts_of (volume_view old) now)}
    (past_of old)
    (λ now meets. found-by (super_view old.layout) (parts_of (volume_view old) now) root_at after c.found.result refl (meets [] c.new-tables.ensures (none-judged (seen_in old now))) c.found.ensures)
    (told_back old high (λ volume now. Meets (Ok tt) before after (all_from root_at (surveyable volume.layout (parts_of volume now))) (surveyable volume.layout (parts_of volume now)))
    (same_then old mid high c.in_ok-marked.ensures.same c.in_ok-root.ensures.same) c.in_ok-meet_all.ensures.meets)
