-- The file that a path leads to.
use Rattle.std.proofs.Common.{◌≡◌, Ok, Err, rules, sym, ◌∙◌}
use Rattle.lilo_model.specs.Checks.{◌>>=◌, with_fault}
use Rattle.lilo_model.specs.MinixParts.{parts_of}
use Rattle.lilo_model.specs.MinixFind.{Zone}
use Rattle.minix_layout.specs.View.{inode_view}
use Rattle.minix_zones.specs.Volume.{volume_view, past_of}
use Rattle.minix_zones.proofs.SameLemmas.{told_back}
use Rattle.minix_tree.specs.View.{Refuses}
use Rattle.minix_tree.proofs.WalkLemmas.{told_same}
use Rattle.slot_lists.specs.Runs.{places_in}
use Rattle.file_runs.specs.Places.{file_places}
use Rattle.file_runs.specs.Mapped.{file_mapped}
use Rattle.file_runs.proofs.MappedLemmas.{path-refused, not-file, file-there, sectors-refused, sectors-found}
use Rattle.file_runs.proofs.path.map_file.Goals as goal

pub returns-in_err-stat-clause-file : goal.returns-in_err-stat-clause-file
returns-in_err-stat-clause-file g c =
    let given : c.from_residual.result ≡ Err (c.in_err-stat.field-0.0) = search rules in
    rw given
    (path-refused (volume_view c.args.volume.now) c.args.path.now (past_of c.args.volume.now) (c.in_err-stat.field-0.0) c.in_err-stat.ensures.found)

pub returns-then-not-is_file-clause-file : goal.returns-then-not-is_file-clause-file
returns-then-not-is_file-clause-file g c =
    not-file (volume_view c.args.volume.now) c.args.path.now c.in_ok-stat.stat.inode (inode_view c.in_ok-stat.stat.node) (past_of c.args.volume.now)
    c.in_ok-stat.ensures.found c.in_ok-stat.ensures.node (sym c.is_file.ensures ∙ c.if-not-is_file.true)

pub returns-in_err-runs-clause-file : goal.returns-in_err-runs-clause-file
returns-in_err-runs-clause-file g c =
    let given : c.from_residual-in_err-runs.result ≡ Err (c.in_err-runs.field-0.0) = search rules in
    let volume = volume_view c.args.volume.now in
    let node = inode_view c.in_ok-stat.stat.node in
    let so = file-there volume c.args.path.now c.in_ok-stat.stat.inode node (past_of c.args.volume.now)
    c.in_ok-stat.ensures.found c.in_ok-stat.ensures.node (sym c.is_file.ensures ∙ c.if-not-is_file.false) in
    let refused = told_back c.args.volume.now c.lookup.new.volume
    (λ volume now. Refuses (c.in_err-runs.field-0.0) (with_fault Zone (file_places volume (parts_of volume now) node)))
    c.lookup.ensures.same c.in_err-runs.ensures.places in
    rw given
    (told_same (past_of c.args.volume.now) (Refuses (c.in_err-runs.field-0.0))
    (λ now. file_mapped volume (parts_of volume now) c.args.path.now)
    (λ now. with_fault Zone (file_places volume (parts_of volume now) node) >>= λ places. Ok (record { size = node.size; places = places }))
    so
    (sectors-refused (past_of c.args.volume.now) (c.in_err-runs.field-0.0) (λ now. with_fault Zone (file_places volume (parts_of volume now) node)) (λ places. Ok (record { size = node.size; places = places })) refused))

pub returns-clause-file : goal.returns-clause-file
returns-clause-file g c =
    let volume = volume_view c.args.volume.now in
    let node = inode_view c.in_ok-stat.stat.node in
    let places = places_in c.in_ok-runs.runs in
    let so = file-there volume c.args.path.now c.in_ok-stat.stat.inode node (past_of c.args.volume.now)
    c.in_ok-stat.ensures.found c.in_ok-stat.ensures.node (sym c.is_file.ensures ∙ c.if-not-is_file.false) in
    let found = told_back c.args.volume.now c.lookup.new.volume
    (λ volume now. with_fault Zone (file_places volume (parts_of volume now) node) ≡ Ok places)
    c.lookup.ensures.same c.in_ok-runs.ensures.places in
    told_same (past_of c.args.volume.now) (λ one. one ≡ Ok (record { size = node.size; places = places }))
    (λ now. file_mapped volume (parts_of volume now) c.args.path.now)
    (λ now. with_fault Zone (file_places volume (parts_of volume now) node) >>= λ places. Ok (record { size = node.size; places = places }))
    so
    (sectors-found (past_of c.args.volume.now) (λ now. with_fault Zone (file_places volume (parts_of volume now) node)) (λ places. Ok (record { size = node.size; places = places })) places found)
