-- What is printed of a refusal is the model's line.
use Rattle.std.proofs.Common.{◌≡◌, ℕ, List, ◌++◌, codes, decimal, Option, None, Some, Err, refl, sym, ◌∙◌, ap, append_assoc}
use Rattle.std.specs.Option.{option_map}
use Rattle.lilo_model.specs.ConfOptions.{opt_name}
use Rattle.lilo_model.specs.MinixFind as find
use Rattle.lilo_model.specs.MinixParts as parts
use Rattle.lilo_model.specs.PlanRefusal as model
use Rattle.lilo_model.specs.Refusal.{refusal_line}
use Rattle.conf_settings.specs.View.{opt_view}
use Rattle.setup_header.specs.View.{setup_fault_view}
use Rattle.mbr_table.specs.View.{table_fault_view}
use Rattle.minix_layout.specs.View.{layout_fault_view}
use Rattle.minix_tree.specs.View as tree_views
use Rattle.minix_tree.specs.declared.tree_fault.TreeFault.{TreeFault}
use Rattle.minix_tree.specs.declared.tree_fault.TreeFault.TheVariants as trees
use Rattle.minix_zones.specs.declared.zone_fault.ZoneFault.{ZoneFault}
use Rattle.minix_zones.specs.declared.zone_fault.ZoneFault.TheVariants as zones
use Rattle.sector_address.specs.View.{address_fault_view}
use Rattle.minix_choice.specs.View as write_views
use Rattle.minix_choice.specs.declared.write_fault.WriteFault.{WriteFault}
use Rattle.minix_choice.specs.declared.write_fault.WriteFault.TheVariants as writes
use Rattle.map_plan.specs.View as plan_views
use Rattle.map_plan.specs.declared.fault.PlanFault.{PlanFault}
use Rattle.map_plan.specs.declared.fault.PlanFault.TheVariants as plans
use Rattle.write_model.specs.Wish as rooms
use Rattle.install_apart.specs.Faults.{IsOfPath}
use Rattle.install_laws.specs.InstallVerdict.{Reading, NotSound, NotApart, BadName, NoPlan, NoLink, NoRoom, install_line, name_refusal_line, plan_kind, room_text}
use Rattle.install_order.specs.Faults.{IsOfFile}
use Rattle.install_order.specs.declared.fault.InstallFault.TheVariants as faults
use Rattle.install_run.specs.AnswerLaws.{StatusLaw, TextLaw}
use Rattle.install_run.specs.Texts.{path_text, plan_status, plan_text, write_text}

-- a path's
path_line : (path : List ℕ) (fault : TreeFault) (why : find.TreeFault) → tree_views.Refuses {B = ℕ} fault (Err why) → IsOfPath fault → codes "lilo: " ++ path_text path fault ≡ name_refusal_line path why
unfolding refusal_line
path_line path (trees.NotFound position) why refuses own = let is : why ≡ find.NotFound position = cc in rw is refl
path_line path (trees.NotDirectory position) why refuses own = let is : why ≡ find.NotDirectory position = cc in rw is refl
path_line path trees.NotFile why refuses own = let is : why ≡ find.NotFile = cc in rw is refl
path_line path trees.TooManyLinks why refuses own = let is : why ≡ find.TooManyLinks = cc in rw is refl
path_line path (trees.BadEntry directory) why refuses own = let is : why ≡ find.BadEntry directory = cc in rw is refl
path_line path trees.PathTooLong why refuses own = let is : why ≡ find.PathTooLong = cc in rw is refl
path_line path (trees.Zone (zones.Layout fault)) why refuses own = let is : why ≡ find.Zone (parts.Layout (layout_fault_view fault)) = cc in rw is refl
path_line path (trees.Zone (zones.ZoneOutside zone)) why refuses own = let is : why ≡ find.Zone (parts.ZoneOutside zone) = cc in rw is refl
path_line path (trees.Zone zones.Device) why refuses own = absurd (own tt)
path_line path trees.Memory why refuses own = absurd (own tt)

-- a plan's
abbrev line_of : model.PlanFault → List ℕ
line_of why = codes "lilo: " ++ plan_kind (model.plan_status why) ++ model.plan_text why ++ codes "\n"

plan_line : (fault : PlanFault) (why : model.PlanFault) → plan_views.plan_refusal fault ≡ Some why → codes "lilo: " ++ plan_text fault ≡ line_of why
unfolding model.plan_text
plan_line (plans.Missing text) why is = let same : why ≡ model.Missing text = cc in rw same refl
plan_line plans.NoImagesLeft why is = let same : why ≡ model.NoImagesLeft = cc in rw same refl
plan_line (plans.Header path fault) why is = let same : why ≡ model.Header path (setup_fault_view fault) = cc in rw same refl
plan_line (plans.Address which fault) why is = let same : why ≡ model.Address (opt_view which) (address_fault_view fault) = cc in rw same refl
plan_line (plans.TooManySlots which slots) why is =
    let same : why ≡ model.TooManySlots (opt_view which) slots = cc in
    rw same (sym (append_assoc (codes "lilo: address: " ++ (opt_name (opt_view which) ++ codes " slots " ++ decimal slots)) (codes " over 4128705") (codes "\n")))
plan_line (plans.GeometryDiffers which have) why is = let same : why ≡ model.GeometryDiffers (opt_view which) have = cc in rw same refl
plan_line (plans.OtherIsBoot path) why is = let same : why ≡ model.OtherIsBoot path = cc in rw same refl
plan_line (plans.NoSignature path) why is = let same : why ≡ model.NoSignature path = cc in rw same refl
plan_line (plans.MessageTooLong size) why is =
    let same : why ≡ model.MessageTooLong size = cc in
    rw same (sym (append_assoc (codes "lilo: address: message " ++ decimal size) (codes " over 65535") (codes "\n")))
plan_line (plans.Table fault) why is = let same : why ≡ model.Table (table_fault_view fault) = cc in rw same refl
plan_line (plans.Tree path fault) why is = tree_by (plan_views.tree_refusal fault) is
  where
    tree_by : (found : Option find.TreeFault) → option_map (model.Tree path) found ≡ Some why → codes "lilo: volume: path " ++ path ++ codes "\n" ≡ line_of why
    tree_by None same = cc
    tree_by (Some inner) same = let e : why ≡ model.Tree path inner = cc in rw e refl
plan_line plans.Device why is = cc
plan_line plans.Memory why is = cc

-- a file's
write_line : (fault : WriteFault) (why : rooms.Refusal) → write_views.Refuses {B = ℕ} fault (Err why) → IsOfFile fault → codes "lilo: " ++ write_text fault ≡ codes "lilo: space: " ++ room_text why ++ codes "\n"
write_line (writes.NoSpace need found) why refuses own = let same : why ≡ rooms.NoSpace need found = cc in rw same refl
write_line writes.NoInode why refuses own = let same : why ≡ rooms.NoInode = cc in rw same refl
write_line writes.NameTooLong why refuses own = let same : why ≡ rooms.NameTooLong = cc in rw same refl
write_line writes.Exists why refuses own = let same : why ≡ rooms.Exists = cc in rw same refl
write_line writes.Links why refuses own = absurd refuses
write_line (writes.Tree fault) why refuses own = tree_by fault refuses
  where
    zone_by : (zone : ZoneFault) → write_views.RefusesZone {B = ℕ} zone (Err why) → codes "lilo: space: \n" ≡ codes "lilo: space: " ++ room_text why ++ codes "\n"
    zone_by (zones.Layout inner) is = let same : why ≡ rooms.Tree (find.Zone (parts.Layout (layout_fault_view inner))) = cc in rw same refl
    zone_by (zones.ZoneOutside zone) is = let same : why ≡ rooms.Tree (find.Zone (parts.ZoneOutside zone)) = cc in rw same refl
    zone_by zones.Device is = absurd is

    tree_by : (tree : TreeFault) → write_views.RefusesTree {B = ℕ} tree (Err why) → codes "lilo: space: \n" ≡ codes "lilo: space: " ++ room_text why ++ codes "\n"
    tree_by (trees.NotFound position) is = absurd is
    tree_by (trees.NotDirectory position) is = absurd is
    tree_by trees.NotFile is = absurd is
    tree_by trees.TooManyLinks is = absurd is
    tree_by (trees.BadEntry directory) is = absurd is
    tree_by trees.PathTooLong is = absurd is
    tree_by (trees.Zone zone) is = zone_by zone is
    tree_by trees.Memory is = absurd is
write_line writes.Device why refuses own = absurd own
write_line writes.Memory why refuses own = absurd own

pub text_law : TextLaw
unfolding install_line
text_law (faults.Survey fault) phase (NotSound why) refuses own = refl
text_law (faults.NotApart opt) phase (NotApart which) refuses own = rw refuses refl
text_law (faults.Path text fault) phase (BadName refusal) refuses own = path_line text fault refusal.fault refuses.1 own ∙ ap (λ (path : List ℕ). name_refusal_line path refusal.fault) (sym refuses.0)
text_law (faults.Plan fault) phase (NoPlan why) refuses own = plan_line fault why refuses
text_law (faults.Write fault) phase NoLink refuses own = rw refuses refl
text_law (faults.Write fault) phase (NoRoom why) refuses own = write_line fault why refuses own
text_law (faults.Survey fault) phase (Reading it) refuses own = absurd refuses
text_law (faults.Survey fault) phase (NotApart it) refuses own = absurd refuses
text_law (faults.Survey fault) phase (BadName it) refuses own = absurd refuses
text_law (faults.Survey fault) phase (NoPlan it) refuses own = absurd refuses
text_law (faults.Survey fault) phase NoLink refuses own = absurd refuses
text_law (faults.Survey fault) phase (NoRoom it) refuses own = absurd refuses
text_law (faults.NotApart which) phase (Reading it) refuses own = absurd refuses
text_law (faults.NotApart which) phase (NotSound it) refuses own = absurd refuses
text_law (faults.NotApart which) phase (BadName it) refuses own = absurd refuses
text_law (faults.NotApart which) phase (NoPlan it) refuses own = absurd refuses
text_law (faults.NotApart which) phase NoLink refuses own = absurd refuses
text_law (faults.NotApart which) phase (NoRoom it) refuses own = absurd refuses
text_law (faults.Path text fault) phase (Reading it) refuses own = absurd refuses
text_law (faults.Path text fault) phase (NotSound it) refuses own = absurd refuses
text_law (faults.Path text fault) phase (NotApart it) refuses own = absurd refuses
text_law (faults.Path text fault) phase (NoPlan it) refuses own = absurd refuses
text_law (faults.Path text fault) phase NoLink refuses own = absurd refuses
text_law (faults.Path text fault) phase (NoRoom it) refuses own = absurd refuses
text_law (faults.Plan fault) phase (Reading it) refuses own = absurd refuses
text_law (faults.Plan fault) phase (NotSound it) refuses own = absurd refuses
text_law (faults.Plan fault) phase (NotApart it) refuses own = absurd refuses
text_law (faults.Plan fault) phase (BadName it) refuses own = absurd refuses
text_law (faults.Plan fault) phase NoLink refuses own = absurd refuses
text_law (faults.Plan fault) phase (NoRoom it) refuses own = absurd refuses
text_law (faults.Write fault) phase (Reading it) refuses own = absurd refuses
text_law (faults.Write fault) phase (NotSound it) refuses own = absurd refuses
text_law (faults.Write fault) phase (NotApart it) refuses own = absurd refuses
text_law (faults.Write fault) phase (BadName it) refuses own = absurd refuses
text_law (faults.Write fault) phase (NoPlan it) refuses own = absurd refuses
text_law faults.Device phase refusal refuses own = absurd own
text_law faults.Memory phase refusal refuses own = absurd own

-- ---- the exit status

plan_same : (fault : PlanFault) (why : model.PlanFault) → plan_views.plan_refusal fault ≡ Some why → plan_status fault ≡ model.plan_status why
plan_same (plans.Missing text) why is = let same : why ≡ model.Missing text = cc in rw same refl
plan_same plans.NoImagesLeft why is = let same : why ≡ model.NoImagesLeft = cc in rw same refl
plan_same (plans.Header path fault) why is = let same : why ≡ model.Header path (setup_fault_view fault) = cc in rw same refl
plan_same (plans.Address which fault) why is = let same : why ≡ model.Address (opt_view which) (address_fault_view fault) = cc in rw same refl
plan_same (plans.TooManySlots which slots) why is = let same : why ≡ model.TooManySlots (opt_view which) slots = cc in rw same refl
plan_same (plans.GeometryDiffers which have) why is = let same : why ≡ model.GeometryDiffers (opt_view which) have = cc in rw same refl
plan_same (plans.OtherIsBoot path) why is = let same : why ≡ model.OtherIsBoot path = cc in rw same refl
plan_same (plans.NoSignature path) why is = let same : why ≡ model.NoSignature path = cc in rw same refl
plan_same (plans.MessageTooLong size) why is = let same : why ≡ model.MessageTooLong size = cc in rw same refl
plan_same (plans.Table fault) why is = let same : why ≡ model.Table (table_fault_view fault) = cc in rw same refl
plan_same (plans.Tree path fault) why is = by (plan_views.tree_refusal fault) is
  where
    by : (found : Option find.TreeFault) → option_map (model.Tree path) found ≡ Some why → 3 ≡ model.plan_status why
    by None same = cc
    by (Some inner) same = let e : why ≡ model.Tree path inner = cc in rw e refl
plan_same plans.Device why is = cc
plan_same plans.Memory why is = cc

pub status_law : StatusLaw
status_law (faults.Survey fault) phase (NotSound why) refuses own = refl
status_law (faults.NotApart opt) phase (NotApart which) refuses own = refl
status_law (faults.Path text fault) phase (BadName refusal) refuses own = refl
status_law (faults.Plan fault) phase (NoPlan why) refuses own = plan_same fault why refuses
status_law (faults.Write fault) phase NoLink refuses own = refl
status_law (faults.Write fault) phase (NoRoom why) refuses own = refl
status_law (faults.Survey fault) phase (Reading it) refuses own = absurd refuses
status_law (faults.Survey fault) phase (NotApart it) refuses own = absurd refuses
status_law (faults.Survey fault) phase (BadName it) refuses own = absurd refuses
status_law (faults.Survey fault) phase (NoPlan it) refuses own = absurd refuses
status_law (faults.Survey fault) phase NoLink refuses own = absurd refuses
status_law (faults.Survey fault) phase (NoRoom it) refuses own = absurd refuses
status_law (faults.NotApart which) phase (Reading it) refuses own = absurd refuses
status_law (faults.NotApart which) phase (NotSound it) refuses own = absurd refuses
status_law (faults.NotApart which) phase (BadName it) refuses own = absurd refuses
status_law (faults.NotApart which) phase (NoPlan it) refuses own = absurd refuses
status_law (faults.NotApart which) phase NoLink refuses own = absurd refuses
status_law (faults.NotApart which) phase (NoRoom it) refuses own = absurd refuses
status_law (faults.Path text fault) phase (Reading it) refuses own = absurd refuses
status_law (faults.Path text fault) phase (NotSound it) refuses own = absurd refuses
status_law (faults.Path text fault) phase (NotApart it) refuses own = absurd refuses
status_law (faults.Path text fault) phase (NoPlan it) refuses own = absurd refuses
status_law (faults.Path text fault) phase NoLink refuses own = absurd refuses
status_law (faults.Path text fault) phase (NoRoom it) refuses own = absurd refuses
status_law (faults.Plan fault) phase (Reading it) refuses own = absurd refuses
status_law (faults.Plan fault) phase (NotSound it) refuses own = absurd refuses
status_law (faults.Plan fault) phase (NotApart it) refuses own = absurd refuses
status_law (faults.Plan fault) phase (BadName it) refuses own = absurd refuses
status_law (faults.Plan fault) phase NoLink refuses own = absurd refuses
status_law (faults.Plan fault) phase (NoRoom it) refuses own = absurd refuses
status_law (faults.Write fault) phase (Reading it) refuses own = absurd refuses
status_law (faults.Write fault) phase (NotSound it) refuses own = absurd refuses
status_law (faults.Write fault) phase (NotApart it) refuses own = absurd refuses
status_law (faults.Write fault) phase (BadName it) refuses own = absurd refuses
status_law (faults.Write fault) phase (NoPlan it) refuses own = absurd refuses
status_law faults.Device phase refusal refuses own = absurd own
status_law faults.Memory phase refusal refuses own = absurd own
