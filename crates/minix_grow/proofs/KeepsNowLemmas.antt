-- What growth leaves of all inodes but the directory, on a volume.
use Rattle.std.proofs.Common.{ℕ, List, Result, Ok, Err, OnOk, sym, subst}
use Rattle.disk_trait.specs.declared.disks.Disks.{Ghosts}
use Rattle.disk_trait.specs.Past.{Image}
use Rattle.disk_trait.specs.Moments.{IsTold, now, begun, IsQuiet}
use Rattle.disk_trait.proofs.LawLemmas.{quiet_begun}
use Rattle.lilo_model.specs.MinixNames.{Named, PointsTo, Refers, IsSound}
use Rattle.lilo_model.specs.MinixParts as model
use Rattle.minix_layout.specs.View.{kind_view, super_view}
use Rattle.minix_change_laws.proofs.Seen.{opened}
use Rattle.minix_steps.specs.Written.{parts_now}
use Rattle.minix_turns.specs.Joined.{Unseen}
use Rattle.minix_zones.specs.Volume.{volume_view, past_of}
use Rattle.minix_zones.specs.declared.volume.Volume.{Volume}
use Rattle.minix_grow.specs.Others.{HasOnWay, HasOnWayNow, ChangesZonesNow, KeepsOthers, KeepsOthersNow}
use Rattle.minix_grow.specs.Way.{pointer_above}
use Rattle.minix_grow.specs.Zones.{AreUnused}
use Rattle.minix_grow.proofs.ExtendLemmas.{view_was}
use Rattle.minix_grow.proofs.KeepLemmas.{keeps_none, keeps_join, grown_keeps}

-- what two facts give once a call is done
pub on_both : {E : Type 0} (result : Result (Unit {0}) E) (A B C : Type 0) → OnOk result A → OnOk result B → (A → B → C) → OnOk result C
on_both (Ok value) A B C one two both = both one two
on_both (Err fault) A B C one two both = tt

-- new zones, and then a call by which the directory has each of them
pub grown_keep : {D : Type 0} {disks : Ghosts D} (old mid new : Volume D disks) (directory block : ℕ) (growth : List ℕ) → IsQuiet (past_of old) → (told : IsTold (past_of old)) → IsSound (volume_view old) (now (past_of old))
    → Named (super_view old.layout) (parts_now old) directory → AreUnused old growth → Unseen old mid → ChangesZonesNow old mid growth → KeepsOthersNow mid new directory growth → HasOnWayNow mid new directory block growth
    → KeepsOthersNow old new directory growth
grown_keep old mid new directory block growth quiet told sound named unused unseen change keeps has =
    let P : model.Volume → Type 0 = λ view. KeepsOthers view.layout (model.parts_of view (now (past_of mid))) (model.parts_of view (now (past_of new))) directory growth in
    let H : model.Volume → Type 0 = λ view. HasOnWay view.layout (model.parts_of view (now (past_of new))) directory block growth in
    let has' = view_was old mid H unseen has in
    grown_keeps (super_view old.layout) (parts_now old) (model.parts_of (volume_view old) (now (past_of mid))) (model.parts_of (volume_view old) (now (past_of new))) directory growth
    (opened (volume_view old) (now (past_of old)) sound).parts named
    (λ zone one number at refers.
    let R : Image → Type 0 = λ image. Refers (super_view old.layout) (model.parts_of (volume_view old) image) number at zone in
    let Z : ℕ → Type 0 = λ z. Refers (super_view old.layout) (model.parts_of (volume_view old) (begun (past_of old))) number at z in
    (unused one.at one.low).unused told number at (subst Z (sym one.is) (subst R (sym (quiet_begun (past_of old) told quiet)) refers)))
    (unseen.held told).sees change (view_was old mid P unseen keeps)
    (λ zone one.
    let T : ℕ → Type 0 = λ z. PointsTo (super_view old.layout) (model.parts_of (volume_view old) (now (past_of new))) directory (pointer_above (kind_view old.layout.kind) block one.at) z in
    (pointer_above (kind_view old.layout.kind) block one.at, subst T one.is (has' one.at one.low)))

-- one call after another
pub keeps_after : {D : Type 0} {disks : Ghosts D} (old mid new : Volume D disks) (directory : ℕ) (growth : List ℕ) → Unseen old mid → IsTold (past_of old) → KeepsOthersNow old mid directory growth → KeepsOthersNow mid new directory growth
    → KeepsOthersNow old new directory growth
keeps_after old mid new directory growth unseen told one two =
    let P : model.Volume → Type 0 = λ view. KeepsOthers view.layout (model.parts_of view (now (past_of mid))) (model.parts_of view (now (past_of new))) directory growth in
    keeps_join (super_view old.layout) (parts_now old) (model.parts_of (volume_view old) (now (past_of mid))) (model.parts_of (volume_view old) (now (past_of new))) directory growth (unseen.held told).sees one (view_was old mid P unseen two)

-- no call
pub no_call_keeps : {D : Type 0} {disks : Ghosts D} (volume : Volume D disks) (directory : ℕ) (growth : List ℕ) → KeepsOthersNow volume volume directory growth
no_call_keeps volume directory growth = keeps_none (super_view volume.layout) (parts_now volume) directory growth
