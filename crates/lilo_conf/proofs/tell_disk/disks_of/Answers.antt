use Rattle.std.proofs.Common.{◌≡◌, ◌+◌, ◌-◌, [], ◌∷◌, length, take, drop, refl, add-one, drop-cons, append_assoc, append-nil, arith}
use Rattle.std.proofs.lemmas.List.{drop_all, take_all, length-drop, map-append}
use Rattle.lilo_model.specs.Conf.{disks_of}
use Rattle.conf_settings.specs.View.{setting_view, settings_view}
use Rattle.lilo_conf.specs.View.{disk_view}
use Rattle.lilo_conf.proofs.DiskLemmas.{disks_of-some, disks_of-none}
use Rattle.lilo_conf.proofs.tell_disk.disks_of.Goals as goal
use Rattle.lilo_conf.proofs.tell_disk.disks_of.Goals.{in-Some+in_ok-push, in_default}

pub loop-index-preserved : goal.loop-index-preserved
loop-index-preserved c =
    let all = c.args.settings.now in
    let index = c.loop-index.index in
    let setting = c.index-settings-index.result in
    let here : drop index all ≡ setting ∷ drop (index + 1) all =
    rw (add-one, drop-cons all index setting c.loop-index-test.true, ← c.index-settings-index.is) refl in
    let rest : take (length all - (index + 1)) (drop (index + 1) all) ≡ drop (index + 1) all = take_all _ _ (rw length-drop (omega arith)) in
    elim c.match-disk_at.branch [
      | in-Some+in_ok-push w ↦
          let some = disks_of-some (setting_view setting) (settings_view (drop (index + 1) all)) (disk_view w.in-Some.disk) (rw rest at w.in-Some.ensures) in
          rw (w.disks-is, w.in_ok-push.ensures.items, map-append, append_assoc) (rw (here, some) at c.loop-index.invariant)
      | in_default w ↦
          let none = disks_of-none (setting_view setting) (settings_view (drop (index + 1) all)) (rw rest at w.in_default.ensures) in
          rw w.disks-is (rw (here, none) at c.loop-index.invariant)
    ]

pub returns : goal.returns
unfolding disks_of
returns c =
    let none : drop c.loop-index.index c.args.settings.now ≡ [] = drop_all c.loop-index.index c.args.settings.now (omega arith) in
    rw (c.new.ensures, ← c.loop-index.invariant, none, append-nil) refl
