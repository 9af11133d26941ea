-- The zones so far are plain where a boot may look at them.
use Rattle.std.proofs.Common.{◌≡◌, ◌<◌, ◌≤◌, ◌*◌, ℕ, List, true}
use Rattle.disk_trait.specs.Past.{Told}
use Rattle.lilo_model.specs.MinixParts.{parts_of}
use Rattle.lilo_model.specs.MinixSurvey.{Met}
use Rattle.minix_steps.specs.Numbers.{has_number}
use Rattle.minix_zones.specs.Volume.{volume_view, past_of, faults_of, SameVolume}
use Rattle.install_laws.specs.InstallVerdict.{is_plain_sector}
use Rattle.present_map.specs.Clear.{IsFound}
use Rattle.present_map.proofs.clear.is_clear.Given as goal

abbrev pub invariant-loop-zone : goal.invariant-loop-zone
invariant-loop-zone g l = record {
  plain : Told (past_of l.fn.volume) (λ now. (met : List Met) → IsFound (volume_view l.fn.volume) now l.findings met
      → (zone : ℕ) → zone < l.zone → has_number l.old.met.zones zone ≡ true
      → is_plain_sector (volume_view l.fn.volume) (parts_of (volume_view l.fn.volume) now) met (2 * zone) ≡ true);
  later : faults_of l.fn.volume ≤ faults_of l.volume;
  same : SameVolume l.fn.volume l.volume;
}
