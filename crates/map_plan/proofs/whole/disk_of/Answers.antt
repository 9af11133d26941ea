-- A disk with sectors is one of four.
use Rattle.std.proofs.Common.{◌≡◌, ◌≤◌, ℕ, ◌+◌, ◌*◌, Bool, true, false, Result, Ok, refl, sym, ap, subst, arith}
use Rattle.std.specs.Prelude.{nat_le, ◌&&◌}
use Rattle.std.proofs.lemmas.Bool.Decides.{nat_tests}
use Rattle.disk_trait.specs.declared.disks.Span.{Span}
use Rattle.lilo_model.specs.Checks.{◌>>=◌, require}
use Rattle.lilo_model.specs.MinixLayout.{Super, LayoutFault, super_checks}
use Rattle.minix_zones.specs.Volume.{count_of}
use Rattle.map_plan.proofs.whole.disk_of.Goals as goal

some-sectors : (super : Super) (sectors : ℕ) → super_checks super sectors ≡ Ok tt → 1 ≤ sectors
unfolding super_checks
some-sectors super sectors passes =
    let both : (nat_le 1 super.zones && nat_le (2 * super.zones) sectors) ≡ true = by _ _ _ _ _ passes in
    grind (arith, nat_tests)
  where
    by : (first second : Bool) (one other : LayoutFault) (rest : Result (Unit {0}) LayoutFault)
        → (require first one >>= λ a. require second other >>= λ b. rest) ≡ Ok tt → second ≡ true
    by true true one other rest is = refl
    by true false one other rest is = cc
    by false second one other rest is = cc

few-by : (disk count size start sectors : ℕ) → count ≤ 4 → (count ≤ disk → size ≡ 0) → start + sectors ≤ size → 1 ≤ sectors → disk ≤ 3
few-by disk count size start sectors few absent on some = grind arith

pub returns-clause-few : goal.returns-clause-few
returns-clause-few g c =
    let sectors = ap (λ (span : Span). span.count) c.span-disk.ensures.value in
    few-by c.span-disk.result.disk (count_of c.args.volume.now) c.size.result c.span-disk.result.start c.span-disk.result.count
    (subst (λ (count : ℕ). count ≤ 4) c.count.ensures.count c.count.ensures.few) c.size.ensures.absent
    (subst (λ (size : ℕ). c.span-disk.result.start + c.span-disk.result.count ≤ size) (sym c.size.ensures.size) c.span-disk.ensures.on_disk)
    (subst (λ (sectors : ℕ). 1 ≤ sectors) (sym sectors) (some-sectors _ _ c.layout.ensures.whole.passes))
