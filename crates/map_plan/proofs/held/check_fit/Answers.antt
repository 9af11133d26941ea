-- What a layout refuses, but for the memory's size, is what is refused.
use Rattle.std.proofs.Common.{◌≡◌, Err, Result, refl, sym, ap, ◌∙◌, rules}
use Rattle.lilo_model.specs.Checks.{◌>>=◌}
use Rattle.lilo_model.specs.Header.{Header, SetupFault, fit_checks}
use Rattle.setup_header.specs.View.{header_view, layout_view, setup_fault_view}
use Rattle.map_plan.proofs.FitLemmas.{plan-fits, plan-refused}
use Rattle.map_plan.proofs.held.check_fit.Goals as goal

pub returns-in_err-header : goal.returns-in_err-header
returns-in_err-header c =
    let given : c.from_residual.result ≡ Err (c.in_err-header.field-0.0) = search rules in
    rw given
    (ap (λ (header : Result Header SetupFault). header >>= λ header. fit_checks header c.args.start.now.size c.args.initrd c.args.line) c.in_err-header.ensures.header)

pub returns-in-Ok : goal.returns-in-Ok
returns-in-Ok c =
    sym (ap (λ (header : Result Header SetupFault). header >>= λ header. fit_checks header c.args.start.now.size c.args.initrd c.args.line) (sym c.in_ok-header.ensures.header)
    ∙ plan-fits (header_view c.in_ok-header.header) c.args.start.now.size c.args.initrd c.args.line _ (layout_view c.in-Ok.field-0) (sym c.in-Ok.ensures.plan))

pub returns-in-Err : goal.returns-in-Err
returns-in-Err c =
    c.but_room.ensures
    ∙ sym (ap (λ (header : Result Header SetupFault). header >>= λ header. fit_checks header c.args.start.now.size c.args.initrd c.args.line) (sym c.in_ok-header.ensures.header)
    ∙ plan-refused (header_view c.in_ok-header.header) c.args.start.now.size c.args.initrd c.args.line _ (setup_fault_view c.in-Err.fault) _ refl (sym c.in-Err.ensures.plan))
