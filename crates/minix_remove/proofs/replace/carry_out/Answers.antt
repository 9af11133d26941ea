-- A renaming that is carried out: into an absent name, one of the same inode, or one of another.
use Rattle.std.proofs.Common.{Option, sym, subst}
use Rattle.minix_remove.specs.Renamed.{CarriesOut}
use Rattle.minix_remove.specs.declared.target.Target.{Target}
use Rattle.minix_remove.proofs.RenamedLemmas.{carries_same}
use Rattle.minix_remove.proofs.replace.carry_out.Goals as goal

pub returns-in_default-clause-carries : goal.returns-in_default-clause-carries
returns-in_default-clause-carries g c =
    let C : Option Target → Type 0 = λ f. CarriesOut c.args.volume.now c.rename_entry.new.volume c.args.to.now c.args.renaming.now.moved f c.rename_entry.result in
    subst C (sym c.in_default.is) c.rename_entry.ensures.carries

pub returns-then-former-renaming-clause-carries : goal.returns-then-former-renaming-clause-carries
returns-then-former-renaming-clause-carries g c =
    let C : Option Target → Type 0 = λ f. CarriesOut c.args.volume.now c.take_away.new.volume c.args.to.now c.args.renaming.now.moved f c.take_away.result in
    subst C (sym c.in-Some.is) (λ directory from may.
    carries_same c.args.volume.now c.take_away.new.volume directory from c.args.to.now c.args.renaming.now.moved c.in-Some.former c.if-former-renaming.true may c.take_away.result
    (c.take_away.ensures.takes directory from (λ told. (may told).leads)))

pub returns-else-former-renaming-clause-carries : goal.returns-else-former-renaming-clause-carries
returns-else-former-renaming-clause-carries g c =
    let C : Option Target → Type 0 = λ f. CarriesOut c.args.volume.now c.replace_file.new.volume c.args.to.now c.args.renaming.now.moved f c.replace_file.result in
    subst C (sym c.in-Some.is) c.replace_file.ensures.carries
