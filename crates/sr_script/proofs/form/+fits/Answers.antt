use Rattle.sr_script.proofs.Fitting.{may_be_declared, never_declared}
use Rattle.sr_script.proofs.form.+fits.Goals as goal

pub declaration_fits-returns-then-may_declare : goal.declaration_fits-returns-then-may_declare
declaration_fits-returns-then-may_declare t c =
    may_be_declared c.args.names.now c.args.declaration.now c.units.result.now c.may_declare.result c.fits_if_there.result c.may_declare.ensures c.units.ensures.value c.if-may_declare.true c.fits_if_there.ensures

pub declaration_fits-returns-else-may_declare : goal.declaration_fits-returns-else-may_declare
declaration_fits-returns-else-may_declare t c =
    never_declared c.args.names.now c.args.declaration.now c.units.result.now c.may_declare.result c.may_declare.ensures c.units.ensures.value c.if-may_declare.false
