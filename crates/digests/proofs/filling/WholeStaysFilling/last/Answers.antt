use Rattle.std.proofs.Common.{◌∙◌, sym, ap}
use Rattle.forms.specs.Filling.{filled}
use Rattle.forms.proofs.Fillings.{filled_end}
use Rattle.digests.proofs.filling.WholeStaysFilling.last.Goals as goal

pub returns : goal.returns
returns c = ap filled (sym c.as_slice.ensures.bytes)
    ∙ filled_end c.as_slice.result.now c.as_slice.ensures.within ∙ sym c.complete.ensures
