-- From the global environment no way leads to another one.
use Rattle.std.proofs.Common.{◌≡◌, ℕ, zero, suc, List, Option, None, refl, sym, ap, ◌∙◌}
use Rattle.sr_tag.specs.Reference.{Reference}
use Rattle.sr_model.specs.Environments as spec
use Rattle.sr_heap.specs.Plain.{scope_of}

outward : (d : ℕ) (es : List spec.Environment) (x : List ℕ) → spec.holder_along d es 0 x ≡ 0
outward zero es x = refl
outward (suc d) es x = outward d es x

pub from_global : (d : ℕ) (es : List spec.Environment) (x : List ℕ) (next : Option Reference) (whole : ℕ) → next ≡ None → spec.holder_along d es (scope_of next) x ≡ whole → 0 ≡ whole
from_global d es x next whole is way = sym (outward d es x) ∙ sym (ap (λ (o : Option Reference). spec.holder_along d es (scope_of o) x) is) ∙ way
