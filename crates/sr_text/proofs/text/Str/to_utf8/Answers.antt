use Rattle.std.proofs.Common.{◌≡◌, ℕ, List, sym, subst, arith}
use Rattle.std.proofs.lemmas.Grind.{common_steps}
use Rattle.sr_text.specs.Encoding.{points_of, utf8_of}
use Rattle.sr_text.specs.Utf8.{IsUtf8Of}
use Rattle.sr_text.proofs.Encoding.{utf8_of_text}
use Rattle.sr_text.proofs.text.Str.to_utf8.Goals as goal

pub returns-clause-well_formed : goal.returns-clause-well_formed
returns-clause-well_formed c =
    let same : c.into_bytes.result.items ≡ utf8_of c.args.self.now = grind (arith, common_steps) in
    subst (λ (bytes : List ℕ). IsUtf8Of bytes (points_of c.args.self.now)) (sym same) (utf8_of_text c.args.self.now c.units.ensures.text)
