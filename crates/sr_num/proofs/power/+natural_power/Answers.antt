use Rattle.std.proofs.Common.{◌^◌, ◌≡◌, arith, ap, ◌∙◌, sym, refl}
use Rattle.sr_num.specs.declared.power.TheConstants.{MAX_SIZE}
use Rattle.sr_num.proofs.Powers.{pow-even, pow-odd, half_above, square_above, pow-of_zero}
use Rattle.sr_num.proofs.power.+natural_power.Goals as goal

pub returns-then-base-eq0 : goal.returns-then-base-eq0
returns-then-base-eq0 t c =
    let zero_power : c.args.base ^ c.args.exponent ≡ 0 =
    ap (λ b. b ^ c.args.exponent) c.if-base-eq0.true ∙ pow-of_zero c.args.exponent c.if-exponent-eq0.false
    in
    (omega (arith, zero_power), sym zero_power)

pub returns-in_err-root : goal.returns-in_err-root
returns-in_err-root t c =
    rw c.from_residual.ensures (half_above c.args.base c.args.exponent MAX_SIZE c.if-base-eq0.false c.in_err-root.ensures)

pub returns-in_err-square : goal.returns-in_err-square
returns-in_err-square t c =
    rw c.from_residual-in_err-square.ensures (square_above c.args.base c.args.exponent c.in_ok-root.root MAX_SIZE c.if-base-eq0.false c.in_ok-root.ensures.1 c.in_err-square.ensures)

pub returns-then-exponent-eq0-2 : goal.returns-then-exponent-eq0-2
returns-then-exponent-eq0-2 t c =
    rw (pow-even c.args.base c.args.exponent c.if-exponent-eq0-2.true, ← c.in_ok-root.ensures.1, ← c.in_ok-square.ensures.1) (omega (arith, c.in_ok-square.ensures.0, c.in_ok-square.ensures.1), refl)

pub returns-else-exponent-eq0-2 : goal.returns-else-exponent-eq0-2
returns-else-exponent-eq0-2 t c =
    rw (pow-odd c.args.base c.args.exponent c.if-exponent-eq0-2.false, ← c.in_ok-root.ensures.1, ← c.in_ok-square.ensures.1) c.product_in_range-else-exponent-eq0-2.ensures
