use Rattle.std.proofs.Common.{◌≡◌, ◌⊎◌, inl, inr, true, ap, ◌∙◌}
use Rattle.sr_ast.specs.declared.operators.BinaryOp.{BinaryOp}
use Rattle.sr_ast.specs.declared.operators.BinaryOp.TheVariants as op
use Rattle.sr_conv.specs.Plain.{value_of}
use Rattle.sr_conv.proofs.Cuts.{is_of_numbers, arithmetic_is}
use Rattle.sr_conv.proofs.operators.operate.Goals as goal

of_numbers : (o : BinaryOp)
    → (o ≡ op.Power) ⊎ ((o ≡ op.Multiply) ⊎ ((o ≡ op.Divide) ⊎ ((o ≡ op.Remainder) ⊎ ((o ≡ op.Subtract) ⊎ ((o ≡ op.ShiftLeft) ⊎ ((o ≡ op.ShiftRight) ⊎ ((o ≡ op.ShiftRightUnsigned) ⊎ ((o ≡ op.And) ⊎ ((o ≡ op.Xor) ⊎ (o ≡ op.Or))))))))))
    → is_of_numbers o ≡ true
of_numbers o h = elim h [ inl e ↦ ap is_of_numbers e | inr h ↦ elim h [ inl e ↦ ap is_of_numbers e | inr h ↦ elim h [ inl e ↦ ap is_of_numbers e | inr h ↦ elim h [ inl e ↦ ap is_of_numbers e | inr h ↦ elim h [ inl e ↦ ap is_of_numbers e | inr h ↦ elim h [ inl e ↦ ap is_of_numbers e | inr h ↦ elim h [ inl e ↦ ap is_of_numbers e | inr h ↦ elim h [ inl e ↦ ap is_of_numbers e | inr h ↦ elim h [ inl e ↦ ap is_of_numbers e | inr h ↦ elim h [ inl e ↦ ap is_of_numbers e | inr h ↦ ap is_of_numbers h ] ] ] ] ] ] ] ] ] ]

pub returns-in-Power-clause-same : goal.returns-in-Power-clause-same
returns-in-Power-clause-same c = c.arithmetic.ensures.same ∙ arithmetic_is c.args.op (value_of c.args.x.now) (value_of c.args.y.now) (of_numbers c.args.op c.in-Power.is)
