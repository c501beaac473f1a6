use Rattle.std.proofs.Common.{◌≡◌, ◌≤◌, ℕ, List, Result, Ok, Err, drop, length}
use Rattle.std.specs.Prelude.{IfOk, IfSome}
use Rattle.std.proofs.lemmas.List.{take_rest}
use Rattle.sr_lex.specs.Templates.{backquote, TemplatePiece, IsPiece}
use Rattle.sr_lex.specs.Scan.{literal}
use Rattle.sr_lex.proofs.StringsComplete.{piece_read}
use Rattle.sr_lex.proofs.reading.piece_value.Goals as goal

-- what is known of the value read
abbrev IsRead : List ℕ → List ℕ → Type 0
IsRead us items = IfSome (literal (length (drop 1 us)) backquote (drop 1 us)) (λ l. items ≡ l.value)

is_value : {V E : Type 0} (view : V → List ℕ) (us : List ℕ) (r : Result V E) → IsPiece us → IfOk r (λ v. IsRead us (view v)) → IfOk r (λ v. TemplatePiece us (view v))
is_value view us (Ok v) l h = (piece_read l.1 (view v) h).0
is_value view us (Err e) l h = h

is_within : {V E : Type 0} (view : V → List ℕ) (us : List ℕ) (r : Result V E) → IsPiece us → IfOk r (λ v. IsRead us (view v)) → IfOk r (λ v. length (view v) ≤ length us)
is_within view us (Ok v) l h = (piece_read l.1 (view v) h).1
is_within view us (Err e) l h = h

pub returns : goal.returns
returns c =
    let us = c.args.piece.now in
    let r = c.literal_value.result in
    let read : IfOk r (λ v. IsRead us v.items) = rw take_rest at c.literal_value.ensures in
    record {
      value = is_value (λ v. v.items) us r c.requires.piece read;
      within = is_within (λ v. v.items) us r c.requires.piece read;
    }
