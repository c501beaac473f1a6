-- What streams gain by one write, and by several.
use Rattle.std.proofs.Common.{◌≡◌, ℕ, ◌++◌, List, [], ◌∷◌, length, take, Option, None, Some, Result, Ok, Err, OnOk, IsErrOf, IsErrAnd, refl, sym, ap, ◌∙◌, append_assoc, append-nil, arith}
use Rattle.std.proofs.lemmas.List.{take_all}
use Rattle.std.specs.Io.KnownBytes.{Appends}
use Rattle.sr_outside.specs.Writing.{AppendsPart}
use Rattle.sr_outside.proofs.Pieces.{appends_both}
use Rattle.sr_outside.specs.declared.sink.WriteRefusal.{WriteRefusal}
use Rattle.sr_outside.specs.declared.sink.WriteRefusal.TheVariants.{Failed, Memory}
use Rattle.sr_command.specs.declared.status.Status.{Status}
use Rattle.sr_command.specs.Writes.{Write, out, err, out_bytes, err_bytes, Streams, Gains, here, streams}
use Rattle.sr_command.specs.Courses.{Course, line_ending}
use Rattle.sr_command.specs.Reaching.{ComesTo}

-- a stream that is as before gained nothing
pub appends_nothing : (old new : Option (List ℕ)) → new ≡ old → Appends old new []
appends_nothing None new e = tt
appends_nothing (Some xs) None e = cc
appends_nothing (Some xs) (Some ys) e = let same : ys ≡ xs = cc in same ∙ sym (append-nil xs)

pub nothing_gained : (s : Streams) → Gains s s []
nothing_gained s = record { out_gained = appends_nothing _ _ refl; err_gained = appends_nothing _ _ refl }

pub out_bytes-append : (xs ys : List Write) → out_bytes (xs ++ ys) ≡ out_bytes xs ++ out_bytes ys
out_bytes-append [] ys = refl
out_bytes-append (out bytes ∷ xs) ys = ap (λ more. bytes ++ more) (out_bytes-append xs ys) ∙ sym (append_assoc bytes (out_bytes xs) (out_bytes ys))
out_bytes-append (err bytes ∷ xs) ys = out_bytes-append xs ys

pub err_bytes-append : (xs ys : List Write) → err_bytes (xs ++ ys) ≡ err_bytes xs ++ err_bytes ys
err_bytes-append [] ys = refl
err_bytes-append (out bytes ∷ xs) ys = err_bytes-append xs ys
err_bytes-append (err bytes ∷ xs) ys = ap (λ more. bytes ++ more) (err_bytes-append xs ys) ∙ sym (append_assoc bytes (err_bytes xs) (err_bytes ys))

pub gains_both : (old mid new : Streams) (xs ys : List Write) → Gains old mid xs → Gains mid new ys → Gains old new (xs ++ ys)
gains_both old mid new xs ys first second = record {
  out_gained = rw (out_bytes-append xs ys) (appends_both _ _ _ (out_bytes xs) (out_bytes ys) first.out_gained second.out_gained);
  err_gained = rw (err_bytes-append xs ys) (appends_both _ _ _ (err_bytes xs) (err_bytes ys) first.err_gained second.err_gained);
}

-- one write on the errors
pub err_gains : (o before after : Option (List ℕ)) (bytes : List ℕ) → Appends before after bytes → Gains (streams o before) (streams o after) (err bytes ∷ [])
err_gains o before after bytes a = record { out_gained = appends_nothing o o refl; err_gained = rw append-nil a }

-- one write on the output
pub out_gains : (before after e : Option (List ℕ)) (bytes : List ℕ) → Appends before after bytes → Gains (streams before e) (streams after e) (out bytes ∷ [])
out_gains before after e bytes a = record { out_gained = rw append-nil a; err_gained = appends_nothing e e refl }

-- where nothing was written yet and memory ran out, every course is come to
pub starved_first : (course : Course) (s : Streams) → ComesTo course (Err Memory) s s
starved_first course s = ([], (course.writes, refl), nothing_gained s)

-- a last line, of which as much is shown as the sink took
pub shown_part : {Y : Type 0} (line : List ℕ) (before after : Option (List ℕ)) (r : Result Y WriteRefusal) → OnOk r (Appends before after line)
    → (IsErrOf r Failed → AppendsPart before after line) → (IsErrOf r Memory → after ≡ before) → (n : ℕ) × Appends before after (take n line)
shown_part line before after (Ok y) ok part memory = (length line, rw (take_all (length line) line (omega arith)) ok)
shown_part line before after (Err Failed) ok part memory = let p = part refl in (p.0, p.2)
shown_part line before after (Err Memory) ok part memory = (0, appends_nothing before after (memory refl))

-- what a write of a line came to that was refused, as `?` hands the refusal on
pub comes_line_on : (r : Result Status WriteRefusal) (status : Status) (before after : Option (List ℕ)) (line : List ℕ) (refusal : WriteRefusal) → IsErrAnd r (λ e. e ≡ refusal)
    → (refusal ≡ Failed → AppendsPart before after line) → (refusal ≡ Memory → after ≡ before) → (o : Option (List ℕ)) → ComesTo (line_ending status line) r (streams o before) (streams o after)
comes_line_on (Ok ended) status before after line refusal is part same o = absurd is
comes_line_on (Err Failed) status before after line refusal is part same o = (let p = part (sym is) in (err (take p.0 line) ∷ [], here p.0, err_gains o before after (take p.0 line) p.2))
comes_line_on (Err Memory) status before after line refusal is part same o = rw (same (sym is)) (starved_first (line_ending status line) (streams o before))

-- want of memory, as `?` hands it on
pub is_memory : (r : Result Status WriteRefusal) → IsErrAnd r (λ e. e ≡ Memory) → r ≡ Err Memory
is_memory (Ok status) is = absurd is
is_memory (Err e) is = ap Err is

pub starved_on : (r : Result Status WriteRefusal) (course : Course) (s : Streams) → IsErrAnd r (λ e. e ≡ Memory) → ComesTo course r s s
starved_on r course s is = rw (is_memory r is) (starved_first course s)
