-- UTF-8 by the table is UTF-8 as std has it, and what follows: bytes have one reading or one first fault.
use Rattle.std.proofs.Common.{◌≡◌, ℕ, List, [], ◌∷◌, ◌+◌, ◌<◌, ◌≤◌, ◌++◌, inl, inr, length, take, drop, IsUtf8, Bool, true, false, zero, suc, ◌⊎◌, refl, sym, ap, ◌∙◌, subst, arith, append_assoc, append-nil, length-append}
use Rattle.std.specs.Str.{chars, is_utf8, IsValidUpTo}
use Rattle.std.proofs.Math.Utf8.{encode, encodes, scalar, scalars}
use Rattle.std.proofs.lemmas.Bool.{and_parts, cases_lt, false≢true}
use Rattle.std.proofs.lemmas.List.{take_all, take-append-drop, take-append-le, drop-append-le, length-take-le, length-drop}
use Rattle.std.proofs.Math.Seq.{take-append_seam}
use Rattle.std.proofs.lemmas.Str.{IsUtf8-nil, IsUtf8-from_is_utf8, is_utf8-from_IsUtf8, encodes_same, encodes-chars, scalars-chars, IsUtf8-append, IsUtf8-drop, IsCharBoundary-from_take, length-encode, len_utf8_bounds}
use Rattle.sr_text.specs.Utf8.{IsSequence, IsUtf8Of, nothing, one_more, Decodes, FirstFault, IsTooLong}
use Rattle.sr_text.specs.Encoding.{utf16_of}
use Rattle.sr_text.proofs.Sequences.{encoding_of_sequence, sequence_of_scalar}

-- sequences of the table, one after another, are the encodings of their code points, which are scalar values
pub record IsTextOf (bytes points : List ℕ) : Type 0 where
  pub scalar : scalars points ≡ true
  pub encoded : encodes points ≡ bytes

pub text_of_utf8 : (bytes points : List ℕ) → IsUtf8Of bytes points → IsTextOf bytes points
text_of_utf8 bytes points nothing = record { scalar = refl; encoded = refl }
text_of_utf8 bytes points (one_more {bytes = rest} {points = others} {point = point} sequence more) =
    let first = encoding_of_sequence _ _ sequence in
    let text = text_of_utf8 rest others more in
    record { scalar = rw (first.scalar, text.scalar); encoded = rw (first.encoded, text.encoded) }

pub utf8_of_scalars : (points : List ℕ) → scalars points ≡ true → IsUtf8Of (encodes points) points
utf8_of_scalars [] e = nothing
utf8_of_scalars (point ∷ points) e =
    let parts = and_parts (scalar point) (scalars points) e in one_more (sequence_of_scalar point parts.0) (utf8_of_scalars points parts.1)

pub IsUtf8-from_table : (bytes points : List ℕ) → IsUtf8Of bytes points → IsUtf8 bytes
IsUtf8-from_table bytes points utf8 = let text = text_of_utf8 bytes points utf8 in (points, (text.scalar, text.encoded))

-- no text in UTF-8 at the front reaches past a first fault
sequence_stands : (points bytes rest : List ℕ) → scalars points ≡ true → encodes points ++ rest ≡ bytes → 0 < length (encodes points)
    → ((sequence after : List ℕ) (point : ℕ) → bytes ≡ sequence ++ after → ¬ (IsSequence sequence point)) → ⊥
sequence_stands [] bytes rest s e some none = absurd (omega arith)
sequence_stands (point ∷ points) bytes rest s e some none =
    none (encode point) (encodes points ++ rest) point (sym e ∙ append_assoc (encode point) (encodes points) rest)
    (sequence_of_scalar point (and_parts (scalar point) (scalars points) s).0)

pub fault_after_text : (bytes text rest : List ℕ) (at : ℕ) → FirstFault bytes at → bytes ≡ text ++ rest → IsUtf8 text → length text ≤ at
fault_after_text bytes text rest at fault e utf8 = elim (cases_lt at (length text)) [
  | inr past ↦ past
  | inl within ↦
      let inside : at ≤ length text = omega arith in
      let early : take at bytes ≡ take at text = ap (take at) e ∙ take-append-le at text rest inside in
      let front : IsUtf8 (take at text) = subst IsUtf8 early (IsUtf8-from_table _ _ fault.before.1) in
      let left : IsUtf8 (drop at text) = IsUtf8-drop text at utf8 (IsCharBoundary-from_take text at utf8 inside front) in
      let joined : encodes left.0 ++ rest ≡ drop at bytes =
      ap (λ t. t ++ rest) left.1.1 ∙ sym (drop-append-le at text rest inside) ∙ ap (drop at) (sym e) in
      let some : 0 < length (encodes left.0) = omega (arith, ap length left.1.1, length-drop at text) in
      absurd (sequence_stands left.0 (drop at bytes) rest left.1.0 joined some fault.ill_formed)
]

-- ---- the laws

-- bytes are decoded as one list of code units
pub decoded_once : (bytes units others : List ℕ) → Decodes bytes units → Decodes bytes others → units ≡ others
decoded_once bytes units others one other =
    let first = text_of_utf8 _ _ one.utf8 in
    let second = text_of_utf8 _ _ other.utf8 in
    one.spelled ∙ ap utf16_of (encodes_same one.points other.points (first.encoded ∙ sym second.encoded)) ∙ sym other.spelled

-- bytes that are decoded have no fault
pub no_fault_decoded : (bytes units : List ℕ) (at : ℕ) → Decodes bytes units → ¬ (FirstFault bytes at)
no_fault_decoded bytes units at decodes fault =
    let end : length bytes ≤ at = fault_after_text bytes bytes [] at fault (sym (append-nil bytes)) (IsUtf8-from_table _ _ decodes.utf8) in
    let within = fault.within in
    absurd (omega arith)

-- and they have at most one first fault
fault_before : (bytes : List ℕ) (at other : ℕ) → FirstFault bytes at → FirstFault bytes other → other ≤ at
fault_before bytes at other fault second =
    let within = second.within in
    let front : length (take other bytes) ≡ other = length-take-le other bytes (omega arith) in
    rw front at (fault_after_text bytes (take other bytes) (drop other bytes) at fault (sym (take-append-drop other bytes)) (IsUtf8-from_table _ _ second.before.1))

pub one_first_fault : (bytes : List ℕ) (at other : ℕ) → FirstFault bytes at → FirstFault bytes other → at ≡ other
one_first_fault bytes at other fault second =
    let low = fault_before bytes at other fault second in
    let high = fault_before bytes other at second fault in
    omega arith

-- ---- what std's reader says, in these words

utf8_of_chars : (bytes : List ℕ) → IsUtf8 bytes → IsUtf8Of bytes (chars bytes)
utf8_of_chars bytes utf8 = rw (encodes-chars bytes utf8) at (utf8_of_scalars (chars bytes) (scalars-chars bytes utf8))

pub decodes_chars : (text bytes units : List ℕ) → text ≡ bytes → IsUtf8 bytes → units ≡ utf16_of (chars text) → Decodes bytes units
decodes_chars text bytes units same utf8 e = record {
  points = chars bytes;
  utf8 = utf8_of_chars bytes utf8;
  spelled = e ∙ ap (λ t. utf16_of (chars t)) same;
}

IsUtf8-sequence : (sequence : List ℕ) (point : ℕ) → IsSequence sequence point → IsUtf8 sequence
IsUtf8-sequence sequence point s =
    let one = encoding_of_sequence sequence point s in (point ∷ [], (rw one.scalar, append-nil (encode point) ∙ one.encoded))

IsUtf8-longer : (bytes sequence rest : List ℕ) (at point : ℕ) → IsUtf8 (take at bytes) → at < length bytes
    → drop at bytes ≡ sequence ++ rest → IsSequence sequence point → IsUtf8 (take (at + length sequence) bytes)
IsUtf8-longer bytes sequence rest at point front within e s =
    let whole : bytes ≡ (take at bytes ++ sequence) ++ rest =
    sym (take-append-drop at bytes) ∙ ap (λ t. take at bytes ++ t) e ∙ sym (append_assoc (take at bytes) sequence rest) in
    let reach : at + length sequence ≡ length (take at bytes ++ sequence) =
    ap (λ n. n + length sequence) (sym (length-take-le at bytes (omega arith))) ∙ sym (length-append (take at bytes) sequence) in
    let same : take at bytes ++ sequence ≡ take (at + length sequence) bytes =
    sym (take-append_seam (take at bytes ++ sequence) rest) ∙ ap (λ n. take n ((take at bytes ++ sequence) ++ rest)) (sym reach) ∙ ap (take (at + length sequence)) (sym whole) in
    subst IsUtf8 same (IsUtf8-append (take at bytes) sequence front (IsUtf8-sequence sequence point s))

sequence_some : (sequence : List ℕ) (point : ℕ) → IsSequence sequence point → 0 < length sequence
sequence_some sequence point s =
    let one = encoding_of_sequence sequence point s in
    rw (← one.encoded, length-encode point) (omega (arith, len_utf8_bounds point))

pub first_fault : (bytes : List ℕ) (at : ℕ) → IsValidUpTo bytes at → FirstFault bytes at
first_fault bytes at valid = record {
  within = valid.short;
  before = (chars (take at bytes), utf8_of_chars (take at bytes) valid.front);
  ill_formed = λ sequence rest point e s.
      let some = sequence_some sequence point s in
      valid.longest (at + length sequence) (omega arith) (IsUtf8-longer bytes sequence rest at point valid.front valid.short e s);
}

pub no_fault_chars : (bytes : List ℕ) (at : ℕ) → IsUtf8 bytes → ¬ (FirstFault bytes at)
no_fault_chars bytes at utf8 = no_fault_decoded bytes _ at (decodes_chars bytes bytes _ refl utf8 refl)

pub too_long : (text bytes : List ℕ) → text ≡ bytes → IsUtf8 bytes → 16777216 < length (utf16_of (chars text)) → IsTooLong bytes
too_long text bytes same utf8 long = (utf16_of (chars text), decodes_chars text bytes _ same utf8 refl, long)

pub units_too_long : (text bytes : List ℕ) → text ≡ bytes → IsUtf8 bytes → IsTooLong bytes → 16777216 < length (utf16_of (chars text))
units_too_long text bytes same utf8 long =
    let e = decoded_once bytes long.0 (utf16_of (chars text)) long.1 (decodes_chars text bytes _ same utf8 refl) in
    rw (← e) long.2

-- ---- bytes that are not UTF-8 have a first fault

pub record IsLongestText (bytes : List ℕ) (most len : ℕ) : Type 0 where
  pub within : len ≤ most
  pub front : IsUtf8 (take len bytes)
  pub longest : (n : ℕ) → len < n → n ≤ most → ¬ (IsUtf8 (take n bytes))

longest_text : (bytes : List ℕ) (most : ℕ) → (len : ℕ) × IsLongestText bytes most len
longest_text bytes zero = (0, record { within = omega arith; front = IsUtf8-nil; longest = λ n above below utf8. absurd (omega arith) })
longest_text bytes (suc most) = go (is_utf8 (take (suc most) bytes)) refl (longest_text bytes most) where
  go : (b : Bool) → is_utf8 (take (suc most) bytes) ≡ b → ((len : ℕ) × IsLongestText bytes most len) → (len : ℕ) × IsLongestText bytes (suc most) len
  go true e shorter = (suc most, record { within = omega arith; front = IsUtf8-from_is_utf8 _ e; longest = λ n above below utf8. absurd (omega arith) })
  go false e shorter =
      let so = shorter.1 in
      let within = so.within in (
        shorter.0,
        record {
          within = omega arith;
          front = so.front;
          longest = λ n above below utf8. elim (cases_lt n (suc most)) [
            | inl lower ↦ so.longest n above (omega arith) utf8
            | inr last ↦
                let same : n ≡ suc most = omega arith in
                false≢true (sym e ∙ is_utf8-from_IsUtf8 _ (subst (λ (k : ℕ). IsUtf8 (take k bytes)) same utf8))
          ];
        },
      )

fault_where_not_utf8 : (bytes : List ℕ) → ¬ (IsUtf8 bytes) → (at : ℕ) × FirstFault bytes at
fault_where_not_utf8 bytes not_utf8 =
    let so = longest_text bytes (length bytes) in
    let bound = so.1.within in (
      so.0,
      first_fault bytes so.0 (record {
        short = elim (cases_lt so.0 (length bytes)) [
          | inl short ↦ short
          | inr whole ↦ absurd (not_utf8 (subst IsUtf8 (take_all so.0 bytes whole) so.1.front))
        ];
        front = so.1.front;
        longest = λ n above utf8. elim (cases_lt (length bytes) n) [
          | inl past ↦ not_utf8 (subst IsUtf8 (take_all n bytes (omega arith)) utf8)
          | inr inside ↦ so.1.longest n above inside utf8
        ];
      }),
    )

pub decoded_or_faulty : (bytes : List ℕ) → ((units : List ℕ) × Decodes bytes units) ⊎ ((at : ℕ) × FirstFault bytes at)
decoded_or_faulty bytes = go (is_utf8 bytes) refl where
  go : (b : Bool) → is_utf8 bytes ≡ b → ((units : List ℕ) × Decodes bytes units) ⊎ ((at : ℕ) × FirstFault bytes at)
  go true e = inl (utf16_of (chars bytes), decodes_chars bytes bytes _ refl (IsUtf8-from_is_utf8 bytes e) refl)
  go false e = inr (fault_where_not_utf8 bytes (λ utf8. false≢true (sym e ∙ is_utf8-from_IsUtf8 bytes utf8)))
