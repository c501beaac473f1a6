use Rattle.std.proofs.Common.{◌≡◌, length, arith}
use Rattle.std.specs.Char.Escape.{encode_utf16}
use Rattle.sr_text.proofs.Texts.{counted_further, all_counted, length-of_char, units_within_bytes}
use Rattle.sr_text.proofs.utf8.units_len.Goals as goal

pub overflow_add-len : goal.overflow_add-len
overflow_add-len c =
    let more : c.len_utf16-len.result ≡ length (encode_utf16 c.in-Some.c) = length-of_char _ _ c.len_utf16-len.ensures.bmp c.len_utf16-len.ensures.surrogate_pair in
    let next = counted_further _ _ _ _ _ _ c.loop-c.invariant c.in-Some.ensures.steps.0 more in
    let counted = next.counted in
    let within = units_within_bytes c.args.text.now c.utf8.text in
    omega arith

pub loop-c-preserved : goal.loop-c-preserved
loop-c-preserved c =
    counted_further _ _ _ _ _ _ c.loop-c.invariant c.in-Some.ensures.steps.0
    (length-of_char _ _ c.len_utf16-len.ensures.bmp c.len_utf16-len.ensures.surrogate_pair)

pub returns : goal.returns
returns c = all_counted _ _ _ c.loop-c.invariant c.in-None.ensures.steps.0.0
