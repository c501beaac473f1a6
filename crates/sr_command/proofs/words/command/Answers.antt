use Rattle.std.proofs.Common.{◌≡◌, length, map, sym, string_bytes, arith}
use Rattle.std.proofs.lemmas.List.{length-map}
use Rattle.sr_command.proofs.Asked.{other_words}
use Rattle.sr_command.proofs.words.command.Goals as goal

pub returns-in-len2 : goal.returns-in-len2
returns-in-len2 c =
    let same : length (map string_bytes c.args.words.now) ≡ length c.args.words.now = length-map c.args.words.now string_bytes in
    sym (other_words (map string_bytes c.args.words.now) (λ e. omega (arith, c.in-len2.len_at_least)) (λ e. omega (arith, c.in-len2.len_below)))

pub returns-in-len4-up : goal.returns-in-len4-up
returns-in-len4-up c =
    let same : length (map string_bytes c.args.words.now) ≡ length c.args.words.now = length-map c.args.words.now string_bytes in
    sym (other_words (map string_bytes c.args.words.now) (λ e. omega (arith, c.in-len4-up.len_at_least)) (λ e. omega (arith, c.in-len4-up.len_at_least)))
