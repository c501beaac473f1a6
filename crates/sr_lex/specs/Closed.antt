-- Where no comment closes.
use Rattle.std.specs.Prelude.{◌≡◌, ℕ, false, List, None}
use Rattle.sr_lex.specs.Scan.{block_from}

-- no `*/` stands in the units
abbrev pub NoClose : List ℕ → Type 0
NoClose us = block_from 0 false us ≡ None
