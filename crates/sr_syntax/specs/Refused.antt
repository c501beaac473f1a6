-- Why a text has no tokens, as a reason that it has no tree.
use Rattle.sr_lex.specs.declared.token.LexRefusal.{LexRefusal}
use Rattle.sr_lex.specs.declared.token.LexRefusal.TheVariants as lexical
use Rattle.sr_syntax.specs.declared.refusal.Refusal.{Refusal}
use Rattle.sr_syntax.specs.declared.refusal.Refusal.TheVariants.{Memory, Syntax}

abbrev pub refused : LexRefusal → Refusal
refused (lexical.Syntax place) = Syntax place
refused lexical.Memory = Memory
