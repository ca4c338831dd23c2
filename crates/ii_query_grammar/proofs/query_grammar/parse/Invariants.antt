use Rattle.std.proofs.Common.{◌≡◌, length}
use Rattle.ii_query_grammar.specs.declared.query_grammar.TheConstants.{MAX_NESTING}
use Rattle.ii_query_grammar.specs.Parsed.{group_of, parsed, read, stack_of}
use Rattle.ii_query_grammar.proofs.query_grammar.parse.Given as goal

-- the lexemes that are left give, after what was read, what the whole text gives
abbrev pub invariant-loop-token : goal.invariant-loop-token
invariant-loop-token l = read MAX_NESTING (length l.text) (stack_of l.opened.items) (group_of l.group) l.lexer ≡ parsed MAX_NESTING l.text

abbrev pub decreases-loop-token : goal.decreases-loop-token
decreases-loop-token l = length l.lexer
