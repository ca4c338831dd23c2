use Rattle.ii_query_grammar.specs.Parsed.{stack_of}
use Rattle.ii_query_grammar.proofs.query_grammar.read_one.Goals as goal

pub returns-in-Opening : goal.returns-in-Opening
returns-in-Opening c = rw (c.in-Opening.is) c.open.ensures

pub returns-in-Minus : goal.returns-in-Minus
returns-in-Minus c = rw (c.in-Minus.is) (c.after_sign.ensures _ _ c.put_minus.ensures.put c.put_minus.ensures.only)

pub returns-in-And : goal.returns-in-And
returns-in-And c = rw (c.in-And.is) (c.after_sign-in-And.ensures _ _ c.put_and.ensures tt)

pub returns-in-Or : goal.returns-in-Or
returns-in-Or c = rw (c.in-Or.is) (c.after_sign-in-Or.ensures _ _ c.put_or.ensures.put c.put_or.ensures.only)

pub returns-in-Set : goal.returns-in-Set
returns-in-Set c = rw (c.in-Set.is) (c.put_set.ensures (stack_of c.args.opened.now.items) c.args.token.at)
