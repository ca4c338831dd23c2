use Rattle.ii_promises.proofs.PlainLaws.{plain_calls}
use Rattle.ii_promises.proofs.indexing.texts_and_numbers_are_indexed.Goals as goal

pub orderly_calls_are_indexed-requires-clause-orderly : goal.orderly_calls_are_indexed-requires-clause-orderly
orderly_calls_are_indexed-requires-clause-orderly c = (plain_calls c.args.schema c.args.calls.items c.requires.plain c.requires.size).0

pub orderly_calls_are_indexed-requires-clause-positions : goal.orderly_calls_are_indexed-requires-clause-positions
orderly_calls_are_indexed-requires-clause-positions c = (plain_calls c.args.schema c.args.calls.items c.requires.plain c.requires.size).1

pub orderly_calls_are_indexed-requires-clause-tokens : goal.orderly_calls_are_indexed-requires-clause-tokens
orderly_calls_are_indexed-requires-clause-tokens c = (plain_calls c.args.schema c.args.calls.items c.requires.plain c.requires.size).2
