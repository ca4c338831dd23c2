use Rattle.ii_termdict.proofs.DictionaryLemmas.{dictionary-opened, no_dictionary}
use Rattle.ii_termdict.proofs.key_parts.opened.Goals as goal

pub unreachable-requires : goal.unreachable-requires
unreachable-requires c = no_dictionary c.args.bytes.now c.in-None.ensures.value c.requires

pub returns-clause-valid : goal.returns-clause-valid
returns-clause-valid c = (dictionary-opened c.args.bytes.now c.in-Some.parts.num_terms c.in-Some.parts.ends.now c.in-Some.parts.body.now c.in-Some.ensures.value c.in-Some.ensures.there c.requires).0

pub returns-clause-entries : goal.returns-clause-entries
returns-clause-entries c = (dictionary-opened c.args.bytes.now c.in-Some.parts.num_terms c.in-Some.parts.ends.now c.in-Some.parts.body.now c.in-Some.ensures.value c.in-Some.ensures.there c.requires).1
