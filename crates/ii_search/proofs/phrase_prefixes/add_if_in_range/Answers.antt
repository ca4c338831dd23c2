use Rattle.std.proofs.Common.{◌≡◌, ◌∙◌, ◌<◌, ◌&&◌, true, length, nat_lt, rules, sym}
use Rattle.std.specs.List.{list_all}
use Rattle.std.proofs.lemmas.Bool.{and_parts}
use Rattle.ii_query_parser.specs.declared.query.PhraseTerm.{PhraseTerm}
use Rattle.ii_query_parser.specs.Ranges.{in_range}
use Rattle.ii_query_parser.proofs.PhrasePrefixLemmas.{fields_of_each}
use Rattle.ii_search.proofs.phrase_prefixes.add_if_in_range.Goals as goal

pub returns-in-Err-clause-refused : goal.returns-in-Err-clause-refused
returns-in-Err-clause-refused c =
    let inside : in_range c.args.phrase.now.last c.args.key.now ≡ true = search rules in
    (inside, c.in-Err.ensures.refused c.args.key.now)

pub add_phrase-added-requires-clause-last : goal.add_phrase-added-requires-clause-last
add_phrase-added-requires-clause-last c =
    let n = length c.args.index.now.readers in
    let p = c.args.phrase.now in
    let all = sym (fields_of_each n p) ∙ c.requires.fields in
    let others = (and_parts (nat_lt p.first.field n) (list_all (λ (o : PhraseTerm). nat_lt o.term.field n) p.others.items && nat_lt p.last.prefix.field n) all).1 in
    let last : nat_lt p.last.prefix.field n ≡ true = (and_parts (list_all (λ (o : PhraseTerm). nat_lt o.term.field n) p.others.items) (nat_lt p.last.prefix.field n) others).1 in
    search rules
