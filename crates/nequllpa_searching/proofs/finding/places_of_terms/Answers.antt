use Rattle.std.proofs.Common.{◌<◌, length, rules}
use Rattle.nequllpa_searching.proofs.QueryLemmas.{terms_field, terms_next, terms_refused}
use Rattle.nequllpa_searching.proofs.finding.places_of_terms.Goals as goal

pub returns-in-Err-clause-refused : goal.returns-in-Err-clause-refused
returns-in-Err-clause-refused c =
    let l = c.loop-term in
    let inside : l.term-index < length c.args.terms.now = search rules in
    terms_refused c.args.index.now c.args.docs.now c.args.terms.now l.term-index l.places.items c.term-item.result c.term-item.result c.in-Err.fault inside c.term-item.is c.in-Err.ensures.refused l.invariant

pub loop-term-preserved : goal.loop-term-preserved
loop-term-preserved c =
    let l = c.loop-term in
    let inside : l.term-index < length c.args.terms.now = search rules in
    terms_next c.args.index.now c.args.docs.now c.args.terms.now l.term-index l.places.items c.push.new.self.items c.term-item.result c.term-item.result c.in-Ok.found inside c.term-item.is c.in-Ok.ensures.found c.in_ok-push.ensures.items l.invariant

pub places_of_term-requires-clause-field : goal.places_of_term-requires-clause-field
places_of_term-requires-clause-field c =
    let l = c.loop-term in
    let inside : l.term-index < length c.args.terms.now = search rules in
    terms_field c.args.index.now c.args.docs.now c.args.terms.now l.term-index l.places.items c.term-item.result c.term-item.result inside c.term-item.is l.invariant
