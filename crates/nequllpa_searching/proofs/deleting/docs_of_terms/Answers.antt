use Rattle.std.proofs.Common.{◌<◌, length, rules}
use Rattle.nequllpa_searching.proofs.DeletingLemmas.{terms_next, terms_refused}
use Rattle.nequllpa_searching.proofs.deleting.docs_of_terms.Goals as goal

pub loop-term-preserved : goal.loop-term-preserved
loop-term-preserved c =
    let l = c.loop-term in
    let inside : l.term-index < length c.args.terms.now = search rules in
    terms_next c.args.segment.now.index c.args.segment.now.alive c.args.terms.now l.term-index l.docs.items c.in-Ok.found.items c.extend_from_slice.new.self.items c.term-item.result c.term-item.result inside c.term-item.is c.in-Ok.ensures.found (search rules) l.invariant

pub returns-in-Err-clause-refused : goal.returns-in-Err-clause-refused
returns-in-Err-clause-refused c =
    let l = c.loop-term in
    let inside : l.term-index < length c.args.terms.now = search rules in
    terms_refused c.args.segment.now.index c.args.segment.now.alive c.args.terms.now l.term-index l.docs.items c.term-item.result c.term-item.result c.in-Err.fault inside c.term-item.is c.in-Err.ensures.refused l.invariant
