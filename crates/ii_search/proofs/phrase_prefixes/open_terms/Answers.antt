use Rattle.std.proofs.Common.{List, subst}
use Rattle.ii_query_parser.specs.declared.query.PhraseTerm.{PhraseTerm}
use Rattle.ii_reader.specs.InvertedIndexReader.{IsRefusal}
use Rattle.ii_search.specs.Found.{phrase_parts_of}
use Rattle.ii_search.proofs.PhrasePrefixLemmas.{refused_before}
use Rattle.ii_search.proofs.phrase_prefixes.open_terms.Goals as goal

pub returns-in-Err-open_others-clause-refused : goal.returns-in-Err-open_others-clause-refused
returns-in-Err-open_others-clause-refused c key =
    let index = c.args.index.now in
    let fault = c.in-Err-open_others.fault in
    refused_before index c.args.phrase.now key c.in-Ok.first.rest fault c.in-Ok.ensures.listed
    (subst (λ (os : List PhraseTerm). IsRefusal (phrase_parts_of index os) fault) c.deref.ensures.value c.in-Err-open_others.ensures.refused)
