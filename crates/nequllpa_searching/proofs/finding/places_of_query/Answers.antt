use Rattle.std.proofs.Common.{length}
use Rattle.nequllpa_searching.proofs.QueryLemmas.{wanted_slice}
use Rattle.nequllpa_searching.proofs.finding.places_of_query.Goals as goal

pub places_of_terms-requires-clause-fields : goal.places_of_terms-requires-clause-fields
places_of_terms-requires-clause-fields c = wanted_slice (length c.args.index.now.readers) c.args.query.now c.in-Ok.terms.items c.as_slice.result.now c.requires.fields c.as_slice.ensures.value c.in-Ok.ensures.wanted
