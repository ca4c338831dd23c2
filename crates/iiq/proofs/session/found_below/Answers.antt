use Rattle.std.proofs.Common.{length, refl}
use Rattle.iiq.specs.Session.{fields}
use Rattle.iiq.proofs.SearchLemmas.{bounded_fields, bounded_positions, found_now}
use Rattle.iiq.proofs.session.found_below.Goals as goal

pub search-requires : goal.search-requires
search-requires c = record { fields = rw (c.requires.many) (bounded_fields (length fields) c.args.num_docs c.args.query _ c.in-Ok.bounded refl (c.in-Ok.ensures.fields (length fields)) c.requires.fields) }

pub returns-in-Ok-search : goal.returns-in-Ok-search
returns-in-Ok-search c = λ ts o few.
    let both = c.in-Ok.ensures in
    found_now c.args.index.now c.args.query _ c.in-Ok.bounded c.args.num_docs c.in-Ok-search.cursor _ refl both.matches c.in-Ok-search.ensures.holds
    (bounded_fields (length fields) c.args.num_docs c.args.query _ c.in-Ok.bounded refl (both.fields (length fields)) c.requires.fields)
    (bounded_positions fields c.args.num_docs c.args.query _ c.in-Ok.bounded refl (both.positions fields) c.requires.positions)
    (rw c.new-text.ensures.bytes at c.in_ok-push_found-in-Ok-search.ensures) ts o few
