use Rattle.std.proofs.Common.{◌≡◌, ◌/◌, ◌%◌, ◌^◌, ◌<◌, get_or, refl, rules}
use Rattle.ii_query.proofs.SetLemmas.{seeking_found, seeking_next}
use Rattle.ii_query.proofs.bit_set.first_bit.Goals as goal

pub returns-then-rest-ne0 : goal.returns-then-rest-ne0
returns-then-rest-ne0 c =
    let words = c.args.words.now in
    let doc = c.loop-doc.doc in
    let fits : get_or words (doc / 64) 0 < 2 ^ 64 = search rules in
    let some : 0 < get_or words (doc / 64) 0 / 2 ^ (doc % 64) = search rules in
    let fits_rest : get_or words (doc / 64) 0 / 2 ^ (doc % 64) < 2 ^ 64 = search rules in
    seeking_found words c.args.from c.args.end doc (get_or words (doc / 64) 0) c.loop-doc.invariant refl fits some fits_rest

pub loop-doc-preserved : goal.loop-doc-preserved
loop-doc-preserved c =
    let words = c.args.words.now in
    let doc = c.loop-doc.doc in
    let empty : get_or words (doc / 64) 0 / 2 ^ (doc % 64) ≡ 0 = search rules in
    seeking_next words c.args.from c.args.end doc (get_or words (doc / 64) 0) c.loop-doc.invariant refl empty
