use Rattle.std.proofs.Common.{◌≡◌, ◌∙◌, ℕ, Some, ap, arith, false, inr, rules, true}
use Rattle.std.specs.Option.{option_map}
use Rattle.ii_io.specs.Composite.{body_of}
use Rattle.ii_docset.specs.Intersection.{has_doc}
use Rattle.ii_fieldnorm.specs.Readers.{norms_of_ids}
use Rattle.ii_query_parser.specs.Queries.{tree_of}
use Rattle.ii_ranking.specs.Shares.{ShareState}
use Rattle.ii_ranking.proofs.ShareEntryLemmas.{counted_term, no_term_share}
use Rattle.ii_ranking.proofs.shares.term_share.Goals as goal

pub returns-then-not-goes_to-clause-found : goal.returns-then-not-goes_to-clause-found
returns-then-not-goes_to-clause-found g c =
    let es = c.in_ok-cursor.cursor.rest in
    let none : has_doc es c.args.doc ≡ false = search rules in
    no_term_share c.args.index.now (g.S.Bm25StatisticsProvider.statistics c.args.statistics.now) c.args.term.now es c.args.doc c.in_ok-cursor.ensures.listed none

pub returns-then-not-goes_to-clause-sound : goal.returns-then-not-goes_to-clause-sound
returns-then-not-goes_to-clause-sound g c = rw (c.in_ok-cursor.ensures.listed, ← c.field.ensures) c.in_ok-norms.ensures.sound

pub term_freq-requires : goal.term_freq-requires
term_freq-requires g c =
    let has : c.goes_to.result ≡ true = search rules in
    let at = c.goes_to.ensures.here has in
    let here = at.current in
    let low = at.below in
    inr (omega (arith, here, low))

pub returns-clause-found : goal.returns-clause-found
returns-clause-found g c =
    let index = c.args.index.now in
    let term = c.args.term.now in
    let has : c.goes_to.result ≡ true = search rules in
    let norms = c.in_ok-norms.ensures.found ∙ ap (λ (field : ℕ). option_map norms_of_ids (body_of field index.fieldnorms)) c.field.ensures in
    ap (λ (share : ShareState). Some share) c.share_of_count.ensures
    ∙ counted_term index (g.S.Bm25StatisticsProvider.statistics c.args.statistics.now) term c.in_ok-cursor.cursor.rest c.args.doc c.in_ok-cursor.ensures.listed c.goes_to.new.cursor.rest (tree_of c.args.part.now) c.in_ok-weight.weight c.norm_id.result c.term_freq.result
    (c.goes_to.ensures.here has) c.requires.part c.in_ok-weight.ensures.made (c.norm_id.ensures.ids (body_of term.field index.fieldnorms) norms) c.term_freq.ensures.entry

pub returns-clause-sound : goal.returns-clause-sound
returns-clause-sound g c = rw (c.in_ok-cursor.ensures.listed, ← c.field.ensures) c.in_ok-norms.ensures.sound
