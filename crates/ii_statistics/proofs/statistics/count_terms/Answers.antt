use Rattle.std.proofs.Common.{◌≡◌, ◌∙◌, ◌+◌, List, [], ◌∷◌, ap, arith, drop, length, map}
use Rattle.std.proofs.lemmas.List.{drop_all, length-map, map-append}
use Rattle.ii_base.specs.Terms.{TermState}
use Rattle.ii_query_parser.specs.declared.query.Query.TheVariants.{Term}
use Rattle.ii_ranking.specs.Segments.{segment_of}
use Rattle.ii_statistics.specs.Statistics.{counts_of_term, counts_view}
use Rattle.ii_statistics.specs.declared.statistics.TermCounts.{TermCounts}
use Rattle.ii_definitions.proofs.ListLaws.{mapped_at}
use Rattle.ii_statistics.proofs.ListedLemmas.{listed_sound}
use Rattle.ii_statistics.proofs.TermCountLemmas.{counted_all, counting_next, counting_refused, field_next, listed_all, sound_all}
use Rattle.ii_statistics.proofs.statistics.count_terms.Goals as goal

pub doc_freq-requires-clause-field : goal.doc_freq-requires-clause-field
doc_freq-requires-clause-field g c =
    let l = c.loop-place in
    let all : List TermState = map (λ t. t.now) c.args.terms.now in
    let at = mapped_at (λ t. t.now) c.args.terms.now l.place c.index-terms-place.result c.loop-place-test.true c.index-terms-place.is in
    field_next (g.N.FieldTokens.by_field c.args.tokens.now) (map segment_of c.args.segments.now) all (drop l.place all) (drop (l.place + 1) all) (map counts_view l.counted.items) c.index-terms-place.result.now at l.invariant

pub returns-in-Err-clause-fault : goal.returns-in-Err-clause-fault
returns-in-Err-clause-fault g c =
    let l = c.loop-place in
    let all : List TermState = map (λ t. t.now) c.args.terms.now in
    let at = mapped_at (λ t. t.now) c.args.terms.now l.place c.index-terms-place.result c.loop-place-test.true c.index-terms-place.is in
    counting_refused (g.N.FieldTokens.by_field c.args.tokens.now) (map segment_of c.args.segments.now) all (drop l.place all) (drop (l.place + 1) all) (map counts_view l.counted.items) c.index-terms-place.result.now at l.invariant c.in-Err.fault c.in-Err.ensures.fault

pub loop-place-preserved : goal.loop-place-preserved
loop-place-preserved g c =
    let l = c.loop-place in
    let by_field = g.N.FieldTokens.by_field c.args.tokens.now in
    let segments = map segment_of c.args.segments.now in
    let t = c.index-terms-place.result.now in
    let all : List TermState = map (λ t. t.now) c.args.terms.now in
    let at = mapped_at (λ t. t.now) c.args.terms.now l.place c.index-terms-place.result c.loop-place-test.true c.index-terms-place.is in
    let made : TermCounts = record { term = c.index-terms-place.result; doc_freq = c.in-Ok.num_docs; num_tokens = c.num_tokens-num_tokens.result } in
    let freq = c.in-Ok.ensures.counted in
    let number = c.num_tokens-num_tokens.ensures ∙ ap by_field c.field.ensures in
    let is : counts_view made ≡ counts_of_term by_field segments t = λ j. record { term = t; doc_freq = freq j; num_tokens = number j } in
    let pushed = ap (map counts_view) c.in_ok-push.ensures.items ∙ map-append counts_view l.counted.items (made ∷ []) in
    counting_next by_field segments all (drop l.place all) (drop (l.place + 1) all) (map counts_view l.counted.items) t at l.invariant (map counts_view c.push.new.self.items) (counts_view made) pushed is
    (listed_sound (Term t) 0 segments c.in-Ok.ensures.listed) c.in-Ok.ensures.listed

pub returns-clause-counted : goal.returns-clause-counted
returns-clause-counted g c =
    let l = c.loop-place in
    let all : List TermState = map (λ t. t.now) c.args.terms.now in
    let many : length all ≡ length c.args.terms.now = length-map c.args.terms.now (λ t. t.now) in
    let none : drop l.place all ≡ [] = drop_all l.place all (omega (arith, many, c.loop-place-test.false)) in
    counted_all (g.N.FieldTokens.by_field c.args.tokens.now) (map segment_of c.args.segments.now) all (drop l.place all) (map counts_view l.counted.items) none l.invariant

pub returns-clause-listed : goal.returns-clause-listed
returns-clause-listed g c =
    let l = c.loop-place in
    let all : List TermState = map (λ t. t.now) c.args.terms.now in
    let many : length all ≡ length c.args.terms.now = length-map c.args.terms.now (λ t. t.now) in
    let none : drop l.place all ≡ [] = drop_all l.place all (omega (arith, many, c.loop-place-test.false)) in
    listed_all (g.N.FieldTokens.by_field c.args.tokens.now) (map segment_of c.args.segments.now) all (drop l.place all) (map counts_view l.counted.items) none l.invariant

pub returns-clause-sound : goal.returns-clause-sound
returns-clause-sound g c =
    let l = c.loop-place in
    let all : List TermState = map (λ t. t.now) c.args.terms.now in
    let many : length all ≡ length c.args.terms.now = length-map c.args.terms.now (λ t. t.now) in
    let none : drop l.place all ≡ [] = drop_all l.place all (omega (arith, many, c.loop-place-test.false)) in
    sound_all (g.N.FieldTokens.by_field c.args.tokens.now) (map segment_of c.args.segments.now) all (drop l.place all) (map counts_view l.counted.items) none l.invariant
