use Rattle.std.proofs.Common.{◌≡◌, ◌∙◌, ℕ, inr, List, None, Option, Some, ap, length, map, refl, subst, sym}
use Rattle.std.specs.List.{AllByRecursion, Contains}
use Rattle.ii_explanation.specs.Explanations.{AreSharesAt, number_damage}
use Rattle.ii_io.specs.declared.faults.Part.{Part}
use Rattle.ii_query_parser.specs.Queries.{tree_of}
use Rattle.ii_ranking.specs.Scores.{IsScoreFault, first_of}
use Rattle.ii_ranking.specs.Segments.{segments_scored}
use Rattle.ii_ranking.specs.Shares.{share_of, total}
use Rattle.ii_segment_search.specs.Searcher.{AreFew, HaveFields, OpenSegmentState}
use Rattle.ii_index.specs.Searching.{HaveReaders, SearcherState}
use Rattle.ii_index.specs.Statistics.{index_statistics, searcher_tokens}
use Rattle.ii_index.proofs.HeldLemmas.{counts_sound, doc_held, docs_held, docs_listed, held_same, reaches, shares_memory}
use Rattle.ii_index.proofs.OpenLemmas.{have_fields}
use Rattle.ii_statistics.specs.Listed.{IsListedInEach}
use Rattle.ii_statistics.specs.Statistics.{query_terms, segments_statistics, terms_damage}
use Rattle.ii_statistics.proofs.DamageLemmas.{some_damage}
use Rattle.ii_statistics.proofs.TermLemmas.{terms_below}
use Rattle.ii_index.proofs.index_reader.Searcher.explain.Goals as goal

pub returns-in-Some-clause-fault : goal.returns-in-Some-clause-fault
returns-in-Some-clause-fault c =
    let s = c.args.self.now in
    let query = c.args.query.now in
    inr (c.in-Some.part, refl, ap (λ (d : Option Part). first_of (first_of d (terms_damage s.segments (query_terms query))) (number_damage query c.args.doc s.segments)) (sym c.damaged_counts.ensures ∙ c.in-Some.is))

pub returns-in-Some-clause-holds : goal.returns-in-Some-clause-holds
returns-in-Some-clause-holds c = λ entries n ts holds ask covers score below scored. some_damage c.in-Some.part (sym c.in-Some.is ∙ c.damaged_counts.ensures ∙ counts_sound entries c.args.self.now n ts holds)

pub shares_by-requires-clause-fields : goal.shares_by-requires-clause-fields
shares_by-requires-clause-fields c =
    let opened : c.segments.result.now ≡ c.args.self.now.segments = c.segments.ensures.same ∙ ap (λ (s : SearcherState). s.segments) c.self.view_is in
    let readers = subst (λ (s : SearcherState). HaveReaders s.num_fields s.segments) c.self.view_is c.self.invariant in
    subst (HaveFields c.args.query.now) (sym opened) (have_fields c.args.self.now.num_fields c.args.query.now c.args.self.now.segments readers c.requires)

pub returns-in-Ok-clause-shares : goal.returns-in-Ok-clause-shares
returns-in-Ok-clause-shares c =
    let s = c.args.self.now in
    let opened : c.segments.result.now ≡ s.segments = c.segments.ensures.same ∙ ap (λ (s : SearcherState). s.segments) c.self.view_is in
    subst (λ (os : List OpenSegmentState). AreSharesAt (segments_statistics (searcher_tokens s) os) (tree_of c.args.query.now) os c.args.doc (map share_of c.in-Ok.shares.items)) opened c.in-Ok.ensures.shares

pub returns-in-Ok-clause-sum : goal.returns-in-Ok-clause-sum
returns-in-Ok-clause-sum c = λ score scored.
    let s = c.args.self.now in
    let opened : c.segments.result.now ≡ s.segments = c.segments.ensures.same ∙ ap (λ (s : SearcherState). s.segments) c.self.view_is in
    let each = subst (λ (os : List OpenSegmentState). (n : ℕ) → Contains (segments_scored (segments_statistics (searcher_tokens s) os) c.args.query.now 0 os) (n, c.args.doc) → total (map share_of c.in-Ok.shares.items) ≡ Some n) opened c.in-Ok.ensures.sum in
    each score scored

pub returns-in-Ok-clause-sound : goal.returns-in-Ok-clause-sound
returns-in-Ok-clause-sound c =
    let s = c.args.self.now in
    let query = c.args.query.now in
    let opened : c.segments.result.now ≡ s.segments = c.segments.ensures.same ∙ ap (λ (s : SearcherState). s.segments) c.self.view_is in
    let none = sym c.damaged_counts.ensures ∙ c.in-None.is in
    ap (λ (d : Option Part). first_of (first_of d (terms_damage s.segments (query_terms query))) (number_damage query c.args.doc s.segments)) none
    ∙ subst (λ (os : List OpenSegmentState). first_of (terms_damage os (query_terms query)) (number_damage query c.args.doc os) ≡ None) opened c.in-Ok.ensures.sound

pub returns-in-Ok-clause-holds : goal.returns-in-Ok-clause-holds
returns-in-Ok-clause-holds c = λ entries n ts holds ask covers score below scored.
    let s = c.args.self.now in
    let query = c.args.query.now in
    let opened : c.segments.result.now ≡ s.segments = c.segments.ensures.same ∙ ap (λ (s : SearcherState). s.segments) c.self.view_is in
    let few = subst AreFew (ap (λ (s : SearcherState). s.segments) c.self.view_is) c.segments.ensures.few in
    let terms = query_terms query in
    let known = terms_below (length entries) query ask.fields in
    let listed = subst (λ (os : List OpenSegmentState). AllByRecursion (IsListedInEach os) terms) opened c.in-Ok.ensures.listed in
    let same = held_same entries s n ts holds terms known (docs_listed entries s n ts holds few terms known listed) in
    let each = subst (λ (os : List OpenSegmentState). (m : ℕ) → Contains (segments_scored (segments_statistics (searcher_tokens s) os) query 0 os) (m, c.args.doc) → total (map share_of c.in-Ok.shares.items) ≡ Some m) opened c.in-Ok.ensures.sum in
    each score (doc_held entries s n ts holds (index_statistics s) query c.args.doc score (docs_held entries s n ts holds) same ask (reaches entries query s.segments holds.segments few holds.hold covers) below scored)

pub returns-in-Err-clause-fault : goal.returns-in-Err-clause-fault
returns-in-Err-clause-fault c =
    let s = c.args.self.now in
    let query = c.args.query.now in
    let opened : c.segments.result.now ≡ s.segments = c.segments.ensures.same ∙ ap (λ (s : SearcherState). s.segments) c.self.view_is in
    let none = sym c.damaged_counts.ensures ∙ c.in-None.is in
    subst (λ (d : Option Part). IsScoreFault (first_of (first_of d (terms_damage s.segments (query_terms query))) (number_damage query c.args.doc s.segments)) c.in-Err.fault) (sym none)
    (subst (λ (os : List OpenSegmentState). IsScoreFault (first_of (terms_damage os (query_terms query)) (number_damage query c.args.doc os)) c.in-Err.fault) opened c.in-Err.ensures.fault)

pub returns-in-Err-clause-holds : goal.returns-in-Err-clause-holds
returns-in-Err-clause-holds c = λ entries n ts holds ask covers score below scored.
    let s = c.args.self.now in
    let query = c.args.query.now in
    let opened : c.segments.result.now ≡ s.segments = c.segments.ensures.same ∙ ap (λ (s : SearcherState). s.segments) c.self.view_is in
    let few = subst AreFew (ap (λ (s : SearcherState). s.segments) c.self.view_is) c.segments.ensures.few in
    shares_memory entries s n ts holds few query ask c.args.doc c.in-Err.fault
    (subst (λ (os : List OpenSegmentState). IsScoreFault (first_of (terms_damage os (query_terms query)) (number_damage query c.args.doc os)) c.in-Err.fault) opened c.in-Err.ensures.fault)
