use Rattle.std.proofs.Common.{◌≡◌, ◌∙◌, inr, List, None, Option, Ok, ap, length, refl, subst, sym}
use Rattle.std.specs.List.{AllByRecursion}
use Rattle.ii_io.specs.declared.faults.Part.{Part}
use Rattle.ii_ranking.specs.Scores.{IsScoreFault, first_of}
use Rattle.ii_ranking.specs.Segments.{segments_damage, segments_scored}
use Rattle.ii_ranking.specs.TokenScores.{GivesBest, tokens_scored}
use Rattle.ii_scorer.specs.TopDocs.{AreBest}
use Rattle.ii_segment_search.specs.Searcher.{AreFew, HaveFields, OpenSegmentState, SegmentsHold}
use Rattle.ii_index.specs.Searching.{HaveReaders, SearcherState}
use Rattle.ii_index.specs.Statistics.{index_statistics, searcher_tokens}
use Rattle.ii_index.proofs.HeldLemmas.{best_held, counts_sound, docs_held, docs_listed, held_same, reaches}
use Rattle.ii_index.proofs.OpenLemmas.{have_fields}
use Rattle.ii_statistics.specs.Listed.{IsListedInEach}
use Rattle.ii_statistics.specs.Statistics.{query_terms, ranking_damage, segments_statistics, terms_damage}
use Rattle.ii_statistics.proofs.DamageLemmas.{some_damage}
use Rattle.ii_statistics.proofs.TermLemmas.{terms_below}
use Rattle.ii_index.proofs.index_reader.Searcher.top_docs.Goals as goal

pub returns-in-Some-clause-fault : goal.returns-in-Some-clause-fault
returns-in-Some-clause-fault c =
    let s = c.args.self.now in
    let query = c.args.query.now in
    inr (c.in-Some.part, refl, ap (λ (d : Option Part). first_of (first_of d (terms_damage s.segments (query_terms query))) (segments_damage query s.segments)) (sym c.damaged_counts.ensures ∙ c.in-Some.is))

pub returns-in-Some-clause-holds : goal.returns-in-Some-clause-holds
returns-in-Some-clause-holds c = λ entries n ts holds ask covers. some_damage c.in-Some.part (sym c.in-Some.is ∙ c.damaged_counts.ensures ∙ counts_sound entries c.args.self.now n ts holds)

pub best_by-requires-clause-fields : goal.best_by-requires-clause-fields
best_by-requires-clause-fields c =
    let opened : c.segments.result.now ≡ c.args.self.now.segments = c.segments.ensures.same ∙ ap (λ (s : SearcherState). s.segments) c.self.view_is in
    let readers = subst (λ (s : SearcherState). HaveReaders s.num_fields s.segments) c.self.view_is c.self.invariant in
    subst (HaveFields c.args.query.now) (sym opened) (have_fields c.args.self.now.num_fields c.args.query.now c.args.self.now.segments readers c.requires)

pub returns-in-Ok-clause-best : goal.returns-in-Ok-clause-best
returns-in-Ok-clause-best c =
    let s = c.args.self.now in
    let opened : c.segments.result.now ≡ s.segments = c.segments.ensures.same ∙ ap (λ (s : SearcherState). s.segments) c.self.view_is in
    subst (λ (os : List OpenSegmentState). AreBest c.args.docs.now (segments_scored (segments_statistics (searcher_tokens s) os) c.args.query.now 0 os) c.in-Ok.best.items) opened c.in-Ok.ensures.best

pub returns-in-Ok-clause-sound : goal.returns-in-Ok-clause-sound
returns-in-Ok-clause-sound c =
    let s = c.args.self.now in
    let query = c.args.query.now in
    let opened : c.segments.result.now ≡ s.segments = c.segments.ensures.same ∙ ap (λ (s : SearcherState). s.segments) c.self.view_is in
    let none = sym c.damaged_counts.ensures ∙ c.in-None.is in
    ap (λ (d : Option Part). first_of (first_of d (terms_damage s.segments (query_terms query))) (segments_damage query s.segments)) none ∙ subst (λ (os : List OpenSegmentState). ranking_damage os query ≡ None) opened c.in-Ok.ensures.sound

pub returns-in-Ok-clause-holds : goal.returns-in-Ok-clause-holds
returns-in-Ok-clause-holds c = λ entries n ts holds ask covers.
    let s = c.args.self.now in
    let query = c.args.query.now in
    let opened : c.segments.result.now ≡ s.segments = c.segments.ensures.same ∙ ap (λ (s : SearcherState). s.segments) c.self.view_is in
    let few = subst AreFew (ap (λ (s : SearcherState). s.segments) c.self.view_is) c.segments.ensures.few in
    let terms = query_terms query in
    let known = terms_below (length entries) query ask.fields in
    let listed = subst (λ (os : List OpenSegmentState). AllByRecursion (IsListedInEach os) terms) opened c.in-Ok.ensures.listed in
    let same = held_same entries s n ts holds terms known (docs_listed entries s n ts holds few terms known listed) in
    let given = c.in-Ok.ensures.holds entries holds.segments (subst (λ (os : List OpenSegmentState). SegmentsHold entries os holds.segments) (sym opened) holds.hold) ask.fields in
    let gives = subst (λ (os : List OpenSegmentState). GivesBest c.args.docs.now (tokens_scored entries (segments_statistics (searcher_tokens s) os) query 0 holds.segments) (Ok c.in-Ok.best)) opened given in
    best_held entries s n ts holds (index_statistics s) query c.args.docs.now (Ok c.in-Ok.best) (docs_held entries s n ts holds) same ask (reaches entries query s.segments holds.segments few holds.hold covers) gives

pub returns-in-Err-clause-fault : goal.returns-in-Err-clause-fault
returns-in-Err-clause-fault c =
    let s = c.args.self.now in
    let query = c.args.query.now in
    let opened : c.segments.result.now ≡ s.segments = c.segments.ensures.same ∙ ap (λ (s : SearcherState). s.segments) c.self.view_is in
    let none = sym c.damaged_counts.ensures ∙ c.in-None.is in
    subst (λ (d : Option Part). IsScoreFault (first_of (first_of d (terms_damage s.segments (query_terms query))) (segments_damage query s.segments)) c.in-Err.fault) (sym none)
    (subst (λ (os : List OpenSegmentState). IsScoreFault (ranking_damage os query) c.in-Err.fault) opened c.in-Err.ensures.fault)

pub returns-in-Err-clause-holds : goal.returns-in-Err-clause-holds
returns-in-Err-clause-holds c = λ entries n ts holds ask covers.
    let opened : c.segments.result.now ≡ c.args.self.now.segments = c.segments.ensures.same ∙ ap (λ (s : SearcherState). s.segments) c.self.view_is in
    c.in-Err.ensures.holds entries holds.segments (subst (λ (os : List OpenSegmentState). SegmentsHold entries os holds.segments) (sym opened) holds.hold) ask.fields
