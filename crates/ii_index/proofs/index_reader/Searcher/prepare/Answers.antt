use Rattle.std.proofs.Common.{◌≡◌, ◌∙◌, inr, List, None, Option, ap, refl, subst, sym}
use Rattle.std.specs.List.{AllByRecursion}
use Rattle.ii_io.specs.declared.faults.Part.{Part}
use Rattle.ii_ranking.specs.Scores.{IsScoreFault, first_of}
use Rattle.ii_ranking.specs.Segments.{segments_damage, segments_scored}
use Rattle.ii_segment_search.specs.Searcher.{AreFew, HaveFields, OpenSegmentState}
use Rattle.ii_index.specs.Searching.{HaveReaders, SearcherState}
use Rattle.ii_index.specs.Statistics.{searcher_tokens}
use Rattle.ii_index.proofs.HeldLemmas.{counts_sound, query_memory, query_scored}
use Rattle.ii_index.proofs.OpenLemmas.{have_fields}
use Rattle.ii_statistics.specs.Listed.{IsListedInEach}
use Rattle.ii_statistics.specs.Statistics.{query_terms, ranking_damage, segments_statistics, terms_damage}
use Rattle.ii_statistics.proofs.DamageLemmas.{some_damage}
use Rattle.ii_index.proofs.index_reader.Searcher.prepare.Goals as goal

pub returns-in-Some-clause-fault : goal.returns-in-Some-clause-fault
returns-in-Some-clause-fault c =
    let s = c.args.self.now in
    let query = c.args.query.now in
    inr (c.in-Some.part, refl, ap (λ (d : Option Part). first_of (first_of d (terms_damage s.segments (query_terms query))) (segments_damage query s.segments)) (sym c.damaged_counts.ensures ∙ c.in-Some.is))

pub returns-in-Some-clause-holds : goal.returns-in-Some-clause-holds
returns-in-Some-clause-holds c = λ entries n ts holds ask covers. some_damage c.in-Some.part (sym c.in-Some.is ∙ c.damaged_counts.ensures ∙ counts_sound entries c.args.self.now n ts holds)

pub prepare_by-requires-clause-fields : goal.prepare_by-requires-clause-fields
prepare_by-requires-clause-fields c =
    let s = c.args.self.now in
    let query = c.args.query.now in
    let opened : c.segments.result.now ≡ s.segments = c.segments.ensures.same ∙ ap (λ (t : SearcherState). t.segments) c.self.view_is in
    let readers = subst (λ (t : SearcherState). HaveReaders t.num_fields t.segments) c.self.view_is c.self.invariant in
    subst (HaveFields query) (sym opened) (have_fields s.num_fields query s.segments readers c.requires)

pub returns-in-Ok-clause-scores : goal.returns-in-Ok-clause-scores
returns-in-Ok-clause-scores c =
    let s = c.args.self.now in
    let opened : c.segments.result.now ≡ s.segments = c.segments.ensures.same ∙ ap (λ (t : SearcherState). t.segments) c.self.view_is in
    subst (λ (os : List OpenSegmentState). c.in-Ok.prepared ≡ segments_scored (segments_statistics (searcher_tokens s) os) c.args.query.now 0 os) opened c.in-Ok.ensures.scores

pub returns-in-Ok-clause-sound : goal.returns-in-Ok-clause-sound
returns-in-Ok-clause-sound c =
    let s = c.args.self.now in
    let query = c.args.query.now in
    let opened : c.segments.result.now ≡ s.segments = c.segments.ensures.same ∙ ap (λ (t : SearcherState). t.segments) c.self.view_is in
    let none = sym c.damaged_counts.ensures ∙ c.in_default.is in
    ap (λ (d : Option Part). first_of (first_of d (terms_damage s.segments (query_terms query))) (segments_damage query s.segments)) none ∙ subst (λ (os : List OpenSegmentState). ranking_damage os query ≡ None) opened c.in-Ok.ensures.sound

pub returns-in-Ok-clause-holds : goal.returns-in-Ok-clause-holds
returns-in-Ok-clause-holds c = λ entries n ts holds ask covers.
    let s = c.args.self.now in
    let query = c.args.query.now in
    let opened : c.segments.result.now ≡ s.segments = c.segments.ensures.same ∙ ap (λ (t : SearcherState). t.segments) c.self.view_is in
    let few = subst AreFew (ap (λ (t : SearcherState). t.segments) c.self.view_is) c.segments.ensures.few in
    let listed = subst (λ (os : List OpenSegmentState). AllByRecursion (IsListedInEach os) (query_terms query)) opened c.in-Ok.ensures.listed in
    let scores = subst (λ (os : List OpenSegmentState). c.in-Ok.prepared ≡ segments_scored (segments_statistics (searcher_tokens s) os) query 0 os) opened c.in-Ok.ensures.scores in
    scores ∙ query_scored entries s n ts holds few query ask covers listed

pub returns-in-Err-clause-fault : goal.returns-in-Err-clause-fault
returns-in-Err-clause-fault c =
    let s = c.args.self.now in
    let query = c.args.query.now in
    let opened : c.segments.result.now ≡ s.segments = c.segments.ensures.same ∙ ap (λ (t : SearcherState). t.segments) c.self.view_is in
    let none = sym c.damaged_counts.ensures ∙ c.in_default.is in
    subst (λ (d : Option Part). IsScoreFault (first_of (first_of d (terms_damage s.segments (query_terms query))) (segments_damage query s.segments)) c.in-Err.fault) (sym none)
    (subst (λ (os : List OpenSegmentState). IsScoreFault (ranking_damage os query) c.in-Err.fault) opened c.in-Err.ensures.fault)

pub returns-in-Err-clause-holds : goal.returns-in-Err-clause-holds
returns-in-Err-clause-holds c = λ entries n ts holds ask covers.
    let s = c.args.self.now in
    let query = c.args.query.now in
    let opened : c.segments.result.now ≡ s.segments = c.segments.ensures.same ∙ ap (λ (t : SearcherState). t.segments) c.self.view_is in
    let few = subst AreFew (ap (λ (t : SearcherState). t.segments) c.self.view_is) c.segments.ensures.few in
    query_memory entries s n ts holds few query ask c.in-Err.fault (subst (λ (os : List OpenSegmentState). IsScoreFault (ranking_damage os query) c.in-Err.fault) opened c.in-Err.ensures.fault)
