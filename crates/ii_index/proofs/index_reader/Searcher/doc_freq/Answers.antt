use Rattle.std.proofs.Common.{◌≡◌, ◌∙◌, Result, subst}
use Rattle.std.specs.Prelude.{IfErr, IfOk}
use Rattle.ii_base.specs.Terms.{TermState}
use Rattle.ii_query_parser.specs.declared.query.Query.TheVariants.{Term}
use Rattle.ii_ranking.specs.Scores.{IsScoreFault, damage_of}
use Rattle.ii_segment_search.specs.Searcher.{AreFew, GivesNumber, MayAsk, Reaches, found_from}
use Rattle.ii_index.specs.Searching.{SearcherState}
use Rattle.ii_statistics.specs.Statistics.{doc_freq_in}
use Rattle.ii_statistics.proofs.DamageLemmas.{counted_found, refused_found}
use Rattle.ii_index.proofs.HeldLemmas.{docs_counted}
use Rattle.ii_index.proofs.index_reader.Searcher.doc_freq.Goals as goal

pub returns-clause-counted : goal.returns-clause-counted
returns-clause-counted c =
    let copied : c.in-Ok.copy ≡ c.args.term.now = c.in-Ok.ensures.ok ∙ (λ j. record { field = c.field.ensures j; value = c.serialized_value_bytes.ensures j }) in
    subst (λ (t : TermState). IfOk c.count-counted.result (λ n. n ≡ doc_freq_in c.args.self.now.segments t)) copied
    (counted_found (found_from (Term c.in-Ok.copy) 0 c.args.self.now.segments) c.count-counted.result c.count-counted.ensures.listed)

pub returns-clause-fault : goal.returns-clause-fault
returns-clause-fault c =
    let copied : c.in-Ok.copy ≡ c.args.term.now = c.in-Ok.ensures.ok ∙ (λ j. record { field = c.field.ensures j; value = c.serialized_value_bytes.ensures j }) in
    subst (λ (t : TermState). IfErr c.count-counted.result (IsScoreFault (damage_of (found_from (Term t) 0 c.args.self.now.segments)))) copied
    (refused_found (found_from (Term c.in-Ok.copy) 0 c.args.self.now.segments) c.count-counted.result c.count-counted.ensures.refused)

pub returns-clause-holds : goal.returns-clause-holds
returns-clause-holds c = λ entries n ts holds known.
    let copied : c.in-Ok.copy ≡ c.args.term.now = c.in-Ok.ensures.ok ∙ (λ j. record { field = c.field.ensures j; value = c.serialized_value_bytes.ensures j }) in
    let few = subst (λ (s : SearcherState). AreFew s.segments) c.self.view_is c.segments-segments.ensures.few in
    let gives = subst (λ (t : TermState). MayAsk entries (Term t) → Reaches (Term t) holds.segments → GivesNumber (Term t) holds.segments c.count-counted.result) copied (c.count-counted.ensures.holds entries holds.segments holds.hold) in
    docs_counted entries c.args.self.now n ts holds few c.args.term.now c.count-counted.result known gives
