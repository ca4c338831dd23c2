use Rattle.std.proofs.Common.{◌∙◌, length, map}
use Rattle.std.proofs.lemmas.Bool.{lt-ltb}
use Rattle.ii_damage.proofs.CallsFit.{calls_fit}
use Rattle.ii_definitions.specs.IndexCalls.{call_of}
use Rattle.ii_definitions.specs.Tokens.{tokens_of}
use Rattle.ii_query_parser.proofs.QueryLemmas.{term_fields, term_positions}
use Rattle.ii_ranking.specs.Statistics.{statistics_of}
use Rattle.ii_folder_promises.proofs.TokenOrderLaws.{tokens_ordered}
use Rattle.ii_folder_promises.proofs.WordScoreLaws.{words_scored}
use Rattle.ii_folder_promises.proofs.ranking.a_word_scores_by_its_count.Goals as goal

pub the_best_score_by_their_tokens-found-requires-clause-fields : goal.the_best_score_by_their_tokens-found-requires-clause-fields
the_best_score_by_their_tokens-found-requires-clause-fields g c = term_fields (length c.args.schema) c.args.word ∙ lt-ltb c.args.word.field (length c.args.schema) c.requires.field

pub the_best_score_by_their_tokens-found-requires-clause-positions : goal.the_best_score_by_their_tokens-found-requires-clause-positions
the_best_score_by_their_tokens-found-requires-clause-positions g c = term_positions c.args.schema c.args.word

pub returns : goal.returns
returns g c =
    let words = g.A.TextAnalyzer.words c.args.analyzer.now in
    let ts = tokens_of words (map (call_of c.args.schema) c.args.calls.items) in
    record {
      scores = words_scored c.args.schema c.args.num_docs (statistics_of c.args.statistics.now) ts c.args.word c.requires.norms c.requires.texts c.requires.counts
          (calls_fit c.args.schema c.args.num_docs words c.args.calls.items c.requires.calls) (tokens_ordered c.args.schema words c.args.calls.items c.requires.calls.ordered) c.the_best_score_by_their_tokens-found.result c.the_best_score_by_their_tokens-found.ensures.scores;
    }
