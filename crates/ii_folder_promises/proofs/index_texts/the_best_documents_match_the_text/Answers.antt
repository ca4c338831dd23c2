use Rattle.std.proofs.Common.{map}
use Rattle.ii_query_parser.specs.QueryTexts.{AnalyzedFields}
use Rattle.ii_segment_search.specs.Searcher.{MayAsk}
use Rattle.ii_tokenizers.specs.Tokenizers.{analyzed_in, prefix_tokenizer}
use Rattle.ii_folder_promises.proofs.IndexRankingLaws.{text_many, text_matching, tokens_ordered}
use Rattle.ii_folder_promises.proofs.index_texts.the_best_documents_match_the_text.Goals as goal

pub returns-clause-many : goal.returns-clause-many
returns-clause-many g c = λ n ts holds.
    let schema = c.args.index.now.schema in
    let q : AnalyzedFields = record { texts = record { analyze = analyzed_in schema.tokenizers; entries = schema.schema }; prefixes = analyzed_in (map prefix_tokenizer schema.tokenizers); defaults = c.args.default_fields.now } in
    let held = c.in-Ok-reader.ensures.holds c.requires.known n ts holds in
    let ask : MayAsk schema.schema c.in-Ok.query = record { fields = c.in-Ok.ensures.fields; positions = c.in-Ok.ensures.positions } in
    text_many schema.schema n ts c.in-Ok.query c.args.limit q c.args.text.now c.in-Ok.ensures (tokens_ordered schema.schema c.in-Ok-reader.reader n ts held) c.in-Ok.ensures.positions c.best_of.result (c.best_of.ensures schema.schema n ts held ask)

pub returns-clause-matching : goal.returns-clause-matching
returns-clause-matching g c = λ n ts holds.
    let schema = c.args.index.now.schema in
    let q : AnalyzedFields = record { texts = record { analyze = analyzed_in schema.tokenizers; entries = schema.schema }; prefixes = analyzed_in (map prefix_tokenizer schema.tokenizers); defaults = c.args.default_fields.now } in
    let held = c.in-Ok-reader.ensures.holds c.requires.known n ts holds in
    let ask : MayAsk schema.schema c.in-Ok.query = record { fields = c.in-Ok.ensures.fields; positions = c.in-Ok.ensures.positions } in
    text_matching schema.schema n ts c.in-Ok.query c.args.limit q c.args.text.now c.in-Ok.ensures (tokens_ordered schema.schema c.in-Ok-reader.reader n ts held) c.in-Ok.ensures.positions c.best_of.result (c.best_of.ensures schema.schema n ts held ask)
