use Rattle.std.proofs.Common.{◌≡◌, ◌∙◌, ◌+◌, ℕ, List, ap, length, subst, sym, true}
use Rattle.ii_base.specs.Schema.{SchemaEntry}
use Rattle.ii_definitions.specs.Tokens.{IndexToken}
use Rattle.ii_index.specs.Index.{IndexState}
use Rattle.ii_index.specs.Ranking.{SearcherHolds}
use Rattle.ii_index.specs.Segments.{HoldsIndexOf, with_tokens}
use Rattle.ii_query_parser.specs.Queries.{has_fields}
use Rattle.ii_schema_text.specs.SchemaText.{TextSchemaState}
use Rattle.ii_segment_search.specs.Searcher.{MayAsk}
use Rattle.ii_folder_promises.proofs.IndexRankingLaws.{some_greatest, some_in_order, some_many, some_scored, tokens_ordered}
use Rattle.ii_folder_promises.proofs.index_ranking.the_best_of_an_index_come_first.Goals as goal

pub best_of-requires-clause-fields : goal.best_of-requires-clause-fields
best_of-requires-clause-fields g c =
    let many = c.in-Ok-reader.ensures.fields ∙ ap (λ (i : IndexState _). length i.schema.schema) c.index.ensures ∙ ap (λ (s : TextSchemaState). length s.schema) c.in-Ok.ensures.schema in
    subst (λ (n : ℕ). has_fields n c.args.query.now ≡ true) (sym many) c.requires.fields

pub returns-clause-scores : goal.returns-clause-scores
returns-clause-scores g c = λ k vs pending n ts holds.
    let seen = g.D.Directory.seen in
    let old = c.args.writer.now in
    let new = c.commit.new.self.index in
    let entries = old.index.schema.schema in
    let m = n + k in
    let us : List IndexToken = with_tokens n ts vs in
    let read = subst (λ (i : IndexState _). g.D.Directory.is_known i.directory → (n : ℕ) (ts : List IndexToken) → HoldsIndexOf i.schema.schema (seen i.directory) n ts → SearcherHolds i.schema.schema c.in-Ok-reader.reader n ts) c.index.ensures c.in-Ok-reader.ensures.holds in
    let opens = subst (λ (s : TextSchemaState). HoldsIndexOf s.schema (seen new.directory) m us → SearcherHolds s.schema c.in-Ok-reader.reader m us) c.in-Ok.ensures.schema (read (c.in-Ok.ensures.known c.requires.known) m us) in
    let held = opens (c.in-Ok.ensures.added c.requires.known c.requires.none k vs pending n ts holds) in
    let ask : MayAsk entries c.args.query.now = record { fields = c.requires.fields; positions = c.requires.positions } in
    let best = c.best_of.ensures entries m us held ask in
    some_scored entries m us c.args.query.now c.args.limit c.best_of.result best

pub returns-clause-many : goal.returns-clause-many
returns-clause-many g c = λ k vs pending n ts holds.
    let seen = g.D.Directory.seen in
    let old = c.args.writer.now in
    let new = c.commit.new.self.index in
    let entries = old.index.schema.schema in
    let m = n + k in
    let us : List IndexToken = with_tokens n ts vs in
    let read = subst (λ (i : IndexState _). g.D.Directory.is_known i.directory → (n : ℕ) (ts : List IndexToken) → HoldsIndexOf i.schema.schema (seen i.directory) n ts → SearcherHolds i.schema.schema c.in-Ok-reader.reader n ts) c.index.ensures c.in-Ok-reader.ensures.holds in
    let opens = subst (λ (s : TextSchemaState). HoldsIndexOf s.schema (seen new.directory) m us → SearcherHolds s.schema c.in-Ok-reader.reader m us) c.in-Ok.ensures.schema (read (c.in-Ok.ensures.known c.requires.known) m us) in
    let held = opens (c.in-Ok.ensures.added c.requires.known c.requires.none k vs pending n ts holds) in
    let ask : MayAsk entries c.args.query.now = record { fields = c.requires.fields; positions = c.requires.positions } in
    let best = c.best_of.ensures entries m us held ask in
    some_many entries m us c.args.query.now c.args.limit (tokens_ordered entries c.in-Ok-reader.reader m us held) c.requires.positions c.best_of.result best

pub returns-clause-order : goal.returns-clause-order
returns-clause-order g c = λ k vs pending n ts holds.
    let seen = g.D.Directory.seen in
    let old = c.args.writer.now in
    let new = c.commit.new.self.index in
    let entries = old.index.schema.schema in
    let m = n + k in
    let us : List IndexToken = with_tokens n ts vs in
    let read = subst (λ (i : IndexState _). g.D.Directory.is_known i.directory → (n : ℕ) (ts : List IndexToken) → HoldsIndexOf i.schema.schema (seen i.directory) n ts → SearcherHolds i.schema.schema c.in-Ok-reader.reader n ts) c.index.ensures c.in-Ok-reader.ensures.holds in
    let opens = subst (λ (s : TextSchemaState). HoldsIndexOf s.schema (seen new.directory) m us → SearcherHolds s.schema c.in-Ok-reader.reader m us) c.in-Ok.ensures.schema (read (c.in-Ok.ensures.known c.requires.known) m us) in
    let held = opens (c.in-Ok.ensures.added c.requires.known c.requires.none k vs pending n ts holds) in
    let ask : MayAsk entries c.args.query.now = record { fields = c.requires.fields; positions = c.requires.positions } in
    let best = c.best_of.ensures entries m us held ask in
    some_in_order entries m us c.args.query.now c.args.limit c.best_of.result best

pub returns-clause-greatest : goal.returns-clause-greatest
returns-clause-greatest g c = λ k vs pending n ts holds.
    let seen = g.D.Directory.seen in
    let old = c.args.writer.now in
    let new = c.commit.new.self.index in
    let entries = old.index.schema.schema in
    let m = n + k in
    let us : List IndexToken = with_tokens n ts vs in
    let read = subst (λ (i : IndexState _). g.D.Directory.is_known i.directory → (n : ℕ) (ts : List IndexToken) → HoldsIndexOf i.schema.schema (seen i.directory) n ts → SearcherHolds i.schema.schema c.in-Ok-reader.reader n ts) c.index.ensures c.in-Ok-reader.ensures.holds in
    let opens = subst (λ (s : TextSchemaState). HoldsIndexOf s.schema (seen new.directory) m us → SearcherHolds s.schema c.in-Ok-reader.reader m us) c.in-Ok.ensures.schema (read (c.in-Ok.ensures.known c.requires.known) m us) in
    let held = opens (c.in-Ok.ensures.added c.requires.known c.requires.none k vs pending n ts holds) in
    let ask : MayAsk entries c.args.query.now = record { fields = c.requires.fields; positions = c.requires.positions } in
    let best = c.best_of.ensures entries m us held ask in
    some_greatest entries m us c.args.query.now c.args.limit c.best_of.result best
