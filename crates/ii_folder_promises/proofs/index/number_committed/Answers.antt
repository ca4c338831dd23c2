use Rattle.std.proofs.Common.{◌≡◌, ◌+◌, [], ℕ, List, arith, ap, subst, sym}
use Rattle.ii_definitions.specs.Tokens.{IndexToken}
use Rattle.ii_index.specs.Index.{IndexState}
use Rattle.ii_index.specs.Searching.{SearcherState}
use Rattle.ii_index.specs.Ranking.{SearcherHolds}
use Rattle.ii_index.specs.Segments.{HoldsIndexOf, with_tokens}
use Rattle.ii_schema_text.specs.SchemaText.{TextSchemaState}
use Rattle.ii_segment_search.specs.Searcher.{total_living}
use Rattle.ii_folder_promises.proofs.IndexLaws.{all_counted}
use Rattle.ii_folder_promises.proofs.index.number_committed.Goals as goal

pub returns : goal.returns
returns g c =
    let seen = g.D.Directory.seen in
    let new = c.commit.new.self.index in
    let n = 0 + 2 in
    let ts : List IndexToken = with_tokens 0 [] c.requires.two.0 in
    let held = subst (λ (s : TextSchemaState). HoldsIndexOf s.schema (seen new.directory) n ts) (sym c.in-Ok.ensures.schema) (c.in-Ok.ensures.added c.requires.known c.requires.none 2 c.requires.two.0 c.requires.two.1 0 [] c.requires.empty) in
    let read = subst (λ (i : IndexState _). g.D.Directory.is_known i.directory → (n : ℕ) (ts : List IndexToken) → HoldsIndexOf i.schema.schema (seen i.directory) n ts → SearcherHolds i.schema.schema c.in-Ok-reader.reader n ts) c.index.ensures c.in-Ok-reader.ensures.holds in
    let all : total_living c.in-Ok-reader.reader.segments ≡ 0 + 2 = all_counted new.schema.schema c.in-Ok-reader.reader n ts (read (c.in-Ok.ensures.known c.requires.known) n ts held) in
    let same : total_living c.searcher.result.now.segments ≡ total_living c.in-Ok-reader.reader.segments = ap (λ (r : SearcherState). total_living r.segments) c.searcher.ensures in
    omega (arith, c.num_docs.ensures, same, all)
