-- The shares of an index that holds tokens are those of the tokens.
use Rattle.std.proofs.Common.{◌≡◌, ◌∙◌, ℕ, ◌<◌, ◌^◌, Bool, true, ◌&&◌, List, [], ◌∷◌, ◌++◌, IfErr, IfOk, Result, Ok, Err, Vec, Global, if◌then◌else◌, length, map, nat_lt, refl, ap}
use Rattle.std.specs.List.{list_all}
use Rattle.std.specs.Option.{option_map, option_to_list}
use Rattle.std.proofs.lemmas.Bool.{and_parts, ltb-true}
use Rattle.ii_io.specs.declared.faults.Fault.{Fault}
use Rattle.ii_base.specs.Entries.{Entry}
use Rattle.ii_base.specs.Schema.{SchemaEntry}
use Rattle.ii_base.specs.Terms.{TermState}
use Rattle.ii_base.specs.declared.schema.index_record_option.IndexRecordOption.TheVariants.{WithFreqs, WithFreqsAndPositions}
use Rattle.ii_bm25.specs.Bm25.{bm25_score, bm25_weight, weight}
use Rattle.ii_bm25.specs.Statistics.{Statistics, idfs_of}
use Rattle.ii_definitions.specs.Tokens.{IndexToken}
use Rattle.ii_query_parser.specs.declared.query.PhraseTerm.{PhraseTerm}
use Rattle.ii_query_parser.specs.declared.query.Query.{Query}
use Rattle.ii_query_parser.specs.Queries as queries
use Rattle.ii_query_parser.specs.Queries.{QueryTree, QueryTrees, has_fields, hold_for_all, holds_for_all, is_within, phrase_is_within, tree_of}
use Rattle.ii_reader.specs.OpenIndex.{IndexHolds, OpenIndexState}
use Rattle.ii_ranking.specs.declared.shares.Share.{Share}
use Rattle.ii_ranking.specs.Scores.{IsScoreFault, Scored, entry_at, phrase_count, query_damage, scored_by_tokens, scored_in}
use Rattle.ii_ranking.specs.Shares.{GivesShares, ShareState, all_have_shares, constant_share, has_shares, phrase_share, share_if_occurs, share_of, term_share, tree_shares, trees_shares}
use Rattle.ii_ranking.proofs.TokenLaws.{AreAlike, held_alike, memory_alone, same_parts}

-- the share of a count, given the numbers of an index and the norm id of the document
abbrev share_with : Statistics → QueryTree → List TermState → ℕ → ℕ → ℕ → ShareState
share_with s part terms field id count = record {
  part = part;
  weight = weight (idfs_of s terms);
  count = count;
  norm_id = id;
  score = bm25_score (bm25_weight (idfs_of s terms) s.num_docs (s.num_tokens field)) id count;
}

module _ (n num_docs : ℕ) (a b : Scored) (alike : AreAlike n num_docs a b) (doc : ℕ) (below : doc < num_docs) where
  alike_term : (term : TermState) → term.field < n → term_share a term doc ≡ term_share b term doc
  alike_term term field = λ j. option_map (λ (e : Entry). share_with (alike.statistics j) (queries.one_term term) (term ∷ []) term.field (alike.norm_id term.field doc below j) e.term_freq) (entry_at (alike.entries WithFreqs term field j) doc)

  alike_phrase : (first : TermState) (others : List PhraseTerm) (slop : ℕ) → phrase_is_within n first others ≡ true → phrase_share a first others slop doc ≡ phrase_share b first others slop doc
  alike_phrase first others slop fields =
      let h = and_parts (nat_lt first.field n) (list_all (λ (o : PhraseTerm). nat_lt o.term.field n) others) fields in
      let field = ltb-true first.field n h.0 in
      let parts = same_parts n num_docs a b alike doc below others h.1 in
      λ j. share_if_occurs (share_with (alike.statistics j) (queries.one_phrase first others slop) (first ∷ map (λ (o : PhraseTerm). o.term) others) first.field (alike.norm_id first.field doc below j))
      (phrase_count slop (alike.entries WithFreqsAndPositions first field j) (parts j) doc)

  mutual
    alike_tree : (q : QueryTree) → holds_for_all (is_within n) (phrase_is_within n) q ≡ true → tree_shares a q doc ≡ tree_shares b q doc
    alike_tree queries.nothing fields = refl
    alike_tree (queries.all_below m) fields = refl
    alike_tree (queries.one_term term) fields = ap option_to_list (alike_term term (ltb-true term.field n fields))
    alike_tree (queries.one_phrase first others slop) fields = ap option_to_list (alike_phrase first others slop fields)
    alike_tree (queries.one_phrase_prefix phrase) fields = ap (λ (has : Bool). option_to_list (constant_share (queries.one_phrase_prefix phrase) has)) (alike.has_phrase_in phrase doc fields)
    alike_tree (queries.one_range range) fields = ap (λ (has : Bool). option_to_list (constant_share (queries.one_range range) has)) (alike.has_in range doc (ltb-true range.prefix.field n fields))
    alike_tree (queries.each_of qs) fields = λ j. if alike_all qs fields j then alike_trees qs fields j else []
    alike_tree (queries.any_of qs) fields = alike_trees qs fields
    alike_tree (queries.without first other) fields =
        let h = and_parts (holds_for_all (is_within n) (phrase_is_within n) first) (holds_for_all (is_within n) (phrase_is_within n) other) fields in
        λ j. if has_shares (alike_tree other h.1 j) then [] else alike_tree first h.0 j

    alike_trees : (qs : QueryTrees) → hold_for_all (is_within n) (phrase_is_within n) qs ≡ true → trees_shares a qs doc ≡ trees_shares b qs doc
    alike_trees queries.no_tree fields = refl
    alike_trees (queries.tree q qs) fields =
        let h = and_parts (holds_for_all (is_within n) (phrase_is_within n) q) (hold_for_all (is_within n) (phrase_is_within n) qs) fields in
        λ j. alike_tree q h.0 j ++ alike_trees qs h.1 j

    alike_all : (qs : QueryTrees) → hold_for_all (is_within n) (phrase_is_within n) qs ≡ true → all_have_shares a qs doc ≡ all_have_shares b qs doc
    alike_all queries.no_tree fields = refl
    alike_all (queries.tree q qs) fields =
        let h = and_parts (holds_for_all (is_within n) (phrase_is_within n) q) (hold_for_all (is_within n) (phrase_is_within n) qs) fields in
        λ j. has_shares (alike_tree q h.0 j) && alike_all qs h.1 j

-- what an index that holds tokens gives
pub gives_shares : (schema : List SchemaEntry) (held : ℕ) (index : OpenIndexState) (ts : List IndexToken) (statistics : Statistics) (query : Query) (doc : ℕ) (r : Result (Vec Share Global) Fault)
    → IndexHolds schema held index ts → doc < held → held < 2 ^ 32 → has_fields (length schema) query ≡ true
    → IfOk r (λ shares. map share_of shares.items ≡ tree_shares (scored_in index statistics) (tree_of query) doc) → IfErr r (IsScoreFault (query_damage index query))
    → GivesShares (tree_shares (scored_by_tokens schema ts statistics) (tree_of query) doc) r
gives_shares schema held index ts statistics query doc (Ok shares) holds below few fields given refused =
    given ∙ alike_tree (length schema) held (scored_in index statistics) (scored_by_tokens schema ts statistics) (held_alike schema held index ts holds statistics) doc below (tree_of query) fields
gives_shares schema held index ts statistics query doc (Err fault) holds below few fields given refused = memory_alone schema held index ts query fault holds few fields refused
