-- No index call is refused for a writer.
use Rattle.std.proofs.Common.{◌≡◌, ℕ, ◌+◌, ◌^◌, length, Bool, true, false, ◌&&◌, ◌||◌, ◌==◌, List, [], ◌∷◌, ◌++◌, Option, Some, None, Err, Result, sym, ◌∙◌, subst, arith, ⊎_elim}
use Rattle.std.specs.Prelude.{◌⊎◌, IfSome, if◌then◌else◌, nat_le, nat_lt}
use Rattle.ii_io.specs.declared.faults.Fault.{Fault}
use Rattle.ii_io.specs.declared.faults.Fault.TheVariants.{DecreasingPosition, Limit, OutOfMemory, Write}
use Rattle.ii_io.specs.declared.faults.LimitName.TheVariants as limit
use Rattle.std.specs.List.{flat_map}
use Rattle.ii_base.specs.Json.{Leaf, text_leaf, unsupported, value_leaf}
use Rattle.ii_base.specs.Words.{Word}
use Rattle.ii_base.specs.Options.{has_freq, has_positions}
use Rattle.ii_base.specs.declared.schema.index_record_option.IndexRecordOption.{IndexRecordOption}
use Rattle.ii_base.specs.Entries.{Entry}
use Rattle.ii_definitions.specs.Postings.{field_count}
use Rattle.ii_definitions.specs.Tokens.{Call, Content, IndexToken, Piece, begin_after, content_pieces, end_after, kept_words, leaf_pieces, leaves, pieces_of, text, tokens_after, value, word_token, words}
use Rattle.ii_recorder.specs.Recorded.{last_position, position_fault, u32_max}
use Rattle.ii_indexing.specs.IndexFiles.{CountsIndexFailures}
use Rattle.ii_indexing.specs.Refusals.{call_fault, calls_fault, content_fault, leaf_fault, next_leaf_fault, group_count, known_paths, own_path_fault, piece_fault, piece_fault_from, pieces_fault}
use Rattle.ii_postings_writer.specs.WordRefusals.{gap_fault, open_entry, u64_max, word_fault, words_fault}
use Rattle.ii_json.specs.LeafVisit.{first_fault, leaves_fault}
use Rattle.ii_json.specs.Paths.{is_known}
use Rattle.ii_indexing.specs.declared.index_writers.IndexWriters.{IndexWriters}

-- A fault, if there is one, isn't a writer's.
abbrev pub IsNotWrite : Option Fault → Type 0
IsNotWrite o = IfSome o (λ f. ¬ (f ≡ Write))

limit_or : (b : Bool) (f : Fault) (o : Option Fault) → (¬ (f ≡ Write)) → IsNotWrite o → IsNotWrite (if b then Some f else o)
limit_or true f o other rest = other
limit_or false f o other rest = rest

first_or : (a b : Option Fault) → IsNotWrite a → IsNotWrite b → IsNotWrite (first_fault a b)
first_or None b h k = k
first_or (Some f) b h k = h

position_other : (option : IndexRecordOption) (position : ℕ) (e : Entry) → IsNotWrite (position_fault option position e)
position_other option position e =
    limit_or (has_positions option && (position == u32_max)) (Limit limit.Position) _ (λ is. absurd (cc))
    (limit_or (has_positions option && nat_lt position (last_position e.positions)) DecreasingPosition _ (λ is. absurd (cc))
    (limit_or (has_freq option && (e.term_freq == u32_max)) (Limit limit.Count) None (λ is. absurd (cc)) tt))

word_other : (option : IndexRecordOption) (p : Piece) (begin in_group : ℕ) (ts : List IndexToken) (w : Word) → IsNotWrite (word_fault option p begin in_group ts w)
word_other option p begin in_group ts w =
    limit_or (nat_lt u32_max (begin + w.position + w.position_length)) (Limit limit.Position) _ (λ is. absurd (cc))
    (limit_or (nat_le u32_max in_group || nat_le u64_max (field_count p.field ts)) (Limit limit.Tokens) _ (λ is. absurd (cc))
    (position_other option (word_token p begin w).position (open_entry option (word_token p begin w) ts)))

words_other : (option : IndexRecordOption) (p : Piece) (begin in_group : ℕ) (ts : List IndexToken) (ws : List Word) → IsNotWrite (words_fault option p begin in_group ts ws)
words_other option p begin in_group ts [] = tt
words_other option p begin in_group ts (w ∷ ws) =
    first_or (word_fault option p begin in_group ts w) (words_fault option p begin (in_group + 1) (ts ++ word_token p begin w ∷ []) ws) (word_other option p begin in_group ts w)
    (words_other option p begin (in_group + 1) (ts ++ word_token p begin w ∷ []) ws)

piece_other : (b : Bool) (option : IndexRecordOption) (earlier : List Piece) (ts : List IndexToken) (p : Piece) → IsNotWrite (piece_fault_from b option earlier ts p)
piece_other true option earlier ts p =
    let begin = begin_after earlier p in
    first_or (words_fault option p begin (group_count earlier p) ts (kept_words p.words)) (gap_fault begin p.words) (words_other option p begin (group_count earlier p) ts (kept_words p.words))
    (limit_or (nat_lt u32_max (end_after begin p.words)) (Limit limit.Position) None (λ is. absurd (cc)) tt)
piece_other false option earlier ts p = limit_or (nat_le u64_max (field_count p.field ts)) (Limit limit.Tokens) None (λ is. absurd (cc)) tt

path_other : (known : List (List ℕ)) (path : Option (List ℕ)) → IsNotWrite (own_path_fault known path)
path_other known None = tt
path_other known (Some path) = by (is_known known path) (nat_lt (length known) (2 ^ 32))
  where
    by : (a b : Bool) → IsNotWrite (if a then None else if b then None else Some (Limit limit.Paths))
    by true b = tt
    by false true = tt
    by false false = λ is. absurd (cc)

whole_piece_other : (option : IndexRecordOption) (earlier : List Piece) (p : Piece) → IsNotWrite (piece_fault option earlier p)
whole_piece_other option earlier p =
    first_or (own_path_fault (known_paths earlier) p.path) (piece_fault_from p.is_text option earlier (tokens_after [] earlier) p) (path_other (known_paths earlier) p.path) (piece_other p.is_text option earlier (tokens_after [] earlier) p)

pieces_other : (option : IndexRecordOption) (earlier ps : List Piece) → IsNotWrite (pieces_fault option earlier ps)
pieces_other option earlier [] = tt
pieces_other option earlier (p ∷ ps) =
    first_or (piece_fault option earlier p) (pieces_fault option (earlier ++ p ∷ []) ps) (whole_piece_other option earlier p) (pieces_other option (earlier ++ p ∷ []) ps)

leaf_other : (analyze : List ℕ → List Word) (option : IndexRecordOption) (earlier : List Piece) (doc field : ℕ) (l : List ℕ × Leaf) → IsNotWrite (leaf_fault analyze option earlier doc field l)
leaf_other analyze option earlier doc field (path, text_leaf t) = pieces_other option earlier (leaf_pieces analyze doc field (path, text_leaf t))
leaf_other analyze option earlier doc field (path, value_leaf t n) = pieces_other option earlier (leaf_pieces analyze doc field (path, value_leaf t n))
leaf_other analyze option earlier doc field (path, unsupported kind) = λ is. absurd (cc)

leaves_other : (fault : List (List ℕ × Leaf) → List ℕ × Leaf → Option Fault) → ((before : List (List ℕ × Leaf)) (l : List ℕ × Leaf) → IsNotWrite (fault before l)) → (before ls : List (List ℕ × Leaf)) → IsNotWrite (leaves_fault fault before ls)
leaves_other fault each before [] = tt
leaves_other fault each before (l ∷ ls) = first_or (fault before l) (leaves_fault fault (before ++ l ∷ []) ls) (each before l) (leaves_other fault each (before ++ l ∷ []) ls)

content_other : (analyze : List ℕ → List Word) (option : IndexRecordOption) (earlier : List Piece) (c : Call) (content : Content) → IsNotWrite (content_fault analyze option earlier c content)
content_other analyze option earlier c (text t) = pieces_other option earlier (content_pieces analyze c (text t))
content_other analyze option earlier c (words ws) = pieces_other option earlier (content_pieces analyze c (words ws))
content_other analyze option earlier c (value key) = pieces_other option earlier (content_pieces analyze c (value key))
content_other analyze option earlier c (leaves ls) =
    leaves_other (next_leaf_fault analyze option earlier c.doc c.field) (λ before l. leaf_other analyze option (earlier ++ flat_map (leaf_pieces analyze c.doc c.field) before) c.doc c.field l) [] ls

calls_other : (analyze : List ℕ → List Word) (option : ℕ → IndexRecordOption) (earlier cs : List Call) → IsNotWrite (calls_fault analyze option earlier cs)
calls_other analyze option earlier [] = tt
calls_other analyze option earlier (c ∷ cs) =
    first_or (call_fault analyze (option c.field) (pieces_of analyze earlier) c) (calls_fault analyze option (earlier ++ c ∷ []) cs) (content_other analyze (option c.field) (pieces_of analyze earlier) c c.content)
    (calls_other analyze option (earlier ++ c ∷ []) cs)

-- what a refused call leaves of the writers
pub none_written : {W : Type 0} (analyze : List ℕ → List Word) (option : ℕ → IndexRecordOption) (cs : List Call) (writers : IndexWriters W) (fault : Fault) → (fault ≡ OutOfMemory) ⊎ (calls_fault analyze option [] cs ≡ Some fault)
    → CountsIndexFailures writers writers (Err fault)
none_written {W} analyze option cs writers fault why = record {
  once = record {
    ok = tt;
    write = (λ is. absurd (not_write (inside is)), λ more. absurd (omega (arith, more)));
    by_one = λ is. absurd (not_write (inside is));
  };
  terms = omega arith;
  postings = omega arith;
  positions = omega arith;
  fieldnorms = omega arith;
}
  where
    failure : Result (Unit {0}) Fault
    failure = Err fault

    inside : failure ≡ Err Write → fault ≡ Write
    inside is = cc

    not_write : fault ≡ Write → ⊥
    not_write is =
        ⊎_elim (λ (memory : fault ≡ OutOfMemory). let same : Write ≡ OutOfMemory = sym is ∙ memory in absurd (cc))
        (λ (cause : calls_fault analyze option [] cs ≡ Some fault). (subst IsNotWrite cause (calls_other analyze option [] cs)) is) why
