-- Open segments that hold an index have the numbers of its documents and tokens.
use Rattle.std.proofs.Common.{◌≡◌, ◌∙◌, ℕ, ◌+◌, ◌-◌, ◌^◌, ◌<◌, ◌≤◌, Bool, true, false, List, [], ◌∷◌, ◌++◌, Option, None, Some, Result, Ok, Err, Vec, Global, ap, arith, filter, get_or, if◌then◌else◌, length, map, min, nat_lt, refl, subst, sym}
use Rattle.std.specs.Prelude.{sum}
use Rattle.std.specs.List.{AllByRecursion, Contains, flat_map, range_with_len}
use Rattle.std.proofs.lemmas.List.{length-map, map-append}
use Rattle.std.proofs.lemmas.List.Concat.{flat_map-cons}
use Rattle.std.proofs.lemmas.List.FromFn.{get_or-map-range_with_len, length-map-range_with_len}
use Rattle.std.proofs.lemmas.List.Sums.{sum_by-append}
use Rattle.std.proofs.lemmas.Bool.{lt-ltb}
use Rattle.std.proofs.lemmas.Grind.{same_number_lists}
use Rattle.ii_alive.specs.Alive.{num_living, rank}
use Rattle.ii_base.specs.Entries.{Entry, docs_of}
use Rattle.ii_base.specs.Schema.{SchemaEntry}
use Rattle.ii_base.specs.Terms.{TermState}
use Rattle.ii_base.specs.declared.doc_id.TheConstants.{TERMINATED}
use Rattle.ii_bm25.specs.Statistics.{Statistics}
use Rattle.ii_definitions.specs.Postings.{field_count}
use Rattle.ii_definitions.specs.Tokens.{IndexToken}
use Rattle.ii_explanation.specs.Explanations.{number_damage}
use Rattle.ii_io.specs.declared.faults.Fault.{Fault}
use Rattle.ii_io.specs.declared.faults.Fault.TheVariants.{OutOfMemory}
use Rattle.ii_io.specs.declared.faults.Part.{Part}
use Rattle.ii_query_parser.specs.declared.query.Query.{Query}
use Rattle.ii_query_parser.specs.declared.query.Query.TheVariants.{Term}
use Rattle.ii_query_parser.specs.Queries.{QueryTree, covers_docs, has_fields, matches, tree_covers, tree_matches}
use Rattle.ii_query_parser.proofs.QueryLemmas.{term_fields, term_positions, term_tree}
use Rattle.ii_ranking.specs.TokenScores.{GivesBest, token_score, tokens_scored}
use Rattle.ii_scorer.specs.TopDocs.{scored_docs}
use Rattle.ii_scorer.specs.declared.top_docs.TopDocs.{TopDocs}
use Rattle.ii_ranking.proofs.OneIndexLaws.{segments_score_as_one}
use Rattle.ii_ranking.proofs.SegmentTokenLaws.{same_segments}
use Rattle.ii_ranking.proofs.TokenLaws.{memory_alone, memory_of_none}
use Rattle.ii_ranking.specs.Scores.{IsScoreFault, damage_of, first_of, query_damage}
use Rattle.ii_ranking.specs.Segments.{segments_damage, segments_scored}
use Rattle.ii_search.specs.Found.{found_in}
use Rattle.ii_search.proofs.FoundLemmas.{gives_matches}
use Rattle.ii_segment_search.specs.SegmentSearch.{found_in_segments}
use Rattle.ii_segment_search.specs.Searcher.{AreFew, GivesNumber, MayAsk, OpenSegmentState, Reaches, SegmentsHold, found_from, total_living}
use Rattle.ii_segment_search.proofs.FindLaws.{finds_in_segments}
use Rattle.ii_docset.specs.Intersection.{has_doc}
use Rattle.ii_living_docs.proofs.FoundLemmas.{living_found}
use Rattle.ii_segments.specs.Segments.{AreSegmentTokens, Segment, index_tokens, living_counts, living_docs, living_entries, num_docs_of}
use Rattle.ii_segments.proofs.CountLaws.{counts_of_segments}
use Rattle.ii_segment_store.specs.Contents.{SegmentContents}
use Rattle.nequllpa_merging.specs.HeldSegments.{HoldSegments, HoldsSegment}
use Rattle.nequllpa_merging.specs.OpenedSegments.{OpenedSegmentState, opened_from}
use Rattle.nequllpa_merging.proofs.OpenLemmas.{opened_for, parts_of, segment_held, segment_opens}
use Rattle.ii_index.specs.Deletes.{has_term}
use Rattle.ii_index.specs.Ranking.{CountsDocs, SearcherHolds, segment_counts}
use Rattle.ii_index.specs.Searching.{SearcherState, segment_totals}
use Rattle.ii_index.specs.Statistics.{counts_damage, index_statistics, num_docs_with, num_tokens_of, token_statistics}
use Rattle.ii_statistics.specs.Listed.{IsListedInEach, IsListed}
use Rattle.ii_statistics.specs.Statistics.{AreSameFor, doc_freq_in, num_found, query_terms, ranking_damage, terms_damage}
use Rattle.ii_statistics.proofs.DamageLemmas.{sound_both}
use Rattle.ii_statistics.proofs.StatisticsLaws.{same_tokens}
use Rattle.ii_statistics.proofs.TermLemmas.{terms_below}
use Rattle.ii_index.proofs.ScoredLemmas.{scored_there}

-- ---- numbers of tokens
module _ (entries : List SchemaEntry) where
  -- the numbers of a segment whose files hold its tokens
  pub totals_held : (c : SegmentContents) (s : Segment) → HoldsSegment entries c s → segment_totals entries c ≡ segment_counts (length entries) s
  totals_held c s holds = by (opened_from entries c) refl
    where
      rows : (o : OpenedSegmentState) → opened_from entries c ≡ Ok o → o.num_tokens ≡ map (λ (field : ℕ). sum (living_counts field s)) (range_with_len 0 (length entries))
      rows o is =
          let held = segment_held entries c o s holds is in
          let many = (opened_for entries c o is).totals in
          let count : ℕ → ℕ = λ field. sum (living_counts field s) in
          same_number_lists o.num_tokens (map count (range_with_len 0 (length entries))) (many ∙ sym (length-map-range_with_len count 0 (length entries)))
          (λ field inside.
          let known : field < length entries = omega (arith, inside, many) in
          held.totals field known ∙ sym (get_or-map-range_with_len count 0 (length entries) field field 0 known (omega arith)))

      by : (r : Result OpenedSegmentState Part) → opened_from entries c ≡ r → segment_totals entries c ≡ segment_counts (length entries) s
      by (Err part) is = absurd (segment_opens entries c s part holds is)
      by (Ok o) is =
          let p = parts_of entries c o is in
          rw (p.index, p.counts) (p.totals ∙ ap (λ (row : List ℕ). Ok row) (rows o is))

  -- and of all segments
  pub all_totals_held : (cs : List SegmentContents) (ss : List Segment) → HoldSegments entries cs ss → map (segment_totals entries) cs ≡ map (segment_counts (length entries)) ss
  all_totals_held [] [] hold = refl
  all_totals_held [] (s ∷ ss) hold = elim hold [ ]
  all_totals_held (c ∷ cs) [] hold = elim hold [ ]
  all_totals_held (c ∷ cs) (s ∷ ss) hold =
      let first = totals_held c s hold.0 in
      let later = all_totals_held cs ss hold.1 in
      λ j. first j ∷ later j

-- the tokens of segments in a field
sum_counts : (n field : ℕ) (ss : List Segment) → field < n → num_tokens_of (map (segment_counts n) ss) field ≡ sum (flat_map (living_counts field) ss)
sum_counts n field [] known = refl
sum_counts n field (s ∷ ss) known =
    let count : ℕ → ℕ = λ f. sum (living_counts f s) in
    let here : get_or (map count (range_with_len 0 n)) field 0 ≡ count field = get_or-map-range_with_len count 0 n field field 0 known (omega arith) in
    let later = sum_counts n field ss known in
    (λ j. here j + later j) ∙ sym (sum_by-append (λ (m : ℕ). m) (living_counts field s) (flat_map (living_counts field) ss)) ∙ ap sum (sym (flat_map-cons (living_counts field) s ss))

none_damaged : (n : ℕ) (ss : List Segment) → counts_damage (map (segment_counts n) ss) ≡ None
none_damaged n [] = refl
none_damaged n (s ∷ ss) = none_damaged n ss

-- ---- numbers of documents
each_token : (entries : List SchemaEntry) (opened : List OpenSegmentState) (ss : List Segment) → SegmentsHold entries opened ss → AllByRecursion (AreSegmentTokens entries) ss
each_token entries [] [] hold = tt
each_token entries [] (s ∷ ss) hold = elim hold [ ]
each_token entries (o ∷ os) [] hold = elim hold [ ]
each_token entries (o ∷ os) (s ∷ ss) hold = (hold.0.tokens, each_token entries os ss hold.1)

-- open segments have as many documents as the segments whose tokens they hold
pub same_living : (entries : List SchemaEntry) (opened : List OpenSegmentState) (ss : List Segment) → SegmentsHold entries opened ss → total_living opened ≡ num_docs_of ss
same_living entries [] [] hold = refl
same_living entries [] (s ∷ ss) hold = elim hold [ ]
same_living entries (o ∷ os) [] hold = elim hold [ ]
same_living entries (o ∷ os) (s ∷ ss) hold = omega (arith, ap num_living hold.0.alive, same_living entries os ss hold.1)

short : (entries : List SchemaEntry) (opened : List OpenSegmentState) (ss : List Segment) → SegmentsHold entries opened ss → AllByRecursion (λ (o : OpenSegmentState). length o.alive ≤ TERMINATED) opened → AllByRecursion (λ (s : Segment). length s.alive ≤ TERMINATED) ss
short entries [] [] hold each = tt
short entries [] (s ∷ ss) hold each = elim hold [ ]
short entries (o ∷ os) [] hold each = elim hold [ ]
short entries (o ∷ os) (s ∷ ss) hold each = (omega (arith, each.0, ap length hold.0.alive), short entries os ss hold.1 each.1)

-- a query that covers all documents that can be reaches those of segments
pub reaches : (entries : List SchemaEntry) (query : Query) (opened : List OpenSegmentState) (ss : List Segment) → AreFew opened → SegmentsHold entries opened ss → covers_docs TERMINATED query ≡ true → Reaches query ss
reaches entries query opened ss few hold covers = record {
  limit = TERMINATED;
  living = omega (arith, few.living, same_living entries opened ss hold);
  each = short entries opened ss hold few.each;
  covers = covers;
}

-- ---- what a query finds in segments that hold tokens
module _ (entries : List SchemaEntry) (query : Query) (ask : MayAsk entries query) where
  -- The documents of a query are found.
  record FindsHeld (base : ℕ) (opened : List OpenSegmentState) : Type 0 where
    es : List Entry
    is : found_from query base opened ≡ Ok es

  finds_held : (base : ℕ) (opened : List OpenSegmentState) (ss : List Segment) → SegmentsHold entries opened ss → FindsHeld base opened
  finds_held base [] [] hold = record { es = []; is = refl }
  finds_held base [] (s ∷ ss) hold = elim hold [ ]
  finds_held base (o ∷ os) [] hold = elim hold [ ]
  finds_held base (o ∷ os) (s ∷ ss) hold =
      let first = gives_matches entries (length s.alive) o.index s.tokens query hold.0.index ask.fields ask.positions in
      let later = finds_held (base + num_living o.alive) os ss hold.1 in
      record { es = living_entries base o.alive first.es ++ later.es; is = rw (first.is, later.is) refl }

  -- so none is damaged
  pub held_sound : (opened : List OpenSegmentState) (ss : List Segment) → SegmentsHold entries opened ss → damage_of (found_from query 0 opened) ≡ None
  held_sound opened ss hold = ap damage_of (finds_held 0 opened ss hold).is

  -- Those that are listed are exactly those that match.
  record FindsDocs (base : ℕ) (opened : List OpenSegmentState) (ss : List Segment) : Type 0 where
    es : List Entry
    is : found_from query base opened ≡ Ok es
    docs : docs_of es ≡ found_in_segments query base ss

  ok_same : (xs ys : List Entry) (r : Result (List Entry) Part) → r ≡ Ok xs → r ≡ Ok ys → xs ≡ ys
  ok_same xs ys r first second = let both : Ok xs ≡ Ok ys = sym first ∙ second in cc

  finds_docs : (base : ℕ) (opened : List OpenSegmentState) (ss : List Segment) → SegmentsHold entries opened ss → AllByRecursion (IsListed query) opened → FindsDocs base opened ss
  finds_docs base [] [] hold listed = record { es = []; is = refl; docs = refl }
  finds_docs base [] (s ∷ ss) hold listed = elim hold [ ]
  finds_docs base (o ∷ os) [] hold listed = elim hold [ ]
  finds_docs base (o ∷ os) (s ∷ ss) hold listed =
      let es = listed.0.es in
      let gives = gives_matches entries (length s.alive) o.index s.tokens query hold.0.index ask.fields ask.positions in
      let same : gives.es ≡ es = ok_same gives.es es (found_in o.index query) gives.is listed.0.found in
      let exact : (doc : ℕ) → has_doc es doc ≡ matches query s.tokens doc = λ doc. ap (λ (fs : List Entry). has_doc fs doc) (sym same) ∙ gives.exact doc in
      let later = finds_docs (base + num_living o.alive) os ss hold.1 listed.1 in
      let living = living_entries base o.alive es in
      let flags = hold.0.alive in
      let here = living_found base o.alive (matches query s.tokens) es listed.0.ascending exact
      ∙ ap (λ (a : List Bool). map (λ (doc : ℕ). base + rank a doc) (filter (matches query s.tokens) (living_docs a))) flags in
      let others = later.docs ∙ ap (λ (a : List Bool). found_in_segments query (base + num_living a) ss) flags in
      record {
        es = living ++ later.es;
        is = rw (listed.0.found, later.is) refl;
        docs = map-append (λ (e : Entry). e.doc) living later.es ∙ (λ j. here j ++ others j);
      }

  -- and so many
  pub listed_number : (opened : List OpenSegmentState) (ss : List Segment) → SegmentsHold entries opened ss → AllByRecursion (IsListed query) opened → Reaches query ss → num_found (found_from query 0 opened) ≡ length (filter (matches query (index_tokens ss)) (range_with_len 0 (num_docs_of ss)))
  listed_number opened ss hold listed reach =
      let found = finds_docs 0 opened ss hold listed in
      ap num_found found.is ∙ sym (length-map found.es (λ (e : Entry). e.doc)) ∙ ap length found.docs
      ∙ ap length (sym (finds_in_segments entries query ss reach.limit (each_token entries opened ss hold) reach.living reach.each reach.covers))

-- a query for a term may be asked
term_asked : (entries : List SchemaEntry) (term : TermState) → term.field < length entries → MayAsk entries (Term term)
term_asked entries term known = record { fields = term_fields (length entries) term ∙ lt-ltb term.field (length entries) known; positions = term_positions entries term }

-- the documents of terms are not damaged
pub terms_held_sound : (entries : List SchemaEntry) (opened : List OpenSegmentState) (ss : List Segment) → SegmentsHold entries opened ss → (terms : List TermState) → AllByRecursion (λ (t : TermState). t.field < length entries) terms → terms_damage opened terms ≡ None
terms_held_sound entries opened ss hold [] known = refl
terms_held_sound entries opened ss hold (t ∷ terms) known =
    sound_both (damage_of (found_from (Term t) 0 opened)) (terms_damage opened terms) (held_sound entries (Term t) (term_asked entries t known.0) opened ss hold) (terms_held_sound entries opened ss hold terms known.1)

-- nor is the segment of a document
number_memory : (entries : List SchemaEntry) (query : Query) → has_fields (length entries) query ≡ true → (fault : Fault) (number : ℕ) (opened : List OpenSegmentState) (ss : List Segment) → SegmentsHold entries opened ss
    → AllByRecursion (λ (s : Segment). length s.alive ≤ TERMINATED) ss → IsScoreFault (number_damage query number opened) fault → fault ≡ OutOfMemory
number_memory entries query fields fault number [] ss hold few is = memory_of_none None fault refl is
number_memory entries query fields fault number (o ∷ os) [] hold few is = elim hold [ ]
number_memory entries query fields fault number (o ∷ os) (s ∷ ss) hold few is =
    by (λ later. number_memory entries query fields fault (number - num_living o.alive) os ss hold.1 few.1 later) (nat_lt number (num_living o.alive)) is
  where
    by : (IsScoreFault (number_damage query (number - num_living o.alive) os) fault → fault ≡ OutOfMemory) → (here : Bool) → IsScoreFault (if here then query_damage o.index query else number_damage query (number - num_living o.alive) os) fault → fault ≡ OutOfMemory
    by others true damage = memory_alone entries (length s.alive) o.index s.tokens query fault hold.0.index (let own = few.0 in omega (arith, own)) fields damage
    by others false damage = others damage

-- nor is what the scores of a query need in each segment
segments_memory : (entries : List SchemaEntry) (query : Query) → has_fields (length entries) query ≡ true → (fault : Fault) (opened : List OpenSegmentState) (ss : List Segment) → SegmentsHold entries opened ss
    → AllByRecursion (λ (s : Segment). length s.alive ≤ TERMINATED) ss → IsScoreFault (segments_damage query opened) fault → fault ≡ OutOfMemory
segments_memory entries query fields fault [] ss hold few is = memory_of_none None fault refl is
segments_memory entries query fields fault (o ∷ os) [] hold few is = elim hold [ ]
segments_memory entries query fields fault (o ∷ os) (s ∷ ss) hold few is =
    by (λ later. segments_memory entries query fields fault os ss hold.1 few.1 later) (query_damage o.index query) refl is
  where
    by : (IsScoreFault (segments_damage query os) fault → fault ≡ OutOfMemory) → (here : Option Part) → query_damage o.index query ≡ here → IsScoreFault (first_of here (segments_damage query os)) fault → fault ≡ OutOfMemory
    by others None at damage = others damage
    by others (Some part) at damage = memory_alone entries (length s.alive) o.index s.tokens query fault hold.0.index (let own = few.0 in omega (arith, own)) fields (subst (λ (d : Option Part). IsScoreFault d fault) (sym at) damage)

module _ (entries : List SchemaEntry) (s : SearcherState) (n : ℕ) (ts : List IndexToken) (h : SearcherHolds entries s n ts) where
  -- the number of documents
  pub docs_held : total_living s.segments ≡ n
  docs_held = same_living entries s.segments h.segments h.hold ∙ h.have.num_docs

  -- no counts are damaged
  pub counts_sound : counts_damage s.num_tokens ≡ None
  counts_sound = ap counts_damage h.counts ∙ none_damaged (length entries) h.segments

  -- the number of tokens of a field
  pub tokens_held : (field : ℕ) → field < length entries → num_tokens_of s.num_tokens field ≡ field_count field ts
  tokens_held field known =
      ap (λ (totals : List (Result (List ℕ) Part)). num_tokens_of totals field) h.counts
      ∙ sum_counts (length entries) field h.segments known
      ∙ sym (counts_of_segments field h.segments).total
      ∙ ap (field_count field) h.have.tokens

  -- what the index has is what the tokens give, for terms whose documents were counted
  pub held_same : (terms : List TermState) → AllByRecursion (λ (t : TermState). t.field < length entries) terms → AllByRecursion (λ (t : TermState). doc_freq_in s.segments t ≡ num_docs_with n ts t) terms
      → AllByRecursion (AreSameFor (index_statistics s) (token_statistics n ts)) terms
  held_same [] known counted = tt
  held_same (t ∷ terms) known counted =
      (record { num_tokens = ap (min (2 ^ 64 - 1)) (tokens_held t.field known.0); doc_freq = counted.0 }, held_same terms known.1 counted.1)

  term_matches : (term : TermState) (doc : ℕ) → matches (Term term) ts doc ≡ has_term term ts doc
  term_matches term doc = ap (λ (tree : QueryTree). tree_matches tree ts doc) (term_tree term)

  filter_alike : (p q : ℕ → Bool) (docs : List ℕ) → ((doc : ℕ) → p doc ≡ q doc) → filter p docs ≡ filter q docs
  filter_alike p q docs same = λ j. filter (λ (doc : ℕ). same doc j) docs

  -- the documents of a term
  pub docs_counted : (few : AreFew s.segments) (term : TermState) (result : Result ℕ Fault) → term.field < length entries
      → (MayAsk entries (Term term) → Reaches (Term term) h.segments → GivesNumber (Term term) h.segments result) → CountsDocs n ts term result
  docs_counted few term result known gives = by result (gives ask (reaches entries (Term term) s.segments h.segments few h.hold covers))
    where
      ask : MayAsk entries (Term term)
      ask = term_asked entries term known

      covers : covers_docs TERMINATED (Term term) ≡ true
      covers = ap (tree_covers TERMINATED) (term_tree term)

      by : (r : Result ℕ Fault) → GivesNumber (Term term) h.segments r → CountsDocs n ts term r
      by (Ok m) is =
          is ∙ ap (λ (us : List IndexToken). length (filter (matches (Term term) us) (range_with_len 0 (num_docs_of h.segments)))) h.have.tokens
          ∙ ap (λ (many : ℕ). length (filter (matches (Term term) ts) (range_with_len 0 many))) h.have.num_docs
          ∙ ap length (filter_alike (matches (Term term) ts) (has_term term ts) (range_with_len 0 n) (term_matches term))
      by (Err fault) is = is

  -- the documents of terms that are listed
  pub docs_listed : (few : AreFew s.segments) (terms : List TermState) → AllByRecursion (λ (t : TermState). t.field < length entries) terms → AllByRecursion (IsListedInEach s.segments) terms
      → AllByRecursion (λ (t : TermState). doc_freq_in s.segments t ≡ num_docs_with n ts t) terms
  docs_listed few [] known listed = tt
  docs_listed few (t ∷ terms) known listed =
      (docs_counted few t (Ok (doc_freq_in s.segments t)) known.0 (λ ask reach. listed_number entries (Term t) ask s.segments h.segments h.hold listed.0 reach), docs_listed few terms known.1 listed.1)

  -- the documents that have a score by the tokens of segments are those by the tokens of the index
  row_held : (a : Statistics) (query : Query) → a.num_docs ≡ n → AllByRecursion (AreSameFor a (token_statistics n ts)) (query_terms query) → MayAsk entries query → Reaches query h.segments
      → tokens_scored entries a query 0 h.segments ≡ scored_docs n (token_score entries ts (token_statistics n ts) query)
  row_held a query many same ask reach =
      let b = token_statistics n ts in
      same_tokens a b many query same entries 0 h.segments
      ∙ segments_score_as_one entries b query h.segments (each_token entries s.segments h.segments h.hold) ask.positions reach
      ∙ ap (λ (us : List IndexToken). scored_docs (num_docs_of h.segments) (token_score entries us b query)) h.have.tokens
      ∙ ap (λ (many : ℕ). scored_docs many (token_score entries ts b query)) h.have.num_docs

  -- the best documents by the tokens of segments are those by the tokens of the index
  pub best_held : (a : Statistics) (query : Query) (docs : TopDocs) (result : Result (Vec (ℕ × ℕ) Global) Fault) → a.num_docs ≡ n → AllByRecursion (AreSameFor a (token_statistics n ts)) (query_terms query) → MayAsk entries query
      → Reaches query h.segments → GivesBest docs (tokens_scored entries a query 0 h.segments) result → GivesBest docs (scored_docs n (token_score entries ts (token_statistics n ts) query)) result
  best_held a query docs result many same ask reach gives =
      subst (λ (scored : List (ℕ × ℕ)). GivesBest docs scored result) (row_held a query many same ask reach) gives

  -- a document that has a score by the tokens of the index has it in its segment
  pub doc_held : (a : Statistics) (query : Query) (doc score : ℕ) → a.num_docs ≡ n → AllByRecursion (AreSameFor a (token_statistics n ts)) (query_terms query) → MayAsk entries query → Reaches query h.segments → doc < n
      → token_score entries ts (token_statistics n ts) query doc ≡ Some score → Contains (segments_scored a query 0 s.segments) (score, doc)
  doc_held a query doc score many same ask reach below is =
      subst (λ (scored : List (ℕ × ℕ)). Contains scored (score, doc)) (sym (same_segments entries a query ask.fields 0 s.segments h.segments h.hold ∙ row_held a query many same ask reach))
      (scored_there (token_score entries ts (token_statistics n ts) query) n doc score below is)

  -- what its shares need is not damaged
  pub shares_memory : (few : AreFew s.segments) (query : Query) (ask : MayAsk entries query) (doc : ℕ) (fault : Fault) → IsScoreFault (first_of (terms_damage s.segments (query_terms query)) (number_damage query doc s.segments)) fault → fault ≡ OutOfMemory
  shares_memory few query ask doc fault is =
      let sound = terms_held_sound entries s.segments h.segments h.hold (query_terms query) (terms_below (length entries) query ask.fields) in
      number_memory entries query ask.fields fault doc s.segments h.segments h.hold (short entries s.segments h.segments h.hold few.each) (subst (λ (d : Option Part). IsScoreFault (first_of d (number_damage query doc s.segments)) fault) sound is)

  -- documents score by a query what they score by the tokens of the index
  pub query_scored : (few : AreFew s.segments) (query : Query) → MayAsk entries query → covers_docs TERMINATED query ≡ true → AllByRecursion (IsListedInEach s.segments) (query_terms query)
      → segments_scored (index_statistics s) query 0 s.segments ≡ scored_docs n (token_score entries ts (token_statistics n ts) query)
  query_scored few query ask covers listed =
      let terms = query_terms query in
      let below = terms_below (length entries) query ask.fields in
      let same = held_same terms below (docs_listed few terms below listed) in
      same_segments entries (index_statistics s) query ask.fields 0 s.segments h.segments h.hold ∙ row_held (index_statistics s) query docs_held same ask (reaches entries query s.segments h.segments few h.hold covers)

  -- and what these scores need is not damaged
  pub query_memory : (few : AreFew s.segments) (query : Query) → MayAsk entries query → (fault : Fault) → IsScoreFault (ranking_damage s.segments query) fault → fault ≡ OutOfMemory
  query_memory few query ask fault is =
      let sound = terms_held_sound entries s.segments h.segments h.hold (query_terms query) (terms_below (length entries) query ask.fields) in
      segments_memory entries query ask.fields fault s.segments h.segments h.hold (short entries s.segments h.segments h.hold few.each) (subst (λ (d : Option Part). IsScoreFault (first_of d (segments_damage query s.segments)) fault) sound is)
