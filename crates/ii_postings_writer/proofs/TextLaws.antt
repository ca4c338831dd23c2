-- What indexing a word and a text adds to a context.
use Rattle.std.proofs.Common.{arith, append-nil, ◌==◌, ◌≤◌, ◌&&◌, ◌||◌, map, length, ◌≡◌, ℕ, ◌+◌, ◌<◌, ◌^◌, Bool, true, false, List, [], ◌∷◌, ◌++◌, Some, None, Option, Ok, Err, Result, refl, sym, ap, ◌∙◌, subst, cond, max, inl, inr, append_assoc, length-append, ⊎_elim, ◌⊎◌}
use Rattle.std.specs.Prelude.{IfErr, drop, slice_get, IsTrue, MatchOption, find, fold, unwrap_or, ⊤, if◌then◌else◌, nat_le, nat_lt}
use Rattle.std.proofs.lemmas.Bool.{and_parts, eq-eqb, leb-true}
use Rattle.std.proofs.lemmas.List.Folds.{find-append}
use Rattle.std.proofs.lemmas.List.Sums.{fold-append, sum_by-append}
use Rattle.std.proofs.lemmas.List.{map-append}
use Rattle.std.proofs.lemmas.List.Elements.{filter-append}
use Rattle.ii_io.specs.declared.faults.Fault.{Fault}
use Rattle.ii_io.specs.declared.faults.Fault.TheVariants.{Limit, OutOfMemory}
use Rattle.ii_io.specs.declared.faults.LimitName.TheVariants as limit
use Rattle.ii_base.specs.declared.schema.index_record_option.IndexRecordOption.{IndexRecordOption}
use Rattle.ii_base.proofs.OptionLemmas.{downgrade_same}
use Rattle.ii_base.specs.Entries.{Entry, ascend_from, docs_of}
use Rattle.ii_base.specs.Words.{Word}
use Rattle.ii_recorder.specs.Recorded.{RecorderState, begun, entries_of_recorder, position_fault, u32_max}
use Rattle.ii_definitions.specs.Tokens.{IndexToken, Piece, kept_words, max_token_len, word_token}
use Rattle.ii_definitions.specs.Postings.{field_count, is_at, kind_of, postings_from, tokens_at}
use Rattle.ii_postings_writer.specs.IndexingContext.{AllEndBy, EndsBy, IsRecorded, TermIndex, entry_for_doc, new_recorder, record_fault, recorder_of, recorder_or_new}
use Rattle.ii_postings_writer.specs.declared.indexing_position.IndexingPosition.{IndexingPosition}
use Rattle.ii_postings_writer.specs.IndexingTerm.{IndexingTermState, term_bytes}
use Rattle.ii_postings_writer.specs.PostingsWriter.{text_fault, RefusesWords, IndexesWords, text_piece, tokens_counted, HasTokens, IndexesKept, PostingsWriterState, TextState, kept_fault, subscribe_fault, term_token, word_bytes, word_end}
use Rattle.ii_postings_writer.specs.Records.{Records}
use Rattle.ii_postings_writer.specs.WordRefusals.{gap_fault, open_entry, u64_max, word_fault, words_fault}
use Rattle.ii_json.specs.LeafVisit.{IsRefusedBy, first_fault}
use Rattle.ii_postings_writer.proofs.RecordsLaws.{HasKey, records_more, tokens_at_last}
use Rattle.ii_postings_writer.proofs.RecorderSteps.{open_in}
use Rattle.ii_json.proofs.LeafVisitLemmas.{first_fault-assoc}
use Rattle.ii_base.specs.declared.doc_id.TheConstants.{TERMINATED}

pub records_subscribed : (option : IndexRecordOption) (doc position : ℕ) (term : IndexingTermState) (old new : TermIndex) → term.field < 2 ^ 32 → IsRecorded option doc position (term_bytes term) old new
    → (kind : ℕ → List ℕ → IndexRecordOption) (ts : List IndexToken) (of_text : Bool) → kind term.field term.value ≡ option → Records kind old ts → Records kind new (ts ++ term_token doc position of_text term ∷ [])
records_subscribed option doc position term old new low recorded kind ts of_text is known =
    records_more kind old new ts (term_token doc position of_text term) low (subst (λ (o : IndexRecordOption). IsRecorded o doc position (term_bytes term) old new) (sym is) recorded) known

-- which way a call ended that has one cause to refuse
pub was_ok : {A : Type 0} (b : Bool) (f : Fault) (x y : A) → Ok y ≡ (if b then Err f else Ok x) → (b ≡ false) × (y ≡ x)
was_ok true f x y is = absurd (cc)
was_ok false f x y is = (refl, cc)

pub was_err : {A : Type 0} (b : Bool) (f e : Fault) (x : A) → Err e ≡ (if b then Err f else Ok x) → (b ≡ true) × (e ≡ f)
was_err true f e x is = (refl, cc)
was_err false f e x is = absurd (cc)

-- a word that has its place and fits its group
pub fitting_fault : (p : Piece) (begin : ℕ) (w : Word) (s : TextState) → nat_lt u32_max (word_end begin w) ≡ false → nat_le u32_max s.num_tokens ≡ false
    → kept_fault p begin w s ≡ subscribe_fault s.writer.option s.writer.total_num_tokens p.doc (begin + w.position) (word_bytes p w) s.terms
fitting_fault p begin w s placed fits = rw (placed, fits) refl

-- a position in a field that has room for one more token
pub counted_fault : (option : IndexRecordOption) (num_tokens doc position : ℕ) (term : List ℕ) (terms : TermIndex) → nat_le u64_max num_tokens ≡ false
    → subscribe_fault option num_tokens doc position term terms ≡ record_fault doc position (recorder_or_new option terms term)
counted_fault option num_tokens doc position term terms fits = rw fits refl

-- no document before the last one of ascending documents is that one or above it
find_below : (least : ℕ) (es : List Entry) (last doc : ℕ) → IsTrue (ascend_from least (docs_of es ++ last ∷ [])) → last ≤ doc
    → (find (λ (e : Entry). e.doc == doc) es ≡ None) × (least ≤ last)
find_below least [] last doc h within =
    let parts = and_parts (nat_le least last && nat_lt last TERMINATED) true h in
    let first = and_parts (nat_le least last) (nat_lt last TERMINATED) parts.0 in
    (refl, leb-true least last first.0)
find_below least (e ∷ es) last doc h within =
    let parts = and_parts (nat_le least e.doc && nat_lt e.doc TERMINATED) (ascend_from (e.doc + 1) (docs_of es ++ last ∷ [])) h in
    let first = and_parts (nat_le least e.doc) (nat_lt e.doc TERMINATED) parts.0 in
    let rest = find_below (e.doc + 1) es last doc parts.1 within in
    let other : (e.doc == doc) ≡ false = grind (arith, rest.1, within) in
    (rw other rest.0, omega (arith, leb-true least e.doc first.0, rest.1))

entry_at_open : (doc : ℕ) (r : RecorderState) (e : Entry) (b : Bool) → r.pending ≡ Some e → (e.doc == doc) ≡ b → entry_for_doc doc r ≡ cond b e (begun r.option doc)
entry_at_open doc r e true is same = rw (is, same) refl
entry_at_open doc r e false is other = rw (is, other) refl

found_last : (doc : ℕ) (es : List Entry) (e other : Entry) (b : Bool) → find (λ (f : Entry). f.doc == doc) es ≡ None → (e.doc == doc) ≡ b → unwrap_or (find (λ (f : Entry). f.doc == doc) (es ++ e ∷ [])) other ≡ cond b e other
found_last doc es e other true before same = rw (find-append (λ (f : Entry). f.doc == doc) es (e ∷ []), before, same) refl
found_last doc es e other false before is = rw (find-append (λ (f : Entry). f.doc == doc) es (e ∷ []), before, is) refl

-- what a recorder has of a document is what its entries have of it
entry_found : (doc : ℕ) (r : RecorderState) → EndsBy doc r → entry_for_doc doc r ≡ unwrap_or (find (λ (e : Entry). e.doc == doc) (entries_of_recorder r)) (begun r.option doc)
entry_found doc r h =
    let o = open_in doc r h in
    let before = (find_below 0 r.closed o.entry.doc doc o.ascending o.within).0 in
    entry_at_open doc r o.entry (o.entry.doc == doc) o.pending refl
    ∙ sym (found_last doc r.closed o.entry (begun r.option doc) (o.entry.doc == doc) before refl)
    ∙ ap (λ (es : List Entry). unwrap_or (find (λ (e : Entry). e.doc == doc) es) (begun r.option doc)) (sym o.entries)

-- the recorder of a key, or a new one
pub key_recorder : (option : IndexRecordOption) (ts : List IndexToken) (found : Option RecorderState) → HasKey option ts found → (unwrap_or found (new_recorder option)).option ≡ option
key_recorder option ts None none = refl
key_recorder option ts (Some r) h = h.kept

key_entry : (option : IndexRecordOption) (doc : ℕ) (ts : List IndexToken) (found : Option RecorderState) → HasKey option ts found → MatchOption found ⊤ (EndsBy doc) → kind_of option ts ≡ option
    → entry_for_doc doc (unwrap_or found (new_recorder option)) ≡ unwrap_or (find (λ (e : Entry). e.doc == doc) (postings_from option option ts)) (begun option doc)
key_entry option doc ts None none ends kind = rw none refl
key_entry option doc ts (Some r) h ends kind =
    rw (kind, downgrade_same option, ← h.entries, entry_found doc r ends, h.kept) refl

three : (a b c : Bool) (first second third : Option Fault) → (if a then first else if b || c then second else third) ≡ (if a then first else if b then second else if c then second else third)
three true b c first second third = refl
three false true c first second third = refl
three false false c first second third = refl

-- why a word that is kept is refused, by the tokens that a context has
pub kept_is : (kind : ℕ → List ℕ → IndexRecordOption) (p : Piece) (begin : ℕ) (w : Word) (s : TextState) (ts : List IndexToken) → p.field < 2 ^ 32
    → AllEndBy p.doc s.terms → HasTokens kind p s.terms s.writer ts → word_fault s.writer.option p begin s.num_tokens ts w ≡ kept_fault p begin w s
kept_is kind p begin w s ts low ends h =
    let key = p.prefix ++ w.text in
    let found = recorder_of s.terms (word_bytes p w) in
    let known : HasKey s.writer.option (tokens_at p.field key ts) found = subst (λ (o : IndexRecordOption). HasKey o (tokens_at p.field key ts) found) (h.kinds w.text) (h.records p.field key low) in
    let entry = key_entry s.writer.option p.doc (tokens_at p.field key ts) found known (ends (word_bytes p w)) (h.of_text w.text) in
    let option = key_recorder s.writer.option (tokens_at p.field key ts) found known in
    let fault = position_fault s.writer.option (begin + w.position) (open_entry s.writer.option (word_token p begin w) ts) in
    let many = nat_le u64_max (field_count p.field ts) in
    let r = recorder_or_new s.writer.option s.terms (word_bytes p w) in
    let inner : subscribe_fault s.writer.option s.writer.total_num_tokens p.doc (begin + w.position) (word_bytes p w) s.terms ≡ (if many then Some (Limit limit.Tokens) else fault) =
    ap (λ (n : ℕ). if nat_le u64_max n then Some (Limit limit.Tokens) else record_fault p.doc (begin + w.position) r) h.counted
    ∙ ap (λ (o : IndexRecordOption). if many then Some (Limit limit.Tokens) else position_fault o (begin + w.position) (entry_for_doc p.doc r)) option
    ∙ ap (λ (e : Entry). if many then Some (Limit limit.Tokens) else position_fault s.writer.option (begin + w.position) e) entry in
    three (nat_lt u32_max (word_end begin w)) (nat_le u32_max s.num_tokens) (nat_le u64_max (field_count p.field ts)) (Some (Limit limit.Position)) (Some (Limit limit.Tokens)) fault
    ∙ ap (λ (rest : Option Fault). if nat_lt u32_max (word_end begin w) then Some (Limit limit.Position) else if nat_le u32_max s.num_tokens then Some (Limit limit.Tokens) else rest) (sym inner)

kind_of_more : (option : IndexRecordOption) (ts : List IndexToken) (t : IndexToken) → t.of_text ≡ true → kind_of option ts ≡ option → kind_of option (ts ++ t ∷ []) ≡ option
kind_of_more option [] t text known = rw text refl
kind_of_more option (u ∷ ts) t text known = known

kind_after : (option : IndexRecordOption) (field : ℕ) (key : List ℕ) (ts : List IndexToken) (t : IndexToken) (b : Bool) → is_at field key t ≡ b → t.of_text ≡ true → kind_of option (tokens_at field key ts) ≡ option
    → kind_of option (tokens_at field key (ts ++ t ∷ [])) ≡ option
kind_after option field key ts t true at text known = rw (tokens_at_last field key ts t true at) (kind_of_more option (tokens_at field key ts) t text known)
kind_after option field key ts t false at text known = rw (tokens_at_last field key ts t false at, append-nil (tokens_at field key ts)) known

-- one more token of a field
pub field_count_more : (field : ℕ) (ts : List IndexToken) (t : IndexToken) → t.field ≡ field → field_count field (ts ++ t ∷ []) ≡ field_count field ts + 1
field_count_more field ts t at = sum_by-append (λ (u : IndexToken). cond (u.field == field) 1 0) ts (t ∷ []) ∙ rw (eq-eqb t.field field at) refl

-- the tokens of a context with one word more
tokens_more : (kind : ℕ → List ℕ → IndexRecordOption) (p : Piece) (begin : ℕ) (w : Word) (old new : TextState) (ts : List IndexToken) → p.is_text ≡ true → p.field < 2 ^ 32
    → IndexesKept p begin w old new → HasTokens kind p old.terms old.writer ts → HasTokens kind p new.terms new.writer (ts ++ word_token p begin w ∷ [])
tokens_more kind p begin w old new ts text low h known =
    let t = word_token p begin w in
    let option : new.writer.option ≡ old.writer.option = ap (λ (s : PostingsWriterState). s.option) h.writer in
    let total : new.writer.total_num_tokens ≡ old.writer.total_num_tokens + 1 = ap (λ (s : PostingsWriterState). s.total_num_tokens) h.writer in
    record {
      records = records_more kind old.terms new.terms ts t low (subst (λ (o : IndexRecordOption). IsRecorded o p.doc (begin + w.position) (word_bytes p w) old.terms new.terms) (sym (known.kinds w.text)) h.recorded) known.records;
      kinds = λ key. known.kinds key ∙ sym option;
      of_text = λ key. rw option (kind_after old.writer.option p.field (p.prefix ++ key) ts t (is_at p.field (p.prefix ++ key) t) refl refl (known.of_text key));
      counted = total ∙ ap (λ (n : ℕ). n + 1) known.counted ∙ sym (field_count_more p.field ts t refl);
    }

-- the first fault of words in two parts
words_fault-append : (option : IndexRecordOption) (p : Piece) (begin n : ℕ) (ts : List IndexToken) (xs ys : List Word)
    → words_fault option p begin n ts (xs ++ ys) ≡ first_fault (words_fault option p begin n ts xs) (words_fault option p begin (n + length xs) (ts ++ map (word_token p begin) xs) ys)
words_fault-append option p begin n ts [] ys =
    let count : n ≡ n + 0 = omega arith in
    ap (λ (us : List IndexToken). words_fault option p begin n us ys) (sym (append-nil ts)) ∙ ap (λ (m : ℕ). words_fault option p begin m (ts ++ []) ys) count
words_fault-append option p begin n ts (x ∷ xs) ys =
    let t = word_token p begin x in
    let rest = words_fault-append option p begin (n + 1) (ts ++ t ∷ []) xs ys in
    let count : n + 1 + length xs ≡ n + length (x ∷ xs) = omega arith in
    let tokens : (ts ++ t ∷ []) ++ map (word_token p begin) xs ≡ ts ++ map (word_token p begin) (x ∷ xs) = append_assoc ts (t ∷ []) (map (word_token p begin) xs) in
    let first = word_fault option p begin n ts x in
    let others = words_fault option p begin (n + 1) (ts ++ t ∷ []) xs in
    ap (first_fault first) (rest ∙ ap (λ (m : ℕ). first_fault others (words_fault option p begin m ((ts ++ t ∷ []) ++ map (word_token p begin) xs) ys)) count
    ∙ ap (λ (us : List IndexToken). first_fault others (words_fault option p begin (n + length (x ∷ xs)) us ys)) tokens)
    ∙ first_fault-assoc first others (words_fault option p begin (n + length (x ∷ xs)) (ts ++ map (word_token p begin) (x ∷ xs)) ys)

-- one word that is kept
pub one_word : (doc : ℕ) (term : IndexingTermState) (words : List Word) (begin : ℕ) (w : Word) (old new : TextState) → term.field < 2 ^ 32 → AllEndBy doc old.terms
    → kept_fault (text_piece doc term []) begin w old ≡ None → IndexesKept (text_piece doc term []) begin w old new → IndexesWords (text_piece doc term words) begin (w ∷ []) old new
one_word doc term words begin w old new low ends fault h =
    let p = text_piece doc term words in
    let same : IndexesKept p begin w old new = record { recorded = h.recorded; ends = h.ends; writer = h.writer; num_tokens = h.num_tokens; end_position = h.end_position } in
    record {
      tokens = λ kind ts known. (tokens_more kind p begin w old new ts refl low same known, ap (λ (f : Option Fault). first_fault f None) (kept_is kind p begin w old ts low ends known ∙ fault));
      ends = h.ends;
      writer = h.writer;
      num_tokens = h.num_tokens;
      end_position = h.end_position;
    }

pub one_refused : (doc : ℕ) (term : IndexingTermState) (words : List Word) (begin : ℕ) (w : Word) (old : TextState) (fault : Fault) → term.field < 2 ^ 32 → AllEndBy doc old.terms
    → (fault ≡ OutOfMemory) ⊎ (kept_fault (text_piece doc term []) begin w old ≡ Some fault) → RefusesWords (text_piece doc term words) begin (w ∷ []) old fault
one_refused doc term words begin w old fault low ends (inl memory) kind ts known = inl memory
one_refused doc term words begin w old fault low ends (inr cause) kind ts known =
    inr (ap (λ (f : Option Fault). first_fault f None) (kept_is kind (text_piece doc term words) begin w old ts low ends known ∙ cause))

option_after : (p : Piece) (begin : ℕ) (ws : List Word) (old new : TextState) → IndexesWords p begin ws old new → new.writer.option ≡ old.writer.option
option_after p begin ws old new h = ap (λ (s : PostingsWriterState). s.option) h.writer

-- why later words are refused, by what there was before the earlier ones
later_fault : (kind : ℕ → List ℕ → IndexRecordOption) (p : Piece) (begin : ℕ) (xs ys : List Word) (old mid : TextState) (ts : List IndexToken) → IndexesWords p begin xs old mid → HasTokens kind p old.terms old.writer ts
    → words_fault old.writer.option p begin old.num_tokens ts (xs ++ ys) ≡ words_fault mid.writer.option p begin mid.num_tokens (ts ++ map (word_token p begin) xs) ys
later_fault kind p begin xs ys old mid ts f known =
    let us = ts ++ map (word_token p begin) xs in
    words_fault-append old.writer.option p begin old.num_tokens ts xs ys
    ∙ ap (λ (c : Option Fault). first_fault c (words_fault old.writer.option p begin (old.num_tokens + length xs) us ys)) (f.tokens kind ts known).1
    ∙ ap (λ (n : ℕ). words_fault old.writer.option p begin n us ys) (sym f.num_tokens)
    ∙ ap (λ (o : IndexRecordOption). words_fault o p begin mid.num_tokens us ys) (sym (option_after p begin xs old mid f))

-- some words, and then others
pub more_words : (p : Piece) (begin : ℕ) (xs ys : List Word) (old mid new : TextState) → IndexesWords p begin xs old mid → IndexesWords p begin ys mid new → IndexesWords p begin (xs ++ ys) old new
more_words p begin xs ys old mid new f g = record {
  tokens = λ kind ts known.
      let one = f.tokens kind ts known in
      let two = g.tokens kind (ts ++ map (word_token p begin) xs) one.0 in
      let tokens = append_assoc ts (map (word_token p begin) xs) (map (word_token p begin) ys) ∙ ap (λ (us : List IndexToken). ts ++ us) (sym (map-append (word_token p begin) xs ys)) in
      (subst (HasTokens kind p new.terms new.writer) tokens two.0, later_fault kind p begin xs ys old mid ts f known ∙ two.1);
  ends = g.ends;
  writer = g.writer ∙ ap (tokens_counted (length ys)) f.writer ∙ ap (λ (n : ℕ). record old.writer { total_num_tokens = n }) (omega (arith, length-append xs ys));
  num_tokens = omega (arith, g.num_tokens, f.num_tokens, length-append xs ys);
  end_position = g.end_position ∙ ap (λ (end : ℕ). fold (λ (e : ℕ) (w : Word). max e (word_end begin w)) end ys) f.end_position ∙ sym (fold-append (λ (e : ℕ) (w : Word). max e (word_end begin w)) old.end_position xs ys);
}

pub then_refused : (p : Piece) (begin : ℕ) (xs ys : List Word) (old mid : TextState) (fault : Fault) → IndexesWords p begin xs old mid → RefusesWords p begin ys mid fault → RefusesWords p begin (xs ++ ys) old fault
then_refused p begin xs ys old mid fault f refused kind ts known =
    ⊎_elim inl (λ cause. inr (later_fault kind p begin xs ys old mid ts f known ∙ cause)) (refused kind (ts ++ map (word_token p begin) xs) (f.tokens kind ts known).0)

pub refused_before : (p : Piece) (begin : ℕ) (xs ys : List Word) (old : TextState) (fault : Fault) → RefusesWords p begin xs old fault → RefusesWords p begin (xs ++ ys) old fault
refused_before p begin xs ys old fault refused kind ts known =
    let later = words_fault old.writer.option p begin (old.num_tokens + length xs) (ts ++ map (word_token p begin) xs) ys in
    ⊎_elim inl (λ cause. inr (words_fault-append old.writer.option p begin old.num_tokens ts xs ys ∙ ap (λ (c : Option Fault). first_fault c later) cause)) (refused kind ts known)

-- how a call ended that has one cause to be refused
pub err_with : {T : Type 0} (cause : Option Fault) (result : Result T Fault) (Q : Fault → Type 0) → IsRefusedBy cause result → ((e : Fault) → (e ≡ OutOfMemory) ⊎ (cause ≡ Some e) → Q e) → IfErr result Q
err_with cause (Ok x) Q refused f = tt
err_with cause (Err e) Q refused f = f e refused

-- What is known while the words of a text are gone over: some of them were indexed, and the others are still to come.
pub record IsIndexing (p : Piece) (begin : ℕ) (all rest : List Word) (old now : TextState) : Type 0 where
  pub past : List Word
  pub parts : all ≡ past ++ rest
  pub indexed : IndexesWords p begin (kept_words past) old now

kept_append : (xs ys : List Word) → kept_words (xs ++ ys) ≡ kept_words xs ++ kept_words ys
kept_append xs ys = filter-append (λ (w : Word). nat_le (length w.text) max_token_len) xs ys

pub next_word : (p : Piece) (begin : ℕ) (all rest after : List Word) (w : Word) (old mid now : TextState) → IsIndexing p begin all rest old mid → rest ≡ w ∷ after
    → IndexesWords p begin (kept_words (w ∷ [])) mid now → IsIndexing p begin all after old now
next_word p begin all rest after w old mid now h is one = record {
  past = h.past ++ w ∷ [];
  parts = h.parts ∙ ap (λ (ws : List Word). h.past ++ ws) is ∙ sym (append_assoc h.past (w ∷ []) after);
  indexed = subst (λ (ws : List Word). IndexesWords p begin ws old now) (sym (kept_append h.past (w ∷ []))) (more_words p begin (kept_words h.past) (kept_words (w ∷ [])) old mid now h.indexed one);
}

pub word_refused : (p : Piece) (begin : ℕ) (all rest after : List Word) (w : Word) (old mid : TextState) (fault : Fault) → IsIndexing p begin all rest old mid → rest ≡ w ∷ after
    → RefusesWords p begin (kept_words (w ∷ [])) mid fault → RefusesWords p begin (kept_words all) old fault
word_refused p begin all rest after w old mid fault h is refused =
    let parts : kept_words all ≡ kept_words h.past ++ (kept_words (w ∷ []) ++ kept_words after) =
    ap kept_words (h.parts ∙ ap (λ (ws : List Word). h.past ++ ws) is) ∙ kept_append h.past (w ∷ after) ∙ ap (λ (ws : List Word). kept_words h.past ++ ws) (kept_append (w ∷ []) after) in
    subst (λ (ws : List Word). RefusesWords p begin ws old fault) (sym parts)
    (then_refused p begin (kept_words h.past) (kept_words (w ∷ []) ++ kept_words after) old mid fault h.indexed (refused_before p begin (kept_words (w ∷ [])) (kept_words after) mid fault refused))

-- the first of what is still to come
pub first_of : (rest : List Word) (w : Word) → slice_get rest 0 ≡ Some w → rest ≡ w ∷ drop 1 rest
first_of [] w is = absurd (cc)
first_of (x ∷ xs) w is = ap (λ (y : Word). y ∷ xs) (cc)

-- the gap after words
pub gap_after : (begin end : ℕ) (ws : List Word) (b : Bool) → end ≡ fold (λ (e : ℕ) (w : Word). max e (word_end begin w)) begin (kept_words ws) → nat_lt u32_max (end + 1) ≡ b → gap_fault begin ws ≡ (if b then Some (Limit limit.Position) else None)
gap_after begin end ws b is over = ap (λ (e : ℕ). if nat_lt u32_max (e + 1) then Some (Limit limit.Position) else None) (sym is) ∙ ap (λ (c : Bool). if c then Some (Limit limit.Position) else None) over

-- a text ends as its words do, or else as its gap
pub words_refused : (option : IndexRecordOption) (p : Piece) (at : IndexingPosition) (ts : List IndexToken) (fault : Fault)
    → (fault ≡ OutOfMemory) ⊎ (words_fault option p at.end_position at.num_tokens ts (kept_words p.words) ≡ Some fault) → (fault ≡ OutOfMemory) ⊎ (text_fault option p at ts ≡ Some fault)
words_refused option p at ts fault (inl memory) = inl memory
words_refused option p at ts fault (inr cause) = inr (ap (λ (c : Option Fault). first_fault c (gap_fault at.end_position p.words)) cause)

pub text_ends : (option : IndexRecordOption) (p : Piece) (at : IndexingPosition) (ts : List IndexToken) (cause : Option Fault)
    → words_fault option p at.end_position at.num_tokens ts (kept_words p.words) ≡ None → gap_fault at.end_position p.words ≡ cause → text_fault option p at ts ≡ cause
text_ends option p at ts cause words gap = ap (λ (c : Option Fault). first_fault c (gap_fault at.end_position p.words)) words ∙ gap

-- the tokens of a writer, as another one with its option and count has them
pub tokens_as : (kind : ℕ → List ℕ → IndexRecordOption) (p : Piece) (terms : TermIndex) (w v : PostingsWriterState) (ts : List IndexToken) → v.option ≡ w.option → v.total_num_tokens ≡ w.total_num_tokens → HasTokens kind p terms w ts → HasTokens kind p terms v ts
tokens_as kind p terms w v ts same count h = record {
  records = h.records;
  kinds = λ key. h.kinds key ∙ sym same;
  of_text = λ key. subst (λ (o : IndexRecordOption). kind_of o (tokens_at p.field (p.prefix ++ key) ts) ≡ o) (sym same) (h.of_text key);
  counted = count ∙ h.counted;
}
