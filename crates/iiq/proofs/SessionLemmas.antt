-- Laws of sessions.
use Rattle.std.proofs.Common.{◌≡◌, ◌∙◌, ◌+◌, ◌<◌, ◌≤◌, ◌++◌, ◌∷◌, [], ℕ, zero, suc, inl, inr, true, false, List, Option, None, Some, Result, Ok, Err, length, map, nat_le, is_some, refl, sym, ap, subst, arith, String, Global, Vec, ⊎_elim}
use Rattle.std.specs.Prelude.{◌⊎◌, IfErr, IfOk, IfSome, slice_get, string_bytes}
use Rattle.std.specs.List.{AllByRecursion, slice_index_or}
use Rattle.std.specs.List.Sorted.{IsNonDecreasingBy}
use Rattle.std.proofs.lemmas.Bool.{le-leb}
use Rattle.std.proofs.lemmas.List.{map-append}
use Rattle.std.proofs.lemmas.List.Sums.{fold-append}
use Rattle.ii_io.specs.declared.faults.Fault.{Fault}
use Rattle.ii_io.specs.declared.faults.Fault.TheVariants.{OutOfMemory}
use Rattle.ii_base.specs.AsciiWords.{ascii_words}
use Rattle.ii_base.specs.Options.{downgrade}
use Rattle.ii_base.specs.Schema.{SchemaEntry}
use Rattle.ii_base.specs.Terms.{TermState}
use Rattle.ii_base.specs.declared.schema.index_record_option.IndexRecordOption.{IndexRecordOption}
use Rattle.ii_base.specs.declared.doc_id.TheConstants.{TERMINATED}
use Rattle.ii_definitions.specs.Fields.{option_of}
use Rattle.ii_definitions.specs.Postings.{key_postings}
use Rattle.ii_definitions.specs.Tokens.{Call, IndexToken, tokens_of}
use Rattle.ii_definitions.specs.declared.index_call.IndexCall.{IndexCall}
use Rattle.ii_definitions.specs.declared.index_call.IndexCall.TheVariants as calls
use Rattle.ii_definitions.specs.IndexCalls.{MayBeIndexed, call_of, doc_of}
use Rattle.ii_indexing.specs.Refusals.{calls_fault}
use Rattle.ii_indexing.specs.RamFiles.{IsRamFault}
use Rattle.ii_reader.specs.InvertedIndexReader.{GivesPostings, InvertedIndexReaderState, ReaderHolds}
use Rattle.ii_reader.specs.OpenIndex.{FieldReaderHolds, IndexHolds, OpenIndexState}
use Rattle.ii_reader.specs.SegmentPostings.{SegmentPostingsState}
use Rattle.iiq.specs.declared.session.Session.{Session as SessionKept}
use Rattle.iiq.specs.Known.{GathersCalls, GivesIndex, IsCall, IsOpen, Keeps, Knows, KnowsIndex}
use Rattle.iiq.specs.Output.{list_text, look_up_text, key_text, term_text}
use Rattle.iiq.proofs.ReplyLemmas.{ok_no_err}
use Rattle.iiq.specs.Session.{Session, gathering, opened, refused, Indexes, IsIndexed, fields, kept_with, num_docs_of, refusal_of}
use Rattle.ii_definitions.proofs.ListLaws.{all_weaker}

err_is : {A E : Type 0} (r : Result A E) (x y : E) → r ≡ Err x → r ≡ Err y → x ≡ y
err_is r x y p q = cc

-- where a number is at most that of each element, and of one more
least_more : {X : Type 0} (f : X → ℕ) (m : ℕ) (xs : List X) (y d : X) → ((k : ℕ) → k < length xs → m ≤ f (slice_index_or xs k d)) → m ≤ f y
    → (j : ℕ) → j < length (xs ++ y ∷ []) → m ≤ f (slice_index_or (xs ++ y ∷ []) j d)
least_more f m [] y d each last zero within = last
least_more f m [] y d each last (suc j) within = absurd (omega (arith, within))
least_more f m (x ∷ xs) y d each last zero within = each 0 (omega arith)
least_more f m (x ∷ xs) y d each last (suc j) within =
    least_more f m xs y d (λ k below. each (suc k) (omega (arith, below))) last j (omega (arith, within))

-- one more element at the end of a list in order
ordered_more : {X : Type 0} (f : X → ℕ) (xs : List X) (y : X) → IsNonDecreasingBy f xs → AllByRecursion (λ x. f x ≤ f y) xs → IsNonDecreasingBy f (xs ++ y ∷ [])
ordered_more f [] y ordered below zero zero d low within = omega arith
ordered_more f [] y ordered below zero (suc j) d low within = absurd (omega (arith, within))
ordered_more f [] y ordered below (suc i) j d low within = absurd (omega (arith, low, within))
ordered_more f (x ∷ xs) y ordered below zero j d low within =
    least_more f (f x) (x ∷ xs) y d (λ k inside. ordered zero k d (omega arith) inside) below.0 j within
ordered_more f (x ∷ xs) y ordered below (suc i) zero d low within = absurd (omega (arith, low))
ordered_more f (x ∷ xs) y ordered below (suc i) (suc j) d low within =
    ordered_more f xs y (λ a b e less inside. ordered (suc a) (suc b) e (omega (arith, less)) (omega (arith, inside))) below.1 i j d (omega (arith, low)) (omega (arith, within))

all_more : {X : Type 0} (P Q : X → Type 0) (xs : List X) (y : X) → ((x : X) → P x → Q x) → AllByRecursion P xs → Q y → AllByRecursion Q (xs ++ y ∷ [])
all_more P Q [] y weaker all last = (last, tt)
all_more P Q (x ∷ xs) y weaker all last = (weaker x all.0, all_more P Q xs y weaker all.1 last)

-- one more call
pub gathered_more : (kept : List IndexCall) (n : ℕ) (calls : List Call) (call : IndexCall) → GathersCalls kept n calls → IsCall call → n ≤ doc_of call + 1
    → GathersCalls (kept ++ call ∷ []) (doc_of call + 1) (calls ++ call_of fields call ∷ [])
gathered_more kept n calls call g may low =
    let m = doc_of call + 1 in
    record {
      calls_are = map-append (call_of fields) kept (call ∷ []) ∙ ap (λ (cs : List Call). cs ++ call_of fields call ∷ []) g.calls_are;
      num_docs_is = sym (fold-append (λ (k : ℕ) (c : Call). c.doc + 1) 0 calls (call_of fields call ∷ []));
      most = let below = may.below in omega (arith, below);
      may = record {
        each = all_more (MayBeIndexed fields n) (MayBeIndexed fields m) kept call
            (λ x h. record { below = let less = h.below in omega (arith, less, low); takes = h.takes }) g.may.each (record { below = omega arith; takes = may.takes });
        ordered = ordered_more doc_of kept call g.may.ordered
            (all_weaker (MayBeIndexed fields n) (λ (x : IndexCall). doc_of x ≤ doc_of call) kept (λ x h. let less = h.below in omega (arith, less, low)) g.may.each);
      };
    }

-- a call that follows is kept
pub kept_then : (kept : List IndexCall) (n : ℕ) (index : Option (Result OpenIndexState Fault)) (s : Session) (call : IndexCall) → is_some index ≡ false → KnowsIndex kept n index s → IsCall call → n ≤ doc_of call + 1
    → (calls : List Call) × (kept_with s (call_of fields call) ≡ Some (gathering calls)) × KnowsIndex (kept ++ call ∷ []) (doc_of call + 1) index (gathering calls)
kept_then kept n None s call none knows may low =
    let is = knows.2.num_docs_is in
    let above : nat_le (num_docs_of knows.0) (doc_of call + 1) ≡ true = le-leb (num_docs_of knows.0) (doc_of call + 1) (omega (arith, low, is)) in
    (knows.0 ++ call_of fields call ∷ [], rw (knows.1, above) refl, (knows.0 ++ call_of fields call ∷ [], refl, gathered_more kept n knows.0 call knows.2 may low))
kept_then kept n (Some found) s call none knows may low = absurd (cc)

-- an index that is asked for now
pub indexed_now : (kept more : List IndexCall) (n : ℕ) (index : Option (Result OpenIndexState Fault)) (s : Session) (found : Result OpenIndexState Fault) → is_some index ≡ false → KnowsIndex kept n index s → GivesIndex (map (call_of fields) kept) found
    → (t : Session) × Indexes s t × KnowsIndex more n (Some found) t
indexed_now kept more n None s (Ok readers) none knows gives =
    let indexed : IsIndexed knows.0 (opened (num_docs_of knows.0) gives.0) = subst (λ (calls : List Call). IsIndexed calls (opened (num_docs_of calls) gives.0)) knows.2.calls_are gives.1 in
    let at : IsIndexed knows.0 (opened n gives.0) = subst (λ (m : ℕ). IsIndexed knows.0 (opened m gives.0)) (sym knows.2.num_docs_is) indexed in
    (opened n gives.0, subst (λ (t : Session). Indexes t (opened n gives.0)) (sym knows.1) at, (gives.0, refl, gives.2, knows.2.most))
indexed_now kept more n None s (Err fault) none knows gives =
    let indexed = subst (λ (calls : List Call). IsIndexed calls (refused fault)) knows.2.calls_are gives in
    (refused fault, subst (λ (t : Session). Indexes t (refused fault)) (sym knows.1) indexed, refl)
indexed_now kept more n (Some before) s found none knows gives = absurd (cc)

-- a number, and a text, that is to be indexed
pub number_is_call : (doc field number limit : ℕ) → field ≡ 1 → limit ≡ TERMINATED → doc < limit → IsCall (calls.U64 doc field number)
number_is_call doc field number limit field_is limit_is below =
    subst (λ (f : ℕ). IsCall (calls.U64 doc f number)) (sym field_is)
    (record { below = rw limit_is at below; takes = record { entry = _; found = refl; indexed = refl; typed = refl } })

pub text_is_call : (doc field : ℕ) (t : String Global) (limit : ℕ) → field ≡ 0 → limit ≡ TERMINATED → doc < limit → IsCall (calls.Text doc field t)
text_is_call doc field t limit field_is limit_is below =
    subst (λ (f : ℕ). IsCall (calls.Text doc f t)) (sym field_is)
    (record { below = rw limit_is at below; takes = record { entry = _; found = refl; indexed = refl; typed = refl } })

-- what keeping a call answers
pub keeps_one_more : (kept more : List IndexCall) (n doc : ℕ) (index : Option (Result OpenIndexState Fault)) (s : Session) (call : IndexCall) (items : Vec IndexCall Global) → doc ≡ doc_of call → is_some index ≡ false → KnowsIndex kept n index s → IsCall call → n ≤ doc + 1 → items.items ≡ kept ++ call ∷ []
    → Keeps s (call_of fields call) (record { calls = items; num_docs = doc + 1; index = index }) true
keeps_one_more kept more n doc index s call items doc_is none knows may low pushed =
    let then = kept_then kept n index s call none knows may (rw doc_is at low) in
    rw then.1 (refl, rw (pushed, doc_is) then.2)

-- the list of a term, as text
pub listed_text : (requested : IndexRecordOption) (field : ℕ) (key : List ℕ) (index : OpenIndexState) (ts : List IndexToken) (reader : InvertedIndexReaderState) (cursor : SegmentPostingsState) (text : List ℕ)
    → field < length fields → IsOpen index ts → slice_get index.readers field ≡ Some reader
    → ((f : ℕ) (tokens : List IndexToken) → ReaderHolds f reader tokens → GivesPostings reader.option f key requested tokens (Ok (Some cursor)))
    → text ≡ list_text (downgrade reader.option requested) cursor.rest → text ≡ key_text requested field key ts
listed_text requested field key index ts reader cursor text below o found holds is =
    let held : FieldReaderHolds fields field reader ts = rw found at (o.holds.readers field below) in
    let gives = holds field ts held.holds in
    let option_is = held.option_is in
    rw gives.0 (is ∙ ap (λ (o : IndexRecordOption). list_text (downgrade o requested) cursor.rest) option_is
    ∙ ap (list_text (downgrade (option_of fields field) requested)) (gives.1 ∙ ap (λ (o : IndexRecordOption). key_postings o field key requested ts) option_is))

-- the index of calls, by what indexing them in memory answers
pub gives_index : (schema : List SchemaEntry) (n : ℕ) (kept : List IndexCall) (found : Result OpenIndexState Fault) → schema ≡ fields → n ≡ num_docs_of (map (call_of fields) kept)
    → IfOk found (λ index. IndexHolds schema n index (tokens_of ascii_words (map (call_of schema) kept))) → IfOk found (λ index. length index.readers ≡ length schema)
    → IfSome (calls_fault ascii_words (option_of schema) [] (map (call_of schema) kept)) (λ fault. (found ≡ Err fault) ⊎ (found ≡ Err OutOfMemory))
    → (calls_fault ascii_words (option_of schema) [] (map (call_of schema) kept) ≡ None → IfErr found (λ e. (e ≡ OutOfMemory) ⊎ IsRamFault schema n (tokens_of ascii_words (map (call_of schema) kept)) e))
    → GivesIndex (map (call_of fields) kept) found
gives_index schema n kept found schema_is n_is holds many known fault =
    gives_cases n (map (call_of fields) kept) found (refusal_of (map (call_of fields) kept)) n_is refl (rw schema_is at holds) (rw schema_is at many) (rw schema_is at known) (rw schema_is at fault)
  where
    gives_cases : (n : ℕ) (calls : List Call) (found : Result OpenIndexState Fault) (why : Option Fault) → n ≡ num_docs_of calls → refusal_of calls ≡ why
        → IfOk found (λ index. IndexHolds fields n index (tokens_of ascii_words calls)) → IfOk found (λ index. length index.readers ≡ length fields)
        → IfSome why (λ fault. (found ≡ Err fault) ⊎ (found ≡ Err OutOfMemory))
        → (why ≡ None → IfErr found (λ e. (e ≡ OutOfMemory) ⊎ IsRamFault fields n (tokens_of ascii_words calls) e))
        → GivesIndex calls found
    gives_cases n calls (Ok index) None n_is why holds many known fault = (tokens_of ascii_words calls, (why, refl, refl), record { many = many; num_docs = n; holds = holds })
    gives_cases n calls (Ok index) (Some f) n_is why holds many known fault = absurd (⊎_elim (λ e. ok_no_err (Ok index) index f refl e) (λ e. ok_no_err (Ok index) index OutOfMemory refl e) known)
    gives_cases n calls (Err e) None n_is why holds many known fault =
        ⊎_elim inl (λ limit. inr (inr (why, subst (λ (m : ℕ). IsRamFault fields m (tokens_of ascii_words calls) e) n_is limit))) (fault refl)
    gives_cases n calls (Err e) (Some f) n_is why holds many known fault =
        ⊎_elim (λ same. inr (inl (why ∙ ap Some (sym (err_is (Err e) e f refl same))))) (λ memory. inl (err_is (Err e) e OutOfMemory refl memory)) known

-- what a lookup in an open index returns
pub looked_up : {E : Type 0} (kept : SessionKept) (t : Session) (index : OpenIndexState) (requested : IndexRecordOption) (term : Option TermState) (r : Result (String Global) E) → kept.index ≡ Some (Ok index) → Knows kept t
    → ((ts : List IndexToken) → IsOpen index ts → IfOk r (λ text. string_bytes text ≡ term_text requested term ts))
    → IfOk r (λ text. string_bytes text ≡ look_up_text t requested term)
looked_up kept t index requested term r is knows text =
    let o : (ts : List IndexToken) × (t ≡ opened kept.num_docs ts) × IsOpen index ts × (kept.num_docs ≤ TERMINATED) = rw is at knows in
    rw o.1 (text o.0 o.2)
