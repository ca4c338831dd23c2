-- What an indexing context has after one more token.
use Rattle.std.proofs.Common.{◌≡◌, ℕ, ◌<◌, ◌^◌, ◌==◌, Bool, true, false, List, [], ◌∷◌, ◌++◌, map, take, cond, nat_eq, refl, sym, ap, arith, ◌∙◌, Some, None, Option, append_assoc, append-nil, subst, true≢false}
use Rattle.std.specs.Prelude.{IsSome, MatchOption, bytes_eq, unwrap_or, ⊤}
use Rattle.std.specs.Int.{from_be_bytes, w32}
use Rattle.std.specs.Option.{option_to_list}
use Rattle.std.proofs.lemmas.Bool.{eqb-true, eq-eqb}
use Rattle.std.proofs.lemmas.List.{append_cancel_left, take-append-le, take_all}
use Rattle.std.proofs.lemmas.Bool.{and_parts}
use Rattle.std.proofs.lemmas.Nat.{from_be_bytes-to_be_bytes_4}
use Rattle.std.proofs.lemmas.Slice.Eq.{bytes_eq-Decides}
use Rattle.ii_base.specs.declared.schema.index_record_option.IndexRecordOption.{IndexRecordOption}
use Rattle.ii_base.specs.declared.doc_id.TheConstants.{TERMINATED}
use Rattle.ii_base.specs.Entries.{Entry}
use Rattle.ii_recorder.specs.Recorded.{RecorderState, begun, entries_of_recorder, with_position}
use Rattle.ii_definitions.specs.Cut.{cut_entry}
use Rattle.ii_definitions.specs.Tokens.{IndexToken}
use Rattle.ii_definitions.specs.Postings.{grouped, is_at, tokens_at}
use Rattle.ii_postings_writer.specs.IndexingTerm.{field_bytes}
use Rattle.ii_postings_writer.specs.IndexingContext.{AllEndBy, EndsBy, IsRecorded, TermIndex, is_open, new_recorder, recorded_at, recorder_of, recorder_or_new}
use Rattle.ii_postings_writer.specs.Records.{HasPostings, Records}
use Rattle.ii_postings_writer.proofs.PostingsLaws.{cut_entry_of, postings_more, recorded_after, tokens_at-append}
use Rattle.ii_postings_writer.proofs.RecorderSteps.{first_ends, recorded_ends}
use Rattle.ii_postings_writer.proofs.TermLemmas.{length_field}

-- one token of a key
pub postings_first : (option : IndexRecordOption) (t : IndexToken) → HasPostings option (t ∷ []) (recorded_at t.doc t.position (new_recorder option))
postings_first option t = record {
  kept = refl;
  entries = ap (λ (e : Entry). e ∷ []) (sym (cut_entry_of option t));
  opened = refl;
}

recorded_entries : (t : IndexToken) (r : RecorderState) (e : Entry) (b : Bool) → r.pending ≡ Some e → nat_eq e.doc t.doc ≡ b
    → entries_of_recorder (recorded_at t.doc t.position r) ≡ r.closed ++ recorded_after r.option e t
recorded_entries t r e true is same = rw (is, same) refl
recorded_entries t r e false is other = rw (is, other) (append_assoc r.closed (e ∷ []) (with_position r.option t.position (begun r.option t.doc) ∷ []))

recorded_kept : (doc position : ℕ) (r : RecorderState) (b : Bool) → is_open doc r ≡ b → (recorded_at doc position r).option ≡ r.option
recorded_kept doc position r true is = rw is refl
recorded_kept doc position r false is = rw is refl

-- one more token of a key that occurred
pub postings_step : (option : IndexRecordOption) (ts : List IndexToken) (t : IndexToken) (r : RecorderState) → HasPostings option ts r → HasPostings option (ts ++ t ∷ []) (recorded_at t.doc t.position r)
postings_step option ts t r h = by r.pending refl h.opened
  where
    by : (p : Option Entry) → r.pending ≡ p → IsSome p → HasPostings option (ts ++ t ∷ []) (recorded_at t.doc t.position r)
    by None is opened = absurd (true≢false (sym opened))
    by (Some e) is opened =
        let known : r.closed ++ e ∷ [] ≡ map (cut_entry option) (grouped ts) = sym (ap (λ (p : Option Entry). r.closed ++ option_to_list p) is) ∙ h.entries in
        record {
          kept = recorded_kept t.doc t.position r (is_open t.doc r) refl ∙ h.kept;
          entries = recorded_entries t r e (nat_eq e.doc t.doc) is refl ∙ ap (λ (o : IndexRecordOption). r.closed ++ recorded_after o e t) h.kept ∙ sym (postings_more option ts t r.closed e known);
          opened = refl;
        }

field_of_bytes : (f g : ℕ) → f < 2 ^ 32 → g < 2 ^ 32 → field_bytes f ≡ field_bytes g → f ≡ g
unfolding field_bytes
field_of_bytes f g low high same = sym (from_be_bytes-to_be_bytes_4 f low) ∙ ap (from_be_bytes w32) same ∙ from_be_bytes-to_be_bytes_4 g high

front_of : (f : ℕ) (k : List ℕ) → take 4 (field_bytes f ++ k) ≡ field_bytes f
front_of f k =
    let len = length_field f in
    take-append-le 4 (field_bytes f) k (omega (arith, len)) ∙ take_all 4 (field_bytes f) (omega (arith, len))

same_field : (f g : ℕ) (k l : List ℕ) → f < 2 ^ 32 → g < 2 ^ 32 → field_bytes f ++ k ≡ field_bytes g ++ l → f ≡ g
same_field f g k l low high same = field_of_bytes f g low high (sym (front_of f k) ∙ ap (take 4) same ∙ front_of g l)

same_key : (f g : ℕ) (k l : List ℕ) → f ≡ g → field_bytes f ++ k ≡ field_bytes g ++ l → k ≡ l
same_key f g k l is same = append_cancel_left (field_bytes f) k l (same ∙ ap (λ (n : ℕ). field_bytes n ++ l) (sym is))

both_true : (a b : Bool) → (a ≡ true → b ≡ true) → (b ≡ true → a ≡ true) → a ≡ b
both_true true b f g = sym (f refl)
both_true false true f g = g refl
both_true false false f g = refl

-- the bytes of a term tell its field and its key
pub same_term : (t : IndexToken) (field : ℕ) (key : List ℕ) → t.field < 2 ^ 32 → field < 2 ^ 32 → bytes_eq (field_bytes t.field ++ t.key) (field_bytes field ++ key) ≡ is_at field key t
same_term t field key low high =
    let d = bytes_eq-Decides (field_bytes t.field ++ t.key) (field_bytes field ++ key) in
    both_true (bytes_eq (field_bytes t.field ++ t.key) (field_bytes field ++ key)) (is_at field key t)
    (λ (holds : bytes_eq (field_bytes t.field ++ t.key) (field_bytes field ++ key) ≡ true).
    let same = d.0 holds in
    let f = same_field t.field field t.key key low high same in
    let k = same_key t.field field t.key key f same in
    rw (eq-eqb t.field field f) ((bytes_eq-Decides t.key key).1 k))
    (λ (holds : is_at field key t ≡ true).
    let parts = and_parts (t.field == field) (bytes_eq t.key key) holds in
    d.1 (cc (eqb-true t.field field parts.0, (bytes_eq-Decides t.key key).0 parts.1)))

pub tokens_at_last : (field : ℕ) (key : List ℕ) (ts : List IndexToken) (t : IndexToken) (b : Bool) → is_at field key t ≡ b → tokens_at field key (ts ++ t ∷ []) ≡ tokens_at field key ts ++ cond b (t ∷ []) []
tokens_at_last field key ts t true is = tokens_at-append field key ts (t ∷ []) ∙ rw is refl
tokens_at_last field key ts t false is = tokens_at-append field key ts (t ∷ []) ∙ rw is refl

-- What the recorder of a key has, if there is one.
abbrev pub HasKey : IndexRecordOption → List IndexToken → Option RecorderState → Type 0
HasKey option ts found = MatchOption found (ts ≡ []) (HasPostings option ts)

recorded_key : (option : IndexRecordOption) (ts : List IndexToken) (t : IndexToken) (found : Option RecorderState) → HasKey option ts found
    → HasPostings option (ts ++ t ∷ []) (recorded_at t.doc t.position (unwrap_or found (new_recorder option)))
recorded_key option ts t None none = rw none (postings_first option t)
recorded_key option ts t (Some r) h = postings_step option ts t r h

-- one more token
pub records_more : (kind : ℕ → List ℕ → IndexRecordOption) (old new : TermIndex) (ts : List IndexToken) (t : IndexToken) → t.field < 2 ^ 32
    → IsRecorded (kind t.field t.key) t.doc t.position (field_bytes t.field ++ t.key) old new → Records kind old ts → Records kind new (ts ++ t ∷ [])
records_more kind old new ts t low recorded known field key high = by (is_at field key t) refl
  where
    by : (b : Bool) → is_at field key t ≡ b → HasKey (kind field key) (tokens_at field key (ts ++ t ∷ [])) (recorder_of new (field_bytes field ++ key))
    by true is =
        let parts = and_parts (t.field == field) (bytes_eq t.key key) is in
        let at = eqb-true t.field field parts.0 in
        let same = (bytes_eq-Decides t.key key).0 parts.1 in
        let option = kind t.field t.key in
        let term = field_bytes t.field ++ t.key in
        let found : recorder_of new (field_bytes field ++ key) ≡ Some (recorded_at t.doc t.position (recorder_or_new option old term)) =
        recorded (field_bytes field ++ key) ∙ ap (λ (b : Bool). cond b (Some (recorded_at t.doc t.position (recorder_or_new option old term))) (recorder_of old (field_bytes field ++ key))) (same_term t field key low high ∙ is) in
        rw (found, tokens_at_last field key ts t true is, sym at, sym same) (recorded_key option (tokens_at t.field t.key ts) t (recorder_of old term) (known t.field t.key low))
    by false is =
        let option = kind t.field t.key in
        let term = field_bytes t.field ++ t.key in
        let found : recorder_of new (field_bytes field ++ key) ≡ recorder_of old (field_bytes field ++ key) =
        recorded (field_bytes field ++ key) ∙ ap (λ (b : Bool). cond b (Some (recorded_at t.doc t.position (recorder_or_new option old term))) (recorder_of old (field_bytes field ++ key))) (same_term t field key low high ∙ is) in
        rw (found, tokens_at_last field key ts t false is, append-nil (tokens_at field key ts)) (known field key high)

-- each recorder ends by the document that was recorded last
pub all_end : (option : IndexRecordOption) (doc position : ℕ) (term : List ℕ) (old new : TermIndex) → IsRecorded option doc position term old new → AllEndBy doc old → doc < TERMINATED → AllEndBy doc new
all_end option doc position term old new recorded ends low bytes = subst (λ (found : Option RecorderState). MatchOption found ⊤ (EndsBy doc)) (sym (recorded bytes)) (by (bytes_eq term bytes))
  where
    at_term : (found : Option RecorderState) → MatchOption found ⊤ (EndsBy doc) → EndsBy doc (recorded_at doc position (unwrap_or found (new_recorder option)))
    at_term None none = first_ends option doc position low
    at_term (Some r) h = recorded_ends doc position r h low

    by : (b : Bool) → MatchOption (cond b (Some (recorded_at doc position (recorder_or_new option old term))) (recorder_of old bytes)) ⊤ (EndsBy doc)
    by true = at_term (recorder_of old term) (ends term)
    by false = ends bytes
