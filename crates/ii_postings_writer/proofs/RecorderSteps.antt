-- What a recorder has after one more position of a document that isn't below its last one.
use Rattle.std.proofs.Common.{◌≡◌, ◌≢◌, ℕ, ◌<◌, ◌≤◌, ◌==◌, Bool, true, false, List, [], ◌∷◌, ◌++◌, nat_le, nat_lt, ◌+◌, refl, sym, ap, arith, ◌∙◌, Some, None, Option, Ok, Err, Result, inl, inr, subst}
use Rattle.std.specs.Prelude.{unwrap_or, IsSome, IsTrue, IfErr, IfSome, MatchOption}
use Rattle.std.specs.Option.{option_map, option_to_list}
use Rattle.std.proofs.lemmas.List.{map-append}
use Rattle.ii_base.specs.declared.schema.index_record_option.IndexRecordOption.{IndexRecordOption}
use Rattle.ii_base.specs.Entries.{Entry, are_documents, docs_of}
use Rattle.ii_base.proofs.AscentLemmas.{ascend-append, least_after, least_after-append}
use Rattle.std.proofs.lemmas.Bool.{eqb-false}
use Rattle.ii_recorder.specs.Recorded.{RecorderState, begun, current_doc, entries_of_recorder, last_doc, position_fault, u32_max, with_position}
use Rattle.ii_io.specs.declared.faults.Fault.{Fault}
use Rattle.ii_io.specs.declared.faults.Fault.TheVariants.{OutOfMemory}
use Rattle.ii_json.specs.LeafVisit.{IsRefusedBy}
use Rattle.ii_base.specs.declared.doc_id.TheConstants.{TERMINATED}
use Rattle.ii_postings_writer.specs.IndexingContext.{EndsBy, entry_for_doc, is_open, new_recorder, opened_at, recorded_at}
use Rattle.ii_recorder.proofs.RecorderLemmas.{last_doc_push}

pub docs_of_push : (es : List Entry) (e : Entry) → docs_of (es ++ e ∷ []) ≡ docs_of es ++ e.doc ∷ []
docs_of_push es e = map-append (λ (f : Entry). f.doc) es (e ∷ [])

-- The open document of a recorder, its entries, and what is known of it.
pub record IsOpenIn (doc : ℕ) (r : RecorderState) : Type 0 where
  pub entry : Entry
  pub pending : r.pending ≡ Some entry
  pub within : entry.doc ≤ doc
  pub entries : entries_of_recorder r ≡ r.closed ++ entry ∷ []
  pub ascending : IsTrue (are_documents (docs_of r.closed ++ entry.doc ∷ []))

pub open_in : (doc : ℕ) (r : RecorderState) → EndsBy doc r → IsOpenIn doc r
open_in doc r h = by r.pending refl h.last
  where
    by : (p : Option Entry) → r.pending ≡ p → MatchOption p ⊥ (λ (e : Entry). e.doc ≤ doc) → IsOpenIn doc r
    by None is last = absurd last
    by (Some e) is last =
        let entries : entries_of_recorder r ≡ r.closed ++ e ∷ [] = ap (λ (o : Option Entry). r.closed ++ option_to_list o) is in
        record {
          entry = e;
          pending = is;
          within = last;
          entries = entries;
          ascending = subst (λ (ds : List ℕ). IsTrue (are_documents ds)) (ap docs_of entries ∙ docs_of_push r.closed e) h.ascending;
        }

pub current_is : (doc : ℕ) (r : RecorderState) (h : EndsBy doc r) → current_doc r ≡ (open_in doc r h).entry.doc
current_is doc r h =
    let o = open_in doc r h in
    ap (λ (es : List Entry). unwrap_or (last_doc es) u32_max) o.entries ∙ ap (λ (d : Option ℕ). unwrap_or d u32_max) (last_doc_push r.closed o.entry)

-- the open document is the one
pub opened_same : (doc : ℕ) (r : RecorderState) → EndsBy doc r → current_doc r ≡ doc → opened_at doc r ≡ r
opened_same doc r h same =
    let o = open_in doc r h in
    let is : (o.entry.doc == doc) ≡ true = grind (arith, sym (current_is doc r h) ∙ same) in
    rw (o.pending, is) refl

-- or a new one comes after it
pub opened_anew : (doc : ℕ) (r : RecorderState) → EndsBy doc r → current_doc r ≢ doc → opened_at doc r ≡ record { option = r.option; closed = entries_of_recorder r; pending = Some (begun r.option doc) }
opened_anew doc r h other =
    let o = open_in doc r h in
    let is : (o.entry.doc == doc) ≡ false = grind (arith, current_is doc r h, other) in
    rw (o.pending, is) refl

pub last_below : (doc : ℕ) (r : RecorderState) → EndsBy doc r → current_doc r ≢ doc → IfSome (last_doc (entries_of_recorder r)) (λ last. last < doc)
last_below doc r h other =
    let o = open_in doc r h in
    let last = last_doc_push r.closed o.entry in
    let below : o.entry.doc < doc = omega (arith, current_is doc r h, other, o.within) in
    rw (o.entries, last) below

-- which closes the open one first
pub opened_then : (doc : ℕ) (r closed new : RecorderState) → EndsBy doc r → current_doc r ≢ doc → closed ≡ record r { closed = entries_of_recorder r; pending = None } → new ≡ record closed { pending = Some (begun closed.option doc) } → new ≡ opened_at doc r
opened_then doc r closed new h other is_closed is_new = is_new ∙ ap (λ (q : RecorderState). record q { pending = Some (begun q.option doc) }) is_closed ∙ sym (opened_anew doc r h other)

pub has_pending : (doc : ℕ) (r : RecorderState) → EndsBy doc r → IsSome r.pending
has_pending doc r h = rw (open_in doc r h).pending refl

-- a document is open then
pub opened_pending : (doc : ℕ) (r : RecorderState) → (opened_at doc r).pending ≡ Some (entry_for_doc doc r)
opened_pending doc r = by r.pending refl
  where
    by : (p : Option Entry) → r.pending ≡ p → (opened_at doc r).pending ≡ Some (entry_for_doc doc r)
    by None is = rw is refl
    by (Some e) is = cases (e.doc == doc) refl
      where
        cases : (b : Bool) → (e.doc == doc) ≡ b → (opened_at doc r).pending ≡ Some (entry_for_doc doc r)
        cases true same = rw (is, same) refl
        cases false other = rw (is, other) refl

pub opened_option : (doc : ℕ) (r : RecorderState) → (opened_at doc r).option ≡ r.option
opened_option doc r = by (is_open doc r) refl
  where
    by : (b : Bool) → is_open doc r ≡ b → (opened_at doc r).option ≡ r.option
    by true is = rw is refl
    by false is = rw is refl

-- a call that records ends by the cause that the definitions give
pub refused_by : {T : Type 0} (cause : Option Fault) (result : Result T Fault) → MatchOption cause (IfErr result (λ f. f ≡ OutOfMemory)) (λ f. result ≡ Err f) → IsRefusedBy cause result
refused_by None (Ok x) h = refl
refused_by None (Err f) h = inl h
refused_by (Some cause) (Ok x) h = absurd (cc)
refused_by (Some cause) (Err f) h = inr (cc)

-- What a recorder says of a position.
abbrev pub AnswersPosition : {T : Type 0} → IndexRecordOption → ℕ → Result T Fault → Entry → Type 0
AnswersPosition option position result e = MatchOption (position_fault option position e) (IfErr result (λ f. f ≡ OutOfMemory)) (λ f. result ≡ Err f)

pub recorded_refusal : {T : Type 0} (doc position : ℕ) (r s : RecorderState) (result : Result T Fault) → s ≡ opened_at doc r
    → IfSome s.pending (AnswersPosition s.option position result) → IsRefusedBy (position_fault r.option position (entry_for_doc doc r)) result
recorded_refusal {T} doc position r s result is h =
    let pending : s.pending ≡ Some (entry_for_doc doc r) = ap (λ (q : RecorderState). q.pending) is ∙ opened_pending doc r in
    let kept : s.option ≡ r.option = ap (λ (q : RecorderState). q.option) is ∙ opened_option doc r in
    let at = subst (λ (p : Option Entry). IfSome p (AnswersPosition s.option position result)) pending h in
    refused_by (position_fault r.option position (entry_for_doc doc r)) result (subst (λ (o : IndexRecordOption). AnswersPosition o position result (entry_for_doc doc r)) kept at)

-- a position of the document that was opened
pub recorded_in : (doc position : ℕ) (r s n : RecorderState) → s ≡ opened_at doc r → n ≡ record s { pending = option_map (with_position s.option position) s.pending } → n ≡ recorded_at doc position r
recorded_in doc position r s n opened is =
    is
    ∙ ap (λ (q : RecorderState). record q { pending = option_map (with_position q.option position) q.pending }) opened
    ∙ ap (λ (p : Option Entry). record (opened_at doc r) { pending = option_map (with_position (opened_at doc r).option position) p }) (opened_pending doc r)
    ∙ ap (λ (o : IndexRecordOption). record (opened_at doc r) { pending = Some (with_position o position (entry_for_doc doc r)) }) (opened_option doc r)

-- one more document above those of a list
pub ascend_push : (ds : List ℕ) (last doc : ℕ) → IsTrue (are_documents (ds ++ last ∷ [])) → last < doc → doc < TERMINATED → IsTrue (are_documents ((ds ++ last ∷ []) ++ doc ∷ []))
ascend_push ds last doc ascend above low =
    let least : least_after 0 (ds ++ last ∷ []) ≡ last + 1 = least_after-append 0 ds (last ∷ []) in
    let within : nat_le (last + 1) doc ≡ true = grind (arith, above) in
    let below : nat_lt doc TERMINATED ≡ true = grind (arith, low) in
    rw (ascend-append 0 (ds ++ last ∷ []) (doc ∷ []), ascend, least, within, below) refl

-- and that document is its last one
pub recorded_ends : (doc position : ℕ) (r : RecorderState) → EndsBy doc r → doc < TERMINATED → EndsBy doc (recorded_at doc position r)
recorded_ends doc position r h low = by (o.entry.doc == doc) refl
  where
    o : IsOpenIn doc r
    o = open_in doc r h

    by : (b : Bool) → (o.entry.doc == doc) ≡ b → EndsBy doc (recorded_at doc position r)
    by true same = record {
      ascending = rw (o.pending, same, docs_of_push r.closed (with_position r.option position o.entry)) o.ascending;
      last = rw (o.pending, same) o.within;
    }
    by false other =
        let above : o.entry.doc < doc = omega (arith, o.within, eqb-false o.entry.doc doc other) in
        record {
          ascending = rw (o.pending, other, docs_of_push (r.closed ++ o.entry ∷ []) (with_position r.option position (begun r.option doc)), docs_of_push r.closed o.entry) (ascend_push (docs_of r.closed) o.entry.doc doc o.ascending above low);
          last = rw (o.pending, other) (omega arith);
        }

pub first_ends : (option : IndexRecordOption) (doc position : ℕ) → doc < TERMINATED → EndsBy doc (recorded_at doc position (new_recorder option))
first_ends option doc position low =
    let below : nat_lt doc TERMINATED ≡ true = grind (arith, low) in
    let least : nat_le 0 doc ≡ true = grind arith in
    record { ascending = rw (least, below) refl; last = omega arith }
