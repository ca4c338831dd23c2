-- What a recorder has after a document was started, got a position, or was closed.
use Rattle.std.proofs.Common.{◌≡◌, ℕ, ◌+◌, ◌-◌, ◌<◌, ◌≤◌, List, [], ◌∷◌, ◌++◌, length, Option, Some, None, refl, sym, ap, ◌∙◌, arith, append-nil, length-append}
use Rattle.std.specs.Prelude.{slice_get, unwrap_or, min, IfSome}
use Rattle.std.specs.Option.{option_to_list}
use Rattle.std.proofs.lemmas.List.{length-map, map-append}
use Rattle.ii_base.specs.Entries.{Entry, docs_of}
use Rattle.ii_recorder.specs.Kept.{IsCount, IsLastDoc}
use Rattle.ii_recorder.specs.Recorded.{RecorderState, entries_of_recorder, last_doc, u32_max}

pub last_of_push : (xs : List ℕ) (x : ℕ) → slice_get (xs ++ x ∷ []) (length xs) ≡ Some x
last_of_push [] x = refl
last_of_push (y ∷ xs) x = last_of_push xs x

-- the last document of entries is that of the last one
pub last_doc_push : (es : List Entry) (e : Entry) → last_doc (es ++ e ∷ []) ≡ Some e.doc
last_doc_push es e =
    let docs = map-append (λ (f : Entry). f.doc) es (e ∷ []) in
    let count : length (es ++ e ∷ []) - 1 ≡ length (docs_of es) = omega (arith, length-append es (e ∷ []), length-map es (λ (f : Entry). f.doc)) in
    ap (λ (ds : List ℕ). slice_get ds (length (es ++ e ∷ []) - 1)) docs ∙ ap (slice_get (docs_of es ++ e.doc ∷ [])) count ∙ last_of_push (docs_of es) e.doc

-- Entries with a last one.
pub record HasLast (es : List Entry) : Type 0 where
  pub front : List Entry
  pub one : Entry
  pub parts : es ≡ front ++ one ∷ []

pub has_last : (e : Entry) (es : List Entry) → HasLast (e ∷ es)
has_last e [] = record { front = []; one = e; parts = refl }
has_last e (f ∷ es) =
    let others = has_last f es in
    record { front = e ∷ others.front; one = others.one; parts = ap (λ (xs : List Entry). e ∷ xs) others.parts }

above_by : (o : Option ℕ) (last doc : ℕ) → IfSome o (λ l. l < doc) → unwrap_or o 0 ≡ last → last ≤ doc
above_by None last doc h e = omega (arith, e)
above_by (Some l) last doc h e = omega (arith, h, e)

-- entries where no document is open
pub closed_alone : (s : RecorderState) → s.pending ≡ None → entries_of_recorder s ≡ s.closed
closed_alone s none = ap (λ (p : Option Entry). s.closed ++ option_to_list p) none ∙ append-nil s.closed

-- a document that is started is greater than the last one
pub above_last : (s : RecorderState) (last doc : ℕ) → s.pending ≡ None → IfSome (last_doc s.closed) (λ l. l < doc) → IsLastDoc last s → last ≤ doc
above_last s last doc none above is = above_by (last_doc s.closed) last doc above (sym (ap (λ (es : List Entry). unwrap_or (last_doc es) 0) (closed_alone s none)) ∙ is)

pub last_begun : (s : RecorderState) (e : Entry) → IsLastDoc e.doc (record s { pending = Some e })
last_begun s e = ap (λ (o : Option ℕ). unwrap_or o 0) (last_doc_push s.closed e)

one_more : (count new n : ℕ) → count ≡ min n u32_max → new ≡ min (count + 1) u32_max → new ≡ min (n + 1) u32_max
one_more count new n e is = omega (arith, e, is)

pub count_begun : (s : RecorderState) (e : Entry) (count new : ℕ) → s.pending ≡ None → IsCount count s → new ≡ min (count + 1) u32_max → IsCount new (record s { pending = Some e })
count_begun s e count new none counted is =
    let len = length-append s.closed (e ∷ []) in
    one_more count new (length s.closed) (counted ∙ ap (λ (es : List Entry). min (length es) u32_max) (closed_alone s none)) is ∙ ap (λ (n : ℕ). min n u32_max) (sym len)

-- the open document changes, and stays the same document
pub last_moved : (s : RecorderState) (e f : Entry) (last : ℕ) → s.pending ≡ Some e → f.doc ≡ e.doc → IsLastDoc last s → IsLastDoc last (record s { pending = Some f })
last_moved s e f last now_open same is =
    last_begun s f ∙ same ∙ sym (last_begun s e) ∙ ap (λ (p : Option Entry). unwrap_or (last_doc (s.closed ++ option_to_list p)) 0) (sym now_open) ∙ is

pub count_moved : (s : RecorderState) (e f : Entry) (count : ℕ) → s.pending ≡ Some e → IsCount count s → IsCount count (record s { pending = Some f })
count_moved s e f count now_open counted =
    let before = length-append s.closed (e ∷ []) in
    let now = length-append s.closed (f ∷ []) in
    let same : length (s.closed ++ e ∷ []) ≡ length (s.closed ++ f ∷ []) = omega (arith, before, now) in
    counted ∙ ap (λ (p : Option Entry). min (length (s.closed ++ option_to_list p)) u32_max) now_open ∙ ap (λ (n : ℕ). min n u32_max) same

-- all documents are closed
abbrev pub all_closed : RecorderState → RecorderState
all_closed s = record { option = s.option; closed = entries_of_recorder s; pending = None }

pub same_closed : (s : RecorderState) → entries_of_recorder (all_closed s) ≡ entries_of_recorder s
same_closed s = append-nil (entries_of_recorder s)

pub last_closed : (s : RecorderState) (last : ℕ) → IsLastDoc last s → IsLastDoc last (all_closed s)
last_closed s last is = ap (λ (es : List Entry). unwrap_or (last_doc es) 0) (same_closed s) ∙ is

pub count_closed : (s : RecorderState) (count : ℕ) → IsCount count s → IsCount count (all_closed s)
count_closed s count counted = counted ∙ ap (λ (es : List Entry). min (length es) u32_max) (sym (same_closed s))
