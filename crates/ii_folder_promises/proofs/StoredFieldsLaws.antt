-- The text of the stored members of a line, and the last segment of an index.
use Rattle.std.proofs.Common.{◌≡◌, ◌∙◌, ℕ, Bool, true, false, List, [], ◌∷◌, ◌++◌, map, Option, None, Some, Result, Ok, Err, ap, refl, sym, subst, unwrap_or}
use Rattle.std.specs.Prelude.{IfOk, codes}
use Rattle.std.proofs.lemmas.Bool.{or_parts}
use Rattle.ii_base.specs.Schema.{SchemaEntry}
use Rattle.ii_doc_store.specs.StoreReader.{HoldsDocuments}
use Rattle.ii_documents.specs.LineFields.{IsMembersText, IsObjectText, value_of_line}
use Rattle.ii_documents.specs.Records.{IsRecordBy, IsRecordOf}
use Rattle.ii_schema_text.specs.Stored.{StoredState, stored_names}
use Rattle.ii_segment_store.specs.Contents.{IndexContents, SegmentContents, contents_view, segment_contents, with_segment}
use Rattle.ii_segment_store.specs.declared.stored_segments.StoredSegments.{StoredSegments}
use Rattle.ii_store.specs.declared.faults.IndexFault.{IndexFault}
use Rattle.ii_folder_promises.specs.declared.stored_fields.StoredFieldsFault.{StoredFieldsFault}
use Rattle.ii_folder_promises.specs.declared.stored_fields.StoredFieldsFault.TheVariants.{Document}
use Rattle.ii_folder_promises.specs.declared.stored_lines.StoredLineFault.{StoredLineFault}
use Rattle.nequllpa_indexing.specs.StoredLines.{IsStoreOf, StoresLines}
use Rattle.serde_json.specs.Data.{Data, Members, member, no_members, null, number, object, string, unsigned}
use Rattle.serde_json.specs.Read.{read}
use Rattle.serde_json.specs.Written.{comma_if, compact_text, has_float, members_have_float, members_text}

-- members without floating-point numbers have one text
members_are_compact : (later : Bool) (ms : Members) (text : List ℕ) → IsMembersText later ms text → members_have_float ms ≡ false → text ≡ members_text later ms
members_are_compact later no_members text is floats = is
members_are_compact later (member name d ms) text is floats =
    let none = or_parts (has_float d) (members_have_float ms) floats in
    let value : is.0 ≡ compact_text d = is.2.compact none.0 in
    let others : is.1 ≡ members_text true ms = members_are_compact true ms is.1 is.3 none.1 in
    is.4
    ∙ ap (λ (t : List ℕ). comma_if later ++ (compact_text (string name) ++ 58 ∷ (t ++ is.1))) value
    ∙ ap (λ (t : List ℕ). comma_if later ++ (compact_text (string name) ++ 58 ∷ (compact_text d ++ t))) others

-- an object without floating-point numbers has one text
object_is_compact : (ms : Members) (text : List ℕ) → IsObjectText ms text → has_float (object ms) ≡ false → text ≡ compact_text (object ms)
object_is_compact ms text is floats = is.2 ∙ ap (λ (t : List ℕ). 123 ∷ t) (members_are_compact false ms is.0 is.1 floats)

-- the record of a line without complete lines
pub record_without_line : (s : StoredState) (es : List SchemaEntry) (line r : List ℕ) → s.is_line ≡ false → IsRecordOf s es line r → IsRecordBy false (stored_names s.fields es) line r
record_without_line s es line r fields kept = subst (λ (b : Bool). IsRecordBy b (stored_names s.fields es) line r) fields kept

-- the value of a line that is read
value_read : (line : List ℕ) (d : Data) → read line ≡ Some d → value_of_line line ≡ d
value_read line d is = ap (λ (o : Option Data). unwrap_or o null) is

-- the first and the third name, of three
two_names : (es : List SchemaEntry) (a b c : List ℕ) → map (λ (e : SchemaEntry). e.name) es ≡ a ∷ b ∷ c ∷ [] → stored_names (true ∷ false ∷ true ∷ []) es ≡ a ∷ c ∷ []
two_names [] a b c are = absurd (cc)
two_names (x ∷ []) a b c are = absurd (cc)
two_names (x ∷ y ∷ []) a b c are = absurd (cc)
two_names (x ∷ y ∷ z ∷ []) a b c are = cc
two_names (x ∷ y ∷ z ∷ e ∷ es) a b c are = absurd (cc)

-- a line with a title, a body and a year
abbrev pub book : List ℕ → List ℕ → ℕ → Data
book title body year = object (member (codes "body") (string body) (member (codes "title") (string title) (member (codes "year") (number (unsigned year)) no_members)))

-- its record without the body
pub book_record : (es : List SchemaEntry) (line r title body : List ℕ) (year : ℕ) → map (λ (e : SchemaEntry). e.name) es ≡ codes "title" ∷ codes "body" ∷ codes "year" ∷ [] → read line ≡ Some (book title body year)
    → IsRecordBy false (stored_names (true ∷ false ∷ true ∷ []) es) line r → r ≡ compact_text (object (member (codes "title") (string title) (member (codes "year") (number (unsigned year)) no_members)))
book_record es line r title body year names is kept =
    let named : IsRecordBy false (codes "title" ∷ codes "year" ∷ []) line r = subst (λ (ns : List (List ℕ)). IsRecordBy false ns line r) (two_names es (codes "title") (codes "body") (codes "year") names) kept in
    let known : value_of_line line ≡ book title body year = value_read line (book title body year) is in
    object_is_compact (member (codes "title") (string title) (member (codes "year") (number (unsigned year)) no_members)) r (rw known at named) refl

-- a store of one record gives it back
pub store_holds : (file : Option (List ℕ)) (bytes r : List ℕ) → file ≡ Some bytes → StoresLines (Some (r ∷ [])) file → HoldsDocuments bytes (r ∷ [])
store_holds file bytes r is stores =
    let store : IsStoreOf bytes (r ∷ []) = subst (λ (f : Option (List ℕ)). StoresLines (Some (r ∷ [])) f) is stores in
    store.holds

-- the segments of an index, if it is known
abbrev segments_in : Result IndexContents IndexFault → List SegmentContents
segments_in (Ok c) = c.segments
segments_in (Err fault) = []

-- the segments of an index with one more
pub has_last : (s : SegmentContents) (x : Result IndexContents IndexFault) (loaded : StoredSegments) → with_segment s x ≡ Ok (contents_view loaded) → (cs : List SegmentContents) × (map segment_contents loaded.segments.items ≡ cs ++ s ∷ [])
has_last s (Ok c) loaded is = (c.segments, sym (ap segments_in is))
has_last s (Err fault) loaded is = absurd (cc)

-- why a document isn't read
pub same_fault : {T : Type 0} (a b : StoredLineFault) → ◌≡◌ {A = Result T StoredFieldsFault} (Err (Document a)) (Err (Document b)) → ◌≡◌ {A = Result T StoredLineFault} (Err a) (Err b)
same_fault a b is =
    let same : a ≡ b = cc in
    ap Err same

-- what holds of a result holds in other words
pub if_done : {A E : Type 0} (P Q : A → Type 0) (result : Result A E) → ((x : A) → P x → Q x) → IfOk result P → IfOk result Q
if_done P Q (Ok x) next h = next x h
if_done P Q (Err e) next h = tt
