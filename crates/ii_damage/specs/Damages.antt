-- Damages of the files of an index, in the order in which a check reports them.
use Rattle.std.specs.Prelude.{ℕ, ◌+◌, ◌-◌, ◌^◌, Bool, ◌&&◌, not, if◌then◌else◌, List, [], ◌∷◌, ◌++◌, length, min, nat_le, ◌==◌, get_or, is_some, Option, None, Some, Result, Ok, Err, ok_or}
use Rattle.std.specs.List.{enumerate_from, filter_map, find, flat_map, list_all, range_with_len, sum_by}
use Rattle.std.specs.Option.{option_map, option_to_list}
use Rattle.ii_io.specs.declared.composite_file.place.Place.{Place}
use Rattle.ii_io.specs.declared.faults.Part.{Part}
use Rattle.ii_io.specs.declared.faults.Part.TheVariants as parts
use Rattle.ii_io.specs.Composite.{composite, table_of}
use Rattle.ii_base.specs.declared.schema.index_record_option.IndexRecordOption.{IndexRecordOption}
use Rattle.ii_base.specs.Entries.{Entry}
use Rattle.ii_base.specs.Options.{has_freq}
use Rattle.ii_base.specs.Schema.{SchemaEntry, keeps_norms}
use Rattle.ii_fieldnorm.specs.Norms.{id_of_norm}
use Rattle.ii_termstore.specs.declared.term_info.TermInfo.{TermInfo}
use Rattle.ii_termdict.specs.Dictionary.{TermEntry, dictionary}
use Rattle.ii_definitions.specs.JsonKeys.{is_key_of_text}
use Rattle.ii_reader.specs.InvertedIndexReader.{InvertedIndexReaderState, reader_of_none, reader_over, term_of_file}
use Rattle.ii_directory.specs.declared.name.Kind.{Kind}
use Rattle.ii_directory.specs.declared.name.Kind.TheVariants.{Schema, Terms, Postings, Positions, FieldNorms}
use Rattle.ii_store.specs.Index.{Index}
use Rattle.ii_damage.specs.Bodies.{body_in}
use Rattle.ii_damage.specs.declared.damage.ByteRange.{ByteRange}
use Rattle.ii_damage.specs.declared.damage.Damage.{Damage}
use Rattle.ii_damage.specs.declared.damage.Damage.TheVariants as damages
use Rattle.ii_damage.specs.declared.damage.FieldPlaces.{FieldPlaces}

-- the checked files of an index and its number of documents
pub record IndexFiles : Type 0 where
  pub num_docs : ℕ
  pub terms : List ℕ
  pub postings : List ℕ
  pub positions : List ℕ
  pub fieldnorms : List ℕ

-- the files of a stored index
abbrev pub index_files : Index → IndexFiles
index_files i = record { num_docs = i.num_docs; terms = i.terms; postings = i.postings; positions = i.positions; fieldnorms = i.fieldnorms }

-- the file of a kind; the file of terms for the schema, which has no bodies
abbrev pub file_bytes : IndexFiles → Kind → List ℕ
file_bytes files Schema = files.terms
file_bytes files Terms = files.terms
file_bytes files Postings = files.postings
file_bytes files Positions = files.positions
file_bytes files FieldNorms = files.fieldnorms

-- a damage: the file and its bytes, and the field and the key of the term if it belongs to one
pub record FoundDamageState : Type 0 where
  pub kind : Kind
  pub field : Option ℕ
  pub key : Option (List ℕ)
  pub damage : Damage
  pub bytes : ByteRange

-- the largest number of 32 bits
abbrev pub max_u32 : ℕ
max_u32 = 2 ^ 32 - 1

-- the largest number of 64 bits
abbrev pub max_u64 : ℕ
max_u64 = 2 ^ 64 - 1

-- the largest number of 128 bits
abbrev pub max_u128 : ℕ
max_u128 = 2 ^ 128 - 1

-- all bytes of a file
abbrev pub all_bytes : List ℕ → ByteRange
all_bytes file = record { start = 0; end = length file }

-- the place of a field in the table of a file
abbrev pub place_for : ℕ → Option (List Place) → Option Place
place_for field None = None
place_for field (Some places) = find (λ (p : Place). p.field == field) places

-- the bytes at a place, or the complete file
abbrev pub bytes_at : List ℕ → Option Place → ByteRange
bytes_at file None = all_bytes file
bytes_at file (Some p) = record { start = p.start; end = p.end }

-- the bytes of a field's body, or the complete file if there is none
abbrev pub bytes_of_field : ℕ → List ℕ → ByteRange
bytes_of_field field file = bytes_at file (place_for field (table_of file))

-- the bytes from `first` to `last`, counted from byte `start`
abbrev pub shifted : ℕ → ℕ → ℕ → ByteRange
shifted start first last = record { start = min (start + first) max_u64; end = min (start + last) max_u64 }

-- where the terms, lists and positions of a field are; 8 bytes with the number of tokens precede the lists
abbrev pub field_places : IndexFiles → ℕ → FieldPlaces
field_places files field = record {
  field = field;
  terms = bytes_of_field field files.terms;
  lists = min ((bytes_of_field field files.postings).start + 8) max_u64;
  positions = (bytes_of_field field files.positions).start;
}

-- the damage of a file whose table is not valid
abbrev pub table_damage : IndexFiles → Kind → Option FoundDamageState
table_damage files kind =
    if is_some (table_of (file_bytes files kind)) then None
    else Some (record { kind = kind; field = None; key = None; damage = damages.Part parts.Composite; bytes = all_bytes (file_bytes files kind) })

-- the damages of the tables
abbrev pub table_damages : IndexFiles → List FoundDamageState
table_damages files = filter_map (table_damage files) (Terms ∷ Postings ∷ Positions ∷ FieldNorms ∷ [])

-- the reader over a field's dictionary and bodies, or the damaged file and its first damaged part
abbrev pub reader_with : IndexRecordOption → List ℕ → List ℕ → Result (List TermEntry) Part → Result InvertedIndexReaderState (Kind × Part)
reader_with option postings positions (Err part) = Err (Terms, part)
reader_with option postings positions (Ok entries) = ok_or (reader_over entries postings positions option) (Postings, parts.TokenCount)

-- the reader over a field's bodies, or the damaged file and its first damaged part
abbrev pub reader_in : IndexRecordOption → Option (List ℕ) → Option (List ℕ) → Option (List ℕ) → Result InvertedIndexReaderState (Kind × Part)
reader_in option None postings positions = Ok (reader_of_none option)
reader_in option (Some terms) None positions = Err (Postings, parts.Composite)
reader_in option (Some terms) (Some postings) None = Err (Positions, parts.Composite)
reader_in option (Some terms) (Some postings) (Some positions) = reader_with option postings positions (dictionary terms)

-- the reader of a field
abbrev pub field_reader : IndexFiles → ℕ → IndexRecordOption → Result InvertedIndexReaderState (Kind × Part)
field_reader files field option = reader_in option (body_in field (composite files.terms)) (body_in field (composite files.postings)) (body_in field (composite files.positions))

-- a damage of a field
abbrev pub of_field : ℕ → Kind → Damage → ByteRange → FoundDamageState
of_field field kind damage bytes = record { kind = kind; field = Some field; key = None; damage = damage; bytes = bytes }

-- the damage of a field whose bodies don't open, unless the file's table is damaged
abbrev pub unopened : IndexFiles → ℕ → Kind × Part → List FoundDamageState
unopened files field (kind, part) =
    if is_some (table_of (file_bytes files kind)) then of_field field kind (damages.Part part) (bytes_of_field field (file_bytes files kind)) ∷ [] else []

-- the first document of a list that is not in an index of `num_docs` documents
abbrev pub stray_in : ℕ → List Entry → Option ℕ
stray_in num_docs es = option_map (λ (e : Entry). e.doc) (find (λ (e : Entry). nat_le num_docs e.doc) es)

-- what is wrong with the list of a term
abbrev pub list_damage : ℕ → Result (List Entry) Part → Option Damage
list_damage num_docs (Err part) = Some (damages.Part part)
list_damage num_docs (Ok es) = option_map damages.Document (stray_in num_docs es)

-- the file and bytes of a term's damage: positions, postings, or the field's terms if its ranges are invalid
abbrev pub bytes_of_damage : FieldPlaces → TermInfo → Damage → Kind × ByteRange
bytes_of_damage places info (damages.Part parts.Range) = (Terms, places.terms)
bytes_of_damage places info (damages.Part parts.Positions) = (Positions, shifted places.positions info.positions_range.start info.positions_range.end)
bytes_of_damage places info _ = (Postings, shifted places.lists info.postings_range.start info.postings_range.end)

-- a damage of a term
abbrev pub of_term : FieldPlaces → List ℕ → TermInfo → Damage → FoundDamageState
of_term places key info damage = record {
  kind = (bytes_of_damage places info damage).0;
  field = Some places.field;
  key = Some key;
  damage = damage;
  bytes = (bytes_of_damage places info damage).1;
}

-- the damage of a term of the dictionary, if it has one
abbrev pub term_damage : ℕ → FieldPlaces → InvertedIndexReaderState → TermEntry → Option FoundDamageState
term_damage num_docs places reader e = option_map (of_term places e.0 e.1) (list_damage num_docs (term_of_file reader reader.option e.1))

-- the damages of the terms of a field, in the order of their keys
abbrev pub term_damages : ℕ → FieldPlaces → InvertedIndexReaderState → List FoundDamageState
term_damages num_docs places reader = filter_map (term_damage num_docs places reader) reader.terms

-- the entries of a list that opens
abbrev pub entries_read : Result (List Entry) Part → List Entry
entries_read (Ok es) = es
entries_read (Err part) = []

-- the entries of the list of a term
abbrev pub term_entries : InvertedIndexReaderState → TermEntry → List Entry
term_entries reader e = entries_read (term_of_file reader reader.option e.1)

-- the entries of all lists of a field that open
abbrev pub field_entries : InvertedIndexReaderState → List Entry
field_entries reader = flat_map (term_entries reader) reader.terms

-- the sum of the counts of the documents that pass a test
abbrev pub freqs_where : (ℕ → Bool) → List Entry → ℕ
freqs_where test es = sum_by (λ (e : Entry). if test e.doc then e.term_freq else 0) es

-- the number of tokens of all entries
abbrev pub num_occurrences : List Entry → ℕ
num_occurrences es = freqs_where (λ _. Bool.true) es

-- the number of tokens of one document
abbrev pub tokens_of_doc : ℕ → List Entry → ℕ
tokens_of_doc doc es = freqs_where (λ d. d == doc) es

-- whether counts are stored for a key: only for a text, in a field that records counts
abbrev pub keeps_counts : SchemaEntry → List ℕ → Bool
keeps_counts entry key = has_freq entry.option && is_key_of_text entry.value_type key

-- whether a field keeps counts for each key
abbrev pub all_keep_counts : SchemaEntry → InvertedIndexReaderState → Bool
all_keep_counts entry reader = list_all (λ (e : TermEntry). keeps_counts entry e.0) reader.terms

-- whether a field may store `num_tokens`: exactly `listed` if it keeps counts for each key, else at least it
abbrev pub may_have : Bool → ℕ → ℕ → Bool
may_have all_kept num_tokens listed = if all_kept then num_tokens == listed else nat_le listed num_tokens

-- the damage of a field's stored number of tokens, where its lists have `listed`
abbrev pub tokens_damage : IndexFiles → ℕ → Bool → ℕ → ℕ → Option FoundDamageState
tokens_damage files field all_kept num_tokens listed =
    if may_have all_kept num_tokens listed then None
    else Some (of_field field Postings (damages.Tokens num_tokens (min listed max_u128)) (shifted (bytes_of_field field files.postings).start 0 8))

-- the damage of a field's number of tokens, by the entries of its lists
abbrev pub token_damage : IndexFiles → ℕ → SchemaEntry → InvertedIndexReaderState → Option FoundDamageState
token_damage files field entry reader = tokens_damage files field (all_keep_counts entry reader) reader.num_tokens (num_occurrences (field_entries reader))

-- whether a document's norm is not that of its number of tokens
abbrev pub is_other_norm : List ℕ → List Entry → ℕ → Bool
is_other_norm ids es doc = not (get_or ids doc 0 == id_of_norm (tokens_of_doc doc es))

-- the first document whose norm is not that of its number of tokens
abbrev pub other_norm : ℕ → List ℕ → List Entry → Option ℕ
other_norm num_docs ids es = find (is_other_norm ids es) (range_with_len 0 num_docs)

-- the damage of a document's norm
abbrev pub of_norm : ℕ → ByteRange → List Entry → ℕ → FoundDamageState
of_norm field body es doc = of_field field FieldNorms (damages.Norm doc (min (tokens_of_doc doc es) max_u32)) (shifted body.start doc (doc + 1))

-- the damage of a field's norms: missing, wrong in number, or, if all counts are stored, one that is wrong
abbrev pub norms_damage : ℕ → ℕ → ByteRange → Bool → List Entry → Option (List ℕ) → Option FoundDamageState
norms_damage num_docs field body all_kept es None = Some (of_field field FieldNorms damages.NoNorms body)
norms_damage num_docs field body all_kept es (Some ids) =
    if not (length ids == num_docs) then Some (of_field field FieldNorms (damages.Norms (length ids)) body)
    else if all_kept then option_map (of_norm field body es) (other_norm num_docs ids es)
    else None

-- the damage of a field that keeps norms, in a file with a valid table
abbrev pub kept_norms_damage : IndexFiles → ℕ → SchemaEntry → Bool → List Entry → Option FoundDamageState
kept_norms_damage files field entry all_kept es =
    if keeps_norms entry && is_some (table_of files.fieldnorms)
    then norms_damage files.num_docs field (bytes_of_field field files.fieldnorms) all_kept es (body_in field (composite files.fieldnorms))
    else None

-- the damage of a field's norms, by the entries of its lists
abbrev pub norm_damage : IndexFiles → ℕ → SchemaEntry → InvertedIndexReaderState → Option FoundDamageState
norm_damage files field entry reader = kept_norms_damage files field entry (all_keep_counts entry reader) (field_entries reader)

-- the damages of a field's token number and norms, if the file of terms has a valid table
abbrev pub count_damages : IndexFiles → ℕ → SchemaEntry → InvertedIndexReaderState → List FoundDamageState
count_damages files field entry reader =
    if is_some (table_of files.terms) then option_to_list (token_damage files field entry reader) ++ option_to_list (norm_damage files field entry reader) else []

-- the first list, or the second one if the first is empty
abbrev pub first_found : List FoundDamageState → List FoundDamageState → List FoundDamageState
first_found [] others = others
first_found (first ∷ more) others = first ∷ more

-- the damages of a field whose bodies open: those of its terms, or, if there are none, of its token numbers
abbrev pub reader_damages : IndexFiles → ℕ → SchemaEntry → InvertedIndexReaderState → List FoundDamageState
reader_damages files field entry reader = first_found (term_damages files.num_docs (field_places files field) reader) (count_damages files field entry reader)

-- the damages of a field by the result of opening its bodies
abbrev pub damages_by : IndexFiles → ℕ → SchemaEntry → Result InvertedIndexReaderState (Kind × Part) → List FoundDamageState
damages_by files field entry (Err found) = unopened files field found
damages_by files field entry (Ok reader) = reader_damages files field entry reader

-- the damages of a field
abbrev pub field_damages : IndexFiles → ℕ × SchemaEntry → List FoundDamageState
field_damages files f = damages_by files f.0 f.1 (field_reader files f.0 f.1.option)

-- the damages of all files: first of the tables, then of each field in order
abbrev pub damages_of : List SchemaEntry → IndexFiles → List FoundDamageState
damages_of entries files = table_damages files ++ flat_map (field_damages files) (enumerate_from 0 entries)
