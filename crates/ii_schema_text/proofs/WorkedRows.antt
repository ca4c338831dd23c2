-- Example texts and their schemas.
use Rattle.std.proofs.Common.{◌≡◌, true, false, [], ◌∷◌, Ok, Err, None, Some, codes, refl}
use Rattle.toml.specs.Data.{array, boolean, integer, item, member, no_items, no_members, string, table}
use Rattle.std.specs.Prelude.{pos}
use Rattle.ii_base.specs.declared.schema.index_record_option.IndexRecordOption.TheVariants.{Basic, WithFreqsAndPositions}
use Rattle.ii_base.specs.declared.schema.value_type.ValueType.TheVariants as values
use Rattle.ii_tokenizers.specs.declared.analyzer.Analyzer.TheVariants.{Ascii, Default, English, Raw, Whitespace}
use Rattle.ii_tokenizers.specs.Analyzers.{with_stop_word}
use Rattle.ii_tokenizers.specs.Tokenizers.{analyzer_named, plain_tokenizer}
use Rattle.ii_schema_text.specs.declared.faults.FieldKey.TheVariants as keys
use Rattle.ii_schema_text.specs.declared.unknown_keys.UnknownKeys.TheVariants.{Ignore, Refuse}
use Rattle.ii_schema_text.specs.Settings.{option_named, settings_in, type_named}
use Rattle.ii_schema_text.specs.Stored.{has_field, is_any}
use Rattle.ii_schema_text.specs.SchemaText.{default_in, entry_in, field_in, is_known_key, no_fields, other_unicode, stop_words_in, stores_source_in, table_schema, tokenizer_in, unicode_in, unknown_field_key, unknown_field_tokenizer, unknown_key, unknown_keys_in, unknown_keys_named, unknown_tokenizer, wrong_key, wrong_store_source, wrong_unknown}

-- a field of texts alone has positions and norms
text_field : table_schema (member (codes "field") (array (item (table (member (codes "name") (string (codes "a")) (member (codes "type") (string (codes "text")) no_members))) no_items)) no_members)
    ≡ Ok (record {
      schema = record {
        name = codes "a";
        value_type = values.Str;
        option = WithFreqsAndPositions;
        is_indexed = true;
        has_fieldnorms = true;
        expands_dots = false;
      } ∷ [];
      tokenizers = plain_tokenizer Ascii ∷ [];
      stored = record { is_line = false; fields = false ∷ [] };
      unknown_keys = Refuse;
    })
unfolding table_schema field_in entry_in settings_in type_named option_named is_known_key
text_field = refl

-- a field of numbers has neither
number_field : entry_in [] (table (member (codes "name") (string (codes "n")) (member (codes "type") (string (codes "u64")) no_members)))
    ≡ Ok (record {
      entry = record {
        name = codes "n";
        value_type = values.U64;
        option = Basic;
        is_indexed = true;
        has_fieldnorms = false;
        expands_dots = false;
      };
      is_stored = false;
    })
unfolding entry_in settings_in type_named option_named is_known_key
number_field = refl

-- what is kept of a number's terms isn't said
number_record : entry_in [] (table (member (codes "name") (string (codes "n")) (member (codes "record") (string (codes "freq")) (member (codes "type") (string (codes "u64")) no_members))))
    ≡ Err (wrong_key 0 keys.Record)
unfolding entry_in settings_in type_named option_named is_known_key
number_record = refl

-- a name may occur only once
same_name : table_schema (member (codes "field") (array (item (table (member (codes "name") (string (codes "a")) (member (codes "type") (string (codes "json")) no_members)))
    (item (table (member (codes "name") (string (codes "a")) (member (codes "type") (string (codes "bool")) no_members))) no_items))) no_members) ≡ Err (wrong_key 1 keys.Name)
unfolding table_schema field_in entry_in settings_in type_named option_named is_known_key
same_name = refl

-- a key that isn't known, and no field
strangers : table_schema (member (codes "field") (array (item (table (member (codes "store") (boolean true) no_members)) no_items)) no_members) ≡ Err (unknown_field_key 0 (codes "store"))
unfolding table_schema field_in entry_in settings_in type_named option_named is_known_key
strangers = refl

stranger : table_schema (member (codes "fields") (integer (pos 1)) no_members) ≡ Err (unknown_key (codes "fields"))
unfolding table_schema is_known_key
stranger = refl

none : table_schema no_members ≡ Err no_fields
unfolding table_schema is_known_key
none = refl

-- lines are stored if the text says so
stored : stores_source_in (Some (boolean true)) ≡ Ok true
stored = refl

not_stored : stores_source_in None ≡ Ok false
not_stored = refl

stored_as_a_text : stores_source_in (Some (string (codes "true"))) ≡ Err wrong_store_source
stored_as_a_text = refl

stored_field : table_schema (member (codes "field") (array (item (table (member (codes "name") (string (codes "a")) (member (codes "type") (string (codes "bool")) no_members))) no_items)) (member (codes "store_source") (boolean true) no_members))
    ≡ Ok (record {
      schema = record {
        name = codes "a";
        value_type = values.Bool;
        option = Basic;
        is_indexed = true;
        has_fieldnorms = false;
        expands_dots = false;
      } ∷ [];
      tokenizers = plain_tokenizer Ascii ∷ [];
      stored = record { is_line = true; fields = false ∷ [] };
      unknown_keys = Refuse;
    })
unfolding table_schema field_in entry_in settings_in type_named option_named is_known_key
stored_field = refl

-- a field that isn't indexed and whose member is stored, and one of neither
two_fields : table_schema (member (codes "field") (array (item (table (member (codes "indexed") (boolean false) (member (codes "name") (string (codes "a")) (member (codes "stored") (boolean true) (member (codes "type") (string (codes "u64")) no_members)))))
    (item (table (member (codes "indexed") (boolean false) (member (codes "name") (string (codes "b")) (member (codes "type") (string (codes "u64")) no_members)))) no_items))) no_members)
    ≡ Ok (record {
      schema = record {
        name = codes "a";
        value_type = values.U64;
        option = Basic;
        is_indexed = false;
        has_fieldnorms = false;
        expands_dots = false;
      } ∷ record {
        name = codes "b";
        value_type = values.U64;
        option = Basic;
        is_indexed = false;
        has_fieldnorms = false;
        expands_dots = false;
      } ∷ [];
      tokenizers = plain_tokenizer Ascii ∷ plain_tokenizer Ascii ∷ [];
      stored = record { is_line = false; fields = true ∷ false ∷ [] };
      unknown_keys = Refuse;
    })
unfolding table_schema field_in entry_in settings_in type_named option_named is_known_key
two_fields = refl

stored_by_a_text : entry_in [] (table (member (codes "name") (string (codes "a")) (member (codes "stored") (string (codes "true")) (member (codes "type") (string (codes "text")) no_members))))
    ≡ Err (wrong_key 0 keys.Stored)
unfolding entry_in settings_in type_named option_named is_known_key
stored_by_a_text = refl

-- what is stored: nothing, the field 1 of two, or the line, of which each field can be printed
nothing_stored : is_any (record { is_line = false; fields = false ∷ false ∷ [] }) ≡ false
nothing_stored = refl

one_stored : is_any (record { is_line = false; fields = false ∷ true ∷ [] }) ≡ true
one_stored = refl

second_stored : has_field (record { is_line = false; fields = false ∷ true ∷ [] }) 1 ≡ true
second_stored = refl

first_not_stored : has_field (record { is_line = false; fields = false ∷ true ∷ [] }) 0 ≡ false
first_not_stored = refl

third_not_stored : has_field (record { is_line = false; fields = false ∷ true ∷ [] }) 2 ≡ false
third_not_stored = refl

all_in_the_line : has_field (record { is_line = true; fields = false ∷ [] }) 7 ≡ true
all_in_the_line = refl

-- the key is told before the fields
stored_first : table_schema (member (codes "store_source") (integer (pos 1)) no_members) ≡ Err wrong_store_source
unfolding table_schema is_known_key
stored_first = refl

-- unknown keys are refused unless the text says otherwise
refused : unknown_keys_in None ≡ Ok Refuse
refused = refl

refused_too : unknown_keys_in (Some (string (codes "refuse"))) ≡ Ok Refuse
unfolding unknown_keys_named
refused_too = refl

ignored : unknown_keys_in (Some (string (codes "ignore"))) ≡ Ok Ignore
unfolding unknown_keys_named
ignored = refl

ignored_as_a_boolean : unknown_keys_in (Some (boolean true)) ≡ Err wrong_unknown
ignored_as_a_boolean = refl

kept : unknown_keys_in (Some (string (codes "keep"))) ≡ Err wrong_unknown
unfolding unknown_keys_named
kept = refl

-- a text that ignores unknown keys
ignoring_field : table_schema (member (codes "field") (array (item (table (member (codes "name") (string (codes "a")) (member (codes "type") (string (codes "bool")) no_members))) no_items)) (member (codes "unknown") (string (codes "ignore")) no_members))
    ≡ Ok (record {
      schema = record {
        name = codes "a";
        value_type = values.Bool;
        option = Basic;
        is_indexed = true;
        has_fieldnorms = false;
        expands_dots = false;
      } ∷ [];
      tokenizers = plain_tokenizer Ascii ∷ [];
      stored = record { is_line = false; fields = false ∷ [] };
      unknown_keys = Ignore;
    })
unfolding table_schema field_in entry_in settings_in type_named option_named is_known_key unknown_keys_named
ignoring_field = refl

-- a field's own tokenizer, that of the text, and that of a text that names none
own : tokenizer_in 3 Default true (Some (string (codes "raw"))) ≡ Ok Raw
unfolding analyzer_named
own = refl

english : tokenizer_in 3 Default true (Some (string (codes "en"))) ≡ Ok English
unfolding analyzer_named
english = refl

of_the_text : tokenizer_in 3 Default true None ≡ Ok Default
of_the_text = refl

of_an_earlier_index : default_in None ≡ Ok Ascii
of_an_earlier_index = refl

-- an unknown name, and a field that may name none
no_tokenizer : tokenizer_in 3 Default true (Some (string (codes "Raw"))) ≡ Err (unknown_field_tokenizer 3 (codes "Raw"))
unfolding analyzer_named
no_tokenizer = refl

number_tokenizer : tokenizer_in 3 Default false (Some (string (codes "raw"))) ≡ Err (wrong_key 3 keys.Tokenizer)
number_tokenizer = refl

no_default : default_in (Some (string (codes "english"))) ≡ Err (unknown_tokenizer (codes "english"))
unfolding analyzer_named
no_default = refl

-- another version of Unicode matters to words that depend on it
other_version : unicode_in (plain_tokenizer Raw ∷ plain_tokenizer Default ∷ []) (Some (string (codes "17.0.0"))) ≡ Err (other_unicode (codes "17.0.0"))
other_version = refl

other_version_of_ascii : unicode_in (plain_tokenizer Raw ∷ plain_tokenizer Ascii ∷ []) (Some (string (codes "17.0.0"))) ≡ Ok tt
other_version_of_ascii = refl

other_version_of_english : unicode_in (record { analyzer = English; stop_words = codes "the" ∷ [] } ∷ []) (Some (string (codes "17.0.0"))) ≡ Err (other_unicode (codes "17.0.0"))
other_version_of_english = refl

this_version : unicode_in (plain_tokenizer Whitespace ∷ []) (Some (string (codes "18.0.0"))) ≡ Ok tt
this_version = refl

-- stop words are those of a list of texts
stop_words_listed : stop_words_in English (Some (array (item (string (codes "The")) (item (string (codes "of")) no_items)))) ≡ Some (with_stop_word (with_stop_word [] (codes "The")) (codes "of"))
stop_words_listed = refl

no_stop_words : stop_words_in Default None ≡ Some []
no_stop_words = refl

-- other tokenizers have none, not even an empty list
stop_words_of_default : stop_words_in Default (Some (array no_items)) ≡ None
stop_words_of_default = refl

stop_words_of_a_number : stop_words_in English (Some (array (item (string (codes "the")) (item (integer (pos 1)) no_items)))) ≡ None
stop_words_of_a_number = refl

a_stop_word_alone : stop_words_in English (Some (string (codes "the"))) ≡ None
a_stop_word_alone = refl

-- a field of English words without `the`, by the tokenizer of the text
english_field : table_schema (member (codes "field") (array (item (table (member (codes "name") (string (codes "a")) (member (codes "stop_words") (array (item (string (codes "The")) no_items)) (member (codes "type") (string (codes "text")) no_members)))) no_items)) (member (codes "tokenizer") (string (codes "en")) no_members))
    ≡ Ok (record {
      schema = record {
        name = codes "a";
        value_type = values.Str;
        option = WithFreqsAndPositions;
        is_indexed = true;
        has_fieldnorms = true;
        expands_dots = false;
      } ∷ [];
      tokenizers = record { analyzer = English; stop_words = with_stop_word [] (codes "The") } ∷ [];
      stored = record { is_line = false; fields = false ∷ [] };
      unknown_keys = Refuse;
    })
unfolding table_schema field_in entry_in settings_in type_named option_named is_known_key analyzer_named
english_field = refl

-- words of `default` have no stop words
default_field : table_schema (member (codes "field") (array (item (table (member (codes "name") (string (codes "a")) (member (codes "stop_words") (array (item (string (codes "the")) no_items)) (member (codes "type") (string (codes "text")) no_members)))) no_items)) (member (codes "tokenizer") (string (codes "default")) no_members))
    ≡ Err (wrong_key 0 keys.StopWords)
unfolding table_schema field_in entry_in settings_in type_named option_named is_known_key analyzer_named
default_field = refl
