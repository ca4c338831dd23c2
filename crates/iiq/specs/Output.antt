-- What the program writes for the bytes that it reads.
use Rattle.std.specs.Prelude.{◌≡◌, ℕ, Bool, not, ◌&&◌, ◌⊎◌, nat_eq, nat_lt, List, [], ◌∷◌, ◌++◌, map, if◌then◌else◌, Option, Some, None, MatchOption, Result, Ok, Err, codes, decimal, flat_map, unwrap_or}
use Rattle.std.specs.List.{join_with_byte, list_all, starts_with}
use Rattle.std.specs.Str.{is_utf8}
use Rattle.std.specs.Io.KnownBytes.{Appends}
use Rattle.ii_base.specs.declared.schema.index_record_option.IndexRecordOption.{IndexRecordOption}
use Rattle.ii_base.specs.declared.schema.index_record_option.IndexRecordOption.TheVariants.{Basic, WithFreqs, WithFreqsAndPositions}
use Rattle.ii_base.specs.Options.{downgrade}
use Rattle.ii_base.specs.Terms.{TermState}
use Rattle.ii_io.specs.Faults.{number_of}
use Rattle.ii_io.specs.declared.faults.Part.{Part}
use Rattle.ii_io.specs.declared.faults.Part.TheVariants.{Skip, Documents, Frequencies, Positions}
use Rattle.ii_docset.specs.Cursor.{IsAscending}
use Rattle.ii_base.specs.Entries.{Entry, document}
use Rattle.ii_docset.specs.Intersection.{has_doc}
use Rattle.ii_layout.specs.TermList.{term_list}
use Rattle.ii_layout.specs.Written.{written_documents}
use Rattle.ii_definitions.specs.Fields.{option_of}
use Rattle.ii_definitions.specs.Postings.{key_postings, occurs}
use Rattle.ii_definitions.specs.Tokens.{IndexToken}
use Rattle.ii_query_parser.specs.QueryTexts.{text_matches}
use Rattle.iiq.specs.declared.commands.CommandSet.{CommandSet}
use Rattle.iiq.specs.Words.{lines_of, nothing, written_hex}
use Rattle.iiq.specs.Commands.{Command, asked, show_ids, open_list, index_call, look_up, search_for, command_of}
use Rattle.iiq.specs.Session.{Session, gathering, opened, refused, Indexes, fields, kept_with}

-- positions, separated by commas
abbrev pub positions_text : List ℕ → List ℕ
positions_text positions = join_with_byte 44 (map decimal positions)

-- a document, with its term frequency and its positions after colons, if the option has them
abbrev pub item : IndexRecordOption → Entry → List ℕ
item Basic e = decimal e.doc
item WithFreqs e = decimal e.doc ++ 58 ∷ decimal e.term_freq
item WithFreqsAndPositions e = decimal e.doc ++ 58 ∷ (decimal e.term_freq ++ 58 ∷ positions_text e.positions)

-- the item of the current document
abbrev pub item_at : IndexRecordOption → List Entry → List ℕ
item_at option [] = []
item_at option (e ∷ es) = item option e

-- the items of a list, separated by spaces, or a dash if there are none
abbrev pub list_text : IndexRecordOption → List Entry → List ℕ
list_text option [] = nothing
list_text option (e ∷ es) = join_with_byte 32 (map (item option) (e ∷ es))

-- the name of a damaged part
abbrev pub part_name : Part → List ℕ
part_name Skip = codes "skip"
part_name Documents = codes "documents"
part_name Frequencies = codes "frequencies"
part_name Positions = codes "positions"
part_name _ = []

-- a list that was opened, or the damaged part
abbrev pub opened_text : IndexRecordOption → Result (List Entry) Part → List ℕ
opened_text option (Ok entries) = list_text option entries
opened_text option (Err part) = codes "damaged " ++ part_name part

-- the postings of a key in a field, as far as they are requested and recorded
abbrev pub key_text : IndexRecordOption → ℕ → List ℕ → List IndexToken → List ℕ
key_text requested field key ts =
    let option = option_of fields field in
    if occurs field key ts then list_text (downgrade option requested) (key_postings option field key requested ts) else codes "none"

-- the postings of a term, or `none` without a term
abbrev pub term_text : IndexRecordOption → Option TermState → List IndexToken → List ℕ
term_text requested None ts = codes "none"
term_text requested (Some term) ts = key_text requested term.field term.value ts

-- the reply to a lookup, once there is an index
abbrev pub look_up_text : Session → IndexRecordOption → Option TermState → List ℕ
look_up_text (gathering calls) requested term = []
look_up_text (opened num_docs ts) requested term = term_text requested term ts
look_up_text (refused fault) requested term = codes "error " ++ decimal (number_of fault)

-- the documents that were found, or `none`
abbrev pub found_text : List Entry → List ℕ
found_text [] = codes "none"
found_text (e ∷ es) = list_text Basic (e ∷ es)

-- The reply to a search is exactly the documents of the index that match its text, in ascending order.
pub record FindsMatches (text : List ℕ) (num_docs : ℕ) (ts : List IndexToken) (reply : List ℕ) : Type 0 where
  pub docs : List Entry
  pub ascending : IsAscending docs
  pub exact : (doc : ℕ) → has_doc docs doc ≡ (text_matches asked text ts doc && nat_lt doc num_docs)
  pub reply_is : reply ≡ found_text docs

-- `FindsMatches` holds once there is an index; if indexing failed, the reply is the fault.
abbrev pub FindsText : Session → List ℕ → List ℕ → Type 0
FindsText (gathering calls) text reply = reply ≡ []
FindsText (opened num_docs ts) text reply = FindsMatches text num_docs ts reply
FindsText (refused fault) text reply = reply ≡ codes "error " ++ decimal (number_of fault)

-- the reply to documents: their bytes, and the list of them
abbrev pub ids_texts : List ℕ → List (List ℕ)
ids_texts docs = written_hex (written_documents docs) ∷ list_text Basic (map document docs) ∷ []

-- A command has these replies, or none if it is refused, and leaves this session.
abbrev pub AnswersCommand : Session → Command → Session → Option (List (List ℕ)) → Type 0
AnswersCommand old (show_ids docs) new texts = (new ≡ old) × (texts ≡ Some (ids_texts docs))
AnswersCommand old (open_list recorded requested doc_freq bytes positions) new texts =
    (new ≡ old) × (texts ≡ Some (opened_text (downgrade recorded requested) (term_list recorded requested doc_freq bytes positions) ∷ []))
AnswersCommand old (index_call c) new texts = MatchOption (kept_with old c) ((new ≡ old) × (texts ≡ None)) (λ kept. (new ≡ kept) × (texts ≡ Some []))
AnswersCommand old (look_up requested term) new texts = Indexes old new × (texts ≡ Some (look_up_text new requested term ∷ []))
AnswersCommand old (search_for text) new texts = Indexes old new × (reply : List ℕ) × FindsText new text reply × (texts ≡ Some (reply ∷ []))

-- The command of a line has these replies, if the line is well formed.
abbrev pub AnswersMaybe : Session → Option Command → Session → Option (List (List ℕ)) → Type 0
AnswersMaybe old None new texts = (new ≡ old) × (texts ≡ None)
AnswersMaybe old (Some command) new texts = AnswersCommand old command new texts

-- the command of a line that is text
abbrev pub line_command : CommandSet → List ℕ → Option Command
line_command commands line = if is_utf8 line then command_of commands line else None

-- the reply to a line that is refused
abbrev pub error_line : List (List ℕ)
error_line = codes "error line" ∷ []

-- A line has these replies, an empty one none, and leaves this session.
abbrev pub AnswersLine : CommandSet → Session → List ℕ → Session → List (List ℕ) → Type 0
AnswersLine commands old [] new texts = (new ≡ old) × (texts ≡ [])
AnswersLine commands old (c ∷ cs) new texts =
    (found : Option (List (List ℕ))) × AnswersMaybe old (line_command commands (c ∷ cs)) new found × (texts ≡ unwrap_or found error_line)

-- each text with a line end
abbrev pub with_ends : List (List ℕ) → List ℕ
with_ends texts = flat_map (λ text. text ++ 10 ∷ []) texts

-- A line is answered, and then the other lines.
pub record PrintsLine (commands : CommandSet) (P : Session → List ℕ → Type 0) (old : Session) (line out : List ℕ) : Type 0 where
  pub new : Session
  pub texts : List (List ℕ)
  pub rest : List ℕ
  pub answers : AnswersLine commands old line new texts
  pub out_is : out ≡ with_ends texts ++ rest
  pub others : P new rest

-- What is written for these lines. If an allocation fails for a line, it prints `error 1` and ends the run.
abbrev pub Prints : CommandSet → Session → List (List ℕ) → List ℕ → Type 0
Prints commands old [] out = out ≡ []
Prints commands old (line ∷ lines) out = PrintsLine commands (λ new rest. Prints commands new lines rest) old line out ⊎ (out ≡ codes "error 1\n")

-- whether no line of the text begins with `error`
abbrev pub has_no_error : List ℕ → Bool
has_no_error text = list_all (λ line. not (starts_with nat_eq line (codes "error"))) (lines_of text)

-- What is written for the input is appended to the output.
pub record PrintsAll (commands : CommandSet) (old new : Option (List ℕ)) (input : List ℕ) (fine : Bool) : Type 0 where
  pub out : List ℕ
  pub appends : Appends old new out
  pub prints : Prints commands (gathering []) (lines_of input) out
  pub fine_is : fine ≡ has_no_error out

-- A prefix of what is written for the input is appended to the output.
pub record PrintsBeginning (commands : CommandSet) (old new : Option (List ℕ)) (input : List ℕ) : Type 0 where
  pub out : List ℕ
  pub rest : List ℕ
  pub appends : Appends old new out
  pub prints : Prints commands (gathering []) (lines_of input) (out ++ rest)

-- A prefix of these bytes is appended to the output.
abbrev pub PutsBeginning : Option (List ℕ) → Option (List ℕ) → List ℕ → Type 0
PutsBeginning old new bytes = (out : List ℕ) × (rest : List ℕ) × Appends old new out × (bytes ≡ out ++ rest)
