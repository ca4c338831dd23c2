-- The program's records, and their models.
use Rattle.std.specs.Prelude.{◌≡◌, ℕ, ◌<◌, ◌≤◌, ◌&&◌, nat_lt, false, true, Bool, List, [], ◌∷◌, length, map, ◌++◌, codes, decimal, is_none, Option, None, Some, MatchOption, Result, Ok, Err, unwrap_or}
use Rattle.std.specs.Option.{option_map}
use Rattle.ii_io.specs.Faults.{number_of}
use Rattle.ii_io.specs.declared.faults.Fault.{Fault}
use Rattle.ii_base.specs.Json.{Json, Leaf, leaf, null, text_leaf, u64_leaf, value_leaf}
use Rattle.ii_base.specs.Options.{downgrade}
use Rattle.ii_base.specs.Values.{flipped, number_of_bool}
use Rattle.ii_base.specs.declared.schema.value_type.ValueType.TheVariants as types
use Rattle.ii_base.specs.declared.doc_id.TheConstants.{TERMINATED}
use Rattle.ii_base.specs.Entries.{Entry}
use Rattle.ii_layout.specs.TermList.{term_list}
use Rattle.ii_definitions.specs.Tokens.{Call, IndexToken}
use Rattle.ii_definitions.specs.declared.index_call.IndexCall.{IndexCall}
use Rattle.ii_definitions.specs.IndexCalls.{MayAllBeIndexed, Takes, call_of, doc_of, field_of, type_of}
use Rattle.ii_reader.specs.OpenIndex.{IndexHolds, OpenIndexState}
use Rattle.iiq.specs.declared.commands.CommandSet.{CommandSet}
use Rattle.iiq.specs.declared.commands.Opening.{Opening}
use Rattle.iiq.specs.declared.commands.Query.{Query}
use Rattle.iiq.specs.declared.leaves.LeafValue.{LeafValue}
use Rattle.iiq.specs.declared.leaves.LeafValue.TheVariants.{Null, Signed, Text, Truth, Unsigned}
use Rattle.iiq.specs.declared.leaves.PathValue.{PathValue}
use Rattle.iiq.specs.declared.session.Session.{Session as SessionKept}
use Rattle.ii_docset.specs.Cursor.{IsAscending}
use Rattle.ii_docset.specs.Intersection.{has_doc}
use Rattle.ii_query_parser.specs.Queries.{matches}
use Rattle.ii_query_parser.specs.QueryTexts.{MeansText, text_refusal}
use Rattle.ii_query_parser.specs.declared.query.Query.{Query as QueryOf}
use Rattle.iiq.specs.Commands.{Command, asked, index_call, leaf_key, leaf_under, look_up, open_list}
use Rattle.iiq.specs.Output.{AnswersLine, AnswersMaybe, found_text, opened_text, with_ends}
use Rattle.iiq.specs.Session.{Session, gathering, opened, refused, IsIndexed, fields, kept_with, num_docs_of}

-- what an opening asks for
abbrev pub opening_command : Opening → Command
opening_command o = open_list o.record_option o.requested_option o.doc_freq o.postings o.positions

-- what an index call asks for
abbrev pub call_command : IndexCall → Command
call_command call = index_call (call_of fields call)

-- what a query asks for
abbrev pub query_look_up : Query → Command
query_look_up q = look_up q.requested q.term

-- the leaf of a value, or none for a null
abbrev pub leaf_or_none : LeafValue → Option Leaf
leaf_or_none Null = None
leaf_or_none (Text letters) = Some (text_leaf letters.now)
leaf_or_none (Signed number) = Some (value_leaf types.I64 (flipped number))
leaf_or_none (Unsigned number) = Some (u64_leaf number)
leaf_or_none (Truth truth) = Some (value_leaf types.Bool (number_of_bool truth))

-- a value without a path: null, or a leaf
abbrev pub json_alone : Option Leaf → Json
json_alone None = null
json_alone (Some l) = leaf l

-- what a value adds to the key of its path
abbrev pub key_of_leaf : LeafValue → List ℕ
key_of_leaf value = unwrap_or (option_map leaf_key (leaf_or_none value)) []

-- the leaves of a value at its path
abbrev pub leaves_of : PathValue → List (List ℕ × Leaf)
leaves_of at = leaf_under at.path.now (leaf_or_none at.value)

-- A call has a field of the schema, and a document below `TERMINATED`.
pub record IsCall (call : IndexCall) : Type 0 where
  pub below : doc_of call < TERMINATED
  pub takes : Takes fields (field_of call) (type_of call)

-- Calls were gathered: they may be indexed in this order, and have `num_docs` documents.
pub record GathersCalls (kept : List IndexCall) (num_docs : ℕ) (calls : List Call) : Type 0 where
  pub calls_are : map (call_of fields) kept ≡ calls
  pub num_docs_is : num_docs ≡ num_docs_of calls
  pub most : num_docs ≤ TERMINATED
  pub may : MayAllBeIndexed fields num_docs kept

-- An open index has these tokens, and norms of some number of documents.
pub record IsOpen (index : OpenIndexState) (ts : List IndexToken) : Type 0 where
  pub many : length index.readers ≡ length fields
  pub num_docs : ℕ
  pub holds : IndexHolds fields num_docs index ts

-- The session if no index was requested, or it is open, or was refused.
abbrev pub KnowsIndex : List IndexCall → ℕ → Option (Result OpenIndexState Fault) → Session → Type 0
KnowsIndex kept num_docs None s = (calls : List Call) × (s ≡ gathering calls) × GathersCalls kept num_docs calls
KnowsIndex kept num_docs (Some (Ok index)) s = (ts : List IndexToken) × (s ≡ opened num_docs ts) × IsOpen index ts × (num_docs ≤ TERMINATED)
KnowsIndex kept num_docs (Some (Err fault)) s = s ≡ refused fault

-- This session is the model of the program's session.
abbrev pub Knows : SessionKept → Session → Type 0
Knows kept s = KnowsIndex kept.calls.items kept.num_docs kept.index s

-- The program's session has a model.
abbrev pub IsSession : SessionKept → Type 0
IsSession kept = (s : Session) × Knows kept s

-- An index call was kept, or not.
abbrev pub Keeps : Session → Call → SessionKept → Bool → Type 0
Keeps s c new taken = MatchOption (kept_with s c) ((taken ≡ false) × Knows new s) (λ t. (taken ≡ true) × Knows new t)

-- The index of calls is open, or was refused.
abbrev pub GivesIndex : List Call → Result OpenIndexState Fault → Type 0
GivesIndex calls (Ok index) = (ts : List IndexToken) × IsIndexed calls (opened (num_docs_of calls) ts) × IsOpen index ts
GivesIndex calls (Err fault) = IsIndexed calls (refused fault)

-- the reply to a line that opens a list
abbrev pub open_texts : Opening → List (List ℕ)
open_texts o = opened_text (downgrade o.record_option o.requested_option) (term_list o.record_option o.requested_option o.doc_freq o.postings o.positions) ∷ []

-- A command has this reply in any session.
pub record AnswersAlone (command : Option Command) (reply : Option (List ℕ)) : Type 0 where
  pub texts : Option (List (List ℕ))
  pub answers : (s : Session) → AnswersMaybe s command s texts
  pub reply_is : reply ≡ option_map with_ends texts

-- A command has this reply, and changes the program's session so.
pub record Answers (old : Session) (command : Option Command) (now : SessionKept) (reply : Option (List ℕ)) : Type 0 where
  pub new : Session
  pub texts : Option (List (List ℕ))
  pub knows : Knows now new
  pub answers : AnswersMaybe old command new texts
  pub reply_is : reply ≡ option_map with_ends texts

-- A line has this reply, and changes the program's session so.
pub record IsReply (commands : CommandSet) (old : Session) (line : List ℕ) (now : SessionKept) (text : List ℕ) : Type 0 where
  pub new : Session
  pub texts : List (List ℕ)
  pub knows : Knows now new
  pub answers : AnswersLine commands old line new texts
  pub text_is : text ≡ with_ends texts

-- A reply is exactly the matches of a query below a number, in ascending order.
abbrev pub FindsBelow : ℕ → List IndexToken → QueryOf → List ℕ → Type 0
FindsBelow num_docs ts query reply = (es : List Entry) × IsAscending es × ((doc : ℕ) → has_doc es doc ≡ (matches query ts doc && nat_lt doc num_docs)) × (reply ≡ found_text es)

-- A query finds exactly its matches among the documents, once there is an index; if indexing failed, the reply is the fault.
abbrev pub FindsDocs : Session → QueryOf → List ℕ → Type 0
FindsDocs (gathering calls) query reply = reply ≡ []
FindsDocs (opened num_docs ts) query reply = FindsBelow num_docs ts query reply
FindsDocs (refused fault) query reply = reply ≡ codes "error " ++ decimal (number_of fault)

-- The query of a text, if it is one.
abbrev pub IsQuery : List ℕ → Option QueryOf → Type 0
IsQuery text None = is_none (text_refusal asked text) ≡ false
IsQuery text (Some query) = MeansText asked text query
