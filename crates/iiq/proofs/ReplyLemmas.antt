-- Laws of replies.
use Rattle.std.proofs.Common.{◌≡◌, ◌<◌, ◌++◌, ℕ, arith, Bool, true, false, List, [], ◌∷◌, length, map, Option, Some, None, Result, Ok, Err, refl, sym, ap, subst, ◌∙◌, codes, eqb, String, Global}
use Rattle.std.specs.Prelude.{IfOk, MatchOption, string_bytes, unwrap_or}
use Rattle.std.specs.Option.{option_map}
use Rattle.std.specs.Str.{IsUtf8, is_utf8}
use Rattle.std.proofs.lemmas.Str.{IsUtf8-from_is_utf8, is_utf8-from_IsUtf8}
use Rattle.std.proofs.lemmas.List.{append-nil, length-map}
use Rattle.ii_docset.proofs.CursorLemmas.{ascending, length_below}
use Rattle.ii_base.specs.Entries.{document, are_documents}
use Rattle.ii_base.specs.declared.schema.index_record_option.IndexRecordOption.{IndexRecordOption}
use Rattle.ii_base.specs.declared.schema.index_record_option.IndexRecordOption.TheVariants.{Basic}
use Rattle.ii_io.specs.CountingWriter.{CountingWriterState, Wrote}
use Rattle.ii_layout.specs.TermList.{term_list}
use Rattle.ii_layout.proofs.TermLemmas.{plain_list}
use Rattle.ii_layout.specs.Written.{written_documents, written_postings, ReadsDocumentsBack}
use Rattle.ii_definitions.specs.Tokens.{Call}
use Rattle.iiq.specs.declared.commands.CommandSet.{CommandSet}
use Rattle.iiq.specs.declared.commands.Opening.{Opening}
use Rattle.iiq.specs.declared.commands.Query.{Query}
use Rattle.iiq.specs.declared.session.Session.{Session as SessionKept}
use Rattle.iiq.specs.Commands.{Command, command_of, index_call, show_ids}
use Rattle.iiq.specs.Known.{Answers, AnswersAlone, IsReply, Keeps, Knows, open_texts, opening_command, query_look_up}
use Rattle.iiq.specs.Output.{AnswersLine, AnswersMaybe, error_line, ids_texts, line_command, look_up_text, with_ends}
use Rattle.iiq.specs.Session.{Session, Indexes, kept_with}

not_utf8 : (line : List ℕ) (t : Bool) → is_utf8 line ≡ t → ¬ (IsUtf8 line) → t ≡ false
not_utf8 line true e h = absurd (h (IsUtf8-from_is_utf8 line e))
not_utf8 line false e h = refl

no_command : (commands : CommandSet) (line : List ℕ) → ¬ (IsUtf8 line) → line_command commands line ≡ None
no_command commands line h = rw (not_utf8 line (is_utf8 line) refl h) refl

the_command : (commands : CommandSet) (line : List ℕ) → IsUtf8 line → line_command commands line ≡ command_of commands line
the_command commands line h = rw (is_utf8-from_IsUtf8 line h) refl

answers_line : (commands : CommandSet) (old : Session) (line : List ℕ) (new : Session) (found : Option (List (List ℕ))) → false ≡ (eqb (length line) 0) → AnswersMaybe old (line_command commands line) new found
    → AnswersLine commands old line new (unwrap_or found error_line)
answers_line commands old [] new found some answers = absurd (cc)
answers_line commands old (c ∷ cs) new found some answers = (found, answers, refl)

-- a line that is no text
pub reply_no_text : (commands : CommandSet) (s : Session) (line text : List ℕ) (kept : SessionKept) → false ≡ (eqb (length line) 0) → ¬ (IsUtf8 line) → Knows kept s → text ≡ codes "error line\n" → IsReply commands s line kept text
reply_no_text commands s line text kept some h knows e = record {
  new = s;
  texts = error_line;
  knows = knows;
  answers = answers_line commands s line s None some (subst (λ (o : Option Command). AnswersMaybe s o s None) (sym (no_command commands line h)) (refl, refl));
  text_is = e;
}

some_text : (text : List ℕ) (texts : Option (List (List ℕ))) → Some text ≡ option_map with_ends texts → text ≡ with_ends (unwrap_or texts error_line)
some_text text None e = absurd (cc)
some_text text (Some ts) e = cc

-- a line that is answered
pub reply_some : (commands : CommandSet) (s : Session) (line text : List ℕ) (kept : SessionKept) (reply : Option (List ℕ)) → false ≡ (eqb (length line) 0) → IsUtf8 line → Answers s (command_of commands line) kept reply → reply ≡ Some text → IsReply commands s line kept text
reply_some commands s line text kept reply some h a e = record {
  new = a.new;
  texts = unwrap_or a.texts error_line;
  knows = a.knows;
  answers = answers_line commands s line a.new a.texts some (subst (λ (o : Option Command). AnswersMaybe s o a.new a.texts) (sym (the_command commands line h)) a.answers);
  text_is = some_text text a.texts (sym e ∙ a.reply_is);
}

no_texts : (text : List ℕ) (texts : Option (List (List ℕ))) → None ≡ option_map with_ends texts → text ≡ codes "error line\n" → text ≡ with_ends (unwrap_or texts error_line)
no_texts text None none e = e
no_texts text (Some ts) none e = absurd (cc)

-- a line that is refused
pub reply_none : (commands : CommandSet) (s : Session) (line text : List ℕ) (kept : SessionKept) (reply : Option (List ℕ)) → false ≡ (eqb (length line) 0) → IsUtf8 line → Answers s (command_of commands line) kept reply → reply ≡ None → text ≡ codes "error line\n" → IsReply commands s line kept text
reply_none commands s line text kept reply some h a none e = record {
  new = a.new;
  texts = unwrap_or a.texts error_line;
  knows = a.knows;
  answers = answers_line commands s line a.new a.texts some (subst (λ (o : Option Command). AnswersMaybe s o a.new a.texts) (sym (the_command commands line h)) a.answers);
  text_is = no_texts text a.texts (sym none ∙ a.reply_is) e;
}

-- what is answered whatever the session is
pub alone : (s : Session) (command : Option Command) (kept : SessionKept) (reply : Option (List ℕ)) → Knows kept s → AnswersAlone command reply → Answers s command kept reply
alone s command kept reply knows a = record { new = s; texts = a.texts; knows = knows; answers = a.answers s; reply_is = a.reply_is }

pub alone_ok : {E : Type 0} (r : Result (Option (String Global)) E) (s : Session) (command given : Option Command) (kept : SessionKept) → Knows kept s → given ≡ command → IfOk r (λ reply. AnswersAlone given (option_map string_bytes reply))
    → IfOk r (λ reply. Answers s command kept (option_map string_bytes reply))
alone_ok (Ok reply) s command given kept knows same a = alone s command kept (option_map string_bytes reply) knows (rw same at a)
alone_ok (Err e) s command given kept knows same a = tt

-- a list of documents, and a list that was opened
pub alone_ids : (command : Option Command) (docs text : List ℕ) → command ≡ Some (show_ids docs) → text ≡ with_ends (ids_texts docs) → AnswersAlone command (Some text)
alone_ids command docs text e t = record { texts = Some (ids_texts docs); answers = λ s. rw e (refl, refl); reply_is = ap (λ (bytes : List ℕ). Some bytes) t }

pub alone_open : (command : Option Command) (o : Opening) (text : List ℕ) → command ≡ Some (opening_command o) → text ≡ with_ends (open_texts o) → AnswersAlone command (Some text)
alone_open command o text e t = record { texts = Some (open_texts o); answers = λ s. rw e (refl, refl); reply_is = ap (λ (bytes : List ℕ). Some bytes) t }

keeps_cases : (s : Session) (c : Call) (kept : SessionKept) (found : Option Session) → kept_with s c ≡ found → MatchOption found ((true ≡ false) × Knows kept s) (λ t. (true ≡ true) × Knows kept t) → Answers s (Some (index_call c)) kept (Some [])
keeps_cases s c kept None e (never, knows) = absurd (cc)
keeps_cases s c kept (Some t) e (taken, knows) = record { new = t; texts = Some []; knows = knows; answers = rw e (refl, refl); reply_is = refl }

-- a call that was kept
pub answers_kept : (s : Session) (c : Call) (kept : SessionKept) (taken : Bool) → Keeps s c kept taken → taken ≡ true → Answers s (Some (index_call c)) kept (Some [])
answers_kept s c kept taken keeps e = keeps_cases s c kept (kept_with s c) refl (rw e at keeps)

-- a lookup
pub answers_look_up : (s : Session) (q : Query) (kept : SessionKept) (command : Option Command) (text line : List ℕ) (t : Session) → command ≡ Some (query_look_up q) → Indexes s t → Knows kept t
    → text ≡ look_up_text t q.requested q.term → line ≡ text ++ 10 ∷ [] → Answers s command kept (Some line)
answers_look_up s q kept command text line t e indexes knows is whole = record {
  new = t;
  texts = Some (look_up_text t q.requested q.term ∷ []);
  knows = knows;
  answers = rw e (indexes, refl);
  reply_is = ap (λ (bytes : List ℕ). Some bytes) (whole ∙ ap (λ (bytes : List ℕ). bytes ++ 10 ∷ []) is ∙ sym (append-nil _));
}

-- documents lie below 2 ^ 31, so there are fewer
pub few_documents : (docs : List ℕ) → are_documents docs ≡ true → length docs < 4294967296
few_documents docs h =
    let below = length_below (map document docs) (ascending docs h) in
    let many = length-map docs document in
    omega arith

-- what is written of documents alone
pub written_alone : (shape : IndexRecordOption) (docs freqs want : List ℕ) → shape ≡ Basic → docs ≡ want → written_postings None shape docs freqs ≡ written_documents want
written_alone shape docs freqs want shape_is docs_are = λ j. written_postings None (shape_is j) (docs_are j) freqs

-- what is written opens as its list
pub opens_written : (docs bytes : List ℕ) → ReadsDocumentsBack → are_documents docs ≡ true → bytes ≡ written_documents docs → term_list Basic Basic (length docs) bytes None ≡ Ok (map document docs)
opens_written docs bytes law h e =
    let few = few_documents docs h in
    let whole = rw append-nil at (law docs [] h (omega arith)) in
    plain_list Basic Basic (length docs) bytes None refl ∙ rw e whole

pub ok_is : {A E : Type 0} (r : Result A E) (x y : A) → r ≡ Ok x → r ≡ Ok y → x ≡ y
ok_is r x y p q = cc

pub ok_no_err : {A E : Type 0} (r : Result A E) (x : A) (y : E) → r ≡ Ok x → r ≡ Err y → ⊥
ok_no_err r x y p q = cc

-- a writer over no bytes holds what was written
pub holds_all : (old new : CountingWriterState) (items bytes : List ℕ) → old.contents ≡ Some [] → Some items ≡ new.contents → Wrote old new bytes → items ≡ bytes
holds_all old new items bytes start end wrote = rw (start, ← end) at wrote.appends
