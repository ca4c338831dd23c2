use Rattle.std.proofs.Common.{◌≡◌, ℕ, Vec, Global, false, subst}
use Rattle.std.specs.Prelude.{codes}
use Rattle.ii_documents.specs.Records.{IsRecordBy}
use Rattle.ii_schema_text.specs.Stored.{StoredState, stored_names}
use Rattle.serde_json.specs.Data.{member, no_members, number, object, string, unsigned}
use Rattle.serde_json.specs.Written.{compact_text}
use Rattle.ii_folder_promises.proofs.StoredFieldsLaws.{book_record, if_done}
use Rattle.ii_folder_promises.proofs.stored_fields.the_stored_title_and_year_come_back.Goals as goal

pub returns : goal.returns
returns g c title body year is =
    if_done (λ (f : Vec ℕ Global). IsRecordBy false (stored_names c.args.stored.fields c.args.schema) c.args.line.now f.items) (λ (f : Vec ℕ Global). f.items ≡ compact_text (object (member (codes "title") (string title) (member (codes "year") (number (unsigned year)) no_members))))
    c.stored_fields_come_back.result
    (λ f kept. book_record c.args.schema c.args.line.now f.items title body year c.requires.names is (subst (λ (s : StoredState). IsRecordBy false (stored_names s.fields c.args.schema) c.args.line.now f.items) c.requires.stored kept))
    c.stored_fields_come_back.ensures.fields
