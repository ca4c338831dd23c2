use Rattle.std.proofs.Common.{◌≡◌, ◌++◌, drop}
use Rattle.ii_schema_text.specs.Stored.{stored_names}
use Rattle.ii_documents.specs.LineFields.{names_of}
use Rattle.ii_documents.proofs.records.stored_names.Given as goal

-- the names so far, and those of the fields that are left
abbrev pub invariant-loop-id : goal.invariant-loop-id
invariant-loop-id l = names_of l.names.items ++ stored_names (drop l.id l.stored.fields) (drop l.id l.schema) ≡ stored_names l.stored.fields l.schema
