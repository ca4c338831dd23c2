use Rattle.std.proofs.Common.{◌≡◌, ◌-◌}
use Rattle.ii_doc_store.specs.StoreReader.{document_in}
use Rattle.ii_doc_store.proofs.reader.document_at.Given as goal

-- the document is still to come
abbrev pub invariant-loop : goal.invariant-loop
invariant-loop l = document_in (l.k - l.counter) l.rest ≡ document_in l.k l.block
