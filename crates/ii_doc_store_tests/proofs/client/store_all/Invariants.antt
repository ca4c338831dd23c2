use Rattle.std.proofs.Common.{[], take}
use Rattle.ii_io.specs.CountingWriter.{CountingWriterState}
use Rattle.ii_doc_store.specs.StoreWriter.{HasStored}
use Rattle.ii_doc_store_tests.specs.Client.{bytes_of}
use Rattle.ii_doc_store_tests.proofs.client.store_all.Given as goal

-- the documents before the index are stored
abbrev pub invariant-loop-document : goal.invariant-loop-document
invariant-loop-document g l = (initial : CountingWriterState) → HasStored initial l.initial.writer [] → HasStored initial l.writer (bytes_of (take l.document-index l.documents))
