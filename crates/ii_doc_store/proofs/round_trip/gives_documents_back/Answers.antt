use Rattle.ii_doc_store.proofs.RoundTripLaws.{gives_back}
use Rattle.ii_doc_store.proofs.round_trip.gives_documents_back.Goals as goal

pub returns : goal.returns
returns c = gives_back
