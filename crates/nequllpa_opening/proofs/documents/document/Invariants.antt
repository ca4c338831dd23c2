use Rattle.std.proofs.Common.{◌≡◌, drop, map}
use Rattle.nequllpa_opening.specs.Documents.{document_from, stored_segment}
use Rattle.nequllpa_opening.proofs.documents.document.Given as goal

abbrev pub invariant-loop-place : goal.invariant-loop-place
invariant-loop-place l = document_from l.place (drop l.place (map stored_segment l.segments)) l.left ≡ document_from 0 (map stored_segment l.segments) l.number
