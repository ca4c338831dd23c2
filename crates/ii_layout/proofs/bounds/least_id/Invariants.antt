use Rattle.std.proofs.Common.{◌≡◌, drop, fold, map, min}
use Rattle.std.specs.List.{AllByRecursion}
use Rattle.ii_fieldnorm.specs.Readers.{CoversDoc, id_of_doc}
use Rattle.ii_layout.specs.Bounds.{least}
use Rattle.ii_layout.proofs.bounds.least_id.Given as goal

abbrev pub invariant-loop-doc : goal.invariant-loop-doc
invariant-loop-doc l = record {
  left : fold min l.least (map (id_of_doc l.norms) (drop l.doc-index l.doc_ids)) ≡ least (map (id_of_doc l.norms) l.doc_ids);
  covered : AllByRecursion (CoversDoc l.norms) (drop l.doc-index l.doc_ids);
}
