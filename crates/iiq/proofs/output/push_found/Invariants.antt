use Rattle.std.proofs.Common.{◌≡◌, ◌++◌, length}
use Rattle.std.specs.String.{string_bytes}
use Rattle.ii_base.specs.declared.schema.index_record_option.IndexRecordOption.TheVariants.{Basic}
use Rattle.ii_docset.specs.Cursor.{doc_at, IsAscending}
use Rattle.iiq.specs.Output.{found_text}
use Rattle.iiq.proofs.OutputLemmas.{more_items}
use Rattle.iiq.proofs.output.push_found.Given as goal

abbrev pub invariant-loop-doc : goal.invariant-loop-doc
invariant-loop-doc g l =
    let rest = g.D.DocSet.rest in
    record {
      here : l.doc ≡ doc_at (rest l.cursor);
      ascending : IsAscending (rest l.cursor);
      written : string_bytes l.text ++ more_items Basic (rest l.cursor) ≡ string_bytes l.fn.text ++ found_text (rest l.fn.cursor);
    }

abbrev pub decreases-loop-doc : goal.decreases-loop-doc
decreases-loop-doc g l = length (g.D.DocSet.rest l.cursor)
