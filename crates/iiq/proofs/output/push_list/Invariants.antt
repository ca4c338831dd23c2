use Rattle.std.proofs.Common.{◌≡◌, ◌++◌, length}
use Rattle.std.specs.String.{string_bytes}
use Rattle.ii_docset.specs.Cursor.{doc_at, IsAscending}
use Rattle.iiq.specs.Output.{list_text}
use Rattle.iiq.proofs.OutputLemmas.{more_items}
use Rattle.iiq.proofs.output.push_list.Given as goal

abbrev pub invariant-loop-doc : goal.invariant-loop-doc
invariant-loop-doc l = record {
  here : l.doc ≡ doc_at l.cursor.rest;
  ascending : IsAscending l.cursor.rest;
  written : string_bytes l.text ++ more_items l.option l.cursor.rest ≡ string_bytes l.fn.text ++ list_text l.option l.fn.cursor.rest;
}

abbrev pub decreases-loop-doc : goal.decreases-loop-doc
decreases-loop-doc l = length l.cursor.rest
