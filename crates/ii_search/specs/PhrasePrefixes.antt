-- The opened terms of a phrase whose last term is one of a range.
use Rattle.std.specs.Prelude.{◌≡◌, ⊤, Option, None, Some, Ok, map}
use Rattle.ii_base.specs.declared.schema.index_record_option.IndexRecordOption.TheVariants.{WithFreqsAndPositions}
use Rattle.ii_query.specs.Phrase.{PhrasePartState}
use Rattle.ii_query_parser.specs.declared.phrase_prefix.PhrasePrefix.{PhrasePrefix}
use Rattle.ii_reader.specs.OpenIndex.{OpenIndexState}
use Rattle.ii_search.specs.declared.phrase_prefixes.OpenedTerm.{OpenedTerm}
use Rattle.ii_search.specs.declared.phrase_prefixes.OpenedTerms.{OpenedTerms}
use Rattle.ii_search.specs.Found.{docs_of_term, phrase_parts_of}

-- the term of an opened one, with the entries of its cursor
abbrev pub part_of : OpenedTerm → PhrasePartState
part_of t = record { distance = t.distance; rest = t.cursor.rest }

-- The cursors are those of the terms of a phrase before its last one, at their first documents.
pub record IsOpened (index : OpenIndexState) (p : PhrasePrefix) (terms : OpenedTerms) : Type 0 where
  pub first : docs_of_term WithFreqsAndPositions index p.first ≡ Ok terms.first.rest
  pub others : phrase_parts_of index p.others.items ≡ Ok (map part_of terms.others.items)

-- Nothing is opened yet, or these terms are.
abbrev pub AreOpened : OpenIndexState → PhrasePrefix → Option OpenedTerms → Type 0
AreOpened index p None = ⊤
AreOpened index p (Some terms) = IsOpened index p terms
