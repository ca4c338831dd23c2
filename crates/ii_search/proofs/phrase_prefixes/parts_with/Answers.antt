use Rattle.std.proofs.Common.{◌≡◌, ◌∙◌, List, [], ◌∷◌, ◌++◌, Option, Ok, Some, ap, subst, sym}
use Rattle.std.specs.Prelude.{slice_get}
use Rattle.ii_base.specs.declared.schema.index_record_option.IndexRecordOption.TheVariants.{WithFreqsAndPositions}
use Rattle.ii_query.specs.Phrase.{PhrasePartState, parts_in}
use Rattle.ii_query_parser.specs.declared.query.PhraseTerm.{PhraseTerm}
use Rattle.ii_reader.specs.InvertedIndexReader.{InvertedIndexReaderState, IsRefusal}
use Rattle.ii_search.specs.Found.{docs_under, phrase_parts_of}
use Rattle.ii_search.proofs.PartLemmas.{parts_pushed}
use Rattle.ii_search.proofs.PhrasePrefixLemmas.{last_opens, last_refused}
use Rattle.ii_search.proofs.PhrasePrefixMatches.{last_with}
use Rattle.ii_search.proofs.phrase_prefixes.parts_with.Goals as goal

pub returns-in-Err-postings_of_key-clause-refused : goal.returns-in-Err-postings_of_key-clause-refused
returns-in-Err-postings_of_key-clause-refused c =
    let index = c.args.index.now in
    let key = c.args.key.now in
    let o = last_with c.args.phrase.now key in
    let fault = c.in-Err-postings_of_key.fault in
    let listed : phrase_parts_of index c.args.phrase.now.others.items ≡ Ok (parts_in c.in-Ok.parts.items) = c.requires.others ∙ ap (λ (ps : List PhrasePartState). Ok ps) (sym c.in-Ok.ensures.parts) in
    let reader : Some c.reader-reader.result.now ≡ slice_get index.readers o.term.field = sym (ap (slice_get index.readers) (sym c.field.ensures) ∙ c.reader-reader.ensures) in
    last_refused index c.args.phrase.now.others.items o (parts_in c.in-Ok.parts.items) fault listed
    (subst (λ (r : Option InvertedIndexReaderState). IsRefusal (docs_under WithFreqsAndPositions key r) fault) reader c.in-Err-postings_of_key.ensures.refused)

pub returns-clause-listed : goal.returns-clause-listed
returns-clause-listed c =
    let index = c.args.index.now in
    let key = c.args.key.now in
    let o = last_with c.args.phrase.now key in
    let reader : Some c.reader-reader.result.now ≡ slice_get index.readers o.term.field = sym (ap (slice_get index.readers) (sym c.field.ensures) ∙ c.reader-reader.ensures) in
    let listed : phrase_parts_of index c.args.phrase.now.others.items ≡ Ok (parts_in c.in-Ok.parts.items) = c.requires.others ∙ ap (λ (ps : List PhrasePartState). Ok ps) (sym c.in-Ok.ensures.parts) in
    let found = ap (docs_under WithFreqsAndPositions key) (sym reader) ∙ c.in-Ok-postings_of_key.ensures.listed in
    let part : record { distance = o.distance; rest = c.in-Ok-postings_of_key.last.rest } ≡ c.new.result.part = λ j. record { distance = sym c.new.ensures.distance j; rest = sym c.new.ensures.rest j } in
    last_opens index c.args.phrase.now.others.items o (parts_in c.in-Ok.parts.items) c.in-Ok-postings_of_key.last.rest listed found
    ∙ ap (λ (p : PhrasePartState). Ok (parts_in c.in-Ok.parts.items ++ p ∷ [])) part
    ∙ ap (λ (ps : List PhrasePartState). Ok ps) (sym (ap parts_in c.in_ok-push.ensures.items ∙ parts_pushed c.in-Ok.parts.items c.new.result))
