use Rattle.std.proofs.Common.{◌∙◌, inl, sym, ap, subst, List, Result}
use Rattle.ii_base.specs.Entries.{Entry}
use Rattle.ii_io.specs.declared.faults.Part.{Part}
use Rattle.ii_file_slice.specs.declared.faults.FileFault.TheVariants.{Index}
use Rattle.ii_reader.specs.InvertedIndexReader.{IsRefusal}
use Rattle.ii_search.proofs.FoundLemmas.{found_match, memory_alone}
use Rattle.ii_warmup.proofs.SameLemmas.{parts_find_the_same}
use Rattle.ii_promises.proofs.WarmupLaws.{hold_index, open_as, warmup_fault}
use Rattle.ii_promises.proofs.warming.queries_find_the_same_when_warmed_up.Goals as goal

pub returns-in-Err-clause-fault : goal.returns-in-Err-clause-fault
returns-in-Err-clause-fault c = λ tokens num_docs held norms.
    let entries = c.args.schema.now in
    let f = c.args.files.now in
    let o = open_as entries num_docs f.terms.now f.postings.now f.positions.now f.fieldnorms.now tokens held norms in
    let hold = hold_index entries f.terms.now f.postings.now f.positions.now f.fieldnorms.now o.index o.index_is in
    warmup_fault entries num_docs f.terms.now f.postings.now f.positions.now f.fieldnorms.now tokens o c.args.query.now c.in-Err.fault (c.in-Err.ensures.sound o.index hold tt tt tt tt)

pub returns-in-Ok-search-clause-found : goal.returns-in-Ok-search-clause-found
returns-in-Ok-search-clause-found c = λ tokens num_docs held norms.
    let entries = c.args.schema.now in
    let f = c.args.files.now in
    let o = open_as entries num_docs f.terms.now f.postings.now f.positions.now f.fieldnorms.now tokens held norms in
    let hold = hold_index entries f.terms.now f.postings.now f.positions.now f.fieldnorms.now o.index o.index_is in
    let same = parts_find_the_same c.args.query.now c.in-Ok.part o.index (c.in-Ok.ensures.part o.index hold) in
    (found_match entries num_docs o.index tokens c.args.query.now c.in-Ok-search.cursor.rest o.holds c.requires.fields c.requires.positions (sym same ∙ c.in-Ok-search.ensures.listed) c.in-Ok-search.ensures.sound).exact

pub returns-clause-fault : goal.returns-clause-fault
returns-clause-fault c = λ tokens num_docs held norms.
    let entries = c.args.schema.now in
    let f = c.args.files.now in
    let o = open_as entries num_docs f.terms.now f.postings.now f.positions.now f.fieldnorms.now tokens held norms in
    let hold = hold_index entries f.terms.now f.postings.now f.positions.now f.fieldnorms.now o.index o.index_is in
    let same = parts_find_the_same c.args.query.now c.in-Ok.part o.index (c.in-Ok.ensures.part o.index hold) in
    let refused = subst (λ (r : Result (List Entry) Part). IsRefusal r c.in-Err-search.fault) same c.in-Err-search.ensures.refused in
    inl (ap Index (memory_alone entries num_docs o.index tokens c.args.query.now c.in-Err-search.fault o.holds c.requires.fields c.requires.positions refused))
