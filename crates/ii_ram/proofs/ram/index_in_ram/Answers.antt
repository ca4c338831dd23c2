use Rattle.std.proofs.Common.{List, length, map, Result, Err, ap, sym, subst, ◌∙◌}
use Rattle.std.proofs.lemmas.List.{length-map}
use Rattle.std.specs.Prelude.{IfErr, OnOk}
use Rattle.ii_io.specs.declared.faults.Fault.{Fault}
use Rattle.ii_base.specs.Schema.{SchemaEntry}
use Rattle.ii_definitions.specs.Fields.{option_of}
use Rattle.ii_definitions.specs.Files.{HoldTokens}
use Rattle.ii_definitions.specs.Norms.{HoldNorms}
use Rattle.ii_definitions.specs.Tokens.{tokens_of}
use Rattle.ii_definitions.specs.IndexCalls.{call_of}
use Rattle.ii_indexing.specs.IndexFiles.{IsIndexFault, WroteIndex}
use Rattle.ii_indexing.specs.RamFiles.{IsRamFault}
use Rattle.ii_reader.specs.InvertedIndexReader.{trusted_reader}
use Rattle.ii_reader.specs.OpenIndex.{GivesReaders, OpenIndexState, index_of_files}
use Rattle.ii_definitions.specs.TrueBounds.{HaveTrueBounds}
use Rattle.ii_ram.specs.OpenedFiles.{OpensFiles}
use Rattle.ii_ram.proofs.BoundLaws.{opens_true_bounds, trusted_bounds}
use Rattle.ii_reader.proofs.KnownLemmas.{all_trusted}
use Rattle.ii_indexing.proofs.RamLaws.{fault_in_ram}
use Rattle.ii_ram.proofs.RamLaws.{GivesAll, all_open, in_ram, index_holds, readers_fault}
use Rattle.ii_ram.proofs.ram.index_in_ram.Goals as goal

pub trusted-requires : goal.trusted-requires
trusted-requires g c =
    let ts = tokens_of (g.A.TextAnalyzer.words c.args.analyzer.now) (map (call_of c.args.schema) c.args.calls.items) in
    let files = c.in_memory-files.result in
    let new = c.write_index-files.result.0 in
    let wrote : WroteIndex c.args.schema c.args.num_docs files new ts = subst (λ (r : Result (Unit {0}) Fault). OnOk r (WroteIndex c.args.schema c.args.num_docs files new ts)) c.in-Ok.is c.write_index-files.ensures.wrote in
    let ram = in_ram c.args.schema c.args.num_docs files new ts c.in_memory-files.ensures wrote in
    let same = sym c.in_ok-copy.ensures.same in
    let hold = subst (λ (es : List SchemaEntry). HoldTokens (option_of es) wrote.terms.terms wrote.terms.postings wrote.terms.positions ts) same wrote.terms.hold in
    let norms = subst (λ (es : List SchemaEntry). HoldNorms es c.args.num_docs wrote.norms.fieldnorms ts) same wrote.norms.hold in
    let gives = c.open_in_ram.ensures.holds wrote.terms.terms wrote.terms.postings wrote.terms.positions wrote.norms.fieldnorms c.args.num_docs ts ram.0 ram.1 ram.2 ram.3 hold norms in
    all_open c.in_ok-copy.copy c.args.num_docs ts c.in-Ok-open_in_ram.index c.open_in_ram.result c.in-Ok-open_in_ram.is gives c.in-Ok-open_in_ram.ensures.many

pub returns-in-Ok-open_in_ram-clause-holds : goal.returns-in-Ok-open_in_ram-clause-holds
returns-in-Ok-open_in_ram-clause-holds g c =
    let ts = tokens_of (g.A.TextAnalyzer.words c.args.analyzer.now) (map (call_of c.args.schema) c.args.calls.items) in
    let files = c.in_memory-files.result in
    let new = c.write_index-files.result.0 in
    let wrote : WroteIndex c.args.schema c.args.num_docs files new ts = subst (λ (r : Result (Unit {0}) Fault). OnOk r (WroteIndex c.args.schema c.args.num_docs files new ts)) c.in-Ok.is c.write_index-files.ensures.wrote in
    let ram = in_ram c.args.schema c.args.num_docs files new ts c.in_memory-files.ensures wrote in
    let same = sym c.in_ok-copy.ensures.same in
    let hold = subst (λ (es : List SchemaEntry). HoldTokens (option_of es) wrote.terms.terms wrote.terms.postings wrote.terms.positions ts) same wrote.terms.hold in
    let norms = subst (λ (es : List SchemaEntry). HoldNorms es c.args.num_docs wrote.norms.fieldnorms ts) same wrote.norms.hold in
    let gives = c.open_in_ram.ensures.holds wrote.terms.terms wrote.terms.postings wrote.terms.positions wrote.norms.fieldnorms c.args.num_docs ts ram.0 ram.1 ram.2 ram.3 hold norms in
    let all = subst (λ (es : List SchemaEntry). GivesAll es c.args.num_docs ts c.open_in_ram.result) c.in_ok-copy.ensures.same gives in
    rw c.trusted.ensures (index_holds c.args.schema c.args.num_docs ts c.in-Ok-open_in_ram.index (subst (λ (r : Result OpenIndexState Fault). GivesAll c.args.schema c.args.num_docs ts r) c.in-Ok-open_in_ram.is all))

pub returns-in-Ok-clause-fault : goal.returns-in-Ok-clause-fault
returns-in-Ok-clause-fault g c none =
    let ts = tokens_of (g.A.TextAnalyzer.words c.args.analyzer.now) (map (call_of c.args.schema) c.args.calls.items) in
    let files = c.in_memory-files.result in
    let new = c.write_index-files.result.0 in
    let wrote : WroteIndex c.args.schema c.args.num_docs files new ts = subst (λ (r : Result (Unit {0}) Fault). OnOk r (WroteIndex c.args.schema c.args.num_docs files new ts)) c.in-Ok.is c.write_index-files.ensures.wrote in
    let ram = in_ram c.args.schema c.args.num_docs files new ts c.in_memory-files.ensures wrote in
    let same = sym c.in_ok-copy.ensures.same in
    let hold = subst (λ (es : List SchemaEntry). HoldTokens (option_of es) wrote.terms.terms wrote.terms.postings wrote.terms.positions ts) same wrote.terms.hold in
    let norms = subst (λ (es : List SchemaEntry). HoldNorms es c.args.num_docs wrote.norms.fieldnorms ts) same wrote.norms.hold in
    let gives = c.open_in_ram.ensures.holds wrote.terms.terms wrote.terms.postings wrote.terms.positions wrote.norms.fieldnorms c.args.num_docs ts ram.0 ram.1 ram.2 ram.3 hold norms in
    readers_fault c.in_ok-copy.copy ts (IsRamFault c.args.schema c.args.num_docs ts) (Err c.in-Err-open_in_ram.fault) (subst (λ (r : Result OpenIndexState Fault). GivesReaders c.in_ok-copy.copy ts r) c.in-Err-open_in_ram.is gives.0)

pub returns-clause-fault : goal.returns-clause-fault
returns-clause-fault g c none =
    let ts = tokens_of (g.A.TextAnalyzer.words c.args.analyzer.now) (map (call_of c.args.schema) c.args.calls.items) in
    let files = c.in_memory-files.result in
    rw c.in_memory.ensures
    (fault_in_ram c.args.schema c.args.num_docs files ts c.in-Err.fault c.in_memory-files.ensures
    (subst (λ (r : Result (Unit {0}) Fault). IfErr r (IsIndexFault c.args.schema c.args.num_docs files ts)) c.in-Err.is (c.write_index-files.ensures.fault none)))

pub returns-in-Ok-open_in_ram-clause-many : goal.returns-in-Ok-open_in_ram-clause-many
returns-in-Ok-open_in_ram-clause-many g c = rw c.trusted.ensures (length-map c.in-Ok-open_in_ram.index.readers trusted_reader ∙ c.in-Ok-open_in_ram.ensures.many ∙ ap length c.in_ok-copy.ensures.same)

pub returns-in-Ok-open_in_ram-clause-trusted : goal.returns-in-Ok-open_in_ram-clause-trusted
returns-in-Ok-open_in_ram-clause-trusted g c = rw c.trusted.ensures (all_trusted c.in-Ok-open_in_ram.index.readers)

pub returns-in-Ok-open_in_ram-clause-bounds : goal.returns-in-Ok-open_in_ram-clause-bounds
returns-in-Ok-open_in_ram-clause-bounds g c =
    let ts = tokens_of (g.A.TextAnalyzer.words c.args.analyzer.now) (map (call_of c.args.schema) c.args.calls.items) in
    let files = c.in_memory-files.result in
    let new = c.write_index-files.result.0 in
    let wrote : WroteIndex c.args.schema c.args.num_docs files new ts = subst (λ (r : Result (Unit {0}) Fault). OnOk r (WroteIndex c.args.schema c.args.num_docs files new ts)) c.in-Ok.is c.write_index-files.ensures.wrote in
    let ram = in_ram c.args.schema c.args.num_docs files new ts c.in_memory-files.ensures wrote in
    let opened = subst (OpensFiles (index_of_files wrote.terms.terms wrote.terms.postings wrote.terms.positions wrote.norms.fieldnorms c.in_ok-copy.copy)) c.in-Ok-open_in_ram.is (c.open_in_ram.ensures.opened wrote.terms.terms wrote.terms.postings wrote.terms.positions wrote.norms.fieldnorms ram.0 ram.1 ram.2 ram.3) in
    let bounds = subst (λ (es : List SchemaEntry). HaveTrueBounds (option_of es) wrote.terms.terms wrote.terms.postings wrote.norms.fieldnorms) (sym c.in_ok-copy.ensures.same) wrote.bounds in
    rw c.trusted.ensures (trusted_bounds c.in-Ok-open_in_ram.index (opens_true_bounds c.in_ok-copy.copy wrote.terms.terms wrote.terms.postings wrote.terms.positions wrote.norms.fieldnorms c.in-Ok-open_in_ram.index bounds opened))
