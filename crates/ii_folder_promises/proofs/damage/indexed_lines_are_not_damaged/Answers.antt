use Rattle.std.proofs.Common.{map}
use Rattle.ii_definitions.specs.Fields.{option_of}
use Rattle.ii_definitions.specs.Files.{HoldTokens}
use Rattle.ii_definitions.specs.IndexCalls.{MayAllBeIndexed, call_of}
use Rattle.ii_definitions.specs.Norms.{HoldNorms}
use Rattle.nequllpa_indexing.specs.FieldTokens.{tokens_by}
use Rattle.ii_folder_promises.proofs.FitLaws.{calls_fit_by}
use Rattle.ii_folder_promises.proofs.damage.indexed_lines_are_not_damaged.Goals as goal

pub returns-in-Ok : goal.returns-in-Ok
returns-in-Ok g c =
    let analyze = g.F.FieldAnalyzers.words c.args.analyzers.now in
    let s = c.in-Ok.stored in
    let e = c.args.schema.now in
    let were = c.in-Ok.ensures.calls in
    let may : MayAllBeIndexed e s.num_docs were.made = rw (c.requires, c.in-Ok.ensures.says.0) were.may in
    let hold : HoldTokens (option_of e) s.terms.items s.postings.items s.positions.items (tokens_by analyze (map (call_of e) were.made)) = rw (c.requires, ← were.are) c.in-Ok.ensures.holds in
    let norms : HoldNorms e s.num_docs s.fieldnorms.items (tokens_by analyze (map (call_of e) were.made)) = rw (c.requires, c.in-Ok.ensures.says.0, ← were.are) c.in-Ok.ensures.norms in
    c.find_damages.ensures.sound (tokens_by analyze (map (call_of e) were.made)) hold norms (calls_fit_by e s.num_docs analyze were.made may)
