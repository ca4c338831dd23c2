use Rattle.std.proofs.Common.{◌≡◌, [], map, rules, subst}
use Rattle.std.proofs.lemmas.Result.{on_ok_weaker}
use Rattle.ii_store.specs.Index.{view}
use Rattle.ii_definitions.specs.IndexCalls.{call_of}
use Rattle.ii_definitions.specs.Tokens.{tokens_of}
use Rattle.ii_damage.specs.Damages.{IndexFiles, index_files}
use Rattle.ii_damage.specs.Totals.{HasTotals, opened_readers}
use Rattle.ii_damage.proofs.CallsFit.{calls_fit}
use Rattle.ii_damage.proofs.SoundIndex.{finds_nothing}
use Rattle.ii_damage.proofs.checking.find_damages.Goals as goal

pub returns-clause-sound : goal.returns-clause-sound
returns-clause-sound c = finds_nothing c.args.schema.now (index_files (view c.args.stored)) c.in_ok-files.files c.damages_of-found.result (search rules) c.damages_of-found.ensures.found

pub returns-clause-written : goal.returns-clause-written
returns-clause-written c = λ words calls may hold norms.
    finds_nothing c.args.schema.now (index_files (view c.args.stored)) c.in_ok-files.files c.damages_of-found.result (search rules) c.damages_of-found.ensures.found
    (tokens_of words (map (call_of c.args.schema.now) calls)) hold norms (calls_fit c.args.schema.now c.args.stored.num_docs words calls may)

pub returns-clause-totals : goal.returns-clause-totals
returns-clause-totals c =
    let same : c.in_ok-files.files ≡ index_files (view c.args.stored) = search rules in
    on_ok_weaker c.damages_of-found.result (λ adds h. subst (λ (f : IndexFiles). HasTotals (opened_readers c.args.schema.now f) c.damages_of-found.new.totals) same (adds [] h)) c.damages_of-found.ensures.totals
