use Rattle.std.proofs.Common.{◌<◌, ◌^◌, ℕ, map, subst}
use Rattle.ii_definitions.specs.Tokens.{tokens_of}
use Rattle.ii_definitions.specs.IndexCalls.{call_of}
use Rattle.ii_ram.proofs.WithinLimits.{memory_within}
use Rattle.ii_promises.proofs.indexing.terms_within_limits_are_indexed.Goals as goal

pub returns : goal.returns
returns g c =
    memory_within c.args.schema (tokens_of (g.A.TextAnalyzer.words c.args.analyzer.now) (map (call_of c.args.schema) c.args.calls.items)) c.requires.within c.requires.room c.args.num_docs c.index_in_ram.result
    (subst (λ (n : ℕ). n < 2 ^ 32) c.num_fields-fields.ensures.value c.num_fields-fields.ensures.bound) c.requires.docs (c.index_in_ram.ensures.fault c.requires.taken)
