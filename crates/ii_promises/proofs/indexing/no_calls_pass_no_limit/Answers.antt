use Rattle.std.proofs.Common.{◌<◌, ◌^◌, ℕ, subst}
use Rattle.ii_promises.proofs.IndexingLaws.{memory_of_no_calls}
use Rattle.ii_promises.proofs.indexing.no_calls_pass_no_limit.Goals as goal

pub returns-clause-memory : goal.returns-clause-memory
returns-clause-memory g c =
    memory_of_no_calls (g.A.TextAnalyzer.words c.args.analyzer.now) c.args.schema c.args.num_docs c.new.result.items c.index_in_ram.result c.new.ensures.items
    (subst (λ (n : ℕ). n < 2 ^ 32) c.num_fields-fields.ensures.value c.num_fields-fields.ensures.bound) c.requires.docs c.index_in_ram.ensures.fault
