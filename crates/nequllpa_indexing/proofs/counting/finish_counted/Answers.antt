use Rattle.std.proofs.Common.{◌∙◌, [], List, Result, inl, inr, refl, subst, sym, ⊎_elim, ℕ}
use Rattle.std.specs.Prelude.{IfErr}
use Rattle.ii_io.specs.declared.faults.Fault.{Fault}
use Rattle.ii_counts.specs.CountsWriter.{HoldRows, IsRowsFault}
use Rattle.ii_definitions.specs.Tokens.{tokens_after}
use Rattle.ii_indexing.proofs.RamLaws.{fault_in_ram}
use Rattle.ii_indexing.specs.IndexFiles.{IsIndexFault}
use Rattle.nequllpa_indexing.proofs.CountLaws.{limit_is_many, many_is_limit, rows_are}
use Rattle.nequllpa_indexing.proofs.counting.finish_counted.Goals as goal

pub returns-then-has_limit-clause-fault : goal.returns-then-has_limit-clause-fault
returns-then-has_limit-clause-fault c ps stored has = inr (inr (inl (refl, limit_is_many c.args.indexer.schema (tokens_after [] ps) c.args.counts has (sym c.has_limit.ensures ∙ c.if-has_limit.true))))

pub returns-in-Err-clause-many : goal.returns-in-Err-clause-many
returns-in-Err-clause-many c ps has many = absurd (many_is_limit c.args.indexer.schema (tokens_after [] ps) c.args.counts has (sym c.has_limit.ensures ∙ c.if-has_limit.false) many)

pub returns-in-Err-clause-fault : goal.returns-in-Err-clause-fault
returns-in-Err-clause-fault c ps stored has =
    let are = rows_are c.args.indexer.schema c.args.num_docs (tokens_after [] ps) c.args.counts has (sym c.has_limit.ensures ∙ c.if-has_limit.false) in
    inr (inr (inr (subst (λ (rows : List (List ℕ)). IsRowsFault rows c.in-Err.fault) are c.in-Err.ensures.fault)))

pub returns-in-Ok-written-clause-counts : goal.returns-in-Ok-written-clause-counts
returns-in-Ok-written-clause-counts c ps has =
    let are = rows_are c.args.indexer.schema c.args.num_docs (tokens_after [] ps) c.args.counts has (sym c.has_limit.ensures ∙ c.if-has_limit.false) in
    rw c.segment_files.ensures.counts (subst (λ (rows : List (List ℕ)). HoldRows rows c.in-Ok.counts.items) are c.in-Ok.ensures.holds)

pub returns-in-Ok-written-clause-many : goal.returns-in-Ok-written-clause-many
returns-in-Ok-written-clause-many c ps has many = absurd (many_is_limit c.args.indexer.schema (tokens_after [] ps) c.args.counts has (sym c.has_limit.ensures ∙ c.if-has_limit.false) many)

pub returns-in-Err-written-clause-many : goal.returns-in-Err-written-clause-many
returns-in-Err-written-clause-many c ps has many = absurd (many_is_limit c.args.indexer.schema (tokens_after [] ps) c.args.counts has (sym c.has_limit.ensures ∙ c.if-has_limit.false) many)

pub returns-in-Err-written-clause-fault : goal.returns-in-Err-written-clause-fault
returns-in-Err-written-clause-fault c ps stored has =
    let schema = c.args.indexer.schema in
    let ts = tokens_after [] ps in
    let cause = subst (λ (r : Result (Unit {0}) Fault). IfErr r (IsIndexFault schema c.args.indexer.num_docs c.in_memory.result ts)) c.in-Err-written.is (c.finish-files.ensures.fault c.requires.running ps stored) in
    let known = subst (λ (n : ℕ). IsIndexFault schema n c.in_memory.result ts c.in-Err-written.fault) c.requires.docs cause in
    rw c.in_memory-in-Err-written.ensures (⊎_elim inl (λ ram. inr (inl ram)) (fault_in_ram schema c.args.num_docs c.in_memory.result ts c.in-Err-written.fault c.in_memory.ensures known))
