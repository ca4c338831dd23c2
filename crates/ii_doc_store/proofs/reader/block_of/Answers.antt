use Rattle.std.proofs.Common.{[], arith, rules}
use Rattle.std.specs.Prelude.{nat_le}
use Rattle.std.proofs.lemmas.List.Sorted.{IsPartitionPoint-from_clause, IsPartitionedBy-leb}
use Rattle.ii_doc_store.specs.declared.checkpoint.Checkpoint.{Checkpoint}
use Rattle.ii_doc_store.proofs.IndexLaws.{place_at, some_end}
use Rattle.ii_doc_store.proofs.reader.block_of.Goals as goal

pub bounds-checkpoints-number : goal.bounds-checkpoints-number
bounds-checkpoints-number c =
    let cs = c.args.checkpoints.now in
    let n = c.partition_point-number.result in
    let doc = c.args.doc in
    let parted = IsPartitionPoint-from_clause (λ (e : Checkpoint). nat_le e.doc_end doc) cs n c.partition_point-number.ensures.partitioned
    (IsPartitionedBy-leb (λ (e : Checkpoint). e.doc_end) cs doc c.requires.order) (λ a r f k. search rules) in
    some_end doc n cs c.partition_point-number.ensures.bound c.requires.found (λ k d below. parted.0 k d (omega arith) below)

pub returns : goal.returns
returns c =
    let cs = c.args.checkpoints.now in
    let n = c.partition_point-number.result in
    let doc = c.args.doc in
    let parted = IsPartitionPoint-from_clause (λ (e : Checkpoint). nat_le e.doc_end doc) cs n c.partition_point-number.ensures.partitioned
    (IsPartitionedBy-leb (λ (e : Checkpoint). e.doc_end) cs doc c.requires.order) (λ a r f k. search rules) in
    let inside = some_end doc n cs c.partition_point-number.ensures.bound c.requires.found (λ k d below. parted.0 k d (omega arith) below) in
    let d : Checkpoint = record { doc_end = 0; byte_end = 0; digest = [] } in
    rw c.ends_before-first_doc.ensures (place_at n cs doc d inside (λ k below. parted.0 k d (omega arith) below) (parted.1 n d (omega arith) inside))
