use Rattle.std.proofs.Common.{List, ℕ, ap, ◌∙◌}
use Rattle.sha2.specs.Sha256.{sha256}
use Rattle.ii_store.specs.declared.file_digest.FileDigest.TheVariants as digests
use Rattle.ii_block_file.proofs.TableLaws.{own_meta}
use Rattle.ii_block_file.proofs.block_table.BlockTable.file_meta.Goals as goal

pub returns-clause-file : goal.returns-clause-file
returns-clause-file c = λ bytes own.
    (λ i. record { component = c.args.component; len = c.len.ensures i; digest = digests.Blocks ((c.digest.ensures ∙ ap (λ (table : List ℕ). sha256 table) c.as_bytes.ensures) i) }) ∙ own_meta c.args.component bytes c.args.self.now own
