use Rattle.std.proofs.Common.{◌≡◌, Result, Ok, length, false, true, sym, ap, ◌∙◌}
use Rattle.ii_store.specs.Segments.{ListedFile}
use Rattle.ii_store.specs.declared.faults.IndexFault.{IndexFault}
use Rattle.ii_block_file.specs.BlockTable.{BlockTableState, block_table_of, is_digest_of}
use Rattle.ii_block_file.proofs.ListedLaws.{not_longer, right_table, wrong_checksum}
use Rattle.ii_block_file.proofs.listed_file.read_table.Goals as goal

abbrev read_one : BlockTableState → Result BlockTableState IndexFault
read_one table = Ok table

pub returns-then-not-is_digest_of-clause-answers : goal.returns-then-not-is_digest_of-clause-answers
returns-then-not-is_digest_of-clause-answers g c = λ bytes known.
    let file = c.args.file.now in
    let same : length bytes ≡ file.len = not_longer file.len bytes c.read_exact_at.result (sym c.if-is_ok.ensures.value) (c.in-Ok.ensures.within bytes known) (c.read_exact_at.ensures.read bytes known) in
    let other : is_digest_of file.digest (block_table_of bytes).bytes ≡ false =
    ap (λ (t : BlockTableState). is_digest_of file.digest t.bytes) (sym (c.in-Ok.ensures.exact bytes known same)) ∙ ap (is_digest_of file.digest) (sym c.as_bytes.ensures) ∙ sym c.if-not-is_digest_of.ensures in
    wrong_checksum (record { id = c.args.id; file = file }) bytes c.requires.kind same other

pub returns-clause-answers : goal.returns-clause-answers
returns-clause-answers g c = λ bytes known.
    let file = c.args.file.now in
    let l : ListedFile = record { id = c.args.id; file = file } in
    let same : length bytes ≡ file.len = not_longer file.len bytes c.read_exact_at.result (sym c.if-is_ok.ensures.value) (c.in-Ok.ensures.within bytes known) (c.read_exact_at.ensures.read bytes known) in
    let table : c.in-Ok.table ≡ block_table_of bytes = c.in-Ok.ensures.exact bytes known same in
    let is : is_digest_of file.digest (block_table_of bytes).bytes ≡ true =
    ap (λ (t : BlockTableState). is_digest_of file.digest t.bytes) (sym table) ∙ ap (is_digest_of file.digest) (sym c.as_bytes.ensures) ∙ sym c.if-not-is_digest_of.ensures in
    right_table l bytes c.requires.kind same is ∙ ap read_one (sym table)
