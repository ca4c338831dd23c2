use Rattle.std.proofs.Common.{◌≡◌, ◌<◌, ◌+◌, ◌-◌, ◌*◌, length, take, drop, false, ℕ, List, Some, sym, ap, ◌∙◌, arith, min, subst}
use Rattle.ii_block_file.specs.BlockTable.{file_block, lists_checksum, num_file_blocks}
use Rattle.ii_block_file.proofs.RangeLaws.{is_damaged}
use Rattle.ii_block_file.proofs.block_file.BlockFile.read_blocks.Goals as goal

pub returns-in-Some-clause-fault : goal.returns-in-Some-clause-fault
returns-in-Some-clause-fault g c =
    let t = c.args.self.now.table in
    let source = g.R.ReadAt.bytes c.args.self.now.source in
    let read = c.in-Ok.bytes.items in
    let k = c.in-Some.block in
    let value = c.as_slice.ensures.value in
    let (from, inside, other) = c.in-Some.ensures.some in
    let within : k < c.args.first + num_file_blocks (length read) = subst (λ (bs : List ℕ). k < c.args.first + num_file_blocks (length bs)) value inside in
    let damaged : lists_checksum t k (file_block (k - c.args.first) read) ≡ false = ap (λ bs. lists_checksum t k (file_block (k - c.args.first) bs)) (sym value) ∙ other in
    let long : length read ≡ min ((c.args.last - c.args.first + 1) * 4096) (t.len - c.args.first * 4096) = omega (arith, c.in-Ok.ensures.long, c.min.ensures, c.saturating_mul-most.ensures, c.len-len.ensures, c.len-len.type_inv) in
    let exact : (file : List ℕ) → source ≡ Some file → length file ≡ t.len → read ≡ take (length read) (drop (c.args.first * 4096) file) = λ file known same. c.in-Ok.ensures.exact file known same ∙ ap (λ n. take n (drop (c.args.first * 4096) file)) (sym c.in-Ok.ensures.long) in
    (omega (arith, within, long, c.requires.within), is_damaged t source c.args.first k (c.args.last - c.args.first + 1) read exact long from within damaged)
