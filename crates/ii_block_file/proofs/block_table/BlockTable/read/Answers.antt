use Rattle.std.proofs.Common.{◌≡◌, ◌+◌, ◌*◌, ◌<◌, ◌≤◌, ◌++◌, List, ℕ, ap, arith, drop, length, min, subst, sym, take, ◌∙◌}
use Rattle.std.proofs.lemmas.List.{take_all}
use Rattle.ii_store.specs.FileDigest.{blocks, checksum_bytes}
use Rattle.ii_block_file.specs.BlockTable.{num_file_blocks}
use Rattle.ii_block_file.proofs.TableLaws.{all_parts, more_blocks, next_checksums, part_begins}
use Rattle.ii_block_file.proofs.block_table.BlockTable.read.Goals as goal

pub loop-place-preserved : goal.loop-place-preserved
loop-place-preserved g c =
    let len = c.args.len in
    let from = c.loop-place.place * 262144 in
    let part = c.min-part.result in
    let low : from < len = part_begins c.loop-place.place c.div_ceil-place-end.result len c.div_ceil-place-end.ensures c.loop-place-test.true in
    let here : min from len ≡ from = omega (arith, low) in
    let next : min ((c.loop-place.place + 1) * 262144) len ≡ from + part = omega (arith, low, c.min-part.ensures) in
    let so_far = c.loop-place.invariant in
    record {
      count = c.in-Ok.ensures.count ∙ ap (λ n. n + 8 * num_file_blocks part) (so_far.count ∙ ap (λ n. 8 * num_file_blocks n) here) ∙ more_blocks c.loop-place.place part ∙ ap (λ n. 8 * num_file_blocks n) (sym next);
      within = λ bytes known. subst (λ n. n ≤ length bytes) (sym next) (c.in-Ok.ensures.within bytes known);
      exact = λ bytes known.
          let sums = λ (n : ℕ). checksum_bytes (blocks 4096 (take n bytes)) in
          let more = checksum_bytes (blocks 4096 (take part (drop from bytes))) in
          c.in-Ok.ensures.exact bytes known ∙ ap (λ (old : List ℕ). old ++ more) (so_far.exact bytes known ∙ ap sums here) ∙ next_checksums bytes from part (omega arith) (c.in-Ok.ensures.within bytes known) ∙ ap sums (sym next);
    }

pub returns-clause-exact : goal.returns-clause-exact
returns-clause-exact g c = λ bytes known same.
    let len = c.args.len in
    let whole : min (c.loop-place.place * 262144) len ≡ len = all_parts c.loop-place.place c.div_ceil-place-end.result len c.div_ceil-place-end.ensures c.loop-place-test.false in
    let all : take (min (c.loop-place.place * 262144) len) bytes ≡ bytes = ap (λ n. take n bytes) whole ∙ take_all len bytes (omega (arith, same)) in
    λ i. record { len = sym same i; bytes = (c.loop-place.invariant.exact bytes known ∙ ap (λ (bs : List ℕ). checksum_bytes (blocks 4096 bs)) all) i }
