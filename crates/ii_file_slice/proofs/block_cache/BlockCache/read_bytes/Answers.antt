use Rattle.std.proofs.Common.{◌≡◌, ◌+◌, ◌-◌, ℕ, IfOk, arith, drop, subst, take}
use Rattle.ii_file_slice.proofs.block_cache.BlockCache.read_bytes.Goals as goal

pub returns-clause-exact : goal.returns-clause-exact
returns-clause-exact g c = λ bytes known.
    let start = c.block_around-block.result.start in
    let there : start + (c.args.from - start) ≡ c.args.from = omega (arith, c.block_around-block.ensures.start) in
    subst (λ (k : ℕ). IfOk c.read_in_block.result (λ read. read ≡ take c.args.len (drop k bytes))) there (c.read_in_block.ensures.exact bytes known)
