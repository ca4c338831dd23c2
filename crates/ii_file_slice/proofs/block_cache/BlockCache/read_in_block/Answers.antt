use Rattle.std.proofs.Common.{◌≡◌, ◌<◌, ◌≤◌, ◌+◌, ◌∙◌, Some, ap, arith, get_or, length}
use Rattle.ii_file_slice.proofs.BlockLemmas.{read_of_block, read_of_kept}
use Rattle.ii_file_slice.proofs.block_cache.BlockCache.read_in_block.Goals as goal
use Rattle.ii_file_slice.proofs.block_cache.BlockCache.read_in_block.Goals.{else-kept-block-via-then-kept-block+else-len-block, else-kept-block-via-else-kept-block}

pub returns-then-len-block-clause-exact : goal.returns-then-len-block-clause-exact
returns-then-len-block-clause-exact g c = λ bytes known.
    let known_here = ap g.H.FileHandle.bytes c.self.view_is ∙ known in
    let block = c.index-kept.result.now in
    let place = c.place_of-place.result in
    let within : place < length c.self.inside.blocks.items = omega (arith, c.place_of-place.ensures) in
    let fits : c.args.skipped + c.args.len ≤ length block.bytes = omega arith in
    read_of_kept c.args.block.start c.args.skipped c.args.len bytes c.in_ok-slice.field-0 block (get_or c.self.inside.blocks.items place block) (c.self.invariant.1 bytes known_here place block within) c.index-kept.ensures c.if-kept-block.true fits c.in_ok-slice.ensures.ok

pub returns-clause-exact : goal.returns-clause-exact
returns-clause-exact g c = λ bytes known.
    let known_here = ap g.H.FileHandle.bytes c.self.view_is ∙ known in
    let still_known : g.H.FileHandle.bytes c.else-kept-block.self-inside.file.now ≡ Some bytes = elim c.else-kept-block.branch [
      | else-kept-block-via-then-kept-block+else-len-block w ↦ rw w.self-inside-is known_here
      | else-kept-block-via-else-kept-block w ↦ rw w.self-inside-is known_here
    ] in
    read_of_block c.args.block.start c.args.block.len c.args.skipped c.args.len bytes c.in-Ok.bytes c.in_ok-read.read (c.in-Ok.ensures.exact bytes still_known) c.requires c.in_ok-read.ensures.ok
