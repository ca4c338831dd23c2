use Rattle.std.proofs.Common.{◌≡◌, ℕ, ◌+◌, ◌-◌, ◌≤◌, List, ◌++◌, append_assoc, length, length-append, length-drop, take, length-take, drop, arith}
use Rattle.std.proofs.lemmas.List.{take_at}
use Rattle.ii_layout.proofs.positions.copy_into.Goals as goal

-- values copied after those already there
copied_behind : (output values front copied back : List ℕ) (done start n : ℕ) → front ≡ take done output → copied ≡ take n (drop start values) → done ≤ length output → n ≤ length values - start → take (done + n) (front ++ (copied ++ back)) ≡ take done output ++ take n (drop start values)
copied_behind output values front copied back done start n before new inside within =
    let len : length (take done output ++ take n (drop start values)) ≡ done + n = simp (length-append, length-take, length-drop) (omega (arith, inside, within)) in
    rw (before, new, ← append_assoc (take done output) (take n (drop start values)) back) (take_at (take done output ++ take n (drop start values)) back (done + n) len)

pub returns-clause-copied : goal.returns-clause-copied
returns-clause-copied c =
    let size : c.args.start + c.min-count.result - c.args.start ≡ c.min-count.result = omega arith in
    copied_behind c.args.output.now c.args.values.now _ _ c.split_at_mut-front.result.1.now c.args.done c.args.start c.min-count.result c.split_at_mut-rest.ensures.front (rw size at c.copy_from_slice.ensures.after) c.requires.done (omega arith)
