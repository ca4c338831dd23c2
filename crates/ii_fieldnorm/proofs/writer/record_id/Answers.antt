use Rattle.std.proofs.Common.{◌≡◌, ℕ, ◌+◌, ◌-◌, ◌≤◌, List, [], ◌∷◌, ◌++◌, append_assoc, length, length-append, take, take_all, set, replicate, sym, ◌∙◌, arith, rules}
use Rattle.std.proofs.lemmas.List.{length-replicate, replicate_more, set_at}
use Rattle.std.specs.Vec.{vec_len}
use Rattle.ii_fieldnorm.proofs.writer.record_id.Goals as goal

-- bytes are grown to a place, which is then set
grown_set : (ids grown : List ℕ) (len place id : ℕ) → len ≡ length ids → len ≤ place → grown ≡ take (place + 1) ids ++ replicate (place + 1 - len) 0 → set grown place id ≡ ids ++ replicate (place - length ids) 0 ++ id ∷ []
grown_set ids grown len place id same after is =
    let n = place - length ids in
    let count : place + 1 - len ≡ n + 1 = omega (arith, same, after) in
    let more = sym (replicate_more {X = ℕ} n 0) in
    let whole : grown ≡ (ids ++ replicate n 0) ++ 0 ∷ [] = is ∙ rw (take_all (place + 1) ids (omega (arith, same, after)), count, more) (sym (append_assoc ids (replicate n 0) (0 ∷ []))) in
    let size : length (ids ++ replicate n 0) ≡ place = simp (length-append, length-replicate) (omega (arith, same, after)) in
    rw whole (set_at (ids ++ replicate n 0) 0 [] id place size)

pub returns-clause-ok : goal.returns-clause-ok
returns-clause-ok c =
    let same : vec_len c.args.ids.now ≡ length c.args.ids.now.items = search rules in
    grown_set c.args.ids.now.items c.resize.new.self.items (vec_len c.args.ids.now) c.args.place c.args.id same c.requires.after c.in_ok-resize.ensures.items
