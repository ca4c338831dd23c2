use Rattle.std.proofs.Common.{◌-◌, ◌^◌, ◌++◌, ◌∷◌, ◌*◌, ◌%◌, [], ap, ◌∙◌, ℕ, List}
use Rattle.ii_alive.proofs.ReadLemmas.{full_where_even, full_with_rest}
use Rattle.ii_alive.proofs.alive_bits.full_words.Goals as goal

pub returns-then-used-eq0-clause-words : goal.returns-then-used-eq0-clause-words
returns-then-used-eq0-clause-words c =
    (full_where_even c.args.num_docs c.in_ok-words.words.items c.if-used-eq0.true (c.in_ok-words.ensures.items_if_clones_equal (λ y same. same))).are

pub returns-then-used-eq0-clause-alive : goal.returns-then-used-eq0-clause-alive
returns-then-used-eq0-clause-alive c =
    (full_where_even c.args.num_docs c.in_ok-words.words.items c.if-used-eq0.true (c.in_ok-words.ensures.items_if_clones_equal (λ y same. same))).alive

pub returns-clause-words : goal.returns-clause-words
returns-clause-words c =
    let last = 1 * 2 ^ (c.args.num_docs % 64) % 2 ^ 64 - 1 in
    (full_with_rest c.args.num_docs c.push.new.self.items c.if-used-eq0.false
    (c.in_ok-push.ensures.items ∙ ap (λ (l : List ℕ). l ++ last ∷ []) (c.in_ok-words.ensures.items_if_clones_equal (λ y same. same)))).are

pub returns-clause-alive : goal.returns-clause-alive
returns-clause-alive c =
    let last = 1 * 2 ^ (c.args.num_docs % 64) % 2 ^ 64 - 1 in
    (full_with_rest c.args.num_docs c.push.new.self.items c.if-used-eq0.false
    (c.in_ok-push.ensures.items ∙ ap (λ (l : List ℕ). l ++ last ∷ []) (c.in_ok-words.ensures.items_if_clones_equal (λ y same. same)))).alive
