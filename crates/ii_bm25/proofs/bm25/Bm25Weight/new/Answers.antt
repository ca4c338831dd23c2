use Rattle.std.proofs.Common.{◌≡◌, ◌++◌, ◌∷◌, [], sym, ap, ◌∙◌, subst, List, ℕ, arith}
use Rattle.std.proofs.lemmas.List.FromFn.{map-range_with_len_more}
use Rattle.ii_fieldnorm.specs.Norms.{norm_of_id}
use Rattle.ii_bm25.specs.Bm25.{weight}
use Rattle.ii_bm25.specs.Lengths.{AreLengths, length_part, lengths_from}
use Rattle.ii_bm25.proofs.LengthLemmas.{are_lengths}
use Rattle.ii_bm25.proofs.bm25.Bm25Weight.new.Goals as goal

pub loop-id-preserved : goal.loop-id-preserved
loop-id-preserved c =
    let tokens = c.args.total_num_tokens in
    let docs = c.args.total_num_docs in
    let norm : c.id_to_fieldnorm.result ≡ norm_of_id c.loop-id.id = c.id_to_fieldnorm.ensures ∙ ap norm_of_id (omega (arith, c.loop-id-test.true)) in
    c.in_ok-push.ensures.items
    ∙ ap (λ (items : List ℕ). items ++ c.length_part.result ∷ []) c.loop-id.invariant
    ∙ ap (λ (part : ℕ). lengths_from c.loop-id.id tokens docs ++ part ∷ []) (c.length_part.ensures ∙ ap (λ (n : ℕ). length_part n tokens docs) norm)
    ∙ sym (map-range_with_len_more (λ (id : ℕ). length_part (norm_of_id id) tokens docs) 0 c.loop-id.id c.loop-id.id (omega arith))

pub invariant_of-result : goal.invariant_of-result
invariant_of-result c =
    let whole : c.loop-id.id ≡ 256 = omega (arith, c.loop-id-test.false, c.loop-id.auto.id-end) in
    subst AreLengths (sym (c.loop-id.invariant ∙ ap (λ (n : ℕ). lengths_from n c.args.total_num_tokens c.args.total_num_docs) whole)) (are_lengths c.args.total_num_tokens c.args.total_num_docs)

pub returns-clause-made : goal.returns-clause-made
returns-clause-made c =
    let whole : c.loop-id.id ≡ 256 = omega (arith, c.loop-id-test.false, c.loop-id.auto.id-end) in
    let lengths = c.loop-id.invariant ∙ ap (λ (n : ℕ). lengths_from n c.args.total_num_tokens c.args.total_num_docs) whole in
    ap (λ (w : ℕ). record { weight = w; lengths = c.loop-id.lengths.items }) c.weight_of.ensures
    ∙ ap (λ (ls : List ℕ). record { weight = weight c.args.idfs; lengths = ls }) lengths
