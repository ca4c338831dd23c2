use Rattle.std.proofs.Common.{◌∙◌, ap, sym, subst, length, map, Bool, List, ℕ, arith}
use Rattle.std.specs.List.{AllByRecursion, range_with_len}
use Rattle.std.proofs.lemmas.Result.{IfOk-weaker}
use Rattle.ii_postings_writer.specs.ResolvedTerms.{json_fields, resolved_terms}
use Rattle.ii_postings_writer.specs.SortedTerms.{IsTermBelow, terms_in}
use Rattle.ii_postings_writer.proofs.ResolvedParts.{fields_below, sorted_by}
use Rattle.ii_postings_writer.proofs.postings_writer.field_terms.Goals as goal

pub by_field-requires : goal.by_field-requires
by_field-requires c =
    let flags = json_fields c.args.schema.now in
    let paths = c.args.ctx.now.path_to_unordered_id in
    let old = c.args.ctx.now.term_index in
    let new = c.in_ok-sorted.sorted in
    let unlike = c.unordered_id_to_ordered_id.ensures.distinct in
    let few = c.unordered_id_to_ordered_id.ensures.few in
    let may = c.requires.terms.1 in
    let moved = c.in_ok-sorted.ensures.moved in
    let sorted = sorted_by flags paths old new c.deref.result.now c.deref-2.result.now unlike may.clean (c.deref.ensures.value ∙ c.in_ok-flags.ensures.ok) (c.deref-2.ensures.value ∙ c.in_ok-ranks.ensures.ranks) may.ids c.in_ok-sorted.ensures.sorted in
    record { known = subst (λ (n : ℕ). AllByRecursion (IsTermBelow n) new) (sym c.num_fields.ensures.value) (fields_below flags paths unlike may.clean few old new moved sorted (length c.args.schema.now) c.requires.terms.0 may.may) }

pub returns-clause-ok : goal.returns-clause-ok
returns-clause-ok c =
    let flags = json_fields c.args.schema.now in
    let paths = c.args.ctx.now.path_to_unordered_id in
    let old = c.args.ctx.now.term_index in
    let new = c.in_ok-sorted.sorted in
    let unlike = c.unordered_id_to_ordered_id.ensures.distinct in
    let may = c.requires.terms.1 in
    let in_order = sorted_by flags paths old new c.deref.result.now c.deref-2.result.now unlike may.clean (c.deref.ensures.value ∙ c.in_ok-flags.ensures.ok) (c.deref-2.ensures.value ∙ c.in_ok-ranks.ensures.ranks) may.ids c.in_ok-sorted.ensures.sorted in
    let many = c.num_fields.result in
    IfOk-weaker c.by_field.result _ _
    (λ fields is. record {
      sorted = new;
      distinct = unlike;
      few_paths = c.unordered_id_to_ordered_id.ensures.few;
      few_fields = omega (arith, c.num_fields.ensures.value, c.num_fields.ensures.bound);
      moved = c.in_ok-sorted.ensures.moved;
      in_order = in_order;
      are = is ∙ ap (λ (fs : List Bool). map (λ (field : ℕ). terms_in field (resolved_terms fs paths new)) (range_with_len 0 many)) (c.deref-3.ensures.value ∙ c.in_ok-flags.ensures.ok)
          ∙ ap (λ (n : ℕ). map (λ (field : ℕ). terms_in field (resolved_terms flags paths new)) (range_with_len 0 n)) c.num_fields.ensures.value;
    }) c.by_field.ensures.ok
