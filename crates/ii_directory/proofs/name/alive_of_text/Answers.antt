use Rattle.std.proofs.Common.{ap, sym, ◌∙◌, length, drop, take}
use Rattle.ii_directory.specs.Names.{hex_digits}
use Rattle.ii_directory.proofs.NameLaws.{alive_long}
use Rattle.ii_directory.proofs.NameParse.{alive_made, alive_parts, bytes_differ, bytes_same}
use Rattle.ii_directory.proofs.name.alive_of_text.Goals as goal

pub returns-then-text-ne23 : goal.returns-then-text-ne23
returns-then-text-ne23 c = λ generation lt e. c.if-text-ne23.true (sym (ap length e) ∙ alive_long generation)

pub returns-then-ne-2 : goal.returns-then-ne-2
returns-then-ne-2 c = λ generation lt e.
    let parts = alive_parts c.args.text.now generation e in
    bytes_differ c.split_at-2.result.1.now c.as_slice-2.result.now c.if-ne-2.ensures
    (c.split_at-2.ensures.back ∙ ap (drop 16) c.split_at.ensures.back ∙ parts.end ∙ sym c.as_slice-2.ensures)

pub returns-in_default : goal.returns-in_default
returns-in_default c = λ generation lt e.
    let parts = alive_parts c.args.text.now generation e in
    c.in_default.ensures generation
    (ap (λ k. hex_digits k generation) c.split_at-2.ensures.front_len ∙ sym parts.number ∙ ap (take 16) (sym c.split_at.ensures.back) ∙ sym c.split_at-2.ensures.front)

pub returns : goal.returns
returns c = alive_made c.args.text.now c.in-Some.generation (record {
  dot = sym c.split_at.ensures.front ∙ bytes_same c.split_at.result.0.now c.as_slice.result.now c.if-ne.ensures ∙ c.as_slice.ensures;
  number = ap (take 16) (sym c.split_at.ensures.back) ∙ sym c.split_at-2.ensures.front ∙ sym c.in-Some.ensures.digits ∙ ap (λ k. hex_digits k c.in-Some.generation) c.split_at-2.ensures.front_len;
  end = ap (drop 16) (sym c.split_at.ensures.back) ∙ sym c.split_at-2.ensures.back ∙ bytes_same c.split_at-2.result.1.now c.as_slice-2.result.now c.if-ne-2.ensures ∙ c.as_slice-2.ensures;
})
