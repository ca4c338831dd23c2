use Rattle.std.proofs.Common.{◌≡◌, ◌∙◌, ℕ, ◌+◌, ◌-◌, List, ◌++◌, length, take, drop, ap, sym, arith}
use Rattle.std.specs.Prelude.{replicate}
use Rattle.std.proofs.Math.Seq.{drop-append_seam}
use Rattle.ii_docset.specs.Cursor.{positions_at}
use Rattle.ii_docset.proofs.OffsetLemmas.{IsReadOn, read_on, raised_on}
use Rattle.ii_docset.proofs.postings.Postings.append_positions_with_offset.Goals as goal

pub returns-in_err-resize-clause-work : goal.returns-in_err-resize-clause-work
returns-in_err-resize-clause-work g c =
    g.met.Self.Postings.spent_more _ _ _ _ _ _ (omega arith) (omega arith) (g.met.Self.Postings.spent_moving _ _ (g.met.Self.DocSet.went_nowhere _))

pub add_offset-requires : goal.add_offset-requires
add_offset-requires g c =
    let old = c.args.output.now.items in
    let positions = positions_at (g.Self.DocSet.rest c.args.self.now) in
    let start = c.len-start.result in
    let most = c.term_freq-most.result in
    let slice = c.as_mut_slice.ensures.value in
    let start_is : start ≡ length old = c.len-start.ensures ∙ c.args.output.now.ok.0 in
    let read : IsReadOn old c.resize.new.self.items c.split_at_mut-added.result.0.now c.split_at_mut-added.result.1.now c.read_positions-count.new.output positions start most c.resize.new.self.len c.read_positions-count.result = record {
      start_is = start_is;
      size_is = c.in_ok-resize.ensures.len;
      items_are = c.in_ok-resize.ensures.items ∙ ap (λ (n : ℕ). take (start + most) old ++ replicate (start + most - n) 0) (sym c.len-start.ensures);
      front_is = c.split_at_mut-added.ensures.front ∙ ap (λ (l : List ℕ). take start l) slice;
      back_is = c.split_at_mut-added.ensures.back ∙ ap (λ (l : List ℕ). drop start l) slice;
      read_is = c.read_positions-count.ensures.read;
      count_is = c.read_positions-count.ensures.count;
      few = c.term_freq-most.ensures.positions;
    } in
    let joined = c.as_mut_slice-2.ensures.value ∙ c.truncate.ensures.items ∙ read_on old _ _ _ _ positions _ start most _ _ read in
    let added : c.split_at_mut-added-2.result.1.now ≡ positions = c.split_at_mut-added-2.ensures.back ∙ ap (λ (l : List ℕ). drop start l) joined ∙ ap (λ (n : ℕ). drop n (old ++ positions)) start_is ∙ drop-append_seam old positions in
    rw added c.requires.fits

pub returns-clause-ok : goal.returns-clause-ok
returns-clause-ok g c =
    let old = c.args.output.now.items in
    let positions = positions_at (g.Self.DocSet.rest c.args.self.now) in
    let start = c.len-start.result in
    let most = c.term_freq-most.result in
    let slice = c.as_mut_slice.ensures.value in
    let start_is : start ≡ length old = c.len-start.ensures ∙ c.args.output.now.ok.0 in
    let read : IsReadOn old c.resize.new.self.items c.split_at_mut-added.result.0.now c.split_at_mut-added.result.1.now c.read_positions-count.new.output positions start most c.resize.new.self.len c.read_positions-count.result = record {
      start_is = start_is;
      size_is = c.in_ok-resize.ensures.len;
      items_are = c.in_ok-resize.ensures.items ∙ ap (λ (n : ℕ). take (start + most) old ++ replicate (start + most - n) 0) (sym c.len-start.ensures);
      front_is = c.split_at_mut-added.ensures.front ∙ ap (λ (l : List ℕ). take start l) slice;
      back_is = c.split_at_mut-added.ensures.back ∙ ap (λ (l : List ℕ). drop start l) slice;
      read_is = c.read_positions-count.ensures.read;
      count_is = c.read_positions-count.ensures.count;
      few = c.term_freq-most.ensures.positions;
    } in
    let joined = c.truncate.ensures.items ∙ read_on old _ _ _ _ positions _ start most _ _ read in
    let slice_now = c.as_mut_slice-2.ensures.value in
    raised_on old c.truncate.new.self.items _ _ _ positions _ start c.truncate.new.self.len c.args.offset start_is joined c.truncate.new.self.ok.0
    (c.split_at_mut-added-2.ensures.front ∙ ap (λ (l : List ℕ). take start l) slice_now)
    (c.split_at_mut-added-2.ensures.back ∙ ap (λ (l : List ℕ). drop start l) slice_now)
    c.add_offset.ensures
