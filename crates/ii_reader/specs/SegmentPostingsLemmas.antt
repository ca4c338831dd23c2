-- Laws of moves of a cursor.
use Rattle.std.proofs.Common.{ℕ, ◌+◌, ◌≤◌, refl, ◌∙◌, arith}
use Rattle.ii_check.proofs.DecodedBlocksLaws.{later_none, later_on}
use Rattle.ii_reader.specs.SegmentPostings.{SegmentPostingsState, SpentLazily, WentLazily}

pub went_nowhere : (s : SegmentPostingsState) → WentLazily s s
went_nowhere s =
    record {
      doc_freq = refl;
      freq_reading = refl;
      bounds = refl;
      checked = refl;
      positions_checked = refl;
      forward = omega arith;
      doc_blocks = later_none s.block s.doc_blocks;
      freq_blocks = later_none s.block s.freq_blocks;
      doc_decodes = omega arith;
      freq_decodes = omega arith;
      position_decodes = refl;
    }

pub went_on : (a b c : SegmentPostingsState) → WentLazily a b → WentLazily b c → WentLazily a c
went_on a b c first second =
    let f = first.forward in
    let g = second.forward in
    let d = first.doc_decodes in
    let e = second.doc_decodes in
    let h = first.freq_decodes in
    let i = second.freq_decodes in
    record {
      doc_freq = second.doc_freq ∙ first.doc_freq;
      freq_reading = second.freq_reading ∙ first.freq_reading;
      bounds = second.bounds ∙ first.bounds;
      checked = second.checked ∙ first.checked;
      positions_checked = second.positions_checked ∙ first.positions_checked;
      forward = omega arith;
      doc_blocks = later_on a.block b.block c.block a.doc_blocks b.doc_blocks c.doc_blocks f g first.doc_blocks second.doc_blocks;
      freq_blocks = later_on a.block b.block c.block a.freq_blocks b.freq_blocks c.freq_blocks f g first.freq_blocks second.freq_blocks;
      doc_decodes = omega arith;
      freq_decodes = omega arith;
      position_decodes = second.position_decodes ∙ first.position_decodes;
    }

pub spent_moving : (a b : SegmentPostingsState) → WentLazily a b → SpentLazily 0 0 a b
spent_moving a b went =
    let same = went.position_decodes in
    record {
      doc_freq = went.doc_freq;
      freq_reading = went.freq_reading;
      bounds = went.bounds;
      checked = went.checked;
      positions_checked = went.positions_checked;
      forward = went.forward;
      doc_blocks = went.doc_blocks;
      freq_blocks = went.freq_blocks;
      doc_decodes = went.doc_decodes;
      freq_decodes = went.freq_decodes;
      position_decodes = omega arith;
    }

pub spent_more : (k m l n : ℕ) (a b : SegmentPostingsState) → k ≤ l → m ≤ n → SpentLazily k m a b → SpentLazily l n a b
spent_more k m l n a b few low spent =
    let least = spent.position_decodes in
    record {
      doc_freq = spent.doc_freq;
      freq_reading = spent.freq_reading;
      bounds = spent.bounds;
      checked = spent.checked;
      positions_checked = spent.positions_checked;
      forward = spent.forward;
      doc_blocks = spent.doc_blocks;
      freq_blocks = spent.freq_blocks;
      doc_decodes = spent.doc_decodes;
      freq_decodes = spent.freq_decodes;
      position_decodes = omega arith;
    }

pub spent_on : (k m l n : ℕ) (a b c : SegmentPostingsState) → SpentLazily k m a b → SpentLazily l n b c → SpentLazily (k + l) (m + n) a c
spent_on k m l n a b c first second =
    let f = first.forward in
    let g = second.forward in
    let d = first.doc_decodes in
    let e = second.doc_decodes in
    let h = first.freq_decodes in
    let i = second.freq_decodes in
    let p = first.position_decodes in
    let q = second.position_decodes in
    record {
      doc_freq = second.doc_freq ∙ first.doc_freq;
      freq_reading = second.freq_reading ∙ first.freq_reading;
      bounds = second.bounds ∙ first.bounds;
      checked = second.checked ∙ first.checked;
      positions_checked = second.positions_checked ∙ first.positions_checked;
      forward = omega arith;
      doc_blocks = later_on a.block b.block c.block a.doc_blocks b.doc_blocks c.doc_blocks f g first.doc_blocks second.doc_blocks;
      freq_blocks = later_on a.block b.block c.block a.freq_blocks b.freq_blocks c.freq_blocks f g first.freq_blocks second.freq_blocks;
      doc_decodes = omega arith;
      freq_decodes = omega arith;
      position_decodes = omega arith;
    }
