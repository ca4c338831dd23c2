use Rattle.std.proofs.Common.{◌≤◌, ◌/◌, ◌*◌, drop, refl, sym, ◌∙◌, arith}
use Rattle.std.proofs.lemmas.List.{length-drop, take_rest}
use Rattle.ii_layout.specs.SkipList.{entry_size}
use Rattle.ii_layout.proofs.SplitLemmas.{ReadsLen, skip_cut, skip_found, skip_short, skip_wide}
use Rattle.ii_layout.proofs.split.split_into_skips_and_postings.Goals as goal

pub returns-then-not-counts_are_narrow : goal.returns-then-not-counts_are_narrow
returns-then-not-counts_are_narrow c =
    let rest = drop c.in-Some.entries c.args.postings.now in
    let reads : ReadsLen c.args.record_option (c.args.doc_freq / 128) c.args.postings.now rest c.in-Some.len c.skip_info_of-skip_info.result =
    record { some = omega arith; read = c.in-Some.ensures.value; whole = omega (arith, length-drop c.in-Some.entries c.args.postings.now); info = c.skip_info_of-skip_info.ensures }
    in
    let wide = rw take_rest at c.counts_are_narrow.ensures in
    skip_wide c.args.record_option (c.args.doc_freq / 128) c.args.postings.now rest c.in-Some.len c.skip_info_of-skip_info.result reads (rw (← c.entry_size.ensures, ← c.from.ensures) c.if-len-entry_size.false) (sym wide ∙ c.if-not-counts_are_narrow.true)

pub returns : goal.returns
returns c =
    let rest = drop c.in-Some.entries c.args.postings.now in
    let inside = c.in-Some.ensures.within in
    let reads : ReadsLen c.args.record_option (c.args.doc_freq / 128) c.args.postings.now rest c.in-Some.len c.skip_info_of-skip_info.result =
    record { some = omega arith; read = c.in-Some.ensures.value; whole = omega (arith, length-drop c.in-Some.entries c.args.postings.now); info = c.skip_info_of-skip_info.ensures }
    in
    let narrow = rw take_rest at c.counts_are_narrow.ensures in
    let enough : entry_size c.skip_info_of-skip_info.result * (c.args.doc_freq / 128) ≤ c.in-Some.len = rw (← c.entry_size.ensures, ← c.from.ensures) c.if-len-entry_size.false in
    record {
      skip = skip_found c.args.record_option (c.args.doc_freq / 128) c.args.postings.now rest c.in-Some.entries c.in-Some.len c.skip_info_of-skip_info.result reads refl enough (sym narrow ∙ c.if-not-counts_are_narrow.false);
      room = omega arith;
      within = omega arith;
    }

pub returns-then-len-entry_size : goal.returns-then-len-entry_size
returns-then-len-entry_size c =
    let rest = drop c.in-Some.entries c.args.postings.now in
    let reads : ReadsLen c.args.record_option (c.args.doc_freq / 128) c.args.postings.now rest c.in-Some.len c.skip_info_of-skip_info.result =
    record { some = omega arith; read = c.in-Some.ensures.value; whole = omega (arith, length-drop c.in-Some.entries c.args.postings.now); info = c.skip_info_of-skip_info.ensures }
    in
    skip_short c.args.record_option (c.args.doc_freq / 128) c.args.postings.now rest c.in-Some.len c.skip_info_of-skip_info.result reads (rw (← c.entry_size.ensures, ← c.from.ensures) c.if-len-entry_size.true)

pub returns-then-len-postings : goal.returns-then-len-postings
returns-then-len-postings c =
    let rest = drop c.in-Some.entries c.args.postings.now in
    skip_cut c.args.record_option (c.args.doc_freq / 128) c.args.postings.now rest c.in-Some.len (omega arith) c.in-Some.ensures.value (omega (arith, length-drop c.in-Some.entries c.args.postings.now))
