use Rattle.std.proofs.Common.{◌∙◌, map, refl, sym}
use Rattle.std.proofs.lemmas.List.{append-nil}
use Rattle.ii_termdict.specs.Dictionary.{dictionary}
use Rattle.ii_termdict_slice.proofs.ReadingLemmas.{reads_ok}
use Rattle.ii_warmup.specs.LookedUp.{key_items}
use Rattle.ii_warmup.specs.QueryTerms.{range_view, requests_of, term_view}
use Rattle.ii_warmup.specs.Warmup.{wanted_entries, wanted_view}
use Rattle.ii_warmup.proofs.FieldPartLemmas.{requested_of_term}
use Rattle.ii_warmup.proofs.LookedUpLemmas.{covers, entries_ascend, if_ok, looked_up, no_keys, still_looked_up, still_sorted}
use Rattle.ii_warmup.proofs.looked_up_terms.look_up_terms.Goals as goal

pub loop-key-init : goal.loop-key-init
loop-key-init g c =
    let requested = requests_of c.args.terms.now c.args.ranges.now c.args.field in
    let has = c.in-Ok.ensures.has in
    record {
      same = c.in-Ok-open.ensures.file ∙ c.in-Ok-new_cache.ensures.same;
      sorted = rw c.new-wanted.ensures.items c.in-Ok.ensures.sorted;
      looked_up = λ bs entries known is.
          rw c.new-wanted.ensures.items
          (looked_up requested entries (key_items c.in-Ok.keys.keys) (entries_ascend bs entries is) c.in-Ok.ensures.sorted
          (covers requested entries (key_items c.in-Ok.keys.keys) (λ key some. has key (requested_of_term (map term_view c.args.terms.now) (map range_view c.args.ranges.now) c.args.field c.requires key some))));
    }

pub loop-key-preserved : goal.loop-key-preserved
loop-key-preserved g c =
    let requested = requests_of c.args.terms.now c.args.ranges.now c.args.field in
    let l = c.loop-key in
    let found = c.in-Ok-look_up.found in
    let key = c.in-Some.key.items in
    let rest = key_items c.pop_first.new.self.keys in
    record {
      same = c.look_up.ensures.file ∙ l.invariant.same;
      sorted = rw c.in-Ok-push_found.ensures.pushed (still_sorted l.wanted.items found key rest c.in-Ok-look_up.ensures.key (rw c.in-Some.ensures.removal at l.invariant.sorted));
      looked_up = λ bs entries known is.
          let read = c.in-Ok-look_up.ensures.reads.exact bs (rw l.invariant.same known) (rw is refl) in
          rw c.in-Ok-push_found.ensures.pushed (still_looked_up requested entries l.wanted.items found key rest (wanted_entries requested entries) (rw is at read) (rw c.in-Some.ensures.removal at (l.invariant.looked_up bs entries known is)));
    }

pub returns-clause-reads : goal.returns-clause-reads
returns-clause-reads g c =
    let l = c.loop-key in
    let none = no_keys l.keys.keys c.in_default.ensures.variant.1 in
    reads_ok (λ bs known there. if_ok (dictionary bs) (λ entries is. sym (append-nil (map wanted_view l.wanted.items)) ∙ (rw none at (l.invariant.looked_up bs entries known is))))
