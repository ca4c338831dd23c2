use Rattle.std.proofs.Common.{◌≡◌, ℕ, Bool, List, false, get_or, set, take, length, nat_eq, arith, ap, sym, subst, ◌∙◌}
use Rattle.ii_alive.specs.AliveBits.{word_bits}
use Rattle.ii_alive.proofs.StateLemmas.{bit_le_word, counts_as_written, counts_positive, dead_as_read, doc_within, flag_of_doc, killed_as_read, killed_counts, killed_words, living_as_read, one_less_all, unchanged_view, view_of_killed, word_of_doc}
use Rattle.ii_alive.proofs.alive_bits.AliveBits.kill.Goals as goal

pub index-word-requires : goal.index-word-requires
index-word-requires c =
    let s = c.self.inside in
    let within = doc_within s.num_docs s.words.items c.self.invariant.flags c.args.self.now c.args.doc c.self.view_is c.requires in
    omega (arith, s.words.ok.0, word_of_doc s.num_docs s.words.items c.self.invariant.flags c.args.doc within)

pub returns-then-word-doc-eq0-clause-killed : goal.returns-then-word-doc-eq0-clause-killed
returns-then-word-doc-eq0-clause-killed c =
    let s = c.self.inside in
    let within = doc_within s.num_docs s.words.items c.self.invariant.flags c.args.self.now c.args.doc c.self.view_is c.requires in
    let dead = dead_as_read s.num_docs s.words.items c.self.invariant.flags c.args.doc within c.index-word.result.now c.index-word.ensures c.if-word-doc-eq0.true in
    subst (λ (v : List Bool). v ≡ set v c.args.doc false) c.self.view_is (unchanged_view s.num_docs s.words.items c.self.invariant.flags c.args.doc within dead)

pub returns-then-word-doc-eq0-clause-was : goal.returns-then-word-doc-eq0-clause-was
returns-then-word-doc-eq0-clause-was c =
    let s = c.self.inside in
    let within = doc_within s.num_docs s.words.items c.self.invariant.flags c.args.self.now c.args.doc c.self.view_is c.requires in
    let dead = dead_as_read s.num_docs s.words.items c.self.invariant.flags c.args.doc within c.index-word.result.now c.index-word.ensures c.if-word-doc-eq0.true in
    sym (ap (λ (v : List Bool). get_or v c.args.doc false) (sym c.self.view_is)
    ∙ flag_of_doc s.num_docs s.words.items c.self.invariant.flags c.args.doc within
    ∙ ap (λ (m : ℕ). nat_eq m 1) dead)

pub overflow_sub-word : goal.overflow_sub-word
overflow_sub-word c =
    let s = c.self.inside in
    let within = doc_within s.num_docs s.words.items c.self.invariant.flags c.args.self.now c.args.doc c.self.view_is c.requires in
    bit_le_word s.num_docs s.words.items c.self.invariant.flags c.args.doc within c.index-word.result.now c.index-word.ensures c.if-word-doc-eq0.false

pub index_mut-requires : goal.index_mut-requires
index_mut-requires c =
    let s = c.self.inside in
    let within = doc_within s.num_docs s.words.items c.self.invariant.flags c.args.self.now c.args.doc c.self.view_is c.requires in
    omega (arith, s.words.ok.0, word_of_doc s.num_docs s.words.items c.self.invariant.flags c.args.doc within)

pub lower_from-requires : goal.lower_from-requires
lower_from-requires c =
    let s = c.self.inside in
    let within = doc_within s.num_docs s.words.items c.self.invariant.flags c.args.self.now c.args.doc c.self.view_is c.requires in
    let living = living_as_read s.num_docs s.words.items c.self.invariant.flags c.args.doc within c.index-word.result.now c.index-word.ensures c.if-word-doc-eq0.false in
    rw c.deref_mut.ensures.value (counts_positive s.num_docs s.words.items c.self.invariant.flags c.args.doc within living s.living_before.items c.self.invariant.blocks)

pub overflow_sub-self : goal.overflow_sub-self
overflow_sub-self c =
    let s = c.self.inside in
    let within = doc_within s.num_docs s.words.items c.self.invariant.flags c.args.self.now c.args.doc c.self.view_is c.requires in
    let living = living_as_read s.num_docs s.words.items c.self.invariant.flags c.args.doc within c.index-word.result.now c.index-word.ensures c.if-word-doc-eq0.false in
    omega (arith, c.self.invariant.total, one_less_all s.num_docs s.words.items c.self.invariant.flags c.args.doc within living)

pub invariant_of-self : goal.invariant_of-self
invariant_of-self c =
    let s = c.self.inside in
    let n = s.num_docs in
    let words = s.words.items in
    let are = c.self.invariant.flags in
    let doc = c.args.doc in
    let x = c.index-word.result.now in
    let counts = s.living_before.items in
    let lowered = c.lower_from.new.counts in
    let within = doc_within n words are c.args.self.now doc c.self.view_is c.requires in
    let living = living_as_read n words are doc within x c.index-word.ensures c.if-word-doc-eq0.false in
    let read = killed_as_read n words are doc within x c.index-word.ensures in
    let told = rw c.deref_mut.ensures.value at c.lower_from.ensures in
    let size : length lowered ≡ length counts = c.lower_from.auto.counts ∙ ap length c.deref_mut.ensures.value in
    let written = counts_as_written s.living_before.len lowered counts size s.living_before.ok.0 in
    let less = one_less_all n words are doc within living in
    let all = c.self.invariant.total in
    rw (read, written) (record {
      flags = killed_words n words are doc within living;
      blocks = killed_counts n words are doc within living counts lowered c.self.invariant.blocks size told.before told.lowered;
      total = omega (arith, all, less);
    })

pub returns-clause-killed : goal.returns-clause-killed
returns-clause-killed c =
    let s = c.self.inside in
    let within = doc_within s.num_docs s.words.items c.self.invariant.flags c.args.self.now c.args.doc c.self.view_is c.requires in
    let living = living_as_read s.num_docs s.words.items c.self.invariant.flags c.args.doc within c.index-word.result.now c.index-word.ensures c.if-word-doc-eq0.false in
    let read = killed_as_read s.num_docs s.words.items c.self.invariant.flags c.args.doc within c.index-word.result.now c.index-word.ensures in
    ap (λ (l : List ℕ). take s.num_docs (word_bits l)) read
    ∙ view_of_killed s.num_docs s.words.items c.self.invariant.flags c.args.doc within living
    ∙ ap (λ (v : List Bool). set v c.args.doc false) c.self.view_is

pub returns-clause-was : goal.returns-clause-was
returns-clause-was c =
    let s = c.self.inside in
    let within = doc_within s.num_docs s.words.items c.self.invariant.flags c.args.self.now c.args.doc c.self.view_is c.requires in
    let living = living_as_read s.num_docs s.words.items c.self.invariant.flags c.args.doc within c.index-word.result.now c.index-word.ensures c.if-word-doc-eq0.false in
    sym (ap (λ (v : List Bool). get_or v c.args.doc false) (sym c.self.view_is)
    ∙ flag_of_doc s.num_docs s.words.items c.self.invariant.flags c.args.doc within
    ∙ ap (λ (m : ℕ). nat_eq m 1) living)
