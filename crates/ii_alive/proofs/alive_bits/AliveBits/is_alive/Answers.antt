use Rattle.std.proofs.Common.{◌≡◌, ℕ, ◌/◌, ◌%◌, ◌^◌, ◌<◌, false, Bool, List, get_or, length, nat_eq, arith, refl, ap, sym, ◌∙◌}
use Rattle.std.proofs.lemmas.List.{get_or_read_under}
use Rattle.std.proofs.lemmas.Nat.Bits.{shr_and_one}
use Rattle.ii_alive.proofs.StateLemmas.{flag_of_doc, length_of_view, word_of_doc}
use Rattle.ii_alive.proofs.alive_bits.AliveBits.is_alive.Goals as goal

pub index-requires : goal.index-requires
index-requires c =
    let s = c.self.inside in
    let docs : length c.args.self.now ≡ s.num_docs = ap length (sym c.self.view_is) ∙ length_of_view s.num_docs s.words.items c.self.invariant.flags in
    omega (arith, s.words.ok.0, word_of_doc s.num_docs s.words.items c.self.invariant.flags c.args.doc (omega (arith, docs, c.requires)))

pub returns : goal.returns
returns c =
    let s = c.self.inside in
    let words = s.words.items in
    let doc = c.args.doc in
    let docs : length c.args.self.now ≡ s.num_docs = ap length (sym c.self.view_is) ∙ length_of_view s.num_docs words c.self.invariant.flags in
    let within : doc < s.num_docs = omega (arith, docs, c.requires) in
    let word : c.index.result.now ≡ get_or words (doc / 64) 0 = get_or_read_under words (doc / 64) (length words) c.index.result.now 0 c.index.ensures (word_of_doc s.num_docs words c.self.invariant.flags doc within) refl in
    ap (λ (m : ℕ). nat_eq m 1) (shr_and_one c.index.result.now (doc % 64))
    ∙ ap (λ (m : ℕ). nat_eq (m / 2 ^ (doc % 64) % 2) 1) word
    ∙ sym (flag_of_doc s.num_docs words c.self.invariant.flags doc within)
    ∙ ap (λ (v : List Bool). get_or v doc false) c.self.view_is
