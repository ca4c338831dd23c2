use Rattle.std.proofs.Common.{◌∙◌, ◌∷◌, ◌++◌, [], ℕ, List, ap, append_assoc, flat_map, map, sym, string_bytes, take}
use Rattle.std.specs.List.{join_with_byte}
use Rattle.std.proofs.lemmas.List.{take_all}
use Rattle.ii_ranking.specs.declared.shares.Share.{Share}
use Rattle.ii_ranking.specs.Shares.{ShareState, share_of}
use Rattle.nequllpa_searching.specs.ShareTexts.{share_object}
use Rattle.nequllpa_searching.proofs.ShareTextLemmas.{joined, texts_more}
use Rattle.nequllpa_searching.proofs.share_rows.push_objects.Goals as goal

pub loop-share-preserved : goal.loop-share-preserved
loop-share-preserved c =
    let l = c.loop-share in
    let f = λ (s : ShareState). 44 ∷ share_object c.args.schema.now s in
    let here = share_object c.args.schema.now (share_of c.share-item.result) in
    let others = c.in-Some.others.now in
    let begun = string_bytes c.push_object.new.text in
    c.in_ok-push_object-2.ensures.text ∙ ap (λ (text : List ℕ). text ++ here) c.in_ok-push_str.ensures.bytes ∙ append_assoc (string_bytes l.text) (44 ∷ []) here
    ∙ ap (λ (text : List ℕ). text ++ 44 ∷ here) l.invariant ∙ append_assoc begun (flat_map f (map share_of (take l.share-index others))) (44 ∷ here)
    ∙ ap (λ (text : List ℕ). begun ++ text) (sym (texts_more f others l.share-index c.share-item.result c.loop-share-test.true c.share-item.is))

pub returns-clause-text : goal.returns-clause-text
returns-clause-text c =
    let l = c.loop-share in
    let f = λ (s : ShareState). 44 ∷ share_object c.args.schema.now s in
    let first = c.in-Some.first.now in
    let others = c.in-Some.others.now in
    let old = string_bytes c.args.text.now in
    let here = share_object c.args.schema.now (share_of first) in
    let all = ap (λ (row : List Share). flat_map f (map share_of row)) (take_all l.share-index others c.loop-share-test.false) in
    l.invariant ∙ ap (λ (text : List ℕ). string_bytes c.push_object.new.text ++ text) all ∙ ap (λ (text : List ℕ). text ++ flat_map f (map share_of others)) c.in_ok-push_object.ensures.text
    ∙ append_assoc old here (flat_map f (map share_of others)) ∙ ap (λ (text : List ℕ). old ++ text) (sym (joined (share_object c.args.schema.now) (share_of first) (map share_of others)))
    ∙ ap (λ (row : List Share). old ++ join_with_byte 44 (map (share_object c.args.schema.now) (map share_of row))) (sym c.in-Some.ensures.cases.0)
