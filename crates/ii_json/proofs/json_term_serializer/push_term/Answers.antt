use Rattle.std.proofs.Common.{◌++◌, ◌∷◌, [], append_assoc, refl}
use Rattle.std.proofs.lemmas.List.{take_at}
use Rattle.std.proofs.lemmas.Result.{err_from_is_err_and}
use Rattle.ii_json.specs.JsonTerms.{written_path}
use Rattle.ii_json.proofs.json_term_serializer.push_term.Goals as goal

pub returns-clause-ok : goal.returns-clause-ok
returns-clause-ok c = rw (c.in_ok-extend_from_slice.ensures.items, c.in_ok-push.ensures.items, c.in_ok-push_path.ensures.ok, c.to_code.ensures) (simp append_assoc)

pub returns-in_err-push-clause-err : goal.returns-in_err-push-clause-err
returns-in_err-push-clause-err c =
    let p = err_from_is_err_and c.from_residual-in_err-push.result c.from_residual-in_err-push.ensures.1 in
    rw (p.1, c.in_err-push.ensures.items, c.in_ok-push_path.ensures.ok) (take_at c.args.bytes.now.items (written_path c.args.path.now) _ refl)

pub returns-in_err-extend_from_slice-clause-err : goal.returns-in_err-extend_from_slice-clause-err
returns-in_err-extend_from_slice-clause-err c =
    let p = err_from_is_err_and c.from_residual-in_err-extend_from_slice.result c.from_residual-in_err-extend_from_slice.ensures.1 in
    rw (p.1, c.in_err-extend_from_slice.ensures.items, c.in_ok-push.ensures.items, c.in_ok-push_path.ensures.ok, append_assoc c.args.bytes.now.items (written_path c.args.path.now) (c.to_code.result ∷ [])) (take_at c.args.bytes.now.items (written_path c.args.path.now ++ c.to_code.result ∷ []) _ refl)
