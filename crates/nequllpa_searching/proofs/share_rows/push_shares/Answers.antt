use Rattle.std.proofs.Common.{◌≡◌, ◌∙◌, append_assoc, sym, true}
use Rattle.nequllpa_opening.specs.RowFormats.{is_json}
use Rattle.nequllpa_searching.proofs.share_rows.push_shares.Goals as goal

pub returns-then-is_json-clause-text : goal.returns-then-is_json-clause-text
returns-then-is_json-clause-text c =
    let json : is_json c.args.format ≡ true = sym c.is_json.ensures ∙ c.if-is_json.true in
    rw (json, c.in_ok-push_str-2.ensures.bytes, c.in_ok-push_objects.ensures.text, c.in_ok-push_str.ensures.bytes) (simp append_assoc)
