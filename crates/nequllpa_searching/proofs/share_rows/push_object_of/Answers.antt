use Rattle.std.proofs.Common.{codes, decimal, string_bytes}
use Rattle.ii_explanation.specs.ScoreTexts.{score_text, weight_text}
use Rattle.ii_ranking.specs.Shares.{share_of}
use Rattle.nequllpa_searching.specs.ShareTexts.{count_members}
use Rattle.nequllpa_searching.proofs.ShareTextLemmas.{ten_appended}
use Rattle.nequllpa_searching.proofs.share_rows.push_object_of.Goals as goal

pub returns : goal.returns
returns c =
    let s = share_of c.args.share.now in
    ten_appended (string_bytes c.args.text.now) (string_bytes c.push_str.new.self) (string_bytes c.push_str-2.new.self) (string_bytes c.push_str-3.new.self) (string_bytes c.push_weight.new.text) (string_bytes c.push_count_members.new.text) (string_bytes c.push_str-4.new.self)
    (string_bytes c.push_score.new.text) (string_bytes c.push_str-5.new.self) (string_bytes c.write.new.self) (string_bytes c.push_str-6.new.self) (codes "{\"query\":") c.args.query.now (codes ",\"weight\":") (weight_text s.weight) (count_members s) (codes ",\"share\":")
    (score_text s.score) (codes ",\"units\":") (decimal s.score) (codes "}") c.in_ok-push_str.ensures.bytes c.in_ok-push_str-2.ensures.bytes c.in_ok-push_str-3.ensures.bytes c.in_ok-push_weight.ensures c.in_ok-push_count_members.ensures c.in_ok-push_str-4.ensures.bytes
    c.in_ok-push_score.ensures c.in_ok-push_str-5.ensures.bytes c.in_ok-write.ensures.bytes c.in_ok-push_str-6.ensures.bytes
