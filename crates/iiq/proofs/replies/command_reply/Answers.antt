use Rattle.std.proofs.Common.{rules, ◌≡◌}
use Rattle.iiq.specs.Commands.{command_of, ids_command, open_command}
use Rattle.iiq.proofs.ReplyLemmas.{alone_ok}
use Rattle.iiq.proofs.replies.command_reply.Goals as goal

pub returns-then-eq-5 : goal.returns-then-eq-5
returns-then-eq-5 c = λ s knows.
    let same : ids_command c.left-words.result ≡ command_of c.args.commands c.args.line.now = search rules in
    alone_ok c.ids_reply.result s _ _ c.args.session.now knows same c.ids_reply.ensures

pub returns-then-eq-6 : goal.returns-then-eq-6
returns-then-eq-6 c = λ s knows.
    let same : open_command c.left-words.result ≡ command_of c.args.commands c.args.line.now = search rules in
    alone_ok c.open_reply.result s _ _ c.args.session.now knows same c.open_reply.ensures
