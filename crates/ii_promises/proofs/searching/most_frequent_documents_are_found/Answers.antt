use Rattle.ii_promises.proofs.TopLaws.{best_are_greatest, best_are_many, best_remained}
use Rattle.ii_promises.proofs.searching.most_frequent_documents_are_found.Goals as goal

pub returns-clause-many : goal.returns-clause-many
returns-clause-many c = best_are_many c.args.n c.args.cursor.now.rest c.in_ok-best.best.items c.in_ok-best.ensures.top

pub returns-clause-remained : goal.returns-clause-remained
returns-clause-remained c = best_remained c.args.n c.args.cursor.now.rest c.in_ok-best.best.items c.in_ok-best.ensures.top

pub returns-clause-greatest : goal.returns-clause-greatest
returns-clause-greatest c = best_are_greatest c.args.n c.args.cursor.now.rest c.in_ok-best.best.items c.in_ok-best.ensures.top
