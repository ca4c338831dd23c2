use Rattle.std.proofs.Common.{◌≡◌, [], ◌∷◌, length, refl}
use Rattle.ii_promises.proofs.NearTokens.{near_fields, near_matches, near_positions, next_word}
use Rattle.ii_promises.proofs.SearchingLaws.{matches_as, memory_of_search}
use Rattle.ii_promises.proofs.searching.phrases_find_what_is_near.Goals as goal

pub search-found-requires : goal.search-found-requires
search-found-requires c =
    let others : c.push.new.self.items ≡ next_word c.args.second ∷ [] = rw (c.in_ok-push.ensures.items, c.new-others.ensures.items) refl in
    record { fields = near_fields c.args.first c.args.second c.push.new.self c.args.slop others (length c.args.index.now.readers) c.requires.first c.requires.second }

pub returns-clause-found : goal.returns-clause-found
returns-clause-found c = λ schema num_docs tokens holds keep texts.
    let others : c.push.new.self.items ≡ next_word c.args.second ∷ [] = rw (c.in_ok-push.ensures.items, c.new-others.ensures.items) refl in
    let fields = near_fields c.args.first c.args.second c.push.new.self c.args.slop others (length schema) keep.first_field keep.second_field in
    let positions = near_positions c.args.first c.args.second c.push.new.self c.args.slop others schema keep in
    matches_as _ tokens c.search-found.result _ (c.search-found.ensures.holds schema num_docs tokens holds fields positions) (near_matches c.args.first c.args.second c.push.new.self c.args.slop others tokens texts)

pub returns-clause-memory : goal.returns-clause-memory
returns-clause-memory c = λ schema num_docs tokens holds keep.
    let others : c.push.new.self.items ≡ next_word c.args.second ∷ [] = rw (c.in_ok-push.ensures.items, c.new-others.ensures.items) refl in
    memory_of_search _ tokens c.search-found.result (c.search-found.ensures.holds schema num_docs tokens holds (near_fields c.args.first c.args.second c.push.new.self c.args.slop others (length schema) keep.first_field keep.second_field) (near_positions c.args.first c.args.second c.push.new.self c.args.slop others schema keep))
