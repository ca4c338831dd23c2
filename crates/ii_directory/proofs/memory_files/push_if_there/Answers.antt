use Rattle.std.proofs.Common.{◌≡◌, true, false, refl, ap, subst, sym, ◌∙◌, ◌++◌, ◌∷◌, []}
use Rattle.std.specs.Prelude.{IsSome}
use Rattle.std.specs.List.{list_any}
use Rattle.ii_directory.specs.Directory.{found_bytes}
use Rattle.ii_directory.specs.MemoryFiles.{Lists, files_after}
use Rattle.ii_directory.specs.Names.{same_name}
use Rattle.ii_directory.proofs.ListingLaws.{contains_named, lists_kept, lists_more}
use Rattle.ii_directory.proofs.memory_files.push_if_there.Goals as goal

pub returns-then-has_name-clause-lists : goal.returns-then-has_name-clause-lists
returns-then-has_name-clause-lists c = λ targets lists.
    let listed = ap (list_any (same_name c.args.name)) (sym c.as_slice.ensures.value) ∙ sym c.if-has_name.ensures in
    lists_kept (files_after c.args.changes.now) targets c.args.names.now.items c.args.name lists (λ some. contains_named c.args.names.now.items c.args.name listed)

pub returns-in_default-clause-lists : goal.returns-in_default-clause-lists
returns-in_default-clause-lists c = λ targets lists.
    let none = sym c.in_ok-bytes_after.ensures.found ∙ ap found_bytes c.in_default.is in
    lists_kept (files_after c.args.changes.now) targets c.args.names.now.items c.args.name lists (λ some. let wrong : false ≡ true = subst (λ o. IsSome o) none some in absurd cc)

pub returns-clause-lists : goal.returns-clause-lists
returns-clause-lists c = λ targets lists.
    let unlisted = ap (list_any (same_name c.args.name)) (sym c.as_slice.ensures.value) ∙ sym c.if-has_name.ensures in
    let some = sym (ap found_bytes c.in-Some.is) ∙ c.in_ok-bytes_after.ensures.found in
    subst (λ names. Lists (files_after c.args.changes.now) (targets ++ c.args.name ∷ []) names) (sym c.in_ok-push.ensures.items)
    (lists_more (files_after c.args.changes.now) targets c.args.names.now.items c.args.name lists (subst (λ o. IsSome o) some refl) unlisted)
