use Rattle.std.proofs.Common.{◌≡◌, ◌∙◌, ◌++◌, List, ap, inr, map, subst, ℕ}
use Rattle.std.specs.Prelude.{Vec}
use Rattle.std.specs.declared.alloc.Global.{Global}
use Rattle.std.proofs.lemmas.List.{map-append}
use Rattle.ii_segment_store.specs.Changes.{IsFlaggedList, index_without}
use Rattle.ii_segment_store.specs.Contents.{list_contents}
use Rattle.ii_segment_store.proofs.CommitLaws.{holds_none, leaves_index}
use Rattle.ii_segment_store.proofs.PendingLaws.{pending_time}
use Rattle.ii_index.proofs.committing.commit_list.Goals as goal

abbrev items : Vec ℕ Global → List ℕ
items v = v.items

-- all documents that are deleted
both : (slice all deleted pending : List (Vec ℕ Global)) → slice ≡ all → all ≡ deleted ++ pending → map items slice ≡ map items deleted ++ map items pending
both slice all deleted pending same are = ap (map items) (same ∙ are) ∙ map-append items deleted pending

pub returns-in-Err-clause-leaves_one : goal.returns-in-Err-clause-leaves_one
returns-in-Err-clause-leaves_one g c = λ known follows.
    let d = g.D.Directory in
    let old = c.args.directory.now in
    leaves_index d.moment d.left_since d.seen old (λ f left. g.met.D.Directory.only_now old f known left) old _ (holds_none d.moment d.left_since d.seen old _)

pub returns-in-Ok-commit-clause-leaves_one : goal.returns-in-Ok-commit-clause-leaves_one
returns-in-Ok-commit-clause-leaves_one g c = λ known follows.
    let d = g.D.Directory in
    let old = c.args.directory.now in
    let mid = c.delete.new.directory in
    let new = c.commit.new.directory in
    let docs = both c.as_slice.result.now c.append.new.self.items c.args.deleted.items c.args.pending.items c.as_slice.ensures.value c.in-Ok.ensures.items in
    let wanted = index_without (map items c.args.deleted.items ++ map items c.args.pending.items) (list_contents c.args.list (d.seen old)) in
    let listed = list_contents c.in-Ok-delete.list (d.seen mid) in
    let is : listed ≡ wanted = c.in-Ok-delete.ensures.holds known ∙ ap (λ (ds : List (List ℕ)). index_without ds (list_contents c.args.list (d.seen old))) docs in
    let time = pending_time d.moment d.left_since d.seen old mid new wanted listed (c.in-Ok-delete.ensures.same known follows) is (c.delete.ensures.leaves_same known follows).time (c.commit.ensures.leaves_one (c.in-Ok-delete.ensures.known known)).time in
    leaves_index d.moment d.left_since d.seen old (λ f left. g.met.D.Directory.only_now old f known left) new wanted time

pub returns-clause-leaves_one : goal.returns-clause-leaves_one
returns-clause-leaves_one g c = λ known follows.
    let d = g.D.Directory in
    let old = c.args.directory.now in
    let mid = c.delete.new.directory in
    let new = c.commit.new.directory in
    let docs = both c.as_slice.result.now c.append.new.self.items c.args.deleted.items c.args.pending.items c.as_slice.ensures.value c.in-Ok.ensures.items in
    let wanted = index_without (map items c.args.deleted.items ++ map items c.args.pending.items) (list_contents c.args.list (d.seen old)) in
    let listed = list_contents c.in-Ok-delete.list (d.seen mid) in
    let is : listed ≡ wanted = c.in-Ok-delete.ensures.holds known ∙ ap (λ (ds : List (List ℕ)). index_without ds (list_contents c.args.list (d.seen old))) docs in
    let time = pending_time d.moment d.left_since d.seen old mid new wanted listed (c.in-Ok-delete.ensures.same known follows) is (c.delete.ensures.leaves_same known follows).time (c.commit.ensures.leaves_one (c.in-Ok-delete.ensures.known known)).time in
    leaves_index d.moment d.left_since d.seen old (λ f left. g.met.D.Directory.only_now old f known left) new wanted time

pub returns-clause-fault : goal.returns-clause-fault
returns-clause-fault g c = λ known.
    let old = g.D.Directory.seen c.args.directory.now in
    let docs = both c.as_slice.result.now c.append.new.self.items c.args.deleted.items c.args.pending.items c.as_slice.ensures.value c.in-Ok.ensures.items in
    inr (c.in-Ok-delete.list, subst (λ (ds : List (List ℕ)). IsFlaggedList ds c.args.list c.in-Ok-delete.list old) docs (c.in-Ok-delete.ensures.flagged known), c.in-Err-commit.ensures.fault)
