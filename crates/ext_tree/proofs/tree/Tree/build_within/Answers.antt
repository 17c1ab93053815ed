use Rattle.std.proofs.Common.{ap, Err, inl, inr}
use Rattle.std.proofs.lemmas.Result.{err_from_is_err_and}
use Rattle.ext_tree.proofs.TreeFacts.{tree_by_parents, tree_within, first_fault, has_no_fault, one_fault, memory_or_not}
use Rattle.ext_tree.proofs.tree.Tree.build_within.Goals as goal

pub returns-in_err-check_root-clause-only : goal.returns-in_err-check_root-clause-only
returns-in_err-check_root-clause-only c = λ tree. absurd (has_no_fault c.args.most c.args.ids.now _ tree c.in_err-check_root.ensures.err)

pub returns-in_err-check_root-clause-first : goal.returns-in_err-check_root-clause-first
returns-in_err-check_root-clause-first c = λ e h.
    let p = err_from_is_err_and c.from_residual.result c.from_residual.ensures.1 in
    rw (p.1, p.2) (ap Err (one_fault c.args.most c.args.ids.now c.in_err-check_root.field-0.0 e c.in_err-check_root.ensures.err h))

pub of-requires-clause-tree : goal.of-requires-clause-tree
of-requires-clause-tree c = tree_by_parents c.args.ids.now c.in-Ok.parents.items c.in_ok-check_root.ensures.ok.0 c.in-Ok.ensures

pub returns-in_err-of-in-Ok-clause-first : goal.returns-in_err-of-in-Ok-clause-first
returns-in_err-of-in-Ok-clause-first c = λ e h. absurd (has_no_fault c.args.most c.args.ids.now e (tree_within c.args.most c.args.ids.now c.in-Ok.parents.items c.in_ok-check_root.ensures.ok.0 c.in_ok-check_root.ensures.ok.1 c.in-Ok.ensures) h)

pub returns-in_err-of-in-Ok-clause-memory : goal.returns-in_err-of-in-Ok-clause-memory
returns-in_err-of-in-Ok-clause-memory c = λ _. tree_within c.args.most c.args.ids.now c.in-Ok.parents.items c.in_ok-check_root.ensures.ok.0 c.in_ok-check_root.ensures.ok.1 c.in-Ok.ensures

pub returns-in_ok-of-in-Ok-clause-found : goal.returns-in_ok-of-in-Ok-clause-found
returns-in_ok-of-in-Ok-clause-found c = tree_within c.args.most c.args.ids.now c.in-Ok.parents.items c.in_ok-check_root.ensures.ok.0 c.in_ok-check_root.ensures.ok.1 c.in-Ok.ensures

pub returns-in_ok-of-in-Ok-clause-first : goal.returns-in_ok-of-in-Ok-clause-first
returns-in_ok-of-in-Ok-clause-first c = λ e h. absurd (has_no_fault c.args.most c.args.ids.now e (tree_within c.args.most c.args.ids.now c.in-Ok.parents.items c.in_ok-check_root.ensures.ok.0 c.in_ok-check_root.ensures.ok.1 c.in-Ok.ensures) h)

pub returns-in-Err-clause-only : goal.returns-in-Err-clause-only
returns-in-Err-clause-only c = λ tree. elim (memory_or_not c.refusal.result) [
  | inl memory ↦ memory
  | inr other ↦ absurd (has_no_fault c.args.most c.args.ids.now c.refusal.result tree (first_fault c.args.most c.args.ids.now c.refusal.result c.in_ok-check_root.ensures.ok.0 c.in_ok-check_root.ensures.ok.1 (c.refusal.ensures.fault other)))
]

pub returns-in-Err-clause-fault : goal.returns-in-Err-clause-fault
returns-in-Err-clause-fault c = λ other. first_fault c.args.most c.args.ids.now c.refusal.result c.in_ok-check_root.ensures.ok.0 c.in_ok-check_root.ensures.ok.1 (c.refusal.ensures.fault other)

pub returns-in-Err-clause-first : goal.returns-in-Err-clause-first
returns-in-Err-clause-first c = λ e h. elim (memory_or_not c.refusal.result) [
  | inl memory ↦ absurd (has_no_fault c.args.most c.args.ids.now e (record { tree = c.refusal.ensures.memory memory; few = c.in_ok-check_root.ensures.ok.1 }) h)
  | inr other ↦ ap Err (one_fault c.args.most c.args.ids.now c.refusal.result e (first_fault c.args.most c.args.ids.now c.refusal.result c.in_ok-check_root.ensures.ok.0 c.in_ok-check_root.ensures.ok.1 (c.refusal.ensures.fault other)) h)
]
