-- The children that run beside one another are run between what is done before them and what is done after them.
use Rattle.std.proofs.Common.{ℕ, ◌+◌, ◌-◌, ◌/◌, ◌%◌, min, List, [], ◌∷◌, length, sym, subst}
use Rattle.std.specs.Prelude.{All, slice_index_or}
use base.Growing.{prefix_trans}
use Rattle.std.proofs.lemmas.List.Elements.{All-nil, All-cons, All-head, All-tail, All-take, All-drop}
use Rattle.ext_history.specs.Histories.{seen_by}
use Rattle.ext_crew.specs.declared.jobs.done.Done.{Done}
use Rattle.ext_model.specs.History.{History}
use Rattle.ext_store.specs.Stores.{StoreLane}
use Rattle.ext_crew.proofs.Runs.{run-weaker}
use Rattle.ext_crew.specs.Dealing.{Share, front, back, InTurn, RunByDealing, WorkedFrom}
use Rattle.ext_engine.specs.Meeting.{HasSeen, HasSeenWithin, first_seen}
use Rattle.ext_engine.specs.Order.{AllGoOn, IsWithin}
use Rattle.ext_engine.specs.TreeRun.{BodyRun, Lanes, Ran, TreeSetting, concurrent_children, with_lanes}

-- ---- dealings

-- what holds of a share as a job begins, and of one as it ends
module _ {A B O : Type 0} (runs : ℕ → Share A B → O → Share A B → Type 0) (K L : Share A B → Type 0)
    (goes : (job : ℕ) (s : Share A B) (o : O) (u : Share A B) → runs job s o u → K s → K u)
    (comes : (job : ℕ) (s : Share A B) (o : O) (u : Share A B) → runs job s o u → L u → L s) where
  abbrev Inside : ℕ → Share A B → O → Share A B → Type 0
  Inside job s o u = runs job s o u × K s × L u

  turn-back : (done : List (Done O)) (s t : Share A B) → L t → InTurn runs done s t → L s
  turn-back [] s t l e = subst L (sym e) l
  turn-back (d ∷ done) s t l run = comes d.job s d.outcome run.0 run.1 (turn-back done run.0 t l run.2)

  turn-inside : (done : List (Done O)) (s t : Share A B) → K s → L t → InTurn runs done s t → InTurn Inside done s t
  turn-inside [] s t k l e = e
  turn-inside (d ∷ done) s t k l run = (run.0, (run.1, k, turn-back done run.0 t l run.2), turn-inside done run.0 t (goes d.job s d.outcome run.0 run.1 k) l run.2)

  module _ (parts : (n : ℕ) (s : Share A B) → K s → K (front n s) × K (back n s)) (parts' : (n : ℕ) (s : Share A B) → L s → L (front n s) × L (back n s)) where
    worked-inside : (size longer : ℕ) (done : List (List (Done O))) (s t : Share A B) → K s → L t → WorkedFrom runs size longer done s t → WorkedFrom Inside size longer done s t
    worked-inside size longer [] s t k l e = e
    worked-inside size longer (list ∷ done) s t k l run =
        let m = size + min 1 longer in
        let a = parts m s k in
        let b = parts' m t l in
        (turn-inside list (front m s) (front m t) a.0 b.0 run.0, worked-inside size (longer - 1) done (back m s) (back m t) a.1 b.1 run.1)

    pub run-inside : (jobs workers : ℕ) (s t : Share A B) (outcomes : List O) → K s → L t → RunByDealing runs jobs workers s outcomes t → RunByDealing Inside jobs workers s outcomes t
    run-inside jobs workers s t outcomes k l run = record {
      done = run.done;
      dealt = run.dealt;
      worked = worked-inside (length s.first / workers) (length s.first % workers) run.done s t k l run.worked;
      outcome_count = run.outcome_count;
      in_order = run.in_order;
    }

-- ---- lanes that go on

module _ {V : Type 0} (h : History) where
  pub go_on : (before after : List (StoreLane V)) → AllGoOn before after → All (HasSeen h) before → All (HasSeen h) after
  go_on [] [] went all = All-nil (HasSeen h)
  go_on [] (b ∷ after) went all = absurd went
  go_on (a ∷ before) [] went all = absurd went
  go_on (a ∷ before) (b ∷ after) went all =
      All-cons (HasSeen h) b after (prefix_trans h (seen_by a.cells.view) (seen_by b.cells.view) (All-head (HasSeen h) a before all) went.0.seen)
      (go_on before after went.1 (All-tail (HasSeen h) a before all))

  pub came_from : (before after : List (StoreLane V)) → AllGoOn before after → All (HasSeenWithin h) after → All (HasSeenWithin h) before
  came_from [] [] went all = All-nil (HasSeenWithin h)
  came_from [] (b ∷ after) went all = absurd went
  came_from (a ∷ before) [] went all = absurd went
  came_from (a ∷ before) (b ∷ after) went all =
      All-cons (HasSeenWithin h) a before (prefix_trans (seen_by a.cells.view) (seen_by b.cells.view) h went.0.seen (All-head (HasSeenWithin h) b after all))
      (came_from before after went.1 (All-tail (HasSeenWithin h) b after all))

-- ---- children

-- Where runs of children let lanes go on, each run of a child that runs beside others begins behind what the first lane had seen before the body, and ends before what that
-- lane has seen when the other children begin
pub children_within : {V A : Type 0} (t : TreeSetting V A)
    → (Child : ℕ → Lanes V → List Ran → Lanes V → Type 0) → ((child : ℕ) (s : Lanes V) (below : List Ran) (u : Lanes V) → Child child s below u → AllGoOn s.first u.first)
    → (node : ℕ) (before : Lanes V) (below : List Ran) (after : Lanes V) (body : BodyRun t Child node before below after)
    → RunByDealing (λ i s ran u. Child (slice_index_or (concurrent_children t node) i 0) s ran u × IsWithin (first_seen before.first) (first_seen body.joined) s u)
    (length (concurrent_children t node)) (min (length body.forked) (length (concurrent_children t node))) (with_lanes body.forked before) body.beside body.between
children_within {V} t Child at node before below after body =
    let cs = concurrent_children t node in
    let since = first_seen before.first in
    let until = first_seen body.joined in
    let runs : ℕ → Lanes V → List Ran → Lanes V → Type 0 = λ i s ran u. Child (slice_index_or cs i 0) s ran u in
    let K : Lanes V → Type 0 = λ s. All (HasSeen since) s.first in
    let L : Lanes V → Type 0 = λ s. All (HasSeenWithin until) s.first in
    let inside = run-inside runs K L
    (λ job s o u r k. go_on since s.first u.first (at (slice_index_or cs job 0) s o u r) k)
    (λ job s o u r l. came_from until s.first u.first (at (slice_index_or cs job 0) s o u r) l)
    (λ n s k. (All-take (HasSeen since) n s.first k, All-drop (HasSeen since) n s.first k))
    (λ n s l. (All-take (HasSeenWithin until) n s.first l, All-drop (HasSeenWithin until) n s.first l))
    (length cs) (min (length body.forked) (length cs)) (with_lanes body.forked before) body.between body.beside body.forks.shown body.joins.shown body.dealt in
    run-weaker _ _ inside (λ job s o u r. (r.0, record { begins = r.1; ends = r.2 }))
