use Rattle.std.proofs.Common.{◌≡◌, ◌==◌, ◌<◌, ◌≤◌, ℕ, List, [], ◌∷◌, ◌++◌, cond, not, true, refl, sym, ap, subst, arith, append_assoc}
use Rattle.std.proofs.lemmas.Bool.{eq-eqb, both_ways}
use Rattle.std.proofs.lemmas.List.Sums.{sum_by-cons}
use Rattle.ext_history.specs.Histories.{others, seen_by}
use Rattle.ext_locks.specs.declared.event.LockMode.{LockMode}
use Rattle.ext_locks.specs.declared.event.LockEvent.{LockEvent}
use Rattle.ext_locks.specs.declared.refusal.LockRefusal.{LockRefusal}
use Rattle.ext_locks.specs.declared.refusal.LockRefusal.TheVariants.{Taken, Contended}
use Rattle.ext_locks.specs.History.{LockHistory, lane_of, IsLegal}
use Rattle.ext_locks.specs.Views.{Lane}
use Rattle.ext_locks.specs.Refusals.{IsRefused}
use Rattle.ext_locks.specs.LockLaws.{BeginningsAreLegal, OnlyLanesHold}
use Rattle.test_waiting.proofs.locks.alone.take_alone.Goals as goal

-- where there is one lane, no other makes an event
quiet : (lanes lane : ℕ) (first more : LockHistory) → lanes ≡ 1 → lane < lanes → IsLegal lanes (first ++ more) → others lane_of lane more ≡ 0
quiet lanes lane first [] one below legal = refl
quiet lanes lane first (e ∷ more) one below legal =
    let mine : (e.lane == lane) ≡ true = eq-eqb e.lane lane (let b = (legal.each first e more refl).lane in omega arith) in
    let here : ◌≡◌ {A = ℕ} (cond (not (e.lane == lane)) 1 0) 0 = ap (λ b. cond (not b) 1 0) mine in
    let s = sum_by-cons (λ (x : LockEvent). cond (not (x.lane == lane)) 1 0) e more in
    let rest = quiet lanes lane (first ++ e ∷ []) more one below (subst (IsLegal lanes) (sym (append_assoc first (e ∷ []) more)) legal) in
    omega (arith, here, s, rest)

never : BeginningsAreLegal → OnlyLanesHold → (tries : ℕ) (set : List (ℕ × LockMode)) (before after : Lane) (refusal : LockRefusal) → before.lanes ≡ 1 → before.view.number < before.lanes → 1 ≤ tries
    → IsLegal before.lanes (seen_by after.view) → IsRefused tries set before after refusal → ⊥
never beginnings only tries set before after (Taken lock) one below least legal why =
    let taken = why.stood in
    let apart = taken.apart in
    both_ways _ (only before.lanes why.point (beginnings before.lanes why.point (seen_by after.view) why.is_point.until legal) taken.other (omega arith) lock taken.held) taken.holds_it
never beginnings only tries set before after (Contended lock) one below least legal why =
    let crowd = why.stood.1 in
    let none = quiet before.lanes before.view.number _ crowd.0 one below (subst (IsLegal before.lanes) crowd.1 (beginnings before.lanes why.point (seen_by after.view) why.is_point.until legal)) in
    let many = crowd.2 in
    omega arith

pub returns-in-Err : goal.returns-in-Err
returns-in-Err c =
    absurd
    (never c.lock_laws.ensures.beginnings c.lock_laws.ensures.only_lanes _ _ _ _ _ c.requires.alone c.tell_proof-2.ensures.lane c.tell_proof.ensures.limits.2 (subst (λ (n : ℕ). IsLegal n (seen_by c.try_take.new.lane.view)) c.in-Err.ensures.refused_events.lanes c.tell_proof-in-Err.ensures.legal) c.in-Err.ensures.refusal)
