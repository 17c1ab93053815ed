-- The worked histories that are not computed alone.
use Rattle.std.proofs.Common.{◌≡◌, ℕ, ◌≤◌, Contains, [], ◌∷◌, ◌++◌, length, inl, inr, refl, ap, sym, subst, arith, None, Some, append-nil}
use Rattle.ext_model.specs.declared.event.Act.TheVariants.{Keep, Put, Remove, Claim, Fill, Fail, Abandon}
use Rattle.ext_model.specs.declared.event.Event.{Event}
use Rattle.ext_model.specs.History.{History, by, lane_of, IsAllowed}
use Rattle.ext_model.specs.Worked.{small, at_root}
use Rattle.ext_model.specs.WorkedCalls.{AnsweredNow, NotFromMemory, EitherPoint, OvertakenByOne, NotOvertakenByTwo, NotOvertakenByLagging, NotCrowdedByItself, SixAreLegal, RemoveAnswered, PutAnswered, NoAnswerWithoutStep, meanwhile, SecondLookFinds, RootIsLegal, NotByAnotherLane, NotWithAnothersNumber, NotTwice, KeptFaultIsLegal, NotWithoutKeeping, NotWithoutClaim}
use mathlib.Core.List.{append_cancel_left}
use Rattle.ext_history.specs.Histories.{others}
use Rattle.ext_history.proofs.Lists.{contains_none, contains_here, contains_cons}
use Rattle.ext_history.proofs.Legal.{legal_empty, legal_push}

pub answered_now : AnsweredNow
answered_now = (([], append-nil at_root), ([], append-nil at_root))

pub not_from_memory : NotFromMemory
not_from_memory at = let e : length (at_root ++ at.0.0) ≡ 1 = ap length at.0.1 in absurd (longer at.0.0 e)
  where
    longer : (rest : History) → length (at_root ++ rest) ≡ 1 → ⊥
    longer rest e = omega (arith, e)

pub root_is_legal : RootIsLegal
root_is_legal =
    legal_push (by 0 (Keep 1) ∷ []) (by 0 (Put 0 1))
    (legal_push [] (by 0 (Keep 1)) (legal_empty (IsAllowed small)) (record { lane = omega arith; within = tt; happens = (Some 1, refl); next = refl; drew = tt; fresh = tt; keeps = tt }))
    (record { lane = omega arith; within = omega arith; happens = (None, refl); next = tt; drew = (0, omega arith, refl); fresh = λ there. contains_none 1 there; keeps = tt })

pub not_by_another_lane : NotByAnotherLane
not_by_another_lane legal = let few = (legal.each [] (by 2 (Keep 1)) [] refl).lane in absurd (omega (arith, few))

pub not_with_anothers_number : NotWithAnothersNumber
not_with_anothers_number legal =
    let a = legal.each (by 0 (Keep 1) ∷ []) (by 1 (Put 0 1)) [] refl in
    elim (contains_cons (by 0 (Keep 1)) [] (by 1 (Keep 1)) a.drew) [
      | inl is ↦ let e : ◌≡◌ {A = ℕ} 0 1 = ap (λ (x : Event ℕ). x.lane) is in absurd (omega (arith, e))
      | inr there ↦ absurd (contains_none (by 1 (Keep 1)) there)
    ]

pub not_twice : NotTwice
not_twice legal =
    let a = legal.each at_root (by 0 (Put 1 1)) [] refl in a.fresh (contains_here 1 [])

pub kept_fault_is_legal : KeptFaultIsLegal
kept_fault_is_legal =
    legal_push (by 0 (Claim 3) ∷ by 0 (Keep 1) ∷ []) (by 0 (Fail 3 1))
    (legal_push (by 0 (Claim 3) ∷ []) (by 0 (Keep 1))
    (legal_push [] (by 0 (Claim 3)) (legal_empty (IsAllowed small)) (record { lane = omega arith; within = omega arith; happens = (None, refl); next = tt; drew = tt; fresh = tt; keeps = tt }))
    (record { lane = omega arith; within = tt; happens = (Some 1, refl); next = refl; drew = tt; fresh = tt; keeps = tt }))
    (record { lane = omega arith; within = omega arith; happens = (None, refl); next = tt; drew = (1, omega arith, refl); fresh = λ there. contains_none 1 there; keeps = refl })

pub not_without_keeping : NotWithoutKeeping
not_without_keeping legal = let a = legal.each (by 0 (Claim 3) ∷ by 0 (Keep 1) ∷ []) (by 0 (Fail 3 1)) [] refl in absurd (cc a.keeps)

pub not_without_claim : NotWithoutClaim
not_without_claim legal =
    let a = legal.each (by 0 (Keep 1) ∷ []) (by 0 (Fill 3 1)) [] refl in absurd (cc a.happens.1)

pub remove_answered : RemoveAnswered
remove_answered = record {
  calls = record { fronts = refl; follow = ((by 0 (Put 0 1) ∷ [], refl), tt); own_events = refl };
  stepped = omega arith;
  point = (at_root, answered_now, refl);
}

pub put_answered : PutAnswered
put_answered = record {
  calls = record { fronts = refl; follow = ((by 0 (Put 0 1) ∷ [], refl), tt); own_events = refl };
  stepped = omega arith;
  point = (by 0 (Keep 1) ∷ [], (([], refl), refl), refl);
}

pub no_answer_without_step : NoAnswerWithoutStep
no_answer_without_step answered = let one = answered.stepped in absurd (omega (arith, one))

pub second_look_finds : SecondLookFinds
second_look_finds = (meanwhile, record { since = (meanwhile, refl); until = (by 0 (Abandon 3) ∷ [], refl); own_events = refl }, refl)

-- ---- overtaken

pub either_point : EitherPoint
either_point = ((([], refl), (by 0 (Put 0 1) ∷ [], refl)), ((by 0 (Put 0 1) ∷ [], refl), ([], refl)))

pub overtaken_by_one : OvertakenByOne
overtaken_by_one = record {
  calls = record { fronts = refl; follow = (([], refl), ((by 0 (Put 0 1) ∷ [], refl), tt)); own_events = refl };
  passed = (by 0 (Put 0 1) ∷ [], refl, refl, omega arith);
}

pub not_overtaken_by_two : NotOvertakenByTwo
not_overtaken_by_two over = absurd (few over.passed.0 (ap length over.passed.1) over.passed.3)
  where
    few : (rest : History) → ◌≡◌ {A = ℕ} 2 (length (by 0 (Keep 1) ∷ rest)) → 2 ≤ length rest → ⊥
    few rest e many = omega (arith, e, many)

pub not_overtaken_by_lagging : NotOvertakenByLagging
not_overtaken_by_lagging over = absurd (none over.passed.0 (ap length over.passed.1) over.passed.3)
  where
    none : (rest : History) → ◌≡◌ {A = ℕ} 2 (length (at_root ++ rest)) → 1 ≤ length rest → ⊥
    none rest e many = omega (arith, e, many)

pub not_crowded_by_itself : NotCrowdedByItself
not_crowded_by_itself crowded =
    let own_acts : History = by 1 (Claim 3) ∷ by 1 (Abandon 3) ∷ [] in
    let more : crowded.0 ≡ own_acts = sym (append_cancel_left (by 0 (Keep 1) ∷ []) own_acts crowded.0 crowded.1) in
    let none : 1 ≤ others lane_of 1 own_acts = subst (λ h. 1 ≤ others lane_of 1 h) more crowded.2 in absurd (omega (arith, none))

-- ---- six events

not_two : Contains {X = ℕ} (1 ∷ []) 2 → ⊥
not_two there = elim (contains_cons 1 [] 2 there) [
  | inl is ↦ absurd (omega (arith, is))
  | inr later ↦ absurd (contains_none 2 later)
]

pub six_are_legal : SixAreLegal
six_are_legal =
    legal_push (at_root ++ by 1 (Keep 2) ∷ by 1 (Put 0 2) ∷ by 0 (Claim 3) ∷ []) (by 0 (Remove 0))
    (legal_push (at_root ++ by 1 (Keep 2) ∷ by 1 (Put 0 2) ∷ []) (by 0 (Claim 3))
    (legal_push (at_root ++ by 1 (Keep 2) ∷ []) (by 1 (Put 0 2))
    (legal_push at_root (by 1 (Keep 2)) root_is_legal (record { lane = omega arith; within = tt; happens = (Some 2, refl); next = refl; drew = tt; fresh = tt; keeps = tt }))
    (record { lane = omega arith; within = omega arith; happens = (Some 1, refl); next = tt; drew = (2, omega arith, refl); fresh = not_two; keeps = tt }))
    (record { lane = omega arith; within = omega arith; happens = (None, refl); next = tt; drew = tt; fresh = tt; keeps = tt }))
    (record { lane = omega arith; within = omega arith; happens = (Some 2, refl); next = tt; drew = tt; fresh = tt; keeps = tt })
