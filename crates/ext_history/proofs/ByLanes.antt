-- Events are by so many lanes alone, where each allowed event is.
use Rattle.std.proofs.Common.{◌≡◌, ℕ, ◌<◌, ◌≤◌, List, [], ◌∷◌, ◌++◌, refl, sym, ◌∙◌, arith}
use Rattle.ext_history.specs.Histories.{own, IsLegal}
use Rattle.ext_history.proofs.Lanes.{own_self, own_push_other}
use Rattle.ext_history.proofs.Legal.{legal_induct}

module _ {E : Type 0} (lane_of : E → ℕ) (IsAllowed : List E → E → Type 0) (lanes : ℕ) (by_lane : (before : List E) (e : E) → IsAllowed before e → lane_of e < lanes) where
  -- where none of the lanes has made an event, there was none
  pub no_lane_no_event : (h : List E) → IsLegal IsAllowed h → ((lane : ℕ) → lane < lanes → own lane_of lane h ≡ []) → h ≡ []
  no_lane_no_event [] legal none = refl
  no_lane_no_event (e ∷ h) legal none =
      let n = lane_of e in
      let nothing : e ∷ own lane_of n h ≡ [] = sym (own_self lane_of n e h refl) ∙ none n (by_lane [] e (legal.each [] e h refl)) in
      absurd (cc nothing)

  -- and no other lane has made one
  pub none_beyond : (lane : ℕ) → lanes ≤ lane → (h : List E) → IsLegal IsAllowed h → own lane_of lane h ≡ []
  none_beyond lane past h legal = legal_induct IsAllowed (λ g. own lane_of lane g ≡ []) refl step h legal
    where
      step : (g : List E) (e : E) → IsLegal IsAllowed g → own lane_of lane g ≡ [] → IsAllowed g e → own lane_of lane (g ++ e ∷ []) ≡ []
      step g e legal none allowed = own_push_other lane_of lane g e (λ (same : lane_of e ≡ lane). let below : lane_of e < lanes = by_lane g e allowed in omega (arith, same, below, past)) ∙ none
