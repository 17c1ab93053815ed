-- A second look, found in the history that the lane has seen.
use Rattle.std.proofs.Common.{◌≡◌, ℕ, List, [], ◌∷◌, ◌++◌, ap, sym, subst, ◌∙◌, append_assoc}
use Rattle.std.proofs.lemmas.List.{map-append}
use Rattle.ext_model.specs.declared.event.Act.{Act}
use Rattle.ext_model.specs.declared.event.Act.TheVariants.{Claim}
use Rattle.ext_model.specs.declared.event.Event.{Event}
use Rattle.ext_model.specs.declared.look.Look.{Look}
use Rattle.ext_model.specs.History.{History, by, lane_of, own}
use Rattle.ext_history.specs.Histories.{seen_by}
use Rattle.ext_model.specs.CallActs.{LaneView, events_by, look_after, LooksAgain, LookedAgain}
use Rattle.ext_history.proofs.Lanes.{last_own}

pub second_look : (cell_of : ℕ → ℕ) (path : List ℕ) (before after : LaneView) (acts : List (Act ℕ)) (cell : ℕ) (look : Look) → LooksAgain cell_of path before after (acts ++ Claim cell ∷ []) look → LookedAgain cell_of path before.number cell (seen_by after) look
second_look cell_of path before after acts cell look again =
    let n = before.number in
    let p : History = again.0 in
    let at = again.1 in
    let e : Event ℕ = by n (Claim cell) in
    let own_is : own n p ≡ (own n (seen_by before) ++ events_by n acts) ++ e ∷ [] =
    at.own_events ∙ (ap (λ z. own n (seen_by before) ++ z) (map-append (by n) acts (Claim cell ∷ [])) ∙ sym (append_assoc (own n (seen_by before)) (events_by n acts) (e ∷ []))) in
    let last = last_own lane_of n e p (own n (seen_by before) ++ events_by n acts) own_is in
    record {
      earlier = last.earlier;
      between = last.between;
      later = at.until.0;
      is = sym at.until.1 ∙ (ap (λ z. z ++ at.until.0) last.is ∙ append_assoc last.earlier (e ∷ last.between) at.until.0);
      quiet = last.quiet;
      looks = subst (λ z. look_after cell_of path z ≡ look) last.is again.2;
    }
