-- What is found in the groups of a plan without races says what is proved of the plan.
use Rattle.std.proofs.Common.{◌≡◌, ℕ, ◌+◌, ◌*◌, ◌≤◌, true, false, List, length, Contains, sym, ap, subst, ◌∙◌}
use Rattle.std.specs.Prelude.{◌==◌, ◌&&◌}
use Rattle.std.specs.List.{list_any}
use Rattle.std.proofs.lemmas.Bool.{both_ways, eq-eqb, false_from_ne_true}
use Rattle.ext_model.specs.Sizes.{most_numbers}
use Rattle.ext_plan.specs.Plans.{PlanText}
use Rattle.ext_plan.specs.StepWords.{gives_value}
use Rattle.ext_races.specs.declared.race.Race.{Race}
use Rattle.ext_races.specs.Beside.{nodes_beside}
use Rattle.ext_races.specs.Clashes.{agree}
use Rattle.ext_races.specs.InnerGroups.{IsGrouped, group_at, place_group}
use Rattle.ext_races.specs.InnerProving.{computes_value, groups_share, share_beside, shares_value}
use Rattle.ext_races.specs.OneReports.{HasNearReport, HasOneReport, NoneShare}
use Rattle.ext_races.specs.Races.{IsRace}
use Rattle.ext_races.specs.Touches.{TouchText, keys_named, numbers_drawn, touches_made}
use Rattle.ext_races.proofs.Equalities.{both, both_true, equal}
use Rattle.ext_races.proofs.Free.{free_keeps_apart, race_free_closes_agree, race_free_shares_values}
use Rattle.ext_races.proofs.Grouped.{any_contains}
use Rattle.ext_races.proofs.Searches.{shared_in, sharing}
use Rattle.ext_races.proofs.Sides.{nodes_found, nodes_tested}
use Rattle.ext_races.proofs.TouchNodes.{touch_within}

module _ (plan : PlanText) (groups : List (List TouchText)) (keys : ℕ) (are : IsGrouped keys (touches_made plan) groups) where
  -- two touches that share a value are in one group
  none_share : groups_share plan groups ≡ false → NoneShare plan
  none_share none = record {
    none = λ t u one two beside changes change_too at named agrees. false_from_ne_true (gives_value t.word) (λ gives.
        let same : place_group keys u ≡ place_group keys t = sym (ap (λ c. c * (keys + 1) + t.key) at ∙ ap (λ k. u.context * (keys + 1) + k) named) in
        let there : Contains (group_at groups (place_group keys t)) u = subst (λ k. Contains (group_at groups k) u) same (are.places u two) in
        let tested = nodes_tested plan t.node u.node (touch_within plan t one) (touch_within plan u two) beside in
        let shares : shares_value t u ≡ true =
        both_true _ _ (both_true _ _ (both_true _ _ (both_true _ _ (both_true _ _ changes gives) change_too) (eq-eqb t.context u.context at)) (eq-eqb t.key u.key named)) agrees in
        both_ways (groups_share plan groups) none (shared_in plan groups (place_group keys t) t u (are.places t one) there (both_true (shares_value t u) (nodes_beside plan t.node u.node) shares tested)));
  }

  -- two nodes that share a value do not keep apart
  pub not_one : groups_share plan groups ≡ true → ¬ HasOneReport plan
  not_one shares one =
      let at = sharing plan groups shares in
      let first = any_contains (λ t. list_any (λ u. share_beside plan t u) (group_at groups at.0)) (group_at groups at.0) at.1 in
      let t = first.0 in
      let second = any_contains (λ u. share_beside plan t u) (group_at groups at.0) first.2 in
      let u = second.0 in
      let parts = both (shares_value t u) (nodes_beside plan t.node u.node) second.2 in
      let p = both (computes_value t && u.changes && (t.context == u.context) && (t.key == u.key)) (agree t u) parts.0 in
      let q = both (computes_value t && u.changes && (t.context == u.context)) (t.key == u.key) p.0 in
      let r = both (computes_value t && u.changes) (t.context == u.context) q.0 in
      let change = both (computes_value t) u.changes r.0 in
      let computes = both t.changes (gives_value t.word) change.0 in
      let apart = one.apart.apart t u (are.only at.0 t first.1) (are.only at.0 u second.1) (nodes_found plan t.node u.node parts.1) computes.0 (equal t.context u.context r.1) (equal t.key u.key q.1) in
      both_ways (gives_value t.word && u.changes) apart.1 (both_true _ _ computes.1 change.1)

  -- ---- what is proved

  module _ (free : (race : Race) → ¬ IsRace plan race) (places : length (keys_named plan) ≤ plan.key_places) (numbers : numbers_drawn plan ≤ most_numbers plan.size) where
    pub has_one : groups_share plan groups ≡ false → HasOneReport plan
    has_one none = record { apart = free_keeps_apart plan free (none_share none); closes = race_free_closes_agree plan free; keys = places; numbers = numbers }

    pub has_near : HasNearReport plan
    has_near = record { alike = race_free_shares_values plan free; closes = race_free_closes_agree plan free; keys = places; numbers = numbers }
