-- What is listed for the groups of a plan's touches are the plan's races.
use Rattle.std.proofs.Common.{◌≡◌, ℕ, zero, suc, ◌+◌, ◌*◌, ◌<◌, true, List, [], ◌∷◌, length, Contains, refl, sym, ap, ◌∙◌, subst, arith, inl, inr}
use Rattle.std.specs.Prelude.{◌==◌, ◌&&◌, not, if◌then◌else◌}
use Rattle.std.proofs.lemmas.Bool.{cases_Bool}
use Rattle.ext_plan.specs.Plans.{PlanText}
use Rattle.ext_races.specs.declared.race.Race.{Race}
use Rattle.ext_races.specs.Clashes.{agree, clashes, closes_differ, may_fail}
use Rattle.ext_races.specs.InnerGroups.{IsGrouped, close_group, close_group_of, group_at, place_group}
use Rattle.ext_races.specs.Beside.{nodes_beside}
use Rattle.ext_races.specs.InnerListed.{groups_listed, race}
use Rattle.ext_races.specs.Races.{AreRaces, IsRace, race_of}
use Rattle.ext_races.specs.Touches.{TouchText, touches_made}
use Rattle.ext_races.proofs.Equalities.{both, both_true, equal}
use Rattle.ext_races.proofs.Lists.{contains_nothing, contains_cases}
use Rattle.ext_races.proofs.Sides.{nodes_found, nodes_tested}
use Rattle.ext_races.proofs.Listed.{all_listed, only_listed}
use Rattle.ext_races.proofs.TouchNodes.{touch_within}

-- a group in which something stands is one of the groups
group_of : (groups : List (List TouchText)) (k : ℕ) (t : TouchText) → Contains (group_at groups k) t → Contains groups (group_at groups k)
group_of [] k t h = contains_nothing t h
group_of (g ∷ groups) zero t h = (0, omega arith, refl)
group_of (g ∷ groups) (suc k) t h = let rest = group_of groups k t h in (suc rest.0, (let less = rest.1 in omega (arith, less)), rest.2)

at_index : (groups : List (List TouchText)) (group : List TouchText) → Contains groups group → (k : ℕ) × (group_at groups k ≡ group)
at_index [] group h = contains_nothing group h
at_index (g ∷ groups) group h = elim (contains_cases g group groups h) [
  | inl here ↦ (0, here)
  | inr later ↦ let rest = at_index groups group later in (suc rest.0, rest.1)
]

module _ (plan : PlanText) (most : ℕ) (groups : List (List TouchText)) (keys : ℕ) (are : IsGrouped keys (touches_made plan) groups) where
  found : (group : List TouchText) (t u : TouchText) → Contains groups group → Contains group t → Contains group u → race plan t u ≡ true → IsRace plan (race_of t u)
  found group t u in_groups t_in u_in clash =
      let at = at_index groups group in_groups in
      let parts = both (clashes t u) (nodes_beside plan t.node u.node) clash in
      record {
        first = t;
        second = u;
        first_made = are.only at.0 t (subst (λ g. Contains g t) (sym at.1) t_in);
        second_made = are.only at.0 u (subst (λ g. Contains g u) (sym at.1) u_in);
        beside = nodes_found plan t.node u.node parts.1;
        clash = parts.0;
        is = refl;
      }

  listed_in : (k : ℕ) (t u : TouchText) → Contains (group_at groups k) t → Contains (group_at groups k) u → race plan t u ≡ true → length (groups_listed plan most groups) < most
      → Contains (groups_listed plan most groups) (race_of t u)
  listed_in k t u t_in u_in clash less = all_listed plan most groups (group_at groups k) t u (group_of groups k t t_in) t_in u_in clash less

  -- two touches that clash stand in one group
  in_one_group : (t u : TouchText) → Contains (touches_made plan) t → Contains (touches_made plan) u → clashes t u ≡ true → (k : ℕ) × Contains (group_at groups k) t × Contains (group_at groups k) u
  in_one_group t u t_made u_made clash =
      let parts = both (t.changes && (t.context == u.context)) (if t.key == u.key then not (agree t u) else closes_differ t u) clash in
      let context = equal t.context u.context (both t.changes (t.context == u.context) parts.0).1 in
      elim (cases_Bool (t.key == u.key)) [
        | inl one_key ↦
            let key = equal t.key u.key one_key in
            let same : place_group keys u ≡ place_group keys t = sym (ap (λ c. c * (keys + 1) + t.key) context ∙ ap (λ k. u.context * (keys + 1) + k) key) in
            (place_group keys t, are.places t t_made, subst (λ k. Contains (group_at groups k) u) same (are.places u u_made))
        | inr two_keys ↦
            let differ : closes_differ t u ≡ true = rw two_keys at parts.1 in
            let fails = both (may_fail t) (may_fail u) (both (may_fail t && may_fail u) _ differ).0 in
            let same : close_group keys u ≡ close_group keys t = sym (ap (close_group_of keys) context) in
            (close_group keys t, are.closes t t_made fails.0, subst (λ k. Contains (group_at groups k) u) same (are.closes u u_made fails.1))
      ]

  all : length (groups_listed plan most groups) < most → (r : Race) → IsRace plan r → Contains (groups_listed plan most groups) r
  all less r is =
      let at = in_one_group is.first is.second is.first_made is.second_made is.clash in
      let beside = nodes_tested plan is.first.node is.second.node (touch_within plan is.first is.first_made) (touch_within plan is.second is.second_made) is.beside in
      let clash : race plan is.first is.second ≡ true = both_true _ _ is.clash beside in
      subst (λ q. Contains (groups_listed plan most groups) q) (sym is.is) (listed_in at.0 is.first is.second at.1 at.2 clash less)

  pub are_races : AreRaces plan most (groups_listed plan most groups)
  are_races =
      let listed = only_listed plan most (IsRace plan) groups found in
      record { found = listed.found; different = listed.different; few = listed.few; all = all }
