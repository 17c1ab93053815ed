-- What is found of a plan, put together.
use Rattle.std.proofs.Common.{◌≡◌, ℕ, ◌<◌, ◌≤◌, Bool, true, false, List, [], length, sym, ap, subst, ◌∙◌, arith, All, inl, inr}
use Rattle.std.specs.Prelude.{◌==◌, ◌&&◌, nat_lt}
use Rattle.std.proofs.lemmas.Bool.{and_cases, and_parts, both_ways, cases_eq, eq-eqb, eqb-true, lt-ltb, ltb-true}
use Rattle.std.specs.Borrow.{Bor}
use Rattle.std.specs.List.{count_by, flat_map}
use Rattle.std.proofs.lemmas.List.{length-map}
use Rattle.std.proofs.lemmas.List.Elements.{All-weaker}
use Rattle.ext_model.specs.Sizes.{most_numbers}
use Rattle.ext_tree.specs.Keys.{KeyValue}
use Rattle.ext_tree.specs.Trees.{Id}
use Rattle.ext_plan.specs.Plans.{KeyText, PlanText}
use Rattle.ext_plan.specs.ReadPlans.{ids_of_nodes}
use Rattle.ext_plan.specs.declared.plan.StepKey.{StepKey}
use Rattle.ext_races.specs.declared.made.MadeStep.{MadeStep}
use Rattle.ext_races.specs.declared.race.Race.{Race}
use Rattle.ext_races.specs.Acts.{draws}
use Rattle.ext_races.specs.InnerGroups.{IsGrouped}
use Rattle.ext_races.specs.InnerNaming.{keys_listed, keys_of}
use Rattle.ext_races.specs.InnerListed.{groups_listed}
use Rattle.ext_races.specs.InnerMade.{made_views}
use Rattle.ext_races.specs.MadeSteps.{MadeText, steps_made}
use Rattle.ext_races.specs.Found.{HasRaces, IsWithin}
use Rattle.ext_races.specs.Races.{AreRaces, IsRace}
use Rattle.ext_races.specs.Touches.{TouchText, keys_named, numbers_drawn, standing, touches_made, touches_of}
use Rattle.ext_races.proofs.After.{views_all}
use Rattle.ext_races.proofs.Exact.{are_races}
use Rattle.ext_races.proofs.Within.{nodes_within}

module _ (plan : PlanText) (made : List MadeText) (steps : made ≡ steps_made plan) where
  -- the keys, however they are listed
  pub named_is : (declared : List KeyText) (directory : List KeyValue) → declared ≡ plan.keys → directory ≡ keys_listed declared made → directory ≡ keys_named plan
  named_is declared directory keys is = is ∙ ap (λ d. keys_listed d made) keys ∙ ap (keys_listed plan.keys) steps

  pub drawn_is : (drawn : ℕ) → drawn ≡ count_by (λ m. draws plan.keep_faults m.step) made → drawn ≡ numbers_drawn plan
  drawn_is drawn is = is ∙ ap (count_by (λ m. draws plan.keep_faults m.step)) steps

  -- no limit is exceeded
  pub within_limits : (declared : List KeyText) (directory : List KeyValue) (names : List (Bor StepKey)) (drawn : ℕ) → declared ≡ plan.keys → directory ≡ keys_listed declared made → length directory ≤ plan.key_places
      → keys_of declared names ≡ directory → drawn ≡ count_by (λ m. draws plan.keep_faults m.step) made → drawn ≤ most_numbers plan.size → IsWithin plan names
  within_limits declared directory names drawn keys is few words count fits =
      let named = named_is declared directory keys is in
      let long = ap length named in
      let draws_in = drawn_is drawn count in
      record { keys = omega (arith, long, few); numbers = omega (arith, draws_in, fits); named = ap (λ d. keys_of d names) (sym keys) ∙ words ∙ named }

  -- the groups have the plan's touches
  pub touches_in : (declared : List KeyText) (directory : List KeyValue) (ids : List Id) (groups : List (List TouchText)) → declared ≡ plan.keys → ids ≡ ids_of_nodes plan.nodes → directory ≡ keys_listed declared made
      → IsGrouped (length directory) (flat_map (touches_of ids declared directory (standing plan)) made) groups → IsGrouped (length directory) (touches_made plan) groups
  touches_in declared directory ids groups keys nodes is grouped =
      let above = standing plan in
      let same = ap (λ i. flat_map (touches_of i declared directory above) made) nodes ∙ ap (λ d. flat_map (touches_of (ids_of_nodes plan.nodes) d directory above) made) keys
      ∙ ap (λ k. flat_map (touches_of (ids_of_nodes plan.nodes) plan.keys k above) made) (named_is declared directory keys is) ∙ ap (flat_map (touches_of (ids_of_nodes plan.nodes) plan.keys (keys_named plan) above)) steps in
      subst (λ touches. IsGrouped (length directory) touches groups) same grouped

-- ---- the races, or none

-- races were looked for, and there are none; or there are some, if any were looked for
pub none_is : (most : ℕ) (listed : List Race) (free : Bool) → free ≡ (nat_lt 0 most && (length listed == 0)) → free ≡ true → (0 < most) × (length listed ≡ 0)
none_is most listed free is so = let parts = and_parts (nat_lt 0 most) (length listed == 0) (sym is ∙ so) in (ltb-true 0 most parts.0, eqb-true (length listed) 0 parts.1)

pub some_are : (most : ℕ) (listed : List Race) (free : Bool) → free ≡ (nat_lt 0 most && (length listed == 0)) → free ≡ false → 0 < most → 0 < length listed
some_are most listed free is so some = elim (and_cases (nat_lt 0 most) (length listed == 0) (sym is ∙ so)) [
  | inl none ↦ absurd (both_ways (nat_lt 0 most) none (lt-ltb 0 most some))
  | inr there ↦ elim (cases_eq (length listed) 0) [
    | inl empty ↦ absurd (both_ways (length listed == 0) there (eq-eqb (length listed) 0 empty))
    | inr other ↦ omega (arith, other)
  ]
]

module _ (plan : PlanText) (most : ℕ) (groups : List (List TouchText)) (keys : ℕ) (grouped : IsGrouped keys (touches_made plan) groups) (listed : List Race) (tells : listed ≡ groups_listed plan most groups) where
  are : AreRaces plan most listed
  are = subst (AreRaces plan most) (sym tells) (are_races plan most groups keys grouped)

  pub has_races : (0 < most → 0 < length listed) → HasRaces plan most listed
  has_races some = record { are = are; some = some }

  pub no_races : 0 < most → length listed ≡ 0 → (race : Race) → ¬ IsRace plan race
  no_races some empty race is = let at = are.all (omega (arith, empty, some)) race is in let less = at.1 in omega (arith, less, empty)

pub nodes_in : (plan : PlanText) (made : List MadeStep) (ids : List Id) → made_views [] made ≡ steps_made plan → ids ≡ ids_of_nodes plan.nodes → All (λ m. m.node < length ids) made
nodes_in plan made ids steps nodes =
    let long = ap length nodes ∙ length-map plan.nodes (λ n. n.id) in
    views_all (λ n. n < length ids) [] made
    (All-weaker (λ m. m.node < length plan.nodes) (λ m. m.node < length ids) (λ m less. omega (arith, less, long)) (made_views [] made) (subst (All (λ m. m.node < length plan.nodes)) (sym steps) (nodes_within plan)))
