-- What nodes compute, noted one after another.
use Rattle.std.proofs.Common.{◌≡◌, ◌≢◌, ℕ, ◌+◌, ◌<◌, ◌≤◌, Bool, true, false, List, [], ◌∷◌, ◌++◌, length, length-append, map, drop, take, get_or, Option, Some, None, refl, sym, ap, subst, ◌∙◌, arith, append-nil, inl, inr}
use Rattle.std.specs.Prelude.{is_some, option_map}
use Rattle.std.specs.List.{flat_map}
use Rattle.std.specs.declared.alloc.Global.{Global}
use Rattle.std.specs.Prelude.{Vec}
use Rattle.std.proofs.Math.Seq.{get_or-append_seam}
use Rattle.std.proofs.lemmas.Bool.{cases_eq, true≢false}
use Rattle.std.proofs.lemmas.Grind.{flat_map-append}
use Rattle.std.proofs.lemmas.List.{drop_all, drop_more, get_or_append_left, map-append}
use Rattle.ext_tree.specs.Keys.{KeyValue}
use Rattle.ext_tree.specs.Trees.{children_of}
use Rattle.ext_lifecycle.specs.declared.call.Call.{Call}
use Rattle.ext_plan.specs.Plans.{KeyText, PlanText, StepText}
use Rattle.ext_plan.specs.PlanCalls.{steps_of_call}
use Rattle.ext_plan.specs.ReadPlans.{ids_of_nodes}
use Rattle.ext_plan.proofs.Lists.{map-push}
use Rattle.ext_races.specs.declared.standing.Compute.{Compute}
use Rattle.ext_races.specs.Acts.{act_of}
use Rattle.ext_races.specs.InnerStanding.{AreComputed, compute_at, compute_view, computed_in, computes_of, computes_view, AreLeft}
use Rattle.ext_races.specs.MadeSteps.{plan_path, steps_before}
use Rattle.ext_races.specs.Touches.{or_above}
use Rattle.ext_races.proofs.Lists.{take_at_more}

-- ---- the callbacks of a node

pub calls_more : (plan : PlanText) (calls : List Call) (at : ℕ) (d : Call) (steps : List StepText) → at < length calls → steps ≡ steps_of_call plan (get_or calls at d)
    → map act_of (flat_map (steps_of_call plan) (take at calls)) ++ map act_of steps ≡ map act_of (flat_map (steps_of_call plan) (take (at + 1) calls))
calls_more plan calls at d steps less is =
    let done = flat_map (steps_of_call plan) (take at calls) in
    sym (map-append act_of done steps)
    ∙ ap (λ ss. map act_of (done ++ ss)) (is ∙ sym (append-nil (steps_of_call plan (get_or calls at d))))
    ∙ ap (map act_of) (sym (flat_map-append (steps_of_call plan) (take at calls) (get_or calls at d ∷ [])) ∙ ap (flat_map (steps_of_call plan)) (sym (take_at_more calls at d less)))

-- ---- one node more

module _ (plan : PlanText) (declared : List KeyText) (directory : List KeyValue) where
  pub computed_none : (put : Bool) → AreComputed plan declared directory put 0 []
  computed_none put = record { long = refl; each = λ node less. absurd (omega (arith, less)) }

  pub computed_more : (put : Bool) (count : ℕ) (lists after : List (Vec Compute Global)) (v : Vec Compute Global)
      → (children_of (ids_of_nodes plan.nodes) count ≢ [] → AreLeft declared directory put (plan_path plan count) (steps_before plan count) v.items) → after ≡ lists ++ v ∷ []
      → AreComputed plan declared directory put count (computes_view lists) → AreComputed plan declared directory put (count + 1) (computes_view after)
  computed_more put count lists after v last added are = record {
    long = ap length same ∙ length-append (computes_view lists) (v.items ∷ []) ∙ ap (λ n. n + 1) are.long;
    each = λ node less some. elim (cases_eq node count) [
      | inl is ↦ subst (λ n. children_of (ids_of_nodes plan.nodes) n ≢ [] → AreLeft declared directory put (plan_path plan n) (steps_before plan n) (computes_of (computes_view after) n)) (sym is)
          (λ there. subst (AreLeft declared directory put (plan_path plan count) (steps_before plan count)) (sym at_end) (last there)) some
      | inr other ↦
          let before : node < count = omega (arith, less, other) in
          let long = are.long in
          subst (AreLeft declared directory put (plan_path plan node) (steps_before plan node))
          (sym (ap (λ xs. computes_of xs node) same ∙ get_or_append_left (computes_view lists) (v.items ∷ []) [] node (omega (arith, before, long)))) (are.each node before some)
    ];
  }
    where
      same : computes_view after ≡ computes_view lists ++ v.items ∷ []
      same = ap computes_view added ∙ map-push (λ (u : Vec Compute Global). u.items) lists v

      at_end : computes_of (computes_view after) count ≡ v.items
      at_end = ap (λ xs. computes_of xs count) same ∙ ap (computes_of (computes_view lists ++ v.items ∷ [])) (sym are.long) ∙ get_or-append_seam (computes_view lists) v.items [] []

-- ---- the first node that computes a key

module _ (lists : List (List Compute)) (key : ℕ) (nodes : List ℕ) (at : ℕ) (d : ℕ) (found : Option Compute) (less : at < length nodes) (is : option_map compute_view found ≡ compute_at (computes_of lists (get_or nodes at d)) key)
    (so_far : computed_in lists key nodes ≡ computed_in lists key (drop at nodes)) where
  here : computed_in lists key nodes ≡ or_above (option_map compute_view found) (computed_in lists key (drop (at + 1) nodes))
  here = so_far ∙ ap (computed_in lists key) (drop_more nodes at d less) ∙ ap (λ f. or_above f (computed_in lists key (drop (at + 1) nodes))) (sym is)

  pub found_here : is_some found ≡ true → option_map compute_view found ≡ computed_in lists key nodes
  found_here some = sym (here ∙ first found some)
    where
      first : (f : Option Compute) → is_some f ≡ true → or_above (option_map compute_view f) (computed_in lists key (drop (at + 1) nodes)) ≡ option_map compute_view f
      first None none = absurd (true≢false (sym none))
      first (Some f) some = refl

  pub found_later : is_some found ≡ false → computed_in lists key nodes ≡ computed_in lists key (drop (at + 1) nodes)
  found_later none = here ∙ later found none
    where
      later : (f : Option Compute) → is_some f ≡ false → or_above (option_map compute_view f) (computed_in lists key (drop (at + 1) nodes)) ≡ computed_in lists key (drop (at + 1) nodes)
      later None none = refl
      later (Some f) some = absurd (true≢false some)

pub found_nowhere : (lists : List (List Compute)) (key : ℕ) (nodes : List ℕ) (at : ℕ) → length nodes ≤ at → computed_in lists key nodes ≡ computed_in lists key (drop at nodes) → computed_in lists key nodes ≡ None
found_nowhere lists key nodes at past so_far = so_far ∙ ap (computed_in lists key) (drop_all at nodes past)

-- ---- nothing yet

pub none_there : {A : Type 0} (xs : List A) → length xs ≡ 0 → xs ≢ [] → {P : Type 0} → P
none_there [] none some {P} = absurd (some refl)
none_there (x ∷ xs) none some {P} = absurd (omega (arith, none))
