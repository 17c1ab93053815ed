-- The steps of calls, one after another, as they are listed.
use Rattle.std.proofs.Common.{◌≡◌, ℕ, ◌<◌, ◌+◌, Bool, true, false, List, [], ◌∷◌, ◌++◌, All, append_assoc, append-nil, get_or, length, map, take, refl, sym, ap, ◌∙◌}
use Rattle.std.specs.Prelude.{◌&&◌, cond, fold}
use Rattle.std.specs.List.{count_by, flat_map}
use Rattle.ext_tree.specs.Keys.{KeyValue}
use Rattle.ext_lifecycle.specs.declared.call.Call.{Call}
use Rattle.ext_plan.specs.Plans.{KeyText, PlanText, StepText, step_view}
use Rattle.ext_plan.specs.PlanCalls.{steps_of_call}
use Rattle.ext_plan.specs.declared.plan.Step.{Step}
use Rattle.ext_races.specs.declared.made.MadeStep.{MadeStep}
use Rattle.ext_races.specs.Acts.{draws}
use Rattle.ext_races.specs.InnerMade.{counted, left_after, left_by, made_behind, made_view, made_views}
use Rattle.ext_races.specs.MadeSteps.{MadeText, made_after, made_by, made_in_turn}
use Rattle.ext_races.specs.Touches.{key_of_made, keys_of_steps, with_key_of}
use Rattle.std.proofs.lemmas.Grind.{flat_map-append}
use Rattle.std.proofs.lemmas.List.Elements.{All-cons, All-head, All-nil, All-tail}
use Rattle.ext_races.proofs.Lists.{map-take_more, take_at_more, take_more}

-- ---- one more in the list

views_push : (before : List StepText) (made : List MadeStep) (one : MadeStep) → made_views before (made ++ one ∷ []) ≡ made_views before made ++ made_behind (left_after before made) one ∷ []
views_push before [] one = refl
views_push before (m ∷ more) one = ap (λ ms. made_behind before m ∷ ms) (views_push (left_by before m) more one)

left_push : (before : List StepText) (made : List MadeStep) (one : MadeStep) → left_after before (made ++ one ∷ []) ≡ left_by (left_after before made) one
left_push before [] one = refl
left_push before (m ∷ more) one = left_push (left_by before m) more one

pub views_more : (made : List MadeStep) (i : ℕ) (one : MadeStep) → i < length made → one ≡ get_or made i one → made_views [] (take (i + 1) made) ≡ made_views [] (take i made) ++ made_behind (left_after [] (take i made)) one ∷ []
views_more made i one less read = ap (made_views []) (take_more made i one less read) ∙ views_push [] (take i made) one

pub left_more_at : (made : List MadeStep) (i : ℕ) (one : MadeStep) → i < length made → one ≡ get_or made i one → left_after [] (take (i + 1) made) ≡ left_by (left_after [] (take i made)) one
left_more_at made i one less read = ap (left_after []) (take_more made i one less read) ∙ left_push [] (take i made) one

-- ---- the steps of a call

made_push : (node : ℕ) (before steps : List StepText) (step : StepText) → made_after node before (steps ++ step ∷ []) ≡ made_after node before steps ++ made_by node (before ++ steps) step ∷ []
made_push node before [] step = ap (λ b. made_by node b step ∷ []) (sym (append-nil before))
made_push node before (first ∷ more) step =
    ap (λ ms. made_by node before first ∷ ms) (made_push node (before ++ first ∷ []) more step
    ∙ ap (λ b. made_after node (before ++ first ∷ []) more ++ made_by node b step ∷ []) (append_assoc before (first ∷ []) more))

-- what counts as the steps begin
pub counted_start : (begins zero_at : Bool) (made : List MadeStep) → zero_at ≡ true → counted (begins && zero_at) made ≡ counted begins made ++ []
counted_start true zero_at made is = rw is refl
counted_start false zero_at made is = sym (append-nil (left_after [] made))

-- and behind one of them
pub counted_later : (begins zero_at : Bool) (made : List MadeStep) → zero_at ≡ false → counted (begins && zero_at) made ≡ left_after [] made
counted_later true zero_at made is = rw is refl
counted_later false zero_at made is = refl

module _ (before : List StepText) (made after : List MadeStep) (one : MadeStep) (node : ℕ) (steps : List Step) (at : ℕ) (step : Step) (first : Bool) (less : at < length steps) (read : step ≡ get_or steps at step)
    (is : one ≡ record { node = node; step = one.step; first = first }) (of_step : step_view one.step.now ≡ step_view step) (put : after ≡ made ++ one ∷ []) (so_far : counted first made ≡ before ++ map step_view (take at steps)) where
  behind_is : made_behind (left_after [] made) one ≡ made_by node (before ++ map step_view (take at steps)) (step_view step)
  behind_is = ap (λ m. made_behind (left_after [] made) m) is ∙ ap (λ s. made_by node (counted first made) s) of_step ∙ ap (λ b. made_by node b (step_view step)) so_far

  pub made_more : (start : List MadeText) → made_views [] made ≡ start ++ made_after node before (map step_view (take at steps)) → made_views [] after ≡ start ++ made_after node before (map step_view (take (at + 1) steps))
  made_more start done =
      let counts = map step_view (take at steps) in
      ap (made_views []) put ∙ views_push [] made one ∙ ap (λ ms. ms ++ made_behind (left_after [] made) one ∷ []) done ∙ ap (λ m. (start ++ made_after node before counts) ++ m ∷ []) behind_is
      ∙ append_assoc start (made_after node before counts) (made_by node (before ++ counts) (step_view step) ∷ []) ∙ ap (λ ms. start ++ ms) (sym (made_push node before counts (step_view step)))
      ∙ ap (λ ss. start ++ made_after node before ss) (sym (map-take_more step_view steps at step less read))

  pub left_more : left_after [] after ≡ before ++ map step_view (take (at + 1) steps)
  left_more =
      let counts = map step_view (take at steps) in
      ap (left_after []) put ∙ left_push [] made one ∙ ap (λ m. left_by (left_after [] made) m) is ∙ ap (λ s. counted first made ++ s ∷ []) of_step ∙ ap (λ b. b ++ step_view step ∷ []) so_far
      ∙ append_assoc before counts (step_view step ∷ []) ∙ ap (λ ss. before ++ ss) (sym (map-take_more step_view steps at step less read))

-- ---- the steps of calls

module _ (plan : PlanText) (node : ℕ) where
  abbrev steps_of : List Call → List StepText
  steps_of calls = flat_map (steps_of_call plan) calls

  pub turn_push : (before : List StepText) (calls : List Call) (call : Call)
      → made_in_turn plan node before (calls ++ call ∷ []) ≡ made_in_turn plan node before calls ++ made_after node (before ++ flat_map (steps_of_call plan) calls) (steps_of_call plan call)
  turn_push before [] call = append-nil (made_after node before (steps_of_call plan call)) ∙ ap (λ b. made_after node b (steps_of_call plan call)) (sym (append-nil before))
  turn_push before (first ∷ more) call =
      let own = steps_of_call plan first in
      ap (λ ms. made_after node before own ++ ms) (turn_push (before ++ own) more call ∙ ap (λ b. made_in_turn plan node (before ++ own) more ++ made_after node b (steps_of_call plan call)) (append_assoc before own (steps_of more)))
      ∙ sym (append_assoc (made_after node before own) (made_in_turn plan node (before ++ own) more) (made_after node (before ++ steps_of (first ∷ more)) (steps_of_call plan call)))

  module _ (calls : List Call) (at : ℕ) (d : Call) (made after : List MadeStep) (begins : Bool) (steps : List StepText) (less : at < length calls) (of_call : steps ≡ steps_of_call plan (get_or calls at d)) where
    pub turn_more : (start : List MadeText) → made_views [] after ≡ made_views [] made ++ made_after node (counted begins made) steps → counted begins made ≡ flat_map (steps_of_call plan) (take at calls)
        → made_views [] made ≡ start ++ made_in_turn plan node [] (take at calls) → made_views [] after ≡ start ++ made_in_turn plan node [] (take (at + 1) calls)
    turn_more start pushed counts so_far =
        let done = take at calls in
        pushed ∙ ap (λ ms. ms ++ made_after node (counted begins made) steps) so_far ∙ append_assoc start (made_in_turn plan node [] done) (made_after node (counted begins made) steps)
        ∙ ap (λ b. start ++ (made_in_turn plan node [] done ++ made_after node b steps)) counts ∙ ap (λ ss. start ++ (made_in_turn plan node [] done ++ made_after node (steps_of done) ss)) of_call
        ∙ ap (λ ms. start ++ ms) (sym (turn_push [] done (get_or calls at d))) ∙ ap (λ cs. start ++ made_in_turn plan node [] cs) (sym (take_at_more calls at d less))

    pub counts_more : counted begins made ≡ flat_map (steps_of_call plan) (take at calls) → counted begins made ++ steps ≡ flat_map (steps_of_call plan) (take (at + 1) calls)
    counts_more counts =
        let done = take at calls in
        ap (λ b. b ++ steps) counts ∙ ap (λ ss. steps_of done ++ ss) (of_call ∙ sym (append-nil (steps_of_call plan (get_or calls at d)))) ∙ sym (flat_map-append (steps_of_call plan) done (get_or calls at d ∷ []))
        ∙ ap (flat_map (steps_of_call plan)) (sym (take_at_more calls at d less))

-- ---- what does not depend on the steps before

pub keys_same : (declared : List KeyText) (keys : List KeyValue) (before : List StepText) (made : List MadeStep) → keys_of_steps declared keys (map made_view made) ≡ keys_of_steps declared keys (made_views before made)
keys_same declared keys before [] = refl
keys_same declared keys before (m ∷ more) = keys_same declared (with_key_of keys (key_of_made declared (made_view m))) (left_by before m) more

drawn_from : (keep : Bool) (drawn : ℕ) (before : List StepText) (made : List MadeStep)
    → fold (λ n (m : MadeText). n + cond (draws keep m.step) 1 0) drawn (map made_view made) ≡ fold (λ n (m : MadeText). n + cond (draws keep m.step) 1 0) drawn (made_views before made)
drawn_from keep drawn before [] = refl
drawn_from keep drawn before (m ∷ more) = drawn_from keep (drawn + cond (draws keep (step_view m.step.now)) 1 0) (left_by before m) more

pub drawn_same : (keep : Bool) (before : List StepText) (made : List MadeStep) → count_by (λ m. draws keep m.step) (map made_view made) ≡ count_by (λ m. draws keep m.step) (made_views before made)
drawn_same keep before made = drawn_from keep 0 before made

pub views_all : (P : ℕ → Type 0) (before : List StepText) (made : List MadeStep) → All (λ m. P m.node) (made_views before made) → All (λ m. P m.node) made
views_all P before [] all = All-nil (λ m. P m.node)
views_all P before (m ∷ more) all =
    All-cons (λ m. P m.node) m more (All-head (λ m. P m.node) (made_behind before m) (made_views (left_by before m) more) all)
    (views_all P (left_by before m) more (All-tail (λ m. P m.node) (made_behind before m) (made_views (left_by before m) more) all))
