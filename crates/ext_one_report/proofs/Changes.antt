-- Changes on a lane that is alone on the place that they change end as those of a plain run.
use Rattle.std.proofs.Common.{◌≡◌, ◌≢◌, ◌⊎◌, ℕ, suc, ◌+◌, append-nil, inl, inr, Bool, true, false, List, [], ◌∷◌, ◌++◌, drop, length, refl, ap, sym, subst, ◌∙◌, add-one, Option, None, Some}
use Rattle.std.specs.Prelude.{Result, Ok, Err, codes}
use mathlib.Core.List.{IsPrefix}
use Rattle.ext_history.specs.Histories.{seen_by}
use Rattle.ext_history.proofs.Composed.{answer_first, same_number, seen_goes_on, seen_is_point}
use Rattle.ext_model.specs.declared.event.Act.{Act}
use Rattle.ext_model.specs.declared.event.Act.TheVariants.{Keep, Put, Remove}
use Rattle.ext_model.specs.declared.slot.Slot.{Slot}
use Rattle.ext_model.specs.Events as events
use Rattle.ext_model.specs.Events.{Reply, Happens, Answers, Refuses, put_reply, remove_reply, is_worn}
use Rattle.ext_model.specs.State.{State}
use Rattle.ext_model.specs.History.{History, by, state_after, version_of}
use Rattle.ext_model.specs.Plain.{Place, any_lane, state_by}
use Rattle.ext_model.specs.CallActs.{IsAnswerPoint, Calls}
use Rattle.ext_tree.specs.Keys.{KeyValue, IsKeyNumber}
use Rattle.ext_tree.proofs.KeyPlacing.{number_stays}
use Rattle.ext_values.specs.Known.{known_at}
use Rattle.ext_cells.specs.Lanes.{Lane}
use Rattle.ext_lifecycle.specs.declared.outcome.Outcome.{Outcome}
use Rattle.ext_lifecycle.specs.Endings.{successful, aborted, failed}
use Rattle.ext_lifecycle.specs.FaultTexts.{VerdictText}
use Rattle.ext_plan.specs.declared.reason.Reason.TheVariants as reasons
use Rattle.ext_plan.specs.declared.word.Word.TheVariants as words
use Rattle.ext_plan.specs.Plans.{KeyText, StepKeyText, fail, abort}
use Rattle.ext_plan.specs.StepCalls.{call_of, label_of, start_of}
use Rattle.ext_plan.specs.StoreKeys.{is_there, key_of_step, number_of_key}
use Rattle.ext_plan.specs.Values.{ValueText}
use Rattle.ext_plan.specs.Verdicts.{refused, unless_refused}
use Rattle.ext_store_core.specs.ContextCalls as store_core
use Rattle.ext_store_core.specs.ContextCalls.{put_acts, remove_acts, result_at, with_kept}
use Rattle.ext_store_core.specs.declared.fault.Refusal.{Refusal}
use Rattle.ext_store_core.specs.declared.fault.Refusal.TheVariants as refusal
use Rattle.ext_store.specs.declared.fault.KeepFault.{KeepFault}
use Rattle.ext_store.specs.declared.fault.KeepFault.TheVariants as keep_fault
use Rattle.ext_store.specs.Stores.{StoreView, cell_in}
use Rattle.ext_store.specs.LaneCalls.{Puts, Removes}
use Rattle.ext_plan_plain.specs.ValueStates.{ValueState, enough, keep_value, reply_to, value_of, refusal as plain_refusal}
use Rattle.ext_plan_plain.specs.StepRuns.{StepEnd, act_ends, ended, kept_or_refused, numbered_by, put_by, put_in, remove_numbered}
use Rattle.ext_plan_parallel.specs.Saying.{Ends, EndsUnkept, no_memory}
use Rattle.ext_plan_parallel.specs.StoreCalls.{PlanLane, EndsChange, EndsPut, StoresThere}
use Rattle.ext_plan_parallel.specs.StoreSteps.{PutsKept, StepPuts}
use Rattle.ext_one_report.proofs.StandingsWords.{Meaning, Standing, nothing, value, fault, sealed, AreMatched, puts, removes, of_value}
use Rattle.ext_one_report.proofs.MatchingWords.{RunView, IsRunView, HasNumberIn, Places, Matches, IsNumbered, cell_of, plain_meaning, AreEqualEvents, after_event}
use Rattle.ext_one_report.proofs.StepsWords.{IsAlone, AreCompared, ActsWithin, EndAlike, WordEndsAlike, EndsAnywhere}
use Rattle.ext_one_report.specs.FullRuns.{FindsAll}
use Rattle.ext_one_report.proofs.Standings.{Holds, holds}
use Rattle.ext_one_report.proofs.Matching.{plain_there, equal_events_keep_matches, equal_events_keep_numbered, values_keep_matches, values_keep_numbered, draw_happens, kept_drawn, value_last}
use Rattle.ext_one_report.proofs.NodesAlone.{alone_first, alone_later, matches_after, matches_to}
use Rattle.ext_one_report.proofs.Numbered.{IsNamed, named}
use Rattle.ext_one_report.proofs.StepLooks.{said, has_room, key_found}

-- ---- replies to changes of places in which the same stands

-- what two replies to one put have in common: both are events, or both are refused for a seal; or the first is refused since the cell is worn
pub data Change (x y : Reply) : Type 0 where
  both_happen : (a b : Option ℕ) → x ≡ Happens a → y ≡ Happens b → Change x y
  both_closed : x ≡ Refuses events.Closed → y ≡ Refuses events.Closed → Change x y
  worn : x ≡ Refuses events.Exhausted → Change x y

put_change_by : {V F : Type 0} (ours theirs : Meaning V F) (x y : Option Slot) (old : Bool) (s : Standing V F) → Holds ours s x → Holds theirs s y → Change (put_reply old x) (put_reply false y)
put_change_by ours theirs x y true nothing here there = worn (ap (put_reply true) here)
put_change_by ours theirs x y false nothing here there = both_happen None None (ap (put_reply false) here) (ap (put_reply false) there)
put_change_by ours theirs x y true (value v) here there = worn (ap (put_reply true) here.1)
put_change_by ours theirs x y false (value v) here there = both_happen (Some here.0) (Some there.0) (ap (put_reply false) here.1) (ap (put_reply false) there.1)
put_change_by ours theirs x y true (fault f) here there = worn (ap (put_reply true) here.1)
put_change_by ours theirs x y false (fault f) here there = both_happen (Some here.0) (Some there.0) (ap (put_reply false) here.1) (ap (put_reply false) there.1)
put_change_by ours theirs x y old (sealed None) here there = both_closed (ap (put_reply old) here) (ap (put_reply false) there)
put_change_by ours theirs x y old (sealed (Some v)) here there = both_closed (ap (put_reply old) here.1) (ap (put_reply false) there.1)

pub put_change : {V F : Type 0} (ours theirs : Meaning V F) (x y : Option Slot) (old : Bool) → AreMatched ours theirs x y → Change (put_reply old x) (put_reply false y)
put_change ours theirs x y old matched = put_change_by ours theirs x y old matched.standing (holds ours x matched.standing matched.here) (holds theirs y matched.standing matched.there)

-- a remove that happens answers a number
pub data Removal (x y : Reply) : Type 0 where
  both_remove : (a b : ℕ) → x ≡ Happens (Some a) → y ≡ Happens (Some b) → Removal x y
  none_removed : x ≡ Answers None → y ≡ Answers None → Removal x y
  removal_closed : x ≡ Refuses events.Closed → y ≡ Refuses events.Closed → Removal x y
  removal_worn : x ≡ Refuses events.Exhausted → Removal x y

remove_change_by : {V F : Type 0} (ours theirs : Meaning V F) (x y : Option Slot) (old : Bool) (s : Standing V F) → Holds ours s x → Holds theirs s y → Removal (remove_reply old x) (remove_reply false y)
remove_change_by ours theirs x y old nothing here there = none_removed (ap (remove_reply old) here) (ap (remove_reply false) there)
remove_change_by ours theirs x y true (value v) here there = removal_worn (ap (remove_reply true) here.1)
remove_change_by ours theirs x y false (value v) here there = both_remove here.0 there.0 (ap (remove_reply false) here.1) (ap (remove_reply false) there.1)
remove_change_by ours theirs x y true (fault f) here there = removal_worn (ap (remove_reply true) here.1)
remove_change_by ours theirs x y false (fault f) here there = both_remove here.0 there.0 (ap (remove_reply false) here.1) (ap (remove_reply false) there.1)
remove_change_by ours theirs x y old (sealed None) here there = removal_closed (ap (remove_reply old) here) (ap (remove_reply false) there)
remove_change_by ours theirs x y old (sealed (Some v)) here there = removal_closed (ap (remove_reply old) here.1) (ap (remove_reply false) there.1)

pub remove_change : {V F : Type 0} (ours theirs : Meaning V F) (x y : Option Slot) (old : Bool) → AreMatched ours theirs x y → Removal (remove_reply old x) (remove_reply false y)
remove_change ours theirs x y old matched = remove_change_by ours theirs x y old matched.standing (holds ours x matched.standing matched.here) (holds theirs y matched.standing matched.there)

-- ---- how a change of a plain run ends, by its reply

end_by : (name label : List ℕ) (act : Act Place) (s : ValueState) (r : Reply) → reply_to act s ≡ r
    → act_ends name label act s ≡ ended (unless_refused name label (plain_refusal r)) (record s { store = state_by r s.store (record { lane = any_lane; act = act }) })
end_by name label act s r is = ap (λ k. ended (unless_refused name label (plain_refusal k)) (record s { store = state_by k s.store (record { lane = any_lane; act = act }) })) is

-- ---- a change on a lane

module _ (run : RunView) (places : Places) (view : IsRunView run) (name label : List ℕ) (context : ℕ) (key : KeyValue) (number : ℕ) (a b : PlanLane) (o : Outcome) (t : ValueState)
    (within : places context key ≡ true) (has : HasNumberIn run key number) (there : is_there t.keys key ≡ true) (alone : IsAlone run places a.cells.view b.cells.view) (finds : FindsAll name label o)
    (matches : Matches run places (seen_by a.cells.view) t) (numbered : IsNumbered places t) where
  -- where it is no event
  quiet_end : (act : Act Place) (text : VerdictText) → Calls a.cells.cells.limits a.cells.view b.cells.view [] → Ends text 0 0 o → act_ends name label act t ≡ ended text t
      → EndAlike run places o b (act_ends name label act t)
  quiet_end act text calls ends is = subst (λ (end : StepEnd). EndAlike run places o b end) (sym is) (record {
    says = said text o.verdict finds.memory ends.says;
    computed = ends.computed_are;
    found = ends.found_are;
    matches = matches_to run places a.cells.view b.cells.view alone (seen_by b.cells.view) t (seen_is_point calls) matches;
    numbered = numbered;
  })

  -- and where it is one
  event_end : (act : Act ℕ) (act' : Act Place) (p : History) → Matches run places p t → AreEqualEvents run t act act' → seen_by b.cells.view ≡ p ++ by a.cells.view.number act ∷ [] → Ends successful 0 0 o
      → act_ends name label act' t ≡ ended successful (after_event any_lane act' t) → EndAlike run places o b (act_ends name label act' t)
  event_end act act' p here equal seen_is ends is = subst (λ (end : StepEnd). EndAlike run places o b end) (sym is) (record {
    says = said successful o.verdict finds.memory ends.says;
    computed = ends.computed_are;
    found = ends.found_are;
    matches = subst (λ h. Matches run places h (after_event any_lane act' t)) (sym seen_is) (equal_events_keep_matches run places p t a.cells.view.number any_lane act act' view equal here);
    numbered = equal_events_keep_numbered run places t any_lane act act' equal numbered;
  })

  -- what stands at a point where it matches
  matched_there : (p : History) → Matches run places p t → AreMatched run.meaning (plain_meaning t.values) ((state_after p).slots (cell_of run number context)) (t.store.slots (context, number_of_key t.keys key))
  matched_there p here = subst (λ x. AreMatched run.meaning (plain_meaning t.values) ((state_after p).slots (cell_of run number context)) x) (plain_there t context key there) (here.slots context key number within has)

  -- ---- a remove

  remove_decided : (result : Result (Option ℕ) Refusal) → EndsChange name label result o → result ≢ Err refusal.Contended
  remove_decided result ends is = subst (λ r. EndsChange name label r o) is ends

  pub removes_alike : (result : Result (Option ℕ) Refusal) → Removes run.store context number a.cells b.cells result → EndsChange name label result o
      → EndAlike run places o b (act_ends name label (Remove (context, number_of_key t.keys key)) t)
  unfolding store_core.Removes
  removes_alike result removed ends =
      let cell : ℕ = cell_of run number context in
      let act' : Act Place = Remove (context, number_of_key t.keys key) in
      let met = removed.replied (remove_decided result ends) in
      let p : History = met.point.0 in
      let here : Matches run places p t = matches_to run places a.cells.view b.cells.view alone p t (answer_first met.calls p met.point.1) matches in
      let old : Bool = is_worn (version_of p cell) in
      elim (remove_change run.meaning (plain_meaning t.values) ((state_after p).slots cell) (t.store.slots (context, number_of_key t.keys key)) old (matched_there p here)) [
        | both_remove m n x y ↦
            let is : result ≡ Ok (Some m) = met.point.2 ∙ ap (result_at context) x in
            let at = subst (λ r. IsAnswerPoint a.cells.view b.cells.view (remove_acts cell r) p) is met.point.1 in
            let equal : AreEqualEvents run t (Remove cell) act' = record {
              context = context;
              key = key;
              number = number;
              numbered = has;
              at_cell = refl;
              there = there;
              at_place = refl;
              same = record { deed = removes; here = refl; there = refl; compared = tt };
            } in
            event_end (Remove cell) act' p here equal at.1 (subst (λ r. EndsChange name label r o) is ends) (end_by name label act' t (Happens (Some n)) y)
        | none_removed x y ↦
            let is : result ≡ Ok None = met.point.2 ∙ ap (result_at context) x in
            let calls = subst (λ r. Calls a.cells.cells.limits a.cells.view b.cells.view (remove_acts cell r)) is met.calls in
            quiet_end act' successful calls (subst (λ r. EndsChange name label r o) is ends) (end_by name label act' t (Answers None) y)
        | removal_closed x y ↦
            let is : result ≡ Err (refusal.Closed context) = met.point.2 ∙ ap (result_at context) x in
            let calls = subst (λ r. Calls a.cells.cells.limits a.cells.view b.cells.view (remove_acts cell r)) is met.calls in
            quiet_end act' (refused name label reasons.Closed) calls (subst (λ r. EndsChange name label r o) is ends) (end_by name label act' t (Refuses events.Closed) y)
        | removal_worn x ↦
            let is : result ≡ Err refusal.Exhausted = met.point.2 ∙ ap (result_at context) x in
            absurd (has_room name label reasons.Exhausted o tt finds (subst (λ r. EndsChange name label r o) is ends))
      ]

  -- ---- a put

  put_decided : (kept : ℕ) (result : Result (Option ℕ) (ℕ × Refusal)) → EndsPut name label result o → result ≢ Err (kept, refusal.Contended)
  put_decided kept result ends is = subst (λ r. EndsPut name label r o) is ends

  pub puts_alike : (kept : ℕ) (v : ValueText) → run.meaning.values kept ≡ Some v → value_of t.values t.store.drawn ≡ Some v → (result : Result (Option ℕ) (ℕ × Refusal))
      → Puts run.store context number kept a.cells b.cells result → EndsPut name label result o → EndAlike run places o b (act_ends name label (Put (context, number_of_key t.keys key) t.store.drawn) t)
  unfolding store_core.Puts
  puts_alike kept v ours theirs result made ends =
      let cell : ℕ = cell_of run number context in
      let act' : Act Place = Put (context, number_of_key t.keys key) t.store.drawn in
      let met = made.replied (put_decided kept result ends) in
      let p : History = met.point.0 in
      let here : Matches run places p t = matches_to run places a.cells.view b.cells.view alone p t (answer_first met.calls p met.point.1) matches in
      let old : Bool = is_worn (version_of p cell) in
      let result_of : Reply → Result (Option ℕ) (ℕ × Refusal) = λ r. with_kept kept (result_at context r) in
      elim (put_change run.meaning (plain_meaning t.values) ((state_after p).slots cell) (t.store.slots (context, number_of_key t.keys key)) old (matched_there p here)) [
        | both_happen m n x y ↦
            let is : result ≡ Ok m = met.point.2 ∙ ap result_of x in
            let at = subst (λ r. IsAnswerPoint a.cells.view b.cells.view (put_acts cell kept r) p) is met.point.1 in
            let equal : AreEqualEvents run t (Put cell kept) act' = record {
              context = context;
              key = key;
              number = number;
              numbered = has;
              at_cell = refl;
              there = there;
              at_place = refl;
              same = record { deed = puts v; here = ap (of_value puts) ours; there = ap (of_value puts) theirs; compared = tt };
            } in
            event_end (Put cell kept) act' p here equal at.1 (subst (λ r. EndsPut name label r o) is ends) (end_by name label act' t (Happens n) y)
        | both_closed x y ↦
            let is : result ≡ Err (kept, refusal.Closed context) = met.point.2 ∙ ap result_of x in
            let calls = subst (λ r. Calls a.cells.cells.limits a.cells.view b.cells.view (put_acts cell kept r)) is met.calls in
            quiet_end act' (refused name label reasons.Closed) calls (subst (λ r. EndsPut name label r o) is ends) (end_by name label act' t (Refuses events.Closed) y)
        | worn x ↦
            let is : result ≡ Err (kept, refusal.Exhausted) = met.point.2 ∙ ap result_of x in
            absurd (has_room name label reasons.Exhausted o tt finds (subst (λ r. EndsPut name label r o) is ends))
      ]

  -- what a put leaves: a last event and the same in the plain run, or both as they were
  abbrev pub PutLeaves : ℕ → Type 0
  PutLeaves kept =
      ((p : History) × (seen_by b.cells.view ≡ p ++ by a.cells.view.number (Put (cell_of run number context) kept) ∷ [])
      × ((act_ends name label (Put (context, number_of_key t.keys key) t.store.drawn) t).state ≡ after_event any_lane (Put (context, number_of_key t.keys key) t.store.drawn) t))
      ⊎ (Calls a.cells.cells.limits a.cells.view b.cells.view [] × ((act_ends name label (Put (context, number_of_key t.keys key) t.store.drawn) t).state ≡ t))

  pub puts_leave : (kept : ℕ) (result : Result (Option ℕ) (ℕ × Refusal)) → Puts run.store context number kept a.cells b.cells result → EndsPut name label result o → PutLeaves kept
  unfolding store_core.Puts
  puts_leave kept result made ends =
      let cell : ℕ = cell_of run number context in
      let act' : Act Place = Put (context, number_of_key t.keys key) t.store.drawn in
      let met = made.replied (put_decided kept result ends) in
      let p : History = met.point.0 in
      let here : Matches run places p t = matches_to run places a.cells.view b.cells.view alone p t (answer_first met.calls p met.point.1) matches in
      let old : Bool = is_worn (version_of p cell) in
      let result_of : Reply → Result (Option ℕ) (ℕ × Refusal) = λ r. with_kept kept (result_at context r) in
      elim (put_change run.meaning (plain_meaning t.values) ((state_after p).slots cell) (t.store.slots (context, number_of_key t.keys key)) old (matched_there p here)) [
        | both_happen m n x y ↦
            let is : result ≡ Ok m = met.point.2 ∙ ap result_of x in
            let at = subst (λ r. IsAnswerPoint a.cells.view b.cells.view (put_acts cell kept r) p) is met.point.1 in
            inl (p, at.1, ap (λ (end : StepEnd). end.state) (end_by name label act' t (Happens n) y))
        | both_closed x y ↦
            let is : result ≡ Err (kept, refusal.Closed context) = met.point.2 ∙ ap result_of x in
            let calls = subst (λ r. Calls a.cells.cells.limits a.cells.view b.cells.view (put_acts cell kept r)) is met.calls in
            inr (calls, ap (λ (end : StepEnd). end.state) (end_by name label act' t (Refuses events.Closed) y))
        | worn x ↦
            let is : result ≡ Err (kept, refusal.Exhausted) = met.point.2 ∙ ap result_of x in
            absurd (has_room name label reasons.Exhausted o tt finds (subst (λ r. EndsPut name label r o) is ends))
      ]

-- the events of a put that was not refused because others were in the way
put_calls : (store : StoreView) (context key number : ℕ) (a b : Lane) (result : Result (Option ℕ) (ℕ × Refusal)) → Puts store context key number a b result → result ≢ Err (number, refusal.Contended)
    → Calls a.cells.limits a.view b.view (put_acts (cell_in store key context) number result)
unfolding store_core.Puts
put_calls store context key number a b result made decided = (made.replied decided).calls

-- ---- the steps

pub removes_end_alike : WordEndsAlike words.Remove
removes_end_alike key text up run keys path places a o b s within both (inr (why, refused_key, (same, ends))) =
    absurd (key_found (codes "remove") (label_of keys key) o a b (key_of_step keys key) why both.finds refused_key ends)
removes_end_alike key text up run keys path places a o b s within both (inl (number, has, made)) =
    let label = label_of keys key in
    let name_of = key_of_step keys key in
    let it : IsNamed places name_of s = named places name_of s both.room.keys both.numbered in
    let has_in : HasNumberIn run name_of number = number_stays b.keys run.numbering name_of number both.lane.keys has in
    subst (λ (end : StepEnd). EndAlike run places o b end) (sym (it.goes (codes "remove") label (remove_numbered enough (codes "remove") label (drop up path))))
    (removes_alike run places both.view (codes "remove") label (start_of (drop up path)) name_of number a b o it.state within has_in it.there both.alone both.finds
    (it.matches run (seen_by a.cells.view) both.matches) it.numbered made.result made.removes made.ends)

-- a step that puts this value
module _ (run : RunView) (keys : List KeyText) (path : List ℕ) (places : Places) (name : List ℕ) (key : StepKeyText) (up : ℕ) (v : ValueText) (a : PlanLane) (o : Outcome) (b : PlanLane) (s : ValueState)
    (within : ActsWithin keys path places key up) (both : AreCompared run keys path places name key up a o b s) where
  -- what the plain run does with it
  abbrev put_end : StepEnd
  put_end = put_by enough name (label_of keys key) (start_of (drop up path)) (key_of_step keys key) v s

  not_kept : (why : KeepFault) → EndsUnkept name (label_of keys key) why o → ⊥
  not_kept keep_fault.Memory ends = both.finds.memory ends.0
  not_kept keep_fault.NumbersFull ends = has_room name (label_of keys key) reasons.NumbersFull o tt both.finds ends
  not_kept keep_fault.Contended ends = ends
  not_kept keep_fault.Unplaced ends = has_room name (label_of keys key) reasons.Unplaced o tt both.finds ends

  it : IsNamed places (key_of_step keys key) (keep_value v s)
  it = named places (key_of_step keys key) (keep_value v s) both.room.keys (values_keep_numbered places v s both.room.numbers both.numbered)

  goes : put_end ≡ act_ends name (label_of keys key) (Put (start_of (drop up path), number_of_key it.state.keys (key_of_step keys key)) it.state.store.drawn) it.state
  goes =
      let then : StepEnd = numbered_by enough name (label_of keys key) (key_of_step keys key) (λ number. put_in enough name (label_of keys key) (start_of (drop up path), number)) (keep_value v s) in
      ap (λ r. kept_or_refused enough name (label_of keys key) (plain_refusal r) s then) (draw_happens s both.room.numbers)
      ∙ it.goes name (label_of keys key) (λ number. put_in enough name (label_of keys key) (start_of (drop up path), number))

  last_kept : value_of it.state.values it.state.store.drawn ≡ Some v
  last_kept =
      let number_is : it.state.store.drawn ≡ suc (length s.values) =
      ap (λ (st : State Place). st.drawn) it.drawn ∙ (kept_drawn v s both.room.numbers ∙ (ap (λ n. n + 1) both.numbered.drawn ∙ add-one (length s.values))) in
      ap (λ n. value_of it.state.values n) number_is ∙ (ap (λ vs. value_of vs (suc (length s.values))) it.values ∙ value_last s.values v)

  stored : (made : PutsKept run.store (call_of keys path name key up) v a o b) (number : ℕ) → IsKeyNumber b.keys (key_of_step keys key) number
      → StoresThere run.store (start_of (drop up path)) number name (label_of keys key) made.kept made.between o b → EndAlike run places o b put_end
  stored made number has there =
      let m = made.between in
      let drew = made.keeps.drawn.calls in
      let put_so = put_calls run.store (start_of (drop up path)) number made.kept m.cells b.cells there.result there.puts
      (put_decided_by there.result there.ends made.kept) in
      let first : IsAlone run places a.cells.view m.cells.view = alone_first run places a.cells.view m.cells.view b.cells.view (seen_goes_on put_so) both.alone in
      let later : IsAlone run places m.cells.view b.cells.view = alone_later run places a.cells.view m.cells.view b.cells.view (seen_goes_on drew) (same_number drew) both.alone in
      let before : Matches run places (seen_by a.cells.view) it.state = it.matches run (seen_by a.cells.view) (values_keep_matches run places (seen_by a.cells.view) v s both.matches) in
      let between : Matches run places (seen_by m.cells.view) it.state =
      matches_after run places a.cells.view m.cells.view first (by a.cells.view.number (Keep made.kept) ∷ []) (seen_by m.cells.view) it.state (seen_goes_on drew) ([], append-nil (seen_by m.cells.view)) drew.own_events
      (record { quiet = λ context other n here is. refl }) before in
      let has_in : HasNumberIn run (key_of_step keys key) number = number_stays b.keys run.numbering (key_of_step keys key) number both.lane.keys has in
      let known : known_at b.known made.kept ≡ Some made.kept_value = ap (λ notes. known_at notes made.kept) made.known.0 ∙ made.keeps.learnt.learnt in
      let ours : run.meaning.values made.kept ≡ Some v = both.lane.values made.kept made.kept_value known ∙ ap Some made.value_is in
      subst (λ (end : StepEnd). EndAlike run places o b end) (sym goes)
      (puts_alike run places both.view name (label_of keys key) (start_of (drop up path)) (key_of_step keys key) number m b o it.state within has_in it.there later both.finds between it.numbered
      made.kept v ours last_kept there.result there.puts there.ends)
    where
      put_decided_by : (result : Result (Option ℕ) (ℕ × Refusal)) → EndsPut name (label_of keys key) result o → (kept : ℕ) → result ≢ Err (kept, refusal.Contended)
      put_decided_by result ends kept is = subst (λ r. EndsPut name (label_of keys key) r o) is ends

  pub put_ends_alike : StepPuts run.store (call_of keys path name key up) v a o b → EndAlike run places o b put_end
  put_ends_alike (inr lost) = absurd (not_kept lost.why lost.ends)
  put_ends_alike (inl made) = elim made.stores [
    | inl (number, has, there) ↦ stored made number has there
    | inr (why, refused_key, (same, ends)) ↦ absurd (key_found name (label_of keys key) o made.between b (key_of_step keys key) why both.finds refused_key ends)
  ]

  -- what it leaves: the value is kept, and then put at the place of its key or not
  pub record PutLeft : Type 0 where
    pub kept : ℕ
    pub between : PlanLane
    pub drew : Calls a.cells.cells.limits a.cells.view between.cells.view (Keep kept ∷ [])
    pub goes : IsPrefix (seen_by between.cells.view) (seen_by b.cells.view)
    pub number : ℕ
    pub has : HasNumberIn run (key_of_step keys key) number
    pub named : IsNamed places (key_of_step keys key) (keep_value v s)
    pub leaves : ((p : History) × (seen_by b.cells.view ≡ p ++ by between.cells.view.number (Put (cell_of run number (start_of (drop up path))) kept) ∷ [])
        × (put_end.state ≡ after_event any_lane (Put (start_of (drop up path), number_of_key named.state.keys (key_of_step keys key)) named.state.store.drawn) named.state))
        ⊎ (Calls between.cells.cells.limits between.cells.view b.cells.view [] × (put_end.state ≡ named.state))

  stored_left : (made : PutsKept run.store (call_of keys path name key up) v a o b) (number : ℕ) → IsKeyNumber b.keys (key_of_step keys key) number
      → StoresThere run.store (start_of (drop up path)) number name (label_of keys key) made.kept made.between o b → PutLeft
  stored_left made number has there =
      let m = made.between in
      let drew = made.keeps.drawn.calls in
      let put_so = put_calls run.store (start_of (drop up path)) number made.kept m.cells b.cells there.result there.puts
      (decided_by there.result there.ends made.kept) in
      let first : IsAlone run places a.cells.view m.cells.view = alone_first run places a.cells.view m.cells.view b.cells.view (seen_goes_on put_so) both.alone in
      let later : IsAlone run places m.cells.view b.cells.view = alone_later run places a.cells.view m.cells.view b.cells.view (seen_goes_on drew) (same_number drew) both.alone in
      let before : Matches run places (seen_by a.cells.view) it.state = it.matches run (seen_by a.cells.view) (values_keep_matches run places (seen_by a.cells.view) v s both.matches) in
      let between : Matches run places (seen_by m.cells.view) it.state =
      matches_after run places a.cells.view m.cells.view first (by a.cells.view.number (Keep made.kept) ∷ []) (seen_by m.cells.view) it.state (seen_goes_on drew) ([], append-nil (seen_by m.cells.view)) drew.own_events
      (record { quiet = λ context other n here is. refl }) before in
      let has_in : HasNumberIn run (key_of_step keys key) number = number_stays b.keys run.numbering (key_of_step keys key) number both.lane.keys has in
      let end_is : put_end.state ≡ (act_ends name (label_of keys key) (Put (start_of (drop up path), number_of_key it.state.keys (key_of_step keys key)) it.state.store.drawn) it.state).state = ap (λ (end : StepEnd). end.state) goes in
      record {
        kept = made.kept;
        between = m;
        drew = drew;
        goes = seen_goes_on put_so;
        number = number;
        has = has_in;
        named = it;
        leaves = elim (puts_leave run places both.view name (label_of keys key) (start_of (drop up path)) (key_of_step keys key) number m b o it.state within has_in it.there later both.finds between it.numbered
            made.kept there.result there.puts there.ends) [
              | inl event ↦ inl (event.0, event.1, end_is ∙ event.2)
              | inr none ↦ inr (none.0, end_is ∙ none.1)
            ];
      }
    where
      decided_by : (result : Result (Option ℕ) (ℕ × Refusal)) → EndsPut name (label_of keys key) result o → (kept : ℕ) → result ≢ Err (kept, refusal.Contended)
      decided_by result ends kept is = subst (λ r. EndsPut name (label_of keys key) r o) is ends

  pub put_left : StepPuts run.store (call_of keys path name key up) v a o b → PutLeft
  put_left (inr lost) = absurd (not_kept lost.why lost.ends)
  put_left (inl made) = elim made.stores [
    | inl (number, has, there) ↦ stored_left made number has there
    | inr (why, refused_key, (same, ends)) ↦ absurd (key_found name (label_of keys key) o made.between b (key_of_step keys key) why both.finds refused_key ends)
  ]

pub puts_end_alike : WordEndsAlike words.Put
puts_end_alike key text up run keys path places a o b s within both made = put_ends_alike run keys path places (codes "put") key up (record { text = text; closeable = false }) a o b s within both made

pub closeable_puts_end_alike : WordEndsAlike words.PutCloseable
closeable_puts_end_alike key text up run keys path places a o b s within both made = put_ends_alike run keys path places (codes "put!") key up (record { text = text; closeable = true }) a o b s within both made

-- ---- steps that touch nothing

ends_so : (run : RunView) (places : Places) (text : VerdictText) (a b : PlanLane) (o : Outcome) (s : ValueState) → o.verdict ≢ no_memory → Matches run places (seen_by a.cells.view) s → IsNumbered places s → b ≡ a → Ends text 0 0 o
    → EndAlike run places o b (ended text s)
ends_so run places text a b o s memory matches numbered same ends = record {
  says = said text o.verdict memory ends.says;
  computed = ends.computed_are;
  found = ends.found_are;
  matches = subst (λ (l : PlanLane). Matches run places (seen_by l.cells.view) s) (sym same) matches;
  numbered = numbered;
}

pub fails_end_alike : (text : List ℕ) → EndsAnywhere (fail text)
fails_end_alike text run keys path places a o b s memory matches numbered made = ends_so run places (failed text) a b o s memory matches numbered made.0 made.1

pub aborts_end_alike : (text : List ℕ) → EndsAnywhere (abort text)
aborts_end_alike text run keys path places a o b s memory matches numbered made = ends_so run places (aborted text) a b o s memory matches numbered made.0 made.1
