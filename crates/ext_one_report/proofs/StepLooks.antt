-- Look-ups on a lane that is alone on their places show what those of a plain run show.
use Rattle.std.proofs.Common.{◌≡◌, ◌≢◌, ℕ, ◌⊎◌, inl, inr, true, List, [], drop, refl, ap, sym, subst, ◌∙◌, Option, None, Some}
use Rattle.std.specs.Prelude.{All, Result, Ok, codes, string_bytes}
use Rattle.std.proofs.lemmas.List.Elements.{All-weaker}
use Rattle.ext_history.specs.Histories.{seen_by}
use Rattle.ext_history.proofs.Composed.{quiet_point, seen_is_point}
use Rattle.ext_model.specs.declared.look.Fault.{Fault}
use Rattle.ext_model.specs.declared.look.Fault.TheVariants as faults
use Rattle.ext_model.specs.declared.look.Look.{Look}
use Rattle.ext_model.specs.declared.look.Look.TheVariants as look
use Rattle.ext_model.specs.Plain.{under}
use Rattle.ext_model.specs.History.{History, slots_in}
use Rattle.ext_model.specs.CallActs.{LaneView, IsPointAfter, look_after}
use Rattle.ext_tree.specs.Keys.{KeyValue, IsKeyNumber}
use Rattle.ext_tree.specs.declared.key_fault.KeyFault.{KeyFault}
use Rattle.ext_tree.specs.declared.key_fault.KeyFault.TheVariants as key_fault
use Rattle.ext_tree.specs.Trees.{IsTree, IsPathOf}
use Rattle.ext_tree.proofs.Walks.{one_path}
use Rattle.ext_tree.proofs.KeyPlacing.{number_stays}
use Rattle.ext_lifecycle.specs.declared.outcome.Outcome.{Outcome}
use Rattle.ext_lifecycle.specs.declared.outcome.Verdict.{Verdict}
use Rattle.ext_lifecycle.specs.Endings.{successful, aborted, failed}
use Rattle.ext_lifecycle.specs.FaultTexts.{VerdictText, verdict_text}
use Rattle.ext_plan.specs.declared.reason.Reason.{Reason}
use Rattle.ext_plan.specs.declared.reason.Reason.TheVariants as reasons
use Rattle.ext_plan.specs.declared.word.Word.TheVariants as words
use Rattle.ext_plan.specs.Plans.{KeyText, StepKeyText}
use Rattle.ext_plan.specs.StepCalls.{call_of, label_of, start_of}
use Rattle.ext_plan.specs.StoreKeys.{is_there, key_of_step, number_of_key}
use Rattle.ext_plan.specs.Values.{ValueText}
use Rattle.ext_plan.specs.Verdicts.{SeenText, seen_value, seen_fault, seen_nothing, seen_refused, refused, want_verdict, none_verdict}
use Rattle.ext_store_core.specs.ContextCalls as store_core
use Rattle.ext_store_core.specs.declared.fault.Refusal.{Refusal}
use Rattle.ext_cells.specs.Lanes.{Lane}
use Rattle.ext_store.specs.Stores.{StoreView, cell_in}
use Rattle.ext_store.specs.LaneCalls.{Gets, IsKeyRefused, key_refusal}
use Rattle.ext_plan_plain.specs.ValueStates.{ValueState, enough, value_of}
use Rattle.ext_plan_plain.specs.StepRuns.{StepEnd, ended, found_along, seen_by as plain_seen, shown, shown_fault, want_numbered, none_numbered}
use Rattle.ext_plan_parallel.specs.Saying.{Says, Ends, EndsRefused, no_memory}
use Rattle.ext_plan_parallel.specs.StoreCalls.{PlanLane, Sees, Shows, fault_seen, stored_view}
use Rattle.ext_plan_parallel.specs.StoreSteps.{StepLooks}
use Rattle.ext_one_report.proofs.StandingsWords.{Shown, absent, found, met, closed, fault_shown, value_shown, shown_of, AreMatched, ShowTheSame}
use Rattle.ext_one_report.proofs.MatchingWords.{RunView, HasNumberIn, Places, Matches, cell_of, plain_meaning, text_of}
use Rattle.ext_one_report.proofs.StepsWords.{IsLaneIn, AreCompared, LooksWithin, EndAlike, WordEndsAlike, words_of}
use Rattle.ext_one_report.specs.FullRuns.{IsForRoom, FindsAll}
use Rattle.ext_one_report.proofs.Standings.{matched_looks}
use Rattle.ext_one_report.proofs.Matching.{plain_there}
use Rattle.ext_one_report.proofs.NodesAlone.{matches_to}
use Rattle.ext_one_report.proofs.Numbered.{IsNamed, named}

-- ---- what a step says

-- what is said is said, where there was memory
pub said : (text : VerdictText) (verdict : Verdict) → verdict ≢ no_memory → Says text verdict → verdict_text verdict ≡ text
said successful verdict memory says = says
said (aborted text) verdict memory (inl is) = is
said (aborted text) verdict memory (inr none) = absurd (memory none)
said (failed text) verdict memory (inl is) = is
said (failed text) verdict memory (inr none) = absurd (memory none)

-- a step that finds all is not refused for want of room
pub has_room : (name label : List ℕ) (why : Reason) (outcome : Outcome) → IsForRoom why → FindsAll name label outcome → Ends (refused name label why) 0 0 outcome → ⊥
has_room name label why outcome room finds ends = finds.room why room (said (refused name label why) outcome.verdict finds.memory ends.says)

-- nor for its key
key_found_by : (name label : List ℕ) (outcome : Outcome) (fault : KeyFault) → FindsAll name label outcome → EndsRefused name label (key_refusal fault) outcome → ⊥
key_found_by name label outcome key_fault.DirectoryFull finds ends = has_room name label reasons.DirectoryFull outcome tt finds ends
key_found_by name label outcome key_fault.Unplaced finds ends = ends
key_found_by name label outcome key_fault.Memory finds ends = finds.memory ends.0

pub key_found : (name label : List ℕ) (outcome : Outcome) (a b : PlanLane) (key : KeyValue) (why : Refusal) → FindsAll name label outcome → IsKeyRefused a b key why → EndsRefused name label why outcome → ⊥
key_found name label outcome a b key why finds refused ends = key_found_by name label outcome refused.fault finds (subst (λ w. EndsRefused name label w outcome) refused.why_is ends)

-- ---- what is shown

-- what a step is shown, by what stands there
abbrev pub seen_of : Shown ValueText (List ℕ) → SeenText
seen_of absent = seen_nothing
seen_of (found at v) = seen_value v.text
seen_of (met at text) = seen_fault text
seen_of (closed at) = seen_refused reasons.Closed

pub some_is : {A : Type 0} (x y : A) → Some x ≡ Some y → x ≡ y
some_is x y e = cc e

pub plain_value : (at : ℕ) (o : Option ValueText) (what : Shown ValueText (List ℕ)) → value_shown at o ≡ Some what → shown o ≡ seen_of what
plain_value at None what is = absurd (cc is)
plain_value at (Some v) what is = let e : found at v ≡ what = some_is (found at v) what is in ap seen_of e

pub plain_fault : (at : ℕ) (o : Option ValueText) (what : Shown ValueText (List ℕ)) → fault_shown at (text_of o) ≡ Some what → shown_fault o ≡ seen_of what
plain_fault at None what is = absurd (cc is)
plain_fault at (Some v) what is = let e : met at v.text ≡ what = some_is (met at v.text) what is in ap seen_of e

-- in a plain run
pub plain_shows : (values : List ValueText) (answer : Look) (what : Shown ValueText (List ℕ)) → shown_of (plain_meaning values) answer ≡ Some what → plain_seen values answer ≡ seen_of what
plain_shows values (look.Found at number) what is = plain_value at (value_of values number) what is
plain_shows values (look.Fault at number) what is = plain_fault at (value_of values number) what is
plain_shows values look.Absent what is = let e : absent ≡ what = some_is absent what is in ap seen_of e
plain_shows values (look.Busy at) what is = absurd (cc is)
plain_shows values (look.Closed at) what is = let e : closed at ≡ what = some_is (closed at) what is in ap seen_of e

value_there : (at : ℕ) (o : Option ValueText) (what : Shown ValueText (List ℕ)) (v : ValueText) → value_shown at o ≡ Some what → o ≡ Some v → seen_value v.text ≡ seen_of what
value_there at o what v is known = let e : found at v ≡ what = some_is (found at v) what (sym (ap (value_shown at) known) ∙ is) in ap seen_of e

fault_there : (at : ℕ) (o : Option (List ℕ)) (what : Shown ValueText (List ℕ)) (why : Fault) → fault_shown at o ≡ Some what → o ≡ words_of why → fault_seen why ≡ seen_of what
fault_there at o what (faults.Text text) is known = let e : met at (string_bytes text) ≡ what = some_is (met at (string_bytes text)) what (sym (ap (fault_shown at) known) ∙ is) in ap seen_of e
fault_there at o what faults.Memory is known = let e : None ≡ Some what = sym (ap (fault_shown at) known) ∙ is in absurd (cc e)

-- and on a lane, unless it is not shown what stands there
pub lane_shows : (run : RunView) (a b : PlanLane) (answer : Look) (seen : SeenText) (what : Shown ValueText (List ℕ)) → IsLaneIn run b → shown_of run.meaning answer ≡ Some what → Shows answer a seen b
    → (seen ≡ seen_of what) ⊎ (seen ≡ seen_refused reasons.NotShown)
lane_shows run a b (look.Found at number) seen what lane is (same, inl (value, learnt, seen_is)) =
    inl (seen_is ∙ value_there at (run.meaning.values number) what (stored_view value) is (lane.values number value learnt.learnt))
lane_shows run a b (look.Found at number) seen what lane is (same, inr (none, still, seen_is)) = inr seen_is
lane_shows run a b (look.Fault at number) seen what lane is (same, inl (why, learnt, seen_is)) =
    inl (seen_is ∙ fault_there at (run.meaning.faults number) what why is (lane.faults number why learnt.learnt))
lane_shows run a b (look.Fault at number) seen what lane is (same, inr (none, still, seen_is)) = inr seen_is
lane_shows run a b look.Absent seen what lane is (same, seen_is) = let e : absent ≡ what = some_is absent what is in inl (seen_is ∙ ap seen_of e)
lane_shows run a b (look.Busy at) seen what lane is shown = absurd shown
lane_shows run a b (look.Closed at) seen what lane is (same, seen_is) = let e : closed at ≡ what = some_is (closed at) what is in inl (seen_is ∙ ap seen_of e)

-- ---- the look-up

-- after a history and in a state of a plain run that match along a path, look-ups along it show the same
pub looks_same : (run : RunView) (places : Places) (h : History) (s : ValueState) (key : KeyValue) (number : ℕ) (path : List ℕ) → Matches run places h s → HasNumberIn run key number → is_there s.keys key ≡ true
    → All (λ c. places c key ≡ true) path → ShowTheSame run.meaning (plain_meaning s.values) (look_after (cell_of run number) path h) (found_along (number_of_key s.keys key) path s)
looks_same run places h s key number path matches has there within =
    matched_looks run.meaning (plain_meaning s.values) (slots_in (cell_of run number) h) (under s.store (number_of_key s.keys key)) path
    (All-weaker (λ c. places c key ≡ true) (λ c. AreMatched run.meaning (plain_meaning s.values) (slots_in (cell_of run number) h c) (under s.store (number_of_key s.keys key) c))
    (λ c is. subst (λ x. AreMatched run.meaning (plain_meaning s.values) (slots_in (cell_of run number) h c) x) (plain_there s c key there) (matches.slots c key number is has)) path within)

-- The point of a look-up, along the path of its context, and the point at which the lane sees all of it. The lane makes no event
pub record LookPoint (store : StoreView) (key : ℕ) (path : List ℕ) (a b : LaneView) (answer : Look) : Type 0 where
  pub at : History
  pub point : IsPointAfter a b [] at
  pub last : IsPointAfter a b [] (seen_by b)
  pub is : answer ≡ look_after (cell_in store key) path at

ok_is : {A E : Type 0} (x y : A) → ◌≡◌ {A = Result A E} (Ok x) (Ok y) → x ≡ y
ok_is x y e = cc e

pub look_point : (store : StoreView) (context key : ℕ) (path : List ℕ) (a b : Lane) (answer : Look) → IsTree store.tree → IsPathOf store.tree context path → Gets store context key a b (Ok answer)
    → LookPoint store key path a.view b.view answer
unfolding store_core.Gets
look_point store context key path a b answer tree is gets =
    let holds = gets.2.looked.replied (λ e. absurd (cc e)) in
    let same : gets.0 ≡ path = one_path store.tree tree context gets.0 path gets.1 is in
    record {
      at = holds.point.0;
      point = quiet_point holds.calls holds.point.0 holds.point.1;
      last = seen_is_point holds.calls;
      is = ok_is answer _ holds.point.2 ∙ ap (λ w. look_after (cell_in store key) w holds.point.0) same;
    }

-- ---- the steps

-- how a look-up of a plain run ends
abbrev look_end : (SeenText → VerdictText) → List ℕ → ℕ → ValueState → StepEnd
look_end verdict path number s = ended (verdict (plain_seen s.values (found_along number path s))) s

module _ (run : RunView) (keys : List KeyText) (path : List ℕ) (places : Places) (name : List ℕ) (key : StepKeyText) (up : ℕ) (a : PlanLane) (o : Outcome) (b : PlanLane) (s : ValueState)
    (verdict : SeenText → VerdictText) (refusing : (why : Reason) → verdict (seen_refused why) ≡ refused name (label_of keys key) why)
    (within : LooksWithin keys path places key up) (both : AreCompared run keys path places name key up a o b s) where
  abbrev it : IsNamed places (key_of_step keys key) s
  it = named places (key_of_step keys key) s both.room.keys both.numbered

  look_alike : (number : ℕ) → IsKeyNumber b.keys (key_of_step keys key) number → (seen : SeenText) → Sees run.store (start_of (drop up path)) number a seen b → Ends (verdict seen) 0 0 o
      → EndAlike run places o b (look_end verdict (drop up path) (number_of_key it.state.keys (key_of_step keys key)) it.state)
  look_alike number has seen sees ends =
      let has_in : HasNumberIn run (key_of_step keys key) number = number_stays b.keys run.numbering (key_of_step keys key) number both.lane.keys has in
      let at = look_point run.store (start_of (drop up path)) number (drop up path) a.cells b.cells sees.answer both.tree both.path_is sees.looked in
      let before : Matches run places (seen_by a.cells.view) it.state = it.matches run (seen_by a.cells.view) both.matches in
      let here : Matches run places at.at it.state = matches_to run places a.cells.view b.cells.view both.alone at.at it.state at.point before in
      let plain : Look = found_along (number_of_key it.state.keys (key_of_step keys key)) (drop up path) it.state in
      let same : ShowTheSame run.meaning (plain_meaning it.state.values) (look_after (cell_of run number) (drop up path) at.at) plain = looks_same run places at.at it.state (key_of_step keys key) number (drop up path) here has_in it.there within in
      let ours : shown_of run.meaning sees.answer ≡ Some same.shown = ap (shown_of run.meaning) at.is ∙ same.here in
      let theirs : plain_seen it.state.values plain ≡ seen_of same.shown = plain_shows it.state.values plain same.shown same.there in
      let shown_so : seen ≡ plain_seen it.state.values plain = elim (lane_shows run a b sees.answer seen same.shown both.lane ours sees.shown) [
        | inl is ↦ is ∙ sym theirs
        | inr hidden ↦ absurd (has_room name (label_of keys key) reasons.NotShown o tt both.finds (subst (λ v. Ends v 0 0 o) (ap verdict hidden ∙ refusing reasons.NotShown) ends))
      ] in
      record {
        says = said (verdict seen) o.verdict both.finds.memory ends.says ∙ ap verdict shown_so;
        computed = ends.computed_are;
        found = ends.found_are;
        matches = matches_to run places a.cells.view b.cells.view both.alone (seen_by b.cells.view) it.state at.last before;
        numbered = it.numbered;
      }

  pub looks_end_alike : StepLooks run.store (call_of keys path name key up) verdict a o b → EndAlike run places o b (look_end verdict (drop up path) (number_of_key it.state.keys (key_of_step keys key)) it.state)
  looks_end_alike (inl (number, has, (seen, sees, ends))) = look_alike number has seen sees ends
  looks_end_alike (inr (why, refused_key, (same, ends))) = absurd (key_found name (label_of keys key) o a b (key_of_step keys key) why both.finds refused_key ends)

pub wants_end_alike : WordEndsAlike words.Want
wants_end_alike key text up run keys path places a o b s within both looks =
    let label = label_of keys key in
    let it : IsNamed places (key_of_step keys key) s = named places (key_of_step keys key) s both.room.keys both.numbered in
    subst (λ (end : StepEnd). EndAlike run places o b end) (sym (it.goes (codes "want") label (want_numbered enough (codes "want") label (drop up path) text)))
    (looks_end_alike run keys path places (codes "want") key up a o b s (want_verdict (codes "want") label text) (λ why. refl) within both looks)

pub nones_end_alike : WordEndsAlike words.None
nones_end_alike key text up run keys path places a o b s within both looks =
    let label = label_of keys key in
    let it : IsNamed places (key_of_step keys key) s = named places (key_of_step keys key) s both.room.keys both.numbered in
    subst (λ (end : StepEnd). EndAlike run places o b end) (sym (it.goes (codes "none") label (none_numbered enough (codes "none") label (drop up path))))
    (looks_end_alike run keys path places (codes "none") key up a o b s (none_verdict (codes "none") label) (λ why. refl) within both looks)
