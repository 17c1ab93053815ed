-- Numbers that stand at a place have been drawn: on the lanes of a legal history, and in a plain run.
use Rattle.std.proofs.Common.{◌≡◌, ℕ, zero, suc, ◌≤◌, true, inl, inr, List, length, Contains, IfSome, Some, ap, sym, subst, ◌∙◌, arith}
use Rattle.std.proofs.lemmas.Option.{slice_get_within}
use Rattle.ext_history.proofs.Lists.{bools}
use Rattle.ext_model.specs.declared.event.Act.TheVariants.{Keep}
use Rattle.ext_model.specs.History.{History, IsLegal, Limits, by, slots_in, state_after}
use Rattle.ext_model.proofs.Numbers.{bounded}
use Rattle.ext_model.proofs.Stored.{drew_own}
use Rattle.ext_plan.specs.Plans.{PlanText}
use Rattle.ext_plan.specs.StoreKeys.{is_there, number_of_key}
use Rattle.ext_plan.specs.Values.{ValueText}
use Rattle.ext_plan_plain.specs.ValueStates.{ValueState, value_of}
use Rattle.ext_tree.specs.Keys.{KeyValue}
use Rattle.ext_one_report.proofs.MatchingWords.{HasNumberIn, IsNumbered, Matches, Places, RunView, cell_of, plain_meaning, plain_slot}
use Rattle.ext_one_report.proofs.Matching.{plain_none, plain_there}
use Rattle.ext_one_report.proofs.OfPlan.{IsOfPlan, value_in}
use Rattle.ext_one_report.proofs.OfPlanStates.{value_number}
use Rattle.ext_one_report.proofs.Orders.{HaveDrawn, Orders, StandWith}
use Rattle.ext_one_report.proofs.OrdersLaws.{stood_there}
use Rattle.ext_one_report.proofs.OrdersMatched.{matched_value}
use Rattle.ext_one_report.proofs.Stored.{are_stored}

pub lanes_drew : (limits : Limits) (h : History) (cell a : ℕ) → IsLegal limits h → value_in ((state_after h).slots cell) ≡ Some a → a ≤ (state_after h).drawn
lanes_drew limits h cell a legal is =
    let w = (are_stored h legal).was cell a (value_number ((state_after h).slots cell) a is) in
    let drew : Contains h (by w.event.lane (Keep a)) = subst (λ o. IfSome o (λ n. Contains h (by w.event.lane (Keep n)))) w.stores (drew_own h legal w.event w.among) in
    (bounded h legal).kept w.event.lane a drew

pub plain_drew : (plan : PlanText) (t : ValueState) (context : ℕ) (key : KeyValue) (b : ℕ) → IsOfPlan plan t → value_in (plain_slot t context key) ≡ Some b → b ≤ t.store.drawn
plain_drew plan t context key b of is = elim (bools (is_there t.keys key)) [
  | inl there ↦
      let stands : value_in (t.store.slots (context, number_of_key t.keys key)) ≡ Some b = ap value_in (sym (plain_there t context key there)) ∙ is in
      (of.drawn (context, number_of_key t.keys key) b (value_number (t.store.slots (context, number_of_key t.keys key)) b stands)).1
  | inr absent ↦ absurd (cc (sym (ap value_in (plain_none t context key absent)) ∙ is))
]

pub have_drawn : (plan : PlanText) (run : RunView) (places : Places) (limits : Limits) (h : History) (t : ValueState) → IsLegal limits h → IsOfPlan plan t → HaveDrawn run places h t
have_drawn plan run places limits h t legal of = record {
  drew = λ context key a b v is stands means. (lanes_drew limits h (cell_of run stands.number context) a legal stands.lanes, plain_drew plan t context key b of stands.plain);
}

-- a number of a value is one of those that were drawn
known_few : (values : List ValueText) (b : ℕ) (v : ValueText) → value_of values b ≡ Some v → b ≤ length values
known_few values zero v is = omega arith
known_few values (suc n) v is = let less = slice_get_within values n v is in omega (arith, less)

-- so it is too where the same stands in both
pub matched_drawn : (run : RunView) (places : Places) (limits : Limits) (h : History) (t : ValueState) → IsLegal limits h → Matches run places h t → IsNumbered places t → HaveDrawn run places h t
matched_drawn run places limits h t legal matches numbered = record {
  drew = λ context key a b v is stands means.
      let x = slots_in (cell_of run stands.number) h context in
      let y = plain_slot t context key in
      let known = matched_value run.meaning (plain_meaning t.values) x y a b v (matches.slots context key stands.number is stands.has) stands.lanes stands.plain means in
      let few = known_few t.values b v known in
      let count = numbered.drawn in
      (lanes_drew limits h (cell_of run stands.number context) a legal stands.lanes, omega (arith, few, count));
}

-- where all that stands stood before, and the same stood in both runs, nothing is new
pub orders_old : (run : RunView) (places : Places) (g h : History) (s t : ValueState) → Matches run places g s → IsNumbered places s
    → ((context : ℕ) (key : KeyValue) (a b : ℕ) → places context key ≡ true → StandWith run context key h t a b → StandWith run context key g s a b) → Orders run places g h s t
orders_old run places g h s t matches numbered stood = record {
  each = λ context key a b v is stands means fails. inl (stood context key a b is stands);
  pairs = λ context key other a b c d v w is also stands more means meant fails failed differ new new' less.
      let was = stood context key a b is stands in
      let x = slots_in (cell_of run was.number) g context in
      let y = plain_slot s context key in
      let known = matched_value run.meaning (plain_meaning s.values) x y a b v (matches.slots context key was.number is was.has) was.lanes was.plain means in
      let few = known_few s.values b v known in
      let count = numbered.drawn in
      let late = new.1 in
      absurd (omega (arith, few, count, late));
}

-- so it is where the slots are as before
pub orders_kept : (run : RunView) (places : Places) (g h : History) (s t : ValueState) → Matches run places g s → IsNumbered places s
    → ((context : ℕ) (key : KeyValue) (number : ℕ) → places context key ≡ true → HasNumberIn run key number → slots_in (cell_of run number) h context ≡ slots_in (cell_of run number) g context)
    → ((context : ℕ) (key : KeyValue) → places context key ≡ true → plain_slot t context key ≡ plain_slot s context key) → Orders run places g h s t
orders_kept run places g h s t matches numbered lanes plain =
    orders_old run places g h s t matches numbered
    (λ context key a b is stands. stood_there run g h s t context key a b (λ number has. lanes context key number is has) (plain context key is) stands)
