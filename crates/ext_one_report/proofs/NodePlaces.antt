-- Places between two nodes: those away from the contexts of some nodes, and what stands there as a plain run goes on.
use Rattle.std.proofs.Common.{◌≡◌, ℕ, ◌⊎◌, inl, inr, Bool, true, false, not, ◌&&◌, ◌||◌, ◌==◌, fold, List, [], ◌∷◌, Option, None, Some, refl, ap, sym, subst, ◌∙◌, eq-eqb}
use Rattle.std.specs.Prelude.{Contains}
use Rattle.std.proofs.lemmas.Bool.{eqb-true}
use Rattle.ext_history.proofs.Lists.{bools, contains_cons, contains_here, contains_later, contains_none}
use Rattle.ext_model.specs.History.{History, slots_in}
use Rattle.ext_tree.specs.Keys.{KeyValue}
use Rattle.ext_plan.specs.Plans.{PlanText}
use Rattle.ext_plan.specs.Values.{ValueText}
use Rattle.ext_one_report.specs.Changing.{events_at}
use Rattle.ext_plan_plain.specs.ValueStates.{ValueState, value_of}
use Rattle.ext_one_report.proofs.MatchingWords.{Places, RunView, cell_of, plain_meaning, plain_slot, text_of}
use Rattle.ext_one_report.proofs.StandingsWords.{AreMatched, KnowsMore}
use Rattle.ext_one_report.proofs.Matching.{knows_itself, matches_at_fewer, numbered_at_fewer}
use Rattle.ext_one_report.proofs.OnCells.{same_slot}
use Rattle.ext_one_report.proofs.Standings.{matched_by_more}
use Rattle.ext_one_report.specs.Within.{is_within}
use Rattle.ext_one_report.proofs.PlainFrames.{IsOpen, LeavesElse}
use Rattle.ext_one_report.proofs.Levels.{AreLevel, besides, outside}

-- ---- tests

pub and_both : (a b : Bool) → (a && b) ≡ true → (a ≡ true) × (b ≡ true)
and_both true b is = (refl, is)
and_both false b is = absurd (cc is)

pub and_of : (a b : Bool) → a ≡ true → b ≡ true → (a && b) ≡ true
and_of a b first second = ap (λ x. x && b) first ∙ second

pub or_either : (a b : Bool) → (a || b) ≡ true → (a ≡ true) ⊎ (b ≡ true)
or_either true b is = inl refl
or_either false b is = inr is

pub or_first : (a b : Bool) → a ≡ true → (a || b) ≡ true
or_first a b is = ap (λ x. x || b) is

pub or_second : (a b : Bool) → b ≡ true → (a || b) ≡ true
or_second true b is = refl
or_second false b is = is

pub never : (b : Bool) → (b ≡ true → ⊥) → b ≡ false
never b none = elim (bools b) [ inl is ↦ absurd (none is) | inr not ↦ not ]

pub both_ways : {A : Type 0} (b : Bool) → b ≡ true → b ≡ false → A
both_ways b yes_b no_b = let e : true ≡ false = sym yes_b ∙ no_b in absurd (cc e)

pub from_not : (b : Bool) → not b ≡ true → b ≡ false
from_not true is = absurd (cc is)
from_not false is = refl

-- ---- contexts of nodes, and of those below them

pub found_on : (node : ℕ) (path : List ℕ) (b : Bool) → fold (λ found at. found || (at == node)) b path ≡ true → (b ≡ true) ⊎ Contains path node
found_on node [] b is = inl is
found_on node (at ∷ path) b is = elim (found_on node path (b || (at == node)) is) [
  | inr later ↦ inr (contains_later at path node later)
  | inl here ↦ elim (or_either b (at == node) here) [
    | inl before ↦ inl before
    | inr same ↦ inr (subst (λ k. Contains (k ∷ path) node) (sym (eqb-true at node same)) (contains_here node path))
  ]
]

pub stays_found : (node : ℕ) (path : List ℕ) (b : Bool) → b ≡ true → fold (λ found at. found || (at == node)) b path ≡ true
stays_found node [] b is = is
stays_found node (at ∷ path) b is = stays_found node path (b || (at == node)) (or_first b (at == node) is)

pub on_found : (node : ℕ) (path : List ℕ) (b : Bool) → Contains path node → fold (λ found at. found || (at == node)) b path ≡ true
on_found node [] b there = absurd (contains_none node there)
on_found node (at ∷ path) b there = elim (contains_cons at path node there) [
  | inl same ↦ stays_found node path (b || (at == node)) (or_second b (at == node) (eq-eqb at node same))
  | inr later ↦ on_found node path (b || (at == node)) later
]

module _ (plan : PlanText) where
  -- the context is that of one of these nodes, or of a node below one
  abbrev pub within_any : List ℕ → ℕ → Bool
  within_any [] context = false
  within_any (node ∷ nodes) context = is_within plan node context || within_any nodes context

  -- the places in all other contexts
  abbrev pub away : List ℕ → Places → Places
  away nodes places context key = places context key && not (within_any nodes context)

  pub within_none : (nodes : List ℕ) (context : ℕ) → ((node : ℕ) → Contains nodes node → is_within plan node context ≡ true → ⊥) → within_any nodes context ≡ false
  within_none [] context none = refl
  within_none (node ∷ nodes) context none =
      ap (λ b. b || within_any nodes context) (never (is_within plan node context) (none node (contains_here node nodes)))
      ∙ within_none nodes context (λ n there. none n (contains_later node nodes n there))

  pub within_some : (nodes : List ℕ) (node context : ℕ) → Contains nodes node → is_within plan node context ≡ true → within_any nodes context ≡ true
  within_some [] node context there is = absurd (contains_none node there)
  within_some (first ∷ nodes) node context there is = elim (contains_cons first nodes node there) [
    | inl same ↦ or_first (is_within plan first context) (within_any nodes context) (subst (λ n. is_within plan n context ≡ true) (sym same) is)
    | inr later ↦ or_second (is_within plan first context) (within_any nodes context) (within_some nodes node context later is)
  ]

  pub away_is : (nodes : List ℕ) (places : Places) (context : ℕ) (key : KeyValue) → places context key ≡ true → ((node : ℕ) → Contains nodes node → is_within plan node context ≡ true → ⊥) → away nodes places context key ≡ true
  away_is nodes places context key is none = and_of (places context key) (not (within_any nodes context)) is (ap not (within_none nodes context none))

  pub away_first : (nodes : List ℕ) (places : Places) (context : ℕ) (key : KeyValue) → away nodes places context key ≡ true → places context key ≡ true
  away_first nodes places context key is = (and_both (places context key) (not (within_any nodes context)) is).0

  pub away_from : (nodes : List ℕ) (places : Places) (context : ℕ) (key : KeyValue) → away nodes places context key ≡ true → (node : ℕ) → Contains nodes node → is_within plan node context ≡ true → ⊥
  away_from nodes places context key is node there within =
      both_ways (within_any nodes context) (within_some nodes node context there within) (from_not (within_any nodes context) (and_both (places context key) (not (within_any nodes context)) is).1)

-- the places of some nodes
abbrev pub any_of : (ℕ → Places) → List ℕ → Places
any_of changes [] context key = false
any_of changes (node ∷ nodes) context key = changes node context key || any_of changes nodes context key

pub any_none : (changes : ℕ → Places) (nodes : List ℕ) (context : ℕ) (key : KeyValue) → ((node : ℕ) → Contains nodes node → changes node context key ≡ true → ⊥) → any_of changes nodes context key ≡ false
any_none changes [] context key none = refl
any_none changes (node ∷ nodes) context key none =
    ap (λ b. b || any_of changes nodes context key) (never (changes node context key) (none node (contains_here node nodes)))
    ∙ any_none changes nodes context key (λ n there. none n (contains_later node nodes n there))

-- ---- what stands at a place

text_kept : (o more : Option ValueText) (text : List ℕ) → ((v : ValueText) → o ≡ Some v → more ≡ Some v) → text_of o ≡ Some text → text_of more ≡ Some text
text_kept None more text stays is = absurd (cc is)
text_kept (Some v) more text stays is = ap text_of (stays v refl) ∙ is

module _ (changes : Places) (closes : ℕ → Bool) (s t : ValueState) (leaves : LeavesElse changes closes s t) where
  knows : KnowsMore (plain_meaning s.values) (plain_meaning t.values)
  knows = record {
    values = λ number v is. leaves.values number v is;
    faults = λ number text is. text_kept (value_of s.values number) (value_of t.values number) text (λ v known. leaves.values number v known) is;
  }

  -- the same stands at a place that was not changed in the plain run, after a history that has the same events on its cell
  pub carried : (run : RunView) (g h : History) (context : ℕ) (key : KeyValue) (number : ℕ) → changes context key ≡ false → closes context ≡ false → IsOpen context s
      → events_at (cell_of run number context) h ≡ events_at (cell_of run number context) g
      → AreMatched run.meaning (plain_meaning s.values) (slots_in (cell_of run number) g context) (plain_slot s context key)
      → AreMatched run.meaning (plain_meaning t.values) (slots_in (cell_of run number) h context) (plain_slot t context key)
  carried run g h context key number off still clear same matched =
      let more : AreMatched run.meaning (plain_meaning t.values) (slots_in (cell_of run number) g context) (plain_slot s context key) =
      matched_by_more run.meaning (plain_meaning s.values) run.meaning (plain_meaning t.values) (slots_in (cell_of run number) g context) (plain_slot s context key) (knows_itself run.meaning) knows matched in
      let here : slots_in (cell_of run number) g context ≡ slots_in (cell_of run number) h context = same_slot g h (cell_of run number context) (sym same) in
      subst (λ y. AreMatched run.meaning (plain_meaning t.values) (slots_in (cell_of run number) h context) y) (sym (leaves.slots context key off still clear))
      (subst (λ x. AreMatched run.meaning (plain_meaning t.values) x (plain_slot s context key)) here more)

-- ---- fewer places

pub level_fewer : (plan : PlanText) (run : RunView) (places fewer : Places) (h : History) (s : ValueState) → ((context : ℕ) (key : KeyValue) → fewer context key ≡ true → places context key ≡ true) → AreLevel plan run places h s
    → AreLevel plan run fewer h s
level_fewer plan run places fewer h s among level = record {
  matches = matches_at_fewer run places fewer h s among level.matches;
  numbered = numbered_at_fewer places fewer s among level.numbered;
  memory = level.memory;
  keeps = level.keeps;
  gave = level.gave;
  of_plan = level.of_plan;
}

-- places in contexts that are neither the node's nor below it are in other contexts than this
pub beyond_own : (plan : PlanText) (node : ℕ) (places : Places) → is_within plan node node ≡ true → (context : ℕ) (key : KeyValue) → outside plan node places context key ≡ true → besides node places context key ≡ true
beyond_own plan node places own context key is =
    let both = and_both (places context key) (not (is_within plan node context)) is in
    and_of (places context key) (not (context == node)) both.0
    (ap not (never (context == node) (λ same.
    both_ways (is_within plan node context) (subst (λ c. is_within plan node c ≡ true) (sym (eqb-true context node same)) own) (from_not (is_within plan node context) both.1))))
