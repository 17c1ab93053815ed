-- Fills of a cell between two moments of a history, where all events there compute one thing: there is at most one, and there is one if that is a value, nothing stood there first and the value stands there in the end.
use Rattle.std.proofs.Common.{◌≡◌, ℕ, suc, ◌+◌, ◌<◌, ◌≤◌, ◌⊎◌, inl, inr, true, [], ◌∷◌, ◌++◌, length, length-append, Option, Some, None, fold, refl, ap, sym, subst, ◌∙◌, arith, append_assoc, nat_eq, eq-eqb}
use Rattle.std.specs.Prelude.{if◌then◌else◌, slice_get}
use mathlib.Core.List.{IsPrefix}
use Rattle.std.proofs.lemmas.Bool.{cases_lt, eqb-true}
use Rattle.std.proofs.lemmas.Option.{slice_get_within}
use Rattle.ext_history.proofs.Lists.{bools}
use Rattle.ext_model.specs.declared.event.Act.{Act}
use Rattle.ext_model.specs.declared.event.Act.TheVariants.{Keep, Put, Remove, Claim, Fill, Fail, Abandon, Seal}
use Rattle.ext_model.specs.declared.event.Event.{Event}
use Rattle.ext_model.specs.declared.slot.Slot.{Slot}
use Rattle.ext_model.specs.declared.slot.Slot.TheVariants as slot
use Rattle.ext_model.specs.Events.{apply, is_on, place_of, slot_after}
use Rattle.ext_model.specs.History.{History, IsLegal, Limits, slots_in, state_after}
use Rattle.ext_model.specs.State.{State}
use Rattle.ext_model.proofs.Versions.{after-append}
use Rattle.ext_model.proofs.Words.{after-push}
use Rattle.ext_plan.specs.Values.{ValueText}
use Rattle.ext_one_report.proofs.Events.{behind_part, cut_there, in_part, in_whole}
use Rattle.ext_one_report.proofs.MatchingWords.{RunView, TextMeaning, cell_of}
use Rattle.ext_one_report.proofs.Open.{Computes, Given, IsEntry, Stands, of_fault, of_nothing, of_value}
use Rattle.ext_one_report.proofs.Sees.{at_place}
use Rattle.ext_one_report.proofs.SharedNodesCells.{Between, none_between, stands_stay}

-- ---- the words

-- an event between these two parts of a history fills the cell
pub record IsFilledBetween (h g j : History) (cell : ℕ) : Type 0 where
  pub place : ℕ
  pub event : Event ℕ
  pub value : ℕ
  pub low : length g ≤ place
  pub high : place < length j
  pub there : slice_get h place ≡ Some event
  pub act : event.act ≡ Fill cell value

-- two fills of it are one: after the first the value stands there, and nobody claims such a cell
abbrev pub FilledOnce : Type 0
FilledOnce =
    (run : RunView) (limits : Limits) (h g j : History) (context number : ℕ) (v : Given) → IsLegal limits h → IsPrefix g j → IsPrefix j h → Between h g j (cell_of run number context) (Computes run v)
    → (p q : ℕ) (one other : Event ℕ) (value also : ℕ) → length g ≤ p → p < length j → length g ≤ q → q < length j → slice_get h p ≡ Some one → slice_get h q ≡ Some other
    → one.act ≡ Fill (cell_of run number context) value → other.act ≡ Fill (cell_of run number context) also → p ≡ q

-- where nothing stood and the value came to stand there, it was filled meanwhile
abbrev pub FilledSince : Type 0
FilledSince =
    (run : RunView) (h g j : History) (context number : ℕ) (v : ValueText) → IsPrefix g j → IsPrefix j h → Between h g j (cell_of run number context) (Computes run (of_value v))
    → slots_in (cell_of run number) g context ≡ None → Stands run.meaning (of_value v) (slots_in (cell_of run number) j context) → IsFilledBetween h g j (cell_of run number context)

-- ---- where it is filled, the value stands

is_on_itself : (cell value : ℕ) (act : Act ℕ) → act ≡ Fill cell value → is_on nat_eq cell act ≡ true
is_on_itself cell value act is = ap (is_on nat_eq cell) is ∙ eq-eqb cell cell refl

-- an entry that is so stands there
stands_as : (meaning : TextMeaning) (v : Given) (x : Option Slot) (value : ℕ) → x ≡ Some (slot.Entry value) → IsEntry meaning v value → Stands meaning v x
stands_as meaning (of_value w) x value there is = record { number = value; there = there; means = is }
stands_as meaning (of_fault text) x value there is = absurd is
stands_as meaning (of_nothing text) x value there is = absurd is

-- the value stands directly after a fill
stands_after : (run : RunView) (v : Given) (before : History) (e : Event ℕ) (cell value : ℕ) → e.act ≡ Fill cell value → Computes run v e.act → Stands run.meaning v ((state_after (before ++ e ∷ [])).slots cell)
stands_after run v before e cell value is computes =
    let old : Option Slot = (state_after before).slots cell in
    let here : (apply nat_eq (state_after before) e).slots cell ≡ slot_after e.lane e.act old = ap (λ b. if b then slot_after e.lane e.act old else old) (is_on_itself cell value e.act is) in
    stands_as run.meaning v ((state_after (before ++ e ∷ [])).slots cell) value (ap (λ (s : State ℕ). s.slots cell) (after-push before e) ∙ (here ∙ ap (λ (act : Act ℕ). slot_after e.lane act old) is))
    (subst (Computes run v) is computes)

module _ (run : RunView) (limits : Limits) (h g j : History) (cell : ℕ) (v : Given) (legal : IsLegal limits h) (within : IsPrefix j h) (computed : Between h g j cell (Computes run v)) where
  -- after a fill there is no other event
  none_later : (p q : ℕ) (one other : Event ℕ) (value also : ℕ) → length g ≤ p → p < q → q < length j → slice_get h p ≡ Some one → slice_get h q ≡ Some other → one.act ≡ Fill cell value → other.act ≡ Fill cell also → ⊥
  none_later p q one other value also low less high there_p there_q is is_also =
      let in_j : slice_get j p ≡ Some one = in_part j within.0 p one (omega (arith, less, high)) (subst (λ (l : History). slice_get l p ≡ Some one) (sym within.1) there_p) in
      let cut = cut_there j p one in_j in
      let before : History = cut.0 in
      let size = cut.3 in
      let up_to : History = before ++ one ∷ [] in
      let goes : IsPrefix up_to j = (cut.1, append_assoc before (one ∷ []) cut.1 ∙ sym cut.2) in
      let long : length up_to ≡ suc p = let e = length-append before (one ∷ []) in omega (arith, e, size) in
      let since : Between h up_to j cell (Computes run v) = λ place event after until there on. computed place event (omega (arith, long, low, after)) until there on in
      let stands = stands_after run v before one cell value is (computed p one low (omega (arith, less, high)) there_p (ap place_of is)) in
      let quiet = stands_stay h up_to j goes within cell run limits v legal stands since in
      none_between h up_to j goes within cell quiet q other (omega (arith, long, less)) high there_q (ap place_of is_also)

pub filled_once : FilledOnce
filled_once run limits h g j context number v legal on within computed p q one other value also low_p high_p low_q high_q there_p there_q is is_also =
    let cell : ℕ = cell_of run number context in
    elim (cases_lt p q) [
      | inl less ↦ absurd (none_later run limits h g j cell v legal within computed p q one other value also low_p less high_q there_p there_q is is_also)
      | inr most ↦ elim (cases_lt q p) [
        | inl less ↦ absurd (none_later run limits h g j cell v legal within computed q p other one also value low_q less high_p there_q there_p is_also is)
        | inr least ↦ omega (arith, most, least)
      ]
    ]

-- ---- where it stands, it was filled

-- what an event of those who compute there leaves in its cell: no value, if it is no fill
fills_or_none : (run : RunView) (v : Given) (cell lane : ℕ) (act : Act ℕ) (x : Option Slot) → is_on nat_eq cell act ≡ true → Computes run v act
    → ((value : ℕ) × (act ≡ Fill cell value)) ⊎ ((number : ℕ) → ¬ (slot_after lane act x ≡ Some (slot.Entry number)))
fills_or_none run v cell lane (Keep number) x on computes = absurd computes
fills_or_none run v cell lane (Put at number) x on computes = absurd computes
fills_or_none run v cell lane (Remove at) x on computes = absurd computes
fills_or_none run v cell lane (Claim at) x on computes = inr (λ number is. cc is)
fills_or_none run v cell lane (Fill at number) x on computes = inl (number, ap (λ c. Fill c number) (eqb-true at cell on))
fills_or_none run v cell lane (Fail at number) x on computes = inr (λ number is. cc is)
fills_or_none run v cell lane (Abandon at) x on computes = inr (λ number is. cc is)
fills_or_none run v cell lane (Seal at) x on computes = absurd computes

-- one of these events fills the cell
record IsFilledAmong (cell : ℕ) (more : History) : Type 0 where
  place : ℕ
  event : Event ℕ
  value : ℕ
  there : slice_get more place ≡ Some event
  act : event.act ≡ Fill cell value

later_among : (cell : ℕ) (e : Event ℕ) (more : History) → IsFilledAmong cell more → IsFilledAmong cell (e ∷ more)
later_among cell e more it = record { place = suc it.place; event = it.event; value = it.value; there = it.there; act = it.act }

filled_among : (run : RunView) (v : ValueText) (cell : ℕ) (more : History) (s : State ℕ) → ((number : ℕ) → ¬ (s.slots cell ≡ Some (slot.Entry number)))
    → ((k : ℕ) (e : Event ℕ) → slice_get more k ≡ Some e → is_on nat_eq cell e.act ≡ true → Computes run (of_value v) e.act) → Stands run.meaning (of_value v) ((fold (apply nat_eq) s more).slots cell) → IsFilledAmong cell more
filled_among run v cell [] s none computed stands = absurd (none stands.number stands.there)
filled_among run v cell (e ∷ more) s none computed stands = elim (bools (is_on nat_eq cell e.act)) [
  | inl on ↦ elim (fills_or_none run (of_value v) cell e.lane e.act (s.slots cell) on (computed 0 e refl on)) [
    | inl fill ↦ record { place = 0; event = e; value = fill.0; there = refl; act = fill.1 }
    | inr still ↦ later_among cell e more (filled_among run v cell more (apply nat_eq s e)
        (λ number is. still number (ap (λ b. if b then slot_after e.lane e.act (s.slots cell) else s.slots cell) (sym on) ∙ is)) (λ k x there is. computed (suc k) x there is) stands)
  ]
  | inr off ↦ later_among cell e more (filled_among run v cell more (apply nat_eq s e)
      (λ number is. none number (ap (λ b. if b then slot_after e.lane e.act (s.slots cell) else s.slots cell) (sym off) ∙ is)) (λ k x there is. computed (suc k) x there is) stands)
]

pub filled_since : FilledSince
filled_since run h g j context number v on within computed empty stands =
    let cell : ℕ = cell_of run number context in
    let more : History = on.0 in
    let low : (k : ℕ) → length g ≤ length g + k = λ k. omega arith in
    let high : (k : ℕ) (e : Event ℕ) → slice_get more k ≡ Some e → length g + k < length j =
    λ k e there. let less = slice_get_within more k e there in let size = ap length on.1 in let sum = length-append g more in omega (arith, less, size, sum) in
    let whole : (k : ℕ) (e : Event ℕ) → slice_get more k ≡ Some e → slice_get h (length g + k) ≡ Some e =
    λ k e there.
    let in_j : slice_get j (length g + k) ≡ Some e = subst (λ (l : History). slice_get l (length g + k) ≡ Some e) on.1 (behind_part g more k (length g + k) refl ∙ there) in
    subst (λ (l : History). slice_get l (length g + k) ≡ Some e) within.1 (in_whole j within.0 (length g + k) e in_j) in
    let parts : state_after j ≡ fold (apply nat_eq) (state_after g) more = ap state_after (sym on.1) ∙ after-append g more in
    let it = filled_among run v cell more (state_after g) (λ n is. cc (sym is ∙ empty))
    (λ k e there is. computed (length g + k) e (low k) (high k e there) (whole k e there) (at_place cell (place_of e.act) is))
    (subst (λ (s : State ℕ). Stands run.meaning (of_value v) (s.slots cell)) parts stands) in
    record { place = length g + it.place; event = it.event; value = it.value; low = low it.place; high = high it.place it.event it.there; there = whole it.place it.event it.there; act = it.act }
