-- Events of a history by their places, and those that a lane made in a call.
use Rattle.std.proofs.Common.{◌≡◌, ℕ, ◌+◌, ◌-◌, ◌<◌, ◌≤◌, ◌==◌, zero, suc, List, [], ◌∷◌, ◌++◌, Contains, Some, length, length-append, get_or, ap, refl, sym, subst, ◌∙◌, arith, eq-eqb}
use Rattle.std.specs.Prelude.{slice_get}
use mathlib.Core.List.{IsPrefix}
use Rattle.std.proofs.lemmas.List.{get_or_append_left, get_or-append_right}
use Rattle.std.proofs.lemmas.Option.{get_or_from_slice_get}
use Rattle.ext_history.specs.Histories.{seen_by}
use Rattle.ext_history.proofs.Composed.{events_past, seen_goes_on}
use Rattle.ext_history.proofs.Lists.{contains_cons, contains_filter, contains_none}
use Rattle.std.proofs.Common.{inl, inr}
use Rattle.ext_model.specs.CallActs.{Calls, events_by}
use Rattle.ext_model.specs.declared.event.Act.{Act}
use Rattle.ext_model.specs.declared.event.Event.{Event}
use Rattle.ext_model.specs.History.{History, Limits, lane_of, own}
use Rattle.ext_store.specs.Stores.{StoreLane}
use Rattle.ext_engine.specs.Meeting.{HasSeenWithin}
use Rattle.ext_engine.specs.Order.{IsMadeBy}

pub event_at : (h : History) (place : ℕ) → place < length h → (e : Event ℕ) × (slice_get h place ≡ Some e)
event_at [] place less = absurd (omega (arith, less))
event_at (e ∷ h) zero less = (e, refl)
event_at (e ∷ h) (suc place) less = event_at h place (omega (arith, less))

-- what stands before it, and behind it
pub cut_at : (h : History) (place : ℕ) (e : Event ℕ) → slice_get h place ≡ Some e → (before : History) × (later : History) × (h ≡ before ++ e ∷ later)
cut_at [] place e there = absurd (cc there)
cut_at (x ∷ h) zero e there = ([], h, ap (λ (y : Event ℕ). y ∷ h) (cc there))
cut_at (x ∷ h) (suc place) e there = let r = cut_at h place e there in (x ∷ r.0, r.1, ap (λ l. x ∷ l) r.2)

-- and how long what stands before it is
pub cut_there : (h : History) (place : ℕ) (e : Event ℕ) → slice_get h place ≡ Some e → (before : History) × (later : History) × (h ≡ before ++ e ∷ later) × (length before ≡ place)
cut_there [] place e there = absurd (cc there)
cut_there (x ∷ h) zero e there = ([], h, ap (λ (y : Event ℕ). y ∷ h) (cc there), refl)
cut_there (x ∷ h) (suc place) e there = let r = cut_there h place e there in (x ∷ r.0, r.1, ap (λ (l : History). x ∷ l) r.2, ap suc r.3)

pub in_whole : (a b : History) (place : ℕ) (e : Event ℕ) → slice_get a place ≡ Some e → slice_get (a ++ b) place ≡ Some e
in_whole [] b place e there = absurd (cc there)
in_whole (x ∷ a) b zero e there = there
in_whole (x ∷ a) b (suc place) e there = in_whole a b place e there

pub behind_part : (a b : History) (k place : ℕ) → place ≡ length a + k → slice_get (a ++ b) place ≡ slice_get b k
behind_part [] b k place is = let e : place ≡ k = omega (arith, is) in ap (λ n. slice_get b n) e
behind_part (x ∷ a) b k zero is = absurd (omega (arith, is))
behind_part (x ∷ a) b k (suc place) is = behind_part a b k place (omega (arith, is))

pub behind_whole : (a b : History) (k : ℕ) (e : Event ℕ) → slice_get b k ≡ Some e → slice_get (a ++ b) (length a + k) ≡ Some e
behind_whole a b k e there = behind_part a b k (length a + k) refl ∙ there

-- what stands in a part of a history stands there in the history
pub in_part : (a b : History) (place : ℕ) (e : Event ℕ) → place < length a → slice_get (a ++ b) place ≡ Some e → slice_get a place ≡ Some e
in_part [] b place e less there = absurd (omega (arith, less))
in_part (x ∷ a) b zero e less there = there
in_part (x ∷ a) b (suc place) e less there = in_part a b place e (omega (arith, less)) there

-- an event of a lane that stands behind one part of a history and within a longer one is among those that the longer one has more
pub among_more : (n : ℕ) (a b h : History) (on : IsPrefix a b) → IsPrefix b h → (place : ℕ) (e : Event ℕ) → slice_get h place ≡ Some e → length a ≤ place → place < length b → e.lane ≡ n → Contains (own n on.0) e
among_more n a b h on within place e there since until mine =
    let more = on.0 in
    let rest = within.0 in
    let whole : get_or h place e ≡ e = get_or_from_slice_get h place e e there in
    let left : get_or (b ++ rest) place e ≡ get_or b place e = get_or_append_left b rest e place until in
    let in_b : get_or b place e ≡ e = sym left ∙ (ap (λ (l : History). get_or l place e) within.1 ∙ whole) in
    let right : get_or (a ++ more) place e ≡ get_or more (place - length a) e = get_or-append_right a more (length a) place e refl since in
    let in_more : get_or more (place - length a) e ≡ e = sym right ∙ (ap (λ (l : History). get_or l place e) on.1 ∙ in_b) in
    let size = ap length on.1 in
    let sum = length-append a more in
    contains_filter (λ (x : Event ℕ). lane_of x == n) more e (eq-eqb (lane_of e) n mine) (place - length a, omega (arith, size, sum, since, until), in_more)

-- an event by these acts is one of them
pub one_of_acts : (n : ℕ) (acts : List (Act ℕ)) (e : Event ℕ) → Contains (events_by n acts) e → Contains acts e.act
one_of_acts n [] e there = absurd (contains_none e there)
one_of_acts n (act ∷ acts) e there = elim (contains_cons _ (events_by n acts) e there) [
  | inl same ↦ (0, omega arith, ap (λ (x : Event ℕ). x.act) same)
  | inr later ↦ let r = one_of_acts n acts e later in let l = r.1 in (suc r.0, omega (arith, l), r.2)
]

-- an event that a lane made in a call is one of the call's acts
pub made_acts : {V : Type 0} (limits : Limits) (acts : List (Act ℕ)) (a b : StoreLane V) (h : History) (place : ℕ) → Calls limits a.cells.view b.cells.view acts → IsPrefix (seen_by b.cells.view) h
    → (made : IsMadeBy h place a b) → Contains acts made.event.act
made_acts limits acts a b h place calls within made =
    let n = a.cells.view.number in
    let on = seen_goes_on calls in
    let are : own n on.0 ≡ events_by n acts = events_past calls in
    one_of_acts n acts made.event (subst (λ (l : History). Contains l made.event) are
    (among_more n (seen_by a.cells.view) (seen_by b.cells.view) h on within place made.event made.there made.since made.until made.own_event))

-- at a place stands one event
pub one_event : (h : History) (place : ℕ) (one other : Event ℕ) → slice_get h place ≡ Some one → slice_get h place ≡ Some other → one ≡ other
one_event h place one other there also = let both : Some one ≡ Some other = sym there ∙ also in cc both

-- an event that a lane made stands where it stood in what the lane has seen
pub stands_in_seen : {V : Type 0} (h : History) (place : ℕ) (a b : StoreLane V) → HasSeenWithin h b → (made : IsMadeBy h place a b) → slice_get (seen_by b.cells.view) place ≡ Some made.event
stands_in_seen h place a b within made = in_part (seen_by b.cells.view) within.0 place made.event made.until (subst (λ (l : History). slice_get l place ≡ Some made.event) (sym within.1) made.there)

-- so the lane made it there
abbrev pub made_in_seen : {V : Type 0} (h : History) (place : ℕ) (a b : StoreLane V) → HasSeenWithin h b → IsMadeBy h place a b → IsMadeBy (seen_by b.cells.view) place a b
made_in_seen h place a b within made = record { event = made.event; there = stands_in_seen h place a b within made; own_event = made.own_event; since = made.since; until = made.until }
