-- Where a value stands, or stands above, and all events at the place are by those who would compute it, nothing happens there.
use Rattle.std.proofs.Common.{◌≡◌, ℕ, ◌≤◌, inl, inr, ◌⊎◌, List, [], ◌∷◌, ◌++◌, Option, Some, None, length, length-append, refl, ap, sym, subst, ◌∙◌, arith, nat_eq, append_assoc, append-nil}
use Rattle.std.specs.Prelude.{All, slice_get}
use mathlib.Core.List.{IsPrefix, append_cancel_left}
use base.Growing.{prefix_trans}
use Rattle.std.proofs.lemmas.List.Elements.{All-cons, All-head, All-nil, All-tail, All-weaker}
use Rattle.ext_history.proofs.Lists.{bools, left_nil}
use Rattle.ext_model.specs.declared.event.Act.{Act}
use Rattle.ext_model.specs.declared.event.Act.TheVariants.{Keep, Put, Remove, Claim, Fill, Fail, Abandon, Seal}
use Rattle.ext_model.specs.declared.event.Event.{Event}
use Rattle.ext_model.specs.declared.look.Look.TheVariants as look
use Rattle.ext_model.specs.declared.slot.Slot.{Slot}
use Rattle.ext_model.specs.declared.slot.Slot.TheVariants as slot
use Rattle.ext_model.specs.State.{lookup}
use Rattle.ext_model.specs.CallActs.{look_after}
use Rattle.ext_model.specs.Events.{Happens, end_reply, is_on, place_of}
use Rattle.ext_model.specs.History.{History, IsLegal, Limits, reply_after, slots_in, state_after}
use Rattle.ext_model.proofs.Lookups.{lookup_past, nearest_decides}
use Rattle.ext_engine.proofs.Acts.{shorter}
use Rattle.ext_one_report.specs.Changing.{events_at}
use Rattle.ext_one_report.proofs.Events.{behind_part}
use Rattle.ext_one_report.proofs.MatchingWords.{RunView, cell_of}
use Rattle.ext_one_report.proofs.OnCells.{at-append, passes_not, same_slot}
use Rattle.ext_one_report.proofs.Sees.{at_place}
use Rattle.ext_one_report.proofs.Open.{Computes, Given}
use Rattle.ext_one_report.proofs.SharedEventsWords.{FrozenIsQuiet, IsLookedFor, IsSeenBetween}

-- ---- the first event on a cell

-- the first of these events that is on the cell
record IsFirstAt (cell : ℕ) (more : History) : Type 0 where
  quiet : History
  event : Event ℕ
  later : History
  is : more ≡ quiet ++ event ∷ later
  none : events_at cell quiet ≡ []
  on : place_of event.act ≡ Some cell

first_at : (cell : ℕ) (more : History) → (events_at cell more ≡ []) ⊎ IsFirstAt cell more
first_at cell [] = inl refl
first_at cell (e ∷ more) = elim (bools (is_on nat_eq cell e.act)) [
  | inl on ↦ inr (record { quiet = []; event = e; later = more; is = refl; none = refl; on = at_place cell (place_of e.act) on })
  | inr off ↦ elim (first_at cell more) [
    | inl none ↦ inl (passes_not (λ (x : Event ℕ). is_on nat_eq cell x.act) e more off ∙ none)
    | inr one ↦ inr (record {
      quiet = e ∷ one.quiet;
      event = one.event;
      later = one.later;
      is = ap (λ (l : History). e ∷ l) one.is;
      none = passes_not (λ (x : Event ℕ). is_on nat_eq cell x.act) e one.quiet off ∙ one.none;
      on = one.on;
    })
  ]
]

-- a part between two that have the same events on the cell has them too
between_same : (cell : ℕ) (g p q : History) → IsPrefix g p → IsPrefix p q → events_at cell q ≡ events_at cell g → events_at cell p ≡ events_at cell g
between_same cell g p q begins goes same =
    let first = begins.0 in
    let second = goes.0 in
    let here : events_at cell p ≡ events_at cell g ++ events_at cell first = ap (events_at cell) (sym begins.1) ∙ at-append g first cell in
    let there : events_at cell q ≡ events_at cell g ++ (events_at cell first ++ events_at cell second) =
    ap (events_at cell) (sym goes.1) ∙ (at-append p second cell ∙ (ap (λ l. l ++ events_at cell second) here ∙ append_assoc (events_at cell g) (events_at cell first) (events_at cell second))) in
    let none : events_at cell first ++ events_at cell second ≡ [] = append_cancel_left (events_at cell g) (events_at cell first ++ events_at cell second) [] (sym there ∙ (same ∙ sym (append-nil (events_at cell g)))) in
    here ∙ (ap (λ l. events_at cell g ++ l) (left_nil (events_at cell first) (events_at cell second) none) ∙ append-nil (events_at cell g))

-- ---- look-ups

-- where a context has the same in both, the look-up is the same if it is on the rest of the path
look_first : (f u : ℕ → Option Slot) (c : ℕ) (path : List ℕ) (x : Option Slot) → f c ≡ x → u c ≡ x → lookup f path ≡ lookup u path → lookup f (c ∷ path) ≡ lookup u (c ∷ path)
look_first f u c path None is also rest = lookup_past f (c ∷ path) 0 (omega arith) is ∙ (rest ∙ sym (lookup_past u (c ∷ path) 0 (omega arith) also))
look_first f u c path (Some it) is also rest = nearest_decides f [] c path it (All-nil (λ k. f k ≡ None)) is ∙ sym (nearest_decides u [] c path it (All-nil (λ k. u k ≡ None)) also)

-- a look-up goes by what stands on its path
look_same : (f u : ℕ → Option Slot) (path : List ℕ) → All (λ c. f c ≡ u c) path → lookup f path ≡ lookup u path
look_same f u [] same = refl
look_same f u (c ∷ path) same = look_first f u c path (f c) refl (sym (All-head (λ k. f k ≡ u k) c path same)) (look_same f u path (All-tail (λ k. f k ≡ u k) c path same))

-- ---- what may happen

claim_stands : (lane : ℕ) (x : Option Slot) (answer : Option ℕ) → end_reply lane x ≡ Happens answer → (by : ℕ) × (x ≡ Some (slot.Claim by))
claim_stands lane None answer is = absurd (cc is)
claim_stands lane (Some (slot.Entry number)) answer is = absurd (cc is)
claim_stands lane (Some (slot.Fault number)) answer is = absurd (cc is)
claim_stands lane (Some (slot.Claim by)) answer is = (by, refl)
claim_stands lane (Some (slot.Sealed kept)) answer is = absurd (cc is)

-- where no claim stands, an event of those who compute there is a claim
is_claim : (run : RunView) (v : Given) (limits : Limits) (h : History) (lane cell : ℕ) (act : Act ℕ) (answer : Option ℕ) → place_of act ≡ Some cell → Computes run v act → reply_after limits h lane act ≡ Happens answer
    → ((by : ℕ) → ¬ ((state_after h).slots cell ≡ Some (slot.Claim by))) → act ≡ Claim cell
is_claim run v limits h lane cell (Keep number) answer on computes happens none = absurd computes
is_claim run v limits h lane cell (Put at number) answer on computes happens none = absurd computes
is_claim run v limits h lane cell (Remove at) answer on computes happens none = absurd computes
is_claim run v limits h lane cell (Claim at) answer on computes happens none = let e : at ≡ cell = cc on in ap (λ c. Claim c) e
is_claim run v limits h lane cell (Fill at number) answer on computes happens none =
    let e : at ≡ cell = cc on in
    let by = claim_stands lane ((state_after h).slots at) answer happens in
    absurd (none by.0 (subst (λ c. (state_after h).slots c ≡ Some (slot.Claim by.0)) e by.1))
is_claim run v limits h lane cell (Fail at number) answer on computes happens none =
    let e : at ≡ cell = cc on in
    let by = claim_stands lane ((state_after h).slots at) answer happens in
    absurd (none by.0 (subst (λ c. (state_after h).slots c ≡ Some (slot.Claim by.0)) e by.1))
is_claim run v limits h lane cell (Abandon at) answer on computes happens none =
    let e : at ≡ cell = cc on in
    let by = claim_stands lane ((state_after h).slots at) answer happens in
    absurd (none by.0 (subst (λ c. (state_after h).slots c ≡ Some (slot.Claim by.0)) e by.1))
is_claim run v limits h lane cell (Seal at) answer on computes happens none = absurd computes

-- ---- the law

-- of two parts of a history the one that is no longer is a part of the other
part_of : (p q a b : History) → p ++ a ≡ q ++ b → length p ≤ length q → IsPrefix p q
part_of [] q a b same less = (q, refl)
part_of (x ∷ p) [] a b same less = absurd (omega (arith, less))
part_of (x ∷ p) (y ∷ q) a b same less =
    let first : x ≡ y = cc same in
    let rest : p ++ a ≡ q ++ b = cc same in
    let r = part_of p q a b rest (omega (arith, less)) in
    (r.0, ap (λ (z : Event ℕ). z ∷ (p ++ r.0)) first ∙ ap (λ (l : History). y ∷ l) r.1)

-- where up to these points the same events are on the cells of a path, the look-up is the same
look_stays : (cell_of_it : ℕ → ℕ) (context : ℕ) (path : List ℕ) (g p before j : History) → IsPrefix g p → IsPrefix p before → IsPrefix p j → events_at (cell_of_it context) before ≡ events_at (cell_of_it context) g
    → All (λ c. events_at (cell_of_it c) j ≡ events_at (cell_of_it c) g) path → look_after cell_of_it (context ∷ path) p ≡ look_after cell_of_it (context ∷ path) g
look_stays cell_of_it context path g p before j since in_before in_j quiet above =
    let Same : ℕ → Type 0 = λ c. slots_in cell_of_it p c ≡ slots_in cell_of_it g c in
    let here : Same context = same_slot p g (cell_of_it context) (between_same (cell_of_it context) g p before since in_before quiet) in
    let higher : All Same path =
    All-weaker (λ c. events_at (cell_of_it c) j ≡ events_at (cell_of_it c) g) Same (λ c is. same_slot p g (cell_of_it c) (between_same (cell_of_it c) g p j since in_j is)) path above in
    look_same (slots_in cell_of_it p) (slots_in cell_of_it g) (context ∷ path) (All-cons Same context path here higher)

module _ (run : RunView) (h g j : History) (context number : ℕ) (path : List ℕ) (v : Given) (legal : IsLegal run.store.id.cells.limits h)
    (computes : (place : ℕ) (event : Event ℕ) → IsSeenBetween g j place → slice_get h place ≡ Some event → place_of event.act ≡ Some (cell_of run number context) → Computes run v event.act)
    (looked : (place : ℕ) (event : Event ℕ) → IsSeenBetween g j place → slice_get h place ≡ Some event → event.act ≡ Claim (cell_of run number context) → IsLookedFor run h g place number (context ∷ path))
    (above : All (λ c. events_at (cell_of run number c) j ≡ events_at (cell_of run number c) g) path) (no_claim : (lane : ℕ) → ¬ (slots_in (cell_of run number) g context ≡ Some (slot.Claim lane)))
    (found : ¬ (look_after (cell_of run number) (context ∷ path) g ≡ look.Absent)) where
  -- up to the first event at the place no look-up is absent,
  none_absent : (before : History) (e : Event ℕ) (later rest : History) → j ≡ before ++ e ∷ later → h ≡ before ++ e ∷ rest → events_at (cell_of run number context) before ≡ events_at (cell_of run number context) g
      → IsLookedFor run h g (length before) number (context ∷ path) → ⊥
  none_absent before e later rest j_is h_is quiet absent =
      let in_before : IsPrefix absent.at before = part_of absent.at before absent.part.0 (e ∷ rest) (absent.part.1 ∙ h_is) absent.until in
      let in_j : IsPrefix absent.at j = prefix_trans absent.at before j in_before (e ∷ later, sym j_is) in
      found (sym (look_stays (cell_of run number) context path g absent.at before j absent.since in_before in_j quiet above) ∙ absent.absent)

  -- so there is no such event
  none_first : (before : History) (e : Event ℕ) (later rest : History) → IsPrefix g before → j ≡ before ++ e ∷ later → h ≡ before ++ e ∷ rest
      → events_at (cell_of run number context) before ≡ events_at (cell_of run number context) g → place_of e.act ≡ Some (cell_of run number context) → ⊥
  none_first before e later rest low j_is h_is quiet on =
      let cell : ℕ = cell_of run number context in
      let place : ℕ = length before in
      let size = ap length j_is ∙ length-append before (e ∷ later) in
      let seen : IsSeenBetween g j place = record { since = shorter g before low; until = omega (arith, size) } in
      let there : slice_get h place ≡ Some e = subst (λ (l : History). slice_get l place ≡ Some e) (sym h_is) (behind_part before (e ∷ rest) 0 place (omega arith)) in
      let same : (state_after before).slots cell ≡ (state_after g).slots cell = same_slot before g cell quiet in
      let allowed = legal.each before e rest h_is in
      let claims : e.act ≡ Claim cell =
      is_claim run v run.store.id.cells.limits before e.lane cell e.act allowed.happens.0 on (computes place e seen there on) allowed.happens.1 (λ by is. no_claim by (sym same ∙ is)) in
      none_absent before e later rest j_is h_is quiet (looked place e seen there claims)

pub frozen_is_quiet : FrozenIsQuiet
frozen_is_quiet run h g j context number path v legal begins goes computes looked above no_claim found =
    let cell : ℕ = cell_of run number context in
    let more : History = begins.0 in
    elim (first_at cell more) [
      | inl none ↦ ap (events_at cell) (sym begins.1) ∙ (at-append g more cell ∙ (ap (λ l. events_at cell g ++ l) none ∙ append-nil (events_at cell g)))
      | inr first ↦
          let e = first.event in
          let before : History = g ++ first.quiet in
          let j_is : j ≡ before ++ e ∷ first.later = sym begins.1 ∙ (ap (λ l. g ++ l) first.is ∙ sym (append_assoc g first.quiet (e ∷ first.later))) in
          let h_is : h ≡ before ++ e ∷ (first.later ++ goes.0) = sym goes.1 ∙ (ap (λ l. l ++ goes.0) j_is ∙ append_assoc before (e ∷ first.later) goes.0) in
          let quiet : events_at cell before ≡ events_at cell g = at-append g first.quiet cell ∙ (ap (λ l. events_at cell g ++ l) first.none ∙ append-nil (events_at cell g)) in
          absurd (none_first run h g j context number path v legal computes looked above no_claim found before e first.later (first.later ++ goes.0) (first.quiet, refl) j_is h_is quiet first.on)
    ]
