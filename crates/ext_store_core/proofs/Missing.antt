-- What the claim of a missing value says, from what its steps say.
use Rattle.std.proofs.Common.{◌≡◌, ◌≢◌, ℕ, suc, ◌+◌, ◌<◌, ◌≤◌, ◌-◌, List, [], ◌∷◌, map, take, drop, length, sym, refl, ap, ◌∙◌, subst, arith, inl, inr}
use Rattle.std.specs.Prelude.{Option, None, Some, Result, Ok, Err}
use Rattle.std.proofs.lemmas.List.Elements.{All-nil, All-tail}
use Rattle.ext_model.specs.declared.event.Act.{Act}
use Rattle.ext_model.specs.declared.event.Act.TheVariants.{Claim, Abandon}
use Rattle.ext_model.specs.declared.look.Look.{Look}
use Rattle.ext_model.specs.declared.look.Look.TheVariants as look
use Rattle.ext_model.specs.Events as events
use Rattle.ext_model.specs.History.{History, Limits, slots_in, reply_after, version_of, IsLegal}
use Rattle.ext_model.specs.CallActs.{LaneView, Calls, HoldsAtPoint, IsOvertaken, IsHeld, look_after}
use Rattle.ext_history.proofs.Composed.{same_number, answer_first, quiet_point}
use Rattle.ext_history.specs.Histories.{first_front, seen_by}
use Rattle.ext_history.proofs.Crowded.{overtaken_crowded, crowded_by_first, crowded_by_second}
use Rattle.ext_model.proofs.Composed.{calls_compose, later_answers}
use Rattle.ext_model.proofs.Held.{claim_held}
use Rattle.ext_tree.specs.Trees.{IsPathOf}
use Rattle.ext_cells.specs.declared.claim.Claimed.{Claimed}
use Rattle.ext_cells.specs.declared.claim.Claimed.TheVariants.{Won, Standing, Fault}
use Rattle.ext_cells.specs.declared.refusal.CellRefusal.{CellRefusal}
use Rattle.ext_cells.specs.declared.refusal.CellRefusal.TheVariants as cell
use Rattle.ext_cells.specs.Lanes.{CellsId, Lane}
use Rattle.ext_cells.specs.CellCalls as cells
use Rattle.ext_cells.specs.CellCalls.{IfWon}
use Rattle.ext_store_core.specs.declared.fault.Refusal.{Refusal}
use Rattle.ext_store_core.specs.declared.fault.Refusal.TheVariants as refusal
use Rattle.ext_store_core.specs.declared.claim.Unused.{Unused}
use Rattle.ext_store_core.specs.declared.claim.Unused.TheVariants.{Found, FaultStands, Refused}
use Rattle.ext_store_core.specs.ContextCalls.{ContextCells, IsTrail, cell_in}
use Rattle.ext_store_core.specs.InnerRefusals.{refusal_at}
use Rattle.ext_store_core.specs.InnerLooking.{Looks, LooksAt}
use Rattle.ext_store_core.specs.Claiming.{ClaimComesLast, LooksFirst, Claims, ClaimsAndLooks, Meets, IsRefused, Stands, ClaimsAlong, ClaimsFrom, ClaimsMissing, unused_of}
use Rattle.ext_model.proofs.Versions.{versions}
use Rattle.ext_store_core.proofs.Rises.{rises_first, rises_second, version_grows, versions_grow}
use Rattle.ext_store_core.proofs.Parts.{looks_second, happens_alone, first_stays, claims_stay, claims_first}
use Rattle.ext_store_core.proofs.Standing.{ClaimShows, claim_shows}

-- why a claim is refused in whose way other lanes were
abbrev in_the_way : CellRefusal
in_the_way = cell.Contended

-- ---- the path

-- what a claim along the path of the context says is what it says from the context
pub missing_along : (store : ContextCells) (context key : ℕ) (path : List ℕ) (before after : LaneView) (r : Result ℕ Unused) → IsPathOf store.tree context path → ClaimsAlong store path key before after r
    → ClaimsMissing store context key before after r
missing_along store context key [] before after r is along = absurd is
missing_along store context key (first ∷ rest) before after r is along = (
  rest,
  (refl, is.1),
  subst (λ c. ClaimsFrom store c rest key before after r) is.0 along,
)

pub trail_rest : (store : ContextCells) (context : ℕ) (rest : List ℕ) → IsTrail store (context ∷ rest) → IsTrail store rest
trail_rest store context rest trail = let few = trail.few in record {
  few = omega (arith, few);
  within = All-tail (λ c. c < length store.tree) context rest trail.within;
  different = λ i j d less within. trail.different (suc i) (suc j) d (omega (arith, less)) (omega (arith, within));
}

-- ---- one look-up

-- what a look-up answers, as what it leaves to be computed
pub stands_by : (store : ContextCells) (path : List ℕ) (key : ℕ) (a b : Lane) (looked : Result Look Refusal) → Looks store path key a b looked → Stands store path key a b (unused_of looked)
stands_by store path key a b (Ok look.Absent) l = l
stands_by store path key a b (Ok (look.Found at number)) l = l
stands_by store path key a b (Ok (look.Fault at number)) l = l
stands_by store path key a b (Ok (look.Busy at)) l = l
stands_by store path key a b (Ok (look.Closed at)) l = l
stands_by store path key a b (Err why) l = subst (λ w. Stands store path key a b (Some (Refused w))) (sym l.0) (l.1, l.2)

pub stands_calls : (store : ContextCells) (path : List ℕ) (key : ℕ) (a b : Lane) (r : Option Unused) → Stands store path key a b r → Calls a.cells.limits a.view b.view []
stands_calls store path key a b None s = s.calls
stands_calls store path key a b (Some (Found at number)) s = s.calls
stands_calls store path key a b (Some (FaultStands at number)) s = s.calls
stands_calls store path key a b (Some (Refused (refusal.Busy at))) s = s.calls
stands_calls store path key a b (Some (Refused (refusal.Closed at))) s = s.calls
stands_calls store path key a b (Some (Refused refusal.Contended)) s = s.0.calls
stands_calls store path key a b (Some (Refused refusal.DirectoryFull)) s = absurd s
stands_calls store path key a b (Some (Refused refusal.Unplaced)) s = absurd s
stands_calls store path key a b (Some (Refused refusal.Memory)) s = absurd s
stands_calls store path key a b (Some (Refused refusal.Exhausted)) s = absurd s

module _ (store : ContextCells) (context key : ℕ) (rest : List ℕ) where
  abbrev limits : Limits
  limits = store.cells.limits

  abbrev here : ℕ
  here = cell_in store key context

  module _ (a b : Lane) (is : a.cells ≡ store.cells) where
    -- the calls of a look-up, by the store's own limits
    pub quiet : (path : List ℕ) (r : Option Unused) → Stands store path key a b r → Calls store.cells.limits a.view b.view []
    quiet path r s = subst (λ (z : CellsId). Calls z.limits a.view b.view []) is (stands_calls store path key a b r s)

    -- a look-up from the context, by which something stands
    meets : (met : Look) → LooksAt store (context ∷ rest) key a b met → Meets store.cells.limits store context rest key a.view b.view met
    unfolding Meets
    meets met l = inl (subst (λ (z : CellsId). HoldsAtPoint z.limits a.view b.view [] (λ p. look_after (cell_in store key) (context ∷ rest) p ≡ met)) is
        (record { calls = l.calls; stepped = l.stepped (omega arith); point = (l.point.0, l.point.1, sym l.point.2) }))

    pub first_look : (unused : Unused) → Stands store (context ∷ rest) key a b (Some unused) → ClaimsFrom store context rest key a.view b.view (Err unused)
    unfolding IsRefused
    first_look (Found at number) s = meets (look.Found at number) s
    first_look (FaultStands at number) s = meets (look.Fault at number) s
    first_look (Refused (refusal.Busy at)) s = meets (look.Busy at) s
    first_look (Refused (refusal.Closed at)) s = meets (look.Closed at) s
    first_look (Refused refusal.Contended) s =
        let over : IsOvertaken limits store.tries a.view b.view = subst (λ (z : CellsId). IsOvertaken z.limits store.tries a.view b.view) is s.0 in
        inl (record { calls = over.calls; passed = overtaken_crowded store.tries over; there = inl s.1 })
    first_look (Refused refusal.DirectoryFull) s = absurd s
    first_look (Refused refusal.Unplaced) s = absurd s
    first_look (Refused refusal.Memory) s = absurd s
    first_look (Refused refusal.Exhausted) s = absurd s

    -- or by which nothing does
    none_first : Stands store (context ∷ rest) key a b None → LooksFirst (cell_in store key) (context ∷ rest) a.view b.view
    none_first s = record { at = s.point.0; stepped = s.point.1.0; point = quiet_point (quiet (context ∷ rest) None s) s.point.0 s.point.1; missing = sym s.point.2 }

  -- ---- the claim

  module _ (a b c : Lane) (first : a.cells ≡ store.cells) (is : b.cells ≡ store.cells) (tries : ℕ) (same : tries ≡ store.tries) (looked : Stands store (context ∷ rest) key a b None) where
    one : Calls store.cells.limits a.view b.view []
    one = quiet a b first (context ∷ rest) None looked

    -- the claim's own reply, by the store's limits
    claim_holds : (r : Result Claimed CellRefusal) → (let s : Result Claimed CellRefusal = Err cell.Contended in r ≢ s)
        → cells.Answers tries b c (cells.claim_acts (cell_in store key context)) (cells.claim_reply b (cell_in store key context)) r
        → HoldsAtPoint store.cells.limits b.view c.view (cells.claim_acts (cell_in store key context) r)
        (λ p. r ≡ cells.claim_result (cell_in store key context) (reply_after store.cells.limits p b.view.number (Claim (cell_in store key context))))
    claim_holds r ne all = subst (λ (z : CellsId). HoldsAtPoint z.limits b.view c.view (cells.claim_acts here r) (λ p. r ≡ cells.claim_result here (reply_after z.limits p b.view.number (Claim here)))) is (all.replied ne)

    -- what a claim tells, said of the look-up and the claim together
    claim_told : (r : Result Claimed CellRefusal) → (let s : Result Claimed CellRefusal = Err cell.Contended in r ≢ s)
        → cells.Answers tries b c (cells.claim_acts (cell_in store key context)) (cells.claim_reply b (cell_in store key context)) r
        → HoldsAtPoint store.cells.limits a.view c.view (cells.claim_acts (cell_in store key context) r)
        (λ p. ClaimShows (slots_in (cell_in store key) p) context rest (reply_after store.cells.limits p b.view.number (Claim (cell_in store key context))) r)
    claim_told r ne all =
        let acts = cells.claim_acts here r in
        let h : HoldsAtPoint limits b.view c.view acts (λ p. r ≡ cells.claim_result here (reply_after limits p b.view.number (Claim here))) = claim_holds r ne all in
        later_answers limits a.view b.view c.view acts (λ p. ClaimShows (slots_in (cell_in store key) p) context rest (reply_after limits p b.view.number (Claim here)) r) one
        (record { calls = h.calls; stepped = h.stepped; point = (h.point.0, h.point.1, claim_shows limits b.view.number (cell_in store key) context rest h.point.0 r h.point.2) })

    -- the first look came before it
    looked_before : (acts : List (Act ℕ)) → Calls store.cells.limits b.view c.view acts → LooksFirst (cell_in store key) (context ∷ rest) a.view c.view
    looked_before acts two = first_stays limits a.view b.view c.view [] acts one two (looked.stepped (omega arith)) (cell_in store key) (context ∷ rest) (none_first a b first looked)

    pub standing : (number : ℕ) → cells.Answers tries b c (cells.claim_acts (cell_in store key context)) (cells.claim_reply b (cell_in store key context)) (Ok (Standing number)) → ClaimsFrom store context rest key a.view c.view (Err (Found context number))
    unfolding Meets
    standing number all = inl (claim_told (Ok (Standing number)) (λ e. cc e) all)

    pub fault_standing : (number : ℕ) → cells.Answers tries b c (cells.claim_acts (cell_in store key context)) (cells.claim_reply b (cell_in store key context)) (Ok (Fault number)) → ClaimsFrom store context rest key a.view c.view (Err (FaultStands context number))
    unfolding Meets
    fault_standing number all = inl (claim_told (Ok (Fault number)) (λ e. cc e) all)

    -- what the claim says that other lanes were in the way of it
    claim_last : (over : Calls store.cells.limits b.view c.view []) → cells.IsOvertakenAt tries b c (Claim (cell_in store key context)) → ClaimComesLast store.cells.limits store.tries (cell_in store key context) a.view c.view
    claim_last two last = record {
      would_happen = subst (λ (z : CellsId × ℕ). (answer : Option ℕ) × (reply_after z.0.limits (seen_by c.view) z.1 (Claim here) ≡ events.Happens answer)) (λ i. (is i, same_number one i)) last.would_happen;
      own_cell =
          rises_second (λ h. version_of h here) (version_grows here) store.tries limits a.view b.view c.view [] [] one two
          (subst (λ t. version_of (first_front b.view c.view) here + t ≤ version_of (seen_by c.view) here) same last.own_word);
    }

    overtaken : IsOvertaken store.cells.limits store.tries b.view c.view → cells.IsOvertakenAt tries b c (Claim (cell_in store key context)) → ClaimsFrom store context rest key a.view c.view (Err (Refused refusal.Contended))
    unfolding IsRefused
    overtaken over last = inl (record {
      calls = calls_compose limits a.view b.view c.view [] [] one over.calls;
      passed = crowded_by_second store.tries one over.calls (overtaken_crowded store.tries over);
      there = inr (looked_before [] over.calls, claim_last over.calls last);
    })

    never : {P : History → Type 0} → ((p : History) → P p → ⊥) → HoldsAtPoint store.cells.limits a.view c.view [] P → ⊥
    never none h = none h.point.0 h.point.2

    pub refused : (why : CellRefusal) → cells.Answers tries b c (cells.claim_acts (cell_in store key context)) (cells.claim_reply b (cell_in store key context)) (Err why)
        → (why ≡ cell.Contended → cells.IsOvertakenAt tries b c (Claim (cell_in store key context))) → ClaimsFrom store context rest key a.view c.view (Err (Refused (refusal_at context why)))
    unfolding IsRefused Meets
    refused cell.Busy all last = inl (claim_told (Err cell.Busy) (λ e. cc e) all)
    refused cell.Closed all last = inl (claim_told (Err cell.Closed) (λ e. cc e) all)
    refused cell.Exhausted all last = (
      subst (λ k. HoldsAtPoint limits a.view c.view [] (λ p. reply_after limits p k (Claim here) ≡ events.Refuses events.Exhausted)) (same_number one) (claim_told (Err cell.Exhausted) (λ e. cc e) all),
      looked_before [] (claim_holds (Err cell.Exhausted) (λ e. cc e) all).calls,
    )
    refused cell.Contended all last = overtaken (subst (λ (z : CellsId × ℕ). IsOvertaken z.0.limits z.1 b.view c.view) (λ i. (is i, same i)) (all.overtaken refl)) (last refl)
    refused cell.NumbersFull all last = absurd (never (λ p none. none) (claim_told (Err cell.NumbersFull) (λ e. cc e) all))
    refused cell.Memory all last = absurd (never (λ p none. none) (claim_told (Err cell.Memory) (λ e. cc e) all))
    refused cell.BadLimit all last = absurd (never (λ p none. none) (claim_told (Err cell.BadLimit) (λ e. cc e) all))

    pub won_calls : (claim : ℕ) → cells.Answers tries b c (cells.claim_acts (cell_in store key context)) (cells.claim_reply b (cell_in store key context)) (Ok (Won claim)) → Calls store.cells.limits a.view c.view (Claim (cell_in store key context) ∷ [])
    won_calls claim all = (claim_told (Ok (Won claim)) (λ e. cc e) all).calls

    pub won_claims : (claim : ℕ) → cells.Answers tries b c (cells.claim_acts (cell_in store key context)) (cells.claim_reply b (cell_in store key context)) (Ok (Won claim)) → Claims store.cells.limits store context rest key a.view c.view
    won_claims claim all = record {
      looked_first = looked_before (Claim here ∷ []) (claim_holds (Ok (Won claim)) (λ e. cc e) all).calls;
      claimed = happens_alone limits a.view c.view (Claim here) None
          (subst (λ k. HoldsAtPoint limits a.view c.view (Claim here ∷ []) (λ p. reply_after limits p k (Claim here) ≡ events.Happens None)) (same_number one) (claim_told (Ok (Won claim)) (λ e. cc e) all));
    }

  -- ---- the second look

  module _ (a c d : Lane) (is : c.cells ≡ store.cells) (won : Calls store.cells.limits a.view c.view (Claim (cell_in store key context) ∷ [])) (did : Claims store.cells.limits store context rest key a.view c.view) where
    looks : (met : Look) → LooksAt store rest key c d met → ClaimsAndLooks store.cells.limits store context rest key a.view d.view met
    looks met l =
        let two : Calls limits c.view d.view [] = subst (λ (z : CellsId). Calls z.limits c.view d.view []) is l.calls in record {
          claims = claims_stay limits store context rest key a.view c.view d.view [] won two did;
          looked = looks_second limits a.view c.view d.view (Claim here ∷ []) [] won two (cell_in store key) rest [] met (l.point.0, answer_first two l.point.0 l.point.1, sym l.point.2);
        }

    pub held_on : (claim : ℕ) (r : Option Unused) → claim ≡ cell_in store key context → IsHeld c.view (cell_in store key context) → IsLegal c.cells.limits (seen_by d.view) → Stands store rest key c d r → IsHeld d.view claim
    held_on claim r same held legal s = subst (IsHeld d.view) (sym same) (claim_held limits c.view d.view [] here (subst (λ (z : CellsId). IsLegal z.limits (seen_by d.view)) is legal) (quiet c d is rest r s) (All-nil _) held).0

    pub second_look : (claim : ℕ) → claim ≡ cell_in store key context → IsHeld c.view (cell_in store key context) → IsLegal c.cells.limits (seen_by d.view) → Stands store rest key c d None → ClaimsFrom store context rest key a.view d.view (Ok claim)
    second_look claim same held legal s = (
      same,
      held_on claim None same held legal s,
      calls_compose limits a.view c.view d.view (Claim here ∷ []) [] won (quiet c d is rest None s),
      looks look.Absent s,
    )

    module _ (e : Lane) (ended : Calls store.cells.limits d.view e.view (Abandon (cell_in store key context) ∷ [])) where
      both : Calls store.cells.limits c.view d.view [] → Calls store.cells.limits a.view d.view (Claim (cell_in store key context) ∷ [])
      both two = calls_compose limits a.view c.view d.view (Claim here ∷ []) [] won two

      gives_up : (met : Look) → LooksAt store rest key c d met → Meets store.cells.limits store context rest key a.view e.view met
      unfolding Meets
      gives_up met l =
          let two : Calls limits c.view d.view [] = subst (λ (z : CellsId). Calls z.limits c.view d.view []) is l.calls in
          inr (
            calls_compose limits a.view d.view e.view (Claim here ∷ []) (Abandon here ∷ []) (both two) ended,
            claims_first limits store context rest key a.view d.view e.view (Abandon here ∷ []) (both two) ended met (looks met l),
          )

      pub given_up_look : (unused : Unused) → Stands store rest key c d (Some unused) → ClaimsFrom store context rest key a.view e.view (Err unused)
      unfolding IsRefused
      given_up_look (Found at number) s = gives_up (look.Found at number) s
      given_up_look (FaultStands at number) s = gives_up (look.Fault at number) s
      given_up_look (Refused (refusal.Busy at)) s = gives_up (look.Busy at) s
      given_up_look (Refused (refusal.Closed at)) s = gives_up (look.Closed at) s
      given_up_look (Refused refusal.Contended) s =
          let over : IsOvertaken limits store.tries c.view d.view = subst (λ (z : CellsId). IsOvertaken z.limits store.tries c.view d.view) is s.0 in
          inr (
            calls_compose limits a.view d.view e.view (Claim here ∷ []) (Abandon here ∷ []) (both over.calls) ended,
            claims_stay limits store context rest key a.view d.view e.view (Abandon here ∷ []) (both over.calls) ended (claims_stay limits store context rest key a.view c.view d.view [] won over.calls did),
            crowded_by_first store.tries (both over.calls) ended
                (crowded_by_second store.tries won over.calls (overtaken_crowded store.tries over)),
            rises_first (λ h. versions h (map (cell_in store key) rest)) (versions_grow (map (cell_in store key) rest)) store.tries limits a.view d.view e.view (Claim here ∷ []) (Abandon here ∷ []) (both over.calls) ended
                (rises_second (λ h. versions h (map (cell_in store key) rest)) (versions_grow (map (cell_in store key) rest)) store.tries limits a.view c.view d.view (Claim here ∷ []) [] won over.calls s.1),
          )
      given_up_look (Refused refusal.DirectoryFull) s = absurd s
      given_up_look (Refused refusal.Unplaced) s = absurd s
      given_up_look (Refused refusal.Memory) s = absurd s
      given_up_look (Refused refusal.Exhausted) s = absurd s

-- ---- all of them, along a path

module _ (store : ContextCells) (context key : ℕ) (path rest : List ℕ) (whole : path ≡ context ∷ rest) where
  along : (a b : Lane) (r : Result ℕ Unused) → ClaimsFrom store context rest key a.view b.view r → ClaimsAlong store path key a.view b.view r
  along a b r from = subst (λ p. ClaimsAlong store p key a.view b.view r) (sym whole) from

  pub ancestors_are_trail : IsTrail store path → IsTrail store rest
  ancestors_are_trail trail = trail_rest store context rest (subst (IsTrail store) whole trail)

  pub first_look_ends : (a b : Lane) (unused : Unused) → a.cells ≡ store.cells → Stands store path key a b (Some unused) → ClaimsAlong store path key a.view b.view (Err unused)
  first_look_ends a b unused is s = along a b (Err unused) (first_look store context key rest a b is unused (subst (λ z. Stands store z key a b (Some unused)) whole s))

  module _ (a b c : Lane) (first : a.cells ≡ store.cells) (second : b.cells ≡ a.cells) (looked : Stands store path key a b None) (tries : ℕ) (same : tries ≡ store.tries) (cell : ℕ) (is_cell : cell ≡ cell_in store key context) where
    second' : b.cells ≡ store.cells
    second' = second ∙ first

    looked' : Stands store (context ∷ rest) key a b None
    looked' = subst (λ z. Stands store z key a b None) whole looked

    here' : (r : Result Claimed CellRefusal) → cells.Answers tries b c (cells.claim_acts cell) (cells.claim_reply b cell) r → cells.Answers tries b c (cells.claim_acts (cell_in store key context)) (cells.claim_reply b (cell_in store key context)) r
    here' r = subst (λ n. cells.Answers tries b c (cells.claim_acts n) (cells.claim_reply b n) r) is_cell

    pub standing_ends : (said : Claimed) (number : ℕ) → said ≡ Standing number → cells.Answers tries b c (cells.claim_acts cell) (cells.claim_reply b cell) (Ok said) → ClaimsAlong store path key a.view c.view (Err (Found context number))
    standing_ends said number is all =
        along a c (Err (Found context number)) (standing store context key rest a b c first second' tries same looked' number (here' (Ok (Standing number)) (subst (λ z. cells.Answers tries b c (cells.claim_acts cell) (cells.claim_reply b cell) (Ok z)) is all)))

    pub fault_ends : (said : Claimed) (number : ℕ) → said ≡ Fault number → cells.Answers tries b c (cells.claim_acts cell) (cells.claim_reply b cell) (Ok said) → ClaimsAlong store path key a.view c.view (Err (FaultStands context number))
    fault_ends said number is all =
        along a c (Err (FaultStands context number)) (fault_standing store context key rest a b c first second' tries same looked' number (here' (Ok (Fault number)) (subst (λ z. cells.Answers tries b c (cells.claim_acts cell) (cells.claim_reply b cell) (Ok z)) is all)))

    pub refusal_ends : (why : CellRefusal) (told_why : Refusal) → told_why ≡ refusal_at context why → cells.Answers tries b c (cells.claim_acts cell) (cells.claim_reply b cell) (Err why)
        → (why ≡ in_the_way → cells.IsOvertakenAt tries b c (Claim cell)) → ClaimsAlong store path key a.view c.view (Err (Refused told_why))
    refusal_ends why told_why is all last =
        along a c (Err (Refused told_why)) (subst (λ w. ClaimsFrom store context rest key a.view c.view (Err (Refused w))) (sym is) (refused store context key rest a b c first second' tries same looked' why (here' (Err why) all) (subst (λ n. why ≡ in_the_way → cells.IsOvertakenAt tries b c (Claim n)) is_cell last)))

    -- where the claim is won
    module _ (third : c.cells ≡ b.cells) (said : Claimed) (claim : ℕ) (is : said ≡ Won claim) (all : cells.Answers tries b c (cells.claim_acts cell) (cells.claim_reply b cell) (Ok said)) (held : IfWon (Ok said) (λ k. (k ≡ cell) × IsHeld c.view k)) where
      third' : c.cells ≡ store.cells
      third' = third ∙ second'

      all' : cells.Answers tries b c (cells.claim_acts (cell_in store key context)) (cells.claim_reply b (cell_in store key context)) (Ok (Won claim))
      all' = here' (Ok (Won claim)) (subst (λ z. cells.Answers tries b c (cells.claim_acts cell) (cells.claim_reply b cell) (Ok z)) is all)

      held' : (claim ≡ cell) × IsHeld c.view claim
      held' = subst (λ (z : Claimed). IfWon (Ok z) (λ k. (k ≡ cell) × IsHeld c.view k)) is held

      claim_is : claim ≡ cell_in store key context
      claim_is = held'.0 ∙ is_cell

      held_here : IsHeld c.view (cell_in store key context)
      held_here = subst (IsHeld c.view) claim_is held'.1

      calls : Calls store.cells.limits a.view c.view (Claim (cell_in store key context) ∷ [])
      calls = won_calls store context key rest a b c first second' tries same looked' claim all'

      claims : Claims store.cells.limits store context rest key a.view c.view
      claims = won_claims store context key rest a b c first second' tries same looked' claim all'

      pub claim_stands : (d : Lane) (r : Option Unused) → IsLegal c.cells.limits (seen_by d.view) → Stands store rest key c d r → IsHeld d.view claim
      claim_stands d r legal s = held_on store context key rest a c d third' calls claims claim r claim_is held_here legal s

      pub second_look_ends : (d : Lane) → IsLegal c.cells.limits (seen_by d.view) → Stands store rest key c d None → ClaimsAlong store path key a.view d.view (Ok claim)
      second_look_ends d legal s = along a d (Ok claim) (second_look store context key rest a c d third' calls claims claim claim_is held_here legal s)

      pub given_up_ends : (d e : Lane) (unused : Unused) → d.cells ≡ c.cells → Calls d.cells.limits d.view e.view (Abandon claim ∷ []) → Stands store rest key c d (Some unused)
          → ClaimsAlong store path key a.view e.view (Err unused)
      given_up_ends d e unused fourth ended s =
          along a e (Err unused) (given_up_look store context key rest a c d third' calls claims e
          (subst (λ (z : CellsId × ℕ). Calls z.0.limits d.view e.view (Abandon z.1 ∷ [])) (λ i. ((fourth ∙ third') i, claim_is i)) ended) unused s)
