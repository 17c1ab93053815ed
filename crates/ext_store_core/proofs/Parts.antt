-- What a part of a call says, said of the whole call.
use Rattle.std.proofs.Common.{◌≡◌, ◌≤◌, ◌∙◌, ℕ, List, [], ◌∷◌, ◌++◌, length, sym, refl, ap, subst, arith, append_assoc, append-nil}
use mathlib.Core.List.{IsPrefix, append_cancel_left}
use Rattle.std.specs.Prelude.{Option, None}
use Rattle.ext_model.specs.declared.event.Act.{Act}
use Rattle.ext_model.specs.declared.event.Act.TheVariants.{Claim}
use Rattle.ext_model.specs.declared.look.Look.{Look}
use Rattle.ext_model.specs.Events.{Happens}
use Rattle.ext_model.specs.History.{History, Limits, by, own, reply_after}
use Rattle.ext_history.specs.Histories.{last_after, seen_by, call_fronts, IsStepped}
use Rattle.ext_model.specs.CallActs.{LaneView, events_by, IsPointAfter, Calls, HoldsAtPoint, LooksAgain}
use Rattle.ext_history.proofs.Composed.{same_number, seen_is, first_decides, point_of_first, answer_first, seen_is_point}
use Rattle.ext_model.proofs.Composed.{point_of_second}
use Rattle.ext_store_core.specs.ContextCalls.{ContextCells, cell_in}
use Rattle.ext_store_core.specs.Claiming.{HappensAfter, LooksFirst, Claims, ClaimsAndLooks}

module _ (limits : Limits) (a b c : LaneView) (xs zs : List (Act ℕ)) (one : Calls limits a b xs) (two : Calls limits b c zs) where
  -- an event of the second part
  pub happens_second : (first : List (Act ℕ)) (act : Act ℕ) (answer : Option ℕ) → HappensAfter limits first b c act answer → HappensAfter limits (xs ++ first) a c act answer
  happens_second first act answer e =
      let n = same_number one in record {
        at = e.at;
        point = point_of_second limits a b c xs zs one two first e.at e.point;
        made = subst (λ (z : List (Act ℕ) × ℕ). IsPointAfter a c z.0 (e.at ++ by z.1 act ∷ [])) (λ i. (sym (append_assoc xs first (act ∷ [])) i, n i))
            (point_of_second limits a b c xs zs one two (first ++ act ∷ []) (e.at ++ by b.number act ∷ []) e.made);
        replied = subst (λ k. reply_after limits e.at k act ≡ Happens answer) n e.replied;
      }

  -- and of the first
  pub happens_first : (first : List (Act ℕ)) (act : Act ℕ) (answer : Option ℕ) → HappensAfter limits first a b act answer → HappensAfter limits first a c act answer
  happens_first first act answer e = record {
    at = e.at;
    point = point_of_first one two e.point;
    made = point_of_first one two e.made;
    replied = e.replied;
  }

  -- a look-up of the second part
  pub looks_second : (cell_of : ℕ → ℕ) (path : List ℕ) (first : List (Act ℕ)) (look : Look) → LooksAgain cell_of path b c first look → LooksAgain cell_of path a c (xs ++ first) look
  looks_second cell_of path first look l = (l.0, point_of_second limits a b c xs zs one two first l.0 l.1, l.2)

  -- and of the first
  pub looks_first : (cell_of : ℕ → ℕ) (path : List ℕ) (first : List (Act ℕ)) (look : Look) → LooksAgain cell_of path a b first look → LooksAgain cell_of path a c first look
  looks_first cell_of path first look l = (l.0, point_of_first one two l.1, l.2)

-- the event of a call that makes one
pub happens_alone : (limits : Limits) (a b : LaneView) (act : Act ℕ) (answer : Option ℕ) → HoldsAtPoint limits a b (act ∷ []) (λ p. reply_after limits p a.number act ≡ Happens answer) → HappensAfter limits [] a b act answer
happens_alone limits a b act answer h = record {
  at = h.point.0;
  point = answer_first h.calls h.point.0 h.point.1;
  made = subst (λ z. IsPointAfter a b (act ∷ []) z) h.point.1.1 (seen_is_point h.calls);
  replied = h.point.2;
}

-- a call that made an event made a step
stepped_by : (limits : Limits) (a b : LaneView) (act : Act ℕ) (acts : List (Act ℕ)) → Calls limits a b (act ∷ acts) → (fronts : List History) → call_fronts a b ≡ fronts → 1 ≤ length fronts
stepped_by limits a b act acts one [] is =
    let same : own a.number (seen_by b) ≡ own a.number (seen_by a) = ap (own a.number) (seen_is one ∙ ap (last_after (seen_by a)) is) in
    absurd (not_nil (append_cancel_left (own a.number (seen_by a)) [] (events_by a.number (act ∷ acts)) (append-nil (own a.number (seen_by a)) ∙ (sym same ∙ one.own_events))))
  where
    not_nil : (let none : History = [] in none ≡ events_by a.number (act ∷ acts)) → ⊥
    not_nil e = cc e
stepped_by limits a b act acts one (f ∷ fs) is = omega arith

pub event_steps : (limits : Limits) (a b : LaneView) (act : Act ℕ) (acts : List (Act ℕ)) → Calls limits a b (act ∷ acts) → IsStepped a b
event_steps limits a b act acts one = stepped_by limits a b act acts one (call_fronts a b) refl

-- a first look, where a further part follows it
pub first_stays : (limits : Limits) (a b c : LaneView) (xs zs : List (Act ℕ)) → Calls limits a b xs → Calls limits b c zs → IsStepped a b → (cell_of : ℕ → ℕ) (path : List ℕ) → LooksFirst cell_of path a b → LooksFirst cell_of path a c
first_stays limits a b c xs zs one two some cell_of path l = record {
  at = l.at;
  stepped = subst (λ h. IsPrefix h l.at) (sym (first_decides one two some)) l.stepped;
  point = point_of_first one two l.point;
  missing = l.missing;
}

-- a claim, and its second look, where a further part follows them
module _ (limits : Limits) (store : ContextCells) (context : ℕ) (ancestors : List ℕ) (key : ℕ) (a b c : LaneView) (ys : List (Act ℕ))
    (one : Calls limits a b (Claim (cell_in store key context) ∷ [])) (two : Calls limits b c ys) where
  pub claims_stay : Claims limits store context ancestors key a b → Claims limits store context ancestors key a c
  claims_stay k =
      let claim = Claim (cell_in store key context) in record {
        looked_first = first_stays limits a b c (claim ∷ []) ys one two (event_steps limits a b claim [] one) (cell_in store key) (context ∷ ancestors) k.looked_first;
        claimed = happens_first limits a b c (claim ∷ []) ys one two [] claim None k.claimed;
      }

  pub claims_first : (look : Look) → ClaimsAndLooks limits store context ancestors key a b look → ClaimsAndLooks limits store context ancestors key a c look
  claims_first look k =
      let claim = Claim (cell_in store key context) in record {
        claims = claims_stay k.claims;
        looked = looks_first limits a b c (claim ∷ []) ys one two (cell_in store key) ancestors (claim ∷ []) look k.looked;
      }
