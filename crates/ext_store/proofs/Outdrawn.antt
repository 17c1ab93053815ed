-- Other lanes that drew so many numbers in the way of a part of a call were in the way of the whole call.
use Rattle.std.proofs.Common.{◌≡◌, ℕ, List, subst, Option}
use base.Growing.{prefix_refl, prefix_trans}
use Rattle.ext_model.specs.declared.event.Act.{Act}
use Rattle.ext_model.specs.declared.event.Act.TheVariants.{Keep}
use Rattle.ext_model.specs.Events as events
use Rattle.ext_model.specs.History.{History, Limits, reply_after, state_after}
use Rattle.ext_model.specs.CallActs.{LaneView, Calls}
use Rattle.ext_history.specs.Histories.{seen_by}
use Rattle.ext_history.proofs.Composed.{same_number, seen_goes_on}
use Rattle.ext_cells.specs.Lanes.{Lane}
use Rattle.ext_cells.specs.CellCalls.{IsOvertakenAt}
use Rattle.ext_store_core.proofs.Rises.{drawn_grows, rises_first, rises_second}
use Rattle.ext_store.specs.Computing.{IsOutdrawn}

-- ---- a part of a call, and the whole call

abbrev drawn_in : History → ℕ
drawn_in h = (state_after h).drawn

module _ (limits : Limits) (tries : ℕ) (a b c : LaneView) (xs ys : List (Act ℕ)) (one : Calls limits a b xs) (two : Calls limits b c ys) where
  -- by the first part,
  pub outdrawn_first : IsOutdrawn limits tries a b → IsOutdrawn limits tries a c
  outdrawn_first over = record {
    drawn = rises_first drawn_in drawn_grows tries limits a b c xs ys one two over.drawn;
    left = (over.left.0, record { since = over.left.1.since; until = prefix_trans over.left.0 (seen_by b) (seen_by c) over.left.1.until (seen_goes_on two) }, over.left.2);
  }

  -- or by the second
  pub outdrawn_second : IsOutdrawn limits tries b c → IsOutdrawn limits tries a c
  outdrawn_second over = record {
    drawn = rises_second drawn_in drawn_grows tries limits a b c xs ys one two over.drawn;
    left = (
      over.left.0,
      record { since = prefix_trans (seen_by a) (seen_by b) over.left.0 (seen_goes_on one) over.left.1.since; until = over.left.1.until },
      subst (λ n. (answer : Option ℕ) × (reply_after limits over.left.0 n (Keep 0) ≡ events.Happens answer)) (same_number one) over.left.2,
    );
  }

-- the drawing alone
pub outdrawn : (limits : Limits) (tries : ℕ) (a b : Lane) (xs : List (Act ℕ)) → a.cells.limits ≡ limits → Calls limits a.view b.view xs → IsOvertakenAt tries a b (Keep 0) → IsOutdrawn limits tries a.view b.view
outdrawn limits tries a b xs is calls over = record {
  drawn = over.own_word;
  left = (
    seen_by b.view,
    record { since = seen_goes_on calls; until = prefix_refl (seen_by b.view) },
    subst (λ z. (answer : Option ℕ) × (reply_after z (seen_by b.view) a.view.number (Keep 0) ≡ events.Happens answer)) is over.would_happen,
  );
}
