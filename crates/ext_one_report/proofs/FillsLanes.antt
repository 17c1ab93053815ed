-- Which places lanes fill: the first of them alone, and all of them in two parts of a run.
use Rattle.std.proofs.Common.{◌≡◌, ◌⊎◌, inl, inr, ℕ, List, ◌∷◌, Some, ap, sym, ◌∙◌}
use mathlib.Core.List.{IsPrefix}
use Rattle.ext_history.specs.Histories.{seen_by}
use Rattle.ext_model.specs.declared.event.Event.{Event}
use Rattle.ext_model.specs.History.{History}
use Rattle.ext_engine.specs.Meeting.{HasSeenWithin}
use Rattle.ext_engine.specs.Order.{AllGoOn, IsMadeIn}
use Rattle.ext_engine.proofs.Acts.{all_made_then, same_made}
use Rattle.ext_plan_parallel.specs.StoreCalls.{PlanLane}
use Rattle.ext_one_report.proofs.Fills.{IsFilledBy, IsFilledIn, Spot}
use Rattle.ext_one_report.proofs.LanesAlone.{has_come, is_more}
use Rattle.ext_one_report.proofs.LanesApart.{made_first, made_later}
use Rattle.ext_one_report.proofs.MatchingWords.{RunView}

module _ (run : RunView) (h : History) where
  -- ---- places in parts of a run

  -- lanes that make these events as well fill these places as well
  pub filled_by_these : (xs ys zs ws : List PlanLane) (spot : Spot) (is : IsFilledIn run h xs ys spot) → IsMadeIn h is.place zs ws → IsFilledIn run h zs ws spot
  filled_by_these xs ys zs ws spot is made = record {
    number = is.number;
    has = is.has;
    place = is.place;
    event = is.event;
    there = is.there;
    value = is.value;
    act = is.act;
    made = made;
  }

  pub filled_first : (xs ys zs : List PlanLane) → AllGoOn ys zs → (spot : Spot) → IsFilledIn run h xs ys spot → IsFilledIn run h xs zs spot
  filled_first xs ys zs go spot is = filled_by_these xs ys xs zs spot is (made_first h xs ys zs is.place go is.made)

  pub filled_second : (xs ys zs : List PlanLane) → AllGoOn xs ys → (spot : Spot) → IsFilledIn run h ys zs spot → IsFilledIn run h xs zs spot
  filled_second xs ys zs go spot is = filled_by_these ys zs xs zs spot is (made_later h xs ys zs is.place go is.made)

  pub filled_then : (xs ys zs : List PlanLane) → AllGoOn xs ys → (spot : Spot) → IsFilledIn run h xs zs spot → IsFilledIn run h xs ys spot ⊎ IsFilledIn run h ys zs spot
  filled_then xs ys zs go spot is = elim (all_made_then h xs ys zs is.place go is.made) [
    | inl early ↦ inl (filled_by_these xs zs xs ys spot is early)
    | inr late ↦ inr (filled_by_these xs zs ys zs spot is late)
  ]

  -- lanes that stand as they stood fill none
  pub none_filled : (xs : List PlanLane) (spot : Spot) → IsFilledIn run h xs xs spot → ⊥
  none_filled xs spot is = same_made h xs is.place is.made

  -- ---- the first lane

  module _ (a b : PlanLane) (rest : List PlanLane) (within : HasSeenWithin h b) (spot : Spot) where
    pub filled_in : IsFilledBy run a b spot → IsFilledIn run h (a ∷ rest) (b ∷ rest) spot
    filled_in is =
        let come = has_come h (a ∷ rest) (b ∷ rest) is.more within is.is is.event is.there in
        record {
          number = is.number;
          has = is.has;
          place = come.place;
          event = is.event;
          there = come.there;
          value = is.value;
          act = is.act;
          made = inl (record { event = is.event; there = come.there; own_event = is.own; since = come.seen.since; until = come.seen.until });
        }

    pub filled_by : IsPrefix (seen_by a.cells.view) (seen_by b.cells.view) → IsFilledIn run h (a ∷ rest) (b ∷ rest) spot → IsFilledBy run a b spot
    filled_by seen is = elim is.made [
      | inr none ↦ absurd (same_made h rest is.place none)
      | inl one ↦
          let both : Some one.event ≡ Some is.event = sym one.there ∙ is.there in
          let same : one.event ≡ is.event = cc both in
          record {
            number = is.number;
            has = is.has;
            more = seen.0;
            is = sym seen.1;
            event = is.event;
            there = is_more h (seen_by a.cells.view) (seen_by b.cells.view) seen within is.place is.event is.there one.since one.until;
            value = is.value;
            act = is.act;
            own = sym (ap (λ (x : Event ℕ). x.lane) same) ∙ one.own_event;
          }
    ]
