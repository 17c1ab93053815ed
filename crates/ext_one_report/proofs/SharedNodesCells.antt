-- One cell between two moments of a history: where nothing happens there, where a value or a fault stands that all events compute, and where it may stand.
use Rattle.std.proofs.Common.{◌≡◌, ℕ, ◌+◌, ◌<◌, ◌≤◌, zero, suc, true, [], ◌∷◌, ◌++◌, Contains, Some, length, length-append, append-nil, ap, refl, sym, subst, ◌∙◌, arith, nat_eq}
use Rattle.std.specs.Prelude.{slice_get}
use mathlib.Core.List.{IsPrefix, append_cancel_left}
use base.Growing.{prefix_trans}
use Rattle.std.proofs.lemmas.List.Elements.{filter-append}
use Rattle.std.proofs.lemmas.Option.{slice_get_within}
use Rattle.ext_history.proofs.Legal.{legal_begun}
use Rattle.ext_history.proofs.Lists.{contains_filter, contains_here, contains_later, contains_none}
use Rattle.ext_model.specs.declared.event.Act.{Act}
use Rattle.ext_model.specs.declared.event.Event.{Event}
use Rattle.ext_model.specs.Events.{is_on, place_of}
use Rattle.ext_model.specs.History.{History, IsLegal, Limits, state_after}
use Rattle.ext_one_report.specs.Changing.{events_at}
use Rattle.ext_one_report.proofs.Events.{behind_part, in_part, in_whole}
use Rattle.ext_one_report.proofs.Kept.{same_there}
use Rattle.ext_one_report.proofs.Sees.{at_place}
use Rattle.ext_engine.proofs.Acts.{shorter}
use Rattle.ext_one_report.proofs.MatchingWords.{RunView}
use Rattle.ext_one_report.proofs.OnCells.{none_at, same_slot}
use Rattle.ext_one_report.proofs.Open.{Computes, Given, MayStand, Stands}
use Rattle.ext_one_report.proofs.Standing.{keeps_near, standing_stays}
use Rattle.ext_one_report.proofs.LanesAlone.{is_on_place, place_in}

there_in : (more : History) (k : ℕ) (e : Event ℕ) → slice_get more k ≡ Some e → Contains more e
there_in [] k e there = absurd (cc there)
there_in (x ∷ more) zero e there = let same : x ≡ e = cc there in subst (λ y. Contains (x ∷ more) y) same (contains_here x more)
there_in (x ∷ more) (suc k) e there = contains_later x more e (there_in more k e there)

-- the events at the cell between the two parts of a history
abbrev pub Between : History → History → History → ℕ → (Act ℕ → Type 0) → Type 0
Between h g f cell P = (place : ℕ) (event : Event ℕ) → length g ≤ place → place < length f → slice_get h place ≡ Some event → place_of event.act ≡ Some cell → P event.act

module _ (h g f : History) (on : IsPrefix g f) (within : IsPrefix f h) (cell : ℕ) where
  each_more : (P : Act ℕ → Type 0) → Between h g f cell P → (e : Event ℕ) → Contains on.0 e → is_on nat_eq cell e.act ≡ true → P e.act
  each_more P each e there is =
      let more = on.0 in
      let k = place_in more e there in
      let place = length g + k.0 in
      let less = slice_get_within more k.0 e k.1 in
      let size = ap length on.1 in
      let sum = length-append g more in
      let in_f : slice_get f place ≡ Some e = subst (λ (l : History). slice_get l place ≡ Some e) on.1 (behind_part g more k.0 place refl ∙ k.1) in
      let in_h : slice_get h place ≡ Some e = subst (λ (l : History). slice_get l place ≡ Some e) within.1 (in_whole f within.0 place e in_f) in
      each place e (omega arith) (omega (arith, less, size, sum)) in_h (at_place cell (place_of e.act) is)

  -- where the same events are there in both, there is none between them
  pub none_between : events_at cell f ≡ events_at cell g → Between h g f cell (λ act. ⊥)
  none_between same place e low high there is =
      let more = on.0 in
      let parts = filter-append (λ (x : Event ℕ). is_on nat_eq cell x.act) g more in
      let whole : events_at cell g ++ events_at cell more ≡ events_at cell g ++ [] = sym parts ∙ (ap (λ (l : History). events_at cell l) on.1 ∙ (same ∙ sym (append-nil (events_at cell g)))) in
      let nothing : events_at cell more ≡ [] = append_cancel_left (events_at cell g) (events_at cell more) [] whole in
      let in_f : slice_get f place ≡ Some e = in_part f within.0 place e high (subst (λ (l : History). slice_get l place ≡ Some e) (sym within.1) there) in
      let k = place_behind place low in
      let in_more : slice_get more k.0 ≡ Some e = sym (behind_part g more k.0 place k.1) ∙ subst (λ (l : History). slice_get l place ≡ Some e) (sym on.1) in_f in
      contains_none e (subst (λ (l : History). Contains l e) nothing (contains_filter (λ (x : Event ℕ). is_on nat_eq cell x.act) more e (is_on_place cell e.act is) (there_in more k.0 e in_more)))
    where
      place_behind : (place : ℕ) → length g ≤ place → (k : ℕ) × (place ≡ length g + k)
      place_behind place low = behind (length g) place low
        where
          behind : (n m : ℕ) → n ≤ m → (k : ℕ) × (m ≡ n + k)
          behind zero m less = (m, omega arith)
          behind (suc n) zero less = absurd (omega (arith, less))
          behind (suc n) (suc m) less = let r = behind n m (omega (arith, less)) in let e = r.1 in (r.0, omega (arith, e))

  -- where it stands, and all events compute it, there is none
  pub stands_stay : (run : RunView) (limits : Limits) (v : Given) → IsLegal limits h → Stands run.meaning v ((state_after g).slots cell) → Between h g f cell (Computes run v) → events_at cell f ≡ events_at cell g
  stands_stay run limits v legal stands computed =
      let more = on.0 in
      let up_to : IsLegal limits (g ++ more) = subst (IsLegal limits) (sym on.1) (legal_begun f h within legal) in
      let quiet = standing_stays run limits v cell g more up_to stands (each_more (Computes run v) computed) in
      let parts = filter-append (λ (x : Event ℕ). is_on nat_eq cell x.act) g more in
      sym (ap (λ (l : History). events_at cell l) on.1) ∙ (parts ∙ (ap (λ l. events_at cell g ++ l) (none_at more cell quiet) ∙ append-nil (events_at cell g)))

  -- where it may stand, it may later
  pub near_stay : (run : RunView) (v : Given) → MayStand run.meaning v ((state_after g).slots cell) → Between h g f cell (Computes run v) → MayStand run.meaning v ((state_after f).slots cell)
  near_stay run v near computed =
      subst (λ (l : History). MayStand run.meaning v ((state_after l).slots cell)) on.1 (keeps_near run v cell g on.0 near (each_more (Computes run v) computed))

-- what is so of events between two moments is so of those between two others that lie between them
pub between_fewer : (h g f g' f' : History) (cell : ℕ) (P : Act ℕ → Type 0) → IsPrefix g g' → IsPrefix f' f → Between h g f cell P → Between h g' f' cell P
between_fewer h g f g' f' cell P later earlier each place e low high there is =
    let a = shorter g g' later in
    let b = shorter f' f earlier in
    each place e (omega (arith, a, low)) (omega (arith, b, high)) there is

-- so where nothing happens between two moments, nothing does up to one between them
pub quiet_up_to : (h g f m : History) (cell : ℕ) → IsPrefix g m → IsPrefix m f → IsPrefix f h → events_at cell f ≡ events_at cell g → events_at cell m ≡ events_at cell g
quiet_up_to h g f m cell first second within same =
    same_there h g m cell first (prefix_trans m f h second within)
    (λ place e low high there is. let b = shorter m f second in none_between h g f (prefix_trans g m f first second) within cell same place e low (omega (arith, b, high)) there is)

-- and what stands there stands there still
pub still_stands : (run : RunView) (v : Given) (g f : History) (cell : ℕ) → events_at cell f ≡ events_at cell g → Stands run.meaning v ((state_after g).slots cell) → Stands run.meaning v ((state_after f).slots cell)
still_stands run v g f cell same stands = subst (λ x. Stands run.meaning v x) (same_slot g f cell (sym same)) stands
