-- What a lane that is alone on some cells sees there: its own events.
use Rattle.std.proofs.Common.{◌≡◌, ℕ, ◌+◌, ◌==◌, cond, inl, inr, suc, Bool, true, false, List, [], ◌∷◌, ◌++◌, Option, None, Some, length, length-append, ap, refl, sym, subst, ◌∙◌, arith, eq-eqb}
use Rattle.std.specs.Prelude.{filter, nat_eq, slice_get}
use mathlib.Core.List.{IsPrefix, append_cancel_left}
use base.Growing.{prefix_trans}
use Rattle.std.proofs.lemmas.Bool.{eqb-true}
use Rattle.std.proofs.lemmas.List.Elements.{filter-append}
use Rattle.std.proofs.lemmas.Option.{slice_get_within}
use Rattle.ext_history.specs.Histories.{seen_by}
use Rattle.ext_history.proofs.Lanes.{own_append, own_not, own_yes}
use Rattle.ext_history.proofs.Lists.{bools}
use Rattle.ext_model.specs.CallActs.{events_by}
use Rattle.ext_model.specs.declared.event.Event.{Event}
use Rattle.ext_model.specs.Events.{is_at, is_on, place_of}
use Rattle.ext_model.specs.History.{History, lane_of, own}
use Rattle.ext_engine.specs.TreeRun.{TreeSetting}
use Rattle.ext_engine.proofs.Acts.{shorter}
use Rattle.ext_one_report.specs.Changing.{AloneSeesItsOwn, events_at}
use Rattle.ext_one_report.proofs.Events.{behind_part, in_whole}

pub at_place : (cell : ℕ) (place : Option ℕ) → is_at nat_eq cell place ≡ true → place ≡ Some cell
at_place cell None on = absurd (cc on)
at_place cell (Some at) on = ap Some (eqb-true at cell on)

pub filter_no : (p : Event ℕ → Bool) (e : Event ℕ) (h : History) → p e ≡ false → filter p (e ∷ h) ≡ filter p h
filter_no p e h off = ap (λ b. cond b (e ∷ filter p h) (filter p h)) off

-- where each event on the cell is the lane's, the events on the cell are among the lane's
at_own : (n cell : ℕ) (more : History) → ((k : ℕ) (e : Event ℕ) → slice_get more k ≡ Some e → is_on nat_eq cell e.act ≡ true → e.lane ≡ n) → events_at cell more ≡ events_at cell (own n more)
at_own n cell [] all = refl
at_own n cell (e ∷ more) all =
    let rest = at_own n cell more (λ k x there on. all (suc k) x there on) in
    elim (bools (lane_of e == n)) [
      | inl mine ↦ ap (λ l. cond (is_on nat_eq cell e.act) (e ∷ l) l) rest ∙ sym (ap (λ l. events_at cell l) (own_yes lane_of n e more mine))
      | inr other ↦ elim (bools (is_on nat_eq cell e.act)) [
        | inl on ↦ let bad : true ≡ false = sym (eq-eqb (lane_of e) n (all 0 e refl on)) ∙ other in absurd (cc bad)
        | inr off ↦ filter_no (λ x. is_on nat_eq cell x.act) e more off ∙ (rest ∙ sym (ap (λ l. events_at cell l) (own_not lane_of n e more other)))
      ]
    ]

pub sees_its_own : {V A : Type 0} (t : TreeSetting V A) (changed : ℕ → List ℕ) → AloneSeesItsOwn t changed
sees_its_own t changed h node before after within alone acts p point cell left =
    let n = before.cells.view.number in
    let s = seen_by before.cells.view in
    let more = point.since.0 in
    let on_p = filter-append (λ (e : Event ℕ). is_on nat_eq cell e.act) in
    let all : s ++ more ≡ p = point.since.1 in
    let its : own n more ≡ events_by n acts = append_cancel_left (own n s) (own n more) (events_by n acts) (sym (own_append lane_of n s more) ∙ (ap (own n) all ∙ point.own_events)) in
    let p_in : IsPrefix p h = prefix_trans p (seen_by after.cells.view) h point.until within in
    let long = shorter p (seen_by after.cells.view) point.until in
    let size = ap length all in
    let sum = length-append s more in
    let mine : (k : ℕ) (e : Event ℕ) → slice_get more k ≡ Some e → is_on nat_eq cell e.act ≡ true → e.lane ≡ n = λ k e there on.
    let place = length s + k in
    let less = slice_get_within more k e there in
    let in_p : slice_get p place ≡ Some e = subst (λ (l : History). slice_get l place ≡ Some e) all (behind_part s more k place refl ∙ there) in
    let in_h : slice_get h place ≡ Some e = subst (λ (l : History). slice_get l place ≡ Some e) p_in.1 (in_whole p p_in.0 place e in_p) in
    let made = alone.each place cell e (record { since = omega arith; until = omega (arith, less, long, size, sum) }) in_h (at_place cell (place_of e.act) on) left in
    elim made [
      | inr none ↦ absurd none
      | inl one ↦
          let both : Some one.event ≡ Some e = sym one.there ∙ in_h in
          let same : one.event ≡ e = cc both in
          sym (ap (λ (x : Event ℕ). x.lane) same) ∙ one.own_event
    ] in
    sym (ap (λ (l : History). events_at cell l) all) ∙ (on_p s more ∙ (ap (λ l. events_at cell s ++ l) (at_own n cell more mine ∙ ap (λ (l : History). events_at cell l) its) ∙ sym (on_p s (events_by n acts))))
