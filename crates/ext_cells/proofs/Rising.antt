-- An exchange that met another word than was expected there means an event on that very word.
use Rattle.std.proofs.Common.{◌≡◌, ◌≢◌, ◌∙◌, ℕ, ◌+◌, ◌≤◌, ◌<◌, [], ◌∷◌, ◌++◌, fold, sym, subst, arith, Option, Some}
use Rattle.std.specs.Prelude.{nat_eq}
use Rattle.ext_model.specs.declared.event.Act.{Act}
use Rattle.ext_model.specs.declared.event.Act.TheVariants.{Keep, Put, Remove, Claim, Fill, Fail, Abandon, Seal}
use Rattle.ext_model.specs.Events.{apply, drawn_after, place_of}
use Rattle.ext_model.specs.State.{State}
use Rattle.ext_model.specs.History.{History, Limits, state_after, version_of}
use Rattle.ext_model.proofs.Versions.{after-append, same_word, version-append}
use Rattle.ext_cells.specs.CellCalls.{changes_at}
use Rattle.ext_cells.specs.InnerTableSteps.{IsWordAt}

-- from one history to another at least so many events changed the word at an index
pub record Rises (limits : Limits) (f g : History) (index count : ℕ) : Type 0 where
  pub cell : index < limits.cells → version_of f index + count ≤ version_of g index
  pub drawn : index ≡ limits.cells → (state_after f).drawn + count ≤ (state_after g).drawn

pub no_rise : (limits : Limits) (f g : History) (index : ℕ) → g ≡ f → Rises limits f g index 0
no_rise limits f g index is = subst (λ z. Rises limits f z index 0) (sym is) (record { cell = λ less. omega arith; drawn = λ last. omega arith })

act_draws : (act : Act ℕ) (drawn : ℕ) → drawn ≤ drawn_after act drawn
act_draws (Keep number) drawn = omega arith
act_draws (Put at number) drawn = omega arith
act_draws (Remove at) drawn = omega arith
act_draws (Claim at) drawn = omega arith
act_draws (Fill at number) drawn = omega arith
act_draws (Fail at number) drawn = omega arith
act_draws (Abandon at) drawn = omega arith
act_draws (Seal at) drawn = omega arith

-- the count of numbers drawn never falls
never_falls : (rest : History) (s : State ℕ) → s.drawn ≤ (fold (apply nat_eq) s rest).drawn
never_falls [] s = omega arith
never_falls (e ∷ rest) s =
    let one = act_draws e.act s.drawn in
    let more = never_falls rest (apply nat_eq s e) in
    omega (arith, one, more)

pub draws_on : (g m : History) → (state_after g).drawn ≤ (state_after (g ++ m)).drawn
draws_on g m = subst (λ (s : State ℕ). (state_after g).drawn ≤ s.drawn) (sym (after-append g m)) (never_falls m (state_after g))

module _ (limits : Limits) (f g m : History) (index word found count : ℕ) (was : IsWordAt limits g index word) (is : IsWordAt limits (g ++ m) index found) (ne : found ≢ word) (r : Rises limits f g index count) where
  at_cell : index < limits.cells → version_of f index + (count + 1) ≤ version_of (g ++ m) index
  at_cell less =
      let had = r.cell less in
      let some : version_of m index ≡ 0 → ⊥ = λ none. ne (is.cell less ∙ same_word g m index none ∙ sym (was.cell less)) in
      let both = version-append g m index in
      omega (arith, had, some, both)

  at_count : index ≡ limits.cells → (state_after f).drawn + (count + 1) ≤ (state_after (g ++ m)).drawn
  at_count last =
      let had = r.drawn last in
      let grows = draws_on g m in
      let old = was.count last in
      let now = is.count last in
      omega (arith, had, grows, old, now, ne)

  pub one_rise : Rises limits f (g ++ m) index (count + 1)
  one_rise = record { cell = at_cell; drawn = at_count }

-- so many at the word of an act on a cell
pub own_cell : (limits : Limits) (f g : History) (cell count tries : ℕ) (act : Act ℕ) → place_of act ≡ Some cell → cell < limits.cells → tries ≤ count → Rises limits f g cell count
    → changes_at (place_of act) f + tries ≤ changes_at (place_of act) g
own_cell limits f g cell count tries act on less few r =
    let risen = r.cell less in
    let P : Option ℕ → Type 0 = λ o. changes_at o f + tries ≤ changes_at o g in
    subst P (sym on) (omega (arith, risen, few))
