-- What the nearest of the cells on a path says of the look-up along it.
use Rattle.std.proofs.Common.{◌≡◌, ◌≢◌, ℕ, suc, ◌<◌, ◌≤◌, List, ◌∷◌, ◌++◌, map, take, drop, drop-cons, get_or, length, slice_index, sym, refl, ap, ◌∙◌, subst, arith, Option, None, Some}
use Rattle.std.specs.Prelude.{All, Result, Ok, Err}
use Rattle.std.proofs.lemmas.List.{get_or-map, length-map, take-append-drop, take-map}
use Rattle.ext_model.specs.declared.look.Look.{Look}
use Rattle.ext_model.specs.declared.slot.Slot.{Slot}
use Rattle.ext_model.specs.declared.look.Look.TheVariants.{Absent}
use Rattle.ext_model.specs.State.{lookup, look_in}
use Rattle.ext_model.specs.History.{History, slots_in, state_after}
use Rattle.ext_model.proofs.Lookups.{nearest_decides, empty_path}
use Rattle.ext_cells.specs.Lanes.{Lane}
use Rattle.ext_cells.specs.declared.nearest.Nearest.{Nearest}
use Rattle.ext_cells.specs.declared.standing.Standing.{Standing}
use Rattle.ext_cells.specs.CellCalls.{IsOvertakenOn, standing_of, StandsFirst, StoodNearest}
use Rattle.ext_store_core.specs.ContextCalls.{ContextCells, cell_in, Answers, look_acts}
use Rattle.ext_model.specs.CallActs.{look_after}
use Rattle.ext_store_core.specs.declared.fault.Refusal.{Refusal}
use Rattle.ext_store_core.specs.declared.fault.Refusal.TheVariants.{Contended}
use Rattle.ext_store_core.specs.InnerLooking.{LooksAt, Looks}

-- ---- the nearest cell

-- the first context where anything stands decides
stands_decides : (slots : ℕ → Option Slot) (nearer : List ℕ) (context : ℕ) (farther : List ℕ) (s : Option Slot) → All (λ c. slots c ≡ None) nearer → slots context ≡ s → s ≢ None → lookup slots (nearer ++ context ∷ farther) ≡ look_in context s
stands_decides slots nearer context farther None none is some = absurd (some refl)
stands_decides slots nearer context farther (Some s) none is some = nearest_decides slots nearer context farther s none is

-- the cells of a path are empty where its contexts are
nothing_along : (cell_of : ℕ → ℕ) (p : History) (path : List ℕ) → All (λ c. (state_after p).slots c ≡ None) (map cell_of path) → All (λ c. slots_in cell_of p c ≡ None) path
nothing_along cell_of p path none =
    (λ i d within.
    let long : length (map cell_of path) ≡ length path = length-map path cell_of in
    subst (λ c. (state_after p).slots c ≡ None) (get_or-map cell_of path i d 0 within) (none i 0 (omega (arith, long, within))))

path_at : (path : List ℕ) (i : ℕ) → i < length path → take i path ++ get_or path i 0 ∷ drop (suc i) path ≡ path
path_at path i within = ap (λ z. take i path ++ z) (sym (drop-cons path i 0 within)) ∙ take-append-drop i path

-- some standing is told of a cell where something stands
something : (s : Option Slot) (standing : Standing) → standing_of s ≡ Some standing → s ≢ None
something s standing told none = absurd (nothing standing (sym (ap standing_of none) ∙ told))
  where
    nothing : (standing : Standing) → (let no : Option Standing = None in no ≡ Some standing) → ⊥
    nothing standing e = cc e

-- what is told of the nearest cell is the look-up
stands_first : (cell_of : ℕ → ℕ) (p : History) (path : List ℕ) (n : Nearest) (look : Look) → StandsFirst p (map cell_of path) n
    → ((s : Option Slot) → standing_of s ≡ Some n.standing → look ≡ look_in (slice_index path n.index) s) → look ≡ lookup (slots_in cell_of p) path
stands_first cell_of p path n look first said =
    let long : length (map cell_of path) ≡ length path = length-map path cell_of in
    let inside = first.within in
    let within : n.index < length path = omega (arith, long, inside) in
    let context : ℕ = get_or path n.index 0 in
    let cell_is : get_or (map cell_of path) n.index 0 ≡ cell_of (get_or path n.index 0) = get_or-map cell_of path n.index 0 0 within in
    let none : All (λ c. slots_in cell_of p c ≡ None) (take n.index path) = nothing_along cell_of p (take n.index path) (subst (All (λ c. (state_after p).slots c ≡ None)) (take-map cell_of n.index path) first.nothing_before) in
    let told : standing_of (slots_in cell_of p (get_or path n.index 0)) ≡ Some n.standing = subst (λ c. standing_of ((state_after p).slots c) ≡ Some n.standing) cell_is first.stands in
    let some : slots_in cell_of p (get_or path n.index 0) ≢ None = something _ n.standing told in
    let look_is : look ≡ look_in (get_or path n.index 0) (slots_in cell_of p (get_or path n.index 0)) = said _ told in
    look_is ∙ (sym (stands_decides (slots_in cell_of p) (take n.index path) context (drop (suc n.index) path) _ none refl some) ∙ ap (lookup (slots_in cell_of p)) (path_at path n.index within))

module _ (store : ContextCells) (path : List ℕ) (key : ℕ) (before after : Lane) (cells : List ℕ) (all : cells ≡ map (cell_in store key) path) where
  long_as : length cells ≡ length path
  long_as = ap length all ∙ length-map path (cell_in store key)

  pub looks_found : (n : Nearest) (look : Look) → StoodNearest before after cells (Some n)
      → ((s : Option Slot) → standing_of s ≡ Some n.standing → look ≡ look_in (slice_index path n.index) s) → LooksAt store path key before after look
  looks_found n look stood said =
      let p : History = stood.point.0 in
      let long = long_as in
      record {
        calls = stood.calls;
        stepped = λ some. stood.stepped (omega (arith, some, long));
        point = (p, stood.point.1, stands_first (cell_in store key) p path n look (subst (λ cs. StandsFirst p cs n) all stood.point.2) said);
      }

  pub looks_absent : StoodNearest before after cells None → LooksAt store path key before after Absent
  looks_absent stood =
      let p : History = stood.point.0 in
      let long = long_as in
      record {
        calls = stood.calls;
        stepped = λ some. stood.stepped (omega (arith, some, long));
        point = (p, stood.point.1, sym (empty_path (slots_in (cell_in store key) p) path (nothing_along (cell_in store key) p path (subst (All (λ c. (state_after p).slots c ≡ None)) all stood.point.2))));
      }

-- what a look-up says that is refused
pub looks_overtaken : (store : ContextCells) (path : List ℕ) (key : ℕ) (before after : Lane) (r : Result Look Refusal) → Looks store path key before after r → r ≡ Err Contended
    → IsOvertakenOn store.tries (map (cell_in store key) path) before.view after.view
looks_overtaken store path key before after (Ok look) l is = absurd (cc is)
looks_overtaken store path key before after (Err why) l is = l.2

-- a look-up along a path that is not empty is answered at its point
pub looks_answer : (store : ContextCells) (path : List ℕ) (key : ℕ) (before after : Lane) (r : Result Look Refusal) → 1 ≤ length path → Looks store path key before after r
    → Answers store (Err Contended) before after look_acts (λ p. Ok (look_after (cell_in store key) path p)) r
looks_answer store path key before after (Ok look) some l = record {
  overtaken = λ e. absurd (cc e);
  replied = λ ne. record { calls = l.calls; stepped = l.stepped some; point = (l.point.0, l.point.1, ap Ok l.point.2) };
}
looks_answer store path key before after (Err why) some l = record {
  overtaken = λ e. l.1;
  replied = λ ne. absurd (ne (ap Err l.0));
}
