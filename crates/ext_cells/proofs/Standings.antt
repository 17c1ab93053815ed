-- How cells stand, and what each kind of step does to that.
use Rattle.std.proofs.Common.{◌≡◌, ◌≢◌, ℕ, ◌+◌, ◌<◌, ◌⊎◌, inl, inr, List, [], ◌∷◌, ◌++◌, length, get_or, set, cond, false, arith, get_or-set_same, get_or-set_other, refl, ap, sym, subst, ◌∙◌, nat_eq, None, Some, Contains}
use Rattle.std.specs.Prelude.{if◌then◌else◌}
use Rattle.std.proofs.lemmas.Bool.{ne_eqb}
use mathlib.Core.Logic.{dite}
use native.Mathlib.Decide.{ℕ_discrete}
use Rattle.ext_model.specs.declared.event.Act.{Act}
use Rattle.ext_model.specs.Events.{place_of, is_at, slot_after}
use Rattle.ext_model.specs.Closing.{IsSealedUnused}
use Rattle.ext_model.specs.History.{History, Limits, by, state_after, version_of}
use Rattle.ext_model.specs.CellWords.{state_code, number_code, word, slot_word, word_of}
use Rattle.ext_model.proofs.Versions.{version-append, same_word}
use Rattle.ext_model.proofs.Words.{version-push, slots-push}
use Rattle.ext_cells.specs.Standings.{Standing, At, Open, Ended, ended_word, IsCellAt, AreCellsOf, MayEnd, seals, told_word}
use Rattle.ext_cells.proofs.SealsAtOnce.{nothing, slots_elsewhere, versions_elsewhere, end_seals}

-- ---- what is told

-- a cell without an event has word 0
pub zero_word : (h : History) (cell : ℕ) → version_of h cell ≡ 0 → word_of h cell ≡ 0
zero_word h cell none =
    ap (λ s. word (state_code s) (number_code s) (version_of h cell)) (nothing h cell none) ∙ ap (λ v. word 0 0 v) none

-- and one that has ended has that word
pub word_then : (h : History) (cell : ℕ) → IsSealedUnused h cell → word_of h cell ≡ ended_word
word_then h cell is = ap (λ s. slot_word s (version_of h cell)) is.slot ∙ ap (λ v. word 3 0 v) is.version

told_at : (h : History) (words : List ℕ) (cell : ℕ) (s : Standing) → IsCellAt h words cell s → told_word words s ≡ word_of h cell
told_at h words cell (At index) is = is
told_at h words cell Open is = sym (zero_word h cell is)
told_at h words cell Ended is = sym (word_then h cell is)

pub told : (limits : Limits) (stands : ℕ → Standing) (h : History) (words : List ℕ) (cell : ℕ) → AreCellsOf limits stands h words → cell < limits.cells → told_word words (stands cell) ≡ word_of h cell
told limits stands h words cell are within = told_at h words cell (stands cell) (are.each cell within)

-- one event in all, and one before: none later
none_later : (h later : History) (cell : ℕ) → version_of (h ++ later) cell ≡ 1 → (version_of h cell ≡ 0 → ⊥) → version_of later cell ≡ 0
none_later h later cell one some = let all = version-append h later cell in omega (arith, one, some, all)

none_before : (h later : History) (cell : ℕ) → version_of (h ++ later) cell ≡ 0 → version_of h cell ≡ 0
none_before h later cell none = let all = version-append h later cell in omega (arith, none, all)

used_at : (h later : History) (words : List ℕ) (cell : ℕ) (s : Standing) → IsCellAt (h ++ later) words cell s → (word_of h cell ≡ 0 → ⊥) → (word_of h cell ≡ ended_word → ⊥) → (index : ℕ) × (s ≡ At index)
used_at h later words cell (At index) is some more = (index, refl)
used_at h later words cell Open is some more = absurd (some (zero_word h cell (none_before h later cell is)))
used_at h later words cell Ended is some more =
    absurd (more (sym (same_word h later cell (none_later h later cell is.version (λ none. some (zero_word h cell none)))) ∙ word_then (h ++ later) cell is))

pub used : (limits : Limits) (stands : ℕ → Standing) (h later : History) (words : List ℕ) (cell : ℕ) → AreCellsOf limits stands (h ++ later) words → cell < limits.cells
    → (word_of h cell ≡ 0 → ⊥) → (word_of h cell ≡ ended_word → ⊥) → (index : ℕ) × (stands cell ≡ At index)
used limits stands h later words cell are within some more = used_at h later words cell (stands cell) (are.each cell within) some more

-- ---- an event

off_it : (cell other : ℕ) → other ≢ cell → nat_eq cell other ≡ false
off_it cell other ne = ne_eqb cell other (λ e. ne (sym e))

-- a cell's fact depends on its own slot and version, and on the word where it stands
moved_at : (h g : History) (words later : List ℕ) (cell : ℕ) (s : Standing) → (state_after g).slots cell ≡ (state_after h).slots cell → version_of g cell ≡ version_of h cell
    → ((at : ℕ) → s ≡ At at → get_or later at 0 ≡ get_or words at 0) → IsCellAt h words cell s → IsCellAt g later cell s
moved_at h g words later cell (At index) slot v same is = same index refl ∙ is ∙ (λ i. slot_word (sym slot i) (sym v i))
moved_at h g words later cell Open slot v same is = v ∙ is
moved_at h g words later cell Ended slot v same is = record { version = v ∙ is.version; slot = slot ∙ is.slot }

slot_off : (h : History) (lane : ℕ) (act : Act ℕ) (other : ℕ) → is_at nat_eq other (place_of act) ≡ false → (state_after (h ++ by lane act ∷ [])).slots other ≡ (state_after h).slots other
slot_off h lane act other is = slots-push h (by lane act) other ∙ ap (λ b. if b then slot_after lane act ((state_after h).slots other) else (state_after h).slots other) is

version_off : (h : History) (lane : ℕ) (act : Act ℕ) (other : ℕ) → is_at nat_eq other (place_of act) ≡ false → version_of (h ++ by lane act ∷ []) other ≡ version_of h other
version_off h lane act other is =
    let none : version_of h other + cond false 1 0 ≡ version_of h other = omega arith in
    version-push h (by lane act) other ∙ ap (λ b. version_of h other + cond b 1 0) is ∙ none

-- a cell that the event is not on, and whose word stays
off_event : (stands : ℕ → Standing) (h : History) (words later : List ℕ) (lane : ℕ) (act : Act ℕ) (other : ℕ) → is_at nat_eq other (place_of act) ≡ false
    → ((at : ℕ) → stands other ≡ At at → get_or later at 0 ≡ get_or words at 0) → IsCellAt h words other (stands other) → IsCellAt (h ++ by lane act ∷ []) later other (stands other)
off_event stands h words later lane act other is same was =
    moved_at h (h ++ by lane act ∷ []) words later other (stands other) (slot_off h lane act other is) (version_off h lane act other is) same was

pub changed : (limits : Limits) (stands : ℕ → Standing) (h : History) (words : List ℕ) (lane : ℕ) (act : Act ℕ) (cell index next : ℕ)
    → AreCellsOf limits stands h words → cell < limits.cells → stands cell ≡ At index → index < length words → place_of act ≡ Some cell
    → next ≡ word_of (h ++ by lane act ∷ []) cell
    → AreCellsOf limits stands (h ++ by lane act ∷ []) (set words index next)
changed limits stands h words lane act cell index next are within here fits on is = record {
  each = λ other less. dite (ℕ_discrete other cell)
      (λ same. subst (λ x. IsCellAt (h ++ by lane act ∷ []) (set words index next) x (stands x)) (sym same)
      (subst (IsCellAt (h ++ by lane act ∷ []) (set words index next) cell) (sym here) (get_or-set_same words index next 0 fits ∙ is)))
      (λ (ne : other ≡ cell → ⊥). off_event stands h words (set words index next) lane act other (ap (is_at nat_eq other) on ∙ off_it cell other ne)
      (λ at there. get_or-set_other words index at next 0 (λ e. ne (are.apart other cell index less within (there ∙ ap At e) here)))
      (are.each other less));
  apart = are.apart;
}

pub drawn : (limits : Limits) (stands : ℕ → Standing) (h : History) (words : List ℕ) (lane : ℕ) (act : Act ℕ) (index next : ℕ)
    → AreCellsOf limits stands h words → place_of act ≡ None → ((cell : ℕ) → cell < limits.cells → stands cell ≡ At index → ⊥)
    → AreCellsOf limits stands (h ++ by lane act ∷ []) (set words index next)
drawn limits stands h words lane act index next are on free = record {
  each = λ other less. off_event stands h words (set words index next) lane act other (ap (is_at nat_eq other) on)
      (λ at there. get_or-set_other words index at next 0 (λ e. free other less (there ∙ ap At e)))
      (are.each other less);
  apart = are.apart;
}

-- the word of no cell changes
pub beside : (limits : Limits) (stands : ℕ → Standing) (h : History) (words : List ℕ) (index next : ℕ)
    → AreCellsOf limits stands h words → ((cell : ℕ) → cell < limits.cells → stands cell ≡ At index → ⊥)
    → AreCellsOf limits stands h (set words index next)
beside limits stands h words index next are free = record {
  each = λ other less. moved_at h h words (set words index next) other (stands other) refl refl
      (λ at there. get_or-set_other words index at next 0 (λ e. free other less (there ∙ ap At e)))
      (are.each other less);
  apart = are.apart;
}

-- ---- a cell gets its mark

pub marked : (limits : Limits) (stands after : ℕ → Standing) (h : History) (words later : List ℕ) (cell index : ℕ)
    → AreCellsOf limits stands h words → cell < limits.cells → stands cell ≡ Open → after cell ≡ At index → get_or later index 0 ≡ 0
    → ((other : ℕ) → other < limits.cells → stands other ≡ At index → ⊥)
    → ((other : ℕ) → other < limits.cells → (other ≡ cell) ⊎ (after other ≡ stands other))
    → ((other at : ℕ) → other < limits.cells → stands other ≡ At at → get_or later at 0 ≡ get_or words at 0)
    → AreCellsOf limits after h later
marked limits stands after h words later cell index are within was is zero_there free others same = record {
  each = λ other less. elim (others other less) [
    | inl it ↦ subst (λ x. IsCellAt h later x (after x)) (sym it) (subst (IsCellAt h later cell) (sym is) (zero_there ∙ sym (zero_word h cell (subst (IsCellAt h words cell) was (are.each cell within)))))
    | inr old ↦ subst (IsCellAt h later other) (sym old) (moved_at h h words later other (stands other) refl refl (λ at. same other at less) (are.each other less))
  ];
  apart = λ one two at less fewer p q. elim (others one less) [
    | inl it ↦ elim (others two fewer) [
      | inl too ↦ it ∙ sym too
      | inr old ↦ absurd (free two fewer (sym old ∙ q ∙ one_index (sym (ap after it) ∙ p)))
    ]
    | inr was_one ↦ elim (others two fewer) [
      | inl too ↦ absurd (free one less (sym was_one ∙ p ∙ one_index (sym (ap after too) ∙ q)))
      | inr was_two ↦ are.apart one two at less fewer (sym was_one ∙ p) (sym was_two ∙ q)
    ]
  ];
}
  where
    one_index : {at : ℕ} → after cell ≡ At at → At at ≡ At index
    one_index e = sym e ∙ is

-- ---- a block ends

pub ended : (limits : Limits) (stands after : ℕ → Standing) (h : History) (words later : List ℕ) (lane : ℕ) (cells : List ℕ)
    → AreCellsOf limits stands h words → MayEnd limits h cells
    → ((cell : ℕ) → cell < limits.cells → (Contains cells cell × (after cell ≡ Ended)) ⊎ ((Contains cells cell → ⊥) × (after cell ≡ stands cell)))
    → ((cell at : ℕ) → cell < limits.cells → stands cell ≡ At at → get_or later at 0 ≡ get_or words at 0)
    → AreCellsOf limits after (h ++ seals lane cells) later
ended limits stands after h words later lane cells are may cases same = record {
  each = λ cell less. elim (cases cell less) [
    | inl t ↦ subst (IsCellAt (h ++ seals lane cells) later cell) (sym t.1) (end_seals limits h lane cells cell may t.0)
    | inr t ↦ subst (IsCellAt (h ++ seals lane cells) later cell) (sym t.1)
        (moved_at h (h ++ seals lane cells) words later cell (stands cell) (slots_elsewhere h lane cells cell t.0) (versions_elsewhere h lane cells cell t.0) (λ at there. same cell at less there) (are.each cell less))
  ];
  apart = λ one two at less fewer p q. are.apart one two at less fewer (was one at less p) (was two at fewer q);
}
  where
    no_index : {at : ℕ} → Ended ≡ At at → ⊥
    no_index e = cc e

    was : (cell at : ℕ) → cell < limits.cells → after cell ≡ At at → stands cell ≡ At at
    was cell at less p = elim (cases cell less) [
      | inl t ↦ absurd (no_index (sym t.1 ∙ p))
      | inr t ↦ sym t.1 ∙ p
    ]
