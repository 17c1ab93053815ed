-- Versions only rise, by one for each event, and equal words of a cell leave no room for an event between them.
use Rattle.std.proofs.Common.{◌≡◌, ◌≢◌, ℕ, ◌+◌, ◌^◌, ◌≤◌, ◌<◌, append_assoc, get_or, Bool, true, false, List, [], ◌∷◌, ◌++◌, length, fold, refl, ap, sym, subst, ◌∙◌, arith, Option, None, Some}
use Rattle.std.specs.Prelude.{nat_eq, Contains, cond, sum_by}
use Rattle.std.specs.List.{IsDistinct, AllByRecursion}
use Rattle.std.proofs.lemmas.Bool.Decides.{nat_tests}
use Rattle.std.proofs.lemmas.List.Sums.{sum_by-append, sum_by-cons, fold-append, get_or-le-sum_by}
use Rattle.ext_model.specs.declared.event.Event.{Event}
use Rattle.ext_model.specs.declared.slot.Slot.{Slot}
use Rattle.ext_model.specs.declared.slot.Slot.TheVariants as slot
use Rattle.ext_model.specs.State.{State, opening}
use Rattle.ext_model.specs.Events.{is_on, apply, slot_after}
use Rattle.ext_model.specs.History.{History, Limits, state_after, version_of, IsLegal}
use Rattle.ext_model.specs.CellWords.{state_code, number_code, word, word_of}
use Rattle.ext_model.specs.declared.event.Act.{Act}
use Rattle.ext_model.specs.Events.{place_of, is_at}
use Rattle.ext_history.proofs.Lists.{contains_here, contains_later}
use Rattle.ext_history.proofs.Legal.{legal_prefix}
use Rattle.ext_model.proofs.Numbers.{bounded}

pub version-append : (h rest : History) (cell : ℕ) → version_of (h ++ rest) cell ≡ version_of h cell + version_of rest cell
version-append h rest cell = sum_by-append _ h rest

state_small : (x : Option Slot) → state_code x < 16
state_small None = omega arith
state_small (Some (slot.Entry number)) = omega arith
state_small (Some (slot.Fault number)) = omega arith
state_small (Some (slot.Claim lane)) = omega arith
state_small (Some (slot.Sealed kept)) = omega arith

-- the version can be read off a word
word_version : (s n v s' n' v' : ℕ) → s < 16 → s' < 16 → n < 2 ^ 20 → n' < 2 ^ 20 → word s n v ≡ word s' n' v' → v ≡ v'
word_version s n v s' n' v' p p' q q' e = omega arith

pub word_parts : (s n v s' n' v' : ℕ) → s < 16 → s' < 16 → n < 2 ^ 20 → n' < 2 ^ 20 → word s n v ≡ word s' n' v' → (s ≡ s') × (n ≡ n') × (v ≡ v')
word_parts s n v s' n' v' p p' q q' e = (omega (arith, p, p', q, q', e), omega (arith, p, p', q, q', e), omega (arith, p, p', q, q', e))

-- a cell with equal words in a legal history and in a prefix of it has one version in both
pub same_version : {limits : Limits} (h rest : History) (cell : ℕ) → limits.numbers < 2 ^ 20 → IsLegal limits (h ++ rest) → word_of (h ++ rest) cell ≡ word_of h cell → version_of rest cell ≡ 0
same_version {limits} h rest cell small legal same =
    let p : number_code ((state_after (h ++ rest)).slots cell) ≤ limits.numbers = (bounded (h ++ rest) legal).slots cell in
    let q : number_code ((state_after h).slots cell) ≤ limits.numbers = (bounded h (legal_prefix h rest legal)).slots cell in
    let e : version_of (h ++ rest) cell ≡ version_of h cell = word_version _ _ _ _ _ _ (state_small _) (state_small _) (le_lt p small) (le_lt q small) same in
    omega (arith, version-append h rest cell, e)
  where
    le_lt : {a b c : ℕ} → a ≤ b → b < c → a < c
    le_lt p q = omega arith

bit_zero : (b : Bool) → ◌≡◌ {A = ℕ} (cond b 1 0) 0 → b ≡ false
bit_zero true e = absurd (omega (arith, e))
bit_zero false e = refl

pub version-cons : (e : Event ℕ) (h : History) (cell : ℕ) → version_of (e ∷ h) cell ≡ cond (is_on nat_eq cell e.act) 1 0 + version_of h cell
version-cons e h cell = sum_by-cons (λ x. cond (is_on nat_eq cell x.act) 1 0) e h

-- events elsewhere leave what stands at the cell
pub slot_stays : (rest : History) (s : State ℕ) (cell : ℕ) → version_of rest cell ≡ 0 → (fold (apply nat_eq) s rest).slots cell ≡ s.slots cell
slot_stays [] s cell none = refl
slot_stays (e ∷ rest) s cell none =
    let c : ◌≡◌ {A = ℕ} (cond (is_on nat_eq cell e.act) 1 0) 0 = omega (arith, version-cons e rest cell, none) in
    let n : version_of rest cell ≡ 0 = omega (arith, version-cons e rest cell, none) in
    slot_stays rest (apply nat_eq s e) cell n ∙ ap (λ b. cond b (slot_after e.lane e.act (s.slots cell)) (s.slots cell)) (bit_zero _ c)

pub after-append : (h rest : History) → state_after (h ++ rest) ≡ fold (apply nat_eq) (state_after h) rest
after-append h rest = fold-append (apply nat_eq) opening h rest

-- where no event past a prefix is on a cell, its word is as in the prefix
pub same_word : (h rest : History) (cell : ℕ) → version_of rest cell ≡ 0 → word_of (h ++ rest) cell ≡ word_of h cell
same_word h rest cell none =
    let slots : (state_after (h ++ rest)).slots cell ≡ (state_after h).slots cell = ap (λ s. s.slots cell) (after-append h rest) ∙ slot_stays rest (state_after h) cell none in
    let versions : version_of (h ++ rest) cell ≡ version_of h cell = omega (arith, version-append h rest cell, none) in
    ap (λ x. word (state_code x) (number_code x) (version_of (h ++ rest) cell)) slots ∙ ap (λ v. word (state_code ((state_after h).slots cell)) (number_code ((state_after h).slots cell)) v) versions

-- where a cell has no version in a list of events, none of them is on it
pub none_on : (rest : History) (cell : ℕ) → version_of rest cell ≡ 0 → (e : Event ℕ) → Contains rest e → is_on nat_eq cell e.act ≡ false
none_on rest cell none e there =
    let P : Event ℕ → Type 0 = λ x. is_on nat_eq cell x.act ≡ false in
    let bit : cond (is_on nat_eq cell (get_or rest there.0 e).act) 1 0 ≤ version_of rest cell = get_or-le-sum_by (λ (x : Event ℕ). cond (is_on nat_eq cell x.act) 1 0) rest there.0 e there.1 in
    subst P there.2 (bit_zero _ (omega (arith, bit, none)))

-- no event past a prefix is on a cell whose word is equal in a legal history and in the prefix
pub no_event_between : {limits : Limits} (h rest : History) (cell : ℕ) → limits.numbers < 2 ^ 20 → IsLegal limits (h ++ rest) → word_of (h ++ rest) cell ≡ word_of h cell
    → (e : Event ℕ) → Contains rest e → is_on nat_eq cell e.act ≡ false
no_event_between h rest cell small legal same e there = none_on rest cell (same_version h rest cell small legal same) e there

-- then the word is the same at each point between the two
pub same_word_between : {limits : Limits} (h middle rest : History) (cell : ℕ) → limits.numbers < 2 ^ 20 → IsLegal limits (h ++ middle ++ rest) → word_of (h ++ middle ++ rest) cell ≡ word_of h cell
    → word_of (h ++ middle) cell ≡ word_of h cell
same_word_between {limits} h middle rest cell small legal same =
    let all = append_assoc h middle rest in
    let none = same_version h (middle ++ rest) cell small (subst (IsLegal limits) all legal) (ap (λ g. word_of g cell) (sym all) ∙ same) in
    same_word h middle cell (omega (arith, version-append middle rest cell, none))

-- ---- over different cells

-- the versions of the cells, added up
abbrev pub versions : History → List ℕ → ℕ
versions h places = sum_by (version_of h) places

none_at : (at : ℕ) (places : List ℕ) → AllByRecursion (λ q. nat_eq at q ≡ false) places → sum_by (λ p. cond (nat_eq at p) 1 0) places ≡ 0
none_at at [] none = refl
none_at at (q ∷ places) none = rw none.0 (none_at at places none.1)

once_at : (at : ℕ) (places : List ℕ) → IsDistinct nat_eq places → sum_by (λ p. cond (nat_eq at p) 1 0) places ≤ 1
unfolding IsDistinct
once_at at [] distinct = omega arith
once_at at (q ∷ places) distinct =
    let f : ℕ → ℕ = λ p. cond (nat_eq at p) 1 0 in
    elim (nat_eq at q) as (λ b. nat_eq at q ≡ b → sum_by f (q ∷ places) ≤ 1) [
      | true ↦ λ is.
          let same : at ≡ q = grind (arith, nat_tests) in
          let others : sum_by f places ≡ 0 = none_at at places (subst (λ k. AllByRecursion (λ p. nat_eq k p ≡ false) places) (sym same) distinct.0) in
          let one : f q ≡ 1 = ap (λ b. cond b 1 0) is in
          omega (arith, sum_by-cons f q places, others, one)
      | false ↦ λ is.
          let others : sum_by f places ≤ 1 = once_at at places distinct.1 in
          let none : f q ≡ 0 = ap (λ b. cond b 1 0) is in
          omega (arith, sum_by-cons f q places, others, none)
    ] refl

-- an act is on at most one of different cells
one_on : (act : Act ℕ) (places : List ℕ) → IsDistinct nat_eq places → sum_by (λ p. cond (is_on nat_eq p act) 1 0) places ≤ 1
one_on act places distinct =
    elim (place_of act) as (λ o. sum_by (λ p. cond (is_at nat_eq p o) 1 0) places ≤ 1) [
      | None ↦ zeros places
      | Some at ↦ once_at at places distinct
    ]
  where
    zeros : (places : List ℕ) → sum_by (λ p. 0) places ≤ 1
    zeros [] = omega arith
    zeros (p ∷ places) = zeros places

sum_of_two : (f g : ℕ → ℕ) (places : List ℕ) → sum_by (λ p. f p + g p) places ≡ sum_by f places + sum_by g places
sum_of_two f g [] = refl
sum_of_two f g (p ∷ places) = omega (arith, sum_by-cons (λ q. f q + g q) p places, sum_by-cons f p places, sum_by-cons g p places, sum_of_two f g places)

same_sum : (f g : ℕ → ℕ) (places : List ℕ) → ((p : ℕ) → f p ≡ g p) → sum_by f places ≡ sum_by g places
same_sum f g [] same = refl
same_sum f g (p ∷ places) same = omega (arith, sum_by-cons f p places, sum_by-cons g p places, same_sum f g places same, same p)

pub versions-append : (h rest : History) (places : List ℕ) → versions (h ++ rest) places ≡ versions h places + versions rest places
versions-append h rest places = same_sum _ _ places (version-append h rest) ∙ sum_of_two (version_of h) (version_of rest) places

-- over different cells the sum of the versions rises by at most one for each event
pub versions_within : (rest : History) (places : List ℕ) → IsDistinct nat_eq places → versions rest places ≤ length rest
versions_within [] places distinct = none places
  where
    none : (places : List ℕ) → sum_by (version_of []) places ≤ 0
    none [] = omega arith
    none (p ∷ places) = none places
versions_within (e ∷ rest) places distinct =
    let one = one_on e.act places distinct in
    let more = versions_within rest places distinct in
    let parts : versions (e ∷ rest) places ≡ sum_by (λ p. cond (is_on nat_eq p e.act) 1 0) places + versions rest places =
    same_sum _ _ places (version-cons e rest) ∙ sum_of_two _ (version_of rest) places in
    omega (arith, one, more, parts)

pub versions_rise_within : (h rest : History) (places : List ℕ) → IsDistinct nat_eq places → versions (h ++ rest) places ≤ versions h places + length rest
versions_rise_within h rest places distinct = omega (arith, versions-append h rest places, versions_within rest places distinct)

-- an unequal word at one of the cells means that the sum rises
pub versions_rise : (h rest : History) (places : List ℕ) (cell : ℕ) → Contains places cell → word_of (h ++ rest) cell ≢ word_of h cell → versions h places + 1 ≤ versions (h ++ rest) places
versions_rise h rest places cell there differs =
    let some_event : (version_of rest cell ≡ 0 → ⊥) = λ none. differs (same_word h rest cell none) in
    let P : ℕ → Type 0 = λ p. version_of rest p ≤ versions rest places in
    let part : version_of rest cell ≤ versions rest places = subst P there.2 (get_or-le-sum_by (version_of rest) places there.0 cell there.1) in
    omega (arith, versions-append h rest places, part, positive _ some_event)
  where
    positive : (n : ℕ) → (n ≡ 0 → ⊥) → 1 ≤ n
    positive n some = omega (arith, some)

-- where none of a list of events is on a cell, the cell has no version in it
pub quiet_from_none : (rest : History) (cell : ℕ) → ((e : Event ℕ) → Contains rest e → is_on nat_eq cell e.act ≡ false) → version_of rest cell ≡ 0
quiet_from_none [] cell off = refl
quiet_from_none (e ∷ rest) cell off =
    let bit : ◌≡◌ {A = ℕ} (cond (is_on nat_eq cell e.act) 1 0) 0 = ap (λ b. cond b 1 0) (off e (contains_here e rest)) in
    let r : version_of rest cell ≡ 0 = quiet_from_none rest cell (λ x there. off x (contains_later e rest x there)) in
    omega (arith, version-cons e rest cell, bit, r)
