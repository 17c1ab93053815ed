-- Open places and the others: which of them are touched, which are settled, and where nothing stands in a plain run at a place and above it.
use Rattle.std.proofs.Common.{◌≡◌, ℕ, ◌⊎◌, inl, inr, true, false, not, List, [], ◌∷◌, Option, None, Some, cond, refl, ap, sym, subst, ◌∙◌}
use Rattle.std.specs.Prelude.{All, if◌then◌else◌, is_some, find}
use Rattle.std.proofs.lemmas.List.Elements.{All-cons, All-head, All-nil, All-tail}
use Rattle.ext_history.proofs.Lists.{bools}
use Rattle.ext_model.specs.declared.look.Look.TheVariants as look
use Rattle.ext_model.specs.declared.slot.Slot.{Slot}
use Rattle.ext_model.specs.declared.slot.Slot.TheVariants as slot
use Rattle.ext_model.specs.State.{look_at, look_in, lookup}
use Rattle.ext_tree.specs.Keys.{KeyValue}
use Rattle.ext_plan_plain.specs.ValueStates.{ValueState}
use Rattle.ext_one_report.proofs.MatchingWords.{Places, TextMeaning, plain_slot}
use Rattle.ext_one_report.proofs.StandingsWords.{AreMatched, KnowsMore, standing_of}
use Rattle.ext_one_report.proofs.ComputedAbove.{all_clear}
use Rattle.ext_one_report.proofs.Open.{Given, Open, Stands, StandsOrNot, of_fault, of_nothing, of_value, some_or_none, still_open}
use Rattle.ext_one_report.proofs.Shared.{unshared}
use Rattle.ext_one_report.proofs.NodePlaces.{and_of}

pub not_both : {A : Type 0} (o : Option Given) (v : Given) → o ≡ None → o ≡ Some v → A
not_both o v none some = absurd (cc (sym none ∙ some))

pub one_value : (o : Option Given) (v w : Given) → o ≡ Some v → o ≡ Some w → v ≡ w
one_value o v w first second = let e : Some v ≡ Some w = sym first ∙ second in cc e

-- ---- places that are touched, and are not open

pub unshared_is : (touched : Places) (o : Open) (context : ℕ) (key : KeyValue) → touched context key ≡ true → o context key ≡ None → unshared touched o context key ≡ true
unshared_is touched o context key is none = ap (λ x. unshared touched (λ c k. x) context key) none ∙ is

pub unshared_parts : (touched : Places) (o : Open) (context : ℕ) (key : KeyValue) → unshared touched o context key ≡ true → (touched context key ≡ true) × (o context key ≡ None)
unshared_parts touched o context key is = elim (some_or_none (o context key)) [
  | inl none ↦ (sym (ap (λ x. unshared touched (λ c k. x) context key) none) ∙ is, none)
  | inr some ↦ let bad : false ≡ true = sym (ap (λ x. unshared touched (λ c k. x) context key) some.1) ∙ is in absurd (cc bad)
]

pub unshared_off : (touched : Places) (o : Open) (context : ℕ) (key : KeyValue) (v : Given) → o context key ≡ Some v → unshared touched o context key ≡ false
unshared_off touched o context key v is = ap (λ x. unshared touched (λ c k. x) context key) is

-- ---- places that are settled

pub still_none : (settled : Places) (o : Open) (context : ℕ) (key : KeyValue) → settled context key ≡ true → still_open settled o context key ≡ None
still_none settled o context key on = ap (λ b. if b then None else o context key) on

pub still_is : (settled : Places) (o : Open) (context : ℕ) (key : KeyValue) (v : Given) → settled context key ≡ false → o context key ≡ Some v → still_open settled o context key ≡ Some v
still_is settled o context key v off is = ap (λ b. if b then None else o context key) off ∙ is

pub still_parts : (settled : Places) (o : Open) (context : ℕ) (key : KeyValue) (v : Given) → still_open settled o context key ≡ Some v → (settled context key ≡ false) × (o context key ≡ Some v)
still_parts settled o context key v is = elim (bools (settled context key)) [
  | inl on ↦ not_both (still_open settled o context key) v (still_none settled o context key on) is
  | inr off ↦ (off, sym (ap (λ b. if b then None else o context key) off) ∙ is)
]

pub still_cases : (settled : Places) (o : Open) (context : ℕ) (key : KeyValue) → still_open settled o context key ≡ None → (settled context key ≡ true) ⊎ ((settled context key ≡ false) × (o context key ≡ None))
still_cases settled o context key none = elim (bools (settled context key)) [
  | inl on ↦ inl on
  | inr off ↦ inr (off, sym (ap (λ b. if b then None else o context key) off) ∙ none)
]

-- ---- where nothing stands

none_clear : (x : Option Slot) → x ≡ None → not (is_some x) ≡ true
none_clear x none = ap (λ y. not (is_some y)) none

pub is_clear_there : (s : ValueState) (path : List ℕ) (key : KeyValue) → All (λ c. plain_slot s c key ≡ None) path → all_clear s path key ≡ true
is_clear_there s [] key none = refl
is_clear_there s (context ∷ path) key none =
    let P : ℕ → Type 0 = λ c. plain_slot s c key ≡ None in
    and_of (not (is_some (plain_slot s context key))) (all_clear s path key) (none_clear (plain_slot s context key) (All-head P context path none)) (is_clear_there s path key (All-tail P context path none))

-- a look-up that is absent met nothing
look_none : (context : ℕ) (x : Option Slot) → look_in context x ≡ look.Absent → x ≡ None
look_none context None is = refl
look_none context (Some (slot.Entry number)) is = absurd (cc is)
look_none context (Some (slot.Fault number)) is = absurd (cc is)
look_none context (Some (slot.Claim lane)) is = absurd (cc is)
look_none context (Some (slot.Sealed kept)) is = absurd (cc is)

none_at_all : (x : Option Slot) → (x ≡ None) ⊎ (is_some x ≡ true)
none_at_all None = inl refl
none_at_all (Some x) = inr refl

pub absent_is : (slots : ℕ → Option Slot) (path : List ℕ) → lookup slots path ≡ look.Absent → All (λ c. slots c ≡ None) path
absent_is slots [] is = All-nil (λ c. slots c ≡ None)
absent_is slots (context ∷ path) is = elim (none_at_all (slots context)) [
  | inl none ↦
      let passed : lookup slots (context ∷ path) ≡ lookup slots path = ap (λ x. look_at slots (cond (is_some x) (Some context) (find (λ c. is_some (slots c)) path))) none in
      All-cons (λ c. slots c ≡ None) context path none (absent_is slots path (sym passed ∙ is))
  | inr some ↦
      let here : lookup slots (context ∷ path) ≡ look_in context (slots context) = ap (λ b. look_at slots (cond b (Some context) (find (λ c. is_some (slots c)) path))) some in
      let none = look_none context (slots context) (sym here ∙ is) in
      let bad : true ≡ false = sym some ∙ ap is_some none in
      absurd (cc bad)
]

-- ---- what stands

-- what stands there stands for one that knows more
pub stands_more : (less more : TextMeaning) (v : Given) (x : Option Slot) → KnowsMore less more → Stands less v x → Stands more v x
stands_more less more (of_value v) x knows stands = record { number = stands.number; there = stands.there; means = knows.values stands.number v stands.means }
stands_more less more (of_fault text) x knows stands = record { number = stands.number; there = stands.there; means = knows.faults stands.number text stands.means }
stands_more less more (of_nothing text) x knows stands = absurd stands.means

-- no claim is matched
pub never_claimed : (ours theirs : TextMeaning) (x y : Option Slot) (lane : ℕ) → AreMatched ours theirs x y → x ≡ Some (slot.Claim lane) → ⊥
never_claimed ours theirs x y lane matched is = absurd (cc (sym (ap (standing_of ours) is) ∙ matched.here))

pub stands_or_not : (meaning : TextMeaning) (v : Given) (x : Option Slot) → Stands meaning v x → StandsOrNot meaning v x
stands_or_not meaning (of_value v) x stands = subst (λ y. StandsOrNot meaning (of_value v) y) (sym stands.there) stands.means
stands_or_not meaning (of_fault text) x stands = subst (λ y. StandsOrNot meaning (of_fault text) y) (sym stands.there) stands.means
stands_or_not meaning (of_nothing text) x stands = absurd stands.means

pub none_stands_or_not : (meaning : TextMeaning) (v : Given) (x : Option Slot) → x ≡ None → StandsOrNot meaning v x
none_stands_or_not meaning v x none = subst (λ y. StandsOrNot meaning v y) (sym none) tt
