-- The end of a context, one key after another: a seal leaves the other places alone, so that what the earlier seals keep remains.
use Rattle.std.proofs.Common.{◌≡◌, ℕ, zero, suc, ◌+◌, ◌<◌, Bool, true, false, List, [], ◌∷◌, ◌++◌, length, take, get_or, map, Option, Some, None, refl, ap, sym, subst, ◌∙◌, arith, add-one, append-nil}
use Rattle.std.specs.Prelude.{if◌then◌else◌, option_map}
use Rattle.std.proofs.lemmas.List.{map-append, take_more}
use Rattle.ext_model.specs.declared.event.Act.TheVariants.{Seal}
use Rattle.ext_model.specs.declared.slot.Slot.{Slot}
use Rattle.ext_model.specs.Plain.{same_place, any_lane, under}
use Rattle.ext_model.specs.Closing.{kept_by, put_in_kept, remaining}
use Rattle.ext_model.proofs.Changes.{same_place_is}
use Rattle.ext_model.proofs.Steps.{others_stay}
use Rattle.ext_plan_plain.specs.ValueStates.{ValueState, after_act, value_of}
use Rattle.ext_plan_plain.specs.ContextEnds.{seal_keys, numbers_left, if_closeable, closeables}
use Rattle.ext_model.specs.declared.look.Fault.{Fault}
use Rattle.ext_model.specs.declared.closed.Closed.{Closed}
use Rattle.ext_model.specs.Closed.{closed_of}
use Rattle.ext_lifecycle.specs.FaultTexts.{fault_text}
use Rattle.ext_plan_plain.specs.InnerSteps.{only_closeable, HasClosed}
use Rattle.ext_plan.specs.Values.{ValueText, close_fault}

pub seal_keys-zero : (at : ℕ) (s : ValueState) → seal_keys 0 at s ≡ s
unfolding seal_keys
seal_keys-zero at s = refl

pub seal_keys-more : (key at : ℕ) (s : ValueState) → seal_keys (key + 1) at s ≡ after_act (Seal (at, key)) (seal_keys key at s)
unfolding seal_keys
seal_keys-more key at s = rw (add-one key) refl

-- ---- what remains

not_true : (b : Bool) → (b ≡ true → ⊥) → b ≡ false
not_true true h = absurd (h refl)
not_true false h = refl

-- another key's place stays as it was
pub other_key : (at key other : ℕ) (s : ValueState) → other < key → under (after_act (Seal (at, key)) s).store other at ≡ under s.store other at
other_key at key other s below =
    let differ : same_place (at, key) (at, other) ≡ false = not_true (same_place (at, key) (at, other)) (λ same. let e : key ≡ other = ap (λ p. p.1) (same_place_is (at, key) (at, other) same) in absurd (omega (arith, e, below))) in
    others_stay s.numbers s.store any_lane (Seal (at, key)) (at, other) differ

remaining-same : (a b : ℕ → Option Slot) (keys : ℕ) → ((key : ℕ) → key < keys → a key ≡ b key) → remaining a keys ≡ remaining b keys
remaining-same a b zero same = refl
remaining-same a b (suc keys) same =
    ap (λ slot. put_in_kept (kept_by slot) (remaining a keys)) (same keys (omega arith))
    ∙ ap (put_in_kept (kept_by (b keys))) (remaining-same a b keys (λ key below. same key (omega (arith, below))))

-- the numbers that remain once a further key is sealed
pub numbers_left-more : (key at : ℕ) (s t : ValueState) (kept : Option ℕ) → t ≡ after_act (Seal (at, key)) s → kept ≡ kept_by (under t.store key at)
    → numbers_left (key + 1) at t ≡ put_in_kept kept (numbers_left key at s)
numbers_left-more key at s t kept is keeps =
    ap (remaining (λ k. under t.store k at)) (add-one key)
    ∙ ap (λ n. put_in_kept n (numbers_left key at t)) (sym keeps)
    ∙ ap (put_in_kept kept) (remaining-same (λ k. under t.store k at) (λ k. under s.store k at) key (λ other below. ap (λ (u : ValueState). under u.store other at) is ∙ other_key at key other s below))

-- ---- what is closed

either-append : (b : Bool) (value : ValueText) (xs ys : List ValueText) → (if b then value ∷ (xs ++ ys) else xs ++ ys) ≡ (if b then value ∷ xs else xs) ++ ys
either-append true value xs ys = refl
either-append false value xs ys = refl

if_closeable-append : (v : Option ValueText) (xs ys : List ValueText) → if_closeable v (xs ++ ys) ≡ if_closeable v xs ++ ys
if_closeable-append None xs ys = refl
if_closeable-append (Some value) xs ys = either-append value.closeable value xs ys

closeables-append : (values : List ValueText) (xs ys : List ℕ) → closeables values (xs ++ ys) ≡ closeables values xs ++ closeables values ys
closeables-append values [] ys = refl
closeables-append values (x ∷ xs) ys = ap (if_closeable (value_of values x)) (closeables-append values xs ys) ∙ if_closeable-append (value_of values x) (closeables values xs) (closeables values ys)

one_by : (b : Bool) (v value : ValueText) → Some value ≡ (if b then Some v else None) → (if b then v ∷ [] else []) ≡ value ∷ []
one_by true v value is = let e : value ≡ v = cc in ap (λ w. w ∷ []) (sym e)
one_by false v value is = absurd cc

one_closeable : (v : Option ValueText) (value : ValueText) → Some value ≡ only_closeable v → if_closeable v [] ≡ value ∷ []
one_closeable None value is = absurd cc
one_closeable (Some v) value is = one_by v.closeable v value is

none_by : (b : Bool) (v : ValueText) → None ≡ (let o : Option ValueText = (if b then Some v else None) in o) → (if b then v ∷ [] else []) ≡ []
none_by true v is = absurd cc
none_by false v is = refl

not_closeable : (v : Option ValueText) → None ≡ only_closeable v → if_closeable v [] ≡ []
not_closeable None is = refl
not_closeable (Some v) is = none_by v.closeable v is

-- one number more: its value is closed where it is closeable
pub closes-more : (values : List ValueText) (numbers : List ℕ) (i : ℕ) (value : ValueText) → i < length numbers → Some value ≡ only_closeable (value_of values (get_or numbers i 0))
    → map close_fault (closeables values (take (i + 1) numbers)) ≡ map close_fault (closeables values (take i numbers)) ++ close_fault value ∷ []
closes-more values numbers i value within is =
    let number = get_or numbers i 0 in
    let one : closeables values (number ∷ []) ≡ value ∷ [] = one_closeable (value_of values number) value is in
    ap (λ ns. map close_fault (closeables values ns)) (take_more numbers i 0 within)
    ∙ ap (map close_fault) (closeables-append values (take i numbers) (number ∷ []) ∙ ap (λ vs. closeables values (take i numbers) ++ vs) one)
    ∙ map-append close_fault (closeables values (take i numbers)) (value ∷ [])

-- or it isn't
pub closes-same : (values : List ValueText) (numbers : List ℕ) (i : ℕ) → i < length numbers → None ≡ only_closeable (value_of values (get_or numbers i 0))
    → map close_fault (closeables values (take (i + 1) numbers)) ≡ map close_fault (closeables values (take i numbers))
closes-same values numbers i within is =
    let number = get_or numbers i 0 in
    let one : closeables values (number ∷ []) ≡ [] = not_closeable (value_of values number) is in
    ap (λ ns. map close_fault (closeables values ns)) (take_more numbers i 0 within)
    ∙ ap (map close_fault) (closeables-append values (take i numbers) (number ∷ []) ∙ ap (λ vs. closeables values (take i numbers) ++ vs) one ∙ append-nil (closeables values (take i numbers)))

-- one close more
pub HasClosed-more : (old new : Closed) (told : List (Option (List ℕ))) (fault : Option Fault) (text : Option (List ℕ)) → HasClosed old told
    → ((faults : List (Option Fault)) → old ≡ closed_of faults → new ≡ closed_of (faults ++ fault ∷ [])) → option_map fault_text fault ≡ text → HasClosed new (told ++ text ∷ [])
HasClosed-more old new told fault text closed counted is = record {
  faults = closed.faults ++ fault ∷ [];
  counted = counted closed.faults closed.counted;
  texts = map-append (option_map fault_text) closed.faults (fault ∷ []) ∙ ap (λ l. l ++ option_map fault_text fault ∷ []) closed.texts ∙ ap (λ t. told ++ t ∷ []) is;
}

pub HasClosed-is : (a b : Closed) (xs ys : List (Option (List ℕ))) → a ≡ b → xs ≡ ys → HasClosed b ys → HasClosed a xs
HasClosed-is a b xs ys is same closed = subst (λ e. HasClosed e xs) (sym is) (subst (HasClosed b) (sym same) closed)
