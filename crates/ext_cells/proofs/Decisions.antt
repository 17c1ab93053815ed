-- What the word after an act, or its refusal, tells of the reply of one thread.
use Rattle.std.proofs.Common.{◌≡◌, ℕ, ◌+◌, ◌/◌, ◌%◌, ◌^◌, ◌<◌, ◌≤◌, Bool, true, false, arith, refl, ap, sym, subst, Option, None, Some}
use Rattle.std.specs.Prelude.{Result, Ok, Err, if◌then◌else◌}
use Rattle.std.proofs.lemmas.Bool.{ne_eqb}
use Rattle.ext_model.specs.declared.event.Act.{Act}
use Rattle.ext_model.specs.declared.event.Act.TheVariants.{Keep, Put, Remove, Claim, Fill, Fail, Abandon, Seal}
use Rattle.ext_model.specs.declared.slot.Slot.{Slot}
use Rattle.ext_model.specs.declared.slot.Slot.TheVariants as slot
use Rattle.ext_model.specs.Events as events
use Rattle.ext_model.specs.Plain.{what_stood}
use Rattle.ext_model.specs.CellWords.{number_code, slot_word}
use Rattle.ext_cells.specs.declared.refusal.CellRefusal.{CellRefusal}
use Rattle.ext_cells.specs.declared.refusal.CellRefusal.TheVariants.{Exhausted}
use Rattle.ext_cells.specs.declared.decision.Decision.TheVariants.{Change, Done}
use Rattle.ext_cells.specs.WordChanges.{IsEmptyWord, exhausted_if, unless, after_word}
use Rattle.ext_cells.specs.CellCalls.{result_of}
use Rattle.ext_cells.specs.declared.cell_state.CellState.TheVariants.{Sealed}
use Rattle.ext_cells.specs.declared.stood.Stood.TheVariants.{Nothing, Value}
use Rattle.ext_cells.specs.InnerSteps.{value_of, idle_reply}
use Rattle.ext_cells.specs.InnerDeciding.{state_of, IsNumbered, IsCellWord, IsSeal, stood_in, is_settled, IsChange, reply_on, Decides}

some_stood : (n : ℕ) → 1 ≤ n → stood_in Sealed n ≡ Value n
some_stood n l = ap (λ b. if b then Nothing else Value n) (ne_eqb n 0 (λ e. absurd (omega (arith, e, l))))

same_ok : (a b : ℕ) → (let x : Result ℕ CellRefusal = Ok a in let y : Result ℕ CellRefusal = Ok b in x ≡ y) → a ≡ b
same_ok a b e = cc e

made : (b : Bool) (w next : ℕ) → (let y : Result ℕ CellRefusal = Ok next in unless (exhausted_if b) w ≡ y) → (b ≡ false) × (next ≡ w)
made true w next e = absurd (cc e)
made false w next e = (refl, sym (same_ok w next e))

no_word : {A : Type 0} (why : CellRefusal) (next : ℕ) → (let x : Result ℕ CellRefusal = Err why in let y : Result ℕ CellRefusal = Ok next in x ≡ y) → A
no_word why next e = absurd (cc e)

unmade : (b : Bool) (w : ℕ) (why : CellRefusal) → (let y : Result ℕ CellRefusal = Err why in unless (exhausted_if b) w ≡ y) → (b ≡ true) × (Exhausted ≡ why)
unmade true w why e = (refl, cc e)
unmade false w why e = absurd (cc e)

same_err : (a b : CellRefusal) → (let x : Result ℕ CellRefusal = Err a in let y : Result ℕ CellRefusal = Err b in x ≡ y) → (let x : Result (Option ℕ) CellRefusal = Err a in let y : Result (Option ℕ) CellRefusal = Err b in x ≡ y)
same_err a b e = cc e

exhausts : (b : Bool) (w : ℕ) (why : CellRefusal) (answer : Option ℕ) → (let y : Result ℕ CellRefusal = Err why in unless (exhausted_if b) w ≡ y)
    → (let y : Result (Option ℕ) CellRefusal = Err why in result_of what_stood (events.happens_unless b answer) ≡ y)
exhausts true w why answer e = same_err Exhausted why e
exhausts false w why answer e = absurd (cc e)

no_refusal : {A : Type 0} (next : ℕ) (why : CellRefusal) → (let x : Result ℕ CellRefusal = Ok next in let y : Result ℕ CellRefusal = Err why in x ≡ y) → A
no_refusal next why e = absurd (cc e)

pub settled : (act : Act ℕ) (s : Option Slot) (version : ℕ) → is_settled act (state_of s) ≡ true → IsNumbered s → reply_on act s version ≡ idle_reply act (stood_in (state_of s) (number_code s))
settled (Keep n) s v done is = absurd (cc done)
settled (Put at n) s v done is = absurd (cc done)
settled (Fill at n) s v done is = absurd (cc done)
settled (Fail at n) s v done is = absurd (cc done)
settled (Abandon at) s v done is = absurd (cc done)
settled (Remove at) None v done is = refl
settled (Remove at) (Some (slot.Entry n)) v done is = absurd (cc done)
settled (Remove at) (Some (slot.Fault n)) v done is = absurd (cc done)
settled (Remove at) (Some (slot.Claim lane)) v done is = absurd (cc done)
settled (Remove at) (Some (slot.Sealed kept)) v done is = absurd (cc done)
settled (Claim at) None v done is = absurd (cc done)
settled (Claim at) (Some (slot.Entry n)) v done is = refl
settled (Claim at) (Some (slot.Fault n)) v done is = refl
settled (Claim at) (Some (slot.Claim lane)) v done is = absurd (cc done)
settled (Claim at) (Some (slot.Sealed kept)) v done is = absurd (cc done)
settled (Seal at) None v done is = absurd (cc done)
settled (Seal at) (Some (slot.Entry n)) v done is = absurd (cc done)
settled (Seal at) (Some (slot.Fault n)) v done is = absurd (cc done)
settled (Seal at) (Some (slot.Claim lane)) v done is = absurd (cc done)
settled (Seal at) (Some (slot.Sealed None)) v done is = refl
settled (Seal at) (Some (slot.Sealed (Some n))) v done is = ap (λ k. events.Answers (value_of k)) (sym (some_stood n is))

pub changes : (act : Act ℕ) (s : Option Slot) (version next : ℕ) → IsChange act → is_settled act (state_of s) ≡ false → IsNumbered s
    → (let y : Result ℕ CellRefusal = Ok next in after_word act (state_of s) (number_code s) version ≡ y) → Decides act s version (Change next (stood_in (state_of s) (number_code s)))
changes (Keep n) s v next change idle is e = absurd change
changes (Fill at n) s v next change idle is e = absurd change
changes (Fail at n) s v next change idle is e = absurd change
changes (Abandon at) s v next change idle is e = absurd change
changes (Put at n) None v next change idle is e = let m = made _ _ next e in (ap (λ b. events.happens_unless b None) m.0, λ lane. m.1)
changes (Put at n) (Some (slot.Entry m)) v next change idle is e = let p = made _ _ next e in (ap (λ b. events.happens_unless b (Some m)) p.0, λ lane. p.1)
changes (Put at n) (Some (slot.Fault m)) v next change idle is e = let p = made _ _ next e in (ap (λ b. events.happens_unless b (Some m)) p.0, λ lane. p.1)
changes (Put at n) (Some (slot.Claim lane)) v next change idle is e = no_word _ next e
changes (Put at n) (Some (slot.Sealed kept)) v next change idle is e = no_word _ next e
changes (Remove at) None v next change idle is e = absurd (cc idle)
changes (Remove at) (Some (slot.Entry m)) v next change idle is e = let p = made _ _ next e in (ap (λ b. events.happens_unless b (Some m)) p.0, λ lane. p.1)
changes (Remove at) (Some (slot.Fault m)) v next change idle is e = let p = made _ _ next e in (ap (λ b. events.happens_unless b (Some m)) p.0, λ lane. p.1)
changes (Remove at) (Some (slot.Claim lane)) v next change idle is e = no_word _ next e
changes (Remove at) (Some (slot.Sealed kept)) v next change idle is e = no_word _ next e
changes (Claim at) None v next change idle is e = let m = made _ _ next e in (ap (λ b. events.happens_unless b None) m.0, λ lane. m.1)
changes (Claim at) (Some (slot.Entry m)) v next change idle is e = absurd (cc idle)
changes (Claim at) (Some (slot.Fault m)) v next change idle is e = absurd (cc idle)
changes (Claim at) (Some (slot.Claim lane)) v next change idle is e = no_word _ next e
changes (Claim at) (Some (slot.Sealed kept)) v next change idle is e = no_word _ next e
changes (Seal at) None v next change idle is e = (refl, λ lane. sym (same_ok _ next e))
changes (Seal at) (Some (slot.Entry m)) v next change idle is e = (refl, λ lane. sym (same_ok _ next e))
changes (Seal at) (Some (slot.Fault m)) v next change idle is e = (refl, λ lane. sym (same_ok _ next e))
changes (Seal at) (Some (slot.Claim lane)) v next change idle is e = no_word _ next e
changes (Seal at) (Some (slot.Sealed kept)) v next change idle is e = absurd (cc idle)

pub refuses : (act : Act ℕ) (s : Option Slot) (version : ℕ) (why : CellRefusal) → IsChange act → is_settled act (state_of s) ≡ false
    → (let y : Result ℕ CellRefusal = Err why in after_word act (state_of s) (number_code s) version ≡ y) → Decides act s version (Done (Err why))
refuses (Keep n) s v why change idle e = absurd change
refuses (Fill at n) s v why change idle e = absurd change
refuses (Fail at n) s v why change idle e = absurd change
refuses (Abandon at) s v why change idle e = absurd change
refuses (Put at n) None v why change idle e = exhausts _ _ why None e
refuses (Put at n) (Some (slot.Entry m)) v why change idle e = exhausts _ _ why (Some m) e
refuses (Put at n) (Some (slot.Fault m)) v why change idle e = exhausts _ _ why (Some m) e
refuses (Put at n) (Some (slot.Claim lane)) v why change idle e = same_err _ why e
refuses (Put at n) (Some (slot.Sealed kept)) v why change idle e = same_err _ why e
refuses (Remove at) None v why change idle e = absurd (cc idle)
refuses (Remove at) (Some (slot.Entry m)) v why change idle e = exhausts _ _ why (Some m) e
refuses (Remove at) (Some (slot.Fault m)) v why change idle e = exhausts _ _ why (Some m) e
refuses (Remove at) (Some (slot.Claim lane)) v why change idle e = same_err _ why e
refuses (Remove at) (Some (slot.Sealed kept)) v why change idle e = same_err _ why e
refuses (Claim at) None v why change idle e = exhausts _ _ why None e
refuses (Claim at) (Some (slot.Entry m)) v why change idle e = absurd (cc idle)
refuses (Claim at) (Some (slot.Fault m)) v why change idle e = absurd (cc idle)
refuses (Claim at) (Some (slot.Claim lane)) v why change idle e = same_err _ why e
refuses (Claim at) (Some (slot.Sealed kept)) v why change idle e = same_err _ why e
refuses (Seal at) None v why change idle e = no_refusal _ why e
refuses (Seal at) (Some (slot.Entry m)) v why change idle e = no_refusal _ why e
refuses (Seal at) (Some (slot.Fault m)) v why change idle e = no_refusal _ why e
refuses (Seal at) (Some (slot.Claim lane)) v why change idle e = same_err _ why e
refuses (Seal at) (Some (slot.Sealed kept)) v why change idle e = absurd (cc idle)

-- ---- a seal of a cell where nothing stands

-- its word says so
nothing_stands : (s : Option Slot) (version word : ℕ) → IsCellWord s version word → IsEmptyWord word → s ≡ None
nothing_stands None v w is e = refl
nothing_stands (Some (slot.Entry n)) v w is e = let f = is.is in absurd (omega (arith, f, e))
nothing_stands (Some (slot.Fault n)) v w is e = let f = is.is in absurd (omega (arith, f, e))
nothing_stands (Some (slot.Claim lane)) v w is e = let f = is.is in absurd (omega (arith, f, e))
nothing_stands (Some (slot.Sealed kept)) v w is e = let f = is.is in absurd (omega (arith, f, e))

next_is : (version word : ℕ) → IsCellWord None version word → word + 16777219 ≡ slot_word (Some (slot.Sealed None)) (version + 1)
next_is v w is = let f = is.is in omega (arith, f)

at_nothing : (act : Act ℕ) (version word : ℕ) → IsSeal act → IsCellWord None version word → Decides act None version (Change (word + 16777219) Nothing)
at_nothing (Keep n) v w seal is = absurd seal
at_nothing (Put at n) v w seal is = absurd seal
at_nothing (Remove at) v w seal is = absurd seal
at_nothing (Claim at) v w seal is = absurd seal
at_nothing (Fill at n) v w seal is = absurd seal
at_nothing (Fail at n) v w seal is = absurd seal
at_nothing (Abandon at) v w seal is = absurd seal
at_nothing (Seal at) v w seal is = (refl, λ lane. next_is v w is)

pub seals_nothing : (act : Act ℕ) (s : Option Slot) (version word : ℕ) → IsSeal act → IsEmptyWord word → IsCellWord s version word → Decides act s version (Change (word + 16777219) Nothing)
seals_nothing act s v w seal e is =
    let none = nothing_stands s v w is e in
    subst (λ t. Decides act t v (Change (w + 16777219) Nothing)) (sym none) (at_nothing act v w seal (subst (λ t. IsCellWord t v w) none is))

-- there is room for the word of the seal
pub room_for_seal : (s : Option Slot) (version word : ℕ) → IsEmptyWord word → IsCellWord s version word → word + 16777219 < 2 ^ 64
room_for_seal s v w e is = room s is (nothing_stands s v w is e)
  where
    room : (t : Option Slot) → IsCellWord t v w → t ≡ None → w + 16777219 < 2 ^ 64
    room None of none = let f = of.is in let r = of.room (λ same. cc same) in omega (arith, f, r)
    room (Some x) of none = absurd (cc none)

-- ---- a seal of a value

value_stands : (s : Option Slot) (version word : ℕ) → IsCellWord s version word → word % 16 ≡ 2 → (n : ℕ) × (s ≡ Some (slot.Entry n))
value_stands None v w is e = let f = is.is in absurd (omega (arith, f, e))
value_stands (Some (slot.Entry n)) v w is e = (n, refl)
value_stands (Some (slot.Fault n)) v w is e = let f = is.is in absurd (omega (arith, f, e))
value_stands (Some (slot.Claim lane)) v w is e = let f = is.is in absurd (omega (arith, f, e))
value_stands (Some (slot.Sealed kept)) v w is e = let f = is.is in absurd (omega (arith, f, e))

sealed_value : (n version word : ℕ) → IsCellWord (Some (slot.Entry n)) version word → word + 16777217 ≡ slot_word (Some (slot.Sealed (Some n))) (version + 1)
sealed_value n v w is = let f = is.is in omega (arith, f)

at_value : (act : Act ℕ) (n version word : ℕ) → IsSeal act → IsCellWord (Some (slot.Entry n)) version word → Decides act (Some (slot.Entry n)) version (Change (word + 16777217) (Value n))
at_value (Keep m) n v w seal is = absurd seal
at_value (Put at m) n v w seal is = absurd seal
at_value (Remove at) n v w seal is = absurd seal
at_value (Claim at) n v w seal is = absurd seal
at_value (Fill at m) n v w seal is = absurd seal
at_value (Fail at m) n v w seal is = absurd seal
at_value (Abandon at) n v w seal is = absurd seal
at_value (Seal at) n v w seal is = (refl, λ lane. sealed_value n v w is)

told_value : (n version word number : ℕ) → IsCellWord (Some (slot.Entry n)) version word → number ≡ word / 16 % 2 ^ 20 → n ≡ number
told_value n v w number is told = let f = is.is in let fits = is.fits in omega (arith, f, fits, told)

pub seals_value : (act : Act ℕ) (s : Option Slot) (version word number : ℕ) → IsSeal act → word % 16 ≡ 2 → number ≡ word / 16 % 2 ^ 20 → IsCellWord s version word → Decides act s version (Change (word + 16777217) (Value number))
seals_value act s v w number seal e told is =
    let value = value_stands s v w is e in
    let own = subst (λ t. IsCellWord t v w) value.1 is in
    subst (λ t. Decides act t v (Change (w + 16777217) (Value number))) (sym value.1)
    (subst (λ k. Decides act (Some (slot.Entry value.0)) v (Change (w + 16777217) (Value k))) (told_value value.0 v w number own told) (at_value act value.0 v w seal own))

-- there is room for the word of the seal
pub room_for_value : (s : Option Slot) (version word : ℕ) → word % 16 ≡ 2 → IsCellWord s version word → word + 16777217 < 2 ^ 64
room_for_value s v w e is = let value = value_stands s v w is e in room value.0 (subst (λ t. IsCellWord t v w) value.1 is)
  where
    room : (n : ℕ) → IsCellWord (Some (slot.Entry n)) v w → w + 16777217 < 2 ^ 64
    room n of = let f = of.is in let r = of.room (λ same. cc same) in let fits = of.fits in omega (arith, f, r, fits)
