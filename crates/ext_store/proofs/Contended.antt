-- What a call of the store says to be contended, the cells said.
use Rattle.std.proofs.Common.{◌≡◌, ◌∙◌, ℕ, List, sym, ap, refl, Option}
use Rattle.std.specs.Prelude.{Result, Ok, Err, MatchResult}
use Rattle.ext_model.specs.declared.event.Act.{Act}
use Rattle.ext_values.specs.Known.{Known}
use Rattle.ext_values.specs.Slots.{IsNumber}
use Rattle.ext_cells.specs.declared.refusal.CellRefusal.{CellRefusal}
use Rattle.ext_cells.specs.declared.refusal.CellRefusal.TheVariants as cell
use Rattle.ext_cells.specs.Lanes.{Lane}
use Rattle.ext_cells.specs.CellCalls.{ComesLast}
use Rattle.ext_store_core.specs.declared.fault.Refusal.{Refusal}
use Rattle.ext_store_core.specs.declared.fault.Refusal.TheVariants as refusal
use Rattle.ext_store.specs.declared.fault.KeepFault.{KeepFault}
use Rattle.ext_store.specs.declared.fault.KeepFault.TheVariants as fault
use Rattle.ext_store.specs.InnerKeeping.{IsOfCount, SlotsDrawn, keep_fault}
use Rattle.ext_store.specs.LaneCalls.{with_kept}

-- why a call was refused that hands something back, or else this
abbrev cause : {A B C : Type 0} → C → Result A (B × C) → C
cause other (Ok answer) = other
cause other (Err back) = back.1

same_why : (number : ℕ) (a b : Refusal) → (let x : Result (Option ℕ) (ℕ × Refusal) = Err (number, a) in let y : Result (Option ℕ) (ℕ × Refusal) = Err (number, b) in x ≡ y) → a ≡ b
same_why number a b e = ap (cause a) e

-- a put hands its number back with what the cells said
pub back_last : (tries : ℕ) (before after : Lane) (act : Act ℕ) (number : ℕ) (said : Result (Option ℕ) Refusal) → ComesLast refusal.Contended tries before after act said
    → ComesLast (number, refusal.Contended) tries before after act (with_kept number said)
back_last tries before after act number (Ok stood) last e = absurd (cc e)
back_last tries before after act number (Err why) last e = last (ap Err (same_why number why refusal.Contended e))

-- ---- a keep

of_count : (why : CellRefusal) → IsOfCount why → keep_fault why ≡ fault.Contended → why ≡ cell.Contended
of_count cell.NumbersFull is e = absurd (cc e)
of_count cell.Contended is e = refl
of_count cell.Busy is e = absurd is
of_count cell.Closed is e = absurd is
of_count cell.Exhausted is e = absurd is
of_count cell.Memory is e = absurd is
of_count cell.BadLimit is e = absurd is

same_fault : {V : Type 0} (back value : V) (a b : KeepFault) → (let x : Result ℕ (V × KeepFault) = Err (back, a) in let y : Result ℕ (V × KeepFault) = Err (value, b) in x ≡ y) → a ≡ b
same_fault back value a b e = ap (cause a) e

pub keep_last : {V : Type 0} (tries : ℕ) (before after : Lane) (act : Act ℕ) (slots : List ℕ) (value : V) (known learnt : List (Known V)) (drawn : Result ℕ CellRefusal) (r : Result ℕ (V × KeepFault))
    → MatchResult drawn (IsNumber slots) IsOfCount → SlotsDrawn value drawn known learnt r → ComesLast cell.Contended tries before after act drawn → ComesLast (value, fault.Contended) tries before after act r
keep_last tries before after act slots value known learnt drawn (Ok number) fits placed last e = absurd (cc e)
keep_last tries before after act slots value known learnt (Ok number) (Err (back, why)) fits placed last e = let not : fault.Unplaced ≡ fault.Contended = sym placed.1.0 ∙ same_fault back value why fault.Contended e in absurd (cc not)
keep_last tries before after act slots value known learnt (Err refused) (Err (back, why)) fits placed last e = last (ap Err (of_count refused fits (sym placed.1.0 ∙ same_fault back value why fault.Contended e)))

-- want of memory is another answer
pub unkept_last : {V : Type 0} (tries : ℕ) (before after : Lane) (act : Act ℕ) (value back : V) → (let r : Result ℕ (V × KeepFault) = Err (back, fault.Memory) in ComesLast (value, fault.Contended) tries before after act r)
unkept_last tries before after act value back e = let not : fault.Memory ≡ fault.Contended = same_fault back value fault.Memory fault.Contended e in absurd (cc not)

-- what was handed back with a cause is what was handed in with it
pub refused_as : {V : Type 0} (back value : V) (why cause : KeepFault) → back ≡ value → why ≡ cause → (let x : Result ℕ (V × KeepFault) = Err (back, why) in let y : Result ℕ (V × KeepFault) = Err (value, cause) in x ≡ y)
refused_as back value why cause same is = λ i. Err (same i, is i)
