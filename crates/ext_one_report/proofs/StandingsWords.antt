-- What stands in a place, by what its number stands for. So two stores are compared that draw their numbers in another order, as a run on several lanes and a plain run do.
-- Javadoc `ExtensionContext.Store`, `get` and `put`, for values; kept faults, claims and seals are own rules. V is what the number of a value stands for, and F what that
-- of a kept fault does.
use Rattle.std.specs.Prelude.{ℕ, ◌≡◌, Option, None, Some}
use Rattle.ext_model.specs.declared.event.Act.{Act}
use Rattle.ext_model.specs.declared.event.Act.TheVariants.{Keep, Put, Remove, Claim, Fill, Fail, Abandon, Seal}
use Rattle.ext_model.specs.declared.look.Look.{Look}
use Rattle.ext_model.specs.declared.look.Look.TheVariants as look
use Rattle.ext_model.specs.declared.slot.Slot.{Slot}
use Rattle.ext_model.specs.declared.slot.Slot.TheVariants as slot

-- what the numbers of one store stand for, where that is known
pub record Meaning (V F : Type 0) : Type 0 where
  pub values : ℕ → Option V
  pub faults : ℕ → Option F

-- ---- what stands

-- nothing, a value, a kept fault, or a seal with the value that it keeps
pub data Standing (V F : Type 0) : Type 0 where
  nothing : Standing V F
  value : V → Standing V F
  fault : F → Standing V F
  sealed : Option V → Standing V F

module _ {V F : Type 0} where
  abbrev pub value_stands : Option V → Option (Standing V F)
  value_stands None = None
  value_stands (Some v) = Some (value v)

  abbrev pub fault_stands : Option F → Option (Standing V F)
  fault_stands None = None
  fault_stands (Some f) = Some (fault f)

  -- a seal that keeps the value of a number
  abbrev pub seal_stands : Option V → Option (Standing V F)
  seal_stands None = None
  seal_stands (Some v) = Some (sealed (Some v))

  -- What stands, by what numbers stand for. Of a claim nothing is said, nor of a number that stands for nothing known
  abbrev pub standing_of : Meaning V F → Option Slot → Option (Standing V F)
  standing_of meaning None = Some nothing
  standing_of meaning (Some (slot.Entry number)) = value_stands (meaning.values number)
  standing_of meaning (Some (slot.Fault number)) = fault_stands (meaning.faults number)
  standing_of meaning (Some (slot.Claim lane)) = None
  standing_of meaning (Some (slot.Sealed None)) = Some (sealed None)
  standing_of meaning (Some (slot.Sealed (Some number))) = seal_stands (meaning.values number)

  -- The same stands in a place of one store and in one of another, each by what its own numbers stand for: nothing, one value, one fault, or seals that keep one value or none
  pub record AreMatched (ours theirs : Meaning V F) (x y : Option Slot) : Type 0 where
    pub standing : Standing V F
    pub here : standing_of ours x ≡ Some standing
    pub there : standing_of theirs y ≡ Some standing

-- ---- what a look-up shows

-- a value or a kept fault in a context, nothing, or a context that is closed
pub data Shown (V F : Type 0) : Type 0 where
  absent : Shown V F
  found : ℕ → V → Shown V F
  met : ℕ → F → Shown V F
  closed : ℕ → Shown V F

module _ {V F : Type 0} where
  abbrev pub value_shown : ℕ → Option V → Option (Shown V F)
  value_shown at None = None
  value_shown at (Some v) = Some (found at v)

  abbrev pub fault_shown : ℕ → Option F → Option (Shown V F)
  fault_shown at None = None
  fault_shown at (Some f) = Some (met at f)

  abbrev pub shown_of : Meaning V F → Look → Option (Shown V F)
  shown_of meaning (look.Found at number) = value_shown at (meaning.values number)
  shown_of meaning (look.Fault at number) = fault_shown at (meaning.faults number)
  shown_of meaning look.Absent = Some absent
  shown_of meaning (look.Busy at) = None
  shown_of meaning (look.Closed at) = Some (closed at)

  -- two look-ups show the same, in one context
  pub record ShowTheSame (ours theirs : Meaning V F) (a b : Look) : Type 0 where
    pub shown : Shown V F
    pub here : shown_of ours a ≡ Some shown
    pub there : shown_of theirs b ≡ Some shown

-- ---- what an act does

-- an act, by what the number stands for that it stores
pub data Deed (V F : Type 0) : Type 0 where
  draws : Deed V F
  puts : V → Deed V F
  removes : Deed V F
  claims : Deed V F
  fills : V → Deed V F
  fails : F → Deed V F
  abandons : Deed V F
  seals : Deed V F

module _ {V F : Type 0} where
  abbrev pub of_value : (V → Deed V F) → Option V → Option (Deed V F)
  of_value deed None = None
  of_value deed (Some v) = Some (deed v)

  abbrev pub of_fault : (F → Deed V F) → Option F → Option (Deed V F)
  of_fault deed None = None
  of_fault deed (Some f) = Some (deed f)

  abbrev pub deed_of : {P : Type 0} → Meaning V F → Act P → Option (Deed V F)
  deed_of meaning (Keep number) = Some draws
  deed_of meaning (Put at number) = of_value puts (meaning.values number)
  deed_of meaning (Remove at) = Some removes
  deed_of meaning (Claim at) = Some claims
  deed_of meaning (Fill at number) = of_value fills (meaning.values number)
  deed_of meaning (Fail at number) = of_fault fails (meaning.faults number)
  deed_of meaning (Abandon at) = Some abandons
  deed_of meaning (Seal at) = Some seals

  -- a claim is all that leaves what is not compared
  abbrev pub IsCompared : Deed V F → Type 0
  IsCompared draws = Unit {0}
  IsCompared (puts v) = Unit {0}
  IsCompared removes = Unit {0}
  IsCompared claims = ⊥
  IsCompared (fills v) = Unit {0}
  IsCompared (fails f) = Unit {0}
  IsCompared abandons = Unit {0}
  IsCompared seals = Unit {0}

  -- two acts do the same, each by what the numbers of its own store stand for
  pub record DoTheSame {P Q : Type 0} (ours theirs : Meaning V F) (act : Act P) (other : Act Q) : Type 0 where
    pub deed : Deed V F
    pub here : deed_of ours act ≡ Some deed
    pub there : deed_of theirs other ≡ Some deed
    pub compared : IsCompared deed

  -- what the one knows the other knows too
  pub record KnowsMore (less more : Meaning V F) : Type 0 where
    pub values : (number : ℕ) (v : V) → less.values number ≡ Some v → more.values number ≡ Some v
    pub faults : (number : ℕ) (f : F) → less.faults number ≡ Some f → more.faults number ≡ Some f
