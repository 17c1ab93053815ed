-- The words of steps by what they do. Each of them changes its place or looks along its path, and one with a factory does
-- both.
use Rattle.std.proofs.Common.{◌≡◌, ◌⊎◌, Bool, List, true, false, true≢false, refl, sym, ◌∙◌, inl, inr}
use Rattle.ext_lifecycle.specs.declared.outcome.Outcome.{Outcome}
use Rattle.ext_plan.specs.declared.word.Word.{Word}
use Rattle.ext_plan.specs.declared.word.Word.TheVariants as words
use Rattle.ext_plan.specs.Plans.{KeyText, StepKeyText}
use Rattle.ext_plan.specs.StepWords.{changes, computes, gives_value, looks_along}
use Rattle.ext_races.specs.Acts.{as_compute, puts, stores}
use Rattle.ext_plan_parallel.specs.StoreCalls.{PlanLane}
use Rattle.ext_plan_parallel.specs.StoreSteps.{FindsNoMemory, LacksMemory}

-- what is so of the two computes that give a value
pub of_computes : (P : Word → Type 0) → P words.Compute → P words.ComputeCloseable → (word : Word) → gives_value word ≡ true → P word
of_computes P one other words.Compute gives = one
of_computes P one other words.ComputeCloseable gives = other
of_computes P one other word gives = absurd cc

pub computes_all : (word : Word) → gives_value word ≡ true → (changes word ≡ true) × (looks_along word ≡ true)
computes_all = of_computes (λ word. (changes word ≡ true) × (looks_along word ≡ true)) (refl, refl) (refl, refl)

-- what is so of all words with a factory
pub of_factories : (P : Word → Type 0) → P words.Compute → P words.ComputeCloseable → P words.ComputeFail → (word : Word) → computes word ≡ true → P word
of_factories P one other fails words.Compute has = one
of_factories P one other fails words.ComputeCloseable has = other
of_factories P one other fails words.ComputeFail has = fails
of_factories P one other fails word has = absurd cc

pub factories_all : (word : Word) → computes word ≡ true → (changes word ≡ true) × (looks_along word ≡ true)
factories_all = of_factories (λ word. (changes word ≡ true) × (looks_along word ≡ true)) (refl, refl) (refl, refl) (refl, refl)

changes_or_looks : (word : Word) → (changes word ≡ true) ⊎ (looks_along word ≡ true)
changes_or_looks words.Want = inr refl
changes_or_looks words.None = inr refl
changes_or_looks word = inl refl

pub still_looks : (word : Word) → changes word ≡ false → looks_along word ≡ true
still_looks word still = elim (changes_or_looks word) [ inl changing ↦ absurd (true≢false (sym changing ∙ still)) | inr looks ↦ looks ]

-- where memory ran out before the call of a step, it did nothing
pub finds_none : (keys : List KeyText) (word : Word) (key : StepKeyText) (a : PlanLane) (o : Outcome) (b : PlanLane) → LacksMemory keys word key a o b → FindsNoMemory a o b
finds_none keys words.ComputeFail key a o b lacks = lacks
finds_none keys word key a o b lacks = lacks.1

-- a word that puts a value
pub of_puts : (P : Word → Type 0) → P words.Put → P words.PutCloseable → (word : Word) → puts word ≡ true → P word
of_puts P one other words.Put is = one
of_puts P one other words.PutCloseable is = other
of_puts P one other words.Want is = absurd (cc is)
of_puts P one other words.None is = absurd (cc is)
of_puts P one other words.Remove is = absurd (cc is)
of_puts P one other words.Compute is = absurd (cc is)
of_puts P one other words.ComputeCloseable is = absurd (cc is)
of_puts P one other words.ComputeFail is = absurd (cc is)

-- what stores a value changes its place, and counts as what computes one
pub stores_all : (put : Bool) (word : Word) → stores put word ≡ true → (changes word ≡ true) × (gives_value (as_compute word) ≡ true)
stores_all true word is = of_puts (λ w. (changes w ≡ true) × (gives_value (as_compute w) ≡ true)) (refl, refl) (refl, refl) word is
stores_all false word is = of_computes (λ w. (changes w ≡ true) × (gives_value (as_compute w) ≡ true)) (refl, refl) (refl, refl) word is
