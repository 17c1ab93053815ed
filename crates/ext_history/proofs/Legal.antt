-- Laws of legal histories: prefixes, one event more, and induction.
use Rattle.std.proofs.Common.{◌≡◌, List, [], ◌∷◌, ◌++◌, inl, inr, refl, ap, sym, subst, ◌∙◌, append_assoc, append-nil, Contains}
use Rattle.std.proofs.lemmas.List.Elements.{Contains-push_cases}
use mathlib.Core.List.{IsPrefix}
use Rattle.ext_history.specs.Histories.{IsLegal}
use Rattle.ext_history.proofs.Lists.{split_push, contains_none}

-- no events at all are legal
pub legal_empty : {E : Type 0} (IsAllowed : List E → E → Type 0) → IsLegal IsAllowed []
legal_empty {E} IsAllowed = record {
  each = λ before e later is. absurd (nothing before e later is);
}
  where
    nothing : (before : List E) (e : E) (later : List E) → [] ≡ before ++ e ∷ later → ⊥
    nothing [] e later is = cc is
    nothing (x ∷ before) e later is = cc is

module _ {E : Type 0} {IsAllowed : List E → E → Type 0} where
  -- a prefix of a legal history is legal
  pub legal_prefix : (h rest : List E) → IsLegal IsAllowed (h ++ rest) → IsLegal IsAllowed h
  legal_prefix h rest legal = record {
    each = λ before e later is. legal.each before e (later ++ rest) (ap (λ g. g ++ rest) is ∙ append_assoc before (e ∷ later) rest);
  }

  pub legal_begun : (p h : List E) → IsPrefix p h → IsLegal IsAllowed h → IsLegal IsAllowed p
  legal_begun p h begins legal = legal_prefix p begins.0 (subst (IsLegal IsAllowed) (sym begins.1) legal)

  -- a legal history with an allowed event behind it is legal
  pub legal_push : (h : List E) (e : E) → IsLegal IsAllowed h → IsAllowed h e → IsLegal IsAllowed (h ++ e ∷ [])
  legal_push h e legal allowed = record {
    each = λ before x later is. elim (split_push h e before x later is) [
      | inl r ↦ subst (λ g. IsAllowed g x) r.0 (subst (λ y. IsAllowed h y) r.1 allowed)
      | inr r ↦ legal.each before x r.0 r.1
    ];
  }

module _ {E : Type 0} {IsAllowed : List E → E → Type 0} (Fact : List E → Type 0) (step : (before : List E) (e : E) → IsAllowed before e → Fact before → Fact (before ++ e ∷ [])) where
  -- what holds of a history and is kept by each event that is allowed holds of what follows
  pub legal_steps : (before rest : List E) → IsLegal IsAllowed (before ++ rest) → Fact before → Fact (before ++ rest)
  legal_steps before [] legal fact = subst Fact (sym (append-nil before)) fact
  legal_steps before (e ∷ rest) legal fact =
      let regrouped = append_assoc before (e ∷ []) rest in
      subst Fact regrouped
      (legal_steps (before ++ e ∷ []) rest (subst (IsLegal IsAllowed) (sym regrouped) legal) (step before e (legal.each before e rest refl) fact))

-- what holds at first, and is kept by each event that is allowed after a legal history, holds of each legal history
pub legal_induct : {E : Type 0} (IsAllowed : List E → E → Type 0) (Fact : List E → Type 0) → Fact [] → ((h : List E) (e : E) → IsLegal IsAllowed h → Fact h → IsAllowed h e → Fact (h ++ e ∷ []))
    → (h : List E) → IsLegal IsAllowed h → Fact h
legal_induct {E} IsAllowed Fact first next h legal = (legal_steps Both step [] h legal (legal_empty IsAllowed, first)).1
  where
    Both : List E → Type 0
    Both g = IsLegal IsAllowed g × Fact g

    step : (before : List E) (e : E) → IsAllowed before e → Both before → Both (before ++ e ∷ [])
    step before e a both = (legal_push before e both.0 a, next before e both.0 both.1 a)

-- what each allowed event is, each event of a legal history is
pub legal_each : {E : Type 0} (IsAllowed : List E → E → Type 0) (P : E → Type 0) → ((before : List E) (e : E) → IsAllowed before e → P e) → (h : List E) → IsLegal IsAllowed h → (e : E) → Contains h e → P e
legal_each {E} IsAllowed P allowed h legal = legal_induct IsAllowed (λ g. (e : E) → Contains g e → P e) (λ e there. absurd (contains_none e there)) step h legal
  where
    step : (g : List E) (x : E) → IsLegal IsAllowed g → ((y : E) → Contains g y → P y) → IsAllowed g x → (y : E) → Contains (g ++ x ∷ []) y → P y
    step g x legal old a y there = elim (Contains-push_cases g x y there) [
      | inl before ↦ old y before
      | inr same ↦ subst P same (allowed g x a)
    ]
