-- Calls that are made one after another.
use Rattle.std.proofs.Common.{◌≡◌, ℕ, ◌≤◌, true, false, List, [], ◌∷◌, ◌++◌, length, ◌∙◌, sym, refl, subst, arith, append_assoc, append-nil}
use Rattle.ext_lifecycle.specs.declared.call.Call.{Call}
use Rattle.ext_lifecycle.specs.declared.outcome.Outcome.{Outcome}
use Rattle.ext_lifecycle.specs.declared.tally.Tally.{Tally}
use Rattle.ext_lifecycle.specs.Endings.{is_successful}
use Rattle.ext_lifecycle.specs.Lifecycle.{MakesAll, MakesBefores, ending_of, IsRoomy}

module _ {S : Type 0} (makes : S → Call → Outcome → S → Type 0) where
  -- what is still to come of the befores makes all of them
  pub record BeforesTo (calls rest : List Call) (first now : S) (done : List Outcome) : Type 0 where
    pub each : (os : List Outcome) (last : S) → MakesBefores makes rest now os last → MakesBefores makes calls first (done ++ os) last

  pub befores-go_on : (calls rest more : List Call) (call : Call) (first now next : S) (done : List Outcome) (o : Outcome)
      → rest ≡ call ∷ more → BeforesTo calls rest first now done → makes now call o next → is_successful (ending_of o.verdict) ≡ true → BeforesTo calls more first next (done ++ o ∷ [])
  befores-go_on calls rest more call first now next done o is to made good = record {
    each = λ os last after.
        let D : List Call → Type 0 = λ l. MakesBefores makes l now (o ∷ os) last in
        let E : List Outcome → Type 0 = λ l. MakesBefores makes calls first l last in
        let no : is_successful (ending_of o.verdict) ≡ false → (os ≡ []) × (last ≡ next) = λ bad. absurd (let e : true ≡ false = sym good ∙ bad in cc) in
        subst E (sym (append_assoc done (o ∷ []) os)) (to.each (o ∷ os) last (subst D (sym is) (o, os, next, refl, made, ((λ _. after), no))));
  }

  pub befores-stop : (calls rest more : List Call) (call : Call) (first now next : S) (done : List Outcome) (o : Outcome)
      → rest ≡ call ∷ more → BeforesTo calls rest first now done → makes now call o next → is_successful (ending_of o.verdict) ≡ false → MakesBefores makes calls first (done ++ o ∷ []) next
  befores-stop calls rest more call first now next done o is to made bad =
      let D : List Call → Type 0 = λ l. MakesBefores makes l now (o ∷ []) next in
      let no : is_successful (ending_of o.verdict) ≡ true → MakesBefores makes more next [] next = λ good. absurd (let e : true ≡ false = sym good ∙ bad in cc) in
      to.each (o ∷ []) next (subst D (sym is) (o, [], next, refl, made, (no, (λ _. (refl, refl)))))

  pub befores-end : (calls rest : List Call) (first now : S) (done : List Outcome) → rest ≡ [] → BeforesTo calls rest first now done → MakesBefores makes calls first done now
  befores-end calls rest first now done is to =
      let D : List Call → Type 0 = λ l. MakesBefores makes l now [] now in
      let E : List Outcome → Type 0 = λ l. MakesBefores makes calls first l now in
      subst E (append-nil done) (to.each [] now (subst D (sym is) (refl, refl)))

  -- and so of all calls
  pub record AllTo (calls rest : List Call) (first now : S) (done : List Outcome) : Type 0 where
    pub each : (os : List Outcome) (last : S) → MakesAll makes rest now os last → MakesAll makes calls first (done ++ os) last

  pub all-go_on : (calls rest more : List Call) (call : Call) (first now next : S) (done : List Outcome) (o : Outcome)
      → rest ≡ call ∷ more → AllTo calls rest first now done → makes now call o next → AllTo calls more first next (done ++ o ∷ [])
  all-go_on calls rest more call first now next done o is to made = record {
    each = λ os last after.
        let D : List Call → Type 0 = λ l. MakesAll makes l now (o ∷ os) last in
        let E : List Outcome → Type 0 = λ l. MakesAll makes calls first l last in
        subst E (sym (append_assoc done (o ∷ []) os)) (to.each (o ∷ os) last (subst D (sym is) (o, os, next, refl, made, after)));
  }

  pub all-end : (calls rest : List Call) (first now : S) (done : List Outcome) → rest ≡ [] → AllTo calls rest first now done → MakesAll makes calls first done now
  all-end calls rest first now done is to =
      let D : List Call → Type 0 = λ l. MakesAll makes l now [] now in
      let E : List Outcome → Type 0 = λ l. MakesAll makes calls first l now in
      subst E (append-nil done) (to.each [] now (subst D (sym is) (refl, refl)))

-- ---- room for further outcomes

-- less fits where more fits
pub roomy-less : (m n : ℕ) (t : Tally) → m ≤ n → IsRoomy n t → IsRoomy m t
roomy-less m n t less room =
    let a = room.more in let b = room.computed in let c = room.found in
    record { more = omega arith; computed = omega arith; found = omega arith }

pub roomy-same : (m n : ℕ) (t : Tally) → m ≡ n → IsRoomy m t → IsRoomy n t
roomy-same m n t same room = subst (λ i. IsRoomy i t) same room

pub empty-list : {X : Type 0} (xs : List X) → length xs ≡ 0 → xs ≡ []
empty-list [] e = refl
empty-list (x ∷ xs) e = absurd (omega (arith, e))
