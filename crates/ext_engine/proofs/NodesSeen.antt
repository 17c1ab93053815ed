-- Calls that are made by one thing, seen as calls on another: as those of a caller are calls on the lane that it holds.
use Rattle.std.proofs.Common.{◌≡◌, Bool, true, false, List, [], ◌∷◌, ap, ◌∙◌, sym, refl, subst}
use Rattle.ext_lifecycle.specs.declared.call.Call.{Call}
use Rattle.ext_lifecycle.specs.declared.outcome.Outcome.{Outcome}
use Rattle.ext_lifecycle.specs.Endings.{all_successful, is_successful}
use Rattle.ext_lifecycle.specs.Lifecycle.{MakesAll, MakesBefores, MakesIf, MakesCalls, ending_of, endings_of}

-- `at` says that a call keeps P, and how it is seen
module _ {S T : Type 0} (makes : S → Call → Outcome → S → Type 0) (makes' : T → Call → Outcome → T → Type 0) (see : S → T) (P : S → Type 0)
    (at : (s : S) (c : Call) (o : Outcome) (t : S) → P s → makes s c o t → P t × makes' (see s) c o (see t)) where
  pub all-seen : (calls : List Call) (s : S) (os : List Outcome) (t : S) → P s → MakesAll makes calls s os t → P t × MakesAll makes' calls (see s) os (see t)
  all-seen [] s os t p m = (subst P (sym m.1) p, (m.0, ap see m.1))
  all-seen (c ∷ cs) s os t p m =
      let one = at s c m.0 m.2 p m.4 in
      let rest = all-seen cs m.2 m.1 t one.0 m.5 in
      (rest.0, (m.0, m.1, see m.2, m.3, one.1, rest.1))

  -- whether the call was successful or not
  seen-by : (cs : List Call) (good : Bool) (rest : List Outcome) (between t : S) (now : Bool) → good ≡ now → P between
      → (P between → MakesBefores makes cs between rest t → P t × MakesBefores makes' cs (see between) rest (see t))
      → (good ≡ true → MakesBefores makes cs between rest t) → (good ≡ false → (rest ≡ []) × (t ≡ between))
      → P t × ((good ≡ true → MakesBefores makes' cs (see between) rest (see t)) × (good ≡ false → (rest ≡ []) × (see t ≡ see between)))
  seen-by cs good rest between t true is p go good_case bad_case =
      let r = go p (good_case is) in
      (r.0, ((λ _. r.1), (λ bad. absurd (let e : true ≡ false = sym is ∙ bad in cc))))
  seen-by cs good rest between t false is p go good_case bad_case =
      let r = bad_case is in
      (subst P (sym r.1) p, ((λ so. absurd (let e : true ≡ false = sym so ∙ is in cc)), (λ _. (r.0, ap see r.1))))

  pub befores-seen : (calls : List Call) (s : S) (os : List Outcome) (t : S) → P s → MakesBefores makes calls s os t → P t × MakesBefores makes' calls (see s) os (see t)
  befores-seen [] s os t p m = (subst P (sym m.1) p, (m.0, ap see m.1))
  befores-seen (c ∷ cs) s os t p m =
      let one = at s c m.0 m.2 p m.4 in
      let good = is_successful (ending_of m.0.verdict) in
      let rest = seen-by cs good m.1 m.2 t good refl one.0 (λ q n. befores-seen cs m.2 m.1 t q n) m.5.0 m.5.1 in
      (rest.0, (m.0, m.1, see m.2, m.3, one.1, rest.1))

  if-seen : (go : Bool) (call : Call) (s : S) (os : List Outcome) (t : S) → P s → MakesIf makes go call s os t → P t × MakesIf makes' go call (see s) os (see t)
  if-seen true call s os t p m =
      let r = all-seen (call ∷ []) s os t p (m.made refl) in
      (r.0, record { made = λ _. r.1; skipped = λ bad. absurd cc })
  if-seen false call s os t p m =
      let r = m.skipped refl in
      (subst P (sym r.1) p, record { made = λ good. absurd cc; skipped = λ _. (r.0, ap see r.1) })

  pub calls-seen : (befores : List Call) (body : Call) (afters : List Call) (s : S) (os : List Outcome) (t : S) → P s → MakesCalls makes befores body afters s os t
      → P t × MakesCalls makes' befores body afters (see s) os (see t)
  calls-seen befores body afters s os t p m =
      let first = befores-seen befores s m.first m.opened p m.befores_made in
      let second = if-seen (all_successful (endings_of m.first)) body m.opened m.second m.closing first.0 m.body_made in
      let third = all-seen afters m.closing m.third t second.0 m.afters_made in (
        third.0,
        record {
          first = m.first;
          second = m.second;
          third = m.third;
          opened = see m.opened;
          closing = see m.closing;
          befores_made = first.1;
          body_made = second.1;
          afters_made = third.1;
          all = m.all;
        },
      )
