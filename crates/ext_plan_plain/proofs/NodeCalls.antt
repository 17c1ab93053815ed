-- The calls of a node that were made leave what the definition of the plain run has, where each call did.
use Rattle.std.proofs.Common.{◌≡◌, ◌≢◌, ℕ, Bool, true, false, List, [], ◌∷◌, ◌++◌, map, refl, ap, sym, subst, ◌∙◌, arith, append_assoc, append-nil}
use Rattle.std.specs.Prelude.{◌&&◌, if◌then◌else◌}
use Rattle.std.proofs.lemmas.List.{map-append}
use Rattle.std.proofs.lemmas.List.Sums.{sum_by-append}
use Rattle.ext_lifecycle.specs.declared.call.Call.{Call}
use Rattle.ext_lifecycle.specs.declared.outcome.Outcome.{Outcome}
use Rattle.ext_lifecycle.specs.Endings.{Ending, all_successful, is_successful, with_fault}
use Rattle.ext_lifecycle.specs.FaultTexts.{VerdictText, fault_text, verdict_text}
use Rattle.ext_lifecycle.specs.Lifecycle.{MakesAll, MakesBefores, MakesIf, MakesCalls, ending_of, endings_of}
use Rattle.ext_lifecycle.proofs.OtherFaults.{is_successful-to}
use Rattle.ext_plan_plain.specs.InnerSteps.{TellsLacks, calls_end, step_end}
use Rattle.ext_plan_plain.specs.NodeCalls.{CallsEnd, and_call, make, make_all, make_befores, make_if_successful}
use Rattle.ext_plan_plain.specs.StepRuns.{StepEnd, no_memory}
use Rattle.ext_plan_plain.specs.ValueStates.{Memory, ValueState}
use Rattle.ext_plan_plain.proofs.Spared.{Spares, spared-first, spared-last, texts_of}
use Rattle.ext_plan_plain.proofs.Telling.{tells-both, tells-none, tells-same}

-- ---- one call more

same_end : (s : ValueState) (a b : List VerdictText) (m n i j : ℕ) → a ≡ b → m ≡ n → i ≡ j
    → ◌≡◌ {A = CallsEnd} (record { state = s; calls = a; computed = m; found = i }) (record { state = s; calls = b; computed = n; found = j })
same_end s a b m n i j calls computed found =
    ap (λ cs. record { state = s; calls = cs; computed = m; found = i }) calls
    ∙ ap (λ k. record { state = s; calls = b; computed = k; found = i }) computed
    ∙ ap (λ k. record { state = s; calls = b; computed = n; found = k }) found

one_more : (s t : ValueState) (before : List Outcome) (o : Outcome) → and_call (calls_end s before) (step_end t o) ≡ calls_end t (before ++ o ∷ [])
one_more s t before o =
    let ends : endings_of (before ++ o ∷ []) ≡ endings_of before ++ ending_of o.verdict ∷ [] = map-append (λ o. ending_of o.verdict) before (o ∷ []) in
    let computed = sum_by-append (λ o. o.computed) before (o ∷ []) in
    let found = sum_by-append (λ o. o.found) before (o ∷ []) in
    same_end t _ _ _ _ _ _ (sym (ap (map (with_fault fault_text)) ends ∙ map-append (with_fault fault_text) (endings_of before) (ending_of o.verdict ∷ []))) (omega arith) (omega arith)

-- ---- whether all were successful

pub texts-successful : (es : List (Ending _)) → all_successful (map (with_fault fault_text) es) ≡ all_successful es
texts-successful [] = refl
texts-successful (e ∷ es) = ap (λ b. b && all_successful (map (with_fault fault_text) es)) (is_successful-to fault_text e) ∙ ap (λ b. is_successful e && b) (texts-successful es)

and-assoc : (a b c : Bool) → (a && (b && c)) ≡ ((a && b) && c)
and-assoc true b c = refl
and-assoc false b c = refl

and-true : (b : Bool) → (b && true) ≡ b
and-true true = refl
and-true false = refl

successful-more : (before : List Outcome) (o : Outcome) → all_successful (endings_of (before ++ o ∷ [])) ≡ (all_successful (endings_of before) && is_successful (ending_of o.verdict))
successful-more [] o = and-true (is_successful (ending_of o.verdict))
successful-more (p ∷ before) o = ap (λ b. is_successful (ending_of p.verdict) && b) (successful-more before o) ∙ and-assoc (is_successful (ending_of p.verdict)) (all_successful (endings_of before)) (is_successful (ending_of o.verdict))

module _ (run : Call → ValueState → StepEnd) where
  if-made : (s : ValueState) (before : List Outcome) (call : Call) (b : Bool) → all_successful (endings_of before) ≡ b
      → make_if_successful run (calls_end s before) call ≡ (if b then make run (calls_end s before) call else calls_end s before)
  if-made s before call b is = ap (λ go. if go then make run (calls_end s before) call else calls_end s before) (texts-successful (endings_of before) ∙ is)

  -- after a call that isn't successful no before-callback is called
  stays : (calls : List Call) (s : ValueState) (before : List Outcome) → all_successful (endings_of before) ≡ false → make_befores run calls (calls_end s before) ≡ calls_end s before
  stays [] s before ends = refl
  stays (call ∷ calls) s before ends = ap (make_befores run calls) (if-made s before call false ends) ∙ stays calls s before ends

-- ---- calls that were made

-- a call does what `run` says, by what its steps found of memory, whatever those after it find; what holds of the caller it keeps
pub record Does {S : Type 0} (makes : S → Call → Outcome → S → Type 0) (Holds : S → Type 0) (view : List Memory → S → ValueState) (lacked : S → Bool) (run : Call → ValueState → StepEnd) : Type 0 where
  pub keeps : (c : S) (call : Call) (o : Outcome) (d : S) → makes c call o d → Holds c → Holds d
  pub exact : (c : S) (call : Call) (o : Outcome) (d : S) → makes c call o d → Holds c → (later : List Memory)
      → (memory : List Memory) × (step_end (view later d) o ≡ run call (view memory c)) × TellsLacks (lacked c) (lacked d) memory later (verdict_text o.verdict ≢ no_memory)

module _ {S : Type 0} (makes : S → Call → Outcome → S → Type 0) (Holds : S → Type 0) (view : List Memory → S → ValueState) (lacked : S → Bool) (run : Call → ValueState → StepEnd) (does : Does makes Holds view lacked run) where
  -- ---- what holds after calls

  nothing-holds : (c d : S) → d ≡ c → Holds c → Holds d
  nothing-holds c d same h = subst Holds (sym same) h

  pub all-holds : (calls : List Call) (c : S) (os : List Outcome) (d : S) → MakesAll makes calls c os d → Holds c → Holds d
  all-holds [] c os d made h = nothing-holds c d made.1 h
  all-holds (call ∷ calls) c os d made h = all-holds calls made.2 made.1 d made.5 (does.keeps c call made.0 made.2 made.4 h)

  befores-by : (good : Bool) (calls : List Call) (call : Call) (c : S) (os : List Outcome) (d : S) (made : MakesBefores makes (call ∷ calls) c os d) → is_successful (ending_of made.0.verdict) ≡ good
      → ((c : S) (os : List Outcome) (d : S) → MakesBefores makes calls c os d → Holds c → Holds d) → Holds made.2 → Holds d
  befores-by true calls call c os d made good each h = each made.2 made.1 d (made.5.0 good) h
  befores-by false calls call c os d made good each h = nothing-holds made.2 d (made.5.1 good).1 h

  pub befores-hold : (calls : List Call) (c : S) (os : List Outcome) (d : S) → MakesBefores makes calls c os d → Holds c → Holds d
  befores-hold [] c os d made h = nothing-holds c d made.1 h
  befores-hold (call ∷ calls) c os d made h = befores-by (is_successful (ending_of made.0.verdict)) calls call c os d made refl (befores-hold calls) (does.keeps c call made.0 made.2 made.4 h)

  pub if-holds : (go : Bool) (call : Call) (c : S) (os : List Outcome) (d : S) → MakesIf makes go call c os d → Holds c → Holds d
  if-holds true call c os d made h = all-holds (call ∷ []) c os d (made.made refl) h
  if-holds false call c os d made h = nothing-holds c d (made.skipped refl).1 h

  pub calls-hold : (befores : List Call) (body : Call) (afters : List Call) (c : S) (os : List Outcome) (d : S) → MakesCalls makes befores body afters c os d → Holds c → Holds d
  calls-hold befores body afters c os d made h =
      all-holds afters made.closing made.third d made.afters_made
      (if-holds (all_successful (endings_of made.first)) body made.opened made.second made.closing made.body_made (befores-hold befores c made.first made.opened made.befores_made h))

  -- ---- what calls leave

  -- for what later steps find there is something that earlier ones found, so that this makes that, and whether these lacked some is told
  abbrev pub Leaves : (CallsEnd → CallsEnd) → S → List Outcome → S → List Outcome → Type 0
  Leaves made c before d after = (later : List Memory) → (memory : List Memory) × (made (calls_end (view memory c) before) ≡ calls_end (view later d) after) × TellsLacks (lacked c) (lacked d) memory later (Spares (texts_of after))

  one_call : (c : S) (call : Call) (o : Outcome) (d : S) (before : List Outcome) → makes c call o d → Holds c → Leaves (λ e. make run e call) c before d (before ++ o ∷ [])
  one_call c call o d before made holds later =
      let one = does.exact c call o d made holds later in
      let told = tells-same (lacked c) (lacked c) (lacked d) (lacked d) one.0 later (verdict_text o.verdict ≢ no_memory) (Spares (texts_of (before ++ o ∷ []))) refl refl (spared-last before o) one.2 in
      (one.0, ap (and_call (calls_end (view one.0 c) before)) (sym one.1) ∙ one_more (view one.0 c) (view later d) before o, told)

  none_left : (c d : S) (before os : List Outcome) → os ≡ [] → d ≡ c → Leaves (λ e. e) c before d (before ++ os)
  none_left c d before os none same later = (
    later,
    ap (λ x. calls_end (view later x) before) (sym same) ∙ ap (calls_end (view later d)) (sym (ap (λ l. before ++ l) none ∙ append-nil before)),
    tells-same (lacked c) (lacked c) (lacked c) (lacked d) later later (Spares (texts_of (before ++ os))) (Spares (texts_of (before ++ os))) refl (ap lacked same) (λ spared. spared) (tells-none (lacked c) later (Spares (texts_of (before ++ os)))),
  )

  same-list : (before rest os : List Outcome) (o : Outcome) → os ≡ o ∷ rest → (before ++ o ∷ []) ++ rest ≡ before ++ os
  same-list before rest os o is = append_assoc before (o ∷ []) rest ∙ ap (λ l. before ++ l) (sym is)

  joined : (s : ValueState) (before rest os : List Outcome) (o : Outcome) → os ≡ o ∷ rest → calls_end s ((before ++ o ∷ []) ++ rest) ≡ calls_end s (before ++ os)
  joined s before rest os o is = ap (calls_end s) (same-list before rest os o is)

  told-on : (c between d : S) (before rest os : List Outcome) (o : Outcome) (first second later : List Memory) → os ≡ o ∷ rest
      → TellsLacks (lacked c) (lacked between) first second (Spares (texts_of (before ++ o ∷ []))) → TellsLacks (lacked between) (lacked d) second later (Spares (texts_of ((before ++ o ∷ []) ++ rest)))
      → TellsLacks (lacked c) (lacked d) first later (Spares (texts_of (before ++ os)))
  told-on c between d before rest os o first second later is one two =
      let whole : Spares (texts_of (before ++ os)) → Spares (texts_of ((before ++ o ∷ []) ++ rest)) = λ spared. subst (λ l. Spares (texts_of l)) (sym (same-list before rest os o is)) spared in
      tells-both (lacked c) (lacked between) (lacked d) first second later (Spares (texts_of (before ++ o ∷ []))) (Spares (texts_of ((before ++ o ∷ []) ++ rest))) (Spares (texts_of (before ++ os)))
      (λ spared. spared-first (before ++ o ∷ []) rest (whole spared)) whole one two

  pub all-exact : (calls : List Call) (c : S) (os : List Outcome) (d : S) (before : List Outcome) → MakesAll makes calls c os d → Holds c → Leaves (make_all run calls) c before d (before ++ os)
  all-exact [] c os d before made holds later = none_left c d before os made.0 made.1 later
  all-exact (call ∷ calls) c os d before made holds later =
      let rest = all-exact calls made.2 made.1 d (before ++ made.0 ∷ []) made.5 (does.keeps c call made.0 made.2 made.4 holds) later in
      let first = one_call c call made.0 made.2 before made.4 holds rest.0 in
      (first.0, ap (make_all run calls) first.1 ∙ rest.1 ∙ joined (view later d) before made.1 os made.0 made.3, told-on c made.2 d before made.1 os made.0 first.0 rest.0 later made.3 first.2 rest.2)

  befores-rest : (good : Bool) (calls : List Call) (call : Call) (c : S) (os : List Outcome) (d : S) (before : List Outcome) (made : MakesBefores makes (call ∷ calls) c os d) → is_successful (ending_of made.0.verdict) ≡ good
      → all_successful (endings_of before) ≡ true → Holds made.2
      → ((c : S) (os : List Outcome) (d : S) (before : List Outcome) → all_successful (endings_of before) ≡ true → MakesBefores makes calls c os d → Holds c → Leaves (make_befores run calls) c before d (before ++ os))
      → Leaves (make_befores run calls) made.2 (before ++ made.0 ∷ []) d ((before ++ made.0 ∷ []) ++ made.1)
  befores-rest true calls call c os d before made good all holds each later =
      let still : all_successful (endings_of (before ++ made.0 ∷ [])) ≡ true = successful-more before made.0 ∙ ap (λ b. b && is_successful (ending_of made.0.verdict)) all ∙ good in
      each made.2 made.1 d (before ++ made.0 ∷ []) still (made.5.0 good) holds later
  befores-rest false calls call c os d before made good all holds each later =
      let ends : all_successful (endings_of (before ++ made.0 ∷ [])) ≡ false = successful-more before made.0 ∙ ap (λ b. b && is_successful (ending_of made.0.verdict)) all ∙ good in
      let none = none_left made.2 d (before ++ made.0 ∷ []) made.1 (made.5.1 good).0 (made.5.1 good).1 later in
      (none.0, stays run calls (view none.0 made.2) (before ++ made.0 ∷ []) ends ∙ none.1, none.2)

  pub befores-exact : (calls : List Call) (c : S) (os : List Outcome) (d : S) (before : List Outcome) → all_successful (endings_of before) ≡ true → MakesBefores makes calls c os d → Holds c
      → Leaves (make_befores run calls) c before d (before ++ os)
  befores-exact [] c os d before all made holds later = none_left c d before os made.0 made.1 later
  befores-exact (call ∷ calls) c os d before all made holds later =
      let good = is_successful (ending_of made.0.verdict) in
      let rest = befores-rest good calls call c os d before made refl all (does.keeps c call made.0 made.2 made.4 holds) (befores-exact calls) later in
      let first = one_call c call made.0 made.2 before made.4 holds rest.0 in
      (first.0, ap (make_befores run calls) (if-made run (view first.0 c) before call true all ∙ first.1) ∙ rest.1 ∙ joined (view later d) before made.1 os made.0 made.3, told-on c made.2 d before made.1 os made.0 first.0 rest.0 later made.3 first.2 rest.2)

  pub if-exact : (go : Bool) (call : Call) (c : S) (os : List Outcome) (d : S) (before : List Outcome) → all_successful (endings_of before) ≡ go → MakesIf makes go call c os d → Holds c
      → Leaves (λ e. make_if_successful run e call) c before d (before ++ os)
  if-exact true call c os d before all made holds later =
      let one = all-exact (call ∷ []) c os d before (made.made refl) holds later in
      (one.0, if-made run (view one.0 c) before call true all ∙ one.1, one.2)
  if-exact false call c os d before all made holds later =
      let none = none_left c d before os (made.skipped refl).0 (made.skipped refl).1 later in
      (none.0, if-made run (view none.0 c) before call false all ∙ none.1, none.2)

  -- all calls of a test
  pub calls-exact : (befores : List Call) (body : Call) (afters : List Call) (c : S) (os : List Outcome) (d : S) → MakesCalls makes befores body afters c os d → Holds c
      → Leaves (λ e. make_all run afters (make_if_successful run (make_befores run befores e) body)) c [] d os
  calls-exact befores body afters c os d made holds later =
      let go = all_successful (endings_of made.first) in
      let opened = befores-hold befores c made.first made.opened made.befores_made holds in
      let closing = if-holds go body made.opened made.second made.closing made.body_made opened in
      let third = all-exact afters made.closing made.third d (made.first ++ made.second) made.afters_made closing later in
      let second = if-exact go body made.opened made.second made.closing made.first refl made.body_made opened third.0 in
      let first = befores-exact befores c made.first made.opened [] refl made.befores_made holds second.0 in
      let all_of : Spares (texts_of os) → Spares (texts_of ((made.first ++ made.second) ++ made.third)) = λ spared. subst (λ l. Spares (texts_of l)) made.all spared in (
        first.0,
        ap (λ e. make_all run afters (make_if_successful run e body)) first.1
            ∙ ap (make_all run afters) second.1
            ∙ third.1
            ∙ ap (calls_end (view later d)) (sym made.all),
        tells-both (lacked c) (lacked made.opened) (lacked d) first.0 second.0 later (Spares (texts_of made.first)) (Spares (texts_of os)) (Spares (texts_of os))
            (λ spared. spared-first made.first made.second (spared-first (made.first ++ made.second) made.third (all_of spared))) (λ spared. spared) first.2
            (tells-both (lacked made.opened) (lacked made.closing) (lacked d) second.0 third.0 later (Spares (texts_of (made.first ++ made.second))) (Spares (texts_of ((made.first ++ made.second) ++ made.third))) (Spares (texts_of os))
            (λ spared. spared-first (made.first ++ made.second) made.third (all_of spared)) all_of second.2 third.2),
      )
