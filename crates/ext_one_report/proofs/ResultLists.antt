-- Lists of results, and of nodes that ran.
use Rattle.std.proofs.Common.{◌≡◌, ℕ, zero, suc, ◌<◌, ◌⊎◌, List, [], ◌∷◌, ◌++◌, length, refl, ap, sym, subst, arith}
use Rattle.std.specs.Prelude.{Contains, Some, slice_get, slice_set}
use Rattle.std.proofs.lemmas.List.{map-append}
use Rattle.std.proofs.lemmas.List.Elements.{Contains-append_cases, Contains-append_left, Contains-append_right}
use Rattle.ext_history.proofs.Once.{contains-map}
use Rattle.ext_lifecycle.specs.FaultTexts.{NodeOutcome}
use Rattle.ext_engine.specs.RunLaws.{HasRun, nodes_of}
use Rattle.ext_engine.specs.TreeRun.{Ran}

-- ---- places in a list

pub set-there : (results : List NodeOutcome) (at : ℕ) (x : NodeOutcome) → at < length results → slice_get (slice_set results at x) at ≡ Some x
set-there [] at x less = absurd (omega (arith, less))
set-there (y ∷ results) zero x less = refl
set-there (y ∷ results) (suc at) x less = set-there results at x (omega (arith, less))

pub set-long : (results : List NodeOutcome) (at : ℕ) (x : NodeOutcome) → length (slice_set results at x) ≡ length results
set-long [] at x = refl
set-long (y ∷ results) zero x = refl
set-long (y ∷ results) (suc at) x = ap suc (set-long results at x)

-- ---- nodes that ran

pub ran_as : (ran : List Ran) (one : Ran) → Contains ran one → HasRun ran one.result.node
ran_as ran one there = contains-map (λ r. r.result.node) ran one there

pub ran_first : (xs ys : List Ran) (node : ℕ) → HasRun xs node → HasRun (xs ++ ys) node
ran_first xs ys node has = subst (λ l. Contains l node) (sym (map-append (λ r. r.result.node) xs ys)) (Contains-append_left (nodes_of xs) (nodes_of ys) node has)

pub ran_second : (xs ys : List Ran) (node : ℕ) → HasRun ys node → HasRun (xs ++ ys) node
ran_second xs ys node has = subst (λ l. Contains l node) (sym (map-append (λ r. r.result.node) xs ys)) (Contains-append_right (nodes_of xs) (nodes_of ys) node has)

pub ran_cases : (xs ys : List Ran) (node : ℕ) → HasRun (xs ++ ys) node → HasRun xs node ⊎ HasRun ys node
ran_cases xs ys node has = Contains-append_cases (nodes_of xs) (nodes_of ys) node (subst (λ l. Contains l node) (map-append (λ r. r.result.node) xs ys) has)
