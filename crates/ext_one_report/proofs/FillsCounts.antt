-- How many values nodes computed: of some and then others, with more results, and of all nodes of a report. And what is filled where more places are open.
use Rattle.std.proofs.Common.{◌≡◌, inl, inr, ℕ, zero, suc, ◌+◌, ◌<◌, ◌≢◌, List, [], ◌∷◌, ◌++◌, length, Some, None, refl, ap, sym, subst, ◌∙◌, arith}
use Rattle.std.specs.Prelude.{Contains, slice_get}
use Rattle.std.specs.List.{sum_by}
use Rattle.std.proofs.lemmas.Bool.{cases_order}
use Rattle.std.proofs.lemmas.List.Sums.{sum_by-append, sum_by-cons}
use Rattle.ext_history.proofs.Lists.{contains_cons, contains_here, contains_later, contains_none}
use Rattle.ext_history.proofs.Once.{Once}
use Rattle.ext_lifecycle.specs.FaultTexts.{NodeOutcome}
use Rattle.ext_plan.specs.Values.{ValueText}
use Rattle.ext_plan_plain.specs.ValueStates.{ValueState}
use Rattle.ext_engine.specs.RunLaws.{HasRun, nodes_of}
use Rattle.ext_engine.specs.TreeRun.{Ran}
use Rattle.ext_one_report.proofs.Fills.{Fills, IsSettled, Spot, computed_at, computed_of, computed_told}
use Rattle.ext_one_report.proofs.Open.{Open, of_value, some_or_none, values_of}
use Rattle.ext_one_report.specs.Shares.{SharesNothing}

-- ---- one node

pub computed_is : (results : List NodeOutcome) (node : ℕ) (outcome : NodeOutcome) → slice_get results node ≡ Some outcome → computed_at results node ≡ outcome.computed
computed_is [] node outcome is = absurd (cc is)
computed_is (x ∷ results) zero outcome is = let same : x ≡ outcome = cc is in ap (λ (y : NodeOutcome). y.computed) same
computed_is (x ∷ results) (suc node) outcome is = computed_is results node outcome is

computed_none : (results : List NodeOutcome) (node : ℕ) → slice_get results node ≡ None → computed_at results node ≡ 0
computed_none [] node is = refl
computed_none (x ∷ results) zero is = absurd (cc is)
computed_none (x ∷ results) (suc node) is = computed_none results node is

computed_same : (a b : List NodeOutcome) (node : ℕ) → slice_get b node ≡ slice_get a node → computed_at a node ≡ computed_at b node
computed_same a b node same = elim (some_or_none (slice_get a node)) [
  | inl none ↦ computed_none a node none ∙ sym (computed_none b node (same ∙ none))
  | inr some ↦ computed_is a node some.0 some.1 ∙ sym (computed_is b node some.0 (same ∙ some.1))
]

-- ---- nodes that ran

pub of_first : (one : Ran) (ran : List Ran) → computed_of (one ∷ ran) ≡ one.result.computed + computed_of ran
of_first one ran = sum_by-cons (λ (x : Ran). x.result.computed) one ran

pub told_first : (one : Ran) (ran : List Ran) (results : List NodeOutcome) → computed_told (one ∷ ran) results ≡ computed_at results one.result.node + computed_told ran results
told_first one ran results = sum_by-cons (λ (x : Ran). computed_at results x.result.node) one ran

pub of_both : (xs ys : List Ran) → computed_of (xs ++ ys) ≡ computed_of xs + computed_of ys
of_both xs ys = sum_by-append (λ (x : Ran). x.result.computed) xs ys

pub told_both : (xs ys : List Ran) (results : List NodeOutcome) → computed_told (xs ++ ys) results ≡ computed_told xs results + computed_told ys results
told_both xs ys results = sum_by-append (λ (x : Ran). computed_at results x.result.node) xs ys

-- where the results of these nodes are as they were, as much is told of them
pub told_later : (ran : List Ran) (a b : List NodeOutcome) → ((node : ℕ) → HasRun ran node → slice_get b node ≡ slice_get a node) → computed_told ran a ≡ computed_told ran b
told_later [] a b same = refl
told_later (one ∷ ran) a b same =
    let here = computed_same a b one.result.node (same one.result.node (contains_here one.result.node (nodes_of ran))) in
    let rest = told_later ran a b (λ node has. same node (contains_later one.result.node (nodes_of ran) node has)) in
    let left = told_first one ran a in
    let right = told_first one ran b in
    omega (arith, here, rest, left, right)

-- ---- all nodes

-- the same results, but for what this node computed
without : ℕ → List NodeOutcome → List NodeOutcome
without node [] = []
without zero (x ∷ results) = record x { computed = 0 } ∷ results
without (suc node) (x ∷ results) = x ∷ without node results

without-long : (node : ℕ) (results : List NodeOutcome) → length (without node results) ≡ length results
unfolding without
without-long node [] = refl
without-long zero (x ∷ results) = refl
without-long (suc node) (x ∷ results) = ap suc (without-long node results)

abbrev total : List NodeOutcome → ℕ
total results = sum_by (λ outcome. outcome.computed) results

without-total : (node : ℕ) (results : List NodeOutcome) → node < length results → total results ≡ computed_at results node + total (without node results)
unfolding without
without-total node [] less = absurd (omega (arith, less))
without-total zero (x ∷ results) less =
    let left = sum_by-cons (λ (o : NodeOutcome). o.computed) x results in
    let right = sum_by-cons (λ (o : NodeOutcome). o.computed) (record x { computed = 0 }) results in
    omega (arith, left, right)
without-total (suc node) (x ∷ results) less =
    let rest = without-total node results (omega (arith, less)) in
    let left = sum_by-cons (λ (o : NodeOutcome). o.computed) x results in
    let right = sum_by-cons (λ (o : NodeOutcome). o.computed) x (without node results) in
    omega (arith, rest, left, right)

without-itself : (node : ℕ) (results : List NodeOutcome) → computed_at (without node results) node ≡ 0
unfolding without
without-itself node [] = refl
without-itself zero (x ∷ results) = refl
without-itself (suc node) (x ∷ results) = without-itself node results

without-others : (node k : ℕ) (results : List NodeOutcome) → k ≢ node → slice_get (without node results) k ≡ slice_get results k
unfolding without
without-others node k [] other = refl
without-others zero zero (x ∷ results) other = absurd (other refl)
without-others zero (suc k) (x ∷ results) other = refl
without-others (suc node) zero (x ∷ results) other = refl
without-others (suc node) (suc k) (x ∷ results) other = without-others node k results (λ same. other (ap suc same))

all_none : (results : List NodeOutcome) → ((node : ℕ) → node < length results → computed_at results node ≡ 0) → total results ≡ 0
all_none [] none = refl
all_none (x ∷ results) none =
    let here : x.computed ≡ 0 = none 0 (omega arith) in
    let rest = all_none results (λ node less. none (suc node) (omega (arith, less))) in
    let sum = sum_by-cons (λ (o : NodeOutcome). o.computed) x results in
    omega (arith, here, rest, sum)

-- all nodes computed what those did that ran, where the others computed nothing
pub told_is_total : (results : List NodeOutcome) (ran : List Ran) → Once (nodes_of ran) → ((node : ℕ) → HasRun ran node → node < length results)
    → ((node : ℕ) → node < length results → ¬ HasRun ran node → computed_at results node ≡ 0) → sum_by (λ outcome. outcome.computed) results ≡ computed_told ran results
told_is_total results [] once within none = all_none results (λ node less. none node less (λ has. contains_none node has))
told_is_total results (one ∷ ran) once within none =
    let n = one.result.node in
    let others = without n results in
    let long = without-long n results in
    let taken = without-total n results (within n (contains_here n (nodes_of ran))) in
    let rest = told_is_total others ran once.1
    (λ node has. let less = within node (contains_later n (nodes_of ran) node has) in omega (arith, long, less))
    (λ node less not_run. elim (cases_order node n) [
      | inl same ↦ subst (λ k. computed_at others k ≡ 0) (sym same) (without-itself n results)
      | inr apart ↦
          let other : node ≢ n = λ same. elim apart [ inl low ↦ absurd (omega (arith, low, same)) | inr high ↦ absurd (omega (arith, high, same)) ] in
          sym (computed_same results others node (without-others n node results other))
          ∙ none node (omega (arith, long, less)) (λ has. elim (contains_cons n (nodes_of ran) node has) [ inl same ↦ other (sym same) | inr later ↦ not_run later ])
    ]) in
    let same = told_later ran results others (λ node has. without-others n node results (λ is. once.0 (subst (λ k. HasRun ran k) is has))) in
    let sum = told_first one ran results in
    omega (arith, taken, rest, same, sum)

-- ---- open places

-- Where more places are open, but no more are settled or filled
pub fills_wider : (Filled : Spot → Type 0) (o wide later next : Open) (s : ValueState) (lanes plain : ℕ) → ((spot : Spot) → IsSettled o later spot → IsSettled wide next spot)
    → ((spot : Spot) → IsSettled wide next spot → IsSettled o later spot) → ((spot : Spot) (v : ValueText) → wide spot.0 spot.1 ≡ Some (of_value v) → Filled spot → (w : ValueText) × (o spot.0 spot.1 ≡ Some (of_value w)))
    → Fills Filled o later s lanes plain → Fills Filled wide next s lanes plain
fills_wider Filled o wide later next s lanes plain there back among fills = record {
  mine = fills.mine;
  theirs = fills.theirs;
  mine_once = fills.mine_once;
  theirs_once = fills.theirs_once;
  mine_settled = λ spot has. there spot (fills.mine_settled spot has);
  mine_filled = fills.mine_filled;
  filled_mine = λ spot v is filled. let was = among spot v is filled in fills.filled_mine spot was.0 was.1 filled;
  theirs_settled = λ spot has. there spot (fills.theirs_settled spot has);
  theirs_none = fills.theirs_none;
  none_theirs = λ spot settled none. fills.none_theirs spot (back spot settled) none;
  balance = fills.balance;
}

-- as many by other words
pub fills_counted : (Filled : Spot → Type 0) (o later : Open) (s : ValueState) (lanes plain more others : ℕ) → lanes ≡ more → plain ≡ others → Fills Filled o later s lanes plain → Fills Filled o later s more others
fills_counted Filled o later s lanes plain more others one other fills = subst (λ n. Fills Filled o later s n others) one (subst (λ n. Fills Filled o later s lanes n) other fills)

-- where no value is open both have computed as many
pub none_filled_apart : (Filled : Spot → Type 0) (o later : Open) (s : ValueState) (lanes plain : ℕ) → SharesNothing (values_of o) → Fills Filled o later s lanes plain → lanes ≡ plain
none_filled_apart Filled o later s lanes plain none fills = by fills.mine fills.theirs (λ spot has. never spot (fills.mine_settled spot has)) (λ spot has. never spot (fills.theirs_settled spot has)) fills.balance
  where
    never : (spot : Spot) → IsSettled o later spot → ⊥
    never spot is = let e : Some is.value ≡ None = sym (ap (λ x. values_of (λ c k. x) spot.0 spot.1) is.was_open) ∙ none spot.0 spot.1 in absurd (cc e)

    by : (mine theirs : List Spot) → ((spot : Spot) → Contains mine spot → ⊥) → ((spot : Spot) → Contains theirs spot → ⊥) → lanes + length theirs ≡ plain + length mine → lanes ≡ plain
    by [] [] no_mine no_theirs balance = omega (arith, balance)
    by (spot ∷ mine) theirs no_mine no_theirs balance = absurd (no_mine spot (contains_here spot mine))
    by [] (spot ∷ theirs) no_mine no_theirs balance = absurd (no_theirs spot (contains_here spot theirs))
