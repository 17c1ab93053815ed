-- Forms of a report that tell of `computed` and `found` the sums alone: results that differ in nothing else have one report.
use Rattle.std.proofs.Common.{◌≡◌, ◌≢◌, ℕ, zero, suc, ◌+◌, Bool, true, false, List, [], ◌∷◌, ◌++◌, map, length, refl, ap, sym, ◌∙◌, arith}
use Rattle.std.specs.Prelude.{codes, ◌==◌, ◌&&◌, ◌||◌, filter, not, cond, if◌then◌else◌, Some, slice_get}
use Rattle.std.proofs.lemmas.List.Sums.{sum_by-cons}
use Rattle.std.specs.List.{count_by, flat_map, list_any, slice_index_or, sum_by}
use Rattle.ext_ids.specs.Grammar.{Pair}
use Rattle.ext_tree.specs.Trees.{Id, children_of, id_at}
use Rattle.ext_lifecycle.specs.FaultTexts.{NodeOutcome}
use Rattle.ext_lifecycle.specs.declared.status.Status.TheVariants as statuses
use Rattle.ext_report.specs.declared.extra.Extra.{Extra}
use Rattle.ext_report.specs.declared.form.ReportForm.{ReportForm}
use Rattle.ext_report.specs.declared.form.ReportForm.TheVariants as forms
use Rattle.ext_report.specs.Forms.{report_in}
use Rattle.ext_report.specs.JunitCases.{suite_name}
use Rattle.ext_report.specs.JunitXml.{case_in, count_attributes, counts_where, is_case, is_left_out, junit_xml, stands_in, suite_element, suite_if_any, suite_time, suites_below}
use Rattle.ext_report.specs.Report.{any_failed, counts_line, counts_of, is_status, line_of, lines_of, outcome_part, report_of, sums_line, sums_of}
use Rattle.ext_report.specs.TerminalLines.{apart, containers_line, containers_with, each_line, line_if_fault, line_unless_fault, shown_counts, terminal_of}
use Rattle.ext_report.specs.TreeLines.{depth_first, tree_head, tree_line, tree_of}
use Rattle.ext_run.specs.OneReports.{tells_each}

-- a result without the counts of what it computed and found
abbrev pub bare : NodeOutcome → NodeOutcome
bare r = record r { computed = 0; found = 0 }

-- ---- what reads neither is the same of bare results

module _ {X : Type 0} (f : NodeOutcome → List X) (same : (r : NodeOutcome) → f (bare r) ≡ f r) where
  all_bare : (rs : List NodeOutcome) → flat_map f (map bare rs) ≡ flat_map f rs
  all_bare [] = refl
  all_bare (r ∷ rs) = ap (λ l. f (bare r) ++ l) (all_bare rs) ∙ ap (λ l. l ++ flat_map f rs) (same r)

module _ (f : NodeOutcome → ℕ) (same : (r : NodeOutcome) → f (bare r) ≡ f r) where
  sum_bare : (rs : List NodeOutcome) → sum_by f (map bare rs) ≡ sum_by f rs
  sum_bare [] = refl
  sum_bare (r ∷ rs) =
      let one = same r in
      let rest = sum_bare rs in
      sum_by-cons f (bare r) (map bare rs) ∙ (omega (arith, one, rest) ∙ sym (sum_by-cons f r rs))

count_bare : (p : NodeOutcome → Bool) → ((r : NodeOutcome) → p (bare r) ≡ p r) → (rs : List NodeOutcome) → count_by p (map bare rs) ≡ count_by p rs
count_bare p same rs = sum_bare (λ r. cond (p r) 1 0) (λ r. ap (λ b. cond b 1 0) (same r)) rs

any_bare : (p : NodeOutcome → Bool) → ((r : NodeOutcome) → p (bare r) ≡ p r) → (rs : List NodeOutcome) → list_any p (map bare rs) ≡ list_any p rs
any_bare p same [] = refl
any_bare p same (r ∷ rs) = λ i. same r i || any_bare p same rs i

-- ---- the parts of reports

lines_bare : (ids : List (List Pair)) (rs : List NodeOutcome) → lines_of [] ids (map bare rs) ≡ lines_of [] ids rs
lines_bare ids rs = all_bare (λ r. line_of [] (slice_index_or ids r.node []) r) (λ r. refl) rs

counts_bare : (rs : List NodeOutcome) → counts_of (map bare rs) ≡ counts_of rs
counts_bare rs = λ i. record {
  tests = count_bare (λ r. r.is_test) (λ r. refl) rs i;
  successful = count_bare (λ r. r.is_test && is_status r.status statuses.Successful) (λ r. refl) rs i;
  aborted = count_bare (λ r. r.is_test && is_status r.status statuses.Aborted) (λ r. refl) rs i;
  failed = count_bare (λ r. r.is_test && is_status r.status statuses.Failed) (λ r. refl) rs i;
  skipped = count_bare (λ r. r.is_test && is_status r.status statuses.Skipped) (λ r. refl) rs i;
}

-- the results of one node
module _ (context : ℕ) (f : NodeOutcome → List ℕ) (same : (r : NodeOutcome) → f (bare r) ≡ f r) where
  one_bare : (here : Bool) (r : NodeOutcome) (some others : List NodeOutcome) → flat_map f some ≡ flat_map f others → flat_map f (cond here (bare r ∷ some) some) ≡ flat_map f (cond here (r ∷ others) others)
  one_bare true r some others rest = ap (λ l. f (bare r) ++ l) rest ∙ ap (λ l. l ++ flat_map f others) (same r)
  one_bare false r some others rest = rest

  node_bare : (rs : List NodeOutcome) → flat_map f (filter (λ r. r.node == context) (map bare rs)) ≡ flat_map f (filter (λ r. r.node == context) rs)
  node_bare [] = refl
  node_bare (r ∷ rs) = one_bare (r.node == context) r (filter (λ o. o.node == context) (map bare rs)) (filter (λ o. o.node == context) rs) (node_bare rs)

tree_bare : (ids : List Id) (rs : List NodeOutcome) (contexts : List ℕ) → flat_map (tree_line [] ids (map bare rs)) contexts ≡ flat_map (tree_line [] ids rs) contexts
tree_bare ids rs [] = refl
tree_bare ids rs (context ∷ more) =
    ap (λ l. tree_line [] ids (map bare rs) context ++ l) (tree_bare ids rs more)
    ∙ ap (λ l. l ++ flat_map (tree_line [] ids rs) more) (node_bare context (λ r. tree_head (id_at ids context) ++ outcome_part [] r) (λ r. refl) rs)

cases_counted : (is_counted : NodeOutcome → Bool) → ((r : NodeOutcome) → is_counted (bare r) ≡ is_counted r) → (rs : List NodeOutcome) → counts_where is_counted (map bare rs) ≡ counts_where is_counted rs
cases_counted is_counted same rs = λ i. record {
  tests = count_bare is_counted same rs i;
  failures = count_bare (λ r. is_counted r && is_status r.status statuses.Failed) (λ r. ap (λ b. b && is_status r.status statuses.Failed) (same r)) rs i;
  skipped = count_bare (λ r. is_counted r && is_left_out r.status) (λ r. ap (λ b. b && is_left_out r.status) (same r)) rs i;
}

suite_bare : (ids : List Id) (rs : List NodeOutcome) (suite : ℕ) → suite_element [] [] ids (map bare rs) suite ≡ suite_element [] [] ids rs suite
suite_bare ids rs suite = λ i.
    codes "  <testsuite name=\"" ++ suite_name (id_at ids suite) ++ codes "\"" ++ suite_time [] suite
    ++ count_attributes (cases_counted (stands_in (children_of ids suite) suite) (λ r. refl) rs i)
    ++ all_bare (case_in [] [] ids suite) (λ r. refl) rs i ++ codes "  </testsuite>\n"

suite_if_bare : (ids : List Id) (rs : List NodeOutcome) (suite : ℕ) → suite_if_any [] [] ids (map bare rs) suite ≡ suite_if_any [] [] ids rs suite
suite_if_bare ids rs suite = λ i. if count_bare (stands_in (children_of ids suite) suite) (λ r. refl) rs i == 0 then [] else suite_bare ids rs suite i

suites_bare : (ids : List Id) (rs : List NodeOutcome) (n : ℕ) → suites_below [] [] ids (map bare rs) n ≡ suites_below [] [] ids rs n
unfolding suites_below
suites_bare ids rs zero = refl
suites_bare ids rs (suc n) = λ i. suites_bare ids rs n i ++ suite_if_bare ids rs n i

-- ---- the forms

-- the sums of these results are equal
abbrev SameSums : List NodeOutcome → List NodeOutcome → Type 0
SameSums here there = sums_of here ≡ sums_of there

-- where a form differs for results at most by their sums
module _ (here there : List NodeOutcome) (same : map bare here ≡ map bare there) where
  by_bare : {X : Type 0} (F : List NodeOutcome → X) → ((rs : List NodeOutcome) → F (map bare rs) ≡ F rs) → F here ≡ F there
  by_bare F bares = sym (bares here) ∙ (ap F same ∙ bares there)

  pub failed_same : any_failed here ≡ any_failed there
  failed_same = by_bare any_failed (any_bare (λ r. is_status r.status statuses.Failed) (λ r. refl))

  module _ (sums : SameSums here there) where
    pub near_form : (form : ReportForm) (ids : List Id) → tells_each form ≡ false → report_in form ids here ≡ report_in form ids there
    near_form forms.Text ids off = λ i. by_bare (lines_of [] ids) (lines_bare ids) i ++ counts_line (by_bare counts_of counts_bare i) ++ sums_line (sums i)
    near_form forms.Json ids off = absurd (cc off)
    near_form forms.Tree ids off = λ i. by_bare (λ rs. flat_map (tree_line [] ids rs) (depth_first ids)) (λ rs. tree_bare ids rs (depth_first ids)) i ++ counts_line (by_bare counts_of counts_bare i) ++ sums_line (sums i)
    near_form forms.Junit ids off = by_bare (junit_xml ids) (λ rs i.
        codes "<?xml version=\"1.0\" encoding=\"UTF-8\"?>\n<testsuites" ++ suite_time [] 0 ++ count_attributes (cases_counted is_case (λ r. refl) rs i) ++ suites_bare ids rs (length ids) i ++ codes "</testsuites>\n")
    near_form (forms.Terminal colored) ids off = λ i.
        by_bare (each_line (line_unless_fault colored) ids) (all_bare (λ r. line_unless_fault colored (slice_index_or ids r.node []) r) (λ r. refl)) i
        ++ apart (by_bare (each_line (line_if_fault colored) ids) (all_bare (λ r. line_if_fault colored (slice_index_or ids r.node []) r) (λ r. refl)) i)
        ++ shown_counts colored (by_bare counts_of counts_bare i) ++ containers_line colored (by_bare (containers_with statuses.Aborted) (count_bare (λ r. not r.is_test && is_status r.status statuses.Aborted) (λ r. refl)) i)
        (by_bare (containers_with statuses.Failed) (count_bare (λ r. not r.is_test && is_status r.status statuses.Failed) (λ r. refl)) i)

-- ---- results of two runs that differ only in who computed and who found

-- the same is told of each node but for the counts, which are equal in all for each node; and all nodes together have computed as many
module _ (here there : List NodeOutcome) (count : length here ≡ length there)
    (same : (node : ℕ) (one other : NodeOutcome) → slice_get here node ≡ Some one → slice_get there node ≡ Some other → bare one ≡ bare other)
    (counts : (node : ℕ) (one other : NodeOutcome) → slice_get here node ≡ Some one → slice_get there node ≡ Some other → one.computed + one.found ≡ other.computed + other.found)
    (computed : sum_by (λ o. o.computed) here ≡ sum_by (λ o. o.computed) there) where
  pub bare_lists : map bare here ≡ map bare there
  bare_lists = lists here there count same
    where
      lists : (here there : List NodeOutcome) → length here ≡ length there
          → ((node : ℕ) (one other : NodeOutcome) → slice_get here node ≡ Some one → slice_get there node ≡ Some other → bare one ≡ bare other) → map bare here ≡ map bare there
      lists [] [] long same = refl
      lists [] (other ∷ there) long same = absurd (omega (arith, long))
      lists (one ∷ here) [] long same = absurd (omega (arith, long))
      lists (one ∷ here) (other ∷ there) long same = λ i. same 0 one other refl refl i ∷ lists here there (omega (arith, long)) (λ node x y is also. same (suc node) x y is also) i

  both : sum_by (λ o. o.computed + o.found) here ≡ sum_by (λ o. o.computed + o.found) there
  both = sums here there count counts
    where
      f : NodeOutcome → ℕ
      f o = o.computed + o.found

      sums : (here there : List NodeOutcome) → length here ≡ length there
          → ((node : ℕ) (one other : NodeOutcome) → slice_get here node ≡ Some one → slice_get there node ≡ Some other → one.computed + one.found ≡ other.computed + other.found)
          → sum_by (λ o. o.computed + o.found) here ≡ sum_by (λ o. o.computed + o.found) there
      sums [] [] long counts = refl
      sums [] (other ∷ there) long counts = absurd (omega (arith, long))
      sums (one ∷ here) [] long counts = absurd (omega (arith, long))
      sums (one ∷ here) (other ∷ there) long counts =
          let first = counts 0 one other refl refl in
          let rest = sums here there (omega (arith, long)) (λ node x y is also. counts (suc node) x y is also) in
          let a = sum_by-cons (λ o. o.computed + o.found) one here in
          let b = sum_by-cons (λ o. o.computed + o.found) other there in
          omega (arith, first, rest, a, b)

  parted : (os : List NodeOutcome) → sum_by (λ o. o.computed + o.found) os ≡ sum_by (λ o. o.computed) os + sum_by (λ o. o.found) os
  parted [] = refl
  parted (o ∷ os) =
      let rest = parted os in
      let a = sum_by-cons (λ x. x.computed + x.found) o os in
      let b = sum_by-cons (λ x. x.computed) o os in
      let c = sum_by-cons (λ x. x.found) o os in
      omega (arith, rest, a, b, c)

  found : sum_by (λ o. o.found) here ≡ sum_by (λ o. o.found) there
  found = let a = parted here in let b = parted there in let c = both in let d = computed in omega (arith, a, b, c, d)

  pub same_sums : sums_of here ≡ sums_of there
  same_sums = λ i. record {
    computed = computed i;
    found = found i;
    closed = by_bare here there bare_lists (λ os. sum_by (λ o. o.closed) os) (sum_bare (λ o. o.closed) (λ o. refl)) i;
    close_faults = by_bare here there bare_lists (λ os. sum_by (λ o. o.close_faults) os) (sum_bare (λ o. o.close_faults) (λ o. refl)) i;
  }
