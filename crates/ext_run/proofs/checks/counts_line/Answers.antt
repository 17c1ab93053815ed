use Rattle.std.proofs.Common.{rules, ℕ, List, ◌≡◌, ◌∙◌, ◌<◌, ◌≤◌, ap, append_assoc, arith, length, subst, sym}
use Rattle.std.specs.Prelude.{IfOk, IfSome, Ok, string_bytes, codes, ◌++◌, if◌then◌else◌}
use Rattle.std.specs.Fmt.{decimal}
use Rattle.std.proofs.lemmas.Bool.{le-leb, lt-leb}
use Rattle.std.proofs.lemmas.List.{length-map}
use Rattle.ext_plan_reading.specs.Plans.{PlanText, node_view, nodes_view, plan_view}
use Rattle.ext_races.specs.Touches.{keys_named}
use Rattle.ext_run.specs.Checks.{counts_line, key_count_text, test_count}
use Rattle.ext_run.proofs.checks.counts_line.Goals as goal

-- the line with these numbers, and this text in place of the number of keys
abbrev line_with : ℕ → ℕ → List ℕ → ℕ → List ℕ
line_with nodes tests keys places = codes "ok, " ++ decimal nodes ++ codes " nodes, " ++ decimal tests ++ codes " tests, " ++ keys ++ codes " of " ++ decimal places ++ codes " keys\n"

is_line : (plan : PlanText) (nodes tests : ℕ) (keys : List ℕ) → nodes ≡ length plan.nodes → tests ≡ test_count plan.nodes → keys ≡ key_count_text (length (keys_named plan)) → line_with nodes tests keys plan.key_places ≡ counts_line plan
unfolding counts_line
is_line plan nodes tests keys e f g =
    ap (λ n. line_with n tests keys plan.key_places) e ∙ ap (λ t. line_with (length plan.nodes) t keys plan.key_places) f ∙ ap (λ k. line_with (length plan.nodes) (test_count plan.nodes) k plan.key_places) g

few_text : (count : ℕ) → count ≤ 1024 → decimal count ≡ key_count_text count
few_text count few = sym (ap (λ b. if b then decimal count else codes "more than 1024") (le-leb count 1024 few))

many_text : (count : ℕ) → 1024 < count → codes "more than 1024" ≡ key_count_text count
many_text count many = sym (ap (λ b. if b then decimal count else codes "more than 1024") (lt-leb count 1024 many))

pub returns-in-Some : goal.returns-in-Some
returns-in-Some c =
    let plan = c.args.plan.now in
    let node_count = length-map plan.nodes.items node_view in
    let all_nodes = plan.nodes.ok.0 in
    let nodes : c.len-nodes.result ≡ length (nodes_view plan.nodes.items) = omega (arith, c.len-nodes.ensures, all_nodes, node_count) in
    let tests = c.test_count-tests.ensures ∙ ap (λ ns. test_count (nodes_view ns)) c.as_slice.ensures.value in
    let keys : c.in-Some.keys ≡ length (keys_named (plan_view plan)) = subst (λ o. IfSome o (λ n. n ≡ length (keys_named (plan_view plan)))) c.in-Some.is c.in_ok-keys.ensures.count in
    let few : c.in-Some.keys ≤ 1024 = subst (λ o. IfSome o (λ n. n ≤ 1024)) c.in-Some.is c.in_ok-keys.ensures.few in
    let text : IfOk c.format.result (λ line. string_bytes line ≡ line_with c.len-nodes.result c.test_count-tests.result (decimal c.in-Some.keys) plan.key_places) = search (rules, append_assoc) in
    subst (λ l. IfOk c.format.result (λ line. string_bytes line ≡ l)) (is_line (plan_view plan) c.len-nodes.result c.test_count-tests.result (decimal c.in-Some.keys) nodes tests (few_text c.in-Some.keys few ∙ ap key_count_text keys)) text

pub returns-in-None : goal.returns-in-None
returns-in-None c =
    let plan = c.args.plan.now in
    let node_count = length-map plan.nodes.items node_view in
    let all_nodes = plan.nodes.ok.0 in
    let nodes : c.len-nodes.result ≡ length (nodes_view plan.nodes.items) = omega (arith, c.len-nodes.ensures, all_nodes, node_count) in
    let tests = c.test_count-tests.ensures ∙ ap (λ ns. test_count (nodes_view ns)) c.as_slice.ensures.value in
    let many : 1024 < length (keys_named (plan_view plan)) = c.in_ok-keys.ensures.many (ap Ok c.in-None.is) in
    let text : IfOk c.format-in-None.result (λ line. string_bytes line ≡ line_with c.len-nodes.result c.test_count-tests.result (codes "more than 1024") plan.key_places) = search (rules, append_assoc) in
    subst (λ l. IfOk c.format-in-None.result (λ line. string_bytes line ≡ l)) (is_line (plan_view plan) c.len-nodes.result c.test_count-tests.result (codes "more than 1024") nodes tests (many_text (length (keys_named (plan_view plan))) many)) text
