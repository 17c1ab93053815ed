-- Sets with one element more, and what is said so far.
use Rattle.std.proofs.Common.{◌≡◌, ◌+◌, ◌<◌, ℕ, zero, suc, Bool, true, false, cond, List, [], ◌∷◌, ◌∙◌, Bor, Option, Some, None, is_some, ap, arith, drop, get_or, length, map, refl, sym}
use Rattle.std.specs.Prelude.{◌==◌, ◌&&◌, ◌||◌, if◌then◌else◌}
use Rattle.std.specs.BTreeSet.{BTreeSet, UpdatesBy}
use Rattle.std.specs.Cmp.{tied_then}
use Rattle.std.specs.Cmp.Lexicographic.{slice_cmp}
use Rattle.std.specs.Ordering.{is_eq, nat_cmp, ordering_then}
use Rattle.std.specs.Str.{bytes_eq}
use Rattle.std.specs.declared.cmp.Ordering.{Ordering}
use Rattle.std.proofs.lemmas.Grind.{common_steps}
use Rattle.std.proofs.lemmas.List.{map-id}
use Rattle.std.proofs.lemmas.List.Folds.{list_any-append}
use Rattle.std.proofs.lemmas.Map.Text.{is_eq-slice_cmp}
use Rattle.ext_plan.specs.Plans.{NodeText, node_view, nodes_view}
use Rattle.ext_plan.specs.declared.plan.PlanNode.{PlanNode}
use Rattle.ext_plan.proofs.Lists.{map-drop}
use Rattle.ext_tree.specs.Trees.{Id}
use Rattle.ext_lint.specs.InnerLists.{has, has_node, has_pair, said_view}
use Rattle.ext_lint.specs.Heights.{first_numbered}
use Rattle.ext_lint.specs.Live.{is_among, path_of_test}
use Rattle.ext_lint.specs.NodeSteps.{numbered}
use Rattle.ext_lint.specs.Said.{is_said}
use Rattle.ext_lint.specs.declared.said.Said.{Said}
use Rattle.ext_lint.specs.declared.said_set.SaidSet.{SaidSet}

-- the order of pairs of a key and a text
abbrev pub pair_cmp : ℕ × Bor (List ℕ) → ℕ × Bor (List ℕ) → Ordering
pair_cmp x y = ordering_then (nat_cmp x.0 y.0) (slice_cmp nat_cmp x.1.now y.1.now)

same_number : (x y : ℕ) → is_eq (nat_cmp x y) ≡ (x == y)
same_number x y = grind (arith, common_steps)

or_at : (b x : Bool) → cond b true x ≡ (b || x)
or_at true x = refl
or_at false x = refl

-- a text under a key more
pub added : (old new : SaidSet) (key : ℕ) (text : Bor (List ℕ)) → UpdatesBy pair_cmp (pair_cmp (key, text)) old.pairs new.pairs true
    → (other : ℕ) (word : List ℕ) → has new other word ≡ ((key == other) && bytes_eq text.now word || has old other word)
added old new key text updates other word =
    let both : is_eq (ordering_then (nat_cmp key other) (slice_cmp nat_cmp text.now word)) ≡ ((key == other) && bytes_eq text.now word)
    = sym (tied_then (nat_cmp key other) (slice_cmp nat_cmp text.now word)) ∙ ap (λ b. b && is_eq (slice_cmp nat_cmp text.now word)) (same_number key other) ∙ ap (λ b. (key == other) && b) (is_eq-slice_cmp text.now word) in
    updates.0 (other, record { ref_ptr = (0, 0); now = word }) ∙ ap (λ b. cond b true (has old other word)) both ∙ or_at ((key == other) && bytes_eq text.now word) (has old other word)

-- a node more
pub added_node : (old new : BTreeSet ℕ) (node : ℕ) → UpdatesBy nat_cmp (nat_cmp node) old new true → (other : ℕ) → has_node new other ≡ ((node == other) || has_node old other)
added_node old new node updates other =
    updates.0 other ∙ ap (λ b. cond b true (has_node old other)) (same_number node other) ∙ or_at (node == other) (has_node old other)

or_swap : (a h r : Bool) → (h || (a || r)) ≡ ((a || h) || r)
or_swap a true r = grind (arith, common_steps)
or_swap a false r = grind (arith, common_steps)

or_turn : (a r h : Bool) → ((a || r) || h) ≡ (r || (a || h))
or_turn a true h = grind (arith, common_steps)
or_turn a false h = grind (arith, common_steps)

same_default : {X : Type 0} (xs : List X) (i : ℕ) (d e : X) → i < length xs → get_or xs i d ≡ get_or xs i e
same_default [] i d e less = absurd (omega (arith, less))
same_default (x ∷ xs) zero d e less = refl
same_default (x ∷ xs) (suc i) d e less = same_default xs i d e (omega (arith, less))

drop_at : {X : Type 0} (xs : List X) (i : ℕ) (d : X) → i < length xs → drop i xs ≡ get_or xs i d ∷ drop (i + 1) xs
drop_at xs i d less =
    sym (map-id (drop i xs)) ∙ map-drop (λ y. y) xs i (get_or xs i d) less (same_default xs i d (get_or xs i d) less) ∙ ap (λ ys. get_or xs i d ∷ ys) (map-id (drop (i + 1) xs))

-- ---- one after another

-- what is said of the first ones is in the set, and the others follow
pub said_more : (old new : SaidSet) (said : List Said) (i : ℕ) (d : Said) → i < length said
    → ((key : ℕ) (text : List ℕ) → has new key text ≡ (((get_or said i d).key == key) && bytes_eq (get_or said i d).text.now text || has old key text))
    → ((key : ℕ) (text : List ℕ) → is_said (map said_view said) key text ≡ (has old key text || is_said (map said_view (drop i said)) key text))
    → (key : ℕ) (text : List ℕ) → is_said (map said_view said) key text ≡ (has new key text || is_said (map said_view (drop (i + 1) said)) key text)
said_more old new said i d less adds before key text =
    let one = get_or said i d in
    before key text ∙ ap (λ xs. has old key text || is_said xs key text) (map-drop said_view said i one less (same_default said i d one less))
    ∙ or_swap ((one.key == key) && bytes_eq one.text.now text) (has old key text) (is_said (map said_view (drop (i + 1) said)) key text)
    ∙ ap (λ h. h || is_said (map said_view (drop (i + 1) said)) key text) (sym (adds key text))

-- the nodes of a list, from one on
pub nodes_more : (start old new : BTreeSet ℕ) (nodes : List ℕ) (i : ℕ) → i < length nodes
    → ((other : ℕ) → has_node new other ≡ ((get_or nodes i 0 == other) || has_node old other))
    → ((node : ℕ) → (is_among nodes node || has_node start node) ≡ (is_among (drop i nodes) node || has_node old node))
    → (node : ℕ) → (is_among nodes node || has_node start node) ≡ (is_among (drop (i + 1) nodes) node || has_node new node)
nodes_more start old new nodes i less adds before node =
    before node ∙ ap (λ xs. is_among xs node || has_node old node) (drop_at nodes i 0 less)
    ∙ or_turn (get_or nodes i 0 == node) (is_among (drop (i + 1) nodes) node) (has_node old node) ∙ ap (λ h. is_among (drop (i + 1) nodes) node || h) (sym (adds node))

-- the paths of the tests from one node on
pub tests_more : (ids : List Id) (all : Bool) (old new : BTreeSet ℕ) (nodes : List PlanNode) (i : ℕ) (one : PlanNode) (node : ℕ) → i < length nodes → one ≡ get_or nodes i one
    → has_node new node ≡ (is_among (path_of_test ids i (node_view one)) node || has_node old node)
    → all ≡ (has_node old node || is_among (numbered (path_of_test ids) i (nodes_view (drop i nodes))) node)
    → all ≡ (has_node new node || is_among (numbered (path_of_test ids) (i + 1) (nodes_view (drop (i + 1) nodes))) node)
tests_more ids all old new nodes i one node less read adds before =
    let rest = is_among (numbered (path_of_test ids) (i + 1) (nodes_view (drop (i + 1) nodes))) node in
    let path = path_of_test ids i (node_view one) in
    before ∙ ap (λ ns. has_node old node || is_among (numbered (path_of_test ids) i ns) node) (map-drop node_view nodes i one less read)
    ∙ ap (λ b. has_node old node || b) (list_any-append (λ other. other == node) path (numbered (path_of_test ids) (i + 1) (nodes_view (drop (i + 1) nodes))))
    ∙ or_swap (is_among path node) (has_node old node) rest ∙ ap (λ h. h || rest) (sym adds)

-- ---- nodes with depths

abbrev pub numbers_cmp : ℕ × ℕ → ℕ × ℕ → Ordering
numbers_cmp x y = ordering_then (nat_cmp x.0 y.0) (nat_cmp x.1 y.1)

-- a node with a depth more
pub added_pair : (old new : BTreeSet (ℕ × ℕ)) (node depth : ℕ) → UpdatesBy numbers_cmp (numbers_cmp (node, depth)) old new true
    → (other of : ℕ) → has_pair new other of ≡ ((node == other) && (depth == of) || has_pair old other of)
added_pair old new node depth updates other of =
    let both : is_eq (ordering_then (nat_cmp node other) (nat_cmp depth of)) ≡ ((node == other) && (depth == of))
    = sym (tied_then (nat_cmp node other) (nat_cmp depth of)) ∙ ap (λ b. b && is_eq (nat_cmp depth of)) (same_number node other) ∙ ap (λ b. (node == other) && b) (same_number depth of) in
    updates.0 (other, of) ∙ ap (λ b. cond b true (has_pair old other of)) both ∙ or_at ((node == other) && (depth == of)) (has_pair old other of)

with_turn : (a r d h : Bool) → ((a || r) && d || h) ≡ (r && d || (a && d || h))
with_turn true true true h = refl
with_turn true true false h = refl
with_turn true false true h = refl
with_turn true false false h = refl
with_turn false true d h = refl
with_turn false false d h = refl

-- the nodes of a list with one depth, from one on
pub pairs_more : (start old new : BTreeSet (ℕ × ℕ)) (nodes : List ℕ) (depth i : ℕ) → i < length nodes
    → ((other of : ℕ) → has_pair new other of ≡ ((get_or nodes i 0 == other) && (depth == of) || has_pair old other of))
    → ((node of : ℕ) → (is_among nodes node && (depth == of) || has_pair start node of) ≡ (is_among (drop i nodes) node && (depth == of) || has_pair old node of))
    → (node of : ℕ) → (is_among nodes node && (depth == of) || has_pair start node of) ≡ (is_among (drop (i + 1) nodes) node && (depth == of) || has_pair new node of)
pairs_more start old new nodes depth i less adds before node of =
    before node of ∙ ap (λ xs. is_among xs node && (depth == of) || has_pair old node of) (drop_at nodes i 0 less)
    ∙ with_turn (get_or nodes i 0 == node) (is_among (drop (i + 1) nodes) node) (depth == of) (has_pair old node of)
    ∙ ap (λ h. is_among (drop (i + 1) nodes) node && (depth == of) || h) (sym (adds node of))

-- ---- the first that passes

some_if : (b : Bool) (n : ℕ) (rest : Option ℕ) → is_some (if b then Some n else rest) ≡ (b || is_some rest)
some_if true n rest = refl
some_if false n rest = refl

-- one is there, from one node on
pub first_more : (passes : ℕ → NodeText → Bool) (all old new : Bool) (nodes : List PlanNode) (i : ℕ) (one : PlanNode) → i < length nodes → one ≡ get_or nodes i one
    → new ≡ (passes i (node_view one) || old)
    → all ≡ (old || is_some (first_numbered passes i (nodes_view (drop i nodes))))
    → all ≡ (new || is_some (first_numbered passes (i + 1) (nodes_view (drop (i + 1) nodes))))
first_more passes all old new nodes i one less read adds before =
    let rest = first_numbered passes (i + 1) (nodes_view (drop (i + 1) nodes)) in
    before ∙ ap (λ ns. old || is_some (first_numbered passes i ns)) (map-drop node_view nodes i one less read)
    ∙ ap (λ b. old || b) (some_if (passes i (node_view one)) i rest)
    ∙ or_swap (passes i (node_view one)) old (is_some rest) ∙ ap (λ h. h || is_some rest) (sym adds)

-- the first of the nodes from one on, where that one does not pass
pub first_passed : (passes : ℕ → NodeText → Bool) (first : Option ℕ) (nodes : List PlanNode) (i : ℕ) (one : PlanNode) → i < length nodes → one ≡ get_or nodes i one
    → first ≡ first_numbered passes i (nodes_view (drop i nodes))
    → first ≡ (if passes i (node_view one) then Some i else first_numbered passes (i + 1) (nodes_view (drop (i + 1) nodes)))
first_passed passes first nodes i one less read before = before ∙ ap (first_numbered passes i) (map-drop node_view nodes i one less read)
