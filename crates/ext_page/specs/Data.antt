-- A run as JSON. An object:
--
--     {"version":1,"run":{..},"locks":[..],"nodes":[..],"attempts":[..],"faults":[..],"waits":[..],"values":[..]}
--
-- with the members of `run` and the rows below in this order, and no space between tokens. A row is an array. Places
-- and times are as in `RunData`; a status is 0 successful, 1 failed, 2 aborted, 3 skipped; what is not there is null.
use Rattle.std.specs.Prelude.{ℕ, Bool, true, false, codes, string_bytes, option_map, String, List, [], ◌∷◌, ◌++◌, Option, Some, None}
use Rattle.std.specs.List.{flat_map}
use Rattle.std.specs.Fmt.{decimal}
use Rattle.std.specs.declared.alloc.Global.{Global}
use Rattle.json.specs.Token.{Token, begin_object, end_object, begin_array, end_array, key, string, number, null}
use Rattle.json.specs.Print.{print}
use Rattle.ext_lifecycle.specs.declared.status.Status.{Status}
use Rattle.ext_lifecycle.specs.declared.status.Status.TheVariants as statuses
use Rattle.ext_page.specs.declared.run.Attempt.{Attempt}
use Rattle.ext_page.specs.declared.run.Closing.{Closing}
use Rattle.ext_page.specs.declared.run.FaultRow.{FaultRow}
use Rattle.ext_page.specs.declared.run.Node.{Node}
use Rattle.ext_page.specs.declared.run.RunData.{RunData}
use Rattle.ext_page.specs.declared.run.RunHead.{RunHead}
use Rattle.ext_page.specs.declared.run.SharedValue.{SharedValue}
use Rattle.ext_page.specs.declared.run.Wait.{Wait}
use Rattle.ext_page.specs.declared.run.Waited.{Waited}
use Rattle.ext_page.specs.declared.run.Waited.TheVariants as waited
use Rattle.ext_page.specs.Ascii.{ascii}

-- ---- fields

abbrev pub count : ℕ → List Token
count n = number (decimal n) ∷ []

abbrev pub optional_count : Option ℕ → List Token
optional_count None = null ∷ []
optional_count (Some n) = count n

abbrev pub optional_text : Option (List ℕ) → List Token
optional_text None = null ∷ []
optional_text (Some text) = string text ∷ []

-- True is 1, and false 0.
abbrev pub flag : Bool → List Token
flag true = count 1
flag false = count 0

abbrev pub status : Status → List Token
status statuses.Successful = count 0
status statuses.Failed = count 1
status statuses.Aborted = count 2
status statuses.Skipped = count 3

abbrev pub row : List Token → List Token
row fields = begin_array ∷ (fields ++ end_array ∷ [])

-- ---- rows

abbrev pub text_of : Option (String Global) → Option (List ℕ)
text_of = option_map (λ text. string_bytes text)

abbrev pub lock_tokens : String Global → List Token
lock_tokens name = string (string_bytes name) ∷ []

-- Parent, name, whether it is a test, status.
unfoldable pub node_tokens : Node → List Token
node_tokens n = row (optional_count n.parent ++ (string (string_bytes n.name) ∷ (flag n.is_test ++ status n.status)))

-- Node, lane, begun, ended, status.
unfoldable pub attempt_tokens : Attempt → List Token
attempt_tokens a = row (count a.node ++ (count a.lane ++ (count a.begun ++ (count a.ended ++ status a.status))))

-- Node, attempt, place, text.
unfoldable pub fault_tokens : FaultRow → List Token
fault_tokens f = row (count f.node ++ (optional_count f.attempt ++ string (string_bytes f.place) ∷ string (string_bytes f.text) ∷ []))

-- Its kind, 0 for a lock and 1 for a value, and its place.
abbrev pub waited_tokens : Waited → List Token
waited_tokens (waited.ForLock at) = count 0 ++ optional_count at
waited_tokens (waited.ForValue at) = count 1 ++ count at

-- Lane, node, begun, ended, kind, what, by.
unfoldable pub wait_tokens : Wait → List Token
wait_tokens w = row (count w.lane ++ (count w.node ++ (count w.begun ++ (count w.ended ++ (waited_tokens w.waited ++ optional_count w.by)))))

abbrev pub closing_tokens : Option Closing → List Token
closing_tokens None = null ∷ null ∷ null ∷ []
closing_tokens (Some c) = count c.lane ++ (count c.begun ++ count c.ended)

-- Key, context, maker, lane, begun, ended, fault, found, lane and times of the close, its fault.
unfoldable pub value_tokens : SharedValue → List Token
value_tokens v = row (string (string_bytes v.key) ∷ (count v.context ++ (count v.maker ++ (count v.lane
    ++ (optional_count v.begun ++ (count v.ended ++ (optional_text (text_of v.fault) ++ (count v.found
    ++ (closing_tokens v.closing ++ optional_text (text_of v.close_fault))))))))))

-- ---- the whole

unfoldable pub text_member : List ℕ → Option (List ℕ) → List Token
text_member name text = key name ∷ optional_text text

unfoldable pub size_members : ℕ → ℕ → List Token
size_members wall lanes = key (codes "wall") ∷ (count wall ++ key (codes "lanes") ∷ count lanes)

unfoldable pub fact_members : RunHead → List Token
fact_members h = size_members h.wall h.lanes ++ text_member (codes "note") (text_of h.note)

unfoldable pub head_tokens : RunHead → List Token
head_tokens h = key (codes "run") ∷ begin_object ∷ key (codes "name") ∷ string (string_bytes h.name) ∷ (fact_members h ++ end_object ∷ [])

-- A member whose value is a list of these rows.
abbrev pub list : List ℕ → List Token → List Token
list name rows = key name ∷ begin_array ∷ (rows ++ end_array ∷ [])

unfoldable pub tree_lists : RunData → List Token
tree_lists d = list (codes "locks") (flat_map lock_tokens d.locks.items) ++ list (codes "nodes") (flat_map node_tokens d.nodes.items)

unfoldable pub call_lists : RunData → List Token
call_lists d = list (codes "attempts") (flat_map attempt_tokens d.attempts.items) ++ list (codes "faults") (flat_map fault_tokens d.faults.items)

unfoldable pub shared_lists : RunData → List Token
shared_lists d = list (codes "waits") (flat_map wait_tokens d.waits.items) ++ list (codes "values") (flat_map value_tokens d.values.items)

unfoldable pub run_tokens : RunData → List Token
run_tokens d = begin_object ∷ key (codes "version") ∷ (count 1 ++ (head_tokens d.head ++ (tree_lists d
    ++ (call_lists d ++ (shared_lists d ++ end_object ∷ [])))))

-- As it stands in a page.
unfoldable pub run_text : RunData → List ℕ
run_text d = ascii (print (run_tokens d))
