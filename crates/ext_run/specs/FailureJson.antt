-- The same for machines: in JSON, one object a line for each fault, in the order of the lines (`Failures`),
--
--     {"id":"[engine:x]/[test:a]","fault":"TEXT","call":"before_each","index":0,"of":"[engine:x]","step":1}
--     {"id":"[engine:x]","fault":"TEXT","call":"close","index":null,"of":null,"step":null}
--
-- with no space between tokens, all members in this order, and a line feed after each object. `call` is `before_all`,
-- `before_each`, `test`, `after_each`, `after_all`, or `close` for a value that could not be closed. `index` is the
-- number of a callback among those of its field, `of` the node that registered it, and `step` the step in the call. What
-- does not apply is null. `json_text` over `print` of the kit's JSON says how a text is written, and a text reads
-- back as it was. If faults were lost, a last line is
--
--     {"lost":true}
--
-- The format is not from JUnit.
use Rattle.std.specs.Prelude.{ℕ, codes, List, [], ◌∷◌, ◌++◌, string_bytes}
use Rattle.json.specs.Token.{Token, begin_object, end_object, key, null}
use Rattle.json.specs.Print.{print}
use Rattle.ext_ids.specs.Grammar.{Pair, id_text}
use Rattle.ext_lifecycle.specs.declared.call.Kind.{Kind}
use Rattle.ext_lifecycle.specs.declared.call.Kind.TheVariants as kinds
use Rattle.ext_lifecycle.specs.declared.fault_origin.FaultOrigin.{FaultOrigin}
use Rattle.ext_lifecycle.specs.declared.fault_origin.FaultOrigin.TheVariants as origins
use Rattle.ext_races.specs.RaceJson.{text_member}
use Rattle.ext_report.specs.JsonLines.{count_member}
use Rattle.ext_report.specs.JsonTexts.{json_text}
use Rattle.ext_run.specs.declared.failures.NodeFault.{NodeFault}
use Rattle.ext_tree.specs.Trees.{Id, id_at}

-- A member that does not apply.
abbrev pub null_member : List ℕ → List Token
null_member name = key name ∷ null ∷ []

-- What is no callback.
abbrev pub plain_members : List ℕ → List Token
plain_members name = text_member (codes "call") name ++ null_member (codes "index") ++ null_member (codes "of")

module _ (ids : List Id) where
  -- A callback with this number, which this node registered.
  abbrev pub callback_members : List ℕ → ℕ → ℕ → List Token
  callback_members name index from =
      text_member (codes "call") name ++ count_member (codes "index") index
      ++ text_member (codes "of") (id_text (id_at ids from))

  -- Which of a node's calls it is.
  unfoldable pub call_members : Kind → ℕ → ℕ → List Token
  call_members kinds.BeforeAll from index = callback_members (codes "before_all") index from
  call_members kinds.BeforeEach from index = callback_members (codes "before_each") index from
  call_members kinds.Test from index = plain_members (codes "test")
  call_members kinds.AfterEach from index = callback_members (codes "after_each") index from
  call_members kinds.AfterAll from index = callback_members (codes "after_all") index from

  abbrev pub origin_members : FaultOrigin → List Token
  origin_members (origins.Step call step) = call_members call.kind call.from call.index ++ count_member (codes "step") step
  origin_members origins.Close = plain_members (codes "close") ++ null_member (codes "step")

  -- The object of a fault of the node with this id.
  unfoldable pub failure_object : List Pair → NodeFault → List Token
  failure_object id fault =
      begin_object ∷ (text_member (codes "id") (id_text id) ++ text_member (codes "fault") (string_bytes fault.text)
      ++ origin_members fault.origin ++ end_object ∷ [])

  abbrev pub failure_json : List Pair → NodeFault → List ℕ
  failure_json id fault = json_text (print (failure_object id fault)) ++ codes "\n"
