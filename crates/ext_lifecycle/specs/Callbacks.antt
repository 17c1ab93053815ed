-- The callbacks of a node, in the order in which they are called. After-callbacks are called in the reverse order of
-- registration (JUnit 5 User Guide, "Wrapping Behavior of Callbacks"). Chosen here: the four kinds, that callbacks
-- around a test go from the outer contexts to the inner ones, and that callbacks are numbered. A path begins with the
-- node and ends with the root.
use Rattle.std.specs.Prelude.{ℕ, Bool, List, map, reverse, if◌then◌else◌}
use Rattle.std.specs.List.{flat_map, range_with_len}
use Rattle.ext_lifecycle.specs.declared.call.Call.{Call}
use Rattle.ext_lifecycle.specs.declared.call.Kind.{Kind}
use Rattle.ext_lifecycle.specs.declared.call.Kind.TheVariants.{BeforeAll, BeforeEach, Test, AfterEach, AfterAll}

-- The body of a test.
abbrev pub test_call : ℕ → Call
test_call node = record { kind = Test; from = node; index = 0 }

-- `registered kind node` is the number of callbacks of this kind that the node registered.
module _ (registered : Kind → ℕ → ℕ) where
  -- The callbacks of one node, in order of registration.
  abbrev pub callbacks : Kind → ℕ → List Call
  callbacks kind node =
      map (λ i. record { kind = kind; from = node; index = i }) (range_with_len 0 (registered kind node))

  -- The callbacks of the contexts on a path, outer contexts first.
  abbrev pub callbacks_on : Kind → List ℕ → List Call
  callbacks_on kind path = flat_map (callbacks kind) (reverse path)

  -- The callbacks before the body of a node with this path. Around a test they are those of all contexts on the path.
  abbrev pub befores_of : Bool → ℕ → List ℕ → List Call
  befores_of is_test node path = if is_test then callbacks_on BeforeEach path else callbacks BeforeAll node

  -- The callbacks after the body, in reverse order.
  abbrev pub afters_of : Bool → ℕ → List ℕ → List Call
  afters_of is_test node path = if is_test then reverse (callbacks_on AfterEach path)
      else reverse (callbacks AfterAll node)
