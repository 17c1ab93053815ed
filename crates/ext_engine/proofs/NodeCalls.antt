-- The calls of a node's caller are calls on its lane.
use Rattle.std.proofs.Common.{◌≡◌, ℕ, List, ◌∙◌, refl, subst, sym}
use Rattle.std.specs.Prelude.{Option, option_map}
use Rattle.ext_locks.specs.Sets.{HeldView}
use Rattle.ext_store.specs.Stores.{StoreView, StoreLane}
use Rattle.ext_lifecycle.specs.declared.call.Call.{Call}
use Rattle.ext_lifecycle.specs.declared.outcome.Outcome.{Outcome}
use Rattle.ext_lifecycle.specs.Lifecycle.{MakesAll, MakesBefores, MakesCalls}
use Rattle.ext_engine.specs.declared.node.node_calls.NodeCaller.{NodeCaller}
use Rattle.ext_engine.proofs.NodesSeen.{all-seen, befores-seen, calls-seen}

module _ {R V S : Type 0} (gives : S → StoreView → ℕ → Call → Option HeldView → StoreLane V → Outcome → StoreLane V → Type 0) where
  -- as the caller's own relation has it
  abbrev pub makes_on : NodeCaller R V S → Call → Outcome → NodeCaller R V S → Type 0
  makes_on c call o d =
      (d.suite ≡ c.suite) × (d.store ≡ c.store) × (d.node ≡ c.node) × (d.held ≡ c.held)
      × gives c.suite.now c.store.now c.node call (option_map (λ h. h.now) c.held) c.lane.now o d.lane.now

  -- as it is on the lane of a caller
  abbrev pub makes_by : NodeCaller R V S → StoreLane V → Call → Outcome → StoreLane V → Type 0
  makes_by c a call o b = gives c.suite.now c.store.now c.node call (option_map (λ h. h.now) c.held) a o b

  -- both callers are of one node
  pub record IsSame (c d : NodeCaller R V S) : Type 0 where
    pub suite : d.suite ≡ c.suite
    pub store : d.store ≡ c.store
    pub node : d.node ≡ c.node
    pub held : d.held ≡ c.held

  abbrev pub lane_of : NodeCaller R V S → StoreLane V
  lane_of c = c.lane.now

  itself : (c : NodeCaller R V S) → IsSame c c
  itself c = record { suite = refl; store = refl; node = refl; held = refl }

  moved : (c : NodeCaller R V S) (s : NodeCaller R V S) (call : Call) (o : Outcome) (t : NodeCaller R V S) → IsSame c s → makes_on s call o t → IsSame c t × makes_by c (lane_of s) call o (lane_of t)
  moved c s call o t p m =
      let a = subst (λ x. gives x.now s.store.now s.node call (option_map (λ y. y.now) s.held) s.lane.now o t.lane.now) p.suite m.4 in
      let b = subst (λ x. gives c.suite.now x.now s.node call (option_map (λ y. y.now) s.held) s.lane.now o t.lane.now) p.store a in
      let d = subst (λ x. gives c.suite.now c.store.now x call (option_map (λ y. y.now) s.held) s.lane.now o t.lane.now) p.node b in
      let e = subst (λ x. gives c.suite.now c.store.now c.node call (option_map (λ y. y.now) x) s.lane.now o t.lane.now) p.held d in
      (record { suite = m.0 ∙ p.suite; store = m.1 ∙ p.store; node = m.2 ∙ p.node; held = m.3 ∙ p.held }, e)

  pub befores_on : (calls : List Call) (c : NodeCaller R V S) (os : List Outcome) (d : NodeCaller R V S) → MakesBefores makes_on calls c os d → IsSame c d × MakesBefores (makes_by c) calls (lane_of c) os (lane_of d)
  befores_on calls c os d m = befores-seen makes_on (makes_by c) lane_of (IsSame c) (moved c) calls c os d (itself c) m

  pub afters_on : (calls : List Call) (c : NodeCaller R V S) (os : List Outcome) (d : NodeCaller R V S) → MakesAll makes_on calls c os d → IsSame c d × MakesAll (makes_by c) calls (lane_of c) os (lane_of d)
  afters_on calls c os d m = all-seen makes_on (makes_by c) lane_of (IsSame c) (moved c) calls c os d (itself c) m

  pub calls_on : (befores : List Call) (body : Call) (afters : List Call) (c : NodeCaller R V S) (os : List Outcome) (d : NodeCaller R V S) → MakesCalls makes_on befores body afters c os d
      → IsSame c d × MakesCalls (makes_by c) befores body afters (lane_of c) os (lane_of d)
  calls_on befores body afters c os d m = calls-seen makes_on (makes_by c) lane_of (IsSame c) (moved c) befores body afters c os d (itself c) m

-- what holds of a value holds of one that is equal to it: of the lane that is left, and of the lane that the caller left
pub at_same : {X : Type 0} (P : X → Type 0) (x y : X) → x ≡ y → P y → P x
at_same P x y same holds = subst P (sym same) holds
