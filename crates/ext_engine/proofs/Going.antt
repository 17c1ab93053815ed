-- Where calls let lanes go on, so does the run of a tree.
use Rattle.std.proofs.Common.{◌≡◌, ℕ, List, ap, refl, sym, subst, ◌∙◌}
use Rattle.std.specs.Prelude.{Option}
use Rattle.std.specs.List.{AllZip, FoldsTo}
use base.Growing.{prefix_refl, prefix_trans}
use Rattle.ext_history.proofs.Composed.{seen_goes_on}
use Rattle.ext_history.specs.Histories.{seen_by}
use Rattle.ext_lifecycle.specs.declared.call.Call.{Call}
use Rattle.ext_lifecycle.specs.declared.outcome.Outcome.{Outcome}
use Rattle.ext_lifecycle.specs.Lifecycle.{MakesAll, MakesBefores, MakesCalls}
use Rattle.ext_tree.proofs.KeyPlacing.{keeps_all, keeps_both}
use Rattle.ext_cells.specs.Lanes.{Lane}
use Rattle.ext_values.specs.Known.{Known, KeepsKnown}
use Rattle.ext_store.specs.Stores.{StoreView, StoreLane}
use Rattle.ext_closing.specs.Lanes.{OnlyFirstSteps, first_lane}
use Rattle.ext_closing.specs.Sealing.{MakesSeals}
use Rattle.ext_locks.specs.Sets.{HeldView}
use Rattle.ext_engine.specs.Meeting.{OnlyMeets}
use Rattle.ext_engine.specs.Order.{AllGoOn, CallsGoOn, LaneGoesOn, NodesGoOn}
use Rattle.ext_engine.specs.TreeRun.{Ran, TreeSetting, Lanes, BodyRun, OnFirst, MakesOn}
use Rattle.ext_engine.proofs.Grown.{Entry}
use Rattle.ext_engine.proofs.Relates.{all_relate, all_relate_next, all_relate_same, befores_relate, calls_relate, close_relates, dealt_relates, first_relates, met_relate, tree_relates, turn_relates}

-- ---- lanes

known_same : {X : Type 0} (a b : List (Known X)) → b ≡ a → KeepsKnown a b
known_same a b is = subst (λ l. KeepsKnown a l) (sym is) (λ number value known. known)

module _ {V : Type 0} where
  pub goes_same : (a : StoreLane V) → LaneGoesOn a a
  goes_same a = record { number = refl; seen = prefix_refl (seen_by a.cells.view); known = λ number value known. known; faults = λ number fault known. known; keys = keeps_all a.keys }

  pub goes_then : (a b c : StoreLane V) → LaneGoesOn a b → LaneGoesOn b c → LaneGoesOn a c
  goes_then a b c one two = record {
    number = two.number ∙ one.number;
    seen = prefix_trans (seen_by a.cells.view) (seen_by b.cells.view) (seen_by c.cells.view) one.seen two.seen;
    known = λ number value known. two.known number value (one.known number value known);
    faults = λ number fault known. two.faults number fault (one.faults number fault known);
    keys = keeps_both a.keys b.keys c.keys one.keys two.keys;
  }

  pub goes_met : (store : StoreView) (a b : StoreLane V) → OnlyMeets store a b → LaneGoesOn a b
  goes_met store a b met = record { number = ap (λ v. v.number) met.calls.fronts; seen = seen_goes_on met.calls; known = known_same a.known b.known met.known; faults = known_same a.faults b.faults met.faults; keys = met.keys }

  pub goes_sealed : (store : StoreView) (context : ℕ) (a : StoreLane V) (cells : Lane) → MakesSeals store context a.cells cells → LaneGoesOn a (record { cells = cells; known = a.known; faults = a.faults; keys = a.keys })
  goes_sealed store context a cells made =
      record { number = ap (λ v. v.number) made.calls.fronts; seen = seen_goes_on made.calls; known = λ number value known. known; faults = λ number fault known. known; keys = keeps_all a.keys }

  pub all_same : (lanes : List (StoreLane V)) → AllGoOn lanes lanes
  all_same lanes = all_relate_same LaneGoesOn goes_same goes_then lanes

  pub all_then : (xs ys zs : List (StoreLane V)) → AllGoOn xs ys → AllGoOn ys zs → AllGoOn xs zs
  all_then xs ys zs one two = all_relate_next LaneGoesOn goes_same goes_then xs ys zs one two

  pub first_goes : (R : StoreLane V → StoreLane V → Type 0) (xs ys : List (StoreLane V)) → ((a b : StoreLane V) → R a b → LaneGoesOn a b) → OnFirst R xs ys → AllGoOn xs ys
  first_goes R xs ys go on = first_relates LaneGoesOn goes_same goes_then R xs ys go on

-- ---- the run of a tree

module _ {V A : Type 0} (t : TreeSetting V A) (moves : CallsGoOn t.call_gives) where
  pub all_met : (xs ys : List (StoreLane V)) → AllZip (OnlyMeets t.store) xs ys → AllGoOn xs ys
  all_met xs ys met = met_relate t LaneGoesOn goes_same goes_then moves (goes_met t.store) (goes_sealed t.store) xs ys met

  pub close_goes : (context : ℕ) (xs ys : List (StoreLane V)) → OnlyFirstSteps xs ys → MakesSeals t.store context (first_lane t.store xs) (first_lane t.store ys) → AllGoOn xs ys
  close_goes context xs ys steps seals = close_relates t LaneGoesOn goes_same goes_then moves (goes_met t.store) (goes_sealed t.store) context xs ys steps seals

  module _ (node : ℕ) (held : Option HeldView) where
    pub all_go : (calls : List Call) (a : StoreLane V) (outcomes : List Outcome) (b : StoreLane V) → MakesAll (MakesOn t node held) calls a outcomes b → LaneGoesOn a b
    all_go calls a outcomes b made = all_relate t LaneGoesOn goes_same goes_then moves (goes_met t.store) (goes_sealed t.store) node held calls a outcomes b made

    pub befores_go : (calls : List Call) (a : StoreLane V) (outcomes : List Outcome) (b : StoreLane V) → MakesBefores (MakesOn t node held) calls a outcomes b → LaneGoesOn a b
    befores_go calls a outcomes b made = befores_relate t LaneGoesOn goes_same goes_then moves (goes_met t.store) (goes_sealed t.store) node held calls a outcomes b made

    pub calls_go : (befores : List Call) (body : Call) (afters : List Call) (a : StoreLane V) (outcomes : List Outcome) (b : StoreLane V) → MakesCalls (MakesOn t node held) befores body afters a outcomes b → LaneGoesOn a b
    calls_go befores body afters a outcomes b made = calls_relate t LaneGoesOn goes_same goes_then moves (goes_met t.store) (goes_sealed t.store) node held befores body afters a outcomes b made

  module _ (Run : ℕ → Lanes V → List Ran → Lanes V → Type 0) (at : (c : ℕ) (s : Lanes V) (below : List Ran) (u : Lanes V) → Run c s below u → AllGoOn s.first u.first) where
    pub turn_goes : (done : List Entry) (s u : Lanes V) → FoldsTo (λ s d u. Run d.0 s d.1 u) s done u → AllGoOn s.first u.first
    turn_goes done s u run = turn_relates t LaneGoesOn goes_same goes_then moves (goes_met t.store) (goes_sealed t.store) Run at done s u run

    pub children_dealt_go : (node : ℕ) (before : Lanes V) (below : List Ran) (after : Lanes V) (b : BodyRun t Run node before below after) → AllGoOn b.forked b.between.first
    children_dealt_go node before below after b = dealt_relates t LaneGoesOn goes_same goes_then moves (goes_met t.store) (goes_sealed t.store) Run at node before below after b

  pub tree_goes : NodesGoOn t
  tree_goes depth node before ran after run = tree_relates t LaneGoesOn goes_same goes_then moves (goes_met t.store) (goes_sealed t.store) depth node before ran after run
