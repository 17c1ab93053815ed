-- Callbacks in their order, one more at a time.
use Rattle.std.proofs.Common.{◌≡◌, ℕ, ◌+◌, ◌<◌, ◌∙◌, List, [], ◌∷◌, ◌++◌, length, take, get_or, ap, sym, append_assoc, append-nil, arith}
use Rattle.std.specs.List.{flat_map, range_with_len}
use Rattle.std.specs.Prelude.{map}
use Rattle.std.proofs.lemmas.List.{take_more}
use Rattle.std.proofs.lemmas.List.FromFn.{map-range_with_len_more}
use Rattle.std.proofs.lemmas.Grind.{flat_map-append}
use Rattle.ext_lifecycle.specs.declared.call.Call.{Call}
use Rattle.ext_lifecycle.specs.declared.call.Kind.{Kind}

abbrev pub callback : Kind → ℕ → ℕ → Call
callback kind node i = record { kind = kind; from = node; index = i }

-- one callback more of a node
pub added-callback : (kind : Kind) (node i : ℕ) (before old new : List Call) → old ≡ before ++ map (callback kind node) (range_with_len 0 i) → new ≡ old ++ callback kind node i ∷ []
    → new ≡ before ++ map (callback kind node) (range_with_len 0 (i + 1))
added-callback kind node i before old new is push =
    push ∙ ap (λ l. l ++ callback kind node i ∷ []) is ∙ append_assoc before (map (callback kind node) (range_with_len 0 i)) (callback kind node i ∷ [])
    ∙ ap (λ l. before ++ l) (sym (map-range_with_len_more (callback kind node) 0 i i (omega arith)))

-- those of one node more
pub added-node : (each : ℕ → List Call) (nodes : List ℕ) (i node : ℕ) (before old new : List Call) → (i < length nodes) × (node ≡ get_or nodes i node) → old ≡ before ++ flat_map each (take i nodes) → new ≡ old ++ each node
    → new ≡ before ++ flat_map each (take (i + 1) nodes)
added-node each nodes i node before old new at is push =
    push ∙ ap (λ l. l ++ each node) is ∙ append_assoc before (flat_map each (take i nodes)) (each node)
    ∙ ap (λ l. before ++ (flat_map each (take i nodes) ++ l)) (sym (append-nil (each node)))
    ∙ ap (λ l. before ++ l) (sym (ap (flat_map each) (take_more nodes i node at.0 ∙ ap (λ n. take i nodes ++ n ∷ []) (sym at.1)) ∙ flat_map-append each (take i nodes) (node ∷ [])))
