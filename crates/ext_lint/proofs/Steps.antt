-- The notes of steps, one after another.
use Rattle.std.proofs.Common.{◌≡◌, ◌+◌, ◌<◌, ℕ, Bool, true, false, List, [], ◌∷◌, ◌++◌, ◌∙◌, Option, Some, None, ap, append_assoc, append-nil, arith, drop, get_or, length, map, refl, sym, take}
use Rattle.std.specs.Prelude.{◌&&◌, ◌||◌, not, if◌then◌else◌}
use Rattle.std.specs.List.{flat_map, list_any}
use Rattle.std.specs.Str.{bytes_eq}
use Rattle.std.specs.Prelude.{◌==◌}
use Rattle.std.proofs.lemmas.Grind.{common_steps, flat_map-append}
use Rattle.std.proofs.lemmas.List.{take-map}
use Rattle.std.proofs.lemmas.List.Folds.{list_any-append}
use Rattle.ext_plan.specs.Plans.{PlanText}
use Rattle.ext_plan.proofs.Lists.{map-drop}
use Rattle.ext_races.proofs.Lists.{map-take_more}
use Rattle.ext_lint.specs.Notes.{NoteText, asked_by, idle_if, is_met_by, missing, missing_if, notes_at, notes_of_step, step_notes, stored_by}
use Rattle.ext_lint.specs.NodeSteps.{NodeStepText, numbered, node_step_view, node_steps}
use Rattle.ext_lint.specs.Said.{SaidText, is_said, keys_said, asks, said_if, said_of}
use Rattle.ext_lint.specs.declared.node_step.NodeStep.{NodeStep}

-- only what was asked for decides, however it is found
same_missing : (plan : PlanText) (f g : ℕ → List ℕ → Bool) → ((key : ℕ) (text : List ℕ) → f key text ≡ g key text) → (p : NodeStepText) (said : Option SaidText)
    → missing_if plan f p said ≡ missing_if plan g p said
same_missing plan f g same p None = refl
same_missing plan f g same p (Some s) =
    ap (λ b. if asks s.word && not (b || is_met_by (stored_by plan (node_steps plan)) s) then missing p s ∷ [] else []) (same s.key s.text)

same_notes : (plan : PlanText) (f g : ℕ → List ℕ → Bool) → ((key : ℕ) (text : List ℕ) → f key text ≡ g key text) → (p : NodeStepText) → notes_of_step plan f p ≡ notes_of_step plan g p
same_notes plan f g same p = ap (λ ns. idle_if plan p ++ ns) (same_missing plan f g same p (said_of plan.keys (keys_said plan) p.step))

-- the notes of one step more
pub notes_more : (plan : PlanText) (start now new : List NoteText) (has : ℕ → List ℕ → Bool) (steps : List NodeStep) (i : ℕ) (one : NodeStep) → i < length steps → one ≡ get_or steps i one
    → map node_step_view steps ≡ node_steps plan
    → new ≡ now ++ notes_of_step plan has (node_step_view one)
    → ((key : ℕ) (text : List ℕ) → has key text ≡ is_said (asked_by plan (map node_step_view (take i steps))) key text)
    → start ++ step_notes plan ≡ now ++ numbered (notes_at plan) i (map node_step_view (drop i steps))
    → start ++ step_notes plan ≡ new ++ numbered (notes_at plan) (i + 1) (map node_step_view (drop (i + 1) steps))
notes_more plan start now new has steps i one less read all adds asked before =
    let p = node_step_view one in
    let rest = numbered (notes_at plan) (i + 1) (map node_step_view (drop (i + 1) steps)) in
    let first : is_said (asked_by plan (take i (node_steps plan))) ≡ is_said (asked_by plan (map node_step_view (take i steps)))
    = ap (λ ps. is_said (asked_by plan ps)) (ap (take i) (sym all) ∙ take-map node_step_view i steps) in
    let notes : notes_at plan i p ≡ notes_of_step plan has p
    = ap (λ f. notes_of_step plan f p) first ∙ sym (same_notes plan has (is_said (asked_by plan (map node_step_view (take i steps)))) asked p) in
    before ∙ ap (λ ps. now ++ numbered (notes_at plan) i ps) (map-drop node_step_view steps i one less read)
    ∙ ap (λ ns. now ++ (ns ++ rest)) notes ∙ sym (append_assoc now (notes_of_step plan has p) rest) ∙ ap (λ ns. ns ++ rest) (sym adds)

or_turn : (a b : Bool) → (a || b) ≡ (b || a)
or_turn true b = grind (arith, common_steps)
or_turn false b = grind (arith, common_steps)

-- what one step more asks for
pub asked_more : (plan : PlanText) (old new : ℕ → List ℕ → Bool) (steps : List NodeStep) (i : ℕ) (one : NodeStep) → i < length steps → one ≡ get_or steps i one
    → ((key : ℕ) (text : List ℕ) → new key text ≡ (is_said (said_if asks (said_of plan.keys (keys_said plan) (node_step_view one).step)) key text || old key text))
    → ((key : ℕ) (text : List ℕ) → old key text ≡ is_said (asked_by plan (map node_step_view (take i steps))) key text)
    → (key : ℕ) (text : List ℕ) → new key text ≡ is_said (asked_by plan (map node_step_view (take (i + 1) steps))) key text
asked_more plan old new steps i one less read adds before key text =
    let by : NodeStepText → List SaidText = λ p. said_if asks (said_of plan.keys (keys_said plan) p.step) in
    let so_far = map node_step_view (take i steps) in
    let p = node_step_view one in
    let whole : asked_by plan (map node_step_view (take (i + 1) steps)) ≡ flat_map by so_far ++ by p
    = ap (flat_map by) (map-take_more node_step_view steps i one less read) ∙ flat_map-append by so_far (p ∷ []) ∙ ap (λ ss. flat_map by so_far ++ ss) (append-nil (by p)) in
    adds key text ∙ ap (λ b. is_said (by p) key text || b) (before key text) ∙ or_turn (is_said (by p) key text) (is_said (flat_map by so_far) key text)
    ∙ sym (list_any-append (λ s. (s.key == key) && bytes_eq s.text text) (flat_map by so_far) (by p)) ∙ sym (ap (λ ss. is_said ss key text) whole)
