-- What a step touches, by the act that it is.
use Rattle.std.proofs.Common.{◌≡◌, ℕ, ◌*◌, ◌<◌, Bool, true, false, List, [], ◌∷◌, Option, Some, None, IfSome, drop, take, ◌+◌, refl, ap, sym, subst, ◌∙◌, arith, All}
use Rattle.std.proofs.Math.Nat.{mul-le-mul_right}
use Rattle.std.proofs.lemmas.List.Elements.{All-drop, All-take, All-weaker}
use Rattle.ext_tree.specs.Keys.{KeyValue}
use Rattle.ext_tree.specs.Traits.{key_eq}
use Rattle.ext_tree.specs.Trees.{Id}
use Rattle.std.specs.Prelude.{◌&&◌, if◌then◌else◌}
use Rattle.ext_plan.specs.Plans.{KeyText, StepText}
use Rattle.ext_plan.specs.StoreKeys.{is_there, key_of_step, number_of_key}
use Rattle.ext_plan.specs.StepWords.{changes, gives_value}
use Rattle.ext_races.specs.Acts.{ActText, act_of}
use Rattle.ext_races.specs.InnerGroups.{HasGroups}
use Rattle.ext_races.specs.MadeSteps.{MadeText, path_of}
use Rattle.ext_races.specs.Touches.{ComputeText, below_act, below_computes, found_above, key_of_act, key_of_made, reach, touches_along, touches_of, touches_of_act}

pub touches_are : (ids : List Id) (declared : List KeyText) (keys : List KeyValue) (above : ℕ → KeyValue → Option ComputeText) (made : MadeText) (act : ActText) (number : ℕ) (found : Option ComputeText) (path : List ℕ)
    → act_of made.step ≡ Some act → number ≡ number_of_key keys (key_of_step declared act.key) → found ≡ found_above declared made.before (above made.node) act
    → path ≡ drop act.up (reach declared made.before (path_of ids made.node) act) → touches_along made.node number act found path ≡ touches_of ids declared keys above made
touches_are ids declared keys above made act number found path is numbered same along =
    ap (λ n. touches_along made.node n act found path) numbered ∙ ap (λ f. touches_along made.node (number_of_key keys (key_of_step declared act.key)) act f path) same
    ∙ ap (touches_along made.node (number_of_key keys (key_of_step declared act.key)) act (found_above declared made.before (above made.node) act)) along
    ∙ ap (touches_of_act declared keys made.node (path_of ids made.node) made.before (above made.node)) (sym is)

pub key_there : (declared : List KeyText) (keys : List KeyValue) (made : MadeText) (act : ActText) → act_of made.step ≡ Some act → IfSome (key_of_made declared made) (λ key. is_there keys key ≡ true)
    → is_there keys (key_of_step declared act.key) ≡ true
key_there declared keys made act is there = subst (λ a. IfSome (key_of_act declared a) (λ key. is_there keys key ≡ true)) is there

pub has_groups : (keys count nodes up : ℕ) (path along : List ℕ) → count ≡ nodes * (keys + 1) → All (λ c. c < nodes) path → along ≡ drop up path → All (HasGroups keys count) along
has_groups keys count nodes up path along long within is =
    subst (All (HasGroups keys count)) (sym is) (All-drop (HasGroups keys count) up path (All-weaker (λ c. c < nodes) (HasGroups keys count) (λ c less. let more = mul-le-mul_right (keys + 1) less in omega (arith, more, long)) path within))

-- ---- what is true of all contexts of a path is true of those that an act reaches

module _ (P : ℕ → Type 0) where
  all_if : (is : Bool) (up : ℕ) (path : List ℕ) → All P path → All P (if is then take up path else path)
  all_if true up path all = All-take P up path all
  all_if false up path all = all

  all_below_act : (declared : List KeyText) (key : KeyValue) (path : List ℕ) (act : Option ActText) → All P path → All P (below_act declared key path act)
  all_below_act declared key path None all = all
  all_below_act declared key path (Some act) all = all_if (gives_value act.word && key_eq (key_of_step declared act.key) key) act.up path all

  all_below : (declared : List KeyText) (key : KeyValue) (path : List ℕ) (before : List StepText) → All P path → All P (below_computes declared key path before)
  all_below declared key path [] all = all
  all_below declared key path (step ∷ more) all = all_below declared key (below_act declared key path (act_of step)) more (all_below_act declared key path (act_of step) all)

  all_reach_if : (changed : Bool) (path below : List ℕ) → All P path → All P below → All P (if changed then path else below)
  all_reach_if true path below all all_of_below = all
  all_reach_if false path below all all_of_below = all_of_below

  pub all_reach : (declared : List KeyText) (before : List StepText) (path : List ℕ) (act : ActText) → All P path → All P (reach declared before path act)
  all_reach declared before path act all = all_reach_if (changes act.word) path (below_computes declared (key_of_step declared act.key) path before) all (all_below declared (key_of_step declared act.key) path before all)

pub reach_below : (declared : List KeyText) (before : List StepText) (path : List ℕ) (act : ActText) → changes act.word ≡ false → below_computes declared (key_of_step declared act.key) path before ≡ reach declared before path act
reach_below declared before path act looks = rw looks refl
