-- The key of a step in a plain run that has room: the number that it has or gets.
use Rattle.std.proofs.Common.{◌≡◌, ℕ, ◌<◌, inl, inr, true, false, List, length, refl, ap, sym, ◌∙◌, arith}
use Rattle.std.specs.Prelude.{nat_lt}
use Rattle.std.proofs.lemmas.Bool.Decides.{nat_tests}
use Rattle.ext_history.proofs.Lists.{bools}
use Rattle.ext_model.specs.History.{History}
use Rattle.ext_tree.specs.Keys.{KeyValue}
use Rattle.ext_plan.specs.StoreKeys.{is_there, number_of_key}
use Rattle.ext_plan.proofs.KeyLists.{key_number_last, not_contained}
use Rattle.ext_plan_plain.specs.ValueStates.{ValueState, enough, with_number}
use Rattle.ext_plan_plain.specs.StepRuns.{StepEnd, number_by, numbered_by}
use Rattle.ext_plan_plain.proofs.Numberings.{is_known, is_next, there_then}
use Rattle.ext_one_report.proofs.MatchingWords.{RunView, Places, Matches, IsNumbered, plain_slot}
use Rattle.ext_one_report.proofs.FrameSlots.{leaves_named}
use Rattle.ext_one_report.proofs.Matching.{keys_keep_matches, keys_keep_numbered}
use Rattle.ext_one_report.proofs.PlainFrames.{IsOpen, no_context}

-- The state in which the key has its number, and what of the state before is so of it at these places
pub record IsNamed (places : Places) (key : KeyValue) (s : ValueState) : Type 0 where
  pub state : ValueState
  pub there : is_there state.keys key ≡ true
  pub goes : (name label : List ℕ) (goes_on : ℕ → ValueState → StepEnd) → numbered_by enough name label key goes_on s ≡ goes_on (number_of_key state.keys key) state
  pub matches : (run : RunView) (h : History) → Matches run places h s → Matches run places h state
  pub numbered : IsNumbered places state
  pub drawn : state.store ≡ s.store
  pub numbers : state.numbers ≡ s.numbers
  pub values : state.values ≡ s.values
  pub faults : state.keep_faults ≡ s.keep_faults
  pub slots : (context : ℕ) (other : KeyValue) → IsOpen context s → plain_slot state context other ≡ plain_slot s context other

less_is : (a b : ℕ) → a < b → nat_lt a b ≡ true
less_is a b less = grind (arith, nat_tests)

pub named : (places : Places) (key : KeyValue) (s : ValueState) → (is_there s.keys key ≡ false → length s.keys < s.places) → IsNumbered places s → IsNamed places key s
named places key s room numbered =
    elim (bools (is_there s.keys key)) [
      | inl there ↦ record {
        state = s;
        there = there;
        goes = λ name label goes_on. ap (number_by enough name label key goes_on s) (is_known s.places s.keys key there);
        matches = λ run h matches. matches;
        numbered = numbered;
        drawn = refl;
        numbers = refl;
        values = refl;
        faults = refl;
        slots = λ context other clear. refl;
      }
      | inr none ↦ record {
        state = with_number key s;
        there = there_then s.keys key none;
        goes = λ name label goes_on.
            ap (number_by enough name label key goes_on s) (is_next s.places s.keys key (not_contained s.keys key none) (less_is (length s.keys) s.places (room none)))
            ∙ ap (λ n. goes_on n (with_number key s)) (sym (key_number_last s.keys key none));
        matches = λ run h matches. keys_keep_matches run places h key s none numbered matches;
        numbered = keys_keep_numbered places key s numbered;
        drawn = refl;
        numbers = refl;
        values = refl;
        faults = refl;
        slots = λ context other clear. (leaves_named (λ c k. false) no_context key s none).slots context other refl refl clear;
      }
    ]
