-- What an action that writes numbers down has written when a context is closed: for callers of `close`.
use Rattle.std.proofs.Common.{◌≡◌, ℕ, Bool, true, false, List, [], ◌∷◌, ◌++◌, length, refl, ap, sym, subst, ◌∙◌, append-nil, append_assoc, ◌<◌, arith, None}
use Rattle.std.specs.Prelude.{Result, Ok, Err, IfOk, slice_get}
use Rattle.std.specs.List.{FoldsTo}
use Rattle.ext_model.specs.declared.look.Fault.{Fault}
use Rattle.ext_model.specs.Closing.{IsBelow, IsFalling}
use Rattle.ext_model.proofs.Remaining.{remaining_falls}
use Rattle.ext_store.specs.Stores.{StoreView, StoreLane, CloserView}
use Rattle.ext_model.specs.declared.closed.Closed.{Closed}
use Rattle.ext_closing.specs.declared.fault.CloseFault.{CloseFault}
use Rattle.ext_closing.specs.Lanes.{first_lane}
use Rattle.ext_closing.specs.Sealing.{slots_seen, numbers_left}
use Rattle.ext_closing.specs.Closes.{Closes}
use Rattle.ext_closing.specs.Closing.{Answer, Closing, CallIf, ClosesOne, ClosesNumbers, AreCloseable, if_closeable}
use Rattle.ext_closing.proofs.Faults.{faults_in, faults-push_ok, faults-push_err, first_told}

-- ---- no fault was counted

none_of-push : (faults : List Fault) (fault : Fault) → faults ++ fault ∷ [] ≡ [] → ⊥
none_of-push [] fault is = cc is
none_of-push (first ∷ faults) fault is = cc is

no_first : (faults : List Fault) → slice_get faults 0 ≡ None → faults ≡ []
no_first [] none = refl
no_first (fault ∷ faults) none = absurd (cc none)

module _ {V A : Type 0} (is_closeable : V → Bool) (gives : A → ℕ → V → Answer → A → Type 0) (lanes : List (StoreLane V)) where
  answer_before : (answers : List Answer) (answer : Answer) → faults_in (answers ++ answer ∷ []) ≡ [] → faults_in answers ≡ []
  answer_before answers (Ok done) none = sym (faults-push_ok answers done) ∙ none
  answer_before answers (Err fault) none = absurd (none_of-push (faults_in answers) fault (sym (faults-push_err answers fault) ∙ none))

  call_before : (b : Bool) (number : ℕ) (value : V) (before after : Closing A) → CallIf is_closeable gives b number value before after → faults_in after.answers ≡ [] → faults_in before.answers ≡ []
  call_before true number value before after call none = answer_before before.answers call.0 (ap faults_in (sym call.2) ∙ none)
  call_before false number value before after same none = ap (λ (c : Closing A). faults_in c.answers) (sym same) ∙ none

  calls_before : (numbers : List ℕ) (before after : Closing A) → FoldsTo (ClosesOne is_closeable gives lanes) before numbers after → faults_in after.answers ≡ [] → faults_in before.answers ≡ []
  calls_before [] before after same none = ap (λ (c : Closing A). faults_in c.answers) same ∙ none
  calls_before (number ∷ numbers) before after calls none =
      let one = calls.1 in
      call_before (is_closeable one.0) number one.0 before calls.0 one.2 (calls_before numbers calls.0 after calls.2 none)

  -- ---- what was written down

  -- where a call that does not fail writes its number down behind the others
  module _ (log_of : A → List ℕ) (logs : (before : A) (number : ℕ) (value : V) (done : Unit {0}) (after : A) → gives before number value (Ok done) after → log_of after ≡ log_of before ++ number ∷ []) where
    answer_logged : (number : ℕ) (value : V) (before after : A) (answers : List Answer) (answer : Answer) → gives before number value answer after → faults_in (answers ++ answer ∷ []) ≡ [] → log_of after ≡ log_of before ++ number ∷ []
    answer_logged number value before after answers (Ok done) given none = logs before number value done after given
    answer_logged number value before after answers (Err fault) given none = absurd (none_of-push (faults_in answers) fault (sym (faults-push_err answers fault) ∙ none))

    call_logged : (b : Bool) (number : ℕ) (value : V) (before after : Closing A) → CallIf is_closeable gives b number value before after → faults_in after.answers ≡ []
        → (more : List ℕ) → log_of after.action ++ more ≡ log_of before.action ++ if_closeable is_closeable b number more
    call_logged true number value before after call none more =
        let one : log_of after.action ≡ log_of before.action ++ number ∷ [] = answer_logged number value before.action after.action before.answers call.0 call.1 (ap faults_in (sym call.2) ∙ none) in
        ap (λ xs. xs ++ more) one ∙ append_assoc (log_of before.action) (number ∷ []) more
    call_logged false number value before after same none more = ap (λ (c : Closing A). log_of c.action ++ more) same

    numbers_logged : (numbers : List ℕ) (before after : Closing A) → FoldsTo (ClosesOne is_closeable gives lanes) before numbers after → faults_in after.answers ≡ []
        → (logged : List ℕ) × AreCloseable is_closeable lanes numbers logged × (log_of after.action ≡ log_of before.action ++ logged)
    numbers_logged [] before after same none = ([], refl, ap (λ (c : Closing A). log_of c.action) (sym same) ∙ sym (append-nil (log_of before.action)))
    numbers_logged (number ∷ numbers) before after calls none =
        let one = calls.1 in
        let later = numbers_logged numbers calls.0 after calls.2 none in
        let here = call_logged (is_closeable one.0) number one.0 before calls.0 one.2 (calls_before numbers calls.0 after calls.2 none) later.0 in
        (if_closeable is_closeable (is_closeable one.0) number later.0, (one.0, one.1, (later.0, later.1, refl)), later.2 ∙ here)

    -- so the log has the closeable ones among the numbers, where no fault was counted
    pub all_logged : (numbers : List ℕ) (first last : A) (closed : Closed) → ClosesNumbers is_closeable gives lanes numbers first last closed → closed.first_fault ≡ None
        → (logged : List ℕ) × AreCloseable is_closeable lanes numbers logged × (log_of last ≡ log_of first ++ logged)
    all_logged numbers first last closed closes none =
        numbers_logged numbers (record { action = first; answers = [] }) (record { action = last; answers = closes.answers }) closes.calls
        (no_first (faults_in closes.answers) (first_told closes.answers ∙ ap (λ (c : Closed). c.first_fault) (sym closes.counts) ∙ none))

-- ---- they fall

below_more_than : (less bound : ℕ) (numbers : List ℕ) → less < bound → IsBelow less numbers → IsBelow bound numbers
below_more_than less bound [] under below = tt
below_more_than less bound (number ∷ numbers) under below = let first : number < less = below in omega (arith, first, under)

module _ {V : Type 0} (is_closeable : V → Bool) (lanes : List (StoreLane V)) where
  below_one : (b : Bool) (bound number : ℕ) (more : List ℕ) → number < bound → IsBelow bound more → IsBelow bound (if_closeable is_closeable b number more)
  below_one true bound number more under below = under
  below_one false bound number more under below = below

  below_left : (bound : ℕ) (numbers logged : List ℕ) → IsBelow bound numbers → IsFalling numbers → AreCloseable is_closeable lanes numbers logged → IsBelow bound logged
  below_left bound [] logged below falls none = subst (IsBelow bound) (sym none) tt
  below_left bound (number ∷ numbers) logged below falls some =
      let under : number < bound = below in
      subst (IsBelow bound) (sym some.2.2) (below_one (is_closeable some.0) bound number some.2.0 under (below_left bound numbers some.2.0 (below_more_than number bound numbers under falls.0) falls.1 some.2.1))

  falls_one : (b : Bool) (number : ℕ) (more : List ℕ) → IsBelow number more → IsFalling more → IsFalling (if_closeable is_closeable b number more)
  falls_one true number more below falls = (below, falls)
  falls_one false number more below falls = falls

  -- the closeable ones among falling numbers fall
  pub closeable_falls : (numbers logged : List ℕ) → IsFalling numbers → AreCloseable is_closeable lanes numbers logged → IsFalling logged
  closeable_falls [] logged falls none = subst IsFalling (sym none) tt
  closeable_falls (number ∷ numbers) logged falls some =
      subst IsFalling (sym some.2.2)
      (falls_one (is_closeable some.0) number some.2.0 (below_left number numbers some.2.0 falls.0 falls.1 some.2.1) (closeable_falls numbers some.2.0 falls.1 some.2.1))

-- ---- what a close has written

module _ {V A : Type 0} (is_closeable : V → Bool) (gives : A → ℕ → V → Answer → A → Type 0) (log_of : A → List ℕ)
    (logs : (before : A) (number : ℕ) (value : V) (done : Unit {0}) (after : A) → gives before number value (Ok done) after → log_of after ≡ log_of before ++ number ∷ []) where
  pub logged_by : (store : StoreView) (closer : CloserView) (before : List (StoreLane V)) (first : A) (result : Result Closed (CloserView × CloseFault)) (after : List (StoreLane V)) (last : A)
      → Closes is_closeable gives store closer before first result after last
      → IfOk result (λ closed. closed.first_fault ≡ None
      → (logged : List ℕ) × AreCloseable is_closeable after (numbers_left store closer.context (first_lane store after)) logged × IsFalling logged × (log_of last ≡ log_of first ++ logged))
  logged_by store closer before first (Ok closed) after last close = λ none.
      let numbers = numbers_left store closer.context (first_lane store after) in
      let all = all_logged is_closeable gives after log_of logs numbers first last closed close.closes none in
      (all.0, all.1, closeable_falls is_closeable after numbers all.0 (remaining_falls (slots_seen store closer.context (first_lane store after)) (length store.id.keys)) all.1, all.2)
  logged_by store closer before first (Err e) after last close = tt
