-- What a close does for one number more.
use Rattle.std.proofs.Common.{◌≡◌, ℕ, Bool, true, false, List, [], ◌∷◌, ◌++◌, refl, sym, subst}
use Rattle.std.proofs.lemmas.Fn.{FoldsTo-push}
use Rattle.ext_store.specs.Stores.{StoreLane}
use Rattle.ext_model.specs.declared.closed.Closed.{Closed}
use Rattle.ext_closing.specs.Lanes.{IsKnown}
use Rattle.ext_closing.specs.Closing.{Answer, Closing, CallIf, ClosesOne, ClosesNumbers, counted}

module _ {V A : Type 0} (is_closeable : V → Bool) (gives : A → ℕ → V → Answer → A → Type 0) (lanes : List (StoreLane V)) where
  -- no number yet
  pub closes_none : (action : A) (closed : Closed) → closed ≡ counted [] → ClosesNumbers is_closeable gives lanes [] action action closed
  closes_none action closed is = record { answers = []; calls = refl; counts = is }

  module _ (numbers : List ℕ) (number : ℕ) (first action action' : A) (closed closed' : Closed) (value : V) (known : IsKnown lanes number value) (so_far : ClosesNumbers is_closeable gives lanes numbers first action closed) where
    -- one whose value is closeable
    pub closes_more : (answer : Answer) → is_closeable value ≡ true → gives action number value answer action' → ((answers : List Answer) → closed ≡ counted answers → closed' ≡ counted (answers ++ answer ∷ []))
        → ClosesNumbers is_closeable gives lanes (numbers ++ number ∷ []) first action' closed'
    closes_more answer is given counts =
        let before : Closing A = record { action = action; answers = so_far.answers } in
        let after : Closing A = record { action = action'; answers = so_far.answers ++ answer ∷ [] } in
        record {
          answers = so_far.answers ++ answer ∷ [];
          calls = FoldsTo-push (ClosesOne is_closeable gives lanes) _ numbers before number after so_far.calls
              (value, known, subst (λ b. CallIf is_closeable gives b number value before after) (sym is) (answer, given, refl));
          counts = counts so_far.answers so_far.counts;
        }

  -- and one whose value is not
  pub closes_no_more : (numbers : List ℕ) (number : ℕ) (first action : A) (closed : Closed) (value : V) → IsKnown lanes number value → is_closeable value ≡ false
      → ClosesNumbers is_closeable gives lanes numbers first action closed → ClosesNumbers is_closeable gives lanes (numbers ++ number ∷ []) first action closed
  closes_no_more numbers number first action closed value known is so_far =
      let before : Closing A = record { action = action; answers = so_far.answers } in
      record {
        answers = so_far.answers;
        calls = FoldsTo-push (ClosesOne is_closeable gives lanes) _ numbers before number before so_far.calls
            (value, known, subst (λ b. CallIf is_closeable gives b number value before before) (sym is) refl);
        counts = so_far.counts;
      }
