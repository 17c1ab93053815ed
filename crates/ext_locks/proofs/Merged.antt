-- What is known while requests are merged.
use Rattle.std.proofs.Common.{◌≡◌, ◌≢◌, ◌⊎◌, ℕ, zero, suc, ◌+◌, ◌<◌, ◌≤◌, true, List, [], ◌∷◌, ◌++◌, length, take, set, Option, Some, None, slice_index_or, refl, sym, ap, ◌∙◌, subst, ⊎_elim, true≢false, arith, get_or, get_or-set_same, get_or-set_other, length-set}
use Rattle.std.specs.Prelude.{All, Any, IfSome, replicate}
use Rattle.std.proofs.lemmas.Bool.{cases_eq}
use Rattle.std.proofs.lemmas.List.{take_more, take_all, get_or_append_left, length-replicate}
use Rattle.std.proofs.lemmas.List.Elements.{All-more, All-weaker, All-same}
use Rattle.std.proofs.lemmas.List.Quantifiers.{Any-push}
use Rattle.ext_locks.specs.declared.event.LockMode.{LockMode}
use Rattle.ext_locks.specs.declared.event.LockMode.TheVariants.{Read, ReadWrite}
use Rattle.ext_locks.specs.declared.request.LockRequest.{LockRequest}
use Rattle.ext_locks.specs.History.{same_mode}
use Rattle.ext_locks.specs.Sets.{locks_from, locks_of, wants, AllBelow}
use Rattle.ext_locks.specs.Names.{IsNumberOf, IsKnown, is_as_strong, AsksFor, IsGranted, IsMerged, IsFirstUnknown}
use Rattle.ext_locks.specs.InnerSteps.{is_mode, has_mode}
use Rattle.ext_locks.proofs.Histories.{same_mode_self, same_mode-true}
use Rattle.ext_locks.proofs.Lists.{wants_modes, numbers_rise}

-- the modes have what the first so many requests ask for, and nothing else
pub record MergedBelow (names : List (List ℕ)) (requests : List LockRequest) (modes : List (Option LockMode)) (at : ℕ) : Type 0 where
  pub granted : All (IsGranted names (locks_of modes)) (take at requests)
  pub asked : (lock : ℕ) (mode : LockMode) → wants (locks_of modes) lock mode ≡ true → Any (AsksFor names lock mode) (take at requests)
  pub within : AllBelow (length names + 1) (locks_of modes)
  pub size : length modes ≡ 64

mode_of : (o : Option LockMode) (m : LockMode) → is_mode o m ≡ true → o ≡ Some m
mode_of None m is = absurd (true≢false (sym is))
mode_of (Some x) m is = ap Some (same_mode-true x m is)

strong_then : (a b c : LockMode) → is_as_strong a b ≡ true → is_as_strong b c ≡ true → is_as_strong a c ≡ true
strong_then Read Read c x y = y
strong_then Read ReadWrite c x y = absurd (true≢false (sym x))
strong_then ReadWrite b Read x y = refl
strong_then ReadWrite b ReadWrite x y = refl

none_wanted : (n count lock : ℕ) (mode : LockMode) → wants (locks_from n (replicate count None)) lock mode ≡ true → ⊥
none_wanted n zero lock mode is = true≢false (sym is)
none_wanted n (suc count) lock mode is = none_wanted (suc n) count lock mode is

pub merged_none : (names : List (List ℕ)) (requests : List LockRequest) → MergedBelow names requests (replicate 64 None) 0
merged_none names requests = record {
  granted = λ k d below. absurd (omega arith);
  asked = λ lock mode is. absurd (none_wanted 0 64 lock mode is);
  within = record { each = λ lock mode is. absurd (none_wanted 0 64 lock mode is) };
  size = length-replicate {A = Option LockMode} 64 None;
}

any_more : (P : LockRequest → Type 0) (xs ys : List LockRequest) → Any P xs → Any P (xs ++ ys)
any_more P xs ys has = (has.0, has.1, (let l = long xs ys in let b = has.2 in omega arith), get_or_append_left xs ys has.1 has.0 has.2 ∙ has.3, has.4)
  where
    long : (xs ys : List LockRequest) → length xs ≤ length (xs ++ ys)
    long [] ys = omega arith
    long (x ∷ xs) ys = let h = long xs ys in omega arith

module _ (names : List (List ℕ)) (requests : List LockRequest) (modes : List (Option LockMode)) (at lock : ℕ) (r d : LockRequest) (m : LockMode)
    (below : at < length requests) (there : get_or requests at d ≡ r) (room : lock < 64) (size : length modes ≡ 64) (number : IsNumberOf names r.resource lock) (small : lock ≤ length names)
    (as_new : is_as_strong m r.mode ≡ true) (as_old : IfSome (slice_index_or modes lock None) (λ was. is_as_strong m was ≡ true)) (either : (m ≡ r.mode) ⊎ (slice_index_or modes lock None ≡ Some m)) where
  after : List (Option LockMode)
  after = set modes lock (Some m)

  has_here : (x : LockMode) → has_mode (set modes lock (Some m)) lock x ≡ same_mode m x
  has_here x = ap (λ o. is_mode o x) (get_or-set_same modes lock (Some m) None (let e = size in omega arith))

  has_there : (k : ℕ) (x : LockMode) → k ≢ lock → has_mode (set modes lock (Some m)) k x ≡ has_mode modes k x
  has_there k x apart = ap (λ o. is_mode o x) (get_or-set_other modes lock k (Some m) None apart)

  wants_here : wants (locks_of (set modes lock (Some m))) lock m ≡ true
  wants_here = wants_modes (set modes lock (Some m)) lock m ∙ (has_here m ∙ same_mode_self m)

  granted_still : (q : LockRequest) → IsGranted names (locks_of modes) q → IsGranted names (locks_of (set modes lock (Some m))) q
  granted_still q was =
      ⊎_elim
      (λ (is : was.lock ≡ lock). record {
        lock = lock;
        mode = m;
        number = subst (λ k. IsNumberOf names q.resource k) is was.number;
        wanted = wants_here;
        strong = strong_then m was.mode q.mode
            (subst (λ o. IfSome o (λ w. is_as_strong m w ≡ true)) (mode_of (slice_index_or modes lock None) was.mode (subst (λ k. has_mode modes k was.mode ≡ true) is (sym (wants_modes modes was.lock was.mode) ∙ was.wanted))) as_old)
            was.strong;
      })
      (λ (isnt : was.lock ≢ lock). record {
        lock = was.lock;
        mode = was.mode;
        number = was.number;
        wanted = wants_modes (set modes lock (Some m)) was.lock was.mode ∙ (has_there was.lock was.mode isnt ∙ (sym (wants_modes modes was.lock was.mode) ∙ was.wanted));
        strong = was.strong;
      })
      (cases_eq was.lock lock)

  granted_new : IsGranted names (locks_of (set modes lock (Some m))) r
  granted_new = record { lock = lock; mode = m; number = number; wanted = wants_here; strong = as_new }

  one_more : take (at + 1) requests ≡ take at requests ++ r ∷ []
  one_more = take_more requests at d below ∙ ap (λ x. take at requests ++ x ∷ []) there

  asked_here : MergedBelow names requests modes at → (x : LockMode) → m ≡ x → Any (AsksFor names lock x) (take at requests ++ r ∷ [])
  asked_here was x same =
      ⊎_elim
      (λ (new : m ≡ r.mode). Any-push (AsksFor names lock x) (take at requests) r (record { number = number; mode_is = sym new ∙ same }))
      (λ (old : slice_index_or modes lock None ≡ Some m). any_more (AsksFor names lock x) (take at requests) (r ∷ [])
      (was.asked lock x (wants_modes modes lock x ∙ (ap (λ o. is_mode o x) old ∙ (ap (λ y. same_mode y x) same ∙ same_mode_self x)))))
      either

  pub merged_more : MergedBelow names requests modes at → MergedBelow names requests (set modes lock (Some m)) (at + 1)
  merged_more was = record {
    granted = All-more (IsGranted names (locks_of (set modes lock (Some m)))) requests at d below
        (All-weaker (IsGranted names (locks_of modes)) (IsGranted names (locks_of (set modes lock (Some m)))) granted_still (take at requests) was.granted)
        (subst (IsGranted names (locks_of (set modes lock (Some m)))) (sym there) granted_new);
    asked = λ k x is.
        subst (λ l. Any (AsksFor names k x) l) (sym one_more)
        (⊎_elim
        (λ (same : k ≡ lock). subst (λ j. Any (AsksFor names j x) (take at requests ++ r ∷ [])) (sym same)
        (asked_here was x (same_mode-true m x (sym (has_here x) ∙ subst (λ j. has_mode (set modes lock (Some m)) j x ≡ true) same (sym (wants_modes (set modes lock (Some m)) k x) ∙ is)))))
        (λ (apart : k ≢ lock). any_more (AsksFor names k x) (take at requests) (r ∷ [])
        (was.asked k x (wants_modes modes k x ∙ (sym (has_there k x apart) ∙ (sym (wants_modes (set modes lock (Some m)) k x) ∙ is)))))
        (cases_eq k lock));
    within = record {
      each = λ k x is.
          ⊎_elim
          (λ (same : k ≡ lock). omega arith)
          (λ (apart : k ≢ lock). was.within.each k x (wants_modes modes k x ∙ (sym (has_there k x apart) ∙ (sym (wants_modes (set modes lock (Some m)) k x) ∙ is))))
          (cases_eq k lock);
    };
    size = length-set modes lock (Some m) ∙ size;
  }

pub merged_all : (names : List (List ℕ)) (requests : List LockRequest) (modes : List (Option LockMode)) (at : ℕ) → length requests ≤ at → MergedBelow names requests modes at → IsMerged names requests (locks_of modes)
merged_all names requests modes at many was = record {
  granted = All-same (IsGranted names (locks_of modes)) requests (take at requests) (sym (take_all at requests many)) was.granted;
  asked = λ lock mode is. subst (λ l. Any (AsksFor names lock mode) l) (take_all at requests many) (was.asked lock mode is);
  ordered = numbers_rise modes;
}

same_item : (xs : List LockRequest) (i : ℕ) (d e : LockRequest) → i < length xs → get_or xs i d ≡ get_or xs i e
same_item [] i d e few = absurd (omega arith)
same_item (x ∷ xs) zero d e few = refl
same_item (x ∷ xs) (suc i) d e few = same_item xs i d e (omega arith)

pub not_merged : (names : List (List ℕ)) (requests : List LockRequest) (modes : List (Option LockMode)) (at : ℕ) → at < length requests → MergedBelow names requests modes at → (e : LockRequest) → (IsKnown names (get_or requests at e).resource → ⊥) → IsFirstUnknown names requests at
not_merged names requests modes at below was e unknown = record {
  within = below;
  unknown = λ d known. unknown (subst (λ r. IsKnown names r.resource) (same_item requests at d e below) known);
  first = All-weaker (IsGranted names (locks_of modes)) (λ r. IsKnown names r.resource) (λ r g. (g.lock, g.number)) (take at requests) was.granted;
}
