-- What a test asks for, as a list of requests.
use Rattle.std.proofs.Common.{◌≡◌, ℕ, zero, suc, ◌+◌, ◌-◌, ◌<◌, ◌≤◌, None, List, [], ◌∷◌, ◌++◌, length, map, take, get_or, ap, ◌∙◌, sym, refl, subst, arith, append_assoc, append-nil}
use Rattle.std.specs.Prelude.{All, Some, slice_get}
use Rattle.std.specs.List.{flat_map}
use Rattle.std.proofs.lemmas.Grind.{flat_map-append}
use Rattle.std.proofs.lemmas.List.{get_or-map, length-map, map_push, take_more}
use Rattle.std.proofs.Math.Seq.{take-length}
use Rattle.std.proofs.lemmas.List.Elements.{All-append, All-cons, All-get_or, All-head, All-nil, All-tail}
use Rattle.std.proofs.lemmas.Option.{slice_get_within, get_or_from_slice_get, slice_get-get_or}
use Rattle.ext_locks.specs.declared.event.LockMode.TheVariants as lock_mode
use Rattle.ext_locks.specs.declared.fault.LockFault.{LockFault}
use Rattle.ext_locks.specs.declared.fault.LockFault.TheVariants.{BadLimit, TooMany, Twice, UnknownResource, Memory}
use Rattle.ext_locks.specs.declared.request.Resource.{Resource}
use Rattle.ext_locks.specs.declared.request.Resource.TheVariants.{Global, Named}
use Rattle.ext_locks.specs.declared.request.LockRequest.{LockRequest}
use Rattle.ext_locks.specs.Names.{IsFirstUnknown, IsKnown, IsNotMerged}
use Rattle.ext_engine.specs.Suites.{Asked, SuiteView, asks, global_mode, locks_on, name_of}
use Rattle.ext_engine.specs.Taking.{IsNamedLock}

-- ---- the requests that are made

-- one more of the locks that a node names
pub asked-more : (before locks : List Asked) (i : ℕ) (requests next : List LockRequest) (request : LockRequest)
    → map asks requests ≡ before ++ take i locks → slice_get locks i ≡ Some (asks request) → next ≡ requests ++ request ∷ [] → map asks next ≡ before ++ take (i + 1) locks
asked-more before locks i requests next request so_far is pushed =
    let a = asks request in
    let more = take_more locks i a (slice_get_within locks i a is) ∙ ap (λ b. take i locks ++ b ∷ []) (get_or_from_slice_get locks i a a is) in
    ap (map asks) pushed ∙ (map_push asks requests request ∙ (ap (λ l. l ++ a ∷ []) so_far ∙ (append_assoc before (take i locks) (a ∷ []) ∙ ap (λ l. before ++ l) (sym more))))

-- all of them
pub asked-all : (before locks : List Asked) (i : ℕ) (requests : List LockRequest) → i ≡ length locks → map asks requests ≡ before ++ take i locks → map asks requests ≡ before ++ locks
asked-all before locks i requests all so_far = so_far ∙ ap (λ l. before ++ l) (ap (λ n. take n locks) all ∙ take-length locks)

-- each of them is there
pub asked-some : (locks : List Asked) (i : ℕ) → i < length locks → None ≡ slice_get locks i → ⊥
asked-some [] i less none = omega (arith, less)
asked-some (x ∷ xs) zero less none = let e : None ≡ Some x = none in cc
asked-some (x ∷ xs) (suc i) less none = asked-some xs i (omega (arith, less)) none

-- at first none of them
pub asked-none : (before : List Asked) → before ≡ before ++ []
asked-none before = sym (append-nil before)

-- those of one more node
pub nodes-more : (locks : ℕ → List Asked) (path : List ℕ) (i d : ℕ) (first : Asked) (old next : List Asked)
    → i < length path → old ≡ first ∷ flat_map locks (take i path) → next ≡ old ++ locks (get_or path i d) → next ≡ first ∷ flat_map locks (take (i + 1) path)
nodes-more locks path i d first old next less so_far added =
    let node = get_or path i d in
    let more = ap (flat_map locks) (take_more path i d less) ∙ (flat_map-append locks (take i path) (node ∷ []) ∙ ap (λ l. flat_map locks (take i path) ++ l) (append-nil (locks node))) in
    added ∙ (ap (λ l. l ++ locks node) so_far ∙ ap (λ l. first ∷ l) (sym more))

-- those of all nodes
pub nodes-all : (locks : ℕ → List Asked) (path : List ℕ) (i : ℕ) (first : Asked) (asked : List Asked) → i ≤ length path → length path ≤ i → asked ≡ first ∷ flat_map locks (take i path) → asked ≡ first ∷ flat_map locks path
nodes-all locks path i first asked most least so_far =
    let all : i ≡ length path = omega (arith, most, least) in
    so_far ∙ ap (λ l. first ∷ flat_map locks l) (ap (λ n. take n path) all ∙ take-length path)

-- ---- requests of names that the locks have

module _ (names : List (List ℕ)) where
  abbrev IsNamed : Asked → Type 0
  IsNamed asked = IsNamedLock names asked.name

  all-named : (locks : ℕ → List Asked) (path : List ℕ) → All (λ n. All IsNamed (locks n)) path → All IsNamed (flat_map locks path)
  all-named locks [] all = All-nil IsNamed
  all-named locks (n ∷ path) all =
      All-append IsNamed (locks n) (flat_map locks path) (All-head (λ m. All IsNamed (locks m)) n path all) (all-named locks path (All-tail (λ m. All IsNamed (locks m)) n path all))

  known : (resource : Resource) → IsNamedLock names (name_of resource) → IsKnown names resource
  known Global is = (0, refl)
  known (Named name) (i, less, e) =
      let here : i ≡ i + 1 - 1 = omega arith in
      (i + 1, record { positive = omega arith; name_at = sym (ap (slice_get names) here) ∙ (slice_get-get_or names i name.now less ∙ ap Some e) })

  none-unknown : (requests : List LockRequest) (asked : List Asked) (at : ℕ) → map asks requests ≡ asked → All IsNamed asked → IsFirstUnknown names requests at → ⊥
  none-unknown requests asked at is all unknown =
      let d : LockRequest = record { resource = Global; mode = lock_mode.Read } in
      let less = unknown.within in let long = ap length is in let same = length-map requests asks in
      let named = All-get_or IsNamed asked at (asks d) (omega (arith, less, long, same)) all in
      let request = ap (λ l. get_or l at (asks d)) (sym is) ∙ get_or-map asks requests at d (asks d) less in
      unknown.unknown d (known (get_or requests at d).resource (subst IsNamed request named))

  -- such requests are never refused
  pub is-merged : (suite : SuiteView) (path : List ℕ) (requests : List LockRequest) (fault : LockFault) → All (λ n. All (λ asked. IsNamedLock names asked.name) (suite.locks n)) path → map asks requests ≡ locks_on suite path → IsNotMerged names requests fault → ⊥
  is-merged suite path requests BadLimit all is why = why
  is-merged suite path requests TooMany all is why = why
  is-merged suite path requests (Twice at) all is why = why
  is-merged suite path requests (UnknownResource at) all is why =
      none-unknown requests (locks_on suite path) at is (All-cons IsNamed (record { name = None; mode = global_mode suite path }) (flat_map suite.locks path) tt (all-named suite.locks path all)) why
  is-merged suite path requests Memory all is why = why
