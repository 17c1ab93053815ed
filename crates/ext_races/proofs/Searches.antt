-- Whether touches of a group share a value, as far as they are compared.
use Rattle.std.proofs.Common.{◌≡◌, ℕ, zero, suc, ◌+◌, ◌<◌, Bool, true, false, List, [], ◌∷◌, get_or, length, map, take, Contains, Option, refl, sym, ap, ◌∙◌, arith, inl, inr}
use Rattle.std.specs.declared.alloc.Global.{Global}
use Rattle.std.specs.Prelude.{Vec, ◌&&◌, ◌||◌, ◌==◌}
use Rattle.std.specs.List.{list_any}
use Rattle.std.proofs.lemmas.Bool.{both_ways, cases_Bool, false_from_ne_true}
use Rattle.std.proofs.lemmas.List.Folds.{list_any_at, list_any_more}
use Rattle.ext_plan.specs.Plans.{PlanText}
use Rattle.ext_plan.specs.StepWords.{gives_value}
use Rattle.ext_races.specs.declared.passing.Passed.{Passed}
use Rattle.ext_races.specs.declared.touch.Touch.{Touch}
use Rattle.ext_races.specs.Beside.{nodes_beside}
use Rattle.ext_races.specs.Clashes.{agree}
use Rattle.ext_races.specs.InnerGroups.{group_at, groups_view}
use Rattle.ext_races.specs.InnerPassing.{AreNoted, changing, may_meet}
use Rattle.ext_races.specs.InnerProving.{computes_value, group_shares, groups_share, has_share, share_beside, shares_value}
use Rattle.ext_races.specs.Touches.{TouchText, touch_view}
use Rattle.ext_races.proofs.Equalities.{both, both_true}
use Rattle.ext_races.proofs.Grouped.{any_contains, group_read}
use Rattle.ext_races.proofs.Lists.{contains_cases, contains_nothing, contains-map, contains-map_back}
use Rattle.ext_races.proofs.Noted.{contains_changing, meets_where}

module _ {A : Type 0} (p : A → Bool) where
  pub any_where : (xs : List A) (x : A) → Contains xs x → p x ≡ true → list_any p xs ≡ true
  any_where [] x there is = contains_nothing x there
  any_where (y ∷ xs) x there is = elim (cases_Bool (p y)) [
    | inl first ↦ rw first refl
    | inr isnt ↦ elim (contains_cases y x xs there) [
      | inl here ↦ absurd (both_ways (p y) isnt (ap p here ∙ is))
      | inr later ↦ rw isnt (any_where xs x later is)
    ]
  ]

-- ---- in one group

-- the first of two touches that share a value computes it
computes_shared : (plan : PlanText) (t u : TouchText) → share_beside plan t u ≡ true → computes_value t ≡ true
computes_shared plan t u shares =
    let p = both (shares_value t u) (nodes_beside plan t.node u.node) shares in
    let q = both (computes_value t && u.changes && (t.context == u.context) && (t.key == u.key)) (agree t u) p.0 in
    let r = both (computes_value t && u.changes && (t.context == u.context)) (t.key == u.key) q.0 in
    let s = both (computes_value t && u.changes) (t.context == u.context) r.0 in
    (both (computes_value t) u.changes s.0).0

-- both of them change their place
both_change : (t u : TouchText) → shares_value t u ≡ true → (t.changes ≡ true) × (u.changes ≡ true)
both_change t u shares =
    let q = both (computes_value t && u.changes && (t.context == u.context) && (t.key == u.key)) (agree t u) shares in
    let r = both (computes_value t && u.changes && (t.context == u.context)) (t.key == u.key) q.0 in
    let s = both (computes_value t && u.changes) (t.context == u.context) r.0 in
    let p = both (computes_value t) u.changes s.0 in
    ((both t.changes (gives_value t.word) p.0).0, p.1)

module _ (plan : PlanText) (group : List Touch) where
  -- two touches share a value, if any do
  two_share : group_shares plan (map touch_view group) ≡ true → (t u : Touch) × Contains group t × Contains group u × (share_beside plan (touch_view t) (touch_view u) ≡ true)
  two_share shares =
      let one = any_contains (λ t. list_any (λ u. share_beside plan t u) (map touch_view group)) (map touch_view group) shares in
      let other = any_contains (λ u. share_beside plan one.0 u) (map touch_view group) one.2 in
      let t = contains-map_back touch_view group one.0 one.1 in
      let u = contains-map_back touch_view group other.0 other.1 in
      (t.0, u.0, t.1, u.1, ap (λ v. share_beside plan v (touch_view u.0)) t.2 ∙ ap (λ v. share_beside plan one.0 v) u.2 ∙ other.2)

  -- no touch computes a value
  pub none_computes : list_any (λ t. computes_value (touch_view t)) group ≡ false → false ≡ group_shares plan (map touch_view group)
  none_computes none = sym (false_from_ne_true (group_shares plan (map touch_view group)) (λ shares.
      let two = two_share shares in
      both_ways (list_any (λ t. computes_value (touch_view t)) group) none (any_where (λ t. computes_value (touch_view t)) group two.0 two.2 (computes_shared plan (touch_view two.0) (touch_view two.1) two.4))))

  -- what is noted leaves out none that shares a value
  pub shares_noted : (passed : List (Option Passed)) → AreNoted plan passed (changing (map touch_view group)) → list_any (λ t. has_share plan passed group (touch_view t)) group ≡ group_shares plan (map touch_view group)
  shares_noted passed noted = elim (cases_Bool (group_shares plan (map touch_view group))) [
    | inl is ↦ let two = two_share is in has two.0 two.1 two.2 two.3 two.4 ∙ sym is
    | inr none ↦ false_from_ne_true (list_any (λ t. has_share plan passed group (touch_view t)) group) (λ any. both_ways (group_shares plan (map touch_view group)) none (shares any)) ∙ sym none
  ]
    where
      has : (t u : Touch) → Contains group t → Contains group u → share_beside plan (touch_view t) (touch_view u) ≡ true → list_any (λ t. has_share plan passed group (touch_view t)) group ≡ true
      has t u t_in u_in two =
          let parts = both (shares_value (touch_view t) (touch_view u)) (nodes_beside plan (touch_view t).node (touch_view u).node) two in
          let change = both_change (touch_view t) (touch_view u) parts.0 in
          let t_there = contains_changing (map touch_view group) (touch_view t) change.0 (contains-map touch_view group t t_in) in
          let u_there = contains_changing (map touch_view group) (touch_view u) change.1 (contains-map touch_view group u u_in) in
          let meet = meets_where plan passed (changing (map touch_view group)) noted false (touch_view t) (touch_view u) t_there u_there (λ so. absurd cc) parts.1 in
          let any = any_where (λ v. share_beside plan (touch_view t) (touch_view v)) group u u_in two in
          any_where (λ v. has_share plan passed group (touch_view v)) group t t_in (both_true _ _ (both_true _ _ (computes_shared plan (touch_view t) (touch_view u) two) meet) any)

      shares : list_any (λ t. has_share plan passed group (touch_view t)) group ≡ true → group_shares plan (map touch_view group) ≡ true
      shares any =
          let one = any_contains (λ t. has_share plan passed group (touch_view t)) group any in
          let t = touch_view one.0 in
          let found = (both (computes_value t && may_meet plan passed false t.node) (list_any (λ u. share_beside plan t (touch_view u)) group) one.2).1 in
          let other = any_contains (λ u. share_beside plan t (touch_view u)) group found in
          any_where (λ v. list_any (λ u. share_beside plan v u) (map touch_view group)) (map touch_view group) t (contains-map touch_view group one.0 one.1)
          (any_where (λ u. share_beside plan t u) (map touch_view group) (touch_view other.0) (contains-map touch_view group other.0 other.1) other.2)

-- ---- in groups

-- a group in which something stands is one of the groups
pub group_within : (groups : List (List TouchText)) (k : ℕ) (t : TouchText) → Contains (group_at groups k) t → k < length groups
group_within [] k t h = contains_nothing t h
group_within (g ∷ groups) zero t h = omega arith
group_within (g ∷ groups) (suc k) t h = let less = group_within groups k t h in omega (arith, less)

pub group_items : (groups : List (Vec Touch Global)) (i : ℕ) (v : Vec Touch Global) (items : List Touch) → i < length groups → v ≡ get_or groups i v → items ≡ v.items → map touch_view items ≡ group_at (groups_view groups) i
group_items groups i v items less is same = ap (map touch_view) same ∙ sym (group_read groups i v less is)

module _ (plan : PlanText) (groups : List (List TouchText)) where
  -- a group shares a value
  pub one_shares : (i : ℕ) (group : List TouchText) (b : Bool) → i < length groups → group ≡ group_at groups i → b ≡ group_shares plan group → b ≡ true → groups_share plan groups ≡ true
  one_shares i group b less at is shares = list_any_at (λ g. group_shares plan g) groups i [] less (ap (λ g. group_shares plan g) (sym at) ∙ sym is ∙ shares)

  -- none of the first does, nor the next
  pub none_more : (i : ℕ) (group : List TouchText) (b : Bool) → i < length groups → group ≡ group_at groups i → b ≡ group_shares plan group → b ≡ false → groups_share plan (take i groups) ≡ false → groups_share plan (take (i + 1) groups) ≡ false
  none_more i group b less at is none so_far =
      let next : group_shares plan (group_at groups i) ≡ false = ap (λ g. group_shares plan g) (sym at) ∙ sym is ∙ none in
      list_any_more (λ g. group_shares plan g) groups i [] less ∙ ap (λ b. b || group_shares plan (group_at groups i)) so_far ∙ next

  -- two touches of one group
  pub shared_in : (k : ℕ) (t u : TouchText) → Contains (group_at groups k) t → Contains (group_at groups k) u → share_beside plan t u ≡ true → groups_share plan groups ≡ true
  shared_in k t u t_in u_in two =
      let some = any_where (λ v. share_beside plan t v) (group_at groups k) u u_in two in
      list_any_at (λ g. group_shares plan g) groups k [] (group_within groups k t t_in) (any_where (λ v. list_any (λ w. share_beside plan v w) (group_at groups k)) (group_at groups k) t t_in some)

-- the group that shares a value
pub sharing : (plan : PlanText) (groups : List (List TouchText)) → groups_share plan groups ≡ true → (k : ℕ) × (group_shares plan (group_at groups k) ≡ true)
sharing plan [] shares = absurd cc
sharing plan (g ∷ groups) shares = elim (cases_Bool (group_shares plan g)) [
  | inl here ↦ (0, here)
  | inr none ↦ let later = sharing plan groups (rw none at shares) in (suc later.0, later.1)
]
