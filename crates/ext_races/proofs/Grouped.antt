-- Touches that come into groups one after another.
use Rattle.std.proofs.Common.{◌≡◌, ℕ, zero, suc, ◌<◌, true, List, [], ◌∷◌, ◌++◌, length, map, get_or, set, take, reverse, ◌-◌, Bool, Contains, refl, sym, ap, subst, ◌∙◌, arith, inl, inr, get_or-set_other, get_or-set_same, length-set}
use Rattle.std.specs.List.{list_any}
use Rattle.std.specs.declared.alloc.Global.{Global}
use Rattle.std.specs.Prelude.{Vec}
use Rattle.std.proofs.lemmas.Bool.{cases_Bool, cases_eq}
use Rattle.std.proofs.lemmas.List.{length-map, map-set, length-reverse, get_or-reverse}
use Rattle.ext_plan.proofs.Lists.{map-push}
use Rattle.ext_races.specs.InnerListed.{touch_eq}
use Rattle.ext_races.proofs.Equalities.{touch_is}
use Rattle.std.proofs.lemmas.List.Elements.{Contains-append_left, Contains-append_right, Contains-append_cases}
use Rattle.ext_races.specs.declared.touch.Touch.{Touch}
use Rattle.ext_races.specs.Touches.{TouchText, touch_view}
use Rattle.ext_races.specs.Clashes.{may_fail}
use Rattle.ext_races.specs.InnerGroups.{AreEmpty, IsAdded, IsGrouped, IsPushed, group_at, group_view, groups_view, place_group, close_group}
use Rattle.ext_races.proofs.Lists.{contains_first, contains_later, contains_cases, contains_nothing, contains-map}

-- ---- one group

pub pushed : (before after : List (List TouchText)) (number : ℕ) (t : TouchText) (new : List TouchText) → number < length before → new ≡ group_at before number ++ t ∷ [] → after ≡ set before number new → IsPushed before number t after
pushed before after number t new less is put = record {
  count = ap length put ∙ length-set before number new;
  here = subst (λ g. Contains g t) (sym same) (Contains-append_right (group_at before number) (t ∷ []) t (contains_first t []));
  kept = λ k u there. elim (cases_eq k number) [
    | inl at ↦ subst (λ g. Contains g u) (sym (ap (group_at after) at ∙ same)) (Contains-append_left (group_at before number) (t ∷ []) u (subst (λ j. Contains (group_at before j) u) at there))
    | inr other ↦ subst (λ g. Contains g u) (sym (rest k other)) there
  ];
  only = λ k u there. elim (cases_eq k number) [
    | inl at ↦ elim (Contains-append_cases (group_at before number) (t ∷ []) u (subst (λ g. Contains g u) (ap (group_at after) at ∙ same) there)) [
      | inl old ↦ inl (subst (λ j. Contains (group_at before j) u) (sym at) old)
      | inr last ↦ elim (contains_cases t u [] last) [ inl one ↦ inr (sym one) | inr no_more ↦ contains_nothing u no_more ]
    ]
    | inr other ↦ inl (subst (λ g. Contains g u) (rest k other) there)
  ];
}
  where
    same : group_at after number ≡ group_at before number ++ t ∷ []
    same = ap (λ gs. group_at gs number) put ∙ (let h : number < length before = less in rw get_or-set_same is)

    rest : (k : ℕ) → (k ≡ number → ⊥) → group_at after k ≡ group_at before k
    rest k other = ap (λ gs. group_at gs k) put ∙ (rw get_or-set_other refl)

pub stood : (groups : List (List TouchText)) (number : ℕ) (t : TouchText) → Contains (group_at groups number) t → IsPushed groups number t groups
stood groups number t there = record { count = refl; here = there; kept = λ k u h. h; only = λ k u h. inl h }

-- ---- in memory

module _ {A : Type 0} (p : A → Bool) where
  pub any_contains : (xs : List A) → list_any p xs ≡ true → (x : A) × Contains xs x × (p x ≡ true)
  any_contains [] h = absurd cc
  any_contains (x ∷ xs) h = elim (cases_Bool (p x)) [
    | inl here ↦ (x, contains_first x xs, here)
    | inr not_here ↦ let rest = any_contains xs (rw not_here at h) in (rest.0, contains_later x rest.0 xs rest.1, rest.2)
  ]

contains-take : {A : Type 0} (k : ℕ) (xs : List A) (x : A) → Contains (take k xs) x → Contains xs x
contains-take zero xs x h = contains_nothing x h
contains-take (suc k) [] x h = h
contains-take (suc k) (y ∷ xs) x h = elim (contains_cases y x (take k xs) h) [
  | inl here ↦ (0, omega arith, here)
  | inr later ↦ contains_later y x xs (contains-take k xs x later)
]

contains-reverse : {A : Type 0} (xs : List A) (x : A) → Contains (reverse xs) x → Contains xs x
contains-reverse xs x (k, less, is) =
    let within : k < length xs = (let e = length-reverse xs in omega (arith, less, e)) in
    (length xs - 1 - k, omega (arith, within), sym (get_or-reverse xs k x within) ∙ is)

-- a touch that is one of the last of a group stands in it
pub among : (k : ℕ) (group : List Touch) (t : TouchText) → list_any (λ other. touch_eq (touch_view other) t) (take k (reverse group)) ≡ true → Contains (map touch_view group) t
among k group t h =
    let found = any_contains (λ other. touch_eq (touch_view other) t) (take k (reverse group)) h in
    subst (λ u. Contains (map touch_view group) u) (touch_is (touch_view found.0) t found.2)
    (contains-map touch_view group found.0 (contains-reverse group found.0 (contains-take k (reverse group) found.0 found.1)))

pub group_read : (groups : List (Vec Touch Global)) (number : ℕ) (v : Vec Touch Global) → number < length groups → v ≡ get_or groups number v → group_at (groups_view groups) number ≡ group_view v
group_read [] number v less is = absurd (omega (arith, less))
group_read (g ∷ groups) zero v less is = ap group_view (sym is)
group_read (g ∷ groups) (suc number) v less is = group_read groups number v (omega (arith, less)) is

pub push_is : (groups : List (Vec Touch Global)) (number : ℕ) (v new : Vec Touch Global) (t : Touch) → number < length groups → v ≡ get_or groups number v → new.items ≡ v.items ++ t ∷ []
    → IsPushed (groups_view groups) number (touch_view t) (groups_view (set groups number new))
push_is groups number v new t less is items =
    pushed (groups_view groups) (groups_view (set groups number new)) number (touch_view t) (group_view new) (rw (length-map groups group_view) less)
    (ap (map touch_view) items ∙ map-push touch_view v.items t ∙ ap (λ g. g ++ touch_view t ∷ []) (sym (group_read groups number v less is))) (map-set group_view groups number new)

pub stood_is : (groups : List (Vec Touch Global)) (number : ℕ) (v : Vec Touch Global) (items : List Touch) (t : TouchText) → number < length groups → v ≡ get_or groups number v → items ≡ v.items
    → Contains (map touch_view items) t → IsPushed (groups_view groups) number t (groups_view groups)
stood_is groups number v items t less is same there =
    stood (groups_view groups) number t (subst (λ g. Contains g t) (ap (map touch_view) same ∙ sym (group_read groups number v less is)) there)

-- ---- one touch in its groups

pub added_place : (keys : ℕ) (before after : List (List TouchText)) (t : TouchText) → IsPushed before (place_group keys t) t after → (may_fail t ≡ true → ⊥) → IsAdded keys (t ∷ []) before after
added_place keys before after t p safe = record {
  count = p.count;
  kept = p.kept;
  only = λ k u h. elim (p.only k u h) [ inl old ↦ inl old | inr is ↦ inr (subst (λ x. Contains (t ∷ []) x) (sym is) (contains_first t [])) ];
  places = λ u h. one u h (λ x. Contains (group_at after (place_group keys x)) x) p.here;
  closes = λ u h. one u h (λ x. may_fail x ≡ true → Contains (group_at after (close_group keys x)) x) (λ fails. absurd (safe fails));
}
  where
    one : (u : TouchText) → Contains (t ∷ []) u → (P : TouchText → Type 0) → P t → P u
    one u h P here = elim (contains_cases t u [] h) [ inl is ↦ subst P is here | inr no_more ↦ contains_nothing u no_more ]

pub added_both : (keys : ℕ) (before between after : List (List TouchText)) (t : TouchText) → IsPushed before (place_group keys t) t between → IsPushed between (close_group keys t) t after → IsAdded keys (t ∷ []) before after
added_both keys before between after t p q = record {
  count = q.count ∙ p.count;
  kept = λ k u h. q.kept k u (p.kept k u h);
  only = λ k u h. elim (q.only k u h) [
    | inl old ↦ elim (p.only k u old) [ inl older ↦ inl older | inr is ↦ inr (subst (λ x. Contains (t ∷ []) x) (sym is) (contains_first t [])) ]
    | inr is ↦ inr (subst (λ x. Contains (t ∷ []) x) (sym is) (contains_first t []))
  ];
  places = λ u h. one u h (λ x. Contains (group_at after (place_group keys x)) x) (q.kept (place_group keys t) t p.here);
  closes = λ u h. one u h (λ x. may_fail x ≡ true → Contains (group_at after (close_group keys x)) x) (λ fails. q.here);
}
  where
    one : (u : TouchText) → Contains (t ∷ []) u → (P : TouchText → Type 0) → P t → P u
    one u h P here = elim (contains_cases t u [] h) [ inl is ↦ subst P is here | inr no_more ↦ contains_nothing u no_more ]

-- ---- many

pub added_none : (keys : ℕ) (groups : List (List TouchText)) → IsAdded keys [] groups groups
added_none keys groups = record { count = refl; kept = λ k t h. h; only = λ k t h. inl h; places = λ t h. contains_nothing t h; closes = λ t h. contains_nothing t h }

pub added_more : (keys : ℕ) (first second : List TouchText) (before between after : List (List TouchText)) → IsAdded keys first before between → IsAdded keys second between after → IsAdded keys (first ++ second) before after
added_more keys first second before between after p q = record {
  count = q.count ∙ p.count;
  kept = λ k t h. q.kept k t (p.kept k t h);
  only = λ k t h. elim (q.only k t h) [
    | inl old ↦ elim (p.only k t old) [ inl older ↦ inl older | inr new ↦ inr (Contains-append_left first second t new) ]
    | inr new ↦ inr (Contains-append_right first second t new)
  ];
  places = λ t h. elim (Contains-append_cases first second t h) [ inl old ↦ q.kept (place_group keys t) t (p.places t old) | inr new ↦ q.places t new ];
  closes = λ t h fails. elim (Contains-append_cases first second t h) [ inl old ↦ q.kept (close_group keys t) t (p.closes t old fails) | inr new ↦ q.closes t new fails ];
}

pub grouped : (keys : ℕ) (touches : List TouchText) (before after : List (List TouchText)) → AreEmpty before → IsAdded keys touches before after → IsGrouped keys touches after
grouped keys touches before after empty p = record {
  only = λ k t h. elim (p.only k t h) [ inl old ↦ absurd (empty k t old) | inr new ↦ new ];
  places = p.places;
  closes = p.closes;
}

-- ---- groups of nothing

empty_one : (k : ℕ) (t : TouchText) → Contains (group_at ([] ∷ []) k) t → ⊥
empty_one zero t h = contains_nothing t h
empty_one (suc k) t h = contains_nothing t h

empty_more : (groups : List (List TouchText)) → AreEmpty groups → AreEmpty (groups ++ [] ∷ [])
empty_more [] empty k t h = empty_one k t h
empty_more (g ∷ groups) empty zero t h = empty 0 t h
empty_more (g ∷ groups) empty (suc k) t h = empty_more groups (λ j. empty (suc j)) k t h

pub empty_pushed : (groups after : List (Vec Touch Global)) (v : Vec Touch Global) → AreEmpty (groups_view groups) → v.items ≡ [] → after ≡ groups ++ v ∷ [] → AreEmpty (groups_view after)
empty_pushed groups after v empty none put =
    subst AreEmpty (sym (ap groups_view put ∙ map-push group_view groups v ∙ ap (λ g. groups_view groups ++ g ∷ []) (ap (map touch_view) none))) (empty_more (groups_view groups) empty)
