-- What is listed of groups: each race of two touches of a group once, and no other, up to so many.
use Rattle.std.proofs.Common.{◌≡◌, ◌≢◌, ℕ, ◌<◌, ◌≤◌, Bool, true, false, List, [], ◌∷◌, ◌++◌, length, Contains, AllPairs, All, refl, sym, ap, subst, ◌∙◌, arith, inl, inr, append-nil, append_assoc, length-append}
use Rattle.std.specs.Prelude.{fold, map, not, nat_lt, ◌&&◌, ◌||◌, if◌then◌else◌}
use Rattle.std.specs.List.{list_any}
use Rattle.std.proofs.lemmas.Bool.{cases_Bool, true≢false}
use Rattle.std.proofs.lemmas.List.Folds.{fold_stays}
use Rattle.std.proofs.lemmas.List.Elements.{All-nil, All-push, Contains-append_left, Contains-append_right}
use Rattle.ext_plan.specs.Plans.{PlanText}
use Rattle.ext_tree.proofs.Numbers.{different_with}
use Rattle.ext_races.specs.declared.race.Race.{Race}
use Rattle.ext_races.specs.InnerListed.{group_listed, groups_listed, pair_listed, race, race_eq, touch_listed, with_race}
use Rattle.ext_races.specs.Races.{race_of}
use Rattle.ext_races.specs.declared.touch.Touch.{Touch}
use Rattle.ext_races.specs.Touches.{TouchText, touch_view}
use Rattle.ext_races.proofs.Equalities.{both, race_is, race_same}
use Rattle.ext_races.proofs.Grouped.{any_contains}
use Rattle.ext_races.proofs.Lists.{contains_first, contains_later, contains_cases, contains_nothing, contains-map_back}

-- ---- what is listed stays listed

abbrev Grows : List Race → List Race → Type 0
Grows old new = (more : List Race) × (new ≡ old ++ more)

grows_same : (listed : List Race) → Grows listed listed
grows_same listed = ([], sym (append-nil listed))

grows_on : (a b c : List Race) → Grows a b → Grows b c → Grows a c
grows_on a b c (xs, p) (ys, q) = (xs ++ ys, q ∙ ap (λ l. l ++ ys) p ∙ append_assoc a xs ys)

grows_contains : (a b : List Race) (r : Race) → Grows a b → Contains a r → Contains b r
grows_contains a b r (xs, p) h = subst (λ l. Contains l r) (sym p) (Contains-append_left a xs r h)

grows_long : (a b : List Race) → Grows a b → length a ≤ length b
grows_long a b (xs, p) = let long = ap length p ∙ length-append a xs in omega (arith, long)

module _ {A : Type 0} (f : List Race → A → List Race) (step : (listed : List Race) (x : A) → Grows listed (f listed x)) where
  fold_grows : (listed : List Race) (xs : List A) → Grows listed (fold f listed xs)
  fold_grows listed [] = grows_same listed
  fold_grows listed (x ∷ xs) = grows_on listed (f listed x) (fold f (f listed x) xs) (step listed x) (fold_grows (f listed x) xs)

  -- the step of each element is made
  reached : (listed : List Race) (xs : List A) (x : A) → Contains xs x → (middle : List Race) × Grows (f middle x) (fold f listed xs)
  reached listed [] x h = contains_nothing x h
  reached listed (y ∷ xs) x h = elim (contains_cases y x xs h) [
    | inl here ↦ (listed, subst (λ z. Grows (f listed z) (fold f (f listed y) xs)) here (fold_grows (f listed y) xs))
    | inr later ↦ reached (f listed y) xs x later
  ]

module _ {A : Type 0} (f : List Race → A → List Race) (I : List Race → Type 0) where
  -- what each step keeps is kept
  fold_keeps : (xs : List A) → ((listed : List Race) (x : A) → Contains xs x → I listed → I (f listed x)) → (listed : List Race) → I listed → I (fold f listed xs)
  fold_keeps [] step listed start = start
  fold_keeps (x ∷ xs) step listed start = fold_keeps xs (λ t y h. step t y (contains_later x y xs h)) (f listed x) (step listed x (contains_first x xs) start)

-- ---- one race more

module _ (most : ℕ) (listed : List Race) (r : Race) where
  more_or_same : (b : Bool) → (nat_lt (length listed) most && not (list_any (λ other. race_eq other r) listed)) ≡ b → with_race most listed r ≡ (if b then listed ++ r ∷ [] else listed)
  more_or_same b e = ap (λ c. if c then listed ++ r ∷ [] else listed) e

  with_grows : Grows listed (with_race most listed r)
  with_grows = elim (cases_Bool (nat_lt (length listed) most && not (list_any (λ other. race_eq other r) listed))) [
    | inl go ↦ (r ∷ [], more_or_same true go)
    | inr stay ↦ ([], more_or_same false stay ∙ sym (append-nil listed))
  ]

  with_listed : length (with_race most listed r) < most → Contains (with_race most listed r) r
  with_listed less = elim (cases_Bool (list_any (λ other. race_eq other r) listed)) [
    | inl there ↦
        let found = any_contains (λ other. race_eq other r) listed there in
        grows_contains listed (with_race most listed r) r with_grows (subst (Contains listed) (race_is found.0 r found.2) found.1)
    | inr missing ↦
        let long = grows_long listed (with_race most listed r) with_grows in
        let room : length listed < most = omega (arith, long, less) in
        let go : (nat_lt (length listed) most && not (list_any (λ other. race_eq other r) listed)) ≡ true = rw missing (grind (arith, room)) in
        subst (λ l. Contains l r) (sym (more_or_same true go)) (Contains-append_right listed (r ∷ []) r (contains_first r []))
  ]

-- what is listed all along
pub record AreListed (P : Race → Type 0) (most : ℕ) (listed : List Race) : Type 0 where
  pub found : All P listed
  pub different : AllPairs (λ a b. a ≢ b) listed
  pub few : length listed ≤ most

any_from : (listed : List Race) (r : Race) → Contains listed r → list_any (λ other. race_eq other r) listed ≡ true
any_from [] r h = contains_nothing r h
any_from (x ∷ listed) r h = elim (cases_Bool (race_eq x r)) [
  | inl here ↦ rw here refl
  | inr not_here ↦ elim (contains_cases x r listed h) [
    | inl is ↦ absurd (true≢false (sym (race_same r) ∙ ap (λ z. race_eq z r) (sym is) ∙ not_here))
    | inr later ↦ rw not_here (any_from listed r later)
  ]
]

with_kept : (P : Race → Type 0) (most : ℕ) (listed : List Race) (r : Race) → P r → AreListed P most listed → AreListed P most (with_race most listed r)
with_kept P most listed r p are = elim (cases_Bool (nat_lt (length listed) most && not (list_any (λ other. race_eq other r) listed))) [
  | inl go ↦
      let parts = both (nat_lt (length listed) most) (not (list_any (λ other. race_eq other r) listed)) go in
      let few : length (listed ++ r ∷ []) ≤ most = (let room = parts.0 in let long = length-append listed (r ∷ []) in let less : length listed < most = grind (arith, room) in omega (arith, long, less)) in
      subst (AreListed P most) (sym (more_or_same most listed r true go)) (record {
        found = All-push P listed r are.found p;
        different = different_with listed r are.different (λ there. absurd (let no = parts.1 in let found = any_from listed r there in cc));
        few = few;
      })
  | inr stay ↦ subst (AreListed P most) (sym (more_or_same most listed r false stay)) are
]

-- ---- all of it

module _ (plan : PlanText) (most : ℕ) where
  pair_grows : (t : TouchText) (listed : List Race) (u : TouchText) → Grows listed (pair_listed plan most t listed u)
  pair_grows t listed u = elim (cases_Bool (race plan t u)) [
    | inl clash ↦ subst (λ b. Grows listed (if b then with_race most listed (race_of t u) else listed)) (sym clash) (with_grows most listed (race_of t u))
    | inr none ↦ subst (λ b. Grows listed (if b then with_race most listed (race_of t u) else listed)) (sym none) (grows_same listed)
  ]

  touch_grows : (group : List TouchText) (listed : List Race) (t : TouchText) → Grows listed (touch_listed plan most group listed t)
  touch_grows group listed t = fold_grows (pair_listed plan most t) (pair_grows t) listed group

  group_grows : (listed : List Race) (group : List TouchText) → Grows listed (group_listed plan most listed group)
  group_grows listed group = fold_grows (touch_listed plan most group) (touch_grows group) listed group

  -- each race of two touches of a group is listed, where fewer than so many are
  pub all_listed : (groups : List (List TouchText)) (group : List TouchText) (t u : TouchText) → Contains groups group → Contains group t → Contains group u → race plan t u ≡ true
      → length (groups_listed plan most groups) < most → Contains (groups_listed plan most groups) (race_of t u)
  all_listed groups group t u in_groups t_in u_in clash less =
      let one = reached (group_listed plan most) group_grows [] groups group in_groups in
      let two = reached (touch_listed plan most group) (touch_grows group) one.0 group t t_in in
      let three = reached (pair_listed plan most t) (pair_grows t) two.0 group u u_in in
      let to_end = grows_on (pair_listed plan most t three.0 u) (touch_listed plan most group two.0 t) (groups_listed plan most groups) three.1 (grows_on (touch_listed plan most group two.0 t) (group_listed plan most one.0 group) (groups_listed plan most groups) two.1 one.1) in
      let long = grows_long (pair_listed plan most t three.0 u) (groups_listed plan most groups) to_end in
      let here : pair_listed plan most t three.0 u ≡ with_race most three.0 (race_of t u) = ap (λ b. if b then with_race most three.0 (race_of t u) else three.0) clash in
      let short = ap length here in
      let last = with_listed most three.0 (race_of t u) (omega (arith, long, short, less)) in
      grows_contains (pair_listed plan most t three.0 u) (groups_listed plan most groups) (race_of t u) to_end (subst (λ l. Contains l (race_of t u)) (sym here) last)

  module _ (P : Race → Type 0) where
    pair_kept : (t : TouchText) (listed : List Race) (u : TouchText) → (race plan t u ≡ true → P (race_of t u)) → AreListed P most listed → AreListed P most (pair_listed plan most t listed u)
    pair_kept t listed u p are = elim (cases_Bool (race plan t u)) [
      | inl clash ↦ subst (λ b. AreListed P most (if b then with_race most listed (race_of t u) else listed)) (sym clash) (with_kept P most listed (race_of t u) (p clash) are)
      | inr none ↦ subst (λ b. AreListed P most (if b then with_race most listed (race_of t u) else listed)) (sym none) are
    ]

    -- what holds of each such race holds of each that is listed; none is listed twice, and at most so many are
    pub only_listed : (groups : List (List TouchText))
        → ((group : List TouchText) (t u : TouchText) → Contains groups group → Contains group t → Contains group u → race plan t u ≡ true → P (race_of t u))
        → AreListed P most (groups_listed plan most groups)
    only_listed groups each =
        fold_keeps (group_listed plan most) (AreListed P most) groups
        (λ listed group in_groups. fold_keeps (touch_listed plan most group) (AreListed P most) group
        (λ listed t t_in. fold_keeps (pair_listed plan most t) (AreListed P most) group
        (λ listed u u_in. pair_kept t listed u (each group t u in_groups t_in u_in)) listed) listed)
        [] (record { found = All-nil P; different = λ i j d less within. absurd (omega (arith, less, within)); few = omega arith })

-- ---- nothing more is listed

pub looks_only : (plan : PlanText) (most : ℕ) (group : List TouchText) (listed : List Race) (t : TouchText) → t.changes ≡ false → touch_listed plan most group listed t ≡ listed
looks_only plan most group listed t none = fold_stays (pair_listed plan most t) listed (λ u. rw none refl) group

pub all_are_listed : (plan : PlanText) (most : ℕ) (group : List TouchText) (listed : List Race) (t : TouchText) → most ≤ length listed → touch_listed plan most group listed t ≡ listed
all_are_listed plan most group listed t full = fold_stays (pair_listed plan most t) listed (λ u. by (race plan t u) u) group
  where
    no_room : nat_lt (length listed) most ≡ false
    no_room = grind (arith, full)

    by : (b : Bool) (u : TouchText) → (if b then with_race most listed (race_of t u) else listed) ≡ listed
    by true u = rw no_room refl
    by false u = refl

-- ---- a group in which nothing may be listed

fold_stays_in : {A : Type 0} (f : List Race → A → List Race) (listed : List Race) (xs : List A) → ((x : A) → Contains xs x → f listed x ≡ listed) → fold f listed xs ≡ listed
fold_stays_in f listed xs stays = fold_keeps f (λ r. r ≡ listed) xs (λ r x h same. ap (λ q. f q x) same ∙ stays x h) listed refl

none_in : {A : Type 0} (p : A → Bool) (xs : List A) → list_any p xs ≡ false → (x : A) → Contains xs x → p x ≡ false
none_in p [] none x h = contains_nothing x h
none_in p (y ∷ xs) none x h = elim (cases_Bool (p y)) [
  | inl is ↦ absurd (true≢false (sym (ap (λ b. b || list_any p xs) is) ∙ none))
  | inr is_not ↦ elim (contains_cases y x xs h) [
    | inl here ↦ ap p (sym here) ∙ is_not
    | inr later ↦ none_in p xs (rw is_not at none) x later
  ]
]

pub group_full : (plan : PlanText) (most : ℕ) (group : List TouchText) (listed : List Race) → most ≤ length listed → group_listed plan most listed group ≡ listed
group_full plan most group listed full = fold_stays (touch_listed plan most group) listed (λ t. all_are_listed plan most group listed t full) group

pub group_looks : (plan : PlanText) (most : ℕ) (group : List Touch) (listed : List Race) → list_any (λ t. t.changes) group ≡ false → group_listed plan most listed (map touch_view group) ≡ listed
group_looks plan most group listed none =
    fold_stays_in (touch_listed plan most (map touch_view group)) listed (map touch_view group) (λ t h.
    let from = contains-map_back touch_view group t h in
    looks_only plan most (map touch_view group) listed t (ap (λ u. u.changes) (sym from.2) ∙ none_in (λ t. t.changes) group none from.0 from.1))

pub touch_alone : (plan : PlanText) (most : ℕ) (group : List TouchText) (listed : List Race) (t : TouchText) → ((u : TouchText) → Contains group u → race plan t u ≡ true → ⊥) → touch_listed plan most group listed t ≡ listed
touch_alone plan most group listed t alone = fold_stays_in (pair_listed plan most t) listed group (λ u h. elim (cases_Bool (race plan t u)) [
  | inl is ↦ absurd (alone u h is)
  | inr none ↦ ap (λ b. if b then with_race most listed (race_of t u) else listed) none
])
