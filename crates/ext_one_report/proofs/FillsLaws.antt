-- How many values are filled at open places: where nothing is, at one place, by one part after another, by parts beside one another, and at fewer places.
use Rattle.std.proofs.Common.{◌≡◌, ℕ, suc, ◌+◌, ◌⊎◌, inl, inr, Bool, true, not, List, [], ◌∷◌, ◌++◌, length, length-append, Contains, Option, None, Some, refl, ap, sym, subst, ◌∙◌, arith}
use Rattle.std.specs.Prelude.{filter, if◌then◌else◌, is_some}
use Rattle.std.proofs.lemmas.List.Elements.{Contains-append_cases, Contains-append_left, Contains-append_right}
use Rattle.std.proofs.lemmas.List.Filters.{length-filter_both}
use Rattle.ext_history.proofs.Lists.{bools, contains_cons, contains_filter, contains_from_filter, contains_here, contains_later, contains_none}
use Rattle.ext_history.proofs.Once.{Once, once-append}
use Rattle.ext_tree.specs.Keys.{KeyValue}
use Rattle.ext_plan.specs.Values.{ValueText}
use Rattle.ext_plan_plain.specs.ValueStates.{ValueState}
use Rattle.ext_one_report.proofs.Fills.{Fills, FillsAs, FillsBeside, FillsNarrow, FillsNone, FillsNoValue, FillsOne, FillsThen, IsSettled, Spot}
use Rattle.ext_one_report.proofs.MatchingWords.{plain_slot}
use Rattle.ext_one_report.proofs.OnCells.{passes, passes_not}
use Rattle.ext_one_report.proofs.Open.{Given, Open, at_place, of_value, some_or_none, still_open, values_of}
use Rattle.ext_one_report.proofs.OpenFits.{at_itself, is_at_place}

-- ---- lists in which nothing stands twice

module _ {A : Type 0} where
  -- the others of such a list
  record AreOthers (ys : List A) (x : A) : Type 0 where
    rest : List A
    size : length ys ≡ suc (length rest)
    once : Once rest
    gone : ¬ Contains rest x
    into : (y : A) → Contains rest y → Contains ys y
    from : (y : A) → Contains ys y → (x ≡ y) ⊎ Contains rest y

  others_of : (ys : List A) (x : A) → Once ys → Contains ys x → AreOthers ys x
  others_of [] x once there = absurd (contains_none x there)
  others_of (y ∷ ys) x once there = elim (contains_cons y ys x there) [
    | inl same ↦ record {
      rest = ys;
      size = refl;
      once = once.1;
      gone = subst (λ z. ¬ Contains ys z) same once.0;
      into = λ z inside. contains_later y ys z inside;
      from = λ z inside. subst (λ w. (w ≡ z) ⊎ Contains ys z) same (contains_cons y ys z inside);
    }
    | inr later ↦
        let r = others_of ys x once.1 later in
        record {
          rest = y ∷ r.rest;
          size = ap suc r.size;
          once = ((λ inside. once.0 (r.into y inside)), r.once);
          gone = λ inside. elim (contains_cons y r.rest x inside) [
            | inl same ↦ once.0 (subst (Contains ys) (sym same) later)
            | inr deeper ↦ r.gone deeper
          ];
          into = λ z inside. elim (contains_cons y r.rest z inside) [
            | inl same ↦ subst (Contains (y ∷ ys)) same (contains_here y ys)
            | inr deeper ↦ contains_later y ys z (r.into z deeper)
          ];
          from = λ z inside. elim (contains_cons y ys z inside) [
            | inl same ↦ inr (subst (Contains (y ∷ r.rest)) same (contains_here y r.rest))
            | inr deeper ↦ elim (r.from z deeper) [
              | inl is ↦ inl is
              | inr in_rest ↦ inr (contains_later y r.rest z in_rest)
            ]
          ];
        }
  ]

  -- two with the same members are of one length
  pub once_same_length : (xs ys : List A) → Once xs → Once ys → ((x : A) → Contains xs x → Contains ys x) → ((x : A) → Contains ys x → Contains xs x) → length xs ≡ length ys
  once_same_length [] [] once also into from = refl
  once_same_length [] (y ∷ ys) once also into from = absurd (contains_none y (from y (contains_here y ys)))
  once_same_length (x ∷ xs) ys once also into from =
      let r = others_of ys x also (into x (contains_here x xs)) in
      let same = once_same_length xs r.rest once.1 r.once
      (λ y inside. elim (r.from y (into y (contains_later x xs y inside))) [
        | inl is ↦ absurd (once.0 (subst (Contains xs) (sym is) inside))
        | inr deeper ↦ deeper
      ])
      (λ y inside. elim (contains_cons x xs y (from y (r.into y inside))) [
        | inl is ↦ absurd (r.gone (subst (Contains r.rest) (sym is) inside))
        | inr deeper ↦ deeper
      ]) in
      ap suc same ∙ sym r.size

  once_filter : (p : A → Bool) (xs : List A) → Once xs → Once (filter p xs)
  once_filter p [] once = tt
  once_filter p (x ∷ xs) once = elim (bools (p x)) [
    | inl on ↦ subst Once (sym (passes p x xs on)) ((λ inside. once.0 (contains_from_filter p xs x inside)), once_filter p xs once.1)
    | inr off ↦ subst Once (sym (passes_not p x xs off)) (once_filter p xs once.1)
  ]

  -- what a filter leaves passes it
  has_passed : (p : A → Bool) (xs : List A) (x : A) → Contains (filter p xs) x → p x ≡ true
  has_passed p [] x there = absurd (contains_none x there)
  has_passed p (y ∷ xs) x there = elim (bools (p y)) [
    | inl on ↦ elim (contains_cons y (filter p xs) x (subst (λ l. Contains l x) (passes p y xs on) there)) [
      | inl same ↦ subst (λ z. p z ≡ true) same on
      | inr later ↦ has_passed p xs x later
    ]
    | inr off ↦ has_passed p xs x (subst (λ l. Contains l x) (passes_not p y xs off) there)
  ]

-- ---- nothing, and the same by other words

pub fills_none : FillsNone
fills_none Filled o s n none = record {
  mine = [];
  theirs = [];
  mine_once = tt;
  theirs_once = tt;
  mine_settled = λ spot there. absurd (contains_none spot there);
  mine_filled = λ spot there. absurd (contains_none spot there);
  filled_mine = λ spot v is filled. absurd (none spot v is filled);
  theirs_settled = λ spot there. absurd (contains_none spot there);
  theirs_none = λ spot there. absurd (contains_none spot there);
  none_theirs = λ spot settled empty. absurd (cc (sym settled.was_open ∙ settled.closed));
  balance = refl;
}

pub fills_as : FillsAs
fills_as Filled Also o later s lanes plain more others into from same also fills = record {
  mine = fills.mine;
  theirs = fills.theirs;
  mine_once = fills.mine_once;
  theirs_once = fills.theirs_once;
  mine_settled = fills.mine_settled;
  mine_filled = λ spot there. let settled = fills.mine_settled spot there in into spot settled.value settled.was_open (fills.mine_filled spot there);
  filled_mine = λ spot v is filled. fills.filled_mine spot v is (from spot v is filled);
  theirs_settled = fills.theirs_settled;
  theirs_none = fills.theirs_none;
  none_theirs = fills.none_theirs;
  balance = let both = fills.balance in omega (arith, both, same, also);
}

-- ---- one place

-- the list of one spot or of none, by how many have this
record IsListed (here : Spot) (n : ℕ) (Has : Spot → Type 0) : Type 0 where
  list : List Spot
  once : Once list
  size : length list ≡ n
  inside : (spot : Spot) → Contains list spot → spot ≡ here
  has : (spot : Spot) → Contains list spot → Has spot
  back : Has here → Contains list here

listed : (here : Spot) (n : ℕ) (Has : Spot → Type 0) → ((n ≡ 1) × Has here) ⊎ ((n ≡ 0) × ¬ Has here) → IsListed here n Has
listed here n Has (inl it_has) = record {
  list = here ∷ [];
  once = ((λ there. contains_none here there), tt);
  size = sym it_has.0;
  inside = λ spot there. only spot there;
  has = λ spot there. subst Has (sym (only spot there)) it_has.1;
  back = λ it. contains_here here [];
}
  where
    only : (spot : Spot) → Contains (here ∷ []) spot → spot ≡ here
    only spot there = elim (contains_cons here [] spot there) [
      | inl same ↦ sym same
      | inr later ↦ absurd (contains_none spot later)
    ]
listed here n Has (inr none) = record {
  list = [];
  once = tt;
  size = sym none.0;
  inside = λ spot there. absurd (contains_none spot there);
  has = λ spot there. absurd (contains_none spot there);
  back = λ it. absurd (none.1 it);
}

module _ (o : Open) (context : ℕ) (key : KeyValue) where
  settles_itself : (v : ValueText) → o context key ≡ Some (of_value v) → IsSettled o (still_open (at_place context key) o) (context, key)
  settles_itself v is_open = record { value = v; was_open = is_open; closed = ap (λ b. if b then None else o context key) (at_itself context key) }

  settles_no_other : (spot : Spot) → IsSettled o (still_open (at_place context key) o) spot → spot ≡ (context, key)
  settles_no_other spot settled = elim (bools (at_place context key spot.0 spot.1)) [
    | inl at ↦ let both = is_at_place context key spot.0 spot.1 at in ap (λ c. (c, spot.1)) both.0 ∙ ap (λ k. (context, k)) both.1
    | inr off ↦ absurd (cc (sym settled.was_open ∙ (ap (λ b. if b then None else o spot.0 spot.1) (sym off) ∙ settled.closed)))
  ]

pub fills_one : FillsOne
fills_one Filled o s context key v lanes plain is_open in_lanes in_plain only =
    let here : Spot = (context, key) in
    let a = listed here lanes Filled in_lanes in
    let b = listed here plain (λ spot. plain_slot s spot.0 spot.1 ≡ None) in_plain in
    let settled : (spot : Spot) → spot ≡ here → IsSettled o (still_open (at_place context key) o) spot =
    λ spot same. subst (IsSettled o (still_open (at_place context key) o)) (sym same) (settles_itself o context key v is_open) in
    record {
      mine = a.list;
      theirs = b.list;
      mine_once = a.once;
      theirs_once = b.once;
      mine_settled = λ spot there. settled spot (a.inside spot there);
      mine_filled = a.has;
      filled_mine = λ spot w is filled. let same = only spot w is filled in subst (Contains a.list) (sym same) (a.back (subst Filled same filled));
      theirs_settled = λ spot there. settled spot (b.inside spot there);
      theirs_none = b.has;
      none_theirs = λ spot was empty. let same = settles_no_other o context key spot was in subst (Contains b.list) (sym same) (b.back (subst (λ (at : Spot). plain_slot s at.0 at.1 ≡ None) same empty));
      balance = let p = a.size in let q = b.size in omega (arith, p, q);
    }

pub fills_no_value : FillsNoValue
fills_no_value Filled o s context key n no_value none = record {
  mine = [];
  theirs = [];
  mine_once = tt;
  theirs_once = tt;
  mine_settled = λ spot there. absurd (contains_none spot there);
  mine_filled = λ spot there. absurd (contains_none spot there);
  filled_mine = λ spot v is filled. absurd (none spot v is filled);
  theirs_settled = λ spot there. absurd (contains_none spot there);
  theirs_none = λ spot there. absurd (contains_none spot there);
  none_theirs = λ spot settled empty.
      let same = settles_no_other o context key spot settled in
      let is : o context key ≡ Some (of_value settled.value) = subst (λ (at : Spot). o at.0 at.1 ≡ Some (of_value settled.value)) same settled.was_open in
      absurd (cc (sym no_value ∙ ap (λ x. values_of (λ c k. x) context key) is));
  balance = refl;
}

-- ---- one part after another

-- what was open is settled by now, or open still
settled_or_open : (o later : Open) (spot : Spot) (v : ValueText) → ((w : Given) → later spot.0 spot.1 ≡ Some w → o spot.0 spot.1 ≡ Some w) → o spot.0 spot.1 ≡ Some (of_value v)
    → IsSettled o later spot ⊎ (later spot.0 spot.1 ≡ Some (of_value v))
settled_or_open o later spot v within is = elim (some_or_none (later spot.0 spot.1)) [
  | inl none ↦ inl (record { value = v; was_open = is; closed = none })
  | inr some ↦ let same : Some some.0 ≡ Some (of_value v) = sym (within some.0 some.1) ∙ is in inr (some.1 ∙ same)
]

-- where fewer are open, none is open that was not
none_of_fewer : (o fewer : Option Given) → ((v : Given) → fewer ≡ Some v → o ≡ Some v) → o ≡ None → fewer ≡ None
none_of_fewer o None within none = refl
none_of_fewer o (Some v) within none = absurd (cc (sym (within v refl) ∙ none))

module _ (o mid last : Open) (first : (context : ℕ) (key : KeyValue) (v : Given) → mid context key ≡ Some v → o context key ≡ Some v)
    (second : (context : ℕ) (key : KeyValue) (v : Given) → last context key ≡ Some v → mid context key ≡ Some v) where
  settled_early : (spot : Spot) → IsSettled o mid spot → IsSettled o last spot
  settled_early spot it = record { value = it.value; was_open = it.was_open; closed = none_of_fewer (mid spot.0 spot.1) (last spot.0 spot.1) (second spot.0 spot.1) it.closed }

  settled_late : (spot : Spot) → IsSettled mid last spot → IsSettled o last spot
  settled_late spot it = record { value = it.value; was_open = first spot.0 spot.1 (of_value it.value) it.was_open; closed = it.closed }

  settled_once : (spot : Spot) → IsSettled o mid spot → IsSettled mid last spot → ⊥
  settled_once spot one two = cc (sym two.was_open ∙ one.closed)

  settled_by : (spot : Spot) → IsSettled o last spot → IsSettled o mid spot ⊎ IsSettled mid last spot
  settled_by spot it = elim (settled_or_open o mid spot it.value (first spot.0 spot.1) it.was_open) [
    | inl early ↦ inl early
    | inr open_still ↦ inr (record { value = it.value; was_open = open_still; closed = it.closed })
  ]

pub fills_then : FillsThen
fills_then First Second Filled o mid last s t lanes plain more others first second same by_either is_first is_second never one two = record {
  mine = one.mine ++ two.mine;
  theirs = one.theirs ++ two.theirs;
  mine_once = once-append one.mine two.mine one.mine_once two.mine_once (λ spot a b. settled_once o mid last first second spot (one.mine_settled spot a) (two.mine_settled spot b));
  theirs_once = once-append one.theirs two.theirs one.theirs_once two.theirs_once (λ spot a b. settled_once o mid last first second spot (one.theirs_settled spot a) (two.theirs_settled spot b));
  mine_settled = λ spot there. elim (Contains-append_cases one.mine two.mine spot there) [
    | inl a ↦ settled_early o mid last first second spot (one.mine_settled spot a)
    | inr b ↦ settled_late o mid last first second spot (two.mine_settled spot b)
  ];
  mine_filled = λ spot there. elim (Contains-append_cases one.mine two.mine spot there) [
    | inl a ↦ is_first spot (one.mine_filled spot a)
    | inr b ↦ is_second spot (two.mine_filled spot b)
  ];
  filled_mine = λ spot v is filled. elim (by_either spot v is filled) [
    | inl a ↦ Contains-append_left one.mine two.mine spot (one.filled_mine spot v is a)
    | inr b ↦ elim (settled_or_open o mid spot v (first spot.0 spot.1) is) [
      | inl early ↦ absurd (never spot early b)
      | inr open_still ↦ Contains-append_right one.mine two.mine spot (two.filled_mine spot v open_still b)
    ]
  ];
  theirs_settled = λ spot there. elim (Contains-append_cases one.theirs two.theirs spot there) [
    | inl a ↦ settled_early o mid last first second spot (one.theirs_settled spot a)
    | inr b ↦ settled_late o mid last first second spot (two.theirs_settled spot b)
  ];
  theirs_none = λ spot there. elim (Contains-append_cases one.theirs two.theirs spot there) [
    | inl a ↦ one.theirs_none spot a
    | inr b ↦ let it = two.theirs_settled spot b in sym (same spot.0 spot.1 (of_value it.value) it.was_open) ∙ two.theirs_none spot b
  ];
  none_theirs = λ spot it empty. elim (settled_by o mid last first second spot it) [
    | inl early ↦ Contains-append_left one.theirs two.theirs spot (one.none_theirs spot early empty)
    | inr late ↦ Contains-append_right one.theirs two.theirs spot (two.none_theirs spot late (same spot.0 spot.1 (of_value late.value) late.was_open ∙ empty))
  ];
  balance =
      let p = one.balance in
      let q = two.balance in
      let a = length-append one.mine two.mine in
      let b = length-append one.theirs two.theirs in
      omega (arith, p, q, a, b);
}

-- ---- parts beside one another

pub fills_beside : FillsBeside
fills_beside First Second Filled wide mid next own left s t lanes plain more others first own_is by_either early late same stands filled_by is_first is_second own_open once one two = record {
  mine = one.mine ++ two.mine;
  theirs = one.theirs ++ two.theirs;
  mine_once = once-append one.mine two.mine one.mine_once two.mine_once
      (λ spot a b. let it = one.mine_settled spot a in once spot it.value it.was_open (one.mine_filled spot a) (two.mine_filled spot b));
  theirs_once = once-append one.theirs two.theirs one.theirs_once two.theirs_once (λ spot a b. stands spot (one.theirs_settled spot a) (two.theirs_none spot b));
  mine_settled = λ spot there. elim (Contains-append_cases one.mine two.mine spot there) [
    | inl a ↦ early spot (one.mine_settled spot a)
    | inr b ↦ late spot (two.mine_settled spot b)
  ];
  mine_filled = λ spot there. elim (Contains-append_cases one.mine two.mine spot there) [
    | inl a ↦ is_first spot (one.mine_filled spot a)
    | inr b ↦ is_second spot (two.mine_filled spot b)
  ];
  filled_mine = λ spot v is filled. elim (filled_by spot v is filled) [
    | inl a ↦ Contains-append_left one.mine two.mine spot (one.filled_mine spot v is a)
    | inr b ↦ Contains-append_right one.mine two.mine spot (two.filled_mine spot v (own_open spot v is b) b)
  ];
  theirs_settled = λ spot there. elim (Contains-append_cases one.theirs two.theirs spot there) [
    | inl a ↦ early spot (one.theirs_settled spot a)
    | inr b ↦ late spot (two.theirs_settled spot b)
  ];
  theirs_none = λ spot there. elim (Contains-append_cases one.theirs two.theirs spot there) [
    | inl a ↦ one.theirs_none spot a
    | inr b ↦
        let it = two.theirs_settled spot b in
        elim (settled_or_open wide mid spot it.value (first spot.0 spot.1) (own_is spot.0 spot.1 (of_value it.value) it.was_open)) [
          | inl before ↦ absurd (stands spot before (two.theirs_none spot b))
          | inr open_still ↦ sym (same spot.0 spot.1 (of_value it.value) open_still) ∙ two.theirs_none spot b
        ]
  ];
  none_theirs = λ spot it empty. elim (by_either spot it) [
    | inl a ↦ Contains-append_left one.theirs two.theirs spot (one.none_theirs spot a empty)
    | inr b ↦ elim (settled_or_open wide mid spot b.value (first spot.0 spot.1) (own_is spot.0 spot.1 (of_value b.value) b.was_open)) [
      | inl before ↦ Contains-append_left one.theirs two.theirs spot (one.none_theirs spot before empty)
      | inr open_still ↦ Contains-append_right one.theirs two.theirs spot (two.none_theirs spot b (same spot.0 spot.1 (of_value b.value) open_still ∙ empty))
    ]
  ];
  balance =
      let p = one.balance in
      let q = two.balance in
      let a = length-append one.mine two.mine in
      let b = length-append one.theirs two.theirs in
      omega (arith, p, q, a, b);
}

-- ---- fewer places

abbrev is_open_at : Open → Spot → Bool
is_open_at o spot = is_some (o spot.0 spot.1)

abbrev not_open_at : Open → Spot → Bool
not_open_at o spot = not (is_some (o spot.0 spot.1))

-- those of these spots that are open there, and the others
abbrev its : Open → List Spot → List Spot
its o list = filter (is_open_at o) list

abbrev others : Open → List Spot → List Spot
others o list = filter (not_open_at o) list

value_there : (o : Option Given) → is_some o ≡ true → (v : Given) × (o ≡ Some v)
value_there None is = absurd (cc is)
value_there (Some v) is = (v, refl)

no_value : (o : Option Given) → not (is_some o) ≡ true → o ≡ None
no_value None is = refl
no_value (Some v) is = absurd (cc is)

module _ (Filled : Spot → Type 0) (wide left o later : Open) (s : ValueState) (lanes plain : ℕ) (same : (context : ℕ) (key : KeyValue) (v w : Given) → o context key ≡ Some v → wide context key ≡ Some w → v ≡ w)
    (back : (spot : Spot) (v : ValueText) → o spot.0 spot.1 ≡ Some (of_value v) → IsSettled wide left spot → IsSettled o later spot)
    (rest : (spot : Spot) → IsSettled wide left spot → o spot.0 spot.1 ≡ None → (plain_slot s spot.0 spot.1 ≡ None) × Filled spot) (fills : Fills Filled wide left s lanes plain) where
  settles_its : (list : List Spot) → ((spot : Spot) → Contains list spot → IsSettled wide left spot) → (spot : Spot) → Contains (its o list) spot → IsSettled o later spot
  settles_its list settled spot there =
      let it = value_there (o spot.0 spot.1) (has_passed (is_open_at o) list spot there) in
      let now = settled spot (contains_from_filter (is_open_at o) list spot there) in
      back spot now.value (it.1 ∙ ap (λ v. Some v) (same spot.0 spot.1 it.0 (of_value now.value) it.1 now.was_open)) now

  in_its : (list : List Spot) (spot : Spot) (v : Given) → o spot.0 spot.1 ≡ Some v → Contains list spot → Contains (its o list) spot
  in_its list spot v is there = contains_filter (is_open_at o) list spot (ap is_some is) there

  -- of the others as many were filled in both
  same_others : length (others o fills.mine) ≡ length (others o fills.theirs)
  same_others = once_same_length (others o fills.mine) (others o fills.theirs) (once_filter (not_open_at o) fills.mine fills.mine_once) (once_filter (not_open_at o) fills.theirs fills.theirs_once)
      (λ spot there.
      let off = has_passed (not_open_at o) fills.mine spot there in
      let settled = fills.mine_settled spot (contains_from_filter (not_open_at o) fills.mine spot there) in
      contains_filter (not_open_at o) fills.theirs spot off (fills.none_theirs spot settled (rest spot settled (no_value (o spot.0 spot.1) off)).0))
      (λ spot there.
      let off = has_passed (not_open_at o) fills.theirs spot there in
      let settled = fills.theirs_settled spot (contains_from_filter (not_open_at o) fills.theirs spot there) in
      contains_filter (not_open_at o) fills.mine spot off (fills.filled_mine spot settled.value settled.was_open (rest spot settled (no_value (o spot.0 spot.1) off)).1))

  still_balanced : lanes + length (its o fills.theirs) ≡ plain + length (its o fills.mine)
  still_balanced =
      let both = fills.balance in
      let many = same_others in
      let a = length-filter_both (is_open_at o) (not_open_at o) (λ spot. refl) fills.mine in
      let b = length-filter_both (is_open_at o) (not_open_at o) (λ spot. refl) fills.theirs in
      omega (arith, both, many, a, b)

pub fills_narrow : FillsNarrow
fills_narrow Filled wide left o later s lanes plain same within into back rest fills =
    record {
      mine = its o fills.mine;
      theirs = its o fills.theirs;
      mine_once = once_filter (is_open_at o) fills.mine fills.mine_once;
      theirs_once = once_filter (is_open_at o) fills.theirs fills.theirs_once;
      mine_settled = settles_its Filled wide left o later s lanes plain same back rest fills fills.mine fills.mine_settled;
      mine_filled = λ spot there. fills.mine_filled spot (contains_from_filter (is_open_at o) fills.mine spot there);
      filled_mine = λ spot v is filled. in_its Filled wide left o later s lanes plain same back rest fills fills.mine spot (of_value v) is (fills.filled_mine spot v (within spot.0 spot.1 v is filled) filled);
      theirs_settled = settles_its Filled wide left o later s lanes plain same back rest fills fills.theirs fills.theirs_settled;
      theirs_none = λ spot there. fills.theirs_none spot (contains_from_filter (is_open_at o) fills.theirs spot there);
      none_theirs = λ spot it empty. in_its Filled wide left o later s lanes plain same back rest fills fills.theirs spot (of_value it.value) it.was_open (fills.none_theirs spot (into spot it) empty);
      balance = still_balanced Filled wide left o later s lanes plain same back rest fills;
    }
