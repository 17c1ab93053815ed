-- How much of a path is below what steps computed, as it is noted for each key, one step after another.
use Rattle.std.proofs.Common.{◌≡◌, ◌≢◌, ℕ, zero, suc, ◌<◌, ◌≤◌, Bool, true, false, List, [], ◌∷◌, ◌++◌, Some, None, All, Option, length, get_or, set, take, refl, sym, ap, subst, ◌∙◌, arith, inl, inr}
use Rattle.std.specs.Prelude.{◌&&◌, ◌||◌, if◌then◌else◌, min, nat_lt, slice_get}
use Rattle.std.specs.List.{list_any}
use Rattle.std.proofs.Math.Bool.{or-false}
use Rattle.std.proofs.Math.Nat.{min-eq_left, min-eq_right, min-le_left, min-le_right}
use Rattle.std.proofs.lemmas.Bool.{cases_Bool, cases_lt, lt-ltb, true≢false}
use Rattle.std.proofs.lemmas.List.{get_or-set_other, get_or-set_same, length-set, length-take, take_all}
use Rattle.std.proofs.lemmas.List.Elements.{All-take}
use Rattle.std.proofs.lemmas.List.Folds.{list_any-append}
use Rattle.ext_tree.specs.Keys.{KeyValue}
use Rattle.ext_tree.specs.Traits.{key_eq}
use Rattle.ext_tree.proofs.Equalities.{keys_Decides}
use Rattle.ext_plan.specs.Plans.{KeyText, StepText}
use Rattle.ext_plan.specs.StepWords.{changes, gives_value}
use Rattle.ext_plan.specs.StoreKeys.{is_there, key_of_step, number_of_key}
use Rattle.ext_plan.proofs.KeyLists.{has_key_number, key_number_within}
use Rattle.ext_races.specs.declared.made.MadeStep.{MadeStep}
use Rattle.ext_races.specs.Acts.{ActText, act_of}
use Rattle.ext_races.specs.InnerMade.{before_in}
use Rattle.ext_races.specs.InnerReach.{AreWhole, Tells, below_at, is_computed, noted}
use Rattle.ext_races.specs.Touches.{ComputeText, below_act, below_computes, computes_key, found_above, reach}

-- ---- lists

take_fewer : {A : Type 0} (n m : ℕ) (xs : List A) → n ≤ m → take n (take m xs) ≡ take n xs
take_fewer zero m xs less = refl
take_fewer (suc n) zero xs less = absurd (omega (arith, less))
take_fewer (suc n) (suc m) [] less = refl
take_fewer (suc n) (suc m) (x ∷ xs) less = ap (λ ys. x ∷ ys) (take_fewer n m xs (omega (arith, less)))

take_short : {A : Type 0} (n m : ℕ) (xs : List A) → m ≤ n → take n (take m xs) ≡ take m xs
take_short n m xs less = take_all n (take m xs) (let long = length-take m xs in grind (arith, long, less))

-- no path is longer
take_up : {A : Type 0} (up : ℕ) (xs : List A) → length xs ≤ 16 → take (min up 16) xs ≡ take up xs
take_up up xs short = elim (cases_lt 16 up) [
  | inl more ↦ ap (λ n. take n xs) (min-eq_right (omega (arith, more))) ∙ take_all 16 xs short ∙ sym (take_all up xs (omega (arith, more, short)))
  | inr few ↦ ap (λ n. take n xs) (min-eq_left (omega (arith, few)))
]

lt_so : (a b : ℕ) → a < b → nat_lt a b ≡ true
lt_so a b less = lt-ltb a b less

any_push : {A : Type 0} (p : A → Bool) (xs : List A) (x : A) → list_any p (xs ++ x ∷ []) ≡ (list_any p xs || p x)
any_push p xs x = list_any-append p xs (x ∷ []) ∙ ap (λ b. list_any p xs || b) (or-false (p x))

pub below_push : (declared : List KeyText) (key : KeyValue) (path : List ℕ) (before : List StepText) (step : StepText)
    → below_computes declared key path (before ++ step ∷ []) ≡ below_act declared key (below_computes declared key path before) (act_of step)
below_push declared key path [] step = refl
below_push declared key path (first ∷ more) step = below_push declared key (below_act declared key path (act_of first)) more step

-- what is true of a path is true of the part that an act reaches
pub all_seen : (P : ℕ → Type 0) (changed : Bool) (below : ℕ) (path : List ℕ) → All P path → All P (if changed then path else take below path)
all_seen P true below path all = all
all_seen P false below path all = All-take P below path all

-- ---- what is noted

noted_count : (below : List ℕ) (key up : ℕ) (is : Bool) → length (if is then set below key up else below) ≡ length below
noted_count below key up true = length-set below key up
noted_count below key up false = refl

noted_other : (below : List ℕ) (key other up : ℕ) (is : Bool) → other ≢ key → get_or (if is then set below key up else below) other 0 ≡ get_or below other 0
noted_other below key other up true differ = get_or-set_other below key other up 0 differ
noted_other below key other up false differ = refl

module _ (declared : List KeyText) (directory : List KeyValue) where
  pub whole_tells : (below : List ℕ) → length below ≡ length directory → AreWhole below → Tells declared directory [] below
  whole_tells below long whole = record {
    count = long;
    each = λ key path there short.
        let within = key_number_within directory key there in
        ap (λ n. take n path) (whole (number_of_key directory key) (omega (arith, within, long))) ∙ take_all 17 path (omega (arith, short));
    own = λ key there.
        let within = key_number_within directory key there in
        ap (λ n. nat_lt n 17) (whole (number_of_key directory key) (omega (arith, within, long)));
  }

  -- as a step begins
  pub begun : (before : List StepText) (step : MadeStep) (old new : List ℕ) → Tells declared directory before old → length new ≡ length old → (step.first ≡ false → new ≡ old) → (step.first ≡ true → AreWhole new)
      → Tells declared directory (before_in before step) new
  begun before step old new tells long kept whole = elim (cases_Bool step.first) [
    | inl is ↦ rw is (whole_tells new (long ∙ tells.count) (whole is))
    | inr not ↦ rw not (subst (Tells declared directory before) (sym (kept not)) tells)
  ]

  -- behind a step that is no act
  pub no_act : (before : List StepText) (step : StepText) (below : List ℕ) → act_of step ≡ None → Tells declared directory before below → Tells declared directory (before ++ step ∷ []) below
  no_act before step below is tells = record {
    count = tells.count;
    each = λ key path there short. tells.each key path there short ∙ sym (below_push declared key path before step ∙ ap (below_act declared key (below_computes declared key path before)) is);
    own = λ key there. tells.own key there
        ∙ sym (any_push (λ s. computes_key declared key (act_of s)) before step ∙ ap (λ act. list_any (λ s. computes_key declared key (act_of s)) before || computes_key declared key act) is ∙ or-false _);
  }

  apart : (one other : KeyValue) → is_there directory one ≡ true → is_there directory other ≡ true → key_eq one other ≡ false → number_of_key directory other ≢ number_of_key directory one
  apart one other there other_there differ same =
      let both : Some one ≡ Some other = sym (has_key_number directory one there) ∙ ap (slice_get directory) (sym same) ∙ has_key_number directory other other_there in
      let equal : one ≡ other = cc both in
      true≢false (sym ((keys_Decides one other).1 equal) ∙ differ)

  -- behind an act
  module _ (before : List StepText) (step : StepText) (act : ActText) (below : List ℕ) (number : ℕ) (is : act_of step ≡ Some act) (there : is_there directory (key_of_step declared act.key) ≡ true)
      (numbered : number ≡ number_of_key directory (key_of_step declared act.key)) (tells : Tells declared directory before below) where
    abbrev own : KeyValue
    own = key_of_step declared act.key

    abbrev up : ℕ
    up = min act.up 16

    lt_of : (a b : ℕ) → nat_lt a b ≡ true → a < b
    lt_of a b e = grind (arith, e)

    ge_of : (a b : ℕ) → nat_lt a b ≡ false → b ≤ a
    ge_of a b e = grind (arith, e)

    -- the part of a path that is noted for the act's own key
    own_below : (path : List ℕ) (gives less : Bool) → gives_value act.word ≡ gives → nat_lt up (below_at below number) ≡ less → length path ≤ 16
        → take (below_at (if gives && less then set below number up else below) number) path ≡ (if gives && true then take act.up (below_computes declared own path before) else below_computes declared own path before)
    own_below path false less gives is short = ap (λ n. take (below_at below n) path) numbered ∙ tells.each own path there short
    own_below path true true gives is short =
        let within = key_number_within directory own there in
        let long = tells.count in
        let up_less : up < below_at below number = lt_of up (below_at below number) is in
        let few : length (take (below_at below number) path) ≤ 16 = (let e = length-take (below_at below number) path in let le = min-le_right (below_at below number) (length path) in omega (arith, e, le, short)) in
        ap (λ n. take n path) (get_or-set_same below number up 0 (omega (arith, within, long, numbered))) ∙ sym (take_fewer up (below_at below number) path (omega (arith, up_less)))
        ∙ take_up act.up (take (below_at below number) path) few ∙ ap (take act.up) (ap (λ n. take (below_at below n) path) numbered ∙ tells.each own path there short)
    own_below path true false gives is short =
        let up_more : below_at below number ≤ up = ge_of up (below_at below number) is in
        let least = min-le_left act.up 16 in
        let same = ap (λ n. take (below_at below n) path) numbered ∙ tells.each own path there short in
        same ∙ sym (ap (take act.up) (sym same) ∙ take_short act.up (below_at below number) path (omega (arith, up_more, least)) ∙ same)

    -- a key of its own is computed then
    own_computed : (less : Bool) → nat_lt up (below_at below number) ≡ less → is_computed (if less then set below number up else below) number ≡ true
    own_computed true is =
        let within = key_number_within directory own there in
        let long = tells.count in
        let least = min-le_right act.up 16 in
        let now : below_at (set below number up) number ≡ up = get_or-set_same below number up 0 (omega (arith, within, long, numbered)) in
        ap (λ n. nat_lt n 17) now ∙ lt_so up 17 (omega (arith, least))
    own_computed false is =
        let up_more : below_at below number ≤ up = ge_of up (below_at below number) is in
        let least = min-le_right act.up 16 in
        lt_so (below_at below number) 17 (omega (arith, up_more, least))

    other_below : (key : KeyValue) (path : List ℕ) (gives less : Bool) → key_eq own key ≡ false → is_there directory key ≡ true → length path ≤ 16
        → take (below_at (if gives && less then set below number up else below) (number_of_key directory key)) path
        ≡ (if gives && false then take act.up (below_computes declared key path before) else below_computes declared key path before)
    other_below key path gives less differ key_there short =
        let far : number_of_key directory key ≢ number = λ same. apart own key there key_there differ (same ∙ numbered) in
        ap (λ n. take n path) (noted_other below number (number_of_key directory key) up (gives && less) far) ∙ tells.each key path key_there short ∙ sym (unless gives (below_computes declared key path before))
      where
        unless : (gives : Bool) (whole : List ℕ) → (if gives && false then take act.up whole else whole) ≡ whole
        unless true whole = refl
        unless false whole = refl

    pub noted_tells : Tells declared directory (before ++ step ∷ []) (noted below number act)
    noted_tells = record {
      count = noted_count below number up (gives_value act.word && nat_lt up (below_at below number)) ∙ tells.count;
      each = λ key path key_there short.
          one key path key_there short ∙ sym (below_push declared key path before step ∙ ap (below_act declared key (below_computes declared key path before)) is);
      own = λ key key_there. computed key key_there
          ∙ sym (any_push (λ s. computes_key declared key (act_of s)) before step ∙ ap (λ a. list_any (λ s. computes_key declared key (act_of s)) before || computes_key declared key a) is);
    }
      where
        one : (key : KeyValue) (path : List ℕ) → is_there directory key ≡ true → length path ≤ 16
            → take (below_at (noted below number act) (number_of_key directory key)) path ≡ below_act declared key (below_computes declared key path before) (Some act)
        one key path key_there short = elim (cases_Bool (key_eq own key)) [
          | inl same ↦
              let equal : own ≡ key = (keys_Decides own key).0 same in
              subst (λ k. take (below_at (noted below number act) (number_of_key directory k)) path ≡ below_act declared k (below_computes declared k path before) (Some act)) equal
              (rw ((keys_Decides own own).1 refl) (subst (λ n. take (below_at (noted below number act) n) path ≡ (if gives_value act.word && true then take act.up (below_computes declared own path before) else below_computes declared own path before)) numbered
              (own_below path (gives_value act.word) (nat_lt up (below_at below number)) refl refl short)))
          | inr differ ↦ rw differ (other_below key path (gives_value act.word) (nat_lt up (below_at below number)) differ key_there short)
        ]

        computed : (key : KeyValue) → is_there directory key ≡ true
            → is_computed (noted below number act) (number_of_key directory key) ≡ (list_any (λ s. computes_key declared key (act_of s)) before || computes_key declared key (Some act))
        computed key key_there = elim (cases_Bool (key_eq own key)) [
          | inl same ↦
              let equal : own ≡ key = (keys_Decides own key).0 same in
              subst (λ k. is_computed (noted below number act) (number_of_key directory k) ≡ (list_any (λ s. computes_key declared k (act_of s)) before || computes_key declared k (Some act))) equal
              (rw ((keys_Decides own own).1 refl) (subst (λ n. is_computed (noted below number act) n ≡ (list_any (λ s. computes_key declared own (act_of s)) before || (gives_value act.word && true))) numbered
              (own_case (gives_value act.word))))
          | inr differ ↦
              let far : number_of_key directory key ≢ number = λ at. apart own key there key_there differ (at ∙ numbered) in
              ap (λ n. nat_lt n 17) (noted_other below number (number_of_key directory key) up (gives_value act.word && nat_lt up (below_at below number)) far) ∙ tells.own key key_there
              ∙ sym (ap (λ b. list_any (λ s. computes_key declared key (act_of s)) before || (gives_value act.word && b)) differ ∙ never (gives_value act.word) (list_any (λ s. computes_key declared key (act_of s)) before))
        ]
          where
            never : (a b : Bool) → (b || (a && false)) ≡ b
            never true b = or-false b
            never false b = or-false b

            all : (b : Bool) → true ≡ (b || true)
            all true = refl
            all false = refl

            own_case : (gives : Bool) → is_computed (if gives && nat_lt up (below_at below number) then set below number up else below) number ≡ (list_any (λ s. computes_key declared own (act_of s)) before || (gives && true))
            own_case true = own_computed (nat_lt up (below_at below number)) refl ∙ all (list_any (λ s. computes_key declared own (act_of s)) before)
            own_case false = ap (is_computed below) numbered ∙ tells.own own there ∙ sym (or-false (list_any (λ s. computes_key declared own (act_of s)) before))

  -- so much an act reaches
  pub reached : (before : List StepText) (below : List ℕ) (act : ActText) (number : ℕ) (path : List ℕ) → Tells declared directory before below → is_there directory (key_of_step declared act.key) ≡ true
      → number ≡ number_of_key directory (key_of_step declared act.key) → length path ≤ 16 → (if changes act.word then path else take (below_at below number) path) ≡ reach declared before path act
  reached before below act number path tells there numbered short =
      ap (λ part. if changes act.word then path else part) (ap (λ n. take (below_at below n) path) numbered ∙ tells.each (key_of_step declared act.key) path there short)

  -- and so much was found above it
  pub found : (before : List StepText) (below : List ℕ) (act : ActText) (number : ℕ) (above : KeyValue → Option ComputeText) (stood : Option ComputeText) → Tells declared directory before below
      → is_there directory (key_of_step declared act.key) ≡ true → number ≡ number_of_key directory (key_of_step declared act.key) → stood ≡ above (key_of_step declared act.key)
      → (if changes act.word || is_computed below number then None else stood) ≡ found_above declared before above act
  found before below act number above stood tells there numbered same =
      ap (λ b. if changes act.word || b then None else stood) (ap (is_computed below) numbered ∙ tells.own (key_of_step declared act.key) there)
      ∙ ap (λ s. if changes act.word || list_any (λ step. computes_key declared (key_of_step declared act.key) (act_of step)) before then None else s) same
