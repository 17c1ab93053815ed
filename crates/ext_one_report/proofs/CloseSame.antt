-- What the seals of a context keep is the same in a run on several lanes and in the plain run, where the same stood there.
use Rattle.std.proofs.Common.{◌≡◌, ◌≢◌, ◌<◌, ◌≤◌, ◌⊎◌, ◌+◌, ◌*◌, ℕ, zero, suc, true, true≢false, inl, inr, List, [], ◌∷◌, length, map, bytes_eq, Contains, Option, None, Some, refl, ap, sym, subst, ◌∙◌, arith}
use Rattle.std.specs.Prelude.{IsPermutation}
use Rattle.std.proofs.lemmas.Bool.{cases_lt, cases_order}
use Rattle.std.proofs.lemmas.List.Sorted.{IsPermutation-sym, IsPermutation-trans}
use Rattle.std.proofs.lemmas.Slice.Eq.{bytes_eq-Decides}
use Rattle.ext_history.proofs.Lists.{bools}
use Rattle.ext_model.specs.declared.slot.Slot.{Slot}
use Rattle.ext_model.specs.declared.slot.Slot.TheVariants as slot
use Rattle.ext_model.specs.Closed.{first_of}
use Rattle.ext_model.specs.Closing.{kept_by, remaining}
use Rattle.ext_model.proofs.Remaining.{kept_remains, remaining_falls, remaining_kept}
use Rattle.ext_model.specs.History.{History, slots_in}
use Rattle.ext_tree.specs.Keys.{HasNumber, HoldsOther, KeyValue, KnownPlace, PassedBefore, key_at}
use Rattle.ext_tree.specs.Traits.{key_eq}
use Rattle.ext_tree.proofs.Equalities.{keys_Decides}
use Rattle.ext_tree.proofs.KeyPlacing.{key_within, one_key, one_number}
use Rattle.ext_tree.proofs.Numbers.{contains_at, one_place}
use Rattle.ext_plan.specs.StoreKeys.{is_there, number_of_key}
use Rattle.ext_plan.specs.StepTexts.{close_text}
use Rattle.ext_plan.specs.Values.{ValueText, close_fault}
use Rattle.ext_plan.proofs.KeyLists.{has_key_number, key_number_within}
use Rattle.ext_plan_plain.specs.ValueStates.{ValueState, value_of}
use Rattle.ext_plan_plain.proofs.Numberings.{there_by}
use Rattle.ext_one_report.proofs.StoredWords.{number_in}
use Rattle.ext_one_report.proofs.StandingsWords.{AreMatched, Standing, fault, nothing, sealed, standing_of, value}
use Rattle.ext_one_report.proofs.MatchingWords.{HasNumberIn, IsRunView, RunView, TextMeaning, cell_of, plain_meaning, plain_slot}
use Rattle.ext_one_report.proofs.Rooms.{GaveFew}
use Rattle.ext_one_report.proofs.Matching.{number_within, plain_none, plain_there}
use Rattle.ext_one_report.proofs.Standings.{Holds, holds}
use Rattle.ext_one_report.proofs.Closes.{SealsPlaces, seal_of}
use Rattle.ext_one_report.proofs.Levels.{HoldsOnce}
use Rattle.ext_one_report.proofs.OfPlan.{value_in}
use Rattle.ext_one_report.proofs.Orders.{AreInOrder, StandWith}
use Rattle.ext_one_report.proofs.CloseFaults.{closeable}
use Rattle.ext_one_report.proofs.CloseFirst.{closeable_is, fault_is, first_bad}
use Rattle.ext_one_report.proofs.CloseLists.{ArePaired, gather, kept_value, paired, remaining_there, there_of}

-- ---- one place

-- what a seal of a place keeps, by what numbers stand for
abbrev kept_in : (ℕ → Option ValueText) → Option Slot → Option ValueText
kept_in values x = kept_value (λ number. closeable (values number)) (kept_by x)

same_by : (ours theirs : TextMeaning) (x y : Option Slot) (s : Standing ValueText (List ℕ)) → Holds ours s x → Holds theirs s y → kept_in ours.values (seal_of x) ≡ kept_in theirs.values (seal_of y)
same_by ours theirs x y nothing a b = ap (λ k. kept_in ours.values (seal_of k)) a ∙ sym (ap (λ k. kept_in theirs.values (seal_of k)) b)
same_by ours theirs x y (value v) a b =
    ap (λ k. kept_in ours.values (seal_of k)) a.1 ∙ (ap closeable (a.2 ∙ sym b.2) ∙ sym (ap (λ k. kept_in theirs.values (seal_of k)) b.1))
same_by ours theirs x y (fault f) a b = ap (λ k. kept_in ours.values (seal_of k)) a.1 ∙ sym (ap (λ k. kept_in theirs.values (seal_of k)) b.1)
same_by ours theirs x y (sealed None) a b = ap (λ k. kept_in ours.values (seal_of k)) a ∙ sym (ap (λ k. kept_in theirs.values (seal_of k)) b)
same_by ours theirs x y (sealed (Some v)) a b =
    ap (λ k. kept_in ours.values (seal_of k)) a.1 ∙ (ap closeable (a.2 ∙ sym b.2) ∙ sym (ap (λ k. kept_in theirs.values (seal_of k)) b.1))

same_kept : (ours theirs : TextMeaning) (x y : Option Slot) → AreMatched ours theirs x y → kept_in ours.values (seal_of x) ≡ kept_in theirs.values (seal_of y)
same_kept ours theirs x y matched = same_by ours theirs x y matched.standing (holds ours x matched.standing matched.here) (holds theirs y matched.standing matched.there)

-- where the same stands there is no claim
pub no_claim : (ours theirs : TextMeaning) (x y : Option Slot) → AreMatched ours theirs x y → (lane : ℕ) → x ≢ Some (slot.Claim lane)
no_claim ours theirs x y matched lane is = absurd (cc (sym (ap (standing_of ours) is) ∙ matched.here))

-- nothing stands where nothing does
nothing_by : (ours theirs : TextMeaning) (x : Option Slot) (s : Standing ValueText (List ℕ)) → Holds ours s x → Holds theirs s None → x ≡ None
nothing_by ours theirs x nothing a b = a
nothing_by ours theirs x (value v) a b = absurd (cc b.1)
nothing_by ours theirs x (fault f) a b = absurd (cc b.1)
nothing_by ours theirs x (sealed None) a b = absurd (cc b)
nothing_by ours theirs x (sealed (Some v)) a b = absurd (cc b.1)

nothing_there : (ours theirs : TextMeaning) (x : Option Slot) → AreMatched ours theirs x None → x ≡ None
nothing_there ours theirs x matched = nothing_by ours theirs x matched.standing (holds ours x matched.standing matched.here) (holds theirs None matched.standing matched.there)

-- the number that the seal of a place keeps stood in the place
kept_stood : (x : Option Slot) (number : ℕ) → seal_of x ≡ Some (slot.Sealed (Some number)) → number_in x ≡ Some number
kept_stood None number is = absurd (cc is)
kept_stood (Some (slot.Entry n)) number is = cc is
kept_stood (Some (slot.Fault n)) number is = absurd (cc is)
kept_stood (Some (slot.Claim lane)) number is = absurd (cc is)
kept_stood (Some (slot.Sealed kept)) number is = cc is

-- so it is with the number of a value
value_stood : (x : Option Slot) (number : ℕ) → seal_of x ≡ Some (slot.Sealed (Some number)) → value_in x ≡ Some number
value_stood None number is = absurd (cc is)
value_stood (Some (slot.Entry n)) number is = cc is
value_stood (Some (slot.Fault n)) number is = absurd (cc is)
value_stood (Some (slot.Claim lane)) number is = absurd (cc is)
value_stood (Some (slot.Sealed kept)) number is = cc is

-- where a seal keeps a closeable value it keeps its number
kept_place : (values : ℕ → Option ValueText) (x : Option Slot) (v : ValueText) → kept_in values x ≡ Some v → (number : ℕ) × (x ≡ Some (slot.Sealed (Some number))) × (closeable (values number) ≡ Some v)
kept_place values None v is = absurd (cc is)
kept_place values (Some (slot.Entry number)) v is = absurd (cc is)
kept_place values (Some (slot.Fault number)) v is = absurd (cc is)
kept_place values (Some (slot.Claim lane)) v is = absurd (cc is)
kept_place values (Some (slot.Sealed None)) v is = absurd (cc is)
kept_place values (Some (slot.Sealed (Some number))) v is = (number, refl, is)

-- a place whose seal keeps something has a number
has_kept : (values : ℕ → Option ValueText) (x : Option Slot) (v : ValueText) → kept_in values x ≡ Some v → (number : ℕ) × (number_in x ≡ Some number)
has_kept values None v is = absurd (cc is)
has_kept values (Some (slot.Entry number)) v is = absurd (cc is)
has_kept values (Some (slot.Fault number)) v is = absurd (cc is)
has_kept values (Some (slot.Claim lane)) v is = absurd (cc is)
has_kept values (Some (slot.Sealed None)) v is = absurd (cc is)
has_kept values (Some (slot.Sealed (Some number))) v is = (number, refl)

-- ---- the key of a number

-- whether each place before holds another key
passed_or_not : (notes : List KnownPlace) (key : KeyValue) (n : ℕ) → PassedBefore notes key n ⊎ (PassedBefore notes key n → ⊥)
passed_or_not notes key zero = inl (λ place less. absurd (omega (arith, less)))
passed_or_not notes key (suc n) = elim (passed_or_not notes key n) [
  | inr none ↦ inr (λ passed. none (λ place less. passed place (omega (arith, less))))
  | inl before ↦ by_held (key_at notes n) refl before
]
  where
    by_key : (other : KeyValue) → key_at notes n ≡ Some other → PassedBefore notes key n → PassedBefore notes key (suc n) ⊎ (PassedBefore notes key (suc n) → ⊥)
    by_key other is before = elim (bools (key_eq other key)) [
      | inl same ↦ inr (λ passed.
          let o = passed n (omega arith) in
          let both : Some o.other ≡ Some other = sym o.there ∙ is in
          let e : o.other ≡ other = cc both in
          o.differs (e ∙ (keys_Decides other key).0 same))
      | inr differs ↦ inl (λ place less. elim (cases_order place n) [
        | inl same ↦ subst (λ k. HoldsOther notes key k) (sym same) (record { other = other; there = is; differs = λ e. absurd (cc (sym ((keys_Decides other key).1 e) ∙ differs)) })
        | inr (inl below) ↦ before place below
        | inr (inr above) ↦ absurd (omega (arith, less, above))
      ])
    ]

    by_held : (held : Option KeyValue) → key_at notes n ≡ held → PassedBefore notes key n → PassedBefore notes key (suc n) ⊎ (PassedBefore notes key (suc n) → ⊥)
    by_held None is before = inr (λ passed. let o = passed n (omega arith) in absurd (cc (sym is ∙ o.there)))
    by_held (Some other) is before = by_key other is before

-- a number is that of a key, or of none
named_or_not : (run : RunView) (n : ℕ) → ((key : KeyValue) × HasNumberIn run key n) ⊎ ((key : KeyValue) → ¬ HasNumberIn run key n)
named_or_not run n = by_held (key_at run.numbering n) refl
  where
    by_held : (held : Option KeyValue) → key_at run.numbering n ≡ held → ((key : KeyValue) × HasNumberIn run key n) ⊎ ((key : KeyValue) → ¬ HasNumberIn run key n)
    by_held None is = inr (λ key has. absurd (cc (sym is ∙ has.there)))
    by_held (Some key) is = elim (passed_or_not run.numbering key n) [
      | inl before ↦ inl (key, record { there = is; before = before })
      | inr none ↦ inr (λ other has.
          let both : Some other ≡ Some key = sym has.there ∙ is in
          let e : other ≡ key = cc both in
          none (subst (λ k. PassedBefore run.numbering k n) e has.before))
    ]

-- whether the number is that of the key
is_number_or_not : (run : RunView) (key : KeyValue) (n : ℕ) → HasNumberIn run key n ⊎ ¬ HasNumberIn run key n
is_number_or_not run key n = elim (named_or_not run n) [
  | inr none ↦ inr (none key)
  | inl other ↦ elim (bools (key_eq other.0 key)) [
    | inl same ↦ inl (subst (λ k. HasNumberIn run k n) ((keys_Decides other.0 key).0 same) other.1)
    | inr differs ↦ inr (λ has. absurd (cc (sym ((keys_Decides other.0 key).1 (one_key run.numbering n other.0 key other.1.there has.there)) ∙ differs)))
  ]
]

-- whether one below this is
numbered_below : (run : RunView) (key : KeyValue) (bound : ℕ) → ((number : ℕ) × HasNumberIn run key number) ⊎ ((number : ℕ) → number < bound → ¬ HasNumberIn run key number)
numbered_below run key zero = inr (λ number less has. absurd (omega (arith, less)))
numbered_below run key (suc n) = elim (numbered_below run key n) [
  | inl found ↦ inl found
  | inr below ↦ elim (is_number_or_not run key n) [
    | inl has ↦ inl (n, has)
    | inr not_it ↦ inr (λ number less has. elim (cases_order number n) [
      | inl same ↦ not_it (subst (λ k. HasNumberIn run key k) same has)
      | inr (inl before) ↦ below number before has
      | inr (inr after) ↦ absurd (omega (arith, less, after))
    ])
  ]
]

-- a key has a number, or none
pub numbered_or_not : (run : RunView) (key : KeyValue) → ((number : ℕ) × HasNumberIn run key number) ⊎ ((number : ℕ) → ¬ HasNumberIn run key number)
numbered_or_not run key = elim (numbered_below run key (length run.numbering)) [
  | inl found ↦ inl found
  | inr none ↦ inr (λ number has. none number (key_within run.numbering number key has.there) has)
]

-- each number below the count is that of a key
key_there : (keys : List KeyValue) (i : ℕ) → i < length keys → (key : KeyValue) × HasNumber keys key i
key_there [] i less = absurd (omega (arith, less))
key_there (key ∷ keys) zero less = (key, refl)
key_there (key ∷ keys) (suc i) less = key_there keys i (omega (arith, less))

-- ---- the context

module _ (run : RunView) (view : IsRunView run) (node : ℕ) (inside : node < length run.store.tree) (h g : History) (s t : ValueState) (names : List KeyValue) (most : ℕ)
    (matches : (key : KeyValue) (number : ℕ) → HasNumberIn run key number → AreMatched run.meaning (plain_meaning s.values) (slots_in (cell_of run number) h node) (plain_slot s node key))
    (lanes : (key : KeyValue) (number : ℕ) → HasNumberIn run key number → ((lane : ℕ) → slots_in (cell_of run number) h node ≢ Some (slot.Claim lane))
    → slots_in (cell_of run number) g node ≡ seal_of (slots_in (cell_of run number) h node))
    (unnumbered : (key : KeyValue) → ((number : ℕ) → ¬ HasNumberIn run key number) → plain_slot s node key ≡ None) (plain : SealsPlaces node s t) (gave : GaveFew names most s)
    (beyond : (number : ℕ) → length s.keys ≤ number → s.store.slots (node, number) ≡ None) (once : HoldsOnce run g)
    (plain_once : (i j number : ℕ) → number_in (s.store.slots (node, i)) ≡ Some number → number_in (s.store.slots (node, j)) ≡ Some number → i ≡ j) where
  -- what stands in the end, by numbers of keys
  abbrev cells : ℕ → Option Slot
  cells n = slots_in (cell_of run n) g node

  abbrev places : ℕ → Option Slot
  places i = t.store.slots (node, i)

  abbrev count : ℕ
  count = length run.store.id.keys

  -- the numbers of one key in both runs
  abbrev OneKeys : ℕ → ℕ → Type 0
  OneKeys i n = (key : KeyValue) × HasNumber s.keys key i × HasNumberIn run key n

  one_second : (i n m : ℕ) → OneKeys i n → OneKeys i m → n ≡ m
  one_second i n m a b =
      let both : Some a.0 ≡ Some b.0 = sym a.1 ∙ b.1 in
      let e : a.0 ≡ b.0 = cc both in
      one_number run.numbering run.numbering (one_key run.numbering) b.0 n m (subst (λ k. HasNumberIn run k n) e a.2) b.2

  one_first : (i j n : ℕ) → OneKeys i n → OneKeys j n → i ≡ j
  one_first i j n a b =
      let e : a.0 ≡ b.0 = one_key run.numbering n a.0 b.0 a.2.there b.2.there in
      one_place s.keys gave.keys.different b.0 i j (subst (λ k. HasNumber s.keys k i) e a.1) b.1

  there_of_number : (key : KeyValue) (i : ℕ) → HasNumber s.keys key i → is_there s.keys key ≡ true
  there_of_number key i has = there_by s.keys key (is_there s.keys key) refl (contains_at s.keys key i has)

  plain_there_is : (key : KeyValue) (i : ℕ) → HasNumber s.keys key i → plain_slot s node key ≡ s.store.slots (node, i)
  plain_there_is key i has =
      let there = there_of_number key i has in
      plain_there s node key there ∙ ap (λ k. s.store.slots (node, k)) (one_place s.keys gave.keys.different key (number_of_key s.keys key) i (has_key_number s.keys key there) has)

  -- what the seals of one key keep
  same_seals : (i n : ℕ) → i < s.places → OneKeys i n → kept_in run.meaning.values (cells n) ≡ kept_in (λ number. value_of s.values number) (places i)
  same_seals i n less one =
      let key = one.0 in
      let m = matches key n one.2 in
      let slot_is : plain_slot s node key ≡ s.store.slots (node, i) = plain_there_is key i one.1 in
      let here : cells n ≡ seal_of (slots_in (cell_of run n) h node) = lanes key n one.2 (no_claim run.meaning (plain_meaning s.values) (slots_in (cell_of run n) h node) (plain_slot s node key) m) in
      let beside : places i ≡ seal_of (plain_slot s node key) = plain.sealed i less ∙ ap seal_of (sym slot_is) in
      ap (kept_in run.meaning.values) here ∙ (same_kept run.meaning (plain_meaning s.values) (slots_in (cell_of run n) h node) (plain_slot s node key) m ∙ sym (ap (kept_in (λ number. value_of s.values number)) beside))

  -- a place whose seal keeps a value is that of a key
  to_number : (i : ℕ) (v : ValueText) → i < s.places → kept_in (λ number. value_of s.values number) (places i) ≡ Some v → (n : ℕ) × (n < count) × OneKeys i n
  to_number i v less is = elim (cases_lt i (length s.keys)) [
    | inr past ↦
        let none : places i ≡ Some (slot.Sealed None) = plain.sealed i less ∙ ap seal_of (beyond i past) in
        absurd (cc (sym (ap (kept_in (λ number. value_of s.values number)) none) ∙ is))
    | inl below ↦
        let key = key_there s.keys i below in
        elim (numbered_or_not run key.0) [
          | inl n ↦ (n.0, number_within run key.0 n.0 view n.1, (key.0, key.1, n.1))
          | inr without ↦
              let none : places i ≡ Some (slot.Sealed None) = plain.sealed i less ∙ ap seal_of (sym (plain_there_is key.0 i key.1) ∙ unnumbered key.0 without) in
              absurd (cc (sym (ap (kept_in (λ number. value_of s.values number)) none) ∙ is))
        ]
  ]

  -- and so is a cell
  from_number : (n : ℕ) (v : ValueText) → n < count → kept_in run.meaning.values (cells n) ≡ Some v → (i : ℕ) × (i < s.places) × OneKeys i n
  from_number n v less is = elim (named_or_not run n) [
    | inr none ↦ let k = has_kept run.meaning.values (cells n) v is in absurd (once.unnamed node n inside less none k.0 k.1)
    | inl one ↦
        let key = one.0 in
        let x = slots_in (cell_of run n) h node in
        let m = matches key n one.1 in
        elim (bools (is_there s.keys key)) [
          | inl there ↦
              let below = key_number_within s.keys key there in
              let few = gave.keys.few in
              (number_of_key s.keys key, omega (arith, below, few), (key, has_key_number s.keys key there, one.1))
          | inr absent ↦
              let nothing_is : x ≡ None =
              nothing_there run.meaning (plain_meaning s.values) x (subst (λ y. AreMatched run.meaning (plain_meaning s.values) x y) (plain_none s node key absent) m) in
              let none : cells n ≡ Some (slot.Sealed None) = lanes key n one.1 (no_claim run.meaning (plain_meaning s.values) x (plain_slot s node key) m) ∙ ap seal_of nothing_is in
              absurd (cc (sym (ap (kept_in run.meaning.values) none) ∙ is))
        ]
  ]

  cells_once : (i j number : ℕ) → i < count → j < count → cells i ≡ Some (slot.Sealed (Some number)) → cells j ≡ Some (slot.Sealed (Some number)) → i ≡ j
  cells_once i j number a b x y =
      let same : node * count + i ≡ node * count + j = once.once (cell_of run i node) (cell_of run j node) number (ap number_in x) (ap number_in y) in
      omega (arith, same)

  places_once : (i j number : ℕ) → i < s.places → j < s.places → places i ≡ Some (slot.Sealed (Some number)) → places j ≡ Some (slot.Sealed (Some number)) → i ≡ j
  places_once i j number a b x y =
      plain_once i j number (kept_stood (s.store.slots (node, i)) number (sym (plain.sealed i a) ∙ x)) (kept_stood (s.store.slots (node, j)) number (sym (plain.sealed j b) ∙ y))

  -- so the values that remain to be closed are the same in both, in another order
  pub same_remaining : IsPermutation (there_of (λ number. closeable (run.meaning.values number)) (remaining cells count)) (there_of (λ number. closeable (value_of s.values number)) (remaining places s.places))
  same_remaining =
      let v : ℕ → Option ValueText = λ number. closeable (run.meaning.values number) in
      let w : ℕ → Option ValueText = λ number. closeable (value_of s.values number) in
      let f : ℕ → Option ValueText = λ n. kept_in run.meaning.values (cells n) in
      let g' : ℕ → Option ValueText = λ i. kept_in (λ number. value_of s.values number) (places i) in
      let pairs : ArePaired OneKeys one_second one_first count s.places f g' = record {
        to = λ i a less is. to_number i a less is;
        same = λ i n less one. same_seals i n less one;
        from = λ n a less is. from_number n a less is;
      } in
      IsPermutation-trans _ (gather f count) _ (remaining_there v cells count cells_once)
      (IsPermutation-trans _ (gather g' s.places) _ (paired OneKeys one_second one_first count s.places f g' pairs)
      (IsPermutation-sym (there_of w (remaining places s.places)) (gather g' s.places) (remaining_there w places s.places places_once)))

  -- ---- the first of them whose close fails

  -- the same value on the lanes, under this number, and in the plain run, under this
  record AreTwins (a b : ℕ) (v : ValueText) : Type 0 where
    key : KeyValue
    stands : StandWith run node key h s a b
    ours : closeable (run.meaning.values a) ≡ Some v
    theirs : closeable (value_of s.values b) ≡ Some v

  twins : (a b : ℕ) (v : ValueText) (i n : ℕ) → i < s.places → OneKeys i n → cells n ≡ Some (slot.Sealed (Some a)) → places i ≡ Some (slot.Sealed (Some b)) → closeable (run.meaning.values a) ≡ Some v
      → closeable (value_of s.values b) ≡ Some v → AreTwins a b v
  twins a b v i n less one here there ours theirs =
      let key = one.0 in
      let x = slots_in (cell_of run n) h node in
      let sealed_is : cells n ≡ seal_of x = lanes key n one.2 (no_claim run.meaning (plain_meaning s.values) x (plain_slot s node key) (matches key n one.2)) in
      record {
        key = key;
        stands = record {
          number = n;
          has = one.2;
          lanes = value_stood x a (sym sealed_is ∙ here);
          plain = ap value_in (plain_there_is key i one.1) ∙ value_stood (s.store.slots (node, i)) b (sym (plain.sealed i less) ∙ there);
        };
        ours = ours;
        theirs = theirs;
      }

  -- each that remains on the lanes has a twin in the plain run,
  lanes_twin : (a : ℕ) (v : ValueText) → Contains (remaining cells count) a → closeable (run.meaning.values a) ≡ Some v → (b : ℕ) × Contains (remaining places s.places) b × AreTwins a b v
  lanes_twin a v there is =
      let kept = remaining_kept cells count a there in
      let ours : kept_in run.meaning.values (cells kept.0) ≡ Some v = ap (kept_in run.meaning.values) kept.2 ∙ is in
      let at = from_number kept.0 v kept.1 ours in
      let theirs : kept_in (λ number. value_of s.values number) (places at.0) ≡ Some v = sym (same_seals at.0 kept.0 at.1 at.2) ∙ ours in
      let twin = kept_place (λ number. value_of s.values number) (places at.0) v theirs in
      (twin.0, kept_remains places s.places twin.0 at.0 at.1 twin.1, twins a twin.0 v at.0 kept.0 at.1 at.2 kept.2 twin.1 is twin.2)

  -- and the other way round
  plain_twin : (b : ℕ) (v : ValueText) → Contains (remaining places s.places) b → closeable (value_of s.values b) ≡ Some v → (a : ℕ) × Contains (remaining cells count) a × AreTwins a b v
  plain_twin b v there is =
      let kept = remaining_kept places s.places b there in
      let theirs : kept_in (λ number. value_of s.values number) (places kept.0) ≡ Some v = ap (kept_in (λ number. value_of s.values number)) kept.2 ∙ is in
      let at = to_number kept.0 v kept.1 theirs in
      let ours : kept_in run.meaning.values (cells at.0) ≡ Some v = same_seals kept.0 at.0 kept.1 at.2 ∙ theirs in
      let twin = kept_place run.meaning.values (cells at.0) v ours in
      (twin.0, kept_remains cells count twin.0 at.0 at.1 twin.1, twins twin.0 b v kept.0 at.0 kept.1 at.2 twin.1 kept.2 twin.2 is)

  -- so where they are in order, the first close that fails tells one text in both
  pub same_first : AreInOrder run node h s → (text other : List ℕ) → first_of (map close_fault (there_of (λ number. closeable (run.meaning.values number)) (remaining cells count))) ≡ Some text
      → first_of (map close_fault (there_of (λ number. closeable (value_of s.values number)) (remaining places s.places))) ≡ Some other → text ≡ other
  same_first ordered text other first second =
      let a = first_bad (λ number. closeable (run.meaning.values number)) (remaining cells count) text (remaining_falls cells count) first in
      let b = first_bad (λ number. closeable (value_of s.values number)) (remaining places s.places) other (remaining_falls places s.places) second in
      let at = lanes_twin a.number a.value a.there a.is in
      let to = plain_twin b.number b.value b.there b.is in
      let told = fault_is a.value text a.fails in
      let also = fault_is b.value other b.fails in
      elim (bools (bytes_eq a.value.text b.value.text)) [
        | inl same ↦ sym told.1 ∙ (ap close_text ((bytes_eq-Decides a.value.text b.value.text).0 same) ∙ also.1)
        | inr differ ↦
            let ours = closeable_is (run.meaning.values a.number) a.value a.is in
            let theirs = closeable_is (run.meaning.values to.0) b.value to.2.ours in
            let apart : b.value.text ≢ a.value.text = λ e. true≢false (sym ((bytes_eq-Decides a.value.text b.value.text).1 (sym e)) ∙ differ) in
            let low = a.greatest to.0 b.value other to.1 to.2.ours b.fails in
            let high = b.greatest at.0 a.value text at.1 at.2.theirs a.fails in
            elim (cases_order to.0 a.number) [
              | inl same ↦
                  let both : Some b.value ≡ Some a.value = sym theirs.0 ∙ (ap run.meaning.values same ∙ ours.0) in
                  let one : b.value ≡ a.value = cc both in
                  absurd (apart (ap (λ (v : ValueText). v.text) one))
              | inr (inl less) ↦
                  let later = ordered.order to.2.key at.2.key to.0 b.number a.number at.0 b.value a.value to.2.stands at.2.stands theirs.0 ours.0
                  (record { closes = theirs.1; bad = also.0 }) (record { closes = ours.1; bad = told.0 }) apart less in
                  absurd (omega (arith, later, high))
              | inr (inr more) ↦ absurd (omega (arith, low, more))
            ]
      ]
