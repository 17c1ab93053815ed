-- What the seals of a context keep, in whatever order its keys are numbered.
use Rattle.std.proofs.Common.{◌≡◌, ◌≢◌, ◌<◌, ℕ, zero, suc, inl, inr, List, [], ◌∷◌, Contains, Option, None, Some, refl, ap, sym, subst, ◌∙◌, arith, eq-eqb, eqb-true}
use Rattle.std.specs.Prelude.{IsPermutation, if◌then◌else◌, nat_eq}
use Rattle.std.proofs.lemmas.Bool.{cases_order}
use Rattle.std.proofs.lemmas.List.Sorted.{IsPermutation-cons, IsPermutation-middle, IsPermutation-refl, IsPermutation-trans}
use Rattle.ext_history.proofs.Lists.{bools, contains_here, contains_later}
use Rattle.ext_model.specs.declared.slot.Slot.{Slot}
use Rattle.ext_model.specs.declared.slot.Slot.TheVariants.{Entry, Fault, Claim, Sealed}
use Rattle.ext_model.specs.Closing.{kept_by, put_in, put_in_kept, remaining}
use Rattle.ext_model.proofs.Remaining.{put_after, put_before, remaining_kept}

pub sealed_with : (x : Option Slot) (number : ℕ) → kept_by x ≡ Some number → x ≡ Some (Sealed (Some number))
sealed_with None number is = absurd (cc is)
sealed_with (Some (Entry n)) number is = absurd (cc is)
sealed_with (Some (Fault n)) number is = absurd (cc is)
sealed_with (Some (Claim lane)) number is = absurd (cc is)
sealed_with (Some (Sealed kept)) number is = ap (λ k. Some (Sealed k)) is

module _ {A : Type 0} where
  -- ---- lists of what is there

  abbrev pub with_some : Option A → List A → List A
  with_some None more = more
  with_some (Some a) more = a ∷ more

  -- what is there at the first so many places, the last first
  abbrev pub gather : (ℕ → Option A) → ℕ → List A
  gather f zero = []
  gather f (suc n) = with_some (f n) (gather f n)

  -- what is there of these numbers, in their order
  abbrev pub there_of : (ℕ → Option A) → List ℕ → List A
  there_of v [] = []
  there_of v (number ∷ more) = with_some (v number) (there_of v more)

  some_swap : (x y : Option A) (xs : List A) → IsPermutation (with_some x (with_some y xs)) (with_some y (with_some x xs))
  some_swap None y xs = IsPermutation-refl (with_some y xs)
  some_swap (Some a) None xs = IsPermutation-refl (a ∷ xs)
  some_swap (Some a) (Some b) xs = IsPermutation-middle (a ∷ []) b xs

  some_more : (x : Option A) (xs ys : List A) → IsPermutation xs ys → IsPermutation (with_some x xs) (with_some x ys)
  some_more None xs ys moved = moved
  some_more (Some a) xs ys moved = IsPermutation-cons a xs ys moved

  gather_same : (f g : ℕ → Option A) (n : ℕ) → ((k : ℕ) → k < n → f k ≡ g k) → gather f n ≡ gather g n
  gather_same f g zero same = refl
  gather_same f g (suc n) same = λ i. with_some (same n (omega arith) i) (gather_same f g n (λ k less. same k (omega (arith, less))) i)

  gather_none : (f : ℕ → Option A) (n : ℕ) → ((k : ℕ) → k < n → f k ≡ None) → gather f n ≡ []
  gather_none f zero none = refl
  gather_none f (suc n) none = ap (λ x. with_some x (gather f n)) (none n (omega arith)) ∙ gather_none f n (λ k less. none k (omega (arith, less)))

  -- ---- one place less

  abbrev without : ℕ → (ℕ → Option A) → ℕ → Option A
  without j f k = if nat_eq k j then None else f k

  without_there : (j : ℕ) (f : ℕ → Option A) → without j f j ≡ None
  without_there j f = ap (λ b. if b then None else f j) (eq-eqb j j refl)

  without_else : (j : ℕ) (f : ℕ → Option A) (k : ℕ) → k ≢ j → without j f k ≡ f k
  without_else j f k differ = elim (bools (nat_eq k j)) [
    | inl same ↦ absurd (differ (eqb-true k j same))
    | inr apart ↦ ap (λ b. if b then None else f k) apart
  ]

  pick : (f : ℕ → Option A) (j : ℕ) (a : A) (n : ℕ) → j < n → f j ≡ Some a → IsPermutation (gather f n) (a ∷ gather (without j f) n)
  pick f j a zero less is = absurd (omega (arith, less))
  pick f j a (suc n) less is = elim (cases_order j n) [
    | inl same ↦
        let here : f n ≡ Some a = subst (λ k. f k ≡ Some a) same is in
        let gone : without j f n ≡ None = subst (λ k. without k f n ≡ None) (sym same) (without_there n f) in
        let rest : gather f n ≡ gather (without j f) n = gather_same f (without j f) n (λ k below. sym (without_else j f k (λ e. omega (arith, e, below, same)))) in
        let first : with_some (f n) (gather f n) ≡ a ∷ gather f n = ap (λ x. with_some x (gather f n)) here in
        let second : with_some (without j f n) (gather (without j f) n) ≡ gather (without j f) n = ap (λ x. with_some x (gather (without j f) n)) gone in
        let whole : a ∷ with_some (without j f n) (gather (without j f) n) ≡ with_some (f n) (gather f n) = ap (λ l. a ∷ l) (second ∙ sym rest) ∙ sym first in
        subst (λ l. IsPermutation (with_some (f n) (gather f n)) l) (sym whole) (IsPermutation-refl (with_some (f n) (gather f n)))
    | inr (inl below) ↦
        let stays : without j f n ≡ f n = without_else j f n (λ e. omega (arith, e, below)) in
        let later = pick f j a n below is in
        let moved : IsPermutation (with_some (f n) (gather f n)) (a ∷ with_some (f n) (gather (without j f) n)) =
        IsPermutation-trans _ (with_some (f n) (a ∷ gather (without j f) n)) _ (some_more (f n) (gather f n) (a ∷ gather (without j f) n) later) (some_swap (f n) (Some a) (gather (without j f) n)) in
        subst (λ x. IsPermutation (with_some (f n) (gather f n)) (a ∷ with_some x (gather (without j f) n))) (sym stays) moved
    | inr (inr above) ↦ absurd (omega (arith, less, above))
  ]

  -- ---- two numberings

  module _ (R : ℕ → ℕ → Type 0) (one_second : (i n m : ℕ) → R i n → R i m → n ≡ m) (one_first : (i j n : ℕ) → R i n → R j n → i ≡ j) (count : ℕ) where
    -- each that is there has its place in both
    pub record ArePaired (much : ℕ) (f g : ℕ → Option A) : Type 0 where
      pub to : (i : ℕ) (a : A) → i < much → g i ≡ Some a → (n : ℕ) × (n < count) × R i n
      pub same : (i n : ℕ) → i < much → R i n → f n ≡ g i
      pub from : (n : ℕ) (a : A) → n < count → f n ≡ Some a → (i : ℕ) × (i < much) × R i n

    none_there : (f g : ℕ → Option A) → ArePaired 0 f g → (o : Option A) (n : ℕ) → n < count → f n ≡ o → f n ≡ None
    none_there f g are None n less is = is
    none_there f g are (Some a) n less is = let i = are.from n a less is in let below = i.1 in absurd (omega (arith, below))

    -- the last place has nothing
    last_none : (much : ℕ) (f g : ℕ → Option A) → ArePaired (suc much) f g → g much ≡ None → ArePaired much f g
    last_none much f g are none = record {
      to = λ i a less is. are.to i a (omega (arith, less)) is;
      same = λ i n less r. are.same i n (omega (arith, less)) r;
      from = λ n a less is.
          let o = are.from n a less is in
          elim (cases_order o.0 much) [
            | inl last ↦ absurd (cc (sym is ∙ (are.same o.0 n o.1 o.2 ∙ (ap g last ∙ none))))
            | inr (inl below) ↦ (o.0, below, o.2)
            | inr (inr above) ↦ let less' = o.1 in absurd (omega (arith, less', above))
          ];
    }

    -- or something, which is taken out
    last_some : (much : ℕ) (f g : ℕ → Option A) → ArePaired (suc much) f g → (m : ℕ) → R much m → ArePaired much (without m f) g
    last_some much f g are m r = record {
      to = λ i a less is. are.to i a (omega (arith, less)) is;
      same = λ i n less s. without_else m f n (λ e. let last = one_first i much m (subst (λ k. R i k) e s) r in omega (arith, last, less)) ∙ are.same i n (omega (arith, less)) s;
      from = λ n b less is. elim (bools (nat_eq n m)) [
        | inl same ↦ absurd (cc (sym (ap (λ c. if c then None else f n) same) ∙ is))
        | inr apart ↦
            let o = are.from n b less (sym (ap (λ c. if c then None else f n) apart) ∙ is) in
            elim (cases_order o.0 much) [
              | inl last ↦
                  let e : n ≡ m = one_second much n m (subst (λ k. R k n) last o.2) r in
                  absurd (cc (sym (eq-eqb n m e) ∙ apart))
              | inr (inl below) ↦ (o.0, below, o.2)
              | inr (inr above) ↦ let less' = o.1 in absurd (omega (arith, less', above))
            ]
      ];
    }

    paired_by : (much : ℕ) (g : ℕ → Option A) → ((f : ℕ → Option A) → ArePaired much f g → IsPermutation (gather f count) (gather g much)) → (f : ℕ → Option A) → ArePaired (suc much) f g
        → (o : Option A) → g much ≡ o → IsPermutation (gather f count) (gather g (suc much))
    paired_by much g again f are None none =
        subst (λ x. IsPermutation (gather f count) (with_some x (gather g much))) (sym none) (again f (last_none much f g are none))
    paired_by much g again f are (Some a) some =
        let at = are.to much a (omega arith) some in
        let there : f at.0 ≡ Some a = are.same much at.0 (omega arith) at.2 ∙ some in
        let rest = again (without at.0 f) (last_some much f g are at.0 at.2) in
        subst (λ x. IsPermutation (gather f count) (with_some x (gather g much))) (sym some)
        (IsPermutation-trans _ (a ∷ gather (without at.0 f) count) _ (pick f at.0 a count at.1 there) (IsPermutation-cons a (gather (without at.0 f) count) (gather g much) rest))

    -- so the same is there in another order
    pub paired : (much : ℕ) (f g : ℕ → Option A) → ArePaired much f g → IsPermutation (gather f count) (gather g much)
    paired zero f g are = subst (λ l. IsPermutation l []) (sym (gather_none f count (λ n less. none_there f g are (f n) n less refl))) (IsPermutation-refl [])
    paired (suc much) f g are = paired_by much g (λ f are. paired much f g are) f are (g much) refl

  -- ---- numbers in their order

  put_there : (v : ℕ → Option A) (number : ℕ) (xs : List ℕ) → ¬ Contains xs number → IsPermutation (there_of v (put_in number xs)) (with_some (v number) (there_of v xs))
  put_there v number [] new = IsPermutation-refl (with_some (v number) [])
  put_there v number (first ∷ rest) new = elim (cases_order first number) [
    | inl same ↦ absurd (new (subst (λ k. Contains (first ∷ rest) k) same (contains_here first rest)))
    | inr (inl less) ↦
        subst (λ l. IsPermutation (there_of v l) (with_some (v number) (there_of v (first ∷ rest)))) (sym (put_before number first rest less)) (IsPermutation-refl (with_some (v number) (there_of v (first ∷ rest))))
    | inr (inr more) ↦
        let later = put_there v number rest (λ there. new (contains_later first rest number there)) in
        let one = some_more (v first) (there_of v (put_in number rest)) (with_some (v number) (there_of v rest)) later in
        let both = IsPermutation-trans _ (with_some (v first) (with_some (v number) (there_of v rest))) _ one (some_swap (v first) (v number) (there_of v rest)) in
        subst (λ l. IsPermutation (there_of v l) (with_some (v number) (there_of v (first ∷ rest)))) (sym (put_after number first rest more)) both
  ]

  -- what the number that a seal keeps stands for
  abbrev pub kept_value : (ℕ → Option A) → Option ℕ → Option A
  kept_value v None = None
  kept_value v (Some number) = v number

  kept_there : (v : ℕ → Option A) (kept : Option ℕ) (xs : List ℕ) → ((number : ℕ) → kept ≡ Some number → ¬ Contains xs number)
      → IsPermutation (there_of v (put_in_kept kept xs)) (with_some (kept_value v kept) (there_of v xs))
  kept_there v None xs new = IsPermutation-refl (there_of v xs)
  kept_there v (Some number) xs new = put_there v number xs (new number refl)

  -- where no two seals keep one number, what remains stands for what the seals keep, in another order
  pub remaining_there : (v : ℕ → Option A) (slots : ℕ → Option Slot) (keys : ℕ)
      → ((i j number : ℕ) → i < keys → j < keys → slots i ≡ Some (Sealed (Some number)) → slots j ≡ Some (Sealed (Some number)) → i ≡ j)
      → IsPermutation (there_of v (remaining slots keys)) (gather (λ i. kept_value v (kept_by (slots i))) keys)
  remaining_there v slots zero once = IsPermutation-refl []
  remaining_there v slots (suc keys) once =
      let rest = remaining_there v slots keys (λ i j number a b x y. once i j number (omega (arith, a)) (omega (arith, b)) x y) in
      let new : (number : ℕ) → kept_by (slots keys) ≡ Some number → ¬ Contains (remaining slots keys) number = λ number is there.
      let k = remaining_kept slots keys number there in
      let below = k.1 in
      let e = once k.0 keys number (omega (arith, below)) (omega arith) k.2 (sealed_with (slots keys) number is) in
      omega (arith, e, below) in
      IsPermutation-trans _ (with_some (kept_value v (kept_by (slots keys))) (there_of v (remaining slots keys))) _ (kept_there v (kept_by (slots keys)) (remaining slots keys) new)
      (some_more (kept_value v (kept_by (slots keys))) (there_of v (remaining slots keys)) (gather (λ i. kept_value v (kept_by (slots i))) keys) rest)
