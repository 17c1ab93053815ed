-- The events of one lane, and those of the others.
use Rattle.std.proofs.Common.{◌≡◌, ◌≢◌, ℕ, ◌+◌, ◌≤◌, Bool, true, false, cond, not, List, [], ◌∷◌, ◌++◌, inl, inr, length, refl, ap, sym, ◌∙◌, arith, append_assoc, append-nil, ◌==◌, eq-eqb, ne_eqb}
use Rattle.std.proofs.lemmas.List.Elements.{filter-append}
use Rattle.std.proofs.lemmas.List.Sums.{sum_by-append, sum_by-cons}
use mathlib.Core.List.{IsPrefix, append_cancel_left}
use Rattle.ext_history.specs.Histories.{own, others}
use Rattle.ext_history.proofs.Lists.{bools, left_nil}

count_step : (b : Bool) (n m l : ℕ) → n + m ≡ l → (cond (not b) 1 0 + n) + (cond b 1 0 + m) ≡ 1 + l
count_step true n m l e = omega (arith, e)
count_step false n m l e = omega (arith, e)

-- the last event of a lane in a history, and what comes after it
pub record LastOwn {E : Type 0} (lane_of : E → ℕ) (lane : ℕ) (e : E) (h : List E) : Type 0 where
  pub earlier : List E
  pub between : List E
  pub is : h ≡ earlier ++ e ∷ between
  pub quiet : own lane_of lane between ≡ []

module _ {E : Type 0} (lane_of : E → ℕ) where
  -- ---- the events of one lane

  pub own_yes : (lane : ℕ) (e : E) (es : List E) → (lane_of e == lane) ≡ true → own lane_of lane (e ∷ es) ≡ e ∷ own lane_of lane es
  own_yes lane e es is = ap (λ b. cond b (e ∷ own lane_of lane es) (own lane_of lane es)) is

  pub own_not : (lane : ℕ) (e : E) (es : List E) → (lane_of e == lane) ≡ false → own lane_of lane (e ∷ es) ≡ own lane_of lane es
  own_not lane e es is = ap (λ b. cond b (e ∷ own lane_of lane es) (own lane_of lane es)) is

  pub own_append : (lane : ℕ) (h rest : List E) → own lane_of lane (h ++ rest) ≡ own lane_of lane h ++ own lane_of lane rest
  own_append lane h rest = filter-append _ h rest

  -- an event of the lane itself, in front or behind
  pub own_self : (lane : ℕ) (e : E) (es : List E) → lane_of e ≡ lane → own lane_of lane (e ∷ es) ≡ e ∷ own lane_of lane es
  own_self lane e es mine = own_yes lane e es (eq-eqb (lane_of e) lane mine)

  pub own_push : (lane : ℕ) (h : List E) (e : E) → lane_of e ≡ lane → own lane_of lane (h ++ e ∷ []) ≡ own lane_of lane h ++ e ∷ []
  own_push lane h e mine = own_append lane h (e ∷ []) ∙ ap (λ z. own lane_of lane h ++ z) (own_self lane e [] mine)

  -- an event of another lane
  pub own_other : (lane : ℕ) (e : E) (es : List E) → lane_of e ≢ lane → own lane_of lane (e ∷ es) ≡ own lane_of lane es
  own_other lane e es apart = own_not lane e es (ne_eqb (lane_of e) lane apart)

  pub own_push_other : (lane : ℕ) (h : List E) (e : E) → lane_of e ≢ lane → own lane_of lane (h ++ e ∷ []) ≡ own lane_of lane h
  own_push_other lane h e apart =
      own_append lane h (e ∷ []) ∙ (ap (λ z. own lane_of lane h ++ z) (own_other lane e [] apart) ∙ append-nil (own lane_of lane h))

  -- the lane's events among the lane's events are all of them
  pub own_again : (lane : ℕ) (h : List E) → own lane_of lane (own lane_of lane h) ≡ own lane_of lane h
  own_again lane [] = refl
  own_again lane (e ∷ h) = elim (bools (lane_of e == lane)) [
    | inl mine ↦
        let first : own lane_of lane (e ∷ h) ≡ e ∷ own lane_of lane h = own_yes lane e h mine in
        ap (own lane_of lane) first ∙ (own_yes lane e (own lane_of lane h) mine ∙ (ap (λ z. e ∷ z) (own_again lane h) ∙ sym first))
    | inr not_mine ↦
        let first : own lane_of lane (e ∷ h) ≡ own lane_of lane h = own_not lane e h not_mine in
        ap (own lane_of lane) first ∙ (own_again lane h ∙ sym first)
  ]

  -- what the lane's events grow by is by the lane
  pub own_added : (lane : ℕ) (h g es : List E) → own lane_of lane g ≡ own lane_of lane h ++ es → own lane_of lane es ≡ es
  own_added lane h g es is =
      append_cancel_left (own lane_of lane h) (own lane_of lane es) es
      (ap (λ z. z ++ own lane_of lane es) (sym (own_again lane h)) ∙ (sym (own_append lane (own lane_of lane h) es) ∙ (ap (own lane_of lane) (sym is) ∙ (own_again lane g ∙ is))))

  -- what is new in a history that has the same events of the lane has none of it,
  pub own_past : (lane : ℕ) (h rest : List E) → own lane_of lane (h ++ rest) ≡ own lane_of lane h → own lane_of lane rest ≡ []
  own_past lane h rest same =
      append_cancel_left (own lane_of lane h) (own lane_of lane rest) [] (sym (own_append lane h rest) ∙ (same ∙ sym (append-nil (own lane_of lane h))))

  -- and so between two histories with the same events of the lane there is none of it
  pub own_between : (lane : ℕ) (h p g : List E) → IsPrefix h p → IsPrefix p g → own lane_of lane g ≡ own lane_of lane h → own lane_of lane p ≡ own lane_of lane h
  own_between lane h p g hp pg same =
      let x : List E = hp.0 in
      let y : List E = pg.0 in
      let all : h ++ (x ++ y) ≡ g = sym (append_assoc h x y) ∙ (ap (λ z. z ++ y) hp.1 ∙ pg.1) in
      let none : own lane_of lane x ++ own lane_of lane y ≡ [] = sym (own_append lane x y) ∙ own_past lane h (x ++ y) (ap (own lane_of lane) all ∙ same) in
      ap (own lane_of lane) (sym hp.1) ∙ (own_append lane h x ∙ (ap (λ z. own lane_of lane h ++ z) (left_nil (own lane_of lane x) (own lane_of lane y) none) ∙ append-nil (own lane_of lane h)))

  -- ---- the last of them

  one_more : (lane : ℕ) (e y : E) (h : List E) → LastOwn lane_of lane e h → LastOwn lane_of lane e (y ∷ h)
  one_more lane e y h last = record { earlier = y ∷ last.earlier; between = last.between; is = ap (λ z. y ∷ z) last.is; quiet = last.quiet }

  last_here : (lane : ℕ) (e y : E) (h : List E) → y ≡ e → own lane_of lane h ≡ [] → LastOwn lane_of lane e (y ∷ h)
  last_here lane e y h is quiet = record { earlier = []; between = h; is = ap (λ z. z ∷ h) is; quiet = quiet }

  pub last_own : (lane : ℕ) (e : E) (h xs : List E) → own lane_of lane h ≡ xs ++ e ∷ [] → LastOwn lane_of lane e h
  last_own lane e [] [] is = absurd (cc is)
  last_own lane e [] (x ∷ xs) is = absurd (cc is)
  last_own lane e (y ∷ h) [] is = elim (bools (lane_of y == lane)) [
    | inl mine ↦ let s : y ∷ own lane_of lane h ≡ e ∷ [] = sym (own_yes lane y h mine) ∙ is in last_here lane e y h (cc s) (cc s)
    | inr not_mine ↦ one_more lane e y h (last_own lane e h [] (sym (own_not lane y h not_mine) ∙ is))
  ]
  last_own lane e (y ∷ h) (x ∷ xs) is = elim (bools (lane_of y == lane)) [
    | inl mine ↦ let s : y ∷ own lane_of lane h ≡ x ∷ (xs ++ e ∷ []) = sym (own_yes lane y h mine) ∙ is in one_more lane e y h (last_own lane e h xs (cc s))
    | inr not_mine ↦ one_more lane e y h (last_own lane e h (x ∷ xs) (sym (own_not lane y h not_mine) ∙ is))
  ]

  -- ---- the events of other lanes

  pub others_append : (lane : ℕ) (h rest : List E) → others lane_of lane (h ++ rest) ≡ others lane_of lane h + others lane_of lane rest
  others_append lane h rest = sum_by-append _ h rest

  own_length : (lane : ℕ) (b : Bool) (e : E) (es : List E) → length (cond b (e ∷ es) es) ≡ cond b 1 0 + length es
  own_length lane true e es = omega arith
  own_length lane false e es = omega arith

  pub others_and_own : (lane : ℕ) (h : List E) → others lane_of lane h + length (own lane_of lane h) ≡ length h
  others_and_own lane [] = refl
  others_and_own lane (e ∷ es) =
      let l = own_length lane (lane_of e == lane) e (own lane_of lane es) in
      let s = sum_by-cons (λ (x : E). cond (not (lane_of x == lane)) 1 0) e es in
      let c = count_step (lane_of e == lane) (others lane_of lane es) (length (own lane_of lane es)) (length es) (others_and_own lane es) in
      omega (arith, l, s, c)

  -- where the lane made no event, all events are by others
  pub others_all : (lane : ℕ) (h : List E) → own lane_of lane h ≡ [] → others lane_of lane h ≡ length h
  others_all lane h none =
      let all : others lane_of lane h + length (own lane_of lane h) ≡ length h = others_and_own lane h in
      let zero_own : length (own lane_of lane h) ≡ 0 = ap length none in
      omega (arith, all, zero_own)

  some_length : (h rest : List E) → h ++ rest ≢ h → 1 ≤ length rest
  some_length h [] apart = absurd (apart (append-nil h))
  some_length h (e ∷ rest) apart = omega arith

  -- a history that went on, though not by the lane, went on by others
  pub others_more : (lane : ℕ) (f h : List E) → IsPrefix f h → own lane_of lane h ≡ own lane_of lane f → h ≢ f → others lane_of lane f + 1 ≤ others lane_of lane h
  others_more lane f h begins same apart =
      let rest : List E = begins.0 in
      let many : 1 ≤ length rest = some_length f rest (λ e. apart (sym begins.1 ∙ e)) in
      let all : others lane_of lane rest ≡ length rest = others_all lane rest (own_past lane f rest (ap (own lane_of lane) begins.1 ∙ same)) in
      let sum : others lane_of lane (f ++ rest) ≡ others lane_of lane f + others lane_of lane rest = others_append lane f rest in
      let whole : others lane_of lane (f ++ rest) ≡ others lane_of lane h = ap (others lane_of lane) begins.1 in
      omega (arith, many, all, sum, whole)
