-- `spelled`, one character as it is written: it is a mark or stands for itself, and it is read as it was written.
use Rattle.std.proofs.Common.{◌≡◌, ℕ, ◌+◌, Bool, true, false, ◌==◌, ◌&&◌, List, [], ◌∷◌, ◌++◌, length, Some, None, refl, ap, sym, subst, arith, ◌⊎◌, inl, inr, ⊎_elim}
use Rattle.std.proofs.lemmas.Bool.{ne_eqb, cases_eq, cases_Bool, and_parts, eqb-true}
use Rattle.ext_ids.specs.declared.scan.Part.{Part}
use Rattle.ext_ids.specs.Grammar.{spelled, escape_of}
use Rattle.ext_ids.specs.Reading.{part_end}

-- a byte that stands for itself
pub record IsPlain (b : ℕ) : Type 0 where
  pub percent : (b == 37) ≡ false
  pub plus : (b == 43) ≡ false
  pub opening : (b == 91) ≡ false
  pub closing_mark : (b == 93) ≡ false
  pub colon : (b == 58) ≡ false
  pub slash : (b == 47) ≡ false

-- a byte stands for itself, or is one of the six marks
pub data Mark : ℕ → Type 0 where
  plain : (b : ℕ) → IsPlain b → Mark b
  percent : Mark 37
  plus : Mark 43
  opening : Mark 91
  closing_mark : Mark 93
  colon : Mark 58
  slash : Mark 47

pub mark_of : (b : ℕ) → Mark b
mark_of b =
    ⊎_elim (λ e. subst Mark (sym e) percent) (λ percent.
    ⊎_elim (λ e. subst Mark (sym e) plus) (λ plus.
    ⊎_elim (λ e. subst Mark (sym e) opening) (λ opening.
    ⊎_elim (λ e. subst Mark (sym e) closing_mark) (λ closing_mark.
    ⊎_elim (λ e. subst Mark (sym e) colon) (λ colon.
    ⊎_elim (λ e. subst Mark (sym e) slash) (λ slash.
    plain b (record { percent = ne_eqb b 37 percent; plus = ne_eqb b 43 plus; opening = ne_eqb b 91 opening; closing_mark = ne_eqb b 93 closing_mark; colon = ne_eqb b 58 colon; slash = ne_eqb b 47 slash }))
    (cases_eq b 47)) (cases_eq b 58)) (cases_eq b 93)) (cases_eq b 91)) (cases_eq b 43)) (cases_eq b 37)

pub spelled_plain : (b : ℕ) → IsPlain b → spelled b ≡ b ∷ []
spelled_plain b h = rw (h.percent, h.plus, h.opening, h.closing_mark, h.colon, h.slash) refl

pub plain_step : (part : Part) (at : ℕ) (some : Bool) (b : ℕ) (rest : List ℕ) → IsPlain b → part_end part at some (b ∷ rest) ≡ part_end part (at + 1) true rest
plain_step part at some b rest h = rw (h.percent, h.plus, h.opening, h.slash, h.colon, h.closing_mark) refl

-- a character is read as it is written
item_marked : (part : Part) (at : ℕ) (some : Bool) (b : ℕ) (rest : List ℕ) → Mark b → part_end part at some (spelled b ++ rest) ≡ part_end part (at + length (spelled b)) true rest
item_marked part at some b rest (plain _ h) = rw (spelled_plain b h) (plain_step part at some b rest h)
item_marked part at some b rest percent = ap (λ n. part_end part n true rest) (omega arith)
item_marked part at some b rest plus = ap (λ n. part_end part n true rest) (omega arith)
item_marked part at some b rest opening = ap (λ n. part_end part n true rest) (omega arith)
item_marked part at some b rest closing_mark = ap (λ n. part_end part n true rest) (omega arith)
item_marked part at some b rest colon = ap (λ n. part_end part n true rest) (omega arith)
item_marked part at some b rest slash = ap (λ n. part_end part n true rest) (omega arith)

pub item_read : (part : Part) (at : ℕ) (some : Bool) (b : ℕ) (rest : List ℕ) → part_end part at some (spelled b ++ rest) ≡ part_end part (at + length (spelled b)) true rest
item_read part at some b rest = item_marked part at some b rest (mark_of b)

-- the rest of an escape, and what follows it
pub record Escape (rest : List ℕ) : Type 0 where
  pub character : ℕ
  pub more : List ℕ
  pub spells : 37 ∷ rest ≡ spelled character ++ more
  pub shorter : length rest ≡ length more + 2
  pub value : escape_of rest ≡ Some character

tested : (h l a b c : ℕ) (rest : List ℕ) → spelled c ≡ 37 ∷ a ∷ b ∷ [] → escape_of (a ∷ b ∷ rest) ≡ Some c → ((h == a) && (l == b)) ≡ true → Escape (h ∷ l ∷ rest)
tested h l a b c rest spells value test =
    let same = and_parts (h == a) (l == b) test in
    let first : h ≡ a = eqb-true h a same.0 in
    let second : l ≡ b = eqb-true l b same.1 in
    record { character = c; more = rest; spells = rw (first, second, spells) refl; shorter = omega arith; value = rw (first, second) value }

no_escape : (h l : ℕ) (rest : List ℕ) → ((h == 50) && (l == 53)) ≡ false → ((h == 50) && (l == 66)) ≡ false → ((h == 53) && (l == 66)) ≡ false → ((h == 53) && (l == 68)) ≡ false → ((h == 51) && (l == 65)) ≡ false → ((h == 50) && (l == 70)) ≡ false
    → escape_of (h ∷ l ∷ rest) ≡ None
no_escape h l rest t1 t2 t3 t4 t5 t6 = rw (t1, t2, t3, t4, t5, t6) refl

pub escape_cases : (rest : List ℕ) → (escape_of rest ≡ None) ⊎ Escape rest
escape_cases [] = inl refl
escape_cases (h ∷ []) = inl refl
escape_cases (h ∷ l ∷ rest) =
    ⊎_elim (λ t. inr (tested h l 50 53 37 rest refl refl t)) (λ t1.
    ⊎_elim (λ t. inr (tested h l 50 66 43 rest refl refl t)) (λ t2.
    ⊎_elim (λ t. inr (tested h l 53 66 91 rest refl refl t)) (λ t3.
    ⊎_elim (λ t. inr (tested h l 53 68 93 rest refl refl t)) (λ t4.
    ⊎_elim (λ t. inr (tested h l 51 65 58 rest refl refl t)) (λ t5.
    ⊎_elim (λ t. inr (tested h l 50 70 47 rest refl refl t)) (λ t6. inl (no_escape h l rest t1 t2 t3 t4 t5 t6))
    (cases_Bool ((h == 50) && (l == 70)))) (cases_Bool ((h == 51) && (l == 65)))) (cases_Bool ((h == 53) && (l == 68)))) (cases_Bool ((h == 53) && (l == 66)))) (cases_Bool ((h == 50) && (l == 66)))) (cases_Bool ((h == 50) && (l == 53)))
