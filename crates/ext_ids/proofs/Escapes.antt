-- `part_text` from one `%` to the next, as the decoder goes.
use Rattle.std.proofs.Common.{◌≡◌, ◌≢◌, ℕ, suc, ◌<◌, ◌≤◌, List, [], ◌∷◌, ◌++◌, length, Some, refl, ap, sym, subst, ◌∙◌, arith, append_assoc, eq-eqb, get_or, drop}
use Rattle.std.specs.List.{AllByRecursion}
use Rattle.ext_ids.specs.Grammar.{spelled, part_text, escape_of}
use Rattle.ext_ids.specs.Reading.{unescaped}
use Rattle.std.proofs.lemmas.List.{append-nil}
use Rattle.ext_ids.proofs.Characters.{Mark, plain, percent, plus, opening, closing_mark, colon, slash, mark_of, spelled_plain}
use Rattle.ext_ids.proofs.Parts.{unescaped_part}

-- bytes that are no `%` stand for themselves
pub record Front (front part rest : List ℕ) : Type 0 where
  pub others : List ℕ
  pub joins : part ≡ front ++ others
  pub spells : rest ≡ part_text others
  pub itself : part_text front ≡ front

joined : (c b : ℕ) (part front others : List ℕ) → c ≡ b → part ≡ front ++ others → c ∷ part ≡ (b ∷ front) ++ others
joined c b part front others same e = cc

stands : (c b : ℕ) (front : List ℕ) → spelled c ≡ c ∷ [] → c ≡ b → part_text front ≡ front → part_text (b ∷ front) ≡ b ∷ front
stands c b front e same itself = let f : spelled b ≡ b ∷ [] = subst (λ x. spelled x ≡ x ∷ []) same e in rw (f, itself) refl

one_front : (b : ℕ) (front rest : List ℕ) (c : ℕ) (part : List ℕ) → Mark c → b ≢ 37 → ((p : List ℕ) → part_text p ≡ front ++ rest → Front front p rest) → part_text (c ∷ part) ≡ (b ∷ front) ++ rest → Front (b ∷ front) (c ∷ part) rest
one_front b front rest c part (plain _ h) other before e =
    let e2 : c ∷ part_text part ≡ b ∷ (front ++ rest) = rw (spelled_plain c h) at e in
    let same : c ≡ b = cc in
    let r = before part cc in
    record {
      others = r.others;
      joins = joined c b part front r.others same r.joins;
      spells = r.spells;
      itself = stands c b front (spelled_plain c h) same r.itself;
    }
one_front b front rest c part percent other before e = absurd (other cc)
one_front b front rest c part plus other before e = absurd (other cc)
one_front b front rest c part opening other before e = absurd (other cc)
one_front b front rest c part closing_mark other before e = absurd (other cc)
one_front b front rest c part colon other before e = absurd (other cc)
one_front b front rest c part slash other before e = absurd (other cc)

pub front_of : (front part rest : List ℕ) → AllByRecursion (λ b. b ≢ 37) front → part_text part ≡ front ++ rest → Front front part rest
front_of [] part rest h e = record { others = part; joins = refl; spells = sym e; itself = refl }
front_of (b ∷ front) [] rest h e = absurd cc
front_of (b ∷ front) (c ∷ part) rest h e = one_front b front rest c part (mark_of c) h.0 (λ p k. front_of front p rest h.1 k) e

-- what a part with a `%` in front spells
pub record AtEscape (part code : List ℕ) : Type 0 where
  pub character : ℕ
  pub others : List ℕ
  pub joins : part ≡ character ∷ others
  pub value : escape_of code ≡ Some character
  pub high : ℕ
  pub low : ℕ
  pub ascii : (high < 128) × (low < 128)
  pub small : character < 128
  pub spells : code ≡ high ∷ low ∷ part_text others
  pub itself : spelled character ≡ 37 ∷ high ∷ low ∷ []

-- one of the six escapes
escaped : (c high low : ℕ) (part code : List ℕ) → c < 128 → high < 128 → low < 128 → spelled c ≡ 37 ∷ high ∷ low ∷ [] → escape_of (high ∷ low ∷ part_text part) ≡ Some c
    → part_text (c ∷ part) ≡ 37 ∷ code → AtEscape (c ∷ part) code
escaped c high low part code small one two spells value e =
    let whole : 37 ∷ high ∷ low ∷ part_text part ≡ 37 ∷ code = sym (ap (λ xs. xs ++ part_text part) spells) ∙ e in
    let same : code ≡ high ∷ low ∷ part_text part = cc in
    record { character = c; others = part; joins = refl; value = rw same value; high = high; low = low; ascii = (one, two); small = small; spells = same; itself = spells }

marked_escape : (c : ℕ) (part code : List ℕ) → Mark c → part_text (c ∷ part) ≡ 37 ∷ code → AtEscape (c ∷ part) code
marked_escape c part code (plain _ h) e =
    let e2 : c ∷ part_text part ≡ 37 ∷ code = rw (spelled_plain c h) at e in
    let same : c ≡ 37 = cc in
    let no = h.percent in absurd (let bad = eq-eqb c 37 same in cc)
marked_escape c part code percent e = escaped 37 50 53 part code (omega arith) (omega arith) (omega arith) refl refl e
marked_escape c part code plus e = escaped 43 50 66 part code (omega arith) (omega arith) (omega arith) refl refl e
marked_escape c part code opening e = escaped 91 53 66 part code (omega arith) (omega arith) (omega arith) refl refl e
marked_escape c part code closing_mark e = escaped 93 53 68 part code (omega arith) (omega arith) (omega arith) refl refl e
marked_escape c part code colon e = escaped 58 51 65 part code (omega arith) (omega arith) (omega arith) refl refl e
marked_escape c part code slash e = escaped 47 50 70 part code (omega arith) (omega arith) (omega arith) refl refl e

pub at_escape : (part code : List ℕ) → part_text part ≡ 37 ∷ code → AtEscape part code
at_escape [] code e = absurd cc
at_escape (c ∷ part) code e = marked_escape c part code (mark_of c) e

listed : (xs : List ℕ) → ((i : ℕ) → i < length xs → get_or xs i 0 ≢ 37) → AllByRecursion (λ b. b ≢ 37) xs
listed [] h = tt
listed (x ∷ xs) h = (h 0 (omega arith), listed xs (λ i l. h (suc i) (omega arith)))

-- up to the first escape
pub record Step (ahead code others : List ℕ) : Type 0 where
  pub character : ℕ
  pub more : List ℕ
  pub value : escape_of code ≡ Some character
  pub ascii : character < 128
  pub joins : others ≡ ahead ++ character ∷ more
  pub two : 2 ≤ length code
  pub low : get_or code 1 0 < 128
  pub spells : drop 2 code ≡ part_text more

from_parts : (ahead code others : List ℕ) (f : Front ahead others (37 ∷ code)) → AtEscape f.others code → Step ahead code others
from_parts ahead code others f e = record {
  character = e.character;
  more = e.others;
  value = e.value;
  ascii = e.small;
  joins = f.joins ∙ ap (λ xs. ahead ++ xs) e.joins;
  two = rw e.spells (omega arith);
  low = rw e.spells e.ascii.1;
  spells = rw e.spells refl;
}

pub step_of : (ahead code others rest : List ℕ) → rest ≡ part_text others → rest ≡ ahead ++ 37 ∷ code → ((i : ℕ) → i < length ahead → get_or ahead i 0 ≢ 37) → Step ahead code others
step_of ahead code others rest spells front none =
    let f = front_of ahead others (37 ∷ code) (listed ahead none) (sym spells ∙ front) in
    from_parts ahead code others f (at_escape f.others code (sym f.spells))

-- where no escape follows, the rest stands for itself
ended : (rest others : List ℕ) → rest ≡ part_text others → Front rest others [] → rest ≡ others
ended rest others spells f =
    let none : f.others ≡ [] = sym (unescaped_part f.others) ∙ ap (unescaped 0) (sym f.spells) in
    sym (f.joins ∙ ap (λ xs. rest ++ xs) none ∙ append-nil rest)

pub end_of : (rest others : List ℕ) → rest ≡ part_text others → ((i : ℕ) → i < length rest → get_or rest i 0 ≢ 37) → rest ≡ others
end_of rest others spells none = ended rest others spells (front_of rest others [] (listed rest none) (sym spells ∙ sym (append-nil rest)))

pub regrouped : (text ahead more : List ℕ) (c : ℕ) → text ++ (ahead ++ c ∷ more) ≡ ((text ++ ahead) ++ c ∷ []) ++ more
regrouped text ahead more c = sym (append_assoc (text ++ ahead) (c ∷ []) more ∙ append_assoc text ahead (c ∷ more))
