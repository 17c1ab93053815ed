-- `read_id`, second law: what is read was written so. A text that is read as pairs is the spelling of an id.
use Rattle.std.proofs.Common.{◌≡◌, ℕ, zero, suc, ◌+◌, ◌<◌, ◌≤◌, true, false, ◌==◌, List, [], ◌∷◌, ◌++◌, length, drop, slice_range, slice_index, Result, Ok, Err, refl, ap, sym, subst, ◌∙◌, arith, length-append, ⊎_elim}
use Rattle.std.specs.List.{AllByRecursion}
use Rattle.std.proofs.lemmas.Bool.{eqb-true, cases_Bool}
use Rattle.std.proofs.lemmas.List.{drop_all}
use Rattle.ext_ids.specs.declared.fault.IdFault.{IdFault}
use Rattle.ext_ids.specs.declared.scan.Part.TheVariants as parts
use Rattle.ext_ids.specs.Grammar.{Pair, part_text, segment_text, id_text, IsFilled, IsIdText}
use Rattle.ext_ids.specs.Reading.{◌>>=◌, part_end, unescaped, segment_at, segments_at, after_segment, pair_of, read_id}
use Rattle.ext_ids.proofs.Parts.{unescaped_part, ReadPart, found_part}
use Rattle.ext_ids.proofs.Pieces.{cut, counted, stands_at, sliced}
use Rattle.ext_ids.proofs.IdsRead.{grouped}

pub record Bound {A B : Type 0} (r : Result A IdFault) (f : A → Result B IdFault) (y : B) : Type 0 where
  pub result : A
  pub was : r ≡ Ok result
  pub on : f result ≡ Ok y

bound : {A B : Type 0} (r : Result A IdFault) (f : A → Result B IdFault) (y : B) → (r >>= f) ≡ Ok y → Bound r f y
bound (Ok x) f y e = record { result = x; was = refl; on = e }
bound (Err x) f y e = absurd cc

-- a segment that was read at `at`
pub record Found (text : List ℕ) (at : ℕ) (ends : ℕ × ℕ) : Type 0 where
  pub filled : IsFilled (pair_of text at ends)
  pub spells : drop at text ≡ segment_text (pair_of text at ends) ++ drop (ends.1 + 1) text
  pub place : ends.1 + 1 ≡ at + length (segment_text (pair_of text at ends))
  pub inside : ends.1 < length text

pub from_parts : (text : List ℕ) (at kind value : ℕ) → slice_index text at ≡ 91 → ReadPart parts.Type (at + 1) false (drop (at + 1) text) kind → ReadPart parts.Value (kind + 1) false (drop (kind + 1) text) value → Found text at (kind, value)
from_parts text at kind value opening k v =
    let one : unescaped 0 (slice_range text (at + 1) kind) ≡ k.value = ap (unescaped 0) (sliced text (at + 1) kind parts.Type k) ∙ unescaped_part k.value in
    let two : unescaped 0 (slice_range text (kind + 1) value) ≡ v.value = ap (unescaped 0) (sliced text (kind + 1) value parts.Value v) ∙ unescaped_part v.value in
    let at_colon : drop kind text ≡ 58 ∷ k.rest = cut text (part_text k.value) (58 ∷ k.rest) (at + 1) kind k.spells k.ends in
    let after_colon : drop (kind + 1) text ≡ k.rest = cut text (58 ∷ []) k.rest kind (kind + 1) at_colon (omega arith) in
    let at_close : drop value text ≡ 93 ∷ v.rest = cut text (part_text v.value) (93 ∷ v.rest) (kind + 1) value v.spells v.ends in
    let after_close : drop (value + 1) text ≡ v.rest = cut text (93 ∷ []) v.rest value (value + 1) at_close (omega arith) in
    record {
      filled = (λ none. k.filled refl (sym one ∙ none), λ none. v.filled refl (sym two ∙ none));
      spells = stands_at text at 91 (omega arith) opening ∙ ap (λ xs. 91 ∷ xs) (k.spells ∙ ap (λ xs. part_text k.value ++ 58 ∷ xs) (sym after_colon ∙ v.spells ∙ ap (λ xs. part_text v.value ++ 93 ∷ xs) (sym after_close)))
          ∙ sym (grouped (part_text k.value) (part_text v.value) (drop (value + 1) text))
          ∙ ap (λ xs. xs ++ drop (value + 1) text) (pair_text k.value v.value _ _ (sym one) (sym two));
      place = placed at kind value k.value v.value k.ends v.ends ∙ ap (λ xs. at + length xs) (pair_text k.value v.value _ _ (sym one) (sym two));
      inside = let n = counted text v.rest value 93 at_close in omega arith;
    }
  where
    pair_text : (k v k' v' : List ℕ) → k ≡ k' → v ≡ v' → segment_text (k, v) ≡ segment_text (k', v')
    pair_text k v k' v' e f = cc

    placed : (at kind value : ℕ) (k v : List ℕ) → kind ≡ at + 1 + length (part_text k) → value ≡ kind + 1 + length (part_text v) → value + 1 ≡ at + length (segment_text (k, v))
    placed at kind value k v e f = omega (arith, length-append (part_text k) (58 ∷ (part_text v ++ (93 ∷ []))), length-append (part_text v) (93 ∷ []))

pub segment_found : (text : List ℕ) (at : ℕ) (ends : ℕ × ℕ) → segment_at text at ≡ Ok ends → Found text at ends
unfolding segment_at
segment_found text at ends e = ⊎_elim
    (λ t. absurd (let bad = rw t at e in cc))
    (λ f. ⊎_elim
    (λ t.
    let open_true : (slice_index text at == 91) ≡ true = t in
    let inside : (length text == at) ≡ false = f in
    let rest = rw (inside, open_true) at e in
    let k = bound (part_end parts.Type (at + 1) false (drop (at + 1) text)) _ ends rest in
    let v = bound (part_end parts.Value (k.result + 1) false (drop (k.result + 1) text)) _ ends k.on in
    subst (Found text at) {x = (k.result, v.result)} (let same : (k.result, v.result) ≡ ends = let on = v.on in cc in same)
    (from_parts text at k.result v.result (eqb-true _ _ open_true) (found_part parts.Type (at + 1) false _ k.result k.was) (found_part parts.Value (k.result + 1) false _ v.result v.was)))
    (λ t. absurd (let inside : (length text == at) ≡ false = f in let other : (slice_index text at == 91) ≡ false = t in let bad = rw (inside, other) at e in cc))
    (cases_Bool (slice_index text at == 91)))
    (cases_Bool (length text == at))

-- segments that were read from `at` on
pub record FoundAll (n : ℕ) (text : List ℕ) (at : ℕ) (pairs : List Pair) : Type 0 where
  pub some : 0 < length pairs
  pub few : length pairs ≤ n
  pub filled : AllByRecursion IsFilled pairs
  pub spells : drop at text ≡ id_text pairs

one_found : (n : ℕ) (text : List ℕ) (at close : ℕ) (p : Pair) (pairs : List Pair) → IsFilled p → drop at text ≡ segment_text p ++ drop (close + 1) text → length text ≡ close + 1 → pairs ≡ p ∷ [] → FoundAll (suc n) text at pairs
one_found n text at close p pairs filled spells whole same = subst (FoundAll (suc n) text at) (sym same) (record {
  some = omega arith;
  few = omega arith;
  filled = (filled, tt);
  spells = spells ∙ ap (λ xs. segment_text p ++ xs) (drop_all (close + 1) text (omega arith));
})

more_found : (n : ℕ) (text : List ℕ) (at close : ℕ) (p : Pair) (ps pairs : List Pair) → IsFilled p → drop at text ≡ segment_text p ++ drop (close + 1) text → slice_index text (close + 1) ≡ 47 → FoundAll n text (close + 2) ps → pairs ≡ p ∷ ps → FoundAll (suc n) text at pairs
more_found n text at close p [] pairs filled spells slash f same = absurd (let none = f.some in omega arith)
more_found n text at close p (q ∷ ps) pairs filled spells slash f same = subst (FoundAll (suc n) text at) (sym same) (record {
  some = omega arith;
  few = let few = f.few in omega arith;
  filled = (filled, f.filled);
  spells = spells ∙ ap (λ xs. segment_text p ++ xs) (stands_at text (close + 1) 47 (omega arith) slash ∙ ap (λ k. 47 ∷ drop k text) (two close) ∙ ap (λ xs. 47 ∷ xs) f.spells);
})
  where
    two : (k : ℕ) → k + 1 + 1 ≡ k + 2
    two k = omega arith

after_found : (n : ℕ) (text : List ℕ) (at close : ℕ) (p : Pair) (more : Result (List Pair) IdFault) (pairs : List Pair) → IsFilled p → drop at text ≡ segment_text p ++ drop (close + 1) text
    → ((ps : List Pair) → more ≡ Ok ps → FoundAll n text (close + 2) ps) → after_segment text close p more ≡ Ok pairs → FoundAll (suc n) text at pairs
after_found n text at close p more pairs filled spells before e = ⊎_elim
    (λ t. let whole : (length text == close + 1) ≡ true = t in let one = rw whole at e in one_found n text at close p pairs filled spells (eqb-true _ _ whole) cc)
    (λ f. ⊎_elim
    (λ t.
    let longer : (length text == close + 1) ≡ false = f in
    let slash : (slice_index text (close + 1) == 47) ≡ true = t in
    let rest = rw (longer, slash) at e in
    let b = bound more _ pairs rest in
    more_found n text at close p b.result pairs filled spells (eqb-true _ _ slash) (before b.result b.was) (let on = b.on in cc))
    (λ t. absurd (let longer : (length text == close + 1) ≡ false = f in let other : (slice_index text (close + 1) == 47) ≡ false = t in let bad = rw (longer, other) at e in cc))
    (cases_Bool (slice_index text (close + 1) == 47)))
    (cases_Bool (length text == close + 1))

segments_found : (n : ℕ) (text : List ℕ) (at : ℕ) (pairs : List Pair) → segments_at n text at ≡ Ok pairs → FoundAll n text at pairs
unfolding segments_at
segments_found zero text at pairs e = absurd cc
segments_found (suc n) text at pairs e =
    let b = bound (segment_at text at) _ pairs e in
    let f = segment_found text at b.result b.was in
    after_found n text at b.result.1 (pair_of text at b.result) (segments_at n text (b.result.1 + 2)) pairs f.filled f.spells (λ ps h. segments_found n text (b.result.1 + 2) ps h) b.on

-- what is read as pairs is their id
pub id_found : (text : List ℕ) (pairs : List Pair) → read_id text ≡ Ok pairs → IsIdText text pairs
unfolding read_id
id_found text pairs e = ⊎_elim
    (λ t. absurd (let none : (length text == 0) ≡ true = t in let bad = rw none at e in cc))
    (λ t.
    let some : (length text == 0) ≡ false = t in
    let f = segments_found 16 text 0 pairs (rw some at e) in
    record { id = record { some = f.some; few = f.few; filled = f.filled }; spells = f.spells })
    (cases_Bool (length text == 0))
