-- `HasFault`, second law: a text that has a fault is refused for it.
use Rattle.std.proofs.Common.{◌≡◌, ◌≢◌, ℕ, suc, ◌+◌, ◌<◌, Bool, true, false, ◌==◌, ◌||◌, List, [], ◌∷◌, ◌++◌, length, drop, get_or, slice_index, Ok, Err, Some, is_some, refl, ap, sym, ◌∙◌, arith, append_assoc, length-append, length-drop, ◌-◌, eq-eqb}
use Rattle.std.specs.List.{AllByRecursion}
use Rattle.std.proofs.lemmas.Bool.{ne_eqb}
use Rattle.std.proofs.lemmas.List.{get_or-drop}
use Rattle.std.proofs.Math.Bool.{or-true}
use Rattle.ext_ids.specs.declared.fault.IdFault.{IdFault}
use Rattle.ext_ids.specs.declared.fault.IdFault.TheVariants as faults
use Rattle.ext_ids.specs.declared.scan.Part.{Part}
use Rattle.ext_ids.specs.declared.scan.Part.TheVariants as parts
use Rattle.ext_ids.specs.Grammar.{Pair, spelled, part_text, segment_text, IsFilled, escape_of}
use Rattle.ext_ids.specs.Reading.{part_end, segment_at, segments_at, read_id}
use Rattle.ext_ids.specs.Faults.{type_fault, value_fault, has_character, ahead, opens, HasFault, no_text, no_segment, in_type, in_value, after_segment, too_deep}
use Rattle.ext_ids.proofs.Characters.{Mark, plain, percent, plus, opening, closing_mark, colon, slash, mark_of, item_read}
use Rattle.ext_ids.proofs.Parts.{reads_part}
use Rattle.ext_ids.proofs.Pieces.{cut, first, counted}
use Rattle.ext_ids.proofs.IdsRead.{Segment, segment_read}

-- a part is read over its characters
items_read : (part : Part) (at : ℕ) (some : Bool) (value rest : List ℕ) → part_end part at some (part_text value ++ rest) ≡ part_end part (at + length (part_text value)) (some || has_character value) rest
items_read part at some [] rest = same some
  where
    place : at ≡ at + 0
    place = omega arith

    same : (s : Bool) → part_end part at s rest ≡ part_end part (at + 0) (s || false) rest
    same true = ap (λ k. part_end part k true rest) place
    same false = ap (λ k. part_end part k false rest) place
items_read part at some (b ∷ value) rest =
    ap (part_end part at some) (append_assoc (spelled b) (part_text value) rest)
    ∙ item_read part at some b (part_text value ++ rest)
    ∙ items_read part (at + length (spelled b)) true value rest
    ∙ ap (λ k. part_end part k true rest) place
    ∙ ap (λ s. part_end part (at + length (part_text (b ∷ value))) s rest) (sym (or-true some))
  where
    place : at + length (spelled b) + length (part_text value) ≡ at + length (part_text (b ∷ value))
    place = omega (arith, length-append (spelled b) (part_text value))

escape_wrong : (part : Part) (at : ℕ) (some : Bool) (rest : List ℕ) (o : Bool) (what : IdFault) → (if_none : o ≡ is_some (escape_of rest)) → what ≡ faults.BadEscape at → o ≡ false → part_end part at some (37 ∷ rest) ≡ Err what
escape_wrong part at some rest o what e same lacking = let none : is_some (escape_of rest) ≡ false = sym e ∙ lacking in rw (none, same) refl

-- a fault in a type is met there
type_marked : (at : ℕ) (some : Bool) (c : ℕ) (rest : List ℕ) (what : IdFault) → Mark c → type_fault at some (c ∷ rest) ≡ Some what → part_end parts.Type at some (c ∷ rest) ≡ Err what
type_marked at some c rest what (plain _ h) e = absurd (let bad = rw (h.percent, h.plus, h.opening, h.slash, h.colon, h.closing_mark) at e in cc)
type_marked at some c rest what percent e = escaped (is_some (escape_of rest)) refl
  where
    escaped : (o : Bool) → o ≡ is_some (escape_of rest) → part_end parts.Type at some (37 ∷ rest) ≡ Err what
    escaped true k = absurd (let bad = rw (← k) at e in cc)
    escaped false k = let same = rw (← k) at e in escape_wrong parts.Type at some rest false what k (cc) refl
type_marked at some c rest what plus e = let same : faults.RawCharacter at ≡ what = cc in ap Err same
type_marked at some c rest what opening e = let same : faults.RawCharacter at ≡ what = cc in ap Err same
type_marked at some c rest what slash e = let same : faults.RawCharacter at ≡ what = cc in ap Err same
type_marked at some c rest what closing_mark e = let same : faults.NoSeparator at ≡ what = cc in ap Err same
type_marked at true c rest what colon e = absurd cc
type_marked at false c rest what colon e = let same : faults.EmptyPart at ≡ what = cc in ap Err same

type_met : (at : ℕ) (some : Bool) (rest : List ℕ) (what : IdFault) → type_fault at some rest ≡ Some what → part_end parts.Type at some rest ≡ Err what
type_met at some [] what e = let same : faults.NoSeparator at ≡ what = cc in ap Err same
type_met at some (c ∷ rest) what e = type_marked at some c rest what (mark_of c) e

value_marked : (at : ℕ) (some : Bool) (c : ℕ) (rest : List ℕ) (what : IdFault) → Mark c → value_fault at some (c ∷ rest) ≡ Some what → part_end parts.Value at some (c ∷ rest) ≡ Err what
value_marked at some c rest what (plain _ h) e = absurd (let bad = rw (h.percent, h.plus, h.opening, h.slash, h.colon, h.closing_mark) at e in cc)
value_marked at some c rest what percent e = escaped (is_some (escape_of rest)) refl
  where
    escaped : (o : Bool) → o ≡ is_some (escape_of rest) → part_end parts.Value at some (37 ∷ rest) ≡ Err what
    escaped true k = absurd (let bad = rw (← k) at e in cc)
    escaped false k = let same = rw (← k) at e in escape_wrong parts.Value at some rest false what k (cc) refl
value_marked at some c rest what plus e = let same : faults.RawCharacter at ≡ what = cc in ap Err same
value_marked at some c rest what opening e = let same : faults.RawCharacter at ≡ what = cc in ap Err same
value_marked at some c rest what slash e = let same : faults.RawCharacter at ≡ what = cc in ap Err same
value_marked at some c rest what colon e = let same : faults.RawCharacter at ≡ what = cc in ap Err same
value_marked at true c rest what closing_mark e = absurd cc
value_marked at false c rest what closing_mark e = let same : faults.EmptyPart at ≡ what = cc in ap Err same

value_met : (at : ℕ) (some : Bool) (rest : List ℕ) (what : IdFault) → value_fault at some rest ≡ Some what → part_end parts.Value at some rest ≡ Err what
value_met at some [] what e = let same : faults.NoClose at ≡ what = cc in ap Err same
value_met at some (c ∷ rest) what e = value_marked at some c rest what (mark_of c) e

-- a segment is refused
type_refused : (text : List ℕ) (at : ℕ) (what : IdFault) → length text ≢ at → slice_index text at ≡ 91 → part_end parts.Type (at + 1) false (drop (at + 1) text) ≡ Err what → segment_at text at ≡ Err what
unfolding segment_at
type_refused text at what inside bracket one = rw (ne_eqb (length text) at inside, eq-eqb (slice_index text at) 91 bracket, one) refl

value_refused : (text : List ℕ) (at kind : ℕ) (what : IdFault) → length text ≢ at → slice_index text at ≡ 91 → part_end parts.Type (at + 1) false (drop (at + 1) text) ≡ Ok kind → part_end parts.Value (kind + 1) false (drop (kind + 1) text) ≡ Err what → segment_at text at ≡ Err what
unfolding segment_at
value_refused text at kind what inside bracket one two = rw (ne_eqb (length text) at inside, eq-eqb (slice_index text at) 91 bracket, one, two) refl

pub segment_type : (text kind rest : List ℕ) (at : ℕ) (what : IdFault) → drop at text ≡ 91 ∷ (part_text kind ++ rest) → type_fault (at + 1 + length (part_text kind)) (has_character kind) rest ≡ Some what → segment_at text at ≡ Err what
segment_type text kind rest at what e f =
    let after : drop (at + 1) text ≡ part_text kind ++ rest = cut text (91 ∷ []) _ at (at + 1) e (omega arith) in
    type_refused text at what (let n = counted text _ at 91 e in omega arith) (first text _ at 91 e)
    (ap (part_end parts.Type (at + 1) false) after ∙ items_read parts.Type (at + 1) false kind rest ∙ type_met _ _ rest what f)

pub segment_value : (text kind value rest : List ℕ) (at : ℕ) (what : IdFault) → kind ≢ [] → drop at text ≡ 91 ∷ (part_text kind ++ (58 ∷ (part_text value ++ rest)))
    → value_fault (at + 1 + length (part_text kind) + 1 + length (part_text value)) (has_character value) rest ≡ Some what → segment_at text at ≡ Err what
segment_value text kind value rest at what some e f =
    let after : drop (at + 1) text ≡ part_text kind ++ (58 ∷ (part_text value ++ rest)) = cut text (91 ∷ []) _ at (at + 1) e (omega arith) in
    let at_colon : drop (at + 1 + length (part_text kind)) text ≡ 58 ∷ (part_text value ++ rest) = cut text (part_text kind) _ (at + 1) _ after refl in
    let next : drop (at + 1 + length (part_text kind) + 1) text ≡ part_text value ++ rest = cut text (58 ∷ []) _ _ _ at_colon (omega arith) in
    value_refused text at (at + 1 + length (part_text kind)) what (let n = counted text _ at 91 e in omega arith) (first text _ at 91 e)
    (ap (part_end parts.Type (at + 1) false) after ∙ reads_part parts.Type (at + 1) kind _ some)
    (ap (part_end parts.Value (at + 1 + length (part_text kind) + 1) false) next ∙ items_read parts.Value _ false value rest ∙ value_met _ _ rest what f)

not_opened : (xs : List ℕ) → opens xs ≡ false → (get_or xs 0 0 == 91) ≡ false
not_opened [] h = refl
not_opened (x ∷ xs) h = h

unopened : (text : List ℕ) (at : ℕ) → (slice_index text at == 91) ≡ false → segment_at text at ≡ Err (faults.NoOpen at)
unfolding segment_at
unopened text at h = rw (h, or-true (length text == at)) refl

pub segment_open : (text : List ℕ) (at : ℕ) → opens (drop at text) ≡ false → segment_at text at ≡ Err (faults.NoOpen at)
segment_open text at h =
    let zero_more : at ≡ at + 0 = omega arith in
    unopened text at (ap (λ b. b == 91) (ap (λ n. get_or text n 0) zero_more ∙ sym (get_or-drop at text 0 0)) ∙ not_opened (drop at text) h)

-- the segments before are read
refused_first : (n : ℕ) (text : List ℕ) (at : ℕ) (what : IdFault) → segment_at text at ≡ Err what → segments_at (suc n) text at ≡ Err what
unfolding segments_at
refused_first n text at what e = rw e refl

refused_later : (n : ℕ) (text : List ℕ) (at : ℕ) (p : Pair) (more : List ℕ) (what : IdFault) (s : Segment text at p (47 ∷ more)) → segments_at n text (s.value + 2) ≡ Err what → segments_at (suc n) text at ≡ Err what
unfolding segments_at
refused_later n text at p more what s h =
    let longer : length text ≢ s.value + 1 = let n = s.count in omega arith in
    rw s.ends (rw (ne_eqb (length text) (s.value + 1) longer, eq-eqb (slice_index text (s.value + 1)) 47 (first text more _ 47 s.after), h) refl)

raw_later : (n : ℕ) (text : List ℕ) (at : ℕ) (p : Pair) (c : ℕ) (more : List ℕ) (s : Segment text at p (c ∷ more)) → c ≢ 47 → segments_at (suc n) text at ≡ Err (faults.RawCharacter (s.value + 1))
unfolding segments_at
raw_later n text at p c more s other =
    let longer : length text ≢ s.value + 1 = let n = s.count in omega arith in
    let apart : slice_index text (s.value + 1) ≢ 47 = λ e. other (sym (first text more _ c s.after) ∙ e) in
    rw s.ends (rw (ne_eqb (length text) (s.value + 1) longer, ne_eqb (slice_index text (s.value + 1)) 47 apart) refl)

too_many : (text : List ℕ) (at : ℕ) → segments_at 0 text at ≡ Err faults.TooDeep
unfolding segments_at
too_many text at = refl

place_of : (text piece more : List ℕ) (at close : ℕ) → drop at text ≡ piece ++ more → 0 < length piece → length text ≡ close + 1 + length more → close + 1 ≡ at + length piece
place_of text piece more at close e some count =
    let left : length text - at ≡ length piece + length more = sym (length-drop at text) ∙ ap length e ∙ length-append piece more in omega arith

two_on : (segment front : List ℕ) (at close : ℕ) → close + 1 ≡ at + length segment → close + 2 + length front ≡ at + length ((segment ++ 47 ∷ []) ++ front)
two_on segment front at close e = omega (arith, length-append (segment ++ 47 ∷ []) front, length-append segment (47 ∷ []))

split : (segment front rest : List ℕ) → ((segment ++ 47 ∷ []) ++ front) ++ rest ≡ segment ++ (47 ∷ (front ++ rest))
split segment front rest = append_assoc (segment ++ 47 ∷ []) front rest ∙ append_assoc segment (47 ∷ []) (front ++ rest)

walked : (before : List Pair) (n : ℕ) (text rest : List ℕ) (at : ℕ) (what : IdFault) → AllByRecursion IsFilled before → drop at text ≡ ahead before ++ rest
    → (drop (at + length (ahead before)) text ≡ rest → segments_at n text (at + length (ahead before)) ≡ Err what) → segments_at (length before + n) text at ≡ Err what
walked [] n text rest at what filled e last =
    let place : at + 0 ≡ at = omega arith in
    let count : 0 + n ≡ n = omega arith in
    ap (λ k. segments_at k text at) count ∙ ap (segments_at n text) (sym place) ∙ last (ap (λ k. drop k text) place ∙ e)
walked (p ∷ before) n text rest at what filled e last =
    let whole : drop at text ≡ segment_text p ++ (47 ∷ (ahead before ++ rest)) = e ∙ split (segment_text p) (ahead before) rest in
    let s = segment_read text at p (47 ∷ (ahead before ++ rest)) filled.0 whole in
    let place : s.value + 2 + length (ahead before) ≡ at + length (ahead (p ∷ before)) = two_on (segment_text p) (ahead before) at s.value (place_of text (segment_text p) _ at s.value whole (omega arith) s.count) in
    let count : suc (length before) + n ≡ suc (length before + n) = omega arith in
    ap (λ k. segments_at k text at) count
    ∙ refused_later (length before + n) text at p (ahead before ++ rest) what s
    (walked before n text rest (s.value + 2) what filled.1 (cut text (47 ∷ []) _ (s.value + 1) _ s.after (omega arith))
    (λ k. ap (segments_at n text) place ∙ last (ap (λ j. drop j text) (sym place) ∙ k)))

read_some : (text : List ℕ) → text ≢ [] → read_id text ≡ segments_at 16 text 0
unfolding read_id
read_some [] some = absurd (some refl)
read_some (c ∷ text) some = rw (ne_eqb (length (c ∷ text)) 0 (λ none. absurd (omega arith))) refl

from_start : (text rest : List ℕ) (before : List Pair) (n : ℕ) (what : IdFault) → length before + n ≡ 16 → text ≢ [] → AllByRecursion IsFilled before → text ≡ ahead before ++ rest
    → (drop (length (ahead before)) text ≡ rest → segments_at n text (length (ahead before)) ≡ Err what) → read_id text ≡ Err what
from_start text rest before n what count some filled whole last =
    let place : 0 + length (ahead before) ≡ length (ahead before) = omega arith in
    read_some text some ∙ ap (λ k. segments_at k text 0) (sym count)
    ∙ walked before n text rest 0 what filled whole (λ k. ap (segments_at n text) place ∙ last (ap (λ j. drop j text) (sym place) ∙ k))

sixteen : (k : ℕ) → k < 16 → k + suc (15 - k) ≡ 16
sixteen k h = omega arith

inner : (xs ys : List ℕ) (y : ℕ) → xs ++ (y ∷ ys) ≢ []
inner [] ys y e = absurd cc
inner (x ∷ xs) ys y e = absurd cc

-- a text with a fault is refused for it
pub id_first : (text : List ℕ) (what : IdFault) → HasFault text what → read_id text ≡ Err what
unfolding read_id
id_first text what (no_text e) = rw e refl
id_first text what (no_segment before rest few some b h) =
    from_start text rest before (suc (15 - length before)) what (sixteen _ few) some b.filled b.splits (λ k. refused_first _ text _ _ (segment_open text _ (ap opens k ∙ h)))
id_first text what (in_type before kind rest _ few b f) =
    from_start text _ before (suc (15 - length before)) what (sixteen _ few) (λ none. inner (ahead before) _ 91 (sym b.splits ∙ none)) b.filled b.splits
    (λ k. refused_first _ text _ _ (segment_type text kind rest _ what k f))
id_first text what (in_value before kind value rest _ few some b f) =
    from_start text _ before (suc (15 - length before)) what (sixteen _ few) (λ none. inner (ahead before) _ 91 (sym b.splits ∙ none)) b.filled b.splits
    (λ k. refused_first _ text _ _ (segment_value text kind value rest _ what some k f))
id_first text what (after_segment before last c rest few full other b) =
    from_start text _ before (suc (15 - length before)) what (sixteen _ few) (λ none. inner (ahead before) _ 91 (sym b.splits ∙ none)) b.filled b.splits
    (λ k.
    let s = segment_read text (length (ahead before)) last (c ∷ rest) full k in
    raw_later _ text _ last c rest s other ∙ ap (λ n. Err (faults.RawCharacter n)) (place_of text (segment_text last) (c ∷ rest) _ s.value k (omega arith) s.count))
id_first text what (too_deep before rest count b) =
    from_start text rest before 0 what (omega arith) (none_empty before rest count b.splits) b.filled b.splits (λ k. too_many text _)
  where
    none_empty : (before : List Pair) (rest : List ℕ) → length before ≡ 16 → text ≡ ahead before ++ rest → text ≢ []
    none_empty [] rest count whole none = absurd (omega arith)
    none_empty (p ∷ before) rest count whole none = absurd (let e = sym whole ∙ none in cc)
