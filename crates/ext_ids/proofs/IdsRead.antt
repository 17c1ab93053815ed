-- `read_id`, first law: what is written is read. A text that is an id is read as its pairs.
use Rattle.std.proofs.Common.{◌≡◌, ◌≢◌, ℕ, zero, suc, ◌+◌, ◌<◌, false, List, [], ◌∷◌, ◌++◌, length, drop, slice_range, slice_index, Ok, refl, ap, ◌∙◌, arith, append_assoc, eq-eqb}
use Rattle.std.specs.List.{AllByRecursion}
use Rattle.std.proofs.lemmas.Bool.{ne_eqb}
use Rattle.ext_ids.specs.declared.scan.Part.TheVariants as parts
use Rattle.ext_ids.specs.Grammar.{Pair, part_text, segment_text, id_text, IsFilled, IsIdText}
use Rattle.ext_ids.specs.Reading.{part_end, unescaped, segment_at, segments_at, pair_of, read_id}
use Rattle.ext_ids.proofs.Parts.{unescaped_part, reads_part}
use Rattle.ext_ids.proofs.Pieces.{cut, first, counted, taken}

-- the parts of a segment and what follows
pub grouped : (kind value more : List ℕ) → (91 ∷ (kind ++ (58 ∷ (value ++ (93 ∷ []))))) ++ more ≡ 91 ∷ (kind ++ 58 ∷ (value ++ 93 ∷ more))
grouped kind value more = ap (λ xs. 91 ∷ xs) (append_assoc kind (58 ∷ (value ++ (93 ∷ []))) more ∙ ap (λ xs. kind ++ 58 ∷ xs) (append_assoc value (93 ∷ []) more))

-- a segment that was read at `at`, and what follows it
pub record Segment (text : List ℕ) (at : ℕ) (p : Pair) (more : List ℕ) : Type 0 where
  pub kind : ℕ
  pub value : ℕ
  pub ends : segment_at text at ≡ Ok (kind, value)
  pub pair : pair_of text at (kind, value) ≡ p
  pub after : drop (value + 1) text ≡ more
  pub count : length text ≡ value + 1 + length more

segment_is : (text : List ℕ) (at kind value : ℕ) → length text ≢ at → slice_index text at ≡ 91 → part_end parts.Type (at + 1) false (drop (at + 1) text) ≡ Ok kind → part_end parts.Value (kind + 1) false (drop (kind + 1) text) ≡ Ok value
    → segment_at text at ≡ Ok (kind, value)
unfolding segment_at
segment_is text at kind value inside opening one two = rw (ne_eqb (length text) at inside, eq-eqb (slice_index text at) 91 opening, one, two) refl

pair_is : (text : List ℕ) (at kind value : ℕ) (p : Pair) → slice_range text (at + 1) kind ≡ part_text p.0 → slice_range text (kind + 1) value ≡ part_text p.1 → pair_of text at (kind, value) ≡ p
pair_is text at kind value p k v =
    let one : unescaped 0 (slice_range text (at + 1) kind) ≡ p.0 = ap (unescaped 0) k ∙ unescaped_part p.0 in
    let two : unescaped 0 (slice_range text (kind + 1) value) ≡ p.1 = ap (unescaped 0) v ∙ unescaped_part p.1 in rw (one, two) refl

pub segment_read : (text : List ℕ) (at : ℕ) (p : Pair) (more : List ℕ) → IsFilled p → drop at text ≡ segment_text p ++ more → Segment text at p more
segment_read text at p more filled e =
    let whole : drop at text ≡ 91 ∷ (part_text p.0 ++ 58 ∷ (part_text p.1 ++ 93 ∷ more)) = e ∙ grouped (part_text p.0) (part_text p.1) more in
    let kind : drop (at + 1) text ≡ part_text p.0 ++ 58 ∷ (part_text p.1 ++ 93 ∷ more) = cut text (91 ∷ []) _ at (at + 1) whole (omega arith) in
    let at_colon : drop (at + 1 + length (part_text p.0)) text ≡ 58 ∷ (part_text p.1 ++ 93 ∷ more) = cut text (part_text p.0) _ (at + 1) _ kind refl in
    let value : drop (at + 1 + length (part_text p.0) + 1) text ≡ part_text p.1 ++ 93 ∷ more = cut text (58 ∷ []) _ _ _ at_colon (omega arith) in
    let at_close : drop (at + 1 + length (part_text p.0) + 1 + length (part_text p.1)) text ≡ 93 ∷ more = cut text (part_text p.1) _ _ _ value refl in
    record {
      kind = at + 1 + length (part_text p.0);
      value = at + 1 + length (part_text p.0) + 1 + length (part_text p.1);
      ends = segment_is text at _ _ (let n = counted text _ at 91 whole in omega arith) (first text _ at 91 whole)
          (ap (part_end parts.Type (at + 1) false) kind ∙ reads_part parts.Type (at + 1) p.0 _ filled.0)
          (ap (part_end parts.Value (at + 1 + length (part_text p.0) + 1) false) value ∙ reads_part parts.Value _ p.1 more filled.1);
      pair = pair_is text at _ _ p (taken text (part_text p.0) _ (at + 1) _ kind refl) (taken text (part_text p.1) _ (at + 1 + length (part_text p.0) + 1) _ value refl);
      after = cut text (93 ∷ []) more _ _ at_close (omega arith);
      count = counted text more _ 93 at_close;
    }

last_segment : (n : ℕ) (text : List ℕ) (at : ℕ) (p : Pair) → Segment text at p [] → segments_at (suc n) text at ≡ Ok (p ∷ [])
unfolding segments_at
last_segment n text at p s = rw s.ends (rw (eq-eqb (length text) (s.value + 1) (s.count ∙ omega arith), s.pair) refl)

one_more_segment : (n : ℕ) (text : List ℕ) (at : ℕ) (p : Pair) (more : List ℕ) (ps : List Pair) (s : Segment text at p (47 ∷ more)) → segments_at n text (s.value + 2) ≡ Ok ps → segments_at (suc n) text at ≡ Ok (p ∷ ps)
unfolding segments_at
one_more_segment n text at p more ps s h =
    let longer : length text ≢ s.value + 1 = let n = s.count in omega arith in
    rw s.ends (rw (ne_eqb (length text) (s.value + 1) longer, eq-eqb (slice_index text (s.value + 1)) 47 (first text more _ 47 s.after), h, s.pair) refl)

segments_read : (n : ℕ) (text : List ℕ) (at : ℕ) (p : Pair) (ps : List Pair) → length ps < n → AllByRecursion IsFilled (p ∷ ps) → drop at text ≡ id_text (p ∷ ps) → segments_at n text at ≡ Ok (p ∷ ps)
segments_read zero text at p ps few filled e = absurd (omega arith)
segments_read (suc n) text at p [] few filled e = last_segment n text at p (segment_read text at p [] filled.0 e)
segments_read (suc n) text at p (q ∷ ps) few filled e =
    let s = segment_read text at p (47 ∷ id_text (q ∷ ps)) filled.0 e in
    one_more_segment n text at p (id_text (q ∷ ps)) (q ∷ ps) s (segments_read n text (s.value + 2) q ps (omega arith) filled.1 (cut text (47 ∷ []) _ (s.value + 1) _ s.after (omega arith)))

-- an id is read as its pairs
pub id_read : (text : List ℕ) (pairs : List Pair) → IsIdText text pairs → read_id text ≡ Ok pairs
unfolding read_id
id_read text [] h = absurd (let n = h.id.some in omega arith)
id_read text (p ∷ ps) h =
    let e : drop 0 text ≡ id_text (p ∷ ps) = h.spells in
    let some : length text ≢ 0 = let n = counted text _ 0 91 e in omega arith in
    rw (ne_eqb _ _ some) (segments_read 16 text 0 p ps (let n = h.id.few in omega arith) h.id.filled e)
