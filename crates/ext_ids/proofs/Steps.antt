-- `segments_at` one segment after another, as the loops go.
use Rattle.std.proofs.Common.{◌≡◌, ◌≢◌, ◌==◌, true, false, eq-eqb, ℕ, suc, ◌+◌, ◌-◌, ◌<◌, List, [], ◌∷◌, ◌++◌, length, Result, Ok, Err, IsOk, refl, ap, sym, ◌∙◌, arith, append_assoc, slice_index}
use Rattle.std.proofs.lemmas.Bool.{ne_eqb}
use Rattle.ext_ids.specs.declared.fault.IdFault.{IdFault}
use Rattle.ext_ids.specs.declared.fault.IdFault.TheVariants as faults
use Rattle.ext_ids.specs.Reading.{◌>>=◌, read_id, segment_at, segments_at, after_segment, pair_of}
use Rattle.ext_ids.specs.Grammar.{Pair}

-- these segments, and those that are read after them
abbrev pub with_front : List Pair → Result (List Pair) IdFault → Result (List Pair) IdFault
with_front front read = read >>= (λ pairs. Ok (front ++ pairs))

-- one step of reading on, with `k` segments done of sixteen
segments_step : (k : ℕ) (text : List ℕ) (at : ℕ) → k < 16
    → segments_at (16 - k) text at ≡ (segment_at text at >>= (λ ends. after_segment text ends.1 (pair_of text at ends) (segments_at (16 - (k + 1)) text (ends.1 + 2))))
unfolding segments_at
segments_step k text at h = let e : 16 - k ≡ suc (16 - (k + 1)) = omega arith in rw e

pub at_fault : (k : ℕ) (text : List ℕ) (at : ℕ) (e : IdFault) → k < 16 → segment_at text at ≡ Err e → segments_at (16 - k) text at ≡ Err e
at_fault k text at e h found = segments_step k text at h ∙ rw found

pub at_end : (k : ℕ) (text : List ℕ) (at : ℕ) (ends : ℕ × ℕ) → k < 16 → segment_at text at ≡ Ok ends → ends.1 + 1 ≡ length text
    → segments_at (16 - k) text at ≡ Ok (pair_of text at ends ∷ [])
at_end k text at ends h found whole =
    segments_step k text at h ∙ rw found (let t : (length text == ends.1 + 1) ≡ true = eq-eqb _ _ (sym whole) in rw t)

pub at_raw : (k : ℕ) (text : List ℕ) (at : ℕ) (ends : ℕ × ℕ) → k < 16 → segment_at text at ≡ Ok ends → ends.1 + 1 ≢ length text → slice_index text (ends.1 + 1) ≢ 47
    → segments_at (16 - k) text at ≡ Err (faults.RawCharacter (ends.1 + 1))
at_raw k text at ends h found more other =
    segments_step k text at h ∙ rw found (
    let t : (length text == ends.1 + 1) ≡ false = ne_eqb _ _ (λ e. more (sym e)) in
    let u : (slice_index text (ends.1 + 1) == 47) ≡ false = ne_eqb _ _ other in rw (t, u))

pub at_slash : (k : ℕ) (text : List ℕ) (at : ℕ) (ends : ℕ × ℕ) → k < 16 → segment_at text at ≡ Ok ends → ends.1 + 1 ≢ length text → slice_index text (ends.1 + 1) ≡ 47
    → segments_at (16 - k) text at ≡ (segments_at (16 - (k + 1)) text (ends.1 + 2) >>= (λ pairs. Ok (pair_of text at ends ∷ pairs)))
at_slash k text at ends h found more slash =
    segments_step k text at h ∙ rw found (
    let t : (length text == ends.1 + 1) ≡ false = ne_eqb _ _ (λ e. more (sym e)) in
    let u : (slice_index text (ends.1 + 1) == 47) ≡ true = eq-eqb _ _ slash in rw (t, u))

-- an empty text, and any other
pub read_empty : (text : List ℕ) → length text ≡ 0 → read_id text ≡ Err faults.Empty
unfolding read_id
read_empty text e = rw (eq-eqb _ _ e)

pub read_some : (text : List ℕ) → length text ≢ 0 → read_id text ≡ segments_at 16 text 0
unfolding read_id
read_some text e = rw (ne_eqb _ _ e)

pub segments_end : (text : List ℕ) (at : ℕ) → segments_at 0 text at ≡ Err faults.TooDeep
unfolding segments_at
segments_end text at = refl

-- whether reading succeeds
pub IsOk-cons : (p : Pair) (r : Result (List Pair) IdFault) → IsOk r → IsOk (r >>= (λ pairs. Ok (p ∷ pairs)))
IsOk-cons p (Ok x) h = refl
IsOk-cons p (Err e) h = h

pub with_front-cons : (front : List Pair) (p : Pair) (r : Result (List Pair) IdFault) → with_front front (r >>= (λ pairs. Ok (p ∷ pairs))) ≡ with_front (front ++ p ∷ []) r
with_front-cons front p (Ok x) = ap Ok (sym (append_assoc front (p ∷ []) x))
with_front-cons front p (Err e) = refl

pub with_front-nil : (r : Result (List Pair) IdFault) → with_front [] r ≡ r
with_front-nil (Ok x) = refl
with_front-nil (Err e) = refl
