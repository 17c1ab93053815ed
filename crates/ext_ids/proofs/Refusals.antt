-- `HasFault`, first law: what a text is refused for is its fault.
use Rattle.std.proofs.Common.{◌≡◌, ◌≢◌, ℕ, zero, suc, ◌+◌, ◌<◌, true, false, ◌==◌, List, [], ◌∷◌, ◌++◌, length, drop, get_or, slice_index, Result, Ok, Err, Some, refl, ap, sym, subst, ◌∙◌, arith, append_assoc, length-append, length-drop, ◌⊎◌, inl, inr, ⊎_elim}
use Rattle.std.specs.List.{AllByRecursion}
use Rattle.std.proofs.lemmas.Bool.{ne_eqb, eqb-true, eqb-false, cases_Bool}
use Rattle.std.proofs.lemmas.List.{append-nil, get_or-drop, drop_all}
use Rattle.std.proofs.lemmas.List.Concat.{flat_map-append}
use Rattle.ext_ids.specs.declared.fault.IdFault.{IdFault}
use Rattle.ext_ids.specs.declared.fault.IdFault.TheVariants as faults
use Rattle.ext_ids.specs.declared.scan.Part.TheVariants as parts
use Rattle.ext_ids.specs.Grammar.{Pair, part_text, segment_text, IsFilled}
use Rattle.ext_ids.specs.Reading.{◌>>=◌, part_end, segment_at, segments_at, after_segment, pair_of, read_id}
use Rattle.ext_ids.specs.Faults.{type_fault, value_fault, has_character, ahead, opens, BeginsWith, HasFault, no_text, no_segment, in_type, in_value, after_segment as after_last, too_deep}
use Rattle.ext_ids.proofs.Parts.{ReadPart, found_part}
use Rattle.ext_ids.proofs.Pieces.{cut, stands_at}
use Rattle.ext_ids.proofs.IdsFound.{segment_found}
use Rattle.ext_ids.proofs.PartFaults.{PartFault, refused_part}

-- the first part of a sequence failed, or the second
pub record Later {A B : Type 0} (r : Result A IdFault) (f : A → Result B IdFault) (what : IdFault) : Type 0 where
  pub result : A
  pub was : r ≡ Ok result
  pub on : f result ≡ Err what

failed : {A B : Type 0} (r : Result A IdFault) (f : A → Result B IdFault) (what : IdFault) → (r >>= f) ≡ Err what → (r ≡ Err what) ⊎ Later r f what
failed (Ok x) f what e = inr (record { result = x; was = refl; on = e })
failed (Err x) f what e = inl (let same : x ≡ what = cc in ap Err same)

-- what is wrong in the segment that begins at `at`
pub data SegmentFault (text : List ℕ) (at : ℕ) : IdFault → Type 0 where
  not_open : opens (drop at text) ≡ false → SegmentFault text at (faults.NoOpen at)
  bad_type : (kind rest : List ℕ) (what : IdFault) → drop at text ≡ 91 ∷ (part_text kind ++ rest) → type_fault (at + 1 + length (part_text kind)) (has_character kind) rest ≡ Some what → SegmentFault text at what
  bad_value : (kind value rest : List ℕ) (what : IdFault) → kind ≢ [] → drop at text ≡ 91 ∷ (part_text kind ++ (58 ∷ (part_text value ++ rest)))
      → value_fault (at + 1 + length (part_text kind) + 1 + length (part_text value)) (has_character value) rest ≡ Some what → SegmentFault text at what

no_open : (xs : List ℕ) → (get_or xs 0 0 == 91) ≡ false → opens xs ≡ false
no_open [] h = refl
no_open (x ∷ xs) h = h

no_open_at : (text : List ℕ) (at : ℕ) → (slice_index text at == 91) ≡ false → opens (drop at text) ≡ false
no_open_at text at h =
    let zero_more : at + 0 ≡ at = omega arith in
    no_open (drop at text) (ap (λ b. b == 91) (get_or-drop at text 0 0 ∙ ap (λ n. get_or text n 0) zero_more) ∙ h)

wrong_open : (text : List ℕ) (at : ℕ) (what : IdFault) → faults.NoOpen at ≡ what → opens (drop at text) ≡ false → SegmentFault text at what
wrong_open text at what same h = subst (SegmentFault text at) same (not_open h)

type_wrong : (text : List ℕ) (at : ℕ) (what : IdFault) → slice_index text at ≡ 91 → PartFault parts.Type (at + 1) false (drop (at + 1) text) what → SegmentFault text at what
type_wrong text at what opening f = bad_type f.value f.rest what (stands_at text at 91 (omega arith) opening ∙ ap (λ xs. 91 ∷ xs) f.spells) f.fault

value_wrong : (text : List ℕ) (at kind : ℕ) (what : IdFault) → slice_index text at ≡ 91 → ReadPart parts.Type (at + 1) false (drop (at + 1) text) kind → PartFault parts.Value (kind + 1) false (drop (kind + 1) text) what → SegmentFault text at what
value_wrong text at kind what opening k f =
    let at_colon : drop kind text ≡ 58 ∷ k.rest = cut text (part_text k.value) (58 ∷ k.rest) (at + 1) kind k.spells k.ends in
    let after_colon : drop (kind + 1) text ≡ k.rest = cut text (58 ∷ []) k.rest kind (kind + 1) at_colon (omega arith) in
    bad_value k.value f.value f.rest what (k.filled refl)
    (stands_at text at 91 (omega arith) opening ∙ ap (λ xs. 91 ∷ xs) (k.spells ∙ ap (λ xs. part_text k.value ++ 58 ∷ xs) (sym after_colon ∙ f.spells)))
    (ap (λ n. value_fault (n + 1 + length (part_text f.value)) (has_character f.value) f.rest) (sym k.ends) ∙ f.fault)

segment_refused : (text : List ℕ) (at : ℕ) (what : IdFault) → segment_at text at ≡ Err what → SegmentFault text at what
unfolding segment_at
segment_refused text at what e = ⊎_elim
    (λ t. let over : (length text == at) ≡ true = t in
    let fault = rw over at e in
    wrong_open text at what (cc) (ap opens (drop_all at text (let n = eqb-true _ _ over in omega arith))))
    (λ f. ⊎_elim
    (λ t.
    let opening : (slice_index text at == 91) ≡ true = t in
    let inside : (length text == at) ≡ false = f in
    let rest = rw (inside, opening) at e in
    ⊎_elim
    (λ k. type_wrong text at what (eqb-true _ _ opening) (refused_part parts.Type (at + 1) false _ what k))
    (λ k. ⊎_elim
    (λ v. value_wrong text at k.result what (eqb-true _ _ opening) (found_part parts.Type (at + 1) false _ k.result k.was) (refused_part parts.Value (k.result + 1) false _ what v))
    (λ v. absurd (let on = v.on in cc))
    (failed (part_end parts.Value (k.result + 1) false (drop (k.result + 1) text)) _ what k.on))
    (failed (part_end parts.Type (at + 1) false (drop (at + 1) text)) _ what rest))
    (λ t. let inside : (length text == at) ≡ false = f in let other : (slice_index text at == 91) ≡ false = t in let fault = rw (inside, other) at e in
    wrong_open text at what (cc) (no_open_at text at other))
    (cases_Bool (slice_index text at == 91)))
    (cases_Bool (length text == at))

in_text : (text : List ℕ) (before : List Pair) (what : IdFault) → length before < 16 → text ≢ [] → BeginsWith text before (drop (length (ahead before)) text) → SegmentFault text (length (ahead before)) what → HasFault text what
in_text text before what few some b (not_open h) = no_segment before (drop (length (ahead before)) text) few some b h
in_text text before what few some b (bad_type kind rest _ e f) = in_type before kind rest what few (record { filled = b.filled; splits = b.splits ∙ ap (λ xs. ahead before ++ xs) e }) f
in_text text before what few some b (bad_value kind value rest _ k e f) = in_value before kind value rest what few k (record { filled = b.filled; splits = b.splits ∙ ap (λ xs. ahead before ++ xs) e }) f

-- one segment more
ahead_more : (before : List Pair) (p : Pair) → ahead (before ++ p ∷ []) ≡ ahead before ++ (segment_text p ++ 47 ∷ [])
ahead_more before p = flat_map-append (λ q. segment_text q ++ 47 ∷ []) before (p ∷ []) ∙ ap (λ xs. ahead before ++ xs) (append-nil (segment_text p ++ 47 ∷ []))

filled_more : (before : List Pair) (p : Pair) → AllByRecursion IsFilled before → IsFilled p → AllByRecursion IsFilled (before ++ p ∷ [])
filled_more [] p h f = (f, tt)
filled_more (q ∷ before) p h f = (h.0, filled_more before p h.1 f)

pub record Head (xs : List ℕ) : Type 0 where
  pub character : ℕ
  pub rest : List ℕ
  pub is : xs ≡ character ∷ rest

head_of : (xs : List ℕ) → 0 < length xs → Head xs
head_of [] h = absurd (omega arith)
head_of (x ∷ xs) h = record { character = x; rest = xs; is = refl }

raw_after : (text : List ℕ) (before : List Pair) (p : Pair) (close : ℕ) → length before < 16 → AllByRecursion IsFilled before → IsFilled p → text ≡ ahead before ++ drop (length (ahead before)) text
    → drop (length (ahead before)) text ≡ segment_text p ++ drop (close + 1) text → close + 1 ≡ length (ahead before) + length (segment_text p) → slice_index text (close + 1) ≢ 47 → close + 1 < length text
    → HasFault text (faults.RawCharacter (close + 1))
raw_after text before p close few filled full whole spells place other inside =
    let h = head_of (drop (close + 1) text) (let n = length-drop (close + 1) text in omega arith) in
    let zero_more : close + 1 + 0 ≡ close + 1 = omega arith in
    let same : slice_index text (close + 1) ≡ h.character = ap (λ n. get_or text n 0) (sym zero_more) ∙ sym (get_or-drop (close + 1) text 0 0) ∙ ap (λ xs. get_or xs 0 0) h.is in
    subst (λ n. HasFault text (faults.RawCharacter n)) (sym place)
    (after_last before p h.character h.rest few full (λ e. other (same ∙ e)) (record { filled = filled; splits = whole ∙ ap (λ xs. ahead before ++ xs) (spells ∙ ap (λ xs. segment_text p ++ xs) h.is) }))

-- what holds before each segment
pub record Walk (n : ℕ) (text : List ℕ) (before : List Pair) : Type 0 where
  pub count : length before + n ≡ 16
  pub filled : AllByRecursion IsFilled before
  pub whole : text ≡ ahead before ++ drop (length (ahead before)) text

place_more : (before : List Pair) (p : Pair) (close : ℕ) → close + 1 ≡ length (ahead before) + length (segment_text p) → length (ahead (before ++ p ∷ [])) ≡ close + 2
place_more before p close place = ap length (ahead_more before p) ∙ omega (arith, length-append (ahead before) (segment_text p ++ 47 ∷ []), length-append (segment_text p) (47 ∷ []))

walk_on : (n : ℕ) (text : List ℕ) (before : List Pair) (p : Pair) (close : ℕ) → Walk (suc n) text before → IsFilled p → drop (length (ahead before)) text ≡ segment_text p ++ drop (close + 1) text → close + 1 ≡ length (ahead before) + length (segment_text p)
    → slice_index text (close + 1) ≡ 47 → Walk n text (before ++ p ∷ [])
walk_on n text before p close w full spells place slash = record {
  count = let m = w.count in omega (arith, length-append before (p ∷ []));
  filled = filled_more before p w.filled full;
  whole =
      let two : close + 1 + 1 ≡ close + 2 = omega arith in
      let rest : drop (close + 1) text ≡ 47 ∷ drop (length (ahead (before ++ p ∷ []))) text = stands_at text (close + 1) 47 (omega arith) slash ∙ ap (λ n. 47 ∷ drop n text) (two ∙ sym (place_more before p close place)) in
      w.whole ∙ ap (λ xs. ahead before ++ xs) (spells ∙ ap (λ xs. segment_text p ++ xs) rest)
      ∙ regroup (ahead before) (segment_text p) (drop (length (ahead (before ++ p ∷ []))) text)
      ∙ ap (λ xs. xs ++ drop (length (ahead (before ++ p ∷ []))) text) (sym (ahead_more before p));
}
  where
    regroup : (xs ys zs : List ℕ) → xs ++ (ys ++ 47 ∷ zs) ≡ (xs ++ (ys ++ 47 ∷ [])) ++ zs
    regroup xs ys zs = ap (λ u. xs ++ u) (sym (append_assoc ys (47 ∷ []) zs)) ∙ sym (append_assoc xs (ys ++ 47 ∷ []) zs)

after_refused : (n : ℕ) (text : List ℕ) (before : List Pair) (p : Pair) (close : ℕ) (more : Result (List Pair) IdFault) (what : IdFault) → Walk (suc n) text before → IsFilled p → drop (length (ahead before)) text ≡ segment_text p ++ drop (close + 1) text
    → close + 1 ≡ length (ahead before) + length (segment_text p) → close < length text → (Walk n text (before ++ p ∷ []) → more ≡ Err what → HasFault text what) → after_segment text close p more ≡ Err what → HasFault text what
after_refused n text before p close more what w full spells place inside next e = ⊎_elim
    (λ t. absurd (let whole : (length text == close + 1) ≡ true = t in let bad = rw whole at e in cc))
    (λ f. ⊎_elim
    (λ t.
    let longer : (length text == close + 1) ≡ false = f in
    let slash : (slice_index text (close + 1) == 47) ≡ true = t in
    let rest = rw (longer, slash) at e in
    ⊎_elim
    (λ m. next (walk_on n text before p close w full spells place (eqb-true _ _ slash)) m)
    (λ m. absurd (let on = m.on in cc))
    (failed more _ what rest))
    (λ t.
    let longer : (length text == close + 1) ≡ false = f in
    let other : (slice_index text (close + 1) == 47) ≡ false = t in
    let fault = rw (longer, other) at e in
    let same : faults.RawCharacter (close + 1) ≡ what = cc in
    let apart : length text ≢ close + 1 = eqb-false _ _ longer in
    subst (HasFault text) same (raw_after text before p close (let m = w.count in omega arith) w.filled full w.whole spells place (eqb-false _ _ other) (omega arith)))
    (cases_Bool (slice_index text (close + 1) == 47)))
    (cases_Bool (length text == close + 1))

refused_from : (n : ℕ) (text : List ℕ) (before : List Pair) (what : IdFault) → text ≢ [] → Walk n text before → segments_at n text (length (ahead before)) ≡ Err what → HasFault text what
unfolding segments_at
refused_from zero text before what some w e =
    let same : faults.TooDeep ≡ what = cc in
    subst (HasFault text) same (too_deep before (drop (length (ahead before)) text) (let m = w.count in omega arith) (record { filled = w.filled; splits = w.whole }))
refused_from (suc n) text before what some w e = ⊎_elim
    (λ s. in_text text before what (let m = w.count in omega arith) some (record { filled = w.filled; splits = w.whole }) (segment_refused text (length (ahead before)) what s))
    (λ s.
    let f = segment_found text (length (ahead before)) s.result s.was in
    let p = pair_of text (length (ahead before)) s.result in
    after_refused n text before p s.result.1 (segments_at n text (s.result.1 + 2)) what w f.filled f.spells f.place f.inside
    (λ v m. refused_from n text (before ++ p ∷ []) what some v (ap (segments_at n text) (place_more before p s.result.1 f.place) ∙ m)) s.on)
    (failed (segment_at text (length (ahead before))) _ what e)

-- what reading refuses a text for is its fault
pub id_refused : (text : List ℕ) (what : IdFault) → read_id text ≡ Err what → HasFault text what
unfolding read_id
id_refused [] what e = let same : faults.Empty ≡ what = cc in subst (HasFault []) same (no_text refl)
id_refused (c ∷ text) what e =
    let some : (length (c ∷ text) == 0) ≡ false = ne_eqb (length (c ∷ text)) 0 (λ none. absurd (omega arith)) in
    refused_from 16 (c ∷ text) [] what (λ none. absurd cc) (record { count = refl; filled = tt; whole = refl }) (rw some at e)
