-- Texts that are cut out of bytes one after the other, and the ids that they spell.
use Rattle.std.proofs.Common.{ℕ, zero, suc, ◌≡◌, ◌<◌, ◌≤◌, ◌+◌, List, [], ◌∷◌, ◌++◌, length, take, drop, ap, sym, subst, ◌∙◌, refl, arith, Bor, ◌⊎◌, inl, inr, ◌≢◌}
use Rattle.std.specs.List.{AllZip}
use Rattle.std.proofs.Math.ListN.{get_or, get_or-map, drop_of_length-le}
use Rattle.std.proofs.Math.Numerals.{add-one}
use Rattle.std.proofs.Math.Seq.{drop-cons, take-suc}
use Rattle.std.proofs.lemmas.List.{append_assoc, append-nil, get_or_default, length-map, map_push}
use Rattle.std.specs.Str.{IsUtf8}
use Rattle.ext_ids.specs.Grammar.{Pair, IsIdText}
use Rattle.ext_ids.specs.declared.fault.IdFault.{IdFault}
use Rattle.ext_ids.specs.declared.fault.IdFault.TheVariants as id
use Rattle.ext_model.specs.declared.size.Size.{Size}
use Rattle.ext_model.specs.declared.size.Size.TheVariants as sizes
use Rattle.ext_model.specs.Sizes.{most_contexts}
use Rattle.ext_tree.specs.declared.fault.TreeFault.{TreeFault}
use Rattle.ext_tree.specs.declared.fault.TreeFault.TheVariants as tree
use Rattle.ext_tree.specs.Trees.{Id, HasFault}
use Rattle.ext_tree.specs.Keys as keys
use Rattle.ext_c.specs.declared.code.Code.{Code}
use Rattle.ext_c.specs.declared.code.Code.TheVariants as code
use Rattle.ext_c.specs.Codes.{id_code, tree_code}
use Rattle.ext_c.specs.Texts.{AreTexts, IsFirstText, IsNoText, IsTextFault, IsNoId, NamesNoTree, texts_in}

abbrev now_of : Bor (List ℕ) → List ℕ
now_of text = text.now

-- ---- texts

pub cut_first : (bytes lengths : List ℕ) (texts : List (Bor (List ℕ))) → texts ≡ [] → texts_in bytes lengths ≡ keys.texts_of texts ++ texts_in bytes lengths
cut_first bytes lengths texts e = subst (λ (ts : List (Bor (List ℕ))). texts_in bytes lengths ≡ keys.texts_of ts ++ texts_in bytes lengths) (sym e) refl

pub cut_next : (bytes lengths rest after own : List ℕ) (texts more : List (Bor (List ℕ))) (text : Bor (List ℕ)) (i n d : ℕ)
    → texts_in bytes lengths ≡ keys.texts_of texts ++ texts_in rest (drop i lengths) → i < length lengths → n ≡ get_or lengths i d → own ≡ take n rest → after ≡ drop n rest
    → text.now ≡ own → more ≡ texts ++ text ∷ [] → texts_in bytes lengths ≡ keys.texts_of more ++ texts_in after (drop (i + 1) lengths)
cut_next bytes lengths rest after own texts more text i n d so_far lt n_is own_is after_is text_is more_is =
    let g : ℕ = get_or lengths i d in
    let left : List (List ℕ) = texts_in after (drop (i + 1) lengths) in
    let first : take g rest ≡ text.now = sym (text_is ∙ (own_is ∙ ap (λ (k : ℕ). take k rest) n_is)) in
    let behind : drop g rest ≡ after = sym (after_is ∙ ap (λ (k : ℕ). drop k rest) n_is) in
    let further : drop (suc i) lengths ≡ drop (i + 1) lengths = ap (λ (k : ℕ). drop k lengths) (sym (add-one i)) in
    let pushed : keys.texts_of more ≡ keys.texts_of texts ++ text.now ∷ [] = ap (λ (ts : List (Bor (List ℕ))). keys.texts_of ts) more_is ∙ map_push now_of texts text in
    so_far ∙ (ap (λ (l : List ℕ). keys.texts_of texts ++ texts_in rest l) (drop-cons lengths i d lt)
    ∙ (ap (λ (ts : List (List ℕ)). keys.texts_of texts ++ ts) (λ j. first j ∷ texts_in (behind j) (further j))
    ∙ (sym (append_assoc (keys.texts_of texts) (text.now ∷ []) left) ∙ ap (λ (ts : List (List ℕ)). ts ++ left) (sym pushed))))

pub cut_all : (bytes lengths rest : List ℕ) (texts : List (Bor (List ℕ))) (i : ℕ) → texts_in bytes lengths ≡ keys.texts_of texts ++ texts_in rest (drop i lengths) → length lengths ≤ i
    → keys.texts_of texts ≡ texts_in bytes lengths
cut_all bytes lengths rest texts i so_far le =
    sym (so_far ∙ (ap (λ (l : List ℕ). keys.texts_of texts ++ texts_in rest l) (drop_of_length-le lengths le) ∙ append-nil (keys.texts_of texts)))

-- ---- what is a text, and what is none

module _ (bytes lengths rest : List ℕ) (i d : ℕ) (lt : i < length lengths) where
  here : drop i lengths ≡ get_or lengths i d ∷ drop (i + 1) lengths
  here = drop-cons lengths i d lt ∙ ap (λ (k : ℕ). get_or lengths i d ∷ drop k lengths) (sym (add-one i))

  pub well_next : (n : ℕ) (after : List ℕ) → (AreTexts rest (drop i lengths) → AreTexts bytes lengths) → n ≡ get_or lengths i d → after ≡ drop n rest → IsFirstText rest n
      → AreTexts after (drop (i + 1) lengths) → AreTexts bytes lengths
  well_next n after so_far n_is after_is first more =
      so_far (subst (λ (ls : List ℕ). AreTexts rest ls) (sym here)
      (subst (λ (k : ℕ). AreTexts rest (k ∷ drop (i + 1) lengths)) n_is (first, subst (λ (bs : List ℕ). AreTexts bs (drop (i + 1) lengths)) after_is more)))

  pub fault_next : (n : ℕ) (after : List ℕ) → ((said : Code) → IsTextFault rest (drop i lengths) said → IsTextFault bytes lengths said) → n ≡ get_or lengths i d → after ≡ drop n rest
      → IsFirstText rest n → (said : Code) → IsTextFault after (drop (i + 1) lengths) said → IsTextFault bytes lengths said
  fault_next n after so_far n_is after_is first said more =
      so_far said (subst (λ (ls : List ℕ). IsTextFault rest ls said) (sym here)
      (subst (λ (k : ℕ). IsTextFault rest (k ∷ drop (i + 1) lengths) said) n_is (inr (first, subst (λ (bs : List ℕ). IsTextFault bs (drop (i + 1) lengths) said) after_is more))))

  pub fault_here : (n : ℕ) (said : Code) → ((other : Code) → IsTextFault rest (drop i lengths) other → IsTextFault bytes lengths other) → n ≡ get_or lengths i d → IsNoText rest n said
      → IsTextFault bytes lengths said
  fault_here n said so_far n_is wrong =
      so_far said (subst (λ (ls : List ℕ). IsTextFault rest ls said) (sym here) (subst (λ (k : ℕ). IsTextFault rest (k ∷ drop (i + 1) lengths) said) n_is (inl wrong)))

pub well_all : (bytes lengths rest : List ℕ) (i : ℕ) → (AreTexts rest (drop i lengths) → AreTexts bytes lengths) → length lengths ≤ i → AreTexts bytes lengths
well_all bytes lengths rest i so_far le = so_far (subst (λ (ls : List ℕ). AreTexts rest ls) (sym (drop_of_length-le lengths le)) tt)

-- a text of this length that was cut off
pub first_text : (rest own : List ℕ) (n : ℕ) → n ≤ length rest → own ≡ take n rest → IsUtf8 own → IsFirstText rest n
first_text rest own n within is utf8 = record { within = within; utf8 = subst IsUtf8 is utf8 }

pub no_utf8_here : (rest own : List ℕ) (n : ℕ) → n ≤ length rest → own ≡ take n rest → ¬ IsUtf8 own → IsNoText rest n code.BadText
no_utf8_here rest own n within is bad = IsNoText.no_utf8 within (λ u. bad (subst IsUtf8 (sym is) u))

-- ---- what names no key or no tree

pub none_named : (bytes lengths : List ℕ) (texts : List (Bor (List ℕ))) → keys.texts_of texts ≡ texts_in bytes lengths → length texts ≡ 0 → lengths ≡ []
none_named bytes [] texts is none = refl
none_named bytes (n ∷ lengths) [] is none = absurd (cc)
none_named bytes (n ∷ lengths) (t ∷ texts) is none = absurd (omega (arith, none))

memory_or_not : (e : TreeFault) → (e ≡ tree.Memory) ⊎ ¬ (e ≡ tree.Memory)
memory_or_not tree.NoRoot = inr (λ m. cc)
memory_or_not (tree.TwoRoots at) = inr (λ m. cc)
memory_or_not (tree.NoParent at) = inr (λ m. cc)
memory_or_not (tree.Twice at) = inr (λ m. cc)
memory_or_not tree.TooMany = inr (λ m. cc)
memory_or_not tree.Memory = inl refl

pub most_within : (size : Size) → most_contexts size ≤ 65536
most_within sizes.Usual = omega arith
most_within sizes.Large = omega arith

pub no_tree : (most : ℕ) (bytes lengths : List ℕ) (ids : List Id) (e : TreeFault) (said : Code) → AreTexts bytes lengths → AllZip IsIdText (texts_in bytes lengths) ids → (e ≢ tree.Memory → HasFault most ids e)
    → said ≡ tree_code e → NamesNoTree most bytes lengths said ⊎ (AreTexts bytes lengths × (said ≡ code.NoMemory))
no_tree most bytes lengths ids e said well spell fault is =
    elim (memory_or_not e) as (λ _. NamesNoTree most bytes lengths said ⊎ (AreTexts bytes lengths × (said ≡ code.NoMemory)))
    [ inl m ↦ inr (well, is ∙ ap tree_code m) | inr not ↦ inl (NamesNoTree.no_tree well ids e spell (fault not) is) ]

-- ---- ids

pub zip_push : {X Y : Type 0} (R : X → Y → Type 0) (xs : List X) (ys : List Y) (x : X) (y : Y) → AllZip R xs ys → R x y → AllZip R (xs ++ x ∷ []) (ys ++ y ∷ [])
zip_push R [] [] x y all one = (one, tt)
zip_push R [] (b ∷ ys) x y all one = absurd all
zip_push R (a ∷ xs) [] x y all one = absurd all
zip_push R (a ∷ xs) (b ∷ ys) x y all one = (all.0, zip_push R xs ys x y all.1 one)

pub take_all : {A : Type 0} (xs : List A) (i : ℕ) → length xs ≤ i → take i xs ≡ xs
take_all [] zero le = refl
take_all [] (suc i) le = refl
take_all (x ∷ xs) zero le = absurd (omega (arith, le))
take_all (x ∷ xs) (suc i) le = ap (λ l. x ∷ l) (take_all xs i (omega (arith, le)))

module _ (texts : List (Bor (List ℕ))) where
  pub ids_first : (ids : List (List (List ℕ × List ℕ))) → ids ≡ [] → AllZip IsIdText (take 0 (keys.texts_of texts)) ids
  ids_first ids e = subst (λ (l : List (List (List ℕ × List ℕ))). AllZip IsIdText [] l) (sym e) tt

  pub ids_next : (ids more : List (List (List ℕ × List ℕ))) (id : List (List ℕ × List ℕ)) (i : ℕ) (d : Bor (List ℕ)) → AllZip IsIdText (take i (keys.texts_of texts)) ids → i < length texts
      → IsIdText (get_or texts i d).now id → more ≡ ids ++ id ∷ [] → AllZip IsIdText (take (i + 1) (keys.texts_of texts)) more
  ids_next ids more id i d so_far lt spells more_is =
      let within : i < length (keys.texts_of texts) = subst (λ (n : ℕ). i < n) (sym (length-map texts now_of)) lt in
      let longer : take (i + 1) (keys.texts_of texts) ≡ take i (keys.texts_of texts) ++ (get_or texts i d).now ∷ [] =
      ap (λ (k : ℕ). take k (keys.texts_of texts)) (add-one i)
      ∙ (take-suc (keys.texts_of texts) i (now_of d) within ∙ ap (λ (t : List ℕ). take i (keys.texts_of texts) ++ t ∷ []) (get_or-map now_of texts i d)) in
      subst (λ (ts : List (List ℕ)). AllZip IsIdText ts more) (sym longer)
      (subst (λ (l : List (List (List ℕ × List ℕ))). AllZip IsIdText (take i (keys.texts_of texts) ++ (get_or texts i d).now ∷ []) l) (sym more_is)
      (zip_push IsIdText (take i (keys.texts_of texts)) ids (get_or texts i d).now id so_far spells))

  pub ids_all : (ids : List (List (List ℕ × List ℕ))) (i : ℕ) → AllZip IsIdText (take i (keys.texts_of texts)) ids → length texts ≤ i → AllZip IsIdText (keys.texts_of texts) ids
  ids_all ids i so_far le =
      subst (λ (ts : List (List ℕ)). AllZip IsIdText ts ids) (take_all (keys.texts_of texts) i (subst (λ (n : ℕ). n ≤ i) (sym (length-map texts now_of)) le)) so_far

-- ---- what is no id

memory_or_bad : (e : IdFault) → (e ≡ id.Memory) ⊎ ((e ≡ id.Memory → ⊥) × (id_code e ≡ code.BadId))
memory_or_bad id.Empty = inr ((λ m. cc), refl)
memory_or_bad (id.NoOpen at) = inr ((λ m. cc), refl)
memory_or_bad (id.NoSeparator at) = inr ((λ m. cc), refl)
memory_or_bad (id.NoClose at) = inr ((λ m. cc), refl)
memory_or_bad (id.BadEscape at) = inr ((λ m. cc), refl)
memory_or_bad (id.RawCharacter at) = inr ((λ m. cc), refl)
memory_or_bad (id.EmptyPart at) = inr ((λ m. cc), refl)
memory_or_bad id.TooDeep = inr ((λ m. cc), refl)
memory_or_bad id.Memory = inl refl

pub no_id_here : (texts : List (Bor (List ℕ))) (i : ℕ) (d : Bor (List ℕ)) (e : IdFault) (said : Code) → i < length texts → said ≡ id_code e
    → ((pairs : List Pair) → IsIdText (get_or texts i d).now pairs → e ≡ id.Memory) → (IsNoId (keys.texts_of texts) × (said ≡ code.BadId)) ⊎ (said ≡ code.NoMemory)
no_id_here texts i d e said lt is only =
    let within : i < length (keys.texts_of texts) = subst (λ (n : ℕ). i < n) (sym (length-map texts now_of)) lt in
    let same : get_or (keys.texts_of texts) i [] ≡ (get_or texts i d).now = get_or_default (keys.texts_of texts) i [] d.now within ∙ get_or-map now_of texts i d in
    elim (memory_or_bad e) as (λ _. (IsNoId (keys.texts_of texts) × (said ≡ code.BadId)) ⊎ (said ≡ code.NoMemory)) [
      | inl m ↦ inr (is ∙ ap id_code m)
      | inr bad ↦ inl (record { at = i; within = within; spells_none = λ pairs s. bad.0 (only pairs (subst (λ (t : List ℕ). IsIdText t pairs) same s)) }, is ∙ bad.1)
    ]
