-- The index of the keys that a lane knows: what a search tells, and what adding a key keeps.
use Rattle.std.proofs.Common.{ℕ, ◌≡◌, ◌≢◌, ◌<◌, ◌≤◌, ◌+◌, ◌-◌, ◌*◌, ◌/◌, ◌%◌, inl, inr, ◌∙◌, Bool, true, false, List, Option, Some, IsSome, length, get_or, set, replicate, slice_index_or, sym, ap, subst, refl, arith, below_more}
use Rattle.std.proofs.lemmas.Bool.{cases_order}
use Rattle.std.proofs.lemmas.List.{get_or-set_same, get_or-set_other, get_or_default, length-replicate, length-set}
use Rattle.std.proofs.lemmas.List.Elements.{All-replicate, All-set}
use Rattle.ext_tree.specs.Keys.{KeyValue, KnownPlace, HoldsOther, PassedBefore, IsKeyNumber, KeepsKeys, Tells, key_at}
use Rattle.ext_tree.specs.InnerIndexing.{AreHints, AreNotes, Ends, Finds, FindsAt, IsHint, IsIndexed, MeetsHints, first_slot, hint_at, short_hash, slot_at}
use Rattle.ext_tree.proofs.KeyPlacing.{hints_stay, one_key, same_length}

-- ---- a search

-- in this step the search met a hint of a place that holds another key
pub record Passes (notes : List KnownPlace) (hints : List ℕ) (key : KeyValue) (step : ℕ) : Type 0 where
  pub hint : hint_at hints key step ≢ 0
  pub other : HoldsOther notes key (hint_at hints key step - 1)

abbrev pub PassesBefore : List KnownPlace → List ℕ → KeyValue → ℕ → Type 0
PassesBefore notes hints key step = (before : ℕ) → before < step → Passes notes hints key before

-- a hint that is there is the number of a known key
pub hint_known : (notes : List KnownPlace) (hint : ℕ) → IsHint notes hint → hint ≢ 0 → (key : KeyValue) × IsKeyNumber notes key (hint - 1)
hint_known notes hint (inl none) there = absurd (there none)
hint_known notes hint (inr is) there = is

pub some_at : (notes : List KnownPlace) (key : KeyValue) (number : ℕ) → key_at notes number ≡ Some key → IsSome (key_at notes number)
some_at notes key number known = subst (λ k. IsSome k) (sym known) refl

-- a place that was asked is known
pub told_some : (held : Option KeyValue) (key : KeyValue) (answer : Bool) → Tells held key answer → IsSome held
told_some held key true is = subst (λ k. IsSome k) (sym is) refl
told_some held key false (other, is, differs) = subst (λ k. IsSome k) (sym is) refl

pub hint_is : (notes : List KnownPlace) (hints : List ℕ) (slot hint : ℕ) → AreHints notes hints → slot < length hints → hint ≡ get_or hints slot hint → IsHint notes hint
hint_is notes hints slot hint are within read = subst (λ h. IsHint notes h) (sym read) (are slot hint within)

-- the hint that was read in this step
pub met_here : (hints : List ℕ) (key : KeyValue) (first step count hint : ℕ) → first ≡ first_slot hints key → count ≡ length hints → step < length hints → hint ≡ get_or hints ((first + step) % count) hint → hint_at hints key step ≡ hint
met_here hints key first step count hint is long below read =
    let within : (first + step) % count < length hints = omega (arith, long, below) in
    sym (read ∙ (get_or_default hints ((first + step) % count) hint 0 within ∙ ap (λ f. slice_index_or hints ((f + step) % count) 0) is ∙ ap (λ n. slice_index_or hints ((first_slot hints key + step) % n) 0) long))

pub hint_number : (notes : List KnownPlace) (hint : ℕ) (key : KeyValue) → IsHint notes hint → hint ≢ 0 → key_at notes (hint - 1) ≡ Some key → IsKeyNumber notes key (hint - 1)
hint_number notes hint key is there known =
    let (other, number) = hint_known notes hint is there in
    subst (λ k. IsKeyNumber notes k (hint - 1)) (one_key notes (hint - 1) other key number.there known) number

module _ (notes : List KnownPlace) (hints : List ℕ) (key : KeyValue) (step : ℕ) (passes : PassesBefore notes hints key step) where
  -- a search that passed these steps finds nothing in them
  never_before : (number at : ℕ) → at < step → FindsAt notes hints key number at → ⊥
  never_before number at less finds =
      let e : hint_at hints key at - 1 ≡ number = omega (arith, finds.hint) in
      let o = subst (λ n. HoldsOther notes key n) e (passes at less).other in
      o.differs (sym (one_key notes number key o.other finds.there o.there))

  -- so it passed the places whose keys are found, if it finds nothing later
  passed : (next : ℕ) → ((number : ℕ) → number < next → IsIndexed notes hints number) → ((number at : ℕ) → step ≤ at → FindsAt notes hints key number at → ⊥) → PassedBefore notes key next
  passed next indexed never place less = record { other = is.key; there = is.there; differs = differs }
    where
      is : IsIndexed notes hints place
      is = indexed place less

      nowhere : (number at : ℕ) → FindsAt notes hints key number at → ⊥
      nowhere number at finds =
          elim (cases_order at step) [
            | inl e ↦ never number at (omega arith) finds
            | inr (inl before) ↦ never_before number at before finds
            | inr (inr after) ↦ never number at (omega arith) finds
          ]

      differs : is.key ≢ key
      differs same =
          let (at, finds) = is.found in
          nowhere is.first at (subst (λ k. FindsAt notes hints k is.first at) same finds)

  pub passed_at_free : (next : ℕ) → ((number : ℕ) → number < next → IsIndexed notes hints number) → hint_at hints key step ≡ 0 → PassedBefore notes key next
  passed_at_free next indexed free = passed next indexed never
    where
      never : (number at : ℕ) → step ≤ at → FindsAt notes hints key number at → ⊥
      never number at past finds =
          elim (cases_order step at) [
            | inl e ↦ let zero : hint_at hints key at ≡ 0 = subst (λ s. hint_at hints key s ≡ 0) e free in omega (arith, zero, finds.hint)
            | inr (inl less) ↦ finds.met step less free
            | inr (inr more) ↦ omega arith
          ]

  pub passed_all : (next : ℕ) → ((number : ℕ) → number < next → IsIndexed notes hints number) → length hints ≤ step → PassedBefore notes key next
  passed_all next indexed all = passed next indexed (λ number at past finds. omega (arith, finds.within))

  pub ends_here : (slot : ℕ) → step < length hints → slot ≡ slot_at hints key step → hint_at hints key step ≡ 0 → Ends hints key slot
  ends_here slot within is free = (step, record { within = within; slot_is = is; free = free; met = λ before less. let p = passes before less in p.hint })

  pub finds_here : (hint : ℕ) → step < length hints → hint_at hints key step ≡ hint → hint ≢ 0 → key_at notes (hint - 1) ≡ Some key → Finds notes hints key (hint - 1)
  finds_here hint within met there known = (step, record { within = within; hint = omega (arith, met, there); there = known; met = λ before less. let p = passes before less in p.hint })

  pub passes_more : (hint : ℕ) (other : KeyValue) → hint_at hints key step ≡ hint → hint ≢ 0 → key_at notes (hint - 1) ≡ Some other → other ≢ key → PassesBefore notes hints key (step + 1)
  passes_more hint other met there known differs =
      let holds : HoldsOther notes key (hint - 1) = record { other = other; there = known; differs = differs } in
      below_more (Passes notes hints key) step passes (record { hint = λ none. there (sym met ∙ none); other = subst (λ n. HoldsOther notes key (n - 1)) (sym met) holds })

-- ---- more is known

indexed_stays : (before after : List KnownPlace) (hints : List ℕ) (number : ℕ) → KeepsKeys before after → IsIndexed before hints number → IsIndexed after hints number
indexed_stays before after hints number keeps is =
    let (at, finds) = is.found in
    record {
      key = is.key;
      there = keeps.keys number is.key is.there;
      first = is.first;
      found = (at, record { within = finds.within; hint = finds.hint; there = keeps.keys is.first is.key finds.there; met = finds.met });
    }

pub notes_stay : (before after : List KnownPlace) (hints : List ℕ) (next : ℕ) → KeepsKeys before after → AreNotes before hints next → AreNotes after hints next
notes_stay before after hints next keeps are =
    let long = same_length before after keeps.places in
    record {
      few = omega (arith, long, are.few);
      twice = are.twice ∙ ap (λ n. 2 * n) (sym long);
      right = hints_stay before after hints keeps are.right;
      indexed = λ number less. indexed_stays before after hints number keeps (are.indexed number less);
    }

-- ---- one key more

-- a search finds the key of the next place
pub next_found : (notes : List KnownPlace) (hints : List ℕ) (next first : ℕ) (key : KeyValue) → AreNotes notes hints next → key_at notes next ≡ Some key → Finds notes hints key first → AreNotes notes hints (next + 1)
next_found notes hints next first key are there found = record {
  few = are.few;
  twice = are.twice;
  right = are.right;
  indexed = below_more (IsIndexed notes hints) next are.indexed (record { key = key; there = there; first = first; found = found });
}

-- a hint is written to the free slot where the search for its key ends
module _ (notes : List KnownPlace) (hints : List ℕ) (key : KeyValue) (slot number : ℕ) (ends : Ends hints key slot) where
  abbrev written : List ℕ
  written = set hints slot (number + 1)

  long : length written ≡ length hints
  long = length-set hints slot (number + 1)

  slot_same : (k : KeyValue) (step : ℕ) → slot_at written k step ≡ slot_at hints k step
  slot_same k step = ap (λ n. (short_hash k * n / 65536 + step) % n) long

  here : slot < length hints
  here = let (step, end) = ends in let is = end.slot_is in omega (arith, end.within, is)

  free : slice_index_or hints slot 0 ≡ 0
  free = let (step, end) = ends in ap (λ s. slice_index_or hints s 0) end.slot_is ∙ end.free

  hint_new : (k : KeyValue) (step : ℕ) → slot_at hints k step ≡ slot → hint_at written k step ≡ number + 1
  hint_new k step is = ap (λ s. slice_index_or written s 0) (slot_same k step ∙ is) ∙ get_or-set_same hints slot (number + 1) 0 here

  hint_same : (k : KeyValue) (step : ℕ) → hint_at hints k step ≢ 0 → hint_at written k step ≡ hint_at hints k step
  hint_same k step there =
      ap (λ s. slice_index_or written s 0) (slot_same k step)
      ∙ get_or-set_other hints slot (slot_at hints k step) (number + 1) 0 (λ e. there (ap (λ s. slice_index_or hints s 0) e ∙ free))

  met_stay : (k : KeyValue) (step : ℕ) → MeetsHints hints k step → MeetsHints written k step
  met_stay k step met before less none = met before less (sym (hint_same k before (met before less)) ∙ none)

  finds_stay : (k : KeyValue) (first step : ℕ) → FindsAt notes hints k first step → FindsAt notes written k first step
  finds_stay k first step finds = record {
    within = omega (arith, long, finds.within);
    hint = hint_same k step (λ none. omega (arith, none, finds.hint)) ∙ finds.hint;
    there = finds.there;
    met = met_stay k step finds.met;
  }

  indexed_stay : (m : ℕ) → IsIndexed notes hints m → IsIndexed notes written m
  indexed_stay m is =
      let (step, finds) = is.found in
      record { key = is.key; there = is.there; first = is.first; found = (step, finds_stay is.key is.first step finds) }

  found_now : key_at notes number ≡ Some key → Finds notes written key number
  found_now there =
      let (step, end) = ends in
      (step, record { within = omega (arith, long, end.within); hint = hint_new key step (sym end.slot_is); there = there; met = met_stay key step end.met })

  pub next_hinted : AreNotes notes hints number → key_at notes number ≡ Some key → PassedBefore notes key number → AreNotes notes (set hints slot (number + 1)) (number + 1)
  next_hinted are there by =
      let e : number ≡ number + 1 - 1 = omega arith in
      let is : IsKeyNumber notes key number = record { there = there; before = by } in
      let hint : IsHint notes (number + 1) = inr (key, subst (λ n. IsKeyNumber notes key n) e is) in
      record {
        few = are.few;
        twice = long ∙ are.twice;
        right = All-set (λ hint. IsHint notes hint) hints slot (number + 1) hint are.right;
        indexed = below_more (IsIndexed notes written) number (λ m less. indexed_stay m (are.indexed m less)) (record { key = key; there = there; first = number; found = found_now there });
      }

-- ---- no key

pub nothing_indexed : (notes : List KnownPlace) (hints : List ℕ) (places next : ℕ) → length notes ≤ 1024 → places ≡ length notes → hints ≡ replicate (2 * places) 0 → next ≡ 0 → AreNotes notes hints next
nothing_indexed notes hints places next few long none start = record {
  few = few;
  twice = ap length none ∙ (length-replicate (2 * places) 0 ∙ ap (λ n. 2 * n) long);
  right = subst (λ l. AreHints notes l) (sym none) (All-replicate (λ hint. IsHint notes hint) (2 * places) 0 (inl refl));
  indexed = λ number less. absurd (omega (arith, start, less));
}
