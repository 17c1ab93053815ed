-- Places in which the same stands, by what numbers stand for.
use Rattle.std.proofs.Common.{◌≡◌, ℕ, Bool, true, false, cond, List, [], ◌∷◌, refl, ap, sym, subst, ◌∙◌, Option, None, Some, is_some, find}
use Rattle.std.specs.Prelude.{All, ◌↔◌}
use Rattle.std.proofs.lemmas.List.Elements.{All-head, All-tail}
use Rattle.ext_model.specs.declared.event.Act.{Act}
use Rattle.ext_model.specs.declared.event.Act.TheVariants.{Keep, Put, Remove, Claim, Fill, Fail, Abandon, Seal}
use Rattle.ext_model.specs.declared.slot.Slot.{Slot}
use Rattle.ext_model.specs.declared.slot.Slot.TheVariants as slot
use Rattle.ext_model.specs.State.{lookup, look_at, look_in, standing_value}
use Rattle.ext_model.specs.Events.{slot_after}
use Rattle.ext_one_report.proofs.StandingsWords.{Meaning, Standing, nothing, value, fault, sealed, value_stands, fault_stands, seal_stands, standing_of, AreMatched, Shown, absent, found, met, closed, value_shown, fault_shown, shown_of, ShowTheSame, Deed, draws, puts, removes, claims, fills, fails, abandons, seals, of_value, of_fault, deed_of, IsCompared, DoTheSame, KnowsMore}

-- ---- one context of a path

first_there : (slots : ℕ → Option Slot) (at : ℕ) (path : List ℕ) → is_some (slots at) ≡ true → lookup slots (at ∷ path) ≡ look_in at (slots at)
first_there slots at path is = ap (λ b. look_at slots (cond b (Some at) (find (λ c. is_some (slots c)) path))) is

first_not : (slots : ℕ → Option Slot) (at : ℕ) (path : List ℕ) → is_some (slots at) ≡ false → lookup slots (at ∷ path) ≡ lookup slots path
first_not slots at path is = ap (λ b. look_at slots (cond b (Some at) (find (λ c. is_some (slots c)) path))) is

module _ {V F : Type 0} where
  -- ---- what is known of a number, where something stands by it

  value_known : (o : Option V) (s : Standing V F) → value_stands o ≡ Some s → (v : V) × (o ≡ Some v) × (s ≡ value v)
  value_known None s is = absurd (cc is)
  value_known (Some v) s is = (v, refl, cc is)

  fault_known : (o : Option F) (s : Standing V F) → fault_stands o ≡ Some s → (f : F) × (o ≡ Some f) × (s ≡ fault f)
  fault_known None s is = absurd (cc is)
  fault_known (Some f) s is = (f, refl, cc is)

  seal_known : (o : Option V) (s : Standing V F) → seal_stands o ≡ Some s → (v : V) × (o ≡ Some v) × (s ≡ sealed (Some v))
  seal_known None s is = absurd (cc is)
  seal_known (Some v) s is = (v, refl, cc is)

  -- ---- the place of a standing

  -- a place in which this stands
  abbrev pub Holds : Meaning V F → Standing V F → Option Slot → Type 0
  Holds m nothing x = x ≡ None
  Holds m (value v) x = (number : ℕ) × (x ≡ Some (slot.Entry number)) × (m.values number ≡ Some v)
  Holds m (fault f) x = (number : ℕ) × (x ≡ Some (slot.Fault number)) × (m.faults number ≡ Some f)
  Holds m (sealed None) x = x ≡ Some (slot.Sealed None)
  Holds m (sealed (Some v)) x = (number : ℕ) × (x ≡ Some (slot.Sealed (Some number))) × (m.values number ≡ Some v)

  pub holds : (m : Meaning V F) (x : Option Slot) (s : Standing V F) → standing_of m x ≡ Some s → Holds m s x
  holds m None s is = let e : nothing ≡ s = cc is in subst (λ k. Holds m k None) e refl
  holds m (Some (slot.Entry number)) s is = let k = value_known (m.values number) s is in subst (λ t. Holds m t (Some (slot.Entry number))) (sym k.2) (number, refl, k.1)
  holds m (Some (slot.Fault number)) s is = let k = fault_known (m.faults number) s is in subst (λ t. Holds m t (Some (slot.Fault number))) (sym k.2) (number, refl, k.1)
  holds m (Some (slot.Claim lane)) s is = absurd (cc is)
  holds m (Some (slot.Sealed None)) s is = let e : sealed None ≡ s = cc is in subst (λ k. Holds m k (Some (slot.Sealed None))) e refl
  holds m (Some (slot.Sealed (Some number))) s is = let k = seal_known (m.values number) s is in subst (λ t. Holds m t (Some (slot.Sealed (Some number)))) (sym k.2) (number, refl, k.1)

  pub held : (m : Meaning V F) (x : Option Slot) (s : Standing V F) → Holds m s x → standing_of m x ≡ Some s
  held m x nothing is = ap (standing_of m) is
  held m x (value v) is = ap (standing_of m) is.1 ∙ ap value_stands is.2
  held m x (fault f) is = ap (standing_of m) is.1 ∙ ap fault_stands is.2
  held m x (sealed None) is = ap (standing_of m) is
  held m x (sealed (Some v)) is = ap (standing_of m) is.1 ∙ ap seal_stands is.2

  -- ---- look-ups

  -- what a look-up shows that this decides, in a context
  abbrev pub shows_in : ℕ → Standing V F → Shown V F
  shows_in at nothing = absent
  shows_in at (value v) = found at v
  shows_in at (fault f) = met at f
  shows_in at (sealed kept) = closed at

  in_shows : (m : Meaning V F) (at : ℕ) (x : Option Slot) (s : Standing V F) → Holds m s x → shown_of m (look_in at x) ≡ Some (shows_in at s)
  in_shows m at x nothing is = ap (λ k. shown_of m (look_in at k)) is
  in_shows m at x (value v) is = ap (λ k. shown_of m (look_in at k)) is.1 ∙ ap (value_shown at) is.2
  in_shows m at x (fault f) is = ap (λ k. shown_of m (look_in at k)) is.1 ∙ ap (fault_shown at) is.2
  in_shows m at x (sealed None) is = ap (λ k. shown_of m (look_in at k)) is
  in_shows m at x (sealed (Some v)) is = ap (λ k. shown_of m (look_in at k)) is.1

  abbrev pub stands_there : Standing V F → Bool
  stands_there nothing = false
  stands_there (value v) = true
  stands_there (fault f) = true
  stands_there (sealed kept) = true

  is_there : (m : Meaning V F) (x : Option Slot) (s : Standing V F) → Holds m s x → is_some x ≡ stands_there s
  is_there m x nothing is = ap is_some is
  is_there m x (value v) is = ap is_some is.1
  is_there m x (fault f) is = ap is_some is.1
  is_there m x (sealed None) is = ap is_some is
  is_there m x (sealed (Some v)) is = ap is_some is.1

  pub matched_looks : (ours theirs : Meaning V F) (slots others : ℕ → Option Slot) (path : List ℕ) → All (λ c. AreMatched ours theirs (slots c) (others c)) path → ShowTheSame ours theirs (lookup slots path) (lookup others path)
  matched_looks ours theirs slots others [] all = record { shown = absent; here = refl; there = refl }
  matched_looks ours theirs slots others (at ∷ path) all =
      let first : AreMatched ours theirs (slots at) (others at) = All-head (λ c. AreMatched ours theirs (slots c) (others c)) at path all in
      let later : ShowTheSame ours theirs (lookup slots path) (lookup others path) = matched_looks ours theirs slots others path (All-tail (λ c. AreMatched ours theirs (slots c) (others c)) at path all) in
      let a : Holds ours first.standing (slots at) = holds ours (slots at) first.standing first.here in
      let b : Holds theirs first.standing (others at) = holds theirs (others at) first.standing first.there in
      elim (stands_there first.standing) as (λ k. stands_there first.standing ≡ k → ShowTheSame ours theirs (lookup slots (at ∷ path)) (lookup others (at ∷ path))) [
        | true ↦ λ is. record {
          shown = shows_in at first.standing;
          here = ap (shown_of ours) (first_there slots at path (is_there ours (slots at) first.standing a ∙ is)) ∙ in_shows ours at (slots at) first.standing a;
          there = ap (shown_of theirs) (first_there others at path (is_there theirs (others at) first.standing b ∙ is)) ∙ in_shows theirs at (others at) first.standing b;
        }
        | false ↦ λ is. record {
          shown = later.shown;
          here = ap (shown_of ours) (first_not slots at path (is_there ours (slots at) first.standing a ∙ is)) ∙ later.here;
          there = ap (shown_of theirs) (first_not others at path (is_there theirs (others at) first.standing b ∙ is)) ∙ later.there;
        }
      ] refl

  -- ---- acts

  value_done : (deed : V → Deed V F) (o : Option V) (d : Deed V F) → of_value deed o ≡ Some d → (v : V) × (o ≡ Some v) × (d ≡ deed v)
  value_done deed None d is = absurd (cc is)
  value_done deed (Some v) d is = (v, refl, sym (some_same is))
    where
      some_same : {a b : Deed V F} → Some a ≡ Some b → a ≡ b
      some_same e = cc e

  fault_done : (deed : F → Deed V F) (o : Option F) (d : Deed V F) → of_fault deed o ≡ Some d → (f : F) × (o ≡ Some f) × (d ≡ deed f)
  fault_done deed None d is = absurd (cc is)
  fault_done deed (Some f) d is = (f, refl, sym (some_same is))
    where
      some_same : {a b : Deed V F} → Some a ≡ Some b → a ≡ b
      some_same e = cc e

  -- what an act leaves where this stood
  abbrev pub kept_value : Standing V F → Option V
  kept_value nothing = None
  kept_value (value v) = Some v
  kept_value (fault f) = None
  kept_value (sealed kept) = None

  abbrev pub done_to : Deed V F → Standing V F → Standing V F
  done_to draws s = s
  done_to (puts v) s = value v
  done_to removes s = nothing
  done_to claims s = s
  done_to (fills v) s = value v
  done_to (fails f) s = fault f
  done_to abandons s = nothing
  done_to seals s = sealed (kept_value s)

  seal_left : (m : Meaning V F) (x : Option Slot) (s : Standing V F) → Holds m s x → Holds m (sealed (kept_value s)) (Some (slot.Sealed (standing_value x)))
  seal_left m x nothing is = ap (λ k. Some (slot.Sealed (standing_value k))) is
  seal_left m x (value v) is = (is.0, ap (λ k. Some (slot.Sealed (standing_value k))) is.1, is.2)
  seal_left m x (fault f) is = ap (λ k. Some (slot.Sealed (standing_value k))) is.1
  seal_left m x (sealed None) is = ap (λ k. Some (slot.Sealed (standing_value k))) is
  seal_left m x (sealed (Some v)) is = ap (λ k. Some (slot.Sealed (standing_value k))) is.1

  pub leaves : {P : Type 0} (m : Meaning V F) (x : Option Slot) (s : Standing V F) (lane : ℕ) (act : Act P) (d : Deed V F) → Holds m s x → deed_of m act ≡ Some d → IsCompared d → Holds m (done_to d s) (slot_after lane act x)
  leaves m x s lane (Keep number) d is does compared = let e : draws ≡ d = cc does in subst (λ k. Holds m (done_to k s) x) e is
  leaves m x s lane (Put at number) d is does compared = let k = value_done puts (m.values number) d does in subst (λ t. Holds m (done_to t s) (Some (slot.Entry number))) (sym k.2) (number, refl, k.1)
  leaves m x s lane (Remove at) d is does compared = let e : removes ≡ d = cc does in subst (λ k. Holds m (done_to k s) None) e refl
  leaves m x s lane (Claim at) d is does compared = let e : d ≡ claims = cc does in absurd (subst IsCompared e compared)
  leaves m x s lane (Fill at number) d is does compared = let k = value_done fills (m.values number) d does in subst (λ t. Holds m (done_to t s) (Some (slot.Entry number))) (sym k.2) (number, refl, k.1)
  leaves m x s lane (Fail at number) d is does compared = let k = fault_done fails (m.faults number) d does in subst (λ t. Holds m (done_to t s) (Some (slot.Fault number))) (sym k.2) (number, refl, k.1)
  leaves m x s lane (Abandon at) d is does compared = let e : abandons ≡ d = cc does in subst (λ k. Holds m (done_to k s) None) e refl
  leaves m x s lane (Seal at) d is does compared = let e : seals ≡ d = cc does in subst (λ k. Holds m (done_to k s) (Some (slot.Sealed (standing_value x)))) e (seal_left m x s is)

  pub matched_acts : {P Q : Type 0} (ours theirs : Meaning V F) (x y : Option Slot) (lane other : ℕ) (act : Act P) (act' : Act Q) → AreMatched ours theirs x y → DoTheSame ours theirs act act'
      → AreMatched ours theirs (slot_after lane act x) (slot_after other act' y)
  matched_acts ours theirs x y lane other act act' matched same =
      let s = matched.standing in
      let d = same.deed in
      record {
        standing = done_to d s;
        here = held ours _ (done_to d s) (leaves ours x s lane act d (holds ours x s matched.here) same.here same.compared);
        there = held theirs _ (done_to d s) (leaves theirs y s other act' d (holds theirs y s matched.there) same.there same.compared);
      }

  -- ---- what else is true

  none_by : (m : Meaning V F) (x : Option Slot) (s : Standing V F) → Holds m s x → (x ≡ None) ↔ (s ≡ nothing)
  none_by m x nothing is = (λ none. refl, λ same. is)
  none_by m x (value v) is = (λ none. absurd (cc (sym is.1 ∙ none)), λ same. absurd (cc same))
  none_by m x (fault f) is = (λ none. absurd (cc (sym is.1 ∙ none)), λ same. absurd (cc same))
  none_by m x (sealed None) is = (λ none. absurd (cc (sym is ∙ none)), λ same. absurd (cc same))
  none_by m x (sealed (Some v)) is = (λ none. absurd (cc (sym is.1 ∙ none)), λ same. absurd (cc same))

  pub matched_empty : (ours theirs : Meaning V F) (x y : Option Slot) → AreMatched ours theirs x y → (x ≡ None) ↔ (y ≡ None)
  matched_empty ours theirs x y matched =
      let a = none_by ours x matched.standing (holds ours x matched.standing matched.here) in
      let b = none_by theirs y matched.standing (holds theirs y matched.standing matched.there) in
      (λ none. b.1 (a.0 none), λ none. a.1 (b.0 none))

  more_holds : (less more : Meaning V F) (x : Option Slot) (s : Standing V F) → KnowsMore less more → Holds less s x → Holds more s x
  more_holds less more x nothing knows is = is
  more_holds less more x (value v) knows is = (is.0, is.1, knows.values is.0 v is.2)
  more_holds less more x (fault f) knows is = (is.0, is.1, knows.faults is.0 f is.2)
  more_holds less more x (sealed None) knows is = is
  more_holds less more x (sealed (Some v)) knows is = (is.0, is.1, knows.values is.0 v is.2)

  pub matched_by_more : (ours theirs ours' theirs' : Meaning V F) (x y : Option Slot) → KnowsMore ours ours' → KnowsMore theirs theirs' → AreMatched ours theirs x y → AreMatched ours' theirs' x y
  matched_by_more ours theirs ours' theirs' x y first second matched =
      let s = matched.standing in
      record {
        standing = s;
        here = held ours' x s (more_holds ours ours' x s first (holds ours x s matched.here));
        there = held theirs' y s (more_holds theirs theirs' y s second (holds theirs y s matched.there));
      }
