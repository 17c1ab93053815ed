-- What is known of places for keys after one entry was written, and what that means for the numbers of keys.
use Rattle.std.proofs.Common.{ℕ, zero, suc, true, false, ◌≡◌, ◌≢◌, ◌<◌, ◌≤◌, ◌+◌, ◌-◌, ◌⊎◌, inl, inr, ◌∙◌, List, [], ◌∷◌, ◌++◌, take, drop, Option, Some, None, Result, Ok, Err, IfOk, IfErr, IsSome, map, length, get_or, set, sym, ap, subst, refl, arith, below_more}
use Rattle.std.proofs.Math.ListN.{get_or-map}
use Rattle.std.proofs.Math.Seq.{map-set_same}
use Rattle.std.proofs.lemmas.Bool.{cases_eq, cases_order}
use Rattle.std.proofs.lemmas.List.{get_or-set_same, get_or-set_other, get_or_default, length-map, take_all, take_at, map_more}
use Rattle.std.proofs.lemmas.List.Elements.{All-weaker}
use Rattle.ext_tree.specs.Keys.{KeyValue, KnownPlace, HoldsOther, PassedBefore, IsKeyNumber, IsNext, IsKeyFault, KeepsKeys, PlacesOnly, OneKey, OneNumber, Tells, key_at, placed_at, no_key_known, key_places_of, unknown_place}
use Rattle.ext_tree.specs.InnerIndexing.{AreHints, IsHint}
use Rattle.ext_tree.specs.declared.key_fault.KeyFault.{KeyFault}
use Rattle.ext_tree.specs.declared.key_fault.KeyFault.TheVariants.{DirectoryFull, Unplaced, Memory}

-- ---- one entry

-- there is an entry for each place
pub length-places : (notes : List KnownPlace) (names : List ℕ) → key_places_of notes ≡ names → length notes ≡ length names
length-places notes names of = sym (length-map notes (λ (x : KnownPlace). x.place)) ∙ ap length of

-- only numbers of places have a known key
pub key_within : (notes : List KnownPlace) (number : ℕ) (key : KeyValue) → key_at notes number ≡ Some key → number < length notes
key_within [] number key known = absurd (cc)
key_within (x ∷ notes) zero key known = omega arith
key_within (x ∷ notes) (suc number) key known = let rest = key_within notes number key known in omega (arith, rest)

pub known_within : (notes : List KnownPlace) (number : ℕ) → IsSome (key_at notes number) → number < length notes
known_within [] number known = absurd (cc)
known_within (x ∷ notes) zero known = omega arith
known_within (x ∷ notes) (suc number) known = let rest = known_within notes number known in omega (arith, rest)

pub key_at-entry : (notes : List KnownPlace) (number : ℕ) (entry : KnownPlace) → number < length notes → entry ≡ get_or notes number entry → key_at notes number ≡ entry.key
key_at-entry notes number entry below is = ap (λ (x : KnownPlace). x.key) (get_or_default notes number (unknown_place 0) entry below ∙ sym is)

-- an entry and a place of the same number have one name
pub place_matches : {X : Type 0} (name : X → ℕ) (notes : List KnownPlace) (places : List X) (number : ℕ) (entry : KnownPlace) (place : X) → key_places_of notes ≡ map name places → number < length notes → entry ≡ get_or notes number entry → place ≡ get_or places number place → entry.place ≡ name place
place_matches name notes places number entry place of below is is' =
    let a : get_or (key_places_of notes) number entry.place ≡ entry.place = get_or-map (λ (x : KnownPlace). x.place) notes number entry ∙ ap (λ (x : KnownPlace). x.place) (sym is) in
    let b : get_or (map name places) number (name place) ≡ name place = get_or-map name places number place ∙ ap name (sym is') in
    let e = length-map notes (λ (x : KnownPlace). x.place) in
    let there : number < length (key_places_of notes) = omega (arith, below, e) in
    sym a ∙ (get_or_default (key_places_of notes) number entry.place (name place) there ∙ (ap (λ l. get_or l number (name place)) of ∙ b))

pub as_long : {X : Type 0} (name : X → ℕ) (notes : List KnownPlace) (places : List X) → key_places_of notes ≡ map name places → length notes ≡ length places
as_long name notes places of =
    let a = length-map notes (λ (x : KnownPlace). x.place) in
    let b = length-map places name in
    let e = ap length of in omega (arith, a, b, e)

pub same_length : (before after : List KnownPlace) → key_places_of after ≡ key_places_of before → length after ≡ length before
same_length before after same =
    let a = length-map before (λ (x : KnownPlace). x.place) in
    let b = length-map after (λ (x : KnownPlace). x.place) in
    let e = ap length same in omega (arith, a, b, e)

-- an element that was read is read again
pub read_again : (notes : List KnownPlace) (number : ℕ) (entry : KnownPlace) → entry ≡ get_or notes number entry → get_or notes number entry ≡ get_or notes number (get_or notes number entry)
read_again notes number entry is = ap (λ d. get_or notes number d) is

-- ---- an entry of the same place is written over one

module _ (notes : List KnownPlace) (number : ℕ) (entry written : KnownPlace) (below : number < length notes) (is : entry ≡ get_or notes number entry) (same : written.place ≡ entry.place) where
  pub key_places_of-set : key_places_of (set notes number written) ≡ key_places_of notes
  key_places_of-set = map-set_same (λ (x : KnownPlace). x.place) notes number written entry (same ∙ ap (λ (x : KnownPlace). x.place) is)

  pub key_at-set_same : key_at (set notes number written) number ≡ written.key
  key_at-set_same = ap (λ (x : KnownPlace). x.key) (get_or-set_same notes number written (unknown_place 0) below)

  pub key_at-set_other : (m : ℕ) → m ≢ number → key_at (set notes number written) m ≡ key_at notes m
  key_at-set_other m other = ap (λ (x : KnownPlace). x.key) (get_or-set_other notes number m written (unknown_place 0) other)

  pub placed_at-set_same : placed_at (set notes number written) number ≡ written.placed
  placed_at-set_same = ap (λ (x : KnownPlace). x.placed) (get_or-set_same notes number written (unknown_place 0) below)

  pub placed_at-set_other : (m : ℕ) → m ≢ number → placed_at (set notes number written) m ≡ placed_at notes m
  placed_at-set_other m other = ap (λ (x : KnownPlace). x.placed) (get_or-set_other notes number m written (unknown_place 0) other)

  -- no place is newly placed, where the written entry is placed as the one before it was
  pub places_none_set : written.placed ≡ entry.placed → (m : ℕ) → placed_at (set notes number written) m ≡ placed_at notes m
  places_none_set same_placed m =
      let here : placed_at notes number ≡ entry.placed = ap (λ (x : KnownPlace). x.placed) (get_or_default notes number (unknown_place 0) entry below ∙ sym is) in
      elim (cases_eq m number) [
        | inl e ↦ subst (λ j. placed_at (set notes number written) j ≡ placed_at notes j) (sym e) (placed_at-set_same ∙ (same_placed ∙ sym here))
        | inr other ↦ placed_at-set_other m other
      ]

  -- what was known stays known, where the written entry knows what the one before it knew
  pub keeps_set : ((key : KeyValue) → entry.key ≡ Some key → written.key ≡ Some key) → KeepsKeys notes (set notes number written)
  keeps_set stays = record { places = key_places_of-set; keys = keys }
    where
      here : (key : KeyValue) → key_at notes number ≡ Some key → key_at (set notes number written) number ≡ Some key
      here key known =
          let at : entry.key ≡ Some key = sym (key_at-entry notes number entry below is) ∙ known in
          key_at-set_same ∙ stays key at

      keys : (m : ℕ) (key : KeyValue) → key_at notes m ≡ Some key → key_at (set notes number written) m ≡ Some key
      keys m key known =
          elim (cases_eq m number) [
            | inl e ↦ subst (λ j. key_at (set notes number written) j ≡ Some key) (sym e) (here key (subst (λ j. key_at notes j ≡ Some key) e known))
            | inr other ↦ key_at-set_other m other ∙ known
          ]

-- ---- what stays known

pub keeps_all : (notes : List KnownPlace) → KeepsKeys notes notes
keeps_all notes = record { places = refl; keys = λ number key known. known }

pub keeps_both : (a b c : List KnownPlace) → KeepsKeys a b → KeepsKeys b c → KeepsKeys a c
keeps_both a b c first second = record { places = second.places ∙ first.places; keys = λ number key known. second.keys number key (first.keys number key known) }

pub passed_stay : (before after : List KnownPlace) (key : KeyValue) (number : ℕ) → KeepsKeys before after → PassedBefore before key number → PassedBefore after key number
passed_stay before after key number keeps passed = λ place less.
    let o = passed place less in
    record { other = o.other; there = keeps.keys place o.other o.there; differs = o.differs }

pub passed_more : (notes : List KnownPlace) (key : KeyValue) (number : ℕ) → PassedBefore notes key number → HoldsOther notes key number → PassedBefore notes key (number + 1)
passed_more notes key number passed here = below_more (HoldsOther notes key) number passed here

pub number_stays : (before after : List KnownPlace) (key : KeyValue) (number : ℕ) → KeepsKeys before after → IsKeyNumber before key number → IsKeyNumber after key number
number_stays before after key number keeps is = record { there = keeps.keys number key is.there; before = passed_stay before after key number keeps is.before }

-- ---- a step of the walk: an entry was asked for the key, and knows afterwards what its place holds

module _ (first notes : List KnownPlace) (key : KeyValue) (number : ℕ) (entry written : KnownPlace) (below : number < length notes) (is : entry ≡ get_or notes number entry) (same : written.place ≡ entry.place)
    (known : (k : KeyValue) → entry.key ≡ Some k → written ≡ entry) (so_far : KeepsKeys first notes) (passed : PassedBefore notes key number) where
  keeps_here : KeepsKeys notes (set notes number written)
  keeps_here = keeps_set notes number entry written below is same (λ k p. ap (λ (x : KnownPlace). x.key) (known k p) ∙ p)

  pub step_keeps : KeepsKeys first (set notes number written)
  step_keeps = keeps_both first notes (set notes number written) so_far keeps_here

  pub step_finds : Tells written.key key true → IsKeyNumber (set notes number written) key number
  step_finds told = record {
    there = key_at-set_same notes number entry written below is same ∙ told;
    before = passed_stay notes (set notes number written) key number keeps_here passed;
  }

  -- where the entry of this place is as before, what was placed or numbered is so still
  later : (m : ℕ) → placed_at (set notes number written) m ≡ placed_at notes m → (placed_at notes m ≡ placed_at first m) ⊎ IsKeyNumber notes key m → (placed_at (set notes number written) m ≡ placed_at first m) ⊎ IsKeyNumber (set notes number written) key m
  later m e (inl p) = inl (e ∙ p)
  later m e (inr n) = inr (number_stays notes (set notes number written) key m keeps_here n)

  pub step_places : PlacesOnly key first notes → (written.placed ≡ entry.placed) ⊎ (written.key ≡ Some key) → PlacesOnly key first (set notes number written)
  step_places before (inl still) m = later m (places_none_set notes number entry written below is same still m) (before m)
  step_places before (inr there) m =
      elim (cases_eq m number) [
        | inl e ↦ inr (subst (λ j. IsKeyNumber (set notes number written) key j) (sym e) (step_finds there))
        | inr other ↦ later m (placed_at-set_other notes number entry written below is same m other) (before m)
      ]

  pub step_passes : Tells written.key key false → PassedBefore (set notes number written) key (number + 1)
  step_passes (other, holds, differs) =
      passed_more (set notes number written) key number (passed_stay notes (set notes number written) key number keeps_here passed)
      (record { other = other; there = key_at-set_same notes number entry written below is same ∙ holds; differs = differs })

-- ---- which keys the lane itself put at places

pub places_nothing : (key : KeyValue) (notes : List KnownPlace) → PlacesOnly key notes notes
places_nothing key notes number = inl refl

pub places_both : (key : KeyValue) (a b c : List KnownPlace) → KeepsKeys b c → PlacesOnly key a b → PlacesOnly key b c → PlacesOnly key a c
places_both key a b c keeps first second number = from (first number) (second number)
  where
    from : (placed_at b number ≡ placed_at a number) ⊎ IsKeyNumber b key number → (placed_at c number ≡ placed_at b number) ⊎ IsKeyNumber c key number → (placed_at c number ≡ placed_at a number) ⊎ IsKeyNumber c key number
    from (inl p) (inl q) = inl (q ∙ p)
    from (inr n) (inl q) = inr (number_stays b c key number keeps n)
    from was (inr n) = inr n

-- ---- one number and one key

some_one : (a b : Option KeyValue) (k j : KeyValue) → a ≡ Some k → b ≡ Some j → a ≡ b → k ≡ j
some_one a b k j p q e = cc

not_none : (a : Option KeyValue) (k : KeyValue) → a ≡ Some k → a ≡ None → ⊥
not_none a k p q = absurd (cc)

pub one_key : (notes : List KnownPlace) → OneKey notes notes
one_key notes number key other p q = some_one (key_at notes number) (key_at notes number) key other p q refl

pub one_number : (notes others : List KnownPlace) → OneKey notes others → OneNumber notes others
one_number notes others agree key number second is is' =
    elim (cases_order number second) [
      | inl e ↦ e
      | inr (inl less) ↦ let o = is'.before number less in absurd (o.differs (sym (agree number key o.other is.there o.there)))
      | inr (inr less) ↦ let o = is.before second less in absurd (o.differs (agree second o.other key o.there is'.there))
    ]

-- ---- a number that was known is answered again

module _ (before after : List KnownPlace) (key : KeyValue) (number : ℕ) (keeps : KeepsKeys before after) (was : IsKeyNumber before key number) where
  still : IsKeyNumber after key number
  still = number_stays before after key number keeps was

  not_full : PassedBefore after key (length after) → ⊥
  not_full full =
      let within = key_within after number key still.there in
      let o = full number within in
      o.differs (sym (one_key after number key o.other still.there o.there))

  not_next : (next : ℕ) → IsNext after key next → ⊥
  not_next next is =
      elim (cases_order number next) [
        | inl e ↦ not_none (key_at after next) key (subst (λ j. key_at after j ≡ Some key) e still.there) is.free
        | inr (inl less) ↦ let o = is.before number less in o.differs (sym (one_key after number key o.other still.there o.there))
        | inr (inr less) ↦ let o = still.before next less in not_none (key_at after next) o.other o.there is.free
      ]

  no_fault : (why : KeyFault) → IsKeyFault after key why → ⊥
  no_fault DirectoryFull full = not_full full
  no_fault Unplaced never = never
  no_fault Memory (next, is) = not_next next is

  pub answered_again : (result : Result ℕ KeyFault) → IfOk result (IsKeyNumber after key) → IfErr result (IsKeyFault after key) → result ≡ Ok number
  answered_again (Ok second) is fault = ap (λ n. Ok n) (one_number after after (one_key after) key second number is still)
  answered_again (Err why) is fault = absurd (no_fault why fault)

pub never_refused : (notes : List KnownPlace) (key : KeyValue) (number : ℕ) (why : KeyFault) → IsKeyNumber notes key number → IsKeyFault notes key why → ⊥
never_refused notes key number why is fault = no_fault notes notes key number (keeps_all notes) is why fault

-- ---- hints

pub hints_stay : (before after : List KnownPlace) (hints : List ℕ) → KeepsKeys before after → AreHints before hints → AreHints after hints
hints_stay before after hints keeps are = All-weaker (λ hint. IsHint before hint) (λ hint. IsHint after hint) stays hints are
  where
    stays : (hint : ℕ) → IsHint before hint → IsHint after hint
    stays hint (inl none) = inl none
    stays hint (inr (key, is)) = inr (key, number_stays before after key (hint - 1) keeps is)

-- ---- entries that were lent

-- a list that was lent whole is written back whole
pub lent_back : {X : Type 0} (count : ℕ) (before after : List X) → length after ≡ count → take count (after ++ drop (length after) before) ≡ after
lent_back count before after long = take_at after (drop (length after) before) count long

-- ---- entries that know nothing

pub nothing_of_names : {X : Type 0} (name : X → ℕ) (places : List X) → map (λ place. unknown_place (name place)) places ≡ no_key_known (map name places)
nothing_of_names name [] = refl
nothing_of_names name (place ∷ places) = ap (λ l. unknown_place (name place) ∷ l) (nothing_of_names name places)

pub filled_more : {X : Type 0} (name : X → ℕ) (entries after : List KnownPlace) (places : List X) (number : ℕ) (place : X) (written : KnownPlace) → number < length places → entries ≡ map (λ place. unknown_place (name place)) (take number places) → place ≡ get_or places number place → written ≡ unknown_place (name place) → after ≡ entries ++ written ∷ [] → after ≡ map (λ place. unknown_place (name place)) (take (number + 1) places)
filled_more name entries after places number place written below so_far is new grown =
    let e : written ≡ unknown_place (name (get_or places number place)) = new ∙ ap (λ p. unknown_place (name p)) is in
    grown
    ∙ (ap (λ l. l ++ written ∷ []) so_far
    ∙ (ap (λ w. map (λ p. unknown_place (name p)) (take number places) ++ w ∷ []) e
    ∙ sym (map_more (λ p. unknown_place (name p)) places number place below)))

pub filled_all : {X : Type 0} (name : X → ℕ) (entries : List KnownPlace) (places : List X) (count : ℕ) → length places ≤ count → entries ≡ map (λ place. unknown_place (name place)) (take count places) → entries ≡ no_key_known (map name places)
filled_all name entries places count all filled = filled ∙ (ap (λ l. map (λ p. unknown_place (name p)) l) (take_all count places all) ∙ nothing_of_names name places)

pub key_places_of-nothing : (names : List ℕ) → key_places_of (no_key_known names) ≡ names
key_places_of-nothing [] = refl
key_places_of-nothing (name ∷ names) = ap (λ l. name ∷ l) (key_places_of-nothing names)
