-- Two lanes' notes of places for keys, compared entry by entry: the second learns what the first knows.
use Rattle.std.proofs.Common.{ℕ, ◌≡◌, ◌+◌, ◌<◌, ◌≤◌, ◌∙◌, List, Option, Some, None, IfSome, length, get_or, set, sym, ap, arith, below_more}
use Rattle.std.proofs.Math.ListN.{get_or-map}
use Rattle.std.proofs.lemmas.List.{get_or_default, length-map, set-get_or}
use Rattle.once_cell.specs.Once.{Agrees}
use Rattle.ext_tree.specs.Keys.{KeyValue, KnownPlace, AgreeBelow, KeepsKeys, OneKey, PlacesNone, key_at, key_places_of}
use Rattle.ext_tree.proofs.KeyPlacing.{key_at-entry, key_at-set_other, key_at-set_same, key_within, keeps_both, keeps_set, places_none_set}

-- the notes hold one key at this number, where both know one
abbrev pub AgreeAt : List KnownPlace → List KnownPlace → ℕ → Type 0
AgreeAt notes others number = (key other : KeyValue) → key_at notes number ≡ Some key → key_at others number ≡ Some other → key ≡ other

-- the second notes know the key of this number, where the first do
abbrev pub TaughtAt : List KnownPlace → List KnownPlace → ℕ → Type 0
TaughtAt notes others number = (key : KeyValue) → key_at notes number ≡ Some key → key_at others number ≡ Some key

one_value : (a b : Option KeyValue) → IfSome b (Agrees a) → (key other : KeyValue) → a ≡ Some key → b ≡ Some other → key ≡ other
one_value None b told key other p q = absurd (cc)
one_value (Some u) None told key other p q = absurd (cc)
one_value (Some u) (Some v) told key other p q = let s : u ≡ key = cc in let t : v ≡ other = cc in sym s ∙ (told ∙ t)

pub agree_everywhere : (notes others : List KnownPlace) → AgreeBelow notes others (length notes) → OneKey notes others
agree_everywhere notes others agree number key other known known' = agree number (key_within notes number key known) key other known known'

-- an entry that is written back as it was changes nothing
pub written_back : (entries notes : List KnownPlace) (index : ℕ) (entry written : KnownPlace) → entries ≡ notes → entry ≡ get_or entries index entry → written ≡ entry → set entries index written ≡ notes
written_back entries notes index entry written view is same = ap (λ x. set entries index x) (same ∙ is) ∙ (set-get_or entries index entry ∙ view)

-- two lists of entries of the same places
pub same_place : (entries others : List KnownPlace) (index : ℕ) (entry other : KnownPlace) → key_places_of entries ≡ key_places_of others → index < length entries → entry ≡ get_or entries index entry → other ≡ get_or others index other → entry.place ≡ other.place
same_place entries others index entry other places below is is' =
    let e = length-map entries (λ (x : KnownPlace). x.place) in
    let a : get_or (key_places_of entries) index entry.place ≡ entry.place = get_or-map (λ (x : KnownPlace). x.place) entries index entry ∙ ap (λ (x : KnownPlace). x.place) (sym is) in
    let b : get_or (key_places_of others) index other.place ≡ other.place = get_or-map (λ (x : KnownPlace). x.place) others index other ∙ ap (λ (x : KnownPlace). x.place) (sym is') in
    let there : index < length (key_places_of entries) = omega (arith, e, below) in
    sym a ∙ (get_or_default (key_places_of entries) index entry.place other.place there ∙ (ap (λ l. get_or l index other.place) places ∙ b))

-- how it stands when so many entries were compared: the first notes are as they were, the second have learnt what the first know of these places
pub record Compared (entries first others second : List KnownPlace) (count : ℕ) : Type 0 where
  pub notes : entries ≡ first
  pub kept : KeepsKeys second others
  pub agree : AgreeBelow first second count
  pub taught : (number : ℕ) → number < count → TaughtAt first others number
  pub placed : PlacesNone second others
  pub rest : (number : ℕ) → count ≤ number → key_at others number ≡ key_at second number

-- one entry more
module _ (entries first others second : List KnownPlace) (index : ℕ) (so_far : Compared entries first others second index) (places : key_places_of first ≡ key_places_of second) (below : index < length entries)
    (entry other : KnownPlace) (is : entry ≡ get_or entries index entry) (is' : other ≡ get_or others index other) where
  same_length : length entries ≡ length others
  same_length =
      let a = length-map entries (λ (x : KnownPlace). x.place) in
      let b = length-map others (λ (x : KnownPlace). x.place) in
      let e = ap length (ap (λ l. key_places_of l) so_far.notes ∙ (places ∙ sym so_far.kept.places)) in omega (arith, a, b, e)

  pub same_place_so_far : entry.place ≡ other.place
  same_place_so_far = same_place entries others index entry other (ap (λ l. key_places_of l) so_far.notes ∙ (places ∙ sym so_far.kept.places)) below is is'

  below' : index < length others
  below' = let e = same_length in omega (arith, below, e)

  known_first : (key : KeyValue) → key_at first index ≡ Some key → entry.key ≡ Some key
  known_first key known = sym (key_at-entry entries index entry below is) ∙ (ap (λ l. key_at l index) so_far.notes ∙ known)

  known_second : (key : KeyValue) → key_at second index ≡ Some key → other.key ≡ Some key
  known_second key known = sym (key_at-entry others index other below' is') ∙ (so_far.rest index (omega arith) ∙ known)

  pub compared_more : (written learnt : KnownPlace) → IfSome other.key (Agrees entry.key) → written ≡ entry → learnt.place ≡ other.place → ((key : KeyValue) → other.key ≡ Some key → learnt.key ≡ Some key) → ((key : KeyValue) → entry.key ≡ Some key → learnt.key ≡ Some key) → learnt.placed ≡ other.placed → Compared (set entries index written) first (set others index learnt) second (index + 1)
  compared_more written learnt told same place kept taught placed = record {
    notes = written_back entries first index entry written so_far.notes is same;
    kept = keeps_both second others (set others index learnt) so_far.kept (keeps_set others index other learnt below' is' place kept);
    agree = below_more (AgreeAt first second) index so_far.agree (λ key second_key known known'. one_value entry.key other.key told key second_key (known_first key known) (known_second second_key known'));
    placed = λ number. places_none_set others index other learnt below' is' place placed number ∙ so_far.placed number;
    taught = below_more (TaughtAt first (set others index learnt)) index earlier here;
    rest = λ number past. key_at-set_other others index other learnt below' is' place number (λ e. omega (arith, e, past)) ∙ so_far.rest number (omega (arith, past));
  }
    where
      earlier : (number : ℕ) → number < index → TaughtAt first (set others index learnt) number
      earlier number less key known = key_at-set_other others index other learnt below' is' place number (λ e. omega (arith, e, less)) ∙ so_far.taught number less key known

      here : TaughtAt first (set others index learnt) index
      here key known = key_at-set_same others index other learnt below' is' place ∙ taught key (known_first key known)

pub compared_all : (entries first others second : List KnownPlace) (count : ℕ) → length first ≤ count → key_places_of first ≡ key_places_of second → Compared entries first others second count → KeepsKeys first others
compared_all entries first others second count all places done = record {
  places = done.kept.places ∙ sym places;
  keys = λ number key known. let within = key_within first number key known in done.taught number (omega (arith, within, all)) key known;
}
