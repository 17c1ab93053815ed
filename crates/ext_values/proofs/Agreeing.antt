-- Two lanes' notes, compared entry by entry.
use Rattle.std.proofs.Common.{ℕ, zero, suc, ◌≡◌, ◌+◌, ◌<◌, ◌≤◌, ◌∙◌, List, Option, Some, None, IfSome, length, get_or, set, sym, ap, arith, below_more}
use Rattle.std.proofs.Math.ListN.{get_or-map}
use Rattle.std.proofs.lemmas.List.{get_or_default, length-map, set-get_or}
use Rattle.once_cell.specs.Once.{Agrees}
use Rattle.ext_values.specs.Known.{Known, AllAgree, known_at, slots_of}
use Rattle.ext_values.proofs.Learning.{known_at-entry}
use Rattle.ext_values.proofs.NotesLaws.{known_within}

-- the notes agree on the number after this index
abbrev pub AgreeAt : {V : Type 0} → List (Known V) → List (Known V) → ℕ → Type 0
AgreeAt {V} notes others index = (value second : V) → known_at notes (suc index) ≡ Some value → known_at others (suc index) ≡ Some second → value ≡ second

-- the notes agree on the first numbers, so many of them
abbrev pub AgreeBelow : {V : Type 0} → ℕ → List (Known V) → List (Known V) → Type 0
AgreeBelow count notes others = (index : ℕ) → index < count → AgreeAt notes others index

module _ {V : Type 0} where
  one_value : (a b : Option V) → IfSome b (Agrees a) → (value second : V) → a ≡ Some value → b ≡ Some second → value ≡ second
  one_value None b told value second p q = absurd (cc)
  one_value (Some u) None told value second p q = absurd (cc)
  one_value (Some u) (Some v) told value second p q = let s : u ≡ value = cc in let t : v ≡ second = cc in sym s ∙ (told ∙ t)

  pub agree_all : (count : ℕ) (notes others : List (Known V)) → length notes ≤ count → AgreeBelow count notes others → AllAgree notes others
  agree_all count notes others all agree zero value second known known' = absurd (cc)
  agree_all count notes others all agree (suc index) value second known known' =
      let within = (known_within notes (suc index) value known).1 in
      let e = length-map notes (λ (x : Known V). x.slot) in agree index (omega arith) value second known known'

  -- an entry that is written back as it was changes nothing
  pub written_back : (entries notes : List (Known V)) (index : ℕ) (entry written : Known V) → entries ≡ notes → entry ≡ get_or entries index entry → written ≡ entry → set entries index written ≡ notes
  written_back entries notes index entry written view is same = ap (λ x. set entries index x) (same ∙ is) ∙ (set-get_or entries index entry ∙ view)

-- the entries of two lanes' notes, of the same slots, at one index
module _ {V : Type 0} (entries notes : List (Known V)) (view : entries ≡ notes) (entries' others : List (Known V)) (view' : entries' ≡ others) (slots : slots_of notes ≡ slots_of others) (index : ℕ) (below : index < length entries)
    (entry other : Known V) (is : entry ≡ get_or entries index entry) (is' : other ≡ get_or entries' index other) where
  same_slots : slots_of entries ≡ slots_of entries'
  same_slots = ap (λ l. slots_of l) view ∙ (slots ∙ sym (ap (λ l. slots_of l) view'))

  pub same_slot : entry.slot ≡ other.slot
  same_slot =
      let e = length-map entries (λ (x : Known V). x.slot) in
      let a : get_or (slots_of entries) index entry.slot ≡ entry.slot = get_or-map (λ (x : Known V). x.slot) entries index entry ∙ ap (λ (x : Known V). x.slot) (sym is) in
      let b : get_or (slots_of entries') index other.slot ≡ other.slot = get_or-map (λ (x : Known V). x.slot) entries' index other ∙ ap (λ (x : Known V). x.slot) (sym is') in
      let there : index < length (slots_of entries) = omega arith in
      sym a ∙ (get_or_default (slots_of entries) index entry.slot other.slot there ∙ (ap (λ l. get_or l index other.slot) same_slots ∙ b))

  below' : index < length entries'
  below' =
      let a = length-map entries (λ (x : Known V). x.slot) in
      let b = length-map entries' (λ (x : Known V). x.slot) in
      let e = ap length same_slots in omega arith

  pub agree_more : IfSome other.value (Agrees entry.value) → AgreeBelow index notes others → AgreeBelow (index + 1) notes others
  agree_more told agree = below_more (AgreeAt notes others) index agree here
    where
      here : AgreeAt notes others index
      here value second known known' =
          one_value entry.value other.value told value second
          (sym (known_at-entry entries index entry below is) ∙ (ap (λ l. known_at l (suc index)) view ∙ known))
          (sym (known_at-entry entries' index other below' is') ∙ (ap (λ l. known_at l (suc index)) view' ∙ known'))
