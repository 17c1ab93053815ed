-- The laws of the numbers of keys that are made during a run.
use Rattle.std.proofs.Common.{ℕ, zero, suc, ◌≡◌, ◌≢◌, ◌⊎◌, inl, inr, List, [], ◌∷◌, Some}
use Rattle.ext_tree.specs.Keys.{KeyValue, KnownPlace, IsKeyFault, IsKeyNumber, OneKey, key_at, no_key_known, placed_at}
use Rattle.ext_tree.specs.KeyPlaceLaws.{KeyNumbersTell, PlacingTells, SharedNotesAgree}
use Rattle.ext_tree.specs.declared.key_fault.KeyFault.{KeyFault}
use Rattle.ext_tree.proofs.KeyPlacing.{key_within, never_refused, number_stays, one_key, one_number}

nothing_at : (places : List ℕ) (key : KeyValue) (number : ℕ) → key_at (no_key_known places) number ≡ Some key → ⊥
nothing_at [] key number known = absurd (cc)
nothing_at (place ∷ places) key zero known = absurd (cc)
nothing_at (place ∷ places) key (suc number) known = nothing_at places key number known

pub key_numbers_tell : KeyNumbersTell
key_numbers_tell = record {
  one_number = λ notes key number second is is'. one_number notes notes (one_key notes) key number second is is';
  one_key = λ notes key other number is is'. one_key notes number key other is.there is'.there;
  within = λ notes key number is. key_within notes number key is.there;
  stays = number_stays;
  not_refused = never_refused;
  none_at_first = λ places key number is. nothing_at places key number is.there;
}

pub shared_notes_agree : SharedNotesAgree
shared_notes_agree first second whole keeps keeps' =
    let agree : OneKey first second = λ number key other known known'. one_key whole number key other (keeps.keys number key known) (keeps'.keys number other known') in
    (one_number first second agree, agree)

-- what a call set is the key's number
numbered : (before after : List KnownPlace) (key : KeyValue) (number : ℕ) → (placed_at after number ≡ placed_at before number) ⊎ IsKeyNumber after key number → placed_at after number ≢ placed_at before number → IsKeyNumber after key number
numbered before after key number (inl same) changed = absurd (changed same)
numbered before after key number (inr is) changed = is

unchanged : (before after : List KnownPlace) (key : KeyValue) (why : KeyFault) (number : ℕ) → IsKeyFault after key why → (placed_at after number ≡ placed_at before number) ⊎ IsKeyNumber after key number → placed_at after number ≡ placed_at before number
unchanged before after key why number fault (inl same) = same
unchanged before after key why number fault (inr is) = absurd (never_refused after key number why is fault)

pub placing_tells : PlacingTells
placing_tells = record {
  one_place = λ before after key number second only changed changed'. one_number after after (one_key after) key number second (numbered before after key number (only number) changed) (numbered before after key second (only second) changed');
  none_refused = λ before after key why only fault number. unchanged before after key why number fault (only number);
}
