-- The lines of some notes.
use Rattle.std.proofs.Common.{◌≡◌, ◌≤◌, ◌<◌, ◌∙◌, ℕ, List, [], ◌∷◌, ◌++◌, Option, ap, append-nil, arith, false, inl, inr, length, map, nat_lt, refl, sym, take, true}
use Rattle.std.specs.Prelude.{codes, if◌then◌else◌, min}
use Rattle.std.specs.List.{flat_map}
use Rattle.std.proofs.lemmas.Bool.{cases_Bool}
use Rattle.std.proofs.lemmas.Grind.{common_steps}
use Rattle.std.proofs.lemmas.List.{length-map, take-map, take_all}
use Rattle.ext_plan_reading.specs.Nearest.{nearest}
use Rattle.ext_races.specs.RaceLines.{line_limit}
use Rattle.ext_lint.specs.InnerLists.{note_view}
use Rattle.ext_lint.specs.NoteLines.{hint, missing_words}
use Rattle.ext_plan.specs.Plans.{PlanText}
use Rattle.ext_lint.specs.NoteJson.{note_object, notes_json, notes_object}
use Rattle.ext_lint.specs.Notes.{NoteText, crowded, notes}
use Rattle.ext_lint.specs.Said.{SaidText}
use Rattle.ext_lint.specs.declared.note.Note.{Note}

-- ---- the first of them, and whether there are more

more_shown : (count : ℕ) → line_limit < count → (if nat_lt line_limit count then codes "and more\n" else []) ≡ codes "and more\n"
more_shown count many = let more : nat_lt line_limit count ≡ true = grind (arith, common_steps, many) in rw more refl

none_shown : (count : ℕ) → count ≤ line_limit → (if nat_lt line_limit count then codes "and more\n" else []) ≡ []
none_shown count few = let none : nat_lt line_limit count ≡ false = grind (arith, common_steps, few) in rw none refl

pub first_and_more : (line : NoteText → List ℕ) (notes : List Note) → line_limit < length notes
    → flat_map line (map note_view (take line_limit notes)) ++ codes "and more\n"
    ≡ flat_map line (take line_limit (map note_view notes)) ++ (if nat_lt line_limit (length (map note_view notes)) then codes "and more\n" else [])
first_and_more line notes many =
    let same = length-map notes note_view in
    ap (λ ns. flat_map line ns ++ codes "and more\n") (sym (take-map note_view line_limit notes))
    ∙ ap (λ end. flat_map line (take line_limit (map note_view notes)) ++ end) (sym (more_shown (length (map note_view notes)) (omega (arith, same, many))))

pub first_alone : (line : NoteText → List ℕ) (notes : List Note) → length notes ≤ line_limit
    → flat_map line (map note_view notes)
    ≡ flat_map line (take line_limit (map note_view notes)) ++ (if nat_lt line_limit (length (map note_view notes)) then codes "and more\n" else [])
first_alone line notes few =
    let same = length-map notes note_view in
    let all : length (map note_view notes) ≤ line_limit = omega (arith, same, few) in
    ap (flat_map line) (sym (take_all line_limit (map note_view notes) all)) ∙ sym (append-nil (flat_map line (take line_limit (map note_view notes))))
    ∙ ap (λ end. flat_map line (take line_limit (map note_view notes)) ++ end) (sym (none_shown (length (map note_view notes)) all))

taken : {X : Type 0} (ys : List X) (count : ℕ) → count ≡ min (length ys) line_limit → take count ys ≡ take line_limit ys
taken ys count is = elim (cases_Bool (nat_lt line_limit (length ys))) [
  | inl many ↦
      let more : line_limit < length ys = grind (arith, common_steps, many) in
      let same : count ≡ line_limit = omega (arith, is, more) in
      ap (λ n. take n ys) same
  | inr few ↦
      let less : length ys ≤ line_limit = grind (arith, common_steps, few) in
      let whole : length ys ≤ count = omega (arith, is, less) in
      take_all count ys whole ∙ sym (take_all line_limit ys less)
]

pub first_taken : (notes : List Note) (count : ℕ) → count ≡ min (length notes) line_limit → map note_view (take count notes) ≡ take line_limit (map note_view notes)
first_taken notes count is =
    let same = length-map notes note_view in
    sym (take-map note_view count notes) ∙ taken (map note_view notes) count (omega (arith, is, same))

-- ---- why a text is missing

pub why_no_key : (s : SaidText) (texts names : List (List ℕ)) (near : Option (List ℕ)) → length texts ≡ 0 → near ≡ nearest names s.name
    → codes "no step stores " ++ s.name ++ hint near ≡ missing_words s texts names
why_no_key s [] names near none is = ap (λ n. codes "no step stores " ++ s.name ++ hint n) is
why_no_key s (text ∷ texts) names near none is = absurd (omega (arith, none))

pub why_no_text : (s : SaidText) (texts names : List (List ℕ)) (near : Option (List ℕ)) → (length texts ≡ 0 → ⊥) → near ≡ nearest texts s.text
    → codes "no step stores " ++ s.text ++ codes " under " ++ s.name ++ hint near ≡ missing_words s texts names
why_no_text s [] names near some is = absurd (some refl)
why_no_text s (text ∷ texts) names near some is = ap (λ n. codes "no step stores " ++ s.text ++ codes " under " ++ s.name ++ hint n) is

-- ---- the only note

-- the object of a plan whose steps name too many keys, whatever they store
pub crowded_json : (plan : PlanText) (stored : List SaidText) → notes plan ≡ crowded ∷ [] → (bytes : List ℕ) → bytes ≡ notes_json plan [] (crowded ∷ [])
    → bytes ≡ notes_json plan stored (notes plan)
unfolding notes_object note_object
crowded_json plan stored alone bytes is = is ∙ ap (notes_json plan stored) (sym alone)
