-- Touches and races that are equal by their tests are one.
use Rattle.std.proofs.Common.{◌≡◌, ℕ, Bool, true, false, refl, rules}
use Rattle.std.specs.Prelude.{◌==◌, ◌&&◌}
use Rattle.std.specs.Cmp.{booleans_Decides}
use Rattle.std.specs.Cmp.Lexicographic.{bytes_decides}
use Rattle.std.proofs.lemmas.Bool.Decides.{Decides-eqb}
use denote.Enum.Bare.{same_true, true_same}
use Rattle.ext_plan.specs.contracts.word.Word.{the_type}
use Rattle.ext_plan.specs.declared.word.Word.{Word}
use Rattle.ext_plan.specs.StepWords.{word_eq}
use Rattle.ext_races.specs.declared.race.Race.{Race}
use Rattle.ext_races.specs.declared.race.Side.{Side}
use Rattle.ext_races.specs.InnerListed.{race_eq, side_eq, touch_eq}
use Rattle.ext_races.specs.Touches.{TouchText}

pub both : (a b : Bool) → (a && b) ≡ true → (a ≡ true) × (b ≡ true)
both true true h = (refl, refl)
both true false h = absurd cc
both false b h = absurd cc

pub equal : (a b : ℕ) → (a == b) ≡ true → a ≡ b
equal a b = (Decides-eqb a b).0

pub word_is : (a b : Word) → word_eq a b ≡ true → a ≡ b
word_is = same_true the_type (search rules)

pub touch_is : (t u : TouchText) → touch_eq t u ≡ true → t ≡ u
touch_is t u h =
    let h6 = both _ _ h in
    let h5 = both _ _ h6.0 in
    let h4 = both _ _ h5.0 in
    let h3 = both _ _ h4.0 in
    let h2 = both _ _ h3.0 in
    let h1 = both _ _ h2.0 in
    let node = equal t.node u.node h1.0 in
    let context = equal t.context u.context h1.1 in
    let key = equal t.key u.key h2.1 in
    let word = word_is t.word u.word h3.1 in
    let changes = (booleans_Decides t.changes u.changes).0 h4.1 in
    let acts = word_is t.acts u.acts h5.1 in
    let text = (bytes_decides t.text u.text).0 h6.1 in
    λ i. record { node = node i; context = context i; key = key i; word = word i; changes = changes i; acts = acts i; text = text i }

side_is : (a b : Side) → side_eq a b ≡ true → a ≡ b
side_is a b h =
    let h2 = both _ _ h in
    let h1 = both _ _ h2.0 in
    let node = equal a.node b.node h1.0 in
    let word = word_is a.word b.word h1.1 in
    let key = equal a.key b.key h2.1 in
    λ i. record { node = node i; word = word i; key = key i }

pub race_is : (a b : Race) → race_eq a b ≡ true → a ≡ b
race_is a b h =
    let h2 = both _ _ h in
    let h1 = both _ _ h2.0 in
    let first = side_is a.first b.first h1.0 in
    let second = side_is a.second b.second h1.1 in
    let context = equal a.context b.context h2.1 in
    λ i. record { first = first i; second = second i; context = context i }

pub both_true : (a b : Bool) → a ≡ true → b ≡ true → (a && b) ≡ true
both_true a b p q = rw p q

same : (a : ℕ) → (a == a) ≡ true
same a = (Decides-eqb a a).1 refl

side_same : (a : Side) → side_eq a a ≡ true
side_same a = both_true _ _ (both_true _ _ (same a.node) (true_same the_type a.word a.word refl)) (same a.key)

pub race_same : (a : Race) → race_eq a a ≡ true
race_same a = both_true _ _ (both_true _ _ (side_same a.first) (side_same a.second)) (same a.context)
