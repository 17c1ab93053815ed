-- What stands at a place where the same stands in both runs, by numbers; and what stores a value there.
use Rattle.std.proofs.Common.{◌≡◌, ℕ, List, Option, None, Some, ap, sym, subst, ◌∙◌}
use Rattle.ext_model.specs.declared.event.Act.{Act}
use Rattle.ext_model.specs.declared.event.Act.TheVariants.{Keep, Put, Remove, Claim, Fill, Fail, Abandon, Seal}
use Rattle.ext_model.specs.declared.slot.Slot.{Slot}
use Rattle.ext_model.specs.Events.{place_of}
use Rattle.ext_plan.specs.Values.{ValueText}
use Rattle.ext_one_report.proofs.MatchingWords.{RunView, TextMeaning}
use Rattle.ext_one_report.proofs.OfPlan.{value_in}
use Rattle.ext_one_report.proofs.Open.{Computes, Given, Stands, of_value}
use Rattle.ext_one_report.proofs.OrdersHistory.{value_stored}
use Rattle.ext_one_report.proofs.Standings.{Holds, holds}
use Rattle.ext_one_report.proofs.StandingsWords.{AreMatched, Standing, fault, nothing, sealed, value}

one_number : (x : Option Slot) (n a : ℕ) → value_in x ≡ Some n → value_in x ≡ Some a → n ≡ a
one_number x n a is also = let both : Some n ≡ Some a = sym is ∙ also in cc both

one_value : (found : Option ValueText) (v w : ValueText) → found ≡ Some v → found ≡ Some w → v ≡ w
one_value found v w is also = let both : Some v ≡ Some w = sym is ∙ also in cc both

-- two numbers of one value
same_value : (ours theirs : TextMeaning) (x y : Option Slot) (w v : ValueText) (n m a b : ℕ) → value_in x ≡ Some n → value_in y ≡ Some m → ours.values n ≡ Some w → theirs.values m ≡ Some w → value_in x ≡ Some a → value_in y ≡ Some b
    → ours.values a ≡ Some v → theirs.values b ≡ Some v
same_value ours theirs x y w v n m a b here there means also first second is =
    let one = one_number x n a here first in
    let other = one_number y m b there second in
    let same = one_value (ours.values a) w v (subst (λ k. ours.values k ≡ Some w) one means) is in
    subst (λ z. theirs.values b ≡ Some z) same (subst (λ k. theirs.values k ≡ Some w) other also)

matched_by : (ours theirs : TextMeaning) (x y : Option Slot) (a b : ℕ) (v : ValueText) (s : Standing ValueText (List ℕ)) → Holds ours s x → Holds theirs s y → value_in x ≡ Some a → value_in y ≡ Some b → ours.values a ≡ Some v
    → theirs.values b ≡ Some v
matched_by ours theirs x y a b v nothing here there first second is = absurd (cc (sym (ap value_in here) ∙ first))
matched_by ours theirs x y a b v (value w) here there first second is =
    same_value ours theirs x y w v here.0 there.0 a b (ap value_in here.1) (ap value_in there.1) here.2 there.2 first second is
matched_by ours theirs x y a b v (fault f) here there first second is = absurd (cc (sym (ap value_in here.1) ∙ first))
matched_by ours theirs x y a b v (sealed None) here there first second is = absurd (cc (sym (ap value_in here) ∙ first))
matched_by ours theirs x y a b v (sealed (Some w)) here there first second is =
    same_value ours theirs x y w v here.0 there.0 a b (ap value_in here.1) (ap value_in there.1) here.2 there.2 first second is

-- so a number of the plain run stands for what that of the lanes does
pub matched_value : (ours theirs : TextMeaning) (x y : Option Slot) (a b : ℕ) (v : ValueText) → AreMatched ours theirs x y → value_in x ≡ Some a → value_in y ≡ Some b → ours.values a ≡ Some v → theirs.values b ≡ Some v
matched_value ours theirs x y a b v matched first second is =
    matched_by ours theirs x y a b v matched.standing (holds ours x matched.standing matched.here) (holds theirs y matched.standing matched.there) first second is

-- a value that stands is that of its number
pub stands_value : (meaning : TextMeaning) (x : Option Slot) (a : ℕ) (v w : ValueText) → Stands meaning (of_value w) x → value_in x ≡ Some a → meaning.values a ≡ Some v → w ≡ v
stands_value meaning x a v w stands is means =
    one_value (meaning.values a) w v (subst (λ k. meaning.values k ≡ Some w) (one_number x stands.number a (ap value_in stands.there) is) stands.means) means

pub stands_means : (meaning : TextMeaning) (x : Option Slot) (a : ℕ) (w : ValueText) → Stands meaning (of_value w) x → value_in x ≡ Some a → meaning.values a ≡ Some w
stands_means meaning x a w stands is = subst (λ k. meaning.values k ≡ Some w) (one_number x stands.number a (ap value_in stands.there) is) stands.means

-- what computes a value and stores a number fills it in
pub fills_in : (run : RunView) (v : Given) (act : Act ℕ) (cell a : ℕ) → Computes run v act → value_stored act ≡ Some a → place_of act ≡ Some cell → act ≡ Fill cell a
fills_in run v (Keep number) cell a computes stores on = absurd computes
fills_in run v (Put at number) cell a computes stores on = absurd computes
fills_in run v (Remove at) cell a computes stores on = absurd computes
fills_in run v (Claim at) cell a computes stores on = absurd (cc stores)
fills_in run v (Fill at number) cell a computes stores on =
    let number_is : number ≡ a = cc stores in
    let at_is : at ≡ cell = cc on in
    λ i. Fill (at_is i) (number_is i)
fills_in run v (Fail at number) cell a computes stores on = absurd (cc stores)
fills_in run v (Abandon at) cell a computes stores on = absurd (cc stores)
fills_in run v (Seal at) cell a computes stores on = absurd computes
